-- The lines of a text have the tokens of their part of a program.
use Rattle.std.proofs.Common.{ℕ, ◌<◌, ◌^◌, List, [], ◌∷◌, ◌++◌, true, false, Bool, Some, None, refl, arith, lit<}
use Rattle.std.specs.Prelude.{codes}
use Rattle.std.specs.List.{All}
use Rattle.dt_values.specs.Names.{IsName}
use Rattle.dt_values.specs.declared.ctype.Member.{Member}
use Rattle.dt_values.specs.declared.width.Width.{Width}
use Rattle.dt_values.specs.declared.width.Width.TheVariants.{W16, W32, W64}
use Rattle.dt_values.specs.declared.set.SetDef.{SetDef}
use Rattle.dt_text.specs.Hexadecimal.{hex}
use Rattle.c_tokens.specs.Bytes.{IsWord}
use Rattle.c_tokens.specs.Tokens.{word, mark, read}
use Rattle.c_tokens.specs.Marks as marks
use Rattle.c_tokens.specs.Words.{hex_length}
use Rattle.c_subset.specs.Programs.{Name, Pattern, Extraction, Prefix, extract, call, word_type, first_parameter}
use Rattle.c_subset.specs.Programs.{static_spelled, prototype_spelled, member_spelled, set_spelled, pattern_spelled}
use Rattle.c_subset.specs.Programs.{extract_head_spelled, extract_spelled, if_spelled, stmt_spelled}
use Rattle.c_subset.specs.Programs.{union_set_spelled, union_spelled, decoder_head_spelled, decoder_end_spelled}
use Rattle.c_subset.specs.Programs.{switch_spelled, case_spelled, break_spelled, context_parameter}
use Rattle.c_subset.specs.Programs.{load_bytes_spelled, return_insn_spelled}
use Rattle.c_exprs.specs.Exprs.{Assignment}
use Rattle.c_exprs.specs.Forms.{AssignmentKeeps}
use Rattle.c_exprs.specs.Spelling.{assignment_spelled}
use Rattle.c_subset.specs.Keeps.{IsTypeKept, SetKeeps, PatternNamed, ExtractionKeeps}
use Rattle.c_tokens.proofs.Lexing.{Lexes, line_lexes, lexes_none, lexes_append, lexes_each}
use Rattle.c_tokens.proofs.Seeing.{see}
use Rattle.c_tokens.proofs.WordBytes.{hex_word_is, decimal_word_is, name_is_word, underscore}
use Rattle.c_subset.proofs.Words.{type_name_is_word, word_type_is}
use Rattle.c_print.proofs.ExprTokens as fields
use Rattle.c_print.specs.Lines.{static_text, head_line, set_head_line, member_line, set_end_line, typedef_line}
use Rattle.c_print.specs.Lines.{prototype_line, close_line, extraction_head_line, assignment_line, empty_line}
use Rattle.c_print.specs.Lines.{head_of_decoder, union_head_line, union_set_line, union_end_lines, mark_line}
use Rattle.c_print.specs.Lines.{extract_line, call_line, if_line, switch_line, case_line, break_line, end_lines}
use Rattle.c_print.specs.Lines.{head_of_load, load_line, return_line}
use Rattle.c_print.specs.Printed.{set_text, pattern_text, extraction_text, decoder_head_text, union_text}

pub extract_is_word : IsWord (codes "_extract_")
extract_is_word = record { some = lit< tt; letters = refl }

pub hex_of_width : (w : Width) (n : ℕ) → IsWord (hex (hex_length w) n)
hex_of_width W16 n = hex_word_is 4 n (omega arith)
hex_of_width W32 n = hex_word_is 8 n (omega arith)
hex_of_width W64 n = hex_word_is 16 n (omega arith)

pub static_lexes : (is_static : Bool) → Lexes (static_text is_static) (static_spelled is_static)
unfolding see read
static_lexes true = line_lexes _ _ (tt, tt) refl
static_lexes false = lexes_none

pub head_lexes : Lexes head_line []
unfolding see read
head_lexes = line_lexes _ _ (tt, tt) refl

pub set_head_lexes : Lexes set_head_line (word (codes "typedef") ∷ word (codes "struct") ∷ marks.open_brace ∷ [])
unfolding see read
set_head_lexes = line_lexes _ _ (tt, tt) refl

-- the name and the type of an argument
pub record MemberNamed (m : Member) : Type 0 where
  pub name : IsName m.name
  pub type : IsTypeKept m.ctype

pub member_lexes : (m : Member) → MemberNamed m → Lexes (member_line m) (member_spelled m)
unfolding see read
member_lexes m h = line_lexes _ _
    (tt, (type_name_is_word m.ctype h.type, (tt, (name_is_word m.name h.name, (tt, tt))))) refl

pub set_end_lexes : (s : Name) → IsName s → Lexes (set_end_line s) (marks.close_brace ∷ marks.arg_ s ∷ marks.semicolon ∷ [])
unfolding see read
set_end_lexes s h = line_lexes _ _ (tt, (name_is_word s h, (tt, tt))) refl

pub set_lexes : (s : SetDef) → SetKeeps s → Lexes (set_text s) (set_spelled s)
set_lexes s h =
    let members : All MemberNamed s.members =
    λ k d below. record { name = h.arguments_named k d below; type = h.types k d below } in
    lexes_append set_head_lexes (lexes_append
    (lexes_each MemberNamed member_line member_spelled member_lexes s.members members)
    (set_end_lexes s.name h.named))

pub typedef_lexes : (p : Pattern) → PatternNamed p
    → Lexes (typedef_line p) (word (codes "typedef") ∷ marks.arg_ p.set ∷ marks.arg_ p.name ∷ marks.semicolon ∷ [])
unfolding see read
typedef_lexes p h = line_lexes _ _ (tt, (name_is_word p.set h.set, (tt, (name_is_word p.name h.name, (tt, tt))))) refl

pub prototype_lexes : (prefix n : Name) → IsName prefix → IsName n
    → Lexes (prototype_line prefix n) (prototype_spelled prefix n)
unfolding see read
prototype_lexes prefix n h k =
    let w = name_is_word n k in
    line_lexes _ _ (tt, (name_is_word prefix h, (underscore, (w, (tt, (w, (tt, tt))))))) refl

pub pattern_lexes : (prefix : Prefix) (p : Pattern) → IsName prefix.name → PatternNamed p
    → Lexes (pattern_text prefix p) (pattern_spelled prefix p)
pattern_lexes prefix p h k = lexes_append (typedef_lexes p k)
    (lexes_append (static_lexes prefix.is_static) (prototype_lexes prefix.name p.name h k.name))

pub close_line_lexes : (level : ℕ) → Lexes (close_line level) (mark 125 ∷ [])
unfolding see read
close_line_lexes level = line_lexes _ _ (tt, (tt, tt)) refl

pub extraction_head_lexes : (w : Width) (decoder format set : Name) → IsName decoder → IsName format → IsName set
    → Lexes (extraction_head_line w decoder format set) (extract_head_spelled w decoder format set)
unfolding see read
extraction_head_lexes w decoder format set h k l =
    line_lexes _ _ (
      tt,
      (
        name_is_word decoder h,
        (extract_is_word, (name_is_word format k, (tt, (name_is_word set l, (tt, (word_type_is w, (tt, tt))))))),
      ),
    ) refl

pub assignment_lexes : (w : Width) (a : Assignment) → AssignmentKeeps a
    → Lexes (assignment_line w 4 None a) (assignment_spelled w a)
assignment_lexes w a k = fields.assignment_lexes w 4 None a.argument a.value k.value.names k.argument

pub extraction_lexes : (w : Width) (decoder : Name) (e : Extraction) → IsName decoder → ExtractionKeeps e
    → Lexes (extraction_text w decoder e) (extract_spelled w decoder e)
extraction_lexes w decoder e h k =
    lexes_append (extraction_head_lexes w decoder e.format e.set h k.format k.set)
    (lexes_append (lexes_each AssignmentKeeps (assignment_line w 4 None) (assignment_spelled w)
    (assignment_lexes w) e.assigns k.assigns) (close_line_lexes 0))

pub empty_lexes : Lexes empty_line []
unfolding see read
empty_lexes = line_lexes _ _ (tt, tt) refl

pub decoder_lexes : (w : Width) (decoder : Name) → IsName decoder
    → Lexes (head_of_decoder w decoder)
    (word (codes "bool") ∷ word decoder ∷ first_parameter
    (word (word_type w) ∷ word (codes "insn") ∷ marks.close_round ∷ marks.open_brace ∷ []))
unfolding see read
decoder_lexes w decoder h = line_lexes _ _ (tt, (name_is_word decoder h, (tt, (word_type_is w, (tt, tt))))) refl

pub decoder_head_lexes : (w : Width) (decoder : Name) (is_static : Bool) → IsName decoder
    → Lexes (decoder_head_text w decoder is_static) (decoder_head_spelled w decoder is_static)
decoder_head_lexes w decoder is_static h =
    lexes_append empty_lexes (lexes_append (static_lexes is_static) (decoder_lexes w decoder h))

pub union_head_lexes : Lexes union_head_line (word (codes "union") ∷ marks.open_brace ∷ [])
unfolding see read
union_head_lexes = line_lexes _ _ (tt, tt) refl

pub union_set_lexes : (s : Name) → IsName s → Lexes (union_set_line s) (union_set_spelled s)
unfolding see read
union_set_lexes s h = let w = name_is_word s h in line_lexes _ _ (tt, (w, (tt, (w, (tt, tt))))) refl

pub union_end_lexes : Lexes union_end_lines (marks.close_brace ∷ word (codes "u") ∷ marks.semicolon ∷ [])
unfolding see read
union_end_lexes = line_lexes _ _ (tt, tt) refl

pub union_lexes : (ps : List Pattern) (sets : List Name) → All IsName sets
    → Lexes (union_text ps sets) (union_spelled ps sets)
union_lexes [] sets h = lexes_none
union_lexes (p ∷ ps) sets h = lexes_append union_head_lexes
    (lexes_append (lexes_each IsName union_set_line union_set_spelled union_set_lexes sets h) union_end_lexes)

pub mark_lexes : (level file line : ℕ) → file < 2 ^ 64 → line < 2 ^ 64 → Lexes (mark_line level file line) []
unfolding see read
mark_lexes level file line h k = line_lexes _ _
    (tt, (tt, (decimal_word_is file h, (tt, (decimal_word_is line k, (tt, tt)))))) refl

pub extract_line_lexes : (w : Width) (level : ℕ) (decoder prefix format set : Name) → IsName decoder → IsName format
    → IsName set → Lexes (extract_line level decoder format set) (stmt_spelled w decoder prefix (extract format set))
unfolding see read
extract_line_lexes w level decoder prefix format set h k l =
    line_lexes _ _ (
      tt,
      (
        name_is_word decoder h,
        (extract_is_word, (name_is_word format k, (tt, (name_is_word set l, (tt, tt))))),
      ),
    ) refl

pub call_line_lexes : (w : Width) (level : ℕ) (decoder prefix n set : Name) → IsName prefix → IsName n → IsName set
    → Lexes (call_line level prefix n set) (stmt_spelled w decoder prefix (call n set))
unfolding see read
call_line_lexes w level decoder prefix n set h k l =
    line_lexes _ _ (
      tt,
      (
        tt,
        (
          name_is_word prefix h,
          (underscore, (name_is_word n k, (tt, (name_is_word set l, (tt, tt))))),
        ),
      ),
    ) refl

pub if_line_lexes : (w : Width) (level mask value : ℕ)
    → Lexes (if_line (hex_length w) level mask value) (if_spelled w mask value)
unfolding see read
if_line_lexes w level mask value =
    line_lexes _ _ (tt, (tt, (hex_of_width w mask, (tt, (hex_of_width w value, (tt, tt)))))) refl

pub end_lexes : Lexes end_lines decoder_end_spelled
unfolding see read
end_lexes = line_lexes _ _ (tt, tt) refl

pub switch_line_lexes : (w : Width) (level mask : ℕ) → Lexes (switch_line (hex_length w) level mask) (switch_spelled w mask)
unfolding see read
switch_line_lexes w level mask = line_lexes _ _ (tt, (tt, (hex_of_width w mask, (tt, tt)))) refl

pub case_line_lexes : (w : Width) (level value : ℕ) → Lexes (case_line (hex_length w) level value) (case_spelled w value)
unfolding see read
case_line_lexes w level value = line_lexes _ _ (tt, (tt, (hex_of_width w value, (tt, tt)))) refl

pub break_line_lexes : (level : ℕ) → Lexes (break_line level) break_spelled
unfolding see read
break_line_lexes level = line_lexes _ _ (tt, (tt, tt)) refl

-- of the load function
pub load_is_word : IsWord (codes "_load")
load_is_word = record { some = lit< tt; letters = refl }

pub load_bytes_is_word : IsWord (codes "_load_bytes")
load_bytes_is_word = record { some = lit< tt; letters = refl }

pub load_head_lexes : (w : Width) (decoder : Name) → IsName decoder
    → Lexes (head_of_load w decoder)
    (word (word_type w) ∷ word (decoder ++ codes "_load") ∷ context_parameter (marks.close_round ∷ marks.open_brace
    ∷ word (word_type w) ∷ word (codes "insn") ∷ marks.equals ∷ word (codes "0") ∷ marks.semicolon ∷ []))
unfolding see read
load_head_lexes w decoder h = line_lexes _ _
    (word_type_is w, (tt, (name_is_word decoder h, (load_is_word, (tt, (word_type_is w, (tt, tt))))))) refl

pub load_line_lexes : (level : ℕ) (decoder : Name) (from to : ℕ) → IsName decoder → from < 2 ^ 64 → to < 2 ^ 64
    → Lexes (load_line level decoder from to) (load_bytes_spelled decoder (Some (from, to)))
unfolding see read
load_line_lexes level decoder from to h k l = line_lexes _ _ (
  tt,
  (
    tt,
    (
      name_is_word decoder h,
      (
        load_bytes_is_word,
        (
          tt,
          (
            decimal_word_is from k,
            (tt, (decimal_word_is to l, (tt, tt))),
          ),
        ),
      ),
    ),
  ),
) refl

pub return_line_lexes : (level : ℕ) → Lexes (return_line level) return_insn_spelled
unfolding see read
return_line_lexes level = line_lexes _ _ (tt, (tt, tt)) refl
