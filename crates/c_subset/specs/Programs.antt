-- Programs of the C subset, and how they are spelled in tokens (the C subset, docs/C_SUBSET.md).
use Rattle.std.specs.Prelude.{ℕ, Bool, true, false, List, [], ◌∷◌, ◌++◌, Option, Some, None, flat_map, codes, decimal}
use Rattle.dt_values.specs.declared.width.Width.{Width}
use Rattle.dt_values.specs.declared.width.Width.TheVariants.{W16, W32, W64}
use Rattle.dt_values.specs.Types.{type_name}
use Rattle.dt_values.specs.declared.ctype.Member.{Member}
use Rattle.dt_values.specs.declared.set.SetDef.{SetDef}
use Rattle.c_exprs.specs.Exprs.{Assignment, Term}
use Rattle.c_exprs.specs.Spelling.{assign_spelled, assignment_spelled}
use Rattle.c_tokens.specs.Marks.{open_round, close_round, open_brace, close_brace, semicolon, comma, asterisk}
use Rattle.c_tokens.specs.Marks.{ampersand, colon, dot, equals, arg_, f_, hex_word}
use Rattle.c_tokens.specs.Tokens.{Token, word, double_equals}

-- the bytes of a name
abbrev pub Name : Type 0
Name = List ℕ

-- a statement of the decoder, a list of them, and the cases of a switch
mutual
  pub data Stmt : Type 0 where
    on_mask : ℕ → ℕ → Stmts → Stmt
    switch : ℕ → Cases → Stmt
    extract : Name → Name → Stmt
    assign : Name → Name → Term → Stmt
    call : Name → Name → Stmt

  pub data Stmts : Type 0 where
    done : Stmts
    then : Stmt → Stmts → Stmts

  pub data Cases : Type 0 where
    no_case : Cases
    or_case : ℕ → Stmts → Cases → Cases

-- what the load function does: bytes that are loaded, from one to another, where there are some, and then a switch over
-- what is loaded so far, where there is one
mutual
  pub data LoadBlock : Type 0 where
    load_block : Option (ℕ × ℕ) → LoadSwitch → LoadBlock

  pub data LoadSwitch : Type 0 where
    no_switch : LoadSwitch
    load_switch : ℕ → LoadCases → LoadSwitch

  pub data LoadCases : Type 0 where
    no_load_case : LoadCases
    or_load_case : ℕ → LoadBlock → LoadCases → LoadCases

-- a pattern and its argument set
pub record Pattern : Type 0 where
  pub name : Name
  pub set : Name

-- a format that is extracted, its argument set, and what its arguments are assigned, in order
pub record Extraction : Type 0 where
  pub format : Name
  pub set : Name
  pub assigns : List Assignment

-- what stands before the patterns' names, and whether their prototypes are static
pub record Prefix : Type 0 where
  pub name : Name
  pub is_static : Bool

pub record Program : Type 0 where
  pub width : Width
  pub sets : List SetDef
  pub prefix : Option Prefix
  pub patterns : List Pattern
  pub extracts : List Extraction
  pub decoder : Name
  pub decoder_static : Bool
  pub union_sets : List Name
  pub body : Stmts
  pub load : Option LoadBlock

-- the unsigned type of a word (C17, 7.20.1.1)
abbrev pub word_type : Width → List ℕ
word_type W16 = codes "uint16_t"
word_type W32 = codes "uint32_t"
word_type W64 = codes "uint64_t"

abbrev pub extract_name : Name → Name → Token
extract_name decoder format = word (decoder ++ codes "_extract_" ++ format)

abbrev pub pattern_name : Name → Name → Token
pattern_name prefix name = word (prefix ++ codes "_" ++ name)

abbrev pub static_spelled : Bool → List Token
static_spelled true = word (codes "static") ∷ []
static_spelled false = []

-- (DisasContext *ctx
abbrev pub context_parameter : List Token → List Token
context_parameter rest = open_round ∷ word (codes "DisasContext") ∷ asterisk ∷ word (codes "ctx") ∷ rest

-- (DisasContext *ctx,
abbrev pub first_parameter : List Token → List Token
first_parameter rest = context_parameter (comma ∷ rest)

-- TYPE NAME;
abbrev pub member_spelled : Member → List Token
member_spelled m = word (type_name m.ctype) ∷ word m.name ∷ semicolon ∷ []

-- typedef struct { .. } arg_S; with the arguments between the braces
abbrev pub set_spelled : SetDef → List Token
set_spelled s =
    (word (codes "typedef") ∷ word (codes "struct") ∷ open_brace ∷ [])
    ++ (flat_map member_spelled s.members ++ (close_brace ∷ arg_ s.name ∷ semicolon ∷ []))

-- bool P_NAME(DisasContext *ctx, arg_NAME *a);
abbrev pub prototype_spelled : Name → Name → List Token
prototype_spelled prefix name =
    word (codes "bool") ∷ pattern_name prefix name
    ∷ first_parameter (arg_ name ∷ asterisk ∷ word (codes "a") ∷ close_round ∷ semicolon ∷ [])

-- typedef arg_S arg_NAME; and the prototype, static or not
abbrev pub pattern_spelled : Prefix → Pattern → List Token
pattern_spelled prefix p =
    (word (codes "typedef") ∷ arg_ p.set ∷ arg_ p.name ∷ semicolon ∷ [])
    ++ (static_spelled prefix.is_static ++ prototype_spelled prefix.name p.name)

-- static void F_extract_X(DisasContext *ctx, arg_S *a, uintW_t insn) {
abbrev pub extract_head_spelled : Width → Name → Name → Name → List Token
extract_head_spelled w decoder format set =
    word (codes "static") ∷ word (codes "void") ∷ extract_name decoder format
    ∷ first_parameter (arg_ set ∷ asterisk ∷ word (codes "a") ∷ comma
    ∷ word (word_type w) ∷ word (codes "insn") ∷ close_round ∷ open_brace ∷ [])

-- the head, a->ARG = EXPR; for each assignment, and the closing brace
abbrev pub extract_spelled : Width → Name → Extraction → List Token
extract_spelled w decoder e =
    extract_head_spelled w decoder e.format e.set
    ++ (flat_map (assignment_spelled w) e.assigns ++ close_brace ∷ [])

-- &u.f_S
abbrev pub live_set : Name → List Token → List Token
live_set s rest = ampersand ∷ word (codes "u") ∷ dot ∷ f_ s ∷ rest

-- if ((insn & M) == V) {
abbrev pub if_spelled : Width → ℕ → ℕ → List Token
if_spelled w m v =
    word (codes "if") ∷ open_round ∷ open_round ∷ word (codes "insn")
    ∷ ampersand ∷ hex_word w m ∷ close_round
    ∷ double_equals ∷ hex_word w v ∷ close_round ∷ open_brace ∷ []

-- switch (insn & M) {
abbrev pub switch_spelled : Width → ℕ → List Token
switch_spelled w m =
    word (codes "switch") ∷ open_round ∷ word (codes "insn") ∷ ampersand ∷ hex_word w m ∷ close_round ∷ open_brace ∷ []

-- case V:
abbrev pub case_spelled : Width → ℕ → List Token
case_spelled w v = word (codes "case") ∷ hex_word w v ∷ colon ∷ []

-- break;
abbrev pub break_spelled : List Token
break_spelled = word (codes "break") ∷ semicolon ∷ []

-- F_extract_X(ctx, &u.f_S, insn);
abbrev pub extract_call_spelled : Name → Name → Name → List Token
extract_call_spelled decoder x s =
    extract_name decoder x ∷ open_round ∷ word (codes "ctx") ∷ comma
    ∷ live_set s (comma ∷ word (codes "insn") ∷ close_round ∷ semicolon ∷ [])

-- if (P_NAME(ctx, &u.f_S)) return true;
abbrev pub call_spelled : Name → Name → Name → List Token
call_spelled prefix n s =
    word (codes "if") ∷ open_round ∷ pattern_name prefix n ∷ open_round ∷ word (codes "ctx") ∷ comma
    ∷ live_set s (close_round ∷ close_round ∷ word (codes "return") ∷ word (codes "true") ∷ semicolon ∷ [])

-- statements, of the decoder and the prefix with these names
abbrev mutual
  pub stmt_spelled : Width → Name → Name → Stmt → List Token
  stmt_spelled w d p (on_mask m v ss) = if_spelled w m v ++ (stmts_spelled w d p ss ++ close_brace ∷ [])
  stmt_spelled w d p (switch m cs) = switch_spelled w m ++ (cases_spelled w d p cs ++ close_brace ∷ [])
  stmt_spelled w d p (extract x s) = extract_call_spelled d x s
  stmt_spelled w d p (assign s a e) = assign_spelled w (Some s) a e
  stmt_spelled w d p (call n s) = call_spelled p n s

  pub stmts_spelled : Width → Name → Name → Stmts → List Token
  stmts_spelled w d p done = []
  stmts_spelled w d p (then s ss) = stmt_spelled w d p s ++ stmts_spelled w d p ss

  pub cases_spelled : Width → Name → Name → Cases → List Token
  cases_spelled w d p no_case = []
  cases_spelled w d p (or_case v ss cs) =
      case_spelled w v ++ (stmts_spelled w d p ss ++ (break_spelled ++ cases_spelled w d p cs))

-- arg_S f_S;
abbrev pub union_set_spelled : Name → List Token
union_set_spelled s = arg_ s ∷ f_ s ∷ semicolon ∷ []

-- union { .. } u; where there is a pattern
abbrev pub union_spelled : List Pattern → List Name → List Token
union_spelled [] sets = []
union_spelled (p ∷ ps) sets =
    (word (codes "union") ∷ open_brace ∷ [])
    ++ (flat_map union_set_spelled sets ++ (close_brace ∷ word (codes "u") ∷ semicolon ∷ []))

-- static bool F(DisasContext *ctx, uintW_t insn) {
abbrev pub decoder_head_spelled : Width → Name → Bool → List Token
decoder_head_spelled w decoder is_static =
    static_spelled is_static
    ++ (word (codes "bool") ∷ word decoder ∷ first_parameter (word (word_type w)
    ∷ word (codes "insn") ∷ close_round ∷ open_brace ∷ []))

-- return false; }
abbrev pub decoder_end_spelled : List Token
decoder_end_spelled = word (codes "return") ∷ word (codes "false") ∷ semicolon ∷ close_brace ∷ []

-- insn = F_load_bytes(ctx, insn, FROM, TO); where bytes are loaded
abbrev pub load_bytes_spelled : Name → Option (ℕ × ℕ) → List Token
load_bytes_spelled d None = []
load_bytes_spelled d (Some bytes) =
    word (codes "insn") ∷ equals ∷ word (d ++ codes "_load_bytes") ∷ open_round ∷ word (codes "ctx") ∷ comma
    ∷ word (codes "insn") ∷ comma ∷ word (decimal bytes.0) ∷ comma ∷ word (decimal bytes.1) ∷ close_round
    ∷ semicolon ∷ []

-- return insn;
abbrev pub return_insn_spelled : List Token
return_insn_spelled = word (codes "return") ∷ word (codes "insn") ∷ semicolon ∷ []

-- what is loaded, and then a switch whose cases go on with their own blocks, where there is one; return insn; at last
abbrev mutual
  pub load_spelled : Width → Name → LoadBlock → List Token
  load_spelled w d (load_block bytes more) =
      load_bytes_spelled d bytes ++ (load_switch_spelled w d more ++ return_insn_spelled)

  pub load_switch_spelled : Width → Name → LoadSwitch → List Token
  load_switch_spelled w d no_switch = []
  load_switch_spelled w d (load_switch m cs) = switch_spelled w m ++ (load_cases_spelled w d cs ++ close_brace ∷ [])

  pub load_cases_spelled : Width → Name → LoadCases → List Token
  load_cases_spelled w d no_load_case = []
  load_cases_spelled w d (or_load_case v b cs) = case_spelled w v ++ (load_spelled w d b ++ load_cases_spelled w d cs)

-- static uintW_t F_load(DisasContext *ctx) { uintW_t insn = 0;
abbrev pub load_head_spelled : Width → Name → Bool → List Token
load_head_spelled w d is_static =
    static_spelled is_static
    ++ (word (word_type w) ∷ word (d ++ codes "_load") ∷ context_parameter (close_round ∷ open_brace
    ∷ word (word_type w) ∷ word (codes "insn") ∷ equals ∷ word (codes "0") ∷ semicolon ∷ []))

-- the load function, where there is one
abbrev pub load_function_spelled : Width → Name → Bool → Option LoadBlock → List Token
load_function_spelled w d is_static None = []
load_function_spelled w d is_static (Some block) =
    load_head_spelled w d is_static ++ (load_spelled w d block ++ close_brace ∷ [])

-- The rules give a program with patterns a prefix. Without one nothing is spelled by it.
abbrev pub prefix_of : Option Prefix → Prefix
prefix_of None = record { name = []; is_static = false }
prefix_of (Some prefix) = prefix

-- the decoder, and behind it the load function
abbrev pub decoder_spelled : Program → List Token
decoder_spelled p =
    decoder_head_spelled p.width p.decoder p.decoder_static
    ++ (union_spelled p.patterns p.union_sets
    ++ (stmts_spelled p.width p.decoder (prefix_of p.prefix).name p.body
    ++ (decoder_end_spelled ++ load_function_spelled p.width p.decoder p.decoder_static p.load)))

unfoldable pub spelling : Program → List Token
spelling p =
    flat_map set_spelled p.sets
    ++ (flat_map (pattern_spelled (prefix_of p.prefix)) p.patterns
    ++ (flat_map (extract_spelled p.width p.decoder) p.extracts
    ++ decoder_spelled p))
