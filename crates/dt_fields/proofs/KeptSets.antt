-- A set line that breaks no rule defines a sound set, under a new name.
use Rattle.std.proofs.Common.{◌≡◌, ℕ, ◌≤◌, true, false, List, [], ◌∷◌, ◌++◌, length, Option, Some, None, refl, sym, subst, arith}
use Rattle.std.specs.Prelude.{◌≢◌, ◌&&◌, IsTrue, All, AllPairs, nat_le, not, is_some, drop, codes}
use Rattle.std.specs.List.{list_any}
use Rattle.std.proofs.lemmas.Bool.{and_from, and_parts, cond_both, not_from_false, or_parts}
use Rattle.std.proofs.lemmas.List.{length_push}
use Rattle.std.proofs.lemmas.List.Elements.{All-nil, All-push}
use Rattle.std.proofs.lemmas.List.Quantifiers.{all_pairs_push}
use Rattle.dt_values.specs.Names.{IsName, is_name}
use Rattle.dt_values.specs.Types.{is_text, type_of}
use Rattle.dt_values.specs.declared.ctype.CType.TheVariants as c
use Rattle.dt_values.specs.declared.ctype.Member.{Member}
use Rattle.dt_fields.specs.declared.rule.Rule.TheVariants as rule
use Rattle.dt_values.specs.declared.set.SetDef.{SetDef}
use Rattle.dt_values.specs.declared.set.TheConstants.{MOST_ARGUMENTS}
use Rattle.dt_fields.specs.CNames.{IsCName, begins_with_letter, is_ident, is_keyword}
use Rattle.dt_fields.specs.Faults.{Broken, where_broken, token, named}
use Rattle.dt_fields.specs.Parts.{parts_at_byte}
use Rattle.dt_fields.specs.SetLines.{begins_set, empty_set, is_taken, line_set, set_line_faults, set_of, set_token_faults, set_token_rows, set_with_token, set_with_tokens, whole_set_faults}
use Rattle.dt_values.specs.Members.{has_member}
use Rattle.dt_fields.specs.SetTokens.{SetToken, outside_mark, argument, other, argument_token, set_token, typed_argument}
use Rattle.dt_values.specs.SetsByName.{set_at}
use Rattle.dt_fields.specs.SoundSets.{IsSoundSet, IsSoundType}
use Rattle.dt_fields.proofs.MarkedNames.{marked_is_name}
use Rattle.dt_fields.proofs.NewNames.{none_found, none_passes, other_names}
use Rattle.dt_fields.proofs.Rows.{prefix_empty, rest_empty, row_unbroken, last_unbroken, one_more}
use Rattle.dt_fields.proofs.SetLines.{name_of_set}

-- the type of an identifier is sound
sound_type : (t : List ℕ) → IsTrue (is_ident t) → IsSoundType (type_of t)
sound_type t h =
    let parts : (begins_with_letter t ≡ true) × (is_name t ≡ true) = and_parts (begins_with_letter t) (is_name t) h in
    cond_both (is_text t (codes "int")) c.Int _ IsSoundType (λ e. tt) (λ e1.
    cond_both (is_text t (codes "int8_t")) c.I8 _ IsSoundType (λ e. tt) (λ e2.
    cond_both (is_text t (codes "int16_t")) c.I16 _ IsSoundType (λ e. tt) (λ e3.
    cond_both (is_text t (codes "int32_t")) c.I32 _ IsSoundType (λ e. tt) (λ e4.
    cond_both (is_text t (codes "int64_t")) c.I64 _ IsSoundType (λ e. tt) (λ e5.
    cond_both (is_text t (codes "uint8_t")) c.U8 _ IsSoundType (λ e. tt) (λ e6.
    cond_both (is_text t (codes "uint16_t")) c.U16 _ IsSoundType (λ e. tt) (λ e7.
    cond_both (is_text t (codes "uint32_t")) c.U32 _ IsSoundType (λ e. tt) (λ e8.
    cond_both (is_text t (codes "uint64_t")) c.U64 (c.Other t) IsSoundType (λ e. tt) (λ e9.
    record { named = parts.1; letter = parts.0; unknown = rw (e1, e2, e3, e4, e5, e6, e7, e8, e9) refl })))))))))

-- an argument that a token names has an identifier for its name, and a sound type
abbrev IsSoundToken : SetToken → Type 0
IsSoundToken outside_mark = Unit {0}
IsSoundToken (argument m) = IsTrue (is_ident m.name) × IsSoundType m.ctype
IsSoundToken other = Unit {0}

sound_typed : (name type : List ℕ) → IsSoundToken (typed_argument name type)
sound_typed name type =
    cond_both (is_ident name && is_ident type) (argument (record { ctype = type_of type; name = name })) other IsSoundToken
    (λ h. let parts : (is_ident name ≡ true) × (is_ident type ≡ true) = and_parts (is_ident name) (is_ident type) h in (parts.0, sound_type type parts.1))
    (λ h. tt)

sound_argument : (text : List ℕ) (parts : Option (List ℕ × List ℕ)) → IsSoundToken (argument_token text parts)
sound_argument text None = cond_both (is_ident text) (argument (record { ctype = c.Int; name = text })) other IsSoundToken (λ h. (h, tt)) (λ h. tt)
sound_argument text (Some parts) = sound_typed parts.0 parts.1

sound_token : (text : List ℕ) → IsSoundToken (set_token text)
sound_token text = cond_both (is_text text (codes "!extern")) outside_mark (argument_token text (parts_at_byte 58 text)) IsSoundToken (λ h. tt) (λ h. sound_argument text (parts_at_byte 58 text))

-- what tokens that break no rule have made so far
record IsSoundSoFar (set : SetDef) : Type 0 where
  few : length set.members ≤ MOST_ARGUMENTS
  different : AllPairs (λ a b. a.name ≢ b.name) set.members
  c_names : All (λ m. IsCName m.name) set.members
  types : All (λ m. IsSoundType m.ctype) set.members

none_so_far : (name : List ℕ) → IsSoundSoFar (empty_set name)
none_so_far name = record {
  few = omega arith;
  different = λ i j d below within. absurd (omega arith);
  c_names = All-nil (λ (m : Member). IsCName m.name);
  types = All-nil (λ (m : Member). IsSoundType m.ctype);
}

-- the rules of an argument that breaks none
record IsUnbrokenArgument (members : List Member) (m : Member) : Type 0 where
  no_keyword : is_keyword m.name ≡ false
  new : has_member members m.name ≡ false
  room : nat_le MOST_ARGUMENTS (length members) ≡ false

unbroken_argument : (before : SetDef) (text : List ℕ) (m : Member) → set_token_rows before text (argument m) ≡ [] → IsUnbrokenArgument before.members m
unbroken_argument before text m h =
    let last : List Broken = where_broken (nat_le MOST_ARGUMENTS (length before.members)) (rule.A5, token text) in
    let named_before : List Broken = where_broken (has_member before.members m.name) (rule.A2, token text) in
    let first : (is_keyword m.name ≡ false) × (named_before ++ last ≡ []) = row_unbroken (is_keyword m.name) (rule.A4, token text) (named_before ++ last) h in
    let second : (has_member before.members m.name ≡ false) × (last ≡ []) = row_unbroken (has_member before.members m.name) (rule.A2, token text) last first.1 in
    record { no_keyword = first.0; new = second.0; room = last_unbroken (nat_le MOST_ARGUMENTS (length before.members)) (rule.A5, token text) second.1 }

with_argument : (before : SetDef) (m : Member) → IsSoundToken (argument m) → IsUnbrokenArgument before.members m → IsSoundSoFar before → IsSoundSoFar (set_with_token before (argument m))
with_argument before m right h sound =
    let others : All (λ a. a.name ≢ m.name) before.members = other_names (λ a. a.name) m.name before.members (none_passes (λ a. is_text m.name a.name) before.members h.new) in
    record {
      few = one_more MOST_ARGUMENTS (length before.members) (length (before.members ++ m ∷ [])) (length_push before.members m) h.room;
      different = all_pairs_push (λ a b. a.name ≢ b.name) before.members m sound.different others;
      c_names = All-push (λ a. IsCName a.name) before.members m sound.c_names (and_from (is_ident m.name) (not (is_keyword m.name)) right.0 (not_from_false (is_keyword m.name) h.no_keyword));
      types = All-push (λ a. IsSoundType a.ctype) before.members m sound.types right.1;
    }

with_token : (before : SetDef) (text : List ℕ) (t : SetToken) → IsSoundToken t → set_token_rows before text t ≡ [] → IsSoundSoFar before → IsSoundSoFar (set_with_token before t)
with_token before text outside_mark right h sound = record { few = sound.few; different = sound.different; c_names = sound.c_names; types = sound.types }
with_token before text (argument m) right h sound = with_argument before m right (unbroken_argument before text m h) sound
with_token before text other right h sound = sound

with_tokens : (before : SetDef) (tokens : List (List ℕ)) → set_token_faults before tokens ≡ [] → IsSoundSoFar before → IsSoundSoFar (set_with_tokens before tokens)
with_tokens before [] h sound = sound
with_tokens before (t ∷ ts) h sound =
    let now : List Broken = set_token_rows before t (set_token t) in
    let later : List Broken = set_token_faults (set_with_token before (set_token t)) ts in
    with_tokens (set_with_token before (set_token t)) ts (rest_empty now later h) (with_token before t (set_token t) (sound_token t) (prefix_empty now later h) sound)

-- the set of a line that breaks no rule is sound
pub unbroken_set_is_sound : (sets : List SetDef) (patterns tokens : List (List ℕ)) → IsTrue (begins_set tokens) → set_line_faults sets patterns tokens ≡ [] → IsSoundSet (line_set tokens)
unbroken_set_is_sound sets patterns [] begins h = absurd (cc)
unbroken_set_is_sound sets patterns (t ∷ ts) begins h =
    let tokens : List Broken = set_token_faults (empty_set (drop 1 t)) ts in
    let whole : List Broken = whole_set_faults sets patterns (drop 1 t) in
    let sound : IsSoundSoFar (set_of (drop 1 t) ts) = with_tokens (empty_set (drop 1 t)) ts (prefix_empty tokens whole h) (none_so_far (drop 1 t)) in
    record {
      named = subst IsName (sym (name_of_set (drop 1 t) ts)) (marked_is_name 38 t begins);
      few = sound.few;
      different = sound.different;
      c_names = sound.c_names;
      types = sound.types;
    }

not_taken : (sets : List SetDef) (patterns tokens : List (List ℕ)) → set_line_faults sets patterns tokens ≡ [] → IsTrue (begins_set tokens)
    → (is_some (set_at sets (line_set tokens).name) ≡ false) × (list_any (is_text (line_set tokens).name) patterns ≡ false)
not_taken sets patterns [] h begins = absurd (cc)
not_taken sets patterns (t ∷ ts) h begins =
    let whole : List Broken = whole_set_faults sets patterns (drop 1 t) in
    let free : is_taken sets patterns (drop 1 t) ≡ false = last_unbroken (is_taken sets patterns (drop 1 t)) (rule.A3, named (drop 1 t)) (rest_empty (set_token_faults (empty_set (drop 1 t)) ts) whole h) in
    subst (λ name. (is_some (set_at sets name) ≡ false) × (list_any (is_text name) patterns ≡ false)) (sym (name_of_set (drop 1 t) ts))
    (or_parts (is_some (set_at sets (drop 1 t))) (list_any (is_text (drop 1 t)) patterns) free)

-- its name is no set's
pub unbroken_set_is_new : (sets : List SetDef) (patterns tokens : List (List ℕ)) → IsTrue (begins_set tokens) → set_line_faults sets patterns tokens ≡ [] → All (λ s. s.name ≢ (line_set tokens).name) sets
unbroken_set_is_new sets patterns tokens begins h =
    other_names (λ s. s.name) (line_set tokens).name sets (none_found (λ s. is_text (line_set tokens).name s.name) sets (not_taken sets patterns tokens h begins).0)

-- and no pattern's
pub unbroken_set_is_no_pattern : (sets : List SetDef) (patterns tokens : List (List ℕ)) → IsTrue (begins_set tokens) → set_line_faults sets patterns tokens ≡ [] → All (λ p. p ≢ (line_set tokens).name) patterns
unbroken_set_is_no_pattern sets patterns tokens begins h =
    other_names (λ p. p) (line_set tokens).name patterns (none_passes (is_text (line_set tokens).name) patterns (not_taken sets patterns tokens h begins).1)
