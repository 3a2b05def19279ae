-- What a reader of a set line has read of its tokens.
use Rattle.std.proofs.Common.{◌≡◌, ℕ, ◌+◌, ◌<◌, List, [], ◌∷◌, length, map, drop, get_or, refl, ap, ◌∙◌, sym, subst}
use Rattle.std.proofs.lemmas.List.{drop_more}
use Rattle.dt_lines.specs.Spans.{text_at}
use Rattle.dt_lines.specs.declared.line.Span.{Span}
use Rattle.dt_values.specs.declared.set.SetDef.{SetDef}
use Rattle.dt_fields.specs.declared.fault.DefFault.{DefFault}
use Rattle.dt_fields.specs.Faults.{Broken}
use Rattle.dt_fields.specs.SetLines.{empty_set, set_of, set_with_token, set_with_tokens, set_token_faults, set_token_rows}
use Rattle.dt_fields.specs.SetTokens.{SetToken, outside_mark, argument, other, set_token}
use Rattle.dt_fields.specs.View.{DefBroken}
use Rattle.dt_fields.proofs.FirstFaults.{broken_prefix}

-- a refused token refuses the line
pub broken_here : (bytes : List ℕ) (before : SetDef) (tokens : List Span) (i : ℕ) (t d : Span) (fault : DefFault) (all : List Broken) → i < length tokens → t ≡ get_or tokens i d
    → DefBroken bytes fault (set_token_rows before (text_at bytes t) (set_token (text_at bytes t)))
    → set_token_faults before (map (text_at bytes) (drop i tokens)) ≡ all
    → DefBroken bytes fault all
broken_here bytes before tokens i t d fault all h is broken same =
    let left : drop i tokens ≡ t ∷ drop (i + 1) tokens = drop_more tokens i d h ∙ ap (λ x. x ∷ drop (i + 1) tokens) (sym is) in
    let more : List Broken = set_token_faults (set_with_token before (set_token (text_at bytes t))) (map (text_at bytes) (drop (i + 1) tokens)) in
    subst (DefBroken bytes fault) (sym (ap (λ ts. set_token_faults before (map (text_at bytes) ts)) left) ∙ same)
    (broken_prefix bytes fault (set_token_rows before (text_at bytes t) (set_token (text_at bytes t))) more broken)

name_with_token : (set : SetDef) (t : SetToken) → (set_with_token set t).name ≡ set.name
name_with_token set outside_mark = refl
name_with_token set (argument m) = refl
name_with_token set other = refl

name_with_tokens : (set : SetDef) (ts : List (List ℕ)) → (set_with_tokens set ts).name ≡ set.name
name_with_tokens set [] = refl
name_with_tokens set (t ∷ ts) = name_with_tokens (set_with_token set (set_token t)) ts ∙ name_with_token set (set_token t)

-- the set of a name has that name
pub name_of_set : (name : List ℕ) (ts : List (List ℕ)) → (set_of name ts).name ≡ name
name_of_set name ts = name_with_tokens (empty_set name) ts
