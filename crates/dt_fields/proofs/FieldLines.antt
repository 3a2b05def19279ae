-- What a reader of a field line has read of its tokens.
use Rattle.std.proofs.Common.{◌≡◌, ℕ, ◌+◌, ◌<◌, List, [], ◌∷◌, length, map, drop, get_or, ap, ◌∙◌, sym, subst, Ok, Err, OnOk, IfErr}
use Rattle.std.proofs.lemmas.List.{drop_more}
use Rattle.std.specs.Prelude.{Result}
use Rattle.dt_lines.specs.Spans.{text_at, IsWithin}
use Rattle.dt_lines.specs.declared.line.Span.{Span}
use Rattle.dt_fields.specs.declared.field.FieldDef.{FieldDef}
use Rattle.dt_fields.specs.declared.fault.DefFault.{DefFault}
use Rattle.dt_fields.specs.Faults.{Broken}
use Rattle.dt_fields.specs.FieldLines.{field_with_token, field_token_faults, field_token_rows}
use Rattle.dt_fields.specs.FieldTokens.{field_token, function}
use Rattle.dt_fields.specs.View.{DefBroken, TokenBroken}
use Rattle.dt_fields.proofs.FirstFaults.{broken_prefix}

-- a refused token refuses the line
pub broken_here : (width : ℕ) (bytes : List ℕ) (before : FieldDef) (tokens : List Span) (i : ℕ) (t d : Span) (fault : DefFault) (all : List Broken) → i < length tokens → t ≡ get_or tokens i d
    → DefBroken bytes fault (field_token_rows width before (text_at bytes t) (field_token (text_at bytes t)))
    → field_token_faults width before (map (text_at bytes) (drop i tokens)) ≡ all
    → DefBroken bytes fault all
broken_here width bytes before tokens i t d fault all h is broken same =
    let left : drop i tokens ≡ t ∷ drop (i + 1) tokens = drop_more tokens i d h ∙ ap (λ x. x ∷ drop (i + 1) tokens) (sym is) in
    let more : List Broken = field_token_faults width (field_with_token before (field_token (text_at bytes t))) (map (text_at bytes) (drop (i + 1) tokens)) in
    subst (DefBroken bytes fault) (sym (ap (λ ts. field_token_faults width before (map (text_at bytes) ts)) left) ∙ same)
    (broken_prefix bytes fault (field_token_rows width before (text_at bytes t) (field_token (text_at bytes t))) more broken)

-- what a reader of a function says, at the token that the function stands in
pub function_kept : (r : Result Unit DefFault) (before : FieldDef) (name text : List ℕ) (width : ℕ) → function name ≡ field_token text
    → ((w : ℕ) (t : List ℕ) → OnOk r (field_token_rows w before t (function name) ≡ []))
    → OnOk r (field_token_rows width before text (field_token text) ≡ [])
function_kept r before name text width is h = subst (λ t. OnOk r (field_token_rows width before text t ≡ [])) is (h width text)

pub function_broken : (r : Result Unit DefFault) (before : FieldDef) (name bytes : List ℕ) (span : Span) (width : ℕ) → function name ≡ field_token (text_at bytes span)
    → IsWithin (length bytes) span
    → ((w : ℕ) → IfErr r (λ fault. TokenBroken span fault (λ t. field_token_rows w before t (function name))))
    → IfErr r (λ fault. DefBroken bytes fault (field_token_rows width before (text_at bytes span) (field_token (text_at bytes span))))
function_broken (Ok x) before name bytes span width is within h = tt
function_broken (Err fault) before name bytes span width is within h =
    subst (λ t. DefBroken bytes fault (field_token_rows width before (text_at bytes span) t)) is (h width bytes within)
