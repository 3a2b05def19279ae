-- What a reader of a format or pattern line has read of its tokens.
use Rattle.std.proofs.Common.{◌≡◌, ℕ, ◌+◌, ◌<◌, List, ◌∷◌, length, map, drop, get_or, ap, ◌∙◌, sym, subst, Bool}
use Rattle.std.proofs.lemmas.List.{drop_more}
use Rattle.dt_lines.specs.Spans.{text_at}
use Rattle.dt_lines.specs.declared.line.Span.{Span}
use Rattle.dt_fields.specs.declared.fault.DefFault.{DefFault}
use Rattle.dt_fields.specs.Faults.{Broken}
use Rattle.dt_fields.specs.View.{DefBroken}
use Rattle.dt_fields.proofs.FirstFaults.{broken_prefix}
use Rattle.dt_scope.specs.declared.gather.Gathered.{Gathered}
use Rattle.dt_scope.specs.Scope.{Scope}
use Rattle.dt_scope.specs.Elements.{element_of}
use Rattle.dt_scope.specs.Gathering.{given}
use Rattle.dt_scope.specs.ElementRows.{element_rows, element_faults}

-- a refused token refuses the line
pub broken_here : (in_format : Bool) (width : ℕ) (scope : Scope) (bytes : List ℕ) (before : Gathered)
    (tokens : List Span) (i : ℕ) (t d : Span) (fault : DefFault) (all : List Broken) → i < length tokens
    → t ≡ get_or tokens i d
    → DefBroken bytes fault (element_rows in_format width scope before (text_at bytes t) (element_of (text_at bytes t)))
    → element_faults in_format width scope before (map (text_at bytes) (drop i tokens)) ≡ all
    → DefBroken bytes fault all
broken_here in_format width scope bytes before tokens i t d fault all h is broken same =
    let left : drop i tokens ≡ t ∷ drop (i + 1) tokens =
    drop_more tokens i d h ∙ ap (λ x. x ∷ drop (i + 1) tokens) (sym is) in
    let more : List Broken = element_faults in_format width scope
    (given width scope.fields before (element_of (text_at bytes t))) (map (text_at bytes) (drop (i + 1) tokens)) in
    subst (DefBroken bytes fault) (sym (ap (λ ts. element_faults in_format width scope before (map (text_at bytes) ts))
    left) ∙ same)
    (broken_prefix bytes fault (element_rows in_format width scope before (text_at bytes t)
    (element_of (text_at bytes t))) more broken)
