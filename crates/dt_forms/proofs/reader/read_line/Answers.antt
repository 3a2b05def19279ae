use Rattle.std.proofs.Common.{◌≡◌, ℕ, List, [], ◌∷◌, length, map, sym, ◌∙◌, subst}
use Rattle.std.specs.Prelude.{IfErr}
use Rattle.std.specs.List.{All}
use Rattle.std.proofs.lemmas.Bool.{eqb-true}
use Rattle.std.proofs.lemmas.List.{nil_from_length}
use Rattle.std.proofs.lemmas.List.Elements.{All-head, All-tail}
use Rattle.dt_lines.specs.Spans.{IsWithin, text_at}
use Rattle.dt_lines.specs.declared.line.Span.{Span}
use Rattle.dt_fields.specs.View.{DefBroken}
use Rattle.dt_forms.specs.Rules.{faults_in}
use Rattle.dt_forms.specs.Structure.{indentation_row}
use Rattle.dt_forms.proofs.reader.read_line.Goals as goal

pub read_tokens-requires-clause-headed : goal.read_tokens-requires-clause-headed
read_tokens-requires-clause-headed c =
    let same : c.args.line.now.tokens ≡ c.split_line.result.0 ∷ c.split_line.result.1.now =
    sym c.items-tokens.ensures ∙ c.split_line.ensures in
    let within = subst (All (IsWithin (length c.args.source.now))) same c.requires.spans.within in
    record {
      spans = c.requires.spans;
      first = All-head (IsWithin (length c.args.source.now)) c.split_line.result.0 c.split_line.result.1.now within;
      rest = All-tail (IsWithin (length c.args.source.now)) c.split_line.result.0 c.split_line.result.1.now within;
      tokens = same;
    }

pub returns-then-is_empty-clause-broken : goal.returns-then-is_empty-clause-broken
returns-then-is_empty-clause-broken c =
    let P : List Span → Type 0 = λ ts. IfErr c.check_indentation.result (λ fault. DefBroken c.args.source.now fault
    (faults_in c.args.options.now c.args.scope.now c.args.line.now.indent (map (text_at c.args.source.now) ts))) in
    let none : [] ≡ c.args.line.now.tokens =
    sym (nil_from_length c.items-tokens.result.now
    (eqb-true (length c.items-tokens.result.now) 0 (sym c.if-is_empty.ensures))) ∙ c.items-tokens.ensures in
    let row : ℕ → Type 0 = λ depth. IfErr c.check_indentation.result
    (λ fault. DefBroken c.args.source.now fault (indentation_row depth c.args.line.now.indent)) in
    subst P none (subst row c.depth.ensures c.check_indentation.ensures.broken)
