-- Spans that end before a place end before a later one; a line more of the same file.
use Rattle.std.proofs.Common.{◌≡◌, ℕ, ◌≤◌, List, [], ◌∷◌, ◌++◌, arith}
use Rattle.std.specs.List.{slice_index_or}
use Rattle.std.proofs.lemmas.List.Elements.{All-same, All-push}
use Rattle.dt_lines.specs.Spans.{AreSpans}
use Rattle.dt_lines.specs.SoFar.{AreSpansTo, AreLinesOf}
use Rattle.dt_lines.specs.declared.line.Span.{Span}
use Rattle.dt_lines.specs.declared.line.Logical.{Logical}

pub spans_later : {length place : ℕ} (later : ℕ) {spans : List Span} → place ≤ later → AreSpansTo length place spans → AreSpansTo length later spans
spans_later {length} {place} later {spans} h k = record {
  placed = k.placed;
  before = λ i d l. let b : (slice_index_or spans i d).end ≤ place = k.before i d l in omega arith;
}

pub line_pushed : {file length : ℕ} {lines longer : List Logical} (line : Logical) → longer ≡ lines ++ line ∷ [] → line.file ≡ file → AreSpans length line.tokens → AreLinesOf file length lines → AreLinesOf file length longer
line_pushed {file} {length} {lines} {longer} line e same spans k =
    let P : Logical → Type 0 = λ l. AreSpans length l.tokens in
    let F : Logical → Type 0 = λ l. l.file ≡ file in
    record {
      spans = All-same P _ _ e (All-push P lines line k.spans spans);
      same_file = All-same F _ _ e (All-push F lines line k.same_file same);
    }
