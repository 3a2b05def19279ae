-- Lines with the places of their tokens, by the tokens' bytes and by their places.
use Rattle.std.proofs.Common.{◌≡◌, ℕ, ◌+◌, ◌≤◌, List, [], ◌∷◌, length, map, refl, ap, sym, ◌∙◌, arith}
use Rattle.std.specs.Prelude.{All}
use Rattle.std.specs.List.{between}
use Rattle.std.proofs.lemmas.Simd.{map-map}
use Rattle.std.proofs.lemmas.List.Edits.{length-between}
use Rattle.std.proofs.lemmas.List.Elements.{All-head, All-tail}
use Rattle.dt_lines.specs.Lines.{Piece, line_of, placed_lines, logical_lines}
use Rattle.dt_lines.specs.Spans.{AreSpans, IsWithin, line_seen, logical_spans, span_of, text_at, token_spans}
use Rattle.dt_lines.specs.Gathering.{piece_at, placed_line}
use Rattle.dt_lines.specs.declared.line.Span.{Span}
use Rattle.dt_lines.specs.declared.line.Logical.{Logical}

line_of_placed : (bytes : List ℕ) (l : Logical) → line_seen bytes l ≡ line_of (placed_line bytes l)
line_of_placed bytes l =
    let text_of : Piece → List ℕ = λ p. p.text in
    let texts : map text_of (map (piece_at bytes) l.tokens) ≡ map (text_at bytes) l.tokens = map-map text_of (piece_at bytes) l.tokens in
    cc

lines_of_placed : (bytes : List ℕ) (ls : List Logical) → map (line_seen bytes) ls ≡ map line_of (map (placed_line bytes) ls)
lines_of_placed bytes [] = refl
lines_of_placed bytes (l ∷ ls) = ap (λ x. x ∷ map (line_seen bytes) ls) (line_of_placed bytes l) ∙ ap (λ xs. line_of (placed_line bytes l) ∷ xs) (lines_of_placed bytes ls)

-- the lines by their tokens' bytes
pub lines_by_text : (bytes : List ℕ) (ls : List Logical) → map (placed_line bytes) ls ≡ placed_lines bytes → map (line_seen bytes) ls ≡ logical_lines bytes
lines_by_text bytes ls e = lines_of_placed bytes ls ∙ ap (map line_of) e

spans_at : (bytes : List ℕ) (spans : List Span) → All (IsWithin (length bytes)) spans → spans ≡ map span_of (map (piece_at bytes) spans)
spans_at bytes [] h = refl
spans_at bytes (s ∷ ss) h =
    let here : IsWithin (length bytes) s = All-head (IsWithin (length bytes)) s ss h in
    let low : s.start ≤ s.end = omega (arith, here.0) in
    let end : s.start + length (between s.start s.end bytes) ≡ s.end = omega (arith, length-between bytes s.start s.end here.1) in
    let with_end : ℕ → Span = λ e. record { start = s.start; end = e } in
    let first : s ≡ span_of (piece_at bytes s) = ap with_end (sym end) in
    ap (λ x. x ∷ ss) first ∙ ap (λ xs. span_of (piece_at bytes s) ∷ xs) (spans_at bytes ss (All-tail (IsWithin (length bytes)) s ss h))

spans_of_placed : (bytes : List ℕ) (ls : List Logical) → All (λ l. AreSpans (length bytes) l.tokens) ls → map (λ l. l.tokens) ls ≡ map token_spans (map (placed_line bytes) ls)
spans_of_placed bytes [] h = refl
spans_of_placed bytes (l ∷ ls) h =
    let P : Logical → Type 0 = λ l. AreSpans (length bytes) l.tokens in
    let tokens_of : Logical → List Span = λ l. l.tokens in
    let here : AreSpans (length bytes) l.tokens = All-head P l ls h in
    ap (λ x. x ∷ map tokens_of ls) (spans_at bytes l.tokens here.within)
    ∙ ap (λ xs. map span_of (map (piece_at bytes) l.tokens) ∷ xs) (spans_of_placed bytes ls (All-tail P l ls h))

-- the lines by their tokens' places
pub lines_by_place : (bytes : List ℕ) (ls : List Logical) → All (λ l. AreSpans (length bytes) l.tokens) ls → map (placed_line bytes) ls ≡ placed_lines bytes → map (λ l. l.tokens) ls ≡ logical_spans bytes
lines_by_place bytes ls h e = spans_of_placed bytes ls h ∙ ap (map token_spans) e
