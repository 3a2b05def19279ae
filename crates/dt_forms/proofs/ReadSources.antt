-- Files with the lines that are read of them.
use Rattle.std.proofs.Common.{◌≡◌, ℕ, ◌^◌, ◌<◌, ◌≤◌, List, [], ◌∷◌, ◌++◌, length, get_or, map, ap, ◌∙◌, sym, subst, arith, inl, inr}
use Rattle.std.specs.List.{All}
use Rattle.std.proofs.lemmas.Bool.{cases_lt}
use Rattle.std.proofs.lemmas.List.Elements.{All-map}
use Rattle.std.proofs.lemmas.List.{get_or_append_left, get_or_push, length_push}
use Rattle.dt_lines.specs.Lines.{logical_lines, physical_lines}
use Rattle.dt_lines.specs.Spans.{line_seen, logical_spans, AreSpans}
use Rattle.dt_lines.specs.declared.line.Logical.{Logical}
use Rattle.dt_lines.specs.declared.limits.TheConstants.{LARGEST_FILE}
use Rattle.dt_forms.specs.declared.source.Source.{Source}
use Rattle.dt_forms.specs.Sources.{IsSourceAt, AreSources}

pub is_source : (file : ℕ) (text : List ℕ) (s : Source) (lines : List Logical) → s.bytes ≡ text → s.lines ≡ lines
    → map (line_seen text) lines ≡ logical_lines text → map (λ l. l.tokens) lines ≡ logical_spans text
    → All (λ l. AreSpans (length text) l.tokens) lines → All (λ l. l.file ≡ file) lines
    → s.last_line ≡ length (physical_lines text) → length text ≤ LARGEST_FILE → IsSourceAt file s
is_source file text s lines e f seen places spans files last small = record {
  lines = ap (λ b. map (line_seen b) s.lines) e ∙ ap (map (line_seen text)) f ∙ seen ∙ sym (ap logical_lines e);
  places = subst (λ (ls : List Logical). map (λ l. l.tokens) ls ≡ logical_spans s.bytes) (sym f) (places
      ∙ sym (ap logical_spans e));
  spans = subst (λ (ls : List Logical). All (λ l. AreSpans (length s.bytes) l.tokens) ls) (sym f)
      (subst (λ (b : List ℕ). All (λ l. AreSpans (length b) l.tokens) lines) (sym e) spans);
  file = subst (λ (ls : List Logical). All (λ l. l.file ≡ file) ls) (sym f) files;
  last_line = last ∙ sym (ap (λ b. length (physical_lines b)) e);
  small = subst (λ (b : List ℕ). length b ≤ LARGEST_FILE) (sym e) small;
}

-- and one file more, as the one behind them
behind : (files : List Source) (s : Source) → AreSources files → IsSourceAt (length files) s
    → AreSources (files ++ s ∷ [])
behind files s all last place d below = elim (cases_lt place (length files)) [
  | inl early ↦ subst (λ (x : Source). IsSourceAt place x) (sym (get_or_append_left files (s ∷ []) d place early))
      (all place d early)
  | inr late ↦ last_source place (omega (arith, length_push files s))
]
  where
    last_source : (n : ℕ) → n ≡ length files → IsSourceAt n (get_or (files ++ s ∷ []) n d)
    last_source n e = subst (λ (x : Source). IsSourceAt n x) (sym (get_or_push files s d n (sym e)))
        (subst (λ m. IsSourceAt m s) (sym e) last)

pub one_source_more : (files more : List Source) (count : ℕ) (s : Source) → count ≡ length files
    → more ≡ files ++ s ∷ [] → AreSources files → IsSourceAt count s → AreSources more
one_source_more files more count s n e all last =
    subst (λ (fs : List Source). AreSources fs) (sym e) (behind files s all (subst (λ m. IsSourceAt m s) n last))

-- the texts of sources are short
pub sources_short : (files : List Source) → AreSources files → All (λ t. length t < 2 ^ 32) (map (λ s. s.bytes) files)
sources_short files all =
    All-map (λ (t : List ℕ). length t < 2 ^ 32) (λ (s : Source). s.bytes) files
    (λ k d below. let small : length (get_or files k d).bytes ≤ LARGEST_FILE = (all k d below).small in omega arith)
