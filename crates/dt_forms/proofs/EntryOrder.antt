-- The positions of entries rise as their lines do.
use Rattle.std.proofs.Common.{◌≡◌, ℕ, ◌+◌, ◌<◌, ◌⊎◌, List, [], ◌∷◌, ◌++◌, length, refl, ◌∙◌, sym, subst, inl, inr, arith}
use Rattle.std.specs.List.{All, AllPairs}
use Rattle.std.proofs.lemmas.List.{append-nil, length_push}
use Rattle.std.proofs.lemmas.List.Elements.{All-nil, All-push, All-weaker}
use Rattle.std.proofs.lemmas.List.Quantifiers.{all_pairs_push}
use Rattle.dt_lines.specs.declared.line.Position.{Position}
use Rattle.dt_model.specs.declared.pattern.Pattern.{Pattern}
use Rattle.dt_model.specs.declared.options.Options.{Options}
use Rattle.dt_scope.specs.declared.kind.Kind.{Kind}
use Rattle.dt_scope.specs.Gathering.{gathered}
use Rattle.dt_scope.specs.Marks.{Mark, opens, closes, pattern_mark}
use Rattle.dt_scope.specs.Scope.{Scope, nothing_defined}
use Rattle.dt_values.specs.Widths.{width_bits}
use Rattle.dt_forms.specs.declared.head.Head.{Head}
use Rattle.dt_forms.specs.declared.head.Head.TheVariants as head
use Rattle.dt_forms.specs.FileLines.{FileLine, line_position}
use Rattle.dt_forms.specs.Heads.{head_of}
use Rattle.dt_patterns.specs.Inference.{choice_of, named_format}
use Rattle.dt_patterns.specs.PatternLines.{pattern_of}
use Rattle.dt_forms.specs.Rules.{after_head, after_line, after_lines, after_tokens}
use Rattle.dt_model.specs.Sound.{IsEarlier, pattern_position}
use Rattle.dt_forms.proofs.EntryNumbers.{marked, marked_both}
use Rattle.dt_forms.proofs.EntryPositions.{at_both, marked_at, one_at, places}
use Rattle.dt_forms.proofs.LineOrder.{IsFrom, Rises}
use Rattle.dt_forms.proofs.LinePatterns.{earlier_line, next_line}

-- a line adds no entry
record AddsNone (before after : Scope) : Type 0 where
  patterns : after.patterns ≡ before.patterns
  marks : after.marks ≡ before.marks

-- or a pattern
record AddsPattern (before after : Scope) (position : Position) : Type 0 where
  pattern : Pattern
  patterns : after.patterns ≡ before.patterns ++ pattern ∷ []
  marks : after.marks ≡ before.marks ++ pattern_mark (length before.patterns) ∷ []
  stands : pattern_position pattern ≡ position

-- or opens a group
record AddsOpening (before after : Scope) (position : Position) : Type 0 where
  kind : Kind
  patterns : after.patterns ≡ before.patterns
  marks : after.marks ≡ before.marks ++ opens kind position.file position.line ∷ []

-- or closes one
record AddsClosing (before after : Scope) : Type 0 where
  kind : Kind
  patterns : after.patterns ≡ before.patterns
  marks : after.marks ≡ before.marks ++ closes kind ∷ []

abbrev AddsMark : Scope → Scope → Position → Type 0
AddsMark before after position = AddsOpening before after position ⊎ AddsClosing before after

abbrev AddsEntry : Scope → Scope → Position → Type 0
AddsEntry before after position = AddsNone before after
    ⊎ (AddsPattern before after position ⊎ AddsMark before after position)

no_entry : {before after : Scope} → after.patterns ≡ before.patterns → after.marks ≡ before.marks
    → AddsNone before after
no_entry e f = record { patterns = e; marks = f }

-- the entries so far stand in order, before a place; each number is that of a pattern
record AreOrdered (file line : ℕ) (patterns : List Pattern) (marks : List Mark) : Type 0 where
  pairs : AllPairs IsEarlier (marked_at (places patterns) marks)
  before : All (λ p. IsEarlier p (record { file = file; line = line })) (marked_at (places patterns) marks)
  numbers : All (λ n. n < length patterns) (marked marks)

module _ (options : Options) where
  head_adds : (scope : Scope) (position : Position) (first : List ℕ) (rest : List (List ℕ)) (hd : Head)
      → AddsEntry scope (after_head options scope position first rest hd) position
  head_adds scope position first rest (head.Opens kind) =
      inr (inr (inl (record { kind = kind; patterns = refl; marks = refl })))
  head_adds scope position first rest (head.Closes kind) =
      inr (inr (inr (record { kind = kind; patterns = refl; marks = refl })))
  head_adds scope position first rest (head.Field name) = inl (no_entry refl refl)
  head_adds scope position first rest (head.Set name) = inl (no_entry refl refl)
  head_adds scope position first rest (head.Format name) = inl (no_entry refl refl)
  head_adds scope position first rest (head.Pattern name) = inr (inl (record {
    pattern =
        let g = gathered (width_bits options.width) scope.fields rest in
        pattern_of (width_bits options.width) (choice_of options scope.sets scope.formats g)
        (named_format scope.formats g.format) position name g;
    patterns = refl;
    marks = refl;
    stands = refl;
  }))
  head_adds scope position first rest head.None = inl (no_entry refl refl)

  tokens_add : (scope : Scope) (position : Position) (tokens : List (List ℕ))
      → AddsEntry scope (after_tokens options scope position tokens) position
  tokens_add scope position [] = inl (no_entry refl refl)
  tokens_add scope position (first ∷ rest) = head_adds scope position first rest (head_of first)

  abbrev Ends : ℕ → ℕ → Position → Type 0
  Ends file line p = IsEarlier p (record { file = file; line = line })

  same_order : (file line : ℕ) (patterns others : List Pattern) (marks more : List Mark) → others ≡ patterns
      → more ≡ marks → AreOrdered file line patterns marks → AreOrdered file line others more
  same_order file line patterns others marks more e f h =
      subst (λ ms. AreOrdered file line others ms) (sym f) (subst (λ ps. AreOrdered file line ps marks) (sym e) h)

  line_orders : (before after : Scope) (file line : ℕ) (l : FileLine) → IsFrom file line l
      → AddsEntry before after (line_position l)
      → AreOrdered file line before.patterns before.marks
      → AreOrdered l.file (l.line.line + 1) after.patterns after.marks
  line_orders before after file line l from (inl none) h =
      let all : List Position = marked_at (places before.patterns) before.marks in
      same_order l.file (l.line.line + 1) before.patterns after.patterns before.marks after.marks none.patterns
      none.marks (record {
        pairs = h.pairs;
        before = All-weaker (Ends file line) (Ends l.file (l.line.line + 1))
            (λ p k. next_line options p l (earlier_line options p file line l from k)) all h.before;
        numbers = h.numbers;
      })
  line_orders before after file line l from (inr (inl adds)) h =
      let p : Pattern = adds.pattern in
      let all : List Position = marked_at (places before.patterns) before.marks in
      let marks : List Mark = before.marks ++ pattern_mark (length before.patterns) ∷ [] in
      let here : (q : Position) → Ends file line q → IsEarlier q (pattern_position p) =
      λ q k. subst (IsEarlier q) (sym adds.stands) (earlier_line options q file line l from k) in
      let more : marked_at (places (before.patterns ++ p ∷ [])) marks ≡ all ++ pattern_position p ∷ [] =
      one_at before.patterns p before.marks h.numbers in
      let count : length (before.patterns ++ p ∷ []) ≡ length before.patterns + 1 = length_push before.patterns p in
      let own : Ends l.file (l.line.line + 1) (pattern_position p) =
      subst (Ends l.file (l.line.line + 1)) (sym adds.stands) (inr (refl, omega arith)) in
      same_order l.file (l.line.line + 1) (before.patterns ++ p
      ∷ []) after.patterns marks after.marks adds.patterns adds.marks (record {
        pairs = subst (λ ps. AllPairs IsEarlier ps) (sym more)
            (all_pairs_push IsEarlier all (pattern_position p) h.pairs (λ k d below. here _ (h.before k d below)));
        before = subst (λ ps. All (Ends l.file (l.line.line + 1)) ps) (sym more)
            (All-push (Ends l.file (l.line.line + 1)) all (pattern_position p)
            (All-weaker (Ends file line) (Ends l.file (l.line.line + 1))
            (λ q k. next_line options q l (earlier_line options q file line l from k)) all h.before) own);
        numbers = subst (λ ns. All (λ n. n < length (before.patterns ++ p ∷ [])) ns)
            (sym (marked_both before.marks (pattern_mark (length before.patterns) ∷ [])))
            (All-push (λ n. n < length (before.patterns ++ p ∷ [])) (marked before.marks) (length before.patterns)
            (All-weaker (λ n. n < length before.patterns) (λ n. n < length (before.patterns ++ p ∷ []))
            (λ n k. omega arith) (marked before.marks) h.numbers) (omega arith));
      })
  line_orders before after file line l from (inr (inr (inl adds))) h =
      let all : List Position = marked_at (places before.patterns) before.marks in
      let mark : List Mark = opens adds.kind l.file l.line.line ∷ [] in
      let more : marked_at (places before.patterns) (before.marks ++ mark) ≡ all ++ line_position l ∷ [] =
      at_both (places before.patterns) before.marks mark in
      same_order l.file (l.line.line + 1) before.patterns after.patterns
      (before.marks ++ mark) after.marks adds.patterns adds.marks (record {
        pairs = subst (λ ps. AllPairs IsEarlier ps) (sym more)
            (all_pairs_push IsEarlier all (line_position l) h.pairs
            (λ k d below. earlier_line options _ file line l from (h.before k d below)));
        before = subst (λ ps. All (Ends l.file (l.line.line + 1)) ps) (sym more)
            (All-push (Ends l.file (l.line.line + 1)) all (line_position l)
            (All-weaker (Ends file line) (Ends l.file (l.line.line + 1))
            (λ q k. next_line options q l (earlier_line options q file line l from k)) all h.before)
            (inr (refl, omega arith)));
        numbers = subst (λ ns. All (λ n. n < length before.patterns) ns)
            (sym (marked_both before.marks mark ∙ append-nil (marked before.marks))) h.numbers;
      })
  line_orders before after file line l from (inr (inr (inr adds))) h =
      let all : List Position = marked_at (places before.patterns) before.marks in
      let mark : List Mark = closes adds.kind ∷ [] in
      let same : marked_at (places before.patterns) (before.marks ++ mark) ≡ all =
      at_both (places before.patterns) before.marks mark ∙ append-nil all in
      same_order l.file (l.line.line + 1) before.patterns after.patterns
      (before.marks ++ mark) after.marks adds.patterns adds.marks (record {
        pairs = subst (λ ps. AllPairs IsEarlier ps) (sym same) h.pairs;
        before = subst (λ ps. All (Ends l.file (l.line.line + 1)) ps) (sym same)
            (All-weaker (Ends file line) (Ends l.file (l.line.line + 1))
            (λ q k. next_line options q l (earlier_line options q file line l from k)) all h.before);
        numbers = subst (λ ns. All (λ n. n < length before.patterns) ns)
            (sym (marked_both before.marks mark ∙ append-nil (marked before.marks))) h.numbers;
      })

  lines_order : (scope : Scope) (file line : ℕ) (ls : List FileLine) → Rises file line ls
      → AreOrdered file line scope.patterns scope.marks
      → AllPairs IsEarlier (marked_at (places (after_lines options scope ls).patterns)
      (after_lines options scope ls).marks)
  lines_order scope file line [] rise h = h.pairs
  lines_order scope file line (l ∷ ls) rise h =
      lines_order (after_line options scope l) l.file (l.line.line + 1) ls rise.1
      (line_orders scope (after_line options scope l) file line l rise.0
      (tokens_add scope (line_position l) l.line.tokens) h)

  pub entries_rise : (ls : List FileLine) → Rises 0 0 ls
      → AllPairs IsEarlier (marked_at (places (after_lines options nothing_defined ls).patterns)
      (after_lines options nothing_defined ls).marks)
  entries_rise ls rise = lines_order nothing_defined 0 0 ls rise (record {
    pairs = λ i j d h k. absurd (omega arith);
    before = All-nil (Ends 0 0);
    numbers = All-nil (λ n. n < 0);
  })
