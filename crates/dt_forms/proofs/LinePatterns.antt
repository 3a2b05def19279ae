-- Where the patterns of lines stand.
use Rattle.std.proofs.Common.{◌≡◌, ℕ, ◌+◌, ◌<◌, ◌≤◌, List, [], ◌∷◌, ◌++◌, get_or, refl, ◌∙◌, sym, subst, inl, inr, arith}
use Rattle.std.specs.Prelude.{◌⊎◌}
use Rattle.std.specs.List.{All, AllPairs}
use Rattle.std.proofs.lemmas.List.Elements.{All-head, All-tail, All-nil, All-push, All-weaker}
use Rattle.std.proofs.lemmas.List.Quantifiers.{all_pairs_push}
use Rattle.dt_lines.specs.declared.line.Position.{Position}
use Rattle.dt_model.specs.declared.pattern.Pattern.{Pattern}
use Rattle.dt_forms.specs.declared.head.Head.{Head}
use Rattle.dt_forms.specs.declared.head.Head.TheVariants as head
use Rattle.dt_model.specs.declared.options.Options.{Options}
use Rattle.dt_forms.specs.FileLines.{FileLine, line_position}
use Rattle.dt_scope.specs.Gathering.{gathered}
use Rattle.dt_forms.specs.Heads.{head_of}
use Rattle.dt_values.specs.Widths.{width_bits}
use Rattle.dt_patterns.specs.Inference.{choice_of, named_format}
use Rattle.dt_patterns.specs.PatternLines.{pattern_of}
use Rattle.dt_forms.specs.Positions.{leading_token}
use Rattle.dt_forms.specs.Rules.{after_head, after_line, after_lines, after_tokens}
use Rattle.dt_scope.specs.Scope.{Scope, nothing_defined}
use Rattle.dt_model.specs.Sound.{IsBefore, IsEarlier, pattern_position}
use Rattle.dt_forms.proofs.HeadTokens.{pattern_is_first}
use Rattle.dt_forms.proofs.LineOrder.{IsFrom, Rises}

-- a pattern stands where a line does, under the token that the line begins with
pub record IsPatternAt (position : Position) (token : List ℕ) (p : Pattern) : Type 0 where
  pub stands : pattern_position p ≡ position
  pub name : token ≡ p.name

abbrev pub IsPatternOn : FileLine → Pattern → Type 0
IsPatternOn l p = IsPatternAt (line_position l) (leading_token l.line.tokens) p

-- a line adds one pattern, or none
pub record AddsPattern (before after : List Pattern) (position : Position) (token : List ℕ) : Type 0 where
  pub pattern : Pattern
  pub added : after ≡ before ++ pattern ∷ []
  pub on : IsPatternAt position token pattern

abbrev pub AddsAtMost : List Pattern → List Pattern → Position → List ℕ → Type 0
AddsAtMost before after position token = (after ≡ before) ⊎ AddsPattern before after position token

module _ (options : Options) where
  head_adds : (scope : Scope) (position : Position) (first : List ℕ) (rest : List (List ℕ)) (hd : Head)
      → head_of first ≡ hd → AddsAtMost scope.patterns
      (after_head options scope position first rest hd).patterns position first
  head_adds scope position first rest (head.Opens kind) e = inl refl
  head_adds scope position first rest (head.Closes kind) e = inl refl
  head_adds scope position first rest (head.Field name) e = inl refl
  head_adds scope position first rest (head.Set name) e = inl refl
  head_adds scope position first rest (head.Format name) e = inl refl
  head_adds scope position first rest (head.Pattern name) e = inr (record {
    pattern =
        let g = gathered (width_bits options.width) scope.fields rest in
        pattern_of (width_bits options.width) (choice_of options scope.sets scope.formats g)
        (named_format scope.formats g.format) position name g;
    added = refl;
    on = record { stands = refl; name = pattern_is_first first name e };
  })
  head_adds scope position first rest head.None e = inl refl

  tokens_add : (scope : Scope) (position : Position) (tokens : List (List ℕ))
      → AddsAtMost scope.patterns (after_tokens options scope position tokens).patterns position (leading_token tokens)
  tokens_add scope position [] = inl refl
  tokens_add scope position (first ∷ rest) = head_adds scope position first rest (head_of first) refl

  -- what holds of each pattern on a line holds of all
  module _ (Q : Pattern → Type 0) where
    line_holds : (before after : List Pattern) (l : FileLine)
        → AddsAtMost before after (line_position l) (leading_token l.line.tokens)
        → ((p : Pattern) → IsPatternOn l p → Q p) → All Q before → All Q after
    line_holds before after l (inl same) h all = subst (All Q) (sym same) all
    line_holds before after l (inr adds) h all =
        subst (All Q) (sym adds.added) (All-push Q before adds.pattern all (h adds.pattern adds.on))

    lines_hold : (scope : Scope) (ls : List FileLine) → All (λ l. (p : Pattern) → IsPatternOn l p → Q p) ls
        → All Q scope.patterns → All Q (after_lines options scope ls).patterns
    lines_hold scope [] h all = all
    lines_hold scope (l ∷ ls) h all =
        lines_hold (after_line options scope l) ls
        (All-tail (λ (m : FileLine). (p : Pattern) → IsPatternOn m p → Q p) l ls h)
        (line_holds scope.patterns (after_line options scope l).patterns l
        (tokens_add scope (line_position l) l.line.tokens)
        (All-head (λ (m : FileLine). (p : Pattern) → IsPatternOn m p → Q p) l ls h) all)

    pub all_hold : (ls : List FileLine) → All (λ l. (p : Pattern) → IsPatternOn l p → Q p) ls
        → All Q (after_lines options nothing_defined ls).patterns
    all_hold ls h = lines_hold nothing_defined ls h (All-nil Q)

  -- all patterns stand before a place
  abbrev AreBefore : ℕ → ℕ → List Pattern → Type 0
  AreBefore file line patterns = All (λ p. IsEarlier (pattern_position p) (record { file = file; line = line }))
      patterns

  pub earlier_line : (a : Position) (file line : ℕ) (l : FileLine) → IsFrom file line l
      → IsEarlier a (record { file = file; line = line }) → IsEarlier a (line_position l)
  earlier_line a file line l (inl h) (inl k) = inl (omega arith)
  earlier_line a file line l (inl h) (inr k) = inl (let e : a.file ≡ file = k.0 in omega arith)
  earlier_line a file line l (inr h) (inl k) = inl (let e : file ≡ l.file = h.0 in omega arith)
  earlier_line a file line l (inr h) (inr k) =
      inr (k.0 ∙ h.0, let low : line ≤ l.line.line = h.1 in let high : a.line < line = k.1 in omega arith)

  pub next_line : (a : Position) (l : FileLine) → IsEarlier a (line_position l)
      → IsEarlier a (record { file = l.file; line = l.line.line + 1 })
  next_line a l (inl h) = inl h
  next_line a l (inr h) = inr (h.0, let low : a.line < l.line.line = h.1 in omega arith)

  record AreOrdered (file line : ℕ) (patterns : List Pattern) : Type 0 where
    pairs : AllPairs IsBefore patterns
    before : AreBefore file line patterns

  line_orders : (before after : List Pattern) (file line : ℕ) (l : FileLine) → IsFrom file line l
      → AddsAtMost before after (line_position l) (leading_token l.line.tokens)
      → AreOrdered file line before → AreOrdered l.file (l.line.line + 1) after
  line_orders before after file line l from (inl same) h =
      subst (AreOrdered l.file (l.line.line + 1)) (sym same) (record {
        pairs = h.pairs;
        before = All-weaker (λ (p : Pattern). IsEarlier (pattern_position p) (record { file = file; line = line }))
            (λ (p : Pattern). IsEarlier (pattern_position p) (record { file = l.file; line = l.line.line + 1 }))
            (λ p k. next_line (pattern_position p) l (earlier_line (pattern_position p) file line l from k)) before
            h.before;
      })
  line_orders before after file line l from (inr adds) h =
      let here : (p : Pattern) → IsEarlier (pattern_position p) (record { file = file; line = line })
      → IsEarlier (pattern_position p) (line_position l) =
      λ p k. earlier_line (pattern_position p) file line l from k in
      let own : IsEarlier (line_position l) (record { file = l.file; line = l.line.line + 1 }) =
      inr (refl, omega arith) in
      subst (AreOrdered l.file (l.line.line + 1)) (sym adds.added) (record {
        pairs = all_pairs_push IsBefore before adds.pattern h.pairs
            (λ k d below. subst (IsEarlier (pattern_position (get_or before k d))) (sym adds.on.stands)
            (here (get_or before k d) (h.before k d below)));
        before = All-push (λ (p : Pattern). IsEarlier (pattern_position p)
            (record { file = l.file; line = l.line.line + 1 })) before adds.pattern
            (All-weaker (λ (p : Pattern). IsEarlier (pattern_position p) (record { file = file; line = line }))
            (λ (p : Pattern). IsEarlier (pattern_position p) (record { file = l.file; line = l.line.line + 1 }))
            (λ p k. next_line (pattern_position p) l (here p k)) before h.before)
            (subst (λ a. IsEarlier a (record { file = l.file; line = l.line.line + 1 })) (sym adds.on.stands) own);
      })

  lines_order : (scope : Scope) (file line : ℕ) (ls : List FileLine) → Rises file line ls
      → AreOrdered file line scope.patterns → AllPairs IsBefore (after_lines options scope ls).patterns
  lines_order scope file line [] rise h = h.pairs
  lines_order scope file line (l ∷ ls) rise h =
      lines_order (after_line options scope l) l.file (l.line.line + 1) ls rise.1
      (line_orders scope.patterns (after_line options scope l).patterns file line l rise.0
      (tokens_add scope (line_position l) l.line.tokens) h)

  pub patterns_rise : (ls : List FileLine) → Rises 0 0 ls
      → AllPairs IsBefore (after_lines options nothing_defined ls).patterns
  patterns_rise ls rise = lines_order nothing_defined 0 0 ls rise (record {
    pairs = λ i j d h k. absurd (omega arith);
    before = All-nil (λ (p : Pattern). IsEarlier (pattern_position p) (record { file = 0; line = 0 }));
  })
