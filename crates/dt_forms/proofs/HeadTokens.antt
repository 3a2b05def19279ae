-- The first tokens of lines that define fields, sets, formats and patterns.
use Rattle.std.proofs.Common.{◌≡◌, ℕ, ◌==◌, ◌&&◌, Bool, true, false, List, [], ◌∷◌, map, refl, ap, ◌∙◌, sym, subst}
use Rattle.std.specs.Prelude.{IsTrue, codes, if◌then◌else◌}
use Rattle.dt_values.specs.Names.{is_name, IsName}
use Rattle.dt_values.specs.Types.{is_text}
use Rattle.dt_lines.specs.Spans.{text_at}
use Rattle.dt_lines.specs.declared.line.Span.{Span}
use Rattle.dt_fields.specs.FieldLines.{begins_field}
use Rattle.dt_fields.specs.SetLines.{begins_set}
use Rattle.dt_scope.specs.declared.kind.Kind.{Kind}
use Rattle.dt_scope.specs.declared.kind.Kind.TheVariants.{Brace, Bracket}
use Rattle.dt_forms.specs.declared.head.Head.{Head}
use Rattle.dt_forms.specs.declared.head.Head.TheVariants as head
use Rattle.dt_forms.specs.Heads.{head_of, marked_head, named_head, opening_text}
use Rattle.dt_patterns.proofs.SameNames.{text_decides}

-- heads by their tests
abbrev marked : Bool → Bool → Bool → Bool → List ℕ → Head
marked named percent ampersand at_sign name =
    if named then
    if percent then head.Field name
    else if ampersand then head.Set name
    else if at_sign then head.Format name
    else head.None
    else head.None

field_marked : (named percent ampersand at_sign : Bool) (name n : List ℕ)
    → marked named percent ampersand at_sign name ≡ head.Field n → IsTrue (percent && named)
field_marked true true ampersand at_sign name n h = refl
field_marked true false true at_sign name n h = absurd (cc)
field_marked true false false true name n h = absurd (cc)
field_marked true false false false name n h = absurd (cc)
field_marked false percent ampersand at_sign name n h = absurd (cc)

set_marked : (named percent ampersand at_sign : Bool) (name n : List ℕ)
    → marked named percent ampersand at_sign name ≡ head.Set n → IsTrue (ampersand && named)
set_marked true true ampersand at_sign name n h = absurd (cc)
set_marked true false true at_sign name n h = refl
set_marked true false false true name n h = absurd (cc)
set_marked true false false false name n h = absurd (cc)
set_marked false percent ampersand at_sign name n h = absurd (cc)

format_marked : (named percent ampersand at_sign : Bool) (name n : List ℕ)
    → marked named percent ampersand at_sign name ≡ head.Format n → (named ≡ true) × (name ≡ n)
format_marked true true ampersand at_sign name n h = absurd (cc)
format_marked true false true at_sign name n h = absurd (cc)
format_marked true false false true name n h = (refl, cc)
format_marked true false false false name n h = absurd (cc)
format_marked false percent ampersand at_sign name n h = absurd (cc)

field_named : (first n : List ℕ) → named_head first ≡ head.Field n → IsTrue (begins_field (first ∷ []))
field_named [] n h = absurd (cc)
field_named (b ∷ bs) n h = by (is_name (b ∷ bs)) h
  where
    by : (named : Bool) → (if named then head.Pattern (b ∷ bs) else marked_head b bs) ≡ head.Field n
        → IsTrue (begins_field ((b ∷ bs) ∷ []))
    by true e = absurd (cc)
    by false e = field_marked (is_name bs) (b == 37) (b == 38) (b == 64) bs n e

set_named : (first n : List ℕ) → named_head first ≡ head.Set n → IsTrue (begins_set (first ∷ []))
set_named [] n h = absurd (cc)
set_named (b ∷ bs) n h = by (is_name (b ∷ bs)) h
  where
    by : (named : Bool) → (if named then head.Pattern (b ∷ bs) else marked_head b bs) ≡ head.Set n
        → IsTrue (begins_set ((b ∷ bs) ∷ []))
    by true e = absurd (cc)
    by false e = set_marked (is_name bs) (b == 37) (b == 38) (b == 64) bs n e

-- what is no name begins with a mark
pub marked_behind : (text : List ℕ) (b : ℕ) (bs : List ℕ) (h : Head) → text ≡ b ∷ bs → (IsName text → ⊥)
    → h ≡ marked_head b bs → h ≡ named_head text
marked_behind text b bs h e other is = is ∙ by (is_name (b ∷ bs)) refl ∙ sym (ap named_head e)
  where
    by : (named : Bool) → is_name (b ∷ bs) ≡ named
        → marked_head b bs ≡ (if named then head.Pattern (b ∷ bs) else marked_head b bs)
    by true f = absurd (other (subst IsName (sym e) f))
    by false f = refl

-- no mark of a group
abbrev HasNoMark : Head → Type 0
HasNoMark (head.Opens kind) = ⊥
HasNoMark (head.Closes kind) = ⊥
HasNoMark (head.Field name) = Unit {0}
HasNoMark (head.Set name) = Unit {0}
HasNoMark (head.Format name) = Unit {0}
HasNoMark (head.Pattern name) = Unit {0}
HasNoMark head.None = Unit {0}

-- heads by the tests for marks of groups
abbrev grouped : Bool → Bool → Bool → Bool → Head → Head
grouped opens_brace closes_brace opens_bracket closes_bracket named =
    if opens_brace then head.Opens Brace
    else if closes_brace then head.Closes Brace
    else if opens_bracket then head.Opens Bracket
    else if closes_bracket then head.Closes Bracket
    else named

no_mark : (a b c d : Bool) (named h : Head) → grouped a b c d named ≡ h → HasNoMark h → named ≡ h
no_mark true b c d named h e none = absurd (subst HasNoMark (sym e) none)
no_mark false true c d named h e none = absurd (subst HasNoMark (sym e) none)
no_mark false false true d named h e none = absurd (subst HasNoMark (sym e) none)
no_mark false false false true named h e none = absurd (subst HasNoMark (sym e) none)
no_mark false false false false named h e none = e

without_mark : (first : List ℕ) (h : Head) → head_of first ≡ h → HasNoMark h → named_head first ≡ h
without_mark first h e none = no_mark (is_text first (codes "{")) (is_text first (codes "}"))
    (is_text first (codes "[")) (is_text first (codes "]")) (named_head first) h e none

-- a name has none
marked_has_none : (named percent ampersand at_sign : Bool) (name : List ℕ)
    → HasNoMark (marked named percent ampersand at_sign name)
marked_has_none true true ampersand at_sign name = tt
marked_has_none true false true at_sign name = tt
marked_has_none true false false true name = tt
marked_has_none true false false false name = tt
marked_has_none false percent ampersand at_sign name = tt

named_has_none : (first : List ℕ) → HasNoMark (named_head first)
named_has_none [] = tt
named_has_none (b ∷ bs) = by (is_name (b ∷ bs))
  where
    by : (named : Bool) → HasNoMark (if named then head.Pattern (b ∷ bs) else marked_head b bs)
    by true = tt
    by false = marked_has_none (is_name bs) (b == 37) (b == 38) (b == 64) bs

-- what opens a group is its kind's mark
opens_by : (a b c d : Bool) (first : List ℕ) (kind : Kind) → is_text first (codes "{") ≡ a
    → is_text first (codes "[") ≡ c → grouped a b c d (named_head first) ≡ head.Opens kind → first ≡ opening_text kind
opens_by true b c d first kind e f h = let same : Brace ≡ kind = cc in
    subst (λ k. first ≡ opening_text k) same ((text_decides first (codes "{")).0 e)
opens_by false true c d first kind e f h = absurd (cc)
opens_by false false true d first kind e f h = let same : Bracket ≡ kind = cc in
    subst (λ k. first ≡ opening_text k) same ((text_decides first (codes "[")).0 f)
opens_by false false false true first kind e f h = absurd (cc)
opens_by false false false false first kind e f h = absurd (subst HasNoMark h (named_has_none first))

pub opening_is_first : (first : List ℕ) (kind : Kind) → head_of first ≡ head.Opens kind → first ≡ opening_text kind
opening_is_first first kind h =
    opens_by (is_text first (codes "{")) (is_text first (codes "}")) (is_text first (codes "["))
    (is_text first (codes "]")) first kind refl refl h

pub begins_with_field : (source : List ℕ) (tokens rest : List Span) (first : Span) (n : List ℕ) → tokens ≡ first ∷ rest
    → head_of (text_at source first) ≡ head.Field n → IsTrue (begins_field (map (text_at source) tokens))
begins_with_field source tokens rest first n e h =
    ap (λ ts. begins_field (map (text_at source) ts)) e
    ∙ field_named (text_at source first) n (without_mark (text_at source first) (head.Field n) h tt)

pub begins_with_set : (source : List ℕ) (tokens rest : List Span) (first : Span) (n : List ℕ) → tokens ≡ first ∷ rest
    → head_of (text_at source first) ≡ head.Set n → IsTrue (begins_set (map (text_at source) tokens))
begins_with_set source tokens rest first n e h =
    ap (λ ts. begins_set (map (text_at source) ts)) e
    ∙ set_named (text_at source first) n (without_mark (text_at source first) (head.Set n) h tt)

-- a pattern's head is the name itself
named_pattern : (first n : List ℕ) → named_head first ≡ head.Pattern n → (first ≡ n) × IsName n
named_pattern [] n h = absurd (cc)
named_pattern (b ∷ bs) n h = by (is_name (b ∷ bs)) refl h
  where
    no_pattern : (named percent ampersand at_sign : Bool) → marked named percent ampersand at_sign bs ≡ head.Pattern n
        → ⊥
    no_pattern true true ampersand at_sign e = cc
    no_pattern true false true at_sign e = cc
    no_pattern true false false true e = cc
    no_pattern true false false false e = cc
    no_pattern false percent ampersand at_sign e = cc

    by : (named : Bool) → is_name (b ∷ bs) ≡ named
        → (if named then head.Pattern (b ∷ bs) else marked_head b bs) ≡ head.Pattern n → (b ∷ bs ≡ n) × IsName n
    by true e f = let same : b ∷ bs ≡ n = cc in (same, subst IsName same e)
    by false e f = absurd (no_pattern (is_name bs) (b == 37) (b == 38) (b == 64) f)

pub pattern_is_first : (first n : List ℕ) → head_of first ≡ head.Pattern n → first ≡ n
pattern_is_first first n h = (named_pattern first n (without_mark first (head.Pattern n) h tt)).0

pub pattern_is_named : (first n : List ℕ) → head_of first ≡ head.Pattern n → IsName n
pattern_is_named first n h = (named_pattern first n (without_mark first (head.Pattern n) h tt)).1

-- a set's begins with its mark
pub set_begins : (first n : List ℕ) → head_of first ≡ head.Set n → IsTrue (begins_set (first ∷ []))
set_begins first n h = set_named first n (without_mark first (head.Set n) h tt)

-- and a field's
pub field_begins : (first n : List ℕ) → head_of first ≡ head.Field n → IsTrue (begins_field (first ∷ []))
field_begins first n h = field_named first n (without_mark first (head.Field n) h tt)

-- a format's has a name behind its mark
named_format : (first n : List ℕ) → named_head first ≡ head.Format n → IsName n
named_format [] n h = absurd (cc)
named_format (b ∷ bs) n h = by (is_name (b ∷ bs)) h
  where
    by : (named : Bool) → (if named then head.Pattern (b ∷ bs) else marked_head b bs) ≡ head.Format n → IsName n
    by true e = absurd (cc)
    by false e = let marks = format_marked (is_name bs) (b == 37) (b == 38) (b == 64) bs n e in
        subst IsName marks.1 marks.0

pub format_is_named : (first n : List ℕ) → head_of first ≡ head.Format n → IsName n
format_is_named first n h = named_format first n (without_mark first (head.Format n) h tt)
