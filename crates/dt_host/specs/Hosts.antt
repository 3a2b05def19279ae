-- The translators and the functions of a decoder, as what they answer (docs/devel/decodetree.rst, "Fields" and
-- "Patterns").
use Rattle.std.specs.Prelude.{ℕ, ◌+◌, ◌==◌, ◌&&◌, ℤ, pos, Bool, true, false, List, [], ◌∷◌, Option, Some, None, slice_get, unwrap_or, if◌then◌else◌}
use Rattle.std.specs.Ordering.{int_eq}
use Rattle.dt_values.specs.Types.{is_text}

-- what a function answers when it is asked with a number, or without one
abbrev pub Answers : Type 0
Answers = List ℕ → Option ℤ → ℤ

-- a call: the name of its pattern, and the values that are handed over
pub record Call : Type 0 where
  pub name : List ℕ
  pub values : List ℤ

-- a host with states of S: what the translator answers to a call, the state after it, and what the functions answer,
-- which changes nothing
pub record Host (S : Type 0) : Type 0 where
  pub outcome : S → Call → Bool
  pub next : S → Call → S
  pub answer : S → Answers

-- item k of these outcomes, and true past the end
abbrev pub outcome_at : List Bool → ℕ → Bool
outcome_at outcomes k = unwrap_or (slice_get outcomes k) true

-- what a function answers after so many calls, when it is asked with this number or without one
pub record Answer : Type 0 where
  pub calls : ℕ
  pub function : List ℕ
  pub argument : Option ℤ
  pub answer : ℤ

abbrev pub is_same_argument : Option ℤ → Option ℤ → Bool
is_same_argument None None = true
is_same_argument None (Some z) = false
is_same_argument (Some y) None = false
is_same_argument (Some y) (Some z) = int_eq y z

-- an answer fits after so many calls, to this question
abbrev pub fits : ℕ → List ℕ → Option ℤ → Answer → Bool
fits k function argument a =
    (a.calls == k) && (is_text function a.function && is_same_argument argument a.argument)

-- that of the first answer that fits; else the argument, or 0 without one
abbrev pub answer_at : List Answer → ℕ → Answers
answer_at [] k function argument = unwrap_or argument (pos 0)
answer_at (a ∷ more) k function argument =
    if fits k function argument a then a.answer else answer_at more k function argument

-- the host that answers by these lists; its state is the number of the calls made
abbrev pub script : List Bool → List Answer → Host ℕ
script outcomes answers = record {
  outcome = λ k c. outcome_at outcomes k;
  next = λ k c. k + 1;
  answer = answer_at answers;
}
