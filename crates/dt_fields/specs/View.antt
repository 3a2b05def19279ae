-- What the details and the refusals of this project's readers of lines stand for.
use Rattle.std.specs.Prelude.{◌≡◌, ℕ, List, length, map, Some}
use Rattle.dt_lines.specs.Spans.{text_at, IsWithin}
use Rattle.dt_lines.specs.declared.line.Span.{Span}
use Rattle.dt_fields.specs.declared.rule.Rule.{Rule}
use Rattle.dt_fields.specs.declared.fault.Detail.{Detail as Made}
use Rattle.dt_fields.specs.declared.fault.Detail.TheVariants as details
use Rattle.dt_fields.specs.declared.fault.DefFault.{DefFault}
use Rattle.dt_fields.specs.declared.fault.DefFault.TheVariants as faults
use Rattle.dt_fields.specs.Faults.{Broken, Detail, nothing, token, named, number, mask, first}

-- the bytes of tokens
abbrev pub texts_at : List ℕ → List Span → List (List ℕ)
texts_at bytes spans = map (text_at bytes) spans

-- a detail, with the bytes of its token in the place of its span
abbrev pub detail_seen : List ℕ → Made → Detail
detail_seen bytes details.None = nothing
detail_seen bytes (details.Text span) = token (text_at bytes span)
detail_seen bytes (details.Named name) = named name
detail_seen bytes (details.Number n) = number n
detail_seen bytes (details.Mask m) = mask m

-- the token of a detail lies in these bytes
abbrev pub IsDetailWithin : List ℕ → Made → Type 0
IsDetailWithin bytes details.None = Unit {0}
IsDetailWithin bytes (details.Text span) = IsWithin (length bytes) span
IsDetailWithin bytes (details.Named name) = Unit {0}
IsDetailWithin bytes (details.Number n) = Unit {0}
IsDetailWithin bytes (details.Mask m) = Unit {0}

-- the rule and the detail that a refused line shows are the first of these
pub record IsFirst (bytes : List ℕ) (rule : Rule) (detail : Made) (faults : List Broken) : Type 0 where
  pub is_first : first faults ≡ Some (rule, detail_seen bytes detail)
  pub within : IsDetailWithin bytes detail

-- a line of a file of these bytes is refused by the first of these faults, or for want of memory
abbrev pub DefBroken : List ℕ → DefFault → List Broken → Type 0
DefBroken bytes (faults.Broken rule detail) rules = IsFirst bytes rule detail rules
DefBroken bytes faults.NoMemory rules = Unit {0}

-- a token is refused by the first of the faults that its text has, or for want of memory, in any file that it lies in
abbrev pub TokenBroken : Span → DefFault → (List ℕ → List Broken) → Type 0
TokenBroken span fault rules =
    (bytes : List ℕ) → IsWithin (length bytes) span → DefBroken bytes fault (rules (text_at bytes span))
