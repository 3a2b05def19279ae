-- The table of commands: the options of each, with their names and what their values must be, and its operands.
-- The words are this project's; the options of `gen` that scripts/decodetree.py has too are named as there.
use Rattle.std.specs.Prelude.{ℕ, List, [], ◌∷◌, Option, Some, None, codes, replicate, if◌then◌else◌}
use Rattle.dt_values.specs.Types.{is_text}
use Rattle.dt_model.specs.declared.limits.TheConstants.{MOST_FILES}
use Rattle.dt_words.specs.declared.rows.Verb.{Verb}
use Rattle.dt_words.specs.declared.rows.Verb.TheVariants as verb
use Rattle.dt_words.specs.declared.rows.ValueKind.{ValueKind}
use Rattle.dt_words.specs.declared.rows.ValueKind.TheVariants as kind

-- an option: its long name, its short one (empty where it has none), and what its value must be
pub record Row : Type 0 where
  pub name : List ℕ
  pub short : List ℕ
  pub kind : ValueKind

abbrev pub row : List ℕ → List ℕ → ValueKind → Row
row name short kind = record { name = name; short = short; kind = kind }

abbrev pub verb_of : List ℕ → Option Verb
verb_of name =
    if is_text name (codes "gen") then Some verb.Gen
    else if is_text name (codes "eval") then Some verb.Eval
    else None

abbrev pub options_of : Verb → List Row
options_of verb.Gen =
    row (codes "--translate") [] kind.Name
    ∷ row (codes "--decode") [] kind.Name
    ∷ row (codes "--static-decode") [] kind.Name
    ∷ row (codes "--insnwidth") (codes "-w") kind.Width
    ∷ row (codes "--output") (codes "-o") kind.Text
    ∷ row (codes "--test-for-error") [] kind.Flag
    ∷ []
options_of verb.Eval = []

-- what each operand must be, for as many as there may be
abbrev pub operands_of : Verb → List ValueKind
operands_of verb.Gen = replicate MOST_FILES kind.Text
operands_of verb.Eval = kind.Text ∷ kind.Number ∷ kind.Script ∷ []

-- how many operands there must be
abbrev pub least_operands : Verb → ℕ
least_operands verb.Gen = 1
least_operands verb.Eval = 3
