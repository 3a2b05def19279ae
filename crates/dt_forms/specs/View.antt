-- What a model's patterns and a reader's faults stand for.
use Rattle.std.specs.Prelude.{◌≡◌, ℕ, List, [], ◌++◌, map, Option, Some, get_or}
use Rattle.dt_fields.specs.View.{IsDetailWithin, detail_seen}
use Rattle.dt_fields.specs.declared.fault.DefFault.{DefFault}
use Rattle.dt_fields.specs.declared.fault.DefFault.TheVariants as def_faults
use Rattle.dt_forms.specs.Rules.{Fault}
use Rattle.dt_forms.specs.declared.source.Source.{Source}
use Rattle.dt_forms.specs.declared.fault.ModelFault.{ModelFault}
use Rattle.dt_forms.specs.declared.fault.ModelFault.TheVariants as faults
use Rattle.dt_forms.specs.declared.fault.Fault.{Fault as Reported}

-- a line's fault as that of its file
abbrev pub fault_at : ℕ → ℕ → DefFault → ModelFault
fault_at file line def_faults.NoMemory = faults.NoMemory
fault_at file line (def_faults.Broken rule detail) =
    faults.Broken (record { file = file; line = line; rule = rule; detail = detail })

abbrev pub fault_seen : List ℕ → Reported → Fault
fault_seen bytes f = record { file = f.file; line = f.line; broken = (f.rule, detail_seen bytes f.detail) }

-- the fault that is reported, in a file of these bytes, is this one
pub record IsReported (bytes : List ℕ) (fault : Reported) (expected : Option Fault) : Type 0 where
  pub same : Some (fault_seen bytes fault) ≡ expected
  pub within : IsDetailWithin bytes fault.detail

-- a fault of the file of these bytes at this place
abbrev pub FileBroken : List ℕ → ℕ → ModelFault → Option Fault → Type 0
FileBroken bytes place (faults.Broken fault) expected = IsReported bytes fault expected × (fault.file ≡ place)
FileBroken bytes place faults.NoMemory expected = Unit {0}

abbrev pub texts_of : List Source → List (List ℕ)
texts_of files = map (λ s. s.bytes) files

-- the bytes of the file at a place
abbrev pub text_of_file : List Source → ℕ → List ℕ
text_of_file files place = get_or (texts_of files) place []

abbrev pub ModelBroken : List Source → ModelFault → Option Fault → Type 0
ModelBroken files (faults.Broken fault) expected = IsReported (text_of_file files fault.file) fault expected
ModelBroken files faults.NoMemory expected = Unit {0}
