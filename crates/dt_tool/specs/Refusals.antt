-- How a refusal names what the inputs break: a fault of a file or a line, an empty group, or a knot (docs/COMMANDS.md,
-- "Rules").
use Rattle.std.specs.Prelude.{ℕ, ◌≡◌, ◌⊎◌, List, Option, Some, None}
use Rattle.dt_values.specs.declared.width.Width.{Width}
use Rattle.dt_lines.specs.declared.line.Position.{Position}
use Rattle.dt_forms.specs.declared.fault.ModelFault.{ModelFault}
use Rattle.dt_forms.specs.declared.fault.ModelFault.TheVariants as faults
use Rattle.dt_forms.specs.declared.source.Source.{Source}
use Rattle.dt_model.specs.Patterns.{FlatPattern}
use Rattle.dt_forms.specs.Rules.{Fault}
use Rattle.dt_fields.specs.View.{IsDetailWithin}
use Rattle.dt_fields.specs.declared.rule.Rule.TheVariants as rule
use Rattle.dt_forms.specs.View.{fault_seen, text_of_file}
use Rattle.dt_model.specs.Trees.{Items}
use Rattle.dt_tree.specs.EmptyGroups.{IsLeastEmpty}
use Rattle.dt_tree.specs.Refusals.{ShowsFirstKnot}
use Rattle.c_subset.specs.declared.fault.CFault.{CFault}
use Rattle.c_subset.specs.declared.fault.CFault.TheVariants as cfaults
use Rattle.dt_tool.specs.Tasks.{refused}
use Rattle.dt_tool.specs.declared.refusal.Refusal.TheVariants as refusal
use Rattle.dt_tool.specs.Messages as said
use Rattle.dt_tool.specs.Stops.{Refuses}
use Rattle.dt_tool.specs.declared.stop.Stop.{Stop}
use Rattle.dt_tool.specs.declared.stop.Stop.TheVariants as stops

-- the token of a fault's detail lies in its file
abbrev pub IsFaultWithin : List Source → ModelFault → Type 0
IsFaultWithin sources (faults.Broken fault) = IsDetailWithin (text_of_file sources fault.file) fault.detail
IsFaultWithin sources faults.NoMemory = Unit {0}

-- this message is what a stop says, unless memory runs out
abbrev pub SaysThis : Stop → List ℕ → Type 0
SaysThis stop message = Refuses stop (λ due. due ≡ refused message)

abbrev pub SaysFault : Width → List (List ℕ) → List Source → ModelFault → Stop → Type 0
SaysFault width names sources (faults.Broken fault) stop =
    SaysThis stop (said.fault_message width names (fault_seen (text_of_file sources fault.file) fault))
SaysFault width names sources faults.NoMemory stop = stop ≡ stops.NoMemory

-- a text names this fault, which there is
pub record NamesFault (width : Width) (names : List (List ℕ)) (expected : Option Fault) (text : List ℕ) : Type 0 where
  pub fault : Fault
  pub there : expected ≡ Some fault
  pub shown : text ≡ said.fault_message width names fault

abbrev pub RefusesFault : Stop → Width → List (List ℕ) → Option Fault → Type 0
RefusesFault (stops.ReadFault message) width names expected = ⊥
RefusesFault (stops.Refused message) width names expected = NamesFault width names expected message.items
RefusesFault stops.NoMemory width names expected = Unit {0}

-- a text names the first group that has no entry, by its position
pub record NamesEmpty (names texts : List (List ℕ)) (items : Items) (text : List ℕ) : Type 0 where
  pub position : Position
  pub least : IsLeastEmpty items position
  pub shown : text ≡ said.entry_message rule.H1 names texts position

-- a text names the members of the first knot of these entries, by their positions
pub record NamesKnot (names texts : List (List ℕ)) (ps : List FlatPattern) (items : Items)
    (text : List ℕ) : Type 0 where
  pub positions : List Position
  pub first : ShowsFirstKnot ps items positions
  pub shown : text ≡ said.overlap_message names texts positions

abbrev pub RefusesEntries : Stop → List (List ℕ) → List (List ℕ) → List FlatPattern → Items → Type 0
RefusesEntries (stops.ReadFault message) names texts ps items = ⊥
RefusesEntries (stops.Refused message) names texts ps items =
    NamesEmpty names texts items message.items ⊎ NamesKnot names texts ps items message.items
RefusesEntries stops.NoMemory names texts ps items = Unit {0}

-- what is said of a C text that no program is read of
abbrev pub SaysUnreadText : CFault → Stop → Type 0
SaysUnreadText cfaults.TooDeep stop = SaysThis stop (said.refusal_message refusal.C2 None)
SaysUnreadText cfaults.NotSubset stop = SaysThis stop (said.refusal_message refusal.C1 None)
SaysUnreadText cfaults.NoMemory stop = stop ≡ stops.NoMemory
