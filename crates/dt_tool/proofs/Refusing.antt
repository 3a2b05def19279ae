-- A refusal says what is due.
use Rattle.std.proofs.Common.{◌≡◌, ℕ, List, [], Option, Some, None, refl, ap, sym, ◌∙◌, subst, inl, inr, ◌⊎◌}
use Rattle.std.specs.Prelude.{Result, Ok, Err, IsErrAnd}
use Rattle.std.specs.Option.{option_map, option_or}
use Rattle.dt_values.specs.declared.width.Width.{Width}
use Rattle.dt_lines.specs.Faults.{FileFault, too_many_lines, long_name, line_fault}
use Rattle.dt_fields.specs.declared.fault.Detail.{Detail as Made}
use Rattle.dt_fields.specs.declared.fault.Detail.TheVariants as details
use Rattle.dt_forms.specs.declared.fault.Fault.{Fault as Reported}
use Rattle.dt_forms.specs.declared.fault.ModelFault.{ModelFault}
use Rattle.dt_forms.specs.declared.fault.ModelFault.TheVariants as faults
use Rattle.dt_forms.specs.FileFaults.{fault_in_file, fault_of_files, file_fault, first_broken}
use Rattle.dt_model.specs.declared.options.Options.{Options}
use Rattle.dt_model.specs.declared.model.Model.{Model}
use Rattle.dt_forms.specs.Models.{IsModelOf, entries_in_files, flat_list}
use Rattle.dt_model.specs.Trees.{Items, items_of}
use Rattle.dt_model.specs.Patterns.{FlatPattern}
use Rattle.dt_fields.specs.Faults.{Detail, nothing}
use Rattle.dt_forms.specs.Rules.{Fault, first_fault}
use Rattle.dt_fields.specs.View.{IsDetailWithin, detail_seen}
use Rattle.dt_forms.specs.View.{FileBroken, fault_seen}
use Rattle.dt_tree.specs.Entries.{patterns_of}
use Rattle.dt_tree.specs.Refusals.{KeepGroupRules}
use Rattle.dt_verdict.specs.Verdicts.{kept, broken, empty_group, overlapping}
use Rattle.dt_forms.proofs.Readings.{model_entries}
use Rattle.dt_tool.specs.Due.{text_of, IsDueOfFiles}
use Rattle.dt_tool.specs.Tasks.{refused, written}
use Rattle.dt_tool.specs.Messages as said
use Rattle.dt_tool.specs.Refusals.{IsFaultWithin, NamesEmpty, NamesKnot, RefusesEntries, RefusesFault, SaysFault}
use Rattle.dt_tool.specs.Refusals.{SaysThis}
use Rattle.dt_tool.specs.Stops.{Refuses}
use Rattle.dt_tool.specs.declared.stop.Stop.{Stop}
use Rattle.dt_tool.specs.declared.stop.Stop.TheVariants as stops

-- what is said names a fault that there is
names_fault : (width : Width) (names : List (List ℕ)) (expected : Option Fault) (fault : Fault) (stop : Stop)
    → Some fault ≡ expected → SaysThis stop (said.fault_message width names fault)
    → RefusesFault stop width names expected
names_fault width names expected fault (stops.ReadFault message) there says = says
names_fault width names expected fault (stops.Refused message) there says =
    record {
      fault = fault;
      there = sym there;
      shown = same_text message.items
          (said.fault_message width names fault) says;
    }
  where
    same_text : (a b : List ℕ) → refused a ≡ refused b → a ≡ b
    same_text a b e = cc
names_fault width names expected fault stops.NoMemory there says = tt

-- that memory runs out names none
no_fault : (width : Width) (names : List (List ℕ)) (expected : Option Fault) (stop : Stop) → stop ≡ stops.NoMemory
    → RefusesFault stop width names expected
no_fault width names expected stop is = let P : Stop
    → Type 0 = λ s. RefusesFault s width names expected in subst P (sym is) tt

one_fault : (a b : Fault) → Some a ≡ Some b → a ≡ b
one_fault a b e = cc

-- a fault of a whole file has no detail
has_no_detail : (place : ℕ) (bytes : List ℕ) (fault : Reported) (found : Option FileFault)
    → Some (fault_seen bytes fault) ≡ option_map (fault_in_file place) found → detail_seen bytes fault.detail ≡ nothing
has_no_detail place bytes fault None e = absurd (cc)
has_no_detail place bytes fault (Some too_many_lines) e =
    ap (λ (f : Fault). f.broken.1) (one_fault (fault_seen bytes fault) (fault_in_file place too_many_lines) e)
has_no_detail place bytes fault (Some (long_name line)) e =
    ap (λ (f : Fault). f.broken.1) (one_fault (fault_seen bytes fault) (fault_in_file place (long_name line)) e)

without_detail : (bytes : List ℕ) (detail : Made) → detail_seen bytes detail ≡ nothing
    → IsDetailWithin [] detail × (detail_seen [] detail ≡ detail_seen bytes detail)
without_detail bytes details.None e = (tt, refl)
without_detail bytes (details.Text span) e = absurd (cc)
without_detail bytes (details.Named name) e = absurd (cc)
without_detail bytes (details.Number n) e = absurd (cc)
without_detail bytes (details.Mask m) e = absurd (cc)

-- a fault of a whole file is refused, without its bytes
pub file_refused : (width : Width) (names : List (List ℕ)) (place : ℕ) (bytes : List ℕ) (fault : ModelFault)
    (stop : Stop) → FileBroken bytes place fault (file_fault place bytes) → SaysFault width names [] fault stop
    → RefusesFault stop width names (file_fault place bytes)
file_refused width names place bytes (faults.Broken fault) stop h says =
    let same : detail_seen [] fault.detail ≡ detail_seen bytes fault.detail =
    (without_detail bytes fault.detail (has_no_detail place bytes fault (line_fault bytes) h.0.same)).1 in
    let seen : Detail → Fault = λ d. record { file = fault.file; line = fault.line; broken = (fault.rule, d) } in
    names_fault width names (file_fault place bytes) (fault_seen [] fault) stop
    (ap (λ (f : Fault). Some f) (ap seen same) ∙ h.0.same) says
file_refused width names place bytes faults.NoMemory stop h says =
    no_fault width names (file_fault place bytes) stop says

-- the detail of such a fault lies in no bytes
pub file_within : (place : ℕ) (bytes : List ℕ) (fault : ModelFault)
    → FileBroken bytes place fault (file_fault place bytes) → IsFaultWithin [] fault
file_within place bytes (faults.Broken fault) h =
    (without_detail bytes fault.detail (has_no_detail place bytes fault (line_fault bytes) h.0.same)).0
file_within place bytes faults.NoMemory h = tt

-- what is handed on by a `?`
pub handed_on : {A : Type 0} (P : Result A Stop → Type 0) (result : Result A Stop) (stop : Stop)
    → IsErrAnd result (λ handed. handed ≡ stop) → P (Err stop) → P result
handed_on P (Ok text) stop is h = absurd is
handed_on {A} P (Err handed) stop is h = let Q : Stop → Type 0 = λ s. P (Err s) in subst Q (sym is) h

module _ (options : Options) (names texts : List (List ℕ)) where
  -- files break first what a whole file does, else what their lines do
  pub unbroken : fault_of_files 0 texts ≡ None → first_fault options texts ≡ None → first_broken options texts ≡ None
  unbroken whole lines = ap (λ f. option_or f (first_fault options texts)) whole ∙ lines

  broken_due : (expected : Option Fault) (stop : Stop)
      → ((fault : Fault) → expected ≡ Some fault → first_broken options texts ≡ Some fault)
      → RefusesFault stop options.width names expected → Refuses stop (IsDueOfFiles options names texts)
  broken_due expected (stops.ReadFault message) first h = absurd h
  broken_due expected (stops.Refused message) first h =
      record { verdict = broken h.fault; stands = first h.fault h.there; due = ap refused (sym h.shown) }
  broken_due expected stops.NoMemory first h = tt

  -- a refusal of a whole file is due, and one of lines
  pub files_due : (stop : Stop) → RefusesFault stop options.width names (fault_of_files 0 texts)
      → Refuses stop (IsDueOfFiles options names texts)
  files_due stop h = broken_due (fault_of_files 0 texts) stop
      (λ fault is. ap (λ f. option_or f (first_fault options texts)) is) h

  pub lines_due : (stop : Stop) → fault_of_files 0 texts ≡ None
      → RefusesFault stop options.width names (first_fault options texts)
      → Refuses stop (IsDueOfFiles options names texts)
  lines_due stop whole h = broken_due (first_fault options texts) stop
      (λ fault is. ap (λ f. option_or f (first_fault options texts)) whole ∙ is) h

  -- and one of entries
  named_due : (message : List ℕ) → first_broken options texts ≡ None
      → NamesEmpty names texts (entries_in_files options texts) message
      ⊎ NamesKnot names texts (flat_list options texts) (entries_in_files options texts) message
      → IsDueOfFiles options names texts (refused message)
  named_due message none (inl empty) =
      record { verdict = empty_group empty.position; stands = (none, empty.least); due = ap refused (sym empty.shown) }
  named_due message none (inr knot) =
      record { verdict = overlapping knot.positions; stands = (none, knot.first); due = ap refused (sym knot.shown) }

  entries_refused : (stop : Stop) → first_broken options texts ≡ None
      → RefusesEntries stop names texts (flat_list options texts) (entries_in_files options texts)
      → Refuses stop (IsDueOfFiles options names texts)
  entries_refused (stops.ReadFault message) none h = absurd h
  entries_refused (stops.Refused message) none h = named_due message.items none h
  entries_refused stops.NoMemory none h = tt

  pub entries_due : (model : Model) (stop : Stop) → first_broken options texts ≡ None → IsModelOf options texts model
      → RefusesEntries stop names texts (patterns_of model) (items_of model.entries)
      → Refuses stop (IsDueOfFiles options names texts)
  entries_due model stop none is h =
      entries_refused stop none
      (subst (λ (ps : List FlatPattern). RefusesEntries stop names texts ps (entries_in_files options texts)) is.flat
      (subst (λ (items : Items). RefusesEntries stop names texts (patterns_of model) items)
      (model_entries options texts model is) h))

  -- a text of entries that are told apart is due
  pub kept_due : (text : List ℕ) (model : Model) → first_broken options texts ≡ None → IsModelOf options texts model
      → KeepGroupRules (patterns_of model) (items_of model.entries)
      → text ≡ text_of options texts → IsDueOfFiles options names texts (written text)
  kept_due text model none is told e =
      record {
        verdict = kept;
        stands = (
          none,
          subst (λ (ps : List FlatPattern). KeepGroupRules ps (entries_in_files options texts)) is.flat
              (subst (λ (items : Items). KeepGroupRules (patterns_of model) items)
              (model_entries options texts model is) told),
        );
        due = ap written (sym e);
      }
