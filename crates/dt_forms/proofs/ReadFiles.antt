-- One file more, and what is left of the files.
use Rattle.std.proofs.Common.{◌≡◌, ℕ, ◌+◌, ◌<◌, List, [], ◌∷◌, ◌++◌, length, drop, get_or, ap, ◌∙◌, sym, subst}
use Rattle.std.proofs.lemmas.List.{drop_more, get_or-map}
use Rattle.dt_fields.specs.Faults.{first}
use Rattle.dt_forms.specs.declared.fault.ModelFault.{ModelFault}
use Rattle.dt_forms.specs.declared.fault.ModelFault.TheVariants as faults
use Rattle.dt_model.specs.declared.options.Options.{Options}
use Rattle.dt_forms.specs.declared.source.Source.{Source}
use Rattle.dt_forms.specs.FileLines.{FileLine, file_lines, lines_of_files}
use Rattle.dt_forms.specs.Rules.{Fault, after_lines, faults_of_file, faults_of_files}
use Rattle.dt_scope.specs.Scope.{Scope}
use Rattle.dt_forms.specs.View.{FileBroken, IsReported, ModelBroken, text_of_file, texts_of}
use Rattle.dt_forms.proofs.Faults.{after_append, first_prefix}
use Rattle.dt_forms.proofs.OpenGroups.{begun_closed, file_kept}

-- the texts of files from this place on, and their lines
abbrev pub texts_from : List Source → ℕ → List (List ℕ)
texts_from files i = texts_of (drop i files)

abbrev pub lines_from : List Source → ℕ → List FileLine
lines_from files i = lines_of_files i (texts_from files i)

texts_left : (files : List Source) (i : ℕ) (s d : Source) → i < length files → s ≡ get_or files i d
    → texts_from files i ≡ s.bytes ∷ texts_from files (i + 1)
texts_left files i s d h is = ap texts_of (drop_more files i d h ∙ ap (λ x. x ∷ drop (i + 1) files) (sym is))

module _ (options : Options) (files : List Source) where
  pub after_more : (i : ℕ) (s d : Source) (old new all : Scope) → i < length files → s ≡ get_or files i d
      → new ≡ after_lines options old (file_lines i s.bytes)
      → after_lines options old (lines_from files i) ≡ all
      → after_lines options new (lines_from files (i + 1)) ≡ all
  after_more i s d old new all h is after before =
      ap (λ x. after_lines options x (lines_from files (i + 1))) after
      ∙ sym (after_append options old (file_lines i s.bytes) (lines_from files (i + 1)))
      ∙ ap (λ ts. after_lines options old (lines_of_files i ts)) (sym (texts_left files i s d h is))
      ∙ before

  -- the faults of the files that are left are those of the next file and of the others
  faults_left : (i : ℕ) (s d : Source) (old : Scope) (all : List Fault) → i < length files → s ≡ get_or files i d
      → old.groups ≡ []
      → faults_of_files options old i (texts_from files i) ≡ all
      → faults_of_file options old i s.bytes ++ faults_of_files options (after_lines options old (file_lines i s.bytes))
      (i + 1) (texts_from files (i + 1)) ≡ all
  faults_left i s d old all h is closed before =
      sym (ap (λ x. faults_of_file options x i s.bytes
      ++ faults_of_files options (after_lines options x (file_lines i s.bytes)) (i + 1) (texts_from files (i + 1)))
      (begun_closed old closed))
      ∙ ap (faults_of_files options old i) (sym (texts_left files i s d h is))
      ∙ before

  pub faults_more : (i : ℕ) (s d : Source) (old new : Scope) (all : List Fault) → i < length files
      → s ≡ get_or files i d → old.groups ≡ []
      → faults_of_file options old i s.bytes ≡ []
      → new ≡ after_lines options old (file_lines i s.bytes)
      → faults_of_files options old i (texts_from files i) ≡ all
      → faults_of_files options new (i + 1) (texts_from files (i + 1)) ≡ all
  faults_more i s d old new all h is closed none after before =
      ap (λ x. faults_of_files options x (i + 1) (texts_from files (i + 1))) after
      ∙ sym (ap (λ fs. fs ++ faults_of_files options (after_lines options old (file_lines i s.bytes)) (i + 1)
      (texts_from files (i + 1))) none)
      ∙ faults_left i s d old all h is closed before

  pub closed_more : (i : ℕ) (s : Source) (old new : Scope) → faults_of_file options old i s.bytes ≡ []
      → new ≡ after_lines options old (file_lines i s.bytes) → new.groups ≡ []
  closed_more i s old new none after = ap (λ (x : Scope). x.groups) after ∙ (file_kept options old i s.bytes none).1

  text_here : (i : ℕ) (s d : Source) (place : ℕ) → i < length files → s ≡ get_or files i d → place ≡ i
      → text_of_file files place ≡ s.bytes
  text_here i s d place h is at = ap (text_of_file files) at ∙ get_or-map (λ (f : Source). f.bytes) files i d [] h
      ∙ ap (λ (f : Source). f.bytes) (sym is)

  -- the fault of a file, as that of all files
  file_broken : (i : ℕ) (s d : Source) (fault : ModelFault) (found more : List Fault) → i < length files
      → s ≡ get_or files i d
      → FileBroken s.bytes i fault (first found) → ModelBroken files fault (first (found ++ more))
  file_broken i s d (faults.Broken fault) found more h is broken =
      let here : IsReported s.bytes fault (first (found ++ more)) =
      record { same = sym (first_prefix found more _ (sym broken.0.same)); within = broken.0.within } in
      subst (λ (bytes : List ℕ). IsReported bytes fault (first (found ++ more)))
      (sym (text_here i s d fault.file h is broken.1)) here
  file_broken i s d faults.NoMemory found more h is broken = tt

  pub broken_here : (i : ℕ) (s d : Source) (old : Scope) (fault : ModelFault) (all : List Fault) → i < length files
      → s ≡ get_or files i d → old.groups ≡ []
      → FileBroken s.bytes i fault (first (faults_of_file options old i s.bytes))
      → faults_of_files options old i (texts_from files i) ≡ all
      → ModelBroken files fault (first all)
  broken_here i s d old fault all h is closed broken before =
      subst (λ fs. ModelBroken files fault (first fs)) (faults_left i s d old all h is closed before)
      (file_broken i s d fault (faults_of_file options old i s.bytes)
      (faults_of_files options (after_lines options old (file_lines i s.bytes)) (i + 1) (texts_from files (i + 1))) h is
      broken)
