-- The first of all faults, and faults of lines behind others.
use Rattle.std.proofs.Common.{◌≡◌, List, [], ◌∷◌, ◌++◌, map, Some, None, refl, ap, ◌∙◌, sym, append_assoc}
use Rattle.dt_fields.specs.Faults.{Broken, first}
use Rattle.dt_model.specs.declared.options.Options.{Options}
use Rattle.dt_forms.specs.FileLines.{FileLine}
use Rattle.dt_forms.specs.Rules.{Fault, after_line, after_lines, fault_on, faults_from, faults_of_line}
use Rattle.dt_scope.specs.Scope.{Scope}

pub first_prefix : {A : Type 0} (faults more : List A) (f : A) → first faults ≡ Some f → first (faults ++ more) ≡ Some f
first_prefix [] more f h = absurd (cc)
first_prefix (g ∷ faults) more f h = h

-- the first of a line's faults, in its file
pub first_on : (l : FileLine) (faults : List Broken) (more : List Fault) (b : Broken) → first faults ≡ Some b
    → first (map (fault_on l) faults ++ more) ≡ Some (fault_on l b)
first_on l [] more b h = absurd (cc)
first_on l (f ∷ faults) more b h = let same : f ≡ b = cc in ap (λ x. Some (fault_on l x)) same

pub no_first : {A : Type 0} (faults : List A) → first faults ≡ None → faults ≡ []
no_first [] h = refl
no_first (f ∷ fs) h = absurd (cc)

pub none_on : (l : FileLine) (faults : List Broken) (later : List Fault) → map (fault_on l) faults ++ later ≡ []
    → (faults ≡ []) × (later ≡ [])
none_on l [] later h = (refl, h)
none_on l (b ∷ bs) later h = absurd (cc)

module _ (options : Options) where
  pub after_append : (scope : Scope) (ls more : List FileLine)
      → after_lines options scope (ls ++ more) ≡ after_lines options (after_lines options scope ls) more
  after_append scope [] more = refl
  after_append scope (l ∷ ls) more = after_append (after_line options scope l) ls more

  pub faults_append : (scope : Scope) (ls more : List FileLine)
      → faults_from options scope (ls ++ more) ≡ faults_from options scope ls
      ++ faults_from options (after_lines options scope ls) more
  faults_append scope [] more = refl
  faults_append scope (l ∷ ls) more =
      ap (λ fs. map (fault_on l) (faults_of_line options scope l.line) ++ fs)
      (faults_append (after_line options scope l) ls more)
      ∙ sym (append_assoc (map (fault_on l) (faults_of_line options scope l.line))
      (faults_from options (after_line options scope l) ls)
      (faults_from options (after_lines options scope (l ∷ ls)) more))
