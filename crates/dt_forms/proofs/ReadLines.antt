-- One line more of a file, and what is left of the file.
use Rattle.std.proofs.Common.{◌≡◌, ℕ, ◌+◌, ◌<◌, List, [], ◌∷◌, ◌++◌, length, map, drop, get_or, refl, ap, ◌∙◌, sym, subst}
use Rattle.std.proofs.lemmas.List.{drop_more}
use Rattle.dt_lines.specs.Spans.{line_seen}
use Rattle.dt_lines.specs.declared.line.Logical.{Logical}
use Rattle.dt_fields.specs.Faults.{Broken, first}
use Rattle.dt_fields.specs.View.{DefBroken, detail_seen}
use Rattle.dt_fields.specs.declared.fault.DefFault.{DefFault}
use Rattle.dt_fields.specs.declared.fault.DefFault.TheVariants as def_faults
use Rattle.dt_model.specs.declared.options.Options.{Options}
use Rattle.dt_forms.specs.FileLines.{FileLine, in_file}
use Rattle.dt_forms.specs.Rules.{Fault, after_line, after_lines, fault_on, faults_from, faults_of_line}
use Rattle.dt_scope.specs.Scope.{Scope}
use Rattle.dt_forms.specs.View.{FileBroken, fault_at}
use Rattle.dt_forms.proofs.Faults.{first_on}

-- lines as those of their file
abbrev pub lines_in : ℕ → List ℕ → List Logical → List FileLine
lines_in file source lines = map (in_file file) (map (line_seen source) lines)

-- what is left begins with the line at this place
lines_left : (file : ℕ) (source : List ℕ) (lines : List Logical) (i : ℕ) (l d : Logical) → i < length lines
    → l ≡ get_or lines i d
    → lines_in file source (drop i lines) ≡ in_file file (line_seen source l)
    ∷ lines_in file source (drop (i + 1) lines)
lines_left file source lines i l d h is =
    ap (lines_in file source) (drop_more lines i d h ∙ ap (λ x. x ∷ drop (i + 1) lines) (sym is))

pub after_more : (options : Options) (file : ℕ) (source : List ℕ) (lines : List Logical) (i : ℕ) (l d : Logical)
    (old new all : Scope) → i < length lines → l ≡ get_or lines i d
    → new ≡ after_line options old (in_file file (line_seen source l))
    → after_lines options old (lines_in file source (drop i lines)) ≡ all
    → after_lines options new (lines_in file source (drop (i + 1) lines)) ≡ all
after_more options file source lines i l d old new all h is after before =
    ap (λ s. after_lines options s (lines_in file source (drop (i + 1) lines))) after
    ∙ ap (after_lines options old) (sym (lines_left file source lines i l d h is))
    ∙ before

pub faults_more : (options : Options) (file : ℕ) (source : List ℕ) (lines : List Logical) (i : ℕ) (l d : Logical)
    (old new : Scope) (all : List Fault) → i < length lines → l ≡ get_or lines i d
    → faults_of_line options old (line_seen source l) ≡ []
    → new ≡ after_line options old (in_file file (line_seen source l))
    → faults_from options old (lines_in file source (drop i lines)) ≡ all
    → faults_from options new (lines_in file source (drop (i + 1) lines)) ≡ all
faults_more options file source lines i l d old new all h is none after before =
    let here : FileLine = in_file file (line_seen source l) in
    let left : List FileLine = lines_in file source (drop (i + 1) lines) in
    ap (λ s. faults_from options s left) after
    ∙ sym (ap (λ fs. map (fault_on here) fs ++ faults_from options (after_line options old here) left) none)
    ∙ ap (faults_from options old) (sym (lines_left file source lines i l d h is))
    ∙ before

-- the fault of a line, as that of the file
line_broken : (source : List ℕ) (l : FileLine) (fault : DefFault) (faults : List Broken) (more : List Fault)
    → DefBroken source fault faults
    → FileBroken source l.file (fault_at l.file l.line.line fault) (first (map (fault_on l) faults ++ more))
line_broken source l (def_faults.Broken rule detail) faults more h = (
  record { same = sym (first_on l faults more (rule, detail_seen source detail) h.is_first); within = h.within },
  refl,
)
line_broken source l def_faults.NoMemory faults more h = tt

pub broken_here : (options : Options) (file : ℕ) (source : List ℕ) (lines : List Logical) (i : ℕ) (l d : Logical)
    (old : Scope) (fault : DefFault) (all : List Fault) → i < length lines → l ≡ get_or lines i d
    → DefBroken source fault (faults_of_line options old (line_seen source l))
    → faults_from options old (lines_in file source (drop i lines)) ≡ all
    → FileBroken source file (fault_at file l.line fault) (first all)
broken_here options file source lines i l d old fault all h is broken before =
    let here : FileLine = in_file file (line_seen source l) in
    let more : List Fault = faults_from options (after_line options old here)
    (lines_in file source (drop (i + 1) lines)) in
    subst (λ fs. FileBroken source file (fault_at file l.line fault) (first fs))
    (ap (faults_from options old) (sym (lines_left file source lines i l d h is)) ∙ before)
    (line_broken source here fault (faults_of_line options old (line_seen source l)) more broken)
