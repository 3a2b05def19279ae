-- Files whose lines are read one after another.
use Rattle.std.proofs.Common.{◌≡◌, ℕ, ◌+◌, ◌≤◌, List, [], ◌∷◌, ◌++◌, length, get_or, None, ap, sym, ◌∙◌, subst, arith}
use Rattle.std.proofs.Common.{inl, inr, append_assoc}
use Rattle.std.proofs.Math.Seq.{get_or-append_seam}
use Rattle.std.proofs.lemmas.Bool.{cases_lt}
use Rattle.std.proofs.lemmas.List.{get_or_append_left, length-append, map-append}
use Rattle.std.proofs.lemmas.List.Elements.{All-tail}
use Rattle.std.specs.Prelude.{All, Vec}
use Rattle.std.specs.Option.{option_or}
use Rattle.dt_lines.specs.declared.limits.TheConstants.{LARGEST_FILE}
use Rattle.dt_forms.specs.FileFaults.{fault_of_files, file_fault}
use Rattle.dt_forms.specs.Sources.{AreSources, IsSourceAt}
use Rattle.dt_forms.specs.View.{texts_of}
use Rattle.dt_forms.specs.declared.source.Source.{Source}
use Rattle.dt_tool.specs.View.{contents}

-- these are the sources of the first of these texts, and those are left
pub record AreRead (texts : List (List ℕ)) (sources : List Source) (left : List (List ℕ)) : Type 0 where
  pub all : texts_of sources ++ left ≡ texts
  pub small : All (λ text. length text ≤ LARGEST_FILE) left
  pub read : AreSources sources
  pub faults : fault_of_files 0 texts ≡ fault_of_files (length sources) left

more_sources : (sources : List Source) (source : Source) → AreSources sources → IsSourceAt (length sources) source
    → AreSources (sources ++ source ∷ [])
more_sources sources source are is place d h = elim (cases_lt place (length sources)) [
  | inl within ↦ (let P : Source → Type 0 =
      λ s. IsSourceAt place s in subst P (sym (get_or_append_left sources (source ∷ []) d place within))
      (are place d within))
  | inr last ↦ (
      let longer : length (sources ++ source ∷ []) ≡ length sources + 1 = length-append sources (source ∷ []) in
      let here : length sources ≡ place = omega arith in
      let P : ℕ → Type 0 = λ n. IsSourceAt n (get_or (sources ++ source ∷ []) n d) in
      let Q : Source → Type 0 = λ s. IsSourceAt (length sources) s in
      subst P here (subst Q (sym (get_or-append_seam sources source [] d)) is)
      )
]

pub one_more_read : (texts : List (List ℕ)) (sources : List Source) (source : Source) (text : List ℕ)
    (left : List (List ℕ)) → AreRead texts sources (text ∷ left)
    → IsSourceAt (length sources) source → source.bytes ≡ text → file_fault (length sources) text ≡ None
    → AreRead texts (sources ++ source ∷ []) left
one_more_read texts sources source text left read is bytes kept = record {
  all = ap (λ ts. ts ++ left) (map-append (λ (s : Source). s.bytes) sources (source ∷ []))
      ∙ append_assoc (texts_of sources) (source.bytes ∷ []) left
      ∙ ap (λ t. texts_of sources ++ t ∷ left) bytes ∙ read.all;
  small = All-tail (λ t. length t ≤ LARGEST_FILE) text left read.small;
  read = more_sources sources source read.read is;
  faults = read.faults ∙ ap (λ f. option_or f (fault_of_files (length sources + 1) left)) kept
      ∙ ap (λ n. fault_of_files n left) (sym (length-append sources (source ∷ [])));
}

-- the same of lists of the code
pub read_pushed : {A : Type 0} (texts : List (List ℕ)) (sources new : List Source) (source : Source)
    (files left : List (Vec ℕ A)) (bytes : Vec ℕ A) → new ≡ sources ++ source ∷ [] → files ≡ bytes ∷ left
    → AreRead texts sources (contents files) → IsSourceAt (length sources) source → source.bytes ≡ bytes.items
    → file_fault (length sources) bytes.items ≡ None → AreRead texts new (contents left)
read_pushed texts sources new source files left bytes pushed next read is same kept =
    subst (λ (ss : List Source). AreRead texts ss (contents left)) (sym pushed)
    (one_more_read texts sources source bytes.items (contents left)
    (subst (λ (ts : List (List ℕ)). AreRead texts sources ts) (ap contents next) read) is same kept)
