-- Entries are read back from their lines.
use Rattle.std.proofs.Common.{◌≡◌, ℕ, List, [], ◌∷◌, ◌++◌, refl, ap, ◌∙◌, sym, append_assoc}
use Rattle.std.proofs.lemmas.List.{append-nil}
use Rattle.dt_scope.specs.declared.kind.Kind.{Kind}
use Rattle.dt_scope.specs.declared.kind.Kind.TheVariants.{Brace, Bracket}
use Rattle.dt_model.specs.Trees.{Item, one, overlap, exclusive, cluster, Items, no_item, item, items_of}
use Rattle.dt_scope.specs.Marks.{grouped}
use Rattle.dt_scope.specs.Marks.{Mark, opens, closes, spelled, spelled_item, Reading, reading, opened, put_first, entries_of}
use Rattle.dt_model.specs.declared.options.Options.{Options}
use Rattle.dt_model.specs.declared.model.Model.{Model}
use Rattle.dt_forms.specs.Models.{IsModelOf, entries_in_files, marks_in_files}

abbrev joined : Items → Items → Items
joined no_item js = js
joined (item i is) js = item i (joined is js)

joined_none : (is : Items) → joined is no_item ≡ is
joined_none no_item = refl
joined_none (item i is) = ap (item i) (joined_none is)

-- entries, and what is behind them
abbrev before : Items → Reading → Reading
before is r = record r { entries = joined is r.entries }

back_group : (kind : Kind) (file line : ℕ) (is : Items) (ms : List Mark)
    → reading (spelled is ++ closes kind ∷ ms) ≡ before is (reading (closes kind ∷ ms))
    → reading (opens kind file line ∷ ((spelled is ++ closes kind ∷ []) ++ ms))
    ≡ put_first (grouped kind file line is) (reading ms)
back_group kind file line is ms inner =
    ap (λ xs. opened kind file line (reading xs).entries (reading xs).behind)
    (append_assoc (spelled is) (closes kind ∷ []) ms)
    ∙ ap (λ r. opened kind file line r.entries r.behind) inner
    ∙ ap (λ x. opened kind file line x ((reading ms).entries ∷ (reading ms).behind)) (joined_none is)

mutual
  back_item : (i : Item) (ms : List Mark) → reading (spelled_item i ++ ms) ≡ put_first i (reading ms)
  back_item (one n) ms = refl
  back_item (overlap (cluster file line is)) ms = back_group Brace file line is ms (back is (closes Brace ∷ ms))
  back_item (exclusive (cluster file line is)) ms = back_group Bracket file line is ms (back is (closes Bracket ∷ ms))

  back : (is : Items) (ms : List Mark) → reading (spelled is ++ ms) ≡ before is (reading ms)
  back no_item ms = refl
  back (item i is) ms =
      ap reading (append_assoc (spelled_item i) (spelled is) ms)
      ∙ back_item i (spelled is ++ ms)
      ∙ ap (put_first i) (back is ms)

pub one_reading : (es : Items) (marks : List Mark) → spelled es ≡ marks → es ≡ entries_of marks
one_reading es marks e =
    sym (ap (λ r. r.entries) (back es []) ∙ joined_none es)
    ∙ ap entries_of (append-nil (spelled es) ∙ e)

-- the entries of a model of files
pub model_entries : (options : Options) (texts : List (List ℕ)) (model : Model) → IsModelOf options texts model → items_of model.entries ≡ entries_in_files options texts
model_entries options texts model h = one_reading (items_of model.entries) (marks_in_files options texts) h.entries
