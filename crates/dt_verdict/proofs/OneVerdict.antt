-- Files have exactly one verdict.
use Rattle.std.proofs.Common.{◌≡◌, ℕ, ◌<◌, List, [], ◌⊎◌, Option, Some, None, refl, ap, sym, ◌∙◌, arith, inl, inr, length, map}
use Rattle.std.specs.Prelude.{AllPairs, Contains}
use Rattle.dt_forms.specs.FileFaults.{first_broken}
use Rattle.dt_forms.specs.Models.{definitions_of, entries_in_files, flat_list}
use Rattle.dt_model.specs.Trees.{Items}
use Rattle.dt_model.specs.declared.options.Options.{Options}
use Rattle.dt_forms.specs.Rules.{Fault}
use Rattle.dt_lines.specs.declared.line.Position.{Position}
use Rattle.dt_tree.specs.Entries.{exclusive_lists}
use Rattle.dt_tree.specs.EmptyGroups.{IsLeastEmpty, empty_groups}
use Rattle.dt_tree.specs.Refusals.{ShowsFirstKnot}
use Rattle.dt_verdict.specs.Verdicts.{Verdict, kept, broken, empty_group, overlapping, IsVerdict}
use Rattle.dt_tree.proofs.EmptyGroups.{least_empty}
use Rattle.dt_verdict.proofs.FileEntries.{files_in_order}
use Rattle.dt_tree.proofs.OneFirstKnot.{none_where_parted, one_first_knot, one_least_empty}
use Rattle.dt_tree.proofs.Order.{order_seen}
use Rattle.dt_tree.proofs.KnotOrNone.{some_first_knot}

none_or_some : {A : Type 0} (o : Option A) (x : A) → o ≡ None → o ≡ Some x → ⊥
none_or_some o x none some = let e : None ≡ Some x = sym none ∙ some in cc

one_fault : (o : Option Fault) (a b : Fault) → o ≡ Some a → o ≡ Some b → a ≡ b
one_fault o a b e f = let same : Some a ≡ Some b = sym e ∙ f in cc

-- no group is empty, or one is
filled_or_empty : (is : Items) (p : Position) → empty_groups is ≡ [] → IsLeastEmpty is p → ⊥
filled_or_empty is p none e = no_member (empty_groups is) none e.empty
  where
    no_member : (ps : List Position) → ps ≡ [] → Contains ps p → ⊥
    no_member ps e h = let long : length ps ≡ 0 = ap length e in let l : h.0 < length ps = h.1 in omega arith

one_shown : (options : Options) (texts : List (List ℕ)) (positions others : List Position)
    → ShowsFirstKnot (flat_list options texts) (entries_in_files options texts) positions
    → ShowsFirstKnot (flat_list options texts) (entries_in_files options texts) others → positions ≡ others
one_shown options texts positions others h k =
    one_first_knot (flat_list options texts) (entries_in_files options texts) positions others
    (order_seen (definitions_of options texts).patterns (entries_in_files options texts) (files_in_order options texts))
    h.first k.first

pub one_verdict : (options : Options) (texts : List (List ℕ)) (one other : Verdict) → IsVerdict options texts one
    → IsVerdict options texts other → one ≡ other
one_verdict options texts kept kept h k = refl
one_verdict options texts kept (broken b) h k = absurd (none_or_some (first_broken options texts) b h.0 k)
one_verdict options texts kept (empty_group p) h k =
    absurd (filled_or_empty (entries_in_files options texts) p h.1.filled k.1)
one_verdict options texts kept (overlapping ms) h k =
    absurd (none_where_parted (flat_list options texts)
    (exclusive_lists (entries_in_files options texts)) ms h.1.parted k.1.first)
one_verdict options texts (broken a) kept h k = absurd (none_or_some (first_broken options texts) a k.0 h)
one_verdict options texts (broken a) (broken b) h k = ap broken (one_fault (first_broken options texts) a b h k)
one_verdict options texts (broken a) (empty_group p) h k = absurd (none_or_some (first_broken options texts) a k.0 h)
one_verdict options texts (broken a) (overlapping ms) h k = absurd (none_or_some (first_broken options texts) a k.0 h)
one_verdict options texts (empty_group p) kept h k =
    absurd (filled_or_empty (entries_in_files options texts) p k.1.filled h.1)
one_verdict options texts (empty_group p) (broken b) h k = absurd (none_or_some (first_broken options texts) b h.0 k)
one_verdict options texts (empty_group p) (empty_group q) h k =
    ap empty_group (one_least_empty (entries_in_files options texts) p q h.1 k.1)
one_verdict options texts (empty_group p) (overlapping ms) h k =
    absurd (filled_or_empty (entries_in_files options texts) p k.1.filled h.1)
one_verdict options texts (overlapping ms) kept h k =
    absurd (none_where_parted (flat_list options texts)
    (exclusive_lists (entries_in_files options texts)) ms k.1.parted h.1.first)
one_verdict options texts (overlapping ms) (broken b) h k = absurd (none_or_some (first_broken options texts) b h.0 k)
one_verdict options texts (overlapping ms) (empty_group p) h k =
    absurd (filled_or_empty (entries_in_files options texts) p h.1.filled k.1)
one_verdict options texts (overlapping ms) (overlapping ns) h k = ap overlapping (one_shown options texts ms ns h.1 k.1)

by_knot : (options : Options) (texts : List (List ℕ)) → first_broken options texts ≡ None
    → empty_groups (entries_in_files options texts) ≡ [] → (v : Verdict) × IsVerdict options texts v
by_knot options texts none filled = elim
    (some_first_knot (definitions_of options texts).patterns (entries_in_files options texts)
    (files_in_order options texts) filled) [
      | inl parted ↦ (kept, (none, record { filled = filled; parted = parted }))
      | inr knot ↦ (overlapping knot.0, (none, record { filled = filled; first = knot.1 }))
    ]

by_groups : (options : Options) (texts : List (List ℕ)) → first_broken options texts ≡ None
    → (v : Verdict) × IsVerdict options texts v
by_groups options texts none =
    elim (least_empty (flat_list options texts) (entries_in_files options texts)
    (order_seen (definitions_of options texts).patterns (entries_in_files options texts)
    (files_in_order options texts))) [
      | inl filled ↦ by_knot options texts none filled
      | inr least ↦ (empty_group least.0, (none, least.1))
    ]

by_fault : (options : Options) (texts : List (List ℕ)) (fault : Option Fault) → first_broken options texts ≡ fault
    → (v : Verdict) × IsVerdict options texts v
by_fault options texts None none = by_groups options texts none
by_fault options texts (Some fault) some = (broken fault, some)

pub some_verdict : (options : Options) (texts : List (List ℕ)) → (v : Verdict) × IsVerdict options texts v
some_verdict options texts = by_fault options texts (first_broken options texts) refl
