-- What entries are as lines: a group is the line that opens it, its entries, and the line that closes it
-- (docs/devel/decodetree.rst, "Pattern Groups").
use Rattle.std.specs.Prelude.{ℕ, List, [], ◌∷◌, ◌++◌}
use Rattle.dt_scope.specs.declared.kind.Kind.{Kind}
use Rattle.dt_scope.specs.declared.kind.Kind.TheVariants.{Brace, Bracket}
use Rattle.dt_model.specs.Trees.{Item, one, overlap, exclusive, Cluster, cluster, Items, no_item, item}

-- a group of this kind
abbrev pub grouped : Kind → ℕ → ℕ → Items → Item
grouped Brace file line is = overlap (cluster file line is)
grouped Bracket file line is = exclusive (cluster file line is)

-- a line opens a group, in its file and at its number; closes one; or is the pattern of this number
pub data Mark : Type 0 where
  opens : Kind → ℕ → ℕ → Mark
  closes : Kind → Mark
  pattern_mark : ℕ → Mark

-- the lines of entries, from left to right
abbrev mutual
  pub spelled_item : Item → List Mark
  spelled_item (one n) = pattern_mark n ∷ []
  spelled_item (overlap c) = spelled_group Brace c
  spelled_item (exclusive c) = spelled_group Bracket c

  pub spelled_group : Kind → Cluster → List Mark
  spelled_group kind (cluster file line is) = opens kind file line ∷ (spelled is ++ closes kind ∷ [])

  pub spelled : Items → List Mark
  spelled no_item = []
  spelled (item i is) = spelled_item i ++ spelled is

-- What is read from the last line on: the entries before the first line that closes a group which none of these opens,
-- then those behind it up to the next such line, and so on.
pub record Reading : Type 0 where
  pub entries : Items
  pub behind : List Items

abbrev pub put_first : Item → Reading → Reading
put_first i r = record r { entries = item i r.entries }

abbrev pub opened : Kind → ℕ → ℕ → Items → List Items → Reading
opened kind file line is [] = record { entries = no_item; behind = [] }
opened kind file line is (outer ∷ behind) = record { entries = item (grouped kind file line is) outer; behind = behind }

abbrev pub reading : List Mark → Reading
reading [] = record { entries = no_item; behind = [] }
reading (opens kind file line ∷ ms) = opened kind file line (reading ms).entries (reading ms).behind
reading (closes kind ∷ ms) = record { entries = no_item; behind = (reading ms).entries ∷ (reading ms).behind }
reading (pattern_mark n ∷ ms) = put_first (one n) (reading ms)

-- the entries that these lines are
abbrev pub entries_of : List Mark → Items
entries_of ms = (reading ms).entries
