-- The plain tree of a list of entries: numbers of patterns, and groups with their places.
use Rattle.std.specs.Prelude.{ℕ, suc, zero, ◌+◌, max, List, [], ◌∷◌, ◌++◌, map}
use Rattle.dt_model.specs.declared.entry.Entry.{Entry, fold-Entry}
use Rattle.dt_model.specs.declared.entry.Entry.TheOpen.{Entry-F, Group-F}

-- a pattern by its number in the flat list, a group in braces or brackets; a group has its file, its line and its
-- entries
mutual
  pub data Item : Type 0 where
    one : ℕ → Item
    overlap : Cluster → Item
    exclusive : Cluster → Item

  pub data Cluster : Type 0 where
    cluster : ℕ → ℕ → Items → Cluster

  pub data Items : Type 0 where
    no_item : Items
    item : Item → Items → Items

abbrev pub items_from : List Item → Items
items_from [] = no_item
items_from (i ∷ is) = item i (items_from is)

-- one level of an entry or a group, with each part inside already seen as its plain one
abbrev pub item_step : Entry-F Item Cluster → Item
item_step (Entry-F.One n) = one n
item_step (Entry-F.Overlap g) = overlap g
item_step (Entry-F.Exclusive g) = exclusive g

abbrev pub cluster_step : Group-F Item Cluster → Cluster
cluster_step g = cluster g.file g.line (items_from g.entries.items)

abbrev pub item_of : Entry → Item
item_of = fold-Entry Item Cluster item_step cluster_step

abbrev pub items_of : List Entry → Items
items_of es = items_from (map item_of es)

-- the numbers of the patterns of entries, from left to right
abbrev mutual
  pub numbers_in : Item → List ℕ
  numbers_in (one n) = n ∷ []
  numbers_in (overlap c) = cluster_numbers c
  numbers_in (exclusive c) = cluster_numbers c

  pub cluster_numbers : Cluster → List ℕ
  cluster_numbers (cluster f l is) = numbers_of is

  pub numbers_of : Items → List ℕ
  numbers_of no_item = []
  numbers_of (item i is) = numbers_in i ++ numbers_of is

-- so many numbers, from this one on
abbrev pub numbers_from : ℕ → ℕ → List ℕ
numbers_from start zero = []
numbers_from start (suc n) = start ∷ numbers_from (start + 1) n

-- how deep groups nest: a pattern has no depth, a group one more than the entries in it, and entries that of the
-- deepest
abbrev mutual
  pub item_depth : Item → ℕ
  item_depth (one n) = 0
  item_depth (overlap c) = cluster_depth c
  item_depth (exclusive c) = cluster_depth c

  pub cluster_depth : Cluster → ℕ
  cluster_depth (cluster file line is) = depth is + 1

  pub depth : Items → ℕ
  depth no_item = 0
  depth (item i is) = max (item_depth i) (depth is)
