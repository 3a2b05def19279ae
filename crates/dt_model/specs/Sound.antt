-- What holds of every model that is read of pattern files, and of every pattern of their flat list: among it, that no
-- field refers to an argument.
use Rattle.std.specs.Prelude.{◌≡◌, ◌≢◌, ◌-◌, ◌+◌, ◌<◌, ◌≤◌, ◌^◌, ◌⊎◌, ℕ, bit_and, ℤ, pos, neg_ℤ, ◌≤ℤ◌}
use Rattle.std.specs.Prelude.{List, [], ◌∷◌, ◌++◌, length, get_or, map, All, AllPairs, IsPermutation}
use Rattle.dt_values.specs.Names.{IsName}
use Rattle.dt_values.specs.Widths.{width_bits}
use Rattle.dt_lines.specs.declared.line.Position.{Position}
use Rattle.dt_fields.specs.declared.field.FieldDef.{FieldDef}
use Rattle.dt_fields.specs.declared.segment.Segment.{Segment}
use Rattle.dt_fields.specs.declared.segment.Segment.TheVariants as segment
use Rattle.dt_values.specs.declared.set.SetDef.{SetDef}
use Rattle.dt_model.specs.declared.format.Format.{Format}
use Rattle.dt_model.specs.declared.pattern.Pattern.{Pattern}
use Rattle.dt_model.specs.declared.model.Model.{Model}
use Rattle.dt_model.specs.declared.limits.TheConstants.{MOST_DEPTH, MOST_PATTERNS}
use Rattle.dt_model.specs.declared.value.FieldValue.{FieldValue}
use Rattle.dt_model.specs.declared.value.FieldValue.TheVariants.{Field, Constant}
use Rattle.dt_fields.specs.SoundFields.{IsSoundField}
use Rattle.dt_fields.specs.SoundSets.{IsSoundSet}
use Rattle.dt_model.specs.Models.{Definitions, definitions_in}
use Rattle.dt_model.specs.View.{set_number, given_values, members_of_pattern, pattern_seen}
use Rattle.dt_model.specs.Patterns.{FlatPattern, GivenValues, position_of}
use Rattle.dt_model.specs.Trees.{Item, one, overlap, exclusive, Cluster, cluster, Items, no_item, item}
use Rattle.dt_model.specs.Trees.{depth, items_of, numbers_of, numbers_from}

-- fixed and ignored masks of words of so many bits: they share no bit, and what is fixed lies in its mask
pub record AreMasks (width fixed_bits fixed_mask ignored : ℕ) : Type 0 where
  pub fixed_below : fixed_mask < 2 ^ width
  pub ignored_below : ignored < 2 ^ width
  pub bits_in_mask : bit_and fixed_bits fixed_mask ≡ fixed_bits
  pub apart : bit_and fixed_mask ignored ≡ 0

abbrev pub FormatHasMasks : ℕ → Format → Type 0
FormatHasMasks width f = AreMasks width f.fixed_bits f.fixed_mask f.ignored

-- the bits that a pattern ignores are of the word, and it fixes none of them
pub record IgnoresOthers (width : ℕ) (p : Pattern) : Type 0 where
  pub ignored_below : p.ignored < 2 ^ width
  pub apart : bit_and p.fixed_mask p.ignored ≡ 0

-- a position comes before another: in an earlier file, or in the same file on an earlier line
abbrev pub IsEarlier : Position → Position → Type 0
IsEarlier a b = (a.file < b.file) ⊎ ((a.file ≡ b.file) × (a.line < b.line))

-- the position of a pattern's line
abbrev pub pattern_position : Pattern → Position
pattern_position p = position_of (pattern_seen p)

-- a pattern stands before another
abbrev pub IsBefore : Pattern → Pattern → Type 0
IsBefore p q = IsEarlier (pattern_position p) (pattern_position q)

-- the positions of entries, from left to right: that of a pattern by its number, and a group's own before those of its
-- entries
abbrev mutual
  pub item_positions : List Pattern → Item → List Position
  item_positions patterns (one n) = get_or (map pattern_position patterns) n (record { file = 0; line = 0 }) ∷ []
  item_positions patterns (overlap c) = cluster_positions patterns c
  item_positions patterns (exclusive c) = cluster_positions patterns c

  pub cluster_positions : List Pattern → Cluster → List Position
  cluster_positions patterns (cluster file line is) =
      record { file = file; line = line } ∷ positions_of patterns is

  pub positions_of : List Pattern → Items → List Position
  positions_of patterns no_item = []
  positions_of patterns (item i is) = item_positions patterns i ++ positions_of patterns is

-- the names of the arguments of a pattern's set
abbrev pub argument_names : List SetDef → List Format → Pattern → List (List ℕ)
argument_names sets formats p = map (λ m. m.name) (members_of_pattern sets formats p)

-- the names that a pattern gives a value: those of its format, then its own
abbrev pub given_names : List Format → Pattern → List (List ℕ)
given_names formats p = map (λ v. v.0) (given_values formats p)

-- a pattern gives each argument of its set a value, once, and none to any other name
abbrev pub GivesArguments : List SetDef → List Format → Pattern → Type 0
GivesArguments sets formats p = IsPermutation (given_names formats p) (argument_names sets formats p)

-- bits of the word
abbrev pub IsOfWord : Segment → Type 0
IsOfWord (segment.Bits place length signed) = Unit {0}
IsOfWord (segment.Named name length signed) = ⊥

-- no segment names an argument
abbrev pub HasNoReference : FieldDef → Type 0
HasNoReference field = All IsOfWord field.segments

-- from -2^31 to 2^32 - 1
abbrev pub IsSoundConstant : ℤ → Type 0
IsSoundConstant z = (neg_ℤ (pos (2 ^ 31)) ≤ℤ z) × (z ≤ℤ pos (2 ^ 32 - 1))

-- what an argument gets in words of so many bits: a sound field without references, or a constant in its range
abbrev pub IsSoundValue : ℕ → FieldValue → Type 0
IsSoundValue width (Field field) = IsSoundField width field × HasNoReference field
IsSoundValue width (Constant z) = IsSoundConstant z

abbrev pub AreSoundValues : ℕ → GivenValues → Type 0
AreSoundValues width values = All (λ v. IsSoundValue width v.1) values

-- patterns of one name have one set
abbrev pub HaveOneSet : List Format → Pattern → Pattern → Type 0
HaveOneSet formats p q = p.name ≡ q.name → set_number formats p ≡ set_number formats q

-- a pattern of words of so many bits, of files that break no rule of lines: a name, a mask and bits below 2 ^ width, no
-- bit outside the mask, and a file and a line that fit in 16 and 32 bits
pub record IsSoundPattern (width : ℕ) (p : FlatPattern) : Type 0 where
  pub named : IsName p.name
  pub bits : p.bits ≡ width
  pub mask_below : p.fixed_mask < 2 ^ width
  pub bits_below : p.fixed_bits < 2 ^ width
  pub bits_in_mask : bit_and p.fixed_bits p.fixed_mask ≡ p.fixed_bits
  pub file_below : p.file < 2 ^ 16
  pub line_below : p.line < 2 ^ 32

-- sets, and formats of words of so many bits
pub record AreSoundFormats (width : ℕ) (d : Definitions) : Type 0 where
  pub sets : All IsSoundSet d.sets
  pub set_names : AllPairs (λ s t. s.name ≢ t.name) d.sets
  pub named : All (λ f. IsName f.name) d.formats
  pub names : AllPairs (λ f g. f.name ≢ g.name) d.formats
  pub set_numbers : All (λ f. f.set < length d.sets) d.formats
  pub masks : All (FormatHasMasks width) d.formats
  pub values : All (λ f. AreSoundValues width f.values) d.formats

-- patterns of these formats
pub record AreSoundPatterns (width : ℕ) (d : Definitions) : Type 0 where
  pub few : length d.patterns ≤ MOST_PATTERNS
  pub flat : All (IsSoundPattern width) (map pattern_seen d.patterns)
  pub ignored : All (IgnoresOthers width) d.patterns
  pub positions : AllPairs IsBefore d.patterns
  pub format_numbers : All (λ p. p.format < length d.formats) d.patterns
  pub one_set : AllPairs (HaveOneSet d.formats) d.patterns
  pub arguments : All (GivesArguments d.sets d.formats) d.patterns
  pub values : All (λ p. AreSoundValues width p.values) d.patterns

-- entries that are these patterns, each once and in order, in groups
pub record AreSoundEntries (patterns : List Pattern) (items : Items) : Type 0 where
  pub each_once : numbers_of items ≡ numbers_from 0 (length patterns)
  pub nested : depth items ≤ MOST_DEPTH
  pub positions : AllPairs IsEarlier (positions_of patterns items)

pub record IsSound (model : Model) : Type 0 where
  pub formats : AreSoundFormats (width_bits model.width) (definitions_in model)
  pub patterns : AreSoundPatterns (width_bits model.width) (definitions_in model)
  pub entries : AreSoundEntries model.patterns (items_of model.entries)
