-- What a model's patterns stand for.
use Rattle.std.specs.Prelude.{ℕ, List, [], ◌++◌, map, get_or}
use Rattle.dt_values.specs.declared.ctype.Member.{Member}
use Rattle.dt_values.specs.declared.set.SetDef.{SetDef}
use Rattle.dt_model.specs.Patterns.{FlatPattern, GivenValues, TrialPattern}
use Rattle.dt_model.specs.declared.format.Format.{Format}
use Rattle.dt_model.specs.declared.pattern.Pattern.{Pattern}

-- a model's pattern as one of the flat list
abbrev pub pattern_seen : Pattern → FlatPattern
pattern_seen p = record {
  name = p.name;
  file = p.file;
  line = p.line;
  bits = p.bits;
  fixed_mask = p.fixed_mask;
  fixed_bits = p.fixed_bits;
}

-- a pattern has the set of the format that it names
abbrev pub set_of_format : List Format → ℕ → ℕ
set_of_format formats place = get_or (map (λ f. f.set) formats) place 0

-- the number of a pattern's set
abbrev pub set_number : List Format → Pattern → ℕ
set_number formats p = set_of_format formats p.format

-- the arguments of a pattern's set
abbrev pub members_of_pattern : List SetDef → List Format → Pattern → List Member
members_of_pattern sets formats p = get_or (map (λ s. s.members) sets) (set_number formats p) []

-- what they get, by the pattern's format and by its own line
abbrev pub given_values : List Format → Pattern → GivenValues
given_values formats p = get_or (map (λ f. f.values) formats) p.format [] ++ p.values

-- a model's pattern as it is tried
abbrev pub trial_pattern : List SetDef → List Format → Pattern → TrialPattern
trial_pattern sets formats p = record {
  flat = pattern_seen p;
  members = members_of_pattern sets formats p;
  values = given_values formats p;
}
