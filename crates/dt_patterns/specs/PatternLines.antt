-- The rules of pattern lines, and what they define (docs/devel/decodetree.rst, "Patterns"). The order of the rules is this
-- project's.
use Rattle.std.specs.Prelude.{ℕ, ◌==◌, ◌&&◌, false, not, is_some, List, [], ◌∷◌, ◌++◌, length, slice_get, Option, Some, None}
use Rattle.dt_values.specs.Widths.{width_bits}
use Rattle.dt_fields.specs.declared.rule.Rule.TheVariants as rule
use Rattle.dt_fields.specs.Faults.{Broken, where_broken, nothing, number}
use Rattle.dt_lines.specs.declared.line.Position.{Position}
use Rattle.dt_scope.specs.declared.bits.Bits.{Bits}
use Rattle.dt_model.specs.declared.format.Format.{Format}
use Rattle.dt_model.specs.declared.pattern.Pattern.{Pattern}
use Rattle.dt_scope.specs.declared.gather.Gathered.{Gathered}
use Rattle.dt_model.specs.declared.options.Options.{Options}
use Rattle.dt_patterns.specs.declared.infer.Choice.{Choice}
use Rattle.dt_scope.specs.Bits.{bits_at_top}
use Rattle.dt_scope.specs.ElementRows.{element_faults}
use Rattle.dt_scope.specs.Gathering.{gathered, nothing_given}
use Rattle.dt_scope.specs.Marks.{pattern_mark}
use Rattle.dt_model.specs.Patterns.{GivenValues}
use Rattle.dt_scope.specs.Scope.{Scope}
use Rattle.dt_patterns.specs.Inference.{choice_of, constants_of, fields_of, formats_with, named_format, sets_with}
use Rattle.dt_patterns.specs.LineArguments.{argument_rows}
use Rattle.dt_patterns.specs.LineBits.{base_rows, base_values, bits_with_base, fields_with_base, left_rows, meeting_rows}
use Rattle.dt_patterns.specs.LineNames.{name_rows}

-- the rules of the three masks, those of the line joined with those of the format that it names
abbrev pub mask_rows : ℕ → Option Format → Gathered → List Broken
mask_rows width base g =
    let bits = bits_with_base (bits_at_top width g.digits) base in
    meeting_rows (fields_with_base g.values base) bits ++ left_rows width (fields_with_base g.values base) bits

-- the rules of the whole line, of a pattern with this choice that names this format, or none
abbrev pub whole_rows : ℕ → Scope → Choice → Option Format → List ℕ → Gathered → List Broken
whole_rows width scope choice base name g =
    where_broken (not (length g.digits == width)) (rule.G9, number (length g.digits))
    ++ (where_broken (is_some g.format && is_some g.set) (rule.G13, nothing)
    ++ (base_rows (bits_at_top width g.digits) base
    ++ (argument_rows (base_values base) g.values (slice_get scope.sets choice.set)
    ++ (name_rows scope choice name
    ++ mask_rows width base g))))

-- the rules that the line of a pattern of this name with these further tokens breaks, in order
abbrev pub pattern_faults : Options → Scope → List ℕ → List (List ℕ) → List Broken
pattern_faults options scope name tokens =
    let g = gathered (width_bits options.width) scope.fields tokens in
    element_faults false (width_bits options.width) scope nothing_given tokens
    ++ whole_rows (width_bits options.width) scope (choice_of options scope.sets scope.formats g)
    (named_format scope.formats g.format) name g

-- what a pattern sets itself: all values of its line where it names a format, and else the constants alone
abbrev pub own_values : Option Format → GivenValues → GivenValues
own_values None values = constants_of values
own_values (Some f) values = values

-- the pattern of this name, at a position, with these bits and these values of its own
abbrev pub pattern_with : Position → List ℕ → ℕ → Bits → GivenValues → Pattern
pattern_with position name format bits values = record {
  name = name;
  file = position.file;
  line = position.line;
  format = format;
  bits = bits.count;
  fixed_bits = bits.fixed_bits;
  fixed_mask = bits.fixed_mask;
  ignored = bits.ignored;
  values = values;
}

-- the pattern of a line that names this format, or none
abbrev pub pattern_of : ℕ → Choice → Option Format → Position → List ℕ → Gathered → Pattern
pattern_of width choice base position name g =
    pattern_with position name choice.format (bits_with_base (bits_at_top width g.digits) base)
    (own_values base g.values)

-- what a pattern with this choice, whose line gives these values, adds
abbrev pub scope_with_pattern : ℕ → Scope → Choice → GivenValues → Pattern → Scope
scope_with_pattern width scope choice values pattern = record scope {
  sets = sets_with scope.sets values choice.new_set;
  formats = formats_with width scope.formats choice.set (fields_of values) choice.new_format;
  patterns = scope.patterns ++ pattern ∷ [];
  marks = scope.marks ++ pattern_mark (length scope.patterns) ∷ [];
}

abbrev pub after_pattern : Options → Scope → Position → List ℕ → List (List ℕ) → Scope
after_pattern options scope position name tokens =
    let g = gathered (width_bits options.width) scope.fields tokens in
    let choice = choice_of options scope.sets scope.formats g in
    scope_with_pattern (width_bits options.width) scope choice g.values
    (pattern_of (width_bits options.width) choice (named_format scope.formats g.format) position name g)
