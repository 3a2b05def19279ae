-- The rules of format lines, and what they define (docs/devel/decodetree.rst, "Formats"). The order of the rules is this
-- project's.
use Rattle.std.specs.Prelude.{ℕ, true, List, [], ◌∷◌, ◌++◌, length, slice_get}
use Rattle.dt_values.specs.Widths.{width_bits}
use Rattle.dt_fields.specs.declared.rule.Rule.TheVariants as rule
use Rattle.dt_fields.specs.Faults.{Broken, where_broken, named, number}
use Rattle.dt_scope.specs.declared.bits.Bits.{Bits}
use Rattle.dt_model.specs.declared.format.Format.{Format}
use Rattle.dt_scope.specs.declared.gather.Gathered.{Gathered}
use Rattle.dt_model.specs.declared.options.Options.{Options}
use Rattle.dt_patterns.specs.declared.infer.Choice.{Choice}
use Rattle.dt_scope.specs.Bits.{bits_at_top, is_partial}
use Rattle.dt_scope.specs.ElementRows.{element_faults}
use Rattle.dt_scope.specs.FormatsByName.{is_format}
use Rattle.dt_scope.specs.Gathering.{gathered, nothing_given}
use Rattle.dt_model.specs.Patterns.{GivenValues}
use Rattle.dt_scope.specs.Scope.{Scope}
use Rattle.dt_patterns.specs.Inference.{format_choice, sets_with}
use Rattle.dt_patterns.specs.LineArguments.{format_argument_rows}
use Rattle.dt_patterns.specs.LineBits.{meeting_rows, values_mask}
use Rattle.dt_patterns.specs.LineNames.{is_set_name_taken, new_name_row}

-- the rules of the whole line, of a format with this choice. A format may have no bits.
abbrev pub whole_format_rows : ℕ → Scope → Choice → List ℕ → Gathered → List Broken
whole_format_rows width scope choice name g =
    where_broken (is_partial width g.digits) (rule.G9, number (length g.digits))
    ++ (format_argument_rows g.values (slice_get scope.sets choice.set)
    ++ (where_broken (is_format scope.formats name) (rule.G12, named name)
    ++ (new_name_row (is_set_name_taken scope) choice.new_set
    ++ meeting_rows (values_mask g.values) (bits_at_top width g.digits))))

-- the rules that the line of a format of this name with these further tokens breaks, in order
abbrev pub format_faults : Options → Scope → List ℕ → List (List ℕ) → List Broken
format_faults options scope name tokens =
    let g = gathered (width_bits options.width) scope.fields tokens in
    element_faults true (width_bits options.width) scope nothing_given tokens
    ++ whole_format_rows (width_bits options.width) scope (format_choice options scope.sets scope.formats g) name g

-- the format of this name, with the set of this number, these bits and these values
abbrev pub format_with : List ℕ → ℕ → Bits → GivenValues → Format
format_with name set bits values = record {
  name = name;
  set = set;
  bits = bits.count;
  fixed_bits = bits.fixed_bits;
  fixed_mask = bits.fixed_mask;
  ignored = bits.ignored;
  values = values;
}

-- what a format with this choice adds
abbrev pub scope_with_format : ℕ → Scope → Choice → List ℕ → Gathered → Scope
scope_with_format width scope choice name g = record scope {
  sets = sets_with scope.sets g.values choice.new_set;
  formats = scope.formats ++ format_with name choice.set (bits_at_top width g.digits) g.values ∷ [];
}

abbrev pub after_format : Options → Scope → List ℕ → List (List ℕ) → Scope
after_format options scope name tokens =
    let g = gathered (width_bits options.width) scope.fields tokens in
    scope_with_format (width_bits options.width) scope (format_choice options scope.sets scope.formats g) name g
