use Rattle.std.proofs.Common.{◌≡◌, ◌++◌}
use Rattle.dt_patterns.specs.Inference.{constants_of, fields_of}
use Rattle.dt_patterns.proofs.inferred.shares_of.Given as goal

abbrev pub invariant-loop-value : goal.invariant-loop-value
invariant-loop-value l = record {
  fields : l.fields.items ++ fields_of l.value-iterator.rest.items ≡ fields_of l.fn.values;
  constants : l.constants.items ++ constants_of l.value-iterator.rest.items ≡ constants_of l.fn.values;
}
