use Rattle.std.proofs.Common.{◌≡◌, drop}
use Rattle.dt_model.specs.SetOrder.{given_in}
use Rattle.dt_match.specs.Readable.{AreReadable}
use Rattle.dt_match.proofs.arguments.number_in.Given as goal

abbrev pub invariant-loop-argument : goal.invariant-loop-argument
invariant-loop-argument g l = record {
  readable : AreReadable l.given;
  rest : given_in (drop l.argument-index l.given) l.name ≡ given_in l.given l.name;
}
