use Rattle.std.proofs.Common.{refl}
use Rattle.std.specs.Fmt.{digits}
use Rattle.c_tokens.specs.Tokens.{read}
use Rattle.dt_text.specs.Hexadecimal.{hex}
use Rattle.c_subset.specs.Programs.{spelling}
use Rattle.c_subset.proofs.ExampleRules.{empty_keeps, nop_keeps, arguments_keep, branch_keeps, assigned_keeps}
use Rattle.c_subset.proofs.ExampleRules.{placed_keep}
use Rattle.c_subset.proofs.laws.examples.Goals as goal

pub returns-clause-empty : goal.returns-clause-empty
unfolding read spelling hex
returns-clause-empty c = record { rules = empty_keeps; tokens = refl }

pub returns-clause-nop : goal.returns-clause-nop
unfolding read spelling hex
returns-clause-nop c = record { rules = nop_keeps; tokens = refl }

pub returns-clause-arguments : goal.returns-clause-arguments
unfolding read spelling hex
returns-clause-arguments c = record { rules = arguments_keep; tokens = refl }

pub returns-clause-branch : goal.returns-clause-branch
unfolding read spelling hex digits
returns-clause-branch c = record { rules = branch_keeps; tokens = refl }

pub returns-clause-assigned : goal.returns-clause-assigned
unfolding read spelling hex digits
returns-clause-assigned c = record { rules = assigned_keeps; tokens = refl }

pub returns-clause-placed : goal.returns-clause-placed
unfolding read spelling hex digits
returns-clause-placed c = record { rules = placed_keep; tokens = refl }
