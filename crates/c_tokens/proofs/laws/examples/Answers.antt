use Rattle.std.proofs.Common.{refl}
use Rattle.c_tokens.specs.Tokens.{read}
use Rattle.c_tokens.proofs.laws.examples.Goals as goal

pub returns : goal.returns
unfolding read
returns c = record { all_kinds = refl; lone_slash = refl; open_comment = refl; shortest_comment = refl; lone_above = refl }
