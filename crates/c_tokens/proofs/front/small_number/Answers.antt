use Rattle.std.proofs.Common.{rules, ◌≡◌, ◌<◌, ◌≤◌, ◌^◌, Some, refl, arith}
use Rattle.std.proofs.lemmas.Bool.Decides.{nat_tests}
use Rattle.c_tokens.proofs.WordsRead.{small_some, small_large}
use Rattle.c_tokens.proofs.front.small_number.Goals as goal

pub returns-in-Some : goal.returns-in-Some
returns-in-Some c =
    let below : c.in-Some.number < 2 ^ 32 = omega (arith, nat_tests, c.if-number.true) in
    small_some c.args.word.now (Some c.in-Some.number) c.in-Some.number c.in-Some.ensures refl below

pub returns-in_default : goal.returns-in_default
returns-in_default c =
    let above : 2 ^ 32 ≤ c.in-Some.number = omega (arith, nat_tests, c.if-number.false) in
    small_large c.args.word.now (Some c.in-Some.number) c.in-Some.number c.in-Some.ensures refl above
