-- Each word spells a number below 2^64, or none.
use Rattle.std.proofs.Common.{◌≤◌, ◌^◌, arith}
use Rattle.c_exprs.proofs.ConstantWords.{number_none, number_small, number_large}
use Rattle.c_exprs.proofs.constant.number_of.Goals as goal

pub returns-in-Some : goal.returns-in-Some
returns-in-Some c =
    let le : c.args.limit ≤ 2 ^ 64 = omega (arith, c.ranges.limit.fits) in
    let spelled = c.decimal_of.ensures in
    number_small c.args.limit c.args.word.now _ c.in-Some.number le spelled c.in-Some.is c.if-number-limit.true

pub returns-in_default : goal.returns-in_default
returns-in_default c =
    let le : c.args.limit ≤ 2 ^ 64 = omega (arith, c.ranges.limit.fits) in
    let spelled = c.decimal_of.ensures in
    number_large c.args.limit c.args.word.now _ c.in-Some.number le spelled c.in-Some.is c.if-number-limit.false

pub returns-in_default-2 : goal.returns-in_default-2
returns-in_default-2 c =
    let le : c.args.limit ≤ 2 ^ 64 = omega (arith, c.ranges.limit.fits) in
    number_none c.args.limit c.args.word.now _ le c.decimal_of.ensures c.in_default.is
