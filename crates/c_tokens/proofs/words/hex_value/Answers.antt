use Rattle.std.proofs.Common.{◌+◌, ◌<◌, ◌^◌, length, refl, sym, ap, ◌∙◌, subst}
use Rattle.dt_text.specs.Hexadecimal.{hex}
use Rattle.c_tokens.proofs.Hexadecimal.{hex_few, hex_more, hex_below, no_digit}
use Rattle.c_tokens.proofs.words.hex_value.Goals as goal

pub returns-in-None : goal.returns-in-None
returns-in-None c = no_digit c.args.digits.now c.loop-byte.byte-index _ c.loop-byte-test.true refl c.in-None.ensures

pub value_more-value-requires-clause-value : goal.value_more-value-requires-clause-value
value_more-value-requires-clause-value c =
    let i = c.loop-byte.byte-index in
    hex_few i (length c.args.digits.now) c.loop-byte.value c.loop-byte-test.true c.requires c.loop-byte.invariant.below

pub loop-byte-preserved : goal.loop-byte-preserved
loop-byte-preserved c =
    let digits = c.args.digits.now in
    let i = c.loop-byte.byte-index in
    let value = c.loop-byte.value in
    let digit = c.in-Some.digit in
    let is = c.in-Some.ensures in
    let more = hex_more digits i _ value digit c.loop-byte-test.true refl is.0 is.1 c.loop-byte.invariant.digits in
    let below = hex_below i value digit c.loop-byte.invariant.below is.0 in
    let next = sym c.value_more-value.ensures in
    record {
      digits = more ∙ ap (hex (i + 1)) next;
      below = subst (λ n. n < 16 ^ (i + 1)) next below;
    }
