use Rattle.std.proofs.Common.{◌≡◌, length, rules, ap, ◌∙◌, arith}
use lib.Seq.{take_all}
use Rattle.wire.specs.Numbers.{be, be_from}
use Rattle.wire.proofs.Bytes.{be_eight, be-next, be-next_below}
use Rattle.wire.proofs.digits.join.Goals as goal

pub loop-byte-init : goal.loop-byte-init
unfolding be be_from
loop-byte-init c = search rules

pub overflow_mul-value : goal.overflow_mul-value
overflow_mul-value c =
    let below = be-next_below 8 c.args.bytes.now c.loop-byte.byte-index (λ j. (c.type_inv.bytes j).fits) (omega arith) (omega arith) in
    omega (arith, below, c.loop-byte.invariant)

pub overflow_add-value : goal.overflow_add-value
overflow_add-value c =
    let below = be-next_below 8 c.args.bytes.now c.loop-byte.byte-index (λ j. (c.type_inv.bytes j).fits) (omega arith) (omega arith) in
    omega (arith, below, c.loop-byte.invariant, c.from.ensures)

pub loop-byte-preserved : goal.loop-byte-preserved
loop-byte-preserved c = search (rules, be-next)

pub returns : goal.returns
returns c = c.loop-byte.invariant ∙ ap be (take_all c.loop-byte.byte-index c.args.bytes.now (omega arith))

pub returns-in-len8 : goal.returns-in-len8
returns-in-len8 c = let l : length c.args.bytes.now ≡ 8 = omega (arith, c.in-len8.len_at_least, c.in-len8.len_below) in be_eight c.args.bytes.now l _ c.from_be_bytes.ensures
