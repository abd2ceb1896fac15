use Rattle.std.proofs.Common.{arith}
use Rattle.dcc_lex.proofs.Numbers.{decimal_room}
use Rattle.dcc_lex.proofs.number.value_of.Goals as goal

pub overflow_mul-value : goal.overflow_mul-value
overflow_mul-value c =
    let room = decimal_room c.args.digits.now c.loop-digit.digit-index c.loop-digit.value c.loop-digit.invariant c.requires.digits c.requires.few c.loop-digit-test.true in
    omega (arith, room)

pub overflow_add-value : goal.overflow_add-value
overflow_add-value c =
    let room = decimal_room c.args.digits.now c.loop-digit.digit-index c.loop-digit.value c.loop-digit.invariant c.requires.digits c.requires.few c.loop-digit-test.true in
    omega (arith, room)
