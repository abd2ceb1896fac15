use Rattle.std.proofs.Common.{arith}
use Rattle.dcc_lex.proofs.Numbers.{hex_room}
use Rattle.dcc_lex.proofs.number.hex_number.Goals as goal

pub overflow_mul-value : goal.overflow_mul-value
overflow_mul-value c =
    let room = hex_room c.args.digits.now c.loop-digit.digit-index c.loop-digit.value c.loop-digit.invariant c.requires.digits c.requires.few c.loop-digit-test.true in
    omega (arith, room)

pub overflow_add-value : goal.overflow_add-value
overflow_add-value c =
    let room = hex_room c.args.digits.now c.loop-digit.digit-index c.loop-digit.value c.loop-digit.invariant c.requires.digits c.requires.few c.loop-digit-test.true in
    omega (arith, room)
