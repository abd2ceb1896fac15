use Rattle.std.proofs.Common.{◌+◌, ◌<◌, length, map, drop, arith}
use Rattle.dcc_c.specs.Kinds.{first_after}
use Rattle.dcc_c.specs.Offences.{expr_offences, arguments_inner}
use Rattle.dcc_reader.specs.PartialViews.{expr_of}
use Rattle.dcc_reader.specs.Told.{told}
use Rattle.dcc_check.proofs.TellLaws.{step-told}
use Rattle.dcc_reader.proofs.LeftLaws.{next-left}
use Rattle.dcc_check.proofs.check_call.check_arguments.Goals as goal

pub loop-e-preserved : goal.loop-e-preserved
loop-e-preserved c = λ s is.
    let xs = c.args.arguments.now in
    let i = c.loop-e.e-index in
    let within : i < length xs = omega arith in
    let e = c.e-item.result in
    step-told (told c.loop-e.first) (told c.check_expr.new.first) (first_after (told c.args.first.now) (arguments_inner s (map expr_of xs)))
    (expr_offences s (expr_of e)) (arguments_inner s (map expr_of (drop (i + 1) xs))) (arguments_inner s (map expr_of (drop i xs)))
    (c.check_expr.ensures.told s is) (next-left (λ l. arguments_inner s (map expr_of l)) xs i e within c.e-item.is) (c.loop-e.invariant s is)
