use Rattle.std.proofs.Common.{◌+◌, ◌<◌, length, drop, refl, sym, ap, ◌∙◌, arith}
use Rattle.dcc_prepare.specs.Frames.{arguments_put}
use Rattle.dcc_prepare.proofs.FrameLaws.{past_min, put-end, put-step}
use Rattle.dcc_prepare.proofs.program.Procedure.put_arguments.Goals as goal

pub loop-i-preserved : goal.loop-i-preserved
loop-i-preserved c =
    let ps = c.args.self.now.params.items in
    let as_ = c.args.arguments.now in
    let i = c.loop-i.i in
    let within : i < length ps = omega (arith, c.args.self.now.params.ok.0, c.min-i-end.ensures, c.len.ensures) in
    let inside : i < length as_ = omega (arith, c.min-i-end.ensures, c.len.ensures) in
    ap (arguments_put c.args.base (drop (i + 1) ps) (drop (i + 1) as_)) c.put_argument.ensures
    ∙ sym (put-step c.args.base i ps as_ c.loop-i.memory c.index.result.now _ _ _ within inside c.index.ensures refl)
    ∙ c.loop-i.invariant

pub returns : goal.returns
returns c =
    let ps = c.args.self.now.params.items in
    let as_ = c.args.arguments.now in
    let end = past_min c.loop-i.i (length ps) (length as_) (omega (arith, c.args.self.now.params.ok.0, c.min-i-end.ensures, c.len.ensures)) in
    sym (put-end c.args.base c.loop-i.i ps as_ c.loop-i.memory end) ∙ c.loop-i.invariant
