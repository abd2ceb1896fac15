use Rattle.std.proofs.Common.{◌++◌, length, sym, ap, ◌∙◌, arith}
use Rattle.std.proofs.lemmas.List.{append-nil}
use Rattle.dcc_prepare.proofs.FrameLaws.{past_min, params-end}
use Rattle.dcc_prepare.proofs.program.Procedure.variables.Goals as goal

pub loop-local-init : goal.loop-local-init
loop-local-init c =
    let ps = c.args.self.now.params.items in
    let as_ = c.args.arguments.now in
    let end = past_min c.loop-i.i (length ps) (length as_) (omega (arith, c.args.self.now.params.ok.0, c.min-i-end.ensures, c.len.ensures)) in
    sym (append-nil c.loop-i.variables.items)
    ∙ ap (λ l. c.loop-i.variables.items ++ l) (sym (params-end c.args.base c.loop-i.i ps as_ end))
    ∙ c.loop-i.invariant ∙ sym (append-nil _)
