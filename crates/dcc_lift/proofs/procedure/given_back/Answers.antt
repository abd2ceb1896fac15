use Rattle.std.proofs.Common.{◌∙◌, sym}
use Rattle.dcc_stack.specs.Slots.{gives_back}
use Rattle.dcc_lift.proofs.ListLaws.{filter_keeps, filter_leaves}
use Rattle.dcc_lift.proofs.procedure.given_back.Goals as goal
use Rattle.dcc_lift.proofs.procedure.given_back.Goals.{then-gives_back+in_ok-push, else-gives_back}

pub loop-number-preserved : goal.loop-number-preserved
loop-number-preserved c =
    let test = gives_back c.args.proc.now c.args.frame.now in
    elim c.if-gives_back.branch [
      | then-gives_back+in_ok-push w ↦
          let more = filter_keeps test c.loop-number.number (sym c.gives_back.ensures ∙ w.if-gives_back.true) in
          let items = w.in_ok-push.ensures.items in
          cc
      | else-gives_back w ↦
          let more = filter_leaves test c.loop-number.number (sym c.gives_back.ensures ∙ w.if-gives_back.false) in
          cc
    ]
