use Rattle.dcc_prog.specs.declared.procedure.Node.{Node}
use Rattle.std.proofs.Common.{ℕ, ◌∷◌, [], ◌++◌, sym, ap, ◌∙◌, arith}
use Rattle.dcc_frames.proofs.StepLists.{step_of, steps-more, steps-all}
use Rattle.dcc_frames.proofs.steps.steps.Goals as goal

pub loop-place-preserved : goal.loop-place-preserved
loop-place-preserved c =
    let s = c.in-Some-Some in
    let node : ℕ × Node = (s.at.now, s.node.now) in
    let height : ℕ × ℕ = (s.field-0-0-1.now, s.height.now) in
    c.in_ok-push.ensures.items
    ∙ ap (λ l. l ++ step_of node height ∷ []) c.loop-place.invariant
    ∙ sym
    (steps-more c.args.proc.now.nodes.entries c.args.heights.now.entries c.loop-place.place node height
    s.ensures.entry s.ensures'.entry)

pub returns : goal.returns
returns c =
    c.loop-place.invariant
    ∙ steps-all c.args.proc.now.nodes.entries c.args.heights.now.entries c.loop-place.place
    (omega (arith, c.loop-place-test.false, c.min-place-end.ensures, c.len.ensures.len, c.len-2.ensures.len))
