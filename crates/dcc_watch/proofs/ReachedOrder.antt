-- Where a run comes, the frames that live are in order.
use Rattle.std.proofs.Common.{◌≡◌, ℕ, List, Bool, map, sym, ap, ◌∙◌, subst}
use Rattle.dcc_run.specs.End.{Running as running, is_over}
use Rattle.dcc_prog.specs.declared.procedure.Layout.{Layout}
use Rattle.dcc_prog.specs.Clean.{Stack, top_in}
use Rattle.dcc_prog.specs.Watch.{Watch, InProcedures as stands_in}
use Rattle.dcc_stack.specs.Standing.{StackStands}
use Rattle.dcc_stack.specs.Laws.{watch_after}
use Rattle.dcc_stack.proofs.FormLaws.{in-form}
use Rattle.dcc_stack.proofs.StackLaws.{frames_stand}
use Rattle.dcc_step.specs.Core.{Core, state_of}
use Rattle.dcc_watch.specs.declared.shape.Shape.{Shape}
use Rattle.dcc_watch.specs.declared.frames.Live.{Live}
use Rattle.dcc_watch.specs.declared.progress.Progress.{Progress}
use Rattle.dcc_watch.specs.declared.progress.Progress.TheVariants.{InProcedures}
use Rattle.dcc_watch.specs.Shapes.{live_frame}
use Rattle.dcc_watch.specs.Ordered.{AreOrdered}
use Rattle.dcc_watch.specs.Watching.{AllHaveShapes, stage_of}
use Rattle.dcc_watch.specs.Reached.{IsReached}
use Rattle.dcc_watch.proofs.OrderLaws.{ordered}

pub ordered_there :
    (layout : Layout) (shapes : List Shape) (room : ℕ) (m : Core) (progress : Progress) (live : List Live) (written : List Bool)
    → progress ≡ InProcedures → m.end ≡ running → AllHaveShapes shapes live
    → IsReached (record { layout = layout; shapes = shapes; room = room; machine = m; stage = stage_of progress live written })
    → AreOrdered (top_in layout (state_of m)) live
ordered_there layout shapes room m progress live written inside runs known r =
    let w : Watch = watch_after r.program r.image r.input r.count in
    let stack : Stack = record { frames = map live_frame live; written = written } in
    let here : w.stage ≡ stands_in stack = r.stands.stage ∙ ap (λ p. stage_of p live written) inside in
    let stands : StackStands r.image r.program.layout w.machine stack =
    frames_stand r.program.layout.cpu r.image r.program r.input r.count stack r.run
    (ap is_over (ap (λ (c : Core). c.end) r.stands.machine ∙ runs)) here in
    let top : top_in r.program.layout w.machine ≡ top_in layout (state_of m) =
    ap (λ (l : Layout). top_in l w.machine) (sym r.stands.layout)
    ∙ ap (λ (c : Core). top_in layout (state_of c)) r.stands.machine in
    subst (λ n. AreOrdered n live) top
    (ordered r.program.layout.cpu r.image r.program w.machine.memory in-form r.run.program_is _ live _ _ stands.stand stands.frames
    (subst (λ s. AllHaveShapes s live) r.stands.shapes known))
