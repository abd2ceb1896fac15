use Rattle.std.proofs.Common.{ℕ, Option, nat_eq, refl, subst, rules}
use Rattle.indexmap.specs.IndexMap.{get}
use Rattle.dcc_prog.specs.declared.refusal.Refusal.TheVariants.{Memory}
use Rattle.dcc_prog.specs.Refused.{no_memory}
use Rattle.dcc_frames.specs.Frames.{IsRefusalOfAll}
use Rattle.dcc_frames.specs.Body.{AreCounts}
use Rattle.dcc_frames.specs.Ready.{AreFramesAt}
use Rattle.dcc_frames.proofs.AllFrames.{measured, bodies-of, all-ready, all-frames}
use Rattle.dcc_frames.proofs.frames.cells.Goals as goal

pub returns-in_err-bodies-clause-refused : goal.returns-in_err-bodies-clause-refused
returns-in_err-bodies-clause-refused c =
    let procs = c.args.procs.now.items in
    let heights = c.args.heights.now in
    let named : IsRefusalOfAll procs heights c.args.delta c.in_err-bodies.field-0.0 = λ image layout a.
    c.in_err-bodies.ensures.refused image layout
    (measured image layout procs heights c.args.delta a c.deref.result.now c.deref.ensures.value) in
    search rules

pub returns-in_err-counts-clause-refused : goal.returns-in_err-counts-clause-refused
returns-in_err-counts-clause-refused c =
    let named : IsRefusalOfAll c.args.procs.now.items c.args.heights.now c.args.delta Memory = λ image layout a.
    no_memory in
    search rules

pub returns-in_err-frames-clause-refused : goal.returns-in_err-frames-clause-refused
returns-in_err-frames-clause-refused c =
    let procs = c.args.procs.now.items in
    let heights = c.args.heights.now in
    let bodies = c.in_ok-bodies.bodies.items in
    let counts : ℕ → Option ℕ = λ entry. get nat_eq c.in_ok-counts.counts entry in
    let named : IsRefusalOfAll procs heights c.args.delta c.in_err-frames.field-0.0 = λ image layout a.
    (let are =
    bodies-of image layout procs heights c.args.delta a c.deref.result.now bodies c.deref.ensures.value
    (c.in_ok-bodies.ensures.bodies image layout) in
    c.in_err-frames.ensures.refused image layout
    (all-ready image layout procs heights c.args.delta a bodies are counts
    (subst (λ l. AreCounts l counts) c.deref-2.ensures.value c.in_ok-counts.ensures) c.deref-3.result.now
    c.deref-3.ensures.value)) in
    search rules

pub returns-clause-cells : goal.returns-clause-cells
returns-clause-cells c = λ image layout a.
    let procs = c.args.procs.now.items in
    let heights = c.args.heights.now in
    let bodies = c.in_ok-bodies.bodies.items in
    let frames = c.in_ok-frames.frames.items in
    let counts : ℕ → Option ℕ = λ entry. get nat_eq c.in_ok-counts.counts entry in
    let are =
    bodies-of image layout procs heights c.args.delta a c.deref.result.now bodies c.deref.ensures.value
    (c.in_ok-bodies.ensures.bodies image layout) in
    let ready =
    all-ready image layout procs heights c.args.delta a bodies are counts
    (subst (λ l. AreCounts l counts) c.deref-2.ensures.value c.in_ok-counts.ensures) c.deref-3.result.now
    c.deref-3.ensures.value in
    let told : AreFramesAt image layout bodies frames =
    subst (λ l. AreFramesAt image layout l frames) c.deref-3.ensures.value
    (c.in_ok-frames.ensures.frames image layout ready) in
    all-frames image layout procs heights c.args.delta a bodies are frames told
    (record { frames = c.in_ok-frames.frames }) refl
