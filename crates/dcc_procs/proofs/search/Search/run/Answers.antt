use Rattle.std.proofs.Common.{◌≡◌, ◌-◌, ℕ, List, [], ◌∷◌, ◌++◌, take, Option, ap, ◌∙◌, subst, arith, rules}
use Rattle.dcc_machine.specs.declared.image.Image.{Image}
use Rattle.dcc_prog.specs.declared.procedure.Layout.{Layout}
use Rattle.dcc_prog.specs.Refused.{IsRefusedByTrails}
use Rattle.dcc_procs.specs.declared.known.Known.{Known}
use Rattle.dcc_procs.specs.Search.{work_of}
use Rattle.dcc_procs.proofs.Searching.{sound-fresh}
use Rattle.dcc_procs.proofs.Witnessing.{trail-node, witnessed-entry}
use Rattle.dcc_procs.proofs.Filling.{full-refused}
use Rattle.dcc_procs.proofs.Ended.{Searched, searched-start, popped-sound, searched-followed, all-seen}
use Rattle.dcc_procs.specs.Known.{nothing}
use Rattle.dcc_procs.proofs.search.Search.run.Goals as goal

pub returns-in_err-arrive-clause-refused : goal.returns-in_err-arrive-clause-refused
returns-in_err-arrive-clause-refused c =
    let image = c.args.image.now in
    let layout = c.args.layout.now in
    let entry = c.args.entry in
    let w = witnessed-entry image layout entry in
    let named : IsRefusedByTrails image layout c.in_err-arrive.field-0.0 =
    full-refused image layout entry (work_of c.args.self.now) entry c.requires.entry
    (sound-fresh image layout entry (work_of c.args.self.now) c.requires.fresh)
    (trail-node image layout entry entry nothing w.trail) c.in_err-arrive.field-0.0 c.in_err-arrive.ensures.full
    in
    search rules

pub loop-at-init : goal.loop-at-init
loop-at-init c =
    searched-start c.args.image.now c.args.layout.now c.args.entry (work_of c.args.self.now)
    (work_of c.arrive.new.self) (omega (arith, c.ranges.entry)) c.requires.fresh c.in_ok-arrive.ensures.arrived

-- what is said of a search whose last pending offset is taken
popped :
    (image : Image) (layout : Layout) (entry : ℕ) (seen : List (Option Known)) (order rest pending : List ℕ) (at : ℕ)
    → pending ≡ rest ++ at ∷ []
    → Searched image layout entry (record { seen = seen; order = order; pending = pending }) → Searched image
    layout entry (record { seen = seen; order = order; pending = rest ++ at ∷ [] })
popped image layout entry seen order rest pending at is =
    subst (λ l. Searched image layout entry (record { seen = seen; order = order; pending = l })) is

pub follow-requires-clause-sound : goal.follow-requires-clause-sound
follow-requires-clause-sound c =
    let self = c.loop-at.self in
    let before =
    popped c.args.image.now c.args.layout.now c.args.entry self.seen.items self.order.items c.pop.new.self.items
    self.pending.items c.in-Some.at c.in-Some.ensures.items c.loop-at.invariant in
    popped-sound c.args.image.now c.args.layout.now c.args.entry self.seen.items self.order.items
    c.pop.new.self.items c.in-Some.at before.sound

pub loop-at-preserved : goal.loop-at-preserved
loop-at-preserved c =
    let self = c.loop-at.self in
    let before =
    popped c.args.image.now c.args.layout.now c.args.entry self.seen.items self.order.items c.pop.new.self.items
    self.pending.items c.in-Some.at c.in-Some.ensures.items c.loop-at.invariant in
    searched-followed c.args.image.now c.args.layout.now c.args.entry self.seen.items self.order.items
    c.pop.new.self.items c.in-Some.at (work_of c.follow.new.self) before c.in_ok-follow.ensures.followed

pub returns-clause-seen : goal.returns-clause-seen
returns-clause-seen c =
    let self = c.loop-at.self in
    let last : c.pop.new.self.items ≡ [] =
    c.in_default.ensures.rest ∙ ap (λ n. take (n - 1) self.pending.items) c.in_default.ensures.cases.0 in
    let none : self.pending.items ≡ [] = c.in_default.ensures.items ∙ ap (λ l. l ++ []) last in
    all-seen c.args.image.now c.args.layout.now c.args.entry (work_of self) none c.loop-at.invariant
