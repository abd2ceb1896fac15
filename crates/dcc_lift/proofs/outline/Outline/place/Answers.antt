use Rattle.std.proofs.Common.{◌∙◌, ap, sym, subst, arith}
use Rattle.std.specs.List.Sorted.{IsStrictlyIncreasing}
use Rattle.dcc_lift.specs.Blocks.{nodes_in, entry_in, place_in}
use Rattle.dcc_lift.specs.Known.{source_of}
use Rattle.dcc_lift.proofs.LeaderLaws.{others, increasing_others, but_first, place_first, place_later}
use Rattle.dcc_lift.proofs.outline.Outline.place.Goals as goal

pub place_of-requires : goal.place_of-requires
place_of-requires c =
    let scene = source_of c.args.self.now in
    let rest = but_first c.deref.result.now (entry_in scene) (others (nodes_in scene) (entry_in scene))
    (c.deref.ensures.value ∙ c.requires.leaders_are) in
    subst IsStrictlyIncreasing (sym rest)
    (increasing_others (nodes_in scene) (entry_in scene) c.requires.scene.ascending)

pub returns-then-at-self : goal.returns-then-at-self
returns-then-at-self c =
    let scene = source_of c.args.self.now in
    let first = place_first (nodes_in scene) (entry_in scene) c.args.at (c.if-at-self.true ∙ c.requires.start) in
    omega (arith, first)

pub returns : goal.returns
returns c =
    let scene = source_of c.args.self.now in
    let rest = but_first c.deref.result.now (entry_in scene) (others (nodes_in scene) (entry_in scene))
    (c.deref.ensures.value ∙ c.requires.leaders_are) in
    let place = c.place_of.ensures.place ∙ ap (λ xs. place_in xs c.args.at) rest in
    let later = place_later (nodes_in scene) (entry_in scene) c.args.at
    (λ e. c.if-at-self.false (e ∙ sym c.requires.start)) in
    omega (arith, place, later)
