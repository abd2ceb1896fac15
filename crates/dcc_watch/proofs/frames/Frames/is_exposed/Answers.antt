use Rattle.std.proofs.Common.{◌≡◌, ◌-◌, false, List, drop, length, take, sym, ap, ◌∙◌, subst, arith}
use Rattle.dcc_watch.specs.declared.frames.Live.{Live}
use Rattle.dcc_watch.specs.Shapes.{exposed_in}
use Rattle.dcc_watch.specs.Ordered.{AreOrdered}
use Rattle.dcc_watch.proofs.LiveLaws.{lives}
use Rattle.dcc_watch.proofs.OrderLaws.{low_after, low-first, low-before, past-all, below-found, in-found}
use Rattle.dcc_watch.proofs.frames.Frames.is_exposed.Goals.{then-place-eq0, else-place-eq0, then-place-lives-via-then-place-lives, then-place-lives-via-else-place-lives+then-from-low}
use Rattle.dcc_watch.proofs.frames.Frames.is_exposed.Goals as goal

pub returns-then-place-lives : goal.returns-then-place-lives
returns-then-place-lives c =
    let list : List Live = take (length c.deref.result.now - c.self.inside.newest) (drop c.self.inside.newest c.deref.result.now) in
    let same : list ≡ c.args.self.now.live = lives c.self.inside.items.items c.deref.result.now c.self.inside.newest _ c.args.self.now c.deref.ensures.value c.self.view_is in
    let count = c.count_below-place.result in
    let below = c.count_below-place.ensures.below in
    let found : low_after c.args.top list count ≡ c.if-place-eq0.low = elim c.if-place-eq0.branch [
      | then-place-eq0 w ↦ low-first c.args.top list count c.if-place-eq0.low (omega (arith, w.if-place-eq0.true)) w.low-is
      | else-place-eq0 w ↦ low-before c.args.top list count c.if-place-eq0.low _ (omega (arith, w.if-place-eq0.false)) c.count_below-place.ensures.few w.low-is
    ] in
    let none : exposed_in c.args.top list c.args.offset ≡ false = elim c.then-place-lives.branch [
      | then-place-lives-via-then-place-lives w ↦ past-all c.args.offset c.args.top count list below (omega (arith, w.if-place-lives.true))
      | then-place-lives-via-else-place-lives+then-from-low w ↦
          below-found c.args.offset c.args.top count list
          (subst (AreOrdered c.args.top) (sym same) c.requires.ordered) below (omega (arith, found, w.if-from-low.true))
    ] in
    sym none ∙ ap (λ l. exposed_in c.args.top l c.args.offset) same

pub returns : goal.returns
returns c =
    let list : List Live = take (length c.deref.result.now - c.self.inside.newest) (drop c.self.inside.newest c.deref.result.now) in
    let same : list ≡ c.args.self.now.live = lives c.self.inside.items.items c.deref.result.now c.self.inside.newest _ c.args.self.now c.deref.ensures.value c.self.view_is in
    let count = c.count_below-place.result in
    let found : low_after c.args.top list count ≡ c.if-place-eq0.low = elim c.if-place-eq0.branch [
      | then-place-eq0 w ↦ low-first c.args.top list count c.if-place-eq0.low (omega (arith, w.if-place-eq0.true)) w.low-is
      | else-place-eq0 w ↦ low-before c.args.top list count c.if-place-eq0.low _ (omega (arith, w.if-place-eq0.false)) c.count_below-place.ensures.few w.low-is
    ] in
    c.exposes.ensures
    ∙ sym (in-found c.args.offset c.args.top count list _ c.count_below-place.ensures.below
    (omega (arith, c.count_below-place.ensures.few, c.if-place-lives.false)) (omega (arith, found, c.if-from-low.false)))
    ∙ ap (λ l. exposed_in c.args.top l c.args.offset) same
