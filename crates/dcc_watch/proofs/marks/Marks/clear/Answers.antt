use Rattle.std.proofs.Common.{◌≡◌, ◌-◌, false, ap, sym, ◌∙◌, arith}
use Rattle.std.specs.List.{range_with_len}
use Rattle.dcc_prog.specs.Clean.{with_marks}
use Rattle.dcc_watch.specs.Marks.{HasNoneBelow}
use Rattle.dcc_watch.proofs.MarkLaws.{cleared-is, cleared-none, cleared-more, kept-below}
use Rattle.dcc_watch.proofs.marks.Marks.clear.Goals as goal
use Rattle.std.proofs.Common.{refl, subst}

pub loop-place-init : goal.loop-place-init
loop-place-init c = record {
  within = omega arith;
  items = cleared-none c.args.from c.args.from c.self.inside.items.items (omega arith);
  lowest = refl;
  count = c.self.invariant.0;
}

pub loop-place-preserved : goal.loop-place-preserved
loop-place-preserved c = record {
  within = omega arith;
  items = cleared-more c.args.from c.loop-place.place c.loop-place.self-inside.items.items c.self.inside.items.items c.loop-place.auto.place c.loop-place.invariant.items;
  lowest = c.loop-place.invariant.lowest;
  count = c.loop-place.invariant.count;
}

pub invariant_of-self : goal.invariant_of-self
invariant_of-self c = (
  c.loop-place.invariant.count,
  subst (λ n. HasNoneBelow n c.loop-place.self-inside.items.items) (sym c.loop-place.invariant.lowest)
      (subst (HasNoneBelow c.self.inside.lowest) (sym c.loop-place.invariant.items)
      (kept-below c.self.inside.lowest c.args.from c.loop-place.place c.self.inside.items.items c.self.invariant.1)),
)

pub returns : goal.returns
returns c = record {
  marks =
      let ends : c.loop-place.place - c.args.from ≡ c.args.to - c.args.from = omega arith in
      c.loop-place.invariant.items
      ∙ cleared-is c.args.from c.loop-place.place c.self.inside.items.items
      ∙ ap (λ n. with_marks false (range_with_len c.args.from n) c.self.inside.items.items) ends
      ∙ ap (with_marks false (range_with_len c.args.from (c.args.to - c.args.from))) c.self.view_is;
}
