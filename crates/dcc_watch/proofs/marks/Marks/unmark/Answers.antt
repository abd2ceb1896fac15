use Rattle.std.proofs.Common.{◌≡◌, ◌-◌, false, ap, sym, ◌∙◌, arith}
use Rattle.std.specs.List.{range_with_len}
use Rattle.dcc_prog.specs.Clean.{with_marks}
use Rattle.dcc_watch.proofs.MarkLaws.{cleared, cleared-is, range-cleared, raised-below}
use Rattle.dcc_watch.proofs.marks.Marks.unmark.Goals as goal

pub invariant_of-self : goal.invariant_of-self
invariant_of-self c =
    let now : c.self.inside.items.items ≡ cleared c.args.from c.args.to c.clear.inside.items.items =
    range-cleared c.args.from c.args.to c.clear.inside.lowest c.max.result c.min-to.result c.clear.inside.items.items c.self.inside.items.items
    (omega (arith, c.clear.invariant.0, c.clear.inside.items.ok.0)) c.clear.invariant.1 c.max.ensures c.min-to.ensures
    (c.self.view_is ∙ c.clear-2.ensures.marks ∙ ap (with_marks false (range_with_len c.max.result (c.min-to.result - c.max.result))) (sym c.clear.view_is)) in (
      c.self.invariant.0,
      λ offset lt. raised-below c.self.inside.lowest c.args.from c.args.to c.clear.inside.items.items c.self.inside.items.items now c.self.invariant.1
          (omega (arith, c.if-from-self.true)) offset (omega (arith, lt, c.max-self-inside.ensures, c.min-to.ensures)),
    )

pub returns-then-from-self : goal.returns-then-from-self
returns-then-from-self c =
    range-cleared c.args.from c.args.to c.clear.inside.lowest c.max.result c.min-to.result c.clear.inside.items.items c.self.inside.items.items
    (omega (arith, c.clear.invariant.0, c.clear.inside.items.ok.0)) c.clear.invariant.1 c.max.ensures c.min-to.ensures
    (c.self.view_is ∙ c.clear-2.ensures.marks ∙ ap (with_marks false (range_with_len c.max.result (c.min-to.result - c.max.result))) (sym c.clear.view_is))
    ∙ cleared-is c.args.from c.args.to c.clear.inside.items.items
    ∙ ap (with_marks false (range_with_len c.args.from (c.args.to - c.args.from))) c.clear.view_is

pub returns-else-from-self : goal.returns-else-from-self
returns-else-from-self c =
    range-cleared c.args.from c.args.to c.clear.inside.lowest c.max.result c.min-to.result c.clear.inside.items.items c.clear-2.new.self
    (omega (arith, c.clear.invariant.0, c.clear.inside.items.ok.0)) c.clear.invariant.1 c.max.ensures c.min-to.ensures
    (c.clear-2.ensures.marks ∙ ap (with_marks false (range_with_len c.max.result (c.min-to.result - c.max.result))) (sym c.clear.view_is))
    ∙ cleared-is c.args.from c.args.to c.clear.inside.items.items
    ∙ ap (with_marks false (range_with_len c.args.from (c.args.to - c.args.from))) c.clear.view_is
