use Rattle.std.proofs.Common.{◌<◌, List, [], length, sym, subst, arith, ℕ}
use Rattle.std.specs.Prelude.{All}
use Rattle.dcc_ir.specs.declared.syntax.Loc.{Loc}
use Rattle.dcc_flow.specs.Edges.{rows}
use Rattle.dcc_webs.specs.Classes.{AreTemps}
use Rattle.dcc_webs.proofs.ClassLaws.{all_below}
use Rattle.dcc_webs.proofs.splitting.temps_of.Goals as goal

pub number_classes-requires-clause-below : goal.number_classes-requires-clause-below
number_classes-requires-clause-below c =
    subst (λ (l : List ℕ). All (λ k. k < length l) l) (sym c.as_slice-class.ensures.value)
    (all_below c.join_all.new.classes.class.items (rows c.join_all.new.classes.others.items) c.in_ok-join_all.ensures.order)

pub returns : goal.returns
returns c =
    let class = c.join_all.new.classes.class.items in
    let temps = c.in_ok-temps.temps in
    record {
      classes = class;
      count = omega (arith, c.in_ok-join_all.ensures.joins.0, c.in_ok-classes.ensures.count, c.len.ensures);
      below = c.in_ok-join_all.ensures.order.below;
      own = c.in_ok-join_all.ensures.order.own;
      joined = c.in_ok-join_all.ensures.joins.1 [] c.in_ok-classes.ensures.classes;
      temps_are = subst (λ (o : List Loc). AreTemps c.args.bits.now o class temps) c.as_slice-2.ensures.value
          (subst (λ (k : List ℕ). AreTemps c.args.bits.now c.as_slice-2.result.now k temps) c.as_slice-class.ensures.value c.in_ok-temps.ensures);
    }
