use Rattle.std.proofs.Common.{◌+◌, length, take, cond, sym, ap, ◌∙◌}
use Rattle.std.specs.Prelude.{◌==◌}
use Rattle.std.specs.List.{sum_by, count_by}
use Rattle.std.proofs.lemmas.List.{take_all}
use Rattle.std.proofs.lemmas.List.Sums.{sum_by_more}
use Rattle.dcc_flow.specs.Edges.{is_in}
use Rattle.dcc_shape.specs.declared.points.Point.{Point}
use Rattle.dcc_shape.specs.Procedures.{different}
use Rattle.dcc_shape.proofs.LoopLaws.{count-more}
use Rattle.dcc_shape.proofs.edges.edges.Goals as goal

pub loop-point-preserved : goal.loop-point-preserved
loop-point-preserved c =
    let points = c.args.points.now in
    let i = c.loop-point.point-index in
    let p = c.point-item.result in
    let old = c.loop-point.list.items in
    let new = c.add_different.new.list.items in
    record {
      count =
          c.in_ok-add_different.ensures.count
          ∙ ap (λ l. length old + different l) c.as_slice.ensures.value
          ∙ ap (λ n. n + different p.next.items) c.loop-point.invariant.count
          ∙ ap (λ (x : Point). sum_by (λ (q : Point). different q.next.items) (take i points) + different x.next.items) c.point-item.is
          ∙ sym (sum_by_more (λ (q : Point). different q.next.items) points i p c.loop-point-test.true);
      each = λ n.
          c.in_ok-add_different.ensures.each n
          ∙ ap (λ l. count_by (λ m. m == n) old + cond (is_in l n) 1 0) c.as_slice.ensures.value
          ∙ ap (λ k. k + cond (is_in p.next.items n) 1 0) (c.loop-point.invariant.each n)
          ∙ sym (count-more (λ (q : Point). is_in q.next.items n) points i p c.loop-point-test.true c.point-item.is);
    }

pub returns-clause-each : goal.returns-clause-each
returns-clause-each c = λ n.
    c.loop-point.invariant.each n
    ∙ ap (count_by (λ (q : Point). is_in q.next.items n)) (take_all c.loop-point.point-index c.args.points.now c.loop-point-test.false)
