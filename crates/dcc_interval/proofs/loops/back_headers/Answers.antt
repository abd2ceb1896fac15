use Rattle.std.proofs.Common.{◌+◌, ◌<◌, [], ◌∷◌, ◌++◌, length, drop, ap, sym, ◌∙◌, arith}
use Rattle.std.proofs.lemmas.List.{append_assoc}
use Rattle.dcc_flow.specs.Edges.{rows, leads}
use Rattle.dcc_interval.specs.Intervals.{intervals_in}
use Rattle.dcc_interval.specs.Derived.{back_headers}
use Rattle.dcc_interval.proofs.LoopLaws.{back_taken, back_passed}
use Rattle.dcc_interval.proofs.loops.back_headers.Goals as goal
use Rattle.dcc_interval.proofs.loops.back_headers.Goals.{then-has_edge_back+in_ok-push, else-has_edge_back}

pub loop-interval-preserved : goal.loop-interval-preserved
loop-interval-preserved c =
    let edge = leads (rows c.args.next.now.items) in
    let xs = c.deref-interval-items.result.now in
    let i = c.loop-interval.interval-index in
    let less : i < length xs = omega arith in
    let r = c.interval-item.result in
    let before = c.loop-interval.list.items in
    let rest = back_headers edge (intervals_in (drop (i + 1) xs)) in
    elim c.if-has_edge_back.branch [
      | then-has_edge_back+in_ok-push w ↦
          ap (λ l. l.items ++ rest) w.list-is ∙ ap (λ l. l ++ rest) w.in_ok-push.ensures.items ∙ append_assoc before (r.header ∷ []) rest
          ∙ ap (λ l. before ++ l) (sym (back_taken edge xs i r less c.interval-item.is (sym c.has_edge_back.ensures ∙ w.if-has_edge_back.true))) ∙ c.loop-interval.invariant
      | else-has_edge_back w ↦
          ap (λ l. l.items ++ rest) w.list-is
          ∙ ap (λ l. before ++ l) (sym (back_passed edge xs i r less c.interval-item.is (sym c.has_edge_back.ensures ∙ w.if-has_edge_back.false))) ∙ c.loop-interval.invariant
    ]
