use Rattle.std.proofs.Common.{◌≡◌, ℕ, ◌+◌, ◌<◌, Bool, cond, take, sym, ap, ◌∙◌, arith}
use Rattle.std.specs.Prelude.{◌==◌}
use Rattle.std.specs.List.{count_by}
use Rattle.std.proofs.lemmas.List.{take_all}
use Rattle.std.proofs.lemmas.List.Folds.{list_all_at}
use Rattle.dcc_c.specs.Views.{stmt_of}
use Rattle.dcc_shape.specs.declared.seen.Seen.{Seen as SeenOf}
use Rattle.dcc_shape.specs.Shape.{is_labelled, is_loop_at}
use Rattle.dcc_shape.specs.Seen.{lent}
use Rattle.dcc_shape.proofs.LoopLaws.{loop-at, no-loop-at, loop-labelled, no-loop-labelled, loop-unlabelled, all-more, count-more, count-push}
use Rattle.dcc_shape.proofs.loops.labels_of_loops.Goals as goal
use Rattle.dcc_shape.proofs.loops.labels_of_loops.Goals.{then-is_loop+in-Some+in_ok-push, else-is_loop}

pub loop-seen-preserved : goal.loop-seen-preserved
loop-seen-preserved c =
    let heads = c.args.heads.now in
    let list = c.args.list.now in
    let i = c.loop-seen.seen-index in
    let s = c.seen-item.result in
    let stmt = stmt_of s.stmt.now in
    let label = lent s.label in
    let old = c.loop-seen.labels.items in
    let labelled : SeenOf → Bool = λ x. is_labelled heads (stmt_of x.stmt.now) (lent x.label) in
    let at_one : ℕ → SeenOf → Bool = λ at x. is_loop_at at (stmt_of x.stmt.now) (lent x.label) in
    let counted : (at : ℕ) → at < 65536 → count_by (at_one at) (take (i + 1) list) ≡ count_by (λ l. l == at) old + cond (at_one at s) 1 0 =
    λ at fits. count-more (at_one at) list i s c.loop-seen-test.true c.seen-item.is ∙ ap (λ n. n + cond (at_one at s) 1 0) (c.loop-seen.invariant.counts at fits) in
    elim c.if-is_loop.branch [
      | then-is_loop+in-Some+in_ok-push w ↦
          let new = w.in-Some.at in
          let named = w.in-Some.ensures.named.1 in
          let fit = w.in-Some.ensures.named.0 in
          let known = w.in-Some.ensures.among heads c.in_ok-known.ensures in
          let loop = sym c.is_loop.ensures ∙ w.if-is_loop.true in
          record {
            labelled = all-more labelled list i s c.loop-seen-test.true c.seen-item.is c.loop-seen.invariant.labelled (loop-labelled stmt label heads new named known);
            counts = λ at fits.
                counted at fits
                ∙ ap (λ b. count_by (λ l. l == at) old + cond b 1 0) (loop-at stmt label at new fits fit loop named)
                ∙ sym (count-push (λ l. l == at) old new)
                ∙ ap (count_by (λ l. l == at)) (sym (ap (λ v. v.items) w.labels-is ∙ w.in_ok-push.ensures.items));
          }
      | else-is_loop w ↦
          let none = sym c.is_loop.ensures ∙ w.if-is_loop.false in
          record {
            labelled = all-more labelled list i s c.loop-seen-test.true c.seen-item.is c.loop-seen.invariant.labelled (no-loop-labelled stmt label heads none);
            counts = λ at fits.
                counted at fits
                ∙ ap (λ b. count_by (λ l. l == at) old + cond b 1 0) (no-loop-at stmt label at none)
                ∙ (let same : count_by (λ l. l == at) old + 0 ≡ count_by (λ l. l == at) old = omega arith in same)
                ∙ ap (λ v. count_by (λ l. l == at) v.items) (sym w.labels-is);
          }
    ]

pub returns-clause-counts : goal.returns-clause-counts
returns-clause-counts c = λ at fits.
    ap (count_by (λ (s : SeenOf). is_loop_at at (stmt_of s.stmt.now) (lent s.label))) (sym (take_all c.loop-seen.seen-index c.args.list.now c.loop-seen-test.false))
    ∙ c.loop-seen.invariant.counts at fits

pub returns-in_default-clause-none : goal.returns-in_default-clause-none
returns-in_default-clause-none c =
    let heads = c.args.heads.now in
    let s = c.seen-item.result in
    let labelled : SeenOf → Bool = λ x. is_labelled heads (stmt_of x.stmt.now) (lent x.label) in
    list_all_at labelled c.args.list.now c.loop-seen.seen-index s c.loop-seen-test.true
    (ap labelled (sym c.seen-item.is)
    ∙ loop-unlabelled (stmt_of s.stmt.now) (lent s.label) heads (sym c.is_loop.ensures ∙ c.if-is_loop.true)
    (c.in_default.ensures.none heads c.in_ok-known.ensures (λ n. omega (arith, c.type_inv.heads n))))
