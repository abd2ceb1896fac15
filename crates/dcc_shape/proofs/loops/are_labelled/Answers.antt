use Rattle.std.proofs.Common.{◌≡◌, ℕ, ◌<◌, true, List, sym, ap, subst, ◌∙◌, arith}
use Rattle.std.specs.Prelude.{◌==◌, ◌&&◌, IfSome}
use Rattle.std.specs.List.{list_all, count_by}
use Rattle.dcc_c.specs.Views.{stmt_of}
use Rattle.dcc_shape.specs.declared.seen.Seen.{Seen as SeenOf}
use Rattle.dcc_shape.specs.Shape.{is_loop_at}
use Rattle.dcc_shape.specs.Seen.{lent}
use Rattle.dcc_shape.specs.Asked.{loops_are_labelled, each_labels_one}
use Rattle.dcc_shape.proofs.LoopLaws.{all-fit}
use Rattle.dcc_shape.proofs.loops.are_labelled.Goals as goal

pub returns : goal.returns
returns c =
    let list : List SeenOf = c.args.list.now in
    let heads = c.args.heads.now in
    let loops : ℕ → ℕ = λ at. count_by (λ (s : SeenOf). is_loop_at at (stmt_of s.stmt.now) (lent s.label)) list in
    let labelled : loops_are_labelled heads list ≡ true = subst (λ o. IfSome o (λ labels. loops_are_labelled heads list ≡ true)) c.in-Some.is c.in_ok-labels.ensures.labelled in
    let counts = subst (λ o. IfSome o (λ labels. (at : ℕ) → at < 65536 → loops at ≡ count_by (λ l. l == at) labels.items)) c.in-Some.is c.in_ok-labels.ensures.counts in
    c.each_once.ensures _ c.in_ok-tally.ensures
    ∙ ap (λ l. list_all (λ at. count_by (λ m. m == at) l == 1) heads) c.as_slice.ensures.value
    ∙ sym (all-fit (λ at. loops at == 1) (λ at. count_by (λ l. l == at) c.in-Some.labels.items == 1) heads (λ n. omega (arith, c.type_inv.heads n))
    (λ at fits. ap (λ n. n == 1) (counts at fits)))
    ∙ sym (ap (λ b. b && each_labels_one heads list) labelled)
