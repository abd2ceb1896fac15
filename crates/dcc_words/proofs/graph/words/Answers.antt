use Rattle.std.proofs.Common.{subst}
use Rattle.dcc_ir.specs.Views.{graph_of}
use Rattle.dcc_passes.proofs.TidiedLaws.{tidied-refl}
use Rattle.dcc_words.specs.Words.{MayBecomeWords, words}
use Rattle.dcc_words.proofs.TidyLaws.{with-tidied, with-depth, with-temps}
use Rattle.dcc_words.proofs.graph.words.Goals as goal

pub returns-then-not-are_all_halves-clause-tidied : goal.returns-then-not-are_all_halves-clause-tidied
returns-then-not-are_all_halves-clause-tidied c = tidied-refl (graph_of c.args.g) c.requires

pub returns-then-not-branch-clause-tidied : goal.returns-then-not-branch-clause-tidied
returns-then-not-branch-clause-tidied c = tidied-refl (graph_of c.args.g) c.requires

pub returns-clause-words : goal.returns-clause-words
returns-clause-words c =
    words c.in_ok-pairs.pairs.items
    (subst (λ pairs. MayBecomeWords pairs (graph_of c.args.g)) c.as_slice-5.ensures.value (c.in_ok-may_become_words.ensures c.if-not-branch.false))
    c.in_ok-after.ensures

pub returns-clause-tidied : goal.returns-clause-tidied
returns-clause-tidied c =
    with-tidied c.in_ok-pairs.pairs.items (graph_of c.args.g) (graph_of c.in_ok-after.after) c.requires
    (subst (λ pairs. MayBecomeWords pairs (graph_of c.args.g)) c.as_slice-5.ensures.value (c.in_ok-may_become_words.ensures c.if-not-branch.false))
    c.in_ok-after.ensures

pub returns-clause-depth : goal.returns-clause-depth
returns-clause-depth c =
    with-depth c.in_ok-pairs.pairs.items (graph_of c.args.g) (graph_of c.in_ok-after.after) c.requires
    (subst (λ pairs. MayBecomeWords pairs (graph_of c.args.g)) c.as_slice-5.ensures.value (c.in_ok-may_become_words.ensures c.if-not-branch.false))
    c.in_ok-after.ensures

pub returns-clause-temps : goal.returns-clause-temps
returns-clause-temps c =
    with-temps c.in_ok-pairs.pairs.items (graph_of c.args.g) (graph_of c.in_ok-after.after) c.requires
    (subst (λ pairs. MayBecomeWords pairs (graph_of c.args.g)) c.as_slice-5.ensures.value (c.in_ok-may_become_words.ensures c.if-not-branch.false))
    c.in_ok-after.ensures
