use Rattle.std.proofs.Common.{◌≡◌, sym, subst}
use Rattle.dcc_ir.specs.declared.syntax.Graph.{Graph as GraphOf}
use Rattle.dcc_ir.specs.Tree.{Graph}
use Rattle.dcc_ir.specs.Views.{graph_of}
use Rattle.dcc_ir.specs.WellFormed.{IsGraph}
use Rattle.dcc_copies.specs.Holders.{name_by}
use Rattle.dcc_copies.specs.Settled.{settled, done}
use Rattle.dcc_copies.proofs.FormLaws.{settled-formed}
use Rattle.dcc_copies.proofs.ChoiceLaws.{lot-settled}
use Rattle.dcc_copies.proofs.LoopLaws.{if-ok}
use Rattle.dcc_copies.proofs.copies.settle_lot.Goals as goal

pub returns-then-choice-eq0-clause-settled : goal.returns-then-choice-eq0-clause-settled
returns-then-choice-eq0-clause-settled c = done

pub returns-clause-settled : goal.returns-clause-settled
returns-clause-settled c =
    let g = graph_of c.args.g in
    let names = c.in_ok-choice.choice.names.of.items in
    let right = c.in_ok-is_right.ensures c.if-not-branch.false in
    if-ok c.settled.result (λ (new : GraphOf). graph_of new ≡ settled (name_by names) g) _
    (λ new same. lot-settled g (graph_of new) names right same) c.settled.ensures

pub returns-clause-formed : goal.returns-clause-formed
returns-clause-formed c =
    let g = graph_of c.args.g in
    let names = c.in_ok-choice.choice.names.of.items in
    let right = c.in_ok-is_right.ensures c.if-not-branch.false in
    if-ok c.settled.result (λ (new : GraphOf). graph_of new ≡ settled (name_by names) g) _
    (λ new same. subst (λ (h : Graph). IsGraph h) (sym same) (settled-formed g (name_by names) c.requires right)) c.settled.ensures
