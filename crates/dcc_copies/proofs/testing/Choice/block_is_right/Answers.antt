use Rattle.std.proofs.Common.{map, sym, ap, ◌∙◌, subst}
use Rattle.std.specs.List.{list_all}
use Rattle.dcc_ir.specs.Views.{block_of, stmt_of}
use Rattle.dcc_flow.specs.Access.{BlockAccess}
use Rattle.dcc_copies.specs.Choice.{begins_of}
use Rattle.dcc_copies.specs.Holders.{holders_of, held_by, is_held, IsSound, AreRead}
use Rattle.dcc_copies.proofs.ChoiceLaws.{block-right}
use Rattle.dcc_copies.proofs.testing.Choice.block_is_right.Goals as goal

pub returns-then-hold_all-clause-right : goal.returns-then-hold_all-clause-right
returns-then-hold_all-clause-right c = λ leads.
    let names = c.args.self.now.names.of.items in
    let h = holders_of c.begin.new.self in
    let k = holders_of c.steps.new.self in
    let last = c.as_slice-3.ensures.value ∙ ap (λ (a : BlockAccess). a.last) c.requires.access in
    block-right names (begins_of c.args.self.now) h k c.args.place (block_of c.args.block.now)
    (subst (λ entries. IsSound names h (held_by names entries)) c.entries.ensures (c.in_ok-begin.ensures.sound c.if-not-branch.false))
    (subst (λ stmts. AreRead names h k (map stmt_of stmts)) c.as_slice.ensures.value (c.in_ok-steps.ensures c.if-not-branch-2.false))
    (ap (list_all (is_held names k)) (sym last) ∙ sym c.hold_all.ensures ∙ c.if-hold_all.true) (c.leads_right.ensures leads)
