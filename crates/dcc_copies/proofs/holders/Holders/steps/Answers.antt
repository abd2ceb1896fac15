use Rattle.std.proofs.Common.{◌≡◌, [], ◌∷◌, map, take, sym, ap, ◌∙◌, subst}
use Rattle.dcc_ir.specs.Views.{stmt_of}
use Rattle.dcc_flow.specs.Access.{access_in, access_of}
use Rattle.dcc_copies.specs.Holders.{holders_of, AreRead}
use Rattle.dcc_copies.proofs.HolderLaws.{more-read}
use Rattle.dcc_copies.proofs.LoopLaws.{taken-more, mapped-twice}
use Rattle.dcc_copies.proofs.holders.Holders.steps.Goals as goal

pub step-requires : goal.step-requires
step-requires c =
    mapped-twice access_in access_of stmt_of c.args.accesses.now c.args.stmts.now c.requires c.loop-at.at
    c.index-accesses-at.result c.index-stmts-at.result c.loop-at-test.true c.index-accesses-at.is c.index-stmts-at.is

pub loop-at-preserved : goal.loop-at-preserved
loop-at-preserved c =
    let names = c.args.names.now.of.items in
    let stmts = c.args.stmts.now in
    let stmt = c.index-stmts-at.result in
    subst (AreRead names (holders_of c.args.self.now) (holders_of c.step.new.self))
    (sym (taken-more stmt_of stmts c.loop-at.at stmt c.index-stmts-at.is c.loop-at-test.true))
    (more-read names (holders_of c.args.self.now) (holders_of c.loop-at.self) (holders_of c.step.new.self)
    (map stmt_of (take c.loop-at.at stmts)) (stmt_of stmt) c.loop-at.invariant (c.in_ok-step.ensures c.if-not-branch.false))
