use Rattle.dcc_sigs.proofs.Growing.{unformed, repeated, grown}
use Rattle.dcc_sigs.proofs.read.Begun.add.Goals as goal

pub returns-in_default : goal.returns-in_default
returns-in_default c pieces place begun more is =
    unformed pieces place c.args.text.now c.in_ok-line.field-0 more is c.in_default.not-Some c.in_ok-line.ensures

pub returns-else-branch : goal.returns-else-branch
returns-else-branch c pieces place begun more is =
    repeated pieces place c.args.self.now c.args.text.now c.in-Some.line c.in_ok-add_new.field-0 begun more is
    (rw c.in-Some.is at c.in_ok-line.ensures) c.in_ok-add_new.ensures.new c.if-branch.false

pub returns-in_ok-push : goal.returns-in_ok-push
returns-in_ok-push c pieces place begun more is =
    grown pieces place c.args.self.now c.args.text.now c.in-Some.line c.in_ok-add_new.field-0 c.in_ok-sig_of.field-0
    c.push.new.self c.add_new.new.words begun more is (rw c.in-Some.is at c.in_ok-line.ensures)
    c.in_ok-add_new.ensures.new c.if-branch.true c.in_ok-add_new.ensures.added c.in_ok-sig_of.ensures c.in_ok-push.ensures.items
