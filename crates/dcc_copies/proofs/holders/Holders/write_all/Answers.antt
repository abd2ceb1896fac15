use Rattle.std.proofs.Common.{subst}
use Rattle.std.proofs.lemmas.List.{take_all}
use Rattle.dcc_copies.specs.Held.{all_written}
use Rattle.dcc_copies.specs.Holders.{holders_of, name_by, IsPassed}
use Rattle.dcc_copies.proofs.HolderLaws.{written-at}
use Rattle.dcc_copies.proofs.holders.Holders.write_all.Goals as goal

pub loop-at-preserved : goal.loop-at-preserved
loop-at-preserved c =
    written-at c.args.names.now.of.items (holders_of c.args.self.now) (holders_of c.loop-at.self)
    (holders_of c.write.new.self) c.args.locations.now c.loop-at.at _ c.loop-at-test.true c.loop-at.invariant
    (c.in_ok-write.ensures c.if-not-branch.false)

pub returns : goal.returns
returns c = λ is.
    let names = c.args.names.now.of.items in
    subst (λ xs. IsPassed names (holders_of c.args.self.now) (holders_of c.loop-at.self) (all_written (name_by names) xs))
    (take_all c.loop-at.at c.args.locations.now c.loop-at-test.false) c.loop-at.invariant
