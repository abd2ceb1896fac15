use Rattle.std.proofs.Common.{arith}
use Rattle.dcc_flags.proofs.TableLaws.{rank_of_bound, rank_step, rank_none}
use Rattle.dcc_flags.proofs.reaching.rank.Goals as goal

pub overflow_add-rank : goal.overflow_add-rank
overflow_add-rank c =
    let most = rank_of_bound c.args.table.now in
    let step = rank_step c.args.table.now c.loop-source.source-index c.loop-source-test.true in
    omega (arith, most, step, c.loop-source.invariant, c.rank-rank.ensures, c.requires)

pub loop-source-preserved : goal.loop-source-preserved
loop-source-preserved c =
    let step = rank_step c.args.table.now c.loop-source.source-index c.loop-source-test.true in
    omega (arith, step, c.loop-source.invariant, c.rank-rank.ensures)

pub returns : goal.returns
returns c =
    let none = rank_none c.args.table.now c.loop-source.source-index c.loop-source-test.false in
    omega (arith, none, c.loop-source.invariant)
