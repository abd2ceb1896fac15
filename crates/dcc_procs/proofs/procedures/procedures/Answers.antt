use Rattle.std.proofs.Common.{arith}
use Rattle.dcc_procs.proofs.procedures.procedures.Goals as goal

pub loop-alloc-smaller : goal.loop-alloc-smaller
loop-alloc-smaller c =
    let inv = c.loop-alloc.invariant in
    let less = c.loop-alloc-test.true in
    let few = inv.entries.few in
    let one = c.in_ok-next.ensures.one in
    let finder = c.loop-alloc.finder in
    omega (arith, less, few, one, finder.procs.ok.0, finder.entries.order.ok.0)

pub returns-clause-reached : goal.returns-clause-reached
returns-clause-reached c =
    let inv = c.loop-alloc.invariant in
    let past = c.loop-alloc-test.false in
    let short = inv.first.short in
    record {
      entries = c.loop-alloc.finder.entries.order.items;
      reached = inv.entries.reached;
      distinct = inv.entries.distinct;
      few = inv.entries.few;
      first = inv.first;
      all =
          (let finder = c.loop-alloc.finder in omega (arith, past, short, finder.procs.ok.0, finder.entries.order.ok.0));
    }
