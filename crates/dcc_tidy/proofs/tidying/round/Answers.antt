use Rattle.std.proofs.Common.{arith}
use Rattle.dcc_ir.specs.Views.{graph_of}
use Rattle.dcc_passes.proofs.TidiedLaws.{tidied-trans}
use Rattle.dcc_tidy.proofs.DeadLaws.{dead-tidied, dead-depth}
use Rattle.dcc_tidy.proofs.tidying.round.Goals as goal

pub returns-clause-tidied : goal.returns-clause-tidied
returns-clause-tidied g c =
    let given = graph_of c.args.graph in
    let simple = graph_of c.in_ok-simple.simple in
    let rewritten = graph_of c.in_ok-rewritten.rewritten in
    let divided = graph_of c.in_ok-divided.divided in
    let wanted = graph_of c.in_ok-wanted.wanted in
    let after = graph_of c.in_ok-after.after in
    tidied-trans given simple after c.in_ok-simple.ensures.tidied
    (tidied-trans simple rewritten after c.in_ok-rewritten.ensures.tidied
    (tidied-trans rewritten divided after c.in_ok-divided.ensures.tidied
    (tidied-trans divided wanted after
    (dead-tidied divided wanted c.in_ok-wanted.ensures.formed c.in_ok-wanted.ensures.without)
    c.in_ok-after.ensures.tidied)))

pub returns-clause-depth : goal.returns-clause-depth
returns-clause-depth g c =
    let left =
    dead-depth (graph_of c.in_ok-divided.divided) (graph_of c.in_ok-wanted.wanted) c.in_ok-wanted.ensures.without in
    omega (
      arith,
      left,
      c.in_ok-simple.ensures.depth,
      c.in_ok-rewritten.ensures.depth,
      c.in_ok-divided.ensures.depth,
      c.in_ok-after.ensures.depth,
    )

pub substitute-requires : goal.substitute-requires
substitute-requires g c = c.in_ok-simple.ensures.tidied.formed

pub drop_divisions-requires : goal.drop_divisions-requires
drop_divisions-requires g c = c.in_ok-rewritten.ensures.tidied.formed

pub without_dead-requires : goal.without_dead-requires
without_dead-requires g c = c.in_ok-divided.ensures.tidied.formed

pub settle_copies-requires : goal.settle_copies-requires
settle_copies-requires g c = c.in_ok-wanted.ensures.formed
