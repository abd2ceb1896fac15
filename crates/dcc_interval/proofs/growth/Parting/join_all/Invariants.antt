use Rattle.std.proofs.Common.{◌≡◌, drop}
use Rattle.dcc_flow.specs.Edges.{rows}
use Rattle.dcc_interval.specs.Growing.{all_joined, IsReady, growing_of}
use Rattle.dcc_interval.proofs.growth.Parting.join_all.Given as goal

abbrev pub invariant-loop-node : goal.invariant-loop-node
invariant-loop-node l = record {
  ready : IsReady (rows l.sources.items) l.self;
  rest : all_joined (rows l.sources.items) (growing_of l.self l.members.items) (drop l.node-index l.nodes)
      ≡ all_joined (rows l.sources.items) (growing_of l.initial.self l.initial.members.items) l.nodes;
  intervals : l.self.intervals ≡ l.initial.self.intervals;
  list : l.self.heads.list ≡ l.initial.self.heads.list;
}
