use Rattle.std.proofs.Common.{inl, inr}
use Rattle.dcc_prog.proofs.TrailLaws.{node-inner}
use Rattle.dcc_procs.proofs.laws.other_nodes_have_predecessors.Goals as goal

pub returns : goal.returns
returns c image layout entry at node = elim (node-inner image layout entry at node) [
  | inl first ↦ inl first
  | inr inner ↦ inr (record { from = inner.0; node = inner.1; edge = inner.2 })
]
