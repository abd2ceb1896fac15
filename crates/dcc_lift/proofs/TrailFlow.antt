-- The flow graph of a procedure that is found is that of its trails.
use Rattle.std.proofs.Common.{◌≡◌, ℕ, true, ◌==◌, ◌∷◌, Some, Contains, refl, sym, ap, ◌∙◌, subst}
use Rattle.std.specs.List.{list_any}
use Rattle.std.proofs.lemmas.List.Elements.{All-weaker}
use Rattle.dcc_machine.specs.declared.image.Image.{Image}
use Rattle.dcc_prog.specs.declared.procedure.Layout.{Layout}
use Rattle.dcc_prog.specs.declared.procedure.Node.{Node}
use Rattle.dcc_prog.specs.declared.procedure.Proc.{Proc}
use Rattle.dcc_prog.specs.Trail.{successors, IsTrail, IsNode, IsEdge}
use Rattle.dcc_prog.specs.Found.{IsNodeFound, IsFound}
use Rattle.dcc_lift.specs.Blocks.{node_in, successors_in}
use Rattle.dcc_lift.specs.Lifted.{procedure_flow}
use Rattle.dcc_lift.specs.Laws.{IsFlowOfTrails, FlowIsOfTrails}
use Rattle.dcc_lift.proofs.ListTests.{any_contained, contained_any}
use Rattle.dcc_lift.proofs.NodeLaws.{Differ, is_node, goes_on, node_in_some, node_in_has, node_in_holds, ascending_differ, node_in_found, goes_from, goes_on_is}

module _ (image : Image) (layout : Layout) (proc : Proc) (is : IsFound image layout proc) where
  differ : Differ proc.nodes.entries
  differ = ascending_differ proc.nodes.entries is.ascending

  -- what is listed is found, and a node is listed
  listed : (at : ℕ) (node : Node) → node_in proc.nodes.entries at ≡ Some node
      → IsNodeFound image layout proc.entry (at, node)
  listed at node e = node_in_holds (IsNodeFound image layout proc.entry) proc.nodes.entries at node is.nodes e

  in_list : (at : ℕ) → IsNode image layout proc.entry at → (node : Node) × (node_in proc.nodes.entries at ≡ Some node)
  in_list at node =
      let there = is.every at node in
      (there.node, node_in_found proc.nodes.entries there.place at there.node differ there.listed)

  from_has : (a : ℕ) → is_node proc.nodes.entries a ≡ true → IsNode image layout proc.entry a
  from_has a e = let there = node_in_some proc.nodes.entries a e in (listed a there.0 there.1).node

  to_has : (a : ℕ) → IsNode image layout proc.entry a → is_node proc.nodes.entries a ≡ true
  to_has a node = let there = in_list a node in node_in_has proc.nodes.entries a there.0 there.1

  -- the instruction at an offset goes on where its trails do
  from_goes : (a b : ℕ) → goes_on proc.nodes.entries a b ≡ true → IsEdge image layout proc.entry a b
  from_goes a b e =
      let there = node_in_some proc.nodes.entries a (goes_from proc.nodes.entries a b e) in
      let node = there.0 in
      let found = listed a node there.1 in
      let before = found.node.before in
      let told : node.succ.items ≡ successors image layout (a ∷ before) = found.succ before found.node.trail in
      let goes : list_any (λ next. next == b) node.succ.items ≡ true =
      sym (ap (λ o. list_any (λ next. next == b) (successors_in o)) there.1)
      ∙ sym (goes_on_is proc.nodes.entries a b differ) ∙ e in
      let on : Contains (successors image layout (a ∷ before)) b =
      subst (λ xs. Contains xs b) told (contained_any node.succ.items b goes) in
      record { before = before; trail = (on, found.node.trail) }

  to_goes : (a b : ℕ) → IsEdge image layout proc.entry a b → goes_on proc.nodes.entries a b ≡ true
  to_goes a b edge =
      let trail : IsTrail image layout proc.entry (a ∷ edge.before) = edge.trail.1 in
      let there = in_list a (record { before = edge.before; trail = trail }) in
      let node = there.0 in
      let found = listed a node there.1 in
      let told : node.succ.items ≡ successors image layout (a ∷ edge.before) = found.succ edge.before trail in
      let on : Contains node.succ.items b = subst (λ xs. Contains xs b) (sym told) edge.trail.0 in
      goes_on_is proc.nodes.entries a b differ
      ∙ ap (λ o. list_any (λ next. next == b) (successors_in o)) there.1
      ∙ any_contained node.succ.items b on

  -- of each procedure that is found
  pub found-flow : IsFlowOfTrails image layout proc.entry (procedure_flow proc)
  found-flow = record {
    start = refl;
    nodes = λ a. (from_has a, to_has a);
    edges =
        λ a b. (from_goes a b, to_goes a b);
  }

pub flow-of_trails : FlowIsOfTrails
flow-of_trails image layout procs are =
    All-weaker (IsFound image layout) (λ (proc : Proc). IsFlowOfTrails image layout proc.entry (procedure_flow proc))
    (found-flow image layout) procs are.found
