-- Each instruction goes on as its points do.
use Rattle.std.proofs.Common.{◌≡◌, ℕ, ℤ, Bool, true, false, ◌==◌, if◌then◌else◌, List, [], ◌∷◌, ◌++◌, map, Option, Some, None, refl, sym, ap, ◌∙◌, subst}
use Rattle.std.specs.Prelude.{Contains}
use Rattle.dcc_prog.specs.declared.procedure.Node.{Node}
use Rattle.dcc_machine.specs.declared.instr.Op.{Op}
use Rattle.dcc_machine.specs.declared.instr.Op.TheVariants.{Ret}
use Rattle.dcc_ir.specs.declared.syntax.Loc.{Loc}
use Rattle.dcc_ir.specs.Tree.{Graph}
use Rattle.dcc_demand.specs.Procedures.{Procedures}
use Rattle.dcc_machine_demand.specs.Bodies.{Body, nodes_of, find_at, point_with, point_at}
use Rattle.dcc_machine_demand.specs.Holders.{Holder}
use Rattle.dcc_machine_demand.specs.Instance as asks
use Rattle.dcc_sums.specs.Points.{Position, site_of, nexts_of, is_return}
use Rattle.dcc_sums.specs.Instance as sums
use Rattle.dcc_refinement.specs.Steps.{Walks}
use Rattle.dcc_refinement.specs.Refinement.{Refinement, EdgesAgree, IsSettled}
use Rattle.dcc_lift.specs.Blocks.{Nodes, node_in, successors_in, BlockSource, nodes_in}
use Rattle.dcc_lifted_demand.specs.InstructionPoints.{is_ret, returns_in, begin_at, points_at}
use Rattle.dcc_lifted_demand.specs.InstructionsHavePoints.{ComesToPoints, HasInstructions}
use Rattle.dcc_lifted_demand.specs.LiftedRefinement.{steps_in, begin_in}

-- Instructions at offsets.

pub found_node : (nodes : Nodes) (at : ℕ) → find_at nodes at ≡ node_in nodes at
found_node [] at = refl
found_node (found ∷ nodes) at = ap (λ o. if found.0 == at then Some found.1 else o) (found_node nodes at)

-- where an instruction is found a height is found
pub has_height : (heights : List (ℕ × ℕ)) (nodes : Nodes) (at : ℕ) (node : Node) → map (λ found. found.0) heights ≡ map (λ (found : ℕ × Node). found.0) nodes → node_in nodes at ≡ Some node
    → (height : ℕ) × (find_at heights at ≡ Some height)
has_height [] [] at node e found = absurd (cc found)
has_height [] (n ∷ nodes) at node e found = absurd (cc e)
has_height (h ∷ heights) [] at node e found = absurd (cc found)
has_height (h ∷ heights) (n ∷ nodes) at node e found = by (n.0 == at) refl (λ f. has_height heights nodes at node (cc e) f)
  where
    same : h.0 ≡ n.0
    same = cc e

    by : (b : Bool) → (n.0 == at) ≡ b → (node_in nodes at ≡ Some node → (height : ℕ) × (find_at heights at ≡ Some height)) → (height : ℕ) × (find_at (h ∷ heights) at ≡ Some height)
    by true t later = (h.1, ap (λ b. if b then Some h.1 else find_at heights at) (ap (λ k. k == at) same ∙ t))
    by false t later =
        let rest = later (sym (ap (λ b. if b then Some n.1 else node_in nodes at) t) ∙ found) in
        (rest.0, ap (λ b. if b then Some h.1 else find_at heights at) (ap (λ k. k == at) same ∙ t) ∙ rest.1)

same_ret : (op : Op) → asks.is_ret op ≡ is_ret op
same_ret (Ret count) = refl
same_ret op = refl

-- what an instruction calls
abbrev pub callee_by : Option Node → Option ℕ
callee_by None = None
callee_by (Some node) = asks.callee_of node.instr.op

module _ (body : Body) (heights : map (λ found. found.0) body.heights ≡ map (λ (found : ℕ × Node). found.0) (nodes_of body)) where
  pub next_is : (at : ℕ) → asks.next_of (point_at body at) ≡ successors_in (node_in (nodes_of body) at)
  next_is at = by (node_in (nodes_of body) at) refl
    where
      by : (o : Option Node) → node_in (nodes_of body) at ≡ o → asks.next_of (point_at body at) ≡ successors_in o
      by None e = ap (λ o. asks.next_of (point_with o (find_at body.heights at))) (found_node (nodes_of body) at ∙ e)
      by (Some node) e =
          ap (λ o. asks.next_of (point_with o (find_at body.heights at))) (found_node (nodes_of body) at ∙ e)
          ∙ ap (λ o. asks.next_of (point_with (Some node) o)) (has_height body.heights (nodes_of body) at node heights e).1

  returns_is : (at : ℕ) → asks.returns_at (point_at body at) ≡ returns_in (node_in (nodes_of body) at)
  returns_is at = by (node_in (nodes_of body) at) refl
    where
      by : (o : Option Node) → node_in (nodes_of body) at ≡ o → asks.returns_at (point_at body at) ≡ returns_in o
      by None e = ap (λ o. asks.returns_at (point_with o (find_at body.heights at))) (found_node (nodes_of body) at ∙ e)
      by (Some node) e =
          ap (λ o. asks.returns_at (point_with o (find_at body.heights at))) (found_node (nodes_of body) at ∙ e)
          ∙ ap (λ o. asks.returns_at (point_with (Some node) o)) (has_height body.heights (nodes_of body) at node heights e).1
          ∙ same_ret node.instr.op

  callee_is : (bodies : List Body) (at : ℕ) → (asks.action_at bodies body (point_at body at)).callee ≡ callee_by (node_in (nodes_of body) at)
  callee_is bodies at = by (node_in (nodes_of body) at) refl
    where
      by : (o : Option Node) → node_in (nodes_of body) at ≡ o → (asks.action_at bodies body (point_at body at)).callee ≡ callee_by o
      by None e = ap (λ o. (asks.action_at bodies body (point_with o (find_at body.heights at))).callee) (found_node (nodes_of body) at ∙ e)
      by (Some node) e =
          ap (λ o. (asks.action_at bodies body (point_with o (find_at body.heights at))).callee) (found_node (nodes_of body) at ∙ e)
          ∙ ap (λ o. (asks.action_at bodies body (point_with (Some node) o)).callee) (has_height body.heights (nodes_of body) at node heights e).1

-- A procedure beside its graph.

module _ (coarse : Procedures ℕ Holder ℤ) (fine : Procedures Position Loc Loc) (r : Refinement ℕ Holder ℤ Position Loc Loc) (entry : ℕ)
    (bodies : List Body) (body : Body) (graph : Graph) (scene : BlockSource) (given : Option BlockSource)
    (heights : map (λ found. found.0) body.heights ≡ map (λ (found : ℕ × Node). found.0) (nodes_of body))
    (nodes : nodes_in scene ≡ nodes_of body)
    (coarse_is : coarse.procedure entry ≡ asks.procedure_of bodies body) (fine_is : fine.procedure entry ≡ sums.procedure_of graph) (scene_is : given ≡ Some scene)
    (steps_are : (at : ℕ) → r.steps entry at ≡ steps_in given at) (begin_is : (at : ℕ) → r.begin entry at ≡ begin_in given at)
    (has : HasInstructions scene graph) where
  steps_there : (at : ℕ) → r.steps entry at ≡ points_at scene at
  steps_there at = steps_are at ∙ ap (λ o. steps_in o at) scene_is

  pub begin_there : (at : ℕ) → r.begin entry at ≡ begin_at scene at
  begin_there at = begin_is at ∙ ap (λ o. begin_in o at) scene_is

  pub successors : (at : ℕ) → (coarse.procedure entry).next at ≡ successors_in (node_in (nodes_in scene) at)
  successors at = ap (λ p. p.next at) coarse_is ∙ next_is body heights at ∙ ap (λ n. successors_in (node_in n at)) (sym nodes)

  pub returns_there : (at : ℕ) → (coarse.procedure entry).returns at ≡ returns_in (node_in (nodes_in scene) at)
  returns_there at = ap (λ p. p.returns at) coarse_is ∙ returns_is body heights at ∙ ap (λ n. returns_in (node_in n at)) (sym nodes)

  pub callees : (at : ℕ) → ((coarse.procedure entry).action at).callee ≡ callee_by (node_in (nodes_in scene) at)
  callees at = ap (λ p. (p.action at).callee) coarse_is ∙ callee_is body heights bodies at ∙ ap (λ n. callee_by (node_in n at)) (sym nodes)

  fine_next : (step : Position) → (fine.procedure entry).next step ≡ nexts_of (site_of graph step) step
  fine_next step = ap (λ p. p.next step) fine_is

  fine_returns : (step : Position) → (fine.procedure entry).returns step ≡ is_return (site_of graph step)
  fine_returns step = ap (λ p. p.returns step) fine_is

  goes_along : (at b : ℕ) → Contains ((coarse.procedure entry).next at) b → Walks (fine.procedure entry) (r.begin entry at) (r.steps entry at) (r.begin entry b)
  goes_along at b c =
      subst (λ g. Walks g (r.begin entry at) (r.steps entry at) (r.begin entry b)) (sym fine_is)
      (subst (λ x. Walks (sums.procedure_of graph) x (r.steps entry at) (r.begin entry b)) (sym (begin_there at))
      (subst (λ x. Walks (sums.procedure_of graph) (begin_at scene at) x (r.begin entry b)) (sym (steps_there at))
      (subst (λ x. Walks (sums.procedure_of graph) (begin_at scene at) (points_at scene at) x) (sym (begin_there b))
      (has.goes at b (subst (λ xs. Contains xs b) (successors at) c)))))

  comes_along : (at : ℕ) (before : List Position) (step to : Position) → r.steps entry at ≡ before ++ (step ∷ []) → Contains ((fine.procedure entry).next step) to
      → (b : ℕ) × Contains ((coarse.procedure entry).next at) b × (to ≡ r.begin entry b)
  comes_along at before step to e c =
      let found = has.comes at before step to (sym (steps_there at) ∙ e) (subst (λ xs. Contains xs to) (fine_next step) c) in
      (found.0, subst (λ xs. Contains xs found.0) (sym (successors at)) found.1, found.2 ∙ sym (begin_there found.0))

  pub edges_along : (at : ℕ) → EdgesAgree coarse fine r entry at
  edges_along at = record {
    begins = λ step steps e. begin_there at ∙ has.begins at step steps (sym (steps_there at) ∙ e);
    goes = goes_along at;
    within = λ before after step next e.
        let both = has.within at before after step next (sym (steps_there at) ∙ e) in
        (fine_next step ∙ both.0, fine_returns step ∙ both.1);
    comes = comes_along at;
    returns = λ before step e. fine_returns step ∙ has.returns at before step (sym (steps_there at) ∙ e) ∙ sym (returns_there at);
    alone = λ t. let one = has.alone at (sym (returns_there at) ∙ t) in (one.0, steps_there at ∙ one.1);
  }

  pub settled_along : {at : ℕ} → ComesToPoints scene at → IsSettled coarse fine r entry at
  settled_along (ComesToPoints.by_points {at = at} e) = IsSettled.by_steps (steps_there at ∙ e)
  settled_along (ComesToPoints.by_next {at = at} {next = next} e c later) =
      IsSettled.by_next (steps_there at ∙ e) (subst (λ xs. Contains xs next) (sym (successors at)) c) (settled_along later)
