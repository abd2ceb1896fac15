-- Where all instructions of a program do what their statements do together, so do the points of its lifted form.
use Rattle.std.proofs.Common.{◌≡◌, ℕ, ℤ, true, false, not, ◌&&◌, ◌==◌, List, [], ◌∷◌, map, Option, Some, None, refl, sym, ap, ◌∙◌, subst}
use Rattle.std.specs.Prelude.{nat_lt}
use Rattle.dcc_machine.specs.declared.image.Image.{Image}
use Rattle.dcc_prog.specs.declared.frame.Program.{Program as Analysed}
use Rattle.dcc_prog.specs.declared.procedure.Node.{Node}
use Rattle.dcc_ir.specs.declared.syntax.Loc.{Loc}
use Rattle.dcc_ir.specs.Tree.{Stmt, Program, Graph}
use Rattle.dcc_ir.specs.Flow.{graph_or_none}
use Rattle.dcc_simulation.specs.Procedures.{pushed_of}
use Rattle.dcc_lift.specs.Blocks.{Nodes, node_in, successors_in, edges_into, is_one, calls_in, is_table, jumps_by_table_in, comes_from_below, joins, onward, BlockSource, nodes_in, entry_in, height_in, node_stmts, stmts_at, node_exit, block_place}
use Rattle.dcc_lift.specs.Sound.{AreSound, GoesOnAt}
use Rattle.dcc_lift.specs.Translated.{IsTranslated}
use Rattle.dcc_lift.proofs.ListTests.{and_left, and_right, not_true}
use Rattle.dcc_lift.proofs.NodeLaws.{node_in_holds}
use Rattle.dcc_lift.proofs.ChainLaws.{onward_tells}
use Rattle.dcc_demand.specs.Procedures.{Procedures}
use Rattle.dcc_machine_demand.specs.Bodies.{Body, bodies_of, find_at, point_with}
use Rattle.dcc_machine_demand.specs.Holders.{Holder}
use Rattle.dcc_machine_demand.specs.Instance as asks
use Rattle.dcc_sums.specs.Points.{Position}
use Rattle.dcc_sums.specs.Instance as sums
use Rattle.dcc_lifted_demand.specs.StatementsTellPoints.{AreAt}
use Rattle.dcc_lifted_demand.proofs.SiteLaws.{EndsSo, are_at}
use Rattle.dcc_lifted_demand.specs.InstructionPoints.{points_by, points_at, end_sites}
use Rattle.dcc_lifted_demand.specs.LiftedRefinement.{steps_in, lifted_refinement}
use Rattle.dcc_lifted_demand.specs.LiftedIsRefined.{machine, inner, InstructionsAgree}
use Rattle.dcc_lifted_demand.proofs.LinkLaws.{Standing}
use Rattle.dcc_lifted_demand.proofs.EdgeLaws.{has_height}
use Rattle.dcc_lifted_demand.proofs.RefinedLaws as refined
use Rattle.dcc_instruction_demand.specs.Agreement.{ending, Agrees}
use Rattle.dcc_instruction_demand.specs.Laws.{IsInstruction, AgreesWithItsStatements, AgreeingInstructionsAreEnough}
use Rattle.dcc_instruction_demand.proofs.PointLaws as points
use Rattle.dcc_instruction_demand.proofs.SettingLaws.{found_height, action_there}
use Rattle.dcc_instruction_demand.proofs.IdleLaws.{same_once, idle_is, idle_agrees}

-- Instructions at offsets.

-- what goes on in its block is no jump through a table
no_table : (nodes : Nodes) (entry at next : ℕ) → joins nodes entry next ≡ true → edges_into nodes next ≡ at ∷ [] → jumps_by_table_in (node_in nodes at) ≡ false
no_table nodes entry at next t e =
    let other = not (next == entry) in
    let below = comes_from_below nodes (edges_into nodes next) next in
    let come = and_right other below (and_left (other && below) (not (calls_in (node_in nodes next))) t) in
    let here : comes_from_below nodes (at ∷ []) next ≡ true = sym (ap (λ xs. comes_from_below nodes xs next) e) ∙ come in
    not_true (jumps_by_table_in (node_in nodes at))
    (and_right (nat_lt at next && is_one (successors_in (node_in nodes at)) && not (calls_in (node_in nodes at))) (not (jumps_by_table_in (node_in nodes at))) here)

-- The last of an instruction's points.

module _ (scene : BlockSource) (prelude : ℕ) (sound : AreSound (nodes_in scene) (entry_in scene) prelude) (at : ℕ) (node : Node) (found : node_in (nodes_in scene) at ≡ Some node) where
  goes_on : GoesOnAt node.instr.op node.succ.items
  goes_on = node_in_holds (λ (found : ℕ × Node). GoesOnAt found.1.instr.op found.1.succ.items) (nodes_in scene) at node sound.agree found

  table_is : is_table node.instr.op ≡ jumps_by_table_in (node_in (nodes_in scene) at)
  table_is = sym (ap jumps_by_table_in found)

  unused_within : (next : ℕ) → onward (nodes_in scene) (entry_in scene) at ≡ Some next → ending node.instr.op ≡ []
  unused_within next on =
      let tells = onward_tells (nodes_in scene) (entry_in scene) prelude sound at next on in
      let places : node.succ.items ≡ next ∷ [] = sym (ap successors_in found) ∙ tells.succ in
      points.no_test node.instr.op next (table_is ∙ no_table (nodes_in scene) (entry_in scene) at next tells.joins tells.edges)
      (subst (λ xs. GoesOnAt node.instr.op xs) places goes_on)

  same_places : GoesOnAt node.instr.op (map (block_place scene) node.succ.items)
  same_places = points.goes_on_alike node.instr.op (block_place scene) node.succ.items goes_on

  ends_so : (pushed : ℕ) → EndsSo pushed (end_sites scene (onward (nodes_in scene) (entry_in scene) at) at) (ending node.instr.op)
  ends_so pushed = by (onward (nodes_in scene) (entry_in scene) at) refl
    where
      by : (o : Option ℕ) → onward (nodes_in scene) (entry_in scene) at ≡ o → EndsSo pushed (end_sites scene o at) (ending node.instr.op)
      by None on = ap (λ o. sums.only_using (sums.used_at_end (node_exit scene o))) found
          ∙ ap sums.only_using (points.used_at_end scene.procedure node.instr.op (map (block_place scene) node.succ.items) same_places)
      by (Some next) on = unused_within next on

module _ (image : Image) (program : Analysed) (p : Program) (is : IsTranslated image program p)
    (agree : (entry at : ℕ) (scene : BlockSource) (node : Node) (height : ℕ) → IsInstruction image program p entry at scene node height → AgreesWithItsStatements image program p entry at scene node height) where
  abbrev coarse : Procedures ℕ Holder ℤ
  coarse = machine image program p

  abbrev fine : Procedures Position Loc Loc
  fine = inner image program p

  -- what the points of an instruction do
  record Shown (entry at : ℕ) : Type 0 where
    pushed : ℕ
    stmts : List Stmt
    after : List Loc
    are : AreAt (fine.procedure entry) pushed ((lifted_refinement program).steps entry at) stmts after
    agrees : Agrees coarse fine (lifted_refinement program) entry at pushed stmts after

  idle_there : (entry at pushed : ℕ) → (coarse.procedure entry).action at ≡ asks.idle → Agrees coarse fine (lifted_refinement program) entry at pushed [] []
  idle_there entry at pushed idle = idle_agrees coarse fine (lifted_refinement program) entry at pushed (λ L l m s t. same_once s t) (idle_is ((coarse.procedure entry).action at) idle)

  module _ (entry : ℕ) (x : refined.Link image program p is entry) where
    abbrev scene : BlockSource
    scene = refined.scene image program p is entry x

    abbrev body : Body
    body = refined.body image program p is entry x

    steps_there : (at : ℕ) → (lifted_refinement program).steps entry at ≡ points_at scene at
    steps_there at = ap (λ o. steps_in o at) x.scene_found

    fine_there : fine.procedure entry ≡ sums.procedure_of x.graph
    fine_there = refined.fine_is image program p is entry x

    are_there : (at pushed : ℕ) (stmts : List Stmt) (after : List Loc) → pushed ≡ x.graph.pushed → AreAt (sums.procedure_of x.graph) x.graph.pushed (points_at scene at) stmts after
        → AreAt (fine.procedure entry) pushed ((lifted_refinement program).steps entry at) stmts after
    are_there at pushed stmts after same are =
        subst (λ g. AreAt g pushed ((lifted_refinement program).steps entry at) stmts after) (sym fine_there)
        (subst (λ n. AreAt (sums.procedure_of x.graph) n ((lifted_refinement program).steps entry at) stmts after) (sym same)
        (subst (λ ps. AreAt (sums.procedure_of x.graph) x.graph.pushed ps stmts after) (sym (steps_there at)) are))

    no_instruction : (at : ℕ) → node_in (nodes_in scene) at ≡ None → Shown entry at
    no_instruction at none = record {
      pushed = x.graph.pushed;
      stmts = [];
      after = [];
      are = are_there at x.graph.pushed [] [] refl (subst (λ ps. AreAt (sums.procedure_of x.graph) x.graph.pushed ps [] []) (sym (ap (λ o. points_by scene o at) none)) refl);
      agrees = idle_there entry at x.graph.pushed (action_there image program p is entry x at ∙ ap (λ o. asks.action_at (bodies_of program) body (point_with o (find_at x.own at))) none);
    }

    an_instruction : (at : ℕ) (node : Node) → node_in (nodes_in scene) at ≡ Some node → Shown entry at
    an_instruction at node found =
        let height = has_height x.own (nodes_in scene) at node x.are_heights.nodes found in
        let high : height_in x.own at ≡ Some height.0 = sym (found_height x.own at) ∙ height.1 in
        let stmts = node_stmts scene (Some height.0) (Some node) in
        let stand : stmts_at scene at ≡ stmts = ap (λ o. node_stmts scene o (node_in (nodes_in scene) at)) high ∙ ap (λ o. node_stmts scene (Some height.0) o) found in
        let sites = (refined.has image program p is entry x).sites at node found in
        record {
          pushed = pushed_of scene.procedure;
          stmts = stmts;
          after = ending node.instr.op;
          are = are_there at (pushed_of scene.procedure) stmts (ending node.instr.op) (sym (ap (λ (g : Graph). g.pushed) x.is_graph.graph_is))
              (subst (λ ss. AreAt (sums.procedure_of x.graph) x.graph.pushed (points_at scene at) ss (ending node.instr.op)) stand
              (are_at x.graph (points_at scene at) (stmts_at scene at) (end_sites scene (onward (nodes_in scene) (entry_in scene) at) at) (ending node.instr.op) sites
              (ends_so scene image.ip (refined.sound image program p is entry x) at node found x.graph.pushed)));
          agrees = agree entry at scene node height.0 (record { scene_is = x.scene_found; node_is = found; height_is = high });
        }

    shown_linked : (at : ℕ) → Shown entry at
    shown_linked at = by (node_in (nodes_in scene) at) refl
      where
        by : (o : Option Node) → node_in (nodes_in scene) at ≡ o → Shown entry at
        by None e = no_instruction at e
        by (Some node) e = an_instruction at node e

  shown : (entry at : ℕ) → Shown entry at
  shown entry at = elim (refined.stands image program p is entry) [
    | Standing.linked x ↦ shown_linked entry x at
    | Standing.missing x ↦ record {
      pushed = 0;
      stmts = [];
      after = [];
      are = subst (λ g. AreAt g 0 ((lifted_refinement program).steps entry at) [] []) (sym (refined.fine_none image program p is entry x))
          (subst (λ ps. AreAt (sums.procedure_of (graph_or_none None)) 0 ps [] []) (sym (refined.steps_none image program p is entry x at)) (refl, refl));
      agrees = idle_there entry at 0 (ap (λ g. g.action at) (refined.coarse_none image program p is entry x));
    }
  ]

  instructions_agree : InstructionsAgree image program p
  instructions_agree = record {
    changes = λ entry at. let s = shown entry at in points.changes_agree coarse fine (lifted_refinement program) entry at s.pushed s.stmts s.after s.are s.agrees;
    callees = λ entry at. let s = shown entry at in points.callees_agree coarse fine (lifted_refinement program) entry at s.pushed s.stmts s.after s.are s.agrees;
    wants = λ entry at. let s = shown entry at in points.wants_agree coarse fine (lifted_refinement program) entry at s.pushed s.stmts s.after s.are s.agrees;
  }

pub agreeing-instructions_are_enough : AgreeingInstructionsAreEnough
agreeing-instructions_are_enough image program p is agree = instructions_agree image program p is agree
