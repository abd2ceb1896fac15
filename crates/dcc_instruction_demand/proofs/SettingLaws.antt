-- An instruction of a procedure that is found, in its setting.
use Rattle.std.proofs.Common.{◌≡◌, ℕ, ℤ, Bool, false, ◌||◌, ◌&&◌, if◌then◌else◌, ◌==◌, List, [], ◌∷◌, Option, Some, None, refl, ap, ◌∙◌, true≢false}
use Rattle.dcc_machine.specs.declared.image.Image.{Image}
use Rattle.dcc_prog.specs.declared.frame.Program.{Program as Analysed}
use Rattle.dcc_prog.specs.declared.procedure.Node.{Node}
use Rattle.dcc_machine.specs.declared.instr.Op.{Op}
use Rattle.dcc_machine.specs.declared.instr.Op.TheVariants.{Mov, Xchg, Push, Pop, Call}
use Rattle.dcc_stack.specs.Slots.{writes_memory}
use Rattle.dcc_ir.specs.declared.syntax.Loc.{Loc}
use Rattle.dcc_ir.specs.Tree.{Program}
use Rattle.dcc_simulation.specs.Procedures.{Procedure, procedure_at}
use Rattle.dcc_simulation.specs.Nodes.{procedures_in}
use Rattle.dcc_lift.specs.Blocks.{node_in, height_in}
use Rattle.dcc_lift.specs.Translated.{IsTranslated}
use Rattle.dcc_demand.specs.Procedures.{Leaves, Makes, LeavesWord, Overwrites, WordEffect, Procedures}
use Rattle.dcc_machine_demand.specs.Bodies.{Body, bodies_of, find_at, point_with, Point}
use Rattle.dcc_machine_demand.specs.Holders.{Holder, Spot, in_frame, is_accessed_by}
use Rattle.dcc_machine_demand.specs.Moves.{moved_effect, moved_made_of, moved_uses, pushed_from, pushed_offset}
use Rattle.dcc_machine_demand.specs.Moves.{pushed_spots}
use Rattle.dcc_machine_demand.specs.Values.{moves_or_calls, value_written, value_made_of, value_uses}
use Rattle.dcc_machine_demand.specs.Instance as asks
use Rattle.dcc_sums.specs.Points.{Position}
use Rattle.dcc_lifted_demand.specs.LiftedRefinement.{lifted_refinement}
use Rattle.dcc_lifted_demand.specs.LiftedIsRefined.{machine, inner}
use Rattle.dcc_lifted_demand.proofs.EdgeLaws.{found_node}
use Rattle.dcc_lifted_demand.proofs.RefinedLaws as refined
use Rattle.dcc_instruction_demand.proofs.OperationLaws.{IsValueOperation}

pub found_height : (heights : List (ℕ × ℕ)) (at : ℕ) → find_at heights at ≡ height_in heights at
found_height [] at = refl
found_height (found ∷ heights) at = ap (λ o. if found.0 == at then Some found.1 else o) (found_height heights at)

-- what makes values pushes and calls nothing
record IsQuiet (bodies : List Body) (body : Body) (op : Op) : Type 0 where
  callee : asks.callee_in bodies op ≡ None
  pushes : pushed_spots body op ≡ []
  calls : asks.callee_of op ≡ None

quiet_op : (bodies : List Body) (body : Body) (op : Op) → moves_or_calls op ≡ false → IsQuiet bodies body op
quiet_op bodies body (Mov to from) e = absurd (true≢false e)
quiet_op bodies body (Xchg a b) e = absurd (true≢false e)
quiet_op bodies body (Push a) e = absurd (true≢false e)
quiet_op bodies body (Pop a) e = absurd (true≢false e)
quiet_op bodies body (Call target) e = absurd (true≢false e)
quiet_op bodies body op e = record { callee = refl; pushes = refl; calls = refl }

module _ (image : Image) (program : Analysed) (p : Program) (is : IsTranslated image program p) (entry : ℕ) (x : refined.Link image program p is entry) where
  abbrev pub coarse : Procedures ℕ Holder ℤ
  coarse = machine image program p

  abbrev pub fine : Procedures Position Loc Loc
  fine = inner image program p

  abbrev pub found_procedure : Option Procedure
  found_procedure = procedure_at (procedures_in program) entry

  abbrev pub body : Body
  body = refined.body image program p is entry x

  pub action_there : (at : ℕ) → (coarse.procedure entry).action at ≡ asks.action_at (bodies_of program) body (point_with (node_in x.proc.nodes.entries at) (find_at x.own at))
  action_there at =
      ap (λ g. g.action at) (refined.coarse_is image program p is entry x)
      ∙ ap (λ o. asks.action_at (bodies_of program) body (point_with o (find_at x.own at))) (found_node x.proc.nodes.entries at)

  module _ (at : ℕ) (node : Node) (height : ℕ) (found : node_in x.proc.nodes.entries at ≡ Some node) (high : height_in x.own at ≡ Some height) where
    abbrev pub point : Point
    point = record { node = node; height = height }

    pub action_is : (coarse.procedure entry).action at ≡ asks.action_of (bodies_of program) body point
    action_is =
        action_there at ∙ ap (λ o. asks.action_at (bodies_of program) body (point_with o (find_at x.own at))) found
        ∙ ap (λ o. asks.action_at (bodies_of program) body (point_with (Some node) o)) (found_height x.own at ∙ high)

    abbrev word_by : ℤ → Bool → List Spot → WordEffect Holder
    word_by k touched spots =
        if touched || (writes_memory node.instr.op && is_accessed_by body node.instr.op k) then Overwrites
        else pushed_from (pushed_offset height) spots k

    word_is : moves_or_calls node.instr.op ≡ false → (k : ℤ) → (asks.action_of (bodies_of program) body point).word_effect k
        ≡ (if value_written body node.instr.op node.number (in_frame k) then Overwrites else LeavesWord)
    word_is e k =
        let quiet = quiet_op (bodies_of program) body node.instr.op e in
        ap (λ c. word_by k (asks.touches_byte c height (in_frame k)) (pushed_spots body node.instr.op)) quiet.callee
        ∙ ap (λ spots. word_by k false spots) quiet.pushes

    pub value_operation : moves_or_calls node.instr.op ≡ false → IsValueOperation coarse fine (lifted_refinement program) entry at found_procedure (bodies_of program) body point
    value_operation e = record {
      same = λ L l s. s;
      as_same = λ L l s. s;
      same_word = λ k l s. s;
      exposed = λ L. ap (λ g. g.is_exposed L) (refined.coarse_is image program p is entry x);
      is = action_is;
      effect_is = λ L. ap (λ b. if b then if asks.touches (bodies_of program) body point L then Makes else moved_effect (asks.moves (bodies_of program) body point) L
          else if value_written body node.instr.op node.number L then Makes else Leaves) e;
      made_is = λ to from. ap (λ b. if b then moved_made_of (asks.moves (bodies_of program) body point) to from else value_made_of body node.instr.op to from) e;
      uses_is = λ L. ap (λ b. if b then moved_uses (asks.moves (bodies_of program) body point) L || asks.passes_byte (asks.callee_in (bodies_of program) node.instr.op) height L
          else value_uses body node.instr.op node.number L) e;
      word_is = word_is e;
      callee_is = (quiet_op (bodies_of program) body node.instr.op e).calls;
    }
