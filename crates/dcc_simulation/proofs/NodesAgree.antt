-- Every instruction but CALL and RET is a plain operation, a special one, or one that uses the stack; so after its
-- statements the runs agree, or both have ended alike.
use Rattle.std.proofs.Common.{◌≡◌, Bool, true, false, true≢false, not, ◌&&◌, ◌||◌, refl, ap, ◌∙◌}
use Rattle.dcc_num.specs.declared.Reg.TheVariants.{Sp}
use Rattle.dcc_machine.specs.declared.instr.Plain.TheVariants.{Xlat}
use Rattle.dcc_machine.specs.declared.instr.Unary.TheVariants.{Div, Idiv}
use Rattle.dcc_machine.specs.declared.instr.Op.{Op}
use Rattle.dcc_machine.specs.declared.instr.Op.TheVariants.{Unary, Lea, Push, Pop, Enter, Leave, Plain, Table, Call, Ret, Int21}
use Rattle.dcc_machine.specs.SpAndBp.{is_sp_move}
use Rattle.dcc_prog.specs.CleanLaws.{moves_frames}
use Rattle.dcc_ir.specs.Run.{execute}
use Rattle.dcc_simulation.specs.Statements.{moves_frame, node_stmts}
use Rattle.dcc_simulation.specs.Nodes.{procedures_in, StepAgrees, NodesAgree}
use Rattle.dcc_simulation.specs.Operation.{is_performed, is_plain_operation}
use Rattle.dcc_simulation.specs.Special.{is_special}
use Rattle.dcc_simulation.specs.StackNodes.{uses_stack}
use Rattle.dcc_simulation.proofs.OperationNodes.{operation-nodes}
use Rattle.dcc_simulation.proofs.SpecialNodes.{special-nodes}
use Rattle.dcc_simulation.proofs.StackNodes.{stack-nodes}

data IsKind (op : Op) : Type 0 where
  plain : is_plain_operation op ≡ true → IsKind op
  special : is_special op ≡ true → IsKind op
  stack : uses_stack op ≡ true → IsKind op

-- an operation with operands, that moves SP or BP or leaves them
performed-kind : (op : Op) → is_performed op ≡ true → uses_stack op ≡ (is_sp_move op || moves_frame op) → IsKind op
performed-kind op so works = by (is_sp_move op || moves_frame op) refl
  where
    by : (b : Bool) → (is_sp_move op || moves_frame op) ≡ b → IsKind op
    by true moves = stack (works ∙ moves)
    by false stays = plain (ap (λ b. b && not (is_sp_move op || moves_frame op)) so ∙ ap not stays)

kind-of : (op : Op) → moves_frames op ≡ false → IsKind op
kind-of (Unary Div a) stays = special refl
kind-of (Unary Idiv a) stays = special refl
kind-of (Unary operation a) stays = performed-kind (Unary operation a) refl refl
kind-of (Lea Sp ea) stays = stack refl
kind-of (Lea r ea) stays = special refl
kind-of (Push a) stays = stack refl
kind-of (Pop a) stays = stack refl
kind-of (Enter count) stays = stack refl
kind-of Leave stays = stack refl
kind-of (Plain Xlat) stays = special refl
kind-of (Plain operation) stays = performed-kind (Plain operation) refl refl
kind-of (Table r offset) stays = special refl
kind-of Int21 stays = special refl
kind-of (Call target) stays = absurd (true≢false stays)
kind-of (Ret count) stays = absurd (true≢false stays)
kind-of op stays = performed-kind op refl refl

pub nodes-agree : NodesAgree
nodes-agree e s kept instr t p node height is here stays before = by (kind-of instr.op stays)
  where
    by : IsKind instr.op
        → StepAgrees e s kept instr (execute (node_stmts e.cpu (procedures_in e.program) p height node) t)
    by (plain so) = operation-nodes e s kept instr t p node height is here so before
    by (special so) = special-nodes e s kept instr t p node height is here so before
    by (stack so) = stack-nodes e s kept instr t p node height is here so before
