-- What moves SP and BP between each other, or takes BP back, does nothing to places.
use Rattle.std.proofs.Common.{◌≡◌, ℕ, ℤ, Bool, true, false, not, ◌&&◌, List, None, refl, sym, ap, ◌∙◌, true≢false}
use Rattle.dcc_num.specs.declared.Reg.TheVariants.{Sp, Bp}
use Rattle.dcc_prog.specs.declared.procedure.Node.{Node}
use Rattle.dcc_machine.specs.declared.instr.Operand.TheVariants.{Word}
use Rattle.dcc_machine.specs.declared.instr.Op.{Op}
use Rattle.dcc_machine.specs.declared.instr.Op.TheVariants.{Mov, Pop}
use Rattle.dcc_machine.specs.Wanted.{Location}
use Rattle.dcc_lift.proofs.ListTests.{and_false}
use Rattle.dcc_demand.specs.Procedures.{Leaves, LeavesWord, is_left}
use Rattle.dcc_machine_demand.specs.Bodies.{Body, Point}
use Rattle.dcc_machine_demand.specs.Holders.{Holder, held, in_frame, is_holder}
use Rattle.dcc_machine_demand.specs.Values.{is_sure}
use Rattle.dcc_machine_demand.specs.Instance as asks
use Rattle.dcc_instruction_demand.proofs.IdleLaws.{IsIdle}
use Rattle.dcc_instruction_demand.proofs.WorkLaws.{point_with_op}

-- the operation moves SP to BP or BP to SP, or takes BP back
abbrev pub is_frame_move : Op → Bool
is_frame_move (Mov (Word Bp) (Word Sp)) = true
is_frame_move (Mov (Word Sp) (Word Bp)) = true
is_frame_move (Pop (Word Bp)) = true
is_frame_move op = false

module _ (bodies : List Body) (body : Body) (node : Node) (height : ℕ) where
  abbrev pub moving_point : Op → Point
  moving_point op = point_with_op node height op

  module _ (op : Op) (held_left : (l : Location) → asks.effect_at bodies body (moving_point op) (held l) ≡ Leaves) (frame_left : (k : ℤ) → asks.effect_at bodies body (moving_point op) (in_frame k) ≡ Leaves)
      (held_unused : (l : Location) → asks.uses_at bodies body (moving_point op) (held l) ≡ false) (frame_unused : (k : ℤ) → asks.uses_at bodies body (moving_point op) (in_frame k) ≡ false)
      (words : (k : ℤ) → (asks.action_of bodies body (moving_point op)).word_effect k ≡ LeavesWord) (quiet : asks.callee_of op ≡ None) where
    leaves : (L : Holder) → asks.effect_at bodies body (moving_point op) L ≡ Leaves
    leaves (held l) = held_left l
    leaves (in_frame k) = frame_left k

    unused : (L : Holder) → asks.uses_at bodies body (moving_point op) L ≡ false
    unused (held l) = held_unused l
    unused (in_frame k) = frame_unused k

    idle_by : IsIdle (asks.action_of bodies body (moving_point op))
    idle_by = record {
      leaves = leaves;
      leaves_word = words;
      unused = λ L. ap (λ b. is_holder body L && b) (unused L) ∙ and_false (is_holder body L);
      unsure = λ L. ap (λ e. not (is_left e) && is_sure op L) (leaves L);
      quiet = quiet;
    }

  pub moves_idle : (op : Op) → is_frame_move op ≡ true → IsIdle (asks.action_of bodies body (moving_point op))
  moves_idle (Mov (Word Bp) (Word Sp)) t = idle_by (Mov (Word Bp) (Word Sp)) (λ l. refl) (λ k. refl) (λ l. refl) (λ k. refl) (λ k. refl) refl
  moves_idle (Mov (Word Sp) (Word Bp)) t = idle_by (Mov (Word Sp) (Word Bp)) (λ l. refl) (λ k. refl) (λ l. refl) (λ k. refl) (λ k. refl) refl
  moves_idle (Pop (Word Bp)) t = idle_by (Pop (Word Bp)) (λ l. refl) (λ k. refl) (λ l. refl) (λ k. refl) (λ k. refl) refl
  moves_idle op t = absurd (true≢false (sym t))
