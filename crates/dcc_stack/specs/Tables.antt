-- Jumps through tables: in every run along a trail that tells a table's greatest number, the register holds twice a
-- number up to that, so the run goes on at a successor of the trail.
use Rattle.std.specs.Prelude.{◌≡◌, ◌≤◌, ℕ, ◌*◌, false, List, ◌∷◌, Contains, Some}
use Rattle.dcc_run.specs.End.{is_over}
use Rattle.dcc_num.specs.declared.Reg.{Reg}
use Rattle.dcc_machine.specs.declared.cpu.Cpu.{Cpu}
use Rattle.dcc_machine.specs.declared.image.Image.{Image}
use Rattle.dcc_prog.specs.declared.frame.Program.{Program}
use Rattle.dcc_machine.specs.declared.instr.Op.TheVariants.{Call, Ret}
use Rattle.dcc_machine.specs.declared.instr.Instr.{Instr}
use Rattle.dcc_machine.specs.Machine.{State, word_in}
use Rattle.dcc_machine.specs.Step.{step}
use Rattle.dcc_machine.specs.Code.{HoldsCode}
use Rattle.dcc_prog.specs.Trail.{instruction_in, table_number, successors, IsTrail}
use Rattle.dcc_prog.specs.RunLaws.{HasPassed}
use Rattle.dcc_stack.specs.Accepted.{IsProgramOfFile, IsAt}

-- the register holds twice a number up to the greatest
pub record HoldsTwice (s : State) (r : Reg) (greatest : ℕ) : Type 0 where
  pub number : ℕ
  pub fits : number ≤ greatest
  pub is : word_in s r ≡ 2 * number

pub record RunsFollowTrails : Type 0 where
  pub twice :
      (cpu : Cpu) (image : Image) (program : Program) (entry at : ℕ) (before : List ℕ) (s : State) (q : Reg)
      (greatest : ℕ) → IsProgramOfFile cpu image program → IsTrail image program.layout entry (at ∷ before)
      → HasPassed image program.layout before s → table_number image program.layout q before ≡ Some greatest
      → HoldsTwice s q greatest
  -- a step of any instruction but CALL and RET that doesn't end the run goes to a successor of the trail
  pub goes_on :
      (cpu : Cpu) (image : Image) (program : Program) (entry at : ℕ) (before : List ℕ) (s : State) (instr : Instr)
      (height : _) → IsProgramOfFile cpu image program → IsAt image program.layout entry at before height
      → HasPassed image program.layout before s → s.ip ≡ at → is_over s.end ≡ false
      → HoldsCode image program.layout.code_end s → instruction_in image program.layout at ≡ Some instr
      → ((target : ℕ) → ¬ (instr.op ≡ Call target)) → ((count : ℕ) → ¬ (instr.op ≡ Ret count))
      → is_over (step program.layout.cpu s).end ≡ false
      → Contains (successors image program.layout (at ∷ before)) (step program.layout.cpu s).ip
