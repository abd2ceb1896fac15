-- Steps by the form of an instruction.
use Rattle.std.proofs.Common.{◌≡◌, ◌≢◌, ℕ, true, false, List, [], Option, Some, refl, sym, ap, ◌∙◌, subst, arith}
use Rattle.dcc_run.specs.End.{Running as running}
use Rattle.dcc_num.specs.declared.Reg.{Reg}
use Rattle.dcc_num.specs.declared.Width.{Width}
use Rattle.dcc_num.specs.declared.Width.TheVariants.{Word as word_width}
use Rattle.dcc_machine.specs.declared.cpu.Cpu.{Cpu}
use Rattle.dcc_machine.specs.declared.instr.Alu.{Alu}
use Rattle.dcc_machine.specs.declared.instr.Alu.TheVariants.{Add, Or, Adc, Sbb, And, Sub, Xor, Cmp, Test}
use Rattle.dcc_machine.specs.declared.instr.Operand.{Operand}
use Rattle.dcc_machine.specs.declared.instr.Operand.TheVariants.{Word}
use Rattle.dcc_machine.specs.declared.instr.Op.TheVariants.{Int21}
use Rattle.dcc_machine.specs.declared.instr.Instr.{Instr}
use Rattle.dcc_machine.specs.Machine.{State}
use Rattle.dcc_machine.specs.Operations.{with_result, with_flags, alu_step}
use Rattle.dcc_machine.specs.Writes.{writes_operand}
use Rattle.dcc_machine.specs.Table.{instruction_at}
use Rattle.dcc_machine.specs.Step.{code_bytes, op_step, step}
use Rattle.dcc_machine.proofs.ConsoleLaws.{op-keeps}
use Rattle.dcc_console.specs.WithConsole.{beside_console}
use Rattle.dcc_console.specs.Steps.{Makes}
use Rattle.dcc_step.specs.declared.form.Form.{Form}
use Rattle.dcc_step.specs.declared.form.Form.TheVariants.{Registers, Constant, Memory, Inc, Dec, Move, Set, Load, Store, Jump, Branch, Other}
use Rattle.dcc_step.specs.Core.{Core, with_console, core_of, state_of, changed_by}
use Rattle.dcc_step.specs.Form.{op_of, combined_of, IsQuietStep}
use Rattle.dcc_step.specs.declared.ending.Stepped.TheVariants.{Running as goes_on}
use Rattle.dcc_step.specs.Stepped.{machine, counted, StepAnswers, LeadsOnBytes}
use Rattle.dcc_step.proofs.Scenes.{made_quiet, leads_quiet}
use Rattle.dcc_step.proofs.Steps.{step_is, moved_past, ended, no_fault}

-- an operation on two operands puts its combined result into the first one, or sets the flags alone
pub alu_writes : (kind : Alu) (w : Width) (x : Operand) (a b : ℕ) (s : State) → writes_operand kind ≡ true
    → alu_step kind w x a b s ≡ with_result x (combined_of kind w a b s.flags.cf) s
alu_writes Add w x a b s so = refl
alu_writes Or w x a b s so = refl
alu_writes Adc w x a b s so = refl
alu_writes Sbb w x a b s so = refl
alu_writes And w x a b s so = refl
alu_writes Sub w x a b s so = refl
alu_writes Xor w x a b s so = refl
alu_writes Cmp w x a b s so = cc
alu_writes Test w x a b s so = cc

pub alu_compares : (kind : Alu) (w : Width) (x : Operand) (a b : ℕ) (s : State) → writes_operand kind ≡ false
    → alu_step kind w x a b s ≡ with_flags (combined_of kind w a b s.flags.cf).1 s
alu_compares Cmp w x a b s so = refl
alu_compares Test w x a b s so = refl
alu_compares Add w x a b s so = cc
alu_compares Or w x a b s so = cc
alu_compares Adc w x a b s so = cc
alu_compares Sbb w x a b s so = cc
alu_compares And w x a b s so = cc
alu_compares Sub w x a b s so = cc
alu_compares Xor w x a b s so = cc

-- no operation of a form is a call of DOS
no_call : (form : Form) → form ≢ Other → op_of form ≢ Int21
no_call (Registers kind a b) other = λ is. cc
no_call (Constant kind a constant) other = λ is. cc
no_call (Memory kind a ea) other = λ is. cc
no_call (Inc r) other = λ is. cc
no_call (Dec r) other = λ is. cc
no_call (Move a b) other = λ is. cc
no_call (Set r constant) other = λ is. cc
no_call (Load r ea) other = λ is. cc
no_call (Store ea r) other = λ is. cc
no_call (Jump target) other = λ is. cc
no_call (Branch condition target) other = λ is. cc
no_call Other other = λ is. other refl

-- No quick step ends the run.

alu_end : (kind : Alu) (r : Reg) (a b : ℕ) (s : State) → (alu_step kind word_width (Word r) a b s).end ≡ s.end
alu_end Add r a b s = refl
alu_end Or r a b s = refl
alu_end Adc r a b s = refl
alu_end Sbb r a b s = refl
alu_end And r a b s = refl
alu_end Sub r a b s = refl
alu_end Xor r a b s = refl
alu_end Cmp r a b s = refl
alu_end Test r a b s = refl

form_end : (form : Form) (cpu : Cpu) (at : ℕ) (s : State) → form ≢ Other → (op_step cpu (op_of form) at s).end ≡ s.end
form_end (Registers kind a b) cpu at s other = alu_end kind a _ _ s
form_end (Constant kind a constant) cpu at s other = alu_end kind a _ _ s
form_end (Memory kind a ea) cpu at s other = alu_end kind a _ _ s
form_end (Inc r) cpu at s other = refl
form_end (Dec r) cpu at s other = refl
form_end (Move a b) cpu at s other = refl
form_end (Set r constant) cpu at s other = refl
form_end (Load r ea) cpu at s other = refl
form_end (Store ea r) cpu at s other = refl
form_end (Jump target) cpu at s other = refl
form_end (Branch condition target) cpu at s other = refl
form_end Other cpu at s other = absurd (other refl)

-- the operation of a form, with the instruction pointer moved past the instruction, is the machine's step
pub quiet_step : (m moved new : Core) (form : Form) (len : ℕ) → m.end ≡ running → form ≢ Other
    → instruction_at m.cpu m.ip (code_bytes (state_of m)) ≡ Some (record { op = op_of form; len = len })
    → moved ≡ moved_past (record { op = op_of form; len = len }) m
    → ((at : ℕ) → new ≡ changed_by (op_step moved.cpu (op_of form) at) moved) → IsQuietStep m new
quiet_step m moved new form len runs other found moved_is done =
    let instr : Instr = record { op = op_of form; len = len } in
    let there : Core = moved_past instr m in
    let is : new ≡ changed_by (op_step m.cpu (op_of form) m.ip) there =
    subst (λ (k : Core). new ≡ changed_by (op_step k.cpu (op_of form) m.ip) k) moved_is (done m.ip) in
    record {
      runs = runs;
      goes_on = ap (λ (k : Core). k.end) is ∙ form_end form m.cpu m.ip (state_of there) other ∙ runs;
      cpu = ap (λ (k : Core). k.cpu) is;
      leads = λ input events.
          step_is m (Some instr) runs found input events
          ∙ op-keeps m.cpu (op_of form) m.ip (no_call form other) input events (state_of there)
          ∙ ap (λ k. with_console k input events) (sym is);
    }

pub quiet_makes : (m new : Core) (left taken : Option (List ℕ)) → IsQuietStep m new
    → Makes machine (beside_console m left taken) (beside_console new left taken)
quiet_makes m new left taken quiet = made_quiet step m new left taken quiet.cpu quiet.leads

pub quiet_leads : (m new : Core) → IsQuietStep m new → LeadsOnBytes step m new
quiet_leads m new quiet =
    leads_quiet step m new (ap (core_of m.cpu) (quiet.leads [] []) ∙ ap (λ c. record new { cpu = c }) (sym quiet.cpu))

-- what a step on the short path answers
pub quiet_answers : (m new : Core) (left taken : Option (List ℕ)) (reads writes : ℕ) → IsQuietStep m new
    → StepAnswers goes_on (counted m left taken reads writes) (counted new left taken reads writes)
quiet_answers m new left taken reads writes quiet = record {
  step = quiet_makes m new left taken quiet;
  bytes = λ so. quiet_leads m new quiet;
  answer = ended new running quiet.goes_on;
  faults = no_fault goes_on reads reads writes writes refl (omega arith) (omega arith);
}
