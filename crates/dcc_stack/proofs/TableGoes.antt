-- Where an operation goes on: at one of its successors.
use Rattle.std.proofs.Common.{◌≡◌, ℕ, ◌/◌, Bool, true, false, List, [], ◌∷◌, Option, refl, sym, ap, ◌∙◌, subst, arith}
use Rattle.std.proofs.lemmas.Bool.{eqb-true}
use Rattle.std.specs.Prelude.{◌==◌, Contains, if◌then◌else◌}
use Rattle.dcc_run.specs.End.{is_over}
use Rattle.dcc_num.specs.declared.Width.{Width}
use Rattle.dcc_num.specs.declared.Width.TheVariants.{Byte as byte_width, Word as word_width}
use Rattle.dcc_num.specs.declared.Reg.TheVariants.{Ax, Cx}
use Rattle.dcc_num.specs.declared.Flags.{Flags}
use Rattle.dcc_num.specs.declared.dos.TheConstants.{GETCHE, PUTC, GETCH, PUTS, EXIT}
use Rattle.dcc_machine.specs.declared.cpu.Cpu.{Cpu}
use Rattle.dcc_machine.specs.declared.instr.Plain.{Plain as PlainName}
use Rattle.dcc_machine.specs.declared.instr.Plain.TheVariants.{Nop, Cbw, Cwd, Xlat, Clc, Stc, Cmc, Cli, Sti, Cld}
use Rattle.dcc_machine.specs.declared.instr.Operand.{Operand}
use Rattle.dcc_machine.specs.declared.instr.Operand.TheVariants.{Word, Byte, Seg, Mem, Const}
use Rattle.dcc_machine.specs.declared.instr.Op.{Op}
use Rattle.dcc_machine.specs.declared.instr.Op.TheVariants.{Alu, Unary, Shift, Mov, Xchg, Lea, Imul3, Push, Pop, Enter, Leave, Plain, Jump, Branch, Loop, LoopE, LoopNe, Jcxz, Table, Call, Ret, Int21}
use Rattle.dcc_machine.specs.Machine.{State, word_in, operand_value, operand_width, with_operand}
use Rattle.dcc_machine.specs.Operations.{with_pair, accumulator_in, upper_in, plain_step, with_sp_raised, top_word}
use Rattle.dcc_machine.specs.Operations.{holds}
use Rattle.dcc_machine.specs.Dos.{with_key, dos_step}
use Rattle.dcc_machine.specs.Step.{op_step}
use Rattle.dcc_machine.specs.Writes.{writes_operand}
use Rattle.dcc_machine.specs.Successors.{is_exit, op_successors}
use Rattle.dcc_machine.proofs.OperationForms.{alu_result, alu_written, alu-form, Outcome, in_operand, in_pair, in_fault, unary_outcome, outcome_step, unary-form}
use Rattle.dcc_machine.proofs.DosLaws.{calls-leave}

-- Operations that go on to the next instruction.

operand-ip : (x : Operand) (v : ℕ) (s : State) → (with_operand s x v).ip ≡ s.ip
operand-ip (Word r) v s = refl
operand-ip (Byte r half) v s = refl
operand-ip (Seg number) v s = refl
operand-ip (Mem byte_width ea) v s = refl
operand-ip (Mem word_width ea) v s = refl
operand-ip (Const width constant) v s = refl

written-ip : (writes : Bool) (x : Operand) (result : ℕ × Flags) (s : State) → (alu_written writes x result s).ip ≡ s.ip
written-ip true x result s = operand-ip x result.0 _
written-ip false x result s = refl

pair-ip : (w : Width) (low high : ℕ) (s : State) → (with_pair w low high s).ip ≡ s.ip
pair-ip byte_width low high s = refl
pair-ip word_width low high s = refl

outcome-ip : (outcome : Outcome) (w : Width) (x : Operand) (at : ℕ) (s : State)
    → is_over (outcome_step outcome w x at s).end ≡ false → (outcome_step outcome w x at s).ip ≡ s.ip
outcome-ip (in_operand result) w x at s goes = operand-ip x result.0 _
outcome-ip (in_pair pair) w x at s goes = pair-ip w pair.0 pair.1 _
outcome-ip in_fault w x at s goes = cc

plain-ip : (operation : PlainName) (s : State) → (plain_step operation s).ip ≡ s.ip
plain-ip Nop s = refl
plain-ip Cbw s = refl
plain-ip Cwd s = refl
plain-ip Xlat s = refl
plain-ip Clc s = refl
plain-ip Stc s = refl
plain-ip Cmc s = refl
plain-ip Cli s = refl
plain-ip Sti s = refl
plain-ip Cld s = refl

-- DOS calls.

key-ip : (echo : Bool) (input : List ℕ) (s : State) → (with_key echo input s).ip ≡ s.ip
key-ip echo [] s = refl
key-ip echo (byte ∷ rest) s = refl

-- a call that doesn't end the run goes on to the next instruction
dos-ip : (number at : ℕ) (s : State) → is_over (dos_step number at s).end ≡ false → (dos_step number at s).ip ≡ s.ip
dos-ip number at s goes =
    calls-leave (λ t. is_over t.end ≡ false → t.ip ≡ s.ip) number at s (λ running. refl) (λ running. cc)
    (λ echo running. key-ip echo s.input s) (λ running. refl) (λ running. cc) goes

-- call 4Ch ends it
pub exit-over : (number at : ℕ) (s : State) → (number == EXIT) ≡ true → is_over (dos_step number at s).end ≡ true
exit-over number at s e =
    subst (λ n. is_over (dos_step n at s).end ≡ true) (sym (eqb-true number EXIT e)) refl

-- Successors.

in-first : (x : ℕ) (rest : List ℕ) → Contains (x ∷ rest) x
in-first x rest = (0, omega arith, refl)

of-one : (x y : ℕ) → y ≡ x → Contains (x ∷ []) y
of-one x y e = subst (λ n. Contains (x ∷ []) n) (sym e) (in-first x [])

of-two : (so : Bool) (target next : ℕ) → Contains (target ∷ next ∷ []) (if so then target else next)
of-two true target next = (0, omega arith, refl)
of-two false target next = (1, omega arith, refl)

-- how the successors of a jump through a table, and of INT 21h, are told
pub record GoesOn (op : Op) (ah : Option ℕ) (targets : List ℕ) (t : State) : Type 0 where
  pub running : is_over t.end ≡ false
  pub no_call : (target : ℕ) → ¬ (op ≡ Call target)
  pub no_ret : (count : ℕ) → ¬ (op ≡ Ret count)
  pub no_exit : op ≡ Int21 → is_exit ah ≡ false
  pub table : (r : _) (offset : ℕ) → op ≡ Table r offset → Contains targets t.ip

pub op-goes : (cpu : Cpu) (op : Op) (at : ℕ) (s : State) (ah : Option ℕ) (targets : List ℕ)
    → GoesOn op ah targets (op_step cpu op at s) → Contains (op_successors op s.ip ah targets) (op_step cpu op at s).ip
op-goes cpu (Alu operation a b) at s ah targets goes =
    let result = alu_result operation (operand_width a) (operand_value s a) (operand_value s b) s.flags.cf in
    of-one s.ip _
    (ap (λ (t : State). t.ip) (alu-form operation (operand_width a) a (operand_value s a) (operand_value s b) s)
    ∙ written-ip (writes_operand operation) a result s)
op-goes cpu (Unary operation a) at s ah targets goes =
    let w = operand_width a in
    let form = unary-form operation w a (operand_value s a) at s in
    let outcome = unary_outcome operation w (accumulator_in w s) (upper_in w s) (operand_value s a) s.flags in
    of-one s.ip _
    (ap (λ (t : State). t.ip) form
    ∙ outcome-ip outcome w a at s (ap (λ (t : State). is_over t.end) (sym form) ∙ goes.running))
op-goes cpu (Shift operation a count) at s ah targets goes = of-one s.ip _ (operand-ip a _ _)
op-goes cpu (Mov to from) at s ah targets goes = of-one s.ip _ (operand-ip to _ s)
op-goes cpu (Xchg a b) at s ah targets goes = of-one s.ip _ (operand-ip b _ _ ∙ operand-ip a _ s)
op-goes cpu (Lea r ea) at s ah targets goes = in-first s.ip []
op-goes cpu (Imul3 r a constant) at s ah targets goes = in-first s.ip []
op-goes cpu (Push a) at s ah targets goes = in-first s.ip []
op-goes cpu (Pop a) at s ah targets goes = of-one s.ip _ (operand-ip a (top_word s) (with_sp_raised 2 s))
op-goes cpu (Enter count) at s ah targets goes = in-first s.ip []
op-goes cpu Leave at s ah targets goes = in-first s.ip []
op-goes cpu (Plain operation) at s ah targets goes = of-one s.ip _ (plain-ip operation s)
op-goes cpu (Jump target) at s ah targets goes = in-first target []
op-goes cpu (Branch condition target) at s ah targets goes = of-two (holds condition s.flags) target s.ip
op-goes cpu (Loop target) at s ah targets goes = of-two _ target s.ip
op-goes cpu (LoopE target) at s ah targets goes = of-two _ target s.ip
op-goes cpu (LoopNe target) at s ah targets goes = of-two _ target s.ip
op-goes cpu (Jcxz target) at s ah targets goes = of-two (word_in s Cx == 0) target s.ip
op-goes cpu (Table r offset) at s ah targets goes = goes.table r offset refl
op-goes cpu (Call target) at s ah targets goes = absurd (goes.no_call target refl)
op-goes cpu (Ret count) at s ah targets goes = absurd (goes.no_ret count refl)
op-goes cpu Int21 at s ah targets goes =
    let number = word_in s Ax / 256 in
    subst (λ b. Contains (if b then [] else s.ip ∷ []) (dos_step number at s).ip) (sym (goes.no_exit refl))
    (of-one s.ip _ (dos-ip number at s goes.running))
