-- Laws of the machine's steps.
use Rattle.std.proofs.Common.{◌≢◌, ℕ, ◌+◌, ◌/◌, ◌%◌, Bool, true, false, List, [], ◌∷◌, Option, Some, None, sym, ap, subst}
use Rattle.std.specs.Prelude.{if◌then◌else◌, ◌==◌}
use Rattle.dcc_run.specs.End.{is_over}
use Rattle.dcc_run.specs.Event.{MetEnd, writes}
use Rattle.dcc_run.specs.Prefix.{IsPrefix}
use Rattle.dcc_run.specs.System.{IsLawful}
use Rattle.dcc_run.proofs.PrefixLaws.{prefix_refl, prefix_append}
use Rattle.dcc_num.specs.declared.Reg.TheVariants.{Ax, Dx}
use Rattle.dcc_machine.specs.declared.cpu.Cpu.{Cpu}
use Rattle.dcc_machine.specs.declared.instr.Op.{Op}
use Rattle.dcc_machine.specs.declared.instr.Op.TheVariants.{Alu, Unary, Shift, Mov, Xchg, Lea, Imul3, Push, Pop, Enter, Leave, Plain, Jump, Branch, Loop, LoopE, LoopNe, Jcxz, Table, Call, Ret, Int21}
use Rattle.dcc_machine.specs.declared.instr.Instr.{Instr}
use Rattle.dcc_machine.specs.Table.{instruction_at}
use Rattle.dcc_machine.specs.Machine.{State, word_in}
use Rattle.dcc_machine.specs.Dos.{dos_step, dos_string, key_events, with_key}
use Rattle.dcc_machine.specs.Step.{code_bytes, op_step, instruction_step, step, machine_system}
use Rattle.dcc_machine.proofs.ConsoleLaws.{op-keeps_events}

key-grows : (echo : Bool) (input : List ℕ) (s : State) → IsPrefix s.events (with_key echo input s).events
key-grows echo [] s = prefix_append s.events (MetEnd ∷ [])
key-grows echo (byte ∷ rest) s = prefix_append s.events (key_events echo byte)

-- one of two states
either-grows : (b : Bool) (s t u : State) → IsPrefix s.events t.events → IsPrefix s.events u.events → IsPrefix s.events (if b then t else u).events
either-grows true s t u p q = p
either-grows false s t u p q = q

dos-grows : (number at : ℕ) (s : State) → IsPrefix s.events (dos_step number at s).events
dos-grows number at s =
    either-grows (number == 0x02) s _ _ (prefix_append s.events (writes (word_in s Dx % 256 ∷ [])))
    (either-grows (number == 0x4C) s _ _ (prefix_refl s.events)
    (either-grows (number == 0x01) s _ _ (key-grows true s.input s)
    (either-grows (number == 0x08) s _ _ (key-grows false s.input s)
    (either-grows (number == 0x09) s _ _ (prefix_append s.events (writes (dos_string s))) (prefix_refl s.events)))))

quiet-grows : (cpu : Cpu) (op : Op) (at : ℕ) (s : State) → op ≢ Int21 → IsPrefix s.events (op_step cpu op at s).events
quiet-grows cpu op at s other = subst (λ l. IsPrefix s.events l) (sym (op-keeps_events cpu op at other s)) (prefix_refl s.events)

op-grows : (cpu : Cpu) (op : Op) (at : ℕ) (s : State) → IsPrefix s.events (op_step cpu op at s).events
op-grows cpu (Alu operation a b) at s = quiet-grows cpu (Alu operation a b) at s (λ e. cc)
op-grows cpu (Unary operation a) at s = quiet-grows cpu (Unary operation a) at s (λ e. cc)
op-grows cpu (Shift shift a count) at s = quiet-grows cpu (Shift shift a count) at s (λ e. cc)
op-grows cpu (Mov to from) at s = quiet-grows cpu (Mov to from) at s (λ e. cc)
op-grows cpu (Xchg a b) at s = quiet-grows cpu (Xchg a b) at s (λ e. cc)
op-grows cpu (Lea r ea) at s = prefix_refl s.events
op-grows cpu (Imul3 r a constant) at s = prefix_refl s.events
op-grows cpu (Push a) at s = prefix_refl s.events
op-grows cpu (Pop a) at s = quiet-grows cpu (Pop a) at s (λ e. cc)
op-grows cpu (Enter count) at s = prefix_refl s.events
op-grows cpu Leave at s = prefix_refl s.events
op-grows cpu (Plain operation) at s = quiet-grows cpu (Plain operation) at s (λ e. cc)
op-grows cpu (Jump target) at s = prefix_refl s.events
op-grows cpu (Branch condition target) at s = prefix_refl s.events
op-grows cpu (Loop target) at s = prefix_refl s.events
op-grows cpu (LoopE target) at s = prefix_refl s.events
op-grows cpu (LoopNe target) at s = prefix_refl s.events
op-grows cpu (Jcxz target) at s = prefix_refl s.events
op-grows cpu (Table r offset) at s = prefix_refl s.events
op-grows cpu (Call target) at s = prefix_refl s.events
op-grows cpu (Ret count) at s = prefix_refl s.events
op-grows cpu Int21 at s = dos-grows (word_in s Ax / 256) at s

instruction-grows : (cpu : Cpu) (found : Option Instr) (s : State) → IsPrefix s.events (instruction_step cpu found s).events
instruction-grows cpu None s = prefix_refl s.events
instruction-grows cpu (Some instr) s = op-grows cpu instr.op s.ip (record s { ip = (s.ip + instr.len) % 65536 })

step-grows : (cpu : Cpu) (s : State) → IsPrefix s.events (step cpu s).events
step-grows cpu s =
    let next = instruction_step cpu (instruction_at cpu s.ip (code_bytes s)) s in
    elim (is_over s.end) as (λ b. IsPrefix s.events (if b then s else next).events) [
      | true ↦ prefix_refl s.events
      | false ↦ instruction-grows cpu (instruction_at cpu s.ip (code_bytes s)) s
    ]

-- a state that has ended stays, and no step takes events back
pub machine_lawful : (cpu : Cpu) → IsLawful (machine_system cpu)
machine_lawful cpu = record {
  stays = λ s over. ap (λ b. if b then s else instruction_step cpu (instruction_at cpu s.ip (code_bytes s)) s) over;
  grows = step-grows cpu;
}
