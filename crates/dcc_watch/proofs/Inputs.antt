-- A step of the machine takes at most one byte of its input. So with that byte, or with 1Ah where the input had ended,
-- and any further input it does the same to all but the console, and leaves the further input.
use Rattle.std.proofs.Common.{◌≡◌, ℕ, zero, suc, ◌+◌, ◌/◌, ◌%◌, ◌<◌, Bool, true, false, List, [], ◌∷◌, ◌++◌, Option, Some, None, refl, ap, arith}
use Rattle.std.specs.Prelude.{slice_index, ◌==◌, if◌then◌else◌}
use Rattle.dcc_run.specs.End.{Exit, Outside, is_over}
use Rattle.dcc_run.specs.Event.{Event}
use Rattle.dcc_num.specs.declared.Reg.TheVariants.{Ax, Dx}
use Rattle.dcc_num.specs.declared.dos.TheConstants.{GETCHE, PUTC, GETCH, PUTS, EXIT, END_OF_INPUT}
use Rattle.dcc_machine.specs.declared.cpu.Cpu.{Cpu}
use Rattle.dcc_machine.specs.declared.instr.Op.{Op}
use Rattle.dcc_machine.specs.declared.instr.Op.TheVariants.{Int21}
use Rattle.dcc_machine.specs.declared.instr.Instr.{Instr}
use Rattle.dcc_machine.specs.Machine.{State, word_in}
use Rattle.dcc_machine.specs.Operations.{with_end}
use Rattle.dcc_machine.specs.Dos.{dos_string, after_write, with_key, key_step}
use Rattle.dcc_machine.specs.Table.{instruction_at}
use Rattle.dcc_machine.specs.Step.{code_bytes, op_step, instruction_step, step}
use Rattle.dcc_machine.proofs.ConsoleLaws.{op-keeps}
use Rattle.dcc_watch.proofs.Quiet.{quiet}

-- Bytes.

abbrev pub AreBytes : List ℕ → Type 0
AreBytes list = (k : ℕ) → slice_index list k < 256

pub no_bytes : AreBytes []
no_bytes zero = omega arith
no_bytes (suc k) = omega arith

one_byte : (byte : ℕ) → byte < 256 → AreBytes (byte ∷ [])
one_byte byte small zero = small
one_byte byte small (suc k) = no_bytes k

pub joined_bytes : (a b : List ℕ) → AreBytes a → AreBytes b → AreBytes (a ++ b)
joined_bytes [] b p q k = q k
joined_bytes (x ∷ xs) b p q zero = p 0
joined_bytes (x ∷ xs) b p q (suc k) = joined_bytes xs b (λ i. p (suc i)) q k

-- One step.

-- a state with another console
abbrev pub with_input : List ℕ → List Event → State → State
with_input input events s = record s { input = input; events = events }

-- With these bytes, and any further input, an operation leads from a state to the other one but for the console, and
-- leaves the further input.
pub record Takes (operation : State → State) (s t : State) : Type 0 where
  pub given : List ℕ
  pub bytes : AreBytes given
  pub same :
      (rest : List ℕ) (events : List Event) → quiet (operation (with_input (given ++ rest) events s)) ≡ quiet t
  pub left : (rest : List ℕ) (events : List Event) → (operation (with_input (given ++ rest) events s)).input ≡ rest

-- an operation that leaves the console
takes_none :
    (operation : State → State) (s t : State)
    → ((input : List ℕ) (events : List Event) → operation (with_input input events s) ≡ with_input input events t)
    → Takes operation s t
takes_none operation s t is = record {
  given = [];
  bytes = no_bytes;
  same = λ rest events. ap quiet (is rest events);
  left = λ rest events. ap (λ (u : State). u.input) (is rest events);
}

takes_key :
    (echo : Bool) (input : List ℕ) (s : State) → AreBytes input → Takes (key_step echo) s (with_key echo input s)
takes_key echo [] s bytes = record {
  given = END_OF_INPUT ∷ [];
  bytes = one_byte END_OF_INPUT (omega arith);
  same = λ rest events. refl;
  left = λ rest events. refl;
}
takes_key echo (byte ∷ input) s bytes = record {
  given = byte ∷ [];
  bytes = one_byte byte (bytes 0);
  same = λ rest events. refl;
  left = λ rest events. refl;
}

-- INT 21h, by which number AH holds
abbrev dos_by : Bool → Bool → Bool → Bool → Bool → ℕ → State → State
dos_by putc exit getche getch puts at s =
    if putc then after_write (word_in s Dx % 256 ∷ []) s
    else if exit then with_end (Exit (word_in s Ax % 256)) at s
    else if getche then key_step true s
    else if getch then key_step false s
    else if puts then after_write (dos_string s) s
    else with_end (Outside at) at s

takes_dos :
    (putc exit getche getch puts : Bool) (at : ℕ) (s : State) → AreBytes s.input
    → Takes (dos_by putc exit getche getch puts at) s (dos_by putc exit getche getch puts at s)
takes_dos true exit getche getch puts at s bytes =
    record { given = []; bytes = no_bytes; same = λ rest events. refl; left = λ rest events. refl }
takes_dos false true getche getch puts at s bytes =
    record { given = []; bytes = no_bytes; same = λ rest events. refl; left = λ rest events. refl }
takes_dos false false true getch puts at s bytes = takes_key true s.input s bytes
takes_dos false false false true puts at s bytes = takes_key false s.input s bytes
takes_dos false false false false true at s bytes =
    record { given = []; bytes = no_bytes; same = λ rest events. refl; left = λ rest events. refl }
takes_dos false false false false false at s bytes =
    record { given = []; bytes = no_bytes; same = λ rest events. refl; left = λ rest events. refl }

takes_op :
    (cpu : Cpu) (op : Op) (at : ℕ) (s : State) → AreBytes s.input → Takes (op_step cpu op at) s (op_step cpu op at s)
takes_op cpu Int21 at s bytes =
    let ah : ℕ = word_in s Ax / 256 in
    let r = takes_dos (ah == PUTC) (ah == EXIT) (ah == GETCHE) (ah == GETCH) (ah == PUTS) at s bytes in
    record { given = r.given; bytes = r.bytes; same = r.same; left = r.left }
takes_op cpu op at s bytes =
    takes_none (op_step cpu op at) s (op_step cpu op at s) (λ input events. op-keeps cpu op at (λ e. cc) input events s)

takes_found :
    (cpu : Cpu) (found : Option Instr) (s : State) → AreBytes s.input
    → Takes (instruction_step cpu found) s (instruction_step cpu found s)
takes_found cpu None s bytes =
    record { given = []; bytes = no_bytes; same = λ rest events. refl; left = λ rest events. refl }
takes_found cpu (Some instr) s bytes =
    let r = takes_op cpu instr.op s.ip (record s { ip = (s.ip + instr.len) % 65536 }) bytes in
    record { given = r.given; bytes = r.bytes; same = r.same; left = r.left }

abbrev step_by : Bool → Cpu → State → State
step_by over cpu s = if over then s else instruction_step cpu (instruction_at cpu s.ip (code_bytes s)) s

takes_by : (over : Bool) (cpu : Cpu) (s : State) → AreBytes s.input → Takes (step_by over cpu) s (step_by over cpu s)
takes_by true cpu s bytes =
    record { given = []; bytes = no_bytes; same = λ rest events. refl; left = λ rest events. refl }
takes_by false cpu s bytes =
    let r = takes_found cpu (instruction_at cpu s.ip (code_bytes s)) s bytes in
    record { given = r.given; bytes = r.bytes; same = r.same; left = r.left }

-- a step of the machine
pub takes_step : (cpu : Cpu) (s : State) → AreBytes s.input → Takes (step cpu) s (step cpu s)
takes_step cpu s bytes =
    let r = takes_by (is_over s.end) cpu s bytes in
    record { given = r.given; bytes = r.bytes; same = r.same; left = r.left }
