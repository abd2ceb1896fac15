-- What a step of the machine does at the console.
use Rattle.std.proofs.Common.{◌≡◌, ◌≢◌, ℕ, ◌+◌, ◌/◌, ◌%◌, Bool, true, false, List, [], ◌∷◌, ◌++◌, Option, Some, None, refl, sym, ap, ◌∙◌, subst}
use Rattle.std.proofs.lemmas.List.{append-nil}
use Rattle.std.specs.Prelude.{if◌then◌else◌, ◌==◌}
use Rattle.dcc_run.specs.End.{Exit, Outside, is_over}
use Rattle.dcc_run.specs.Event.{Event, writes}
use Rattle.dcc_num.specs.declared.Reg.TheVariants.{Ax, Dx}
use Rattle.dcc_num.specs.declared.dos.TheConstants.{GETCHE, PUTC, GETCH, PUTS, EXIT}
use Rattle.dcc_machine.specs.declared.cpu.Cpu.{Cpu}
use Rattle.dcc_machine.specs.declared.instr.Op.{Op}
use Rattle.dcc_machine.specs.declared.instr.Op.TheVariants.{Int21}
use Rattle.dcc_machine.specs.declared.instr.Instr.{Instr}
use Rattle.dcc_machine.specs.Machine.{State, word_in}
use Rattle.dcc_machine.specs.Operations.{with_end}
use Rattle.dcc_machine.specs.Dos.{bytes_from, dos_string, after_write, key_step}
use Rattle.dcc_machine.specs.Table.{instruction_at}
use Rattle.dcc_machine.specs.Step.{code_bytes, op_step, instruction_step, step}
use Rattle.dcc_machine.proofs.ConsoleLaws.{with_console_of, op-keeps, op-keeps_events}
use Rattle.dcc_console.specs.Console.{Console}
use Rattle.dcc_step.specs.Stepped.{console_by}
use Rattle.dcc_map.proofs.StepKinds.{IsApart, WritesBytes, TakesKey, StepKind, writes_bytes, takes_key}

module _ (operation : State → State) where
  abbrev pub console : Console State
  console = console_by operation

  pub machine_apart : IsApart console
  machine_apart = record { same = λ s. refl; left = λ input s. refl; events = λ input s. refl }

  abbrev given : List ℕ → State → State
  given input s = record s { input = input }

  -- an operation that does nothing at the console
  quiet_op : (cpu : Cpu) (op : Op) (at : ℕ) (s : State) → op ≢ Int21
      → StepKind console s.events (λ input. op_step cpu op at (given input s))
  quiet_op cpu op at s other = writes_bytes (record {
    bytes = [];
    events = λ input. op-keeps_events cpu op at other (given input s) ∙ sym (append-nil s.events);
    apart = λ input after.
        op-keeps cpu op at other input s.events (given after s)
        ∙ ap (λ (events : List Event). with_console_of input events (op_step cpu op at (given after s)))
        (sym (op-keeps_events cpu op at other (given after s)));
  })

  key_kind : (echo : Bool) (s : State) → StepKind console s.events (λ input. key_step echo (given input s))
  key_kind echo s = takes_key (record {
    echo = echo;
    key = λ byte rest. refl;
    key_left = λ byte. refl;
    key_happens = λ byte. refl;
    end_left = refl;
    end_happens = refl;
  })

  written : (bytes : List ℕ) (s : State) → StepKind console s.events (λ input. after_write bytes (given input s))
  written bytes s = writes_bytes (record { bytes = bytes; events = λ input. refl; apart = λ input after. refl })

  -- INT 21h, by which number AH holds
  abbrev dos_by : Bool → Bool → Bool → Bool → Bool → List ℕ → List ℕ → ℕ → State → State
  dos_by putc exit getche getch puts character string at s =
      if putc then after_write character s
      else if exit then with_end (Exit (word_in s Ax % 256)) at s
      else if getche then key_step true s
      else if getch then key_step false s
      else if puts then after_write string s
      else with_end (Outside at) at s

  dos_kind : (putc exit getche getch puts : Bool) (character string : List ℕ) (at : ℕ) (s : State)
      → StepKind console s.events (λ input. dos_by putc exit getche getch puts character string at (given input s))
  dos_kind true exit getche getch puts character string at s = written character s
  dos_kind false true getche getch puts character string at s =
      writes_bytes (record { bytes = []; events = λ input. sym (append-nil s.events); apart = λ input after. refl })
  dos_kind false false true getch puts character string at s = key_kind true s
  dos_kind false false false true puts character string at s = key_kind false s
  dos_kind false false false false true character string at s = written string s
  dos_kind false false false false false character string at s =
      writes_bytes (record { bytes = []; events = λ input. sym (append-nil s.events); apart = λ input after. refl })

  string_beside : (input : List ℕ) (s : State) → dos_string s ≡ dos_string (given input s)
  unfolding dos_string bytes_from
  string_beside input s = refl

  op_kind : (cpu : Cpu) (op : Op) (at : ℕ) (s : State)
      → StepKind console s.events (λ input. op_step cpu op at (given input s))
  op_kind cpu Int21 at s =
      let ah : ℕ = word_in s Ax / 256 in
      let step : List ℕ → List ℕ → State =
      λ string input. dos_by (ah == PUTC) (ah == EXIT) (ah == GETCHE) (ah == GETCH) (ah == PUTS) (word_in s Dx % 256 ∷ []) string at (given input s) in
      let same : step (dos_string s) ≡ (λ input. step (dos_string (given input s)) input) = λ i input. step (string_beside input s i) input in
      subst (λ (next : List ℕ → State). StepKind console s.events next) same
      (dos_kind (ah == PUTC) (ah == EXIT) (ah == GETCHE) (ah == GETCH) (ah == PUTS) (word_in s Dx % 256 ∷ []) (dos_string s) at s)
  op_kind cpu op at s = quiet_op cpu op at s (λ e. cc)

  found_kind : (cpu : Cpu) (found : Option Instr) (s : State)
      → StepKind console s.events (λ input. instruction_step cpu found (given input s))
  found_kind cpu None s =
      writes_bytes (record { bytes = []; events = λ input. sym (append-nil s.events); apart = λ input after. refl })
  found_kind cpu (Some instr) s = op_kind cpu instr.op s.ip (record s { ip = (s.ip + instr.len) % 65536 })

  over_kind : (over : Bool) (cpu : Cpu) (found : Option Instr) (s : State)
      → StepKind console s.events (λ input. if over then given input s else instruction_step cpu found (given input s))
  over_kind true cpu found s =
      writes_bytes (record { bytes = []; events = λ input. sym (append-nil s.events); apart = λ input after. refl })
  over_kind false cpu found s = found_kind cpu found s

-- a step of the machine
pub machine_kind : (cpu : Cpu) (s : State)
    → StepKind (console_by (step cpu)) s.events (λ input. step cpu (record s { input = input }))
machine_kind cpu s = over_kind (step cpu) (is_over s.end) cpu (instruction_at cpu s.ip (code_bytes s)) s
