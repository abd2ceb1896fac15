-- What is judged of a step does not hang on the console.
use Rattle.std.proofs.Common.{◌≡◌, ℕ, ◌+◌, ◌%◌, Bool, true, false, List, [], ◌∷◌, ◌++◌, min, length, Option, Some, None, refl, sym, ap, ◌∙◌}
use Rattle.std.specs.Prelude.{if◌then◌else◌, ◌==◌}
use Rattle.dcc_run.specs.Event.{Event}
use Rattle.dcc_num.specs.declared.Width.TheVariants.{Byte as byte_width, Word as word_width}
use Rattle.dcc_num.specs.declared.Reg.{Reg}
use Rattle.dcc_num.specs.declared.Reg.TheVariants.{Dx, Sp, Bp}
use Rattle.dcc_num.specs.declared.dos.TheConstants.{PUTS, STRING_MOST}
use Rattle.dcc_prog.specs.declared.procedure.Layout.{Layout}
use Rattle.dcc_prog.specs.declared.frame.Program.{Program}
use Rattle.dcc_machine.specs.declared.instr.Plain.{Plain as PlainKind}
use Rattle.dcc_machine.specs.declared.instr.Plain.TheVariants.{Xlat}
use Rattle.dcc_machine.specs.declared.instr.Ea.{Ea}
use Rattle.dcc_machine.specs.declared.instr.Operand.{Operand}
use Rattle.dcc_machine.specs.declared.instr.Operand.TheVariants.{Word, Byte, Seg, Mem, Const}
use Rattle.dcc_machine.specs.declared.instr.Instr.{Instr}
use Rattle.dcc_machine.specs.declared.instr.Op.{Op}
use Rattle.dcc_machine.specs.declared.instr.Op.TheVariants.{Alu, Unary, Shift, Mov, Xchg, Lea, Imul3, Push, Pop, Enter, Leave, Plain, Call, Ret, Int21}
use Rattle.dcc_prog.specs.declared.watch.FoulKind.TheVariants.{Low, Hidden, Unwritten}
use Rattle.dcc_machine.specs.Machine.{State, word_in, part_of, offset_of, segment_of, byte_in, word_at_offset, with_byte_in, with_word_at_offset, operand_value, with_operand, data_segment}
use Rattle.dcc_machine.specs.Operations.{with_sp_raised}
use Rattle.dcc_machine.specs.Dos.{bytes_from, dos_string}
use Rattle.dcc_machine.specs.Writes.{writes_operand}
use Rattle.dcc_machine.specs.Access.{Access, Direction, Reading, Writing, bytes_in, kind_of, operand_accesses, result_accesses, writes_back, exchange_accesses, stack_access, push_access, other_read, dos_accesses, plain_accesses, accesses, found_accesses}
use Rattle.dcc_prog.specs.Clean.{Stack, foul_as, or_else, low_of, hidden_of, unwritten_of, foul_of, sp_after, top_in, frames_after, written_after, stack_after}
use Rattle.dcc_prog.specs.Watch.{Stage, AtStart, InPrelude, InProcedures, Stopped, stage_after}
use Rattle.dcc_watch.specs.declared.frames.Live.{Live}
use Rattle.dcc_watch.specs.Foul.{hidden_in, unwritten_in, foul_in}

-- a state without its console
abbrev pub quiet : State → State
quiet s = record s { input = []; events = [] }

-- two lists, one after another
both : {a b c d : List Access} → a ≡ c → b ≡ d → a ++ b ≡ c ++ d
both {a} {b} {c} {d} p q = ap (λ l. l ++ b) p ∙ ap (λ l. c ++ l) q

-- a state beside another console, with another instruction pointer
abbrev pub beside : ℕ → List ℕ → List Event → State → State
beside ip input events s = record s { ip = ip; input = input; events = events }

module _ (ip : ℕ) (input : List ℕ) (events : List Event) where
  part-beside : (s : State) (part : Option Reg) → part_of (beside ip input events s) part ≡ part_of s part
  part-beside s None = refl
  part-beside s (Some r) = refl

  offset-beside : (s : State) (ea : Ea) → offset_of (beside ip input events s) ea ≡ offset_of s ea
  offset-beside s ea =
      ap (λ n. (n + part_of (beside ip input events s) ea.index + ea.disp) % 65536) (part-beside s ea.base)
      ∙ ap (λ n. (part_of s ea.base + n + ea.disp) % 65536) (part-beside s ea.index)

  value-beside : (s : State) (x : Operand) → operand_value (beside ip input events s) x ≡ operand_value s x
  value-beside s (Mem byte_width ea) = ap (λ n. byte_in s (segment_of s ea) n) (offset-beside s ea)
  value-beside s (Mem word_width ea) = ap (λ n. word_at_offset s (segment_of s ea) n) (offset-beside s ea)
  value-beside s (Word r) = refl
  value-beside s (Byte r half) = refl
  value-beside s (Seg number) = refl
  value-beside s (Const width constant) = refl

  put-beside : (x : Operand) (v : ℕ) (s : State) → with_operand (beside ip input events s) x v ≡ beside ip input events (with_operand s x v)
  put-beside (Mem byte_width ea) v s = ap (λ n. beside ip input events (with_byte_in s (segment_of s ea) n v)) (offset-beside s ea)
  put-beside (Mem word_width ea) v s = ap (λ n. beside ip input events (with_word_at_offset s (segment_of s ea) n v)) (offset-beside s ea)
  put-beside (Word r) v s = refl
  put-beside (Byte r half) v s = refl
  put-beside (Seg number) v s = refl
  put-beside (Const width constant) v s = refl

  operand-beside : (direction : Direction) (x : Operand) (s : State)
      → operand_accesses direction x (beside ip input events s) ≡ operand_accesses direction x s
  operand-beside direction (Mem width ea) s =
      ap (λ n. (record { direction = direction; kind = kind_of ea; segment = segment_of s ea; offset = n; size = bytes_in width }) ∷ []) (offset-beside s ea)
  operand-beside direction (Word r) s = refl
  operand-beside direction (Byte r half) s = refl
  operand-beside direction (Seg number) s = refl
  operand-beside direction (Const width constant) s = refl

  result-beside : (so : Bool) (x : Operand) (s : State) → result_accesses so x (beside ip input events s) ≡ result_accesses so x s
  result-beside true x s = operand-beside Writing x s
  result-beside false x s = refl

  exchange-beside : (a b : Operand) (s : State) → exchange_accesses a b (beside ip input events s) ≡ exchange_accesses a b s
  exchange-beside a b s =
      let t = beside ip input events s in
      let last : operand_accesses Writing b (with_operand t a (operand_value t b)) ≡ operand_accesses Writing b (with_operand s a (operand_value s b)) =
      ap (λ v. operand_accesses Writing b (with_operand t a v)) (value-beside s b)
      ∙ ap (operand_accesses Writing b) (put-beside a (operand_value s b) s)
      ∙ operand-beside Writing b (with_operand s a (operand_value s b)) in
      both (operand-beside Reading a s) (both (operand-beside Reading b s) (both (operand-beside Writing a s) last))

  string-beside : (s : State) → dos_string (beside ip input events s) ≡ dos_string s
  unfolding dos_string bytes_from
  string-beside s = refl

  dos-beside : (number : ℕ) (s : State) → dos_accesses number (beside ip input events s) ≡ dos_accesses number s
  dos-beside number s =
      ap (λ (l : List ℕ). if number == PUTS then other_read (data_segment s) (word_in s Dx) (min (length l + 1) STRING_MOST) ∷ [] else []) (string-beside s)

  plain-beside : (operation : PlainKind) (s : State) → plain_accesses operation (beside ip input events s) ≡ plain_accesses operation s
  plain-beside Xlat s = refl
  plain-beside operation s = refl

  -- the accesses of an operation
  pub accesses-beside : (op : Op) (s : State) → accesses op (beside ip input events s) ≡ accesses op s
  accesses-beside (Alu operation a b) s = both (operand-beside Reading a s) (both (operand-beside Reading b s) (result-beside (writes_operand operation) a s))
  accesses-beside (Unary operation a) s = both (operand-beside Reading a s) (result-beside (writes_back operation) a s)
  accesses-beside (Shift operation a count) s = both (operand-beside Reading a s) (operand-beside Writing a s)
  accesses-beside (Mov to from) s = both (operand-beside Reading from s) (operand-beside Writing to s)
  accesses-beside (Xchg a b) s = exchange-beside a b s
  accesses-beside (Imul3 r a constant) s = operand-beside Reading a s
  accesses-beside (Push a) s = ap (λ l. l ++ push_access s ∷ []) (operand-beside Reading a s)
  accesses-beside (Pop a) s = ap (λ l. stack_access Reading (word_in s Sp) s ∷ l) (operand-beside Writing a (with_sp_raised 2 s))
  accesses-beside (Plain operation) s = plain-beside operation s
  accesses-beside Int21 s = dos-beside _ s
  accesses-beside op s = refl

pub found_accesses-quiet : (found : Option Instr) (s : State) → found_accesses found (quiet s) ≡ found_accesses found s
found_accesses-quiet None s = refl
found_accesses-quiet (Some instr) s =
    accesses-beside ((s.ip + instr.len) % 65536) [] [] instr.op s
    ∙ sym (accesses-beside ((s.ip + instr.len) % 65536) s.input s.events instr.op s)

-- where SP goes
sp_after-quiet : (op : Op) (s : State) → sp_after op (quiet s) ≡ sp_after op s
sp_after-quiet (Push a) s = refl
sp_after-quiet (Pop a) s = refl
sp_after-quiet (Call target) s = refl
sp_after-quiet (Ret count) s = refl
sp_after-quiet (Enter count) s = refl
sp_after-quiet Leave s = refl
sp_after-quiet (Mov (Word Sp) (Word Bp)) s = refl
sp_after-quiet (Lea Sp ea) s = refl
sp_after-quiet op s = refl

-- what is judged by where SP goes and by the accesses
judged-quiet : (layout : Layout) (hidden unwritten : List Access → Option ℕ) (s : State) (instr : Instr)
    → or_else (foul_as s.ip Low (low_of layout (sp_after instr.op (quiet s))))
    (or_else (foul_as s.ip Hidden (hidden (found_accesses (Some instr) (quiet s))))
    (foul_as s.ip Unwritten (unwritten (found_accesses (Some instr) (quiet s)))))
    ≡ or_else (foul_as s.ip Low (low_of layout (sp_after instr.op s)))
    (or_else (foul_as s.ip Hidden (hidden (found_accesses (Some instr) s)))
    (foul_as s.ip Unwritten (unwritten (found_accesses (Some instr) s))))
judged-quiet layout hidden unwritten s instr =
    let low = λ (z : _). foul_as s.ip Low (low_of layout z) in
    let rest = λ (l : List Access). or_else (foul_as s.ip Hidden (hidden l)) (foul_as s.ip Unwritten (unwritten l)) in
    ap (λ z. or_else (low z) (rest (found_accesses (Some instr) (quiet s)))) (sp_after-quiet instr.op s)
    ∙ ap (λ l. or_else (low (sp_after instr.op s)) (rest l)) (found_accesses-quiet (Some instr) s)

-- what is foul
pub foul-quiet : (layout : Layout) (live : List Live) (written : List Bool) (s : State) (found : Option Instr)
    → foul_in layout live written (quiet s) found ≡ foul_in layout live written s found
foul-quiet layout live written s None = refl
foul-quiet layout live written s (Some instr) =
    judged-quiet layout (hidden_in layout (top_in layout s) live) (unwritten_in layout written) s instr

pub foul_of-quiet : (program : Program) (stack : Stack) (s : State) (found : Option Instr)
    → foul_of program stack (quiet s) found ≡ foul_of program stack s found
foul_of-quiet program stack s None = refl
foul_of-quiet program stack s (Some instr) =
    judged-quiet program.layout (hidden_of program stack s) (unwritten_of program.layout stack) s instr

-- what a step leaves of the stack, and where the run stands then
stack_after-quiet : (layout : Layout) (found : Option Instr) (s t : State) (stack : Stack)
    → stack_after layout found (quiet s) (quiet t) stack ≡ stack_after layout found s t stack
stack_after-quiet layout None s t stack = refl
stack_after-quiet layout (Some instr) s t stack =
    ap (λ l. record {
      frames = frames_after instr.op (top_in layout s) stack.frames;
      written = written_after layout l (top_in layout s) (top_in layout t) stack.written;
    }) (found_accesses-quiet (Some instr) s)

pub stage_after-quiet : (layout : Layout) (found : Option Instr) (s t : State) (stage : Stage)
    → stage_after layout found (quiet s) (quiet t) stage ≡ stage_after layout found s t stage
stage_after-quiet layout found s t (InProcedures stack) = ap InProcedures (stack_after-quiet layout found s t stack)
stage_after-quiet layout found s t (Stopped foul) = refl
stage_after-quiet layout found s t AtStart = refl
stage_after-quiet layout found s t InPrelude = refl
