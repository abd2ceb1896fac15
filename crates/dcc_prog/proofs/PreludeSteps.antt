-- What the steps of a prelude do to the machine: they work on registers and flags alone.
use Rattle.std.proofs.Common.{◌≡◌, ℕ, ◌+◌, ◌%◌, ◌<◌, true, false, List, [], ◌∷◌, ◌++◌, length, drop, Some, refl, sym, ap, ◌∙◌, subst, arith}
use Rattle.std.proofs.Math.Nat.{mod-eq_of_lt}
use Rattle.std.proofs.lemmas.Bool.{eqb-false, or_parts}
use Rattle.std.proofs.lemmas.List.{get_or-set_other}
use Rattle.std.specs.Prelude.{◌≢◌}
use Rattle.std.specs.List.{list_any}
use Rattle.dcc_run.specs.System.{after}
use Rattle.dcc_machine.specs.declared.cpu.Cpu.{Cpu}
use Rattle.dcc_machine.specs.declared.instr.Count.TheVariants.{One, Cl, Const as ConstCount}
use Rattle.dcc_machine.specs.declared.image.Image.{Image}
use Rattle.dcc_machine.specs.declared.instr.Alu.TheVariants.{Add, Sub}
use Rattle.dcc_machine.specs.declared.instr.Shift.TheVariants.{Shl}
use Rattle.dcc_machine.specs.declared.instr.Plain.TheVariants.{Nop, Cli, Sti, Cld}
use Rattle.dcc_machine.specs.declared.instr.Operand.TheVariants.{Word, Byte, Seg, Const}
use Rattle.dcc_machine.specs.declared.instr.Op.{Op}
use Rattle.dcc_machine.specs.declared.instr.Op.TheVariants.{Alu as AluOp, Shift as ShiftOp, Mov, Plain as PlainOp}
use Rattle.dcc_machine.specs.declared.instr.Instr.{Instr}
use Rattle.dcc_machine.specs.MzImage.{IsLoaded}
use Rattle.dcc_machine.specs.Code.{code_of}
use Rattle.dcc_machine.specs.Table.{instruction_at}
use Rattle.dcc_machine.specs.Machine.{State, word_in, code_segment, data_segment, start_state}
use Rattle.dcc_machine.specs.Step.{op_step, instruction_step, step}
use Rattle.dcc_prog.specs.Layout.{is_data_segment, is_prelude_form, writes_ds, IsFormAt, IsRun, offset_after, state_after}
use Rattle.dcc_machine.proofs.FetchLaws.{IsPlaced, image-placed, length-code_of, start-holds, code-kept, fetched-whole}
use Rattle.dcc_machine.proofs.MzImageLaws.{ip-loaded}
use Rattle.dcc_prog.proofs.PreludeLaws.{form-inside}

-- the registers and flags of one state, and all else of another
abbrev pub with_registers_of : State → State → State
with_registers_of s t = record t { regs = s.regs; segs = s.segs; flags = s.flags }

-- an operation of a prelude works on registers and flags alone
pub form-step : (cpu : Cpu) (op : Op) (at other : ℕ) (s t : State) → is_prelude_form op ≡ true → op_step cpu op at (with_registers_of s t) ≡ with_registers_of (op_step cpu op other s) t
form-step cpu (Mov (Word r) (Const width c)) at other s t h = refl
form-step cpu (Mov (Byte r half) (Const width c)) at other s t h = refl
form-step cpu (Mov (Word r) (Word q)) at other s t h = refl
form-step cpu (Mov (Byte r half) (Byte q part)) at other s t h = refl
form-step cpu (Mov (Word r) (Seg number)) at other s t h = refl
form-step cpu (Mov (Seg number) (Word r)) at other s t h = refl
form-step cpu (AluOp Add (Word r) (Word q)) at other s t h = refl
form-step cpu (AluOp Add (Word r) (Const width c)) at other s t h = refl
form-step cpu (AluOp Sub (Word r) (Word q)) at other s t h = refl
form-step cpu (AluOp Sub (Word r) (Const width c)) at other s t h = refl
form-step cpu (ShiftOp Shl (Word r) One) at other s t h = refl
form-step cpu (ShiftOp Shl (Word r) Cl) at other s t h = refl
form-step cpu (ShiftOp Shl (Word r) (ConstCount number)) at other s t h = refl
form-step cpu (PlainOp Nop) at other s t h = refl
form-step cpu (PlainOp Cli) at other s t h = refl
form-step cpu (PlainOp Sti) at other s t h = refl
form-step cpu (PlainOp Cld) at other s t h = refl
form-step cpu _ at other s t h = cc

-- an operation of a prelude leaves CS
pub form-code : (cpu : Cpu) (op : Op) (at : ℕ) (s : State) → is_prelude_form op ≡ true → code_segment (op_step cpu op at s) ≡ code_segment s
form-code cpu (Mov (Word r) (Const width c)) at s h = refl
form-code cpu (Mov (Byte r half) (Const width c)) at s h = refl
form-code cpu (Mov (Word r) (Word q)) at s h = refl
form-code cpu (Mov (Byte r half) (Byte q part)) at s h = refl
form-code cpu (Mov (Word r) (Seg number)) at s h = refl
form-code cpu (Mov (Seg number) (Word r)) at s h =
    get_or-set_other s.segs number 1 (word_in s r) 0 (λ e. let no : is_data_segment 1 ≡ true = subst (λ n. is_data_segment n ≡ true) (sym e) h in cc)
form-code cpu (AluOp Add (Word r) (Word q)) at s h = refl
form-code cpu (AluOp Add (Word r) (Const width c)) at s h = refl
form-code cpu (AluOp Sub (Word r) (Word q)) at s h = refl
form-code cpu (AluOp Sub (Word r) (Const width c)) at s h = refl
form-code cpu (ShiftOp Shl (Word r) count) at s h = refl
form-code cpu (PlainOp Nop) at s h = refl
form-code cpu (PlainOp Cli) at s h = refl
form-code cpu (PlainOp Sti) at s h = refl
form-code cpu (PlainOp Cld) at s h = refl
form-code cpu _ at s h = cc

-- an operation of a prelude leaves DS, unless it writes it
form-data : (cpu : Cpu) (op : Op) (at : ℕ) (s : State) → is_prelude_form op ≡ true → writes_ds op ≡ false → data_segment (op_step cpu op at s) ≡ data_segment s
form-data cpu (Mov (Word r) (Const width c)) at s h idle = refl
form-data cpu (Mov (Byte r half) (Const width c)) at s h idle = refl
form-data cpu (Mov (Word r) (Word q)) at s h idle = refl
form-data cpu (Mov (Byte r half) (Byte q part)) at s h idle = refl
form-data cpu (Mov (Word r) (Seg number)) at s h idle = refl
form-data cpu (Mov (Seg number) (Word r)) at s h idle =
    let other : number ≢ 3 = eqb-false number 3 idle in
    get_or-set_other s.segs number 3 (word_in s r) 0 (λ e. other (sym e))
form-data cpu (AluOp Add (Word r) (Word q)) at s h idle = refl
form-data cpu (AluOp Add (Word r) (Const width c)) at s h idle = refl
form-data cpu (AluOp Sub (Word r) (Word q)) at s h idle = refl
form-data cpu (AluOp Sub (Word r) (Const width c)) at s h idle = refl
form-data cpu (ShiftOp Shl (Word r) count) at s h idle = refl
form-data cpu (PlainOp Nop) at s h idle = refl
form-data cpu (PlainOp Cli) at s h idle = refl
form-data cpu (PlainOp Sti) at s h idle = refl
form-data cpu (PlainOp Cld) at s h idle = refl
form-data cpu _ at s h idle = cc

-- the registers and flags after instructions, one after another
abbrev pub executed : Cpu → State → List Instr → State
executed cpu s [] = s
executed cpu s (i ∷ rest) = executed cpu (op_step cpu i.op 0 s) rest

pub executed-push : (cpu : Cpu) (s : State) (run : List Instr) (i : Instr) → executed cpu s (run ++ i ∷ []) ≡ op_step cpu i.op 0 (executed cpu s run)
executed-push cpu s [] i = refl
executed-push cpu s (j ∷ rest) i = executed-push cpu (op_step cpu j.op 0 s) rest i

-- a run leaves DS, unless one of its instructions writes it
pub executed-data :
    (cpu : Cpu) (code : List ℕ) (at : ℕ) (run : List Instr) (s : State) → IsRun cpu code at run
    → list_any (λ (i : Instr). writes_ds i.op) run ≡ false → data_segment (executed cpu s run) ≡ data_segment s
executed-data cpu code at [] s r idle = refl
executed-data cpu code at (i ∷ rest) s r idle =
    let parts = or_parts (writes_ds i.op) (list_any (λ (k : Instr). writes_ds k.op) rest) idle in
    executed-data cpu code (at + i.len) rest (op_step cpu i.op 0 s) r.1 parts.1 ∙ form-data cpu i.op 0 s r.0.form parts.0

-- a run leaves CS
pub executed-code : (cpu : Cpu) (code : List ℕ) (at : ℕ) (run : List Instr) (s : State) → IsRun cpu code at run → code_segment (executed cpu s run) ≡ code_segment s
executed-code cpu code at [] s r = refl
executed-code cpu code at (i ∷ rest) s r =
    executed-code cpu code (at + i.len) rest (op_step cpu i.op 0 s) r.1 ∙ form-code cpu i.op 0 s r.0.form

-- the machine at an offset of the code, as at the start but for its registers and flags
abbrev pub at_offset : Image → List ℕ → State → ℕ → State
at_offset image input r at = with_registers_of r (record (start_state image input) { ip = at % 65536 })

-- one step
pub step-at :
    (cpu : Cpu) (image : Image) (input : List ℕ) (r : State) (at : ℕ) (instr : Instr) → IsPlaced image
    → code_segment r ≡ image.cs → IsFormAt cpu (code_of image) at instr
    → step cpu (at_offset image input r at) ≡ at_offset image input (op_step cpu instr.op 0 r) (at + instr.len)
step-at cpu image input r at instr placed cs is =
    let s = at_offset image input r at in
    let inside = form-inside cpu (code_of image) at instr is in
    let low : at % 65536 ≡ at =
    let le : at < 65536 = omega (arith, inside.0, inside.1, length-code_of image placed, placed.short) in mod-eq_of_lt le in
    let found : instruction_at cpu s.ip (drop s.ip (code_of image)) ≡ Some instr =
    ap (λ a. instruction_at cpu a (drop a (code_of image))) low ∙ is.found in
    let holds = code-kept image image.code_len (start_state image input) s (start-holds image input placed) refl cs in
    let fetched = fetched-whole cpu image s instr placed holds found in
    ap (λ o. instruction_step cpu o s) fetched
    ∙ form-step cpu instr.op s.ip 0 r (record (start_state image input) { ip = (s.ip + instr.len) % 65536 }) is.form
    ∙ ap (λ a. at_offset image input (op_step cpu instr.op 0 r) (a + instr.len)) low

-- as many steps as a run has instructions
pub run-steps :
    (cpu : Cpu) (image : Image) (input : List ℕ) (r : State) (at : ℕ) (run : List Instr) → IsPlaced image
    → code_segment r ≡ image.cs → IsRun cpu (code_of image) at run
    → after (step cpu) (length run) (at_offset image input r at) ≡ at_offset image input (executed cpu r run) (offset_after at run)
run-steps cpu image input r at [] placed cs is = refl
run-steps cpu image input r at (i ∷ rest) placed cs is =
    ap (λ s. after (step cpu) (length rest) s) (step-at cpu image input r at i placed cs is.0)
    ∙ run-steps cpu image input (op_step cpu i.op 0 r) (at + i.len) rest placed (form-code cpu i.op 0 r is.0.form ∙ cs) is.1

-- the start of a loaded program
start-at : (image : Image) (input : List ℕ) → IsLoaded image → start_state image input ≡ at_offset image input (start_state image []) image.ip
start-at image input loaded =
    let placed = image-placed loaded.file image loaded.is_image in
    let low : image.ip % 65536 ≡ image.ip =
    let le : image.ip < 65536 = omega (arith, ip-loaded image loaded, placed.short) in mod-eq_of_lt le in
    ap (λ a. record (start_state image input) { ip = a }) (sym low)

-- The machine after a run from the entry of a loaded program, whatever the input: its registers and flags are those after
-- the run's instructions, its instruction pointer is after them, and all else is as at the start.
pub steps-from_start :
    (cpu : Cpu) (image : Image) (input : List ℕ) (run : List Instr) → IsLoaded image
    → IsRun cpu (code_of image) image.ip run
    → after (step cpu) (length run) (start_state image input) ≡ at_offset image input (executed cpu (start_state image []) run) (offset_after image.ip run)
steps-from_start cpu image input run loaded is =
    ap (λ s. after (step cpu) (length run) s) (start-at image input loaded)
    ∙ run-steps cpu image input (start_state image []) image.ip run (image-placed loaded.file image loaded.is_image) refl is

pub state_after-is :
    (cpu : Cpu) (image : Image) (prelude : List Instr) → IsLoaded image → IsRun cpu (code_of image) image.ip prelude
    → state_after cpu image prelude ≡ at_offset image [] (executed cpu (start_state image []) prelude) (offset_after image.ip prelude)
unfolding state_after
state_after-is cpu image prelude loaded is = steps-from_start cpu image [] prelude loaded is
