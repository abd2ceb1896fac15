-- The registers that a prelude leaves: eight words.
use Rattle.std.proofs.Common.{◌≡◌, ℕ, zero, suc, ◌+◌, ◌<◌, Bool, true, false, ◌==◌, List, [], ◌∷◌, length, drop, slice_index, All, refl, sym, ap, ◌∙◌, subst, arith}
use Rattle.std.specs.Prelude.{slice_set, if◌then◌else◌}
use Rattle.std.proofs.lemmas.List.{length-set, get_or_default}
use Rattle.dcc_num.specs.declared.Half.{Half}
use Rattle.dcc_num.specs.declared.Half.TheVariants.{Low, High}
use Rattle.dcc_num.specs.declared.Width.TheVariants.{Word as word_width}
use Rattle.dcc_num.specs.declared.Flags.{Flags}
use Rattle.dcc_num.specs.Numbers.{limit_of}
use Rattle.dcc_num.specs.Shift.{shl_of}
use Rattle.dcc_machine.specs.declared.cpu.Cpu.{Cpu}
use Rattle.dcc_machine.specs.declared.image.Image.{Image}
use Rattle.dcc_prog.specs.declared.procedure.Layout.{Layout}
use Rattle.dcc_machine.specs.declared.instr.Alu.TheVariants.{Add, Sub}
use Rattle.dcc_machine.specs.declared.instr.Shift.TheVariants.{Shl}
use Rattle.dcc_machine.specs.declared.instr.Plain.TheVariants.{Nop, Cli, Sti, Cld}
use Rattle.dcc_machine.specs.declared.instr.Operand.TheVariants.{Word, Byte, Seg, Const}
use Rattle.dcc_machine.specs.declared.instr.Op.{Op}
use Rattle.dcc_machine.specs.declared.instr.Op.TheVariants.{Alu as AluOp, Shift as ShiftOp, Mov, Plain as PlainOp}
use Rattle.dcc_machine.specs.declared.instr.Instr.{Instr}
use Rattle.dcc_machine.specs.MzImage.{IsLoaded}
use Rattle.dcc_machine.specs.Load.{prefix_segment}
use Rattle.dcc_machine.specs.Code.{code_of}
use Rattle.dcc_machine.specs.Machine.{State, reg_number, word_in, half_of_word, word_with_half, start_state}
use Rattle.dcc_machine.specs.Step.{op_step}
use Rattle.dcc_prog.specs.Layout.{is_prelude_form, IsRun, HasLayout}
use Rattle.dcc_machine.specs.Operations.{count_in}
use Rattle.dcc_machine.specs.WellFormed.{IsOperation}
use Rattle.dcc_machine.proofs.MzImageLaws.{word_at-lt}
use Rattle.dcc_prog.proofs.PreludeSteps.{executed, state_after-is}
use Rattle.dcc_machine.proofs.WellFormedLaws.{AreBytes, instruction-operation}
use Rattle.dcc_ops.proofs.SumValues.{sum_below, difference_below}
use Rattle.dcc_lift.proofs.CodeBounds.{bytes-dropped, whole-bytes, loaded-bytes}

-- Lists of words.

abbrev pub AreWords : List ℕ → Type 0
AreWords xs = (i : ℕ) → slice_index xs i < 65536

words-set : (xs : List ℕ) (k v : ℕ) → AreWords xs → v < 65536 → (i : ℕ) → slice_index (slice_set xs k v) i < 65536
words-set [] k v words small i = words i
words-set (x ∷ xs) zero v words small zero = small
words-set (x ∷ xs) zero v words small (suc i) = words (suc i)
words-set (x ∷ xs) (suc k) v words small zero = words 0
words-set (x ∷ xs) (suc k) v words small (suc i) = words-set xs k v (λ j. words (suc j)) small i

-- Registers.

-- eight registers, and they and the segment registers hold words
pub record HasWords (s : State) : Type 0 where
  pub eight : length s.regs ≡ 8
  pub words : AreWords s.regs
  pub segments : AreWords s.segs

-- a register takes a word
word-taken : (s t : State) (k v : ℕ) → t.regs ≡ slice_set s.regs k v → t.segs ≡ s.segs → v < 65536 → HasWords s
    → HasWords t
word-taken s t k v regs segs small h = record {
  eight = ap length regs ∙ length-set s.regs k v ∙ h.eight;
  words = subst AreWords (sym regs) (words-set s.regs k v h.words small);
  segments = subst AreWords (sym segs) h.segments;
}

half-byte : (half : Half) (word : ℕ) → word < 65536 → half_of_word half word < 256
half-byte Low word small = omega arith
half-byte High word small = omega arith

half-taken : (half : Half) (word byte : ℕ) → word < 65536 → byte < 256 → word_with_half half word byte < 65536
half-taken Low word byte small fits = omega arith
half-taken High word byte small fits = omega arith

either-below : (b : Bool) (same moved : ℕ × Flags) → same.0 < 65536 → moved.0 < 65536
    → (let r : ℕ × Flags = if b then same else moved in r.0 < 65536)
either-below true same moved p q = p
either-below false same moved p q = q

shifted-below : (a count : ℕ) (flags : Flags) → a < 65536 → (shl_of word_width a count flags).0 < 65536
unfolding shl_of
shifted-below a count flags small = either-below (count == 0) (a, flags) _ small (omega arith)

-- an operation of a prelude leaves words
form-words : (cpu : Cpu) (op : Op) (at : ℕ) (s : State) → is_prelude_form op ≡ true → IsOperation op → HasWords s
    → HasWords (op_step cpu op at s)
form-words cpu (Mov (Word r) (Const width c)) at s form well h =
    let fits : c < 65536 = subst (λ w. c < limit_of w) (sym well.widths) well.second in
    word-taken s _ (reg_number r) c refl refl fits h
form-words cpu (Mov (Byte r half) (Const width c)) at s form well h =
    let fits : c < 256 = subst (λ w. c < limit_of w) (sym well.widths) well.second in
    word-taken s _ (reg_number r) (word_with_half half (word_in s r) c) refl refl
    (half-taken half (word_in s r) c (h.words (reg_number r)) fits) h
form-words cpu (Mov (Word r) (Word q)) at s form well h =
    word-taken s _ (reg_number r) (word_in s q) refl refl (h.words (reg_number q)) h
form-words cpu (Mov (Byte r half) (Byte q part)) at s form well h =
    let byte = half_of_word part (word_in s q) in
    let fits : byte < 256 = half-byte part (word_in s q) (h.words (reg_number q)) in
    word-taken s _ (reg_number r) (word_with_half half (word_in s r) byte) refl refl
    (half-taken half (word_in s r) byte (h.words (reg_number r)) fits) h
form-words cpu (Mov (Word r) (Seg number)) at s form well h =
    word-taken s _ (reg_number r) (slice_index s.segs number) refl refl (h.segments number) h
form-words cpu (Mov (Seg number) (Word r)) at s form well h = record {
  eight = h.eight;
  words = h.words;
  segments = words-set s.segs number (word_in s r) h.segments (h.words (reg_number r));
}
form-words cpu (AluOp Add (Word r) (Word q)) at s form well h =
    word-taken s _ (reg_number r) _ refl refl (sum_below word_width (word_in s r) (word_in s q) false) h
form-words cpu (AluOp Add (Word r) (Const width c)) at s form well h =
    word-taken s _ (reg_number r) _ refl refl (sum_below word_width (word_in s r) c false) h
form-words cpu (AluOp Sub (Word r) (Word q)) at s form well h =
    word-taken s _ (reg_number r) _ refl refl (difference_below word_width (word_in s r) (word_in s q) false) h
form-words cpu (AluOp Sub (Word r) (Const width c)) at s form well h =
    word-taken s _ (reg_number r) _ refl refl (difference_below word_width (word_in s r) c false) h
form-words cpu (ShiftOp Shl (Word r) count) at s form well h =
    word-taken s _ (reg_number r) _ refl refl
    (shifted-below (word_in s r) (count_in cpu count s) s.flags (h.words (reg_number r))) h
form-words cpu (PlainOp Nop) at s form well h = h
form-words cpu (PlainOp Cli) at s form well h = h
form-words cpu (PlainOp Sti) at s form well h = h
form-words cpu (PlainOp Cld) at s form well h = h
form-words cpu op at s form well h = cc

-- a run of a prelude's operations leaves words
run-words : (cpu : Cpu) (code : List ℕ) (at : ℕ) (run : List Instr) (s : State) → AreBytes code
    → IsRun cpu code at run → HasWords s → HasWords (executed cpu s run)
run-words cpu code at [] s bytes is h = h
run-words cpu code at (instr ∷ rest) s bytes is h =
    let well : IsOperation instr.op =
    instruction-operation cpu at (drop at code) instr (bytes-dropped at code bytes) is.0.found in
    run-words cpu code (at + instr.len) rest (op_step cpu instr.op 0 s) bytes is.1
    (form-words cpu instr.op 0 s is.0.form well h)

-- the registers at the start
start-registers : (sp : ℕ) → sp < 65536 → (i : ℕ) → slice_index (0 ∷ 0 ∷ 0 ∷ 0 ∷ sp ∷ 0 ∷ 0 ∷ 0 ∷ []) i < 65536
start-registers sp small zero = omega arith
start-registers sp small (suc zero) = omega arith
start-registers sp small (suc (suc zero)) = omega arith
start-registers sp small (suc (suc (suc zero))) = omega arith
start-registers sp small (suc (suc (suc (suc zero)))) = small
start-registers sp small (suc (suc (suc (suc (suc zero))))) = omega arith
start-registers sp small (suc (suc (suc (suc (suc (suc zero)))))) = omega arith
start-registers sp small (suc (suc (suc (suc (suc (suc (suc zero))))))) = omega arith
start-registers sp small (suc (suc (suc (suc (suc (suc (suc (suc i)))))))) = omega arith

start-segments : (es cs ss ds : ℕ) → es < 65536 → cs < 65536 → ss < 65536 → ds < 65536 → (i : ℕ)
    → slice_index (es ∷ cs ∷ ss ∷ ds ∷ []) i < 65536
start-segments es cs ss ds e c s d zero = e
start-segments es cs ss ds e c s d (suc zero) = c
start-segments es cs ss ds e c s d (suc (suc zero)) = s
start-segments es cs ss ds e c s d (suc (suc (suc zero))) = d
start-segments es cs ss ds e c s d (suc (suc (suc (suc i)))) = omega arith

start-words : (image : Image) → IsLoaded image → HasWords (start_state image [])
start-words image loaded =
    let is = loaded.is_image in
    let sp : image.sp < 65536 = omega (arith, is.sp, word_at-lt loaded.file 0x10 loaded.bytes) in
    let cs : image.cs < 65536 = omega (arith, is.cs) in
    let ss : image.ss < 65536 = omega (arith, is.ss) in
    record {
      eight = refl;
      words = start-registers image.sp sp;
      segments = start-segments prefix_segment image.cs image.ss prefix_segment (omega arith) cs ss (omega arith);
    }

module _ (image : Image) (layout : Layout) (loaded : IsLoaded image) (has : HasLayout image layout) where
  following-words : HasWords (executed layout.cpu (start_state image []) has.prelude)
  following-words = run-words layout.cpu (code_of image) image.ip has.prelude (start_state image [])
      (whole-bytes image (loaded-bytes image loaded)) has.is_prelude.run (start-words image loaded)

  -- the layout's registers are those after the prelude's instructions
  pub layout-registers : layout.regs ≡ (executed layout.cpu (start_state image []) has.prelude).regs
  layout-registers = has.left.regs
      ∙ ap (λ (s : State). s.regs) (state_after-is layout.cpu image has.prelude loaded has.is_prelude.run)

  -- the layout's registers are eight words
  pub layout-eight : length layout.regs ≡ 8
  layout-eight = ap length layout-registers ∙ following-words.eight

  pub layout-words : (i : ℕ) → slice_index layout.regs i < 65536
  layout-words = subst AreWords (sym layout-registers) following-words.words

  pub layout-fits : All (λ word. word < 65536) layout.regs
  layout-fits i d inside = subst (λ word. word < 65536) (get_or_default layout.regs i 0 d inside) (layout-words i)
