-- In a run along a trail that tells a table's greatest number the register holds twice a number up to that.
use Rattle.std.proofs.Common.{◌≡◌, ℕ, ◌*◌, length, ◌%◌, ◌<◌, ◌≤◌, Bool, true, false, List, [], ◌∷◌, Option, Some, None, refl, sym, ap, ◌∙◌, subst, arith}
use Rattle.std.proofs.lemmas.Bool.{eqb-true, eq-eqb}
use Rattle.std.proofs.lemmas.Bool.Decides.{nat_tests}
use Rattle.std.specs.Prelude.{slice_index, not, ◌||◌, ◌&&◌, ◌==◌, option_map, if◌then◌else◌}
use Rattle.std.specs.Int.Bits.{xor_self}
use Rattle.dcc_num.specs.declared.Width.{Width}
use Rattle.dcc_num.specs.declared.Width.TheVariants.{Byte as byte_width, Word as word_width}
use Rattle.dcc_num.specs.declared.Reg.{Reg}
use Rattle.dcc_num.specs.declared.Reg.TheVariants.{Ax}
use Rattle.dcc_num.specs.declared.Half.TheVariants.{Low, High}
use Rattle.dcc_num.specs.Numbers.{limit_of, result_flags}
use Rattle.dcc_num.specs.Sum.{difference_of}
use Rattle.dcc_num.specs.Shift.{shl_of}
use Rattle.dcc_num.specs.Logic.{exclusive_of}
use Rattle.dcc_machine.specs.declared.cpu.Cpu.{Cpu}
use Rattle.dcc_machine.specs.declared.image.Image.{Image}
use Rattle.dcc_prog.specs.declared.procedure.Layout.{Layout}
use Rattle.dcc_machine.specs.declared.instr.Alu.TheVariants.{Xor, Cmp}
use Rattle.dcc_machine.specs.declared.instr.Shift.TheVariants.{Shl}
use Rattle.dcc_machine.specs.declared.instr.Count.TheVariants.{One}
use Rattle.dcc_machine.specs.declared.instr.Cond.TheVariants.{A, Be}
use Rattle.dcc_machine.specs.declared.instr.Operand.{Operand}
use Rattle.dcc_machine.specs.declared.instr.Operand.TheVariants.{Word, Byte, Const}
use Rattle.dcc_machine.specs.declared.instr.Op.{Op}
use Rattle.dcc_machine.specs.declared.instr.Op.TheVariants.{Alu as AluOp, Shift as ShiftOp, Mov, Branch, Call}
use Rattle.dcc_machine.specs.declared.instr.Instr.{Instr}
use Rattle.dcc_machine.specs.MzImage.{IsLoaded}
use Rattle.dcc_machine.specs.Machine.{State, reg_number, word_in, half_of_word, operand_value, operand_width}
use Rattle.dcc_machine.specs.Machine.{is_general}
use Rattle.dcc_machine.specs.Step.{op_step}
use Rattle.dcc_machine.specs.WellFormed.{AreOperands}
use Rattle.dcc_machine.specs.Writes.{is_same_register}
use Rattle.dcc_machine.specs.Successors.{next_of}
use Rattle.dcc_prog.specs.Trail.{instruction_in, operation_in, moved_from, is_doubling, clears_upper, compared_with, al_compared_with, is_bounds_test, is_test_to, number_before_test, greatest_in, greatest_doubled, table_number}
use Rattle.dcc_machine.specs.StateForm.{IsState}
use Rattle.dcc_prog.specs.RunLaws.{HasPassed}
use Rattle.dcc_machine.proofs.StateKept.{same-state, value-fits, of_width}
use Rattle.dcc_machine.proofs.LocationKept.{same-word, word-taken}
use Rattle.dcc_machine.proofs.AlikeValues.{and-parts}
use Rattle.dcc_stack.specs.Tables.{HoldsTwice}
use Rattle.dcc_stack.proofs.TableSteps.{CameBy, came-by}

-- Comparisons.

-- after a comparison CF or ZF is set only where the first number is not above the second one
not-above : (w : Width) (a b : ℕ) → a < limit_of w → b < limit_of w
    → ((difference_of w a b false).1.cf || (difference_of w a b false).1.zf) ≡ true → a ≤ b
unfolding difference_of result_flags
not-above byte_width a b la lb e = grind (arith, nat_tests)
not-above word_width a b la lb e = grind (arith, nat_tests)

comparison-tells : (cpu : Cpu) (a : Operand) (width : Width) (number at : ℕ) (s : State)
    → AreOperands a (Const width number) → IsState s
    → ((op_step cpu (AluOp Cmp a (Const width number)) at s).flags.cf
    || (op_step cpu (AluOp Cmp a (Const width number)) at s).flags.zf) ≡ true
    → operand_value s a ≤ number
comparison-tells cpu a width number at s good form set =
    not-above (operand_width a) (operand_value s a) number (value-fits s a good.first form)
    (of_width width (operand_width a) number (sym good.widths) good.second) set

-- a comparison of an operand that has this value, by the registers, with a number
record IsComparison (value : List ℕ → ℕ) (found : Option Op) (number : ℕ) : Type 0 where
  operand : Operand
  width : Width
  is : found ≡ Some (AluOp Cmp operand (Const width number))
  value_is : (s : State) → operand_value s operand ≡ value s.regs

abbrev Compares : (Option Op → Option ℕ) → (List ℕ → ℕ) → Type 0
Compares comparison value =
    (found : Option Op) (number : ℕ) → comparison found ≡ Some number → IsComparison value found number

abbrev in_register : Reg → List ℕ → ℕ
in_register r regs = slice_index regs (reg_number r)

abbrev in_al : List ℕ → ℕ
in_al regs = half_of_word Low (in_register Ax regs)

compares-word : (r : Reg) → Compares (compared_with r) (in_register r)
compares-word r (Some (AluOp Cmp (Word q) (Const width constant))) number e =
    by (is_general r && is_same_register r q) refl e
  where
    by : (b : Bool) → is_general r && is_same_register r q ≡ b → (if b then Some constant else None) ≡ Some number
        → IsComparison (in_register r) (Some (AluOp Cmp (Word q) (Const width constant))) number
    by true both e =
        let same : constant ≡ number = cc in
        record {
          operand = Word q;
          width = width;
          is = ap (λ n. Some (AluOp Cmp (Word q) (Const width n))) same;
          value_is = λ s. same-word s q r (and-parts (is_general r) (is_same_register r q) both).1;
        }
    by false none e = cc
compares-word r found number e = cc

compares-al : Compares al_compared_with in_al
compares-al (Some (AluOp Cmp (Byte Ax Low) (Const width constant))) number e =
    let same : constant ≡ number = cc in
    record {
      operand = Byte Ax Low;
      width = width;
      is = ap (λ n. Some (AluOp Cmp (Byte Ax Low) (Const width n))) same;
      value_is = λ s. refl;
    }
compares-al found number e = cc

-- Bounds tests.

-- where a bounds test goes on, CF or ZF is set, and the registers stay
record IsTested (s t : State) : Type 0 where
  set : (s.flags.cf || s.flags.zf) ≡ true
  regs : t.regs ≡ s.regs

test-goes : (cpu : Cpu) (op : Op) (at to : ℕ) (s : State) → is_bounds_test op s.ip to ≡ true
    → (op_step cpu op at s).ip ≡ to → IsTested s (op_step cpu op at s)
test-goes cpu (Branch A target) at to s test goes = by (s.flags.cf || s.flags.zf) refl goes
  where
    by : (b : Bool) → (s.flags.cf || s.flags.zf) ≡ b → (if not b then target else s.ip) ≡ to
        → IsTested s (op_step cpu (Branch A target) at s)
    by true is goes = record { set = is; regs = refl }
    by false is goes =
        let apart = (and-parts (s.ip == to) (not (target == to)) test).1 in
        let same : (target == to) ≡ true = eq-eqb target to goes in
        cc
test-goes cpu (Branch Be target) at to s test goes = by (s.flags.cf || s.flags.zf) refl goes
  where
    by : (b : Bool) → (s.flags.cf || s.flags.zf) ≡ b → (if b then target else s.ip) ≡ to
        → IsTested s (op_step cpu (Branch Be target) at s)
    by true is goes = record { set = is; regs = refl }
    by false is goes =
        let apart = (and-parts (target == to) (not (s.ip == to)) test).1 in
        let same : (s.ip == to) ≡ true = eq-eqb s.ip to goes in
        cc
test-goes cpu op at to s test goes = cc

test-no_call : (op : Op) (next to : ℕ) → is_bounds_test op next to ≡ true → (target : ℕ) → op ≡ Call target → ⊥
test-no_call op next to test target e =
    let clash : false ≡ true = subst (λ o. is_bounds_test o next to ≡ true) e test in cc

-- the instruction of a bounds test
record HasTest (found : Option Instr) (at to : ℕ) : Type 0 where
  instr : Instr
  is : found ≡ Some instr
  test : is_bounds_test instr.op (next_of at instr) to ≡ true

test-instruction : (found : Option Instr) (at to : ℕ) → is_test_to found at to ≡ true → HasTest found at to
test-instruction None at to e = cc
test-instruction (Some instr) at to e = record { instr = instr; is = refl; test = e }

-- what the last instructions of a trail are

clears-is : (r : Reg) (found : Option Op) → clears_upper r found ≡ true
    → (r ≡ Ax) × (found ≡ Some (AluOp Xor (Byte Ax High) (Byte Ax High)))
clears-is Ax (Some (AluOp Xor (Byte Ax High) (Byte Ax High))) e = (refl, refl)
clears-is r found e = cc

record IsDoubling (r : Reg) (found : Option Op) : Type 0 where
  name : Reg
  is : found ≡ Some (ShiftOp Shl (Word name) One)
  same : is_same_register r name ≡ true

doubling-is : (r : Reg) (found : Option Op) → is_doubling r found ≡ true → IsDoubling r found
doubling-is r (Some (ShiftOp Shl (Word q) One)) e = record { name = q; is = refl; same = e }
doubling-is r found e = cc

record IsMovedFrom (q r : Reg) (found : Option Op) : Type 0 where
  name : Reg
  is : found ≡ Some (Mov (Word name) (Word r))
  same : is_same_register q name ≡ true

moved-is : (q r : Reg) (found : Option Op) → moved_from q found ≡ Some r → IsMovedFrom q r found
moved-is q r (Some (Mov (Word p) (Word from))) e = by (is_same_register q p && not (is_same_register q from)) refl e
  where
    by : (b : Bool) → is_same_register q p && not (is_same_register q from) ≡ b
        → (if b then Some from else None) ≡ Some r
        → IsMovedFrom q r (Some (Mov (Word p) (Word from)))
    by true both e =
        let is : from ≡ r = cc in
        record {
          name = p;
          is = ap (λ x. Some (Mov (Word p) (Word x))) is;
          same = (and-parts (is_same_register q p) (not (is_same_register q from)) both).0;
        }
    by false none e = cc
moved-is q r found e = cc

-- Runs.

module _ (image : Image) (layout : Layout) (loaded : IsLoaded image) where
  abbrev Passed : List ℕ → State → Type 0
  Passed before s = HasPassed image layout before s

  -- the state with the instruction pointer after the instruction
  abbrev onward : ℕ → Instr → State → State
  onward at instr s = record s { ip = next_of at instr }

  abbrev Came : ℕ → List ℕ → Op → State → Type 0
  Came at before op s = CameBy image layout loaded at before op s

  -- a comparison, after which CF or ZF is set
  compared-below : (value : List ℕ → ℕ) (a : Operand) (width : Width) (number at : ℕ) (before : List ℕ) (s : State)
      → ((t : State) → operand_value t a ≡ value t.regs) → Came at before (AluOp Cmp a (Const width number)) s
      → (s.flags.cf || s.flags.zf) ≡ true → value s.regs ≤ number
  compared-below value a width number at before s value_is came set =
      let u = onward at came.instr came.from in
      let le = comparison-tells layout.cpu a width number at u came.good
      (same-state came.from u refl refl refl refl came.form)
      (subst (λ (t : State). (t.flags.cf || t.flags.zf) ≡ true) came.is set) in
      let same : value s.regs ≡ operand_value u a = ap (λ (t : State). value t.regs) came.is ∙ sym (value_is u) in
      omega (arith, le, same)

  -- a bounds test that goes on
  test-gone : (test to : ℕ) (before : List ℕ) (s : State) (has : HasTest (instruction_in image layout test) test to)
      → (came : Came test before has.instr.op s) → s.ip ≡ to → IsTested came.from s
  test-gone test to before s has came here =
      let same : has.instr ≡ came.instr =
      one-instruction (instruction_in image layout test) has.instr came.instr has.is came.found in
      let goes = test-goes layout.cpu has.instr.op test to (onward test came.instr came.from)
      (subst (λ i. is_bounds_test has.instr.op (next_of test i) to ≡ true) same has.test)
      (ap (λ (t : State). t.ip) (sym came.is) ∙ here) in
      record { set = goes.set; regs = ap (λ (t : State). t.regs) came.is ∙ goes.regs }
    where
      one-instruction : (found : Option Instr) (instr other : Instr) → found ≡ Some instr → found ≡ Some other
          → instr ≡ other
      one-instruction found instr other p q = cc

  -- a comparison, and a bounds test that goes on from it
  tested : (comparison : Option Op → Option ℕ) (value : List ℕ → ℕ) → Compares comparison value
      → (to number : ℕ) (before : List ℕ) (s : State) → Passed before s → s.ip ≡ to
      → number_before_test image layout comparison to before ≡ Some number → value s.regs ≤ number
  tested comparison value compares to number [] s passed here e = cc
  tested comparison value compares to number (test ∷ []) s passed here e = cc
  tested comparison value compares to number (test ∷ compare ∷ rest) s passed here e =
      by (is_test_to (instruction_in image layout test) test to) refl e
    where
      compared : (u : State) → Passed (compare ∷ rest) u → comparison (operation_in image layout compare) ≡ Some number
          → IsTested u s → value s.regs ≤ number
      compared u came told gone =
          let is = compares (operation_in image layout compare) number told in
          let le = compared-below value is.operand is.width number compare rest u is.value_is
          (came-by image layout loaded compare rest (AluOp Cmp is.operand (Const is.width number)) u came is.is
          (λ target e. cc)) gone.set in
          subst (λ (regs : List ℕ). value regs ≤ number) (sym gone.regs) le

      by : (b : Bool) → is_test_to (instruction_in image layout test) test to ≡ b
          → (if b then comparison (operation_in image layout compare) else None) ≡ Some number → value s.regs ≤ number
      by true is told =
          let has = test-instruction (instruction_in image layout test) test to is in
          let came = came-by image layout loaded test (compare ∷ rest) has.instr.op s passed
          (ap (λ f. option_map (λ (i : Instr). i.op) f) has.is)
          (test-no_call has.instr.op (next_of test has.instr) to has.test) in
          compared came.from came.passed told (test-gone test to (compare ∷ rest) s has came here)
      by false is told = cc

  -- The greatest number that the register holds.

  -- `xor ah,ah` leaves AL alone
  upper-cleared : (at : ℕ) (u : State) → length u.regs ≡ 8
      → word_in (op_step layout.cpu (AluOp Xor (Byte Ax High) (Byte Ax High)) at u) Ax ≡ in_al u.regs
  unfolding exclusive_of
  upper-cleared at u count =
      let none = xor_self (half_of_word High (word_in u Ax)) in word-taken u Ax Ax _ count refl ∙ omega (arith, none)

  cleared-is : (at : ℕ) (before : List ℕ) (s : State)
      → (came : Came at before (AluOp Xor (Byte Ax High) (Byte Ax High)) s)
      → word_in s Ax ≡ in_al came.from.regs
  cleared-is at before s came =
      ap (λ (t : State). word_in t Ax) came.is
      ∙ upper-cleared at (onward at came.instr came.from) came.form.registers.count

  greatest-held : (r : Reg) (to number : ℕ) (before : List ℕ) (s : State) → Passed before s → s.ip ≡ to
      → greatest_in image layout r to before ≡ Some number → word_in s r ≤ number
  greatest-held r to number [] s passed here e = cc
  greatest-held r to number (last ∷ before) s passed here e =
      by (clears_upper r (operation_in image layout last)) refl e
    where
      by : (b : Bool) → clears_upper r (operation_in image layout last) ≡ b
          → (if b then number_before_test image layout al_compared_with last before
          else number_before_test image layout (compared_with r) to (last ∷ before)) ≡ Some number
          → word_in s r ≤ number
      by true clears told =
          let is = clears-is r (operation_in image layout last) clears in
          let came = came-by image layout loaded last before (AluOp Xor (Byte Ax High) (Byte Ax High)) s passed is.1
          (λ target e. cc) in
          let le = tested al_compared_with in_al compares-al last number before came.from came.passed came.here told in
          let same : word_in s r ≡ in_al came.from.regs = ap (word_in s) is.0 ∙ cleared-is last before s came in
          omega (arith, le, same)
      by false keeps told =
          tested (compared_with r) (in_register r) (compares-word r) to number (last ∷ before) s passed here told

  -- Twice that number.

  doubled-word : (r q : Reg) (at : ℕ) (u : State) → length u.regs ≡ 8 → is_same_register r q ≡ true
      → word_in (op_step layout.cpu (ShiftOp Shl (Word q) One) at u) r ≡ word_in u r * 2 % 65536
  unfolding shl_of
  doubled-word r q at u count same =
      word-taken u q r _ count same ∙ ap (λ n. n * 2 % 65536) (same-word u q r same)

  doubled-is : (r q : Reg) (at : ℕ) (before : List ℕ) (s : State) → is_same_register r q ≡ true
      → (came : Came at before (ShiftOp Shl (Word q) One) s) → word_in s r ≡ word_in came.from r * 2 % 65536
  doubled-is r q at before s same came =
      ap (λ (t : State). word_in t r) came.is
      ∙ doubled-word r q at (onward at came.instr came.from) came.form.registers.count same

  halves-fit : (word number : ℕ) → word ≤ number → (word % 32768 ≤ number) × (word * 2 % 65536 ≡ 2 * (word % 32768))
  halves-fit word number le = (omega (arith, le), omega arith)

  doubled-held : (r : Reg) (number : ℕ) (before : List ℕ) (s : State) → Passed before s
      → greatest_doubled image layout r before ≡ Some number → HoldsTwice s r number
  doubled-held r number [] s passed e = cc
  doubled-held r number (shift ∷ before) s passed e = by (is_doubling r (operation_in image layout shift)) refl e
    where
      by : (b : Bool) → is_doubling r (operation_in image layout shift) ≡ b
          → (if b then greatest_in image layout r shift before else None) ≡ Some number → HoldsTwice s r number
      by true doubles told =
          let is = doubling-is r (operation_in image layout shift) doubles in
          let came = came-by image layout loaded shift before (ShiftOp Shl (Word is.name) One) s passed is.is
          (λ target e. cc) in
          let le = greatest-held r shift number before came.from came.passed came.here told in
          let fit = halves-fit (word_in came.from r) number le in
          record {
            number = word_in came.from r % 32768;
            fits = fit.0;
            is = doubled-is r is.name shift before s is.same came ∙ fit.1;
          }
      by false none told = cc

  moved-word : (q p r : Reg) (at : ℕ) (before : List ℕ) (s : State) → is_same_register q p ≡ true
      → (came : Came at before (Mov (Word p) (Word r)) s) → word_in s q ≡ word_in came.from r
  moved-word q p r at before s same came =
      ap (λ (t : State). word_in t q) came.is
      ∙ word-taken (onward at came.instr came.from) p q (word_in came.from r) came.form.registers.count same

  moved-held : (q r : Reg) (number at : ℕ) (before : List ℕ) (s : State)
      → IsMovedFrom q r (operation_in image layout at)
      → Passed (at ∷ before) s → greatest_doubled image layout r before ≡ Some number → HoldsTwice s q number
  moved-held q r number at before s is passed told =
      let came = came-by image layout loaded at before (Mov (Word is.name) (Word r)) s passed is.is (λ target e. cc) in
      let held = doubled-held r number before came.from came.passed told in
      record {
        number = held.number;
        fits = held.fits;
        is = moved-word q is.name r at before s is.same came ∙ held.is;
      }

  pub twice-held : (q : Reg) (number : ℕ) (before : List ℕ) (s : State) → Passed before s
      → table_number image layout q before ≡ Some number → HoldsTwice s q number
  twice-held q number [] s passed e = cc
  twice-held q number (last ∷ before) s passed e = by (moved_from q (operation_in image layout last)) refl e
    where
      by : (moved : Option Reg) → moved_from q (operation_in image layout last) ≡ moved
          → elim moved [
            | None ↦ greatest_doubled image layout q (last ∷ before)
            | Some r ↦ greatest_doubled image layout r before
          ] ≡ Some number
          → HoldsTwice s q number
      by None is told = doubled-held q number (last ∷ before) s passed told
      by (Some r) is told =
          moved-held q r number last before s (moved-is q r (operation_in image layout last) is) passed told
