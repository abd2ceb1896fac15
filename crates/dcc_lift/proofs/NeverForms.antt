-- What a trail tells of a jump through a table rests on its last instructions alone, which work on general registers.
use Rattle.std.proofs.Common.{◌≡◌, ℕ, Bool, true, false, ◌&&◌, List, [], ◌∷◌, Option, Some, None, refl, sym, ap, ◌∙◌, subst}
use Rattle.std.specs.Prelude.{not, option_map, if◌then◌else◌}
use Rattle.dcc_num.specs.declared.Reg.{Reg}
use Rattle.dcc_num.specs.declared.Reg.TheVariants.{Ax}
use Rattle.dcc_num.specs.declared.Half.TheVariants.{Low, High}
use Rattle.dcc_machine.specs.declared.image.Image.{Image}
use Rattle.dcc_prog.specs.declared.procedure.Layout.{Layout}
use Rattle.dcc_machine.specs.declared.instr.Alu.TheVariants.{Xor, Cmp}
use Rattle.dcc_machine.specs.declared.instr.Shift.TheVariants.{Shl}
use Rattle.dcc_machine.specs.declared.instr.Count.TheVariants.{One}
use Rattle.dcc_machine.specs.declared.instr.Cond.TheVariants.{A, Be}
use Rattle.dcc_machine.specs.declared.instr.Operand.TheVariants.{Word, Byte, Const}
use Rattle.dcc_machine.specs.declared.instr.Op.{Op}
use Rattle.dcc_machine.specs.declared.instr.Op.TheVariants.{Alu as AluOp, Shift as ShiftOp, Mov, Branch}
use Rattle.dcc_machine.specs.declared.instr.Instr.{Instr}
use Rattle.dcc_machine.specs.Machine.{is_general}
use Rattle.dcc_machine.specs.Successors.{next_of}
use Rattle.dcc_prog.specs.Trail.{instruction_in, operation_in, moved_from, is_doubling, clears_upper, compared_with, al_compared_with, is_bounds_test, is_test_to, number_before_test, greatest_in, greatest_doubled, table_number}
use Rattle.dcc_machine.specs.Writes.{is_same_register}
use Rattle.dcc_machine.proofs.AlikeValues.{and-parts}
use Rattle.dcc_ops.specs.Registers.{is_register, is_source}
use Rattle.dcc_simulation.proofs.Coupling.{registers-apart}

-- Operations that are followed: they work on general registers, their halves and constants, or are branches.

abbrev pub is_followed : Op → Bool
is_followed (AluOp operation a b) = is_register a && is_source b
is_followed (ShiftOp operation a count) = is_register a
is_followed (Mov to from) = is_register to && is_source from
is_followed (Branch tested target) = true
is_followed op = false

abbrev pub is_followed_in : Option Op → Bool
is_followed_in None = false
is_followed_in (Some op) = is_followed op

-- a register that is the same as a general one is general
same-general : (q r : Reg) → is_same_register q r ≡ true → is_general q ≡ true → is_general r ≡ true
same-general q r same general = by (is_general r) refl
  where
    by : (b : Bool) → is_general r ≡ b → is_general r ≡ true
    by true e = e
    by false e = let clash : false ≡ true = sym (registers-apart q r true general e) ∙ same in cc

-- What tells something of a table is followed.

record IsTold (r : Reg) (found : Option Op) : Type 0 where
  general : is_general r ≡ true
  followed : is_followed_in found ≡ true

compared-told : (r : Reg) (found : Option Op) (number : ℕ) → compared_with r found ≡ Some number → IsTold r found
compared-told r (Some (AluOp Cmp (Word q) (Const width constant))) number e =
    by (is_general r && is_same_register r q) refl e
  where
    by : (b : Bool) → is_general r && is_same_register r q ≡ b → (if b then Some constant else None) ≡ Some number
        → IsTold r (Some (AluOp Cmp (Word q) (Const width constant)))
    by true both e =
        let parts = and-parts (is_general r) (is_same_register r q) both in
        record { general = parts.0; followed = ap (λ b. b && true) (same-general r q parts.1 parts.0) }
    by false none e = cc
compared-told r found number e = cc

al-told : (found : Option Op) (number : ℕ) → al_compared_with found ≡ Some number → is_followed_in found ≡ true
al-told (Some (AluOp Cmp (Byte Ax Low) (Const width constant))) number e = refl
al-told found number e = cc

bounds-told : (op : Op) (next to : ℕ) → is_bounds_test op next to ≡ true → is_followed op ≡ true
bounds-told (Branch A target) next to e = refl
bounds-told (Branch Be target) next to e = refl
bounds-told op next to e = cc

test-told : (found : Option Instr) (at to : ℕ) → is_test_to found at to ≡ true
    → is_followed_in (option_map (λ (i : Instr). i.op) found) ≡ true
test-told None at to e = cc
test-told (Some instr) at to e = bounds-told instr.op (next_of at instr) to e

clears-told : (r : Reg) (found : Option Op) → clears_upper r found ≡ true → IsTold r found
clears-told Ax (Some (AluOp Xor (Byte Ax High) (Byte Ax High))) e = record { general = refl; followed = refl }
clears-told r found e = cc

doubling-told : (r : Reg) (found : Option Op) → is_doubling r found ≡ true → is_general r ≡ true
    → is_followed_in found ≡ true
doubling-told r (Some (ShiftOp Shl (Word q) One)) e general = same-general r q e general
doubling-told r found e general = cc

moved-told : (q r : Reg) (found : Option Op) → moved_from q found ≡ Some r → is_general q ≡ true → is_general r ≡ true
    → is_followed_in found ≡ true
moved-told q r (Some (Mov (Word p) (Word from))) e general source =
    by (is_same_register q p && not (is_same_register q from)) refl e
  where
    by : (b : Bool) → is_same_register q p && not (is_same_register q from) ≡ b
        → (if b then Some from else None) ≡ Some r
        → is_general p && is_source (Word from) ≡ true
    by true both e =
        let is : from ≡ r = cc in
        let to = same-general q p (and-parts (is_same_register q p) (not (is_same_register q from)) both).0 general in
        ap (λ b. b && is_general from) to ∙ ap is_general is ∙ source
    by false none e = cc
moved-told q r found e general source = cc

-- Trails.

module _ (image : Image) (layout : Layout) where
  -- the last instructions of a trail, as far as they are followed
  abbrev pub followed : List ℕ → List ℕ
  followed [] = []
  followed (at ∷ before) = if is_followed_in (operation_in image layout at) then at ∷ followed before else []

  pub followed-more : (at : ℕ) (before : List ℕ) → is_followed_in (operation_in image layout at) ≡ true
      → followed (at ∷ before) ≡ at ∷ followed before
  followed-more at before e = ap (λ b. if b then at ∷ followed before else []) e

  pub followed-none : (at : ℕ) (before : List ℕ) → is_followed_in (operation_in image layout at) ≡ false
      → followed (at ∷ before) ≡ []
  followed-none at before e = ap (λ b. if b then at ∷ followed before else []) e

  -- a comparison of this kind, before the bounds test at the end of a trail, where both are followed
  record IsTestTold (comparison : Option Op → Option ℕ) (to number : ℕ) (before : List ℕ) : Type 0 where
    test : ℕ
    compare : ℕ
    rest : List ℕ
    is : before ≡ test ∷ compare ∷ rest
    tested : is_test_to (instruction_in image layout test) test to ≡ true
    compared : comparison (operation_in image layout compare) ≡ Some number

  test-is : (comparison : Option Op → Option ℕ) (to number : ℕ) (before : List ℕ)
      → number_before_test image layout comparison to before ≡ Some number → IsTestTold comparison to number before
  test-is comparison to number [] e = cc
  test-is comparison to number (test ∷ []) e = cc
  test-is comparison to number (test ∷ compare ∷ rest) e =
      by (is_test_to (instruction_in image layout test) test to) refl e
    where
      by : (b : Bool) → is_test_to (instruction_in image layout test) test to ≡ b
          → (if b then comparison (operation_in image layout compare) else None) ≡ Some number
          → IsTestTold comparison to number (test ∷ compare ∷ rest)
      by true is told = record {
        test = test;
        compare = compare;
        rest = rest;
        is = refl;
        tested = is;
        compared = told;
      }
      by false is told = cc

  abbrev Follows : (Option Op → Option ℕ) → Type 0
  Follows comparison =
      (found : Option Op) (number : ℕ) → comparison found ≡ Some number → is_followed_in found ≡ true

  test-followed : (comparison : Option Op → Option ℕ) (to number : ℕ) (before : List ℕ) → Follows comparison
      → IsTestTold comparison to number before
      → number_before_test image layout comparison to (followed before) ≡ Some number
  test-followed comparison to number before follows t =
      let first = followed-more t.test (t.compare ∷ t.rest)
      (test-told (instruction_in image layout t.test) t.test to t.tested) in
      let second = followed-more t.compare t.rest
      (follows (operation_in image layout t.compare) number t.compared) in
      let all : followed before ≡ t.test ∷ t.compare ∷ followed t.rest =
      ap followed t.is ∙ first ∙ ap (λ l. t.test ∷ l) second in
      ap (number_before_test image layout comparison to) all
      ∙ ap (λ b. if b then comparison (operation_in image layout t.compare) else None) t.tested
      ∙ t.compared

  head-followed : (comparison : Option Op → Option ℕ) (to number last : ℕ) (before : List ℕ)
      → IsTestTold comparison to number (last ∷ before) → is_followed_in (operation_in image layout last) ≡ true
  head-followed comparison to number last before t =
      let same : t.test ≡ last = let e = t.is in cc in
      subst (λ n. is_followed_in (operation_in image layout n) ≡ true) same
      (test-told (instruction_in image layout t.test) t.test to t.tested)

  -- the greatest number
  record IsGreatestTold (r : Reg) (to number : ℕ) (before : List ℕ) : Type 0 where
    general : is_general r ≡ true
    again : greatest_in image layout r to (followed before) ≡ Some number

  greatest-followed : (r : Reg) (to number : ℕ) (before : List ℕ)
      → greatest_in image layout r to before ≡ Some number → IsGreatestTold r to number before
  greatest-followed r to number [] e = cc
  greatest-followed r to number (last ∷ before) e = by (clears_upper r (operation_in image layout last)) refl e
    where
      chosen : Bool → Option ℕ
      chosen b =
          if b then number_before_test image layout al_compared_with last (followed before)
          else number_before_test image layout (compared_with r) to (last ∷ followed before)

      by : (b : Bool) → clears_upper r (operation_in image layout last) ≡ b
          → (if b then number_before_test image layout al_compared_with last before
          else number_before_test image layout (compared_with r) to (last ∷ before)) ≡ Some number
          → IsGreatestTold r to number (last ∷ before)
      by true clears told =
          let is = clears-told r (operation_in image layout last) clears in
          record {
            general = is.general;
            again =
                ap (greatest_in image layout r to) (followed-more last before is.followed)
                ∙ ap chosen clears
                ∙ test-followed al_compared_with last number before al-told
                (test-is al_compared_with last number before told);
          }
      by false keeps told =
          let t = test-is (compared_with r) to number (last ∷ before) told in
          let more = followed-more last before (head-followed (compared_with r) to number last before t) in
          record {
            general = (compared-told r (operation_in image layout t.compare) number t.compared).general;
            again =
                ap (greatest_in image layout r to) more
                ∙ ap chosen keeps
                ∙ ap (number_before_test image layout (compared_with r) to) (sym more)
                ∙ test-followed (compared_with r) to number (last ∷ before)
                (λ found n c. (compared-told r found n c).followed) t;
          }

  -- twice that number
  record IsDoubleTold (r : Reg) (number : ℕ) (before : List ℕ) : Type 0 where
    general : is_general r ≡ true
    last : ℕ
    rest : List ℕ
    is : before ≡ last ∷ rest
    first : is_followed_in (operation_in image layout last) ≡ true
    again : greatest_doubled image layout r (followed before) ≡ Some number

  double-followed : (r : Reg) (number : ℕ) (before : List ℕ) → greatest_doubled image layout r before ≡ Some number
      → IsDoubleTold r number before
  double-followed r number [] e = cc
  double-followed r number (shift ∷ before) e = by (is_doubling r (operation_in image layout shift)) refl e
    where
      by : (b : Bool) → is_doubling r (operation_in image layout shift) ≡ b
          → (if b then greatest_in image layout r shift before else None) ≡ Some number
          → IsDoubleTold r number (shift ∷ before)
      by true doubles told =
          let t = greatest-followed r shift number before told in
          let first = doubling-told r (operation_in image layout shift) doubles t.general in
          record {
            general = t.general;
            last = shift;
            rest = before;
            is = refl;
            first = first;
            again =
                ap (greatest_doubled image layout r) (followed-more shift before first)
                ∙ ap (λ b. if b then greatest_in image layout r shift (followed before) else None) doubles
                ∙ t.again;
          }
      by false none told = cc

  -- what a trail tells of a table its followed instructions tell
  pub table-followed : (q : Reg) (number : ℕ) (before : List ℕ) → is_general q ≡ true
      → table_number image layout q before ≡ Some number
      → table_number image layout q (followed before) ≡ Some number
  table-followed q number [] general e = cc
  table-followed q number (last ∷ before) general e = by (moved_from q (operation_in image layout last)) refl e
    where
      chosen : List ℕ → Option Reg → Option ℕ
      chosen past moved = elim moved [
        | None ↦ greatest_doubled image layout q (last ∷ past)
        | Some r ↦ greatest_doubled image layout r past
      ]

      by : (moved : Option Reg) → moved_from q (operation_in image layout last) ≡ moved → chosen before moved ≡ Some number
          → table_number image layout q (followed (last ∷ before)) ≡ Some number
      by None is told =
          let t = double-followed q number (last ∷ before) told in
          let same : t.last ≡ last = let e = t.is in cc in
          let more = followed-more last before
          (subst (λ n. is_followed_in (operation_in image layout n) ≡ true) same t.first) in
          ap (table_number image layout q) more
          ∙ ap (chosen (followed before)) is
          ∙ ap (greatest_doubled image layout q) (sym more)
          ∙ t.again
      by (Some r) is told =
          let t = double-followed r number before told in
          let more = followed-more last before (moved-told q r (operation_in image layout last) is general t.general) in
          ap (table_number image layout q) more ∙ ap (chosen (followed before)) is ∙ t.again
