-- What a trail tells: AH and the number of a table, as the definition of trails has them.
use Rattle.std.proofs.Common.{◌≡◌, ◌⊎◌, inl, inr, ℕ, Bool, true, false, not, ◌&&◌, if◌then◌else◌, List, [], ◌∷◌, Option, Some, None, option_map, refl, sym, ap, ◌∙◌, subst, eq-eqb}
use Rattle.dcc_num.specs.declared.Reg.{Reg}
use Rattle.dcc_num.specs.declared.Reg.TheVariants.{Ax, Cx, Dx, Bx, Sp, Bp, Si, Di}
use Rattle.dcc_num.specs.declared.Half.TheVariants.{Low, High}
use Rattle.dcc_machine.specs.declared.image.Image.{Image}
use Rattle.dcc_prog.specs.declared.procedure.Layout.{Layout}
use Rattle.dcc_machine.specs.declared.instr.Alu.TheVariants.{Xor, Cmp}
use Rattle.dcc_machine.specs.declared.instr.Shift.TheVariants.{Shl}
use Rattle.dcc_machine.specs.declared.instr.Count.TheVariants.{One}
use Rattle.dcc_machine.specs.declared.instr.Operand.TheVariants.{Word, Byte, Const}
use Rattle.dcc_machine.specs.declared.instr.Op.{Op}
use Rattle.dcc_machine.specs.declared.instr.Op.TheVariants.{Alu as AluOp, Shift as ShiftOp, Mov, Table}
use Rattle.dcc_machine.specs.declared.instr.Instr.{Instr}
use Rattle.dcc_machine.specs.Writes.{is_same_register, writes_half}
use Rattle.dcc_machine.specs.Machine.{reg_number, is_general}
use Rattle.dcc_machine.specs.Successors.{next_of, op_successors}
use Rattle.dcc_prog.specs.Trail.{instruction_in, constant_to_ah, known_ah, ah_after, operation_in, moved_from, is_doubling, clears_upper, compared_with, al_compared_with, is_bounds_test, is_test_to, number_before_test, greatest_in, greatest_doubled, table_number, table_targets, targets_of, instr_successors, successors}
use Rattle.dcc_procs.specs.declared.table.Form.{Form}
use Rattle.dcc_procs.specs.declared.table.Form.TheVariants.{Compared, AlCompared, InRange, AlInRange, Doubled}
use Rattle.dcc_procs.specs.Known.{form_begun, continued, first_of, form_after, moved_to, index_of, index_after, number_of, told_after, told, targets_by, successors_by}

-- Registers.

pub same-register : (r q : Reg) → is_same_register r q ≡ true → r ≡ q
same-register Ax Ax e = refl
same-register Cx Cx e = refl
same-register Dx Dx e = refl
same-register Bx Bx e = refl
same-register Sp Sp e = refl
same-register Bp Bp e = refl
same-register Si Si e = refl
same-register Di Di e = refl
same-register r q e = let clash = e in cc

pub register-same : (r q : Reg) → r ≡ q → is_same_register r q ≡ true
register-same r q e = eq-eqb (reg_number r) (reg_number q) (ap reg_number e)

-- one register, or two
pub same-cases : (r q : Reg) → (r ≡ q) ⊎ ((is_same_register r q ≡ false) × (is_same_register q r ≡ false))
same-cases r q =
    elim (is_same_register r q) as
    (λ b. is_same_register r q ≡ b → (r ≡ q) ⊎ ((is_same_register r q ≡ false) × (is_same_register q r ≡ false))) [
      | true ↦ λ e. inl (same-register r q e)
      | false ↦ λ e. inr (e, turned e (is_same_register q r) refl)
    ] refl
  where
    turned : is_same_register r q ≡ false → (b : Bool) → is_same_register q r ≡ b → is_same_register q r ≡ false
    turned f false e = e
    turned f true e = let clash = sym f ∙ register-same r q (sym (same-register q r e)) in cc

same-self : (r : Reg) → is_same_register r r ≡ true
same-self r = register-same r r refl

-- Choices.

abbrev no_number : Option ℕ
no_number = None

if-none : (b : Bool) → (if b then no_number else no_number) ≡ no_number
if-none true = refl
if-none false = refl

chosen-none : (number : ℕ) (b : Bool) → b ≡ false → (if b then Some number else None) ≡ None
chosen-none number b e = ap (λ c. if c then Some number else None) e

-- a function that gives none of both gives none
if-blind :
    {X : Type 0} (tells : Option Form → Option X) (b : Bool) (form : Form) → tells (Some form) ≡ None
    → tells None ≡ None → tells (if b then Some form else None) ≡ None
if-blind tells true form e f = e
if-blind tells false form e f = f

-- What a form tells.

abbrev pub compared : Reg → Option Form → Option ℕ
compared r (Some (Compared q number)) = if is_same_register r q then Some number else None
compared r form = None

abbrev pub al_compared : Option Form → Option ℕ
al_compared (Some (AlCompared number)) = Some number
al_compared form = None

abbrev pub al_in_range : Option Form → Option ℕ
al_in_range (Some (AlInRange number)) = Some number
al_in_range form = None

abbrev pub in_range : Reg → Option Form → Option ℕ
in_range r (Some (InRange q number)) = if is_same_register r q then Some number else None
in_range r form = None

abbrev pub doubled : Reg → Option Form → Option ℕ
doubled r (Some (Doubled q number)) = if is_same_register r q then Some number else None
doubled r form = None

-- the part of a form that goes on tells none of the comparisons
compared-continued :
    (r : Reg) (op : Op) (next to : ℕ) (form : Option Form) → compared r (continued op next to form) ≡ None
compared-continued r op next to None = refl
compared-continued r op next to (Some (Compared q number)) =
    if-blind (compared r) (is_bounds_test op next to) (InRange q number) refl refl
compared-continued r op next to (Some (AlCompared number)) =
    if-blind (compared r) (is_bounds_test op next to) (AlInRange number) refl refl
compared-continued r op next to (Some (AlInRange number)) =
    if-blind (compared r) (clears_upper Ax (Some op)) (InRange Ax number) refl refl
compared-continued r op next to (Some (InRange q number)) =
    if-blind (compared r) (is_doubling q (Some op)) (Doubled q number) refl refl
compared-continued r op next to (Some (Doubled q number)) = refl

al_compared-continued : (op : Op) (next to : ℕ) (form : Option Form) → al_compared (continued op next to form) ≡ None
al_compared-continued op next to None = refl
al_compared-continued op next to (Some (Compared q number)) =
    if-blind al_compared (is_bounds_test op next to) (InRange q number) refl refl
al_compared-continued op next to (Some (AlCompared number)) =
    if-blind al_compared (is_bounds_test op next to) (AlInRange number) refl refl
al_compared-continued op next to (Some (AlInRange number)) =
    if-blind al_compared (clears_upper Ax (Some op)) (InRange Ax number) refl refl
al_compared-continued op next to (Some (InRange q number)) =
    if-blind al_compared (is_doubling q (Some op)) (Doubled q number) refl refl
al_compared-continued op next to (Some (Doubled q number)) = refl

-- a comparison begins a form, and no other operation does
compared-first :
    (r q : Reg) (number : ℕ) (other : Option Form) → compared r other ≡ None
    → compared r (first_of (if is_general q then Some (Compared q number) else None) other) ≡
    (if is_general r && is_same_register r q then Some number else None)
compared-first r q number other none = elim (same-cases r q) [
  | inl same ↦
      subst
      (λ p. compared r (first_of (if is_general p then Some (Compared p number) else None) other) ≡ (if is_general r && is_same_register r p then Some number else None))
      same (one (is_general r) (is_same_register r r) (same-self r))
  | inr apart ↦ two apart.0 (is_general q) (is_general r) (is_same_register r q) apart.0
]
  where
    one :
        (g s : Bool) → s ≡ true
        → compared r (first_of (if g then Some (Compared r number) else None) other) ≡
        (if g && s then Some number else None)
    one true true e = ap (λ b. if b then Some number else None) (same-self r)
    one true false e = let clash = e in cc
    one false s e = none

    two :
        is_same_register r q ≡ false → (g h s : Bool) → s ≡ false
        → compared r (first_of (if g then Some (Compared q number) else None) other) ≡
        (if h && s then Some number else None)
    two apart g h true f = let clash = f in cc
    two apart true true false f = chosen-none number (is_same_register r q) apart
    two apart true false false f = chosen-none number (is_same_register r q) apart
    two apart false true false f = none
    two apart false false false f = none

begun-compared :
    (r : Reg) (op : Op) (other : Option Form) → compared r other ≡ None
    → compared r (first_of (form_begun op) other) ≡ compared_with r (Some op)
begun-compared r (AluOp Cmp (Word q) (Const width number)) other none = compared-first r q number other none
begun-compared r (AluOp Cmp (Byte Ax Low) (Const width number)) other none = refl
begun-compared r op other none = none

al-first :
    (g : Bool) (q : Reg) (number : ℕ) (other : Option Form) → al_compared other ≡ None
    → al_compared (first_of (if g then Some (Compared q number) else None) other) ≡ None
al-first true q number other none = refl
al-first false q number other none = none

begun-al :
    (op : Op) (other : Option Form) → al_compared other ≡ None
    → al_compared (first_of (form_begun op) other) ≡ al_compared_with (Some op)
begun-al (AluOp Cmp (Word q) (Const width number)) other none = al-first (is_general q) q number other none
begun-al (AluOp Cmp (Byte Ax Low) (Const width number)) other none = refl
begun-al op other none = none

compared-after :
    (r : Reg) (op : Op) (next to : ℕ) (form : Option Form)
    → compared r (form_after op next to form) ≡ compared_with r (Some op)
compared-after r op next to form =
    begun-compared r op (continued op next to form) (compared-continued r op next to form)

al_compared-after :
    (op : Op) (next to : ℕ) (form : Option Form)
    → al_compared (form_after op next to form) ≡ al_compared_with (Some op)
al_compared-after op next to form = begun-al op (continued op next to form) (al_compared-continued op next to form)

-- the parts that go on

in_range-first :
    (r : Reg) (g : Bool) (q : Reg) (number : ℕ) (other : Option Form) → in_range r other ≡ None
    → in_range r (first_of (if g then Some (Compared q number) else None) other) ≡ None
in_range-first r true q number other none = refl
in_range-first r false q number other none = none

-- a bounds test
tested :
    (r q : Reg) (number : ℕ) (b : Bool)
    → in_range r (if b then Some (InRange q number) else None) ≡
    (if b then (if is_same_register r q then Some number else None) else None)
tested r q number true = refl
tested r q number false = refl

branch-range :
    (r : Reg) (op : Op) (next to : ℕ) (form : Option Form) → ((q : Reg) → is_doubling q (Some op) ≡ false)
    → clears_upper Ax (Some op) ≡ false
    → in_range r (continued op next to form) ≡ (if is_bounds_test op next to then compared r form else None)
branch-range r op next to None twice clear = sym (if-none (is_bounds_test op next to))
branch-range r op next to (Some (Compared q number)) twice clear = tested r q number (is_bounds_test op next to)
branch-range r op next to (Some (AlCompared number)) twice clear =
    if-blind (in_range r) (is_bounds_test op next to) (AlInRange number) refl refl
    ∙ sym (if-none (is_bounds_test op next to))
branch-range r op next to (Some (AlInRange number)) twice clear =
    ap (λ b. in_range r (if b then Some (InRange Ax number) else None)) clear
    ∙ sym (if-none (is_bounds_test op next to))
branch-range r op next to (Some (InRange q number)) twice clear =
    if-blind (in_range r) (is_doubling q (Some op)) (Doubled q number) refl refl
    ∙ sym (if-none (is_bounds_test op next to))
branch-range r op next to (Some (Doubled q number)) twice clear = sym (if-none (is_bounds_test op next to))

-- the greatest number that r may hold, after one instruction
abbrev pub range_by : Reg → Op → ℕ → ℕ → Option Form → Option ℕ
range_by r op next to form =
    if clears_upper r (Some op) then al_in_range form else if is_bounds_test op next to then compared r form else None

-- `xor ah,ah`
cleared :
    (r : Reg) (form : Option Form) (next to : ℕ)
    → in_range r (continued (AluOp Xor (Byte Ax High) (Byte Ax High)) next to form) ≡ range_by r
    (AluOp Xor (Byte Ax High) (Byte Ax High)) next to form
cleared Ax None next to = refl
cleared Ax (Some (Compared q number)) next to = refl
cleared Ax (Some (AlCompared number)) next to = refl
cleared Ax (Some (AlInRange number)) next to = refl
cleared Ax (Some (InRange q number)) next to = refl
cleared Ax (Some (Doubled q number)) next to = refl
cleared r None next to = refl
cleared r (Some (Compared q number)) next to = refl
cleared r (Some (AlCompared number)) next to = refl
cleared r (Some (AlInRange number)) next to = refl
cleared r (Some (InRange q number)) next to = refl
cleared r (Some (Doubled q number)) next to = refl

-- `shl q,1`
shifted :
    (r x : Reg) (form : Option Form) (next to : ℕ)
    → in_range r (continued (ShiftOp Shl (Word x) One) next to form) ≡ None
shifted r x None next to = refl
shifted r x (Some (Compared q number)) next to = refl
shifted r x (Some (AlCompared number)) next to = refl
shifted r x (Some (AlInRange number)) next to = refl
shifted r x (Some (InRange q number)) next to =
    if-blind (in_range r) (is_same_register q x) (Doubled q number) refl refl
shifted r x (Some (Doubled q number)) next to = refl

unclear : (r : Reg) (op : Op) → clears_upper Ax (Some op) ≡ false → clears_upper r (Some op) ≡ false
unclear Ax op e = e
unclear r op e = refl

range-plain :
    (r : Reg) (op : Op) (next to : ℕ) (form : Option Form) → clears_upper Ax (Some op) ≡ false
    → range_by r op next to form ≡ (if is_bounds_test op next to then compared r form else None)
range-plain r op next to form e =
    ap (λ b. if b then al_in_range form else if is_bounds_test op next to then compared r form else None)
    (unclear r op e)

other-range :
    (r : Reg) (op : Op) (next to : ℕ) (form : Option Form) → ((q : Reg) → is_doubling q (Some op) ≡ false)
    → clears_upper Ax (Some op) ≡ false → in_range r (continued op next to form) ≡ range_by r op next to form
other-range r op next to form twice clear =
    branch-range r op next to form twice clear ∙ sym (range-plain r op next to form clear)

-- an operation that tests nothing leaves nothing in range
untested :
    (r : Reg) (op : Op) (next to : ℕ) (form : Option Form) → is_bounds_test op next to ≡ false
    → clears_upper Ax (Some op) ≡ false → range_by r op next to form ≡ None
untested r op next to form test clear =
    range-plain r op next to form clear ∙ ap (λ b. if b then compared r form else None) test

pub in_range-after :
    (r : Reg) (op : Op) (next to : ℕ) (form : Option Form)
    → in_range r (form_after op next to form) ≡ range_by r op next to form
in_range-after r (AluOp Xor (Byte Ax High) (Byte Ax High)) next to form = cleared r form next to
in_range-after r (AluOp Cmp (Word q) (Const width number)) next to form =
    let op = AluOp Cmp (Word q) (Const width number) in
    let none = untested r op next to form refl refl in
    in_range-first r (is_general q) q number (continued op next to form)
    (other-range r op next to form (λ p. refl) refl ∙ none)
    ∙ sym none
in_range-after r (AluOp Cmp (Byte Ax Low) (Const width number)) next to form =
    sym (untested r (AluOp Cmp (Byte Ax Low) (Const width number)) next to form refl refl)
in_range-after r (ShiftOp Shl (Word x) One) next to form =
    shifted r x form next to ∙ sym (untested r (ShiftOp Shl (Word x) One) next to form refl refl)
in_range-after r op next to form = other-range r op next to form (λ q. refl) refl

-- AL, after one instruction
al_tested :
    (op : Op) (next to : ℕ) (form : Option Form)
    → al_in_range (continued op next to form) ≡ (if is_bounds_test op next to then al_compared form else None)
al_tested op next to None = sym (if-none (is_bounds_test op next to))
al_tested op next to (Some (Compared q number)) =
    if-blind al_in_range (is_bounds_test op next to) (InRange q number) refl refl
    ∙ sym (if-none (is_bounds_test op next to))
al_tested op next to (Some (AlCompared number)) = al-chosen number (is_bounds_test op next to)
  where
    al-chosen :
        (number : ℕ) (b : Bool)
        → al_in_range (if b then Some (AlInRange number) else None) ≡ (if b then Some number else None)
    al-chosen number true = refl
    al-chosen number false = refl
al_tested op next to (Some (AlInRange number)) =
    if-blind al_in_range (clears_upper Ax (Some op)) (InRange Ax number) refl refl
    ∙ sym (if-none (is_bounds_test op next to))
al_tested op next to (Some (InRange q number)) =
    if-blind al_in_range (is_doubling q (Some op)) (Doubled q number) refl refl
    ∙ sym (if-none (is_bounds_test op next to))
al_tested op next to (Some (Doubled q number)) = sym (if-none (is_bounds_test op next to))

al-begun :
    (g : Bool) (q : Reg) (number : ℕ) (other : Option Form) → al_in_range other ≡ None
    → al_in_range (first_of (if g then Some (Compared q number) else None) other) ≡ None
al-begun true q number other none = refl
al-begun false q number other none = none

pub al_in_range-after :
    (op : Op) (next to : ℕ) (form : Option Form)
    → al_in_range (form_after op next to form) ≡ (if is_bounds_test op next to then al_compared form else None)
al_in_range-after (AluOp Cmp (Word q) (Const width number)) next to form =
    let op = AluOp Cmp (Word q) (Const width number) in
    al-begun (is_general q) q number (continued op next to form) (al_tested op next to form)
al_in_range-after (AluOp Cmp (Byte Ax Low) (Const width number)) next to form = refl
al_in_range-after op next to form = al_tested op next to form

-- `shl r,1`
doubled-self :
    (r x : Reg) (number : ℕ)
    → doubled r (if is_same_register r x then Some (Doubled r number) else None) ≡
    (if is_same_register r x then Some number else None)
doubled-self r x number = step (is_same_register r x)
  where
    step : (b : Bool) → doubled r (if b then Some (Doubled r number) else None) ≡ (if b then Some number else None)
    step true = ap (λ b. if b then Some number else None) (same-self r)
    step false = refl

doubled-range :
    (r q x : Reg) (number : ℕ)
    → doubled r (if is_same_register q x then Some (Doubled q number) else None) ≡
    (if is_same_register r x then (if is_same_register r q then Some number else None) else None)
doubled-range r q x number = elim (same-cases r q) [
  | inl same ↦
      subst
      (λ p. doubled r (if is_same_register p x then Some (Doubled p number) else None) ≡ (if is_same_register r x then (if is_same_register r p then Some number else None) else None))
      same
      (doubled-self r x number ∙ ap (λ b. if is_same_register r x then (if b then Some number else None) else None) (sym (same-self r)))
  | inr apart ↦
      if-doubled (is_same_register q x) apart.0
      ∙ sym
      (ap (λ b. if is_same_register r x then (if b then Some number else None) else None) apart.0 ∙ if-none (is_same_register r x))
]
  where
    if-doubled :
        (b : Bool) → is_same_register r q ≡ false → doubled r (if b then Some (Doubled q number) else None) ≡ None
    if-doubled true e = chosen-none number (is_same_register r q) e
    if-doubled false e = refl

doubled-shifted :
    (r x : Reg) (next to : ℕ) (form : Option Form)
    → doubled r (continued (ShiftOp Shl (Word x) One) next to form) ≡
    (if is_same_register r x then in_range r form else None)
doubled-shifted r x next to None = sym (if-none (is_same_register r x))
doubled-shifted r x next to (Some (Compared q number)) = sym (if-none (is_same_register r x))
doubled-shifted r x next to (Some (AlCompared number)) = sym (if-none (is_same_register r x))
doubled-shifted r x next to (Some (AlInRange number)) = sym (if-none (is_same_register r x))
doubled-shifted r x next to (Some (InRange q number)) = doubled-range r q x number
doubled-shifted r x next to (Some (Doubled q number)) = sym (if-none (is_same_register r x))

not-doubled :
    (r : Reg) (op : Op) (next to : ℕ) (form : Option Form) → ((q : Reg) → is_doubling q (Some op) ≡ false)
    → doubled r (continued op next to form) ≡ None
not-doubled r op next to None twice = refl
not-doubled r op next to (Some (Compared q number)) twice =
    if-blind (doubled r) (is_bounds_test op next to) (InRange q number) refl refl
not-doubled r op next to (Some (AlCompared number)) twice =
    if-blind (doubled r) (is_bounds_test op next to) (AlInRange number) refl refl
not-doubled r op next to (Some (AlInRange number)) twice =
    if-blind (doubled r) (clears_upper Ax (Some op)) (InRange Ax number) refl refl
not-doubled r op next to (Some (InRange q number)) twice =
    ap (λ b. doubled r (if b then Some (Doubled q number) else None)) (twice q)
not-doubled r op next to (Some (Doubled q number)) twice = refl

doubled-begun :
    (r : Reg) (g : Bool) (q : Reg) (number : ℕ) (other : Option Form) → doubled r other ≡ None
    → doubled r (first_of (if g then Some (Compared q number) else None) other) ≡ None
doubled-begun r true q number other none = refl
doubled-begun r false q number other none = none

pub doubled-after :
    (r : Reg) (op : Op) (next to : ℕ) (form : Option Form)
    → doubled r (form_after op next to form) ≡ (if is_doubling r (Some op) then in_range r form else None)
doubled-after r (AluOp Cmp (Word q) (Const width number)) next to form =
    let op = AluOp Cmp (Word q) (Const width number) in
    doubled-begun r (is_general q) q number (continued op next to form) (not-doubled r op next to form (λ p. refl))
doubled-after r (AluOp Cmp (Byte Ax Low) (Const width number)) next to form = refl
doubled-after r (ShiftOp Shl (Word x) One) next to form = doubled-shifted r x next to form
doubled-after r op next to form = not-doubled r op next to form (λ q. refl)

-- the number of a table, after one instruction
abbrev pub number_by : Reg → Option Op → Option Form → Option ℕ
number_by q op form = elim (moved_from q op) [
  | None ↦ if is_doubling q op then in_range q form else None
  | Some r ↦ doubled r form
]

-- of `shl x,1`
number-doubled :
    (q p x : Reg) (number : ℕ)
    → number_of q (if is_same_register p x then Some (index_of number p) else None) ≡
    (if is_same_register q x then (if is_same_register q p then Some number else None) else None)
number-doubled q p x number = elim (same-cases q p) [
  | inl same ↦
      subst
      (λ r. number_of q (if is_same_register r x then Some (index_of number r) else None) ≡ (if is_same_register q x then (if is_same_register q r then Some number else None) else None))
      same (self (is_same_register q x))
  | inr apart ↦
      none (is_same_register p x) apart.1
      ∙ sym
      (ap (λ b. if is_same_register q x then (if b then Some number else None) else None) apart.0 ∙ if-none (is_same_register q x))
]
  where
    self :
        (b : Bool)
        → number_of q (if b then Some (index_of number q) else None) ≡
        (if b then (if is_same_register q q then Some number else None) else None)
    self true = refl
    self false = refl

    none : (b : Bool) → is_same_register p q ≡ false → number_of q (if b then Some (index_of number p) else None) ≡ None
    none true e = chosen-none number (is_same_register p q) e
    none false e = refl

number-shifted :
    (q x : Reg) (form : Option Form)
    → number_of q (index_after (ShiftOp Shl (Word x) One) form) ≡
    (if is_same_register q x then in_range q form else None)
number-shifted q x None = sym (if-none (is_same_register q x))
number-shifted q x (Some (Compared p number)) = sym (if-none (is_same_register q x))
number-shifted q x (Some (AlCompared number)) = sym (if-none (is_same_register q x))
number-shifted q x (Some (AlInRange number)) = sym (if-none (is_same_register q x))
number-shifted q x (Some (InRange p number)) = number-doubled q p x number
number-shifted q x (Some (Doubled p number)) = sym (if-none (is_same_register q x))

-- of `mov y,x`
abbrev number_moved : Reg → Reg → Reg → Option Form → Option ℕ
number_moved q y x form = elim (if is_same_register q y && not (is_same_register q x) then Some x else None) [
  | None ↦ None
  | Some r ↦ doubled r form
]

moved-blind : (q y x : Reg) (form : Option Form) → ((r : Reg) → doubled r form ≡ None) → number_moved q y x form ≡ None
moved-blind q y x form none = step (is_same_register q y && not (is_same_register q x))
  where
    step :
        (b : Bool)
        → elim (if b then Some x else None) as (λ (o : Option Reg). Option ℕ)
        [ None ↦ None | Some r ↦ doubled r form ] ≡ None
    step true = none x
    step false = refl

abbrev told_moved : Reg → Reg → Bool → Bool → ℕ → Option ℕ
told_moved q y a b number = number_of q (option_map (index_of number) (if a && not b then Some y else None))

abbrev moved_told : Reg → Reg → Bool → Bool → ℕ → Option ℕ
moved_told x p c b number =
    elim (if c && not b then Some x else None) as (λ (o : Option Reg). Option ℕ)
    [ None ↦ None | Some r ↦ doubled r (Some (Doubled p number)) ]

copied-self :
    (q x : Reg) (number : ℕ) (a c b : Bool) → a ≡ true → c ≡ true
    → told_moved q q a b number ≡ moved_told x x c b number
copied-self q x number false c b e f = let clash = e in cc
copied-self q x number true false b e f = let clash = f in cc
copied-self q x number true true true e f = refl
copied-self q x number true true false e f =
    ap (λ b. if b then Some number else None) (same-self q)
    ∙ sym (ap (λ b. if b then Some number else None) (same-self x))

copied-other :
    (q x p : Reg) (number : ℕ) (a c b : Bool) → a ≡ false → is_same_register x p ≡ false
    → told_moved q q a b number ≡ moved_told x p c b number
copied-other q x p number true c b e f = let clash = e in cc
copied-other q x p number false false b e f = refl
copied-other q x p number false true true e f = refl
copied-other q x p number false true false e f = sym (chosen-none number (is_same_register x p) f)

number-copied :
    (q x p : Reg) (number : ℕ)
    → told_moved q q (is_same_register p x) (is_same_register q x) number ≡ moved_told x p (is_same_register q q)
    (is_same_register q x) number
number-copied q x p number = elim (same-cases p x) [
  | inl same ↦
      subst
      (λ r. told_moved q q (is_same_register r x) (is_same_register q x) number ≡ moved_told x r (is_same_register q q) (is_same_register q x) number)
      (sym same)
      (copied-self q x number (is_same_register x x) (is_same_register q q) (is_same_register q x) (same-self x) (same-self q))
  | inr apart ↦
      copied-other q x p number (is_same_register p x) (is_same_register q q) (is_same_register q x) apart.0 apart.1
]

moved-apart :
    (q y x p : Reg) (number : ℕ) (a c b d : Bool) → is_same_register y q ≡ false → c ≡ false
    → told_moved q y a d number ≡ moved_told x p c b number
moved-apart q y x p number a true b d e f = let clash = f in cc
moved-apart q y x p number false false b d e f = refl
moved-apart q y x p number true false b true e f = refl
moved-apart q y x p number true false b false e f = chosen-none number (is_same_register y q) e

number-moved :
    (q y x : Reg) (form : Option Form)
    → number_of q (index_after (Mov (Word y) (Word x)) form) ≡ number_moved q y x form
number-moved q y x None = sym (moved-blind q y x None (λ r. refl))
number-moved q y x (Some (Compared p number)) = sym (moved-blind q y x (Some (Compared p number)) (λ r. refl))
number-moved q y x (Some (AlCompared number)) = sym (moved-blind q y x (Some (AlCompared number)) (λ r. refl))
number-moved q y x (Some (AlInRange number)) = sym (moved-blind q y x (Some (AlInRange number)) (λ r. refl))
number-moved q y x (Some (InRange p number)) = sym (moved-blind q y x (Some (InRange p number)) (λ r. refl))
number-moved q y x (Some (Doubled p number)) = elim (same-cases q y) [
  | inl same ↦
      subst
      (λ r. told_moved q r (is_same_register p x) (is_same_register r x) number ≡ moved_told x p (is_same_register q r) (is_same_register q x) number)
      same (number-copied q x p number)
  | inr apart ↦
      moved-apart q y x p number (is_same_register p x) (is_same_register q y) (is_same_register q x)
      (is_same_register y x) apart.1 apart.0
]

not-moved :
    (q : Reg) (op : Op) (form : Option Form) → ((r : Reg) → is_doubling r (Some op) ≡ false)
    → ((r : Reg) → moved_to r op ≡ None) → number_of q (index_after op form) ≡ None
not-moved q op None twice moves = refl
not-moved q op (Some (Compared p number)) twice moves = refl
not-moved q op (Some (AlCompared number)) twice moves = refl
not-moved q op (Some (AlInRange number)) twice moves = refl
not-moved q op (Some (InRange p number)) twice moves =
    ap (λ b. number_of q (if b then Some (index_of number p) else None)) (twice p)
not-moved q op (Some (Doubled p number)) twice moves = ap (λ o. number_of q (option_map (index_of number) o)) (moves p)

pub number-after :
    (q : Reg) (op : Op) (form : Option Form) → number_of q (index_after op form) ≡ number_by q (Some op) form
number-after q (ShiftOp Shl (Word x) One) form = number-shifted q x form
number-after q (Mov (Word y) (Word x)) form = number-moved q y x form
number-after q op form = not-moved q op form (λ r. refl) (λ r. refl)

-- Trails.

unclear-none : (r : Reg) (a : Option ℕ) → (if clears_upper r None then a else None) ≡ None
unclear-none Ax a = refl
unclear-none r a = refl

pub told-ah :
    (image : Image) (layout : Layout) (to : ℕ) (before : List ℕ)
    → (told image layout to before).ah ≡ known_ah image layout before
told-ah image layout to [] = refl
told-ah image layout to (at ∷ before) = step (told-ah image layout at before) (instruction_in image layout at)
  where
    step :
        (told image layout at before).ah ≡ known_ah image layout before → (found : Option Instr)
        → (told_after at found to (told image layout at before)).ah ≡ ah_after found (known_ah image layout before)
    step same None = same
    step same (Some instr) = ap (λ ah. if writes_half instr.op Ax High then constant_to_ah instr.op else ah) same

module _ (image : Image) (layout : Layout) where
  form_told : ℕ → List ℕ → Option Form
  form_told to before = (told image layout to before).form

  told-compared :
      (r : Reg) (to at : ℕ) (before : List ℕ)
      → compared r (told image layout to (at ∷ before)).form ≡ compared_with r (operation_in image layout at)
  told-compared r to at before = step (instruction_in image layout at)
    where
      step :
          (found : Option Instr)
          → compared r (told_after at found to (told image layout at before)).form ≡ compared_with r
          (option_map (λ instr. instr.op) found)
      step None = refl
      step (Some instr) = compared-after r instr.op (next_of at instr) to (told image layout at before).form

  told-al_compared :
      (to at : ℕ) (before : List ℕ)
      → al_compared (told image layout to (at ∷ before)).form ≡ al_compared_with (operation_in image layout at)
  told-al_compared to at before = step (instruction_in image layout at)
    where
      step :
          (found : Option Instr)
          → al_compared (told_after at found to (told image layout at before)).form ≡ al_compared_with
          (option_map (λ instr. instr.op) found)
      step None = refl
      step (Some instr) = al_compared-after instr.op (next_of at instr) to (told image layout at before).form

  -- a bounds test and what stands before it
  tested-number :
      (r : Reg) (to at : ℕ) (before : List ℕ)
      → number_before_test image layout (compared_with r) to (at ∷ before) ≡
      (if is_test_to (instruction_in image layout at) at to then compared r (told image layout at before).form else None)
  tested-number r to at [] = sym (if-none (is_test_to (instruction_in image layout at) at to))
  tested-number r to at (last ∷ rest) =
      sym
      (ap (λ number. if is_test_to (instruction_in image layout at) at to then number else None) (told-compared r at last rest))

  tested-al :
      (to at : ℕ) (before : List ℕ)
      → number_before_test image layout al_compared_with to (at ∷ before) ≡
      (if is_test_to (instruction_in image layout at) at to then al_compared (told image layout at before).form else None)
  tested-al to at [] = sym (if-none (is_test_to (instruction_in image layout at) at to))
  tested-al to at (last ∷ rest) =
      sym
      (ap (λ number. if is_test_to (instruction_in image layout at) at to then number else None) (told-al_compared at last rest))

  al-before :
      (to : ℕ) (before : List ℕ)
      → al_in_range (told image layout to before).form ≡ number_before_test image layout al_compared_with to before
  al-before to [] = refl
  al-before to (at ∷ before) = step (instruction_in image layout at) ∙ sym (tested-al to at before)
    where
      step :
          (found : Option Instr)
          → al_in_range (told_after at found to (told image layout at before)).form ≡
          (if is_test_to found at to then al_compared (told image layout at before).form else None)
      step None = refl
      step (Some instr) = al_in_range-after instr.op (next_of at instr) to (told image layout at before).form

  told-range :
      (r : Reg) (to : ℕ) (before : List ℕ)
      → in_range r (told image layout to before).form ≡ greatest_in image layout r to before
  told-range r to [] = refl
  told-range r to (at ∷ before) =
      step (instruction_in image layout at)
      ∙ ap
      (λ number. if clears_upper r (operation_in image layout at) then number else if is_test_to (instruction_in image layout at) at to then compared r (told image layout at before).form else None)
      (al-before at before)
      ∙ ap
      (λ number. if clears_upper r (operation_in image layout at) then number_before_test image layout al_compared_with at before else number)
      (sym (tested-number r to at before))
    where
      step :
          (found : Option Instr)
          → in_range r (told_after at found to (told image layout at before)).form ≡
          (if clears_upper r (option_map (λ instr. instr.op) found) then al_in_range (told image layout at before).form else if is_test_to found at to then compared r (told image layout at before).form else None)
      step None = sym (unclear-none r (al_in_range (told image layout at before).form))
      step (Some instr) = in_range-after r instr.op (next_of at instr) to (told image layout at before).form

  told-doubled :
      (r : Reg) (to : ℕ) (before : List ℕ)
      → doubled r (told image layout to before).form ≡ greatest_doubled image layout r before
  told-doubled r to [] = refl
  told-doubled r to (at ∷ before) =
      step (instruction_in image layout at)
      ∙ ap (λ number. if is_doubling r (operation_in image layout at) then number else None) (told-range r at before)
    where
      step :
          (found : Option Instr)
          → doubled r (told_after at found to (told image layout at before)).form ≡
          (if is_doubling r (option_map (λ instr. instr.op) found) then in_range r (told image layout at before).form else None)
      step None = refl
      step (Some instr) = doubled-after r instr.op (next_of at instr) to (told image layout at before).form

  -- the number of a table
  pub told-number :
      (q : Reg) (to : ℕ) (before : List ℕ)
      → number_of q (told image layout to before).index ≡ table_number image layout q before
  told-number q to [] = refl
  told-number q to (at ∷ before) =
      step (instruction_in image layout at) ∙ choices (moved_from q (operation_in image layout at))
    where
      step :
          (found : Option Instr)
          → number_of q (told_after at found to (told image layout at before)).index ≡ number_by q
          (option_map (λ instr. instr.op) found) (told image layout at before).form
      step None = refl
      step (Some instr) = number-after q instr.op (told image layout at before).form

      choices : (moved : Option Reg) → (elim moved as (λ (o : Option Reg). Option ℕ) [
        | None ↦
            if is_doubling q (operation_in image layout at) then in_range q (told image layout at before).form else
            None
        | Some r ↦ doubled r (told image layout at before).form
      ]) ≡ (elim moved as (λ (o : Option Reg). Option ℕ) [
        | None ↦ greatest_doubled image layout q (at ∷ before)
        | Some r ↦ greatest_doubled image layout r before
      ])
      choices None =
          ap (λ number. if is_doubling q (operation_in image layout at) then number else None)
          (told-range q at before)
      choices (Some r) = told-doubled r at before

  -- where a trail goes on
  targets-told :
      (to : ℕ) (op : Op) (before : List ℕ)
      → targets_by image op (told image layout to before) ≡ targets_of image layout op before
  targets-told to (Table r offset) before = ap (table_targets image offset) (told-number r to before)
  targets-told to op before = refl

  pub trail-successors :
      (at : ℕ) (before : List ℕ) (instr : Instr) → instruction_in image layout at ≡ Some instr
      → successors image layout (at ∷ before) ≡ successors_by image at instr (told image layout at before)
  trail-successors at before instr found =
      ap (instr_successors image layout at before) found
      ∙ ap (λ ah. op_successors instr.op (next_of at instr) ah (targets_of image layout instr.op before))
      (sym (told-ah image layout at before))
      ∙ ap (op_successors instr.op (next_of at instr) (told image layout at before).ah)
      (sym (targets-told at instr.op before))
