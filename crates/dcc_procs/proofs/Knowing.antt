-- What is known in common, and how it changes along trails.
use Rattle.std.proofs.Common.{◌≡◌, ◌≢◌, ◌⊎◌, inl, inr, ℕ, ◌≤◌, ◌==◌, nat_eq, Bool, true, false, not, ◌&&◌, if◌then◌else◌, Option, Some, None, option_map, refl, sym, ap, ◌∙◌, subst, arith, eq-eqb, eqb-true}
use Rattle.dcc_num.specs.declared.Reg.{Reg}
use Rattle.dcc_num.specs.declared.Reg.TheVariants.{Ax}
use Rattle.dcc_num.specs.declared.Half.TheVariants.{High}
use Rattle.dcc_machine.specs.declared.instr.Operand.TheVariants.{Word}
use Rattle.dcc_machine.specs.declared.instr.Op.{Op}
use Rattle.dcc_machine.specs.declared.instr.Op.TheVariants.{Mov, Branch}
use Rattle.dcc_machine.specs.declared.instr.Instr.{Instr}
use Rattle.dcc_machine.specs.Writes.{is_same_register, writes_half}
use Rattle.dcc_machine.specs.Successors.{next_of}
use Rattle.dcc_prog.specs.Trail.{constant_to_ah, is_doubling, clears_upper, is_bounds_test}
use Rattle.dcc_procs.specs.declared.known.Known.{Known}
use Rattle.dcc_procs.specs.declared.table.Form.{Form}
use Rattle.dcc_procs.specs.declared.table.Form.TheVariants.{Compared, AlCompared, InRange, AlInRange, Doubled}
use Rattle.dcc_procs.specs.declared.table.Index.{Index}
use Rattle.dcc_procs.specs.Known.{is_same_form, is_same_index, form_begun, form_continued, continued, first_of, form_after, moved_to, index_of, index_after, known_after, told, common_of, common}
use Rattle.dcc_procs.specs.Search.{Covers, one_if_some, told_count}
use Rattle.dcc_procs.proofs.Telling.{same-register, register-same}

-- Steps.

-- the function of what is known either is constant, or gives one value of one alone, and none of none
pub record IsStep {A B : Type 0} (f : Option A → Option B) : Type 0 where
  pub constant : (v : B) → f None ≡ Some v → (x : Option A) → f x ≡ Some v
  pub single :
      f None ≡ None → (v : B) (x y : Option A) → f x ≡ Some v → f y ≡ Some v → (u : A) × (x ≡ Some u) × (y ≡ Some u)

-- one value of one alone, by the value from which it came
from-inverse :
    {A B : Type 0} (f : Option A → Option B) (back : B → A) → f None ≡ None
    → ((u : A) (v : B) → f (Some u) ≡ Some v → u ≡ back v) → IsStep f
from-inverse {A} {B} f back none inverse = record {
  constant = λ v e x. let clash = sym none ∙ e in cc;
  single = λ n v x y e g. (back v, one x v e, one y v g);
}
  where
    one : (x : Option A) (v : B) → f x ≡ Some v → x ≡ Some (back v)
    one None v e = let clash = sym none ∙ e in cc
    one (Some u) v e = ap Some (inverse u v e)

pub step-ah : (w : Bool) (c : Option ℕ) → IsStep (λ (a : Option ℕ). if w then c else a)
step-ah true c = record {
  constant = λ v e x. e;
  single = λ n v x y e g. let clash = sym n ∙ e in cc;
}
step-ah false c = record {
  constant = λ v e x. let clash = e in cc;
  single = λ n v x y e g. (v, e, g);
}

test-unclear : (op : Op) (next to : ℕ) → is_bounds_test op next to ≡ true → clears_upper Ax (Some op) ≡ false
test-unclear (Branch condition target) next to e = refl
test-unclear op next to e = let clash = e in cc

-- the form from which another one goes on
abbrev came_from : Op → Form → Form
came_from op (InRange r number) = if clears_upper Ax (Some op) then AlInRange number else Compared r number
came_from op (AlInRange number) = AlCompared number
came_from op (Doubled r number) = InRange r number
came_from op form = form

form-inverse :
    (op : Op) (next to : ℕ) (form after : Form) → form_continued op next to form ≡ Some after
    → form ≡ came_from op after
form-inverse op next to (Compared r number) after e =
    step (is_bounds_test op next to) refl e
  where
    step :
        (b : Bool) → is_bounds_test op next to ≡ b → (if b then Some (InRange r number) else None) ≡ Some after
        → Compared r number ≡ came_from op after
    step true t is =
        let same : InRange r number ≡ after = cc in
        subst (λ f. Compared r number ≡ came_from op f) same
        (sym (ap (λ b. if b then AlInRange number else Compared r number) (test-unclear op next to t)))
    step false t is = let clash = is in cc
form-inverse op next to (AlCompared number) after e = step (is_bounds_test op next to) e
  where
    step :
        (b : Bool) → (if b then Some (AlInRange number) else None) ≡ Some after
        → AlCompared number ≡ came_from op after
    step true is = let same : AlInRange number ≡ after = cc in subst (λ f. AlCompared number ≡ came_from op f) same refl
    step false is = let clash = is in cc
form-inverse op next to (AlInRange number) after e = step (clears_upper Ax (Some op)) refl e
  where
    step :
        (b : Bool) → clears_upper Ax (Some op) ≡ b → (if b then Some (InRange Ax number) else None) ≡ Some after
        → AlInRange number ≡ came_from op after
    step true t is =
        let same : InRange Ax number ≡ after = cc in
        subst (λ f. AlInRange number ≡ came_from op f) same
        (sym (ap (λ b. if b then AlInRange number else Compared Ax number) t))
    step false t is = let clash = is in cc
form-inverse op next to (InRange r number) after e = step (is_doubling r (Some op)) e
  where
    step :
        (b : Bool) → (if b then Some (Doubled r number) else None) ≡ Some after
        → InRange r number ≡ came_from op after
    step true is = let same : Doubled r number ≡ after = cc in subst (λ f. InRange r number ≡ came_from op f) same refl
    step false is = let clash = is in cc
form-inverse op next to (Doubled r number) after e = let clash = e in cc

pub step-form : (op : Op) (next to : ℕ) → IsStep (form_after op next to)
step-form op next to = by (form_begun op)
  where
    by : (begun : Option Form) → IsStep (λ form. first_of begun (continued op next to form))
    by (Some form) = record {
      constant = λ v e x. e;
      single = λ n v x y e g. let clash = n in cc;
    }
    by None =
        from-inverse (λ form. continued op next to form) (came_from op) refl
        (λ form after e. form-inverse op next to form after e)

-- the form that leaves an index
abbrev before_index : Op → Index → Form
before_index (Mov (Word q) (Word p)) index = Doubled p index.number
before_index op index = InRange index.register index.number

doubling-index :
    (op : Op) (r : Reg) (number : ℕ) → is_doubling r (Some op) ≡ true
    → InRange r number ≡ before_index op (index_of number r)
doubling-index (Mov (Word q) (Word p)) r number e = let clash = e in cc
doubling-index op r number e = refl

moving-index :
    (op : Op) (r q : Reg) (number : ℕ) → moved_to r op ≡ Some q
    → Doubled r number ≡ before_index op (index_of number q)
moving-index (Mov (Word y) (Word p)) r q number e = step (is_same_register r p) (not (is_same_register y p)) refl e
  where
    step :
        (a b : Bool) → is_same_register r p ≡ a → (if a && b then Some y else None) ≡ Some q
        → Doubled r number ≡ Doubled p number
    step true b t is = ap (λ (x : Reg). Doubled x number) (same-register r p t)
    step false b t is = let clash = is in cc
moving-index op r q number e = let clash = e in cc

index-inverse :
    (op : Op) (form : Form) (index : Index) → index_after op (Some form) ≡ Some index → form ≡ before_index op index
index-inverse op (Compared r number) index e = let clash = e in cc
index-inverse op (AlCompared number) index e = let clash = e in cc
index-inverse op (AlInRange number) index e = let clash = e in cc
index-inverse op (InRange r number) index e = step (is_doubling r (Some op)) refl e
  where
    step :
        (b : Bool) → is_doubling r (Some op) ≡ b → (if b then Some (index_of number r) else None) ≡ Some index
        → InRange r number ≡ before_index op index
    step true t is =
        let same : index_of number r ≡ index = cc in subst (λ i. InRange r number ≡ before_index op i) same
        (doubling-index op r number t)
    step false t is = let clash = is in cc
index-inverse op (Doubled r number) index e = step (moved_to r op) refl e
  where
    step :
        (moved : Option Reg) → moved_to r op ≡ moved → option_map (index_of number) moved ≡ Some index
        → Doubled r number ≡ before_index op index
    step None t is = let clash = is in cc
    step (Some q) t is =
        let same : index_of number q ≡ index = cc in subst (λ i. Doubled r number ≡ before_index op i) same
        (moving-index op r q number t)

pub step-index : (op : Op) → IsStep (index_after op)
step-index op = from-inverse (index_after op) (before_index op) refl (λ form index e. index-inverse op form index e)

-- After an instruction.

covers-step :
    {A B : Type 0} (f : Option A → Option B) → IsStep f → (x y : Option A) → ((u : A) → x ≡ Some u → y ≡ Some u)
    → (v : B) → f x ≡ Some v → f y ≡ Some v
covers-step f step None y covers v e = step.constant v e y
covers-step f step (Some u) y covers v e = ap f (covers u refl) ∙ e

pub covers-after :
    (at : ℕ) (instr : Instr) (to : ℕ) (known told : Known) → Covers known told
    → Covers (known_after at instr to known) (known_after at instr to told)
covers-after at instr to known told c = record {
  ah =
      covers-step (λ (a : Option ℕ). if writes_half instr.op Ax High then constant_to_ah instr.op else a)
      (step-ah (writes_half instr.op Ax High) (constant_to_ah instr.op)) known.ah told.ah c.ah;
  form =
      covers-step (form_after instr.op (next_of at instr) to) (step-form instr.op (next_of at instr) to) known.form
      told.form c.form;
  index = covers-step (index_after instr.op) (step-index instr.op) known.form told.form c.form;
  from = λ n e. e;
}

-- Two values in common.

-- the test tells whether two values are one
pub record IsTest {A : Type 0} (same : A → A → Bool) : Type 0 where
  pub sound : (a b : A) → same a b ≡ true → a ≡ b
  pub whole : (a : A) → same a a ≡ true

and-left : (a b : Bool) → (a && b) ≡ true → a ≡ true
and-left true b e = refl
and-left false b e = e

and-right : (a b : Bool) → (a && b) ≡ true → b ≡ true
and-right true b e = e
and-right false b e = let clash = e in cc

and-both : (a b : Bool) → a ≡ true → b ≡ true → (a && b) ≡ true
and-both true b e f = f
and-both false b e f = e

pub test-number : IsTest nat_eq
test-number = record { sound = λ a b e. eqb-true a b e; whole = λ a. eq-eqb a a refl }

same-pair : (r q : Reg) (n m : ℕ) → (is_same_register r q && n == m) ≡ true → (r ≡ q) × (n ≡ m)
same-pair r q n m e =
    (same-register r q (and-left (is_same_register r q) (n == m) e), eqb-true n m (and-right (is_same_register r q) (n == m) e))

pair-same : (r : Reg) (n : ℕ) → (is_same_register r r && n == n) ≡ true
pair-same r n = and-both (is_same_register r r) (n == n) (register-same r r refl) (eq-eqb n n refl)

same-form : (f g : Form) → is_same_form f g ≡ true → f ≡ g
same-form (Compared r n) (Compared q m) e =
    let s = same-pair r q n m e in ap (λ (x : Reg). Compared x n) s.0 ∙ ap (λ (x : ℕ). Compared q x) s.1
same-form (InRange r n) (InRange q m) e =
    let s = same-pair r q n m e in ap (λ (x : Reg). InRange x n) s.0 ∙ ap (λ (x : ℕ). InRange q x) s.1
same-form (Doubled r n) (Doubled q m) e =
    let s = same-pair r q n m e in ap (λ (x : Reg). Doubled x n) s.0 ∙ ap (λ (x : ℕ). Doubled q x) s.1
same-form (AlCompared n) (AlCompared m) e = ap (λ (x : ℕ). AlCompared x) (eqb-true n m e)
same-form (AlInRange n) (AlInRange m) e = ap (λ (x : ℕ). AlInRange x) (eqb-true n m e)
same-form f g e = let clash = e in cc

form-same : (f : Form) → is_same_form f f ≡ true
form-same (Compared r n) = pair-same r n
form-same (InRange r n) = pair-same r n
form-same (Doubled r n) = pair-same r n
form-same (AlCompared n) = eq-eqb n n refl
form-same (AlInRange n) = eq-eqb n n refl

pub test-form : IsTest is_same_form
test-form = record { sound = same-form; whole = form-same }

pub test-index : IsTest is_same_index
test-index = record {
  sound =
      λ a b e. let s = same-pair a.register b.register a.number b.number e in ap (index_of a.number) s.0
      ∙ ap (λ n. index_of n b.register) s.1;
  whole = λ a. pair-same a.register a.number;
}

module _ {A : Type 0} (same : A → A → Bool) (test : IsTest same) where
  common-some : (a b : Option A) (x : A) → common_of same a b ≡ Some x → (a ≡ Some x) × (b ≡ Some x)
  common-some None b x e = let clash = e in cc
  common-some (Some u) None x e = let clash = e in cc
  common-some (Some u) (Some v) x e = step (same u v) refl e
    where
      step : (c : Bool) → same u v ≡ c → (if c then Some u else None) ≡ Some x → (Some u ≡ Some x) × (Some v ≡ Some x)
      step true t is = (is, ap Some (sym (test.sound u v t)) ∙ is)
      step false t is = let clash = is in cc

  -- no value in common
  pub common-none :
      (a b : Option A) → common_of same a b ≡ None → (a ≡ None)
      ⊎ (b ≡ None) ⊎ ((u : A) × (v : A) × (a ≡ Some u) × (b ≡ Some v) × (u ≢ v))
  common-none None b e = inl refl
  common-none (Some u) None e = inr (inl refl)
  common-none (Some u) (Some v) e = inr (inr (u, v, refl, refl, λ one. step one (same u v) refl e))
    where
      step : u ≡ v → (c : Bool) → same u v ≡ c → (if c then Some u else None) ≡ None → ⊥
      step one true t is = let clash = is in cc
      step one false t is = let clash = sym t ∙ ap (same u) (sym one) ∙ test.whole u in cc

  pub common-count : (a b : Option A) → one_if_some (common_of same a b) ≤ one_if_some a
  common-count None b = omega arith
  common-count (Some u) None = omega arith
  common-count (Some u) (Some v) = step (same u v)
    where
      step : (c : Bool) → one_if_some (if c then Some u else None) ≤ 1
      step true = omega arith
      step false = omega arith

  common-kept : (a b : Option A) → one_if_some a ≤ one_if_some (common_of same a b) → (x : A) → a ≡ Some x → b ≡ Some x
  common-kept None b le x e = let clash = e in cc
  common-kept (Some u) None le x e = absurd (omega arith)
  common-kept (Some u) (Some v) le x e = step (same u v) refl le
    where
      step : (c : Bool) → same u v ≡ c → 1 ≤ one_if_some (if c then Some u else None) → Some v ≡ Some x
      step true t is = ap Some (sym (test.sound u v t)) ∙ e
      step false t is = absurd (omega arith)

-- what is common covers what either covers
pub covers-first : (was known told : Known) → Covers was told → Covers (common was known) told
covers-first was known told c = record {
  ah = λ n e. c.ah n (common-some nat_eq test-number was.ah known.ah n e).0;
  form = λ n e. c.form n (common-some is_same_form test-form was.form known.form n e).0;
  index = λ n e. c.index n (common-some is_same_index test-index was.index known.index n e).0;
  from = λ n e. c.from n (common-some nat_eq test-number was.from known.from n e).0;
}

pub covers-second : (was known told : Known) → Covers known told → Covers (common was known) told
covers-second was known told c = record {
  ah = λ n e. c.ah n (common-some nat_eq test-number was.ah known.ah n e).1;
  form = λ n e. c.form n (common-some is_same_form test-form was.form known.form n e).1;
  index = λ n e. c.index n (common-some is_same_index test-index was.index known.index n e).1;
  from = λ n e. c.from n (common-some nat_eq test-number was.from known.from n e).1;
}

-- where no less is known in common, all of it was known
pub covers-kept :
    (was known told : Known) → told_count was ≤ told_count (common was known) → Covers known told → Covers was told
covers-kept was known told le c =
    let a = common-count nat_eq test-number was.ah known.ah in
    let b = common-count is_same_form test-form was.form known.form in
    let d = common-count is_same_index test-index was.index known.index in
    let f = common-count nat_eq test-number was.from known.from in
    record {
      ah = λ n e. c.ah n (common-kept nat_eq test-number was.ah known.ah (omega (arith, le, a, b, d, f)) n e);
      form =
          λ n e. c.form n
          (common-kept is_same_form test-form was.form known.form (omega (arith, le, a, b, d, f)) n e);
      index =
          λ n e. c.index n
          (common-kept is_same_index test-index was.index known.index (omega (arith, le, a, b, d, f)) n e);
      from = λ n e. c.from n (common-kept nat_eq test-number was.from known.from (omega (arith, le, a, b, d, f)) n e);
    }
