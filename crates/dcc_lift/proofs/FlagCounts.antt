-- How many statements on flags some statements have: one at most that sets a flag, and one at most that sets none.
-- Operands are taken and results are stored by statements that are on no flags.
use Rattle.std.proofs.Common.{◌≡◌, ◌≤◌, ℕ, ◌+◌, Bool, true, false, not, cond, ◌&&◌, List, [], ◌∷◌, ◌++◌, refl, ap, ◌∙◌, subst, leb-true, arith}
use Rattle.std.specs.Prelude.{nat_le, count_by}
use Rattle.std.specs.List.{list_all, list_any}
use Rattle.std.proofs.lemmas.List.Folds.{list_all-append}
use Rattle.dcc_num.specs.declared.Width.{Width}
use Rattle.dcc_num.specs.declared.Width.TheVariants.{Byte as byte_width, Word as word_width}
use Rattle.dcc_num.specs.declared.FlagName.{FlagName}
use Rattle.dcc_num.specs.declared.FlagName.TheVariants.{Cf, Zf, Sf, Of}
use Rattle.dcc_machine.specs.declared.instr.Op.{Op}
use Rattle.dcc_machine.specs.Writes.{writes_flag}
use Rattle.dcc_ir.specs.declared.syntax.Loc.{Loc}
use Rattle.dcc_ir.specs.declared.syntax.Loc.TheVariants.{Flag}
use Rattle.dcc_ir.specs.Location.{same_location}
use Rattle.dcc_ir.specs.Tree.{Expr, Stmt}
use Rattle.dcc_ir.specs.Use.{writes_of}
use Rattle.dcc_ops.specs.Temporaries.{left_place, right_place}
use Rattle.dcc_ops.specs.Expressions.{left, right, result}
use Rattle.dcc_ops.specs.OperandPlace.{OperandPlace, constant, byte, word, memory, address, computed, place_value}
use Rattle.dcc_ops.specs.OperandPlace.{taking}
use Rattle.dcc_ops.specs.OperandPlace.{storing}
use Rattle.dcc_ops.specs.Statements.{operands_taking}
use Rattle.dcc_lift.specs.FlagStmts.{is_on_flags, is_flag_stmt, is_flag_location, is_setter_of, is_other_flag_stmt, has_carry_in}
use Rattle.dcc_lift.proofs.ListTests.{and_left, and_right, and_both, not_true}
use Rattle.dcc_lift.proofs.Totals.{total, total-is, total-append}

-- Counts.

-- what a statement that passes a test counts
abbrev pub counted : (Stmt → Bool) → Stmt → ℕ
counted test stmt = cond (test stmt) 1 0

-- no more than one of the statements on flags sets each flag, and none where it is left; no more than one sets none,
-- and there is none where no CF comes in
pub record AreWithin (writes : FlagName → Bool) (carry_in : Bool) (stmts : List Stmt) : Type 0 where
  pub setters : (flag : FlagName) → total (counted (is_setter_of flag)) stmts ≤ cond (writes flag) 1 0
  pub others : total (counted is_other_flag_stmt) stmts ≤ cond carry_in 1 0

-- the statements of an operation on flags are few: within the flags that it writes, and within whether CF goes into
-- its result
abbrev pub AreFew : Op → List Stmt → Type 0
AreFew op stmts = AreWithin (writes_flag op) (has_carry_in op) stmts

-- The same as a test, for statements that are written out.

abbrev pub set_few : (FlagName → Bool) → List Stmt → FlagName → Bool
set_few writes stmts flag = nat_le (count_by (is_setter_of flag) stmts) (cond (writes flag) 1 0)

abbrev pub are_within : (FlagName → Bool) → Bool → List Stmt → Bool
are_within writes carry_in stmts =
    list_all (set_few writes stmts) (Cf ∷ Zf ∷ Sf ∷ Of ∷ [])
    && nat_le (count_by is_other_flag_stmt stmts) (cond carry_in 1 0)

abbrev pub are_few : Op → List Stmt → Bool
are_few op stmts = are_within (writes_flag op) (has_carry_in op) stmts

-- a test of all flags holds of each
of-flag : (test : FlagName → Bool) (flag : FlagName) → list_all test (Cf ∷ Zf ∷ Sf ∷ Of ∷ []) ≡ true → test flag ≡ true
of-flag test Cf all = and_left (test Cf) (test Zf && (test Sf && (test Of && true))) all
of-flag test Zf all =
    and_left (test Zf) (test Sf && (test Of && true))
    (and_right (test Cf) (test Zf && (test Sf && (test Of && true))) all)
of-flag test Sf all =
    and_left (test Sf) (test Of && true)
    (and_right (test Zf) (test Sf && (test Of && true))
    (and_right (test Cf) (test Zf && (test Sf && (test Of && true))) all))
of-flag test Of all =
    and_left (test Of) true
    (and_right (test Sf) (test Of && true)
    (and_right (test Zf) (test Sf && (test Of && true))
    (and_right (test Cf) (test Zf && (test Sf && (test Of && true))) all)))

pub within-by : (writes : FlagName → Bool) (carry_in : Bool) (stmts : List Stmt)
    → are_within writes carry_in stmts ≡ true → AreWithin writes carry_in stmts
within-by writes carry_in stmts few = record {
  setters = λ flag. subst (λ n. n ≤ cond (writes flag) 1 0) (total-is (counted (is_setter_of flag)) stmts)
      (leb-true (count_by (is_setter_of flag) stmts) (cond (writes flag) 1 0)
      (of-flag (set_few writes stmts) flag (and_left all rest few)));
  others = subst (λ n. n ≤ cond carry_in 1 0) (total-is (counted is_other_flag_stmt) stmts)
      (leb-true (count_by is_other_flag_stmt stmts) (cond carry_in 1 0) (and_right all rest few));
}
  where
    all : Bool
    all = list_all (set_few writes stmts) (Cf ∷ Zf ∷ Sf ∷ Of ∷ [])

    rest : Bool
    rest = nat_le (count_by is_other_flag_stmt stmts) (cond carry_in 1 0)

-- Statements on no flags.

abbrev pub are_off_flags : List Stmt → Bool
are_off_flags stmts = list_all (λ stmt. not (is_flag_stmt stmt)) stmts

pub off-cons : (stmt : Stmt) (stmts : List Stmt) → is_flag_stmt stmt ≡ false → are_off_flags stmts ≡ true
    → are_off_flags (stmt ∷ stmts) ≡ true
off-cons stmt stmts off rest = and_both (not (is_flag_stmt stmt)) (are_off_flags stmts) (ap not off) rest

pub off-append : (stmts others : List Stmt) → are_off_flags stmts ≡ true → are_off_flags others ≡ true
    → are_off_flags (stmts ++ others) ≡ true
off-append stmts others p q =
    list_all-append (λ (stmt : Stmt). not (is_flag_stmt stmt)) stmts others
    ∙ and_both (are_off_flags stmts) (are_off_flags others) p q

off-counted : (test : Stmt → Bool) → ((stmt : Stmt) → is_flag_stmt stmt ≡ false → test stmt ≡ false)
    → (stmts : List Stmt) → are_off_flags stmts ≡ true → total (counted test) stmts ≡ 0
off-counted test none [] off = refl
off-counted test none (stmt ∷ stmts) off =
    let here : counted test stmt ≡ 0 =
    ap (λ b. cond b 1 0)
    (none stmt (not_true (is_flag_stmt stmt) (and_left (not (is_flag_stmt stmt)) (are_off_flags stmts) off))) in
    let rest : total (counted test) stmts ≡ 0 =
    off-counted test none stmts (and_right (not (is_flag_stmt stmt)) (are_off_flags stmts) off) in
    omega (arith, here, rest)

off-setters : (flag : FlagName) (stmts : List Stmt) → are_off_flags stmts ≡ true
    → total (counted (is_setter_of flag)) stmts ≡ 0
off-setters flag stmts off =
    off-counted (is_setter_of flag)
    (λ stmt e. ap (λ b. b && list_any (same_location (Flag flag)) (writes_of stmt)) e) stmts off

off-others : (stmts : List Stmt) → are_off_flags stmts ≡ true → total (counted is_other_flag_stmt) stmts ≡ 0
off-others stmts off =
    off-counted is_other_flag_stmt
    (λ stmt e. ap (λ b. b && not (list_any is_flag_location (writes_of stmt))) e) stmts off

none-below : (a b : ℕ) → a ≡ 0 → a ≤ b
none-below a b none = omega (arith, none)

none-first : (a b c d : ℕ) → c ≡ a + b → a ≡ 0 → b ≤ d → c ≤ d
none-first a b c d whole none few = omega (arith, whole, none, few)

none-last : (a b c d : ℕ) → c ≡ a + b → b ≡ 0 → a ≤ d → c ≤ d
none-last a b c d whole none few = omega (arith, whole, none, few)

module _ (writes : FlagName → Bool) (carry_in : Bool) where
  -- statements on no flags are within any bounds
  pub off-within : (stmts : List Stmt) → are_off_flags stmts ≡ true → AreWithin writes carry_in stmts
  off-within stmts off = record {
    setters = λ flag.
        none-below (total (counted (is_setter_of flag)) stmts) (cond (writes flag) 1 0) (off-setters flag stmts off);
    others = none-below (total (counted is_other_flag_stmt) stmts) (cond carry_in 1 0) (off-others stmts off);
  }

  -- before other statements, and after them, they add nothing
  pub off-before : (stmts others : List Stmt) → are_off_flags stmts ≡ true → AreWithin writes carry_in others
      → AreWithin writes carry_in (stmts ++ others)
  off-before stmts others off few = record {
    setters = λ flag.
        let count : Stmt → ℕ = counted (is_setter_of flag) in
        none-first (total count stmts) (total count others) (total count (stmts ++ others)) (cond (writes flag) 1 0)
        (total-append count stmts others) (off-setters flag stmts off) (few.setters flag);
    others =
        let count : Stmt → ℕ = counted is_other_flag_stmt in
        none-first (total count stmts) (total count others) (total count (stmts ++ others)) (cond carry_in 1 0)
        (total-append count stmts others) (off-others stmts off) few.others;
  }

  pub off-after : (stmts others : List Stmt) → AreWithin writes carry_in stmts → are_off_flags others ≡ true
      → AreWithin writes carry_in (stmts ++ others)
  off-after stmts others few off = record {
    setters = λ flag.
        let count : Stmt → ℕ = counted (is_setter_of flag) in
        none-last (total count stmts) (total count others) (total count (stmts ++ others)) (cond (writes flag) 1 0)
        (total-append count stmts others) (off-setters flag others off) (few.setters flag);
    others =
        let count : Stmt → ℕ = counted is_other_flag_stmt in
        none-last (total count stmts) (total count others) (total count (stmts ++ others)) (cond carry_in 1 0)
        (total-append count stmts others) (off-others others off) few.others;
  }

-- Places.

-- what the place holds is on no flags
abbrev pub is_apart : OperandPlace → Bool
is_apart p = not (is_on_flags (place_value p))

pub left-apart : (w : Width) → is_on_flags (left w) ≡ false
left-apart byte_width = refl
left-apart word_width = refl

pub right-apart : (w : Width) → is_on_flags (right w) ≡ false
right-apart byte_width = refl
right-apart word_width = refl

pub result-apart : (w : Width) → is_on_flags (result w) ≡ false
result-apart byte_width = refl
result-apart word_width = refl

pub taking-off : (to : Loc) (p : OperandPlace) → is_apart p ≡ true → is_flag_stmt (taking to p) ≡ false
taking-off to (constant w n) apart = refl
taking-off to (byte location) apart = not_true (is_on_flags (place_value (byte location))) apart
taking-off to (word low high) apart = not_true (is_on_flags (place_value (word low high))) apart
taking-off to (memory w at) apart = not_true (is_on_flags at) apart
taking-off to (address distance) apart = refl
taking-off to (computed e) apart = not_true (is_on_flags e) apart

pub storing-off : (p : OperandPlace) (e : Expr) → is_on_flags e ≡ false → are_off_flags (storing p e) ≡ true
storing-off (constant w n) e apart = refl
storing-off (byte location) e apart = ap (λ b. not b && true) apart
storing-off (word low high) e apart = ap (λ b. not b && (not b && true)) apart
storing-off (memory w at) e apart = refl
storing-off (address distance) e apart = refl
storing-off (computed sum) e apart = refl

pub operands-off : (w : Width) (p q : OperandPlace) → is_apart p ≡ true → is_apart q ≡ true
    → are_off_flags (operands_taking w p q) ≡ true
operands-off w p q one other =
    off-cons (taking (left_place w) p) (taking (right_place w) q ∷ []) (taking-off (left_place w) p one)
    (off-cons (taking (right_place w) q) [] (taking-off (right_place w) q other) refl)
