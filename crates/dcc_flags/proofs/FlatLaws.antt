-- Choices stay flat: one that is read is at most one deeper than the graph's expressions, and it is then a negation.
use Rattle.std.proofs.Common.{◌≡◌, ℕ, suc, ◌≤◌, Bool, true, false, ◌&&◌, ◌||◌, not, List, ◌++◌, flat_map, refl, sym, ap, ◌∙◌, true≢false, subst, arith}
use Rattle.std.specs.Prelude.{if◌then◌else◌, ◌==◌}
use Rattle.std.specs.List.{list_any}
use Rattle.std.proofs.lemmas.List.Concat.{flat_map-append}
use Rattle.dcc_num.specs.declared.FlagName.{FlagName}
use Rattle.dcc_ir.specs.declared.syntax.Loc.TheVariants.{Half, Flag, Cell, Temp}
use Rattle.dcc_ir.specs.declared.syntax.UnOp.TheVariants.{Neg, Not, IsZero}
use Rattle.dcc_ir.specs.Tree.{Expr, Const, Get, Load, Unary, Binary, Widen, Part, Join, Choose, Address}
use Rattle.dcc_ir.specs.Measure.{depth_of}
use Rattle.dcc_ir.specs.Value.{width_of}
use Rattle.dcc_ir.specs.Use.{parts_of, got_by}
use Rattle.dcc_ir.proofs.FitLaws.{both}
use Rattle.dcc_ir.specs.FlagReads.{is_flag_place, reads_flag, gets, nests}
use Rattle.dcc_flags.specs.Reaching.{has_arm}
use Rattle.dcc_flags.specs.Folding.{negated, has_truth, one_taken, copied, taken}
use Rattle.dcc_flags.proofs.PartLaws.{none_in}
use Rattle.dcc_flags.proofs.DepthLaws.{value_depth}

-- no deeper than that, or the negation of such an expression, or without operands
pub data IsFlat (n : ℕ) (e : Expr) : Type 0 where
  small : depth_of e ≤ n → IsFlat n e
  leaf : depth_of e ≤ 1 → IsFlat n e
  negation : (x : Expr) → e ≡ Unary Not 1 x → depth_of x ≤ n → IsFlat n e

pub flat_depth : (n : ℕ) (e : Expr) → IsFlat n e → depth_of e ≤ suc n
flat_depth n e (small less) = omega arith
flat_depth n e (leaf less) = omega arith
flat_depth n e (negation x same less) = let size = ap depth_of same in omega arith

-- the value that is taken of a negation
not_taken : (n : ℕ) (bits : List ℕ) (e : Expr) → depth_of e ≤ n → 1 ≤ n → IsFlat n (taken bits (Unary Not 1 e)).value
not_taken n bits e less some = go (has_truth e)
  where
    go : (b : Bool) → IsFlat n (if b then one_taken (Unary Not 1) (taken bits e) else copied bits (Unary Not 1 e)).value
    go true = negation (taken bits e).value refl (let p = value_depth bits e in omega arith)
    go false = leaf (omega arith)

small_negated : (n : ℕ) (bits : List ℕ) (e : Expr) → depth_of e ≤ n → 1 ≤ n → width_of bits e ≡ 1 → IsFlat n (taken bits (negated 1 e)).value
small_negated n bits (Unary Not v x) less some width =
    subst (λ w. IsFlat n (taken bits (if w == 1 then x else Unary Not 1 (Unary Not w x))).value) (sym width) (small (let p = value_depth bits x in omega arith))
small_negated n bits (Unary Neg v x) less some width = not_taken n bits (Unary Neg v x) less some
small_negated n bits (Unary IsZero v x) less some width = not_taken n bits (Unary IsZero v x) less some
small_negated n bits (Const v m) less some width = not_taken n bits (Const v m) less some
small_negated n bits (Get l) less some width = not_taken n bits (Get l) less some
small_negated n bits (Load v a) less some width = not_taken n bits (Load v a) less some
small_negated n bits (Binary o v a b) less some width = not_taken n bits (Binary o v a b) less some
small_negated n bits (Widen s v a) less some width = not_taken n bits (Widen s v a) less some
small_negated n bits (Part v k a) less some width = not_taken n bits (Part v k a) less some
small_negated n bits (Join a b) less some width = not_taken n bits (Join a b) less some
small_negated n bits (Choose x a b) less some width = not_taken n bits (Choose x a b) less some
small_negated n bits (Address d) less some width = not_taken n bits (Address d) less some

-- the negation of a flat expression is flat
pub flat_negated : (n : ℕ) (bits : List ℕ) (e : Expr) → IsFlat n e → 1 ≤ n → width_of bits e ≡ 1 → IsFlat n (taken bits (negated 1 e)).value
flat_negated n bits e (small less) some width = small_negated n bits e less some width
flat_negated n bits e (leaf less) some width = small_negated n bits e (omega arith) some width
flat_negated n bits e (negation x same less) some width =
    subst (λ y. IsFlat n (taken bits (negated 1 y)).value) (sym same) (small (let p = value_depth bits x in omega arith))

-- How definitions read flags.

-- the expression reads no flag, or negates one, or chooses between a value and the flag's own
pub data Nests (g : FlagName) : Expr → Type 0 where
  unread : {e : Expr} → reads_flag e ≡ false → Nests g e
  negates : {w : ℕ} {h : FlagName} → Nests g (Unary Not w (Get (Flag h)))
  chooses : {e : Expr} → has_arm g e ≡ true → Nests g e

none_read : (b : Bool) → not b ≡ true → b ≡ false
none_read true e = absurd (true≢false (sym e))
none_read false e = refl

unread_both : (ps qs : List Expr) → list_any is_flag_place (flat_map got_by ps) ≡ false → list_any is_flag_place (flat_map got_by qs) ≡ false
    → list_any is_flag_place (flat_map got_by (ps ++ qs)) ≡ false
unread_both ps qs p q = ap (list_any is_flag_place) (flat_map-append got_by ps qs) ∙ none_in is_flag_place (flat_map got_by ps) (flat_map got_by qs) p q

choose_cases : (g : FlagName) (x a b : Expr) (p q : Bool) → gets g a ≡ p → gets g b ≡ q → nests g (Choose x a b) ≡ true → Nests g (Choose x a b)
choose_cases g x a b true q one other ok = chooses (ap (λ z. z || gets g b) one)
choose_cases g x a b false true one other ok = chooses (ap (λ z. z || gets g b) one ∙ other)
choose_cases g x a b false false one other ok =
    let parts = both (not (reads_flag x) && (gets g a || not (reads_flag a))) (gets g b || not (reads_flag b)) ok in
    let first = both (not (reads_flag x)) (gets g a || not (reads_flag a)) parts.0 in
    let in_a : reads_flag a ≡ false = none_read (reads_flag a) (ap (λ z. z || not (reads_flag a)) (sym one) ∙ first.1) in
    let in_b : reads_flag b ≡ false = none_read (reads_flag b) (ap (λ z. z || not (reads_flag b)) (sym other) ∙ parts.1) in
    unread (unread_both (parts_of x ++ parts_of a) (parts_of b) (unread_both (parts_of x) (parts_of a) (none_read (reads_flag x) first.0) in_a) in_b)

pub nests_cases : (g : FlagName) (e : Expr) → nests g e ≡ true → Nests g e
nests_cases g (Unary Not w (Get (Flag h))) ok = negates
nests_cases g (Unary Not w (Get (Half r x))) ok = unread refl
nests_cases g (Unary Not w (Get (Cell n x))) ok = unread refl
nests_cases g (Unary Not w (Get (Temp n))) ok = unread refl
nests_cases g (Unary Not w (Const v n)) ok = unread (none_read _ ok)
nests_cases g (Unary Not w (Load v a)) ok = unread (none_read _ ok)
nests_cases g (Unary Not w (Unary o v a)) ok = unread (none_read _ ok)
nests_cases g (Unary Not w (Binary o v a b)) ok = unread (none_read _ ok)
nests_cases g (Unary Not w (Widen s v a)) ok = unread (none_read _ ok)
nests_cases g (Unary Not w (Part v k a)) ok = unread (none_read _ ok)
nests_cases g (Unary Not w (Join a b)) ok = unread (none_read _ ok)
nests_cases g (Unary Not w (Choose x a b)) ok = unread (none_read _ ok)
nests_cases g (Unary Not w (Address d)) ok = unread (none_read _ ok)
nests_cases g (Unary Neg w a) ok = unread (none_read _ ok)
nests_cases g (Unary IsZero w a) ok = unread (none_read _ ok)
nests_cases g (Const w n) ok = unread (none_read _ ok)
nests_cases g (Get l) ok = unread (none_read _ ok)
nests_cases g (Load w a) ok = unread (none_read _ ok)
nests_cases g (Binary o w a b) ok = unread (none_read _ ok)
nests_cases g (Widen s w a) ok = unread (none_read _ ok)
nests_cases g (Part w k a) ok = unread (none_read _ ok)
nests_cases g (Join a b) ok = unread (none_read _ ok)
nests_cases g (Choose x a b) ok = choose_cases g x a b (gets g a) (gets g b) refl refl ok
nests_cases g (Address d) ok = unread (none_read _ ok)
