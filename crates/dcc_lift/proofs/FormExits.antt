-- How blocks of a translated program end: their ends are well formed, at most 7 deep, and a Ret is the procedure's.
use Rattle.std.proofs.Common.{◌≡◌, ◌≢◌, ℕ, ◌+◌, ◌*◌, ◌≤◌, Bool, true, false, ◌&&◌, ◌==◌, if◌then◌else◌, List, [], ◌∷◌, length, Option, Some, None, refl, arith}
use Rattle.std.specs.Prelude.{nat_lt}
use Rattle.std.specs.List.{list_any, list_all}
use Rattle.std.proofs.lemmas.List.FromFn.{length-map-range_with_len}
use Rattle.dcc_machine.specs.declared.image.Image.{Image}
use Rattle.dcc_machine.specs.declared.instr.Op.{Op}
use Rattle.dcc_machine.specs.declared.instr.Op.TheVariants.{Table, Ret as RetOp, Int21}
use Rattle.dcc_machine.specs.Successors.{is_exit as is_exit_call, op_successors}
use Rattle.dcc_prog.specs.Trail.{word_in_segment, table_targets}
use Rattle.dcc_ir.specs.Tree.{Expr, Exit, Goto, Ret, Stop}
use Rattle.dcc_ir.specs.WellFormed.{is_expr, is_expr_of, is_exit}
use Rattle.dcc_ir.specs.Use.{exit_exprs}
use Rattle.dcc_ops.specs.Temporaries.{temporary_bits}
use Rattle.dcc_ops.specs.Statements.{op_test, exit_to}
use Rattle.dcc_simulation.specs.Procedures.{Procedure}
use Rattle.dcc_simulation.specs.Passed.{returned_values, exit_of}
use Rattle.dcc_lift.proofs.ListTests.{and_left, and_right, and_both, or_here, or_there, same_number}
use Rattle.dcc_lift.proofs.FormPlaces.{le-true, is_shallow, expr-well, expr-shallow}
use Rattle.dcc_lift.proofs.FormOperations.{IsSoundTest, test-good}
use Rattle.dcc_lift.proofs.FormCalls.{all-both, are_good}

-- an end in a graph of so many blocks
pub record IsGoodExit (count : ℕ) (exit : Exit) : Type 0 where
  pub well : is_exit temporary_bits count exit ≡ true
  pub shallow : list_all is_shallow (exit_exprs exit) ≡ true

-- the places are those of blocks
abbrev pub are_below : ℕ → List ℕ → Bool
are_below count places = list_all (λ place. nat_lt place count) places

pub goto-good : (count place : ℕ) → nat_lt place count ≡ true → IsGoodExit count (Goto place)
goto-good count place below = record { well = below; shallow = refl }

stop-good : (count : ℕ) → IsGoodExit count Stop
stop-good count = record { well = refl; shallow = refl }

exit-to-good : (count : ℕ) (test : Option Expr) (places : List ℕ) → IsSoundTest test → are_below count places ≡ true
    → IsGoodExit count (exit_to test places)
exit-to-good count (Some test) [] sound below = stop-good count
exit-to-good count (Some test) (one ∷ []) sound below = goto-good count one (and_left (nat_lt one count) true below)
exit-to-good count (Some test) (one ∷ other ∷ []) sound below =
    let rest = and_right (nat_lt one count) (are_below count (other ∷ [])) below in
    record {
      well =
          and_both (is_expr_of temporary_bits 1 test && nat_lt one count) (nat_lt other count)
          (and_both (is_expr_of temporary_bits 1 test) (nat_lt one count) (expr-well 1 test sound)
          (and_left (nat_lt one count) (are_below count (other ∷ [])) below))
          (and_left (nat_lt other count) true rest);
      shallow = and_both (is_shallow test) true (expr-shallow 1 test sound) refl;
    }
exit-to-good count (Some test) (one ∷ other ∷ more ∷ places) sound below = stop-good count
exit-to-good count None [] sound below = stop-good count
exit-to-good count None (one ∷ []) sound below = goto-good count one (and_left (nat_lt one count) true below)
exit-to-good count None (one ∷ other ∷ places) sound below = stop-good count

pub exit-good : (p : Procedure) (count : ℕ) (op : Op) (places : List ℕ) → length places ≤ 65536
    → are_below count places ≡ true → are_good (returned_values p) ≡ true → IsGoodExit count (exit_of p op places)
exit-good p count (Table r offset) places few below given =
    let fits = le-true (length places) 65536 few in
    record { well = rw (fits, below) refl; shallow = refl }
exit-good p count (RetOp bytes) places few below given =
    let parts = all-both (is_expr temporary_bits) is_shallow (returned_values p) given in
    record { well = parts.0; shallow = parts.1 }
exit-good p count op places few below given = exit-to-good count (op_test op) places (test-good op) below

-- Returns.

abbrev pub RetsAre : Procedure → Exit → Type 0
RetsAre p (Ret values) = values ≡ returned_values p
RetsAre p exit = Unit {0}

abbrev pub NoRet : Exit → Type 0
NoRet (Ret values) = ⊥
NoRet exit = Unit {0}

no-ret-to : (test : Option Expr) (places : List ℕ) → NoRet (exit_to test places)
no-ret-to (Some test) [] = tt
no-ret-to (Some test) (one ∷ []) = tt
no-ret-to (Some test) (one ∷ other ∷ []) = tt
no-ret-to (Some test) (one ∷ other ∷ more ∷ places) = tt
no-ret-to None [] = tt
no-ret-to None (one ∷ []) = tt
no-ret-to None (one ∷ other ∷ places) = tt

no-ret-are : (p : Procedure) (exit : Exit) → NoRet exit → RetsAre p exit
no-ret-are p (Ret values) none = absurd none
no-ret-are p exit none = tt

pub exit-rets : (p : Procedure) (op : Op) (places : List ℕ) → RetsAre p (exit_of p op places)
exit-rets p (Table r offset) places = tt
exit-rets p (RetOp count) places = refl
exit-rets p op places = no-ret-are p (exit_to (op_test op) places) (no-ret-to (op_test op) places)

pub exit-no-ret : (p : Procedure) (op : Op) (places : List ℕ) → ((count : ℕ) → op ≢ RetOp count)
    → NoRet (exit_of p op places)
exit-no-ret p (Table r offset) places other = tt
exit-no-ret p (RetOp count) places other = absurd (other count refl)
exit-no-ret p op places other = no-ret-to (op_test op) places

-- Successors.

pub all-of-members : (f : ℕ → Bool) (xs : List ℕ) → ((x : ℕ) → list_any (λ y. y == x) xs ≡ true → f x ≡ true)
    → list_all f xs ≡ true
all-of-members f [] each = refl
all-of-members f (x ∷ xs) each =
    and_both (f x) (list_all f xs) (each x (or_here (x == x) (list_any (λ y. y == x) xs) (same_number x)))
    (all-of-members f xs (λ y inside. each y (or_there (x == y) (list_any (λ z. z == y) xs) inside)))

pub op-few : (op : Op) (next : ℕ) (ah : Option ℕ) (targets : List ℕ) → length targets ≤ 256
    → length (op_successors op next ah targets) ≤ 256
op-few (Table r offset) next ah targets few = few
op-few Int21 next ah targets few = go (is_exit_call ah)
  where
    go : (b : Bool) → length (if b then [] else next ∷ []) ≤ 256
    go true = omega arith
    go false = omega arith
op-few op next ah targets few = omega arith

pub table-few : (image : Image) (offset number : ℕ) → number ≤ 255
    → length (table_targets image offset (Some number)) ≤ 256
table-few image offset number small =
    let count = length-map-range_with_len (λ k. word_in_segment image (offset + 2 * k)) 0 (number + 1) in
    omega (arith, count, small)
