-- Which addresses the end of a block takes: those of arguments in memory that are given back.
use Rattle.std.proofs.Common.{◌≡◌, ℕ, ◌+◌, ◌*◌, ◌<◌, ◌≤◌, Bool, true, false, ◌&&◌, List, [], ◌∷◌, length, map, slice_get, Option, Some, None, refl, sym, ap, ◌∙◌, arith}
use Rattle.std.specs.List.{list_all, range_with_len}
use Rattle.std.proofs.lemmas.List.{length-map, get_or-map}
use Rattle.std.proofs.lemmas.List.FromFn.{length-range_with_len, get_or-range_with_len}
use Rattle.std.proofs.lemmas.List.Folds.{list_all-append}
use Rattle.std.proofs.lemmas.Option.{slice_get_within, get_or_from_slice_get}
use Rattle.dcc_machine.specs.declared.instr.Cond.{Cond}
use Rattle.dcc_machine.specs.declared.instr.Cond.TheVariants.{O, No, B, Ae, Z, Nz, Be, A, S, Ns, L, Ge, Le, G}
use Rattle.dcc_machine.specs.declared.instr.Op.{Op}
use Rattle.dcc_machine.specs.declared.instr.Op.TheVariants.{Table, Ret as RetOp, Branch, Loop, LoopE, LoopNe, Jcxz}
use Rattle.dcc_prog.specs.Frame.{argument_word}
use Rattle.dcc_stack.specs.Slots.{exposes_of}
use Rattle.dcc_ir.specs.declared.syntax.Put.{Put}
use Rattle.dcc_ir.specs.declared.syntax.Put.TheVariants.{Memory, One, Two}
use Rattle.dcc_ir.specs.declared.syntax.Param.{Param}
use Rattle.dcc_ir.specs.Tree.{Expr, Get}
use Rattle.dcc_ir.specs.Passing.{passed, bytes_at_put, bytes_of_param, bytes_of}
use Rattle.dcc_ir.specs.Use.{exit_exprs}
use Rattle.dcc_ir.specs.WellFormed.{is_memory}
use Rattle.dcc_ops.specs.Expressions.{condition}
use Rattle.dcc_ops.specs.Statements.{op_test, exit_to}
use Rattle.dcc_simulation.specs.Passed.{argument_param, argument_params, exit_of}
use Rattle.dcc_simulation.specs.Procedures.{Procedure, given_back}
use Rattle.dcc_pipe.proofs.OperationAddresses.{passes}

both : (a b : Bool) → a ≡ true → b ≡ true → (a && b) ≡ true
both true b e f = f
both false b e f = e

module _ (q : Procedure) (few : q.frame.args ≤ 32)
    (memory : (n : ℕ) → n < q.frame.args → is_memory (argument_param q n).put ≡ exposes_of q.frame (argument_word n))
    (test : ℕ → Bool)
    (tested : (n : ℕ) → n < q.frame.args → exposes_of q.frame (argument_word n) ≡ true → (d : ℕ) → 2 * n ≤ d
    → d < 32768 → test d ≡ true) where
  -- Tests.

  abbrev test_passes : Option Expr → Bool
  test_passes None = true
  test_passes (Some e) = passes test e

  condition-passes : (c : Cond) → passes test (condition c) ≡ true
  condition-passes O = refl
  condition-passes No = refl
  condition-passes B = refl
  condition-passes Ae = refl
  condition-passes Z = refl
  condition-passes Nz = refl
  condition-passes Be = refl
  condition-passes A = refl
  condition-passes S = refl
  condition-passes Ns = refl
  condition-passes L = refl
  condition-passes Ge = refl
  condition-passes Le = refl
  condition-passes G = refl

  op-test-passes : (op : Op) → test_passes (op_test op) ≡ true
  op-test-passes (Branch tested target) = condition-passes tested
  op-test-passes (Loop target) = refl
  op-test-passes (LoopE target) = refl
  op-test-passes (LoopNe target) = refl
  op-test-passes (Jcxz target) = refl
  op-test-passes op = refl

  to-passes : (e : Option Expr) (places : List ℕ) → test_passes e ≡ true
      → list_all (passes test) (exit_exprs (exit_to e places)) ≡ true
  to-passes None [] is = refl
  to-passes None (a ∷ []) is = refl
  to-passes None (a ∷ b ∷ places) is = refl
  to-passes (Some e) [] is = refl
  to-passes (Some e) (a ∷ []) is = refl
  to-passes (Some e) (a ∷ b ∷ []) is = both (passes test e) true is refl
  to-passes (Some e) (a ∷ b ∷ c ∷ places) is = refl

  -- Values that are given back.

  zero-plus : (j : ℕ) → 0 + j ≡ j
  zero-plus j = omega arith

  numbers-are : (j : ℕ) (p : Param) → slice_get (argument_params q) j ≡ Some p
      → (j < q.frame.args) × (p ≡ argument_param q j)
  numbers-are j p at =
      let numbers = range_with_len 0 q.frame.args in
      let within = slice_get_within (argument_params q) j p at in
      let less : j < length numbers = omega (arith, within, length-map numbers (argument_param q)) in
      let inside : j < q.frame.args = omega (arith, less, length-range_with_len 0 q.frame.args) in (
        inside,
        sym (get_or_from_slice_get (argument_params q) j p p at)
            ∙ get_or-map (argument_param q) numbers j 0 p less
            ∙ ap (argument_param q) (get_or-range_with_len 0 q.frame.args j 0 inside ∙ zero-plus j),
      )

  loaded : (d : ℕ) → test d ≡ true → ((test d && true) && true) ≡ true
  loaded d is = both (test d && true) true (both (test d) true is refl) refl

  put-passes : (j : ℕ) (put : Put) → (is_memory put ≡ true → (d : ℕ) → 2 * j ≤ d → d ≤ 2 * j + 1 → test d ≡ true)
      → list_all (passes test) (bytes_at_put j put) ≡ true
  put-passes j Memory is =
      both ((test (2 * j) && true) && true) _ (loaded (2 * j) (is refl (2 * j) (omega arith) (omega arith)))
      (both ((test (2 * j + 1) && true) && true) true (loaded (2 * j + 1) (is refl (2 * j + 1) (omega arith) (omega arith))) refl)
  put-passes j (One location) is = refl
  put-passes j (Two low high) is = refl

  bytes-pass : (numbers : List ℕ) → list_all (passes test) (bytes_of (argument_params q) numbers) ≡ true
  bytes-pass [] = refl
  bytes-pass (j ∷ numbers) =
      list_all-append (passes test) (bytes_of_param j (slice_get (argument_params q) j)) (bytes_of (argument_params q) numbers)
      ∙ both _ (list_all (passes test) (bytes_of (argument_params q) numbers)) (by (slice_get (argument_params q) j) refl)
      (bytes-pass numbers)
    where
      by : (o : Option Param) → slice_get (argument_params q) j ≡ o → list_all (passes test) (bytes_of_param j o) ≡ true
      by None at = refl
      by (Some p) at =
          let is = numbers-are j p at in
          let less = is.0 in
          put-passes j p.put (λ told d low high.
          tested j is.0 (sym (memory j is.0) ∙ ap (λ (p : Param). is_memory p.put) (sym is.1) ∙ told) d low
          (omega (arith, high, less, few)))

  pub exit-passes : (op : Op) (places : List ℕ) → list_all (passes test) (exit_exprs (exit_of q op places)) ≡ true
  exit-passes (Table r offset) places = refl
  exit-passes (RetOp count) places =
      list_all-append (passes test) (map Get passed) (bytes_of (argument_params q) (given_back q))
      ∙ both (list_all (passes test) (map Get passed)) _ refl (bytes-pass (given_back q))
  exit-passes op places = to-passes (op_test op) places (op-test-passes op)
