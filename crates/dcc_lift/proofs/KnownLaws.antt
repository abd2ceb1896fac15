-- What is known of a procedure: how many cells and arguments there are, and which.
use Rattle.std.proofs.Common.{◌≡◌, ◌∙◌, sym, ap, subst, ℕ, ◌+◌, ◌<◌, ◌≤◌, Bool, not, List, ◌++◌, filter, drop, length, get_or, All, Some, option_map, arith}
use Rattle.std.specs.List.{range_with_len}
use Rattle.std.specs.Prelude.{slice_get}
use Rattle.std.proofs.lemmas.List.{at_drop_more, length-append}
use Rattle.std.proofs.lemmas.List.Elements.{All-filter, All-get_or, All-from_get_or}
use Rattle.std.proofs.lemmas.List.FromFn.{length-range_with_len, get_or-range_with_len}
use Rattle.std.proofs.lemmas.List.Sums.{length-filter, count_by-le-length}
use Rattle.std.proofs.lemmas.Option.{slice_get-map, slice_get-get_or}
use Rattle.dcc_prog.specs.declared.procedure.Proc.{Proc}
use Rattle.dcc_prog.specs.declared.frame.Frame.{Frame}
use Rattle.dcc_prog.specs.Analysed.{bytes_of as bytes_of_cell}
use Rattle.dcc_stack.specs.Slots.{gives_back}
use Rattle.dcc_ir.specs.Passing.{bytes_at_put, bytes_of_param, bytes_of}
use Rattle.dcc_lift.specs.declared.procedure.Procedure.{Procedure as Known}
use Rattle.dcc_simulation.specs.Procedures.{Procedure, is_accessed, accessed_cells, other_cells}
use Rattle.dcc_simulation.specs.Passed.{argument_param, argument_params}
use Rattle.dcc_lift.specs.KnownProcedures.{KnowsProcedure}

from_none : (n : ℕ) → 0 + n ≡ n
from_none n = omega arith

pub few_filtered : {X : Type 0} (p : X → Bool) (xs : List X) → length (filter p xs) ≤ length xs
few_filtered p xs = subst (λ n. n ≤ length xs) (sym (length-filter p xs)) (count_by-le-length p xs)

pub few_accessed : (proc : Proc) (frame : Frame) → length frame.cells.items ≤ 512
    → length (accessed_cells proc frame) ≤ 512
few_accessed proc frame few =
    let h = few_filtered (λ cell. is_accessed proc frame (bytes_of_cell cell)) frame.cells.items in
    omega (arith, h, few)

few_others : (proc : Proc) (frame : Frame) → length (other_cells proc frame) ≤ length frame.cells.items
few_others proc frame = few_filtered (λ cell. not (is_accessed proc frame (bytes_of_cell cell))) frame.cells.items

pub few_cells : (p : Known) → KnowsProcedure p → length p.cells.items ≤ 1024
few_cells p known =
    let e : length p.cells.items ≡ length (accessed_cells p.proc.now p.frame.now) + length
    (other_cells p.proc.now p.frame.now)
    = ap length known.cells
    ∙ length-append (accessed_cells p.proc.now p.frame.now) (other_cells p.proc.now p.frame.now) in
    let few = known.few_cells in
    let a = few_accessed p.proc.now p.frame.now known.few_cells in
    let b = few_others p.proc.now p.frame.now in
    omega (arith, e, a, b, few)

numbers_below : (n : ℕ) → All (λ j. j < n) (range_with_len 0 n)
numbers_below n =
    All-from_get_or (λ j. j < n) (range_with_len 0 n) 0
    (λ i inside. let small : i < n = subst (λ k. i < k) (length-range_with_len 0 n) inside in
    subst (λ j. j < n) (sym (get_or-range_with_len 0 n i 0 small ∙ from_none i)) small)

pub few_returned : (p : Known) → KnowsProcedure p → length p.given_back.items ≤ 32
few_returned p known =
    let e : length p.given_back.items ≡ length
    (filter (gives_back p.proc.now p.frame.now) (range_with_len 0 p.frame.now.args)) =
    ap length known.given_back in
    let a : length (filter (gives_back p.proc.now p.frame.now) (range_with_len 0 p.frame.now.args)) ≤ length
    (range_with_len 0 p.frame.now.args) =
    few_filtered (gives_back p.proc.now p.frame.now) (range_with_len 0 p.frame.now.args) in
    let b = length-range_with_len 0 p.frame.now.args in
    let few = known.few_arguments in
    omega (arith, e, a, b, few)

-- a number that is given back is an argument's
pub returned_below : (p : Known) (i number : ℕ) → KnowsProcedure p → i < length p.given_back.items
    → number ≡ get_or p.given_back.items i number → number < p.frame.now.args
returned_below p i number known inside read =
    let below : All (λ j. j < p.frame.now.args) p.given_back.items
    = subst (All (λ j. j < p.frame.now.args)) (sym known.given_back)
    (All-filter (gives_back p.proc.now p.frame.now) (λ j. j < p.frame.now.args) (range_with_len 0 p.frame.now.args)
    (numbers_below p.frame.now.args)) in
    subst (λ j. j < p.frame.now.args) (sym read)
    (All-get_or (λ j. j < p.frame.now.args) p.given_back.items i number inside below)

-- Bytes that are given back.

param_at : (p : Procedure) (number : ℕ) → number < p.frame.args
    → slice_get (argument_params p) number ≡ Some (argument_param p number)
param_at p number small =
    let numbers = range_with_len 0 p.frame.args in
    slice_get-map (argument_param p) numbers number
    ∙ ap (option_map (argument_param p))
    (slice_get-get_or numbers number 0 (subst (λ n. number < n) (sym (length-range_with_len 0 p.frame.args)) small)
    ∙ ap Some (get_or-range_with_len 0 p.frame.args number 0 small ∙ from_none number))

pub bytes_more : (p : Procedure) (i : ℕ) (numbers : List ℕ) (number : ℕ) → i < length numbers
    → number ≡ get_or numbers i number → number < p.frame.args
    → bytes_of (argument_params p) (drop i numbers) ≡ bytes_at_put number (argument_param p number).put ++ bytes_of
    (argument_params p) (drop (i + 1) numbers)
bytes_more p i numbers number inside read small =
    let rest = bytes_of (argument_params p) (drop (i + 1) numbers) in
    at_drop_more (bytes_of (argument_params p)) numbers i number inside
    ∙ ap (λ n. bytes_of_param n (slice_get (argument_params p) n) ++ rest) (sym read)
    ∙ ap (λ o. bytes_of_param number o ++ rest) (param_at p number small)
