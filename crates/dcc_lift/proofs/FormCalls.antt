-- What passes at calls and returns is sound, and has the widths of the places where it goes.
use Rattle.std.proofs.Common.{◌≡◌, ℕ, zero, suc, ◌+◌, ◌*◌, ◌<◌, ◌≤◌, Bool, true, false, ◌&&◌, ◌==◌, if◌then◌else◌, List, [], ◌∷◌, ◌++◌, length, map, filter, slice_get, Some, All, refl, sym, ap, ap₂, ◌∙◌, subst, eq-eqb, arith}
use Rattle.std.specs.Prelude.{ℤ, pos, ◌+ℤ◌, replicate, nat_lt, option_map}
use Rattle.std.specs.List.{range_with_len, list_all}
use Rattle.std.proofs.lemmas.List.{map-append, get_or-append-add, get_or-replicate}
use Rattle.std.proofs.lemmas.List.Folds.{list_all-append, list_all-map}
use Rattle.std.proofs.lemmas.List.Elements.{All-nil, All-cons, All-head, All-tail, All-filter}
use Rattle.std.proofs.lemmas.List.FromFn.{length-range_with_len, get_or-range_with_len}
use Rattle.std.proofs.lemmas.Option.{slice_get-map, slice_get-get_or}
use Rattle.dcc_num.specs.declared.Width.TheVariants.{Byte as byte_width, Word as word_width}
use Rattle.dcc_prog.specs.declared.frame.Cell.{Cell}
use Rattle.dcc_prog.specs.Analysed.{bytes_of as span_of_cell}
use Rattle.dcc_stack.specs.Slots.{is_within, is_placed, gives_back}
use Rattle.dcc_ir.specs.declared.syntax.Param.{Param}
use Rattle.dcc_ir.specs.Tree.{Expr, Get, Address, Call}
use Rattle.dcc_ir.specs.Location.{location_width}
use Rattle.dcc_ir.specs.Value.{width_of}
use Rattle.dcc_ir.specs.WellFormed.{is_location, is_expr, is_stmt, is_put, put_width, is_param_list}
use Rattle.dcc_ir.specs.Passing.{passed, param_of, bytes_at_put, bytes_of_param, bytes_of}
use Rattle.dcc_ops.specs.Temporaries.{temporary_bits, most_returned, returned_place}
use Rattle.dcc_ops.specs.OperandPlace.{OperandPlace, word, memory, place_value, storing, is_low, is_high}
use Rattle.dcc_ops.specs.OperandPlace.{is_sound_place}
use Rattle.dcc_simulation.specs.Procedures.{Procedure, cells_of, within_cell, cell_place, distance_of, frame_place}
use Rattle.dcc_simulation.specs.Procedures.{given_back}
use Rattle.dcc_simulation.specs.Passed.{put_of, argument_param, argument_params, params_of, returned_values}
use Rattle.dcc_simulation.specs.Statements.{argument_offset, argument_value, taking_back, taking_all_back, results_of}
use Rattle.dcc_simulation.specs.Statements.{arguments_of}
use Rattle.dcc_lift.proofs.ListTests.{and_left, and_right, and_both}
use Rattle.dcc_lift.proofs.FormPlaces.{below-true, is_shallow, are_sound, sound-append, IsLocationOf, low-location, high-location, stored}
use Rattle.dcc_lift.proofs.FormNodes.{distance-fits, frame-good}

-- Lists.

pub all-true : {X : Type 0} (f : X → Bool) (xs : List X) → ((x : X) → f x ≡ true) → list_all f xs ≡ true
all-true f [] each = refl
all-true f (x ∷ xs) each = and_both (f x) (list_all f xs) (each x) (all-true f xs each)

pub range-all : (f : ℕ → Bool) (count from limit : ℕ) → from + count ≤ limit → ((i : ℕ) → i < limit → f i ≡ true)
    → list_all f (range_with_len from count) ≡ true
range-all f zero from limit below each = refl
range-all f (suc count) from limit below each =
    and_both (f from) (list_all f (range_with_len (from + 1) count)) (each from (omega (arith, below)))
    (range-all f count (from + 1) limit (omega (arith, below)) each)

pub all-both : {X : Type 0} (f g : X → Bool) (xs : List X) → list_all (λ x. f x && g x) xs ≡ true
    → (list_all f xs ≡ true) × (list_all g xs ≡ true)
all-both f g [] is = (refl, refl)
all-both f g (x ∷ xs) is =
    let here = and_left (f x && g x) (list_all (λ y. f y && g y) xs) is in
    let rest = all-both f g xs (and_right (f x && g x) (list_all (λ y. f y && g y) xs) is) in (
      and_both (f x) (list_all f xs) (and_left (f x) (g x) here) rest.0,
      and_both (g x) (list_all g xs) (and_right (f x) (g x) here) rest.1,
    )

map-agree : {X Y Z : Type 0} (f : Y → Z) (g : X → Y) (h : X → Z) (xs : List X) → ((x : X) → f (g x) ≡ h x)
    → map f (map g xs) ≡ map h xs
map-agree f g h [] each = refl
map-agree f g h (x ∷ xs) each = ap₂ (λ y ys. y ∷ ys) (each x) (map-agree f g h xs each)

-- Expressions that pass.

-- well formed, and at most 7 deep
abbrev pub is_good_expr : Expr → Bool
is_good_expr e = is_expr temporary_bits e && is_shallow e

abbrev pub are_good : List Expr → Bool
are_good es = list_all is_good_expr es

pub good-append : (es fs : List Expr) → are_good es ≡ true → are_good fs ≡ true → are_good (es ++ fs) ≡ true
good-append es fs one other = list_all-append is_good_expr es fs ∙ and_both (are_good es) (are_good fs) one other

-- The word of an argument.

-- a word of the frame is well formed, at most 7 deep, and a word
pub record IsGoodWord (e : Expr) : Type 0 where
  pub good : is_good_expr e ≡ true
  pub wide : width_of temporary_bits e ≡ 16

cell-word : (number : ℕ) (cells : List Cell) (k : ℤ) → IsGoodWord (place_value (cell_place number cells word_width k))
cell-word number [] k = record { good = refl; wide = refl }
cell-word number (cell ∷ cells) k = go (is_within k (span_of_cell cell)) (cell-word (suc number) cells k)
  where
    go : (b : Bool) → IsGoodWord (place_value (cell_place (suc number) cells word_width k))
        → IsGoodWord (place_value (if b then within_cell number cell word_width k
        else cell_place (suc number) cells word_width k))
    go true later = record { good = refl; wide = refl }
    go false later = later

address-good : (n : ℕ) → n < 65536 → is_expr temporary_bits (Address n) ≡ true
address-good n fits = below-true n 65536 fits

frame-word : (p : Procedure) (k : ℤ) → IsGoodWord (place_value (frame_place p word_width k))
frame-word p k = go (is_placed p.frame k)
  where
    go : (b : Bool) → IsGoodWord (place_value (if b then memory word_width (Address (distance_of k))
        else cell_place 0 (cells_of p) word_width k))
    go true = let fits = address-good (distance_of k) (distance-fits k) in record { good = rw fits refl; wide = refl }
    go false = cell-word 0 (cells_of p) k

pub arguments-good : (caller : Procedure) (height : ℕ) (callee : Procedure)
    → are_good (arguments_of caller height callee) ≡ true
arguments-good caller height callee =
    let numbers = range_with_len 0 callee.frame.args in
    good-append (map (argument_value caller height) numbers) (map Get passed)
    (list_all-map is_good_expr (argument_value caller height) numbers
    ∙ all-true (λ n. is_good_expr (argument_value caller height n)) numbers
    (λ n. (frame-word caller (argument_offset height n)).good))
    refl

-- Params.

put-wide : (place : OperandPlace) → put_width temporary_bits (put_of place) ≡ 16
put-wide (word low high) = refl
put-wide place = refl

put-well : (place : OperandPlace) → is_sound_place place ≡ true → is_put temporary_bits (put_of place) ≡ true
put-well (word low high) sound =
    let l = low-location low (and_left (is_low low) (is_high high) sound) in
    let h = high-location high (and_right (is_low low) (is_high high) sound) in
    rw (l.known, l.wide, h.known, h.wide) refl
put-well place sound = refl

abbrev place_of_argument : Procedure → ℕ → OperandPlace
place_of_argument p number = frame_place p word_width (pos (4 + 2 * number))

param-well : (p : Procedure) (number : ℕ) → is_put temporary_bits (argument_param p number).put ≡ true
param-well p number =
    put-well (place_of_argument p number) (frame-good p word_width (pos (4 + 2 * number))).sound

pub params-well : (p : Procedure) → list_all (λ (q : Param). is_put temporary_bits q.put) (params_of p) ≡ true
params-well p =
    let numbers = range_with_len 0 p.frame.args in
    list_all-append (λ (q : Param). is_put temporary_bits q.put) (argument_params p) (map param_of passed)
    ∙ and_both (list_all (λ (q : Param). is_put temporary_bits q.put) (argument_params p)) true
    (list_all-map (λ (q : Param). is_put temporary_bits q.put) (argument_param p) numbers
    ∙ all-true (λ n. is_put temporary_bits (argument_param p n).put) numbers (param-well p))
    refl

pub params-listed : (p : Procedure) (numbers : List ℕ)
    → is_param_list temporary_bits (map (argument_param p) numbers ++ map param_of passed) ≡ true
params-listed p [] = refl
params-listed p (n ∷ numbers) =
    and_both (put_width temporary_bits (argument_param p n).put == 16)
    (is_param_list temporary_bits (map (argument_param p) numbers ++ map param_of passed))
    (eq-eqb (put_width temporary_bits (argument_param p n).put) 16 (put-wide (place_of_argument p n)))
    (params-listed p numbers)

-- arguments have the widths of params
pub taken-wide : (caller : Procedure) (height : ℕ) (callee : Procedure)
    → map (width_of temporary_bits) (arguments_of caller height callee)
    ≡ map (λ (q : Param). put_width temporary_bits q.put) (params_of callee)
taken-wide caller height callee =
    let numbers = range_with_len 0 callee.frame.args in
    map-append (width_of temporary_bits) (map (argument_value caller height) numbers) (map Get passed)
    ∙ ap (λ l. l ++ map (width_of temporary_bits) (map Get passed))
    (map-agree (width_of temporary_bits) (argument_value caller height) (λ n. 16) numbers
    (λ n. (frame-word caller (argument_offset height n)).wide)
    ∙ sym (map-agree (λ (q : Param). put_width temporary_bits q.put) (argument_param callee) (λ n. 16) numbers
    (λ n. put-wide (place_of_argument callee n))))
    ∙ sym (map-append (λ (q : Param). put_width temporary_bits q.put) (argument_params callee) (map param_of passed))

-- Bytes that are given back.

byte-wide : (index : ℕ) → index < 64 → location_width temporary_bits (returned_place index) ≡ 8
byte-wide index less =
    get_or-append-add (8 ∷ 8 ∷ 8 ∷ 16 ∷ 16 ∷ 16 ∷ 32 ∷ 1 ∷ []) (replicate most_returned 8) index 0
    ∙ get_or-replicate most_returned index 8 0 less

returned-location : (index : ℕ) → index < 64 → IsLocationOf 8 (returned_place index)
returned-location index less =
    record { known = below-true (8 + index) 72 (omega (arith, less)); wide = byte-wide index less }

pub results-well : (callee : Procedure) → length (given_back callee) ≤ 32
    → list_all (is_location temporary_bits) (results_of callee) ≡ true
results-well callee few =
    let numbers = range_with_len 0 (2 * length (given_back callee)) in
    list_all-append (is_location temporary_bits) passed (map returned_place numbers)
    ∙ list_all-map (is_location temporary_bits) returned_place numbers
    ∙ range-all (λ n. is_location temporary_bits (returned_place n)) (2 * length (given_back callee)) 0 64
    (omega (arith, few)) (λ n less. (returned-location n less).known)

taking-sound : (caller : Procedure) (height index number : ℕ) → index < 32
    → are_sound (taking_back caller height index number) ≡ true
taking-sound caller height index number less =
    let low = argument_offset height number in
    let high = argument_offset height number +ℤ pos 1 in
    sound-append (storing (frame_place caller byte_width low) (Get (returned_place (2 * index))))
    (storing (frame_place caller byte_width high) (Get (returned_place (2 * index + 1))))
    (stored byte_width (frame_place caller byte_width low) (returned_place (2 * index))
    (frame-good caller byte_width low) (returned-location (2 * index) (omega (arith, less))))
    (stored byte_width (frame_place caller byte_width high) (returned_place (2 * index + 1))
    (frame-good caller byte_width high) (returned-location (2 * index + 1) (omega (arith, less))))

pub taking-all-sound : (caller : Procedure) (height index : ℕ) (numbers : List ℕ) → index + length numbers ≤ 32
    → are_sound (taking_all_back caller height index numbers) ≡ true
taking-all-sound caller height index [] few = refl
taking-all-sound caller height index (number ∷ numbers) few =
    sound-append (taking_back caller height index number) (taking_all_back caller height (suc index) numbers)
    (taking-sound caller height index number (omega (arith, few)))
    (taking-all-sound caller height (suc index) numbers (omega (arith, few)))

pub call-well : (caller : Procedure) (height entry : ℕ) (callee : Procedure) → height ≤ 32766
    → length (given_back callee) ≤ 32
    → is_stmt temporary_bits (Call (results_of callee) entry (arguments_of caller height callee) (height + 2)) ≡ true
call-well caller height entry callee below few =
    let located = list_all (is_location temporary_bits) (results_of callee) in
    let given = list_all (is_expr temporary_bits) (arguments_of caller height callee) in
    and_both (located && given) (nat_lt (height + 2) 65536)
    (and_both located given (results-well callee few)
    (all-both (is_expr temporary_bits) is_shallow (arguments_of caller height callee)
    (arguments-good caller height callee)).0)
    (below-true (height + 2) 65536 (omega (arith, below)))

-- The two bytes of an argument word.

pub record AreTwoBytes (es : List Expr) : Type 0 where
  pub good : are_good es ≡ true
  pub wide : map (width_of temporary_bits) es ≡ 8 ∷ 8 ∷ []

put-bytes : (number : ℕ) (place : OperandPlace) → number < 32 → is_sound_place place ≡ true
    → AreTwoBytes (bytes_at_put number (put_of place))
put-bytes number (word low high) less sound =
    let l = low-location low (and_left (is_low low) (is_high high) sound) in
    let h = high-location high (and_right (is_low low) (is_high high) sound) in
    record { good = rw (l.known, h.known) refl; wide = ap₂ (λ a b. a ∷ b ∷ []) l.wide h.wide }
put-bytes number place less sound =
    let one = address-good (2 * number) (omega (arith, less)) in
    let other = address-good (2 * number + 1) (omega (arith, less)) in
    record { good = rw (one, other) refl; wide = refl }

-- two bytes for each of these numbers
abbrev pub two_each : List ℕ → List ℕ
two_each [] = []
two_each (n ∷ numbers) = 8 ∷ 8 ∷ two_each numbers

pub record AreByPairs (numbers : List ℕ) (es : List Expr) : Type 0 where
  pub good : are_good es ≡ true
  pub wide : map (width_of temporary_bits) es ≡ two_each numbers

-- the param of an argument word, by its number
pub param-at : (p : Procedure) (number : ℕ) → number < p.frame.args
    → slice_get (argument_params p) number ≡ Some (argument_param p number)
param-at p number small =
    let numbers = range_with_len 0 p.frame.args in
    let first : 0 + number ≡ number = omega arith in
    slice_get-map (argument_param p) numbers number
    ∙ ap (option_map (argument_param p))
    (slice_get-get_or numbers number 0 (subst (λ n. number < n) (sym (length-range_with_len 0 p.frame.args)) small)
    ∙ ap Some (get_or-range_with_len 0 p.frame.args number 0 small ∙ first))

module _ (p : Procedure) (few : p.frame.args ≤ 32) where
  param-bytes : (number : ℕ) → number < p.frame.args
      → AreTwoBytes (bytes_of_param number (slice_get (argument_params p) number))
  param-bytes number less =
      subst (λ o. AreTwoBytes (bytes_of_param number o)) (sym (param-at p number less))
      (put-bytes number (place_of_argument p number) (omega (arith, few, less))
      (frame-good p word_width (pos (4 + 2 * number))).sound)

  pub bytes-given : (numbers : List ℕ) → All (λ n. n < p.frame.args) numbers
      → AreByPairs numbers (bytes_of (argument_params p) numbers)
  bytes-given [] below = record { good = refl; wide = refl }
  bytes-given (n ∷ numbers) below =
      let here = param-bytes n (All-head (λ m. m < p.frame.args) n numbers below) in
      let rest = bytes-given numbers (All-tail (λ m. m < p.frame.args) n numbers below) in
      let first = bytes_of_param n (slice_get (argument_params p) n) in
      let others = bytes_of (argument_params p) numbers in
      record {
        good = good-append first others here.good rest.good;
        wide = map-append (width_of temporary_bits) first others ∙ ap₂ (λ a b. a ++ b) here.wide rest.wide;
      }

places-wide : (numbers : List ℕ) (from : ℕ) → from + 2 * length numbers ≤ 64
    → map (location_width temporary_bits) (map returned_place (range_with_len from (2 * length numbers)))
    ≡ two_each numbers
places-wide [] from few = refl
places-wide (n ∷ numbers) from few =
    let count : 2 * length (n ∷ numbers) ≡ suc (suc (2 * length numbers)) = omega arith in
    ap (λ m. map (location_width temporary_bits) (map returned_place (range_with_len from m))) count
    ∙ ap₂ (λ a l. a ∷ l) (byte-wide from (omega (arith, few)))
    (ap₂ (λ a l. a ∷ l) (byte-wide (from + 1) (omega (arith, few)))
    (places-wide numbers (from + 1 + 1) (omega (arith, few))))

-- what a procedure gives has the widths of the places where its callers take it
pub given-wide : (p : Procedure) → p.frame.args ≤ 32 → All (λ n. n < p.frame.args) (given_back p)
    → length (given_back p) ≤ 32
    → map (width_of temporary_bits) (returned_values p) ≡ map (location_width temporary_bits) (results_of p)
given-wide p few below least =
    map-append (width_of temporary_bits) (map Get passed) (bytes_of (argument_params p) (given_back p))
    ∙ ap (λ l. map (width_of temporary_bits) (map Get passed) ++ l)
    ((bytes-given p few (given_back p) below).wide ∙ sym (places-wide (given_back p) 0 (omega (arith, least))))
    ∙ sym (map-append (location_width temporary_bits) passed
    (map returned_place (range_with_len 0 (2 * length (given_back p)))))

pub returned-good : (p : Procedure) → p.frame.args ≤ 32 → All (λ n. n < p.frame.args) (given_back p)
    → are_good (returned_values p) ≡ true
returned-good p few below =
    good-append (map Get passed) (bytes_of (argument_params p) (given_back p)) refl
    (bytes-given p few (given_back p) below).good

-- Numbers of arguments.

pub range-below : (count from limit : ℕ) → from + count ≤ limit → All (λ n. n < limit) (range_with_len from count)
range-below zero from limit below = All-nil (λ n. n < limit)
range-below (suc count) from limit below =
    All-cons (λ n. n < limit) from (range_with_len (from + 1) count) (omega (arith, below))
    (range-below count (from + 1) limit (omega (arith, below)))

pub given-below : (p : Procedure) → All (λ n. n < p.frame.args) (given_back p)
given-below p =
    All-filter (gives_back p.proc p.frame) (λ n. n < p.frame.args) (range_with_len 0 p.frame.args)
    (range-below p.frame.args 0 p.frame.args (omega arith))

few-left : (test : ℕ → Bool) (xs : List ℕ) → length (filter test xs) ≤ length xs
few-left test [] = omega arith
few-left test (x ∷ xs) = go (test x) (few-left test xs)
  where
    go : (b : Bool) → length (filter test xs) ≤ length xs
        → length (if b then x ∷ filter test xs else filter test xs) ≤ length (x ∷ xs)
    go true few = omega (arith, few)
    go false few = omega (arith, few)

pub given-few : (p : Procedure) → p.frame.args ≤ 32 → length (given_back p) ≤ 32
given-few p few =
    let left = few-left (gives_back p.proc p.frame) (range_with_len 0 p.frame.args) in
    let all = length-range_with_len 0 p.frame.args in
    omega (arith, left, all, few)
