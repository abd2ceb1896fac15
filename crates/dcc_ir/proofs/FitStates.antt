-- What fits stays fit: values, memory, input and events after a statement.
use Rattle.std.proofs.Common.{◌≡◌, ℕ, zero, suc, ◌+◌, ◌*◌, ◌/◌, ◌%◌, ◌^◌, ◌<◌, Bool, true, false, cond, ◌&&◌, ◌||◌, inl, inr, List, [], ◌∷◌, ◌++◌, length, map, Option, Some, None, refl, sym, ap, ◌∙◌, subst, true≢false, eqb-true, lit<, arith}
use Rattle.std.specs.Prelude.{if◌then◌else◌, ◌==◌, unwrap_or, slice_index, slice_set, take_while, All}
use Rattle.std.proofs.lemmas.Nat.{pow_pos, mod_below}
use Rattle.std.proofs.lemmas.List.{length-set}
use Rattle.std.proofs.lemmas.List.Elements.{All-nil, All-cons, All-head, All-tail, All-append, All-map}
use Rattle.std.proofs.lemmas.List.Sums.{take_while-cons}
use Rattle.std.specs.List.{list_all, range_with_len}
use Rattle.dcc_run.specs.End.{is_over}
use Rattle.dcc_run.specs.Event.{Event, Wrote, Took, MetEnd, written_by, taken_by, writes}
use Rattle.dcc_run.proofs.EventLaws.{written-append, taken-append, written-writes, taken-writes}
use Rattle.dcc_ir.specs.declared.syntax.Loc.{Loc}
use Rattle.dcc_ir.specs.declared.syntax.Loc.TheVariants.{Half, Flag, Cell, Temp}
use Rattle.dcc_ir.specs.declared.syntax.BinOp.{BinOp}
use Rattle.dcc_ir.specs.declared.syntax.BinOp.TheVariants.{DivS, DivU, RemS, RemU}
use Rattle.dcc_ir.specs.Tree.{Expr, Binary, Stmt, Set, Fetch, Store, Div, Call, Dos}
use Rattle.dcc_ir.specs.Location.{same_location, location_width, Values, with_value, fill_at, filled}
use Rattle.dcc_ir.specs.Value.{width_of, division_at, bytes_at, with_bytes_at, byte_at, division_of, Fits}
use Rattle.dcc_ir.specs.Dos.{is_not_dollar, dos_string}
use Rattle.dcc_ir.specs.WellFormed.{is_location, is_stored_width, is_division, is_expr, is_expr_of, is_dividing, is_byte_place, is_dos, is_stmt}
use Rattle.dcc_ir.specs.Run.{State, scene_of, value_in, setting, storing, dividing, happening, writing, taking, keyed, argument_in, dos_step, stmt_step, execute}
use Rattle.dcc_ir.specs.Fitting.{AreBytes}
use Rattle.dcc_ir.proofs.FitLaws.{both, either, stored, bytes_below, binary_fits, at_width, value_fits}
use Rattle.dcc_ir.proofs.StepLaws.{stmt-within}

-- Values.

-- each location holds a number of its width
abbrev pub AreValues : List ℕ → Values → Type 0
AreValues bits values = (location : Loc) → values location < 2 ^ location_width bits location

same_width : (bits : List ℕ) (a b : Loc) → same_location a b ≡ true → location_width bits a ≡ location_width bits b
same_width bits (Half r h) (Half r' h') e = refl
same_width bits (Flag f) (Flag f') e = refl
same_width bits (Cell n h) (Cell n' h') e = refl
same_width bits (Temp n) (Temp n') e = ap (λ k. location_width bits (Temp k)) (eqb-true n n' e)
same_width bits (Half r h) (Flag f') e = absurd (true≢false (sym e))
same_width bits (Half r h) (Cell n' h') e = absurd (true≢false (sym e))
same_width bits (Half r h) (Temp n') e = absurd (true≢false (sym e))
same_width bits (Flag f) (Half r' h') e = absurd (true≢false (sym e))
same_width bits (Flag f) (Cell n' h') e = absurd (true≢false (sym e))
same_width bits (Flag f) (Temp n') e = absurd (true≢false (sym e))
same_width bits (Cell n h) (Half r' h') e = absurd (true≢false (sym e))
same_width bits (Cell n h) (Flag f') e = absurd (true≢false (sym e))
same_width bits (Cell n h) (Temp n') e = absurd (true≢false (sym e))
same_width bits (Temp n) (Half r' h') e = absurd (true≢false (sym e))
same_width bits (Temp n) (Flag f') e = absurd (true≢false (sym e))
same_width bits (Temp n) (Cell n' h') e = absurd (true≢false (sym e))

with_value-are : (bits : List ℕ) (values : Values) (location : Loc) (n : ℕ) → n < 2 ^ location_width bits location → AreValues bits values → AreValues bits (with_value values location n)
with_value-are bits values location n small are other = go (same_location other location) refl
  where
    go : (b : Bool) → same_location other location ≡ b → (if b then n else values other) < 2 ^ location_width bits other
    go true e = subst (λ k. n < 2 ^ k) (sym (same_width bits other location e)) small
    go false e = are other

pub filled-are : (bits : List ℕ) (fill : ℕ) → AreValues bits (filled bits fill)
filled-are bits fill location = fill_below (location_width bits location)
  where
    fill_below : (width : ℕ) → fill_at width fill < 2 ^ width
    fill_below width = mod_below _ (2 ^ width) (pow_pos width)

-- Memory.

-- 65,536 bytes
pub record IsMemory (memory : List ℕ) : Type 0 where
  pub len : length memory ≡ 65536
  pub bytes : (address : ℕ) → slice_index memory address < 256

byte-set : (xs : List ℕ) (k v : ℕ) → ((i : ℕ) → slice_index xs i < 256) → v < 256 → (i : ℕ) → slice_index (slice_set xs k v) i < 256
byte-set [] k v bytes small i = bytes i
byte-set (x ∷ xs) zero v bytes small zero = small
byte-set (x ∷ xs) zero v bytes small (suc i) = bytes (suc i)
byte-set (x ∷ xs) (suc k) v bytes small zero = bytes 0
byte-set (x ∷ xs) (suc k) v bytes small (suc i) = byte-set xs k v (λ j. bytes (suc j)) small i

with_bytes-is : (memory : List ℕ) (count address n : ℕ) → IsMemory memory → IsMemory (with_bytes_at memory count address n)
with_bytes-is memory zero address n h = h
with_bytes-is memory (suc count) address n h = with_bytes-is (slice_set memory (address % 65536) (n % 256)) count (address + 1) (n / 256) (record {
  len = length-set memory (address % 65536) (n % 256) ∙ h.len;
  bytes = byte-set memory (address % 65536) (n % 256) h.bytes (mod_below n 256 (lit< tt));
})

-- The console.

pub record IsConsole (input : List ℕ) (events : List Event) : Type 0 where
  pub left : AreBytes input
  pub written : AreBytes (written_by events)
  pub taken : AreBytes (taken_by events)

abbrev byte_is : ℕ → Type 0
byte_is n = n < 256

more-is : (input : List ℕ) (events more : List Event) → AreBytes (written_by more) → AreBytes (taken_by more) → IsConsole input events → IsConsole input (events ++ more)
more-is input events more written taken h = record {
  left = h.left;
  written = subst (All byte_is) (sym (written-append events more)) (All-append byte_is (written_by events) (written_by more) h.written written);
  taken = subst (All byte_is) (sym (taken-append events more)) (All-append byte_is (taken_by events) (taken_by more) h.taken taken);
}

-- States.

-- what the running activation, the memory and the console hold fits
pub record IsFit (s : State) : Type 0 where
  pub values : AreValues s.running.graph.bits s.running.values
  pub memory : IsMemory s.memory
  pub console : IsConsole s.input s.events

pub scene-fits : (s : State) → IsFit s → Fits (scene_of s)
scene-fits s h = record { values = h.values; len = h.memory.len; bytes = h.memory.bytes }

pub setting-fit : (location : Loc) (n : ℕ) (s : State) → n < 2 ^ location_width s.running.graph.bits location → IsFit s → IsFit (setting location n s)
setting-fit location n s small h = record { values = with_value-are s.running.graph.bits s.running.values location n small h.values; memory = h.memory; console = h.console }

pub storing-fit : (width address n : ℕ) (s : State) → IsFit s → IsFit (storing width address n s)
storing-fit width address n s h = record { values = h.values; memory = with_bytes-is s.memory (width / 8) address n h.memory; console = h.console }

happening-fit : (events : List Event) (s : State) → AreBytes (written_by events) → AreBytes (taken_by events) → IsFit s → IsFit (happening events s)
happening-fit events s written taken h = record { values = h.values; memory = h.memory; console = more-is s.input s.events events written taken h.console }

writing-fit : (bytes : List ℕ) (s : State) → AreBytes bytes → IsFit s → IsFit (writing bytes s)
writing-fit bytes s are h =
    happening-fit (writes bytes) s (subst (All byte_is) (sym (written-writes bytes)) are) (subst (All byte_is) (sym (taken-writes bytes)) (All-nil byte_is)) h

-- Statements.

-- the value of an expression of that width
value-of : (s : State) (width : ℕ) (e : Expr) → IsFit s → is_expr_of s.running.graph.bits width e ≡ true → value_in s e < 2 ^ width
value-of s width e h ok =
    let two = both (is_expr s.running.graph.bits e) (width_of s.running.graph.bits e == width) ok in
    at_width (value_in s e) (width_of s.running.graph.bits e) width two.1 (value_fits (scene_of s) (scene-fits s h) e two.0)

set-fit : (location : Loc) (e : Expr) (s : State) → is_stmt s.running.graph.bits (Set location e) ≡ true → IsFit s → IsFit (stmt_step (Set location e) s)
set-fit location e s ok h =
    setting-fit location (value_in s e) s (value-of s (location_width s.running.graph.bits location) e h (both (is_location s.running.graph.bits location) _ ok).1) h

fetch-fit : (location : Loc) (width : ℕ) (address : Expr) (s : State) → is_stmt s.running.graph.bits (Fetch location width address) ≡ true → IsFit s →
    IsFit (stmt_step (Fetch location width address) s)
fetch-fit location width address s ok h =
    let bits = s.running.graph.bits in
    let three = both (is_location bits location && is_stored_width width && (location_width bits location == width)) (is_expr_of bits 16 address) ok in
    let two = both (is_location bits location && is_stored_width width) (location_width bits location == width) three.0 in
    let one = both (is_location bits location) (is_stored_width width) two.0 in
    let same : location_width bits location ≡ width = eqb-true (location_width bits location) width two.1 in
    let small = bytes_below s.memory h.memory.bytes (width / 8) (value_in s address) in
    let size : 8 * (width / 8) ≡ location_width bits location = stored width one.1 ∙ sym same in
    setting-fit location (bytes_at s.memory (width / 8) (value_in s address)) s (subst (λ k. bytes_at s.memory (width / 8) (value_in s address) < 2 ^ k) size small) h

division-below : (operator : BinOp) (width a b n : ℕ) → is_division operator ≡ true → a < 2 ^ width → b < 2 ^ width → division_at operator width a b ≡ Some n → n < 2 ^ width
division-below DivS width a b n ok x y e = subst (λ o. unwrap_or o 0 < 2 ^ width) e (binary_fits DivS width a b x y)
division-below DivU width a b n ok x y e = subst (λ o. unwrap_or o 0 < 2 ^ width) e (binary_fits DivU width a b x y)
division-below RemS width a b n ok x y e = subst (λ o. unwrap_or o 0 < 2 ^ width) e (binary_fits RemS width a b x y)
division-below RemU width a b n ok x y e = subst (λ o. unwrap_or o 0 < 2 ^ width) e (binary_fits RemU width a b x y)
division-below operator width a b n ok x y e = absurd (true≢false (sym ok))

dividing-fit : (location : Loc) (o : Option ℕ) (s : State) → ((n : ℕ) → o ≡ Some n → n < 2 ^ location_width s.running.graph.bits location) → IsFit s → IsFit (dividing location o s)
dividing-fit location (Some n) s small h = setting-fit location n s (small n refl) h
dividing-fit location None s small h = record { values = h.values; memory = h.memory; console = h.console }

div-fit : (location : Loc) (e : Expr) (s : State) → is_dividing s.running.graph.bits (location_width s.running.graph.bits location) e ≡ true → IsFit s →
    IsFit (dividing location (division_of (scene_of s) e) s)
div-fit location (Binary operator w a b) s ok h =
    let bits = s.running.graph.bits in
    let width = location_width bits location in
    let four = both (is_division operator && (w == width) && is_stored_width width && is_expr_of bits width a) (is_expr_of bits width b) ok in
    let three = both (is_division operator && (w == width) && is_stored_width width) (is_expr_of bits width a) four.0 in
    let two = both (is_division operator && (w == width)) (is_stored_width width) three.0 in
    let one = both (is_division operator) (w == width) two.0 in
    let x = value-of s width a h three.1 in
    let y = value-of s width b h four.1 in
    let same : w ≡ width = eqb-true w width one.1 in
    dividing-fit location (division_at operator w (value_in s a) (value_in s b)) s
    (λ n o. division-below operator width (value_in s a) (value_in s b) n one.0 x y (subst (λ k. division_at operator k (value_in s a) (value_in s b) ≡ Some n) same o)) h
div-fit location e s ok h = absurd (true≢false (sym ok))

taking-fit : (place : Option Loc) (byte : ℕ) (s : State) → is_byte_place s.running.graph.bits place ≡ true → byte < 256 → IsFit s → IsFit (taking place byte s)
taking-fit None byte s ok small h = h
taking-fit (Some location) byte s ok small h =
    let eight : location_width s.running.graph.bits location ≡ 8 = eqb-true (location_width s.running.graph.bits location) 8 (both (is_location s.running.graph.bits location) _ ok).1 in
    setting-fit location byte s (subst (λ k. byte < 2 ^ k) (sym eight) small) h

one_byte : (n : ℕ) → n < 256 → AreBytes (n ∷ [])
one_byte n small = All-cons byte_is n [] small (All-nil byte_is)

keyed-fit : (echo : Bool) (place : Option Loc) (input : List ℕ) (s : State) → is_byte_place s.running.graph.bits place ≡ true → AreBytes input → IsFit s → IsFit (keyed echo place input s)
keyed-fit echo place [] s ok bytes h =
    happening-fit (MetEnd ∷ []) (taking place 0x1A s) (All-nil byte_is) (All-nil byte_is) (taking-fit place 0x1A s ok (lit< tt) h)
keyed-fit echo place (byte ∷ input) s ok bytes h =
    let small = All-head byte_is byte input bytes in
    let left : State = record s { input = input } in
    let fit : IsFit left = record { values = h.values; memory = h.memory; console = record { left = All-tail byte_is byte input bytes; written = h.console.written; taken = h.console.taken } } in
    happening-fit (Took byte ∷ (if echo then Wrote byte ∷ [] else [])) (taking place byte left)
    (elim echo as (λ b. AreBytes (written_by (Took byte ∷ (if b then Wrote byte ∷ [] else [])))) [ true ↦ one_byte byte small | false ↦ All-nil byte_is ])
    (elim echo as (λ b. AreBytes (taken_by (Took byte ∷ (if b then Wrote byte ∷ [] else [])))) [ true ↦ one_byte byte small | false ↦ one_byte byte small ])
    (taking-fit place byte left ok small fit)

taken_while-are : (test : ℕ → Bool) (xs : List ℕ) → AreBytes xs → AreBytes (take_while test xs)
taken_while-are test [] h = All-nil byte_is
taken_while-are test (x ∷ xs) h =
    let rest = taken_while-are test xs (All-tail byte_is x xs h) in
    subst (All byte_is) (sym (take_while-cons test x xs))
    (elim (test x) as (λ b. AreBytes (cond b (x ∷ take_while test xs) [])) [ true ↦ All-cons byte_is x (take_while test xs) (All-head byte_is x xs h) rest | false ↦ All-nil byte_is ])

string-is : (memory : List ℕ) (address : ℕ) → IsMemory memory → AreBytes (dos_string memory address)
unfolding dos_string
string-is memory address h =
    taken_while-are is_not_dollar (map (λ k. byte_at memory (address + k)) (range_with_len 0 65536))
    (All-map byte_is (λ k. byte_at memory (address + k)) (range_with_len 0 65536) (λ i d lt. h.bytes _))

-- the place that a DOS call takes is one of a byte, and what is written is a byte
dos-place : (bits : List ℕ) (number : ℕ) (place : Option Loc) (argument : Option Expr) → is_dos bits number place argument ≡ true → is_byte_place bits place ≡ true
dos-place bits number None argument ok = refl
dos-place bits number (Some location) None ok = (both (number == 0x01 || number == 0x08) (is_byte_place bits (Some location)) ok).1
dos-place bits number (Some location) (Some e) ok = absurd (true≢false (sym ok))

dos-byte : (s : State) (number : ℕ) (place : Option Loc) (argument : Option Expr) → is_dos s.running.graph.bits number place argument ≡ true → IsFit s → number ≡ 0x02
    → argument_in s argument < 256
dos-byte s number place None ok h e = lit< tt
dos-byte s number (Some location) (Some a) ok h e = absurd (true≢false (sym ok))
dos-byte s number None (Some a) ok h e =
    let bits = s.running.graph.bits in
    elim (either ((number == 0x02 || number == 0x4C) && is_expr_of bits 8 a) ((number == 0x09) && is_expr_of bits 16 a) ok) [
      | inl l ↦ value-of s 8 a h (both (number == 0x02 || number == 0x4C) (is_expr_of bits 8 a) l).1
      | inr r ↦
          let nine : number ≡ 0x09 = eqb-true number 0x09 (both (number == 0x09) (is_expr_of bits 16 a) r).0 in
          let no : 0x02 ≡ 0x09 = sym e ∙ nine in
          absurd (omega (arith, no))
    ]

fit_if : (b : Bool) (t u : State) → (b ≡ true → IsFit t) → IsFit u → IsFit (if b then t else u)
fit_if true t u h k = h refl
fit_if false t u h k = k

dos-fit : (number : ℕ) (place : Option Loc) (argument : Option Expr) (s : State) → is_dos s.running.graph.bits number place argument ≡ true → IsFit s →
    IsFit (dos_step number place (argument_in s argument) s)
dos-fit number place argument s ok h =
    let n = argument_in s argument in
    let at = dos-place s.running.graph.bits number place argument ok in
    fit_if (number == 0x02) _ _ (λ e. writing-fit (n ∷ []) s (one_byte n (dos-byte s number place argument ok h (eqb-true number 0x02 e))) h)
    (fit_if (number == 0x4C) _ _ (λ e. record { values = h.values; memory = h.memory; console = h.console })
    (fit_if (number == 0x01) _ _ (λ e. keyed-fit true place s.input s at h.console.left h)
    (fit_if (number == 0x08) _ _ (λ e. keyed-fit false place s.input s at h.console.left h)
    (fit_if (number == 0x09) _ _ (λ e. writing-fit (dos_string s.memory n) s (string-is s.memory n h.memory) h)
    (record { values = h.values; memory = h.memory; console = h.console })))))

-- a well-formed statement keeps what fits
pub stmt-fit : (stmt : Stmt) (s : State) → is_stmt s.running.graph.bits stmt ≡ true → IsFit s → IsFit (stmt_step stmt s)
stmt-fit (Set location e) s ok h = set-fit location e s ok h
stmt-fit (Fetch location width address) s ok h = fetch-fit location width address s ok h
stmt-fit (Store width address e) s ok h = storing-fit width (value_in s address) (value_in s e) s h
stmt-fit (Div location e) s ok h = div-fit location e s (both (is_location s.running.graph.bits location) _ ok).1 h
stmt-fit (Dos number place argument) s ok h = dos-fit number place argument s ok h
stmt-fit (Call results entry arguments depth) s ok h = record { values = h.values; memory = h.memory; console = h.console }

-- well-formed statements one after another keep what fits
pub execute-fit : (stmts : List Stmt) (s : State) → list_all (is_stmt s.running.graph.bits) stmts ≡ true → IsFit s → IsFit (execute stmts s)
execute-fit [] s ok h = h
execute-fit (stmt ∷ stmts) s ok h =
    let parts = both (is_stmt s.running.graph.bits stmt) (list_all (is_stmt s.running.graph.bits) stmts) ok in
    let later : list_all (is_stmt (stmt_step stmt s).running.graph.bits) stmts ≡ true = subst (λ g. list_all (is_stmt g.bits) stmts ≡ true) (sym (stmt-within stmt s).graph) parts.1 in
    let last = execute-fit stmts (stmt_step stmt s) later (stmt-fit stmt s parts.0 h) in
    elim (is_over s.end) as (λ b. IsFit (if b then s else execute stmts (stmt_step stmt s))) [ true ↦ h | false ↦ last ]
