-- Sound statements: well formed, no calls, and with expressions that are at most 7 deep; and places whose values are
-- so.
use Rattle.std.proofs.Common.{◌≡◌, ℕ, ◌<◌, ◌≤◌, Bool, true, false, not, ◌&&◌, ◌==◌, List, [], ◌∷◌, ◌++◌, refl, sym, ap, ◌∙◌, subst, true≢false, eq-eqb, arith}
use Rattle.std.specs.Prelude.{nat_le, nat_lt}
use Rattle.std.specs.List.{list_all}
use Rattle.std.proofs.lemmas.Bool.Decides.{nat_tests}
use Rattle.std.proofs.lemmas.List.Folds.{list_all-append}
use Rattle.dcc_num.specs.declared.Width.{Width}
use Rattle.dcc_num.specs.declared.Width.TheVariants.{Byte as byte_width, Word as word_width}
use Rattle.dcc_num.specs.Numbers.{bits_of, limit_of}
use Rattle.dcc_ir.specs.declared.syntax.Loc.{Loc}
use Rattle.dcc_ir.specs.declared.syntax.Loc.TheVariants.{Half, Flag, Cell, Temp}
use Rattle.dcc_ir.specs.Tree.{Expr, Const, Get, Part, Join, Address, Stmt, Set, Fetch, Store}
use Rattle.dcc_ir.specs.Location.{location_width}
use Rattle.dcc_ir.specs.WellFormed.{is_location, is_stored_width, is_expr_of, is_stmt}
use Rattle.dcc_ir.specs.Use.{exprs_of}
use Rattle.dcc_ir.specs.Run.{is_call}
use Rattle.dcc_ir.specs.Measure.{depth_of}
use Rattle.dcc_ops.specs.Temporaries.{temporary_bits, left_place, right_place, result_place}
use Rattle.dcc_ops.specs.OperandPlace.{OperandPlace, constant, byte, word, memory, address, computed, place_width, taking, storing, is_half, is_low, is_high, is_sound_place}
use Rattle.dcc_lift.proofs.ListTests.{and_left, and_right, and_both}

-- Tests.

pub le-true : (m n : ℕ) → m ≤ n → nat_le m n ≡ true
le-true m n le = grind (arith, nat_tests)

pub below-true : (m n : ℕ) → m < n → nat_lt m n ≡ true
below-true m n lt = grind (arith, nat_tests)

-- Sound statements.

-- the expression is at most 7 deep
abbrev pub is_shallow : Expr → Bool
is_shallow e = nat_le (depth_of e) 7

-- the expression is shallow, well formed, and of the width
abbrev pub is_sound_expr : ℕ → Expr → Bool
is_sound_expr width e = is_expr_of temporary_bits width e && is_shallow e

abbrev pub is_sound : Stmt → Bool
is_sound stmt = (is_stmt temporary_bits stmt && list_all is_shallow (exprs_of stmt)) && not (is_call stmt)

abbrev pub are_sound : List Stmt → Bool
are_sound stmts = list_all is_sound stmts

pub sound-of : (stmt : Stmt) → is_stmt temporary_bits stmt ≡ true → list_all is_shallow (exprs_of stmt) ≡ true
    → is_call stmt ≡ false → is_sound stmt ≡ true
sound-of stmt well shallow other =
    and_both (is_stmt temporary_bits stmt && list_all is_shallow (exprs_of stmt)) (not (is_call stmt))
    (and_both (is_stmt temporary_bits stmt) (list_all is_shallow (exprs_of stmt)) well shallow) (ap not other)

pub sound-cons : (stmt : Stmt) (stmts : List Stmt) → is_sound stmt ≡ true → are_sound stmts ≡ true
    → are_sound (stmt ∷ stmts) ≡ true
sound-cons stmt stmts one rest = and_both (is_sound stmt) (are_sound stmts) one rest

pub sound-append : (stmts others : List Stmt) → are_sound stmts ≡ true → are_sound others ≡ true
    → are_sound (stmts ++ others) ≡ true
sound-append stmts others p q =
    list_all-append is_sound stmts others ∙ and_both (are_sound stmts) (are_sound others) p q

pub expr-well : (width : ℕ) (e : Expr) → is_sound_expr width e ≡ true → is_expr_of temporary_bits width e ≡ true
expr-well width e sound = and_left (is_expr_of temporary_bits width e) (is_shallow e) sound

pub expr-shallow : (width : ℕ) (e : Expr) → is_sound_expr width e ≡ true → is_shallow e ≡ true
expr-shallow width e sound = and_right (is_expr_of temporary_bits width e) (is_shallow e) sound

-- Locations.

-- the program has the location, with so many bits
pub record IsLocationOf (width : ℕ) (location : Loc) : Type 0 where
  pub known : is_location temporary_bits location ≡ true
  pub wide : location_width temporary_bits location ≡ width

pub half-location : (location : Loc) → is_half location ≡ true → IsLocationOf 8 location
half-location (Half r half) is = record { known = refl; wide = refl }
half-location (Flag f) is = absurd (true≢false (sym is))
half-location (Cell n half) is = record { known = refl; wide = refl }
half-location (Temp n) is = absurd (true≢false (sym is))

pub low-location : (location : Loc) → is_low location ≡ true → IsLocationOf 8 location
low-location (Half r half) is = record { known = refl; wide = refl }
low-location (Flag f) is = absurd (true≢false (sym is))
low-location (Cell n half) is = record { known = refl; wide = refl }
low-location (Temp n) is = absurd (true≢false (sym is))

pub high-location : (location : Loc) → is_high location ≡ true → IsLocationOf 8 location
high-location (Half r half) is = record { known = refl; wide = refl }
high-location (Flag f) is = absurd (true≢false (sym is))
high-location (Cell n half) is = record { known = refl; wide = refl }
high-location (Temp n) is = absurd (true≢false (sym is))

pub left-location : (w : Width) → IsLocationOf (bits_of w) (left_place w)
left-location byte_width = record { known = refl; wide = refl }
left-location word_width = record { known = refl; wide = refl }

pub right-location : (w : Width) → IsLocationOf (bits_of w) (right_place w)
right-location byte_width = record { known = refl; wide = refl }
right-location word_width = record { known = refl; wide = refl }

pub result-location : (w : Width) → IsLocationOf (bits_of w) (result_place w)
result-location byte_width = record { known = refl; wide = refl }
result-location word_width = record { known = refl; wide = refl }

-- Statements.

pub set-sound : (width : ℕ) (to : Loc) (e : Expr) → IsLocationOf width to → is_sound_expr width e ≡ true
    → is_sound (Set to e) ≡ true
set-sound width to e l sound =
    sound-of (Set to e)
    (and_both (is_location temporary_bits to) (is_expr_of temporary_bits (location_width temporary_bits to) e) l.known
    (subst (λ n. is_expr_of temporary_bits n e ≡ true) (sym l.wide) (expr-well width e sound)))
    (and_both (is_shallow e) true (expr-shallow width e sound) refl) refl

stored-width : (w : Width) → is_stored_width (bits_of w) ≡ true
stored-width byte_width = refl
stored-width word_width = refl

fetch-sound : (w : Width) (to : Loc) (at : Expr) → IsLocationOf (bits_of w) to → is_sound_expr 16 at ≡ true
    → is_sound (Fetch to (bits_of w) at) ≡ true
fetch-sound w to at l sound =
    let known = is_location temporary_bits to in
    let stored = is_stored_width (bits_of w) in
    let same = location_width temporary_bits to == bits_of w in
    sound-of (Fetch to (bits_of w) at)
    (and_both ((known && stored) && same) (is_expr_of temporary_bits 16 at)
    (and_both (known && stored) same (and_both known stored l.known (stored-width w))
    (eq-eqb (location_width temporary_bits to) (bits_of w) l.wide))
    (expr-well 16 at sound))
    (and_both (is_shallow at) true (expr-shallow 16 at sound) refl) refl

pub store-sound : (w : Width) (at e : Expr) → is_sound_expr 16 at ≡ true → is_sound_expr (bits_of w) e ≡ true
    → is_sound (Store (bits_of w) at e) ≡ true
store-sound w at e one other =
    let stored = is_stored_width (bits_of w) in
    let there = is_expr_of temporary_bits 16 at in
    let value = is_expr_of temporary_bits (bits_of w) e in
    sound-of (Store (bits_of w) at e)
    (and_both (stored && there) value (and_both stored there (stored-width w) (expr-well 16 at one))
    (expr-well (bits_of w) e other))
    (and_both (is_shallow at) (is_shallow e && true) (expr-shallow 16 at one)
    (and_both (is_shallow e) true (expr-shallow (bits_of w) e other) refl)) refl

-- Expressions.

pub get-sound : (width : ℕ) (location : Loc) → IsLocationOf width location → is_sound_expr width (Get location) ≡ true
get-sound width location l =
    let same = location_width temporary_bits location == width in
    and_both (is_location temporary_bits location && same) true
    (and_both (is_location temporary_bits location) same l.known
    (eq-eqb (location_width temporary_bits location) width l.wide)) refl

pub constant-sound : (w : Width) (n : ℕ) → n < limit_of w → is_sound_expr (bits_of w) (Const (bits_of w) n) ≡ true
constant-sound byte_width n fits = let below = below-true n 256 fits in rw below refl
constant-sound word_width n fits = let below = below-true n 65536 fits in rw below refl

pub address-sound : (n : ℕ) → n < 65536 → is_sound_expr 16 (Address n) ≡ true
address-sound n fits = let below = below-true n 65536 fits in rw below refl

-- the low and the high byte of a word
low-byte : (location : Loc) → IsLocationOf 16 location → is_sound_expr 8 (Part 8 0 (Get location)) ≡ true
low-byte location l = rw (l.known, l.wide) refl

high-byte : (location : Loc) → IsLocationOf 16 location → is_sound_expr 8 (Part 8 8 (Get location)) ≡ true
high-byte location l = rw (l.known, l.wide) refl

pub join-sound : (low high : Loc) → IsLocationOf 8 low → IsLocationOf 8 high
    → is_sound_expr 16 (Join (Get high) (Get low)) ≡ true
join-sound low high l h = rw (l.known, l.wide, h.known, h.wide) refl

-- Places.

-- what the place holds is sound, where it is no half
abbrev pub IsGoodValue : OperandPlace → Type 0
IsGoodValue (constant w n) = n < limit_of w
IsGoodValue (memory w at) = is_sound_expr 16 at ≡ true
IsGoodValue (address distance) = distance < 65536
IsGoodValue (computed e) = is_sound_expr 16 e ≡ true
IsGoodValue place = Unit {0}

pub record IsGoodPlace (w : Width) (p : OperandPlace) : Type 0 where
  pub width : place_width p ≡ w
  pub sound : is_sound_place p ≡ true
  pub value : IsGoodValue p

taking-good : (to : Loc) (p : OperandPlace) → is_sound_place p ≡ true → IsGoodValue p
    → IsLocationOf (bits_of (place_width p)) to → is_sound (taking to p) ≡ true
taking-good to (constant w n) sound good l =
    set-sound (bits_of w) to (Const (bits_of w) n) l (constant-sound w n good)
taking-good to (byte location) sound good l =
    set-sound 8 to (Get location) l (get-sound 8 location (half-location location sound))
taking-good to (word low high) sound good l =
    let low_one = and_left (is_low low) (is_high high) sound in
    let high_one = and_right (is_low low) (is_high high) sound in
    set-sound 16 to (Join (Get high) (Get low)) l
    (join-sound low high (low-location low low_one) (high-location high high_one))
taking-good to (memory w at) sound good l = fetch-sound w to at l good
taking-good to (address distance) sound good l = set-sound 16 to (Address distance) l (address-sound distance good)
taking-good to (computed e) sound good l = set-sound 16 to e l good

-- a location takes what a place holds
pub taken : (w : Width) (to : Loc) (p : OperandPlace) → IsGoodPlace w p → IsLocationOf (bits_of w) to
    → is_sound (taking to p) ≡ true
taken w to p good l =
    taking-good to p good.sound good.value (subst (λ v. IsLocationOf (bits_of v) to) (sym good.width) l)

pub halves-set : (low high : Loc) (e f : Expr) → (is_low low && is_high high) ≡ true → is_sound_expr 8 e ≡ true
    → is_sound_expr 8 f ≡ true → are_sound (Set low e ∷ Set high f ∷ []) ≡ true
halves-set low high e f sound one other =
    sound-cons (Set low e) (Set high f ∷ [])
    (set-sound 8 low e (low-location low (and_left (is_low low) (is_high high) sound)) one)
    (sound-cons (Set high f) []
    (set-sound 8 high f (high-location high (and_right (is_low low) (is_high high) sound)) other) refl)

storing-good : (p : OperandPlace) (from : Loc) → is_sound_place p ≡ true → IsGoodValue p
    → IsLocationOf (bits_of (place_width p)) from → are_sound (storing p (Get from)) ≡ true
storing-good (constant w n) from sound good l = refl
storing-good (byte location) from sound good l =
    sound-cons (Set location (Get from)) []
    (set-sound 8 location (Get from) (half-location location sound) (get-sound 8 from l)) refl
storing-good (word low high) from sound good l =
    halves-set low high (Part 8 0 (Get from)) (Part 8 8 (Get from)) sound (low-byte from l) (high-byte from l)
storing-good (memory w at) from sound good l =
    sound-cons (Store (bits_of w) at (Get from)) []
    (store-sound w at (Get from) good (get-sound (bits_of w) from l)) refl
storing-good (address distance) from sound good l = refl
storing-good (computed e) from sound good l = refl

-- a place takes what a location holds
pub stored : (w : Width) (p : OperandPlace) (from : Loc) → IsGoodPlace w p → IsLocationOf (bits_of w) from
    → are_sound (storing p (Get from)) ≡ true
stored w p from good l =
    storing-good p from good.sound good.value (subst (λ v. IsLocationOf (bits_of v) from) (sym good.width) l)

-- what the halves of a word hold
pub halves-located : (low high : Loc) → (is_low low && is_high high) ≡ true → IsLocationOf 8 low × IsLocationOf 8 high
halves-located low high sound = (
  low-location low (and_left (is_low low) (is_high high) sound),
  high-location high (and_right (is_low low) (is_high high) sound),
)
