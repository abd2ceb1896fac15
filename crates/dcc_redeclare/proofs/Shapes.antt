-- Addresses, depth and what can be written, where variables have other types.
use Rattle.std.proofs.Common.{◌≡◌, ℕ, suc, ◌+◌, ◌≤◌, Bool, true, false, ◌&&◌, ◌||◌, List, ◌++◌, Option, Some, None, refl, sym, ap, ap₂, ◌∙◌, arith}
use Rattle.std.specs.Prelude.{nat_le, if◌then◌else◌}
use Rattle.std.specs.List.{list_any}
use Rattle.std.proofs.lemmas.List.Folds.{list_any-append}
use Rattle.std.proofs.lemmas.Bool.{and_parts}
use Rattle.dcc_c.specs.declared.syntax.CType.{CType}
use Rattle.dcc_c.specs.declared.syntax.CUn.{CUn}
use Rattle.dcc_c.specs.declared.syntax.CUn.TheVariants.{Minus, Complement, Not, Deref, AddressOf}
use Rattle.dcc_c.specs.Tree.{Word, Expr, Number, Name, Unary, Binary, Conditional, Cast}
use Rattle.dcc_c.specs.Parts.{parts_of}
use Rattle.dcc_c.specs.Placement.{is_address_of}
use Rattle.dcc_c.specs.Rules.{expr_depth}
use Rattle.dcc_c.specs.Typing.{Declared, type_of}
use Rattle.dcc_c.proofs.Writable.{may_take, is_writable_expr, is_place, is_writable_place}
use Rattle.dcc_redeclare.specs.Redeclared.{is_name, has_type, was, read, bare, cast_read, is_bare, spares_left, spares_right, spares_one, exact, placed, room_of}

module _ (old new : List Declared) where
  -- what holds of each form of a read
  read-is : (P : Expr → Type 0) (name : Expr) → P name → ((type : CType) → P (Cast type name)) → P (read old new name)
  read-is P name bare_one cast_one = by (was old new name)
    where
      by : (o : Option CType) → P (elim o [ Some type ↦ Cast type name | None ↦ name ])
      by (Some type) = cast_one type
      by None = bare_one

  cast-is : (P : Expr → Type 0) (type : CType) (name : Expr) → P name → P (Cast type name) → ((own : CType) → P (Cast type (Cast own name))) → P (cast_read old new type name)
  cast-is P type name bare_one cast_one cast_two = by (was old new name)
    where
      either : (b : Bool) → P (if b then name else Cast type name)
      either true = bare_one
      either false = cast_one

      fits : (b : Bool) (own : CType) → P (if b then bare old new type name else Cast type (Cast own name))
      fits true own = either (has_type (type_of new name) type)
      fits false own = cast_two own

      by : (o : Option CType) → P (elim o [ Some own ↦ if nat_le (room_of type) (room_of own) then bare old new type name else Cast type (Cast own name) | None ↦ Cast type name ])
      by (Some own) = fits (nat_le (room_of type) (room_of own)) own
      by None = cast_one

  either-is : (P : Expr → Type 0) (b : Bool) (a : Expr) → P a → P (exact old new a) → P (if b then a else exact old new a)
  either-is P true a one two = one
  either-is P false a one two = two

  -- Addresses.

  module _ (word : Word) where
    abbrev pub Same : Expr → Expr → Type 0
    Same e h = list_any (is_address_of word) (parts_of h) ≡ list_any (is_address_of word) (parts_of e)

    two-same : (a b h k : Expr) → Same a h → Same b k → list_any (is_address_of word) (parts_of h ++ parts_of k) ≡ list_any (is_address_of word) (parts_of a ++ parts_of b)
    two-same a b h k first second =
        list_any-append (is_address_of word) (parts_of h) (parts_of k) ∙ ap₂ (λ x y. x || y) first second ∙ sym (list_any-append (is_address_of word) (parts_of a) (parts_of b))

    three-same : (a b c h k l : Expr) → Same a h → Same b k → Same c l → list_any (is_address_of word) (parts_of h ++ (parts_of k ++ parts_of l)) ≡ list_any (is_address_of word) (parts_of a ++ (parts_of b ++ parts_of c))
    three-same a b c h k l first second third =
        list_any-append (is_address_of word) (parts_of h) (parts_of k ++ parts_of l) ∙ ap₂ (λ x y. x || y) first (two-same b c k l second third)
        ∙ sym (list_any-append (is_address_of word) (parts_of a) (parts_of b ++ parts_of c))

    pub exact-addresses : (e : Expr) → Same e (exact old new e)
    exact-addresses (Number n base) = refl
    exact-addresses (Name other) = read-is (Same (Name other)) (Name other) refl (λ type. refl)
    exact-addresses (Unary AddressOf a) = refl
    exact-addresses (Unary Not a) = either-is (Same a) (is_bare old new a) a refl (exact-addresses a)
    exact-addresses (Unary Minus a) = exact-addresses a
    exact-addresses (Unary Complement a) = exact-addresses a
    exact-addresses (Unary Deref a) = exact-addresses a
    exact-addresses (Binary operator a b) =
        two-same a b (if spares_left old new operator a b then a else exact old new a) (if spares_right old new operator a b then b else exact old new b)
        (either-is (Same a) (spares_left old new operator a b) a refl (exact-addresses a)) (either-is (Same b) (spares_right old new operator a b) b refl (exact-addresses b))
    exact-addresses (Conditional a b c) =
        three-same a b c (if is_bare old new a then a else exact old new a) (exact old new b) (exact old new c)
        (either-is (Same a) (is_bare old new a) a refl (exact-addresses a)) (exact-addresses b) (exact-addresses c)
    exact-addresses (Cast type (Name other)) = cast-is (Same (Cast type (Name other))) type (Name other) refl refl (λ own. refl)
    exact-addresses (Cast type (Number n base)) = refl
    exact-addresses (Cast type (Unary operator a)) = exact-addresses (Unary operator a)
    exact-addresses (Cast type (Binary operator a b)) = exact-addresses (Binary operator a b)
    exact-addresses (Cast type (Conditional a b c)) = exact-addresses (Conditional a b c)
    exact-addresses (Cast type (Cast other a)) = exact-addresses (Cast other a)

    pub tested-addresses : (e : Expr) → Same e (if is_bare old new e then e else exact old new e)
    tested-addresses e = either-is (Same e) (is_bare old new e) e refl (exact-addresses e)

    pub placed-addresses : (e : Expr) → Same e (placed old new e)
    placed-addresses e = either-is (Same e) (is_name e) e refl (exact-addresses e)

  -- What can be written.

  abbrev pub Written : Expr → Expr → Type 0
  Written e h = is_writable_expr h ≡ is_writable_expr e

  pub exact-written : (e : Expr) → Written e (exact old new e)
  exact-written (Number n base) = refl
  exact-written (Name other) = read-is (Written (Name other)) (Name other) refl (λ type. refl)
  exact-written (Unary AddressOf a) = refl
  exact-written (Unary Not a) = either-is (Written a) (is_bare old new a) a refl (exact-written a)
  exact-written (Unary Minus a) = exact-written a
  exact-written (Unary Complement a) = exact-written a
  exact-written (Unary Deref a) = exact-written a
  exact-written (Binary operator a b) =
      ap₂ (λ x y. x && y) (either-is (Written a) (spares_left old new operator a b) a refl (exact-written a)) (either-is (Written b) (spares_right old new operator a b) b refl (exact-written b))
  exact-written (Conditional a b c) =
      ap₂ (λ x y. x && y) (either-is (Written a) (is_bare old new a) a refl (exact-written a)) (ap₂ (λ x y. x && y) (exact-written b) (exact-written c))
  exact-written (Cast type (Name other)) = cast-is (Written (Cast type (Name other))) type (Name other) refl refl (λ own. refl)
  exact-written (Cast type (Number n base)) = refl
  exact-written (Cast type (Unary operator a)) = exact-written (Unary operator a)
  exact-written (Cast type (Binary operator a b)) = exact-written (Binary operator a b)
  exact-written (Cast type (Conditional a b c)) = exact-written (Conditional a b c)
  exact-written (Cast type (Cast other a)) = exact-written (Cast other a)

  pub tested-written : (e : Expr) → Written e (if is_bare old new e then e else exact old new e)
  tested-written e = either-is (Written e) (is_bare old new e) e refl (exact-written e)

  pub placed-written : (place : Expr) → is_writable_place place ≡ true → is_writable_place (placed old new place) ≡ true
  placed-written (Name word) is = is
  placed-written (Unary Deref a) is = exact-written (Unary Deref a) ∙ is
  placed-written (Unary Minus a) is = absurd cc
  placed-written (Unary Complement a) is = absurd cc
  placed-written (Unary Not a) is = absurd cc
  placed-written (Unary AddressOf a) is = absurd cc
  placed-written (Number n base) is = absurd cc
  placed-written (Binary operator a b) is = absurd cc
  placed-written (Conditional a b c) is = absurd cc
  placed-written (Cast type a) is = absurd cc

  -- Depth.

  abbrev pub Deep : Expr → Expr → Type 0
  Deep e h = expr_depth h ≤ suc (expr_depth e)

  pub exact-depth : (e : Expr) → Deep e (exact old new e)
  exact-depth (Number n base) = omega arith
  exact-depth (Name other) = read-is (Deep (Name other)) (Name other) (omega arith) (λ type. omega arith)
  exact-depth (Unary AddressOf a) = omega arith
  exact-depth (Unary Not a) = let x = either-is (Deep a) (is_bare old new a) a (omega arith) (exact-depth a) in omega (arith, x)
  exact-depth (Unary Minus a) = let x = exact-depth a in omega (arith, x)
  exact-depth (Unary Complement a) = let x = exact-depth a in omega (arith, x)
  exact-depth (Unary Deref a) = let x = exact-depth a in omega (arith, x)
  exact-depth (Binary operator a b) =
      let x = either-is (Deep a) (spares_left old new operator a b) a (omega arith) (exact-depth a) in
      let y = either-is (Deep b) (spares_right old new operator a b) b (omega arith) (exact-depth b) in
      omega (arith, x, y)
  exact-depth (Conditional a b c) =
      let x = either-is (Deep a) (is_bare old new a) a (omega arith) (exact-depth a) in
      let y = exact-depth b in
      let z = exact-depth c in
      omega (arith, x, y, z)
  exact-depth (Cast type (Name other)) = cast-is (Deep (Cast type (Name other))) type (Name other) (omega arith) (omega arith) (λ own. omega arith)
  exact-depth (Cast type (Number n base)) = omega arith
  exact-depth (Cast type (Unary operator a)) = let x = exact-depth (Unary operator a) in omega (arith, x)
  exact-depth (Cast type (Binary operator a b)) = let x = exact-depth (Binary operator a b) in omega (arith, x)
  exact-depth (Cast type (Conditional a b c)) = let x = exact-depth (Conditional a b c) in omega (arith, x)
  exact-depth (Cast type (Cast other a)) = let x = exact-depth (Cast other a) in omega (arith, x)

  pub tested-depth : (e : Expr) → Deep e (if is_bare old new e then e else exact old new e)
  tested-depth e = either-is (Deep e) (is_bare old new e) e (omega arith) (exact-depth e)

  pub placed-depth : (e : Expr) → Deep e (placed old new e)
  placed-depth e = either-is (Deep e) (is_name e) e (omega arith) (exact-depth e)
