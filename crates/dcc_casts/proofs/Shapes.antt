-- What casts that go leave as it was: addresses, what can be written, and depth.
use Rattle.std.proofs.Common.{◌≡◌, ℕ, suc, ◌≤◌, Bool, true, false, ◌&&◌, ◌||◌, List, ◌++◌, refl, sym, ap₂, ◌∙◌, arith}
use Rattle.std.specs.Prelude.{nat_le, if◌then◌else◌}
use Rattle.std.specs.List.{list_any}
use Rattle.std.proofs.lemmas.List.Folds.{list_any-append}
use Rattle.dcc_c.specs.declared.syntax.CUn.{CUn}
use Rattle.dcc_c.specs.declared.syntax.CUn.TheVariants.{Minus, Complement, Not, Deref, AddressOf}
use Rattle.dcc_c.specs.Tree.{Word, Expr, Number, Name, Unary, Binary, Conditional, Cast}
use Rattle.dcc_c.specs.Parts.{parts_of}
use Rattle.dcc_c.specs.Placement.{is_address_of}
use Rattle.dcc_c.specs.Typing.{Declared}
use Rattle.dcc_c.specs.Rules.{is_number, expr_depth}
use Rattle.dcc_c.proofs.Writable.{may_take, is_writable_expr, is_place, is_writable_place}
use Rattle.dcc_casts.specs.Casts.{carries, carries_one, is_left_shift, room_of, are_numbers, is_needless, kept, lowered}

module _ (names : List Declared) where
  -- Addresses.

  module _ (word : Word) where
    abbrev Same : Expr → Expr → Type 0
    Same e h = list_any (is_address_of word) (parts_of h) ≡ list_any (is_address_of word) (parts_of e)

    either-same : (b : Bool) (e one two : Expr) → Same e one → Same e two → Same e (if b then one else two)
    either-same true e one two first second = first
    either-same false e one two first second = second

    -- an operand whose head stays
    head-same : (operator : CUn) (a : Expr) → is_address_of word (Unary operator (kept names a)) ≡ is_address_of word (Unary operator a)
    head-same AddressOf (Number n base) = refl
    head-same AddressOf (Name other) = refl
    head-same AddressOf (Unary operator a) = refl
    head-same AddressOf (Binary operator a b) = refl
    head-same AddressOf (Conditional a b c) = refl
    head-same AddressOf (Cast type a) = refl
    head-same Minus a = refl
    head-same Complement a = refl
    head-same Not a = refl
    head-same Deref a = refl

    one-same : (operator : CUn) (a h : Expr) → carries_one operator ≡ true → is_address_of word (Unary operator h) ≡ is_address_of word (Unary operator a)
    one-same Minus a h is = refl
    one-same Complement a h is = refl
    one-same AddressOf a h is = absurd cc
    one-same Not a h is = absurd cc
    one-same Deref a h is = absurd cc

    unary-same : (operator : CUn) (b : Bool) (a low : Expr) → Same a (kept names a) → Same a low → Same (Unary operator a) (Unary operator (if carries_one operator && b then low else kept names a))
    unary-same operator b a low first second = by (carries_one operator) b refl
      where
        by : (o b : Bool) → carries_one operator ≡ o → Same (Unary operator a) (Unary operator (if o && b then low else kept names a))
        by true true is = ap₂ (λ x y. x || y) (one-same operator a low is) second
        by true false is = ap₂ (λ x y. x || y) (head-same operator a) first
        by false b is = ap₂ (λ x y. x || y) (head-same operator a) first

    two-same : (a b g h : Expr) → Same a g → Same b h → list_any (is_address_of word) (parts_of g ++ parts_of h) ≡ list_any (is_address_of word) (parts_of a ++ parts_of b)
    two-same a b g h first second =
        list_any-append (is_address_of word) (parts_of g) (parts_of h) ∙ ap₂ (λ x y. x || y) first second
        ∙ sym (list_any-append (is_address_of word) (parts_of a) (parts_of b))

    three-same : (a b c g h k : Expr) → Same a g → Same b h → Same c k →
        list_any (is_address_of word) (parts_of g ++ (parts_of h ++ parts_of k)) ≡ list_any (is_address_of word) (parts_of a ++ (parts_of b ++ parts_of c))
    three-same a b c g h k first second third =
        list_any-append (is_address_of word) (parts_of g) (parts_of h ++ parts_of k) ∙ ap₂ (λ x y. x || y) first (two-same b c h k second third)
        ∙ sym (list_any-append (is_address_of word) (parts_of a) (parts_of b ++ parts_of c))

    mutual
      pub kept-addresses : (e : Expr) → Same e (kept names e)
      kept-addresses (Number n base) = refl
      kept-addresses (Name other) = refl
      kept-addresses (Unary operator a) = ap₂ (λ x y. x || y) (head-same operator a) (kept-addresses a)
      kept-addresses (Binary operator a b) = two-same a b (kept names a) (kept names b) (kept-addresses a) (kept-addresses b)
      kept-addresses (Conditional a b c) = three-same a b c (kept names a) (kept names b) (kept names c) (kept-addresses a) (kept-addresses b) (kept-addresses c)
      kept-addresses (Cast type a) = lowered-addresses (room_of type) a

      pub lowered-addresses : (bits : ℕ) (e : Expr) → Same e (lowered names bits e)
      lowered-addresses bits (Number n base) = refl
      lowered-addresses bits (Name other) = refl
      lowered-addresses bits (Unary operator a) =
          unary-same operator (nat_le bits 16 && is_number names a) a (lowered names bits a) (kept-addresses a) (lowered-addresses bits a)
      lowered-addresses bits (Binary operator a b) =
          let left = (carries operator || is_left_shift operator) && (nat_le bits 16 && are_numbers names a b) in
          let right = carries operator && (nat_le bits 16 && are_numbers names a b) in
          two-same a b (if left then lowered names bits a else kept names a) (if right then lowered names bits b else kept names b)
          (either-same left a (lowered names bits a) (kept names a) (lowered-addresses bits a) (kept-addresses a)) (either-same right b (lowered names bits b) (kept names b) (lowered-addresses bits b) (kept-addresses b))
      lowered-addresses bits (Conditional a b c) =
          let both = nat_le bits 16 && are_numbers names b c in
          three-same a b c (kept names a) (if both then lowered names bits b else kept names b) (if both then lowered names bits c else kept names c) (kept-addresses a)
          (either-same both b (lowered names bits b) (kept names b) (lowered-addresses bits b) (kept-addresses b)) (either-same both c (lowered names bits c) (kept names c) (lowered-addresses bits c) (kept-addresses c))
      lowered-addresses bits (Cast type a) =
          either-same (is_needless names bits type a) (Cast type a) (lowered names bits a) (Cast type (lowered names (room_of type) a)) (lowered-addresses bits a) (lowered-addresses (room_of type) a)

  -- What can be written.

  either-written : (b : Bool) (e one two : Expr) → is_writable_expr one ≡ is_writable_expr e → is_writable_expr two ≡ is_writable_expr e → is_writable_expr (if b then one else two) ≡ is_writable_expr e
  either-written true e one two first second = first
  either-written false e one two first second = second

  may-take : (operator : CUn) (a : Expr) → may_take operator (kept names a) ≡ may_take operator a
  may-take AddressOf (Number n base) = refl
  may-take AddressOf (Name other) = refl
  may-take AddressOf (Unary operator a) = refl
  may-take AddressOf (Binary operator a b) = refl
  may-take AddressOf (Conditional a b c) = refl
  may-take AddressOf (Cast type a) = refl
  may-take Minus a = refl
  may-take Complement a = refl
  may-take Not a = refl
  may-take Deref a = refl

  one-takes : (operator : CUn) (a h : Expr) → carries_one operator ≡ true → may_take operator h ≡ may_take operator a
  one-takes Minus a h is = refl
  one-takes Complement a h is = refl
  one-takes AddressOf a h is = absurd cc
  one-takes Not a h is = absurd cc
  one-takes Deref a h is = absurd cc

  unary-written : (operator : CUn) (b : Bool) (a low : Expr) → is_writable_expr (kept names a) ≡ is_writable_expr a → is_writable_expr low ≡ is_writable_expr a →
      is_writable_expr (Unary operator (if carries_one operator && b then low else kept names a)) ≡ is_writable_expr (Unary operator a)
  unary-written operator b a low first second = by (carries_one operator) b refl
    where
      by : (o b : Bool) → carries_one operator ≡ o → is_writable_expr (Unary operator (if o && b then low else kept names a)) ≡ is_writable_expr (Unary operator a)
      by true true is = ap₂ (λ x y. x && y) (one-takes operator a low is) second
      by true false is = ap₂ (λ x y. x && y) (may-take operator a) first
      by false b is = ap₂ (λ x y. x && y) (may-take operator a) first

  mutual
    pub kept-written : (e : Expr) → is_writable_expr (kept names e) ≡ is_writable_expr e
    kept-written (Number n base) = refl
    kept-written (Name other) = refl
    kept-written (Unary operator a) = ap₂ (λ x y. x && y) (may-take operator a) (kept-written a)
    kept-written (Binary operator a b) = ap₂ (λ x y. x && y) (kept-written a) (kept-written b)
    kept-written (Conditional a b c) = ap₂ (λ x y. x && y) (kept-written a) (ap₂ (λ x y. x && y) (kept-written b) (kept-written c))
    kept-written (Cast type a) = lowered-written (room_of type) a

    pub lowered-written : (bits : ℕ) (e : Expr) → is_writable_expr (lowered names bits e) ≡ is_writable_expr e
    lowered-written bits (Number n base) = refl
    lowered-written bits (Name other) = refl
    lowered-written bits (Unary operator a) =
        unary-written operator (nat_le bits 16 && is_number names a) a (lowered names bits a) (kept-written a) (lowered-written bits a)
    lowered-written bits (Binary operator a b) =
        ap₂ (λ x y. x && y) (either-written ((carries operator || is_left_shift operator) && (nat_le bits 16 && are_numbers names a b)) a (lowered names bits a) (kept names a) (lowered-written bits a) (kept-written a))
        (either-written (carries operator && (nat_le bits 16 && are_numbers names a b)) b (lowered names bits b) (kept names b) (lowered-written bits b) (kept-written b))
    lowered-written bits (Conditional a b c) =
        let both = nat_le bits 16 && are_numbers names b c in
        ap₂ (λ x y. x && y) (kept-written a) (ap₂ (λ x y. x && y) (either-written both b (lowered names bits b) (kept names b) (lowered-written bits b) (kept-written b)) (either-written both c (lowered names bits c) (kept names c) (lowered-written bits c) (kept-written c)))
    lowered-written bits (Cast type a) =
        either-written (is_needless names bits type a) a (lowered names bits a) (Cast type (lowered names (room_of type) a)) (lowered-written bits a) (lowered-written (room_of type) a)

  place-same : (e : Expr) → is_place (kept names e) ≡ is_place e
  place-same (Number n base) = refl
  place-same (Name other) = refl
  place-same (Unary Deref a) = refl
  place-same (Unary Minus a) = refl
  place-same (Unary Complement a) = refl
  place-same (Unary Not a) = refl
  place-same (Unary AddressOf a) = refl
  place-same (Binary operator a b) = refl
  place-same (Conditional a b c) = refl
  place-same (Cast type a) = refl

  pub place-written : (e : Expr) → is_writable_place (kept names e) ≡ is_writable_place e
  place-written e = ap₂ (λ x y. x && y) (place-same e) (kept-written e)

  -- Depth.

  either-deep : (b : Bool) (e one two : Expr) → expr_depth one ≤ expr_depth e → expr_depth two ≤ expr_depth e → expr_depth (if b then one else two) ≤ expr_depth e
  either-deep true e one two first second = first
  either-deep false e one two first second = second

  mutual
    pub kept-depth : (e : Expr) → expr_depth (kept names e) ≤ expr_depth e
    kept-depth (Number n base) = omega arith
    kept-depth (Name other) = omega arith
    kept-depth (Unary operator a) = let x = kept-depth a in omega (arith, x)
    kept-depth (Binary operator a b) = omega (arith, kept-depth a, kept-depth b)
    kept-depth (Conditional a b c) = omega (arith, kept-depth a, kept-depth b, kept-depth c)
    kept-depth (Cast type a) = let x = lowered-depth (room_of type) a in omega (arith, x)

    pub lowered-depth : (bits : ℕ) (e : Expr) → expr_depth (lowered names bits e) ≤ expr_depth e
    lowered-depth bits (Number n base) = omega arith
    lowered-depth bits (Name other) = omega arith
    lowered-depth bits (Unary operator a) =
        let x = either-deep (carries_one operator && (nat_le bits 16 && is_number names a)) a (lowered names bits a) (kept names a) (lowered-depth bits a) (kept-depth a) in omega (arith, x)
    lowered-depth bits (Binary operator a b) =
        let numbers = nat_le bits 16 && are_numbers names a b in
        let x = either-deep ((carries operator || is_left_shift operator) && numbers) a (lowered names bits a) (kept names a) (lowered-depth bits a) (kept-depth a) in
        let y = either-deep (carries operator && numbers) b (lowered names bits b) (kept names b) (lowered-depth bits b) (kept-depth b) in
        omega (arith, x, y)
    lowered-depth bits (Conditional a b c) =
        let numbers = nat_le bits 16 && are_numbers names b c in
        let x = either-deep numbers b (lowered names bits b) (kept names b) (lowered-depth bits b) (kept-depth b) in
        let y = either-deep numbers c (lowered names bits c) (kept names c) (lowered-depth bits c) (kept-depth c) in
        omega (arith, kept-depth a, x, y)
    lowered-depth bits (Cast type a) =
        let deep : expr_depth (Cast type (lowered names (room_of type) a)) ≤ suc (expr_depth a) = (let x = lowered-depth (room_of type) a in omega (arith, x)) in
        either-deep (is_needless names bits type a) (Cast type a) (lowered names bits a) (Cast type (lowered names (room_of type) a)) (let x = lowered-depth bits a in omega (arith, x)) deep
