-- The text of each expression is allowed where its names are declared.
use Rattle.std.proofs.Common.{◌≡◌, ℕ, ◌+◌, ◌^◌, ◌<◌, ◌≤◌, inl, inr, Bool, true, false, ◌==◌, List, [], ◌∷◌, ◌++◌, Option, Some, None, refl, sym, ap, ◌∙◌, subst, true≢false, arith}
use Rattle.std.specs.Prelude.{◌&&◌, ◌||◌, not, nat_lt, nat_le, if◌then◌else◌, option_and_then, All}
use Rattle.std.proofs.lemmas.Bool.{cases_Bool, and_parts, or_cases, eqb-true, ltb-true, leb-true}
use Rattle.std.proofs.lemmas.List.Elements.{All-head, All-tail}
use Rattle.dcc_run.proofs.KeptLaws.{right_part}
use Rattle.dcc_ir.specs.declared.syntax.Loc.{Loc}
use Rattle.dcc_ir.specs.declared.syntax.UnOp.{UnOp}
use Rattle.dcc_ir.specs.declared.syntax.UnOp.TheVariants.{Neg, Not, IsZero}
use Rattle.dcc_ir.specs.declared.syntax.BinOp.{BinOp}
use Rattle.dcc_ir.specs.declared.syntax.BinOp.TheVariants.{Eq, LtS, LtU, LeS, LeU}
use Rattle.dcc_ir.specs.Location.{location_width}
use Rattle.dcc_ir.specs.Tree.{Expr, Const, Get, Load, Unary, Binary, Widen, Part, Join, Choose, Address}
use Rattle.dcc_ir.specs.Use.{parts_of, got_by, reads_of}
use Rattle.dcc_ir.specs.Value.{is_comparison, is_test, width_of}
use Rattle.dcc_ir.specs.WellFormed.{is_width, is_stored_width, is_division, divides_safely, is_expr}
use Rattle.dcc_ir.proofs.ListLaws.{left_part, all_parts}
use Rattle.dcc_c.specs.declared.syntax.Base.{Base}
use Rattle.dcc_c.specs.declared.syntax.Base.TheVariants.{Schar, Uchar, Int, Uint, Long, Ulong}
use Rattle.dcc_c.specs.declared.syntax.CType.{CType}
use Rattle.dcc_c.specs.declared.syntax.CUn.TheVariants.{AddressOf}
use Rattle.dcc_c.specs.declared.syntax.CBin.{CBin}
use Rattle.dcc_c.specs.declared.syntax.CBin.TheVariants.{Or, Xor, And, Shl, Shr, Eq as Equal, Add as Plus, Rem as Rest}
use Rattle.dcc_c.specs.Types.{bits_of, is_signed, plain, pointer_to, same_type}
use Rattle.dcc_c.specs.Tree as tree
use Rattle.dcc_c.specs.Typing.{Declared, declared_as, type_of_name, type_of_address, numbers_type}
use Rattle.dcc_c.proofs.TypeLaws.{same_type-decides}
use Rattle.dcc_text.specs.Allowed.{IsDeclaredPlace, AreDeclared, IsAllowedExpr, ExpressionsAreAllowed}
use Rattle.dcc_text.specs.Spelling.{Placed, Spelling}
use Rattle.dcc_text.specs.Spelled.{Way, Low, Exact, Signed, unsigned_type, reckoning_type, small, as_char, bit_read, variable, taken, placed, pointer, operand_way, unary_result, flipped, unary_text, left_way, right_way, binary_result, votes_left, votes_right, symbol, joined, constant, text}
use Rattle.dcc_text.specs.Meaning.{is_type_for}
use Rattle.dcc_text.proofs.Sizes.{Size, bit, byte, word, long, bits, size-of}
use Rattle.dcc_text.proofs.Opposites.{IsTurned, turns, turned-cases, turned-type}
use Rattle.dcc_text.proofs.Texts.{stored-is}
use Rattle.dcc_text.proofs.Typings.{is_narrow, IsTyped, number-typed, plain-is, narrow-is, either, number-is, small-is, cast-typed, cast-is, minus-is, complement-is, deref-is, binary-is, truth-is, choice-is, cut-to-is, taken-is, constant-is, unsigned-narrow, reckoning-narrow}

-- a type for a word or less
narrow-for : (base : Base) (width : ℕ) → is_type_for width (plain base) ≡ true → width ≤ 16 → is_narrow base ≡ true
narrow-for base width typed few = by (width == 1) base typed
  where
    wide : (b : Bool) → (32 == (if b then 8 else width)) ≡ true → ⊥
    wide true is = absurd cc
    wide false is = omega (arith, eqb-true 32 width is, few)

    by : (b : Bool) (base : Base) → (bits_of base == (if b then 8 else width)) ≡ true → is_narrow base ≡ true
    by b Schar is = refl
    by b Uchar is = refl
    by b Int is = refl
    by b Uint is = refl
    by b Long is = absurd (wide b is)
    by b Ulong is = absurd (wide b is)

-- the bits of a type for some width
type-small : (width : ℕ) (type : CType) → is_type_for width type ≡ true → width ≤ 32
type-small width type typed = by type.pointer type.base typed
  where
    bits-small : (base : Base) → bits_of base ≤ 32
    bits-small Schar = omega arith
    bits-small Uchar = omega arith
    bits-small Int = omega arith
    bits-small Uint = omega arith
    bits-small Long = omega arith
    bits-small Ulong = omega arith

    number : (b : Bool) (base : Base) → (width == 1) ≡ b → (bits_of base == (if b then 8 else width)) ≡ true → width ≤ 32
    number true base one is = omega (arith, eqb-true width 1 one)
    number false base one is = omega (arith, eqb-true (bits_of base) width is, bits-small base)

    by : (pointer : Bool) (base : Base) → (if pointer then width == 16 else bits_of base == (if width == 1 then 8 else width)) ≡ true → width ≤ 32
    by true base is = omega (arith, eqb-true width 16 is)
    by false base is = number (width == 1) base refl is

-- a comparison gives an int
comparison-is : (operator : BinOp) → is_comparison operator ≡ true → (a b : Base) → numbers_type (symbol operator) a b ≡ Int
comparison-is Eq is a b = refl
comparison-is LtS is a b = refl
comparison-is LtU is a b = refl
comparison-is LeS is a b = refl
comparison-is LeU is a b = refl
comparison-is operator is a b = absurd (true≢false (sym is))

-- half of a word or of a long
half-small : (width : ℕ) → (width == 8 || width == 16) ≡ true → width ≤ 16
half-small width is = elim (or_cases (width == 8) (width == 16) is) [
  | inl eight ↦ omega (arith, eqb-true width 8 eight)
  | inr sixteen ↦ omega (arith, eqb-true width 16 sixteen)
]

module _ (names : List Declared) where
  abbrev Is : ℕ → tree.Expr → Type 0
  Is width e = IsAllowedExpr names width e

  -- Variables.

  as-char-is : (base : Base) (type : CType) (e : tree.Expr) → is_narrow base ≡ true → Is 1 e → Is 1 (as_char base type e)
  as-char-is base type e few x =
      either names 1 (same_type type (plain base)) e (tree.Cast (plain base) e) x (cast-is names 1 base (plain x.base) e (λ less. few) (number-typed names x))

  -- an operator and a small number at the right
  by-small : (operator : CBin) (width n : ℕ) (e : tree.Expr) → n < 32768 → Is width e → Is width (tree.Binary operator e (small n))
  by-small operator width n e few x = binary-is names width operator e (small n) x (small-is names width n few)

  -- the opposite comparison
  turned-is : (width : ℕ) (a c : tree.Expr) → IsTurned a c → Is width a → Is width c
  turned-is width e c (turns operator other a b o) x = record {
    writable = x.writable;
    base = x.base;
    typed = turned-type names (tree.Binary operator a b) (tree.Binary other a b) (turns operator other a b o) ∙ x.typed;
    narrow = x.narrow;
  }

  bit-read-is : (way : Way) (votes settled : Bool) (type : CType) (e : tree.Expr) → Is 1 e → Is 1 (bit_read way votes settled type e)
  bit-read-is Low votes settled type e x = x
  bit-read-is Signed true settled type e x =
      let c = as-char-is Schar type e refl x in
      either names 1 settled _ _ (cast-is names 1 Int (plain c.base) _ (λ few. refl) (number-typed names c)) (by-small And 1 1 _ (omega arith) (by-small Rest 1 2 _ (omega arith) c))
  bit-read-is Exact true settled type e x =
      let c = as-char-is Uchar type e refl x in either names 1 settled _ _ c (by-small Rest 1 2 _ (omega arith) c)
  bit-read-is Exact false settled type e x = either names 1 (settled && not (is_signed type.base)) e _ x (by-small And 1 1 e (omega arith) x)
  bit-read-is Signed false settled type e x = either names 1 (settled && not (is_signed type.base)) e _ x (by-small And 1 1 e (omega arith) x)

  variable-is : (way : Way) (votes settled : Bool) (width : ℕ) (base : Base) (pointer : Bool) (e : tree.Expr) → is_type_for width (record { base = base; pointer = pointer }) ≡ true
      → IsTyped names (record { base = base; pointer = pointer }) e → Is width (variable way votes settled width (record { base = base; pointer = pointer }) e)
  variable-is way votes settled width base true e typed x = cut-to-is names way width (record { base = base; pointer = true }) e x
  variable-is way votes settled width base false e typed x = by (width == 1) typed
    where
      by : (b : Bool) → (bits_of base == (if b then 8 else width)) ≡ true
          → Is width (if b then taken Exact way 1 (bit_read way votes settled (plain base) e) else taken (if is_signed base then Signed else Exact) way width e)
      by true is =
          narrow-is names 1 width _ (omega arith) (taken-is names Exact way 1 _ (bit-read-is way votes settled (plain base) e (plain-is names 1 base e (narrow-for base 1 is) x)))
      by false is = taken-is names (if is_signed base then Signed else Exact) way width e (plain-is names width base e (narrow-for base width typed) x)

  -- Addresses.

  placed-is : (place : Option Placed) → ((p : Placed) → place ≡ Some p → IsDeclaredPlace names p) → Is 16 (placed place)
  placed-is None declared = small-is names 16 0 (omega arith)
  placed-is (Some p) declared =
      either names 16 (p.above == 0) _ _ there (binary-is names 16 Plus _ _ there (number-is names 16 p.above Uint d.small (λ few. refl)))
    where
      d : IsDeclaredPlace names p
      d = declared p refl

      at : (b : Bool) → declared_as names p.name ≡ Some (record { name = p.name; type = plain d.type; is_array = b; is_placed = true })
          → IsTyped names (pointer_to d.type) (if b then tree.Name p.name else tree.Unary AddressOf (tree.Name p.name))
      at true is = record { writable = d.word; typed = ap (option_and_then type_of_name) is }
      at false is = record { writable = d.word; typed = ap (option_and_then type_of_address) is }

      there : Is 16 (tree.Cast (plain Uint) (if p.is_array then tree.Name p.name else tree.Unary AddressOf (tree.Name p.name)))
      there = cast-is names 16 Uint (pointer_to d.type) _ (λ few. refl) (at p.is_array d.declared)

  module _ (s : Spelling) (declared : AreDeclared names s) where
    pub name-typed : (location : Loc) → s.named location ≡ true → IsTyped names (s.type location) (tree.Name (s.name location))
    name-typed location named =
        let d = declared.variables location named in
        record { writable = d.word; typed = ap (option_and_then type_of_name) d.declared }

    abbrev IsRead : Expr → Type 0
    IsRead e = All (λ location. s.named location ≡ true) (got_by e)

    -- the variable that an expression itself reads
    read-here : (location : Loc) (parts : List Expr) → All IsRead (Get location ∷ parts) → s.named location ≡ true
    read-here location parts read = All-head (λ location. s.named location ≡ true) location [] (All-head IsRead (Get location) parts read)

    pub pointer-typed : (width : ℕ) (address : Expr) (e : tree.Expr) → All IsRead (parts_of address) → Is 16 e → IsTyped names (pointer_to (unsigned_type width)) (pointer s width address e)
    pointer-typed width address e read x = by address read (cast-typed names (pointer_to (unsigned_type width)) (plain x.base) e (number-typed names x))
      where
        by : (address : Expr) → All IsRead (parts_of address) → IsTyped names (pointer_to (unsigned_type width)) (tree.Cast (pointer_to (unsigned_type width)) e)
            → IsTyped names (pointer_to (unsigned_type width)) (pointer s width address e)
        by (Get location) read c = elim (cases_Bool (same_type (s.type location) (pointer_to (unsigned_type width)))) [
          | inl same ↦ rw same (subst (λ t. IsTyped names t (tree.Name (s.name location))) ((same_type-decides (s.type location) (pointer_to (unsigned_type width))).0 same)
              (name-typed location (read-here location [] read)))
          | inr apart ↦ rw apart c
        ]
        by address read c = c

    -- Operators.

    unary-text-is : (operator : UnOp) (width : ℕ) (a : tree.Expr) → Is width a → Is (if is_test operator then 1 else width) (unary_text operator width a)
    unary-text-is Neg width a x = minus-is names width a x
    unary-text-is Not width a x =
        either names width (width == 1) _ _ (turned-cases (Is width) flipped a (by-small Xor width 1 a (omega arith) x) (λ c o. turned-is width a c o x)) (complement-is names width a x)
    unary-text-is IsZero width a x = truth-is names 1 width Equal a (small 0) (λ c d. refl) x (small-is names width 0 (omega arith))

    binary-text-is : (operator : BinOp) (width : ℕ) (a b : tree.Expr) → Is width a → Is width b → Is (if is_comparison operator then 1 else width) (tree.Binary (symbol operator) a b)
    binary-text-is operator width a b x y = elim (cases_Bool (is_comparison operator)) [
      | inl compares ↦ rw compares (truth-is names 1 width (symbol operator) a b (comparison-is operator compares) x y)
      | inr not ↦ rw not (binary-is names width (symbol operator) a b x y)
    ]

    -- Widths.

    width-small : (width : ℕ) → is_width width ≡ true → width ≤ 32
    width-small width is = let z = size-of width is in small z.0 z.1
      where
        small : (size : Size) → width ≡ bits size → width ≤ 32
        small bit same = omega (arith, same)
        small byte same = omega (arith, same)
        small word same = omega (arith, same)
        small long same = omega (arith, same)

    test-small : (c : Bool) (width : ℕ) → width ≤ 32 → (if c then 1 else width) ≤ 32
    test-small true width few = omega arith
    test-small false width few = few

    expr-small : (e : Expr) → is_expr s.bits e ≡ true → All IsRead (parts_of e) → width_of s.bits e ≤ 32
    expr-small (Const width n) formed read = width-small width (and_parts (is_width width) (nat_lt n (2 ^ width)) formed).0
    expr-small (Get location) formed read = type-small (location_width s.bits location) (s.type location) (declared.variables location (read-here location [] read)).typed
    expr-small (Load width address) formed read =
        let (two, of_word) = and_parts (is_stored_width width && is_expr s.bits address) (width_of s.bits address == 16) formed in
        width-small width (stored-is width (and_parts (is_stored_width width) (is_expr s.bits address) two).0)
    expr-small (Unary operator width a) formed read =
        let (two, same) = and_parts (is_width width && is_expr s.bits a) (width_of s.bits a == width) formed in
        test-small (is_test operator) width (width-small width (and_parts (is_width width) (is_expr s.bits a) two).0)
    expr-small (Binary operator width a b) formed read =
        let (five, safe) = and_parts (is_width width && is_expr s.bits a && is_expr s.bits b && (width_of s.bits a == width) && (width_of s.bits b == width)) (not (is_division operator) || divides_safely operator width b) formed in
        let (four, second_width) = and_parts (is_width width && is_expr s.bits a && is_expr s.bits b && (width_of s.bits a == width)) (width_of s.bits b == width) five in
        let (three, first_width) = and_parts (is_width width && is_expr s.bits a && is_expr s.bits b) (width_of s.bits a == width) four in
        let (two, second) = and_parts (is_width width && is_expr s.bits a) (is_expr s.bits b) three in
        test-small (is_comparison operator) width (width-small width (and_parts (is_width width) (is_expr s.bits a) two).0)
    expr-small (Widen signed width a) formed read =
        let (two, less) = and_parts (is_width width && is_expr s.bits a) (nat_lt (width_of s.bits a) width) formed in
        width-small width (and_parts (is_width width) (is_expr s.bits a) two).0
    expr-small (Part width first a) formed read =
        let (two, within) = and_parts (is_width width && is_expr s.bits a) (nat_le (first + width) (width_of s.bits a)) formed in
        width-small width (and_parts (is_width width) (is_expr s.bits a) two).0
    expr-small (Join high low) formed read =
        let (three, halves) = and_parts (is_expr s.bits high && is_expr s.bits low && (width_of s.bits high == width_of s.bits low)) (width_of s.bits low == 8 || width_of s.bits low == 16) formed in
        let (two, same) = and_parts (is_expr s.bits high && is_expr s.bits low) (width_of s.bits high == width_of s.bits low) three in
        omega (arith, eqb-true (width_of s.bits high) (width_of s.bits low) same, half-small (width_of s.bits low) halves)
    expr-small (Choose test a b) formed read =
        let (four, same) = and_parts (is_expr s.bits test && is_expr s.bits a && is_expr s.bits b && (width_of s.bits test == 1)) (width_of s.bits a == width_of s.bits b) formed in
        let (three, one) = and_parts (is_expr s.bits test && is_expr s.bits a && is_expr s.bits b) (width_of s.bits test == 1) four in
        let (two, third) = and_parts (is_expr s.bits test && is_expr s.bits a) (is_expr s.bits b) three in
        let below = All-tail IsRead (Choose test a b) (parts_of test ++ parts_of a ++ parts_of b) read in
        expr-small a (and_parts (is_expr s.bits test) (is_expr s.bits a) two).1 (right_part IsRead (parts_of test) (parts_of a) (left_part IsRead (parts_of test ++ parts_of a) (parts_of b) below))
    expr-small (Address distance) formed read = omega arith

    -- Each expression.

    at-width : (have want : ℕ) (e : tree.Expr) → (have == want) ≡ true → Is have e → Is want e
    at-width have want e same x = subst (λ w. Is w e) (eqb-true have want same) x

    pub text-is : (e : Expr) → is_expr s.bits e ≡ true → All IsRead (parts_of e) → (way : Way) (votes : Bool) → Is (width_of s.bits e) (text s way votes e)
    text-is (Const width n) formed read way votes =
        let (is, fits) = and_parts (is_width width) (nat_lt n (2 ^ width)) formed in
        let z = size-of width is in
        subst (λ w. Is w (constant way w n)) (sym z.1) (constant-is names way z.0 n (subst (λ w. n < 2 ^ w) z.1 (ltb-true n (2 ^ width) fits)))
    text-is (Get location) formed read way votes =
        let named = read-here location [] read in
        let d = declared.variables location named in
        variable-is way votes (s.settled location) (location_width s.bits location) (s.type location).base (s.type location).pointer (tree.Name (s.name location)) d.typed (name-typed location named)
    text-is (Load width address) formed read way votes =
        let (two, of_word) = and_parts (is_stored_width width && is_expr s.bits address) (width_of s.bits address == 16) formed in
        let (stored, is) = and_parts (is_stored_width width) (is_expr s.bits address) two in
        let below = All-tail IsRead (Load width address) (parts_of address) read in
        let x = at-width (width_of s.bits address) 16 _ of_word (text-is address is below Low false) in
        taken-is names Exact way width _ (plain-is names width (unsigned_type width) _ (unsigned-narrow width) (deref-is names (unsigned_type width) _ (pointer-typed width address _ below x)))
    text-is (Unary operator width a) formed read way votes =
        let (two, same) = and_parts (is_width width && is_expr s.bits a) (width_of s.bits a == width) formed in
        let (is, below) = and_parts (is_width width) (is_expr s.bits a) two in
        let x = at-width (width_of s.bits a) width _ same (text-is a below (All-tail IsRead (Unary operator width a) (parts_of a) read) (operand_way operator way width) false) in
        taken-is names (unary_result operator way width) way _ _ (unary-text-is operator width _ x)
    text-is (Binary operator width a b) formed read way votes =
        let (five, safe) = and_parts (is_width width && is_expr s.bits a && is_expr s.bits b && (width_of s.bits a == width) && (width_of s.bits b == width)) (not (is_division operator) || divides_safely operator width b) formed in
        let (four, second_width) = and_parts (is_width width && is_expr s.bits a && is_expr s.bits b && (width_of s.bits a == width)) (width_of s.bits b == width) five in
        let (three, first_width) = and_parts (is_width width && is_expr s.bits a && is_expr s.bits b) (width_of s.bits a == width) four in
        let (two, second) = and_parts (is_width width && is_expr s.bits a) (is_expr s.bits b) three in
        let (is, first) = and_parts (is_width width) (is_expr s.bits a) two in
        let below = All-tail IsRead (Binary operator width a b) (parts_of a ++ parts_of b) read in
        let x = at-width (width_of s.bits a) width _ first_width (text-is a first (left_part IsRead (parts_of a) (parts_of b) below) (left_way operator way width) (votes_left operator)) in
        let y = at-width (width_of s.bits b) width _ second_width (text-is b second (right_part IsRead (parts_of a) (parts_of b) below) (right_way operator way width) (votes_right operator)) in
        taken-is names (binary_result operator way width) way _ _ (binary-text-is operator width _ _ x y)
    text-is (Widen true width a) formed read way votes =
        let (two, less) = and_parts (is_width width && is_expr s.bits a) (nat_lt (width_of s.bits a) width) formed in
        let x = text-is a (and_parts (is_width width) (is_expr s.bits a) two).1 (All-tail IsRead (Widen true width a) (parts_of a) read) Signed true in
        taken-is names Signed way width _ (cast-is names width (reckoning_type true width) (plain x.base) _ (reckoning-narrow true width) (number-typed names x))
    text-is (Widen false width a) formed read way votes =
        let (two, less) = and_parts (is_width width && is_expr s.bits a) (nat_lt (width_of s.bits a) width) formed in
        let x = text-is a (and_parts (is_width width) (is_expr s.bits a) two).1 (All-tail IsRead (Widen false width a) (parts_of a) read) Exact true in
        taken-is names Exact way width _ (cast-is names width (reckoning_type false width) (plain x.base) _ (reckoning-narrow false width) (number-typed names x))
    text-is (Part width first a) formed read way votes =
        let (two, within) = and_parts (is_width width && is_expr s.bits a) (nat_le (first + width) (width_of s.bits a)) formed in
        let (is, below) = and_parts (is_width width) (is_expr s.bits a) two in
        let parts = All-tail IsRead (Part width first a) (parts_of a) read in
        let w = width_of s.bits a in
        let few : first < 32768 = omega (arith, leb-true (first + width) (width_of s.bits a) within, expr-small a below parts) in
        let x = either names w (first == 0) (text s Low false a) (text s Exact true a) (text-is a below parts Low false) (text-is a below parts Exact true) in
        let y = either names w (first == 0) _ _ x (by-small Shr w first _ few x) in
        cut-to-is names way width (plain y.base) _ (number-typed names y)
    text-is (Join high low) formed read way votes =
        let (three, halves) = and_parts (is_expr s.bits high && is_expr s.bits low && (width_of s.bits high == width_of s.bits low)) (width_of s.bits low == 8 || width_of s.bits low == 16) formed in
        let (two, same) = and_parts (is_expr s.bits high && is_expr s.bits low) (width_of s.bits high == width_of s.bits low) three in
        let (upper, lower) = and_parts (is_expr s.bits high) (is_expr s.bits low) two in
        let below = All-tail IsRead (Join high low) (parts_of high ++ parts_of low) read in
        let x = text-is high upper (left_part IsRead (parts_of high) (parts_of low) below) Exact true in
        let y = text-is low lower (right_part IsRead (parts_of high) (parts_of low) below) Exact true in
        let w = width_of s.bits low in
        let whole = w + w in
        let up = cast-is names whole (unsigned_type whole) (plain x.base) _ (unsigned-narrow whole) (number-typed names x) in
        let down = cast-is names whole (unsigned_type whole) (plain y.base) _ (unsigned-narrow whole) (number-typed names y) in
        let few : w < 32768 = omega (arith, half-small w halves) in
        subst (λ k. Is (k + w) (taken Exact way whole (joined w (text s Exact true high) (text s Exact true low)))) (sym (eqb-true (width_of s.bits high) w same))
        (taken-is names Exact way whole _ (binary-is names whole Or _ _ (by-small Shl whole w _ few up) down))
    text-is (Choose test a b) formed read way votes =
        let (four, same) = and_parts (is_expr s.bits test && is_expr s.bits a && is_expr s.bits b && (width_of s.bits test == 1)) (width_of s.bits a == width_of s.bits b) formed in
        let (three, one) = and_parts (is_expr s.bits test && is_expr s.bits a && is_expr s.bits b) (width_of s.bits test == 1) four in
        let (two, third) = and_parts (is_expr s.bits test && is_expr s.bits a) (is_expr s.bits b) three in
        let (first, second) = and_parts (is_expr s.bits test) (is_expr s.bits a) two in
        let below = All-tail IsRead (Choose test a b) (parts_of test ++ parts_of a ++ parts_of b) read in
        let front = left_part IsRead (parts_of test ++ parts_of a) (parts_of b) below in
        choice-is names (width_of s.bits a) _ _ _ (text-is test first (left_part IsRead (parts_of test) (parts_of a) front) Exact false)
        (text-is a second (right_part IsRead (parts_of test) (parts_of a) front) way false)
        (subst (λ w. Is w (text s way false b)) (sym (eqb-true (width_of s.bits a) (width_of s.bits b) same)) (text-is b third (right_part IsRead (parts_of test ++ parts_of a) (parts_of b) below) way false))
    text-is (Address distance) formed read way votes = taken-is names Exact way 16 _ (placed-is (s.place distance) (declared.places distance))

    pub text-allowed : (e : Expr) (way : Way) (votes : Bool) → is_expr s.bits e ≡ true → All (λ location. s.named location ≡ true) (reads_of e) → Is (width_of s.bits e) (text s way votes e)
    text-allowed e way votes formed read = text-is e formed (all_parts (λ location. s.named location ≡ true) got_by (parts_of e) read) way votes

pub expressions-allowed : ExpressionsAreAllowed
expressions-allowed names s e way votes declared formed read = text-allowed names s declared e way votes formed read
