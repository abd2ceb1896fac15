-- Expressions have types without needless casts: their own, or another number type.
use Rattle.std.proofs.Common.{◌≡◌, ℕ, Bool, true, false, ◌&&◌, ◌||◌, not, List, Option, Some, None, refl, ap, ap₂, ◌∙◌}
use Rattle.std.specs.Prelude.{nat_le, if◌then◌else◌, option_map, option_and_then}
use Rattle.dcc_c.specs.declared.syntax.Base.{Base}
use Rattle.dcc_c.specs.declared.syntax.Base.TheVariants.{Int}
use Rattle.dcc_c.specs.declared.syntax.CType.{CType}
use Rattle.dcc_c.specs.declared.syntax.CUn.{CUn}
use Rattle.dcc_c.specs.declared.syntax.CUn.TheVariants.{Minus, Complement, Not, Deref, AddressOf}
use Rattle.dcc_c.specs.declared.syntax.CBin.{CBin}
use Rattle.dcc_c.specs.Types.{bits_of, plain, promoted_type, common_type}
use Rattle.dcc_c.specs.Tree.{Expr, Number, Name, Unary, Binary, Conditional, Cast}
use Rattle.dcc_c.specs.Typing.{Declared, unary_type, unary_number_type, numbers_type, binary_type, both_types, both_arms_type, arms_type, tested_type, is_comparison, is_sum, type_of}
use Rattle.dcc_c.specs.Types.{same_type}
use Rattle.dcc_c.specs.Rules.{is_number}
use Rattle.dcc_casts.specs.Casts.{carries, carries_one, is_left_shift, room_of, are_numbers, kept, lowered}

-- Options.

-- what is made of a type is made of one
pub operand-has : (f : CType → Option CType) (o : Option CType) (t : CType) → option_and_then f o ≡ Some t → (u : CType) × (o ≡ Some u) × (f u ≡ Some t)
operand-has f (Some u) t is = (u, refl, is)
operand-has f None t is = absurd cc

pub cast-has : (type : CType) (o : Option CType) (t : CType) → option_map (λ from. type) o ≡ Some t → (u : CType) × (o ≡ Some u) × (type ≡ t)
cast-has type (Some u) t is = (u, refl, some is)
  where
    some : Some type ≡ Some t → type ≡ t
    some e = cc
cast-has type None t is = absurd cc

pub both-have : (operator : CBin) (o p : Option CType) (t : CType) → both_types operator o p ≡ Some t → (u v : CType) × (o ≡ Some u) × (p ≡ Some v) × (binary_type operator u v ≡ Some t)
both-have operator (Some u) (Some v) t is = (u, v, refl, refl, is)
both-have operator (Some u) None t is = absurd cc
both-have operator None p t is = absurd cc

no-arms : (pointer : Bool) (t : CType) → (if pointer then None else None) ≡ Some t → ⊥
no-arms true t is = absurd cc
no-arms false t is = absurd cc

pub three-have : (o p q : Option CType) (t : CType) → tested_type o (both_arms_type p q) ≡ Some t → (test u v : CType) × (o ≡ Some test) × (p ≡ Some u) × (q ≡ Some v) × (tested_type (Some test) (arms_type u v) ≡ Some t)
three-have (Some test) (Some u) (Some v) t is = (test, u, v, refl, refl, refl, is)
three-have (Some test) (Some u) None t is = absurd (no-arms test.pointer t is)
three-have (Some test) None q t is = absurd (no-arms test.pointer t is)
three-have None p q t is = absurd cc

-- Numbers.

pub plain-is : (t : CType) → t.pointer ≡ false → t ≡ plain t.base
plain-is t is = ap (λ p. record { base = t.base; pointer = p }) is

pub not-true : (b : Bool) → not b ≡ true → b ≡ false
not-true false is = refl
not-true true is = absurd cc

told-number : (o : Option CType) → elim o [ Some type ↦ not type.pointer | None ↦ false ] ≡ true → (b : Base) × (o ≡ Some (plain b))
told-number (Some type) is = (type.base, ap Some (plain-is type (not-true type.pointer is)))
told-number None is = absurd cc

some-same : {a b : CType} → Some a ≡ Some b → a ≡ b
some-same e = cc

-- a test that is not passed chooses the other
pub unless : {A : Type 0} (c n d : Bool) (x y : A) → d ≡ false → (if c && (n && d) then x else y) ≡ y
unless true true true x y is = absurd cc
unless true true false x y is = refl
unless true false d x y is = refl
unless false n d x y is = refl

pub unless-both : {A : Type 0} (n d : Bool) (x y : A) → d ≡ false → (if n && d then x else y) ≡ y
unless-both true true x y is = absurd cc
unless-both true false x y is = refl
unless-both false d x y is = refl

first-false : (a b : Bool) → a ≡ false → (a && b) ≡ false
first-false true b is = absurd cc
first-false false b is = refl

module _ (names : List Declared) where
  pub number-typed : (e : Expr) → is_number names e ≡ true → (b : Base) × (type_of names e ≡ Some (plain b))
  number-typed e is = told-number (type_of names e) is

  pub pointer-no_number : (e : Expr) (t : CType) → type_of names e ≡ Some t → t.pointer ≡ true → is_number names e ≡ false
  pointer-no_number e t is pointer = ap (λ o. elim o [ Some type ↦ not type.pointer | None ↦ false ]) is ∙ ap not pointer

  -- Pointers.

  no-pointer : (b : Base) (t : CType) → Some (plain b) ≡ Some t → t.pointer ≡ true → ⊥
  no-pointer b t is pointer = let same : plain b ≡ t = some-same is in let no : false ≡ true = ap (λ (u : CType). u.pointer) same ∙ pointer in absurd cc

  one-plain : (operator : CUn) (u t : CType) → carries_one operator ≡ true → unary_type operator u ≡ Some t → t.pointer ≡ true → ⊥
  one-plain Minus u t carry is pointer = by u.pointer is
    where
      by : (p : Bool) → option_and_then (unary_number_type Minus) (if p then None else Some u.base) ≡ Some t → ⊥
      by true is = absurd cc
      by false is = no-pointer (promoted_type u.base) t is pointer
  one-plain Complement u t carry is pointer = by u.pointer is
    where
      by : (p : Bool) → option_and_then (unary_number_type Complement) (if p then None else Some u.base) ≡ Some t → ⊥
      by true is = absurd cc
      by false is = no-pointer (promoted_type u.base) t is pointer
  one-plain Not u t carry is pointer = absurd cc
  one-plain Deref u t carry is pointer = absurd cc
  one-plain AddressOf u t carry is pointer = absurd cc

  -- the left operand of an operator that gives a pointer is one
  left-pointer : (operator : CBin) (u v t : CType) → binary_type operator u v ≡ Some t → t.pointer ≡ true → u.pointer ≡ true
  left-pointer operator u v t is pointer = by u.pointer v.pointer refl is
    where
      by : (p q : Bool) → u.pointer ≡ p → (if p then (if q then (if is_comparison operator then (if same_type u v then Some (plain Int) else None) else None) else if is_sum operator then Some u else None) else if q then None else Some (plain (numbers_type operator u.base v.base))) ≡ Some t → u.pointer ≡ true
      by true q own is = own
      by false true own is = absurd cc
      by false false own is = absurd (no-pointer (numbers_type operator u.base v.base) t is pointer)

  arms-pointer : (test u v t : CType) → tested_type (Some test) (arms_type u v) ≡ Some t → t.pointer ≡ true → u.pointer ≡ true
  arms-pointer test u v t is pointer = tested test.pointer is
    where
      by : (p q : Bool) → u.pointer ≡ p → (if p then (if same_type u v then Some u else None) else if q then None else Some (plain (common_type u.base v.base))) ≡ Some t → u.pointer ≡ true
      by true q own is = own
      by false true own is = absurd cc
      by false false own is = absurd (no-pointer (common_type u.base v.base) t is pointer)

      tested : (b : Bool) → (if b then None else arms_type u v) ≡ Some t → u.pointer ≡ true
      tested true is = absurd cc
      tested false is = by u.pointer v.pointer refl is

  -- casts of pointers, and of what is made of them, stay
  pub pointer-kept : (bits : ℕ) (e : Expr) (t : CType) → type_of names e ≡ Some t → t.pointer ≡ true → lowered names bits e ≡ kept names e
  pointer-kept bits (Number n base) t is pointer = refl
  pointer-kept bits (Name word) t is pointer = refl
  pointer-kept bits (Unary AddressOf a) t is pointer = refl
  pointer-kept bits (Unary Deref a) t is pointer = refl
  pointer-kept bits (Unary Not a) t is pointer = refl
  pointer-kept bits (Unary Minus a) t is pointer =
      let has = operand-has (unary_type Minus) (type_of names a) t is in absurd (one-plain Minus has.0 t refl has.2 pointer)
  pointer-kept bits (Unary Complement a) t is pointer =
      let has = operand-has (unary_type Complement) (type_of names a) t is in absurd (one-plain Complement has.0 t refl has.2 pointer)
  pointer-kept bits (Binary operator a b) t is pointer =
      let has = both-have operator (type_of names a) (type_of names b) t is in
      let left = pointer-no_number a has.0 has.2 (left-pointer operator has.0 has.1 t has.4 pointer) in
      ap₂ (λ x y. Binary operator x y)
      (unless (carries operator || is_left_shift operator) (nat_le bits 16) (are_numbers names a b) (lowered names bits a) (kept names a) (first-false (is_number names a) (is_number names b) left))
      (unless (carries operator) (nat_le bits 16) (are_numbers names a b) (lowered names bits b) (kept names b) (first-false (is_number names a) (is_number names b) left))
  pointer-kept bits (Conditional a b c) t is pointer =
      let has = three-have (type_of names a) (type_of names b) (type_of names c) t is in
      let left = pointer-no_number b has.1 has.4 (arms-pointer has.0 has.1 has.2 t has.6 pointer) in
      let none = first-false (is_number names b) (is_number names c) left in
      ap₂ (λ x y. Conditional (kept names a) x y)
      (unless-both (nat_le bits 16) (are_numbers names b c) (lowered names bits b) (kept names b) none)
      (unless-both (nat_le bits 16) (are_numbers names b c) (lowered names bits c) (kept names c) none)
  pointer-kept bits (Cast type a) t is pointer =
      let has = cast-has type (type_of names a) t is in
      let pointing : type.pointer ≡ true = ap (λ (u : CType). u.pointer) has.2 ∙ pointer in
      ap (λ p. if not p && (nat_le bits (bits_of type.base) && is_number names a) then lowered names bits a else Cast type (lowered names (room_of type) a)) pointing

  -- Types.

  -- the test of an arm is a number
  pub tested-number : (test u v t : CType) → tested_type (Some test) (arms_type u v) ≡ Some t → test.pointer ≡ false
  tested-number test u v t is = by test.pointer is
    where
      by : (b : Bool) → (if b then None else arms_type u v) ≡ Some t → b ≡ false
      by true is = absurd cc
      by false is = refl

  one-number : (operator : CUn) (b : Base) → carries_one operator ≡ true → (to : Base) × (unary_type operator (plain b) ≡ Some (plain to))
  one-number Minus b is = (promoted_type b, refl)
  one-number Complement b is = (promoted_type b, refl)
  one-number Not b is = absurd cc
  one-number Deref b is = absurd cc
  one-number AddressOf b is = absurd cc

  unary-of : (operator : CUn) (e : Expr) (t : CType) → carries_one operator ≡ true → type_of names e ≡ Some t → type_of names (Unary operator e) ≡ unary_type operator t
  unary-of Minus e t is has = ap (option_and_then (unary_type Minus)) has
  unary-of Complement e t is has = ap (option_and_then (unary_type Complement)) has
  unary-of Not e t is has = absurd cc
  unary-of Deref e t is has = absurd cc
  unary-of AddressOf e t is has = absurd cc

  -- the second expression is a number where the first one is
  abbrev Lowers : Expr → Expr → Type 0
  Lowers a low = (b : Base) → type_of names a ≡ Some (plain b) → (to : Base) × (type_of names low ≡ Some (plain to))

  abbrev IsSome : Expr → Type 0
  IsSome e = (to : Base) × (type_of names e ≡ Some (plain to))

  -- without needless casts an expression that has a type has one
  lowered-has : (bits : ℕ) (e : Expr) (t : CType) → type_of names e ≡ Some t → Lowers e (lowered names bits e) → type_of names (kept names e) ≡ Some t →
      (u : CType) × (type_of names (lowered names bits e) ≡ Some u)
  lowered-has bits e t is lowers own = by t.pointer refl
    where
      by : (p : Bool) → t.pointer ≡ p → (u : CType) × (type_of names (lowered names bits e) ≡ Some u)
      by true pointer = (t, ap (type_of names) (pointer-kept bits e t is pointer) ∙ own)
      by false pointer = let has = lowers t.base (is ∙ ap Some (plain-is t pointer)) in (plain has.0, has.1)

  unary-typed : (operator : CUn) (few number : Bool) (a low : Expr) (b : Base) → is_number names a ≡ number → type_of names (Unary operator (kept names a)) ≡ Some (plain b) → Lowers a low →
      IsSome (Unary operator (if carries_one operator && (few && number) then low else kept names a))
  unary-typed operator few number a low b told own lowers = by (carries_one operator) few number refl told
    where
      by : (o f n : Bool) → carries_one operator ≡ o → is_number names a ≡ n → IsSome (Unary operator (if o && (f && n) then low else kept names a))
      by true true true is told =
          let has = number-typed a told in
          let to = lowers has.0 has.1 in
          let one = one-number operator to.0 is in
          (one.0, unary-of operator low (plain to.0) is to.1 ∙ one.1)
      by true true false is told = (b, own)
      by true false n is told = (b, own)
      by false f n is told = (b, own)

  binary-typed : (operator : CBin) (few number also : Bool) (a c low other : Expr) (b : Base) → is_number names a ≡ number → is_number names c ≡ also → type_of names (Binary operator (kept names a) (kept names c)) ≡ Some (plain b) →
      Lowers a low → Lowers c other → ((own : Base) → type_of names c ≡ Some (plain own) → type_of names (kept names c) ≡ Some (plain own)) →
      IsSome (Binary operator (if (carries operator || is_left_shift operator) && (few && (number && also)) then low else kept names a) (if carries operator && (few && (number && also)) then other else kept names c))
  binary-typed operator few number also a c low other b told told_also own lowers others kept_is = by (carries operator) (is_left_shift operator) few number also told told_also
    where
      two : (h k : Expr) (u v : Base) → type_of names h ≡ Some (plain u) → type_of names k ≡ Some (plain v) → IsSome (Binary operator h k)
      two h k u v first second = (numbers_type operator u v, ap₂ (both_types operator) first second)

      by : (o s f n m : Bool) → is_number names a ≡ n → is_number names c ≡ m → IsSome (Binary operator (if (o || s) && (f && (n && m)) then low else kept names a) (if o && (f && (n && m)) then other else kept names c))
      by true s true true true told told_also =
          let first = number-typed a told in
          let second = number-typed c told_also in
          let to = lowers first.0 first.1 in
          let also_to = others second.0 second.1 in
          two low other to.0 also_to.0 to.1 also_to.1
      by false true true true true told told_also =
          let first = number-typed a told in
          let second = number-typed c told_also in
          let to = lowers first.0 first.1 in
          two low (kept names c) to.0 second.0 to.1 (kept_is second.0 second.1)
      by false false f n m told told_also = (b, own)
      by true s false n m told told_also = (b, own)
      by true s true false m told told_also = (b, own)
      by true s true true false told told_also = (b, own)
      by false true false n m told told_also = (b, own)
      by false true true false m told told_also = (b, own)
      by false true true true false told told_also = (b, own)

  arms-typed : (few number also : Bool) (a c d low other : Expr) (b : Base) → is_number names c ≡ number → is_number names d ≡ also → type_of names (Conditional (kept names a) (kept names c) (kept names d)) ≡ Some (plain b) →
      (t : CType) × (type_of names (kept names a) ≡ Some t) × (t.pointer ≡ false) → Lowers c low → Lowers d other →
      IsSome (Conditional (kept names a) (if few && (number && also) then low else kept names c) (if few && (number && also) then other else kept names d))
  arms-typed true true true a c d low other b told told_also own test lowers others =
      let first = number-typed c told in
      let second = number-typed d told_also in
      let to = lowers first.0 first.1 in
      let also_to = others second.0 second.1 in
      (common_type to.0 also_to.0, ap₂ tested_type test.1 (ap₂ both_arms_type to.1 also_to.1) ∙ ap (λ p. if p then None else Some (plain (common_type to.0 also_to.0))) test.2)
  arms-typed false number also a c d low other b told told_also own test lowers others = (b, own)
  arms-typed true false also a c d low other b told told_also own test lowers others = (b, own)
  arms-typed true true false a c d low other b told told_also own test lowers others = (b, own)

  cast-typed : (free few number : Bool) (bits : ℕ) (type : CType) (a : Expr) (b : Base) → is_number names a ≡ number → type_of names (kept names (Cast type a)) ≡ Some (plain b) → Lowers a (lowered names bits a) →
      IsSome (if free && (few && number) then lowered names bits a else kept names (Cast type a))
  cast-typed true true true bits type a b told own lowers = let has = number-typed a told in lowers has.0 has.1
  cast-typed false few number bits type a b told own lowers = (b, own)
  cast-typed true false number bits type a b told own lowers = (b, own)
  cast-typed true true false bits type a b told own lowers = (b, own)

  -- Each head keeps its type where its operands keep theirs.

  abbrev Keeps : Expr → Expr → Type 0
  Keeps a k = (t : CType) → type_of names a ≡ Some t → type_of names k ≡ Some t

  unary-keeps : (operator : CUn) (a : Expr) → Keeps a (kept names a) → Keeps (Unary operator a) (Unary operator (kept names a))
  unary-keeps AddressOf (Name word) own t is = is
  unary-keeps AddressOf (Number n base) own t is = absurd cc
  unary-keeps AddressOf (Unary operator a) own t is = absurd cc
  unary-keeps AddressOf (Binary operator a b) own t is = absurd cc
  unary-keeps AddressOf (Conditional a b c) own t is = absurd cc
  unary-keeps AddressOf (Cast type a) own t is = absurd cc
  unary-keeps Minus a own t is = let has = operand-has (unary_type Minus) (type_of names a) t is in ap (option_and_then (unary_type Minus)) (own has.0 has.1) ∙ has.2
  unary-keeps Complement a own t is = let has = operand-has (unary_type Complement) (type_of names a) t is in ap (option_and_then (unary_type Complement)) (own has.0 has.1) ∙ has.2
  unary-keeps Not a own t is = let has = operand-has (unary_type Not) (type_of names a) t is in ap (option_and_then (unary_type Not)) (own has.0 has.1) ∙ has.2
  unary-keeps Deref a own t is = let has = operand-has (unary_type Deref) (type_of names a) t is in ap (option_and_then (unary_type Deref)) (own has.0 has.1) ∙ has.2

  binary-keeps : (operator : CBin) (a b : Expr) → Keeps a (kept names a) → Keeps b (kept names b) → Keeps (Binary operator a b) (Binary operator (kept names a) (kept names b))
  binary-keeps operator a b first second t is =
      let has = both-have operator (type_of names a) (type_of names b) t is in
      ap₂ (both_types operator) (first has.0 has.2) (second has.1 has.3) ∙ has.4

  arms-keep : (a b c : Expr) → Keeps a (kept names a) → Keeps b (kept names b) → Keeps c (kept names c) → Keeps (Conditional a b c) (Conditional (kept names a) (kept names b) (kept names c))
  arms-keep a b c first second third t is =
      let has = three-have (type_of names a) (type_of names b) (type_of names c) t is in
      ap₂ tested_type (first has.0 has.3) (ap₂ both_arms_type (second has.1 has.4) (third has.2 has.5)) ∙ has.6

  cast-keeps : (type : CType) (a : Expr) → Lowers a (lowered names (room_of type) a) → Keeps a (kept names a) → Keeps (Cast type a) (Cast type (lowered names (room_of type) a))
  cast-keeps type a lowers own t is =
      let has = cast-has type (type_of names a) t is in
      let some = lowered-has (room_of type) a has.0 has.1 lowers (own has.0 has.1) in
      ap (option_map (λ from. type)) some.1 ∙ ap Some has.2

  mutual
    pub kept-typed : (e : Expr) (t : CType) → type_of names e ≡ Some t → type_of names (kept names e) ≡ Some t
    kept-typed (Number n base) t is = is
    kept-typed (Name word) t is = is
    kept-typed (Unary operator a) t is = unary-keeps operator a (λ u has. kept-typed a u has) t is
    kept-typed (Binary operator a b) t is = binary-keeps operator a b (λ u has. kept-typed a u has) (λ u has. kept-typed b u has) t is
    kept-typed (Conditional a b c) t is = arms-keep a b c (λ u has. kept-typed a u has) (λ u has. kept-typed b u has) (λ u has. kept-typed c u has) t is
    kept-typed (Cast type a) t is = cast-keeps type a (λ b own. lowered-typed (room_of type) a b own) (λ u has. kept-typed a u has) t is

    pub lowered-typed : (bits : ℕ) (e : Expr) (b : Base) → type_of names e ≡ Some (plain b) → (to : Base) × (type_of names (lowered names bits e) ≡ Some (plain to))
    lowered-typed bits (Number n base) b is = (b, is)
    lowered-typed bits (Name word) b is = (b, is)
    lowered-typed bits (Unary operator a) b is =
        unary-typed operator (nat_le bits 16) (is_number names a) a (lowered names bits a) b refl (unary-keeps operator a (λ u has. kept-typed a u has) (plain b) is) (λ c has. lowered-typed bits a c has)
    lowered-typed bits (Binary operator a c) b is =
        binary-typed operator (nat_le bits 16) (is_number names a) (is_number names c) a c (lowered names bits a) (lowered names bits c) b refl refl (binary-keeps operator a c (λ u has. kept-typed a u has) (λ u has. kept-typed c u has) (plain b) is)
        (λ own has. lowered-typed bits a own has) (λ own has. lowered-typed bits c own has) (λ own has. kept-typed c (plain own) has)
    lowered-typed bits (Conditional a c d) b is =
        let has = three-have (type_of names a) (type_of names c) (type_of names d) (plain b) is in
        arms-typed (nat_le bits 16) (is_number names c) (is_number names d) a c d (lowered names bits c) (lowered names bits d) b refl refl (arms-keep a c d (λ u own. kept-typed a u own) (λ u own. kept-typed c u own) (λ u own. kept-typed d u own) (plain b) is)
        (has.0, kept-typed a has.0 has.3, tested-number has.0 has.1 has.2 (plain b) has.6) (λ own has. lowered-typed bits c own has) (λ own has. lowered-typed bits d own has)
    lowered-typed bits (Cast type a) b is =
        cast-typed (not type.pointer) (nat_le bits (bits_of type.base)) (is_number names a) bits type a b refl (cast-keeps type a (λ own has. lowered-typed (room_of type) a own has) (λ u has. kept-typed a u has) (plain b) is) (λ own has. lowered-typed bits a own has)
