-- The expressions of a text are writable.
use Rattle.std.proofs.Common.{◌≡◌, inl, inr, ℕ, Bool, true, false, ◌&&◌, if◌then◌else◌, List, ◌∷◌, Option, Some, None, is_some, refl, ap, ◌∙◌}
use Rattle.std.specs.Prelude.{nat_le, option_and_then, option_map}
use Rattle.std.specs.List.{list_all}
use Rattle.std.proofs.lemmas.Bool.{and_parts, and_from, cases_Bool}
use Rattle.dcc_c.specs.declared.syntax.Base.{Base}
use Rattle.dcc_c.specs.declared.syntax.CType.{CType}
use Rattle.dcc_c.specs.declared.syntax.CUn.TheVariants.{Minus, Complement, Not, Deref, AddressOf}
use Rattle.dcc_c.specs.declared.syntax.CBin.{CBin}
use Rattle.dcc_c.specs.Token.{Token, Suffix, plain_number, unsigned_suffix, long_suffix, unsigned_long_suffix, decimal_type, hex_type}
use Rattle.dcc_c.specs.Lexing.{Placed}
use Rattle.dcc_c.specs.Types.{same_base}
use Rattle.dcc_c.specs.Tree.{Word, Expr, Number, Name, Unary, Binary, Conditional, Cast}
use Rattle.dcc_c.specs.Grammar.{is_name, Begins, none, one, IsNumber, decimal, hex, IsExpr, number, name, parentheses, unary, cast, binary, conditional, stronger, IsPlace, name_place, deref_place, AreArguments, no_argument, last_argument, more_arguments, IsCall, call}
use Rattle.dcc_c.specs.Typing.{Declared, unary_type, both_types, both_arms_type, tested_type, type_of, place_type}
use Rattle.dcc_c.specs.Written.{suffix_for, suffix_gives}
use Rattle.dcc_c.proofs.Writable.{may_take, is_writable_expr, is_place}
use Rattle.dcc_c.proofs.TypeLaws.{same_base-refl}
use Rattle.dcc_c.proofs.SmallTokens.{has_small, AreSmall, tail_small, head_small}

-- Numbers.

-- the suffix of the written form does what some suffix does
suffix_found : (does : Suffix → Bool) (suffix : Suffix) → does suffix ≡ true →
    does (if does plain_number then plain_number else if does unsigned_suffix then unsigned_suffix else if does long_suffix then long_suffix else unsigned_long_suffix) ≡ true
suffix_found does suffix is = at_plain (does plain_number) refl
  where
    at_last : (suffix : Suffix) → does suffix ≡ true → does plain_number ≡ false → does unsigned_suffix ≡ false → does long_suffix ≡ false → does unsigned_long_suffix ≡ true
    at_last plain_number is a b c = absurd cc
    at_last unsigned_suffix is a b c = absurd cc
    at_last long_suffix is a b c = absurd cc
    at_last unsigned_long_suffix is a b c = is

    at_long : (t : Bool) → does long_suffix ≡ t → does plain_number ≡ false → does unsigned_suffix ≡ false → does (if t then long_suffix else unsigned_long_suffix) ≡ true
    at_long true c a b = c
    at_long false c a b = at_last suffix is a b c

    at_unsigned : (t : Bool) → does unsigned_suffix ≡ t → does plain_number ≡ false → does (if t then unsigned_suffix else if does long_suffix then long_suffix else unsigned_long_suffix) ≡ true
    at_unsigned true b a = b
    at_unsigned false b a = at_long (does long_suffix) refl a b

    at_plain : (t : Bool) → does plain_number ≡ t → does (if t then plain_number else if does unsigned_suffix then unsigned_suffix else if does long_suffix then long_suffix else unsigned_long_suffix) ≡ true
    at_plain true a = a
    at_plain false a = at_unsigned (does unsigned_suffix) refl a

-- a decimal number of this type is written with it
written_type : (n : ℕ) (suffix : Suffix) (base : Base) → decimal_type n suffix ≡ base → suffix_gives n base (suffix_for n base) ≡ true
written_type n suffix base type =
    suffix_found (suffix_gives n base) suffix (ap (λ b. same_base b base) type ∙ same_base-refl base)

-- a decimal number with the type of a hexadecimal one
decimal_for : (n : ℕ) (suffix : Suffix) → (other : Suffix) × (decimal_type n other ≡ hex_type n suffix)
decimal_for n plain_number =
    elim (cases_Bool (nat_le n 32767)) [
      | inl a ↦ (plain_number, rw a refl)
      | inr a ↦ elim (cases_Bool (nat_le n 65535)) [
        | inl b ↦ (unsigned_suffix, rw (a, b) refl)
        | inr b ↦ elim (cases_Bool (nat_le n 2147483647)) [
          | inl c ↦ (long_suffix, rw (a, b, c) refl)
          | inr c ↦ (unsigned_long_suffix, rw (a, b, c) refl)
        ]
      ]
    ]
decimal_for n unsigned_suffix = (unsigned_suffix, refl)
decimal_for n long_suffix = (long_suffix, refl)
decimal_for n unsigned_long_suffix = (unsigned_long_suffix, refl)

number_writable : {token : Token} {n : ℕ} {base : Base} → IsNumber token n base → has_small token ≡ true → is_writable_expr (Number n base) ≡ true
number_writable (decimal n suffix) small = and_from _ _ small (written_type n suffix (decimal_type n suffix) refl)
number_writable (hex n suffix) small =
    let (other, type) = decimal_for n suffix in
    and_from _ _ small (written_type n other (hex_type n suffix) type)

-- Expressions.

-- each `&` in the expression takes a name
abbrev pub takes_names : Expr → Bool
takes_names (Number n base) = true
takes_names (Name word) = true
takes_names (Unary operator a) = may_take operator a && takes_names a
takes_names (Binary operator a b) = takes_names a && takes_names b
takes_names (Conditional a b c) = takes_names a && (takes_names b && takes_names c)
takes_names (Cast type a) = takes_names a

-- an expression whose tokens have small numbers is writable, and so are the tokens after it
pub record IsWell (e : Expr) (rest : List Placed) : Type 0 where
  pub writable : takes_names e ≡ true → is_writable_expr e ≡ true
  pub following : AreSmall rest

pub begins_small : {all rest : List Placed} {tokens : List Token} → Begins all tokens rest → AreSmall all → AreSmall rest
begins_small none small = small
begins_small (one others) small = begins_small others (tail_small small)

both_writable : (a b c d : Bool) → (a ≡ true → c ≡ true) → (b ≡ true → d ≡ true) → (a && b) ≡ true → (c && d) ≡ true
both_writable a b c d first second good =
    let (here, there) = and_parts a b good in and_from c d (first here) (second there)

pub expr_well : {strength : ℕ} {tokens rest : List Placed} {e : Expr} → IsExpr strength tokens e rest → AreSmall tokens → IsWell e rest
expr_well (number is) small = let good = number_writable is (head_small small) in record { writable = λ takes. good; following = tail_small small }
expr_well (name bytes is) small = record { writable = λ takes. is; following = tail_small small }
expr_well (parentheses inner) small =
    let well = expr_well inner (tail_small small) in record { writable = well.writable; following = tail_small well.following }
expr_well (unary {e} operator inner) small =
    let well = expr_well inner (tail_small small) in
    record { writable = both_writable (may_take operator e) (takes_names e) (may_take operator e) (is_writable_expr e) (λ is. is) well.writable; following = well.following }
expr_well (cast type begins inner) small =
    let well = expr_well inner (tail_small (begins_small begins (tail_small small))) in record { writable = well.writable; following = well.following }
expr_well (binary {a} {b} operator left right) small =
    let first = expr_well left small in
    let second = expr_well right (tail_small first.following) in
    record { writable = both_writable (takes_names a) (takes_names b) (is_writable_expr a) (is_writable_expr b) first.writable second.writable; following = second.following }
expr_well (conditional {a} {b} {c} test left right) small =
    let first = expr_well test small in
    let second = expr_well left (tail_small first.following) in
    let third = expr_well right (tail_small second.following) in
    let others = both_writable (takes_names b) (takes_names c) (is_writable_expr b) (is_writable_expr c) second.writable third.writable in
    record { writable = both_writable (takes_names a) (takes_names b && takes_names c) (is_writable_expr a) (is_writable_expr b && is_writable_expr c) first.writable others; following = third.following }
expr_well (stronger inner) small = let well = expr_well inner small in record { writable = well.writable; following = well.following }

pub is_place-place : {tokens rest : List Placed} {place : Expr} → IsPlace tokens place rest → is_place place ≡ true
is_place-place (name_place bytes is) = refl
is_place-place (deref_place inner) = refl

pub place_well : {tokens rest : List Placed} {place : Expr} → IsPlace tokens place rest → AreSmall tokens → IsWell place rest
place_well (name_place bytes is) small = record { writable = λ takes. is; following = tail_small small }
place_well (deref_place inner) small = let well = expr_well inner (tail_small small) in record { writable = well.writable; following = well.following }

-- arguments whose tokens have small numbers are writable
pub record AreWell (es : List Expr) (rest : List Placed) : Type 0 where
  pub writable : list_all takes_names es ≡ true → list_all is_writable_expr es ≡ true
  pub following : AreSmall rest

arguments_well : {tokens rest : List Placed} {es : List Expr} → AreArguments tokens es rest → AreSmall tokens → AreWell es rest
arguments_well no_argument small = record { writable = λ takes. refl; following = small }
arguments_well (last_argument {e} is) small =
    let well = expr_well is small in
    record { writable = both_writable (takes_names e) true (is_writable_expr e) true well.writable (λ t. t); following = well.following }
arguments_well (more_arguments {e} {f} {es} is others) small =
    let well = expr_well is small in
    let more = arguments_well others (tail_small well.following) in
    record { writable = both_writable (takes_names e) (list_all takes_names (f ∷ es)) (is_writable_expr e) (list_all is_writable_expr (f ∷ es)) well.writable more.writable; following = more.following }

pub is_name-call : {tokens rest : List Placed} {function : Word} {arguments : List Expr} → IsCall tokens function arguments rest → is_name function ≡ true
is_name-call (call function is arguments) = is

pub call_well : {tokens rest : List Placed} {function : Word} {arguments : List Expr} → IsCall tokens function arguments rest → AreSmall tokens → AreWell arguments rest
call_well (call function is arguments) small =
    let well = arguments_well arguments (tail_small (tail_small small)) in record { writable = well.writable; following = tail_small well.following }

-- Types.

then_some : {A B : Type 0} (next : A → Option B) (o : Option A) → is_some (option_and_then next o) ≡ true → is_some o ≡ true
then_some next None is = is
then_some next (Some x) is = refl

mapped_some : {A B : Type 0} (g : A → B) (o : Option A) → is_some (option_map g o) ≡ true → is_some o ≡ true
mapped_some g None is = is
mapped_some g (Some x) is = refl

both_some : (operator : CBin) (a b : Option CType) → is_some (both_types operator a b) ≡ true → (is_some a ≡ true) × (is_some b ≡ true)
both_some operator None None is = absurd cc
both_some operator None (Some b) is = absurd cc
both_some operator (Some a) None is = absurd cc
both_some operator (Some a) (Some b) is = (refl, refl)

arms_some : (a b : Option CType) → is_some (both_arms_type a b) ≡ true → (is_some a ≡ true) × (is_some b ≡ true)
arms_some None None is = absurd cc
arms_some None (Some b) is = absurd cc
arms_some (Some a) None is = absurd cc
arms_some (Some a) (Some b) is = (refl, refl)

tested_some : (a type : Option CType) → is_some (tested_type a type) ≡ true → (is_some a ≡ true) × (is_some type ≡ true)
tested_some None type is = absurd cc
tested_some (Some a) type is = by_test a.pointer is
  where
    by_test : (pointer : Bool) → is_some (if pointer then None else type) ≡ true → (is_some (Some a) ≡ true) × (is_some type ≡ true)
    by_test true no_type = absurd cc
    by_test false some = (refl, some)

-- in an expression with a type each `&` takes a name
pub typed_takes : (names : List Declared) (e : Expr) → is_some (type_of names e) ≡ true → takes_names e ≡ true
typed_takes names (Number n base) is = refl
typed_takes names (Name word) is = refl
typed_takes names (Unary AddressOf (Name word)) is = refl
typed_takes names (Unary AddressOf _) is = absurd cc
typed_takes names (Unary Minus a) is = typed_takes names a (then_some (unary_type Minus) (type_of names a) is)
typed_takes names (Unary Complement a) is = typed_takes names a (then_some (unary_type Complement) (type_of names a) is)
typed_takes names (Unary Not a) is = typed_takes names a (then_some (unary_type Not) (type_of names a) is)
typed_takes names (Unary Deref a) is = typed_takes names a (then_some (unary_type Deref) (type_of names a) is)
typed_takes names (Binary operator a b) is =
    let (first, second) = both_some operator (type_of names a) (type_of names b) is in
    and_from _ _ (typed_takes names a first) (typed_takes names b second)
typed_takes names (Conditional a b c) is =
    let (first, others) = tested_some (type_of names a) (both_arms_type (type_of names b) (type_of names c)) is in
    let (second, third) = arms_some (type_of names b) (type_of names c) others in
    and_from _ _ (typed_takes names a first) (and_from _ _ (typed_takes names b second) (typed_takes names c third))
typed_takes names (Cast type a) is = typed_takes names a (mapped_some (λ from. type) (type_of names a) is)

pub placed_takes : (names : List Declared) (place : Expr) → is_some (place_type names place) ≡ true → takes_names place ≡ true
placed_takes names (Name word) is = refl
placed_takes names (Unary Deref a) is = typed_takes names (Unary Deref a) is
placed_takes names _ is = absurd cc
