-- The tests of two types are equality.
use Rattle.std.proofs.Common.{◌≡◌, Bool, true, refl, subst}
use Rattle.std.specs.Bool.{beq, Decides}
use Rattle.std.specs.Cmp.{booleans_Decides}
use Rattle.std.proofs.lemmas.Bool.{and_parts, and_from}
use Rattle.dcc_c.specs.declared.syntax.Base.{Base}
use Rattle.dcc_c.specs.declared.syntax.Base.TheVariants.{Schar, Uchar, Int, Uint, Long, Ulong}
use Rattle.dcc_c.specs.declared.syntax.CType.{CType}
use Rattle.dcc_c.specs.Types.{same_base, same_type}

-- a type as its two parts
type_with : Base → Bool → CType
type_with base pointer = record { base = base; pointer = pointer }

pub same_base-refl : (base : Base) → same_base base base ≡ true
same_base-refl Schar = refl
same_base-refl _ = refl

pub base_from_same : (a b : Base) → same_base a b ≡ true → a ≡ b
base_from_same Schar Schar same = refl
base_from_same Uchar Uchar same = refl
base_from_same Int Int same = refl
base_from_same Uint Uint same = refl
base_from_same Long Long same = refl
base_from_same Ulong Ulong same = refl
base_from_same _ _ same = absurd cc

reflexive : (t : CType) → same_type t t ≡ true
reflexive t =
    and_from (same_base t.base t.base) (beq t.pointer t.pointer)
    (same_base-refl t.base) ((booleans_Decides t.pointer t.pointer).1 refl)

alike : (x y : Base) (p q : Bool) → x ≡ y → p ≡ q → type_with x p ≡ type_with y q
alike x y p q e f = rw (e, f) refl

-- the test of two types answers just whether they are equal
pub same_type-decides : (a b : CType) → Decides (same_type a b) (a ≡ b)
unfolding type_with
same_type-decides a b = (equal, same)
  where
    equal : same_type a b ≡ true → a ≡ b
    equal e =
        let (base, pointer) = and_parts (same_base a.base b.base) (beq a.pointer b.pointer) e in
        alike a.base b.base a.pointer b.pointer
        (base_from_same a.base b.base base) ((booleans_Decides a.pointer b.pointer).0 pointer)

    same : a ≡ b → same_type a b ≡ true
    same e = subst (λ t. same_type a t ≡ true) e (reflexive a)
