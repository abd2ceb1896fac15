-- When locations hold at most one value.
use Rattle.std.proofs.Common.{◌≡◌, Bool, true, inl, inr, List, [], ◌∷◌, refl, sym, ap, ◌∙◌, subst, true≢false}
use Rattle.std.specs.Prelude.{◌⊎◌, All}
use Rattle.std.specs.List.{list_all}
use Rattle.std.proofs.lemmas.Bool.{and_parts, and_from, or_cases, or_left, or_right}
use Rattle.std.proofs.lemmas.List.Elements.{All-nil, All-cons, All-head, All-tail}
use Rattle.dcc_num.specs.declared.Reg.{Reg}
use Rattle.dcc_num.specs.declared.Reg.TheVariants.{Ax, Dx}
use Rattle.dcc_num.specs.declared.Half.{Half as HalfName}
use Rattle.dcc_num.specs.declared.Half.TheVariants.{Low, High}
use Rattle.dcc_ir.specs.declared.syntax.Loc.{Loc}
use Rattle.dcc_ir.specs.declared.syntax.Loc.TheVariants.{Half, Flag, Cell, Temp}
use Rattle.dcc_ir.specs.Location.{same_location}
use Rattle.dcc_ir.proofs.LocationLaws.{location_same, location_itself}
use Rattle.dcc_sums.specs.Summaries.{IsHalfOf, AreOneValue}
use Rattle.dcc_summaries.specs.Summaries.{is_half_of, is_in_pair, is_one_value}

all_are : (P : Loc → Type 0) (f : Loc → Bool) → ((l : Loc) → f l ≡ true → P l) → (xs : List Loc) → list_all f xs ≡ true → All P xs
all_are P f is [] e = All-nil P
all_are P f is (x ∷ xs) e = let both = and_parts (f x) (list_all f xs) e in All-cons P x xs (is x both.0) (all_are P f is xs both.1)

all_tell : (P : Loc → Type 0) (f : Loc → Bool) → ((l : Loc) → P l → f l ≡ true) → (xs : List Loc) → All P xs → list_all f xs ≡ true
all_tell P f tells [] all = refl
all_tell P f tells (x ∷ xs) all = and_from (f x) (list_all f xs) (tells x (All-head P x xs all)) (all_tell P f tells xs (All-tail P x xs all))

half_is : (r : Reg) (l : Loc) → is_half_of r l ≡ true → IsHalfOf r l
half_is r l e = elim (or_cases (same_location l (Half r Low)) (same_location l (Half r High)) e) [
  | inl s ↦ (Low, location_same l (Half r Low) s)
  | inr s ↦ (High, location_same l (Half r High) s)
]

half_tells : (r : Reg) (l : Loc) → IsHalfOf r l → is_half_of r l ≡ true
half_tells r l (h, e) = subst (λ x. is_half_of r x ≡ true) (sym e) (by h)
  where
    by : (h : HalfName) → is_half_of r (Half r h) ≡ true
    by Low = or_left (same_location (Half r Low) (Half r Low)) (same_location (Half r Low) (Half r High)) (location_itself (Half r Low))
    by High = or_right (same_location (Half r High) (Half r Low)) (same_location (Half r High) (Half r High)) (location_itself (Half r High))

abbrev InPair : Loc → Type 0
InPair l = IsHalfOf Ax l ⊎ IsHalfOf Dx l

pair_is : (l : Loc) → is_in_pair l ≡ true → InPair l
pair_is l e = elim (or_cases (is_half_of Ax l) (is_half_of Dx l) e) [
  | inl a ↦ inl (half_is Ax l a)
  | inr d ↦ inr (half_is Dx l d)
]

pair_tells : (l : Loc) → InPair l → is_in_pair l ≡ true
pair_tells l (inl a) = or_left (is_half_of Ax l) (is_half_of Dx l) (half_tells Ax l a)
pair_tells l (inr d) = or_right (is_half_of Ax l) (is_half_of Dx l) (half_tells Dx l d)

pub one_value : (xs : List Loc) → is_one_value xs ≡ true → AreOneValue xs
one_value [] e = inl (Ax, All-nil (IsHalfOf Ax))
one_value (Half r h ∷ rest) e = elim (or_cases (list_all (is_half_of r) rest) (list_all is_in_pair (Half r h ∷ rest)) e) [
  | inl s ↦ inl (r, All-cons (IsHalfOf r) (Half r h) rest (h, refl) (all_are (IsHalfOf r) (is_half_of r) (half_is r) rest s))
  | inr s ↦ inr (inr (all_are InPair is_in_pair pair_is (Half r h ∷ rest) s))
]
one_value (Flag f ∷ rest) e =
    let IsFlag : Loc → Type 0 = λ l. l ≡ Flag f in
    inr (inl (f, All-cons IsFlag (Flag f) rest refl (all_are IsFlag (same_location (Flag f)) (λ l s. sym (location_same (Flag f) l s)) rest e)))
one_value (Cell n h ∷ rest) e = absurd (true≢false (sym e))
one_value (Temp n ∷ rest) e = absurd (true≢false (sym e))

no_half : (r : Reg) (l : Loc) → ((q : Reg) (h : HalfName) → l ≡ Half q h → ⊥) → IsHalfOf r l → ⊥
no_half r l none is = none r is.0 is.1

no_pair : (l : Loc) → ((q : Reg) (h : HalfName) → l ≡ Half q h → ⊥) → InPair l → ⊥
no_pair l none (inl a) = none Ax a.0 a.1
no_pair l none (inr d) = none Dx d.0 d.1

pub told_one : (xs : List Loc) → AreOneValue xs → is_one_value xs ≡ true
told_one [] are = refl
told_one (Half r h ∷ rest) (inl (q, all)) =
    let head = All-head (IsHalfOf q) (Half r h) rest all in
    let same : q ≡ r = register (Half r h) (Half q head.0) head.1 in
    or_left (list_all (is_half_of r) rest) (list_all is_in_pair (Half r h ∷ rest))
    (all_tell (IsHalfOf q) (is_half_of r) (λ l k. subst (λ s. is_half_of s l ≡ true) same (half_tells q l k)) rest (All-tail (IsHalfOf q) (Half r h) rest all))
  where
    of : Loc → Reg
    of (Half x y) = x
    of l = r

    register : (a b : Loc) → a ≡ b → of b ≡ of a
    register a b e = ap of (sym e)
told_one (Half r h ∷ rest) (inr (inl (f, all))) = absurd (not_flag (All-head (λ l. l ≡ Flag f) (Half r h) rest all))
  where
    not_flag : Half r h ≡ Flag f → ⊥
    not_flag e = cc
told_one (Half r h ∷ rest) (inr (inr all)) = or_right (list_all (is_half_of r) rest) (list_all is_in_pair (Half r h ∷ rest)) (all_tell InPair is_in_pair pair_tells (Half r h ∷ rest) all)
told_one (Flag f ∷ rest) (inl (q, all)) = absurd (no_half q (Flag f) (λ r h e. cc) (All-head (IsHalfOf q) (Flag f) rest all))
told_one (Flag f ∷ rest) (inr (inl (g, all))) =
    let IsFlag : Loc → Type 0 = λ l. l ≡ Flag g in
    let head = All-head IsFlag (Flag f) rest all in
    all_tell IsFlag (same_location (Flag f)) (λ l e. subst (λ x. same_location (Flag f) x ≡ true) (head ∙ sym e) (location_itself (Flag f))) rest (All-tail IsFlag (Flag f) rest all)
told_one (Flag f ∷ rest) (inr (inr all)) = absurd (no_pair (Flag f) (λ r h e. cc) (All-head InPair (Flag f) rest all))
told_one (Cell n k ∷ rest) (inl (q, all)) = absurd (no_half q (Cell n k) (λ r h e. cc) (All-head (IsHalfOf q) (Cell n k) rest all))
told_one (Cell n k ∷ rest) (inr (inl (g, all))) = let e = All-head (λ l. l ≡ Flag g) (Cell n k) rest all in absurd (cc)
told_one (Cell n k ∷ rest) (inr (inr all)) = absurd (no_pair (Cell n k) (λ r h e. cc) (All-head InPair (Cell n k) rest all))
told_one (Temp n ∷ rest) (inl (q, all)) = absurd (no_half q (Temp n) (λ r h e. cc) (All-head (IsHalfOf q) (Temp n) rest all))
told_one (Temp n ∷ rest) (inr (inl (g, all))) = let e = All-head (λ l. l ≡ Flag g) (Temp n) rest all in absurd (cc)
told_one (Temp n ∷ rest) (inr (inr all)) = absurd (no_pair (Temp n) (λ r h e. cc) (All-head InPair (Temp n) rest all))
