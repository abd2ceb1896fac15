-- The program in which what passes together is one value is well formed.
use Rattle.std.proofs.Common.{arith, ◌≡◌, ℕ, suc, ◌+◌, Bool, true, false, ◌&&◌, ◌||◌, inl, inr, List, [], ◌∷◌, ◌++◌, length, Option, Some, None, refl, sym, ap, ap₂, ◌∙◌, subst, map, get_or, lt-ltb}
use Rattle.std.specs.Prelude.{if◌then◌else◌, ◌==◌, nat_le, All}
use Rattle.std.specs.List.{list_all}
use Rattle.std.proofs.lemmas.List.{length-append}
use Rattle.std.proofs.lemmas.List.Elements.{All-head, All-tail}
use Rattle.dcc_num.specs.declared.Reg.{Reg}
use Rattle.dcc_num.specs.declared.Reg.TheVariants.{Ax, Dx}
use Rattle.dcc_num.specs.declared.Half.{Half as HalfName}
use Rattle.dcc_num.specs.declared.Half.TheVariants.{Low, High}
use Rattle.dcc_ir.specs.declared.syntax.Loc.{Loc}
use Rattle.dcc_ir.specs.declared.syntax.Loc.TheVariants.{Half, Temp}
use Rattle.dcc_ir.specs.Tree.{Expr, Const, Get, Stmt}
use Rattle.dcc_ir.specs.Location.{location_width}
use Rattle.dcc_ir.specs.Value.{width_of}
use Rattle.dcc_ir.specs.Live.{is_among}
use Rattle.dcc_ir.specs.WellFormed.{is_location, is_expr, is_stmt}
use Rattle.dcc_ir.proofs.FitLaws.{both}
use Rattle.dcc_flow.proofs.FormedExprs.{and_both, make_join}
use Rattle.dcc_signatures.specs.declared.packing.Fresh.{Fresh}
use Rattle.dcc_signatures.specs.declared.packing.Packing.{Packing}
use Rattle.dcc_signatures.specs.declared.packing.Packing.TheVariants.{Apart, Word, Double}
use Rattle.dcc_signatures.specs.Packed.{are_halves, two_or_one, in_front, merged, word_of, one_argument, packing_of}
use Rattle.dcc_signatures.specs.Packed.{bit_of, given_or_zero, given_word, double_of, one_value, value_places}
use Rattle.dcc_signatures.specs.Packed.{taking_part, taking_parts, fresh_after}
use Rattle.dcc_signatures.proofs.MoreLaws.{locations_more}
use Rattle.dcc_signatures.proofs.PutLaws.{halves_are}
use Rattle.dcc_signatures.proofs.OneLaws.{IsInDouble, Form, apart, word, double, packing-word, one_by, given-width}
use Rattle.dcc_signatures.proofs.OneLaws.{word-width}
use Rattle.dcc_signatures.proofs.PassLaws.{IsFixed}

-- Lists.

pub all_joined : {A : Type 0} (f : A → Bool) (xs ys : List A) → list_all f xs ≡ true → list_all f ys ≡ true → list_all f (xs ++ ys) ≡ true
all_joined f [] ys p q = q
all_joined f (x ∷ xs) ys p q = let parts = both (f x) (list_all f xs) p in and_both (f x) (list_all f (xs ++ ys)) parts.0 (all_joined f xs ys parts.1 q)

module _ {A : Type 0} (f : A → Bool) (one : A → A → Option A) (ok : (x y z : A) → one x y ≡ Some z → f z ≡ true) where
  front-all : (x : A) (ys : List A) → f x ≡ true → list_all f ys ≡ true → list_all f (in_front one x ys) ≡ true
  front-all x [] here all = and_both (f x) true here refl
  front-all x (y ∷ ys) here all = go (one x y) refl
    where
      go : (o : Option A) → one x y ≡ o → list_all f (two_or_one x y ys o) ≡ true
      go (Some z) e = and_both (f z) (list_all f ys) (ok x y z e) (both (f y) (list_all f ys) all).1
      go None e = and_both (f x) (f y && list_all f ys) here all

  pub merged-all : (xs : List A) → list_all f xs ≡ true → list_all f (merged one xs) ≡ true
  merged-all [] all = refl
  merged-all (x ∷ xs) all = let parts = both (f x) (list_all f xs) all in front-all x (merged one xs) parts.0 (merged-all xs parts.1)

get_past : (bits more : List ℕ) (k : ℕ) → get_or (bits ++ more) (length bits + k) 0 ≡ get_or more k 0
get_past [] more k = let e : length {A = ℕ} [] + k ≡ k = omega arith in ap (λ n. get_or more n 0) e
get_past (b ∷ bits) more k = ap (λ n. get_or (b ∷ (bits ++ more)) n 0) index ∙ get_past bits more k
  where
    index : length (b ∷ bits) + k ≡ suc (length bits + k)
    index = omega arith

-- Graphs with two temporaries more.

abbrev pub two_more : List ℕ → List ℕ
two_more bits = bits ++ 16 ∷ 32 ∷ []

module _ (bits : List ℕ) where
  abbrev fresh : Fresh
  fresh = fresh_after bits

  long : length (two_more bits) ≡ length bits + 2
  long = length-append bits (16 ∷ 32 ∷ [])

  word_there : is_location (two_more bits) (Temp fresh.word) ≡ true
  word_there = let n = long in lt-ltb (length bits) (length (two_more bits)) (omega (arith, n))

  double_there : is_location (two_more bits) (Temp fresh.double) ≡ true
  double_there = let n = long in lt-ltb (length bits + 1) (length (two_more bits)) (omega (arith, n))

  word_wide : location_width (two_more bits) (Temp fresh.word) ≡ 16
  word_wide = let e : length bits ≡ length bits + 0 = omega arith in ap (λ n. get_or (two_more bits) n 0) e ∙ get_past bits (16 ∷ 32 ∷ []) 0

  double_wide : location_width (two_more bits) (Temp fresh.double) ≡ 32
  double_wide = get_past bits (16 ∷ 32 ∷ []) 1

-- What is given back.

-- the widths of what is given back
abbrev pub widths_by : Packing → List Loc → List ℕ
widths_by packing ls = elim packing [ Apart ↦ map (location_width []) ls | Word low high ↦ 16 ∷ [] | Double ↦ 32 ∷ [] ]

abbrev pub widths_of : List Loc → List ℕ
widths_of ls = widths_by (packing_of ls) ls

fixed_widths : (bits : List ℕ) (ls : List Loc) → All IsFixed ls → map (location_width bits) ls ≡ map (location_width []) ls
fixed_widths bits [] all = refl
fixed_widths bits (l ∷ ls) all = ap₂ (λ n ns. n ∷ ns) (All-head IsFixed l ls all bits) (fixed_widths bits ls (All-tail IsFixed l ls all))

gets_widths : (bits : List ℕ) (ls : List Loc) → map (width_of bits) (map Get ls) ≡ map (location_width bits) ls
gets_widths bits [] = refl
gets_widths bits (l ∷ ls) = ap (λ ns. location_width bits l ∷ ns) (gets_widths bits ls)

pub one-widths : (bits : List ℕ) (ls : List Loc) → Form ls → All IsFixed ls → map (width_of bits) (one_value ls (map Get ls)) ≡ widths_of ls
one-widths bits ls (apart e) fixed = subst (λ packing. map (width_of bits) (one_by packing ls (map Get ls)) ≡ widths_by packing ls) (sym e) (gets_widths bits ls ∙ fixed_widths bits ls fixed)
one-widths bits ls (word r e) fixed = subst (λ packing. map (width_of bits) (one_by packing ls (map Get ls)) ≡ widths_by packing ls) (sym (ap packing_of e ∙ packing-word r)) refl
one-widths bits ls (double e all) fixed =
    subst (λ packing. map (width_of bits) (one_by packing ls (map Get ls)) ≡ widths_by packing ls) (sym e)
    (ap₂ (λ m n. (m + n) ∷ []) (word-width bits ls Dx) (word-width bits ls Ax))

abbrev places_by : Fresh → List Loc → Packing → List Loc
places_by fresh ls packing = elim packing [ Apart ↦ ls | Word low high ↦ Temp fresh.word ∷ [] | Double ↦ Temp fresh.double ∷ [] ]

abbrev parts_by : Fresh → List Loc → Packing → List Stmt
parts_by fresh ls packing = elim packing [ Apart ↦ [] | Word low high ↦ map (taking_part fresh.word false) ls | Double ↦ map (taking_part fresh.double true) ls ]

module _ (bits : List ℕ) (ls : List Loc) where
  abbrev more : List ℕ
  more = two_more bits

  pub places-widths : Form ls → All IsFixed ls → map (location_width more) (value_places (fresh_after bits) ls) ≡ widths_of ls
  places-widths (apart e) fixed = subst (λ packing. map (location_width more) (places_by (fresh_after bits) ls packing) ≡ widths_by packing ls) (sym e) (fixed_widths more ls fixed)
  places-widths (word r e) fixed =
      subst (λ packing. map (location_width more) (places_by (fresh_after bits) ls packing) ≡ widths_by packing ls) (sym (ap packing_of e ∙ packing-word r)) (ap (λ n. n ∷ []) (word_wide bits))
  places-widths (double e all) fixed = subst (λ packing. map (location_width more) (places_by (fresh_after bits) ls packing) ≡ widths_by packing ls) (sym e) (ap (λ n. n ∷ []) (double_wide bits))

  pub places-formed : Form ls → list_all (is_location bits) ls ≡ true → list_all (is_location more) (value_places (fresh_after bits) ls) ≡ true
  places-formed (apart e) ok = subst (λ packing. list_all (is_location more) (places_by (fresh_after bits) ls packing) ≡ true) (sym e) (locations_more bits (16 ∷ 32 ∷ []) ls ok)
  places-formed (word r e) ok =
      subst (λ packing. list_all (is_location more) (places_by (fresh_after bits) ls packing) ≡ true) (sym (ap packing_of e ∙ packing-word r)) (and_both (is_location more (Temp (fresh bits).word)) true (word_there bits) refl)
  places-formed (double e all) ok =
      subst (λ packing. list_all (is_location more) (places_by (fresh_after bits) ls packing) ≡ true) (sym e) (and_both (is_location more (Temp (fresh bits).double)) true (double_there bits) refl)

  part-formed : (temporary width : ℕ) (two : Bool) (r : Reg) (h : HalfName) → is_location more (Temp temporary) ≡ true → location_width more (Temp temporary) ≡ width →
      nat_le (bit_of two (Half r h) + 8) width ≡ true → is_stmt more (taking_part temporary two (Half r h)) ≡ true
  part-formed temporary width two r h there wide less =
      and_both (is_location more (Temp temporary) && nat_le (bit_of two (Half r h) + 8) (location_width more (Temp temporary))) true
      (and_both (is_location more (Temp temporary)) (nat_le (bit_of two (Half r h) + 8) (location_width more (Temp temporary))) there (ap (nat_le (bit_of two (Half r h) + 8)) wide ∙ less)) refl

  pub parts-formed : Form ls → list_all (is_stmt more) (taking_parts (fresh_after bits) ls) ≡ true
  parts-formed (apart e) = subst (λ packing. list_all (is_stmt more) (parts_by (fresh_after bits) ls packing) ≡ true) (sym e) refl
  parts-formed (word r e) =
      subst (λ packing. list_all (is_stmt more) (parts_by (fresh_after bits) ls packing) ≡ true) (sym (ap packing_of e ∙ packing-word r))
      (subst (λ xs. list_all (is_stmt more) (map (taking_part (fresh bits).word false) xs) ≡ true) (sym e)
      (and_both (is_stmt more (taking_part (fresh bits).word false (Half r Low))) _ (part-formed (fresh bits).word 16 false r Low (word_there bits) (word_wide bits) refl)
      (and_both (is_stmt more (taking_part (fresh bits).word false (Half r High))) true (part-formed (fresh bits).word 16 false r High (word_there bits) (word_wide bits) refl) refl)))
  parts-formed (double e all) = subst (λ packing. list_all (is_stmt more) (parts_by (fresh_after bits) ls packing) ≡ true) (sym e) (each ls all)
    where
      ax : (h : HalfName) → is_stmt more (taking_part (fresh bits).double true (Half Ax h)) ≡ true
      ax Low = part-formed (fresh bits).double 32 true Ax Low (double_there bits) (double_wide bits) refl
      ax High = part-formed (fresh bits).double 32 true Ax High (double_there bits) (double_wide bits) refl

      dx : (h : HalfName) → is_stmt more (taking_part (fresh bits).double true (Half Dx h)) ≡ true
      dx Low = part-formed (fresh bits).double 32 true Dx Low (double_there bits) (double_wide bits) refl
      dx High = part-formed (fresh bits).double 32 true Dx High (double_there bits) (double_wide bits) refl

      half : (l : Loc) → IsInDouble l → is_stmt more (taking_part (fresh bits).double true l) ≡ true
      half l (inl h) = subst (λ x. is_stmt more (taking_part (fresh bits).double true x) ≡ true) (sym h.1) (ax h.0)
      half l (inr h) = subst (λ x. is_stmt more (taking_part (fresh bits).double true x) ≡ true) (sym h.1) (dx h.0)

      each : (xs : List Loc) → All IsInDouble xs → list_all (is_stmt more) (map (taking_part (fresh bits).double true) xs) ≡ true
      each [] all = refl
      each (x ∷ xs) all =
          and_both (is_stmt more (taking_part (fresh bits).double true x)) (list_all (is_stmt more) (map (taking_part (fresh bits).double true) xs)) (half x (All-head IsInDouble x xs all)) (each xs (All-tail IsInDouble x xs all))

-- the words that are given back are well formed
zero-formed : (bits : List ℕ) (ls : List Loc) (r : Reg) (h : HalfName) → is_expr bits (given_or_zero ls (Half r h)) ≡ true
zero-formed bits ls r h = elim (is_among ls (Half r h)) as (λ b. is_expr bits (if b then Get (Half r h) else Const 8 0) ≡ true) [ true ↦ refl | false ↦ refl ]

word-formed : (bits : List ℕ) (ls : List Loc) (r : Reg) → is_expr bits (given_word ls r) ≡ true
word-formed bits ls r =
    let w = given-width bits ls r in
    make_join bits (given_or_zero ls (Half r High)) (given_or_zero ls (Half r Low)) (record {
      upper = zero-formed bits ls r High;
      lower = zero-formed bits ls r Low;
      same = ap₂ (λ m n. m == n) (w High) (w Low);
      size = ap (λ n. n == 8 || n == 16) (w Low);
    })

double-formed : (bits : List ℕ) (ls : List Loc) → is_expr bits (double_of ls) ≡ true
double-formed bits ls =
    let w = word-width bits ls in
    make_join bits (given_word ls Dx) (given_word ls Ax) (record {
      upper = word-formed bits ls Dx;
      lower = word-formed bits ls Ax;
      same = ap₂ (λ m n. m == n) (w Dx) (w Ax);
      size = ap (λ n. n == 8 || n == 16) (w Ax);
    })

pub one-formed : (bits : List ℕ) (ls : List Loc) → Form ls → list_all (is_expr bits) (map Get ls) ≡ true → list_all (is_expr bits) (one_value ls (map Get ls)) ≡ true
one-formed bits ls (apart e) ok = subst (λ packing. list_all (is_expr bits) (one_by packing ls (map Get ls)) ≡ true) (sym e) ok
one-formed bits ls (word r e) ok = subst (λ packing. list_all (is_expr bits) (one_by packing ls (map Get ls)) ≡ true) (sym (ap packing_of e ∙ packing-word r)) refl
one-formed bits ls (double e all) ok =
    subst (λ packing. list_all (is_expr bits) (one_by packing ls (map Get ls)) ≡ true) (sym e) (and_both (is_expr bits (double_of ls)) true (double-formed bits ls) refl)

word_of-formed : (bits : List ℕ) (low high : Loc) → are_halves low high ≡ true → is_expr bits (word_of low high) ≡ true
word_of-formed bits low high e = let is = halves_are low high e in subst (λ x. is_expr bits (word_of x high) ≡ true) (sym is.1) (subst (λ y. is_expr bits (word_of (Half is.0 Low) y) ≡ true) (sym is.2) refl)

pub argument-formed : (bits : List ℕ) (x y z : Expr) → one_argument x y ≡ Some z → is_expr bits z ≡ true
argument-formed bits (Get low) (Get high) z e = go (are_halves low high) refl e
  where
    go : (b : Bool) → are_halves low high ≡ b → (if b then Some (word_of low high) else None) ≡ Some z → is_expr bits z ≡ true
    go true is e = let same : word_of low high ≡ z = cc in subst (λ x. is_expr bits x ≡ true) same (word_of-formed bits low high is)
    go false is e = absurd (cc)
argument-formed bits x y z e = absurd (cc)
