-- Lists of locations.
use Rattle.std.proofs.Common.{◌≡◌, ℕ, suc, ◌<◌, Bool, true, false, inl, inr, List, [], ◌∷◌, ◌++◌, refl, sym, ap, ◌∙◌, true≢false, arith}
use Rattle.std.specs.Prelude.{◌||◌, filter, if◌then◌else◌}
use Rattle.std.proofs.lemmas.Bool.{or_left, or_right}
use Rattle.std.proofs.lemmas.List.Folds.{list_any-append}
use Rattle.dcc_num.specs.declared.Half.{Half as HalfName}
use Rattle.dcc_ir.specs.declared.syntax.Loc.{Loc}
use Rattle.dcc_ir.specs.declared.syntax.Loc.TheVariants.{Cell}
use Rattle.dcc_ir.specs.Location.{same_location}
use Rattle.dcc_ir.specs.Live.{is_among}
use Rattle.dcc_ir.proofs.PathLaws.{decided, or_false}
use Rattle.dcc_ir.proofs.LocationLaws.{location_same}
use Rattle.dcc_variables.specs.Variables.{cells_to, cells_among}

-- what a filter leaves, and what it keeps
pub filter-among : (P : Loc → Bool) (ls : List Loc) (l : Loc) → is_among (filter P ls) l ≡ true → is_among ls l ≡ true
filter-among P [] l is = is
filter-among P (x ∷ ls) l is = by (P x) (filter-among P ls l) is
  where
    by : (b : Bool) → (is_among (filter P ls) l ≡ true → is_among ls l ≡ true) → is_among (if b then x ∷ filter P ls else filter P ls) l ≡ true
        → (same_location l x || is_among ls l) ≡ true
    by true rest e = elim (decided (same_location l x)) [
      | inl same ↦ or_left (same_location l x) (is_among ls l) same
      | inr other ↦ or_right (same_location l x) (is_among ls l) (rest (or_false (same_location l x) (is_among (filter P ls) l) other e))
    ]
    by false rest e = or_right (same_location l x) (is_among ls l) (rest e)

pub among-filter : (P : Loc → Bool) (ls : List Loc) (l : Loc) → P l ≡ true → is_among ls l ≡ true → is_among (filter P ls) l ≡ true
among-filter P [] l kept is = is
among-filter P (x ∷ ls) l kept is = by (P x) refl (among-filter P ls l kept)
  where
    by : (b : Bool) → P x ≡ b → (is_among ls l ≡ true → is_among (filter P ls) l ≡ true) → is_among (if b then x ∷ filter P ls else filter P ls) l ≡ true
    by true e rest = elim (decided (same_location l x)) [
      | inl same ↦ or_left (same_location l x) (is_among (filter P ls) l) same
      | inr other ↦ or_right (same_location l x) (is_among (filter P ls) l) (rest (or_false (same_location l x) (is_among ls l) other is))
    ]
    by false e rest = elim (decided (same_location l x)) [
      | inl same ↦ absurd (true≢false (sym kept ∙ ap P (location_same l x same) ∙ e))
      | inr other ↦ rest (or_false (same_location l x) (is_among ls l) other is)
    ]

pub among-left : (xs ys : List Loc) (l : Loc) → is_among xs l ≡ true → is_among (xs ++ ys) l ≡ true
among-left xs ys l is = list_any-append (same_location l) xs ys ∙ or_left (is_among xs l) (is_among ys l) is

pub among-right : (xs ys : List Loc) (l : Loc) → is_among ys l ≡ true → is_among (xs ++ ys) l ≡ true
among-right xs ys l is = list_any-append (same_location l) xs ys ∙ or_right (is_among xs l) (is_among ys l) is

-- a cell of the list is among as many as the list tells
pub cell-within : (ls : List Loc) (n : ℕ) (half : HalfName) → is_among ls (Cell n half) ≡ true → n < cells_among ls
cell-within [] n half is = absurd (true≢false (sym is))
cell-within (x ∷ ls) n half is = elim (decided (same_location (Cell n half) x)) [
  | inl same ↦
      let e : suc n ≡ cells_to x = ap cells_to (location_same (Cell n half) x same) in
      omega (arith, e)
  | inr other ↦
      let rest = cell-within ls n half (or_false (same_location (Cell n half) x) (is_among ls (Cell n half)) other is) in
      omega (arith, rest)
]
