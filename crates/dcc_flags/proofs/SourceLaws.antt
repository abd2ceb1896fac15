-- Laws of sources: what they cover, of what they are found, and how they grow.
use Rattle.std.proofs.Common.{◌≡◌, ◌≢◌, ℕ, ◌≤◌, Bool, true, false, ◌||◌, ◌&&◌, not, refl, sym, ◌∙◌, arith}
use Rattle.std.specs.Prelude.{◌==◌, if◌then◌else◌}
use Rattle.std.proofs.lemmas.Bool.{false≢true, eqb-true, eq-eqb, and_parts, and_from}
use Rattle.dcc_flags.specs.Reaching.{Definition, Start as Begin, At as Stands}
use Rattle.dcc_flags.specs.declared.sources.Source.{Source}
use Rattle.dcc_flags.specs.declared.sources.Source.TheVariants.{Nothing, Start, At, Several}
use Rattle.dcc_flags.specs.Sources.{joined, defined, rank, is_mixed, Covers, AreFound}

-- What is covered.

one_or_more : (same : Bool) (x y : ℕ) (d : Definition) → d ≡ Stands x y → Covers (if same then At x y else Several) d
one_or_more true x y d h = h
one_or_more false x y d h = tt

pub joined_left : (a b : Source) (d : Definition) → Covers a d → Covers (joined a b) d
joined_left Nothing b d h = absurd h
joined_left Start Nothing d h = h
joined_left Start Start d h = h
joined_left Start (At z w) d h = tt
joined_left Start Several d h = tt
joined_left (At x y) Nothing d h = h
joined_left (At x y) Start d h = tt
joined_left (At x y) (At z w) d h = one_or_more ((x == z) && (y == w)) x y d h
joined_left (At x y) Several d h = tt
joined_left Several b d h = tt

other_or_more : (same : Bool) (x y : ℕ) (d : Definition) → (same ≡ true → d ≡ Stands x y) → Covers (if same then At x y else Several) d
other_or_more true x y d h = h refl
other_or_more false x y d h = tt

pub joined_right : (a b : Source) (d : Definition) → Covers b d → Covers (joined a b) d
joined_right Nothing b d h = h
joined_right Start Nothing d h = absurd h
joined_right Start Start d h = h
joined_right Start (At z w) d h = tt
joined_right Start Several d h = tt
joined_right (At x y) Nothing d h = absurd h
joined_right (At x y) Start d h = tt
joined_right (At x y) (At z w) d h = other_or_more ((x == z) && (y == w)) x y d (λ e.
    let parts = and_parts (x == z) (y == w) e in
    let first = eqb-true x z parts.0 in
    let second = eqb-true y w parts.1 in
    cc)
joined_right (At x y) Several d h = tt
joined_right Several b d h = tt

-- a definition lets what is covered through, or it is covered itself
pub moved_keeps : (defines chooses : Bool) (source : Source) (block stmt : ℕ) (d : Definition) → (not defines || chooses) ≡ true → Covers source d
    → Covers (if defines then defined source block stmt chooses else source) d
moved_keeps false chooses source block stmt d lets h = h
moved_keeps true false source block stmt d lets h = absurd (false≢true lets)
moved_keeps true true Nothing block stmt d lets h = absurd h
moved_keeps true true Start block stmt d lets h = joined_left Start (At block stmt) d h
moved_keeps true true (At x y) block stmt d lets h = joined_left (At x y) (At block stmt) d h
moved_keeps true true Several block stmt d lets h = tt

pub moved_adds : (defines chooses : Bool) (source : Source) (block stmt : ℕ) (d : Definition) → defines ≡ true → Covers source d
    → Covers (if defines then defined source block stmt chooses else source) (Stands block stmt)
moved_adds false chooses source block stmt d defines h = absurd (false≢true defines)
moved_adds true chooses Nothing block stmt d defines h = absurd h
moved_adds true false Start block stmt d defines h = refl
moved_adds true false (At x y) block stmt d defines h = refl
moved_adds true false Several block stmt d defines h = refl
moved_adds true true Start block stmt d defines h = joined_right Start (At block stmt) (Stands block stmt) refl
moved_adds true true (At x y) block stmt d defines h = joined_right (At x y) (At block stmt) (Stands block stmt) refl
moved_adds true true Several block stmt d defines h = tt

-- only several cover two
pub two_covered : (source : Source) (d other : Definition) → Covers source d → Covers source other → d ≢ other → is_mixed source ≡ true
two_covered Nothing d other h k differ = absurd h
two_covered Start d other h k differ = absurd (differ (h ∙ sym k))
two_covered (At x y) d other h k differ = absurd (differ (h ∙ sym k))
two_covered Several d other h k differ = refl

-- What is found.

pub found_weaker : (source : Source) (P Q : Definition → Type 0) → ((d : Definition) → P d → Q d) → AreFound source P → AreFound source Q
found_weaker Nothing P Q leads h = tt
found_weaker Start P Q leads h = leads Begin h
found_weaker (At x y) P Q leads h = leads (Stands x y) h
found_weaker Several P Q leads h = (h.0, h.1, leads h.0 h.2, leads h.1 h.3, h.4)

one_or_two : (same : Bool) (x y : ℕ) (other : Definition) (P : Definition → Type 0) → (same ≡ false → Stands x y ≢ other) → P (Stands x y) → P other
    → AreFound (if same then At x y else Several) P
one_or_two true x y other P differ h k = h
one_or_two false x y other P differ h k = (Stands x y, other, h, k, differ refl)

differ_at : (x y z w : ℕ) → ((x == z) && (y == w)) ≡ false → Stands x y ≢ Stands z w
differ_at x y z w differ e =
    let first : x ≡ z = cc in
    let second : y ≡ w = cc in
    false≢true (sym differ ∙ and_from (x == z) (y == w) (eq-eqb x z first) (eq-eqb y w second))

pub joined_found : (a b : Source) (P : Definition → Type 0) → AreFound a P → AreFound b P → AreFound (joined a b) P
joined_found Nothing b P h k = k
joined_found Start Nothing P h k = h
joined_found Start Start P h k = h
joined_found Start (At z w) P h k = (Begin, Stands z w, h, k, λ e. cc)
joined_found Start Several P h k = k
joined_found (At x y) Nothing P h k = h
joined_found (At x y) Start P h k = (Stands x y, Begin, h, k, λ e. cc)
joined_found (At x y) (At z w) P h k = one_or_two ((x == z) && (y == w)) x y (Stands z w) P (differ_at x y z w) h k
joined_found (At x y) Several P h k = k
joined_found Several b P h k = h

-- past a statement another kind of definitions is found
pub moved_found : (defines chooses : Bool) (source : Source) (block stmt : ℕ) (P Q : Definition → Type 0) → (defines ≡ true → (d : Definition) → P d → Q (Stands block stmt))
    → ((not defines || chooses) ≡ true → (d : Definition) → P d → Q d) → AreFound source P → AreFound (if defines then defined source block stmt chooses else source) Q
moved_found false chooses source block stmt P Q adds keeps h = found_weaker source P Q (keeps refl) h
moved_found true chooses Nothing block stmt P Q adds keeps h = tt
moved_found true false Start block stmt P Q adds keeps h = adds refl Begin h
moved_found true false (At x y) block stmt P Q adds keeps h = adds refl (Stands x y) h
moved_found true false Several block stmt P Q adds keeps h = adds refl h.0 h.2
moved_found true true Start block stmt P Q adds keeps h = joined_found Start (At block stmt) Q (keeps refl Begin h) (adds refl Begin h)
moved_found true true (At x y) block stmt P Q adds keeps h = joined_found (At x y) (At block stmt) Q (keeps refl (Stands x y) h) (adds refl (Stands x y) h)
moved_found true true Several block stmt P Q adds keeps h = found_weaker Several P Q (keeps refl) h

-- How much is known.

rank_either : (same : Bool) (x y : ℕ) → 1 ≤ rank (if same then At x y else Several)
rank_either true x y = omega arith
rank_either false x y = omega arith

pub rank_grows : (a b : Source) → rank a ≤ rank (joined a b)
rank_grows Nothing b = omega arith
rank_grows Start Nothing = omega arith
rank_grows Start Start = omega arith
rank_grows Start (At z w) = omega arith
rank_grows Start Several = omega arith
rank_grows (At x y) Nothing = omega arith
rank_grows (At x y) Start = omega arith
rank_grows (At x y) (At z w) = rank_either ((x == z) && (y == w)) x y
rank_grows (At x y) Several = omega arith
rank_grows Several b = omega arith

same_either : (same : Bool) (x y : ℕ) → rank (if same then At x y else Several) ≤ 1 → (if same then At x y else Several) ≡ At x y
same_either true x y h = refl
same_either false x y h = absurd (omega (arith, h))

-- a source that does not grow stays
pub rank_stays : (a b : Source) → rank (joined a b) ≤ rank a → joined a b ≡ a
rank_stays Nothing Nothing h = refl
rank_stays Nothing Start h = absurd (omega (arith, h))
rank_stays Nothing (At z w) h = absurd (omega (arith, h))
rank_stays Nothing Several h = absurd (omega (arith, h))
rank_stays Start Nothing h = refl
rank_stays Start Start h = refl
rank_stays Start (At z w) h = absurd (omega (arith, h))
rank_stays Start Several h = absurd (omega (arith, h))
rank_stays (At x y) Nothing h = refl
rank_stays (At x y) Start h = absurd (omega (arith, h))
rank_stays (At x y) (At z w) h = same_either ((x == z) && (y == w)) x y h
rank_stays (At x y) Several h = absurd (omega (arith, h))
rank_stays Several b h = refl

pub rank_bound : (source : Source) → rank source ≤ 2
rank_bound Nothing = omega arith
rank_bound Start = omega arith
rank_bound (At x y) = omega arith
rank_bound Several = omega arith
