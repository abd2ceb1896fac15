-- Variables that stand apart from one another.
use Rattle.std.proofs.Common.{◌≡◌, ℕ, ◌+◌, ◌<◌, ◌≤◌, Bool, true, false, List, [], ◌∷◌, ◌++◌, length, get_or, drop, take, map, Option, append_assoc, refl, sym, ap, ◌∙◌, arith}
use Rattle.std.specs.Prelude.{◌&&◌, ◌||◌, not, nat_le, nat_lt, if◌then◌else◌}
use Rattle.std.specs.List.{list_all, list_any}
use Rattle.std.proofs.lemmas.List.{at_drop_more, drop-map, take_more, map-append}
use Rattle.dcc_c.specs.Kinds.{Offence, of_place, offence, first_after}
use Rattle.dcc_c.proofs.refusals.FirstRules.{first-append}
use Rattle.dcc_reader.specs.declared.partial.PartialVariable as declared
use Rattle.dcc_reader.specs.declared.partial.NumberAt as declared-number
use Rattle.dcc_reader.specs.PartialViews.{variable_of, number_of}
use Rattle.std.proofs.lemmas.Bool.Decides.{nat_tests}
use Rattle.dcc_c.specs.Partial.{PartialVariable}
use Rattle.dcc_c.specs.ReadingText.{size_in_bytes}
use Rattle.dcc_c.specs.TextOffences.{end_of, stand_apart, takes_bytes, first_number, size_offences, surplus, globals_places}
use Rattle.dcc_check.specs.Places.{earlier_with, earlier_after, earlier_of, is_covered, misplaced_here, IsOccupied}

-- the variable stands apart from each that takes bytes
abbrev pub all_apart : PartialVariable → List PartialVariable → Bool
all_apart v [] = true
all_apart v (u ∷ variables) = (not (takes_bytes u) || stand_apart v u) && all_apart v variables

all-with : (q : PartialVariable → Bool) (u : PartialVariable) (es : List PartialVariable) (t : Bool) →
    list_all q (if t then u ∷ es else es) ≡ (not t || q u) && list_all q es
all-with q u es true = refl
all-with q u es false = refl

swap : (a x e : Bool) → a && (x && e) ≡ (x && a) && e
swap true true e = refl
swap true false e = refl
swap false true e = refl
swap false false e = refl

pub all-after : (v : PartialVariable) (es variables : List PartialVariable) →
    list_all (stand_apart v) (earlier_after es variables) ≡ all_apart v variables && list_all (stand_apart v) es
all-after v es [] = refl
all-after v es (u ∷ variables) =
    all-after v (earlier_with u es) variables
    ∙ ap (λ b. all_apart v variables && b) (all-with (stand_apart v) u es (takes_bytes u))
    ∙ swap (all_apart v variables) (not (takes_bytes u) || stand_apart v u) (list_all (stand_apart v) es)

and-true : (b : Bool) → b && true ≡ b
and-true true = refl
and-true false = refl

pub all-earlier : (v : PartialVariable) (variables : List PartialVariable) → list_all (stand_apart v) (earlier_of variables) ≡ all_apart v variables
all-earlier v variables = all-after v [] variables ∙ and-true (all_apart v variables)

-- the variables that are kept as earlier ones take bytes
takes-after : (es variables : List PartialVariable) → list_all takes_bytes es ≡ true → list_all takes_bytes (earlier_after es variables) ≡ true
takes-after es [] all = all
takes-after es (u ∷ variables) all =
    takes-after (earlier_with u es) variables (all-with takes_bytes u es (takes_bytes u) ∙ either (takes_bytes u) (list_all takes_bytes es) all) where
      either : (t r : Bool) → r ≡ true → (not t || t) && r ≡ true
      either true r e = e
      either false r e = e

pub takes-earlier : (variables : List PartialVariable) → list_all takes_bytes (earlier_of variables) ≡ true
takes-earlier variables = takes-after [] variables refl

pub earlier-append : (es variables : List PartialVariable) (v : PartialVariable) → earlier_after es (variables ++ v ∷ []) ≡ earlier_with v (earlier_after es variables)
earlier-append es [] v = refl
earlier-append es (u ∷ variables) v = earlier-append (earlier_with u es) variables v

both : (a b : Bool) → a && b ≡ true → (a ≡ true) × (b ≡ true)
both true b e = (refl, e)
both false b e = absurd cc

neither : (a b : Bool) → a || b ≡ false → (a ≡ false) × (b ≡ false)
neither true b e = absurd cc
neither false b e = (refl, e)

-- the places of two ranges that are not apart
meets : (a n b m : ℕ) → ((k : ℕ) → a ≤ k → k < a + n → nat_le b k && nat_lt k (b + m) ≡ false) → 0 < n → 0 < m → nat_le (a + n) b || nat_le (b + m) a ≡ true
meets a n b m free some more =
    let at_first = free a in
    let at_second = free b in
    grind (arith, nat_tests)

apart-here : (d : Bool) (a n b m : ℕ) → ((k : ℕ) → a ≤ k → k < a + n → nat_le b k && nat_lt k (b + m) ≡ false) → nat_lt 0 n ≡ true → d && nat_lt 0 m ≡ true →
    nat_le (a + n) b || nat_le (b + m) a ≡ true
apart-here d a n b m free some takes = meets a n b m free (grind (arith, nat_tests)) (let more = (both d (nat_lt 0 m) takes).1 in grind (arith, nat_tests))

-- no byte of the variable is in an earlier one: they stand apart
pub apart-if_free : (v : PartialVariable) (es : List PartialVariable) → list_all takes_bytes es ≡ true → nat_lt 0 (size_in_bytes v) ≡ true →
    ((k : ℕ) → v.address ≤ k → k < end_of v → list_any (is_covered k) es ≡ false) → list_all (stand_apart v) es ≡ true
apart-if_free v [] takes some free = refl
apart-if_free v (u ∷ es) takes some free =
    let parts = both (takes_bytes u) (list_all takes_bytes es) takes in
    let here : stand_apart v u ≡ true =
    apart-here u.done v.address (size_in_bytes v) u.address (size_in_bytes u)
    (λ k from to. (neither (is_covered k u) (list_any (is_covered k) es) (free k from to)).0) some parts.0 in
    let others = apart-if_free v es parts.1 some (λ k from to. (neither (is_covered k u) (list_any (is_covered k) es) (free k from to)).1) in
    ap (λ b. b && list_all (stand_apart v) es) here ∙ others

clash-here : (a n b m k : ℕ) → a ≤ k → k < a + n → nat_le b k && nat_lt k (b + m) ≡ true → nat_le (a + n) b || nat_le (b + m) a ≡ false
clash-here a n b m k from to here = grind (arith, nat_tests)

and-false : (b : Bool) → b && false ≡ false
and-false true = refl
and-false false = refl

or-true : (b c : Bool) → b || c ≡ true → b ≡ false → c ≡ true
or-true true c e none = absurd cc
or-true false c e none = e

-- a byte of the variable is in an earlier one: they do not all stand apart
pub clash-if_taken : (v : PartialVariable) (es : List PartialVariable) (k : ℕ) → v.address ≤ k → k < end_of v → list_any (is_covered k) es ≡ true → list_all (stand_apart v) es ≡ false
clash-if_taken v [] k from to taken = absurd cc
clash-if_taken v (u ∷ es) k from to taken =
    elim (is_covered k u) as (λ b. is_covered k u ≡ b → stand_apart v u && list_all (stand_apart v) es ≡ false) [
      | true ↦ λ here. ap (λ b. b && list_all (stand_apart v) es) (clash-here v.address (size_in_bytes v) u.address (size_in_bytes u) k from to here)
      | false ↦ λ other. ap (λ b. stand_apart v u && b) (clash-if_taken v es k from to (or-true (is_covered k u) (list_any (is_covered k) es) taken other)) ∙ and-false (stand_apart v u)
    ] refl

-- whether the marks of the variable's bytes are free tells whether it stands apart
pub free-tells : (marks : List Bool) (complete : Bool) (es : List PartialVariable) (v : PartialVariable) → IsOccupied marks complete es → complete ≡ true →
    list_all takes_bytes es ≡ true → nat_lt 0 (size_in_bytes v) ≡ true → end_of v ≤ 65536 → (from to : ℕ) → from ≡ v.address → to ≡ end_of v → (free : Bool) →
    (free ≡ true → (k : ℕ) → from ≤ k → k < to → get_or marks k false ≡ false) →
    (free ≡ false → (k : ℕ) × (from ≤ k) × (k < to) × (get_or marks k false ≡ true)) → not free ≡ not (list_all (stand_apart v) es)
free-tells marks complete es v held is_complete takes some within from to from_is to_is true free taken =
    ap not (sym (apart-if_free v es takes some (λ k le lt. sym (held.marked is_complete k (omega arith)) ∙ free refl k (omega arith) (omega arith))))
free-tells marks complete es v held is_complete takes some within from to from_is to_is false free taken =
    let w = taken refl in
    let low : v.address ≤ w.0 = omega (arith, w.1, from_is) in
    let high : w.0 < end_of v = omega (arith, w.2, to_is) in
    ap not (sym (clash-if_taken v es w.0 low high (sym (held.marked is_complete w.0 (omega arith)) ∙ w.3)))

module _ (v : PartialVariable) (xs : List declared.PartialVariable) (i : ℕ) (x : declared.PartialVariable) (within : i < length xs) (here : x ≡ get_or xs i x) where
  next-apart : all_apart v (map variable_of (drop i xs)) ≡ (not (takes_bytes (variable_of x)) || stand_apart v (variable_of x)) && all_apart v (map variable_of (drop (i + 1) xs))
  next-apart = at_drop_more (λ l. all_apart v (map variable_of l)) xs i x within ∙ ap (λ y. all_apart v (map variable_of (y ∷ drop (i + 1) xs))) (sym here)

  pub clash-found : takes_bytes (variable_of x) ≡ true → stand_apart v (variable_of x) ≡ false → all_apart v (map variable_of (drop i xs)) ≡ false
  clash-found takes clashes =
      next-apart ∙ ap (λ t. (not t || stand_apart v (variable_of x)) && all_apart v (map variable_of (drop (i + 1) xs))) takes
      ∙ ap (λ a. a && all_apart v (map variable_of (drop (i + 1) xs))) clashes

  pub apart-passed : stand_apart v (variable_of x) ≡ true → all_apart v (map variable_of (drop (i + 1) xs)) ≡ all_apart v (map variable_of (drop i xs))
  apart-passed apart =
      sym (next-apart ∙ ap (λ a. (not (takes_bytes (variable_of x)) || a) && all_apart v (map variable_of (drop (i + 1) xs))) apart
      ∙ either (takes_bytes (variable_of x)) (all_apart v (map variable_of (drop (i + 1) xs)))) where
        either : (t r : Bool) → (not t || true) && r ≡ r
        either true r = refl
        either false r = refl

  pub empty-passed : takes_bytes (variable_of x) ≡ false → all_apart v (map variable_of (drop (i + 1) xs)) ≡ all_apart v (map variable_of (drop i xs))
  empty-passed none = sym (next-apart ∙ ap (λ t. (not t || stand_apart v (variable_of x)) && all_apart v (map variable_of (drop (i + 1) xs))) none)

-- the first surplus value
pub surplus-at : (xs : List declared-number.NumberAt) (n : ℕ) (x : declared-number.NumberAt) → n < length xs → x ≡ get_or xs n x → first_number (drop n (map number_of xs)) ≡ offence of_place x.at ∷ []
surplus-at xs n x within here =
    ap first_number (drop-map number_of n xs) ∙ at_drop_more (λ l. first_number (map number_of l)) xs n x within
    ∙ ap (λ y. first_number (map number_of (y ∷ drop (n + 1) xs))) (sym here)

pub le-of : (a b : ℕ) → nat_le a b ≡ true → a ≤ b
le-of a b e = grind (arith, nat_tests)

module _ (xs : List declared.PartialVariable) (i : ℕ) (x : declared.PartialVariable) (within : i < length xs) (here : x ≡ get_or xs i x) where
  pub earlier-step : earlier_of (map variable_of (take (i + 1) xs)) ≡ earlier_with (variable_of x) (earlier_of (map variable_of (take i xs)))
  earlier-step =
      ap (λ l. earlier_of (map variable_of l)) (take_more xs i x within ∙ ap (λ y. take i xs ++ y ∷ []) (sym here))
      ∙ ap earlier_of (map-append variable_of (take i xs) (x ∷ []))
      ∙ earlier-append [] (map variable_of (take i xs)) (variable_of x)

  places-next : (lo hi : ℕ) (es : List PartialVariable) →
      globals_places lo hi es (map variable_of (drop i xs))
      ≡ size_offences (variable_of x).size ++ (surplus (variable_of x) ++ (misplaced_here lo hi es (variable_of x)
      ++ globals_places lo hi (earlier_with (variable_of x) es) (map variable_of (drop (i + 1) xs))))
  places-next lo hi es =
      at_drop_more (λ l. globals_places lo hi es (map variable_of l)) xs i x within
      ∙ ap (λ y. globals_places lo hi es (map variable_of (y ∷ drop (i + 1) xs))) (sym here)

  pub places-step : (lo hi : ℕ) (old new : Option Offence) →
      new ≡ first_after old (size_offences (variable_of x).size ++ (surplus (variable_of x) ++ misplaced_here lo hi (earlier_of (map variable_of (take i xs))) (variable_of x))) →
      first_after new (globals_places lo hi (earlier_of (map variable_of (take (i + 1) xs))) (map variable_of (drop (i + 1) xs)))
      ≡ first_after old (globals_places lo hi (earlier_of (map variable_of (take i xs))) (map variable_of (drop i xs)))
  places-step lo hi old new new_is =
      let es = earlier_of (map variable_of (take i xs)) in
      let Z = size_offences (variable_of x).size in
      let S = surplus (variable_of x) in
      let M = misplaced_here lo hi es (variable_of x) in
      let G = globals_places lo hi (earlier_with (variable_of x) es) (map variable_of (drop (i + 1) xs)) in
      ap (λ l. first_after new (globals_places lo hi l (map variable_of (drop (i + 1) xs)))) earlier-step
      ∙ ap (λ f. first_after f G) new_is
      ∙ sym (first-append old (Z ++ (S ++ M)) G)
      ∙ ap (first_after old) (append_assoc Z (S ++ M) G ∙ ap (λ l. Z ++ l) (append_assoc S M G) ∙ sym (places-next lo hi es))
