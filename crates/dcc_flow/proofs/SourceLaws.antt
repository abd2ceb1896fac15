-- Laws of edges that are turned round.
use Rattle.std.proofs.Common.{◌≡◌, ◌≢◌, ℕ, zero, suc, ◌+◌, ◌-◌, ◌<◌, ◌≤◌, Bool, true, false, ◌&&◌, ◌||◌, inl, inr, List, [], ◌∷◌, ◌++◌, length, get_or, slice_get, slice_set, replicate, All, refl, sym, ap, ◌∙◌, subst, arith}
use Rattle.std.specs.Prelude.{◌==◌, if◌then◌else◌}
use Rattle.std.specs.List.Sorted.{IsStrictlyIncreasing}
use Rattle.std.proofs.lemmas.Bool.{false≢true, cases_Bool, cases_eq, cases_lt, eqb-true, eq-eqb, ne_eqb, or_left, or_right}
use Rattle.std.proofs.lemmas.List.{length-set, length-replicate, get_or-replicate, get_or-set_same, get_or-set_other, get_or_past, get_or_append_left, get_or_push, length_push}
use Rattle.std.proofs.lemmas.List.Elements.{All-head, All-tail, All-from_get_or}
use Rattle.dcc_flow.specs.Edges.{is_in, leads, entries, AreWithin, ArePredecessors}
use Rattle.dcc_flow.specs.Sources.{is_number, added, entered, all_entered}
use Rattle.dcc_flow.proofs.Members.{in_here, in_there}

-- One list.

pub in_append : (xs ys : List ℕ) (n : ℕ) → is_in (xs ++ ys) n ≡ (is_in xs n || is_in ys n)
in_append [] ys n = refl
in_append (x ∷ xs) ys n = ap (λ b. (x == n) || b) (in_append xs ys n) ∙ sym (assoc (x == n) (is_in xs n) (is_in ys n))
  where
    assoc : (x y z : Bool) → ((x || y) || z) ≡ (x || (y || z))
    assoc true y z = refl
    assoc false y z = refl

pub in_at : (xs : List ℕ) (i : ℕ) → i < length xs → is_in xs (get_or xs i 0) ≡ true
in_at [] i h = absurd (omega arith)
in_at (x ∷ xs) zero h = in_here x xs
in_at (x ∷ xs) (suc i) h = in_there x (get_or xs i 0) xs (in_at xs i (omega arith))

number_in : (xs : List ℕ) (i n : ℕ) → is_number (slice_get xs i) n ≡ true → is_in xs n ≡ true
number_in [] i n h = absurd (false≢true h)
number_in (x ∷ xs) zero n h = or_left (x == n) (is_in xs n) h
number_in (x ∷ xs) (suc i) n h = or_right (x == n) (is_in xs n) (number_in xs i n h)

number_at : (xs : List ℕ) (i n : ℕ) → i < length xs → is_number (slice_get xs i) n ≡ (get_or xs i 0 == n)
number_at [] i n h = absurd (omega arith)
number_at (x ∷ xs) zero n h = refl
number_at (x ∷ xs) (suc i) n h = number_at xs i n (omega arith)

-- what is true whichever way a test goes
pub by_test : {A : Type 0} (P : A → Type 0) (b : Bool) (x y : A) → (b ≡ true → P x) → (b ≡ false → P y) → P (if b then x else y)
by_test P true x y f g = f refl
by_test P false x y f g = g refl

in_added : (list : List ℕ) (n x : ℕ) → is_in (added list n) x ≡ (is_in list x || (n == x))
in_added list n x = by_test (λ l. is_in l x ≡ (is_in list x || (n == x))) (is_number (slice_get list (length list - 1)) n) list (list ++ n ∷ [])
    (λ t. elim (cases_Bool (n == x)) [
      | inl e ↦
          let there : is_in list x ≡ true = subst (λ m. is_in list m ≡ true) (eqb-true n x e) (number_in list (length list - 1) n t) in
          there ∙ sym (or_left (is_in list x) (n == x) there)
      | inr o ↦ sym (ap (λ b. is_in list x || b) o ∙ or_false (is_in list x))
    ])
    (λ f. in_append list (n ∷ []) x ∙ ap (λ b. is_in list x || b) (or_false (n == x)))
  where
    or_false : (b : Bool) → (b || false) ≡ b
    or_false true = refl
    or_false false = refl

length_added : (list : List ℕ) (n : ℕ) → length (added list n) ≤ length list + 1
length_added list n = by_test (λ l. length l ≤ length list + 1) (is_number (slice_get list (length list - 1)) n) list (list ++ n ∷ [])
    (λ t. omega arith) (λ f. omega (arith, length_push list n))

-- ascending, and the last is at most a number
record Rises (most : ℕ) (list : List ℕ) : Type 0 where
  pub ascends : IsStrictlyIncreasing list
  pub last : 0 < length list → get_or list (length list - 1) 0 ≤ most

rises_none : (most : ℕ) → Rises most []
rises_none most = record { ascends = λ k h. absurd (omega arith); last = λ h. absurd (omega arith) }

rises_more : (most more : ℕ) (list : List ℕ) → most ≤ more → Rises most list → Rises more list
rises_more most more list le h = record { ascends = h.ascends; last = λ some. let l = h.last some in omega (arith, l, le) }

rises_added : (n : ℕ) (list : List ℕ) → Rises n list → Rises n (added list n)
rises_added n list h = by_test (Rises n) (is_number (slice_get list (length list - 1)) n) list (list ++ n ∷ []) (λ t. h) (λ f. record {
  ascends = λ k less.
      let size = length_push list n in
      elim (cases_lt (k + 1) (length list)) [
        | inl inside ↦
            let first = get_or_append_left list (n ∷ []) 0 k (omega arith) in
            let second = get_or_append_left list (n ∷ []) 0 (k + 1) inside in
            let up = h.ascends k inside in
            omega (arith, first, second, up)
        | inr past ↦
            let end : k + 1 ≡ length list = omega (arith, size) in
            let first = get_or_append_left list (n ∷ []) 0 k (omega arith) in
            let second = get_or_push list n 0 (k + 1) (sym end) in
            let le = h.last (omega arith) in
            let at : length list - 1 ≡ k = omega arith in
            let other : get_or list k 0 ≢ n = λ e.
            let yes = number_at list (length list - 1) n (omega arith) ∙ eq-eqb (get_or list (length list - 1) 0) n (ap (λ j. get_or list j 0) at ∙ e) in
            false≢true (sym f ∙ yes) in
            let le_too : get_or list k 0 ≤ n = subst (λ j. get_or list j 0 ≤ n) at le in
            omega (arith, first, second, le_too, other)
      ];
  last = λ some.
      let size = length_push list n in
      let at : length list ≡ length (list ++ n ∷ []) - 1 = omega (arith, size) in
      let end = get_or_push list n 0 (length (list ++ n ∷ []) - 1) at in
      omega (arith, end);
})

-- All lists.

pub length_entered : (s : List (List ℕ)) (from : ℕ) (tos : List ℕ) → length (entered s from tos) ≡ length s
length_entered s from [] = refl
length_entered s from (to ∷ tos) = length_entered (slice_set s to (added (get_or s to []) from)) from tos ∙ length-set s to (added (get_or s to []) from)

length_all : (s : List (List ℕ)) (from : ℕ) (next : List (List ℕ)) → length (all_entered s from next) ≡ length s
length_all s from [] = refl
length_all s from (tos ∷ next) = length_all (entered s from tos) (from + 1) next ∙ length_entered s from tos

here_or : (A F I : Bool) → ((A || F) || (F && I)) ≡ (A || (F && (true || I)))
here_or true F I = refl
here_or false true I = refl
here_or false false I = refl

or_none : (A F : Bool) → A ≡ (A || (F && false))
or_none true F = refl
or_none false true = refl
or_none false false = refl

in_entered : (s : List (List ℕ)) (from : ℕ) (tos : List ℕ) (b x : ℕ) → b < length s → is_in (get_or (entered s from tos) b []) x ≡ (is_in (get_or s b []) x || ((from == x) && is_in tos b))
in_entered s from [] b x h = or_none (is_in (get_or s b []) x) (from == x)
in_entered s from (to ∷ tos) b x h =
    let row = added (get_or s to []) from in
    let rec = in_entered (slice_set s to row) from tos b x (omega (arith, length-set s to row)) in
    rec ∙ elim (cases_eq b to) [
      | inl e ↦
          let set_row : get_or (slice_set s to row) b [] ≡ row = ap (λ j. get_or (slice_set s to row) j []) e ∙ get_or-set_same s to row [] (omega arith) in
          ap (λ l. is_in l x || ((from == x) && is_in tos b)) set_row
          ∙ ap (λ c. c || ((from == x) && is_in tos b)) (in_added (get_or s to []) from x ∙ ap (λ j. is_in (get_or s j []) x || (from == x)) (sym e))
          ∙ here_or (is_in (get_or s b []) x) (from == x) (is_in tos b)
          ∙ ap (λ c. is_in (get_or s b []) x || ((from == x) && (c || is_in tos b))) (sym (eq-eqb to b (sym e)))
      | inr o ↦
          ap (λ l. is_in l x || ((from == x) && is_in tos b)) (get_or-set_other s to b row [] o)
          ∙ ap (λ c. is_in (get_or s b []) x || ((from == x) && (c || is_in tos b))) (sym (ne_eqb to b (λ e. o (sym e))))
    ]

-- an edge from the block at that place of the lists, which are counted from a number on
later : ℕ → List (List ℕ) → ℕ → ℕ → Bool
later from [] x b = false
later from (tos ∷ next) x b = ((from == x) && is_in tos b) || later (from + 1) next x b

later_below : (from : ℕ) (next : List (List ℕ)) (x b : ℕ) → x < from → later from next x b ≡ false
unfolding later
later_below from [] x b h = refl
later_below from (tos ∷ next) x b h =
    ap (λ c. (c && is_in tos b) || later (from + 1) next x b) (ne_eqb from x (λ e. omega arith)) ∙ later_below (from + 1) next x b (omega arith)

later_at : (from : ℕ) (next : List (List ℕ)) (k b : ℕ) → later from next (from + k) b ≡ is_in (get_or next k []) b
unfolding later
later_at from [] k b = refl
later_at from (tos ∷ next) zero b =
    let at : from + 0 ≡ from = omega arith in
    ap (λ x. ((from == x) && is_in tos b) || later (from + 1) next x b) at
    ∙ ap (λ c. (c && is_in tos b) || later (from + 1) next from b) (eq-eqb from from refl)
    ∙ ap (λ c. is_in tos b || c) (later_below (from + 1) next from b (omega arith))
    ∙ or_last (is_in tos b)
  where
    or_last : (c : Bool) → (c || false) ≡ c
    or_last true = refl
    or_last false = refl
later_at from (tos ∷ next) (suc k) b =
    ap (λ c. (c && is_in tos b) || later (from + 1) next (from + suc k) b) (ne_eqb from (from + suc k) (λ e. omega arith))
    ∙ ap (λ x. later (from + 1) next x b) moved ∙ later_at (from + 1) next k b
  where
    moved : from + suc k ≡ (from + 1) + k
    moved = omega arith

in_all : (s : List (List ℕ)) (from : ℕ) (next : List (List ℕ)) (b x : ℕ) → b < length s → is_in (get_or (all_entered s from next) b []) x ≡ (is_in (get_or s b []) x || later from next x b)
unfolding later
in_all s from [] b x h = or_last (is_in (get_or s b []) x)
  where
    or_last : (c : Bool) → c ≡ (c || false)
    or_last true = refl
    or_last false = refl
in_all s from (tos ∷ next) b x h =
    in_all (entered s from tos) (from + 1) next b x (omega (arith, length_entered s from tos))
    ∙ ap (λ c. c || later (from + 1) next x b) (in_entered s from tos b x h)
    ∙ assoc (is_in (get_or s b []) x) ((from == x) && is_in tos b) (later (from + 1) next x b)
  where
    assoc : (x y z : Bool) → ((x || y) || z) ≡ (x || (y || z))
    assoc true y z = refl
    assoc false y z = refl

AllRise : ℕ → List (List ℕ) → Type 0
AllRise most s = (b : ℕ) → Rises most (get_or s b [])

entered_rise : (s : List (List ℕ)) (from : ℕ) (tos : List ℕ) → AllRise from s → AllRise from (entered s from tos)
unfolding AllRise
entered_rise s from [] h = h
entered_rise s from (to ∷ tos) h =
    let row = added (get_or s to []) from in
    entered_rise (slice_set s to row) from tos (λ b. elim (cases_eq b to) [
      | inl e ↦ elim (cases_lt to (length s)) [
        | inl inside ↦ subst (Rises from) (sym (ap (λ j. get_or (slice_set s to row) j []) e ∙ get_or-set_same s to row [] inside)) (rises_added from (get_or s to []) (h to))
        | inr past ↦ subst (Rises from) (sym (get_or_past (slice_set s to row) b [] (omega (arith, length-set s to row)))) (rises_none from)
      ]
      | inr o ↦ subst (Rises from) (sym (get_or-set_other s to b row [] o)) (h b)
    ])

all_rise : (s : List (List ℕ)) (from : ℕ) (next : List (List ℕ)) → AllRise from s → AllRise (from + length next) (all_entered s from next)
unfolding AllRise
all_rise s from [] h = λ b. rises_more from (from + 0) (get_or s b []) (omega arith) (h b)
all_rise s from (tos ∷ next) h =
    let step = entered_rise s from tos h in
    let rest = all_rise (entered s from tos) (from + 1) next (λ b. rises_more from (from + 1) (get_or (entered s from tos) b []) (omega arith) (step b)) in
    λ b. rises_more ((from + 1) + length next) (from + suc (length next)) (get_or (all_entered (entered s from tos) (from + 1) next) b []) (omega arith) (rest b)

pub all_predecessors : (next : List (List ℕ)) → ArePredecessors next (all_entered (replicate (length next) []) 0 next)
unfolding AllRise
all_predecessors next =
    let none = replicate {A = List ℕ} (length next) [] in
    let size = length_all none 0 next in
    let whole = length-replicate {A = List ℕ} (length next) [] in
    record {
      len = size ∙ whole;
      exact = λ a b h.
          in_all none 0 next b a (omega (arith, whole))
          ∙ ap (λ l. is_in l a || later 0 next a b) (get_or-replicate {A = List ℕ} (length next) b [] [] h)
          ∙ subst (λ x. later 0 next x b ≡ is_in (get_or next a []) b) (zero_plus a) (later_at 0 next a b);
      ascending = All-from_get_or IsStrictlyIncreasing (all_entered none 0 next) [] (λ b h.
          (all_rise none 0 next (λ c. elim (cases_lt c (length next)) [
            | inl inside ↦ subst (Rises 0) (sym (get_or-replicate {A = List ℕ} (length next) c [] [] inside)) (rises_none 0)
            | inr past ↦ subst (Rises 0) (sym (get_or_past none c [] (omega (arith, whole)))) (rises_none 0)
          ]) b).ascends);
    }
  where
    zero_plus : (a : ℕ) → 0 + a ≡ a
    zero_plus a = omega arith

-- How many there are.

pub entries_set : (s : List (List ℕ)) (i : ℕ) (row : List ℕ) → i < length s → entries (slice_set s i row) + length (get_or s i []) ≡ entries s + length row
entries_set [] i row h = absurd (omega arith)
entries_set (r ∷ s) zero row h = omega arith
entries_set (r ∷ s) (suc i) row h = let rec = entries_set s i row (omega arith) in omega (arith, rec)

entries_entered : (s : List (List ℕ)) (from : ℕ) (tos : List ℕ) → All (λ to. to < length s) tos → entries (entered s from tos) ≤ entries s + length tos
entries_entered s from [] h = omega arith
entries_entered s from (to ∷ tos) h =
    let row = added (get_or s to []) from in
    let inside : to < length s = All-head (λ x. x < length s) to tos h in
    let same = length-set s to row in
    let rest : All (λ x. x < length (slice_set s to row)) tos = subst (λ n. All (λ x. x < n) tos) (sym same) (All-tail (λ x. x < length s) to tos h) in
    let rec = entries_entered (slice_set s to row) from tos rest in
    let one = entries_set s to row inside in
    let more = length_added (get_or s to []) from in
    omega (arith, rec, one, more)

entries_all : (s : List (List ℕ)) (from : ℕ) (next : List (List ℕ)) → All (λ row. All (λ to. to < length s) row) next → entries (all_entered s from next) ≤ entries s + entries next
entries_all s from [] h = omega arith
entries_all s from (tos ∷ next) h =
    let first = entries_entered s from tos (All-head (λ row. All (λ to. to < length s) row) tos next h) in
    let same = length_entered s from tos in
    let rest : All (λ row. All (λ to. to < length (entered s from tos)) row) next =
    subst (λ n. All (λ row. All (λ to. to < n) row) next) (sym same) (All-tail (λ row. All (λ to. to < length s) row) tos next h) in
    let rec = entries_all (entered s from tos) (from + 1) next rest in
    omega (arith, first, rec)

no_entries : (n : ℕ) → entries (replicate n []) ≡ 0
no_entries zero = refl
no_entries (suc n) = let rec = no_entries n in omega (arith, rec)

pub few_entries : (next : List (List ℕ)) → AreWithin next → entries (all_entered (replicate (length next) []) 0 next) ≤ entries next
few_entries next within =
    let whole = length-replicate {A = List ℕ} (length next) [] in
    let h : All (λ row. All (λ to. to < length (replicate {A = List ℕ} (length next) [])) row) next = subst (λ n. All (λ row. All (λ to. to < n) row) next) (sym whole) within in
    let le = entries_all (replicate (length next) []) 0 next h in
    omega (arith, le, no_entries (length next))

-- a predecessor is a block
pub predecessor_within : (next : List (List ℕ)) (a b : ℕ) → leads next a b ≡ true → a < length next
predecessor_within next a b h = elim (cases_lt a (length next)) [
  | inl inside ↦ inside
  | inr past ↦ absurd (false≢true (ap (λ l. is_in l b) (sym (get_or_past next a [] past)) ∙ h))
]
