-- What waits to be followed: what comes to it, and what is taken.
use Rattle.std.proofs.Common.{◌≡◌, ◌≢◌, ℕ, zero, suc, ◌+◌, ◌<◌, ◌≤◌, Bool, true, false, not, inl, inr, List, [], ◌∷◌, ◌++◌, length, get_or, slice_set, replicate, refl, sym, ap, ◌∙◌, subst, arith, Contains}
use Rattle.std.specs.Prelude.{◌⊎◌}
use Rattle.std.specs.Global.{Vec}
use Rattle.std.proofs.lemmas.Bool.{cases_eq, cases_lt}
use Rattle.std.proofs.lemmas.List.{length-append, length-map, map-set, get_or-set_same, get_or-set_other, get_or_past}
use Rattle.std.proofs.lemmas.List.Elements.{Contains-append_left, Contains-push, Contains-push_cases}
use Rattle.dcc_ir.proofs.LocationLaws.{Contains-here, Contains-none, Contains-cases}
use Rattle.dcc_summaries.specs.declared.table.Want.{Want}
use Rattle.dcc_summaries.specs.Table.{lists_of}
use Rattle.dcc_summaries.specs.Pending.{with_pending, NoneWait, IsTaken}
use Rattle.dcc_summaries.proofs.TableLaws.{read_list}

-- As code keeps it.

-- one comes to one of the lists
pub added_in : (lists : List (Vec Want)) (place : ℕ) (list more : Vec Want) (x : Want) → place < length lists → list ≡ get_or lists place list → more.items ≡ list.items ++ x ∷ []
    → lists_of (slice_set lists place more) ≡ with_pending (lists_of lists) place x
added_in [] place list more x inside read e = absurd (omega (arith, inside))
added_in (l ∷ lists) zero list more x inside read e = ap (λ i. i ∷ lists_of lists) (e ∙ ap (λ (v : Vec Want). v.items ++ x ∷ []) read)
added_in (l ∷ lists) (suc place) list more x inside read e = ap (λ r. l.items ∷ r) (added_in lists place list more x (omega (arith, inside)) read e)

-- one comes past the lists
pub added_past : (lists : List (Vec Want)) (place : ℕ) (list : Vec Want) (x : Want) → length lists ≤ place → list.items ≡ x ∷ []
    → lists_of (lists ++ list ∷ []) ≡ with_pending (lists_of lists) place x
added_past [] place list x past e = ap (λ i. i ∷ []) e
added_past (l ∷ lists) zero list x past e = absurd (omega (arith, past))
added_past (l ∷ lists) (suc place) list x past e = ap (λ r. l.items ∷ r) (added_past lists place list x (omega (arith, past)) e)

-- one is taken from one of the lists
pub taken_is : (lists : List (Vec Want)) (place : ℕ) (list more : Vec Want) (x : Want) → place < length lists → list ≡ get_or lists place list → list.items ≡ more.items ++ x ∷ []
    → IsTaken (lists_of lists) (lists_of (slice_set lists place more)) x
taken_is lists place list more x inside read is = record {
  place = place;
  rest = more.items;
  last = sym (read_list lists place list inside read) ∙ is;
  after_is = map-set (λ (v : Vec Want). v.items) lists place more;
}

-- a list at which something waits isn't empty
pub some_waits : (lists : List (Vec Want)) (place : ℕ) (list : Vec Want) → place < length lists → list ≡ get_or lists place list → 0 < length (get_or (lists_of lists) place []) → 0 < length list.items
some_waits lists place list inside read some = subst (λ l. 0 < length l) (sym (read_list lists place list inside read)) some

-- nothing waits past the lists
pub past_none : (lists : List (Vec Want)) (place : ℕ) → length lists ≤ place → length (get_or (lists_of lists) place []) ≡ 0
past_none lists place past =
    let count = length-map lists (λ (v : Vec Want). v.items) in
    ap length (get_or_past (lists_of lists) place [] (omega (arith, count, past)))

-- nothing waits where nothing does on either side of a place
pub both_sides : (lists : List (List Want)) (at end : ℕ) → ((k : ℕ) → k < end → length (get_or lists k []) ≡ 0) → ((k : ℕ) → at ≤ k → length (get_or lists k []) ≡ 0) → at ≤ end → NoneWait lists
both_sides lists at end below above meet k = elim (cases_lt k end) [
  | inl inside ↦ below k inside
  | inr past ↦ above k (omega (arith, past, meet))
]

-- How many wait.

abbrev pub total : List (List Want) → ℕ
total [] = 0
total (list ∷ lists) = length list + total lists

pub more_total : (lists : List (List Want)) (place : ℕ) (x : Want) → total (with_pending lists place x) ≡ total lists + 1
more_total [] place x = refl
more_total (list ∷ lists) zero x = let size = length-append list (x ∷ []) in omega (arith, size)
more_total (list ∷ lists) (suc place) x = let more = more_total lists place x in omega (arith, more)

less_total : (lists : List (List Want)) (place : ℕ) (rest : List Want) (x : Want) → get_or lists place [] ≡ rest ++ x ∷ [] → total (slice_set lists place rest) + 1 ≡ total lists
less_total [] place rest x e = let size = length-append rest (x ∷ []) in let none = ap length e in absurd (omega (arith, size, none))
less_total (list ∷ lists) zero rest x e = let size = length-append rest (x ∷ []) in let same = ap length e in omega (arith, size, same)
less_total (list ∷ lists) (suc place) rest x e = let less = less_total lists place rest x e in omega (arith, less)

-- Which wait.

-- the want waits in one of the lists
abbrev pub Waits : List (List Want) → Want → Type 0
Waits lists x = (place : ℕ) × Contains (get_or lists place []) x

pub none_waits : (places : ℕ) (x : Want) → Waits (replicate places []) x → ⊥
none_waits places x w = Contains-none x (subst (λ l. Contains l x) (empty places w.0) w.1)
  where
    empty : (places k : ℕ) → get_or (replicate {A = List Want} places []) k [] ≡ []
    empty zero k = refl
    empty (suc places) zero = refl
    empty (suc places) (suc k) = empty places k

pub nowhere : (lists : List (List Want)) → NoneWait lists → (x : Want) → Waits lists x → ⊥
nowhere lists none x w = by (get_or lists w.0 []) (none w.0) w.1
  where
    by : (list : List Want) → length list ≡ 0 → Contains list x → ⊥
    by [] e c = Contains-none x c
    by (y ∷ list) e c = absurd (omega (arith, e))

-- what waited waits on after one more has come
pub waits_still : (lists : List (List Want)) (place : ℕ) (x y : Want) (k : ℕ) → Contains (get_or lists k []) y → Contains (get_or (with_pending lists place x) k []) y
waits_still [] place x y k c = absurd (Contains-none y c)
waits_still (list ∷ lists) zero x y zero c = Contains-append_left list (x ∷ []) y c
waits_still (list ∷ lists) zero x y (suc k) c = c
waits_still (list ∷ lists) (suc place) x y zero c = c
waits_still (list ∷ lists) (suc place) x y (suc k) c = waits_still lists place x y k c

pub waits_new : (lists : List (List Want)) (place : ℕ) (x : Want) → Waits (with_pending lists place x) x
waits_new [] place x = (0, Contains-here x [])
waits_new (list ∷ lists) zero x = (0, Contains-push list x)
waits_new (list ∷ lists) (suc place) x = let w = waits_new lists place x in (suc w.0, w.1)

-- what waits after one more has come waited before, or is that one
pub waits_known : (lists : List (List Want)) (place : ℕ) (x y : Want) (k : ℕ) → Contains (get_or (with_pending lists place x) k []) y → Waits lists y ⊎ (x ≡ y)
waits_known [] place x y zero c = Contains-cases x [] y (Waits [] y ⊎ (x ≡ y)) (λ e. inr e) (λ d. absurd (Contains-none y d)) c
waits_known [] place x y (suc k) c = absurd (Contains-none y c)
waits_known (list ∷ lists) zero x y zero c = elim (Contains-push_cases list x y c) [
  | inl d ↦ inl (0, d)
  | inr e ↦ inr e
]
waits_known (list ∷ lists) zero x y (suc k) c = inl (suc k, c)
waits_known (list ∷ lists) (suc place) x y zero c = inl (0, c)
waits_known (list ∷ lists) (suc place) x y (suc k) c = elim (waits_known lists place x y k c) [
  | inl w ↦ inl (suc w.0, w.1)
  | inr e ↦ inr e
]

-- One is taken.
module _ (lists after : List (List Want)) (x : Want) (taken : IsTaken lists after x) where
  pub taken_less : total after + 1 ≡ total lists
  taken_less = ap (λ l. total l + 1) taken.after_is ∙ less_total lists taken.place taken.rest x taken.last

  pub taken_waited : Waits lists x
  taken_waited = (taken.place, subst (λ l. Contains l x) (sym taken.last) (Contains-push taken.rest x))

  within : taken.place < length lists
  within = elim (cases_lt taken.place (length lists)) [
    | inl inside ↦ inside
    | inr past ↦ absurd (let size = length-append taken.rest (x ∷ []) in let none = ap length (sym (get_or_past lists taken.place [] past) ∙ taken.last) in omega (arith, size, none))
  ]

  here : get_or after taken.place [] ≡ taken.rest
  here = ap (λ l. get_or l taken.place []) taken.after_is ∙ get_or-set_same lists taken.place taken.rest [] within

  there : (k : ℕ) → k ≢ taken.place → get_or after k [] ≡ get_or lists k []
  there k other = ap (λ l. get_or l k []) taken.after_is ∙ get_or-set_other lists taken.place k taken.rest [] other

  -- what waited waits on, but for that one
  pub waits_on : (y : Want) → Waits lists y → Waits after y ⊎ (x ≡ y)
  waits_on y w = elim (cases_eq w.0 taken.place) [
    | inl is ↦ elim (Contains-push_cases taken.rest x y (subst (λ l. Contains l y) (ap (λ k. get_or lists k []) is ∙ taken.last) w.1)) [
      | inl c ↦ inl (taken.place, subst (λ l. Contains l y) (sym here) c)
      | inr e ↦ inr e
    ]
    | inr other ↦ inl (w.0, subst (λ l. Contains l y) (sym (there w.0 other)) w.1)
  ]

  -- and nothing else waits
  pub waited : (y : Want) → Waits after y → Waits lists y
  waited y w = elim (cases_eq w.0 taken.place) [
    | inl is ↦ (
      taken.place,
      subst (λ l. Contains l y) (sym taken.last)
          (Contains-append_left taken.rest (x ∷ []) y (subst (λ l. Contains l y) (ap (λ k. get_or after k []) is ∙ here) w.1)),
    )
    | inr other ↦ (w.0, subst (λ l. Contains l y) (there w.0 other) w.1)
  ]
