-- Laws of the intervals that part a graph, by their places: each reached node is in one of them.
use Rattle.std.proofs.Common.{◌≡◌, ℕ, ◌<◌, Bool, true, ◌↔◌, inl, inr, List, [], length, get_or, map, sym, ap, ◌∙◌, subst, arith}
use Rattle.std.proofs.lemmas.Bool.{false≢true, cases_Bool, cases_lt}
use Rattle.std.proofs.lemmas.List.{length-map, get_or-map, get_or_past}
use Rattle.std.proofs.lemmas.List.Elements.{All-get_or}
use Rattle.dcc_flow.specs.Edges.{is_in}
use Rattle.dcc_interval.specs.Graphs.{IsReached, at_entry, along}
use Rattle.dcc_interval.specs.Intervals.{InInterval, itself, IsHeader, first, entered, Interval, headers_of, IsInterval, AreIntervals}
use Rattle.dcc_interval.specs.Derived.{members_at, header_at}
use Rattle.dcc_interval.proofs.IntervalLaws.{apart}
use Rattle.dcc_interval.proofs.PlaceLaws.{place_of, in_at, one_place}

abbrev pub no_interval : Interval
no_interval = record { header = 0; members = [] }

pub members_within : (level : List Interval) (place n : ℕ) → is_in (members_at level place) n ≡ true → place < length level
members_within level place n h = elim (cases_lt place (length level)) [
  | inl inside ↦ inside
  | inr past ↦
      let none = get_or_past (map (λ (i : Interval). i.members) level) place [] (omega (arith, length-map level (λ (i : Interval). i.members))) in
      absurd (false≢true (sym (ap (λ ns. is_in ns n) none) ∙ h))
]

module _ (edge : ℕ → ℕ → Bool) (entry : ℕ) (level : List Interval) (are : AreIntervals edge entry level) where
  pub exact_at : (place : ℕ) → place < length level → (n : ℕ) → (is_in (members_at level place) n ≡ true) ↔ InInterval edge entry (header_at level place) n
  exact_at place inside n =
      let here = (All-get_or (IsInterval edge entry) level place no_interval inside are.members).exact n in
      let members = get_or-map (λ (i : Interval). i.members) level place no_interval [] inside in
      let header = get_or-map (λ (i : Interval). i.header) level place no_interval 0 inside in
      subst (λ ms. (is_in ms n ≡ true) ↔ InInterval edge entry (header_at level place) n) (sym members)
      (subst (λ h. (is_in (get_or level place no_interval).members n ≡ true) ↔ InInterval edge entry h n) (sym header) here)

  pub header_is : (place : ℕ) → place < length level → IsHeader edge entry (header_at level place)
  header_is place inside =
      (are.headers (header_at level place)).0 (in_at (headers_of level) place (omega (arith, length-map level (λ (i : Interval). i.header))))

  -- the interval of a header stands in the list
  pub held : (h : ℕ) → IsHeader edge entry h → (place : ℕ) × (place < length level) × (header_at level place ≡ h)
  held h heads =
      let there = place_of (headers_of level) h ((are.headers h).1 heads) in
      (there.0, omega (arith, there.1, length-map level (λ (i : Interval). i.header)), there.2)

  headed : (n : ℕ) → IsHeader edge entry n → (place : ℕ) × (place < length level) × (is_in (members_at level place) n ≡ true)
  headed n heads =
      let there = held n heads in
      (there.0, there.1, (exact_at there.0 there.1 n).1 (subst (λ h. InInterval edge entry h n) (sym there.2) itself))

  pub covered : {n : ℕ} → IsReached edge entry n → (place : ℕ) × (place < length level) × (is_in (members_at level place) n ≡ true)
  covered at_entry = headed entry first
  covered (along {m = m} {n = n} r e) =
      let before = covered r in
      elim (cases_Bool (is_in (members_at level before.0) n)) [
        | inl t ↦ (before.0, before.1, t)
        | inr f ↦
            let out : ¬ (InInterval edge entry (header_at level before.0) n) = λ i. false≢true (sym f ∙ (exact_at before.0 before.1 n).1 i) in
            headed n (entered (header_is before.0 before.1) ((exact_at before.0 before.1 m).0 before.2) e out)
      ]

  pub one_holds : (i j n : ℕ) → is_in (members_at level i) n ≡ true → is_in (members_at level j) n ≡ true → i ≡ j
  one_holds i j n h k =
      let inside = members_within level i n h in
      let there = members_within level j n k in
      let same = apart edge entry (header_is i inside) (header_is j there) ((exact_at i inside n).0 h) ((exact_at j there n).0 k) in
      let size = length-map level (λ (x : Interval). x.header) in
      one_place (headers_of level) i j are.once (omega (arith, size)) (omega (arith, size)) same
