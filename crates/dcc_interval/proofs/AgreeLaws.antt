-- Two derived sequences of a graph differ by the order of the intervals, and of the nodes in them, alone.
use Rattle.std.proofs.Common.{◌≡◌, ℕ, zero, suc, ◌<◌, ◌≤◌, Bool, true, false, ◌&&◌, not, inl, inr, List, [], ◌∷◌, length, get_or, map, refl, sym, ap, ◌∙◌, subst, arith}
use Rattle.std.specs.Prelude.{◌==◌, filter}
use Rattle.std.specs.List.{list_any, list_all}
use Rattle.std.proofs.lemmas.Bool.{false≢true, cases_Bool, eq-eqb, ne_eqb, and_cases, and_parts, and_from, not-true, not-false}
use Rattle.std.proofs.lemmas.List.{length-map, get_or-map}
use Rattle.std.proofs.lemmas.List.Elements.{All-get_or}
use Rattle.dcc_ir.specs.WellFormed.{all_differ}
use Rattle.dcc_flow.specs.Edges.{is_in}
use Rattle.dcc_flow.proofs.Members.{in_here, in_there, in_cases, in_left, in_right, in_either}
use Rattle.dcc_flow.proofs.SourceLaws.{by_test}
use Rattle.dcc_interval.specs.Graphs.{IsReached, at_entry, along}
use Rattle.dcc_interval.specs.Intervals.{InInterval, itself, follows, IsHeader, first, entered, Interval, headers_of, IsInterval, AreIntervals}
use Rattle.dcc_interval.specs.Derived.{members_at, leads_between, collapsed, is_single, is_still, IsDerived, ends, goes_on, back_headers, header_at, loop_headers}
use Rattle.dcc_interval.specs.Laws.{AreAlike}
use Rattle.dcc_interval.proofs.PlaceLaws.{one_place, differ_more, few}
use Rattle.dcc_interval.proofs.PartLaws.{no_interval, exact_at, header_is, held}
use Rattle.dcc_interval.proofs.GrowthLaws.{some_passes, passes_at}
use Rattle.dcc_interval.proofs.CollapseLaws.{same_test}
use Rattle.dcc_interval.proofs.SequenceLaws.{some_fails, another}
use Rattle.dcc_interval.proofs.LoopLaws.{in_map, follower_inside}

-- The nodes of two graphs stand for each other, one for one, with the same edges.

record Matches (edge edge' : ℕ → ℕ → Bool) (entry entry' : ℕ) (Same : ℕ → ℕ → Type 0) : Type 0 where
  entries : Same entry entry'
  left : (a b c : ℕ) → Same a b → Same a c → b ≡ c
  right : (a b c : ℕ) → Same a c → Same b c → a ≡ b
  edges : (a b c d : ℕ) → Same a b → Same c d → edge a c ≡ edge' b d
  onward : (a b c : ℕ) → Same a b → edge a c ≡ true → (d : ℕ) × Same c d
  back : (a b d : ℕ) → Same a b → edge' b d ≡ true → (c : ℕ) × Same c d

abbrev flipped : (ℕ → ℕ → Type 0) → ℕ → ℕ → Type 0
flipped Same b a = Same a b

turned : {edge edge' : ℕ → ℕ → Bool} {entry entry' : ℕ} {Same : ℕ → ℕ → Type 0} → Matches edge edge' entry entry' Same → Matches edge' edge entry' entry (flipped Same)
turned same = record {
  entries = same.entries;
  left = λ a b c s t. same.right b c a s t;
  right = λ a b c s t. same.left c a b s t;
  edges = λ a b c d s t. sym (same.edges b a d c s t);
  onward = λ a b c s e. same.back b a c s e;
  back = λ a b d s e. same.onward b a d s e;
}

itself_matched : (edge : ℕ → ℕ → Bool) (entry : ℕ) → Matches edge edge entry entry (λ a b. a ≡ b)
itself_matched edge entry = record {
  entries = refl;
  left = λ a b c s t. sym s ∙ t;
  right = λ a b c s t. s ∙ sym t;
  edges = λ a b c d s t. ap (λ x. edge x c) s ∙ ap (edge b) t;
  onward = λ a b c s e. (c, refl);
  back = λ a b d s e. (d, refl);
}

-- Intervals of graphs that match.

module _ (edge edge' : ℕ → ℕ → Bool) (entry entry' : ℕ) (Same : ℕ → ℕ → Type 0) (same : Matches edge edge' entry entry' Same) where
  reached_over : {a : ℕ} → IsReached edge entry a → (b : ℕ) × Same a b × IsReached edge' entry' b
  reached_over at_entry = (entry', same.entries, at_entry)
  reached_over (along {m = m} {n = n} r e) =
      let before = reached_over r in
      let after = same.onward m before.0 n before.1 e in
      (after.0, after.1, along before.2 (sym (same.edges m before.0 n after.0 before.1 after.1) ∙ e))

  reached_there : (a b : ℕ) → IsReached edge entry a → Same a b → IsReached edge' entry' b
  reached_there a b r s =
      let there = reached_over r in
      subst (IsReached edge' entry') (same.left a there.0 b there.1 s) there.2

  partner : (h h' : ℕ) → Same h h' → {n : ℕ} → InInterval edge entry h n → (n' : ℕ) × Same n n'
  partner h h' s itself = (h', s)
  partner h h' s (follows off reached before) = let there = reached_over reached in (there.0, there.1)

module _ (edge edge' : ℕ → ℕ → Bool) (entry entry' : ℕ) (Same : ℕ → ℕ → Type 0) (same : Matches edge edge' entry entry' Same) where
  inside_over : (h h' : ℕ) → Same h h' → {n : ℕ} → InInterval edge entry h n → (n' : ℕ) → Same n n' → InInterval edge' entry' h' n'
  inside_over h h' s itself n' t = subst (InInterval edge' entry' h') (same.left h h' n' s t) itself
  inside_over h h' s (follows {n = n} off reached before) n' t =
      follows
      (λ e. off (same.right n entry n' t (subst (Same entry) (sym e) same.entries)))
      (reached_there edge edge' entry entry' Same same n n' reached t)
      (λ m' r e.
      let there = reached_over edge' edge entry' entry (flipped Same) (turned same) r in
      inside_over h h' s (before there.0 there.2 (same.edges there.0 m' n n' there.1 t ∙ e)) m' there.1)

module _ (edge edge' : ℕ → ℕ → Bool) (entry entry' : ℕ) (Same : ℕ → ℕ → Type 0) (same : Matches edge edge' entry entry' Same) where
  header_over : {h : ℕ} → IsHeader edge entry h → (h' : ℕ) × Same h h' × IsHeader edge' entry' h'
  header_over first = (entry', same.entries, first)
  header_over (entered {header = h} {m = m} {n = n} heads i e out) =
      let there = header_over heads in
      let from = partner edge edge' entry entry' Same same h there.0 there.1 i in
      let to = same.onward m from.0 n from.1 e in (
        to.0,
        to.1,
        entered there.2
            (inside_over edge edge' entry entry' Same same h there.0 there.1 i from.0 from.1)
            (sym (same.edges m from.0 n to.0 from.1 to.1) ∙ e)
            (λ j. out (inside_over edge' edge entry' entry (flipped Same) (turned same) there.0 h there.1 j n to.1)),
      )

-- The places of two levels, by their headers.
record At (Same : ℕ → ℕ → Type 0) (level level' : List Interval) (p q : ℕ) : Type 0 where
  inside : p < length level
  there : q < length level'
  heads : Same (header_at level p) (header_at level' q)

swapped : {Same : ℕ → ℕ → Type 0} {level level' : List Interval} {p q : ℕ} → At Same level level' p q → At (flipped Same) level' level q p
swapped at = record { inside = at.there; there = at.inside; heads = at.heads }

module _ (edge edge' : ℕ → ℕ → Bool) (entry entry' : ℕ) (Same : ℕ → ℕ → Type 0) (same : Matches edge edge' entry entry' Same)
    (level level' : List Interval) (are : AreIntervals edge entry level) (are' : AreIntervals edge' entry' level') where
  place_over : (p : ℕ) → p < length level → (q : ℕ) × At Same level level' p q
  place_over p inside =
      let there = header_over edge edge' entry entry' Same same (header_is edge entry level are p inside) in
      let place = held edge' entry' level' are' there.0 there.2 in
      (place.0, record { inside = inside; there = place.1; heads = subst (Same (header_at level p)) (sym place.2) there.1 })

  member_over : (p q n : ℕ) → At Same level level' p q → is_in (members_at level p) n ≡ true → (n' : ℕ) × Same n n' × (is_in (members_at level' q) n' ≡ true)
  member_over p q n at h =
      let i = (exact_at edge entry level are p at.inside n).0 h in
      let other = partner edge edge' entry entry' Same same (header_at level p) (header_at level' q) at.heads i in (
        other.0,
        other.1,
        (exact_at edge' entry' level' are' q at.there other.0).1
            (inside_over edge edge' entry entry' Same same (header_at level p) (header_at level' q) at.heads i other.0 other.1),
      )

  one_left : (p q r : ℕ) → At Same level level' p q → At Same level level' p r → q ≡ r
  one_left p q r s t =
      let size = length-map level' (λ (i : Interval). i.header) in
      one_place (headers_of level') q r are'.once (omega (arith, size, s.there)) (omega (arith, size, t.there))
      (same.left (header_at level p) (header_at level' q) (header_at level' r) s.heads t.heads)

module _ (edge edge' : ℕ → ℕ → Bool) (entry entry' : ℕ) (Same : ℕ → ℕ → Type 0) (same : Matches edge edge' entry entry' Same)
    (level level' : List Interval) (are : AreIntervals edge entry level) (are' : AreIntervals edge' entry' level') where
  one_right : (p r q : ℕ) → At Same level level' p q → At Same level level' r q → p ≡ r
  one_right p r q s t = one_left edge' edge entry' entry (flipped Same) (turned same) level' level are' are q p r (swapped s) (swapped t)

  edge_over : (p q s t : ℕ) → At Same level level' p q → At Same level level' s t → collapsed edge level p s ≡ true → collapsed edge' level' q t ≡ true
  edge_over p q s t from to h =
      let parts = and_parts (not (p == s)) (leads_between edge (members_at level p) (members_at level s)) h in
      let m = some_passes (λ x. list_any (edge x) (members_at level s)) (members_at level p) parts.1 in
      let n = some_passes (edge m.0) (members_at level s) m.2 in
      let m' = member_over edge edge' entry entry' Same same level level' are are' p q m.0 from m.1 in
      let n' = member_over edge edge' entry entry' Same same level level' are are' s t n.0 to n.1 in
      let apart : ¬ (q ≡ t) = λ e.
      let one : p ≡ s = one_right p s q from (subst (At Same level level' s) (sym e) to) in
      false≢true (sym (ap not (eq-eqb p s one)) ∙ parts.0) in
      and_from (not (q == t)) (leads_between edge' (members_at level' q) (members_at level' t)) (ap not (ne_eqb q t apart))
      (passes_at (λ x. list_any (edge' x) (members_at level' t)) (members_at level' q) m'.0 m'.2
      (passes_at (edge' m'.0) (members_at level' t) n'.0 n'.2 (sym (same.edges m.0 m'.0 n.0 n'.0 m'.1 n'.1) ∙ n.2)))

-- Levels that collapsing does not change.

pub only : (ns : List ℕ) (a b : ℕ) → is_single ns ≡ true → is_in ns a ≡ true → is_in ns b ≡ true → a ≡ b
only [] a b single h k = absurd (false≢true h)
only (n ∷ []) a b single h k = sym (own a h) ∙ own b k
  where
    own : (x : ℕ) → is_in (n ∷ []) x ≡ true → n ≡ x
    own x h = elim (in_cases n x [] h) [ inl e ↦ e | inr none ↦ absurd (false≢true none) ]
only (n ∷ m ∷ ns) a b single h k = absurd (false≢true single)

pub all_at : (f : Interval → Bool) (level : List Interval) (k : ℕ) → list_all f level ≡ true → k < length level → f (get_or level k no_interval) ≡ true
all_at f [] k h inside = absurd (omega (arith, inside))
all_at f (i ∷ level) zero h inside = (and_parts (f i) (list_all f level) h).0
all_at f (i ∷ level) (suc k) h inside = all_at f level k (and_parts (f i) (list_all f level) h).1 (omega (arith, inside))

module _ (edge edge' : ℕ → ℕ → Bool) (entry entry' : ℕ) (Same : ℕ → ℕ → Type 0) (same : Matches edge edge' entry entry' Same)
    (level level' : List Interval) (are : AreIntervals edge entry level) (are' : AreIntervals edge' entry' level') where
  no_change : (p q : ℕ) → At Same level level' p q → is_still edge level ≡ true
      → (is_single (get_or level' q no_interval).members && not (edge' (get_or level' q no_interval).header (get_or level' q no_interval).header)) ≡ false → ⊥
  no_change p q at still changes =
      let i = get_or level p no_interval in
      let i' = get_or level' q no_interval in
      let is : IsInterval edge entry i = All-get_or (IsInterval edge entry) level p no_interval at.inside are.members in
      let is' : IsInterval edge' entry' i' = All-get_or (IsInterval edge' entry') level' q no_interval at.there are'.members in
      let parts = and_parts (is_single i.members) (not (edge i.header i.header)) (all_at (λ x. is_single x.members && not (edge x.header x.header)) level p still at.inside) in
      let header = get_or-map (λ (x : Interval). x.header) level p no_interval 0 at.inside in
      let header' = get_or-map (λ (x : Interval). x.header) level' q no_interval 0 at.there in
      let heads : Same i.header i'.header = subst (Same i.header) header' (subst (λ h. Same h (header_at level' q)) header at.heads) in
      elim (and_cases (is_single i'.members) (not (edge' i'.header i'.header)) changes) [
        | inl many ↦
            let m' = another i'.members i'.header ((is'.exact i'.header).1 itself) many is'.once in
            let within' : InInterval edge' entry' i'.header m'.0 = (is'.exact m'.0).0 m'.1 in
            let m = partner edge' edge entry' entry (flipped Same) (turned same) i'.header i.header heads within' in
            let within = inside_over edge' edge entry' entry (flipped Same) (turned same) i'.header i.header heads within' m.0 m.1 in
            let one : m.0 ≡ i.header = only i.members m.0 i.header parts.0 ((is.exact m.0).1 within) ((is.exact i.header).1 itself) in
            m'.2 (same.left m.0 m'.0 i'.header m.1 (subst (λ k. Same k i'.header) (sym one) heads))
        | inr loop ↦ false≢true (sym (not-true (edge i.header i.header) parts.1) ∙ same.edges i.header i'.header i.header i'.header heads heads ∙ not-false (edge' i'.header i'.header) loop)
      ]

  still_over : is_still edge level ≡ true → is_still edge' level' ≡ true
  still_over still = elim (cases_Bool (is_still edge' level')) [
    | inl t ↦ t
    | inr f ↦
        let at = some_fails (λ i. is_single i.members && not (edge' i.header i.header)) level' f in
        let other = place_over edge' edge entry' entry (flipped Same) (turned same) level' level are' are at.0 at.1 in
        absurd (no_change other.0 at.0 (swapped other.1) still at.2)
  ]

-- Headers with an edge back.

pub record BackAt (edge : ℕ → ℕ → Bool) (level : List Interval) (n : ℕ) : Type 0 where
  pub place : ℕ
  pub inside : place < length level
  pub header : header_at level place ≡ n
  pub from : ℕ
  pub member : is_in (members_at level place) from ≡ true
  pub leads_back : edge from n ≡ true

abbrev kept : (ℕ → ℕ → Bool) → List Interval → List Interval
kept edge level = filter (λ i. list_any (λ m. edge m i.header) i.members) level

pub back_at : (edge : ℕ → ℕ → Bool) (level : List Interval) (n : ℕ) → is_in (back_headers edge level) n ≡ true → BackAt edge level n
back_at edge [] n h = absurd (false≢true h)
back_at edge (i ∷ level) n h =
    let later : is_in (back_headers edge level) n ≡ true → BackAt edge (i ∷ level) n = λ t.
    let b = back_at edge level n t in
    record { place = suc b.place; inside = omega (arith, b.inside); header = b.header; from = b.from; member = b.member; leads_back = b.leads_back } in
    by_test (λ l. is_in (map (λ (x : Interval). x.header) l) n ≡ true → BackAt edge (i ∷ level) n)
    (list_any (λ m. edge m i.header) i.members) (i ∷ kept edge level) (kept edge level)
    (λ t k. elim (in_cases i.header n (back_headers edge level) k) [
      | inl e ↦
          let some = some_passes (λ m. edge m i.header) i.members t in
          record { place = 0; inside = omega arith; header = e; from = some.0; member = some.1; leads_back = subst (λ x. edge some.0 x ≡ true) e some.2 }
      | inr r ↦ later r
    ])
    (λ f k. later k) h

pub back_in : (edge : ℕ → ℕ → Bool) (level : List Interval) (p m : ℕ) → p < length level → is_in (members_at level p) m ≡ true → edge m (header_at level p) ≡ true
    → is_in (back_headers edge level) (header_at level p) ≡ true
back_in edge [] p m inside member e = absurd (omega (arith, inside))
back_in edge (i ∷ level) zero m inside member e =
    by_test (λ l. is_in (map (λ (x : Interval). x.header) l) i.header ≡ true)
    (list_any (λ x. edge x i.header) i.members) (i ∷ kept edge level) (kept edge level)
    (λ t. in_here i.header (back_headers edge level))
    (λ f. absurd (false≢true (sym f ∙ passes_at (λ x. edge x i.header) i.members m member e)))
back_in edge (i ∷ level) (suc p) m inside member e =
    let later = back_in edge level p m (omega (arith, inside)) member e in
    by_test (λ l. is_in (map (λ (x : Interval). x.header) l) (header_at level p) ≡ true)
    (list_any (λ x. edge x i.header) i.members) (i ∷ kept edge level) (kept edge level)
    (λ t. in_there i.header (header_at level p) (back_headers edge level) later)
    (λ f. later)

module _ (edge edge' : ℕ → ℕ → Bool) (entry entry' : ℕ) (Same : ℕ → ℕ → Type 0) (same : Matches edge edge' entry entry' Same)
    (level level' : List Interval) (are : AreIntervals edge entry level) (are' : AreIntervals edge' entry' level') where
  back_over : (n : ℕ) → is_in (back_headers edge level) n ≡ true → (n' : ℕ) × Same n n' × (is_in (back_headers edge' level') n' ≡ true)
  back_over n h =
      let b = back_at edge level n h in
      let other = place_over edge edge' entry entry' Same same level level' are are' b.place b.inside in
      let m = member_over edge edge' entry entry' Same same level level' are are' b.place other.0 b.from other.1 b.member in
      let heads = subst (λ k. Same k (header_at level' other.0)) b.header other.1.heads in (
        header_at level' other.0,
        heads,
        back_in edge' level' other.0 m.0 other.1.there m.2
            (sym (same.edges b.from m.0 n (header_at level' other.0) m.1 heads) ∙ b.leads_back),
      )

  still_same : is_still edge level ≡ is_still edge' level'
  still_same =
      same_test (is_still edge level) (is_still edge' level')
      (still_over edge edge' entry entry' Same same level level' are are')
      (still_over edge' edge entry' entry (flipped Same) (turned same) level' level are' are)

  -- the places of the next level match
  collapse_matches : Matches (collapsed edge level) (collapsed edge' level') 0 0 (At Same level level')
  collapse_matches = record {
    entries = record {
      inside = omega (arith, ap length are.first.1, length-map level (λ (i : Interval). i.header));
      there = omega (arith, ap length are'.first.1, length-map level' (λ (i : Interval). i.header));
      heads = subst (Same (header_at level 0)) (sym (ap (λ l. get_or l 0 0) are'.first.1))
          (subst (λ h. Same h entry') (sym (ap (λ l. get_or l 0 0) are.first.1)) same.entries);
    };
    left = one_left edge edge' entry entry' Same same level level' are are';
    right = one_right edge edge' entry entry' Same same level level' are are';
    edges = λ a b c d s t. same_test (collapsed edge level a c) (collapsed edge' level' b d)
        (edge_over edge edge' entry entry' Same same level level' are are' a b c d s t)
        (edge_over edge' edge entry' entry (flipped Same) (turned same) level' level are' are b a d c (swapped s) (swapped t));
    onward = λ a b c s e. place_over edge edge' entry entry' Same same level level' are are' c (follower_inside edge level a c e);
    back = λ a b d s e.
        let there = place_over edge' edge entry' entry (flipped Same) (turned same) level' level are' are d (follower_inside edge' level' b d e) in
        (there.0, swapped there.1);
  }

-- Numbers below a bound with partners of their own, below another bound, are no more than it.

record Partners (Same : ℕ → ℕ → Type 0) (bound count : ℕ) : Type 0 where
  list : List ℕ
  size : length list ≡ count
  differ : all_differ list ≡ true
  are : (n : ℕ) → is_in list n ≡ true → (n < bound) × ((p : ℕ) × (p < count) × Same p n)

partners : (Same : ℕ → ℕ → Type 0) (bound count : ℕ) → ((p : ℕ) → p < count → (q : ℕ) × (q < bound) × Same p q)
    → ((p r q : ℕ) → Same p q → Same r q → p ≡ r) → Partners Same bound count
partners Same bound zero find one = record { list = []; size = refl; differ = refl; are = λ n h. absurd (false≢true h) }
partners Same bound (suc count) find one =
    let rest = partners Same bound count (λ p less. find p (omega (arith, less))) one in
    let last = find count (omega arith) in
    let fresh : is_in rest.list last.0 ≡ false = elim (cases_Bool (is_in rest.list last.0)) [
      | inl t ↦
          let old = (rest.are last.0 t).1 in
          let again : old.0 ≡ count = one old.0 count last.0 old.2 last.2 in
          absurd (omega (arith, again, old.1))
      | inr f ↦ f
    ] in
    record {
      list = last.0 ∷ rest.list;
      size = omega (arith, rest.size);
      differ = differ_more last.0 rest.list fresh rest.differ;
      are = λ n h. elim (in_cases last.0 n rest.list h) [
        | inl e ↦ (subst (λ k. k < bound) e last.1, (count, omega arith, subst (Same count) e last.2))
        | inr t ↦ let old = rest.are n t in (old.0, (old.1.0, omega (arith, old.1.1), old.1.2))
      ];
    }

no_more : (Same : ℕ → ℕ → Type 0) (bound count : ℕ) → ((p : ℕ) → p < count → (q : ℕ) × (q < bound) × Same p q)
    → ((p r q : ℕ) → Same p q → Same r q → p ≡ r) → count ≤ bound
no_more Same bound count find one =
    let all = partners Same bound count find one in
    let under = few all.list bound all.differ (λ n t. (all.are n t).0) in
    omega (arith, under, all.size)

level_counts : (edge edge' : ℕ → ℕ → Bool) (entry entry' : ℕ) (Same : ℕ → ℕ → Type 0) → Matches edge edge' entry entry' Same → (level level' : List Interval)
    → AreIntervals edge entry level → AreIntervals edge' entry' level' → length level ≤ length level'
level_counts edge edge' entry entry' Same same level level' are are' =
    no_more (At Same level level') (length level') (length level)
    (λ p less. let other = place_over edge edge' entry entry' Same same level level' are are' p less in (other.0, other.1.there, other.1))
    (one_right edge edge' entry entry' Same same level level' are are')

both_counts : (edge edge' : ℕ → ℕ → Bool) (entry entry' : ℕ) (Same : ℕ → ℕ → Type 0) → Matches edge edge' entry entry' Same → (level level' : List Interval)
    → AreIntervals edge entry level → AreIntervals edge' entry' level' → length level ≡ length level'
both_counts edge edge' entry entry' Same same level level' are are' =
    let few_here = level_counts edge edge' entry entry' Same same level level' are are' in
    let few_there = level_counts edge' edge entry' entry (flipped Same) (turned same) level' level are' are in
    omega (arith, few_here, few_there)

-- Whole sequences.

pub mapped_in : (f : ℕ → ℕ) (ns : List ℕ) (n : ℕ) → is_in ns n ≡ true → is_in (map f ns) (f n) ≡ true
mapped_in f [] n h = absurd (false≢true h)
mapped_in f (m ∷ ns) n h = elim (in_cases m n ns h) [
  | inl e ↦ subst (λ k. is_in (f m ∷ map f ns) (f k) ≡ true) e (in_here (f m) (map f ns))
  | inr t ↦ in_there (f m) (f n) (map f ns) (mapped_in f ns n t)
]

heads_over : {edge edge' : ℕ → ℕ → Bool} {entry entry' : ℕ} {levels levels' : List (List Interval)} → IsDerived edge entry levels → IsDerived edge' entry' levels'
    → (Same : ℕ → ℕ → Type 0) → Matches edge edge' entry entry' Same → (n : ℕ) → is_in (loop_headers edge levels) n ≡ true
    → (n' : ℕ) × Same n n' × (is_in (loop_headers edge' levels') n' ≡ true)
heads_over {edge = edge} {edge' = edge'} {entry = entry} {entry' = entry'} (ends {level = level} are still) (ends {level = level'} are' still') Same same n h =
    elim (in_either (back_headers edge level) [] n h) [
      | inl back ↦
          let there = back_over edge edge' entry entry' Same same level level' are are' n back in
          (there.0, there.1, in_left (back_headers edge' level') [] there.0 there.2)
      | inr none ↦ absurd (false≢true none)
    ]
heads_over {edge = edge} {edge' = edge'} {entry = entry} {entry' = entry'} (ends {level = level} are still) (goes_on {level = level'} are' moves' more') Same same n h =
    absurd (false≢true (sym moves' ∙ sym (still_same edge edge' entry entry' Same same level level' are are') ∙ still))
heads_over {edge = edge} {edge' = edge'} {entry = entry} {entry' = entry'} (goes_on {level = level} are moves more) (ends {level = level'} are' still') Same same n h =
    absurd (false≢true (sym moves ∙ still_same edge edge' entry entry' Same same level level' are are' ∙ still'))
heads_over {edge = edge} {edge' = edge'} {entry = entry} {entry' = entry'} (goes_on {level = level} {levels = levels} are moves more) (goes_on {level = level'} {levels = levels'} are' moves' more') Same same n h =
    let rest = loop_headers (collapsed edge level) levels in
    let rest' = loop_headers (collapsed edge' level') levels' in
    elim (in_either (back_headers edge level) (map (header_at level) rest) n h) [
      | inl back ↦
          let there = back_over edge edge' entry entry' Same same level level' are are' n back in
          (there.0, there.1, in_left (back_headers edge' level') (map (header_at level') rest') there.0 there.2)
      | inr later ↦
          let at = in_map (header_at level) rest n later in
          let there = heads_over more more' (At Same level level') (collapse_matches edge edge' entry entry' Same same level level' are are') at.0 at.1 in (
            header_at level' there.0,
            subst (λ k. Same k (header_at level' there.0)) at.2 there.1.heads,
            in_right (back_headers edge' level') (map (header_at level') rest') (header_at level' there.0) (mapped_in (header_at level') rest' there.0 there.2),
          )
    ]

counts_over : {edge edge' : ℕ → ℕ → Bool} {entry entry' : ℕ} {levels levels' : List (List Interval)} → IsDerived edge entry levels → IsDerived edge' entry' levels'
    → (Same : ℕ → ℕ → Type 0) → Matches edge edge' entry entry' Same → map (λ (l : List Interval). length l) levels ≡ map (λ (l : List Interval). length l) levels'
counts_over {edge = edge} {edge' = edge'} {entry = entry} {entry' = entry'} (ends {level = level} are still) (ends {level = level'} are' still') Same same =
    ap (λ n. n ∷ []) (both_counts edge edge' entry entry' Same same level level' are are')
counts_over {edge = edge} {edge' = edge'} {entry = entry} {entry' = entry'} (ends {level = level} are still) (goes_on {level = level'} are' moves' more') Same same =
    absurd (false≢true (sym moves' ∙ sym (still_same edge edge' entry entry' Same same level level' are are') ∙ still))
counts_over {edge = edge} {edge' = edge'} {entry = entry} {entry' = entry'} (goes_on {level = level} are moves more) (ends {level = level'} are' still') Same same =
    absurd (false≢true (sym moves ∙ still_same edge edge' entry entry' Same same level level' are are' ∙ still'))
counts_over {edge = edge} {edge' = edge'} {entry = entry} {entry' = entry'} (goes_on {level = level} {levels = levels} are moves more) (goes_on {level = level'} {levels = levels'} are' moves' more') Same same =
    ap (λ n. n ∷ map (λ (l : List Interval). length l) levels) (both_counts edge edge' entry entry' Same same level level' are are')
    ∙ ap (λ ns. length level' ∷ ns) (counts_over more more' (At Same level level') (collapse_matches edge edge' entry entry' Same same level level' are are'))

pub are_alike : (edge : ℕ → ℕ → Bool) (entry : ℕ) (levels others : List (List Interval)) → IsDerived edge entry levels → IsDerived edge entry others → AreAlike edge levels others
are_alike edge entry levels others d e = record {
  headers = λ n. same_test (is_in (loop_headers edge levels) n) (is_in (loop_headers edge others) n) (over d e n) (over e d n);
  counts = counts_over d e (λ a b. a ≡ b) (itself_matched edge entry);
}
  where
    over : {levels others : List (List Interval)} → IsDerived edge entry levels → IsDerived edge entry others → (n : ℕ) → is_in (loop_headers edge levels) n ≡ true → is_in (loop_headers edge others) n ≡ true
    over {others = others} d e n t =
        let there = heads_over d e (λ a b. a ≡ b) (itself_matched edge entry) n t in
        subst (λ k. is_in (loop_headers edge others) k ≡ true) (sym there.1) there.2
