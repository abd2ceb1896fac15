-- Laws of how the interval of a header grows.
use Rattle.std.proofs.Common.{◌≡◌, ℕ, ◌+◌, ◌<◌, ◌≤◌, Bool, true, false, ◌&&◌, ◌||◌, not, inl, inr, List, [], ◌∷◌, ◌++◌, length, get_or, slice_set, take, drop, All, refl, sym, ap, ◌∙◌, subst, arith}
use Rattle.std.specs.Prelude.{◌==◌, ◌⊎◌}
use Rattle.std.specs.List.{list_any}
use Rattle.std.proofs.lemmas.Bool.{false≢true, cases_Bool, cases_eq, eqb-true, eq-eqb, ne_eqb, or_cases, or_left, or_right, or_parts, false_from_ne_true}
use Rattle.std.proofs.lemmas.List.{append-nil, append_assoc, length-append, length-set, get_or-set_same, get_or-set_other, take-append-le, take-append-drop, take_all, take_more}
use Rattle.std.proofs.lemmas.List.Elements.{All-head, All-tail}
use Rattle.dcc_flow.specs.Edges.{is_in, leads}
use Rattle.dcc_flow.proofs.Members.{in_here, in_there, in_cases, in_left, in_either, differ_append}
use Rattle.dcc_flow.proofs.SourceLaws.{by_test, in_append}
use Rattle.dcc_interval.specs.Graphs.{IsReached, along}
use Rattle.dcc_interval.specs.Intervals.{InInterval, itself, follows, IsHeader, Interval, headers_of, IsInterval}
use Rattle.dcc_interval.specs.Reaching.{AreTurned}
use Rattle.dcc_interval.specs.Growing.{Growing, is_held, joined, all_joined, is_done, IsGrown}
use Rattle.dcc_interval.proofs.IntervalLaws.{reached_within, before_it, alone, apart}
use Rattle.dcc_interval.proofs.NotedLaws.{set_mark}
use Rattle.dcc_interval.proofs.PlaceLaws.{in_at}
use Rattle.dcc_interval.proofs.ReachLaws.{edge_within}

-- Tests of lists.

pub none_passes : (p : ℕ → Bool) (ns : List ℕ) (n : ℕ) → list_any p ns ≡ false → is_in ns n ≡ true → p n ≡ false
none_passes p [] n h k = absurd (false≢true k)
none_passes p (m ∷ ns) n h k =
    let parts = or_parts (p m) (list_any p ns) h in
    elim (in_cases m n ns k) [ inl e ↦ subst (λ x. p x ≡ false) e parts.0 | inr t ↦ none_passes p ns n parts.1 t ]

pub some_passes : (p : ℕ → Bool) (ns : List ℕ) → list_any p ns ≡ true → (n : ℕ) × (is_in ns n ≡ true) × (p n ≡ true)
some_passes p [] h = absurd (false≢true h)
some_passes p (m ∷ ns) h = elim (or_cases (p m) (list_any p ns) h) [
  | inl t ↦ (m, in_here m ns, t)
  | inr t ↦ let there = some_passes p ns t in (there.0, in_there m there.0 ns there.1, there.2)
]

pub passes_at : (p : ℕ → Bool) (ns : List ℕ) (n : ℕ) → is_in ns n ≡ true → p n ≡ true → list_any p ns ≡ true
passes_at p ns n h t = elim (cases_Bool (list_any p ns)) [ inl y ↦ y | inr f ↦ absurd (false≢true (sym (none_passes p ns n f h) ∙ t)) ]

in_take : (k : ℕ) (ns : List ℕ) (n : ℕ) → is_in (take k ns) n ≡ true → is_in ns n ≡ true
in_take k ns n h = subst (λ l. is_in l n ≡ true) (take-append-drop k ns) (in_left (take k ns) (drop k ns) n h)

unmarked : (marks : List Bool) (t n : ℕ) → t < length marks → get_or (slice_set marks t false) n false ≡ (get_or marks n false && not (t == n))
unmarked marks t n inside = elim (cases_eq t n) [
  | inl e ↦ subst (λ k. get_or (slice_set marks t false) k false ≡ (get_or marks k false && not (t == k))) e
      (get_or-set_same marks t false false inside ∙ sym (off (get_or marks t false) (t == t) (eq-eqb t t refl)))
  | inr o ↦ get_or-set_other marks t n false false (λ e. o (sym e)) ∙ sym (on (get_or marks n false) (t == n) (ne_eqb t n o))
]
  where
    off : (a b : Bool) → b ≡ true → (a && not b) ≡ false
    off true b e = ap not e
    off false b e = refl

    on : (a b : Bool) → b ≡ false → (a && not b) ≡ a
    on true b e = ap not e
    on false b e = refl

pub done_interval : (edge : ℕ → ℕ → Bool) (entry : ℕ) (done : List Interval) (n : ℕ) → All (IsInterval edge entry) done → is_done done n ≡ true
    → (header : ℕ) × (is_in (headers_of done) header ≡ true) × InInterval edge entry header n
done_interval edge entry [] n exact h = absurd (false≢true h)
done_interval edge entry (i ∷ done) n exact h = elim (or_cases (is_in i.members n) (is_done done n) h) [
  | inl t ↦ (i.header, in_here i.header (headers_of done), ((All-head (IsInterval edge entry) i done exact).exact n).0 t)
  | inr t ↦
      let there = done_interval edge entry done n (All-tail (IsInterval edge entry) i done exact) t in
      (there.0, in_there i.header there.0 (headers_of done) there.1, there.2)
]

-- A graph, for each node the reached nodes before it, the headers, and the intervals that are done, all of whose
-- successors are headers or in them.
pub record Setting (next : List (List ℕ)) (entry : ℕ) (sources : List (List ℕ)) (done : List Interval) (heads : List ℕ) : Type 0 where
  pub turned : AreTurned next entry sources
  pub begins : is_in heads entry ≡ true
  pub heads_are : (n : ℕ) → is_in heads n ≡ true → IsHeader (leads next) entry n
  pub listed : (n : ℕ) → is_in (headers_of done) n ≡ true → is_in heads n ≡ true
  pub exact : All (IsInterval (leads next) entry) done
  pub closed : (m n : ℕ) → is_done done m ≡ true → leads next m n ≡ true → (is_in heads n || is_done done n) ≡ true

-- the node, whose predecessors are all in these, is claimed
abbrev pub IsClaimedAfter : List (List ℕ) → ℕ → List ℕ → Growing → ℕ → Type 0
IsClaimedAfter next entry passed s n = ((m : ℕ) → IsReached (leads next) entry m → leads next m n ≡ true → is_in passed m ≡ true) → get_or s.claimed n false ≡ true

-- so many members of the interval that grows were followed
pub record IsFollowed (next : List (List ℕ)) (entry : ℕ) (done : List Interval) (heads : List ℕ) (header : ℕ) (s : Growing) (turn : ℕ) : Type 0 where
  pub grown : IsGrown next entry done heads header s
  pub turn_within : turn ≤ length s.members
  pub complete : (n : ℕ) → IsReached (leads next) entry n → IsClaimedAfter next entry (take turn s.members) s n

module _ (next : List (List ℕ)) (entry : ℕ) (sources : List (List ℕ)) (done : List Interval) (heads : List ℕ) (set : Setting next entry sources done heads)
    (header : ℕ) (reached : IsReached (leads next) entry header) (is_head : is_in heads header ≡ true) where
  abbrev pub Grown : Growing → Type 0
  Grown s = IsGrown next entry done heads header s

  abbrev pub Growth : Growing → ℕ → Type 0
  Growth s turn = IsFollowed next entry done heads header s turn

  abbrev pub IsComplete : List ℕ → Growing → ℕ → Type 0
  IsComplete passed s n = IsClaimedAfter next entry passed s n

  pub claimed_member : (s : Growing) (n : ℕ) → Grown s → is_in s.members n ≡ true → get_or s.claimed n false ≡ true
  claimed_member s n h t = h.claimed n ∙ or_right (is_in heads n) (is_done done n || is_in s.members n) (or_right (is_done done n) (is_in s.members n) t)

  claimed_before : (s : Growing) (n : ℕ) → Grown s → (is_in heads n || is_done done n) ≡ true → get_or s.claimed n false ≡ true
  claimed_before s n h t = h.claimed n ∙ elim (or_cases (is_in heads n) (is_done done n) t) [
    | inl a ↦ or_left (is_in heads n) (is_done done n || is_in s.members n) a
    | inr b ↦ or_right (is_in heads n) (is_done done n || is_in s.members n) (or_left (is_done done n) (is_in s.members n) b)
  ]

  -- a node that joins is of the interval
  joins : (s : Growing) (x n : ℕ) → Grown s → is_in s.members x ≡ true → leads next x n ≡ true
      → get_or s.claimed n false ≡ false → is_held s.free (get_or sources n []) ≡ false → InInterval (leads next) entry header n
  joins s x n h member e unclaimed free =
      let reached_n = along (reached_within (leads next) entry reached (h.members x member)) e in
      follows
      (λ same. false≢true (sym unclaimed ∙ claimed_before s n h (or_left (is_in heads n) (is_done done n) (subst (λ k. is_in heads k ≡ true) (sym same) set.begins))))
      reached_n
      (λ m r to.
      let here = (set.turned.exact m n (edge_within next set.turned.within x n e)).1 (r, to) in
      let shut = sym (h.frees m r) ∙ none_passes (λ k. get_or s.free k false) (get_or sources n []) m free here in
      elim (or_cases (is_done done m) (is_in s.members m) (opened (is_done done m || is_in s.members m) shut)) [
        | inl d ↦ absurd (false≢true (sym unclaimed ∙ claimed_before s n h (set.closed m n d to)))
        | inr k ↦ h.members m k
      ])
    where
      opened : (b : Bool) → not b ≡ false → b ≡ true
      opened true e = refl
      opened false e = absurd (false≢true (sym e))

  with_one : Growing → ℕ → Growing
  with_one s n = record { free = slice_set s.free n false; claimed = slice_set s.claimed n true; members = s.members ++ n ∷ [] }

  grown_by_one : (s : Growing) (n : ℕ) → Grown s → n < length next → get_or s.claimed n false ≡ false → InInterval (leads next) entry header n → Grown (with_one s n)
  unfolding with_one
  grown_by_one s n h inside unclaimed holds =
      let new : (k : ℕ) → is_in (s.members ++ n ∷ []) k ≡ (is_in s.members k || ((n == k) || false)) = in_append s.members (n ∷ []) in
      record {
        free_count = length-set s.free n false ∙ h.free_count;
        count = length-set s.claimed n true ∙ h.count;
        frees = λ k r. unmarked s.free n k (omega (arith, inside, h.free_count)) ∙ ap (λ b. b && not (n == k)) (h.frees k r)
            ∙ no_more (is_done done k) (is_in s.members k) (n == k) ∙ ap (λ b. not (is_done done k || b)) (sym (new k));
        claimed = λ k. set_mark s.claimed n k (omega (arith, inside, h.count)) ∙ ap (λ b. b || (n == k)) (h.claimed k)
            ∙ one_more (is_in heads k) (is_done done k) (is_in s.members k) (n == k) ∙ ap (λ b. is_in heads k || (is_done done k || b)) (sym (new k));
        members = λ k t. elim (in_either s.members (n ∷ []) k t) [
          | inl old ↦ h.members k old
          | inr is ↦ elim (in_cases n k [] is) [ inl e ↦ subst (InInterval (leads next) entry header) e holds | inr none ↦ absurd (false≢true none) ]
        ];
        differ = differ_append s.members (n ∷ []) h.differ refl (λ x t. false_from_ne_true (is_in (n ∷ []) x) (λ e. elim (in_cases n x [] e) [
          | inl same ↦ false≢true (sym unclaimed ∙ subst (λ y. get_or s.claimed y false ≡ true) (sym same) (claimed_member s x h t))
          | inr none ↦ false≢true none
        ]));
        own = in_left s.members (n ∷ []) header h.own;
      }
    where
      no_more : (d m e : Bool) → (not (d || m) && not e) ≡ not (d || (m || (e || false)))
      no_more true m e = refl
      no_more false true e = refl
      no_more false false true = refl
      no_more false false false = refl

      one_more : (c d m e : Bool) → ((c || (d || m)) || e) ≡ (c || (d || (m || (e || false))))
      one_more true d m e = refl
      one_more false true m e = refl
      one_more false false true e = refl
      one_more false false false true = refl
      one_more false false false false = refl

  -- what is left where these nodes, which follow a member, join
  pub record Joined (s after : Growing) (ns : List ℕ) : Type 0 where
    pub grown : Grown after
    pub keeps : (n : ℕ) → get_or s.claimed n false ≡ true → get_or after.claimed n false ≡ true
    pub begins : (fresh : List ℕ) × (after.members ≡ s.members ++ fresh)
    pub complete : (n : ℕ) → is_in ns n ≡ true → IsComplete s.members after n

  one_joined : (s : Growing) (x n : ℕ) → Grown s → is_in s.members x ≡ true → leads next x n ≡ true → Joined s (joined sources s n) (n ∷ [])
  unfolding with_one
  one_joined s x n h member e = by_test (λ r. Joined s r (n ∷ [])) (get_or s.claimed n false || is_held s.free (get_or sources n [])) s (with_one s n)
      (λ is. record {
        grown = h;
        keeps = λ k t. t;
        begins = ([], sym (append-nil s.members));
        complete = λ k t preds. elim (in_cases n k [] t) [
          | inl same ↦ subst (λ y. get_or s.claimed y false ≡ true) same (elim (or_cases (get_or s.claimed n false) (is_held s.free (get_or sources n [])) is) [
            | inl c ↦ c
            | inr held ↦
                let some = some_passes (λ m. get_or s.free m false) (get_or sources n []) held in
                let from = (set.turned.exact some.0 n inside).0 some.1 in
                let shut = h.frees some.0 from.0 ∙ ap not (or_right (is_done done some.0) (is_in s.members some.0) (preds some.0 from.0 (subst (λ y. leads next some.0 y ≡ true) same from.1))) in
                absurd (false≢true (sym shut ∙ some.2))
          ])
          | inr none ↦ absurd (false≢true none)
        ];
      })
      (λ no.
      let parts = or_parts (get_or s.claimed n false) (is_held s.free (get_or sources n [])) no in
      let grown = grown_by_one s n h inside parts.0 (joins s x n h member e parts.0 parts.1) in
      let now : (k : ℕ) → get_or (slice_set s.claimed n true) k false ≡ (get_or s.claimed k false || (n == k)) = λ k. set_mark s.claimed n k (omega (arith, inside, h.count)) in
      record {
        grown = grown;
        keeps = λ k t. now k ∙ or_left (get_or s.claimed k false) (n == k) t;
        begins = (n ∷ [], refl);
        complete = λ k t preds. elim (in_cases n k [] t) [
          | inl same ↦ now k ∙ or_right (get_or s.claimed k false) (n == k) (eq-eqb n k same)
          | inr none ↦ absurd (false≢true none)
        ];
      })
    where
      inside : n < length next
      inside = edge_within next set.turned.within x n e

  pub all_join : (s : Growing) (x : ℕ) (ns : List ℕ) → Grown s → is_in s.members x ≡ true → ((n : ℕ) → is_in ns n ≡ true → leads next x n ≡ true) → Joined s (all_joined sources s ns) ns
  all_join s x [] h member edges = record {
    grown = h;
    keeps = λ n t. t;
    begins = ([], sym (append-nil s.members));
    complete = λ n t. absurd (false≢true t);
  }
  all_join s x (n ∷ ns) h member edges =
      let one = one_joined s x n h member (edges n (in_here n ns)) in
      let longer : (k : ℕ) → is_in s.members k ≡ true → is_in (joined sources s n).members k ≡ true = λ k t. subst (λ l. is_in l k ≡ true) (sym one.begins.1) (in_left s.members one.begins.0 k t) in
      let rest = all_join (joined sources s n) x ns one.grown (longer x member) (λ k t. edges k (in_there n k ns t)) in
      record {
        grown = rest.grown;
        keeps = λ k t. rest.keeps k (one.keeps k t);
        begins = (one.begins.0 ++ rest.begins.0, rest.begins.1 ∙ ap (λ l. l ++ rest.begins.0) one.begins.1 ∙ append_assoc s.members one.begins.0 rest.begins.0);
        complete = λ k t preds. elim (in_cases n k ns t) [
          | inl same ↦ rest.keeps k (one.complete k (subst (λ y. is_in (n ∷ []) y ≡ true) same (in_here n [])) preds)
          | inr there ↦ rest.complete k there (λ m r e. longer m (preds m r e))
        ];
      }

  pub growth_on : (s : Growing) (turn : ℕ) → Growth s turn → turn < length s.members → Growth (all_joined sources s (get_or next (get_or s.members turn 0) [])) (turn + 1)
  growth_on s turn h less =
      let x = get_or s.members turn 0 in
      let row = get_or next x [] in
      let after = all_joined sources s row in
      let k = all_join s x row h.grown (in_at s.members turn less) (λ n t. t) in
      let first : take (turn + 1) after.members ≡ take turn s.members ++ x ∷ [] =
      ap (take (turn + 1)) k.begins.1 ∙ take-append-le (turn + 1) s.members k.begins.0 (omega arith) ∙ take_more s.members turn 0 less in
      record {
        grown = k.grown;
        turn_within = omega (arith, ap length k.begins.1, length-append s.members k.begins.0);
        complete = λ n r preds.
            let passed : (m : ℕ) → IsReached (leads next) entry m → leads next m n ≡ true → (is_in (take turn s.members) m ≡ true) ⊎ (x ≡ m) = λ m to e.
            elim (in_either (take turn s.members) (x ∷ []) m (subst (λ l. is_in l m ≡ true) first (preds m to e))) [
              | inl old ↦ inl old
              | inr new ↦ elim (in_cases x m [] new) [ inl same ↦ inr same | inr none ↦ absurd (false≢true none) ]
            ] in
            elim (cases_Bool (leads next x n)) [
              | inl t ↦ k.complete n t (λ m to e. elim (passed m to e) [
                | inl old ↦ in_take turn s.members m old
                | inr same ↦ subst (λ y. is_in s.members y ≡ true) same (in_at s.members turn less)
              ])
              | inr f ↦ k.keeps n (h.complete n r (λ m to e. elim (passed m to e) [
                | inl old ↦ old
                | inr same ↦ absurd (false≢true (sym f ∙ subst (λ y. leads next y n ≡ true) (sym same) e))
              ]))
            ];
      }

  -- at the end the members are those of the interval
  pub growth_last : (s : Growing) (turn : ℕ) → Growth s turn → length s.members ≤ turn → is_in (headers_of done) header ≡ false
      → IsInterval (leads next) entry (record { header = header; members = s.members })
  growth_last s turn h past new = record { once = h.grown.differ; exact = λ n. (h.grown.members n, all_in) }
    where
      all_in : {n : ℕ} → InInterval (leads next) entry header n → is_in s.members n ≡ true
      all_in itself = h.grown.own
      all_in {n = n} (follows off r before) =
          let inside : InInterval (leads next) entry header n = follows off r before in
          let claimed = h.complete n r (λ m to e. subst (λ l. is_in l m ≡ true) (sym (take_all turn s.members past)) (all_in (before m to e))) in
          elim (or_cases (is_in heads n) (is_done done n || is_in s.members n) (sym (h.grown.claimed n) ∙ claimed)) [
            | inl head ↦ subst (λ k. is_in s.members k ≡ true) (sym (alone (leads next) entry (set.heads_are n head) inside)) h.grown.own
            | inr t ↦ elim (or_cases (is_done done n) (is_in s.members n) t) [
              | inl d ↦
                  let there = done_interval (leads next) entry done n set.exact d in
                  let same = apart (leads next) entry (set.heads_are there.0 (set.listed there.0 there.1)) (set.heads_are header is_head) there.2 inside in
                  absurd (false≢true (sym new ∙ subst (λ k. is_in (headers_of done) k ≡ true) same there.1))
              | inr k ↦ k
            ]
          ]

  -- an interval that grows begins with the header alone
  pub growth_first : (free claimed : List Bool) → length free ≡ length next → length claimed ≡ length next → header < length next
      → ((n : ℕ) → IsReached (leads next) entry n → get_or free n false ≡ not (is_done done n))
      → ((n : ℕ) → get_or claimed n false ≡ (is_in heads n || is_done done n))
      → Growth (record { free = slice_set free header false; claimed = claimed; members = header ∷ [] }) 0
  growth_first free claimed free_count count inside frees claims = record {
    grown = record {
      free_count = length-set free header false ∙ free_count;
      count = count;
      frees = λ n r. unmarked free header n (omega (arith, inside, free_count)) ∙ ap (λ b. b && not (header == n)) (frees n r) ∙ no_more (is_done done n) (header == n);
      claimed = λ n. claims n ∙ one_more (is_in heads n) (is_done done n) (header == n) (λ e. subst (λ k. is_in heads k ≡ true) (eqb-true header n e) is_head);
      members = λ n t. elim (in_cases header n [] t) [ inl e ↦ subst (InInterval (leads next) entry header) e itself | inr none ↦ absurd (false≢true none) ];
      differ = refl;
      own = in_here header [];
    };
    turn_within = omega arith;
    complete = λ n r preds. elim (cases_eq n entry) [
      | inl e ↦ claims n ∙ or_left (is_in heads n) (is_done done n) (subst (λ k. is_in heads k ≡ true) (sym e) set.begins)
      | inr o ↦
          let m = before_it (leads next) entry r o in
          absurd (false≢true (preds m.0 m.1 m.2))
    ];
  }
    where
      no_more : (d e : Bool) → (not d && not e) ≡ not (d || (e || false))
      no_more true e = refl
      no_more false true = refl
      no_more false false = refl

      one_more : (c d e : Bool) → (e ≡ true → c ≡ true) → (c || d) ≡ (c || (d || (e || false)))
      one_more true d e h = refl
      one_more false true e h = refl
      one_more false false true h = absurd (false≢true (h refl))
      one_more false false false h = refl
