-- Laws of the intervals of a graph as they are found, one after another.
use Rattle.std.proofs.Common.{◌≡◌, ℕ, ◌+◌, ◌<◌, ◌≤◌, Bool, true, false, ◌&&◌, ◌||◌, not, inl, inr, List, [], ◌∷◌, ◌++◌, length, get_or, slice_set, take, All, refl, sym, ap, ◌∙◌, subst, arith}
use Rattle.std.specs.List.{list_any}
use Rattle.std.proofs.lemmas.Bool.{false≢true, or_cases, or_left, or_right, and_parts, not-true, false_from_ne_true}
use Rattle.std.proofs.lemmas.List.{length-append, length-map, length_push, map_push, get_or-take, take-append-le, take_all, take_more}
use Rattle.std.proofs.lemmas.List.Elements.{All-nil, All-head, All-tail, All-push, All-from_get_or}
use Rattle.std.proofs.lemmas.List.Folds.{list_any-append}
use Rattle.dcc_ir.specs.WellFormed.{all_differ}
use Rattle.dcc_flow.specs.Edges.{is_in, leads, AreWithin}
use Rattle.dcc_flow.proofs.Members.{in_here, in_cases}
use Rattle.dcc_interval.specs.Graphs.{IsReached}
use Rattle.dcc_interval.specs.Intervals.{InInterval, IsHeader, first, entered, Interval, headers_of, IsInterval, AreIntervals}
use Rattle.dcc_interval.specs.Noted.{Noted, with_all_noted, followers}
use Rattle.dcc_interval.specs.Reaching.{AreReached, AreTurned}
use Rattle.dcc_interval.specs.Growing.{Growing, all_joined, is_done, AreParted, IsGrown}
use Rattle.dcc_interval.proofs.IntervalLaws.{reached_within, header_reached, alone}
use Rattle.dcc_interval.proofs.NotedLaws.{or_false, Notes, notes, in_followers}
use Rattle.dcc_interval.proofs.PlaceLaws.{place_of, in_at, one_place, few}
use Rattle.dcc_interval.proofs.ReachLaws.{edge_within, reached_inside, only_noted, only}
use Rattle.dcc_interval.proofs.GrowthLaws.{done_interval, some_passes, passes_at, Setting, IsFollowed, growth_first, growth_on, growth_last}

-- in the lists of a graph's nodes all are nodes of the graph
all_within : (ns : List ℕ) (count : ℕ) → ((n : ℕ) → is_in ns n ≡ true → n < count) → All (λ n. n < count) ns
all_within ns count below = All-from_get_or (λ n. n < count) ns 0 (λ i inside. below (get_or ns i 0) (in_at ns i inside))

done_at : (edge : ℕ → ℕ → Bool) (entry : ℕ) (done : List Interval) (header m : ℕ) → All (IsInterval edge entry) done → is_in (headers_of done) header ≡ true
    → InInterval edge entry header m → is_done done m ≡ true
done_at edge entry [] header m exact t i = absurd (false≢true t)
done_at edge entry (x ∷ done) header m exact t i = elim (in_cases x.header header (headers_of done) t) [
  | inl e ↦ or_left (is_in x.members m) (is_done done m) (((All-head (IsInterval edge entry) x done exact).exact m).1 (subst (λ k. InInterval edge entry k m) (sym e) i))
  | inr r ↦ or_right (is_in x.members m) (is_done done m) (done_at edge entry done header m (All-tail (IsInterval edge entry) x done exact) r i)
]

module _ (next : List (List ℕ)) (entry : ℕ) (sources : List (List ℕ)) (graph : AreTurned next entry sources) where
  abbrev pub Parted : List Interval → List Bool → Noted → Type 0
  Parted done free heads = AreParted next entry done free heads

  pub head_inside : (done : List Interval) (free : List Bool) (heads : Noted) → Parted done free heads → (n : ℕ) → is_in heads.list n ≡ true → n < length next
  head_inside done free heads h n t = reached_inside next entry graph.within graph.inside (header_reached (leads next) entry (h.heads_are n t))

  pub few_heads : (done : List Interval) (free : List Bool) (heads : Noted) → Parted done free heads → length heads.list ≤ length next
  few_heads done free heads h = few heads.list (length next) h.differ (head_inside done free heads h)

  done_listed : (done : List Interval) (free : List Bool) (heads : Noted) → Parted done free heads → (n : ℕ) → is_in (headers_of done) n ≡ true → is_in heads.list n ≡ true
  done_listed done free heads h n t =
      let there = place_of (headers_of done) n t in
      let size = length-map done (λ (i : Interval). i.header) in
      let same : get_or heads.list there.0 0 ≡ n = at_front (length done) heads.list there.0 (omega (arith, there.1, size)) ∙ ap (λ l. get_or l there.0 0) (sym h.done_are) ∙ there.2 in
      subst (λ k. is_in heads.list k ≡ true) same (in_at heads.list there.0 (omega (arith, there.1, size, h.done_within)))
    where
      at_front : (k : ℕ) (ns : List ℕ) (i : ℕ) → i < k → get_or ns i 0 ≡ get_or (take k ns) i 0
      at_front k ns i less = sym (get_or-take k ns i 0 less)

  pub setting : (done : List Interval) (free : List Bool) (heads : Noted) → Parted done free heads → Setting next entry sources done heads.list
  setting done free heads h = record {
    turned = graph;
    begins = ap (λ l. is_in l entry) h.begins.1 ∙ in_here entry h.begins.0;
    heads_are = h.heads_are;
    listed = done_listed done free heads h;
    exact = h.exact;
    closed = λ m n d e. sym (h.claimed n) ∙ h.closed m n d e;
  }

  -- the next header has no interval yet
  header_new : (done : List Interval) (free : List Bool) (heads : Noted) → Parted done free heads → length done < length heads.list
      → is_in (headers_of done) (get_or heads.list (length done) 0) ≡ false
  header_new done free heads h less = false_from_ne_true (is_in (headers_of done) (get_or heads.list (length done) 0)) (λ t.
      let there = place_of (headers_of done) (get_or heads.list (length done) 0) t in
      let size = length-map done (λ (i : Interval). i.header) in
      let same = sym (get_or-take (length done) heads.list there.0 0 (omega (arith, there.1, size))) ∙ ap (λ l. get_or l there.0 0) (sym h.done_are) ∙ there.2 in
      let place : there.0 ≡ length done = one_place heads.list there.0 (length done) h.differ (omega (arith, there.1, size, less)) less same in
      omega (arith, place, there.1, size))

  head_listed : (done : List Interval) (heads : Noted) → length done < length heads.list → (header : ℕ) → header ≡ get_or heads.list (length done) 0 → is_in heads.list header ≡ true
  head_listed done heads less header e = subst (λ k. is_in heads.list k ≡ true) (sym e) (in_at heads.list (length done) less)

  -- the interval of a header was found, and the headers after it are noted
  parted_on : (done : List Interval) (free : List Bool) (heads : Noted) (h : Parted done free heads) (less : length done < length heads.list)
      (header : ℕ) → header ≡ get_or heads.list (length done) 0 → (s : Growing)
      → IsGrown next entry done heads.list header s
      → IsInterval (leads next) entry (record { header = header; members = s.members })
      → Parted (done ++ record { header = header; members = s.members } ∷ []) s.free
      (with_all_noted (record { marks = s.claimed; list = heads.list }) (followers next s.members))
  parted_on done free heads h less header at s g is =
      let interval : Interval = record { header = header; members = s.members } in
      let before : Noted = record { marks = s.claimed; list = heads.list } in
      let coming = followers next s.members in
      let after = with_all_noted before coming in
      let follows : (n : ℕ) → is_in coming n ≡ list_any (λ m. leads next m n) s.members = in_followers next s.members in
      let below : All (λ n. n < length s.claimed) coming = subst (λ c. All (λ n. n < c) coming) (sym g.count) (all_within coming (length next) (λ n t.
      let some = some_passes (λ m. leads next m n) s.members (sym (follows n) ∙ t) in
      edge_within next graph.within some.0 n some.2)) in
      let k : Notes before after coming = notes before coming below in
      let marked : (n : ℕ) → is_in heads.list n ≡ true → get_or s.claimed n false ≡ true = λ n t. g.claimed n ∙ or_left (is_in heads.list n) (is_done done n || is_in s.members n) t in
      let done_now : (n : ℕ) → is_done (done ++ interval ∷ []) n ≡ (is_done done n || is_in s.members n) = λ n.
      list_any-append (λ (i : Interval). is_in i.members n) done (interval ∷ []) ∙ ap (λ b. is_done done n || b) (or_false (is_in s.members n)) in
      let marks_now : (n : ℕ) → get_or after.marks n false ≡ ((is_in heads.list n || (is_done done n || is_in s.members n)) || is_in coming n) = λ n.
      k.marks n ∙ ap (λ b. b || is_in coming n) (g.claimed n) in
      record {
        free_count = g.free_count;
        count = k.count ∙ g.count;
        begins = (h.begins.0 ++ k.begins.0, k.begins.1 ∙ ap (λ l. l ++ k.begins.0) h.begins.1);
        differ = k.differ marked h.differ;
        heads_are = λ n t. elim (or_cases (is_in heads.list n) (is_in coming n && not (get_or s.claimed n false)) (sym (k.list n) ∙ t)) [
          | inl old ↦ h.heads_are n old
          | inr new ↦
              let parts = and_parts (is_in coming n) (not (get_or s.claimed n false)) new in
              let some = some_passes (λ m. leads next m n) s.members (sym (follows n) ∙ parts.0) in
              let free_n = not-true (get_or s.claimed n false) parts.1 in
              entered (h.heads_are header (head_listed done heads less header at)) ((is.exact some.0).0 some.1) some.2
              (λ i. false≢true (sym free_n ∙ (g.claimed n ∙ or_right (is_in heads.list n) (is_done done n || is_in s.members n) (or_right (is_done done n) (is_in s.members n) ((is.exact n).1 i)))))
        ];
        done_within = omega (arith, less, length_push done interval, ap length k.begins.1, length-append heads.list k.begins.0);
        done_are =
            map_push (λ (i : Interval). i.header) done interval
            ∙ ap (λ l. l ++ header ∷ []) h.done_are
            ∙ ap (λ k. take (length done) heads.list ++ k ∷ []) at
            ∙ sym (take_more heads.list (length done) 0 less)
            ∙ sym (take-append-le (length done + 1) heads.list k.begins.0 (omega (arith, less)))
            ∙ ap (take (length done + 1)) (sym k.begins.1)
            ∙ ap (λ c. take c after.list) (sym (length_push done interval));
        exact = All-push (IsInterval (leads next) entry) done interval h.exact is;
        frees = λ n r. g.frees n r ∙ ap not (sym (done_now n));
        claimed = λ n. marks_now n ∙ together (is_in heads.list n) (is_done done n || is_in s.members n) (is_in coming n)
            ∙ sym (ap (λ b. b || is_done (done ++ interval ∷ []) n) (k.list n ∙ ap (λ b. is_in heads.list n || (is_in coming n && not b)) (g.claimed n))
            ∙ ap (λ b. (is_in heads.list n || (is_in coming n && not (is_in heads.list n || (is_done done n || is_in s.members n)))) || b) (done_now n));
        closed = λ m n d e. elim (or_cases (is_done done m) (is_in s.members m) (sym (done_now m) ∙ d)) [
          | inl old ↦ k.marks n ∙ or_left (get_or s.claimed n false) (is_in coming n) (g.claimed n ∙ widen (is_in heads.list n) (is_done done n) (is_in s.members n) (sym (h.claimed n) ∙ h.closed m n old e))
          | inr new ↦ k.marks n ∙ or_right (get_or s.claimed n false) (is_in coming n) (follows n ∙ passes_at (λ x. leads next x n) s.members m new e)
        ];
      }
    where
      widen : (a b c : Bool) → (a || b) ≡ true → (a || (b || c)) ≡ true
      widen true b c e = refl
      widen false true c e = refl
      widen false false c e = absurd (false≢true e)

      together : (c x f : Bool) → ((c || x) || f) ≡ ((c || (f && not (c || x))) || x)
      together true x f = refl
      together false true true = refl
      together false true false = refl
      together false false true = refl
      together false false false = refl

  pub found_next : (done : List Interval) (free : List Bool) (heads : Noted) → Parted done free heads → length done < length heads.list
      → (header : ℕ) → header ≡ get_or heads.list (length done) 0 → (s : Growing)
      → IsGrown next entry done heads.list header s
      → IsInterval (leads next) entry (record { header = header; members = s.members })
      → (now : List Interval) → now ≡ done ++ record { header = header; members = s.members } ∷ []
      → (noted : Noted) → noted ≡ with_all_noted (record { marks = s.claimed; list = heads.list }) (followers next s.members)
      → Parted now s.free noted
  found_next done free heads h less header at s g is now now_is noted noted_is =
      subst (λ d. Parted d s.free noted) (sym now_is)
      (subst (λ n. Parted (done ++ record { header = header; members = s.members } ∷ []) s.free n) (sym noted_is) (parted_on done free heads h less header at s g is))

  -- The growth of the next header's interval.
  module _ (done : List Interval) (free : List Bool) (heads : Noted) (h : Parted done free heads) (less : length done < length heads.list)
      (header : ℕ) (at : header ≡ get_or heads.list (length done) 0) where
    abbrev Follows : Growing → ℕ → Type 0
    Follows s turn = IsFollowed next entry done heads.list header s turn

    head_reached : IsReached (leads next) entry header
    head_reached = header_reached (leads next) entry (h.heads_are header (head_listed done heads less header at))

    pub next_inside : header < length next
    next_inside = head_inside done free heads h header (head_listed done heads less header at)

    pub grow_begins : (members : List ℕ) → members ≡ header ∷ []
        → Follows (record { free = slice_set free header false; claimed = heads.marks; members = members }) 0
    grow_begins members is = subst (λ l. Follows (record { free = slice_set free header false; claimed = heads.marks; members = l }) 0) (sym is)
        (growth_first next entry sources done heads.list (setting done free heads h) header head_reached (head_listed done heads less header at)
        free heads.marks h.free_count h.count next_inside h.frees h.claimed)

    pub grow_goes_on : (s : Growing) (turn : ℕ) → Follows s turn → turn < length s.members
        → (row : List ℕ) → row ≡ get_or next (get_or s.members turn 0) [] → (after : Growing) → after ≡ all_joined sources s row → Follows after (turn + 1)
    grow_goes_on s turn f here row row_is after is = subst (λ r. Follows r (turn + 1)) (sym (is ∙ ap (all_joined sources s) row_is))
        (growth_on next entry sources done heads.list (setting done free heads h) header head_reached (head_listed done heads less header at) s turn f here)

    pub grow_inside : (s : Growing) (turn n : ℕ) → Follows s turn → is_in s.members n ≡ true → n < length next
    grow_inside s turn n f t = reached_inside next entry graph.within graph.inside (reached_within (leads next) entry head_reached (f.grown.members n t))

    pub grow_few : (s : Growing) (turn : ℕ) → Follows s turn → length s.members ≤ length next
    grow_few s turn f = few s.members (length next) f.grown.differ (λ n t. grow_inside s turn n f t)

    pub grow_ends : (s : Growing) (turn : ℕ) → Follows s turn → length s.members ≤ turn → IsInterval (leads next) entry (record { header = header; members = s.members })
    grow_ends s turn f past = growth_last next entry sources done heads.list (setting done free heads h) header head_reached (head_listed done heads less header at) s turn f past
        (subst (λ k. is_in (headers_of done) k ≡ false) (sym at) (header_new done free heads h less))

  -- at first the entry alone is a header
  pub parted_first : (found : Noted) → AreReached next entry found → (heads : Noted) → heads ≡ only_noted (length next) entry → Parted [] found.marks heads
  parted_first found are heads is =
      let one = only (length next) entry graph.inside in
      subst (λ n. Parted [] found.marks n) (sym is) (record {
        free_count = are.count;
        count = one.size;
        begins = ([], one.list);
        differ = ap all_differ one.list;
        heads_are = λ n t. elim (in_cases entry n [] (sym (ap (λ l. is_in l n) one.list) ∙ t)) [
          | inl e ↦ subst (IsHeader (leads next) entry) e first
          | inr none ↦ absurd (false≢true none)
        ];
        done_within = omega arith;
        done_are = refl;
        exact = All-nil (IsInterval (leads next) entry);
        frees = λ n r. are.listed n ∙ (are.exact n).1 r;
        claimed = λ n. one.marks n ∙ sym (or_false (is_in (entry ∷ []) n)) ∙ ap (λ l. is_in l n || false) (sym one.list);
        closed = λ m n d e. absurd (false≢true d);
      })

  -- where no header is left, these are the intervals
  pub parted_last : (done : List Interval) (free : List Bool) (heads : Noted) → Parted done free heads → length heads.list ≤ length done → AreIntervals (leads next) entry done
  parted_last done free heads h past = record {
    first = (h.begins.0, same ∙ h.begins.1);
    once = ap all_differ same ∙ h.differ;
    headers = λ n. (λ t. h.heads_are n (sym (ap (λ l. is_in l n) same) ∙ t), λ is. ap (λ l. is_in l n) same ∙ all_heads is);
    members = h.exact;
  }
    where
      same : headers_of done ≡ heads.list
      same = h.done_are ∙ take_all (length done) heads.list past

      all_heads : {n : ℕ} → IsHeader (leads next) entry n → is_in heads.list n ≡ true
      all_heads first = ap (λ l. is_in l entry) h.begins.1 ∙ in_here entry h.begins.0
      all_heads {n = n} (entered {header = k} {m = m} is i e out) =
          let listed = ap (λ l. is_in l k) same ∙ all_heads is in
          let passed = done_at (leads next) entry done k m h.exact listed i in
          elim (or_cases (is_in heads.list n) (is_done done n) (sym (h.claimed n) ∙ h.closed m n passed e)) [
            | inl t ↦ t
            | inr d ↦
                let holder = done_interval (leads next) entry done n h.exact d in
                let own = alone (leads next) entry (entered is i e out) holder.2 in
                subst (λ x. is_in heads.list x ≡ true) (sym own) (sym (ap (λ l. is_in l holder.0) same) ∙ holder.1)
          ]

-- what the code knows at first is right
pub turned_within : (next : List (List ℕ)) (entry : ℕ) (sources : List (List ℕ)) → AreTurned next entry sources → AreWithin sources
turned_within next entry sources graph = All-from_get_or (λ row. All (λ m. m < length sources) row) sources [] (λ n inside.
    all_within (get_or sources n []) (length sources) (λ m t.
    let there = reached_inside next entry graph.within graph.inside ((graph.exact m n (omega (arith, inside, graph.count))).0 t).0 in
    omega (arith, there, graph.count)))
