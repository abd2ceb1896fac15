-- The search that keeps its own stack lists what a depth-first search lists.
use Rattle.std.proofs.Common.{◌≡◌, ℕ, ◌+◌, ◌-◌, ◌<◌, ◌≤◌, Bool, true, false, ◌||◌, inl, inr, List, [], ◌∷◌, ◌++◌, length, get_or, slice_set, drop, reverse, replicate, All, Some, refl, sym, ap, ◌∙◌, subst, arith}
use Rattle.std.specs.Prelude.{◌==◌, nat_lt, if◌then◌else◌}
use Rattle.std.specs.List.{sum_by}
use Rattle.std.proofs.lemmas.Bool.{cases_Bool, cases_eq, cases_lt, ltb-true, ltb-false, eq-eqb, ne_eqb}
use Rattle.std.proofs.lemmas.List.{length-set, length-replicate, get_or-replicate, get_or-set_same, get_or-set_other, get_or_past, drop_more, drop_all, append-nil, append_assoc, reverse-append}
use Rattle.std.proofs.lemmas.List.Elements.{All-nil, All-cons, All-push, All-pop, All-get_or}
use Rattle.std.proofs.lemmas.List.Sums.{sum_by-append}
use Rattle.dcc_flow.specs.Edges.{is_in, AreWithin}
use Rattle.dcc_flow.specs.Order.{IsSearched, done, again, first}
use Rattle.dcc_flow.specs.Search.{Search, visited, gone_on}
use Rattle.dcc_flow.proofs.SourceLaws.{by_test, in_append}
use Rattle.dcc_flow.proofs.Sums.{total, total_less}

reverse_push : {X : Type 0} (xs : List X) (x : X) → reverse (xs ++ x ∷ []) ≡ x ∷ reverse xs
reverse_push xs x = reverse-append xs (x ∷ [])

-- what was listed below a block, with the block before it or after it
regroup : (xs below seen : List ℕ) (t n : ℕ) → is_in (xs ++ (below ++ t ∷ seen)) n ≡ is_in ((xs ++ t ∷ below) ++ seen) n
regroup xs below seen t n =
    let left = in_append xs (below ++ t ∷ seen) n ∙ ap (λ c. is_in xs n || c) (in_append below (t ∷ seen) n) in
    let right = in_append (xs ++ t ∷ below) seen n ∙ ap (λ c. c || is_in seen n) (in_append xs (t ∷ below) n) in
    left ∙ moved (is_in xs n) (is_in below n) (t == n) (is_in seen n) ∙ sym right
  where
    moved : (X B T S : Bool) → (X || (B || (T || S))) ≡ ((X || (T || B)) || S)
    moved true B T S = refl
    moved false true true S = refl
    moved false true false S = refl
    moved false false true S = refl
    moved false false false S = refl

module _ (next : List (List ℕ)) where
  -- What is left: each block on the stack, the newest first, visits the rest of those that follow it, and is listed
  -- before all that was listed. `final` is the whole list.
  abbrev pub Rest : List ℕ → List (ℕ × ℕ) → List ℕ → List ℕ → Type 0
  Rest seen [] listed final = final ≡ listed
  Rest seen (f ∷ stack) listed final =
      (more : List ℕ) × IsSearched next seen (drop f.1 (get_or next f.0 [])) more × Rest (more ++ seen) stack (f.0 ∷ more ++ listed) final

  same_seen : {seen blocks listed : List ℕ} → IsSearched next seen blocks listed → (other : List ℕ) → ((n : ℕ) → is_in seen n ≡ is_in other n) → IsSearched next other blocks listed
  same_seen done other same = done
  same_seen (again {block = block} s r) other same = again (sym (same block) ∙ s) (same_seen r other same)
  same_seen (first {seen = seen} {below = below} {block = block} f d r) other same =
      let with_block : (n : ℕ) → is_in (block ∷ seen) n ≡ is_in (block ∷ other) n = λ n. ap (λ c. (block == n) || c) (same n) in
      first (sym (same block) ∙ f) (same_seen d (block ∷ other) with_block)
      (same_seen r (below ++ block ∷ other) (λ n. in_append below (block ∷ seen) n ∙ ap (λ c. is_in below n || c) (with_block n) ∙ sym (in_append below (block ∷ other) n)))

  same_rest : (stack : List (ℕ × ℕ)) (seen other listed final : List ℕ) → ((n : ℕ) → is_in seen n ≡ is_in other n) → Rest seen stack listed final → Rest other stack listed final
  same_rest [] seen other listed final same r = r
  same_rest (f ∷ stack) seen other listed final same r = (
    r.0,
    same_seen r.1 other same,
    same_rest stack (r.0 ++ seen) (r.0 ++ other) (f.0 ∷ r.0 ++ listed) final (λ n. in_append r.0 seen n ∙ ap (λ c. is_in r.0 n || c) (same n) ∙ sym (in_append r.0 other n)) r.2,
  )

  -- the search stands so: whatever is listed at last is what the search from block 0 lists
  pub record Stands (flags : List Bool) (begun : List (ℕ × ℕ)) (finished : List ℕ) : Type 0 where
    pub seen : List ℕ
    pub flagged : (b : ℕ) → get_or flags b false ≡ is_in seen b
    pub count : length flags ≡ length next
    pub inside : All (λ (f : ℕ × ℕ). f.0 < length next) begun
    pub leads_to : (final : List ℕ) → Rest seen (reverse begun) (reverse finished) final → IsSearched next [] (0 ∷ []) final

  abbrev pub StandsAt : Search → Type 0
  StandsAt s = Stands s.seen s.begun s.finished

  -- one more flag
  flag_more : (flags : List Bool) (seen : List ℕ) (t : ℕ) → t < length flags → ((b : ℕ) → get_or flags b false ≡ is_in seen b)
      → (b : ℕ) → get_or (slice_set flags t true) b false ≡ is_in (t ∷ seen) b
  flag_more flags seen t h all b = elim (cases_eq b t) [
    | inl e ↦
        ap (λ j. get_or (slice_set flags t true) j false) e ∙ get_or-set_same flags t true false h
        ∙ sym (ap (λ c. c || is_in seen b) (eq-eqb t b (sym e)))
    | inr o ↦
        get_or-set_other flags t b true false o ∙ all b ∙ sym (ap (λ c. c || is_in seen b) (ne_eqb t b (λ e. o (sym e))))
  ]

  visited_stands : (s : Search) (b turn t : ℕ) → turn < length (get_or next b []) → get_or (get_or next b []) turn 0 ≡ t → b < length next → t < length next
      → StandsAt (record s { begun = s.begun ++ (b, turn) ∷ [] })
      → StandsAt (visited (record s { begun = s.begun ++ (b, turn + 1) ∷ [] }) t)
  visited_stands s b turn t less is within inside h =
      let rest = drop (turn + 1) (get_or next b []) in
      let followers : drop turn (get_or next b []) ≡ t ∷ rest = drop_more (get_or next b []) turn 0 less ∙ ap (λ x. x ∷ rest) is in
      let old = reverse_push s.begun (b, turn) in
      let new = reverse_push s.begun (b, turn + 1) in
      elim (cases_Bool (get_or s.seen t false)) [
        | inl was ↦ subst StandsAt (sym (ap (λ c. if c then record s { begun = s.begun ++ (b, turn + 1) ∷ [] }
            else record s { seen = slice_set s.seen t true; begun = (s.begun ++ (b, turn + 1) ∷ []) ++ (t, 0) ∷ [] }) was)) (record {
              seen = h.seen;
              flagged = h.flagged;
              count = h.count;
              inside = moved s.begun b turn h.inside within;
              leads_to = λ final r.
                  let now = subst (λ l. Rest h.seen l (reverse s.finished) final) new r in
                  let before : Rest h.seen ((b, turn) ∷ reverse s.begun) (reverse s.finished) final =
                  (now.0, subst (λ l. IsSearched next h.seen l now.0) (sym followers) (again (sym (h.flagged t) ∙ was) now.1), now.2) in
                  h.leads_to final (subst (λ l. Rest h.seen l (reverse s.finished) final) (sym old) before);
            })
        | inr is_new ↦ subst StandsAt (sym (ap (λ c. if c then record s { begun = s.begun ++ (b, turn + 1) ∷ [] }
            else record s { seen = slice_set s.seen t true; begun = (s.begun ++ (b, turn + 1) ∷ []) ++ (t, 0) ∷ [] }) is_new)) (record {
              seen = t ∷ h.seen;
              flagged = flag_more s.seen h.seen t (omega (arith, h.count)) h.flagged;
              count = length-set s.seen t true ∙ h.count;
              inside = All-push (λ (f : ℕ × ℕ). f.0 < length next) (s.begun ++ (b, turn + 1) ∷ []) (t, 0) (moved s.begun b turn h.inside within) inside;
              leads_to = λ final r.
                  let top = reverse_push (s.begun ++ (b, turn + 1) ∷ []) (t, 0) ∙ ap (λ l. (t, 0) ∷ l) new in
                  let now = subst (λ l. Rest (t ∷ h.seen) l (reverse s.finished) final) top r in
                  let below = now.0 in
                  let on = now.2 in
                  let listed = on.0 ++ t ∷ below in
                  let search : IsSearched next h.seen (t ∷ rest) listed = first (sym (h.flagged t) ∙ is_new) now.1 on.1 in
                  let alike : (n : ℕ) → is_in (on.0 ++ (below ++ t ∷ h.seen)) n ≡ is_in (listed ++ h.seen) n = regroup on.0 below h.seen t in
                  let listed_is : on.0 ++ (t ∷ below ++ reverse s.finished) ≡ listed ++ reverse s.finished = sym (append_assoc on.0 (t ∷ below) (reverse s.finished)) in
                  let later = subst (λ l. Rest (on.0 ++ (below ++ t ∷ h.seen)) (reverse s.begun) (b ∷ l) final) listed_is on.2 in
                  let last = same_rest (reverse s.begun) (on.0 ++ (below ++ t ∷ h.seen)) (listed ++ h.seen) (b ∷ listed ++ reverse s.finished) final alike later in
                  let before : Rest h.seen ((b, turn) ∷ reverse s.begun) (reverse s.finished) final =
                  (listed, subst (λ l. IsSearched next h.seen l listed) (sym followers) search, last) in
                  h.leads_to final (subst (λ l. Rest h.seen l (reverse s.finished) final) (sym old) before);
            })
      ]
    where
      moved : (begun : List (ℕ × ℕ)) (b turn : ℕ) → All (λ (f : ℕ × ℕ). f.0 < length next) (begun ++ (b, turn) ∷ []) → b < length next
          → All (λ (f : ℕ × ℕ). f.0 < length next) (begun ++ (b, turn + 1) ∷ [])
      moved begun b turn all within = All-push (λ (f : ℕ × ℕ). f.0 < length next) begun (b, turn + 1)
          (All-pop (λ (f : ℕ × ℕ). f.0 < length next) (begun ++ (b, turn) ∷ []) begun (Some (b, turn)) refl all).0 within

  -- a block whose followers were all visited is finished
  finished_stands : (s : Search) (b turn : ℕ) → length (get_or next b []) ≤ turn → StandsAt (record s { begun = s.begun ++ (b, turn) ∷ [] }) → StandsAt (record s { finished = s.finished ++ b ∷ [] })
  finished_stands s b turn past h = record {
    seen = h.seen;
    flagged = h.flagged;
    count = h.count;
    inside = (All-pop (λ (f : ℕ × ℕ). f.0 < length next) (s.begun ++ (b, turn) ∷ []) s.begun (Some (b, turn)) refl h.inside).0;
    leads_to = λ final r.
        let now = subst (λ l. Rest h.seen (reverse s.begun) l final) (reverse_push s.finished b) r in
        let before : Rest h.seen ((b, turn) ∷ reverse s.begun) (reverse s.finished) final =
        ([], subst (λ l. IsSearched next h.seen l []) (sym (drop_all turn (get_or next b []) past)) done, now) in
        h.leads_to final (subst (λ l. Rest h.seen l (reverse s.finished) final) (sym (reverse_push s.begun (b, turn))) before);
  }

  -- a step of the search
  pub stands_on : (s : Search) (b turn : ℕ) → AreWithin next → b < length next → StandsAt (record s { begun = s.begun ++ (b, turn) ∷ [] }) → StandsAt (gone_on next s b turn)
  stands_on s b turn within inside h = by_test StandsAt (nat_lt turn (length (get_or next b [])))
      (visited (record s { begun = s.begun ++ (b, turn + 1) ∷ [] }) (get_or (get_or next b []) turn 0)) (record s { finished = s.finished ++ b ∷ [] })
      (λ t.
      let less = ltb-true turn (length (get_or next b [])) t in
      let row = All-get_or (λ r. All (λ place. place < length next) r) next b [] inside within in
      visited_stands s b turn (get_or (get_or next b []) turn 0) less refl inside (All-get_or (λ place. place < length next) (get_or next b []) turn 0 less row) h)
      (λ f. finished_stands s b turn (ltb-false turn (length (get_or next b [])) f) h)

  -- the search begins at block 0
  pub stands_first : 0 < length next → StandsAt (visited (record { seen = replicate (length next) false; begun = []; finished = [] }) 0)
  stands_first some =
      let flags = replicate (length next) false in
      let size = length-replicate {A = Bool} (length next) false in
      let dark : (b : ℕ) → get_or flags b false ≡ is_in [] b = λ b. elim (cases_lt b (length next)) [
        | inl inside ↦ get_or-replicate (length next) b false false inside
        | inr past ↦ get_or_past flags b false (omega (arith, size))
      ] in
      subst StandsAt (sym (ap (λ c. if c then record { seen = flags; begun = []; finished = [] } else record { seen = slice_set flags 0 true; begun = (0, 0) ∷ []; finished = [] }) (dark 0))) (record {
        seen = 0 ∷ [];
        flagged = flag_more flags [] 0 (omega (arith, size)) dark;
        count = length-set flags 0 true ∙ size;
        inside = All-cons (λ (f : ℕ × ℕ). f.0 < length next) (0, 0) [] some (All-nil (λ (f : ℕ × ℕ). f.0 < length next));
        leads_to = λ final r. subst (IsSearched next [] (0 ∷ [])) (sym (r.2 ∙ ap (λ l. 0 ∷ l) (append-nil r.0))) (first refl r.1 done);
      })

  -- where nothing is left, the finished blocks are the whole list
  pub stands_last : (s : Search) → s.begun ≡ [] → StandsAt s → IsSearched next [] (0 ∷ []) (reverse s.finished)
  stands_last s none h = h.leads_to (reverse s.finished) (subst (λ l. Rest h.seen (reverse l) (reverse s.finished) (reverse s.finished)) (sym none) refl)

  -- How much is left.

  frame_left : ℕ × ℕ → ℕ
  frame_left f = 1 + (length (get_or next f.0 []) - f.1)

  block_left : List Bool → ℕ → ℕ
  block_left flags b = if get_or flags b false then 0 else 2 + length (get_or next b [])

  pub left : Search → ℕ
  left s = sum_by frame_left s.begun + total (block_left s.seen) (length next)

  pub less_left : (s : Search) (b turn : ℕ) → AreWithin next → length s.seen ≡ length next → b < length next → left (gone_on next s b turn) < left (record s { begun = s.begun ++ (b, turn) ∷ [] })
  unfolding left frame_left block_left
  less_left s b turn within size inside = by_test (λ t. left t < left (record s { begun = s.begun ++ (b, turn) ∷ [] })) (nat_lt turn (length (get_or next b [])))
      (visited (record s { begun = s.begun ++ (b, turn + 1) ∷ [] }) (get_or (get_or next b []) turn 0)) (record s { finished = s.finished ++ b ∷ [] })
      (λ t.
      let less = ltb-true turn (length (get_or next b [])) t in
      let row = All-get_or (λ r. All (λ place. place < length next) r) next b [] inside within in
      visited_less s b turn (get_or (get_or next b []) turn 0) less size (All-get_or (λ place. place < length next) (get_or next b []) turn 0 less row))
      (λ f.
      let past = ltb-false turn (length (get_or next b [])) f in
      let old = sum_by-append frame_left s.begun ((b, turn) ∷ []) in
      omega (arith, old))
    where
      visited_less : (s : Search) (b turn t : ℕ) → turn < length (get_or next b []) → length s.seen ≡ length next → t < length next
          → left (visited (record s { begun = s.begun ++ (b, turn + 1) ∷ [] }) t) < left (record s { begun = s.begun ++ (b, turn) ∷ [] })
      visited_less s b turn t less size there = by_test (λ u. left u < left (record s { begun = s.begun ++ (b, turn) ∷ [] })) (get_or s.seen t false)
          (record s { begun = s.begun ++ (b, turn + 1) ∷ [] }) (record s { seen = slice_set s.seen t true; begun = (s.begun ++ (b, turn + 1) ∷ []) ++ (t, 0) ∷ [] })
          (λ was.
          let old = sum_by-append frame_left s.begun ((b, turn) ∷ []) in
          let new = sum_by-append frame_left s.begun ((b, turn + 1) ∷ []) in
          omega (arith, old, new))
          (λ is_new.
          let old = sum_by-append frame_left s.begun ((b, turn) ∷ []) in
          let new = sum_by-append frame_left s.begun ((b, turn + 1) ∷ []) in
          let newest = sum_by-append frame_left (s.begun ++ (b, turn + 1) ∷ []) ((t, 0) ∷ []) in
          let flags = total_less (block_left (slice_set s.seen t true)) (block_left s.seen) (length next) t (2 + length (get_or next t [])) there
          (let set_flag = get_or-set_same s.seen t true false (omega arith) in
          let zero_left : block_left (slice_set s.seen t true) t ≡ 0 = ap (λ c. if c then 0 else 2 + length (get_or next t [])) set_flag in
          let all_left : block_left s.seen t ≡ 2 + length (get_or next t []) = ap (λ c. if c then 0 else 2 + length (get_or next t [])) is_new in
          omega (arith, zero_left, all_left))
          (λ i below off.
          let same : block_left (slice_set s.seen t true) i ≡ block_left s.seen i = ap (λ c. if c then 0 else 2 + length (get_or next i [])) (get_or-set_other s.seen t i true false off) in
          omega (arith, same)) in
          omega (arith, old, new, newest, flags))
