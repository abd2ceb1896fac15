-- Laws of the search for the nodes that are reached, and of the edges turned round.
use Rattle.std.proofs.Common.{◌≡◌, ℕ, ◌+◌, ◌<◌, ◌≤◌, Bool, true, false, ◌&&◌, ◌||◌, not, inl, inr, List, [], ◌∷◌, ◌++◌, length, get_or, slice_set, take, drop, replicate, All, refl, sym, ap, ◌∙◌, subst, arith}
use Rattle.std.specs.Prelude.{◌==◌}
use Rattle.std.proofs.lemmas.Bool.{false≢true, cases_eq, cases_lt, eqb-true, eq-eqb, ne_eqb, or_cases, or_left, or_right, and_parts, and_from}
use Rattle.std.proofs.lemmas.List.{length-append, length-set, length-replicate, get_or-replicate, get_or_past, get_or-set_same, get_or-set_other, map-set, drop_more, take-append-le, take_all, take_more}
use Rattle.std.proofs.lemmas.List.Elements.{All-nil, All-cons, All-head, All-tail, All-get_or}
use Rattle.dcc_ir.specs.WellFormed.{all_differ}
use Rattle.std.specs.Global.{Vec}
use Rattle.dcc_flow.specs.Edges.{rows, is_in, leads, AreWithin}
use Rattle.dcc_flow.proofs.Members.{in_cases, in_either}
use Rattle.dcc_flow.proofs.RowLaws.{row_read}
use Rattle.dcc_flow.proofs.SourceLaws.{by_test, in_append}
use Rattle.dcc_interval.specs.Graphs.{IsReached, at_entry, along}
use Rattle.dcc_interval.specs.Noted.{Noted, with_noted, with_all_noted}
use Rattle.dcc_interval.specs.Reaching.{AreReached, entered, all_entered, AreSources, AreTurned}
use Rattle.dcc_interval.proofs.NotedLaws.{or_false, Notes, notes}
use Rattle.dcc_interval.proofs.PlaceLaws.{place_of, in_at, few}

-- Nodes within the graph.

pub row_within : (next : List (List ℕ)) → AreWithin next → (m : ℕ) → All (λ n. n < length next) (get_or next m [])
row_within next within m = elim (cases_lt m (length next)) [
  | inl inside ↦ All-get_or (λ row. All (λ n. n < length next) row) next m [] inside within
  | inr past ↦ subst (λ row. All (λ n. n < length next) row) (sym (get_or_past next m [] past)) (All-nil (λ n. n < length next))
]

pub edge_within : (next : List (List ℕ)) → AreWithin next → (m n : ℕ) → leads next m n ≡ true → n < length next
edge_within next within m n e =
    let place = place_of (get_or next m []) n e in
    subst (λ k. k < length next) place.2 (All-get_or (λ k. k < length next) (get_or next m []) place.0 0 place.1 (row_within next within m))

pub reached_inside : (next : List (List ℕ)) (entry : ℕ) → AreWithin next → entry < length next → {n : ℕ} → IsReached (leads next) entry n → n < length next
reached_inside next entry within inside at_entry = inside
reached_inside next entry within inside (along {m = m} {n = n} r e) = edge_within next within m n e

-- Nothing is marked at first.

pub none_marked : (count n : ℕ) → get_or (replicate count false) n false ≡ false
none_marked count n = elim (cases_lt n count) [
  | inl inside ↦ get_or-replicate count n false false inside
  | inr past ↦ get_or_past (replicate count false) n false (omega (arith, length-replicate {A = Bool} count false))
]

-- so many places, where one number is noted
abbrev pub only_noted : ℕ → ℕ → Noted
only_noted count n = with_noted (record { marks = replicate count false; list = [] }) n

-- as many are marked as are in the list, which is one
pub record IsOnly (count n : ℕ) : Type 0 where
  pub size : length (only_noted count n).marks ≡ count
  pub list : (only_noted count n).list ≡ n ∷ []
  pub marks : (k : ℕ) → get_or (only_noted count n).marks k false ≡ is_in (n ∷ []) k

pub only : (count n : ℕ) → n < count → IsOnly count n
only count n inside =
    let none : Noted = record { marks = replicate count false; list = [] } in
    let size = length-replicate {A = Bool} count false in
    let h = notes none (n ∷ []) (All-cons (λ k. k < length none.marks) n [] (omega (arith, size)) (All-nil (λ k. k < length none.marks))) in
    record {
      size = h.count ∙ size;
      list = by_test (λ (r : Noted). r.list ≡ n ∷ []) (get_or none.marks n false) none (record { marks = slice_set none.marks n true; list = [] ++ n ∷ [] })
          (λ t. absurd (false≢true (sym (none_marked count n) ∙ t))) (λ f. refl);
      marks = λ k. h.marks k ∙ ap (λ b. b || is_in (n ∷ []) k) (none_marked count k);
    }

-- So many of the listed nodes were followed. What is listed is reached, and what follows those is listed.
pub record Reaching (next : List (List ℕ)) (entry : ℕ) (s : Noted) (turn : ℕ) : Type 0 where
  pub count : length s.marks ≡ length next
  pub listed : (n : ℕ) → get_or s.marks n false ≡ is_in s.list n
  pub differ : all_differ s.list ≡ true
  pub reached : (n : ℕ) → is_in s.list n ≡ true → IsReached (leads next) entry n
  pub begins : is_in s.list entry ≡ true
  pub turn_within : turn ≤ length s.list
  pub followed : (m n : ℕ) → is_in (take turn s.list) m ≡ true → leads next m n ≡ true → is_in s.list n ≡ true

module _ (next : List (List ℕ)) (entry : ℕ) (within : AreWithin next) (inside : entry < length next) where
  pub reaching_first : Reaching next entry (only_noted (length next) entry) 0
  reaching_first =
      let one = only (length next) entry inside in
      record {
        count = one.size;
        listed = λ n. one.marks n ∙ sym (ap (λ l. is_in l n) one.list);
        differ = ap all_differ one.list;
        reached = λ n h. elim (in_cases entry n [] (sym (ap (λ l. is_in l n) one.list) ∙ h)) [
          | inl e ↦ subst (IsReached (leads next) entry) e at_entry
          | inr none ↦ absurd (false≢true none)
        ];
        begins = ap (λ l. is_in l entry) one.list ∙ or_left (entry == entry) false (eq-eqb entry entry refl);
        turn_within = omega arith;
        followed = λ m n h e. absurd (false≢true h);
      }

  pub reaching_on : (s : Noted) (turn : ℕ) → Reaching next entry s turn → turn < length s.list
      → Reaching next entry (with_all_noted s (get_or next (get_or s.list turn 0) [])) (turn + 1)
  reaching_on s turn h less =
      let node = get_or s.list turn 0 in
      let row = get_or next node [] in
      let after = with_all_noted s row in
      let k : Notes s after row = notes s row (subst (λ c. All (λ n. n < c) row) (sym h.count) (row_within next within node)) in
      let listed : (n : ℕ) → get_or after.marks n false ≡ is_in after.list n = λ n.
      k.marks n ∙ ap (λ b. b || is_in row n) (h.listed n) ∙ marks_are (is_in s.list n) (is_in row n)
      ∙ sym (k.list n ∙ ap (λ b. is_in s.list n || (is_in row n && not b)) (h.listed n)) in
      let first : take (turn + 1) after.list ≡ take turn s.list ++ node ∷ [] =
      ap (take (turn + 1)) k.begins.1 ∙ take-append-le (turn + 1) s.list k.begins.0 (omega arith) ∙ take_more s.list turn 0 less in
      record {
        count = k.count ∙ h.count;
        listed = listed;
        differ = k.differ (λ n t. h.listed n ∙ t) h.differ;
        reached = λ n t. elim (or_cases (is_in s.list n) (is_in row n && not (get_or s.marks n false)) (sym (k.list n) ∙ t)) [
          | inl old ↦ h.reached n old
          | inr new ↦ along (h.reached node (in_at s.list turn less)) (and_parts (is_in row n) (not (get_or s.marks n false)) new).0
        ];
        begins = k.list entry ∙ or_left (is_in s.list entry) (is_in row entry && not (get_or s.marks entry false)) h.begins;
        turn_within = omega (arith, ap length k.begins.1, length-append s.list k.begins.0);
        followed = λ m n t e. elim (in_either (take turn s.list) (node ∷ []) m (sym (ap (λ l. is_in l m) first) ∙ t)) [
          | inl old ↦ k.list n ∙ or_left (is_in s.list n) (is_in row n && not (get_or s.marks n false)) (h.followed m n old e)
          | inr new ↦ elim (in_cases node m [] new) [
            | inl same ↦ sym (listed n) ∙ k.marks n ∙ or_right (get_or s.marks n false) (is_in row n) (subst (λ x. leads next x n ≡ true) (sym same) e)
            | inr none ↦ absurd (false≢true none)
          ]
        ];
      }
    where
      marks_are : (l r : Bool) → (l || r) ≡ (l || (r && not l))
      marks_are true r = refl
      marks_are false true = refl
      marks_are false false = refl

  pub few_reached : (s : Noted) (turn : ℕ) → Reaching next entry s turn → length s.list ≤ length next
  few_reached s turn h = few s.list (length next) h.differ (λ n t. reached_inside next entry within inside (h.reached n t))

  pub reaching_inside : (s : Noted) (turn : ℕ) → Reaching next entry s turn → turn < length s.list → get_or s.list turn 0 < length next
  reaching_inside s turn h here = reached_inside next entry within inside (h.reached (get_or s.list turn 0) (in_at s.list turn here))

  pub reaching_last : (s : Noted) (turn : ℕ) → Reaching next entry s turn → length s.list ≤ turn → AreReached next entry s
  reaching_last s turn h past = record { count = h.count; listed = h.listed; exact = λ n. (h.reached n, all_listed) }
    where
      all_listed : {n : ℕ} → IsReached (leads next) entry n → is_in s.list n ≡ true
      all_listed at_entry = h.begins
      all_listed (along {m = m} {n = n} r e) = h.followed m n (subst (λ l. is_in l m ≡ true) (sym (take_all turn s.list past)) (all_listed r)) e

-- Edges turned round.

pub length_entered : (sources : List (List ℕ)) (from : ℕ) (tos : List ℕ) → length (entered sources from tos) ≡ length sources
length_entered sources from [] = refl
length_entered sources from (to ∷ tos) = length_entered (slice_set sources to (get_or sources to [] ++ from ∷ [])) from tos ∙ length-set sources to (get_or sources to [] ++ from ∷ [])

entered_once : (sources : List (List ℕ)) (from to m n : ℕ) → to < length sources
    → is_in (get_or (slice_set sources to (get_or sources to [] ++ from ∷ [])) n []) m ≡ (is_in (get_or sources n []) m || ((from == m) && (to == n)))
entered_once sources from to m n inside = elim (cases_eq to n) [
  | inl e ↦ subst (λ k. is_in (get_or (slice_set sources to (get_or sources to [] ++ from ∷ [])) k []) m ≡ (is_in (get_or sources k []) m || ((from == m) && (to == k)))) e
      (ap (λ l. is_in l m) (get_or-set_same sources to (get_or sources to [] ++ from ∷ []) [] inside)
      ∙ in_append (get_or sources to []) (from ∷ []) m
      ∙ ap (λ b. is_in (get_or sources to []) m || b) (or_false (from == m) ∙ sym (and_true (from == m) (to == to) (eq-eqb to to refl))))
  | inr o ↦ ap (λ l. is_in l m) (get_or-set_other sources to n (get_or sources to [] ++ from ∷ []) [] (λ e. o (sym e)))
      ∙ sym (ap (λ b. is_in (get_or sources n []) m || b) (and_false (from == m) (to == n) (ne_eqb to n o)) ∙ or_false (is_in (get_or sources n []) m))
]
  where
    and_true : (a b : Bool) → b ≡ true → (a && b) ≡ a
    and_true true b e = e
    and_true false b e = refl

    and_false : (a b : Bool) → b ≡ false → (a && b) ≡ false
    and_false true b e = e
    and_false false b e = refl

entered_are : (sources : List (List ℕ)) (from : ℕ) (tos : List ℕ) → All (λ to. to < length sources) tos → (m n : ℕ)
    → is_in (get_or (entered sources from tos) n []) m ≡ (is_in (get_or sources n []) m || ((from == m) && is_in tos n))
entered_are sources from [] within m n = sym (none (is_in (get_or sources n []) m) (from == m))
  where
    none : (a b : Bool) → (a || (b && false)) ≡ a
    none true b = refl
    none false true = refl
    none false false = refl
entered_are sources from (to ∷ tos) within m n =
    let one = get_or sources to [] ++ from ∷ [] in
    let rest = entered_are (slice_set sources to one) from tos (subst (λ c. All (λ k. k < c) tos) (sym (length-set sources to one)) (All-tail (λ k. k < length sources) to tos within)) m n in
    rest ∙ ap (λ b. b || ((from == m) && is_in tos n)) (entered_once sources from to m n (All-head (λ k. k < length sources) to tos within))
    ∙ together (is_in (get_or sources n []) m) (from == m) (to == n) (is_in tos n)
  where
    together : (s f e t : Bool) → ((s || (f && e)) || (f && t)) ≡ (s || (f && (e || t)))
    together true f e t = refl
    together false true e t = refl
    together false false e t = refl

all_entered_are : (sources next : List (List ℕ)) (froms : List ℕ) → AreWithin next → length sources ≡ length next → (m n : ℕ)
    → is_in (get_or (all_entered sources next froms) n []) m ≡ (is_in (get_or sources n []) m || (is_in froms m && leads next m n))
all_entered_are sources next [] within size m n = sym (or_false (is_in (get_or sources n []) m))
all_entered_are sources next (from ∷ froms) within size m n =
    let row = get_or next from [] in
    let rest = all_entered_are (entered sources from row) next froms within (length_entered sources from row ∙ size) m n in
    let one = entered_are sources from row (subst (λ c. All (λ k. k < c) row) (sym size) (row_within next within from)) m n in
    rest ∙ ap (λ b. b || (is_in froms m && leads next m n)) (one ∙ ap (λ b. is_in (get_or sources n []) m || b) at_from)
    ∙ together (is_in (get_or sources n []) m) (from == m) (is_in froms m) (leads next m n)
  where
    given : (f a b : Bool) → (f ≡ true → a ≡ b) → (f && a) ≡ (f && b)
    given true a b h = h refl
    given false a b h = refl

    at_from : ((from == m) && is_in (get_or next from []) n) ≡ ((from == m) && leads next m n)
    at_from = given (from == m) (is_in (get_or next from []) n) (leads next m n) (λ e. ap (λ x. leads next x n) (eqb-true from m e))

    together : (s f i l : Bool) → ((s || (f && l)) || (i && l)) ≡ (s || ((f || i) && l))
    together true f i l = refl
    together false true i true = refl
    together false true true false = refl
    together false true false false = refl
    together false false i l = refl

pub length_all_entered : (sources next : List (List ℕ)) (froms : List ℕ) → length (all_entered sources next froms) ≡ length sources
length_all_entered sources next [] = refl
length_all_entered sources next (from ∷ froms) = length_all_entered (entered sources from (get_or next from [])) next froms ∙ length_entered sources from (get_or next from [])

pub sources_are : (next : List (List ℕ)) (froms : List ℕ) → AreWithin next → AreSources next froms (all_entered (replicate (length next) []) next froms)
sources_are next froms within =
    let none = replicate (length next) [] in
    let size = length-replicate {A = List ℕ} (length next) [] in
    record {
      count = length_all_entered none next froms ∙ size;
      exact = λ m n inside. all_entered_are none next froms within size m n ∙ ap (λ l. is_in l m || (is_in froms m && leads next m n)) (get_or-replicate (length next) n [] [] inside);
    }

pub turned_are : (next : List (List ℕ)) (entry : ℕ) (found : Noted) (sources : List (List ℕ)) → AreWithin next → entry < length next
    → AreReached next entry found → AreSources next found.list sources → AreTurned next entry sources
turned_are next entry found sources within inside are turned = record {
  within = within;
  inside = inside;
  count = turned.count;
  exact = λ m n less. (
    λ t. let parts = and_parts (is_in found.list m) (leads next m n) (sym (turned.exact m n less) ∙ t) in ((are.exact m).0 parts.0, parts.1),
    λ t. turned.exact m n less ∙ and_from (is_in found.list m) (leads next m n) ((are.exact m).1 t.0) t.1,
  );
}

-- Steps of the loops.

pub enter_step : (vs : List (Vec ℕ)) (v old : Vec ℕ) (from i : ℕ) (tos : List ℕ) → i < length tos → get_or tos i 0 < length vs
    → old ≡ get_or vs (get_or tos i 0) old → v.items ≡ old.items ++ from ∷ []
    → entered (rows (slice_set vs (get_or tos i 0) v)) from (drop (i + 1) tos) ≡ entered (rows vs) from (drop i tos)
enter_step vs v old from i tos inside within read is =
    let to = get_or tos i 0 in
    ap (λ l. entered l from (drop (i + 1) tos)) (map-set (λ (w : Vec ℕ). w.items) vs to v ∙ ap (slice_set (rows vs) to) (is ∙ ap (λ l. l ++ from ∷ []) (row_read vs to old within read)))
    ∙ sym (ap (entered (rows vs) from) (drop_more tos i 0 inside))
