-- Laws of numbers that are listed and marked as they come.
use Rattle.std.proofs.Common.{◌≡◌, ℕ, ◌+◌, ◌<◌, ◌≤◌, Bool, true, false, ◌&&◌, ◌||◌, not, inl, inr, List, [], ◌∷◌, ◌++◌, length, get_or, slice_set, drop, All, refl, sym, ap, ◌∙◌, subst}
use Rattle.std.specs.Prelude.{◌==◌}
use Rattle.std.specs.List.{list_any}
use Rattle.std.proofs.lemmas.Bool.{false≢true, cases_eq, eqb-true, eq-eqb, ne_eqb, or_right, false_from_ne_true}
use Rattle.std.proofs.lemmas.List.{append-nil, append_assoc, length-set, get_or-set_same, get_or-set_other, drop_more, drop_all}
use Rattle.std.proofs.lemmas.List.Elements.{All-head, All-tail}
use Rattle.dcc_ir.specs.WellFormed.{all_differ}
use Rattle.dcc_flow.specs.Edges.{is_in, leads}
use Rattle.dcc_flow.proofs.Members.{in_cases, differ_append}
use Rattle.dcc_flow.proofs.SourceLaws.{by_test, in_append}
use Rattle.dcc_interval.specs.Noted.{Noted, with_noted, with_all_noted, followers}

-- Tests.

pub or_false : (b : Bool) → (b || false) ≡ b
or_false true = refl
or_false false = refl

pub or_assoc : (a b c : Bool) → ((a || b) || c) ≡ (a || (b || c))
or_assoc true b c = refl
or_assoc false b c = refl

-- one test is passed wherever the other is
covers : (m e : Bool) → (e ≡ true → m ≡ true) → (m || e) ≡ m
covers true e h = refl
covers false true h = sym (h refl)
covers false false h = refl

off_where_marked : (e m : Bool) → (e ≡ true → m ≡ true) → (e && not m) ≡ false
off_where_marked true m h = ap not (h refl)
off_where_marked false m h = refl

same_where_free : (e m : Bool) → (e ≡ true → m ≡ false) → (e && not m) ≡ e
same_where_free true m h = ap not (h refl)
same_where_free false m h = refl

two_steps : (l e i m : Bool) → ((l || (e && not m)) || (i && not (m || e))) ≡ (l || ((e || i) && not m))
two_steps true e i m = refl
two_steps false true i true = off i
  where
    off : (b : Bool) → (b && false) ≡ false
    off true = refl
    off false = refl
two_steps false true i false = refl
two_steps false false i true = refl
two_steps false false i false = refl

pub set_mark : (marks : List Bool) (t n : ℕ) → t < length marks → get_or (slice_set marks t true) n false ≡ (get_or marks n false || (t == n))
set_mark marks t n inside = elim (cases_eq t n) [
  | inl e ↦ subst (λ k. get_or (slice_set marks t true) k false ≡ (get_or marks k false || (t == k))) e
      (get_or-set_same marks t true false inside ∙ sym (or_right (get_or marks t false) (t == t) (eq-eqb t t refl)))
  | inr o ↦ get_or-set_other marks t n true false (λ e. o (sym e))
      ∙ sym (ap (λ b. get_or marks n false || b) (ne_eqb t n o) ∙ or_false (get_or marks n false))
]

-- One number.

-- where a mark is known, so is that of an equal number
at_equal : (marks : List Bool) (t n : ℕ) (b : Bool) → get_or marks t false ≡ b → (t == n) ≡ true → get_or marks n false ≡ b
at_equal marks t n b is e = subst (λ k. get_or marks k false ≡ b) (eqb-true t n e) is

pub noted_count : (s : Noted) (t : ℕ) → length (with_noted s t).marks ≡ length s.marks
noted_count s t = by_test (λ (r : Noted). length r.marks ≡ length s.marks) (get_or s.marks t false) s (record { marks = slice_set s.marks t true; list = s.list ++ t ∷ [] })
    (λ is. refl) (λ no. length-set s.marks t true)

noted_marks : (s : Noted) (t n : ℕ) → t < length s.marks → get_or (with_noted s t).marks n false ≡ (get_or s.marks n false || (t == n))
noted_marks s t n inside = by_test (λ (r : Noted). get_or r.marks n false ≡ (get_or s.marks n false || (t == n))) (get_or s.marks t false) s (record { marks = slice_set s.marks t true; list = s.list ++ t ∷ [] })
    (λ is. sym (covers (get_or s.marks n false) (t == n) (at_equal s.marks t n true is)))
    (λ no. set_mark s.marks t n inside)

noted_list : (s : Noted) (t n : ℕ) → is_in (with_noted s t).list n ≡ (is_in s.list n || ((t == n) && not (get_or s.marks n false)))
noted_list s t n = by_test (λ (r : Noted). is_in r.list n ≡ (is_in s.list n || ((t == n) && not (get_or s.marks n false)))) (get_or s.marks t false) s (record { marks = slice_set s.marks t true; list = s.list ++ t ∷ [] })
    (λ is. sym (ap (λ b. is_in s.list n || b) (off_where_marked (t == n) (get_or s.marks n false) (at_equal s.marks t n true is)) ∙ or_false (is_in s.list n)))
    (λ no. in_append s.list (t ∷ []) n ∙ ap (λ b. is_in s.list n || b) (or_false (t == n) ∙ sym (same_where_free (t == n) (get_or s.marks n false) (at_equal s.marks t n false no))))

noted_begins : (s : Noted) (t : ℕ) → (fresh : List ℕ) × ((with_noted s t).list ≡ s.list ++ fresh)
noted_begins s t = by_test (λ (r : Noted). (fresh : List ℕ) × (r.list ≡ s.list ++ fresh)) (get_or s.marks t false) s (record { marks = slice_set s.marks t true; list = s.list ++ t ∷ [] })
    (λ is. ([], sym (append-nil s.list))) (λ no. (t ∷ [], refl))

-- the listed numbers are marked
abbrev pub AreMarked : Noted → Type 0
AreMarked s = (n : ℕ) → is_in s.list n ≡ true → get_or s.marks n false ≡ true

noted_marked : (s : Noted) (t : ℕ) → t < length s.marks → AreMarked s → AreMarked (with_noted s t)
noted_marked s t inside marked n h = noted_marks s t n inside ∙ cases (is_in s.list n) (get_or s.marks n false) (t == n) (marked n) (sym (noted_list s t n) ∙ h)
  where
    cases : (l m e : Bool) → (l ≡ true → m ≡ true) → (l || (e && not m)) ≡ true → (m || e) ≡ true
    cases l true e k h = refl
    cases true false e k h = absurd (false≢true (k refl))
    cases false false true k h = refl
    cases false false false k h = h

noted_differ : (s : Noted) (t : ℕ) → AreMarked s → all_differ s.list ≡ true → all_differ (with_noted s t).list ≡ true
noted_differ s t marked h = by_test (λ (r : Noted). all_differ r.list ≡ true) (get_or s.marks t false) s (record { marks = slice_set s.marks t true; list = s.list ++ t ∷ [] })
    (λ is. h)
    (λ no. differ_append s.list (t ∷ []) h refl (λ x k. false_from_ne_true (is_in (t ∷ []) x) (λ e. elim (in_cases t x [] e) [
      | inl same ↦ false≢true (sym no ∙ subst (λ y. get_or s.marks y false ≡ true) (sym same) (marked x k))
      | inr none ↦ false≢true none
    ])))

-- Many numbers.

pub all_noted_count : (s : Noted) (ns : List ℕ) → length (with_all_noted s ns).marks ≡ length s.marks
all_noted_count s [] = refl
all_noted_count s (n ∷ ns) = all_noted_count (with_noted s n) ns ∙ noted_count s n

-- what is left where these numbers are noted
pub record Notes (s after : Noted) (ns : List ℕ) : Type 0 where
  pub count : length after.marks ≡ length s.marks
  pub marks : (n : ℕ) → get_or after.marks n false ≡ (get_or s.marks n false || is_in ns n)
  pub list : (n : ℕ) → is_in after.list n ≡ (is_in s.list n || (is_in ns n && not (get_or s.marks n false)))
  pub begins : (fresh : List ℕ) × (after.list ≡ s.list ++ fresh)
  pub marked : AreMarked s → AreMarked after
  pub differ : AreMarked s → all_differ s.list ≡ true → all_differ after.list ≡ true

pub notes : (s : Noted) (ns : List ℕ) → All (λ n. n < length s.marks) ns → Notes s (with_all_noted s ns) ns
notes s [] within = record {
  count = refl;
  marks = λ n. sym (or_false (get_or s.marks n false));
  list = λ n. sym (or_false (is_in s.list n));
  begins = ([], sym (append-nil s.list));
  marked = λ m. m;
  differ = λ m h. h;
}
notes s (t ∷ ns) within =
    let inside = All-head (λ n. n < length s.marks) t ns within in
    let rest = notes (with_noted s t) ns (subst (λ c. All (λ n. n < c) ns) (sym (noted_count s t)) (All-tail (λ n. n < length s.marks) t ns within)) in
    record {
      count = rest.count ∙ noted_count s t;
      marks = λ n. rest.marks n ∙ ap (λ b. b || is_in ns n) (noted_marks s t n inside) ∙ or_assoc (get_or s.marks n false) (t == n) (is_in ns n);
      list = λ n. rest.list n
          ∙ ap (λ b. b || (is_in ns n && not (get_or (with_noted s t).marks n false))) (noted_list s t n)
          ∙ ap (λ b. (is_in s.list n || ((t == n) && not (get_or s.marks n false))) || (is_in ns n && not b)) (noted_marks s t n inside)
          ∙ two_steps (is_in s.list n) (t == n) (is_in ns n) (get_or s.marks n false);
      begins =
          let one = noted_begins s t in
          (one.0 ++ rest.begins.0, rest.begins.1 ∙ ap (λ l. l ++ rest.begins.0) one.1 ∙ append_assoc s.list one.0 rest.begins.0);
      marked = λ m. rest.marked (noted_marked s t inside m);
      differ = λ m h. rest.differ (noted_marked s t inside m) (noted_differ s t m h);
    }

pub noted_append : (s : Noted) (ms ns : List ℕ) → with_all_noted s (ms ++ ns) ≡ with_all_noted (with_all_noted s ms) ns
noted_append s [] ns = refl
noted_append s (m ∷ ms) ns = noted_append (with_noted s m) ms ns

-- the nodes that follow these
pub in_followers : (next : List (List ℕ)) (ms : List ℕ) (n : ℕ) → is_in (followers next ms) n ≡ list_any (λ m. leads next m n) ms
in_followers next [] n = refl
in_followers next (m ∷ ms) n = in_append (get_or next m []) (followers next ms) n ∙ ap (λ b. leads next m n || b) (in_followers next ms n)

-- a turn of the loop that notes the nodes that follow these
pub followers_step : (next : List (List ℕ)) (members : List ℕ) (i : ℕ) → i < length members → (s after : Noted) (row : List ℕ)
    → row ≡ get_or next (get_or members i 0) [] → after ≡ with_all_noted s row
    → with_all_noted after (followers next (drop (i + 1) members)) ≡ with_all_noted s (followers next (drop i members))
followers_step next members i less s after row row_is is =
    let rest = followers next (drop (i + 1) members) in
    ap (λ r. with_all_noted r rest) (is ∙ ap (with_all_noted s) row_is)
    ∙ sym (noted_append s (get_or next (get_or members i 0) []) rest)
    ∙ sym (ap (λ l. with_all_noted s (followers next l)) (drop_more members i 0 less))

pub followers_end : (next : List (List ℕ)) (members : List ℕ) (i : ℕ) → length members ≤ i → (s first : Noted)
    → with_all_noted s (followers next (drop i members)) ≡ with_all_noted first (followers next members)
    → s ≡ with_all_noted first (followers next members)
followers_end next members i past s first h = sym (ap (λ l. with_all_noted s (followers next l)) (drop_all i members past)) ∙ h
