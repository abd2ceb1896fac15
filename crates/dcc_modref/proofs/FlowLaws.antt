-- States flow from block to block: what a turn keeps, that it leaves less where something is new, and the block's state
-- has flowed on where nothing is.
use Rattle.std.proofs.Common.{◌≡◌, ℕ, zero, suc, ◌+◌, ◌<◌, ◌≤◌, Bool, true, false, ◌&&◌, ◌||◌, not, inl, inr, List, [], ◌∷◌, length, get_or, slice_set, refl, sym, ap, ◌∙◌, true≢false, arith}
use Rattle.std.specs.Prelude.{if◌then◌else◌, ◌⊎◌, Option, Some, None, filter, nat_lt}
use Rattle.std.proofs.lemmas.Bool.{lt-ltb, le-ltb, or_cases, or_left, or_right, and_parts}
use Rattle.dcc_ir.specs.declared.syntax.Loc.{Loc}
use Rattle.dcc_ir.specs.Location.{same_location}
use Rattle.dcc_ir.specs.Live.{is_among}
use Rattle.dcc_ir.proofs.LocationLaws.{location_same, location_itself}
use Rattle.dcc_modref.specs.States.{State, joined, is_news}
use Rattle.dcc_modref.specs.Tables.{States, IsWithin, AreOf, one_if, left_of, left_in}
use Rattle.dcc_modref.specs.Flowing.{met, is_new, flowed}
use Rattle.dcc_modref.proofs.StateLaws.{among_filter}

-- Lists of which some elements stay.

filter_shorter : (p : Loc → Bool) (xs : List Loc) → length (filter p xs) ≤ length xs
filter_shorter p [] = omega arith
filter_shorter p (x ∷ xs) = by (p x) (filter_shorter p xs)
  where
    by : (b : Bool) → length (filter p xs) ≤ length xs → length (if b then x ∷ filter p xs else filter p xs) ≤ suc (length xs)
    by true on = omega (arith, on)
    by false on = omega (arith, on)

-- all stay, or some element goes
stays_or_goes : (p : Loc → Bool) (xs : List Loc) → (filter p xs ≡ xs) ⊎ ((length (filter p xs) < length xs) × ((x : Loc) × (is_among xs x ≡ true) × (p x ≡ false)))
stays_or_goes p [] = inl refl
stays_or_goes p (x ∷ xs) = by (p x) refl (stays_or_goes p xs) (filter_shorter p xs)
  where
    by : (b : Bool) → p x ≡ b → (filter p xs ≡ xs) ⊎ ((length (filter p xs) < length xs) × ((y : Loc) × (is_among xs y ≡ true) × (p y ≡ false))) → length (filter p xs) ≤ length xs
        → ((if b then x ∷ filter p xs else filter p xs) ≡ x ∷ xs) ⊎ ((length (if b then x ∷ filter p xs else filter p xs) < suc (length xs)) × ((y : Loc) × (is_among (x ∷ xs) y ≡ true) × (p y ≡ false)))
    by true e (inl same) less = inl (ap (λ l. x ∷ l) same)
    by true e (inr gone) less = inr (let below = gone.0 in omega (arith, below), (gone.1.0, or_right (same_location gone.1.0 x) (is_among xs gone.1.0) gone.1.1, gone.1.2))
    by false e on less = inr (omega (arith, less), (x, or_left (same_location x x) (is_among xs x) (location_itself x), e))

count_less : (p q : Loc → Bool) (xs : List Loc) → ((x : Loc) → p x ≡ true → q x ≡ true) → length (filter p xs) ≤ length (filter q xs)
count_less p q [] f = omega arith
count_less p q (x ∷ xs) f = by (p x) (q x) (f x) (count_less p q xs f)
  where
    by : (a b : Bool) → (a ≡ true → b ≡ true) → length (filter p xs) ≤ length (filter q xs) → length (if a then x ∷ filter p xs else filter p xs) ≤ length (if b then x ∷ filter q xs else filter q xs)
    by true true g on = omega (arith, on)
    by true false g on = absurd (true≢false (sym (g refl)))
    by false true g on = omega (arith, on)
    by false false g on = on

count_fewer : (p q : Loc → Bool) (xs : List Loc) (l : Loc) → ((x : Loc) → p x ≡ true → q x ≡ true) → is_among xs l ≡ true → q l ≡ true → p l ≡ false
    → length (filter p xs) < length (filter q xs)
count_fewer p q [] l f among holds fails = absurd (true≢false (sym among))
count_fewer p q (x ∷ xs) l f among holds fails = elim (or_cases (same_location l x) (is_among xs l) among) [
  | inl same ↦ here (p x) (q x) (sym (ap p (location_same l x same)) ∙ fails) (sym (ap q (location_same l x same)) ∙ holds) (count_less p q xs f)
  | inr later ↦ there (p x) (q x) (f x) (count_fewer p q xs l f later holds fails)
]
  where
    here : (a b : Bool) → a ≡ false → b ≡ true → length (filter p xs) ≤ length (filter q xs) → length (if a then x ∷ filter p xs else filter p xs) < length (if b then x ∷ filter q xs else filter q xs)
    here false true e g on = omega (arith, on)
    here true b e g on = absurd (true≢false e)
    here false false e g on = absurd (true≢false (sym g))

    there : (a b : Bool) → (a ≡ true → b ≡ true) → length (filter p xs) < length (filter q xs) → length (if a then x ∷ filter p xs else filter p xs) < length (if b then x ∷ filter q xs else filter q xs)
    there true true g on = omega (arith, on)
    there true false g on = absurd (true≢false (sym (g refl)))
    there false true g on = omega (arith, on)
    there false false g on = on

-- Two states.

pub within_itself : (s : State) → IsWithin s s
within_itself s = record { written = λ e. e; lost = λ e. e; unsaved = λ word e. e }

pub within_both : (s t u : State) → IsWithin s t → IsWithin t u → IsWithin s u
within_both s t u f g = record {
  written = λ e. g.written (f.written e);
  lost = λ e. g.lost (f.lost e);
  unsaved = λ word e. g.unsaved word (f.unsaved word e);
}

not_fewer : (a b c : Bool) → (a ≡ (b && c)) → not b ≡ true → not a ≡ true
not_fewer a true c e n = absurd (true≢false (sym n))
not_fewer a false c e n = ap not e

pub within_joined : (known s : State) → IsWithin known (joined known s)
within_joined known s = record {
  written = λ e. or_left known.written s.written e;
  lost = λ e. or_left known.lost s.lost e;
  unsaved = λ word e. not_fewer (is_among (joined known s).saved word) (is_among known.saved word) (is_among s.saved word) (among_filter (is_among s.saved) known.saved word) e;
}

no_news : (b k : Bool) → (b && not k) ≡ false → ((k || b) ≡ k) × (b ≡ true → k ≡ true)
no_news true true e = (refl, λ x. refl)
no_news true false e = absurd (true≢false e)
no_news false true e = (refl, λ x. refl)
no_news false false e = (refl, λ x. x)

pub or_none : (a b : Bool) → (a || b) ≡ false → (a ≡ false) × (b ≡ false)
or_none true b e = absurd (true≢false e)
or_none false b e = (refl, e)

not_below : (m n : ℕ) → m < n → nat_lt m n ≡ false → ⊥
not_below m n less e = true≢false (sym (lt-ltb m n less) ∙ e)

-- what is no news is within, and nothing changes
pub known_same : (known s : State) → is_news known s ≡ false → (joined known s ≡ known) × IsWithin s known
known_same known s e =
    let three = or_none ((s.written && not known.written) || (s.lost && not known.lost)) (nat_lt (length (filter (is_among s.saved) known.saved)) (length known.saved)) e in
    let two = or_none (s.written && not known.written) (s.lost && not known.lost) three.0 in
    let w = no_news s.written known.written two.0 in
    let l = no_news s.lost known.lost two.1 in
    let all : filter (is_among s.saved) known.saved ≡ known.saved = whole (stays_or_goes (is_among s.saved) known.saved) three.1 in (
      same w.0 l.0 all,
      record {
        written = w.1;
        lost = l.1;
        unsaved = λ word u. not_fewer (is_among known.saved word) (is_among s.saved word) (is_among known.saved word)
            (sym (ap (λ x. is_among x word) all) ∙ among_filter (is_among s.saved) known.saved word ∙ swapped (is_among known.saved word) (is_among s.saved word)) u;
      },
    )
  where
    swapped : (a b : Bool) → (a && b) ≡ (b && a)
    swapped true true = refl
    swapped true false = refl
    swapped false true = refl
    swapped false false = refl

    whole : (filter (is_among s.saved) known.saved ≡ known.saved) ⊎ ((length (filter (is_among s.saved) known.saved) < length known.saved) × ((x : Loc) × (is_among known.saved x ≡ true) × (is_among s.saved x ≡ false)))
        → nat_lt (length (filter (is_among s.saved) known.saved)) (length known.saved) ≡ false → filter (is_among s.saved) known.saved ≡ known.saved
    whole (inl same) e = same
    whole (inr gone) e = absurd (not_below (length (filter (is_among s.saved) known.saved)) (length known.saved) gone.0 e)

    build : Bool → Bool → List Loc → State
    build w l v = record { written = w; lost = l; saved = v }

    same : {w l : Bool} {v : List Loc} → w ≡ known.written → l ≡ known.lost → v ≡ known.saved → record { written = w; lost = l; saved = v } ≡ known
    same {w} {l} {v} f g h = ap (λ x. build x l v) f ∙ ap (λ x. build known.written x v) g ∙ ap (build known.written known.lost) h

-- How much is left.

module _ (words : List Loc) where
  pub less_saved : (known s : State) (word : Loc) → is_among (joined known s).saved word ≡ true → is_among known.saved word ≡ true
  less_saved known s word e = (and_parts (is_among known.saved word) (is_among s.saved word) (sym (among_filter (is_among s.saved) known.saved word) ∙ e)).0

  less_one : (a b : Bool) → one_if (not (a || b)) ≤ one_if (not a)
  less_one true b = omega arith
  less_one false true = omega arith
  less_one false false = omega arith

  fewer_one : (a b : Bool) → (b && not a) ≡ true → one_if (not (a || b)) < one_if (not a)
  fewer_one true true e = absurd (true≢false (sym e))
  fewer_one true false e = absurd (true≢false (sym e))
  fewer_one false true e = omega arith
  fewer_one false false e = absurd (true≢false (sym e))

  left_less : (known s : State) → left_of words (Some (joined known s)) ≤ left_of words (Some known)
  left_less known s =
      let w = less_one known.written s.written in
      let l = less_one known.lost s.lost in
      let c = count_less (is_among (joined known s).saved) (is_among known.saved) words (less_saved known s) in
      omega (arith, w, l, c)

  left_fewer : (known s : State) → ((word : Loc) → is_among known.saved word ≡ true → is_among words word ≡ true) → is_news known s ≡ true
      → left_of words (Some (joined known s)) < left_of words (Some known)
  left_fewer known s of e =
      let w = less_one known.written s.written in
      let l = less_one known.lost s.lost in
      let c = count_less (is_among (joined known s).saved) (is_among known.saved) words (less_saved known s) in
      elim (or_cases ((s.written && not known.written) || (s.lost && not known.lost)) (nat_lt (length (filter (is_among s.saved) known.saved)) (length known.saved)) e) [
        | inl two ↦ elim (or_cases (s.written && not known.written) (s.lost && not known.lost) two) [
          | inl one ↦ let f = fewer_one known.written s.written one in omega (arith, f, l, c)
          | inr one ↦ let f = fewer_one known.lost s.lost one in omega (arith, w, f, c)
        ]
        | inr gone ↦ let f = some_gone (stays_or_goes (is_among s.saved) known.saved) gone in omega (arith, w, l, f)
      ]
    where
      some_gone : (filter (is_among s.saved) known.saved ≡ known.saved) ⊎ ((length (filter (is_among s.saved) known.saved) < length known.saved) × ((x : Loc) × (is_among known.saved x ≡ true) × (is_among s.saved x ≡ false)))
          → nat_lt (length (filter (is_among s.saved) known.saved)) (length known.saved) ≡ true
          → length (filter (is_among (joined known s).saved) words) < length (filter (is_among known.saved) words)
      some_gone (inl same) e = absurd (true≢false (sym e ∙ ap (λ l. nat_lt (length l) (length known.saved)) same ∙ le-ltb (length known.saved) (length known.saved) (omega arith)))
      some_gone (inr gone) e =
          let x = gone.1.0 in
          count_fewer (is_among (joined known s).saved) (is_among known.saved) words x (less_saved known s) (of x gone.1.1) gone.1.1
          (among_filter (is_among s.saved) known.saved x ∙ ap (λ b. is_among known.saved x && b) gone.1.2 ∙ none (is_among known.saved x))
        where
          none : (a : Bool) → (a && false) ≡ false
          none true = refl
          none false = refl

  shorter : (s : State) → left_of words (Some s) < left_of words None
  shorter s =
      let w = one (not s.written) in
      let l = one (not s.lost) in
      let c = filter_shorter (is_among s.saved) words in
      omega (arith, w, l, c)
    where
      one : (b : Bool) → one_if b ≤ 1
      one true = omega arith
      one false = omega arith

  -- the state of one block is replaced
  left_set : (begins : States) (b : ℕ) (x : Option State) → b < length begins → left_in words (slice_set begins b x) + left_of words (get_or begins b None) ≡ left_in words begins + left_of words x
  left_set [] b x inside = absurd (omega (arith, inside))
  left_set (y ∷ begins) zero x inside = omega arith
  left_set (y ∷ begins) (suc b) x inside = let on = left_set begins b x (omega (arith, inside)) in omega (arith, on)

  abbrev Of : States → Type 0
  Of begins = AreOf words begins

  -- the state flows to one block
  pub flowed_less : (begins : States) (b : ℕ) (s : State) → b < length begins → Of begins
      → (left_in words (flowed begins b s) ≤ left_in words begins) × (is_new (get_or begins b None) s ≡ true → left_in words (flowed begins b s) < left_in words begins)
  flowed_less begins b s inside of = by (get_or begins b None) refl (left_set begins b (met (get_or begins b None) s) inside)
    where
      by : (x : Option State) → get_or begins b None ≡ x → left_in words (slice_set begins b (met x s)) + left_of words x ≡ left_in words begins + left_of words (met x s)
          → (left_in words (slice_set begins b (met x s)) ≤ left_in words begins) × (is_new x s ≡ true → left_in words (slice_set begins b (met x s)) < left_in words begins)
      by None e sum = let less = shorter s in (omega (arith, sum, less), λ n. omega (arith, sum, less))
      by (Some known) e sum =
          let less = left_less known s in
          (omega (arith, sum, less), λ n. let fewer = left_fewer known s (λ word. of b known word e) n in omega (arith, sum, fewer))
