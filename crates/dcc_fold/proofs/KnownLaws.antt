-- What a walk knows is what the steps of its chain leave.
use Rattle.std.proofs.Common.{◌≡◌, ℕ, zero, suc, ◌+◌, ◌<◌, ◌≤◌, Bool, true, false, ◌&&◌, ◌||◌, not, inl, inr, List, [], ◌∷◌, ◌++◌, length, get_or, Option, Some, None, refl, sym, ap, ap₂, ◌∙◌, subst, arith, true≢false, slice_get, eqb-true, eq-eqb, append_assoc, length-append}
use Rattle.std.specs.Prelude.{◌==◌, nat_le, if◌then◌else◌}
use Rattle.std.proofs.lemmas.Bool.{leb-true, le-leb, lt-leb}
use Rattle.std.specs.List.{list_all}
use Rattle.std.proofs.lemmas.List.Folds.{list_all-append}
use Rattle.dcc_ir.specs.declared.syntax.Loc.{Loc}
use Rattle.dcc_ir.specs.declared.syntax.Loc.TheVariants.{Half, Flag, Cell, Temp}
use Rattle.dcc_ir.specs.Location.{same_location}
use Rattle.dcc_ir.specs.Live.{is_among}
use Rattle.dcc_ir.specs.Tree.{Expr, Const, Get, Load, Unary, Binary, Widen, Part, Join, Choose, Address, Stmt, Set, Fetch, Store, Div, Call, Dos}
use Rattle.dcc_ir.specs.Use.{parts_of}
use Rattle.dcc_ir.proofs.PathLaws.{decided}
use Rattle.dcc_flow.specs.Marks.{location_number}
use Rattle.dcc_fold.specs.Chain.{Step, statement, edge}
use Rattle.dcc_fold.specs.Joinable.{lets_by}
use Rattle.dcc_fold.specs.Known.{Fact, Known, stamp, is_still, told_by, told, is_begun, facts_of, places_of, is_store, is_edge, is_calling, IsAfter, IsBounded, IsEmpty}
use Rattle.dcc_fold.specs.Carried.{set_by, passing, carry, carried, IsTrue}
use Rattle.dcc_fold.proofs.PassLaws.{and-swap, and-none, and-all, lets_node, lets_parts, lets-nodes, lets-none}

-- Lists.

pub placed : {X : Type 0} (xs : List X) (i : ℕ) (x : X) → slice_get xs i ≡ Some x → i < length xs
placed [] i x is = absurd (cc)
placed (y ∷ ys) zero x is = omega arith
placed (y ∷ ys) (suc i) x is = let inner = placed ys i x is in omega arith

front-get : {X : Type 0} (xs ys : List X) (i : ℕ) (x : X) → slice_get xs i ≡ Some x → slice_get (xs ++ ys) i ≡ Some x
front-get [] ys i x is = absurd (cc)
front-get (z ∷ xs) ys zero x is = is
front-get (z ∷ xs) ys (suc i) x is = front-get xs ys i x is

last-get : {X : Type 0} (xs : List X) (y : X) → slice_get (xs ++ y ∷ []) (length xs) ≡ Some y
last-get [] y = refl
last-get (x ∷ xs) y = last-get xs y

-- what is behind the first ones
back-get : {X : Type 0} (xs ys : List X) (i : ℕ) (x : X) → slice_get xs i ≡ None → slice_get (xs ++ ys) i ≡ Some x → (k : ℕ) × (slice_get ys k ≡ Some x)
back-get [] ys i x none is = (i, is)
back-get (z ∷ xs) ys zero x none is = absurd (cc)
back-get (z ∷ xs) ys (suc i) x none is = back-get xs ys i x none is

past-get : {X : Type 0} (xs : List X) → slice_get xs (length xs) ≡ None
past-get [] = refl
past-get (x ∷ xs) = past-get xs

nat-late : (now at : ℕ) → at < now → nat_le now at ≡ false
nat-late now at less = lt-leb now at less

nat-early : (n at : ℕ) → n ≤ at → nat_le n at ≡ true
nat-early n at less = le-leb n at less

-- a stamp after a step, beside the number of a fact before it
stamp-after : (b : Bool) (now old new at : ℕ) → new ≡ (if b then now else old) → at < now → nat_le new at ≡ (nat_le old at && not b)
stamp-after true now old new at is less = ap (λ n. nat_le n at) is ∙ nat-late now at less ∙ sym (and-none (nat_le old at))
stamp-after false now old new at is less = ap (λ n. nat_le n at) is ∙ sym (and-all (nat_le old at))

stamp-least : (b : Bool) (now old new bound : ℕ) → new ≡ (if b then now else old) → old ≤ now → now ≤ bound → new ≤ bound
stamp-least true now old new bound is less more = let here : new ≡ now = is in omega (arith, here, less, more)
stamp-least false now old new bound is less more = let here : new ≡ old = is in omega (arith, here, less, more)

module _ (step : Step) (known new : Known) (after : IsAfter step known new) where
  abbrev now : ℕ
  now = length known.facts

  abbrev lets : Expr → Bool
  lets e = lets_parts (places_of step) (is_store step) (is_edge step) e

  module _ (at : ℕ) (early : at < now) where
    location-still : (l : Loc) → nat_le (stamp new l) at ≡ (nat_le (stamp known l) at && not (is_among (places_of step) l))
    location-still l = stamp-after (is_among (places_of step) l) now (stamp known l) (stamp new l) at (after.stamps l) early

    stored-still : nat_le new.stored at ≡ (nat_le known.stored at && not (is_store step))
    stored-still = stamp-after (is_store step) now known.stored new.stored at after.stored early

    crossed-still : nat_le new.crossed at ≡ (nat_le known.crossed at && not (is_edge step))
    crossed-still = stamp-after (is_edge step) now known.crossed new.crossed at after.crossed early

    called-still : nat_le new.called at ≡ (nat_le known.called at && not (is_calling step))
    called-still = stamp-after (is_calling step) now known.called new.called at after.called early

    two-still : (a b : Expr) → is_still new at a ≡ (is_still known at a && lets a) → is_still new at b ≡ (is_still known at b && lets b)
        → (is_still new at a && is_still new at b) ≡ ((is_still known at a && is_still known at b) && list_all (lets_node (places_of step) (is_store step) (is_edge step)) (parts_of a ++ parts_of b))
    two-still a b one other =
        ap₂ (λ x y. x && y) one other ∙ and-swap (is_still known at a) (lets a) (is_still known at b) (lets b)
        ∙ ap (λ x. (is_still known at a && is_still known at b) && x) (sym (list_all-append (lets_node (places_of step) (is_store step) (is_edge step)) (parts_of a) (parts_of b)))

    still-after : (e : Expr) → is_still new at e ≡ (is_still known at e && lets e)
    still-after (Const width n) = refl
    still-after (Get l) = location-still l ∙ ap (λ b. nat_le (stamp known l) at && b) (sym (and-all (not (is_among (places_of step) l))))
    still-after (Load width a) =
        ap₂ (λ x y. x && y) (ap₂ (λ x y. x && y) stored-still crossed-still ∙ and-swap (nat_le known.stored at) (not (is_store step)) (nat_le known.crossed at) (not (is_edge step))) (still-after a)
        ∙ and-swap (nat_le known.stored at && nat_le known.crossed at) (not (is_store step) && not (is_edge step)) (is_still known at a) (lets a)
    still-after (Unary operator width a) = still-after a
    still-after (Binary operator width a b) = two-still a b (still-after a) (still-after b)
    still-after (Widen signed width a) = still-after a
    still-after (Part width first a) = still-after a
    still-after (Join high low) = two-still high low (still-after high) (still-after low)
    still-after (Choose test a b) =
        ap₂ (λ x y. x && y) (two-still test a (still-after test) (still-after a)) (still-after b)
        ∙ and-swap (is_still known at test && is_still known at a) (list_all (lets_node (places_of step) (is_store step) (is_edge step)) (parts_of test ++ parts_of a)) (is_still known at b) (lets b)
        ∙ ap (λ x. (is_still known at test && is_still known at a && is_still known at b) && x) (sym (list_all-append (lets_node (places_of step) (is_store step) (is_edge step)) (parts_of test ++ parts_of a) (parts_of b)))
    still-after (Address distance) = crossed-still ∙ ap (λ b. nat_le known.crossed at && b) (sym (and-all (not (is_edge step))))

    -- what holds after the step held before it, and may pass it
    holds-after : (e : Expr) → (nat_le new.called at && is_still new at e) ≡ ((nat_le known.called at && is_still known at e) && lets_by e step)
    holds-after e = elim (decided (is_calling step)) [
      | inl calls ↦
          ap (λ b. b && is_still new at e) (called-still ∙ ap (λ b. nat_le known.called at && not b) calls ∙ and-none (nat_le known.called at))
          ∙ sym (ap (λ b. (nat_le known.called at && is_still known at e) && b) (lets-none step e calls) ∙ and-none (nat_le known.called at && is_still known at e))
      | inr plain ↦
          ap₂ (λ x y. x && y) (called-still ∙ ap (λ b. nat_le known.called at && not b) plain ∙ and-all (nat_le known.called at)) (still-after e)
          ∙ regroup (nat_le known.called at) (is_still known at e) (lets e)
          ∙ ap (λ b. (nat_le known.called at && is_still known at e) && b) (sym (lets-nodes step e plain))
    ]
      where
        regroup : (a b c : Bool) → (a && (b && c)) ≡ ((a && b) && c)
        regroup true b c = refl
        regroup false b c = refl

  bounded-after : IsBounded known → IsBounded new
  bounded-after bounded =
      let more : now ≤ length new.facts = omega (arith, ap length after.facts ∙ length-append known.facts (facts_of step)) in record {
        stamps = λ l. stamp-least (is_among (places_of step) l) now (stamp known l) (stamp new l) (length new.facts) (after.stamps l) (bounded.stamps l) more;
        stored = stamp-least (is_store step) now known.stored new.stored (length new.facts) after.stored bounded.stored more;
        crossed = stamp-least (is_edge step) now known.crossed new.crossed (length new.facts) after.crossed bounded.crossed more;
        called = stamp-least (is_calling step) now known.called new.called (length new.facts) after.called bounded.called more;
      }

-- What is told of a temporary after a step.

choose-passing : (step : Step) (c : Bool) (value : Expr) → (if c && lets_by value step then Some value else None) ≡ passing step (if c then Some value else None)
choose-passing step true value = refl
choose-passing step false value = refl

same-numbers : (n t : ℕ) → (n == t) ≡ true → n ≡ t
same-numbers n t is = eqb-true n t is

module _ (step : Step) (known new : Known) (bounded : IsBounded known) (after : IsAfter step known new) (t : ℕ) where
  -- it wasn't written
  module _ (other : is_among (places_of step) (Temp t) ≡ false) where
    stamp-same : stamp new (Temp t) ≡ stamp known (Temp t)
    stamp-same = after.stamps (Temp t) ∙ ap (λ b. if b then length known.facts else stamp known (Temp t)) other

    -- a fact that the step adds is of another temporary
    no-added : (k : ℕ) (fact : Fact) → slice_get (facts_of step) k ≡ Some fact → (fact.temporary == t) ≡ false
    no-added k fact is = go step other k is
      where
        go : (s : Step) → is_among (places_of s) (Temp t) ≡ false → (j : ℕ) → slice_get (facts_of s) j ≡ Some fact → (fact.temporary == t) ≡ false
        go (statement (Set (Temp n) value)) none zero found =
            let same : record { temporary = n; value = value } ≡ fact = cc in
            elim (decided (fact.temporary == t)) [
              | inl holds ↦ absurd (true≢false (sym (ap (λ b. b || false) (eq-eqb t n (sym (eqb-true fact.temporary t holds) ∙ sym (ap (λ (f : Fact). f.temporary) same)))) ∙ none))
              | inr fails ↦ fails
            ]
        go (statement (Set (Temp n) value)) none (suc j) found = absurd (cc)
        go (statement (Set (Half r h) value)) none j found = absurd (cc)
        go (statement (Set (Flag f) value)) none j found = absurd (cc)
        go (statement (Set (Cell n h) value)) none j found = absurd (cc)
        go (statement (Fetch l width a)) none j found = absurd (cc)
        go (statement (Store width a e)) none j found = absurd (cc)
        go (statement (Div l e)) none j found = absurd (cc)
        go (statement (Call results entry arguments depth)) none j found = absurd (cc)
        go (statement (Dos number place argument)) none j found = absurd (cc)
        go edge none j found = absurd (cc)

    told-none : (at : ℕ) → slice_get known.facts at ≡ None → (found : Option Fact) → slice_get new.facts at ≡ found → told_by new t at found ≡ None
    told-none at none None is = refl
    told-none at none (Some fact) is =
        let added = back-get known.facts (facts_of step) at fact none (ap (λ fs. slice_get fs at) (sym after.facts) ∙ is) in
        ap (λ b. if b && nat_le new.called at && is_still new at fact.value then Some fact.value else None) (no-added added.0 fact added.1)

    told-some : (at : ℕ) (fact : Fact) → slice_get known.facts at ≡ Some fact → told_by new t at (Some fact) ≡ passing step (told_by known t at (Some fact))
    told-some at fact found = elim (decided (fact.temporary == t)) [
      | inl holds ↦
          ap (λ b. if b && nat_le new.called at && is_still new at fact.value then Some fact.value else None) holds
          ∙ ap (λ b. if b then Some fact.value else None) (holds-after step known new after at (placed known.facts at fact found) fact.value)
          ∙ choose-passing step (nat_le known.called at && is_still known at fact.value) fact.value
          ∙ ap (λ b. passing step (if b && nat_le known.called at && is_still known at fact.value then Some fact.value else None)) (sym holds)
      | inr fails ↦
          ap (λ b. if b && nat_le new.called at && is_still new at fact.value then Some fact.value else None) fails
          ∙ ap (λ b. passing step (if b && nat_le known.called at && is_still known at fact.value then Some fact.value else None)) (sym fails)
    ]

    told-by : (at : ℕ) (found : Option Fact) → slice_get known.facts at ≡ found → told_by new t at (slice_get new.facts at) ≡ passing step (told_by known t at found)
    told-by at None is = told-none at is (slice_get new.facts at) refl
    told-by at (Some fact) is =
        ap (told_by new t at) (ap (λ fs. slice_get fs at) after.facts ∙ front-get known.facts (facts_of step) at fact is)
        ∙ told-some at fact is

    told-left : told new t ≡ passing step (told known t)
    told-left =
        ap (λ at. told_by new t at (slice_get new.facts at)) stamp-same
        ∙ told-by (stamp known (Temp t)) (slice_get known.facts (stamp known (Temp t))) refl

  -- it was written
  module _ (writes : is_among (places_of step) (Temp t) ≡ true) where
    stamp-now : stamp new (Temp t) ≡ length known.facts
    stamp-now = after.stamps (Temp t) ∙ ap (λ b. if b then length known.facts else stamp known (Temp t)) writes

    told-now : told new t ≡ told_by new t (length known.facts) (slice_get (known.facts ++ facts_of step) (length known.facts))
    told-now = ap (λ at. told_by new t at (slice_get new.facts at)) stamp-now ∙ ap (λ fs. told_by new t (length known.facts) (slice_get fs (length known.facts))) after.facts

  still-now : IsBounded new → (at : ℕ) → ((l : Loc) → stamp new l ≤ at) → new.stored ≤ at → new.crossed ≤ at → (e : Expr) → is_still new at e ≡ true
  still-now sound at stamps stored crossed (Const width n) = refl
  still-now sound at stamps stored crossed (Get l) = nat-early (stamp new l) at (stamps l)
  still-now sound at stamps stored crossed (Load width a) =
      ap₂ (λ x y. x && y) (ap₂ (λ x y. x && y) (nat-early new.stored at stored) (nat-early new.crossed at crossed)) (still-now sound at stamps stored crossed a)
  still-now sound at stamps stored crossed (Unary operator width a) = still-now sound at stamps stored crossed a
  still-now sound at stamps stored crossed (Binary operator width a b) =
      ap₂ (λ x y. x && y) (still-now sound at stamps stored crossed a) (still-now sound at stamps stored crossed b)
  still-now sound at stamps stored crossed (Widen signed width a) = still-now sound at stamps stored crossed a
  still-now sound at stamps stored crossed (Part width first a) = still-now sound at stamps stored crossed a
  still-now sound at stamps stored crossed (Join high low) =
      ap₂ (λ x y. x && y) (still-now sound at stamps stored crossed high) (still-now sound at stamps stored crossed low)
  still-now sound at stamps stored crossed (Choose test a b) =
      ap₂ (λ x y. x && y) (ap₂ (λ x y. x && y) (still-now sound at stamps stored crossed test) (still-now sound at stamps stored crossed a)) (still-now sound at stamps stored crossed b)
  still-now sound at stamps stored crossed (Address distance) = nat-early new.crossed at crossed

-- a Set of the temporary
told-set : (n : ℕ) (value : Expr) (known new : Known) → IsBounded known → IsAfter (statement (Set (Temp n) value)) known new → (t : ℕ)
    → is_among (Temp n ∷ []) (Temp t) ≡ true → told new t ≡ Some value
told-set n value known new bounded after t writes =
    let step = statement (Set (Temp n) value) in
    let now = length known.facts in
    let least : (l : Loc) → stamp new l ≤ now = λ l. stamp-least (is_among (places_of step) l) now (stamp known l) (stamp new l) now (after.stamps l) (bounded.stamps l) (omega arith) in
    let same_called : new.called ≡ known.called = after.called in
    let same_stored : new.stored ≡ known.stored = after.stored in
    let same_crossed : new.crossed ≡ known.crossed = after.crossed in
    let called : nat_le new.called now ≡ true = nat-early new.called now (omega (arith, same_called, bounded.called)) in
    let still = still-now step known new bounded after t (bounded-after step known new after bounded) now least (omega (arith, same_stored, bounded.stored)) (omega (arith, same_crossed, bounded.crossed)) value in
    told-now step known new bounded after t writes
    ∙ ap (told_by new t now) (last-get known.facts (record { temporary = n; value = value }))
    ∙ ap (λ b. if b && nat_le new.called now && is_still new now value then Some value else None) (is-one t n writes)
    ∙ ap₂ (λ x y. if x && y then Some value else None) called still
  where
    is-one : (t n : ℕ) → is_among (Temp n ∷ []) (Temp t) ≡ true → (n == t) ≡ true
    is-one t n is = eq-eqb n t (sym (eqb-true t n (or-off (t == n) is)))
      where
        or-off : (b : Bool) → (b || false) ≡ true → b ≡ true
        or-off true is = refl
        or-off false is = is

-- what is written otherwise
told-lost : (step : Step) (known new : Known) → IsBounded known → IsAfter step known new → (t : ℕ) → is_among (places_of step) (Temp t) ≡ true → facts_of step ≡ [] → told new t ≡ None
told-lost step known new bounded after t writes none =
    told-now step known new bounded after t writes
    ∙ ap (λ fs. told_by new t (length known.facts) (slice_get (known.facts ++ fs) (length known.facts))) none
    ∙ ap (told_by new t (length known.facts)) (ap (λ fs. slice_get fs (length known.facts)) (append-none known.facts) ∙ past-get known.facts)
  where
    append-none : (xs : List Fact) → xs ++ [] ≡ xs
    append-none [] = refl
    append-none (x ∷ xs) = ap (λ ys. x ∷ ys) (append-none xs)

told-written : (step : Step) (known new : Known) → IsBounded known → IsAfter step known new → (t : ℕ) → is_among (places_of step) (Temp t) ≡ true → told new t ≡ set_by step t
told-written (statement (Set (Temp n) value)) known new bounded after t writes = told-set n value known new bounded after t writes
told-written (statement (Set (Half r h) value)) known new bounded after t writes = absurd (cc)
told-written (statement (Set (Flag f) value)) known new bounded after t writes = absurd (cc)
told-written (statement (Set (Cell n h) value)) known new bounded after t writes = absurd (cc)
told-written (statement (Fetch l width a)) known new bounded after t writes = told-lost (statement (Fetch l width a)) known new bounded after t writes refl
told-written (statement (Store width a e)) known new bounded after t writes = absurd (cc)
told-written (statement (Div l e)) known new bounded after t writes = told-lost (statement (Div l e)) known new bounded after t writes refl
told-written (statement (Call results entry arguments depth)) known new bounded after t writes = absurd (cc)
told-written (statement (Dos number place argument)) known new bounded after t writes = absurd (cc)
told-written edge known new bounded after t writes = absurd (cc)

told-after : (step : Step) (known new : Known) → IsBounded known → IsAfter step known new → (t : ℕ) → told new t ≡ carry t step (told known t)
told-after step known new bounded after t = elim (decided (is_among (places_of step) (Temp t))) [
  | inl writes ↦ told-written step known new bounded after t writes ∙ sym (ap (λ b. if b then set_by step t else passing step (told known t)) writes)
  | inr other ↦ told-left step known new bounded after t other ∙ sym (ap (λ b. if b then set_by step t else passing step (told known t)) other)
]

pub carried-more : (t : ℕ) (steps : List Step) (step : Step) (value : Option Expr) → carried t (steps ++ step ∷ []) value ≡ carry t step (carried t steps value)
carried-more t [] step value = refl
carried-more t (s ∷ steps) step value = carried-more t steps step (carry t s value)

-- one step more
pub true-after : (step : Step) (known new : Known) (steps : List Step) → IsAfter step known new → IsTrue known steps → IsTrue new (steps ++ step ∷ [])
true-after step known new steps after is = record {
  bounded = bounded-after step known new after is.bounded;
  true_of = λ t. told-after step known new is.bounded after t ∙ ap (carry t step) (is.true_of t) ∙ sym (carried-more t steps step None);
}

-- at the begin of a chain
pub begun-true : (known : Known) → IsBounded known → IsTrue (is_begun known) []
begun-true known bounded = record {
  bounded = record { stamps = bounded.stamps; stored = bounded.stored; crossed = bounded.crossed; called = omega arith };
  true_of = λ t. by t (stamp known (Temp t)) (slice_get known.facts (stamp known (Temp t))) refl;
}
  where
    by : (t at : ℕ) (found : Option Fact) → slice_get known.facts at ≡ found → told_by (is_begun known) t at found ≡ None
    by t at None is = refl
    by t at (Some fact) is =
        ap (λ b. if b && is_still (is_begun known) at fact.value then Some fact.value else None)
        (ap (λ b. (fact.temporary == t) && b) (nat-late (length known.facts) at (placed known.facts at fact is)) ∙ and-none (fact.temporary == t))

-- nothing is known at first
pub empty-bounded : (known : Known) → IsEmpty known → IsBounded known
empty-bounded known is = record {
  stamps = λ l. omega (arith, is.written (location_number l));
  stored = omega (arith, is.stored);
  crossed = omega (arith, is.crossed);
  called = omega (arith, is.called);
}
