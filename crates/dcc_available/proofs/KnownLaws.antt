-- What a walk knows after a statement was available before it, and the statement leaves it.
use Rattle.std.proofs.Common.{◌≡◌, ℕ, zero, suc, ◌<◌, ◌≤◌, Bool, true, false, ◌&&◌, ◌||◌, not, inl, inr, List, [], ◌∷◌, ◌++◌, length, get_or, Some, refl, sym, ap, ap₂, ◌∙◌, subst, slice_get, slice_set, arith, true≢false, eqb-true, eq-eqb, ltb-true, flat_map, Contains}
use Rattle.std.specs.Prelude.{◌==◌, nat_lt, nat_le, All, if◌then◌else◌}
use Rattle.std.specs.List.{list_any}
use Rattle.std.proofs.lemmas.List.Elements.{All-nil, All-cons, All-append, All-contains}
use Rattle.std.proofs.lemmas.List.Folds.{list_any-append}
use Rattle.std.proofs.lemmas.List.Concat.{flat_map-append}
use Rattle.std.proofs.lemmas.Bool.{leb-true}
use Rattle.std.proofs.lemmas.List.{length-set, get_or-set_other, get_or-set_same}
use Rattle.dcc_ir.specs.declared.syntax.Loc.{Loc}
use Rattle.dcc_ir.specs.declared.syntax.Loc.TheVariants.{Half, Flag, Cell, Temp}
use Rattle.dcc_ir.specs.Tree.{Expr, Const, Get, Load, Unary, Binary, Widen, Part, Join, Choose, Address, Stmt, Set, Fetch, Store, Div, Call, Dos}
use Rattle.dcc_ir.specs.Run.{is_call}
use Rattle.dcc_ir.specs.Joinable.{is_load}
use Rattle.dcc_ir.specs.Use.{parts_of, got_by, reads_of, writes_of}
use Rattle.dcc_ir.proofs.FitLaws.{both}
use Rattle.dcc_ir.proofs.PathLaws.{decided}
use Rattle.dcc_ir.proofs.LocationLaws.{Contains-none, Contains-cases}
use Rattle.dcc_flow.proofs.FormedExprs.{and_both}
use Rattle.dcc_substitution.specs.Available.{loads, is_address, addresses, leaves_outside, made, left}
use Rattle.dcc_substitution.specs.Substituted.{IsSubstituteStmt}
use Rattle.dcc_available.specs.Along.{along}
use Rattle.dcc_available.specs.Known.{Fact, Stamps, Known, is_kept, is_still, IsTold, stamped, stops_loads, past}
use Rattle.dcc_available.specs.Rewritten.{IsSound, IsNoted, nothing, noted}
use Rattle.dcc_available.proofs.TreeLaws.{substitute-more, set-of}
use Rattle.dcc_available.proofs.AlongLaws.{along-one}

-- Stamps.

abbrev Apart : List Loc → Loc → Type 0
Apart written l = Contains written l → ⊥

-- a stamp that is now is of no earlier fact
now-late : (written : List ℕ) (n now at : ℕ) → n < length written → at < now → is_kept (slice_set written n now) at n ≡ true → ⊥
now-late written n now at within less kept =
    let parts = both (nat_lt n (length (slice_set written n now))) (nat_le (get_or (slice_set written n now) n 0) at) kept in
    let stamp : get_or (slice_set written n now) n 0 ≡ now = get_or-set_same written n now 0 within in
    let late : get_or (slice_set written n now) n 0 ≤ at = leb-true (get_or (slice_set written n now) n 0) at parts.1 in
    omega arith

kept-within : (written : List ℕ) (at n : ℕ) → is_kept written at n ≡ true → n < length written
kept-within written at n kept = ltb-true n (length written) (both (nat_lt n (length written)) (nat_le (get_or written n 0) at) kept).0

-- what is still kept after these were written was kept before, and is none of them
pub stamped-kept : (places : List Loc) (now : ℕ) (written : List ℕ) (at n : ℕ) → at < now → is_kept (stamped places now written) at n ≡ true → (is_kept written at n ≡ true) × Apart places (Temp n)
stamped-kept [] now written at n less kept = (kept, λ c. Contains-none (Temp n) c)
stamped-kept (Temp m ∷ places) now written at n less kept =
    let rest = stamped-kept places now (slice_set written m now) at n less kept in
    let same : length (slice_set written m now) ≡ length written = length-set written m now in
    let inside = kept-within (slice_set written m now) at n rest.0 in
    elim (decided (m == n)) [
      | inl t ↦
          let is : m ≡ n = eqb-true m n t in
          absurd (now-late written n now at (omega arith) less (subst (λ k. is_kept (slice_set written k now) at n ≡ true) is rest.0))
      | inr f ↦
          let other : n ≡ m → ⊥ = λ e. true≢false (sym (eq-eqb m n (sym e)) ∙ f) in
          let stamp : get_or (slice_set written m now) n 0 ≡ get_or written n 0 = get_or-set_other written m n now 0 other in (
            ap₂ (λ k v. nat_lt n k && nat_le v at) (sym same) (sym stamp) ∙ rest.0,
            λ c. Contains-cases (Temp m) places (Temp n) ⊥ (λ e. other (temp-same n m (sym e))) rest.1 c,
          )
    ]
  where
    temp-same : (a b : ℕ) → Temp a ≡ Temp b → a ≡ b
    temp-same a b is = cc
stamped-kept (Half r h ∷ places) now written at n less kept =
    let rest = stamped-kept places now written at n less kept in
    (rest.0, λ c. Contains-cases (Half r h) places (Temp n) ⊥ (λ e. absurd (cc)) rest.1 c)
stamped-kept (Flag f ∷ places) now written at n less kept =
    let rest = stamped-kept places now written at n less kept in
    (rest.0, λ c. Contains-cases (Flag f) places (Temp n) ⊥ (λ e. absurd (cc)) rest.1 c)
stamped-kept (Cell k h ∷ places) now written at n less kept =
    let rest = stamped-kept places now written at n less kept in
    (rest.0, λ c. Contains-cases (Cell k h) places (Temp n) ⊥ (λ e. absurd (cc)) rest.1 c)

-- What is still as it was.

-- what an expression that is still as it was after a statement tells
pub record IsLeft (stmt : Stmt) (known : Known) (at n : ℕ) (e : Expr) : Type 0 where
  pub before : is_still known.stamps at n e ≡ true
  pub reads : All (Apart (writes_of stmt)) (reads_of e)
  pub loads_none : stops_loads stmt ≡ true → loads e ≡ false
  pub addresses_none : is_call stmt ≡ true → addresses e ≡ false

earlier : (b : Bool) (now old at : ℕ) → at < now → nat_le (if b then now else old) at ≡ true → (b ≡ false) × (nat_le old at ≡ true)
earlier true now old at less late =
    let le : now ≤ at = leb-true now at late in
    absurd (omega arith)
earlier false now old at less late = (refl, late)

neither : (a b : Bool) → a ≡ false → b ≡ false → (a || b) ≡ false
neither a b e f = ap (λ c. c || b) e ∙ f

module _ (stmt : Stmt) (known : Known) (at n : ℕ) (less : at < length known.facts) where
  abbrev After : Expr → Bool
  After e = is_still (past stmt known).stamps at n e

  abbrev Left : Expr → Type 0
  Left e = IsLeft stmt known at n e

  two-reads : (xs ys : List Expr) → All (Apart (writes_of stmt)) (flat_map got_by xs) → All (Apart (writes_of stmt)) (flat_map got_by ys) → All (Apart (writes_of stmt)) (flat_map got_by (xs ++ ys))
  two-reads xs ys p q = subst (All (Apart (writes_of stmt))) (sym (flat_map-append got_by xs ys)) (All-append (Apart (writes_of stmt)) (flat_map got_by xs) (flat_map got_by ys) p q)

  some-none : (f : Expr → Bool) (xs ys : List Expr) → list_any f xs ≡ false → list_any f ys ≡ false → list_any f (xs ++ ys) ≡ false
  some-none f xs ys p q = list_any-append f xs ys ∙ neither (list_any f xs) (list_any f ys) p q

  pub still-left : (e : Expr) → After e ≡ true → Left e
  still-left (Const width k) still = record { before = refl; reads = All-nil (Apart (writes_of stmt)); loads_none = λ is. refl; addresses_none = λ is. refl }
  still-left (Get (Temp m)) still =
      let parts = both (not (m == n)) (is_kept (stamped (writes_of stmt) (length known.facts) known.stamps.written) at m) still in
      let kept = stamped-kept (writes_of stmt) (length known.facts) known.stamps.written at m less parts.1 in
      record {
        before = and_both (not (m == n)) (is_kept known.stamps.written at m) parts.0 kept.0;
        reads = All-cons (Apart (writes_of stmt)) (Temp m) [] kept.1 (All-nil (Apart (writes_of stmt)));
        loads_none = λ is. refl;
        addresses_none = λ is. refl;
      }
  still-left (Get (Half r h)) still = absurd (true≢false (sym still))
  still-left (Get (Flag f)) still = absurd (true≢false (sym still))
  still-left (Get (Cell k h)) still = absurd (true≢false (sym still))
  still-left (Load width a) still =
      let parts = both (nat_le (if stops_loads stmt then length known.facts else known.stamps.stored) at) (After a) still in
      let stored = earlier (stops_loads stmt) (length known.facts) known.stamps.stored at less parts.0 in
      let inner = still-left a parts.1 in
      record {
        before = and_both (nat_le known.stamps.stored at) (is_still known.stamps at n a) stored.1 inner.before;
        reads = inner.reads;
        loads_none = λ is. absurd (true≢false (sym is ∙ stored.0));
        addresses_none = inner.addresses_none;
      }
  still-left (Unary operator width a) still =
      let inner = still-left a still in
      record { before = inner.before; reads = inner.reads; loads_none = inner.loads_none; addresses_none = inner.addresses_none }
  still-left (Binary operator width a b) still =
      let parts = both (After a) (After b) still in
      let one = still-left a parts.0 in
      let other = still-left b parts.1 in
      record {
        before = and_both (is_still known.stamps at n a) (is_still known.stamps at n b) one.before other.before;
        reads = two-reads (parts_of a) (parts_of b) one.reads other.reads;
        loads_none = λ is. some-none is_load (parts_of a) (parts_of b) (one.loads_none is) (other.loads_none is);
        addresses_none = λ is. some-none is_address (parts_of a) (parts_of b) (one.addresses_none is) (other.addresses_none is);
      }
  still-left (Widen signed width a) still =
      let inner = still-left a still in
      record { before = inner.before; reads = inner.reads; loads_none = inner.loads_none; addresses_none = inner.addresses_none }
  still-left (Part width first a) still =
      let inner = still-left a still in
      record { before = inner.before; reads = inner.reads; loads_none = inner.loads_none; addresses_none = inner.addresses_none }
  still-left (Join a b) still =
      let parts = both (After a) (After b) still in
      let one = still-left a parts.0 in
      let other = still-left b parts.1 in
      record {
        before = and_both (is_still known.stamps at n a) (is_still known.stamps at n b) one.before other.before;
        reads = two-reads (parts_of a) (parts_of b) one.reads other.reads;
        loads_none = λ is. some-none is_load (parts_of a) (parts_of b) (one.loads_none is) (other.loads_none is);
        addresses_none = λ is. some-none is_address (parts_of a) (parts_of b) (one.addresses_none is) (other.addresses_none is);
      }
  still-left (Choose x a b) still =
      let front = both (After x && After a) (After b) still in
      let parts = both (After x) (After a) front.0 in
      let test = still-left x parts.0 in
      let one = still-left a parts.1 in
      let other = still-left b front.1 in
      record {
        before = and_both (is_still known.stamps at n x && is_still known.stamps at n a) (is_still known.stamps at n b) (and_both (is_still known.stamps at n x) (is_still known.stamps at n a) test.before one.before) other.before;
        reads = two-reads (parts_of x ++ parts_of a) (parts_of b) (two-reads (parts_of x) (parts_of a) test.reads one.reads) other.reads;
        loads_none = λ is. some-none is_load (parts_of x ++ parts_of a) (parts_of b) (some-none is_load (parts_of x) (parts_of a) (test.loads_none is) (one.loads_none is)) (other.loads_none is);
        addresses_none = λ is. some-none is_address (parts_of x ++ parts_of a) (parts_of b) (some-none is_address (parts_of x) (parts_of a) (test.addresses_none is) (one.addresses_none is)) (other.addresses_none is);
      }
  still-left (Address distance) still =
      let called = earlier (is_call stmt) (length known.facts) known.stamps.called at less still in
      record {
        before = called.1;
        reads = All-nil (Apart (writes_of stmt));
        loads_none = λ is. refl;
        addresses_none = λ is. absurd (true≢false (sym is ∙ called.0));
      }

apart-both : (n : ℕ) (xs ys : List Expr) → All (λ l. l ≡ Temp n → ⊥) (flat_map got_by xs) → All (λ l. l ≡ Temp n → ⊥) (flat_map got_by ys) → All (λ l. l ≡ Temp n → ⊥) (flat_map got_by (xs ++ ys))
apart-both n xs ys p q = subst (All (λ l. l ≡ Temp n → ⊥)) (sym (flat_map-append got_by xs ys)) (All-append (λ l. l ≡ Temp n → ⊥) (flat_map got_by xs) (flat_map got_by ys) p q)

-- the expression doesn't read the temporary that took it
pub still-apart : (stamps : Stamps) (at n : ℕ) (e : Expr) → is_still stamps at n e ≡ true → All (λ l. l ≡ Temp n → ⊥) (reads_of e)
still-apart stamps at n (Const width k) still = All-nil (λ l. l ≡ Temp n → ⊥)
still-apart stamps at n (Get (Temp m)) still =
    let parts = both (not (m == n)) (is_kept stamps.written at m) still in
    All-cons (λ l. l ≡ Temp n → ⊥) (Temp m) [] (λ is. no-other m n parts.0 (temp-same m n is)) (All-nil (λ l. l ≡ Temp n → ⊥))
  where
    temp-same : (a b : ℕ) → Temp a ≡ Temp b → a ≡ b
    temp-same a b is = cc

    no-other : (a b : ℕ) → not (a == b) ≡ true → a ≡ b → ⊥
    no-other a b other is = true≢false (sym other ∙ ap not (eq-eqb a b is))
still-apart stamps at n (Get (Half r h)) still = absurd (true≢false (sym still))
still-apart stamps at n (Get (Flag f)) still = absurd (true≢false (sym still))
still-apart stamps at n (Get (Cell k h)) still = absurd (true≢false (sym still))
still-apart stamps at n (Load width a) still = still-apart stamps at n a (both (nat_le stamps.stored at) (is_still stamps at n a) still).1
still-apart stamps at n (Unary operator width a) still = still-apart stamps at n a still
still-apart stamps at n (Binary operator width a b) still =
    let parts = both (is_still stamps at n a) (is_still stamps at n b) still in
    apart-both n (parts_of a) (parts_of b) (still-apart stamps at n a parts.0) (still-apart stamps at n b parts.1)
still-apart stamps at n (Widen signed width a) still = still-apart stamps at n a still
still-apart stamps at n (Part width first a) still = still-apart stamps at n a still
still-apart stamps at n (Join a b) still =
    let parts = both (is_still stamps at n a) (is_still stamps at n b) still in
    apart-both n (parts_of a) (parts_of b) (still-apart stamps at n a parts.0) (still-apart stamps at n b parts.1)
still-apart stamps at n (Choose x a b) still =
    let front = both (is_still stamps at n x && is_still stamps at n a) (is_still stamps at n b) still in
    let parts = both (is_still stamps at n x) (is_still stamps at n a) front.0 in
    apart-both n (parts_of x ++ parts_of a) (parts_of b) (apart-both n (parts_of x) (parts_of a) (still-apart stamps at n x parts.0) (still-apart stamps at n a parts.1)) (still-apart stamps at n b front.1)
still-apart stamps at n (Address distance) still = All-nil (λ l. l ≡ Temp n → ⊥)

-- What is told.

leaves-by : (stmt : Stmt) (e : Expr) → (stops_loads stmt ≡ true → loads e ≡ false) → (is_call stmt ≡ true → addresses e ≡ false) → leaves_outside stmt e ≡ true
leaves-by (Set l v) e no_loads no_addresses = refl
leaves-by (Fetch l width a) e no_loads no_addresses = refl
leaves-by (Store width a v) e no_loads no_addresses = ap not (no_loads refl)
leaves-by (Div l v) e no_loads no_addresses = refl
leaves-by (Call results entry arguments depth) e no_loads no_addresses = ap₂ (λ a b. not a && not b) (no_loads refl) (no_addresses refl)
leaves-by (Dos number place argument) e no_loads no_addresses = refl

pub placed : (facts : List Fact) (at : ℕ) (fact : Fact) → slice_get facts at ≡ Some fact → at < length facts
placed [] at fact found = absurd (cc)
placed (x ∷ xs) zero fact found = omega arith
placed (x ∷ xs) (suc at) fact found = let less = placed xs at fact found in omega arith

-- what is told after a statement was told before it, and is left
pub told-past : (stmt : Stmt) (known : Known) (l : Loc) (e : Expr) → IsTold (past stmt known) l e → IsTold known l e × Apart (writes_of stmt) l × All (Apart (writes_of stmt)) (reads_of e) × (leaves_outside stmt e ≡ true)
told-past stmt known l e told =
    let less = placed known.facts told.at told.fact told.noted in
    let n = told.fact.temporary in
    let stamps = stamped (writes_of stmt) (length known.facts) known.stamps.written in
    let two = both (nat_le known.begun told.at && is_kept (stamped (writes_of stmt) (length known.facts) known.stamps.written) told.at told.fact.temporary) (is_still (past stmt known).stamps told.at told.fact.temporary told.fact.value) told.holding in
    let one = both (nat_le known.begun told.at) (is_kept (stamped (writes_of stmt) (length known.facts) known.stamps.written) told.at told.fact.temporary) two.0 in
    let kept = stamped-kept (writes_of stmt) (length known.facts) known.stamps.written told.at told.fact.temporary less one.1 in
    let is_left = still-left stmt known told.at told.fact.temporary less told.fact.value two.1 in (
      record {
        at = told.at;
        fact = told.fact;
        noted = told.noted;
        place = told.place;
        value = told.value;
        holding = and_both (nat_le known.begun told.at && is_kept known.stamps.written told.at told.fact.temporary) (is_still known.stamps told.at told.fact.temporary told.fact.value)
            (and_both (nat_le known.begun told.at) (is_kept known.stamps.written told.at told.fact.temporary) one.0 kept.0) is_left.before;
      },
      subst (Apart (writes_of stmt)) (sym told.place) kept.1,
      subst (λ x. All (Apart (writes_of stmt)) (reads_of x)) (sym told.value) is_left.reads,
      subst (λ x. leaves_outside stmt x ≡ true) (sym told.value) (leaves-by stmt told.fact.value is_left.loads_none is_left.addresses_none),
    )

-- what is told after a statement is available after it
pub past-sound : (history : List Stmt) (stmt : Stmt) (known : Known) → IsSound known history → IsSound (past stmt known) (history ++ stmt ∷ [])
past-sound history stmt known sound l e told =
    let was = told-past stmt known l e told in
    along-one history stmt l e (left (sound l e was.0) was.1 was.2 was.3)

-- a fact that is noted
fact-cases : (facts : List Fact) (fact : Fact) (at : ℕ) (found : Fact) (P : Type 0) → slice_get (facts ++ fact ∷ []) at ≡ Some found → (slice_get facts at ≡ Some found → P) → (fact ≡ found → P) → P
fact-cases [] fact zero found P is old new = new (cc)
fact-cases [] fact (suc at) found P is old new = absurd (cc)
fact-cases (x ∷ xs) fact zero found P is old new = old is
fact-cases (x ∷ xs) fact (suc at) found P is old new = fact-cases xs fact at found P is old new

-- what is told once what the statement sets was noted is available after it
pub noted-sound : (history : List Stmt) (stmt new : Stmt) (known after known' : Known) → after ≡ past stmt known → IsSound known history → IsSubstituteStmt (IsTold known) stmt new → IsNoted new after known'
    → IsSound known' (history ++ stmt ∷ [])
noted-sound history stmt new known after known' is sound sub nothing = subst (λ k. IsSound k (history ++ stmt ∷ [])) (sym is) (past-sound history stmt known sound)
noted-sound history stmt new known after known' is sound sub (noted {temporary = n} {value = v}) = λ l e told.
    let fact : Fact = record { temporary = n; value = v } in
    fact-cases after.facts fact told.at told.fact (along (history ++ stmt ∷ []) l e) told.noted
    (λ found. subst (λ k. IsSound k (history ++ stmt ∷ [])) (sym is) (past-sound history stmt known sound) l e
    (record { at = told.at; fact = told.fact; noted = found; place = told.place; value = told.value; holding = told.holding }))
    (λ same.
    let place : l ≡ Temp n = told.place ∙ ap (λ (f : Fact). Temp f.temporary) (sym same) in
    let value : e ≡ v = told.value ∙ ap (λ (f : Fact). f.value) (sym same) in
    let still = both (nat_le after.begun told.at && is_kept after.stamps.written told.at told.fact.temporary) (is_still after.stamps told.at told.fact.temporary told.fact.value) told.holding in
    let here : is_still after.stamps told.at n v ≡ true = ap (λ (f : Fact). is_still after.stamps told.at f.temporary f.value) same ∙ still.1 in
    let apart = still-apart after.stamps told.at n v here in
    let was = set-of (IsTold known) stmt (Set (Temp n) v) sub (Temp n) v refl in
    subst (λ x. along (history ++ stmt ∷ []) x e) (sym place)
    (subst (along (history ++ stmt ∷ []) (Temp n)) (sym value)
    (along-one history stmt (Temp n) v
    (made was.1 (substitute-more (IsTold known) (along history) sound was.0 v was.2) (λ c. All-contains (λ x. x ≡ Temp n → ⊥) (reads_of v) (Temp n) apart c refl)))))
