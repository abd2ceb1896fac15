-- What code tells to be held by names is so.
use Rattle.std.proofs.Common.{◌≡◌, ℕ, zero, suc, ◌+◌, ◌<◌, ◌≤◌, Bool, true, false, ◌&&◌, ◌||◌, inl, inr, List, [], ◌∷◌, ◌++◌, length, get_or, take, slice_get, slice_set, Option, Some, None, refl, sym, ap, ap₂, ◌∙◌, subst, true≢false, eqb-true, eq-eqb, arith, Contains, ◌⊎◌}
use Rattle.std.specs.Prelude.{if◌then◌else◌, ◌==◌}
use Rattle.std.specs.List.{list_any, list_all}
use Rattle.std.proofs.lemmas.Bool.{and_parts, and_from}
use Rattle.std.proofs.lemmas.List.Elements.{Contains-append_left, Contains-append_right, Contains-append_cases}
use Rattle.std.proofs.lemmas.Option.{slice_get_within}
use Rattle.dcc_ir.specs.declared.syntax.Loc.{Loc}
use Rattle.dcc_ir.specs.declared.syntax.Loc.TheVariants.{Half, Flag, Cell, Temp}
use Rattle.dcc_ir.specs.Tree.{Get, Stmt, Set}
use Rattle.dcc_ir.proofs.LocationLaws.{Contains-here, Contains-later, Contains-none, Contains-cases}
use Rattle.dcc_ir.proofs.ReachedLaws.{all_at}
use Rattle.dcc_copies.specs.declared.holders.Pair.{Pair}
use Rattle.dcc_copies.specs.declared.holders.Entry.{Entry}
use Rattle.dcc_copies.specs.Held.{Held, with_written, all_written, with_copied, held_after, held_after_all}
use Rattle.dcc_copies.specs.Settled.{stmt_reads, reads_are_held}
use Rattle.dcc_copies.specs.Holders.{Holders, name_by, is_of, is_own, has_entry, is_own_or_entered, with_pair, IsPlain, is_held, IsSound, IsPassed, AreRead, number_held_by, held_by, is_entry_held, Covers}
use Rattle.dcc_copies.proofs.HeldLaws.{held-next}
use Rattle.dcc_copies.proofs.LoopLaws.{written-more, taken-at}

-- Lists.

set-here : {X : Type 0} (xs : List X) (i : ℕ) (v : X) → i < length xs → slice_get (slice_set xs i v) i ≡ Some v
set-here [] i v less = absurd (omega (arith, less))
set-here (x ∷ xs) zero v less = refl
set-here (x ∷ xs) (suc i) v less = set-here xs i v (omega (arith, less))

set-other : {X : Type 0} (xs : List X) (i j : ℕ) (v : X) → (j ≡ i → ⊥) → slice_get (slice_set xs i v) j ≡ slice_get xs j
set-other [] i j v other = refl
set-other (x ∷ xs) zero zero v other = absurd (other refl)
set-other (x ∷ xs) zero (suc j) v other = refl
set-other (x ∷ xs) (suc i) zero v other = refl
set-other (x ∷ xs) (suc i) (suc j) v other = set-other xs i j v (λ e. other (ap suc e))

two-of : (a b : Bool) (P : Type 0) → (a || b) ≡ true → (a ≡ true → P) → (b ≡ true → P) → P
two-of true b P is one other = one refl
two-of false b P is one other = other is

contains-any : (ns : List ℕ) (n : ℕ) → list_any (λ m. m == n) ns ≡ true → Contains ns n
contains-any [] n any = absurd (true≢false (sym any))
contains-any (m ∷ ns) n any =
    two-of (m == n) (list_any (λ k. k == n) ns) (Contains (m ∷ ns) n) any
    (λ e. subst (λ k. Contains (m ∷ ns) k) (eqb-true m n e) (Contains-here m ns)) (λ later. Contains-later m ns n (contains-any ns n later))

or-later : (a b : Bool) → b ≡ true → (a || b) ≡ true
or-later true b is = refl
or-later false b is = is

any-contains : (ns : List ℕ) (n : ℕ) → Contains ns n → list_any (λ m. m == n) ns ≡ true
any-contains [] n c = absurd (Contains-none n c)
any-contains (m ∷ ns) n c =
    Contains-cases m ns n (list_any (λ k. k == n) (m ∷ ns) ≡ true) (λ same. ap (λ b. b || list_any (λ k. k == n) ns) (eq-eqb m n same))
    (λ later. or-later (m == n) (list_any (λ k. k == n) ns) (any-contains ns n later)) c

unequal : (a b : ℕ) → (a == b) ≡ false → a ≡ b → ⊥
unequal a b other same = true≢false (sym (eq-eqb a b same) ∙ other)

module _ (names : List ℕ) where
  abbrev name : Loc → Loc
  name = name_by names

  abbrev number : ℕ → ℕ
  number n = get_or names n n

  -- A name holds other temporaries.

  -- a temporary of that name is held where it is one of them; others are held as before
  held-there : (h : Holders) (place : ℕ) (pair : Pair) (n : ℕ) → place < length h.pairs → number n ≡ place
      → is_held names (with_pair place pair h) (Temp n) ≡ ((pair.first == n) || (pair.second == n))
  held-there h place pair n there is =
      ap (λ k. is_of (slice_get (slice_set h.pairs place pair) k) k n) is ∙ ap (λ o. is_of o place n) (set-here h.pairs place pair there)

  held-elsewhere : (h : Holders) (place : ℕ) (pair : Pair) (n : ℕ) → (number n ≡ place → ⊥)
      → is_held names (with_pair place pair h) (Temp n) ≡ is_held names h (Temp n)
  held-elsewhere h place pair n other = ap (λ o. is_of o (number n) n) (set-other h.pairs place (number n) pair other)

  -- A temporary of a name is written.

  pub plain-put : (h : Holders) (place : ℕ) (pair : Pair) → IsPlain h → IsPlain (with_pair place pair h)
  plain-put h place pair plain place' pair' found out =
      plain place' pair' (sym (set-other h.pairs place place' pair other) ∙ found)
      (λ c. out (Contains-append_left h.noted (place ∷ []) place' c))
    where
      other : place' ≡ place → ⊥
      other same = out (Contains-append_right h.noted (place ∷ []) place' (subst (λ k. Contains (place ∷ []) k) (sym same) (Contains-here place [])))

  written-sound : (h : Holders) (n : ℕ) (held : Held) → number n < length h.pairs → IsSound names h held
      → IsSound names (with_pair (number n) (record { first = n; second = n }) h) (with_written name (Temp n) held)
  written-sound h n held there sound (Half r k) is = absurd (true≢false (sym is))
  written-sound h n held there sound (Flag f) is = absurd (true≢false (sym is))
  written-sound h n held there sound (Cell c k) is = absurd (true≢false (sym is))
  written-sound h n held there sound (Temp m) is =
      by (m == n) refl (number m == number n) refl
    where
      alone : Pair
      alone = record { first = n; second = n }

      by : (b : Bool) → (m == n) ≡ b → (c : Bool) → (number m == number n) ≡ c → (if b then true else (if c then false else held (Temp m))) ≡ true
      by true same c with-name = refl
      by false other true same-name =
          let told = sym (held-there h (number n) alone m there (eqb-true (number m) (number n) same-name)) ∙ is in
          let own : m ≡ n → ⊥ = unequal m n other in
          absurd (two-of (n == m) (n == m) ⊥ told (λ e. own (sym (eqb-true n m e))) (λ e. own (sym (eqb-true n m e))))
      by false other false apart =
          sound (Temp m) (sym (held-elsewhere h (number n) alone m (unequal (number m) (number n) apart)) ∙ is)

  pub write-passed : (h h' : Holders) (n : ℕ) → number n < length h.pairs → h' ≡ with_pair (number n) (record { first = n; second = n }) h
      → IsPassed names h h' (with_written name (Temp n))
  write-passed h h' n there same =
      subst (λ (x : Holders). IsPassed names h x (with_written name (Temp n))) (sym same) (record {
        plain = plain-put h (number n) (record { first = n; second = n });
        sound = λ held sound. written-sound h n held there sound;
      })

  -- A temporary is copied to another one of its name.

  copied-sound : (h : Holders) (to from : ℕ) (held : Held) → number to ≡ number from → number from < length h.pairs
      → is_held names h (Temp from) ≡ true → IsSound names h held
      → IsSound names (with_pair (number from) (record { first = from; second = to }) h) (with_copied (Set (Temp to) (Get (Temp from))) held)
  copied-sound h to from held own there before sound (Half r k) is = absurd (true≢false (sym is))
  copied-sound h to from held own there before sound (Flag f) is = absurd (true≢false (sym is))
  copied-sound h to from held own there before sound (Cell c k) is = absurd (true≢false (sym is))
  copied-sound h to from held own there before sound (Temp m) is = by (m == to) refl (number m == number from) refl
    where
      both : Pair
      both = record { first = from; second = to }

      by : (b : Bool) → (m == to) ≡ b → (c : Bool) → (number m == number from) ≡ c → held (if b then Temp from else Temp m) ≡ true
      by true same c with-name = sound (Temp from) before
      by false other true same-name =
          let told = sym (held-there h (number from) both m there (eqb-true (number m) (number from) same-name)) ∙ is in
          two-of (from == m) (to == m) (held (Temp m) ≡ true) told
          (λ e. sound (Temp m) (subst (λ k. is_held names h (Temp k) ≡ true) (eqb-true from m e) before))
          (λ e. absurd (unequal m to other (sym (eqb-true to m e))))
      by false other false apart =
          sound (Temp m) (sym (held-elsewhere h (number from) both m (unequal (number m) (number from) apart)) ∙ is)

  pub copy-passed : (h h' : Holders) (to from : ℕ) → number to ≡ number from → number from < length h.pairs
      → is_held names h (Temp from) ≡ true → h' ≡ with_pair (number from) (record { first = from; second = to }) h
      → IsPassed names h h' (with_copied (Set (Temp to) (Get (Temp from))))
  copy-passed h h' to from own there before same =
      subst (λ (x : Holders). IsPassed names h x (with_copied (Set (Temp to) (Get (Temp from))))) (sym same) (record {
        plain = plain-put h (number from) (record { first = from; second = to });
        sound = λ held sound. copied-sound h to from held own there before sound;
      })

  -- Where a block begins.

  -- each name holds its own temporary alone
  pub plain-begins : (h : Holders) → IsPlain h → h.noted ≡ [] → IsSound names h (held_by names [])
  plain-begins h plain none (Half r k) is = absurd (true≢false (sym is))
  plain-begins h plain none (Flag f) is = absurd (true≢false (sym is))
  plain-begins h plain none (Cell c k) is = absurd (true≢false (sym is))
  plain-begins h plain none (Temp n) is = by (slice_get h.pairs (number n)) refl
    where
      by : (o : Option Pair) → slice_get h.pairs (number n) ≡ o → (number n == n) ≡ true
      by None past = sym (ap (λ o. is_of o (number n) n) past) ∙ is
      by (Some pair) found =
          let both = plain (number n) pair found (λ c. Contains-none (number n) (subst (λ l. Contains l (number n)) none c)) in
          two-of (pair.first == n) (pair.second == n) ((number n == n) ≡ true) (sym (ap (λ o. is_of o (number n) n) found) ∙ is)
          (λ e. ap (λ k. k == n) (sym both.0) ∙ e) (λ e. ap (λ k. k == n) (sym both.1) ∙ e)

  -- with one entry more
  pub entry-begins : (h : Holders) (entry : Entry) (entries : List Entry) → entry.place < length h.pairs → IsSound names h (held_by names entries)
      → IsSound names (with_pair entry.place entry.pair h) (held_by names (entry ∷ entries))
  entry-begins h entry entries there sound (Half r k) is = absurd (true≢false (sym is))
  entry-begins h entry entries there sound (Flag f) is = absurd (true≢false (sym is))
  entry-begins h entry entries there sound (Cell c k) is = absurd (true≢false (sym is))
  entry-begins h entry entries there sound (Temp n) is = by (number n == entry.place) refl
    where
      by : (b : Bool) → (number n == entry.place) ≡ b → (if b then is_of (Some entry.pair) entry.place n else held_by names entries (Temp n)) ≡ true
      by true here = sym (held-there h entry.place entry.pair n there (eqb-true (number n) entry.place here)) ∙ is
      by false other = sound (Temp n) (sym (held-elsewhere h entry.place entry.pair n (unequal (number n) entry.place other)) ∙ is)

  -- Where a block ends.

  -- a name that has no entry holds its own temporary
  own-held : (h : Holders) (n : ℕ) → IsPlain h → (Contains h.noted n → is_own h n ≡ true) → number n ≡ n → is_held names h (Temp n) ≡ true
  own-held h n plain noted own = ap (λ k. is_of (slice_get h.pairs k) k n) own ∙ by (list_any (λ m. m == n) h.noted) refl
    where
      plainly : (o : Option Pair) → slice_get h.pairs n ≡ o → (Contains h.noted n → ⊥) → is_of o n n ≡ true
      plainly None past out = eq-eqb n n refl
      plainly (Some pair) found out =
          let both = plain n pair found out in
          ap (λ b. b || (pair.second == n)) (eq-eqb pair.first n both.0)

      by : (b : Bool) → list_any (λ m. m == n) h.noted ≡ b → is_of (slice_get h.pairs n) n n ≡ true
      by true among = noted (contains-any h.noted n among)
      by false none = plainly (slice_get h.pairs n) refl (λ c. true≢false (sym (any-contains h.noted n c) ∙ none))

  covers-by : (h : Holders) (all entries : List Entry) → IsPlain h → list_all (is_own_or_entered h all) h.noted ≡ true → list_all (is_entry_held names h) entries ≡ true
      → (n : ℕ) → (number n ≡ n → has_entry all n ≡ true → has_entry entries n ≡ true) → number_held_by names entries n ≡ true → is_held names h (Temp n) ≡ true
  covers-by h all [] plain others held n left is =
      own-held h n plain (λ c. two-of (is_own h n) (has_entry all n) (is_own h n ≡ true) (all_at (is_own_or_entered h all) h.noted n others c) (λ e. e) (λ e. absurd (true≢false (sym (left own e)))))
      own
    where
      own : number n ≡ n
      own = eqb-true (number n) n is
  covers-by h all (entry ∷ entries) plain others held n left is =
      let parts = and_parts (is_entry_held names h entry) (list_all (is_entry_held names h) entries) held in
      by (number n == entry.place) refl parts.0 (λ other.
      covers-by h all entries plain others parts.1 n (later other)
      (sym (ap (λ b. if b then is_of (Some entry.pair) entry.place n else number_held_by names entries n) other) ∙ is))
    where
      later : (number n == entry.place) ≡ false → number n ≡ n → has_entry all n ≡ true → has_entry entries n ≡ true
      later other own e =
          two-of (entry.place == n) (has_entry entries n) (has_entry entries n ≡ true) (left own e)
          (λ at. absurd (unequal (number n) entry.place other (own ∙ sym (eqb-true entry.place n at)))) (λ f. f)

      by : (b : Bool) → (number n == entry.place) ≡ b → is_entry_held names h entry ≡ true
          → ((number n == entry.place) ≡ false → is_held names h (Temp n) ≡ true) → is_held names h (Temp n) ≡ true
      by true same held-entry others =
          let here = and_parts (is_held names h (Temp entry.pair.first)) (is_held names h (Temp entry.pair.second)) held-entry in
          two-of (entry.pair.first == n) (entry.pair.second == n) (is_held names h (Temp n) ≡ true)
          (sym (ap (λ b. if b then is_of (Some entry.pair) entry.place n else number_held_by names entries n) same) ∙ is)
          (λ e. subst (λ k. is_held names h (Temp k) ≡ true) (eqb-true entry.pair.first n e) here.0)
          (λ e. subst (λ k. is_held names h (Temp k) ≡ true) (eqb-true entry.pair.second n e) here.1)
      by false other held-entry others = others other

  pub covers : (h : Holders) (entries : List Entry) → IsPlain h → list_all (is_own_or_entered h entries) h.noted ≡ true
      → list_all (is_entry_held names h) entries ≡ true → Covers names h entries
  covers h entries plain others held (Temp n) is = covers-by h entries entries plain others held n (λ own e. e) is
  covers h entries plain others held (Half r k) is = absurd (true≢false (sym is))
  covers h entries plain others held (Flag f) is = absurd (true≢false (sym is))
  covers h entries plain others held (Cell c k) is = absurd (true≢false (sym is))

-- What is plain.

-- a name holds its own temporary alone again
pub cleared : (pairs : List Pair) (noted fewer : List ℕ) (place : ℕ) → noted ≡ fewer ++ place ∷ [] → place < length pairs
    → IsPlain (record { pairs = pairs; noted = noted })
    → IsPlain (record { pairs = slice_set pairs place (record { first = place; second = place }); noted = fewer })
cleared pairs noted fewer place is there plain place' pair found out = by (place' == place) refl
  where
    alone : Pair
    alone = record { first = place; second = place }

    some-pair : (a b : Pair) → Some a ≡ Some b → a ≡ b
    some-pair a b same = cc

    by : (b : Bool) → (place' == place) ≡ b → (pair.first ≡ place') × (pair.second ≡ place')
    by true same =
        let here : place' ≡ place = eqb-true place' place same in
        let it : alone ≡ pair = some-pair alone pair (sym (set-here pairs place alone there) ∙ ap (slice_get (slice_set pairs place alone)) (sym here) ∙ found) in
        (sym (ap (λ (p : Pair). p.first) it) ∙ sym here, sym (ap (λ (p : Pair). p.second) it) ∙ sym here)
    by false other =
        plain place' pair (sym (set-other pairs place place' alone (unequal place' place other)) ∙ found)
        (λ c. elim (Contains-append_cases fewer (place ∷ []) place' (subst (λ l. Contains l place') is c)) [
          | inl among ↦ out among
          | inr last ↦ Contains-cases place [] place' ⊥ (λ e. unequal place' place other (sym e)) (λ none. Contains-none place' none) last
        ])

-- one that there isn't is noted no more
pub forgotten : (pairs : List Pair) (noted fewer : List ℕ) (place : ℕ) → noted ≡ fewer ++ place ∷ [] → length pairs ≤ place
    → IsPlain (record { pairs = pairs; noted = noted }) → IsPlain (record { pairs = pairs; noted = fewer })
forgotten pairs noted fewer place is past plain place' pair found out =
    let inside = slice_get_within pairs place' pair found in
    plain place' pair found
    (λ c. elim (Contains-append_cases fewer (place ∷ []) place' (subst (λ l. Contains l place') is c)) [
      | inl among ↦ out among
      | inr last ↦ Contains-cases place [] place' ⊥ (λ e. absurd (omega (arith, e, inside, past))) (λ none. Contains-none place' none) last
    ])

-- one name more
pub alone-more : (pairs : List Pair) → ((place : ℕ) (pair : Pair) → slice_get pairs place ≡ Some pair → (pair.first ≡ place) × (pair.second ≡ place))
    → (place : ℕ) (pair : Pair) → slice_get (pairs ++ record { first = length pairs; second = length pairs } ∷ []) place ≡ Some pair
    → (pair.first ≡ place) × (pair.second ≡ place)
alone-more pairs alone place pair found = by (slice_get_cases-at pairs place pair found)
  where
    slice_get_cases-at : (pairs : List Pair) (place : ℕ) (pair : Pair) {last : Pair} → slice_get (pairs ++ last ∷ []) place ≡ Some pair
        → (slice_get pairs place ≡ Some pair) ⊎ ((place ≡ length pairs) × (last ≡ pair))
    slice_get_cases-at [] zero pair found = inr (refl, cc)
    slice_get_cases-at [] (suc place) pair found = absurd (cc)
    slice_get_cases-at (x ∷ pairs) zero pair found = inl found
    slice_get_cases-at (x ∷ pairs) (suc place) pair found =
        elim (slice_get_cases-at pairs place pair found) [
          | inl there ↦ inl there
          | inr at ↦ inr (ap suc at.0, at.1)
        ]

    by : (slice_get pairs place ≡ Some pair) ⊎ ((place ≡ length pairs) × (record { first = length pairs; second = length pairs } ≡ pair))
        → (pair.first ≡ place) × (pair.second ≡ place)
    by (inl there) = alone place pair there
    by (inr at) = (sym (ap (λ (p : Pair). p.first) at.1) ∙ sym at.0, sym (ap (λ (p : Pair). p.second) at.1) ∙ sym at.0)

-- Statements.

module _ (names : List ℕ) where
  -- nothing is passed
  pub none-passed : (h : Holders) → AreRead names h h []
  none-passed h = record { passed = record { plain = λ plain. plain; sound = λ held sound. sound }; held = λ held sound. refl }

  -- one after others
  pub more-read : (h k l : Holders) (stmts : List Stmt) (stmt : Stmt) → AreRead names h k stmts → AreRead names k l (stmt ∷ [])
      → AreRead names h l (stmts ++ stmt ∷ [])
  more-read h k l [] stmt before after = record {
    passed = record {
      plain = λ plain. after.passed.plain (before.passed.plain plain);
      sound = λ held sound. after.passed.sound held (before.passed.sound held sound);
    };
    held = λ held sound. after.held held (before.passed.sound held sound);
  }
  more-read h k l (first ∷ stmts) stmt before after = record {
    passed = record {
      plain = λ plain. after.passed.plain (before.passed.plain plain);
      sound = λ held sound.
          subst (λ (x : Held). IsSound names l x) (sym (held-next (name_by names) (first ∷ stmts) stmt held))
          (after.passed.sound (held_after_all (name_by names) (first ∷ stmts) held) (before.passed.sound held sound));
    };
    held = λ held sound.
        reads-next (first ∷ stmts) held (before.held held sound)
        (after.held (held_after_all (name_by names) (first ∷ stmts) held) (before.passed.sound held sound));
  }
    where
      reads-next : (stmts : List Stmt) (held : Held) → reads_are_held (name_by names) stmts held ≡ true
          → reads_are_held (name_by names) (stmt ∷ []) (held_after_all (name_by names) stmts held) ≡ true
          → reads_are_held (name_by names) (stmts ++ stmt ∷ []) held ≡ true
      reads-next [] held one other = other
      reads-next (x ∷ xs) held one other =
          let parts = and_parts (list_all held (stmt_reads x)) (reads_are_held (name_by names) xs (held_after (name_by names) x held)) one in
          and_from (list_all held (stmt_reads x)) (reads_are_held (name_by names) (xs ++ stmt ∷ []) (held_after (name_by names) x held)) parts.0
          (reads-next xs (held_after (name_by names) x held) parts.1 other)

  -- what is told of all of a list is so
  pub all-sound : (h : Holders) (held : Held) → IsSound names h held → (ls : List Loc) → list_all (is_held names h) ls ≡ true → list_all held ls ≡ true
  all-sound h held sound [] all = refl
  all-sound h held sound (l ∷ ls) all =
      let parts = and_parts (is_held names h l) (list_all (is_held names h) ls) all in
      and_from (held l) (list_all held ls) (sound l parts.0) (all-sound h held sound ls parts.1)

  -- a statement that reads what is told to be held
  pub one-read : (h k : Holders) (stmt : Stmt) → list_all (is_held names h) (stmt_reads stmt) ≡ true → IsPassed names h k (held_after (name_by names) stmt)
      → AreRead names h k (stmt ∷ [])
  one-read h k stmt all passed = record {
    passed = passed;
    held = λ held sound.
        and_from (list_all held (stmt_reads stmt)) true (all-sound h held sound (stmt_reads stmt) all) refl;
  }

  -- one location more is written
  pub passed-more : (h k l : Holders) (xs : List Loc) (x : Loc) → IsPassed names h k (all_written (name_by names) xs)
      → IsPassed names k l (with_written (name_by names) x) → IsPassed names h l (all_written (name_by names) (xs ++ x ∷ []))
  passed-more h k l xs x before after = record {
    plain = λ plain. after.plain (before.plain plain);
    sound = λ held sound.
        subst (λ (y : Held). IsSound names l y) (sym (written-more (name_by names) xs x held))
        (after.sound (all_written (name_by names) xs held) (before.sound held sound));
  }

  pub written-at : (h k l : Holders) (locations : List Loc) (at : ℕ) (d : Loc) → at < length locations
      → IsPassed names h k (all_written (name_by names) (take at locations))
      → IsPassed names k l (with_written (name_by names) (get_or locations at d))
      → IsPassed names h l (all_written (name_by names) (take (at + 1) locations))
  written-at h k l locations at d less before after =
      subst (λ xs. IsPassed names h l (all_written (name_by names) xs)) (sym (taken-at locations at d less))
      (passed-more h k l (take at locations) (get_or locations at d) before after)
