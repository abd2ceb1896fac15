-- What more names carry; and which names all families have that keep what they carry.
use Rattle.std.proofs.Common.{◌≡◌, ℕ, ◌+◌, ◌<◌, ◌≤◌, Bool, true, false, cond, inl, inr, List, [], ◌∷◌, get_or, map, take, length, zero, suc, refl, sym, ap, ◌∙◌, subst, arith}
use Rattle.std.specs.Prelude.{◌&&◌, ◌||◌, not, if◌then◌else◌, string_bytes, Option, Some, None}
use Rattle.std.specs.BTreeSet as set
use Rattle.std.specs.Cmp.Lexicographic.{slice_cmp}
use Rattle.std.specs.List.{list_all, list_any, count_by}
use Rattle.std.specs.Ordering.{nat_cmp, is_eq}
use Rattle.std.proofs.lemmas.Bool.{or_cases, or_left, or_right, and_parts, and_from, false≢true}
use Rattle.std.proofs.lemmas.List.Folds.{list_any_more}
use Rattle.std.proofs.lemmas.List.Sums.{sum_by-cons}
use Rattle.std.proofs.lemmas.Map.Text.{is_eq-slice_cmp}
use denote.Ref.{Bor}
use Rattle.dcc_c.specs.Token.{same_bytes}
use Rattle.dcc_c.proofs.NameLaws.{same_bytes-equal, same_bytes-refl, same_bytes-pointwise}
use Rattle.dcc_c.proofs.refusals.ListRules.{bytes-symmetric}
use Rattle.dcc_c.specs.Tree.{Word, Expr, Number, Name, Unary, Binary, Conditional, Cast, Stmt, Assign, Call, If, While, DoWhile, Forever, Switch, Break, Continue, Goto, Label, Empty, Return, Function, Variable}
use Rattle.dcc_c.specs.declared.syntax.Func.{Func}
use Rattle.dcc_c.specs.declared.syntax.Var.{Var}
use Rattle.dcc_c.specs.Views.{stmt_of, variable_of, function_of}
use Rattle.dcc_shape.specs.declared.seen.Seen.{Seen as SeenOf}
use Rattle.dcc_shape.specs.Carried.{is_not, is_deref, gives_bit, carries, points, points_if, accesses, sends, goal_of, goes_to, keeps, is_of_class, is_local, UsesAddressesAlone}
use Rattle.dcc_shape.specs.Carrying.{holds, Within, settles, all_settle, all_keep, strangers, is_such}
use Rattle.dcc_shape.specs.Seen.{seen, seen_in}
use Rattle.dcc_shape.specs.Spots.{Spot, spots}
use Rattle.dcc_shape.proofs.ListLaws.{list_all-same, list_any-map}
use Rattle.dcc_shape.proofs.SeenLaws.{all-seen}

either : (a b c d : Bool) → (a ≡ true → c ≡ true) → (b ≡ true → d ≡ true) → (a || b) ≡ true → (c || d) ≡ true
either a b c d f g is = elim (or_cases a b is) [ inl x ↦ or_left c d (f x) | inr y ↦ or_right c d (g y) ]

any-more : {A : Type 0} (p q : A → Bool) → ((x : A) → p x ≡ true → q x ≡ true) → (xs : List A)
    → list_any p xs ≡ true → list_any q xs ≡ true
any-more p q more [] is = is
any-more p q more (x ∷ xs) is = either (p x) (list_any p xs) (q x) (list_any q xs) (more x) (any-more p q more xs) is

if-more : {A : Type 0} (p q : A → Bool) → ((x : A) → p x ≡ true → q x ≡ true) → (o : Option A)
    → elim o [ Some x ↦ p x | None ↦ false ] ≡ true → elim o [ Some x ↦ q x | None ↦ false ] ≡ true
if-more p q more None is = is
if-more p q more (Some x) is = more x is

not-less : (a b : Bool) → (a ≡ true → b ≡ true) → not b ≡ true → not a ≡ true
not-less false b more is = refl
not-less true b more is = ap not (sym (more refl)) ∙ is

module _ (few many : Word → Bool) (within : Within few many) where
  carries-more : (e : Expr) → carries few e ≡ true → carries many e ≡ true
  carries-more (Number n base) is = is
  carries-more (Name word) is = within word is
  carries-more (Unary operator a) is =
      let parts = and_parts (not (is_not operator)) (carries few a) is in
      and_from (not (is_not operator)) (carries many a) parts.0 (carries-more a parts.1)
  carries-more (Binary operator a b) is =
      let parts = and_parts (not (gives_bit operator b)) (carries few a || carries few b) is in
      and_from (not (gives_bit operator b)) (carries many a || carries many b) parts.0
      (either (carries few a) (carries few b) (carries many a) (carries many b) (carries-more a) (carries-more b) parts.1)
  carries-more (Conditional test a b) is =
      either (carries few a) (carries few b) (carries many a) (carries many b) (carries-more a) (carries-more b) is
  carries-more (Cast type a) is = carries-more a is

  points-more : (e : Expr) → points few e ≡ true → points many e ≡ true
  points-more (Number n base) is = is
  points-more (Name word) is = is
  points-more (Unary operator a) is =
      either (is_deref operator && carries few a) (points few a) (is_deref operator && carries many a) (points many a)
      (λ here.
      let parts = and_parts (is_deref operator) (carries few a) here in
      and_from (is_deref operator) (carries many a) parts.0 (carries-more a parts.1))
      (points-more a) is
  points-more (Binary operator a b) is =
      either (points few a) (points few b) (points many a) (points many b) (points-more a) (points-more b) is
  points-more (Conditional test a b) is =
      either (points few test) (points few a || points few b) (points many test) (points many a || points many b)
      (points-more test)
      (either (points few a) (points few b) (points many a) (points many b) (points-more a) (points-more b)) is
  points-more (Cast type a) is = points-more a is

  place-more : (o : Option Expr) → points_if few o ≡ true → points_if many o ≡ true
  place-more (Some e) is = points-more e is
  place-more None is = is

  accesses-more : (stmt : Stmt) → accesses few stmt ≡ true → accesses many stmt ≡ true
  accesses-more (Assign place e) is =
      either (points few place) (points few e) (points many place) (points many e) (points-more place) (points-more e) is
  accesses-more (Call place function arguments depth) is =
      either (points_if few place) (list_any (points few) arguments) (points_if many place) (list_any (points many) arguments)
      (place-more place)
      (any-more (points few) (points many) points-more arguments) is
  accesses-more (If e body otherwise) is = points-more e is
  accesses-more (While e body) is = points-more e is
  accesses-more (DoWhile body e) is = points-more e is
  accesses-more (Switch e arms last) is = points-more e is
  accesses-more (Return e) is = place-more e is
  accesses-more (Forever body) is = is
  accesses-more Break is = is
  accesses-more Continue is = is
  accesses-more (Goto word) is = is
  accesses-more (Label word) is = is
  accesses-more Empty is = is

  sends-more : (stmt : Stmt) → sends few stmt ≡ true → sends many stmt ≡ true
  sends-more (Assign place e) is = carries-more e is
  sends-more (Call place function arguments depth) is =
      any-more (carries few) (carries many) carries-more arguments is
  sends-more (Switch e arms last) is = carries-more e is
  sends-more (Return e) is = if-more (carries few) (carries many) carries-more e is
  sends-more (If e body otherwise) is = is
  sends-more (While e body) is = is
  sends-more (DoWhile body e) is = is
  sends-more (Forever body) is = is
  sends-more Break is = is
  sends-more Continue is = is
  sends-more (Goto word) is = is
  sends-more (Label word) is = is
  sends-more Empty is = is

  -- what a statement sends by the few goes to one of the many, where these keep it
  pub sent-there : (unplaced : Word → Bool) (stmt : Stmt) → keeps unplaced many stmt ≡ true → sends few stmt ≡ true
      → (goes_to unplaced stmt ≡ true) × (goes_to many stmt ≡ true)
  sent-there unplaced stmt keep sent =
      let two = goes_to unplaced stmt && goes_to many stmt in
      let parts = and_parts (not (accesses many stmt)) (not (sends many stmt) || two) keep in
      and_parts (goes_to unplaced stmt) (goes_to many stmt)
      (elim (or_cases (not (sends many stmt)) two parts.1) [
        | inl away ↦ absurd (false≢true (sym (ap not (sends-more stmt sent)) ∙ away))
        | inr goes ↦ goes
      ])

  -- where the many keep it, and the few are settled, they keep it
  pub keeps-less : (unplaced : Word → Bool) (stmt : Stmt) → keeps unplaced many stmt ≡ true
      → settles unplaced few stmt ≡ true → keeps unplaced few stmt ≡ true
  keeps-less unplaced stmt keep settled =
      let two = goes_to unplaced stmt && goes_to many stmt in
      let parts = and_parts (not (accesses many stmt)) (not (sends many stmt) || two) keep in
      and_from (not (accesses few stmt)) (not (sends few stmt) || (goes_to unplaced stmt && goes_to few stmt))
      (not-less (accesses few stmt) (accesses many stmt) (accesses-more stmt) parts.0)
      (by (sends few stmt) refl)
    where
      there : (s u f : Bool) → s ≡ true → u ≡ true → (not (s && u) || f) ≡ true → f ≡ true
      there true true f sent goes is = is
      there true false f sent goes is = absurd (false≢true goes)
      there false u f sent goes is = absurd (false≢true sent)

      by : (b : Bool) → sends few stmt ≡ b → (not b || (goes_to unplaced stmt && goes_to few stmt)) ≡ true
      by false is = refl
      by true sent =
          let goes = sent-there unplaced stmt keep sent in
          and_from (goes_to unplaced stmt) (goes_to few stmt) goes.0
          (there (sends few stmt) (goes_to unplaced stmt) (goes_to few stmt) sent goes.0 settled)

-- How many pass a test, of two of which the one passes less.

module _ {A : Type 0} (p q : A → Bool) (less : (x : A) → q x ≡ true → p x ≡ true) where
  step : (a b : Bool) → (b ≡ true → a ≡ true) → (if b then 1 else 0) ≤ (if a then 1 else 0)
  step true true f = omega arith
  step true false f = omega arith
  step false true f = absurd (false≢true (f refl))
  step false false f = omega arith

  counted : (r : A → Bool) (x : A) (xs : List A) → count_by r (x ∷ xs) ≡ (if r x then 1 else 0) + count_by r xs
  counted r x xs = sum_by-cons (λ x. if r x then 1 else 0) x xs

  pub no-more : (xs : List A) → count_by q xs ≤ count_by p xs
  no-more [] = omega arith
  no-more (x ∷ xs) = omega (arith, step (p x) (q x) (less x), no-more xs, counted p x xs, counted q x xs)

  pub fewer-at : (xs : List A) (i : ℕ) (d : A) → i < length xs → p (get_or xs i d) ≡ true → q (get_or xs i d) ≡ false
      → count_by q xs < count_by p xs
  fewer-at [] i d within had has = absurd (omega (arith, within))
  fewer-at (x ∷ xs) zero d within had has =
      let one : ◌≡◌ {A = ℕ} (if p x then 1 else 0) 1 = ap (λ b. if b then 1 else 0) had in
      let none : ◌≡◌ {A = ℕ} (if q x then 1 else 0) 0 = ap (λ b. if b then 1 else 0) has in
      omega (arith, no-more xs, one, none, counted p x xs, counted q x xs)
  fewer-at (x ∷ xs) (suc i) d within had has =
      let rest = fewer-at xs i d (omega (arith, within)) had has in
      omega (arith, step (p x) (q x) (less x), rest, counted p x xs, counted q x xs)

-- Sets of words.

-- a set with one more word
pub set-inserted : (s n : set.BTreeSet (Bor (List ℕ))) (k : Bor (List ℕ))
    → set.Updates (λ x y. slice_cmp nat_cmp x.now y.now) s n k true
    → (word : Word) → holds n word ≡ same_bytes word k.now || holds s word
set-inserted s n k updates word =
    updates.0 (record { ref_ptr = (0, 0); now = word })
    ∙ by (is_eq (slice_cmp nat_cmp k.now word)) (same_bytes word k.now) (holds s word)
    (is_eq-slice_cmp k.now word ∙ sym (same_bytes-pointwise k.now word) ∙ bytes-symmetric k.now word)
  where
    by : (b c r : Bool) → b ≡ c → cond b true r ≡ c || r
    by true c r e = subst (λ d. true ≡ d || r) e refl
    by false c r e = subst (λ d. r ≡ d || r) e refl

module _ (old new : Word → Bool) (word : Word) (added : (other : Word) → new other ≡ same_bytes other word || old other) where
  pub grown-within : Within old new
  grown-within other is = added other ∙ or_right (same_bytes other word) (old other) is

  pub goal-in : (stmt : Stmt) → Some word ≡ goal_of stmt → goes_to new stmt ≡ true
  goal-in stmt goal =
      ap (λ o. elim o [ Some w ↦ new w | None ↦ false ]) (sym goal)
      ∙ added word ∙ or_left (same_bytes word word) (old word) (same_bytes-refl word)

  -- all families that keep what the old names carry have the new ones
  pub forced-in : (all : Word → Bool) → Within old all → (unplaced : Word → Bool) (stmt : Stmt) → Some word ≡ goal_of stmt
      → sends old stmt ≡ true → keeps unplaced all stmt ≡ true → Within new all
  forced-in all within unplaced stmt goal sent keep other is =
      let goes = sent-there old all within unplaced stmt keep sent in
      let at : all word ≡ true = ap (λ o. elim o [ Some w ↦ all w | None ↦ false ]) goal ∙ goes.1 in
      elim (or_cases (same_bytes other word) (old other) (sym (added other) ∙ is)) [
        | inl same ↦ ap all (same_bytes-equal other word same) ∙ at
        | inr had ↦ within other had
      ]

-- what doesn't settle is sent to a variable in no memory that is none of the names
pub unsettled : (s u g : Bool) → (not (s && u) || g) ≡ false → (s ≡ true) × ((u ≡ true) × (g ≡ false))
unsettled true true false is = (refl, (refl, refl))
unsettled true true true is = absurd (false≢true (sym is))
unsettled true false g is = absurd (false≢true (sym is))
unsettled false u g is = absurd (false≢true (sym is))

-- Lists of statements.

module _ {A : Type 0} where
  pub each : (p : A → Bool) (xs : List A) (i : ℕ) (d : A) → i < length xs → list_all p xs ≡ true → p (get_or xs i d) ≡ true
  each p [] i d within all = absurd (omega (arith, within))
  each p (x ∷ xs) zero d within all = (and_parts (p x) (list_all p xs) all).0
  each p (x ∷ xs) (suc i) d within all = each p xs i d (omega (arith, within)) (and_parts (p x) (list_all p xs) all).1

  pub all-by : (p q r : A → Bool) → ((x : A) → p x ≡ true → q x ≡ true → r x ≡ true) → (xs : List A)
      → list_all p xs ≡ true → list_all q xs ≡ true → list_all r xs ≡ true
  all-by p q r by [] all each = refl
  all-by p q r by (x ∷ xs) all each =
      let one = and_parts (p x) (list_all p xs) all in
      let two = and_parts (q x) (list_all q xs) each in
      and_from (r x) (list_all r xs) (by x one.0 two.0) (all-by p q r by xs one.1 two.1)

-- the test of statements asks of the names in no memory alone which they are
pub keeps-same : (u v names : Word → Bool) → ((word : Word) → u word ≡ v word) → (stmt : Stmt)
    → keeps u names stmt ≡ keeps v names stmt
keeps-same u v names same stmt =
    ap (λ b. not (accesses names stmt) && (not (sends names stmt) || (b && goes_to names stmt))) (by (goal_of stmt))
  where
    by : (o : Option Word)
        → ◌≡◌ {A = Bool} (elim o [ Some w ↦ u w | None ↦ false ]) (elim o [ Some w ↦ v w | None ↦ false ])
    by (Some w) = same w
    by None = refl

-- Functions.

module _ (f : Function) (list : List SeenOf) (same : map seen_in list ≡ map seen (spots f.body)) (unplaced : Word → Bool)
    (told : (word : Word) → unplaced word ≡ is_local false f word) where
  kept-is : (names : Word → Bool)
      → all_keep unplaced names list ≡ list_all (λ s. keeps (is_local false f) names s.stmt) (spots f.body)
  kept-is names =
      all-seen (λ s. keeps unplaced names s.stmt) list (spots f.body) same
      ∙ list_all-same (λ (s : Spot). keeps unplaced names s.stmt) (λ (s : Spot). keeps (is_local false f) names s.stmt)
      (λ s. keeps-same unplaced (is_local false f) names told s.stmt) (spots f.body)

  pub uses-alone : (names : Word → Bool) → Within (is_local true f) names → all_keep unplaced names list ≡ true
      → UsesAddressesAlone f
  uses-alone names arrays kept = record { names = names; arrays = arrays; kept = sym (kept-is names) ∙ kept }

  -- names that are those of every family, and settled, keep what they carry if any family does
  pub alone-keeps : (names : Word → Bool)
      → ((all : Word → Bool) → Within (is_local true f) all → all_keep unplaced all list ≡ true → Within names all)
      → all_settle unplaced names list ≡ true → UsesAddressesAlone f → all_keep unplaced names list ≡ true
  alone-keeps names forced settled alone =
      let kept = kept-is alone.names ∙ alone.kept in
      let within = forced alone.names alone.arrays kept in
      all-by (λ (s : SeenOf). keeps unplaced alone.names (stmt_of s.stmt.now))
      (λ (s : SeenOf). settles unplaced names (stmt_of s.stmt.now)) (λ (s : SeenOf). keeps unplaced names (stmt_of s.stmt.now))
      (λ s keep settle. keeps-less names alone.names within unplaced (stmt_of s.stmt.now) keep settle) list kept settled

-- Local variables.

module _ (auto : Bool) (word : Word) (vs : List Var) (i : ℕ) (v : Var) (within : i < length vs) (v_is : v ≡ get_or vs i v) where
  such-next : list_any (is_such auto word) (take (i + 1) vs)
      ≡ list_any (is_such auto word) (take i vs) || is_such auto word v
  such-next =
      list_any_more (is_such auto word) vs i v within
      ∙ ap (λ x. list_any (is_such auto word) (take i vs) || is_such auto word x) (sym v_is)

  -- one more name, and none more
  pub such-added : (names new : Bool) (bytes : List ℕ) → bytes ≡ string_bytes v.name → is_of_class auto v.class ≡ true
      → names ≡ list_any (is_such auto word) (take i vs) → new ≡ same_bytes word bytes || names
      → new ≡ list_any (is_such auto word) (take (i + 1) vs)
  such-added names new bytes named class had is =
      is ∙ ap (λ bs. same_bytes word bs || names) named
      ∙ turned (same_bytes word (string_bytes v.name)) names (is_of_class auto v.class) class
      ∙ ap (λ b. b || is_such auto word v) had ∙ sym such-next
    where
      turned : (s n k : Bool) → k ≡ true → (s || n) ≡ (n || (s && k))
      turned true true k one = refl
      turned true false k one = sym one
      turned false true k one = refl
      turned false false k one = refl

  pub such-left : (names : Bool) → is_of_class auto v.class ≡ false → names ≡ list_any (is_such auto word) (take i vs)
      → names ≡ list_any (is_such auto word) (take (i + 1) vs)
  such-left names class had =
      had ∙ turned (list_any (is_such auto word) (take i vs)) (same_bytes word (string_bytes v.name)) (is_of_class auto v.class) class
      ∙ sym such-next
    where
      turned : (n s k : Bool) → k ≡ false → n ≡ (n || (s && k))
      turned true s k none = refl
      turned false true k none = sym none
      turned false false k none = refl

pub locals-are : (auto : Bool) (f : Func) (word : Word)
    → list_any (is_such auto word) f.locals.items ≡ is_local auto (function_of f) word
locals-are auto f word =
    sym (list_any-map (λ (v : Variable). same_bytes word v.name && is_of_class auto v.class) variable_of f.locals.items)

-- Rounds.

goes-more : (few many : Word → Bool) → Within few many → (stmt : Stmt) → goes_to few stmt ≡ true → goes_to many stmt ≡ true
goes-more few many within stmt = by (goal_of stmt)
  where
    by : (o : Option Word) → elim o [ Some w ↦ few w | None ↦ false ] ≡ true → elim o [ Some w ↦ many w | None ↦ false ] ≡ true
    by (Some w) is = within w is
    by None is = is

module _ (few many : Word → Bool) (within : Within few many) where
  stranger-less : (s : SeenOf) → not (goes_to many (stmt_of s.stmt.now)) ≡ true → not (goes_to few (stmt_of s.stmt.now)) ≡ true
  stranger-less s =
      not-less (goes_to few (stmt_of s.stmt.now)) (goes_to many (stmt_of s.stmt.now)) (goes-more few many within (stmt_of s.stmt.now))

  pub no-more-strangers : (list : List SeenOf) → strangers many list ≤ strangers few list
  no-more-strangers list =
      no-more (λ (s : SeenOf). not (goes_to few (stmt_of s.stmt.now))) (λ (s : SeenOf). not (goes_to many (stmt_of s.stmt.now)))
      stranger-less list

  pub fewer-strangers : (list : List SeenOf) (i : ℕ) (s : SeenOf) → i < length list
      → goes_to few (stmt_of (get_or list i s).stmt.now) ≡ false → goes_to many (stmt_of (get_or list i s).stmt.now) ≡ true
      → strangers many list < strangers few list
  fewer-strangers list i s inside away there =
      fewer-at (λ (s : SeenOf). not (goes_to few (stmt_of s.stmt.now))) (λ (s : SeenOf). not (goes_to many (stmt_of s.stmt.now)))
      stranger-less list i s inside (ap not away) (ap not there)
