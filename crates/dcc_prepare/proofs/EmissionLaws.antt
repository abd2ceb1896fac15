-- How pieces of code that grow make one piece.
use Rattle.std.proofs.Common.{◌≡◌, ◌≢◌, ◌⊎◌, ℕ, zero, suc, ◌+◌, Bool, true, false, List, [], ◌∷◌, ◌++◌, length, Option, Some, None, inl, inr, refl, sym, ap, ◌∙◌, subst, arith}
use Rattle.std.specs.Prelude.{if◌then◌else◌, ◌||◌, ◌==◌, slice_get, slice_set, Result, Ok, Err, IfOk, OnOk}
use Rattle.std.proofs.lemmas.List.{length_push, length-set}
use Rattle.std.proofs.lemmas.Bool.{cases_eq}
use Rattle.std.proofs.lemmas.Bool.Decides.{nat_tests}
use Rattle.std.specs.declared.alloc.AllocError.{AllocError}
use Rattle.dcc_c.specs.Token.{same_bytes}
use Rattle.dcc_c.specs.Tree.{Word, Function, Tree}
use Rattle.dcc_c.specs.Run.{Continuation, State, step_at, goes_on, jump_step, first_of}
use Rattle.dcc_prepare.specs.declared.program.Action.{Action}
use Rattle.dcc_prepare.specs.declared.program.Row.{Row}
use Rattle.dcc_prepare.specs.declared.program.Label.{Label}
use Rattle.dcc_prepare.specs.declared.code.Code.{Code}
use Rattle.dcc_prepare.specs.Lines.{next_line, IsLine}
use Rattle.dcc_prepare.specs.Points.{Goes, MayGo, label_named, point_named, IsPass, IsStuck, IsRow, AreRows}
use Rattle.dcc_prepare.specs.Emission.{Stay, KeepNumbers, Relabels, Grows, Emits}
use Rattle.dcc_c.proofs.NameLaws.{same_bytes-equal, same_bytes-refl}
use Rattle.dcc_prepare.proofs.PointLaws.{goes_alike, get-push, some_same, stay_push, stay_all, goes_stay, goes_new, row_stays, rows_push}

-- Tests.

decided : (b : Bool) → (b ≡ true) ⊎ (b ≡ false)
decided true = inl refl
decided false = inr refl

clash : {b : Bool} → b ≡ true → b ≡ false → ⊥
clash t f = cc

neither : (a b : Bool) → (a || b) ≡ false → (a ≡ false) × (b ≡ false)
neither true b is = cc
neither false b is = (refl, is)

both_false : (a b : Bool) → a ≡ false → b ≡ false → (a || b) ≡ false
both_false true b x y = x
both_false false b x y = y

eqb_same : (a b : ℕ) → a ≡ b → (a == b) ≡ true
eqb_same a b is = grind (arith, nat_tests)

eqb_other : (a b : ℕ) → a ≢ b → (a == b) ≡ false
eqb_other a b other = grind (arith, nat_tests)

pub set-same : {X : Type 0} (xs : List X) (i : ℕ) (x y : X) → slice_get (slice_set xs i x) i ≡ Some y → x ≡ y
set-same [] i x y is = cc
set-same (z ∷ xs) zero x y is = cc
set-same (z ∷ xs) (suc i) x y is = set-same xs i x y is

pub set-other : {X : Type 0} (xs : List X) (i : ℕ) (x : X) (j : ℕ) (y : X) → slice_get (slice_set xs i x) j ≡ Some y → j ≢ i → slice_get xs j ≡ Some y
set-other [] i x j y is other = is
set-other (z ∷ xs) zero x zero y is other = absurd (other refl)
set-other (z ∷ xs) zero x (suc j) y is other = is
set-other (z ∷ xs) (suc i) x zero y is other = is
set-other (z ∷ xs) (suc i) x (suc j) y is other = set-other xs i x j y is (λ same. other (ap suc same))

-- Labels.

-- what was found in a second piece comes before what was found in the first
pub relabels_after : (tree : Tree) (mid now : List Continuation) (before between after : List Label) (word : Word)
    (first second : Option Continuation) → Stay mid now → Relabels tree mid before between word first →
    Relabels tree now between after word second → Relabels tree now before after word (first_of second first)
relabels_after tree mid now before between after word first (Some rest) stay one two = two
relabels_after tree mid now before between after word (Some rest) None stay one two =
    (one.0, two ∙ one.1, goes_stay tree mid now one.0 rest stay one.2)
relabels_after tree mid now before between after word None None stay one two = two ∙ one

-- labels that a piece found stand so between lists with the same points
pub relabels_moved : (tree : Tree) (points : List Continuation) (before opened mid now : List Label) (word : Word)
    (found : Option Continuation) → point_named opened word ≡ point_named before word →
    point_named now word ≡ point_named mid word → Relabels tree points opened mid word found →
    Relabels tree points before now word found
relabels_moved tree points before opened mid now word (Some rest) first last is = (is.0, last ∙ is.1, is.2)
relabels_moved tree points before opened mid now word None first last is = last ∙ is ∙ first

pub stay_after : (first second third : List Continuation) → Stay first second → Stay second third → Stay first third
stay_after first second third one two at rest is = two at rest (one at rest is)

pub keep_after : (first second third : List Label) → KeepNumbers first second → KeepNumbers second third → KeepNumbers first third
keep_after first second third one two word number is = two word number (one word number is)

pub keep_all : (labels : List Label) → KeepNumbers labels labels
keep_all labels word number is = is

-- rows stay the actions of their points under other labels, which keep their numbers
pub rows_kept : (tree : Tree) (f : Function) (is_open : ℕ → Bool) (points : List Continuation) (rows now : List Row)
    (labels more : List Label) → AreRows tree f is_open points rows labels → KeepNumbers labels more → now ≡ rows →
    AreRows tree f is_open points now more
rows_kept tree f is_open points rows now labels more are keep same =
    subst (λ (rs : List Row). AreRows tree f is_open points rs more) (sym same)
    (record {
      same = are.same;
      acts = λ at rest row here has shut.
          row_stays tree f points points labels more rest row.line row.action (stay_all points) keep (are.acts at rest row here has shut);
    })

-- Pieces.

-- a piece after another one
unfoldable pub grows_after : (tree : Tree) (f : Function) (is_open : ℕ → Bool) (points : List Continuation) (before mid now : Code)
    (first second : Word → Option Continuation) (g : Grows tree f is_open points before mid first) →
    Grows tree f is_open g.grown mid now second →
    Grows tree f is_open points before now (λ word. first_of (second word) (first word))
grows_after tree f is_open points before mid now first second g h = record {
  grown = h.grown;
  stay = stay_after points g.grown h.grown g.stay h.stay;
  rows = h.rows;
  numbers = keep_after before.labels.items mid.labels.items now.labels.items g.numbers h.numbers;
  labels = λ word. relabels_after tree g.grown h.grown before.labels.items mid.labels.items now.labels.items word
      (first word) (second word) h.stay (g.labels word) (h.labels word);
}

pub emits_after : (tree : Tree) (f : Function) (is_open : ℕ → Bool) (points : List Continuation) (before mid now : Code)
    (first second : Word → Option Continuation) (at : ℕ) (rest : Continuation)
    (g : Grows tree f is_open points before mid first) →
    Emits tree f is_open g.grown mid now second at rest →
    Emits tree f is_open points before now (λ word. first_of (second word) (first word)) at rest
unfolding grows_after
emits_after tree f is_open points before mid now first second at rest g h = record {
  grows = grows_after tree f is_open points before mid now first second g h.grows;
  goes = h.goes;
}

-- a piece after another one, where the second piece may be wanting
pub emits_after_ok : (tree : Tree) (f : Function) (is_open : ℕ → Bool) (points : List Continuation) (before mid now : Code)
    (first second : Word → Option Continuation) (r : Result ℕ AllocError) (rest : Continuation)
    (g : Grows tree f is_open points before mid first) →
    IfOk r (λ at. Emits tree f is_open g.grown mid now second at rest) →
    IfOk r (λ at. Emits tree f is_open points before now (λ word. first_of (second word) (first word)) at rest)
emits_after_ok tree f is_open points before mid now first second (Ok at) rest g h =
    emits_after tree f is_open points before mid now first second at rest g h
emits_after_ok tree f is_open points before mid now first second (Err e) rest g h = h

-- no piece
unfoldable pub grows_none : (tree : Tree) (f : Function) (is_open : ℕ → Bool) (points : List Continuation) (code : Code) →
    AreRows tree f is_open points code.rows.items code.labels.items → Grows tree f is_open points code code (λ word. None)
grows_none tree f is_open points code are = record {
  grown = points;
  stay = stay_all points;
  rows = are;
  numbers = keep_all code.labels.items;
  labels = λ word. refl;
}

pub emits_none : (tree : Tree) (f : Function) (is_open : ℕ → Bool) (points : List Continuation) (code : Code) (at : ℕ)
    (rest : Continuation) → AreRows tree f is_open points code.rows.items code.labels.items → Goes tree points at rest →
    Emits tree f is_open points code code (λ word. None) at rest
unfolding grows_none
emits_none tree f is_open points code at rest are goes =
    record { grows = grows_none tree f is_open points code are; goes = goes }

-- One point.

-- a further point
pub pushed : (tree : Tree) (f : Function) (is_open : ℕ → Bool) (points : List Continuation) (before now : Code)
    (own : Continuation) (line at : ℕ) (action : Action) →
    AreRows tree f is_open points before.rows.items before.labels.items →
    IsRow tree f (points ++ own ∷ []) before.labels.items own line action →
    at ≡ length before.rows.items →
    now.rows.items ≡ before.rows.items ++ record { action = action; line = line } ∷ [] → now.labels ≡ before.labels →
    Emits tree f is_open points before now (λ word. None) at own
pushed tree f is_open points before now own line at action are acts place rows labels = record {
  grows = record {
    grown = points ++ own ∷ [];
    stay = stay_push points own;
    rows =
        subst (λ (rs : List Row). AreRows tree f is_open (points ++ own ∷ []) rs now.labels.items) (sym rows)
        (subst (λ (ls : List Label). AreRows tree f is_open (points ++ own ∷ []) (before.rows.items ++ record { action = action; line = line } ∷ []) ls) (sym (ap (λ v. v.items) labels))
        (rows_push tree f is_open points before.rows.items before.labels.items own line action are acts));
    numbers = λ word number is. ap (λ v. label_named v.items word) labels ∙ is;
    labels = λ word. ap (λ v. point_named v.items word) labels;
  };
  goes =
      subst (λ n. Goes tree (points ++ own ∷ []) n own) (are.same ∙ sym place) (goes_new tree points own);
}

pub pushed_ok : (tree : Tree) (f : Function) (is_open : ℕ → Bool) (points : List Continuation) (before now : Code)
    (own : Continuation) (line : ℕ) (action : Action) (r : Result ℕ AllocError) →
    AreRows tree f is_open points before.rows.items before.labels.items →
    IsRow tree f (points ++ own ∷ []) before.labels.items own line action →
    IfOk r (λ at. at ≡ length before.rows.items) →
    OnOk r (now.rows.items ≡ before.rows.items ++ record { action = action; line = line } ∷ []) → now.labels ≡ before.labels →
    IfOk r (λ at. Emits tree f is_open points before now (λ word. None) at own)
pushed_ok tree f is_open points before now own line action (Ok at) are acts place rows labels =
    pushed tree f is_open points before now own line at action are acts place rows labels
pushed_ok tree f is_open points before now own line action (Err e) are acts place rows labels = tt

-- Points that are open.

abbrev pub with_open : (ℕ → Bool) → ℕ → ℕ → Bool
with_open is_open slot at = is_open at || at == slot

-- a point whose action comes later
pub reserved : (tree : Tree) (f : Function) (is_open : ℕ → Bool) (points : List Continuation) (rows : List Row)
    (labels : List Label) (k : Continuation) (row : Row) → AreRows tree f is_open points rows labels →
    AreRows tree f (with_open is_open (length rows)) (points ++ k ∷ []) (rows ++ row ∷ []) labels
reserved tree f is_open points rows labels k row are = record {
  same = length_push points k ∙ ap (λ n. n + 1) are.same ∙ sym (length_push rows row);
  acts = λ at rest other here has closed.
      let (shut, apart) = neither (is_open at) (at == length rows) closed in
      let away : at ≢ length rows = λ is. clash (eqb_same at (length rows) is) apart in
      row_stays tree f points (points ++ k ∷ []) labels labels rest other.line other.action (stay_push points k) (keep_all labels)
      (are.acts at rest other (get-push points k at rest here (λ is. away (is ∙ are.same))) (get-push rows row at other has away) shut);
}

-- a point whose action comes later takes its action
pub closed : (tree : Tree) (f : Function) (is_open : ℕ → Bool) (points : List Continuation) (rows : List Row)
    (labels : List Label) (slot : ℕ) (k : Continuation) (line : ℕ) (action : Action) →
    AreRows tree f (with_open is_open slot) points rows labels → slice_get points slot ≡ Some k →
    IsRow tree f points labels k line action →
    AreRows tree f is_open points (slice_set rows slot (record { action = action; line = line })) labels
closed tree f is_open points rows labels slot k line action are here acts = record {
  same = are.same ∙ sym (length-set rows slot (record { action = action; line = line }));
  acts = λ at rest row is has shut. elim (cases_eq at slot) [
    | inl same ↦
        let own : k ≡ rest = some_same _ _ (sym here ∙ ap (slice_get points) (sym same) ∙ is) in
        let new : record { action = action; line = line } ≡ row =
        set-same rows slot (record { action = action; line = line }) row (ap (slice_get (slice_set rows slot (record { action = action; line = line }))) (sym same) ∙ has) in
        subst (λ (r : Row). IsRow tree f points labels rest r.line r.action) new
        (subst (λ (c : Continuation). IsRow tree f points labels c line action) own acts)
    | inr other ↦
        are.acts at rest row is (set-other rows slot (record { action = action; line = line }) at row has other)
        (both_false (is_open at) (at == slot) shut (eqb_other at slot other))
  ];
}

-- Jumps.

pub jump_passes : (tree : Tree) (points : List Continuation) (own following : Continuation) (target : Option Continuation)
    (line at : ℕ) → MayGo tree points (Some at) target →
    ((s : State) → step_at tree own s ≡ jump_step target line (goes_on following s)) →
    IsPass tree (points ++ own ∷ []) own at
jump_passes tree points own following None line at goes does = absurd goes
jump_passes tree points own following (Some rest) line at goes does = record {
  to = rest;
  goes = goes_stay tree points (points ++ own ∷ []) at rest (stay_push points own) goes;
  does = does;
}

pub jump_sticks : (tree : Tree) (points : List Continuation) (own following : Continuation) (target : Option Continuation)
    (line : ℕ) → MayGo tree points None target →
    ((s : State) → step_at tree own s ≡ jump_step target line (goes_on following s)) → IsStuck tree own line
jump_sticks tree points own following (Some rest) line goes does = absurd goes
jump_sticks tree points own following None line goes does = record { following = following; does = does }

-- Labels that are found.

-- what is emitted stays so where the same labels are found
pub emits_found : (tree : Tree) (f : Function) (is_open : ℕ → Bool) (points : List Continuation) (before now : Code)
    (found other : Word → Option Continuation) (r : Result ℕ AllocError) (rest : Continuation) →
    ((word : Word) → found word ≡ other word) → IfOk r (λ at. Emits tree f is_open points before now found at rest) →
    IfOk r (λ at. Emits tree f is_open points before now other at rest)
emits_found tree f is_open points before now found other (Err e) rest same emits = emits
emits_found tree f is_open points before now found other (Ok at) rest same emits = record {
  grows = record {
    grown = emits.grows.grown;
    stay = emits.grows.stay;
    rows = emits.grows.rows;
    numbers = emits.grows.numbers;
    labels = λ word. subst (λ o. Relabels tree emits.grows.grown before.labels.items now.labels.items word o) (same word) (emits.grows.labels word);
  };
  goes = emits.goes;
}

pub first_of-none : (o : Option Continuation) → o ≡ first_of o None
first_of-none None = refl
first_of-none (Some k) = refl

-- further labels, which have no points
pub grows_labels : (tree : Tree) (f : Function) (is_open : ℕ → Bool) (points : List Continuation) (before now : Code) →
    AreRows tree f is_open points before.rows.items before.labels.items →
    KeepNumbers before.labels.items now.labels.items →
    ((word : Word) → point_named now.labels.items word ≡ point_named before.labels.items word) → now.rows ≡ before.rows →
    Grows tree f is_open points before now (λ word. None)
grows_labels tree f is_open points before now are numbers same rows = record {
  grown = points;
  stay = stay_all points;
  rows = rows_kept tree f is_open points before.rows.items now.rows.items before.labels.items now.labels.items are numbers (ap (λ v. v.items) rows);
  numbers = numbers;
  labels = same;
}

same_turned : (xs ys : Word) → same_bytes xs ys ≡ true → same_bytes ys xs ≡ true
same_turned xs ys is = subst (λ (w : Word). same_bytes w xs ≡ true) (same_bytes-equal xs ys is) (same_bytes-refl xs)

turned : (xs ys : Word) → same_bytes xs ys ≡ same_bytes ys xs
turned xs ys = elim (decided (same_bytes xs ys)) [
  | inl is ↦ is ∙ sym (same_turned xs ys is)
  | inr is ↦ elim (decided (same_bytes ys xs)) [
    | inl other ↦ absurd (clash (same_turned ys xs other) is)
    | inr other ↦ is ∙ sym other
  ]
]

relabels_one : (tree : Tree) (points : List Continuation) (before mid now : List Label) (word : Word) (b c : Bool) (at : ℕ)
    (own : Continuation) → b ≡ c → point_named now word ≡ (if c then Some at else point_named mid word) →
    Relabels tree points before mid word None → Goes tree points at own →
    Relabels tree points before now word (if b then Some own else None)
relabels_one tree points before mid now word true true at own same is had goes = (at, is, goes)
relabels_one tree points before mid now word false false at own same is had goes = is ∙ had
relabels_one tree points before mid now word true false at own same is had goes = cc
relabels_one tree points before mid now word false true at own same is had goes = cc

-- the label stands at a new point
pub label_placed : (tree : Tree) (f : Function) (is_open : ℕ → Bool) (points : List Continuation) (before mid now : Code)
    (name : Word) (at : ℕ) (own : Continuation) → Emits tree f is_open points before mid (λ word. None) at own →
    KeepNumbers mid.labels.items now.labels.items →
    ((word : Word) → point_named now.labels.items word ≡ (if same_bytes name word then Some at else point_named mid.labels.items word)) →
    now.rows ≡ mid.rows →
    Emits tree f is_open points before now (λ word. if same_bytes word name then Some own else None) at own
label_placed tree f is_open points before mid now name at own emits numbers placed rows = record {
  grows = record {
    grown = emits.grows.grown;
    stay = emits.grows.stay;
    rows = rows_kept tree f is_open emits.grows.grown mid.rows.items now.rows.items mid.labels.items now.labels.items emits.grows.rows numbers (ap (λ v. v.items) rows);
    numbers = keep_after before.labels.items mid.labels.items now.labels.items emits.grows.numbers numbers;
    labels = λ word. relabels_one tree emits.grows.grown before.labels.items mid.labels.items now.labels.items word (same_bytes word name) (same_bytes name word) at own
        (turned word name) (placed word) (emits.grows.labels word) emits.goes;
  };
  goes = emits.goes;
}
