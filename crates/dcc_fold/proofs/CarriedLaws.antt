-- The value that is carried along the steps of a chain is that of the last Set, which may pass what is behind it.
use Rattle.std.proofs.Common.{◌≡◌, ◌⊎◌, ℕ, zero, suc, ◌+◌, ◌<◌, ◌≤◌, Bool, true, false, ◌&&◌, ◌||◌, inl, inr, List, [], ◌∷◌, ◌++◌, map, flat_map, Option, Some, None, refl, sym, ap, ap₂, ◌∙◌, subst, arith, true≢false, eqb-true, slice_get, Contains}
use Rattle.std.specs.Prelude.{◌==◌, All, if◌then◌else◌, count_by}
use Rattle.std.specs.List.{list_any, list_all}
use Rattle.std.proofs.lemmas.List.Elements.{All-nil, All-cons, All-head, All-tail, All-append, Contains-append_left, Contains-append_right}
use Rattle.dcc_ir.specs.declared.syntax.Loc.{Loc}
use Rattle.dcc_ir.specs.declared.syntax.Loc.TheVariants.{Half, Flag, Cell, Temp}
use Rattle.dcc_ir.specs.Joinable.{times_in}
use Rattle.dcc_ir.specs.Live.{is_among}
use Rattle.dcc_ir.specs.Location.{same_location}
use Rattle.dcc_ir.specs.Tree.{Expr, Stmt, Set, Fetch, Store, Div, Call, Dos, Block, Graph}
use Rattle.dcc_ir.specs.Use.{writes_of}
use Rattle.dcc_ir.proofs.FitLaws.{both}
use Rattle.dcc_ir.proofs.LocationLaws.{location_same, location_itself, Contains-none, Contains-cases, Contains-here, Contains-later}
use Rattle.dcc_ir.proofs.PathLaws.{decided}
use Rattle.dcc_available.specs.Along.{IsOnlyEdge}
use Rattle.dcc_fold.specs.Chain.{Step, statement, edge, steps_over, IsAlong, begins, goes_on}
use Rattle.dcc_fold.specs.Joinable.{lets_by, all_writes, IsCarried}
use Rattle.dcc_fold.specs.Known.{places_of}
use Rattle.dcc_fold.specs.Carried.{set_by, passing, carry, carried}
use Rattle.dcc_fold.proofs.CountLaws.{flat-flat, one-of}

-- What is carried was set, and has passed all behind it.

set-places : (step : Step) (t : ℕ) (value : Expr) → is_among (places_of step) (Temp t) ≡ true → set_by step t ≡ Some value → step ≡ statement (Set (Temp t) value)
set-places (statement (Set l e)) t value among is =
    let same : e ≡ value = cc in
    let here : l ≡ Temp t = sym (location_same (Temp t) l (or-off (same_location (Temp t) l) among)) in
    ap₂ (λ k x. statement (Set k x)) here same
  where
    or-off : (b : Bool) → (b || false) ≡ true → b ≡ true
    or-off true is = refl
    or-off false is = is
set-places (statement (Fetch l width a)) t value among is = absurd (cc)
set-places (statement (Store width a e)) t value among is = absurd (cc)
set-places (statement (Div l e)) t value among is = absurd (cc)
set-places (statement (Call results entry arguments depth)) t value among is = absurd (cc)
set-places (statement (Dos number place argument)) t value among is = absurd (cc)
set-places edge t value among is = absurd (cc)

passed-on : (step : Step) (known : Option Expr) (value : Expr) → passing step known ≡ Some value → (known ≡ Some value) × (lets_by value step ≡ true)
passed-on step None value is = absurd (cc)
passed-on step (Some v) value is = by (lets_by v step) refl is
  where
    by : (b : Bool) → lets_by v step ≡ b → (if b then Some v else None) ≡ Some value → (Some v ≡ Some value) × (lets_by value step ≡ true)
    by true lets same = (same, let one : v ≡ value = cc in subst (λ x. lets_by x step ≡ true) one lets)
    by false lets same = absurd (cc)

-- what is carried is of a Set among the steps, or was carried before them
carried-from : (t : ℕ) (value : Expr) (steps : List Step) (known : Option Expr) → carried t steps known ≡ Some value
    → IsCarried t value steps ⊎ ((known ≡ Some value) × (list_all (lets_by value) steps ≡ true))
carried-from t value [] known is = inr (is, refl)
carried-from t value (step ∷ steps) known is = elim (carried-from t value steps (carry t step known) is) [
  | inl later ↦ inl (record {
    before = step ∷ later.before;
    between = later.between;
    steps_are = ap (λ xs. step ∷ xs) later.steps_are;
    passes = later.passes;
  })
  | inr here ↦ elim (decided (is_among (places_of step) (Temp t))) [
    | inl writes ↦
        let set : set_by step t ≡ Some value = sym (ap (λ b. if b then set_by step t else passing step known) writes) ∙ here.0 in
        inl (record {
          before = [];
          between = steps;
          steps_are = ap (λ s. s ∷ steps) (set-places step t value writes set);
          passes = here.1;
        })
    | inr other ↦
        let passed = passed-on step known value (sym (ap (λ b. if b then set_by step t else passing step known) other) ∙ here.0) in
        inr (passed.0, ap₂ (λ x y. x && y) passed.1 here.1)
  ]
]

pub carried-is : (t : ℕ) (value : Expr) (steps : List Step) → carried t steps None ≡ Some value → IsCarried t value steps
carried-is t value steps is = elim (carried-from t value steps None is) [
  | inl here ↦ here
  | inr none ↦ absurd (let fails : None ≡ Some value = none.0 in cc)
]

-- Where all that writes the temporary is one Set, what was set and passes all behind it is carried.

-- a step that writes the temporary is the Set of it to the value
abbrev pub SetsIt : ℕ → Expr → Step → Type 0
SetsIt t value step = is_among (places_of step) (Temp t) ≡ true → step ≡ statement (Set (Temp t) value)

passes-all : (t : ℕ) (value : Expr) (steps : List Step) → All (SetsIt t value) steps → list_all (lets_by value) steps ≡ true → carried t steps (Some value) ≡ Some value
passes-all t value [] sets lets = refl
passes-all t value (step ∷ steps) sets lets =
    let parts = both (lets_by value step) (list_all (lets_by value) steps) lets in
    let rest = passes-all t value steps (All-tail (SetsIt t value) step steps sets) parts.1 in
    elim (decided (is_among (places_of step) (Temp t))) [
      | inl writes ↦
          let is = All-head (SetsIt t value) step steps sets writes in
          ap (carried t steps) (ap (λ b. if b then set_by step t else passing step (Some value)) writes ∙ ap (λ s. set_by s t) is) ∙ rest
      | inr other ↦
          ap (carried t steps) (ap (λ b. if b then set_by step t else passing step (Some value)) other ∙ ap (λ b. if b then Some value else None) parts.0) ∙ rest
    ]

carried-joined : (t : ℕ) (xs ys : List Step) (known : Option Expr) → carried t (xs ++ ys) known ≡ carried t ys (carried t xs known)
carried-joined t [] ys known = refl
carried-joined t (x ∷ xs) ys known = carried-joined t xs ys (carry t x known)

pub front-steps : (P : Step → Type 0) (xs ys : List Step) → All P (xs ++ ys) → All P ys
front-steps P [] ys all = all
front-steps P (x ∷ xs) ys all = front-steps P xs ys (All-tail P x (xs ++ ys) all)

pub is-carried : (t : ℕ) (value : Expr) (steps : List Step) → All (SetsIt t value) steps → IsCarried t value steps → carried t steps None ≡ Some value
is-carried t value steps sets is =
    let here = subst (All (SetsIt t value)) is.steps_are sets in
    let behind = front-steps (SetsIt t value) is.before (statement (Set (Temp t) value) ∷ is.between) here in
    ap (λ xs. carried t xs None) is.steps_are
    ∙ carried-joined t is.before (statement (Set (Temp t) value) ∷ is.between) None
    ∙ ap (carried t is.between) (ap (λ b. if b then Some value else passing (statement (Set (Temp t) value)) (carried t is.before None)) (ap (λ b. b || false) (location_itself (Temp t))))
    ∙ passes-all t value is.between (All-tail (SetsIt t value) (statement (Set (Temp t) value)) is.between behind) is.passes

-- One statement writes the temporary.

abbrev pub Writes : Loc → Stmt → Type 0
Writes l stmt = is_among (writes_of stmt) l ≡ true

-- the places of a step that is a statement are among what it writes
places-written : (s : Stmt) (l : Loc) → is_among (places_of (statement s)) l ≡ true → Writes l s
places-written (Set k e) l is = is
places-written (Fetch k width a) l is = is
places-written (Store width a e) l is = absurd (true≢false (sym is))
places-written (Div k e) l is = is
places-written (Call results entry arguments depth) l is = absurd (true≢false (sym is))
places-written (Dos number place argument) l is = absurd (true≢false (sym is))

-- What holds of a chain's steps.

pub all-mapped : (P : Step → Type 0) (stmts : List Stmt) → ((s : Stmt) → Contains stmts s → P (statement s)) → All P (map statement stmts)
all-mapped P [] holds = All-nil P
all-mapped P (s ∷ stmts) holds =
    All-cons P (statement s) (map statement stmts) (holds s (Contains-here s stmts)) (all-mapped P stmts (λ x there. holds x (Contains-later s stmts x there)))

in-blocks : (blocks : List Block) (place : ℕ) (block : Block) (s : Stmt) → slice_get blocks place ≡ Some block → Contains block.stmts s → Contains (flat_map (λ (b : Block). b.stmts) blocks) s
in-blocks [] place block s is there = absurd (cc)
in-blocks (b ∷ blocks) zero block s is there =
    let same : b ≡ block = cc in
    Contains-append_left b.stmts (flat_map (λ (c : Block). c.stmts) blocks) s (subst (λ (c : Block). Contains c.stmts s) (sym same) there)
in-blocks (b ∷ blocks) (suc place) block s is there = Contains-append_right b.stmts (flat_map (λ (c : Block). c.stmts) blocks) s (in-blocks blocks place block s is there)

module _ (graph : Graph) where
  abbrev pub statements : List Stmt
  statements = flat_map (λ (b : Block). b.stmts) graph.blocks

  module _ (P : Step → Type 0) (crossed : P edge) (holds : (s : Stmt) → Contains statements s → P (statement s)) where
    pub all-over : (place : ℕ) (block : Block) (stmts : List Stmt) → slice_get graph.blocks place ≡ Some block → ((s : Stmt) → Contains stmts s → Contains block.stmts s) → All P (map statement stmts)
    all-over place block stmts placed among = all-mapped P stmts (λ s there. holds s (in-blocks graph.blocks place block s placed (among s there)))

    pub all-along : (first place : ℕ) (steps : List Step) → IsAlong graph first place steps → All P steps
    all-along first place steps begins = All-nil P
    all-along first place steps' (goes_on {from = from} {block = block} {steps = steps} only before) =
        All-append P steps (steps_over block) (all-along first from steps before)
        (All-append P (map statement block.stmts) (edge ∷ []) (all-over from block block.stmts only.placed (λ s there. there)) (All-cons P edge [] crossed (All-nil P)))

  -- the step is a statement of the graph, or an edge
  abbrev pub IsOf : Step → Type 0
  IsOf step = (s : Stmt) → step ≡ statement s → Contains statements s

  pub edge-of : IsOf edge
  edge-of s is = absurd (cc)

  pub statement-of : (s : Stmt) → Contains statements s → IsOf (statement s)
  statement-of s there x is = let same : s ≡ x = cc in subst (Contains statements) same there

  -- where the temporary is written once, what writes it is its Set
  pub sets-it : (t : ℕ) (value : Expr) → times_in (all_writes graph) (Temp t) ≡ 1 → Contains statements (Set (Temp t) value) → (s : Stmt) → Contains statements s → SetsIt t value (statement s)
  sets-it t value once there s here writes =
      ap statement
      (one-of writes_of (Temp t) statements s (Set (Temp t) value) (omega (arith, ap (λ xs. times_in xs (Temp t)) (flat-flat (λ (b : Block). b.stmts) writes_of graph.blocks) ∙ once)) here there (places-written s (Temp t) writes)
      (ap (λ b. b || false) (location_itself (Temp t))))

  -- of the Set that is carried
  pub carried-there : (t : ℕ) (value : Expr) (steps : List Step) → All IsOf steps → IsCarried t value steps → Contains statements (Set (Temp t) value)
  carried-there t value steps all is =
      All-head IsOf (statement (Set (Temp t) value)) is.between
      (front-steps IsOf is.before (statement (Set (Temp t) value) ∷ is.between) (subst (All IsOf) is.steps_are all)) (Set (Temp t) value) refl
