-- Operations on halves and flags that are told by the operation alone: what they make and use is a table.
use Rattle.std.proofs.Common.{◌≡◌, ◌<◌, ℕ, ℤ, zero, suc, Bool, true, false, not, ◌&&◌, ◌||◌, ◌⊎◌, inl, inr, List, [], ◌∷◌, ◌++◌, length, get_or, Option, refl, sym, ap, ◌∙◌, subst, true≢false, arith}
use Rattle.std.specs.Prelude.{Contains}
use Rattle.std.specs.List.{list_all}
use Rattle.std.proofs.lemmas.List.Elements.{Contains-append_right, Contains-append_cases}
use Rattle.dcc_num.specs.declared.Reg.TheVariants.{Ax, Cx, Dx, Bx, Sp, Bp, Si, Di}
use Rattle.dcc_num.specs.declared.Half.{Half as HalfName}
use Rattle.dcc_num.specs.declared.Half.TheVariants.{Low, High}
use Rattle.dcc_num.specs.declared.FlagName.TheVariants.{Cf, Zf, Sf, Of}
use Rattle.dcc_machine.specs.declared.instr.Op.{Op}
use Rattle.dcc_machine.specs.Machine.{is_general}
use Rattle.dcc_machine.specs.Wanted.{Location, half_of, flag_of, surely_writes_half}
use Rattle.dcc_ir.specs.declared.syntax.Loc.{Loc}
use Rattle.dcc_ir.specs.declared.syntax.Loc.TheVariants.{Half, Flag, Cell, Temp}
use Rattle.dcc_ir.specs.Location.{same_location}
use Rattle.dcc_ir.specs.Tree.{Stmt}
use Rattle.dcc_ir.specs.Live.{is_among}
use Rattle.dcc_ir.proofs.LocationLaws.{location_same, location_itself, among_contains, contains_among}
use Rattle.dcc_lift.proofs.ListTests.{and_left, and_right, and_both, or_here, or_there, or_cases, not_true}
use Rattle.dcc_simulation.specs.Procedures.{Procedure}
use Rattle.dcc_demand.specs.Procedures.{Procedures}
use Rattle.dcc_machine_demand.specs.Bodies.{Body, Point, op_of}
use Rattle.dcc_machine_demand.specs.Holders.{Holder, held, in_frame, passes, passed}
use Rattle.dcc_machine_demand.specs.Values.{value_written, is_sure, value_made_of, value_uses}
use Rattle.dcc_sums.specs.Points.{Position}
use Rattle.dcc_sums.specs.Instance as sums
use Rattle.dcc_refinement.specs.Refinement.{Refinement, Carries, Takes}
use Rattle.dcc_lifted_demand.specs.Sources.{sources, used}
use Rattle.dcc_lifted_demand.specs.LiftedRefinement.{inner_of, IsSame}
use Rattle.dcc_lifted_demand.proofs.SameLaws.{same_passes, one_location, SameCases, same_cases}
use Rattle.dcc_instruction_demand.specs.Agreement.{Agrees}
use Rattle.dcc_instruction_demand.proofs.IdleLaws.{same_once}
use Rattle.dcc_instruction_demand.proofs.ShownLaws.{Shows, shows_one, shows_both, shows_alike}
use Rattle.dcc_instruction_demand.proofs.OperationLaws.{IsValueOperation, CarriesOn, writes_if, carries_on, on_carries}
use Rattle.dcc_instruction_demand.proofs.OperationLaws.{uses_if, if_uses, operation_agrees}
use Rattle.dcc_instruction_demand.proofs.ValueLaws.{is_value, is_written}

-- Tests of all members.

pub at_index : {X : Type 0} (f : X → Bool) (xs : List X) (k : ℕ) (d : X) → list_all f xs ≡ true → k < length xs → f (get_or xs k d) ≡ true
at_index f [] k d t lt = absurd (omega (arith, lt))
at_index f (x ∷ xs) zero d t lt = and_left (f x) (list_all f xs) t
at_index f (x ∷ xs) (suc k) d t lt = at_index f xs k d (and_right (f x) (list_all f xs) t) (omega (arith, lt))

pub all_contained : {X : Type 0} (f : X → Bool) (xs : List X) (x : X) → list_all f xs ≡ true → Contains xs x → f x ≡ true
all_contained f xs x t c = sym (ap f c.2) ∙ at_index f xs c.0 x t c.1

-- what holds of all halves and flags that pass
pub every : (f : Location → Bool) → list_all f passed ≡ true → (location : Location) → passes (held location) ≡ true → f location ≡ true
every f t (half_of Ax Low) p = at_index f passed 0 (half_of Ax Low) t (omega arith)
every f t (half_of Ax High) p = at_index f passed 1 (half_of Ax High) t (omega arith)
every f t (half_of Cx Low) p = at_index f passed 2 (half_of Cx Low) t (omega arith)
every f t (half_of Cx High) p = at_index f passed 3 (half_of Cx High) t (omega arith)
every f t (half_of Dx Low) p = at_index f passed 4 (half_of Dx Low) t (omega arith)
every f t (half_of Dx High) p = at_index f passed 5 (half_of Dx High) t (omega arith)
every f t (half_of Bx Low) p = at_index f passed 6 (half_of Bx Low) t (omega arith)
every f t (half_of Bx High) p = at_index f passed 7 (half_of Bx High) t (omega arith)
every f t (half_of Si Low) p = at_index f passed 8 (half_of Si Low) t (omega arith)
every f t (half_of Si High) p = at_index f passed 9 (half_of Si High) t (omega arith)
every f t (half_of Di Low) p = at_index f passed 10 (half_of Di Low) t (omega arith)
every f t (half_of Di High) p = at_index f passed 11 (half_of Di High) t (omega arith)
every f t (half_of Sp Low) p = absurd (true≢false (sym p))
every f t (half_of Sp High) p = absurd (true≢false (sym p))
every f t (half_of Bp Low) p = absurd (true≢false (sym p))
every f t (half_of Bp High) p = absurd (true≢false (sym p))
every f t (flag_of Cf) p = at_index f passed 12 (flag_of Cf) t (omega arith)
every f t (flag_of Zf) p = at_index f passed 13 (flag_of Zf) t (omega arith)
every f t (flag_of Sf) p = at_index f passed 14 (flag_of Sf) t (omega arith)
every f t (flag_of Of) p = at_index f passed 15 (flag_of Of) t (omega arith)

-- a location that passes is a half or a flag
pub outer : (l : Loc) → sums.passes l ≡ true → (location : Location) × (passes (held location) ≡ true) × (inner_of location ≡ l)
outer (Half r h) t = (half_of r h, same_passes (half_of r h) ∙ t, refl)
outer (Flag f) t = (flag_of f, refl, refl)
outer (Cell n h) t = absurd (true≢false (sym t))
outer (Temp n) t = absurd (true≢false (sym t))

-- the two tests are one
abbrev pub same_test : Bool → Bool → Bool
same_test true b = b
same_test false b = not b

pub tests_same : (a b : Bool) → same_test a b ≡ true → a ≡ b
tests_same true b t = sym t
tests_same false b t = sym (not_true b t)

-- The table of an operation.

module _ (body : Body) (op : Op) (number : Option ℕ) (stmts : List Stmt) (after : List Loc) where
  -- what the operation gives the first location is made of the second, or the second is the first and may stay
  abbrev pub carries_to : Location → Location → Bool
  carries_to to from =
      (value_written body op number (held to) && value_made_of body op (held to) (held from))
      || (same_location (inner_of from) (inner_of to) && not (value_written body op number (held to) && is_sure op (held to)))

  abbrev pub uses_half : Location → Bool
  uses_half location = value_uses body op number (held location)

  abbrev pub row : Location → Bool
  row to =
      list_all (λ from. same_test (carries_to to from || uses_half from) (is_among (sources stmts (inner_of to) ++ used stmts after) (inner_of from))) passed
      && (list_all sums.passes (sources stmts (inner_of to))
      && same_test (value_written body op number (held to)) (is_written stmts (inner_of to)))

  -- the table of the operation tells rightly of all halves and flags
  abbrev pub is_told : Bool
  is_told =
      list_all row passed
      && (list_all (λ from. same_test (uses_half from) (is_among (used stmts after) (inner_of from))) passed
      && (list_all sums.passes (used stmts after) && list_all is_value stmts))

  -- the statements do what is told of them of all halves and flags, and leave cells
  pub record IsClosed : Type 0 where
    pub told : is_told ≡ true
    pub cells : (n : ℕ) (h : HalfName) → sources stmts (Cell n h) ≡ Cell n h ∷ []
    pub unwritten : (n : ℕ) (h : HalfName) → is_written stmts (Cell n h) ≡ false
    pub no_write : (k : ℤ) → value_written body op number (in_frame k) ≡ false
    pub no_use : (k : ℤ) → value_uses body op number (in_frame k) ≡ false
    pub not_made : (location : Location) (k : ℤ) → value_made_of body op (held location) (in_frame k) ≡ false

-- all locations that pass are places of the other ones
module _ (coarse : Procedures ℕ Holder ℤ) (fine : Procedures Position Loc Loc) (r : Refinement ℕ Holder ℤ Position Loc Loc) (entry at pushed : ℕ) (stmts : List Stmt) (after : List Loc)
    (o : Option Procedure) (bodies : List Body) (body : Body) (point : Point) (v : IsValueOperation coarse fine r entry at o bodies body point)
    (closed : IsClosed body (op_of point) point.node.number stmts after) where
  abbrev op : Op
  op = op_of point

  abbrev number : Option ℕ
  number = point.node.number

  abbrev users : List Loc
  users = used stmts after

  abbrev uses_one : Location → Bool
  uses_one location = uses_half body op number stmts after location

  abbrev carries_one : Location → Location → Bool
  carries_one to from = carries_to body op number stmts after to from

  abbrev rest_told : Bool
  rest_told =
      list_all (λ from. same_test (uses_one from) (is_among users (inner_of from))) passed
      && (list_all sums.passes users && list_all is_value stmts)

  row_of : (to : Location) → passes (held to) ≡ true → row body op number stmts after to ≡ true
  row_of to p = every (row body op number stmts after) (and_left (list_all (row body op number stmts after) passed) rest_told closed.told) to p

  rest : rest_told ≡ true
  rest = and_right (list_all (row body op number stmts after) passed) rest_told closed.told

  uses_are : (from : Location) → passes (held from) ≡ true → uses_one from ≡ is_among users (inner_of from)
  uses_are from p =
      tests_same (uses_one from) (is_among users (inner_of from))
      (every (λ from. same_test (uses_one from) (is_among users (inner_of from)))
      (and_left (list_all (λ from. same_test (uses_one from) (is_among users (inner_of from))) passed) (list_all sums.passes users && list_all is_value stmts) rest) from p)

  last : (list_all sums.passes users && list_all is_value stmts) ≡ true
  last = and_right (list_all (λ from. same_test (uses_one from) (is_among users (inner_of from))) passed) (list_all sums.passes users && list_all is_value stmts) rest

  module _ (to : Location) (p : passes (held to) ≡ true) where
    abbrev made : List Loc
    made = sources stmts (inner_of to) ++ users

    abbrev tests : Bool
    tests = list_all (λ from. same_test (carries_one to from || uses_one from) (is_among made (inner_of from))) passed

    abbrev others : Bool
    others = list_all sums.passes (sources stmts (inner_of to)) && same_test (value_written body op number (held to)) (is_written stmts (inner_of to))

    made_are : (from : Location) → passes (held from) ≡ true → (carries_one to from || uses_one from) ≡ is_among made (inner_of from)
    made_are from q =
        tests_same (carries_one to from || uses_one from) (is_among made (inner_of from))
        (every (λ from. same_test (carries_one to from || uses_one from) (is_among made (inner_of from))) (and_left tests others (row_of to p)) from q)

    made_pass : list_all sums.passes (sources stmts (inner_of to)) ≡ true
    made_pass = and_left (list_all sums.passes (sources stmts (inner_of to))) (same_test (value_written body op number (held to)) (is_written stmts (inner_of to))) (and_right tests others (row_of to p))

    writes_are : value_written body op number (held to) ≡ is_written stmts (inner_of to)
    writes_are =
        tests_same (value_written body op number (held to)) (is_written stmts (inner_of to))
        (and_right (list_all sums.passes (sources stmts (inner_of to))) (same_test (value_written body op number (held to)) (is_written stmts (inner_of to))) (and_right tests others (row_of to p)))

  -- What is used.

  unwritten_exposed : (L : Holder) → (coarse.procedure entry).is_exposed L ≡ true → value_written body op number L ≡ true → ⊥
  unwritten_exposed (held location) e w = true≢false (sym e ∙ v.exposed (held location))
  unwritten_exposed (in_frame k) e w = true≢false (sym w ∙ closed.no_write k)

  takes_half : (L : Holder) → Takes coarse fine r entry at L → (location : Location) × (L ≡ held location) × (passes (held location) ≡ true) × (uses_one location ≡ true)
  takes_half (held location) (inl u) =
      let both = uses_if coarse fine r entry at o bodies body point v (held location) u in
      (location, refl, both.0, both.1)
  takes_half (in_frame k) (inl u) = absurd (true≢false (sym (uses_if coarse fine r entry at o bodies body point v (in_frame k) u).1 ∙ closed.no_use k))
  takes_half L (inr (to, b, e, c, w, m)) = absurd (unwritten_exposed to e (writes_if coarse fine r entry at o bodies body point v to w))

  in_inner : (L : Holder) (l : Loc) (location : Location) → r.same entry L l → L ≡ held location → inner_of location ≡ l
  in_inner L l location s e = by (same_cases o (v.same L l s))
    where
      by : SameCases o L l → inner_of location ≡ l
      by (SameCases.by_held a p f g) = let one : a ≡ location = cc (e, f) in sym (ap inner_of one) ∙ sym g
      by (SameCases.by_kept found k p f kept g) = absurd (cc (e, f))

  -- a location that passes is a place
  as_place : (l : Loc) → sums.passes l ≡ true → (location : Location) × (passes (held location) ≡ true) × (inner_of location ≡ l) × r.same entry (held location) l
  as_place l t =
      let found = outer l t in
      (found.0, found.1, found.2, subst (λ m. r.same entry (held found.0) m) found.2 (v.as_same (held found.0) (inner_of found.0) (IsSame.is_held found.1)))

  using : Shows (r.same entry) (Takes coarse fine r entry at) users
  using = record {
    has = λ L l s t.
        let half = takes_half L t in
        among_contains users l
        (subst (λ m. is_among users m ≡ true) (in_inner L l half.0 s half.1) (sym (uses_are half.0 half.2) ∙ half.3));
    comes = λ l c.
        let found = as_place l (all_contained sums.passes users l (and_left (list_all sums.passes users) (list_all is_value stmts) last) c) in (
          held found.0,
          found.3,
          if_uses coarse fine r entry at o bodies body point v (held found.0) found.1
              (uses_are found.0 found.1 ∙ ap (is_among users) found.2 ∙ contains_among users l c),
        );
  }

  -- What is made.

  -- what the operation carries to a half or a flag comes from a half or a flag
  carries_half : (to : Location) (L : Holder) → CarriesOn coarse fine r entry at o bodies body point v L (held to) → passes (held to) ≡ true
      → (from : Location) × (L ≡ held from) × (passes (held from) ≡ true) × (carries_one to from ≡ true)
  carries_half to (held from) (CarriesOn.made w q m) p = (
    from,
    refl,
    q,
    or_here (value_written body op number (held to) && value_made_of body op (held to) (held from))
        (same_location (inner_of from) (inner_of to) && not (value_written body op number (held to) && is_sure op (held to)))
        (and_both (value_written body op number (held to)) (value_made_of body op (held to) (held from)) w m),
  )
  carries_half to (in_frame k) (CarriesOn.made w q m) p = absurd (true≢false (sym m ∙ closed.not_made to k))
  carries_half to L (CarriesOn.stays e s) p = (
    to,
    e,
    p,
    or_there (value_written body op number (held to) && value_made_of body op (held to) (held to))
        (same_location (inner_of to) (inner_of to) && not (value_written body op number (held to) && is_sure op (held to)))
        (and_both (same_location (inner_of to) (inner_of to)) (not (value_written body op number (held to) && is_sure op (held to))) (location_itself (inner_of to)) (ap not s)),
  )

  one_carries : (to from : Location) → passes (held from) ≡ true → carries_one to from ≡ true → CarriesOn coarse fine r entry at o bodies body point v (held from) (held to)
  one_carries to from q t = elim (or_cases (value_written body op number (held to) && value_made_of body op (held to) (held from)) (same_location (inner_of from) (inner_of to) && not (value_written body op number (held to) && is_sure op (held to))) t) [
    | inl m ↦ CarriesOn.made (and_left (value_written body op number (held to)) (value_made_of body op (held to) (held from)) m) q (and_right (value_written body op number (held to)) (value_made_of body op (held to) (held from)) m)
    | inr k ↦
        let same = location_same (inner_of from) (inner_of to) (and_left (same_location (inner_of from) (inner_of to)) (not (value_written body op number (held to) && is_sure op (held to))) k) in
        CarriesOn.stays (ap held (one_location from to same)) (not_true (value_written body op number (held to) && is_sure op (held to)) (and_right (same_location (inner_of from) (inner_of to)) (not (value_written body op number (held to) && is_sure op (held to))) k))
  ]

  making_half : (to : Location) (p : passes (held to) ≡ true) → Shows (r.same entry) (λ L. Carries coarse fine r entry at L (held to) ⊎ Takes coarse fine r entry at L) (made to p)
  making_half to p = record {
    has = λ L l s t. elim t [
      | inl c ↦
          let half = carries_half to L (carries_on coarse fine r entry at o bodies body point v L (held to) c) p in
          among_contains (made to p) l
          (subst (λ m. is_among (made to p) m ≡ true) (in_inner L l half.0 s half.1) (sym (made_are to p half.0 half.2) ∙ or_here (carries_one to half.0) (uses_one half.0) half.3))
      | inr u ↦ Contains-append_right (sources stmts (inner_of to)) users l (using.has L l s u)
    ];
    comes = λ l c.
        let found = as_place l (elim (Contains-append_cases (sources stmts (inner_of to)) users l c) [
          | inl d ↦ all_contained sums.passes (sources stmts (inner_of to)) l (made_pass to p) d
          | inr d ↦ all_contained sums.passes users l (and_left (list_all sums.passes users) (list_all is_value stmts) last) d
        ]) in
        (held found.0, found.3, told found.0 found.1 (made_are to p found.0 found.1 ∙ ap (is_among (made to p)) found.2 ∙ contains_among (made to p) l c));
  }
    where
      told : (from : Location) → passes (held from) ≡ true → (carries_one to from || uses_one from) ≡ true
          → Carries coarse fine r entry at (held from) (held to) ⊎ Takes coarse fine r entry at (held from)
      told from q t = elim (or_cases (carries_one to from) (uses_one from) t) [
        | inl m ↦ inl (on_carries coarse fine r entry at o bodies body point v (held from) (held to) (one_carries to from q m))
        | inr u ↦ inr (if_uses coarse fine r entry at o bodies body point v (held from) q u)
      ]

  -- a cell stays
  making_cell : (k : ℤ) (a : Loc) → r.same entry (in_frame k) a → sources stmts a ≡ a ∷ [] → Shows (r.same entry) (λ L. Carries coarse fine r entry at L (in_frame k) ⊎ Takes coarse fine r entry at L) (sources stmts a ++ users)
  making_cell k a t alone =
      subst (λ xs. Shows (r.same entry) (λ L. Carries coarse fine r entry at L (in_frame k) ⊎ Takes coarse fine r entry at L) (xs ++ users)) (sym alone)
      (shows_alike (r.same entry) (λ L. (L ≡ in_frame k) ⊎ Takes coarse fine r entry at L) (λ L. Carries coarse fine r entry at L (in_frame k) ⊎ Takes coarse fine r entry at L) ((a ∷ []) ++ users) ((a ∷ []) ++ users)
      (shows_both (r.same entry) (λ L. L ≡ in_frame k) (Takes coarse fine r entry at) (a ∷ []) users
      (shows_one (r.same entry) (λ L l m s u. same_once (v.same L l s) (v.same L m u)) (in_frame k) a t) using)
      (λ L l s q. elim q [
        | inl e ↦ inl (on_carries coarse fine r entry at o bodies body point v L (in_frame k) (CarriesOn.stays e (ap (λ b. b && is_sure op (in_frame k)) (closed.no_write k))))
        | inr u ↦ inr u
      ])
      (λ L l s q. elim q [
        | inl c ↦ inl (stays L (carries_on coarse fine r entry at o bodies body point v L (in_frame k) c))
        | inr u ↦ inr u
      ]) (λ l c. c) (λ l c. c))
    where
      stays : (L : Holder) → CarriesOn coarse fine r entry at o bodies body point v L (in_frame k) → L ≡ in_frame k
      stays L (CarriesOn.made w q m) = absurd (true≢false (sym w ∙ closed.no_write k))
      stays L (CarriesOn.stays e s) = e

  making : (A : Holder) (a : Loc) → r.same entry A a → Shows (r.same entry) (λ L. Carries coarse fine r entry at L A ⊎ Takes coarse fine r entry at L) (sources stmts a ++ users)
  making A a t = by (same_cases o (v.same A a t))
    where
      by : SameCases o A a → Shows (r.same entry) (λ L. Carries coarse fine r entry at L A ⊎ Takes coarse fine r entry at L) (sources stmts a ++ users)
      by (SameCases.by_held to p e f) =
          subst (λ B. Shows (r.same entry) (λ L. Carries coarse fine r entry at L B ⊎ Takes coarse fine r entry at L) (sources stmts a ++ users)) (sym e)
          (subst (λ b. Shows (r.same entry) (λ L. Carries coarse fine r entry at L (held to) ⊎ Takes coarse fine r entry at L) (sources stmts b ++ users)) (sym f) (making_half to p))
      by (SameCases.by_kept found k p e kept g) =
          let alone : sources stmts a ≡ a ∷ [] = subst (λ b. sources stmts b ≡ b ∷ []) (sym kept.is) (closed.cells kept.number kept.half) in
          subst (λ B. Shows (r.same entry) (λ L. Carries coarse fine r entry at L B ⊎ Takes coarse fine r entry at L) (sources stmts a ++ users)) (sym e)
          (making_cell k a (subst (λ B. r.same entry B a) e t) alone)

  writes : (L : Holder) (l : Loc) → r.same entry L l → value_written body op number L ≡ is_written stmts l
  writes L l t = by (same_cases o (v.same L l t))
    where
      by : SameCases o L l → value_written body op number L ≡ is_written stmts l
      by (SameCases.by_held to p e f) = ap (value_written body op number) e ∙ writes_are to p ∙ sym (ap (is_written stmts) f)
      by (SameCases.by_kept found k p e kept g) =
          ap (value_written body op number) e ∙ closed.no_write k ∙ sym (ap (is_written stmts) kept.is ∙ closed.unwritten kept.number kept.half)

  written_somewhere : (L : Holder) → value_written body op number L ≡ true → (l : Loc) × r.same entry L l
  written_somewhere (held location) w = (inner_of location, v.as_same (held location) (inner_of location) (IsSame.is_held (general location w)))
    where
      general : (location : Location) → value_written body op number (held location) ≡ true → passes (held location) ≡ true
      general (half_of r half) w = and_left (is_general r) (surely_writes_half op number r half) w
      general (flag_of flag) w = refl
  written_somewhere (in_frame k) w = absurd (true≢false (sym w ∙ closed.no_write k))

  pub closed_agrees : Agrees coarse fine r entry at pushed stmts after
  closed_agrees = operation_agrees coarse fine r entry at o bodies body point v pushed stmts after (record {
    values = and_right (list_all sums.passes users) (list_all is_value stmts) last;
    writes = writes;
    using = using;
    making = making;
    made = λ A w. inr (written_somewhere A w);
  })
