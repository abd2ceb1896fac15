-- Operations that make values, in their procedure: what they do, by what is told of places.
use Rattle.std.proofs.Common.{◌≡◌, ℕ, ℤ, Bool, true, false, not, ◌&&◌, if◌then◌else◌, ◌⊎◌, inl, inr, List, ◌++◌, Option, None, refl, sym, ap, ◌∙◌, subst, true≢false}
use Rattle.std.specs.List.{list_all}
use Rattle.dcc_num.specs.declared.Half.{Half as HalfName}
use Rattle.dcc_machine.specs.declared.instr.Op.{Op}
use Rattle.dcc_ir.specs.declared.syntax.Loc.{Loc}
use Rattle.dcc_ir.specs.declared.syntax.Loc.TheVariants.{Half, Flag, Cell, Temp}
use Rattle.dcc_ir.specs.Tree.{Stmt}
use Rattle.dcc_lift.proofs.ListTests.{and_left, and_right, and_both}
use Rattle.dcc_simulation.specs.Procedures.{Procedure, pushed_of}
use Rattle.dcc_demand.specs.Procedures.{Effect, Leaves, Makes, LeavesWord, Overwrites, Action, Procedures, is_left}
use Rattle.dcc_machine_demand.specs.Bodies.{Body, Point, op_of}
use Rattle.dcc_machine_demand.specs.Holders.{Holder, in_frame, is_holder, is_exposed_holder}
use Rattle.dcc_machine_demand.specs.Values.{value_written, is_sure, value_made_of, value_uses}
use Rattle.dcc_machine_demand.specs.Instance as asks
use Rattle.dcc_sums.specs.Points.{Position}
use Rattle.dcc_sums.specs.Instance.{is_pushed}
use Rattle.dcc_refinement.specs.Refinement.{Refinement, Carries, Takes}
use Rattle.dcc_lifted_demand.specs.Sources.{sources, used}
use Rattle.dcc_lifted_demand.specs.LiftedRefinement.{IsSame, IsSameWord}
use Rattle.dcc_instruction_demand.specs.Agreement.{Agrees}
use Rattle.dcc_instruction_demand.proofs.ShownLaws.{Shows}
use Rattle.dcc_instruction_demand.proofs.ValueLaws.{is_value, is_written, value_agrees}

-- the cell of a word that is pushed
pub pushed_cell : (n : ℕ) (l : Loc) → is_pushed n l ≡ true → (m : ℕ) × (h : HalfName) × (l ≡ Cell m h)
pushed_cell n (Cell m h) t = (m, h, refl)
pushed_cell n (Half r h) t = absurd (true≢false (sym t))
pushed_cell n (Flag f) t = absurd (true≢false (sym t))
pushed_cell n (Temp m) t = absurd (true≢false (sym t))

module _ (coarse : Procedures ℕ Holder ℤ) (fine : Procedures Position Loc Loc) (r : Refinement ℕ Holder ℤ Position Loc Loc) (entry at : ℕ) (o : Option Procedure) (bodies : List Body) (body : Body) (point : Point) where
  abbrev x : Action Holder ℤ
  x = (coarse.procedure entry).action at

  abbrev pub op : Op
  op = op_of point

  abbrev pub number : Option ℕ
  number = point.node.number

  abbrev pub written : Holder → Bool
  written L = value_written body (op_of point) point.node.number L

  -- the instruction at the offset is one
  pub record IsValueOperation : Type 0 where
    pub same : (L : Holder) (l : Loc) → r.same entry L l → IsSame o L l
    pub as_same : (L : Holder) (l : Loc) → IsSame o L l → r.same entry L l
    pub same_word : (k : ℤ) (l : Loc) → r.same_word entry k l → IsSameWord o k l
    pub exposed : (L : Holder) → (coarse.procedure entry).is_exposed L ≡ is_exposed_holder body L
    pub is : (coarse.procedure entry).action at ≡ asks.action_of bodies body point
    pub effect_is : (L : Holder) → asks.effect_at bodies body point L ≡ (if written L then Makes else Leaves)
    pub made_is : (to from : Holder) → asks.made_at bodies body point to from ≡ value_made_of body (op_of point) to from
    pub uses_is : (L : Holder) → asks.uses_at bodies body point L ≡ value_uses body (op_of point) point.node.number L
    pub word_is : (k : ℤ) → (asks.action_of bodies body point).word_effect k ≡ (if written (in_frame k) then Overwrites else LeavesWord)
    pub callee_is : asks.callee_of (op_of point) ≡ None

  module _ (v : IsValueOperation) where
    pub effect_there : (L : Holder) → x.effect L ≡ (if written L then Makes else Leaves)
    effect_there L = ap (λ (y : Action Holder ℤ). y.effect L) v.is ∙ v.effect_is L

    pub made_there : (to from : Holder) → x.made_of to from ≡ (is_holder body from && value_made_of body (op_of point) to from)
    made_there to from = ap (λ (y : Action Holder ℤ). y.made_of to from) v.is ∙ ap (λ b. is_holder body from && b) (v.made_is to from)

    pub uses_there : (L : Holder) → x.uses L ≡ (is_holder body L && value_uses body (op_of point) point.node.number L)
    uses_there L = ap (λ (y : Action Holder ℤ). y.uses L) v.is ∙ ap (λ b. is_holder body L && b) (v.uses_is L)

    pub word_there : (k : ℤ) → x.word_effect k ≡ (if written (in_frame k) then Overwrites else LeavesWord)
    word_there k = ap (λ (y : Action Holder ℤ). y.word_effect k) v.is ∙ v.word_is k

    pub callee_there : x.callee ≡ None
    callee_there = ap (λ (y : Action Holder ℤ). y.callee) v.is ∙ v.callee_is

    unleft : (b : Bool) (e : Effect Holder ℤ) → e ≡ (if b then Makes else Leaves) → not (is_left e) ≡ b
    unleft true e f = ap (λ y. not (is_left y)) f
    unleft false e f = ap (λ y. not (is_left y)) f

    surely_there : (L : Holder) → x.surely L ≡ (written L && is_sure (op_of point) L)
    surely_there L =
        ap (λ (y : Action Holder ℤ). y.surely L) v.is ∙ ap (λ b. b && is_sure (op_of point) L) (unleft (written L) (asks.effect_at bodies body point L) (v.effect_is L))

    writes_left : (b : Bool) (e : Effect Holder ℤ) → e ≡ (if b then Makes else Leaves) → is_left e ≡ false → b ≡ true
    writes_left true e f w = refl
    writes_left false e f w = absurd (true≢false (sym (ap is_left f) ∙ w))

    left_written : (b : Bool) (e : Effect Holder ℤ) → e ≡ (if b then Makes else Leaves) → b ≡ true → is_left e ≡ false
    left_written true e f w = ap is_left f
    left_written false e f w = absurd (true≢false (sym w))

    pub writes_if : (L : Holder) → is_left (x.effect L) ≡ false → written L ≡ true
    writes_if L w = writes_left (written L) (x.effect L) (effect_there L) w

    pub if_writes : (L : Holder) → written L ≡ true → is_left (x.effect L) ≡ false
    if_writes L w = left_written (written L) (x.effect L) (effect_there L) w

    -- What an operation carries on: what it makes of something, or what may stay.
    pub data CarriesOn (L A : Holder) : Type 0 where
      made : written A ≡ true → is_holder body L ≡ true → value_made_of body (op_of point) A L ≡ true → CarriesOn L A
      stays : L ≡ A → (written A && is_sure (op_of point) A) ≡ false → CarriesOn L A

    pub carries_on : (L A : Holder) → Carries coarse fine r entry at L A → CarriesOn L A
    carries_on L A (inl m) =
        let both = sym (made_there A L) ∙ m.1 in
        CarriesOn.made (writes_if A m.0) (and_left (is_holder body L) (value_made_of body (op_of point) A L) both)
        (and_right (is_holder body L) (value_made_of body (op_of point) A L) both)
    carries_on L A (inr k) = CarriesOn.stays k.0 (sym (surely_there A) ∙ subst (λ M. x.surely M ≡ false) k.0 k.1)

    pub on_carries : (L A : Holder) → CarriesOn L A → Carries coarse fine r entry at L A
    on_carries L A (CarriesOn.made w p m) =
        inl (if_writes A w, made_there A L ∙ and_both (is_holder body L) (value_made_of body (op_of point) A L) p m)
    on_carries L A (CarriesOn.stays e s) = inr (e, subst (λ M. x.surely M ≡ false) (sym e) (surely_there A ∙ s))

    -- what an operation uses at once is a place that its table names
    pub uses_if : (L : Holder) → x.uses L ≡ true → (is_holder body L ≡ true) × (value_uses body (op_of point) point.node.number L ≡ true)
    uses_if L u =
        let both = sym (uses_there L) ∙ u in
        (and_left (is_holder body L) (value_uses body (op_of point) point.node.number L) both, and_right (is_holder body L) (value_uses body (op_of point) point.node.number L) both)

    pub if_uses : (L : Holder) → is_holder body L ≡ true → value_uses body (op_of point) point.node.number L ≡ true → Takes coarse fine r entry at L
    if_uses L p u = inl (uses_there L ∙ and_both (is_holder body L) (value_uses body (op_of point) point.node.number L) p u)

    -- Statements that write what it writes, and make and use just what it does.
    module _ (pushed : ℕ) (stmts : List Stmt) (after : List Loc) where
      pub record DoAll : Type 0 where
        pub values : list_all is_value stmts ≡ true
        pub writes : (L : Holder) (l : Loc) → r.same entry L l → written L ≡ is_written stmts l
        pub using : Shows (r.same entry) (Takes coarse fine r entry at) (used stmts after)
        pub making : (A : Holder) (a : Loc) → r.same entry A a
            → Shows (r.same entry) (λ L. Carries coarse fine r entry at L A ⊎ Takes coarse fine r entry at L) (sources stmts a ++ used stmts after)
        pub made : (A : Holder) → written A ≡ true → ((coarse.procedure entry).is_exposed A ≡ true) ⊎ ((l : Loc) × r.same entry A l)

      pub operation_agrees : DoAll → Agrees coarse fine r entry at pushed stmts after
      operation_agrees all = value_agrees coarse fine r entry at pushed stmts after (record {
        written = λ L. written L;
        word_written = λ k. written (in_frame k);
        effect = effect_there;
        word_effect = word_there;
        callee = callee_there;
        values = all.values;
        writes = all.writes;
        writes_word = λ k l s.
            let is = v.same_word k l s in
            (all.writes (in_frame k) l (v.as_same (in_frame k) l (IsSame.is_kept is.is_found is.kept)), pushed_cell (pushed_of is.found) l is.pushed);
        using = all.using;
        making = all.making;
        made = λ L A n m. all.made A (writes_if A n);
      })
