-- Operations that take two operands and leave what they make in halves of registers and flags.
use Rattle.std.proofs.Common.{◌≡◌, ℕ, ℤ, Bool, true, false, not, ◌&&◌, if◌then◌else◌, ◌⊎◌, inl, inr, List, [], ◌∷◌, ◌++◌, map, Option, refl, sym, ap, ◌∙◌, subst, true≢false}
use Rattle.std.specs.Prelude.{flat_map}
use Rattle.std.specs.List.{list_all}
use Rattle.dcc_num.specs.declared.Width.{Width}
use Rattle.dcc_num.specs.declared.Half.{Half as HalfName}
use Rattle.dcc_num.specs.declared.FlagName.TheVariants.{Cf}
use Rattle.dcc_machine.specs.Machine.{is_general}
use Rattle.dcc_machine.specs.Wanted.{Location, half_of, flag_of, surely_writes_half}
use Rattle.dcc_ir.specs.declared.syntax.Loc.{Loc}
use Rattle.dcc_ir.specs.declared.syntax.Loc.TheVariants.{Half, Flag, Cell}
use Rattle.dcc_ir.specs.Tree.{Stmt}
use Rattle.dcc_ops.specs.OperandPlace.{OperandPlace, taking}
use Rattle.dcc_ops.specs.Temporaries.{left_place, right_place}
use Rattle.dcc_lift.proofs.ListTests.{and_left, and_right, and_both, not_true}
use Rattle.dcc_simulation.specs.Procedures.{Procedure}
use Rattle.dcc_demand.specs.Procedures.{Procedures}
use Rattle.dcc_machine_demand.specs.Bodies.{Body, Point, op_of}
use Rattle.dcc_machine_demand.specs.Holders.{Holder, held, in_frame, passes, passed, is_holder}
use Rattle.dcc_machine_demand.specs.Values.{value_written, is_sure, value_made_of, value_uses}
use Rattle.dcc_sums.specs.Points.{Position}
use Rattle.dcc_refinement.specs.Refinement.{Refinement, Carries, Takes}
use Rattle.dcc_lifted_demand.specs.Sources.{sources, used}
use Rattle.dcc_lifted_demand.specs.LiftedRefinement.{inner_of, IsSame}
use Rattle.dcc_lifted_demand.proofs.SameLaws.{SameCases, same_cases}
use Rattle.dcc_instruction_demand.specs.Agreement.{Agrees}
use Rattle.dcc_instruction_demand.proofs.ShownLaws.{Shows, shows_alike}
use Rattle.dcc_instruction_demand.proofs.ValueLaws.{is_value, is_written}
use Rattle.dcc_instruction_demand.proofs.OperationLaws.{IsValueOperation, CarriesOn, writes_if, uses_if, if_uses}
use Rattle.dcc_instruction_demand.proofs.OperationLaws.{operation_agrees}
use Rattle.dcc_instruction_demand.proofs.ClosedLaws.{every, same_test, tests_same}
use Rattle.dcc_instruction_demand.proofs.StageLaws.{HaveSame, have_equal, have_then, have_mapped, have_same}
use Rattle.dcc_instruction_demand.proofs.StageLaws.{have_tested, reads_at, is_lasting, before_both, sources_taken}
use Rattle.dcc_instruction_demand.proofs.StageLaws.{used_taken}
use Rattle.dcc_instruction_demand.proofs.FormLaws.{Input, itself, input_location, has_itself, made_by, MadeOfAny}
use Rattle.dcc_instruction_demand.proofs.FormLaws.{IsMade, is_made, any_made, inputs_shown, making_of, both_written}
use Rattle.dcc_instruction_demand.proofs.FormLaws.{both_values}

-- What is done after taking: which halves and flags it writes, what it makes these of, and what it uses.
module _ (w : Width) (working : List Stmt) (writes : Location → Bool) (made : Location → List Input) (used_inputs : List Input) where
  abbrev pub held_inputs : Location → List Input
  held_inputs location = if writes location then made location else itself ∷ []

  abbrev pub held_row : Location → Bool
  held_row location =
      have_same (sources working (inner_of location)) (map (input_location w (inner_of location)) (held_inputs location))
      && (same_test (writes location) (is_written working (inner_of location)) && not (has_itself (made location)))

  pub record IsHeldWork : Type 0 where
    pub told : list_all held_row passed ≡ true
    pub values : list_all is_value working ≡ true
    pub used_are : have_same (used working []) (map (input_location w (Flag Cf)) used_inputs) ≡ true
    pub uses_new : has_itself used_inputs ≡ false
    pub cell_is : (n : ℕ) (h : HalfName) → sources working (Cell n h) ≡ Cell n h ∷ []
    pub cell_left : (n : ℕ) (h : HalfName) → is_written working (Cell n h) ≡ false

module _ (coarse : Procedures ℕ Holder ℤ) (fine : Procedures Position Loc Loc) (r : Refinement ℕ Holder ℤ Position Loc Loc) (entry at pushed : ℕ)
    (o : Option Procedure) (bodies : List Body) (body : Body) (point : Point) (v : IsValueOperation coarse fine r entry at o bodies body point)
    (w : Width) (F G : OperandPlace) (first_reads second_reads : Holder → Bool) (working : List Stmt) (writes : Location → Bool) (made : Location → List Input) (used_inputs : List Input) where
  abbrev pub held_stmts : List Stmt
  held_stmts = taking (left_place w) F ∷ taking (right_place w) G ∷ working

  abbrev writes_at : Holder → Bool
  writes_at A = value_written body (op_of point) point.node.number A

  abbrev made_so : List Input → Holder → Bool
  made_so inputs L = made_by first_reads second_reads inputs L

  abbrev inputs_of : Location → List Input
  inputs_of location = held_inputs w working writes made used_inputs location

  -- what is told of the operation and of its operands' places
  pub record IsHeldForm : Type 0 where
    pub work : IsHeldWork w working writes made used_inputs
    pub second_kept : list_all is_lasting (reads_at G) ≡ true
    pub firsts : Shows (r.same entry) (λ L. (is_holder body L ≡ true) × (first_reads L ≡ true)) (reads_at F)
    pub seconds : Shows (r.same entry) (λ L. (is_holder body L ≡ true) × (second_reads L ≡ true)) (reads_at G)
    pub writes_held : (l : Location) → passes (held l) ≡ true → writes_at (held l) ≡ writes l
    pub writes_frame : (k : ℤ) → writes_at (in_frame k) ≡ false
    pub makes : (l : Location) → writes l ≡ true → (L : Holder) → value_made_of body (op_of point) (held l) L ≡ made_so (made l) L
    pub sure : (l : Location) → writes l ≡ true → is_sure (op_of point) (held l) ≡ true
    pub uses : (L : Holder) → value_uses body (op_of point) point.node.number L ≡ made_so used_inputs L

  module _ (f : IsHeldForm) where
    abbrev bb : Loc → List Loc
    bb = before_both w F G

    abbrev stmts : List Stmt
    stmts = taking (left_place w) F ∷ taking (right_place w) G ∷ working

    abbrev Taking : Holder → Type 0
    Taking = Takes coarse fine r entry at

    -- What is used.

    takes : (L : Holder) → Taking L → (is_holder body L ≡ true) × (made_so used_inputs L ≡ true)
    takes L (inl u) = let both = uses_if coarse fine r entry at o bodies body point v L u in (both.0, sym (f.uses L) ∙ both.1)
    takes L (inr (held l, b, e, c, n, m)) = absurd (true≢false (sym e ∙ v.exposed (held l)))
    takes L (inr (in_frame k, b, e, c, n, m)) = absurd (true≢false (sym (writes_if coarse fine r entry at o bodies body point v (in_frame k) n) ∙ f.writes_frame k))

    abbrev carry_there : r.same entry (held (flag_of Cf)) (Flag Cf)
    carry_there = v.as_same (held (flag_of Cf)) (Flag Cf) (IsSame.is_held refl)

    used_so : HaveSame (used stmts []) (flat_map bb (map (input_location w (Flag Cf)) used_inputs))
    used_so =
        have_then (used stmts []) (flat_map bb (used working [])) (flat_map bb (map (input_location w (Flag Cf)) used_inputs))
        (have_equal (used stmts []) (flat_map bb (used working [])) (used_taken w F G working []))
        (have_mapped bb (used working []) (map (input_location w (Flag Cf)) used_inputs) (have_tested (used working []) (map (input_location w (Flag Cf)) used_inputs) f.work.used_are))

    using : Shows (r.same entry) Taking (used stmts [])
    using =
        shows_alike (r.same entry) (MadeOfAny first_reads second_reads (is_holder body) (held (flag_of Cf)) used_inputs) Taking (flat_map bb (map (input_location w (Flag Cf)) used_inputs)) (used stmts [])
        (inputs_shown coarse fine r entry at o bodies body point v w F G first_reads second_reads f.second_kept f.firsts f.seconds (held (flag_of Cf)) (Flag Cf) carry_there refl used_inputs)
        (λ L l s m. elim (is_made first_reads second_reads body (held (flag_of Cf)) used_inputs L m) [
          | inl t ↦ if_uses coarse fine r entry at o bodies body point v L t.0 (f.uses L ∙ t.1)
          | inr t ↦ absurd (true≢false (sym t.0 ∙ f.work.uses_new))
        ])
        (λ L l s t. any_made first_reads second_reads body (held (flag_of Cf)) used_inputs L (inl (takes L t)))
        used_so.shrink used_so.grow

    -- What is made.

    abbrev Making : Holder → Holder → Type 0
    Making A L = Carries coarse fine r entry at L A ⊎ Taking L

    abbrev CarriesTo : Holder → Holder → Type 0
    CarriesTo L A = CarriesOn coarse fine r entry at o bodies body point v L A

    abbrev MadeAt : Holder → List Input → Holder → Type 0
    MadeAt A inputs L = IsMade first_reads second_reads (is_holder body) A inputs L

    made_where : (A : Holder) (a : Loc) (inputs : List Input) → r.same entry A a → is_lasting a ≡ true → HaveSame (sources working a) (map (input_location w a) inputs)
        → ((L : Holder) → CarriesTo L A → MadeAt A inputs L) → ((L : Holder) → MadeAt A inputs L → CarriesTo L A) → Shows (r.same entry) (Making A) (sources stmts a ++ used stmts [])
    made_where A a inputs s t same to from =
        making_of coarse fine r entry at o bodies body point v w F G first_reads second_reads f.second_kept f.firsts f.seconds stmts using A a inputs s t
        (have_then (sources stmts a) (flat_map bb (sources working a)) (flat_map bb (map (input_location w a) inputs))
        (have_equal (sources stmts a) (flat_map bb (sources working a)) (sources_taken w F G working a)) (have_mapped bb (sources working a) (map (input_location w a) inputs) same)) to from

    -- what is left
    stays_made : (A : Holder) → writes_at A ≡ false → (L : Holder) → CarriesTo L A → MadeAt A (itself ∷ []) L
    stays_made A e L (CarriesOn.made n p m) = absurd (true≢false (sym n ∙ e))
    stays_made A e L (CarriesOn.stays same n) = inr (refl, same)

    stays_carried : (A : Holder) → writes_at A ≡ false → (L : Holder) → MadeAt A (itself ∷ []) L → CarriesTo L A
    stays_carried A e L (inl m) = absurd (true≢false (sym m.1))
    stays_carried A e L (inr i) = CarriesOn.stays i.1 (ap (λ b. b && is_sure (op_of point) A) e)

    module _ (l : Location) (p : passes (held l) ≡ true) where
      abbrev same_sources : Bool
      same_sources = have_same (sources working (inner_of l)) (map (input_location w (inner_of l)) (inputs_of l))

      abbrev same_writes : Bool
      same_writes = same_test (writes l) (is_written working (inner_of l))

      row : (same_sources && (same_writes && not (has_itself (made l)))) ≡ true
      row = every (held_row w working writes made used_inputs) f.work.told l p

      later : (same_writes && not (has_itself (made l))) ≡ true
      later = and_right same_sources (same_writes && not (has_itself (made l))) row

      new : has_itself (made l) ≡ false
      new = not_true (has_itself (made l)) (and_right same_writes (not (has_itself (made l))) later)

      held_made : (b : Bool) → writes l ≡ b → (L : Holder) → CarriesTo L (held l) → MadeAt (held l) (if b then made l else itself ∷ []) L
      held_made true e L (CarriesOn.made n q m) = inl (q, sym (f.makes l e L) ∙ m)
      held_made true e L (CarriesOn.stays same n) = absurd (true≢false (sym (and_both (writes_at (held l)) (is_sure (op_of point) (held l)) (f.writes_held l p ∙ e) (f.sure l e)) ∙ n))
      held_made false e L c = stays_made (held l) (f.writes_held l p ∙ e) L c

      held_carried : (b : Bool) → writes l ≡ b → (L : Holder) → MadeAt (held l) (if b then made l else itself ∷ []) L → CarriesTo L (held l)
      held_carried true e L (inl m) = CarriesOn.made (f.writes_held l p ∙ e) m.0 (f.makes l e L ∙ m.1)
      held_carried true e L (inr i) = absurd (true≢false (sym i.0 ∙ new))
      held_carried false e L m = stays_carried (held l) (f.writes_held l p ∙ e) L m

      lasting : (l : Location) → is_lasting (inner_of l) ≡ true
      lasting (half_of q h) = refl
      lasting (flag_of g) = refl

      making_held : r.same entry (held l) (inner_of l) → Shows (r.same entry) (Making (held l)) (sources stmts (inner_of l) ++ used stmts [])
      making_held s =
          made_where (held l) (inner_of l) (inputs_of l) s (lasting l)
          (have_tested (sources working (inner_of l)) (map (input_location w (inner_of l)) (inputs_of l)) (and_left same_sources (same_writes && not (has_itself (made l))) row))
          (held_made (writes l) refl) (held_carried (writes l) refl)

      held_written : writes_at (held l) ≡ is_written stmts (inner_of l)
      held_written =
          f.writes_held l p ∙ tests_same (writes l) (is_written working (inner_of l)) (and_left same_writes (not (has_itself (made l))) later)
          ∙ sym (both_written w F G working (inner_of l) (lasting l))

    making_cell : (k : ℤ) (n : ℕ) (h : HalfName) → r.same entry (in_frame k) (Cell n h) → Shows (r.same entry) (Making (in_frame k)) (sources stmts (Cell n h) ++ used stmts [])
    making_cell k n h s =
        made_where (in_frame k) (Cell n h) (itself ∷ []) s refl (have_equal (sources working (Cell n h)) (Cell n h ∷ []) (f.work.cell_is n h))
        (stays_made (in_frame k) (f.writes_frame k)) (stays_carried (in_frame k) (f.writes_frame k))

    -- Together.

    making : (A : Holder) (a : Loc) → r.same entry A a → Shows (r.same entry) (Making A) (sources stmts a ++ used stmts [])
    making A a s = by (same_cases o (v.same A a s))
      where
        by : SameCases o A a → Shows (r.same entry) (Making A) (sources stmts a ++ used stmts [])
        by (SameCases.by_held l p e g) =
            subst (λ B. Shows (r.same entry) (Making B) (sources stmts a ++ used stmts [])) (sym e)
            (subst (λ b. Shows (r.same entry) (Making (held l)) (sources stmts b ++ used stmts [])) (sym g)
            (making_held l p (v.as_same (held l) (inner_of l) (IsSame.is_held p))))
        by (SameCases.by_kept found k p e kept g) =
            subst (λ B. Shows (r.same entry) (Making B) (sources stmts a ++ used stmts [])) (sym e)
            (subst (λ b. Shows (r.same entry) (Making (in_frame k)) (sources stmts b ++ used stmts [])) (sym kept.is)
            (making_cell k kept.number kept.half (subst (λ b. r.same entry (in_frame k) b) kept.is (subst (λ B. r.same entry B a) e s))))

    cell_written : (k : ℤ) (n : ℕ) (h : HalfName) → writes_at (in_frame k) ≡ is_written stmts (Cell n h)
    cell_written k n h = f.writes_frame k ∙ sym (both_written w F G working (Cell n h) refl ∙ f.work.cell_left n h)

    written : (A : Holder) (a : Loc) → r.same entry A a → writes_at A ≡ is_written stmts a
    written A a s = by (same_cases o (v.same A a s))
      where
        by : SameCases o A a → writes_at A ≡ is_written stmts a
        by (SameCases.by_held l p e g) = ap writes_at e ∙ held_written l p ∙ sym (ap (is_written stmts) g)
        by (SameCases.by_kept found k p e kept g) = ap writes_at e ∙ cell_written k kept.number kept.half ∙ sym (ap (is_written stmts) kept.is)

    made_there : (A : Holder) → writes_at A ≡ true → ((coarse.procedure entry).is_exposed A ≡ true) ⊎ ((l : Loc) × r.same entry A l)
    made_there (held (half_of q h)) n =
        inr (Half q h, v.as_same (held (half_of q h)) (Half q h) (IsSame.is_held (and_left (is_general q) (surely_writes_half (op_of point) point.node.number q h) n)))
    made_there (held (flag_of g)) n = inr (Flag g, v.as_same (held (flag_of g)) (Flag g) (IsSame.is_held refl))
    made_there (in_frame k) n = absurd (true≢false (sym n ∙ f.writes_frame k))

    pub held_agrees : Agrees coarse fine r entry at pushed held_stmts []
    held_agrees = operation_agrees coarse fine r entry at o bodies body point v pushed held_stmts [] (record {
      values = both_values w F G working f.work.values;
      writes = written;
      using = using;
      making = making;
      made = made_there;
    })
