-- LEA of a general register does what its statements do.
use Rattle.std.proofs.Common.{◌≡◌, ℕ, ℤ, Bool, true, false, ◌&&◌, ◌||◌, if◌then◌else◌, ◌⊎◌, inl, inr, List, [], ◌∷◌, ◌++◌, Option, refl, sym, ap, ◌∙◌, subst, true≢false}
use Rattle.std.specs.Prelude.{Contains, flat_map}
use Rattle.std.proofs.lemmas.List.{append-nil}
use Rattle.std.proofs.lemmas.List.Elements.{Contains-append_left}
use Rattle.dcc_num.specs.declared.Width.TheVariants.{Word as word_width}
use Rattle.dcc_num.specs.declared.Reg.{Reg}
use Rattle.dcc_num.specs.declared.Half.{Half as HalfName}
use Rattle.dcc_num.specs.declared.Half.TheVariants.{Low, High}
use Rattle.dcc_prog.specs.declared.procedure.Node.{Node}
use Rattle.dcc_machine.specs.declared.instr.Ea.{Ea}
use Rattle.dcc_machine.specs.declared.instr.Operand.TheVariants.{Word}
use Rattle.dcc_machine.specs.declared.instr.Op.{Op}
use Rattle.dcc_machine.specs.declared.instr.Op.TheVariants.{Lea}
use Rattle.dcc_machine.specs.Machine.{is_general}
use Rattle.dcc_machine.specs.Writes.{is_same_register}
use Rattle.dcc_machine.specs.Wanted.{Location, half_of, flag_of, is_in_address}
use Rattle.dcc_ir.specs.declared.syntax.Loc.{Loc}
use Rattle.dcc_ir.specs.declared.syntax.Loc.TheVariants.{Half, Flag, Temp}
use Rattle.dcc_ir.specs.Location.{same_location}
use Rattle.dcc_ir.specs.Tree.{Part, Stmt, Set}
use Rattle.dcc_ir.specs.Use.{reads_of}
use Rattle.dcc_ir.specs.Live.{is_among}
use Rattle.dcc_ops.specs.Expressions.{left}
use Rattle.dcc_ops.specs.OperandPlace.{computed}
use Rattle.dcc_ops.specs.Computed.{computed_expr}
use Rattle.dcc_ops.specs.Registers.{register_place}
use Rattle.dcc_ops.specs.Statements.{mov_stmts}
use Rattle.dcc_lift.proofs.ListTests.{and_left, and_right, and_both}
use Rattle.dcc_simulation.specs.Procedures.{Procedure}
use Rattle.dcc_simulation.specs.Operands.{address_of}
use Rattle.dcc_simulation.specs.Places.{IsPlainAddress}
use Rattle.dcc_demand.specs.Procedures.{Procedures}
use Rattle.dcc_machine_demand.specs.Bodies.{Body, Point}
use Rattle.dcc_machine_demand.specs.Holders.{Holder, held, in_frame, passes}
use Rattle.dcc_machine_demand.specs.Values.{value_written, is_sure}
use Rattle.dcc_sums.specs.Points.{Position}
use Rattle.dcc_refinement.specs.Refinement.{Refinement, Carries, Takes}
use Rattle.dcc_lifted_demand.specs.Sources.{before, sources, used}
use Rattle.dcc_lifted_demand.specs.LiftedRefinement.{inner_of, IsSame}
use Rattle.dcc_lifted_demand.proofs.SameLaws.{SameCases, same_cases}
use Rattle.dcc_instruction_demand.specs.Agreement.{Agrees}
use Rattle.dcc_instruction_demand.proofs.IdleLaws.{same_once}
use Rattle.dcc_instruction_demand.proofs.ShownLaws.{Shows, shows_none, shows_one, shows_alike}
use Rattle.dcc_instruction_demand.proofs.ValueLaws.{is_written}
use Rattle.dcc_instruction_demand.proofs.OperationLaws.{IsValueOperation, CarriesOn, writes_if, carries_on, on_carries}
use Rattle.dcc_instruction_demand.proofs.OperationLaws.{uses_if, operation_agrees}
use Rattle.dcc_instruction_demand.proofs.OperandLaws.{word_at}
use Rattle.dcc_instruction_demand.proofs.AddressLaws.{address_shown, Addressed}
use Rattle.dcc_instruction_demand.proofs.StoredLaws.{shows_so}
use Rattle.dcc_instruction_demand.proofs.WorkLaws.{point_with_op, and_true}

module _ (coarse : Procedures ℕ Holder ℤ) (fine : Procedures Position Loc Loc) (r : Refinement ℕ Holder ℤ Position Loc Loc) (entry at pushed : ℕ)
    (o : Option Procedure) (bodies : List Body) (body : Body) (node : Node) (height : ℕ) (to : Reg) (ea : Ea) where
  abbrev op : Op
  op = Lea to ea

  abbrev pub lea_point : Point
  lea_point = point_with_op node height (Lea to ea)

  abbrev lea_stmts : List Stmt
  lea_stmts = mov_stmts word_width (register_place (Word to)) (computed (computed_expr (address_of ea)))

  abbrev halves : List Loc
  halves = Half to Low ∷ Half to High ∷ []

  abbrev reads : List Loc
  reads = reads_of (computed_expr (address_of ea))

  abbrev written : Holder → Bool
  written A = value_written body (Lea to ea) node.number A

  module _ (v : IsValueOperation coarse fine r entry at o bodies body lea_point) (general : is_general to ≡ true) (plain : IsPlainAddress ea) where
    -- What the statements make.

    -- before the address is taken, and before the low half is stored
    abbrev before_taking : List Loc → List Loc
    before_taking ls = flat_map (before (Set (Temp 3) (computed_expr (address_of ea)))) ls

    abbrev before_low : List Loc → List Loc
    before_low ls = flat_map (before (Set (Half to Low) (Part 8 0 (left word_width)))) ls

    after_high : (q : Reg) (h : HalfName) (b : Bool) → same_location (Half q h) (Half to High) ≡ b
        → sources lea_stmts (Half q h) ≡ before_taking (before_low ((if b || false then Temp 3 ∷ [] else Half q h ∷ []) ++ []))
    after_high q h b f = ap (λ c. before_taking (before_low ((if c || false then Temp 3 ∷ [] else Half q h ∷ []) ++ []))) f

    after_low : (q : Reg) (h : HalfName) (a : Bool) → same_location (Half q h) (Half to Low) ≡ a
        → before_taking (before_low ((Half q h ∷ []) ++ [])) ≡ before_taking ((if a || false then Temp 3 ∷ [] else Half q h ∷ []) ++ [])
    after_low q h a e = ap (λ c. before_taking ((if c || false then Temp 3 ∷ [] else Half q h ∷ []) ++ [])) e

    abbrev kept_or : Reg → HalfName → Bool → Bool → List Loc
    kept_or q h a b = if a || (b || false) then reads else Half q h ∷ []

    kept_by : (q : Reg) (h : HalfName) (a b : Bool) → same_location (Half q h) (Half to Low) ≡ a → same_location (Half q h) (Half to High) ≡ b → sources lea_stmts (Half q h) ≡ kept_or q h a b
    kept_by q h true true e f = after_high q h true f ∙ append-nil reads
    kept_by q h false true e f = after_high q h true f ∙ append-nil reads
    kept_by q h true false e f = after_high q h false f ∙ after_low q h true e ∙ append-nil reads
    kept_by q h false false e f = after_high q h false f ∙ after_low q h false e

    half_sources : (q : Reg) (h : HalfName) → sources lea_stmts (Half q h) ≡ (if is_among halves (Half q h) then reads else Half q h ∷ [])
    half_sources q h = kept_by q h (same_location (Half q h) (Half to Low)) (same_location (Half q h) (Half to High)) refl refl

    -- What is told of it.

    unwritten_frame : (k : ℤ) → written (in_frame k) ≡ false
    unwritten_frame k = refl

    no_takes : (L : Holder) → Takes coarse fine r entry at L → ⊥
    no_takes (held l) (inl u) = true≢false (sym (uses_if coarse fine r entry at o bodies body lea_point v (held l) u).1)
    no_takes (in_frame k) (inl u) = true≢false (sym (uses_if coarse fine r entry at o bodies body lea_point v (in_frame k) u).1)
    no_takes L (inr (held l, b, e, c, w, m)) = true≢false (sym e ∙ v.exposed (held l))
    no_takes L (inr (in_frame k, b, e, c, w, m)) = true≢false (sym (writes_if coarse fine r entry at o bodies body lea_point v (in_frame k) w))

    abbrev Taking : Holder → Type 0
    Taking = Takes coarse fine r entry at

    abbrev Making : Holder → Holder → Type 0
    Making A L = Carries coarse fine r entry at L A ⊎ Taking L

    abbrev CarriesTo : Holder → Holder → Type 0
    CarriesTo L A = CarriesOn coarse fine r entry at o bodies body lea_point v L A

    -- LEA leaves a place that it doesn't write
    stays_shown : (A : Holder) (a : Loc) → r.same entry A a → written A ≡ false → Shows (r.same entry) (Making A) ((a ∷ []) ++ [])
    stays_shown A a s e =
        shows_alike (r.same entry) (λ L. L ≡ A) (Making A) (a ∷ []) ((a ∷ []) ++ []) (shows_one (r.same entry) (λ L l m t u. same_once (v.same L l t) (v.same L m u)) A a s)
        (λ L l t same. inl (on_carries coarse fine r entry at o bodies body lea_point v L A (CarriesOn.stays same (ap (λ b. b && is_sure (Lea to ea) A) e))))
        (λ L l t m. elim m [
          | inl c ↦ same_by L (carries_on coarse fine r entry at o bodies body lea_point v L A c)
          | inr u ↦ absurd (no_takes L u)
        ]) (λ l c. c) (λ l c. c)
      where
        same_by : (L : Holder) → CarriesTo L A → L ≡ A
        same_by L (CarriesOn.made w p m) = absurd (true≢false (sym w ∙ e))
        same_by L (CarriesOn.stays same k) = same

    -- LEA makes the halves of its register of the address
    makes_shown : (q : Reg) (h : HalfName) → is_general q ≡ true → is_same_register q to ≡ true → Shows (r.same entry) (Making (held (half_of q h))) (reads ++ [])
    makes_shown q h g e =
        shows_alike (r.same entry) (Addressed o body exposed_so ea) (Making (held (half_of q h))) reads (reads ++ [])
        (shows_so (Addressed o body exposed_so ea) reads v.as_same v.same (address_shown o body exposed_so ea plain))
        (λ L l s t. inl (on_carries coarse fine r entry at o bodies body lea_point v L (held (half_of q h)) (made_of L t)))
        (λ L l s m. elim m [
          | inl c ↦ addressed L (carries_on coarse fine r entry at o bodies body lea_point v L (held (half_of q h)) c)
          | inr u ↦ absurd (no_takes L u)
        ]) (λ l c. Contains-append_left reads [] l c) (λ l c. subst (λ ls. Contains ls l) (append-nil reads) c)
      where
        exposed_so : Holder → Bool
        exposed_so = (coarse.procedure entry).is_exposed

        writes : written (held (half_of q h)) ≡ true
        writes = and_both (is_general q) (is_same_register q to) g e

        made_of : (L : Holder) → Addressed o body exposed_so ea L → CarriesTo L (held (half_of q h))
        made_of (held l) t = CarriesOn.made writes t.0 (ap (λ b. (b && is_in_address l ea) && true) e ∙ and_true (is_in_address l ea) ∙ t.1)
        made_of (in_frame k) t = absurd t

        addressed : (L : Holder) → CarriesTo L (held (half_of q h)) → Addressed o body exposed_so ea L
        addressed (held l) (CarriesOn.made w p m) = (p, sym (ap (λ b. (b && is_in_address l ea) && true) e ∙ and_true (is_in_address l ea)) ∙ m)
        addressed (in_frame k) (CarriesOn.made w p m) = absurd (true≢false (sym m))
        addressed L (CarriesOn.stays same k) = absurd (true≢false (sym (and_both (written (held (half_of q h))) true writes refl) ∙ k))

    -- Together.

    writes_half : (q : Reg) (h : HalfName) → is_general q ≡ true → r.same entry (held (half_of q h)) (Half q h) → written (held (half_of q h)) ≡ is_among halves (Half q h)
    writes_half q h g s = (word_at o body (coarse.procedure entry).is_exposed to general).stores (held (half_of q h)) (Half q h) (v.same (held (half_of q h)) (Half q h) s) refl

    half_making : (b : Bool) (q : Reg) (h : HalfName) → is_general q ≡ true → r.same entry (held (half_of q h)) (Half q h) → written (held (half_of q h)) ≡ b
        → Shows (r.same entry) (Making (held (half_of q h))) ((if b then reads else Half q h ∷ []) ++ [])
    half_making true q h g s e = makes_shown q h g (and_right (is_general q) (is_same_register q to) e)
    half_making false q h g s e = stays_shown (held (half_of q h)) (Half q h) s e

    making_held : (location : Location) → passes (held location) ≡ true → r.same entry (held location) (inner_of location) → Shows (r.same entry) (Making (held location)) (sources lea_stmts (inner_of location) ++ [])
    making_held (half_of q h) p s =
        subst (λ ls. Shows (r.same entry) (Making (held (half_of q h))) (ls ++ [])) (sym (half_sources q h))
        (half_making (is_among halves (Half q h)) q h p s (writes_half q h p s))
    making_held (flag_of f) p s = stays_shown (held (flag_of f)) (Flag f) s refl

    making : (A : Holder) (a : Loc) → r.same entry A a → Shows (r.same entry) (Making A) (sources lea_stmts a ++ used lea_stmts [])
    making A a s = by (same_cases o (v.same A a s))
      where
        by : SameCases o A a → Shows (r.same entry) (Making A) (sources lea_stmts a ++ [])
        by (SameCases.by_held location p e f) =
            subst (λ B. Shows (r.same entry) (Making B) (sources lea_stmts a ++ [])) (sym e)
            (subst (λ b. Shows (r.same entry) (Making (held location)) (sources lea_stmts b ++ [])) (sym f)
            (making_held location p (v.as_same (held location) (inner_of location) (IsSame.is_held p))))
        by (SameCases.by_kept found k p e kept g) =
            subst (λ B. Shows (r.same entry) (Making B) (sources lea_stmts a ++ [])) (sym e)
            (subst (λ ls. Shows (r.same entry) (Making (in_frame k)) (ls ++ [])) (sym (ap (sources lea_stmts) kept.is ∙ sym (ap (λ b. b ∷ []) kept.is)))
            (stays_shown (in_frame k) a (subst (λ B. r.same entry B a) e s) refl))

    half_written : (q : Reg) (h : HalfName) → is_written lea_stmts (Half q h) ≡ is_among halves (Half q h)
    half_written q h = by (same_location (Half q h) (Half to Low)) (same_location (Half q h) (Half to High))
      where
        by : (a b : Bool) → (((false || (b || false)) || (a || false)) || false) ≡ (a || (b || false))
        by true true = refl
        by true false = refl
        by false true = refl
        by false false = refl

    writes : (A : Holder) (a : Loc) → r.same entry A a → written A ≡ is_written lea_stmts a
    writes A a s = by (same_cases o (v.same A a s))
      where
        at_held : (location : Location) → passes (held location) ≡ true → written (held location) ≡ is_written lea_stmts (inner_of location)
        at_held (half_of q h) p = writes_half q h p (v.as_same (held (half_of q h)) (Half q h) (IsSame.is_held p)) ∙ sym (half_written q h)
        at_held (flag_of f) p = refl

        by : SameCases o A a → written A ≡ is_written lea_stmts a
        by (SameCases.by_held location p e f) = ap written e ∙ at_held location p ∙ sym (ap (is_written lea_stmts) f)
        by (SameCases.by_kept found k p e kept g) = ap written e ∙ sym (ap (is_written lea_stmts) kept.is)

    made_where : (A : Holder) → written A ≡ true → (l : Loc) × r.same entry A l
    made_where (held (half_of q h)) w = (Half q h, v.as_same (held (half_of q h)) (Half q h) (IsSame.is_held (and_left (is_general q) (is_same_register q to) w)))
    made_where (held (flag_of f)) w = (Flag f, v.as_same (held (flag_of f)) (Flag f) (IsSame.is_held refl))
    made_where (in_frame k) w = absurd (true≢false (sym w))

    pub lea_agrees : Agrees coarse fine r entry at pushed lea_stmts []
    lea_agrees = operation_agrees coarse fine r entry at o bodies body lea_point v pushed lea_stmts [] (record {
      values = refl;
      writes = writes;
      using = shows_alike (r.same entry) (λ L. ⊥) Taking [] [] (shows_none (r.same entry)) (λ L l s t. absurd t) (λ L l s t. no_takes L t) (λ l c. c) (λ l c. c);
      making = making;
      made = λ A w. inr (made_where A w);
    })
