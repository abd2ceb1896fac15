-- Operands beside their places: what of them is read and written.
use Rattle.std.proofs.Common.{◌≡◌, ℕ, ℤ, Bool, true, false, not, ◌&&◌, ◌||◌, ◌⊎◌, inl, inr, [], ◌∷◌, Option, None, refl, sym, ap, ◌∙◌, subst, true≢false}
use Rattle.std.specs.Prelude.{Contains}
use Rattle.std.specs.List.{list_any, list_all}
use Rattle.dcc_num.specs.declared.Width.{Width}
use Rattle.dcc_num.specs.declared.Reg.{Reg}
use Rattle.dcc_num.specs.declared.Half.{Half as HalfName}
use Rattle.dcc_num.specs.declared.Half.TheVariants.{Low, High}
use Rattle.dcc_machine.specs.declared.instr.Operand.{Operand}
use Rattle.dcc_machine.specs.declared.instr.Operand.TheVariants.{Word, Byte, Seg, Mem, Const}
use Rattle.dcc_prog.specs.Frame.{memory_of}
use Rattle.dcc_machine.specs.Machine.{is_general}
use Rattle.dcc_machine.specs.Writes.{is_same_register, is_same_half, is_half_of}
use Rattle.dcc_machine.specs.Wanted.{Location, half_of, flag_of, is_read, is_in_memory}
use Rattle.dcc_machine.proofs.AlikeValues.{register-self, half-self}
use Rattle.dcc_ir.specs.declared.syntax.Loc.{Loc}
use Rattle.dcc_ir.specs.declared.syntax.Loc.TheVariants.{Half}
use Rattle.dcc_ir.specs.Location.{same_location}
use Rattle.dcc_ir.specs.Live.{is_among}
use Rattle.dcc_ir.proofs.LocationLaws.{Contains-here, Contains-later, Contains-none, Contains-cases, location_itself, location_same}
use Rattle.dcc_ops.specs.OperandPlace.{OperandPlace, constant}
use Rattle.dcc_ops.specs.Registers.{is_source, register_place}
use Rattle.dcc_lift.proofs.ListTests.{and_left, and_right, and_both, or_here, or_there, or_cases, or_none, and_false, same_test}
use Rattle.dcc_simulation.specs.Procedures.{Procedure}
use Rattle.dcc_machine_demand.specs.Bodies.{Body}
use Rattle.dcc_machine_demand.specs.Holders.{Holder, held, in_frame, passes, is_at, is_placed, is_holder}
use Rattle.dcc_machine_demand.specs.Holders.{spots_of_memory}
use Rattle.dcc_machine_demand.proofs.PlaceLaws.{same-register, same-half}
use Rattle.dcc_lifted_demand.proofs.ListLaws.{only}
use Rattle.dcc_lifted_demand.specs.LiftedRefinement.{inner_of, IsSame}
use Rattle.dcc_lifted_demand.proofs.SameLaws.{SameCases, same_cases}
use Rattle.dcc_instruction_demand.proofs.ShownLaws.{Shows}
use Rattle.dcc_instruction_demand.proofs.StageLaws.{is_kept_place, reads_at, outs, is_stored, has_kept}

-- the byte of the frame belongs to the operand
abbrev pub frame_read : Body → Operand → ℤ → Bool
frame_read body a k = list_any (λ spot. is_at spot (in_frame k)) (spots_of_memory body (memory_of a))

-- the operand stands in cells
abbrev pub in_cells : Body → Operand → Bool
in_cells body a = list_any is_placed (spots_of_memory body (memory_of a))

-- what is read for the operand, and what is written where a value is stored to it
abbrev pub reads_by : Body → Operand → Holder → Bool
reads_by body a (held location) = is_read location a
reads_by body a (in_frame k) = frame_read body a k

abbrev pub writes_by : Body → Operand → Holder → Bool
writes_by body a (held (half_of r h)) = is_general r && is_half_of r h a
writes_by body a (held (flag_of f)) = false
writes_by body a (in_frame k) = frame_read body a k

-- the operand stands at the place
pub record IsOperandAt (o : Option Procedure) (body : Body) (exposed : Holder → Bool) (a : Operand) (Q : OperandPlace) : Type 0 where
  pub reads : Shows (IsSame o) (λ L. (is_holder body L ≡ true) × (reads_by body a L ≡ true)) (reads_at Q)
  pub reads_kept : list_all is_kept_place (reads_at Q) ≡ true
  pub kept : has_kept Q ≡ true
  pub stores : (A : Holder) (l : Loc) → IsSame o A l → is_kept_place l ≡ true → writes_by body a A ≡ is_among (outs Q) l
  -- the place is no store to memory, or it is one
  pub unstored : is_stored Q ≡ false
      → ((is_in_memory a && not (in_cells body a)) ≡ false) × ((k : ℤ) → frame_read body a k ≡ true → exposed (in_frame k) ≡ true → ⊥)
  pub stored : is_stored Q ≡ true
      → (is_in_memory a ≡ true) × ((in_cells body a ≡ false) ⊎ ((k : ℤ) × (frame_read body a k ≡ true) × (exposed (in_frame k) ≡ true)))
  pub reached : (k : ℤ) → frame_read body a k ≡ true → (exposed (in_frame k) ≡ true) ⊎ ((l : Loc) × IsSame o (in_frame k) l)

-- A word register.

module _ (o : Option Procedure) (body : Body) (exposed : Holder → Bool) where
  abbrev Reads : Operand → Holder → Type 0
  Reads a L = (is_holder body L ≡ true) × (reads_by body a L ≡ true)

  -- where a half stands
  half_there : (r : Reg) (h : HalfName) (l : Loc) → IsSame o (held (half_of r h)) l → l ≡ Half r h
  half_there r h l s = by (same_cases o s)
    where
      by : SameCases o (held (half_of r h)) l → l ≡ Half r h
      by (SameCases.by_held location p e f) = f ∙ sym (ap inner_of (let one : half_of r h ≡ location = cc e in one))
      by (SameCases.by_kept found k p e kept g) = absurd (cc e)

  half_is : (r : Reg) (h : HalfName) → is_general r ≡ true → IsSame o (held (half_of r h)) (Half r h)
  half_is r h g = IsSame.is_held g

  word_has : (r : Reg) (L : Holder) (l : Loc) → IsSame o L l → Reads (Word r) L → Contains (Half r High ∷ Half r Low ∷ []) l
  word_has r (held (half_of q h)) l s t =
      let same = same-register q r (sym (or_none (is_same_register q r)) ∙ t.1) in
      subst (λ m. Contains (Half r High ∷ Half r Low ∷ []) m) (sym (half_there q h l s ∙ ap (λ x. Half x h) same)) (by h)
    where
      by : (h : HalfName) → Contains (Half r High ∷ Half r Low ∷ []) (Half r h)
      by High = Contains-here (Half r High) (Half r Low ∷ [])
      by Low = Contains-later (Half r High) (Half r Low ∷ []) (Half r Low) (Contains-here (Half r Low) [])
  word_has r (held (flag_of f)) l s t = absurd (true≢false (sym t.1))
  word_has r (in_frame k) l s t = absurd (true≢false (sym t.1))

  word_comes : (r : Reg) → is_general r ≡ true → (l : Loc) → Contains (Half r High ∷ Half r Low ∷ []) l → (L : Holder) × IsSame o L l × Reads (Word r) L
  word_comes r g l c =
      Contains-cases (Half r High) (Half r Low ∷ []) l ((L : Holder) × IsSame o L l × Reads (Word r) L) (λ e. at High l e)
      (λ later. Contains-cases (Half r Low) [] l ((L : Holder) × IsSame o L l × Reads (Word r) L) (λ e. at Low l e) (λ none. absurd (Contains-none l none)) later) c
    where
      at : (h : HalfName) (l : Loc) → Half r h ≡ l → (L : Holder) × IsSame o L l × Reads (Word r) L
      at h l e = (held (half_of r h), subst (λ m. IsSame o (held (half_of r h)) m) e (half_is r h g), (g, or_here (is_same_register r r) false (register-self r)))

  word_stores : (r : Reg) (A : Holder) (l : Loc) → IsSame o A l → is_kept_place l ≡ true → writes_by body (Word r) A ≡ is_among (Half r Low ∷ Half r High ∷ []) l
  word_stores r A l s t = by (same_cases o s)
    where
      here : (q : Reg) (h : HalfName) → is_general q ≡ true → (is_general q && is_same_register q r) ≡ is_among (Half r Low ∷ Half r High ∷ []) (Half q h)
      here q h g = same_test (is_general q && is_same_register q r) (is_among (Half r Low ∷ Half r High ∷ []) (Half q h))
          (λ e. let same = same-register q r (and_right (is_general q) (is_same_register q r) e) in
          subst (λ x. is_among (Half r Low ∷ Half r High ∷ []) (Half x h) ≡ true) (sym same) (among h))
          (λ e. and_both (is_general q) (is_same_register q r) g (one (or_cases (same_location (Half q h) (Half r Low)) (same_location (Half q h) (Half r High) || false) e)))
        where
          among : (h : HalfName) → is_among (Half r Low ∷ Half r High ∷ []) (Half r h) ≡ true
          among Low = or_here (same_location (Half r Low) (Half r Low)) (same_location (Half r Low) (Half r High) || false) (location_itself (Half r Low))
          among High = or_there (same_location (Half r High) (Half r Low)) (same_location (Half r High) (Half r High) || false)
              (or_here (same_location (Half r High) (Half r High)) false (location_itself (Half r High)))

          equal : (k : HalfName) → Half q h ≡ Half r k → is_same_register q r ≡ true
          equal k e = let one : q ≡ r = cc e in subst (λ x. is_same_register q x ≡ true) one (register-self q)

          one : (same_location (Half q h) (Half r Low) ≡ true) ⊎ ((same_location (Half q h) (Half r High) || false) ≡ true) → is_same_register q r ≡ true
          one (inl e) = equal Low (location_same (Half q h) (Half r Low) e)
          one (inr e) = equal High (location_same (Half q h) (Half r High) (sym (or_none (same_location (Half q h) (Half r High))) ∙ e))

      at_location : (location : Location) → passes (held location) ≡ true → A ≡ held location → l ≡ inner_of location → writes_by body (Word r) A ≡ is_among (Half r Low ∷ Half r High ∷ []) l
      at_location (half_of q h) p e f = ap (writes_by body (Word r)) e ∙ here q h p ∙ sym (ap (is_among (Half r Low ∷ Half r High ∷ [])) f)
      at_location (flag_of g) p e f = absurd (true≢false (sym t ∙ ap is_kept_place f))

      by : SameCases o A l → writes_by body (Word r) A ≡ is_among (Half r Low ∷ Half r High ∷ []) l
      by (SameCases.by_held location p e f) = at_location location p e f
      by (SameCases.by_kept found k p e kept g) = ap (writes_by body (Word r)) e ∙ sym (ap (is_among (Half r Low ∷ Half r High ∷ [])) kept.is)

  pub word_at : (r : Reg) → is_general r ≡ true → IsOperandAt o body exposed (Word r) (register_place (Word r))
  word_at r g = record {
    reads = record { has = word_has r; comes = word_comes r g };
    reads_kept = refl;
    kept = refl;
    stores = word_stores r;
    unstored = λ e. (refl, λ k t x. true≢false (sym t));
    stored = λ e. absurd (true≢false (sym e));
    reached = λ k t. absurd (true≢false (sym t));
  }

  -- A byte register.

  byte_has : (r : Reg) (h : HalfName) (L : Holder) (l : Loc) → IsSame o L l → Reads (Byte r h) L → Contains (Half r h ∷ []) l
  byte_has r h (held (half_of q k)) l s t =
      let both = sym (or_none (is_same_register q r && is_same_half k h)) ∙ t.1 in
      let same = same-register q r (and_left (is_same_register q r) (is_same_half k h) both) in
      let halves = same-half k h (and_right (is_same_register q r) (is_same_half k h) both) in
      subst (λ m. Contains (Half r h ∷ []) m) (sym (half_there q k l s ∙ ap (λ x. Half x k) same ∙ ap (λ x. Half r x) halves)) (Contains-here (Half r h) [])
  byte_has r h (held (flag_of f)) l s t = absurd (true≢false (sym t.1))
  byte_has r h (in_frame k) l s t = absurd (true≢false (sym t.1))

  byte_comes : (r : Reg) (h : HalfName) → is_general r ≡ true → (l : Loc) → Contains (Half r h ∷ []) l → (L : Holder) × IsSame o L l × Reads (Byte r h) L
  byte_comes r h g l c = (
    held (half_of r h),
    subst (λ m. IsSame o (held (half_of r h)) m) (only (Half r h) l c) (half_is r h g),
    (g, or_here (is_same_register r r && is_same_half h h) false (and_both (is_same_register r r) (is_same_half h h) (register-self r) (half-self h))),
  )

  byte_stores : (r : Reg) (h : HalfName) (A : Holder) (l : Loc) → IsSame o A l → is_kept_place l ≡ true → writes_by body (Byte r h) A ≡ is_among (Half r h ∷ []) l
  byte_stores r h A l s t = by (same_cases o s)
    where
      here : (q : Reg) (k : HalfName) → is_general q ≡ true → (is_general q && (is_same_register q r && is_same_half k h)) ≡ is_among (Half r h ∷ []) (Half q k)
      here q k g = same_test (is_general q && (is_same_register q r && is_same_half k h)) (is_among (Half r h ∷ []) (Half q k))
          (λ e. let both = and_right (is_general q) (is_same_register q r && is_same_half k h) e in
          let same = same-register q r (and_left (is_same_register q r) (is_same_half k h) both) in
          let halves = same-half k h (and_right (is_same_register q r) (is_same_half k h) both) in
          or_here (same_location (Half q k) (Half r h)) false (subst (λ m. same_location (Half q k) m ≡ true) (ap (λ x. Half x k) same ∙ ap (λ x. Half r x) halves) (location_itself (Half q k))))
          (λ e. let one = location_same (Half q k) (Half r h) (sym (or_none (same_location (Half q k) (Half r h))) ∙ e) in
          and_both (is_general q) (is_same_register q r && is_same_half k h) g
          (and_both (is_same_register q r) (is_same_half k h)
          (let registers : q ≡ r = cc one in subst (λ x. is_same_register q x ≡ true) registers (register-self q))
          (let halves : k ≡ h = cc one in subst (λ x. is_same_half k x ≡ true) halves (half-self k))))

      at_location : (location : Location) → passes (held location) ≡ true → A ≡ held location → l ≡ inner_of location → writes_by body (Byte r h) A ≡ is_among (Half r h ∷ []) l
      at_location (half_of q k) p e f = ap (writes_by body (Byte r h)) e ∙ here q k p ∙ sym (ap (is_among (Half r h ∷ [])) f)
      at_location (flag_of g) p e f = absurd (true≢false (sym t ∙ ap is_kept_place f))

      by : SameCases o A l → writes_by body (Byte r h) A ≡ is_among (Half r h ∷ []) l
      by (SameCases.by_held location p e f) = at_location location p e f
      by (SameCases.by_kept found k p e kept g) = ap (writes_by body (Byte r h)) e ∙ sym (ap (is_among (Half r h ∷ [])) kept.is)

  pub byte_at : (r : Reg) (h : HalfName) → is_general r ≡ true → IsOperandAt o body exposed (Byte r h) (register_place (Byte r h))
  byte_at r h g = record {
    reads = record { has = byte_has r h; comes = byte_comes r h g };
    reads_kept = refl;
    kept = refl;
    stores = byte_stores r h;
    unstored = λ e. (refl, λ k t x. true≢false (sym t));
    stored = λ e. absurd (true≢false (sym e));
    reached = λ k t. absurd (true≢false (sym t));
  }

  -- What reads and writes nothing.

  pub nothing_at : (a : Operand) (Q : OperandPlace) → is_in_memory a ≡ false → memory_of a ≡ None → ((L : Holder) (l : Loc) → IsSame o L l → reads_by body a L ≡ false)
      → ((A : Holder) (l : Loc) → IsSame o A l → writes_by body a A ≡ false) → reads_at Q ≡ [] → outs Q ≡ [] → has_kept Q ≡ true → is_stored Q ≡ false → IsOperandAt o body exposed a Q
  nothing_at a Q apart none unread unwritten reads out kept unstored = record {
    reads = subst (λ ls. Shows (IsSame o) (Reads a) ls) (sym reads)
        (record { has = λ L l s t. absurd (true≢false (sym t.1 ∙ unread L l s)); comes = λ l c. absurd (Contains-none l c) });
    reads_kept = ap (list_all is_kept_place) reads;
    kept = kept;
    stores = λ A l s t. unwritten A l s ∙ sym (ap (λ ls. is_among ls l) out);
    unstored = λ e. (ap (λ b. b && not (in_cells body a)) apart, λ k t x. true≢false (sym t ∙ no_byte k));
    stored = λ e. absurd (true≢false (sym e ∙ unstored));
    reached = λ k t. absurd (true≢false (sym t ∙ no_byte k));
  }
    where
      no_byte : (k : ℤ) → frame_read body a k ≡ false
      no_byte k = ap (λ m. list_any (λ spot. is_at spot (in_frame k)) (spots_of_memory body m)) none

  pub constant_at : (v : Width) (n : ℕ) → IsOperandAt o body exposed (Const v n) (register_place (Const v n))
  constant_at v n = nothing_at (Const v n) (constant v n) refl refl unread unwritten refl refl refl refl
    where
      unread : (L : Holder) (l : Loc) → IsSame o L l → reads_by body (Const v n) L ≡ false
      unread (held (half_of r h)) l s = refl
      unread (held (flag_of f)) l s = refl
      unread (in_frame k) l s = refl

      unwritten : (A : Holder) (l : Loc) → IsSame o A l → writes_by body (Const v n) A ≡ false
      unwritten (held (half_of r h)) l s = and_false (is_general r)
      unwritten (held (flag_of f)) l s = refl
      unwritten (in_frame k) l s = refl

  -- a register, or a constant
  pub source_at : (a : Operand) → is_source a ≡ true → IsOperandAt o body exposed a (register_place a)
  source_at (Word r) t = word_at r t
  source_at (Byte r h) t = byte_at r h t
  source_at (Const v n) t = constant_at v n
  source_at (Seg n) t = absurd (true≢false (sym t))
  source_at (Mem v ea) t = absurd (true≢false (sym t))
