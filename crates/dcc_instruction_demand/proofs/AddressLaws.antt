-- Operands in memory at an address that is computed: what of them is read.
use Rattle.std.proofs.Common.{◌≡◌, ℕ, ℤ, Bool, true, false, ◌&&◌, ◌||◌, ◌==◌, if◌then◌else◌, ◌⊎◌, inl, inr, List, [], ◌∷◌, ◌++◌, Option, Some, None, refl, sym, ap, ◌∙◌, subst, true≢false}
use Rattle.std.specs.Prelude.{option_map, pos, ◌+ℤ◌}
use Rattle.std.specs.List.{list_any, list_all}
use Rattle.std.proofs.lemmas.List.{append-nil}
use Rattle.std.proofs.lemmas.Grind.{flat_map-append}
use Rattle.dcc_num.specs.declared.Width.{Width}
use Rattle.dcc_num.specs.declared.Width.TheVariants.{Byte as byte_width, Word as word_width}
use Rattle.dcc_num.specs.declared.Reg.{Reg}
use Rattle.dcc_num.specs.declared.Reg.TheVariants.{Ax, Cx, Dx, Bx, Sp, Bp, Si, Di}
use Rattle.dcc_num.specs.declared.Half.TheVariants.{Low, High}
use Rattle.dcc_machine.specs.declared.instr.Ea.{Ea}
use Rattle.dcc_machine.specs.declared.instr.Operand.TheVariants.{Word, Mem}
use Rattle.dcc_machine.specs.Machine.{is_bp, is_general}
use Rattle.dcc_machine.specs.Access.{is_direct}
use Rattle.dcc_prog.specs.Frame.{offset_in_frame}
use Rattle.dcc_machine.specs.Writes.{is_same_register}
use Rattle.dcc_machine.specs.Wanted.{Location, half_of, flag_of, is_half, is_half_of_some, is_in_address, is_read}
use Rattle.dcc_ir.specs.declared.syntax.Loc.{Loc}
use Rattle.dcc_ir.specs.declared.syntax.Loc.TheVariants.{Half}
use Rattle.dcc_ir.specs.declared.syntax.BinOp.TheVariants.{Add}
use Rattle.dcc_ir.specs.Tree.{Expr, Const, Binary, Address}
use Rattle.dcc_ir.specs.Use.{parts_of, got_by, reads_of}
use Rattle.dcc_ops.specs.declared.operand_place.Computed.{Computed}
use Rattle.dcc_ops.specs.Computed.{plus, adding, ending, computed_expr}
use Rattle.dcc_ops.specs.Expressions.{word_of}
use Rattle.dcc_ops.specs.OperandPlace.{memory}
use Rattle.dcc_simulation.specs.Procedures.{Procedure, distance_of}
use Rattle.dcc_simulation.specs.Operands.{address_of}
use Rattle.dcc_simulation.specs.Places.{is_plain, IsPlainAddress}
use Rattle.dcc_lift.proofs.ListTests.{or_none, or_here, or_there, or_cases, and_false}
use Rattle.dcc_machine_demand.specs.Bodies.{Body}
use Rattle.dcc_machine_demand.specs.Holders.{Holder, held, in_frame, passes, is_at, is_placed, is_holder, frame_spot}
use Rattle.dcc_machine_demand.specs.Holders.{for_bytes, in_memory, spots_of_memory}
use Rattle.dcc_machine_demand.proofs.LeftLaws.{not-bp}
use Rattle.dcc_lifted_demand.specs.LiftedRefinement.{IsSame}
use Rattle.dcc_instruction_demand.proofs.ShownLaws.{Shows, shows_none, shows_both, shows_alike}
use Rattle.dcc_instruction_demand.proofs.StageLaws.{is_kept_place}
use Rattle.dcc_instruction_demand.proofs.FormLaws.{all_append}
use Rattle.dcc_instruction_demand.proofs.OperandLaws.{frame_read, in_cells, reads_by, writes_by, IsOperandAt, word_at}

-- What the expression of an address reads.

abbrev option_reads : Option Expr → List Loc
option_reads None = []
option_reads (Some e) = reads_of e

abbrev register_reads : Option Reg → List Loc
register_reads None = []
register_reads (Some r) = Half r High ∷ Half r Low ∷ []

reads_plus : (sum : Option Expr) (e : Expr) → reads_of (plus sum e) ≡ option_reads sum ++ reads_of e
reads_plus None e = refl
reads_plus (Some sum) e = flat_map-append got_by (parts_of sum) (parts_of e)

reads_adding : (r : Option Reg) (sum : Option Expr) → option_reads (adding r sum) ≡ option_reads sum ++ register_reads r
reads_adding None sum = sym (append-nil (option_reads sum))
reads_adding (Some r) sum = reads_plus sum (word_of r)

reads_ending : (n : ℕ) (sum : Option Expr) → reads_of (ending n sum) ≡ option_reads sum
reads_ending n None = refl
reads_ending n (Some sum) = by (n == 0)
  where
    by : (b : Bool) → reads_of (if b then sum else Binary Add 16 sum (Const 16 n)) ≡ reads_of sum
    by true = refl
    by false = flat_map-append got_by (parts_of sum) (parts_of (Const 16 n)) ∙ append-nil (reads_of sum)

reads_frame : (frame : Option ℕ) → option_reads (option_map Address frame) ≡ []
reads_frame None = refl
reads_frame (Some k) = refl

pub reads_computed : (c : Computed) → reads_of (computed_expr c) ≡ register_reads c.base ++ register_reads c.index
reads_computed c =
    reads_ending c.number (adding c.index (adding c.base (option_map Address c.frame))) ∙ reads_adding c.index (adding c.base (option_map Address c.frame))
    ∙ ap (λ ls. ls ++ register_reads c.index) (reads_adding c.base (option_map Address c.frame) ∙ ap (λ ls. ls ++ register_reads c.base) (reads_frame c.frame))

-- the registers of an address, but for BP
abbrev base_of : Bool → Option Reg → Option Reg
base_of b base = if b then None else base

abbrev plain_base : Ea → Option Reg
plain_base ea = base_of (is_bp ea.base) ea.base

pub reads_address : (ea : Ea) → reads_of (computed_expr (address_of ea)) ≡ register_reads (base_of (is_bp ea.base) ea.base) ++ register_reads ea.index
reads_address ea = by (is_bp ea.base) refl
  where
    by : (b : Bool) → is_bp ea.base ≡ b → reads_of (computed_expr (address_of ea)) ≡ register_reads (base_of b ea.base) ++ register_reads ea.index
    by true e = ap reads_of (ap computed_expr (ap (λ b. if b then record { frame = Some (distance_of (offset_in_frame ea)); base = None; index = ea.index; number = 0 } else record { frame = None; base = ea.base; index = ea.index; number = ea.disp }) e))
        ∙ reads_computed (record { frame = Some (distance_of (offset_in_frame ea)); base = None; index = ea.index; number = 0 })
    by false e = ap reads_of (ap computed_expr (ap (λ b. if b then record { frame = Some (distance_of (offset_in_frame ea)); base = None; index = ea.index; number = 0 } else record { frame = None; base = ea.base; index = ea.index; number = ea.disp }) e))
        ∙ reads_computed (record { frame = None; base = ea.base; index = ea.index; number = ea.disp })

register_kept : (r : Option Reg) → list_all is_kept_place (register_reads r) ≡ true
register_kept None = refl
register_kept (Some r) = refl

pub address_kept : (ea : Ea) → list_all is_kept_place (reads_of (computed_expr (address_of ea))) ≡ true
address_kept ea =
    ap (list_all is_kept_place) (reads_address ea)
    ∙ all_append is_kept_place (register_reads (base_of (is_bp ea.base) ea.base)) (register_reads ea.index) (register_kept (base_of (is_bp ea.base) ea.base)) (register_kept ea.index)

-- The places that an address reads: halves of its base and of its index.

module _ (o : Option Procedure) (body : Body) (exposed : Holder → Bool) where
  abbrev Halves : Option Reg → Holder → Type 0
  Halves r (held location) = (is_holder body (held location) ≡ true) × (is_half_of_some location r ≡ true)
  Halves r (in_frame k) = ⊥

  as_word : (r : Reg) (location : Location) → is_read location (Word r) ≡ is_half location r
  as_word r (half_of q h) = or_none (is_same_register q r)
  as_word r (flag_of f) = refl

  register_shown : (r : Option Reg) → is_plain r ≡ true → Shows (IsSame o) (Halves r) (register_reads r)
  register_shown None t = shows_alike (IsSame o) (λ L. ⊥) (Halves None) [] [] (shows_none (IsSame o)) (λ L l s p. absurd p) none (λ l c. c) (λ l c. c)
    where
      none : (L : Holder) (l : Loc) → IsSame o L l → Halves None L → ⊥
      none (held location) l s t = true≢false (sym t.1)
      none (in_frame k) l s t = t
  register_shown (Some r) t =
      shows_alike (IsSame o) (λ L. (is_holder body L ≡ true) × (reads_by body (Word r) L ≡ true)) (Halves (Some r)) (Half r High ∷ Half r Low ∷ []) (Half r High ∷ Half r Low ∷ [])
      (word_at o body exposed r t).reads to from (λ l c. c) (λ l c. c)
    where
      to : (L : Holder) (l : Loc) → IsSame o L l → (is_holder body L ≡ true) × (reads_by body (Word r) L ≡ true) → Halves (Some r) L
      to (held location) l s p = (p.0, sym (as_word r location) ∙ p.1)
      to (in_frame k) l s p = true≢false (sym p.1)

      from : (L : Holder) (l : Loc) → IsSame o L l → Halves (Some r) L → (is_holder body L ≡ true) × (reads_by body (Word r) L ≡ true)
      from (held location) l s p = (p.0, as_word r location ∙ p.1)
      from (in_frame k) l s p = absurd p

  -- BP is no place
  pub bp_apart : (base : Option Reg) (location : Location) → is_bp base ≡ true → passes (held location) ≡ true → is_half_of_some location base ≡ false
  bp_apart (Some Bp) (half_of q h) e p = not-bp q p
  bp_apart (Some Bp) (flag_of f) e p = refl
  bp_apart (Some Ax) location e p = absurd (true≢false (sym e))
  bp_apart (Some Cx) location e p = absurd (true≢false (sym e))
  bp_apart (Some Dx) location e p = absurd (true≢false (sym e))
  bp_apart (Some Bx) location e p = absurd (true≢false (sym e))
  bp_apart (Some Sp) location e p = absurd (true≢false (sym e))
  bp_apart (Some Si) location e p = absurd (true≢false (sym e))
  bp_apart (Some Di) location e p = absurd (true≢false (sym e))
  bp_apart None location e p = refl

  same_base : (b : Bool) (base : Option Reg) (location : Location) → is_bp base ≡ b → passes (held location) ≡ true → is_half_of_some location (base_of b base) ≡ is_half_of_some location base
  same_base true base location e p = sym (bp_apart base location e p)
  same_base false base location e p = refl

  abbrev pub Addressed : Ea → Holder → Type 0
  Addressed ea (held location) = (is_holder body (held location) ≡ true) × (is_in_address location ea ≡ true)
  Addressed ea (in_frame k) = ⊥

  pub address_shown : (ea : Ea) → IsPlainAddress ea → Shows (IsSame o) (Addressed ea) (reads_of (computed_expr (address_of ea)))
  address_shown ea plain =
      subst (λ ls. Shows (IsSame o) (Addressed ea) ls) (sym (reads_address ea))
      (shows_alike (IsSame o) (λ L. Halves (plain_base ea) L ⊎ Halves ea.index L) (Addressed ea) (register_reads (plain_base ea) ++ register_reads ea.index) (register_reads (plain_base ea) ++ register_reads ea.index)
      (shows_both (IsSame o) (Halves (plain_base ea)) (Halves ea.index) (register_reads (plain_base ea)) (register_reads ea.index) (register_shown (plain_base ea) (base_plain (is_bp ea.base) refl)) (register_shown ea.index plain.index))
      to from (λ l c. c) (λ l c. c))
    where
      base_plain : (b : Bool) → is_bp ea.base ≡ b → is_plain (base_of b ea.base) ≡ true
      base_plain true e = refl
      base_plain false e = sym (ap (λ b. b || is_plain ea.base) e) ∙ plain.base

      to : (L : Holder) (l : Loc) → IsSame o L l → Halves (plain_base ea) L ⊎ Halves ea.index L → Addressed ea L
      to (held location) l s (inl t) = (t.0, or_here (is_half_of_some location ea.base) (is_half_of_some location ea.index) (sym (same_base (is_bp ea.base) ea.base location refl t.0) ∙ t.1))
      to (held location) l s (inr t) = (t.0, or_there (is_half_of_some location ea.base) (is_half_of_some location ea.index) t.1)
      to (in_frame k) l s (inl t) = t
      to (in_frame k) l s (inr t) = t

      from : (L : Holder) (l : Loc) → IsSame o L l → Addressed ea L → Halves (plain_base ea) L ⊎ Halves ea.index L
      from (held location) l s t = elim (or_cases (is_half_of_some location ea.base) (is_half_of_some location ea.index) t.1) [
        | inl e ↦ inl (t.0, same_base (is_bp ea.base) ea.base location refl t.0 ∙ e)
        | inr e ↦ inr (t.0, e)
      ]
      from (in_frame k) l s t = absurd t

  -- An operand that no direct access reaches.

  memory_read : (w : Width) (ea : Ea) (location : Location) → is_read location (Mem w ea) ≡ is_in_address location ea
  memory_read w ea (half_of q h) = refl
  memory_read w ea (flag_of f) = refl

  module _ (w : Width) (ea : Ea) (indirect : is_direct ea ≡ false) where
    spots_are : spots_of_memory body (Some (w, ea)) ≡ for_bytes w in_memory in_memory
    spots_are =
        ap (λ b. if b then for_bytes w (frame_spot body (offset_in_frame ea)) (frame_spot body (offset_in_frame ea +ℤ pos 1)) else for_bytes w in_memory in_memory)
        (ap (λ b. body.frame.framed && b) indirect ∙ and_false body.frame.framed)

    none_read : (k : ℤ) → frame_read body (Mem w ea) k ≡ false
    none_read k = ap (λ spots. list_any (λ spot. is_at spot (in_frame k)) spots) spots_are ∙ by w
      where
        by : (w : Width) → list_any (λ spot. is_at spot (in_frame k)) (for_bytes w in_memory in_memory) ≡ false
        by byte_width = refl
        by word_width = refl

    no_cells : in_cells body (Mem w ea) ≡ false
    no_cells = ap (list_any is_placed) spots_are ∙ by w
      where
        by : (w : Width) → list_any is_placed (for_bytes w in_memory in_memory) ≡ false
        by byte_width = refl
        by word_width = refl

    pub elsewhere_at : IsPlainAddress ea → IsOperandAt o body exposed (Mem w ea) (memory w (computed_expr (address_of ea)))
    elsewhere_at plain = record {
      reads = shows_alike (IsSame o) (Addressed ea) (λ L. (is_holder body L ≡ true) × (reads_by body (Mem w ea) L ≡ true)) (reads_of (computed_expr (address_of ea))) (reads_of (computed_expr (address_of ea)))
          (address_shown ea plain) to from (λ l c. c) (λ l c. c);
      reads_kept = address_kept ea;
      kept = refl;
      stores = stores;
      unstored = λ e. absurd (true≢false e);
      stored = λ e. (refl, inl no_cells);
      reached = λ k t. absurd (true≢false (sym t ∙ none_read k));
    }
      where
        to : (L : Holder) (l : Loc) → IsSame o L l → Addressed ea L → (is_holder body L ≡ true) × (reads_by body (Mem w ea) L ≡ true)
        to (held location) l s t = (t.0, memory_read w ea location ∙ t.1)
        to (in_frame k) l s t = absurd t

        from : (L : Holder) (l : Loc) → IsSame o L l → (is_holder body L ≡ true) × (reads_by body (Mem w ea) L ≡ true) → Addressed ea L
        from (held location) l s t = (t.0, sym (memory_read w ea location) ∙ t.1)
        from (in_frame k) l s t = true≢false (sym t.1 ∙ none_read k)

        stores : (A : Holder) (l : Loc) → IsSame o A l → is_kept_place l ≡ true → writes_by body (Mem w ea) A ≡ false
        stores (held (half_of q h)) l s t = and_false (is_general q)
        stores (held (flag_of f)) l s t = refl
        stores (in_frame k) l s t = none_read k
