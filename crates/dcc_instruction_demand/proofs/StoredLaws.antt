-- Operations that store their result to an operand: what they do to places is what their statements do.
use Rattle.std.proofs.Common.{◌≡◌, ℕ, ℤ, Bool, true, false, not, ◌&&◌, if◌then◌else◌, ◌⊎◌, inl, inr, List, [], ◌∷◌, map, Option, refl, sym, ap, ◌∙◌, true≢false}
use Rattle.std.specs.Prelude.{Contains, flat_map}
use Rattle.std.specs.List.{list_any, list_all}
use Rattle.dcc_num.specs.declared.Width.{Width}
use Rattle.dcc_num.specs.declared.Reg.{Reg}
use Rattle.dcc_num.specs.declared.Half.{Half as HalfName}
use Rattle.dcc_num.specs.declared.FlagName.{FlagName}
use Rattle.dcc_machine.specs.declared.instr.Operand.{Operand}
use Rattle.dcc_prog.specs.Frame.{memory_of}
use Rattle.dcc_machine.specs.Machine.{is_general}
use Rattle.dcc_machine.specs.Writes.{is_half_of}
use Rattle.dcc_machine.specs.Wanted.{Location, half_of, flag_of, is_in_memory}
use Rattle.dcc_ir.specs.declared.syntax.Loc.{Loc}
use Rattle.dcc_ir.specs.declared.syntax.Loc.TheVariants.{Half, Flag, Cell, Temp}
use Rattle.dcc_ir.specs.Tree.{Stmt}
use Rattle.dcc_ir.specs.Live.{is_among}
use Rattle.dcc_ir.proofs.PathLaws.{decided}
use Rattle.dcc_ops.specs.OperandPlace.{OperandPlace}
use Rattle.dcc_ops.specs.Temporaries.{result_place}
use Rattle.dcc_lift.proofs.ListTests.{and_left, and_right, and_both, and_false, or_here, or_there, or_cases}
use Rattle.dcc_simulation.specs.Procedures.{Procedure}
use Rattle.dcc_demand.specs.Procedures.{Procedures}
use Rattle.dcc_machine_demand.specs.Bodies.{Body, Point, op_of}
use Rattle.dcc_machine_demand.specs.Holders.{Holder, Spot, placed, in_memory, nowhere, held, in_frame, is_at, is_placed}
use Rattle.dcc_machine_demand.specs.Holders.{is_holder, spots_of_memory}
use Rattle.dcc_machine_demand.specs.Values.{value_written, is_sure, value_made_of, value_uses}
use Rattle.dcc_sums.specs.Points.{Position}
use Rattle.dcc_refinement.specs.Refinement.{Refinement, Takes}
use Rattle.dcc_lifted_demand.specs.LiftedRefinement.{inner_of, IsSame}
use Rattle.dcc_lifted_demand.proofs.SameLaws.{SameCases, same_cases}
use Rattle.dcc_instruction_demand.specs.Agreement.{Agrees}
use Rattle.dcc_instruction_demand.proofs.ShownLaws.{Shows}
use Rattle.dcc_instruction_demand.proofs.ValueLaws.{is_written}
use Rattle.dcc_instruction_demand.proofs.OperationLaws.{IsValueOperation, made_there, writes_if, if_writes, uses_if}
use Rattle.dcc_instruction_demand.proofs.OperationLaws.{if_uses}
use Rattle.dcc_instruction_demand.proofs.StageLaws.{is_kept_place, reads_at, is_lasting, before_both, outs, is_stored}
use Rattle.dcc_instruction_demand.proofs.FormLaws.{Input, first, second, carry, itself, input_location, has_itself}
use Rattle.dcc_instruction_demand.proofs.FormLaws.{input_reads, made_by, IsWork, form_stmts, form_agrees}
use Rattle.dcc_instruction_demand.proofs.OperandLaws.{frame_read, in_cells, writes_by, IsOperandAt}

-- a byte of an operand that is read stands in a cell
pub read_in_cells : (body : Body) (a : Operand) (k : ℤ) → frame_read body a k ≡ true → in_cells body a ≡ true
read_in_cells body a k t = by (spots_of_memory body (memory_of a)) t
  where
    one : (spot : Spot) → is_at spot (in_frame k) ≡ true → is_placed spot ≡ true
    one (placed place) t = refl
    one in_memory t = absurd (true≢false (sym t))
    one nowhere t = absurd (true≢false (sym t))

    by : (spots : List Spot) → list_any (λ spot. is_at spot (in_frame k)) spots ≡ true → list_any is_placed spots ≡ true
    by [] t = absurd (true≢false (sym t))
    by (spot ∷ spots) t = elim (or_cases (is_at spot (in_frame k)) (list_any (λ spot. is_at spot (in_frame k)) spots) t) [
      | inl e ↦ or_here (is_placed spot) (list_any is_placed spots) (one spot e)
      | inr e ↦ or_there (is_placed spot) (list_any is_placed spots) (by spots e)
    ]

-- what is made of a byte of the frame is made of that of an operand
frame_made : (first_reads second_reads : Holder → Bool) (inputs : List Input) (k : ℤ) → made_by first_reads second_reads inputs (in_frame k) ≡ true
    → (first_reads (in_frame k) ≡ true) ⊎ (second_reads (in_frame k) ≡ true)
frame_made first_reads second_reads [] k t = absurd (true≢false (sym t))
frame_made first_reads second_reads (input ∷ inputs) k t = elim (or_cases (input_reads first_reads second_reads input (in_frame k)) (made_by first_reads second_reads inputs (in_frame k)) t) [
  | inl e ↦ one input e
  | inr e ↦ frame_made first_reads second_reads inputs k e
]
  where
    one : (input : Input) → input_reads first_reads second_reads input (in_frame k) ≡ true → (first_reads (in_frame k) ≡ true) ⊎ (second_reads (in_frame k) ≡ true)
    one first e = inl e
    one second e = inr e
    one carry e = absurd (true≢false (sym e))
    one itself e = absurd (true≢false (sym e))

-- of the one kind of sameness or of the other
pub shows_so : {S T : Holder → Loc → Type 0} (P : Holder → Type 0) (ls : List Loc) → ((L : Holder) (l : Loc) → S L l → T L l) → ((L : Holder) (l : Loc) → T L l → S L l) → Shows S P ls → Shows T P ls
shows_so P ls to from x = record {
  has = λ L l s p. x.has L l (from L l s) p;
  comes = λ l c. let found = x.comes l c in (found.0, to found.0 l found.1, found.2);
}

-- what is kept is no temporary
pub all_lasting : (ls : List Loc) → list_all is_kept_place ls ≡ true → list_all is_lasting ls ≡ true
all_lasting [] t = refl
all_lasting (l ∷ ls) t = and_both (is_lasting l) (list_all is_lasting ls) (lasting l (and_left (is_kept_place l) (list_all is_kept_place ls) t)) (all_lasting ls (and_right (is_kept_place l) (list_all is_kept_place ls) t))
  where
    lasting : (l : Loc) → is_kept_place l ≡ true → is_lasting l ≡ true
    lasting (Half q h) t = refl
    lasting (Cell n h) t = refl
    lasting (Flag g) t = refl
    lasting (Temp n) t = absurd (true≢false (sym t))

module _ (coarse : Procedures ℕ Holder ℤ) (fine : Procedures Position Loc Loc) (r : Refinement ℕ Holder ℤ Position Loc Loc) (entry at pushed : ℕ)
    (o : Option Procedure) (bodies : List Body) (body : Body) (point : Point) (v : IsValueOperation coarse fine r entry at o bodies body point)
    (w : Width) (a : Operand) (P F G : OperandPlace) (first_reads second_reads : Holder → Bool) (working : List Stmt) (stored : Bool) (result_inputs : List Input) (flag_inputs : FlagName → List Input) where
  abbrev writes_at : Holder → Bool
  writes_at A = value_written body (op_of point) point.node.number A

  abbrev made_so : List Input → Holder → Bool
  made_so inputs L = made_by first_reads second_reads inputs L

  abbrev exposed : Holder → Bool
  exposed = (coarse.procedure entry).is_exposed

  abbrev Reads : (Holder → Bool) → Holder → Type 0
  Reads reads L = (is_holder body L ≡ true) × (reads L ≡ true)

  -- what is told of the operation, and of the place of the operand to which it stores
  pub record IsStoring : Type 0 where
    pub operand : IsOperandAt o body exposed a P
    pub work : IsWork w working result_inputs flag_inputs
    pub firsts : Shows (IsSame o) (Reads first_reads) (reads_at F)
    pub seconds : Shows (IsSame o) (Reads second_reads) (reads_at G)
    pub second_kept : list_all is_kept_place (reads_at G) ≡ true
    pub address : (l : Loc) → Contains (reads_at P) l → Contains (flat_map (before_both w F G) (map (input_location w (result_place w)) result_inputs)) l
    pub frame_alone : is_in_memory a ≡ true → (k : ℤ) → (first_reads (in_frame k) ≡ true) ⊎ (second_reads (in_frame k) ≡ true) → frame_read body a k ≡ true
    pub writes_half : (q : Reg) (h : HalfName) → writes_at (held (half_of q h)) ≡ (is_general q && (stored && is_half_of q h a))
    pub writes_flag : (f : FlagName) → writes_at (held (flag_of f)) ≡ is_written working (Flag f)
    pub writes_frame : (k : ℤ) → writes_at (in_frame k) ≡ (stored && frame_read body a k)
    pub makes_half : (q : Reg) (h : HalfName) → (stored && is_half_of q h a) ≡ true → (L : Holder) → value_made_of body (op_of point) (held (half_of q h)) L ≡ made_so result_inputs L
    pub makes_flag : (f : FlagName) → writes_at (held (flag_of f)) ≡ true → (L : Holder) → value_made_of body (op_of point) (held (flag_of f)) L ≡ made_so (flag_inputs f) L
    pub makes_frame : (k : ℤ) → (stored && frame_read body a k) ≡ true → (L : Holder) → value_made_of body (op_of point) (in_frame k) L ≡ made_so result_inputs L
    pub sure_half : (q : Reg) (h : HalfName) → is_sure (op_of point) (held (half_of q h)) ≡ true
    pub sure_frame : (k : ℤ) → is_sure (op_of point) (in_frame k) ≡ true
    pub sure_flag : (f : FlagName) → (writes_at (held (flag_of f)) && is_sure (op_of point) (held (flag_of f))) ≡ not (has_itself (flag_inputs f))
    pub left_flag : (f : FlagName) → writes_at (held (flag_of f)) ≡ false → (L : Holder) → made_so (flag_inputs f) L ≡ false
    pub uses_held : (location : Location) → value_uses body (op_of point) point.node.number (held location)
        ≡ ((stored && (is_in_memory a && not (in_cells body a))) && made_so result_inputs (held location))
    pub uses_frame : (k : ℤ) → value_uses body (op_of point) point.node.number (in_frame k) ≡ false
    pub next : (b : ℕ) × Contains ((coarse.procedure entry).next at) b

  module _ (f : IsStoring) where
    -- What is written and made.

    -- a flag is no half
    no_flag : (g : FlagName) (l : Loc) → IsSame o (held (flag_of g)) l → is_kept_place l ≡ true → ⊥
    no_flag g l s t = by (same_cases o s)
      where
        at_flag : (location : Location) → held (flag_of g) ≡ held location → l ≡ inner_of location → ⊥
        at_flag (half_of q h) e f = cc e
        at_flag (flag_of other) e f = true≢false (sym t ∙ ap is_kept_place f)

        by : SameCases o (held (flag_of g)) l → ⊥
        by (SameCases.by_held location p e f) = at_flag location e f
        by (SameCases.by_kept found k p e kept h) = cc e

    writes_kept : (A : Holder) → writes_by body a A ≡ writes_by body a A → (l : Loc) → IsSame o A l → is_kept_place l ≡ true → writes_at A ≡ (stored && writes_by body a A)
    writes_kept (held (half_of q h)) e l s t = f.writes_half q h ∙ swap (is_general q) stored (is_half_of q h a)
      where
        swap : (x y z : Bool) → (x && (y && z)) ≡ (y && (x && z))
        swap true y z = refl
        swap false true z = refl
        swap false false z = refl
    writes_kept (held (flag_of g)) e l s t = absurd (no_flag g l s t)
    writes_kept (in_frame k) e l s t = f.writes_frame k

    stored_outs : (l : Loc) → (stored && is_among (outs P) l) ≡ is_among (if stored then outs P else []) l
    stored_outs l = by stored
      where
        by : (b : Bool) → (b && is_among (outs P) l) ≡ is_among (if b then outs P else []) l
        by true = refl
        by false = refl

    writes_place : (A : Holder) (l : Loc) → r.same entry A l → is_kept_place l ≡ true → writes_at A ≡ is_among (if stored then outs P else []) l
    writes_place A l s t =
        writes_kept A refl l (v.same A l s) t ∙ ap (λ b. stored && b) (f.operand.stores A l (v.same A l s) t) ∙ stored_outs l

    makes_place : (A : Holder) (l : Loc) → r.same entry A l → is_kept_place l ≡ true → writes_at A ≡ true → (L : Holder) → value_made_of body (op_of point) A L ≡ made_so result_inputs L
    makes_place (held (half_of q h)) l s t e L = f.makes_half q h (and_right (is_general q) (stored && is_half_of q h a) (sym (f.writes_half q h) ∙ e)) L
    makes_place (held (flag_of g)) l s t e L =
        absurd (true≢false (sym e ∙ writes_kept (held (flag_of g)) refl l (v.same (held (flag_of g)) l s) t ∙ and_false stored))
    makes_place (in_frame k) l s t e L = f.makes_frame k (sym (f.writes_frame k) ∙ e) L

    sure_place : (A : Holder) (l : Loc) → r.same entry A l → is_kept_place l ≡ true → is_sure (op_of point) A ≡ true
    sure_place (held (half_of q h)) l s t = f.sure_half q h
    sure_place (held (flag_of g)) l s t = absurd (no_flag g l (v.same (held (flag_of g)) l s) t)
    sure_place (in_frame k) l s t = f.sure_frame k

    -- What is used.

    abbrev To : Holder → Type 0
    To L = ((stored && is_stored P) ≡ true) × (is_holder body L ≡ true) × (made_so result_inputs L ≡ true)

    store_to : stored ≡ true → (is_stored P ≡ false → ⊥) → (stored && is_stored P) ≡ true
    store_to s n = elim (decided (is_stored P)) [
      | inl t ↦ and_both stored (is_stored P) s t
      | inr e ↦ absurd (n e)
    ]

    takes_at_once : (L : Holder) → is_holder body L ≡ true → value_uses body (op_of point) point.node.number L ≡ true → To L
    takes_at_once (held location) p u =
        let both = sym (f.uses_held location) ∙ u in
        let left = and_left (stored && (is_in_memory a && not (in_cells body a))) (made_so result_inputs (held location)) both in (
          store_to (and_left stored (is_in_memory a && not (in_cells body a)) left)
              (λ e. true≢false (sym (and_right stored (is_in_memory a && not (in_cells body a)) left) ∙ (f.operand.unstored e).0)),
          p,
          and_right (stored && (is_in_memory a && not (in_cells body a))) (made_so result_inputs (held location)) both,
        )
    takes_at_once (in_frame k) p u = absurd (true≢false (sym u ∙ f.uses_frame k))

    takes_later : (L to : Holder) → exposed to ≡ true → writes_at to ≡ true → is_holder body L ≡ true → value_made_of body (op_of point) to L ≡ true → To L
    takes_later L (held location) e w p m = absurd (true≢false (sym e ∙ v.exposed (held location)))
    takes_later L (in_frame k) e w p m =
        let both = sym (f.writes_frame k) ∙ w in (
          store_to (and_left stored (frame_read body a k) both) (λ n. (f.operand.unstored n).1 k (and_right stored (frame_read body a k) both) e),
          p,
          sym (f.makes_frame k both L) ∙ m,
        )

    takes : (L : Holder) (l : Loc) → r.same entry L l → Takes coarse fine r entry at L → To L
    takes L l s (inl u) = let so = uses_if coarse fine r entry at o bodies body point v L u in takes_at_once L so.0 so.1
    takes L l s (inr (to, b, e, c, w, m)) =
        let both = sym (made_there coarse fine r entry at o bodies body point v to L) ∙ m in
        takes_later L to e (writes_if coarse fine r entry at o bodies body point v to w)
        (and_left (is_holder body L) (value_made_of body (op_of point) to L) both) (and_right (is_holder body L) (value_made_of body (op_of point) to L) both)

    taken_open : (L : Holder) → stored ≡ true → is_in_memory a ≡ true → in_cells body a ≡ false → is_holder body L ≡ true → made_so result_inputs L ≡ true → Takes coarse fine r entry at L
    taken_open (held location) s t c p m =
        if_uses coarse fine r entry at o bodies body point v (held location) p
        (f.uses_held location ∙ and_both (stored && (is_in_memory a && not (in_cells body a))) (made_so result_inputs (held location))
        (and_both stored (is_in_memory a && not (in_cells body a)) s (and_both (is_in_memory a) (not (in_cells body a)) t (ap not c))) m)
    taken_open (in_frame k) s t c p m =
        absurd (true≢false (sym (read_in_cells body a k (f.frame_alone t k (frame_made first_reads second_reads result_inputs k m))) ∙ c))

    taken : (stored && is_stored P) ≡ true → (L : Holder) → is_holder body L ≡ true → made_so result_inputs L ≡ true → Takes coarse fine r entry at L
    taken e L p m = elim (f.operand.stored (and_right stored (is_stored P) e)).1 [
      | inl c ↦ taken_open L (and_left stored (is_stored P) e) (f.operand.stored (and_right stored (is_stored P) e)).0 c p m
      | inr x ↦
          let both = and_both stored (frame_read body a x.0) (and_left stored (is_stored P) e) x.1 in
          inr (
            in_frame x.0,
            f.next.0,
            x.2,
            f.next.1,
            if_writes coarse fine r entry at o bodies body point v (in_frame x.0) (f.writes_frame x.0 ∙ both),
            made_there coarse fine r entry at o bodies body point v (in_frame x.0) L
                ∙ and_both (is_holder body L) (value_made_of body (op_of point) (in_frame x.0) L) p (f.makes_frame x.0 both L ∙ m),
          )
    ]

    made_where : (to : Holder) → writes_at to ≡ true → (exposed to ≡ true) ⊎ ((l : Loc) × r.same entry to l)
    made_where (held (half_of q h)) w =
        inr (Half q h, v.as_same (held (half_of q h)) (Half q h) (IsSame.is_held (and_left (is_general q) (stored && is_half_of q h a) (sym (f.writes_half q h) ∙ w))))
    made_where (held (flag_of g)) w = inr (Flag g, v.as_same (held (flag_of g)) (Flag g) (IsSame.is_held refl))
    made_where (in_frame k) w = elim (f.operand.reached k (and_right stored (frame_read body a k) (sym (f.writes_frame k) ∙ w))) [
      | inl e ↦ inl e
      | inr s ↦ inr (s.0, v.as_same (in_frame k) s.0 s.1)
    ]

    pub storing_agrees : Agrees coarse fine r entry at pushed (form_stmts coarse fine r entry at pushed o bodies body point v w P F G first_reads second_reads working stored result_inputs flag_inputs) []
    storing_agrees = form_agrees coarse fine r entry at pushed o bodies body point v w P F G first_reads second_reads working stored result_inputs flag_inputs (record {
      work = f.work;
      kept = f.operand.kept;
      second_kept = all_lasting (reads_at G) f.second_kept;
      firsts = shows_so (Reads first_reads) (reads_at F) v.as_same v.same f.firsts;
      seconds = shows_so (Reads second_reads) (reads_at G) v.as_same v.same f.seconds;
      writes_place = writes_place;
      writes_flag = f.writes_flag;
      makes_place = makes_place;
      makes_flag = f.makes_flag;
      sure_place = sure_place;
      sure_flag = f.sure_flag;
      left_flag = f.left_flag;
      takes = takes;
      taken = taken;
      address_made = λ e l c. f.address l c;
      address_kept = f.operand.reads_kept;
      made = made_where;
    })
