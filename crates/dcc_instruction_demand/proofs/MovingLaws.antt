-- Operations that move bytes, in their procedure: what they do, by what is moved.
use Rattle.std.proofs.Common.{◌≡◌, ℕ, ℤ, Bool, true, false, not, ◌&&◌, ◌||◌, if◌then◌else◌, inl, inr, List, [], ◌∷◌, ◌++◌, Option, None, refl, sym, ap, ◌∙◌, subst, true≢false}
use Rattle.std.specs.Prelude.{Contains}
use Rattle.std.specs.List.{list_any, list_all}
use Rattle.std.specs.Prelude.{pos, ◌+ℤ◌}
use Rattle.std.proofs.lemmas.List.Folds.{list_any-append}
use Rattle.dcc_num.specs.declared.Width.TheVariants.{Byte as byte_width, Word as word_width}
use Rattle.dcc_num.specs.declared.Reg.{Reg}
use Rattle.dcc_num.specs.declared.Half.{Half as HalfName}
use Rattle.dcc_num.specs.declared.Half.TheVariants.{Low, High}
use Rattle.dcc_num.specs.declared.FlagName.{FlagName}
use Rattle.dcc_machine.specs.declared.instr.Operand.{Operand}
use Rattle.dcc_machine.specs.declared.instr.Operand.TheVariants.{Word, Byte, Seg, Mem, Const}
use Rattle.dcc_machine.specs.declared.instr.Op.{Op}
use Rattle.dcc_machine.specs.declared.instr.Op.TheVariants.{Mov, Xchg, Push, Pop}
use Rattle.dcc_prog.specs.Frame.{offset_in_frame}
use Rattle.dcc_machine.specs.Machine.{is_general}
use Rattle.dcc_machine.specs.Wanted.{Location, half_of, flag_of}
use Rattle.dcc_ir.specs.declared.syntax.Loc.{Loc}
use Rattle.dcc_ir.proofs.PathLaws.{decided}
use Rattle.dcc_lift.proofs.ListTests.{and_left, and_right, and_both, not_true}
use Rattle.dcc_simulation.specs.Procedures.{Procedure}
use Rattle.dcc_stack.specs.Slots.{writes_memory}
use Rattle.dcc_demand.specs.Procedures.{Leaves, Overwrites, Action, Procedures, is_left}
use Rattle.dcc_machine_demand.specs.Bodies.{Body, Point, op_of}
use Rattle.dcc_machine_demand.specs.Holders.{Holder, held, in_frame, Spot, placed, in_memory, nowhere, passes}
use Rattle.dcc_machine_demand.specs.Holders.{is_holder}
use Rattle.dcc_machine_demand.specs.Holders.{is_at, is_in_cell, is_exposed_holder, is_private_byte, is_accessed_by}
use Rattle.dcc_machine_demand.specs.Holders.{frame_spot, is_of_frame, spots_of, is_of_address}
use Rattle.dcc_machine_demand.specs.Moves.{Move, copying, moves_between, popping, word_spots, pushed_offset}
use Rattle.dcc_machine_demand.specs.Moves.{popped_offset, of_either, moves_of, moved_effect, moved_made_of, moved_uses}
use Rattle.dcc_machine_demand.specs.Moves.{pushed_from, pushed_spots}
use Rattle.dcc_machine_demand.specs.Values.{moves_or_calls, is_sure}
use Rattle.dcc_machine_demand.specs.Instance as asks
use Rattle.dcc_sums.specs.Points.{Position}
use Rattle.dcc_sums.specs.Instance.{is_pushed}
use Rattle.dcc_refinement.specs.Refinement.{Refinement, Carries}
use Rattle.dcc_lifted_demand.specs.LiftedRefinement.{IsSame, IsSameWord}
use Rattle.dcc_instruction_demand.proofs.FormLaws.{all_append}

-- a byte is moved there
abbrev pub moved_to : List Move → Holder → Bool
moved_to moves L = list_any (λ (move : Move). is_at move.to L) moves

-- each move of the list moves something
abbrev pub all_move : List Move → Bool
all_move moves = list_all (λ (move : Move). not (is_left move.effect)) moves

pub moved_left : (moves : List Move) (L : Holder) → moved_to moves L ≡ false → moved_effect moves L ≡ Leaves
moved_left [] L e = refl
moved_left (move ∷ moves) L e = by (is_at move.to L) e (λ f. moved_left moves L f)
  where
    by : (b : Bool) → (b || moved_to moves L) ≡ false → (moved_to moves L ≡ false → moved_effect moves L ≡ Leaves) → (if b then move.effect else moved_effect moves L) ≡ Leaves
    by true e rest = absurd (true≢false e)
    by false e rest = rest e

pub moved_written : (moves : List Move) (L : Holder) → all_move moves ≡ true → is_left (moved_effect moves L) ≡ not (moved_to moves L)
moved_written [] L t = refl
moved_written (move ∷ moves) L t = by (is_at move.to L) (moved_written moves L (and_right (not (is_left move.effect)) (all_move moves) t))
  where
    by : (b : Bool) → is_left (moved_effect moves L) ≡ not (moved_to moves L) → is_left (if b then move.effect else moved_effect moves L) ≡ not (b || moved_to moves L)
    by true rest = not_true (is_left move.effect) (and_left (not (is_left move.effect)) (all_move moves) t)
    by false rest = rest

-- What MOV, XCHG, PUSH and POP move.

copied : (spot : Spot) → not (is_left (copying spot)) ≡ true
copied (placed place) = refl
copied in_memory = refl
copied nowhere = refl

between_move : (addresses : Holder → Bool) (to from : List Spot) → all_move (moves_between addresses to from) ≡ true
between_move addresses [] from = refl
between_move addresses (spot ∷ to) [] = between_move addresses to []
between_move addresses (spot ∷ to) (other ∷ from) = and_both (not (is_left (copying other))) (all_move (moves_between addresses to from)) (copied other) (between_move addresses to from)

popping_move : (body : Body) (a : Operand) (to : List Spot) (k : ℤ) → all_move (popping body a to k) ≡ true
popping_move body a [] k = refl
popping_move body a (spot ∷ to) k = popping_move body a to (k +ℤ pos 1)

-- a byte of these is the place
abbrev pub any_at : List Spot → Holder → Bool
any_at spots L = list_any (λ spot. is_at spot L) spots

pub between_to : (addresses : Holder → Bool) (to from : List Spot) (L : Holder) → moved_to (moves_between addresses to from) L ≡ any_at to L
between_to addresses [] from L = refl
between_to addresses (spot ∷ to) [] L = ap (λ b. is_at spot L || b) (between_to addresses to [] L)
between_to addresses (spot ∷ to) (other ∷ from) L = ap (λ b. is_at spot L || b) (between_to addresses to from L)

pub popping_to : (body : Body) (a : Operand) (to : List Spot) (k : ℤ) (L : Holder) → moved_to (popping body a to k) L ≡ any_at to L
popping_to body a [] k L = refl
popping_to body a (spot ∷ to) k L = ap (λ b. is_at spot L || b) (popping_to body a to (k +ℤ pos 1) L)

moved_append : (xs ys : List Move) (L : Holder) → moved_to xs L ≡ false → moved_to ys L ≡ false → moved_to (xs ++ ys) L ≡ false
moved_append xs ys L e f = list_any-append (λ (move : Move). is_at move.to L) xs ys ∙ ap (λ b. b || moved_to ys L) e ∙ f

-- No half and no flag is a byte of the frame, and no flag is moved.

frame_held : (body : Body) (k : ℤ) (l : Location) → is_at (frame_spot body k) (held l) ≡ false
frame_held body k l = by (is_in_cell body k)
  where
    by : (b : Bool) → is_at (if b then placed (in_frame k) else in_memory) (held l) ≡ false
    by true = refl
    by false = refl

pub word_held : (body : Body) (k : ℤ) (l : Location) → any_at (word_spots body k) (held l) ≡ false
word_held body k l =
    ap (λ b. b || (is_at (frame_spot body (k +ℤ pos 1)) (held l) || false)) (frame_held body k l) ∙ ap (λ b. b || false) (frame_held body (k +ℤ pos 1) l)

operand_flag : (body : Body) (a : Operand) (f : FlagName) → any_at (spots_of body a) (held (flag_of f)) ≡ false
operand_flag body (Word q) f = by (is_general q)
  where
    by : (b : Bool) → any_at (if b then placed (held (half_of q Low)) ∷ placed (held (half_of q High)) ∷ [] else nowhere ∷ nowhere ∷ []) (held (flag_of f)) ≡ false
    by true = refl
    by false = refl
operand_flag body (Byte q h) f = refl
operand_flag body (Seg n) f = refl
operand_flag body (Mem byte_width ea) f = by (is_of_frame body ea)
  where
    by : (b : Bool) → any_at (if b then frame_spot body (offset_in_frame ea) ∷ [] else in_memory ∷ []) (held (flag_of f)) ≡ false
    by true = ap (λ b. b || false) (frame_held body (offset_in_frame ea) (flag_of f))
    by false = refl
operand_flag body (Mem word_width ea) f = by (is_of_frame body ea)
  where
    by : (b : Bool) → any_at (if b then word_spots body (offset_in_frame ea) else in_memory ∷ in_memory ∷ []) (held (flag_of f)) ≡ false
    by true = word_held body (offset_in_frame ea) (flag_of f)
    by false = refl
operand_flag body (Const byte_width n) f = refl
operand_flag body (Const word_width n) f = refl

abbrev pub is_mover : Op → Bool
is_mover (Mov to from) = true
is_mover (Xchg a b) = true
is_mover (Push a) = true
is_mover (Pop a) = true
is_mover op = false

-- the operation moves all that it moves, surely, and calls nothing
pub record IsMover (bodies : List Body) (body : Body) (height : ℕ) (op : Op) : Type 0 where
  pub moving : moves_or_calls op ≡ true
  pub callee : asks.callee_in bodies op ≡ None
  pub calls : asks.callee_of op ≡ None
  pub all : all_move (moves_of body height op) ≡ true
  pub no_flag : (f : FlagName) → moved_to (moves_of body height op) (held (flag_of f)) ≡ false
  pub sure_half : (q : Reg) (h : HalfName) → is_sure op (held (half_of q h)) ≡ true
  pub sure_frame : (k : ℤ) → is_sure op (in_frame k) ≡ true

pub mover : (bodies : List Body) (body : Body) (height : ℕ) (op : Op) → is_mover op ≡ true → IsMover bodies body height op
mover bodies body height (Mov to from) t = record {
  moving = refl;
  callee = refl;
  calls = refl;
  all = between_move (of_either to from) (spots_of body to) (spots_of body from);
  no_flag = λ f. between_to (of_either to from) (spots_of body to) (spots_of body from) (held (flag_of f)) ∙ operand_flag body to f;
  sure_half = λ q h. refl;
  sure_frame = λ k. refl;
}
mover bodies body height (Xchg a b) t = record {
  moving = refl;
  callee = refl;
  calls = refl;
  all = all_append (λ (move : Move). not (is_left move.effect)) (moves_between (of_either a b) (spots_of body a) (spots_of body b)) (moves_between (of_either a b) (spots_of body b) (spots_of body a))
      (between_move (of_either a b) (spots_of body a) (spots_of body b)) (between_move (of_either a b) (spots_of body b) (spots_of body a));
  no_flag = λ f. moved_append (moves_between (of_either a b) (spots_of body a) (spots_of body b)) (moves_between (of_either a b) (spots_of body b) (spots_of body a)) (held (flag_of f))
      (between_to (of_either a b) (spots_of body a) (spots_of body b) (held (flag_of f)) ∙ operand_flag body a f) (between_to (of_either a b) (spots_of body b) (spots_of body a) (held (flag_of f)) ∙ operand_flag body b f);
  sure_half = λ q h. refl;
  sure_frame = λ k. refl;
}
mover bodies body height (Push a) t = record {
  moving = refl;
  callee = refl;
  calls = refl;
  all = between_move (is_of_address a) (word_spots body (pushed_offset height)) (spots_of body a);
  no_flag = λ f. between_to (is_of_address a) (word_spots body (pushed_offset height)) (spots_of body a) (held (flag_of f)) ∙ word_held body (pushed_offset height) (flag_of f);
  sure_half = λ q h. refl;
  sure_frame = λ k. refl;
}
mover bodies body height (Pop a) t = record {
  moving = refl;
  callee = refl;
  calls = refl;
  all = popping_move body a (spots_of body a) (popped_offset height);
  no_flag = λ f. popping_to body a (spots_of body a) (popped_offset height) (held (flag_of f)) ∙ operand_flag body a f;
  sure_half = λ q h. refl;
  sure_frame = λ k. refl;
}
mover bodies body height op t = absurd (true≢false (sym t))

module _ (coarse : Procedures ℕ Holder ℤ) (fine : Procedures Position Loc Loc) (r : Refinement ℕ Holder ℤ Position Loc Loc) (entry at pushed : ℕ) (o : Option Procedure) (bodies : List Body) (body : Body) (point : Point) where
  abbrev x : Action Holder ℤ
  x = (coarse.procedure entry).action at

  abbrev moves : List Move
  moves = moves_of body point.height (op_of point)

  -- the instruction at the offset is one
  pub record IsMovingOperation : Type 0 where
    pub same : (L : Holder) (l : Loc) → r.same entry L l → IsSame o L l
    pub as_same : (L : Holder) (l : Loc) → IsSame o L l → r.same entry L l
    pub same_word : (k : ℤ) (l : Loc) → r.same_word entry k l → IsSameWord o k l
    pub exposed : (L : Holder) → (coarse.procedure entry).is_exposed L ≡ is_exposed_holder body L
    pub private : (k : ℤ) → (coarse.procedure entry).is_private k ≡ is_private_byte body k
    pub fine_private : (l : Loc) → (fine.procedure entry).is_private l ≡ is_pushed pushed l
    pub passes_is : (L : Holder) → coarse.passes L ≡ passes L
    -- no two places are one location, and none stands for what may be read anywhere
    pub one : (L M : Holder) (l : Loc) → IsSame o L l → IsSame o M l → L ≡ M
    pub unexposed : (L : Holder) (l : Loc) → IsSame o L l → (coarse.procedure entry).is_exposed L ≡ true → ⊥
    -- the instruction goes on
    pub goes : (b : ℕ) × Contains ((coarse.procedure entry).next at) b
    pub is : (coarse.procedure entry).action at ≡ asks.action_of bodies body point
    pub effect_is : (L : Holder) → asks.effect_at bodies body point L ≡ moved_effect (moves_of body point.height (op_of point)) L
    pub made_is : (to from : Holder) → asks.made_at bodies body point to from ≡ moved_made_of (moves_of body point.height (op_of point)) to from
    pub uses_is : (L : Holder) → asks.uses_at bodies body point L ≡ moved_uses (moves_of body point.height (op_of point)) L
    pub all : all_move (moves_of body point.height (op_of point)) ≡ true
    pub sure : (L : Holder) → moved_to (moves_of body point.height (op_of point)) L ≡ true → is_sure (op_of point) L ≡ true
    pub callee_is : asks.callee_of (op_of point) ≡ None
    pub word_is : (k : ℤ) → (asks.action_of bodies body point).word_effect k
        ≡ (if writes_memory (op_of point) && is_accessed_by body (op_of point) k then Overwrites
        else pushed_from (pushed_offset point.height) (pushed_spots body (op_of point)) k)

  module _ (v : IsMovingOperation) where
    pub word_there : (k : ℤ) → x.word_effect k
        ≡ (if writes_memory (op_of point) && is_accessed_by body (op_of point) k then Overwrites
        else pushed_from (pushed_offset point.height) (pushed_spots body (op_of point)) k)
    word_there k = ap (λ (y : Action Holder ℤ). y.word_effect k) v.is ∙ v.word_is k

    pub effect_there : (L : Holder) → x.effect L ≡ moved_effect (moves_of body point.height (op_of point)) L
    effect_there L = ap (λ (y : Action Holder ℤ). y.effect L) v.is ∙ v.effect_is L

    pub made_there : (to from : Holder) → x.made_of to from ≡ (is_holder body from && moved_made_of (moves_of body point.height (op_of point)) to from)
    made_there to from = ap (λ (y : Action Holder ℤ). y.made_of to from) v.is ∙ ap (λ b. is_holder body from && b) (v.made_is to from)

    pub uses_there : (L : Holder) → x.uses L ≡ (is_holder body L && moved_uses (moves_of body point.height (op_of point)) L)
    uses_there L = ap (λ (y : Action Holder ℤ). y.uses L) v.is ∙ ap (λ b. is_holder body L && b) (v.uses_is L)

    pub callee_there : x.callee ≡ None
    callee_there = ap (λ (y : Action Holder ℤ). y.callee) v.is ∙ v.callee_is

    pub left_there : (L : Holder) → is_left (x.effect L) ≡ not (moved_to moves L)
    left_there L = ap is_left (effect_there L) ∙ moved_written moves L v.all

    surely_there : (L : Holder) → x.surely L ≡ moved_to moves L
    surely_there L =
        ap (λ (y : Action Holder ℤ). y.surely L) v.is
        ∙ ap (λ b. not b && is_sure (op_of point) L) (ap is_left (v.effect_is L) ∙ moved_written moves L v.all) ∙ by (moved_to moves L) refl
      where
        by : (b : Bool) → moved_to moves L ≡ b → (not (not b) && is_sure (op_of point) L) ≡ b
        by true e = v.sure L e
        by false e = refl

    pub writes_if : (L : Holder) → is_left (x.effect L) ≡ false → moved_to moves L ≡ true
    writes_if L w = elim (decided (moved_to moves L)) [
      | inl t ↦ t
      | inr e ↦ absurd (true≢false (sym (left_there L ∙ ap not e) ∙ w))
    ]

    pub if_writes : (L : Holder) → moved_to moves L ≡ true → is_left (x.effect L) ≡ false
    if_writes L w = left_there L ∙ ap not w

    -- What the moves of an instruction carry on: what is moved, or what stays.
    pub data CarriesOn (L A : Holder) : Type 0 where
      made : moved_to (moves_of body point.height (op_of point)) A ≡ true → is_holder body L ≡ true → moved_made_of (moves_of body point.height (op_of point)) A L ≡ true → CarriesOn L A
      stays : L ≡ A → moved_to (moves_of body point.height (op_of point)) A ≡ false → CarriesOn L A

    pub carries_on : (L A : Holder) → Carries coarse fine r entry at L A → CarriesOn L A
    carries_on L A (inl m) =
        let both = sym (made_there A L) ∙ m.1 in
        CarriesOn.made (writes_if A m.0) (and_left (is_holder body L) (moved_made_of moves A L) both) (and_right (is_holder body L) (moved_made_of moves A L) both)
    carries_on L A (inr k) = CarriesOn.stays k.0 (sym (surely_there A) ∙ subst (λ M. x.surely M ≡ false) k.0 k.1)

    pub on_carries : (L A : Holder) → CarriesOn L A → Carries coarse fine r entry at L A
    on_carries L A (CarriesOn.made w p m) = inl (if_writes A w, made_there A L ∙ and_both (is_holder body L) (moved_made_of moves A L) p m)
    on_carries L A (CarriesOn.stays e s) = inr (e, subst (λ M. x.surely M ≡ false) (sym e) (surely_there A ∙ s))
