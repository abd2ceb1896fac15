-- INC, DEC, NEG and NOT do what their statements do.
use Rattle.std.proofs.Common.{◌≡◌, ℕ, ℤ, Bool, true, false, not, ◌&&◌, ◌||◌, if◌then◌else◌, ◌⊎◌, inl, inr, List, [], ◌∷◌, ◌++◌, map, Option, None, refl, sym, ap, ◌∙◌, subst, true≢false}
use Rattle.std.specs.Prelude.{Contains, flat_map}
use Rattle.std.specs.List.{list_all}
use Rattle.dcc_num.specs.declared.Width.{Width}
use Rattle.dcc_num.specs.declared.Width.TheVariants.{Byte as byte_width, Word as word_width}
use Rattle.dcc_num.specs.declared.Reg.{Reg}
use Rattle.dcc_num.specs.declared.Half.{Half as HalfName}
use Rattle.dcc_num.specs.declared.FlagName.{FlagName}
use Rattle.dcc_prog.specs.declared.procedure.Node.{Node}
use Rattle.dcc_machine.specs.declared.instr.Unary.{Unary}
use Rattle.dcc_machine.specs.declared.instr.Unary.TheVariants.{Inc, Dec, Neg, Not}
use Rattle.dcc_machine.specs.declared.instr.Operand.{Operand}
use Rattle.dcc_machine.specs.declared.instr.Operand.TheVariants.{Word, Byte, Seg, Mem, Const}
use Rattle.dcc_machine.specs.declared.instr.Op.{Op}
use Rattle.dcc_machine.specs.declared.instr.Op.TheVariants.{Unary as UnaryOp}
use Rattle.dcc_machine.specs.Machine.{operand_width, is_general}
use Rattle.dcc_machine.specs.Access.{writes_back}
use Rattle.dcc_machine.specs.Operations.{is_division}
use Rattle.dcc_machine.specs.Writes.{is_half_of, unary_writes_half, unary_writes_flag}
use Rattle.dcc_machine.specs.Wanted.{Location, half_of, flag_of, is_read, is_in_memory, unary_makes, unary_reads, stores_back, is_dividend, uses}
use Rattle.dcc_stack.specs.Slots.{is_memory}
use Rattle.dcc_ir.specs.declared.syntax.Loc.{Loc}
use Rattle.dcc_ir.specs.declared.syntax.Loc.TheVariants.{Flag}
use Rattle.dcc_ir.specs.declared.syntax.UnOp.TheVariants.{Not as NotOp}
use Rattle.dcc_ir.specs.Tree.{Unary as UnaryExpr, Stmt}
use Rattle.dcc_ir.proofs.LocationLaws.{Contains-here, Contains-later}
use Rattle.dcc_ops.specs.OperandPlace.{OperandPlace, constant, taking}
use Rattle.dcc_num.specs.Numbers.{bits_of}
use Rattle.dcc_ops.specs.Expressions.{left, sum, difference}
use Rattle.dcc_ops.specs.Temporaries.{left_place, right_place, result_place}
use Rattle.dcc_ops.specs.Statements.{result_taking, sum_flags, difference_flags, subtracting, complementing, unary_stmts}
use Rattle.dcc_lift.proofs.ListTests.{or_none}
use Rattle.dcc_simulation.specs.Procedures.{Procedure}
use Rattle.dcc_demand.specs.Procedures.{Procedures}
use Rattle.dcc_machine_demand.specs.Bodies.{Body, Point}
use Rattle.dcc_machine_demand.specs.Holders.{Holder, held, in_frame, is_holder}
use Rattle.dcc_machine_demand.specs.Values.{value_made_of, value_uses, division_uses}
use Rattle.dcc_sums.specs.Points.{Position}
use Rattle.dcc_refinement.specs.Refinement.{Refinement}
use Rattle.dcc_lifted_demand.specs.Sources.{sources}
use Rattle.dcc_lifted_demand.proofs.ListLaws.{in_flat}
use Rattle.dcc_lifted_demand.specs.LiftedRefinement.{IsSame}
use Rattle.dcc_instruction_demand.specs.Agreement.{Agrees}
use Rattle.dcc_instruction_demand.proofs.ShownLaws.{Shows, shows_none, shows_alike}
use Rattle.dcc_instruction_demand.proofs.ValueLaws.{is_written}
use Rattle.dcc_instruction_demand.proofs.OperationLaws.{IsValueOperation, callee_there}
use Rattle.dcc_instruction_demand.proofs.StageLaws.{is_kept_place, reads_at, before_both, both_left, both_right}
use Rattle.dcc_instruction_demand.proofs.ClosedLaws.{same_test}
use Rattle.dcc_instruction_demand.proofs.FormLaws.{Input, first, second, itself, input_location, has_itself, made_by}
use Rattle.dcc_instruction_demand.proofs.FormLaws.{IsWork, form_stmts}
use Rattle.dcc_instruction_demand.proofs.AlikeLaws.{same_lasts, word_lasts, prepared_agrees, two_prepare, left_prepares}
use Rattle.dcc_instruction_demand.proofs.OperandLaws.{frame_read, in_cells, reads_by, IsOperandAt}
use Rattle.dcc_instruction_demand.proofs.WorkLaws.{point_with_op, all_flags, worked, flags_written, and_true, and_moved}
use Rattle.dcc_instruction_demand.proofs.WorkLaws.{read_in_memory}
use Rattle.dcc_instruction_demand.proofs.StoredLaws.{all_lasting, storing_agrees}

-- what dcc_prog tells of an operation that stores to its operand what it makes of it
pub record IsPlainUnary (operation : Unary) : Type 0 where
  pub writes : (a : Operand) (q : Reg) (h : HalfName) → unary_writes_half operation a q h ≡ is_half_of q h a
  pub makes : (a : Operand) (q : Reg) (h : HalfName) → unary_makes operation a (half_of q h) ≡ is_half_of q h a
  pub makes_flag : (a : Operand) (f : FlagName) → unary_makes operation a (flag_of f) ≡ unary_writes_flag operation f
  pub reads : (a : Operand) (l : Location) → unary_reads operation a l ≡ is_read l a
  pub back : writes_back operation ≡ true
  pub stores : stores_back operation ≡ true
  pub no_division : is_division operation ≡ false

pub plain_inc : IsPlainUnary Inc
plain_inc = record { writes = λ a q h. refl; makes = λ a q h. refl; makes_flag = λ a f. refl; reads = λ a l. refl; back = refl; stores = refl; no_division = refl }

pub plain_dec : IsPlainUnary Dec
plain_dec = record { writes = λ a q h. refl; makes = λ a q h. refl; makes_flag = λ a f. refl; reads = λ a l. refl; back = refl; stores = refl; no_division = refl }

pub plain_neg : IsPlainUnary Neg
plain_neg = record { writes = λ a q h. refl; makes = λ a q h. refl; makes_flag = λ a f. refl; reads = λ a l. refl; back = refl; stores = refl; no_division = refl }

plain_not : IsPlainUnary Not
plain_not = record { writes = λ a q h. refl; makes = λ a q h. refl; makes_flag = λ a f. refl; reads = λ a l. refl; back = refl; stores = refl; no_division = refl }

-- What the result and the flags are made of.

abbrev pub both_inputs : List Input
both_inputs = first ∷ second ∷ []

abbrev flags_if : Bool → List Input
flags_if written = if written then both_inputs else itself ∷ []

abbrev pub unary_flags : Unary → FlagName → List Input
unary_flags operation f = flags_if (unary_writes_flag operation f)

abbrev Works : Unary → Width → List Stmt → Type 0
Works operation w working = IsWork w working both_inputs (unary_flags operation) × ((f : FlagName) → unary_writes_flag operation f ≡ is_written working (Flag f))

works_by : (operation : Unary) (w : Width) (working : List Stmt) → IsWork w working both_inputs (unary_flags operation) → all_flags (λ f. same_test (unary_writes_flag operation f) (is_written working (Flag f))) ≡ true
    → Works operation w working
works_by operation w working work t = (work, flags_written working (unary_writes_flag operation) t)

abbrev adding_one : Width → List Stmt
adding_one w = result_taking w (sum w) ++ sum_flags w

abbrev taking_one : Width → List Stmt
taking_one w = result_taking w (difference w) ++ difference_flags w

inc_works : (w : Width) → Works Inc w (adding_one w)
inc_works byte_width = works_by Inc byte_width (adding_one byte_width) (worked byte_width (adding_one byte_width) both_inputs (unary_flags Inc) refl (λ r h. refl) (λ n h. refl) (λ r h. refl) (λ n h. refl)) refl
inc_works word_width = works_by Inc word_width (adding_one word_width) (worked word_width (adding_one word_width) both_inputs (unary_flags Inc) refl (λ r h. refl) (λ n h. refl) (λ r h. refl) (λ n h. refl)) refl

dec_works : (w : Width) → Works Dec w (taking_one w)
dec_works byte_width = works_by Dec byte_width (taking_one byte_width) (worked byte_width (taking_one byte_width) both_inputs (unary_flags Dec) refl (λ r h. refl) (λ n h. refl) (λ r h. refl) (λ n h. refl)) refl
dec_works word_width = works_by Dec word_width (taking_one word_width) (worked word_width (taking_one word_width) both_inputs (unary_flags Dec) refl (λ r h. refl) (λ n h. refl) (λ r h. refl) (λ n h. refl)) refl

neg_works : (w : Width) → Works Neg w (subtracting w)
neg_works byte_width = works_by Neg byte_width (subtracting byte_width) (worked byte_width (subtracting byte_width) both_inputs (unary_flags Neg) refl (λ r h. refl) (λ n h. refl) (λ r h. refl) (λ n h. refl)) refl
neg_works word_width = works_by Neg word_width (subtracting word_width) (worked word_width (subtracting word_width) both_inputs (unary_flags Neg) refl (λ r h. refl) (λ n h. refl) (λ r h. refl) (λ n h. refl)) refl

-- of one operand and of what reads nothing a sum is made of the same as the operand's complement, or as it itself
pub one_works : (w : Width) → Works Not w (result_taking w (sum w))
one_works byte_width = works_by Not byte_width (result_taking byte_width (sum byte_width)) (worked byte_width (result_taking byte_width (sum byte_width)) both_inputs (unary_flags Not) refl (λ r h. refl) (λ n h. refl) (λ r h. refl) (λ n h. refl)) refl
one_works word_width = works_by Not word_width (result_taking word_width (sum word_width)) (worked word_width (result_taking word_width (sum word_width)) both_inputs (unary_flags Not) refl (λ r h. refl) (λ n h. refl) (λ r h. refl) (λ n h. refl)) refl

pub sum_makes : (w : Width) → sources (result_taking w (sum w)) (result_place w) ≡ left_place w ∷ right_place w ∷ []
sum_makes byte_width = refl
sum_makes word_width = refl

complement_makes : (w : Width) → sources (complementing w) (result_place w) ≡ left_place w ∷ []
complement_makes byte_width = refl
complement_makes word_width = refl

-- a byte of an operand that is written
pub one_written : (body : Body) (a : Operand) (k : ℤ) → (is_memory a && frame_read body a k) ≡ frame_read body a k
one_written body (Mem v ea) k = refl
one_written body (Word r) k = refl
one_written body (Byte r h) k = refl
one_written body (Seg n) k = refl
one_written body (Const v n) k = refl

module _ (coarse : Procedures ℕ Holder ℤ) (fine : Procedures Position Loc Loc) (r : Refinement ℕ Holder ℤ Position Loc Loc) (entry at pushed : ℕ)
    (o : Option Procedure) (bodies : List Body) (body : Body) (node : Node) (height : ℕ) (operation : Unary) (a : Operand) where
  abbrev op : Op
  op = UnaryOp operation a

  abbrev pub unary_point : Point
  unary_point = point_with_op node height (UnaryOp operation a)

  abbrev w : Width
  w = operand_width a

  abbrev Reads : (Holder → Bool) → Holder → Type 0
  Reads reads L = (is_holder body L ≡ true) × (reads L ≡ true)

  module _ (v : IsValueOperation coarse fine r entry at o bodies body unary_point) (P F G : OperandPlace) (x : IsOperandAt o body (coarse.procedure entry).is_exposed a P) (plain : IsPlainUnary operation)
      (ra rb : Holder → Bool) (either : (L : Holder) → reads_by body a L ≡ made_by ra rb both_inputs L) (frames : (k : ℤ) → (ra (in_frame k) ≡ true) ⊎ (rb (in_frame k) ≡ true) → frame_read body a k ≡ true)
      (firsts : Shows (IsSame o) (Reads ra) (reads_at F)) (seconds : Shows (IsSame o) (Reads rb) (reads_at G)) (second_kept : list_all is_kept_place (reads_at G) ≡ true)
      (address : (l : Loc) → Contains (reads_at P) l → Contains (flat_map (before_both w F G) (map (input_location w (result_place w)) both_inputs)) l)
      (working : List Stmt) (works : Works operation w working) (next : (b : ℕ) × Contains ((coarse.procedure entry).next at) b) where
    abbrev made_so : List Input → Holder → Bool
    made_so inputs L = made_by ra rb inputs L

    makes_by : (made : Bool) → made ≡ true → (to : Location) → unary_makes operation a to ≡ made → (L : Holder) → value_made_of body op (held to) L ≡ made_so both_inputs L
    makes_by made t to e (held l) =
        ap (λ c. (c && unary_reads operation a l) && true) (e ∙ t) ∙ and_true (unary_reads operation a l) ∙ plain.reads a l ∙ either (held l)
    makes_by made t to e (in_frame k) = ap (λ c. (c && true) && frame_read body a k) (e ∙ t) ∙ either (in_frame k)

    makes_flag : (f : FlagName) → unary_writes_flag operation f ≡ true → (L : Holder) → value_made_of body op (held (flag_of f)) L ≡ made_so (unary_flags operation f) L
    makes_flag f t L = makes_by (unary_writes_flag operation f) t (flag_of f) (plain.makes_flag a f) L ∙ sym (ap (λ b. made_so (flags_if b) L) t)

    uses_are : (l : Location) → uses op None l ≡ (is_in_memory a && is_read l a)
    uses_are l =
        ap (λ b. if b then is_dividend (operand_width a) l || is_read l a else (is_in_memory a && stores_back operation) && is_read l a) plain.no_division
        ∙ ap (λ c. (is_in_memory a && c) && is_read l a) plain.stores ∙ ap (λ c. c && is_read l a) (and_true (is_in_memory a))

    makes_frame : (k : ℤ) → frame_read body a k ≡ true → (L : Holder) → value_made_of body op (in_frame k) L ≡ made_so both_inputs L
    makes_frame k t (held l) = ap (λ c. c && uses op None l) t ∙ uses_are l ∙ ap (λ c. c && is_read l a) (read_in_memory body a k t) ∙ either (held l)
    makes_frame k t (in_frame j) = ap (λ c. c && frame_read body a j) t ∙ either (in_frame j)

    sure_if : (b : Bool) → (b && b) ≡ not (has_itself (flags_if b))
    sure_if true = refl
    sure_if false = refl

    uses_held : (l : Location) → value_uses body op node.number (held l) ≡ ((is_in_memory a && not (in_cells body a)) && made_so both_inputs (held l))
    uses_held l =
        ap (λ b. if b then division_uses a l else not (in_cells body a) && uses op None l) plain.no_division ∙ ap (λ c. not (in_cells body a) && c) (uses_are l)
        ∙ and_moved (not (in_cells body a)) (is_in_memory a) (is_read l a) ∙ ap (λ c. (is_in_memory a && not (in_cells body a)) && c) (either (held l))

    unary_agrees : Agrees coarse fine r entry at pushed (form_stmts coarse fine r entry at pushed o bodies body unary_point v w P F G ra rb working true both_inputs (unary_flags operation)) []
    unary_agrees = storing_agrees coarse fine r entry at pushed o bodies body unary_point v w a P F G ra rb working true both_inputs (unary_flags operation) (record {
      operand = x;
      work = works.0;
      firsts = firsts;
      seconds = seconds;
      second_kept = second_kept;
      address = address;
      frame_alone = λ t k e. frames k e;
      writes_half = λ q h. ap (λ c. is_general q && c) (plain.writes a q h);
      writes_flag = works.1;
      writes_frame = λ k. ap (λ c. (c && is_memory a) && frame_read body a k) plain.back ∙ one_written body a k;
      makes_half = λ q h t L. makes_by (is_half_of q h a) t (half_of q h) (plain.makes a q h) L;
      makes_flag = makes_flag;
      makes_frame = makes_frame;
      sure_half = λ q h. refl;
      sure_frame = λ k. refl;
      sure_flag = λ f. sure_if (unary_writes_flag operation f);
      left_flag = λ f e L. ap (λ b. made_so (flags_if b) L) e;
      uses_held = uses_held;
      uses_frame = λ k. ap (λ c. c && frame_read body a k) plain.no_division;
      next = next;
    })

  -- The three.

  module _ (v : IsValueOperation coarse fine r entry at o bodies body unary_point) (P : OperandPlace) (x : IsOperandAt o body (coarse.procedure entry).is_exposed a P) (next : (b : ℕ) × Contains ((coarse.procedure entry).next at) b) where
    -- a constant reads nothing
    constant_shown : (reads : Holder → Bool) → ((L : Holder) → reads L ≡ false) → Shows (IsSame o) (Reads reads) []
    constant_shown reads none =
        shows_alike (IsSame o) (λ L. ⊥) (Reads reads) [] [] (shows_none (IsSame o)) (λ L l s t. absurd t) (λ L l s t. true≢false (sym t.1 ∙ none L)) (λ l c. c) (λ l c. c)

    abbrev ra : Holder → Bool
    ra L = reads_by body a L

    abbrev nothing : Holder → Bool
    nothing L = false

    only_first : (k : ℤ) → (ra (in_frame k) ≡ true) ⊎ (false ≡ true) → frame_read body a k ≡ true
    only_first k (inl e) = e
    only_first k (inr e) = absurd (true≢false (sym e))

    only_second : (k : ℤ) → (false ≡ true) ⊎ (ra (in_frame k) ≡ true) → frame_read body a k ≡ true
    only_second k (inl e) = absurd (true≢false (sym e))
    only_second k (inr e) = e

    to_left : (G : OperandPlace) (l : Loc) → Contains (reads_at P) l → Contains (flat_map (before_both w P G) (map (input_location w (result_place w)) both_inputs)) l
    to_left G l c = in_flat (before_both w P G) (map (input_location w (result_place w)) both_inputs) (left_place w) l (Contains-here (left_place w) (right_place w ∷ []))
        (subst (λ ls. Contains ls l) (sym (both_left w P G)) c)

    to_right : (F : OperandPlace) → (l : Loc) → Contains (reads_at P) l → Contains (flat_map (before_both w F P) (map (input_location w (result_place w)) both_inputs)) l
    to_right F l c = in_flat (before_both w F P) (map (input_location w (result_place w)) both_inputs) (right_place w) l
        (Contains-later (left_place w) (right_place w ∷ []) (right_place w) (Contains-here (right_place w) []))
        (subst (λ ls. Contains ls l) (sym (both_right w F P (all_lasting (reads_at P) x.reads_kept))) c)

    -- of the one that is taken first
    stepped_agrees : IsPlainUnary operation → (working : List Stmt) → Works operation w working
        → Agrees coarse fine r entry at pushed (form_stmts coarse fine r entry at pushed o bodies body unary_point v w P P (constant w 1) ra nothing working true both_inputs (unary_flags operation)) []
    stepped_agrees plain working works =
        unary_agrees v P P (constant w 1) x plain ra nothing (λ L. sym (or_none (ra L))) only_first x.reads (constant_shown nothing (λ L. refl)) refl (to_left (constant w 1)) working works next

    -- of the one that is taken second
    negated_agrees : IsPlainUnary operation → (working : List Stmt) → Works operation w working
        → Agrees coarse fine r entry at pushed (form_stmts coarse fine r entry at pushed o bodies body unary_point v w P (constant w 0) P nothing ra working true both_inputs (unary_flags operation)) []
    negated_agrees plain working works =
        unary_agrees v P (constant w 0) P x plain nothing ra (λ L. sym (or_none (ra L))) only_second (constant_shown nothing (λ L. refl)) x.reads x.reads_kept (to_right (constant w 0)) working works next

-- INC, DEC, NEG and NOT agree with their statements
module _ (coarse : Procedures ℕ Holder ℤ) (fine : Procedures Position Loc Loc) (r : Refinement ℕ Holder ℤ Position Loc Loc) (entry at pushed : ℕ)
    (o : Option Procedure) (bodies : List Body) (body : Body) (node : Node) (height : ℕ) (a : Operand) (P : OperandPlace) (x : IsOperandAt o body (coarse.procedure entry).is_exposed a P)
    (next : (b : ℕ) × Contains ((coarse.procedure entry).next at) b) where
  pub inc_agrees : IsValueOperation coarse fine r entry at o bodies body (unary_point coarse fine r entry at pushed o bodies body node height Inc a) → Agrees coarse fine r entry at pushed (unary_stmts Inc (operand_width a) P) []
  inc_agrees v = stepped_agrees coarse fine r entry at pushed o bodies body node height Inc a v P x next plain_inc (adding_one (operand_width a)) (inc_works (operand_width a))

  pub dec_agrees : IsValueOperation coarse fine r entry at o bodies body (unary_point coarse fine r entry at pushed o bodies body node height Dec a) → Agrees coarse fine r entry at pushed (unary_stmts Dec (operand_width a) P) []
  dec_agrees v = stepped_agrees coarse fine r entry at pushed o bodies body node height Dec a v P x next plain_dec (taking_one (operand_width a)) (dec_works (operand_width a))

  pub neg_agrees : IsValueOperation coarse fine r entry at o bodies body (unary_point coarse fine r entry at pushed o bodies body node height Neg a) → Agrees coarse fine r entry at pushed (unary_stmts Neg (operand_width a) P) []
  neg_agrees v = negated_agrees coarse fine r entry at pushed o bodies body node height Neg a v P x next plain_neg (subtracting (operand_width a)) (neg_works (operand_width a))

  pub not_agrees : IsValueOperation coarse fine r entry at o bodies body (unary_point coarse fine r entry at pushed o bodies body node height Not a) → Agrees coarse fine r entry at pushed (unary_stmts Not (operand_width a) P) []
  not_agrees v =
      let w = operand_width a in
      prepared_agrees w P x.kept x.reads_kept (taking (left_place w) P ∷ taking (right_place w) (constant w 1) ∷ result_taking w (sum w)) (taking (left_place w) P ∷ complementing w)
      (two_prepare w P (constant w 1) refl (sum w) (sum_makes w)) (left_prepares w P (UnaryExpr NotOp (bits_of w) (left w)) (complement_makes w))
      coarse fine r entry at pushed (λ L l s. same_lasts o L l (v.same L l s)) (λ k l s. word_lasts o k l (v.same_word k l s))
      (callee_there coarse fine r entry at o bodies body (unary_point coarse fine r entry at pushed o bodies body node height Not a) v)
      (stepped_agrees coarse fine r entry at pushed o bodies body node height Not a v P x next plain_not (result_taking w (sum w)) (one_works w))
