-- MUL, IMUL, DIV, IDIV and the product with a constant do what their statements do.
use Rattle.std.proofs.Common.{◌≡◌, ℕ, ℤ, Bool, true, false, not, ◌&&◌, ◌||◌, if◌then◌else◌, List, [], ◌++◌, Option, refl, sym, ap, ◌∙◌, true≢false}
use Rattle.dcc_num.specs.declared.Width.{Width}
use Rattle.dcc_num.specs.declared.Width.TheVariants.{Byte as byte_width, Word as word_width}
use Rattle.dcc_num.specs.declared.Reg.{Reg}
use Rattle.dcc_num.specs.declared.Reg.TheVariants.{Ax, Cx, Dx, Bx, Sp, Bp, Si, Di}
use Rattle.dcc_num.specs.declared.Half.{Half as HalfName}
use Rattle.dcc_num.specs.declared.Half.TheVariants.{Low}
use Rattle.dcc_num.specs.declared.FlagName.{FlagName}
use Rattle.dcc_prog.specs.declared.procedure.Node.{Node}
use Rattle.dcc_machine.specs.declared.instr.Unary.{Unary}
use Rattle.dcc_machine.specs.declared.instr.Unary.TheVariants.{Mul, Imul, Div as DivOf, Idiv}
use Rattle.dcc_machine.specs.declared.instr.Operand.{Operand}
use Rattle.dcc_machine.specs.declared.instr.Op.TheVariants.{Unary as UnaryOp, Imul3}
use Rattle.dcc_machine.specs.Machine.{operand_width}
use Rattle.dcc_machine.specs.Access.{writes_back}
use Rattle.dcc_machine.specs.Operations.{is_division}
use Rattle.dcc_machine.specs.Writes.{is_same_register, is_in_pair, is_carry_or_overflow, unary_writes_half, unary_writes_flag}
use Rattle.dcc_machine.specs.Wanted.{Location, half_of, flag_of, is_read, is_in_memory, is_accumulator, is_dividend, unary_makes, unary_reads, stores_back, uses}
use Rattle.dcc_stack.specs.Slots.{is_memory}
use Rattle.dcc_ir.specs.declared.syntax.Loc.{Loc}
use Rattle.dcc_ir.specs.declared.syntax.BinOp.{BinOp}
use Rattle.dcc_ir.specs.declared.syntax.BinOp.TheVariants.{DivS, DivU, RemS, RemU}
use Rattle.dcc_ir.specs.Tree.{Stmt}
use Rattle.dcc_ops.specs.OperandPlace.{OperandPlace, constant}
use Rattle.dcc_ops.specs.Registers.{register_place}
use Rattle.dcc_ops.specs.Expressions.{product}
use Rattle.dcc_ops.specs.Statements.{accumulator, word_taking, product_working, product_storing, division_working, division_storing, multiplying, dividing, unary_stmts, triple_product}
use Rattle.dcc_lift.proofs.ListTests.{and_false, or_none}
use Rattle.dcc_simulation.specs.Procedures.{Procedure}
use Rattle.dcc_demand.specs.Procedures.{Procedures}
use Rattle.dcc_machine_demand.specs.Bodies.{Body}
use Rattle.dcc_machine_demand.specs.Holders.{Holder, held, in_frame, passes, is_holder}
use Rattle.dcc_machine_demand.specs.Values.{value_written, is_sure, value_made_of, value_uses, division_uses}
use Rattle.dcc_sums.specs.Points.{Position}
use Rattle.dcc_refinement.specs.Refinement.{Refinement}
use Rattle.dcc_instruction_demand.specs.Agreement.{Agrees}
use Rattle.dcc_instruction_demand.proofs.ShownLaws.{shows_never}
use Rattle.dcc_instruction_demand.proofs.OperationLaws.{IsValueOperation}
use Rattle.dcc_instruction_demand.proofs.StageLaws.{reads_at}
use Rattle.dcc_instruction_demand.proofs.FormLaws.{Input, made_by}
use Rattle.dcc_instruction_demand.proofs.OperandLaws.{frame_read, in_cells, reads_by, IsOperandAt, word_at, byte_at}
use Rattle.dcc_instruction_demand.proofs.WorkLaws.{point_with_op, and_true}
use Rattle.dcc_instruction_demand.proofs.StoredLaws.{shows_so, all_lasting}
use Rattle.dcc_instruction_demand.proofs.UnaryLaws.{both_inputs}
use Rattle.dcc_instruction_demand.proofs.HeldLaws.{IsHeldWork, held_stmts, held_agrees}

-- What is written, and what it is made of.

-- AX or its halves' pair, and all flags
abbrev pair_writes : Width → Location → Bool
pair_writes w (half_of r h) = is_in_pair w r
pair_writes w (flag_of f) = true

abbrev triple_writes : Reg → Location → Bool
triple_writes q (half_of r h) = is_same_register r q
triple_writes q (flag_of f) = true

-- ZF and SF of a product are constants, as all flags of a quotient
abbrev product_made : Location → List Input
product_made (half_of r h) = both_inputs
product_made (flag_of f) = if is_carry_or_overflow f then both_inputs else []

abbrev nothing_made : Location → List Input
nothing_made l = []

abbrev multiplied_by : Width → Bool → List Stmt
multiplied_by w signed = product_working w signed ++ product_storing w

abbrev divided_by : Width → BinOp → BinOp → List Stmt
divided_by w quotient remainder = division_working w quotient remainder ++ division_storing w

abbrev times_constant : Reg → List Stmt
times_constant r = product_working word_width true ++ word_taking r 0 (product word_width)

product_works : (w : Width) (signed : Bool) → IsHeldWork w (multiplied_by w signed) (pair_writes w) product_made []
product_works byte_width true = record { told = refl; values = refl; used_are = refl; uses_new = refl; cell_is = λ n h. refl; cell_left = λ n h. refl }
product_works byte_width false = record { told = refl; values = refl; used_are = refl; uses_new = refl; cell_is = λ n h. refl; cell_left = λ n h. refl }
product_works word_width true = record { told = refl; values = refl; used_are = refl; uses_new = refl; cell_is = λ n h. refl; cell_left = λ n h. refl }
product_works word_width false = record { told = refl; values = refl; used_are = refl; uses_new = refl; cell_is = λ n h. refl; cell_left = λ n h. refl }

division_works : (w : Width) (quotient remainder : BinOp) → IsHeldWork w (divided_by w quotient remainder) (pair_writes w) nothing_made both_inputs
division_works byte_width quotient remainder = record { told = refl; values = refl; used_are = refl; uses_new = refl; cell_is = λ n h. refl; cell_left = λ n h. refl }
division_works word_width quotient remainder = record { told = refl; values = refl; used_are = refl; uses_new = refl; cell_is = λ n h. refl; cell_left = λ n h. refl }

triple_works : (r : Reg) → IsHeldWork word_width (times_constant r) (triple_writes r) product_made []
triple_works Ax = record { told = refl; values = refl; used_are = refl; uses_new = refl; cell_is = λ n h. refl; cell_left = λ n h. refl }
triple_works Cx = record { told = refl; values = refl; used_are = refl; uses_new = refl; cell_is = λ n h. refl; cell_left = λ n h. refl }
triple_works Dx = record { told = refl; values = refl; used_are = refl; uses_new = refl; cell_is = λ n h. refl; cell_left = λ n h. refl }
triple_works Bx = record { told = refl; values = refl; used_are = refl; uses_new = refl; cell_is = λ n h. refl; cell_left = λ n h. refl }
triple_works Sp = record { told = refl; values = refl; used_are = refl; uses_new = refl; cell_is = λ n h. refl; cell_left = λ n h. refl }
triple_works Bp = record { told = refl; values = refl; used_are = refl; uses_new = refl; cell_is = λ n h. refl; cell_left = λ n h. refl }
triple_works Si = record { told = refl; values = refl; used_are = refl; uses_new = refl; cell_is = λ n h. refl; cell_left = λ n h. refl }
triple_works Di = record { told = refl; values = refl; used_are = refl; uses_new = refl; cell_is = λ n h. refl; cell_left = λ n h. refl }

-- What dcc_prog tells of them.

record IsPair (operation : Unary) : Type 0 where
  writes : (a : Operand) (q : Reg) (h : HalfName) → unary_writes_half operation a q h ≡ is_in_pair (operand_width a) q
  writes_flag : (f : FlagName) → unary_writes_flag operation f ≡ true
  keeps : writes_back operation ≡ false

record IsProduct (operation : Unary) : Type 0 where
  pair : IsPair operation
  makes : (a : Operand) (q : Reg) (h : HalfName) → unary_makes operation a (half_of q h) ≡ is_in_pair (operand_width a) q
  makes_flag : (a : Operand) (f : FlagName) → unary_makes operation a (flag_of f) ≡ is_carry_or_overflow f
  reads : (a : Operand) (l : Location) → unary_reads operation a l ≡ (is_accumulator (operand_width a) l || is_read l a)
  stores : stores_back operation ≡ false
  no_division : is_division operation ≡ false

record IsQuotient (operation : Unary) : Type 0 where
  pair : IsPair operation
  makes : (a : Operand) (l : Location) → unary_makes operation a l ≡ false
  division : is_division operation ≡ true

mul_is : IsProduct Mul
mul_is = record { pair = record { writes = λ a q h. refl; writes_flag = λ f. refl; keeps = refl }; makes = λ a q h. refl; makes_flag = λ a f. refl; reads = λ a l. refl; stores = refl; no_division = refl }

imul_is : IsProduct Imul
imul_is = record { pair = record { writes = λ a q h. refl; writes_flag = λ f. refl; keeps = refl }; makes = λ a q h. refl; makes_flag = λ a f. refl; reads = λ a l. refl; stores = refl; no_division = refl }

div_is : IsQuotient DivOf
div_is = record { pair = record { writes = λ a q h. refl; writes_flag = λ f. refl; keeps = refl }; makes = λ a l. refl; division = refl }

idiv_is : IsQuotient Idiv
idiv_is = record { pair = record { writes = λ a q h. refl; writes_flag = λ f. refl; keeps = refl }; makes = λ a l. refl; division = refl }

-- a flag that is made of both, or a constant
flag_made : (first_reads second_reads : Holder → Bool) (b : Bool) (L : Holder) (m : Bool) → m ≡ made_by first_reads second_reads both_inputs L → (b && m) ≡ made_by first_reads second_reads (if b then both_inputs else []) L
flag_made first_reads second_reads true L m e = e
flag_made first_reads second_reads false L m e = refl

-- The accumulator.

accumulator_read : (w : Width) (l : Location) → is_accumulator w l ≡ is_read l (accumulator w)
accumulator_read byte_width (half_of r h) = sym (or_none (is_accumulator byte_width (half_of r h)))
accumulator_read byte_width (flag_of f) = refl
accumulator_read word_width (half_of r h) = sym (or_none (is_same_register r Ax))
accumulator_read word_width (flag_of f) = refl

accumulator_framed : (body : Body) (w : Width) (k : ℤ) → frame_read body (accumulator w) k ≡ false
accumulator_framed body byte_width k = refl
accumulator_framed body word_width k = refl

module _ (coarse : Procedures ℕ Holder ℤ) (fine : Procedures Position Loc Loc) (r : Refinement ℕ Holder ℤ Position Loc Loc) (entry at pushed : ℕ)
    (o : Option Procedure) (bodies : List Body) (body : Body) (node : Node) (height : ℕ) (a : Operand) (P : OperandPlace) (x : IsOperandAt o body (coarse.procedure entry).is_exposed a P) where
  abbrev w : Width
  w = operand_width a

  abbrev ra : Holder → Bool
  ra L = reads_by body (accumulator w) L

  abbrev rb : Holder → Bool
  rb L = reads_by body a L

  abbrev Reads : (Holder → Bool) → Holder → Type 0
  Reads reads L = (is_holder body L ≡ true) × (reads L ≡ true)

  -- the accumulator and the operand
  abbrev all_read : Holder → Bool
  all_read (held l) = is_accumulator w l || is_read l a
  all_read (in_frame k) = frame_read body a k

  all_made : (L : Holder) → all_read L ≡ made_by ra rb both_inputs L
  all_made (held l) = ap (λ c. c || is_read l a) (accumulator_read w l) ∙ ap (λ c. is_read l (accumulator w) || c) (sym (or_none (is_read l a)))
  all_made (in_frame k) = sym (ap (λ c. c || (frame_read body a k || false)) (accumulator_framed body w k) ∙ or_none (frame_read body a k))

  accumulator_at : (w : Width) → IsOperandAt o body (coarse.procedure entry).is_exposed (accumulator w) (register_place (accumulator w))
  accumulator_at byte_width = byte_at o body (coarse.procedure entry).is_exposed Ax Low refl
  accumulator_at word_width = word_at o body (coarse.procedure entry).is_exposed Ax refl

  module _ (operation : Unary) (v : IsValueOperation coarse fine r entry at o bodies body (point_with_op node height (UnaryOp operation a))) where
    module _ (pair : IsPair operation) (working : List Stmt) (made : Location → List Input) (used_inputs : List Input) (work : IsHeldWork w working (pair_writes w) made used_inputs)
        (makes : (l : Location) → pair_writes w l ≡ true → (L : Holder) → value_made_of body (UnaryOp operation a) (held l) L ≡ made_by ra rb (made l) L)
        (uses_are : (L : Holder) → value_uses body (UnaryOp operation a) node.number L ≡ made_by ra rb used_inputs L) where
      writes_held : (l : Location) → passes (held l) ≡ true → value_written body (UnaryOp operation a) node.number (held l) ≡ pair_writes w l
      writes_held (half_of q h) p = ap (λ c. c && unary_writes_half operation a q h) p ∙ pair.writes a q h
      writes_held (flag_of f) p = pair.writes_flag f

      sure : (l : Location) → pair_writes w l ≡ true → is_sure (UnaryOp operation a) (held l) ≡ true
      sure (half_of q h) e = refl
      sure (flag_of f) e = pair.writes_flag f

      pair_agrees : Agrees coarse fine r entry at pushed (held_stmts coarse fine r entry at pushed o bodies body (point_with_op node height (UnaryOp operation a)) v w (register_place (accumulator w)) P ra rb working (pair_writes w) made used_inputs) []
      pair_agrees = held_agrees coarse fine r entry at pushed o bodies body (point_with_op node height (UnaryOp operation a)) v w (register_place (accumulator w)) P ra rb working (pair_writes w) made used_inputs (record {
        work = work;
        second_kept = all_lasting (reads_at P) x.reads_kept;
        firsts = shows_so (Reads ra) (reads_at (register_place (accumulator w))) v.as_same v.same (accumulator_at w).reads;
        seconds = shows_so (Reads rb) (reads_at P) v.as_same v.same x.reads;
        writes_held = writes_held;
        writes_frame = λ k. ap (λ c. (c && is_memory a) && frame_read body a k) pair.keeps;
        makes = makes;
        sure = sure;
        uses = uses_are;
      })

    module _ (is : IsProduct operation) where
      product_makes : (l : Location) → pair_writes w l ≡ true → (L : Holder) → value_made_of body (UnaryOp operation a) (held l) L ≡ made_by ra rb (product_made l) L
      product_makes (half_of q h) e (held l) =
          ap (λ c. (c && unary_reads operation a l) && true) (is.makes a q h ∙ e) ∙ and_true (unary_reads operation a l) ∙ is.reads a l ∙ all_made (held l)
      product_makes (half_of q h) e (in_frame k) = ap (λ c. (c && true) && frame_read body a k) (is.makes a q h ∙ e) ∙ all_made (in_frame k)
      product_makes (flag_of f) e (held l) =
          ap (λ c. (c && unary_reads operation a l) && true) (is.makes_flag a f) ∙ and_true (is_carry_or_overflow f && unary_reads operation a l)
          ∙ flag_made ra rb (is_carry_or_overflow f) (held l) (unary_reads operation a l) (is.reads a l ∙ all_made (held l))
      product_makes (flag_of f) e (in_frame k) =
          ap (λ c. (c && true) && frame_read body a k) (is.makes_flag a f) ∙ ap (λ c. c && frame_read body a k) (and_true (is_carry_or_overflow f))
          ∙ flag_made ra rb (is_carry_or_overflow f) (in_frame k) (frame_read body a k) (all_made (in_frame k))

      product_uses : (L : Holder) → value_uses body (UnaryOp operation a) node.number L ≡ false
      product_uses (held l) =
          ap (λ b. if b then division_uses a l else not (in_cells body a) && (if b then is_dividend (operand_width a) l || is_read l a else (is_in_memory a && stores_back operation) && is_read l a)) is.no_division
          ∙ ap (λ c. not (in_cells body a) && ((is_in_memory a && c) && is_read l a)) is.stores ∙ ap (λ c. not (in_cells body a) && (c && is_read l a)) (and_false (is_in_memory a))
          ∙ and_false (not (in_cells body a))
      product_uses (in_frame k) = ap (λ c. c && frame_read body a k) is.no_division

      product_agrees : (signed : Bool) → Agrees coarse fine r entry at pushed (multiplying w signed P) []
      product_agrees signed = pair_agrees is.pair (multiplied_by w signed) product_made [] (product_works w signed) product_makes product_uses

    module _ (is : IsQuotient operation) where
      quotient_makes : (l : Location) → pair_writes w l ≡ true → (L : Holder) → value_made_of body (UnaryOp operation a) (held l) L ≡ false
      quotient_makes l e (held from) = ap (λ c. (c && unary_reads operation a from) && true) (is.makes a l)
      quotient_makes l e (in_frame k) = ap (λ c. (c && true) && frame_read body a k) (is.makes a l)

      quotient_uses : (L : Holder) → value_uses body (UnaryOp operation a) node.number L ≡ made_by ra rb both_inputs L
      quotient_uses (held l) = ap (λ b. if b then division_uses a l else not (in_cells body a) && uses (UnaryOp operation a) node.number l) is.division ∙ all_made (held l)
      quotient_uses (in_frame k) = ap (λ c. c && frame_read body a k) is.division ∙ all_made (in_frame k)

      quotient_agrees : (quotient remainder : BinOp) → Agrees coarse fine r entry at pushed (dividing w quotient remainder P) []
      quotient_agrees quotient remainder = pair_agrees is.pair (divided_by w quotient remainder) nothing_made both_inputs (division_works w quotient remainder) quotient_makes quotient_uses

  pub mul_agrees : IsValueOperation coarse fine r entry at o bodies body (point_with_op node height (UnaryOp Mul a)) → Agrees coarse fine r entry at pushed (unary_stmts Mul w P) []
  mul_agrees v = product_agrees Mul v mul_is false

  pub imul_agrees : IsValueOperation coarse fine r entry at o bodies body (point_with_op node height (UnaryOp Imul a)) → Agrees coarse fine r entry at pushed (unary_stmts Imul w P) []
  imul_agrees v = product_agrees Imul v imul_is true

  pub div_agrees : IsValueOperation coarse fine r entry at o bodies body (point_with_op node height (UnaryOp DivOf a)) → Agrees coarse fine r entry at pushed (unary_stmts DivOf w P) []
  div_agrees v = quotient_agrees DivOf v div_is DivU RemU

  pub idiv_agrees : IsValueOperation coarse fine r entry at o bodies body (point_with_op node height (UnaryOp Idiv a)) → Agrees coarse fine r entry at pushed (unary_stmts Idiv w P) []
  idiv_agrees v = quotient_agrees Idiv v idiv_is DivS RemS

  -- The product with a constant.

  module _ (to : Reg) (factor : ℕ) (v : IsValueOperation coarse fine r entry at o bodies body (point_with_op node height (Imul3 to a factor))) where
    abbrev nothing : Holder → Bool
    nothing L = false

    operand_made : (L : Holder) → rb L ≡ made_by rb nothing both_inputs L
    operand_made L = sym (or_none (rb L))

    triple_makes : (l : Location) → triple_writes to l ≡ true → (L : Holder) → value_made_of body (Imul3 to a factor) (held l) L ≡ made_by rb nothing (product_made l) L
    triple_makes (half_of q h) e (held l) = ap (λ c. (c && is_read l a) && true) e ∙ and_true (is_read l a) ∙ operand_made (held l)
    triple_makes (half_of q h) e (in_frame k) = ap (λ c. (c && true) && frame_read body a k) e ∙ operand_made (in_frame k)
    triple_makes (flag_of f) e (held l) =
        and_true (is_carry_or_overflow f && is_read l a) ∙ flag_made rb nothing (is_carry_or_overflow f) (held l) (is_read l a) (operand_made (held l))
    triple_makes (flag_of f) e (in_frame k) =
        ap (λ c. c && frame_read body a k) (and_true (is_carry_or_overflow f)) ∙ flag_made rb nothing (is_carry_or_overflow f) (in_frame k) (frame_read body a k) (operand_made (in_frame k))

    triple_uses : (L : Holder) → value_uses body (Imul3 to a factor) node.number L ≡ false
    triple_uses (held l) = and_false (not (in_cells body a))
    triple_uses (in_frame k) = refl

    triple_held : (l : Location) → passes (held l) ≡ true → value_written body (Imul3 to a factor) node.number (held l) ≡ triple_writes to l
    triple_held (half_of q h) p = ap (λ c. c && is_same_register q to) p
    triple_held (flag_of f) p = refl

    triple_sure : (l : Location) → triple_writes to l ≡ true → is_sure (Imul3 to a factor) (held l) ≡ true
    triple_sure (half_of q h) e = refl
    triple_sure (flag_of f) e = refl

    pub triple_agrees : Agrees coarse fine r entry at pushed (triple_product to P factor) []
    triple_agrees = held_agrees coarse fine r entry at pushed o bodies body (point_with_op node height (Imul3 to a factor)) v word_width P (constant word_width factor) rb nothing (times_constant to) (triple_writes to) product_made [] (record {
      work = triple_works to;
      second_kept = refl;
      firsts = shows_so (Reads rb) (reads_at P) v.as_same v.same x.reads;
      seconds = shows_never (r.same entry) (Reads nothing) (λ L t. true≢false (sym t.1));
      writes_held = triple_held;
      writes_frame = λ k. refl;
      makes = triple_makes;
      sure = triple_sure;
      uses = triple_uses;
    })
