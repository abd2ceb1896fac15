-- Kinds of parts, statements and ends of blocks: what is left of one beside its operands.
use Rattle.std.specs.Prelude.{◌≡◌, ℕ, Bool, true, false, ◌&&◌, ◌||◌, List, map, option_map}
use Rattle.std.specs.List.{AllZip, list_all}
use Rattle.dcc_num.specs.declared.FlagName.{FlagName}
use Rattle.dcc_ir.specs.declared.syntax.BinOp.TheVariants.{Add}
use Rattle.dcc_ir.specs.declared.syntax.Loc.TheVariants.{Flag, Temp}
use Rattle.dcc_ir.specs.Tree.{Expr, Const, Get, Load, Unary, Binary, Widen, Part, Join, Choose, Address, Stmt, Set}
use Rattle.dcc_ir.specs.Tree.{Fetch, Store, Div, Call, Dos, Exit, Goto, If, Switch, Ret, Stop, Block, Graph}
use Rattle.dcc_ir.specs.Use.{parts_of, exprs_of, exit_exprs, graph_exprs}
use Rattle.dcc_flags.specs.Accesses.{block_by_halves}

-- what stands in place of each operand
abbrev pub no_operand : Expr
no_operand = Const 1 0

abbrev pub kind_of : Expr → Expr
kind_of (Const width n) = Const width n
kind_of (Get location) = Get location
kind_of (Load width address) = Load width no_operand
kind_of (Unary operator width a) = Unary operator width no_operand
kind_of (Binary operator width a b) = Binary operator width no_operand no_operand
kind_of (Widen signed width a) = Widen signed width no_operand
kind_of (Part width first a) = Part width first no_operand
kind_of (Join high low) = Join no_operand no_operand
kind_of (Choose test a b) = Choose no_operand no_operand no_operand
kind_of (Address distance) = Address distance

abbrev pub stmt_kind : Stmt → Stmt
stmt_kind (Set location e) = Set location no_operand
stmt_kind (Fetch location width address) = Fetch location width no_operand
stmt_kind (Store width address e) = Store width no_operand no_operand
stmt_kind (Div location e) = Div location no_operand
stmt_kind (Call results entry arguments depth) = Call results entry (map (λ e. no_operand) arguments) depth
stmt_kind (Dos number place argument) = Dos number place (option_map (λ e. no_operand) argument)

abbrev pub exit_kind : Exit → Exit
exit_kind (Goto place) = Goto place
exit_kind (If test one other) = If no_operand one other
exit_kind (Switch e places) = Switch no_operand places
exit_kind (Ret values) = Ret (map (λ e. no_operand) values)
exit_kind Stop = Stop

-- the kinds of all parts of expressions in a graph pass a test, and those of all its statements
abbrev pub all_parts : (Expr → Bool) → Graph → Bool
all_parts test graph = list_all (λ e. list_all (λ part. test (kind_of part)) (parts_of e)) (graph_exprs graph)

abbrev pub all_kinds : (Stmt → Bool) → Graph → Bool
all_kinds test graph = list_all (λ b. list_all (λ stmt. test (stmt_kind stmt)) b.stmts) graph.blocks

-- an address in the frame, or its sum with a number
abbrev pub is_frame_sum : Expr → Bool
is_frame_sum (Address distance) = true
is_frame_sum (Binary Add width (Address distance) (Const other n)) = true
is_frame_sum e = false

-- the statement sets a temporary to an address in the frame, or to the sum of one with a number
abbrev pub takes_frame_sum : Stmt → Bool
takes_frame_sum (Set (Temp n) e) = is_frame_sum e
takes_frame_sum stmt = false

-- the kinds of all parts of the expressions pass a test
abbrev pub parts_pass : (Expr → Bool) → List Expr → Bool
parts_pass test es = list_all (λ e. list_all (λ part. test (kind_of part)) (parts_of e)) es

-- the kinds of all parts in a block pass a test, but for those of statements that set temporaries to addresses in the
-- frame or to the sums of these with numbers
abbrev pub other_parts : (Expr → Bool) → Block → Bool
other_parts test b =
    list_all (λ stmt. takes_frame_sum stmt || parts_pass test (exprs_of stmt)) b.stmts
    && parts_pass test (exit_exprs b.exit)

-- the blocks end in the same way
abbrev pub EndsAlike : Block → Block → Type 0
EndsAlike before after = exit_kind after.exit ≡ exit_kind before.exit

-- The second graph has only kinds that the first has, beside reads of flags and of temporaries, and statements that set
-- temporaries: what the first one's pass, and these, the second one's pass too; and so where statements that set
-- temporaries to addresses in the frame, or to the sums of these with numbers, need not pass. Where the addresses of the
-- first one's accesses read halves of registers and of cells alone, so do the second one's. Blocks end as they did.
pub record KindsStay (before after : Graph) : Type 0 where
  pub parts : (test : Expr → Bool) → ((f : FlagName) → test (Get (Flag f)) ≡ true) → ((n : ℕ) → test (Get (Temp n))
      ≡ true)
      → all_parts test before ≡ true → all_parts test after ≡ true
  pub others : (test : Expr → Bool) → ((f : FlagName) → test (Get (Flag f)) ≡ true)
      → ((n : ℕ) → test (Get (Temp n)) ≡ true)
      → list_all (other_parts test) before.blocks ≡ true → list_all (other_parts test) after.blocks ≡ true
  pub stmts : (test : Stmt → Bool) → ((n : ℕ) → test (Set (Temp n) no_operand) ≡ true)
      → all_kinds test before ≡ true → all_kinds test after ≡ true
  pub accesses : list_all block_by_halves before.blocks ≡ true → list_all block_by_halves after.blocks ≡ true
  pub exits : AllZip EndsAlike before.blocks after.blocks
