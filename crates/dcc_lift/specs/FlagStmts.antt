-- Few of a lifted program's statements are on flags.
use Rattle.std.specs.Prelude.{◌≤◌, ℕ, Bool, true, false, ◌&&◌, ◌||◌, not, List, flat_map, count_by}
use Rattle.std.specs.List.{list_any}
use Rattle.dcc_num.specs.declared.FlagName.{FlagName}
use Rattle.dcc_prog.specs.declared.procedure.Node.{Node}
use Rattle.dcc_prog.specs.declared.procedure.Proc.{Proc}
use Rattle.dcc_machine.specs.declared.instr.Op.{Op}
use Rattle.dcc_machine.specs.declared.instr.Op.TheVariants.{Alu as AluOp, Shift as ShiftOp}
use Rattle.dcc_machine.specs.Writes.{writes_flag}
use Rattle.dcc_machine.specs.Wanted.{takes_carry, is_through_carry}
use Rattle.dcc_ir.specs.declared.syntax.Loc.{Loc}
use Rattle.dcc_ir.specs.declared.syntax.Loc.TheVariants.{Flag}
use Rattle.dcc_ir.specs.Location.{same_location}
use Rattle.dcc_ir.specs.Tree.{Expr, Get, Stmt, Set, Fetch, Div, Graph}
use Rattle.dcc_ir.specs.Use.{parts_of, writes_of}
use Rattle.dcc_ir.specs.Measure.{is_truth}

-- a part that reads a flag
abbrev pub is_flag_read : Expr → Bool
is_flag_read (Get (Flag flag)) = true
is_flag_read e = false

-- the expression reads a flag or holds a truth node
abbrev pub is_on_flags : Expr → Bool
is_on_flags e = list_any (λ part. is_flag_read part || is_truth part) (parts_of e)

-- the expression that the statement sets, loads by or divides reads a flag or holds a truth node
abbrev pub is_flag_stmt : Stmt → Bool
is_flag_stmt (Set location e) = is_on_flags e
is_flag_stmt (Fetch location width address) = is_on_flags address
is_flag_stmt (Div location e) = is_on_flags e
is_flag_stmt stmt = false

abbrev pub is_flag_location : Loc → Bool
is_flag_location (Flag flag) = true
is_flag_location location = false

-- a statement on flags that sets the flag; `is_other_flag_stmt`: one that sets none
abbrev pub is_setter_of : FlagName → Stmt → Bool
is_setter_of flag stmt = is_flag_stmt stmt && list_any (same_location (Flag flag)) (writes_of stmt)

abbrev pub is_other_flag_stmt : Stmt → Bool
is_other_flag_stmt stmt = is_flag_stmt stmt && not (list_any is_flag_location (writes_of stmt))

-- ADC, SBB, RCL and RCR: CF goes into their result
abbrev pub has_carry_in : Op → Bool
has_carry_in (AluOp operation a b) = takes_carry operation
has_carry_in (ShiftOp operation a count) = is_through_carry operation
has_carry_in op = false

abbrev pub graph_stmts : Graph → List Stmt
graph_stmts graph = flat_map (λ block. block.stmts) graph.blocks

-- Of each flag, the statements on flags that set it are no more than the procedure's instructions that may write it;
-- the statements on flags that set none are no more than the procedure's ADCs, SBBs, RCLs and RCRs.
pub record HasFewFlagStmts (proc : Proc) (graph : Graph) : Type 0 where
  pub setters :
      (flag : FlagName)
      → count_by (is_setter_of flag) (graph_stmts graph)
      ≤ count_by (λ (found : ℕ × Node). writes_flag found.1.instr.op flag) proc.nodes.entries
  pub others :
      count_by is_other_flag_stmt (graph_stmts graph)
      ≤ count_by (λ (found : ℕ × Node). has_carry_in found.1.instr.op) proc.nodes.entries
