-- The trees that the declared types stand for.
use Rattle.std.specs.Prelude.{List, map, option_map}
use Rattle.dcc_ir.specs.declared.syntax.Loc.{Loc}
use Rattle.dcc_ir.specs.declared.syntax.Expr.{Expr as Expression, Const as ConstOf, Get as GetOf, Load', Un', Bin'}
use Rattle.dcc_ir.specs.declared.syntax.Expr.{Widen', Part', Join', Choose', Address as AddressOf}
use Rattle.dcc_ir.specs.declared.syntax.Stmt.{Stmt as Statement}
use Rattle.dcc_ir.specs.declared.syntax.Stmt.TheVariants.{Set as SetOf, Load as LoadOf, Store as StoreOf, Div as DivOf}
use Rattle.dcc_ir.specs.declared.syntax.Stmt.TheVariants.{Call as CallOf, Dos as DosOf}
use Rattle.dcc_ir.specs.declared.syntax.End.{End as BlockEnd}
use Rattle.dcc_ir.specs.declared.syntax.End.TheVariants.{Goto as GotoOf, If as IfOf, Switch as SwitchOf, Ret as RetOf}
use Rattle.dcc_ir.specs.declared.syntax.End.TheVariants.{Stop as StopOf}
use Rattle.dcc_ir.specs.declared.syntax.Block.{Block as BlockOf}
use Rattle.dcc_ir.specs.declared.syntax.Graph.{Graph as GraphOf}
use Rattle.dcc_ir.specs.declared.syntax.IrProgram.{IrProgram}
use Rattle.dcc_ir.specs.declared.facts.Sum.{Sum}
use Rattle.dcc_ir.specs.declared.facts.Sums.{Sums}
use Rattle.dcc_ir.specs.declared.facts.Live.{Live}
use Rattle.dcc_ir.specs.Tree.{Expr, Const, Get, Load, Unary, Binary, Widen, Part, Join, Choose, Address, Stmt, Set}
use Rattle.dcc_ir.specs.Tree.{Fetch, Store, Div, Call, Dos, Exit, Goto, If, Switch, Ret, Stop, Block, Graph, Program}
use Rattle.dcc_ir.specs.Tree.{Summary}

-- the tree of an expression
abbrev pub expr_of : Expression → Expr
expr_of (ConstOf width n) = Const width n
expr_of (GetOf location) = Get location
expr_of (Load' width _ address) = Load width (expr_of address)
expr_of (Un' operator width _ a) = Unary operator width (expr_of a)
expr_of (Bin' operator width _ a _ b) = Binary operator width (expr_of a) (expr_of b)
expr_of (Widen' signed width _ a) = Widen signed width (expr_of a)
expr_of (Part' width first _ a) = Part width first (expr_of a)
expr_of (Join' _ high _ low) = Join (expr_of high) (expr_of low)
expr_of (Choose' _ test _ a _ b) = Choose (expr_of test) (expr_of a) (expr_of b)
expr_of (AddressOf distance) = Address distance

-- the tree of a statement
abbrev pub stmt_of : Statement → Stmt
stmt_of (SetOf location e) = Set location (expr_of e)
stmt_of (LoadOf location width address) = Fetch location width (expr_of address)
stmt_of (StoreOf width address e) = Store width (expr_of address) (expr_of e)
stmt_of (DivOf location e) = Div location (expr_of e)
stmt_of (CallOf results entry arguments depth) = Call results.items entry (map expr_of arguments.items) depth
stmt_of (DosOf number place argument) = Dos number place (option_map expr_of argument)

-- the tree of a block's end
abbrev pub exit_of : BlockEnd → Exit
exit_of (GotoOf block) = Goto block
exit_of (IfOf test one other) = If (expr_of test) one other
exit_of (SwitchOf e blocks) = Switch (expr_of e) blocks.items
exit_of (RetOf values) = Ret (map expr_of values.items)
exit_of StopOf = Stop

-- the tree of a block
abbrev pub block_of : BlockOf → Block
block_of b = record { at = b.at; stmts = map stmt_of b.stmts.items; exit = exit_of b.end }

-- the tree of a graph
abbrev pub graph_of : GraphOf → Graph
graph_of g = record {
  entry = g.entry;
  params = g.params.items;
  local = g.local;
  pushed = g.pushed;
  blocks = map block_of g.blocks.items;
  bits = g.bits.items;
}

-- the tree of a program
abbrev pub program_of : IrProgram → Program
program_of p = record { graphs = map graph_of p.graphs.items; image = p.image.items; lo = p.lo; hi = p.hi }

abbrev pub summary_of : Sum → Summary
summary_of x = record { params = x.params.items; results = x.results.items; preserved = x.preserved.items }

-- the locations that pass, of each graph
abbrev pub summaries_of : Sums → List Summary
summaries_of s = map summary_of s.of.items

-- the locations that are live at the end of each block
abbrev pub live_of : Live → List (List Loc)
live_of l = map (λ v. v.items) l.at_end.items
