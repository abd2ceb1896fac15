-- Temporaries that are joinable along a chain, and near misses.
use Rattle.std.proofs.Common.{◌≡◌, ◌≢◌, ℕ, zero, suc, ◌<◌, ◌≤◌, Bool, true, false, List, [], ◌∷◌, ◌++◌, map, Option, Some, None, refl, sym, subst, arith, slice_get, Contains}
use Rattle.dcc_num.specs.declared.Reg.TheVariants.{Ax, Cx}
use Rattle.dcc_num.specs.declared.Half.TheVariants.{Low}
use Rattle.dcc_ir.specs.declared.syntax.Loc.{Loc}
use Rattle.dcc_ir.specs.declared.syntax.Loc.TheVariants.{Half, Temp}
use Rattle.dcc_ir.specs.declared.syntax.BinOp.TheVariants.{Add}
use Rattle.dcc_ir.specs.Flow.{targets}
use Rattle.dcc_ir.specs.Tree.{Expr, Const, Get, Load, Widen, Binary, Address, Stmt, Set, Store, Call, Dos, Goto, Stop, Block, Graph}
use Rattle.dcc_ir.proofs.LocationLaws.{Contains-none}
use Rattle.dcc_available.specs.Along.{IsOnlyEdge}
use Rattle.dcc_fold.specs.Chain.{Step, statement, edge, steps_over, IsFirst, begins, goes_on}
use Rattle.dcc_fold.specs.Joinable.{lets_by, IsJoinable}

abbrev t : Loc
t = Temp 0

abbrev x : Expr
x = Get (Half Ax Low)

abbrev y : Expr
y = Get (Half Cx Low)

abbrev sum : Expr
sum = Binary Add 8 x y

abbrev stored : Stmt
stored = Store 8 (Address 4) y

abbrev first : Block
first = record { at = 5; stmts = Set t sum ∷ []; exit = Goto 1 }

abbrev second : List Stmt → Block
second stmts = record { at = 7; stmts = stmts; exit = Stop }

-- t = AL + CL; then, in the next block of the chain, a store, and AL = t
abbrev graph_of : List Stmt → Graph
graph_of stmts = record { entry = 5; params = []; local = 0; pushed = 0; blocks = first ∷ second stmts ∷ []; bits = 8 ∷ [] }

abbrev reader : List Stmt
reader = stored ∷ Set (Half Ax Low) (Get t) ∷ []

only_edge : (stmts : List Stmt) → IsOnlyEdge (graph_of stmts) 0 first 1
only_edge stmts = record {
  placed = refl;
  goes = refl;
  later = λ same. absurd (omega (arith, same));
  only = only;
}
  where
    only : (place : ℕ) (other : Block) → slice_get (first ∷ second stmts ∷ []) place ≡ Some other → Contains (targets other.exit) 1 → place ≡ 0
    only zero other found goes = refl
    only (suc zero) other found goes =
        let same : second stmts ≡ other = cc in
        absurd (Contains-none 1 (subst (λ (b : Block). Contains (targets b.exit) 1) (sym same) goes))
    only (suc (suc place)) other found goes = absurd (cc)

one_reader : IsJoinable (graph_of reader) 0
one_reader = record {
  alone = record { no_param = refl; written_once = refl; read_once = refl };
  place = 1;
  block = second reader;
  placed = refl;
  lead = [] ++ steps_over first;
  led = record { first = 0; is_first = λ from block only. only.later refl; along = goes_on (only_edge reader) begins };
  passed = stored ∷ [];
  rest = Set (Half Ax Low) (Get t) ∷ [];
  split = refl;
  value = sum;
  carried = record { before = []; between = edge ∷ statement stored ∷ []; steps_are = refl; passes = refl };
  reader = Get t;
  read_next = (0, omega arith, refl);
  is_reader = record { reads = refl; shallow = omega arith };
}

two_readers : ¬ IsJoinable (graph_of (Set (Half Ax Low) (Get t) ∷ Set (Half Cx Low) (Get t) ∷ [])) 0
two_readers is = let e = is.alone.read_once in cc

two_writers : ¬ IsJoinable (graph_of (Set t x ∷ Set (Half Ax Low) (Get t) ∷ [])) 0
two_writers is = let e = is.alone.written_once in cc

-- a value that is made of locations passes an edge, and one with a load doesn't
value_passes : lets_by sum edge ≡ true
value_passes = refl

load_stays_in_block : lets_by (Widen false 16 (Load 8 (Const 16 512))) edge ≡ false
load_stays_in_block = refl

load_stays_before_store : lets_by (Load 8 (Const 16 512)) (statement stored) ≡ false
load_stays_before_store = refl

value_stays_before_write : lets_by sum (statement (Set (Half Cx Low) (Const 8 1))) ≡ false
value_stays_before_write = refl

value_stays_before_call : lets_by (Const 8 1) (statement (Call [] 9 [] 0)) ≡ false
value_stays_before_call = refl
