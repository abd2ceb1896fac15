-- Temporaries whose value may stand in the place of their one read.
use Rattle.std.specs.Prelude.{◌≡◌, ℕ, ◌≤◌, Bool, true, false, not, if◌then◌else◌, List, [], ◌∷◌, ◌++◌, flat_map}
use Rattle.std.specs.Prelude.{count_by, Contains}
use Rattle.std.specs.List.{list_any, list_all}
use Rattle.dcc_ir.specs.declared.syntax.Loc.{Loc}
use Rattle.dcc_ir.specs.declared.syntax.Loc.TheVariants.{Temp}
use Rattle.dcc_ir.specs.declared.syntax.Put.{Put}
use Rattle.dcc_ir.specs.declared.syntax.Put.TheVariants.{Memory, One, Two}
use Rattle.dcc_ir.specs.Tree.{Expr, Const, Get, Load, Unary, Binary, Widen, Part, Join, Choose, Address, Stmt, Set}
use Rattle.dcc_ir.specs.Tree.{Store, Call, Dos, Exit, Block, Graph}
use Rattle.dcc_ir.specs.Location.{same_location}
use Rattle.dcc_ir.specs.Use.{parts_of, reads_of, exprs_of, writes_of, exit_exprs, graph_exprs}
use Rattle.dcc_ir.specs.Live.{is_among}
use Rattle.dcc_ir.specs.Measure.{depth_of}

-- the expression with the value in place of each Get of the location
abbrev pub with_value_for : Loc → Expr → Expr → Expr
with_value_for location value (Const width n) = Const width n
with_value_for location value (Get other) = if same_location other location then value else Get other
with_value_for location value (Load width a) = Load width (with_value_for location value a)
with_value_for location value (Unary operator width a) = Unary operator width (with_value_for location value a)
with_value_for location value (Binary operator width a b) =
    Binary operator width (with_value_for location value a) (with_value_for location value b)
with_value_for location value (Widen signed width a) = Widen signed width (with_value_for location value a)
with_value_for location value (Part width first a) = Part width first (with_value_for location value a)
with_value_for location value (Join high low) =
    Join (with_value_for location value high) (with_value_for location value low)
with_value_for location value (Choose test a b) =
    Choose (with_value_for location value test) (with_value_for location value a) (with_value_for location value b)
with_value_for location value (Address distance) = Address distance

abbrev pub places_of : Put → List Loc
places_of Memory = []
places_of (One location) = location ∷ []
places_of (Two low high) = low ∷ high ∷ []

abbrev pub is_load : Expr → Bool
is_load (Load width address) = true
is_load _ = false

-- a value may pass the statement: it is no call, it writes nothing that the value reads, and it is no Store where the
-- value holds a Load
abbrev pub lets_pass : Expr → Stmt → Bool
lets_pass value (Call results entry arguments depth) = false
lets_pass value (Dos number place argument) = false
lets_pass value (Store width address e) = not (list_any is_load (parts_of value))
lets_pass value stmt = not (list_any (is_among (writes_of stmt)) (reads_of value))

-- how often the location stands in the list
abbrev pub times_in : List Loc → Loc → ℕ
times_in locations location = count_by (same_location location) locations

-- the expressions of the next statement, or of the block's end where there is none
abbrev pub next_exprs : List Stmt → Exit → List Expr
next_exprs [] exit = exit_exprs exit
next_exprs (stmt ∷ stmts) exit = exprs_of stmt

-- The temporary is no param's place; one statement writes it, a Set, and one Get of it stands in the graph, further on
-- in the same block. What stands between lets the value pass, and with the value in its place the expression of the
-- Get is at most 32 deep.
pub record IsJoinable (graph : Graph) (temporary : ℕ) : Type 0 where
  pub no_param : is_among (flat_map (λ p. places_of p.put) graph.params) (Temp temporary) ≡ false
  pub written_once : times_in (flat_map (λ b. flat_map writes_of b.stmts) graph.blocks) (Temp temporary) ≡ 1
  pub read_once : times_in (flat_map reads_of (graph_exprs graph)) (Temp temporary) ≡ 1
  pub block : Block
  pub in_graph : Contains graph.blocks block
  pub before : List Stmt
  pub value : Expr
  pub between : List Stmt
  pub after : List Stmt
  pub stmts : block.stmts ≡ before ++ Set (Temp temporary) value ∷ (between ++ after)
  pub reader : Expr
  pub read_next : Contains (next_exprs after block.exit) reader
  pub reads : is_among (reads_of reader) (Temp temporary) ≡ true
  pub passes : list_all (lets_pass value) between ≡ true
  pub shallow : depth_of (with_value_for (Temp temporary) value reader) ≤ 32
