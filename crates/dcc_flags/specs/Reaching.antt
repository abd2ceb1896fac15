-- Which definitions of a flag reach a place (A. V. Aho, R. Sethi, J. D. Ullman, Compilers, 1986, 10.5), and which flags
-- are kept.
use Rattle.std.specs.Prelude.{◌≡◌, ◌≢◌, ℕ, suc, Bool, true, false, ◌||◌, not, List, [], ◌∷◌, drop, flat_map, Contains}
use Rattle.dcc_num.specs.declared.FlagName.{FlagName}
use Rattle.dcc_ir.specs.declared.syntax.Loc.TheVariants.{Flag}
use Rattle.dcc_ir.specs.Tree.{Expr, Choose, Stmt, Set, Call, Block, Graph}
use Rattle.dcc_ir.specs.FlagReads.{gets}
use Rattle.dcc_ir.specs.Use.{writes_of}
use Rattle.dcc_ir.specs.Live.{is_among, reads, block_in, follows}
use Rattle.dcc_ir.specs.Joinable.{places_of, next_exprs}

-- a definition of a flag: the start of the graph, or a statement, by the place of its block and its own
pub data Definition : Type 0 where
  Start : Definition
  At : ℕ → ℕ → Definition

abbrev pub has_arm : FlagName → Expr → Bool
has_arm f (Choose test a b) = gets f a || gets f b
has_arm f _ = false

-- the statement is a definition of the flag
abbrev pub defines : FlagName → Stmt → Bool
defines f stmt = is_among (writes_of stmt) (Flag f)

-- the statement may leave the flag as it is: it chooses between a new value and the flag's own
abbrev pub chooses : FlagName → Stmt → Bool
chooses f (Set location e) = has_arm f e
chooses f _ = false

-- earlier definitions of the flag reach past the statement
abbrev pub lets_through : FlagName → Stmt → Bool
lets_through f stmt = not (defines f stmt) || chooses f stmt

-- the statements of a block from the place on
abbrev pub rest_at : Graph → ℕ → ℕ → List Stmt
rest_at graph block place = drop place (block_in graph block).stmts

-- The definition reaches the place in the block: some path from the graph's start leads past it and on to the place,
-- and each definition between lets it through.
pub data Reaches (graph : Graph) (f : FlagName) : Definition → ℕ → ℕ → Type 0 where
  begins : Reaches graph f Start 0 0
  defined :
      {d : Definition} {block place : ℕ} {stmt : Stmt} {rest : List Stmt}
      → Reaches graph f d block place → rest_at graph block place ≡ stmt ∷ rest → defines f stmt ≡ true
      → Reaches graph f (At block place) block (suc place)
  passes :
      {d : Definition} {block place : ℕ} {stmt : Stmt} {rest : List Stmt}
      → Reaches graph f d block place → rest_at graph block place ≡ stmt ∷ rest → lets_through f stmt ≡ true
      → Reaches graph f d block (suc place)
  goes :
      {d : Definition} {block place next : ℕ}
      → Reaches graph f d block place → rest_at graph block place ≡ [] → follows graph block next ≡ true
      → Reaches graph f d next 0

-- the statement at the place, or the block's end where it is the last one, reads the flag
abbrev pub reads_at : Graph → FlagName → ℕ → ℕ → Bool
reads_at graph f block place = reads (next_exprs (rest_at graph block place) (block_in graph block).exit) (Flag f)

-- the flag is a result of the statement
abbrev pub has_result : FlagName → Stmt → Bool
has_result f (Call results entry arguments depth) = is_among results (Flag f)
has_result f _ = false

-- A flag is kept where an argument goes into it or a call gives it back, and where two definitions of it reach one
-- read. Definitions that differ only along paths that no run begins at count for nothing.
pub data IsKept (graph : Graph) (f : FlagName) : Type 0 where
  param : is_among (flat_map (λ p. places_of p.put) graph.params) (Flag f) ≡ true → IsKept graph f
  result :
      {block : Block} {stmt : Stmt} → Contains graph.blocks block → Contains block.stmts stmt
      → has_result f stmt ≡ true → IsKept graph f
  both :
      {d other : Definition} {block place : ℕ}
      → Reaches graph f d block place → Reaches graph f other block place → d ≢ other
      → reads_at graph f block place ≡ true → IsKept graph f
