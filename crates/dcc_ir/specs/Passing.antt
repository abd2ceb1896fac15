-- The form in which procedures pass words, halves and flags to each other, before it is known which are wanted.
use Rattle.std.specs.Prelude.{◌≡◌, ℕ, ◌+◌, ◌*◌, ◌<◌, ◌&&◌, Bool, true, false, List, [], ◌∷◌, ◌++◌, length, map, drop}
use Rattle.std.specs.Prelude.{flat_map, slice_get, All, Option, Some, None}
use Rattle.std.specs.List.{list_all}
use Rattle.std.specs.List.Sorted.{IsStrictlyIncreasing}
use Rattle.dcc_num.specs.declared.Reg.TheVariants.{Ax, Cx, Dx, Bx, Si, Di}
use Rattle.dcc_num.specs.declared.Half.TheVariants.{Low, High}
use Rattle.dcc_num.specs.declared.FlagName.TheVariants.{Cf, Zf, Sf, Of}
use Rattle.dcc_ir.specs.declared.syntax.Loc.{Loc}
use Rattle.dcc_ir.specs.declared.syntax.Loc.TheVariants.{Half, Flag, Temp}
use Rattle.dcc_ir.specs.declared.syntax.Put.{Put}
use Rattle.dcc_ir.specs.declared.syntax.Put.TheVariants.{Memory, One, Two}
use Rattle.dcc_ir.specs.declared.syntax.Param.{Param}
use Rattle.dcc_ir.specs.Tree.{Expr, Get, Load, Address, Stmt, Call, Exit, Ret, Graph, Program}
use Rattle.dcc_ir.specs.WellFormed.{all_differ}

-- the halves and flags that pass, in their order
abbrev pub passed : List Loc
passed =
    Half Ax Low ∷ Half Ax High ∷ Half Cx Low ∷ Half Cx High ∷ Half Dx Low ∷ Half Dx High ∷ Half Bx Low ∷ Half Bx High
    ∷ Half Si Low ∷ Half Si High ∷ Half Di Low ∷ Half Di High ∷ Flag Cf ∷ Flag Zf ∷ Flag Sf ∷ Flag Of ∷ []

-- Params.

-- the param of a half or a flag
abbrev pub param_of : Loc → Param
param_of location = record { stack = false; put = One location }

-- an argument word stands in memory, or its two bytes in locations
abbrev pub is_word_put : Put → Bool
is_word_put (One location) = false
is_word_put _ = true

-- the params are the argument words of the stack, then the halves and flags
pub record PassesIn (words : List Param) (graph : Graph) : Type 0 where
  pub stack : list_all (λ p. p.stack && is_word_put p.put) words ≡ true
  pub params : graph.params ≡ words ++ map param_of passed

-- Values that are given back.

-- the two bytes of argument word j, low before high, from where its param has put it
abbrev pub bytes_at_put : ℕ → Put → List Expr
bytes_at_put j Memory = Load 8 (Address (2 * j)) ∷ Load 8 (Address (2 * j + 1)) ∷ []
bytes_at_put j (Two low high) = Get low ∷ Get high ∷ []
bytes_at_put j (One location) = []

abbrev pub bytes_of_param : ℕ → Option Param → List Expr
bytes_of_param j (Some p) = bytes_at_put j p.put
bytes_of_param j None = []

-- the bytes of the argument words of the given numbers
abbrev pub bytes_of : List Param → List ℕ → List Expr
bytes_of words numbers = flat_map (λ j. bytes_of_param j (slice_get words j)) numbers

-- numbers of argument words, ascending
pub record AreNumbers (params : List Param) (numbers : List ℕ) : Type 0 where
  pub ascending : IsStrictlyIncreasing numbers
  pub words : All (λ j. j < length params) numbers

-- a Ret gives the halves and flags, then the bytes of the argument words of the given numbers
abbrev pub RetPasses : List Param → List ℕ → Exit → Type 0
RetPasses words numbers (Ret values) = values ≡ map Get passed ++ bytes_of words numbers
RetPasses words numbers _ = Unit {0}

-- the graph takes argument words, halves and flags, and gives back the halves, the flags and the argument words of the
-- given numbers
pub record GraphPasses (numbers : List ℕ) (graph : Graph) : Type 0 where
  pub words : List Param
  pub params : PassesIn words graph
  pub known : AreNumbers words numbers
  pub rets : All (λ b. RetPasses words numbers b.exit) graph.blocks

-- Calls.

-- a Call takes words, then the caller's halves and flags, and sets the halves and flags and then a temporary of its
-- own for each byte of the words of the given numbers, in the order in which the callee gives them
pub record CallPasses (numbers : List ℕ) (results : List Loc) (arguments : List Expr) : Type 0 where
  pub words : List Expr
  pub taken : arguments ≡ words ++ map Get passed
  pub temporaries : List ℕ
  pub given : results ≡ passed ++ map Temp temporaries
  pub differ : all_differ temporaries ≡ true
  pub two : length temporaries ≡ 2 * length numbers

-- a statement, if it is a Call, sets what its callee gives back by the callee's entry
abbrev pub StmtPasses : (ℕ → List ℕ) → Stmt → Type 0
StmtPasses back (Call results entry arguments depth) = CallPasses (back entry) results arguments
StmtPasses back _ = Unit {0}

-- All halves and flags pass in and out of each graph but the first, and through each Call. Each graph gives back the
-- words of the numbers that are told of its entry.
pub record PassesAll (back : ℕ → List ℕ) (p : Program) : Type 0 where
  pub graphs : All (λ g. GraphPasses (back g.entry) g) (drop 1 p.graphs)
  pub calls : All (λ g. All (λ b. All (StmtPasses back) b.stmts) g.blocks) p.graphs
