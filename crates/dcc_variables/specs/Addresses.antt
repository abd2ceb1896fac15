-- Where a text takes addresses of names.
use Rattle.std.specs.Prelude.{◌≡◌, ℕ, Bool, false, List, Some}
use Rattle.std.specs.List.{list_any}
use Rattle.dcc_ir.specs.declared.syntax.Loc.{Loc}
use Rattle.dcc_ir.specs.Tree as inner
use Rattle.dcc_c.specs.Parts.{parts_of, exprs_of, stmts_in}
use Rattle.dcc_c.specs.Placement.{is_address_of, takes_address}
use Rattle.dcc_c.specs.Token.{same_bytes}
use Rattle.dcc_c.specs.Tree.{Word, Expr, Stmt, Lines}
use Rattle.dcc_text.specs.Spelled.{Way, text}
use Rattle.dcc_text.specs.Stmts.{stmt_text}
use Rattle.dcc_variables.specs.Functions.{parameter_name, memory_from, function_spelling, ret_text, openings}

-- the expression, or one inside it, is the address of the name
abbrev pub has_address_of : Word → Expr → Bool
has_address_of word e = list_any (is_address_of word) (parts_of e)

-- an expression of the statement, but for the statements inside it, is the address of the name or has it inside
abbrev pub stmt_has_address_of : Word → Stmt → Bool
stmt_has_address_of word stmt = list_any (has_address_of word) (exprs_of stmt)

-- a body takes the address of a name where one of its statements does
abbrev pub BodiesTakeWhatStatementsTake : Type 0
BodiesTakeWhatStatementsTake = (body : Lines) (word : Word)
    → takes_address body word ≡ list_any (stmt_has_address_of word) (stmts_in body)

-- The texts of a graph's statements, as those of a function, take no address of the name.
pub record TakesNoAddress (graph : inner.Graph) (word : Word) : Type 0 where
  pub expressions : (e : inner.Expr) (way : Way) (votes : Bool)
      → has_address_of word (text (function_spelling graph) way votes e) ≡ false
  pub statements : (stmt : inner.Stmt) (depth : ℕ)
      → stmt_has_address_of word (stmt_text (function_spelling graph) depth stmt) ≡ false
  pub returns : (values : List inner.Expr)
      → stmt_has_address_of word (ret_text (function_spelling graph) values) ≡ false
  pub openings : (opens : Loc → Bool) → list_any (stmt_has_address_of word) (openings opens graph) ≡ false

-- The name is none of an argument in memory: not that of the first one, from which addresses are told.
abbrev pub IsNoMemoryName : inner.Graph → Word → Type 0
IsNoMemoryName graph word =
    (place : ℕ) → memory_from 0 graph.params ≡ Some place → same_bytes word (parameter_name place) ≡ false

-- The texts of a graph take the address of no name but that of the first argument in memory: local bytes of the frame
-- go by an array.
abbrev pub TextsTakeNoAddress : Type 0
TextsTakeNoAddress = (graph : inner.Graph) (word : Word) → IsNoMemoryName graph word → TakesNoAddress graph word
