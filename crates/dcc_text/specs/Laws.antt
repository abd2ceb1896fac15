-- Laws of the text of expressions and statements.
use Rattle.std.specs.Prelude.{◌≡◌, ℕ, ◌*◌, ◌≤◌, ◌⊎◌, true, false, Bool, All, Contains}
use Rattle.dcc_ir.specs.declared.syntax.Loc.{Loc}
use Rattle.dcc_ir.specs.Tree as inner
use Rattle.dcc_ir.specs.Fitting.{AreBytes}
use Rattle.dcc_ir.specs.Measure.{depth_of}
use Rattle.dcc_ir.specs.Run as inner_run
use Rattle.dcc_ir.specs.Use.{exprs_of, writes_of}
use Rattle.dcc_ir.specs.Value.{width_of, Environment, value_of, Fits}
use Rattle.dcc_ir.specs.WellFormed.{is_expr, is_stmt}
use Rattle.dcc_c.specs.Rules.{expr_depth}
use Rattle.dcc_c.specs.Tree.{Tree}
use Rattle.dcc_c.specs.Run as text_run
use Rattle.dcc_c.specs.Value.{Scope}
use Rattle.dcc_text.specs.Spelling.{Spelling}
use Rattle.dcc_text.specs.Spelled.{Way, text}
use Rattle.dcc_text.specs.Names.{names_in, read_names}
use Rattle.dcc_text.specs.Meaning.{Shows, IsText}
use Rattle.dcc_text.specs.Stmts.{stmt_text}
use Rattle.dcc_text.specs.Holding.{Locations, Alike, IsSpelling, IsWithin, Holds, HoldsOrEnds}

-- Where a text has what a well-formed expression reads, the text of the expression has a type and gives the
-- expression's value, in each way; it is never undefined and never faults.
abbrev pub ExpressionsMean : Type 0
ExpressionsMean = (s : Spelling) (scene : Environment) (scope : Scope) (e : inner.Expr) (way : Way) (votes : Bool)
    → Fits scene → is_expr scene.bits e ≡ true → Shows s scene scope e
    → IsText scope way (width_of scene.bits e) (value_of scene e) (text s way votes e)

-- the text of an expression has at most six levels for each of the expression's
abbrev pub ExpressionsAreShallow : Type 0
ExpressionsAreShallow = (s : Spelling) (e : inner.Expr) (way : Way) (votes : Bool)
    → expr_depth (text s way votes e) ≤ 6 * depth_of e

-- the text of an expression reads just what the expression reads, each as often and in its place
abbrev pub ExpressionsReadTheirNames : Type 0
ExpressionsReadTheirNames = (s : Spelling) (e : inner.Expr) (way : Way) (votes : Bool)
    → names_in (text s way votes e) ≡ read_names s e

-- What a statement needs so that its text does what the statement does: it is well formed and no call, what it reads
-- is held before it, what it writes has variables, and what is held after it is held before it or written by it.
pub record IsStep (s : Spelling) (Before After : Locations) (stmt : inner.Stmt) : Type 0 where
  pub formed : is_stmt s.bits stmt ≡ true
  pub no_call : inner_run.is_call stmt ≡ false
  pub within : All (IsWithin s Before) (exprs_of stmt)
  pub written : All (λ location. s.named location ≡ true) (writes_of stmt)
  pub named : (location : Loc) → Before location → s.named location ≡ true
  pub left : (location : Loc) → After location → Contains (writes_of stmt) location ⊎ Before location

-- One step of the text of a statement does what the statement does: both runs are over alike, a divide fault by a
-- divide fault, or the text holds what matters after the statement.
abbrev pub StatementsStep : Locations → Locations → Alike → Type 0
StatementsStep Before After AreAlike = (s : Spelling) (tree : Tree) (stmt : inner.Stmt) (depth at : ℕ)
    (i : inner_run.State) (t : text_run.State)
    → IsSpelling s → IsStep s Before After stmt → Fits (inner_run.scene_of i) → AreBytes i.input
    → Holds s Before AreAlike i t
    → HoldsOrEnds s After AreAlike (inner_run.stmt_step stmt i) (text_run.stmt_step tree (stmt_text s depth stmt) at t)
