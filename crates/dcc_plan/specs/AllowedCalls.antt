-- When the texts of Calls, of Rets and of opening assignments are allowed.
use Rattle.std.specs.Prelude.{◌≡◌, ℕ, ◌+◌, ◌*◌, ◌<◌, ◌≤◌, Bool, true, List, length, Some, All, Contains}
use Rattle.dcc_ir.specs.declared.syntax.Loc.{Loc}
use Rattle.dcc_ir.specs.Measure.{depth_of}
use Rattle.dcc_ir.specs.Tree as inner
use Rattle.dcc_ir.specs.Use.{reads_of}
use Rattle.dcc_ir.specs.WellFormed.{is_stmt, all_ret_widths, IsGraph, IsCall}
use Rattle.dcc_c.specs.Rules.{declared_in}
use Rattle.dcc_c.specs.Run.{function_in}
use Rattle.dcc_c.specs.Tree.{Function, Tree}
use Rattle.dcc_text.specs.Allowed.{AreDeclared, IsAllowedStmt}
use Rattle.dcc_text.specs.Stmts.{stmt_text}
use Rattle.dcc_variables.specs.Functions.{function_name, parameters, function_spelling, result_type, ret_text, openings}
use Rattle.dcc_variables.specs.Functions.{IsFunctionOf}
use Rattle.dcc_variables.specs.FunctionLaws.{HasFewNames, has_name}

-- The function declares what the spelling of the graph names, and expressions of so many levels are no deeper in its
-- text than the limit, with what stands around them.
pub record IsPlaceFor (tree : Tree) (f : Function) (graph : inner.Graph) (levels limit : ℕ) : Type 0 where
  pub declared : AreDeclared (declared_in tree f) (function_spelling graph)
  pub enough : 6 * levels + 3 ≤ limit

-- all that these expressions read has a name, and they have at most so many levels
pub record AreReadable (graph : inner.Graph) (levels : ℕ) (es : List inner.Expr) : Type 0 where
  pub named : All (λ e. All (has_name graph) (reads_of e)) es
  pub shallow : All (λ e. depth_of e ≤ levels) es

-- The text of a Call is allowed where the text has the callee's function. A result is taken only of a graph that has a
-- Ret.
abbrev pub CallsAreAllowed : Type 0
CallsAreAllowed = (p : inner.Program) (tree : Tree) (f callee : Function) (graph : inner.Graph) (results : List Loc)
    (entry : ℕ) (arguments : List inner.Expr) (own depth levels limit : ℕ)
    → IsPlaceFor tree f graph levels limit → is_stmt graph.bits (inner.Call results entry arguments own) ≡ true
    → (call : IsCall p graph results entry arguments) → IsFunctionOf call.callee (function_name entry) callee
    → function_in tree.functions (function_name entry) ≡ Some callee → length results ≤ 1
    → (0 < length results → 0 < length (all_ret_widths call.callee)) → All (has_name graph) results
    → AreReadable graph levels arguments
    → IsAllowedStmt tree f limit (stmt_text (function_spelling graph) depth (inner.Call results entry arguments own))

-- The text of a Ret is allowed in the function of a graph all of whose Rets give values of the same widths.
abbrev pub ReturnsAreAllowed : Type 0
ReturnsAreAllowed = (tree : Tree) (f : Function) (graph : inner.Graph) (block : inner.Block)
    (values : List inner.Expr) (levels limit : ℕ)
    → IsPlaceFor tree f graph levels limit → IsGraph graph → f.result ≡ result_type graph
    → ((a b : List ℕ) → Contains (all_ret_widths graph) a → Contains (all_ret_widths graph) b → a ≡ b)
    → Contains graph.blocks block → block.exit ≡ inner.Ret values → length values ≤ 1
    → AreReadable graph levels values → IsAllowedStmt tree f limit (ret_text (function_spelling graph) values)

-- The opening assignments of a graph's function are allowed in it.
abbrev pub OpeningsAreAllowed : Type 0
OpeningsAreAllowed = (tree : Tree) (f : Function) (graph : inner.Graph) (opens : Loc → Bool) (levels limit : ℕ)
    → IsPlaceFor tree f graph levels limit → IsGraph graph → HasFewNames graph → f.params ≡ parameters graph
    → ((location : Loc) → opens location ≡ true → has_name graph location)
    → All (IsAllowedStmt tree f limit) (openings opens graph)
