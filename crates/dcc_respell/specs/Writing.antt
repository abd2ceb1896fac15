-- Ways to write the expressions of a function otherwise, each by where it stands; and the text in which they are.
use Rattle.std.specs.Prelude.{◌≡◌, ℕ, true, List, map, Option, Some, option_map}
use Rattle.std.specs.List.{flat_map, list_all, list_any}
use Rattle.dcc_c.specs.declared.syntax.Base.TheVariants.{Uint}
use Rattle.dcc_c.specs.declared.syntax.CType.{CType}
use Rattle.dcc_c.specs.Types.{plain}
use Rattle.dcc_c.specs.Tree.{Word, Expr, Stmt, Assign, Call, If, While, DoWhile, Forever, Switch, Return, Lines, no_lines}
use Rattle.dcc_c.specs.Tree.{line, Arms, no_arms, arm, Function, Tree}
use Rattle.dcc_c.specs.Dos.{Signature}
use Rattle.dcc_c.specs.Parts.{parts_of, exprs_of}
use Rattle.dcc_c.specs.Placement.{is_address_of}
use Rattle.dcc_c.specs.Rules.{declared_in, fits, is_number, is_switch_value, fit_all, allows_stmt, shallow_stmt}
use Rattle.dcc_c.specs.Rules.{signature_in}
use Rattle.dcc_c.specs.Typing.{place_type}
use Rattle.dcc_c.specs.Value.{target_of}
use Rattle.dcc_c.proofs.Writable.{is_writable_expr, is_writable_place}
use Rattle.dcc_progress.proofs.Declarations.{Takes}
use Rattle.dcc_respell.specs.Respelled.{Both, TargetAlike, InAllScopes, TestAlike, BecomesAlike, AssignAlike}
use Rattle.dcc_respell.specs.Respelled.{ArgumentsAlike}

-- how the expressions of a function are written, by where they stand
pub record Writing : Type 0 where
  -- the test of an `if` or of a loop
  pub test : Expr → Expr
  -- the value of a `switch`
  pub choice : Expr → Expr
  pub place : Expr → Expr
  -- what is assigned to a place
  pub value : Expr → Expr → Expr
  -- the arguments of the function with a name
  pub arguments : Word → List Expr → List Expr
  -- what is returned
  pub returned : Expr → Expr

-- Statements, with their expressions written so.
module _ (w : Writing) where
  abbrev mutual
    pub stmt_by : Stmt → Stmt
    stmt_by (Assign place e) = Assign (w.place place) (w.value place e)
    stmt_by (Call place function arguments depth) =
        Call (option_map w.place place) function (w.arguments function arguments) depth
    stmt_by (If e body otherwise) = If (w.test e) (lines_by body) (lines_by otherwise)
    stmt_by (While e body) = While (w.test e) (lines_by body)
    stmt_by (DoWhile body e) = DoWhile (lines_by body) (w.test e)
    stmt_by (Forever body) = Forever (lines_by body)
    stmt_by (Switch e arms last) = Switch (w.choice e) (arms_by arms) (arms_by last)
    stmt_by (Return e) = Return (option_map w.returned e)
    stmt_by stmt = stmt

    pub lines_by : Lines → Lines
    lines_by no_lines = no_lines
    lines_by (line stmt at lines) = line (stmt_by stmt) at (lines_by lines)

    pub arms_by : Arms → Arms
    arms_by no_arms = no_arms
    arms_by (arm cases body arms) = arm cases (lines_by body) (arms_by arms)

-- the text whose functions are written so, each in its own way
abbrev pub function_by : (Function → Writing) → Function → Function
function_by writing f = record f { body = lines_by (writing f) f.body }

abbrev pub text_by : (Function → Writing) → Tree → Tree
text_by writing tree = record tree { functions = map (function_by writing) tree.functions }

-- What is written so means the same in all calls of the two functions, where it may stand in the first one.
pub record MeansAlike (tree after : Tree) (f g : Function) (w : Writing) : Type 0 where
  pub test : (e : Expr) → is_number (declared_in tree f) e ≡ true → Takes f.body (parts_of e)
      → TestAlike tree after f g e (w.test e)
  pub choice : (e : Expr) → is_switch_value (declared_in tree f) e ≡ true → Takes f.body (parts_of e)
      → BecomesAlike tree after f g (plain Uint) (plain Uint) e (w.choice e)
  pub value : (place e : Expr) → allows_stmt tree f (Assign place e) ≡ true
      → Takes f.body (flat_map parts_of (exprs_of (Assign place e)))
      → AssignAlike tree after f g place e (w.place place) (w.value place e)
  pub place : (place : Expr) (type : CType) → place_type (declared_in tree f) place ≡ Some type
      → Takes f.body (parts_of place)
      → InAllScopes tree after f g (λ frame other scope there.
      Both TargetAlike (target_of scope place) (target_of there (w.place place)))
  pub arguments : (function : Word) (es : List Expr) (known there : Signature)
      → signature_in tree function ≡ Some known → signature_in after function ≡ Some there
      → fit_all (declared_in tree f) known.params es ≡ true → Takes f.body (flat_map parts_of es)
      → ArgumentsAlike tree after f g known.params there.params es (w.arguments function es)
  pub returned : (e : Expr) (type : CType) → f.result ≡ Some type → fits (declared_in tree f) type e ≡ true
      → Takes f.body (parts_of e) → BecomesAlike tree after f g type type e (w.returned e)

-- a statement takes the same addresses when it is written so
abbrev pub KeepsAddresses : Writing → Type 0
KeepsAddresses w = (stmt : Stmt) (word : Word)
    → list_any (is_address_of word) (flat_map parts_of (exprs_of (stmt_by w stmt)))
    ≡ list_any (is_address_of word) (flat_map parts_of (exprs_of stmt))

-- What is written so may stand in the second function, where it might stand in the first one as it was: names, types,
-- depth, and that it can be written.
pub record MayStand (tree after : Tree) (f g : Function) (w : Writing) : Type 0 where
  pub test : (e : Expr) → is_number (declared_in tree f) e ≡ true → is_number (declared_in after g) (w.test e) ≡ true
  pub choice : (e : Expr) → is_switch_value (declared_in tree f) e ≡ true
      → is_switch_value (declared_in after g) (w.choice e) ≡ true
  pub value : (place e : Expr) → allows_stmt tree f (Assign place e) ≡ true
      → allows_stmt after g (stmt_by w (Assign place e)) ≡ true
  pub call : (place : Option Expr) (function : Word) (es : List Expr) (depth : ℕ)
      → allows_stmt tree f (Call place function es depth) ≡ true
      → allows_stmt after g (stmt_by w (Call place function es depth)) ≡ true
  pub returned : (e : Expr) → allows_stmt tree f (Return (Some e)) ≡ true
      → allows_stmt after g (stmt_by w (Return (Some e))) ≡ true
  pub shallow : (stmt : Stmt) → shallow_stmt 200 stmt ≡ true → shallow_stmt 200 (stmt_by w stmt) ≡ true
  pub test_written : (e : Expr) → is_writable_expr e ≡ true → is_writable_expr (w.test e) ≡ true
  pub choice_written : (e : Expr) → is_writable_expr e ≡ true → is_writable_expr (w.choice e) ≡ true
  pub place_written : (place : Expr) → is_writable_place place ≡ true → is_writable_place (w.place place) ≡ true
  pub value_written : (place e : Expr) → is_writable_expr e ≡ true → is_writable_expr (w.value place e) ≡ true
  pub arguments_written : (function : Word) (es : List Expr) → list_all is_writable_expr es ≡ true
      → list_all is_writable_expr (w.arguments function es) ≡ true
  pub returned_written : (e : Expr) → is_writable_expr e ≡ true → is_writable_expr (w.returned e) ≡ true
