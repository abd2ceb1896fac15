-- When the text of expressions and statements is allowed: its names are declared, it has types, and it can be written.
use Rattle.std.specs.Prelude.{◌≡◌, ℕ, ◌+◌, ◌*◌, ◌<◌, ◌≤◌, true, false, Bool, List, [], Some, All}
use Rattle.dcc_ir.specs.declared.syntax.Loc.{Loc}
use Rattle.dcc_ir.specs.Location.{location_width}
use Rattle.dcc_ir.specs.Measure.{depth_of}
use Rattle.dcc_ir.specs.Tree as inner
use Rattle.dcc_ir.specs.Use.{reads_of, exprs_of, writes_of}
use Rattle.dcc_ir.specs.Run.{is_call}
use Rattle.dcc_ir.specs.Value.{width_of}
use Rattle.dcc_ir.specs.WellFormed.{is_expr, is_stmt}
use Rattle.dcc_c.specs.declared.syntax.Base.{Base}
use Rattle.dcc_c.specs.Grammar.{is_name, Around}
use Rattle.dcc_c.specs.Parts.{inner_stmts, label_of}
use Rattle.dcc_c.specs.Rules.{declared_in, is_word_base, allows_stmt, shallow_stmt, goto_of}
use Rattle.dcc_c.specs.Tree.{Expr, Stmt, Function, Tree}
use Rattle.dcc_c.specs.Types.{promoted_type, plain}
use Rattle.dcc_c.specs.Typing.{Declared, declared_as, type_of}
use Rattle.dcc_c.proofs.Writable.{is_writable_expr, is_writable_stmt}
use Rattle.dcc_text.specs.Spelling.{Placed, Spelling}
use Rattle.dcc_text.specs.Spelled.{Way, text}
use Rattle.dcc_text.specs.Meaning.{is_type_for}
use Rattle.dcc_text.specs.Stmts.{stmt_text}

-- Names.

-- The variable of a location is declared by its name, with its type, which has room for the location.
pub record IsDeclared (names : List Declared) (s : Spelling) (location : Loc) : Type 0 where
  pub word : is_name (s.name location) ≡ true
  pub typed : is_type_for (location_width s.bits location) (s.type location) ≡ true
  pub is_placed : Bool
  pub declared : declared_as names (s.name location) ≡ Some (record {
    name = s.name location;
    type = s.type location;
    is_array = false;
    is_placed = is_placed;
  })

-- What an address goes by is declared as a number, or an array of numbers, with a place.
pub record IsDeclaredPlace (names : List Declared) (p : Placed) : Type 0 where
  pub word : is_name p.name ≡ true
  pub type : Base
  pub declared : declared_as names p.name ≡ Some (record {
    name = p.name;
    type = plain type;
    is_array = p.is_array;
    is_placed = true;
  })
  pub small : p.above < 65536

-- Each name of the spelling is declared: the variables of its locations, and what its addresses go by.
pub record AreDeclared (names : List Declared) (s : Spelling) : Type 0 where
  pub variables : (location : Loc) → s.named location ≡ true → IsDeclared names s location
  pub places : (distance : ℕ) (p : Placed) → s.place distance ≡ Some p → IsDeclaredPlace names p

-- Expressions.

-- The text of an expression is allowed: it can be written and is a number; where it stands for a word or less, it is a
-- word when it is promoted, so that a `switch` may take it.
pub record IsAllowedExpr (names : List Declared) (width : ℕ) (e : Expr) : Type 0 where
  pub writable : is_writable_expr e ≡ true
  pub base : Base
  pub typed : type_of names e ≡ Some (plain base)
  pub narrow : width ≤ 16 → is_word_base (promoted_type base) ≡ true

-- The text of a well-formed expression that reads variables alone is allowed, in each way.
abbrev pub ExpressionsAreAllowed : Type 0
ExpressionsAreAllowed = (names : List Declared) (s : Spelling) (e : inner.Expr) (way : Way) (votes : Bool)
    → AreDeclared names s → is_expr s.bits e ≡ true → All (λ location. s.named location ≡ true) (reads_of e)
    → IsAllowedExpr names (width_of s.bits e) (text s way votes e)

-- Statements.

-- The statement is allowed: it can be written whatever stands around it, has no statement inside it, no expression
-- with more than `levels` levels, and its types are allowed. It is no label and no jump.
pub record IsAllowedStmt (tree : Tree) (f : Function) (levels : ℕ) (stmt : Stmt) : Type 0 where
  pub writable : (around : Around) → is_writable_stmt around stmt ≡ true
  pub allowed : allows_stmt tree f stmt ≡ true
  pub shallow : shallow_stmt levels stmt ≡ true
  pub alone : inner_stmts stmt ≡ []
  pub no_label : label_of stmt ≡ []
  pub no_goto : goto_of stmt ≡ []

-- The text of a well-formed statement that is no call, reads and writes variables alone, and has expressions of at most
-- so many levels is allowed in a function that declares the names. Each level makes at most six of the text's, and
-- what stands around an address and a cast to a pointer add three.
abbrev pub StatementsAreAllowed : Type 0
StatementsAreAllowed = (tree : Tree) (f : Function) (s : Spelling) (stmt : inner.Stmt) (depth levels limit : ℕ)
    → AreDeclared (declared_in tree f) s → is_stmt s.bits stmt ≡ true → is_call stmt ≡ false → depth ≤ 4294967295
    → All (λ e. All (λ location. s.named location ≡ true) (reads_of e)) (exprs_of stmt)
    → All (λ location. s.named location ≡ true) (writes_of stmt) → All (λ e. depth_of e ≤ levels) (exprs_of stmt)
    → 6 * levels + 3 ≤ limit → IsAllowedStmt tree f limit (stmt_text s depth stmt)
