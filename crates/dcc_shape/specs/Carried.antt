-- What becomes of the address of an `auto` array in a function that uses nothing of the array but its address. What is
-- reckoned from the address may go to variables in no memory; single bits of it, as flags are, may go anywhere.
use Rattle.std.specs.Prelude.{◌≡◌, ◌==◌, Bool, true, false, ◌&&◌, ◌||◌, not, Option, Some, None}
use Rattle.std.specs.List.{list_any, list_all}
use Rattle.dcc_c.specs.declared.syntax.CBin.{CBin}
use Rattle.dcc_c.specs.declared.syntax.CBin.TheVariants.{OrOr, AndAnd, And, Eq, Ne, Lt, Le, Gt, Ge}
use Rattle.dcc_c.specs.declared.syntax.Class.{Class}
use Rattle.dcc_c.specs.declared.syntax.CUn.{CUn}
use Rattle.dcc_c.specs.declared.syntax.CUn.TheVariants.{Not, Deref}
use Rattle.dcc_c.specs.Placement.{is_auto}
use Rattle.dcc_c.specs.Token.{same_bytes}
use Rattle.dcc_c.specs.Tree.{Word, Expr, Number, Name, Unary, Binary, Conditional, Cast, Stmt, Assign, Call, If, While}
use Rattle.dcc_c.specs.Tree.{DoWhile, Switch, Return, Function}
use Rattle.dcc_shape.specs.Spots.{spots}

-- Expressions.

abbrev pub is_one : Expr → Bool
is_one (Number n base) = n == 1
is_one _ = false

abbrev pub is_not : CUn → Bool
is_not Not = true
is_not _ = false

abbrev pub is_deref : CUn → Bool
is_deref Deref = true
is_deref _ = false

-- The operator gives one bit whatever its left operand is: it compares, or joins truth values, or the right operand of
-- `&` is 1.
abbrev pub gives_bit : CBin → Expr → Bool
gives_bit OrOr right = true
gives_bit AndAnd right = true
gives_bit Eq right = true
gives_bit Ne right = true
gives_bit Lt right = true
gives_bit Le right = true
gives_bit Gt right = true
gives_bit Ge right = true
gives_bit And right = is_one right
gives_bit _ right = false

-- one of these names stands in the expression outside of what gives one bit, and of the tests of `?:`
abbrev pub carries : (Word → Bool) → Expr → Bool
carries names (Number n base) = false
carries names (Name word) = names word
carries names (Unary operator a) = not (is_not operator) && carries names a
carries names (Binary operator a b) = not (gives_bit operator b) && (carries names a || carries names b)
carries names (Conditional test a b) = carries names a || carries names b
carries names (Cast type a) = carries names a

-- a `*` stands in the expression before an address in which one of these names stands, outside of single bits
abbrev pub points : (Word → Bool) → Expr → Bool
points names (Number n base) = false
points names (Name word) = false
points names (Unary operator a) = (is_deref operator && carries names a) || points names a
points names (Binary operator a b) = points names a || points names b
points names (Conditional test a b) = points names test || (points names a || points names b)
points names (Cast type a) = points names a

-- Statements.

-- there is an expression, and it loads or stores so
abbrev pub points_if : (Word → Bool) → Option Expr → Bool
points_if names (Some e) = points names e
points_if names None = false

-- an expression of the statement loads or stores by one of these names, outside of single bits
abbrev pub accesses : (Word → Bool) → Stmt → Bool
accesses names (Assign place e) = points names place || points names e
accesses names (Call place function arguments depth) =
    points_if names place || list_any (points names) arguments
accesses names (If e body otherwise) = points names e
accesses names (While e body) = points names e
accesses names (DoWhile body e) = points names e
accesses names (Switch e arms last) = points names e
accesses names (Return e) = points_if names e
accesses names _ = false

-- The statement assigns, passes on, gives back or chooses by what one of these names carries. A test of an `if` or of a
-- loop is one bit.
abbrev pub sends : (Word → Bool) → Stmt → Bool
sends names (Assign place e) = carries names e
sends names (Call place function arguments depth) = list_any (carries names) arguments
sends names (Switch e arms last) = carries names e
sends names (Return e) = elim e [ Some value ↦ carries names value | None ↦ false ]
sends names _ = false

-- the variable to which the statement assigns
abbrev pub goal_of : Stmt → Option Word
goal_of (Assign (Name word) e) = Some word
goal_of _ = None

-- the statement assigns to a variable of one of these names
abbrev pub goes_to : (Word → Bool) → Stmt → Bool
goes_to words stmt = elim (goal_of stmt) [ Some word ↦ words word | None ↦ false ]

-- The statement keeps what these names carry among them: it loads and stores by none of it, and where it sends it
-- anywhere, then to one of these names, which is that of a variable in no memory.
abbrev pub keeps : (Word → Bool) → (Word → Bool) → Stmt → Bool
keeps unplaced names stmt =
    not (accesses names stmt) && (not (sends names stmt) || (goes_to unplaced stmt && goes_to names stmt))

-- Functions.

-- the class is `auto`, or it isn't
abbrev pub is_of_class : Bool → Class → Bool
is_of_class true class = is_auto class
is_of_class false class = not (is_auto class)

-- a local variable of the function has the name: one that is `auto`, or one that isn't
abbrev pub is_local : Bool → Function → Word → Bool
is_local auto f word = list_any (λ v. same_bytes word v.name && is_of_class auto v.class) f.locals

-- Of its `auto` local variables the function uses the addresses alone. There are names, those of the `auto` variables
-- among them, that carry all that is reckoned from these addresses: no statement of the function loads or stores by it,
-- keeps it in memory, passes it on or gives it back.
pub record UsesAddressesAlone (f : Function) : Type 0 where
  pub names : Word → Bool
  pub arrays : (word : Word) → is_local true f word ≡ true → names word ≡ true
  pub kept : list_all (λ s. keeps (is_local false f) names s.stmt) (spots f.body) ≡ true
