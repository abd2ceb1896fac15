-- What of a tree makes its written form stand for it.
use Rattle.std.specs.Prelude.{◌≡◌, ℕ, Bool, true, false, ◌&&◌, ◌||◌, not, nat_le, List, [], ◌∷◌, Option, Some, None, is_some}
use Rattle.std.specs.List.{list_all}
use Rattle.dcc_c.specs.declared.syntax.Class.{Class}
use Rattle.dcc_c.specs.declared.syntax.Class.TheVariants.{Plain, Auto, Register}
use Rattle.dcc_c.specs.declared.syntax.CUn.{CUn}
use Rattle.dcc_c.specs.declared.syntax.CUn.TheVariants.{Deref, AddressOf}
use Rattle.dcc_c.specs.Tree.{Expr, Number, Name, Unary, Binary, Conditional, Cast, Stmt, Assign, Call, If, While, DoWhile, Forever, Switch, Break, Continue, Goto, Label, Empty, Return, Lines, no_lines, line, Arms, no_arms, arm, Global, Variable, Function, Tree}
use Rattle.dcc_c.specs.Grammar.{is_name, Around, outermost, in_block, in_loop, in_switch, has_arm}
use Rattle.dcc_c.specs.Written.{suffix_for, suffix_gives}
use Rattle.dcc_c.specs.Rules.{IsAllowed}

-- a number that a text can hold
abbrev pub is_small : ℕ → Bool
is_small n = nat_le n 4294967295

-- `&` takes a name, and each other operator any expression
abbrev pub may_take : CUn → Expr → Bool
may_take AddressOf (Name word) = true
may_take AddressOf _ = false
may_take _ a = true

-- an expression in which each number has the type of its spelling
abbrev pub is_writable_expr : Expr → Bool
is_writable_expr (Number n base) = is_small n && suffix_gives n base (suffix_for n base)
is_writable_expr (Name word) = is_name word
is_writable_expr (Unary operator a) = may_take operator a && is_writable_expr a
is_writable_expr (Binary operator a b) = is_writable_expr a && is_writable_expr b
is_writable_expr (Conditional a b c) = is_writable_expr a && (is_writable_expr b && is_writable_expr c)
is_writable_expr (Cast type a) = is_writable_expr a

-- a name, or what a pointer points to
abbrev pub is_place : Expr → Bool
is_place (Name word) = true
is_place (Unary Deref a) = true
is_place _ = false

abbrev pub is_writable_place : Expr → Bool
is_writable_place place = is_place place && is_writable_expr place

-- the place of a call's result, where it has one
abbrev pub is_place_if : Option Expr → Bool
is_place_if None = true
is_place_if (Some place) = is_writable_place place

-- the value of a `return`, where it has one
abbrev pub is_value_if : Option Expr → Bool
is_value_if None = true
is_value_if (Some e) = is_writable_expr e

abbrev pub is_label : Stmt → Bool
is_label (Label word) = true
is_label _ = false

-- an arm has a case, and its cases are numbers of 16 bits
abbrev pub are_cases : List ℕ → Bool
are_cases [] = false
are_cases (n ∷ cases) = list_all (λ m. nat_le m 65535) (n ∷ cases)

abbrev pub has_no_case : List ℕ → Bool
has_no_case [] = true
has_no_case (n ∷ cases) = false

abbrev mutual
  -- a statement with this around it
  pub is_writable_stmt : Around → Stmt → Bool
  is_writable_stmt around (Assign place e) = is_writable_place place && is_writable_expr e
  is_writable_stmt around (Call place function arguments depth) =
      is_place_if place && (is_name function && (list_all is_writable_expr arguments && is_small depth))
  is_writable_stmt around (If e body otherwise) =
      is_writable_expr e
      && (are_writable_lines (in_block around) false body && are_writable_lines (in_block around) false otherwise)
  is_writable_stmt around (While e body) = is_writable_expr e && are_writable_lines (in_loop around) false body
  is_writable_stmt around (DoWhile body e) = is_writable_expr e && are_writable_lines (in_loop around) false body
  is_writable_stmt around (Forever body) = are_writable_lines (in_loop around) false body
  is_writable_stmt around (Switch e arms last) =
      is_writable_expr e
      && ((has_arm arms || has_arm last)
      && (are_writable_arms (in_switch around) arms && is_writable_default (in_switch around) last))
  is_writable_stmt around Break = around.breaks
  is_writable_stmt around Continue = around.continues
  is_writable_stmt around (Goto word) = is_name word
  is_writable_stmt around (Label word) = is_name word
  is_writable_stmt around Empty = true
  is_writable_stmt around (Return e) = is_value_if e

  -- statements with at most 200 blocks around them; after a label comes one
  pub are_writable_lines : Around → Bool → Lines → Bool
  are_writable_lines around labelled no_lines = not labelled
  are_writable_lines around labelled (line stmt at lines) =
      nat_le around.blocks 200
      && (is_writable_stmt around stmt && are_writable_lines around (is_label stmt) lines)

  -- arms with cases, whose `break` at most 200 blocks stand around
  pub are_writable_arms : Around → Arms → Bool
  are_writable_arms around no_arms = true
  are_writable_arms around (arm cases body arms) =
      nat_le around.blocks 200
      && (are_cases cases && (are_writable_lines around false body && are_writable_arms around arms))

  -- the default arm, or none
  pub is_writable_default : Around → Arms → Bool
  is_writable_default around no_arms = true
  is_writable_default around (arm cases body arms) =
      nat_le around.blocks 200
      && (has_no_case cases && (are_writable_lines around false body && not (has_arm arms)))

abbrev pub is_small_if : Option ℕ → Bool
is_small_if None = true
is_small_if (Some n) = is_small n

abbrev pub is_writable_global : Global → Bool
is_writable_global g = is_name g.name && (is_small g.at && (is_small_if g.len && list_all is_small g.init))

abbrev pub is_writable_param : Variable → Bool
is_writable_param v = is_name v.name && not (is_some v.len)

-- an array is `auto`, and no local variable is `register`
abbrev pub is_local_class : Class → Option ℕ → Bool
is_local_class Plain None = true
is_local_class Plain (Some len) = false
is_local_class Auto len = true
is_local_class Register len = false

abbrev pub is_writable_local : Variable → Bool
is_writable_local v = is_name v.name && (is_small_if v.len && is_local_class v.class v.len)

abbrev pub is_writable_function : Function → Bool
is_writable_function f =
    is_name f.name
    && (list_all is_writable_param f.params
    && (list_all is_writable_local f.locals && are_writable_lines outermost false f.body))

-- The tree has a written form that stands for it: names are names, numbers have spellings, statements stand where they
-- may, and the tree keeps to the rules on names, types, places and depth.
pub record IsWritable (tree : Tree) : Type 0 where
  pub version : tree.version ≡ 1
  pub globals : list_all is_writable_global tree.globals ≡ true
  pub functions : list_all is_writable_function tree.functions ≡ true
  pub allowed : IsAllowed tree
