-- Partial trees that have been read to their ends: nothing in them is missing.
use Rattle.std.specs.Prelude.{ℕ, suc, nat_le, Bool, true, false, ◌&&◌, ◌==◌, not, if◌then◌else◌, length, Option, Some}
use Rattle.std.specs.Prelude.{None, is_some}
use Rattle.std.specs.List.{list_all}
use Rattle.dcc_c.specs.declared.syntax.CUn.TheVariants.{Deref}
use Rattle.dcc_c.specs.Partial.{PartialExpr, Missing, NumberHere, NameHere, UnaryHere, BinaryOf, ConditionalOf}
use Rattle.dcc_c.specs.Partial.{CastHere, PartialStmt, AssignOf, CallOf, IfOf, WhileOf, DoWhileOf, ForeverOf, SwitchOf}
use Rattle.dcc_c.specs.Partial.{GotoOf, ReturnOf, PartialLines, no_rows, row, PartialArms, no_cases, cases}
use Rattle.dcc_c.specs.Partial.{PartialVariable, PartialFunction, PartialText}

-- an expression, in which no name stands before a parenthesis
abbrev pub is_complete_expr : PartialExpr → Bool
is_complete_expr Missing = false
is_complete_expr (NumberHere at n base) = true
is_complete_expr (NameHere at word called) = not called
is_complete_expr (UnaryHere at operator a) = is_complete_expr a
is_complete_expr (BinaryOf operator a b) = is_complete_expr a && is_complete_expr b
is_complete_expr (ConditionalOf a b c) = is_complete_expr a && (is_complete_expr b && is_complete_expr c)
is_complete_expr (CastHere at type a) = is_complete_expr a

-- a place: a name, or a star and its operand
abbrev pub is_complete_place : PartialExpr → Bool
is_complete_place (NameHere at word called) = not called
is_complete_place (UnaryHere at Deref a) = is_complete_expr a
is_complete_place e = false

-- a place and an expression, where there is one
abbrev pub is_complete_place_if : Option PartialExpr → Bool
is_complete_place_if None = true
is_complete_place_if (Some place) = is_complete_place place

abbrev pub is_complete_if : Option PartialExpr → Bool
is_complete_if None = true
is_complete_if (Some e) = is_complete_expr e

abbrev pub is_complete_value : Option PartialExpr → Bool
is_complete_value None = false
is_complete_value (Some e) = is_complete_expr e

abbrev mutual
  -- a statement
  pub is_complete_stmt : PartialStmt → Bool
  is_complete_stmt (AssignOf place e done) = is_complete_place place && (is_complete_value e && done)
  is_complete_stmt (CallOf place call) =
      is_complete_place_if place && (list_all is_complete_expr call.arguments && call.closed)
  is_complete_stmt (IfOf e done body otherwise) =
      (is_complete_expr e && done) && (is_complete_lines body && is_complete_lines otherwise)
  is_complete_stmt (WhileOf e done body) = (is_complete_expr e && done) && is_complete_lines body
  is_complete_stmt (DoWhileOf body e done) = (is_complete_expr e && done) && is_complete_lines body
  is_complete_stmt (ForeverOf body) = is_complete_lines body
  is_complete_stmt (SwitchOf e done arms) = (is_complete_expr e && done) && are_complete_arms arms
  is_complete_stmt (GotoOf name) = is_some name
  is_complete_stmt (ReturnOf e done) = is_complete_if e && done
  is_complete_stmt stmt = true

  -- statements
  pub is_complete_lines : PartialLines → Bool
  is_complete_lines no_rows = true
  is_complete_lines (row stmt at line rows) = is_complete_stmt stmt && is_complete_lines rows

  -- arms: those with `default` have no cases
  pub are_complete_arms : PartialArms → Bool
  are_complete_arms no_cases = true
  are_complete_arms (cases numbers default body arms) =
      (if is_some default then length numbers == 0 else true) && (is_complete_lines body && are_complete_arms arms)

abbrev mutual
  -- statements, which have so many blocks around them, with at most 200 around each
  pub are_within : ℕ → PartialLines → Bool
  are_within blocks no_rows = true
  are_within blocks (row stmt at line rows) =
      nat_le blocks 200 && (is_within (suc blocks) stmt && are_within blocks rows)

  -- the statements inside a statement
  pub is_within : ℕ → PartialStmt → Bool
  is_within blocks (IfOf e done body otherwise) = are_within blocks body && are_within blocks otherwise
  is_within blocks (WhileOf e done body) = are_within blocks body
  is_within blocks (DoWhileOf body e done) = are_within blocks body
  is_within blocks (ForeverOf body) = are_within blocks body
  is_within blocks (SwitchOf e done arms) = are_arms_within blocks arms
  is_within blocks stmt = true

  pub are_arms_within : ℕ → PartialArms → Bool
  are_arms_within blocks no_cases = true
  are_arms_within blocks (cases numbers default body arms) = are_within blocks body && are_arms_within blocks arms

-- a variable
abbrev pub is_complete_variable : PartialVariable → Bool
is_complete_variable v = is_some v.name && (is_some v.type && v.done)

-- the two are alike
abbrev pub agree : Bool → Bool → Bool
agree a b = if a then b else not b

-- a function: `void` stands for no parameters
abbrev pub is_complete_function : PartialFunction → Bool
is_complete_function f =
    (is_some f.name && (is_some f.opened && f.headed))
    && ((agree f.has_result (is_some f.result) && agree f.without_params (length f.params == 0))
    && (list_all is_complete_variable f.params
    && (list_all is_complete_variable f.locals && (is_complete_lines f.body && are_within 0 f.body))))

-- a text, which has a function
abbrev pub is_complete_text : PartialText → Bool
is_complete_text text =
    (is_some text.lo && is_some text.hi)
    && (list_all is_complete_variable text.globals
    && (list_all is_complete_function text.functions && not (length text.functions == 0)))
