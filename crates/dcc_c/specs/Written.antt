-- The written form: the one spelling in which a tree is written.
use Rattle.std.specs.Prelude.{ℕ, ◌+◌, ◌*◌, min, Bool, true, false, ◌==◌, if◌then◌else◌, List, [], ◌∷◌, ◌++◌, replicate}
use Rattle.std.specs.Prelude.{codes, Option, Some, None}
use Rattle.std.specs.List.{flat_map}
use Rattle.std.specs.Fmt.{decimal}
use Rattle.dcc_c.specs.declared.syntax.Base.{Base}
use Rattle.dcc_c.specs.declared.syntax.Base.TheVariants.{Schar, Uchar, Int, Uint, Long, Ulong}
use Rattle.dcc_c.specs.declared.syntax.CType.{CType}
use Rattle.dcc_c.specs.declared.syntax.CUn.{CUn}
use Rattle.dcc_c.specs.declared.syntax.CUn.TheVariants.{Minus}
use Rattle.dcc_c.specs.declared.syntax.Class.{Class}
use Rattle.dcc_c.specs.declared.syntax.Class.TheVariants.{Plain, Auto, Register}
use Rattle.dcc_c.specs.Token.{Suffix, plain_number, unsigned_suffix, long_suffix, unsigned_long_suffix, suffix_bytes}
use Rattle.dcc_c.specs.Token.{decimal_type}
use Rattle.dcc_c.specs.Types.{same_base}
use Rattle.dcc_c.specs.Grammar.{unary_mark, binary_mark}
use Rattle.dcc_c.specs.Placement.{after_global}
use Rattle.dcc_c.specs.Parts.{stmts_in, inner_stmts}
use Rattle.dcc_c.specs.Tree.{Word, Expr, Number, Name, Unary, Binary, Conditional, Cast, Stmt, Assign, Call, If, While}
use Rattle.dcc_c.specs.Tree.{DoWhile, Forever, Switch, Break, Continue, Goto, Label, Empty, Return, Lines, no_lines}
use Rattle.dcc_c.specs.Tree.{line, Arms, no_arms, arm, Global, Variable, Function, Tree}

-- the number has the type with this suffix
abbrev pub suffix_gives : ℕ → Base → Suffix → Bool
suffix_gives n base suffix = same_base (decimal_type n suffix) base

-- the suffix that a number of the type is written with: none where that gives the type, else the first of U, L and UL
-- that does
abbrev pub suffix_for : ℕ → Base → Suffix
suffix_for n base =
    if suffix_gives n base plain_number then plain_number
    else if suffix_gives n base unsigned_suffix then unsigned_suffix
    else if suffix_gives n base long_suffix then long_suffix
    else unsigned_long_suffix

abbrev pub written_number : ℕ → Base → Word
written_number n base = decimal n ++ suffix_bytes (suffix_for n base)

abbrev pub written_base : Base → Word
written_base Schar = codes "signed char"
written_base Uchar = codes "unsigned char"
written_base Int = codes "int"
written_base Uint = codes "unsigned int"
written_base Long = codes "long"
written_base Ulong = codes "unsigned long"

-- a type and the name that has it; a star stands beside the name
abbrev pub written_variable : CType → Word → Word
written_variable type word = written_base type.base ++ (codes " " ++ ((if type.pointer then codes "*" else []) ++ word))

-- a type in a cast
abbrev pub written_cast : CType → Word
written_cast type = written_base type.base ++ (if type.pointer then codes " *" else [])

-- binary and conditional expressions stand in parentheses where they are operands
abbrev pub is_compound : Expr → Bool
is_compound (Binary operator a b) = true
is_compound (Conditional a b c) = true
is_compound _ = false

abbrev pub in_parentheses : Bool → Word → Word
in_parentheses true bytes = codes "(" ++ (bytes ++ codes ")")
in_parentheses false bytes = bytes

abbrev pub begins_with_minus : Word → Bool
begins_with_minus [] = false
begins_with_minus (b ∷ bytes) = b == 45

-- the operand of a unary `-` stands in parentheses too where it begins with `-`
abbrev pub after_unary : CUn → Word → Word
after_unary Minus bytes = in_parentheses (begins_with_minus bytes) bytes
after_unary _ bytes = bytes

abbrev pub written_expr : Expr → Word
written_expr (Number n base) = written_number n base
written_expr (Name word) = word
written_expr (Unary operator a) =
    unary_mark operator ++ after_unary operator (in_parentheses (is_compound a) (written_expr a))
written_expr (Binary operator a b) =
    in_parentheses (is_compound a) (written_expr a)
    ++ (codes " " ++ (binary_mark operator ++ (codes " " ++ in_parentheses (is_compound b) (written_expr b))))
written_expr (Conditional a b c) =
    in_parentheses (is_compound a) (written_expr a)
    ++ (codes " ? " ++ (in_parentheses (is_compound b) (written_expr b)
    ++ (codes " : " ++ in_parentheses (is_compound c) (written_expr c))))
written_expr (Cast type a) =
    codes "(" ++ (written_cast type ++ (codes ")" ++ in_parentheses (is_compound a) (written_expr a)))

-- the arguments of a call, with a comma and a space between them
abbrev pub written_arguments : List Expr → Word
written_arguments [] = []
written_arguments (e ∷ []) = written_expr e
written_arguments (e ∷ f ∷ es) = written_expr e ++ (codes ", " ++ written_arguments (f ∷ es))

-- four spaces for each pair of braces up to 16
abbrev pub indentation : ℕ → Word
indentation braces = replicate (4 * min braces 16) 32

-- a line inside so many pairs of braces
abbrev pub indented : ℕ → Word → Word
indented braces bytes = indentation braces ++ bytes

-- The depth of calls.

-- the depth in force after the statements
abbrev pub depth_after : ℕ → List Stmt → ℕ
depth_after depth [] = depth
depth_after depth (Call place function arguments own ∷ stmts) = depth_after own stmts
depth_after depth (stmt ∷ stmts) = depth_after depth stmts

-- the depth of the call that comes next, if one does: the statements begin with it, or with its labels
abbrev pub next_depth : ℕ → Lines → ℕ
next_depth depth (line (Label word) at lines) = next_depth depth lines
next_depth depth (line (Call place function arguments own) at lines) = own
next_depth depth _ = depth

-- the pragma that changes the depth in force
abbrev pub written_depth : ℕ → ℕ → Word
written_depth depth next = if depth == next then [] else codes "#pragma dcc depth " ++ (decimal next ++ codes "\n")

-- Statements.

abbrev pub written_call : Word → List Expr → Word
written_call function arguments = function ++ (codes "(" ++ (written_arguments arguments ++ codes ");\n"))

abbrev pub written_return : Option Expr → Word
written_return None = codes "return;\n"
written_return (Some e) = codes "return " ++ (written_expr e ++ codes ";\n")

-- the head of a statement with a block
abbrev pub written_test : Word → Expr → Word
written_test name e = name ++ (codes " (" ++ (written_expr e ++ codes ") {\n"))

-- the else part with these bytes as its block, where it is not empty
abbrev pub written_else : ℕ → Lines → Word → Word
written_else braces no_lines block = []
written_else braces (line stmt at lines) block = indented braces (codes "} else {\n") ++ block

-- the cases of an arm, each in a line, or the word for the default arm
abbrev pub written_cases : ℕ → List ℕ → Word
written_cases braces [] = []
written_cases braces (n ∷ cases) =
    indented braces (codes "case " ++ (decimal n ++ codes ":\n")) ++ written_cases braces cases

abbrev mutual
  -- a statement inside so many pairs of braces, where calls have this depth
  pub written_stmt : ℕ → ℕ → Stmt → Word
  written_stmt braces depth (Assign place e) =
      indented braces (written_expr place ++ (codes " = " ++ (written_expr e ++ codes ";\n")))
  written_stmt braces depth (Call None function arguments own) = indented braces (written_call function arguments)
  written_stmt braces depth (Call (Some place) function arguments own) =
      indented braces (written_expr place ++ (codes " = " ++ written_call function arguments))
  written_stmt braces depth (If e body otherwise) =
      indented braces (written_test (codes "if") e)
      ++ (written_lines (1 + braces) depth body
      ++ (written_else braces otherwise (written_lines (1 + braces) (depth_after depth (stmts_in body)) otherwise)
      ++ indented braces (codes "}\n")))
  written_stmt braces depth (While e body) =
      indented braces (written_test (codes "while") e)
      ++ (written_lines (1 + braces) depth body ++ indented braces (codes "}\n"))
  written_stmt braces depth (DoWhile body e) =
      indented braces (codes "do {\n")
      ++ (written_lines (1 + braces) depth body
      ++ indented braces (codes "} while (" ++ (written_expr e ++ codes ");\n")))
  written_stmt braces depth (Forever body) =
      indented braces (codes "for (;;) {\n") ++ (written_lines (1 + braces) depth body ++ indented braces (codes "}\n"))
  written_stmt braces depth (Switch e arms last) =
      indented braces (written_test (codes "switch") e)
      ++ (written_arms (1 + braces) depth arms
      ++ (written_default (1 + braces) (depth_after depth (inner_stmts (Switch e arms no_arms))) last
      ++ indented braces (codes "}\n")))
  written_stmt braces depth Break = indented braces (codes "break;\n")
  written_stmt braces depth Continue = indented braces (codes "continue;\n")
  written_stmt braces depth (Goto word) = indented braces (codes "goto " ++ (word ++ codes ";\n"))
  written_stmt braces depth (Label word) = indented 0 (word ++ codes ":\n")
  written_stmt braces depth Empty = indented braces (codes ";\n")
  written_stmt braces depth (Return e) = indented braces (written_return e)

  -- The written form of statements, with a depth of calls in force before them. A pragma stands before a call with
  -- another depth, and before the first of its labels.
  pub written_lines : ℕ → ℕ → Lines → Word
  written_lines braces depth no_lines = []
  written_lines braces depth (line stmt at lines) =
      let own = next_depth depth (line stmt at lines) in
      written_depth depth own
      ++ (written_stmt braces own stmt ++ written_lines braces (depth_after own (stmt ∷ inner_stmts stmt)) lines)

  -- the arms of a `switch`, each with the `break` that ends it
  pub written_arms : ℕ → ℕ → Arms → Word
  written_arms braces depth no_arms = []
  written_arms braces depth (arm cases body arms) =
      written_cases braces cases
      ++ (written_lines braces depth body
      ++ (indented braces (codes "break;\n") ++ written_arms braces (depth_after depth (stmts_in body)) arms))

  -- the written form of the default arm, which comes last
  pub written_default : ℕ → ℕ → Arms → Word
  written_default braces depth no_arms = []
  written_default braces depth (arm cases body arms) =
      indented braces (codes "default:\n")
      ++ (written_lines braces depth body ++ indented braces (codes "break;\n"))

-- Declarations.

abbrev pub written_size : Option ℕ → Word
written_size None = []
written_size (Some len) = codes "[" ++ (decimal len ++ codes "]")

-- the word of a class
abbrev pub written_class : Class → Word
written_class Plain = []
written_class Auto = codes "auto "
written_class Register = codes "register "

abbrev pub written_local : Variable → Word
written_local v =
    indented 1 (written_class v.class ++ (written_variable v.type v.name ++ (written_size v.len ++ codes ";\n")))

abbrev pub written_param : Variable → Word
written_param v = written_class v.class ++ written_variable v.type v.name

abbrev pub written_params : List Variable → Word
written_params [] = []
written_params (v ∷ []) = written_param v
written_params (v ∷ w ∷ params) = written_param v ++ (codes ", " ++ written_params (w ∷ params))

-- the parameters in a function's head
abbrev pub written_head_params : List Variable → Word
written_head_params [] = codes "void"
written_head_params (v ∷ params) = written_params (v ∷ params)

-- the result and the name in a function's head
abbrev pub written_head : Option CType → Word → Word
written_head None name = codes "void " ++ name
written_head (Some type) name = written_variable type name

abbrev pub written_function : Function → Word
written_function f =
    written_head f.result f.name
    ++ (codes "(" ++ (written_head_params f.params
    ++ (codes ")\n{\n" ++ (flat_map written_local f.locals ++ (written_lines 1 2 f.body ++ codes "}\n")))))

abbrev pub written_functions : List Function → Word
written_functions [] = []
written_functions (f ∷ functions) = written_function f ++ written_functions functions

abbrev pub written_numbers : List ℕ → Word
written_numbers [] = []
written_numbers (n ∷ []) = decimal n
written_numbers (n ∷ m ∷ ns) = decimal n ++ (codes ", " ++ written_numbers (m ∷ ns))

-- initial values; those of an array stand in braces
abbrev pub written_initial : Option ℕ → List ℕ → Word
written_initial len [] = []
written_initial None (n ∷ ns) = codes " = " ++ written_numbers (n ∷ ns)
written_initial (Some len) (n ∷ ns) = codes " = {" ++ (written_numbers (n ∷ ns) ++ codes "}")

abbrev pub written_global : Global → Word
written_global g =
    indented 0 (written_variable g.type g.name ++ (written_size g.len ++ (written_initial g.len g.init ++ codes ";\n")))

-- the line with the address of a global variable, where the one before does not end there
abbrev pub written_place : Option ℕ → ℕ → Word
written_place None at = codes "#pragma dcc at " ++ (decimal at ++ codes "\n")
written_place (Some following) at =
    if following == at then [] else codes "#pragma dcc at " ++ (decimal at ++ codes "\n")

-- the written form of global variables, where the one before them ends at the address
abbrev pub written_globals : Option ℕ → List Global → Word
written_globals following [] = []
written_globals following (g ∷ globals) =
    written_place following g.at ++ (written_global g ++ written_globals (Some (after_global g)) globals)

-- the written form of a text
abbrev pub written_form : Tree → Word
written_form tree =
    codes "#pragma dcc text 1\n#pragma dcc stack "
    ++ (decimal tree.lo ++ (codes " " ++ (decimal tree.hi ++ (codes "\n"
    ++ (written_globals None tree.globals ++ written_functions tree.functions)))))
