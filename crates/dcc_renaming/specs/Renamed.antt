-- The tree of a text with new names.
use Rattle.std.specs.Prelude.{if◌then◌else◌, List, [], ◌∷◌, map, Option, Some, None}
use Rattle.std.specs.Option.{option_map}
use Rattle.dcc_c.specs.Token.{same_bytes}
use Rattle.dcc_c.specs.Tree.{Word, Expr, Number, Name, Unary, Binary, Conditional, Cast, Stmt, Assign, Call, If, While}
use Rattle.dcc_c.specs.Tree.{DoWhile, Forever, Switch, Break, Continue, Goto, Label, Empty, Return, Lines, no_lines}
use Rattle.dcc_c.specs.Tree.{line, Arms, no_arms, arm, Global, Variable, Function, Tree}
use Rattle.dcc_renaming.specs.Changes.{Change, in_file, thing_of}

-- the new name of what a names file names so, by the first change of it
abbrev pub changed : List Change → Word → Option Word
changed [] thing = None
changed (c ∷ changes) thing = if same_bytes (thing_of c) thing then Some c.now else changed changes thing

abbrev pub now_or : Option Word → Word → Word
now_or (Some now) word = now
now_or None word = word

-- The names after changes that give each thing, as a names file names it, a new name or none: of a global variable or a
-- function, and of a variable that the function, as it was named before, declares or uses.

abbrev pub outer_now : (Word → Option Word) → Word → Word
outer_now new word = now_or (new word) word

abbrev pub own_now : (Word → Option Word) → Word → Word → Word
own_now new function word = now_or (new (in_file (Some function) word)) (outer_now new word)

-- New names for those of variables and of functions that a part of a tree has. Labels keep their names.

abbrev pub renamed_expr : (Word → Word) → Expr → Expr
renamed_expr own (Number n base) = Number n base
renamed_expr own (Name word) = Name (own word)
renamed_expr own (Unary operator a) = Unary operator (renamed_expr own a)
renamed_expr own (Binary operator a b) = Binary operator (renamed_expr own a) (renamed_expr own b)
renamed_expr own (Conditional a b c) = Conditional (renamed_expr own a) (renamed_expr own b) (renamed_expr own c)
renamed_expr own (Cast type a) = Cast type (renamed_expr own a)

abbrev mutual
  pub renamed_stmt : (Word → Word) → (Word → Word) → Stmt → Stmt
  renamed_stmt own outer (Assign place e) = Assign (renamed_expr own place) (renamed_expr own e)
  renamed_stmt own outer (Call place function arguments depth) =
      Call (option_map (renamed_expr own) place) (outer function) (map (renamed_expr own) arguments) depth
  renamed_stmt own outer (If e body otherwise) =
      If (renamed_expr own e) (renamed_lines own outer body) (renamed_lines own outer otherwise)
  renamed_stmt own outer (While e body) = While (renamed_expr own e) (renamed_lines own outer body)
  renamed_stmt own outer (DoWhile body e) = DoWhile (renamed_lines own outer body) (renamed_expr own e)
  renamed_stmt own outer (Forever body) = Forever (renamed_lines own outer body)
  renamed_stmt own outer (Switch e arms last) =
      Switch (renamed_expr own e) (renamed_arms own outer arms) (renamed_arms own outer last)
  renamed_stmt own outer Break = Break
  renamed_stmt own outer Continue = Continue
  renamed_stmt own outer (Goto word) = Goto word
  renamed_stmt own outer (Label word) = Label word
  renamed_stmt own outer Empty = Empty
  renamed_stmt own outer (Return e) = Return (option_map (renamed_expr own) e)

  pub renamed_lines : (Word → Word) → (Word → Word) → Lines → Lines
  renamed_lines own outer no_lines = no_lines
  renamed_lines own outer (line stmt at lines) = line (renamed_stmt own outer stmt) at (renamed_lines own outer lines)

  pub renamed_arms : (Word → Word) → (Word → Word) → Arms → Arms
  renamed_arms own outer no_arms = no_arms
  renamed_arms own outer (arm cases body arms) =
      arm cases (renamed_lines own outer body) (renamed_arms own outer arms)

abbrev pub renamed_variable : (Word → Word) → Variable → Variable
renamed_variable own v = record v { name = own v.name }

abbrev pub renamed_global : (Word → Word) → Global → Global
renamed_global outer g = record g { name = outer g.name }

-- a function with new names for variables, by the first, and for functions, by the second
abbrev pub with_names : (Word → Word) → (Word → Word) → Function → Function
with_names own outer f = record f {
  name = outer f.name;
  params = map (renamed_variable own) f.params;
  locals = map (renamed_variable own) f.locals;
  body = renamed_lines own outer f.body;
}

abbrev pub renamed_function : (Word → Option Word) → Function → Function
renamed_function new f = with_names (own_now new f.name) (outer_now new) f

abbrev pub renamed_by : (Word → Option Word) → Tree → Tree
renamed_by new tree = record tree {
  globals = map (renamed_global (outer_now new)) tree.globals;
  functions = map (renamed_function new) tree.functions;
}

-- The tree after all the changes at once, at each declaration and use. The lines stay.
abbrev pub renamed : List Change → Tree → Tree
renamed changes tree = renamed_by (changed changes) tree
