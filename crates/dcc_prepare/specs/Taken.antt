-- The names whose addresses a body takes, part by part, in the order of the text.
use Rattle.std.specs.Prelude.{ℕ, List, [], ◌∷◌, ◌++◌, map, Option, Some, None}
use Rattle.std.specs.List.{flat_map}
use denote.Ref.{Bor}
use Rattle.dcc_c.specs.declared.syntax.CUn.TheVariants.{AddressOf}
use Rattle.dcc_c.specs.Tree.{Word, Expr, Number, Name, Unary, Binary, Conditional, Cast, Stmt, Assign, Call, If, While}
use Rattle.dcc_c.specs.Tree.{DoWhile, Forever, Switch, Return, Lines, no_lines, line, Arms, no_arms, arm}

-- the words of references to names
abbrev pub lent_words : List (Bor (List ℕ)) → List Word
lent_words names = map (λ w. w.now) names

-- the name whose address an operator takes
abbrev pub address_word : Expr → List Word
address_word (Unary AddressOf (Name word)) = word ∷ []
address_word _ = []

abbrev pub expr_taken : Expr → List Word
expr_taken (Number n base) = []
expr_taken (Name word) = []
expr_taken (Unary operator a) = address_word (Unary operator a) ++ expr_taken a
expr_taken (Binary operator a b) = expr_taken a ++ expr_taken b
expr_taken (Conditional a b c) = expr_taken a ++ (expr_taken b ++ expr_taken c)
expr_taken (Cast type a) = expr_taken a

abbrev pub exprs_taken : List Expr → List Word
exprs_taken es = flat_map expr_taken es

abbrev pub option_taken : Option Expr → List Word
option_taken None = []
option_taken (Some e) = expr_taken e

abbrev mutual
  pub lines_taken : Lines → List Word
  lines_taken no_lines = []
  lines_taken (line stmt at lines) = stmt_taken stmt ++ lines_taken lines

  pub stmt_taken : Stmt → List Word
  stmt_taken (Assign place e) = expr_taken place ++ expr_taken e
  stmt_taken (Call place function arguments depth) = option_taken place ++ exprs_taken arguments
  stmt_taken (If e body otherwise) = expr_taken e ++ (lines_taken body ++ lines_taken otherwise)
  stmt_taken (While e body) = expr_taken e ++ lines_taken body
  stmt_taken (DoWhile body e) = expr_taken e ++ lines_taken body
  stmt_taken (Forever body) = lines_taken body
  stmt_taken (Switch e arms last) = expr_taken e ++ (arms_taken arms ++ arms_taken last)
  stmt_taken (Return e) = option_taken e
  stmt_taken _ = []

  pub arms_taken : Arms → List Word
  arms_taken no_arms = []
  arms_taken (arm cases body arms) = lines_taken body ++ arms_taken arms
