-- Statements in which no name and no expression has a line feed.
use Rattle.std.specs.Prelude.{Bool, ◌&&◌, ◌==◌, List, [], ◌∷◌}
use Rattle.std.specs.List.{list_all}
use Rattle.dcc_c.specs.Tree.{Word, Stmt, Call, Goto, Label, Tree}
use Rattle.dcc_c.specs.Parts.{stmts_in, exprs_of}
use Rattle.dcc_c.specs.Written.{written_expr}
use Rattle.dcc_c.specs.Numbered.{rows}

abbrev pub is_unbroken : Word → Bool
is_unbroken bytes = rows bytes == 0

-- the names of a statement, without those in its expressions
abbrev pub words_of : Stmt → List Word
words_of (Call place function arguments depth) = function ∷ []
words_of (Goto word) = word ∷ []
words_of (Label word) = word ∷ []
words_of _ = []

-- a statement, without those inside it
abbrev pub is_unbroken_stmt : Stmt → Bool
is_unbroken_stmt stmt =
    list_all (λ e. is_unbroken (written_expr e)) (exprs_of stmt) && list_all is_unbroken (words_of stmt)

abbrev pub are_unbroken : List Stmt → Bool
are_unbroken stmts = list_all is_unbroken_stmt stmts

-- all statements of a tree
abbrev pub is_unbroken_tree : Tree → Bool
is_unbroken_tree tree = list_all (λ f. are_unbroken (stmts_in f.body)) tree.functions
