-- How code writes statements over words, from the last one on. No public contract rests on it.
use Rattle.std.specs.Prelude.{◌≡◌, List, [], ◌∷◌, ◌++◌}
use Rattle.dcc_ir.specs.declared.syntax.Loc.{Loc}
use Rattle.dcc_ir.specs.Tree.{Stmt}
use Rattle.dcc_ir.specs.Views.{stmt_of}
use Rattle.dcc_words.specs.declared.roles.Role.{Role}
use Rattle.dcc_words.specs.declared.rewriting.Joined.{Joined as JoinedOf}
use Rattle.dcc_words.specs.declared.rewriting.Joined.TheVariants.{One, Two}
use Rattle.dcc_words.specs.Words.{stmt_in_words, IsSetOfBoth}

module _ (role : Loc → Role) where
  -- one Set for two statements, or these two as they are
  abbrev pub IsJoined : Stmt → Stmt → JoinedOf → Type 0
  IsJoined first second (One new) = IsSetOfBoth role first second (stmt_of new)
  IsJoined first second (Two first' second') = (stmt_of first' ≡ first) × (stmt_of second' ≡ second)

  -- the last of the statements, after those of the second list, is written as the given one: by itself, or together with
  -- the statement before it, which is taken from the list
  pub data IsLastOf (rest : List Stmt) (stmt : Stmt) (left : List Stmt) (new : Stmt) : Type 0 where
    alone : left ≡ rest → new ≡ stmt_in_words role stmt → IsLastOf rest stmt left new
    joined : (first : Stmt) → rest ≡ left ++ first ∷ [] → IsSetOfBoth role first stmt new → IsLastOf rest stmt left new
