-- What is said of texts whose variables have other types.
use Rattle.std.specs.Prelude.{◌≡◌}
use Rattle.dcc_c.specs.declared.syntax.Base.{Base}
use Rattle.dcc_c.specs.Types.{bits_of}
use Rattle.dcc_c.specs.Tree.{Variable, Function, Tree}
use Rattle.dcc_c.specs.Numbered.{numbered}
use Rattle.dcc_c.proofs.Writable.{IsWritable}
use Rattle.dcc_respell.specs.Respelled.{IsRespelled}
use Rattle.dcc_redeclare.specs.Redeclared.{redeclared}

-- The types have the size of the variables' own ones.
abbrev pub KeepsSize : (Tree → Function → Variable → Base) → Type 0
KeepsSize type_for =
    (tree : Tree) (f : Function) (v : Variable) → bits_of (type_for tree f v) ≡ bits_of v.type.base

-- With these types a text that can be written can be written, and with its lines counted it is the text, whose lines are
-- counted, otherwise written: it runs as that one does.
pub record IsTextRedeclared (type_for : Tree → Function → Variable → Base) (tree : Tree) : Type 0 where
  pub writable : IsWritable (redeclared type_for tree)
  pub respelled : IsRespelled (numbered tree) (numbered (redeclared type_for tree))

abbrev pub TypesMayChange : Type 0
TypesMayChange = (type_for : Tree → Function → Variable → Base) → KeepsSize type_for
    → (tree : Tree) → IsWritable tree → IsTextRedeclared type_for tree
