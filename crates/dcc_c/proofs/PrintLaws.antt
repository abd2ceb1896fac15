-- The written form of a writable tree stands for the tree with its lines counted.
use Rattle.std.proofs.Common.{ℕ, List, sym, subst}
use Rattle.dcc_c.specs.Tree.{Tree}
use Rattle.dcc_c.specs.Text.{StandsFor}
use Rattle.dcc_c.specs.Written.{written_form}
use Rattle.dcc_c.specs.Numbered.{numbered}
use Rattle.dcc_c.proofs.Writable.{IsWritable}
use Rattle.dcc_c.proofs.WrittenTokens.{tree_tokens}
use Rattle.dcc_c.proofs.WrittenLexes.{written_lexes}
use Rattle.dcc_c.proofs.FormedTree.{tokens_formed}
use Rattle.dcc_c.proofs.ShallowTree.{tokens_shallow}
use Rattle.dcc_c.proofs.NumberedLaws.{numbered_allowed}
use Rattle.dcc_c.proofs.NumberedForm.{written_numbered}
use Rattle.dcc_c.proofs.WritableTree.{stands_writable}

-- the written form of a writable tree stands for the tree with its lines counted
pub writable_stands : (tree : Tree) → IsWritable tree → StandsFor (written_form tree) (numbered tree)
writable_stands tree writable = record {
  tokens = tree_tokens tree;
  lexed = written_lexes tree writable;
  formed = tokens_formed tree writable;
  shallow = tokens_shallow tree writable;
  allowed = numbered_allowed tree writable.allowed;
}

-- what a text stands for, written anew, stands for the same tree with its lines counted
pub print_stands : (text : List ℕ) (tree : Tree) → StandsFor text tree → StandsFor (written_form tree) (numbered tree)
print_stands text tree stands = writable_stands tree (stands_writable text tree stands)

-- a writable tree stays one when its lines are counted
pub numbered_writable : (tree : Tree) → IsWritable tree → IsWritable (numbered tree)
numbered_writable tree writable = stands_writable (written_form tree) (numbered tree) (writable_stands tree writable)

-- a tree with its lines counted is what its written form stands for
pub numbered_stands : (tree : Tree) → IsWritable tree → StandsFor (written_form (numbered tree)) (numbered tree)
numbered_stands tree writable =
    subst (λ text. StandsFor text (numbered tree)) (sym (written_numbered tree)) (writable_stands tree writable)
