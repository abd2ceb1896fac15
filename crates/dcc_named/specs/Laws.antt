-- What is said of texts whose accesses are written by names.
use Rattle.dcc_c.specs.Tree.{Tree}
use Rattle.dcc_c.specs.Numbered.{numbered}
use Rattle.dcc_c.proofs.Writable.{IsWritable}
use Rattle.dcc_respell.specs.Respelled.{IsRespelled}
use Rattle.dcc_named.specs.Named.{with_names}

-- With its accesses by names a text that can be written can be written, and with its lines counted it is the text,
-- whose lines are counted, otherwise written: it runs as that one does.
pub record IsTextNamed (tree : Tree) : Type 0 where
  pub writable : IsWritable (with_names tree)
  pub respelled : IsRespelled (numbered tree) (numbered (with_names tree))

abbrev pub AccessesMayBeNamed : Type 0
AccessesMayBeNamed = (tree : Tree) → IsWritable tree → IsTextNamed tree
