-- What is said of texts without needless casts.
use Rattle.dcc_c.specs.Tree.{Tree}
use Rattle.dcc_c.specs.Numbered.{numbered}
use Rattle.dcc_c.proofs.Writable.{IsWritable}
use Rattle.dcc_respell.specs.Respelled.{IsRespelled}
use Rattle.dcc_casts.specs.Casts.{without_casts}

-- Without needless casts a text that can be written can be written, and with its lines counted it is the text, whose
-- lines are counted, otherwise written: it runs as that one does.
pub record IsTextWithout (tree : Tree) : Type 0 where
  pub writable : IsWritable (without_casts tree)
  pub respelled : IsRespelled (numbered tree) (numbered (without_casts tree))

abbrev pub NeedlessCastsMayGo : Type 0
NeedlessCastsMayGo = (tree : Tree) → IsWritable tree → IsTextWithout tree
