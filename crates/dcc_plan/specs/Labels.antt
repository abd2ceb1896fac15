-- The labels of blocks.
use Rattle.std.specs.Prelude.{ℕ, List, codes, slice_get, Some, None}
use Rattle.dcc_ir.specs.Tree as inner
use Rattle.dcc_c.specs.Tree.{Word}
use Rattle.dcc_text.specs.Hex.{name_at}

-- the label of the block at an address, below 65536: four digits in hexadecimal
abbrev pub label_name : ℕ → Word
label_name at = name_at (codes "L_") at

-- the label of the block at a place in the graph
abbrev pub label_at : List inner.Block → ℕ → Word
label_at blocks place = elim (slice_get blocks place) [ Some block ↦ label_name block.at | None ↦ codes "L" ]
