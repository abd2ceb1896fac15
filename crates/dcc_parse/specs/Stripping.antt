-- Parts of trees.
use Rattle.std.specs.Prelude.{Bool, nat_le}
use Rattle.dcc_c.specs.Partial.{PartialVariable}

-- the variable begins within memory, or just where memory ends
abbrev pub is_in_memory : PartialVariable → Bool
is_in_memory v = nat_le v.address 65536
