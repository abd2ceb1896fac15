use Rattle.std.proofs.Common.{◌≡◌, ◌+◌, ◌-◌}
use Rattle.dcc_c.specs.Types.{size_of}
use Rattle.dcc_c.specs.Memory.{store}
use Rattle.dcc_value.proofs.value.memory.store.Given as goal

-- what is left to store takes the memory to where storing all takes the first one
abbrev pub invariant-loop-i : goal.invariant-loop-i
invariant-loop-i l = store (size_of l.fn.ty) l.initial.memory l.fn.at l.fn.n ≡ store (size_of l.fn.ty - l.i) l.memory (l.fn.at + l.i) l.rest
