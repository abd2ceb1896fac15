use Rattle.std.proofs.Common.{◌≡◌, map, take}
use Rattle.dcc_sigs.proofs.recognised.entries_in.Given as goal

-- the entries of the procedures so far
abbrev pub invariant-loop-proc : goal.invariant-loop-proc
invariant-loop-proc l = l.entries.items ≡ map (λ proc. proc.entry) (take l.proc-index l.procs)
