use Rattle.std.proofs.Common.{◌≡◌, ℕ, ◌<◌, length, false, get_or}
use Rattle.std.specs.Prelude.{◌&&◌, ◌||◌, nat_le, nat_lt}
use Rattle.dcc_check.proofs.places.mark.Given as goal

-- the bytes so far are marked
abbrev pub invariant-loop-k : goal.invariant-loop-k
invariant-loop-k l = (j : ℕ) → j < length l.initial.marks →
    get_or l.marks j false ≡ (nat_le l.from j && nat_lt j l.k) || get_or l.initial.marks j false
