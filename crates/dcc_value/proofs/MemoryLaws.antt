-- One byte of a store after another.
use Rattle.std.proofs.Common.{◌≡◌, ℕ, zero, suc, ◌+◌, ◌/◌, ◌%◌, List, refl, arith}
use Rattle.std.specs.Prelude.{slice_set}
use Rattle.dcc_c.specs.Memory.{store}

pub store-step : (count left : ℕ) (memory : List ℕ) (at next n : ℕ) → count ≡ left + 1 → next ≡ at + 1 →
    store count memory at n ≡ store left (slice_set memory (at % 65536) (n % 256)) next (n / 256)
store-step zero left memory at next n e f = absurd (omega arith)
store-step (suc count) left memory at next n e f =
    let same : count ≡ left = omega arith in
    rw (same, f) refl
