use Rattle.std.proofs.Common.{ℕ, sym, ap, arith, length-take-le}
use Rattle.std.specs.Prelude.{Some}
use Rattle.dcc_io.specs.Told.{prepend_told}
use Rattle.dcc_io.proofs.MemoryLemmas.{left_read}
use Rattle.dcc_io.proofs.memory.source.MemSourceSource.read.Goals as goal

pub returns-clause-taken : goal.returns-clause-taken
unfolding prepend_told
returns-clause-taken c =
    ap Some
    (left_read c.self.inside.bytes.items c.deref.result.now c.self.inside.at c.min-count.result c.args.self.now.left c.copy_from_slice.new.self _
    (sym (ap (λ s. s.left) c.self.view_is)) c.deref.ensures.value c.copy_from_slice.ensures.after (omega (arith, c.copy_from_slice.ensures.len, length-take-le {A = ℕ})))
