use Rattle.std.proofs.Common.{◌≡◌, take, filter, not}
use Rattle.dcc_ir.specs.Live.{is_among}
use Rattle.dcc_ir.specs.Views.{stmt_of}
use Rattle.dcc_sums.specs.Instance.{written_by}
use Rattle.dcc_modref.proofs.state.State.unwritten.Given as goal

abbrev pub invariant-loop-word : goal.invariant-loop-word
invariant-loop-word l = l.words ≡ filter (λ word. not (is_among (written_by (stmt_of l.stmt)) word)) (take l.word-index l.self.saved)
