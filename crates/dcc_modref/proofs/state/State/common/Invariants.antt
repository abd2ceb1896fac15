use Rattle.std.proofs.Common.{◌≡◌, take, filter}
use Rattle.dcc_ir.specs.Live.{is_among}
use Rattle.dcc_modref.proofs.state.State.common.Given as goal

abbrev pub invariant-loop-word : goal.invariant-loop-word
invariant-loop-word l = l.words ≡ filter (is_among l.other.saved) (take l.word-index l.self.saved)
