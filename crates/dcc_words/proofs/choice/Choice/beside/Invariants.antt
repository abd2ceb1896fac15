use Rattle.std.proofs.Common.{length, ◌-◌}
use Rattle.dcc_words.proofs.choice.Choice.beside.Given as goal

abbrev pub decreases-loop-k : goal.decreases-loop-k
decreases-loop-k l = length l.others - l.k
