use Rattle.std.proofs.Common.{length, get_or, ap, ◌∙◌}
use Rattle.dcc_globals.proofs.Counting.{zeros_at, zeros_length}
use Rattle.dcc_globals.proofs.texts.zeros.Goals as goal

pub returns : goal.returns
returns c = record {
  whole = ap length (c.in_ok-table.ensures.items_if_clones_equal (λ y same. same)) ∙ zeros_length 65537;
  none = λ at. ap (λ m. get_or m at 0) (c.in_ok-table.ensures.items_if_clones_equal (λ y same. same)) ∙ zeros_at 65537 at;
}
