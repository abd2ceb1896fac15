use Rattle.std.proofs.Common.{false, length, slice_index_or, ap, ◌∙◌}
use Rattle.std.proofs.lemmas.List.{length-replicate}
use Rattle.dcc_globals.proofs.Tests.{unmarked_at}
use Rattle.dcc_globals.proofs.marks.unmarked.Goals as goal

pub returns : goal.returns
returns c = record {
  whole = ap length (c.in_ok-table.ensures.items_if_clones_equal (λ y same. same)) ∙ length-replicate 65537 false;
  none = λ at. ap (λ m. slice_index_or m at false) (c.in_ok-table.ensures.items_if_clones_equal (λ y same. same)) ∙ unmarked_at 65537 at;
}
