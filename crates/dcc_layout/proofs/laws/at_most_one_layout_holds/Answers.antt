use Rattle.dcc_prog.proofs.LayoutLaws.{layout-once}
use Rattle.dcc_layout.proofs.laws.at_most_one_layout_holds.Goals as goal

pub returns : goal.returns
returns c = layout-once
