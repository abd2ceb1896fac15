use Rattle.std.proofs.Common.{map, ap, sym, ◌∙◌, subst, Contains}
use Rattle.std.specs.Prelude.{All}
use Rattle.dcc_ir.specs.Views.{graph_of}
use Rattle.dcc_ir.specs.Live.{IsLive}
use Rattle.dcc_live.specs.First.{Row, row_of}
use Rattle.dcc_live.proofs.LiveLaws.{selected_live}
use Rattle.dcc_live.proofs.living.live.Goals as goal

pub live_bits-requires-clause-rows : goal.live_bits-requires-clause-rows
live_bits-requires-clause-rows c = c.in_ok-rows.ensures ∙ ap (map row_of) c.in_ok-blocks.ensures

pub all_selected-requires : goal.all_selected-requires
all_selected-requires c = c.in_ok-bits.ensures.are.len_is

pub returns : goal.returns
returns c =
    let graph = graph_of c.args.g.now in
    let places = c.in_ok-places.places in
    let rows = c.in_ok-rows.ensures ∙ ap (map row_of) c.in_ok-blocks.ensures in
    let tracked = subst (λ r. All (λ (row : Row). All (Contains places) row.first) r) rows c.in_ok-places.ensures in
    subst (IsLive graph) (sym c.in_ok-at_end.ensures) (selected_live graph c.requires places c.in_ok-bits.bits.items tracked c.in_ok-bits.ensures)
