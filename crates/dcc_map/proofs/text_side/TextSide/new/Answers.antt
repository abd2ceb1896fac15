use Rattle.std.proofs.Common.{refl, sym, ap}
use Rattle.dcc_map.specs.Placed.{placed_at}
use Rattle.dcc_c.specs.Run.{first_state}
use Rattle.dcc_c.specs.Views.{tree_of}
use Rattle.dcc_map.specs.Compared.{text_events}
use Rattle.dcc_map.proofs.PendingLaws.{begun}
use Rattle.dcc_map.proofs.text_side.TextSide.new.Goals as goal

pub returns : goal.returns
returns c allowed =
    let tree = tree_of c.args.unit.now in record {
      state = first_state tree allowed.start c.args.settings.now.fill c.args.input.now;
      stands = c.in_ok-new.ensures allowed.start allowed.others c.args.input.now allowed.first allowed.no_params;
      left = sym c.in_ok-keys_of.ensures;
      told = refl;
      events = begun 0 c.new-2.result.items (text_events c.args.settings.now tree allowed.start c.args.input.now) c.new-2.ensures.items;
      ends = refl;
    }
