use Rattle.std.proofs.Common.{get_or, map, ap, ◌∙◌, arith}
use Rattle.std.proofs.lemmas.List.{take_all}
use Rattle.dcc_webs.proofs.classes.number_classes.Goals as goal

pub returns : goal.returns
returns c =
    let place = c.in_ok-places.places.of.items in
    record {
      place = place;
      of_are = c.loop-x.invariant ∙ ap (map (λ n. get_or place n 0)) (take_all c.loop-x.x-index c.args.class.now (omega arith));
      places = c.in_ok-places.ensures.places;
      widths = c.in_ok-places.ensures.widths;
    }
