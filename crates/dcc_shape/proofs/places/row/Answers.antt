use Rattle.std.proofs.Common.{◌≤◌, ◌++◌, ◌∷◌, [], map, take, get_or, All, sym, ap, subst, ◌∙◌}
use Rattle.std.proofs.lemmas.List.{take_more, map-append}
use Rattle.std.proofs.lemmas.List.Elements.{All-push}
use Rattle.indexmap.specs.IndexMap.{keys}
use Rattle.dcc_shape.specs.Procedures.{place_among}
use Rattle.dcc_shape.proofs.places.row.Goals as goal

pub loop-at-preserved : goal.loop-at-preserved
loop-at-preserved c =
    let at_place = place_among (keys c.args.nodes.now) in
    let ats = c.args.ats.now in
    let i = c.loop-at.at-index in
    let pushed = c.in_ok-push.ensures.items in
    record {
      are = pushed ∙ ap (λ l. l ++ c.place.result ∷ []) c.loop-at.invariant.are
          ∙ ap (λ p. map at_place (take i ats) ++ p ∷ []) c.place.ensures.is
          ∙ sym (ap (map at_place) (take_more ats i 0 c.loop-at-test.true) ∙ map-append at_place (take i ats) (get_or ats i 0 ∷ []));
      within = subst (All (λ p. p ≤ c.args.count)) (sym pushed)
          (All-push (λ p. p ≤ c.args.count) c.loop-at.row.items c.place.result c.loop-at.invariant.within c.place.ensures.within);
    }
