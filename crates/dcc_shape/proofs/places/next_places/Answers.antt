use Rattle.std.proofs.Common.{◌≡◌, ◌++◌, ◌∷◌, [], length, sym, ap, subst, ◌∙◌}
use Rattle.std.proofs.lemmas.List.{map-append, length-map}
use Rattle.dcc_flow.specs.Edges.{rows, AreWithin}
use Rattle.dcc_shape.proofs.GraphLaws.{within-next}
use Rattle.dcc_shape.proofs.places.next_places.Goals as goal

pub returns-clause-within : goal.returns-clause-within
returns-clause-within c =
    let next = c.in_ok-next.next.items in
    let more : rows c.push.new.self.items ≡ rows next ++ [] ∷ [] =
    ap rows c.in_ok-push.ensures.items ∙ map-append (λ v. v.items) next _ ∙ ap (λ l. rows next ++ l ∷ []) c.new.ensures.items in
    let long : length (rows next) ≡ c.args.count = ap length c.in_ok-next.ensures.are ∙ length-map c.args.points.now _ ∙ sym c.requires.points in
    subst AreWithin (sym more) (within-next (rows next) c.args.count long c.in_ok-next.ensures.within)
