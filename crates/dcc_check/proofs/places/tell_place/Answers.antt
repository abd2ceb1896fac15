use Rattle.std.proofs.Common.{◌∷◌, map, sym, ◌∙◌, subst}
use Rattle.std.specs.Prelude.{if◌then◌else◌}
use Rattle.dcc_reader.specs.PartialViews.{variable_of}
use Rattle.dcc_check.specs.Places.{earlier_of, IsOccupied}
use Rattle.dcc_check.proofs.places.tell_place.Goals as goal

pub returns-clause-held : goal.returns-clause-held
returns-clause-held c =
    let v = variable_of c.args.variable.now in
    let es = earlier_of (map variable_of c.args.earlier.now) in
    subst (λ t. IsOccupied c.take.new.occupied.marks.items c.take.new.occupied.complete (if t then v ∷ es else es))
    (sym (sym c.takes_bytes.ensures ∙ c.if-not-takes_bytes.false)) (c.take.ensures es c.requires.held)
