use Rattle.std.proofs.Common.{◌+◌, refl, sym, ap, subst, map}
use Rattle.dcc_reader.specs.PartialViews.{variable_of}
use Rattle.dcc_check.specs.Places.{earlier_of, IsOccupied}
use Rattle.dcc_check.proofs.PlaceLaws.{free-tells, takes-earlier, le-of}
use Rattle.dcc_check.proofs.places.overlaps.Goals as goal

pub returns : goal.returns
returns c =
    let v = variable_of c.args.variable.now in
    let before = map variable_of c.args.earlier.now in
    free-tells c.deref.result.now c.args.occupied.now.complete (earlier_of before) v
    (subst (λ m. IsOccupied m c.args.occupied.now.complete (earlier_of before)) (sym c.deref.ensures.value) c.requires.held)
    c.if-not-occupied.false (takes-earlier before) c.requires.has_byte (le-of _ _ c.requires.within)
    c.args.variable.now.address (c.args.variable.now.address + c.size_in_bytes.result) refl (ap (λ n. c.args.variable.now.address + n) c.size_in_bytes.ensures.value)
    c.is_free.result c.is_free.ensures.free c.is_free.ensures.taken
