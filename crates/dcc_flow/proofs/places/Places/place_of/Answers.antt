use Rattle.std.proofs.Common.{◌≡◌, ◌<◌, true, false, length, get_or, slice_get, Some, sym, ap, ◌∙◌, subst, arith}
use Rattle.std.proofs.lemmas.List.{get_or_read}
use Rattle.std.proofs.lemmas.Option.{slice_get-get_or, slice_get_within, get_or_from_slice_get}
use Rattle.dcc_ir.specs.Live.{is_among}
use Rattle.dcc_ir.specs.Location.{same_location}
use Rattle.dcc_ir.proofs.LocationLaws.{location_same, location_itself}
use Rattle.dcc_flow.specs.Places.{IsPlace}
use Rattle.dcc_flow.proofs.PlaceLaws.{place_is, place_none, place_away}
use Rattle.dcc_flow.proofs.places.Places.place_of.Goals.{else-place-len-via-then-place-len+else-is_same, else-place-len-via-else-place-len}
use Rattle.dcc_flow.proofs.places.Places.place_of.Goals as goal

pub returns-then-is_same : goal.returns-then-is_same
returns-then-is_same c =
    let list = c.self.inside.list.items in
    let at = c.self.inside.at.items in
    let x = c.args.location in
    let n = c.number-n.result in
    let place = c.index-place.result.now in
    let here = c.index.result.now in
    let inside : n < length at = omega (arith, c.if-n-len.true, c.len.ensures) in
    let within : place < length list = omega (arith, c.if-place-len.true, c.len-then-n-len.ensures) in
    let same : here ≡ x = location_same here x (sym c.is_same.ensures ∙ c.if-is_same.true) in
    let there : slice_get list place ≡ Some x =
    slice_get-get_or list place x within ∙ ap Some (sym (get_or_read list place here within c.index.ensures x) ∙ same) in
    subst (λ l. IsPlace l x place) c.self.view_is
    (place_is list at x n place c.self.invariant c.number-n.ensures (sym (get_or_read at n place inside c.index-place.ensures 0)) there)

pub returns-else-place-len : goal.returns-else-place-len
returns-else-place-len c =
    let list = c.self.inside.list.items in
    let at = c.self.inside.at.items in
    let x = c.args.location in
    let n = c.number-n.result in
    let place = c.index-place.result.now in
    let inside : n < length at = omega (arith, c.if-n-len.true, c.len.ensures) in
    subst (λ l. is_among l x ≡ false) c.self.view_is
    (place_away list at x n place c.self.invariant c.number-n.ensures inside c.index-place.ensures (λ e.
    elim c.else-place-len.branch [
      | else-place-len-via-then-place-len+else-is_same w ↦
          let here = w.index.result.now in
          let same : here ≡ x = w.index.ensures ∙ get_or_from_slice_get list place x here e in
          sym (subst (λ y. same_location here y ≡ true) same (location_itself here)) ∙ sym w.is_same.ensures ∙ w.if-is_same.false
      | else-place-len-via-else-place-len w ↦
          let within = slice_get_within list place x e in
          absurd (omega (arith, within, w.if-place-len.false, c.len-then-n-len.ensures))
    ]))

pub returns-else-n-len : goal.returns-else-n-len
returns-else-n-len c =
    subst (λ l. is_among l c.args.location ≡ false) c.self.view_is
    (place_none c.self.inside.list.items c.self.inside.at.items c.args.location c.number-n.result c.self.invariant c.number-n.ensures
    (λ less e. absurd (omega (arith, less, c.if-n-len.false, c.len.ensures))))
