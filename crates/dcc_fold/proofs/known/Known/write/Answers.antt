use Rattle.std.proofs.Common.{◌≡◌, ◌<◌, length, map, get_or, slice_set, refl, ap₂, ◌∙◌, subst, arith}
use Rattle.std.proofs.lemmas.List.{length-map}
use Rattle.dcc_flow.specs.Marks.{location_number}
use Rattle.dcc_fold.specs.Known.{fact_of}
use Rattle.dcc_fold.proofs.WriteLaws.{written-stamps}
use Rattle.dcc_fold.proofs.known.Known.write.Goals as goal

pub returns : goal.returns
returns c =
    let room = c.make_room.new.list.items in
    let facts = c.args.self.now.facts.items in
    let place = c.number-place.ensures in
    let now : c.len.result ≡ length (map fact_of facts) = omega (arith, c.len.ensures, c.args.self.now.facts.ok.0, length-map facts fact_of) in
    record {
      rest = refl;
      stamps = λ other.
          ap₂ (λ p n. get_or (slice_set room p n) (location_number other) 0) place now
          ∙ written-stamps c.args.self.now.written.items room (length (map fact_of facts)) c.args.location c.in_ok-make_room.ensures.same (subst (λ p. p < length room) place c.in_ok-make_room.ensures.room) other;
    }
