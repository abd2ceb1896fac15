use Rattle.std.proofs.Common.{map, take, sym, ◌∙◌, subst}
use Rattle.dcc_c.specs.TextOffences.{size_offences, surplus}
use Rattle.dcc_reader.specs.PartialViews.{variable_of}
use Rattle.dcc_reader.specs.Told.{told}
use Rattle.dcc_check.specs.Places.{IsOccupied, earlier_of, misplaced_here}
use Rattle.dcc_check.proofs.PlaceLaws.{earlier-step, places-step}
use Rattle.dcc_check.proofs.ToldLaws.{told-three}
use Rattle.dcc_check.proofs.places.tell_globals.Goals as goal

pub loop-i-preserved : goal.loop-i-preserved
loop-i-preserved c =
    let globals = c.args.globals.now in
    let i = c.loop-i.i in
    let x = c.index-globals-i.result in
    let v = variable_of x in
    let stack = c.args.stack in
    let place = misplaced_here stack.lo stack.hi (earlier_of (map variable_of (take i globals))) v in
    let tells =
    told-three (told c.loop-i.first) (told c.tell_size.new.first) (told c.tell_surplus.new.first) (told c.tell_place.new.first)
    (size_offences v.size) (surplus v) place c.tell_size.ensures c.tell_surplus.ensures c.tell_place.ensures.tells in
    record {
      held = subst (λ es. IsOccupied c.tell_place.new.occupied.marks.items c.tell_place.new.occupied.complete es)
          (sym (earlier-step globals i x c.loop-i-test.true c.index-globals-i.is)) c.tell_place.ensures.held;
      tells = places-step globals i x c.loop-i-test.true c.index-globals-i.is stack.lo stack.hi
          (told c.loop-i.first) (told c.tell_place.new.first) tells ∙ c.loop-i.invariant.tells;
    }
