use Rattle.std.proofs.Common.{◌<◌, get_or, take, length, sym, subst, arith, rules, take_all}
use Rattle.std.proofs.lemmas.List.{take_more}
use Rattle.std.proofs.lemmas.List.Elements.{Contains-get_or}
use Rattle.dcc_prog.specs.Refused.{IsRefusedByTrails}
use Rattle.dcc_procs.specs.Entries.{AreAdded}
use Rattle.dcc_procs.proofs.EntryLaws.{added-one, added-more, added-nothing, overfull-refused, sizes-kept}
use Rattle.dcc_procs.proofs.entries.Entries.add_all.Goals as goal

pub loop-place-init : goal.loop-place-init
loop-place-init c =
    (c.requires.length, c.requires.few, λ image layout are reached. added-nothing image layout c.args.self.now are)

pub add-requires-clause-length : goal.add-requires-clause-length
add-requires-clause-length c = c.loop-place.invariant.0

pub add-requires-clause-few : goal.add-requires-clause-few
add-requires-clause-few c = c.loop-place.invariant.1

pub loop-place-preserved : goal.loop-place-preserved
loop-place-preserved c =
    let entries = c.args.entries.now in
    let place = c.loop-place.place in
    let entry = get_or entries place 0 in
    let inv = c.loop-place.invariant in
    let more = c.loop-place-test.true in
    let inside : place < length entries = omega (arith, more) in
    let sizes = sizes-kept c.loop-place.self c.add.new.self entry c.in_ok-add.ensures.added inv.0 inv.1 in (
      sizes.0,
      sizes.1,
      λ image layout are reached.
          let a = inv.2 image layout are reached in
          subst (AreAdded image layout c.args.self.now c.add.new.self) (sym (take_more entries place 0 inside))
          (added-more image layout c.args.self.now c.loop-place.self c.add.new.self (take place entries) entry a
          (added-one image layout c.loop-place.self entry a.are (reached entry (Contains-get_or entries place 0 inside)) c.add.new.self c.add.ensures.small c.in_ok-add.ensures.added)),
    )

pub returns-in_err-add-clause-refused : goal.returns-in_err-add-clause-refused
returns-in_err-add-clause-refused c image layout are reached =
    let entries = c.args.entries.now in
    let place = c.loop-place.place in
    let entry = get_or entries place 0 in
    let more = c.loop-place-test.true in
    let inside : place < length entries = omega (arith, more) in
    let a = c.loop-place.invariant.2 image layout are reached in
    let named : IsRefusedByTrails image layout c.in_err-add.field-0.0 =
    overfull-refused image layout c.loop-place.self entry a.are
    (reached entry (Contains-get_or entries place 0 inside)) c.in_err-add.field-0.0 c.in_err-add.ensures.full in
    search rules

pub returns-clause-added : goal.returns-clause-added
returns-clause-added c image layout are reached =
    let entries = c.args.entries.now in
    let place = c.loop-place.place in
    let past = c.loop-place-test.false in
    subst (AreAdded image layout c.args.self.now c.loop-place.self) (take_all place entries (omega (arith, past)))
    (c.loop-place.invariant.2 image layout are reached)
