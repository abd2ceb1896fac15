use Rattle.std.proofs.Common.{◌+◌, ◌<◌, List, Bool, [], length, map, drop, get_or, ap, sym, ◌∙◌, arith}
use Rattle.std.specs.Global.{Vec}
use Rattle.std.specs.Prelude.{if◌then◌else◌}
use Rattle.std.proofs.lemmas.List.{length-map, get_or-map}
use Rattle.dcc_modref.specs.States.{told_in}
use Rattle.dcc_ir.specs.Passing.{passed}
use Rattle.dcc_summaries.specs.Follow.{changed_among}
use Rattle.dcc_summaries.proofs.FollowLaws.{changed_step}
use Rattle.dcc_summaries.proofs.follow.is_changed.Goals as goal

pub loop-place-preserved : goal.loop-place-preserved
loop-place-preserved c =
    let items : Vec Bool → List Bool = λ v. v.items in
    let lists = map items c.args.changed.now in
    let place = c.loop-place.place in
    let inside : place < length passed = omega (arith, c.loop-place-test.true) in
    let there : place < length lists = omega (arith, c.requires, c.loop-place-test.true, length-map c.args.changed.now items) in
    let rest = changed_among (drop (place + 1) passed) (drop (place + 1) lists) c.args.entry c.args.location in
    ap (λ b. if b then told_in (get_or lists place []) c.args.entry else rest) (sym (sym c.same_location.ensures ∙ c.if-same_location.false))
    ∙ sym (changed_step passed lists place c.args.entry c.args.location inside there) ∙ c.loop-place.invariant

pub returns-then-same_location : goal.returns-then-same_location
returns-then-same_location c =
    let items : Vec Bool → List Bool = λ v. v.items in
    let lists = map items c.args.changed.now in
    let place = c.loop-place.place in
    let inside : place < length passed = omega (arith, c.loop-place-test.true) in
    let within : place < length c.args.changed.now = omega (arith, c.requires, c.loop-place-test.true) in
    let there : place < length lists = omega (arith, within, length-map c.args.changed.now items) in
    let rest = changed_among (drop (place + 1) passed) (drop (place + 1) lists) c.args.entry c.args.location in
    let list = c.index-changed-place.result in
    c.tells.ensures ∙ ap (λ l. told_in l c.args.entry) (c.as_slice.ensures.value ∙ ap items c.index-changed-place.is ∙ sym (get_or-map items c.args.changed.now place list [] within))
    ∙ ap (λ b. if b then told_in (get_or lists place []) c.args.entry else rest) (sym (sym c.same_location.ensures ∙ c.if-same_location.true))
    ∙ sym (changed_step passed lists place c.args.entry c.args.location inside there) ∙ c.loop-place.invariant
