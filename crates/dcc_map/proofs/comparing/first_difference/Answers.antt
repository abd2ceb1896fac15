use Rattle.std.proofs.Common.{◌≡◌, ◌<◌, ◌^◌, ◌∷◌, [], Some, None, Option, refl, sym, ap, ◌∙◌, subst, length, arith}
use Rattle.std.proofs.lemmas.Bool.{false≢true}
use Rattle.dcc_step.specs.Stepped.{machine as machines}
use Rattle.dcc_crun.specs.Stepped.{texts}
use Rattle.dcc_map.specs.declared.event.Event.{Event}
use Rattle.dcc_map.specs.Agreed.{Lists}
use Rattle.dcc_map.specs.Compared.{address_of, line_of}
use Rattle.dcc_map.specs.Side.{Leaves, machine_side, text_side}
use Rattle.dcc_map.proofs.AgreedLaws.{common_whole, common_few, common_next, machine_ends, text_ends, events_differ, no_event}
use Rattle.dcc_map.proofs.comparing.first_difference.Goals as goal

pub loop-count-init : goal.loop-count-init
loop-count-init c cpu tree lists whole = common_whole cpu tree lists c.args.machine.now c.args.text.now c.args.tally.now whole

pub returns-in_default : goal.returns-in_default
returns-in_default c cpu tree lists whole =
    let l = c.loop-count in
    let common = l.invariant cpu tree lists whole in
    machine_ends cpu tree lists l.machine l.text l.tally l._count common c.next.new.self
    (subst (λ (o : Option Event). Leaves machines address_of cpu (machine_side c.next.new.self) c.next.new.self.at common.machine_rest lists.machine_end o)
    (no_event c.in_ok-first.field-0 c.in_default.not-Some)
    (c.in_ok-first.ensures cpu common.machine_rest lists.machine_end common.machine))

pub returns-in_default-2 : goal.returns-in_default-2
returns-in_default-2 c cpu tree lists whole =
    let l = c.loop-count in
    let common = l.invariant cpu tree lists whole in
    text_ends cpu tree lists l.machine l.text l.tally l._count common c.next.new.self c.next-in-loop-count.new.self c.in-Some.first
    (subst (λ (o : Option Event). Leaves machines address_of cpu (machine_side c.next.new.self) c.next.new.self.at common.machine_rest lists.machine_end o)
    c.in-Some.is (c.in_ok-first.ensures cpu common.machine_rest lists.machine_end common.machine))
    (subst (λ (o : Option Event). Leaves texts line_of tree (text_side c.next-in-loop-count.new.self) c.next-in-loop-count.new.self.line common.text_rest lists.text_end o)
    (no_event c.in_ok-second.field-0 c.in_default-2.not-Some)
    (c.in_ok-second.ensures tree common.text_rest lists.text_end common.text))

pub returns-then-not-are_same : goal.returns-then-not-are_same
returns-then-not-are_same c cpu tree lists whole =
    let l = c.loop-count in
    let common = l.invariant cpu tree lists whole in
    events_differ cpu tree lists l.machine l.text l.tally l._count common c.next.new.self c.next-in-loop-count.new.self c.in-Some.first c.in-Some-2.second
    (subst (λ (o : Option Event). Leaves machines address_of cpu (machine_side c.next.new.self) c.next.new.self.at common.machine_rest lists.machine_end o)
    c.in-Some.is (c.in_ok-first.ensures cpu common.machine_rest lists.machine_end common.machine))
    (subst (λ (o : Option Event). Leaves texts line_of tree (text_side c.next-in-loop-count.new.self) c.next-in-loop-count.new.self.line common.text_rest lists.text_end o)
    c.in-Some-2.is (c.in_ok-second.ensures tree common.text_rest lists.text_end common.text))
    (λ same. false≢true (sym c.if-not-are_same.true ∙ c.are_same.ensures.1 same))

pub loop-count-preserved : goal.loop-count-preserved
loop-count-preserved c cpu tree lists whole =
    let l = c.loop-count in
    let common = l.invariant cpu tree lists whole in
    common_next cpu tree lists l.machine l.text l.tally l._count common c.next.new.self c.next-in-loop-count.new.self c.count.new.self c.in-Some.first c.in-Some-2.second
    (subst (λ (o : Option Event). Leaves machines address_of cpu (machine_side c.next.new.self) c.next.new.self.at common.machine_rest lists.machine_end o)
    c.in-Some.is (c.in_ok-first.ensures cpu common.machine_rest lists.machine_end common.machine))
    (subst (λ (o : Option Event). Leaves texts line_of tree (text_side c.next-in-loop-count.new.self) c.next-in-loop-count.new.self.line common.text_rest lists.text_end o)
    c.in-Some-2.is (c.in_ok-second.ensures tree common.text_rest lists.text_end common.text))
    (c.are_same.ensures.0 c.if-not-are_same.false)
    (c.in_ok-count.ensures _ (common_few cpu tree lists l.machine l.text l.tally l._count common whole.few).1 common.tallies)

pub returns : goal.returns
returns c cpu tree lists whole =
    let l = c.loop-count in
    let few = (common_few cpu tree lists l.machine l.text l.tally l._count (l.invariant cpu tree lists whole) whole.few).0 in
    absurd (omega arith)
