use Rattle.std.proofs.Common.{◌≤◌, refl, arith}
use Rattle.std.specs.List.{zip}
use Rattle.dcc_run.specs.System.{end_after}
use Rattle.dcc_machine.specs.Machine.{start_state}
use Rattle.dcc_machine.specs.Step.{machine_system}
use Rattle.dcc_c.specs.Run.{text_system, first_state}
use Rattle.dcc_c.specs.Views.{tree_of}
use Rattle.dcc_map.specs.Agreed.{Lists, AreWhole}
use Rattle.dcc_map.specs.Compared.{address_of, machine_events, text_events}
use Rattle.dcc_map.proofs.FewLaws.{few_events}
use Rattle.dcc_map.proofs.ReportLaws.{reported}
use Rattle.dcc_map.proofs.comparing.compare.Goals as goal

pub returns : goal.returns
returns c allowed =
    let settings = c.args.settings.now in
    let image = c.args.image.now in
    let tree = tree_of c.args.unit.now in
    let input = c.args.input.now in
    let cpu = settings.cpu in
    let lists : Lists = record {
      machine = machine_events settings image input;
      text = text_events settings tree allowed.start input;
      machine_end = end_after (machine_system cpu) settings.most (start_state image input);
      text_end = end_after (text_system tree) settings.most (first_state tree allowed.start settings.fill input);
    } in
    let few = few_events cpu address_of settings.most (start_state image input) in
    let whole : AreWhole cpu tree c.in_ok-machine.machine c.in_ok-text.text c.new-tally.result lists = record {
      machine = c.in_ok-machine.ensures;
      text = c.in_ok-text.ensures allowed;
      tallies = c.new-tally.ensures;
      few = omega (arith, few, c.requires.few);
    } in
    let compared = c.first_difference.new in
    let d = c.in_ok-differs.ensures cpu tree lists whole in
    reported cpu tree compared.machine compared.text compared.tally lists
    (record { bytes = compared.tally.bytes; pairs = c.in_ok-pairs.field-0; differs = c.in_ok-differs.differs; machine = c.in_ok-finish.field-0; text = c.in_ok-finish-2.field-0 })
    d refl (c.in_ok-pairs.ensures (zip d.of_machine d.of_text) d.tallies)
    (c.in_ok-finish.ensures cpu d.machine_left lists.machine_end d.machine)
    (c.in_ok-finish-2.ensures tree d.text_left lists.text_end d.text)
