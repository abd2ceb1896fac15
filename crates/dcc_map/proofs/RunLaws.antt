-- Laws of the reports of runs.
use Rattle.std.proofs.Common.{◌≡◌, List, sym, ap, subst}
use Rattle.dcc_run.specs.Event.{Event as RunEvent}
use Rattle.dcc_run.specs.Prefix.{AreComparable}
use Rattle.dcc_machine.specs.declared.image.Image.{Image}
use Rattle.dcc_machine.specs.Machine.{start_state}
use Rattle.dcc_machine.specs.Step.{machine_system}
use Rattle.dcc_machine.proofs.StepLaws.{machine_lawful}
use Rattle.dcc_c.specs.Run.{text_system, first_state}
use Rattle.dcc_c.proofs.RunLaws.{text_lawful}
use Rattle.dcc_map.specs.Placed.{events_of}
use Rattle.dcc_map.specs.Compared.{address_of, line_of, machine_events, text_events}
use Rattle.dcc_map.specs.Laws.{machine_happens, text_happens, ListsAreOfRuns, EqualReportsAgree, AgreeingRunsNeverDiffer}
use Rattle.dcc_map.proofs.CommonLaws.{listed_events}
use Rattle.dcc_map.proofs.ReportLaws.{equal_agree, never_differ, events-comparable}

pub lists_are : ListsAreOfRuns
lists_are = record {
  machine = λ settings image input.
      sym (listed_events (machine_system settings.cpu) (machine_lawful settings.cpu) address_of settings.most (start_state image input));
  text = λ settings tree start input.
      sym (listed_events (text_system tree) (text_lawful tree) line_of settings.most (first_state tree start settings.fill input));
}

pub reports_agree : EqualReportsAgree
reports_agree settings image tree start input report compares none =
    subst (λ (l : List RunEvent). AreComparable l (text_happens settings tree start input)) (lists_are.machine settings image input)
    (subst (λ (l : List RunEvent). AreComparable (events_of (machine_events settings image input)) l) (lists_are.text settings tree start input)
    (equal_agree _ _ _ _ report compares none))

pub runs_never_differ : AgreeingRunsNeverDiffer
runs_never_differ settings image tree start input report steps compares keeps =
    never_differ _ _ _ _ report compares
    (subst (λ (l : List RunEvent). AreComparable l (events_of (text_events settings tree start input))) (sym (lists_are.machine settings image input))
    (subst (λ (l : List RunEvent). AreComparable (machine_happens settings image input) l) (sym (lists_are.text settings tree start input))
    (events-comparable (machine_system settings.cpu) (start_state image input) settings.most (text_system tree)
    (first_state tree start settings.fill input) steps settings.most (text_lawful tree) keeps)))
