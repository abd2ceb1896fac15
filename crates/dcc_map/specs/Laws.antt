-- Laws of lists of events with their places, and of reports.
use Rattle.std.specs.Prelude.{◌≡◌, ℕ, List, None}
use Rattle.dcc_run.specs.Agreement.{KeepsUp}
use Rattle.dcc_run.specs.Event.{Event}
use Rattle.dcc_run.specs.Prefix.{AreComparable}
use Rattle.dcc_run.specs.System.{events_after}
use Rattle.dcc_machine.specs.declared.image.Image.{Image}
use Rattle.dcc_machine.specs.Machine.{start_state}
use Rattle.dcc_machine.specs.Step.{machine_system}
use Rattle.dcc_c.specs.Tree.{Tree, Function}
use Rattle.dcc_c.specs.Run.{text_system, first_state}
use Rattle.dcc_map.specs.declared.report.Report.{Report}
use Rattle.dcc_map.specs.declared.report.Settings.{Settings}
use Rattle.dcc_map.specs.Placed.{events_of}
use Rattle.dcc_map.specs.Compared.{machine_events, text_events, Compares}

-- what happens in the runs of the image and of the text
abbrev pub machine_happens : Settings → Image → List ℕ → List Event
machine_happens settings image input =
    events_after (machine_system settings.cpu) settings.most (start_state image input)

abbrev pub text_happens : Settings → Tree → Function → List ℕ → List Event
text_happens settings tree start input =
    events_after (text_system tree) settings.most (first_state tree start settings.fill input)

-- without their places, the listed events are those of the runs
pub record ListsAreOfRuns : Type 0 where
  pub machine :
      (settings : Settings) (image : Image) (input : List ℕ)
      → events_of (machine_events settings image input) ≡ machine_happens settings image input
  pub text :
      (settings : Settings) (tree : Tree) (start : Function) (input : List ℕ)
      → events_of (text_events settings tree start input) ≡ text_happens settings tree start input

-- where no events differ, those of one run begin with those of the other
abbrev pub EqualReportsAgree : Type 0
EqualReportsAgree =
    (settings : Settings) (image : Image) (tree : Tree) (start : Function) (input : List ℕ) (report : Report)
    → Compares settings image tree start input report → report.differs ≡ None
    → AreComparable (machine_happens settings image input) (text_happens settings tree start input)

-- Where the text keeps up with the machine, in whatever number of steps, no events differ.
abbrev pub AgreeingRunsNeverDiffer : Type 0
AgreeingRunsNeverDiffer =
    (settings : Settings) (image : Image) (tree : Tree) (start : Function) (input : List ℕ) (report : Report)
    (steps : ℕ) → Compares settings image tree start input report
    → KeepsUp (machine_system settings.cpu) (start_state image input) settings.most
    (text_system tree) (first_state tree start settings.fill input) steps
    → report.differs ≡ None
