-- From what code says of its run to what a trial tells of it.
use Rattle.std.proofs.Common.{◌≡◌, ℕ, List, [], ◌∷◌, Option, Some, refl, sym, ap, ◌∙◌}
use Rattle.dcc_io.proofs.ToldLemmas.{append_told-some}
use Rattle.dcc_io.specs.Told.{append_told}
use Rattle.dcc_run.specs.End.{End}
use Rattle.dcc_run.specs.Event.{written_by}
use Rattle.dcc_run.specs.System.{end_after}
use Rattle.dcc_machine.specs.declared.cpu.Cpu.{Cpu}
use Rattle.dcc_machine.specs.declared.image.Image.{Image}
use Rattle.dcc_machine.specs.Machine.{start_state}
use Rattle.dcc_c.specs.Rules.{IsAllowed}
use Rattle.dcc_c.specs.Run.{first_state}
use Rattle.dcc_c.specs.Tree.{Tree, Function}
use Rattle.dcc_console.specs.Console.{Executor}
use Rattle.dcc_console.specs.Steps.{HasEnded, MakesSteps}
use Rattle.dcc_console.specs.WithConsole.{WithConsole, beside_console}
use Rattle.dcc_console.proofs.RanLaws.{Begins, has_run_when_told}
use Rattle.dcc_step.specs.Core.{Core, core_of}
use Rattle.dcc_step.specs.Stepped.{machine}
use Rattle.dcc_crun.specs.declared.run.CRun.{CRun}
use Rattle.dcc_crun.specs.Standing.{StandsAt}
use Rattle.dcc_crun.specs.Stepped.{texts}
use Rattle.dcc_trial.specs.declared.found.Ending.{Ending}
use Rattle.dcc_trial.specs.declared.found.Side.{Side}
use Rattle.dcc_trial.specs.Trial.{end_of, IsRun}

-- a run of code on no input is one of its system, as far as it is told
pub run-is : {W C S : Type 0} (executor : Executor W C S) (w : W) (start : List ℕ → S) (code : C) →
    Begins executor w start code → (steps : ℕ) (before taken : Option (List ℕ)) (now : WithConsole C) (output : List ℕ) (ending : Ending)
    → before ≡ Some [] → taken ≡ Some [] → now.taken ≡ Some output
    → MakesSteps executor steps (beside_console code before taken) now → HasEnded executor now.code (end_of ending)
    → (side : Side) → (side.output.items ≡ output) × (side.ending ≡ ending)
    → IsRun (executor.console w).system (start []) steps side
run-is executor w start code begins steps before taken now output ending none empty told made ended side is =
    let run = has_run_when_told executor w start code begins steps before taken now (end_of ending) ended made [] none in
    let written = written_by made.happened in
    let all : Some output ≡ Some written =
    sym told ∙ made.wrote ∙ ap (λ t. append_told t written) empty ∙ append_told-some [] written in
    let same : output ≡ written = cc in
    record { output = is.0 ∙ same ∙ run.output_is; ending = run.end_is ∙ ap end_of (sym is.1) }

-- the machine begins at the start of its image
pub machine-begins : (cpu : Cpu) (core : Core) (image : Image) → core ≡ core_of cpu (start_state image []) →
    Begins machine cpu (start_state image) core
machine-begins cpu core image at = record { stands = λ input. sym at; left = λ input. refl; events = λ input. refl }

-- the run of a text begins at the start of its first function
pub text-begins : (tree : Tree) (run : CRun) (fill : ℕ)
    → ((start : Function) (others : List Function) (input : List ℕ) → tree.functions ≡ start ∷ others → start.params ≡ []
    → StandsAt tree run (first_state tree start fill input))
    → (allowed : IsAllowed tree) → Begins texts tree (first_state tree allowed.start fill) run
text-begins tree run fill at allowed = record {
  stands = λ input. at allowed.start allowed.others input allowed.first allowed.no_params;
  left = λ input. refl;
  events = λ input. refl;
}

-- a run on no input has ended so, or goes on
pub ends-so : {W C S : Type 0} (executor : Executor W C S) (w : W) (start : List ℕ → S) (code : C) →
    Begins executor w start code → (steps : ℕ) (before taken : Option (List ℕ)) (now : WithConsole C) (end : End)
    → before ≡ Some [] → MakesSteps executor steps (beside_console code before taken) now → HasEnded executor now.code end
    → end_after (executor.console w).system steps (start []) ≡ end
ends-so executor w start code begins steps before taken now end none made ended =
    (has_run_when_told executor w start code begins steps before taken now end ended made [] none).end_is

-- what was appended to nothing is all that was taken
pub all-taken : (held now bytes : List ℕ) → held ≡ [] → Some now ≡ append_told (Some held) bytes → now ≡ bytes
all-taken held now bytes none is =
    let all : Some now ≡ Some bytes = is ∙ ap (λ l. append_told (Some l) bytes) none ∙ append_told-some [] bytes in cc
