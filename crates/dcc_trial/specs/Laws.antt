-- Laws of trials, for every seed, size and number of steps.
use Rattle.std.specs.Prelude.{◌≤◌, ℕ, List, []}
use Rattle.dcc_run.specs.Prefix.{AreComparable}
use Rattle.dcc_machine.specs.declared.cpu.Cpu.TheVariants.{I8086}
use Rattle.dcc_machine.specs.MzImage.{FormatFault, IsFirstFault}
use Rattle.dcc_prog.specs.Watch.{IsClean}
use Rattle.dcc_gen.specs.File.{IsMade}
use Rattle.dcc_trial.specs.declared.found.Trial.{Trial}
use Rattle.dcc_trial.specs.Trial.{IsTrial}

-- a file that is made passes all checks of the format
abbrev pub MadeFilesHaveNoFault : Type 0
MadeFilesHaveNoFault =
    (seed size : ℕ) (file : List ℕ) (fault : FormatFault) → size ≤ 1000 → IsMade seed size file
    → ¬ IsFirstFault file fault

-- where the machine's steps are clean, one of the two outputs is a prefix of the other
abbrev pub CleanRunsAgree : Type 0
CleanRunsAgree =
    (seed size steps : ℕ) (trial : Trial) (is : IsTrial seed size steps trial) → IsClean I8086 is.image [] steps
    → AreComparable trial.machine.output.items trial.text_run.output.items
