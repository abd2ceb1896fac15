-- How a run has ended, and what steps answer.
use Rattle.std.specs.Prelude.{Result, Ok, Err}
use Rattle.dcc_run.specs.End.{End, Running as running, Exit as exited, Divide as divided, Stuck as stuck}
use Rattle.dcc_value.specs.declared.value.NoValue.{NoValue}
use Rattle.dcc_value.specs.declared.value.NoValue.TheVariants.{Divides as Faults, Undefined as Meaningless}
use Rattle.dcc_io.specs.declared.outside.Failed.{Failed}
use Rattle.dcc_console.specs.declared.fault.Fault.{Fault}
use Rattle.dcc_console.specs.declared.fault.Fault.TheVariants.{Input as ReadFault, Output as WriteFault}
use Rattle.dcc_crun.specs.declared.ending.CStepped.{CStepped}
use Rattle.dcc_crun.specs.declared.ending.CStepped.TheVariants.{Running as still_running, Exit as exit_answered}
use Rattle.dcc_crun.specs.declared.ending.CStepped.TheVariants.{Divide as divide_answered, Stuck as stuck_answered}
use Rattle.dcc_crun.specs.declared.ending.CStepped.TheVariants.{InFault, OutFault, Memory as memory_answered}
use Rattle.dcc_crun.specs.declared.ending.Ending.{Ending}
use Rattle.dcc_crun.specs.declared.ending.Ending.TheVariants.{Running, Exit, Divide, Stuck}
use Rattle.dcc_crun.specs.declared.ending.Refusal.{Refusal}
use Rattle.dcc_crun.specs.declared.ending.Refusal.TheVariants.{Input, Output, Memory}
use Rattle.dcc_crun.specs.declared.ending.Stop.{Stop}
use Rattle.dcc_crun.specs.declared.ending.Stop.TheVariants.{Divides, Undefined, Refused}

-- the end of the run that the code keeps
abbrev pub end_of : Ending → End
end_of Running = running
end_of (Exit code) = exited code
end_of Divide = divided
end_of (Stuck line) = stuck line

-- what a step answers where the run has ended, or goes on
abbrev pub answer_of : Ending → CStepped
answer_of Running = still_running
answer_of (Exit code) = exit_answered code
answer_of Divide = divide_answered
answer_of (Stuck line) = stuck_answered line

-- an evaluation that gives nothing stops what a statement does
abbrev pub stop_of : NoValue → Stop
stop_of Faults = Divides
stop_of Meaningless = Undefined

-- why a step is refused where the console fails
abbrev pub refusal_of : Fault → Refusal
refusal_of ReadFault = Input
refusal_of WriteFault = Output

-- a write that fails stops what a statement does
abbrev pub write_stop : Result (Unit {0}) Failed → Result (Unit {0}) Stop
write_stop (Ok done) = Ok done
write_stop (Err failed) = Err (Refused Output)

-- what a step answers that is refused
abbrev pub fault_answer_of : Refusal → CStepped
fault_answer_of Input = InFault
fault_answer_of Output = OutFault
fault_answer_of Memory = memory_answered
