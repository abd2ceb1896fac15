-- How the run of a machine has ended.
use Rattle.dcc_run.specs.End.{End, Running as running, Exit as exited, Divide as divided, Outside as outside}
use Rattle.dcc_console.specs.declared.fault.Fault.{Fault}
use Rattle.dcc_console.specs.declared.fault.Fault.TheVariants.{Input, Output}
use Rattle.dcc_step.specs.declared.ending.Stepped.{Stepped}
use Rattle.dcc_step.specs.declared.ending.Stepped.TheVariants.{Running as still_running, Exit as exit_answered}
use Rattle.dcc_step.specs.declared.ending.Stepped.TheVariants.{Divide as divide_answered, Outside as outside_answered}
use Rattle.dcc_step.specs.declared.ending.Stepped.TheVariants.{InFault, OutFault}
use Rattle.dcc_step.specs.declared.ending.Ending.{Ending}
use Rattle.dcc_step.specs.declared.ending.Ending.TheVariants.{Running, Exit, Divide, Outside}

-- the end of the run that the code keeps
abbrev pub end_of : Ending → End
end_of Running = running
end_of (Exit code) = exited code
end_of Divide = divided
end_of (Outside at) = outside at

-- what a step answers where the run has ended, or goes on
abbrev pub answer_of : Ending → Stepped
answer_of Running = still_running
answer_of (Exit code) = exit_answered code
answer_of Divide = divide_answered
answer_of (Outside at) = outside_answered at

-- what a step answers that a fault refused
abbrev pub fault_answer_of : Fault → Stepped
fault_answer_of Input = InFault
fault_answer_of Output = OutFault
