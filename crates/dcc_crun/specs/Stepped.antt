-- What steps of a text's run leave, and what they answer.
use Rattle.dcc_run.specs.End.{End, Running as running, Exit as exited, Divide as divided, Stuck as stuck}
use Rattle.dcc_c.specs.Tree.{Tree}
use Rattle.dcc_c.specs.Run.{State, text_system}
use Rattle.dcc_console.specs.Console.{Console, Executor}
use Rattle.dcc_console.specs.Steps.{Outcome, made, read_failed, write_failed, no_memory}
use Rattle.dcc_crun.specs.declared.run.CRun.{CRun}
use Rattle.dcc_crun.specs.declared.ending.CStepped.{CStepped}
use Rattle.dcc_crun.specs.declared.ending.CStepped.TheVariants.{Running, Exit, Divide, Stuck, InFault, OutFault, Memory}
use Rattle.dcc_crun.specs.Standing.{StandsAt}

-- a text with its console
abbrev pub console_of : Tree → Console State
console_of tree = record {
  system = text_system tree;
  left = λ s. s.input;
  with_left = λ input s. record s { input = input };
}

-- the code that makes the steps of texts
abbrev pub texts : Executor Tree CRun State
texts = record { console = console_of; stands = StandsAt }

-- how a step or a run came out, by its answer
abbrev pub outcome_of : CStepped → Outcome
outcome_of Running = made
outcome_of (Exit code) = made
outcome_of Divide = made
outcome_of (Stuck line) = made
outcome_of InFault = read_failed
outcome_of OutFault = write_failed
outcome_of Memory = no_memory

-- how the run has ended, by the answer of a step or a run
abbrev pub end_told : CStepped → End
end_told Running = running
end_told (Exit code) = exited code
end_told Divide = divided
end_told (Stuck line) = stuck line
end_told InFault = running
end_told OutFault = running
end_told Memory = running
