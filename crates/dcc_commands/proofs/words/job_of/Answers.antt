use Rattle.std.proofs.Common.{map, string_bytes}
use Rattle.dcc_commands.specs.Words.{command_of, job_of, parts_of}
use Rattle.dcc_commands.proofs.WordsLaws.{four-no_command}
use Rattle.dcc_commands.proofs.words.job_of.Goals as goal

pub returns-in_err-found-clause-job : goal.returns-in_err-found-clause-job
unfolding job_of
returns-in_err-found-clause-job c =
    rw (c.from_residual-in_err-found.ensures, c.in_ok-command.ensures.cases.0)
    (four-no_command (command_of (string_bytes c.in_ok-command.command.now)) (parts_of (map string_bytes c.in_ok-command.rest.now)) c.in_err-found.ensures)
