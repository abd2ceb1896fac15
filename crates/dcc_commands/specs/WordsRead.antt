-- What the reader of the command line has read, as the parts of the words.
use Rattle.std.specs.Prelude.{◌≤◌, ℕ, List, [], ◌∷◌, length, Option, IfSome}
use Rattle.std.specs.Option.{option_copied}
use Rattle.dcc_commands.specs.declared.job.Job.{Job as ReadJob}
use Rattle.dcc_commands.specs.declared.job.Job.TheVariants.{Make as ReadMake}
use Rattle.dcc_commands.specs.declared.job.Job.TheVariants.{Execute as ReadExecute, Assemble as ReadAssemble, Try as ReadTry}
use Rattle.dcc_commands.specs.declared.job.Job.TheVariants.{ExecuteText as ReadExecuteText}
use Rattle.dcc_commands.specs.declared.job.Job.TheVariants.{ExecuteWatched as ReadExecuteWatched}
use Rattle.dcc_commands.specs.declared.words.Kind.{Kind as ReadKind}
use Rattle.dcc_commands.specs.declared.words.Kind.TheVariants.{Positional as ReadPositional, End as ReadEnd}
use Rattle.dcc_commands.specs.declared.words.Kind.TheVariants.{Names as ReadNames, Gives as ReadGives}
use Rattle.dcc_commands.specs.declared.words.Kind.TheVariants.{Unknown as ReadUnknown}
use Rattle.dcc_commands.specs.declared.words.Positions.{Positions}
use Rattle.dcc_commands.specs.declared.words.Positions.TheVariants.{Empty, One, Two, Three}
use Rattle.dcc_commands.specs.declared.words.Found.{Found}
use Rattle.dcc_commands.specs.Words.{Job, Make, Execute, ExecuteWatched, ExecuteText, Assemble, Try, IsSize, Kind}
use Rattle.dcc_commands.specs.Words.{Positional, End, Names, Gives, Unknown, Parts}

-- the job that a value of the program names
abbrev pub job_read : ReadJob → Job
job_read (ReadMake product file cpu) = Make product file.now cpu
job_read (ReadExecute run) = Execute run.file.now run.steps run.cpu
job_read (ReadExecuteWatched run) = ExecuteWatched run.file.now run.steps run.cpu
job_read (ReadExecuteText run) = ExecuteText run.file.now run.steps run.fill
job_read (ReadAssemble file) = Assemble file.now
job_read (ReadTry attempt) = Try attempt.seed attempt.size attempt.steps

-- the size of a trial is one
abbrev pub IsSized : ReadJob → Type 0
IsSized (ReadTry attempt) = IsSize attempt.size
IsSized _ = Unit {0}

abbrev pub kind_read : ReadKind → Kind
kind_read ReadPositional = Positional
kind_read ReadEnd = End
kind_read (ReadNames name) = Names name
kind_read (ReadGives name value) = Gives name value.now
kind_read ReadUnknown = Unknown

-- the positional words that were found
abbrev pub positions_read : Positions → List (List ℕ)
positions_read Empty = []
positions_read (One a) = a.now ∷ []
positions_read (Two a b) = a.now ∷ (b.now ∷ [])
positions_read (Three a b c) = a.now ∷ (b.now ∷ (c.now ∷ []))

-- the parts that were found
abbrev pub parts_read : Found → Parts
parts_read found = record {
  positional = positions_read found.positions;
  steps = option_copied found.steps;
  fill = option_copied found.fill;
  cpu = option_copied found.cpu;
}

-- there are four positional words or more, which no command takes
abbrev pub HasFourWords : Option Parts → Type 0
HasFourWords parts = IfSome parts (λ p. 4 ≤ length p.positional)
