-- What the jobs are to the top call: what they ask the shelf for, and which of them run, load an image or analyse one.
use Rattle.std.specs.Prelude.{◌≡◌, ℕ, List, [], ◌∷◌, map, Option, Some, None, String, string_bytes}
use Rattle.std.specs.declared.alloc.Global.{Global}
use Rattle.dcc_machine.specs.declared.cpu.Cpu.{Cpu}
use Rattle.dcc_commands.specs.declared.job.Product.{Product}
use Rattle.dcc_commands.specs.declared.job.Product.TheVariants.{Procedures}
use Rattle.dcc_commands.specs.Words.{Job, Make, Execute, ExecuteWatched, ExecuteText, Assemble, Try, job_of}

-- the job of the words, as the program has them
abbrev pub job_in : List (String Global) → Option Job
job_in words = job_of (map string_bytes words)

-- The job analyses the executable with this name, for this processor, as far as the product needs: it makes the
-- product; or it runs the executable watched, for which the analyses of the list of procedures are made.
pub data Analyses (name : List ℕ) (cpu : Cpu) : Product → Job → Type 0 where
  to_make : (product : Product) → Analyses name cpu product (Make product name cpu)
  to_watch : (steps : ℕ) → Analyses name cpu Procedures (ExecuteWatched name steps cpu)

-- the file that a job names
abbrev pub file_in : Job → Option (List ℕ)
file_in (Make product file cpu) = Some file
file_in (Execute file steps cpu) = Some file
file_in (ExecuteWatched file steps cpu) = Some file
file_in (ExecuteText file steps fill) = Some file
file_in (Assemble file) = Some file
file_in (Try seed size steps) = None

abbrev pub file_of : Option Job → Option (List ℕ)
file_of None = None
file_of (Some job) = file_in job

-- the job is to run an executable or a text
abbrev pub IsExecution : Option Job → Type 0
IsExecution None = ⊥
IsExecution (Some (Make product file cpu)) = ⊥
IsExecution (Some (Execute file steps cpu)) = Unit {0}
IsExecution (Some (ExecuteWatched file steps cpu)) = Unit {0}
IsExecution (Some (ExecuteText file steps fill)) = Unit {0}
IsExecution (Some (Assemble file)) = ⊥
IsExecution (Some (Try seed size steps)) = ⊥

-- the file of the job is an executable
abbrev pub LoadsImage : Option Job → Type 0
LoadsImage None = ⊥
LoadsImage (Some (Make product file cpu)) = Unit {0}
LoadsImage (Some (Execute file steps cpu)) = Unit {0}
LoadsImage (Some (ExecuteWatched file steps cpu)) = Unit {0}
LoadsImage (Some (ExecuteText file steps fill)) = ⊥
LoadsImage (Some (Assemble file)) = ⊥
LoadsImage (Some (Try seed size steps)) = ⊥

-- the greatest length of an executable that is fetched, and that of a text or a listing, in bytes
abbrev pub greatest_file : ℕ
greatest_file = 262144

abbrev pub greatest_text : ℕ
greatest_text = 67108864

-- what a job asks the shelf for: names, each with the greatest number of bytes
abbrev pub requests_in : Job → List (List ℕ × ℕ)
requests_in (Make product file cpu) = (file, greatest_file) ∷ []
requests_in (Execute file steps cpu) = (file, greatest_file) ∷ []
requests_in (ExecuteWatched file steps cpu) = (file, greatest_file) ∷ []
requests_in (ExecuteText file steps fill) = (file, greatest_text) ∷ []
requests_in (Assemble file) = (file, greatest_text) ∷ []
requests_in (Try seed size steps) = []

abbrev pub requests_of : Option Job → List (List ℕ × ℕ)
requests_of None = []
requests_of (Some job) = requests_in job
