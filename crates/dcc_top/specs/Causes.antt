-- What a call comes to, and what its status says.
use Rattle.std.specs.Prelude.{◌≡◌, ◌≢◌, ◌⊎◌, ◌<◌, ◌≤◌, ℕ, List, [], ◌∷◌, ◌++◌, length, Option, Some, None}
use Rattle.std.specs.Prelude.{Result, IfOk, OnErr, MatchResult, IsErrOf}
use Rattle.dcc_io.specs.declared.outside.Failed.{Failed}
use Rattle.dcc_mz.specs.declared.fault.MzFault.{MzFault}
use Rattle.dcc_mz.specs.Fault.{IsRefusal as IsFormatRefusal}
use Rattle.dcc_run.specs.End.{End, Outside}
use Rattle.dcc_run.specs.Prefix.{IsPrefix}
use Rattle.dcc_run.specs.System.{end_after}
use Rattle.dcc_machine.specs.declared.cpu.Cpu.{Cpu}
use Rattle.dcc_machine.specs.declared.cpu.Cpu.TheVariants.{I8086}
use Rattle.dcc_machine.specs.declared.image.Image.{Image}
use Rattle.dcc_prog.specs.declared.frame.Program.{Program}
use Rattle.dcc_pipe.specs.declared.no_text.NoText.{NoText}
use Rattle.dcc_prog.specs.Analysed.{IsProgramOf}
use Rattle.dcc_prog.specs.Clean.{Foul as FoulStep}
use Rattle.dcc_machine.specs.Machine.{start_state}
use Rattle.dcc_machine.specs.MzImage.{IsImageOf}
use Rattle.dcc_machine.specs.Step.{machine_system}
use Rattle.dcc_machine_demand.specs.Refused.{IsAcceptedProgram}
use Rattle.dcc_prog.specs.Refused.{IsSound}
use Rattle.dcc_c.specs.Text.{StandsFor}
use Rattle.dcc_c.specs.Tree.{Tree}
use Rattle.dcc_reader.specs.declared.offence.ParseKind.{ParseKind}
use Rattle.dcc_parse.specs.Fault.{IsRefusal as IsTextRefusal}
use Rattle.dcc_asm.specs.declared.fault.ListKind.{ListKind}
use Rattle.dcc_asm.specs.Fault.{IsAssembled, IsFirstFault}
use Rattle.dcc_top.specs.declared.reply.Reply.{Reply}
use Rattle.dcc_top.specs.declared.reply.Reply.TheVariants.{Done, NoFile, FileFault, InputFault, Memory, Format}
use Rattle.dcc_top.specs.declared.reply.Reply.TheVariants.{TextFault, ListingFault}
use Rattle.dcc_trial.specs.declared.found.NoTrial.{NoTrial}
use Rattle.dcc_trial.specs.Trial.{HasImage, IsWithout}
use Rattle.dcc_commands.specs.declared.job.Product.{Product}
use Rattle.dcc_commands.specs.Words.{Job, Execute, ExecuteWatched, ExecuteText, Assemble, Try}
use Rattle.dcc_top.specs.Jobs.{Analyses, file_in, file_of, requests_of, greatest_text}
use Rattle.dcc_top.specs.Execution.{machine_of, text_of, ending_after, end_reply}
use Rattle.dcc_top.specs.WatchedRun.{EndsClean, HasRunClean, StopsAtFoul, foul_reply}
use Rattle.dcc_top.specs.Answer.{Allows, IsCut, IsRefusedAs, OfImages, Runs, ShelfHas, ShelfLacks, status_of, line_of}
use Rattle.dcc_top.specs.Answer.{reason_reply, no_trial_reply}
use Rattle.dcc_top.specs.Call.{Call, Change, Requests, ShelfChange, SourceChange, SinkChange, Rises, Appends}
use Rattle.dcc_top.specs.Call.{AppendsPart}
use Rattle.dcc_top.specs.Delivery.{Answers, CutsShort, TellsReply}
use Rattle.dcc_top.specs.Status as exit

-- What is asked of the shelf.

-- what joined the list of requests is a prefix of what the job asks for
abbrev pub AsksPrefix : Option Job → Change Requests → Type 0
AsksPrefix job asked =
    (more : Requests) × IsPrefix more (requests_of job) × (asked.after ≡ asked.before ++ more)

-- what joined the list of requests is all that the job asks for
abbrev pub AsksAll : Option Job → Change Requests → Type 0
AsksAll job asked = asked.after ≡ asked.before ++ requests_of job

-- One file is asked for, of at most so many bytes, and perhaps not where memory ran out; no file and a fault of the
-- shelf come where their counts rose.
pub record AsksOnce {T : Type 0} (name : List ℕ) (most : ℕ) (shelf : ShelfChange) (result : Result T Reply) : Type 0
  where
    pub asked : IsErrOf result Memory ⊎ (shelf.asked.after ≡ shelf.asked.before ++ (name, most) ∷ [])
    pub asked_prefix : (shelf.asked.after ≡ shelf.asked.before ++ (name, most) ∷ [])
        ⊎ (shelf.asked.after ≡ shelf.asked.before)
    pub absent : IsErrOf result NoFile → Rises shelf.absences
    pub failed : IsErrOf result FileFault → Rises shelf.faults

-- The answer to a job.

-- What the answer to a job comes to, before its line is told. It is allowed for the job, after the output that it has
-- written, or a write of what is due failed; and each fault comes where its count rose.
pub record Replies (job : Option Job) (shelf : ShelfChange) (input : SourceChange) (output : SinkChange)
    (result : Result Reply Failed) : Type 0 where
  pub allowed : IfOk result (Answers (Allows shelf.files input.left.before input.left.after job)
      output.taken.before output.taken.after)
  pub broke_off : OnErr result (CutsShort (IsCut shelf.files input.left output.taken job)
      output.taken.before output.taken.after)
  pub asked : MatchResult result (λ reply. (reply ≡ Memory) ⊎ AsksAll job shelf.asked) (λ _. AsksAll job shelf.asked)
  pub asked_prefix : AsksPrefix job shelf.asked
  pub absent : IfOk result (λ reply. reply ≡ NoFile → Rises shelf.absences)
  pub failed : IfOk result (λ reply. reply ≡ FileFault → Rises shelf.faults)
  pub read_failed : IfOk result (λ reply. reply ≡ InputFault → Rises input.faults)
  pub output_faults : output.faults.before ≤ output.faults.after
  pub write_failed : OnErr result (Rises output.faults)

-- The whole call.

-- the answer is allowed for the job of the call, and what the job has put out by then was appended to the output
abbrev pub GivesReply : Call → Reply → Type 0
GivesReply call =
    Answers (Allows call.shelf.files call.input.left.before call.input.left.after call.job)
    call.output.taken.before call.output.taken.after

-- the answer's cause in this call, where it is a fault of what lies outside: the shelf found no file, or failed, or a
-- read of the input failed
pub record IsCaused (call : Call) (reply : Reply) : Type 0 where
  pub no_file : reply ≡ NoFile → Rises call.shelf.absences
  pub file_fault : reply ≡ FileFault → Rises call.shelf.faults
  pub input_fault : reply ≡ InputFault → Rises call.input.faults

-- a write to the output failed: a part of what is due was written, and nothing on the error stream
pub record BreaksOff (call : Call) (due : List ℕ) : Type 0 where
  pub status_is : call.status ≡ exit.write_fault
  pub out : AppendsPart call.output due
  pub err : call.errors.taken.after ≡ call.errors.taken.before
  pub failed : Rises call.output.faults

-- What a call comes to. An answer that is allowed for the job was told, after all that is due, and has its cause in
-- this call; or its line found no memory, and that was told in its place; or a write of what is due failed, a part of
-- it is there, and no more of the input was taken than by the step whose write failed.
pub data IsAnswered (call : Call) : Type 0 where
  answered : (reply : Reply)
      → GivesReply call reply
      → IsCaused call reply
      → TellsReply reply call.status call.errors
      → IsAnswered call
  found_no_memory : (reply : Reply)
      → GivesReply call reply
      → reply ≢ Done
      → TellsReply Memory call.status call.errors
      → IsAnswered call
  broke_off : (due : List ℕ)
      → IsCut call.shelf.files call.input.left call.output.taken call.job due
      → BreaksOff call due
      → IsAnswered call

-- Runs.

-- The file of the words was run: its output was appended, the line tells how it finished, and the input has lost what
-- it took.
pub record HasRunFile (call : Call) : Type 0 where
  pub job : Job
  pub name : List ℕ
  pub file : List ℕ
  pub reply : Reply
  pub output : List ℕ
  pub named : call.job ≡ Some job
  pub is_name : file_in job ≡ Some name
  pub has : ShelfHas call.shelf.files name file
  pub ran : Runs job file call.input.left.before call.input.left.after reply output
  pub status_is : call.status ≡ status_of reply
  pub appended : Appends call.output output
  pub line : Appends call.errors (line_of reply)

-- the run that the job asks for on the file and the input ends with the given end, after the steps that are asked for;
-- where it is watched, nothing refuses the program, and all of these steps are clean
pub data EndsSo (file input : List ℕ) : Job → End → Type 0 where
  file_ends : {name : List ℕ} {steps : ℕ} {cpu : Cpu} {image : Image}
      → IsImageOf file image
      → EndsSo file input (Execute name steps cpu) (ending_after (machine_of cpu image) steps input)
  watched_ends : {name : List ℕ} {steps : ℕ} {cpu : Cpu} {end : End}
      → OfImages file (EndsClean cpu steps input end)
      → EndsSo file input (ExecuteWatched name steps cpu) end
  text_ends : {name : List ℕ} {steps fill : ℕ} {tree : Tree}
      → (stands : StandsFor file tree)
      → length file ≤ greatest_text
      → EndsSo file input (ExecuteText name steps fill)
      (ending_after (text_of tree stands.allowed.start fill) steps input)

-- The file of the words was run on the input, watched, with the program that the analyses find in it: the machine's run
-- has put out what was appended, left the input and ended as the status and the line tell, and all the steps that were
-- asked for are clean.
pub record HasCleanRun (call : Call) (name : List ℕ) (steps : ℕ) (cpu : Cpu) (input : List ℕ) : Type 0 where
  pub file : List ℕ
  pub image : Image
  pub output : List ℕ
  pub end : End
  pub has : ShelfHas call.shelf.files name file
  pub is_image : IsImageOf file image
  pub sound : IsSound cpu image
  pub program : Program
  pub is_program : IsProgramOf cpu image program
  pub ran : HasRunClean cpu image steps call.input.left.after output end input
  pub status_is : call.status ≡ exit.end_status end
  pub appended : Appends call.output output
  pub line : Appends call.errors (line_of (end_reply steps end))

-- The file of the words was run on the input, watched, up to a foul step, which is the next one, and whose place, kind
-- and first byte the line tells: what the steps before it put out was appended, and they are clean.
pub record HasFoulStep (call : Call) (name : List ℕ) (steps : ℕ) (cpu : Cpu) (input : List ℕ) : Type 0 where
  pub file : List ℕ
  pub image : Image
  pub output : List ℕ
  pub foul : FoulStep
  pub has : ShelfHas call.shelf.files name file
  pub is_image : IsImageOf file image
  pub sound : IsSound cpu image
  pub stops : StopsAtFoul cpu image steps call.input.left.after output foul input
  pub status_is : call.status ≡ exit.foul
  pub appended : Appends call.output output
  pub line : Appends call.errors (line_of (foul_reply foul))

-- Files that are not to be had.

-- the shelf tells that it has this file under the name of the words
pub record Names (call : Call) (file : List ℕ) : Type 0 where
  pub name : List ℕ
  pub files : List ℕ → Option (List ℕ)
  pub named : file_of call.job ≡ Some name
  pub tells : call.shelf.files ≡ Some files
  pub has : files name ≡ Some file

-- the shelf tells that it has no file under the name of the words
pub record IsMissing (call : Call) : Type 0 where
  pub name : List ℕ
  pub files : List ℕ → Option (List ℕ)
  pub named : file_of call.job ≡ Some name
  pub tells : call.shelf.files ≡ Some files
  pub lacks : files name ≡ None

-- the shelf found no file of the name in the words: it has none, and its absences rose
pub record IsAbsent (call : Call) : Type 0 where
  pub name : List ℕ
  pub named : file_of call.job ≡ Some name
  pub lacks : ShelfLacks call.shelf.files name
  pub rose : Rises call.shelf.absences

-- the shelf could not give the file of the words, and its faults rose
pub record IsUnreadable (call : Call) : Type 0 where
  pub name : List ℕ
  pub named : file_of call.job ≡ Some name
  pub rose : Rises call.shelf.faults

-- Refusals.

-- the file that the words name fails a check, and the line tells the first one with its place
pub record HasFormatFault (call : Call) : Type 0 where
  pub name : List ℕ
  pub file : List ℕ
  pub fault : MzFault
  pub named : file_of call.job ≡ Some name
  pub has : ShelfHas call.shelf.files name file
  pub first : IsFormatRefusal file fault
  pub line : Appends call.errors (line_of (Format fault))

-- The program that the words name is refused on their processor, where its text, its procedures, its listing or its
-- watched run are asked for, and the line tells why: a construct stands at the offset, the count passes its number, or the text of the
-- procedure with the offset as its entry lacks the shape that the procedure asks for.
pub record HasRefusal (call : Call) : Type 0 where
  pub product : Product
  pub name : List ℕ
  pub cpu : Cpu
  pub file : List ℕ
  pub reason : NoText
  pub job : Job
  pub named : call.job ≡ Some job
  pub analyses : Analyses name cpu product job
  pub has : ShelfHas call.shelf.files name file
  pub refused : IsRefusedAs product cpu reason file
  pub status_is : call.status ≡ status_of (reason_reply reason)
  pub line : Appends call.errors (line_of (reason_reply reason))

-- There is no trial, and the line tells why: the image of the program of the seed and the size has no text, or the
-- machine's run of it comes to what is no instruction.
pub record IsUntried (call : Call) : Type 0 where
  pub seed : ℕ
  pub size : ℕ
  pub steps : ℕ
  pub reason : NoTrial
  pub named : call.job ≡ Some (Try seed size steps)
  pub without : IsWithout seed size steps reason
  pub status_is : call.status ≡ status_of (no_trial_reply reason)
  pub line : Appends call.errors (line_of (no_trial_reply reason))

-- nothing keeps the program of the seed and the size from its trial: nothing refuses its image, and the machine's run of
-- so many steps doesn't come to what is no instruction
pub record IsTryable (seed size steps : ℕ) : Type 0 where
  pub accepted : (image : Image) → HasImage seed size image → IsAcceptedProgram I8086 image
  pub inside : (image : Image) (at : ℕ) → HasImage seed size image
      → end_after (machine_system I8086) steps (start_state image []) ≢ Outside at

-- the text that the words name is refused, and the line tells what offends in it first, with its line
pub record HasTextFault (call : Call) : Type 0 where
  pub name : List ℕ
  pub steps : ℕ
  pub fill : ℕ
  pub text : List ℕ
  pub line : ℕ
  pub kind : ParseKind
  pub named : call.job ≡ Some (ExecuteText name steps fill)
  pub has : ShelfHas call.shelf.files name text
  pub refused : IsTextRefusal text line kind
  pub line_is : Appends call.errors (line_of (TextFault line kind))

-- no tree stands for the text, or it is too long
abbrev pub IsNoText : List ℕ → Type 0
IsNoText text = ((tree : Tree) → ¬ StandsFor text tree) ⊎ (greatest_text < length text)

-- the listing that the words name is refused, and the line tells which of its lines offends first, and how
pub record HasListingFault (call : Call) : Type 0 where
  pub name : List ℕ
  pub text : List ℕ
  pub line : ℕ
  pub kind : ListKind
  pub named : call.job ≡ Some (Assemble name)
  pub has : ShelfHas call.shelf.files name text
  pub first : IsFirstFault text line kind
  pub line_is : Appends call.errors (line_of (ListingFault line kind))

-- the text stands for no bytes, or it or they pass a limit
abbrev pub IsNoListing : List ℕ → Type 0
IsNoListing text = (bytes : List ℕ) → ¬ IsAssembled text bytes

-- Want of memory, and writes that failed.

-- what is written where memory ran out: the output of the job, as far as it came and never a whole text, and the line
-- that says so
pub record IsOutOfMemory (call : Call) : Type 0 where
  pub reply : Reply
  pub gives : GivesReply call reply
  pub not_done : reply ≢ Done
  pub line : Appends call.errors (line_of Memory)

-- A write to the error stream failed: all that is due on the output is there, the input has lost what the run took, and
-- a part of the line of an answer that is allowed is there; want of memory may be told in the place of any.
pub record IsCutInLine (call : Call) : Type 0 where
  pub reply : Reply
  pub gives : GivesReply call reply
  pub err : (AppendsPart call.errors (line_of reply) × IsCaused call reply) ⊎ AppendsPart call.errors (line_of Memory)
  pub failed : Rises call.errors.faults

-- what is written and was taken where a write failed: a part of what is due, and nothing on the error stream; or a part
-- of the line
abbrev pub IsCutOff : Call → Type 0
IsCutOff call =
    ((due : List ℕ) × IsCut call.shelf.files call.input.left call.output.taken call.job due × BreaksOff call due)
    ⊎ IsCutInLine call
