-- What the program promises of each call: the text of `c`, the lists of `procs` and `list`, the bytes of `asm`, the lines
-- of `trial`, runs, watched runs, refusals, faults, and what is asked and told.
use Rattle.std.specs.Prelude.{◌≡◌, ◌≢◌, ◌⊎◌, ℕ, List, [], ◌∷◌, Some, None}
use Rattle.dcc_run.specs.End.{End}
use Rattle.dcc_machine.specs.declared.cpu.Cpu.{Cpu}
use Rattle.dcc_machine.specs.MzImage.{FormatFault, IsFirstFault}
use Rattle.dcc_prog.specs.Refused.{IsSound, IsUnsound}
use Rattle.dcc_machine_demand.specs.Refused.{IsAcceptedProgram, IsRefusedImage}
use Rattle.dcc_asm.specs.Fault.{IsAssembled}
use Rattle.dcc_top.specs.declared.reply.Reply.TheVariants.{Memory}
use Rattle.dcc_top.specs.WatchedRun.{MeetsFoul}
use Rattle.dcc_commands.specs.declared.job.Product.TheVariants.{Text, Procedures, Listing}
use Rattle.dcc_commands.specs.Words.{Job, Make, ExecuteWatched, ExecuteText, Assemble, Try}
use Rattle.dcc_top.specs.Jobs.{IsExecution, LoadsImage}
use Rattle.dcc_top.specs.Answer.{OfImages, line_of}
use Rattle.dcc_top.specs.Call.{Call, Rises, AppendsPart}
use Rattle.dcc_top.specs.Headline.{HasText, HasProcedures, HasListing, HasAssembled, HasTrial}
use Rattle.dcc_top.specs.Causes.{IsAnswered, HasRunFile, EndsSo, HasCleanRun, HasFoulStep}
use Rattle.dcc_top.specs.Causes.{Names, IsMissing, IsAbsent, IsUnreadable}
use Rattle.dcc_top.specs.Causes.{HasFormatFault, HasRefusal, HasTextFault, IsNoText, IsOutOfMemory, IsCutOff}
use Rattle.dcc_top.specs.Causes.{HasListingFault, IsNoListing, IsUntried, IsTryable}
use Rattle.dcc_top.specs.Causes.{AsksPrefix, AsksAll}
use Rattle.dcc_top.specs.Status.{IsOneOf, end_status}
use Rattle.dcc_top.specs.Status as exit

-- `c` writes a text that does what the executable does on the processor of the words, and writes it wherever nothing in
-- the program is refused and the text has its shape.
pub record KeepsText (call : Call) : Type 0 where
  pub text : (name : List ℕ) (cpu : Cpu)
      → call.job ≡ Some (Make Text name cpu)
      → call.status ≡ exit.done
      → HasText cpu call.shelf.files name call.output.taken.before call.output.taken.after
  pub text_always : (name file : List ℕ) (cpu : Cpu)
      → call.job ≡ Some (Make Text name cpu)
      → Names call file
      → OfImages file (IsAcceptedProgram cpu)
      → IsOneOf call.status (exit.done ∷ (exit.not_yet ∷ exit.faults))

-- `procs` lists the procedures of the executable on the processor of the words, and lists them wherever no construct
-- stands in the program and no count is too great.
pub record KeepsProcedures (call : Call) : Type 0 where
  pub procedures : (name : List ℕ) (cpu : Cpu)
      → call.job ≡ Some (Make Procedures name cpu)
      → call.status ≡ exit.done
      → HasProcedures cpu call.shelf.files name call.output.taken.before call.output.taken.after
  pub procedures_always : (name file : List ℕ) (cpu : Cpu)
      → call.job ≡ Some (Make Procedures name cpu)
      → Names call file
      → OfImages file (IsSound cpu)
      → IsOneOf call.status (exit.done ∷ exit.faults)

-- `list` lists the image of the executable in assembler's words for the processor of the words, wherever no construct
-- stands in the program and no count is too great.
pub record KeepsListing (call : Call) : Type 0 where
  pub listing : (name : List ℕ) (cpu : Cpu)
      → call.job ≡ Some (Make Listing name cpu)
      → call.status ≡ exit.done
      → HasListing cpu call.shelf.files name call.output.taken.before call.output.taken.after
  pub listing_always : (name file : List ℕ) (cpu : Cpu)
      → call.job ≡ Some (Make Listing name cpu)
      → Names call file
      → OfImages file (IsSound cpu)
      → IsOneOf call.status (exit.done ∷ exit.faults)

-- `asm` writes the bytes for which the listing stands, wherever there are some and neither it nor they pass a limit.
pub record KeepsAssembly (call : Call) : Type 0 where
  pub assembled : (name : List ℕ)
      → call.job ≡ Some (Assemble name)
      → call.status ≡ exit.done
      → HasAssembled call.shelf.files name call.output.taken.before call.output.taken.after
  pub assembled_always : (name text bytes : List ℕ)
      → call.job ≡ Some (Assemble name)
      → Names call text
      → IsAssembled text bytes
      → IsOneOf call.status (exit.done ∷ exit.faults)

-- `trial` tells of the program of its seed and its size, of its text, and of the runs of both, wherever nothing keeps
-- the program from its trial and the text has its shape. It asks nothing of the shelf, which has no part in its faults.
pub record KeepsTrial (call : Call) : Type 0 where
  pub trial : (seed size steps : ℕ)
      → call.job ≡ Some (Try seed size steps)
      → call.status ≡ exit.done
      → HasTrial seed size steps call.output.taken.before call.output.taken.after
  pub trial_always : (seed size steps : ℕ)
      → call.job ≡ Some (Try seed size steps)
      → IsTryable seed size steps
      → IsOneOf call.status (exit.done ∷ (exit.not_yet ∷ (exit.write_fault ∷ (exit.no_memory ∷ []))))

-- What `run`, `watch` and `runc` put out and take, and how the run has ended, are those of the file.
pub record KeepsRuns (call : Call) : Type 0 where
  pub exited : IsExecution call.job → call.status ≡ exit.done → HasRunFile call
  pub ran : IsOneOf call.status exit.stops → HasRunFile call ⊎ IsUntried call
  pub ran_always : (job : Job) (file bytes : List ℕ) (end : End)
      → call.job ≡ Some job
      → Names call file
      → call.input.left.before ≡ Some bytes
      → EndsSo file bytes job end
      → IsOneOf call.status (end_status end ∷ exit.run_faults)
  pub read_failed : call.status ≡ exit.input_fault → Rises call.input.faults

-- A run that `watch` says has ended, or goes on, is clean; and where it says that the next of the asked steps is foul,
-- that one is, and the steps before are clean. A foul step is told wherever the run of a program meets one that nothing
-- refuses which the analyses tell.
pub record KeepsWatch (call : Call) : Type 0 where
  pub clean : (name bytes : List ℕ) (steps : ℕ) (cpu : Cpu)
      → call.job ≡ Some (ExecuteWatched name steps cpu)
      → call.input.left.before ≡ Some bytes
      → IsOneOf call.status exit.ends
      → HasCleanRun call name steps cpu bytes
  pub foul : (name bytes : List ℕ) (steps : ℕ) (cpu : Cpu)
      → call.job ≡ Some (ExecuteWatched name steps cpu)
      → call.input.left.before ≡ Some bytes
      → call.status ≡ exit.foul
      → HasFoulStep call name steps cpu bytes
  pub foul_always : (name file bytes : List ℕ) (steps : ℕ) (cpu : Cpu)
      → call.job ≡ Some (ExecuteWatched name steps cpu)
      → Names call file
      → call.input.left.before ≡ Some bytes
      → OfImages file (MeetsFoul cpu steps bytes)
      → IsOneOf call.status (exit.foul ∷ exit.run_faults)

-- Words, files, programs, texts and listings are refused for what is told of them, and wherever there is that to tell; then
-- nothing is put out.
pub record KeepsRefusals (call : Call) : Type 0 where
  -- the words are no command
  pub usage : call.status ≡ exit.usage → call.job ≡ None
  pub usage_always : call.job ≡ None → IsOneOf call.status (exit.usage ∷ (exit.write_fault ∷ (exit.no_memory ∷ [])))
  -- the file has no image
  pub format : call.status ≡ exit.format → HasFormatFault call
  pub format_always : (file : List ℕ) (fault : FormatFault)
      → LoadsImage call.job
      → Names call file
      → IsFirstFault file fault
      → IsOneOf call.status (exit.format ∷ exit.faults)
  -- the program is refused, for a construct, for a count, or for the shape that its text lacks
  pub refused : IsOneOf call.status exit.refusals → HasRefusal call ⊎ IsUntried call
  pub refused_always : (name file : List ℕ) (cpu : Cpu)
      → call.job ≡ Some (Make Text name cpu)
      → Names call file
      → OfImages file (IsRefusedImage cpu)
      → IsOneOf call.status (exit.construct ∷ (exit.limit ∷ exit.faults))
  -- `procs` is refused wherever a construct stands that the analyses tell or a count is too great, and for nothing else
  pub procedures_refused_always : (name file : List ℕ) (cpu : Cpu)
      → call.job ≡ Some (Make Procedures name cpu)
      → Names call file
      → OfImages file (IsUnsound cpu)
      → IsOneOf call.status (exit.construct ∷ (exit.limit ∷ exit.faults))
  -- `list` is refused wherever a construct stands that the analyses tell or a count is too great, and for nothing else
  pub listing_refused_always : (name file : List ℕ) (cpu : Cpu)
      → call.job ≡ Some (Make Listing name cpu)
      → Names call file
      → OfImages file (IsUnsound cpu)
      → IsOneOf call.status (exit.construct ∷ (exit.limit ∷ exit.faults))
  -- `watch` is refused wherever a construct stands that the analyses tell or a count is too great, and for nothing
  -- else
  pub watch_refused_always : (name file : List ℕ) (steps : ℕ) (cpu : Cpu)
      → call.job ≡ Some (ExecuteWatched name steps cpu)
      → Names call file
      → OfImages file (IsUnsound cpu)
      → IsOneOf call.status (exit.construct ∷ (exit.limit ∷ exit.faults))
  -- the text is refused: no tree stands for it, or it is too long
  pub text_fault : call.status ≡ exit.text_fault → HasTextFault call
  pub text_fault_always : (name file : List ℕ) (steps fill : ℕ)
      → call.job ≡ Some (ExecuteText name steps fill)
      → Names call file
      → IsNoText file
      → IsOneOf call.status (exit.text_fault ∷ exit.faults)
  -- the listing is refused: it stands for no bytes, or a limit is passed
  pub listing_fault : call.status ≡ exit.listing_fault → HasListingFault call
  pub listing_fault_always : (name text : List ℕ)
      → call.job ≡ Some (Assemble name)
      → Names call text
      → IsNoListing text
      → IsOneOf call.status (exit.listing_fault ∷ exit.faults)
  -- a refusal puts nothing out
  pub nothing : IsOneOf call.status exit.without_output → call.output.taken.after ≡ call.output.taken.before

-- A fault of what lies outside comes where it happened in this call; and what is written then.
pub record KeepsFaults (call : Call) : Type 0 where
  -- there is no file of the name, or it could not be read
  pub absent : call.status ≡ exit.no_file → IsAbsent call
  pub absent_always : IsMissing call → IsOneOf call.status (exit.no_file ∷ exit.faults)
  pub unreadable : call.status ≡ exit.file_fault → IsUnreadable call
  -- a write failed: a part of an answer is written, and of the input no more is taken than for that part
  pub write_failed : call.status ≡ exit.write_fault → Rises call.output.faults ⊎ Rises call.errors.faults
  pub cut_off : call.status ≡ exit.write_fault → IsCutOff call
  -- memory ran out: what a run had put out by then is written
  pub out_of_memory : call.status ≡ exit.no_memory → IsOutOfMemory call

-- An answer that is allowed for the words is written, as far as the streams take it. Of the shelf is asked at most what
-- the job asks for, and all of it but where memory ran out.
pub record KeepsAnswer (call : Call) : Type 0 where
  pub answered : IsAnswered call
  pub asked_prefix : AsksPrefix call.job call.shelf.asked
  pub asked : call.status ≢ exit.write_fault → call.status ≢ exit.no_memory → AsksAll call.job call.shelf.asked
  pub asked_cut_off : call.status ≡ exit.write_fault
      → AsksAll call.job call.shelf.asked ⊎ AppendsPart call.errors (line_of Memory)

-- what the program promises of a call
pub record KeepsPromises (call : Call) : Type 0 where
  pub text : KeepsText call
  pub procedures : KeepsProcedures call
  pub listing : KeepsListing call
  pub assembly : KeepsAssembly call
  pub trial : KeepsTrial call
  pub runs : KeepsRuns call
  pub watch : KeepsWatch call
  pub refusals : KeepsRefusals call
  pub faults : KeepsFaults call
  pub answer : KeepsAnswer call
