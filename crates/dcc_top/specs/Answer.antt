-- The program's answers: the status, the line on the error stream, and which answers are allowed for a job.
use Rattle.std.specs.Prelude.{◌≡◌, ◌≤◌, ℕ, List, [], ◌++◌, length, codes}
use Rattle.std.specs.Prelude.{Option, Some, None}
use Rattle.std.specs.Fmt.{decimal}
use Rattle.dcc_mz.specs.Fault.{number_of, place_of, IsRefusal as IsFormatRefusal}
use Rattle.dcc_mz.specs.declared.fault.MzFault.{MzFault}
use Rattle.dcc_mz.specs.declared.fault.MzFault.TheVariants.{Memory as NoMemory}
use Rattle.dcc_io.specs.declared.outside.ShelfFault.{ShelfFault}
use Rattle.dcc_io.specs.declared.outside.ShelfFault.TheVariants.{Absent, Failed as ShelfFailed, Memory as ShelfMemory}
use Rattle.dcc_io.specs.Told.{WhenTold}
use Rattle.dcc_machine.specs.declared.cpu.Cpu.{Cpu}
use Rattle.dcc_prog.specs.declared.watch.FoulKind.{FoulKind}
use Rattle.dcc_prog.specs.declared.watch.FoulKind.TheVariants.{Low, Hidden, Unwritten}
use Rattle.dcc_prog.specs.declared.frame.Program.{Program}
use Rattle.dcc_machine.specs.declared.image.Image.{Image}
use Rattle.dcc_prog.specs.declared.refusal.LimitName.{LimitName}
use Rattle.dcc_prog.specs.declared.refusal.LimitName.TheVariants.{Procedures as ProcedureCount, Instructions, Total}
use Rattle.dcc_prog.specs.declared.refusal.LimitName.TheVariants.{Cells, Entries, Arguments}
use Rattle.dcc_prog.specs.declared.refusal.Refusal.{Refusal}
use Rattle.dcc_prog.specs.declared.refusal.Refusal.TheVariants.{Construct as ConstructRefused, Limit as LimitRefused}
use Rattle.dcc_prog.specs.declared.refusal.Refusal.TheVariants.{Memory as MemoryRefused}
use Rattle.dcc_prog.specs.Analysed.{IsProgramOf}
use Rattle.dcc_prog.specs.Construct.{construct_number}
use Rattle.dcc_machine.specs.MzImage.{IsImageOf}
use Rattle.dcc_prog.specs.Refused.{IsRefusedByAnalysis, IsSound}
use Rattle.dcc_c.specs.Text.{StandsFor}
use Rattle.dcc_c.specs.Tree.{Tree}
use Rattle.dcc_reader.specs.declared.offence.ParseKind.{ParseKind}
use Rattle.dcc_reader.specs.KindWords.{kind_word}
use Rattle.dcc_parse.specs.declared.fault.ParseFault.{ParseFault}
use Rattle.dcc_parse.specs.declared.fault.ParseFault.TheVariants.{At, Memory as ParseMemory}
use Rattle.dcc_parse.specs.Fault.{IsRefusal as IsTextRefusal}
use Rattle.dcc_pipe.specs.Decompiled.{IsTextOfImage}
use Rattle.dcc_pipe.specs.Shaped.{HasNoTextFor}
use Rattle.dcc_pipe.specs.declared.no_text.NoText.{NoText}
use Rattle.dcc_pipe.specs.declared.no_text.NoText.TheVariants.{Refused, NotYet as NotYetFor}
use Rattle.dcc_list.specs.Listed.{IsListing}
use Rattle.dcc_asm.specs.declared.fault.ListFault.{ListFault}
use Rattle.dcc_asm.specs.declared.fault.ListFault.TheVariants.{At as ListedAt, Memory as ListMemory}
use Rattle.dcc_asm.specs.declared.fault.ListKind.{ListKind}
use Rattle.dcc_asm.specs.declared.fault.ListKind.TheVariants.{Length, Head, Word, Range, Odd, Place}
use Rattle.dcc_asm.specs.Fault.{IsAssembled, IsFirstFault}
use Rattle.dcc_trial.specs.declared.found.Trial.{Trial}
use Rattle.dcc_trial.specs.declared.found.NoTrial.{NoTrial}
use Rattle.dcc_trial.specs.declared.found.NoTrial.TheVariants.{Format as NoFormat, Refused as Untextable}
use Rattle.dcc_trial.specs.declared.found.NoTrial.TheVariants.{Outside as RanOutside, Memory as TrialMemory}
use Rattle.dcc_trial.specs.Lines.{AreLinesOf}
use Rattle.dcc_trial.specs.Trial.{IsTrial, IsWithout}
use Rattle.dcc_commands.specs.declared.job.Product.{Product}
use Rattle.dcc_commands.specs.declared.job.Product.TheVariants.{Text, Procedures, Listing}
use Rattle.dcc_commands.specs.Words.{Job, Make, Execute, ExecuteWatched, ExecuteText, Assemble, Try, IsSize}
use Rattle.dcc_top.specs.declared.reply.Reply.{Reply}
use Rattle.dcc_top.specs.declared.reply.Reply.TheVariants.{Done, Exited, Usage, NoFile, FileFault, InputFault, Memory}
use Rattle.dcc_top.specs.declared.reply.Reply.TheVariants.{Format, Construct, Limit, NotYet, TextFault, ListingFault}
use Rattle.dcc_top.specs.declared.reply.Reply.TheVariants.{Unfinished, Divided, Outside, Foul, Stuck}
use Rattle.dcc_top.specs.Change.{Change}
use Rattle.dcc_top.specs.Execution.{machine_of, text_of, Finishes, FinishesOrStops, IsCutRun}
use Rattle.dcc_top.specs.Procedures.{AreProcedureLinesOf}
use Rattle.dcc_top.specs.Offset.{hex_offset}
use Rattle.dcc_top.specs.Status as exit
use Rattle.dcc_top.specs.WatchedRun.{watch_of, FinishesWatched}
use Rattle.dcc_top.specs.Jobs.{greatest_text}

-- the name of a count, as it is told
abbrev pub limit_word : LimitName → List ℕ
limit_word ProcedureCount = codes "procedures"
limit_word Instructions = codes "instructions"
limit_word Total = codes "total"
limit_word Cells = codes "cells"
limit_word Entries = codes "entries"
limit_word Arguments = codes "arguments"

-- the word for the way in which a step is foul
abbrev pub foul_word : FoulKind → List ℕ
foul_word Low = codes "low"
foul_word Hidden = codes "hidden"
foul_word Unwritten = codes "unwritten"

-- the word for the way in which a line of a listing offends
abbrev pub listing_word : ListKind → List ℕ
listing_word Length = codes "length"
listing_word Head = codes "head"
listing_word Word = codes "word"
listing_word Range = codes "range"
listing_word Odd = codes "odd"
listing_word Place = codes "place"

-- the exit status
abbrev pub status_of : Reply → ℕ
status_of Done = exit.done
status_of (Exited code) = exit.done
status_of Usage = exit.usage
status_of NoFile = exit.no_file
status_of FileFault = exit.file_fault
status_of InputFault = exit.input_fault
status_of Memory = exit.no_memory
status_of (Format fault) = exit.format
status_of (Construct kind at) = exit.construct
status_of (Limit what count) = exit.limit
status_of (NotYet at) = exit.not_yet
status_of (TextFault line kind) = exit.text_fault
status_of (ListingFault line kind) = exit.listing_fault
status_of (Unfinished steps) = exit.unfinished
status_of Divided = exit.divided
status_of (Outside at) = exit.outside
status_of (Foul at address kind) = exit.foul
status_of (Stuck line) = exit.stuck

-- the line on the error stream; none where what is made is written
abbrev pub line_of : Reply → List ℕ
line_of Done = []
line_of (Exited code) = codes "exit " ++ (decimal code ++ codes "\n")
line_of Usage = codes "dcc: usage\n"
line_of NoFile = codes "dcc: no file\n"
line_of FileFault = codes "dcc: file fault\n"
line_of InputFault = codes "dcc: input fault\n"
line_of Memory = codes "dcc: memory\n"
line_of (Format fault) =
    codes "dcc: format " ++ (decimal (number_of fault) ++ (codes " at " ++ (decimal (place_of fault) ++ codes "\n")))
line_of (Construct kind at) =
    codes "dcc: construct " ++ (decimal (construct_number kind) ++ (codes " at " ++ (hex_offset at ++ codes "\n")))
line_of (Limit what count) =
    codes "dcc: limit " ++ (limit_word what ++ (codes " " ++ (decimal count ++ codes "\n")))
line_of (NotYet at) = codes "dcc: not yet at " ++ (hex_offset at ++ codes "\n")
line_of (TextFault line kind) =
    codes "dcc: text " ++ (kind_word kind ++ (codes " at line " ++ (decimal line ++ codes "\n")))
line_of (ListingFault line kind) =
    codes "dcc: listing " ++ (listing_word kind ++ (codes " at line " ++ (decimal line ++ codes "\n")))
line_of (Unfinished steps) = codes "running after " ++ (decimal steps ++ codes " steps\n")
line_of Divided = codes "divide\n"
line_of (Outside at) = codes "outside at " ++ (hex_offset at ++ codes "\n")
line_of (Foul at address kind) =
    codes "foul at "
    ++ (hex_offset at ++ (codes ": " ++ (foul_word kind ++ (codes " " ++ (hex_offset address ++ codes "\n")))))
line_of (Stuck line) = codes "stuck at line " ++ (decimal line ++ codes "\n")

-- the answer where the shelf does not give a file
abbrev pub shelf_reply : ShelfFault → Reply
shelf_reply Absent = NoFile
shelf_reply ShelfFailed = FileFault
shelf_reply ShelfMemory = Memory

-- the answer where a file is not loaded
abbrev pub fault_reply : MzFault → Reply
fault_reply NoMemory = Memory
fault_reply fault = Format fault

-- the answer where a text is not read
abbrev pub parse_reply : ParseFault → Reply
parse_reply (At line kind) = TextFault line kind
parse_reply ParseMemory = Memory

-- the answer where a listing is not assembled
abbrev pub listing_reply : ListFault → Reply
listing_reply (ListedAt line kind) = ListingFault line kind
listing_reply ListMemory = Memory

-- the answer where a program is refused
abbrev pub refusal_reply : Refusal → Reply
refusal_reply (ConstructRefused kind at) = Construct kind at
refusal_reply (LimitRefused what count) = Limit what count
refusal_reply MemoryRefused = Memory

-- the answer where nothing is made of an image
abbrev pub reason_reply : NoText → Reply
reason_reply (Refused refusal) = refusal_reply refusal
reason_reply (NotYetFor at) = NotYet at

-- the answer where there is no trial
abbrev pub no_trial_reply : NoTrial → Reply
no_trial_reply (NoFormat fault) = fault_reply fault
no_trial_reply (Untextable reason) = reason_reply reason
no_trial_reply (RanOutside at) = Outside at
no_trial_reply TrialMemory = Memory

-- Files.

-- the bytes of the file of each name, where the shelf tells them
abbrev pub Files : Type 0
Files = Option (List ℕ → Option (List ℕ))

-- the shelf has these bytes under the name, where it tells its files
abbrev pub ShelfHas : Files → List ℕ → List ℕ → Type 0
ShelfHas told name file = WhenTold told (λ files. files name ≡ Some file)

-- the shelf has no file of the name, where it tells its files
abbrev pub ShelfLacks : Files → List ℕ → Type 0
ShelfLacks told name = WhenTold told (λ files. files name ≡ None)

-- some file that the shelf has under the name is as the fact says
pub record OfFile (told : Files) (name : List ℕ) (P : List ℕ → Type 0) : Type 0 where
  pub file : List ℕ
  pub has : ShelfHas told name file
  pub holds : P file

-- The answer says why no file of the name could be had.
pub data HasNoFile (told : Files) (name : List ℕ) : Reply → Type 0 where
  no_file : ShelfLacks told name → HasNoFile told name NoFile
  file_fault : HasNoFile told name FileFault
  no_memory : HasNoFile told name Memory

-- The answer says why there is no image of the file of this name: it could not be had, or it fails a check.
pub data HasNoImage (told : Files) (name : List ℕ) : Reply → Type 0 where
  no_executable : {reply : Reply} → HasNoFile told name reply → HasNoImage told name reply
  misshapen : {fault : MzFault}
      → OfFile told name (λ file. IsFormatRefusal file fault)
      → HasNoImage told name (Format fault)

-- The answer says why there is no unit of the file of this name: it could not be had, or it is refused as a text.
pub data HasNoUnit (told : Files) (name : List ℕ) : Reply → Type 0 where
  no_text : {reply : Reply} → HasNoFile told name reply → HasNoUnit told name reply
  offends : {line : ℕ} {kind : ParseKind}
      → OfFile told name (λ text. IsTextRefusal text line kind)
      → HasNoUnit told name (TextFault line kind)

-- The answer says why no bytes are assembled of the file of this name: it could not be had, or a line of it offends.
pub data IsUnassembled (told : Files) (name : List ℕ) : Reply → Type 0 where
  no_listing : {reply : Reply} → HasNoFile told name reply → IsUnassembled told name reply
  misspelled : {line : ℕ} {kind : ListKind}
      → OfFile told name (λ text. IsFirstFault text line kind)
      → IsUnassembled told name (ListingFault line kind)

-- What is made of an executable.

-- on this processor nothing that the analyses tell stands in the image, and the text is the listing, in assembler's
-- words, of the image and of what they find
pub record IsListingOf (cpu : Cpu) (image : Image) (text : List ℕ) : Type 0 where
  pub sound : IsSound cpu image
  pub program : Program
  pub is_program : IsProgramOf cpu image program
  pub listed : IsListing image program text

-- on this processor these bytes are what is asked for of the image: its text, the lines of its procedures, or its
-- listing in assembler's words
abbrev pub IsMadeOf : Product → Cpu → Image → List ℕ → Type 0
IsMadeOf Text cpu image made = IsTextOfImage cpu image made
IsMadeOf Procedures cpu image made = AreProcedureLinesOf cpu image made
IsMadeOf Listing cpu image made = IsListingOf cpu image made

-- on this processor the image is refused for this reason, where this product is asked for
abbrev pub Refuses : Product → Cpu → Image → NoText → Type 0
Refuses Text cpu image reason = HasNoTextFor cpu image reason
Refuses Procedures cpu image (Refused refusal) = IsRefusedByAnalysis cpu image refusal
Refuses Procedures cpu image (NotYetFor at) = ⊥
Refuses Listing cpu image (Refused refusal) = IsRefusedByAnalysis cpu image refusal
Refuses Listing cpu image (NotYetFor at) = ⊥

-- the answer is allowed for an image of which the product is asked for on this processor, after these bytes
pub data AllowsImage (product : Product) (cpu : Cpu) (image : Image) : Reply → List ℕ → Type 0 where
  image_made : {made : List ℕ} → IsMadeOf product cpu image made → AllowsImage product cpu image Done made
  image_refused : (reason : NoText)
      → Refuses product cpu image reason
      → AllowsImage product cpu image (reason_reply reason) []

-- on this processor these bytes are what is asked for of the file's image
pub record Makes (product : Product) (cpu : Cpu) (file made : List ℕ) : Type 0 where
  pub image : Image
  pub is_image : IsImageOf file image
  pub is_made : IsMadeOf product cpu image made

-- on this processor the file's image is refused for this reason, where this product is asked for
pub record IsRefusedAs (product : Product) (cpu : Cpu) (reason : NoText) (file : List ℕ) : Type 0 where
  pub image : Image
  pub is_image : IsImageOf file image
  pub refused : Refuses product cpu image reason

-- The file has an image, and each of its images is as the fact says; they differ only in where their bytes are kept.
pub record OfImages (file : List ℕ) (P : Image → Type 0) : Type 0 where
  pub image : Image
  pub is_image : IsImageOf file image
  pub each : (other : Image) → IsImageOf file other → P other

-- The answer says why the product isn't made of the file of this name on this processor: the program is refused, or
-- there is no image.
pub data IsUnmade (product : Product) (cpu : Cpu) (told : Files) (name : List ℕ) : Reply → Type 0 where
  refused : (reason : NoText)
      → OfFile told name (IsRefusedAs product cpu reason)
      → IsUnmade product cpu told name (reason_reply reason)
  no_image : {reply : Reply} → HasNoImage told name reply → IsUnmade product cpu told name reply

-- The answer is allowed for the file of this name, of which the product is asked for on this processor, after these
-- bytes.
pub data AllowsProduct (product : Product) (cpu : Cpu) (told : Files) (name : List ℕ) : Reply → List ℕ → Type 0 where
  made_of_file : {made : List ℕ}
      → OfFile told name (λ file. Makes product cpu file made)
      → AllowsProduct product cpu told name Done made
  unmade : {reply : Reply} → IsUnmade product cpu told name reply → AllowsProduct product cpu told name reply []

-- Runs.

-- the answer is one for a run of the file's image on this processor
pub record RunsFile (cpu : Cpu) (file : List ℕ) (steps : ℕ) (before left : Option (List ℕ)) (reply : Reply)
    (output : List ℕ) : Type 0 where
  pub image : Image
  pub is_image : IsImageOf file image
  pub finishes : Finishes (machine_of cpu image) steps before left reply output

-- the run of the file's image on this processor was cut off
pub record IsCutFile (cpu : Cpu) (file : List ℕ) (steps : ℕ) (input output : Change (Option (List ℕ)))
    (due : List ℕ) : Type 0 where
  pub image : Image
  pub is_image : IsImageOf file image
  pub cut : IsCutRun (machine_of cpu image) steps input output due

-- Watched runs, of programs that nothing refuses which the analyses tell.

-- the answer is one for a watched run of the image on this processor
pub record Watches (cpu : Cpu) (image : Image) (steps : ℕ) (before left : Option (List ℕ)) (reply : Reply)
    (output : List ℕ) : Type 0 where
  pub sound : IsSound cpu image
  pub program : Program
  pub is_program : IsProgramOf cpu image program
  pub finishes : FinishesWatched cpu image steps before left reply output

-- the answer is allowed for the image of which a watched run is asked for on this processor, after these bytes
pub data AllowsWatched (cpu : Cpu) (image : Image) (steps : ℕ) (before left : Option (List ℕ)) :
    Reply → List ℕ → Type 0 where
  image_watched : {reply : Reply} {output : List ℕ}
      → Watches cpu image steps before left reply output
      → AllowsWatched cpu image steps before left reply output
  image_unwatched : (refusal : Refusal)
      → IsRefusedByAnalysis cpu image refusal
      → left ≡ before
      → AllowsWatched cpu image steps before left (refusal_reply refusal) []

-- the image's watched run was cut off
pub record IsCutWatched (cpu : Cpu) (image : Image) (steps : ℕ) (input output : Change (Option (List ℕ)))
    (due : List ℕ) : Type 0 where
  pub sound : IsSound cpu image
  pub program : Program
  pub is_program : IsProgramOf cpu image program
  pub cut : IsCutRun (watch_of image program) steps input output due

-- the answer is one for a watched run of the file's image on this processor; `IsCutWatchedFile`: that run was cut off
pub record WatchesFile (cpu : Cpu) (file : List ℕ) (steps : ℕ) (before left : Option (List ℕ)) (reply : Reply)
    (output : List ℕ) : Type 0 where
  pub image : Image
  pub is_image : IsImageOf file image
  pub watches : Watches cpu image steps before left reply output

pub record IsCutWatchedFile (cpu : Cpu) (file : List ℕ) (steps : ℕ) (input output : Change (Option (List ℕ)))
    (due : List ℕ) : Type 0 where
  pub image : Image
  pub is_image : IsImageOf file image
  pub cut : IsCutWatched cpu image steps input output due

-- Texts.

-- the text stands for this tree alone, and is not too long
pub record IsReadAs (text : List ℕ) (tree : Tree) : Type 0 where
  pub stands : StandsFor text tree
  pub alone : (other : Tree) → StandsFor text other → other ≡ tree
  pub length : length text ≤ greatest_text

-- some text stands for the tree
pub record HasSomeText (tree : Tree) : Type 0 where
  pub text : List ℕ
  pub stands : StandsFor text tree

-- from the start of a text for this tree, the answer is one for its run
abbrev pub RunsUnit : Tree → ℕ → ℕ → Option (List ℕ) → Option (List ℕ) → Reply → List ℕ → Type 0
RunsUnit tree steps fill before left reply output =
    (text : List ℕ) (stands : StandsFor text tree)
    → FinishesOrStops (text_of tree stands.allowed.start fill) steps before left reply output

-- from the start of a text for this tree, its run was cut off
abbrev pub IsCutUnit : Tree → ℕ → ℕ → Change (Option (List ℕ)) → Change (Option (List ℕ)) → List ℕ → Type 0
IsCutUnit tree steps fill input output due =
    (text : List ℕ) (stands : StandsFor text tree)
    → IsCutRun (text_of tree stands.allowed.start fill) steps input output due

-- the answer is one for a run of the text
pub record RunsText (text : List ℕ) (steps fill : ℕ) (before left : Option (List ℕ)) (reply : Reply)
    (output : List ℕ) : Type 0 where
  pub tree : Tree
  pub is_read : IsReadAs text tree
  pub runs : RunsUnit tree steps fill before left reply output

-- the run of the text was cut off
pub record IsCutText (text : List ℕ) (steps fill : ℕ) (input output : Change (Option (List ℕ)))
    (due : List ℕ) : Type 0 where
  pub tree : Tree
  pub is_read : IsReadAs text tree
  pub cut : IsCutUnit tree steps fill input output due

-- the answer is one for the run that the job asks for, on the file with these bytes
abbrev pub Runs : Job → List ℕ → Option (List ℕ) → Option (List ℕ) → Reply → List ℕ → Type 0
Runs (Make product name cpu) file before left reply output = ⊥
Runs (Execute name steps cpu) file before left reply output = RunsFile cpu file steps before left reply output
Runs (ExecuteWatched name steps cpu) file before left reply output =
    WatchesFile cpu file steps before left reply output
Runs (ExecuteText name steps fill) file before left reply output = RunsText file steps fill before left reply output
Runs (Assemble name) file before left reply output = ⊥
Runs (Try seed size steps) file before left reply output = ⊥

-- Listings.

-- The answer is allowed for the file of this name, which is assembled, after these bytes.
pub data AllowsAssembly (told : Files) (name : List ℕ) : Reply → List ℕ → Type 0 where
  assembled : {bytes : List ℕ}
      → OfFile told name (λ text. IsAssembled text bytes)
      → AllowsAssembly told name Done bytes
  unassembled : {reply : Reply} → IsUnassembled told name reply → AllowsAssembly told name reply []

-- Trials.

-- the lines are those of a trial of the program of the seed and the size, for so many steps
pub record TellsTrial (seed size steps : ℕ) (lines : List ℕ) : Type 0 where
  pub trial : Trial
  pub is_trial : IsTrial seed size steps trial
  pub are_lines : AreLinesOf trial lines

-- the answer is allowed for the trial, after these bytes
pub data AllowsTrial (seed size steps : ℕ) : Reply → List ℕ → Type 0 where
  tried : {lines : List ℕ} → TellsTrial seed size steps lines → AllowsTrial seed size steps Done lines
  untried : (reason : NoTrial)
      → IsWithout seed size steps reason
      → AllowsTrial seed size steps (no_trial_reply reason) []

-- All jobs.

-- The answer is allowed for the job, which itself has written this output by then.
pub data Allows (told : Files) (before left : Option (List ℕ)) : Option Job → Reply → List ℕ → Type 0 where
  no_job : left ≡ before → Allows told before left None Usage []
  for_product : {product : Product} {name : List ℕ} {cpu : Cpu} {reply : Reply} {output : List ℕ}
      → AllowsProduct product cpu told name reply output
      → left ≡ before
      → Allows told before left (Some (Make product name cpu)) reply output
  ran_file : {name : List ℕ} {steps : ℕ} {cpu : Cpu} {reply : Reply} {output : List ℕ}
      → OfFile told name (λ file. RunsFile cpu file steps before left reply output)
      → Allows told before left (Some (Execute name steps cpu)) reply output
  ran_no_file : {name : List ℕ} {steps : ℕ} {cpu : Cpu} {reply : Reply}
      → HasNoImage told name reply
      → left ≡ before
      → Allows told before left (Some (Execute name steps cpu)) reply []
  watched_file : {name : List ℕ} {steps : ℕ} {cpu : Cpu} {reply : Reply} {output : List ℕ}
      → OfFile told name (λ file. WatchesFile cpu file steps before left reply output)
      → Allows told before left (Some (ExecuteWatched name steps cpu)) reply output
  watched_no_file : {name : List ℕ} {steps : ℕ} {cpu : Cpu} {reply : Reply}
      → IsUnmade Procedures cpu told name reply
      → left ≡ before
      → Allows told before left (Some (ExecuteWatched name steps cpu)) reply []
  ran_text : {name : List ℕ} {steps fill : ℕ} {reply : Reply} {output : List ℕ}
      → OfFile told name (λ text. RunsText text steps fill before left reply output)
      → Allows told before left (Some (ExecuteText name steps fill)) reply output
  ran_no_text : {name : List ℕ} {steps fill : ℕ} {reply : Reply}
      → HasNoUnit told name reply
      → left ≡ before
      → Allows told before left (Some (ExecuteText name steps fill)) reply []
  for_assembly : {name : List ℕ} {reply : Reply} {output : List ℕ}
      → AllowsAssembly told name reply output
      → left ≡ before
      → Allows told before left (Some (Assemble name)) reply output
  for_trial : {seed size steps : ℕ} {reply : Reply} {output : List ℕ}
      → IsSize size
      → AllowsTrial seed size steps reply output
      → left ≡ before
      → Allows told before left (Some (Try seed size steps)) reply output

-- The job was cut off by a failed write, where these bytes were due: what is made or assembled of the file or the lines
-- of a trial, and then nothing of the input was taken; or what a run puts out, and then no more was taken than the run
-- had come to.
pub data IsCut (told : Files) (input output : Change (Option (List ℕ))) : Option Job → List ℕ → Type 0 where
  cut_product : {product : Product} {name due : List ℕ} {cpu : Cpu}
      → input.after ≡ input.before
      → OfFile told name (λ file. Makes product cpu file due)
      → IsCut told input output (Some (Make product name cpu)) due
  cut_run : {name due : List ℕ} {steps : ℕ} {cpu : Cpu}
      → OfFile told name (λ file. IsCutFile cpu file steps input output due)
      → IsCut told input output (Some (Execute name steps cpu)) due
  cut_watched : {name due : List ℕ} {steps : ℕ} {cpu : Cpu}
      → OfFile told name (λ file. IsCutWatchedFile cpu file steps input output due)
      → IsCut told input output (Some (ExecuteWatched name steps cpu)) due
  cut_text_run : {name due : List ℕ} {steps fill : ℕ}
      → OfFile told name (λ text. IsCutText text steps fill input output due)
      → IsCut told input output (Some (ExecuteText name steps fill)) due
  cut_assembly : {name due : List ℕ}
      → input.after ≡ input.before
      → OfFile told name (λ text. IsAssembled text due)
      → IsCut told input output (Some (Assemble name)) due
  cut_trial : {due : List ℕ} {seed size steps : ℕ}
      → input.after ≡ input.before
      → TellsTrial seed size steps due
      → IsCut told input output (Some (Try seed size steps)) due
