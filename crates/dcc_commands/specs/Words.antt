-- The command line: which words name which job.
use Rattle.std.specs.Prelude.{◌≡◌, ◌↔◌, ◌≤◌, ℕ, Bool, true, ◌&&◌, not, nat_le, nat_lt, ◌==◌, if◌then◌else◌, List, []}
use Rattle.std.specs.Prelude.{◌∷◌, ◌++◌, length, map, codes, Option, Some, None, is_some, String, string_bytes}
use Rattle.std.specs.declared.alloc.Global.{Global}
use Rattle.std.specs.List.{list_all, position_or_len, before_first, after_first}
use Rattle.std.specs.Option.{option_map, option_and_then}
use Rattle.std.specs.Char.{is_ascii_digit}
use Rattle.std.specs.Str.{bytes_eq}
use Rattle.std.specs.Str.Parse.{digits_value}
use Rattle.dcc_machine.specs.declared.cpu.Cpu.{Cpu}
use Rattle.dcc_machine.specs.declared.cpu.Cpu.TheVariants.{I8086, I186}
use Rattle.dcc_commands.specs.declared.job.Product.{Product}
use Rattle.dcc_commands.specs.declared.job.Product.TheVariants.{Text, Procedures, Listing}
use Rattle.dcc_commands.specs.declared.words.Command.{Command}
use Rattle.dcc_commands.specs.declared.words.Command.TheVariants.{Makes, Run, Watch, RunC, Asm, Trial}
use Rattle.dcc_commands.specs.declared.words.OptionName.{OptionName}
use Rattle.dcc_commands.specs.declared.words.OptionName.TheVariants.{Steps, Fill, Cpu as CpuOption}

-- what the program is to do
pub data Job : Type 0 where
  -- make this of the executable with this name, for this processor
  Make : Product → List ℕ → Cpu → Job
  -- run the executable with this name, for at most so many steps, on this processor
  Execute : List ℕ → ℕ → Cpu → Job
  -- run the executable with this name, for at most so many steps, on this processor, with each step's cleanness tested
  -- before the step is made
  ExecuteWatched : List ℕ → ℕ → Cpu → Job
  -- run the text with this name, for at most so many steps, with this fill
  ExecuteText : List ℕ → ℕ → ℕ → Job
  -- assemble the listing with this name to the bytes of its image
  Assemble : List ℕ → Job
  -- try the program of this seed and this size, for at most so many steps
  Try : ℕ → ℕ → ℕ → Job

-- the first word, as a command
abbrev pub command_word : Command → List ℕ
command_word (Makes Text) = codes "c"
command_word (Makes Procedures) = codes "procs"
command_word (Makes Listing) = codes "list"
command_word Run = codes "run"
command_word Watch = codes "watch"
command_word RunC = codes "runc"
command_word Asm = codes "asm"
command_word Trial = codes "trial"

-- an option's name, as it is written
abbrev pub option_word : OptionName → List ℕ
option_word Steps = codes "--steps"
option_word Fill = codes "--fill"
option_word CpuOption = codes "--cpu"

-- The words after the command are of three sorts: positional words in their order, options, and the first `--` that
-- isn't an option's value, after which every word is positional. These are the positional words, and the value of each
-- option that stands.
pub record Parts : Type 0 where
  pub positional : List (List ℕ)
  pub steps : Option (List ℕ)
  pub fill : Option (List ℕ)
  pub cpu : Option (List ℕ)

-- positional words alone
abbrev pub only_positional : List (List ℕ) → Parts
only_positional words = record { positional = words; steps = None; fill = None; cpu = None }

-- one more positional word in front
abbrev pub with_word : List ℕ → Parts → Parts
with_word word parts = record parts { positional = word ∷ parts.positional }

-- the value of an option, where it stands
abbrev pub value_in : OptionName → Parts → Option (List ℕ)
value_in Steps parts = parts.steps
value_in Fill parts = parts.fill
value_in CpuOption parts = parts.cpu

-- the parts with this value of the option
abbrev pub set_value : OptionName → List ℕ → Parts → Parts
set_value Steps value parts = record parts { steps = Some value }
set_value Fill value parts = record parts { fill = Some value }
set_value CpuOption value parts = record parts { cpu = Some value }

-- the word doesn't begin with `-`, byte 45, or is `-` alone
abbrev pub is_positional : List ℕ → Bool
is_positional [] = true
is_positional (c ∷ []) = true
is_positional (c ∷ (d ∷ cs)) = not (c == 45)

-- the words after the command have these parts
pub data HasParts : List (List ℕ) → Parts → Type 0 where
  no_word : HasParts [] (only_positional [])
  positional_word : {word : List ℕ} {words : List (List ℕ)} {parts : Parts}
      → is_positional word ≡ true
      → HasParts words parts
      → HasParts (word ∷ words) (with_word word parts)
  -- an option, at most once: `--steps N` as two words, or `--steps=N` as one (byte 61 is `=`)
  option_in_two : (name : OptionName) (value : List ℕ) (words : List (List ℕ)) (parts : Parts)
      → value_in name parts ≡ None
      → HasParts words parts
      → HasParts (option_word name ∷ (value ∷ words)) (set_value name value parts)
  option_in_one : (name : OptionName) (value : List ℕ) (words : List (List ℕ)) (parts : Parts)
      → value_in name parts ≡ None
      → HasParts words parts
      → HasParts ((option_word name ++ (61 ∷ value)) ∷ words) (set_value name value parts)
  end_of_options : {words : List (List ℕ)} → HasParts (codes "--" ∷ words) (only_positional words)

-- the word is one or more decimal digits, at most so many, and nothing else
abbrev pub is_number : ℕ → List ℕ → Bool
is_number digits word = nat_lt 0 (length word) && (nat_le (length word) digits && list_all is_ascii_digit word)

-- the number that a word of at most so many decimal digits writes, where it is at most the greatest
abbrev pub number_of : ℕ → ℕ → List ℕ → Option ℕ
number_of digits greatest word =
    if is_number digits word && nat_le (digits_value 10 word) greatest then Some (digits_value 10 word) else None

-- the steps of a run: 0 to 1000000000 in at most 10 digits, or 1000000 where the option doesn't stand
abbrev pub steps_of : Option (List ℕ) → Option ℕ
steps_of None = Some 1000000
steps_of (Some word) = number_of 10 1000000000 word

-- what the variables of a text hold before they have a value: 0 to 65535 in at most 5 digits, or 0 where the option
-- doesn't stand
abbrev pub fill_of : Option (List ℕ) → Option ℕ
fill_of None = Some 0
fill_of (Some word) = number_of 5 65535 word

-- the processor of a name
abbrev pub cpu_named : List ℕ → Option Cpu
cpu_named word =
    if bytes_eq word (codes "8086") then Some I8086 else if bytes_eq word (codes "186") then Some I186 else None

-- the processor that runs an executable: 8086 or 186, or 8086 where the option doesn't stand
abbrev pub cpu_of : Option (List ℕ) → Option Cpu
cpu_of None = Some I8086
cpu_of (Some word) = cpu_named word

-- the seed of a trial: 0 to 18446744073709551615 in at most 20 digits
abbrev pub seed_of : List ℕ → Option ℕ
seed_of word = number_of 20 18446744073709551615 word

-- the number, where it is not 0
abbrev pub nonzero : ℕ → Option ℕ
nonzero n = if nat_lt 0 n then Some n else None

-- the size of a trial: 1 to 1000 in at most 4 digits
abbrev pub size_of : List ℕ → Option ℕ
size_of word = option_and_then nonzero (number_of 4 1000 word)

-- a size of a trial
pub record IsSize (size : ℕ) : Type 0 where
  pub some : 1 ≤ size
  pub few : size ≤ 1000

-- the words ask for this job
pub data AskFor : List (List ℕ) → Job → Type 0 where
  make : {product : Product} {words : List (List ℕ)} {file : List ℕ} {value : Option (List ℕ)} {cpu : Cpu}
      → HasParts words (record { positional = file ∷ []; steps = None; fill = None; cpu = value })
      → cpu_of value ≡ Some cpu
      → AskFor (command_word (Makes product) ∷ words) (Make product file cpu)
  execute : {words : List (List ℕ)} {file : List ℕ} {value other : Option (List ℕ)} {steps : ℕ} {cpu : Cpu}
      → HasParts words (record { positional = file ∷ []; steps = value; fill = None; cpu = other })
      → steps_of value ≡ Some steps
      → cpu_of other ≡ Some cpu
      → AskFor (command_word Run ∷ words) (Execute file steps cpu)
  execute_watched : {words : List (List ℕ)} {file : List ℕ} {value other : Option (List ℕ)} {steps : ℕ} {cpu : Cpu}
      → HasParts words (record { positional = file ∷ []; steps = value; fill = None; cpu = other })
      → steps_of value ≡ Some steps
      → cpu_of other ≡ Some cpu
      → AskFor (command_word Watch ∷ words) (ExecuteWatched file steps cpu)
  execute_text : {words : List (List ℕ)} {file : List ℕ} {value other : Option (List ℕ)} {steps fill : ℕ}
      → HasParts words (record { positional = file ∷ []; steps = value; fill = other; cpu = None })
      → steps_of value ≡ Some steps
      → fill_of other ≡ Some fill
      → AskFor (command_word RunC ∷ words) (ExecuteText file steps fill)
  assemble : {words : List (List ℕ)} {file : List ℕ}
      → HasParts words (only_positional (file ∷ []))
      → AskFor (command_word Asm ∷ words) (Assemble file)
  try : {words : List (List ℕ)} {first second third : List ℕ} {seed size steps : ℕ}
      → HasParts words
      (record { positional = first ∷ (second ∷ (third ∷ [])); steps = None; fill = None; cpu = None })
      → seed_of first ≡ Some seed
      → size_of second ≡ Some size
      → steps_of (Some third) ≡ Some steps
      → AskFor (command_word Trial ∷ words) (Try seed size steps)

-- Which words name which job, as functions: the one job that the words ask for, if any.

-- what a word is by itself, where it isn't an option's value and no `--` stands before it
pub data Kind : Type 0 where
  Positional : Kind
  End : Kind
  -- the option, whose value is the next word
  Names : OptionName → Kind
  -- the option with its value
  Gives : OptionName → List ℕ → Kind
  Unknown : Kind

-- the option of this name
abbrev pub option_of : List ℕ → Option OptionName
option_of word =
    if bytes_eq word (codes "--steps") then Some Steps
    else if bytes_eq word (codes "--fill") then Some Fill
    else if bytes_eq word (codes "--cpu") then Some CpuOption
    else None

-- the command of this name
abbrev pub command_of : List ℕ → Option Command
command_of word =
    if bytes_eq word (codes "c") then Some (Makes Text)
    else if bytes_eq word (codes "procs") then Some (Makes Procedures)
    else if bytes_eq word (codes "list") then Some (Makes Listing)
    else if bytes_eq word (codes "run") then Some Run
    else if bytes_eq word (codes "watch") then Some Watch
    else if bytes_eq word (codes "runc") then Some RunC
    else if bytes_eq word (codes "asm") then Some Asm
    else if bytes_eq word (codes "trial") then Some Trial
    else None

-- the kind of a word that begins with an option's name
abbrev pub named : Option OptionName → Kind
named None = Unknown
named (Some name) = Names name

abbrev pub given : Option OptionName → List ℕ → Kind
given None value = Unknown
given (Some name) value = Gives name value

-- the byte is `=`
abbrev pub is_equals : ℕ → Bool
is_equals c = c == 61

-- the word is an option with a value, or an option's name
abbrev pub option_kind : List ℕ → Kind
option_kind word =
    if nat_lt (position_or_len is_equals word) (length word)
    then given (option_of (before_first is_equals word)) (after_first is_equals word)
    else named (option_of word)

abbrev pub kind_of : List ℕ → Kind
kind_of word = if is_positional word then Positional else (if bytes_eq word (codes "--") then End else option_kind word)

-- the parts with one more option, which may not stand there yet
abbrev pub with_value : OptionName → List ℕ → Option Parts → Option Parts
with_value name value None = None
with_value name value (Some parts) = if is_some (value_in name parts) then None else Some (set_value name value parts)

-- the parts with a word of this kind in front: of the words after it, and where they begin with an option's value
abbrev pub with_kind : List ℕ → List (List ℕ) → Option Parts → (OptionName → Option Parts) → Kind → Option Parts
with_kind word words parts valued Positional = option_map (with_word word) parts
with_kind word words parts valued End = Some (only_positional words)
with_kind word words parts valued (Names name) = valued name
with_kind word words parts valued (Gives name value) = with_value name value parts
with_kind word words parts valued Unknown = None

-- the parts of the words; where an option waits for its value, the first word is the value
abbrev pub parts_after : Option OptionName → List (List ℕ) → Option Parts
parts_after None [] = Some (only_positional [])
parts_after None (word ∷ words) =
    with_kind word words (parts_after None words) (λ name. parts_after (Some name) words) (kind_of word)
parts_after (Some name) [] = None
parts_after (Some name) (value ∷ words) = with_value name value (parts_after None words)

abbrev pub parts_of : List (List ℕ) → Option Parts
parts_of words = parts_after None words

-- the job, where the option doesn't stand
abbrev pub without : Option (List ℕ) → Option Job → Option Job
without None job = job
without (Some value) job = None

-- the job of the one positional word, and that of three
abbrev pub with_one : (List ℕ → Option Job) → List (List ℕ) → Option Job
with_one job (word ∷ []) = job word
with_one job _ = None

abbrev pub with_three : (List ℕ → List ℕ → List ℕ → Option Job) → List (List ℕ) → Option Job
with_three job (first ∷ (second ∷ (third ∷ []))) = job first second third
with_three job _ = None

-- the job of `run` for a file, and that of `watch`
abbrev pub run_job : (List ℕ → ℕ → Cpu → Job) → Option ℕ → Option Cpu → List ℕ → Option Job
run_job job steps cpu file = option_and_then (λ n. option_map (job file n) cpu) steps

-- the job of `runc` for a file
abbrev pub text_job : Option ℕ → Option ℕ → List ℕ → Option Job
text_job steps fill file = option_and_then (λ n. option_map (ExecuteText file n) fill) steps

-- the job of `trial`
abbrev pub trial_job : Option ℕ → Option ℕ → Option ℕ → Option Job
trial_job seed size steps =
    option_and_then (λ s. option_and_then (λ n. option_map (Try s n) steps) size) seed

-- the job of a command with these parts of the words
abbrev pub job_with : Command → Parts → Option Job
job_with (Makes product) parts =
    without parts.steps (without parts.fill
    (with_one (λ file. option_map (Make product file) (cpu_of parts.cpu)) parts.positional))
job_with Run parts =
    without parts.fill (with_one (run_job Execute (steps_of parts.steps) (cpu_of parts.cpu)) parts.positional)
job_with Watch parts =
    without parts.fill (with_one (run_job ExecuteWatched (steps_of parts.steps) (cpu_of parts.cpu)) parts.positional)
job_with RunC parts =
    without parts.cpu (with_one (text_job (steps_of parts.steps) (fill_of parts.fill)) parts.positional)
job_with Asm parts =
    without parts.steps (without parts.fill (without parts.cpu
    (with_one (λ file. Some (Assemble file)) parts.positional)))
job_with Trial parts =
    without parts.steps (without parts.fill (without parts.cpu
    (with_three (λ seed size steps. trial_job (seed_of seed) (size_of size) (steps_of (Some steps)))
    parts.positional)))

-- the job of the words after the program's name, or none where they are no command
unfoldable pub job_of : List (List ℕ) → Option Job
job_of [] = None
job_of (word ∷ words) =
    option_and_then (λ command. option_and_then (job_with command) (parts_of words)) (command_of word)

-- a job is that of the words exactly where they ask for it
abbrev pub AskForOneJob : Type 0
AskForOneJob = (words : List (List ℕ)) (job : Job) → (job_of words ≡ Some job) ↔ AskFor words job

-- the job of the words, as the program has them
abbrev pub job_in : List (String Global) → Option Job
job_in words = job_of (map string_bytes words)
