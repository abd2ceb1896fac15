-- How a trial is told: six lines.
use Rattle.std.specs.Prelude.{◌≡◌, ◌⊎◌, ℕ, List, ◌++◌, length, codes}
use Rattle.std.specs.Fmt.{decimal}
use Rattle.dcc_run.specs.Prefix.{AreComparable}
use Rattle.dcc_trial.specs.declared.found.Ending.{Ending}
use Rattle.dcc_trial.specs.declared.found.Ending.TheVariants.{Running, Exit, Divide}
use Rattle.dcc_trial.specs.declared.found.Side.{Side}
use Rattle.dcc_trial.specs.declared.found.Trial.{Trial}

-- how a run has ended
abbrev pub ending_words : Ending → List ℕ
ending_words Running = codes "running"
ending_words (Exit code) = codes "exit " ++ decimal code
ending_words Divide = codes "divide"

-- how many bytes a run has put out, and how it has ended
abbrev pub side_words : Side → List ℕ
side_words side = decimal (length side.output.items) ++ (codes " " ++ ending_words side.ending)

-- the word tells whether one of the two outputs is a prefix of the other
abbrev pub TellsPrefix : List ℕ → List ℕ → List ℕ → Type 0
TellsPrefix output other word =
    (AreComparable output other × (word ≡ codes "yes")) ⊎ ((¬ AreComparable output other) × (word ≡ codes "no"))

-- the lines on the length of the file, the number of procedures and the length of the text
abbrev pub counts_lines : Trial → List ℕ
counts_lines trial =
    codes "file " ++ (decimal trial.file ++ (codes "\nprocedures " ++ (decimal trial.procedures ++ (codes "\ntext "
    ++ (decimal trial.text ++ codes "\n")))))

-- all lines: the counts, what the machine's run and that of the text have come to, and whether one output is a prefix
-- of the other
abbrev pub lines_with : List ℕ → Trial → List ℕ
lines_with word trial =
    counts_lines trial ++ (codes "machine " ++ (side_words trial.machine ++ (codes "\nc "
    ++ (side_words trial.text_run ++ (codes "\nprefix " ++ (word ++ codes "\n"))))))

-- the lines are those of the trial
pub record AreLinesOf (trial : Trial) (lines : List ℕ) : Type 0 where
  pub word : List ℕ
  pub tells : TellsPrefix trial.machine.output.items trial.text_run.output.items word
  pub lines_are : lines ≡ lines_with word trial
