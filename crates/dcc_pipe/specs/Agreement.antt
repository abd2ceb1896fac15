-- An image and a text agree.
use Rattle.std.specs.Prelude.{◌≢◌, ℕ, ◌+◌, ◌*◌, ◌^◌, ◌<◌, List, length, All}
use Rattle.dcc_run.specs.End.{Stuck}
use Rattle.dcc_run.specs.System.{end_after}
use Rattle.dcc_run.specs.Agreement.{KeepsUp}
use Rattle.dcc_machine.specs.declared.cpu.Cpu.{Cpu}
use Rattle.dcc_machine.specs.declared.image.Image.{Image}
use Rattle.dcc_machine.specs.Machine.{start_state}
use Rattle.dcc_machine.specs.Step.{machine_system}
use Rattle.dcc_prog.specs.Watch.{IsClean}
use Rattle.dcc_c.specs.Tree.{Tree, Function}
use Rattle.dcc_c.specs.Run.{text_system, first_state}
use Rattle.dcc_c.specs.Text.{StandsFor}

-- Numbers of steps.

-- How many steps of a text with so many tokens have the events of n steps of the machine. In n steps the machine begins
-- no more than n + 1 blocks, its first one counted; and from one block to the next a text makes no more steps than it
-- has tokens, since none of its steps comes twice, and each step and each function has a token of its own.
abbrev pub text_steps : ℕ → ℕ → ℕ
text_steps tokens n = (n + 1) * tokens

-- How many steps of the machine have the events of k steps of a text. From one block to the next the machine makes at
-- most 8,192, twice the instructions that a procedure may have, and up to its first block 65,535 more, those of the
-- prelude. So 65,536 steps do for each step of the text, with 65,536 more at the start.
abbrev pub machine_steps : ℕ → ℕ
machine_steps k = (k + 1) * 65536

-- Agreement.

-- The run of the image on a processor and that of the text, on one input and from one fill. Within `text_steps` the
-- text's events begin with those of n clean steps of the machine, and it has ended alike where the machine has; and
-- within `machine_steps`, if these are clean, the machine's events begin with those of k steps of the text, and it has
-- ended alike. The text is never stuck, whether the machine's run is clean or not.
pub record RunsAgree
    (cpu : Cpu)
    (image : Image)
    (tree : Tree)
    (start : Function)
    (tokens : ℕ)
    (input : List ℕ)
    (fill : ℕ)
    : Type 0 where
  pub text_keeps_up :
      (n : ℕ)
      → IsClean cpu image input n
      → KeepsUp
      (machine_system cpu) (start_state image input) n
      (text_system tree) (first_state tree start fill input) (text_steps tokens n)
  pub machine_keeps_up :
      (k : ℕ)
      → IsClean cpu image input (machine_steps k)
      → KeepsUp
      (text_system tree) (first_state tree start fill input) k
      (machine_system cpu) (start_state image input) (machine_steps k)
  pub never_stuck : (k line : ℕ) → end_after (text_system tree) k (first_state tree start fill input) ≢ Stuck line

-- The text stands for the tree, and for every input and every fill its run agrees with that of the image on the
-- processor.
pub record IsTextOf (cpu : Cpu) (image : Image) (text : List ℕ) (tree : Tree) : Type 0 where
  pub stands : StandsFor text tree
  pub runs :
      (input : List ℕ) (fill : ℕ) → All (λ b. b < 256) input → fill < 2 ^ 16
      → RunsAgree cpu image tree stands.allowed.start (length stands.tokens) input fill
