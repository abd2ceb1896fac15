-- States whose numbers fit their places.
use Rattle.std.specs.Prelude.{ℕ, ◌<◌, List, All}
use Rattle.dcc_run.specs.Event.{written_by, taken_by}
use Rattle.dcc_ir.specs.Value.{Environment, Fits}
use Rattle.dcc_ir.specs.Run.{Activation, State, scene_of}

-- what the expressions of an activation read in this memory
abbrev pub scene_in : Activation → List ℕ → Environment
scene_in a memory = record { bits = a.graph.bits; values = a.values; base = a.base; memory = memory }

abbrev pub AreBytes : List ℕ → Type 0
AreBytes ns = All (λ n. n < 256) ns

-- The values of the running activation and of each that waits fit their widths; the memory has 65,536 bytes; and what
-- is left of the input, what has been written and what has been taken are bytes.
pub record StateFits (s : State) : Type 0 where
  pub running : Fits (scene_of s)
  pub waiting : All (λ w. Fits (scene_in w.caller s.memory)) s.waiting
  pub input : AreBytes s.input
  pub written : AreBytes (written_by s.events)
  pub taken : AreBytes (taken_by s.events)
