-- What is said of texts that are others written otherwise.
use Rattle.std.specs.Prelude.{◌≡◌, ◌≢◌, ℕ, List}
use Rattle.dcc_run.specs.End.{Stuck}
use Rattle.dcc_run.specs.System.{events_after, end_after}
use Rattle.dcc_c.specs.Tree.{Function, Tree}
use Rattle.dcc_c.specs.Text.{StandsFor}
use Rattle.dcc_c.specs.Run.{text_system, first_state}
use Rattle.dcc_respell.specs.Respelled.{IsRespelled}

-- After n steps the runs of the two texts from these functions on have had the same events, and have ended alike.
pub record IsAlikeAfter (tree after : Tree) (start first : Function) (fill : ℕ) (input : List ℕ) (n : ℕ) : Type 0 where
  pub events :
      events_after (text_system after) n (first_state after first fill input)
      ≡ events_after (text_system tree) n (first_state tree start fill input)
  pub end :
      end_after (text_system after) n (first_state after first fill input)
      ≡ end_after (text_system tree) n (first_state tree start fill input)

-- From every fill and on every input, a text runs as the one does of which it is another spelling, step by step, where
-- that one is never stuck.
abbrev pub RespelledTextsRunAlike : Type 0
RespelledTextsRunAlike = (text written : List ℕ) (tree after : Tree) (is : StandsFor text tree)
    (also : StandsFor written after) → IsRespelled tree after → (fill : ℕ) (input : List ℕ)
    → ((n line : ℕ) → end_after (text_system tree) n (first_state tree is.allowed.start fill input) ≢ Stuck line)
    → (n : ℕ) → IsAlikeAfter tree after is.allowed.start also.allowed.start fill input n
