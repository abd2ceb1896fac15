-- The work that is left while places flow from block to block.
use Rattle.std.specs.Prelude.{◌≡◌, ℕ, Bool, true, false, if◌then◌else◌, List, [], ◌∷◌, get_or, slice_set, replicate}
use Rattle.dcc_flow.specs.declared.uses.Work.{Work as WorkOf}
use Rattle.dcc_flow.specs.Bits.{flowed, differ}

-- the answers so far, and whether the answer of a block has to flow on
pub record Work : Type 0 where
  pub answer : List (List Bool)
  pub queued : List Bool

abbrev pub work_of : WorkOf → Work
work_of work = record { answer = work.answer.items; queued = work.queued.items }

-- no answer has to flow on
abbrev pub AllFlowed : Work → Type 0
AllFlowed work = (block : ℕ) → get_or work.queued block false ≡ false

-- the block's answer flows now
abbrev pub without_queued : Work → ℕ → Work
without_queued work block = record work { queued = slice_set work.queued block false }

-- a block whose answer has to flow on is taken to flow now
pub record IsTaken (work after : Work) (block : ℕ) : Type 0 where
  pub waits : get_or work.queued block false ≡ true
  pub after_is : after ≡ without_queued work block

-- the block has another answer, which has to flow on if it differs from the one before
abbrev pub with_answer : Work → ℕ → List Bool → Work
with_answer work block bits =
    let answered : Work = record work { answer = slice_set work.answer block bits } in
    if differ (get_or work.answer block []) bits then record answered { queued = slice_set work.queued block true }
    else answered

-- what a block uses and what comes out of it flows to each of these blocks
abbrev pub spread : List Bool → List Bool → List Bool → Work → List ℕ → Work
spread used out written work [] = work
spread used out written work (block ∷ blocks) =
    spread used out written
    (with_answer work block (flowed (get_or work.answer block []) used out written)) blocks

-- the block's answer flows to each of these blocks
abbrev pub spread_from : Work → ℕ → List Bool → List Bool → List ℕ → Work
spread_from work block used written sources = spread used (get_or work.answer block []) written work sources

-- no place is known to be used, and each block's answer has to flow on
abbrev pub first_work : ℕ → ℕ → Work
first_work count len = record {
  answer = replicate count (replicate len false);
  queued = replicate count true;
}
