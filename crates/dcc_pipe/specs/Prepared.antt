-- What a program is before its text is written: between its procedures passes what a text can have, and its graphs are
-- simplified.
use Rattle.std.specs.Prelude.{◌≡◌, ℕ, Bool, true, ◌⊎◌, List, [], All}
use Rattle.std.specs.List.{list_any}
use Rattle.dcc_machine.specs.declared.image.Image.{Image}
use Rattle.dcc_prog.specs.declared.frame.Program.{Program as Analysed}
use Rattle.dcc_prog.specs.Analysed.{IsProgramOf}
use Rattle.dcc_ir.specs.Tree.{Stmt, Call, Graph, Program, Summary}
use Rattle.dcc_ir.specs.Ends.{is_ret}
use Rattle.dcc_ir.specs.Flow.{graph_or_none}
use Rattle.dcc_ir.specs.Run.{graph_at}
use Rattle.dcc_lift.specs.Lifted.{IsLifted}
use Rattle.dcc_ir.specs.FlagReads.{FlagsReadPlainly}
use Rattle.dcc_ir.specs.Passing.{PassesAll}
use Rattle.dcc_sums.specs.Summaries.{AreSummaries, ReusesNone, GivesOneValue}
use Rattle.dcc_sums.specs.Localised.{summary_at, localised}
use Rattle.dcc_signatures.specs.Packed.{packed}
use Rattle.dcc_signatures.specs.Laws.{PassesAtMostOne}
use Rattle.dcc_pipe.specs.Textable.{lifted_levels, levels, TakesApart, IsTextable}
use Rattle.dcc_pipe.specs.Simplified.{IsSimplifiedGraph, HasEachChanged, IsSimplified}

-- one of the graph's blocks ends in a Ret
abbrev pub has_ret : Graph → Bool
has_ret graph = list_any (λ b. is_ret b.exit) graph.blocks

-- the graph with that entry has a Ret
abbrev pub returns : Program → ℕ → Bool
returns p entry = has_ret (graph_or_none (graph_at p.graphs entry))

-- a Call takes results of a graph that returns alone
abbrev pub TakesOfReturning : (ℕ → Bool) → Stmt → Type 0
TakesOfReturning returning (Call results entry arguments depth) = (results ≡ []) ⊎ (returning entry ≡ true)
TakesOfReturning returning stmt = Unit {0}

-- What is lifted has this form: all halves and flags pass between procedures, no location takes two arguments,
-- definitions of flags read flags and load plainly, and it has what a text needs but for what passes.
pub record HasLiftedForm (p : Program) : Type 0 where
  pub textable : IsTextable lifted_levels p
  pub back : ℕ → List ℕ
  pub passes : PassesAll back p
  pub apart : All TakesApart p.graphs
  pub reads : All FlagsReadPlainly p.graphs

-- The summaries of all procedures, which a text can have: no argument is wanted after a call that may change it, and no
-- procedure gives several values back.
pub record AreSumsOfText (p : Program) (sums : List Summary) : Type 0 where
  pub are : AreSummaries p sums
  pub reuses : ReusesNone p
  pub one : GivesOneValue sums

-- The second program keeps the first one's runs and blocks, and has what a text needs. Just what is wanted passes in
-- it: each procedure takes the argument words and what its summary says, a register in one, and gives at most one
-- value, which is taken of procedures that return alone. No location takes two arguments. It is made of the first one,
-- pass after pass.
pub record IsPrepared (p q : Program) : Type 0 where
  pub sums : List Summary
  pub known : AreSumsOfText p sums
  pub made : HasEachChanged IsSimplifiedGraph (packed (localised sums p)) q
  pub passes : PassesAtMostOne (summary_at p.graphs sums) q
  pub returned : All (λ g. All (λ b. All (TakesOfReturning (returns q)) b.stmts) g.blocks) q.graphs
  pub apart : All TakesApart q.graphs
  pub simplified : IsSimplified levels p q

-- What is lifted of an analysed program has that form.
abbrev pub LiftedHasTheForm : Type 0
LiftedHasTheForm = (image : Image) (program : Analysed) (p : Program) → IsProgramOf program.layout.cpu image program
    → IsLifted image program p → HasLiftedForm p

-- Prepared is what passes leave of each graph, where just what the summaries say passes, together.
abbrev pub WhatIsLeftIsPrepared : Type 0
WhatIsLeftIsPrepared = (p q : Program) (sums : List Summary) → HasLiftedForm p → AreSumsOfText p sums
    → HasEachChanged IsSimplifiedGraph (packed (localised sums p)) q → IsPrepared p q
