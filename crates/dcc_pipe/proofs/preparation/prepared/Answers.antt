use Rattle.std.proofs.Common.{◌≡◌, List, All, sym, ap, ◌∙◌, subst}
use Rattle.dcc_ir.specs.Tree.{Program, Summary}
use Rattle.dcc_ir.specs.Views.{program_of, summaries_of}
use Rattle.dcc_ir.specs.WellFormed.{IsGraph}
use Rattle.dcc_sums.specs.Summaries.{AreSummaries, ReusesNone, GivesOneValue}
use Rattle.dcc_sums.specs.Localised.{localised}
use Rattle.dcc_signatures.specs.Packed.{packed}
use Rattle.dcc_pipe.specs.Prepared.{HasLiftedForm, AreSumsOfText, IsPrepared}
use Rattle.dcc_pipe.specs.Simplified.{IsSimplifiedGraph, HasEachChanged}
use Rattle.dcc_pipe.proofs.PreparedLaws.{packed-kept, what-is_left-is_prepared}
use Rattle.dcc_pipe.proofs.preparation.prepared.Goals as goal

-- The programs that the calls give one after another are those of the definitions.
module _ (p just together : Program) (sums : List Summary) (form : HasLiftedForm p) (are : AreSummaries p sums)
    (reuses : ReusesNone p) (one : GivesOneValue sums) (is_just : just ≡ localised sums p)
    (is_together : together ≡ packed just) where
  known : AreSumsOfText p sums
  known = record { are = are; reuses = reuses; one = one }

  same : together ≡ packed (localised sums p)
  same = is_together ∙ ap packed is_just

  graphs-formed : All IsGraph together.graphs
  graphs-formed = subst (λ (q : Program). All IsGraph q.graphs) (sym same) (packed-kept p sums form known).formed.graphs

  left-prepared : (q : Program) → HasEachChanged IsSimplifiedGraph together q → IsPrepared p q
  left-prepared q left =
      what-is_left-is_prepared p q sums form known
      (subst (λ before. HasEachChanged IsSimplifiedGraph before q) same left)

pub simplified-requires : goal.simplified-requires
simplified-requires c =
    graphs-formed (program_of c.args.p) (program_of c.in_ok-localised.localised) (program_of c.in_ok-packed.packed)
    (summaries_of c.in_ok-sums.sums) c.requires c.in_ok-sums.ensures.sums c.in_ok-sums.ensures.none
    c.in_ok-sums.ensures.one c.in_ok-localised.ensures.localised c.in_ok-packed.ensures.packed

pub returns-clause-ready : goal.returns-clause-ready
returns-clause-ready c =
    left-prepared (program_of c.args.p) (program_of c.in_ok-localised.localised) (program_of c.in_ok-packed.packed)
    (summaries_of c.in_ok-sums.sums) c.requires c.in_ok-sums.ensures.sums c.in_ok-sums.ensures.none
    c.in_ok-sums.ensures.one c.in_ok-localised.ensures.localised c.in_ok-packed.ensures.packed
    (program_of c.in_ok-simplified.field-0) c.in_ok-simplified.ensures
