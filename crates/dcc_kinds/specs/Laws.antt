-- What is told of the summaries of a lifted program is told of the machine's procedures, and the other way.
use Rattle.std.specs.Prelude.{◌≡◌, ◌↔◌, ℕ, List, map}
use Rattle.dcc_machine.specs.declared.image.Image.{Image}
use Rattle.dcc_prog.specs.declared.refusal.ConstructKind.{ConstructKind}
use Rattle.dcc_prog.specs.declared.refusal.ConstructKind.TheVariants.{ArgumentReused as ReusedArgument}
use Rattle.dcc_prog.specs.declared.refusal.ConstructKind.TheVariants.{SeveralResults as ManyResults}
use Rattle.dcc_prog.specs.declared.frame.Program.{Program as Analysed}
use Rattle.dcc_ir.specs.Tree.{Program, Summary}
use Rattle.dcc_machine_demand.specs.Bodies.{Body, bodies_of}
use Rattle.dcc_machine_demand.specs.Asked.{IsOfSummaries, AreSummariesOf}
use Rattle.dcc_machine_demand.specs.Asked as asked
use Rattle.dcc_sums.specs.Summaries.{AreSummaries, ReusesNone, GivesOneValue}
use Rattle.dcc_refinement.specs.Laws.{HaveSameRelations}
use Rattle.dcc_summaries.specs.declared.summaries.SumsFault.{SumsFault}
use Rattle.dcc_summaries.specs.declared.summaries.SumsFault.TheVariants.{ArgumentReused, SeveralResults, Memory}
use Rattle.dcc_summaries.specs.Summaries.{IsFault}
use Rattle.dcc_lift.specs.Translated.{IsTranslated}
use Rattle.dcc_lifted_demand.specs.LiftedRefinement.{inner_of, lifted_refinement}
use Rattle.dcc_lifted_demand.specs.LiftedIsRefined.{machine, inner}

-- the program is the lifted one of an analysed file, and has the relations of the machine's procedures
pub record IsLikeMachine (image : Image) (program : Analysed) (p : Program) : Type 0 where
  pub translated : IsTranslated image program p
  pub relations : HaveSameRelations (machine image program p) (inner image program p) (lifted_refinement program)

-- Constructs.

-- a fault of the lifted program is a construct of the machine's procedures; want of memory is none
abbrev pub IsConstructOf : List Body → SumsFault → Type 0
IsConstructOf bodies (ArgumentReused at) = IsOfSummaries bodies ReusedArgument at
IsConstructOf bodies (SeveralResults at) = IsOfSummaries bodies ManyResults at
IsConstructOf bodies Memory = Unit {0}

-- what is told of the lifted program stands in the machine's procedures
abbrev pub FaultsAreConstructs : Type 0
FaultsAreConstructs =
    (image : Image) (program : Analysed) (p : Program) (fault : SumsFault) → IsLikeMachine image program p
    → IsFault p fault → IsConstructOf (bodies_of program) fault

-- A construct of the machine's procedures may be told of the lifted program, if this has summaries at all.
abbrev pub ConstructsAreFaults : Type 0
ConstructsAreFaults =
    (image : Image) (program : Analysed) (p : Program) (sums : List Summary) (fault : SumsFault)
    → IsLikeMachine image program p → AreSummaries p sums → IsConstructOf (bodies_of program) fault → IsFault p fault

-- no construct of summaries stands in the machine's procedures where the lifted program's summaries are some that a
-- text can have
abbrev pub SummedProgramsHaveNone : Type 0
SummedProgramsHaveNone =
    (image : Image) (program : Analysed) (p : Program) (sums : List Summary) → IsLikeMachine image program p
    → AreSummaries p sums → ReusesNone p → GivesOneValue sums → (kind : ConstructKind) (at : ℕ)
    → ¬ IsOfSummaries (bodies_of program) kind at

-- Summaries.

-- a summary of the machine in the locations of the inner language
abbrev pub inner_summary : asked.Summary → Summary
inner_summary summary = record {
  params = map inner_of summary.params;
  results = map inner_of summary.results;
  preserved = map inner_of summary.preserved;
}

-- The summaries of the machine's procedures are just those of the lifted program, in the locations of the inner
-- language, and the lifted program has no others.
pub record SummariesAreLifted : Type 0 where
  pub are :
      (image : Image) (program : Analysed) (p : Program) (summaries : List asked.Summary)
      → IsLikeMachine image program p
      → AreSummariesOf program summaries ↔ AreSummaries p (map inner_summary summaries)
  pub known :
      (image : Image) (program : Analysed) (p : Program) (sums : List Summary) → IsLikeMachine image program p
      → AreSummaries p sums → (summaries : List asked.Summary) × (sums ≡ map inner_summary summaries)
