-- What refuses a program's layout refuses the program, and nothing refuses one that is analysed. What is at fault in what
-- is lifted of it is a construct, and refuses its image.
use Rattle.std.proofs.Common.{◌≡◌, ℕ, List, sym, subst}
use Rattle.dcc_machine.specs.declared.cpu.Cpu.{Cpu}
use Rattle.dcc_machine.specs.declared.image.Image.{Image}
use Rattle.dcc_prog.specs.declared.procedure.Layout.{Layout}
use Rattle.dcc_prog.specs.declared.procedure.Proc.{Proc}
use Rattle.dcc_prog.specs.declared.frame.Program.{Program as Analysed}
use Rattle.dcc_prog.specs.declared.refusal.ConstructKind.{ConstructKind}
use Rattle.dcc_prog.specs.declared.refusal.Refusal.{Refusal}
use Rattle.dcc_prog.specs.declared.refusal.Refusal.TheVariants.{Construct}
use Rattle.dcc_prog.specs.Analysed.{IsProgramOf}
use Rattle.dcc_prog.specs.Found.{AreFound}
use Rattle.dcc_prog.specs.Layout.{HasLayout}
use Rattle.dcc_prog.specs.Refused.{IsAcceptedByTrails, IsAcceptedByHeights, IsAcceptedByFrames, IsAcceptedByAll, IsSound, IsRefusedByAnalysis, no_layout}
use Rattle.dcc_prog.proofs.RefusedLaws.{all-sound}
use Rattle.dcc_layout.specs.Refusal as layout
use Rattle.dcc_stack.specs.Accepted.{IsProgramOfFile}
use Rattle.dcc_machine_demand.specs.Asked.{IsOfSummaries}
use Rattle.dcc_machine_demand.specs.Bodies.{bodies_of}
use Rattle.dcc_machine_demand.specs.Refused.{IsRefusedFor, by_analysis, by_summaries}
use Rattle.dcc_ir.specs.Tree.{Program, Summary}
use Rattle.dcc_lift.specs.Lifted.{IsLiftOf}
use Rattle.dcc_lift.specs.Translated.{IsTranslated}
use Rattle.dcc_instruction_demand.specs.Laws.{LiftedRelationsAreTheMachines}
use Rattle.dcc_summaries.specs.declared.summaries.SumsFault.{SumsFault}
use Rattle.dcc_summaries.specs.declared.summaries.SumsFault.TheVariants.{ArgumentReused, SeveralResults, Memory as NoMemory}
use Rattle.dcc_summaries.specs.Summaries.{IsFault}
use Rattle.dcc_kinds.specs.Laws.{IsLikeMachine, IsConstructOf, FaultsAreConstructs, SummedProgramsHaveNone}
use Rattle.dcc_pipe.specs.Faults.{refusal_for}
use Rattle.dcc_pipe.specs.Prepared.{AreSumsOfText}

pub layout-refused : (cpu : Cpu) (image : Image) (refusal : Refusal) → layout.IsRefusal cpu image refusal → IsRefusedByAnalysis cpu image refusal
layout-refused cpu image (Construct kind at) h = subst (λ k. IsRefusedByAnalysis cpu image (Construct k at)) (sym h.0) (no_layout h.1)
layout-refused cpu image _ h = absurd h

-- where the procedures are found, no trail tells anything that refuses the program
pub found-by_trails : (image : Image) (layout : Layout) (procs : List Proc) → AreFound image layout procs → IsAcceptedByTrails image layout
found-by_trails image layout procs found = record { no_construct = found.no_construct; no_limit = found.no_limit }

-- where procedures, heights and frames are found, no analysis tells anything
pub accepted-all : (image : Image) (layout : Layout) (procs : List Proc) → AreFound image layout procs → IsAcceptedByHeights image layout → IsAcceptedByFrames image layout → IsAcceptedByAll image layout
accepted-all image layout procs found heights frames =
    record { trails = found-by_trails image layout procs found; heights = heights; frames = frames }

pub accepted-sound : (cpu : Cpu) (image : Image) (layout : Layout) → layout.cpu ≡ cpu → HasLayout image layout → IsAcceptedByAll image layout → IsSound cpu image
accepted-sound cpu image layout runs_on has all = subst (λ c. IsSound c image) runs_on (all-sound image layout has all)

-- what is at fault between the procedures of a program that is analysed refuses its image
pub fault-refuses : (cpu : Cpu) (image : Image) (program : Analysed) → IsProgramOf cpu image program → IsSound cpu image
    → (fault : SumsFault) → IsConstructOf (bodies_of program) fault → IsRefusedFor cpu image (refusal_for fault)
fault-refuses cpu image program found sound (ArgumentReused at) stands =
    by_summaries sound (record { program = program; found = found; stands = stands })
fault-refuses cpu image program found sound (SeveralResults at) stands =
    by_summaries sound (record { program = program; found = found; stands = stands })
fault-refuses cpu image program found sound NoMemory stands = by_analysis IsRefusedByAnalysis.no_memory

-- What is lifted of a file's image, where lifted programs have the relations of the machine's procedures.
module _ (image : Image) (program : Analysed) (p : Program) (file : IsProgramOfFile program.layout.cpu image program)
    (of : IsLiftOf image program p) (same : LiftedRelationsAreTheMachines) where
  translated : IsTranslated image program p
  translated = record { of_file = file; translation = of.translation }

  like : IsLikeMachine image program p
  like = record { translated = translated; relations = same image program p translated }

  -- what is at fault in it is a construct of the image
  pub fault-construct : FaultsAreConstructs → (fault : SumsFault) → IsFault p fault
      → IsConstructOf (bodies_of program) fault
  fault-construct law fault is = law image program p fault like is

  -- where the lifted program has summaries that a text can have, no construct of summaries stands in the image
  pub summed-none : SummedProgramsHaveNone → (sums : List Summary) → AreSumsOfText p sums → (kind : ConstructKind) (at : ℕ)
      → ¬ IsOfSummaries (bodies_of program) kind at
  summed-none law sums known = law image program p sums like known.are known.reuses known.one
