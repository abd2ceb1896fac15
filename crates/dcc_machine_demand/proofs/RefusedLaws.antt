-- A program that the analyses find and in which no construct of summaries stands is accepted; nothing refuses one that is.
use Rattle.std.proofs.Common.{◌≡◌, ℕ, subst}
use Rattle.dcc_machine.specs.declared.cpu.Cpu.{Cpu}
use Rattle.dcc_machine.specs.declared.image.Image.{Image}
use Rattle.dcc_prog.specs.declared.frame.Program.{Program}
use Rattle.dcc_prog.specs.declared.refusal.ConstructKind.{ConstructKind}
use Rattle.dcc_prog.specs.declared.refusal.Refusal.{Refusal}
use Rattle.dcc_prog.specs.declared.refusal.Refusal.TheVariants.{Memory}
use Rattle.dcc_prog.specs.Analysed.{IsProgramOf}
use Rattle.dcc_prog.specs.Refused.{IsSound}
use Rattle.dcc_prog.proofs.RefusedLaws.{all-sound, sound-not_unsound, sound-memory}
use Rattle.dcc_machine_demand.specs.Bodies.{bodies_of}
use Rattle.dcc_machine_demand.specs.Asked.{IsOfSummaries}
use Rattle.dcc_machine_demand.specs.Refused.{IsAcceptedProgram, IsRefusedImage, is_unsound, of_summaries, IsRefusedFor}
use Rattle.dcc_machine_demand.specs.Refused.{by_analysis, by_summaries, OneProgramIsFound, AcceptedIsNotRefused}
use Rattle.dcc_machine_demand.proofs.AlikeBodies.{constructs_alike}
use Rattle.dcc_machine_demand.proofs.FoundLaws.{bodies_one}

pub one-program_is_found : OneProgramIsFound
one-program_is_found cpu image program other kind at is also stands =
    constructs_alike (bodies_of program) (bodies_of other) (bodies_one cpu image program other is also) kind at stands

program-sound : (cpu : Cpu) (image : Image) (program : Program) → IsProgramOf cpu image program → IsSound cpu image
program-sound cpu image program is =
    subst (λ c. IsSound c image) is.runs_on
    (all-sound image program.layout is.layout (record {
      trails = record { no_construct = is.procs.no_construct; no_limit = is.procs.no_limit };
      heights = is.heights.accepted;
      frames = is.cells.accepted;
    }))

accepted-if : (cpu : Cpu) (image : Image) (program : Program) → IsProgramOf cpu image program → ((kind : ConstructKind) (at : ℕ) → ¬ IsOfSummaries (bodies_of program) kind at) → IsAcceptedProgram cpu image
accepted-if cpu image program is none = record {
  sound = program-sound cpu image program is;
  none = λ kind at other. none kind at (one-program_is_found cpu image other.program program kind at other.found is other.stands);
}

apart-from : (cpu : Cpu) (image : Image) → IsAcceptedProgram cpu image → ¬ IsRefusedImage cpu image
apart-from cpu image accepted (is_unsound unsound) = sound-not_unsound cpu image accepted.sound unsound
apart-from cpu image accepted (of_summaries {kind = kind} {at = at} stands) = accepted.none kind at stands

only-memory : (cpu : Cpu) (image : Image) (refusal : Refusal) → IsAcceptedProgram cpu image → IsRefusedFor cpu image refusal → refusal ≡ Memory
only-memory cpu image refusal accepted (by_analysis told) = sound-memory cpu image refusal accepted.sound told
only-memory cpu image refusal accepted (by_summaries {kind = kind} {at = at} sound stands) = absurd (accepted.none kind at stands)

pub accepted-is_not_refused : AcceptedIsNotRefused
accepted-is_not_refused = record { accepted = accepted-if; apart = apart-from; memory = only-memory }
