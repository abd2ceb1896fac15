-- Which programs are decompiled, and why one is refused: for what the analyses tell, and only where these refuse
-- nothing for a construct that is told of what procedures take and give back.
use Rattle.std.specs.Prelude.{◌≡◌, ℕ}
use Rattle.dcc_machine.specs.declared.cpu.Cpu.{Cpu}
use Rattle.dcc_machine.specs.declared.image.Image.{Image}
use Rattle.dcc_prog.specs.declared.frame.Program.{Program}
use Rattle.dcc_prog.specs.declared.refusal.ConstructKind.{ConstructKind}
use Rattle.dcc_prog.specs.declared.refusal.Refusal.{Refusal}
use Rattle.dcc_prog.specs.declared.refusal.Refusal.TheVariants.{Construct, Memory}
use Rattle.dcc_prog.specs.Analysed.{IsProgramOf}
use Rattle.dcc_prog.specs.Refused.{IsSound, IsUnsound, IsRefusedByAnalysis}
use Rattle.dcc_machine_demand.specs.Bodies.{bodies_of}
use Rattle.dcc_machine_demand.specs.Asked.{IsOfSummaries}

-- the analyses find a program in the image, and in its procedures a construct of this kind stands at the offset
pub record StandsInSummaries (cpu : Cpu) (image : Image) (kind : ConstructKind) (at : ℕ) : Type 0 where
  pub program : Program
  pub found : IsProgramOf cpu image program
  pub stands : IsOfSummaries (bodies_of program) kind at

-- no construct stands anywhere, neither of those that the analyses tell nor of those that summaries tell, and no count
-- passes its greatest number
pub record IsAcceptedProgram (cpu : Cpu) (image : Image) : Type 0 where
  pub sound : IsSound cpu image
  pub none : (kind : ConstructKind) (at : ℕ) → ¬ StandsInSummaries cpu image kind at

-- a construct of any kind stands somewhere, or a count passes its greatest number
pub data IsRefusedImage (cpu : Cpu) (image : Image) : Type 0 where
  is_unsound : IsUnsound cpu image → IsRefusedImage cpu image
  of_summaries : {kind : ConstructKind} {at : ℕ} → StandsInSummaries cpu image kind at → IsRefusedImage cpu image

-- what may be told of a program that is refused: what the analyses tell, or where these refuse nothing a construct
-- that summaries tell
pub data IsRefusedFor (cpu : Cpu) (image : Image) : Refusal → Type 0 where
  by_analysis : {refusal : Refusal} → IsRefusedByAnalysis cpu image refusal → IsRefusedFor cpu image refusal
  by_summaries :
      {kind : ConstructKind} {at : ℕ} → IsSound cpu image → StandsInSummaries cpu image kind at
      → IsRefusedFor cpu image (Construct kind at)

-- The analyses find one program in an image: what stands in the procedures of one stands in those of each.
abbrev pub OneProgramIsFound : Type 0
OneProgramIsFound =
    (cpu : Cpu) (image : Image) (program other : Program) (kind : ConstructKind) (at : ℕ)
    → IsProgramOf cpu image program
    → IsProgramOf cpu image other → IsOfSummaries (bodies_of program) kind at → IsOfSummaries (bodies_of other) kind at

-- What is accepted and what is refused are apart.
pub record AcceptedIsNotRefused : Type 0 where
  -- a program that the analyses find, in which no construct stands that summaries tell, is accepted
  pub accepted :
      (cpu : Cpu) (image : Image) (program : Program) → IsProgramOf cpu image program
      → ((kind : ConstructKind) (at : ℕ) → ¬ IsOfSummaries (bodies_of program) kind at) → IsAcceptedProgram cpu image
  -- what is accepted isn't refused, and is told to be refused for want of memory alone
  pub apart : (cpu : Cpu) (image : Image) → IsAcceptedProgram cpu image → ¬ IsRefusedImage cpu image
  pub memory :
      (cpu : Cpu) (image : Image) (refusal : Refusal) → IsAcceptedProgram cpu image
      → IsRefusedFor cpu image refusal → refusal ≡ Memory
