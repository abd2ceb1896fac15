-- What a trial finds: a program made at random, its text, and the runs of both on no input.
use Rattle.std.specs.Prelude.{◌≡◌, ℕ, List, [], length}
use Rattle.dcc_run.specs.End.{End, Running as running, Exit as exited, Divide as divided, Outside as outside}
use Rattle.dcc_run.specs.System.{System, out_after, end_after}
use Rattle.dcc_machine.specs.declared.cpu.Cpu.TheVariants.{I8086}
use Rattle.dcc_machine.specs.declared.image.Image.{Image}
use Rattle.dcc_machine.specs.Machine.{start_state}
use Rattle.dcc_machine.specs.MzImage.{IsImageOf}
use Rattle.dcc_machine.specs.Step.{machine_system}
use Rattle.dcc_mz.specs.declared.fault.MzFault.{MzFault}
use Rattle.dcc_mz.specs.Fault.{IsRefusalOrMemory}
use Rattle.dcc_prog.specs.declared.frame.Program.{Program}
use Rattle.dcc_prog.specs.Analysed.{IsProgramOf}
use Rattle.dcc_c.specs.Run.{text_system, first_state}
use Rattle.dcc_pipe.specs.declared.no_text.NoText.{NoText}
use Rattle.dcc_pipe.specs.Decompiled.{IsTextOfImage}
use Rattle.dcc_pipe.specs.Shaped.{HasNoTextFor}
use Rattle.dcc_gen.specs.File.{IsMade}
use Rattle.dcc_trial.specs.declared.found.Ending.{Ending}
use Rattle.dcc_trial.specs.declared.found.Ending.TheVariants.{Running, Exit, Divide}
use Rattle.dcc_trial.specs.declared.found.Side.{Side}
use Rattle.dcc_trial.specs.declared.found.Trial.{Trial}
use Rattle.dcc_trial.specs.declared.found.NoTrial.{NoTrial}
use Rattle.dcc_trial.specs.declared.found.NoTrial.TheVariants.{Format, Refused, Outside, Memory}

-- how a run has ended, of which a trial tells
abbrev pub end_of : Ending → End
end_of Running = running
end_of (Exit code) = exited code
end_of Divide = divided

-- in so many steps from the state the system has put out what is told, and has ended so
pub record IsRun {S : Type 0} (system : System S) (s : S) (steps : ℕ) (side : Side) : Type 0 where
  pub output : side.output.items ≡ out_after system steps s
  pub ending : end_after system steps s ≡ end_of side.ending

-- The reason tells that the run has ended at what is no instruction, at this offset; or that memory ran out.
abbrev pub EndsOutside : {S : Type 0} → System S → S → ℕ → NoTrial → Type 0
EndsOutside system s steps (Outside at) = end_after system steps s ≡ outside at
EndsOutside system s steps Memory = Unit {0}
EndsOutside system s steps _ = ⊥

-- the file of the seed and the size has this image
pub record HasImage (seed size : ℕ) (image : Image) : Type 0 where
  pub file : List ℕ
  pub made : IsMade seed size file
  pub is_image : IsImageOf file image

-- What a trial tells of the program of the seed and the size: the lengths of its file and of a text of it, and how
-- many procedures it has; and what the machine and the text have put out on no input, and how they have ended, after so
-- many steps each, where the text's variables hold 0 before they have a value.
pub record IsTrial (seed size steps : ℕ) (trial : Trial) : Type 0 where
  pub image : Image
  pub has_image : HasImage seed size image
  pub program : Program
  pub is_program : IsProgramOf I8086 image program
  pub text : List ℕ
  pub is_text : IsTextOfImage I8086 image text
  pub file_length : trial.file ≡ length has_image.file
  pub procedures : trial.procedures ≡ length program.procs.items
  pub text_length : trial.text ≡ length text
  pub machine : IsRun (machine_system I8086) (start_state image []) steps trial.machine
  pub text_run :
      let tree = is_text.tree in
      IsRun (text_system tree) (first_state tree is_text.is_text.stands.allowed.start 0 []) steps trial.text_run

-- Why there is no trial: the file of the seed and the size has no image, or the image has no text, or the machine's
-- run comes to what is no instruction, at this offset; or memory ran out.
pub data IsWithout (seed size steps : ℕ) : NoTrial → Type 0 where
  no_image : {fault : MzFault} {file : List ℕ}
      → IsMade seed size file
      → IsRefusalOrMemory file fault
      → IsWithout seed size steps (Format fault)
  no_text : {reason : NoText} {image : Image}
      → HasImage seed size image
      → HasNoTextFor I8086 image reason
      → IsWithout seed size steps (Refused reason)
  ends_outside : {at : ℕ} {image : Image}
      → HasImage seed size image
      → end_after (machine_system I8086) steps (start_state image []) ≡ outside at
      → IsWithout seed size steps (Outside at)
  no_memory : IsWithout seed size steps Memory
