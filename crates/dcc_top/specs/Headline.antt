-- The headline: what `dcc c NAME --cpu CPU` promises where it answers 0; and what `procs`, `list`, `asm` and `trial` do.
use Rattle.std.specs.Prelude.{◌≡◌, ℕ, List, [], Option, codes}
use Rattle.dcc_io.specs.Told.{append_told}
use Rattle.dcc_machine.specs.declared.cpu.Cpu.{Cpu}
use Rattle.dcc_machine.specs.declared.cpu.Cpu.TheVariants.{I8086}
use Rattle.dcc_machine.specs.declared.image.Image.{Image}
use Rattle.dcc_prog.specs.declared.frame.Program.{Program}
use Rattle.dcc_prog.specs.Analysed.{IsProgramOf}
use Rattle.dcc_machine.specs.MzImage.{IsImageOf}
use Rattle.dcc_prog.specs.Refused.{IsSound}
use Rattle.dcc_prog.specs.Watch.{IsClean}
use Rattle.dcc_pipe.specs.Decompiled.{IsDecompiled}
use Rattle.dcc_list.specs.Listed.{IsListing}
use Rattle.dcc_asm.specs.Fault.{IsAssembled}
use Rattle.dcc_trial.specs.declared.found.Trial.{Trial}
use Rattle.dcc_trial.specs.Lines.{AreLinesOf}
use Rattle.dcc_trial.specs.Trial.{IsTrial}
use Rattle.dcc_top.specs.Answer.{Files, ShelfHas}
use Rattle.dcc_top.specs.Procedures.{procedure_lines}

-- THE HEADLINE. A text was appended to the output to which the executable of this name is decompiled on this processor:
-- it does what the executable does, on every input, as long as the executable's run is clean.
pub record HasText (cpu : Cpu) (told : Files) (name : List ℕ) (before after : Option (List ℕ)) : Type 0 where
  pub file : List ℕ
  pub text : List ℕ
  pub has : ShelfHas told name file
  pub appended : after ≡ append_told before text
  pub decompiled : IsDecompiled cpu file text

-- The lines of the procedures of the executable of this name on this processor were appended to the output: for each
-- procedure its entry, how many instructions it has, how many words its arguments take, and how many bytes its RET
-- removes. Nothing that the analyses tell stands in it.
pub record HasProcedures (cpu : Cpu) (told : Files) (name : List ℕ) (before after : Option (List ℕ)) : Type 0 where
  pub file : List ℕ
  pub has : ShelfHas told name file
  pub image : Image
  pub is_image : IsImageOf file image
  pub sound : IsSound cpu image
  pub program : Program
  pub is_program : IsProgramOf cpu image program
  pub appended : after ≡ append_told before (procedure_lines program)

-- The listing of the image of the executable of this name on this processor was appended to the output: the image and
-- the program that the analyses find in it, in assembler's words. Nothing that they tell stands in it.
pub record HasListing (cpu : Cpu) (told : Files) (name : List ℕ) (before after : Option (List ℕ)) : Type 0 where
  pub file : List ℕ
  pub has : ShelfHas told name file
  pub image : Image
  pub is_image : IsImageOf file image
  pub sound : IsSound cpu image
  pub program : Program
  pub is_program : IsProgramOf cpu image program
  pub text : List ℕ
  pub listed : IsListing image program text
  pub appended : after ≡ append_told before text

-- The bytes for which the listing of this name stands were appended to the output; it and they are within their limits.
pub record HasAssembled (told : Files) (name : List ℕ) (before after : Option (List ℕ)) : Type 0 where
  pub text : List ℕ
  pub bytes : List ℕ
  pub has : ShelfHas told name text
  pub assembled : IsAssembled text bytes
  pub appended : after ≡ append_told before bytes

-- The six lines of a trial were appended to the output: of the program of this seed and this size, of its text, and of
-- the runs of both on no input, for so many steps each. The last line says that neither of what the two have put out
-- begins the other only where one of the machine's steps isn't clean.
pub record HasTrial (seed size steps : ℕ) (before after : Option (List ℕ)) : Type 0 where
  pub trial : Trial
  pub is_trial : IsTrial seed size steps trial
  pub lines : List ℕ
  pub are_lines : AreLinesOf trial lines
  pub agrees : IsClean I8086 is_trial.image [] steps → are_lines.word ≡ codes "yes"
  pub appended : after ≡ append_told before lines
