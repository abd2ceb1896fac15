-- From what the machine's run says to how the run of an executable finished.
use Rattle.std.proofs.Common.{◌≡◌, ℕ, List, [], Option, Some, refl, sym, ap, ◌∙◌}
use Rattle.std.specs.Prelude.{Result, Ok, Err, IfOk, OnErr}
use Rattle.dcc_io.specs.declared.outside.Failed.{Failed}
use Rattle.dcc_io.proofs.ToldLemmas.{append_told-nil}
use Rattle.dcc_run.specs.End.{End}
use Rattle.dcc_run.specs.Event.{written_by}
use Rattle.dcc_machine.specs.declared.cpu.Cpu.{Cpu}
use Rattle.dcc_machine.specs.declared.image.Image.{Image}
use Rattle.dcc_machine.specs.Machine.{start_state}
use Rattle.dcc_machine.specs.MzImage.{IsImageOf}
use Rattle.dcc_console.specs.WithConsole.{WithConsole, beside_console}
use Rattle.dcc_console.specs.Steps.{HasEnded, MakesSteps, StopsShort, read_failed, write_failed}
use Rattle.dcc_console.proofs.RanLaws.{Begins, has_run_when_told, stops_at_read_when_told, stops_at_write_when_told, writes_part}
use Rattle.dcc_step.specs.Core.{Core, core_of}
use Rattle.dcc_step.specs.Stepped.{machine}
use Rattle.dcc_step.proofs.Laws.{machine_executes}
use Rattle.dcc_top.specs.declared.reply.Reply.{Reply}
use Rattle.dcc_top.specs.declared.reply.Reply.TheVariants.{Memory, InputFault}
use Rattle.dcc_commands.specs.Words.{Execute}
use Rattle.dcc_top.specs.Answer.{Files, OfFile, Allows, ran_file, IsCut, cut_run}
use Rattle.dcc_top.specs.Change.{Change}
use Rattle.dcc_top.specs.Delivery.{Answers, CutsShort}
use Rattle.dcc_top.specs.Execution.{Subject, machine_of, end_reply, Finishes, ended, stopped_at_read, not_begun, IsCutRun}

-- the machine with this processor at the start of the image
abbrev pub BeginsAt : Cpu → Core → Image → Type 0
BeginsAt cpu core image = core ≡ core_of cpu (start_state image [])

begins : (cpu : Cpu) (core : Core) (image : Image) → BeginsAt cpu core image → Begins machine cpu (start_state image) core
begins cpu core image at = record { stands = λ input. sym at; left = λ input. refl; events = λ input. refl }

-- a run that has ended, or goes on
pub ran-ended : (cpu : Cpu) (image : Image) (steps : ℕ) (core : Core) (before taken : Option (List ℕ)) (now : WithConsole Core) (end : End) → BeginsAt cpu core image → MakesSteps machine steps (beside_console core before taken) now → HasEnded machine now.code end → Answers (Finishes (machine_of cpu image) steps before now.left) taken now.taken (end_reply steps end)
ran-ended cpu image steps core before taken now end at m is = record {
  output = written_by m.happened;
  wrote = m.wrote;
  is_answer = ended end (has_run_when_told machine cpu (start_state image) core (begins cpu core image at) steps before taken now end is m);
}

-- a read that failed after the steps that were made
pub ran-to_read : (cpu : Cpu) (image : Image) (steps : ℕ) (core : Core) (before taken : Option (List ℕ)) (now : WithConsole Core) → BeginsAt cpu core image → StopsShort machine read_failed steps (beside_console core before taken) now → Answers (Finishes (machine_of cpu image) steps before now.left) taken now.taken InputFault
ran-to_read cpu image steps core before taken now at s = record {
  output = written_by s.made.happened;
  wrote = ap (λ (u : WithConsole Core). u.taken) s.refused.unchanged ∙ s.made.wrote;
  is_answer = stopped_at_read (stops_at_read_when_told machine cpu (start_state image) core (begins cpu core image at) steps before taken now machine_executes s);
}

-- a write that failed after the steps that were made
pub broke-off : (cpu : Cpu) (image : Image) (steps : ℕ) (core : Core) (before taken : Option (List ℕ)) (now : WithConsole Core) → BeginsAt cpu core image → StopsShort machine write_failed steps (beside_console core before taken) now → CutsShort (IsCutRun (machine_of cpu image) steps (record { before = before; after = now.left }) (record { before = taken; after = now.taken })) taken now.taken
broke-off cpu image steps core before taken now at s =
    let cut = writes_part machine cpu (start_state image) core (begins cpu core image at) steps before taken now machine_executes s in
    let stops = stops_at_write_when_told machine cpu (start_state image) core (begins cpu core image at) steps before taken now s in
    record { due = cut.due; is_due = record { is_due = cut.is_due; stops = stops }; part = cut.part }

-- no step was made
pub ran-nothing : {S : Type 0} (subject : Subject S) (steps : ℕ) (before out : Option (List ℕ)) → Answers (Finishes subject steps before before) out out Memory
ran-nothing subject steps before out =
    record { output = []; wrote = sym (append_told-nil out); is_answer = not_begun refl }

-- what a run of the file's image answers is allowed for the job of running it
pub reply-of_run : (told : Files) (name : List ℕ) (steps : ℕ) (cpu : Cpu) (image : Image) (before left out now : Option (List ℕ)) (result : Result Reply Failed) → OfFile told name (λ file. IsImageOf file image) → IfOk result (Answers (Finishes (machine_of cpu image) steps before left) out now) → IfOk result (Answers (Allows told before left (Some (Execute name steps cpu))) out now)
reply-of_run told name steps cpu image before left out now (Ok reply) f ran = record {
  output = ran.output;
  wrote = ran.wrote;
  is_answer = ran_file (record { file = f.file; has = f.has; holds = record { image = image; is_image = f.holds; finishes = ran.is_answer } });
}
reply-of_run told name steps cpu image before left out now (Err e) f ran = ran

pub cut-of_run : (told : Files) (name : List ℕ) (steps : ℕ) (cpu : Cpu) (image : Image) (input output : Change (Option (List ℕ))) (result : Result Reply Failed) → OfFile told name (λ file. IsImageOf file image) →
    OnErr result (CutsShort (IsCutRun (machine_of cpu image) steps input output) output.before output.after) → OnErr result (CutsShort (IsCut told input output (Some (Execute name steps cpu))) output.before output.after)
cut-of_run told name steps cpu image input output (Ok reply) f broke = broke
cut-of_run told name steps cpu image input output (Err e) f broke = record {
  due = broke.due;
  is_due = cut_run (record { file = f.file; has = f.has; holds = record { image = image; is_image = f.holds; cut = broke.is_due } });
  part = broke.part;
}
