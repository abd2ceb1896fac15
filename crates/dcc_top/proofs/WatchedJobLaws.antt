-- From what the watched run of an image answers to what is allowed for the job that asks for it.
use Rattle.std.proofs.Common.{◌≡◌, ℕ, List, Option, Some, sym, subst}
use Rattle.std.specs.Prelude.{Result, Ok, Err, IfOk, OnErr}
use Rattle.dcc_io.specs.declared.outside.Failed.{Failed}
use Rattle.dcc_machine.specs.declared.cpu.Cpu.{Cpu}
use Rattle.dcc_machine.specs.declared.image.Image.{Image}
use Rattle.dcc_prog.specs.declared.frame.Program.{Program}
use Rattle.dcc_prog.specs.Analysed.{IsProgramOf}
use Rattle.dcc_machine.specs.MzImage.{IsImageOf}
use Rattle.dcc_prog.specs.Refused.{IsSound}
use Rattle.dcc_pipe.specs.declared.no_text.NoText.TheVariants.{Refused}
use Rattle.dcc_top.specs.declared.reply.Reply.{Reply}
use Rattle.dcc_commands.specs.Words.{ExecuteWatched}
use Rattle.dcc_top.specs.Answer.{Files, OfFile, refused, AllowsWatched, image_watched, image_unwatched, IsCutWatched, Allows, watched_file, watched_no_file, IsCut, cut_watched}
use Rattle.dcc_top.specs.Change.{Change}
use Rattle.dcc_top.specs.Delivery.{Answers, CutsShort}
use Rattle.dcc_top.specs.Execution.{IsCutRun}
use Rattle.dcc_top.specs.WatchedRun.{watch_of, FinishesWatched}

-- the program is the one that the analyses find
pub program-own : (cpu : Cpu) (image : Image) (program : Program) → IsProgramOf cpu image program → IsProgramOf program.layout.cpu image program
program-own cpu image program is = subst (λ c. IsProgramOf c image program) (sym is.runs_on) is

-- what a watched run of the program that the analyses find answers is allowed for the image
pub image-of_watched : (cpu : Cpu) (image : Image) (program : Program) (steps : ℕ) (before left out now : Option (List ℕ)) (result : Result Reply Failed) → IsSound cpu image → IsProgramOf cpu image program →
    IfOk result (Answers (FinishesWatched program.layout.cpu image steps before left) out now) → IfOk result (Answers (AllowsWatched cpu image steps before left) out now)
image-of_watched cpu image program steps before left out now (Ok reply) sound is ran = record {
  output = ran.output;
  wrote = ran.wrote;
  is_answer = image_watched (record {
    sound = sound;
    program = program;
    is_program = is;
    finishes = subst (λ c. FinishesWatched c image steps before left reply ran.output) is.runs_on ran.is_answer;
  });
}
image-of_watched cpu image program steps before left out now (Err e) sound is ran = ran

pub image-cut_watched : (cpu : Cpu) (image : Image) (program : Program) (steps : ℕ) (input output : Change (Option (List ℕ))) (result : Result Reply Failed) → IsSound cpu image → IsProgramOf cpu image program →
    OnErr result (CutsShort (IsCutRun (watch_of image program) steps input output) output.before output.after) → OnErr result (CutsShort (IsCutWatched cpu image steps input output) output.before output.after)
image-cut_watched cpu image program steps input output (Ok reply) sound is broke = broke
image-cut_watched cpu image program steps input output (Err e) sound is broke = record {
  due = broke.due;
  is_due = record { sound = sound; program = program; is_program = is; cut = broke.is_due };
  part = broke.part;
}

-- what is allowed for the file's image is allowed for the job
allowed-watched : (told : Files) (name : List ℕ) (steps : ℕ) (cpu : Cpu) (image : Image) (before left : Option (List ℕ)) (reply : Reply) (output : List ℕ) → OfFile told name (λ file. IsImageOf file image) →
    AllowsWatched cpu image steps before left reply output → Allows told before left (Some (ExecuteWatched name steps cpu)) reply output
allowed-watched told name steps cpu image before left reply output f (image_watched w) =
    watched_file (record { file = f.file; has = f.has; holds = record { image = image; is_image = f.holds; watches = w } })
allowed-watched told name steps cpu image before left _ _ f (image_unwatched refusal h same) =
    watched_no_file (refused (Refused refusal) (record { file = f.file; has = f.has; holds = record { image = image; is_image = f.holds; refused = h } })) same

pub reply-of_watched : (told : Files) (name : List ℕ) (steps : ℕ) (cpu : Cpu) (image : Image) (before left out now : Option (List ℕ)) (result : Result Reply Failed) → OfFile told name (λ file. IsImageOf file image) →
    IfOk result (Answers (AllowsWatched cpu image steps before left) out now) → IfOk result (Answers (Allows told before left (Some (ExecuteWatched name steps cpu))) out now)
reply-of_watched told name steps cpu image before left out now (Ok reply) f ran = record {
  output = ran.output;
  wrote = ran.wrote;
  is_answer = allowed-watched told name steps cpu image before left reply ran.output f ran.is_answer;
}
reply-of_watched told name steps cpu image before left out now (Err e) f ran = ran

pub cut-of_watched : (told : Files) (name : List ℕ) (steps : ℕ) (cpu : Cpu) (image : Image) (input output : Change (Option (List ℕ))) (result : Result Reply Failed) → OfFile told name (λ file. IsImageOf file image) →
    OnErr result (CutsShort (IsCutWatched cpu image steps input output) output.before output.after) → OnErr result (CutsShort (IsCut told input output (Some (ExecuteWatched name steps cpu))) output.before output.after)
cut-of_watched told name steps cpu image input output (Ok reply) f broke = broke
cut-of_watched told name steps cpu image input output (Err e) f broke = record {
  due = broke.due;
  is_due = cut_watched (record { file = f.file; has = f.has; holds = record { image = image; is_image = f.holds; cut = broke.is_due } });
  part = broke.part;
}
