-- What the answers for an image say of its file.
use Rattle.std.proofs.Common.{◌≡◌, ℕ, List, [], Option, Some, refl, sym, ◌∙◌, subst}
use Rattle.std.specs.Prelude.{Result, Ok, Err, IfOk, OnErr}
use Rattle.dcc_io.specs.declared.outside.Failed.{Failed}
use Rattle.dcc_io.proofs.ToldLemmas.{append_told-nil}
use Rattle.dcc_machine.specs.declared.cpu.Cpu.{Cpu}
use Rattle.dcc_machine.specs.declared.image.Image.{Image}
use Rattle.dcc_machine.specs.Machine.{start_state}
use Rattle.dcc_machine.specs.MzImage.{IsImageOf}
use Rattle.dcc_prog.specs.declared.frame.Program.{Program}
use Rattle.dcc_prog.specs.Analysed.{IsProgramOf}
use Rattle.dcc_prog.specs.Refused.{IsSound}
use Rattle.dcc_list.specs.Listed.{IsListing}
use Rattle.dcc_trial.specs.declared.found.Trial.{Trial}
use Rattle.dcc_trial.specs.Lines.{AreLinesOf}
use Rattle.dcc_trial.specs.Trial.{IsTrial}
use Rattle.dcc_top.specs.declared.reply.Reply.{Reply}
use Rattle.dcc_commands.specs.declared.job.Product.{Product}
use Rattle.dcc_commands.specs.Words.{Make}
use Rattle.dcc_top.specs.Answer.{Files, OfFile, IsMadeOf, IsListingOf, TellsTrial, AllowsImage, image_made, image_refused, Makes, AllowsProduct, made_of_file, unmade, refused, Allows, for_product, IsCut, cut_product}
use Rattle.dcc_top.specs.Change.{Change, same}
use Rattle.dcc_top.specs.Delivery.{Answers, CutsShort}

-- two images of one file begin in the same state
pub same-start : (file : List ℕ) (a b : Image) (input : List ℕ) → IsImageOf file a → IsImageOf file b → start_state a input ≡ start_state b input
same-start file a b input p q =
    let bytes : a.bytes.items ≡ b.bytes.items = p.bytes ∙ sym q.bytes in
    let cs : a.cs ≡ b.cs = p.cs ∙ sym q.cs in
    let ip : a.ip ≡ b.ip = p.ip ∙ sym q.ip in
    let ss : a.ss ≡ b.ss = p.ss ∙ sym q.ss in
    let sp : a.sp ≡ b.sp = p.sp ∙ sym q.sp in
    cc

-- what is made of the file's image is that of the file
makes-image : (product : Product) (cpu : Cpu) (file made : List ℕ) (image : Image) → IsImageOf file image → IsMadeOf product cpu image made → Makes product cpu file made
makes-image product cpu file made image is m = record { image = image; is_image = is; is_made = m }

-- what is allowed for an image is allowed for the file that it is the image of
product-of_image : (product : Product) (cpu : Cpu) (told : Files) (name : List ℕ) (image : Image) (reply : Reply) (output : List ℕ) → OfFile told name (λ file. IsImageOf file image) → AllowsImage product cpu image reply output →
    AllowsProduct product cpu told name reply output
product-of_image product cpu told name image _ output f (image_made m) =
    made_of_file (record { file = f.file; has = f.has; holds = makes-image product cpu f.file output image f.holds m })
product-of_image product cpu told name image _ _ f (image_refused reason h) =
    unmade (refused reason (record { file = f.file; has = f.has; holds = record { image = image; is_image = f.holds; refused = h } }))

-- what is allowed for an image is allowed for the job that asks for its product, by which none of the input is read
pub answer-of_image : (product : Product) (cpu : Cpu) (told : Files) (name : List ℕ) (left : Option (List ℕ)) (image : Image) (out now : Option (List ℕ)) (result : Result Reply Failed) → OfFile told name
    (λ file. IsImageOf file image) → IfOk result (Answers (AllowsImage product cpu image) out now) → IfOk result (Answers (Allows told left left (Some (Make product name cpu))) out now)
answer-of_image product cpu told name left image out now (Ok reply) f a = record {
  output = a.output;
  wrote = a.wrote;
  is_answer = for_product (product-of_image product cpu told name image reply a.output f a.is_answer) refl;
}
answer-of_image product cpu told name left image out now (Err e) f a = a

pub cut-of_image : (product : Product) (cpu : Cpu) (told : Files) (name : List ℕ) (left : Option (List ℕ)) (image : Image) (output : Change (Option (List ℕ))) (result : Result Reply Failed) → OfFile told name
    (λ file. IsImageOf file image) → OnErr result (CutsShort (IsMadeOf product cpu image) output.before output.after) →
    OnErr result (CutsShort (IsCut told (same left) output (Some (Make product name cpu))) output.before output.after)
cut-of_image product cpu told name left image output (Ok reply) f c = c
cut-of_image product cpu told name left image output (Err e) f c = record {
  due = c.due;
  is_due = cut_product refl (record { file = f.file; has = f.has; holds = makes-image product cpu f.file c.due image f.holds c.is_due });
  part = c.part;
}

-- an answer after no output
pub answers-nothing : (P : Reply → List ℕ → Type 0) (out : Option (List ℕ)) (reply : Reply) → P reply [] → Answers P out out reply
answers-nothing P out reply p = record { output = []; wrote = sym (append_told-nil out); is_answer = p }

-- an answer after no output, where the stream is as before
pub answers-unchanged : (P : Reply → List ℕ → Type 0) (out now : Option (List ℕ)) (reply : Reply) → now ≡ out → P reply [] → Answers P out now reply
answers-unchanged P out now reply same p = subst (λ t. Answers P out t reply) (sym same) (answers-nothing P out reply p)

-- what is the listing of the program that the analyses found in the image
pub listing-of_image : (cpu : Cpu) (image : Image) (program : Program) (listed text : List ℕ) → IsSound cpu image
    → IsProgramOf cpu image program → IsListing image program listed → text ≡ listed → IsListingOf cpu image text
listing-of_image cpu image program listed text sound found is same = record {
  sound = sound;
  program = program;
  is_program = found;
  listed = subst (λ l. IsListing image program l) (sym same) is;
}

-- the lines of what a trial has found
pub lines-of_trial : (seed size steps : ℕ) (trial : Trial) (told lines : List ℕ) → IsTrial seed size steps trial
    → AreLinesOf trial told → lines ≡ told → TellsTrial seed size steps lines
lines-of_trial seed size steps trial told lines is are same =
    record { trial = trial; is_trial = is; are_lines = subst (λ l. AreLinesOf trial l) (sym same) are }
