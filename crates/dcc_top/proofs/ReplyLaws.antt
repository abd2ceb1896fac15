-- From a file that was fetched, or was not, to the answer to a job.
use Rattle.std.proofs.Common.{◌≡◌, ℕ, ◌≤◌, ◌⊎◌, true, inl, inr, List, [], ◌∷◌, ◌++◌, Option, Some, None, refl, ap, sym, ◌∙◌, subst, arith}
use Rattle.std.proofs.lemmas.List.{append-nil}
use Rattle.std.specs.Prelude.{Result, Ok, Err, IfOk, OnErr, MatchResult, IsErrOf}
use Rattle.std.specs.Result.{IsErr}
use Rattle.dcc_console.specs.Counts.{CountsFaults}
use Rattle.dcc_io.specs.declared.outside.Failed.{Failed}
use Rattle.dcc_machine.specs.declared.cpu.Cpu.{Cpu}
use Rattle.dcc_machine.specs.declared.image.Image.{Image}
use Rattle.dcc_machine.specs.MzImage.{IsImageOf}
use Rattle.dcc_asm.specs.Fault.{IsAssembled}
use Rattle.dcc_run.proofs.PrefixLaws.{prefix_refl, prefix_nil}
use Rattle.dcc_top.specs.declared.reply.Reply.{Reply}
use Rattle.dcc_top.specs.declared.reply.Reply.TheVariants.{Done, Usage, NoFile, FileFault, InputFault, Memory}
use Rattle.dcc_commands.specs.declared.job.Product.{Product}
use Rattle.dcc_commands.specs.Words.{Job, Make, Assemble, Try, IsSize}
use Rattle.dcc_top.specs.Jobs.{greatest_file, greatest_text, requests_in, requests_of}
use Rattle.dcc_top.specs.Answer.{Files, Allows, no_job, for_assembly, for_trial, IsCut, cut_assembly, cut_trial, assembled, HasNoImage, OfFile, AllowsImage, IsMadeOf, AllowsTrial, TellsTrial, status_of}
use Rattle.dcc_top.specs.Call.{ShelfChange, SourceChange, SinkChange, Change, same, Requests, Rises, Appends, AppendsPart, unasked, unread, unwritten}
use Rattle.dcc_top.specs.Causes.{AsksAll, AsksPrefix, AsksOnce, Replies}
use Rattle.dcc_top.specs.Delivery.{Answers, CutsShort}
use Rattle.dcc_top.specs.Status.{IsOneOf}
use Rattle.dcc_top.proofs.AnswerLaws.{answers-nothing, answer-of_image, cut-of_image}
use Rattle.dcc_top.proofs.StatusLaws.{are_apart, image_faults, refusals, trial_statuses, trial-status, no_image-status, image-status, never, other-than}

-- what holds of every answer but want of memory holds of one that is no error
found : {T : Type 0} (x : T) (A : Type 0) → IsErrOf {E = Reply} (Ok x) Memory ⊎ A → A
found x A (inl bad) = cc
found x A (inr a) = a

whatever : (A : Type 0) (result : Result Reply Failed) → A → MatchResult result (λ reply. (reply ≡ Memory) ⊎ A) (λ _. A)
whatever A (Ok reply) a = inr a
whatever A (Err failed) a = a

-- one request is all that the job asks for
asks-all : (job : Job) (name : List ℕ) (most : ℕ) → requests_in job ≡ (name, most) ∷ [] → (asked : Change Requests)
    → asked.after ≡ asked.before ++ (name, most) ∷ [] → AsksAll (Some job) asked
asks-all job name most is asked all = all ∙ ap (λ requests. asked.before ++ requests) (sym is)

asks-prefix : (job : Job) (name : List ℕ) (most : ℕ) → requests_in job ≡ (name, most) ∷ [] → (asked : Change Requests)
    → (asked.after ≡ asked.before ++ (name, most) ∷ []) ⊎ (asked.after ≡ asked.before) → AsksPrefix (Some job) asked
asks-prefix job name most is asked (inl all) =
    (requests_in job, prefix_refl (requests_in job), asks-all job name most is asked all)
asks-prefix job name most is asked (inr same) =
    ([], prefix_nil (requests_in job), same ∙ sym (append-nil asked.before))

-- the file of the job was fetched, and what was done with it answers the job
pub replies-fetched : {T : Type 0} (job : Job) (name : List ℕ) (most : ℕ) → requests_in job ≡ (name, most) ∷ []
    → (shelf : ShelfChange) (input : SourceChange) (output : SinkChange) (result : Result Reply Failed) (x : T)
    → AsksOnce name most shelf (Ok x)
    → IfOk result (Answers (Allows shelf.files input.left.before input.left.after (Some job)) output.taken.before
    output.taken.after)
    → OnErr result (CutsShort (IsCut shelf.files input.left output.taken (Some job)) output.taken.before
    output.taken.after)
    → IfOk result (λ reply. reply ≡ NoFile → Rises shelf.absences)
    → IfOk result (λ reply. reply ≡ FileFault → Rises shelf.faults)
    → IfOk result (λ reply. reply ≡ InputFault → Rises input.faults)
    → output.faults.before ≤ output.faults.after
    → OnErr result (Rises output.faults)
    → Replies (Some job) shelf input output result
replies-fetched job name most is shelf input output result x asks allowed broke absent failed read counts write = record {
  allowed = allowed;
  broke_off = broke;
  asked = whatever (AsksAll (Some job) shelf.asked) result (asks-all job name most is shelf.asked (found x
      (shelf.asked.after ≡ shelf.asked.before ++ (name, most) ∷ []) asks.asked));
  asked_prefix = asks-prefix job name most is shelf.asked asks.asked_prefix;
  absent = absent;
  failed = failed;
  read_failed = read;
  output_faults = counts;
  write_failed = write;
}

-- faults that are told of an answer, or of an error
ok-read : (result : Result Reply Failed) {A : Type 0} → (result ≡ Ok InputFault → A)
    → IfOk result (λ reply. reply ≡ InputFault → A)
ok-read (Ok reply) h = λ is. h (ap Ok is)
ok-read (Err failed) h = tt

err-write : (result : Result Reply Failed) {A : Type 0} → (IsErr result → A) → OnErr result A
err-write (Ok reply) h = tt
err-write (Err failed) h = h refl

-- the file was run: by the statuses of a run no answer is that of a file that is not to be had
pub replies-run : {T : Type 0} (P : Reply → List ℕ → Type 0) (ns : List ℕ)
    → ((reply : Reply) (output : List ℕ) → P reply output → IsOneOf (status_of reply) ns)
    → are_apart (status_of NoFile ∷ []) ns ≡ true → are_apart (status_of FileFault ∷ []) ns ≡ true
    → (job : Job) (name : List ℕ) (most : ℕ) → requests_in job ≡ (name, most) ∷ []
    → (shelf : ShelfChange) (input : SourceChange) (output : SinkChange) (result : Result Reply Failed) (x : T)
    → AsksOnce name most shelf (Ok x)
    → IfOk result (Answers P output.taken.before output.taken.after)
    → IfOk result (Answers (Allows shelf.files input.left.before input.left.after (Some job)) output.taken.before
    output.taken.after)
    → OnErr result (CutsShort (IsCut shelf.files input.left output.taken (Some job)) output.taken.before
    output.taken.after)
    → CountsFaults (result ≡ Ok InputFault) (IsErr result) input.faults.before input.faults.after output.faults.before
    output.faults.after
    → Replies (Some job) shelf input output result
replies-run P ns each no_file no_fault job name most is shelf input output result x asks ran allowed broke counts =
    replies-fetched job name most is shelf input output result x asks allowed broke
    (never P ns each NoFile no_file (Rises shelf.absences) output.taken.before output.taken.after result ran)
    (never P ns each FileFault no_fault (Rises shelf.faults) output.taken.before output.taken.after result ran)
    (ok-read result counts.read_failed) counts.output_faults (err-write result counts.write_failed)

-- something was made of its image, by which none of the input is read
pub replies-made : (product : Product) (name : List ℕ) (cpu : Cpu) (shelf : ShelfChange) (left : Option (List ℕ))
    (read_faults : ℕ) (output : SinkChange) (result : Result Reply Failed) (image : Image)
    → AsksOnce name greatest_file shelf (Ok image)
    → OfFile shelf.files name (λ file. IsImageOf file image)
    → IfOk result (Answers (AllowsImage product cpu image) output.taken.before output.taken.after)
    → OnErr result (CutsShort (IsMadeOf product cpu image) output.taken.before output.taken.after)
    → output.faults.before ≤ output.faults.after
    → OnErr result (Rises output.faults)
    → Replies (Some (Make product name cpu)) shelf (unread left read_faults) output result
replies-made product name cpu shelf left read_faults output result image asks is_image answers cut_short counts write =
    let other : (reply : Reply) → are_apart (status_of reply ∷ []) (0 ∷ refusals) ≡ true → (A : Type 0)
    → IfOk result (λ r. r ≡ reply → A) =
    λ reply far A. never (AllowsImage product cpu image) (0 ∷ refusals) (image-status product cpu image) reply far A
    output.taken.before output.taken.after result answers in
    replies-fetched (Make product name cpu) name greatest_file refl shelf (unread left read_faults) output result image asks
    (answer-of_image product cpu shelf.files name left image output.taken.before output.taken.after result is_image
    answers)
    (cut-of_image product cpu shelf.files name left image output.taken result is_image cut_short)
    (other NoFile refl (Rises shelf.absences)) (other FileFault refl (Rises shelf.faults))
    (other InputFault refl (Rises (unread left read_faults).faults))
    counts write

-- the file was not fetched, and the answer says why
pub replies-unfetched : {T : Type 0} (job : Job) (name : List ℕ) (most : ℕ) → requests_in job ≡ (name, most) ∷ []
    → (shelf : ShelfChange) (left : Option (List ℕ)) (read_faults : ℕ) (taken : Option (List ℕ)) (write_faults : ℕ)
    (reply : Reply)
    → AsksOnce {T = T} name most shelf (Err reply)
    → Allows shelf.files left left (Some job) reply []
    → (reply ≡ InputFault → ⊥)
    → Replies (Some job) shelf (unread left read_faults) (unwritten taken write_faults) (Ok reply)
replies-unfetched {T = T} job name most is shelf left read_faults taken write_faults reply asks allowed no_read = record {
  allowed = answers-nothing (Allows shelf.files left left (Some job)) taken reply allowed;
  broke_off = tt;
  asked = elim asks.asked [
    | inl memory ↦ inl (let both = memory in cc)
    | inr all ↦ inr (asks-all job name most is shelf.asked all)
  ];
  asked_prefix = asks-prefix job name most is shelf.asked asks.asked_prefix;
  absent = λ is. asks.absent (ap Err is);
  failed = λ is. asks.failed (ap Err is);
  read_failed = λ is. absurd (no_read is);
  output_faults = omega arith;
  write_failed = tt;
}

-- an executable was not fetched, and the answer says why
pub replies-no_image : {T : Type 0} (job : Job) (name : List ℕ) → requests_in job ≡ (name, greatest_file) ∷ []
    → (shelf : ShelfChange) (left : Option (List ℕ)) (read_faults : ℕ) (taken : Option (List ℕ)) (write_faults : ℕ)
    (reply : Reply)
    → AsksOnce {T = T} name greatest_file shelf (Err reply)
    → HasNoImage shelf.files name reply
    → Allows shelf.files left left (Some job) reply []
    → Replies (Some job) shelf (unread left read_faults) (unwritten taken write_faults) (Ok reply)
replies-no_image {T = T} job name is shelf left read_faults taken write_faults reply asks none allowed =
    replies-unfetched {T = T} job name greatest_file is shelf left read_faults taken write_faults reply asks allowed
    (other-than reply InputFault image_faults refl (no_image-status shelf.files name reply none))

-- the listing was fetched and assembled, and its bytes were written, or a part of them
pub replies-assembled : {T : Type 0} (name bytes : List ℕ) (shelf : ShelfChange) (left : Option (List ℕ))
    (read_faults : ℕ) (output : SinkChange) (x : T)
    → AsksOnce name greatest_text shelf (Ok x)
    → OfFile shelf.files name (λ text. IsAssembled text bytes)
    → Appends output bytes
    → output.faults.before ≤ output.faults.after
    → Replies (Some (Assemble name)) shelf (unread left read_faults) output (Ok Done)
replies-assembled name bytes shelf left read_faults output x asks is_assembled wrote counts =
    replies-fetched (Assemble name) name greatest_text refl shelf (unread left read_faults) output (Ok Done) x asks
    (record { output = bytes; wrote = wrote; is_answer = for_assembly (assembled is_assembled) refl })
    tt (λ bad. cc) (λ bad. cc) (λ bad. cc) counts tt

pub replies-part_assembled : {T : Type 0} (name bytes : List ℕ) (shelf : ShelfChange) (left : Option (List ℕ))
    (read_faults : ℕ) (output : SinkChange) (failed : Failed) (x : T)
    → AsksOnce name greatest_text shelf (Ok x)
    → OfFile shelf.files name (λ text. IsAssembled text bytes)
    → AppendsPart output bytes
    → output.faults.before ≤ output.faults.after
    → Rises output.faults
    → Replies (Some (Assemble name)) shelf (unread left read_faults) output (Err failed)
replies-part_assembled name bytes shelf left read_faults output failed x asks is_assembled part counts rose =
    replies-fetched (Assemble name) name greatest_text refl shelf (unread left read_faults) output (Err failed) x asks
    tt (record { due = bytes; is_due = cut_assembly refl is_assembled; part = part }) tt tt tt counts rose

-- a trial was made, or there is none; nothing is asked of the shelf, and nothing is read
trial-allowed : (files : Files) (left : Option (List ℕ)) (seed size steps : ℕ) → IsSize size
    → (out now : Option (List ℕ)) (result : Result Reply Failed) → IfOk result (Answers (AllowsTrial seed size steps) out now)
    → IfOk result (Answers (Allows files left left (Some (Try seed size steps))) out now)
trial-allowed files left seed size steps sized out now (Ok reply) a =
    record { output = a.output; wrote = a.wrote; is_answer = for_trial sized a.is_answer refl }
trial-allowed files left seed size steps sized out now (Err failed) a = tt

trial-cut : (files : Files) (left : Option (List ℕ)) (seed size steps : ℕ) (output : Change (Option (List ℕ)))
    (result : Result Reply Failed)
    → OnErr result (CutsShort (TellsTrial seed size steps) output.before output.after)
    → OnErr result (CutsShort (IsCut files (same left) output (Some (Try seed size steps))) output.before output.after)
trial-cut files left seed size steps output (Ok reply) c = tt
trial-cut files left seed size steps output (Err failed) c =
    record { due = c.due; is_due = cut_trial refl c.is_due; part = c.part }

pub replies-trial : (seed size steps : ℕ) → IsSize size → (files : Files) (requests : Requests) (absences shelf_faults : ℕ)
    (left : Option (List ℕ)) (read_faults : ℕ) (output : SinkChange) (result : Result Reply Failed)
    → IfOk result (Answers (AllowsTrial seed size steps) output.taken.before output.taken.after)
    → OnErr result (CutsShort (TellsTrial seed size steps) output.taken.before output.taken.after)
    → output.faults.before ≤ output.faults.after
    → OnErr result (Rises output.faults)
    → Replies (Some (Try seed size steps)) (unasked files requests absences shelf_faults) (unread left read_faults)
    output result
replies-trial seed size steps sized files requests absences shelf_faults left read_faults output result answers cut counts
    write =
    let nothing : requests ≡ requests ++ [] = sym (append-nil requests) in
    let other : (reply : Reply) → are_apart (status_of reply ∷ []) trial_statuses ≡ true → (A : Type 0)
    → IfOk result (λ r. r ≡ reply → A) =
    λ reply far A. never (AllowsTrial seed size steps) trial_statuses (trial-status seed size steps) reply far A
    output.taken.before output.taken.after result answers in
    record {
      allowed = trial-allowed files left seed size steps sized output.taken.before output.taken.after result answers;
      broke_off = trial-cut files left seed size steps output.taken result cut;
      asked = whatever (requests ≡ requests ++ []) result nothing;
      asked_prefix = ([], prefix_nil [], nothing);
      absent = other NoFile refl (Rises (unasked files requests absences shelf_faults).absences);
      failed = other FileFault refl (Rises (unasked files requests absences shelf_faults).faults);
      read_failed = other InputFault refl (Rises (unread left read_faults).faults);
      output_faults = counts;
      write_failed = write;
    }

-- the answer of words that are no command, of which nothing is asked
pub replies-usage : (job : Option Job) (shelf : ShelfChange) (left : Option (List ℕ)) (read_faults : ℕ)
    (taken : Option (List ℕ)) (write_faults : ℕ)
    → job ≡ None
    → shelf.asked.after ≡ shelf.asked.before
    → Replies job shelf (unread left read_faults) (unwritten taken write_faults) (Ok Usage)
replies-usage job shelf left read_faults taken write_faults none same =
    let nothing : shelf.asked.after ≡ shelf.asked.before ++ [] = same ∙ sym (append-nil shelf.asked.before) in
    subst (λ j. Replies j shelf (unread left read_faults) (unwritten taken write_faults) (Ok Usage)) (sym none)
    (record {
      allowed = answers-nothing (Allows shelf.files left left None) taken Usage (no_job refl);
      broke_off = tt;
      asked = inr nothing;
      asked_prefix = ([], prefix_nil [], nothing);
      absent = λ bad. cc;
      failed = λ bad. cc;
      read_failed = λ bad. cc;
      output_faults = omega arith;
      write_failed = tt;
    })
