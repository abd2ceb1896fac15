-- The statuses of answers.
use Rattle.std.proofs.Common.{◌≡◌, ◌⊎◌, ℕ, Bool, true, false, inl, inr, List, [], ◌∷◌, Option, refl, sym, ap, ◌∙◌, subst, arith}
use Rattle.std.proofs.lemmas.Bool.{eq-eqb, or_right}
use Rattle.std.specs.Prelude.{◌&&◌, ◌||◌, not, eqb}
use Rattle.std.specs.Prelude.{Result, Ok, Err, IfOk}
use Rattle.dcc_io.specs.declared.outside.Failed.{Failed}
use Rattle.dcc_machine.specs.declared.cpu.Cpu.{Cpu}
use Rattle.dcc_machine.specs.declared.image.Image.{Image}
use Rattle.dcc_prog.specs.declared.frame.Program.{Program}
use Rattle.dcc_run.specs.End.{End, Running, Exit, Divide, Outside as outside, Stuck as stuck}
use Rattle.dcc_pipe.specs.declared.no_text.NoText.{NoText}
use Rattle.dcc_pipe.specs.declared.no_text.NoText.TheVariants.{Refused, NotYet as NotYetFor}
use Rattle.dcc_prog.specs.declared.refusal.Refusal.TheVariants.{Construct as ConstructRefused, Limit as LimitRefused, Memory as MemoryRefused}
use Rattle.dcc_mz.specs.declared.fault.MzFault.{MzFault}
use Rattle.dcc_mz.specs.declared.fault.MzFault.TheVariants.{Memory as NoImageMemory}
use Rattle.dcc_trial.specs.declared.found.NoTrial.{NoTrial}
use Rattle.dcc_trial.specs.declared.found.NoTrial.TheVariants.{Format as NoFormat, Refused as Untextable, Outside as RanOutside, Memory as TrialMemory}
use Rattle.dcc_machine.proofs.TableLaws.{and_right}
use Rattle.dcc_top.specs.declared.reply.Reply.{Reply}
use Rattle.dcc_top.specs.declared.reply.Reply.TheVariants.{Done, NoFile, FileFault, InputFault, Memory}
use Rattle.dcc_top.specs.Execution.{Subject, end_reply, Finishes, ended, stopped_at_read, not_begun, FinishesOrStops, finishes, found_none}
use Rattle.dcc_top.specs.Answer.{Files, HasNoFile, no_file, file_fault, no_memory, HasNoImage, no_executable, misshapen, HasNoUnit, no_text, offends, IsUnassembled, no_listing, misspelled, AllowsAssembly, assembled, unassembled, AllowsImage, image_made, image_refused, IsUnmade, refused, no_image, AllowsProduct, made_of_file, unmade, AllowsWatched, image_watched, image_unwatched, AllowsTrial, tried, untried, status_of, fault_reply, reason_reply, no_trial_reply}
use Rattle.dcc_top.specs.WatchedRun.{FinishesWatched, stayed_clean, met_foul, clean_to_read, lacked_memory}
use Rattle.dcc_top.specs.Status.{IsOneOf, end_status}
use Rattle.dcc_commands.specs.declared.job.Product.{Product}
use Rattle.dcc_top.specs.Delivery.{Answers}

-- Lists of statuses.

abbrev pub is_member : ℕ → List ℕ → Bool
is_member n [] = false
is_member n (m ∷ ms) = eqb n m || is_member n ms

-- no number of the one list is in the other
abbrev pub are_apart : List ℕ → List ℕ → Bool
are_apart [] ms = true
are_apart (n ∷ ns) ms = not (is_member n ms) && are_apart ns ms

pub member-of : (n : ℕ) (ms : List ℕ) → IsOneOf n ms → is_member n ms ≡ true
member-of n [] x = elim x [ ]
member-of n (m ∷ ms) (inl is) = ap (λ b. b || is_member n ms) (eq-eqb n m is)
member-of n (m ∷ ms) (inr more) = or_right (eqb n m) (is_member n ms) (member-of n ms more)

-- a status is not one of two lists that are apart
pub apart : (status : ℕ) (ns ms : List ℕ) → are_apart ns ms ≡ true → IsOneOf status ns → IsOneOf status ms → ⊥
apart status [] ms far x m = elim x [ ]
apart status (n ∷ ns) ms far (inl is) m =
    let found : is_member n ms ≡ true = ap (λ k. is_member k ms) (sym is) ∙ member-of status ms m in
    let bad : false ≡ true = sym (ap (λ b. not b && are_apart ns ms) found) ∙ far in
    cc
apart status (n ∷ ns) ms far (inr more) m =
    apart status ns ms (and_right (not (is_member n ms)) (are_apart ns ms) far) more m

-- The answer of a status.

pub status-not_six : (reply : Reply) → status_of reply ≡ 6 → ⊥
status-not_six Done h = omega (arith, h)
status-not_six _ h = omega (arith, h)

pub reply-at_3 : (reply : Reply) → status_of reply ≡ 3 → reply ≡ NoFile
reply-at_3 NoFile h = refl
reply-at_3 _ h = absurd (omega (arith, h))

pub reply-at_4 : (reply : Reply) → status_of reply ≡ 4 → reply ≡ FileFault
reply-at_4 FileFault h = refl
reply-at_4 _ h = absurd (omega (arith, h))

pub reply-at_5 : (reply : Reply) → status_of reply ≡ 5 → reply ≡ InputFault
reply-at_5 InputFault h = refl
reply-at_5 _ h = absurd (omega (arith, h))

pub reply-at_7 : (reply : Reply) → status_of reply ≡ 7 → reply ≡ Memory
reply-at_7 Memory h = refl
reply-at_7 _ h = absurd (omega (arith, h))

-- The statuses of the answers that are allowed.

-- the statuses where no file could be had
pub no_file-status : (told : Files) (name : List ℕ) (reply : Reply) → HasNoFile told name reply → IsOneOf (status_of reply) (3 ∷ (4 ∷ (7 ∷ [])))
no_file-status told name _ (no_file lacks) = inl refl
no_file-status told name _ file_fault = inr (inl refl)
no_file-status told name _ no_memory = inr (inr (inl refl))

abbrev pub image_faults : List ℕ
image_faults = 8 ∷ (3 ∷ (4 ∷ (7 ∷ [])))

pub no_image-status : (told : Files) (name : List ℕ) (reply : Reply) → HasNoImage told name reply → IsOneOf (status_of reply) image_faults
no_image-status told name reply (no_executable h) = inr (no_file-status told name reply h)
no_image-status told name _ (misshapen f) = inl refl

abbrev pub text_faults : List ℕ
text_faults = 11 ∷ (3 ∷ (4 ∷ (7 ∷ [])))

pub no_unit-status : (told : Files) (name : List ℕ) (reply : Reply) → HasNoUnit told name reply → IsOneOf (status_of reply) text_faults
no_unit-status told name reply (no_text h) = inr (no_file-status told name reply h)
no_unit-status told name _ (offends f) = inl refl

-- the statuses of a listing that is not assembled, and those of the job
abbrev pub listing_faults : List ℕ
listing_faults = 25 ∷ (3 ∷ (4 ∷ (7 ∷ [])))

pub unassembled-status : (told : Files) (name : List ℕ) (reply : Reply) → IsUnassembled told name reply → IsOneOf (status_of reply) listing_faults
unassembled-status told name reply (no_listing h) = inr (no_file-status told name reply h)
unassembled-status told name _ (misspelled f) = inl refl

abbrev pub assembly_statuses : List ℕ
assembly_statuses = 0 ∷ listing_faults

pub assembly-status : (told : Files) (name : List ℕ) (reply : Reply) (output : List ℕ) → AllowsAssembly told name reply output → IsOneOf (status_of reply) assembly_statuses
assembly-status told name _ output (assembled f) = inl refl
assembly-status told name reply _ (unassembled h) = inr (unassembled-status told name reply h)

-- the statuses of a refusal
abbrev pub refusals : List ℕ
refusals = 7 ∷ (9 ∷ (10 ∷ (12 ∷ [])))

pub reason-status : (reason : NoText) → IsOneOf (status_of (reason_reply reason)) refusals
reason-status (Refused (ConstructRefused kind at)) = inr (inl refl)
reason-status (Refused (LimitRefused what count)) = inr (inr (inl refl))
reason-status (Refused MemoryRefused) = inl refl
reason-status (NotYetFor at) = inr (inr (inr (inl refl)))

pub image-status : (product : Product) (cpu : Cpu) (image : Image) (reply : Reply) (output : List ℕ) → AllowsImage product cpu image reply output → IsOneOf (status_of reply) (0 ∷ refusals)
image-status product cpu image _ output (image_made m) = inl refl
image-status product cpu image _ _ (image_refused reason h) = inr (reason-status reason)

-- the statuses where nothing is made of an executable
abbrev pub unmade_statuses : List ℕ
unmade_statuses = 9 ∷ (10 ∷ (12 ∷ (8 ∷ (3 ∷ (4 ∷ (7 ∷ []))))))

among-unmade : (reason : NoText) → IsOneOf (status_of (reason_reply reason)) unmade_statuses
among-unmade (Refused (ConstructRefused kind at)) = inl refl
among-unmade (Refused (LimitRefused what count)) = inr (inl refl)
among-unmade (Refused MemoryRefused) = inr (inr (inr (inr (inr (inr (inl refl))))))
among-unmade (NotYetFor at) = inr (inr (inl refl))

pub unmade-status : (product : Product) (cpu : Cpu) (told : Files) (name : List ℕ) (reply : Reply) → IsUnmade product cpu told name reply →
    IsOneOf (status_of reply) unmade_statuses
unmade-status product cpu told name _ (refused reason f) = among-unmade reason
unmade-status product cpu told name reply (no_image h) = inr (inr (inr (no_image-status told name reply h)))

-- the statuses of what is made of an executable
abbrev pub product_statuses : List ℕ
product_statuses = 0 ∷ unmade_statuses

pub product-status : (product : Product) (cpu : Cpu) (told : Files) (name : List ℕ) (reply : Reply) (output : List ℕ) → AllowsProduct product cpu told name reply output →
    IsOneOf (status_of reply) product_statuses
product-status product cpu told name _ output (made_of_file f) = inl refl
product-status product cpu told name reply _ (unmade h) = inr (unmade-status product cpu told name reply h)

-- the statuses where there is no trial
abbrev pub untried_statuses : List ℕ
untried_statuses = 8 ∷ (22 ∷ refusals)

pub fault-status : (fault : MzFault) → (status_of (fault_reply fault) ≡ 8) ⊎ (status_of (fault_reply fault) ≡ 7)
fault-status NoImageMemory = inr refl
fault-status _ = inl refl

among-untried : (n : ℕ) → (n ≡ 8) ⊎ (n ≡ 7) → IsOneOf n untried_statuses
among-untried n (inl eight) = inl eight
among-untried n (inr seven) = inr (inr (inl seven))

pub untried-status : (reason : NoTrial) → IsOneOf (status_of (no_trial_reply reason)) untried_statuses
untried-status (NoFormat fault) = among-untried (status_of (fault_reply fault)) (fault-status fault)
untried-status (Untextable reason) = inr (inr (reason-status reason))
untried-status (RanOutside at) = inr (inl refl)
untried-status TrialMemory = inr (inr (inl refl))

-- the statuses of a trial
abbrev pub trial_statuses : List ℕ
trial_statuses = 0 ∷ untried_statuses

pub trial-status : (seed size steps : ℕ) (reply : Reply) (output : List ℕ) → AllowsTrial seed size steps reply output
    → IsOneOf (status_of reply) trial_statuses
trial-status seed size steps _ output (tried t) = inl refl
trial-status seed size steps _ _ (untried reason h) = inr (untried-status reason)

-- the status of a run that has ended
pub end-status : (steps : ℕ) (end : End) → status_of (end_reply steps end) ≡ end_status end
end-status steps Running = refl
end-status steps (Exit code) = refl
end-status steps Divide = refl
end-status steps (outside at) = refl
end-status steps (stuck line) = refl

-- the statuses of a run
pub end_status-one : (end : End) → IsOneOf (end_status end) (0 ∷ (20 ∷ (21 ∷ (22 ∷ (24 ∷ [])))))
end_status-one Running = inr (inl refl)
end_status-one (Exit code) = inl refl
end_status-one Divide = inr (inr (inl refl))
end_status-one (outside at) = inr (inr (inr (inl refl)))
end_status-one (stuck line) = inr (inr (inr (inr (inl refl))))

abbrev pub run_statuses : List ℕ
run_statuses = 5 ∷ (7 ∷ (23 ∷ (0 ∷ (20 ∷ (21 ∷ (22 ∷ (24 ∷ [])))))))

among-run : (steps : ℕ) (end : End) → IsOneOf (status_of (end_reply steps end)) run_statuses
among-run steps end =
    inr (inr (inr (subst (λ n. IsOneOf n (0 ∷ (20 ∷ (21 ∷ (22 ∷ (24 ∷ [])))))) (sym (end-status steps end)) (end_status-one end))))

pub run-status : {S : Type 0} (subject : Subject S) (steps : ℕ) (before left : Option (List ℕ)) (reply : Reply) (output : List ℕ) → Finishes subject steps before left reply output → IsOneOf
    (status_of reply) run_statuses
run-status subject steps before left _ output (ended end h) = among-run steps end
run-status subject steps before left _ output (stopped_at_read h) = inl refl
run-status subject steps before left _ _ (not_begun same) = inr (inl refl)

pub text_run-status : {S : Type 0} (subject : Subject S) (steps : ℕ) (before left : Option (List ℕ)) (reply : Reply) (output : List ℕ) → FinishesOrStops subject steps before left reply output →
    IsOneOf (status_of reply) run_statuses
text_run-status subject steps before left reply output (finishes h) =
    run-status subject steps before left reply output h
text_run-status subject steps before left _ output (found_none h) = inr (inl refl)

-- the statuses of a watched run
pub watched_run-status : (cpu : Cpu) (image : Image) (steps : ℕ) (before left : Option (List ℕ)) (reply : Reply) (output : List ℕ)
    → FinishesWatched cpu image steps before left reply output → IsOneOf (status_of reply) run_statuses
watched_run-status cpu image steps before left _ output (stayed_clean end h) = among-run steps end
watched_run-status cpu image steps before left _ output (met_foul foul h) = inr (inr (inl refl))
watched_run-status cpu image steps before left _ output (clean_to_read h) = inl refl
watched_run-status cpu image steps before left _ _ (lacked_memory h) = inr (inl refl)

-- the statuses of a watched run, which may be refused
abbrev pub watched_statuses : List ℕ
watched_statuses = 9 ∷ (10 ∷ run_statuses)

pub watched-status : (cpu : Cpu) (image : Image) (steps : ℕ) (before left : Option (List ℕ)) (reply : Reply) (output : List ℕ)
    → AllowsWatched cpu image steps before left reply output → IsOneOf (status_of reply) watched_statuses
watched-status cpu image steps before left reply output (image_watched w) =
    inr (inr (watched_run-status cpu image steps before left reply output w.finishes))
watched-status cpu image steps before left _ _ (image_unwatched (ConstructRefused kind at) h same) = inl refl
watched-status cpu image steps before left _ _ (image_unwatched (LimitRefused what count) h same) = inr (inl refl)
watched-status cpu image steps before left _ _ (image_unwatched MemoryRefused h same) = inr (inr (inr (inl refl)))

-- an answer with one of these statuses is not another
pub other-than : (reply other : Reply) (ns : List ℕ) → are_apart (status_of other ∷ []) ns ≡ true → IsOneOf (status_of reply) ns → reply ≡ other → ⊥
other-than reply other ns far is same =
    apart (status_of reply) (status_of other ∷ []) ns far (inl (ap status_of same)) is

-- an answer that has none of these statuses is not given
pub never : (P : Reply → List ℕ → Type 0) (ns : List ℕ) → ((reply : Reply) (output : List ℕ) → P reply output → IsOneOf (status_of reply) ns) → (other : Reply) → are_apart
    (status_of other ∷ []) ns ≡ true → (A : Type 0) (out now : Option (List ℕ)) (result : Result Reply Failed) → IfOk result (Answers P out now) → IfOk result (λ reply. reply ≡ other → A)
never P ns each other far A out now (Ok reply) a = λ is.
    absurd (apart (status_of reply) (status_of other ∷ []) ns far (inl (ap status_of is)) (each reply a.output a.is_answer))
never P ns each other far A out now (Err e) a = a
