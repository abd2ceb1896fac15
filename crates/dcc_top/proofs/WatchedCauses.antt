-- What the status of a watched run says.
use Rattle.std.proofs.Common.{◌≡◌, ℕ, inl, inr, List, [], ◌∷◌, Option, Some, None, refl, sym, ap, ◌∙◌, subst}
use Rattle.dcc_machine.specs.declared.cpu.Cpu.{Cpu}
use Rattle.dcc_machine.specs.declared.image.Image.{Image}
use Rattle.dcc_prog.specs.declared.frame.Program.{Program}
use Rattle.dcc_machine.specs.MzImage.{IsImageOf}
use Rattle.dcc_prog.specs.Analysed.{IsProgramOf}
use Rattle.dcc_prog.specs.Refused.{IsSound}
use Rattle.dcc_top.specs.declared.reply.Reply.{Reply}
use Rattle.dcc_commands.specs.Words.{Job, ExecuteWatched, Try}
use Rattle.dcc_top.specs.Jobs.{IsExecution, file_in}
use Rattle.dcc_top.specs.Answer.{Runs, WatchesFile, ShelfHas, status_of, line_of}
use Rattle.dcc_top.specs.Call.{Call, Appends}
use Rattle.dcc_top.specs.Causes.{IsAnswered, HasRunFile, HasCleanRun, HasFoulStep, IsUntried}
use Rattle.dcc_top.specs.Execution.{end_reply}
use Rattle.dcc_top.specs.WatchedRun.{FinishesWatched, stayed_clean, met_foul, clean_to_read, lacked_memory}
use Rattle.dcc_top.specs.Status.{IsOneOf}
use Rattle.dcc_top.specs.Status as exit
use Rattle.dcc_top.proofs.StatusLaws.{apart, end-status, end_status-one}
use Rattle.dcc_top.proofs.CauseLaws.{exited, ran}

-- the job that is named is the one that is known
same-job : (a b : Job) → Some a ≡ Some b → a ≡ b
same-job a b same = cc

same-name : (a b : List ℕ) → Some a ≡ Some b → a ≡ b
same-name a b same = cc

-- a run of an executable that has ended, or goes on, has put something out or not
ends-run : (status : ℕ) → IsOneOf status exit.ends → IsOneOf status (exit.done ∷ exit.stops)
ends-run status (inl done) = inl done
ends-run status (inr (inl unfinished)) = inr (inr (inl unfinished))
ends-run status (inr (inr (inl divided))) = inr (inr (inr (inl divided)))
ends-run status (inr (inr (inr (inl outside)))) = inr (inr (inr (inr (inl outside))))
ends-run status (inr (inr (inr (inr none)))) = absurd none

module _ (call : Call) (name : List ℕ) (steps : ℕ) (cpu : Cpu)
    (named : call.job ≡ Some (ExecuteWatched name steps cpu)) where
  is-no_trial : IsUntried call → ⊥
  is-no_trial w = let both : Some (Try w.seed w.size w.steps) ≡ Some (ExecuteWatched name steps cpu) = sym w.named ∙ named in cc

  run-of : IsAnswered call → IsOneOf call.status (exit.done ∷ exit.stops) → HasRunFile call
  run-of a (inl done) = exited call a (subst IsExecution (sym named) tt) done
  run-of a (inr stops) = elim (ran call a stops) [ inl r ↦ r | inr w ↦ absurd (is-no_trial w) ]

  -- the watched run of the file that the words name
  record IsWatched : Type 0 where
    file : List ℕ
    reply : Reply
    output : List ℕ
    has : ShelfHas call.shelf.files name file
    watches : WatchesFile cpu file steps call.input.left.before call.input.left.after reply output
    status_is : call.status ≡ status_of reply
    appended : Appends call.output output
    line : Appends call.errors (line_of reply)

  is-watched : IsAnswered call → IsOneOf call.status (exit.done ∷ exit.stops) → IsWatched
  is-watched a is =
      let r = run-of a is in
      let same = same-job r.job (ExecuteWatched name steps cpu) (sym r.named ∙ named) in
      record {
        file = r.file;
        reply = r.reply;
        output = r.output;
        has = subst (λ n. ShelfHas call.shelf.files n r.file) (same-name r.name name (sym r.is_name ∙ ap file_in same)) r.has;
        watches = subst (λ j. Runs j r.file call.input.left.before call.input.left.after r.reply r.output) same r.ran;
        status_is = r.status_is;
        appended = r.appended;
        line = r.line;
      }

  module _ (bytes file : List ℕ) (told : call.input.left.before ≡ Some bytes)
      (has : ShelfHas call.shelf.files name file) (image : Image) (is_image : IsImageOf file image)
      (sound : IsSound cpu image) (program : Program) (is_program : IsProgramOf cpu image program) where
    clean-by : (reply : Reply) (output : List ℕ)
        → FinishesWatched cpu image steps call.input.left.before call.input.left.after reply output
        → call.status ≡ status_of reply → Appends call.output output
        → Appends call.errors (line_of reply) → IsOneOf (status_of reply) exit.ends
        → HasCleanRun call name steps cpu bytes
    clean-by _ output (stayed_clean end h) status_is appended line is = record {
      file = file;
      image = image;
      output = output;
      end = end;
      has = has;
      is_image = is_image;
      sound = sound;
      program = program;
      is_program = is_program;
      ran = h bytes told;
      status_is = status_is ∙ end-status steps end;
      appended = appended;
      line = line;
    }
    clean-by _ output (met_foul foul h) status_is appended line is = absurd
        (apart 23 (23 ∷ []) exit.ends refl (inl refl) is)
    clean-by _ output (clean_to_read h) status_is appended line is = absurd
        (apart 5 (5 ∷ []) exit.ends refl (inl refl) is)
    clean-by _ _ (lacked_memory h) status_is appended line is = absurd (apart 7 (7 ∷ []) exit.ends refl (inl refl) is)

    foul-by : (reply : Reply) (output : List ℕ)
        → FinishesWatched cpu image steps call.input.left.before call.input.left.after reply output
        → call.status ≡ status_of reply → Appends call.output output
        → Appends call.errors (line_of reply) → IsOneOf (status_of reply) (23 ∷ [])
        → HasFoulStep call name steps cpu bytes
    foul-by _ output (stayed_clean end h) status_is appended line is =
        absurd (apart (status_of (end_reply steps end)) (23 ∷ []) (0 ∷ (20 ∷ (21 ∷ (22 ∷ (24 ∷ []))))) refl is
        (subst (λ n. IsOneOf n (0 ∷ (20 ∷ (21 ∷ (22 ∷ (24 ∷ [])))))) (sym (end-status steps end)) (end_status-one end)))
    foul-by _ output (met_foul foul h) status_is appended line is = record {
      file = file;
      image = image;
      output = output;
      foul = foul;
      has = has;
      is_image = is_image;
      sound = sound;
      stops = h bytes told;
      status_is = status_is;
      appended = appended;
      line = line;
    }
    foul-by _ output (clean_to_read h) status_is appended line is = absurd
        (apart 5 (5 ∷ []) (23 ∷ []) refl (inl refl) is)
    foul-by _ _ (lacked_memory h) status_is appended line is = absurd (apart 7 (7 ∷ []) (23 ∷ []) refl (inl refl) is)

pub watched-clean : (call : Call) → IsAnswered call → (name bytes : List ℕ) (steps : ℕ) (cpu : Cpu)
    → call.job ≡ Some (ExecuteWatched name steps cpu) → call.input.left.before ≡ Some bytes →
    IsOneOf call.status exit.ends → HasCleanRun call name steps cpu bytes
watched-clean call a name bytes steps cpu named told is =
    let w = is-watched call name steps cpu named a (ends-run call.status is) in
    let i = w.watches in
    clean-by call name steps cpu named bytes w.file told w.has i.image i.is_image i.watches.sound i.watches.program
    i.watches.is_program w.reply w.output i.watches.finishes w.status_is w.appended w.line
    (subst (λ n. IsOneOf n exit.ends) w.status_is is)

pub watched-foul : (call : Call) → IsAnswered call → (name bytes : List ℕ) (steps : ℕ) (cpu : Cpu)
    → call.job ≡ Some (ExecuteWatched name steps cpu) → call.input.left.before ≡ Some bytes →
    call.status ≡ exit.foul → HasFoulStep call name steps cpu bytes
watched-foul call a name bytes steps cpu named told is =
    let w = is-watched call name steps cpu named a (inr (inr (inr (inr (inr (inl is)))))) in
    let i = w.watches in
    foul-by call name steps cpu named bytes w.file told w.has i.image i.is_image i.watches.sound i.watches.program
    i.watches.is_program w.reply w.output i.watches.finishes w.status_is w.appended w.line
    (inl (sym w.status_is ∙ is))
