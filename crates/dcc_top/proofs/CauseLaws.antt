-- When each status comes, and what it says: by cases on what the call came to.
use Rattle.std.proofs.Common.{◌≡◌, ℕ, ◌⊎◌, inl, inr, true, List, [], ◌∷◌, Option, Some, None, refl, sym, ap, ◌∙◌, subst, arith}
use Rattle.std.specs.Prelude.{◌≢◌}
use Rattle.dcc_io.specs.Told.{append_told}
use Rattle.dcc_io.proofs.ToldLemmas.{append_told-nil}
use Rattle.dcc_mz.specs.declared.fault.MzFault.{MzFault}
use Rattle.dcc_mz.specs.Fault.{IsRefusal}
use Rattle.dcc_run.specs.End.{End}
use Rattle.dcc_machine.specs.declared.cpu.Cpu.{Cpu}
use Rattle.dcc_pipe.specs.declared.no_text.NoText.{NoText}
use Rattle.dcc_machine.specs.MzImage.{FormatFault, IsFirstFault}
use Rattle.dcc_prog.specs.Refused.{IsSound, IsUnsound}
use Rattle.dcc_machine_demand.specs.Refused.{IsAcceptedProgram, IsRefusedImage}
use Rattle.dcc_trial.specs.declared.found.NoTrial.{NoTrial}
use Rattle.dcc_trial.specs.Trial.{IsWithout}
use Rattle.dcc_reader.specs.declared.offence.ParseKind.{ParseKind}
use Rattle.dcc_parse.specs.Fault.{IsRefusal as IsTextRefusal}
use Rattle.dcc_top.specs.declared.reply.Reply.{Reply}
use Rattle.dcc_top.specs.declared.reply.Reply.TheVariants.{Done, Format, TextFault}
use Rattle.dcc_commands.specs.declared.job.Product.{Product}
use Rattle.dcc_commands.specs.declared.job.Product.TheVariants.{Text, Procedures, Listing}
use Rattle.dcc_commands.specs.Words.{Job, Make, Execute, ExecuteWatched, ExecuteText, Assemble, Try, IsSize}
use Rattle.dcc_top.specs.Jobs.{Analyses, to_make, to_watch, file_in, file_of, IsExecution, LoadsImage}
use Rattle.dcc_top.specs.Answer.{Files, OfFile, HasNoFile, no_file, file_fault, no_memory, HasNoImage, no_executable, misshapen, HasNoUnit, no_text, offends, IsUnmade, refused, no_image, AllowsProduct, made_of_file, unmade, Makes, IsRefusedAs, OfImages, Runs, TellsTrial, AllowsTrial, tried, untried, AllowsAssembly, assembled, unassembled, no_listing, misspelled, Allows, no_job, for_product, for_assembly, for_trial, ran_file, ran_no_file, watched_file, watched_no_file, ran_text, ran_no_text, ShelfLacks, status_of, line_of, reason_reply, no_trial_reply}
use Rattle.dcc_top.specs.Call.{Call, Rises, Appends}
use Rattle.dcc_top.specs.Causes.{IsAnswered, answered, found_no_memory, broke_off, IsCaused, HasRunFile, IsAbsent, IsUnreadable, HasFormatFault, HasRefusal, HasTextFault, Names, IsMissing, IsNoText, EndsSo, IsOutOfMemory, IsCutOff, IsUntried, IsTryable}
use Rattle.dcc_top.specs.Headline.{HasText, HasProcedures, HasListing, HasTrial}
use Rattle.dcc_top.specs.WatchedRun.{MeetsFoul}
use Rattle.dcc_top.specs.Status.{IsOneOf, end_status}
use Rattle.dcc_top.specs.Status as exit
use Rattle.dcc_top.proofs.HeadlineLaws.{has-text, has-procedures, has-listing, has-trial}
use Rattle.dcc_top.proofs.StatusLaws.{apart, are_apart, image_faults, refusals, text_faults, unmade_statuses, unmade-status, product_statuses, product-status, watched_run-status, status-not_six, reply-at_3, reply-at_4, reply-at_5, reply-at_7, no_file-status, no_image-status, no_unit-status, reason-status, run_statuses, run-status, text_run-status, assembly_statuses, assembly-status, untried_statuses, untried-status, trial_statuses, trial-status}
use Rattle.dcc_top.proofs.TrialLaws.{no_format_fault, tryable-one}
use Rattle.dcc_top.proofs.NamedLaws.{file-name, IsAcceptedIn, IsRefusedIn, accepted_statuses, refused_statuses, accepted-one, refused-always as always-refused, job-misshapen, job-missing, text-refused, job-ended, watch-refused, watch-foul}

module _ (call : Call) where
  abbrev pub told : Files
  told = call.shelf.files

  abbrev pub before : Option (List ℕ)
  before = call.input.left.before

  abbrev pub left : Option (List ℕ)
  left = call.input.left.after

  abbrev pub Allowed : Option Job → Reply → List ℕ → Type 0
  Allowed = Allows told before left

  abbrev pub Comes : Type 0
  Comes = IsAnswered call

  -- an answer that was told whole
  pub record IsTold : Type 0 where
    pub reply : Reply
    pub output : List ℕ
    pub allowed : Allowed call.job reply output
    pub cause : IsCaused call reply
    pub status_is : call.status ≡ status_of reply
    pub out : Appends call.output output
    pub line : Appends call.errors (line_of reply)

  -- at any other status than those of a failed write and of want of memory an answer was told whole
  is-told : Comes → call.status ≢ 6 → call.status ≢ 7 → IsTold
  is-told (answered reply gives cause (inl t)) not_six not_seven = record {
    reply = reply;
    output = gives.output;
    allowed = gives.is_answer;
    cause = cause;
    status_is = t.0;
    out = gives.wrote;
    line = t.1;
  }
  is-told (answered reply gives cause (inr t)) not_six not_seven = absurd (not_six t.0)
  is-told (found_no_memory reply gives not (inl t)) not_six not_seven = absurd (not_seven t.0)
  is-told (found_no_memory reply gives not (inr t)) not_six not_seven = absurd (not_six t.0)
  is-told (broke_off due is_due broke) not_six not_seven = absurd (not_six broke.status_is)

  pub told-at : (n : ℕ) → call.status ≡ n → n ≢ 6 → n ≢ 7 → Comes → IsTold
  told-at n is not_six not_seven a = is-told a (λ e. not_six (sym is ∙ e)) (λ e. not_seven (sym is ∙ e))

  -- at a status of a list without those of a failed write and of want of memory an answer was told whole
  told-among : (ns : List ℕ) → are_apart (6 ∷ (7 ∷ [])) ns ≡ true → IsOneOf call.status ns → Comes → IsTold
  told-among ns far is a =
      is-told a (λ six. apart call.status (6 ∷ (7 ∷ [])) ns far (inl six) is) (λ seven. apart call.status (6 ∷ (7 ∷ [])) ns far (inr (inl seven)) is)

  -- the status is one of some, where those of the allowed answers are, with that of a failed write and of want of
  -- memory
  pub one-of : (ns : List ℕ) → IsOneOf 6 ns → IsOneOf 7 ns → ((reply : Reply) (output : List ℕ) → Allowed call.job reply output → IsOneOf (status_of reply) ns) → Comes → IsOneOf call.status ns
  one-of ns six seven each (answered reply gives cause (inl t)) =
      subst (λ n. IsOneOf n ns) (sym t.0) (each reply gives.output gives.is_answer)
  one-of ns six seven each (answered reply gives cause (inr t)) = subst (λ n. IsOneOf n ns) (sym t.0) six
  one-of ns six seven each (found_no_memory reply gives not (inl t)) = subst (λ n. IsOneOf n ns) (sym t.0) seven
  one-of ns six seven each (found_no_memory reply gives not (inr t)) = subst (λ n. IsOneOf n ns) (sym t.0) six
  one-of ns six seven each (broke_off due is_due broke) = subst (λ n. IsOneOf n ns) (sym broke.status_is) six

  -- the statuses of a run
  pub runs-status : (j : Job) (file : List ℕ) (reply : Reply) (output : List ℕ) → Runs j file before left reply output → IsOneOf (status_of reply) run_statuses
  runs-status (Make product name cpu) file reply output h = absurd h
  runs-status (Execute name steps cpu) file reply output h = run-status _ steps before left reply output h.finishes
  runs-status (ExecuteWatched name steps cpu) file reply output h =
      watched_run-status cpu h.image steps before left reply output h.watches.finishes
  runs-status (ExecuteText name steps fill) file reply output h =
      text_run-status _ steps before left reply output (h.runs file h.is_read.stands)
  runs-status (Assemble name) file reply output h = absurd h
  runs-status (Try seed size steps) file reply output h = absurd h

  -- There is no trial.

  -- the answer says why there is none
  record IsWithoutTrial (j : Option Job) (reply : Reply) : Type 0 where
    seed : ℕ
    size : ℕ
    steps : ℕ
    reason : NoTrial
    named : j ≡ Some (Try seed size steps)
    reply_is : reply ≡ no_trial_reply reason
    without : IsWithout seed size steps reason

  untried-of : (seed size steps : ℕ) (reply : Reply) (output : List ℕ) → AllowsTrial seed size steps reply output → status_of reply ≢ 0 → IsWithoutTrial (Some (Try seed size steps)) reply
  untried-of seed size steps _ output (tried t) not_done = absurd (not_done refl)
  untried-of seed size steps _ _ (untried reason h) not_done =
      record { seed = seed; size = size; steps = steps; reason = reason; named = refl; reply_is = refl; without = h }

  -- the status of a trial is none of a list
  no-trial : (seed size steps : ℕ) (reply : Reply) (output : List ℕ) (ns : List ℕ) → are_apart ns trial_statuses ≡ true → AllowsTrial seed size steps reply output → IsOneOf (status_of reply) ns → ⊥
  no-trial seed size steps reply output ns far h is =
      apart (status_of reply) ns trial_statuses far is (trial-status seed size steps reply output h)

  -- a status of the list is not 0
  not-done : (status : ℕ) (ns : List ℕ) → are_apart ns (0 ∷ []) ≡ true → IsOneOf status ns → status ≢ 0
  not-done status ns far is zero = apart status ns (0 ∷ []) far is (inl zero)

  is-untried : (t : IsTold) → IsWithoutTrial call.job t.reply → IsUntried call
  is-untried t w = record {
    seed = w.seed;
    size = w.size;
    steps = w.steps;
    reason = w.reason;
    named = w.named;
    without = w.without;
    status_is = t.status_is ∙ ap status_of w.reply_is;
    line = t.line ∙ ap (λ x. append_told call.errors.taken.before (line_of x)) w.reply_is;
  }

  -- The words are no command.

  usage-of : (j : Option Job) (reply : Reply) (output : List ℕ) → Allowed j reply output → IsOneOf (status_of reply) (2 ∷ []) → j ≡ None
  usage-of _ _ _ (no_job same) is = refl
  usage-of _ reply output (for_product {product = product} {name = name} {cpu = cpu} h same) is =
      absurd (apart (status_of reply) (2 ∷ []) product_statuses refl is (product-status product cpu told name reply output h))
  usage-of _ reply output (ran_file {name = name} {steps = steps} {cpu = cpu} f) is =
      absurd (apart (status_of reply) (2 ∷ []) run_statuses refl is (runs-status (Execute name steps cpu) f.file reply output f.holds))
  usage-of _ reply _ (ran_no_file {name = name} h same) is =
      absurd (apart (status_of reply) (2 ∷ []) image_faults refl is (no_image-status told name reply h))
  usage-of _ reply output (watched_file {name = name} {steps = steps} {cpu = cpu} f) is =
      absurd (apart (status_of reply) (2 ∷ []) run_statuses refl is (runs-status (ExecuteWatched name steps cpu) f.file reply output f.holds))
  usage-of _ reply _ (watched_no_file {name = name} {cpu = cpu} h same) is =
      absurd (apart (status_of reply) (2 ∷ []) unmade_statuses refl is (unmade-status Procedures cpu told name reply h))
  usage-of _ reply output (ran_text {name = name} {steps = steps} {fill = fill} f) is =
      absurd (apart (status_of reply) (2 ∷ []) run_statuses refl is (runs-status (ExecuteText name steps fill) f.file reply output f.holds))
  usage-of _ reply _ (ran_no_text {name = name} h same) is =
      absurd (apart (status_of reply) (2 ∷ []) text_faults refl is (no_unit-status told name reply h))
  usage-of _ reply output (for_assembly {name = name} h same) is =
      absurd (apart (status_of reply) (2 ∷ []) assembly_statuses refl is (assembly-status told name reply output h))
  usage-of _ reply output (for_trial {seed = seed} {size = size} {steps = steps} sized h same) is =
      absurd (no-trial seed size steps reply output (2 ∷ []) refl h is)

  pub usage : Comes → call.status ≡ 2 → call.job ≡ None
  usage a is =
      let t = told-at 2 is (λ e. omega (arith, e)) (λ e. omega (arith, e)) a in
      usage-of call.job t.reply t.output t.allowed (inl (sym t.status_is ∙ is))

  no-words : (reply : Reply) (output : List ℕ) → Allowed None reply output → IsOneOf (status_of reply) (2 ∷ (6 ∷ (7 ∷ [])))
  no-words _ _ (no_job same) = inl refl

  pub usage-always : Comes → call.job ≡ None → IsOneOf call.status (2 ∷ (6 ∷ (7 ∷ [])))
  usage-always a none =
      one-of (2 ∷ (6 ∷ (7 ∷ []))) (inr (inl refl)) (inr (inr (inl refl))) (λ reply output h. no-words reply output (subst (λ j. Allowed j reply output) none h)) a

  -- The text of `c`, the list of `procs`, and the listing of `list`.

  made-of : (product : Product) (name : List ℕ) (cpu : Cpu) (reply : Reply) (output : List ℕ) → AllowsProduct product cpu told name reply output → status_of reply ≡ 0 → OfFile told name (λ file. Makes product cpu file output)
  made-of product name cpu _ output (made_of_file f) is = f
  made-of product name cpu reply _ (unmade h) is =
      absurd (apart (status_of reply) (0 ∷ []) unmade_statuses refl (inl is) (unmade-status product cpu told name reply h))

  -- what is allowed for the product of an executable
  for-product : (product : Product) (name : List ℕ) (cpu : Cpu) (reply : Reply) (output : List ℕ) → Allowed (Some (Make product name cpu)) reply output → AllowsProduct product cpu told name reply output
  for-product product name cpu reply output (for_product h same) = h

  -- what was made of the file of the name, at status 0
  record IsMade (product : Product) (name : List ℕ) (cpu : Cpu) : Type 0 where
    output : List ℕ
    of_file : OfFile told name (λ file. Makes product cpu file output)
    out : Appends call.output output

  is-made : Comes → (product : Product) (name : List ℕ) (cpu : Cpu) → call.job ≡ Some (Make product name cpu) → call.status ≡ 0 → IsMade product name cpu
  is-made a product name cpu named is =
      let t = told-at 0 is (λ e. omega (arith, e)) (λ e. omega (arith, e)) a in
      let h = subst (λ j. Allowed j t.reply t.output) named t.allowed in
      record {
        output = t.output;
        of_file = made-of product name cpu t.reply t.output (for-product product name cpu t.reply t.output h) (sym t.status_is ∙ is);
        out = t.out;
      }

  pub text : Comes → (name : List ℕ) (cpu : Cpu) → call.job ≡ Some (Make Text name cpu) → call.status ≡ 0 → HasText cpu told name call.output.taken.before call.output.taken.after
  text a name cpu named is =
      let m = is-made a Text name cpu named is in
      has-text cpu told name call.output.taken.before call.output.taken.after m.of_file.file m.output m.of_file.has m.out m.of_file.holds

  pub procedures : Comes → (name : List ℕ) (cpu : Cpu) → call.job ≡ Some (Make Procedures name cpu) → call.status ≡ 0 → HasProcedures cpu told name call.output.taken.before call.output.taken.after
  procedures a name cpu named is =
      let m = is-made a Procedures name cpu named is in
      has-procedures cpu told name call.output.taken.before call.output.taken.after m.of_file.file m.output m.of_file.has m.out m.of_file.holds

  pub listing : Comes → (name : List ℕ) (cpu : Cpu) → call.job ≡ Some (Make Listing name cpu) → call.status ≡ 0 → HasListing cpu told name call.output.taken.before call.output.taken.after
  listing a name cpu named is =
      let m = is-made a Listing name cpu named is in
      has-listing cpu told name call.output.taken.before call.output.taken.after m.of_file.file m.output m.of_file.has m.out m.of_file.holds

  -- Trials.

  -- what is allowed for a trial, of a size that the words may give
  record IsTrialAnswer (seed size steps : ℕ) (reply : Reply) (output : List ℕ) : Type 0 where
    sized : IsSize size
    answer : AllowsTrial seed size steps reply output

  for-trial : (seed size steps : ℕ) (reply : Reply) (output : List ℕ) → Allowed (Some (Try seed size steps)) reply output → IsTrialAnswer seed size steps reply output
  for-trial seed size steps reply output (for_trial sized h same) = record { sized = sized; answer = h }

  tried-of : (seed size steps : ℕ) (reply : Reply) (output : List ℕ) → AllowsTrial seed size steps reply output → status_of reply ≡ 0 → TellsTrial seed size steps output
  tried-of seed size steps _ output (tried t) is = t
  tried-of seed size steps _ _ (untried reason h) is =
      absurd (apart (status_of (no_trial_reply reason)) (0 ∷ []) untried_statuses refl (inl is) (untried-status reason))

  pub trial : Comes → (seed size steps : ℕ) → call.job ≡ Some (Try seed size steps) → call.status ≡ 0 → HasTrial seed size steps call.output.taken.before call.output.taken.after
  trial a seed size steps named is =
      let t = told-at 0 is (λ e. omega (arith, e)) (λ e. omega (arith, e)) a in
      let h = for-trial seed size steps t.reply t.output (subst (λ j. Allowed j t.reply t.output) named t.allowed) in
      has-trial seed size steps call.output.taken.before call.output.taken.after t.output (tried-of seed size steps t.reply t.output h.answer (sym t.status_is ∙ is)) t.out

  pub trial-always : Comes → (seed size steps : ℕ) → call.job ≡ Some (Try seed size steps) → IsTryable seed size steps → IsOneOf call.status (0 ∷ (12 ∷ (6 ∷ (7 ∷ []))))
  trial-always a seed size steps named free =
      one-of (0 ∷ (12 ∷ (6 ∷ (7 ∷ [])))) (inr (inr (inl refl))) (inr (inr (inr (inl refl))))
      (λ reply output h. let t = for-trial seed size steps reply output (subst (λ j. Allowed j reply output) named h) in tryable-one seed size steps t.sized free reply output t.answer) a

  -- Runs.

  -- a run that the job asks for
  record HasRan (j : Option Job) (reply : Reply) (output : List ℕ) : Type 0 where
    asked : Job
    name : List ℕ
    named : j ≡ Some asked
    is_name : file_in asked ≡ Some name
    ran : OfFile told name (λ file. Runs asked file before left reply output)

  has-run_file : (t : IsTold) → HasRan call.job t.reply t.output → HasRunFile call
  has-run_file t r = record {
    job = r.asked;
    name = r.name;
    file = r.ran.file;
    reply = t.reply;
    output = t.output;
    named = r.named;
    is_name = r.is_name;
    has = r.ran.has;
    ran = r.ran.holds;
    status_is = t.status_is;
    appended = t.out;
    line = t.line;
  }

  ended-of : (j : Option Job) (reply : Reply) (output : List ℕ) → Allowed j reply output → IsOneOf (status_of reply) exit.stops → HasRan j reply output ⊎ IsWithoutTrial j reply
  ended-of _ _ _ (no_job same) is = absurd (apart 2 (2 ∷ []) exit.stops refl (inl refl) is)
  ended-of _ reply output (for_product {product = product} {name = name} {cpu = cpu} h same) is =
      absurd (apart (status_of reply) exit.stops product_statuses refl is (product-status product cpu told name reply output h))
  ended-of _ reply output (ran_file {name = name} {steps = steps} {cpu = cpu} f) is =
      inl (record { asked = Execute name steps cpu; name = name; named = refl; is_name = refl; ran = f })
  ended-of _ reply _ (ran_no_file {name = name} h same) is =
      absurd (apart (status_of reply) exit.stops image_faults refl is (no_image-status told name reply h))
  ended-of _ reply output (watched_file {name = name} {steps = steps} {cpu = cpu} f) is =
      inl (record { asked = ExecuteWatched name steps cpu; name = name; named = refl; is_name = refl; ran = f })
  ended-of _ reply _ (watched_no_file {name = name} {cpu = cpu} h same) is =
      absurd (apart (status_of reply) exit.stops unmade_statuses refl is (unmade-status Procedures cpu told name reply h))
  ended-of _ reply output (ran_text {name = name} {steps = steps} {fill = fill} f) is =
      inl (record { asked = ExecuteText name steps fill; name = name; named = refl; is_name = refl; ran = f })
  ended-of _ reply _ (ran_no_text {name = name} h same) is =
      absurd (apart (status_of reply) exit.stops text_faults refl is (no_unit-status told name reply h))
  ended-of _ reply output (for_assembly {name = name} h same) is =
      absurd (apart (status_of reply) exit.stops assembly_statuses refl is (assembly-status told name reply output h))
  ended-of _ reply output (for_trial {seed = seed} {size = size} {steps = steps} sized h same) is =
      inr (untried-of seed size steps reply output h (not-done (status_of reply) exit.stops refl is))

  pub ran : Comes → IsOneOf call.status exit.stops → HasRunFile call ⊎ IsUntried call
  ran a is =
      let t = told-among exit.stops refl is a in
      elim (ended-of call.job t.reply t.output t.allowed (subst (λ n. IsOneOf n exit.stops) t.status_is is)) [
        | inl r ↦ inl (has-run_file t r)
        | inr w ↦ inr (is-untried t w)
      ]

  exited-of : (j : Option Job) (reply : Reply) (output : List ℕ) → Allowed j reply output → IsExecution j → IsOneOf (status_of reply) (0 ∷ []) → HasRan j reply output
  exited-of _ _ _ (no_job same) execution is = absurd execution
  exited-of _ reply output (for_product {product = product} {name = name} {cpu = cpu} h same) execution is = absurd execution
  exited-of _ reply output (ran_file {name = name} {steps = steps} {cpu = cpu} f) execution is =
      record { asked = Execute name steps cpu; name = name; named = refl; is_name = refl; ran = f }
  exited-of _ reply _ (ran_no_file {name = name} h same) execution is =
      absurd (apart (status_of reply) (0 ∷ []) image_faults refl is (no_image-status told name reply h))
  exited-of _ reply output (watched_file {name = name} {steps = steps} {cpu = cpu} f) execution is =
      record { asked = ExecuteWatched name steps cpu; name = name; named = refl; is_name = refl; ran = f }
  exited-of _ reply _ (watched_no_file {name = name} {cpu = cpu} h same) execution is =
      absurd (apart (status_of reply) (0 ∷ []) unmade_statuses refl is (unmade-status Procedures cpu told name reply h))
  exited-of _ reply output (ran_text {name = name} {steps = steps} {fill = fill} f) execution is =
      record { asked = ExecuteText name steps fill; name = name; named = refl; is_name = refl; ran = f }
  exited-of _ reply _ (ran_no_text {name = name} h same) execution is =
      absurd (apart (status_of reply) (0 ∷ []) text_faults refl is (no_unit-status told name reply h))
  exited-of _ reply output (for_assembly h same) execution is = absurd execution
  exited-of _ reply output (for_trial sized h same) execution is = absurd execution

  pub exited : Comes → IsExecution call.job → call.status ≡ 0 → HasRunFile call
  exited a execution is =
      let t = told-at 0 is (λ e. omega (arith, e)) (λ e. omega (arith, e)) a in
      has-run_file t (exited-of call.job t.reply t.output t.allowed execution (inl (sym t.status_is ∙ is)))

  -- the file of the name that the job asks for
  pub named-file : (j : Job) (name file : List ℕ) → call.job ≡ Some j → file_in j ≡ Some name → (n : Names call file) → n.files name ≡ Some file
  named-file j name file named is n = ap n.files (file-name name (ap file_of named ∙ is) n) ∙ n.has

  pub ran-always : Comes → (j : Job) (file bytes : List ℕ) (end : End) → call.job ≡ Some j → Names call file → before ≡ Some bytes → EndsSo file bytes j end → IsOneOf call.status
      (end_status end ∷ exit.run_faults)
  ran-always a j file bytes end named n told_left ends =
      one-of (end_status end ∷ exit.run_faults) (inr (inr (inr (inl refl)))) (inr (inr (inr (inr (inl refl)))))
      (λ reply output h. job-ended told before left n.files n.tells j n.name file bytes end (sym (ap file_of named) ∙ n.named) n.has told_left ends reply output (subst (λ x. Allowed x reply output) named h)) a

  pub foul-always : Comes → (name file bytes : List ℕ) (steps : ℕ) (cpu : Cpu) → call.job ≡ Some (ExecuteWatched name steps cpu) → Names call file → before ≡ Some bytes → OfImages file (MeetsFoul cpu steps bytes) →
      IsOneOf call.status (23 ∷ exit.run_faults)
  foul-always a name file bytes steps cpu named n told_left meets =
      one-of (23 ∷ exit.run_faults) (inr (inr (inr (inl refl)))) (inr (inr (inr (inr (inl refl)))))
      (λ reply output h. watch-foul told before left n.files n.tells name steps cpu file bytes (named-file (ExecuteWatched name steps cpu) name file named refl n) told_left meets reply output (subst (λ x. Allowed x reply output) named h)) a

  -- The file has no image.

  -- the answer names the check that the file fails
  record IsMisshapen (j : Option Job) (reply : Reply) : Type 0 where
    name : List ℕ
    fault : MzFault
    named : file_of j ≡ Some name
    reply_is : reply ≡ Format fault
    fails : OfFile told name (λ file. IsRefusal file fault)

  misshapen-of : (j : Option Job) (name : List ℕ) (reply : Reply) → file_of j ≡ Some name → HasNoImage told name reply → status_of reply ≡ 8 → IsMisshapen j reply
  misshapen-of j name reply named (no_executable h) is =
      absurd (apart (status_of reply) (8 ∷ []) (3 ∷ (4 ∷ (7 ∷ []))) refl (inl is) (no_file-status told name reply h))
  misshapen-of j name _ named (misshapen {fault = fault} f) is =
      record { name = name; fault = fault; named = named; reply_is = refl; fails = f }

  unmade-misshapen : (j : Option Job) (product : Product) (name : List ℕ) (cpu : Cpu) (reply : Reply) → file_of j ≡ Some name → IsUnmade product cpu told name reply → status_of reply ≡ 8 → IsMisshapen j reply
  unmade-misshapen j product name cpu _ named (refused reason f) is =
      absurd (apart (status_of (reason_reply reason)) (8 ∷ []) refusals refl (inl is) (reason-status reason))
  unmade-misshapen j product name cpu reply named (no_image h) is = misshapen-of j name reply named h is

  product-misshapen : (product : Product) (name : List ℕ) (cpu : Cpu) (reply : Reply) (output : List ℕ) → AllowsProduct product cpu told name reply output → status_of reply ≡ 8 →
      IsMisshapen (Some (Make product name cpu)) reply
  product-misshapen product name cpu _ output (made_of_file f) is = absurd (omega (arith, is))
  product-misshapen product name cpu reply _ (unmade h) is =
      unmade-misshapen (Some (Make product name cpu)) product name cpu reply refl h is

  format-of : (j : Option Job) (reply : Reply) (output : List ℕ) → Allowed j reply output → status_of reply ≡ 8 → IsMisshapen j reply
  format-of _ _ _ (no_job same) is = absurd (omega (arith, is))
  format-of _ reply output (for_product {product = product} {name = name} {cpu = cpu} h same) is =
      product-misshapen product name cpu reply output h is
  format-of _ reply output (ran_file {name = name} {steps = steps} {cpu = cpu} f) is =
      absurd (apart (status_of reply) (8 ∷ []) run_statuses refl (inl is) (runs-status (Execute name steps cpu) f.file reply output f.holds))
  format-of _ reply _ (ran_no_file {name = name} {steps = steps} {cpu = cpu} h same) is =
      misshapen-of (Some (Execute name steps cpu)) name reply refl h is
  format-of _ reply output (watched_file {name = name} {steps = steps} {cpu = cpu} f) is =
      absurd (apart (status_of reply) (8 ∷ []) run_statuses refl (inl is) (runs-status (ExecuteWatched name steps cpu) f.file reply output f.holds))
  format-of _ reply _ (watched_no_file {name = name} {steps = steps} {cpu = cpu} h same) is =
      unmade-misshapen (Some (ExecuteWatched name steps cpu)) Procedures name cpu reply refl h is
  format-of _ reply output (ran_text {name = name} {steps = steps} {fill = fill} f) is =
      absurd (apart (status_of reply) (8 ∷ []) run_statuses refl (inl is) (runs-status (ExecuteText name steps fill) f.file reply output f.holds))
  format-of _ reply _ (ran_no_text {name = name} h same) is =
      absurd (apart (status_of reply) (8 ∷ []) text_faults refl (inl is) (no_unit-status told name reply h))
  format-of _ reply output (for_assembly {name = name} h same) is =
      absurd (apart (status_of reply) (8 ∷ []) assembly_statuses refl (inl is) (assembly-status told name reply output h))
  format-of _ reply output (for_trial {seed = seed} {size = size} {steps = steps} sized h same) is =
      absurd (no_format_fault seed size steps reply output sized h is)

  pub format : Comes → call.status ≡ 8 → HasFormatFault call
  format a is =
      let t = told-at 8 is (λ e. omega (arith, e)) (λ e. omega (arith, e)) a in
      let m = format-of call.job t.reply t.output t.allowed (sym t.status_is ∙ is) in
      record {
        name = m.name;
        file = m.fails.file;
        fault = m.fault;
        named = m.named;
        has = m.fails.has;
        first = m.fails.holds;
        line = t.line ∙ ap (λ x. append_told call.errors.taken.before (line_of x)) m.reply_is;
      }

  -- what holds of every job whose file is named
  format-always_of : (j : Option Job) → call.job ≡ j → (file : List ℕ) (fault : FormatFault) → Names call file → LoadsImage j → IsFirstFault file fault → (reply : Reply) (output : List ℕ) →
      Allowed j reply output → IsOneOf (status_of reply) (8 ∷ exit.faults)
  format-always_of None is file fault n loads first reply output h = absurd loads
  format-always_of (Some j) is file fault n loads first reply output h =
      job-misshapen told before left n.files n.tells j n.name file fault (sym (ap file_of is) ∙ n.named) n.has loads first reply output h

  pub format-always : Comes → (file : List ℕ) (fault : FormatFault) → LoadsImage call.job → Names call file → IsFirstFault file fault → IsOneOf call.status (8 ∷ exit.faults)
  format-always a file fault loads n first =
      one-of (8 ∷ exit.faults) (inr (inr (inl refl))) (inr (inr (inr (inl refl)))) (format-always_of call.job refl file fault n loads first) a

  absent-always_of : (j : Option Job) → call.job ≡ j → IsMissing call → (reply : Reply) (output : List ℕ) → Allowed j reply output → IsOneOf (status_of reply) (3 ∷ exit.faults)
  absent-always_of None is m reply output h = let bad : file_of None ≡ Some m.name = ap file_of (sym is) ∙ m.named in cc
  absent-always_of (Some j) is m reply output h =
      job-missing told before left m.files m.tells j m.name (sym (ap file_of is) ∙ m.named) m.lacks reply output h

  pub absent-always : Comes → IsMissing call → IsOneOf call.status (3 ∷ exit.faults)
  absent-always a m =
      one-of (3 ∷ exit.faults) (inr (inr (inl refl))) (inr (inr (inr (inl refl)))) (absent-always_of call.job refl m) a

  -- The program is refused, or nothing in it is.

  -- the answer names why the program is refused
  record IsTurnedDown (j : Option Job) (reply : Reply) : Type 0 where
    product : Product
    name : List ℕ
    cpu : Cpu
    reason : NoText
    job : Job
    named : j ≡ Some job
    analyses : Analyses name cpu product job
    reply_is : reply ≡ reason_reply reason
    is_refused : OfFile told name (IsRefusedAs product cpu reason)

  unmade-down : (job : Job) (product : Product) (name : List ℕ) (cpu : Cpu) → Analyses name cpu product job → (reply : Reply) → IsUnmade product cpu told name reply → IsOneOf (status_of reply) exit.refusals →
      IsTurnedDown (Some job) reply
  unmade-down job product name cpu analyses _ (refused reason f) is = record {
    product = product;
    name = name;
    cpu = cpu;
    reason = reason;
    job = job;
    named = refl;
    analyses = analyses;
    reply_is = refl;
    is_refused = f;
  }
  unmade-down job product name cpu analyses reply (no_image h) is =
      absurd (apart (status_of reply) exit.refusals image_faults refl is (no_image-status told name reply h))

  turned-down : (product : Product) (name : List ℕ) (cpu : Cpu) (reply : Reply) (output : List ℕ) → AllowsProduct product cpu told name reply output → IsOneOf (status_of reply) exit.refusals →
      IsTurnedDown (Some (Make product name cpu)) reply
  turned-down product name cpu _ output (made_of_file f) is =
      absurd (apart 0 (0 ∷ []) exit.refusals refl (inl refl) is)
  turned-down product name cpu reply _ (unmade h) is =
      unmade-down (Make product name cpu) product name cpu (to_make product) reply h is

  refusal-of : (j : Option Job) (reply : Reply) (output : List ℕ) → Allowed j reply output → IsOneOf (status_of reply) exit.refusals → IsTurnedDown j reply ⊎ IsWithoutTrial j reply
  refusal-of _ _ _ (no_job same) is = absurd (apart 2 (2 ∷ []) exit.refusals refl (inl refl) is)
  refusal-of _ reply output (for_product {product = product} {name = name} {cpu = cpu} h same) is =
      inl (turned-down product name cpu reply output h is)
  refusal-of _ reply output (ran_file {name = name} {steps = steps} {cpu = cpu} f) is =
      absurd (apart (status_of reply) exit.refusals run_statuses refl is (runs-status (Execute name steps cpu) f.file reply output f.holds))
  refusal-of _ reply _ (ran_no_file {name = name} h same) is =
      absurd (apart (status_of reply) exit.refusals image_faults refl is (no_image-status told name reply h))
  refusal-of _ reply output (watched_file {name = name} {steps = steps} {cpu = cpu} f) is =
      absurd (apart (status_of reply) exit.refusals run_statuses refl is (runs-status (ExecuteWatched name steps cpu) f.file reply output f.holds))
  refusal-of _ reply _ (watched_no_file {name = name} {steps = steps} {cpu = cpu} h same) is =
      inl (unmade-down (ExecuteWatched name steps cpu) Procedures name cpu (to_watch steps) reply h is)
  refusal-of _ reply output (ran_text {name = name} {steps = steps} {fill = fill} f) is =
      absurd (apart (status_of reply) exit.refusals run_statuses refl is (runs-status (ExecuteText name steps fill) f.file reply output f.holds))
  refusal-of _ reply _ (ran_no_text {name = name} h same) is =
      absurd (apart (status_of reply) exit.refusals text_faults refl is (no_unit-status told name reply h))
  refusal-of _ reply output (for_assembly {name = name} h same) is =
      absurd (apart (status_of reply) exit.refusals assembly_statuses refl is (assembly-status told name reply output h))
  refusal-of _ reply output (for_trial {seed = seed} {size = size} {steps = steps} sized h same) is =
      inr (untried-of seed size steps reply output h (not-done (status_of reply) exit.refusals refl is))

  has-refusal : (t : IsTold) → IsTurnedDown call.job t.reply → HasRefusal call
  has-refusal t r = record {
    product = r.product;
    name = r.name;
    cpu = r.cpu;
    file = r.is_refused.file;
    reason = r.reason;
    job = r.job;
    named = r.named;
    analyses = r.analyses;
    has = r.is_refused.has;
    refused = r.is_refused.holds;
    status_is = t.status_is ∙ ap status_of r.reply_is;
    line = t.line ∙ ap (λ x. append_told call.errors.taken.before (line_of x)) r.reply_is;
  }

  pub program-refused : Comes → IsOneOf call.status exit.refusals → HasRefusal call ⊎ IsUntried call
  program-refused a is =
      let t = told-among exit.refusals refl is a in
      elim (refusal-of call.job t.reply t.output t.allowed (subst (λ n. IsOneOf n exit.refusals) t.status_is is)) [
        | inl r ↦ inl (has-refusal t r)
        | inr w ↦ inr (is-untried t w)
      ]

  -- what holds of every answer for what is made of a file that is named
  of-product : (product : Product) (name : List ℕ) (cpu : Cpu) (ns : List ℕ) → IsOneOf 6 ns → IsOneOf 7 ns → call.job ≡ Some (Make product name cpu) → Comes →
      ((reply : Reply) (output : List ℕ) → AllowsProduct product cpu told name reply output → IsOneOf (status_of reply) ns) → IsOneOf call.status ns
  of-product product name cpu ns six seven named a each =
      one-of ns six seven (λ reply output h. each reply output (for-product product name cpu reply output (subst (λ j. Allowed j reply output) named h))) a

  product-refused : (product : Product) (name file : List ℕ) (cpu : Cpu) → Comes → call.job ≡ Some (Make product name cpu) → (n : Names call file) → n.files name ≡ Some file → OfImages file (IsRefusedIn product cpu) →
      IsOneOf call.status refused_statuses
  product-refused product name file cpu a named n has each =
      of-product product name cpu refused_statuses (inr (inr (inr (inl refl)))) (inr (inr (inr (inr (inl refl))))) named a
      (always-refused told name n.files n.tells product cpu file has each)

  pub refused-always : Comes → (name file : List ℕ) (cpu : Cpu) → call.job ≡ Some (Make Text name cpu) → Names call file → OfImages file (IsRefusedImage cpu) → IsOneOf call.status (9 ∷ (10 ∷ exit.faults))
  refused-always a name file cpu named n each =
      product-refused Text name file cpu a named n (named-file (Make Text name cpu) name file named refl n) each

  pub procedures_refused-always : Comes → (name file : List ℕ) (cpu : Cpu) → call.job ≡ Some (Make Procedures name cpu) → Names call file → OfImages file (IsUnsound cpu) → IsOneOf call.status (9 ∷ (10 ∷ exit.faults))
  procedures_refused-always a name file cpu named n each =
      product-refused Procedures name file cpu a named n (named-file (Make Procedures name cpu) name file named refl n) each

  pub listing_refused-always : Comes → (name file : List ℕ) (cpu : Cpu) → call.job ≡ Some (Make Listing name cpu) → Names call file → OfImages file (IsUnsound cpu) → IsOneOf call.status (9 ∷ (10 ∷ exit.faults))
  listing_refused-always a name file cpu named n each =
      product-refused Listing name file cpu a named n (named-file (Make Listing name cpu) name file named refl n) each

  pub watch_refused-always : Comes → (name file : List ℕ) (steps : ℕ) (cpu : Cpu) → call.job ≡ Some (ExecuteWatched name steps cpu) → Names call file → OfImages file (IsUnsound cpu) →
      IsOneOf call.status (9 ∷ (10 ∷ exit.faults))
  watch_refused-always a name file steps cpu named n each =
      one-of (9 ∷ (10 ∷ exit.faults)) (inr (inr (inr (inl refl)))) (inr (inr (inr (inr (inl refl)))))
      (λ reply output h. watch-refused told before left n.files n.tells name steps cpu file (named-file (ExecuteWatched name steps cpu) name file named refl n) each reply output (subst (λ x. Allowed x reply output) named h)) a

  pub text-always : Comes → (name file : List ℕ) (cpu : Cpu) → call.job ≡ Some (Make Text name cpu) → Names call file → OfImages file (IsAcceptedProgram cpu)
      → IsOneOf call.status (0 ∷ (12 ∷ exit.faults))
  text-always a name file cpu named n each =
      of-product Text name cpu (accepted_statuses Text) (inr (inr (inr (inl refl)))) (inr (inr (inr (inr (inl refl))))) named a
      (accepted-one told name n.files n.tells Text cpu file (named-file (Make Text name cpu) name file named refl n) each)

  pub procedures-always : Comes → (name file : List ℕ) (cpu : Cpu) → call.job ≡ Some (Make Procedures name cpu) → Names call file → OfImages file (IsSound cpu) → IsOneOf call.status (0 ∷ exit.faults)
  procedures-always a name file cpu named n each =
      of-product Procedures name cpu (accepted_statuses Procedures) (inr (inr (inl refl))) (inr (inr (inr (inl refl)))) named a
      (accepted-one told name n.files n.tells Procedures cpu file (named-file (Make Procedures name cpu) name file named refl n) each)

  pub listing-always : Comes → (name file : List ℕ) (cpu : Cpu) → call.job ≡ Some (Make Listing name cpu) → Names call file → OfImages file (IsSound cpu) → IsOneOf call.status (0 ∷ exit.faults)
  listing-always a name file cpu named n each =
      of-product Listing name cpu (accepted_statuses Listing) (inr (inr (inl refl))) (inr (inr (inr (inl refl)))) named a
      (accepted-one told name n.files n.tells Listing cpu file (named-file (Make Listing name cpu) name file named refl n) each)

  -- The text is refused.

  -- the answer names what offends in the text
  record IsOffended (j : Option Job) (reply : Reply) : Type 0 where
    name : List ℕ
    steps : ℕ
    fill : ℕ
    at : ℕ
    kind : ParseKind
    named : j ≡ Some (ExecuteText name steps fill)
    reply_is : reply ≡ TextFault at kind
    offending : OfFile told name (λ text. IsTextRefusal text at kind)

  unit-offended : (name : List ℕ) (steps fill : ℕ) (reply : Reply) → HasNoUnit told name reply → status_of reply ≡ 11 → IsOffended (Some (ExecuteText name steps fill)) reply
  unit-offended name steps fill reply (no_text h) is =
      absurd (apart (status_of reply) (11 ∷ []) (3 ∷ (4 ∷ (7 ∷ []))) refl (inl is) (no_file-status told name reply h))
  unit-offended name steps fill _ (offends {line = at} {kind = kind} f) is =
      record { name = name; steps = steps; fill = fill; at = at; kind = kind; named = refl; reply_is = refl; offending = f }

  offended-of : (j : Option Job) (reply : Reply) (output : List ℕ) → Allowed j reply output → status_of reply ≡ 11 → IsOffended j reply
  offended-of _ _ _ (no_job same) is = absurd (omega (arith, is))
  offended-of _ reply output (for_product {product = product} {name = name} {cpu = cpu} h same) is =
      absurd (apart (status_of reply) (11 ∷ []) product_statuses refl (inl is) (product-status product cpu told name reply output h))
  offended-of _ reply output (ran_file {name = name} {steps = steps} {cpu = cpu} f) is =
      absurd (apart (status_of reply) (11 ∷ []) run_statuses refl (inl is) (runs-status (Execute name steps cpu) f.file reply output f.holds))
  offended-of _ reply _ (ran_no_file {name = name} h same) is =
      absurd (apart (status_of reply) (11 ∷ []) image_faults refl (inl is) (no_image-status told name reply h))
  offended-of _ reply output (watched_file {name = name} {steps = steps} {cpu = cpu} f) is =
      absurd (apart (status_of reply) (11 ∷ []) run_statuses refl (inl is) (runs-status (ExecuteWatched name steps cpu) f.file reply output f.holds))
  offended-of _ reply _ (watched_no_file {name = name} {cpu = cpu} h same) is =
      absurd (apart (status_of reply) (11 ∷ []) unmade_statuses refl (inl is) (unmade-status Procedures cpu told name reply h))
  offended-of _ reply output (ran_text {name = name} {steps = steps} {fill = fill} f) is =
      absurd (apart (status_of reply) (11 ∷ []) run_statuses refl (inl is) (runs-status (ExecuteText name steps fill) f.file reply output f.holds))
  offended-of _ reply _ (ran_no_text {name = name} {steps = steps} {fill = fill} h same) is =
      unit-offended name steps fill reply h is
  offended-of _ reply output (for_assembly {name = name} h same) is =
      absurd (apart (status_of reply) (11 ∷ []) assembly_statuses refl (inl is) (assembly-status told name reply output h))
  offended-of _ reply output (for_trial {seed = seed} {size = size} {steps = steps} sized h same) is =
      absurd (no-trial seed size steps reply output (11 ∷ []) refl h (inl is))

  pub text-fault : Comes → call.status ≡ 11 → HasTextFault call
  text-fault a is =
      let t = told-at 11 is (λ e. omega (arith, e)) (λ e. omega (arith, e)) a in
      let o = offended-of call.job t.reply t.output t.allowed (sym t.status_is ∙ is) in
      record {
        name = o.name;
        steps = o.steps;
        fill = o.fill;
        text = o.offending.file;
        line = o.at;
        kind = o.kind;
        named = o.named;
        has = o.offending.has;
        refused = o.offending.holds;
        line_is = t.line ∙ ap (λ x. append_told call.errors.taken.before (line_of x)) o.reply_is;
      }

  pub text_fault-always : Comes → (name file : List ℕ) (steps fill : ℕ) → call.job ≡ Some (ExecuteText name steps fill) → Names call file → IsNoText file → IsOneOf call.status (11 ∷ exit.faults)
  text_fault-always a name file steps fill named n none =
      one-of (11 ∷ exit.faults) (inr (inr (inl refl))) (inr (inr (inr (inl refl))))
      (λ reply output h. text-refused told before left n.files n.tells name steps fill file (named-file (ExecuteText name steps fill) name file named refl n) none reply output (subst (λ j. Allowed j reply output) named h)) a

  -- What is written.

  product-none : (product : Product) (name : List ℕ) (cpu : Cpu) (reply : Reply) (output : List ℕ) → AllowsProduct product cpu told name reply output → IsOneOf (status_of reply) exit.without_output → output ≡ []
  product-none product name cpu _ output (made_of_file f) is =
      absurd (apart 0 (0 ∷ []) exit.without_output refl (inl refl) is)
  product-none product name cpu _ _ (unmade h) is = refl

  trial-none : (seed size steps : ℕ) (reply : Reply) (output : List ℕ) → AllowsTrial seed size steps reply output → IsOneOf (status_of reply) exit.without_output → output ≡ []
  trial-none seed size steps _ output (tried t) is =
      absurd (apart 0 (0 ∷ []) exit.without_output refl (inl refl) is)
  trial-none seed size steps _ _ (untried reason h) is = refl

  assembly-none : (name : List ℕ) (reply : Reply) (output : List ℕ) → AllowsAssembly told name reply output → IsOneOf (status_of reply) exit.without_output → output ≡ []
  assembly-none name _ output (assembled f) is =
      absurd (apart 0 (0 ∷ []) exit.without_output refl (inl refl) is)
  assembly-none name _ _ (unassembled h) is = refl

  -- no job has put anything out at a refusal
  output-none : (j : Option Job) (reply : Reply) (output : List ℕ) → Allowed j reply output → IsOneOf (status_of reply) exit.without_output → output ≡ []
  output-none _ _ _ (no_job same) is = refl
  output-none _ reply output (for_product {product = product} {name = name} {cpu = cpu} h same) is = product-none product name cpu reply output h is
  output-none _ reply output (ran_file {name = name} {steps = steps} {cpu = cpu} f) is =
      absurd (apart (status_of reply) exit.without_output run_statuses refl is (runs-status (Execute name steps cpu) f.file reply output f.holds))
  output-none _ _ _ (ran_no_file h same) is = refl
  output-none _ reply output (watched_file {name = name} {steps = steps} {cpu = cpu} f) is =
      absurd (apart (status_of reply) exit.without_output run_statuses refl is (runs-status (ExecuteWatched name steps cpu) f.file reply output f.holds))
  output-none _ _ _ (watched_no_file h same) is = refl
  output-none _ reply output (ran_text {name = name} {steps = steps} {fill = fill} f) is =
      absurd (apart (status_of reply) exit.without_output run_statuses refl is (runs-status (ExecuteText name steps fill) f.file reply output f.holds))
  output-none _ _ _ (ran_no_text h same) is = refl
  output-none _ reply output (for_assembly {name = name} h same) is = assembly-none name reply output h is
  output-none _ reply output (for_trial {seed = seed} {size = size} {steps = steps} sized h same) is =
      trial-none seed size steps reply output h is

  pub nothing : Comes → IsOneOf call.status exit.without_output → call.output.taken.after ≡ call.output.taken.before
  nothing a is =
      let t = told-among exit.without_output refl is a in
      let none = output-none call.job t.reply t.output t.allowed (subst (λ n. IsOneOf n exit.without_output) t.status_is is) in
      t.out ∙ ap (λ l. append_told call.output.taken.before l) none ∙ append_told-nil call.output.taken.before

  seven-not_done : (reply : Reply) → status_of reply ≡ 7 → reply ≢ Done
  seven-not_done reply seven done = let e : 0 ≡ 7 = sym (ap status_of done) ∙ seven in omega (arith, e)

  pub out-of_memory : Comes → call.status ≡ 7 → IsOutOfMemory call
  out-of_memory (answered reply gives cause (inl t)) is =
      let seven = sym t.0 ∙ is in
      record {
        reply = reply;
        gives = gives;
        not_done = seven-not_done reply seven;
        line = t.1 ∙ ap (λ r. append_told call.errors.taken.before (line_of r)) (reply-at_7 reply seven);
      }
  out-of_memory (answered reply gives cause (inr t)) is = absurd (let e : 6 ≡ 7 = sym t.0 ∙ is in omega (arith, e))
  out-of_memory (found_no_memory reply gives not (inl t)) is =
      record { reply = reply; gives = gives; not_done = not; line = t.1 }
  out-of_memory (found_no_memory reply gives not (inr t)) is =
      absurd (let e : 6 ≡ 7 = sym t.0 ∙ is in omega (arith, e))
  out-of_memory (broke_off due is_due broke) is =
      absurd (let e : 6 ≡ 7 = sym broke.status_is ∙ is in omega (arith, e))

  pub cut-off : Comes → call.status ≡ 6 → IsCutOff call
  cut-off (answered reply gives cause (inl t)) is = absurd (status-not_six reply (sym t.0 ∙ is))
  cut-off (answered reply gives cause (inr t)) is =
      inr (record { reply = reply; gives = gives; err = inl (t.1, cause); failed = t.2 })
  cut-off (found_no_memory reply gives not (inl t)) is =
      absurd (let e : 7 ≡ 6 = sym t.0 ∙ is in omega (arith, e))
  cut-off (found_no_memory reply gives not (inr t)) is =
      inr (record { reply = reply; gives = gives; err = inr t.1; failed = t.2 })
  cut-off (broke_off due is_due broke) is = inl (due, is_due, broke)

  -- Why a file could not be had.

  lacks-of_no_file : (name : List ℕ) (reply : Reply) → HasNoFile told name reply → status_of reply ≡ 3 → ShelfLacks told name
  lacks-of_no_file name _ (no_file lacks) is = lacks
  lacks-of_no_file name _ file_fault is = absurd (omega (arith, is))
  lacks-of_no_file name _ no_memory is = absurd (omega (arith, is))

  lacks-of_no_image : (name : List ℕ) (reply : Reply) → HasNoImage told name reply → status_of reply ≡ 3 → ShelfLacks told name
  lacks-of_no_image name reply (no_executable h) is = lacks-of_no_file name reply h is
  lacks-of_no_image name _ (misshapen f) is = absurd (omega (arith, is))

  lacks-of_assembly : (name : List ℕ) (reply : Reply) (output : List ℕ) → AllowsAssembly told name reply output → status_of reply ≡ 3 → ShelfLacks told name
  lacks-of_assembly name _ output (assembled f) is = absurd (omega (arith, is))
  lacks-of_assembly name reply _ (unassembled (no_listing h)) is = lacks-of_no_file name reply h is
  lacks-of_assembly name _ _ (unassembled (misspelled f)) is = absurd (omega (arith, is))

  lacks-of_unmade : (product : Product) (name : List ℕ) (cpu : Cpu) (reply : Reply) → IsUnmade product cpu told name reply → status_of reply ≡ 3 → ShelfLacks told name
  lacks-of_unmade product name cpu _ (refused reason f) is =
      absurd (apart (status_of (reason_reply reason)) (3 ∷ []) refusals refl (inl is) (reason-status reason))
  lacks-of_unmade product name cpu reply (no_image h) is = lacks-of_no_image name reply h is

  lacks-of_product : (product : Product) (name : List ℕ) (cpu : Cpu) (reply : Reply) (output : List ℕ) → AllowsProduct product cpu told name reply output → status_of reply ≡ 3 → ShelfLacks told name
  lacks-of_product product name cpu _ output (made_of_file f) is = absurd (omega (arith, is))
  lacks-of_product product name cpu reply _ (unmade h) is = lacks-of_unmade product name cpu reply h is

  absent-of : (j : Option Job) (reply : Reply) (output : List ℕ) → Allowed j reply output → status_of reply ≡ 3 → (name : List ℕ) × (file_of j ≡ Some name) × ShelfLacks told name
  absent-of _ _ _ (no_job same) is = absurd (omega (arith, is))
  absent-of _ reply output (for_product {product = product} {name = name} {cpu = cpu} h same) is =
      (name, refl, lacks-of_product product name cpu reply output h is)
  absent-of _ reply output (ran_file {name = name} {steps = steps} {cpu = cpu} f) is =
      absurd (apart (status_of reply) (3 ∷ []) run_statuses refl (inl is) (runs-status (Execute name steps cpu) f.file reply output f.holds))
  absent-of _ reply _ (ran_no_file {name = name} h same) is = (name, refl, lacks-of_no_image name reply h is)
  absent-of _ reply output (watched_file {name = name} {steps = steps} {cpu = cpu} f) is =
      absurd (apart (status_of reply) (3 ∷ []) run_statuses refl (inl is) (runs-status (ExecuteWatched name steps cpu) f.file reply output f.holds))
  absent-of _ reply _ (watched_no_file {name = name} {cpu = cpu} h same) is =
      (name, refl, lacks-of_unmade Procedures name cpu reply h is)
  absent-of _ reply output (ran_text {name = name} {steps = steps} {fill = fill} f) is =
      absurd (apart (status_of reply) (3 ∷ []) run_statuses refl (inl is) (runs-status (ExecuteText name steps fill) f.file reply output f.holds))
  absent-of _ reply _ (ran_no_text {name = name} (no_text h) same) is =
      (name, refl, lacks-of_no_file name reply h is)
  absent-of _ _ _ (ran_no_text (offends f) same) is = absurd (omega (arith, is))
  absent-of _ reply output (for_assembly {name = name} h same) is =
      (name, refl, lacks-of_assembly name reply output h is)
  absent-of _ reply output (for_trial {seed = seed} {size = size} {steps = steps} sized h same) is =
      absurd (no-trial seed size steps reply output (3 ∷ []) refl h (inl is))

  pub absent : Comes → call.status ≡ 3 → IsAbsent call
  absent a is =
      let t = told-at 3 is (λ e. omega (arith, e)) (λ e. omega (arith, e)) a in
      let at = sym t.status_is ∙ is in
      let h = absent-of call.job t.reply t.output t.allowed at in
      record { name = h.0; named = h.1; lacks = h.2; rose = t.cause.no_file (reply-at_3 t.reply at) }

  named-of : (j : Option Job) (reply : Reply) (output : List ℕ) → Allowed j reply output → status_of reply ≡ 4 → (name : List ℕ) × (file_of j ≡ Some name)
  named-of None _ _ (no_job same) is = absurd (omega (arith, is))
  named-of (Some (Make product name cpu)) reply output h is = (name, refl)
  named-of (Some (Execute name steps cpu)) reply output h is = (name, refl)
  named-of (Some (ExecuteWatched name steps cpu)) reply output h is = (name, refl)
  named-of (Some (ExecuteText name steps fill)) reply output h is = (name, refl)
  named-of (Some (Assemble name)) reply output h is = (name, refl)
  named-of (Some (Try seed size steps)) reply output (for_trial sized h same) is =
      absurd (no-trial seed size steps reply output (4 ∷ []) refl h (inl is))

  pub unreadable : Comes → call.status ≡ 4 → IsUnreadable call
  unreadable a is =
      let t = told-at 4 is (λ e. omega (arith, e)) (λ e. omega (arith, e)) a in
      let at = sym t.status_is ∙ is in
      let h = named-of call.job t.reply t.output t.allowed at in
      record { name = h.0; named = h.1; rose = t.cause.file_fault (reply-at_4 t.reply at) }

  pub read-failed : Comes → call.status ≡ 5 → Rises call.input.faults
  read-failed a is =
      let t = told-at 5 is (λ e. omega (arith, e)) (λ e. omega (arith, e)) a in
      t.cause.input_fault (reply-at_5 t.reply (sym t.status_is ∙ is))

  -- a write failed where the status says so
  pub write-failed : Comes → call.status ≡ 6 → Rises call.output.faults ⊎ Rises call.errors.faults
  write-failed a is = elim (cut-off a is) [ inl cut ↦ inl cut.2.failed | inr cut ↦ inr cut.failed ]
