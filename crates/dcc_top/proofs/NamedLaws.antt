-- What is known of the file that the words name, where the shelf tells it.
use Rattle.std.proofs.Common.{◌≡◌, ℕ, ◌+◌, ◌<◌, ◌≤◌, ◌⊎◌, inl, inr, true, false, List, [], ◌∷◌, Option, Some, None, refl, sym, ap, ◌∙◌, subst, arith}
use Rattle.dcc_mz.specs.declared.fault.MzFault.{MzFault}
use Rattle.dcc_mz.specs.declared.fault.MzFault.TheVariants.{Short, NotMz, Pages, HeaderPastImage, Reloc, EntryOutside, TooLarge, Memory as NoMemory}
use Rattle.dcc_mz.specs.Fault.{IsRefusal}
use Rattle.dcc_run.specs.End.{End}
use Rattle.dcc_run.specs.System.{end_after}
use Rattle.dcc_run.specs.Watched.{state}
use Rattle.dcc_machine.specs.declared.cpu.Cpu.{Cpu}
use Rattle.dcc_machine.specs.declared.image.Image.{Image}
use Rattle.dcc_pipe.specs.declared.no_text.NoText.{NoText}
use Rattle.dcc_pipe.specs.declared.no_text.NoText.TheVariants.{Refused, NotYet as NotYetFor}
use Rattle.dcc_prog.specs.declared.refusal.Refusal.TheVariants.{Construct as ConstructRefused, Limit as LimitRefused, Memory as MemoryRefused}
use Rattle.dcc_machine.specs.MzImage.{IsImageOf, FormatFault, IsFirstFault, too_large, short, not_mz, bad_pages, header_past_image, bad_relocation, entry_outside}
use Rattle.dcc_prog.specs.Refused.{IsSound, IsUnsound}
use Rattle.dcc_machine.specs.Step.{machine_system}
use Rattle.dcc_prog.specs.Clean.{Foul as FoulStep}
use Rattle.dcc_prog.specs.Watch.{IsClean, is_foul, watched_machine, first_watch}
use Rattle.dcc_machine.proofs.MzImageLaws.{not_both}
use Rattle.dcc_prog.proofs.WatchLaws.{not_foul_before}
use Rattle.dcc_watch.proofs.StepLaws.{foul-stopped}
use Rattle.dcc_watch.specs.Executor.{is_stopped}
use Rattle.dcc_prog.proofs.RefusedLaws.{sound-not_unsound, sound-memory}
use Rattle.dcc_machine_demand.specs.Refused.{IsAcceptedProgram, IsRefusedImage}
use Rattle.dcc_machine_demand.proofs.RefusedLaws.{accepted-is_not_refused}
use Rattle.dcc_asm.specs.Fault.{IsAssembled, IsFirstFault as IsFirstOffence}
use Rattle.dcc_asm.proofs.TextLaws.{assembled_no_fault}
use Rattle.dcc_top.specs.declared.reply.Reply.{Reply}
use Rattle.dcc_commands.specs.declared.job.Product.{Product}
use Rattle.dcc_commands.specs.declared.job.Product.TheVariants.{Text, Procedures, Listing}
use Rattle.dcc_commands.specs.Words.{Job, Make, Execute, ExecuteWatched, ExecuteText, Assemble, Try}
use Rattle.dcc_top.specs.Jobs.{file_in, file_of, LoadsImage}
use Rattle.dcc_top.specs.Execution.{Subject, machine_of, text_of, Finishes, ended, stopped_at_read, not_begun, FinishesOrStops, finishes, found_none}
use Rattle.dcc_top.specs.Answer.{Files, OfFile, HasNoFile, no_file, file_fault, no_memory, HasNoImage, no_executable, misshapen, HasNoUnit, no_text, offends, IsUnassembled, no_listing, misspelled, AllowsAssembly, assembled, unassembled, IsMadeOf, Refuses, IsUnmade, refused, no_image, AllowsProduct, made_of_file, unmade, Makes, IsRefusedAs, OfImages, RunsFile, Watches, WatchesFile, RunsText, RunsUnit, Allows, for_product, for_assembly, for_trial, ran_file, ran_no_file, watched_file, watched_no_file, ran_text, ran_no_text, ShelfLacks, status_of, refusal_reply, reason_reply}
use Rattle.dcc_top.specs.Call.{Call}
use Rattle.dcc_top.specs.WatchedRun.{IsFoulAfter, FinishesWatched, stayed_clean, met_foul, clean_to_read, lacked_memory, EndsClean, MeetsFoul}
use Rattle.dcc_top.specs.Causes.{Names, IsNoText, IsNoListing, EndsSo, file_ends, watched_ends, text_ends}
use Rattle.dcc_top.specs.Status.{IsOneOf, end_status}
use Rattle.dcc_top.proofs.AnswerLaws.{same-start}
use Rattle.dcc_top.proofs.StatusLaws.{end-status}

-- the name in the words is the one that is known
pub name-of : (name other : List ℕ) → Some name ≡ Some other → name ≡ other
name-of name other same = cc

pub file-name : {call : Call} {file : List ℕ} (name : List ℕ) → file_of call.job ≡ Some name → (n : Names call file) → name ≡ n.name
file-name name named n = name-of name n.name (sym named ∙ n.named)

refusal-not_image : (file : List ℕ) (image : Image) (fault : MzFault) → IsImageOf file image → IsRefusal file fault → ⊥
refusal-not_image file image (Short n) is r = not_both file image (short n) is r
refusal-not_image file image NotMz is r = not_both file image not_mz is r
refusal-not_image file image Pages is r = not_both file image bad_pages is r
refusal-not_image file image HeaderPastImage is r = not_both file image header_past_image is r
refusal-not_image file image (Reloc i) is r = not_both file image (bad_relocation i) is r
refusal-not_image file image EntryOutside is r = not_both file image entry_outside is r
refusal-not_image file image TooLarge is r = not_both file image too_large is r
refusal-not_image file image NoMemory is r = r

-- What is made of an executable, or refused.

-- nothing refuses the image, where this is asked for; or something does
abbrev pub IsAcceptedIn : Product → Cpu → Image → Type 0
IsAcceptedIn Text cpu image = IsAcceptedProgram cpu image
IsAcceptedIn Procedures cpu image = IsSound cpu image
IsAcceptedIn Listing cpu image = IsSound cpu image

abbrev pub IsRefusedIn : Product → Cpu → Image → Type 0
IsRefusedIn Text cpu image = IsRefusedImage cpu image
IsRefusedIn Procedures cpu image = IsUnsound cpu image
IsRefusedIn Listing cpu image = IsUnsound cpu image

made-not_refused : (product : Product) (cpu : Cpu) (image : Image) (made : List ℕ) → IsMadeOf product cpu image made → ¬ IsRefusedIn product cpu image
made-not_refused Text cpu image made m = accepted-is_not_refused.apart cpu image m.accepted
made-not_refused Procedures cpu image made m = sound-not_unsound cpu image m.sound
made-not_refused Listing cpu image made m = sound-not_unsound cpu image m.sound

-- the statuses where nothing refuses the program
abbrev pub accepted_statuses : Product → List ℕ
accepted_statuses Text = 0 ∷ (12 ∷ (4 ∷ (6 ∷ (7 ∷ []))))
accepted_statuses Procedures = 0 ∷ (4 ∷ (6 ∷ (7 ∷ [])))
accepted_statuses Listing = 0 ∷ (4 ∷ (6 ∷ (7 ∷ [])))

faulty-accepted : (product : Product) (status : ℕ) → (status ≡ 4) ⊎ (status ≡ 7) → IsOneOf status (accepted_statuses product)
faulty-accepted Text status (inl four) = inr (inr (inl four))
faulty-accepted Text status (inr seven) = inr (inr (inr (inr (inl seven))))
faulty-accepted Procedures status (inl four) = inr (inl four)
faulty-accepted Procedures status (inr seven) = inr (inr (inr (inl seven)))
faulty-accepted Listing status (inl four) = inr (inl four)
faulty-accepted Listing status (inr seven) = inr (inr (inr (inl seven)))

done-accepted : (product : Product) → IsOneOf 0 (accepted_statuses product)
done-accepted Text = inl refl
done-accepted Procedures = inl refl
done-accepted Listing = inl refl

-- where nothing refuses the program, it is refused for want of memory alone, or its text for its shape
accepted-reason : (product : Product) (cpu : Cpu) (image : Image) (reason : NoText) → IsAcceptedIn product cpu image → Refuses product cpu image reason
    → IsOneOf (status_of (reason_reply reason)) (accepted_statuses product)
accepted-reason Text cpu image (Refused refusal) a h =
    faulty-accepted Text _ (inr (ap (λ r. status_of (refusal_reply r)) (accepted-is_not_refused.memory cpu image refusal a h)))
accepted-reason Text cpu image (NotYetFor at) a h = inr (inl refl)
accepted-reason Procedures cpu image (Refused refusal) a h =
    faulty-accepted Procedures _ (inr (ap (λ r. status_of (refusal_reply r)) (sound-memory cpu image refusal a h)))
accepted-reason Procedures cpu image (NotYetFor at) a h = absurd h
accepted-reason Listing cpu image (Refused refusal) a h =
    faulty-accepted Listing _ (inr (ap (λ r. status_of (refusal_reply r)) (sound-memory cpu image refusal a h)))
accepted-reason Listing cpu image (NotYetFor at) a h = absurd h

-- the statuses of a refusal, before those of faults
abbrev pub refused_statuses : List ℕ
refused_statuses = 9 ∷ (10 ∷ (4 ∷ (6 ∷ (7 ∷ []))))

-- where something refuses the program, it isn't its shape that its text lacks
refused-one : (product : Product) (cpu : Cpu) (image : Image) (reason : NoText) → IsRefusedIn product cpu image → Refuses product cpu image reason
    → IsOneOf (status_of (reason_reply reason)) refused_statuses
refused-one product cpu image (Refused (ConstructRefused kind at)) r h = inl refl
refused-one product cpu image (Refused (LimitRefused what count)) r h = inr (inl refl)
refused-one product cpu image (Refused MemoryRefused) r h = inr (inr (inr (inr (inl refl))))
refused-one Text cpu image (NotYetFor at) r h = absurd (accepted-is_not_refused.apart cpu image h.accepted r)
refused-one Procedures cpu image (NotYetFor at) r h = absurd h
refused-one Listing cpu image (NotYetFor at) r h = absurd h

faulty-refused : (status : ℕ) → (status ≡ 4) ⊎ (status ≡ 7) → IsOneOf status refused_statuses
faulty-refused status (inl four) = inr (inr (inl four))
faulty-refused status (inr seven) = inr (inr (inr (inr (inl seven))))

-- Runs.

-- the status of a run on an input that is told
run-ended : {S : Type 0} (subject : Subject S) (steps : ℕ) (before left : Option (List ℕ)) (reply : Reply) (output bytes : List ℕ) → before ≡ Some bytes →
    Finishes subject steps before left reply output → IsOneOf (status_of reply) (end_status (end_after subject.console.system steps (subject.start bytes)) ∷ (4 ∷ (5 ∷ (6 ∷ (7 ∷ [])))))
run-ended subject steps before left _ output bytes told (ended end h) =
    inl (end-status steps end ∙ ap end_status (sym (h bytes told).end_is))
run-ended subject steps before left _ output bytes told (stopped_at_read h) = inr (inr (inl refl))
run-ended subject steps before left _ _ bytes told (not_begun same) = inr (inr (inr (inr (inl refl))))

text-run-ended : {S : Type 0} (subject : Subject S) (steps : ℕ) (before left : Option (List ℕ)) (reply : Reply) (output bytes : List ℕ) → before ≡ Some bytes →
    FinishesOrStops subject steps before left reply output → IsOneOf (status_of reply) (end_status (end_after subject.console.system steps (subject.start bytes)) ∷ (4 ∷ (5 ∷ (6 ∷ (7 ∷ [])))))
text-run-ended subject steps before left reply output bytes told (finishes h) =
    run-ended subject steps before left reply output bytes told h
text-run-ended subject steps before left _ output bytes told (found_none h) = inr (inr (inr (inr (inl refl))))

-- Watched runs.

-- a run with a foul step isn't clean
foul-not_clean : (cpu : Cpu) (image : Image) (input : List ℕ) (n steps : ℕ) (foul : FoulStep) → IsFoulAfter cpu image input n foul → n < steps → IsClean cpu image input steps → ⊥
foul-not_clean cpu image input n steps foul is below clean =
    let le : n + 1 ≤ steps = omega (arith, below) in
    let going = not_foul_before is.program (n + 1) steps (first_watch image input) le (clean is.program is.is_program) in
    let w = state (watched_machine is.program) (n + 1) (first_watch image input) in
    let stopped : is_foul w ≡ true = foul-stopped w.machine w.stage ∙ ap is_stopped is.stopped in
    let bad : false ≡ true = sym going ∙ stopped in
    cc

-- the status of a watched run whose steps are known to be clean, or of which one is known to be foul
watched-clean : (cpu : Cpu) (image : Image) (steps : ℕ) (before left : Option (List ℕ)) (bytes : List ℕ) (end : End) → before ≡ Some bytes → EndsClean cpu steps bytes end image → (reply : Reply) (output : List ℕ) →
    (w : Watches cpu image steps before left reply output) → IsOneOf (status_of reply) (end_status end ∷ (4 ∷ (5 ∷ (6 ∷ (7 ∷ [])))))
watched-clean cpu image steps before left bytes end told e reply output w = by reply output w.finishes
  where
    by : (r : Reply) (o : List ℕ) → FinishesWatched cpu image steps before left r o → IsOneOf (status_of r) (end_status end ∷ (4 ∷ (5 ∷ (6 ∷ (7 ∷ [])))))
    by _ o (stayed_clean other h) = inl (end-status steps other ∙ ap end_status (sym (h bytes told).run.end_is ∙ e.end_is))
    by _ o (met_foul foul h) =
        let s = h bytes told in absurd (foul-not_clean cpu image bytes s.stops.made steps foul s.is_foul s.stops.short e.clean)
    by _ o (clean_to_read h) = inr (inr (inl refl))
    by _ _ (lacked_memory h) = inr (inr (inr (inr (inl refl))))

watched-foul : (cpu : Cpu) (image : Image) (steps : ℕ) (before left : Option (List ℕ)) (bytes : List ℕ) → before ≡ Some bytes → MeetsFoul cpu steps bytes image → (reply : Reply) (output : List ℕ) →
    (w : Watches cpu image steps before left reply output) → IsOneOf (status_of reply) (23 ∷ (4 ∷ (5 ∷ (6 ∷ (7 ∷ [])))))
watched-foul cpu image steps before left bytes told m reply output w = by reply output w.finishes
  where
    by : (r : Reply) (o : List ℕ) → FinishesWatched cpu image steps before left r o → IsOneOf (status_of r) (23 ∷ (4 ∷ (5 ∷ (6 ∷ (7 ∷ [])))))
    by _ o (stayed_clean other h) = absurd (foul-not_clean cpu image bytes m.made steps m.foul m.is_foul m.short (h bytes told).clean)
    by _ o (met_foul foul h) = inl refl
    by _ o (clean_to_read h) = inr (inr (inl refl))
    by _ _ (lacked_memory h) = inr (inr (inr (inr (inl refl))))

-- What is known of the file of a name that the shelf tells.

module _ (told : Files) (name : List ℕ) (files : List ℕ → Option (List ℕ)) (tells : told ≡ Some files) where
  -- what is said of some file of the name holds of the one that the shelf has
  held : (file : List ℕ) (P : List ℕ → Type 0) → files name ≡ Some file → OfFile told name P → P file
  held file P has f =
      let both : Some f.file ≡ Some file = sym (f.has files tells) ∙ has in
      let same : f.file ≡ file = cc in
      subst P same f.holds

  -- there is no file of which something could be said
  not-held : (P : List ℕ → Type 0) → files name ≡ None → OfFile told name P → ⊥
  not-held P lacks f = let both : Some f.file ≡ None = sym (f.has files tells) ∙ lacks in cc

  not-lacking : (file : List ℕ) → files name ≡ Some file → ShelfLacks told name → ⊥
  not-lacking file has lacks = let both : Some file ≡ None = sym has ∙ lacks files tells in cc

  -- a file that the shelf has could not be had for the shelf's fault or want of memory alone
  faulty : (file : List ℕ) → files name ≡ Some file → (reply : Reply) → HasNoFile told name reply → (status_of reply ≡ 4) ⊎ (status_of reply ≡ 7)
  faulty file has _ (no_file lacks) = absurd (not-lacking file has lacks)
  faulty file has _ file_fault = inl refl
  faulty file has _ no_memory = inr refl

  -- a file that the shelf lacks is absent, or could not be had for the shelf's fault or want of memory
  missing : files name ≡ None → (reply : Reply) → HasNoFile told name reply → IsOneOf (status_of reply) (3 ∷ (4 ∷ (6 ∷ (7 ∷ []))))
  missing lacks _ (no_file h) = inl refl
  missing lacks _ file_fault = inr (inl refl)
  missing lacks _ no_memory = inr (inr (inr (inl refl)))

  -- a fault among these statuses
  faulty-one : (first : ℕ) (status : ℕ) → (status ≡ 4) ⊎ (status ≡ 7) → IsOneOf status (first ∷ (4 ∷ (6 ∷ (7 ∷ []))))
  faulty-one first status (inl four) = inr (inl four)
  faulty-one first status (inr seven) = inr (inr (inr (inl seven)))

  -- a file that has an image is refused for the shelf's fault or want of memory alone
  no_image-faulty : (file : List ℕ) → files name ≡ Some file → (image : Image) → IsImageOf file image → (reply : Reply) → HasNoImage told name reply → (status_of reply ≡ 4) ⊎ (status_of reply ≡ 7)
  no_image-faulty file has image is reply (no_executable h) = faulty file has reply h
  no_image-faulty file has image is _ (misshapen {fault = fault} f) =
      absurd (refusal-not_image file image fault is (held file (λ x. IsRefusal x fault) has f))

  -- a file that is not refused as a text neither
  no_unit-faulty : (file : List ℕ) → files name ≡ Some file → (reply : Reply) → HasNoUnit told name reply → IsOneOf (status_of reply) (11 ∷ (4 ∷ (6 ∷ (7 ∷ []))))
  no_unit-faulty file has reply (no_text h) = faulty-one 11 (status_of reply) (faulty file has reply h)
  no_unit-faulty file has _ (offends f) = inl refl

  misshapen-one : (file : List ℕ) → files name ≡ Some file → (reply : Reply) → HasNoImage told name reply → IsOneOf (status_of reply) (8 ∷ (4 ∷ (6 ∷ (7 ∷ []))))
  misshapen-one file has reply (no_executable h) = faulty-one 8 (status_of reply) (faulty file has reply h)
  misshapen-one file has _ (misshapen f) = inl refl

  missing-image : files name ≡ None → (reply : Reply) → HasNoImage told name reply → IsOneOf (status_of reply) (3 ∷ (4 ∷ (6 ∷ (7 ∷ []))))
  missing-image lacks reply (no_executable h) = missing lacks reply h
  missing-image lacks _ (misshapen {fault = fault} f) = absurd (not-held (λ x. IsRefusal x fault) lacks f)

  -- the file has no image

  unmade-misshapen : (product : Product) (cpu : Cpu) (file : List ℕ) (fault : FormatFault) → files name ≡ Some file → IsFirstFault file fault → (reply : Reply) → IsUnmade product cpu told name reply →
      IsOneOf (status_of reply) (8 ∷ (4 ∷ (6 ∷ (7 ∷ []))))
  unmade-misshapen product cpu file fault has first _ (refused reason f) =
      let d = held file (IsRefusedAs product cpu reason) has f in absurd (not_both file d.image fault d.is_image first)
  unmade-misshapen product cpu file fault has first reply (no_image h) = misshapen-one file has reply h

  product-misshapen : (product : Product) (cpu : Cpu) (file : List ℕ) (fault : FormatFault) → files name ≡ Some file → IsFirstFault file fault → (reply : Reply) (output : List ℕ) →
      AllowsProduct product cpu told name reply output → IsOneOf (status_of reply) (8 ∷ (4 ∷ (6 ∷ (7 ∷ []))))
  product-misshapen product cpu file fault has first _ output (made_of_file f) =
      let d = held file (λ x. Makes product cpu x output) has f in absurd (not_both file d.image fault d.is_image first)
  product-misshapen product cpu file fault has first reply _ (unmade h) = unmade-misshapen product cpu file fault has first reply h

  unmade-missing : (product : Product) (cpu : Cpu) → files name ≡ None → (reply : Reply) → IsUnmade product cpu told name reply → IsOneOf (status_of reply) (3 ∷ (4 ∷ (6 ∷ (7 ∷ []))))
  unmade-missing product cpu lacks _ (refused reason f) = absurd (not-held (IsRefusedAs product cpu reason) lacks f)
  unmade-missing product cpu lacks reply (no_image h) = missing-image lacks reply h

  product-missing : (product : Product) (cpu : Cpu) → files name ≡ None → (reply : Reply) (output : List ℕ) → AllowsProduct product cpu told name reply output →
      IsOneOf (status_of reply) (3 ∷ (4 ∷ (6 ∷ (7 ∷ []))))
  product-missing product cpu lacks _ output (made_of_file f) = absurd (not-held (λ x. Makes product cpu x output) lacks f)
  product-missing product cpu lacks reply _ (unmade h) = unmade-missing product cpu lacks reply h

  -- the program is accepted, or it is refused

  -- no listing and no watched run is made of a sound program for the shelf's fault or want of memory alone
  sound-faulty : (cpu : Cpu) (file : List ℕ) → files name ≡ Some file → OfImages file (IsSound cpu) → (reply : Reply) → IsUnmade Procedures cpu told name reply
      → (status_of reply ≡ 4) ⊎ (status_of reply ≡ 7)
  sound-faulty cpu file has a _ (refused (Refused refusal) f) =
      let d = held file (IsRefusedAs Procedures cpu (Refused refusal)) has f in
      inr (ap (λ r. status_of (refusal_reply r)) (sound-memory cpu d.image refusal (a.each d.image d.is_image) d.refused))
  sound-faulty cpu file has a _ (refused (NotYetFor at) f) =
      let d = held file (IsRefusedAs Procedures cpu (NotYetFor at)) has f in absurd d.refused
  sound-faulty cpu file has a reply (no_image h) = no_image-faulty file has a.image a.is_image reply h

  -- nothing is made of a program that is accepted for the shelf's fault, want of memory or the shape of its text alone
  unmade-accepted : (product : Product) (cpu : Cpu) (file : List ℕ) → files name ≡ Some file → OfImages file (IsAcceptedIn product cpu) → (reply : Reply) → IsUnmade product cpu told name reply →
      IsOneOf (status_of reply) (accepted_statuses product)
  unmade-accepted product cpu file has a _ (refused reason f) =
      let d = held file (IsRefusedAs product cpu reason) has f in
      accepted-reason product cpu d.image reason (a.each d.image d.is_image) d.refused
  unmade-accepted product cpu file has a reply (no_image h) =
      faulty-accepted product (status_of reply) (no_image-faulty file has a.image a.is_image reply h)

  pub accepted-one : (product : Product) (cpu : Cpu) (file : List ℕ) → files name ≡ Some file → OfImages file (IsAcceptedIn product cpu) → (reply : Reply) (output : List ℕ) →
      AllowsProduct product cpu told name reply output → IsOneOf (status_of reply) (accepted_statuses product)
  accepted-one product cpu file has a _ output (made_of_file f) = done-accepted product
  accepted-one product cpu file has a reply _ (unmade h) = unmade-accepted product cpu file has a reply h

  unmade-refused : (product : Product) (cpu : Cpu) (file : List ℕ) → files name ≡ Some file → OfImages file (IsRefusedIn product cpu) → (reply : Reply) → IsUnmade product cpu told name reply →
      IsOneOf (status_of reply) refused_statuses
  unmade-refused product cpu file has a _ (refused reason f) =
      let d = held file (IsRefusedAs product cpu reason) has f in
      refused-one product cpu d.image reason (a.each d.image d.is_image) d.refused
  unmade-refused product cpu file has a reply (no_image h) =
      faulty-refused (status_of reply) (no_image-faulty file has a.image a.is_image reply h)

  pub refused-always : (product : Product) (cpu : Cpu) (file : List ℕ) → files name ≡ Some file → OfImages file (IsRefusedIn product cpu) → (reply : Reply) (output : List ℕ) →
      AllowsProduct product cpu told name reply output → IsOneOf (status_of reply) refused_statuses
  refused-always product cpu file has a _ output (made_of_file f) =
      let d = held file (λ x. Makes product cpu x output) has f in
      absurd (made-not_refused product cpu d.image output d.is_made (a.each d.image d.is_image))
  refused-always product cpu file has a reply _ (unmade h) = unmade-refused product cpu file has a reply h

  -- the listing is assembled, or it is refused

  assembly-missing : files name ≡ None → (reply : Reply) (output : List ℕ) → AllowsAssembly told name reply output → IsOneOf (status_of reply) (3 ∷ (4 ∷ (6 ∷ (7 ∷ []))))
  assembly-missing lacks _ output (assembled f) = absurd (not-held (λ x. IsAssembled x output) lacks f)
  assembly-missing lacks reply _ (unassembled (no_listing h)) = missing lacks reply h
  assembly-missing lacks _ _ (unassembled (misspelled {line = line} {kind = kind} f)) =
      absurd (not-held (λ x. IsFirstOffence x line kind) lacks f)

  pub assembly-done : (text bytes : List ℕ) → files name ≡ Some text → IsAssembled text bytes → (reply : Reply) (output : List ℕ) → AllowsAssembly told name reply output →
      IsOneOf (status_of reply) (0 ∷ (4 ∷ (6 ∷ (7 ∷ []))))
  assembly-done text bytes has is _ output (assembled f) = inl refl
  assembly-done text bytes has is reply _ (unassembled (no_listing h)) = faulty-one 0 (status_of reply) (faulty text has reply h)
  assembly-done text bytes has is _ _ (unassembled (misspelled {line = line} {kind = kind} f)) =
      absurd (assembled_no_fault text bytes line kind is (held text (λ x. IsFirstOffence x line kind) has f))

  pub assembly-refused : (text : List ℕ) → files name ≡ Some text → IsNoListing text → (reply : Reply) (output : List ℕ) → AllowsAssembly told name reply output →
      IsOneOf (status_of reply) (25 ∷ (4 ∷ (6 ∷ (7 ∷ []))))
  assembly-refused text has none _ output (assembled f) = absurd (none output (held text (λ x. IsAssembled x output) has f))
  assembly-refused text has none reply _ (unassembled (no_listing h)) = faulty-one 25 (status_of reply) (faulty text has reply h)
  assembly-refused text has none _ _ (unassembled (misspelled f)) = inl refl

  -- runs

  pub file-ended : (cpu : Cpu) (file : List ℕ) (image : Image) (steps : ℕ) (bytes : List ℕ) (before left : Option (List ℕ)) → files name ≡ Some file → IsImageOf file image → before ≡ Some bytes → (reply : Reply)
      (output : List ℕ) → OfFile told name (λ x. RunsFile cpu x steps before left reply output) → IsOneOf (status_of reply)
      (end_status (end_after (machine_system cpu) steps ((machine_of cpu image).start bytes)) ∷ (4 ∷ (5 ∷ (6 ∷ (7 ∷ [])))))
  file-ended cpu file image steps bytes before left has is told_left reply output f =
      let r = held file (λ x. RunsFile cpu x steps before left reply output) has f in
      subst (λ s. IsOneOf (status_of reply) (end_status (end_after (machine_system cpu) steps s) ∷ (4 ∷ (5 ∷ (6 ∷ (7 ∷ [])))))) (same-start file r.image image bytes r.is_image is)
      (run-ended (machine_of cpu r.image) steps before left reply output bytes told_left r.finishes)

  -- a fault among the statuses of a run
  faulty-run : (first : ℕ) (status : ℕ) → (status ≡ 4) ⊎ (status ≡ 7) → IsOneOf status (first ∷ (4 ∷ (5 ∷ (6 ∷ (7 ∷ [])))))
  faulty-run first status (inl four) = inr (inl four)
  faulty-run first status (inr seven) = inr (inr (inr (inr (inl seven))))

-- What is allowed for a job, where the shelf tells the file of its name.

module _ (told : Files) (before left : Option (List ℕ)) (files : List ℕ → Option (List ℕ)) (tells : told ≡ Some files) where
  -- what the shelf has under the name that is known, it has under the job's own
  own : (name other : List ℕ) (held : Option (List ℕ)) → Some name ≡ Some other → files other ≡ held → files name ≡ held
  own name other held same is = ap files (name-of name other same) ∙ is

  pub job-misshapen : (job : Job) (other file : List ℕ) (fault : FormatFault) → file_in job ≡ Some other → files other ≡ Some file → LoadsImage (Some job) → IsFirstFault file fault → (reply : Reply) (output : List ℕ) →
      Allows told before left (Some job) reply output → IsOneOf (status_of reply) (8 ∷ (4 ∷ (6 ∷ (7 ∷ []))))
  job-misshapen _ other file fault is has loads first reply output (for_product {product = product} {name = name} {cpu = cpu} h same) =
      product-misshapen told name files tells product cpu file fault (own name other (Some file) is has) first reply output h
  job-misshapen _ other file fault is has loads first reply output (ran_file {name = name} {steps = steps} {cpu = cpu} f) =
      let r = held told name files tells file (λ x. RunsFile cpu x steps before left reply output) (own name other (Some file) is has) f in
      absurd (not_both file r.image fault r.is_image first)
  job-misshapen _ other file fault is has loads first reply _ (ran_no_file {name = name} h same) =
      misshapen-one told name files tells file (own name other (Some file) is has) reply h
  job-misshapen _ other file fault is has loads first reply output (watched_file {name = name} {steps = steps} {cpu = cpu} f) =
      let r = held told name files tells file (λ x. WatchesFile cpu x steps before left reply output) (own name other (Some file) is has) f in
      absurd (not_both file r.image fault r.is_image first)
  job-misshapen _ other file fault is has loads first reply _ (watched_no_file {name = name} {cpu = cpu} h same) =
      unmade-misshapen told name files tells Procedures cpu file fault (own name other (Some file) is has) first reply h
  job-misshapen _ other file fault is has loads first reply output (ran_text f) = absurd loads
  job-misshapen _ other file fault is has loads first reply _ (ran_no_text h same) = absurd loads
  job-misshapen _ other file fault is has loads first reply output (for_assembly h same) = absurd loads
  job-misshapen _ other file fault is has loads first reply output (for_trial sized h same) = absurd loads

  pub job-missing : (job : Job) (other : List ℕ) → file_in job ≡ Some other → files other ≡ None → (reply : Reply) (output : List ℕ) → Allows told before left (Some job) reply output → IsOneOf (status_of reply)
      (3 ∷ (4 ∷ (6 ∷ (7 ∷ []))))
  job-missing _ other is lacks reply output (for_product {product = product} {name = name} {cpu = cpu} h same) =
      product-missing told name files tells product cpu (own name other None is lacks) reply output h
  job-missing _ other is lacks reply output (ran_file {name = name} {steps = steps} {cpu = cpu} f) =
      absurd (not-held told name files tells (λ x. RunsFile cpu x steps before left reply output) (own name other None is lacks) f)
  job-missing _ other is lacks reply _ (ran_no_file {name = name} h same) =
      missing-image told name files tells (own name other None is lacks) reply h
  job-missing _ other is lacks reply output (watched_file {name = name} {steps = steps} {cpu = cpu} f) =
      absurd (not-held told name files tells (λ x. WatchesFile cpu x steps before left reply output) (own name other None is lacks) f)
  job-missing _ other is lacks reply _ (watched_no_file {name = name} {cpu = cpu} h same) =
      unmade-missing told name files tells Procedures cpu (own name other None is lacks) reply h
  job-missing _ other is lacks reply output (ran_text {name = name} {steps = steps} {fill = fill} f) =
      absurd (not-held told name files tells (λ x. RunsText x steps fill before left reply output) (own name other None is lacks) f)
  job-missing _ other is lacks reply _ (ran_no_text {name = name} (no_text h) same) =
      missing told name files tells (own name other None is lacks) reply h
  job-missing _ other is lacks _ _ (ran_no_text {name = name} (offends f) same) =
      absurd (not-held told name files tells _ (own name other None is lacks) f)
  job-missing _ other is lacks reply output (for_assembly {name = name} h same) =
      assembly-missing told name files tells (own name other None is lacks) reply output h
  job-missing _ other is lacks reply output (for_trial sized h same) = absurd (let none : ⊥ = cc in none)

  -- the text is refused
  pub text-refused : (name : List ℕ) (steps fill : ℕ) (file : List ℕ) → files name ≡ Some file → IsNoText file → (reply : Reply) (output : List ℕ) → Allows told before left
      (Some (ExecuteText name steps fill)) reply output → IsOneOf (status_of reply) (11 ∷ (4 ∷ (6 ∷ (7 ∷ []))))
  text-refused name steps fill file has none reply output (ran_text f) =
      let r = held told name files tells file (λ x. RunsText x steps fill before left reply output) has f in
      elim none [
        | inl no_tree ↦ absurd (no_tree r.tree r.is_read.stands)
        | inr long ↦ absurd (omega (arith, long, r.is_read.length))
      ]
  text-refused name steps fill file has none reply _ (ran_no_text h same) =
      no_unit-faulty told name files tells file has reply h

  -- what the run of a text ends with
  text-ended : (name : List ℕ) (steps fill : ℕ) (file bytes : List ℕ) (end : End) → files name ≡ Some file → before ≡ Some bytes → EndsSo file bytes (ExecuteText name steps fill) end → (reply : Reply)
      (output : List ℕ) → OfFile told name (λ x. RunsText x steps fill before left reply output) → IsOneOf (status_of reply) (end_status end ∷ (4 ∷ (5 ∷ (6 ∷ (7 ∷ [])))))
  text-ended name steps fill file bytes _ has told_left (text_ends {tree = tree} stands within) reply output f =
      let r = held told name files tells file (λ x. RunsText x steps fill before left reply output) has f in
      let runs = subst (λ t. RunsUnit t steps fill before left reply output) (sym (r.is_read.alone tree stands)) r.runs in
      text-run-ended (text_of tree stands.allowed.start fill) steps before left reply output bytes told_left (runs file stands)

  no_unit-ended : (name : List ℕ) (steps fill : ℕ) (file bytes : List ℕ) (end : End) → files name ≡ Some file → EndsSo file bytes (ExecuteText name steps fill) end → (reply : Reply) →
      HasNoUnit told name reply → IsOneOf (status_of reply) (end_status end ∷ (4 ∷ (5 ∷ (6 ∷ (7 ∷ [])))))
  no_unit-ended name steps fill file bytes end has e reply (no_text h) =
      faulty-run told name files tells (end_status end) (status_of reply) (faulty told name files tells file has reply h)
  no_unit-ended name steps fill file bytes _ has (text_ends {tree = tree} stands within) _ (offends f) =
      absurd ((held told name files tells file _ has f).no_tree within tree stands)

  run-of_file : (name : List ℕ) (steps : ℕ) (cpu : Cpu) (file bytes : List ℕ) (end : End) → files name ≡ Some file → before ≡ Some bytes → EndsSo file bytes (Execute name steps cpu) end → (reply : Reply)
      (output : List ℕ) → OfFile told name (λ x. RunsFile cpu x steps before left reply output) → IsOneOf (status_of reply) (end_status end ∷ (4 ∷ (5 ∷ (6 ∷ (7 ∷ [])))))
  run-of_file name steps cpu file bytes _ has told_left (file_ends {image = image} is) reply output f =
      file-ended told name files tells cpu file image steps bytes before left has is told_left reply output f

  no_image-ended : (name : List ℕ) (steps : ℕ) (cpu : Cpu) (file bytes : List ℕ) (end : End) → files name ≡ Some file → EndsSo file bytes (Execute name steps cpu) end → (reply : Reply) → HasNoImage told name reply →
      IsOneOf (status_of reply) (end_status end ∷ (4 ∷ (5 ∷ (6 ∷ (7 ∷ [])))))
  no_image-ended name steps cpu file bytes end has (file_ends {image = image} is) reply h =
      faulty-run told name files tells (end_status end) (status_of reply) (no_image-faulty told name files tells file has image is reply h)

  -- a watched run is refused where a construct stands or a count is too great
  pub watch-refused : (name : List ℕ) (steps : ℕ) (cpu : Cpu) (file : List ℕ) → files name ≡ Some file → OfImages file (IsUnsound cpu) → (reply : Reply) (output : List ℕ) →
      Allows told before left (Some (ExecuteWatched name steps cpu)) reply output → IsOneOf (status_of reply) refused_statuses
  watch-refused name steps cpu file has a reply output (watched_file f) =
      let r = held told name files tells file (λ x. WatchesFile cpu x steps before left reply output) has f in
      absurd (sound-not_unsound cpu r.image r.watches.sound (a.each r.image r.is_image))
  watch-refused name steps cpu file has a reply _ (watched_no_file h same) =
      unmade-refused told name files tells Procedures cpu file has a reply h

  -- a watched run is made where nothing refuses the program, but for the faults that yield to nothing
  watch-faulty : (name : List ℕ) (cpu : Cpu) (file : List ℕ) (first : ℕ) → files name ≡ Some file → OfImages file (IsSound cpu) → (reply : Reply) → IsUnmade Procedures cpu told name reply →
      IsOneOf (status_of reply) (first ∷ (4 ∷ (5 ∷ (6 ∷ (7 ∷ [])))))
  watch-faulty name cpu file first has a reply h =
      faulty-run told name files tells first (status_of reply) (sound-faulty told name files tells cpu file has a reply h)

  all-sound : {P : Image → Type 0} (file : List ℕ) (cpu : Cpu) → ((image : Image) → P image → IsSound cpu image) → OfImages file P → OfImages file (IsSound cpu)
  all-sound file cpu sound a = record { image = a.image; is_image = a.is_image; each = λ other is. sound other (a.each other is) }

  watch-ended : (name : List ℕ) (steps : ℕ) (cpu : Cpu) (file bytes : List ℕ) (end : End) → files name ≡ Some file → before ≡ Some bytes → EndsSo file bytes (ExecuteWatched name steps cpu) end → (reply : Reply)
      (output : List ℕ) → OfFile told name (λ x. WatchesFile cpu x steps before left reply output) → IsOneOf (status_of reply) (end_status end ∷ (4 ∷ (5 ∷ (6 ∷ (7 ∷ [])))))
  watch-ended name steps cpu file bytes _ has told_left (watched_ends {end = end} a) reply output f =
      let r = held told name files tells file (λ x. WatchesFile cpu x steps before left reply output) has f in
      watched-clean cpu r.image steps before left bytes end told_left (a.each r.image r.is_image) reply output r.watches

  watch-unmade_ended : (name : List ℕ) (steps : ℕ) (cpu : Cpu) (file bytes : List ℕ) (end : End) → files name ≡ Some file → EndsSo file bytes (ExecuteWatched name steps cpu) end → (reply : Reply) →
      IsUnmade Procedures cpu told name reply → IsOneOf (status_of reply) (end_status end ∷ (4 ∷ (5 ∷ (6 ∷ (7 ∷ [])))))
  watch-unmade_ended name steps cpu file bytes _ has (watched_ends {end = end} a) reply h =
      watch-faulty name cpu file (end_status end) has (all-sound file cpu (λ image e. e.sound) a) reply h

  -- a foul step is told wherever the run meets one
  pub watch-foul : (name : List ℕ) (steps : ℕ) (cpu : Cpu) (file bytes : List ℕ) → files name ≡ Some file → before ≡ Some bytes → OfImages file (MeetsFoul cpu steps bytes) → (reply : Reply)
      (output : List ℕ) → Allows told before left (Some (ExecuteWatched name steps cpu)) reply output → IsOneOf (status_of reply) (23 ∷ (4 ∷ (5 ∷ (6 ∷ (7 ∷ [])))))
  watch-foul name steps cpu file bytes has told_left a reply output (watched_file f) =
      let r = held told name files tells file (λ x. WatchesFile cpu x steps before left reply output) has f in
      watched-foul cpu r.image steps before left bytes told_left (a.each r.image r.is_image) reply output r.watches
  watch-foul name steps cpu file bytes has told_left a reply _ (watched_no_file h same) =
      watch-faulty name cpu file 23 has (all-sound file cpu (λ image m. m.sound) a) reply h

  no-made_end : (product : Product) (name : List ℕ) (cpu : Cpu) (file bytes : List ℕ) (end : End) → EndsSo file bytes (Make product name cpu) end → ⊥
  no-made_end product name cpu file bytes end e = elim e [ ]

  no-assembly_end : (name file bytes : List ℕ) (end : End) → EndsSo file bytes (Assemble name) end → ⊥
  no-assembly_end name file bytes end e = elim e [ ]

  no-trial_end : (seed size steps : ℕ) (file bytes : List ℕ) (end : End) → EndsSo file bytes (Try seed size steps) end → ⊥
  no-trial_end seed size steps file bytes end e = elim e [ ]

  -- the run that a job asks for ends as the definition says
  pub job-ended : (job : Job) (other file bytes : List ℕ) (end : End) → file_in job ≡ Some other → files other ≡ Some file → before ≡ Some bytes → EndsSo file bytes job end → (reply : Reply) (output : List ℕ) →
      Allows told before left (Some job) reply output → IsOneOf (status_of reply) (end_status end ∷ (4 ∷ (5 ∷ (6 ∷ (7 ∷ [])))))
  job-ended _ other file bytes end is has told_left e reply output (for_product {product = product} {name = name} {cpu = cpu} h same) =
      absurd (no-made_end product name cpu file bytes end e)
  job-ended _ other file bytes end is has told_left e reply output (ran_file {name = name} {steps = steps} {cpu = cpu} f) =
      run-of_file name steps cpu file bytes end (own name other (Some file) is has) told_left e reply output f
  job-ended _ other file bytes end is has told_left e reply _ (ran_no_file {name = name} {steps = steps} {cpu = cpu} h same) =
      no_image-ended name steps cpu file bytes end (own name other (Some file) is has) e reply h
  job-ended _ other file bytes end is has told_left e reply output (watched_file {name = name} {steps = steps} {cpu = cpu} f) =
      watch-ended name steps cpu file bytes end (own name other (Some file) is has) told_left e reply output f
  job-ended _ other file bytes end is has told_left e reply _ (watched_no_file {name = name} {steps = steps} {cpu = cpu} h same) =
      watch-unmade_ended name steps cpu file bytes end (own name other (Some file) is has) e reply h
  job-ended _ other file bytes end is has told_left e reply output (ran_text {name = name} {steps = steps} {fill = fill} f) =
      text-ended name steps fill file bytes end (own name other (Some file) is has) told_left e reply output f
  job-ended _ other file bytes end is has told_left e reply _ (ran_no_text {name = name} {steps = steps} {fill = fill} h same) =
      no_unit-ended name steps fill file bytes end (own name other (Some file) is has) e reply h
  job-ended _ other file bytes end is has told_left e reply output (for_assembly {name = name} h same) =
      absurd (no-assembly_end name file bytes end e)
  job-ended _ other file bytes end is has told_left e reply output (for_trial {seed = seed} {size = size} {steps = steps} sized h same) =
      absurd (no-trial_end seed size steps file bytes end e)
