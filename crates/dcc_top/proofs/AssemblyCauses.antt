-- When the bytes of a listing are written, and when it is refused.
use Rattle.std.proofs.Common.{◌≡◌, ℕ, true, inl, inr, List, [], ◌∷◌, Option, Some, refl, sym, ap, ◌∙◌, subst, arith}
use Rattle.dcc_io.specs.Told.{append_told}
use Rattle.dcc_asm.specs.declared.fault.ListKind.{ListKind}
use Rattle.dcc_asm.specs.Fault.{IsAssembled, IsFirstFault}
use Rattle.dcc_top.specs.declared.reply.Reply.{Reply}
use Rattle.dcc_top.specs.declared.reply.Reply.TheVariants.{ListingFault}
use Rattle.dcc_commands.specs.declared.job.Product.TheVariants.{Procedures}
use Rattle.dcc_commands.specs.Words.{Job, Execute, ExecuteWatched, ExecuteText, Assemble}
use Rattle.dcc_top.specs.Answer.{OfFile, AllowsAssembly, assembled, unassembled, no_listing, misspelled}
use Rattle.dcc_top.specs.Answer.{no_job, for_product, ran_file, ran_no_file, watched_file, watched_no_file}
use Rattle.dcc_top.specs.Answer.{ran_text, ran_no_text, for_assembly, for_trial, status_of, line_of}
use Rattle.dcc_top.specs.Call.{Call}
use Rattle.dcc_top.specs.Causes.{HasListingFault, IsNoListing, Names}
use Rattle.dcc_top.specs.Headline.{HasAssembled}
use Rattle.dcc_top.specs.Status.{IsOneOf}
use Rattle.dcc_top.specs.Status as exit
use Rattle.dcc_top.proofs.StatusLaws.{are_apart, apart, no_file-status, image_faults, no_image-status, text_faults}
use Rattle.dcc_top.proofs.StatusLaws.{no_unit-status, product_statuses, product-status, unmade_statuses, unmade-status}
use Rattle.dcc_top.proofs.StatusLaws.{run_statuses, listing_faults, unassembled-status, trial_statuses, trial-status}
use Rattle.dcc_top.proofs.NamedLaws.{assembly-done, assembly-refused}
use Rattle.dcc_top.proofs.CauseLaws.{told, Allowed, Comes, told-at, one-of, named-file, runs-status}

module _ (call : Call) where
  -- what is allowed for the bytes of a listing
  for-assembly : (name : List ℕ) (reply : Reply) (output : List ℕ)
      → Allowed call (Some (Assemble name)) reply output → AllowsAssembly (told call) name reply output
  for-assembly name reply output (for_assembly h same) = h

  -- what holds of every answer for the listing that is named
  of-assembly : (name ns : List ℕ) → IsOneOf 6 ns → IsOneOf 7 ns → call.job ≡ Some (Assemble name) → Comes call
      → ((reply : Reply) (output : List ℕ) → AllowsAssembly (told call) name reply output
      → IsOneOf (status_of reply) ns)
      → IsOneOf call.status ns
  of-assembly name ns six seven named a each =
      one-of call ns six seven
      (λ reply output h. each reply output (for-assembly name reply output
      (subst (λ j. Allowed call j reply output) named h))) a

  assembled-of : (name : List ℕ) (reply : Reply) (output : List ℕ) → AllowsAssembly (told call) name reply output
      → status_of reply ≡ 0 → OfFile (told call) name (λ text. IsAssembled text output)
  assembled-of name _ output (assembled f) is = f
  assembled-of name reply _ (unassembled h) is =
      let one = unassembled-status (told call) name reply h in
      absurd (apart (status_of reply) (0 ∷ []) listing_faults refl (inl is) one)

  pub has-assembled : Comes call → (name : List ℕ) → call.job ≡ Some (Assemble name) → call.status ≡ 0
      → HasAssembled (told call) name call.output.taken.before call.output.taken.after
  has-assembled a name named is =
      let t = told-at call 0 is (λ e. omega (arith, e)) (λ e. omega (arith, e)) a in
      let h = for-assembly name t.reply t.output (subst (λ j. Allowed call j t.reply t.output) named t.allowed) in
      let f = assembled-of name t.reply t.output h (sym t.status_is ∙ is) in
      record { text = f.file; bytes = t.output; has = f.has; assembled = f.holds; appended = t.out }

  pub assembled-always : Comes call → (name text bytes : List ℕ) → call.job ≡ Some (Assemble name) → Names call text
      → IsAssembled text bytes → IsOneOf call.status (0 ∷ exit.faults)
  assembled-always a name text bytes named n is =
      let has = named-file call (Assemble name) name text named refl n in
      of-assembly name (0 ∷ exit.faults) (inr (inr (inl refl))) (inr (inr (inr (inl refl)))) named a
      (assembly-done (told call) name n.files n.tells text bytes has is)

  pub listing_fault-always : Comes call → (name text : List ℕ) → call.job ≡ Some (Assemble name) → Names call text
      → IsNoListing text → IsOneOf call.status (25 ∷ exit.faults)
  listing_fault-always a name text named n none =
      let has = named-file call (Assemble name) name text named refl n in
      of-assembly name (25 ∷ exit.faults) (inr (inr (inl refl))) (inr (inr (inr (inl refl)))) named a
      (assembly-refused (told call) name n.files n.tells text has none)

  -- the answer names which line of the listing offends first, and how
  record IsMisspelled (j : Option Job) (reply : Reply) : Type 0 where
    name : List ℕ
    at : ℕ
    kind : ListKind
    named : j ≡ Some (Assemble name)
    reply_is : reply ≡ ListingFault at kind
    first : OfFile (told call) name (λ text. IsFirstFault text at kind)

  -- an answer with one of these statuses refuses no listing
  other : {A : Type 0} (reply : Reply) (ns : List ℕ) → are_apart (25 ∷ []) ns ≡ true → IsOneOf (status_of reply) ns
      → status_of reply ≡ 25 → A
  other reply ns far one is = absurd (apart (status_of reply) (25 ∷ []) ns far (inl is) one)

  assembly-misspelled : (name : List ℕ) (reply : Reply) (output : List ℕ)
      → AllowsAssembly (told call) name reply output → status_of reply ≡ 25
      → IsMisspelled (Some (Assemble name)) reply
  assembly-misspelled name _ output (assembled f) is = absurd (omega (arith, is))
  assembly-misspelled name reply _ (unassembled (no_listing h)) is =
      other reply (3 ∷ (4 ∷ (7 ∷ []))) refl (no_file-status (told call) name reply h) is
  assembly-misspelled name _ _ (unassembled (misspelled {line = at} {kind = kind} f)) is =
      record { name = name; at = at; kind = kind; named = refl; reply_is = refl; first = f }

  misspelled-of : (j : Option Job) (reply : Reply) (output : List ℕ) → Allowed call j reply output
      → status_of reply ≡ 25 → IsMisspelled j reply
  misspelled-of _ _ _ (no_job same) is = absurd (omega (arith, is))
  misspelled-of _ reply output (for_product {product = product} {name = name} {cpu = cpu} h same) is =
      other reply product_statuses refl (product-status product cpu (told call) name reply output h) is
  misspelled-of _ reply output (ran_file {name = name} {steps = steps} {cpu = cpu} f) is =
      other reply run_statuses refl (runs-status call (Execute name steps cpu) f.file reply output f.holds) is
  misspelled-of _ reply _ (ran_no_file {name = name} h same) is =
      other reply image_faults refl (no_image-status (told call) name reply h) is
  misspelled-of _ reply output (watched_file {name = name} {steps = steps} {cpu = cpu} f) is =
      other reply run_statuses refl (runs-status call (ExecuteWatched name steps cpu) f.file reply output f.holds) is
  misspelled-of _ reply _ (watched_no_file {name = name} {cpu = cpu} h same) is =
      other reply unmade_statuses refl (unmade-status Procedures cpu (told call) name reply h) is
  misspelled-of _ reply output (ran_text {name = name} {steps = steps} {fill = fill} f) is =
      other reply run_statuses refl (runs-status call (ExecuteText name steps fill) f.file reply output f.holds) is
  misspelled-of _ reply _ (ran_no_text {name = name} h same) is =
      other reply text_faults refl (no_unit-status (told call) name reply h) is
  misspelled-of _ reply output (for_assembly {name = name} h same) is = assembly-misspelled name reply output h is
  misspelled-of _ reply output (for_trial {seed = seed} {size = size} {steps = steps} sized h same) is =
      other reply trial_statuses refl (trial-status seed size steps reply output h) is

  pub listing-fault : Comes call → call.status ≡ 25 → HasListingFault call
  listing-fault a is =
      let t = told-at call 25 is (λ e. omega (arith, e)) (λ e. omega (arith, e)) a in
      let m = misspelled-of call.job t.reply t.output t.allowed (sym t.status_is ∙ is) in
      record {
        name = m.name;
        text = m.first.file;
        line = m.at;
        kind = m.kind;
        named = m.named;
        has = m.first.has;
        first = m.first.holds;
        line_is = t.line ∙ ap (λ x. append_told call.errors.taken.before (line_of x)) m.reply_is;
      }
