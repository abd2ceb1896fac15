-- From the answer to a job, and what was told of it, to what the program promises of the call.
use Rattle.std.proofs.Common.{◌≡◌, ◌⊎◌, inl, inr, sym, ap, ◌∙◌, subst, arith}
use Rattle.std.specs.Prelude.{◌≢◌, Ok, Err}
use Rattle.dcc_io.specs.declared.outside.Failed.{Failed}
use Rattle.dcc_top.specs.declared.reply.Reply.{Reply}
use Rattle.dcc_top.specs.declared.reply.Reply.TheVariants.{Done, Memory}
use Rattle.dcc_top.specs.Answer.{status_of, line_of}
use Rattle.dcc_top.specs.Call.{Call, AppendsPart}
use Rattle.dcc_top.specs.Causes.{IsAnswered, answered, found_no_memory, broke_off, Replies, AsksAll, AsksPrefix}
use Rattle.dcc_top.specs.Delivery.{TellsReply}
use Rattle.dcc_top.specs.Promises.{KeepsPromises}
use Rattle.dcc_top.proofs.StatusLaws.{status-not_six}
use Rattle.dcc_top.proofs.WatchedCauses.{watched-clean, watched-foul}
use Rattle.dcc_top.proofs.AssemblyCauses.{has-assembled, assembled-always, listing-fault, listing_fault-always}
use Rattle.dcc_top.proofs.CauseLaws.{usage, usage-always, text, procedures, listing, trial, trial-always, exited, ran, ran-always, foul-always, read-failed, format, format-always, absent, absent-always, unreadable, program-refused, refused-always, procedures_refused-always, listing_refused-always, watch_refused-always, text-always, procedures-always, listing-always, text-fault, text_fault-always, nothing, out-of_memory, cut-off, write-failed}

module _ (call : Call) where
  -- all that holds of what a call comes to, with what it has asked
  promises : IsAnswered call → AsksPrefix call.job call.shelf.asked → (call.status ≢ 6 → call.status ≢ 7 → AsksAll call.job call.shelf.asked) →
      (call.status ≡ 6 → AsksAll call.job call.shelf.asked ⊎ AppendsPart call.errors (line_of Memory)) → KeepsPromises call
  promises a prefix asked cut = record {
    text = record { text = text call a; text_always = text-always call a };
    procedures = record { procedures = procedures call a; procedures_always = procedures-always call a };
    listing = record { listing = listing call a; listing_always = listing-always call a };
    assembly = record { assembled = has-assembled call a; assembled_always = assembled-always call a };
    trial = record { trial = trial call a; trial_always = trial-always call a };
    runs = record {
      exited = exited call a;
      ran = ran call a;
      ran_always = ran-always call a;
      read_failed = read-failed call a;
    };
    watch = record { clean = watched-clean call a; foul = watched-foul call a; foul_always = foul-always call a };
    refusals = record {
      usage = usage call a;
      usage_always = usage-always call a;
      format = format call a;
      format_always = format-always call a;
      refused = program-refused call a;
      refused_always = refused-always call a;
      procedures_refused_always = procedures_refused-always call a;
      listing_refused_always = listing_refused-always call a;
      watch_refused_always = watch_refused-always call a;
      text_fault = text-fault call a;
      text_fault_always = text_fault-always call a;
      listing_fault = listing-fault call a;
      listing_fault_always = listing_fault-always call a;
      nothing = nothing call a;
    };
    faults = record {
      absent = absent call a;
      absent_always = absent-always call a;
      unreadable = unreadable call a;
      write_failed = write-failed call a;
      cut_off = cut-off call a;
      out_of_memory = out-of_memory call a;
    };
    answer = record { answered = a; asked_prefix = prefix; asked = asked; asked_cut_off = cut };
  }

  -- the line of an answer was told, or want of memory in its place
  abbrev pub IsTold : Reply → Type 0
  IsTold reply =
      TellsReply reply call.status call.errors ⊎ ((reply ≢ Done) × TellsReply Memory call.status call.errors)

  is-answered : (reply : Reply) → Replies call.job call.shelf call.input call.output (Ok reply) → IsTold reply → IsAnswered call
  is-answered reply r (inl t) =
      answered reply r.allowed (record { no_file = r.absent; file_fault = r.failed; input_fault = r.read_failed }) t
  is-answered reply r (inr t) = found_no_memory reply r.allowed t.0 t.1

  -- at any other status than those of a failed write and of want of memory, it is that of the answer
  status-by : (reply : Reply) → IsTold reply → call.status ≢ 6 → call.status ≢ 7 → call.status ≡ status_of reply
  status-by reply (inl (inl t)) not_six not_seven = t.0
  status-by reply (inl (inr t)) not_six not_seven = absurd (not_six t.0)
  status-by reply (inr (not, inl t)) not_six not_seven = absurd (not_seven t.0)
  status-by reply (inr (not, inr t)) not_six not_seven = absurd (not_six t.0)

  -- what holds of every answer but want of memory holds at any other status than these
  asked-by : (A : Type 0) (reply : Reply) → (reply ≡ Memory) ⊎ A → IsTold reply → call.status ≢ 6 → call.status ≢ 7 → A
  asked-by A reply (inr asks) t not_six not_seven = asks
  asked-by A reply (inl memory) t not_six not_seven =
      absurd (not_seven (status-by reply t not_six not_seven ∙ ap status_of memory))

  -- where a write failed, what holds of every answer but want of memory holds, or a part of the line of want of memory
  -- is there
  asked-cut : (A : Type 0) (reply : Reply) → (reply ≡ Memory) ⊎ A → IsTold reply → call.status ≡ 6 → A ⊎ AppendsPart call.errors (line_of Memory)
  asked-cut A reply (inr asks) t six = inl asks
  asked-cut A reply (inl memory) (inl (inl t)) six = absurd (status-not_six reply (sym t.0 ∙ six))
  asked-cut A reply (inl memory) (inl (inr t)) six =
      inr (subst (λ r. AppendsPart call.errors (line_of r)) memory t.1)
  asked-cut A reply (inl memory) (inr (not, inl t)) six = absurd (let e : 7 ≡ 6 = sym t.0 ∙ six in omega (arith, e))
  asked-cut A reply (inl memory) (inr (not, inr t)) six = inr t.1

  pub promises-told : (reply : Reply) → Replies call.job call.shelf call.input call.output (Ok reply) → IsTold reply → KeepsPromises call
  promises-told reply r t =
      promises (is-answered reply r t) r.asked_prefix (asked-by (AsksAll call.job call.shelf.asked) reply r.asked t) (asked-cut (AsksAll call.job call.shelf.asked) reply r.asked t)

  -- nothing is told where a write of what is due failed
  pub promises-cut : (failed : Failed) → Replies call.job call.shelf call.input call.output (Err failed) → call.status ≡ 6 → call.errors.taken.after ≡ call.errors.taken.before → KeepsPromises call
  promises-cut failed r six same =
      let broke = r.broke_off in
      promises (broke_off broke.due broke.is_due (record { status_is = six; out = broke.part; err = same; failed = r.write_failed })) r.asked_prefix (λ not_six not_seven. r.asked) (λ is. inl r.asked)
