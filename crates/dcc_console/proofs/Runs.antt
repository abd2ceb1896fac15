-- How a run is made of steps.
use Rattle.std.proofs.Common.{◌≡◌, ℕ, zero, suc, ◌+◌, ◌-◌, ◌<◌, ◌≤◌, true, List, [], ◌++◌, Some, Option, refl, sym, ap, ◌∙◌, subst, append_assoc, arith}
use Rattle.std.proofs.lemmas.List.{append-nil}
use Rattle.dcc_run.specs.End.{End, is_over}
use Rattle.dcc_run.specs.Event.{written_by, taken_by}
use Rattle.dcc_run.specs.System.{after}
use Rattle.dcc_run.proofs.EventLaws.{written-append, taken-append}
use Rattle.dcc_run.proofs.RunLaws.{after-add, after-over}
use Rattle.dcc_io.specs.Told.{append_told, prepend_told}
use Rattle.dcc_io.proofs.ToldLemmas.{append_told-nil, append_told-append, prepend_told-nil, prepend_told-append, prepend_told-some}
use Rattle.dcc_console.specs.Console.{Executor, step_in, left_in, events_in}
use Rattle.dcc_console.specs.Laws.{IsLawfulExecutor}
use Rattle.dcc_console.specs.WithConsole.{WithConsole, told_bytes}
use Rattle.dcc_console.specs.Steps.{Comes, HasEnded, Makes, MakesEach, MakesSteps, Outcome, made, read_failed, write_failed, no_memory, Steps, Runs}

module _ {W C S : Type 0} (executor : Executor W C S) where
  -- no step, each by itself
  each_none : (now : WithConsole C) → MakesEach executor 0 now now
  unfolding MakesEach
  each_none now = refl

  -- one step more, each by itself
  each_more : (count : ℕ) (before mid now : WithConsole C) → MakesEach executor count before mid → Makes executor mid now → MakesEach executor (count + 1) before now
  unfolding MakesEach
  each_more count before mid now first last =
      let all : MakesEach executor (suc count) before now = record { before = mid; reached = first; made = last } in
      let next : suc count ≡ count + 1 = omega arith in
      subst (λ n. MakesEach executor n before now) next all

  -- no step
  pub no_steps : (now : WithConsole C) → MakesSteps executor 0 now now
  no_steps now = record {
    each = each_none now;
    happened = [];
    took = sym (prepend_told-nil now.left);
    wrote = sym (append_told-nil now.taken);
    made = λ w s rest told stands has. record { stands = stands; left = has; events = sym (append-nil (events_in executor w s)) };
  }

  -- one step more
  pub one_more : (count : ℕ) (before mid now : WithConsole C) → MakesSteps executor count before mid → Makes executor mid now → MakesSteps executor (count + 1) before now
  one_more count before mid now first last = record {
    each = each_more count before mid now first.each last;
    happened = first.happened ++ last.happened;
    took =
        first.took ∙ ap (prepend_told (taken_by first.happened)) last.took
        ∙ prepend_told-append now.left (taken_by first.happened) (taken_by last.happened)
        ∙ ap (λ l. prepend_told l now.left) (sym (taken-append first.happened last.happened));
    wrote =
        last.wrote ∙ ap (λ (t : Option (List ℕ)). append_told t (written_by last.happened)) first.wrote
        ∙ append_told-append before.taken (written_by first.happened) (written_by last.happened)
        ∙ ap (append_told before.taken) (sym (written-append first.happened last.happened));
    made = λ w s rest told stands has.
        let given = taken_by last.happened in
        let left : mid.left ≡ Some (given ++ rest) = last.took ∙ ap (prepend_told given) told ∙ prepend_told-some given rest in
        let held : told_bytes now.left ≡ rest = ap told_bytes told in
        let whole : left_in executor w s ≡ taken_by first.happened ++ (given ++ rest) =
        has ∙ ap (λ l. l ++ rest) (taken-append first.happened last.happened) ∙ append_assoc (taken_by first.happened) given rest in
        let there = first.made w s (given ++ rest) left stands whole in
        let t : S = after (step_in executor w) count s in
        let one = last.made w t there.stands (there.left ∙ ap (λ l. given ++ l) (sym held)) in
        let events : events_in executor w t ++ last.happened ≡ events_in executor w s ++ (first.happened ++ last.happened) =
        ap (λ l. l ++ last.happened) there.events ∙ append_assoc (events_in executor w s) first.happened last.happened in
        subst (λ (u : S). Comes executor w now.code rest (events_in executor w s ++ (first.happened ++ last.happened)) u)
        (sym (after-add (step_in executor w) count 1 s))
        (record { stands = one.stands; left = one.left ∙ held; events = one.events ∙ events });
  }

  module _ (laws : IsLawfulExecutor executor) where
    -- what has ended makes a step without a change
    pub ended_step : (now : WithConsole C) (end : End) → HasEnded executor now.code end → is_over end ≡ true → Makes executor now now
    ended_step now end ended over = record {
      happened = [];
      took = sym (prepend_told-nil now.left);
      wrote = sym (append_told-nil now.taken);
      made = λ w s stands has.
          let same : step_in executor w s ≡ s = (laws.lawful w).stays s (ap is_over (ended w s stands) ∙ over) in
          subst (λ (u : S). Comes executor w now.code (told_bytes now.left) (events_in executor w s ++ []) u) (sym same)
          (record { stands = stands; left = has; events = sym (append-nil (events_in executor w s)) });
    }

    -- what has ended makes any number of steps without a change
    ended_each : (more count : ℕ) (before now : WithConsole C) (end : End) → HasEnded executor now.code end → is_over end ≡ true
        → MakesEach executor count before now → MakesEach executor (count + more) before now
    ended_each zero count before now end ended over each =
        let all : count ≡ count + 0 = omega arith in
        subst (λ n. MakesEach executor n before now) all each
    ended_each (suc more) count before now end ended over each =
        let all : count + more + 1 ≡ count + suc more = omega arith in
        subst (λ n. MakesEach executor n before now) all
        (each_more (count + more) before now now (ended_each more count before now end ended over each) (ended_step now end ended over))

    -- a run that has ended makes any further steps without a change
    pub ended_run : (count most : ℕ) (before now : WithConsole C) (end : End) → count ≤ most
        → HasEnded executor now.code end
        → is_over end ≡ true → MakesSteps executor count before now → MakesSteps executor most before now
    ended_run count most before now end le ended over run = record {
      each =
          let all : count + (most - count) ≡ most = omega arith in
          subst (λ n. MakesEach executor n before now) all (ended_each (most - count) count before now end ended over run.each);
      happened = run.happened;
      took = run.took;
      wrote = run.wrote;
      made = λ w s rest told stands has.
          let all : count + (most - count) ≡ most = omega arith in
          let there = run.made w s rest told stands has in
          let t : S = after (step_in executor w) count s in
          let same : after (step_in executor w) most s ≡ t =
          ap (λ n. after (step_in executor w) n s) (sym all)
          ∙ after-add (step_in executor w) count (most - count) s
          ∙ after-over (executor.console w).system (laws.lawful w) (most - count) t (ap is_over (ended w t there.stands) ∙ over) in
          subst (λ (u : S). Comes executor w now.code rest (events_in executor w s ++ run.happened) u) (sym same) there;
    }

    -- a step that was the last one: the run has ended, or the step was refused
    pub last_step : (outcome : Outcome) (count most : ℕ) (before mid now : WithConsole C) (end : End) → count < most
        → (outcome ≡ made → is_over end ≡ true) → MakesSteps executor count before mid → Steps executor outcome mid now
        → HasEnded executor now.code end → Runs executor most outcome before now
    last_step made count most before mid now end lt over run last ended =
        ended_run (count + 1) most before now end (omega arith) ended (over refl) (one_more count before mid now run last)
    last_step read_failed count most before mid now end lt over run last ended =
        record { count = count; short = lt; stop = mid; made = run; refused = last }
    last_step write_failed count most before mid now end lt over run last ended =
        record { count = count; short = lt; stop = mid; made = run; refused = last }
    last_step no_memory count most before mid now end lt over run last ended =
        record { count = count; short = lt; stop = mid; made = run; refused = last }
