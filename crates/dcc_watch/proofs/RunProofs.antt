-- From steps of the watch to its runs.
use Rattle.std.proofs.Common.{◌≡◌, ◌≢◌, ◌⊎◌, inl, inr, ℕ, zero, suc, ◌+◌, ◌-◌, ◌<◌, Bool, true, false, List, Option, refl, ap, subst, arith}
use Rattle.std.specs.Prelude.{◌&&◌, not}
use Rattle.dcc_run.specs.End.{End, Running as running, Exit as exited, Divide as divided, Outside as outside, Stuck, is_over}
use Rattle.dcc_prog.specs.Watch as stage
use Rattle.dcc_console.specs.WithConsole.{WithConsole, beside_console}
use Rattle.dcc_console.specs.Steps.{Makes, MakesSteps, Steps, Runs, made}
use Rattle.dcc_console.proofs.Runs.{one_more}
use Rattle.dcc_step.specs.declared.ending.Stepped.TheVariants.{Running, Exit, Divide, Outside, InFault, OutFault}
use Rattle.dcc_step.specs.declared.ending.Ending.{Ending}
use Rattle.dcc_step.specs.declared.ending.Ending.TheVariants.{Running as EndRunning, Exit as EndExit, Divide as EndDivide, Outside as EndOutside}
use Rattle.dcc_step.specs.Ending.{answer_of}
use Rattle.dcc_watch.specs.declared.frames.Live.{Live}
use Rattle.dcc_watch.specs.declared.progress.Progress.{Progress}
use Rattle.dcc_watch.specs.declared.progress.Progress.TheVariants.{AtStart, InPrelude, InProcedures, Stopped}
use Rattle.dcc_watch.specs.declared.watched.Watched.{Watched}
use Rattle.dcc_watch.specs.declared.watched.Watched.TheVariants.{Clean, Foul}
use Rattle.dcc_watch.specs.Watching.{Watching, stage_of}
use Rattle.dcc_watch.specs.Reached.{is_before}
use Rattle.dcc_watch.specs.Executor.{watched, outcome_of, is_stopped, is_at_first, is_in_procedures, is_going, goes_on, Tells}
use Rattle.dcc_watch.proofs.StepLaws.{stays}

-- Where the run stands.

end_runs : (e : End) → (b : Bool) → (not (is_over e) && b) ≡ true → e ≡ running
end_runs running b is = refl
end_runs (exited code) b is = cc
end_runs divided b is = cc
end_runs (outside at) b is = cc
end_runs (Stuck line) b is = cc

pub going_runs : (now : Watching) → is_going now ≡ true → now.machine.end ≡ running
going_runs now is = end_runs now.machine.end (not (is_stopped now.stage)) is

both_true : (a b : Bool) → (not a && not b) ≡ true → b ≡ false
both_true true b is = cc
both_true false true is = cc
both_true false false is = refl

one_true : (a b : Bool) → (not a && not b) ≡ false → (a ≡ true) ⊎ (b ≡ true)
one_true true b is = inl refl
one_true false true is = inr refl
one_true false false is = cc

pub not_going : (now : Watching) → is_going now ≡ false → (is_over now.machine.end ≡ true) ⊎ (is_stopped now.stage ≡ true)
not_going now is = one_true (is_over now.machine.end) (is_stopped now.stage) is

at_first : (s : stage.Stage) → is_stopped s ≡ false → is_in_procedures s ≡ false → is_at_first s ≡ true
at_first stage.AtStart a b = refl
at_first stage.InPrelude a b = refl
at_first (stage.InProcedures stack) a b = cc
at_first (stage.Stopped foul) a b = cc

pub going_first : (now : Watching) → is_going now ≡ true → is_in_procedures now.stage ≡ false → is_at_first now.stage ≡ true
going_first now is out = at_first now.stage (both_true (is_over now.machine.end) (is_stopped now.stage) is) out

pub first_before : (progress : Progress) (live : List Live) (written : List Bool) → is_at_first (stage_of progress live written) ≡ true → is_before progress ≡ true
first_before AtStart live written is = refl
first_before InPrelude live written is = refl
first_before InProcedures live written is = cc
first_before (Stopped foul) live written is = cc

pub unstopped_of : (progress : Progress) (live : List Live) (written : List Bool)
    → ((foul : _) → progress ≡ Stopped foul → ⊥) → is_stopped (stage_of progress live written) ≡ false
unstopped_of AtStart live written other = refl
unstopped_of InPrelude live written other = refl
unstopped_of InProcedures live written other = refl
unstopped_of (Stopped foul) live written other = absurd (other foul refl)

pub not_in_fault : (e : Ending) → answer_of e ≢ InFault
not_in_fault EndRunning is = cc
not_in_fault (EndExit code) is = cc
not_in_fault EndDivide is = cc
not_in_fault (EndOutside at) is = cc

pub not_out_fault : (e : Ending) → answer_of e ≢ OutFault
not_out_fault EndRunning is = cc
not_out_fault (EndExit code) is = cc
not_out_fault EndDivide is = cc
not_out_fault (EndOutside at) is = cc

-- Runs.

pub on_made : (answer : Watched) → goes_on answer ≡ true → outcome_of answer ≡ made
on_made (Clean Running) is = refl
on_made (Clean (Exit code)) is = cc
on_made (Clean Divide) is = cc
on_made (Clean (Outside at)) is = cc
on_made (Clean InFault) is = cc
on_made (Clean OutFault) is = cc
on_made (Foul at address kind) is = cc

-- what stays makes any further steps
still : (more count : ℕ) (before now : WithConsole Watching) → Makes watched now now → MakesSteps watched count before now → MakesSteps watched (count + more) before now
still zero count before now same run =
    let all : count ≡ count + 0 = omega arith in
    subst (λ n. MakesSteps watched n before now) all run
still (suc more) count before now same run =
    let all : count + more + 1 ≡ count + suc more = omega arith in
    subst (λ n. MakesSteps watched n before now) all (one_more watched (count + more) before now now (still more count before now same run) same)

ends : (count most : ℕ) (before mid : WithConsole Watching) (code : Watching) (left taken : Option (List ℕ))
    → count < most
    → (is_over code.machine.end ≡ true) ⊎ (is_stopped code.stage ≡ true)
    → MakesSteps watched count before mid → Makes watched mid (beside_console code left taken) → MakesSteps watched most before (beside_console code left taken)
ends count most before mid code left taken lt either run last =
    let all : count + 1 + (most - (count + 1)) ≡ most = omega arith in
    subst (λ n. MakesSteps watched n before (beside_console code left taken)) all
    (still (most - (count + 1)) (count + 1) before (beside_console code left taken) (stays code left taken either)
    (one_more watched count before mid (beside_console code left taken) run last))

-- the last step of a run that doesn't go on
pub run_stops : (answer : Watched) (count most : ℕ) (before mid : WithConsole Watching) (code : Watching) (left taken : Option (List ℕ)) → count < most
    → goes_on answer ≡ false → MakesSteps watched count before mid → Steps watched (outcome_of answer) mid (beside_console code left taken) → Tells answer code
    → Runs watched most (outcome_of answer) before (beside_console code left taken)
run_stops (Clean Running) count most before mid code left taken lt is run last tells = cc
run_stops (Clean (Exit number)) count most before mid code left taken lt is run last tells =
    ends count most before mid code left taken lt (inl (ap is_over tells.0)) run last
run_stops (Clean Divide) count most before mid code left taken lt is run last tells =
    ends count most before mid code left taken lt (inl (ap is_over tells.0)) run last
run_stops (Clean (Outside at)) count most before mid code left taken lt is run last tells =
    ends count most before mid code left taken lt (inl (ap is_over tells.0)) run last
run_stops (Clean InFault) count most before mid code left taken lt is run last tells =
    record { count = count; short = lt; stop = mid; made = run; refused = last }
run_stops (Clean OutFault) count most before mid code left taken lt is run last tells =
    record { count = count; short = lt; stop = mid; made = run; refused = last }
run_stops (Foul at address kind) count most before mid code left taken lt is run last tells =
    ends count most before mid code left taken lt (inr (ap is_stopped tells)) run last
