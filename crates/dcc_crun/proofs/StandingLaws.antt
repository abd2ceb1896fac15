-- What a run stands for while steps are made.
use Rattle.std.proofs.Common.{◌≡◌, ℕ, List, Option, refl, sym, ap, ◌∙◌, subst}
use Rattle.std.specs.Prelude.{if◌then◌else◌}
use Rattle.dcc_run.specs.End.{Running as running, is_over}
use Rattle.dcc_c.specs.Tree.{Tree}
use Rattle.dcc_c.specs.Run.{Continuation, State, step, step_at}
use Rattle.dcc_crun.specs.declared.ending.Refusal.{Refusal}
use Rattle.dcc_crun.specs.declared.ending.Refusal.TheVariants.{Input, Output, Memory}
use Rattle.dcc_crun.specs.declared.moment.Moment.{Moment}
use Rattle.dcc_crun.specs.declared.run.CRun.{CRun}
use Rattle.dcc_crun.specs.Ending.{end_of, fault_answer_of}
use Rattle.dcc_crun.specs.Standing.{IsCallOf, AreWaiting, IsMoment, StandsAt}
use Rattle.dcc_prepare.specs.Points.{Goes}
use Rattle.dcc_console.specs.WithConsole.{WithConsole, beside_console}
use Rattle.dcc_console.specs.Steps.{HasEnded, Makes}
use Rattle.dcc_console.specs.Steps.{Steps as StepsTo}
use Rattle.dcc_crun.specs.declared.ending.CStepped.{CStepped}
use Rattle.dcc_crun.specs.Stepped.{texts, outcome_of, end_told}
use Rattle.dcc_crun.specs.Doing.{Does, Refuses, IsSame, StaysAt, Stood, Steps}

-- the step of a state that a run stands for
pub steps_of : (run : CRun) (tree : Tree) (s : State) (stands : StandsAt tree run s) → end_of run.moment.end ≡ running →
    Steps run.program run.moment tree stands.points s (step tree s)
steps_of run tree s stands runs =
    let end : s.end ≡ running = sym stands.moment.end ∙ runs in
    record {
      program_is = stands.program;
      state = stands.moment.going end;
      running = end;
      is = ap (λ e. if is_over e then s else step_at tree s.rest s) end;
    }

-- a step that was made
pub step_made : (run : CRun) (now : Moment) (left taken left_now taken_now : Option (List ℕ)) → end_of run.moment.end ≡ running →
    Does (Steps run.program run.moment) (Stood now) left taken left_now taken_now →
    Makes texts (beside_console run left taken) (beside_console (record { program = run.program; moment = now })
    left_now taken_now)
step_made run now left taken left_now taken_now runs does = record {
  happened = does.happened;
  took = does.took;
  wrote = does.wrote;
  made = λ tree s stands has.
      let one = does.made tree stands.points s (step tree s) (steps_of run tree s stands runs) has in
      record {
        stands = record { points = stands.points; program = stands.program; moment = one.0 };
        left = one.1;
        events = one.2;
      };
}

-- a run stands for a state whatever its input
pub stands_with_input : (tree : Tree) (run : CRun) (s : State) (input : List ℕ) → StandsAt tree run s → StandsAt tree run (record s { input = input })
stands_with_input tree run s input a = record {
  points = a.points;
  program = a.program;
  moment = record {
    end = a.moment.end;
    going = λ runs.
        let g = a.moment.going runs in
        record {
          state = record { call = g.state.call; waiting = g.state.waiting; fill = g.state.fill; memory = g.state.memory; end = g.state.end };
          rest = g.rest;
        };
  };
}

-- a moment that is the same stands for the same
pub same_moment : (tree : Tree) (points : ℕ → List Continuation) (m now : Moment) (s : State) → IsSame m now → IsMoment tree points m s → IsMoment tree points now s
same_moment tree points m now s same is = record {
  end = ap end_of same.end ∙ is.end;
  going = λ runs.
      let going = is.going runs in
      record {
        state = record {
          call = subst (λ k. IsCallOf tree k s.frame) (sym same.call) going.state.call;
          waiting = subst (λ ws. AreWaiting tree points ws s.waiting) (sym same.waiting) going.state.waiting;
          fill = same.fill ∙ going.state.fill;
          memory = ap (λ v. v.items) same.memory ∙ going.state.memory;
          end = ap end_of same.end ∙ going.state.end;
        };
        rest = subst (λ k. Goes tree (points k.procedure) k.at s.rest) (sym same.call) going.rest;
      };
}

-- a step that was refused
pub step_refused : (fault : Refusal) (run : CRun) (now : Moment) (left taken left_now taken_now : Option (List ℕ)) → end_of run.moment.end ≡ running →
    Refuses fault (Steps run.program run.moment) left taken left_now taken_now → StaysAt fault run.moment now →
    StepsTo texts (outcome_of (fault_answer_of fault)) (beside_console run left taken) (beside_console (record { program = run.program; moment = now }) left_now taken_now)
step_refused Input run now left taken left_now taken_now runs refused stays = record {
  takes = λ tree s byte rest stands has. refused.takes tree stands.points s (step tree s) byte rest (steps_of run tree s stands runs) has;
  unchanged =
      ap (λ (m : Moment). beside_console (record { program = run.program; moment = m }) left_now taken_now) stays
      ∙ ap (λ l. beside_console run l taken_now) refused.same_left
      ∙ ap (λ t. beside_console run left t) refused.same_taken;
}
step_refused Output run now left taken left_now taken_now runs refused stays = record {
  happened = refused.happened;
  takes = λ tree s rest stands has. (refused.makes tree stands.points s (step tree s) rest (steps_of run tree s stands runs) has).0;
  happens = λ tree s rest stands has. (refused.makes tree stands.points s (step tree s) rest (steps_of run tree s stands runs) has).1;
  unchanged = ap (λ (m : Moment). record { program = run.program; moment = m }) stays;
  took = refused.took;
  part = refused.part;
}
step_refused Memory run now left taken left_now taken_now runs refused stays = record {
  stands = λ tree s stands. record { points = stands.points; program = stands.program; moment = same_moment tree stands.points run.moment now s stays stands.moment };
  same_left = refused.same_left;
  same_taken = refused.same_taken;
}

-- what is answered to it
pub refused : (fault : Refusal) (answer : CStepped) (before now : WithConsole CRun) → answer ≡ fault_answer_of fault →
    StepsTo texts (outcome_of (fault_answer_of fault)) before now → StepsTo texts (outcome_of answer) before now
refused fault answer before now is was_refused =
    subst (λ a. StepsTo texts (outcome_of a) before now) (sym is) was_refused

refused_end : (fault : Refusal) → end_told (fault_answer_of fault) ≡ running
refused_end Input = refl
refused_end Output = refl
refused_end Memory = refl

same_end : (fault : Refusal) (before now : Moment) → StaysAt fault before now → now.end ≡ before.end
same_end Input before now stays = ap (λ (m : Moment). m.end) stays
same_end Output before now stays = ap (λ (m : Moment). m.end) stays
same_end Memory before now stays = stays.end

-- the end of a run after a fault
pub refused_ends : (fault : Refusal) (answer : CStepped) (run now : CRun) → answer ≡ fault_answer_of fault → StaysAt fault run.moment now.moment →
    end_of run.moment.end ≡ running → HasEnded texts now (end_told answer)
refused_ends fault answer run now is stays runs tree s stands =
    sym stands.moment.end ∙ ap end_of (same_end fault run.moment now.moment stays) ∙ runs ∙ sym (ap end_told is ∙ refused_end fault)
