-- A run of a text is stuck only where `start` returns or ends, or where a function with a result ends.
use Rattle.std.proofs.Common.{◌≡◌, ℕ, zero, suc, ◌<◌, true, List, [], None, refl, sym, ap, ◌∙◌, subst, arith}
use Rattle.std.specs.Prelude.{codes, is_some, if◌then◌else◌, ◌||◌}
use Rattle.std.proofs.lemmas.Bool.{or_left, or_right}
use Rattle.dcc_run.specs.End.{End, Running, Exit, Divide, Outside, Stuck, is_over}
use Rattle.dcc_run.specs.System.{after}
use Rattle.dcc_c.specs.Tree.{no_lines, line, Function, Tree}
use Rattle.dcc_c.specs.Token.{same_bytes}
use Rattle.dcc_c.specs.Placement.{first_base}
use Rattle.dcc_c.specs.Value.{Value, value_of}
use Rattle.dcc_c.specs.Text.{StandsFor}
use Rattle.dcc_c.specs.Run.{Continuation, ends_function, runs, tests, turns, ends_switch, State, with_end, goes_on, back_step, is_start, scope_of, test_step, step_at, step, first_state}
use Rattle.dcc_progress.specs.Stuck.{StandsIn, here, IsOneOf, is_first, IsStuckAt, start_returns, start_ends}
use Rattle.dcc_progress.specs.Stuck.{function_ends, ComesToReturn, return_next, after_block, after_switch, ComesToBrace}
use Rattle.dcc_progress.specs.Stuck.{brace_next, past_block, past_switch, IsStuckOnlyAtEnds}
use Rattle.dcc_c.proofs.NameLaws.{same_bytes-refl}
use Rattle.dcc_progress.proofs.Known.{IsKnown, all-known}
use Rattle.dcc_progress.proofs.Rests.{IsRest, following-rest}
use Rattle.dcc_progress.proofs.Frames.{SameLength, IsFrame, frame-begins}
use Rattle.dcc_progress.proofs.Values.{Any, number-gives}
use Rattle.dcc_progress.proofs.Sound.{AreCalls, IsSound, IsStep, still, exits, divides, stuck, on-step, goes-step}
use Rattle.dcc_progress.proofs.Sound.{close-step}
use Rattle.dcc_progress.proofs.Steps.{tested-step, made-step}

-- the end of a block is no step of its own
past-lines : (f : Function) (rest : Continuation) (at : ℕ) → IsStuckAt f rest at → IsStuckAt f (runs no_lines rest) at
past-lines f rest at (start_returns start comes stands) = start_returns start (after_block comes) stands
past-lines f rest at (start_ends start comes is) = start_ends start (past_block comes) is
past-lines f rest at (function_ends result comes is) = function_ends result (past_block comes) is

past-arms : (f : Function) (rest : Continuation) (at : ℕ) → IsStuckAt f rest at → IsStuckAt f (ends_switch rest) at
past-arms f rest at (start_returns start comes stands) = start_returns start (after_switch comes) stands
past-arms f rest at (start_ends start comes is) = start_ends start (past_switch comes) is
past-arms f rest at (function_ends result comes is) = function_ends result (past_switch comes) is

module _ (tree : Tree) (known : (g : Function) → IsOneOf g tree.functions → IsKnown tree g) where
  at-step : (rest : Continuation) (ways : ℕ → Type 0) (s : State) → s.end ≡ Running → IsFrame tree s.frame → AreCalls tree s.frame.function s.waiting → IsRest tree s.frame.function rest →
      ((at : ℕ) → IsStuckAt s.frame.function rest at → ways at) → IsStep tree ways (step_at tree rest s)
  at-step (ends_function at) ways s runs_on frame calls is way =
      close-step tree ways at s runs_on calls (λ start. way at (start_ends start brace_next is)) (λ result. way at (function_ends result brace_next is))
  at-step (runs no_lines rest) ways s runs_on frame calls is way =
      at-step rest ways s runs_on frame calls is.2 (λ at stuck_there. way at (past-lines s.frame.function rest at stuck_there))
  at-step (runs (line stmt at lines) rest) ways s runs_on frame calls is way =
      let now : IsSound tree (goes_on (runs lines rest) s) =
      record { frame = frame; rest = following-rest tree s.frame.function stmt at lines rest is; calls = calls }
      in
      made-step tree known ways at lines (goes_on (runs lines rest) s) runs_on now stmt (is.0, is.1.0)
      (λ start same. way at (start_returns start (subst (λ t. ComesToReturn (runs (line t at lines) rest) at) (sym same) return_next) (subst (λ t. StandsIn s.frame.function.body t at) same (is.0 stmt at here))))
  at-step (tests e body at rest) ways s runs_on frame calls is way =
      on-step tree ways Any (value_of (scope_of tree s) e) at s (λ v. test_step v e body at rest s) (number-gives tree s.frame frame s.memory e is.0.takes is.0.number)
      (λ v given. tested-step tree ways v e body at rest s runs_on frame calls is)
  at-step (turns body rest) ways s runs_on frame calls is way =
      goes-step tree ways (runs body (turns body rest)) s runs_on frame calls (is.0, is.1, is)
  at-step (ends_switch rest) ways s runs_on frame calls is way =
      at-step rest ways s runs_on frame calls is (λ at stuck_there. way at (past-arms s.frame.function rest at stuck_there))

  -- a step of a run that goes on
  pub sound-step : (s : State) → s.end ≡ Running → IsSound tree s → IsStep tree (IsStuckAt s.frame.function s.rest) (step tree s)
  sound-step s runs_on is =
      subst (λ e. IsStep tree (IsStuckAt s.frame.function s.rest) (if is_over e then s else step_at tree s.rest s)) (sym runs_on) (at-step s.rest (IsStuckAt s.frame.function s.rest) s runs_on is.frame is.calls is.rest (λ at there. there))

  -- Runs.

  -- a state that has ended stays
  over-stays : (n : ℕ) (s : State) (e : End) → s.end ≡ e → is_over e ≡ true → (after (step tree) n s).end ≡ e
  over-stays zero s e is over = is
  over-stays (suc n) s e is over =
      let same : step tree s ≡ s = ap (λ b. if b then s else step_at tree s.rest s) (ap is_over is ∙ over) in
      ap (λ t. (after (step tree) n t).end) same ∙ over-stays n s e is over

  -- where a run from the state got stuck
  record GotStuckFrom (s : State) (n at : ℕ) : Type 0 where
    before : ℕ
    earlier : before < n
    running : (after (step tree) before s).end ≡ Running
    function : IsOneOf (after (step tree) before s).frame.function tree.functions
    way : IsStuckAt (after (step tree) before s).frame.function (after (step tree) before s).rest at

  same-line : (a b : ℕ) → Stuck a ≡ Stuck b → a ≡ b
  same-line a b is = cc

  -- what the first of some steps says of where the run got stuck
  stuck-following : (n at : ℕ) (s : State) → s.end ≡ Running → IsSound tree s → (after (step tree) n (step tree s)).end ≡ Stuck at →
      ((step tree s).end ≡ Running → IsSound tree (step tree s) → GotStuckFrom (step tree s) n at) → IsStep tree (IsStuckAt s.frame.function s.rest) (step tree s) → GotStuckFrom s (suc n) at
  stuck-following n at s runs_on is ends further (still more sound) =
      let later = further more sound in
      record {
        before = suc later.before;
        earlier = let lt = later.earlier in omega arith;
        running = later.running;
        function = later.function;
        way = later.way;
      }
  stuck-following n at s runs_on is ends further (exits code is_exit) =
      let no : Exit code ≡ Stuck at = sym (over-stays n (step tree s) (Exit code) is_exit refl) ∙ ends in absurd cc
  stuck-following n at s runs_on is ends further (divides is_fault) =
      let no : Divide ≡ Stuck at = sym (over-stays n (step tree s) Divide is_fault refl) ∙ ends in absurd cc
  stuck-following n at s runs_on is ends further (stuck there is_stuck way) =
      let same : there ≡ at = same-line there at (sym (over-stays n (step tree s) (Stuck there) is_stuck refl) ∙ ends) in
      record {
        before = zero;
        earlier = omega arith;
        running = runs_on;
        function = is.frame.known.one;
        way = subst (IsStuckAt s.frame.function s.rest) same way;
      }

  got-stuck : (n at : ℕ) (s : State) → s.end ≡ Running → IsSound tree s → (after (step tree) n s).end ≡ Stuck at → GotStuckFrom s n at
  got-stuck zero at s runs_on is ends = let no : Running ≡ Stuck at = sym runs_on ∙ ends in absurd cc
  got-stuck (suc n) at s runs_on is ends =
      stuck-following n at s runs_on is ends (λ more sound. got-stuck n at (step tree s) more sound ends) (sound-step s runs_on is)

  inside-following : (n at : ℕ) (s : State) → (after (step tree) n (step tree s)).end ≡ Outside at → ((step tree s).end ≡ Running → IsSound tree (step tree s) → ⊥) → IsStep tree (IsStuckAt s.frame.function s.rest) (step tree s) → ⊥
  inside-following n at s ends further (still more sound) = further more sound
  inside-following n at s ends further (exits code is_exit) =
      let no : Exit code ≡ Outside at = sym (over-stays n (step tree s) (Exit code) is_exit refl) ∙ ends in absurd cc
  inside-following n at s ends further (divides is_fault) =
      let no : Divide ≡ Outside at = sym (over-stays n (step tree s) Divide is_fault refl) ∙ ends in absurd cc
  inside-following n at s ends further (stuck there is_stuck way) =
      let no : Stuck there ≡ Outside at = sym (over-stays n (step tree s) (Stuck there) is_stuck refl) ∙ ends in absurd cc

  stays-inside : (n at : ℕ) (s : State) → s.end ≡ Running → IsSound tree s → (after (step tree) n s).end ≡ Outside at → ⊥
  stays-inside zero at s runs_on is ends = let no : Running ≡ Outside at = sym runs_on ∙ ends in absurd cc
  stays-inside (suc n) at s runs_on is ends =
      inside-following n at s ends (λ more sound. stays-inside n at (step tree s) more sound ends) (sound-step s runs_on is)

-- A run at one of the places is stuck.

module _ (tree : Tree) where
  return-stuck : {rest : Continuation} {at : ℕ} → ComesToReturn rest at → (s : State) → is_start s.frame.function ≡ true → (step_at tree rest s).end ≡ Stuck at
  return-stuck (return_next {at} {lines} {rest}) s start = ap (λ b. (if b then with_end (Stuck at) (goes_on (runs lines rest) s) else back_step s.waiting None at (goes_on (runs lines rest) s)).end) start
  return-stuck (after_block comes) s start = return-stuck comes s start
  return-stuck (after_switch comes) s start = return-stuck comes s start

  brace-stuck : {rest : Continuation} {at : ℕ} → ComesToBrace rest at → (s : State) → (is_start s.frame.function || is_some s.frame.function.result) ≡ true → (step_at tree rest s).end ≡ Stuck at
  brace-stuck (brace_next {at}) s ends = ap (λ b. (if b then with_end (Stuck at) s else back_step s.waiting None at s).end) ends
  brace-stuck (past_block comes) s ends = brace-stuck comes s ends
  brace-stuck (past_switch comes) s ends = brace-stuck comes s ends

  place-stuck : (s : State) (at : ℕ) → IsStuckAt s.frame.function s.rest at → (step_at tree s.rest s).end ≡ Stuck at
  place-stuck s at (start_returns start comes stands) = return-stuck comes s start
  place-stuck s at (start_ends start comes is) = brace-stuck comes s (or_left (is_start s.frame.function) (is_some s.frame.function.result) start)
  place-stuck s at (function_ends result comes is) = brace-stuck comes s (or_right (is_start s.frame.function) (is_some s.frame.function.result) result)

  always-stuck : (s : State) (at : ℕ) → s.end ≡ Running → IsStuckAt s.frame.function s.rest at → (step tree s).end ≡ Stuck at
  always-stuck s at runs_on there =
      ap (λ e. (if is_over e then s else step_at tree s.rest s).end) runs_on ∙ place-stuck s at there

-- The first state is sound.
pub first-sound : (tree : Tree) (start : Function) (fill : ℕ) (input : List ℕ) → IsKnown tree start → start.params ≡ [] → is_start start ≡ true → IsSound tree (first_state tree start fill input)
first-sound tree start fill input known none named = record {
  frame = frame-begins tree start (first_base tree.hi) fill [] known (subst (λ params. SameLength {B = Value} params []) (sym none) tt);
  rest = (λ stmt at stands. stands, known.formed.jumps, refl);
  calls = named;
}

pub stuck-only_at_ends : (text : List ℕ) (tree : Tree) → StandsFor text tree → IsStuckOnlyAtEnds tree
stuck-only_at_ends text tree is =
    let rules = is.allowed in
    let known : (g : Function) → IsOneOf g tree.functions → IsKnown tree g = λ g one. all-known is.formed rules one in
    let own : IsOneOf rules.start tree.functions = subst (IsOneOf rules.start) (sym rules.first) is_first in
    let named : is_start rules.start ≡ true = ap (λ n. same_bytes n (codes "start")) rules.name ∙ same_bytes-refl (codes "start") in
    record {
      start = rules.start;
      others = rules.others;
      first = rules.first;
      only_there = λ fill input n at ends.
          let begin = first_state tree rules.start fill input in
          let found = got-stuck tree known n at begin refl (first-sound tree rules.start fill input (known rules.start own) rules.no_params named) ends in
          record {
            before = found.before;
            earlier = found.earlier;
            state = after (step tree) found.before begin;
            was = refl;
            running = found.running;
            function = found.function;
            stuck = found.way;
          };
      always_there = always-stuck tree;
      never_outside = λ fill input n at ends.
          stays-inside tree known n at (first_state tree rules.start fill input) refl (first-sound tree rules.start fill input (known rules.start own) rules.no_params named) ends;
    }
