-- A text runs as the one does of which it is another spelling.
use Rattle.std.proofs.Common.{◌≡◌, ◌≢◌, ℕ, zero, suc, true, List, [], ◌∷◌, map, refl, sym, ap, ◌∙◌, subst}
use Rattle.std.specs.Prelude.{codes, if◌then◌else◌}
use Rattle.std.specs.List.{AllZip}
use Rattle.dcc_run.specs.End.{Running, Exit, Divide, Stuck, is_over}
use Rattle.dcc_run.specs.System.{after as after_steps}
use Rattle.dcc_c.specs.Token.{same_bytes}
use Rattle.dcc_c.specs.Tree.{Variable, Function, Tree}
use Rattle.dcc_c.specs.Placement.{first_base}
use Rattle.dcc_c.specs.Run.{State, is_start, step_at, step, first_state, frame_of}
use Rattle.dcc_c.proofs.NameLaws.{same_bytes-refl}
use Rattle.dcc_progress.specs.Stuck.{IsOneOf, is_first}
use Rattle.dcc_progress.proofs.Known.{IsKnown, all-known}
use Rattle.dcc_progress.proofs.Sound.{IsSound, IsStep, still, exits, divides, stuck as gets_stuck}
use Rattle.dcc_progress.proofs.StuckLaws.{sound-step, first-sound}
use Rattle.dcc_respell.specs.Respelled.{FunctionAlike, IsRespelled, BindingAlike}
use Rattle.dcc_respell.specs.Laws.{RespelledTextsRunAlike}
use Rattle.dcc_respell.proofs.Rests.{goes, ends}
use Rattle.dcc_respell.proofs.Kept.{IsWithin, frame-kept}
use Rattle.dcc_respell.proofs.Calls.{StateAlike, AfterAlike, alike, over, stuck, frames-begin}
use Rattle.dcc_respell.proofs.Steps.{step-alike}

-- a state that has ended stays
over-stays : (tree : Tree) (n : ℕ) (s : State) → is_over s.end ≡ true → after_steps (step tree) n s ≡ s
over-stays tree zero s is = refl
over-stays tree (suc n) s is =
    ap (after_steps (step tree) n) (ap (λ b. if b then s else step_at tree s.rest s) is) ∙ over-stays tree n s is

-- a step after which the run goes on leaves a sound state
sound-after : (tree : Tree) (ways : ℕ → Type 0) (t : State) → t.end ≡ Running → IsStep tree ways t → IsSound tree t
sound-after tree ways t runs_on (still more sound) = sound
sound-after tree ways t runs_on (exits code is) = let no : Running ≡ Exit code = sym runs_on ∙ is in absurd cc
sound-after tree ways t runs_on (divides is) = let no : Running ≡ Divide = sym runs_on ∙ is in absurd cc
sound-after tree ways t runs_on (gets_stuck at is way) = let no : Running ≡ Stuck at = sym runs_on ∙ is in absurd cc

module _ (tree after : Tree) (known : (g : Function) → IsOneOf g tree.functions → IsKnown tree g) (also_known : (g : Function) → IsOneOf g after.functions → IsKnown after g)
    (functions : AllZip (FunctionAlike tree after) tree.functions after.functions) where
  -- the same events, and ended alike
  abbrev Alike : State → State → Type 0
  Alike s t = (t.events ≡ s.events) × (t.end ≡ s.end)

  runs-further : (n : ℕ) (s t : State) → AfterAlike tree after s t → ((m line : ℕ) → (after_steps (step tree) m s).end ≢ Stuck line) →
      (StateAlike tree after s t → Alike (after_steps (step tree) n s) (after_steps (step after) n t)) → Alike (after_steps (step tree) n s) (after_steps (step after) n t)
  runs-further n s t (alike is) unstuck more = more is
  runs-further n s t (over is end events) unstuck more =
      let one = over-stays tree n s is in
      let two = over-stays after n t (ap is_over end ∙ is) in
      subst (λ a. Alike a (after_steps (step after) n t)) (sym one) (subst (Alike s) (sym two) (events, end))
  runs-further n s t (stuck at is) unstuck more = absurd (unstuck zero at is)

  runs-alike : (n : ℕ) (s t : State) → StateAlike tree after s t → IsSound tree s → IsSound after t →
      ((m line : ℕ) → (after_steps (step tree) m s).end ≢ Stuck line) → Alike (after_steps (step tree) n s) (after_steps (step after) n t)
  runs-alike zero s t is sound also unstuck = (is.events, is.other_running ∙ sym is.running)
  runs-alike (suc n) s t is sound also unstuck =
      let further : (m line : ℕ) → (after_steps (step tree) m (step tree s)).end ≢ Stuck line = λ m line. unstuck (suc m) line in
      runs-further n (step tree s) (step after t) (step-alike tree after functions s t is sound.frame also.frame) further
      (λ more. runs-alike n (step tree s) (step after t) more
      (sound-after tree _ (step tree s) more.running (sound-step tree known s is.running sound))
      (sound-after after _ (step after t) more.other_running (sound-step after also_known t is.other_running also)) further)

-- the first functions are alike
first-alike : (tree after : Tree) (start first : Function) (fs gs : List Function) → AllZip (FunctionAlike tree after) tree.functions after.functions → tree.functions ≡ start ∷ fs → after.functions ≡ first ∷ gs → FunctionAlike tree after start first
first-alike tree after start first fs gs are one two =
    let both : AllZip (FunctionAlike tree after) (start ∷ fs) (first ∷ gs) = subst (λ xs. AllZip (FunctionAlike tree after) xs (first ∷ gs)) one (subst (AllZip (FunctionAlike tree after) tree.functions) two are) in
    both.0

first-states : (tree after : Tree) (start first : Function) (fill : ℕ) (input : List ℕ) → IsRespelled tree after → FunctionAlike tree after start first → start.params ≡ [] →
    StateAlike tree after (first_state tree start fill input) (first_state after first fill input)
first-states tree after start first fill input is function none = record {
  frame = record {
    function = function;
    base = ap first_base is.hi;
    kept = frame-kept start (first_base tree.hi) fill [] (subst (λ (vs : List Variable). AllZip IsWithin (map (λ v. v.type) vs) []) (sym none) tt);
    variables = subst (λ b. AllZip BindingAlike (frame_of start (first_base tree.hi) fill []).variables (frame_of first b fill []).variables) (sym (ap first_base is.hi)) (frames-begin tree after start first (first_base tree.hi) fill [] [] function tt);
  };
  rest = goes function.body ends;
  waiting = tt;
  fill = refl;
  memory = is.memory fill;
  input = refl;
  events = refl;
  running = refl;
  other_running = refl;
}

pub respelled-alike : RespelledTextsRunAlike
respelled-alike text written tree after is also same fill input unstuck n =
    let rules = is.allowed in
    let other = also.allowed in
    let known : (g : Function) → IsOneOf g tree.functions → IsKnown tree g = λ g one. all-known is.formed rules one in
    let also_known : (g : Function) → IsOneOf g after.functions → IsKnown after g = λ g one. all-known also.formed other one in
    let own : IsOneOf rules.start tree.functions = subst (IsOneOf rules.start) (sym rules.first) is_first in
    let its : IsOneOf other.start after.functions = subst (IsOneOf other.start) (sym other.first) is_first in
    let named : is_start rules.start ≡ true = ap (λ n. same_bytes n (codes "start")) rules.name ∙ same_bytes-refl (codes "start") in
    let also_named : is_start other.start ≡ true = ap (λ n. same_bytes n (codes "start")) other.name ∙ same_bytes-refl (codes "start") in
    let function = first-alike tree after rules.start other.start rules.others other.others same.functions rules.first other.first in
    let both = runs-alike tree after known also_known same.functions n (first_state tree rules.start fill input) (first_state after other.start fill input)
    (first-states tree after rules.start other.start fill input same function rules.no_params)
    (first-sound tree rules.start fill input (known rules.start own) rules.no_params named)
    (first-sound after other.start fill input (also_known other.start its) other.no_params also_named)
    unstuck
    in
    record { events = both.0; end = both.1 }
