-- SP and BP move, and whole steps.
use Rattle.std.specs.List.{range_with_len}
use Rattle.std.proofs.Common.{◌≡◌, ◌≤◌, ◌<◌, ℕ, ◌+◌, ◌-◌, Bool, true, false, List, [], ◌∷◌, Some, refl, sym, ap, ◌∙◌, subst, arith}
use Rattle.dcc_num.specs.declared.Reg.{Reg}
use Rattle.dcc_num.specs.declared.Reg.TheVariants.{Sp, Bp}
use Rattle.dcc_machine.specs.declared.instr.Op.{Op}
use Rattle.dcc_machine.specs.declared.instr.Op.TheVariants.{Call, Ret}
use Rattle.dcc_machine.specs.Machine.{State as Machine, word_in, with_word_in, is_general}
use Rattle.dcc_machine.specs.Step.{step}
use Rattle.dcc_machine.specs.StateForm.{IsState}
use Rattle.dcc_prog.specs.Clean.{top_in, with_marks, stack_after}
use Rattle.dcc_prog.specs.CleanLaws.{moves_frames}
use Rattle.dcc_machine.proofs.LocationKept.{word-taken, word-other}
use Rattle.dcc_machine.proofs.StateKept.{word-state}
use Rattle.dcc_stack.specs.Standing.{Activation, StackStands}
use Rattle.dcc_stack.specs.SlotLaws.{AreCarried}
use Rattle.dcc_stack.specs.Laws.{at_next, activations_after}
use Rattle.dcc_ir.specs.Run.{State, Waiting}
use Rattle.dcc_simulation.specs.Coupled.{Setting, typed_by, typed_waiting, AreWaiting, Coupled}
use Rattle.dcc_simulation.specs.Laws.{PointersMove, StepsAgree}
use Rattle.dcc_simulation.proofs.Next.{AgreeOn, next-stands}
use Rattle.dcc_simulation.proofs.Coupling.{segments_kept, carried_laws, alike-all, registers-apart}

-- Pointers.

module _ (e : Setting) (a : Activation) (callers : List Activation) (written marks : List Bool) (s : Machine)
    (t : State) (c : Coupled e a callers written s t) (r : Reg) (pointer : is_general r ≡ false) (v : ℕ)
    (small : v < 65536) where
  -- a register that isn't general takes a word, where the frames are carried as SP stands then
  moved :
      AreCarried e.cpu e.image e.program s.memory t.memory marks (top_in e.program.layout (with_word_in s r v))
      (typed_by e a t.running ∷ typed_waiting e callers t.waiting)
      → Coupled e a callers marks (with_word_in s r v) t
  moved carried = record {
    goes = c.goes;
    running = c.running;
    newest = c.newest;
    waiting = c.waiting;
    words = λ q g. word-other s r q v (registers-apart q r true g pointer) ∙ c.words q g;
    flags = c.flags;
    input = c.input;
    events = c.events;
    segments =
        segments_kept e.image e.program.layout s (with_word_in s r v) refl refl (word-state s r v small c.segments.state)
        c.segments;
    carried = carried;
  }

-- SP's offset after that
top-is : (e : Setting) (s : Machine) (v : ℕ) → IsState s
    → v + e.program.layout.delta ≡ top_in e.program.layout (with_word_in s Sp v)
top-is e s v form =
    ap (λ n. n + e.program.layout.delta) (sym (word-taken s Sp Sp v form.registers.count refl))

pub pointers-move : PointersMove
pointers-move = record {
  falls = λ e a callers written s t sp c small low below above.
      moved e a callers written written s t c Sp refl sp small
      (subst (λ n. AreCarried e.cpu e.image e.program s.memory t.memory written n
      (typed_by e a t.running ∷ typed_waiting e callers t.waiting)) (top-is e s sp c.segments.state)
      (carried_laws.lowers (sp + e.program.layout.delta) c.carried low (omega (arith, below)) above));
  rises = λ e a callers written s t sp offsets c small above.
      moved e a callers written (with_marks false offsets written) s t c Sp refl sp small
      (subst (λ n. AreCarried e.cpu e.image e.program s.memory t.memory (with_marks false offsets written) n
      (typed_by e a t.running ∷ typed_waiting e callers t.waiting)) (top-is e s sp c.segments.state)
      (carried_laws.raises (sp + e.program.layout.delta) offsets c.carried (omega (arith, above))));
  bp = λ e a callers written s t bp c small.
      moved e a callers written written s t c Bp refl bp small
      (subst (λ n. AreCarried e.cpu e.image e.program s.memory t.memory written (n + e.program.layout.delta)
      (typed_by e a t.running ∷ typed_waiting e callers t.waiting)) (sym (word-other s Bp Sp bp refl)) c.carried);
}

-- Steps.

-- where SP doesn't rise, all that is written stays so
pub none-rises : (from to : ℕ) (marks : List Bool) → to ≤ from
    → with_marks false (range_with_len from (to - from)) marks ≡ marks
none-rises from to marks le =
    let none : to - from ≡ 0 = omega (arith, le) in
    ap (λ n. with_marks false (range_with_len from n) marks) none

-- where a procedure stands doesn't matter within an instruction, for its callers
waiting-on : (e : Setting) (a : Activation) (place : ℕ) (callers : List Activation) (waiting : List Waiting)
    → AreWaiting e a callers waiting
    → AreWaiting e (at_next a place) callers waiting
waiting-on e a place [] [] are = tt
waiting-on e a place [] (w ∷ waiting) are = absurd are
waiting-on e a place (caller ∷ callers) [] are = absurd are
waiting-on e a place (caller ∷ callers) (w ∷ waiting) are = (
  are.0,
  record {
    block = are.1.block;
    at = are.1.at;
    before = are.1.before;
    arguments = are.1.arguments;
    depth = are.1.depth;
    stmts = are.1.stmts;
  },
  are.2,
)

-- where a procedure stands doesn't matter within an instruction, for itself
pub on-at : (e : Setting) (a : Activation) (callers : List Activation) (written : List Bool) (s : Machine) (t : State)
    (place : ℕ) → Coupled e a callers written s t
    → Coupled e (at_next a place) callers written s t
on-at e a callers written s t place c = record {
  goes = c.goes;
  running = c.running;
  newest = record {
    graph = c.newest.graph;
    bits = c.newest.bits;
    base = c.newest.base;
    values = c.newest.values;
  };
  waiting = waiting-on e a place callers t.waiting c.waiting;
  words = c.words;
  flags = c.flags;
  input = c.input;
  events = c.events;
  segments = c.segments;
  carried =
      carried_laws.alike c.carried
      (record { frame = refl; slots = λ k. refl }, alike-all (typed_waiting e callers t.waiting));
}

activations-go : (op : Op) (top bp next : ℕ) (a : Activation) (callers : List Activation) → moves_frames op ≡ false
    → activations_after op top bp next (a ∷ callers) ≡ at_next a next ∷ callers
activations-go (Call target) top bp next a callers apart = cc
activations-go (Ret count) top bp next a callers apart = cc
activations-go op top bp next a callers apart = refl

pub steps-agree : StepsAgree
steps-agree e s stack instr t u is apart before after = record { stands = both.0; coupled = agree }
  where
    both :
        (v : StackStands e.image e.program.layout (step e.program.layout.cpu s)
        (stack_after e.program.layout (Some instr) s (step e.program.layout.cpu s) stack))
        × (v.newest ∷ v.callers
        ≡ activations_after instr.op (top_in e.program.layout s) (word_in s Bp) (step e.program.layout.cpu s).ip
        (is.stands.newest ∷ is.stands.callers))
    both = next-stands e s stack instr is before.goes after.goes

    are : both.0.newest ∷ both.0.callers
        ≡ at_next is.stands.newest (step e.program.layout.cpu s).ip ∷ is.stands.callers
    are =
        both.1
        ∙ activations-go instr.op (top_in e.program.layout s) (word_in s Bp) (step e.program.layout.cpu s).ip
        is.stands.newest is.stands.callers apart

    agree : Coupled e both.0.newest both.0.callers
        (stack_after e.program.layout (Some instr) s (step e.program.layout.cpu s) stack).written
        (step e.program.layout.cpu s) u
    agree =
        subst (AgreeOn e (stack_after e.program.layout (Some instr) s (step e.program.layout.cpu s) stack).written
        (step e.program.layout.cpu s) u) (sym are)
        (on-at e is.stands.newest is.stands.callers _ (step e.program.layout.cpu s) u (step e.program.layout.cpu s).ip
        after)
