-- Where the entry procedure begins.
use Rattle.std.proofs.Common.{◌≡◌, List, [], ◌∷◌, sym, subst}
use Rattle.dcc_prog.specs.Clean.{top_in}
use Rattle.dcc_stack.specs.Standing.{Activation}
use Rattle.dcc_stack.specs.Slots.{AreNested}
use Rattle.dcc_ir.specs.Run.{Waiting}
use Rattle.dcc_simulation.specs.Coupled.{Setting, typed_by, typed_waiting, AreWaiting}
use Rattle.dcc_simulation.specs.Laws.{RunsBegin}
use Rattle.dcc_simulation.proofs.Coupling.{carried_laws}
use Rattle.dcc_simulation.proofs.OperandBytes.{waiting-frames}

none-wait : (e : Setting) (a : Activation) (callers : List Activation) (waiting : List Waiting) → callers ≡ []
    → waiting ≡ []
    → AreWaiting e a callers waiting
none-wait e a [] [] p q = tt
none-wait e a [] (w ∷ waiting) p q = cc
none-wait e a (caller ∷ callers) waiting p q = cc

pub runs-begin : RunsBegin
runs-begin e s stack t of_file stands goes running newest none alone words flags input events size bytes outside fresh =
    let waiting = none-wait e stands.newest stands.callers t.waiting none alone in
    let typed = typed_by e stands.newest t.running ∷ typed_waiting e stands.callers t.waiting in
    record {
      stands = stands;
      coupled = record {
        goes = goes;
        running = running;
        newest = newest;
        waiting = waiting;
        words = words;
        flags = flags;
        input = input;
        events = events;
        segments = stands.segments;
        carried = record {
          is_program = of_file;
          nested =
              subst (λ rest. AreNested e.program e.image (stands.newest ∷ rest))
              (sym (waiting-frames e stands.newest stands.callers t.waiting waiting))
              (carried_laws.nested of_file stands.stand stands.low);
          low = stands.low;
          size = stands.segments.state.memory_size;
          carries = carried_laws.begins (top_in e.program.layout s) typed size bytes outside fresh;
        };
      };
    }
