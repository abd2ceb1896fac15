-- The places of the events of a step.
use Rattle.std.proofs.Common.{◌≡◌, ℕ, true, false, List, [], ◌∷◌, ◌++◌, Option, Some, None, refl, sym, ap, ◌∙◌}
use Rattle.std.specs.Prelude.{if◌then◌else◌}
use Rattle.std.specs.Option.{unwrap_or}
use Rattle.std.proofs.lemmas.List.{append-nil, append_cancel_left}
use Rattle.dcc_run.specs.End.{Running as running, is_over}
use Rattle.dcc_run.specs.Event.{Event}
use Rattle.dcc_machine.specs.declared.cpu.Cpu.{Cpu}
use Rattle.dcc_machine.specs.Machine.{State as MachineState}
use Rattle.dcc_c.specs.Tree.{Tree, no_lines, line}
use Rattle.dcc_c.specs.Run.{Continuation, ends_function, runs, tests, turns, ends_switch, State, step_at, step}
use Rattle.dcc_prepare.specs.Lines.{next_line, IsLine}
use Rattle.dcc_step.specs.Core.{Core, core_of}
use Rattle.dcc_map.specs.Placed.{Placed, placed_at}
use Rattle.dcc_map.specs.Compared.{address_of, line_of}

-- what happens in the machine's step is at the offset that the code tells
pub machine_places : (cpu : Cpu) (core : Core) (s : MachineState) (at : ℕ) (happened : List Event) → core_of cpu s ≡ core → at ≡ core.ip
    → placed_at (address_of s) happened ≡ placed_at at happened
machine_places cpu core s at happened stands is =
    ap (λ n. placed_at n happened) (ap (λ (m : Core). m.ip) stands ∙ sym is)

-- a turn of a `for` does nothing at the console
turn_quiet : (tree : Tree) (rest : Continuation) (s : State) → next_line rest ≡ None → (step_at tree rest s).events ≡ s.events
turn_quiet tree (ends_function at) s none = cc
turn_quiet tree (runs no_lines rest) s none = turn_quiet tree rest s none
turn_quiet tree (runs (line stmt at lines) rest) s none = cc
turn_quiet tree (tests e body at rest) s none = cc
turn_quiet tree (turns body rest) s none = refl
turn_quiet tree (ends_switch rest) s none = turn_quiet tree rest s none

-- what happens in the text's step is in the line that the code tells
pub text_places : (tree : Tree) (s : State) (number : ℕ) (happened : List Event) → s.end ≡ running → IsLine (next_line s.rest) number
    → (step tree s).events ≡ s.events ++ happened → placed_at (line_of s) happened ≡ placed_at number happened
text_places tree s number happened going in_line events = by (next_line s.rest) refl in_line
  where
    none : next_line s.rest ≡ None → happened ≡ []
    none is =
        let moved : step tree s ≡ step_at tree s.rest s = ap (λ e. if is_over e then s else step_at tree s.rest s) going in
        append_cancel_left s.events happened []
        (sym events ∙ ap (λ (t : State). t.events) moved ∙ turn_quiet tree s.rest s is ∙ sym (append-nil s.events))

    by : (o : Option ℕ) → next_line s.rest ≡ o → IsLine o number → placed_at (line_of s) happened ≡ placed_at number happened
    by (Some at) is same = ap (λ o. placed_at (unwrap_or o 0) happened) is ∙ ap (λ n. placed_at n happened) (sym same)
    by None is same =
        ap (λ (l : List Event). placed_at (line_of s) l) (none is) ∙ ap (λ (l : List Event). placed_at number l) (sym (none is))
