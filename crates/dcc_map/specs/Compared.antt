-- The comparison of an executable's run with a text's.
use Rattle.std.specs.Prelude.{ℕ, Option, Some, None, List}
use Rattle.std.specs.Option.{unwrap_or}
use Rattle.dcc_run.specs.System.{end_after}
use Rattle.dcc_machine.specs.declared.cpu.Cpu.{Cpu}
use Rattle.dcc_machine.specs.declared.image.Image.{Image}
use Rattle.dcc_machine.specs.Machine.{State as MachineState, start_state}
use Rattle.dcc_machine.specs.Step.{machine_system}
use Rattle.dcc_c.specs.Tree.{Tree, Function}
use Rattle.dcc_c.specs.Run.{State as TextState, text_system, first_state}
use Rattle.dcc_prepare.specs.Lines.{next_line}
use Rattle.dcc_map.specs.declared.report.Report.{Report}
use Rattle.dcc_map.specs.declared.report.Settings.{Settings}
use Rattle.dcc_map.specs.Placed.{Placed, placed_events}
use Rattle.dcc_map.specs.Comparison.{IsReport}

-- the offset of the instruction that the machine executes next
abbrev pub address_of : MachineState → ℕ
address_of s = s.ip

-- The line of the statement that the text executes next, or of the closing brace. Where it has none, in a further
-- turn of a `for`, nothing happens at the console.
abbrev pub line_of : TextState → ℕ
line_of s = unwrap_or (next_line s.rest) 0

-- the events of the machine's first steps, each with its address
abbrev pub machine_events : Settings → Image → List ℕ → List Placed
machine_events settings image input =
    placed_events (machine_system settings.cpu) address_of settings.most (start_state image input)

-- the events of the text's first steps, each with its line
abbrev pub text_events : Settings → Tree → Function → List ℕ → List Placed
text_events settings tree start input =
    placed_events (text_system tree) line_of settings.most (first_state tree start settings.fill input)

-- the report of both runs on the input, of at most the set number of steps each
abbrev pub Compares : Settings → Image → Tree → Function → List ℕ → Report → Type 0
Compares settings image tree start input report =
    IsReport (machine_events settings image input) (text_events settings tree start input)
    (end_after (machine_system settings.cpu) settings.most (start_state image input))
    (end_after (text_system tree) settings.most (first_state tree start settings.fill input)) report
