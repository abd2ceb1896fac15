-- What each graph that is prepared has of the procedure for which it stands.
use Rattle.std.specs.Prelude.{◌≡◌, ◌<◌, ℕ, false, List, ◌++◌, All}
use Rattle.std.specs.List.{AllZip}
use Rattle.dcc_machine.specs.declared.image.Image.{Image}
use Rattle.dcc_prog.specs.declared.frame.Program.{Program as Analysed}
use Rattle.dcc_prog.specs.Frame.{argument_word}
use Rattle.dcc_stack.specs.Accepted.{IsProgramOfFile}
use Rattle.dcc_stack.specs.Slots.{exposes_of}
use Rattle.dcc_ir.specs.declared.syntax.Param.{Param}
use Rattle.dcc_ir.specs.Tree.{Graph, Program}
use Rattle.dcc_ir.specs.WellFormed.{is_memory}
use Rattle.dcc_simulation.specs.Nodes.{procedures_in}
use Rattle.dcc_simulation.specs.Passed.{argument_param, argument_params}
use Rattle.dcc_simulation.specs.Procedures.{Procedure, pushed_of}
use Rattle.dcc_lift.specs.Lifted.{IsLiftOf}
use Rattle.dcc_pipe.specs.Prepared.{IsPrepared}

-- a param that is no word on the stack, and in no memory
abbrev pub IsLocated : Param → Type 0
IsLocated param = (param.stack ≡ false) × (is_memory param.put ≡ false)

-- The graph takes the argument words of the frame, and then what stands in locations. An argument word is in memory
-- just where the frame exposes a byte of it. As many local bytes are in memory as the frame exposes.
pub record StandsForProcedure (p : Procedure) (graph : Graph) : Type 0 where
  pub entry : graph.entry ≡ p.proc.entry
  pub others : List Param
  pub params : graph.params ≡ argument_params p ++ others
  pub located : All IsLocated others
  pub memory : (number : ℕ) → number < p.frame.args
      → is_memory (argument_param p number).put ≡ exposes_of p.frame (argument_word number)
  pub local : graph.local ≡ p.frame.exposed.local
  pub pushed : graph.pushed ≡ pushed_of p

-- What is prepared of a lifted program has such a graph for each procedure that is found, in their order.
abbrev pub PreparedStands : Type 0
PreparedStands = (image : Image) (program : Analysed) (p q : Program)
    → IsProgramOfFile program.layout.cpu image program → IsLiftOf image program p → IsPrepared p q
    → AllZip StandsForProcedure (procedures_in program) q.graphs
