use Rattle.std.proofs.Common.{ℕ, map, rules, tests}
use Rattle.std.proofs.lemmas.Iterator.Consumers.{YieldsList-from_rest}
use Rattle.std.proofs.lemmas.Iterator.Search.{any_from_yields_List}
use Rattle.dcc_prog.specs.declared.procedure.Node.{Node}
use Rattle.dcc_prog.specs.Frame.{memory_operand}
use Rattle.dcc_stack.specs.Slots.{direct_bytes, overlaps}
use Rattle.dcc_lift.specs.KnownProcedures.{span_of_bytes}
use Rattle.dcc_lift.proofs.ListTests.{any_value}
use Rattle.dcc_lift.proofs.procedure.is_accessed.Goals as goal

pub returns-then-frame : goal.returns-then-frame
returns-then-frame c =
    let test = λ (node : Node). overlaps (span_of_bytes c.args.bytes) (direct_bytes (memory_operand node.instr.op)) in
    any_value test c.args.proc.now.nodes.entries
    (any_from_yields_List test _ _ c.any.result c.any.ensures.ran
    (YieldsList-from_rest (map (λ (found : ℕ × Node). found.1) c.args.proc.now.nodes.entries) c.values.ensures.rest)
    (λ x b q k. search (rules, tests))) c.if-frame.true
