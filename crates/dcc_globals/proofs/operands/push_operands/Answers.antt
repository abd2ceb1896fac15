use Rattle.std.proofs.Common.{◌++◌, sym, ap, ◌∙◌, append_assoc}
use Rattle.std.proofs.lemmas.Map.Iter.{iter_end}
use Rattle.std.specs.Map.Iter.{deref_pair}
use Rattle.std.specs.Option.{option_to_list}
use Rattle.dcc_prog.specs.Frame.{memory_operand}
use Rattle.dcc_globals.specs.Pieces.{operands_in}
use Rattle.dcc_globals.proofs.ListLaws.{operands-pushed}
use Rattle.dcc_globals.proofs.operands.push_operands.Goals as goal

pub loop-at-preserved : goal.loop-at-preserved
loop-at-preserved c =
    c.in_ok-push_operand.ensures
    ∙ ap (λ l. l ++ option_to_list (memory_operand c.in-Some.node.now.instr.op)) c.loop-at.invariant
    ∙ append_assoc c.args.operands.now.items _ _
    ∙ ap (λ l. c.args.operands.now.items ++ l) (sym (operands-pushed deref_pair c.loop-at.yielded (c.in-Some._at, c.in-Some.node)))

pub returns : goal.returns
returns c =
    let entries = c.args.nodes.now.entries in
    let start = c.into_iter-at-iterator.ensures.into_iter_gives ∙ c.iter-at-items.ensures.rest in
    let e =
    iter_end deref_pair entries c.loop-at.yielded c.into_iter-at-iterator.result c.loop-at._at-iterator
    c.next.new.self c.next.result start
    c.loop-at.yielded_by c.in-None.is c.next.ensures.steps in
    c.loop-at.invariant ∙ ap (λ es. c.args.operands.now.items ++ operands_in es) e.0
