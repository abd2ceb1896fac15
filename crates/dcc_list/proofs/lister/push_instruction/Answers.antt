use Rattle.dcc_list.specs.Text.{operation_line, odd_line}
use Rattle.dcc_list.specs.Listed.{standard, odd}
use Rattle.dcc_list.proofs.lister.push_instruction.Goals as goal

pub returns-in_ok-push_operation : goal.returns-in_ok-push_operation
returns-in_ok-push_operation c = record {
  line = operation_line c.args.op;
  is = standard (c.in_ok-known.ensures.0 c.if-known.true);
  appended = c.in_ok-push_operation.ensures;
}

pub returns-in_ok-push_odd : goal.returns-in_ok-push_odd
returns-in_ok-push_odd c = record {
  line = odd_line c.args.bytes.now c.args.op;
  is = odd (λ is. let no_test = c.if-known.false in let test = c.in_ok-known.ensures.1 is in cc);
  appended = c.in_ok-push_odd.ensures;
}
