use Rattle.dcc_watch.proofs.Beside.{near-four}
use Rattle.dcc_watch.proofs.accesses.Accesses.add_exchange.Goals as goal

pub returns : goal.returns
returns c =
    near-four c.args.layout.now _ _ _ _ c.args.self.now c.add_operand.new.self c.add_operand-2.new.self c.add_operand-3.new.self c.add_exchanged.new.self
    c.requires.empty c.add_operand.ensures.items c.add_operand-2.ensures.items c.add_operand-3.ensures.items c.add_exchanged.ensures
