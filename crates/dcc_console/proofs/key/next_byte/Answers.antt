use Rattle.std.proofs.Common.{◌∙◌, ap, Ok, arith}
use Rattle.dcc_console.proofs.KeyLaws.{end_told}
use Rattle.dcc_console.proofs.key.next_byte.Goals as goal

pub returns-then-count-eq0-clause-end : goal.returns-then-count-eq0-clause-end
returns-then-count-eq0-clause-end g c =
    λ _.
    end_told (g.I.Source.left c.args.input.now) (g.I.Source.left c.read.new.self) c.read.new.buf c.in_ok-count.count c.if-count-eq0.true c.in_ok-count.ensures.taken
    (c.read.ensures.end (c.in_ok-count.was ∙ ap Ok c.if-count-eq0.true) (omega arith))
