use Rattle.std.proofs.Common.{arith}
use Rattle.dcc_console.proofs.StringLaws.{none_found, end_found, length-string-is}
use Rattle.dcc_console.proofs.string.string_length.Goals as goal

pub loop-k-init : goal.loop-k-init
loop-k-init c = record { within = omega arith; none = λ j lt. absurd (omega (arith, lt)) }

pub returns-in-Some-clause-value : goal.returns-in-Some-clause-value
returns-in-Some-clause-value c =
    end_found c.args.memory.now c.args.segment c.args.start c.loop-k.k c.in-Some.at c.stretch-piece.result.now
    (omega arith) c.stretch-piece.ensures.bytes c.in-Some.ensures c.loop-k.invariant.none

pub loop-k-preserved : goal.loop-k-preserved
loop-k-preserved c = record {
  within = omega arith;
  none =
      none_found c.args.memory.now c.args.segment c.args.start c.loop-k.k c.stretch-piece.result.now
      c.stretch-piece.ensures.bytes c.in-None.ensures c.loop-k.invariant.none;
}

pub returns-clause-value : goal.returns-clause-value
returns-clause-value c =
    length-string-is c.args.memory.now c.args.segment c.args.start 65536 (omega arith)
    (λ j lt. c.loop-k.invariant.none j (omega (arith, lt))) (λ lt. absurd (omega (arith, lt)))
