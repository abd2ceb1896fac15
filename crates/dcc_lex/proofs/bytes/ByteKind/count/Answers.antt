use Rattle.std.proofs.Common.{◌≡◌, false, get_or, arith}
use Rattle.dcc_lex.specs.ByteViews.{has_kind}
use Rattle.dcc_lex.proofs.Runs.{run_stops, run_whole}
use Rattle.dcc_lex.proofs.bytes.ByteKind.count.Goals as goal

pub returns-then-not-has : goal.returns-then-not-has
returns-then-not-has c =
    let stops : has_kind c.args.self (get_or c.args.bytes.now c.loop-at.at 0) ≡ false = cc in
    run_stops (has_kind c.args.self) c.args.bytes.now c.loop-at.at c.loop-at.invariant (omega arith) stops

pub returns : goal.returns
returns c = run_whole (has_kind c.args.self) c.args.bytes.now c.loop-at.at c.loop-at.invariant (omega arith)
