use Rattle.std.proofs.Common.{sym, arith, rules}
use Rattle.dcc_io.specs.Told.{AppendsProperPrefix}
use Rattle.dcc_io.proofs.ToldLemmas.{append_told-nil}
use Rattle.dcc_console.specs.Strings.{string_in}
use Rattle.dcc_console.proofs.StringLaws.{piece_is, piece_written, part_written}
use Rattle.dcc_console.proofs.string.put_string.Goals as goal

pub loop-written-init : goal.loop-written-init
loop-written-init g c = record {
  within = omega arith;
  wrote = sym (append_told-nil (g.O.Sink.taken c.args.out.now));
  faults = omega arith;
}

pub returns-in_err-put_all-clause-part : goal.returns-in_err-put_all-clause-part
returns-in_err-put_all-clause-part g c =
    let string = string_in c.args.memory.now c.args.segment c.args.start in
    let here = piece_is c.args.memory.now c.args.segment c.args.start c.loop-written.written c.stretch-piece.result.now (omega arith) c.stretch-piece.ensures.bytes in
    let part : AppendsProperPrefix (g.O.Sink.taken c.args.out.now) (g.O.Sink.taken c.put_all.new.sink) string =
    part_written _ _ _ string c.stretch-piece.result.now c.loop-written.written c.loop-written.invariant.wrote here c.in_err-put_all.ensures.part in
    search rules

pub loop-written-preserved : goal.loop-written-preserved
loop-written-preserved g c =
    let string = string_in c.args.memory.now c.args.segment c.args.start in
    let here = piece_is c.args.memory.now c.args.segment c.args.start c.loop-written.written c.stretch-piece.result.now (omega arith) c.stretch-piece.ensures.bytes in
    record {
      within = omega arith;
      wrote = piece_written _ _ _ string c.stretch-piece.result.now c.loop-written.written c.loop-written.invariant.wrote here c.in_ok-put_all.ensures.whole;
      faults = omega (arith, c.in_ok-put_all.ensures.faults);
    }
