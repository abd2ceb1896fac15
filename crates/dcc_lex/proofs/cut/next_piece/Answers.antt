use Rattle.std.proofs.Common.{◌≡◌, false, sym, ◌∙◌, arith}
use Rattle.std.specs.Prelude.{is_some}
use Rattle.dcc_lex.specs.CutViews.{spot_of, cut_of}
use Rattle.dcc_lex.proofs.Cuts.{continues_same}
use Rattle.dcc_lex.proofs.PieceLaws.{continues_on, continues_past}
use Rattle.dcc_lex.proofs.cut.next_piece.Goals as goal

pub loop-rest-init : goal.loop-rest-init
loop-rest-init c = (continues_same (spot_of c.args.spot) c.args.line c.args.bytes.now, omega arith, omega arith)

pub returns-then-is_some-clause-continues : goal.returns-then-is_some-clause-continues
returns-then-is_some-clause-continues c =
    continues_on (spot_of c.args.spot) (spot_of c.loop-rest.spot) c.args.line c.loop-rest.line c.args.bytes.now c.loop-rest.rest.now
    (cut_of c.next_cut-cut.result) c.loop-rest.invariant.0 c.next_cut-cut.ensures.continues

pub loop-rest-preserved : goal.loop-rest-preserved
loop-rest-preserved c =
    let cut = c.next_cut-cut.result in
    let none : is_some cut.piece ≡ false = sym c.is_some.ensures ∙ c.if-is_some.false in
    let shorter = c.next_cut-cut.ensures.shorter in
    let lines = c.next_cut-cut.ensures.line in
    let (goes, kept, few) = c.loop-rest.invariant in (
      continues_on (spot_of c.args.spot) (spot_of c.loop-rest.spot) c.args.line c.loop-rest.line c.args.bytes.now c.loop-rest.rest.now _ goes
          (continues_past (spot_of c.loop-rest.spot) c.loop-rest.line c.loop-rest.rest.now cut none c.next_cut-cut.ensures.continues),
      omega arith,
      omega arith,
    )
