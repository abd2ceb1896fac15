use Rattle.std.proofs.Common.{◌-◌, ◌<◌, length, map, ap, sym, ◌∙◌, arith}
use Rattle.std.proofs.lemmas.List.{length-map}
use Rattle.dcc_flow.specs.Access.{access_in}
use Rattle.dcc_flow.specs.Marks.{members}
use Rattle.dcc_live.specs.Needed.{before_one, before_all}
use Rattle.dcc_live.proofs.RowLaws.{drop_last, map_read}
use Rattle.dcc_live.proofs.needed.pass_all.Goals as goal

pub loop-at-preserved : goal.loop-at-preserved
loop-at-preserved c =
    let stmts = c.args.stmts.now in
    let at = c.loop-at.at in
    let a = access_in c.index-stmts-at.result in
    let some : 0 < at = omega arith in
    let inside : at - 1 < length stmts = omega (arith, some, c.loop-at.invariant.inside) in
    let read = map_read access_in stmts (at - 1) c.index-stmts-at.result inside c.index-stmts-at.is in
    let here = drop_last (map access_in stmts) at a some (omega (arith, c.loop-at.invariant.inside, length-map stmts access_in)) read in
    record {
      inside = omega (arith, c.loop-at.invariant.inside);
      marks = c.in_ok-pass.ensures.marks ∙ ap (before_one a) c.loop-at.invariant.marks ∙ sym (ap (λ l. before_all l (members c.args.marks.now)) here);
    }
