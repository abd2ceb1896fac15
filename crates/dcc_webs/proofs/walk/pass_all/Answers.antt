use Rattle.std.proofs.Common.{◌-◌, ◌<◌, length, map, ap, sym, ◌∙◌, arith}
use Rattle.std.proofs.lemmas.List.{length-map}
use Rattle.dcc_flow.specs.Access.{access_in}
use Rattle.dcc_live.proofs.RowLaws.{drop_last, map_read}
use Rattle.dcc_webs.specs.Names.{names_of, before_one, before_all}
use Rattle.dcc_webs.proofs.walk.pass_all.Goals as goal

pub loop-at-preserved : goal.loop-at-preserved
loop-at-preserved c =
    let accesses = c.args.accesses.now in
    let at = c.loop-at.at in
    let a = access_in c.index-accesses-at.result in
    let some : 0 < at = omega arith in
    let inside : at - 1 < length accesses = omega (arith, some, c.loop-at.invariant.inside) in
    let read = map_read access_in accesses (at - 1) c.index-accesses-at.result inside c.index-accesses-at.is in
    let here = drop_last (map access_in accesses) at a some (omega (arith, c.loop-at.invariant.inside, length-map accesses access_in)) read in
    record {
      inside = omega (arith, c.loop-at.invariant.inside);
      names = c.in_ok-pass.ensures ∙ ap (before_one a) c.loop-at.invariant.names ∙ sym (ap (λ l. before_all l (names_of c.args.names.now)) here);
    }
