use Rattle.std.proofs.Common.{◌≡◌, ◌-◌, ◌<◌, suc, length, map, arith}
use Rattle.dcc_ir.specs.Views.{stmt_of}
use Rattle.dcc_flow.specs.Access.{access_in}
use Rattle.dcc_webs.specs.Names.{names_of}
use Rattle.dcc_webs.proofs.WalkLaws.{stmt_there, access_there, stmts_turn}
use Rattle.dcc_webs.proofs.splitting.rename_stmts.Goals as goal

pub rename_stmt-requires : goal.rename_stmt-requires
rename_stmt-requires c =
    let ys = map stmt_of c.args.stmts.now.items in
    let k = c.loop-at.at - 1 in
    let e : c.loop-at.at ≡ suc k = omega arith in
    let inside : k < length ys = omega (arith, e, c.loop-at.invariant.inside) in
    let there = stmt_there c.args.temps.now c.args.base (names_of c.args.names.now) ys c.loop-at.stmts.items (names_of c.loop-at.names) c.loop-at.at k c.index_mut.result.now e c.index_mut.ensures.value c.loop-at.invariant in
    access_there c.args.accesses.now ys c.index-accesses-at.result (stmt_of c.index_mut.result.now) k c.requires inside c.index-accesses-at.is there

pub loop-at-preserved : goal.loop-at-preserved
loop-at-preserved c =
    let ys = map stmt_of c.args.stmts.now.items in
    let k = c.loop-at.at - 1 in
    let e : c.loop-at.at ≡ suc k = omega arith in
    let inside : k < length ys = omega (arith, e, c.loop-at.invariant.inside) in
    let there = stmt_there c.args.temps.now c.args.base (names_of c.args.names.now) ys c.loop-at.stmts.items (names_of c.loop-at.names) c.loop-at.at k c.index_mut.result.now e c.index_mut.ensures.value c.loop-at.invariant in
    let told = access_there c.args.accesses.now ys c.index-accesses-at.result (stmt_of c.index_mut.result.now) k c.requires inside c.index-accesses-at.is there in
    stmts_turn c.args.temps.now c.args.base (names_of c.args.names.now) ys c.loop-at.stmts.items (names_of c.loop-at.names) (names_of c.rename_stmt.new.names) (access_in c.index-accesses-at.result) c.loop-at.at k
    c.index_mut.result.now c.rename_stmt.new.stmt e c.index_mut.ensures.value c.in_ok-rename_stmt.ensures.stmt told c.in_ok-rename_stmt.ensures.names c.loop-at.invariant
