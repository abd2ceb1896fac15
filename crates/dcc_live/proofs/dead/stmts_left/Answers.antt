use Rattle.std.proofs.Common.{◌≡◌, ◌+◌, ◌<◌, length, get_or, map, drop, ap, sym, ◌∙◌, arith}
use Rattle.std.proofs.lemmas.List.{length_push}
use Rattle.dcc_ir.specs.Views.{stmt_of}
use Rattle.dcc_flow.specs.Access.{access_in, access_of}
use Rattle.dcc_flow.specs.Marks.{members}
use Rattle.dcc_live.specs.Needed.{stays, before_one, before_all}
use Rattle.dcc_live.proofs.DeadLaws.{stmt_here, stmt_step, mapped_at}
use Rattle.dcc_live.proofs.dead.stmts_left.Goals as goal

pub loop-stmt-preserved : goal.loop-stmt-preserved
loop-stmt-preserved c =
    let all = map stmt_of c.args.stmts.items in
    let rest = c.loop-stmt.rest.items in
    let fewer = c.pop.new.self.items in
    let stmt = c.in-Some.stmt in
    let m0 = members c.args.marks.now in
    let m = members c.loop-stmt.marks in
    let inv = c.loop-stmt.invariant in
    let is = c.in-Some.ensures.items in
    let on = stmt_here all rest fewer stmt is inv.le inv.front in
    let more : length rest ≡ length fewer + 1 = ap length is ∙ length_push fewer stmt in
    let less : length fewer < length all = omega (arith, inv.le, more) in
    let place : c.len.result ≡ length fewer = omega (arith, c.len.ensures) in
    let access = c.index-accesses-len.result in
    let read = c.index-accesses-len.is ∙ ap (λ n. get_or c.args.accesses.now n access) place in
    let same = mapped_at access_in access_of c.args.accesses.now all (length fewer) access (stmt_of stmt) (drop (length rest) all) c.requires less read on.1 in
    let told = c.in_ok-staying.ensures.stays ∙ ap (λ a. stays a m) same in
    record {
      le = omega (arith, less);
      front = on.0;
      left = stmt_step all m0 m rest fewer stmt c.loop-stmt.left.items c.put.new.left.items c.in_ok-staying.staying is inv.le inv.front inv.left inv.marks told c.in_ok-put.ensures;
      marks = c.in_ok-staying.ensures.marks ∙ ap (λ a. before_one a m) same ∙ ap (before_one (access_of (stmt_of stmt))) inv.marks
          ∙ sym (ap (λ l. before_all (map access_of l) m0) on.1);
    }
