use Rattle.std.proofs.Common.{◌≡◌, ◌+◌, ◌<◌, true, if◌then◌else◌, [], ◌∷◌, length, get_or, map, drop, sym, ap, ◌∙◌, subst, arith}
use Rattle.std.proofs.lemmas.List.{length_push, length-map}
use Rattle.dcc_ir.specs.Families.{live}
use Rattle.dcc_ir.specs.Views.{stmt_of}
use Rattle.dcc_flow.specs.Access.{access_in, access_of}
use Rattle.dcc_flow.specs.Marks.{members, with_all, without_all}
use Rattle.dcc_live.proofs.DeadLaws.{stmt_here, mapped_at}
use Rattle.dcc_divisions.specs.Divisions.{AreLeft, done}
use Rattle.dcc_divisions.specs.Walk.{backward, MayGo, Covers}
use Rattle.dcc_divisions.proofs.WalkLaws.{backward-push, covers-before, one-more, put-backward, all-taken, none-dropped, nothing-in}
use Rattle.dcc_divisions.proofs.left.stmts_left.Goals as goal

pub loop-stmt-init : goal.loop-stmt-init
loop-stmt-init c =
    let stmts = c.args.stmts.items in
    record {
      le = omega (arith, length-map stmts stmt_of);
      front = all-taken stmts;
      left = λ graph block covers.
          subst (λ rest. AreLeft (live graph block) (backward stmts) rest (backward c.new-left.result.items)) (sym (none-dropped stmts))
          (subst (λ l. AreLeft (live graph block) (backward stmts) [] (backward l)) (sym c.new-left.ensures.items) done);
      covers = λ graph block covers. subst (λ rest. Covers graph block rest (members c.args.live.now)) (sym (none-dropped stmts)) covers;
    }

pub may_go-goes-requires : goal.may_go-goes-requires
may_go-goes-requires c =
    let all = map stmt_of c.args.stmts.items in
    let passed = c.loop-stmt.passed.items in
    let fewer = c.pop.new.self.items in
    let stmt = c.in-Some.stmt in
    let inv = c.loop-stmt.invariant in
    let is = c.in-Some.ensures.items in
    let on = stmt_here all passed fewer stmt is inv.le inv.front in
    let more : length passed ≡ length fewer + 1 = ap length is ∙ length_push fewer stmt in
    let less : length fewer < length all = omega (arith, inv.le, more) in
    let place : c.len.result ≡ length fewer = omega (arith, c.len.ensures) in
    let access = c.index-accesses-len.result in
    let read = c.index-accesses-len.is ∙ ap (λ n. get_or c.args.accesses.now n access) place in
    mapped_at access_in access_of c.args.accesses.now all (length fewer) access (stmt_of stmt) (drop (length passed) all) c.requires less read on.1

pub loop-stmt-preserved : goal.loop-stmt-preserved
loop-stmt-preserved c =
    let all = map stmt_of c.args.stmts.items in
    let passed = c.loop-stmt.passed.items in
    let fewer = c.pop.new.self.items in
    let stmt = c.in-Some.stmt in
    let left = c.loop-stmt.left.items in
    let set = members c.loop-stmt.live in
    let rest = drop (length passed) all in
    let inv = c.loop-stmt.invariant in
    let is = c.in-Some.ensures.items in
    let on = stmt_here all passed fewer stmt is inv.le inv.front in
    let more : length passed ≡ length fewer + 1 = ap length is ∙ length_push fewer stmt in
    let less : length fewer < length all = omega (arith, inv.le, more) in
    let place : c.len.result ≡ length fewer = omega (arith, c.len.ensures) in
    let access = c.index-accesses-len.result in
    let read = c.index-accesses-len.is ∙ ap (λ n. get_or c.args.accesses.now n access) place in
    let same = mapped_at access_in access_of c.args.accesses.now all (length fewer) access (stmt_of stmt) rest c.requires less read on.1 in
    let goes = c.may_go-goes.result in
    let told : goes ≡ true → MayGo set (backward fewer) (backward left) (stmt_of stmt) = λ t.
    subst (λ l. MayGo set (backward fewer) (backward l) (stmt_of stmt)) c.as_slice-in-Some.ensures.value
    (subst (λ p. MayGo set (backward p) (backward c.as_slice-in-Some.result.now) (stmt_of stmt)) c.as_slice.ensures.value (c.may_go-goes.ensures t)) in
    let put = ap backward c.in_ok-put.ensures ∙ put-backward goes left stmt in
    record {
      le = omega (arith, less);
      front = on.0;
      left = λ graph block at_end.
          let after = subst (λ p. AreLeft (live graph block) p rest (backward left)) (ap backward is ∙ backward-push fewer stmt) (inv.left graph block at_end) in
          subst (λ r. AreLeft (live graph block) (backward fewer) r (backward c.put.new.left.items)) (sym on.1)
          (subst (AreLeft (live graph block) (backward fewer) (stmt_of stmt ∷ rest)) (sym put)
          (one-more (live graph block) rest (stmt_of stmt) (backward fewer) (backward left) set goes (inv.covers graph block at_end) told after));
      covers = λ graph block at_end.
          let now = c.in_ok-pass.ensures ∙ ap (λ a. with_all (without_all set a.writes) a.reads) same in
          subst (λ r. Covers graph block r (members c.pass.new.live)) (sym on.1)
          (subst (Covers graph block (stmt_of stmt ∷ rest)) (sym now) (covers-before graph block (stmt_of stmt) rest set (inv.covers graph block at_end)));
    }

pub returns : goal.returns
returns c = λ graph block at_end.
    let all = map stmt_of c.args.stmts.items in
    let none : length c.loop-stmt.passed.items ≡ 0 = omega (arith, c.loop-stmt.passed.ok.0, c.in_default.ensures.cases.0) in
    let empty = nothing-in c.loop-stmt.passed.items none in
    subst (λ l. AreLeft (live graph block) [] all (map stmt_of l)) (sym c.reverse.ensures.items)
    (subst (λ p. AreLeft (live graph block) (backward p) (drop (length p) all) (backward c.loop-stmt.left.items)) empty (c.loop-stmt.invariant.left graph block at_end))
