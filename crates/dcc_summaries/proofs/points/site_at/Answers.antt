use Rattle.std.proofs.Common.{◌<◌, ◌≤◌, length, get_or, ap, sym, ◌∙◌, subst}
use Rattle.std.proofs.lemmas.Bool.{ltb-true, ltb-false}
use Rattle.dcc_summaries.proofs.PointLaws.{executes_there, ends_there}
use Rattle.dcc_summaries.proofs.points.site_at.Goals as goal

pub returns-in-Some : goal.returns-in-Some
returns-in-Some c =
    let stmts = c.index-block.result.now.stmts.items in
    let found = c.in-Some.ensures.lookup in
    let inside : c.args.at.done < length c.deref.result.now = ltb-true c.args.at.done (length c.deref.result.now) (sym found.0) in
    let same = c.deref.ensures.value in
    executes_there c.args.p.now c.args.at c.index.result.now c.index-block.result.now c.requires c.index.ensures c.index-block.ensures c.in-Some.stmt.now
    (subst (λ l. c.args.at.done < length l) same inside) (found.1 ∙ ap (λ l. get_or l c.args.at.done c.in-Some.stmt.now) same)

pub returns-in-None : goal.returns-in-None
returns-in-None c =
    let found = c.in-None.ensures.lookup in
    let past : length c.deref.result.now ≤ c.args.at.done = ltb-false c.args.at.done (length c.deref.result.now) (sym found.0) in
    ends_there c.args.p.now c.args.at c.index.result.now c.index-block.result.now c.requires c.index.ensures c.index-block.ensures
    (subst (λ l. length l ≤ c.args.at.done) c.deref.ensures.value past)
