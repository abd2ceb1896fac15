use Rattle.std.proofs.Common.{map, sym, ap, ◌∙◌}
use Rattle.dcc_c.specs.Views.{stmt_of}
use Rattle.dcc_shape.specs.Spots.{is_the}
use Rattle.dcc_shape.specs.Seen.{lent}
use Rattle.dcc_shape.proofs.ListLaws.{list_any-map}
use Rattle.dcc_shape.proofs.SpotLaws.{not-round, round-to}
use Rattle.dcc_shape.proofs.seen.goes_round.Goals as goal

pub returns-in-Some : goal.returns-in-Some
returns-in-Some c =
    let loops = map lent c.args.loops.now in
    let stmt = stmt_of c.args.stmt.now in
    c.is_among.ensures
    ∙ sym (list_any-map (is_the c.in-Some.word.now) lent c.args.loops.now)
    ∙ sym (round-to loops stmt c.in-Some.word.now (ap lent (sym c.in-Some.is) ∙ c.goal_in.ensures))

pub returns-in-None : goal.returns-in-None
returns-in-None c = sym (not-round (map lent c.args.loops.now) (stmt_of c.args.stmt.now) (ap lent (sym c.in-None.is) ∙ c.goal_in.ensures))
