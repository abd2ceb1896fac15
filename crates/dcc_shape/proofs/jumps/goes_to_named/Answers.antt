use Rattle.std.proofs.Common.{sym, ap, ◌∙◌}
use Rattle.dcc_c.specs.Views.{stmt_of}
use Rattle.dcc_shape.specs.Seen.{lent}
use Rattle.dcc_shape.proofs.SeenLaws.{passes-at}
use Rattle.dcc_shape.proofs.jumps.goes_to_named.Goals as goal

pub returns-in-Some : goal.returns-in-Some
returns-in-Some c = λ test named.
    c.is_named.ensures test named
    ∙ sym (passes-at test (stmt_of c.args.stmt.now) c.in-Some.word.now (ap lent (sym c.in-Some.is) ∙ c.goal_in.ensures))
