use Rattle.std.proofs.Common.{sym, ◌∙◌}
use Rattle.dcc_c.specs.Views.{stmt_of}
use Rattle.dcc_shape.specs.Carried.{sends, goes_to}
use Rattle.dcc_shape.specs.Carrying.{holds}
use Rattle.dcc_shape.proofs.CarryLaws.{set-inserted, grown-within, forced-in, unsettled}
use Rattle.dcc_shape.proofs.carried.follow.Goals as goal

pub returns-clause-more : goal.returns-clause-more
returns-clause-more c =
    let old = c.args.names.now in
    grown-within (holds old) (holds c.insert.new.self) c.in-Some.word.now
    (set-inserted old c.insert.new.self c.in-Some.word c.in_ok-insert.ensures.updates)

pub returns-clause-forced : goal.returns-clause-forced
returns-clause-forced c = λ all within keep.
    let old = c.args.names.now in
    let stmt = stmt_of c.args.stmt.now in
    let unplaced = holds c.args.unplaced.now in
    let away =
    unsettled (sends (holds old) stmt) (goes_to unplaced stmt) (goes_to (holds old) stmt)
    (sym c.settles.ensures ∙ c.if-settles.false) in
    forced-in (holds old) (holds c.insert.new.self) c.in-Some.word.now
    (set-inserted old c.insert.new.self c.in-Some.word c.in_ok-insert.ensures.updates) all within unplaced stmt
    c.in-Some.ensures away.0 keep
