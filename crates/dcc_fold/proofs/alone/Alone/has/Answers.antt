use Rattle.std.proofs.Common.{false, sym, ◌∙◌}
use Rattle.dcc_fold.proofs.AloneLaws.{alone-told, by-params, by-writes, by-reads}
use Rattle.dcc_fold.proofs.alone.Alone.has.Goals as goal

pub returns-then-contains : goal.returns-then-contains
returns-then-contains c = λ graph counted.
    let alone = c.args.self.now in
    let t = c.args.temporary in
    alone-told graph alone t false counted (by-params alone t (sym c.contains.ensures ∙ c.if-contains.true))

pub returns-then-not-is_one : goal.returns-then-not-is_one
returns-then-not-is_one c = λ graph counted.
    let alone = c.args.self.now in
    let t = c.args.temporary in
    alone-told graph alone t false counted (by-writes alone t (sym c.is_one.ensures ∙ c.if-not-is_one.true))

pub returns : goal.returns
returns c = λ graph counted.
    let alone = c.args.self.now in
    let t = c.args.temporary in
    alone-told graph alone t c.is_one-2.result counted
    (by-reads alone t c.is_one-2.result (sym c.contains.ensures ∙ c.if-contains.false) (sym c.is_one.ensures ∙ c.if-not-is_one.false) c.is_one-2.ensures)
