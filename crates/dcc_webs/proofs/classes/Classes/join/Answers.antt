use Rattle.std.proofs.Common.{◌<◌, length, sym, ◌∙◌, arith}
use Rattle.std.proofs.lemmas.List.{get_or_read}
use Rattle.dcc_webs.proofs.ClassLaws.{joins_none, joins_one}
use Rattle.dcc_webs.proofs.classes.Classes.join.Goals as goal

pub returns-then-x-len-clause-joins : goal.returns-then-x-len-clause-joins
returns-then-x-len-clause-joins c = joins_none c.args.x c.args.y c.args.self.now.class.items (λ x_in y_in. absurd (omega (arith, x_in, c.if-x-len.true, c.len.ensures)))

pub returns-then-y-len-clause-joins : goal.returns-then-y-len-clause-joins
returns-then-y-len-clause-joins c = joins_none c.args.x c.args.y c.args.self.now.class.items (λ x_in y_in. absurd (omega (arith, y_in, c.if-y-len.true, c.len-2.ensures)))

pub returns-then-first-second-clause-joins : goal.returns-then-first-second-clause-joins
returns-then-first-second-clause-joins c =
    let class = c.args.self.now.class.items in
    joins_none c.args.x c.args.y class (λ x_in y_in.
    sym (get_or_read class c.args.x c.index-first.result.now x_in c.index-first.ensures 0) ∙ c.if-first-second.true ∙ get_or_read class c.args.y c.index-second.result.now y_in c.index-second.ensures 0)

pub returns-clause-joins : goal.returns-clause-joins
returns-clause-joins c =
    let class = c.args.self.now.class.items in
    let x_in : c.args.x < length class = omega (arith, c.if-x-len.false, c.len.ensures) in
    let y_in : c.args.y < length class = omega (arith, c.if-y-len.false, c.len-2.ensures) in
    joins_one c.args.x c.args.y c.index-first.result.now c.index-second.result.now class c.merge_smaller.new.self.class.items x_in y_in
    (sym (get_or_read class c.args.x c.index-first.result.now x_in c.index-first.ensures 0)) (sym (get_or_read class c.args.y c.index-second.result.now y_in c.index-second.ensures 0)) c.in_ok-merge_smaller.ensures.one
