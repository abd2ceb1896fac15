use Rattle.std.proofs.Common.{inl, inr, sym}
use Rattle.dcc_flow.specs.Edges.{rows}
use Rattle.dcc_webs.proofs.ClassLaws.{merged_so}
use Rattle.dcc_webs.proofs.classes.Classes.merge_smaller.Goals as goal

pub returns-then-len-clause-order : goal.returns-then-len-clause-order
returns-then-len-clause-order c =
    let s = c.requires in
    (merged_so c.args.first c.args.second c.args.self.now.class.items c.merge.new.self.class.items (rows c.args.self.now.others.items) (rows c.merge.new.self.others.items) s.order s.first s.second s.first_own s.second_own s.two
    c.in_ok-merge.ensures.class c.in_ok-merge.ensures.others).0

pub returns-then-len-clause-one : goal.returns-then-len-clause-one
returns-then-len-clause-one c =
    let s = c.requires in
    inl ((merged_so c.args.first c.args.second c.args.self.now.class.items c.merge.new.self.class.items (rows c.args.self.now.others.items) (rows c.merge.new.self.others.items) s.order s.first s.second s.first_own s.second_own
    s.two c.in_ok-merge.ensures.class c.in_ok-merge.ensures.others).1)

pub returns : goal.returns
returns c =
    let s = c.requires in
    let so = merged_so c.args.second c.args.first c.args.self.now.class.items c.merge-2.new.self.class.items (rows c.args.self.now.others.items) (rows c.merge-2.new.self.others.items) s.order s.second s.first s.second_own
    s.first_own (λ e. s.two (sym e)) c.in_ok-merge-2.ensures.class c.in_ok-merge-2.ensures.others
    in
    record { order = so.0; one = inr so.1 }
