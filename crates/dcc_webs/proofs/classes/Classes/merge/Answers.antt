use Rattle.std.proofs.Common.{length, ap, ◌∙◌, arith}
use Rattle.dcc_webs.proofs.StepLaws.{on_ok}
use Rattle.dcc_webs.proofs.ClassLaws.{moved_length, merge_class, merge_others}
use Rattle.dcc_webs.proofs.classes.Classes.merge.Goals as goal

pub index_mut-requires-2 : goal.index_mut-requires-2
index_mut-requires-2 c = omega (arith, c.requires.from, ap length c.move_all.ensures, moved_length c.args.to c.args.self.now.class.items c.as_slice.result.now)

pub returns-clause-class : goal.returns-clause-class
returns-clause-class c = on_ok c.append.result (λ _. merge_class c.args.from c.args.to c.args.self.now.others.items c.index_mut.result.now c.args.self.now.class.items c.move_all.new.class.items c.as_slice.result.now
    (omega (arith, c.requires.from, c.requires.count)) c.index_mut.ensures.value (c.as_slice.ensures.value ∙ c.in_ok-moved.ensures.taken) c.move_all.ensures) c.append.ensures

pub returns-clause-others : goal.returns-clause-others
returns-clause-others c = on_ok c.append.result (λ e. merge_others c.args.from c.args.to c.args.self.now.others.items c.index_mut.result.now c.take_all.new.list c.index_mut-3.result.now c.append.new.list c.as_slice-2.result.now
    (omega (arith, c.requires.from, c.requires.count)) (omega (arith, c.requires.to, c.requires.count)) c.index_mut.ensures.value c.in_ok-moved.ensures.left c.index_mut-3.ensures.value
    (c.as_slice-2.ensures.value ∙ c.in_ok-moved.ensures.taken) e) c.append.ensures
