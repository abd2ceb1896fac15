use Rattle.std.proofs.Common.{refl, ◌∙◌}
use Rattle.dcc_check.proofs.NameLaws.{add-step}
use Rattle.dcc_check.proofs.names.add_words.Goals as goal

pub loop-name-preserved : goal.loop-name-preserved
loop-name-preserved c = λ word.
    add-step c.args.names.now c.loop-name.name-index _ _ c.loop-name-test.true refl
    c.loop-name.words c.add_word.new.words c.in_ok-add_word.ensures word
    ∙ c.loop-name.invariant word
