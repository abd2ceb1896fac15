use Rattle.std.proofs.Common.{sym, ap, ◌∙◌}
use Rattle.dcc_shape.specs.Spots.{label_in}
use Rattle.dcc_shape.specs.Seen.{lent}
use Rattle.dcc_shape.proofs.SeenLaws.{labels-more, labels-other}
use Rattle.dcc_shape.proofs.jumps.note_label.Goals as goal

pub returns-in_ok-insert : goal.returns-in_ok-insert
returns-in_ok-insert c = λ s rest is had.
    labels-more c.args.later.now s rest had c.insert.new.self c.in-Some.word.now c.in-Some-offset_named.at
    (ap lent (sym c.in-Some.is) ∙ c.label_in.ensures ∙ ap label_in (sym is))
    c.in-Some-offset_named.ensures.is.1 c.in-Some-offset_named.ensures.is.0 c.in_ok-insert.ensures.updates

pub returns-in_default-offset_named : goal.returns-in_default-offset_named
returns-in_default-offset_named c = λ s rest is had.
    labels-other c.args.later.now s rest had c.in-Some.word.now
    (ap lent (sym c.in-Some.is) ∙ c.label_in.ensures ∙ ap label_in (sym is))
    c.in_default-offset_named.ensures.none
