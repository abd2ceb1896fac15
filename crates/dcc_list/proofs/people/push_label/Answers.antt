use Rattle.dcc_list.specs.Listed.{headings}
use Rattle.dcc_list.proofs.PeopleLaws.{label-appended}
use Rattle.dcc_list.proofs.people.push_label.Goals as goal

pub returns : goal.returns
returns c =
    label-appended c.args.text.now.items c.push_headings.new.text.items c.push_word.new.text.items c.extend_from_slice.new.self.items
    (headings c.args.image.now c.args.program.now c.args.at) c.args.at
    c.in_ok-push_headings.ensures c.in_ok-push_word.ensures c.in_ok-extend_from_slice.ensures.items
