use Rattle.std.proofs.Common.{◌≡◌, ◌++◌, ◌==◌, nat_eq, codes, ap, ◌∙◌}
use Rattle.dcc_list.specs.Text.{text_of, comment_line}
use Rattle.dcc_list.specs.Listed.{data_offset, procedure_lines}
use Rattle.dcc_list.proofs.PeopleLaws.{line_if, three-appended}
use Rattle.dcc_list.proofs.people.push_headings.Goals as goal

pub returns : goal.returns
returns c =
    let program = c.args.program.now in
    let image = c.args.image.now in
    let tested : nat_eq c.data_offset.result c.from.result ≡ nat_eq (data_offset image program.layout) c.args.at = let p = c.data_offset.ensures in let q = c.from.ensures in cc in
    let last = c.in_ok-push_heading-2.ensures ∙ ap (λ b. c.push_procedures.new.text.items ++ text_of (line_if b (comment_line (codes " data")))) tested in
    three-appended c.args.text.now.items c.push_heading.new.text.items c.push_procedures.new.text.items c.push_heading-2.new.text.items
    (line_if (image.ip == c.args.at) (comment_line (codes " prelude")))
    (procedure_lines program.layout.start_ip c.args.at program.procs.items program.cells.frames.items program.heights.ret.items)
    (line_if (data_offset image program.layout == c.args.at) (comment_line (codes " data")))
    c.in_ok-push_heading.ensures c.in_ok-push_procedures.ensures last
