use Rattle.dcc_summaries.proofs.TableLaws.{here_more}
use Rattle.dcc_summaries.proofs.table.add_in_block.Goals as goal

pub returns : goal.returns
returns c =
    here_more c.args.rows.now.items c.make_row.new.rows.items c.args.done c.index_mut.result.now c.push.new.self c.args.location
    c.in_ok-make_row.ensures.same c.in_ok-make_row.ensures.room c.index_mut.ensures.value c.in_ok-push.ensures
