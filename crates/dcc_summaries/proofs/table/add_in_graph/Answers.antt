use Rattle.std.proofs.lemmas.Result.{on_ok_weaker}
use Rattle.dcc_summaries.proofs.TableLaws.{block_more}
use Rattle.dcc_summaries.proofs.table.add_in_graph.Goals as goal

pub returns : goal.returns
returns c = on_ok_weaker c.add_in_block.result
    (block_more c.args.blocks.now.items c.make_room.new.lists.items c.args.want.at.block c.args.want.at.done c.index_mut.result.now c.add_in_block.new.rows c.args.want.location
    c.in_ok-make_room.ensures.same c.in_ok-make_room.ensures.room c.index_mut.ensures.value) c.add_in_block.ensures
