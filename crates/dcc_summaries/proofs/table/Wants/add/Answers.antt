use Rattle.std.proofs.lemmas.Result.{on_ok_weaker}
use Rattle.dcc_summaries.proofs.TableLaws.{graph_more}
use Rattle.dcc_summaries.proofs.table.Wants.add.Goals as goal

pub returns : goal.returns
returns c = on_ok_weaker c.add_in_graph.result
    (graph_more c.args.self.now.rows.items c.make_room.new.lists.items c.args.want c.index_mut.result.now c.add_in_graph.new.blocks c.in_ok-make_room.ensures.same c.in_ok-make_room.ensures.room
    c.index_mut.ensures.value) c.add_in_graph.ensures
