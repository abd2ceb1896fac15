use Rattle.std.proofs.Common.{◌≡◌, ◌<◌, [], length, get_or, ap, ap₂, sym, ◌∙◌, subst, arith, All}
use Rattle.std.proofs.lemmas.List.{length-map, get_or-map, get_or_read}
use Rattle.dcc_ir.specs.Views.{graph_of}
use Rattle.dcc_ir.specs.Run.{no_block}
use Rattle.dcc_flow.specs.Edges.{rows, AreWithin}
use Rattle.dcc_flow.specs.Work.{Work, work_of, first_work, spread}
use Rattle.dcc_flow.proofs.RowLaws.{row_read, length_rows, length_successors, successors_within}
use Rattle.dcc_flow.specs.Access.{block_access_in, block_access_of}
use Rattle.dcc_live.specs.First.{Tells}
use Rattle.dcc_live.specs.Needed.{before_block, AreNeededAtEnds}
use Rattle.dcc_live.proofs.RowLaws.{map_read}
use Rattle.dcc_live.proofs.WorkLaws.{Going, weight, begin_going, waits_inside, same_answer, taken_flags, taken_lists, bits_size, sources_below, kept, all_needed}
use Rattle.dcc_live.proofs.needed.solved.Given.{Over}
use Rattle.dcc_live.proofs.needed.solved.Goals.{After-drop-start-inside}
use Rattle.dcc_live.proofs.needed.solved.Goals as goal

pub new-requires : goal.new-requires
new-requires g c = subst AreWithin (sym c.in_ok-next.ensures) (successors_within (graph_of c.args.g.now) c.requires.graph)

pub loop-block-init : goal.loop-block-init
loop-block-init g c =
    let graph = graph_of c.args.g.now in
    let size : length (rows c.in_ok-next.next.items) ≡ length graph.blocks = ap length c.in_ok-next.ensures ∙ length_successors graph in
    let listed = length_rows c.in_ok-next.next.items in
    let count : length c.in_ok-next.next.items ≡ length graph.blocks = omega (arith, size, listed) in
    record {
      going = subst (Going graph c.args.places.now) (sym (c.in_ok-work.ensures ∙ ap (λ n. first_work n c.len.result) count ∙ ap (first_work (length graph.blocks)) c.len.ensures)) (begin_going graph c.args.places.now);
      none = c.new-marks.ensures;
    }

pub index-requires : goal.index-requires
index-requires g c =
    let graph = graph_of c.args.g.now in
    let w = work_of c.loop-block.work in
    let going = c.loop-block.invariant.going in
    let there = waits_inside graph c.args.places.now w (work_of c.take.new.self) going c.in-Some.block c.in-Some.ensures in
    let lists = taken_lists graph c.args.places.now w (work_of c.take.new.self) going c.in-Some.block c.in-Some.ensures in
    omega (arith, there, lists.count_is)

pub index-requires-in-Some : goal.index-requires-in-Some
index-requires-in-Some g c =
    let graph = graph_of c.args.g.now in
    let there = waits_inside graph c.args.places.now (work_of c.loop-block.work) (work_of c.take.new.self) c.loop-block.invariant.going c.in-Some.block c.in-Some.ensures in
    omega (arith, there, length-map c.args.blocks.now.items block_access_in, ap length c.requires.blocks, length-map graph.blocks block_access_of)

pub index-requires-in-Some-2 : goal.index-requires-in-Some-2
index-requires-in-Some-2 g c =
    let graph = graph_of c.args.g.now in
    let there = waits_inside graph c.args.places.now (work_of c.loop-block.work) (work_of c.take.new.self) c.loop-block.invariant.going c.in-Some.block c.in-Some.ensures in
    omega (arith, there, c.in_ok-sources.ensures.len, length_rows c.in_ok-sources.sources.items, length_successors graph)

pub needed_before-requires-clause-len : goal.needed_before-requires-clause-len
needed_before-requires-clause-len g c =
    let graph = graph_of c.args.g.now in
    let w = work_of c.loop-block.work in
    let taken = work_of c.take.new.self in
    let going = c.loop-block.invariant.going in
    let there = waits_inside graph c.args.places.now w taken going c.in-Some.block c.in-Some.ensures in
    let lists = taken_lists graph c.args.places.now w taken going c.in-Some.block c.in-Some.ensures in
    let read = get_or_read taken.answer c.in-Some.block c.index.result.now (omega (arith, there, lists.count_is)) c.index.ensures [] in
    ap length read ∙ bits_size graph c.args.places.now w taken going c.in-Some.block c.in-Some.ensures

pub spread-requires-clause-sources : goal.spread-requires-clause-sources
spread-requires-clause-sources g c =
    let graph = graph_of c.args.g.now in
    let w = work_of c.loop-block.work in
    let taken = work_of c.take.new.self in
    let going = c.loop-block.invariant.going in
    let block = c.in-Some.block in
    let vs = c.in_ok-sources.sources.items in
    let there = waits_inside graph c.args.places.now w taken going block c.in-Some.ensures in
    let listed : block < length vs = omega (arith, there, c.in_ok-sources.ensures.len, length_rows vs, length_successors graph) in
    let row = c.as_slice.ensures.value ∙ row_read vs block c.index-in-Some-2.result.now listed c.index-in-Some-2.ensures in
    let below = sources_below graph c.args.places.now w taken going block c.in-Some.ensures (rows vs) c.in_ok-sources.ensures in
    let lists = taken_lists graph c.args.places.now w taken going block c.in-Some.ensures in
    subst (λ n. All (λ a. a < n) c.as_slice.result.now) (sym lists.count_is) (subst (All (λ a. a < length graph.blocks)) (sym row) below)

pub spread-requires-clause-queued : goal.spread-requires-clause-queued
spread-requires-clause-queued g c =
    taken_flags (graph_of c.args.g.now) c.args.places.now (work_of c.loop-block.work) (work_of c.take.new.self)
    c.loop-block.invariant.going c.in-Some.block c.in-Some.ensures

pub spread-requires-clause-lists : goal.spread-requires-clause-lists
spread-requires-clause-lists g c =
    let lists = taken_lists (graph_of c.args.g.now) c.args.places.now (work_of c.loop-block.work) (work_of c.take.new.self) c.loop-block.invariant.going c.in-Some.block c.in-Some.ensures in
    subst (λ n. All (λ bits. length bits ≡ n) c.take.new.self.answer.items) (sym c.in_ok-start.ensures.len) lists.len_is

-- what a turn keeps, and that less is left after it
turned : (g : Over) (c : After-drop-start-inside g)
    → Going (graph_of c.args.g.now) c.args.places.now (work_of c.spread.new.self) × (weight (work_of c.spread.new.self) < weight (work_of c.loop-block.work))
turned g c =
    let graph = graph_of c.args.g.now in
    let places = c.args.places.now in
    let w = work_of c.loop-block.work in
    let taken = work_of c.take.new.self in
    let going = c.loop-block.invariant.going in
    let block = c.in-Some.block in
    let vs = c.in_ok-sources.sources.items in
    let items = c.args.blocks.now.items in
    let start = c.in_ok-start.start in
    let inside = waits_inside graph places w taken going block c.in-Some.ensures in
    let lists = taken_lists graph places w taken going block c.in-Some.ensures in
    let listed : block < length vs = omega (arith, inside, c.in_ok-sources.ensures.len, length_rows vs, length_successors graph) in
    let row = c.as_slice.ensures.value ∙ row_read vs block c.index-in-Some-2.result.now listed c.index-in-Some-2.ensures in
    let bits = get_or_read taken.answer block c.index.result.now (omega (arith, inside, lists.count_is)) c.index.ensures []
    ∙ ap (λ l. get_or l block []) (same_answer graph places w taken going block c.in-Some.ensures) in
    let there : block < length items = omega (arith, inside, length-map items block_access_in, ap length c.requires.blocks, length-map graph.blocks block_access_of) in
    let access = block_access_in c.index-in-Some.result.now in
    let known = map_read block_access_in items block c.index-in-Some.result.now there c.index-in-Some.ensures ∙ ap (λ l. get_or l block access) c.requires.blocks
    ∙ get_or-map block_access_of graph.blocks block no_block access inside in
    let tells = subst (λ h. Tells places h start) (ap₂ (before_block places) bits known) c.in_ok-start.ensures.tells in
    kept graph places w taken going block c.in-Some.ensures (rows vs) c.in_ok-sources.ensures start tells (work_of c.spread.new.self)
    (c.spread.ensures.work ∙ ap (spread start start start taken) row)

pub loop-block-smaller : goal.loop-block-smaller
loop-block-smaller g c = (turned g c).1

pub loop-block-preserved : goal.loop-block-preserved
loop-block-preserved g c = record { going = (turned g c).0; none = c.in_ok-start.ensures.empty }

pub returns : goal.returns
returns g c =
    let graph = graph_of c.args.g.now in
    let places = c.args.places.now in
    subst (λ (w : Work). AreNeededAtEnds graph places w.answer) (sym c.in_default.ensures.1)
    (all_needed graph places (work_of c.loop-block.work) c.loop-block.invariant.going c.in_default.ensures.0 c.requires.places)
