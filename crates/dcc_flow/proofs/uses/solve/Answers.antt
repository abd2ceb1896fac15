use Rattle.std.proofs.Common.{◌≡◌, ◌<◌, ◌≤◌, ◌+◌, ◌*◌, ℕ, Bool, List, [], length, get_or, All, ap, sym, ◌∙◌, subst, arith}
use Rattle.std.proofs.lemmas.List.{get_or_read}
use Rattle.std.proofs.lemmas.List.Elements.{All-get_or, All-from_get_or}
use Rattle.dcc_flow.specs.Edges.{rows}
use Rattle.dcc_flow.specs.Bits.{words_for}
use Rattle.dcc_flow.specs.Uses.{AreLists, AreUses}
use Rattle.dcc_flow.specs.Work.{Work, work_of}
use Rattle.dcc_flow.proofs.RowLaws.{row_read, length_rows}
use Rattle.dcc_flow.proofs.SourceLaws.{in_at, predecessor_within}
use Rattle.dcc_flow.proofs.WorkLaws.{queued_inside, answered, Turn, turn_going, turn_less, turn_steps, turn_bound, taken_kept, start_steps, start_going}
use Rattle.dcc_flow.proofs.uses.solve.Given.{Over}
use Rattle.dcc_flow.proofs.uses.solve.Goals.{After-sources-in-Some-1, After-flow_from-arg-1}
use Rattle.dcc_flow.proofs.uses.solve.Goals as goal

pub loop-block-init : goal.loop-block-init
loop-block-init g c =
    let next = rows c.args.next.now.items in
    let used = c.args.used.now.items in
    let written = c.args.written.now.items in
    let sources = rows c.in_ok-sources.sources.items in
    let count = length c.args.next.now.items in
    let same : count ≡ length next = sym (length_rows c.args.next.now.items) in
    let are = c.in_ok-sources.ensures.sources in
    let first = work_of c.in_ok-work.work in
    record {
      going = start_going next sources used written c.args.len are first count c.in_ok-work.ensures same;
      steps = start_steps next sources used written c.args.len are first count c.args.steps.now
          (words_for c.args.len) c.in_ok-work.ensures same c.in_ok-sources.ensures.few;
    }

-- the block that is taken is one of the graph
inside : (g : Over) (c : After-sources-in-Some-1 g) → c.in-Some.block < length (rows c.args.next.now.items)
inside g c =
    queued_inside (rows c.args.next.now.items) c.args.used.now.items c.args.written.now.items c.args.len
    (work_of c.loop-block.work) c.in-Some.block c.in-Some.ensures.waits c.loop-block.invariant.going.kept

pub index-requires : goal.index-requires
index-requires g c =
    omega (arith, inside g c, c.in_ok-sources.ensures.sources.len, length_rows c.in_ok-sources.sources.items)

pub index-requires-in-Some : goal.index-requires-in-Some
index-requires-in-Some g c =
    let below = inside g (goal.at.index-requires-in-Some g c).After-sources-in-Some-1 in
    omega (arith, below, c.requires.used.count_is, length_rows c.args.next.now.items)

pub index-requires-in-Some-2 : goal.index-requires-in-Some-2
index-requires-in-Some-2 g c =
    let below = inside g (goal.at.index-requires-in-Some-2 g c).After-sources-in-Some-1 in
    omega (arith, below, c.requires.written.count_is, length_rows c.args.next.now.items)

block_inside : (g : Over) (c : After-flow_from-arg-1 g) → c.in-Some.block < length (rows c.args.next.now.items)
block_inside g c = inside g (goal.at.flow_from-requires-clause-block g c).After-sources-in-Some-1

-- what the code read of the turn
turn : (g : Over) (c : After-flow_from-arg-1 g)
    → Turn (rows c.args.next.now.items) (rows c.in_ok-sources.sources.items) c.args.used.now.items
    c.args.written.now.items c.args.len (work_of c.loop-block.work) (work_of c.take.new.self) c.in-Some.block
    c.as_slice.result.now c.index-in-Some.result.now c.index-in-Some-2.result.now
turn g c =
    let block = c.in-Some.block in
    let vs = c.in_ok-sources.sources.items in
    let used = c.args.used.now.items in
    let written = c.args.written.now.items in
    let are = c.in_ok-sources.ensures.sources in
    let below = block_inside g c in
    let size = length_rows c.args.next.now.items in
    let listed : block < length vs = omega (arith, below, are.len, length_rows vs) in
    let uses : block < length used = omega (arith, below, c.requires.used.count_is, size) in
    let writes : block < length written = omega (arith, below, c.requires.written.count_is, size) in
    record {
      predecessors = are;
      going = c.loop-block.invariant.going;
      takes = c.in-Some.ensures;
      tos_is = c.as_slice.ensures.value ∙ row_read vs block c.index.result.now listed c.index.ensures;
      uses_is = get_or_read used block c.index-in-Some.result.now uses c.index-in-Some.ensures [];
      writes_is = get_or_read written block c.index-in-Some-2.result.now writes c.index-in-Some-2.ensures [];
    }

-- the length of a list that was read
size : (count len : ℕ) (lists : List (List Bool)) (block : ℕ) (list : List Bool) → AreLists count len lists
    → block < count → list ≡ get_or lists block [] → length list ≡ len
size count len lists block list are below is =
    ap length is ∙ All-get_or (λ l. length l ≡ len) lists block [] (omega (arith, are.count_is)) are.len_is

used_size : (g : Over) (c : After-flow_from-arg-1 g) → length c.index-in-Some.result.now ≡ c.args.len
used_size g c =
    size (length c.args.next.now.items) c.args.len c.args.used.now.items c.in-Some.block c.index-in-Some.result.now
    c.requires.used (omega (arith, block_inside g c, length_rows c.args.next.now.items)) (turn g c).uses_is

pub flow_from-requires-clause-block : goal.flow_from-requires-clause-block
flow_from-requires-clause-block g c = omega (arith, block_inside g c, (taken_kept (turn g c)).count)

pub flow_from-requires-clause-sources : goal.flow_from-requires-clause-sources
flow_from-requires-clause-sources g c =
    let next = rows c.args.next.now.items in
    let block = c.in-Some.block in
    let row = get_or (rows c.in_ok-sources.sources.items) block [] in
    let below = block_inside g c in
    subst (λ l. All (λ source. source < length c.take.new.self.answer.items) l) (sym (turn g c).tos_is)
    (All-from_get_or (λ source. source < length c.take.new.self.answer.items) row 0 (λ i less.
    let edge = sym (c.in_ok-sources.ensures.sources.exact (get_or row i 0) block below) ∙ in_at row i less in
    let there = predecessor_within next (get_or row i 0) block edge in
    omega (arith, there, (taken_kept (turn g c)).count)))

pub flow_from-requires-clause-queued : goal.flow_from-requires-clause-queued
flow_from-requires-clause-queued g c = let kept = taken_kept (turn g c) in kept.flags ∙ sym kept.count

pub flow_from-requires-clause-lists : goal.flow_from-requires-clause-lists
flow_from-requires-clause-lists g c =
    let kept = taken_kept (turn g c) in
    All-from_get_or (λ l. length l ≡ length c.index-in-Some.result.now) c.take.new.self.answer.items [] (λ b less.
    kept.size b (omega (arith, less, kept.count)) ∙ sym (used_size g c))

pub flow_from-requires-clause-written : goal.flow_from-requires-clause-written
flow_from-requires-clause-written g c =
    size (length c.args.next.now.items) c.args.len c.args.written.now.items c.in-Some.block
    c.index-in-Some-2.result.now c.requires.written
    (omega (arith, block_inside g c, length_rows c.args.next.now.items)) (turn g c).writes_is
    ∙ sym (used_size g c)

pub loop-block-smaller : goal.loop-block-smaller
loop-block-smaller g c =
    turn_less (turn g (goal.at.loop-block-smaller g c).After-flow_from-arg-1) (work_of c.flow_from.new.self)
    c.in_ok-flow_from.ensures.work

-- the steps of the turn, which are told by the length of a list that was read
spent : (g : Over) (c : After-flow_from-arg-1 g) (now : ℕ)
    → now ≤ c.loop-block.steps + length c.as_slice.result.now * words_for (length c.index-in-Some.result.now)
    → now ≤ c.loop-block.steps + length c.as_slice.result.now * words_for c.args.len
spent g c now le =
    subst (λ n. now ≤ c.loop-block.steps + length c.as_slice.result.now * words_for n) (used_size g c) le

pub loop-block-preserved : goal.loop-block-preserved
loop-block-preserved g c =
    let at = (goal.at.loop-block-preserved g c).After-flow_from-arg-1 in
    let last = work_of c.flow_from.new.self in
    record {
      going = turn_going (turn g at) last c.in_ok-flow_from.ensures.work;
      steps = turn_steps (turn g at) last c.in_ok-flow_from.ensures.work c.loop-block.steps c.flow_from.new.steps _
          (words_for c.args.len) (spent g at c.flow_from.new.steps c.in_ok-flow_from.ensures.cost)
          c.loop-block.invariant.steps;
    }

pub returns-in_err-flow_from-clause-cost : goal.returns-in_err-flow_from-clause-cost
returns-in_err-flow_from-clause-cost g c =
    let at = (goal.at.returns-in_err-flow_from-clause-cost g c).After-flow_from-arg-1 in
    turn_bound (turn g at) c.loop-block.steps c.flow_from.new.steps _ (words_for c.args.len)
    (spent g at c.flow_from.new.steps c.in_err-flow_from.ensures.cost) c.loop-block.invariant.steps

pub returns-clause-exact : goal.returns-clause-exact
returns-clause-exact g c =
    let next = rows c.args.next.now.items in
    let used = c.args.used.now.items in
    let written = c.args.written.now.items in
    subst (λ (w : Work). AreUses next used written c.args.len w.answer) (sym c.in_default.ensures.1)
    (answered next used written c.args.len c.requires.next (work_of c.loop-block.work) c.in_default.ensures.0
    c.loop-block.invariant.going)
