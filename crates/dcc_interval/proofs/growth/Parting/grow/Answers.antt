use Rattle.std.proofs.Common.{◌<◌, false, [], length, get_or, All, ap, sym, ◌∙◌, subst, refl, arith}
use Rattle.std.proofs.lemmas.List.{length-set, get_or_default}
use Rattle.dcc_flow.specs.Edges.{rows}
use Rattle.dcc_flow.proofs.RowLaws.{row_read, length_rows}
use Rattle.dcc_interval.specs.Growing.{growing_of}
use Rattle.dcc_interval.proofs.ReachLaws.{row_within}
use Rattle.dcc_interval.proofs.JoinLaws.{checked_still}
use Rattle.dcc_interval.proofs.PartingLaws.{header_inside, begins, goes_on, member_inside, few_members, whole}
use Rattle.dcc_interval.proofs.growth.Parting.grow.Goals as goal

pub index_mut-requires : goal.index_mut-requires
index_mut-requires c =
    let there = header_inside (rows c.args.next.now.items) (rows c.args.sources.now.items) c.args.self.now c.requires.turned c.requires.parted c.requires.left c.args.header c.requires.header in
    omega (arith, there, c.requires.turned.count, c.requires.ready.free)

pub loop-turn-smaller : goal.loop-turn-smaller
loop-turn-smaller c =
    let few = few_members (rows c.args.next.now.items) (rows c.args.sources.now.items) c.args.self.now c.requires.turned c.requires.parted c.requires.left c.args.header c.requires.header
    (growing_of c.loop-turn.self c.loop-turn.members.items) c.loop-turn.turn c.loop-turn.invariant.followed in
    omega (arith, few, length_rows c.args.next.now.items)

pub loop-turn-init : goal.loop-turn-init
loop-turn-init c =
    let sources = rows c.args.sources.now.items in
    let self = c.args.self.now in
    let there = header_inside (rows c.args.next.now.items) sources self c.requires.turned c.requires.parted c.requires.left c.args.header c.requires.header in
    record {
      ready = record {
        free = length-set self.free.items c.args.header false ∙ c.requires.ready.free;
        marks = c.requires.ready.marks;
        checked = c.requires.ready.checked;
        right = checked_still sources self.free.items self.checked.items c.args.header (omega (arith, there, c.requires.turned.count, c.requires.ready.free)) c.requires.ready.right;
      };
      followed = begins (rows c.args.next.now.items) sources self c.requires.turned c.requires.parted c.requires.left c.args.header c.requires.header c.in_ok-members.members.items c.in_ok-members.ensures.items;
      intervals = refl;
      list = refl;
    }

pub index-requires : goal.index-requires
index-requires c =
    let members = c.loop-turn.members.items in
    let here : c.loop-turn.turn < length members = omega arith in
    let node = c.index-node.ensures ∙ get_or_default members c.loop-turn.turn c.index-node.result.now 0 here in
    let there = member_inside (rows c.args.next.now.items) (rows c.args.sources.now.items) c.args.self.now c.requires.turned c.requires.parted c.requires.left c.args.header c.requires.header
    (growing_of c.loop-turn.self members) c.loop-turn.turn c.loop-turn.invariant.followed here in
    omega (arith, there, node, length_rows c.args.next.now.items)

pub join_all-requires : goal.join_all-requires
join_all-requires c =
    let vs = c.args.next.now.items in
    let members = c.loop-turn.members.items in
    let here : c.loop-turn.turn < length members = omega arith in
    let node = c.index-node.ensures ∙ get_or_default members c.loop-turn.turn c.index-node.result.now 0 here in
    let there = member_inside (rows vs) (rows c.args.sources.now.items) c.args.self.now c.requires.turned c.requires.parted c.requires.left c.args.header c.requires.header
    (growing_of c.loop-turn.self members) c.loop-turn.turn c.loop-turn.invariant.followed here in
    let row = c.as_slice.ensures.value ∙ row_read vs c.index-node.result.now c.index.result.now (omega (arith, there, node, length_rows vs)) c.index.ensures in
    record {
      nodes = subst (λ l. All (λ n. n < length c.args.sources.now.items) l) (sym row)
          (subst (λ k. All (λ n. n < k) (get_or (rows vs) c.index-node.result.now [])) (sym (sym (length_rows c.args.sources.now.items) ∙ c.requires.turned.count)) (row_within (rows vs) c.requires.turned.within c.index-node.result.now));
      within = c.requires.within;
      ready = c.loop-turn.invariant.ready;
    }

pub loop-turn-preserved : goal.loop-turn-preserved
loop-turn-preserved c =
    let vs = c.args.next.now.items in
    let sources = rows c.args.sources.now.items in
    let members = c.loop-turn.members.items in
    let s = growing_of c.loop-turn.self members in
    let here : c.loop-turn.turn < length members = omega arith in
    let node = c.index-node.ensures ∙ get_or_default members c.loop-turn.turn c.index-node.result.now 0 here in
    let there = member_inside (rows vs) sources c.args.self.now c.requires.turned c.requires.parted c.requires.left c.args.header c.requires.header s c.loop-turn.turn c.loop-turn.invariant.followed here in
    let row = c.as_slice.ensures.value ∙ row_read vs c.index-node.result.now c.index.result.now (omega (arith, there, node, length_rows vs)) c.index.ensures ∙ ap (λ n. get_or (rows vs) n []) node in
    record {
      ready = c.in_ok-join_all.ensures.ready;
      followed = goes_on (rows vs) sources c.args.self.now c.requires.turned c.requires.parted c.requires.left c.args.header c.requires.header s c.loop-turn.turn c.loop-turn.invariant.followed here
          c.as_slice.result.now row (growing_of c.join_all.new.self c.join_all.new.members.items) c.in_ok-join_all.ensures.grown;
      intervals = c.join_all.ensures.intervals ∙ c.loop-turn.invariant.intervals;
      list = c.join_all.ensures.list ∙ c.loop-turn.invariant.list;
    }

pub returns : goal.returns
returns c = record {
  grown = c.loop-turn.invariant.followed.grown;
  whole = whole (rows c.args.next.now.items) (rows c.args.sources.now.items) c.args.self.now c.requires.turned c.requires.parted c.requires.left c.args.header c.requires.header
      (growing_of c.loop-turn.self c.loop-turn.members.items) c.loop-turn.turn c.loop-turn.invariant.followed (omega arith);
  ready = c.loop-turn.invariant.ready;
  intervals = c.loop-turn.invariant.intervals;
  list = c.loop-turn.invariant.list;
}
