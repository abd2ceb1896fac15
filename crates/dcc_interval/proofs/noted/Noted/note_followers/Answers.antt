use Rattle.std.proofs.Common.{◌<◌, [], length, get_or, All, ap, sym, ◌∙◌, subst, arith}
use Rattle.dcc_flow.specs.Edges.{rows}
use Rattle.dcc_flow.proofs.RowLaws.{row_read, length_rows}
use Rattle.dcc_interval.specs.Noted.{Noted, noted_of}
use Rattle.dcc_interval.proofs.ReachLaws.{row_within}
use Rattle.dcc_interval.proofs.NotedLaws.{all_noted_count, followers_step, followers_end}
use Rattle.dcc_interval.proofs.noted.Noted.note_followers.Goals as goal

pub note_all-requires : goal.note_all-requires
note_all-requires c =
    let vs = c.args.next.now.items in
    let i = c.loop-node.node-index in
    let less : i < length c.args.nodes.now = omega arith in
    let node = get_or c.args.nodes.now i 0 in
    let row = c.as_slice.ensures.value ∙ row_read vs node c.index.result.now (c.requires.nodes i 0 less) c.index.ensures in
    let size = length_rows vs ∙ sym (c.loop-node.invariant.count ∙ c.requires.count) in
    subst (λ l. All (λ n. n < length c.loop-node.self.marks.items) l) (sym row)
    (subst (λ k. All (λ n. n < k) (get_or (rows vs) node [])) size (row_within (rows vs) c.requires.within node))

pub loop-node-preserved : goal.loop-node-preserved
loop-node-preserved c =
    let vs = c.args.next.now.items in
    let i = c.loop-node.node-index in
    let less : i < length c.args.nodes.now = omega arith in
    let node = get_or c.args.nodes.now i 0 in
    let row = c.as_slice.ensures.value ∙ row_read vs node c.index.result.now (c.requires.nodes i 0 less) c.index.ensures in
    let before = noted_of c.loop-node.self in
    let after = noted_of c.note_all.new.self in
    record {
      count = ap (λ (s : Noted). length s.marks) c.in_ok-note_all.ensures ∙ all_noted_count before c.as_slice.result.now ∙ c.loop-node.invariant.count;
      rest = followers_step (rows vs) c.args.nodes.now i less before after c.as_slice.result.now row c.in_ok-note_all.ensures ∙ c.loop-node.invariant.rest;
    }

pub returns : goal.returns
returns c = followers_end (rows c.args.next.now.items) c.args.nodes.now c.loop-node.node-index (omega arith) (noted_of c.loop-node.self) (noted_of c.args.self.now) c.loop-node.invariant.rest
