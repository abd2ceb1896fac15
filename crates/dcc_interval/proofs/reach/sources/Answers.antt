use Rattle.std.proofs.Common.{◌<◌, ◌≤◌, [], length, get_or, drop, ◌+◌, All, ap, sym, ◌∙◌, subst, arith}
use Rattle.std.proofs.lemmas.List.{drop_all, drop_more}
use Rattle.dcc_flow.specs.Edges.{rows}
use Rattle.dcc_flow.proofs.RowLaws.{row_read, length_rows}
use Rattle.dcc_interval.specs.Reaching.{entered, all_entered, AreSources}
use Rattle.dcc_interval.proofs.ReachLaws.{row_within, length_entered, sources_are}
use Rattle.dcc_interval.proofs.reach.sources.Goals as goal

pub enter-requires : goal.enter-requires
enter-requires c =
    let vs = c.args.next.now.items in
    let i = c.loop-node.node-index in
    let node = get_or c.args.reached.now i 0 in
    let less : i < length c.args.reached.now = omega arith in
    let row = c.as_slice.ensures.value ∙ row_read vs node c.index.result.now (c.requires.reached i 0 less) c.index.ensures in
    subst (λ l. All (λ to. to < length c.loop-node.sources.items) l) (sym row)
    (subst (λ n. All (λ to. to < n) (get_or (rows vs) node [])) (length_rows vs ∙ sym c.loop-node.invariant.count) (row_within (rows vs) c.requires.within node))

pub loop-node-preserved : goal.loop-node-preserved
loop-node-preserved c =
    let vs = c.args.next.now.items in
    let i = c.loop-node.node-index in
    let node = get_or c.args.reached.now i 0 in
    let less : i < length c.args.reached.now = omega arith in
    let old = rows c.loop-node.sources.items in
    let row = c.as_slice.ensures.value ∙ row_read vs node c.index.result.now (c.requires.reached i 0 less) c.index.ensures in
    let is = c.in_ok-enter.ensures ∙ ap (entered old node) row in
    record {
      count = omega (arith, ap length is ∙ length_entered old node (get_or (rows vs) node []), length_rows c.enter.new.sources.items, length_rows c.loop-node.sources.items, c.loop-node.invariant.count);
      rest = ap (λ l. all_entered l (rows vs) (drop (i + 1) c.args.reached.now)) is
          ∙ sym (ap (all_entered old (rows vs)) (drop_more c.args.reached.now i 0 less)) ∙ c.loop-node.invariant.rest;
    }

pub returns : goal.returns
returns c =
    let next = rows c.args.next.now.items in
    let listed = c.args.reached.now in
    let past : length listed ≤ c.loop-node.node-index = omega arith in
    let is = sym (ap (all_entered (rows c.loop-node.sources.items) next) (drop_all c.loop-node.node-index listed past)) ∙ c.loop-node.invariant.rest in
    subst (AreSources next listed) (sym is) (sources_are next listed c.requires.within)
