use Rattle.std.proofs.Common.{◌<◌, ◌≤◌, [], length, get_or, All, ap, sym, ◌∙◌, subst, arith}
use Rattle.std.proofs.lemmas.List.{drop_all}
use Rattle.std.proofs.lemmas.List.Elements.{All-get_or}
use Rattle.dcc_flow.specs.Edges.{rows, entries, ArePredecessors}
use Rattle.dcc_flow.specs.Sources.{entered, all_entered}
use Rattle.dcc_flow.proofs.RowLaws.{row_read, length_rows, all_step}
use Rattle.dcc_flow.proofs.SourceLaws.{length_entered, all_predecessors, few_entries}
use Rattle.dcc_flow.proofs.edges.sources.Goals as goal

pub enter-requires : goal.enter-requires
enter-requires c =
    let vs = c.args.next.now.items in
    let from = c.loop-from.from in
    let inside : from < length vs = omega arith in
    let row = c.as_slice.ensures.value ∙ row_read vs from c.index.result.now inside c.index.ensures in
    let below = All-get_or (λ r. All (λ place. place < length (rows vs)) r) (rows vs) from [] (omega (arith, length_rows vs)) c.requires in
    subst (λ n. All (λ place. place < n) c.as_slice.result.now) (length_rows vs ∙ sym c.loop-from.invariant.count)
    (subst (λ l. All (λ place. place < length (rows vs)) l) (sym row) below)

pub loop-from-preserved : goal.loop-from-preserved
loop-from-preserved c =
    let vs = c.args.next.now.items in
    let from = c.loop-from.from in
    let inside : from < length vs = omega arith in
    let row = c.as_slice.ensures.value ∙ row_read vs from c.index.result.now inside c.index.ensures in
    let is = c.in_ok-enter.ensures ∙ ap (entered (rows c.loop-from.sources.items) from) row in
    let size = ap length is ∙ length_entered (rows c.loop-from.sources.items) from (get_or (rows vs) from []) in
    record {
      count = omega (arith, size, length_rows c.enter.new.sources.items, length_rows c.loop-from.sources.items, c.loop-from.invariant.count);
      rest = all_step (rows c.loop-from.sources.items) (rows c.enter.new.sources.items) (rows vs) from (omega (arith, length_rows vs)) is ∙ c.loop-from.invariant.rest;
    }

pub returns-clause-sources : goal.returns-clause-sources
returns-clause-sources c =
    let next = rows c.args.next.now.items in
    let past : length next ≤ c.loop-from.from = omega (arith, length_rows c.args.next.now.items) in
    let is = sym (ap (all_entered (rows c.loop-from.sources.items) c.loop-from.from) (drop_all c.loop-from.from next past)) ∙ c.loop-from.invariant.rest in
    subst (ArePredecessors next) (sym is) (all_predecessors next)

pub returns-clause-few : goal.returns-clause-few
returns-clause-few c =
    let next = rows c.args.next.now.items in
    let past : length next ≤ c.loop-from.from = omega (arith, length_rows c.args.next.now.items) in
    let is = sym (ap (all_entered (rows c.loop-from.sources.items) c.loop-from.from) (drop_all c.loop-from.from next past)) ∙ c.loop-from.invariant.rest in
    subst (λ l. entries l ≤ entries next) (sym is) (few_entries next c.requires)
