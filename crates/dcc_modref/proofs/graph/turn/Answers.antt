use Rattle.std.proofs.Common.{◌≡◌, ◌<◌, length, map, ap, ap₂, sym, ◌∙◌, subst, arith}
use Rattle.std.specs.Prelude.{All, option_map}
use Rattle.std.proofs.lemmas.List.{length-map}
use Rattle.dcc_ir.specs.Flow.{targets}
use Rattle.dcc_ir.specs.Live.{block_in}
use Rattle.dcc_ir.specs.Tree.{Block}
use Rattle.dcc_ir.specs.Views.{block_of, graph_of, stmt_of, exit_of}
use Rattle.dcc_modref.specs.States.{state_of, told_in, after_all}
use Rattle.dcc_modref.specs.Tables.{states_of, AreFlowing}
use Rattle.dcc_modref.specs.Flowing.{all_flowed, any_new, HasTurned}
use Rattle.dcc_modref.proofs.CodeLaws.{state_read, targets_below, block_here, turn_reached}
use Rattle.dcc_modref.proofs.graph.turn.Goals as goal

pub flow_on-requires : goal.flow_on-requires
flow_on-requires c =
    let graph = graph_of c.args.subject.now.graph.now in
    let blocks = c.args.subject.now.graph.now.blocks.items in
    let block = c.index-block.result.now in
    let here = block_here blocks c.args.at block c.requires.at c.index-block.ensures in
    let inside : c.args.at < length graph.blocks = omega (arith, c.requires.at, length-map blocks block_of) in
    let size : length graph.blocks ≡ length c.args.begins.now.items = omega (arith, c.requires.going.count, length-map c.args.begins.now.items (option_map state_of)) in
    subst (λ n. All (λ k. k < n) (targets (exit_of block.end))) size
    (subst (λ (b : Block). All (λ k. k < length graph.blocks) (targets b.exit)) (sym here) (targets_below graph c.requires.graph c.args.at inside))

-- what the turn keeps and tells
turns : (c : goal.After-drop-state-in-Some-2) →
    AreFlowing (told_in c.args.subject.now.changed.now) (graph_of c.args.subject.now.graph.now) c.args.subject.now.location (states_of c.flow_on.new.begins.items)
    × HasTurned (told_in c.args.subject.now.changed.now) (graph_of c.args.subject.now.graph.now) c.args.subject.now.location (states_of c.args.begins.now.items) (states_of c.flow_on.new.begins.items)
    c.in_ok-new-in-Some.new (λ k. k ≡ c.args.at)
turns c =
    let changed = told_in c.args.subject.now.changed.now in
    let graph = graph_of c.args.subject.now.graph.now in
    let location = c.args.subject.now.location in
    let blocks = c.args.subject.now.graph.now.blocks.items in
    let items = c.args.begins.now.items in
    let state = state_of c.in-Some.state in
    let block = c.index-block.result.now in
    let here = block_here blocks c.args.at block c.requires.at c.index-block.ensures in
    let inside : c.args.at < length graph.blocks = omega (arith, c.requires.at, length-map blocks block_of) in
    let below : c.args.at < length items = omega (arith, inside, c.requires.going.count, length-map items (option_map state_of)) in
    let stmts = ap (map stmt_of) c.as_slice.ensures.value ∙ ap (λ (b : Block). b.stmts) here in
    let read = state_read items c.args.at c.index.result.now below c.index.ensures in
    let after = sym (ap (option_map state_of) c.in-Some.is) ∙ c.in_ok-state.ensures ∙ ap₂ (λ l x. option_map (after_all changed graph.pushed location l) x) stmts read in
    let turned = turn_reached changed graph location c.requires.graph (states_of items) c.args.at state inside c.requires.going after in
    let states = sym (c.in_ok-new-in-Some.ensures.begins ∙ ap (λ (b : Block). all_flowed (states_of items) state (targets b.exit)) here) in
    let news = sym (c.in_ok-new-in-Some.ensures.new ∙ ap (λ (b : Block). any_new (states_of items) state (targets b.exit)) here) in (
      subst (AreFlowing changed graph location) states turned.0,
      subst (λ s. HasTurned changed graph location (states_of items) s c.in_ok-new-in-Some.new (λ k. k ≡ c.args.at)) states
          (subst (λ n. HasTurned changed graph location (states_of items) (all_flowed (states_of items) state (targets (block_in graph c.args.at).exit)) n (λ k. k ≡ c.args.at)) news turned.1),
    )

pub returns-in_ok-new-in-Some-clause-going : goal.returns-in_ok-new-in-Some-clause-going
returns-in_ok-new-in-Some-clause-going c = (turns c).0

pub returns-in_ok-new-in-Some-clause-turned : goal.returns-in_ok-new-in-Some-clause-turned
returns-in_ok-new-in-Some-clause-turned c = (turns c).1
