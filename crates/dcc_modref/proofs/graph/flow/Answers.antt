use Rattle.std.proofs.Common.{◌+◌, ◌<◌, ◌||◌, drop, length, get_or, slice_set, ap, sym, ◌∙◌, arith}
use Rattle.std.specs.Prelude.{None}
use Rattle.std.proofs.lemmas.List.{length-set, drop_more}
use Rattle.dcc_modref.specs.States.{state_of}
use Rattle.dcc_modref.specs.Tables.{states_of}
use Rattle.dcc_modref.specs.Flowing.{is_new, flowed, all_flowed, any_new}
use Rattle.dcc_modref.proofs.CodeLaws.{state_read, put_flowed, or_on}
use Rattle.dcc_modref.proofs.graph.flow.Goals as goal

pub loop-block-preserved : goal.loop-block-preserved
loop-block-preserved c =
    let items = c.loop-block.begins.items in
    let i = c.loop-block.block-index in
    let blocks = c.args.blocks.now in
    let b = get_or blocks i 0 in
    let s = state_of c.args.state.now in
    let less : i < length blocks = omega (arith, c.loop-block-test.true, c.loop-block.auto.block-index-end) in
    let below = c.requires i 0 less in
    let len = c.loop-block.invariant.len in
    let inside : b < length items = omega (arith, below, len) in
    let old = c.index_mut.result.now in
    let put = put_flowed items b old c.meet.new.begin s inside c.index_mut.ensures.value c.in_ok-new.ensures.begin in
    let read = state_read items b old inside c.index_mut.ensures.value in
    let step = drop_more blocks i 0 less in
    let rest = drop (i + 1) blocks in
    record {
      len = length-set items b c.meet.new.begin ∙ len;
      begins = ap (λ z. all_flowed z s rest) put ∙ ap (all_flowed (states_of items) s) (sym step) ∙ c.loop-block.invariant.begins;
      news =
          ap (λ z. (c.loop-block.new || z) || any_new (states_of (slice_set items b c.meet.new.begin)) s rest) (c.in_ok-new.ensures.new ∙ ap (λ x. is_new x s) read)
          ∙ ap (λ z. (c.loop-block.new || is_new (get_or (states_of items) b None) s) || any_new z s rest) put
          ∙ or_on c.loop-block.new (is_new (get_or (states_of items) b None) s) (any_new (flowed (states_of items) b s) s rest)
          ∙ ap (λ l. c.loop-block.new || any_new (states_of items) s l) (sym step) ∙ c.loop-block.invariant.news;
    }
