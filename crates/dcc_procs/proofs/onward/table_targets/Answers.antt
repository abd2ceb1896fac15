use Rattle.std.proofs.Common.{◌≡◌, ◌+◌, ◌*◌, [], ◌∷◌, ◌++◌, sym, ap, ◌∙◌, arith}
use Rattle.std.proofs.lemmas.List.FromFn.{map-range_with_len_more}
use Rattle.dcc_prog.specs.Trail.{word_in_segment}
use Rattle.dcc_procs.proofs.onward.table_targets.Goals as goal

pub loop-k-preserved : goal.loop-k-preserved
loop-k-preserved c =
    let image = c.args.image.now in
    let k = c.loop-k.k in
    let word = word_in_segment image (c.args.offset + 2 * k) in
    let pushed : c.word_in_segment.result ≡ word =
    c.word_in_segment.ensures ∙ ap (λ n. word_in_segment image (n + 2 * k)) c.from.ensures in
    c.in_ok-push.ensures.ok
    ∙ ap (λ w. c.loop-k.targets.items ++ w ∷ []) pushed
    ∙ ap (λ l. l ++ word ∷ []) c.loop-k.invariant
    ∙ sym (map-range_with_len_more (λ k. word_in_segment image (c.args.offset + 2 * k)) 0 k k (omega arith))
