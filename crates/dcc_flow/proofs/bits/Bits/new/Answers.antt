use Rattle.std.proofs.Common.{◌≡◌, replicate, ap, sym, ◌∙◌, subst, arith}
use Rattle.dcc_flow.specs.Bits.{words_for}
use Rattle.dcc_flow.specs.Words.{bits_in, AreWords}
use Rattle.dcc_flow.proofs.WordLaws.{no_words, no_bits}
use Rattle.dcc_flow.proofs.bits.Bits.new.Goals as goal

pub invariant_of-result : goal.invariant_of-result
invariant_of-result c =
    let count : c.div_ceil.result ≡ words_for c.args.len = omega (arith, c.div_ceil.ensures) in
    let zeros : c.in_ok-words.words.items ≡ replicate (words_for c.args.len) 0 = c.in_ok-words.ensures.items_if_clones_equal (λ y same. same) ∙ ap (λ n. replicate n 0) count in
    subst (λ l. AreWords l c.args.len) (sym zeros) (no_words c.args.len)

pub returns : goal.returns
returns c =
    let count : c.div_ceil.result ≡ words_for c.args.len = omega (arith, c.div_ceil.ensures) in
    let zeros : c.in_ok-words.words.items ≡ replicate (words_for c.args.len) 0 = c.in_ok-words.ensures.items_if_clones_equal (λ y same. same) ∙ ap (λ n. replicate n 0) count in
    ap (λ l. bits_in l c.args.len) zeros ∙ no_bits (words_for c.args.len) c.args.len
