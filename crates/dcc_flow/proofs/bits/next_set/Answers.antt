use Rattle.std.proofs.Common.{◌≡◌, ◌+◌, ◌*◌, ◌<◌, ◌≤◌, ◌/◌, ◌^◌, inl, inr, length, get_or, arith}
use Rattle.std.proofs.lemmas.Bool.{cases_lt}
use Rattle.dcc_flow.proofs.WordLaws.{rest, rest_none, rest_within, rest_some, past_words}
use Rattle.dcc_flow.proofs.bits.next_set.Goals as goal

pub loop-k-preserved : goal.loop-k-preserved
loop-k-preserved c =
    let k = c.loop-k.k in
    let s = c.loop-k.skipped in
    let inv = c.loop-k.invariant in
    record {
      small = omega arith;
      after = omega (arith, inv.after, inv.small);
      none = λ n low high. elim (cases_lt n (64 * k + s)) [
        | inl less ↦ inv.none n low less
        | inr past ↦ rest_none c.args.words.now k s inv.small c.if-rest-ne0.false n past (omega (arith, high))
      ];
    }

pub overflow_add-result-then-rest-ne0 : goal.overflow_add-result-then-rest-ne0
overflow_add-result-then-rest-ne0 c =
    let words = c.args.words.now in
    let k = c.loop-k.k in
    let s = c.loop-k.skipped in
    let word : get_or words k 0 < 2 ^ 64 = (let fits = c.type_inv.words k in omega (arith, fits)) in
    let some : 0 < rest words k s c.loop-k.invariant.small = omega (arith, c.if-rest-ne0.true) in
    let within = rest_within words k s c.loop-k.invariant.small word some in
    omega (arith, within, c.loop-k-test.true, c.requires.count, c.ranges.len.fits)

pub returns-then-rest-ne0 : goal.returns-then-rest-ne0
returns-then-rest-ne0 c =
    let words = c.args.words.now in
    let k = c.loop-k.k in
    let s = c.loop-k.skipped in
    let inv = c.loop-k.invariant in
    let word : get_or words k 0 < 2 ^ 64 = (let fits = c.type_inv.words k in omega (arith, fits)) in
    let some : 0 < rest words k s inv.small = omega (arith, c.if-rest-ne0.true) in
    rest_some words k s inv.small word some c.args.from inv.after inv.none

pub returns-then-len-from : goal.returns-then-len-from
returns-then-len-from c = λ n low. c.requires.clear n (omega (arith, low, c.if-len-from.true))

pub returns : goal.returns
returns c = λ n low. elim (cases_lt n (64 * c.loop-k.k + c.loop-k.skipped)) [
  | inl less ↦ c.loop-k.invariant.none n low less
  | inr past ↦ past_words c.args.words.now n (omega (arith, past, c.loop-k-test.false))
]
