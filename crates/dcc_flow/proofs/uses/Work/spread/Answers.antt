use Rattle.std.proofs.Common.{◌≡◌, ◌<◌, ◌+◌, ◌*◌, [], length, get_or, drop, All, ap, sym, ◌∙◌, subst, arith}
use Rattle.std.proofs.lemmas.List.{length-set, drop_more}
use Rattle.std.proofs.lemmas.List.Elements.{All-get_or, All-set}
use Rattle.std.proofs.Math.Nat.{suc-mul}
use Rattle.dcc_flow.specs.Bits.{words_for, flowed}
use Rattle.dcc_flow.specs.Work.{Work, work_of, spread}
use Rattle.dcc_flow.proofs.WorkLaws.{with_answer_is, length_flowed_bits}
use Rattle.dcc_flow.proofs.uses.Work.spread.Goals as goal

pub loop-source-preserved : goal.loop-source-preserved
loop-source-preserved g c =
    let used = c.args.flow.now.used.now in
    let out = c.args.flow.now.out.now in
    let written = c.args.flow.now.written.now in
    let tos = c.args.sources.now in
    let i = c.loop-source.source-index in
    let w : Work = work_of c.loop-source.self in
    let to = get_or tos i 0 in
    let bits = flowed (get_or w.answer to []) used out written in
    let inside : i < length tos = omega arith in
    let far : to < length c.args.self.now.answer.items = c.requires.sources i 0 inside in
    let within : to < length w.answer = omega (arith, far, c.loop-source.invariant.count) in
    let is = with_answer_is w to bits (omega (arith, within, c.loop-source.invariant.flags)) in
    let work = c.flow_to.ensures.work in
    let answer = ap (λ (x : Work). x.answer) work ∙ is.answer_is in
    let flags = ap (λ (x : Work). length x.queued) work ∙ is.flags in
    let size = ap length answer ∙ length-set w.answer to bits in
    let row = length_flowed_bits (get_or w.answer to []) used out written ∙ All-get_or (λ l. length l ≡ length used) w.answer to [] within c.loop-source.invariant.lists in
    let one : (i + 1) * words_for (length used) ≡ i * words_for (length used) + words_for (length used) =
    ap (λ k. k * words_for (length used)) (omega arith) ∙ suc-mul i (words_for (length used)) in
    record {
      rest = ap (λ x. spread used out written x (drop (i + 1) tos)) work ∙ sym (ap (spread used out written w) (drop_more tos i 0 inside)) ∙ c.loop-source.invariant.rest;
      lists = subst (λ l. All (λ b. length b ≡ length used) l) (sym answer) (All-set (λ b. length b ≡ length used) w.answer to bits row c.loop-source.invariant.lists);
      count = size ∙ c.loop-source.invariant.count;
      flags = flags ∙ c.loop-source.invariant.flags ∙ sym size;
      steps = omega (arith, one, c.flow_to.ensures.cost, c.loop-source.invariant.steps);
    }
