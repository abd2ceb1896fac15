use Rattle.std.proofs.Common.{◌≡◌, ◌≢◌, ◌+◌, MatchBool, length, ap, sym, ◌∙◌, subst}
use Rattle.std.specs.Vec.{with_items}
use Rattle.std.proofs.lemmas.List.{with_items_is}
use Rattle.dcc_flow.specs.Bits.{words_for}
use Rattle.dcc_flow.specs.Words.{flowed_words}
use Rattle.dcc_flow.proofs.WordLaws.{length_bits, length_flowed, Keep, same_count, Flowing, flowing}
use Rattle.dcc_flow.proofs.bits.Bits.flow.Given.{Over}
use Rattle.dcc_flow.proofs.bits.Bits.flow.Goals.{After-flow_words-arg-1, After-self-1}
use Rattle.dcc_flow.proofs.bits.Bits.flow.Goals as goal

own : (g : Over) (c : After-flow_words-arg-1 g) → Keep c.self.inside.words.items c.self.inside.len c.args.self.now
own g c = record { are = c.self.invariant; view = c.self.view_is }

uses : (g : Over) (c : After-flow_words-arg-1 g) → Keep c.used.inside.words.items c.used.inside.len c.args.used.now
uses g c = record { are = c.used.invariant; view = c.used.view_is }

outs : (g : Over) (c : After-flow_words-arg-1 g) → Keep c.out.inside.words.items c.out.inside.len c.args.out.now
outs g c = record { are = c.out.invariant; view = c.out.view_is }

writes : (g : Over) (c : After-flow_words-arg-1 g)
    → Keep c.written.inside.words.items c.written.inside.len c.args.written.now
writes g c = record { are = c.written.invariant; view = c.written.view_is }

pub flow_words-requires-clause-used : goal.flow_words-requires-clause-used
flow_words-requires-clause-used g c =
    ap length c.as_slice.ensures.value ∙ same_count (own g c) (uses g c) c.requires.used
    ∙ sym (ap length c.as_mut_slice.ensures.value)

pub flow_words-requires-clause-out : goal.flow_words-requires-clause-out
flow_words-requires-clause-out g c =
    ap length c.as_slice-2.ensures.value ∙ same_count (own g c) (outs g c) c.requires.out
    ∙ sym (ap length c.as_mut_slice.ensures.value)

pub flow_words-requires-clause-written : goal.flow_words-requires-clause-written
flow_words-requires-clause-written g c =
    ap length c.as_slice-3.ensures.value ∙ same_count (own g c) (writes g c) c.requires.written
    ∙ sym (ap length c.as_mut_slice.ensures.value)

-- the words that were written stand in the vector
written : (g : Over) (c : After-self-1 g) → (with_items c.self.inside.words c.flow_words.new.words).items ≡ c.flow_words.new.words
written g c =
    with_items_is c.self.inside.words c.flow_words.new.words
    (ap length c.flow_words.ensures.words
    ∙ length_flowed c.as_mut_slice.result.now c.as_slice.result.now c.as_slice-2.result.now c.as_slice-3.result.now
    ∙ c.as_mut_slice.ensures.len)

facts : (g : Over) (c : After-self-1 g)
    → Flowing c.self.inside.words.items (with_items c.self.inside.words c.flow_words.new.words).items c.self.inside.len
    c.args.self.now c.args.used.now c.args.out.now c.args.written.now
facts g c =
    let words = c.self.inside.words.items in
    let used = c.used.inside.words.items in
    let out = c.out.inside.words.items in
    let at = (goal.at.returns-clause-bits g c).After-flow_words-arg-1 in
    flowing (own g at) (uses g at) (outs g at) (writes g at) c.requires.used c.requires.out c.requires.written
    (with_items c.self.inside.words c.flow_words.new.words).items
    (written g c ∙ c.flow_words.ensures.words
    ∙ ap (λ x. flowed_words x c.as_slice.result.now c.as_slice-2.result.now c.as_slice-3.result.now) c.as_mut_slice.ensures.value
    ∙ ap (λ x. flowed_words words x c.as_slice-2.result.now c.as_slice-3.result.now) c.as_slice.ensures.value
    ∙ ap (λ x. flowed_words words used x c.as_slice-3.result.now) c.as_slice-2.ensures.value
    ∙ ap (flowed_words words used out) c.as_slice-3.ensures.value)

pub invariant_of-self : goal.invariant_of-self
invariant_of-self g c = (facts g c).are

pub returns-clause-bits : goal.returns-clause-bits
returns-clause-bits g c = (facts g c).places

pub returns-clause-changed : goal.returns-clause-changed
returns-clause-changed g c =
    let after = (with_items c.self.inside.words c.flow_words.new.words).items in
    let told : MatchBool c.flow_words.result (after ≢ c.self.inside.words.items) (after ≡ c.self.inside.words.items) =
    subst (λ l. MatchBool c.flow_words.result (after ≢ l) (after ≡ l)) c.as_mut_slice.ensures.value
    (subst (λ l. MatchBool c.flow_words.result (l ≢ c.as_mut_slice.result.now) (l ≡ c.as_mut_slice.result.now))
    (sym (written g c)) c.flow_words.ensures.changed) in
    (facts g c).differs c.flow_words.result told

pub returns-clause-steps : goal.returns-clause-steps
returns-clause-steps g c =
    let whole = length_bits c.self.inside.words.items c.self.inside.len in
    let count = ap length c.as_mut_slice.ensures.value ∙ c.self.invariant.count
    ∙ ap words_for (sym whole ∙ ap length c.self.view_is) in
    c.flow_words.ensures.steps ∙ ap (λ n. c.args.steps.now + n) count
