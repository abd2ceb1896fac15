use Rattle.std.proofs.Common.{Some, sym, ap, ◌∙◌, arith}
use Rattle.std.specs.Prelude.{if◌then◌else◌}
use Rattle.dcc_c.specs.Token.{same_bytes}
use Rattle.dcc_prepare.proofs.LabelLaws.{words-set, numbers-set, points-set, label_named-within}
use Rattle.dcc_value.specs.Places.{first_place}
use Rattle.dcc_prepare.proofs.code.Code.place_label.Goals as goal

pub invariant_of-self : goal.invariant_of-self
invariant_of-self c = record {
  first = λ word.
      c.label.new.self.first word
      ∙ ap (λ ws. first_place ws word) (sym (words-set c.label.new.self.labels.items c.in_ok-number.number c.index_mut.result.now c.args.point c.index_mut.ensures.value));
}

pub returns-then-number-len-clause-numbers : goal.returns-then-number-len-clause-numbers
returns-then-number-len-clause-numbers c word number is =
    numbers-set c.label.new.self.labels.items c.in_ok-number.number c.index_mut.result.now c.args.point word
    (label_named-within c.label.new.self.labels.items c.args.name.now c.in_ok-number.number c.in_ok-number.ensures.number) c.index_mut.ensures.value
    ∙ c.in_ok-number.ensures.numbers word number is

pub returns-then-number-len-clause-points : goal.returns-then-number-len-clause-points
returns-then-number-len-clause-points c word =
    points-set c.label.new.self.labels.items c.in_ok-number.number c.index_mut.result.now c.args.point c.args.name.now word
    c.in_ok-number.ensures.number c.index_mut.ensures.value
    ∙ ap (λ o. if same_bytes c.args.name.now word then Some c.args.point else o) (c.in_ok-number.ensures.points word)

pub returns-else-number-len-clause-points : goal.returns-else-number-len-clause-points
returns-else-number-len-clause-points c word =
    let within = label_named-within c.label.new.self.labels.items c.args.name.now c.in_ok-number.number c.in_ok-number.ensures.number in
    absurd (omega arith)
