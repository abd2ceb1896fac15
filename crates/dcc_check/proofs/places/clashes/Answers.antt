use Rattle.std.proofs.Common.{map, sym, ap, ◌∙◌}
use Rattle.std.specs.Prelude.{not}
use Rattle.std.proofs.lemmas.List.{drop_all}
use Rattle.dcc_reader.specs.PartialViews.{variable_of}
use Rattle.dcc_check.proofs.PlaceLaws.{all_apart, all-earlier, clash-found, apart-passed, empty-passed}
use Rattle.dcc_check.proofs.places.clashes.Goals as goal
use Rattle.dcc_check.proofs.places.clashes.Goals.{else-takes_bytes-via-then-takes_bytes+else-not-stand_apart, else-takes_bytes-via-else-takes_bytes}

pub returns-then-not-stand_apart : goal.returns-then-not-stand_apart
returns-then-not-stand_apart c =
    let v = variable_of c.args.variable.now in
    sym (ap not (all-earlier v (map variable_of c.args.earlier.now) ∙ sym c.loop-other.invariant
    ∙ clash-found v c.args.earlier.now c.loop-other.other-index c.other-item.result c.loop-other-test.true c.other-item.is
    (sym c.takes_bytes.ensures ∙ c.if-takes_bytes.true) (sym c.stand_apart.ensures ∙ c.if-not-stand_apart.true)))

pub loop-other-preserved : goal.loop-other-preserved
loop-other-preserved c =
    let v = variable_of c.args.variable.now in
    elim c.else-takes_bytes.branch [
      | else-takes_bytes-via-then-takes_bytes+else-not-stand_apart w ↦
          apart-passed v c.args.earlier.now c.loop-other.other-index c.other-item.result c.loop-other-test.true c.other-item.is
          (sym w.stand_apart.ensures ∙ w.if-not-stand_apart.false) ∙ c.loop-other.invariant
      | else-takes_bytes-via-else-takes_bytes w ↦
          empty-passed v c.args.earlier.now c.loop-other.other-index c.other-item.result c.loop-other-test.true c.other-item.is
          (sym c.takes_bytes.ensures ∙ w.if-takes_bytes.false) ∙ c.loop-other.invariant
    ]

pub returns : goal.returns
returns c =
    let v = variable_of c.args.variable.now in
    sym (ap not (all-earlier v (map variable_of c.args.earlier.now) ∙ sym c.loop-other.invariant
    ∙ ap (λ l. all_apart v (map variable_of l)) (drop_all c.loop-other.other-index c.args.earlier.now c.loop-other-test.false)))
