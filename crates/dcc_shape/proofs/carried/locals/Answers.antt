use Rattle.std.proofs.Common.{◌≡◌, ◌<◌, List, ℕ, length, get_or, sym, ap, ◌∙◌, arith}
use Rattle.std.specs.BTreeSet.{BTreeSet}
use denote.Ref.{Bor}
use Rattle.std.specs.List.{list_any}
use Rattle.std.proofs.lemmas.List.{take_all}
use Rattle.dcc_shape.specs.Carrying.{holds, is_such}
use Rattle.dcc_shape.proofs.CarryLaws.{set-inserted, such-added, such-left, locals-are}
use Rattle.dcc_shape.proofs.carried.locals.Goals as goal
use Rattle.dcc_shape.proofs.carried.locals.Goals.{then-is_of_class+in_ok-insert, else-is_of_class}

pub loop-variable-preserved : goal.loop-variable-preserved
loop-variable-preserved c = λ word.
    let vs = c.args.function.now.locals.items in
    let i = c.loop-variable.variable-index in
    let v = c.variable-item.result in
    let inside : i < length vs = omega (arith, c.loop-variable-test.true) in
    let had = c.loop-variable.invariant word in
    let at : v ≡ get_or vs i v = c.variable-item.is ∙ ap (λ xs. get_or xs i v) c.deref-variable-items.ensures.value in
    let named = λ (s : BTreeSet (Bor (List ℕ))). holds s word in
    elim c.if-is_of_class.branch [
      | then-is_of_class+in_ok-insert w ↦
          ap named w.names-is
          ∙ such-added c.args.auto word vs i v inside at (holds c.loop-variable.names word)
          (holds w.insert.new.self word) w.as_str.result.now w.as_str.ensures.value (sym c.is_of_class.ensures ∙ w.if-is_of_class.true) had
          (set-inserted c.loop-variable.names w.insert.new.self w.as_str.result w.in_ok-insert.ensures.updates word)
      | else-is_of_class w ↦
          ap named w.names-is
          ∙ such-left c.args.auto word vs i v inside at (holds c.loop-variable.names word)
          (sym c.is_of_class.ensures ∙ w.if-is_of_class.false) had
    ]

pub returns : goal.returns
returns c = λ word.
    let vs = c.args.function.now.locals.items in
    c.loop-variable.invariant word
    ∙ ap (list_any (is_such c.args.auto word)) (take_all c.loop-variable.variable-index vs (omega (arith, c.loop-variable-test.false)))
    ∙ locals-are c.args.auto c.args.function.now word
