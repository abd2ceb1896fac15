use Rattle.std.proofs.Common.{◌≡◌, true, false, refl, sym, ap, ◌∙◌}
use Rattle.dcc_control.specs.Told.{only_breaks}
use Rattle.dcc_control.specs.Views.{plan_of}
use Rattle.dcc_control.proofs.ToldTests.{some-test, leaving-when}
use Rattle.dcc_control.proofs.told.as_leaving.Goals as goal

pub returns-then-only_breaks : goal.returns-then-only_breaks
returns-then-only_breaks c =
    let s = c.in-If in
    let breaks : only_breaks (plan_of s.other.items) ≡ true = ap (λ l. only_breaks (plan_of l)) (sym c.deref.ensures.value) ∙ sym c.only_breaks.ensures ∙ c.if-only_breaks.true in
    ap (λ l. some-test true s.block (plan_of l)) c.deref-then-only_breaks.ensures.value
    ∙ sym (leaving-when true (only_breaks (plan_of s.one.items)) c.args.item.now s.block s.one s.other s.is breaks refl)

pub returns-then-only_breaks-2 : goal.returns-then-only_breaks-2
returns-then-only_breaks-2 c =
    let s = c.in-If in
    let goes : only_breaks (plan_of s.other.items) ≡ false = ap (λ l. only_breaks (plan_of l)) (sym c.deref.ensures.value) ∙ sym c.only_breaks.ensures ∙ c.if-only_breaks.false in
    let breaks : only_breaks (plan_of s.one.items) ≡ true =
    ap (λ l. only_breaks (plan_of l)) (sym c.deref-else-only_breaks.ensures.value) ∙ sym c.only_breaks-else-only_breaks.ensures ∙ c.if-only_breaks-2.true in
    ap (λ l. some-test false s.block (plan_of l)) c.deref-then-only_breaks-2.ensures.value
    ∙ sym (leaving-when false true c.args.item.now s.block s.one s.other s.is goes breaks)

pub returns-else-only_breaks-2 : goal.returns-else-only_breaks-2
returns-else-only_breaks-2 c =
    let s = c.in-If in
    let goes : only_breaks (plan_of s.other.items) ≡ false = ap (λ l. only_breaks (plan_of l)) (sym c.deref.ensures.value) ∙ sym c.only_breaks.ensures ∙ c.if-only_breaks.false in
    let also : only_breaks (plan_of s.one.items) ≡ false =
    ap (λ l. only_breaks (plan_of l)) (sym c.deref-else-only_breaks.ensures.value) ∙ sym c.only_breaks-else-only_breaks.ensures ∙ c.if-only_breaks-2.false in
    sym (leaving-when false false c.args.item.now s.block s.one s.other s.is goes also)
