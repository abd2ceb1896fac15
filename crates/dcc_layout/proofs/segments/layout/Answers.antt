use Rattle.std.proofs.Common.{◌≡◌, Some, None, Option, refl, sym, ap, ◌∙◌, subst}
use Rattle.std.specs.Prelude.{IfErr, IfSome, Ok, Err}
use Rattle.std.specs.Option.{ok_or}
use Rattle.dcc_prog.specs.declared.procedure.Layout.{Layout}
use Rattle.dcc_prog.specs.declared.refusal.ConstructKind.TheVariants.{NoLayout}
use Rattle.dcc_prog.specs.declared.refusal.Refusal.TheVariants.{Construct}
use Rattle.dcc_prog.specs.Layout.{HasLayout}
use Rattle.dcc_prog.proofs.LayoutLaws.{layout-once}
use Rattle.dcc_prog.proofs.ConstructLaws.{lacks-layout}
use Rattle.dcc_layout.specs.Refusal.{IsRefusal}
use Rattle.dcc_layout.proofs.segments.layout.Goals as goal

pub returns-clause-refused : goal.returns-clause-refused
returns-clause-refused c =
    let image = c.args.image.now in
    let cpu = c.args.cpu in
    let P : Option Layout → Type 0 = λ o. (o ≡ None → (layout : Layout) → layout.cpu ≡ cpu → ¬ HasLayout image layout) → IfErr (ok_or o (Construct NoLayout image.ip)) (IsRefusal cpu image) in
    let both : (o : Option Layout) → P o = λ o. elim o as P [ Some layout ↦ λ none. tt | None ↦ λ none. (refl, record { entry = refl; none = none refl }) ] in
    subst (λ r. IfErr r (IsRefusal cpu image)) (sym c.ok_or.ensures.value) (both c.layout_after.result c.layout_after.ensures.none)

pub returns-clause-lays_out : goal.returns-clause-lays_out
returns-clause-lays_out c layout runs_on holds =
    let image = c.args.image.now in
    let cpu = c.args.cpu in
    let P : Option Layout → Type 0 = λ o. (o ≡ None → (l : Layout) → l.cpu ≡ cpu → ¬ HasLayout image l) → IfSome o (λ l. l.cpu ≡ cpu) → IfSome o (HasLayout image) → ok_or o (Construct NoLayout image.ip) ≡ Ok layout in
    let both : (o : Option Layout) → P o = λ o. elim o as P [
      | Some found ↦ λ none on some. ap Ok (layout-once image layout found (on ∙ sym runs_on) holds some)
      | None ↦ λ none on some. absurd (none refl layout runs_on holds)
    ] in
    c.ok_or.ensures.value ∙ both c.layout_after.result c.layout_after.ensures.none c.layout_after.ensures.processor c.layout_after.ensures.layout

pub returns-clause-refuses : goal.returns-clause-refuses
returns-clause-refuses c at construct =
    let image = c.args.image.now in
    let cpu = c.args.cpu in
    let lacks = lacks-layout cpu image at construct in
    let P : Option Layout → Type 0 = λ o. IfSome o (λ l. l.cpu ≡ cpu) → IfSome o (HasLayout image) → ok_or o (Construct NoLayout image.ip) ≡ Err (Construct NoLayout at) in
    let both : (o : Option Layout) → P o = λ o. elim o as P [ Some found ↦ λ on some. absurd (lacks.none found on some) | None ↦ λ on some. ap (λ n. Err (Construct NoLayout n)) (sym lacks.entry) ] in
    c.ok_or.ensures.value ∙ both c.layout_after.result c.layout_after.ensures.processor c.layout_after.ensures.layout
