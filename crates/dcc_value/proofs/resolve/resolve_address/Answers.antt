use Rattle.std.proofs.Common.{◌≡◌, ap, sym, subst, ◌∙◌}
use Rattle.dcc_c.specs.declared.syntax.CUn.TheVariants.{AddressOf}
use Rattle.dcc_c.specs.Tree.{Name, Unary}
use Rattle.dcc_c.specs.Views.{expr_of}
use Rattle.dcc_value.specs.declared.expression.Resolved.{AddressOf as AddressIn, Meaningless}
use Rattle.dcc_value.specs.Resolved.{names_of, Stands}
use Rattle.dcc_value.proofs.StandLaws.{address_stands, no_address_stands}
use Rattle.dcc_value.proofs.resolve.resolve_address.Goals as goal

pub returns-in-Some : goal.returns-in-Some
returns-in-Some c =
    let e : Name c.as_str.result.now ≡ expr_of c.args.a.now = ap Name c.as_str.ensures.value ∙ ap expr_of (sym c.in-Name.is) in
    subst (λ x. Stands (names_of c.args.names.now) (Unary AddressOf x) (AddressIn c.in-Some.slot)) e
    (address_stands _ c.as_str.result.now c.in-Some.slot (sym c.slot_named.ensures ∙ c.in-Some.is))

pub returns-in-None : goal.returns-in-None
returns-in-None c =
    let e : Name c.as_str.result.now ≡ expr_of c.args.a.now = ap Name c.as_str.ensures.value ∙ ap expr_of (sym c.in-Name.is) in
    subst (λ x. Stands (names_of c.args.names.now) (Unary AddressOf x) Meaningless) e
    (no_address_stands _ c.as_str.result.now (sym c.slot_named.ensures ∙ c.in-None.is))
