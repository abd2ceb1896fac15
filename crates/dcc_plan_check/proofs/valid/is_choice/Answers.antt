use Rattle.std.proofs.Common.{◌≡◌, Some, sym, ap, subst}
use Rattle.std.specs.Prelude.{slice_get}
use Rattle.dcc_ir.specs.Tree.{Switch}
use Rattle.dcc_ir.specs.Views.{expr_of, exit_of}
use Rattle.dcc_plan_check.proofs.BlockLaws.{exit-found}
use Rattle.dcc_plan_check.proofs.valid.is_choice.Goals as goal

pub returns-in-Switch : goal.returns-in-Switch
returns-in-Switch c answer =
    let value = expr_of c.in-Switch.value in
    let places = c.in-Switch.blocks.items in
    let found = exit-found c.args.graph.now c.deref.result.now c.args.b c.in-Some.block.now (Switch value places)
    c.deref.ensures.value c.in-Some.ensures.lookup.0 c.in-Some.ensures.lookup.1 (ap exit_of c.in-Switch.is) in (
      found.0,
      (
        value,
        places,
        found.1,
        λ n place at. c.leads_to_arms.ensures answer n place (subst (λ l. slice_get l n ≡ Some place) (sym c.deref-in-Switch.ensures.value) at),
      ),
    )
