use Rattle.std.proofs.Common.{sym, ◌∙◌, arith}
use Rattle.dcc_num.specs.declared.Reg.TheVariants.{Ax}
use Rattle.dcc_num.specs.declared.Half.TheVariants.{Low}
use Rattle.dcc_ir.specs.declared.syntax.Loc.TheVariants.{Half}
use Rattle.dcc_live.proofs.RowLaws.{selected_read, selected_none}
use Rattle.dcc_live.proofs.places.selected.Goals as goal

pub loop-place-preserved : goal.loop-place-preserved
loop-place-preserved c =
    selected_read c.as_slice-list.result.now c.args.places.now c.args.bits.now _ c.loop-place.from c.in-Some.place c.loop-place.locations.items c.push.new.self.items
    c.as_slice-list.ensures c.in_ok-push.ensures.items c.requires c.in-Some.ensures ∙ c.loop-place.invariant

pub loop-place-smaller : goal.loop-place-smaller
loop-place-smaller c = omega (arith, c.in-Some.ensures.within, c.in-Some.ensures.after)

pub returns : goal.returns
returns c =
    let xs = c.args.places.now in
    let bs = c.args.bits.now in
    sym (selected_none xs bs (Half Ax Low) c.loop-place.from c.loop-place.locations.items c.requires c.in_default.ensures) ∙ c.loop-place.invariant
