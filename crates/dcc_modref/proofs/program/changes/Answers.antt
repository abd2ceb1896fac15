use Rattle.std.proofs.Common.{◌<◌, get_or, ◌+◌, List, Bool, length, map, slice_get, refl, ap, sym, ◌∙◌, arith}
use Rattle.std.proofs.lemmas.List.{length-map, map_push, length_push}
use Rattle.std.specs.Global.{Vec}
use Rattle.dcc_ir.specs.declared.syntax.Loc.TheVariants.{Half}
use Rattle.dcc_num.specs.declared.Reg.TheVariants.{Ax}
use Rattle.dcc_num.specs.declared.Half.TheVariants.{Low}
use Rattle.std.proofs.lemmas.Option.{slice_get-get_or}
use Rattle.dcc_ir.specs.Passing.{passed}
use Rattle.dcc_ir.specs.Views.{program_of}
use Rattle.dcc_modref.proofs.ProgramLaws.{lists_more}
use Rattle.dcc_modref.proofs.program.changes.Goals as goal

pub loop-location-preserved : goal.loop-location-preserved
loop-location-preserved c =
    let p = program_of c.args.p.now in
    let f : Vec Bool → List Bool = λ v. v.items in
    let lists = map f c.loop-location.lists.items in
    let v = c.in_ok-changed_by.field-0 in
    let size = length-map c.loop-location.lists.items f in
    let less : c.loop-location.location-index < length passed = omega (arith, c.loop-location-test.true, c.loop-location.auto.location-index-end) in
    record {
      items = refl;
      count = ap length c.in_ok-push.ensures.items ∙ length_push c.loop-location.lists.items v ∙ ap (λ n. n + 1) c.loop-location.invariant.count;
      exact = λ place location changed at there.
          lists_more p lists v.items (get_or passed c.loop-location.location-index (Half Ax Low)) (ap (slice_get passed) (size ∙ c.loop-location.invariant.count) ∙ slice_get-get_or passed c.loop-location.location-index (Half Ax Low) less) c.in_ok-changed_by.ensures c.loop-location.invariant.exact place location changed at
          (sym (ap (λ l. slice_get l place) (ap (map f) c.in_ok-push.ensures.items ∙ map_push f c.loop-location.lists.items v)) ∙ there);
    }
