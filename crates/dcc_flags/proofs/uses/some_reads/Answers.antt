use Rattle.std.proofs.Common.{map, sym, ◌∙◌, rules, tests}
use Rattle.std.proofs.lemmas.Iterator.{YieldsList-from_slice}
use Rattle.std.proofs.lemmas.Iterator.Search.{any_from_yields_List}
use Rattle.std.specs.List.{list_any}
use Rattle.dcc_ir.specs.declared.syntax.Loc.TheVariants.{Flag}
use Rattle.dcc_ir.specs.Location.{same_location}
use Rattle.dcc_ir.specs.Views.{expr_of}
use Rattle.dcc_ir.specs.Use.{reads_of}
use Rattle.dcc_flags.proofs.TableLaws.{any_map, any_flat_map}
use Rattle.dcc_flags.proofs.uses.some_reads.Goals as goal

pub returns : goal.returns
returns c =
    let test = same_location (Flag c.args.f) in
    let es = c.args.es.now in
    any_from_yields_List (λ e. list_any test (reads_of (expr_of e))) _ _ c.any.result c.any.ensures.ran
    (YieldsList-from_slice es cc) (λ x b q k. search (rules, tests))
    ∙ sym (any_flat_map test reads_of (map expr_of es) ∙ any_map (λ e. list_any test (reads_of e)) expr_of es)
