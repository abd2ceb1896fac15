use Rattle.std.proofs.Common.{map, refl, sym, ap, ◌∙◌, subst}
use Rattle.std.specs.Prelude.{All}
use Rattle.dcc_ir.specs.Views.{graph_of, program_of}
use Rattle.dcc_ir.specs.WellFormed.{IsGraph}
use Rattle.dcc_c.specs.Views.{function_of}
use Rattle.dcc_globals.specs.Globals.{globals_of}
use Rattle.dcc_globals.specs.Pieces.{operands_of}
use Rattle.dcc_pipe.specs.GlobalData.{globals_in}
use Rattle.dcc_pipe.specs.WrittenFunctions.{AreFunctionsBy}
use Rattle.dcc_pipe.proofs.UnitLaws.{whole-from}
use Rattle.dcc_pipe.proofs.unit.unit_of.Goals as goal

pub all_functions-requires : goal.all_functions-requires
all_functions-requires c =
    subst (λ graphs. All IsGraph (map graph_of graphs)) (sym c.as_slice-2.ensures.value) c.requires.graphs

pub returns-clause-text : goal.returns-clause-text
returns-clause-text c =
    let p = program_of c.args.p.now in
    let operands = operands_of c.args.procs.now in
    whole-from (globals_in c.args.procs.now p) p _ c.requires refl refl refl
    (c.in_ok-globals.ensures
    ∙ ap (λ bytes. globals_of (record { bytes = bytes; lo = p.lo; hi = p.hi; operands = operands })) c.as_slice.ensures.value)
    (subst (λ graphs. AreFunctionsBy (map graph_of graphs) (map function_of c.in_ok-all_functions.field-0.items))
    c.as_slice-2.ensures.value c.in_ok-all_functions.ensures.functions)
