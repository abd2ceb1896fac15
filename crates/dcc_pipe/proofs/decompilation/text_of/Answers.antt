use Rattle.std.proofs.Common.{refl, ap, ◌∙◌, subst}
use Rattle.std.proofs.lemmas.Result.{err_from_is_err_and}
use Rattle.dcc_stack.specs.Accepted.{IsProgramOfFile}
use Rattle.dcc_ir.specs.Views.{program_of}
use Rattle.dcc_c.specs.Tree.{Tree}
use Rattle.dcc_c.specs.Views.{tree_of}
use Rattle.dcc_rules.specs.Views.{numbers_of}
use Rattle.dcc_pipe.specs.WholeText.{whole_text, IsWholeText}
use Rattle.dcc_globals.specs.Pieces.{operands_of}
use Rattle.dcc_pipe.specs.Finished.{finished}
use Rattle.dcc_pipe.specs.GlobalData.{globals_in}
use Rattle.dcc_pipe.proofs.GlobalLaws.{globals-for, globals-are}
use Rattle.dcc_pipe.proofs.FinishedTexts.{finished-whole}
use Rattle.dcc_pipe.proofs.PipeLaws.{whole-is-writable, text-is}
use Rattle.dcc_pipe.proofs.PreparedFits.{left-simplified, prepared-fits}
use Rattle.dcc_pipe.proofs.StepPaces.{tidied-paced}
use Rattle.dcc_pipe.proofs.RefusedLaws.{fault-construct, summed-none}
use Rattle.dcc_pipe.proofs.TextableLaws.{lifted-has_the_form, left-follows}
use Rattle.dcc_pipe.proofs.ShapedLaws.{functions-as_many}
use Rattle.dcc_pipe.proofs.TypedLaws.{typed-tree}
use Rattle.dcc_pipe.proofs.decompilation.text_of.Goals as goal

pub prepared-requires : goal.prepared-requires
prepared-requires g c =
    lifted-has_the_form c.args.image.now c.args.program.now (program_of c.in_ok-lifted.lifted) c.requires.program
    c.in_ok-lifted.ensures.lifted.lifted

pub returns-in_err-prepared-clause-fault : goal.returns-in_err-prepared-clause-fault
returns-in_err-prepared-clause-fault g c =
    let p = err_from_is_err_and c.from_residual-in_err-prepared.result c.from_residual-in_err-prepared.ensures.1 in
    rw (p.1, p.2) (fault-construct c.args.image.now c.args.program.now (program_of c.in_ok-lifted.lifted)
    (record { loaded = c.requires.loaded; is_program = c.requires.program }) c.in_ok-lifted.ensures.lifted
    c.lifted_relations_are_the_machines.ensures c.faults_are_constructs.ensures _ c.in_err-prepared.ensures.fault)

pub tidied-requires : goal.tidied-requires
tidied-requires g c = c.in_ok-prepared.ensures.ready.simplified.textable.formed.graphs

pub returns-clause-text : goal.returns-clause-text
returns-clause-text g c =
    let image = c.args.image.now in
    let program = c.args.program.now in
    let p = program_of c.in_ok-lifted.lifted in
    let q = program_of c.in_ok-prepared.prepared in
    let r = program_of c.in_ok-tidied.tidied in
    let is = c.in_ok-prepared.ensures.ready in
    let tidy = c.in_ok-tidied.ensures in
    let ids = numbers_of c.args.rules.now in
    let gs = globals_in c.args.program.now.procs.items r in
    let whole = subst (λ procs. IsWholeText (globals_in procs r) r (tree_of c.in_ok-plain.plain)) c.as_slice.ensures.value
    c.in_ok-plain.ensures.text in
    let fits = prepared-fits p q is ids r tidy c.in_ok-plain.ensures.few in
    let file : IsProgramOfFile program.layout.cpu image program =
    record { loaded = c.requires.loaded; is_program = c.requires.program } in
    let pace = tidied-paced ids image program p q r file c.in_ok-lifted.ensures.lifted is tidy in
    let made = finished-whole gs r whole _ c.in_ok-finished.ensures in
    text-is image program c.requires.program whole.control gs (finished (whole_text whole.control gs r)) r fits whole.controls
    (globals-for c.globals_are_allowed.ensures c.globals_have_names.ensures c.globals_are_writable.ensures
    c.first_memories_are_equal.ensures r (operands_of program.procs.items) fits.textable.formed.image)
    (left-follows image program p r c.in_ok-lifted.ensures.lifted.lifted (left-simplified p q is ids r tidy) pace)
    made.kept c.in_ok-finished.field-0 made.is

pub returns-clause-none : goal.returns-clause-none
returns-clause-none g c =
    let is = c.in_ok-prepared.ensures.ready in
    summed-none c.args.image.now c.args.program.now (program_of c.in_ok-lifted.lifted)
    (record { loaded = c.requires.loaded; is_program = c.requires.program }) c.in_ok-lifted.ensures.lifted
    c.lifted_relations_are_the_machines.ensures c.summed_programs_have_none.ensures is.sums is.known

pub returns-clause-typed : goal.returns-clause-typed
returns-clause-typed g c =
    let p = program_of c.in_ok-lifted.lifted in
    let q = program_of c.in_ok-prepared.prepared in
    let r = program_of c.in_ok-tidied.tidied in
    let gs = globals_in c.args.program.now.procs.items r in
    let whole = subst (λ procs. IsWholeText (globals_in procs r) r (tree_of c.in_ok-plain.plain)) c.as_slice.ensures.value
    c.in_ok-plain.ensures.text in
    let made = finished-whole gs r whole _ c.in_ok-finished.ensures in
    (typed-tree (numbers_of c.args.rules.now) c.args.image.now c.args.program.now p q r
    (record { loaded = c.requires.loaded; is_program = c.requires.program }) c.in_ok-lifted.ensures.lifted
    c.in_ok-prepared.ensures.ready c.in_ok-tidied.ensures c.in_ok-plain.ensures.few whole.control gs
    (finished (whole_text whole.control gs r)) made.kept _ made.is).1

pub returns-clause-as_many : goal.returns-clause-as_many
returns-clause-as_many g c =
    let p = program_of c.in_ok-lifted.lifted in
    let q = program_of c.in_ok-prepared.prepared in
    let r = program_of c.in_ok-tidied.tidied in
    let gs = globals_in c.args.program.now.procs.items r in
    let whole = subst (λ procs. IsWholeText (globals_in procs r) r (tree_of c.in_ok-plain.plain)) c.as_slice.ensures.value
    c.in_ok-plain.ensures.text in
    let made = finished-whole gs r whole _ c.in_ok-finished.ensures in
    functions-as_many c.args.program.now.layout.cpu c.args.image.now c.args.program.now _ c.requires.program
    (typed-tree (numbers_of c.args.rules.now) c.args.image.now c.args.program.now p q r
    (record { loaded = c.requires.loaded; is_program = c.requires.program }) c.in_ok-lifted.ensures.lifted
    c.in_ok-prepared.ensures.ready c.in_ok-tidied.ensures c.in_ok-plain.ensures.few whole.control gs
    (finished (whole_text whole.control gs r)) made.kept _ made.is).0

pub returns-clause-made : goal.returns-clause-made
returns-clause-made g c =
    let p = program_of c.in_ok-lifted.lifted in
    let q = program_of c.in_ok-prepared.prepared in
    let r = program_of c.in_ok-tidied.tidied in
    let gs = globals_in c.args.program.now.procs.items r in
    let whole = subst (λ procs. IsWholeText (globals_in procs r) r (tree_of c.in_ok-plain.plain)) c.as_slice.ensures.value
    c.in_ok-plain.ensures.text in
    record {
      lifted = p;
      is_lifted = c.in_ok-lifted.ensures.lifted;
      ready = q;
      is_ready = c.in_ok-prepared.ensures.ready;
      tidy = r;
      ids = numbers_of c.args.rules.now;
      is_tidy = c.in_ok-tidied.ensures;
      plain = whole_text whole.control gs r;
      is_text = record { control = whole.control; controls = whole.controls; is = refl };
      is = (finished-whole gs r whole _ c.in_ok-finished.ensures).is;
    }

pub returns-clause-globals : goal.returns-clause-globals
returns-clause-globals g c =
    let p = program_of c.in_ok-lifted.lifted in
    let q = program_of c.in_ok-prepared.prepared in
    let r = program_of c.in_ok-tidied.tidied in
    let gs = globals_in c.args.program.now.procs.items r in
    let made = finished-whole gs r
    (subst (λ procs. IsWholeText (globals_in procs r) r (tree_of c.in_ok-plain.plain)) c.as_slice.ensures.value
    c.in_ok-plain.ensures.text) _ c.in_ok-finished.ensures in
    ap (λ (tree : Tree). tree.globals) made.is
    ∙ globals-are (numbers_of c.args.rules.now) c.args.image.now c.args.program.now p q r
    c.in_ok-lifted.ensures.lifted.lifted c.in_ok-prepared.ensures.ready c.in_ok-tidied.ensures

pub finished-requires : goal.finished-requires
finished-requires g c =
    let p = program_of c.in_ok-lifted.lifted in
    let q = program_of c.in_ok-prepared.prepared in
    let r = program_of c.in_ok-tidied.tidied in
    let gs = globals_in c.args.program.now.procs.items r in
    let whole = subst (λ procs. IsWholeText (globals_in procs r) r (tree_of c.in_ok-plain.plain)) c.as_slice.ensures.value
    c.in_ok-plain.ensures.text in
    let fits = prepared-fits p q c.in_ok-prepared.ensures.ready (numbers_of c.args.rules.now) r c.in_ok-tidied.ensures
    c.in_ok-plain.ensures.few in
    whole-is-writable gs r whole fits
    (globals-for c.globals_are_allowed.ensures c.globals_have_names.ensures c.globals_are_writable.ensures
    c.first_memories_are_equal.ensures r (operands_of c.args.program.now.procs.items) fits.textable.formed.image)

pub unit_of-requires : goal.unit_of-requires
unit_of-requires g c =
    (left-simplified (program_of c.in_ok-lifted.lifted) (program_of c.in_ok-prepared.prepared)
    c.in_ok-prepared.ensures.ready (numbers_of c.args.rules.now) (program_of c.in_ok-tidied.tidied) c.in_ok-tidied.ensures).textable.formed
