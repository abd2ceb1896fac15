use Rattle.std.proofs.Common.{List, ℕ, refl}
use Rattle.dcc_c.specs.Views.{tree_of}
use Rattle.dcc_top.specs.declared.reply.Reply.{Reply}
use Rattle.dcc_top.specs.declared.reply.Reply.TheVariants.{InputFault}
use Rattle.dcc_commands.specs.Words.{ExecuteText}
use Rattle.dcc_top.specs.Answer.{RunsUnit, ran_no_text, status_of}
use Rattle.dcc_top.specs.Status.{IsOneOf}
use Rattle.dcc_top.proofs.StatusLaws.{text_faults, no_unit-status, run_statuses, text_run-status, other-than}
use Rattle.dcc_top.proofs.ReplyLaws.{replies-run, replies-unfetched}
use Rattle.dcc_top.proofs.TextRunLaws.{reply-of_text, cut-of_text}
use Rattle.dcc_top.proofs.top.runc_reply.Given as given
use Rattle.dcc_top.proofs.top.runc_reply.Goals as goal

pub execute_unit-requires : goal.execute_unit-requires
execute_unit-requires g c = record { text = c.in-Ok.ensures.unit.file; stands = c.in-Ok.ensures.unit.holds.stands }

-- the statuses of a run of the unit
run : (g : given.Over) (c : goal.After-drop-unit-in-Ok g) → (reply : Reply) (output : List ℕ)
    → RunsUnit (tree_of c.in-Ok.unit) c.args.run.steps c.args.run.fill (g.I.Source.left c.args.input.now)
    (g.I.Source.left c.execute_unit.new.input) reply output → IsOneOf (status_of reply) run_statuses
run g c reply output h =
    let read = c.in-Ok.ensures.unit in
    text_run-status _ c.args.run.steps _ _ reply output (h read.file read.holds.stands)

pub returns-in-Ok : goal.returns-in-Ok
returns-in-Ok g c =
    let files = g.H.Shelf.files c.args.shelf.now in
    let text = c.args.run in
    let tree = tree_of c.in-Ok.unit in
    let e = c.execute_unit.ensures in
    replies-run (RunsUnit tree text.steps text.fill _ _) run_statuses (run g c) refl refl
    (ExecuteText text.file.now text.steps text.fill) text.file.now 67108864 refl _ _ _ c.execute_unit.result c.in-Ok.unit c.in-Ok.ensures.asks e.ran
    (reply-of_text files text.file.now text.steps text.fill tree _ _ _ _ c.execute_unit.result c.in-Ok.ensures.unit
    e.ran)
    (cut-of_text files text.file.now text.steps text.fill tree _ _ c.execute_unit.result c.in-Ok.ensures.unit
    e.broke_off)
    e.faults

pub returns-in-Err : goal.returns-in-Err
returns-in-Err g c =
    let files = g.H.Shelf.files c.args.shelf.now in
    let name = c.args.run.file.now in
    let reply = c.in-Err.reply in
    replies-unfetched (ExecuteText name c.args.run.steps c.args.run.fill) name 67108864 refl _ _ _ _ _ reply c.in-Err.ensures.asks
    (ran_no_text c.in-Err.ensures.refused refl)
    (other-than reply InputFault text_faults refl (no_unit-status files name reply c.in-Err.ensures.refused))
