use Rattle.std.proofs.Common.{refl, subst, sym}
use Rattle.dcc_asm.specs.Fault.{IsAssembled}
use Rattle.dcc_commands.specs.Words.{Assemble}
use Rattle.dcc_top.specs.declared.reply.Reply.TheVariants.{InputFault}
use Rattle.dcc_top.specs.Answer.{OfFile, for_assembly, unassembled}
use Rattle.dcc_top.proofs.StatusLaws.{listing_faults, unassembled-status, other-than}
use Rattle.dcc_top.proofs.ReplyLaws.{replies-assembled, replies-part_assembled, replies-unfetched}
use Rattle.dcc_top.proofs.assemble_job.assemble_reply.Given as given
use Rattle.dcc_top.proofs.assemble_job.assemble_reply.Goals as goal

pub returns-in-Err : goal.returns-in-Err
returns-in-Err g c = λ left faults.
    let name = c.args.name.now in
    let reply = c.in-Err.reply in
    let none = c.in-Err.ensures.refused in
    replies-unfetched (Assemble name) name 67108864 refl _ left faults _ _ reply c.in-Err.ensures.asks
    (for_assembly (unassembled none) refl)
    (other-than reply InputFault listing_faults refl
    (unassembled-status (g.H.Shelf.files c.args.shelf.now) name reply none))

pub returns-in-Ok-put_all : goal.returns-in-Ok-put_all
returns-in-Ok-put_all g c = λ left faults.
    let files = g.H.Shelf.files c.args.shelf.now in
    let name = c.args.name.now in
    let stands = subst (λ bytes. OfFile files name (λ text. IsAssembled text bytes)) (sym c.deref.ensures.value)
    c.in-Ok.ensures.assembled in
    replies-assembled name c.deref.result.now _ left faults _ c.in-Ok.bytes c.in-Ok.ensures.asks stands
    c.in-Ok-put_all.ensures.whole c.put_all.ensures.faults

pub returns : goal.returns
returns g c = λ left faults.
    let files = g.H.Shelf.files c.args.shelf.now in
    let name = c.args.name.now in
    let stands = subst (λ bytes. OfFile files name (λ text. IsAssembled text bytes)) (sym c.deref.ensures.value)
    c.in-Ok.ensures.assembled in
    replies-part_assembled name c.deref.result.now _ left faults _ _ c.in-Ok.bytes c.in-Ok.ensures.asks stands
    c.in-Err-put_all.ensures.part c.put_all.ensures.faults c.in-Err-put_all.ensures.failed
