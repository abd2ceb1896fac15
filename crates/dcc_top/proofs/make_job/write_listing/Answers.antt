use Rattle.std.proofs.Common.{subst, sym}
use Rattle.dcc_prog.specs.declared.refusal.Refusal.TheVariants.{Memory as MemoryRefused}
use Rattle.dcc_pipe.specs.declared.no_text.NoText.TheVariants.{Refused}
use Rattle.dcc_prog.specs.Refused.{IsRefusedByAnalysis}
use Rattle.dcc_commands.specs.declared.job.Product.TheVariants.{Listing}
use Rattle.dcc_top.specs.declared.reply.Reply.TheVariants.{Memory}
use Rattle.dcc_top.specs.Answer.{AllowsImage, image_made, image_refused}
use Rattle.dcc_top.proofs.AnswerLaws.{answers-nothing, listing-of_image}
use Rattle.dcc_top.proofs.WatchedJobLaws.{program-own}
use Rattle.dcc_top.proofs.make_job.write_listing.Goals as goal

pub returns-in-Err-clause-answers : goal.returns-in-Err-clause-answers
returns-in-Err-clause-answers g c =
    answers-nothing (AllowsImage Listing c.args.cpu c.args.image.now) _ c.from.result
    (subst (λ reply. AllowsImage Listing c.args.cpu c.args.image.now reply _) (sym c.from.ensures)
    (image_refused (Refused c.in-Err.refusal) c.in-Err.ensures.refused))

pub listing-requires-clause-found : goal.listing-requires-clause-found
listing-requires-clause-found g c = program-own c.args.cpu c.args.image.now c.in-Ok.program c.in-Ok.ensures.program

pub returns-in_default-clause-answers : goal.returns-in_default-clause-answers
returns-in_default-clause-answers g c =
    answers-nothing (AllowsImage Listing c.args.cpu c.args.image.now) _ Memory
    (image_refused (Refused MemoryRefused) IsRefusedByAnalysis.no_memory)

pub returns-in-Ok-put_all-clause-answers : goal.returns-in-Ok-put_all-clause-answers
returns-in-Ok-put_all-clause-answers g c = record {
  output = c.deref.result.now;
  wrote = c.in-Ok-put_all.ensures.whole;
  is_answer = image_made (listing-of_image c.args.cpu c.args.image.now c.in-Ok.program c.in-Ok-listing.text.items
      c.deref.result.now c.in-Ok.ensures.accepted c.in-Ok.ensures.program c.in-Ok-listing.ensures
      c.deref.ensures.value);
}

pub returns-clause-cut_short : goal.returns-clause-cut_short
returns-clause-cut_short g c = record {
  due = c.deref.result.now;
  is_due = listing-of_image c.args.cpu c.args.image.now c.in-Ok.program c.in-Ok-listing.text.items
      c.deref.result.now c.in-Ok.ensures.accepted c.in-Ok.ensures.program c.in-Ok-listing.ensures
      c.deref.ensures.value;
  part = c.in-Err-put_all.ensures.part;
}
