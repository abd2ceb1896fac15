use Rattle.std.proofs.Common.{◌∙◌, subst, sym}
use Rattle.dcc_prog.specs.declared.refusal.Refusal.TheVariants.{Memory as MemoryRefused}
use Rattle.dcc_pipe.specs.declared.no_text.NoText.TheVariants.{Refused}
use Rattle.dcc_prog.specs.Refused.{IsRefusedByAnalysis}
use Rattle.dcc_top.specs.declared.reply.Reply.TheVariants.{Memory}
use Rattle.dcc_top.specs.Answer.{AllowsImage, image_made, image_refused}
use Rattle.dcc_commands.specs.declared.job.Product.TheVariants.{Procedures}
use Rattle.dcc_top.proofs.AnswerLaws.{answers-nothing}
use Rattle.dcc_top.proofs.ProceduresLaws.{program-whole, procedures-are}
use Rattle.dcc_top.proofs.make_job.write_procedures.Goals as goal

pub returns-in-Err-clause-answers : goal.returns-in-Err-clause-answers
returns-in-Err-clause-answers g c =
    answers-nothing (AllowsImage Procedures c.args.cpu c.args.image.now) _ c.from.result
    (subst (λ reply. AllowsImage Procedures c.args.cpu c.args.image.now reply _) (sym c.from.ensures) (image_refused (Refused c.in-Err.refusal) c.in-Err.ensures.refused))

pub procedure_lines-requires : goal.procedure_lines-requires
procedure_lines-requires g c = program-whole c.args.cpu c.args.image.now c.in-Ok.program c.in-Ok.ensures.program

pub returns-in_default-clause-answers : goal.returns-in_default-clause-answers
returns-in_default-clause-answers g c =
    answers-nothing (AllowsImage Procedures c.args.cpu c.args.image.now) _ Memory (image_refused (Refused MemoryRefused) IsRefusedByAnalysis.no_memory)

pub returns-in-Ok-put_all-clause-answers : goal.returns-in-Ok-put_all-clause-answers
returns-in-Ok-put_all-clause-answers g c = record {
  output = c.as_bytes.result.now;
  wrote = c.in-Ok-put_all.ensures.whole;
  is_answer = image_made (procedures-are c.args.cpu c.args.image.now c.in-Ok.program c.as_bytes.result.now c.in-Ok.ensures.accepted c.in-Ok.ensures.program
      (c.as_bytes.ensures.value ∙ c.in-Ok-procedure_lines.ensures));
}

pub returns-clause-cut_short : goal.returns-clause-cut_short
returns-clause-cut_short g c = record {
  due = c.as_bytes.result.now;
  is_due = procedures-are c.args.cpu c.args.image.now c.in-Ok.program c.as_bytes.result.now c.in-Ok.ensures.accepted c.in-Ok.ensures.program
      (c.as_bytes.ensures.value ∙ c.in-Ok-procedure_lines.ensures);
  part = c.in-Err-put_all.ensures.part;
}
