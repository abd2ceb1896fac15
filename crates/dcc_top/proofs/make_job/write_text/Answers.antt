use Rattle.std.proofs.Common.{ap, refl, subst, sym}
use Rattle.dcc_c.specs.Views.{tree_of}
use Rattle.dcc_c.specs.Written.{written_form}
use Rattle.dcc_prog.specs.declared.refusal.Refusal.TheVariants.{Memory as MemoryRefused}
use Rattle.dcc_pipe.specs.declared.no_text.NoText.TheVariants.{Refused}
use Rattle.dcc_prog.specs.Refused.{IsRefusedByAnalysis}
use Rattle.dcc_machine_demand.specs.Refused.{by_analysis}
use Rattle.dcc_top.specs.declared.reply.Reply.TheVariants.{Memory}
use Rattle.dcc_top.specs.Answer.{AllowsImage, image_made, image_refused}
use Rattle.dcc_commands.specs.declared.job.Product.TheVariants.{Text}
use Rattle.dcc_top.proofs.AnswerLaws.{answers-nothing, answers-unchanged}
use Rattle.dcc_top.proofs.make_job.write_text.Goals as goal

pub returns-in-Err-clause-answers : goal.returns-in-Err-clause-answers
returns-in-Err-clause-answers g c =
    answers-nothing (AllowsImage Text c.args.cpu c.args.image.now) _ c.from.result
    (subst (λ reply. AllowsImage Text c.args.cpu c.args.image.now reply _) (sym c.from.ensures) (image_refused c.in-Err.reason c.in-Err.ensures.refused))

pub returns-in-Ok-print-clause-answers : goal.returns-in-Ok-print-clause-answers
returns-in-Ok-print-clause-answers g c = record {
  output = written_form (tree_of c.in-Ok.unit);
  wrote = c.in-Ok-print.ensures.whole;
  is_answer = image_made (record { accepted = c.in-Ok.ensures.accepted; tree = tree_of c.in-Ok.unit; is_text = c.in-Ok.ensures.text; typed = c.in-Ok.ensures.typed; shaped = c.in-Ok.ensures.shaped; globals = c.in-Ok.ensures.globals; written_is = refl });
}

pub returns-clause-answers : goal.returns-clause-answers
returns-clause-answers g c =
    answers-unchanged (AllowsImage Text c.args.cpu c.args.image.now) _ _ Memory (ap g.O.Sink.taken (rw c.in-Err-Memory.field-0-is at c.in-Err-Memory.ensures.memory refl)) (image_refused (Refused MemoryRefused) (by_analysis IsRefusedByAnalysis.no_memory))

pub returns-in-Err-Failed-clause-cut_short : goal.returns-in-Err-Failed-clause-cut_short
returns-in-Err-Failed-clause-cut_short g c = record {
  due = written_form (tree_of c.in-Ok.unit);
  is_due = record { accepted = c.in-Ok.ensures.accepted; tree = tree_of c.in-Ok.unit; is_text = c.in-Ok.ensures.text; typed = c.in-Ok.ensures.typed; shaped = c.in-Ok.ensures.shaped; globals = c.in-Ok.ensures.globals; written_is = refl };
  part = rw c.in-Err-Failed.field-0-is at c.in-Err-Failed.ensures.part refl;
}
