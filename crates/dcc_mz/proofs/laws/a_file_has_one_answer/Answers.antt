use Rattle.std.proofs.Common.{sym, ◌∙◌}
use Rattle.dcc_machine.proofs.MzImageLaws.{image_or_fault, one_fault, not_both}
use Rattle.dcc_mz.proofs.laws.a_file_has_one_answer.Goals as goal

pub returns : goal.returns
returns c = record {
  image_or_fault = image_or_fault;
  one_image = λ file one other h k. record {
    bytes = h.bytes ∙ sym k.bytes;
    code_len = h.code_len ∙ sym k.code_len;
    cs = h.cs ∙ sym k.cs;
    ip = h.ip ∙ sym k.ip;
    ss = h.ss ∙ sym k.ss;
    sp = h.sp ∙ sym k.sp;
  };
  one_fault = one_fault;
  not_both = not_both;
}
