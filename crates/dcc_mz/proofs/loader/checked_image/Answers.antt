use Rattle.std.proofs.Common.{length, ap, ◌∙◌, arith}
use Rattle.dcc_machine.specs.MzImage.{loaded_segment, relocation_count}
use Rattle.dcc_machine.proofs.MzImageLaws.{length-relocated_image}
use Rattle.dcc_mz.proofs.loader.checked_image.Goals as goal

pub returns-then-code_start-header-clause-refused :
    goal.returns-then-code_start-header-clause-refused
returns-then-code_start-header-clause-refused c =
    let good = c.in_ok-header.ensures.good in
    let header = c.in_ok-header.ensures.header in
    let len = ap length c.in_ok-image.ensures.moved ∙ length-relocated_image c.args.file.now (relocation_count c.args.file.now) good in
    (good, c.in_ok-image.ensures.fit, λ entry. absurd (omega (arith, header.cs, header.ip, c.in_ok-image.image.ok.0)))

pub returns-clause-image : goal.returns-clause-image
returns-clause-image c =
    let good = c.in_ok-header.ensures.good in
    let header = c.in_ok-header.ensures.header in
    let len = ap length c.in_ok-image.ensures.moved ∙ length-relocated_image c.args.file.now (relocation_count c.args.file.now) good in
    record {
      good_header = good;
      relocations_fit = c.in_ok-image.ensures.fit;
      has_entry = omega (arith, header.cs, header.ip, c.in_ok-image.image.ok.0);
      bytes = c.in_ok-image.ensures.moved;
      code_len = omega (arith, header.cs, c.in_ok-image.image.ok.0);
      cs = c.loaded_segment.ensures ∙ ap loaded_segment header.cs;
      ip = header.ip;
      ss = c.loaded_segment-2.ensures ∙ ap loaded_segment header.ss;
      sp = header.sp;
    }
