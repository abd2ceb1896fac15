use Rattle.dcc_c.specs.Numbered.{numbered}
use Rattle.dcc_c.specs.Written.{written_form}
use Rattle.dcc_c.proofs.PrintLaws.{print_stands}
use Rattle.dcc_parse.proofs.RefusalLaws.{refused-no-tree}
use Rattle.dcc_parse.proofs.laws.printed_texts_stand.Goals as goal

pub returns : goal.returns
returns c = record {
  stands = print_stands;
  not_refused = λ text tree stands short line kind refused.
      refused-no-tree (written_form tree) line kind (numbered tree) short refused (print_stands text tree stands);
}
