use Rattle.dcc_sigs.proofs.Reread.{no-name_read, no-reading}
use Rattle.dcc_sigs.proofs.line.line_in.Goals as goal

pub returns-in-None-2 : goal.returns-in-None-2
returns-in-None-2 c =
    no-reading c.args.text.now c.name_size-size.result c.in_ok-parts-in-Some.field-0 c.name_size-size.ensures.size c.in-None-2.is
    c.in_ok-parts-in-Some.ensures

pub returns-in-None : goal.returns-in-None
returns-in-None c = no-name_read c.args.text.now c.name_size-size.result c.name_size-size.ensures.size c.in-None.ensures
