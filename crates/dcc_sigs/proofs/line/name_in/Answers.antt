use Rattle.dcc_lex.proofs.Words.{word_utf8}
use Rattle.dcc_sigs.proofs.NameLaws.{name-is_word}
use Rattle.dcc_sigs.proofs.line.name_in.Goals as goal

pub unreachable-requires : goal.unreachable-requires
unreachable-requires c =
    let name = c.is_name.ensures.0 c.if-is_name.true in
    c.in-Err.ensures.cases.0 (word_utf8 c.args.bytes.now (name-is_word c.args.bytes.now name))
