use Rattle.std.proofs.Common.{◌≤◌, ap, ◌∙◌, arith}
use Rattle.dcc_c.specs.ReadingText as texts
use Rattle.dcc_lex.specs.PiecesViews.{pieces_of}
use Rattle.dcc_read.proofs.calls.Texts.{read-text-enough}
use Rattle.dcc_read.proofs.text.read.Goals as goal

pub returns : goal.returns
returns c =
    let pieces = pieces_of c.args.rest.now in
    let enough : texts.enough_calls pieces ≤ 1073741824 = let few = c.requires.few in omega (arith, few) in
    c.in_ok-text.ensures
    ∙ ap (texts.read_text 1073741824) c.reader_at-following.ensures
    ∙ read-text-enough 1073741824 pieces enough
