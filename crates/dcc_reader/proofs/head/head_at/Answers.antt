use Rattle.std.proofs.Common.{◌≡◌, ◌≤◌, arith}
use Rattle.dcc_c.specs.Reading.{got}
use Rattle.dcc_c.specs.ReadingText as texts
use Rattle.dcc_lex.specs.PiecesViews.{pieces_of}
use Rattle.dcc_lex.proofs.PieceLaws.{few_pieces}
use Rattle.dcc_reader.specs.BegunViews.{begun_of}
use Rattle.dcc_reader.specs.PartialViews.{function_of}
use Rattle.dcc_reader.specs.ReaderViews.{reader_of}
use Rattle.dcc_reader.specs.declared.partial.PartialFunction.{PartialFunction}
use Rattle.dcc_reader.proofs.HeadLaws.{ok-map, head-at}
use Rattle.dcc_reader.proofs.head.head_at.Goals as goal

pub returns : goal.returns
returns c =
    let begun = got (begun_of c.read_begun-begun.result) (reader_of c.read_begun-begun.new.r) in
    let pieces = pieces_of c.args.rest.now in
    let enough : texts.enough_calls pieces ≤ 1073741840 = omega (arith, few_pieces c.args.rest.now) in
    ok-map c.read_head.result
    (λ (f : PartialFunction). got (function_of f) (reader_of c.read_head.new.r) ≡ texts.read_head 1073741840 begun)
    (λ (f : PartialFunction). function_of f ≡ (texts.read_head (texts.enough_calls pieces) (texts.read_begun (texts.reader_of pieces))).value)
    (λ f h. head-at 1073741840 pieces begun (reader_of c.reader_at-r.result) (reader_of c.read_head.new.r) (function_of f)
    h c.read_begun-begun.ensures c.reader_at-r.ensures enough)
    c.read_head.ensures
