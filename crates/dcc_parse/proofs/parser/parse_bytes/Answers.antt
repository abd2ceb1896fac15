use Rattle.std.proofs.Common.{◌≡◌, ◌+◌, Some, IfOk, IfErr, sym, ap, ◌∙◌, subst, arith}
use Rattle.dcc_c.specs.Kinds.{first_of}
use Rattle.dcc_c.specs.Pieces.{line_at}
use Rattle.dcc_c.specs.TextOffences.{offences_of}
use Rattle.dcc_c.specs.Views.{tree_of}
use Rattle.dcc_lex.specs.PiecesViews.{pieces_of}
use Rattle.dcc_reader.specs.OffenceViews.{offence_of}
use Rattle.dcc_reader.specs.PartialViews.{text_of}
use Rattle.dcc_parse.specs.Fault.{IsWhole, IsTreeOf}
use Rattle.dcc_parse.proofs.ParseRules.{tree-stands, long-refused, version-refused, offence-refused, rows-few}
use Rattle.dcc_parse.proofs.parser.parse_bytes.Goals as goal

pub returns-then-bytes-gt67108864-clause-refused :
    goal.returns-then-bytes-gt67108864-clause-refused
returns-then-bytes-gt67108864-clause-refused c = long-refused c.args.bytes.now c.if-bytes-gt67108864.true

pub returns-in_default-clause-refused : goal.returns-in_default-clause-refused
returns-in_default-clause-refused c = version-refused c.args.bytes.now c.if-bytes-gt67108864.false (sym c.in_default.ensures)

pub returns-in_ok-strip-in-Ok-clause-stands : goal.returns-in_ok-strip-in-Ok-clause-stands
returns-in_ok-strip-in-Ok-clause-stands c =
    let pieces = pieces_of c.pieces-pieces.result in
    let whole : IsWhole pieces (text_of c.in-Ok.text) =
    subst (λ found. IfOk found (λ text. IsWhole pieces (text_of text))) c.in-Ok.is c.in_ok-text.ensures.text in
    tree-stands c.args.bytes.now c.in-Some.rest.now pieces (tree_of c.in_ok-strip-in-Ok.field-0) (sym c.in-Some.ensures)
    c.pieces-pieces.ensures.pieces
    (subst (IsTreeOf pieces) (sym (c.in_ok-strip-in-Ok.ensures whole.complete whole.none)) whole.tree)

pub overflow_add-last : goal.overflow_add-last
overflow_add-last c = omega (arith, rows-few c.args.bytes.now, c.line_feeds-last.ensures, c.if-bytes-gt67108864.false)

pub returns-in-Err-clause-refused : goal.returns-in-Err-clause-refused
returns-in-Err-clause-refused c =
    let pieces = pieces_of c.pieces-pieces.result in
    offence-refused c.args.bytes.now c.in-Some.rest.now pieces c.in-Err.offence c.line_at.result c.if-bytes-gt67108864.false (sym c.in-Some.ensures)
    c.pieces-pieces.ensures.pieces
    (subst (λ found. IfErr found (λ offence. first_of (offences_of pieces) ≡ Some (offence_of offence))) c.in-Err.is c.in_ok-text.ensures.offence)
    (c.line_at.ensures ∙ ap (λ n. line_at pieces (1 + n) c.in-Err.offence.at) c.line_feeds-last.ensures)
