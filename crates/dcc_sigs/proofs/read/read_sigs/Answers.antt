use Rattle.std.proofs.Common.{◌≡◌, ◌≤◌, length, map, sym, ap, ◌∙◌, subst, arith}
use Rattle.std.proofs.lemmas.List.Splits.{length-slice_split}
use Rattle.std.proofs.lemmas.List.Sums.{count_by-le-length}
use Rattle.std.specs.Prelude.{◌==◌}
use Rattle.dcc_sigs.specs.Fault.{text_most, too_long, pieces_of}
use Rattle.dcc_sigs.specs.Steps.{lent_pieces}
use Rattle.dcc_sigs.proofs.Pieces.{length-lent, texts-refused, piece-count}
use Rattle.dcc_sigs.proofs.read.read_sigs.Goals as goal

pub returns-then-bytes-gt-TEXT_MOST-clause-refused : goal.returns-then-bytes-gt-TEXT_MOST-clause-refused
returns-then-bytes-gt-TEXT_MOST-clause-refused c = too_long (omega (arith, c.if-bytes-gt-TEXT_MOST.true))

pub read_pieces-requires-clause-some : goal.read_pieces-requires-clause-some
read_pieces-requires-clause-some c =
    let count = piece-count c.args.bytes.now c.in_ok-pieces.pieces.items c.in_ok-pieces.ensures in
    let same = ap length c.deref.ensures.value in
    omega (arith, count.0, same)

pub read_pieces-requires-clause-few : goal.read_pieces-requires-clause-few
read_pieces-requires-clause-few c =
    let count = piece-count c.args.bytes.now c.in_ok-pieces.pieces.items c.in_ok-pieces.ensures in
    let same = ap length c.deref.ensures.value in
    omega (arith, count.1, same, c.if-bytes-gt-TEXT_MOST.false)

pub returns-clause-refused : goal.returns-clause-refused
returns-clause-refused c =
    texts-refused c.args.bytes.now (lent_pieces c.deref.result.now) c.read_pieces.result (omega (arith, c.if-bytes-gt-TEXT_MOST.false))
    (ap lent_pieces c.deref.ensures.value ∙ c.in_ok-pieces.ensures) c.read_pieces.ensures.refused
