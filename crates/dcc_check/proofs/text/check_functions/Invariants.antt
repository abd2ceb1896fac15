use Rattle.std.proofs.Common.{◌≡◌, map, drop}
use Rattle.dcc_c.specs.Kinds.{first_after}
use Rattle.dcc_c.specs.Known.{labels_before_head}
use Rattle.dcc_c.specs.TextOffences.{Whole, functions_offences}
use Rattle.dcc_lex.specs.PiecesViews.{pieces_of}
use Rattle.dcc_reader.specs.PartialViews.{function_of}
use Rattle.dcc_check.specs.Wholes.{IsWhole}
use Rattle.dcc_reader.specs.Told.{told}
use Rattle.dcc_check.proofs.text.check_functions.Given as goal

-- the functions that are left tell what all functions do
abbrev pub invariant-loop-i : goal.invariant-loop-i
invariant-loop-i l = (w : Whole) → IsWhole l.whole w → w.labels ≡ labels_before_head (pieces_of l.rest) →
    first_after (told l.first) (functions_offences w (map function_of (drop l.i l.functions)))
    ≡ first_after (told l.initial.first) (functions_offences w (map function_of l.functions))
