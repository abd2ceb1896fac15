-- A text that stands for no tree is refused, with the line and the kind of its first offence.
use Rattle.std.specs.Prelude.{◌≡◌, ◌≤◌, ◌<◌, ℕ, suc, List, length, Some, None}
use Rattle.dcc_c.specs.Kinds.{Kind, of_length, of_version, Offence, first_of}
use Rattle.dcc_c.specs.Numbered.{rows}
use Rattle.dcc_c.specs.Pieces.{pieces_of, after_version, line_at}
use Rattle.dcc_c.specs.TextOffences.{offences_of}

-- The text is refused, for what offends in this line. One that is too long is refused in line 0, whatever it holds, and
-- one without a version line in line 1.
pub data IsRefused (text : List ℕ) : ℕ → Kind → Type 0 where
  too_long : 67108864 < length text → IsRefused text 0 of_length
  no_version : length text ≤ 67108864 → after_version text ≡ None → IsRefused text 1 of_version
  offends : {rest : List ℕ} {o : Offence} → length text ≤ 67108864 → after_version text ≡ Some rest →
      first_of (offences_of (pieces_of rest)) ≡ Some o →
      IsRefused text (line_at (pieces_of rest) (suc (rows text)) o.at) o.kind
