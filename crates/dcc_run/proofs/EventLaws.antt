-- Laws of events.
use Rattle.std.proofs.Common.{◌≡◌, ℕ, ◌≤◌, List, [], ◌∷◌, ◌++◌, refl, ap, ◌∙◌}
use Rattle.std.proofs.lemmas.List.Concat.{flat_map-append}
use Rattle.dcc_run.specs.Event.{Event, byte_written, byte_taken, written_by, taken_by, writes}
use Rattle.dcc_run.specs.Prefix.{IsPrefix}
use Rattle.dcc_run.specs.System.{System, IsLawful, out_after}
use Rattle.dcc_run.proofs.RunLaws.{events_grow}

-- what is written and taken by events, and by others after them
pub written-append : (first more : List Event) → written_by (first ++ more) ≡ written_by first ++ written_by more
written-append first more = flat_map-append byte_written first more

pub taken-append : (first more : List Event) → taken_by (first ++ more) ≡ taken_by first ++ taken_by more
taken-append first more = flat_map-append byte_taken first more

-- bytes that are written are the output, and nothing is taken
pub written-writes : (bytes : List ℕ) → written_by (writes bytes) ≡ bytes
written-writes [] = refl
written-writes (byte ∷ bytes) = ap (λ l. byte ∷ l) (written-writes bytes)

pub taken-writes : (bytes : List ℕ) → taken_by (writes bytes) ≡ []
taken-writes [] = refl
taken-writes (byte ∷ bytes) = taken-writes bytes

-- where events begin with others, so does their output
pub written-prefix : {front whole : List Event} → IsPrefix front whole → IsPrefix (written_by front) (written_by whole)
written-prefix {front} p = record { rest = written_by p.rest; joins = ap written_by p.joins ∙ written-append front p.rest }

-- the output of fewer steps is a prefix of that of more
pub out_grows : {S : Type 0} (system : System S) → IsLawful system → (m n : ℕ) (s : S) → m ≤ n →
    IsPrefix (out_after system m s) (out_after system n s)
out_grows system law m n s le = written-prefix (events_grow system law m n s le)
