-- Laws of keys.
use Rattle.std.proofs.Common.{◌≡◌, ℕ, Bool, List, [], ◌∷◌, ◌++◌, take, refl, ap, ◌∙◌}
use Rattle.std.specs.Prelude.{Option, None, Some}
use Rattle.dcc_run.specs.Event.{written_by, taken_by}
use Rattle.dcc_run.proofs.EventLaws.{written-writes, taken-writes}
use Rattle.dcc_io.specs.Told.{prepend_told, WhenTold}
use Rattle.dcc_console.specs.Key.{echoed, key_events}
use Rattle.dcc_console.specs.WithConsole.{told_bytes}

-- a key's events take its byte, and write what is written of it
pub key-taken : (echo : Bool) (byte : ℕ) → taken_by (key_events echo byte) ≡ byte ∷ []
key-taken echo byte = ap (λ l. byte ∷ l) (taken-writes (echoed echo byte))

pub key-written : (echo : Bool) (byte : ℕ) → written_by (key_events echo byte) ≡ echoed echo byte
key-written echo byte = written-writes (echoed echo byte)

-- nothing is left where a read of no bytes said so
pub end_told : (before after : Option (List ℕ)) (bytes : List ℕ) (count : ℕ) → count ≡ 0
    → before ≡ prepend_told (take count bytes) after → WhenTold before (λ held. held ≡ []) → told_bytes after ≡ []
unfolding prepend_told
end_told before None bytes count none took end = refl
end_told before (Some rest) bytes count none took end =
    let whole : before ≡ Some rest = took ∙ ap (λ n. Some (take n bytes ++ rest)) none in
    end rest whole
