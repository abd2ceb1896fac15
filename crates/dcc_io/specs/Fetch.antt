-- What a shelf answers, and what it has been asked.
use Rattle.std.specs.Prelude.{◌≡◌, ◌⊎◌, ℕ, ◌<◌, ◌≤◌, List, [], ◌∷◌, ◌++◌, length, take, Option, None, Some, Result, Ok}
use Rattle.std.specs.Prelude.{Err}
use Rattle.dcc_io.specs.declared.outside.Fetched.{Fetched}
use Rattle.dcc_io.specs.declared.outside.Fetched.TheVariants.{Whole, Longer}
use Rattle.dcc_io.specs.declared.outside.ShelfFault.{ShelfFault}
use Rattle.dcc_io.specs.declared.outside.ShelfFault.TheVariants.{Absent, Failed, Memory}

-- the answer and the bytes given are right for the file of that name, or for there being none
abbrev pub Fetches : Option (List ℕ) → ℕ → Result Fetched ShelfFault → List ℕ → Type 0
Fetches file most (Ok Whole) given = (file ≡ Some given) × (length given ≤ most)
Fetches file most (Ok Longer) given = (bytes : List ℕ) × (file ≡ Some bytes) × (most < length bytes)
    × (given ≡ take most bytes)
Fetches file most (Err Absent) given = file ≡ None
Fetches file most (Err Failed) given = Unit {0}
Fetches file most (Err Memory) given = Unit {0}

-- no more bytes are given than asked for, and as many where there are more
abbrev pub KeepsWithin : ℕ → Result Fetched ShelfFault → List ℕ → Type 0
KeepsWithin most (Ok Whole) given = length given ≤ most
KeepsWithin most (Ok Longer) given = length given ≡ most
KeepsWithin most (Err fault) given = Unit {0}

-- the request is the last of the list now; where memory was wanting, the list may be as before
abbrev pub Records : List (List ℕ × ℕ) → List (List ℕ × ℕ) → List ℕ × ℕ → Result Fetched ShelfFault → Type 0
Records old new request (Ok fetched) = new ≡ old ++ request ∷ []
Records old new request (Err Absent) = new ≡ old ++ request ∷ []
Records old new request (Err Failed) = new ≡ old ++ request ∷ []
Records old new request (Err Memory) = (new ≡ old ++ request ∷ []) ⊎ (new ≡ old)
