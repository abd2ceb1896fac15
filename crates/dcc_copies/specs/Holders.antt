-- How code tells which locations are held by their names. No public contract rests on it.
use Rattle.std.specs.Prelude.{◌≡◌, ℕ, ◌==◌, Bool, true, false, ◌&&◌, ◌||◌, if◌then◌else◌, List, [], ◌∷◌, ◌++◌, Contains}
use Rattle.std.specs.Prelude.{get_or, slice_get, slice_set, Option, Some, None}
use Rattle.std.specs.List.{list_any}
use Rattle.dcc_ir.specs.declared.syntax.Loc.{Loc}
use Rattle.dcc_ir.specs.declared.syntax.Loc.TheVariants.{Temp}
use Rattle.dcc_ir.specs.Tree.{Stmt}
use Rattle.dcc_copies.specs.declared.holders.Pair.{Pair}
use Rattle.dcc_copies.specs.declared.holders.Entry.{Entry}
use Rattle.dcc_copies.specs.declared.holders.Holders.{Holders as HoldersOf}
use Rattle.dcc_copies.specs.Held.{Held, held_after_all}
use Rattle.dcc_copies.specs.Settled.{reads_are_held}

-- the name of a location, where the temporaries' names are listed
abbrev pub name_by : List ℕ → Loc → Loc
name_by names (Temp n) = Temp (get_or names n n)
name_by names location = location

-- for each name the two temporaries of that name that it holds, and the names for which others than its own temporary
-- were noted
pub record Holders : Type 0 where
  pub pairs : List Pair
  pub noted : List ℕ

abbrev pub holders_of : HoldersOf → Holders
holders_of h = record { pairs = h.pairs.items; noted = h.noted.items }

-- the temporary is one of the two; where there are none, it has the name's number
abbrev pub is_of : Option Pair → ℕ → ℕ → Bool
is_of (Some pair) place n = (pair.first == n) || (pair.second == n)
is_of None place n = place == n

-- the name holds these temporaries
abbrev pub with_pair : ℕ → Pair → Holders → Holders
with_pair place pair h = record { pairs = slice_set h.pairs place pair; noted = h.noted ++ place ∷ [] }

-- Each name that wasn't noted holds its own temporary alone.
abbrev pub IsPlain : Holders → Type 0
IsPlain h = (place : ℕ) (pair : Pair) → slice_get h.pairs place ≡ Some pair → ¬ Contains h.noted place
    → (pair.first ≡ place) × (pair.second ≡ place)

-- the name holds its own temporary
abbrev pub is_own : Holders → ℕ → Bool
is_own h place = is_of (slice_get h.pairs place) place place

-- the name has an entry
abbrev pub has_entry : List Entry → ℕ → Bool
has_entry entries place = list_any (λ entry. entry.place == place) entries

abbrev pub is_own_or_entered : Holders → List Entry → ℕ → Bool
is_own_or_entered h entries place = is_own h place || has_entry entries place

module _ (names : List ℕ) where
  -- the location is held by its name
  abbrev pub is_held : Holders → Loc → Bool
  is_held h (Temp n) = is_of (slice_get h.pairs (get_or names n n)) (get_or names n n) n
  is_held h location = false

  -- what is told to be held is so
  abbrev pub IsSound : Holders → Held → Type 0
  IsSound h held = (location : Loc) → is_held h location ≡ true → held location ≡ true

  -- from the first to the second: what is plain stays so, and what is told is so after what it was before
  pub record IsPassed (h h' : Holders) (After : Held → Held) : Type 0 where
    pub plain : IsPlain h → IsPlain h'
    pub sound : (held : Held) → IsSound h held → IsSound h' (After held)

  -- the statements read what is held, from the first holders to the second
  pub record AreRead (h h' : Holders) (stmts : List Stmt) : Type 0 where
    pub passed : IsPassed h h' (held_after_all (name_by names) stmts)
    pub held : (held : Held) → IsSound h held → reads_are_held (name_by names) stmts held ≡ true

  -- where a block begins with entries: the names of these hold the two temporaries of each, and others hold their own
  abbrev pub number_held_by : List Entry → ℕ → Bool
  number_held_by [] n = get_or names n n == n
  number_held_by (entry ∷ entries) n =
      if get_or names n n == entry.place then is_of (Some entry.pair) entry.place n else number_held_by entries n

  abbrev pub held_by : List Entry → Held
  held_by entries (Temp n) = number_held_by entries n
  held_by entries location = false

  -- both temporaries of the entry are held
  abbrev pub is_entry_held : Holders → Entry → Bool
  is_entry_held h entry = is_held h (Temp entry.pair.first) && is_held h (Temp entry.pair.second)

  -- all is held that is held by entries
  abbrev pub Covers : Holders → List Entry → Type 0
  Covers h entries = (location : Loc) → held_by entries location ≡ true → is_held h location ≡ true

-- the entries of a block
abbrev pub entries_at : List (List Entry) → ℕ → List Entry
entries_at begins place = get_or begins place []
