-- Which bytes variables take.
use Rattle.std.specs.Prelude.{◌≡◌, ℕ, ◌<◌, Bool, true, false, ◌&&◌, ◌||◌, not, nat_le, nat_lt, List, [], ◌∷◌, length}
use Rattle.std.specs.Prelude.{if◌then◌else◌}
use Rattle.std.proofs.Common.{get_or}
use Rattle.std.specs.List.{list_any}
use Rattle.dcc_c.specs.Kinds.{Offence}
use Rattle.dcc_c.specs.Partial.{PartialVariable}
use Rattle.dcc_c.specs.TextOffences.{end_of, is_misplaced, misplaced_at, takes_bytes}

-- the variables that take bytes, with one more in front, if it takes bytes
abbrev pub earlier_with : PartialVariable → List PartialVariable → List PartialVariable
earlier_with v earlier = if takes_bytes v then v ∷ earlier else earlier

-- the variables that take bytes, the last one first, before earlier ones
abbrev pub earlier_after : List PartialVariable → List PartialVariable → List PartialVariable
earlier_after earlier [] = earlier
earlier_after earlier (v ∷ variables) = earlier_after (earlier_with v earlier) variables

abbrev pub earlier_of : List PartialVariable → List PartialVariable
earlier_of variables = earlier_after [] variables

-- the variable has a byte in the stack
abbrev pub in_stack : ℕ → ℕ → PartialVariable → Bool
in_stack lo hi v = not (nat_le hi lo || (nat_le (end_of v) lo || nat_le hi v.address))

-- what is told of the variable's place
abbrev pub misplaced_here : ℕ → ℕ → List PartialVariable → PartialVariable → List Offence
misplaced_here lo hi earlier v = if v.done && is_misplaced lo hi earlier v then misplaced_at v.name else []

-- the byte is one of the variable's
abbrev pub is_covered : ℕ → PartialVariable → Bool
is_covered k v = nat_le v.address k && nat_lt k (end_of v)

-- The marks of bytes are those of the variables so far, where they are complete.
pub record IsOccupied (marks : List Bool) (complete : Bool) (earlier : List PartialVariable) : Type 0 where
  pub whole : length marks ≡ 65536
  pub marked : complete ≡ true → (k : ℕ) → k < 65536 → get_or marks k false ≡ list_any (is_covered k) earlier
