-- Places of lists that are used after a block before they are written (Aho, Sethi, Ullman, Compilers, 1986, 10.6).
use Rattle.std.specs.Prelude.{◌≡◌, ℕ, ◌<◌, Bool, true, false, ◌↔◌, List, [], length, get_or, All}
use Rattle.dcc_ir.specs.Flow.{IsPath}
use Rattle.dcc_flow.specs.Edges.{leads}
use Rattle.dcc_flow.specs.Bits.{bit}

-- the list of the block has the place
abbrev pub holds : List (List Bool) → ℕ → ℕ → Bool
holds lists block place = bit (get_or lists block []) place

-- so many lists of that length
pub record AreLists (count len : ℕ) (lists : List (List Bool)) : Type 0 where
  pub count_is : length lists ≡ count
  pub len_is : All (λ bits. length bits ≡ len) lists

-- a path leads from the end of the block, through blocks that do not write the place, to one that uses it
pub record IsUsedAfter (next : List (List ℕ)) (used written : List (List Bool)) (block place : ℕ) : Type 0 where
  pub between : List ℕ
  pub user : ℕ
  pub path : IsPath (leads next) (λ b. holds written b place ≡ false) block between user
  pub read : holds used user place ≡ true

-- the lists hold, for each block, exactly the places that are used after it
pub record AreUses (next : List (List ℕ)) (used written : List (List Bool)) (len : ℕ) (answer : List (List Bool)) : Type 0 where
  pub lists : AreLists (length next) len answer
  pub exact : (block place : ℕ) → block < length next → place < len
      → (holds answer block place ≡ true) ↔ IsUsedAfter next used written block place
