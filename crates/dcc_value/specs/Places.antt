-- Where names stand in a list: the first place of a name counts.
use Rattle.std.specs.Prelude.{◌≡◌, ℕ, suc, if◌then◌else◌, List, [], ◌∷◌, Option, Some, None, option_map}
use Rattle.std.specs.BTreeMap.{BTreeMap, get_by}
use Rattle.std.specs.Cmp.Lexicographic.{slice_cmp}
use Rattle.std.specs.Ordering.{nat_cmp}
use denote.Ref.{Bor}
use Rattle.dcc_c.specs.Token.{same_bytes}
use Rattle.dcc_c.specs.Tree.{Word}

-- the place that a map has for a name
abbrev pub place_of : BTreeMap (Bor (List ℕ)) ℕ → Word → Option ℕ
place_of places word = get_by (λ k. slice_cmp nat_cmp word k.now) places

-- the place of the first of the names that is the given one
abbrev pub first_place : List Word → Word → Option ℕ
first_place [] word = None
first_place (w ∷ words) word = if same_bytes w word then Some 0 else option_map suc (first_place words word)

-- the map has the first place of each name of the list, and no other name
abbrev pub AreFirst : BTreeMap (Bor (List ℕ)) ℕ → List Word → Type 0
AreFirst places words = (word : Word) → place_of places word ≡ first_place words word
