-- Classes of numbers that are linked, and how code tells them. No public contract rests on it.
use Rattle.std.specs.Prelude.{◌≡◌, ℕ, zero, suc, ◌<◌, ◌≢◌, ◌==◌, ◌⊎◌, List, [], ◌∷◌, ◌++◌, map, length, get_or}
use Rattle.std.specs.Prelude.{slice_set, Contains, slice_get, Some, if◌then◌else◌}
use Rattle.dcc_ir.specs.declared.syntax.Loc.{Loc}
use Rattle.dcc_ir.specs.declared.syntax.Loc.TheVariants.{Temp}
use Rattle.dcc_ir.specs.Location.{location_width}
use Rattle.dcc_webs.specs.declared.classes.Temps.{Temps as TempsOf}

-- the number that stands for the class of a number
abbrev pub class_in : List ℕ → ℕ → ℕ
class_in classes x = get_or classes x 0

-- links lead from the one number to the other, each one way or the other
pub data AreJoined (links : List (ℕ × ℕ)) : ℕ → ℕ → Type 0 where
  itself : {x : ℕ} → AreJoined links x x
  linked : {x y : ℕ} → Contains links (x, y) → AreJoined links x y
  turned : {x y : ℕ} → AreJoined links x y → AreJoined links y x
  through : {x y z : ℕ} → AreJoined links x y → AreJoined links y z → AreJoined links x z

-- two numbers have one class where links join them, and there alone
pub record AreClasses (links : List (ℕ × ℕ)) (classes : List ℕ) : Type 0 where
  pub linked :
      (x y : ℕ) → Contains links (x, y) → x < length classes → y < length classes
      → class_in classes x ≡ class_in classes y
  pub joined :
      (x y : ℕ) → x < length classes → y < length classes → class_in classes x ≡ class_in classes y
      → AreJoined links x y

-- the second classes are those of further links
abbrev pub JoinMore : List ℕ → List (ℕ × ℕ) → List ℕ → Type 0
JoinMore before more after =
    (length after ≡ length before)
    × ((links : List (ℕ × ℕ)) → AreClasses links before → AreClasses (links ++ more) after)

-- The number that stands for a class is one of it. For each of these the list has the others of the class.
pub record AreInOrder (classes : List ℕ) (others : List (List ℕ)) : Type 0 where
  pub below : (x : ℕ) → x < length classes → class_in classes x < length classes
  pub own : (x : ℕ) → x < length classes → class_in classes (class_in classes x) ≡ class_in classes x
  pub count : length others ≡ length classes
  pub listed :
      (x : ℕ) → x < length classes → (class_in classes x ≡ x) ⊎ Contains (get_or others (class_in classes x) []) x
  pub are :
      (c x : ℕ) → c < length classes → class_in classes c ≡ c → Contains (get_or others c []) x
      → (x < length classes) × (class_in classes x ≡ c)

-- Steps of the code.

-- the numbers have that class
abbrev pub all_moved : ℕ → List ℕ → List ℕ → List ℕ
all_moved to classes [] = classes
all_moved to classes (x ∷ xs) = all_moved to (slice_set classes x to) xs

-- the one class has gone to the other, where these are the others of the one
abbrev pub merged : ℕ → ℕ → List ℕ → List ℕ → List ℕ
merged from to others classes = slice_set (all_moved to classes others) from to

abbrev pub others_merged : ℕ → ℕ → List (List ℕ) → List (List ℕ)
others_merged from to others =
    slice_set (slice_set others from []) to
    (get_or (slice_set others from []) to [] ++ (get_or others from [] ++ from ∷ []))

-- the numbers of the first class have gone to the second, and no others
pub record AreGone (from to : ℕ) (before after : List ℕ) : Type 0 where
  pub count : length after ≡ length before
  pub gone : (y : ℕ) → y < length before → class_in before y ≡ from → class_in after y ≡ to
  pub stays : (y : ℕ) → y < length before → class_in before y ≢ from → class_in after y ≡ class_in before y

-- the numbers of one of the two classes have gone to the other
abbrev pub AreOne : ℕ → ℕ → List ℕ → List ℕ → Type 0
AreOne first second before after = AreGone first second before after ⊎ AreGone second first before after

-- Temporaries.

-- the numbers below the bound that stand for their classes
abbrev pub roots_below : List ℕ → ℕ → List ℕ
roots_below classes zero = []
roots_below classes (suc n) =
    if class_in classes n == n then roots_below classes n ++ n ∷ [] else roots_below classes n

-- the width of the location of each of these numbers
abbrev pub widths_of : List ℕ → List Loc → List ℕ → List ℕ
widths_of bits origins roots = map (λ c. location_width bits (get_or origins c (Temp 0))) roots

-- each number that stands for a class has the place of its class among them, and each of these the width of its
-- location
pub record ArePlaces (bits : List ℕ) (origins : List Loc) (classes : List ℕ) (temps : TempsOf) : Type 0 where
  pub count : length temps.of.items ≡ length classes
  pub places :
      (c : ℕ) → c < length classes → class_in classes c ≡ c
      → slice_get (roots_below classes (length classes)) (get_or temps.of.items c 0) ≡ Some c
  pub widths : temps.bits.items ≡ widths_of bits origins (roots_below classes (length classes))

-- each number has the place of the number that stands for its class, and each of these the width of its location
pub record AreTemps (bits : List ℕ) (origins : List Loc) (classes : List ℕ) (temps : TempsOf) : Type 0 where
  pub place : List ℕ
  pub of_are : temps.of.items ≡ map (λ c. get_or place c 0) classes
  pub places :
      (c : ℕ) → c < length classes → class_in classes c ≡ c
      → slice_get (roots_below classes (length classes)) (get_or place c 0) ≡ Some c
  pub widths : temps.bits.items ≡ widths_of bits origins (roots_below classes (length classes))
