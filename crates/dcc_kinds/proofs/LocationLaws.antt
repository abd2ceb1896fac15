-- Halves and flags of the machine beside those of the inner language, alone and in lists.
use Rattle.std.proofs.Common.{◌≡◌, ℕ, Bool, true, false, ◌&&◌, ◌||◌, not, ◌==◌, if◌then◌else◌, List, [], ◌∷◌, map, Contains, All, Option, Some, eq-eqb, refl, sym, ap, ap₂, ◌∙◌, subst, true≢false}
use Rattle.std.specs.Prelude.{filter, find}
use Rattle.std.specs.List.{AllZip, list_any}
use Rattle.std.proofs.lemmas.List.Elements.{All-contains_itself, All-weaker}
use Rattle.dcc_num.specs.declared.Reg.{Reg}
use Rattle.dcc_num.specs.declared.Reg.TheVariants.{Ax, Cx, Dx, Bx, Sp, Bp, Si, Di}
use Rattle.dcc_num.specs.declared.Half.{Half as HalfName}
use Rattle.dcc_num.specs.declared.Half.TheVariants.{Low, High}
use Rattle.dcc_num.specs.declared.FlagName.{FlagName}
use Rattle.dcc_num.specs.declared.FlagName.TheVariants.{Cf, Zf, Sf, Of}
use Rattle.dcc_machine.specs.Machine.{reg_number}
use Rattle.dcc_machine.specs.Writes.{is_same_half}
use Rattle.dcc_machine.specs.Wanted.{Location, half_of, flag_of, is_flag}
use Rattle.dcc_stack.proofs.SlotPlaces.{any-told}
use Rattle.dcc_ir.specs.declared.syntax.Loc.{Loc}
use Rattle.dcc_ir.specs.declared.syntax.Loc.TheVariants.{Half, Flag, Cell, Temp}
use Rattle.dcc_ir.specs.Live.{is_among}
use Rattle.dcc_ir.specs.WellFormed.{all_differ}
use Rattle.dcc_ir.specs.Location.{same_location, register_number, half_number, flag_number}
use Rattle.dcc_ir.specs.Passing as inner
use Rattle.dcc_ir.proofs.LocationLaws.{Contains-here, Contains-later, Contains-none, Contains-cases}
use Rattle.dcc_lift.proofs.ListTests.{and_left, and_right}
use Rattle.dcc_machine_demand.specs.Holders as asks
use Rattle.dcc_machine_demand.specs.Holders.{held, is_same_location}
use Rattle.dcc_machine_demand.specs.Asked as asked
use Rattle.dcc_sums.specs.Instance.{passes}
use Rattle.dcc_sums.specs.Summaries as sums
use Rattle.dcc_lifted_demand.specs.LiftedRefinement.{inner_of}
use Rattle.dcc_lifted_demand.proofs.SameLaws.{one_location}

-- Lists.

pub in_map : {A B : Type 0} (f : A → B) (xs : List A) (x : A) → Contains xs x → Contains (map f xs) (f x)
in_map f [] x c = absurd (Contains-none x c)
in_map f (y ∷ xs) x c =
    Contains-cases y xs x (Contains (f y ∷ map f xs) (f x)) (λ e. subst (λ z. Contains (f y ∷ map f xs) z) (ap f e) (Contains-here (f y) (map f xs)))
    (λ later. Contains-later (f y) (map f xs) (f x) (in_map f xs x later)) c

pub from_map : {A B : Type 0} (f : A → B) (xs : List A) (y : B) → Contains (map f xs) y → (x : A) × Contains xs x × (f x ≡ y)
from_map f [] y c = absurd (Contains-none y c)
from_map {A} {B} f (x ∷ xs) y c =
    Contains-cases (f x) (map f xs) y ((z : A) × Contains (x ∷ xs) z × (f z ≡ y)) (λ e. (x, Contains-here x xs, e))
    (λ later. let found = from_map f xs y later in (found.0, Contains-later x xs found.0 found.1, found.2)) c

pub all_by : {A : Type 0} (P : A → Type 0) (xs : List A) → ((x : A) → Contains xs x → P x) → All P xs
all_by P xs holds = All-weaker (Contains xs) P holds xs (All-contains_itself xs)

filter_map_is : {A B : Type 0} (f : A → B) (keep : B → Bool) (xs : List A) → filter keep (map f xs) ≡ map f (filter (λ x. keep (f x)) xs)
filter_map_is f keep [] = refl
filter_map_is f keep (x ∷ xs) = by (keep (f x)) (filter_map_is f keep xs)
  where
    by : (b : Bool) → filter keep (map f xs) ≡ map f (filter (λ x. keep (f x)) xs)
        → (if b then f x ∷ filter keep (map f xs) else filter keep (map f xs)) ≡ map f (if b then x ∷ filter (λ x. keep (f x)) xs else filter (λ x. keep (f x)) xs)
    by true e = ap (λ ys. f x ∷ ys) e
    by false e = e

filter_alike : {A : Type 0} (f g : A → Bool) → ((x : A) → f x ≡ g x) → (xs : List A) → filter f xs ≡ filter g xs
filter_alike f g same [] = refl
filter_alike f g same (x ∷ xs) = ap₂ (λ b ys. if b then x ∷ ys else ys) (same x) (filter_alike f g same xs)

-- what is at one place of two lists
pub zipped_left : {A B : Type 0} (R : A → B → Type 0) (xs : List A) (ys : List B) (x : A) → AllZip R xs ys → Contains xs x → (y : B) × Contains ys y × R x y
zipped_left R [] ys x zip c = absurd (Contains-none x c)
zipped_left R (a ∷ xs) [] x zip c = absurd zip
zipped_left {A} {B} R (a ∷ xs) (b ∷ ys) x zip c =
    Contains-cases a xs x ((y : B) × Contains (b ∷ ys) y × R x y) (λ e. (b, Contains-here b ys, subst (λ z. R z b) e zip.0))
    (λ later. let found = zipped_left R xs ys x zip.1 later in (found.0, Contains-later b ys found.0 found.1, found.2)) c

pub zipped_right : {A B : Type 0} (R : A → B → Type 0) (xs : List A) (ys : List B) (y : B) → AllZip R xs ys → Contains ys y → (x : A) × Contains xs x × R x y
zipped_right R [] [] y zip c = absurd (Contains-none y c)
zipped_right R [] (b ∷ ys) y zip c = absurd zip
zipped_right R (a ∷ xs) [] y zip c = absurd zip
zipped_right {A} {B} R (a ∷ xs) (b ∷ ys) y zip c =
    Contains-cases b ys y ((x : A) × Contains (a ∷ xs) x × R x y) (λ e. (a, Contains-here a xs, subst (λ z. R a z) e zip.0))
    (λ later. let found = zipped_right R xs ys y zip.1 later in (found.0, Contains-later a xs found.0 found.1, found.2)) c

-- where keys differ, that of an element finds it
pub found_by_key : {A : Type 0} (key : A → ℕ) (xs : List A) (x : A) → all_differ (map key xs) ≡ true → Contains xs x → find (λ y. key y == key x) xs ≡ Some x
found_by_key {A} key [] x differ c = absurd (Contains-none x c)
found_by_key {A} key (y ∷ xs) x differ c =
    Contains-cases y xs x (find (λ z. key z == key x) (y ∷ xs) ≡ Some x) here
    (λ later. by (key y == key x) refl later (found_by_key key xs x (and_right (not (list_any (λ m. key y == m) (map key xs))) (all_differ (map key xs)) differ) later)) c
  where
    rest : Option A
    rest = find (λ z. key z == key x) xs

    here : y ≡ x → find (λ z. key z == key x) (y ∷ xs) ≡ Some x
    here e = ap (λ b. if b then Some y else rest) (eq-eqb (key y) (key x) (ap key e)) ∙ ap Some e

    by : (b : Bool) → (key y == key x) ≡ b → Contains xs x → rest ≡ Some x → find (λ z. key z == key x) (y ∷ xs) ≡ Some x
    by false f later found = ap (λ b. if b then Some y else rest) f ∙ found
    by true t later found =
        let there = any-told (λ m. key y == m) (map key xs) (key x) (in_map key xs x later) t in
        absurd (true≢false (sym (and_left (not (list_any (λ m. key y == m) (map key xs))) (all_differ (map key xs)) differ) ∙ ap not there))

-- Halves and flags.

same_register : (r : Reg) → register_number r ≡ reg_number r
same_register Ax = refl
same_register Cx = refl
same_register Dx = refl
same_register Bx = refl
same_register Sp = refl
same_register Bp = refl
same_register Si = refl
same_register Di = refl

same_half : (h k : HalfName) → (half_number h == half_number k) ≡ is_same_half h k
same_half Low Low = refl
same_half Low High = refl
same_half High Low = refl
same_half High High = refl

same_flag : (f g : FlagName) → (flag_number f == flag_number g) ≡ is_flag f (flag_of g)
same_flag Cf Cf = refl
same_flag Cf Zf = refl
same_flag Cf Sf = refl
same_flag Cf Of = refl
same_flag Zf Cf = refl
same_flag Zf Zf = refl
same_flag Zf Sf = refl
same_flag Zf Of = refl
same_flag Sf Cf = refl
same_flag Sf Zf = refl
same_flag Sf Sf = refl
same_flag Sf Of = refl
same_flag Of Cf = refl
same_flag Of Zf = refl
same_flag Of Sf = refl
same_flag Of Of = refl

same_alike : (a b : Location) → same_location (inner_of a) (inner_of b) ≡ is_same_location a b
same_alike (half_of r h) (half_of q k) = ap₂ (λ x y. x && y) (ap₂ (λ m n. m == n) (same_register r) (same_register q)) (same_half h k)
same_alike (flag_of f) (flag_of g) = same_flag f g
same_alike (half_of r h) (flag_of g) = refl
same_alike (flag_of f) (half_of q k) = refl

among_alike : (a : Location) (xs : List Location) → is_among (map inner_of xs) (inner_of a) ≡ list_any (is_same_location a) xs
among_alike a [] = refl
among_alike a (b ∷ xs) = ap₂ (λ x y. x || y) (same_alike a b) (among_alike a xs)

-- what passes is a half or a flag
pub outer_of : (l : Loc) → passes l ≡ true → (a : Location) × (inner_of a ≡ l)
outer_of (Half r h) e = (half_of r h, refl)
outer_of (Flag f) e = (flag_of f, refl)
outer_of (Cell n h) e = absurd (true≢false (sym e))
outer_of (Temp n) e = absurd (true≢false (sym e))

map_once : (xs ys : List Location) → map inner_of xs ≡ map inner_of ys → xs ≡ ys
map_once [] [] e = refl
map_once [] (b ∷ ys) e = absurd (cc e)
map_once (a ∷ xs) [] e = absurd (cc e)
map_once (a ∷ xs) (b ∷ ys) e = ap₂ (λ x xs. x ∷ xs) (one_location a b (cc e)) (map_once xs ys (cc e))

-- Lists of just those of a kind.

-- the locations of a list that pass, in their order
ordered : (xs : List Location) → filter (λ l. is_among (map inner_of xs) l) inner.passed ≡ map inner_of (filter (λ a. list_any (is_same_location a) xs) asks.passed)
ordered xs =
    filter_map_is inner_of (λ l. is_among (map inner_of xs) l) asks.passed
    ∙ ap (map inner_of) (filter_alike (λ a. is_among (map inner_of xs) (inner_of a)) (λ a. list_any (is_same_location a) xs) (λ a. among_alike a xs) asks.passed)

-- every such list of the inner language has those of the machine
pub outer_list : (locations : List Loc) → locations ≡ filter (λ l. is_among locations l) inner.passed → (xs : List Location) × (locations ≡ map inner_of xs)
outer_list locations e = (filter (λ a. is_among locations (inner_of a)) asks.passed, e ∙ filter_map_is inner_of (λ l. is_among locations l) asks.passed)

-- a kind of the machine is one of the inner language
pub record AreAlike (Kind : Location → Type 0) (Inner : Loc → Type 0) : Type 0 where
  pub up : (a : Location) → Kind a → Inner (inner_of a)
  pub down : (l : Loc) → Inner l → (a : Location) × (inner_of a ≡ l) × Kind a

module _ {Kind : Location → Type 0} {Inner : Loc → Type 0} (alike : AreAlike Kind Inner) where
  pub kind_down : (a : Location) → Inner (inner_of a) → Kind a
  kind_down a is = let there = alike.down (inner_of a) is in subst Kind (one_location there.0 a there.1) there.2

  pub just_up : (xs : List Location) → asked.AreJust Kind xs → sums.AreJust Inner (map inner_of xs)
  just_up xs just = record {
    order = ap (map inner_of) just.order ∙ sym (ordered xs);
    exact = λ l. (
      (λ c. let there = from_map inner_of xs l c in subst Inner there.2 (alike.up there.0 ((just.exact there.0).0 there.1))),
      (λ is. let there = alike.down l is in subst (λ m. Contains (map inner_of xs) m) there.1 (in_map inner_of xs there.0 ((just.exact there.0).1 there.2))),
    );
  }

  pub just_down : (xs : List Location) → sums.AreJust Inner (map inner_of xs) → asked.AreJust Kind xs
  just_down xs just = record {
    order = map_once xs (filter (λ a. list_any (is_same_location a) xs) asks.passed) (just.order ∙ ordered xs);
    exact = λ a. (
      (λ c. kind_down a ((just.exact (inner_of a)).0 (in_map inner_of xs a c))),
      (λ is.
          let there = from_map inner_of xs (inner_of a) ((just.exact (inner_of a)).1 (alike.up a is)) in
          subst (Contains xs) (one_location there.0 a there.2) there.1),
    );
  }
