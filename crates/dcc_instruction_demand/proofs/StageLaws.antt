-- Statements in stages: operands are taken into temporaries, the result and flags are made of these, and the result is
-- stored.
use Rattle.std.proofs.Common.{◌≡◌, ℕ, Bool, true, false, ◌&&◌, ◌||◌, if◌then◌else◌, List, [], ◌∷◌, ◌++◌, refl, sym, ap, ◌∙◌, subst, true≢false}
use Rattle.std.specs.Prelude.{Contains, flat_map}
use Rattle.std.specs.List.{list_all}
use Rattle.std.proofs.lemmas.List.{append-nil}
use Rattle.std.proofs.lemmas.Grind.{flat_map-append}
use Rattle.dcc_num.specs.declared.Width.{Width}
use Rattle.dcc_num.specs.declared.Width.TheVariants.{Byte as byte_width, Word as word_width}
use Rattle.dcc_ir.specs.declared.syntax.Loc.{Loc}
use Rattle.dcc_ir.specs.declared.syntax.Loc.TheVariants.{Half, Flag, Cell, Temp}
use Rattle.dcc_ir.specs.Location.{same_location}
use Rattle.dcc_ir.specs.Tree.{Part, Stmt, Set}
use Rattle.dcc_ir.specs.Demand.{makes_of}
use Rattle.dcc_ir.specs.Live.{is_among}
use Rattle.dcc_ir.proofs.LocationLaws.{among_contains}
use Rattle.dcc_ops.specs.OperandPlace.{OperandPlace, constant, byte, word, memory, address, computed, taking, storing}
use Rattle.dcc_ops.specs.Expressions.{result}
use Rattle.dcc_ops.specs.Temporaries.{left_place, right_place, result_place}
use Rattle.dcc_lift.proofs.ListTests.{and_left, and_right, and_both, or_none}
use Rattle.dcc_sums.specs.Instance.{used_by, written_by}
use Rattle.dcc_lifted_demand.specs.Sources.{before, sources, used}
use Rattle.dcc_lifted_demand.proofs.ListLaws.{in_flat, of_flat}
use Rattle.dcc_instruction_demand.proofs.ClosedLaws.{all_contained}
use Rattle.dcc_instruction_demand.proofs.ValueLaws.{is_value, is_written}

-- Lists with the same members.

pub record HaveSame (xs ys : List Loc) : Type 0 where
  pub grow : (l : Loc) → Contains xs l → Contains ys l
  pub shrink : (l : Loc) → Contains ys l → Contains xs l

pub have_itself : (xs : List Loc) → HaveSame xs xs
have_itself xs = record { grow = λ l c. c; shrink = λ l c. c }

pub have_equal : (xs ys : List Loc) → xs ≡ ys → HaveSame xs ys
have_equal xs ys e = subst (λ zs. HaveSame xs zs) e (have_itself xs)

pub have_then : (xs ys zs : List Loc) → HaveSame xs ys → HaveSame ys zs → HaveSame xs zs
have_then xs ys zs a b = record { grow = λ l c. b.grow l (a.grow l c); shrink = λ l c. a.shrink l (b.shrink l c) }

pub have_mapped : (f : Loc → List Loc) (xs ys : List Loc) → HaveSame xs ys → HaveSame (flat_map f xs) (flat_map f ys)
have_mapped f xs ys a = record {
  grow = λ l c. let from = of_flat f xs l c in in_flat f ys from.0 l (a.grow from.0 from.1) from.2;
  shrink = λ l c. let from = of_flat f ys l c in in_flat f xs from.0 l (a.shrink from.0 from.1) from.2;
}

-- a test of it
abbrev pub have_same : List Loc → List Loc → Bool
have_same xs ys = list_all (is_among ys) xs && list_all (is_among xs) ys

pub have_tested : (xs ys : List Loc) → have_same xs ys ≡ true → HaveSame xs ys
have_tested xs ys t = record {
  grow = λ l c. among_contains ys l (all_contained (is_among ys) xs l (and_left (list_all (is_among ys) xs) (list_all (is_among xs) ys) t) c);
  shrink = λ l c. among_contains xs l (all_contained (is_among xs) ys l (and_right (list_all (is_among ys) xs) (list_all (is_among xs) ys) t) c);
}

-- Lists of lists.

pub flat_twice : (f g : Loc → List Loc) (xs : List Loc) → flat_map f (flat_map g xs) ≡ flat_map (λ x. flat_map f (g x)) xs
flat_twice f g [] = refl
flat_twice f g (x ∷ xs) = flat_map-append f (g x) (flat_map g xs) ∙ ap (λ ys. flat_map f (g x) ++ ys) (flat_twice f g xs)

-- what leaves all of a list
pub flat_still : (f : Loc → List Loc) (keeps : Loc → Bool) → ((l : Loc) → keeps l ≡ true → f l ≡ l ∷ []) → (xs : List Loc) → list_all keeps xs ≡ true → flat_map f xs ≡ xs
flat_still f keeps still [] t = refl
flat_still f keeps still (x ∷ xs) t =
    ap (λ ys. ys ++ flat_map f xs) (still x (and_left (keeps x) (list_all keeps xs) t)) ∙ ap (λ ys. x ∷ ys) (flat_still f keeps still xs (and_right (keeps x) (list_all keeps xs) t))

-- Statements after others.

pub sources_append : (xs ys : List Stmt) (m : Loc) → sources (xs ++ ys) m ≡ flat_map (sources xs) (sources ys m)
sources_append [] ys m = sym (still (sources ys m))
  where
    still : (ls : List Loc) → flat_map (sources []) ls ≡ ls
    still [] = refl
    still (l ∷ ls) = ap (λ ms. l ∷ ms) (still ls)
sources_append (s ∷ xs) ys m = ap (flat_map (before s)) (sources_append xs ys m) ∙ flat_twice (before s) (sources xs) (sources ys m)

pub used_append : (xs ys : List Stmt) (after : List Loc) → used (xs ++ ys) after ≡ used xs (used ys after)
used_append [] ys after = refl
used_append (s ∷ xs) ys after = ap (λ ls. used_by s ++ flat_map (before s) ls) (used_append xs ys after)

abbrev pub is_empty : List Loc → Bool
is_empty [] = true
is_empty (l ∷ ls) = false

-- the statement uses nothing at once
abbrev pub is_useless : Stmt → Bool
is_useless s = is_empty (used_by s)

pub empty_is : (ls : List Loc) → is_empty ls ≡ true → ls ≡ []
empty_is [] t = refl
empty_is (l ∷ ls) t = absurd (true≢false (sym t))

pub used_useless : (xs : List Stmt) (after : List Loc) → list_all is_useless xs ≡ true → used xs after ≡ flat_map (sources xs) after
used_useless [] after t = sym (still after)
  where
    still : (ls : List Loc) → flat_map (sources []) ls ≡ ls
    still [] = refl
    still (l ∷ ls) = ap (λ ms. l ∷ ms) (still ls)
used_useless (s ∷ xs) after t =
    ap (λ ls. ls ++ flat_map (before s) (used xs after)) (empty_is (used_by s) (and_left (is_useless s) (list_all is_useless xs) t))
    ∙ ap (flat_map (before s)) (used_useless xs after (and_right (is_useless s) (list_all is_useless xs) t)) ∙ flat_twice (before s) (sources xs) after

-- Taking.

-- a half of a register or of a cell
abbrev pub is_kept_place : Loc → Bool
is_kept_place (Half r h) = true
is_kept_place (Cell n h) = true
is_kept_place location = false

-- of what a place is read
abbrev pub reads_at : OperandPlace → List Loc
reads_at place = makes_of (taking (Temp 0) place)

pub taking_makes : (to : Loc) (place : OperandPlace) → makes_of (taking to place) ≡ reads_at place
taking_makes to (constant w n) = refl
taking_makes to (byte location) = refl
taking_makes to (word low high) = refl
taking_makes to (memory w at) = refl
taking_makes to (address distance) = refl
taking_makes to (computed e) = refl

pub taking_writes : (to : Loc) (place : OperandPlace) → written_by (taking to place) ≡ to ∷ []
taking_writes to (constant w n) = refl
taking_writes to (byte location) = refl
taking_writes to (word low high) = refl
taking_writes to (memory w at) = refl
taking_writes to (address distance) = refl
taking_writes to (computed e) = refl

pub taking_useless : (to : Loc) (place : OperandPlace) → used_by (taking to place) ≡ []
taking_useless to (constant w n) = refl
taking_useless to (byte location) = refl
taking_useless to (word low high) = refl
taking_useless to (memory w at) = refl
taking_useless to (address distance) = refl
taking_useless to (computed e) = refl

pub before_taking : (to : Loc) (place : OperandPlace) (m : Loc) → before (taking to place) m ≡ (if same_location m to then reads_at place else m ∷ [])
before_taking to place m =
    ap (λ ls. if is_among ls m then makes_of (taking to place) else m ∷ []) (taking_writes to place)
    ∙ ap (λ b. if b then makes_of (taking to place) else m ∷ []) (or_none (same_location m to))
    ∙ ap (λ ls. if same_location m to then ls else m ∷ []) (taking_makes to place)

-- Two operands are taken.

left_is_right : (w : Width) → same_location (left_place w) (right_place w) ≡ false
left_is_right byte_width = refl
left_is_right word_width = refl

right_is_left : (w : Width) → same_location (right_place w) (left_place w) ≡ false
right_is_left byte_width = refl
right_is_left word_width = refl

pub left_itself : (w : Width) → same_location (left_place w) (left_place w) ≡ true
left_itself byte_width = refl
left_itself word_width = refl

right_itself : (w : Width) → same_location (right_place w) (right_place w) ≡ true
right_itself byte_width = refl
right_itself word_width = refl

-- no temporary
abbrev pub is_lasting : Loc → Bool
is_lasting (Temp n) = false
is_lasting location = true

pub lasts_left : (w : Width) (l : Loc) → is_lasting l ≡ true → same_location l (left_place w) ≡ false
lasts_left byte_width (Half r h) t = refl
lasts_left word_width (Half r h) t = refl
lasts_left byte_width (Flag f) t = refl
lasts_left word_width (Flag f) t = refl
lasts_left byte_width (Cell n h) t = refl
lasts_left word_width (Cell n h) t = refl
lasts_left w (Temp n) t = absurd (true≢false (sym t))

pub lasts_right : (w : Width) (l : Loc) → is_lasting l ≡ true → same_location l (right_place w) ≡ false
lasts_right byte_width (Half r h) t = refl
lasts_right word_width (Half r h) t = refl
lasts_right byte_width (Flag f) t = refl
lasts_right word_width (Flag f) t = refl
lasts_right byte_width (Cell n h) t = refl
lasts_right word_width (Cell n h) t = refl
lasts_right w (Temp n) t = absurd (true≢false (sym t))

module _ (w : Width) (first second : OperandPlace) where
  abbrev pub two_taken : List Stmt
  two_taken = taking (left_place w) first ∷ taking (right_place w) second ∷ []

  -- of what a location is made, where both operands are taken first
  abbrev pub before_both : Loc → List Loc
  before_both m = flat_map (before (taking (left_place w) first)) (before (taking (right_place w) second) m)

  taken_before_first : (m : Loc) → is_lasting m ≡ true → before (taking (left_place w) first) m ≡ m ∷ []
  taken_before_first m t = before_taking (left_place w) first m ∙ ap (λ b. if b then reads_at first else m ∷ []) (lasts_left w m t)

  pub both_lasting : (m : Loc) → is_lasting m ≡ true → before_both m ≡ m ∷ []
  both_lasting m t =
      ap (flat_map (before (taking (left_place w) first))) (before_taking (right_place w) second m ∙ ap (λ b. if b then reads_at second else m ∷ []) (lasts_right w m t))
      ∙ append-nil (before (taking (left_place w) first) m) ∙ taken_before_first m t

  pub both_left : before_both (left_place w) ≡ reads_at first
  both_left =
      ap (flat_map (before (taking (left_place w) first))) (before_taking (right_place w) second (left_place w) ∙ ap (λ b. if b then reads_at second else left_place w ∷ []) (left_is_right w))
      ∙ append-nil (before (taking (left_place w) first) (left_place w))
      ∙ before_taking (left_place w) first (left_place w) ∙ ap (λ b. if b then reads_at first else left_place w ∷ []) (left_itself w)

  pub both_right : list_all is_lasting (reads_at second) ≡ true → before_both (right_place w) ≡ reads_at second
  both_right lasting =
      ap (flat_map (before (taking (left_place w) first))) (before_taking (right_place w) second (right_place w) ∙ ap (λ b. if b then reads_at second else right_place w ∷ []) (right_itself w))
      ∙ flat_still (before (taking (left_place w) first)) is_lasting taken_before_first (reads_at second) lasting

  -- what the statements make of two that are taken first
  pub sources_taken : (ss : List Stmt) (m : Loc) → sources (taking (left_place w) first ∷ taking (right_place w) second ∷ ss) m ≡ flat_map before_both (sources ss m)
  sources_taken ss m = flat_twice (before (taking (left_place w) first)) (before (taking (right_place w) second)) (sources ss m)

  pub used_taken : (ss : List Stmt) (after : List Loc) → used (taking (left_place w) first ∷ taking (right_place w) second ∷ ss) after ≡ flat_map before_both (used ss after)
  used_taken ss after =
      ap (λ ls. ls ++ flat_map (before (taking (left_place w) first)) (used_by (taking (right_place w) second) ++ flat_map (before (taking (right_place w) second)) (used ss after))) (taking_useless (left_place w) first)
      ∙ ap (λ ls. flat_map (before (taking (left_place w) first)) (ls ++ flat_map (before (taking (right_place w) second)) (used ss after))) (taking_useless (right_place w) second)
      ∙ flat_twice (before (taking (left_place w) first)) (before (taking (right_place w) second)) (used ss after)

-- Storing.

-- the locations at which a place stores
abbrev pub outs : OperandPlace → List Loc
outs (byte location) = location ∷ []
outs (word low high) = low ∷ high ∷ []
outs place = []

abbrev pub is_stored : OperandPlace → Bool
is_stored (memory w at) = true
is_stored place = false

-- where the halves of a place are kept
abbrev pub has_kept : OperandPlace → Bool
has_kept (byte location) = is_kept_place location
has_kept (word low high) = is_kept_place low && is_kept_place high
has_kept place = true

kept_temp : (w : Width) (l : Loc) → is_kept_place l ≡ true → same_location (result_place w) l ≡ false
kept_temp byte_width (Half r h) t = refl
kept_temp word_width (Half r h) t = refl
kept_temp byte_width (Cell n h) t = refl
kept_temp word_width (Cell n h) t = refl
kept_temp w (Flag f) t = absurd (true≢false (sym t))
kept_temp w (Temp n) t = absurd (true≢false (sym t))

-- what the storing statements write is made of the result
pub sources_storing : (w : Width) (place : OperandPlace) (m : Loc) → has_kept place ≡ true → HaveSame (sources (storing place (result w)) m) (if is_among (outs place) m then result_place w ∷ [] else m ∷ [])
sources_storing w (constant v n) m t = have_itself (m ∷ [])
sources_storing w (address distance) m t = have_itself (m ∷ [])
sources_storing w (computed e) m t = have_itself (m ∷ [])
sources_storing w (memory v at) m t = have_itself (m ∷ [])
sources_storing w (byte location) m t = have_equal (sources (Set location (result w) ∷ []) m) (if is_among (location ∷ []) m then result_place w ∷ [] else m ∷ []) (append-nil (before (Set location (result w)) m))
sources_storing w (word low high) m t = have_equal (sources (storing (word low high) (result w)) m) (if is_among (outs (word low high)) m then result_place w ∷ [] else m ∷ []) (by (same_location m low) (same_location m high) refl refl)
  where
    of_high : (b : Bool) → same_location m high ≡ b → sources (storing (word low high) (result w)) m ≡ flat_map (before (Set low (Part 8 0 (result w)))) ((if b || false then result_place w ∷ [] else m ∷ []) ++ [])
    of_high b f = ap (λ c. flat_map (before (Set low (Part 8 0 (result w)))) ((if c || false then result_place w ∷ [] else m ∷ []) ++ [])) f

    result_stays : sources (Set low (Part 8 0 (result w)) ∷ []) (result_place w) ≡ result_place w ∷ []
    result_stays = ap (λ c. (if c || false then result_place w ∷ [] else result_place w ∷ []) ++ []) (kept_temp w low (and_left (is_kept_place low) (is_kept_place high) t))

    by : (a b : Bool) → same_location m low ≡ a → same_location m high ≡ b
        → sources (storing (word low high) (result w)) m ≡ (if is_among (outs (word low high)) m then result_place w ∷ [] else m ∷ [])
    by true true e f = of_high true f ∙ result_stays ∙ sym (ap (λ c. if c || (same_location m high || false) then result_place w ∷ [] else m ∷ []) e)
    by false true e f =
        of_high true f ∙ result_stays ∙ sym (ap (λ c. if c || (same_location m high || false) then result_place w ∷ [] else m ∷ []) e ∙ ap (λ c. if c || false then result_place w ∷ [] else m ∷ []) f)
    by true false e f =
        of_high false f ∙ ap (λ c. (if c || false then result_place w ∷ [] else m ∷ []) ++ []) e ∙ sym (ap (λ c. if c || (same_location m high || false) then result_place w ∷ [] else m ∷ []) e)
    by false false e f =
        of_high false f ∙ ap (λ c. (if c || false then result_place w ∷ [] else m ∷ []) ++ []) e
        ∙ sym (ap (λ c. if c || (same_location m high || false) then result_place w ∷ [] else m ∷ []) e ∙ ap (λ c. if c || false then result_place w ∷ [] else m ∷ []) f)

-- what the storing statements use: of a store to memory the address and the result
pub used_storing : (w : Width) (place : OperandPlace) → used (storing place (result w)) [] ≡ (if is_stored place then reads_at place ++ (result_place w ∷ []) else [])
used_storing w (constant v n) = refl
used_storing w (address distance) = refl
used_storing w (computed e) = refl
used_storing w (memory v at) = append-nil (reads_at (memory v at) ++ (result_place w ∷ []))
used_storing w (byte location) = refl
used_storing w (word low high) = refl

pub written_storing : (w : Width) (place : OperandPlace) (m : Loc) → is_written (storing place (result w)) m ≡ is_among (outs place) m
written_storing w (constant v n) m = refl
written_storing w (address distance) m = refl
written_storing w (computed e) m = refl
written_storing w (memory v at) m = refl
written_storing w (byte location) m = refl
written_storing w (word low high) m = by (same_location m low) (same_location m high)
  where
    by : (a b : Bool) → ((false || (b || false)) || (a || false)) ≡ (a || (b || false))
    by true true = refl
    by true false = refl
    by false true = refl
    by false false = refl

pub values_storing : (w : Width) (place : OperandPlace) → list_all is_value (storing place (result w)) ≡ true
values_storing w (constant v n) = refl
values_storing w (address distance) = refl
values_storing w (computed e) = refl
values_storing w (memory v at) = refl
values_storing byte_width (byte (Half r h)) = refl
values_storing word_width (byte (Half r h)) = refl
values_storing byte_width (byte (Cell n h)) = refl
values_storing word_width (byte (Cell n h)) = refl
values_storing byte_width (byte (Flag f)) = refl
values_storing word_width (byte (Flag f)) = refl
values_storing byte_width (byte (Temp n)) = refl
values_storing word_width (byte (Temp n)) = refl
values_storing w (word low high) = values_word low high
  where
    values_part : (l : Loc) (k : ℕ) → is_value (Set l (Part 8 k (result w))) ≡ true
    values_part (Half r h) k = refl
    values_part (Cell n h) k = refl
    values_part (Flag f) k = refl
    values_part (Temp n) k = refl

    values_word : (low high : Loc) → list_all is_value (storing (word low high) (result w)) ≡ true
    values_word low high = and_both (is_value (Set low (Part 8 0 (result w)))) (is_value (Set high (Part 8 8 (result w))) && true) (values_part low 0)
        (and_both (is_value (Set high (Part 8 8 (result w)))) true (values_part high 8) refl)
