-- The places of global variables are allowed where none of them offends.
use native.Mathlib.Omega.{arith}
use Rattle.std.proofs.Common.{◌≡◌, ℕ, zero, suc, ◌+◌, ◌*◌, ◌≤◌, ◌<◌, Bool, true, false, ◌&&◌, ◌||◌, ◌==◌, List, [], ◌∷◌, length, map, drop, Option, Some, None, refl, sym, ap, ◌∙◌}
use Rattle.std.proofs.lemmas.Bool.{ltb-false, le-ltb, leb-true, le-leb, eqb-true, lt-ltb, ltb-true}
use Rattle.std.proofs.Math.Bool.{and-false}
use Rattle.std.specs.Prelude.{not, nat_lt, nat_le, option_map, if◌then◌else◌}
use Rattle.std.specs.List.{list_all}
use Rattle.dcc_c.specs.declared.syntax.CType.{CType}
use Rattle.dcc_c.specs.declared.syntax.Base.TheVariants.{Schar, Uchar, Int, Uint, Long, Ulong}
use Rattle.dcc_c.specs.Tree.{Global}
use Rattle.dcc_c.specs.Types.{size_of}
use Rattle.dcc_c.specs.Placement.{elements, bytes_of, after_global}
use Rattle.dcc_c.specs.Rules.{has_element, allows_global, are_apart, all_apart, is_off_stack}
use Rattle.dcc_c.specs.Kinds.{of_place, offence, only_if}
use Rattle.dcc_c.specs.Partial.{WordAt, NumberAt, PartialVariable}
use Rattle.dcc_c.specs.ReadingText.{size_in_bytes}
use Rattle.dcc_c.specs.TextOffences.{size_offences, element_count, first_number, surplus, end_of, stand_apart, is_misplaced, misplaced_at, takes_bytes, globals_places}
use Rattle.dcc_c.specs.Stripped.{plain_type, plain_numbers, plain_global}
use Rattle.dcc_c.specs.Complete.{is_complete_variable}
use Rattle.dcc_c.proofs.refusals.ExprRules.{none-both, none-only, both-empty, and-both, or-left, or-right}
use Rattle.dcc_c.proofs.refusals.StmtRules.{not-true}
use Rattle.dcc_c.proofs.refusals.KnownRules.{Complete, complete-variable}

no-successor : {n : ℕ} → suc n ≡ 0 → ⊥
no-successor e = absurd cc

-- Sizes.

pub size-there : (size : Option NumberAt) → size_offences size ≡ [] → has_element (option_map (λ n. n.value) size) ≡ true
size-there None none = refl
size-there (Some n) none = positive n.value (none-only (n.value == 0) (offence of_place n.at) none) where
  positive : (n : ℕ) → (n == 0) ≡ false → nat_lt 0 n ≡ true
  positive zero e = absurd cc
  positive (suc n) e = lt-ltb 0 (suc n) (omega arith)

pub there-size : (size : Option NumberAt) → has_element (option_map (λ n. n.value) size) ≡ true → size_offences size ≡ []
there-size None e = refl
there-size (Some n) e = ap (λ b. only_if b (offence of_place n.at)) (positive n.value e) where
  positive : (n : ℕ) → nat_lt 0 n ≡ true → (n == 0) ≡ false
  positive zero e = absurd cc
  positive (suc n) e = elim (suc n == 0) as (λ b. (suc n == 0) ≡ b → b ≡ false) [
    | true ↦ λ zero_is. absurd (no-successor (eqb-true (suc n) 0 zero_is))
    | false ↦ λ _. refl
  ] refl

count-elements : (size : Option NumberAt) → element_count size ≡ elements (option_map (λ n. n.value) size)
count-elements None = refl
count-elements (Some n) = refl

drop-none : {A : Type 0} (n : ℕ) (xs : List A) → drop n xs ≡ [] → length xs ≤ n
drop-none n [] e = omega arith
drop-none zero (x ∷ xs) e = absurd cc
drop-none (suc n) (x ∷ xs) e = omega (arith, drop-none n xs e)

none-drop : {A : Type 0} (n : ℕ) (xs : List A) → length xs ≤ n → drop n xs ≡ []
none-drop zero [] e = refl
none-drop (suc n) [] e = refl
none-drop zero (x ∷ xs) e = absurd (omega (arith, e))
none-drop (suc n) (x ∷ xs) e = none-drop n xs (omega (arith, e))

first-none : (numbers : List NumberAt) → first_number numbers ≡ [] → numbers ≡ []
first-none [] e = refl
first-none (n ∷ numbers) e = absurd cc

length-map : (numbers : List NumberAt) → length (plain_numbers numbers) ≡ length numbers
length-map [] = refl
length-map (n ∷ numbers) = ap suc (length-map numbers)

surplus-fits : (v : PartialVariable) → surplus v ≡ [] → nat_le (length (plain_numbers v.init)) (elements (option_map (λ n. n.value) v.size)) ≡ true
surplus-fits v none =
    let few = drop-none (element_count v.size) v.init (first-none (drop (element_count v.size) v.init) none) in
    le-leb (length (plain_numbers v.init)) (elements (option_map (λ n. n.value) v.size)) (omega (arith, few, length-map v.init, count-elements v.size))

fits-surplus : (v : PartialVariable) → nat_le (length (plain_numbers v.init)) (elements (option_map (λ n. n.value) v.size)) ≡ true → surplus v ≡ []
fits-surplus v fit = ap first_number (none-drop (element_count v.size) v.init
    (omega (arith, leb-true (length (plain_numbers v.init)) (elements (option_map (λ n. n.value) v.size)) fit, length-map v.init, count-elements v.size)))

-- Ends.

pub end-is : (v : PartialVariable) → Complete v → end_of v ≡ after_global (plain_global v)
end-is v c =
    ap (λ (o : Option CType). v.address + (elim o [ Some type ↦ bytes_of type (option_map (λ n. n.value) v.size) | None ↦ 0 ])) c.type_is
    ∙ ap (λ o. v.address + bytes_of (plain_type o) (option_map (λ n. n.value) v.size)) (sym c.type_is)

apart-is : (v u : PartialVariable) → Complete v → Complete u → stand_apart v u ≡ are_apart (plain_global v) (plain_global u)
apart-is v u c d = ap (λ n. nat_le n u.address || nat_le (end_of u) v.address) (end-is v c) ∙ ap (λ n. nat_le (after_global (plain_global v)) u.address || nat_le n v.address) (end-is u d)

or-swap : (a b : Bool) → a || b ≡ b || a
or-swap true true = refl
or-swap true false = refl
or-swap false true = refl
or-swap false false = refl

apart-swap : (a b : Global) → are_apart a b ≡ are_apart b a
apart-swap a b = or-swap (nat_le (after_global a) b.at) (nat_le (after_global b) a.at)

-- a variable with an element takes a byte
size-positive : (type : CType) → 0 < size_of type
size-positive type = elim type.pointer as (λ p. 0 < size_of (record { base = type.base; pointer = p })) [
  | true ↦ omega arith
  | false ↦ elim type.base as (λ b. 0 < size_of (record { base = b; pointer = false })) [
    | Schar ↦ omega arith
    | Uchar ↦ omega arith
    | Int ↦ omega arith
    | Uint ↦ omega arith
    | Long ↦ omega arith
    | Ulong ↦ omega arith
  ]
]

positive : (m n : ℕ) → 0 < m → 0 < n → 0 < m * n
positive zero n p q = absurd (omega (arith, p))
positive (suc m) n p q = omega (arith, q)

-- the variable takes a byte
pub bytes-there : (v : PartialVariable) → Complete v → has_element (option_map (λ n. n.value) v.size) ≡ true → 0 < size_in_bytes v
bytes-there v c e =
    let is : size_in_bytes v ≡ bytes_of c.type (option_map (λ n. n.value) v.size) =
    ap (λ (o : Option CType). elim o [ Some type ↦ bytes_of type (option_map (λ n. n.value) v.size) | None ↦ 0 ]) c.type_is in
    omega (arith, is, some-bytes c.type v.size e) where
      some-bytes : (type : CType) (size : Option NumberAt) → has_element (option_map (λ n. n.value) size) ≡ true → 0 < bytes_of type (option_map (λ n. n.value) size)
      some-bytes type None e = positive (size_of type) 1 (size-positive type) (omega arith)
      some-bytes type (Some n) e = positive (size_of type) n.value (size-positive type) (ltb-true 0 n.value e)

-- Places.

-- a variable's own place
record Placed (lo hi : ℕ) (v : PartialVariable) : Type 0 where
  pub allowed : allows_global (plain_global v) ≡ true
  pub off : is_off_stack lo hi (plain_global v) ≡ true

-- A variable that is read to its end, and at which nothing offends, after earlier ones.
own-placed : (lo hi : ℕ) (earlier : List PartialVariable) (v : PartialVariable) → Complete v → size_offences v.size ≡ [] → surplus v ≡ [] →
    (if v.done && is_misplaced lo hi earlier v then misplaced_at v.name else []) ≡ [] → Placed lo hi v × (list_all (stand_apart v) earlier ≡ true)
own-placed lo hi earlier v c size init place =
    let element = size-there v.size size in
    let bytes = lt-ltb 0 (size_in_bytes v) (bytes-there v c element) in
    let wrong : is_misplaced lo hi earlier v ≡ false = elim (is_misplaced lo hi earlier v) as (λ b. is_misplaced lo hi earlier v ≡ b → b ≡ false) [
      | true ↦ λ bad. let both : v.done && is_misplaced lo hi earlier v ≡ true = ap (λ d. d && is_misplaced lo hi earlier v) c.done ∙ bad in
          absurd (not-there c.name (ap misplaced_at (sym c.name_is) ∙ ap (λ (b : Bool). if b then misplaced_at v.name else []) (sym both) ∙ place))
      | false ↦ λ _. refl
    ] refl in
    let inside = sym (ap (λ b. b && (nat_lt 65536 (end_of v) || (not (nat_le hi lo || (nat_le (end_of v) lo || nat_le hi v.address)) || not (list_all (stand_apart v) earlier)))) bytes) ∙ wrong in
    let memory = or-left (nat_lt 65536 (end_of v)) _ inside in
    let others = or-right (nat_lt 65536 (end_of v)) _ inside in
    let stack = not-true _ (or-left (not (nat_le hi lo || (nat_le (end_of v) lo || nat_le hi v.address))) _ others) in
    let free = not-true _ (or-right (not (nat_le hi lo || (nat_le (end_of v) lo || nat_le hi v.address))) (not (list_all (stand_apart v) earlier)) others) in (
      record {
        allowed = rw element (rw (le-leb (after_global (plain_global v)) 65536 (omega (arith, ltb-false 65536 (end_of v) memory, end-is v c))) (surplus-fits v init));
        off = ap (λ n. nat_le hi lo || (nat_le n lo || nat_le hi v.address)) (sym (end-is v c)) ∙ stack;
      },
      free,
    ) where
      not-there : (name : WordAt) → misplaced_at (Some name) ≡ [] → ⊥
      not-there name e = absurd cc

-- each later variable stands apart from one, and from the ones before it
abbrev pub all_off : List PartialVariable → List PartialVariable → Bool
all_off earlier vs = list_all (λ v. list_all (stand_apart v) earlier) vs

-- What is shown of variables: their own places, that they stand apart, and apart from earlier ones.
pub record ArePlaced (lo hi : ℕ) (earlier vs : List PartialVariable) : Type 0 where
  pub allowed : list_all allows_global (map plain_global vs) ≡ true
  pub off : list_all (is_off_stack lo hi) (map plain_global vs) ≡ true
  pub apart : all_apart (map plain_global vs) ≡ true
  pub earlier_apart : all_off earlier vs ≡ true

from-first : (v : PartialVariable) (earlier us : List PartialVariable) → Complete v → list_all is_complete_variable us ≡ true → all_off (v ∷ earlier) us ≡ true →
    (list_all (are_apart (plain_global v)) (map plain_global us) ≡ true) × (all_off earlier us ≡ true)
from-first v earlier [] c whole e = (refl, refl)
from-first v earlier (u ∷ us) c whole e =
    let parts = and-both (is_complete_variable u) (list_all is_complete_variable us) whole in
    let own = and-both (list_all (stand_apart u) (v ∷ earlier)) (all_off (v ∷ earlier) us) e in
    let first = and-both (stand_apart u v) (list_all (stand_apart u) earlier) own.0 in
    let rest = from-first v earlier us c parts.1 own.1 in
    (rw (apart-swap (plain_global v) (plain_global u) ∙ sym (apart-is u v (complete-variable u parts.0) c) ∙ first.0) rest.0, rw first.1 rest.1)

pub places-allowed : (lo hi : ℕ) (earlier vs : List PartialVariable) → list_all is_complete_variable vs ≡ true → globals_places lo hi earlier vs ≡ [] → ArePlaced lo hi earlier vs
places-allowed lo hi earlier [] whole none = record { allowed = refl; off = refl; apart = refl; earlier_apart = refl }
places-allowed lo hi earlier (v ∷ vs) whole none =
    let parts = and-both (is_complete_variable v) (list_all is_complete_variable vs) whole in
    let c = complete-variable v parts.0 in
    let one = none-both (size_offences v.size) _ none in
    let two = none-both (surplus v) _ one.1 in
    let three = none-both (if v.done && is_misplaced lo hi earlier v then misplaced_at v.name else []) _ two.1 in
    let own = own-placed lo hi earlier v c one.0 two.0 three.0 in
    let taken : takes_bytes v ≡ true = rw c.done (lt-ltb 0 (size_in_bytes v) (bytes-there v c (size-there v.size one.0))) in
    let rest = places-allowed lo hi (v ∷ earlier) vs parts.1 (ap (λ (b : Bool). globals_places lo hi (if b then v ∷ earlier else earlier) vs) (sym taken) ∙ three.1) in
    let split = from-first v earlier vs c parts.1 rest.earlier_apart in
    record {
      allowed = rw own.0.allowed rest.allowed;
      off = rw own.0.off rest.off;
      apart = rw split.0 rest.apart;
      earlier_apart = rw own.1 split.1;
    }

-- From the rules to no offence: nothing offends in global variables that keep the rules.

to-first : (v : PartialVariable) (earlier us : List PartialVariable) → Complete v → list_all is_complete_variable us ≡ true →
    list_all (are_apart (plain_global v)) (map plain_global us) ≡ true → all_off earlier us ≡ true → all_off (v ∷ earlier) us ≡ true
to-first v earlier [] c whole first rest = refl
to-first v earlier (u ∷ us) c whole first rest =
    let parts = and-both (is_complete_variable u) (list_all is_complete_variable us) whole in
    let here = and-both (are_apart (plain_global v) (plain_global u)) (list_all (are_apart (plain_global v)) (map plain_global us)) first in
    let own = and-both (list_all (stand_apart u) earlier) (all_off earlier us) rest in
    rw (apart-is u v (complete-variable u parts.0) c ∙ apart-swap (plain_global u) (plain_global v) ∙ here.0) (rw own.0 (to-first v earlier us c parts.1 here.1 own.1))

pub placed-clean : (lo hi : ℕ) (earlier vs : List PartialVariable) → list_all is_complete_variable vs ≡ true → ArePlaced lo hi earlier vs → globals_places lo hi earlier vs ≡ []
placed-clean lo hi earlier [] whole are = refl
placed-clean lo hi earlier (v ∷ vs) whole are =
    let parts = and-both (is_complete_variable v) (list_all is_complete_variable vs) whole in
    let c = complete-variable v parts.0 in
    let allowed = and-both (allows_global (plain_global v)) (list_all allows_global (map plain_global vs)) are.allowed in
    let off = and-both (is_off_stack lo hi (plain_global v)) (list_all (is_off_stack lo hi) (map plain_global vs)) are.off in
    let apart = and-both (list_all (are_apart (plain_global v)) (map plain_global vs)) (all_apart (map plain_global vs)) are.apart in
    let free = and-both (list_all (stand_apart v) earlier) (all_off earlier vs) are.earlier_apart in
    let element = and-both (has_element (option_map (λ n. n.value) v.size)) _ allowed.0 in
    let limits = and-both (nat_le (after_global (plain_global v)) 65536) _ element.1 in
    let taken : takes_bytes v ≡ true = rw c.done (lt-ltb 0 (size_in_bytes v) (bytes-there v c element.0)) in
    let memory : nat_lt 65536 (end_of v) ≡ false = le-ltb 65536 (end_of v) (omega (arith, leb-true (after_global (plain_global v)) 65536 limits.0, end-is v c)) in
    let stack : (nat_le hi lo || (nat_le (end_of v) lo || nat_le hi v.address)) ≡ true = ap (λ n. nat_le hi lo || (nat_le n lo || nat_le hi v.address)) (end-is v c) ∙ off.0 in
    let right : is_misplaced lo hi earlier v ≡ false =
    ap (λ b. nat_lt 0 (size_in_bytes v) && (b || (not (nat_le hi lo || (nat_le (end_of v) lo || nat_le hi v.address)) || not (list_all (stand_apart v) earlier)))) memory
    ∙ ap (λ b. nat_lt 0 (size_in_bytes v) && (not b || not (list_all (stand_apart v) earlier))) stack
    ∙ ap (λ b. nat_lt 0 (size_in_bytes v) && not b) free.0 ∙ and-false (nat_lt 0 (size_in_bytes v)) in
    let own : (if v.done && is_misplaced lo hi earlier v then misplaced_at v.name else []) ≡ [] =
    ap (λ (b : Bool). if v.done && b then misplaced_at v.name else []) right ∙ ap (λ (b : Bool). if b then misplaced_at v.name else []) (and-false v.done) in
    both-empty (there-size v.size element.0) (both-empty (fits-surplus v limits.1) (both-empty own
    (ap (λ (b : Bool). globals_places lo hi (if b then v ∷ earlier else earlier) vs) taken
    ∙ placed-clean lo hi (v ∷ earlier) vs parts.1 (record { allowed = allowed.1; off = off.1; apart = apart.1; earlier_apart = to-first v earlier vs c parts.1 apart.0 free.1 }))))
