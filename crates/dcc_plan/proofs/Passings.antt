-- What the inner run makes of arguments: the values of the callee's locations, and the memory.
use Rattle.std.proofs.Common.{◌≡◌, ℕ, ◌+◌, ◌*◌, ◌/◌, ◌%◌, Bool, true, false, inl, inr, List, [], ◌∷◌, ◌++◌, Some, None, refl, sym, ap, ◌∙◌, subst, true≢false, arith}
use Rattle.std.specs.Prelude.{◌||◌, not, if◌then◌else◌, slice_set}
use Rattle.std.proofs.lemmas.Bool.{and_parts, or_parts, or_left, not-true, or_from}
use Rattle.std.proofs.lemmas.List.Folds.{list_any-append}
use Rattle.dcc_ir.specs.declared.syntax.Loc.{Loc}
use Rattle.dcc_ir.specs.declared.syntax.Put.{Put}
use Rattle.dcc_ir.specs.declared.syntax.Put.TheVariants.{Memory, One, Two}
use Rattle.dcc_ir.specs.declared.syntax.Param.{Param}
use Rattle.dcc_ir.specs.Live.{is_among}
use Rattle.dcc_ir.specs.Location.{same_location, Values, with_value}
use Rattle.dcc_ir.specs.Run.{State, putting, passing}
use Rattle.dcc_ir.specs.Value.{with_bytes_at}
use Rattle.dcc_ir.proofs.LocationLaws.{location_same, location_itself}
use Rattle.dcc_ir.proofs.PathLaws.{decided, or_false}
use Rattle.dcc_c.specs.Memory.{store}
use Rattle.dcc_variables.proofs.Lists.{among-left, among-right}
use Rattle.dcc_variables.specs.Functions.{is_taken_whole, place_from}
use Rattle.dcc_plan.specs.Calls.{byte_places, places, all_byte_places, all_places, locations_differ}

-- The state.

abbrev pub put_values : Put → ℕ → Values → Values
put_values Memory n values = values
put_values (One location) n values = with_value values location n
put_values (Two low high) n values = with_value (with_value values low (n % 256)) high (n / 256)

abbrev pub values_after : List Param → List ℕ → Values → Values
values_after (p ∷ params) (n ∷ ns) values = values_after params ns (put_values p.put n values)
values_after _ _ values = values

abbrev pub put_memory : ℕ → ℕ → Put → ℕ → List ℕ → List ℕ
put_memory base j Memory n memory = with_bytes_at memory 2 (base + 2 * j) n
put_memory base j _ n memory = memory

abbrev pub memory_after : ℕ → ℕ → List Param → List ℕ → List ℕ → List ℕ
memory_after base j (p ∷ params) (n ∷ ns) memory = memory_after base (j + 1) params ns (put_memory base j p.put n memory)
memory_after base j _ _ memory = memory

-- a state with other values and another memory
abbrev with_both : State → Values → List ℕ → State
with_both s values memory = record s { running = record (s.running) { values = values }; memory = memory }

putting-is : (j : ℕ) (put : Put) (n : ℕ) (s : State) → putting j put n s ≡ with_both s (put_values put n s.running.values) (put_memory s.running.base j put n s.memory)
putting-is j Memory n s = refl
putting-is j (One location) n s = refl
putting-is j (Two low high) n s = refl

pub passing-is : (j : ℕ) (params : List Param) (ns : List ℕ) (s : State)
    → passing j params ns s ≡ with_both s (values_after params ns s.running.values) (memory_after s.running.base j params ns s.memory)
passing-is j [] ns s = refl
passing-is j (p ∷ params) [] s = refl
passing-is j (p ∷ params) (n ∷ ns) s =
    passing-is (j + 1) params ns (putting j p.put n s)
    ∙ ap (λ u. with_both u (values_after params ns u.running.values) (memory_after u.running.base (j + 1) params ns u.memory)) (putting-is j p.put n s)

-- Values.

-- a location that takes nothing stays
put-other : (put : Put) (n : ℕ) (values : Values) (l : Loc) → is_among (places put) l ≡ false → put_values put n values l ≡ values l
put-other Memory n values l none = refl
put-other (One location) n values l none = ap (λ b. if b then n else values l) (or_parts (same_location l location) false none).0
put-other (Two low high) n values l none =
    let (first, rest) = or_parts (same_location l low) (same_location l high || false) none in
    ap (λ b. if b then n / 256 else with_value values low (n % 256) l) (or_parts (same_location l high) false rest).0
    ∙ ap (λ b. if b then n % 256 else values l) first

-- among the places of the first param or of the others
among-parts : (put : Put) (params : List Param) (l : Loc) → is_among (places put ++ all_places params) l ≡ false
    → (is_among (places put) l ≡ false) × (is_among (all_places params) l ≡ false)
among-parts put params l none =
    or_parts (is_among (places put) l) (is_among (all_places params) l) (sym (list_any-append (same_location l) (places put) (all_places params)) ∙ none)

pub values-other : (params : List Param) (ns : List ℕ) (values : Values) (l : Loc) → is_among (all_places params) l ≡ false → values_after params ns values l ≡ values l
values-other [] ns values l none = refl
values-other (p ∷ params) [] values l none = refl
values-other (p ∷ params) (n ∷ ns) values l none =
    let (here, later) = among-parts p.put params l none in
    values-other params ns (put_values p.put n values) l later ∙ put-other p.put n values l here

-- Locations that differ.

differ-later : (xs ys : List Loc) → locations_differ (xs ++ ys) ≡ true → locations_differ ys ≡ true
differ-later [] ys differ = differ
differ-later (x ∷ xs) ys differ = differ-later xs ys (and_parts (not (is_among (xs ++ ys) x)) (locations_differ (xs ++ ys)) differ).1

pub others-differ : (p : Param) (params : List Param) → locations_differ (all_places (p ∷ params)) ≡ true → locations_differ (all_places params) ≡ true
others-differ p params differ = differ-later (places p.put) (all_places params) differ

-- the first of the locations is none of the others
first-apart : (x : Loc) (xs : List Loc) → locations_differ (x ∷ xs) ≡ true → is_among xs x ≡ false
first-apart x xs differ = not-true (is_among xs x) (and_parts (not (is_among xs x)) (locations_differ xs) differ).0

-- what a location has that takes a whole argument
pub whole-value : (put : Put) (params : List Param) (n : ℕ) (ns : List ℕ) (values : Values) (l : Loc) → put ≡ One l → locations_differ (places put ++ all_places params) ≡ true
    → values_after params ns (put_values put n values) l ≡ n
whole-value put params n ns values l is differ =
    ap (λ k. values_after params ns (put_values k n values) l) is
    ∙ values-other params ns (with_value values l n) l (first-apart l (all_places params) (subst (λ k. locations_differ (places k ++ all_places params) ≡ true) is differ))
    ∙ ap (λ b. if b then n else values l) (location_itself l)

-- a location that takes the low byte of an argument holds it after all params were put
pub low-value : (low high : Loc) (params : List Param) (n : ℕ) (ns : List ℕ) (values : Values) → locations_differ (low ∷ high ∷ all_places params) ≡ true
    → values_after params ns (put_values (Two low high) n values) low ≡ n % 256
low-value low high params n ns values differ =
    let (apart, rest) = or_parts (same_location low high) (is_among (all_places params) low) (first-apart low (high ∷ all_places params) differ) in
    values-other params ns (put_values (Two low high) n values) low rest
    ∙ ap (λ b. if b then n / 256 else with_value values low (n % 256) low) apart
    ∙ ap (λ b. if b then n % 256 else values low) (location_itself low)

pub high-value : (low high : Loc) (params : List Param) (n : ℕ) (ns : List ℕ) (values : Values) → locations_differ (low ∷ high ∷ all_places params) ≡ true
    → values_after params ns (put_values (Two low high) n values) high ≡ n / 256
high-value low high params n ns values differ =
    values-other params ns (put_values (Two low high) n values) high (first-apart high (all_places params) (differ-later (low ∷ []) (high ∷ all_places params) differ))
    ∙ ap (λ b. if b then n / 256 else with_value values low (n % 256) high) (location_itself high)

-- A location that takes no whole argument and no byte of one takes nothing.

none-there : (put : Put) (l : Loc) → is_taken_whole put l ≡ false → is_among (byte_places put) l ≡ false → is_among (places put) l ≡ false
none-there Memory l whole bytes = refl
none-there (One other) l whole bytes = or_from (same_location l other) false whole refl
none-there (Two low high) l whole bytes = bytes

pub takes-none : (params : List Param) (j : ℕ) (l : Loc) → place_from j params l ≡ None → is_among (all_byte_places params) l ≡ false → is_among (all_places params) l ≡ false
takes-none [] j l whole bytes = refl
takes-none (p ∷ params) j l whole bytes =
    let (here, later) = or_parts (is_among (byte_places p.put) l) (is_among (all_byte_places params) l)
    (sym (list_any-append (same_location l) (byte_places p.put) (all_byte_places params)) ∙ bytes) in
    by (is_taken_whole p.put l) refl whole here (λ rest. takes-none params (j + 1) l rest later)
  where
    by : (b : Bool) → is_taken_whole p.put l ≡ b → (if b then Some j else place_from (j + 1) params l) ≡ None → is_among (byte_places p.put) l ≡ false
        → (place_from (j + 1) params l ≡ None → is_among (all_places params) l ≡ false) → is_among (places p.put ++ all_places params) l ≡ false
    by true is whole here later = absurd cc
    by false is whole here later =
        list_any-append (same_location l) (places p.put) (all_places params)
        ∙ or_from (is_among (places p.put) l) (is_among (all_places params) l) (none-there p.put l is here) (later whole)

-- Memory.

-- a word is stored at an address that is cut to 16 bits
pub word-stored : (memory : List ℕ) (at n : ℕ) → store 2 memory (at % 65536) n ≡ with_bytes_at memory 2 at n
word-stored memory at n =
    ap (λ a. slice_set (slice_set memory a (n % 256)) ((at % 65536 + 1) % 65536) (n / 256 % 256)) once
    ∙ ap (λ a. slice_set (slice_set memory (at % 65536) (n % 256)) a (n / 256 % 256)) next
  where
    once : at % 65536 % 65536 ≡ at % 65536
    once = omega arith

    next : (at % 65536 + 1) % 65536 ≡ (at + 1) % 65536
    next = omega arith

-- A location that takes a byte takes no whole argument.

bytes-there : (put : Put) (l : Loc) → is_among (byte_places put) l ≡ true → is_among (places put) l ≡ true
bytes-there Memory l there = absurd (true≢false (sym there))
bytes-there (One location) l there = absurd (true≢false (sym there))
bytes-there (Two low high) l there = there

all-bytes-there : (params : List Param) (l : Loc) → is_among (all_byte_places params) l ≡ true → is_among (all_places params) l ≡ true
all-bytes-there [] l there = there
all-bytes-there (p ∷ params) l there = elim (decided (is_among (byte_places p.put) l)) [
  | inl here ↦ among-left (places p.put) (all_places params) l (bytes-there p.put l here)
  | inr away ↦
      among-right (places p.put) (all_places params) l
      (all-bytes-there params l (or_false (is_among (byte_places p.put) l) (is_among (all_byte_places params) l) away (sym (list_any-append (same_location l) (byte_places p.put) (all_byte_places params)) ∙ there)))
]

no-place : (params : List Param) (j : ℕ) (l : Loc) → is_among (all_places params) l ≡ false → place_from j params l ≡ None
no-place [] j l away = refl
no-place (p ∷ params) j l away =
    let (here, later) = among-parts p.put params l away in
    ap (λ b. if b then Some j else place_from (j + 1) params l) (apart p.put here) ∙ no-place params (j + 1) l later
  where
    apart : (put : Put) → is_among (places put) l ≡ false → is_taken_whole put l ≡ false
    apart Memory none = refl
    apart (One other) none = (or_parts (same_location l other) false none).0
    apart (Two low high) none = refl

-- what stands in the first of two lists whose locations differ is not in the second
in-one : (xs ys : List Loc) (l : Loc) → locations_differ (xs ++ ys) ≡ true → is_among xs l ≡ true → is_among ys l ≡ false
in-one [] ys l differ there = absurd (true≢false (sym there))
in-one (x ∷ xs) ys l differ there =
    let (front, rest) = and_parts (not (is_among (xs ++ ys) x)) (locations_differ (xs ++ ys)) differ in
    elim (decided (same_location l x)) [
      | inl same ↦
          (or_parts (is_among xs l) (is_among ys l)
          (sym (list_any-append (same_location l) xs ys) ∙ ap (is_among (xs ++ ys)) (location_same l x same) ∙ not-true (is_among (xs ++ ys) x) front)).1
      | inr other ↦ in-one xs ys l rest (or_false (same_location l x) (is_among xs l) other there)
    ]

pub bytes-are-own : (params : List Param) (j : ℕ) (l : Loc) → locations_differ (all_places params) ≡ true → is_among (all_byte_places params) l ≡ true → place_from j params l ≡ None
bytes-are-own [] j l differ there = refl
bytes-are-own (p ∷ params) j l differ there = elim (decided (is_among (byte_places p.put) l)) [
  | inl here ↦
      (let away = in-one (places p.put) (all_places params) l differ (bytes-there p.put l here) in
      ap (λ b. if b then Some j else place_from (j + 1) params l) (no-whole p.put here) ∙ no-place params (j + 1) l away)
  | inr none ↦
      (let later = or_false (is_among (byte_places p.put) l) (is_among (all_byte_places params) l) none (sym (list_any-append (same_location l) (byte_places p.put) (all_byte_places params)) ∙ there) in
      elim (decided (is_taken_whole p.put l)) [
        | inl whole ↦
            absurd (true≢false (sym (all-bytes-there params l later) ∙ in-one (places p.put) (all_places params) l differ (whole-there p.put whole)))
        | inr other ↦ ap (λ b. if b then Some j else place_from (j + 1) params l) other ∙ bytes-are-own params (j + 1) l (others-differ p params differ) later
      ])
]
  where
    no-whole : (put : Put) → is_among (byte_places put) l ≡ true → is_taken_whole put l ≡ false
    no-whole Memory here = refl
    no-whole (One other) here = absurd (true≢false (sym here))
    no-whole (Two low high) here = refl

    whole-there : (put : Put) → is_taken_whole put l ≡ true → is_among (places put) l ≡ true
    whole-there Memory whole = absurd (true≢false (sym whole))
    whole-there (One other) whole = or_left (same_location l other) false whole
    whole-there (Two low high) whole = absurd (true≢false (sym whole))
