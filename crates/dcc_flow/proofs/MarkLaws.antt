-- Laws of sets of locations, and of how code keeps one.
use Rattle.std.proofs.Common.{◌≡◌, ◌≢◌, ℕ, zero, suc, ◌+◌, ◌*◌, ◌/◌, ◌%◌, ◌^◌, ◌<◌, ◌≤◌, Bool, true, false, ◌&&◌, ◌||◌, not, inl, inr, List, [], ◌∷◌, ◌++◌, length, get_or, slice_set, map, drop, filter, refl, sym, ap, ◌∙◌, subst, true≢false, arith, bit_or, Contains}
use Rattle.std.specs.Prelude.{if◌then◌else◌}
use Rattle.std.proofs.lemmas.Bool.{cases_eq, cases_lt}
use Rattle.std.proofs.lemmas.List.{length-set, length-map, get_or_read, get_or-map, get_or-set_same, get_or-set_other, get_or_past, map-append, drop_more}
use Rattle.std.proofs.Common.{drop_of_length-le as drop_past}
use Rattle.std.proofs.lemmas.List.Folds.{list_any-append}
use Rattle.std.proofs.lemmas.List.Elements.{Contains-append_left, Contains-push, Contains-push_cases}
use Rattle.std.proofs.lemmas.Map.Views.{any-filter_same}
use Rattle.dcc_num.specs.declared.Reg.{Reg}
use Rattle.dcc_num.specs.declared.Reg.TheVariants.{Ax, Cx, Dx, Bx, Sp, Bp, Si, Di}
use Rattle.dcc_num.specs.declared.Half.{Half as HalfName}
use Rattle.dcc_num.specs.declared.Half.TheVariants.{Low, High}
use Rattle.dcc_num.specs.declared.FlagName.{FlagName}
use Rattle.dcc_num.specs.declared.FlagName.TheVariants.{Cf, Zf, Sf, Of}
use Rattle.dcc_ir.specs.declared.syntax.Loc.{Loc}
use Rattle.dcc_ir.specs.declared.syntax.Loc.TheVariants.{Half, Flag, Cell, Temp}
use Rattle.dcc_ir.specs.Location.{register_number, half_number, flag_number, same_location}
use Rattle.dcc_ir.specs.Live.{is_among}
use Rattle.dcc_ir.proofs.PathLaws.{decided}
use Rattle.dcc_ir.proofs.LocationLaws.{register_same, half_same, flag_same, location_same, location_itself, contains_among, Contains-none}
use Rattle.dcc_flow.specs.Words.{bit_in}
use Rattle.dcc_flow.proofs.WordLaws.{with_bit, set_here, set_there}
use Rattle.dcc_flow.specs.Marks.{empty, with_one, without_one, with_all, without_all, location_number, members, AreNoted, AreThoseOf}
use mathlib.Core.Path.{fun_ext}

-- Numbers of locations.

register_below : (r : Reg) → register_number r < 8
register_below Ax = omega arith
register_below Cx = omega arith
register_below Dx = omega arith
register_below Bx = omega arith
register_below Sp = omega arith
register_below Bp = omega arith
register_below Si = omega arith
register_below Di = omega arith

half_below : (h : HalfName) → half_number h < 2
half_below Low = omega arith
half_below High = omega arith

flag_below : (f : FlagName) → flag_number f < 4
flag_below Cf = omega arith
flag_below Zf = omega arith
flag_below Sf = omega arith
flag_below Of = omega arith

-- a location is told by its number
pub number_same : (a b : Loc) → location_number a ≡ location_number b → a ≡ b
number_same (Half q h) (Half r k) e =
    let x = half_below h in
    let y = half_below k in
    ap (λ z. Half z h) (register_same q r (omega (arith, e, x, y))) ∙ ap (Half r) (half_same h k (omega (arith, e, x, y)))
number_same (Flag f) (Flag g) e = ap Flag (flag_same f g (omega (arith, e)))
number_same (Cell m h) (Cell n k) e =
    let x = half_below h in
    let y = half_below k in
    let same : m ≡ n = omega (arith, e, x, y) in
    ap (λ z. Cell z h) same ∙ ap (Cell n) (half_same h k (omega (arith, e, x, y)))
number_same (Temp m) (Temp n) e = let same : m ≡ n = omega (arith, e) in ap Temp same
number_same (Half q h) (Flag g) e = let r = register_below q in let x = half_below h in absurd (omega (arith, e, r, x))
number_same (Half q h) (Cell n k) e = let r = register_below q in let x = half_below h in absurd (omega (arith, e, r, x))
number_same (Half q h) (Temp n) e = let r = register_below q in let x = half_below h in absurd (omega (arith, e, r, x))
number_same (Flag f) (Half r k) e = let x = flag_below f in let y = register_below r in let z = half_below k in absurd (omega (arith, e, x, y, z))
number_same (Flag f) (Cell n k) e = let x = flag_below f in absurd (omega (arith, e, x))
number_same (Flag f) (Temp n) e = let x = flag_below f in absurd (omega (arith, e, x))
number_same (Cell m h) (Half r k) e = let y = register_below r in let z = half_below k in absurd (omega (arith, e, y, z))
number_same (Cell m h) (Flag g) e = let y = flag_below g in absurd (omega (arith, e, y))
number_same (Cell m h) (Temp n) e = let y = half_below h in absurd (omega (arith, e, y))
number_same (Temp m) (Half r k) e = let y = register_below r in let z = half_below k in absurd (omega (arith, e, y, z))
number_same (Temp m) (Flag g) e = let y = flag_below g in absurd (omega (arith, e, y))
number_same (Temp m) (Cell n k) e = let y = half_below k in absurd (omega (arith, e, y))

-- One location.

-- what a place of the list holds after one has changed
set_member : (has : List Bool) (x : Loc) (b : Bool) → location_number x < length has → (l : Loc) → members (slice_set has (location_number x) b) l ≡ (if same_location l x then b else members has l)
set_member has x b inside l = elim (decided (same_location l x)) [
  | inl t ↦
      let same = location_same l x t in
      ap (λ n. get_or (slice_set has (location_number x) b) n false) (ap location_number same) ∙ get_or-set_same has (location_number x) b false inside
      ∙ sym (ap (λ s. if s then b else members has l) t)
  | inr f ↦
      get_or-set_other has (location_number x) (location_number l) b false (λ e. true≢false (sym (subst (λ y. same_location l y ≡ true) (number_same l x e) (location_itself l)) ∙ f))
      ∙ sym (ap (λ s. if s then b else members has l) f)
]

pub marked : (has : List Bool) (x : Loc) → location_number x < length has → members (slice_set has (location_number x) true) ≡ with_one (members has) x
marked has x inside = fun_ext (λ l. set_member has x true inside l ∙ one (same_location l x) (members has l))
  where
    one : (s m : Bool) → (if s then true else m) ≡ (s || m)
    one true m = refl
    one false m = refl

pub unmarked : (has : List Bool) (x : Loc) → location_number x < length has → members (slice_set has (location_number x) false) ≡ without_one (members has) x
unmarked has x inside = fun_ext (λ l. set_member has x false inside l ∙ one (same_location l x) (members has l))
  where
    one : (s m : Bool) → (if s then false else m) ≡ (not s && m)
    one true m = refl
    one false m = refl

-- a location that is in the set already
pub marked_still : (has : List Bool) (x : Loc) → members has x ≡ true → members has ≡ with_one (members has) x
marked_still has x there = fun_ext (λ l. elim (decided (same_location l x)) [
  | inl t ↦ ap (members has) (location_same l x t) ∙ there ∙ sym (ap (λ s. s || members has l) t)
  | inr f ↦ sym (ap (λ s. s || members has l) f)
])

-- a location that is not in the set
pub unmarked_still : (has : List Bool) (x : Loc) → length has ≤ location_number x → members has ≡ without_one (members has) x
unmarked_still has x past = fun_ext (λ l. elim (decided (same_location l x)) [
  | inl t ↦ ap (λ y. get_or has (location_number y) false) (location_same l x t) ∙ get_or_past has (location_number x) false past ∙ sym (ap (λ s. not s && members has l) t)
  | inr f ↦ sym (ap (λ s. not s && members has l) f)
])

-- lists that hold the same keep the same set
pub same_members : (has has' : List Bool) → ((n : ℕ) → get_or has' n false ≡ get_or has n false) → members has' ≡ members has
same_members has has' same = fun_ext (λ l. same (location_number l))

pub none_members : (has : List Bool) → ((n : ℕ) → get_or has n false ≡ false) → members has ≡ empty
none_members has none = fun_ext (λ l. none (location_number l))

-- room at the end of a list holds false
pub room_same : (has : List Bool) (n : ℕ) → get_or (has ++ false ∷ []) n false ≡ get_or has n false
room_same [] zero = refl
room_same [] (suc n) = refl
room_same (b ∷ has) zero = refl
room_same (b ∷ has) (suc n) = room_same has n

-- What was noted.

pub noted_more : (has : List Bool) (noted : List Loc) (x : Loc) → AreNoted has noted → AreNoted (slice_set has (location_number x) true) (noted ++ x ∷ [])
noted_more has noted x are n e =
    let numbers = map location_number noted in
    subst (λ xs. Contains xs n) (sym (map-append location_number noted (x ∷ []))) (elim (cases_eq n (location_number x)) [
      | inl same ↦ subst (λ m. Contains (numbers ++ location_number x ∷ []) m) (sym same) (Contains-push numbers (location_number x))
      | inr other ↦ Contains-append_left numbers (location_number x ∷ []) n (are n (sym (get_or-set_other has (location_number x) n true false other) ∙ e))
    ])

pub noted_still : (has has' : List Bool) (noted : List Loc) → ((n : ℕ) → get_or has' n false ≡ get_or has n false) → AreNoted has noted → AreNoted has' noted
noted_still has has' noted same are n e = are n (sym (same n) ∙ e)

-- a place that is cleared holds true no more
cleared : (has : List Bool) (at n : ℕ) → get_or (slice_set has at false) n false ≡ true → (n ≢ at) × (get_or has n false ≡ true)
cleared has at n e = elim (cases_eq n at) [
  | inl same ↦ absurd (elim (cases_lt at (length has)) [
    | inl inside ↦ true≢false (sym e ∙ ap (λ k. get_or (slice_set has at false) k false) same ∙ get_or-set_same has at false false inside)
    | inr past ↦ true≢false (sym e ∙ ap (λ k. get_or (slice_set has at false) k false) same ∙ get_or_past (slice_set has at false) at false (omega (arith, length-set has at false, past)))
  ])
  | inr other ↦ (other, sym (get_or-set_other has at n false false other) ∙ e)
]

pub noted_cleared : (has : List Bool) (noted : List Loc) (at : ℕ) → AreNoted has noted → AreNoted (slice_set has at false) noted
noted_cleared has noted at are n e = are n (cleared has at n e).1

-- the last location that was noted is taken out
pub noted_less : (has : List Bool) (noted rest : List Loc) (x : Loc) → noted ≡ rest ++ x ∷ [] → AreNoted has noted → AreNoted (slice_set has (location_number x) false) rest
noted_less has noted rest x is are n e =
    let was = cleared has (location_number x) n e in
    let there = subst (λ xs. Contains xs n) (ap (map location_number) is ∙ map-append location_number rest (x ∷ [])) (are n was.1) in
    elim (Contains-push_cases (map location_number rest) (location_number x) n there) [ inl c ↦ c | inr same ↦ absurd (was.0 (sym same)) ]

pub noted_less_past : (has : List Bool) (noted rest : List Loc) (x : Loc) → noted ≡ rest ++ x ∷ [] → length has ≤ location_number x → AreNoted has noted → AreNoted has rest
noted_less_past has noted rest x is past are n e =
    let there = subst (λ xs. Contains xs n) (ap (map location_number) is ∙ map-append location_number rest (x ∷ [])) (are n e) in
    elim (Contains-push_cases (map location_number rest) (location_number x) n there) [
      | inl c ↦ c
      | inr same ↦ absurd (true≢false (sym e ∙ get_or_past has n false (omega (arith, same, past))))
    ]

pub none_noted : (has : List Bool) (noted : List Loc) → noted ≡ [] → AreNoted has noted → (n : ℕ) → get_or has n false ≡ false
none_noted has noted is are n = elim (decided (get_or has n false)) [
  | inl t ↦ absurd (Contains-none n (subst (λ xs. Contains (map location_number xs) n) is (are n t)))
  | inr f ↦ f
]

-- a location whose number is noted is noted
noted_location : (noted : List Loc) (x : Loc) → Contains (map location_number noted) (location_number x) → Contains noted x
noted_location noted x c =
    let inside : c.0 < length noted = omega (arith, c.1, length-map noted location_number) in
    (c.0, inside, number_same (get_or noted c.0 x) x (sym (get_or-map location_number noted c.0 x (location_number x) inside) ∙ c.2))

-- what was noted and is in the set is all that is in the set
pub noted_members : (has : List Bool) (noted : List Loc) → AreNoted has noted → (x : Loc) → is_among (filter (members has) noted) x ≡ members has x
noted_members has noted are x =
    any-filter_same (same_location x) (members has) (members has x) (λ y same. ap (members has) (sym (location_same x y same))) noted
    ∙ go (members has x) (λ t. contains_among noted x (noted_location noted x (are (location_number x) t)))
  where
    go : (b : Bool) → (b ≡ true → is_among noted x ≡ true) → (b && is_among noted x) ≡ b
    go true there = there refl
    go false there = refl

-- Lists of locations.

pub with_none : (has : Loc → Bool) → with_all has [] ≡ has
with_none has = refl

pub with_more : (has : Loc → Bool) (x : Loc) (xs : List Loc) → with_all (with_one has x) xs ≡ with_all has (x ∷ xs)
with_more has x xs = fun_ext (λ l. swap (same_location l x) (is_among xs l) (has l))
  where
    swap : (a b c : Bool) → (b || (a || c)) ≡ ((a || b) || c)
    swap true true c = refl
    swap true false c = refl
    swap false true c = refl
    swap false false c = refl

pub without_more : (has : Loc → Bool) (x : Loc) (xs : List Loc) → without_all (without_one has x) xs ≡ without_all has (x ∷ xs)
without_more has x xs = fun_ext (λ l. swap (same_location l x) (is_among xs l) (has l))
  where
    swap : (a b c : Bool) → (not b && (not a && c)) ≡ (not (a || b) && c)
    swap true true c = refl
    swap true false c = refl
    swap false true c = refl
    swap false false c = refl

-- The loops of add_all and remove_all go on, and end.

pub add_at : (has has' : List Bool) (locations : List Loc) (i : ℕ) (d : Loc) → i < length locations → members has' ≡ with_one (members has) (get_or locations i d) →
    with_all (members has') (drop (i + 1) locations) ≡ with_all (members has) (drop i locations)
add_at has has' locations i d inside is =
    ap (λ m. with_all m (drop (i + 1) locations)) is ∙ with_more (members has) (get_or locations i d) (drop (i + 1) locations)
    ∙ sym (ap (with_all (members has)) (drop_more locations i d inside))

pub remove_at : (has has' : List Bool) (locations : List Loc) (i : ℕ) (d : Loc) → i < length locations → members has' ≡ without_one (members has) (get_or locations i d) →
    without_all (members has') (drop (i + 1) locations) ≡ without_all (members has) (drop i locations)
remove_at has has' locations i d inside is =
    ap (λ m. without_all m (drop (i + 1) locations)) is ∙ without_more (members has) (get_or locations i d) (drop (i + 1) locations)
    ∙ sym (ap (without_all (members has)) (drop_more locations i d inside))

-- a location that is in the set already
pub add_at_still : (has : List Bool) (locations : List Loc) (i : ℕ) (d : Loc) → i < length locations → members has (get_or locations i d) ≡ true →
    with_all (members has) (drop (i + 1) locations) ≡ with_all (members has) (drop i locations)
add_at_still has locations i d inside there = add_at has has locations i d inside (marked_still has (get_or locations i d) there)

pub add_end : (has : List Bool) (m : Loc → Bool) (locations : List Loc) (i : ℕ) → length locations ≤ i → with_all (members has) (drop i locations) ≡ m → members has ≡ m
add_end has m locations i past is = sym (ap (with_all (members has)) (drop_past locations past)) ∙ is

pub remove_end : (has : List Bool) (m : Loc → Bool) (locations : List Loc) (i : ℕ) → length locations ≤ i → without_all (members has) (drop i locations) ≡ m → members has ≡ m
remove_end has m locations i past is = sym (ap (without_all (members has)) (drop_past locations past)) ∙ is

pub not_false : (b : Bool) → not b ≡ false → b ≡ true
not_false true e = refl
not_false false e = absurd (true≢false e)

pub not_true : (b : Bool) → not b ≡ true → b ≡ false
not_true true e = absurd (true≢false (sym e))
not_true false e = refl

-- Lists whose locations have their bits set.

pub those_still : (list : List Loc) (words more : List ℕ) → ((n : ℕ) → bit_in more n ≡ bit_in words n) → AreThoseOf list words → AreThoseOf list more
those_still list words more same are l = same (location_number l) ∙ are l

pub those_more : (list : List Loc) (words : List ℕ) (x : Loc) (n word : ℕ) → n ≡ location_number x → n / 64 < length words → word ≡ get_or words (n / 64) word → AreThoseOf list words
    → AreThoseOf (list ++ x ∷ []) (slice_set words (n / 64) (bit_or word (1 * 2 ^ (n % 64) % 2 ^ 64)))
those_more list words x n word is within read are =
    subst (λ w. AreThoseOf (list ++ x ∷ []) (slice_set words (n / 64) (bit_or w (1 * 2 ^ (n % 64) % 2 ^ 64)))) (sym (get_or_read words (n / 64) word within read 0))
    (λ l. here l ∙ sym (list_any-append (same_location l) list (x ∷ [])))
  where
    last : (a : Bool) → (a || true) ≡ true
    last true = refl
    last false = refl

    none : (a : Bool) → (a || false) ≡ a
    none true = refl
    none false = refl

    here : (l : Loc) → bit_in (with_bit words n within) (location_number l) ≡ (is_among list l || (same_location l x || false))
    here l = elim (decided (same_location l x)) [
      | inl t ↦
          ap (λ y. bit_in (with_bit words n within) (location_number y)) (location_same l x t) ∙ ap (bit_in (with_bit words n within)) (sym is) ∙ set_here words n within
          ∙ sym (ap (λ s. is_among list l || (s || false)) t ∙ last (is_among list l))
      | inr f ↦
          set_there words n within (location_number l) (λ e. true≢false (sym (subst (λ y. same_location l y ≡ true) (number_same l x (e ∙ is)) (location_itself l)) ∙ f)) ∙ are l
          ∙ sym (ap (λ s. is_among list l || (s || false)) f ∙ none (is_among list l))
    ]
