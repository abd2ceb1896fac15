-- Numbers of locations: each is its own location's, a location with a number keeps it, and just what is live has one.
use Rattle.std.proofs.Common.{◌≡◌, ℕ, zero, suc, ◌<◌, Bool, true, false, ◌&&◌, ◌||◌, not, inl, inr, List, [], ◌∷◌, ◌++◌, length, get_or, slice_get, slice_set, map, flat_map, Some, None, refl, sym, ap, ◌∙◌, subst, true≢false, arith}
use Rattle.std.specs.Prelude.{if◌then◌else◌, Option, ◌⊎◌}
use Rattle.dcc_ir.specs.declared.syntax.Loc.{Loc}
use Rattle.dcc_ir.specs.Tree.{Stmt, Exit}
use Rattle.dcc_ir.specs.Use.{reads_of, exprs_of, writes_of, exit_exprs}
use Rattle.dcc_ir.specs.Location.{same_location}
use Rattle.dcc_ir.specs.Live.{is_among, reads, reads_first, writes}
use Rattle.dcc_ir.proofs.PathLaws.{decided}
use Rattle.dcc_ir.proofs.LocationLaws.{location_same, location_itself}
use Rattle.std.proofs.lemmas.List.{get_or-set_same, get_or-set_other}
use Rattle.dcc_flow.specs.Marks.{empty, with_one, without_all, location_number}
use Rattle.dcc_flow.proofs.MarkLaws.{number_same}
use mathlib.Core.Path.{fun_ext}
use Rattle.dcc_flow.specs.Access.{Access, access_of}
use Rattle.dcc_live.proofs.RowLaws.{among_append}
use Rattle.dcc_webs.specs.Names.{Names, no_names, is_some, with_number, all_with_numbers, named, all_named, without_names, at_writes, before_one, before_all, at_exit}

-- Lists.

pub slice_get_left : (xs ys : List Loc) (k : ℕ) (x : Loc) → slice_get xs k ≡ Some x → slice_get (xs ++ ys) k ≡ Some x
slice_get_left [] ys k x e = absurd (cc)
slice_get_left (z ∷ xs) ys zero x e = e
slice_get_left (z ∷ xs) ys (suc k) x e = slice_get_left xs ys k x e

pub slice_get_end : (xs : List Loc) (x : Loc) → slice_get (xs ++ x ∷ []) (length xs) ≡ Some x
slice_get_end [] x = refl
slice_get_end (z ∷ xs) x = slice_get_end xs x

-- What the code keeps.

-- the names of locations in a set, by their numbers
abbrev pub names_with : List ℕ → List Loc → (Loc → Bool) → Names
names_with numbers origins has =
    record { number = λ location. if has location then Some (get_or numbers (location_number location) 0) else None; origins = origins }

pub taken_away : (numbers : List ℕ) (origins : List Loc) (has : Loc → Bool) (xs : List Loc) → names_with numbers origins (without_all has xs) ≡ without_names (names_with numbers origins has) xs
taken_away numbers origins has xs = ap (λ (f : Loc → Option ℕ). record { number = f; origins = origins }) (fun_ext (λ l. one (is_among xs l) (has l) (get_or numbers (location_number l) 0)))
  where
    one : (among there : Bool) (n : ℕ) → (if not among && there then Some n else None) ≡ (if among then None else (if there then Some n else None))
    one true there n = refl
    one false there n = refl

pub put_name : (numbers numbers' : List ℕ) (origins : List Loc) (has : Loc → Bool) (x : Loc) → location_number x < length numbers' → ((n : ℕ) → get_or numbers' n 0 ≡ get_or numbers n 0)
    → names_with (slice_set numbers' (location_number x) (length origins)) (origins ++ x ∷ []) (with_one has x) ≡ with_number (names_with numbers origins has) x
put_name numbers numbers' origins has x inside same = ap (λ (f : Loc → Option ℕ). record { number = f; origins = origins ++ x ∷ [] }) (fun_ext go)
  where
    go : (l : Loc) → (if with_one has x l then Some (get_or (slice_set numbers' (location_number x) (length origins)) (location_number l) 0) else None)
        ≡ (if same_location l x then Some (length origins) else (if has l then Some (get_or numbers (location_number l) 0) else None))
    go l = elim (decided (same_location l x)) [
      | inl t ↦
          ap (λ b. if b || has l then Some (get_or (slice_set numbers' (location_number x) (length origins)) (location_number l) 0) else None) t
          ∙ ap (λ y. Some (get_or (slice_set numbers' (location_number x) (length origins)) (location_number y) 0)) (location_same l x t)
          ∙ ap Some (get_or-set_same numbers' (location_number x) (length origins) 0 inside)
          ∙ sym (ap (λ b. if b then Some (length origins) else (if has l then Some (get_or numbers (location_number l) 0) else None)) t)
      | inr f ↦
          ap (λ b. if b || has l then Some (get_or (slice_set numbers' (location_number x) (length origins)) (location_number l) 0) else None) f
          ∙ ap (λ n. if has l then Some n else None)
          (get_or-set_other numbers' (location_number x) (location_number l) (length origins) 0 (λ e. true≢false (sym (subst (λ y. same_location l y ≡ true) (number_same l x e) (location_itself l)) ∙ f)) ∙ same (location_number l))
          ∙ sym (ap (λ b. if b then Some (length origins) else (if has l then Some (get_or numbers (location_number l) 0) else None)) f)
    ]

pub names_none : (numbers : List ℕ) (origins : List Loc) (has : Loc → Bool) → origins ≡ [] → has ≡ empty → names_with numbers origins has ≡ no_names
names_none numbers origins has e f = ap (λ (o : List Loc). names_with numbers o has) e ∙ ap (names_with numbers []) f

pub put_names : (numbers numbers' : List ℕ) (origins origins' : List Loc) (has has' : Loc → Bool) (x : Loc) (place number : ℕ) → place ≡ location_number x → number ≡ length origins → place < length numbers'
    → ((n : ℕ) → get_or numbers' n 0 ≡ get_or numbers n 0) → origins' ≡ origins ++ x ∷ [] → has' ≡ with_one has x
    → names_with (slice_set numbers' place number) origins' has' ≡ with_number (names_with numbers origins has) x
put_names numbers numbers' origins origins' has has' x place number at next inside same more with =
    ap (λ k. names_with (slice_set numbers' k number) origins' has') at ∙ ap (λ k. names_with (slice_set numbers' (location_number x) k) origins' has') next
    ∙ ap (λ (o : List Loc). names_with (slice_set numbers' (location_number x) (length origins)) o has') more
    ∙ ap (names_with (slice_set numbers' (location_number x) (length origins)) (origins ++ x ∷ [])) with
    ∙ put_name numbers numbers' origins has x (omega (arith, at, inside)) same

-- Each number is of its own location.

pub record AreOwn (names : Names) : Type 0 where
  pub own : (l : Loc) (n : ℕ) → names.number l ≡ Some n → slice_get names.origins n ≡ Some l

pub own_none : AreOwn no_names
own_none = record { own = λ l n e. absurd (cc) }

pub own_with : (names : Names) (x : Loc) → AreOwn names → AreOwn (with_number names x)
own_with names x are = record { own = λ l n e. go l n (decided (same_location l x)) e }
  where
    go : (l : Loc) (n : ℕ) → (same_location l x ≡ true) ⊎ (same_location l x ≡ false) → (with_number names x).number l ≡ Some n → slice_get (names.origins ++ x ∷ []) n ≡ Some l
    go l n (inl t) e =
        let here : (with_number names x).number l ≡ Some (length names.origins) = ap (λ b. if b then Some (length names.origins) else names.number l) t in
        let at : length names.origins ≡ n = cc in
        subst (λ k. slice_get (names.origins ++ x ∷ []) k ≡ Some l) at (slice_get_end names.origins x ∙ ap Some (sym (location_same l x t)))
    go l n (inr f) e =
        let there : (with_number names x).number l ≡ names.number l = ap (λ b. if b then Some (length names.origins) else names.number l) f in
        slice_get_left names.origins (x ∷ []) n l (are.own l n (sym there ∙ e))

pub own_all_with : (names : Names) (xs : List Loc) → AreOwn names → AreOwn (all_with_numbers names xs)
own_all_with names [] are = are
own_all_with names (x ∷ xs) are = own_all_with (with_number names x) xs (own_with names x are)

pub own_named : (names : Names) (x : Loc) → AreOwn names → AreOwn (named names x)
own_named names x are = elim (decided (is_some (names.number x))) [
  | inl t ↦ subst (λ b. AreOwn (if b then names else with_number names x)) (sym t) are
  | inr f ↦ subst (λ b. AreOwn (if b then names else with_number names x)) (sym f) (own_with names x are)
]

pub own_all_named : (names : Names) (xs : List Loc) → AreOwn names → AreOwn (all_named names xs)
own_all_named names [] are = are
own_all_named names (x ∷ xs) are = own_all_named (named names x) xs (own_named names x are)

pub own_without : (names : Names) (xs : List Loc) → AreOwn names → AreOwn (without_names names xs)
own_without names xs are = record {
  own = λ l n e. elim (decided (is_among xs l)) [
    | inl t ↦ let none : (without_names names xs).number l ≡ None = ap (λ b. if b then None else names.number l) t in absurd (cc)
    | inr f ↦ let there : (without_names names xs).number l ≡ names.number l = ap (λ b. if b then None else names.number l) f in are.own l n (sym there ∙ e)
  ];
}

pub own_before_one : (a : Access) (names : Names) → AreOwn names → AreOwn (before_one a names)
own_before_one a names are =
    own_all_named (without_names (at_writes a names) a.writes) a.reads (own_without (at_writes a names) a.writes (own_all_named names a.writes are))

pub own_before_all : (stmts : List Access) (names : Names) → AreOwn names → AreOwn (before_all stmts names)
own_before_all [] names are = are
own_before_all (a ∷ stmts) names are = own_before_one a (before_all stmts names) (own_before_all stmts names are)

pub own_at_exit : (live last : List Loc) → AreOwn (at_exit live last)
own_at_exit live last = own_all_named (all_with_numbers no_names live) last (own_all_with no_names live own_none)

-- A location with a number keeps it, and each that is named has one.

-- the location has that number
pub record Has (names : Names) (l : Loc) (n : ℕ) : Type 0 where
  pub is : names.number l ≡ Some n

pub some_has : (names : Names) (l : Loc) → is_some (names.number l) ≡ true → (n : ℕ) × (names.number l ≡ Some n)
some_has names l t = go (names.number l) refl t
  where
    go : (o : Option ℕ) → names.number l ≡ o → is_some o ≡ true → (n : ℕ) × (names.number l ≡ Some n)
    go (Some n) e t = (n, e)
    go None e t = absurd (true≢false (sym t))

pub has_some : (names : Names) (l : Loc) (n : ℕ) → names.number l ≡ Some n → is_some (names.number l) ≡ true
has_some names l n e = ap is_some e

-- a location without a number is another than one with a number
pub stays_named : (names : Names) (x l : Loc) (n : ℕ) → names.number l ≡ Some n → (named names x).number l ≡ Some n
stays_named names x l n e = elim (decided (is_some (names.number x))) [
  | inl t ↦ ap (λ b. (if b then names else with_number names x).number l) t ∙ e
  | inr f ↦ ap (λ b. (if b then names else with_number names x).number l) f ∙ elim (decided (same_location l x)) [
    | inl same ↦ absurd (true≢false (sym (has_some names l n e) ∙ ap (λ y. is_some (names.number y)) (location_same l x same) ∙ f))
    | inr other ↦ ap (λ b. if b then Some (length names.origins) else names.number l) other ∙ e
  ]
]

pub stays_all_named : (names : Names) (xs : List Loc) (l : Loc) (n : ℕ) → names.number l ≡ Some n → (all_named names xs).number l ≡ Some n
stays_all_named names [] l n e = e
stays_all_named names (x ∷ xs) l n e = stays_all_named (named names x) xs l n (stays_named names x l n e)

pub is_named : (names : Names) (x : Loc) → is_some ((named names x).number x) ≡ true
is_named names x = elim (decided (is_some (names.number x))) [
  | inl t ↦ ap (λ b. is_some ((if b then names else with_number names x).number x)) t ∙ t
  | inr f ↦ ap (λ b. is_some ((if b then names else with_number names x).number x)) f ∙ ap (λ b. is_some (if b then Some (length names.origins) else names.number x)) (location_itself x)
]

pub among_named : (names : Names) (xs : List Loc) (l : Loc) → is_among xs l ≡ true → is_some ((all_named names xs).number l) ≡ true
among_named names [] l t = absurd (true≢false (sym t))
among_named names (x ∷ xs) l t = elim (decided (same_location l x)) [
  | inl same ↦
      let here = some_has (named names x) x (is_named names x) in
      has_some (all_named (named names x) xs) l here.0 (stays_all_named (named names x) xs l here.0 (ap (named names x).number (location_same l x same) ∙ here.1))
  | inr other ↦ among_named (named names x) xs l (sym (ap (λ b. b || is_among xs l) other) ∙ t)
]

-- the last of some that take numbers has one
pub with_some : (names : Names) (x l : Loc) → is_some (names.number l) ≡ true → is_some ((with_number names x).number l) ≡ true
with_some names x l t = elim (decided (same_location l x)) [
  | inl same ↦ ap (λ b. is_some (if b then Some (length names.origins) else names.number l)) same
  | inr other ↦ ap (λ b. is_some (if b then Some (length names.origins) else names.number l)) other ∙ t
]

pub all_with_some : (names : Names) (xs : List Loc) (l : Loc) → is_some (names.number l) ≡ true → is_some ((all_with_numbers names xs).number l) ≡ true
all_with_some names [] l t = t
all_with_some names (x ∷ xs) l t = all_with_some (with_number names x) xs l (with_some names x l t)

pub among_with : (names : Names) (xs : List Loc) (l : Loc) → is_among xs l ≡ true → is_some ((all_with_numbers names xs).number l) ≡ true
among_with names [] l t = absurd (true≢false (sym t))
among_with names (x ∷ xs) l t = elim (decided (same_location l x)) [
  | inl same ↦ all_with_some (with_number names x) xs l (ap (λ b. is_some (if b then Some (length names.origins) else names.number l)) same)
  | inr other ↦ among_with (with_number names x) xs l (sym (ap (λ b. b || is_among xs l) other) ∙ t)
]

-- what is not taken away stays
pub stays_without : (names : Names) (xs : List Loc) (l : Loc) (n : ℕ) → is_among xs l ≡ false → names.number l ≡ Some n → (without_names names xs).number l ≡ Some n
stays_without names xs l n f e = ap (λ b. if b then None else names.number l) f ∙ e

-- What stands for a location before a statement.

-- what is not written keeps its number before the statement
pub left_number : (a : Access) (after : Names) (l : Loc) (n : ℕ) → is_among a.writes l ≡ false → after.number l ≡ Some n → (before_one a after).number l ≡ Some n
left_number a after l n f e =
    stays_all_named (without_names (at_writes a after) a.writes) a.reads l n
    (stays_without (at_writes a after) a.writes l n f (stays_all_named after a.writes l n e))

-- Live locations have numbers.

-- the location is read before it is written, or isn't written and is live at the end
pub record Lives (live : List Loc) (exit : Exit) (stmts : List Stmt) (l : Loc) : Type 0 where
  pub is : (reads_first stmts exit l ≡ true) ⊎ ((writes stmts l ≡ false) × (is_among live l ≡ true))

either : (a b : Bool) → (a || b) ≡ true → (a ≡ true) ⊎ ((a ≡ false) × (b ≡ true))
either true b e = inl refl
either false b e = inr (refl, e)

both_parts : (a b : Bool) → (a && b) ≡ true → (a ≡ true) × (b ≡ true)
both_parts true b e = (refl, e)
both_parts false b e = absurd (true≢false (sym e))

not_true : (a : Bool) → not a ≡ true → a ≡ false
not_true true e = absurd (true≢false (sym e))
not_true false e = refl

none_of : (a b : Bool) → (a || b) ≡ false → (a ≡ false) × (b ≡ false)
none_of true b e = absurd (true≢false e)
none_of false b e = (refl, e)

module _ (live : List Loc) (exit : Exit) where
  abbrev pub after : Names
  after = at_exit live (flat_map reads_of (exit_exprs exit))

  abbrev pub at : List Stmt → Names
  at stmts = before_all (map access_of stmts) after

  -- what lives at a place has a number there
  pub lives_named : (stmts : List Stmt) (l : Loc) → (reads_first stmts exit l ≡ true) ⊎ ((writes stmts l ≡ false) × (is_among live l ≡ true)) → is_some ((at stmts).number l) ≡ true
  lives_named [] l (inl read) = among_named (all_with_numbers no_names live) (flat_map reads_of (exit_exprs exit)) l read
  lives_named [] l (inr on) =
      let here = some_has (all_with_numbers no_names live) l (among_with no_names live l on.1) in
      has_some after l here.0 (stays_all_named (all_with_numbers no_names live) (flat_map reads_of (exit_exprs exit)) l here.0 here.1)
  lives_named (stmt ∷ rest) l (inl first) = elim (either (reads (exprs_of stmt) l) (not (is_among (writes_of stmt) l) && reads_first rest exit l) first) [
    | inl read ↦ among_named (without_names (at_writes (access_of stmt) (at rest)) (writes_of stmt)) (flat_map reads_of (exprs_of stmt)) l read
    | inr later ↦
        let parts = both_parts (not (is_among (writes_of stmt) l)) (reads_first rest exit l) later.1 in
        passed stmt rest l (not_true (is_among (writes_of stmt) l) parts.0) (lives_named rest l (inl parts.1))
  ]
    where
      passed : (stmt : Stmt) (rest : List Stmt) (l : Loc) → is_among (writes_of stmt) l ≡ false → is_some ((at rest).number l) ≡ true → is_some ((at (stmt ∷ rest)).number l) ≡ true
      passed stmt rest l f t = let here = some_has (at rest) l t in has_some (at (stmt ∷ rest)) l here.0 (left_number (access_of stmt) (at rest) l here.0 f here.1)
  lives_named (stmt ∷ rest) l (inr on) =
      let parts = none_of (is_among (writes_of stmt) l) (writes rest l) (sym (among_append (writes_of stmt) (flat_map writes_of rest) l) ∙ on.0) in
      let here = some_has (at rest) l (lives_named rest l (inr (parts.1, on.1))) in
      has_some (at (stmt ∷ rest)) l here.0 (left_number (access_of stmt) (at rest) l here.0 parts.0 here.1)
