-- Which locations are one, and which stand in a list.
use Rattle.std.proofs.Common.{◌≡◌, ℕ, zero, suc, ◌<◌, Bool, true, ◌&&◌, ◌||◌, inl, inr, List, [], ◌∷◌, length, get_or, refl, sym, ap, ◌∙◌, subst, true≢false, eqb-true, eq-eqb, arith, Contains}
use Rattle.std.specs.Prelude.{◌==◌}
use Rattle.dcc_num.specs.declared.Reg.{Reg}
use Rattle.dcc_num.specs.declared.Reg.TheVariants.{Ax, Cx, Dx, Bx, Sp, Bp, Si, Di}
use Rattle.dcc_num.specs.declared.Half.{Half as HalfName}
use Rattle.dcc_num.specs.declared.Half.TheVariants.{Low, High}
use Rattle.dcc_num.specs.declared.FlagName.{FlagName}
use Rattle.dcc_num.specs.declared.FlagName.TheVariants.{Cf, Zf, Sf, Of}
use Rattle.dcc_ir.specs.declared.syntax.Loc.{Loc}
use Rattle.dcc_ir.specs.declared.syntax.Loc.TheVariants.{Half, Flag, Cell, Temp}
use Rattle.dcc_ir.specs.Location.{register_number, half_number, flag_number, same_location}
use Rattle.dcc_ir.specs.Live.{is_among}
use Rattle.dcc_ir.proofs.PathLaws.{decided, or_false}
use Rattle.dcc_ir.proofs.FitLaws.{both}
use Rattle.dcc_ir.proofs.GraphLaws.{or_there}

-- Numbers name registers, halves and flags.

pub register_of : ℕ → Reg
register_of n = get_or (Ax ∷ Cx ∷ Dx ∷ Bx ∷ Sp ∷ Bp ∷ Si ∷ Di ∷ []) n Ax

pub register_numbered : (r : Reg) → register_of (register_number r) ≡ r
unfolding register_of
register_numbered Ax = refl
register_numbered Cx = refl
register_numbered Dx = refl
register_numbered Bx = refl
register_numbered Sp = refl
register_numbered Bp = refl
register_numbered Si = refl
register_numbered Di = refl

pub half_of : ℕ → HalfName
half_of n = get_or (Low ∷ High ∷ []) n Low

pub half_numbered : (h : HalfName) → half_of (half_number h) ≡ h
unfolding half_of
half_numbered Low = refl
half_numbered High = refl

pub flag_of : ℕ → FlagName
flag_of n = get_or (Cf ∷ Zf ∷ Sf ∷ Of ∷ []) n Cf

pub flag_numbered : (f : FlagName) → flag_of (flag_number f) ≡ f
unfolding flag_of
flag_numbered Cf = refl
flag_numbered Zf = refl
flag_numbered Sf = refl
flag_numbered Of = refl

pub register_same : (q r : Reg) → register_number q ≡ register_number r → q ≡ r
register_same q r e = sym (register_numbered q) ∙ ap register_of e ∙ register_numbered r

pub half_same : (h k : HalfName) → half_number h ≡ half_number k → h ≡ k
half_same h k e = sym (half_numbered h) ∙ ap half_of e ∙ half_numbered k

pub flag_same : (f g : FlagName) → flag_number f ≡ flag_number g → f ≡ g
flag_same f g e = sym (flag_numbered f) ∙ ap flag_of e ∙ flag_numbered g

-- the test tells that two locations are one
pub location_same : (a b : Loc) → same_location a b ≡ true → a ≡ b
location_same (Half q h) (Half r k) t =
    let parts = both (register_number q == register_number r) (half_number h == half_number k) t in
    ap (λ x. Half x h) (register_same q r (eqb-true (register_number q) (register_number r) parts.0))
    ∙ ap (Half r) (half_same h k (eqb-true (half_number h) (half_number k) parts.1))
location_same (Flag f) (Flag g) t = ap Flag (flag_same f g (eqb-true (flag_number f) (flag_number g) t))
location_same (Cell m h) (Cell n k) t =
    let parts = both (m == n) (half_number h == half_number k) t in
    ap (λ x. Cell x h) (eqb-true m n parts.0) ∙ ap (Cell n) (half_same h k (eqb-true (half_number h) (half_number k) parts.1))
location_same (Temp m) (Temp n) t = ap Temp (eqb-true m n t)
location_same (Half q h) (Flag g) t = absurd (true≢false (sym t))
location_same (Half q h) (Cell n k) t = absurd (true≢false (sym t))
location_same (Half q h) (Temp n) t = absurd (true≢false (sym t))
location_same (Flag f) (Half r k) t = absurd (true≢false (sym t))
location_same (Flag f) (Cell n k) t = absurd (true≢false (sym t))
location_same (Flag f) (Temp n) t = absurd (true≢false (sym t))
location_same (Cell m h) (Half r k) t = absurd (true≢false (sym t))
location_same (Cell m h) (Flag g) t = absurd (true≢false (sym t))
location_same (Cell m h) (Temp n) t = absurd (true≢false (sym t))
location_same (Temp m) (Half r k) t = absurd (true≢false (sym t))
location_same (Temp m) (Flag g) t = absurd (true≢false (sym t))
location_same (Temp m) (Cell n k) t = absurd (true≢false (sym t))

same_number : (n : ℕ) → (n == n) ≡ true
same_number n = eq-eqb n n refl

both_true : (a b : Bool) → a ≡ true → b ≡ true → (a && b) ≡ true
both_true a b e f = ap (λ c. c && b) e ∙ f

pub location_itself : (l : Loc) → same_location l l ≡ true
location_itself (Half r h) = both_true (register_number r == register_number r) (half_number h == half_number h) (same_number (register_number r)) (same_number (half_number h))
location_itself (Flag f) = same_number (flag_number f)
location_itself (Cell n h) = both_true (n == n) (half_number h == half_number h) (same_number n) (same_number (half_number h))
location_itself (Temp n) = same_number n

-- Lists of locations.

pub Contains-here : {X : Type 0} (x : X) (xs : List X) → Contains (x ∷ xs) x
Contains-here x xs = (0, omega arith, refl)

pub Contains-later : {X : Type 0} (y : X) (xs : List X) (x : X) → Contains xs x → Contains (y ∷ xs) x
Contains-later y xs x c = (suc c.0, omega (arith, c.1), c.2)

pub Contains-none : {X : Type 0} (x : X) → Contains [] x → ⊥
Contains-none x c = absurd (omega (arith, c.1))

pub Contains-cases : {X : Type 0} (y : X) (xs : List X) (x : X) (P : Type 0) → (y ≡ x → P) → (Contains xs x → P) → Contains (y ∷ xs) x → P
Contains-cases y xs x P here later c = go c.0 c.1 c.2
  where
    go : (k : ℕ) → k < length (y ∷ xs) → get_or (y ∷ xs) k x ≡ x → P
    go zero less e = here e
    go (suc k) less e = later (k, omega arith, e)

pub among_contains : (xs : List Loc) (l : Loc) → is_among xs l ≡ true → Contains xs l
among_contains [] l e = absurd (true≢false (sym e))
among_contains (x ∷ xs) l e = elim (decided (same_location l x)) [
  | inl t ↦ subst (Contains (x ∷ xs)) (sym (location_same l x t)) (Contains-here x xs)
  | inr n ↦ Contains-later x xs l (among_contains xs l (or_false (same_location l x) (is_among xs l) n e))
]

pub contains_among : (xs : List Loc) (l : Loc) → Contains xs l → is_among xs l ≡ true
contains_among [] l c = absurd (Contains-none l c)
contains_among (x ∷ xs) l c = Contains-cases x xs l (is_among (x ∷ xs) l ≡ true)
    (λ e. ap (λ b. b || is_among xs l) (subst (λ y. same_location l y ≡ true) (sym e) (location_itself l)))
    (λ d. or_there (same_location l x) (is_among xs l) (contains_among xs l d)) c

pub location_decided : (xs : List Loc) (l : Loc) (P : Type 0) → (Contains xs l → P) → ((Contains xs l → ⊥) → P) → P
location_decided xs l P in_list out = elim (decided (is_among xs l)) [
  | inl t ↦ in_list (among_contains xs l t)
  | inr f ↦ out (λ c. true≢false (sym (contains_among xs l c) ∙ f))
]
