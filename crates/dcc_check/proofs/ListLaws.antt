-- Arguments that are left, one step on.
use Rattle.std.proofs.Common.{◌≡◌, ℕ, ◌+◌, ◌-◌, ◌<◌, Bool, true, false, ◌||◌, List, [], ◌∷◌, ◌++◌, length, map, drop, Some, refl, sym, ap, ◌∙◌, arith}
use Rattle.std.specs.Prelude.{nat_lt, nat_eq}
use Rattle.std.proofs.lemmas.Bool.{lt-ltb, le-ltb, ltb-true, ltb-false, eq-eqb, ne_eqb}
use Rattle.std.proofs.lemmas.List.{append-nil, length-drop, length-map}
use Rattle.dcc_c.specs.declared.syntax.CType.{CType}
use Rattle.dcc_c.specs.Partial.{PartialExpr}
use Rattle.dcc_c.specs.Offences.{BodyContext, becomes, arguments_become}

or-false : (a : Bool) → (a || false) ≡ a
or-false true = refl
or-false false = refl

or-true : (a : Bool) → (a || true) ≡ true
or-true true = refl
or-true false = refl

become-none : (scene : BodyContext) (closed : Bool) (types : List CType) → arguments_become scene closed types [] ≡ []
become-none scene closed [] = refl
become-none scene closed (type ∷ types) = refl

-- one argument and the rest
pub become-more : (scene : BodyContext) (closed : Bool) (type : CType) (types : List CType) (e : PartialExpr) (es : List PartialExpr) →
    arguments_become scene closed (type ∷ types) (e ∷ es) ≡ becomes scene e (closed || nat_lt 0 (length es)) (Some type) ++ arguments_become scene closed types es
become-more scene closed type types e [] =
    ap (λ done. becomes scene e done (Some type)) (sym (or-false closed))
    ∙ sym (append-nil (becomes scene e (closed || false) (Some type)))
    ∙ ap (λ rest. becomes scene e (closed || false) (Some type) ++ rest) (sym (become-none scene closed types))
become-more scene closed type types e (f ∷ es) =
    let more : nat_lt 0 (length (f ∷ es)) ≡ true = lt-ltb 0 (length (f ∷ es)) (omega arith) in
    ap (λ done. becomes scene e done (Some type) ++ arguments_become scene closed types (f ∷ es)) (sym (ap (λ m. closed || m) more ∙ or-true closed))

-- no parameter or no argument is left
pub become-empty : (scene : BodyContext) (closed : Bool) (types : List CType) (es : List PartialExpr) → (0 < length types → 0 < length es → ⊥) → arguments_become scene closed types es ≡ []
become-empty scene closed [] es over = refl
become-empty scene closed (type ∷ types) [] over = refl
become-empty scene closed (type ∷ types) (e ∷ es) over = absurd (over (omega arith) (omega arith))

ltb-left : (a b : ℕ) → (t : Bool) → nat_lt a b ≡ t → nat_lt 0 (b - a) ≡ t
ltb-left a b true e = lt-ltb 0 (b - a) (let l = ltb-true a b e in omega arith)
ltb-left a b false e = le-ltb 0 (b - a) (let l = ltb-false a b e in omega arith)

-- another one is left after that
pub more-left : {X Y : Type 0} (f : X → Y) (xs : List X) (i : ℕ) → nat_lt 0 (length (map f (drop (i + 1) xs))) ≡ nat_lt (i + 1) (length xs)
more-left f xs i =
    ap (nat_lt 0) (length-map (drop (i + 1) xs) f ∙ length-drop (i + 1) xs)
    ∙ ltb-left (i + 1) (length xs) (nat_lt (i + 1) (length xs)) refl

room-is : (room blocks : ℕ) (t : Bool) → nat_lt 200 blocks ≡ t → room ≡ 201 - blocks → nat_eq room 0 ≡ t
room-is room blocks true e is = eq-eqb room 0 (let l = ltb-true 200 blocks e in omega arith)
room-is room blocks false e is = ne_eqb room 0 (λ none. let l = ltb-false 200 blocks e in omega arith)

-- no block more may stand: there are more than 200
pub room-out : (room blocks : ℕ) → room ≡ 201 - blocks → nat_eq room 0 ≡ nat_lt 200 blocks
room-out room blocks is = room-is room blocks (nat_lt 200 blocks) refl is
