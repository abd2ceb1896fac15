-- Where one variable after another stands.
use Rattle.std.proofs.Common.{◌≡◌, ℕ, ◌+◌, ◌-◌, ◌*◌, ◌%◌, ◌<◌, ◌≤◌, Bool, true, false, List, [], ◌∷◌, ◌++◌, length, map, drop, get_or, Option, Some, None, refl, sym, ap, ◌∙◌, append_assoc, arith}
use Rattle.std.specs.Prelude.{◌||◌, is_some, if◌then◌else◌}
use Rattle.std.proofs.lemmas.List.{append-nil, map-append, at_drop_more, drop_all}
use Rattle.dcc_c.specs.declared.syntax.CType.{CType}
use Rattle.dcc_c.specs.declared.syntax.Var.{Var}
use Rattle.dcc_c.specs.Tree.{Lines, Variable as DeclaredVariable}
use Rattle.dcc_c.specs.Placement.{param_places, local_places, is_register, is_auto, wants_place, bytes_of, below}
use Rattle.dcc_c.specs.Views.{variable_of}
use Rattle.dcc_prepare.specs.declared.program.Variable.{Variable}
use Rattle.dcc_prepare.specs.Placing.{IsNextParam, ArePlaced}
use Rattle.dcc_prepare.specs.Programs.{AreVariables, Kind, place_in, kind_of, declared_kind}

-- the type that the variable is declared with
kind_with : CType → Bool → Kind
kind_with type is_array = record { type = type; is_array = is_array }

pub same_kind : (x : Variable) (v : DeclaredVariable) → x.ty ≡ v.type → x.is_array ≡ is_some v.len → kind_of x ≡ declared_kind v
unfolding kind_with
same_kind x v type is_array = ap (λ t. kind_with t x.is_array) type ∙ ap (kind_with v.type) is_array

-- one more variable has its place
pub place-step : (declared left : List DeclaredVariable) (v : DeclaredVariable) (places_of : ℕ → List (Option ℕ))
    (before after : ℕ → List DeclaredVariable → List (Option ℕ)) (vs : List Variable) (x : Variable) →
    ArePlaced declared places_of (v ∷ left) before vs → kind_of x ≡ declared_kind v →
    ((base : ℕ) → place_in base x ∷ after base left ≡ before base (v ∷ left)) →
    ArePlaced declared places_of left after (vs ++ x ∷ [])
place-step declared left v places_of before after vs x had kind place = record {
  kinds =
      ap (λ l. l ++ map declared_kind left) (map-append kind_of vs (x ∷ []))
      ∙ append_assoc (map kind_of vs) (kind_of x ∷ []) (map declared_kind left)
      ∙ ap (λ k. map kind_of vs ++ k ∷ map declared_kind left) kind
      ∙ had.kinds;
  places = λ base.
      ap (λ l. l ++ after base left) (map-append (place_in base) vs (x ∷ []))
      ∙ append_assoc (map (place_in base) vs) (place_in base x ∷ []) (after base left)
      ∙ ap (λ l. map (place_in base) vs ++ l) (place base)
      ∙ had.places base;
}

-- no variable is left
pub place-end : (declared : List DeclaredVariable) (places_of : ℕ → List (Option ℕ))
    (left : ℕ → List DeclaredVariable → List (Option ℕ)) (vs : List Variable) →
    ArePlaced declared places_of [] left vs → ((base : ℕ) → left base [] ≡ []) → AreVariables declared places_of vs
place-end declared places_of left vs had none = record {
  kinds = sym (append-nil (map kind_of vs)) ∙ had.kinds;
  places = λ base. sym (append-nil (map (place_in base) vs)) ∙ ap (λ l. map (place_in base) vs ++ l) (sym (none base)) ∙ had.places base;
}

-- the variable at this place, before those after it
pub next_variable : (vs : List Var) (i : ℕ) (v d : Var) → i < length vs → v ≡ get_or vs i d →
    map variable_of (drop i vs) ≡ variable_of v ∷ map variable_of (drop (i + 1) vs)
next_variable vs i v d within is =
    at_drop_more (map variable_of) vs i d within ∙ ap (λ w. variable_of w ∷ map variable_of (drop (i + 1) vs)) (sym is)

pub no_variable : (vs : List Var) (i : ℕ) → length vs ≤ i → map variable_of (drop i vs) ≡ []
no_variable vs i le = ap (map variable_of) (drop_all i vs le)

-- the bytes that are used count modulo 65536
pub local_same : (base a b : ℕ) (vs : List DeclaredVariable) → a % 65536 ≡ b % 65536 → local_places base a vs ≡ local_places base b vs
local_same base a b [] same = refl
local_same base a b (v ∷ vs) same =
    let n = bytes_of v.type v.len in
    let down : (a + n) % 65536 ≡ (b + n) % 65536 = omega arith in
    ap (λ l. if is_auto v.class then Some (below base (a + n)) ∷ l else None ∷ local_places base a vs) (local_same base (a + n) (b + n) vs down)
    ∙ ap (λ k. if is_auto v.class then Some ((base + 65536 - k) % 65536) ∷ local_places base (b + n) vs else None ∷ local_places base a vs) down
    ∙ ap (λ l. if is_auto v.class then Some (below base (b + n)) ∷ local_places base (b + n) vs else None ∷ l) (local_same base a b vs same)

-- the variable is `auto`
pub local-auto : (base used : ℕ) (v : DeclaredVariable) (vs : List DeclaredVariable) → is_auto v.class ≡ true →
    Some (below base (used + bytes_of v.type v.len)) ∷ local_places base (used + bytes_of v.type v.len) vs ≡ local_places base used (v ∷ vs)
local-auto base used v vs e = rw e refl

pub local-other : (base used : ℕ) (v : DeclaredVariable) (vs : List DeclaredVariable) → is_auto v.class ≡ false →
    None ∷ local_places base used vs ≡ local_places base used (v ∷ vs)
local-other base used v vs e = rw e refl

-- the parameter is no stack argument
pub next-register : (body : Lines) (base number : ℕ) (placed : Bool) (v : DeclaredVariable) (params : List DeclaredVariable) →
    is_register v.class ≡ true → None ∷ param_places body base number placed params ≡ param_places body base number placed (v ∷ params)
next-register body base number placed v params e = rw e refl

-- the next parameter is in memory
pub next-placed : (body : Lines) (base number : ℕ) (placed : Bool) (v : DeclaredVariable) (params : List DeclaredVariable) →
    is_register v.class ≡ false → (placed || wants_place body v) ≡ true →
    Some ((base + 2 * number) % 65536) ∷ param_places body base (number + 1) true params ≡ param_places body base number placed (v ∷ params)
next-placed body base number placed v params e w = rw e (rw w refl)

-- the next parameter is a stack argument that does not have to be in memory
pub next-free : (body : Lines) (base number : ℕ) (placed : Bool) (v : DeclaredVariable) (params : List DeclaredVariable) →
    is_register v.class ≡ false → (placed || wants_place body v) ≡ false →
    None ∷ param_places body base (number + 1) false params ≡ param_places body base number placed (v ∷ params)
next-free body base number placed v params e w = rw e (rw w refl)

-- a stack argument, of the type that it is declared with, stands two bytes before the next one
pub stack_param : (body : Lines) (v : DeclaredVariable) (placed now_placed : Bool) (number offset : ℕ) (x : Variable) →
    offset ≡ (2 * number) % 65536 → x.ty ≡ v.type → x.is_array ≡ is_some v.len →
    ((base : ℕ) (params : List DeclaredVariable) →
    place_in base x ∷ param_places body base (number + 1) now_placed params ≡ param_places body base number placed (v ∷ params)) →
    IsNextParam body v placed number (record { variable = x; placed = now_placed; offset = (offset + 2) % 65536 })
stack_param body v placed now_placed number offset x at type is_array places = record {
  kind = same_kind x v type is_array;
  next = number + 1;
  at = omega (arith, at);
  places = places;
}
