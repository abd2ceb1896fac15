-- What a name stands for in two texts whose variables have other types.
use Rattle.std.proofs.Common.{◌≡◌, ℕ, ◌+◌, ◌^◌, ◌<◌, Bool, true, false, ◌&&◌, not, List, [], ◌∷◌, ◌++◌, map, Option, Some, None, refl, sym, ap, ap₂, ◌∙◌, subst, append_assoc}
use Rattle.std.specs.Prelude.{if◌then◌else◌, is_some}
use Rattle.std.specs.List.{AllZip}
use Rattle.std.proofs.lemmas.Bool.{and_parts}
use Rattle.dcc_c.specs.declared.syntax.Base.{Base}
use Rattle.dcc_c.specs.declared.syntax.CType.{CType}
use Rattle.dcc_c.specs.Token.{same_bytes}
use Rattle.dcc_c.specs.Types.{bits_of, plain, number_of_type}
use Rattle.dcc_c.specs.Tree.{Word, Lines, Global, Variable, Function, Tree}
use Rattle.dcc_c.specs.Placement.{is_auto}
use Rattle.dcc_c.specs.Typing.{Declared, declared_as}
use Rattle.dcc_c.specs.Value.{Storage, Unplaced, PlacedAt, is_placed, Binding, declared_by, variable_in}
use Rattle.dcc_c.specs.Rules.{declared_param, declared_local, declared_global}
use Rattle.dcc_c.specs.Run.{global_binding}
use Rattle.dcc_progress.proofs.Declarations.{IsAs, AreAs}
use Rattle.dcc_respell.specs.Respelled.{IsKept, BindingAlike}
use Rattle.dcc_redeclare.specs.Redeclared.{is_free}

-- Declarations.

-- a number that is kept by itself
abbrev pub free : Word → Base → Declared
free name base = record { name = name; type = plain base; is_array = false; is_placed = false }

-- a name is declared as it was, or as a number of the same size
pub data Becomes : Declared → Declared → Type 0 where
  stays : {d : Declared} → Becomes d d
  turns : {name : Word} {a c : Base} → bits_of c ≡ bits_of a → Becomes (free name a) (free name c)

-- what two lists tell of a word
pub data Told : Option Declared → Option Declared → Type 0 where
  told_none : Told None None
  told_one : {d e : Declared} → Becomes d e → Told (Some d) (Some e)

becomes-name : {d e : Declared} → Becomes d e → e.name ≡ d.name
becomes-name stays = refl
becomes-name (turns same) = refl

pub told : (ds es : List Declared) (word : Word) → AllZip Becomes ds es → Told (declared_as ds word) (declared_as es word)
told [] [] word are = told_none
told [] (e ∷ es) word are = absurd are
told (d ∷ ds) [] word are = absurd are
told (d ∷ ds) (e ∷ es) word are =
    by (same_bytes d.name word) (same_bytes e.name word) (ap (λ n. same_bytes n word) (becomes-name are.0)) (told ds es word are.1)
  where
    by : (p q : Bool) → q ≡ p → Told (declared_as ds word) (declared_as es word) → Told (if p then Some d else declared_as ds word) (if q then Some e else declared_as es word)
    by true true same others = told_one are.0
    by false false same others = others
    by true false same others = absurd cc
    by false true same others = absurd cc

pub all-stay : (ds : List Declared) → AllZip Becomes ds ds
all-stay [] = tt
all-stay (d ∷ ds) = (stays, all-stay ds)

pub become-both : (ds es ps qs : List Declared) → AllZip Becomes ds es → AllZip Becomes ps qs → AllZip Becomes (ds ++ ps) (es ++ qs)
become-both [] [] ps qs are also = also
become-both [] (e ∷ es) ps qs are also = absurd are
become-both (d ∷ ds) [] ps qs are also = absurd are
become-both (d ∷ ds) (e ∷ es) ps qs are also = (are.0, become-both ds es ps qs are.1 also)

module _ (type_for : Variable → Base) (sizes : (v : Variable) → bits_of (type_for v) ≡ bits_of v.type.base) where
  abbrev pub local_as : Variable → Variable
  local_as v = if is_free v then record v { type = plain (type_for v) } else v

  number-type : (type : CType) → type.pointer ≡ false → type ≡ plain type.base
  number-type type is = ap (λ (p : Bool). record { base = type.base; pointer = p }) is

  not-true : (b : Bool) → not b ≡ true → b ≡ false
  not-true false is = refl
  not-true true is = absurd cc

  local-becomes : (v : Variable) → Becomes (declared_local v) (declared_local (local_as v))
  local-becomes v = by (is_free v) refl
    where
      by : (b : Bool) → is_free v ≡ b → Becomes (declared_local v) (declared_local (if b then record v { type = plain (type_for v) } else v))
      by false is = stays
      by true is =
          let one = and_parts (not (is_auto v.class)) (not (is_some v.len) && not v.type.pointer) is in
          let two = and_parts (not (is_some v.len)) (not v.type.pointer) one.1 in
          subst (λ (p : Bool). Becomes (record { name = v.name; type = v.type; is_array = is_some v.len; is_placed = p }) (record { name = v.name; type = plain (type_for v); is_array = is_some v.len; is_placed = p })) (sym (not-true (is_auto v.class) one.0))
          (subst (λ (l : Bool). Becomes (record { name = v.name; type = v.type; is_array = l; is_placed = false }) (record { name = v.name; type = plain (type_for v); is_array = l; is_placed = false })) (sym (not-true (is_some v.len) two.0))
          (subst (λ (t : CType). Becomes (record { name = v.name; type = t; is_array = false; is_placed = false }) (free v.name (type_for v))) (sym (number-type v.type (not-true v.type.pointer two.1))) (turns (sizes v))))

  pub locals-become : (vs : List Variable) → AllZip Becomes (map declared_local vs) (map declared_local (map local_as vs))
  locals-become [] = tt
  locals-become (v ∷ vs) = (local-becomes v, locals-become vs)

-- Variables.

-- a number that is kept by itself, with its bits
abbrev pub by_itself : Word → Base → ℕ → Binding
by_itself name base n = record { name = name; type = plain base; is_array = false; storage = Unplaced n }

-- what the variable is, beside what it is declared as
pub record IsDeclared (d : Declared) (b : Binding) : Type 0 where
  pub name : d.name ≡ b.name
  pub type : d.type ≡ b.type
  pub array : d.is_array ≡ b.is_array

-- A name with its declarations and its variables in the two texts.
pub data Slot : Declared → Declared → Binding → Binding → Type 0 where
  unchanged : {d : Declared} {b : Binding} → IsDeclared d b → Slot d d b b
  changed : {name : Word} {a c : Base} {n : ℕ} → bits_of c ≡ bits_of a → n < 2 ^ bits_of a → Slot (free name a) (free name c) (by_itself name a n) (by_itself name c n)

abbrev pub Slots : List Declared → List Declared → List Binding → List Binding → Type 0
Slots [] [] [] [] = Unit {0}
Slots (d ∷ ds) (e ∷ es) (b ∷ bs) (c ∷ cs) = Slot d e b c × Slots ds es bs cs
Slots _ _ _ _ = ⊥

pub data Found : Option Declared → Option Declared → Option Binding → Option Binding → Type 0 where
  nothing : Found None None None None
  slot : {d e : Declared} {b c : Binding} → Slot d e b c → Found (Some d) (Some e) (Some b) (Some c)

one-binding : (b c : Binding) → c.name ≡ b.name → c.type ≡ b.type → c.is_array ≡ b.is_array → c.storage ≡ b.storage → c ≡ b
one-binding b c name type array storage =
    ap (λ (n : Word). record { name = n; type = c.type; is_array = c.is_array; storage = c.storage }) name
    ∙ ap (λ (t : CType). record { name = b.name; type = t; is_array = c.is_array; storage = c.storage }) type
    ∙ ap (λ (a : Bool). record { name = b.name; type = b.type; is_array = a; storage = c.storage }) array
    ∙ ap (λ (s : Storage). record { name = b.name; type = b.type; is_array = b.is_array; storage = s }) storage

module _ (body lines : Lines) where
  turned-slot : (name : Word) (a x : Base) (b c : Binding) (s : Storage) → bits_of x ≡ bits_of a → b.storage ≡ s → IsAs body (free name a) (declared_by b) → IsAs lines (free name x) (declared_by c) → IsKept (free name a) b → BindingAlike b c →
      Slot (free name a) (free name x) b c
  turned-slot name a x b c (PlacedAt at) same at_is is also kept alike =
      let no : true ≡ false = sym (ap is_placed at_is) ∙ kept.unplaced refl in absurd cc
  turned-slot name a x b c (Unplaced n) same at_is is also kept alike =
      let small : n < 2 ^ bits_of a = subst (λ (t : CType). n < 2 ^ bits_of (number_of_type t)) (sym is.type) (kept.within n at_is) in
      let first : b ≡ by_itself name a n = one-binding (by_itself name a n) b (sym is.name) (sym is.type) (sym is.array) at_is in
      let second : c ≡ by_itself name x n = one-binding (by_itself name x n) c (sym also.name) (sym also.type) (sym also.array) (alike.storage ∙ at_is) in
      subst (λ (k : Binding). Slot (free name a) (free name x) k c) (sym first) (subst (Slot (free name a) (free name x) (by_itself name a n)) (sym second) (changed same small))

  one-slot : {d e : Declared} (b c : Binding) → Becomes d e → IsAs body d (declared_by b) → IsAs lines e (declared_by c) → IsKept d b → BindingAlike b c → Slot d e b c
  one-slot b c (stays {d}) is also kept alike =
      let one : c ≡ b = one-binding b c alike.name (sym also.type ∙ is.type) alike.array alike.storage in
      subst (Slot d d b) (sym one) (unchanged (record { name = is.name; type = is.type; array = is.array }))
  one-slot b c (turns {name} {a} {c = x} size) is also kept alike =
      turned-slot name a x b c b.storage size refl is also kept alike

  pub own-slots : (ds es : List Declared) (bs cs : List Binding) → AllZip Becomes ds es → AreAs body ds (map declared_by bs) → AreAs lines es (map declared_by cs) → AllZip IsKept ds bs → AllZip BindingAlike bs cs → Slots ds es bs cs
  own-slots [] [] [] [] become is also kept alike = tt
  own-slots (d ∷ ds) (e ∷ es) (b ∷ bs) (c ∷ cs) become is also kept alike =
      (one-slot b c become.0 is.0 also.0 kept.0 alike.0, own-slots ds es bs cs become.1 is.1 also.1 kept.1 alike.1)
  own-slots [] (e ∷ es) bs cs become is also kept alike = absurd become
  own-slots (d ∷ ds) [] bs cs become is also kept alike = absurd become
  own-slots [] [] (b ∷ bs) cs become is also kept alike = absurd kept
  own-slots [] [] [] (c ∷ cs) become is also kept alike = absurd alike
  own-slots (d ∷ ds) (e ∷ es) [] cs become is also kept alike = absurd kept
  own-slots (d ∷ ds) (e ∷ es) (b ∷ bs) [] become is also kept alike = absurd alike

pub global-slots : (globals : List Global) → Slots (map declared_global globals) (map declared_global globals) (map global_binding globals) (map global_binding globals)
global-slots [] = tt
global-slots (g ∷ globals) = (unchanged (record { name = refl; type = refl; array = refl }), global-slots globals)

pub both-slots : (ds es ps qs : List Declared) (bs cs xs ys : List Binding) → Slots ds es bs cs → Slots ps qs xs ys → Slots (ds ++ ps) (es ++ qs) (bs ++ xs) (cs ++ ys)
both-slots [] [] ps qs [] [] xs ys are also = also
both-slots (d ∷ ds) (e ∷ es) ps qs (b ∷ bs) (c ∷ cs) xs ys are also = (are.0, both-slots ds es ps qs bs cs xs ys are.1 also)
both-slots [] (e ∷ es) ps qs bs cs xs ys are also = absurd are
both-slots (d ∷ ds) [] ps qs bs cs xs ys are also = absurd are
both-slots [] [] ps qs (b ∷ bs) cs xs ys are also = absurd are
both-slots [] [] ps qs [] (c ∷ cs) xs ys are also = absurd are
both-slots (d ∷ ds) (e ∷ es) ps qs [] cs xs ys are also = absurd are
both-slots (d ∷ ds) (e ∷ es) ps qs (b ∷ bs) [] xs ys are also = absurd are

pub found : (ds es : List Declared) (bs cs : List Binding) (word : Word) → Slots ds es bs cs → Found (declared_as ds word) (declared_as es word) (variable_in bs word) (variable_in cs word)
found [] [] [] [] word are = nothing
found (d ∷ ds) (e ∷ es) (b ∷ bs) (c ∷ cs) word are = by are.0 (found ds es bs cs word are.1)
  where
    step : (p q r s : Bool) → q ≡ p → r ≡ p → s ≡ p → Slot d e b c → Found (declared_as ds word) (declared_as es word) (variable_in bs word) (variable_in cs word) →
        Found (if p then Some d else declared_as ds word) (if q then Some e else declared_as es word) (if r then Some b else variable_in bs word) (if s then Some c else variable_in cs word)
    step true q r s one two three is others =
        subst (λ x. Found (Some d) (if x then Some e else declared_as es word) (if r then Some b else variable_in bs word) (if s then Some c else variable_in cs word)) (sym one)
        (subst (λ x. Found (Some d) (Some e) (if x then Some b else variable_in bs word) (if s then Some c else variable_in cs word)) (sym two)
        (subst (λ x. Found (Some d) (Some e) (Some b) (if x then Some c else variable_in cs word)) (sym three) (slot is)))
    step false q r s one two three is others =
        subst (λ x. Found (declared_as ds word) (if x then Some e else declared_as es word) (if r then Some b else variable_in bs word) (if s then Some c else variable_in cs word)) (sym one)
        (subst (λ x. Found (declared_as ds word) (declared_as es word) (if x then Some b else variable_in bs word) (if s then Some c else variable_in cs word)) (sym two)
        (subst (λ x. Found (declared_as ds word) (declared_as es word) (variable_in bs word) (if x then Some c else variable_in cs word)) (sym three) others))

    names : {d e : Declared} {b c : Binding} → Slot d e b c → (e.name ≡ d.name) × (b.name ≡ d.name) × (c.name ≡ d.name)
    names (unchanged is) = (refl, sym is.name, sym is.name)
    names (changed size small) = (refl, refl, refl)

    by : Slot d e b c → Found (declared_as ds word) (declared_as es word) (variable_in bs word) (variable_in cs word) → Found (declared_as (d ∷ ds) word) (declared_as (e ∷ es) word) (variable_in (b ∷ bs) word) (variable_in (c ∷ cs) word)
    by is others =
        let n = names is in
        step (same_bytes d.name word) (same_bytes e.name word) (same_bytes b.name word) (same_bytes c.name word) (ap (λ x. same_bytes x word) n.0) (ap (λ x. same_bytes x word) n.1) (ap (λ x. same_bytes x word) n.2) is others
found [] (e ∷ es) bs cs word are = absurd are
found (d ∷ ds) [] bs cs word are = absurd are
found [] [] (b ∷ bs) cs word are = absurd are
found [] [] [] (c ∷ cs) word are = absurd are
found (d ∷ ds) (e ∷ es) [] cs word are = absurd are
found (d ∷ ds) (e ∷ es) (b ∷ bs) [] word are = absurd are
