-- What stands at the place of a name, and what an assignment there does.
use Rattle.std.proofs.Common.{◌≡◌, ℕ, zero, suc, ◌≤◌, Bool, true, false, List, [], ◌∷◌, ◌++◌, length, map, Option, Some, None, refl, sym, ap, ◌∙◌, subst, arith}
use Rattle.std.specs.Prelude.{option_map, if◌then◌else◌, slice_get, slice_set}
use Rattle.std.specs.List.{list_all}
use Rattle.std.proofs.lemmas.Bool.{and_parts}
use Rattle.std.proofs.lemmas.List.{append-nil}
use Rattle.std.proofs.lemmas.Option.{same_Some}
use Rattle.dcc_c.specs.Token.{same_bytes}
use Rattle.dcc_c.specs.Tree.{Word}
use Rattle.dcc_c.specs.Typing.{Declared, declared_as}
use Rattle.dcc_c.specs.Value.{Value, converted, Unplaced, Binding, is_placed, declared_by, variable_in, after_assignment}
use Rattle.dcc_c.proofs.NameLaws.{same_bytes-equal}
use Rattle.dcc_value.specs.declared.variable.Binding.{Binding as Bound}
use Rattle.dcc_value.specs.Evaluation.{storage_of, binding_named, bindings_named}
use Rattle.dcc_value.specs.declared.expression.Slot.{Slot}
use Rattle.dcc_value.specs.declared.expression.Slot.TheVariants.{Local as InFrame, Global as InGlobals}
use Rattle.dcc_value.specs.Resolved.{Names, all_names, index_named, slot_named, name_at, IsAlone}

heads : {A : Type 0} (x y : A) (xs ys : List A) → (x ∷ xs) ≡ (y ∷ ys) → x ≡ y
heads x y xs ys e = cc

tails : {A : Type 0} (x y : A) (xs ys : List A) → (x ∷ xs) ≡ (y ∷ ys) → xs ≡ ys
tails x y xs ys e = cc

-- a place in what follows the first
record After (o : Option ℕ) (i : ℕ) : Type 0 where
  j : ℕ
  there : o ≡ Some j
  is : suc j ≡ i

following : (o : Option ℕ) (i : ℕ) → option_map suc o ≡ Some i → After o i
following (Some j) i e = record { j = j; there = refl; is = same_Some (suc j) i e }
following None i e = absurd cc

no_place : (o : Option ℕ) → option_map suc o ≡ None → o ≡ None
no_place (Some j) e = absurd cc
no_place None e = refl

-- the variable with the name, at place `i`
pub record Found (names : List Declared) (bs : List Bound) (word : Word) (i : ℕ) : Type 0 where
  pub b : Bound
  pub here : slice_get bs i ≡ Some b
  pub declared : slice_get names i ≡ Some (declared_by (binding_named word b))
  pub in_scope : (rest : List Binding) → variable_in (bindings_named names bs ++ rest) word ≡ Some (binding_named word b)

found_first : (d : Declared) (names : List Declared) (b : Bound) (bs : List Bound) (word : Word) → declared_by (binding_named d.name b) ≡ d →
    same_bytes d.name word ≡ true → Found (d ∷ names) (b ∷ bs) word 0
found_first d names b bs word agrees same =
    let name : d.name ≡ word = same_bytes-equal d.name word same in
    record {
      b = b;
      here = refl;
      declared = ap Some (sym agrees ∙ ap (λ w. declared_by (binding_named w b)) name);
      in_scope = λ rest. rw same (ap (λ w. Some (binding_named w b)) name);
    }

found_later : (d : Declared) (names : List Declared) (b : Bound) (bs : List Bound) (word : Word) (j : ℕ) →
    same_bytes d.name word ≡ false → Found names bs word j → Found (d ∷ names) (b ∷ bs) word (suc j)
found_later d names b bs word j other f =
    record { b = f.b; here = f.here; declared = f.declared; in_scope = λ rest. rw other (f.in_scope rest) }

pub found : (names : List Declared) (bs : List Bound) (word : Word) (i : ℕ) → map declared_by (bindings_named names bs) ≡ names →
    index_named names word ≡ Some i → Found names bs word i
found [] bs word i fits e = absurd cc
found (d ∷ names) [] word i fits e = absurd cc
found (d ∷ names) (b ∷ bs) word i fits e =
    elim (same_bytes d.name word) as (λ t. same_bytes d.name word ≡ t → (if t then Some 0 else option_map suc (index_named names word)) ≡ Some i → Found (d ∷ names) (b ∷ bs) word i) [
      | true ↦ λ same at. subst (λ n. Found (d ∷ names) (b ∷ bs) word n) (same_Some 0 i at) (found_first d names b bs word (heads _ _ _ _ fits) same)
      | false ↦ λ other at.
          let p = following (index_named names word) i at in
          subst (λ n. Found (d ∷ names) (b ∷ bs) word n) p.is (found_later d names b bs word p.j other (found names bs word p.j (tails _ _ _ _ fits) p.there))
    ] refl e

-- no variable has the name
pub not_found : (names : List Declared) (bs : List Bound) (word : Word) (rest : List Binding) → index_named names word ≡ None →
    variable_in (bindings_named names bs ++ rest) word ≡ variable_in rest word
not_found [] bs word rest e = refl
not_found (d ∷ names) [] word rest e = refl
not_found (d ∷ names) (b ∷ bs) word rest e =
    elim (same_bytes d.name word) as (λ t. (if t then Some 0 else option_map suc (index_named names word)) ≡ None → (if t then Some (binding_named d.name b) else variable_in (bindings_named names bs ++ rest) word) ≡ variable_in rest word) [
      | true ↦ λ at. absurd cc
      | false ↦ λ at. not_found names bs word rest (no_place (index_named names word) at)
    ] e

-- what is declared as in memory is there
pub placed_at : (names : List Declared) (bs : List Bound) (i : ℕ) (b : Bound) → map declared_by (bindings_named names bs) ≡ names →
    list_all (λ (d : Declared). d.is_placed) names ≡ true → (d : Declared) → slice_get names i ≡ Some d → slice_get bs i ≡ Some b →
    is_placed (storage_of b.is_placed b.bits) ≡ true
placed_at [] bs i b fits all d is here = absurd cc
placed_at (e ∷ names) [] i b fits all d is here = absurd cc
placed_at (e ∷ names) (f ∷ bs) zero b fits all d is here =
    let (first, others) = and_parts e.is_placed (list_all (λ (d : Declared). d.is_placed) names) all in
    ap (λ (x : Bound). is_placed (storage_of x.is_placed x.bits)) (sym (same_Some f b here)) ∙ ap (λ (x : Declared). x.is_placed) (heads _ _ _ _ fits) ∙ first
placed_at (e ∷ names) (f ∷ bs) (suc i) b fits all d is here =
    let (first, others) = and_parts e.is_placed (list_all (λ (d : Declared). d.is_placed) names) all in
    placed_at names bs i b (tails _ _ _ _ fits) others d is here

-- Assignments.

-- the first variable takes the value
assigned_first : (d : Declared) (names : List Declared) (f : Bound) (bs : List Bound) (i : ℕ) (b new : Bound) (v : Value) → Some 0 ≡ Some i →
    slice_get (f ∷ bs) i ≡ Some b → ((w : Word) → binding_named w new ≡ record (binding_named w b) { storage = Unplaced (converted b.ty v).bits }) →
    bindings_named (d ∷ names) (slice_set (f ∷ bs) i new) ≡ record (binding_named d.name f) { storage = Unplaced (converted f.ty v).bits } ∷ bindings_named names bs
assigned_first d names f bs zero b new v at here is =
    ap (λ x. x ∷ bindings_named names bs) (is d.name ∙ ap (λ (x : Bound). record (binding_named d.name x) { storage = Unplaced (converted x.ty v).bits }) (sym (same_Some f b here)))
assigned_first d names f bs (suc i) b new v at here is = absurd cc

pub assigned : (names : List Declared) (bs : List Bound) (word : Word) (i : ℕ) (b new : Bound) (v : Value) → index_named names word ≡ Some i →
    slice_get bs i ≡ Some b → ((w : Word) → binding_named w new ≡ record (binding_named w b) { storage = Unplaced (converted b.ty v).bits }) →
    bindings_named names (slice_set bs i new) ≡ after_assignment (bindings_named names bs) word v
assigned [] bs word i b new v e here is = absurd cc
assigned (d ∷ names) [] word i b new v e here is = absurd cc
assigned (d ∷ names) (f ∷ bs) word i b new v e here is =
    elim (same_bytes d.name word) as (λ t. (if t then Some 0 else option_map suc (index_named names word)) ≡ Some i →
    bindings_named (d ∷ names) (slice_set (f ∷ bs) i new)
    ≡ (if t then record (binding_named d.name f) { storage = Unplaced (converted f.ty v).bits } ∷ bindings_named names bs
    else binding_named d.name f ∷ after_assignment (bindings_named names bs) word v)) [
      | true ↦ λ at. assigned_first d names f bs i b new v at here is
      | false ↦ λ at.
          let p = following (index_named names word) i at in
          let there : slice_get bs p.j ≡ Some b = ap (slice_get (f ∷ bs)) p.is ∙ here in
          ap (λ n. bindings_named (d ∷ names) (slice_set (f ∷ bs) n new)) (sym p.is)
          ∙ ap (λ xs. binding_named d.name f ∷ xs) (assigned names bs word p.j b new v p.there there is)
    ] e

-- past the variables nothing is assigned
pub assigned_past : (names : List Declared) (bs : List Bound) (word : Word) (i : ℕ) (v : Value) → index_named names word ≡ Some i → length bs ≤ i →
    bindings_named names bs ≡ after_assignment (bindings_named names bs) word v
assigned_past [] bs word i v e past = refl
assigned_past (d ∷ names) [] word i v e past = refl
assigned_past (d ∷ names) (f ∷ bs) word i v e past =
    elim (same_bytes d.name word) as (λ t. (if t then Some 0 else option_map suc (index_named names word)) ≡ Some i →
    bindings_named (d ∷ names) (f ∷ bs)
    ≡ (if t then record (binding_named d.name f) { storage = Unplaced (converted f.ty v).bits } ∷ bindings_named names bs
    else binding_named d.name f ∷ after_assignment (bindings_named names bs) word v)) [
      | true ↦ λ at. let none : 0 ≡ i = same_Some 0 i at in absurd (omega arith)
      | false ↦ λ at.
          let p = following (index_named names word) i at in
          let same = p.is in
          ap (λ xs. binding_named d.name f ∷ xs) (assigned_past names bs word p.j v p.there (omega arith))
    ] e

-- what is kept by itself stays so
pub declared_after : (names : List Declared) (bs : List Bound) (i : ℕ) (b new : Bound) (v : Value) → IsAlone (slice_get names i) →
    slice_get bs i ≡ Some b → ((w : Word) → binding_named w new ≡ record (binding_named w b) { storage = Unplaced (converted b.ty v).bits }) →
    map declared_by (bindings_named names bs) ≡ names → map declared_by (bindings_named names (slice_set bs i new)) ≡ names
declared_after [] bs i b new v alone here is fits = absurd alone
declared_after (d ∷ names) [] i b new v alone here is fits = absurd cc
declared_after (d ∷ names) (f ∷ bs) zero b new v alone here is fits =
    let same : f ≡ b = same_Some f b here in
    let agrees : declared_by (binding_named d.name b) ≡ d = ap (λ x. declared_by (binding_named d.name x)) (sym same) ∙ heads _ _ _ _ fits in
    let kept : false ≡ is_placed (storage_of b.is_placed b.bits) = sym (ap (λ (x : Declared). x.is_placed) agrees ∙ alone) in
    let entry : Bool → Declared = λ p. record { name = d.name; type = b.ty; is_array = b.is_array; is_placed = p } in
    ap (λ x. declared_by x ∷ map declared_by (bindings_named names bs)) (is d.name)
    ∙ ap (λ p. entry p ∷ map declared_by (bindings_named names bs)) kept
    ∙ ap (λ x. x ∷ map declared_by (bindings_named names bs)) agrees
    ∙ ap (λ xs. d ∷ xs) (tails _ _ _ _ fits)
declared_after (d ∷ names) (f ∷ bs) (suc i) b new v alone here is fits =
    ap (λ x. x ∷ map declared_by (bindings_named names (slice_set bs i new))) (heads _ _ _ _ fits)
    ∙ ap (λ xs. d ∷ xs) (declared_after names bs i b new v alone here is (tails _ _ _ _ fits))

-- Names.

pub name_found : (names : List Declared) (word : Word) (i : ℕ) → index_named names word ≡ Some i → name_at names i ≡ word
name_found [] word i e = absurd cc
name_found (d ∷ names) word i e =
    elim (same_bytes d.name word) as (λ t. same_bytes d.name word ≡ t → (if t then Some 0 else option_map suc (index_named names word)) ≡ Some i → name_at (d ∷ names) i ≡ word) [
      | true ↦ λ same at. ap (name_at (d ∷ names)) (sym (same_Some 0 i at)) ∙ same_bytes-equal d.name word same
      | false ↦ λ other at.
          let p = following (index_named names word) i at in
          ap (name_at (d ∷ names)) (sym p.is) ∙ name_found names word p.j p.there
    ] refl e

pub declared_found : (names rest : List Declared) (word : Word) (i : ℕ) → index_named names word ≡ Some i → slice_get names i ≡ declared_as (names ++ rest) word
declared_found [] rest word i e = absurd cc
declared_found (d ∷ names) rest word i e =
    elim (same_bytes d.name word) as (λ t. (if t then Some 0 else option_map suc (index_named names word)) ≡ Some i → slice_get (d ∷ names) i ≡ (if t then Some d else declared_as (names ++ rest) word)) [
      | true ↦ λ at. ap (slice_get (d ∷ names)) (sym (same_Some 0 i at))
      | false ↦ λ at.
          let p = following (index_named names word) i at in
          ap (slice_get (d ∷ names)) (sym p.is) ∙ declared_found names rest word p.j p.there
    ] e

pub declared_not_found : (names rest : List Declared) (word : Word) → index_named names word ≡ None → declared_as rest word ≡ declared_as (names ++ rest) word
declared_not_found [] rest word e = refl
declared_not_found (d ∷ names) rest word e =
    elim (same_bytes d.name word) as (λ t. (if t then Some 0 else option_map suc (index_named names word)) ≡ None → declared_as rest word ≡ (if t then Some d else declared_as (names ++ rest) word)) [
      | true ↦ λ at. absurd cc
      | false ↦ λ at. declared_not_found names rest word (no_place (index_named names word) at)
    ] e

-- What a name is declared as, by its place.
module _ (names : Names) (word : Word) where
  place_by : Option ℕ → Option ℕ → Option Slot
  place_by first second = elim first [ Some i ↦ Some (InFrame i) | None ↦ option_map InGlobals second ]

  -- the declaration at a place
  pub at_slot : Slot → Option Declared
  at_slot (InFrame i) = slice_get names.locals i
  at_slot (InGlobals i) = slice_get names.globals i

  in_globals : (i : ℕ) → index_named names.locals word ≡ None → index_named names.globals word ≡ Some i →
      slice_get names.globals i ≡ declared_as (all_names names) word
  in_globals i missing at =
      declared_found names.globals [] word i at
      ∙ ap (λ ds. declared_as ds word) (append-nil names.globals)
      ∙ declared_not_found names.locals names.globals word missing

  declared_by_place : (first second : Option ℕ) (slot : Slot) → index_named names.locals word ≡ first → index_named names.globals word ≡ second →
      place_by first second ≡ Some slot → at_slot slot ≡ declared_as (all_names names) word
  unfolding place_by at_slot
  declared_by_place (Some i) second slot at other e =
      ap at_slot (sym (same_Some (InFrame i) slot e)) ∙ declared_found names.locals names.globals word i at
  declared_by_place None (Some i) slot missing at e = ap at_slot (sym (same_Some (InGlobals i) slot e)) ∙ in_globals i missing at
  declared_by_place None None slot missing none e = absurd cc

  pub declared_local : (i : ℕ) → slot_named names word ≡ Some (InFrame i) → slice_get names.locals i ≡ declared_as (all_names names) word
  unfolding place_by at_slot
  declared_local i e = declared_by_place (index_named names.locals word) (index_named names.globals word) (InFrame i) refl refl e

  pub declared_global : (i : ℕ) → slot_named names word ≡ Some (InGlobals i) → slice_get names.globals i ≡ declared_as (all_names names) word
  unfolding place_by at_slot
  declared_global i e = declared_by_place (index_named names.locals word) (index_named names.globals word) (InGlobals i) refl refl e

  missing_by : (first second : Option ℕ) → index_named names.locals word ≡ first → index_named names.globals word ≡ second →
      place_by first second ≡ None → None ≡ declared_as (all_names names) word
  unfolding place_by
  missing_by (Some i) second at other e = absurd cc
  missing_by None (Some i) missing at e = absurd cc
  missing_by None None missing none e =
      declared_not_found names.globals [] word none
      ∙ ap (λ ds. declared_as ds word) (append-nil names.globals)
      ∙ declared_not_found names.locals names.globals word missing

  pub declared_missing : slot_named names word ≡ None → None ≡ declared_as (all_names names) word
  unfolding place_by
  declared_missing e = missing_by (index_named names.locals word) (index_named names.globals word) refl refl e
