-- Which resolved expressions stand for which expressions.
use Rattle.std.proofs.Common.{◌≡◌, ℕ, Bool, true, false, List, [], Option, Some, None, refl, sym, ap, ◌∙◌, subst}
use Rattle.std.specs.Prelude.{option_map, slice_get}
use Rattle.std.proofs.lemmas.List.{append-nil}
use Rattle.std.proofs.lemmas.Option.{same_Some}
use Rattle.dcc_c.specs.declared.syntax.CUn.TheVariants.{AddressOf}
use Rattle.dcc_c.specs.Tree.{Word, Name, Unary}
use Rattle.dcc_c.specs.Typing.{Declared}
use Rattle.dcc_c.specs.Value.{Gives, and_then, given, Binding, is_placed, declared_by, variable_in, variable_value, address_value, variable_target, ToVariable}
use Rattle.dcc_value.specs.declared.variable.Binding.{Binding as Bound}
use Rattle.dcc_value.specs.declared.expression.Slot.{Slot}
use Rattle.dcc_value.specs.declared.expression.Slot.TheVariants.{Local as InFrame, Global as InGlobals}
use Rattle.dcc_value.specs.declared.expression.Resolved.{Variable, AddressOf as AddressIn, Meaningless}
use Rattle.dcc_value.specs.Evaluation.{storage_of, unnamed, binding_named, bindings_named}
use Rattle.dcc_value.specs.Resolved.{Contents, slot_in, slot_target, Names, Fits, scope_over, index_named, slot_named, target_named, IsAlone, LandsIn, Stands}
use Rattle.dcc_value.proofs.PlaceLaws.{Found, found, not_found, placed_at, name_found}

-- an assignment to a variable of the call
module _ (names : List Declared) (word : Word) (i : ℕ) (at : index_named names word ≡ Some i) where
  local_target : (b : Bound) →
      and_then (λ t. Gives (target_named names t)) (slot_target (InFrame i) (unnamed b)) ≡ variable_target word (binding_named word b)
  local_target b = cases b.is_array b.is_placed b.bits
    where
      cases : (array placed : Bool) (bits : ℕ) →
          and_then (λ t. Gives (target_named names t)) (slot_target (InFrame i) (unnamed (record { ty = b.ty; is_array = array; is_placed = placed; bits = bits })))
          ≡ variable_target word (binding_named word (record { ty = b.ty; is_array = array; is_placed = placed; bits = bits }))
      cases true placed bits = refl
      cases false true bits = refl
      cases false false bits = ap (λ w. Gives (ToVariable w)) (name_found names word i at)

  local_lands : (b : Bound) → slice_get names i ≡ Some (declared_by (binding_named word b)) →
      LandsIn names (slot_target (InFrame i) (unnamed b))
  local_lands b declared = cases b.is_array b.is_placed b.bits declared
    where
      cases : (array placed : Bool) (bits : ℕ) →
          slice_get names i ≡ Some (declared_by (binding_named word (record { ty = b.ty; is_array = array; is_placed = placed; bits = bits }))) →
          LandsIn names (slot_target (InFrame i) (unnamed (record { ty = b.ty; is_array = array; is_placed = placed; bits = bits })))
      cases true placed bits is = tt
      cases false true bits is = tt
      cases false false bits is =
          (ap (index_named names) (name_found names word i at) ∙ at, subst IsAlone (sym is) refl)

-- an assignment to a global variable, which is in memory
global_target : (names : List Declared) (word : Word) (i : ℕ) (b : Bound) → is_placed (storage_of b.is_placed b.bits) ≡ true →
    and_then (λ t. Gives (target_named names t)) (slot_target (InGlobals i) (unnamed b)) ≡ variable_target word (binding_named word b)
global_target names word i b placed = cases b.is_array b.is_placed b.bits placed
  where
    cases : (array placed : Bool) (bits : ℕ) → is_placed (storage_of placed bits) ≡ true →
        and_then (λ t. Gives (target_named names t)) (slot_target (InGlobals i) (unnamed (record { ty = b.ty; is_array = array; is_placed = placed; bits = bits })))
        ≡ variable_target word (binding_named word (record { ty = b.ty; is_array = array; is_placed = placed; bits = bits }))
    cases true placed bits is = refl
    cases false true bits is = refl
    cases false false bits is = absurd cc

global_lands : (names : List Declared) (i : ℕ) (b : Bound) → LandsIn names (slot_target (InGlobals i) (unnamed b))
global_lands names i b = cases b.is_array b.is_placed b.bits
  where
    cases : (array placed : Bool) (bits : ℕ) →
        LandsIn names (slot_target (InGlobals i) (unnamed (record { ty = b.ty; is_array = array; is_placed = placed; bits = bits })))
    cases true placed bits = tt
    cases false true bits = tt
    cases false false bits = tt

-- what the variable with a name is, at its place
record Seen (names : Names) (scene : Contents) (word : Word) (slot : Slot) : Type 0 where
  b : Bound
  here : slot_in scene slot ≡ Some (unnamed b)
  in_scope : variable_in (scope_over names scene).variables word ≡ Some (binding_named word b)
  target : and_then (λ t. Gives (target_named names.locals t)) (slot_target slot (unnamed b)) ≡ variable_target word (binding_named word b)
  lands : LandsIn names.locals (slot_target slot (unnamed b))

module _ (names : Names) (scene : Contents) (fits : Fits names scene) (word : Word) where
  locals : List Binding
  locals = bindings_named names.locals scene.frame

  globals : List Binding
  globals = bindings_named names.globals scene.globals

  seen_local : (i : ℕ) → index_named names.locals word ≡ Some i → Seen names scene word (InFrame i)
  seen_local i at =
      let f : Found names.locals scene.frame word i = found names.locals scene.frame word i fits.locals at in
      record {
        b = f.b;
        here = ap (option_map unnamed) f.here;
        in_scope = f.in_scope (bindings_named names.globals scene.globals);
        target = local_target names.locals word i at f.b;
        lands = local_lands names.locals word i at f.b f.declared;
      }

  seen_global : (i : ℕ) → index_named names.locals word ≡ None → index_named names.globals word ≡ Some i →
      Seen names scene word (InGlobals i)
  seen_global i missing at =
      let f : Found names.globals scene.globals word i = found names.globals scene.globals word i fits.globals at in
      record {
        b = f.b;
        here = ap (option_map unnamed) f.here;
        in_scope = not_found names.locals scene.frame word (bindings_named names.globals scene.globals) missing
            ∙ ap (λ bs. variable_in bs word) (sym (append-nil (bindings_named names.globals scene.globals))) ∙ f.in_scope [];
        target = global_target names.locals word i f.b (placed_at names.globals scene.globals i f.b fits.globals fits.placed _ f.declared f.here);
        lands = global_lands names.locals i f.b;
      }

  -- the place, by where the name is found
  place_by : Option ℕ → Option ℕ → Option Slot
  place_by first second = elim first [ Some i ↦ Some (InFrame i) | None ↦ option_map InGlobals second ]

  seen_by : (first second : Option ℕ) (slot : Slot) → index_named names.locals word ≡ first → index_named names.globals word ≡ second →
      place_by first second ≡ Some slot → Seen names scene word slot
  unfolding place_by
  seen_by (Some i) second slot at other e = subst (Seen names scene word) (same_Some (InFrame i) slot e) (seen_local i at)
  seen_by None (Some i) slot missing at e = subst (Seen names scene word) (same_Some (InGlobals i) slot e) (seen_global i missing at)
  seen_by None None slot missing none e = absurd cc

  seen : (slot : Slot) → slot_named names word ≡ Some slot → Seen names scene word slot
  unfolding place_by
  seen slot e = seen_by (index_named names.locals word) (index_named names.globals word) slot refl refl e

  unseen_by : (first second : Option ℕ) → index_named names.locals word ≡ first → index_named names.globals word ≡ second →
      place_by first second ≡ None → variable_in (scope_over names scene).variables word ≡ None
  unfolding place_by
  unseen_by (Some i) second at other e = absurd cc
  unseen_by None (Some i) missing at e = absurd cc
  unseen_by None None missing none e =
      not_found names.locals scene.frame word (bindings_named names.globals scene.globals) missing
      ∙ ap (λ bs. variable_in bs word) (sym (append-nil (bindings_named names.globals scene.globals)))
      ∙ not_found names.globals scene.globals word [] none

  unseen : slot_named names word ≡ None → variable_in (scope_over names scene).variables word ≡ None
  unfolding place_by
  unseen e = unseen_by (index_named names.locals word) (index_named names.globals word) refl refl e

-- a name that is declared
pub name_stands : (names : Names) (word : Word) (slot : Slot) → slot_named names word ≡ Some slot → Stands names (Name word) (Variable slot)
name_stands names word slot e = record {
  value = λ scene fits.
      let s = seen names scene fits word slot e in
      ap (λ o. and_then (variable_value scene.memory) (given o)) s.here
      ∙ sym (ap (λ o. and_then (variable_value scene.memory) (given o)) s.in_scope);
  target = λ scene fits.
      let s = seen names scene fits word slot e in
      ap (λ o. and_then (λ t. Gives (target_named names.locals t)) (and_then (slot_target slot) (given o))) s.here
      ∙ s.target ∙ sym (ap (λ o. and_then (variable_target word) (given o)) s.in_scope);
  lands = λ scene fits.
      let s = seen names scene fits word slot e in
      subst (λ o. LandsIn names.locals (and_then (slot_target slot) (given o))) (sym s.here) s.lands;
}

-- a name that is not declared has no meaning
pub no_name_stands : (names : Names) (word : Word) → slot_named names word ≡ None → Stands names (Name word) Meaningless
no_name_stands names word e = record {
  value = λ scene fits. sym (ap (λ o. and_then (variable_value scene.memory) (given o)) (unseen names scene fits word e));
  target = λ scene fits. sym (ap (λ o. and_then (variable_target word) (given o)) (unseen names scene fits word e));
  lands = λ scene fits. tt;
}

-- the address of a name
pub address_stands : (names : Names) (word : Word) (slot : Slot) → slot_named names word ≡ Some slot → Stands names (Unary AddressOf (Name word)) (AddressIn slot)
address_stands names word slot e = record {
  value = λ scene fits.
      let s = seen names scene fits word slot e in
      ap (λ o. and_then address_value (given o)) s.here ∙ sym (ap (λ o. and_then address_value (given o)) s.in_scope);
  target = λ scene fits. refl;
  lands = λ scene fits. tt;
}

pub no_address_stands : (names : Names) (word : Word) → slot_named names word ≡ None → Stands names (Unary AddressOf (Name word)) Meaningless
no_address_stands names word e = record {
  value = λ scene fits. sym (ap (λ o. and_then address_value (given o)) (unseen names scene fits word e));
  target = λ scene fits. refl;
  lands = λ scene fits. tt;
}
