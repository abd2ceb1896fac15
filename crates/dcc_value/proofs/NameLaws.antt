-- Laws of names and of the places of those that have them.
use Rattle.std.proofs.Common.{◌≡◌, ℕ, suc, Bool, true, false, cond, List, [], ◌∷◌, ◌++◌, length, map, string_bytes, Option, Some, None, refl, sym, ap, ◌∙◌, subst}
use Rattle.std.specs.Prelude.{is_some, option_map, if◌then◌else◌}
use Rattle.std.specs.BTreeMap as tree
use Rattle.std.specs.Cmp.Lexicographic.{slice_cmp}
use Rattle.std.specs.Ordering.{nat_cmp}
use Rattle.std.proofs.lemmas.Map.Text.{btree_map_updates_str}
use denote.Ref.{Bor}
use Rattle.dcc_c.specs.Token.{same_bytes}
use Rattle.dcc_c.specs.Tree.{Word}
use Rattle.dcc_c.specs.Typing.{Declared}
use Rattle.dcc_c.proofs.NameLaws.{same_bytes-equal, same_bytes-pointwise}
use Rattle.dcc_value.specs.declared.variable.Declared.{Declared as Named}
use Rattle.dcc_value.specs.Evaluation.{declared_of, names_declared}
use Rattle.dcc_value.specs.Places.{place_of, first_place, AreFirst}

-- Places of names.

-- the first of two places, or else the other
earlier : Option ℕ → Option ℕ → Option ℕ
earlier (Some i) other = Some i
earlier None other = other

after_one : (b : Bool) (o : Option ℕ) (c : Bool) (n : ℕ) → (if b then Some 0 else option_map suc (earlier o (if c then Some n else None)))
    ≡ earlier (if b then Some 0 else option_map suc o) (if c then Some (suc n) else None)
unfolding earlier
after_one true o c n = refl
after_one false (Some i) c n = refl
after_one false None true n = refl
after_one false None false n = refl

-- one name more
first-push : (words : List Word) (name word : Word) →
    first_place (words ++ name ∷ []) word ≡ earlier (first_place words word) (if same_bytes name word then Some (length words) else None)
unfolding earlier
first-push [] name word = refl
first-push (w ∷ words) name word =
    ap (λ o. if same_bytes w word then Some 0 else option_map suc o) (first-push words name word)
    ∙ after_one (same_bytes w word) (first_place words word) (same_bytes name word) (length words)

kept : (o : Option ℕ) (b : Bool) (n : ℕ) → (b ≡ true → is_some o ≡ true) → o ≡ earlier o (if b then Some n else None)
unfolding earlier
kept (Some x) b n has = refl
kept None true n has = absurd (no-true (has refl)) where
  no-true : false ≡ true → ⊥
  no-true e = absurd cc
kept None false n has = refl

put : (o : Option ℕ) (b : Bool) (n : ℕ) → (b ≡ true → is_some o ≡ false) → cond b (Some n) o ≡ earlier o (if b then Some n else None)
unfolding earlier
put None true n absent = refl
put None false n absent = refl
put (Some x) false n absent = refl
put (Some x) true n absent = absurd (no-false (absent refl)) where
  no-false : true ≡ false → ⊥
  no-false e = absurd cc

-- one name more behind those that the map knows
module _ (places : tree.BTreeMap (Bor (List ℕ)) ℕ) (words : List Word) (name : Word) (place : ℕ)
    (are : AreFirst places words) (behind : place ≡ length words) where
  pushed : (word : Word) (o : Option ℕ) → o ≡ earlier (place_of places word) (if same_bytes name word then Some place else None) →
      o ≡ first_place (words ++ name ∷ []) word
  pushed word o is =
      is
      ∙ ap (λ p. earlier p (if same_bytes name word then Some place else None)) (are word)
      ∙ ap (λ n. earlier (first_place words word) (if same_bytes name word then Some n else None)) behind
      ∙ sym (first-push words name word)

  -- a name that has a place keeps it
  pub first-kept : is_some (place_of places name) ≡ true → AreFirst places (words ++ name ∷ [])
  first-kept has word = pushed word (place_of places word)
      (kept (place_of places word) (same_bytes name word) place
      (λ same. subst (λ w. is_some (place_of places w) ≡ true) (same_bytes-equal name word same) has))

  -- a name that has none gets it
  pub first-added : (now : tree.BTreeMap (Bor (List ℕ)) ℕ) →
      tree.UpdatesBy (λ x y. slice_cmp nat_cmp x.now y.now) (λ k. slice_cmp nat_cmp name k.now) places now (Some place) →
      is_some (place_of places name) ≡ false → AreFirst now (words ++ name ∷ [])
  first-added now updates absent word = pushed word (place_of now word)
      (btree_map_updates_str name places now (Some place) updates word
      ∙ ap (λ b. cond b (Some place) (place_of places word)) (sym (same_bytes-pointwise name word))
      ∙ put (place_of places word) (same_bytes name word) place
      (λ same. subst (λ w. is_some (place_of places w) ≡ false) (same_bytes-equal name word same) absent))

-- Declarations.

pub names-declared : (ds : List Named) → names_declared ds ≡ map (λ (d : Declared). d.name) (map declared_of ds)
names-declared [] = refl
names-declared (d ∷ ds) = ap (λ l. string_bytes d.name ∷ l) (names-declared ds)
