-- Heights that are put into the order of the nodes.
use Rattle.std.proofs.Common.{◌≡◌, ◌≢◌, ℕ, suc, ◌<◌, false, cond, nat_eq, List, [], ◌∷◌, ◌++◌, length, AllPairs, Option, Some, None, Contains, refl, sym, ap, ◌∙◌, subst, arith, append-nil, append_assoc, length-append}
use Rattle.std.specs.List.{IsDistinct}
use Rattle.std.specs.Map.{lookup, keys_of}
use Rattle.std.proofs.lemmas.Bool.{ne_eqb}
use Rattle.std.proofs.lemmas.Bool.Decides.{Decides-eqb}
use Rattle.std.proofs.lemmas.List.{get_or_append_left, get_or_at}
use Rattle.std.proofs.lemmas.Map.Made.{AllPairs-from_IsDistinct}
use Rattle.indexmap.specs.IndexMap.{IndexMap, insert_entry}
use Rattle.indexmap.proofs.CallerLemmas.{insert_entry-new}
use Rattle.dcc_prog.specs.declared.procedure.Node.{Node}
use Rattle.dcc_heights.specs.Search.{height_in, entry_of, ordered_by}

ordered-pushed :
    (heights : List (ℕ × ℕ)) (xs : List (ℕ × Node)) (x : ℕ × Node)
    → ordered_by heights (xs ++ x ∷ []) ≡ ordered_by heights xs ++ entry_of x.0 (height_in heights x.0)
ordered-pushed heights [] x = append-nil (entry_of x.0 (height_in heights x.0))
ordered-pushed heights (y ∷ ys) x =
    ap (λ (l : List (ℕ × ℕ)). entry_of y.0 (height_in heights y.0) ++ l) (ordered-pushed heights ys x)
    ∙ sym
    (append_assoc (entry_of y.0 (height_in heights y.0)) (ordered_by heights ys) (entry_of x.0 (height_in heights x.0)))

ordered-absent :
    (heights : List (ℕ × ℕ)) (xs : List (ℕ × Node)) (at : ℕ) → ¬ Contains (keys_of xs) at
    → lookup (nat_eq at) (ordered_by heights xs) ≡ None
ordered-absent heights [] at absent = refl
ordered-absent heights (x ∷ xs) at absent =
    let other : nat_eq at x.0 ≡ false = ne_eqb at x.0 (λ same. absent (0, omega arith, sym same)) in
    let rest = ordered-absent heights xs at (λ c. absent (suc c.0, (let less = c.1 in omega (arith, less)), c.2)) in
    elim (height_in heights x.0) as (λ h. lookup (nat_eq at) (entry_of x.0 h ++ ordered_by heights xs) ≡ None) [
      | None ↦ rest
      | Some h ↦ ap (λ b. cond b (Some h) (lookup (nat_eq at) (ordered_by heights xs))) other ∙ rest
    ]

-- a node without a height
pub ordered-same :
    (before : List (ℕ × Node)) (at : ℕ) (node : Node) (heights ordered : List (ℕ × ℕ)) → height_in heights at ≡ None
    → ordered ≡ ordered_by heights before
    → ordered ≡ ordered_by heights (before ++ (at, node) ∷ [])
ordered-same before at node heights ordered none so_far =
    so_far
    ∙ sym (append-nil (ordered_by heights before))
    ∙ sym (ap (λ (h : Option ℕ). ordered_by heights before ++ entry_of at h) none)
    ∙ sym (ordered-pushed heights before (at, node))

keys-append :
    (xs ys : List (ℕ × Node)) → keys_of (xs ++ ys) ≡ keys_of xs ++ keys_of ys
keys-append [] ys = refl
keys-append (x ∷ xs) ys = ap (λ l. x.0 ∷ l) (keys-append xs ys)

module _ (all before rest : List (ℕ × Node)) (at : ℕ) (node : Node) (is : all ≡ before ++ (at, node) ∷ rest)
    (distinct : IsDistinct nat_eq (keys_of all)) where
  not-before : ¬ Contains (keys_of before) at
  not-before there =
      let keys = keys_of before in
      let pairs =
      subst (AllPairs (λ x y. x ≢ y)) (ap keys_of is ∙ keys-append before ((at, node) ∷ rest))
      (AllPairs-from_IsDistinct Decides-eqb (keys_of all) distinct) in
      let inside : length keys < length (keys ++ at ∷ keys_of rest) =
      omega (arith, length-append keys (at ∷ keys_of rest)) in
      pairs there.0 (length keys) at there.1 inside
      (get_or_append_left keys (at ∷ keys_of rest) at there.0 there.1
      ∙ there.2
      ∙ sym (get_or_at keys at (keys_of rest) at (length keys) refl))

  module _ (heights : List (ℕ × ℕ)) where
    -- a node with one
    pub ordered-more :
        {S : Type 0} (ordered : IndexMap ℕ ℕ S) (height : ℕ) → height_in heights at ≡ Some height
        → ordered.entries ≡ ordered_by heights before
        → insert_entry nat_eq ordered.entries at height ≡ ordered_by heights (before ++ (at, node) ∷ [])
    ordered-more ordered height has so_far =
        let absent = ap (lookup (nat_eq at)) so_far ∙ ordered-absent heights before at not-before in
        insert_entry-new nat_eq ordered at height absent
        ∙ ap (λ (l : List (ℕ × ℕ)). l ++ (at, height) ∷ []) so_far
        ∙ sym (ap (λ (h : Option ℕ). ordered_by heights before ++ entry_of at h) has)
        ∙ sym (ordered-pushed heights before (at, node))
