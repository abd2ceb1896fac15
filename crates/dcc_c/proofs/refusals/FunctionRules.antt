-- A function that has been read to its end is allowed where nothing offends in it.
use Rattle.std.proofs.Common.{◌≡◌, Bool, true, false, ◌||◌, List, [], ◌∷◌, ◌++◌, map, refl, sym, ap, ◌∙◌}
use Rattle.std.specs.Prelude.{not, option_map}
use Rattle.std.specs.List.{list_all}
use Rattle.dcc_c.specs.Token.{same_bytes}
use Rattle.dcc_c.specs.Tree.{Word, Variable}
use Rattle.dcc_c.specs.Grammar.{is_among}
use Rattle.dcc_c.specs.Rules.{all_differ, has_element}
use Rattle.dcc_c.specs.Partial.{PartialVariable}
use Rattle.dcc_c.specs.TextOffences.{sizes_of, size_offences}
use Rattle.dcc_c.specs.Stripped.{plain_variable}
use Rattle.dcc_c.proofs.refusals.ExprRules.{none-both, both-empty, and-both}
use Rattle.dcc_c.proofs.refusals.ListRules.{none_among, not-true-false}
use Rattle.dcc_c.proofs.refusals.GlobalRules.{size-there, there-size}

-- Lists of names.

among-append : (xs ys : List Word) (word : Word) → is_among (xs ++ ys) word ≡ is_among xs word || is_among ys word
among-append [] ys word = refl
among-append (x ∷ xs) ys word = ap (λ b. same_bytes word x || b) (among-append xs ys word) ∙ or-assoc (same_bytes word x) (is_among xs word) (is_among ys word) where
  or-assoc : (a b c : Bool) → a || (b || c) ≡ (a || b) || c
  or-assoc true b c = refl
  or-assoc false b c = refl

-- two lists without repeats that have no word in common
pub differ-append : (xs ys : List Word) → all_differ xs ≡ true → all_differ ys ≡ true → none_among ys xs ≡ true → all_differ (xs ++ ys) ≡ true
differ-append [] ys e g none = g
differ-append (x ∷ xs) ys e g none =
    let own = and-both (not (is_among xs x)) (all_differ xs) e in
    let others = and-both (not (is_among ys x)) (none_among ys xs) none in
    rw (among-append xs ys x) (rw (not-true-false (is_among xs x) own.0) (rw (not-true-false (is_among ys x) others.0) (differ-append xs ys own.1 g others.1)))

pub append-differ : (xs ys : List Word) → all_differ (xs ++ ys) ≡ true → (all_differ xs ≡ true) × (all_differ ys ≡ true) × (none_among ys xs ≡ true)
append-differ [] ys e = (refl, e, refl)
append-differ (x ∷ xs) ys e =
    let own = and-both (not (is_among (xs ++ ys) x)) (all_differ (xs ++ ys)) e in
    let rest = append-differ xs ys own.1 in
    let none : is_among xs x || is_among ys x ≡ false = sym (among-append xs ys x) ∙ not-true-false (is_among (xs ++ ys) x) own.0 in
    (rw (or-left' (is_among xs x) (is_among ys x) none) rest.0, rest.1, rw (or-right' (is_among xs x) (is_among ys x) none) rest.2) where
      or-left' : (a b : Bool) → a || b ≡ false → a ≡ false
      or-left' true b e = absurd cc
      or-left' false b e = refl

      or-right' : (a b : Bool) → a || b ≡ false → b ≡ false
      or-right' true b e = absurd cc
      or-right' false b e = e

-- Sizes of local arrays.

pub sizes-there : (vs : List PartialVariable) → sizes_of vs ≡ [] → list_all (λ v. has_element v.len) (map plain_variable vs) ≡ true
sizes-there [] none = refl
sizes-there (v ∷ vs) none =
    let both = none-both (size_offences v.size) (sizes_of vs) none in rw (size-there v.size both.0) (sizes-there vs both.1)

pub there-sizes : (vs : List PartialVariable) → list_all (λ v. has_element v.len) (map plain_variable vs) ≡ true → sizes_of vs ≡ []
there-sizes [] e = refl
there-sizes (v ∷ vs) e =
    let parts = and-both (has_element (option_map (λ n. n.value) v.size)) (list_all (λ (u : Variable). has_element u.len) (map plain_variable vs)) e in
    both-empty (there-size v.size parts.0) (there-sizes vs parts.1)
