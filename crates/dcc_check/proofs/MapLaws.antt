-- Maps of words, in which the first value of a word counts.
use Rattle.std.proofs.Common.{◌≡◌, ℕ, Bool, true, false, cond, List, [], ◌∷◌, ◌++◌, Option, Some, None, refl, sym, ap, ◌∙◌, subst}
use Rattle.std.specs.Prelude.{is_some, option_map, if◌then◌else◌}
use Rattle.std.specs.BTreeMap as tree
use Rattle.std.specs.Map.{lookup}
use Rattle.std.specs.Str.{bytes_eq}
use Rattle.std.specs.Cmp.Lexicographic.{slice_cmp}
use Rattle.std.specs.Ordering.{nat_cmp}
use Rattle.std.proofs.lemmas.Map.Text.{btree_map_updates_str}
use denote.Ref.{Bor}
use Rattle.dcc_c.specs.Token.{same_bytes}
use Rattle.dcc_c.specs.Tree.{Word}
use Rattle.dcc_c.specs.Dos as dos
use Rattle.dcc_c.specs.Typing.{Declared, declared_as}
use Rattle.dcc_c.specs.Known.{Known, known, known_as}
use Rattle.dcc_c.proofs.NameLaws.{same_bytes-equal}
use Rattle.dcc_check.specs.declared.context.Signature.{Signature}
use Rattle.dcc_check.specs.Declarations.{first_found}
use Rattle.dcc_check.specs.Contexts.{held, head_of, signature_of}
use Rattle.dcc_reader.proofs.SetLaws.{same_bytes-bytes_eq}

pub first-none : {X : Type 0} (o : Option X) → first_found o None ≡ o
first-none (Some x) = refl
first-none None = refl

first-added : {X : Type 0} (o : Option X) (c : Bool) (v : X) → (c ≡ true → is_some o ≡ false) → cond c (Some v) o ≡ first_found o (if c then Some v else None)
first-added None true v absent = refl
first-added None false v absent = refl
first-added (Some x) false v absent = refl
first-added (Some x) true v absent = absurd (no-false (absent refl)) where
  no-false : true ≡ false → ⊥
  no-false e = absurd cc

pub none-found : {X : Type 0} (o : Option X) → ((x : X) → o ≡ Some x → ⊥) → is_some o ≡ false
none-found None not_some = refl
none-found (Some x) not_some = absurd (not_some x refl)

first-restored : {X : Type 0} (o : Option X) (b : Bool) (v first : X) → (b ≡ true → o ≡ Some first) →
    cond b (Some first) (cond b (Some v) o) ≡ first_found o (if b then Some v else None)
first-restored o true v first had = sym (ap (λ p. first_found p (Some v)) (had refl))
first-restored o false v first had = sym (first-none o)

-- a word that has none gets one
pub held-added : {X : Type 0} (m n : tree.BTreeMap (Bor (List ℕ)) X) (word : Word) (v : X) →
    tree.UpdatesBy (λ x y. slice_cmp nat_cmp x.now y.now) (λ k. slice_cmp nat_cmp word k.now) m n (Some v) → is_some (held m word) ≡ false →
    (other : Word) → held n other ≡ first_found (held m other) (if same_bytes word other then Some v else None)
held-added m n word v updates absent other =
    btree_map_updates_str word m n (Some v) updates other
    ∙ ap (λ b. cond b (Some v) (held m other)) (sym (same_bytes-bytes_eq word other))
    ∙ first-added (held m other) (same_bytes word other) v (λ same. subst (λ w. is_some (held m w) ≡ false) (same_bytes-equal word other same) absent)

-- a word that had a value gets it back
pub held-restored : {X : Type 0} (m n o : tree.BTreeMap (Bor (List ℕ)) X) (word : Word) (v first : X) →
    tree.UpdatesBy (λ x y. slice_cmp nat_cmp x.now y.now) (λ k. slice_cmp nat_cmp word k.now) m n (Some v) →
    tree.UpdatesBy (λ x y. slice_cmp nat_cmp x.now y.now) (λ k. slice_cmp nat_cmp word k.now) n o (Some first) → held m word ≡ Some first →
    (other : Word) → held o other ≡ first_found (held m other) (if same_bytes word other then Some v else None)
held-restored m n o word v first updates restores had other =
    btree_map_updates_str word n o (Some first) restores other
    ∙ ap (λ p. cond (bytes_eq word other) (Some first) p) (btree_map_updates_str word m n (Some v) updates other)
    ∙ ap (λ b. cond b (Some first) (cond b (Some v) (held m other))) (sym (same_bytes-bytes_eq word other))
    ∙ first-restored (held m other) (same_bytes word other) v first (λ same. subst (λ w. held m w ≡ Some first) (same_bytes-equal word other same) had)

-- a function more, before others
pub head-step : (o n : Option (Option Signature)) (b : Bool) (v : Option Signature) (s : Option dos.Signature) (name : Word) (others : Option Known) →
    n ≡ first_found o (if b then Some v else None) → option_map signature_of v ≡ s →
    first_found (option_map (λ head. option_map signature_of head) n) (option_map head_of others)
    ≡ first_found (option_map (λ head. option_map signature_of head) o) (option_map head_of (if b then Some (known name s) else others))
head-step o n b v s name others n_is s_is =
    ap (λ m. first_found (option_map (λ head. option_map signature_of head) m) (option_map head_of others)) n_is ∙ step o b where
      step : (o : Option (Option Signature)) (b : Bool) →
          first_found (option_map (λ head. option_map signature_of head) (first_found o (if b then Some v else None))) (option_map head_of others)
          ≡ first_found (option_map (λ head. option_map signature_of head) o) (option_map head_of (if b then Some (known name s) else others))
      step (Some x) b = refl
      step None true = ap Some s_is
      step None false = refl

-- a known function more, before others
pub known-step : (k : Known) (ks : List Known) (word : Word) (o n : Option (Option Signature)) (v : Option Signature) →
    n ≡ first_found o (if same_bytes k.name word then Some v else None) → option_map signature_of v ≡ k.signature →
    first_found (option_map (λ head. option_map signature_of head) n) (option_map head_of (known_as ks word))
    ≡ first_found (option_map (λ head. option_map signature_of head) o) (option_map head_of (known_as (k ∷ ks) word))
known-step k ks word o n v n_is s_is = head-step o n (same_bytes k.name word) v k.signature k.name (known_as ks word) n_is s_is

pub known-append : (xs ys : List Known) (word : Word) → known_as (xs ++ ys) word ≡ first_found (known_as xs word) (known_as ys word)
known-append [] ys word = refl
known-append (x ∷ xs) ys word = either (same_bytes x.name word) (known-append xs ys word) where
  either : (b : Bool) → known_as (xs ++ ys) word ≡ first_found (known_as xs word) (known_as ys word) →
      (if b then Some x else known_as (xs ++ ys) word) ≡ first_found (if b then Some x else known_as xs word) (known_as ys word)
  either true e = refl
  either false e = e

pub map-found : {X Y : Type 0} (f : X → Y) (o p : Option X) → option_map f (first_found o p) ≡ first_found (option_map f o) (option_map f p)
map-found f (Some x) p = refl
map-found f None p = refl

pub found-group : {X : Type 0} (o p q : Option X) → first_found (first_found o p) q ≡ first_found o (first_found p q)
found-group (Some x) p q = refl
found-group None p q = refl

-- an empty map
pub none-held : {X : Type 0} (m : tree.BTreeMap (Bor (List ℕ)) X) (word : Word) → m.entries ≡ [] → held m word ≡ None
none-held {X = X} m word empty = ap (λ (es : List (Bor (List ℕ) × X)). lookup (tree.is_at (λ k. slice_cmp nat_cmp word k.now)) es) empty

pub declared-append : (xs ys : List Declared) (word : Word) → declared_as (xs ++ ys) word ≡ first_found (declared_as xs word) (declared_as ys word)
declared-append [] ys word = refl
declared-append (x ∷ xs) ys word = either (same_bytes x.name word) (declared-append xs ys word) where
  either : (b : Bool) → declared_as (xs ++ ys) word ≡ first_found (declared_as xs word) (declared_as ys word) →
      (if b then Some x else declared_as (xs ++ ys) word) ≡ first_found (if b then Some x else declared_as xs word) (declared_as ys word)
  either true e = refl
  either false e = e
