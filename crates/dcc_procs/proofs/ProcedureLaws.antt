-- One procedure, from its search to its nodes.
use Rattle.std.proofs.Common.{◌≡◌, ◌≢◌, ℕ, ◌≤◌, ◌<◌, List, [], ◌∷◌, length, get_or, map, AllPairs, Contains, IsPermutation, Option, None, refl, sym, ap, subst, arith}
use Rattle.std.specs.List.Sorted.{IsNonDecreasingBy}
use Rattle.std.proofs.lemmas.List.{length-map, get_or-map}
use Rattle.std.proofs.lemmas.List.Elements.{All-contains, All-map}
use Rattle.std.proofs.lemmas.List.Sorted.{IsPermutation-sym, Contains-permutation}
use Rattle.dcc_machine.specs.declared.image.Image.{Image}
use Rattle.dcc_prog.specs.declared.procedure.Layout.{Layout}
use Rattle.dcc_prog.specs.declared.procedure.Node.{Node}
use Rattle.dcc_prog.specs.declared.procedure.Proc.{Proc}
use Rattle.dcc_machine.specs.MzImage.{IsLoaded}
use Rattle.dcc_prog.specs.Trail.{IsNode}
use Rattle.dcc_prog.specs.Prepared.{IsUnprepared}
use Rattle.dcc_prog.specs.Found.{IsFound}
use Rattle.dcc_procs.specs.declared.known.Known.{Known}
use Rattle.dcc_procs.specs.Known.{told}
use Rattle.dcc_procs.specs.Search.{Tells, seen_at, IsListing, IsOrder, AreAllSeen}
use Rattle.dcc_procs.specs.Procedures.{IsProcedure}
use Rattle.dcc_procs.proofs.Clean.{no-construct, small-table}
use Rattle.dcc_prog.proofs.Counting.{no-more}
use Rattle.dcc_procs.proofs.Ordered.{ascending-by}

-- the order, sorted
pub listing-sorted :
    (seen : List (Option Known)) (order sorted : List ℕ) → IsPermutation order sorted → IsListing seen order
    → IsListing seen sorted
listing-sorted seen order sorted moved listing at = (
  λ c. (listing at).0 (Contains-permutation sorted order at (IsPermutation-sym order sorted moved) c),
  λ is. Contains-permutation order sorted at moved ((listing at).1 is),
)

map-self : (xs : List ℕ) → map (λ (x : ℕ). x) xs ≡ xs
map-self [] = refl
map-self (x ∷ xs) = ap (λ l. x ∷ l) (map-self xs)

pub ascending-sorted :
    (order sorted : List ℕ) → IsPermutation order sorted → AllPairs (λ x y. x ≢ y) order
    → IsNonDecreasingBy (λ x. x) sorted → AllPairs (λ a b. a < b) sorted
ascending-sorted order sorted moved distinct up =
    ascending-by (λ (x : ℕ). x) order sorted moved (subst (AllPairs (λ x y. x ≢ y)) (sym (map-self order)) distinct)
    up

-- ascending numbers are different
pub map-apart :
    {A : Type 0} (f : A → ℕ) (xs : List A) → AllPairs (λ a b. f a < f b) xs → AllPairs (λ x y. x ≢ y) (map f xs)
map-apart f [] up i j d less inside same = absurd (omega (arith, inside))
map-apart f (x ∷ xs) up i j d less inside same =
    let short = length-map (x ∷ xs) f in
    let a = get_or-map f (x ∷ xs) i x d (omega (arith, short, less, inside)) in
    let b = get_or-map f (x ∷ xs) j x d (omega (arith, short, inside)) in
    let apart = up i j x less (omega (arith, short, inside)) in
    absurd (omega (arith, a, b, same, apart))

module _ (image : Image) (layout : Layout) (loaded : IsLoaded image) (entry : ℕ) (seen : List (Option Known))
    (order : List ℕ) (all : AreAllSeen image layout entry seen) (o : IsOrder image layout entry seen order)
    (proc : Proc) (entry_is : proc.entry ≡ entry) (found : IsFound image layout proc) where
  tells-some : (known : Option Known) (t : Known) → Tells known t → known ≢ None
  tells-some known t tells none = subst (λ k. Tells k t) none tells

  -- a node is among the offsets
  in-order : (at : ℕ) → IsNode image layout entry at → Contains order at
  in-order at node =
      (o.every at).1
      (tells-some (seen_at seen at) (told image layout at node.before) (all.told at node.before node.trail))

  few-nodes : length proc.nodes.entries ≤ 4096
  few-nodes =
      let f : ℕ × Node → ℕ = λ n. n.0 in
      let among : (x : ℕ) → Contains (map f proc.nodes.entries) x → Contains order x = λ x c.
      All-contains (Contains order) (map f proc.nodes.entries) x
      (All-map (Contains order) f proc.nodes.entries (λ k d inside. in-order (get_or proc.nodes.entries k d).0 (subst (λ e. IsNode image layout e (get_or proc.nodes.entries k d).0) entry_is (found.nodes k d inside).node)))
      c in
      let le = no-more (map f proc.nodes.entries) order (map-apart f proc.nodes.entries found.ascending) among in
      let short = length-map proc.nodes.entries f in
      let few = o.few in
      omega (arith, le, short, few)

  pub is-procedure :
      ((at : ℕ) → IsNode image layout entry at → ¬ IsUnprepared image layout entry at)
      → IsProcedure image layout entry proc
  is-procedure prepared = record {
    entry_is = entry_is;
    found = found;
    clean = no-construct image layout loaded entry seen all prepared;
    few = few-nodes;
    small = small-table image layout loaded entry seen all;
  }
