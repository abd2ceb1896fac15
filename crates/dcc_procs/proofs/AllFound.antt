-- The procedures that are reached, in order: what is found.
use Rattle.std.proofs.Common.{◌≡◌, ◌≢◌, inl, inr, ℕ, ◌<◌, List, [], ◌∷◌, length, get_or, remove, map, All, AllPairs, Contains, IsPermutation, Some, refl, sym, ap, ◌∙◌, subst, arith, take_all}
use Rattle.std.specs.List.Sorted.{IsNonDecreasingBy}
use Rattle.std.proofs.lemmas.Option.{slice_get_within, slice_get-get_or}
use Rattle.std.proofs.lemmas.List.{length-map, get_or-map}
use Rattle.std.proofs.lemmas.List.Elements.{All-contains, Contains-get_or, Contains-append_left, Contains-append_right, Contains-append_cases, Contains-push_cases}
use Rattle.std.proofs.lemmas.List.Sorted.{IsPermutation-cons, All-permutation, Contains-permutation}
use Rattle.dcc_machine.specs.declared.image.Image.{Image}
use Rattle.dcc_prog.specs.declared.procedure.Layout.{Layout}
use Rattle.dcc_prog.specs.declared.procedure.Node.{Node}
use Rattle.dcc_prog.specs.declared.procedure.Proc.{Proc}
use Rattle.dcc_prog.specs.declared.refusal.ConstructKind.{ConstructKind}
use Rattle.dcc_prog.specs.declared.refusal.LimitName.{LimitName}
use Rattle.dcc_machine.specs.declared.instr.Op.TheVariants.{Call}
use Rattle.dcc_prog.specs.Trail.{StandsAt, IsNode, IsEntry, start, called}
use Rattle.dcc_prog.specs.Construct.{HasNumber, IsAtNode, IsOfTrails}
use Rattle.dcc_prog.specs.Limit.{HasMany, IsNodeOf, IsAbove, procedures, instructions, total, entries}
use Rattle.dcc_prog.specs.Found.{IsFound, IsListed, HasEntry, AreInOrder, AreFound}
use Rattle.dcc_procs.specs.Procedures.{IsProcedure, AreReached}
use Rattle.dcc_prog.proofs.Counting.{few}
use Rattle.dcc_procs.proofs.Ordered.{ascending-by}
use Rattle.dcc_procs.proofs.Places.{places_of, length-places, contains-place, pairs-head, pairs-tail}

-- the value whose image is among the images
mapped-from :
    {A : Type 0} (f : A → ℕ) (xs : List A) (y : ℕ) → Contains (map f xs) y → (x : A) × Contains xs x × (f x ≡ y)
mapped-from f [] y c = absurd (let inside = c.1 in omega (arith, inside))
mapped-from f (x ∷ xs) y c = elim (Contains-append_cases (f x ∷ []) (map f xs) y c) [
  | inl here ↦ elim (Contains-push_cases [] (f x) y here) [
    | inl none ↦ absurd (let inside = none.1 in omega (arith, inside))
    | inr same ↦ (x, Contains-append_left (x ∷ []) xs x (0, omega arith, refl), same)
  ]
  | inr there ↦ (let r = mapped-from f xs y there in (r.0, Contains-append_right (x ∷ []) xs r.0 r.1, r.2))
]

-- a listed offset is among the offsets
listed-offset : (nodes : List (ℕ × Node)) (at : ℕ) → IsListed nodes at → Contains (map (λ (n : ℕ × Node). n.0) nodes) at
listed-offset nodes at l =
    let f : ℕ × Node → ℕ = λ n. n.0 in
    let inside = slice_get_within nodes l.place (at, l.node) l.listed in
    let both = sym (slice_get-get_or nodes l.place (at, l.node) inside) ∙ l.listed in
    let is : get_or nodes l.place (at, l.node) ≡ (at, l.node) = cc in
    let short = length-map nodes f in
    (l.place, omega (arith, short, inside), get_or-map f nodes l.place (at, l.node) at inside ∙ ap f is)

-- the first of some procedures is taken out
pub some-procs :
    (image : Image) (layout : Layout) (procs : List Proc) → AreReached image layout procs → 0 < length procs
some-procs image layout procs a = let all = a.all in let some = a.first.some in omega (arith, all, some)

pub removed-first :
    (procs : List Proc) (first : Proc) → 0 < length procs → first ≡ get_or procs 0 first
    → procs ≡ first ∷ remove procs 0
removed-first [] first some is = absurd (omega (arith, some))
removed-first (x ∷ xs) first some is = ap (λ p. p ∷ xs) (sym is)

module _ (image : Image) (layout : Layout) (x : Proc) (xs sorted : List Proc)
    (a : AreReached image layout (x ∷ xs)) (moved : IsPermutation xs sorted)
    (up : IsNonDecreasingBy (λ (p : Proc). p.entry) sorted) where
  entry_in : Proc → ℕ
  entry_in p = p.entry

  all-moved : IsPermutation (x ∷ xs) (x ∷ sorted)
  all-moved = IsPermutation-cons x xs sorted moved

  entries-are : map (λ (p : Proc). p.entry) (x ∷ xs) ≡ a.entries
  entries-are = a.first.entries_are ∙ take_all (length (x ∷ xs)) a.entries (let all = a.all in omega (arith, all))

  distinct : AllPairs (λ n m. n ≢ m) (map (λ (p : Proc). p.entry) (x ∷ xs))
  distinct = subst (AllPairs (λ n m. n ≢ m)) (sym entries-are) a.distinct

  first-is : x.entry ≡ layout.start_ip
  first-is = ap (λ l. get_or l 0 0) entries-are ∙ a.first.start

  -- the procedure with an entry
  record IsOne (entry : ℕ) : Type 0 where
    proc : Proc
    among : Contains (x ∷ xs) proc
    entry_is : proc.entry ≡ entry
    is : IsProcedure image layout proc.entry proc

  one-of : (entry : ℕ) → Contains a.entries entry → IsOne entry
  one-of entry c =
      let r = mapped-from (λ (p : Proc). p.entry) (x ∷ xs) entry (subst (λ l. Contains l entry) (sym entries-are) c) in
      record {
        proc = r.0;
        among = r.1;
        entry_is = r.2;
        is = All-contains (λ (p : Proc). IsProcedure image layout p.entry p) (x ∷ xs) r.0 a.first.procedures r.1;
      }

  all-entries : (entry : ℕ) → IsEntry image layout entry → Contains a.entries entry
  all-entries _ start = subst (Contains a.entries) a.first.start (Contains-get_or a.entries 0 0 a.first.some)
  all-entries _ (called {entry} {at} {target} is_entry node stands) =
      let o = one-of entry (all-entries entry is_entry) in
      All-contains
      (λ (p : Proc). (at target : ℕ) → IsNode image layout p.entry at → StandsAt image layout at (Call target) → Contains a.entries target)
      (x ∷ xs) o.proc a.first.callees o.among at target
      (subst (λ e. IsNode image layout e at) (sym o.entry_is) node) stands

  one : (entry : ℕ) → IsEntry image layout entry → IsOne entry
  one entry is_entry = one-of entry (all-entries entry is_entry)

  in-order : AreInOrder layout (x ∷ sorted)
  in-order =
      let e : Proc → ℕ = λ p. p.entry in
      record {
        start = x;
        others = sorted;
        procs_are = refl;
        first = first-is;
        apart = All-permutation (λ (p : Proc). p.entry ≢ layout.start_ip) xs sorted moved (λ k d inside same.
            let short = length-map xs e in
            pairs-head (λ n m. n ≢ m) x.entry (map e xs) distinct k (e d) (omega (arith, short, inside))
            (first-is ∙ sym same ∙ sym (get_or-map e xs k d (e d) inside)));
        ascending = ascending-by e xs sorted moved (pairs-tail (λ n m. n ≢ m) x.entry (map e xs) distinct) up;
      }

  all-reached : All (λ (p : Proc). IsEntry image layout p.entry) (x ∷ sorted)
  all-reached =
      let e : Proc → ℕ = λ p. p.entry in
      All-permutation (λ (p : Proc). IsEntry image layout p.entry) (x ∷ xs) (x ∷ sorted) all-moved (λ k d inside.
      let short = length-map (x ∷ xs) e in
      a.reached (e (get_or (x ∷ xs) k d))
      (subst (λ l. Contains l (e (get_or (x ∷ xs) k d))) entries-are (k, omega (arith, short, inside), get_or-map e (x ∷ xs) k d (e (get_or (x ∷ xs) k d)) inside)))

  has-entry : (entry : ℕ) → IsEntry image layout entry → HasEntry (x ∷ sorted) entry
  has-entry entry is_entry =
      let o = one entry is_entry in
      let c = Contains-permutation (x ∷ xs) (x ∷ sorted) o.proc all-moved o.among in
      record {
        proc = o.proc;
        place = c.0;
        listed = slice_get-get_or (x ∷ sorted) c.0 o.proc c.1 ∙ ap (λ p. Some p) c.2;
        entry_is = o.entry_is;
      }

  no-construct : (kind : ConstructKind) (at : ℕ) → ¬ IsOfTrails kind image layout at
  no-construct kind at h =
      let o = one h.entry h.is_entry in
      o.is.clean kind at (subst (λ e. IsNode image layout e at) (sym o.entry_is) h.node)
      (subst (λ e. IsAtNode image layout e at kind) (sym o.entry_is) h.stands)

  few-procedures : HasMany (IsEntry image layout) 513 → ⊥
  few-procedures many =
      let le = few (IsEntry image layout) a.entries 513 all-entries many in
      let small = a.few in
      absurd (omega (arith, le, small))

  few-instructions : (entry : ℕ) → IsEntry image layout entry → HasMany (IsNode image layout entry) 4097 → ⊥
  few-instructions entry is_entry many =
      let o = one entry is_entry in
      let f : ℕ × Node → ℕ = λ n. n.0 in
      let nodes = o.proc.nodes.entries in
      let le =
      few (IsNode image layout entry) (map f nodes) 4097
      (λ at node. listed-offset nodes at (o.is.found.every at (subst (λ e. IsNode image layout e at) (sym o.entry_is) node)))
      many in
      let short = length-map nodes f in
      let small = o.is.few in
      absurd (omega (arith, le, short, small))

  few-places : HasMany (IsNodeOf image layout) 32769 → ⊥
  few-places many =
      let le = few (IsNodeOf image layout) (places_of (x ∷ xs)) 32769 (λ place p.
      let o = one place.0 p.is_entry in
      let there =
      contains-place (x ∷ xs) o.proc place.1 o.among
      (o.is.found.every place.1 (subst (λ e. IsNode image layout e place.1) (sym o.entry_is) p.node)) in
      subst (λ e. Contains (places_of (x ∷ xs)) (e, place.1)) o.entry_is there) many in
      let whole = length-places (x ∷ xs) in
      let small = a.first.total in
      absurd (omega (arith, le, whole, small))

  no-limit : (what : LimitName) (count : ℕ) → ¬ IsAbove image layout what count
  no-limit _ _ (procedures many) = few-procedures many
  no-limit _ _ (instructions {entry} is_entry many) = few-instructions entry is_entry many
  no-limit _ _ (total many) = few-places many
  no-limit _ _ (entries {entry} {at} {number} is_entry has more) =
      let o = one entry is_entry in
      let small = o.is.small at number (subst (λ e. HasNumber image layout e at (Some number)) (sym o.entry_is) has) in
      absurd (omega (arith, small, more))

  pub all-found : AreFound image layout (x ∷ sorted)
  all-found = record {
    order = in-order;
    reached = all-reached;
    every = has-entry;
    found =
        All-permutation (IsFound image layout) (x ∷ xs) (x ∷ sorted) all-moved
        (λ k d inside. (a.first.procedures k d inside).found);
    no_construct = no-construct;
    no_limit = no-limit;
  }
