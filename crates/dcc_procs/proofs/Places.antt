-- The instructions of all procedures, each with the entry of its own.
use Rattle.std.proofs.Common.{◌≡◌, ◌≢◌, inl, inr, ℕ, suc, ◌+◌, ◌<◌, List, [], ◌∷◌, ◌++◌, length, get_or, map, take, All, AllPairs, Contains, refl, sym, ap, ◌∙◌, subst, arith, length-append, length-take}
use Rattle.std.proofs.lemmas.List.{length-map, get_or-map, get_or-take}
use Rattle.std.proofs.lemmas.List.Sums.{sum_by-cons}
use Rattle.std.proofs.lemmas.Option.{slice_get_within, slice_get-get_or}
use Rattle.std.proofs.lemmas.List.Kept.{AllPairs-cons}
use Rattle.std.proofs.lemmas.List.Elements.{All-tail, All-head, All-append, All-map, All-contains, All-take, Contains-get_or, Contains-append_left, Contains-append_right, Contains-append_cases, Contains-push_cases}
use Rattle.dcc_machine.specs.declared.image.Image.{Image}
use Rattle.dcc_prog.specs.declared.procedure.Layout.{Layout}
use Rattle.dcc_prog.specs.declared.procedure.Node.{Node}
use Rattle.dcc_prog.specs.declared.procedure.Proc.{Proc}
use Rattle.dcc_prog.specs.Trail.{IsEntry}
use Rattle.dcc_prog.specs.Found.{IsFound, IsListed}
use Rattle.dcc_prog.specs.Limit.{HasMany, IsNodeOf}
use Rattle.dcc_procs.specs.Procedures.{total_of}

-- two lists of different values, which have none in common
pub pairs-head : {A : Type 0} (R : A → A → Type 0) (x : A) (xs : List A) → AllPairs R (x ∷ xs) → All (R x) xs
pairs-head R x xs pairs k d inside = pairs 0 (suc k) d (omega arith) (omega (arith, inside))

pub pairs-tail : {A : Type 0} (R : A → A → Type 0) (x : A) (xs : List A) → AllPairs R (x ∷ xs) → AllPairs R xs
pairs-tail R x xs pairs i j d less inside = pairs (suc i) (suc j) d (omega (arith, less)) (omega (arith, inside))

pairs-append :
    {A : Type 0} (R : A → A → Type 0) (xs ys : List A) → AllPairs R xs → AllPairs R ys
    → ((x y : A) → Contains xs x → Contains ys y → R x y) → AllPairs R (xs ++ ys)
pairs-append R [] ys p q apart = q
pairs-append R (x ∷ xs) ys p q apart =
    AllPairs-cons R x (xs ++ ys)
    (All-append (R x) xs ys (pairs-head R x xs p) (λ k d inside. apart x (get_or ys k d) (Contains-append_left (x ∷ []) xs x (0, omega arith, refl)) (Contains-get_or ys k d inside)))
    (pairs-append R xs ys (pairs-tail R x xs p) q (λ a b c. apart a b (Contains-append_right (x ∷ []) xs a c)))

pub place_in : Proc → ℕ × Node → ℕ × ℕ
place_in proc node = (proc.entry, node.0)

pub places_of : List Proc → List (ℕ × ℕ)
places_of [] = []
places_of (proc ∷ rest) = map (place_in proc) proc.nodes.entries ++ places_of rest

pub length-places : (procs : List Proc) → length (places_of procs) ≡ total_of procs
unfolding places_of
length-places [] = refl
length-places (proc ∷ rest) =
    length-append (map (place_in proc) proc.nodes.entries) (places_of rest)
    ∙ ap (λ n. n + length (places_of rest)) (length-map proc.nodes.entries (place_in proc))
    ∙ ap (λ n. length proc.nodes.entries + n) (length-places rest)
    ∙ sym (sum_by-cons (λ (q : Proc). length q.nodes.entries) proc rest)

-- an instruction of a procedure among these
pub contains-place :
    (procs : List Proc) (proc : Proc) (at : ℕ) → Contains procs proc → IsListed proc.nodes.entries at
    → Contains (places_of procs) (proc.entry, at)
unfolding places_of place_in
contains-place [] proc at c l = absurd (let inside = c.1 in omega (arith, inside))
contains-place (first ∷ rest) proc at c l = elim (Contains-append_cases (first ∷ []) rest proc c) [
  | inl here ↦ elim (Contains-push_cases [] first proc here) [
    | inl none ↦ absurd (let inside = none.1 in omega (arith, inside))
    | inr same ↦
        let there : Contains (map (place_in proc) proc.nodes.entries) (proc.entry, at) =
        (let inside = slice_get_within proc.nodes.entries l.place (at, l.node) l.listed in
        let both = sym (slice_get-get_or proc.nodes.entries l.place (at, l.node) inside) ∙ l.listed in
        let is : get_or proc.nodes.entries l.place (at, l.node) ≡ (at, l.node) = cc in
        let short = length-map proc.nodes.entries (place_in proc) in
        (l.place, omega (arith, short, inside), get_or-map (place_in proc) proc.nodes.entries l.place (at, l.node) (proc.entry, at) inside ∙ ap (place_in proc) is)) in
        Contains-append_left (map (place_in first) first.nodes.entries) (places_of rest) (proc.entry, at)
        (subst (λ (p : Proc). Contains (map (place_in p) p.nodes.entries) (proc.entry, at)) (sym same) there)
  ]
  | inr there ↦
      Contains-append_right (map (place_in first) first.nodes.entries) (places_of rest) (proc.entry, at)
      (contains-place rest proc at there l)
]

-- the procedure of an instruction
place-entry :
    (procs : List Proc) (place : ℕ × ℕ) → Contains (places_of procs) place
    → Contains (map (λ (p : Proc). p.entry) procs) place.0
unfolding places_of place_in
place-entry [] place c = absurd (let inside = c.1 in omega (arith, inside))
place-entry (first ∷ rest) place c =
    elim (Contains-append_cases (map (place_in first) first.nodes.entries) (places_of rest) place c) [
      | inl here ↦
          let is : place.0 ≡ first.entry =
          All-contains (λ (q : ℕ × ℕ). q.0 ≡ first.entry) (map (place_in first) first.nodes.entries) place
          (All-map (λ (q : ℕ × ℕ). q.0 ≡ first.entry) (place_in first) first.nodes.entries (λ k d inside. refl)) here
          in
          subst (Contains (first.entry ∷ map (λ (p : Proc). p.entry) rest)) (sym is)
          (Contains-append_left (first.entry ∷ []) (map (λ (p : Proc). p.entry) rest) first.entry (0, omega arith, refl))
      | inr there ↦
          Contains-append_right (first.entry ∷ []) (map (λ (p : Proc). p.entry) rest) place.0
          (place-entry rest place there)
    ]

own-apart :
    (proc : Proc) (nodes : List (ℕ × Node)) → AllPairs (λ (a b : ℕ × Node). a.0 < b.0) nodes
    → AllPairs (λ x y. x ≢ y) (map (place_in proc) nodes)
unfolding place_in
own-apart proc [] up i j d less inside same = absurd (omega (arith, inside))
own-apart proc (x ∷ xs) up i j d less inside same =
    let short = length-map (x ∷ xs) (place_in proc) in
    let a = get_or-map (place_in proc) (x ∷ xs) i x d (omega (arith, short, less, inside)) in
    let b = get_or-map (place_in proc) (x ∷ xs) j x d (omega (arith, short, inside)) in
    let one = ap (λ (q : ℕ × ℕ). q.1) (sym a ∙ same ∙ b) in
    let apart = up i j x less (omega (arith, short, inside)) in
    absurd (omega (arith, one, apart))

module _ (image : Image) (layout : Layout) where
  places-apart :
      (procs : List Proc) → All (IsFound image layout) procs
      → AllPairs (λ x y. x ≢ y) (map (λ (p : Proc). p.entry) procs) → AllPairs (λ x y. x ≢ y) (places_of procs)
  unfolding places_of place_in
  places-apart [] found distinct = λ i j d less inside same. absurd (omega (arith, inside))
  places-apart (first ∷ rest) found distinct =
      let e : Proc → ℕ = λ p. p.entry in
      pairs-append (λ x y. x ≢ y) (map (place_in first) first.nodes.entries) (places_of rest)
      (own-apart first first.nodes.entries (All-head (IsFound image layout) first rest found).ascending)
      (places-apart rest (All-tail (IsFound image layout) first rest found) (pairs-tail (λ x y. x ≢ y) first.entry (map e rest) distinct))
      (λ x y c k same.
      let one : x.0 ≡ first.entry =
      All-contains (λ (q : ℕ × ℕ). q.0 ≡ first.entry) (map (place_in first) first.nodes.entries) x
      (All-map (λ (q : ℕ × ℕ). q.0 ≡ first.entry) (place_in first) first.nodes.entries (λ k d inside. refl)) c in
      All-contains (λ n. first.entry ≢ n) (map e rest) y.0
      (pairs-head (λ x y. x ≢ y) first.entry (map e rest) distinct) (place-entry rest y k)
      (sym one ∙ ap (λ (q : ℕ × ℕ). q.0) same))

  places-hold :
      (procs : List Proc) → All (IsFound image layout) procs → All (λ proc. IsEntry image layout proc.entry) procs
      → All (IsNodeOf image layout) (places_of procs)
  unfolding places_of place_in
  places-hold [] found reached = λ k d inside. absurd (omega (arith, inside))
  places-hold (first ∷ rest) found reached =
      let f = All-head (IsFound image layout) first rest found in
      let e = All-head (λ (p : Proc). IsEntry image layout p.entry) first rest reached in
      All-append (IsNodeOf image layout) (map (place_in first) first.nodes.entries) (places_of rest)
      (All-map (IsNodeOf image layout) (place_in first) first.nodes.entries (λ k d inside. record { is_entry = e; node = (f.nodes k d inside).node }))
      (places-hold rest (All-tail (IsFound image layout) first rest found) (All-tail (λ (p : Proc). IsEntry image layout p.entry) first rest reached))

  pub too-many-places :
      (procs : List Proc) → All (IsFound image layout) procs → All (λ proc. IsEntry image layout proc.entry) procs
      → AllPairs (λ x y. x ≢ y) (map (λ (p : Proc). p.entry) procs) → 32768 < total_of procs
      → HasMany (IsNodeOf image layout) 32769
  too-many-places procs found reached distinct more =
      let whole = length-places procs in
      let taken = length-take 32769 (places_of procs) in
      let pairs = places-apart procs found distinct in
      record {
        values = take 32769 (places_of procs);
        hold = All-take (IsNodeOf image layout) 32769 (places_of procs) (places-hold procs found reached);
        distinct = λ i j d less inside same.
            pairs i j d less (omega (arith, inside, taken))
            (sym (get_or-take 32769 (places_of procs) i d (omega (arith, less, inside, taken))) ∙ same ∙ get_or-take 32769 (places_of procs) j d (omega (arith, inside, taken)));
        count_is = omega (arith, taken, whole, more);
      }
