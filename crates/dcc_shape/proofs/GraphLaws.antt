-- The graph of a procedure, from the instructions as the code has them.
use Rattle.std.proofs.Common.{◌≡◌, ℕ, ◌+◌, ◌<◌, ◌≤◌, All, Bool, cond, List, [], ◌∷◌, ◌++◌, Some, None, map, take, length, get_or, suc, zero, inl, inr, refl, sym, ap, subst, ◌∙◌, arith}
use Rattle.std.specs.Prelude.{◌==◌, if◌then◌else◌, not, nat_lt}
use Rattle.std.specs.List.{filter, sum_by, count_by, position, position_or_len}
use Rattle.std.proofs.lemmas.Bool.{cases_Bool, ltb-false}
use Rattle.std.proofs.lemmas.Simd.{map-map}
use Rattle.std.proofs.lemmas.List.{take_more, length-append}
use Rattle.std.proofs.lemmas.List.Elements.{filter-append, All-push, All-nil}
use Rattle.std.proofs.lemmas.List.Sums.{prefix_len-le-length}
use Rattle.dcc_prog.specs.declared.procedure.Node.{Node}
use Rattle.dcc_flow.specs.Edges.{is_in, leads, AreWithin}
use Rattle.dcc_interval.specs.Intervals.{Interval}
use Rattle.dcc_interval.specs.Derived.{IsDerived, loop_headers, ends_in_one}
use Rattle.dcc_shape.specs.declared.points.Point.{Point}
use Rattle.dcc_shape.specs.declared.asked.Asked.{Asked}
use Rattle.dcc_shape.specs.Procedures.{Flow, is_branching, addresses, place_among, place_at, next_of, different}
use Rattle.dcc_shape.specs.Asked.{point_in, point_of, IsAsked}
use Rattle.dcc_shape.proofs.ListLaws.{flip, sum_by-map, count_by-map}

-- Places.

pub place-is : (others : List ℕ) (at place : ℕ) → Some place ≡ position (λ other. at == other) others → place ≡ place_among others at
place-is others at place is =
    let test : ℕ → Bool = λ other. at == other in
    let n = position_or_len test others in
    let same : n ≡ place_among others at = ap (λ (t : ℕ → Bool). position_or_len t others) (λ i other. flip other at i) in
    elim (cases_Bool (nat_lt n (length others))) [
      | inl inside ↦ let told : Some place ≡ Some n = is ∙ ap (λ b. cond b (Some n) None) inside in ap (λ o. elim o [ Some m ↦ m | None ↦ 0 ]) told ∙ same
      | inr past ↦ let told : Some place ≡ None = is ∙ ap (λ b. cond b (Some n) None) past in absurd cc
    ]

-- an address that is none of these has the place after all others
pub place-past : (others : List ℕ) (at : ℕ) → None ≡ position (λ other. at == other) others → length others ≡ place_among others at
place-past others at is =
    let test : ℕ → Bool = λ other. at == other in
    let n = position_or_len test others in
    let same : n ≡ place_among others at = ap (λ (t : ℕ → Bool). position_or_len t others) (λ i other. flip other at i) in
    elim (cases_Bool (nat_lt n (length others))) [
      | inl inside ↦ let told : None ≡ Some n = is ∙ ap (λ b. cond b (Some n) None) inside in absurd cc
      | inr past ↦ let long : length others ≡ n = omega (arith, ltb-false n (length others) past, prefix_len-le-length (λ x. not (test x)) others) in long ∙ same
    ]

pub filter-more : (test : ℕ → Bool) (xs : List ℕ) (i : ℕ) → i < length xs →
    filter test (take (i + 1) xs) ≡ filter test (take i xs) ++ cond (test (get_or xs i 0)) (get_or xs i 0 ∷ []) []
filter-more test xs i within =
    ap (filter test) (take_more xs i 0 within) ∙ filter-append test (take i xs) (get_or xs i 0 ∷ [])

-- a list behind all others that has nothing leads nowhere
trailing : (rows : List (List ℕ)) (a : ℕ) → get_or (rows ++ [] ∷ []) a [] ≡ get_or rows a []
trailing [] zero = refl
trailing [] (suc a) = refl
trailing (row ∷ rows) zero = refl
trailing (row ∷ rows) (suc a) = trailing rows a

-- with it the places are within
pub within-next : (rows : List (List ℕ)) (count : ℕ) → length rows ≡ count → All (λ row. All (λ place. place ≤ count) row) rows → AreWithin (rows ++ [] ∷ [])
within-next rows count long h =
    let size = length-append rows ([] ∷ []) in
    All-push (λ row. All (λ place. place < length (rows ++ [] ∷ [])) row) rows []
    (λ k d less j e inner. let small = h k d less j e inner in omega (arith, small, size, long))
    (All-nil (λ place. place < length (rows ++ [] ∷ [])))

-- The whole graph.

abbrev flow_in : ℕ → List Point → Flow
flow_in entry points = record {
  nodes = map (λ p. (p.at, p.next.items)) points;
  entry = entry;
  branches = count_by (λ p. p.branches) points;
}

abbrev flow_told : ℕ → List ((ℕ × List ℕ) × Bool) → Flow
flow_told entry rows = record {
  nodes = map (λ x. x.0) rows;
  entry = entry;
  branches = count_by (λ x. x.1) rows;
}

flow-told : {X : Type 0} (f : X → (ℕ × List ℕ) × Bool) (entry : ℕ) (xs : List X) →
    ◌≡◌ {A = Flow} (flow_told entry (map f xs)) (record { nodes = map (λ x. (f x).0) xs; entry = entry; branches = count_by (λ x. (f x).1) xs })
flow-told f entry xs =
    let made : List (ℕ × List ℕ) → ℕ → Flow = λ nodes branches. record { nodes = nodes; entry = entry; branches = branches } in
    ap (λ nodes. made nodes (count_by (λ x. x.1) (map f xs))) (map-map (λ x. x.0) f xs)
    ∙ ap (made (map (λ x. (f x).0) xs)) (count_by-map (λ x. x.1) f xs)

ats-of : (entry : ℕ) (points : List Point) → addresses (flow_in entry points) ≡ map (λ (p : Point). p.at) points
ats-of entry points = map-map (λ (n : ℕ × List ℕ). n.0) (λ (p : Point). (p.at, p.next.items)) points

-- the addresses by which the code looks up places
pub keys-are : (points : List Point) (entries : List (ℕ × Node)) → map point_in points ≡ map point_of entries →
    map (λ (p : Point). p.at) points ≡ map (λ (e : ℕ × Node). e.0) entries
keys-are points entries same =
    sym (map-map (λ (x : (ℕ × List ℕ) × Bool). x.0.0) point_in points)
    ∙ ap (map (λ (x : (ℕ × List ℕ) × Bool). x.0.0)) same
    ∙ map-map (λ (x : (ℕ × List ℕ) × Bool). x.0.0) point_of entries

-- what the code finds, by its instructions
pub record IsFound (points : List Point) (keys : List ℕ) (next : List (List ℕ)) (start : ℕ) (levels : List (List Interval)) (is_header : ℕ → Bool) (a : Asked) : Type 0 where
  pub ats : a.ats.items ≡ map (λ p. p.at) points
  pub branches : a.branches ≡ count_by (λ p. p.branches) points
  pub edges_count : length a.edges.items ≡ sum_by (λ p. different p.next.items) points
  pub edges_each : (n : ℕ) → count_by (λ m. m == n) a.edges.items ≡ count_by (λ p. is_in p.next.items n) points
  pub next_are : next ≡ map (λ p. map (place_among keys) p.next.items) points ++ [] ∷ []
  pub start_is : start ≡ place_among keys a.entry
  pub derived : IsDerived (leads next) start levels
  pub headers_are : (n : ℕ) → is_header n ≡ is_in (loop_headers (leads next) levels) n
  pub heads : a.heads.items ≡ filter (λ at. is_header (place_among keys at)) a.ats.items
  pub one : a.ends_in_one ≡ ends_in_one levels

module _ (points : List Point) (keys : List ℕ) (next : List (List ℕ)) (start : ℕ) (levels : List (List Interval)) (is_header : ℕ → Bool) (a : Asked)
    (is : IsFound points keys next start levels is_header a) where
  own-asked : keys ≡ addresses (flow_in a.entry points) → IsAsked (flow_in a.entry points) a
  own-asked same =
      let flow = flow_in a.entry points in
      let plain : List ℕ → List (List ℕ) = λ k. map (λ (p : Point). map (place_among k) p.next.items) points in
      let edges_are : leads next ≡ leads (next_of flow) =
      ap leads is.next_are
      ∙ (let ends : leads (plain keys ++ [] ∷ []) ≡ leads (plain keys) = λ i m n. is_in (trailing (plain keys) m i) n in ends)
      ∙ ap leads (ap plain same ∙ sym (map-map (λ (n : ℕ × List ℕ). map (place_at flow) n.1) (λ (p : Point). (p.at, p.next.items)) points)) in
      let ats_are : a.ats.items ≡ addresses flow = is.ats ∙ sym (ats-of a.entry points) in
      record {
        ats = ats_are;
        branches = is.branches;
        edges_count = is.edges_count ∙ sym (sum_by-map (λ (n : ℕ × List ℕ). different n.1) (λ (p : Point). (p.at, p.next.items)) points);
        edges_lead = λ at.
            ap (λ n. n + (if a.entry == at then 1 else 0)) (is.edges_each at ∙ sym (count_by-map (λ (n : ℕ × List ℕ). is_in n.1 at) (λ (p : Point). (p.at, p.next.items)) points))
            ∙ ap (λ b. count_by (λ n. is_in n.1 at) flow.nodes + (if b then 1 else 0)) (flip at a.entry);
        levels = levels;
        derived = subst (λ l. IsDerived l (place_at flow a.entry) levels) edges_are
            (subst (λ n. IsDerived (leads next) n levels) (is.start_is ∙ ap (λ k. place_among k a.entry) same) is.derived);
        heads = is.heads
            ∙ ap (λ l. filter (λ at. is_header (place_among keys at)) l) ats_are
            ∙ ap (λ k. filter (λ at. is_header (place_among k at)) (addresses flow)) same
            ∙ ap (λ (t : ℕ → Bool). filter (λ at. t (place_at flow at)) (addresses flow)) (λ i n. is.headers_are n i)
            ∙ ap (λ l. filter (λ at. is_in (loop_headers l levels) (place_at flow at)) (addresses flow)) edges_are;
        one = is.one;
      }

  pub is-asked : (entries : List (ℕ × Node)) (flow : Flow) →
      ◌≡◌ {A = Flow} flow (record { nodes = map (λ n. (n.0, n.1.succ.items)) entries; entry = a.entry; branches = count_by (λ n. is_branching n.1.instr.op) entries }) →
      keys ≡ map (λ (e : ℕ × Node). e.0) entries → map point_in points ≡ map point_of entries → IsAsked flow a
  is-asked entries flow flow_is keys_are same =
      let flows : flow_in a.entry points ≡ flow =
      sym (flow-told point_in a.entry points) ∙ ap (flow_told a.entry) same ∙ flow-told point_of a.entry entries ∙ sym flow_is in
      let known : keys ≡ addresses (flow_in a.entry points) = keys_are ∙ sym (keys-are points entries same) ∙ sym (ats-of a.entry points) in
      subst (λ f. IsAsked f a) flows (own-asked known)
