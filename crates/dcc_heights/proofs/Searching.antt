-- The search grows to all heights.
use Rattle.std.proofs.Common.{◌≡◌, ◌≢◌, inl, inr, ℕ, ◌+◌, ◌≤◌, ◌<◌, nat_eq, List, [], ◌∷◌, ◌++◌, length, get_or, slice_get, AllPairs, Option, Some, None, is_some, true, true≢false, refl, sym, ap, ◌∙◌, subst, arith, Contains}
use Rattle.std.proofs.lemmas.Bool.{cases_lt}
use Rattle.std.proofs.lemmas.Option.{slice_get-get_or}
use Rattle.std.specs.Map.{keys_of}
use Rattle.std.specs.List.{IsDistinct}
use Rattle.std.proofs.lemmas.Cmp.{nat_eq_equiv}
use Rattle.std.proofs.lemmas.List.Elements.{All-push, Contains-get_or}
use Rattle.std.proofs.lemmas.Bool.Decides.{Decides-eqb}
use Rattle.std.proofs.lemmas.Map.Entries.{length-keys_of}
use Rattle.std.proofs.lemmas.Map.Made.{AllPairs-from_IsDistinct}
use Rattle.std.proofs.lemmas.Map.Views.{IsSome-lookup_from_Contains}
use Rattle.indexmap.proofs.IndexTableLemmas.Probe.{pigeonhole}
use Rattle.dcc_prog.specs.declared.procedure.Node.{Node}
use Rattle.dcc_prog.specs.declared.refusal.Refusal.{Refusal}
use Rattle.dcc_heights.specs.Search.{SearchedProcedure, node_in, height_in, IsStep, IsArrived, known, first, IsArrivalFault, other, IsReachedAt, entered, gone_on, IsFault, of_step, two_heights, no_memory, Extends, IsClosedAt, AreReached, IsFollowed, IsGoing, IsSearched, AreAllHeights}
use Rattle.dcc_heights.specs.Search as search
use Rattle.dcc_heights.proofs.Entries.{lookup-left, lookup-push, lookup-pushed, get-left, place-of}

same-reached :
    (scene : SearchedProcedure) (at to height after : ℕ) → IsReachedAt scene to after → at ≡ to → Some after
    ≡ Some height
    → IsReachedAt scene at height
same-reached scene at to height after reached here is =
    let same : after ≡ height = cc in
    subst (λ a. IsReachedAt scene a height) (sym here) (subst (IsReachedAt scene to) same reached)

-- nothing is reached but the entry
pub reached-start :
    (scene : SearchedProcedure) (heights : List (ℕ × ℕ)) → scene.entry < 65536 → IsArrived [] heights scene.entry 0
    → AreReached scene heights
reached-start scene heights small (known is same) = let clash = is in cc
reached-start scene heights small (first none same) =
    subst (AreReached scene) (sym same) (record {
      start = lookup-push [] scene.entry 0 refl;
      reached = λ at height is. elim (lookup-pushed [] scene.entry 0 at height is) [
        | inl there ↦ let clash = there in cc
        | inr there ↦ same-reached scene at scene.entry height 0 entered there.0 there.1
      ];
      small = λ at height is. elim (lookup-pushed [] scene.entry 0 at height is) [
        | inl there ↦ let clash = there in cc
        | inr there ↦ (let here = there.0 in omega (arith, here, small))
      ];
    })

pub start-fault :
    (scene : SearchedProcedure) (refusal : Refusal) → IsArrivalFault [] scene.entry 0 refusal → IsFault scene refusal
start-fault scene _ (other is apart) = let clash = is in cc
start-fault scene _ search.IsArrivalFault.no_memory = no_memory

-- one more offset is reached
reached-more :
    (scene : SearchedProcedure) (heights : List (ℕ × ℕ)) (to after : ℕ) → AreReached scene heights
    → IsReachedAt scene to after
    → to < 65536
    → AreReached scene (heights ++ (to, after) ∷ [])
reached-more scene heights to after are reached small = record {
  start = lookup-left heights ((to, after) ∷ []) scene.entry 0 are.start;
  reached = λ at height is. elim (lookup-pushed heights to after at height is) [
    | inl there ↦ are.reached at height there
    | inr there ↦ same-reached scene at to height after reached there.0 there.1
  ];
  small = λ at height is. elim (lookup-pushed heights to after at height is) [
    | inl there ↦ are.small at height there
    | inr there ↦ (let here = there.0 in omega (arith, here, small))
  ];
}

-- a successor of an offset that is reached is reached
pub successor-reached :
    (scene : SearchedProcedure) (heights : List (ℕ × ℕ)) (at height after place : ℕ) (node : Node) (items : List ℕ)
    → AreReached scene heights → height_in heights at ≡ Some height → node_in scene at ≡ Some node
    → IsStep scene at node.instr.op height after → items ≡ node.succ.items → place < length items
    → IsReachedAt scene (get_or items place 0) after
successor-reached scene heights at height after place node items are has is step same inside =
    gone_on (are.reached at height has) is step
    (subst (λ (l : List ℕ). Contains l (get_or items place 0)) same (Contains-get_or items place 0 inside))

extends-more :
    (old heights more : List (ℕ × ℕ)) → Extends old heights → Extends old (heights ++ more)
extends-more old heights more extends = record {
  heights = λ at height is. lookup-left heights more at height (extends.heights at height is);
  places = λ k entry is. get-left heights more k entry (extends.places k entry is);
}

module _ (scene : SearchedProcedure) (old : List (ℕ × ℕ)) (after : ℕ) where
  pub going-none : AreReached scene old → IsGoing scene old old after []
  going-none are = record {
    are = are;
    extends = record { heights = λ at height is. is; places = λ k entry is. is };
    onward = λ k d inside. absurd (omega (arith, inside));
  }

  module _ (heights : List (ℕ × ℕ)) (passed : List ℕ) (to : ℕ) (going : IsGoing scene old heights after passed) where
    -- a successor is reached at the height
    pub going-more :
        (new : List (ℕ × ℕ)) → IsReachedAt scene to after → to < 65536 → IsArrived heights new to after
        → IsGoing scene old new after (passed ++ to ∷ [])
    going-more new reached small (known is same) =
        subst (λ (l : List (ℕ × ℕ)). IsGoing scene old l after (passed ++ to ∷ [])) (sym same) (record {
          are = going.are;
          extends = going.extends;
          onward = All-push (λ t. height_in heights t ≡ Some after) passed to going.onward is;
        })
    going-more new reached small (first none same) =
        let more : List (ℕ × ℕ) = (to, after) ∷ [] in
        subst (λ (l : List (ℕ × ℕ)). IsGoing scene old l after (passed ++ to ∷ [])) (sym same) (record {
          are = reached-more scene heights to after going.are reached small;
          extends = extends-more old heights more going.extends;
          onward =
              All-push (λ t. height_in (heights ++ more) t ≡ Some after) passed to
              (λ k d inside. lookup-left heights more (get_or passed k d) after (going.onward k d inside))
              (lookup-push heights to after none);
        })

    -- a successor with another height than it is reached at is a fault
    pub arrival-fault :
        (refusal : Refusal) → IsReachedAt scene to after → IsArrivalFault heights to after refusal
        → IsFault scene refusal
    arrival-fault _ reached (other is apart) = two_heights (going.are.reached to _ is) reached apart
    arrival-fault _ reached search.IsArrivalFault.no_memory = no_memory

  same-pair : (a b x y : ℕ) → ◌≡◌ {A = Option (ℕ × ℕ)} (Some (a, x)) (Some (b, y)) → (a ≡ b) × (x ≡ y)
  same-pair a b x y same =
      let pair : ◌≡◌ {A = ℕ × ℕ} (a, x) (b, y) = cc in (ap (λ (p : ℕ × ℕ). p.0) pair, ap (λ (p : ℕ × ℕ). p.1) pair)

  same-node : (n m : Node) → Some n ≡ Some m → n ≡ m
  same-node n m same = cc

  -- all successors of the offset at a place are reached
  pub followed :
      (new : List (ℕ × ℕ)) (place at height : ℕ) (node : Node) → slice_get old place ≡ Some (at, height)
      → node_in scene at ≡ Some node → IsStep scene at node.instr.op height after
      → IsGoing scene old new after node.succ.items
      → IsFollowed scene old new place
  followed new place at height node there is step going = record {
    are = going.are;
    extends = going.extends;
    closed = λ a h n found found_node.
        let here = going.extends.places place (at, height) there in
        let same = same-pair at a height h (sym here ∙ found) in
        let as_found = sym is ∙ ap (node_in scene) same.0 ∙ found_node in
        subst (λ (x : ℕ). IsClosedAt scene new x h n) same.0
        (subst (λ (x : ℕ). IsClosedAt scene new at x n) same.1
        (subst (IsClosedAt scene new at height) (same-node node n as_found)
        (record { after = after; step = step; onward = going.onward })));
  }

-- One offset after another.

pub searched-none : (scene : SearchedProcedure) (heights : List (ℕ × ℕ)) → AreReached scene heights
    → IsSearched scene heights 0
searched-none scene heights are = record { are = are; closed = λ k at height node less. absurd (omega (arith, less)) }

closed-on :
    (scene : SearchedProcedure) (old new : List (ℕ × ℕ)) (at height : ℕ) (node : Node) → Extends old new
    → IsClosedAt scene old at height node
    → IsClosedAt scene new at height node
closed-on scene old new at height node extends closed = record {
  after = closed.after;
  step = closed.step;
  onward = λ k d inside. extends.heights (get_or node.succ.items k d) closed.after (closed.onward k d inside);
}

pub searched-more :
    (scene : SearchedProcedure) (old new : List (ℕ × ℕ)) (next : ℕ) → IsSearched scene old next → next < length old
    → IsFollowed scene old new next
    → IsSearched scene new (next + 1)
searched-more scene old new next searched inside followed = record {
  are = followed.are;
  closed = λ k at height node less found is. elim (cases_lt k next) [
    | inl earlier ↦
        let d : ℕ × ℕ = (0, 0) in
        let there = slice_get-get_or old k d (omega arith) in
        let kept = followed.extends.places k (get_or old k d) there in
        let was : slice_get old k ≡ Some (at, height) = there ∙ sym kept ∙ found in
        closed-on scene old new at height node followed.extends (searched.closed k at height node earlier was is)
    | inr later ↦
        let same : k ≡ next = omega (arith, less, later) in
        followed.closed at height node (subst (λ n. slice_get new n ≡ Some (at, height)) same found) is
  ];
}

pub searched-all :
    (scene : SearchedProcedure) (heights : List (ℕ × ℕ)) (next : ℕ) → IsSearched scene heights next
    → length heights ≤ next
    → AreAllHeights scene heights
searched-all scene heights next searched past = record {
  start = searched.are.start;
  closed = λ at height node is found.
      let there = place-of heights at height is in
      searched.closed there.0 at height node (let less = there.1 in omega (arith, less, past)) there.2 found;
}

-- There are no more than offsets of a segment.

module _ (scene : SearchedProcedure) (heights : List (ℕ × ℕ)) (are : AreReached scene heights) where
  small-found :
      (key : ℕ) (found : Option ℕ) → height_in heights key ≡ found → is_some found ≡ true → key < 65536
  small-found key None is some = absurd (true≢false (sym some))
  small-found key (Some height) is some = are.small key height is

  small-key : (i : ℕ) → i < length (keys_of heights) → get_or (keys_of heights) i 0 < 65536
  small-key i inside =
      let key = get_or (keys_of heights) i 0 in
      small-found key (height_in heights key) refl
      (IsSome-lookup_from_Contains nat_eq_equiv key heights (Contains-get_or (keys_of heights) i 0 inside))

  one-to-one :
      AllPairs (λ x y. x ≢ y) (keys_of heights) → (i j : ℕ) → i < length (keys_of heights)
      → j < length (keys_of heights) → get_or (keys_of heights) i 0 ≡ get_or (keys_of heights) j 0
      → i ≡ j
  one-to-one apart i j less_i less_j same =
      elim (cases_lt i j) [
        | inl less ↦ absurd (apart i j 0 less less_j same)
        | inr ge ↦ elim (cases_lt j i) [
          | inl more ↦ absurd (apart j i 0 more less_i (sym same))
          | inr le ↦ omega arith
        ]
      ]

  pub few-reached : IsDistinct nat_eq (keys_of heights) → length heights ≤ 65536
  few-reached distinct =
      let apart = AllPairs-from_IsDistinct Decides-eqb (keys_of heights) distinct in
      let few =
      pigeonhole (length (keys_of heights)) 65536 (λ i. get_or (keys_of heights) i 0) small-key (one-to-one apart)
      in
      omega (arith, few, length-keys_of heights)
