-- A walk along a chain meets no block twice, and finds what is joinable there.
use Rattle.std.proofs.Common.{◌≡◌, ◌≢◌, ◌⊎◌, ℕ, zero, suc, ◌+◌, ◌<◌, ◌≤◌, Bool, true, false, not, inl, inr, List, [], ◌∷◌, ◌++◌, length, map, replicate, get_or, Some, None, refl, sym, ap, ◌∙◌, subst, arith, true≢false, slice_get, slice_set, append_assoc}
use Rattle.std.specs.Prelude.{count_by, if◌then◌else◌}
use Rattle.std.proofs.lemmas.Bool.{cases_eq}
use Rattle.std.proofs.lemmas.List.{length-set, length-replicate, get_or-set_same, get_or-set_other}
use Rattle.dcc_ir.proofs.PathLaws.{decided}
use Rattle.dcc_ir.specs.Tree.{Block, Graph}
use Rattle.dcc_available.specs.Along.{IsOnlyEdge}
use Rattle.dcc_available.specs.Rows.{IsNext}
use Rattle.dcc_fold.specs.Chain.{Step, statement, edge, steps_over, IsFirst, IsAlong, begins, goes_on}
use Rattle.dcc_fold.specs.Carried.{IsTrue}
use Rattle.dcc_fold.specs.Found.{IsOn, here, JoinsIn, JoinsAlong, JoinsFrom, IsSeenFrom, AreSeen}
use Rattle.dcc_fold.specs.Known.{Known, IsAfter, IsBounded, is_begun}
use Rattle.dcc_fold.proofs.KnownLaws.{true-after, begun-true}
use Rattle.dcc_fold.proofs.ChainLaws.{one-before, one-behind, not-first, along-on, on-along, joins-front}

module _ (graph : Graph) where
  seen-more : (end end' : ℕ) (seen seen' : List Bool) (place : ℕ) → end ≤ end' → ((n : ℕ) → get_or seen n false ≡ true → get_or seen' n false ≡ true)
      → IsSeenFrom graph end (λ n. get_or seen n false) place → IsSeenFrom graph end' (λ n. get_or seen' n false) place
  seen-more end end' seen seen' place more kept (inl is) = inl (is.0, omega (arith, is.1, more))
  seen-more end end' seen seen' place more kept (inr is) = inr (is.0, is.1, kept is.0 is.2)

  -- the begin of a further chain
  pub seen-past : (place : ℕ) (seen : List Bool) → AreSeen graph place seen → AreSeen graph (place + 1) seen
  seen-past place seen is = record {
    count = is.count;
    each = λ n holds. seen-more place (place + 1) seen seen n (omega arith) (λ m same. same) (is.each n holds);
  }

  pub none-seen : AreSeen graph 0 (replicate (length graph.blocks) false)
  none-seen = record {
    count = length-replicate (length graph.blocks) false;
    each = λ n holds. absurd (none (length graph.blocks) n holds);
  }
    where
      none : (count n : ℕ) → get_or (replicate count false) n false ≡ true → ⊥
      none zero n is = true≢false (sym is)
      none (suc count) zero is = true≢false (sym is)
      none (suc count) (suc n) is = none count n is

  pub first-unseen : (place : ℕ) (seen : List Bool) → AreSeen graph place seen → IsFirst graph place → get_or seen place false ≡ false
  first-unseen place seen is first = elim (decided (get_or seen place false)) [
    | inl holds ↦ absurd (by (is.each place holds))
    | inr fails ↦ fails
  ]
    where
      by : IsSeenFrom graph place (λ n. get_or seen n false) place → ⊥
      by (inl at) = omega (arith, at.1)
      by (inr at) = not-first graph at.0 place at.1 first

  -- A walk along the chain that begins with the block comes to the place: what it knows there, which blocks it has seen,
  -- and that what is joinable along the chain is so from there on.
  pub record ComesTo (first place : ℕ) (known : Known) (seen : List Bool) : Type 0 where
    pub within : place < length graph.blocks
    pub unseen : get_or seen place false ≡ false
    pub are_seen : AreSeen graph (first + 1) seen
    pub from : IsSeenFrom graph (first + 1) (λ n. get_or seen n false) place
    pub lead : List Step
    pub along : IsAlong graph first place lead
    pub is_true : IsTrue known lead
    pub left : (t : ℕ) → JoinsAlong graph first t → JoinsFrom graph place lead t

  pub comes-first : (first : ℕ) (known new : Known) (seen : List Bool) → first < length graph.blocks → IsFirst graph first → AreSeen graph first seen → IsBounded known → new ≡ is_begun known
      → ComesTo first first new seen
  comes-first first known new seen within is_first are bounded is = record {
    within = within;
    unseen = first-unseen first seen are is_first;
    are_seen = seen-past first seen are;
    from = inl (is_first, omega arith);
    lead = [];
    along = begins;
    is_true = subst (λ k. IsTrue k []) (sym is) (begun-true known bounded);
    left = λ t joins. record {
      place = joins.place;
      block = joins.block;
      placed = joins.placed;
      lead = joins.lead;
      on = along-on graph first joins.place joins.lead joins.along;
      joins = joins.joins;
    };
  }

  module _ (first place : ℕ) (known : Known) (seen : List Bool) (comes : ComesTo first place known seen) where
    abbrev marked : List Bool
    marked = slice_set seen place true

    is-marked : get_or marked place false ≡ true
    is-marked = get_or-set_same seen place true false (omega (arith, comes.are_seen.count, comes.within))

    kept : (n : ℕ) → get_or seen n false ≡ true → get_or marked n false ≡ true
    kept n holds = elim (cases_eq n place) [
      | inl same ↦ subst (λ m. get_or marked m false ≡ true) (sym same) is-marked
      | inr other ↦ get_or-set_other seen place n true false other ∙ holds
    ]

    pub seen-marked : AreSeen graph (first + 1) marked
    seen-marked = record {
      count = length-set seen place true ∙ comes.are_seen.count;
      each = λ n holds.
          elim (cases_eq n place) [
            | inl same ↦ subst (IsSeenFrom graph (first + 1) (λ m. get_or marked m false)) (sym same) (seen-more (first + 1) (first + 1) seen marked place (omega arith) kept comes.from)
            | inr other ↦ seen-more (first + 1) (first + 1) seen marked n (omega arith) kept (comes.are_seen.each n (sym (get_or-set_other seen place n true false other) ∙ holds))
          ];
    }

    -- what leads to a block that was seen is not the block at the place
    not-behind : (to : ℕ) → IsNext graph place to → IsSeenFrom graph (first + 1) (λ n. get_or seen n false) to → ⊥
    not-behind to next (inl is) = not-first graph place to next is.0
    not-behind to next (inr is) =
        let same = one-before graph is.0 place to is.1 next in
        true≢false (sym (subst (λ n. get_or seen n false ≡ true) same is.2) ∙ comes.unseen)

    next-unseen : (to : ℕ) → IsNext graph place to → get_or marked to false ≡ false
    next-unseen to next = elim (decided (get_or marked to false)) [
      | inl holds ↦
          absurd (elim (cases_eq to place) [
            | inl same ↦ not-behind to next (subst (IsSeenFrom graph (first + 1) (λ n. get_or seen n false)) (sym same) comes.from)
            | inr other ↦ not-behind to next (comes.are_seen.each to (sym (get_or-set_other seen place to true false other) ∙ holds))
          ])
      | inr fails ↦ fails
    ]

    pub comes-next : (block : Block) (last new : Known) (to : ℕ) → slice_get graph.blocks place ≡ Some block → IsNext graph place to → to < length graph.blocks
        → IsTrue last (comes.lead ++ map statement block.stmts) → ((t : ℕ) → ¬ JoinsIn graph comes.lead block t) → IsAfter edge last new → ComesTo first to new marked
    comes-next block last new to placed next within is none crossed =
        let same : block ≡ next.block = some-block block next.block (sym placed ∙ next.only.placed) in record {
          within = within;
          unseen = next-unseen to next;
          are_seen = seen-marked;
          from = inr (place, next, is-marked);
          lead = comes.lead ++ steps_over block;
          along = goes_on (subst (λ (b : Block). IsOnlyEdge graph place b to) (sym same) next.only) comes.along;
          is_true = subst (IsTrue new) (append_assoc comes.lead (map statement block.stmts) (edge ∷ [])) (true-after edge last new (comes.lead ++ map statement block.stmts) crossed is);
          left = λ t joins. elim (joins-front graph place block comes.lead t placed (comes.left t joins)) [
            | inl now ↦ absurd (none t now)
            | inr later ↦
                subst (λ n. JoinsFrom graph n (comes.lead ++ steps_over block) t)
                (one-behind graph place later.0 to later.1 next) later.2
          ];
        }
      where
        some-block : (b c : Block) → Some b ≡ Some c → b ≡ c
        some-block b c is = cc

    -- no chain goes on
    pub none-along : (block : Block) → slice_get graph.blocks place ≡ Some block → ((to : ℕ) → ¬ IsNext graph place to) → ((t : ℕ) → ¬ JoinsIn graph comes.lead block t) → (t : ℕ) → ¬ JoinsAlong graph first t
    none-along block placed ends none t joins = elim (joins-front graph place block comes.lead t placed (comes.left t joins)) [
      | inl now ↦ none t now
      | inr later ↦ ends later.0 later.1
    ]

    pub some-along : (block : Block) (t : ℕ) → slice_get graph.blocks place ≡ Some block → JoinsIn graph comes.lead block t → JoinsAlong graph first t
    some-along block t placed joins = record { place = place; block = block; placed = placed; lead = comes.lead; along = comes.along; joins = joins }

-- Fewer blocks are unseen.

abbrev pub unseen : List Bool → ℕ
unseen seen = count_by not seen
