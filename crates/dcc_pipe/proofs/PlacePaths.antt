-- Paths along the addresses of a graph's blocks are paths along their places.
use Rattle.std.proofs.Common.{◌≡◌, ℕ, ◌<◌, Bool, true, ◌&&◌, inl, inr, List, [], ◌∷◌, length, map, get_or, slice_get, Option, Some, None, refl, sym, ap, ◌∙◌, subst, true≢false, eqb-true, arith}
use Rattle.std.specs.Prelude.{◌==◌}
use Rattle.std.specs.List.{list_any}
use Rattle.std.proofs.lemmas.List.{get_or-map, length-map}
use Rattle.std.proofs.lemmas.Option.{slice_get_within, get_or_from_slice_get}
use Rattle.dcc_ir.specs.Tree.{Block, Graph}
use Rattle.dcc_ir.specs.Run.{no_block}
use Rattle.dcc_ir.specs.Flow.{targets, stands_at, has_edge, first_address, flow_of, IsPath, Any, Reached}
use Rattle.dcc_ir.specs.Live.{block_in, follows}
use Rattle.dcc_ir.specs.WellFormed.{all_differ}
use Rattle.dcc_ir.proofs.PathLaws.{path_first}
use Rattle.dcc_ir.proofs.GraphLaws.{flow_of-flow}
use Rattle.dcc_interval.proofs.PlaceLaws.{one_place}
use Rattle.dcc_lift.proofs.ListTests.{and_left, and_right, or_here, or_there, or_cases, same_number, passing, any_at}
use Rattle.dcc_plan_check.specs.Structured.{IsReached}

module _ (graph : Graph) (differ : all_differ (map (λ (b : Block). b.at) graph.blocks) ≡ true) where
  -- a block of the graph has the address
  abbrev pub HasAt : ℕ → ℕ → Type 0
  HasAt n a = (n < length graph.blocks) × ((block_in graph n).at ≡ a)

  -- it is one block
  pub one-at : (m n a : ℕ) → HasAt m a → HasAt n a → m ≡ n
  one-at m n a one other =
      let count = length-map graph.blocks (λ (b : Block). b.at) in
      one_place (map (λ (b : Block). b.at) graph.blocks) m n differ (subst (λ k. m < k) (sym count) one.0)
      (subst (λ k. n < k) (sym count) other.0) (address m one.0 ∙ one.1 ∙ sym (address n other.0 ∙ other.1))
    where
      address : (k : ℕ) → k < length graph.blocks
          → get_or (map (λ (b : Block). b.at) graph.blocks) k 0 ≡ (block_in graph k).at
      address k inside = get_or-map (λ (b : Block). b.at) graph.blocks k no_block 0 inside

  stands-there : (k b : ℕ) → stands_at (slice_get graph.blocks k) b ≡ true → HasAt k b
  stands-there k b is = go (slice_get graph.blocks k) refl is
    where
      go : (o : Option Block) → slice_get graph.blocks k ≡ o → stands_at o b ≡ true → HasAt k b
      go None e t = absurd (true≢false (sym t))
      go (Some block) e t = (
        slice_get_within graph.blocks k block e,
        ap (λ (x : Block). x.at) (get_or_from_slice_get graph.blocks k block no_block e) ∙ eqb-true block.at b t,
      )

  -- an edge between addresses is one between places
  edge-places : (a b n : ℕ) → HasAt n a → (flow_of graph).goes a b ≡ true
      → (k : ℕ) × HasAt k b × (follows graph n k ≡ true)
  edge-places a b n has edge =
      let from = passing (λ (block : Block). (block.at == a) && has_edge graph.blocks block b) graph.blocks edge in
      let here : block_in graph from.place ≡ from.element =
      get_or_from_slice_get graph.blocks from.place from.element no_block from.found in
      let at = eqb-true from.element.at a
      (and_left (from.element.at == a) (has_edge graph.blocks from.element b) from.passes) in
      let place : HasAt from.place a = (
        slice_get_within graph.blocks from.place from.element from.found,
        ap (λ (x : Block). x.at) here ∙ at,
      ) in
      let same : n ≡ from.place = one-at n from.place a has place in
      let to =
      passing (λ place. stands_at (slice_get graph.blocks place) b) (targets from.element.exit)
      (and_right (from.element.at == a) (has_edge graph.blocks from.element b) from.passes) in (
        to.element,
        stands-there to.element b to.passes,
        subst (λ m. follows graph m to.element ≡ true) (sym same)
            (subst (λ (block : Block). list_any (λ place. place == to.element) (targets block.exit) ≡ true) (sym here)
            (any_at (λ place. place == to.element) (targets from.element.exit) to.place to.element to.found
            (same_number to.element))),
      )

  -- Where kept addresses are those of some places, closed paths hold the ones as they hold the others.
  module _ (has kept : ℕ → Bool)
      (keeps : (n : ℕ) → n < length graph.blocks → has n ≡ true → kept (block_in graph n).at ≡ true) where
    kept-at : (n a : ℕ) → HasAt n a → has n ≡ true → kept a ≡ true
    kept-at n a at is = subst (λ x. kept x ≡ true) at.1 (keeps n at.0 is)

    -- a path along places from one of them, for a path along addresses
    record IsAlong (n : ℕ) (between : List ℕ) (c : ℕ) : Type 0 where
      places : List ℕ
      last : ℕ
      last_at : HasAt last c
      path : IsPath (follows graph) Any n places last
      holds : list_any has places ≡ true → list_any kept between ≡ true

    along : (between : List ℕ) (a c n : ℕ) → HasAt n a → IsPath (flow_of graph).goes Any a between c
        → IsAlong n between c
    along [] a c n at path =
        let to = edge-places a c n at path in
        record { places = []; last = to.0; last_at = to.1; path = to.2; holds = λ h. h }
    along (m ∷ between) a c n at path =
        let to = edge-places a m n at path.0 in
        let later = along between m c to.0 to.1 path.2 in
        record {
          places = to.0 ∷ later.places;
          last = later.last;
          last_at = later.last_at;
          path = (to.2, tt, later.path);
          holds = λ h. elim (or_cases (has to.0) (list_any has later.places) h) [
            | inl here ↦ or_here (kept m) (list_any kept between) (kept-at to.0 m to.1 here)
            | inr more ↦ or_there (kept m) (list_any kept between) (later.holds more)
          ];
        }

    first-at : (a : ℕ) → (flow_of graph).has a ≡ true → HasAt 0 (first_address graph.blocks)
    first-at a is = go graph.blocks is
      where
        go : (blocks : List Block) → list_any (λ block. block.at == a) blocks ≡ true
            → (0 < length blocks) × ((get_or blocks 0 no_block).at ≡ first_address blocks)
        go [] is = absurd (true≢false (sym is))
        go (block ∷ blocks) is = (omega arith, refl)

    come-to : (a : ℕ) → Reached (flow_of graph) a → (n : ℕ) × HasAt n a × IsReached graph n
    come-to a (inl start) = let at = first-at a start.1 in (0, (at.0, at.1 ∙ sym start.0), inl refl)
    come-to a (inr way) =
        let flow = flow_of graph in
        let edge = path_first flow.goes Any flow.start way.0 a way.1 in
        let at = first-at flow.start ((flow_of-flow graph).tail flow.start edge.0 edge.1) in
        let it = along way.0 flow.start a 0 at way.1 in
        (it.last, it.last_at, inr (it.places, it.path))

    -- each closed path of reached blocks holds one of the places
    abbrev pub HoldsCycles : Type 0
    HoldsCycles = (b : ℕ) (between : List ℕ) → IsReached graph b → IsPath (follows graph) Any b between b
        → list_any has (b ∷ between) ≡ true

    pub closed-holds : HoldsCycles → (a : ℕ) (between : List ℕ) → Reached (flow_of graph) a
        → IsPath (flow_of graph).goes Any a between a → list_any kept (a ∷ between) ≡ true
    closed-holds cycles a between reached path =
        let come = come-to a reached in
        let it = along between a a come.0 come.1 path in
        let same : it.last ≡ come.0 = one-at it.last come.0 a it.last_at come.1 in
        let round = subst (λ m. IsPath (follows graph) Any come.0 it.places m) same it.path in
        elim (or_cases (has come.0) (list_any has it.places) (cycles come.0 it.places come.2 round)) [
          | inl here ↦ or_here (kept a) (list_any kept between) (kept-at come.0 a come.1 here)
          | inr more ↦ or_there (kept a) (list_any kept between) (it.holds more)
        ]
