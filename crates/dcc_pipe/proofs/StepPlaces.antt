-- The places of blocks for which a text has a step.
use Rattle.std.proofs.Common.{◌≡◌, ℕ, ◌+◌, ◌<◌, Bool, true, false, List, length, map, get_or, refl, sym, ap, ◌∙◌, subst, eqb-true, eq-eqb, true≢false, arith}
use Rattle.std.specs.Prelude.{◌&&◌, ◌==◌, Contains, Option}
use Rattle.std.specs.List.{range_with_len}
use Rattle.std.proofs.lemmas.Bool.{and_parts, and_from, false_from_ne_true}
use Rattle.std.proofs.lemmas.List.{length-map, get_or-map}
use Rattle.std.proofs.lemmas.List.Elements.{All-contains}
use Rattle.std.proofs.lemmas.List.Folds.{Any-from_list_any, list_any_at}
use Rattle.std.proofs.lemmas.List.FromFn.{length-range_with_len, get_or-range_with_len}
use Rattle.dcc_run.specs.ProgramPoint.{ProgramPoint}
use Rattle.dcc_ir.specs.Flow.{graph_or_none}
use Rattle.dcc_ir.specs.Keeps.{has_block}
use Rattle.dcc_ir.specs.Live.{block_in}
use Rattle.dcc_ir.specs.Run.{graph_at, no_block}
use Rattle.dcc_ir.specs.Tree.{Block, Graph, Program}
use Rattle.dcc_ir.specs.WellFormed.{IsGraph, IsProgram}
use Rattle.dcc_interval.proofs.PlaceLaws.{one_place}
use Rattle.dcc_control.specs.Plan.{Plan}
use Rattle.dcc_control.specs.Valid.{has_step}
use Rattle.dcc_pipe.specs.Control.{Control, has_step_at, keeps_step}
use Rattle.dcc_pipe.proofs.FunctionTables.{found-there}

-- a block at that address for which the text has a step
pub record HasStepAt (graph : Graph) (plan : Plan) (at : ℕ) : Type 0 where
  pub block : ℕ
  pub inside : block < length graph.blocks
  pub address : (block_in graph block).at ≡ at
  pub has : has_step graph plan block ≡ true

module _ (graph : Graph) (plan : Plan) where
  abbrev count : ℕ
  count = length graph.blocks

  abbrev steps : ℕ → ℕ → Bool
  steps at b = ((block_in graph b).at == at) && has_step graph plan b

  pub step-there : (b : ℕ) → b < count → has_step graph plan b ≡ true → has_step_at graph plan (block_in graph b).at ≡ true
  step-there b inside has =
      let at = (block_in graph b).at in
      let within : b < length (range_with_len 0 count) = omega (arith, inside, length-range_with_len 0 count) in
      let number : get_or (range_with_len 0 count) b 0 ≡ b =
      let added : 0 + b ≡ b = omega arith in get_or-range_with_len 0 count b 0 inside ∙ added
      in
      list_any_at (steps at) (range_with_len 0 count) b 0 within
      (ap (steps at) number ∙ and_from (at == at) (has_step graph plan b) (eq-eqb at at refl) has)

  pub step-of : (at : ℕ) → has_step_at graph plan at ≡ true → HasStepAt graph plan at
  step-of at is =
      let x = Any-from_list_any (steps at) (range_with_len 0 count) is in
      let inside : x.0 < count = omega (arith, x.2, length-range_with_len 0 count) in
      let number : x.1 ≡ x.0 =
      let added : 0 + x.0 ≡ x.0 = omega arith in sym x.3 ∙ get_or-range_with_len 0 count x.0 x.1 inside ∙ added
      in
      let parts = and_parts ((block_in graph x.1).at == at) (has_step graph plan x.1) x.4 in
      record {
        block = x.1;
        inside = subst (λ b. b < count) (sym number) inside;
        address = eqb-true (block_in graph x.1).at at parts.0;
        has = parts.1;
      }

  abbrev addresses : List ℕ
  addresses = map (λ (block : Block). block.at) graph.blocks

  -- the address of a block tells whether the text has a step for it
  pub step-same : IsGraph graph → (b : ℕ) → b < count → has_step_at graph plan (block_in graph b).at ≡ has_step graph plan b
  step-same formed b inside = by (has_step graph plan b) refl
    where
      address-of : (a : ℕ) → a < count → get_or addresses a 0 ≡ (block_in graph a).at
      address-of a within = get_or-map (λ (block : Block). block.at) graph.blocks a no_block 0 within

      by : (has : Bool) → has_step graph plan b ≡ has → has_step_at graph plan (block_in graph b).at ≡ has
      by true is = step-there b inside is
      by false is = false_from_ne_true (has_step_at graph plan (block_in graph b).at) (λ there.
          let x = step-of (block_in graph b).at there in
          let few = length-map graph.blocks (λ (block : Block). block.at) in
          let same : x.block ≡ b =
          one_place addresses x.block b formed.addresses (omega (arith, few, x.inside)) (omega (arith, few, inside))
          (address-of x.block x.inside ∙ x.address ∙ sym (address-of b inside)) in
          true≢false (sym x.has ∙ ap (has_step graph plan) same ∙ is))

-- where a graph of the program has a block, its place is kept just where the text has a step for it
pub step-kept : (control : Control) (p : Program) → IsProgram p → (graph : Graph) → Contains p.graphs graph → (b : ℕ)
    → b < length graph.blocks
    → keeps_step control p (record { entry = graph.entry; at = (block_in graph b).at }) ≡ has_step graph (control graph) b
step-kept control p well graph c b inside =
    ap (λ (found : Option Graph). has_step_at (graph_or_none found) (control (graph_or_none found)) (block_in graph b).at)
    (found-there p.graphs graph well.entries c)
    ∙ step-same graph (control graph) (All-contains IsGraph p.graphs graph well.graphs c) b inside

-- a kept place is one of a block
pub step-has : (control : Control) (p : Program) (place : ProgramPoint) → keeps_step control p place ≡ true
    → has_block p place ≡ true
step-has control p place is =
    let graph = graph_or_none (graph_at p.graphs place.entry) in
    let x = step-of graph (control graph) place.at is in
    list_any_at (λ (block : Block). block.at == place.at) graph.blocks x.block no_block x.inside
    (eq-eqb (block_in graph x.block).at place.at x.address)
