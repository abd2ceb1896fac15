-- The blocks of the graph that is located for a procedure: where its leaders' blocks stand, what its first one is, and
-- that chains without CALLs hold no Call.
use Rattle.std.proofs.Common.{◌≡◌, ℕ, suc, Bool, true, false, List, [], ◌∷◌, ◌++◌, length, flat_map, Option, Some, None, refl, sym, ap, ◌∙◌, subst, eqb-true, eq-eqb, arith}
use Rattle.std.specs.Prelude.{◌==◌, if◌then◌else◌, slice_get}
use Rattle.dcc_machine.specs.declared.image.Image.{Image}
use Rattle.dcc_prog.specs.declared.procedure.Node.{Node}
use Rattle.dcc_prog.specs.declared.frame.Program.{Program as Analysed}
use Rattle.dcc_prog.specs.Trail.{IsEntry}
use Rattle.dcc_ir.specs.Tree.{Graph, Program}
use Rattle.dcc_ir.specs.Run.{graph_at}
use Rattle.dcc_lift.specs.Blocks.{node_in, calls_in, IsChain, leaders, place_in, BlockSource, nodes_in, entry_in, block_place, height_in, node_stmts, stmts_at}
use Rattle.dcc_lift.specs.Translated.{IsTranslated}
use Rattle.dcc_lift.specs.Sound.{AreSound}
use Rattle.dcc_lift.specs.Translation.{prelude_block}
use Rattle.dcc_lift.proofs.CallFree.{IsCallFree, free-append, node-free}
use Rattle.dcc_lift.proofs.ChainLaws.{is_leader, onward_tells}
use Rattle.dcc_lift.proofs.BlockLaws.{HasBlock, leader_block}
use Rattle.dcc_lift.proofs.TranslationLaws.{front_of, graph-blocks}
use Rattle.dcc_lift.proofs.Lifting.{Located, scene_of, before_of, locate, sound}

-- Chains without CALLs.

module _ (scene : BlockSource) (prelude : ℕ) (sound_here : AreSound (nodes_in scene) (entry_in scene) prelude) where
  pub stmts-free : (at : ℕ) → calls_in (node_in (nodes_in scene) at) ≡ false → IsCallFree (stmts_at scene at)
  stmts-free at none = go (height_in scene.heights at) (node_in (nodes_in scene) at) none
    where
      go : (height : Option ℕ) (node : Option Node) → calls_in node ≡ false → IsCallFree (node_stmts scene height node)
      go None _ e = refl
      go (Some height) None e = refl
      go (Some height) (Some node) e = node-free scene.cpu scene.procedures scene.procedure height node e

  pub chain-free : (rest : List ℕ) (at : ℕ) → calls_in (node_in (nodes_in scene) at) ≡ false
      → IsChain (nodes_in scene) (entry_in scene) at rest → IsCallFree (flat_map (stmts_at scene) (at ∷ rest))
  chain-free [] at none chain = free-append (stmts_at scene at) [] (stmts-free at none) refl
  chain-free (next ∷ rest) at none chain =
      let on = onward_tells (nodes_in scene) (entry_in scene) prelude sound_here at next chain.0 in
      free-append (stmts_at scene at) (flat_map (stmts_at scene) (next ∷ rest)) (stmts-free at none)
      (chain-free rest next on.next_calls chain.1)

module _ (image : Image) (program : Analysed) (p : Program) (is : IsTranslated image program p) where
  abbrev pub located_at : (entry : ℕ) → IsEntry image program.layout entry → Located image program p entry
  located_at entry is_entry = (locate image program p is.of_file is.translation entry is_entry).0

  abbrev pub scene_at : (entry : ℕ) → IsEntry image program.layout entry → BlockSource
  scene_at entry is_entry = scene_of image program p entry (located_at entry is_entry)

  pub sound_at : (entry : ℕ) (is_entry : IsEntry image program.layout entry)
      → AreSound (nodes_in (scene_at entry is_entry)) (entry_in (scene_at entry is_entry)) image.ip
  sound_at entry is_entry = sound image program p is.of_file is.translation entry is_entry (located_at entry is_entry)

  pub before_is : (entry : ℕ) (is_entry : IsEntry image program.layout entry)
      → (scene_at entry is_entry).before ≡ before_of image program p entry
  before_is entry is_entry = (locate image program p is.of_file is.translation entry is_entry).1

  -- one block comes before those of instructions at most
  pub front-length : (entry : ℕ) (is_entry : IsEntry image program.layout entry)
      → length (front_of image program.layout (scene_at entry is_entry)) ≡ (scene_at entry is_entry).before
  front-length entry is_entry =
      go (program.layout.start_ip == entry) (scene_at entry is_entry).before (before_is entry is_entry)
    where
      count : ℕ → ℕ
      count n = length (if n == 0 then [] else prelude_block image program.layout (scene_at entry is_entry) ∷ [])

      go : (b : Bool) (n : ℕ) → n ≡ (if b then 1 else 0) → count n ≡ n
      go true n same = subst (λ k. count k ≡ k) (sym same) refl
      go false n same = subst (λ k. count k ≡ k) (sym same) refl

  pub blocks-are : (entry : ℕ) (is_entry : IsEntry image program.layout entry)
      → (located_at entry is_entry).graph.blocks
      ≡ front_of image program.layout (scene_at entry is_entry) ++ (located_at entry is_entry).is_graph.blocks
  blocks-are entry is_entry =
      let x = located_at entry is_entry in
      ap (λ (g : Graph). g.blocks) x.is_graph.graph_is
      ∙ graph-blocks image program.layout (scene_at entry is_entry) x.is_graph.blocks

  -- the block of a leader is found at its place
  pub block-at : (entry : ℕ) (is_entry : IsEntry image program.layout entry) (at : ℕ)
      → is_leader (nodes_in (scene_at entry is_entry)) (entry_in (scene_at entry is_entry)) at ≡ true
      → HasBlock (scene_at entry is_entry) (located_at entry is_entry).graph.blocks
      (block_place (scene_at entry is_entry) at) at
  block-at entry is_entry at leader =
      let x = located_at entry is_entry in
      let scene = scene_at entry is_entry in
      subst (λ l. HasBlock scene l (block_place scene at) at) (sym (blocks-are entry is_entry))
      (leader_block scene image.ip (sound_at entry is_entry) (front_of image program.layout scene)
      (front-length entry is_entry) x.is_graph.blocks x.is_graph.blocks_are at leader)

  -- one entry has one graph
  pub one-graph : (entry : ℕ) (is_entry : IsEntry image program.layout entry) (graph : Graph)
      → graph_at p.graphs entry ≡ Some graph → graph ≡ (located_at entry is_entry).graph
  one-graph entry is_entry graph found = same (sym found ∙ (located_at entry is_entry).graph_found)
    where
      same : {g h : Graph} → Some g ≡ Some h → g ≡ h
      same e = cc

  -- A graph begins with the block of its entry, or with that of the prelude.

  pub data BeginsWith (entry : ℕ) (is_entry : IsEntry image program.layout entry) : Type 0 where
    entry_first : block_place (scene_at entry is_entry) entry ≡ 0 → BeginsWith entry is_entry
    prelude_first :
        entry ≡ program.layout.start_ip
        → slice_get (located_at entry is_entry).graph.blocks 0
        ≡ Some (prelude_block image program.layout (scene_at entry is_entry))
        → BeginsWith entry is_entry

  first-place : (entry : ℕ) (is_entry : IsEntry image program.layout entry)
      → place_in (leaders (nodes_in (scene_at entry is_entry)) (entry_in (scene_at entry is_entry))) entry ≡ 0
  first-place entry is_entry =
      let scene = scene_at entry is_entry in
      let same = (located_at entry is_entry).entry_is in
      first (entry_in scene) _ same
    where
      first : (at : ℕ) (rest : List ℕ) → at ≡ entry → place_in (at ∷ rest) entry ≡ 0
      first at rest same = ap (λ b. if b then 0 else suc (place_in rest entry)) (eq-eqb at entry same)

  pub begins-with : (entry : ℕ) (is_entry : IsEntry image program.layout entry) → BeginsWith entry is_entry
  begins-with entry is_entry = by (program.layout.start_ip == entry) refl
    where
      scene : BlockSource
      scene = scene_at entry is_entry

      by : (b : Bool) → (program.layout.start_ip == entry) ≡ b → BeginsWith entry is_entry
      by false other =
          let before : scene.before ≡ 0 = before_is entry is_entry ∙ ap (λ b. if b then 1 else 0) other in
          let first = first-place entry is_entry in
          entry_first (omega (arith, before, first))
      by true same =
          let before : scene.before ≡ 1 = before_is entry is_entry ∙ ap (λ b. if b then 1 else 0) same in
          prelude_first (sym (eqb-true program.layout.start_ip entry same))
          (ap (λ l. slice_get l 0) (blocks-are entry is_entry)
          ∙ ap (λ n. slice_get ((if n == 0 then [] else prelude_block image program.layout scene ∷ [])
          ++ (located_at entry is_entry).is_graph.blocks) 0) before)
