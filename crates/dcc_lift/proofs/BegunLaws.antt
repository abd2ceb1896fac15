-- The instructions of a block, one after the other.
use Rattle.std.proofs.Common.{◌≡◌, ℕ, List, [], ◌∷◌, ◌++◌, flat_map, Some, None, refl, sym, ap, ◌∙◌, append_assoc}
use Rattle.std.proofs.lemmas.Grind.{flat_map-append}
use Rattle.std.proofs.lemmas.List.{append-nil}
use Rattle.dcc_ir.specs.Tree.{Stmt, Block}
use Rattle.dcc_lift.specs.Blocks.{Nodes, BlockSource, nodes_in, entry_in, onward, stmts_at, exit_at, last_of, IsChain, IsBlockAt, AreBlocksAt}

-- each leads to the next; the last may lead on
abbrev pub IsRun : Nodes → ℕ → ℕ → List ℕ → Type 0
IsRun nodes start at [] = Unit {0}
IsRun nodes start at (next ∷ rest) = (onward nodes start at ≡ Some next) × IsRun nodes start next rest

-- the statements of a block that begins at an offset are written up to the last instruction
pub record IsBegun (scene : BlockSource) (at last : ℕ) (stmts : List Stmt) : Type 0 where
  pub done : List ℕ
  pub run : IsRun (nodes_in scene) (entry_in scene) at done
  pub last_is : last_of at done ≡ last
  pub stmts_are : stmts ≡ flat_map (stmts_at scene) (at ∷ done)

last-more : (at : ℕ) (done : List ℕ) (next : ℕ) → last_of at (done ++ next ∷ []) ≡ next
last-more at [] next = refl
last-more at (first ∷ done) next = last-more first done next

run-more : (nodes : Nodes) (start at : ℕ) (done : List ℕ) (next : ℕ) → IsRun nodes start at done
    → onward nodes start (last_of at done) ≡ Some next → IsRun nodes start at (done ++ next ∷ [])
run-more nodes start at [] next run e = (e, tt)
run-more nodes start at (first ∷ done) next run e = (run.0, run-more nodes start first done next run.1 e)

-- one instruction more
pub begun-more : (scene : BlockSource) (at last next : ℕ) (stmts more : List Stmt) → IsBegun scene at last stmts
    → onward (nodes_in scene) (entry_in scene) last ≡ Some next
    → more ≡ stmts ++ stmts_at scene next → IsBegun scene at next more
begun-more scene at last next stmts more begun leads e = record {
  done = begun.done ++ next ∷ [];
  run = run-more (nodes_in scene) (entry_in scene) at begun.done next begun.run
      (ap (onward (nodes_in scene) (entry_in scene)) begun.last_is ∙ leads);
  last_is = last-more at begun.done next;
  stmts_are =
      e ∙ (ap (λ s. s ++ stmts_at scene next) begun.stmts_are
      ∙ (append_assoc (stmts_at scene at) (flat_map (stmts_at scene) begun.done) (stmts_at scene next)
      ∙ ap (λ rest. stmts_at scene at ++ rest)
      (ap (λ last. flat_map (stmts_at scene) begun.done ++ last) (sym (append-nil (stmts_at scene next)))
      ∙ sym (flat_map-append (stmts_at scene) begun.done (next ∷ [])))));
}

chain-all : (nodes : Nodes) (start at : ℕ) (done : List ℕ) → IsRun nodes start at done
    → onward nodes start (last_of at done) ≡ None → IsChain nodes start at done
chain-all nodes start at [] run e = e
chain-all nodes start at (first ∷ done) run e = (run.0, chain-all nodes start first done run.1 e)

-- the last instruction leads nowhere in the block
pub begun-all : (scene : BlockSource) (at last : ℕ) (stmts : List Stmt) (block : Block) → IsBegun scene at last stmts
    → onward (nodes_in scene) (entry_in scene) last ≡ None
    → block.at ≡ at → block.stmts ≡ stmts → block.exit ≡ exit_at scene last → IsBlockAt scene at block
begun-all scene at last stmts block begun ends at_is stmts_are exit_is = record {
  rest = begun.done;
  chain = chain-all (nodes_in scene) (entry_in scene) at begun.done begun.run
      (ap (onward (nodes_in scene) (entry_in scene)) begun.last_is ∙ ends);
  at_is = at_is;
  stmts_are = stmts_are ∙ begun.stmts_are;
  exit_is = exit_is ∙ ap (exit_at scene) (sym begun.last_is);
}

-- one block more
pub blocks-more : (scene : BlockSource) (places : List ℕ) (blocks : List Block) (at : ℕ) (block : Block)
    → AreBlocksAt scene places blocks
    → IsBlockAt scene at block → AreBlocksAt scene (places ++ at ∷ []) (blocks ++ block ∷ [])
blocks-more scene [] [] at block are is = (is, tt)
blocks-more scene [] (first ∷ blocks) at block are is = absurd are
blocks-more scene (place ∷ places) [] at block are is = absurd are
blocks-more scene (place ∷ places) (first ∷ blocks) at block are is =
    (are.0, blocks-more scene places blocks at block are.1 is)
