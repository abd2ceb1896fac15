-- Programs whose graphs have the same blocks, place by place.
use Rattle.std.proofs.Common.{◌≡◌, ℕ, Bool, true, false, ◌==◌, List, [], ◌∷◌, map, Some, refl, sym, ap, ◌∙◌}
use Rattle.std.specs.Prelude.{◌||◌, if◌then◌else◌}
use Rattle.std.specs.List.{AllZip, list_any}
use Rattle.dcc_run.specs.ProgramPoint.{ProgramPoint}
use Rattle.dcc_ir.specs.Tree.{Block, Graph, Program}
use Rattle.dcc_ir.specs.Flow.{graph_or_none}
use Rattle.dcc_ir.specs.Run.{graph_at}
use Rattle.dcc_ir.specs.Keeps.{has_block}
use Rattle.dcc_ir.specs.Replaced.{MayReplace}
use Rattle.dcc_passes.specs.Replaced.{StandsFor}
use Rattle.dcc_passes.proofs.ReplacedLaws.{stands-for}

-- the graphs have one entry, and blocks with the same addresses
pub record HasSameBlocks (before after : Graph) : Type 0 where
  pub entry : after.entry ≡ before.entry
  pub addresses : map (λ b. b.at) after.blocks ≡ map (λ b. b.at) before.blocks

pub same-blocks-trans : (g h k : Graph) → HasSameBlocks g h → HasSameBlocks h k → HasSameBlocks g k
same-blocks-trans g h k first second = record {
  entry = second.entry ∙ first.entry;
  addresses = second.addresses ∙ first.addresses;
}

-- what is alike in the graphs at each place is alike in those with each entry
module _ {B : Type 0} (R : Graph → Graph → Type 0) (F : Graph → B)
    (entries_are : (g h : Graph) → R g h → h.entry ≡ g.entry) (same : (g h : Graph) → R g h → F h ≡ F g) where
  pub alike-at : (before after : List Graph) → AllZip R before after → (entry : ℕ)
      → F (graph_or_none (graph_at after entry)) ≡ F (graph_or_none (graph_at before entry))
  alike-at [] [] all entry = refl
  alike-at [] (h ∷ after) all entry = absurd all
  alike-at (g ∷ before) [] all entry = absurd all
  alike-at (g ∷ before) (h ∷ after) all entry =
      ap (λ n. F (graph_or_none (if n == entry then Some h else graph_at after entry))) (entries_are g h all.0)
      ∙ by (g.entry == entry) (alike-at before after all.1 entry)
    where
      by : (b : Bool) → F (graph_or_none (graph_at after entry)) ≡ F (graph_or_none (graph_at before entry))
          → F (graph_or_none (if b then Some h else graph_at after entry))
          ≡ F (graph_or_none (if b then Some g else graph_at before entry))
      by true later = same g h all.0
      by false later = later

-- The blocks.

addresses-tell : (at : ℕ) (blocks : List Block)
    → list_any (λ block. block.at == at) blocks ≡ list_any (λ a. a == at) (map (λ b. b.at) blocks)
addresses-tell at [] = refl
addresses-tell at (b ∷ blocks) = ap (λ c. (b.at == at) || c) (addresses-tell at blocks)

pub blocks-stay : (p q : Program) (place : ProgramPoint) → AllZip HasSameBlocks p.graphs q.graphs
    → has_block q place ≡ has_block p place
blocks-stay p q place all =
    alike-at HasSameBlocks (λ g. list_any (λ block. block.at == place.at) g.blocks) (λ g h is. is.entry)
    (λ g h is. addresses-tell place.at h.blocks ∙ ap (list_any (λ a. a == place.at)) is.addresses
    ∙ sym (addresses-tell place.at g.blocks)) p.graphs q.graphs all place.entry

-- a graph with the same blocks that may replace another stands for it
pub blocks-stand : (g h : Graph) → HasSameBlocks g h → MayReplace g h → StandsFor g h
blocks-stand g h same may =
    stands-for g h same.entry
    (λ at has. addresses-tell at g.blocks ∙ ap (list_any (λ a. a == at)) (sym same.addresses)
    ∙ sym (addresses-tell at h.blocks) ∙ has) may
