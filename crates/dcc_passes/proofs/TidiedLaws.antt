-- Passes that make a graph plainer, one after another.
use Rattle.std.proofs.Common.{◌≡◌, ℕ, List, [], ◌∷◌, Some, refl, ◌∙◌}
use Rattle.std.specs.Prelude.{All}
use Rattle.std.specs.List.{AllZip}
use Rattle.dcc_ir.specs.declared.syntax.Loc.{Loc}
use Rattle.dcc_ir.specs.Tree.{Stmt, Block, Graph}
use Rattle.dcc_ir.specs.Families.{Family, needed, IsWithout, done, stays, IsBlockWithout}
use Rattle.dcc_ir.proofs.FamilyLaws.{needed-closed}
use Rattle.dcc_ir.proofs.passes.ReplaceLaws.{kept_with}
use Rattle.dcc_ir.specs.WellFormed.{IsGraph}
use Rattle.dcc_passes.specs.Kinds.{BlockStaysInKind, StaysInKind}
use Rattle.dcc_passes.specs.Replaced.{StandsFor}
use Rattle.dcc_passes.specs.Tidied.{IsTidied}
use Rattle.dcc_passes.specs.Laws.{TidiedItself, TidiedComposes}
use Rattle.dcc_passes.proofs.ReplacedLaws.{stands-for, stands-trans}

-- Kinds.

module _ (bits bits' bits'' : List ℕ) where
  block-trans : (a b c : Block) → BlockStaysInKind bits bits' a b → BlockStaysInKind bits' bits'' b c
      → BlockStaysInKind bits bits'' a c
  block-trans a b c first second = record {
    at = second.at ∙ first.at;
    targets_are = second.targets_are ∙ first.targets_are;
    jumps = second.jumps ∙ first.jumps;
    given = second.given ∙ first.given;
    calls = second.calls ∙ first.calls;
  }

  blocks-trans : (ds bs cs : List Block) → AllZip (BlockStaysInKind bits bits') ds bs
      → AllZip (BlockStaysInKind bits' bits'') bs cs → AllZip (BlockStaysInKind bits bits'') ds cs
  blocks-trans [] [] [] first second = tt
  blocks-trans [] [] (c ∷ cs) first second = absurd second
  blocks-trans [] (b ∷ bs) cs first second = absurd first
  blocks-trans (a ∷ ds) [] cs first second = absurd first
  blocks-trans (a ∷ ds) (b ∷ bs) [] first second = absurd second
  blocks-trans (a ∷ ds) (b ∷ bs) (c ∷ cs) first second =
      (block-trans a b c first.0 second.0, blocks-trans ds bs cs first.1 second.1)

pub kinds-trans : (g h k : Graph) → StaysInKind g h → StaysInKind h k → StaysInKind g k
kinds-trans g h k first second = record {
  entry = second.entry ∙ first.entry;
  params = second.params ∙ first.params;
  local = second.local ∙ first.local;
  pushed = second.pushed ∙ first.pushed;
  blocks = blocks-trans g.bits h.bits k.bits g.blocks h.blocks k.blocks first.blocks second.blocks;
}

block-itself : (bits : List ℕ) (b : Block) → BlockStaysInKind bits bits b b
block-itself bits b = record { at = refl; targets_are = refl; jumps = refl; given = refl; calls = refl }

blocks-themselves : (bits : List ℕ) (bs : List Block) → AllZip (BlockStaysInKind bits bits) bs bs
blocks-themselves bits [] = tt
blocks-themselves bits (b ∷ bs) = (block-itself bits b, blocks-themselves bits bs)

pub kinds-refl : (g : Graph) → StaysInKind g g
kinds-refl g = record {
  entry = refl;
  params = refl;
  local = refl;
  pushed = refl;
  blocks = blocks-themselves g.bits g.blocks;
}

-- Passes.

pub tidied-trans : TidiedComposes
tidied-trans g h k first second = record {
  formed = second.formed;
  stands = stands-trans g h k first.stands second.stands;
  kind = kinds-trans g h k first.kind second.kind;
  addresses = λ test passes. second.addresses test (first.addresses test passes);
  apart = λ differ. second.apart (first.apart differ);
}

-- A graph in which nothing changes.

stmts-themselves : (Has : List Stmt → Loc → Type 0) (stmts : List Stmt) → IsWithout Has stmts stmts
stmts-themselves Has [] = done
stmts-themselves Has (stmt ∷ stmts) = stays (stmts-themselves Has stmts)

blocks-alike : (family : Family) (bs : List Block) → AllZip (IsBlockWithout family) bs bs
blocks-alike family [] = tt
blocks-alike family (b ∷ bs) =
    (record { at = refl; exit = refl; stmts = stmts-themselves (family b) b.stmts }, blocks-alike family bs)

pub stands-refl : (g : Graph) → StandsFor g g
stands-refl g =
    stands-for g g refl (λ at has. has)
    (λ p formed known. kept_with p (needed g) g g formed known (needed-closed g)
    (record {
      entry = refl;
      params = refl;
      local = refl;
      pushed = refl;
      bits = refl;
      blocks = blocks-alike (needed g) g.blocks;
    }))

pub tidied-refl : TidiedItself
tidied-refl g formed = record {
  formed = formed;
  stands = stands-refl g;
  kind = kinds-refl g;
  addresses = λ test passes. passes;
  apart = λ differ. differ;
}
