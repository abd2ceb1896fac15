-- A program of the form that is lifted, whose summaries a text can have, is prepared by the passes in their order.
use Rattle.std.proofs.Common.{◌≡◌, ℕ, ◌≤◌, List, [], ◌∷◌, map, refl, sym, ap, ap₂, ◌∙◌, subst, arith}
use Rattle.std.specs.Prelude.{All, if◌then◌else◌, ◌==◌}
use Rattle.std.specs.List.{AllZip}
use Rattle.std.proofs.lemmas.List.Elements.{All-map, All-weaker}
use Rattle.dcc_run.specs.ProgramPoint.{ProgramPoint}
use Rattle.dcc_ir.specs.Tree.{Block, Graph, Program, Summary}
use Rattle.dcc_ir.specs.FlagReads.{FlagsReadPlainly}
use Rattle.dcc_ir.specs.Keeps.{has_block, Keeps}
use Rattle.dcc_ir.specs.Measure.{depth_of}
use Rattle.dcc_ir.specs.Trimmed.{Trim, trim_graph}
use Rattle.dcc_ir.specs.Use.{graph_exprs}
use Rattle.dcc_ir.proofs.KeepsLaws.{keeps_trans}
use Rattle.dcc_ir.proofs.ZipLaws.{all_zipped}
use Rattle.dcc_lift.specs.Lifted.{IsShallow}
use Rattle.dcc_sums.specs.Laws.{IsKeptBy}
use Rattle.dcc_sums.specs.Localised.{summary_at, trim_by, localised, CallsJust, PassesJust}
use Rattle.dcc_sums.proofs.KeepLaws.{localised-keeps}
use Rattle.dcc_signatures.specs.Packed.{pack_graph, packed}
use Rattle.dcc_signatures.specs.Laws.{PassesOneValue, PassesAtMostOne}
use Rattle.dcc_signatures.proofs.DepthLaws.{packed-is_shallow}
use Rattle.dcc_signatures.proofs.GiveLaws.{packed-passes_one}
use Rattle.dcc_signatures.proofs.LocalLaws.{localised-passes_one_value}
use Rattle.dcc_signatures.proofs.PackLaws.{packed-keeps}
use Rattle.dcc_pipe.specs.Textable.{lifted_levels, levels, TakesApart}
use Rattle.dcc_pipe.specs.Simplified.{IsSimplifiedGraph, HasEachChanged, IsSimplified}
use Rattle.dcc_pipe.specs.Prepared.{has_ret, returns, TakesOfReturning, HasLiftedForm, AreSumsOfText, IsPrepared, WhatIsLeftIsPrepared}
use Rattle.dcc_pipe.proofs.ApartLaws.{trimmed-apart, packed-apart, simplified-apart}
use Rattle.dcc_pipe.proofs.ReplacedLaws.{HasSameBlocks, alike-at, blocks-stay}
use Rattle.dcc_pipe.proofs.SimplifiedLaws.{deepest-of, none-deeper, never-stuck, all-both, simplified-trans, program-simplified}
use Rattle.dcc_pipe.proofs.TrimmedLaws.{trimmed-parts, trimmed-reads}
use Rattle.dcc_pipe.proofs.PackedLaws.{packed-reads}
use Rattle.dcc_pipe.proofs.PassingLaws.{AllPass, simplified-entry, passes-stay}
use Rattle.dcc_pipe.proofs.ReturnLaws.{just-taken, graph-taken, trimmed-returns, packed-returns, simplified-returns}
use mathlib.Core.Path.{fun_ext}

-- Programs of which each graph is changed by one function.

-- what is changed is related to what it was
pub all-changed : {A : Type 0} (R : A → A → Type 0) (f : A → A) → ((x : A) → R x (f x)) → (xs : List A)
    → AllZip R xs (map f xs)
all-changed R f to [] = tt
all-changed R f to (x ∷ xs) = (to x, all-changed R f to xs)

addresses-changed : (f : Block → Block) → ((b : Block) → (f b).at ≡ b.at) → (blocks : List Block)
    → map (λ b. b.at) (map f blocks) ≡ map (λ b. b.at) blocks
addresses-changed f same [] = refl
addresses-changed f same (b ∷ blocks) = ap₂ (λ n ns. n ∷ ns) (same b) (addresses-changed f same blocks)

module _ (p : Program) (sums : List Summary) (form : HasLiftedForm p) (known : AreSumsOfText p sums) where
  abbrev pub trim : Trim
  trim = trim_by p.graphs sums

  -- the program in which just what is wanted passes, and that in which it passes together
  abbrev pub just : Program
  just = localised sums p

  abbrev pub together : Program
  together = packed just

  localised-kept : IsKeptBy p just
  localised-kept = localised-keeps form.back p sums form.textable.formed form.passes known.are known.reuses

  one-value : PassesOneValue just sums
  one-value = localised-passes_one_value form.back p sums form.textable.formed form.passes known.are known.one

  pub packed-kept : IsKeptBy just together
  packed-kept = packed-keeps just sums localised-kept.formed one-value

  together-keeps : Keeps p together
  together-keeps = keeps_trans p just together localised-kept.keeps.keeps packed-kept.keeps.keeps

  -- the blocks stay
  trimmed-blocks : (g : Graph) → HasSameBlocks g (trim_graph trim g)
  trimmed-blocks g = record { entry = refl; addresses = addresses-changed _ (λ b. refl) g.blocks }

  packed-blocks : (g : Graph) → HasSameBlocks g (pack_graph g)
  packed-blocks g = record { entry = refl; addresses = addresses-changed _ (λ b. refl) g.blocks }

  together-places : (place : ProgramPoint) → has_block together place ≡ has_block p place
  together-places place =
      blocks-stay just together place
      (all-changed HasSameBlocks pack_graph packed-blocks just.graphs)
      ∙ blocks-stay p just place
      (all-changed HasSameBlocks (trim_graph trim) trimmed-blocks p.graphs)

  -- a packed graph is no deeper than the lifting gives, and reads flags as before
  packed-shallow : (g : Graph) → IsShallow lifted_levels g → IsShallow lifted_levels (pack_graph g)
  packed-shallow g shallow =
      none-deeper lifted_levels (graph_exprs (pack_graph g))
      (omega (arith, packed-is_shallow g, deepest-of lifted_levels (graph_exprs g) shallow))

  abbrev Fine : Graph → Type 0
  Fine g = IsShallow lifted_levels g × FlagsReadPlainly g

  together-fine : All Fine together.graphs
  together-fine =
      All-map Fine pack_graph just.graphs
      (All-weaker Fine (λ g. Fine (pack_graph g)) (λ g fine. (packed-shallow g fine.0, packed-reads g fine.1)) just.graphs
      (All-map Fine (trim_graph trim) p.graphs
      (All-weaker Fine (λ g. Fine (trim_graph trim g))
      (λ g fine. (trimmed-parts trim (λ e. depth_of e ≤ lifted_levels) g fine.0, trimmed-reads trim g fine.1)) p.graphs
      (all-both (IsShallow lifted_levels) FlagsReadPlainly p.graphs form.textable.shallow form.reads))))

  -- no location takes two arguments
  together-apart : All TakesApart together.graphs
  together-apart =
      All-map TakesApart pack_graph just.graphs
      (All-weaker TakesApart (λ g. TakesApart (pack_graph g)) packed-apart just.graphs
      (All-map TakesApart (trim_graph trim) p.graphs
      (All-weaker TakesApart (λ g. TakesApart (trim_graph trim g)) (trimmed-apart trim) p.graphs form.apart)))

  together-simplified : IsSimplified lifted_levels p together
  together-simplified = record {
    textable = record {
      formed = packed-kept.formed;
      shallow = All-weaker Fine (IsShallow lifted_levels) (λ g fine. fine.0) together.graphs together-fine;
      never_stuck = never-stuck p together together-keeps.runs form.textable.never_stuck;
    };
    keeps = together-keeps;
    places = together-places;
  }

  sum-still : (graphs : List Graph) (sums : List Summary) (entry : ℕ)
      → summary_at (map (trim_graph trim) graphs) sums entry ≡ summary_at graphs sums entry
  sum-still [] sums entry = refl
  sum-still (g ∷ graphs) [] entry = refl
  sum-still (g ∷ graphs) (sum ∷ sums) entry =
      ap (λ later. if g.entry == entry then sum else later) (sum-still graphs sums entry)

  together-passes : PassesAtMostOne (summary_at p.graphs sums) together
  together-passes =
      subst (λ sum_of. PassesAtMostOne sum_of together) (fun_ext (sum-still p.graphs sums))
      (packed-passes_one just sums localised-kept.formed one-value)

  -- results are taken of procedures that return
  just-passes : PassesJust (summary_at p.graphs sums) just
  just-passes =
      subst (λ sum_of. PassesJust sum_of just) (fun_ext (sum-still p.graphs sums)) one-value.just

  abbrev Taken : Graph → Type 0
  Taken g = All (λ b. All (TakesOfReturning (returns p)) b.stmts) g.blocks

  together-returned : All Taken together.graphs
  together-returned =
      All-map Taken pack_graph just.graphs
      (All-weaker (λ g. All (λ b. All (CallsJust (summary_at p.graphs sums)) b.stmts) g.blocks) (λ g. Taken (pack_graph
      g))
      (λ g calls. graph-taken (returns p) g
      (All-weaker (λ b. All (CallsJust (summary_at p.graphs sums)) b.stmts) (λ b. All (TakesOfReturning (returns p)) b.stmts)
      (λ b stmts. All-weaker (CallsJust (summary_at p.graphs sums)) (TakesOfReturning (returns p))
      (just-taken p sums known.are) b.stmts stmts) g.blocks calls)) just.graphs just-passes.calls)

  -- the graph has the other's entry, and returns where that does
  abbrev HasChanged : Graph → Graph → Type 0
  HasChanged g h = (h.entry ≡ g.entry) × (has_ret h ≡ has_ret g)

  module _ (q : Program) (left : HasEachChanged IsSimplifiedGraph together q) where
    left-simplified : IsSimplified levels together q
    left-simplified =
        program-simplified lifted_levels together q together-simplified.textable
        (All-weaker Fine FlagsReadPlainly (λ g fine. fine.1) together.graphs together-fine) left

    left-passes : AllPass (returns p) (summary_at p.graphs sums) q
    left-passes =
        passes-stay (returns p) (summary_at p.graphs sums) together q left.graphs
        (record { one = together-passes; returned = together-returned })

    -- in the prepared program the procedures return that returned
    returns-still : returns q ≡ returns p
    returns-still = fun_ext (λ entry.
        alike-at IsSimplifiedGraph has_ret simplified-entry simplified-returns together.graphs q.graphs left.graphs entry
        ∙ alike-at HasChanged has_ret (λ g h is. is.0) (λ g h is. is.1) just.graphs together.graphs
        (all-changed HasChanged pack_graph (λ g. (refl, packed-returns g)) just.graphs) entry
        ∙ alike-at HasChanged has_ret (λ g h is. is.0) (λ g h is. is.1) p.graphs just.graphs
        (all-changed HasChanged (trim_graph trim) (λ g. (refl, trimmed-returns trim g)) p.graphs) entry)

    pub left-prepared : IsPrepared p q
    left-prepared = record {
      sums = sums;
      known = known;
      made = left;
      passes = left-passes.one;
      returned =
          subst (λ known. All (λ g. All (λ b. All (TakesOfReturning known) b.stmts) g.blocks) q.graphs) (sym returns-still)
          left-passes.returned;
      apart =
          all_zipped IsSimplifiedGraph TakesApart TakesApart simplified-apart together.graphs q.graphs left.graphs
          together-apart;
      simplified = simplified-trans lifted_levels levels p together q together-simplified left-simplified;
    }

pub what-is_left-is_prepared : WhatIsLeftIsPrepared
what-is_left-is_prepared p q sums form known left = left-prepared p sums form known q left
