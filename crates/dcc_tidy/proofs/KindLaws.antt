-- What graphs of one kind have in common: which blocks return, what they give, what their calls take, and which
-- arguments are in memory.
use Rattle.std.proofs.Common.{◌≡◌, ℕ, ◌+◌, Bool, true, false, ◌&&◌, List, [], ◌∷◌, map, drop, Option, Some, None, refl, sym, ap, ◌∙◌, subst}
use Rattle.std.specs.Prelude.{◌==◌, if◌then◌else◌}
use Rattle.std.specs.List.{AllZip}
use Rattle.dcc_ir.specs.declared.syntax.Param.{Param}
use Rattle.dcc_ir.specs.Run.{graph_at}
use Rattle.dcc_ir.specs.Tree.{Block, Graph}
use Rattle.dcc_ir.specs.WellFormed.{is_memory, ret_widths, all_ret_widths}
use Rattle.dcc_ir.proofs.ZipLaws.{map_zipped, flat_zipped}
use Rattle.dcc_passes.specs.Kinds.{ParamKind, param_kind, BlockStaysInKind, StaysInKind}
use Rattle.dcc_c.specs.declared.syntax.Class.{Class}
use Rattle.dcc_c.specs.declared.syntax.Class.TheVariants.{Plain, Auto, Register}
use Rattle.dcc_variables.specs.Functions.{parameter_class, memory_from}

-- Blocks.

pub kind-addresses : (g h : Graph) → StaysInKind g h → map (λ b. b.at) h.blocks ≡ map (λ b. b.at) g.blocks
kind-addresses g h is =
    map_zipped (BlockStaysInKind g.bits h.bits) (λ (b : Block). b.at) (λ (b : Block). b.at) (λ b c pair. pair.at) g.blocks
    h.blocks is.blocks

pub kind-widths : (g h : Graph) → StaysInKind g h → all_ret_widths h ≡ all_ret_widths g
kind-widths g h is =
    flat_zipped (BlockStaysInKind g.bits h.bits) (λ b. ret_widths g.bits b.exit) (λ b. ret_widths h.bits b.exit)
    (λ b c pair. pair.given) g.blocks h.blocks is.blocks

-- Params.

kind-class : ParamKind → Class
kind-class kind = if kind.stack then (if kind.memory then Auto else Plain) else Register

classes-by : (bits : List ℕ) (params : List Param)
    → map parameter_class params ≡ map kind-class (map (param_kind bits) params)
unfolding kind-class
classes-by bits [] = refl
classes-by bits (p ∷ params) = ap (λ cs. parameter_class p ∷ cs) (classes-by bits params)

memory-by : ℕ → List ParamKind → Option ℕ
memory-by place [] = None
memory-by place (kind ∷ kinds) = if kind.stack && kind.memory then Some place else memory-by (place + 1) kinds

memory-same : (bits : List ℕ) (place : ℕ) (params : List Param)
    → memory_from place params ≡ memory-by place (map (param_kind bits) params)
unfolding memory-by
memory-same bits place [] = refl
memory-same bits place (p ∷ params) =
    ap (λ o. if p.stack && is_memory p.put then Some place else o) (memory-same bits (place + 1) params)

pub kind-classes : (g h : Graph) → StaysInKind g h → map parameter_class h.params ≡ map parameter_class g.params
kind-classes g h is = classes-by h.bits h.params ∙ ap (map kind-class) is.params ∙ sym (classes-by g.bits g.params)

pub kind-memory : (g h : Graph) → StaysInKind g h → memory_from 0 h.params ≡ memory_from 0 g.params
kind-memory g h is = memory-same h.bits 0 h.params ∙ ap (memory-by 0) is.params ∙ sym (memory-same g.bits 0 g.params)

-- Graphs by their entries.

-- the graph of an entry in the one list is at the place of that of the other
pub record IsFoundBefore (R : Graph → Graph → Type 0) (gs : List Graph) (entry : ℕ) (h : Graph) : Type 0 where
  pub graph : Graph
  pub found : graph_at gs entry ≡ Some graph
  pub related : R graph h

module _ (R : Graph → Graph → Type 0) (entries : (g h : Graph) → R g h → h.entry ≡ g.entry) (entry : ℕ) where
  pub found-before : (gs hs : List Graph) → AllZip R gs hs → (h : Graph) → graph_at hs entry ≡ Some h
      → IsFoundBefore R gs entry h
  found-before [] [] all h found = absurd (cc)
  found-before [] (x ∷ hs) all h found = absurd all
  found-before (g ∷ gs) [] all h found = absurd all
  found-before (g ∷ gs) (x ∷ hs) all h found =
      by (g.entry == entry) refl (found-before gs hs all.1 h)
      (ap (λ n. if n == entry then Some x else graph_at hs entry) (sym (entries g x all.0)) ∙ found)
    where
      by : (b : Bool) → (g.entry == entry) ≡ b → (graph_at hs entry ≡ Some h → IsFoundBefore R gs entry h)
          → (if b then Some x else graph_at hs entry) ≡ Some h → IsFoundBefore R (g ∷ gs) entry h
      by true is later here =
          let same : x ≡ h = cc in record {
            graph = g;
            found = ap (λ c. if c then Some g else graph_at gs entry) is;
            related = subst (R g) same all.0;
          }
      by false is later there =
          let it = later there in record {
            graph = it.graph;
            found = ap (λ c. if c then Some g else graph_at gs entry) is ∙ it.found;
            related = it.related;
          }

pub without-first : (R : Graph → Graph → Type 0) (xs ys : List Graph) → AllZip R xs ys → AllZip R (drop 1 xs) (drop 1 ys)
without-first R [] [] all = tt
without-first R [] (y ∷ ys) all = absurd all
without-first R (x ∷ xs) [] all = absurd all
without-first R (x ∷ xs) (y ∷ ys) all = all.1
