-- The program in which what passes together is one value keeps the flow, the calls and the frames.
use Rattle.std.proofs.Common.{◌≡◌, ℕ, Bool, true, false, cond, ◌&&◌, ◌||◌, List, [], ◌∷◌, ◌++◌, Option, Some, None, refl, sym, ap, ap₂, ◌∙◌, subst, map, slice_get, find, flat_map}
use Rattle.std.specs.Prelude.{◌==◌, option_map, filter}
use Rattle.std.specs.List.{list_any}
use Rattle.std.proofs.lemmas.Option.{slice_get-map}
use Rattle.dcc_ir.specs.declared.syntax.Loc.{Loc}
use Rattle.dcc_ir.specs.declared.syntax.Put.{Put}
use Rattle.dcc_ir.specs.declared.syntax.Param.{Param}
use Rattle.dcc_ir.specs.Tree.{Stmt, Call, Exit, Ret, Block, Graph, Program, Summary}
use Rattle.dcc_ir.specs.WellFormed.{is_memory}
use Rattle.dcc_ir.specs.Flow.{Flow, targets, stands_at, has_edge, first_address, flow_of, graph_or_none, flow_at, IsContraction}
use Rattle.dcc_ir.specs.Run.{graph_at}
use Rattle.dcc_ir.specs.Keeps.{calls_of, block_or_none, calls_at, KeepsRuns, KeepsInOne, KeepsFrame}
use Rattle.dcc_ir.specs.Passing.{param_of}
use Rattle.dcc_ir.proofs.FlowLaws.{contraction_refl}
use Rattle.dcc_ir.proofs.KeepsLaws.{flow_law}
use Rattle.dcc_ir.proofs.PathLaws.{reached_has, clash}
use Rattle.dcc_ir.proofs.passes.FormLaws.{changed_at, same_entries}
use Rattle.dcc_sums.specs.Localised.{TakesJust}
use Rattle.dcc_signatures.specs.declared.packing.Fresh.{Fresh}
use Rattle.dcc_signatures.specs.Packed.{param_with, taking_part, pack_stmt, pack_exit, pack_block, fresh_after}
use Rattle.dcc_signatures.specs.Packed.{pack_graph, packed}
use Rattle.dcc_signatures.proofs.PutLaws.{puts}
use Rattle.dcc_signatures.proofs.ProgramLaws.{parts_are}
use Rattle.dcc_signatures.proofs.WholeLaws.{packed_params}
use mathlib.Core.Path.{fun_ext}

-- Where two programs have the same flow graphs and calls, the second is kept if the runs are.
kept_alike : (p q : Program) → map (λ (g : Graph). g.entry) q.graphs ≡ map (λ (g : Graph). g.entry) p.graphs → ((entry : ℕ) → flow_at q entry ≡ flow_at p entry) → ((entry at : ℕ) → calls_at q entry at ≡ calls_at p entry at) →
    KeepsRuns p q → KeepsInOne p q
kept_alike p q entries flows calls runs = record {
  keeps = record {
    entries = entries;
    runs = runs;
    flow = λ entry. subst (IsContraction (flow_at p entry)) (sym (flows entry)) (contraction_refl (flow_at p entry) (flow_law p entry));
    calls = λ entry. record {
      same = λ a reached has. calls entry a;
      kept = λ a reached some. has_still entry a (reached_has (flow_at p entry) (flow_law p entry) a reached);
      after = λ a b reached some edge. has_still entry b ((flow_law p entry).head a b edge);
    };
  };
  edges = λ entry a b c to_a to_b gone edge other. absurd (clash (has_still entry c ((flow_law p entry).head a c edge)) gone);
}
  where
    has_still : (entry a : ℕ) → (flow_at p entry).has a ≡ true → (flow_at q entry).has a ≡ true
    has_still entry a has = ap (λ (flow : Flow). flow.has a) (flows entry) ∙ has

-- Flow.

pub targets_stay : (exit : Exit) → targets (pack_exit exit) ≡ targets exit
targets_stay (Ret values) = refl
targets_stay exit = refl

module _ (fresh : Fresh) where
  abbrev turned : List Block → List Block
  turned blocks = map (pack_block fresh) blocks

  first_stays : (blocks : List Block) → first_address (turned blocks) ≡ first_address blocks
  first_stays [] = refl
  first_stays (b ∷ blocks) = refl

  stands_stays : (blocks : List Block) (place at : ℕ) → stands_at (slice_get (turned blocks) place) at ≡ stands_at (slice_get blocks place) at
  stands_stays blocks place at = ap (λ o. stands_at o at) (slice_get-map (pack_block fresh) blocks place) ∙ go (slice_get blocks place)
    where
      go : (o : Option Block) → stands_at (option_map (pack_block fresh) o) at ≡ stands_at o at
      go (Some b) = refl
      go None = refl

  has_stays : (blocks : List Block) (at : ℕ) → list_any (λ (b : Block). b.at == at) (turned blocks) ≡ list_any (λ (b : Block). b.at == at) blocks
  has_stays [] at = refl
  has_stays (b ∷ blocks) at = ap (λ t. (b.at == at) || t) (has_stays blocks at)

  edge_stays : (blocks : List Block) (b : Block) (at : ℕ) → has_edge (turned blocks) (pack_block fresh b) at ≡ has_edge blocks b at
  edge_stays blocks b at =
      ap₂ (λ f places. list_any f places) (fun_ext (λ place. stands_stays blocks place at)) (targets_stay b.exit)

  goes_stays : (all blocks : List Block) (a c : ℕ) → list_any (λ (b : Block). (b.at == a) && has_edge (turned all) b c) (turned blocks) ≡ list_any (λ (b : Block). (b.at == a) && has_edge all b c) blocks
  goes_stays all [] a c = refl
  goes_stays all (b ∷ blocks) a c = ap₂ (λ x y. ((b.at == a) && x) || y) (edge_stays all b c) (goes_stays all blocks a c)

  -- Calls.

  calls_stay : (stmts : List Stmt) → flat_map calls_of (flat_map (pack_stmt fresh) stmts) ≡ flat_map calls_of stmts
  calls_stay [] = refl
  calls_stay (Call results entry arguments depth ∷ stmts) =
      ap (λ l. (entry, depth) ∷ l) (parts_are fresh results (λ parts. flat_map calls_of (parts ++ later) ≡ flat_map calls_of later) sets ∙ calls_stay stmts)
    where
      later : List Stmt
      later = flat_map (pack_stmt fresh) stmts

      sets : (temporary : ℕ) (two : Bool) (ls : List Loc) → flat_map calls_of (map (taking_part temporary two) ls ++ later) ≡ flat_map calls_of later
      sets temporary two [] = refl
      sets temporary two (l ∷ ls) = sets temporary two ls
  calls_stay (stmt ∷ stmts) = calls_stay stmts

  found_stays : (at : ℕ) (blocks : List Block) → flat_map calls_of (block_or_none (find (λ (b : Block). b.at == at) (turned blocks))).stmts ≡ flat_map calls_of (block_or_none (find (λ (b : Block). b.at == at) blocks)).stmts
  found_stays at [] = refl
  found_stays at (b ∷ blocks) =
      elim (b.at == at) as (λ t. flat_map calls_of (block_or_none (cond t (Some (pack_block fresh b)) (find (λ (x : Block). x.at == at) (turned blocks)))).stmts
      ≡ flat_map calls_of (block_or_none (cond t (Some b) (find (λ (x : Block). x.at == at) blocks))).stmts) [
        | true ↦ calls_stay b.stmts
        | false ↦ found_stays at blocks
      ]

flow_stays : (g : Graph) → flow_of (pack_graph g) ≡ flow_of g
flow_stays g =
    let fresh = fresh_after g.bits in
    let start = first_stays fresh g.blocks in
    let has = fun_ext (has_stays fresh g.blocks) in
    let goes = fun_ext (λ a. fun_ext (goes_stays fresh g.blocks g.blocks a)) in
    λ i. record { start = start i; has = has i; goes = goes i }

module _ (p : Program) where
  graph_there : (entry : ℕ) → graph_at (packed p).graphs entry ≡ option_map pack_graph (graph_at p.graphs entry)
  graph_there entry = changed_at pack_graph p.graphs entry (λ g c. refl)

  -- what is the same of a graph and the packed one is the same at each entry
  same_there : {A : Type 0} (f : Graph → A) → ((g : Graph) → f (pack_graph g) ≡ f g) → (entry : ℕ) → f (graph_or_none (graph_at (packed p).graphs entry)) ≡ f (graph_or_none (graph_at p.graphs entry))
  same_there f same entry = ap (λ o. f (graph_or_none o)) (graph_there entry) ∙ go (graph_at p.graphs entry)
    where
      go : (o : Option Graph) → f (graph_or_none (option_map pack_graph o)) ≡ f (graph_or_none o)
      go (Some g) = same g
      go None = refl

  -- where the runs are kept, all is
  pub kept_whole : KeepsRuns p (packed p) → KeepsInOne p (packed p)
  kept_whole runs = kept_alike p (packed p) (same_entries pack_graph p.graphs (λ g c. refl)) (same_there flow_of flow_stays)
      (λ entry at. same_there (λ g. flat_map calls_of (block_or_none (find (λ (b : Block). b.at == at) g.blocks)).stmts) (λ g. found_stays (fresh_after g.bits) at g.blocks) entry) runs

-- Frames.

-- params that are no words on the stack don't count
stack_stays : (ws : List Param) (ls : List Loc) (qs : List Put) → filter (λ (q : Param). q.stack) (ws ++ map param_with qs) ≡ filter (λ (q : Param). q.stack) (ws ++ map param_of ls)
stack_stays [] ls qs = none_with qs ∙ sym (none_of ls)
  where
    none_with : (qs : List Put) → filter (λ (q : Param). q.stack) (map param_with qs) ≡ []
    none_with [] = refl
    none_with (q ∷ qs) = none_with qs

    none_of : (ls : List Loc) → filter (λ (q : Param). q.stack) (map param_of ls) ≡ []
    none_of [] = refl
    none_of (l ∷ ls) = none_of ls
stack_stays (w ∷ ws) ls qs = ap (λ l. cond w.stack (w ∷ l) l) (stack_stays ws ls qs)

-- a graph that takes just what its summary says keeps its frame
pub frame_stays : (sum : Summary) (g : Graph) → TakesJust sum g → KeepsFrame g (pack_graph g)
frame_stays sum g t = record {
  entry = refl;
  local = refl;
  stack = ap (λ ps. map (λ (q : Param). is_memory q.put) (filter (λ (q : Param). q.stack) ps)) (packed_params sum g t)
      ∙ ap (map (λ (q : Param). is_memory q.put)) (stack_stays t.words sum.params (puts sum.params))
      ∙ ap (λ ps. map (λ (q : Param). is_memory q.put) (filter (λ (q : Param). q.stack) ps)) (sym t.params);
}
