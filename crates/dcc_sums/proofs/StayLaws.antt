-- A program where arguments and values given back go keeps its flow, its calls and its frames.
use Rattle.std.proofs.Common.{◌≡◌, ℕ, suc, Bool, true, false, cond, ◌&&◌, ◌||◌, List, [], ◌∷◌, Option, Some, None, refl, sym, ap, ap₂, ◌∙◌, subst, map, slice_get, find, flat_map}
use Rattle.std.specs.Prelude.{◌==◌, option_map, filter}
use Rattle.std.specs.List.{list_any}
use Rattle.std.proofs.lemmas.Option.{slice_get-map}
use Rattle.dcc_ir.specs.declared.syntax.Param.{Param}
use Rattle.dcc_ir.specs.Tree.{Stmt, Call, Exit, Ret, Block, Graph, Program, Summary}
use Rattle.dcc_ir.specs.WellFormed.{is_memory}
use Rattle.dcc_ir.specs.Flow.{Flow, targets, stands_at, has_edge, first_address, flow_of, graph_or_none, flow_at, IsContraction}
use Rattle.dcc_ir.specs.Run.{graph_at}
use Rattle.dcc_ir.specs.Keeps.{calls_of, block_or_none, calls_at, KeepsRuns, KeepsInOne, KeepsFrame}
use Rattle.dcc_ir.specs.Trimmed.{Trim, kept, trim_stmt, trim_exit, trim_block, trim_graph, trimmed}
use Rattle.dcc_ir.proofs.FlowLaws.{contraction_refl}
use Rattle.dcc_ir.proofs.KeepsLaws.{flow_law}
use Rattle.dcc_ir.proofs.PathLaws.{reached_has, clash}
use Rattle.dcc_ir.proofs.passes.FormLaws.{changed_at, same_entries}
use Rattle.dcc_sums.proofs.KeptLaws.{later}
use Rattle.dcc_ir.proofs.GraphLaws.{found_again}
use Rattle.dcc_ir.proofs.passes.LocalLaws.{some_same}
use Rattle.dcc_sums.specs.Localised.{sets_one_of, is_taken, summary_at, trim_by, localised}
use mathlib.Core.Path.{fun_ext}

-- Frames.

-- the stack params stay where all of them do
stack_stays : (stays : ℕ → Bool) (ps : List Param) → ((k : ℕ) (q : Param) → slice_get ps k ≡ Some q → q.stack ≡ true → stays k ≡ true) → filter (λ (q : Param). q.stack) (kept stays ps) ≡ filter (λ (q : Param). q.stack) ps
stack_stays stays [] all = refl
stack_stays stays (p ∷ ps) all = go (stays 0) refl p.stack refl (stack_stays (later stays) ps (λ k q e. all (suc k) q e))
  where
    go : (b : Bool) → stays 0 ≡ b → (c : Bool) → p.stack ≡ c → filter (λ (q : Param). q.stack) (kept (later stays) ps) ≡ filter (λ (q : Param). q.stack) ps →
        filter (λ (q : Param). q.stack) (cond b (p ∷ kept (later stays) ps) (kept (later stays) ps)) ≡ cond p.stack (p ∷ filter (λ (q : Param). q.stack) ps) (filter (λ (q : Param). q.stack) ps)
    go true e c is rest = ap (λ l. cond p.stack (p ∷ l) l) rest
    go false e true is rest = let t = all 0 p refl is in absurd (cc)
    go false e false is rest = rest ∙ sym (ap (λ x. cond x (p ∷ filter (λ (q : Param). q.stack) ps) (filter (λ (q : Param). q.stack) ps)) is)

module _ (trim : Trim) where
  -- Flow.

  targets_stay : (entry : ℕ) (exit : Exit) → targets (trim_exit trim entry exit) ≡ targets exit
  targets_stay entry (Ret values) = refl
  targets_stay entry exit = refl

  module _ (entry : ℕ) where
    abbrev turned : List Block → List Block
    turned bs = map (trim_block trim entry) bs

    first_stays : (bs : List Block) → first_address (turned bs) ≡ first_address bs
    first_stays [] = refl
    first_stays (b ∷ bs) = refl

    stands_stays : (bs : List Block) (k c : ℕ) → stands_at (slice_get (turned bs) k) c ≡ stands_at (slice_get bs k) c
    stands_stays bs k c = ap (λ o. stands_at o c) (slice_get-map (trim_block trim entry) bs k) ∙ go (slice_get bs k)
      where
        go : (o : Option Block) → stands_at (option_map (trim_block trim entry) o) c ≡ stands_at o c
        go (Some b) = refl
        go None = refl

    has_stays : (bs : List Block) (a : ℕ) → list_any (λ (b : Block). b.at == a) (turned bs) ≡ list_any (λ (b : Block). b.at == a) bs
    has_stays [] a = refl
    has_stays (b ∷ bs) a = ap (λ t. (b.at == a) || t) (has_stays bs a)

    edge_stays : (bs : List Block) (b : Block) (c : ℕ) → has_edge (turned bs) (trim_block trim entry b) c ≡ has_edge bs b c
    edge_stays bs b c =
        ap (list_any (λ place. stands_at (slice_get (turned bs) place) c)) (targets_stay entry b.exit)
        ∙ ap (λ f. list_any f (targets b.exit)) (fun_ext (λ place. stands_stays bs place c))

    goes_stays : (all bs : List Block) (a c : ℕ) → list_any (λ (b : Block). (b.at == a) && has_edge (turned all) b c) (turned bs) ≡ list_any (λ (b : Block). (b.at == a) && has_edge all b c) bs
    goes_stays all [] a c = refl
    goes_stays all (b ∷ bs) a c = ap₂ (λ x y. ((b.at == a) && x) || y) (edge_stays all b c) (goes_stays all bs a c)

  flow_stays : (g : Graph) → flow_of (trim_graph trim g) ≡ flow_of g
  flow_stays g =
      let start = first_stays g.entry g.blocks in
      let has = fun_ext (has_stays g.entry g.blocks) in
      let goes = fun_ext (λ a. fun_ext (goes_stays g.entry g.blocks g.blocks a)) in
      λ i. record { start = start i; has = has i; goes = goes i }

  -- Calls.

  stmts_stay : (stmts : List Stmt) → flat_map calls_of (map (trim_stmt trim) stmts) ≡ flat_map calls_of stmts
  stmts_stay [] = refl
  stmts_stay (Call results entry arguments depth ∷ stmts) = ap (λ l. (entry, depth) ∷ l) (stmts_stay stmts)
  stmts_stay (stmt ∷ stmts) = stmts_stay stmts

  calls_stay : (entry at : ℕ) (bs : List Block) → flat_map calls_of (block_or_none (find (λ (b : Block). b.at == at) (map (trim_block trim entry) bs))).stmts
      ≡ flat_map calls_of (block_or_none (find (λ (b : Block). b.at == at) bs)).stmts
  calls_stay entry at [] = refl
  calls_stay entry at (b ∷ bs) = go (b.at == at) (calls_stay entry at bs)
    where
      go : (t : Bool) → flat_map calls_of (block_or_none (find (λ (b : Block). b.at == at) (map (trim_block trim entry) bs))).stmts ≡ flat_map calls_of (block_or_none (find (λ (b : Block). b.at == at) bs)).stmts →
          flat_map calls_of (block_or_none (cond t (Some (trim_block trim entry b)) (find (λ (b : Block). b.at == at) (map (trim_block trim entry) bs)))).stmts
          ≡ flat_map calls_of (block_or_none (cond t (Some b) (find (λ (b : Block). b.at == at) bs))).stmts
      go true rest = stmts_stay b.stmts
      go false rest = rest

  module _ (p : Program) where
    graph_there : (entry : ℕ) → graph_at (trimmed trim p).graphs entry ≡ option_map (trim_graph trim) (graph_at p.graphs entry)
    graph_there entry = changed_at (trim_graph trim) p.graphs entry (λ g c. refl)

    flows_stay : (entry : ℕ) → flow_at (trimmed trim p) entry ≡ flow_at p entry
    flows_stay entry = ap (λ o. flow_of (graph_or_none o)) (graph_there entry) ∙ go (graph_at p.graphs entry)
      where
        go : (o : Option Graph) → flow_of (graph_or_none (option_map (trim_graph trim) o)) ≡ flow_of (graph_or_none o)
        go (Some g) = flow_stays g
        go None = refl

    all_calls_stay : (entry at : ℕ) → calls_at (trimmed trim p) entry at ≡ calls_at p entry at
    all_calls_stay entry at = ap (λ o. calls_in (graph_or_none o)) (graph_there entry) ∙ go (graph_at p.graphs entry)
      where
        calls_in : Graph → List (ℕ × ℕ)
        calls_in g = flat_map calls_of (block_or_none (find (λ (b : Block). b.at == at) g.blocks)).stmts

        go : (o : Option Graph) → calls_in (graph_or_none (option_map (trim_graph trim) o)) ≡ calls_in (graph_or_none o)
        go (Some g) = calls_stay g.entry at g.blocks
        go None = refl

    still_there : (entry a : ℕ) → (flow_at p entry).has a ≡ true → (flow_at (trimmed trim p) entry).has a ≡ true
    still_there entry a has = ap (λ (flow : Flow). flow.has a) (flows_stay entry) ∙ has

    -- where the runs are kept, all is
    pub kept_whole : KeepsRuns p (trimmed trim p) → KeepsInOne p (trimmed trim p)
    kept_whole runs = record {
      keeps = record {
        entries = same_entries (trim_graph trim) p.graphs (λ g c. refl);
        runs = runs;
        flow = λ entry. subst (IsContraction (flow_at p entry)) (sym (flows_stay entry)) (contraction_refl (flow_at p entry) (flow_law p entry));
        calls = λ entry. record {
          same = λ a r has. all_calls_stay entry a;
          kept = λ a r n. still_there entry a (reached_has (flow_at p entry) (flow_law p entry) a r);
          after = λ a b r n e. still_there entry b ((flow_law p entry).head a b e);
        };
      };
      edges = λ entry a b c ra rb gone e f. absurd (clash (still_there entry c ((flow_law p entry).head a c e)) gone);
    }

-- The graphs of the localised program keep their frames.
pub frame_stays : (p : Program) (sums : List Summary) (entry : ℕ) (g g' : Graph) → graph_at p.graphs entry ≡ Some g → graph_at (localised sums p).graphs entry ≡ Some g' → KeepsFrame g g'
frame_stays p sums entry g g' found found' =
    let trim = trim_by p.graphs sums in
    let same = some_same (trim_graph trim g) g' (sym (graph_there trim p entry ∙ ap (option_map (trim_graph trim)) found) ∙ found') in
    subst (KeepsFrame g) same (record {
      entry = refl;
      local = refl;
      stack = ap (map (λ (q : Param). is_memory q.put)) (stack_stays (trim.takes g.entry) g.params (λ k q there stack.
          let params = ap (λ o. (graph_or_none o).params) (found_again p.graphs entry g found) in
          ap (λ ps. is_taken (summary_at p.graphs sums g.entry).params (slice_get ps k)) params ∙ ap (is_taken (summary_at p.graphs sums g.entry).params) there
          ∙ ap (λ b. b || sets_one_of (summary_at p.graphs sums g.entry).params q.put) stack));
    })
