-- A well-formed program is so still where arguments and values given back have gone.
use Rattle.std.proofs.Common.{◌≡◌, ℕ, ◌<◌, Bool, true, false, cond, ◌&&◌, ◌||◌, not, List, [], ◌∷◌, ◌++◌, length, refl, sym, ap, ap₂, ◌∙◌, subst, map, take, drop, flat_map}
use Rattle.std.specs.Prelude.{if◌then◌else◌, ◌==◌, option_map, All, Contains, nat_lt}
use Rattle.std.specs.List.{list_all, list_any}
use Rattle.std.proofs.lemmas.List.{length-map, take-map, drop-map}
use Rattle.std.proofs.lemmas.List.Elements.{All-map, All-weaker}
use Rattle.dcc_ir.specs.declared.syntax.Param.{Param}
use Rattle.dcc_ir.specs.Tree.{Stmt, Set, Fetch, Store, Div, Call, Dos, Exit, Goto, If, Switch, Ret, Stop, Block, Graph, Program}
use Rattle.dcc_ir.specs.Location.{location_width}
use Rattle.dcc_ir.specs.Value.{width_of}
use Rattle.dcc_ir.specs.WellFormed.{is_location, is_expr, is_stmt, is_exit, is_block, is_jump, jumps_after_call, put_width, is_put, is_param_list, is_memory, memory_params_last, all_differ, ret_widths, all_ret_widths, IsGraph, IsCalling}
use Rattle.dcc_ir.specs.Run.{graph_at, is_call}
use Rattle.dcc_ir.specs.Trimmed.{Trim, kept, trim_stmt, trim_exit, trim_block, trim_graph, trimmed}
use Rattle.dcc_ir.proofs.FitLaws.{both}
use Rattle.dcc_ir.proofs.GraphLaws.{found_entry}
use Rattle.dcc_ir.proofs.LocationLaws.{Contains-here, Contains-later, Contains-none, Contains-cases}
use Rattle.dcc_ir.proofs.passes.FormLaws.{changed_at, same_entries}
use Rattle.dcc_sums.proofs.KeptLaws.{later, map-kept, kept-passes}
use Rattle.dcc_sums.specs.Laws.{TrimmedIsFormed}

-- Lists of params.

module _ (bits : List ℕ) where
  listed-kept : (stays : ℕ → Bool) (ps : List Param) → is_param_list bits ps ≡ true → is_param_list bits (kept stays ps) ≡ true
  listed-kept stays [] h = refl
  listed-kept stays (p ∷ ps) h = go (stays 0) (listed-kept (later stays) ps parts.1)
    where
      parts : ((if p.stack then put_width bits p.put == 16 else (not (is_memory p.put) && list_all (λ q. not q.stack) ps)) ≡ true) × (is_param_list bits ps ≡ true)
      parts = both _ (is_param_list bits ps) h

      first : (b : Bool) → (if b then put_width bits p.put == 16 else (not (is_memory p.put) && list_all (λ q. not q.stack) ps)) ≡ true →
          (if b then put_width bits p.put == 16 else (not (is_memory p.put) && list_all (λ q. not q.stack) (kept (later stays) ps))) ≡ true
      first true e = e
      first false e =
          let two = both (not (is_memory p.put)) (list_all (λ (q : Param). not q.stack) ps) e in
          ap₂ (λ a b. a && b) two.0 (kept-passes (λ (q : Param). not q.stack) (later stays) ps two.1)

      go : (b : Bool) → is_param_list bits (kept (later stays) ps) ≡ true → is_param_list bits (cond b (p ∷ kept (later stays) ps) (kept (later stays) ps)) ≡ true
      go true rest = ap₂ (λ a b. a && b) (first p.stack parts.0) rest
      go false rest = rest

last-kept : (stays : ℕ → Bool) (ps : List Param) → memory_params_last ps ≡ true → memory_params_last (kept stays ps) ≡ true
last-kept stays [] h = refl
last-kept stays (p ∷ ps) h = go (stays 0) (last-kept (later stays) ps parts.1)
  where
    parts : ((not (is_memory p.put) || list_all (λ q. not q.stack || is_memory q.put) ps) ≡ true) × (memory_params_last ps ≡ true)
    parts = both _ (memory_params_last ps) h

    first : (b : Bool) → (b || list_all (λ q. not q.stack || is_memory q.put) ps) ≡ true → (b || list_all (λ q. not q.stack || is_memory q.put) (kept (later stays) ps)) ≡ true
    first true e = refl
    first false e = kept-passes (λ (q : Param). not q.stack || is_memory q.put) (later stays) ps e

    go : (b : Bool) → memory_params_last (kept (later stays) ps) ≡ true → memory_params_last (cond b (p ∷ kept (later stays) ps) (kept (later stays) ps)) ≡ true
    go true rest = ap₂ (λ a b. a && b) (first (not (is_memory p.put)) parts.0) rest
    go false rest = rest

-- an element of a mapped list is made of one of the list
mapped_from : {A B : Type 0} (f : A → B) (xs : List A) (y : B) → Contains (map f xs) y → (x : A) × Contains xs x × (f x ≡ y)
mapped_from f [] y c = absurd (Contains-none y c)
mapped_from f (x ∷ xs) y c = Contains-cases (f x) (map f xs) y _ (λ e. (x, Contains-here x xs, e))
    (λ d. let from = mapped_from f xs y d in (from.0, Contains-later x xs from.0 from.1, from.2)) c

module _ (trim : Trim) where
  -- Blocks.

  call_still : (stmt : Stmt) → is_call (trim_stmt trim stmt) ≡ is_call stmt
  call_still (Call results entry arguments depth) = refl
  call_still stmt = refl

  jump_still : (entry : ℕ) (exit : Exit) → is_jump (trim_exit trim entry exit) ≡ is_jump exit
  jump_still entry (Ret values) = refl
  jump_still entry exit = refl

  any_still : (stmts : List Stmt) → list_any is_call (map (trim_stmt trim) stmts) ≡ list_any is_call stmts
  any_still [] = refl
  any_still (stmt ∷ stmts) = ap₂ (λ a b. a || b) (call_still stmt) (any_still stmts)

  jumps_still : (entry : ℕ) (stmts : List Stmt) (exit : Exit) → jumps_after_call (map (trim_stmt trim) stmts) (trim_exit trim entry exit) ≡ jumps_after_call stmts exit
  jumps_still entry [] exit = refl
  jumps_still entry (stmt ∷ stmts) exit =
      ap₂ (λ a (b : Bool × Bool). if a then b.0 else b.1) (call_still stmt)
      (ap₂ (λ a b. (a, b)) (ap₂ (λ a b. not a && b) (any_still stmts) (jump_still entry exit)) (jumps_still entry stmts exit))

  stmt_formed : (bits : List ℕ) (stmt : Stmt) → is_stmt bits stmt ≡ true → is_stmt bits (trim_stmt trim stmt) ≡ true
  stmt_formed bits (Call results entry arguments depth) h =
      let two = both (list_all (is_location bits) results && list_all (is_expr bits) arguments) (nat_lt depth 65536) h in
      let lists = both (list_all (is_location bits) results) (list_all (is_expr bits) arguments) two.0 in
      ap₂ (λ a b. a && b) (ap₂ (λ a b. a && b) (kept-passes (is_location bits) (trim.gives entry) results lists.0) (kept-passes (is_expr bits) (trim.takes entry) arguments lists.1)) two.1
  stmt_formed bits (Set location e) h = h
  stmt_formed bits (Fetch location width address) h = h
  stmt_formed bits (Store width address e) h = h
  stmt_formed bits (Div location e) h = h
  stmt_formed bits (Dos number place argument) h = h

  stmts_formed : (bits : List ℕ) (stmts : List Stmt) → list_all (is_stmt bits) stmts ≡ true → list_all (is_stmt bits) (map (trim_stmt trim) stmts) ≡ true
  stmts_formed bits [] h = refl
  stmts_formed bits (stmt ∷ stmts) h =
      let parts = both (is_stmt bits stmt) (list_all (is_stmt bits) stmts) h in
      ap₂ (λ a b. a && b) (stmt_formed bits stmt parts.0) (stmts_formed bits stmts parts.1)

  exit_formed : (bits : List ℕ) (count entry : ℕ) (exit : Exit) → is_exit bits count exit ≡ true → is_exit bits count (trim_exit trim entry exit) ≡ true
  exit_formed bits count entry (Ret values) h = kept-passes (is_expr bits) (trim.gives entry) values h
  exit_formed bits count entry (Goto place) h = h
  exit_formed bits count entry (If test one other) h = h
  exit_formed bits count entry (Switch e places) h = h
  exit_formed bits count entry Stop h = h

  blocks_formed : (bits : List ℕ) (count entry : ℕ) (blocks : List Block) → list_all (is_block bits count) blocks ≡ true → list_all (is_block bits count) (map (trim_block trim entry) blocks) ≡ true
  blocks_formed bits count entry [] h = refl
  blocks_formed bits count entry (b ∷ blocks) h =
      let parts = both (is_block bits count b) (list_all (is_block bits count) blocks) h in
      let two = both (list_all (is_stmt bits) b.stmts) (is_exit bits count b.exit) parts.0 in
      ap₂ (λ a b. a && b) (ap₂ (λ a b. a && b) (stmts_formed bits b.stmts two.0) (exit_formed bits count entry b.exit two.1)) (blocks_formed bits count entry blocks parts.1)

  addresses_still : (entry : ℕ) (blocks : List Block) → map (λ (b : Block). b.at) (map (trim_block trim entry) blocks) ≡ map (λ (b : Block). b.at) blocks
  addresses_still entry [] = refl
  addresses_still entry (b ∷ blocks) = ap (λ l. b.at ∷ l) (addresses_still entry blocks)

  graph_formed : (g : Graph) → IsGraph g → IsGraph (trim_graph trim g)
  graph_formed g is = record {
    begins = subst (λ n. 0 < n) (sym (length-map g.blocks (trim_block trim g.entry))) is.begins;
    entry = is.entry;
    offsets = All-map (λ (b : Block). b.at < 65536) (trim_block trim g.entry) g.blocks is.offsets;
    jumps = All-map (λ (b : Block). jumps_after_call b.stmts b.exit ≡ true) (trim_block trim g.entry) g.blocks
        (All-weaker (λ (b : Block). jumps_after_call b.stmts b.exit ≡ true) (λ (b : Block). jumps_after_call (map (trim_stmt trim) b.stmts) (trim_exit trim g.entry b.exit) ≡ true)
        (λ b e. jumps_still g.entry b.stmts b.exit ∙ e) g.blocks is.jumps);
    addresses = ap all_differ (addresses_still g.entry g.blocks) ∙ is.addresses;
    bits = is.bits;
    params = kept-passes (λ (q : Param). is_put g.bits q.put) (trim.takes g.entry) g.params is.params;
    blocks = subst (λ n. list_all (is_block g.bits n) (map (trim_block trim g.entry) g.blocks) ≡ true) (sym (length-map g.blocks (trim_block trim g.entry)))
        (blocks_formed g.bits (length g.blocks) g.entry g.blocks is.blocks);
  }

  -- What is given back.

  widths_kept : (bits : List ℕ) (entry : ℕ) (exit : Exit) → ret_widths bits (trim_exit trim entry exit) ≡ map (kept (trim.gives entry)) (ret_widths bits exit)
  widths_kept bits entry (Ret values) = ap (λ l. l ∷ []) (map-kept (width_of bits) (trim.gives entry) values)
  widths_kept bits entry (Goto place) = refl
  widths_kept bits entry (If test one other) = refl
  widths_kept bits entry (Switch e places) = refl
  widths_kept bits entry Stop = refl

  map_joined : {A B : Type 0} (f : A → B) (xs ys : List A) → map f (xs ++ ys) ≡ map f xs ++ map f ys
  map_joined f [] ys = refl
  map_joined f (x ∷ xs) ys = ap (λ l. f x ∷ l) (map_joined f xs ys)

  rets_kept : (bits : List ℕ) (entry : ℕ) (blocks : List Block) → flat_map (λ (b : Block). ret_widths bits b.exit) (map (trim_block trim entry) blocks)
      ≡ map (kept (trim.gives entry)) (flat_map (λ (b : Block). ret_widths bits b.exit) blocks)
  rets_kept bits entry [] = refl
  rets_kept bits entry (b ∷ blocks) =
      ap₂ (λ x y. x ++ y) (widths_kept bits entry b.exit) (rets_kept bits entry blocks)
      ∙ sym (map_joined (kept (trim.gives entry)) (ret_widths bits b.exit) (flat_map (λ (b : Block). ret_widths bits b.exit) blocks))

  all_kept : (P : List ℕ → Type 0) (g : Graph) → All (λ widths. P (kept (trim.gives g.entry) widths)) (all_ret_widths g) → All P (all_ret_widths (trim_graph trim g))
  all_kept P g all = subst (All P) (sym (rets_kept g.bits g.entry g.blocks)) (All-map P (kept (trim.gives g.entry)) (all_ret_widths g) all)

  -- Calls.

  call_formed : (p : Program) (caller : Graph) (stmt : Stmt) → IsCalling p caller stmt → IsCalling (trimmed trim p) (trim_graph trim caller) (trim_stmt trim stmt)
  call_formed p caller (Call results entry arguments depth) call =
      let same : call.callee.entry ≡ entry = found_entry (drop 1 p.graphs) entry call.callee call.named in
      record {
        callee = trim_graph trim call.callee;
        named = ap (λ graphs. graph_at graphs entry) (drop-map (trim_graph trim) 1 p.graphs)
            ∙ changed_at (trim_graph trim) (drop 1 p.graphs) entry (λ g c. refl) ∙ ap (option_map (trim_graph trim)) call.named;
        taken = map-kept (width_of caller.bits) (trim.takes entry) arguments ∙ ap (kept (trim.takes entry)) call.taken
            ∙ ap (λ n. kept (trim.takes n) (map (λ (q : Param). put_width call.callee.bits q.put) call.callee.params)) (sym same)
            ∙ sym (map-kept (λ (q : Param). put_width call.callee.bits q.put) (trim.takes call.callee.entry) call.callee.params);
        given = all_kept (λ widths. widths ≡ map (location_width caller.bits) (kept (trim.gives entry) results)) call.callee
            (All-weaker (λ widths. widths ≡ map (location_width caller.bits) results)
            (λ widths. kept (trim.gives call.callee.entry) widths ≡ map (location_width caller.bits) (kept (trim.gives entry) results))
            (λ widths e. ap (λ n. kept (trim.gives n) widths) same ∙ ap (kept (trim.gives entry)) e ∙ sym (map-kept (location_width caller.bits) (trim.gives entry) results))
            (all_ret_widths call.callee) call.given);
      }
  call_formed p caller (Set location e) call = tt
  call_formed p caller (Fetch location width address) call = tt
  call_formed p caller (Store width address e) call = tt
  call_formed p caller (Div location e) call = tt
  call_formed p caller (Dos number place argument) call = tt

  calls_formed : (p : Program) (g : Graph) → All (λ b. All (IsCalling p g) b.stmts) g.blocks → All (λ b. All (IsCalling (trimmed trim p) (trim_graph trim g)) b.stmts) (trim_graph trim g).blocks
  calls_formed p g all =
      let Q = IsCalling (trimmed trim p) (trim_graph trim g) in
      All-map (λ (b : Block). All Q b.stmts) (trim_block trim g.entry) g.blocks
      (All-weaker (λ (b : Block). All (IsCalling p g) b.stmts) (λ (b : Block). All Q (map (trim_stmt trim) b.stmts))
      (λ b calls. All-map Q (trim_stmt trim) b.stmts (All-weaker (IsCalling p g) (λ stmt. Q (trim_stmt trim stmt)) (call_formed p g) b.stmts calls)) g.blocks all)

  -- what holds of the graphs holds of the trimmed ones
  all_trimmed : (P Q : Graph → Type 0) (graphs : List Graph) → ((g : Graph) → P g → Q (trim_graph trim g)) → All P graphs → All Q (map (trim_graph trim) graphs)
  all_trimmed P Q graphs to all = All-map Q (trim_graph trim) graphs (All-weaker P (λ g. Q (trim_graph trim g)) to graphs all)

-- the Rets of the graph give values of one list of widths
abbrev One : Graph → Type 0
One g = (a b : List ℕ) → Contains (all_ret_widths g) a → Contains (all_ret_widths g) b → a ≡ b

pub trimmed-formed : TrimmedIsFormed
trimmed-formed trim p formed = record {
  image = formed.image;
  lo = formed.lo;
  hi = formed.hi;
  begins = subst (λ n. 0 < n) (sym (length-map p.graphs (trim_graph trim))) formed.begins;
  entries = ap all_differ (same_entries (trim_graph trim) p.graphs (λ g c. refl)) ∙ formed.entries;
  graphs = all_trimmed trim IsGraph IsGraph p.graphs (graph_formed trim) formed.graphs;
  params = all_trimmed trim (λ g. is_param_list g.bits g.params ≡ true) (λ g. is_param_list g.bits g.params ≡ true) p.graphs
      (λ g e. listed-kept g.bits (trim.takes g.entry) g.params e) formed.params;
  memory_last = all_trimmed trim (λ g. memory_params_last g.params ≡ true) (λ g. memory_params_last g.params ≡ true) p.graphs
      (λ g e. last-kept (trim.takes g.entry) g.params e) formed.memory_last;
  start = subst (All (λ (g : Graph). g.params ≡ [])) (sym (take-map (trim_graph trim) 1 p.graphs))
      (all_trimmed trim (λ g. g.params ≡ []) (λ g. g.params ≡ []) (take 1 p.graphs) (λ g e. ap (kept (trim.takes g.entry)) e) formed.start);
  start_rets = subst (All (λ (g : Graph). All (λ widths. widths ≡ []) (all_ret_widths g))) (sym (take-map (trim_graph trim) 1 p.graphs))
      (all_trimmed trim (λ g. All (λ widths. widths ≡ []) (all_ret_widths g)) (λ g. All (λ widths. widths ≡ []) (all_ret_widths g)) (take 1 p.graphs)
      (λ g all. all_kept trim (λ widths. widths ≡ []) g
      (All-weaker (λ widths. widths ≡ []) (λ widths. kept (trim.gives g.entry) widths ≡ []) (λ widths e. ap (kept (trim.gives g.entry)) e) (all_ret_widths g) all)) formed.start_rets);
  rets = all_trimmed trim One One p.graphs alike formed.rets;
  calls = all_trimmed trim (λ g. All (λ b. All (IsCalling p g) b.stmts) g.blocks) (λ g. All (λ b. All (IsCalling (trimmed trim p) g) b.stmts) g.blocks) p.graphs
      (calls_formed trim p) formed.calls;
}
  where
    alike : (g : Graph) → One g → One (trim_graph trim g)
    alike g one a b c d =
        let rets = rets_kept trim g.bits g.entry g.blocks in
        let f = kept (trim.gives g.entry) in
        let from = mapped_from f (all_ret_widths g) a (subst (λ l. Contains l a) rets c) in
        let other = mapped_from f (all_ret_widths g) b (subst (λ l. Contains l b) rets d) in
        sym from.2 ∙ ap f (one from.0 other.0 from.1 other.1) ∙ other.2
