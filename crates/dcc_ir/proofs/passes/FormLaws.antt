-- A program whose graphs are changed, each in its form, stays well formed, with its flow and its calls; so it is kept where
-- its runs are.
use Rattle.std.proofs.Common.{◌≡◌, ℕ, zero, suc, ◌<◌, Bool, true, false, cond, ◌&&◌, ◌||◌, not, List, [], ◌∷◌, ◌++◌, length, Option, Some, None, refl, sym, ap, ap₂, ◌∙◌, subst, true≢false, map, take, drop, find, slice_get, flat_map, get_or, Contains, eqb-true, eq-eqb, ltb-true, arith, append-nil}
use Rattle.std.specs.Prelude.{if◌then◌else◌, ◌==◌, option_map, All, nat_lt}
use Rattle.std.specs.List.{AllZip, list_all, list_any}
use Rattle.std.proofs.lemmas.List.{length-map, take-map, drop-map}
use Rattle.std.proofs.lemmas.List.Elements.{All-nil, All-cons, All-head, All-tail, All-contains, All-map, All-weaker}
use Rattle.dcc_ir.specs.declared.syntax.Loc.{Loc}
use Rattle.dcc_ir.specs.declared.syntax.Loc.TheVariants.{Half, Flag, Cell, Temp}
use Rattle.dcc_ir.specs.declared.syntax.Put.{Put}
use Rattle.dcc_ir.specs.declared.syntax.Put.TheVariants.{Memory, One, Two}
use Rattle.dcc_ir.specs.declared.syntax.Param.{Param}
use Rattle.dcc_ir.specs.Tree.{Stmt, Set, Fetch, Store, Div, Call, Dos, Block, Graph, Program}
use Rattle.dcc_ir.specs.Location.{location_width}
use Rattle.dcc_ir.specs.Value.{width_of}
use Rattle.dcc_ir.specs.WellFormed.{is_location, is_expr, is_stmt, is_exit, is_block, put_width, is_put, is_param_list, is_memory, memory_params_last, all_differ, ret_widths, all_ret_widths, IsGraph, IsCall, IsCalling, IsProgram}
use Rattle.dcc_ir.specs.Run.{graph_at}
use Rattle.dcc_ir.specs.Flow.{Flow, targets, stands_at, has_edge, first_address, flow_of, graph_or_none, flow_at, IsContraction}
use Rattle.dcc_ir.specs.Keeps.{calls_of, block_or_none, calls_at, KeepsRuns, KeepsInOne}
use Rattle.dcc_ir.specs.Replaced.{with_graph, IsKeptWith}
use Rattle.dcc_ir.specs.Passes.{param_widths}
use Rattle.dcc_ir.proofs.PathLaws.{reached_has, clash}
use Rattle.dcc_ir.proofs.FlowLaws.{contraction_refl}
use Rattle.dcc_ir.proofs.KeepsLaws.{flow_law}
use Rattle.dcc_ir.proofs.FitLaws.{both}
use Rattle.dcc_ir.proofs.GraphLaws.{or_there}
use Rattle.dcc_ir.proofs.LocationLaws.{Contains-here, Contains-later, Contains-none, Contains-cases}
use Rattle.dcc_ir.proofs.ReachedLaws.{found_contained, all_at}
use Rattle.dcc_ir.specs.Form.{Signature, signatures_of, BlockStays, GraphStays}
use Rattle.dcc_ir.proofs.ListLaws.{all_had}
use Rattle.dcc_ir.proofs.ZipLaws.{all_zipped, flat_zipped, any_zipped}
use mathlib.Core.Path.{fun_ext}

-- More temporaries.

pub get_more : (bits fresh : List ℕ) (n : ℕ) → n < length bits → get_or (bits ++ fresh) n 0 ≡ get_or bits n 0
get_more [] fresh n less = absurd (omega arith)
get_more (b ∷ bits) fresh zero less = refl
get_more (b ∷ bits) fresh (suc n) less = get_more bits fresh n (omega arith)

pub width_more : (bits fresh : List ℕ) (l : Loc) → is_location bits l ≡ true → location_width (bits ++ fresh) l ≡ location_width bits l
width_more bits fresh (Half r h) ok = refl
width_more bits fresh (Flag f) ok = refl
width_more bits fresh (Cell n h) ok = refl
width_more bits fresh (Temp n) ok = get_more bits fresh n (ltb-true n (length bits) ok)

put_more : (bits fresh : List ℕ) (put : Put) → is_put bits put ≡ true → put_width (bits ++ fresh) put ≡ put_width bits put
put_more bits fresh Memory ok = refl
put_more bits fresh (One l) ok = width_more bits fresh l ok
put_more bits fresh (Two low high) ok = refl

params_more : (bits fresh : List ℕ) (params : List Param) → list_all (λ q. is_put bits q.put) params ≡ true → map (λ (q : Param). put_width (bits ++ fresh) q.put) params ≡ map (λ (q : Param). put_width bits q.put) params
params_more bits fresh [] ok = refl
params_more bits fresh (q ∷ params) ok =
    let parts = both (is_put bits q.put) (list_all (λ (q : Param). is_put bits q.put) params) ok in
    ap₂ (λ n l. n ∷ l) (put_more bits fresh q.put parts.0) (params_more bits fresh params parts.1)

param_list_more : (bits fresh : List ℕ) (params : List Param) → list_all (λ q. is_put bits q.put) params ≡ true → is_param_list (bits ++ fresh) params ≡ is_param_list bits params
param_list_more bits fresh [] ok = refl
param_list_more bits fresh (q ∷ params) ok =
    let parts = both (is_put bits q.put) (list_all (λ (q : Param). is_put bits q.put) params) ok in
    ap₂ (λ n b. (if q.stack then n == 16 else (not (is_memory q.put) && list_all (λ (q : Param). not q.stack) params)) && b)
    (put_more bits fresh q.put parts.0) (param_list_more bits fresh params parts.1)

-- The graph.

module _ (g g' : Graph) (is : IsGraph g) (h : GraphStays g g') where
  abbrev Pairs : Block → Block → Type 0
  Pairs b b' = BlockStays g.bits g'.bits b b'

  pub widths_stay : param_widths g' ≡ param_widths g
  widths_stay =
      ap₂ (λ bits (params : List Param). map (λ (q : Param). put_width bits q.put) params) h.bits h.params ∙ params_more g.bits h.fresh g.params is.params

  pub rets_stay : all_ret_widths g' ≡ all_ret_widths g
  rets_stay = flat_zipped Pairs (λ (b : Block). ret_widths g.bits b.exit) (λ (b : Block). ret_widths g'.bits b.exit) (λ b b' pair. pair.given) g.blocks g'.blocks h.blocks

  param_list_stays : is_param_list g'.bits g'.params ≡ is_param_list g.bits g.params
  param_list_stays = ap₂ is_param_list h.bits h.params ∙ param_list_more g.bits h.fresh g.params is.params

  -- The flow of the changed graph.

  first_still : (bs bs' : List Block) → AllZip Pairs bs bs' → first_address bs' ≡ first_address bs
  first_still [] [] all = refl
  first_still [] (b' ∷ bs') all = absurd all
  first_still (b ∷ bs) [] all = absurd all
  first_still (b ∷ bs) (b' ∷ bs') all = all.0.at

  stands_still : (at : ℕ) (bs bs' : List Block) (k : ℕ) → AllZip Pairs bs bs' → stands_at (slice_get bs' k) at ≡ stands_at (slice_get bs k) at
  stands_still at [] [] k all = refl
  stands_still at [] (b' ∷ bs') k all = absurd all
  stands_still at (b ∷ bs) [] k all = absurd all
  stands_still at (b ∷ bs) (b' ∷ bs') zero all = ap (λ n. n == at) all.0.at
  stands_still at (b ∷ bs) (b' ∷ bs') (suc k) all = stands_still at bs bs' k all.1

  edges_still : (at : ℕ) (b b' : Block) → Pairs b b' → has_edge g'.blocks b' at ≡ has_edge g.blocks b at
  edges_still at b b' pair =
      ap (list_any (λ place. stands_at (slice_get g'.blocks place) at)) pair.targets_are
      ∙ ap (λ f. list_any f (targets b.exit)) (fun_ext (λ place. stands_still at g.blocks g'.blocks place h.blocks))

  has_still : (a : ℕ) → list_any (λ (b : Block). b.at == a) g'.blocks ≡ list_any (λ (b : Block). b.at == a) g.blocks
  has_still a = any_zipped Pairs (λ (b : Block). b.at == a) (λ (b : Block). b.at == a) (λ b b' pair. ap (λ n. n == a) pair.at) g.blocks g'.blocks h.blocks

  goes_still : (a c : ℕ) → (flow_of g').goes a c ≡ (flow_of g).goes a c
  goes_still a c =
      any_zipped Pairs (λ (b : Block). (b.at == a) && has_edge g.blocks b c) (λ (b : Block). (b.at == a) && has_edge g'.blocks b c)
      (λ b b' pair. ap₂ (λ x y. x && y) (ap (λ n. n == a) pair.at) (edges_still c b b' pair)) g.blocks g'.blocks h.blocks

  pub flow_still : flow_of g' ≡ flow_of g
  flow_still =
      let start = first_still g.blocks g'.blocks h.blocks in
      let has = fun_ext has_still in
      let goes = fun_ext (λ a. fun_ext (goes_still a)) in
      λ i. record { start = start i; has = has i; goes = goes i }

  -- the calls of a graph, by their entries and depths
  called : Signature → ℕ × ℕ
  called s = (s.entry, s.depth)

  calls_told : (bits : List ℕ) (stmts : List Stmt) → flat_map calls_of stmts ≡ map called (flat_map (signatures_of bits) stmts)
  unfolding called
  calls_told bits [] = refl
  calls_told bits (Call results entry arguments depth ∷ stmts) = ap (λ l. (entry, depth) ∷ l) (calls_told bits stmts)
  calls_told bits (Set location e ∷ stmts) = calls_told bits stmts
  calls_told bits (Fetch location width address ∷ stmts) = calls_told bits stmts
  calls_told bits (Store width address e ∷ stmts) = calls_told bits stmts
  calls_told bits (Div location e ∷ stmts) = calls_told bits stmts
  calls_told bits (Dos number place argument ∷ stmts) = calls_told bits stmts

  pub called_still : (b b' : Block) → Pairs b b' → flat_map calls_of b'.stmts ≡ flat_map calls_of b.stmts
  called_still b b' pair = calls_told g'.bits b'.stmts ∙ ap (map called) pair.calls ∙ sym (calls_told g.bits b.stmts)

  pub found_still : (at : ℕ) (bs bs' : List Block) → AllZip Pairs bs bs' →
      flat_map calls_of (block_or_none (find (λ (b : Block). b.at == at) bs')).stmts ≡ flat_map calls_of (block_or_none (find (λ (b : Block). b.at == at) bs)).stmts
  found_still at [] [] all = refl
  found_still at [] (b' ∷ bs') all = absurd all
  found_still at (b ∷ bs) [] all = absurd all
  found_still at (b ∷ bs) (b' ∷ bs') all =
      ap (λ n. flat_map calls_of (block_or_none (cond (n == at) (Some b') (find (λ (b : Block). b.at == at) bs'))).stmts) all.0.at
      ∙ elim (b.at == at) as (λ t. flat_map calls_of (block_or_none (cond t (Some b') (find (λ (b : Block). b.at == at) bs'))).stmts
      ≡ flat_map calls_of (block_or_none (cond t (Some b) (find (λ (b : Block). b.at == at) bs))).stmts) [
        | true ↦ called_still b b' all.0
        | false ↦ found_still at bs bs' all.1
      ]

-- a graph stays itself
pub stays_itself : (g : Graph) → GraphStays g g
stays_itself g = record { entry = refl; params = refl; local = refl; pushed = refl; fresh = []; bits = sym (append-nil g.bits); blocks = go g.blocks }
  where
    go : (bs : List Block) → AllZip (BlockStays g.bits g.bits) bs bs
    go [] = tt
    go (b ∷ bs) = (record { at = refl; targets_are = refl; jumps = refl; given = refl; calls = refl }, go bs)

-- Programs whose graphs are changed.

-- the program in which each graph is changed
abbrev pub changed : Program → (Graph → Graph) → Program
changed p change = record p { graphs = map change p.graphs }

module _ (change : Graph → Graph) where
  -- a graph and the changed one stand under one entry
  pub changed_at : (graphs : List Graph) (entry : ℕ) → ((g : Graph) → Contains graphs g → (change g).entry ≡ g.entry) → graph_at (map change graphs) entry ≡ option_map change (graph_at graphs entry)
  changed_at [] entry same = refl
  changed_at (g ∷ graphs) entry same =
      ap (λ n. cond (n == entry) (Some (change g)) (graph_at (map change graphs) entry)) (same g (Contains-here g graphs))
      ∙ elim (g.entry == entry) as (λ b. cond b (Some (change g)) (graph_at (map change graphs) entry) ≡ option_map change (cond b (Some g) (graph_at graphs entry))) [
        | true ↦ refl
        | false ↦ changed_at graphs entry (λ h c. same h (Contains-later g graphs h c))
      ]

  pub same_entries : (graphs : List Graph) → ((g : Graph) → Contains graphs g → (change g).entry ≡ g.entry) → map (λ (g : Graph). g.entry) (map change graphs) ≡ map (λ (g : Graph). g.entry) graphs
  same_entries [] same = refl
  same_entries (g ∷ graphs) same = ap₂ (λ n l. n ∷ l) (same g (Contains-here g graphs)) (same_entries graphs (λ h c. same h (Contains-later g graphs h c)))

module _ (p : Program) (change : Graph → Graph) (formed : IsProgram p) (stays : (g : Graph) → Contains p.graphs g → GraphStays g (change g))
    (fine : (g : Graph) → Contains p.graphs g → IsGraph (change g)) where
  abbrev after : Program
  after = changed p change

  entry_stays : (g : Graph) → Contains p.graphs g → (change g).entry ≡ g.entry
  entry_stays g c = (stays g c).entry

  -- what holds of the graphs holds of those in their places
  all_changed : (P Q : Graph → Type 0) (graphs : List Graph) → ((g : Graph) → Contains graphs g → Contains p.graphs g) → ((g : Graph) → Contains p.graphs g → P g → Q (change g)) → All P graphs → All Q (map change graphs)
  all_changed P Q graphs among to all = All-map Q change graphs (all_had (λ g. Q (change g)) graphs (λ g c. to g (among g c) (All-contains P graphs g all c)))

  known_first : (graphs : List Graph) (g : Graph) → Contains (take 1 graphs) g → Contains graphs g
  known_first [] g c = c
  known_first (x ∷ graphs) g c = Contains-cases x [] g (Contains (x ∷ graphs) g) (λ e. subst (Contains (x ∷ graphs)) e (Contains-here x graphs)) (λ d. absurd (Contains-none g d)) c

  known_rest : (graphs : List Graph) (g : Graph) → Contains (drop 1 graphs) g → Contains graphs g
  known_rest [] g c = c
  known_rest (x ∷ graphs) g c = Contains-later x graphs g c

  -- Calls.

  changed_named : (entry : ℕ) (callee : Graph) → graph_at (drop 1 p.graphs) entry ≡ Some callee → graph_at (drop 1 after.graphs) entry ≡ Some (change callee)
  changed_named entry callee named =
      ap (λ graphs. graph_at graphs entry) (drop-map change 1 p.graphs)
      ∙ changed_at change (drop 1 p.graphs) entry (λ x d. entry_stays x (known_rest p.graphs x d)) ∙ ap (option_map change) named

  graph_is : (g : Graph) → Contains p.graphs g → IsGraph g
  graph_is g c = All-contains IsGraph p.graphs g formed.graphs c

  -- a call that its graph and its callee agree on
  record Agrees (q : Program) (bits : List ℕ) (s : Signature) : Type 0 where
    callee : Graph
    named : graph_at (drop 1 q.graphs) s.entry ≡ Some callee
    taken : s.widths ≡ param_widths callee
    given : All (λ widths. widths ≡ map (location_width bits) s.results) (all_ret_widths callee)

  record Placed (bits : List ℕ) (s : Signature) : Type 0 where
    agrees : Agrees p bits s
    results : list_all (is_location bits) s.results ≡ true

  told_calls : (caller : Graph) (stmts : List Stmt) → All (IsCalling p caller) stmts → list_all (is_stmt caller.bits) stmts ≡ true → All (Placed caller.bits) (flat_map (signatures_of caller.bits) stmts)
  told_calls caller [] all ok = All-nil (Placed caller.bits)
  told_calls caller (Call results entry arguments depth ∷ stmts) all ok =
      let call : IsCall p caller results entry arguments = All-head (IsCalling p caller) (Call results entry arguments depth) stmts all in
      let parts = both (is_stmt caller.bits (Call results entry arguments depth)) (list_all (is_stmt caller.bits) stmts) ok in
      let two = both (list_all (is_location caller.bits) results && list_all (is_expr caller.bits) arguments) (nat_lt depth 65536) parts.0 in
      All-cons (Placed caller.bits) _ (flat_map (signatures_of caller.bits) stmts) (record {
        agrees = record { callee = call.callee; named = call.named; taken = call.taken; given = call.given };
        results = (both (list_all (is_location caller.bits) results) (list_all (is_expr caller.bits) arguments) two.0).0;
      })
      (told_calls caller stmts (All-tail (IsCalling p caller) (Call results entry arguments depth) stmts all) parts.1)
  told_calls caller (Set location e ∷ stmts) all ok = told_calls caller stmts (All-tail (IsCalling p caller) (Set location e) stmts all) (both (is_stmt caller.bits (Set location e)) (list_all (is_stmt caller.bits) stmts) ok).1
  told_calls caller (Fetch location width address ∷ stmts) all ok = told_calls caller stmts (All-tail (IsCalling p caller) (Fetch location width address) stmts all) (both (is_stmt caller.bits (Fetch location width address)) (list_all (is_stmt caller.bits) stmts) ok).1
  told_calls caller (Store width address e ∷ stmts) all ok = told_calls caller stmts (All-tail (IsCalling p caller) (Store width address e) stmts all) (both (is_stmt caller.bits (Store width address e)) (list_all (is_stmt caller.bits) stmts) ok).1
  told_calls caller (Div location e ∷ stmts) all ok = told_calls caller stmts (All-tail (IsCalling p caller) (Div location e) stmts all) (both (is_stmt caller.bits (Div location e)) (list_all (is_stmt caller.bits) stmts) ok).1
  told_calls caller (Dos number place argument ∷ stmts) all ok = told_calls caller stmts (All-tail (IsCalling p caller) (Dos number place argument) stmts all) (both (is_stmt caller.bits (Dos number place argument)) (list_all (is_stmt caller.bits) stmts) ok).1

  meant_calls : (q : Program) (caller : Graph) (stmts : List Stmt) → All (Agrees q caller.bits) (flat_map (signatures_of caller.bits) stmts) → All (IsCalling q caller) stmts
  meant_calls q caller [] all = All-nil (IsCalling q caller)
  meant_calls q caller (Call results entry arguments depth ∷ stmts) all =
      let rest = flat_map (signatures_of caller.bits) stmts in
      let signature : Signature = record { results = results; entry = entry; widths = map (width_of caller.bits) arguments; depth = depth } in
      let call : Agrees q caller.bits signature = All-head (Agrees q caller.bits) signature rest all in
      All-cons (IsCalling q caller) (Call results entry arguments depth) stmts (record { callee = call.callee; named = call.named; taken = call.taken; given = call.given })
      (meant_calls q caller stmts (All-tail (Agrees q caller.bits) signature rest all))
  meant_calls q caller (Set location e ∷ stmts) all = All-cons (IsCalling q caller) (Set location e) stmts tt (meant_calls q caller stmts all)
  meant_calls q caller (Fetch location width address ∷ stmts) all = All-cons (IsCalling q caller) (Fetch location width address) stmts tt (meant_calls q caller stmts all)
  meant_calls q caller (Store width address e ∷ stmts) all = All-cons (IsCalling q caller) (Store width address e) stmts tt (meant_calls q caller stmts all)
  meant_calls q caller (Div location e ∷ stmts) all = All-cons (IsCalling q caller) (Div location e) stmts tt (meant_calls q caller stmts all)
  meant_calls q caller (Dos number place argument ∷ stmts) all = All-cons (IsCalling q caller) (Dos number place argument) stmts tt (meant_calls q caller stmts all)

  results_more : (bits fresh : List ℕ) (results : List Loc) → list_all (is_location bits) results ≡ true → map (location_width (bits ++ fresh)) results ≡ map (location_width bits) results
  results_more bits fresh [] ok = refl
  results_more bits fresh (l ∷ results) ok =
      let parts = both (is_location bits l) (list_all (is_location bits) results) ok in
      ap₂ (λ n l. n ∷ l) (width_more bits fresh l parts.0) (results_more bits fresh results parts.1)

  -- a call is well formed in the program with the changed graph in its place
  placed_still : (g : Graph) (c : Contains p.graphs g) (s : Signature) → Placed g.bits s → Agrees after (change g).bits s
  placed_still g c s placed =
      let callee = placed.agrees.callee in
      let there = known_rest p.graphs callee (found_contained (λ x. x.entry == s.entry) (drop 1 p.graphs) callee placed.agrees.named) in
      let it = stays callee there in
      let here = stays g c in
      let results = ap (λ bits. map (location_width bits) s.results) here.bits ∙ results_more g.bits here.fresh s.results placed.results in
      record {
        callee = change callee;
        named = changed_named s.entry callee placed.agrees.named;
        taken = placed.agrees.taken ∙ sym (widths_stay callee (change callee) (graph_is callee there) it);
        given = subst (λ l. All (λ widths. widths ≡ l) (all_ret_widths (change callee))) (sym results)
            (subst (All (λ widths. widths ≡ map (location_width g.bits) s.results)) (sym (rets_stay callee (change callee) (graph_is callee there) it)) placed.agrees.given);
      }

  stmts_of : (g : Graph) → IsGraph g → All (λ b. list_all (is_stmt g.bits) b.stmts ≡ true) g.blocks
  stmts_of g is = all_had (λ b. list_all (is_stmt g.bits) b.stmts ≡ true) g.blocks (λ b c.
      (both (list_all (is_stmt g.bits) b.stmts) (is_exit g.bits (length g.blocks) b.exit) (all_at (is_block g.bits (length g.blocks)) g.blocks b is.blocks c)).0)

  -- what holds of two lists' elements at once
  all_both : {A : Type 0} (P Q : A → Type 0) (xs : List A) → All P xs → All Q xs → All (λ x. P x × Q x) xs
  all_both P Q xs ps qs = all_had (λ x. P x × Q x) xs (λ x c. (All-contains P xs x ps c, All-contains Q xs x qs c))

  calls_still : (g : Graph) → Contains p.graphs g → All (λ b. All (IsCalling p g) b.stmts) g.blocks → All (λ b. All (IsCalling after (change g)) b.stmts) (change g).blocks
  calls_still g c all =
      let it = stays g c in
      all_zipped (BlockStays g.bits (change g).bits) (λ b. All (IsCalling p g) b.stmts × (list_all (is_stmt g.bits) b.stmts ≡ true)) (λ b. All (IsCalling after (change g)) b.stmts)
      (λ b b' pair calls. meant_calls after (change g) b'.stmts (subst (All (Agrees after (change g).bits)) (sym pair.calls)
      (All-weaker (Placed g.bits) (Agrees after (change g).bits) (λ s placed. placed_still g c s placed) (flat_map (signatures_of g.bits) b.stmts) (told_calls g b.stmts calls.0 calls.1))))
      g.blocks (change g).blocks it.blocks
      (all_both (λ b. All (IsCalling p g) b.stmts) (λ b. list_all (is_stmt g.bits) b.stmts ≡ true) g.blocks all (stmts_of g (graph_is g c)))

  pub program_stays : IsProgram (changed p change)
  program_stays = record {
    image = formed.image;
    lo = formed.lo;
    hi = formed.hi;
    begins = subst (λ n. 0 < n) (sym (length-map p.graphs change)) formed.begins;
    entries = ap all_differ (same_entries change p.graphs entry_stays) ∙ formed.entries;
    graphs = all_changed IsGraph IsGraph p.graphs (λ g c. c) (λ g c is. fine g c) formed.graphs;
    params = all_changed (λ g. is_param_list g.bits g.params ≡ true) (λ g. is_param_list g.bits g.params ≡ true) p.graphs (λ g c. c)
        (λ g c e. param_list_stays g (change g) (graph_is g c) (stays g c) ∙ e) formed.params;
    memory_last = all_changed (λ g. memory_params_last g.params ≡ true) (λ g. memory_params_last g.params ≡ true) p.graphs (λ g c. c)
        (λ g c e. ap memory_params_last (stays g c).params ∙ e) formed.memory_last;
    start = subst (All (λ (g : Graph). g.params ≡ [])) (sym (take-map change 1 p.graphs))
        (all_changed (λ g. g.params ≡ []) (λ g. g.params ≡ []) (take 1 p.graphs) (known_first p.graphs) (λ g c e. (stays g c).params ∙ e) formed.start);
    start_rets = subst (All (λ (g : Graph). All (λ widths. widths ≡ []) (all_ret_widths g))) (sym (take-map change 1 p.graphs))
        (all_changed (λ g. All (λ widths. widths ≡ []) (all_ret_widths g)) (λ g. All (λ widths. widths ≡ []) (all_ret_widths g)) (take 1 p.graphs) (known_first p.graphs)
        (λ g c e. subst (All (λ widths. widths ≡ [])) (sym (rets_stay g (change g) (graph_is g c) (stays g c))) e) formed.start_rets);
    rets = all_changed (λ g. (a b : List ℕ) → Contains (all_ret_widths g) a → Contains (all_ret_widths g) b → a ≡ b)
        (λ g. (a b : List ℕ) → Contains (all_ret_widths g) a → Contains (all_ret_widths g) b → a ≡ b) p.graphs (λ g c. c)
        (λ g c e. subst (λ widths. (a b : List ℕ) → Contains widths a → Contains widths b → a ≡ b) (sym (rets_stay g (change g) (graph_is g c) (stays g c))) e) formed.rets;
    calls = all_changed (λ g. All (λ b. All (IsCalling p g) b.stmts) g.blocks) (λ g. All (λ b. All (IsCalling after g) b.stmts) g.blocks) p.graphs (λ g c. c) calls_still formed.calls;
  }

  -- Flow and calls stay.

  flows_at : (entry : ℕ) (graph : Option Graph) → graph_at p.graphs entry ≡ graph → flow_of (graph_or_none (option_map change graph)) ≡ flow_of (graph_or_none graph)
  flows_at entry (Some g) found = let c = found_contained (λ x. x.entry == entry) p.graphs g found in flow_still g (change g) (graph_is g c) (stays g c)
  flows_at entry None found = refl

  flows_still : (entry : ℕ) → flow_at after entry ≡ flow_at p entry
  flows_still entry =
      ap (λ o. flow_of (graph_or_none o)) (changed_at change p.graphs entry entry_stays) ∙ flows_at entry (graph_at p.graphs entry) refl

  found_calls : (entry at : ℕ) (graph : Option Graph) → graph_at p.graphs entry ≡ graph →
      flat_map calls_of (block_or_none (find (λ (b : Block). b.at == at) (graph_or_none (option_map change graph)).blocks)).stmts
      ≡ flat_map calls_of (block_or_none (find (λ (b : Block). b.at == at) (graph_or_none graph).blocks)).stmts
  found_calls entry at (Some g) found =
      let c = found_contained (λ x. x.entry == entry) p.graphs g found in
      found_still g (change g) (graph_is g c) (stays g c) at g.blocks (change g).blocks (stays g c).blocks
  found_calls entry at None found = refl

  calls_same : (entry at : ℕ) → calls_at after entry at ≡ calls_at p entry at
  calls_same entry at =
      ap (λ o. flat_map calls_of (block_or_none (find (λ (b : Block). b.at == at) (graph_or_none o).blocks)).stmts) (changed_at change p.graphs entry entry_stays)
      ∙ found_calls entry at (graph_at p.graphs entry) refl

  -- The changed program is kept, where its runs are.
  pub kept_where : KeepsRuns p (changed p change) → KeepsInOne p (changed p change)
  kept_where runs = record {
    keeps = record {
      entries = same_entries change p.graphs entry_stays;
      runs = runs;
      flow = λ entry. subst (IsContraction (flow_at p entry)) (sym (flows_still entry)) (contraction_refl (flow_at p entry) (flow_law p entry));
      calls = λ entry. record {
        same = λ a r has. calls_same entry a;
        kept = λ a r n. there entry a (reached_has (flow_at p entry) (flow_law p entry) a r);
        after = λ a b r n e. there entry b ((flow_law p entry).head a b e);
      };
    };
    edges = λ entry a b c ra rb none e f. absurd (clash (there entry c ((flow_law p entry).head a c e)) none);
  }
    where
      there : (entry a : ℕ) → (flow_at p entry).has a ≡ true → (flow_at after entry).has a ≡ true
      there entry a has = ap (λ (flow : Flow). flow.has a) (flows_still entry) ∙ has

-- One graph in the place of another.

-- a graph is told by its entry
pub one_graph : (graphs : List Graph) (g h : Graph) → all_differ (map (λ (x : Graph). x.entry) graphs) ≡ true → Contains graphs g → Contains graphs h → g.entry ≡ h.entry → g ≡ h
one_graph [] g h differ c d e = absurd (Contains-none g c)
one_graph (x ∷ graphs) g h differ c d e =
    let parts = both (not (list_any (λ m. x.entry == m) (map (λ (y : Graph). y.entry) graphs))) (all_differ (map (λ (y : Graph). y.entry) graphs)) differ in
    Contains-cases x graphs g (g ≡ h)
    (λ here. Contains-cases x graphs h (g ≡ h) (λ also. sym here ∙ also)
    (λ later. absurd (twice graphs h x.entry parts.0 later (sym e ∙ ap (λ (y : Graph). y.entry) (sym here)))) d)
    (λ later. Contains-cases x graphs h (g ≡ h)
    (λ here. absurd (twice graphs g x.entry parts.0 later (e ∙ ap (λ (y : Graph). y.entry) (sym here))))
    (λ also. one_graph graphs g h parts.1 later also e) d) c
  where
    entry_there : (graphs : List Graph) (g : Graph) (n : ℕ) → Contains graphs g → g.entry ≡ n → list_any (λ m. n == m) (map (λ (y : Graph). y.entry) graphs) ≡ true
    entry_there [] g n c e = absurd (Contains-none g c)
    entry_there (x ∷ graphs) g n c e = Contains-cases x graphs g (list_any (λ m. n == m) (map (λ (y : Graph). y.entry) (x ∷ graphs)) ≡ true)
        (λ here. ap (λ b. b || list_any (λ m. n == m) (map (λ (y : Graph). y.entry) graphs)) (eq-eqb n x.entry (sym e ∙ ap (λ (y : Graph). y.entry) (sym here))))
        (λ later. or_there (n == x.entry) (list_any (λ m. n == m) (map (λ (y : Graph). y.entry) graphs)) (entry_there graphs g n later e)) c

    twice : (graphs : List Graph) (g : Graph) (n : ℕ) → not (list_any (λ m. n == m) (map (λ (y : Graph). y.entry) graphs)) ≡ true → Contains graphs g → g.entry ≡ n → ⊥
    twice graphs g n none c e = true≢false (sym none ∙ ap not (entry_there graphs g n c e))

module _ (p : Program) (before after : Graph) (formed : IsProgram p) (known : Contains p.graphs before) (stays : GraphStays before after) (fine : IsGraph after) where
  abbrev pub swap : Graph → Graph
  swap g = if g.entry == after.entry then after else g

  -- what the graph has, and each has of itself, each graph has of the one in its place
  swap_case : (Q : Graph → Graph → Type 0) → Q before after → ((g : Graph) → Contains p.graphs g → Q g g) → (g : Graph) → Contains p.graphs g → Q g (swap g)
  swap_case Q changed same g c = go (g.entry == after.entry) refl
    where
      go : (b : Bool) → (g.entry == after.entry) ≡ b → Q g (if b then after else g)
      go true e = subst (λ x. Q x after) (one_graph p.graphs before g formed.entries known c (sym stays.entry ∙ sym (eqb-true g.entry after.entry e))) changed
      go false e = same g c

  pub graph_stays : (g : Graph) → Contains p.graphs g → GraphStays g (swap g)
  graph_stays g c = swap_case GraphStays stays (λ x _. stays_itself x) g c

  graph_fine : (g : Graph) → Contains p.graphs g → IsGraph (swap g)
  graph_fine g c = swap_case (λ x y. IsGraph y) fine (λ x d. All-contains IsGraph p.graphs x formed.graphs d) g c

  pub swapped_formed : IsProgram (with_graph after p)
  swapped_formed = program_stays p swap formed graph_stays graph_fine

  -- The graph may stand in the place of the other, where the runs are kept.
  pub kept_swapped : KeepsRuns p (with_graph after p) → IsKeptWith after p
  kept_swapped runs = record { formed = swapped_formed; keeps = kept_where p swap formed graph_stays graph_fine runs }
