-- A graph that stays in kind fits in the other's place: the program stays well formed, with its flow and its calls.
use Rattle.std.proofs.Common.{◌≡◌, ℕ, zero, suc, ◌<◌, Bool, true, false, cond, ◌&&◌, ◌||◌, not, List, [], ◌∷◌, Option, Some, None, refl, sym, ap, ap₂, ◌∙◌, subst, map, take, drop, find, slice_get, flat_map, Contains, eqb-true}
use Rattle.std.specs.Prelude.{if◌then◌else◌, ◌==◌, option_map, All}
use Rattle.std.specs.List.{AllZip, list_all, list_any}
use Rattle.std.proofs.lemmas.List.{length-map, take-map, drop-map}
use Rattle.std.proofs.lemmas.List.Elements.{All-nil, All-cons, All-head, All-tail, All-contains, All-append, All-map, All-weaker}
use Rattle.std.proofs.lemmas.List.Folds.{list_all-map}
use Rattle.dcc_ir.specs.declared.syntax.Param.{Param}
use Rattle.dcc_ir.specs.Tree.{Stmt, Set, Fetch, Store, Div, Call, Dos, Block, Graph, Program}
use Rattle.dcc_ir.specs.WellFormed.{put_width, is_param_list, is_memory, memory_params_last, all_differ, ret_widths, all_ret_widths, IsGraph, IsCalling, IsProgram}
use Rattle.dcc_ir.specs.Run.{graph_at}
use Rattle.dcc_ir.specs.Flow.{Flow, stands_at, has_edge, first_address, flow_of, graph_or_none, flow_at, IsContraction}
use Rattle.dcc_ir.specs.Keeps.{calls_of, block_or_none, calls_at, KeepsRuns}
use Rattle.dcc_ir.specs.Replaced.{with_graph, IsKeptWith}
use Rattle.dcc_ir.specs.Passes.{param_widths}
use Rattle.dcc_ir.proofs.PathLaws.{reached_has, clash}
use Rattle.dcc_ir.proofs.FlowLaws.{contraction_refl}
use Rattle.dcc_ir.proofs.KeepsLaws.{flow_law}
use Rattle.dcc_ir.proofs.LocationLaws.{Contains-here, Contains-later, Contains-none, Contains-cases}
use Rattle.dcc_ir.proofs.ReachedLaws.{found_contained}
use Rattle.dcc_ir.proofs.ListLaws.{all_had, all_parts}
use Rattle.dcc_ir.proofs.ZipLaws.{all_zipped, flat_zipped, any_zipped, zip_back}
use Rattle.dcc_ir.proofs.passes.FormLaws.{changed_at, same_entries, one_graph}
use Rattle.dcc_passes.specs.Kinds.{ParamKind, param_kind, CallKind, call_kinds, BlockStaysInKind, StaysInKind}
use Rattle.dcc_passes.specs.OneGraph.{FitsInPlace}
use mathlib.Core.Path.{fun_ext}

-- What is told by the kinds of params.

listed : List ParamKind → Bool
listed [] = true
listed (k ∷ ks) = (if k.stack then k.width == 16 else (not k.memory && list_all (λ q. not q.stack) ks)) && listed ks

listed-params : (bits : List ℕ) (params : List Param) → is_param_list bits params ≡ listed (map (param_kind bits) params)
unfolding listed
listed-params bits [] = refl
listed-params bits (p ∷ ps) =
    ap₂ (λ b c. (if p.stack then put_width bits p.put == 16 else (not (is_memory p.put) && b)) && c)
    (sym (list_all-map (λ (q : ParamKind). not q.stack) (param_kind bits) ps)) (listed-params bits ps)

last : List ParamKind → Bool
last [] = true
last (k ∷ ks) = (not k.memory || list_all (λ q. not q.stack || q.memory) ks) && last ks

last-params : (bits : List ℕ) (params : List Param) → memory_params_last params ≡ last (map (param_kind bits) params)
unfolding last
last-params bits [] = refl
last-params bits (p ∷ ps) =
    ap₂ (λ b c. (not (is_memory p.put) || b) && c)
    (sym (list_all-map (λ (q : ParamKind). not q.stack || q.memory) (param_kind bits) ps)) (last-params bits ps)

widths-params : (bits : List ℕ) (params : List Param) → map (λ (q : Param). put_width bits q.put) params ≡ map (λ (k : ParamKind). k.width) (map (param_kind bits) params)
widths-params bits [] = refl
widths-params bits (p ∷ ps) = ap (λ l. put_width bits p.put ∷ l) (widths-params bits ps)

no-kinds : (bits : List ℕ) (params : List Param) → map (param_kind bits) params ≡ [] → params ≡ []
no-kinds bits [] e = refl
no-kinds bits (p ∷ ps) e = absurd (cc)

-- what holds of all that each element gives holds of all that they give
joined-parts : {X A : Type 0} (P : A → Type 0) (f : X → List A) (xs : List X) → All (λ x. All P (f x)) xs → All P (flat_map f xs)
joined-parts P f [] all = All-nil P
joined-parts P f (x ∷ xs) all =
    All-append P (f x) (flat_map f xs) (All-head (λ x. All P (f x)) x xs all) (joined-parts P f xs (All-tail (λ x. All P (f x)) x xs all))

-- Flow.

module _ (g h : Graph) (is : StaysInKind g h) where
  abbrev Pairs : Block → Block → Type 0
  Pairs b c = BlockStaysInKind g.bits h.bits b c

  rets-stay : all_ret_widths h ≡ all_ret_widths g
  rets-stay = flat_zipped Pairs (λ (b : Block). ret_widths g.bits b.exit) (λ (b : Block). ret_widths h.bits b.exit) (λ b c pair. pair.given) g.blocks h.blocks is.blocks

  widths-stay : param_widths h ≡ param_widths g
  widths-stay = widths-params h.bits h.params ∙ ap (map (λ (k : ParamKind). k.width)) is.params ∙ sym (widths-params g.bits g.params)

  first-stays : (bs cs : List Block) → AllZip Pairs bs cs → first_address cs ≡ first_address bs
  first-stays [] [] all = refl
  first-stays [] (c ∷ cs) all = absurd all
  first-stays (b ∷ bs) [] all = absurd all
  first-stays (b ∷ bs) (c ∷ cs) all = all.0.at

  stands-stays : (at : ℕ) (bs cs : List Block) (k : ℕ) → AllZip Pairs bs cs → stands_at (slice_get cs k) at ≡ stands_at (slice_get bs k) at
  stands-stays at [] [] k all = refl
  stands-stays at [] (c ∷ cs) k all = absurd all
  stands-stays at (b ∷ bs) [] k all = absurd all
  stands-stays at (b ∷ bs) (c ∷ cs) zero all = ap (λ n. n == at) all.0.at
  stands-stays at (b ∷ bs) (c ∷ cs) (suc k) all = stands-stays at bs cs k all.1

  edges-stay : (at : ℕ) (b c : Block) → Pairs b c → has_edge h.blocks c at ≡ has_edge g.blocks b at
  edges-stay at b c pair =
      ap₂ (λ f places. list_any f places) (fun_ext (λ place. stands-stays at g.blocks h.blocks place is.blocks)) pair.targets_are

  flow-stays : flow_of h ≡ flow_of g
  flow-stays =
      let any = λ (f f' : Block → Bool) (same : (b c : Block) → Pairs b c → f' c ≡ f b). any_zipped Pairs f f' same g.blocks h.blocks is.blocks in
      let start = first-stays g.blocks h.blocks is.blocks in
      let has = fun_ext (λ a. any (λ b. b.at == a) (λ b. b.at == a) (λ b c pair. ap (λ n. n == a) pair.at)) in
      let goes = fun_ext (λ a. fun_ext (λ d. any (λ b. (b.at == a) && has_edge g.blocks b d) (λ b. (b.at == a) && has_edge h.blocks b d)
      (λ b c pair. ap₂ (λ x y. x && y) (ap (λ n. n == a) pair.at) (edges-stay d b c pair)))) in
      λ i. record { start = start i; has = has i; goes = goes i }

-- Calls.

called : CallKind → ℕ × ℕ
called k = (k.entry, k.depth)

calls-told : (bits : List ℕ) (stmts : List Stmt) → flat_map calls_of stmts ≡ map called (flat_map (call_kinds bits) stmts)
unfolding called
calls-told bits [] = refl
calls-told bits (Call results entry arguments depth ∷ stmts) = ap (λ l. (entry, depth) ∷ l) (calls-told bits stmts)
calls-told bits (Set location e ∷ stmts) = calls-told bits stmts
calls-told bits (Fetch location width address ∷ stmts) = calls-told bits stmts
calls-told bits (Store width address e ∷ stmts) = calls-told bits stmts
calls-told bits (Div location e ∷ stmts) = calls-told bits stmts
calls-told bits (Dos number place argument ∷ stmts) = calls-told bits stmts

called-stay : (bits bits' : List ℕ) (b c : Block) → BlockStaysInKind bits bits' b c → flat_map calls_of c.stmts ≡ flat_map calls_of b.stmts
called-stay bits bits' b c pair = calls-told bits' c.stmts ∙ ap (map called) pair.calls ∙ sym (calls-told bits b.stmts)

found-stay : (bits bits' : List ℕ) (at : ℕ) (bs cs : List Block) → AllZip (BlockStaysInKind bits bits') bs cs →
    flat_map calls_of (block_or_none (find (λ (b : Block). b.at == at) cs)).stmts ≡ flat_map calls_of (block_or_none (find (λ (b : Block). b.at == at) bs)).stmts
found-stay bits bits' at [] [] all = refl
found-stay bits bits' at [] (c ∷ cs) all = absurd all
found-stay bits bits' at (b ∷ bs) [] all = absurd all
found-stay bits bits' at (b ∷ bs) (c ∷ cs) all =
    ap (λ n. calls (cond (n == at) (Some c) (find test cs))) all.0.at ∙ by (b.at == at) (found-stay bits bits' at bs cs all.1)
  where
    test : Block → Bool
    test b = b.at == at

    calls : Option Block → List (ℕ × ℕ)
    calls block = flat_map calls_of (block_or_none block).stmts

    by : (t : Bool) → calls (find test cs) ≡ calls (find test bs) → calls (cond t (Some c) (find test cs)) ≡ calls (cond t (Some b) (find test bs))
    by true later = called-stay bits bits' b c all.0
    by false later = later

-- the call agrees with the graph that it names
record Agrees (p : Program) (k : CallKind) : Type 0 where
  callee : Graph
  named : graph_at (drop 1 p.graphs) k.entry ≡ Some callee
  taken : k.arguments ≡ param_widths callee
  given : All (λ widths. widths ≡ k.results) (all_ret_widths callee)

told-call : (p : Program) (caller : Graph) (stmt : Stmt) → IsCalling p caller stmt → All (Agrees p) (call_kinds caller.bits stmt)
told-call p caller (Call results entry arguments depth) c =
    All-cons (Agrees p) _ [] (record { callee = c.callee; named = c.named; taken = c.taken; given = c.given }) (All-nil (Agrees p))
told-call p caller (Set location e) c = All-nil (Agrees p)
told-call p caller (Fetch location width address) c = All-nil (Agrees p)
told-call p caller (Store width address e) c = All-nil (Agrees p)
told-call p caller (Div location e) c = All-nil (Agrees p)
told-call p caller (Dos number place argument) c = All-nil (Agrees p)

meant-call : (p : Program) (caller : Graph) (stmt : Stmt) → All (Agrees p) (call_kinds caller.bits stmt) → IsCalling p caller stmt
meant-call p caller (Call results entry arguments depth) all =
    let c = All-head (Agrees p) _ [] all in
    record { callee = c.callee; named = c.named; taken = c.taken; given = c.given }
meant-call p caller (Set location e) all = tt
meant-call p caller (Fetch location width address) all = tt
meant-call p caller (Store width address e) all = tt
meant-call p caller (Div location e) all = tt
meant-call p caller (Dos number place argument) all = tt

-- The program with the graph in place of the other.

module _ (p : Program) (before after : Graph) (formed : IsProgram p) (known : Contains p.graphs before) (is : StaysInKind before after) (fine : IsGraph after) where
  abbrev change : Graph → Graph
  change g = if g.entry == after.entry then after else g

  abbrev next : Program
  next = with_graph after p

  -- what the graphs have, and each graph has of itself, each has of the one in its place
  in-place : (Q : Graph → Graph → Type 0) → Q before after → ((g : Graph) → Contains p.graphs g → Q g g) → (g : Graph) → Contains p.graphs g → Q g (change g)
  in-place Q new same g c = go (g.entry == after.entry) refl
    where
      go : (b : Bool) → (g.entry == after.entry) ≡ b → Q g (if b then after else g)
      go true e = subst (λ x. Q x after) (one_graph p.graphs before g formed.entries known c (sym is.entry ∙ sym (eqb-true g.entry after.entry e))) new
      go false e = same g c

  itself : (g : Graph) → StaysInKind g g
  itself g = record { entry = refl; params = refl; local = refl; pushed = refl; blocks = go g.blocks }
    where
      go : (bs : List Block) → AllZip (BlockStaysInKind g.bits g.bits) bs bs
      go [] = tt
      go (b ∷ bs) = (record { at = refl; targets_are = refl; jumps = refl; given = refl; calls = refl }, go bs)

  stays : (g : Graph) → Contains p.graphs g → StaysInKind g (change g)
  stays g c = in-place StaysInKind is (λ x _. itself x) g c

  entry-stays : (g : Graph) → Contains p.graphs g → (change g).entry ≡ g.entry
  entry-stays g c = (stays g c).entry

  -- what holds of some graphs of the program holds of those in their places
  all-changed : (P Q : Graph → Type 0) (graphs : List Graph) → ((g : Graph) → Contains graphs g → Contains p.graphs g) → ((g : Graph) → Contains p.graphs g → P g → Q (change g)) → All P graphs → All Q (map change graphs)
  all-changed P Q graphs among to all = All-map Q change graphs (all_had (λ g. Q (change g)) graphs (λ g c. to g (among g c) (All-contains P graphs g all c)))

  of-all : (P Q : Graph → Type 0) → ((g : Graph) → Contains p.graphs g → P g → Q (change g)) → All P p.graphs → All Q (map change p.graphs)
  of-all P Q to all = all-changed P Q p.graphs (λ g c. c) to all

  among-first : (graphs : List Graph) (g : Graph) → Contains (take 1 graphs) g → Contains graphs g
  among-first [] g c = c
  among-first (x ∷ graphs) g c = Contains-cases x [] g (Contains (x ∷ graphs) g) (λ e. subst (Contains (x ∷ graphs)) e (Contains-here x graphs)) (λ d. absurd (Contains-none g d)) c

  of-first : (P Q : Graph → Type 0) → ((g : Graph) → Contains p.graphs g → P g → Q (change g)) → All P (take 1 p.graphs) → All Q (take 1 (map change p.graphs))
  of-first P Q to all = subst (All Q) (sym (take-map change 1 p.graphs)) (all-changed P Q (take 1 p.graphs) (among-first p.graphs) to all)

  among-rest : (graphs : List Graph) (g : Graph) → Contains (drop 1 graphs) g → Contains graphs g
  among-rest [] g c = c
  among-rest (x ∷ graphs) g c = Contains-later x graphs g c

  agrees-still : (k : CallKind) → Agrees p k → Agrees next k
  agrees-still k a =
      let there = among-rest p.graphs a.callee (found_contained (λ x. x.entry == k.entry) (drop 1 p.graphs) a.callee a.named) in
      let it = stays a.callee there in
      record {
        callee = change a.callee;
        named = ap (λ graphs. graph_at graphs k.entry) (drop-map change 1 p.graphs)
            ∙ changed_at change (drop 1 p.graphs) k.entry (λ x d. entry-stays x (among-rest p.graphs x d)) ∙ ap (option_map change) a.named;
        taken = a.taken ∙ sym (widths-stay a.callee (change a.callee) it);
        given = subst (All (λ widths. widths ≡ k.results)) (sym (rets-stay a.callee (change a.callee) it)) a.given;
      }

  calls-still : (g : Graph) → Contains p.graphs g → All (λ b. All (IsCalling p g) b.stmts) g.blocks → All (λ b. All (IsCalling next (change g)) b.stmts) (change g).blocks
  calls-still g c all =
      let it = stays g c in
      all_zipped (BlockStaysInKind g.bits (change g).bits) (λ b. All (IsCalling p g) b.stmts) (λ b. All (IsCalling next (change g)) b.stmts)
      (λ b d pair calls.
      let told = joined-parts (Agrees p) (call_kinds g.bits) b.stmts (All-weaker (IsCalling p g) (λ x. All (Agrees p) (call_kinds g.bits x)) (told-call p g) b.stmts calls) in
      let kinds = flat_map (call_kinds g.bits) b.stmts in
      let still = subst (All (Agrees next)) (sym pair.calls) (All-weaker (Agrees p) (Agrees next) agrees-still kinds told) in
      All-weaker (λ x. All (Agrees next) (call_kinds (change g).bits x)) (IsCalling next (change g)) (meant-call next (change g)) d.stmts
      (all_parts (Agrees next) (call_kinds (change g).bits) d.stmts still))
      g.blocks (change g).blocks it.blocks all

  OneRet : Graph → Type 0
  OneRet g = (a b : List ℕ) → Contains (all_ret_widths g) a → Contains (all_ret_widths g) b → a ≡ b

  NoneGiven : Graph → Type 0
  NoneGiven g = All (λ widths. widths ≡ []) (all_ret_widths g)

  pub program-formed : IsProgram next
  unfolding OneRet NoneGiven
  program-formed = record {
    image = formed.image;
    lo = formed.lo;
    hi = formed.hi;
    begins = subst (λ n. 0 < n) (sym (length-map p.graphs change)) formed.begins;
    entries = ap all_differ (same_entries change p.graphs entry-stays) ∙ formed.entries;
    graphs = of-all IsGraph IsGraph (λ g c well. in-place (λ x y. IsGraph y) fine (λ x d. All-contains IsGraph p.graphs x formed.graphs d) g c) formed.graphs;
    params = of-all (λ g. is_param_list g.bits g.params ≡ true) (λ g. is_param_list g.bits g.params ≡ true)
        (λ g c e. listed-params (change g).bits (change g).params ∙ ap listed (stays g c).params ∙ sym (listed-params g.bits g.params) ∙ e) formed.params;
    memory_last = of-all (λ g. memory_params_last g.params ≡ true) (λ g. memory_params_last g.params ≡ true)
        (λ g c e. last-params (change g).bits (change g).params ∙ ap last (stays g c).params ∙ sym (last-params g.bits g.params) ∙ e) formed.memory_last;
    start = of-first (λ g. g.params ≡ []) (λ g. g.params ≡ [])
        (λ g c e. no-kinds (change g).bits (change g).params ((stays g c).params ∙ ap (map (param_kind g.bits)) e)) formed.start;
    start_rets = of-first NoneGiven NoneGiven (λ g c e. subst (All (λ widths. widths ≡ [])) (sym (rets-stay g (change g) (stays g c))) e) formed.start_rets;
    rets = of-all OneRet OneRet
        (λ g c e. subst (λ widths. (a b : List ℕ) → Contains widths a → Contains widths b → a ≡ b) (sym (rets-stay g (change g) (stays g c))) e) formed.rets;
    calls = of-all (λ g. All (λ b. All (IsCalling p g) b.stmts) g.blocks) (λ g. All (λ b. All (IsCalling next g) b.stmts) g.blocks) calls-still formed.calls;
  }

  -- what is one for a graph and the one in its place is one at each entry
  same-at : {A : Type 0} (f : Graph → A) → ((g : Graph) → Contains p.graphs g → f (change g) ≡ f g) → (entry : ℕ)
      → f (graph_or_none (graph_at next.graphs entry)) ≡ f (graph_or_none (graph_at p.graphs entry))
  same-at f same entry = ap (λ o. f (graph_or_none o)) (changed_at change p.graphs entry entry-stays) ∙ go (graph_at p.graphs entry) refl
    where
      go : (o : Option Graph) → graph_at p.graphs entry ≡ o → f (graph_or_none (option_map change o)) ≡ f (graph_or_none o)
      go (Some g) found = same g (found_contained (λ x. x.entry == entry) p.graphs g found)
      go None found = refl

  flows-stay : (entry : ℕ) → flow_at next entry ≡ flow_at p entry
  flows-stay entry = same-at flow_of (λ g c. flow-stays g (change g) (stays g c)) entry

  calls-stay : (entry at : ℕ) → calls_at next entry at ≡ calls_at p entry at
  calls-stay entry at =
      same-at (λ g. flat_map calls_of (block_or_none (find (λ (b : Block). b.at == at) g.blocks)).stmts)
      (λ g c. found-stay g.bits (change g).bits at g.blocks (change g).blocks (stays g c).blocks) entry

  there : (entry a : ℕ) → (flow_at p entry).has a ≡ true → (flow_at next entry).has a ≡ true
  there entry a has = ap (λ (flow : Flow). flow.has a) (flows-stay entry) ∙ has

  pub program-kept : KeepsRuns p next → IsKeptWith after p
  program-kept runs = record {
    formed = program-formed;
    keeps = record {
      keeps = record {
        entries = same_entries change p.graphs entry-stays;
        runs = runs;
        flow = λ entry. subst (IsContraction (flow_at p entry)) (sym (flows-stay entry)) (contraction_refl (flow_at p entry) (flow_law p entry));
        calls = λ entry. record {
          same = λ a reached has. calls-stay entry a;
          kept = λ a reached some. there entry a (reached_has (flow_at p entry) (flow_law p entry) a reached);
          after = λ a b reached some edge. there entry b ((flow_law p entry).head a b edge);
        };
      };
      edges = λ entry a b c from other gone edge second. absurd (clash (there entry c ((flow_law p entry).head a c edge)) gone);
    };
  }

pub kind-fits : (before after : Graph) → StaysInKind before after → IsGraph after → FitsInPlace (λ k. k) before after
kind-fits before after is fine = record {
  entry = is.entry;
  blocks = record {
    first = refl;
    stays = λ k block placed.
        let back = zip_back (BlockStaysInKind before.bits after.bits) before.blocks after.blocks k block is.blocks placed in
        (back.0, back.1, sym back.2.at);
  };
  formed = λ p formed known. program-formed p before after formed known is fine;
  kept = λ p formed known runs. program-kept p before after formed known is fine runs;
}
