-- The program in which what passes together is one value is well formed.
use Rattle.std.proofs.Common.{arith, ◌≡◌, ℕ, ◌+◌, ◌<◌, Bool, true, ◌&&◌, ◌||◌, not, List, [], ◌∷◌, ◌++◌, length, refl, sym, ap, ap₂, ◌∙◌, subst, map, take, drop, flat_map}
use Rattle.std.specs.Prelude.{nat_lt, option_map, All, Contains}
use Rattle.std.specs.List.{list_all}
use Rattle.std.proofs.lemmas.List.{length-map, take-map, drop-map}
use Rattle.std.proofs.lemmas.List.Elements.{All-nil, All-cons, All-head, All-tail, All-append, All-contains, All-map, All-weaker}
use Rattle.dcc_ir.specs.declared.syntax.Loc.{Loc}
use Rattle.dcc_ir.specs.declared.syntax.Put.{Put}
use Rattle.dcc_ir.specs.declared.syntax.Put.TheVariants.{Memory, One, Two}
use Rattle.dcc_ir.specs.declared.syntax.Param.{Param}
use Rattle.dcc_ir.specs.Tree.{Expr, Get, Stmt, Set, Fetch, Store, Div, Call, Dos, Block, Graph, Program, Summary}
use Rattle.dcc_ir.specs.Location.{location_width}
use Rattle.dcc_ir.specs.Value.{width_of}
use Rattle.dcc_ir.specs.WellFormed.{is_width, is_location, is_expr, is_stmt, is_exit, is_block, jumps_after_call, is_put, put_width, is_memory, is_param_list, memory_params_last, all_differ, all_ret_widths, IsGraph, IsCall, IsCalling, IsProgram}
use Rattle.dcc_ir.specs.Run.{graph_at}
use Rattle.dcc_ir.specs.Passing.{param_of, is_word_put}
use Rattle.dcc_ir.proofs.FitLaws.{both}
use Rattle.dcc_ir.proofs.LocationLaws.{Contains-here, Contains-later, Contains-none, Contains-cases}
use Rattle.dcc_ir.proofs.ListLaws.{all_had}
use Rattle.dcc_ir.proofs.ReachedLaws.{all_at, named_again}
use Rattle.dcc_ir.proofs.passes.FormLaws.{changed_at, same_entries}
use Rattle.dcc_flags.proofs.ExprLaws.{expr_more}
use Rattle.dcc_sums.specs.Localised.{TakesJust, CallsJust}
use Rattle.dcc_sums.proofs.ArgumentLaws.{contains_left, words_wide, words_as_many}
use Rattle.dcc_signatures.specs.declared.packing.Fresh.{Fresh}
use Rattle.dcc_signatures.specs.Packed.{merged, param_with, one_param, one_argument, value_places, taking_part}
use Rattle.dcc_signatures.specs.Packed.{taking_parts, pack_stmt, pack_block, fresh_after, pack_graph, packed}
use Rattle.dcc_signatures.proofs.PutLaws.{halves_are, puts, IsGood, puts-good, params-packed, got, arguments-packed}
use Rattle.dcc_signatures.proofs.OneLaws.{Form}
use Rattle.dcc_signatures.proofs.PassLaws.{IsFixed, AllJust, takes_just}
use Rattle.dcc_signatures.proofs.FormedLaws.{all_joined, two_more, widths_of, places-widths}
use Rattle.dcc_signatures.proofs.ProgramLaws.{parts_are, puts_all, listed, last_still, last_of_puts, ones_all}
use Rattle.dcc_signatures.proofs.ProgramLaws.{ones_last, words_still, ones_placed, put_formed, jumps_still}
use Rattle.dcc_signatures.proofs.ProgramLaws.{addresses_still, blocks_formed, rets_give, word_width}

-- the params of a packed graph
pub packed_params : (sum : Summary) (g : Graph) (t : TakesJust sum g) → (pack_graph g).params ≡ t.words ++ map param_with (puts sum.params)
packed_params sum g t = ap (merged one_param) t.params ∙ params-packed t.words sum.params t.stack

puts_widths : (bits callee_bits : List ℕ) (qs : List Put) → All (IsGood IsFixed) qs → map (width_of bits) (map got qs) ≡ map (λ q. put_width callee_bits q.put) (map param_with qs)
puts_widths bits callee_bits [] good = refl
puts_widths bits callee_bits (q ∷ qs) good = ap₂ (λ n ns. n ∷ ns) (one q (All-head (IsGood IsFixed) q qs good)) (puts_widths bits callee_bits qs (All-tail (IsGood IsFixed) q qs good))
  where
    one : (q : Put) → IsGood IsFixed q → width_of bits (got q) ≡ put_width callee_bits q
    one Memory good = absurd good
    one (One l) good = good bits ∙ sym (good callee_bits)
    one (Two low high) good = let is = halves_are low high good.0 in ap₂ (λ x y. location_width bits x + location_width bits y) is.2 is.1

words_widths : (bits callee_bits : List ℕ) (es xs : List Expr) (ws qs : List Param) → length es ≡ length ws → ((e : Expr) → Contains es e → width_of bits e ≡ 16) → list_all (λ w. w.stack && is_word_put w.put) ws ≡ true →
    map (width_of bits) xs ≡ map (λ q. put_width callee_bits q.put) qs → map (width_of bits) (es ++ xs) ≡ map (λ q. put_width callee_bits q.put) (ws ++ qs)
words_widths bits callee_bits [] xs [] qs len wide stack rest = rest
words_widths bits callee_bits (e ∷ es) xs (w ∷ ws) qs len wide stack rest =
    let parts = both (w.stack && is_word_put w.put) (list_all (λ (x : Param). x.stack && is_word_put x.put) ws) stack in
    ap₂ (λ n ns. n ∷ ns) (wide e (Contains-here e es) ∙ sym (word_width callee_bits w.put (both w.stack (is_word_put w.put) parts.0).1))
    (words_widths bits callee_bits es xs ws qs (omega (arith, len)) (λ x c. wide x (Contains-later e es x c)) parts.1 rest)
words_widths bits callee_bits [] xs (w ∷ ws) qs len wide stack rest = absurd (cc)
words_widths bits callee_bits (e ∷ es) xs [] qs len wide stack rest = absurd (cc)

module _ (p : Program) (sum_of : ℕ → Summary) (formed : IsProgram p) (just : AllJust sum_of p) where
  takes : (g : Graph) → Contains p.graphs g → TakesJust (sum_of g.entry) g
  takes g c = All-contains (λ (x : Graph). TakesJust (sum_of x.entry) x) p.graphs g just.graphs c

  is_graph : (g : Graph) → Contains p.graphs g → IsGraph g
  is_graph g c = All-contains IsGraph p.graphs g formed.graphs c

  params_are : (g : Graph) (c : Contains p.graphs g) → (pack_graph g).params ≡ (takes g c).words ++ map param_with (puts (sum_of g.entry).params)
  params_are g c = packed_params (sum_of g.entry) g (takes g c)

  abbrev Has : Graph → Loc → Type 0
  Has g l = is_location g.bits l ≡ true

  -- the places of the params are well formed
  placed : (g : Graph) (c : Contains p.graphs g) → (list_all (λ q. is_put (two_more g.bits) q.put) (takes g c).words ≡ true) × All (IsGood (Has g)) (puts (sum_of g.entry).params)
  placed g c =
      let t = takes g c in
      let ls = (sum_of g.entry).params in
      let parts = words_still g.bits (16 ∷ 32 ∷ []) t.words (map param_of ls) (subst (λ ps. list_all (λ (q : Param). is_put g.bits q.put) ps ≡ true) t.params (is_graph g c).params) in
      (parts.0, puts-good (Has g) ls (ones_placed g.bits ls parts.1))

  graph_formed : (g : Graph) → Contains p.graphs g → IsGraph (pack_graph g)
  graph_formed g c =
      let is = is_graph g c in
      let t = takes g c in
      let fresh = fresh_after g.bits in
      record {
        begins = subst (λ n. 0 < n) (sym (length-map g.blocks (pack_block fresh))) is.begins;
        entry = is.entry;
        offsets = All-map (λ (b : Block). b.at < 65536) (pack_block fresh) g.blocks is.offsets;
        jumps = All-map (λ (b : Block). jumps_after_call b.stmts b.exit ≡ true) (pack_block fresh) g.blocks
            (All-weaker (λ (b : Block). jumps_after_call b.stmts b.exit ≡ true) (λ (b : Block). jumps_after_call (pack_block fresh b).stmts (pack_block fresh b).exit ≡ true)
            (λ b e. jumps_still fresh b.stmts b.exit ∙ e) g.blocks is.jumps);
        addresses = ap all_differ (addresses_still fresh g.blocks) ∙ is.addresses;
        bits = all_joined is_width g.bits (16 ∷ 32 ∷ []) is.bits refl;
        params = subst (λ ps. list_all (λ (q : Param). is_put (two_more g.bits) q.put) ps ≡ true) (sym (params_are g c))
            (all_joined (λ (q : Param). is_put (two_more g.bits) q.put) t.words (map param_with (puts (sum_of g.entry).params)) (placed g c).0
            (puts_all (Has g) (λ (q : Param). is_put (two_more g.bits) q.put) (put_formed g.bits (16 ∷ 32 ∷ [])) (puts (sum_of g.entry).params) (placed g c).1));
        blocks = subst (λ n. list_all (is_block (two_more g.bits) n) (map (pack_block fresh) g.blocks) ≡ true) (sym (length-map g.blocks (pack_block fresh)))
            (blocks_formed p sum_of just g.bits g.entry (length g.blocks) g.blocks is.blocks t.rets (All-contains (λ (x : Graph). All (λ b. All (CallsJust sum_of) b.stmts) x.blocks) p.graphs g just.calls c));
      }

  param_list : (g : Graph) → Contains p.graphs g → is_param_list (two_more g.bits) (pack_graph g).params ≡ true
  param_list g c =
      subst (λ ps. is_param_list (two_more g.bits) ps ≡ true) (sym (params_are g c)) (listed (Has g) (two_more g.bits) (takes g c).words (puts (sum_of g.entry).params) (takes g c).stack (placed g c).1)

  memory_last : (g : Graph) → Contains p.graphs g → memory_params_last (pack_graph g).params ≡ true
  memory_last g c =
      let t = takes g c in
      let ls = (sum_of g.entry).params in
      let was = All-contains (λ (x : Graph). memory_params_last x.params ≡ true) p.graphs g formed.memory_last c in
      ap memory_params_last (params_are g c)
      ∙ last_still t.words (map param_with (puts ls)) (map param_of ls) (puts_all (Has g) (λ r. not r.stack || is_memory r.put) (λ _ _. refl) (puts ls) (placed g c).1)
      (ones_all (λ r. not r.stack || is_memory r.put) (λ l. refl) ls) (last_of_puts (Has g) (puts ls) (placed g c).1) (ones_last ls)
      ∙ ap memory_params_last (sym t.params) ∙ was

  -- Calls.

  rets_of : (entry : ℕ) (g : Graph) → TakesJust (sum_of entry) g → All (λ widths. widths ≡ widths_of (sum_of entry).results) (all_ret_widths (pack_graph g))
  rets_of entry g t = rets_give p sum_of just g.bits entry g.blocks t.rets

  module _ (caller : Graph) (known : Contains p.graphs caller) where
    abbrev fresh : Fresh
    fresh = fresh_after caller.bits

    abbrev more : List ℕ
    more = two_more caller.bits

    abbrev Calling : Stmt → Type 0
    Calling stmt = IsCalling (packed p) (pack_graph caller) stmt

    call_still : (results : List Loc) (entry : ℕ) (arguments : List Expr) (depth : ℕ) → is_stmt caller.bits (Call results entry arguments depth) ≡ true → IsCall p caller results entry arguments →
        CallsJust sum_of (Call results entry arguments depth) → IsCall (packed p) (pack_graph caller) (value_places fresh results) entry (merged one_argument arguments)
    call_still results entry arguments depth ok call calls = record {
      callee = pack_graph call.callee;
      named = ap (λ graphs. graph_at graphs entry) (drop-map pack_graph 1 p.graphs) ∙ changed_at pack_graph (drop 1 p.graphs) entry (λ g c. refl) ∙ ap (option_map pack_graph) call.named;
      taken = ap (λ es. map (width_of more) (merged one_argument es)) calls.1.1 ∙ ap (map (width_of more)) (arguments-packed caller.bits words params wide)
          ∙ words_widths more (two_more call.callee.bits) words (map got (puts params)) t.words (map param_with (puts params)) as_many (λ e c. (expr_more caller.bits (16 ∷ 32 ∷ []) e (formed_word e c)).width ∙ wide e c) t.stack
          (puts_widths more (two_more call.callee.bits) (puts params) (puts-good IsFixed params (just.params entry)))
          ∙ ap (map (λ (q : Param). put_width (two_more call.callee.bits) q.put)) (sym (packed_params (sum_of entry) call.callee t));
      given = All-weaker (λ widths. widths ≡ widths_of (sum_of entry).results) (λ widths. widths ≡ map (location_width more) (value_places fresh results))
          (λ widths e. e ∙ ap widths_of (sym calls.0) ∙ sym (places-widths caller.bits results (subst Form (sym calls.0) (just.forms entry)) (subst (All IsFixed) (sym calls.0) (just.results entry))))
          (all_ret_widths (pack_graph call.callee)) (rets_of entry call.callee t);
    }
      where
        params : List Loc
        params = (sum_of entry).params

        words : List Expr
        words = calls.1.0

        t : TakesJust (sum_of entry) call.callee
        t = takes_just p sum_of formed just entry call.callee (named_again p.graphs entry call.callee formed.entries call.named)

        widths : map (width_of caller.bits) (words ++ map Get params) ≡ map (λ (q : Param). put_width call.callee.bits q.put) (t.words ++ map param_of params)
        widths = ap (map (width_of caller.bits)) (sym calls.1.1) ∙ call.taken ∙ ap (map (λ (q : Param). put_width call.callee.bits q.put)) t.params

        as_many : length words ≡ length t.words
        as_many = words_as_many (width_of caller.bits) (λ (q : Param). put_width call.callee.bits q.put) words t.words params widths

        wide : (e : Expr) → Contains words e → width_of caller.bits e ≡ 16
        wide e c = words_wide caller.bits call.callee.bits t.words (map param_of params) words (map Get params) as_many widths t.stack e c

        formed_word : (e : Expr) → Contains words e → is_expr caller.bits e ≡ true
        formed_word e c =
            let parts = both (list_all (is_location caller.bits) results && list_all (is_expr caller.bits) arguments) (nat_lt depth 65536) ok in
            all_at (is_expr caller.bits) arguments e (both (list_all (is_location caller.bits) results) (list_all (is_expr caller.bits) arguments) parts.0).1
            (subst (λ es. Contains es e) (sym calls.1.1) (contains_left words (map Get params) e c))

    parts_call : (results : List Loc) → All Calling (taking_parts fresh results)
    parts_call results = parts_are fresh results (All Calling) sets
      where
        sets : (temporary : ℕ) (two : Bool) (ls : List Loc) → All Calling (map (taking_part temporary two) ls)
        sets temporary two [] = All-nil Calling
        sets temporary two (l ∷ ls) = All-cons Calling (taking_part temporary two l) (map (taking_part temporary two) ls) tt (sets temporary two ls)

    stmt_calls : (stmt : Stmt) → is_stmt caller.bits stmt ≡ true → IsCalling p caller stmt → CallsJust sum_of stmt → All Calling (pack_stmt fresh stmt)
    stmt_calls (Call results entry arguments depth) ok call calls =
        All-cons Calling (Call (value_places fresh results) entry (merged one_argument arguments) depth) (taking_parts fresh results) (call_still results entry arguments depth ok call calls) (parts_call results)
    stmt_calls (Set l e) ok call calls = All-cons Calling (Set l e) [] tt (All-nil Calling)
    stmt_calls (Fetch l width a) ok call calls = All-cons Calling (Fetch l width a) [] tt (All-nil Calling)
    stmt_calls (Store width a e) ok call calls = All-cons Calling (Store width a e) [] tt (All-nil Calling)
    stmt_calls (Div l e) ok call calls = All-cons Calling (Div l e) [] tt (All-nil Calling)
    stmt_calls (Dos number place argument) ok call calls = All-cons Calling (Dos number place argument) [] tt (All-nil Calling)

    stmts_call : (stmts : List Stmt) → list_all (is_stmt caller.bits) stmts ≡ true → All (IsCalling p caller) stmts → All (CallsJust sum_of) stmts → All Calling (flat_map (pack_stmt fresh) stmts)
    stmts_call [] ok call calls = All-nil Calling
    stmts_call (stmt ∷ stmts) ok call calls =
        let parts = both (is_stmt caller.bits stmt) (list_all (is_stmt caller.bits) stmts) ok in
        All-append Calling (pack_stmt fresh stmt) (flat_map (pack_stmt fresh) stmts)
        (stmt_calls stmt parts.0 (All-head (IsCalling p caller) stmt stmts call) (All-head (CallsJust sum_of) stmt stmts calls))
        (stmts_call stmts parts.1 (All-tail (IsCalling p caller) stmt stmts call) (All-tail (CallsJust sum_of) stmt stmts calls))

    calls_still : All (λ b. All Calling b.stmts) (pack_graph caller).blocks
    calls_still =
        All-map (λ (b : Block). All Calling b.stmts) (pack_block fresh) caller.blocks (all_had (λ (b : Block). All Calling (flat_map (pack_stmt fresh) b.stmts)) caller.blocks (λ b c.
        stmts_call b.stmts (both (list_all (is_stmt caller.bits) b.stmts) (is_exit caller.bits (length caller.blocks) b.exit) (all_at (is_block caller.bits (length caller.blocks)) caller.blocks b (is_graph caller known).blocks c)).0
        (All-contains (λ (x : Block). All (IsCalling p caller) x.stmts) caller.blocks b (All-contains (λ (x : Graph). All (λ b. All (IsCalling p x) b.stmts) x.blocks) p.graphs caller formed.calls known) c)
        (All-contains (λ (x : Block). All (CallsJust sum_of) x.stmts) caller.blocks b (All-contains (λ (x : Graph). All (λ b. All (CallsJust sum_of) b.stmts) x.blocks) p.graphs caller just.calls known) c)))

  -- The program.

  each : (P : Graph → Type 0) → ((g : Graph) → Contains p.graphs g → P (pack_graph g)) → All P (packed p).graphs
  each P h = All-map P pack_graph p.graphs (all_had (λ g. P (pack_graph g)) p.graphs h)

  known_first : (graphs : List Graph) (g : Graph) → Contains (take 1 graphs) g → Contains graphs g
  known_first [] g c = c
  known_first (x ∷ graphs) g c = Contains-cases x [] g (Contains (x ∷ graphs) g) (λ e. subst (Contains (x ∷ graphs)) e (Contains-here x graphs)) (λ d. absurd (Contains-none g d)) c

  pub first_of : (P : Graph → Type 0) → ((g : Graph) → Contains (take 1 p.graphs) g → P (pack_graph g)) → All P (take 1 (packed p).graphs)
  first_of P h = subst (All P) (sym (take-map pack_graph 1 p.graphs)) (All-map P pack_graph (take 1 p.graphs) (all_had (λ g. P (pack_graph g)) (take 1 p.graphs) h))

  pub packed_formed : IsProgram (packed p)
  packed_formed = record {
    image = formed.image;
    lo = formed.lo;
    hi = formed.hi;
    begins = subst (λ n. 0 < n) (sym (length-map p.graphs pack_graph)) formed.begins;
    entries = ap all_differ (same_entries pack_graph p.graphs (λ g c. refl)) ∙ formed.entries;
    graphs = each IsGraph graph_formed;
    params = each (λ g. is_param_list g.bits g.params ≡ true) param_list;
    memory_last = each (λ g. memory_params_last g.params ≡ true) memory_last;
    start = first_of (λ g. g.params ≡ []) (λ g c. ap (merged one_param) (All-contains (λ (x : Graph). x.params ≡ []) (take 1 p.graphs) g formed.start c));
    start_rets = first_of (λ g. All (λ widths. widths ≡ []) (all_ret_widths g)) (λ g c.
        All-weaker (λ widths. widths ≡ widths_of (sum_of g.entry).results) (λ widths. widths ≡ [])
        (λ widths e. e ∙ ap widths_of (All-contains (λ (x : Graph). (sum_of x.entry).results ≡ []) (take 1 p.graphs) g just.start c)) (all_ret_widths (pack_graph g)) (rets_of g.entry g (takes g (known_first p.graphs g c))));
    rets = each (λ g. (a b : List ℕ) → Contains (all_ret_widths g) a → Contains (all_ret_widths g) b → a ≡ b) (λ g c a b d e.
        All-contains (λ widths. widths ≡ widths_of (sum_of g.entry).results) (all_ret_widths (pack_graph g)) a (rets_of g.entry g (takes g c)) d
        ∙ sym (All-contains (λ widths. widths ≡ widths_of (sum_of g.entry).results) (all_ret_widths (pack_graph g)) b (rets_of g.entry g (takes g c)) e));
    calls = each (λ g. All (λ b. All (IsCalling (packed p) g) b.stmts) g.blocks) calls_still;
  }
