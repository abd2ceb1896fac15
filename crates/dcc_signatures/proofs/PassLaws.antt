-- The program in which what passes together is one value keeps the runs: the pass meets what it owes.
use Rattle.std.proofs.Common.{◌≡◌, ℕ, zero, suc, ◌+◌, ◌*◌, ◌^◌, ◌<◌, Bool, true, false, ◌&&◌, ◌||◌, List, [], ◌∷◌, ◌++◌, length, Option, Some, None, refl, sym, ap, ap₂, ◌∙◌, subst, true≢false, map, take, slice_get, flat_map}
use Rattle.std.specs.Prelude.{if◌then◌else◌, ◌==◌, nat_lt, All, Contains}
use Rattle.std.specs.List.{list_all}
use Rattle.std.proofs.lemmas.List.{map-append}
use Rattle.std.proofs.lemmas.List.Concat.{flat_map-append}
use Rattle.std.proofs.lemmas.List.Elements.{All-nil, All-cons, All-head, All-tail, All-append, All-contains}
use Rattle.dcc_run.specs.End.{is_over}
use Rattle.dcc_ir.specs.declared.syntax.Loc.{Loc}
use Rattle.dcc_ir.specs.declared.syntax.Put.{Put}
use Rattle.dcc_ir.specs.declared.syntax.Put.TheVariants.{Memory, One, Two}
use Rattle.dcc_ir.specs.declared.syntax.Param.{Param}
use Rattle.dcc_ir.specs.Tree.{Expr, Get, Binary, Stmt, Set, Fetch, Store, Div, Call, Dos, Exit, Goto, If, Switch, Ret, Stop, Block, Graph, Program, Summary}
use Rattle.dcc_ir.specs.Location.{location_width, Values}
use Rattle.dcc_ir.specs.Value.{width_of}
use Rattle.dcc_ir.specs.Use.{parts_of as subexpressions, got_by, reads_of, exprs_of}
use Rattle.dcc_ir.specs.Live.{block_in}
use Rattle.dcc_ir.specs.WellFormed.{is_location, is_stored_width, is_expr, is_expr_of, is_division, is_dividing, is_stmt, is_exit, is_block, put_width, IsGraph, IsCall, IsCalling, IsProgram}
use Rattle.dcc_ir.specs.Run.{State, value_in, is_call, stmt_step, graph_at}
use Rattle.dcc_ir.specs.Local.{Point, next_of, after_call, after_calls, Halt, Over, Jumps, switch_halt, exit_halt, local_run}
use Rattle.dcc_ir.specs.Passes.{Pass, with_values, FitIn, AgreeOutside, EndAlike, Meet}
use Rattle.dcc_ir.specs.Passing.{param_of}
use Rattle.dcc_ir.proofs.FitLaws.{both}
use Rattle.dcc_ir.proofs.GraphLaws.{found_entry}
use Rattle.dcc_ir.proofs.LocationLaws.{Contains-here, Contains-later, Contains-none, Contains-cases}
use Rattle.dcc_ir.proofs.ListLaws.{all_had}
use Rattle.dcc_ir.proofs.ReachedLaws.{found_contained, all_at, named_again}
use Rattle.dcc_ir.proofs.passes.LocalLaws.{Frame, stmt-frame}
use Rattle.dcc_ir.proofs.passes.AgreeLaws.{AgreeOn, ReadsIn, StillOn, value-on, stuck-on, weaker-on, stmt-agrees, revalued}
use Rattle.dcc_flow.proofs.FormedExprs.{reads_placed}
use Rattle.dcc_sums.specs.Localised.{GivesJust, TakesJust, CallsJust}
use Rattle.dcc_sums.proofs.SiteLaws.{contained_map, graph_of}
use Rattle.dcc_sums.proofs.ArgumentLaws.{contains_left, contains_right, words_wide, words_as_many}
use Rattle.dcc_signatures.specs.declared.packing.Fresh.{Fresh}
use Rattle.dcc_signatures.specs.Packed.{merged, one_argument, packing_of, one_value, value_places, taking_part}
use Rattle.dcc_signatures.specs.Packed.{taking_parts, pack_stmt, pack_exit, fresh_after, pack_graph}
use Rattle.dcc_signatures.proofs.MoreLaws.{rebits, value-same, step-same}
use Rattle.dcc_signatures.proofs.PutLaws.{halves_are, puts, IsGood, puts-good, got, held, arguments-packed}
use Rattle.dcc_signatures.proofs.OneLaws.{Form, given_numbers, one-given, taken, TakesBy, takes_by}

-- Lists.

-- two functions that agree on a list
map_alike : {A : Type 0} (f g : A → ℕ) (xs : List A) → ((x : A) → Contains xs x → f x ≡ g x) → map f xs ≡ map g xs
map_alike f g [] same = refl
map_alike f g (x ∷ xs) same = ap₂ (λ n ns. n ∷ ns) (same x (Contains-here x xs)) (map_alike f g xs (λ y c. same y (Contains-later x xs y c)))

map_gets : (s : State) (ls : List Loc) → map (value_in s) (map Get ls) ≡ map s.running.values ls
map_gets s [] = refl
map_gets s (l ∷ ls) = ap (λ ns. s.running.values l ∷ ns) (map_gets s ls)

pub gets_got : (ls : List Loc) → flat_map got_by (map Get ls) ≡ ls
gets_got [] = refl
gets_got (l ∷ ls) = ap (λ xs. l ∷ xs) (gets_got ls)

-- what fits, one by one
pub fit_each : {A : Type 0} (f w : A → ℕ) (xs : List A) → FitIn (map f xs) (map w xs) → (x : A) → Contains xs x → w x < 2 ^ f x
fit_each f w [] fit x c = absurd (Contains-none x c)
fit_each f w (y ∷ xs) fit x c = Contains-cases y xs x (w x < 2 ^ f x) (λ e. subst (λ z. w z < 2 ^ f z) e fit.0) (fit_each f w xs fit.1 x) c

-- What holds of all statements holds of those after some calls.
module _ (P : Stmt → Type 0) where
  past_call : (stmts : List Stmt) → All P stmts → All P (after_call stmts)
  past_call [] all = all
  past_call (Call results entry arguments depth ∷ rest) all = All-tail P (Call results entry arguments depth) rest all
  past_call (stmt ∷ rest) all = past_call rest (All-tail P stmt rest all)

  pub past_calls : (calls : ℕ) (stmts : List Stmt) → All P stmts → All P (after_calls calls stmts)
  past_calls zero stmts all = all
  past_calls (suc calls) stmts all = past_call (after_calls calls stmts) (past_calls calls stmts all)

-- Parts of a temporary that are still to be taken.
module _ (temporary : ℕ) (two : Bool) where
  abbrev sets : List Loc → List Stmt
  sets pending = map (taking_part temporary two) pending

  pub pending-run : (pending : List Loc) (rest : List Stmt) (t : State) → is_over t.end ≡ false → local_run (sets pending ++ rest) t ≡ local_run rest (revalued (taken temporary two t.running.values pending) t)
  pending-run [] rest t on = refl
  pending-run (x ∷ pending) rest t on =
      let next = stmt_step (taking_part temporary two x) t in
      ap (λ b. if b then Over next else local_run (sets pending ++ rest) next) on ∙ pending-run pending rest next on

  pub pending-call : (pending : List Loc) (rest : List Stmt) → after_call (sets pending ++ rest) ≡ after_call rest
  pending-call [] rest = refl
  pending-call (x ∷ pending) rest = pending-call pending rest

-- A well-formed statement without a call reads locations of its graph.
module _ (bits : List ℕ) where
  abbrev Has : Loc → Type 0
  Has l = is_location bits l ≡ true

  abbrev Reads : Expr → Type 0
  Reads e = ReadsIn Has e

  reads_one : (e : Expr) → is_expr bits e ≡ true → All Reads (e ∷ [])
  reads_one e ok = All-cons Reads e [] (reads_placed bits e ok) (All-nil Reads)

  formed_of : (width : ℕ) (e : Expr) → is_expr_of bits width e ≡ true → is_expr bits e ≡ true
  formed_of width e ok = (both (is_expr bits e) (width_of bits e == width) ok).0

  division_reads : (width : ℕ) (e : Expr) → is_dividing bits width e ≡ true → All Reads (e ∷ [])
  division_reads width (Binary operator w a b) ok =
      let four = both (is_division operator && (w == width) && is_stored_width width && is_expr_of bits width a) (is_expr_of bits width b) ok in
      let three = both (is_division operator && (w == width) && is_stored_width width) (is_expr_of bits width a) four.0 in
      All-cons Reads (Binary operator w a b) []
      (subst (All Has) (sym (flat_map-append got_by (subexpressions a) (subexpressions b)))
      (All-append Has (reads_of a) (reads_of b) (reads_placed bits a (formed_of width a three.1)) (reads_placed bits b (formed_of width b four.1)))) (All-nil Reads)
  division_reads width e ok = absurd (true≢false (sym ok))

  dos_reads : (number : ℕ) (place : Option Loc) (argument : Option Expr) → is_stmt bits (Dos number place argument) ≡ true → All Reads (exprs_of (Dos number place argument))
  dos_reads number place None ok = All-nil Reads
  dos_reads number None (Some e) ok = reads_one e (formed (number == 0x02) (number == 0x4C) (number == 0x09) (is_expr bits e) (width_of bits e == 8) (width_of bits e == 16) ok)
    where
      formed : (a b c x y z : Bool) → (((a || b) && (x && y)) || (c && (x && z))) ≡ true → x ≡ true
      formed a b c true y z e = refl
      formed true b true false y z e = absurd (true≢false (sym e))
      formed true b false false y z e = absurd (true≢false (sym e))
      formed false true true false y z e = absurd (true≢false (sym e))
      formed false true false false y z e = absurd (true≢false (sym e))
      formed false false true false y z e = absurd (true≢false (sym e))
      formed false false false false y z e = absurd (true≢false (sym e))
  dos_reads number (Some l) (Some e) ok = absurd (true≢false (sym ok))

  stmt_reads : (stmt : Stmt) → is_call stmt ≡ false → is_stmt bits stmt ≡ true → All Reads (exprs_of stmt)
  stmt_reads (Set l e) plain ok = reads_one e (formed_of (location_width bits l) e (both (is_location bits l) (is_expr_of bits (location_width bits l) e) ok).1)
  stmt_reads (Fetch l width a) plain ok = reads_one a (formed_of 16 a (both (is_location bits l && is_stored_width width && (location_width bits l == width)) (is_expr_of bits 16 a) ok).1)
  stmt_reads (Store width a e) plain ok =
      let two = both (is_stored_width width && is_expr_of bits 16 a) (is_expr_of bits width e) ok in
      let one = both (is_stored_width width) (is_expr_of bits 16 a) two.0 in
      All-cons Reads a (e ∷ []) (reads_placed bits a (formed_of 16 a one.1)) (reads_one e (formed_of width e two.1))
  stmt_reads (Div l e) plain ok = division_reads (location_width bits l) e (both (is_location bits l) (is_dividing bits (location_width bits l) e) ok).1
  stmt_reads (Call results entry arguments depth) plain ok = absurd (true≢false plain)
  stmt_reads (Dos number place argument) plain ok = dos_reads number place argument ok

-- the state in which a call is made, with the statements that follow it
abbrev pausing : List Stmt → State → State
pausing rest s = record s { running = record s.running { rest = rest; begins = false } }

-- The pass.

-- a location of one width in all graphs
abbrev pub IsFixed : Loc → Type 0
IsFixed l = (bits : List ℕ) → location_width bits l ≡ location_width [] l

-- Just what the summaries say passes in and out of every graph, no temporaries among it, and what is given back has one
-- of the forms. The first graph gives nothing back.
pub record AllJust (sum_of : ℕ → Summary) (p : Program) : Type 0 where
  pub graphs : All (λ g. TakesJust (sum_of g.entry) g) p.graphs
  pub calls : All (λ g. All (λ b. All (CallsJust sum_of) b.stmts) g.blocks) p.graphs
  pub params : (entry : ℕ) → All IsFixed (sum_of entry).params
  pub results : (entry : ℕ) → All IsFixed (sum_of entry).results
  pub forms : (entry : ℕ) → Form (sum_of entry).results
  pub start : All (λ g. (sum_of g.entry).results ≡ []) (take 1 p.graphs)

-- the arguments apart, and together
pub record Enters (ls : List Loc) (a a' : List ℕ) : Type 0 where
  pub words : List ℕ
  pub values : Values
  pub apart : a ≡ words ++ map values ls
  pub together : a' ≡ words ++ map (held values) (puts ls)

-- the values that are given back apart, and as one
pub record Leaves (ls : List Loc) (r r' : List ℕ) : Type 0 where
  pub values : Values
  pub apart : r ≡ map values ls
  pub one : r' ≡ given_numbers values ls

module _ (p : Program) (sum_of : ℕ → Summary) where
  abbrev pub fresh_at : ℕ → Fresh
  fresh_at entry = fresh_after (graph_of p entry).bits

  abbrev pub stmts_at : Point → List Stmt
  stmts_at point = (block_in (graph_of p point.entry) point.place).stmts

  -- Some parts of a temporary are still to be taken. When they are, all locations of the graph hold the same.
  pub record Meets (point : Point) (v v' : Values) : Type 0 where
    pub temporary : ℕ
    pub two : Bool
    pub pending : List Loc
    pub rest : after_calls point.calls (flat_map (pack_stmt (fresh_at point.entry)) (stmts_at point))
        ≡ map (taking_part temporary two) pending ++ flat_map (pack_stmt (fresh_at point.entry)) (after_calls point.calls (stmts_at point))
    pub values : (l : Loc) → is_location (graph_of p point.entry).bits l ≡ true → taken temporary two v' pending l ≡ v l

  abbrev pub pass : Pass
  pass = record {
    place = λ entry n. n;
    Enter = λ entry a a'. Enters (sum_of entry).params a a';
    Leave = λ entry a r r'. Leaves (sum_of entry).results r r';
    Inv = λ a point v v'. Meets point v v';
  }

module _ (p : Program) (sum_of : ℕ → Summary) (formed : IsProgram p) (just : AllJust sum_of p) where
  known : (entry : ℕ) (g : Graph) → graph_at p.graphs entry ≡ Some g → Contains p.graphs g
  known entry g found = found_contained (λ x. x.entry == entry) p.graphs g found

  pub takes_just : (entry : ℕ) (g : Graph) → graph_at p.graphs entry ≡ Some g → TakesJust (sum_of entry) g
  takes_just entry g found =
      subst (λ n. TakesJust (sum_of n) g) (found_entry p.graphs entry g found) (All-contains (λ (x : Graph). TakesJust (sum_of x.entry) x) p.graphs g just.graphs (known entry g found))

  -- From a point of a block.
  module _ (a : List ℕ) (point : Point) (found : graph_at p.graphs point.entry ≡ Some (graph_of p point.entry)) (placed : Contains (graph_of p point.entry).blocks (block_in (graph_of p point.entry) point.place)) where
    abbrev g : Graph
    g = graph_of p point.entry

    abbrev block : Block
    block = block_in g point.place

    abbrev fresh : Fresh
    fresh = fresh_at p sum_of point.entry

    abbrev pub Fine : Stmt → Type 0
    Fine stmt = (is_stmt g.bits stmt ≡ true) × IsCalling p g stmt × CallsJust sum_of stmt

    -- where the runs stand in the block
    pub record Stand (stmts : List Stmt) (s t : State) : Type 0 where
      pub graph : s.running.graph ≡ g
      pub other : t.running.graph ≡ pack_graph g
      pub here : s.running.block ≡ block
      pub there : t.running.block.exit ≡ pack_exit block.exit
      pub fine : All Fine stmts
      pub follows : after_call stmts ≡ after_calls (suc point.calls) block.stmts
      pub next : after_calls (suc point.calls) (flat_map (pack_stmt fresh) block.stmts) ≡ after_call (flat_map (pack_stmt fresh) stmts)

    abbrev Agree : State → State → Type 0
    Agree s t = AgreeOn (Has g.bits) s (rebits g.bits t)

    is_graph : IsGraph g
    is_graph = All-contains IsGraph p.graphs g formed.graphs (known point.entry g found)

    fine_block : (list_all (is_stmt g.bits) block.stmts ≡ true) × (is_exit g.bits (length g.blocks) block.exit ≡ true)
    fine_block = both (list_all (is_stmt g.bits) block.stmts) (is_exit g.bits (length g.blocks) block.exit) (all_at (is_block g.bits (length g.blocks)) g.blocks block is_graph.blocks placed)

    pub all_fine : All Fine block.stmts
    all_fine = all_had Fine block.stmts (λ stmt c. (
      all_at (is_stmt g.bits) block.stmts stmt fine_block.0 c,
      All-contains (IsCalling p g) block.stmts stmt (All-contains (λ (b : Block). All (IsCalling p g) b.stmts) g.blocks block
          (All-contains (λ (x : Graph). All (λ b. All (IsCalling p x) b.stmts) x.blocks) p.graphs g formed.calls (known point.entry g found)) placed) c,
      All-contains (CallsJust sum_of) block.stmts stmt (All-contains (λ (b : Block). All (CallsJust sum_of) b.stmts) g.blocks block
          (All-contains (λ (x : Graph). All (λ b. All (CallsJust sum_of) b.stmts) x.blocks) p.graphs g just.calls (known point.entry g found)) placed) c,
    ))

    module _ (s t : State) (other : t.running.graph ≡ pack_graph g) (h : Agree s t) where
      -- an expression has one value
      read : (e : Expr) → is_expr g.bits e ≡ true → value_in t e ≡ value_in s e
      read e ok =
          value-same g.bits (16 ∷ 32 ∷ []) t (ap (λ (x : Graph). x.bits) other) e ok ∙ value-on (Has g.bits) s (rebits g.bits t) h e (reads_placed g.bits e ok)

      outside : AgreeOutside s t
      outside = record { memory = h.outside.memory; input = h.outside.input; events = h.outside.events; base = h.outside.base }

      -- the states that are left when a call is made agree outside the locations
      paused : (rest rest' : List Stmt) → AgreeOutside (pausing rest s) (pausing rest' t)
      paused rest rest' = record { memory = outside.memory; input = outside.input; events = outside.events; base = outside.base }

      -- The end of the block.

      jump-meets : (place place' : ℕ) → place' ≡ place → Meet (pass p sum_of) a point 0 (Jumps place s) (Jumps place' t)
      jump-meets place place' same = record {
        stands = sym same;
        outside = outside;
        holds = subst (λ m. Meets p sum_of (record { entry = point.entry; place = m; calls = 0 }) s.running.values t.running.values) (sym same)
            (record { temporary = 0; two = false; pending = []; rest = refl; values = h.values });
      }

      switch-meets : (place : Option ℕ) → Meet (pass p sum_of) a point 0 (switch_halt place s) (switch_halt place t)
      switch-meets (Some place) = jump-meets place place refl
      switch-meets None = let over = stuck-on (Has g.bits) s (rebits g.bits t) h in record { end = over.end; events = over.outside.events }

      exit-meets : (exit : Exit) → block.exit ≡ exit → is_exit g.bits (length g.blocks) exit ≡ true → Meet (pass p sum_of) a point 0 (exit_halt exit s) (exit_halt (pack_exit exit) t)
      exit-meets (Goto place) is ok = jump-meets place place refl
      exit-meets (If test one other) is ok =
          let first = both (is_expr_of g.bits 1 test && nat_lt one (length g.blocks)) (nat_lt other (length g.blocks)) ok in
          let tested = both (is_expr_of g.bits 1 test) (nat_lt one (length g.blocks)) first.0 in
          jump-meets _ _ (ap (λ n. if n == 1 then one else other) (read test (formed_of g.bits 1 test tested.0)))
      exit-meets (Switch e places) is ok =
          let parts = both (is_expr_of g.bits 16 e && _) (list_all (λ place. nat_lt place (length g.blocks)) places) ok in
          let switched = both (is_expr_of g.bits 16 e) _ parts.0 in
          subst (λ n. Meet (pass p sum_of) a point 0 (switch_halt (slice_get places (value_in s e)) s) (switch_halt (slice_get places n) t)) (sym (read e (formed_of g.bits 16 e switched.0)))
          (switch-meets (slice_get places (value_in s e)))
      exit-meets (Ret values) is ok = record {
        outside = outside;
        leaves = subst (λ es. Leaves ls (map (value_in s) es) (map (value_in t) (one_value (flat_map got_by es) es))) (sym gives) (record {
          values = s.running.values;
          apart = map_gets s ls;
          one = ap (λ xs. map (value_in t) (one_value xs (map Get ls))) (gets_got ls)
              ∙ one-given t s.running.values ls (λ l c. h.values l (all_at (is_expr g.bits) values (Get l) ok (subst (λ es. Contains es (Get l)) (sym gives) (contained_map Get ls l c)))) (just.forms point.entry);
        });
      }
        where
          ls : List Loc
          ls = (sum_of point.entry).results

          gives : values ≡ map Get ls
          gives = subst (GivesJust ls) is (All-contains (λ (b : Block). GivesJust ls b.exit) g.blocks block (takes_just point.entry g found).rets placed)
      exit-meets Stop is ok = let over = stuck-on (Has g.bits) s (rebits g.bits t) h in record { end = over.end; events = over.outside.events }

      -- Arguments.

      puts-read : (qs : List Put) → All (IsGood (Has g.bits)) qs → map (value_in t) (map got qs) ≡ map (held s.running.values) qs
      puts-read [] good = refl
      puts-read (q ∷ qs) good = ap₂ (λ n ns. n ∷ ns) (one q (All-head (IsGood (Has g.bits)) q qs good)) (puts-read qs (All-tail (IsGood (Has g.bits)) q qs good))
        where
          one : (q : Put) → IsGood (Has g.bits) q → value_in t (got q) ≡ held s.running.values q
          one Memory good = absurd good
          one (One l) good = h.values l good
          one (Two low high) good =
              let is = (halves_are low high good.0).1 in
              ap₂ (λ n w. n * 2 ^ w + t.running.values low) (h.values high good.2) (ap (location_width t.running.graph.bits) is)
              ∙ ap (λ n. s.running.values high * 256 + n) (h.values low good.1)

      enters : (results : List Loc) (entry : ℕ) (arguments : List Expr) (depth : ℕ) → Fine (Call results entry arguments depth) → Enters (sum_of entry).params (map (value_in s) arguments) (map (value_in t) (merged one_argument arguments))
      enters results entry arguments depth fine = record {
        words = map (value_in s) words;
        values = s.running.values;
        apart = ap (map (value_in s)) taken_so ∙ map-append (value_in s) words (map Get params) ∙ ap (λ ns. map (value_in s) words ++ ns) (map_gets s params);
        together = ap (λ es. map (value_in t) (merged one_argument es)) taken_so ∙ ap (map (value_in t)) (arguments-packed g.bits words params wide)
            ∙ map-append (value_in t) words (map got (puts params))
            ∙ ap₂ (λ x y. x ++ y) (map_alike (value_in t) (value_in s) words (λ e c. read e (ok e (contains_left words (map Get params) e c))))
            (puts-read (puts params) (puts-good (Has g.bits) params (all_had (Has g.bits) params (λ l c. ok (Get l) (contains_right words (map Get params) (Get l) (contained_map Get params l c))))));
      }
        where
          params : List Loc
          params = (sum_of entry).params

          words : List Expr
          words = fine.2.1.0

          taken_so : arguments ≡ words ++ map Get params
          taken_so = fine.2.1.1

          call : IsCall p g results entry arguments
          call = fine.1

          callee_there : graph_at p.graphs entry ≡ Some call.callee
          callee_there = named_again p.graphs entry call.callee formed.entries call.named

          callee_takes : TakesJust (sum_of entry) call.callee
          callee_takes = takes_just entry call.callee callee_there

          widths : map (width_of g.bits) (words ++ map Get params) ≡ map (λ (q : Param). put_width call.callee.bits q.put) (callee_takes.words ++ map param_of params)
          widths = ap (map (width_of g.bits)) (sym taken_so) ∙ call.taken ∙ ap (map (λ (q : Param). put_width call.callee.bits q.put)) callee_takes.params

          as_many : length words ≡ length callee_takes.words
          as_many = words_as_many (width_of g.bits) (λ (q : Param). put_width call.callee.bits q.put) words callee_takes.words params widths

          wide : (e : Expr) → Contains words e → width_of g.bits e ≡ 16
          wide e c = words_wide g.bits call.callee.bits callee_takes.words (map param_of params) words (map Get params) as_many widths callee_takes.stack e c

          ok : (e : Expr) → Contains (words ++ map Get params) e → is_expr g.bits e ≡ true
          ok e c =
              let parts = both (list_all (is_location g.bits) results && list_all (is_expr g.bits) arguments) (nat_lt depth 65536) fine.0 in
              all_at (is_expr g.bits) arguments e (both (list_all (is_location g.bits) results) (list_all (is_expr g.bits) arguments) parts.0).1 (subst (λ es. Contains es e) (sym taken_so) c)

    call-meets : (results : List Loc) (entry : ℕ) (arguments : List Expr) (depth : ℕ) (rest : List Stmt) (s t : State) → Stand (Call results entry arguments depth ∷ rest) s t → Agree s t →
        Meet (pass p sum_of) a point 0 (local_run (Call results entry arguments depth ∷ rest) s) (local_run (flat_map (pack_stmt fresh) (Call results entry arguments depth ∷ rest)) t)
    call-meets results entry arguments depth rest s t stand h =
        let fine : Fine (Call results entry arguments depth) = All-head Fine (Call results entry arguments depth) rest stand.fine in
        let parts = both (list_all (is_location g.bits) results && list_all (is_expr g.bits) arguments) (nat_lt depth 65536) fine.0 in
        let places = (both (list_all (is_location g.bits) results) (list_all (is_expr g.bits) arguments) parts.0).0 in
        record {
          at_once = refl;
          entry = refl;
          depth = refl;
          outside = paused s t stand.other h rest (taking_parts fresh results ++ flat_map (pack_stmt fresh) rest);
          enters = enters s t stand.other h results entry arguments depth fine;
          resumes = λ r r' fit fit' leaves. resumed r r' fit fine places (subst (λ ls. Leaves ls r r') (sym fine.2.0) leaves);
        }
      where
        places_ok : list_all (is_location g.bits) results ≡ true → (x : Loc) → Contains results x → is_location g.bits x ≡ true
        places_ok places x c = all_at (is_location g.bits) results x places c

        resume_by : (places : list_all (is_location g.bits) results ≡ true) (r r' : List ℕ) (leaves : Leaves results r r') →
            TakesBy g.bits leaves.values results (places_ok places) s.running.values t.running.values h.values (packing_of results) →
            Meets p sum_of (next_of point) (with_values s.running.values results r) (with_values t.running.values (value_places fresh results) r')
        resume_by places r r' leaves takes = record {
          temporary = takes.temporary;
          two = takes.two;
          pending = takes.pending;
          rest = stand.next ∙ ap (λ sets. sets ++ flat_map (pack_stmt fresh) rest) takes.parts
              ∙ ap (λ stmts. map (taking_part takes.temporary takes.two) takes.pending ++ flat_map (pack_stmt fresh) stmts) stand.follows;
          values = λ l is. ap (λ ns. taken takes.temporary takes.two (with_values t.running.values (value_places fresh results) ns) takes.pending l) leaves.one
              ∙ takes.values l is ∙ ap (λ ns. with_values s.running.values results ns l) (sym leaves.apart);
        }

        fits : (r : List ℕ) (w : Values) → r ≡ map w results → FitIn (map (location_width s.running.graph.bits) results) r → FitIn (map (location_width g.bits) results) (map w results)
        fits r w apart fit =
            subst (λ (x : Graph). FitIn (map (location_width x.bits) results) (map w results)) stand.graph (subst (FitIn (map (location_width s.running.graph.bits) results)) apart fit)

        resumed : (r r' : List ℕ) → FitIn (map (location_width s.running.graph.bits) results) r → Fine (Call results entry arguments depth) → list_all (is_location g.bits) results ≡ true → Leaves results r r' →
            Meets p sum_of (next_of point) (with_values s.running.values results r) (with_values t.running.values (value_places fresh results) r')
        resumed r r' fit fine places leaves = resume_by places r r' leaves
            (takes_by g.bits leaves.values results (places_ok places) s.running.values t.running.values h.values
            (subst Form (sym fine.2.0) (just.forms entry)) (fit_each (location_width g.bits) leaves.values results (fits r leaves.values leaves.apart fit)))

    -- either both are over, or what follows meets
    both_go : (s t : State) (halt halt' : Halt) (b : Bool) → EndAlike s t → (is_over s.end ≡ false → Meet (pass p sum_of) a point 0 halt halt') → is_over s.end ≡ b →
        Meet (pass p sum_of) a point 0 (if b then Over s else halt) (if b then Over t else halt')
    both_go s t halt halt' true over on e = over
    both_go s t halt halt' false over on e = on e

    pub block-meets : (stmts : List Stmt) (s t : State) → Stand stmts s t → Agree s t → Meet (pass p sum_of) a point 0 (local_run stmts s) (local_run (flat_map (pack_stmt fresh) stmts) t)
    block-meets [] s t stand h =
        subst (λ exit. Meet (pass p sum_of) a point 0 (exit_halt s.running.block.exit s) (exit_halt exit t)) (sym stand.there)
        (subst (λ (b : Block). Meet (pass p sum_of) a point 0 (exit_halt b.exit s) (exit_halt (pack_exit block.exit) t)) (sym stand.here)
        (exit-meets s t stand.other h block.exit refl fine_block.1))
    block-meets (Call results entry arguments depth ∷ rest) s t stand h = call-meets results entry arguments depth rest s t stand h
    block-meets (stmt ∷ rest) s t stand h =
        let next_s = stmt_step stmt s in
        let next_t = stmt_step stmt t in
        let ok = (All-head Fine stmt rest stand.fine).0 in
        let next : AgreeOn (StillOn (Has g.bits) next_s) next_s (rebits g.bits next_t) =
        subst (AgreeOn (StillOn (Has g.bits) next_s) next_s) (sym (step-same g.bits (16 ∷ 32 ∷ []) t (ap (λ (x : Graph). x.bits) stand.other) stmt refl ok))
        (stmt-agrees (Has g.bits) stmt s (rebits g.bits t) refl (stmt_reads g.bits stmt refl ok) h) in
        let on = λ (e : is_over next_s.end ≡ false). block-meets rest next_s next_t (record {
          graph = ap (λ (f : Frame). f.graph) (stmt-frame stmt s) ∙ stand.graph;
          other = ap (λ (f : Frame). f.graph) (stmt-frame stmt t) ∙ stand.other;
          here = ap (λ (f : Frame). f.block) (stmt-frame stmt s) ∙ stand.here;
          there = ap (λ (f : Frame). f.block.exit) (stmt-frame stmt t) ∙ stand.there;
          fine = All-tail Fine stmt rest stand.fine;
          follows = stand.follows;
          next = stand.next;
        }) (weaker-on (StillOn (Has g.bits) next_s) (Has g.bits) next_s (rebits g.bits next_t) (λ l m. (e, m)) next) in
        subst (λ b. Meet (pass p sum_of) a point 0 (if is_over next_s.end then Over next_s else local_run rest next_s)
        (if b then Over next_t else local_run (flat_map (pack_stmt fresh) rest) next_t))
        (sym (ap is_over next.end))
        (both_go next_s next_t (local_run rest next_s) (local_run (flat_map (pack_stmt fresh) rest) next_t) (is_over next_s.end)
        (record { end = next.end; events = next.outside.events }) on refl)
