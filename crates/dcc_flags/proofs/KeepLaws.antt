-- The graph in which flags are folded may stand in the place of the graph.
use Rattle.std.proofs.Common.{◌≡◌, ℕ, zero, suc, ◌+◌, ◌/◌, ◌%◌, Bool, true, false, ◌&&◌, ◌||◌, inl, inr, List, [], ◌∷◌, ◌++◌, length, drop, Option, Some, None, refl, sym, ap, ap₂, ◌∙◌, subst, true≢false, map, flat_map, slice_get, Contains, eq-eqb, append_assoc}
use Rattle.std.specs.Prelude.{if◌then◌else◌, ◌==◌, nat_lt, nat_le, All}
use Rattle.std.specs.List.{list_all, list_any}
use Rattle.std.proofs.lemmas.List.Elements.{All-nil, All-cons}
use Rattle.dcc_run.specs.End.{is_over}
use Rattle.dcc_num.specs.declared.FlagName.{FlagName}
use Rattle.dcc_ir.specs.declared.syntax.Loc.{Loc}
use Rattle.dcc_ir.specs.declared.syntax.Loc.TheVariants.{Half, Flag, Cell, Temp}
use Rattle.dcc_ir.specs.declared.syntax.Put.{Put}
use Rattle.dcc_ir.specs.declared.syntax.Put.TheVariants.{Memory, One, Two}
use Rattle.dcc_ir.specs.declared.syntax.Param.{Param}
use Rattle.dcc_ir.specs.Tree.{Expr, Stmt, Set, Fetch, Store, Div, Call, Dos, Exit, Goto, If, Switch, Ret, Stop, Block, Graph, Program}
use Rattle.dcc_ir.specs.Location.{location_width, Values, with_value, fill_at, filled}
use Rattle.dcc_ir.specs.WellFormed.{is_width, is_location, is_expr, is_expr_of, is_stmt, is_exit, is_put, IsGraph, IsProgram}
use Rattle.dcc_ir.specs.Use.{writes_of, exit_exprs}
use Rattle.dcc_ir.specs.Live.{reads, block_in, follows}
use Rattle.dcc_ir.specs.Joinable.{places_of, next_exprs}
use Rattle.dcc_ir.specs.Flow.{targets}
use Rattle.dcc_ir.specs.Run.{State, Activation, putting, passing, is_call, scene_of, value_in, setting, stmt_step}
use Rattle.dcc_ir.specs.Local.{Point, start_of, next_of, after_call, after_calls, Halt, Over, Jumps, switch_halt, exit_halt, local_run, halt_of}
use Rattle.dcc_ir.specs.Passes.{with_values, EndAlike, Meet}
use Rattle.dcc_ir.proofs.FitLaws.{both}
use Rattle.dcc_ir.proofs.PathLaws.{decided}
use Rattle.dcc_ir.proofs.FitStates.{IsFit, scene-fits, stmt-fit}
use Rattle.dcc_ir.proofs.LocationLaws.{Contains-here, Contains-later, Contains-none, Contains-cases, contains_among}
use Rattle.dcc_ir.proofs.ReachedLaws.{all_at}
use Rattle.dcc_ir.proofs.passes.LocalLaws.{some_same, is_running, Frame, stmt-frame}
use Rattle.dcc_flags.specs.declared.kept.Kept.{Kept}
use Rattle.dcc_flags.specs.Reaching.{Start, rest_at, begins, goes, reads_at, IsKept, param}
use Rattle.dcc_flags.specs.Folding.{is_kept, Choices, with_choices, stmt_with_choices, exit_with_choices, taken, stmt_folded, stmts_folded, block_folded}
use Rattle.dcc_flags.proofs.TakenLaws.{is_copy, after_sets, copies_more}
use Rattle.dcc_flags.proofs.SpotLaws.{Spot, past, walked_more, walked_end, Fine, fine_wider, def_taken, stmt_still}
use Rattle.dcc_flags.proofs.PlanLaws.{Plan, stmts_at}
use Rattle.dcc_flags.proofs.HoldLaws.{spot, plain, Holding, holding_set, holding_moves, own, own_bits, holding_results, holding_defined, stmts_fine, spot_fine, spot_whole, value_holds, drop_next, drop_all}
use Rattle.dcc_flags.proofs.MeetLaws.{Both, Stays, stuck_both, step_value, step_both, written_plain, moves, by_kept}
use Rattle.dcc_passes.specs.OneGraph.{Invariant, one_pass, BeginsIn, GoesIn}
use Rattle.dcc_passes.proofs.OneGraphLaws.{may-stand, form-fits}
use Rattle.dcc_ir.proofs.passes.FormLaws.{width_more}
use Rattle.dcc_ir.specs.Form.{GraphStays}
use Rattle.dcc_ir.specs.Replaced.{IsKeptWith}
use Rattle.dcc_ir.specs.Fitting.{StateFits}

-- the copies of a definition, one after another
abbrev set_state : List Stmt → State → State
set_state cs t = record t { running = record t.running { values = (after_sets cs (scene_of t)).values } }

copy_run : (low : ℕ) (bits : List ℕ) (cs rest : List Stmt) (t : State) → list_all (is_copy low bits) cs ≡ true → is_over t.end ≡ false → local_run (cs ++ rest) t ≡ local_run rest (set_state cs t)
copy_run low bits [] rest t ok on = refl
copy_run low bits (Set (Temp n) e ∷ cs) rest t ok on =
    let parts = both (is_copy low bits (Set (Temp n) e)) (list_all (is_copy low bits) cs) ok in
    ap (λ b. if b then Over (setting (Temp n) (value_in t e) t) else local_run (cs ++ rest) (setting (Temp n) (value_in t e) t)) on
    ∙ copy_run low bits cs rest (setting (Temp n) (value_in t e) t) parts.1 on
copy_run low bits (Set (Half r h) e ∷ cs) rest t ok on = absurd (true≢false (sym ok))
copy_run low bits (Set (Flag f) e ∷ cs) rest t ok on = absurd (true≢false (sym ok))
copy_run low bits (Set (Cell n h) e ∷ cs) rest t ok on = absurd (true≢false (sym ok))
copy_run low bits (Fetch l w a ∷ cs) rest t ok on = absurd (true≢false (sym ok))
copy_run low bits (Store w a e ∷ cs) rest t ok on = absurd (true≢false (sym ok))
copy_run low bits (Div l e ∷ cs) rest t ok on = absurd (true≢false (sym ok))
copy_run low bits (Call r n a d ∷ cs) rest t ok on = absurd (true≢false (sym ok))
copy_run low bits (Dos n p a ∷ cs) rest t ok on = absurd (true≢false (sym ok))

copy_fits : (low : ℕ) (cs : List Stmt) (t : State) → list_all (is_copy low t.running.graph.bits) cs ≡ true → IsFit t → IsFit (set_state cs t)
copy_fits low [] t ok fit = fit
copy_fits low (Set (Temp n) e ∷ cs) t ok fit =
    let parts = both (is_copy low t.running.graph.bits (Set (Temp n) e)) (list_all (is_copy low t.running.graph.bits) cs) ok in
    let fine = (both (nat_le low n) (is_stmt t.running.graph.bits (Set (Temp n) e)) parts.0).1 in
    copy_fits low cs (setting (Temp n) (value_in t e) t) parts.1 (stmt-fit (Set (Temp n) e) t fine fit)
copy_fits low (Set (Half r h) e ∷ cs) t ok fit = absurd (true≢false (sym ok))
copy_fits low (Set (Flag f) e ∷ cs) t ok fit = absurd (true≢false (sym ok))
copy_fits low (Set (Cell n h) e ∷ cs) t ok fit = absurd (true≢false (sym ok))
copy_fits low (Fetch l w a ∷ cs) t ok fit = absurd (true≢false (sym ok))
copy_fits low (Store w a e ∷ cs) t ok fit = absurd (true≢false (sym ok))
copy_fits low (Div l e ∷ cs) t ok fit = absurd (true≢false (sym ok))
copy_fits low (Call r n a d ∷ cs) t ok fit = absurd (true≢false (sym ok))
copy_fits low (Dos n p a ∷ cs) t ok fit = absurd (true≢false (sym ok))

-- copies hold no call
copy_calls : (low : ℕ) (bits : List ℕ) (cs rest : List Stmt) → list_all (is_copy low bits) cs ≡ true → after_call (cs ++ rest) ≡ after_call rest
copy_calls low bits [] rest ok = refl
copy_calls low bits (Set (Temp n) e ∷ cs) rest ok = copy_calls low bits cs rest (both (is_copy low bits (Set (Temp n) e)) (list_all (is_copy low bits) cs) ok).1
copy_calls low bits (Set (Half r h) e ∷ cs) rest ok = absurd (true≢false (sym ok))
copy_calls low bits (Set (Flag f) e ∷ cs) rest ok = absurd (true≢false (sym ok))
copy_calls low bits (Set (Cell n h) e ∷ cs) rest ok = absurd (true≢false (sym ok))
copy_calls low bits (Fetch l w a ∷ cs) rest ok = absurd (true≢false (sym ok))
copy_calls low bits (Store w a e ∷ cs) rest ok = absurd (true≢false (sym ok))
copy_calls low bits (Div l e ∷ cs) rest ok = absurd (true≢false (sym ok))
copy_calls low bits (Call r n a d ∷ cs) rest ok = absurd (true≢false (sym ok))
copy_calls low bits (Dos n p a ∷ cs) rest ok = absurd (true≢false (sym ok))

-- expressions have their values with choices in them
same_values : (c : Choices) (s t : State) (es : List Expr) → ((e : Expr) → Contains es e → value_in t (with_choices c e) ≡ value_in s e) → map (value_in t) (map (with_choices c) es) ≡ map (value_in s) es
same_values c s t [] same = refl
same_values c s t (e ∷ es) same = ap₂ (λ n ns. n ∷ ns) (same e (Contains-here e es)) (same_values c s t es (λ x d. same x (Contains-later e es x d)))

module _ (graph after : Graph) (kept : Kept) (is : IsGraph graph) (exact : (f : FlagName) → is_kept kept f ≡ false → IsKept graph f → ⊥) (plan : Plan graph after kept) (same_entry : after.entry ≡ graph.entry) where
  abbrev olds : ℕ → List Stmt
  olds b = stmts_at graph after kept b

  abbrev at_spot : ℕ → ℕ → Spot
  at_spot b k = spot graph after kept is exact plan b k

  -- what stands in place of statements, from a spot on
  abbrev from_spot : Spot → List Stmt → List Stmt
  from_spot w rest = (stmts_folded kept w.bits w.choices rest).stmts

  abbrev news : ℕ → List Stmt
  news b = from_spot (plan.start b) (olds b)

  pub record Here (point : Point) (v v' : Values) : Type 0 where
    pub k : ℕ
    pub old_rest : drop k (olds point.place) ≡ after_calls point.calls (olds point.place)
    pub new_rest : from_spot (at_spot point.place k) (drop k (olds point.place)) ≡ after_calls point.calls (news point.place)
    pub holds : Holding graph after kept is exact plan point.place k v v'

  abbrev pub inv : Invariant
  inv point v v' = Here point v v'

  module _ (a : List ℕ) (point : Point) where
    abbrev Meets : Halt → Halt → Type 0
    Meets h h' = Meet (one_pass (λ n. n) inv) a point 0 h h'

    abbrev b : ℕ
    b = point.place

    record Standing (k : ℕ) (s t : State) : Type 0 where
      graph_is : s.running.graph ≡ graph
      graph'_is : t.running.graph ≡ after
      exit : s.running.block.exit ≡ (block_in graph b).exit
      exit' : t.running.block.exit ≡ exit_with_choices (stmts_folded kept (plan.start b).bits (plan.start b).choices (olds b)).choices (block_in graph b).exit
      running : is_over s.end ≡ false
      fits : IsFit t
      alike : Both graph after kept is exact plan b k s t
      calls_old : after_call (drop k (olds b)) ≡ after_calls (suc point.calls) (olds b)
      calls_new : after_call (from_spot (at_spot b k) (drop k (olds b))) ≡ after_calls (suc point.calls) (news b)

    -- The end of the block.

    jumps : (k : ℕ) (place place' : ℕ) (s t : State) → rest_at graph b k ≡ [] → Contains (targets (block_in graph b).exit) place → place' ≡ place → Both graph after kept is exact plan b k s t → Meets (Jumps place s) (Jumps place' t)
    jumps k place place' s t at to same h = record {
      stands = sym same;
      outside = h.outside;
      holds = subst (λ x. inv (record { entry = point.entry; place = x; calls = 0 }) s.running.values t.running.values) (sym same)
          (record { k = 0; old_rest = refl; new_rest = refl; holds = gone });
    }
      where
        edge_in : (places : List ℕ) → Contains places place → list_any (λ x. x == place) places ≡ true
        edge_in [] c = absurd (Contains-none place c)
        edge_in (x ∷ xs) c = Contains-cases x xs place (list_any (λ y. y == place) (x ∷ xs) ≡ true)
            (λ e. ap (λ z. z || list_any (λ y. y == place) xs) (eq-eqb x place e))
            (λ d. or_there (x == place) (list_any (λ y. y == place) xs) (edge_in xs d)) c
          where
            or_there : (y z : Bool) → z ≡ true → (y || z) ≡ true
            or_there true z e = refl
            or_there false z e = e

        edge : follows graph b place ≡ true
        edge = edge_in (targets (block_in graph b).exit) to

        gone : Holding graph after kept is exact plan place 0 s.running.values t.running.values
        gone = record {
          known = plan.edges b place h.holds.known edge;
          same = h.holds.same;
          flags = λ f none. let x = h.holds.flags f none in record { definition = x.definition; reaches = goes x.reaches at edge; value = x.value };
          leaves = λ f none. plan.agrees place (plan.edges b place h.holds.known edge) f none;
        }

    one_of : (x : Bool) (one other : ℕ) → Contains (one ∷ other ∷ []) (if x then one else other)
    one_of true one other = Contains-here one (other ∷ [])
    one_of false one other = Contains-later one (other ∷ []) other (Contains-here other [])

    slice_contained : (xs : List ℕ) (n x : ℕ) → slice_get xs n ≡ Some x → Contains xs x
    slice_contained [] n x e = absurd (cc)
    slice_contained (y ∷ ys) zero x e = let same : y ≡ x = cc in subst (Contains (y ∷ ys)) same (Contains-here y ys)
    slice_contained (y ∷ ys) (suc n) x e = Contains-later y ys x (slice_contained ys n x e)

    exit_meets : (k : ℕ) (s t : State) → rest_at graph b k ≡ [] → Standing k s t → (exit : Exit) → (block_in graph b).exit ≡ exit → is_exit graph.bits (length graph.blocks) exit ≡ true →
        Meets (exit_halt exit s) (exit_halt (exit_with_choices (at_spot b k).choices exit) t)
    exit_meets k s t at st exit is_it fine = go exit is_it fine
      where
        read_at : (f : FlagName) → reads (exit_exprs (block_in graph b).exit) (Flag f) ≡ true → reads_at graph f b k ≡ true
        read_at f r = ap (λ l. reads (next_exprs l (block_in graph b).exit) (Flag f)) at ∙ r

        value : (exit : Exit) → (block_in graph b).exit ≡ exit → (e : Expr) → Contains (exit_exprs exit) e → is_expr graph.bits e ≡ true → value_in t (with_choices (at_spot b k).choices e) ≡ value_in s e
        value exit same e c ok =
            value_holds graph after kept is exact plan b k s.running.values t.running.values st.alike.holds (exit_exprs exit) (λ f r. read_at f (ap (λ x. reads (exit_exprs x) (Flag f)) same ∙ r)) (scene_of s) (scene_of t)
            (ap (λ (g : Graph). g.bits) st.graph_is) (ap (λ (g : Graph). g.bits) st.graph'_is) st.alike.outside.base st.alike.outside.memory (scene-fits t st.fits) (λ l. refl) (λ l. refl) e c ok

        switched : (e : Expr) (places : List ℕ) → (block_in graph b).exit ≡ Switch e places → (n : ℕ) (place : Option ℕ) → slice_get places n ≡ place → Meets (switch_halt place s) (switch_halt place t)
        switched e places same n (Some place) found = jumps k place place s t at (subst (λ x. Contains (targets x) place) (sym same) (slice_contained places n place found)) refl st.alike
        switched e places same n None found = let over = stuck_both graph after kept is exact plan b k s t st.alike in record { end = over.end; events = over.outside.events }

        go : (exit : Exit) → (block_in graph b).exit ≡ exit → is_exit graph.bits (length graph.blocks) exit ≡ true → Meets (exit_halt exit s) (exit_halt (exit_with_choices (at_spot b k).choices exit) t)
        go (Goto place) same fine = jumps k place place s t at (subst (λ x. Contains (targets x) place) (sym same) (Contains-here place [])) refl st.alike
        go (If test one other) same fine =
            let two = both (is_expr_of graph.bits 1 test && nat_lt one (length graph.blocks)) (nat_lt other (length graph.blocks)) fine in
            let ok = (both (is_expr graph.bits test) _ (both (is_expr_of graph.bits 1 test) (nat_lt one (length graph.blocks)) two.0).0).0 in
            jumps k _ _ s t at (subst (λ x. Contains (targets x) (if value_in s test == 1 then one else other)) (sym same) (one_of (value_in s test == 1) one other))
            (ap (λ n. if n == 1 then one else other) (value (If test one other) same test (Contains-here test []) ok)) st.alike
        go (Switch e places) same fine =
            let two = both (is_expr_of graph.bits 16 e && nat_le (length places) 65536) (list_all (λ place. nat_lt place (length graph.blocks)) places) fine in
            let ok = (both (is_expr graph.bits e) _ (both (is_expr_of graph.bits 16 e) (nat_le (length places) 65536) two.0).0).0 in
            subst (λ n. Meets (switch_halt (slice_get places (value_in s e)) s) (switch_halt (slice_get places n) t)) (sym (value (Switch e places) same e (Contains-here e []) ok))
            (switched e places same (value_in s e) (slice_get places (value_in s e)) refl)
        go (Ret es) same fine = record { outside = st.alike.outside; leaves = same_values (at_spot b k).choices s t es (λ e c. value (Ret es) same e c (all_at (is_expr graph.bits) es e fine c)) }
        go Stop same fine = let over = stuck_both graph after kept is exact plan b k s t st.alike in record { end = over.end; events = over.outside.events }

    -- The statements.

    both_go : (s t : State) (halt halt' : Halt) (x : Bool) → EndAlike s t → (is_over s.end ≡ false → Meets halt halt') → is_over s.end ≡ x → Meets (if x then Over s else halt) (if x then Over t else halt')
    both_go s t halt halt' true over on e = over
    both_go s t halt halt' false over on e = on e

    abbrev Later : List Stmt → ℕ → Type 0
    Later rest k = (s t : State) → drop k (olds b) ≡ rest → Standing k s t → Meets (local_run rest s) (local_run (from_spot (at_spot b k) rest) t)

    -- a statement with the choices in it is well formed in the end
    stmt_after : (k : ℕ) → plan.known b ≡ true → (stmt : Stmt) → is_stmt graph.bits stmt ≡ true → (t : State) → t.running.graph ≡ after → is_stmt t.running.graph.bits (stmt_with_choices (at_spot b k).choices stmt) ≡ true
    stmt_after k known stmt fine t graph'_is =
        let w = at_spot b k in
        let whole = spot_whole graph after kept is plan b k known in
        let wide = fine_wider graph.bits kept w whole.0 (spot_fine graph after kept is exact plan b k known) (subst (λ l. list_all is_width l ≡ true) whole.1 plan.widths) in
        let bits : t.running.graph.bits ≡ w.bits ++ whole.0 = ap (λ (g : Graph). g.bits) graph'_is ∙ whole.1 in
        subst (λ l. is_stmt l (stmt_with_choices w.choices stmt) ≡ true) (sym bits) (stmt_still graph.bits kept (record { bits = w.bits ++ whole.0; choices = w.choices }) wide stmt fine)

    -- a statement that is no call, and sets no flag that isn't kept
    plain_meets : (k : ℕ) (stmt : Stmt) (rest : List Stmt) → is_call stmt ≡ false → ((g : FlagName) (e : Expr) → stmt ≡ Set (Flag g) e → is_kept kept g ≡ true)
        → ((s : State) → local_run (stmt ∷ rest) s ≡ (if is_over (stmt_step stmt s).end then Over (stmt_step stmt s) else local_run rest (stmt_step stmt s)))
        → ((t : State) (l : List Stmt) → local_run (stmt_with_choices (at_spot b k).choices stmt ∷ l) t ≡ (if is_over (stmt_step (stmt_with_choices (at_spot b k).choices stmt) t).end then Over (stmt_step (stmt_with_choices (at_spot b k).choices stmt) t) else local_run l (stmt_step (stmt_with_choices (at_spot b k).choices stmt) t)))
        → ((l : List Stmt) → after_call (stmt ∷ l) ≡ after_call l) → ((l : List Stmt) → after_call (stmt_with_choices (at_spot b k).choices stmt ∷ l) ≡ after_call l)
        → (stmt_folded kept (at_spot b k).bits (at_spot b k).choices stmt).stmts ≡ stmt_with_choices (at_spot b k).choices stmt ∷ []
        → Later rest (suc k) → Later (stmt ∷ rest) k
    plain_meets k stmt rest no_call sets_kept runs runs' skips skips' written later s t at st =
        let w = at_spot b k in
        let new = stmt_with_choices w.choices stmt in
        let known = st.alike.holds.known in
        let fine = drop_all (is_stmt graph.bits) (olds b) k stmt rest (stmts_fine graph after kept is exact plan b known).0 at in
        let stays : Stays graph after kept is exact plan b k stmt rest = record { at = at; fine = fine; sets_kept = sets_kept } in
        let next = step_both graph after kept is exact plan b k known stmt rest no_call stays s t st.graph_is st.graph'_is st.fits st.alike in
        let spot_is = walked_more kept (olds b) k (plan.start b) stmt rest at in
        let tail : from_spot w (stmt ∷ rest) ≡ new ∷ from_spot (at_spot b (suc k)) rest =
        ap (λ l. l ++ from_spot (past kept w stmt) rest) written ∙ ap (λ x. new ∷ from_spot x rest) (sym spot_is) in
        let new_fine = stmt_after k known stmt fine t st.graph'_is in
        let dropped = drop_next (olds b) k stmt rest at in
        let on = λ (e : is_over (stmt_step stmt s).end ≡ false). later (stmt_step stmt s) (stmt_step new t) dropped (record {
          graph_is = ap (λ (f : Frame). f.graph) (stmt-frame stmt s) ∙ st.graph_is;
          graph'_is = ap (λ (f : Frame). f.graph) (stmt-frame new t) ∙ st.graph'_is;
          exit = ap (λ (f : Frame). f.block.exit) (stmt-frame stmt s) ∙ st.exit;
          exit' = ap (λ (f : Frame). f.block.exit) (stmt-frame new t) ∙ st.exit';
          running = e;
          fits = stmt-fit new t new_fine st.fits;
          alike = next;
          calls_old = ap after_call dropped ∙ sym (skips rest) ∙ ap after_call (sym at) ∙ st.calls_old;
          calls_new = ap (λ l. after_call (from_spot (at_spot b (suc k)) l)) dropped ∙ sym (skips' (from_spot (at_spot b (suc k)) rest)) ∙ ap after_call (sym tail) ∙ ap (λ l. after_call (from_spot w l)) (sym at) ∙ st.calls_new;
        }) in
        subst (λ h. Meets h (local_run (from_spot w (stmt ∷ rest)) t)) (sym (runs s))
        (subst (λ l. Meets (if is_over (stmt_step stmt s).end then Over (stmt_step stmt s) else local_run rest (stmt_step stmt s)) (local_run l t)) (sym tail)
        (subst (λ h. Meets (if is_over (stmt_step stmt s).end then Over (stmt_step stmt s) else local_run rest (stmt_step stmt s)) h) (sym (runs' t (from_spot (at_spot b (suc k)) rest)))
        (subst (λ x. Meets (if is_over (stmt_step stmt s).end then Over (stmt_step stmt s) else local_run rest (stmt_step stmt s))
        (if x then Over (stmt_step new t) else local_run (from_spot (at_spot b (suc k)) rest) (stmt_step new t))) (sym (ap is_over next.end))
        (both_go (stmt_step stmt s) (stmt_step new t) (local_run rest (stmt_step stmt s)) (local_run (from_spot (at_spot b (suc k)) rest) (stmt_step new t)) (is_over (stmt_step stmt s).end)
        (record { end = next.end; events = next.outside.events }) on refl))))

    -- a definition of a flag that isn't kept
    by_kept_false : (x : Bool) (bits : List ℕ) (c : Choices) (g : FlagName) (e : Expr) → x ≡ false → (by_kept x bits c g e).stmts ≡ (taken bits e).copies
    by_kept_false true bits c g e none = absurd (true≢false none)
    by_kept_false false bits c g e none = refl

    def_meets : (k : ℕ) (g : FlagName) (e : Expr) (rest : List Stmt) → is_kept kept g ≡ false → Later rest (suc k) → Later (Set (Flag g) e ∷ rest) k
    def_meets k g e rest none later s t at st =
        let w = at_spot b k in
        let stmt = Set (Flag g) e in
        let known = st.alike.holds.known in
        let fine = drop_all (is_stmt graph.bits) (olds b) k stmt rest (stmts_fine graph after kept is exact plan b known).0 at in
        let e_ok = (both (is_expr graph.bits e) _ fine).0 in
        let cs = (taken w.bits (with_choices w.choices e)).copies in
        let it = def_taken graph.bits kept w (spot_fine graph after kept is exact plan b k known) g e fine in
        let spot_is = walked_more kept (olds b) k (plan.start b) stmt rest at in
        let tail : from_spot w (stmt ∷ rest) ≡ cs ++ from_spot (at_spot b (suc k)) rest =
        ap (λ l. l ++ from_spot (past kept w stmt) rest) (by_kept_false (is_kept kept g) w.bits w.choices g (with_choices w.choices e) none) ∙ ap (λ x. cs ++ from_spot x rest) (sym spot_is) in
        let dropped = drop_next (olds b) k stmt rest at in
        let at' = at ∙ ap (λ l. stmt ∷ l) (sym dropped) in
        let n = value_in s e in
        let bits = ap (λ (x : Graph). x.bits) st.graph'_is in
        let value = value_holds graph after kept is exact plan b k s.running.values t.running.values st.alike.holds (e ∷ []) (λ f r. ap (λ l. reads (next_exprs l (block_in graph b).exit) (Flag f)) at ∙ r) (scene_of s) (scene_of t)
        (ap (λ (x : Graph). x.bits) st.graph_is) bits st.alike.outside.base st.alike.outside.memory (scene-fits t st.fits) (λ l. refl) (λ l. refl) e (Contains-here e []) e_ok in
        let next : Holding graph after kept is exact plan b (suc k) (with_value s.running.values (Flag g) n) (after_sets cs (scene_of t)).values =
        holding_defined graph after kept is exact plan b k g e none known at' s.running.values (scene_of t) n bits st.alike.holds value in
        let whole = spot_whole graph after kept is plan b (suc k) known in
        let copies_all : list_all (is_copy (length w.bits) t.running.graph.bits) cs ≡ true = copies_there k known g e rest none at cs it.copies t bits in
        let off : is_over t.end ≡ false = ap is_over st.alike.end ∙ st.running in
        let went : Meets (local_run rest (setting (Flag g) n s)) (local_run (from_spot (at_spot b (suc k)) rest) (set_state cs t)) = later (setting (Flag g) n s) (set_state cs t) dropped (record {
          graph_is = st.graph_is;
          graph'_is = st.graph'_is;
          exit = st.exit;
          exit' = st.exit';
          running = st.running;
          fits = copy_fits (length w.bits) cs t copies_all st.fits;
          alike = record {
            outside = record { memory = st.alike.outside.memory; input = st.alike.outside.input; events = st.alike.outside.events; base = st.alike.outside.base };
            end = st.alike.end;
            entry = st.alike.entry;
            holds = next;
          };
          calls_old = ap after_call dropped ∙ ap after_call (sym at) ∙ st.calls_old;
          calls_new = ap (λ l. after_call (from_spot (at_spot b (suc k)) l)) dropped ∙ sym (copy_calls (length w.bits) t.running.graph.bits cs (from_spot (at_spot b (suc k)) rest) copies_all) ∙ ap after_call (sym tail)
              ∙ ap (λ l. after_call (from_spot w l)) (sym at) ∙ st.calls_new;
        }) in
        subst (λ x. Meets (if x then Over (setting (Flag g) n s) else local_run rest (setting (Flag g) n s)) (local_run (from_spot w (stmt ∷ rest)) t)) (sym st.running)
        (subst (λ l. Meets (local_run rest (setting (Flag g) n s)) (local_run l t)) (sym tail)
        (subst (λ h. Meets (local_run rest (setting (Flag g) n s)) h) (sym (copy_run (length w.bits) t.running.graph.bits cs (from_spot (at_spot b (suc k)) rest) t copies_all off)) went))
      where
        copies_there : (k : ℕ) → plan.known b ≡ true → (g : FlagName) (e : Expr) (rest : List Stmt) → is_kept kept g ≡ false → drop k (olds b) ≡ Set (Flag g) e ∷ rest → (cs : List Stmt)
            → list_all (is_copy (length (at_spot b k).bits) ((at_spot b k).bits ++ (taken (at_spot b k).bits (with_choices (at_spot b k).choices e)).widths)) cs ≡ true → (t : State) → t.running.graph.bits ≡ after.bits
            → list_all (is_copy (length (at_spot b k).bits) t.running.graph.bits) cs ≡ true
        copies_there k known g e rest none at cs ok t bits =
            let w = at_spot b k in
            let ws = (taken w.bits (with_choices w.choices e)).widths in
            let next = own graph after kept is exact plan g none b k e known (at ∙ ap (λ l. Set (Flag g) e ∷ l) (sym (drop_next (olds b) k (Set (Flag g) e) rest at))) in
            let whole = spot_whole graph after kept is plan b (suc k) known in
            let more = copies_more (length w.bits) (w.bits ++ ws) whole.0 cs ok in
            let all : t.running.graph.bits ≡ (w.bits ++ ws) ++ whole.0 = bits ∙ whole.1 ∙ ap (λ l. l ++ whole.0) (own_bits graph after kept is exact plan g none b k e known (at ∙ ap (λ l. Set (Flag g) e ∷ l) (sym (drop_next (olds b) k (Set (Flag g) e) rest at)))) in
            subst (λ l. list_all (is_copy (length w.bits) l) cs ≡ true) (sym all) more

    -- a call
    call_meets : (k : ℕ) (results : List Loc) (entry : ℕ) (arguments : List Expr) (depth : ℕ) (rest : List Stmt) → Later (Call results entry arguments depth ∷ rest) k
    call_meets k results entry arguments depth rest s t at st =
        let w = at_spot b k in
        let stmt = Call results entry arguments depth in
        let known = st.alike.holds.known in
        let fine = drop_all (is_stmt graph.bits) (olds b) k stmt rest (stmts_fine graph after kept is exact plan b known).0 at in
        let two = both (list_all (is_location graph.bits) results && list_all (is_expr graph.bits) arguments) (nat_lt depth 65536) fine in
        let one = both (list_all (is_location graph.bits) results) (list_all (is_expr graph.bits) arguments) two.0 in
        let stays : Stays graph after kept is exact plan b k stmt rest = record { at = at; fine = fine; sets_kept = λ g e same. absurd (cc) } in
        let spot_is = walked_more kept (olds b) k (plan.start b) stmt rest at in
        let dropped = drop_next (olds b) k stmt rest at in
        record {
          at_once = refl;
          entry = refl;
          depth = refl;
          outside = record { memory = st.alike.outside.memory; input = st.alike.outside.input; events = st.alike.outside.events; base = st.alike.outside.base };
          enters = same_values w.choices s t arguments (λ e c. step_value graph after kept is exact plan b k known stmt rest stays s t st.graph_is st.graph'_is st.fits st.alike e c (all_at (is_expr graph.bits) arguments e one.1 c));
          resumes = λ r r' fit fit' leaves.
              subst (λ r'. Here (next_of point) (with_values s.running.values results r) (with_values t.running.values results r')) (sym leaves) (record {
                k = suc k;
                old_rest = dropped ∙ ap after_call (sym at) ∙ st.calls_old;
                new_rest = ap (from_spot (at_spot b (suc k))) dropped ∙ ap (λ x. from_spot x rest) spot_is ∙ ap (λ l. after_call (from_spot w l)) (sym at) ∙ st.calls_new;
                holds = holding_results graph after kept is exact plan b (suc k) results r s.running.values t.running.values
                    (all_plain k known stmt rest stays results one.0 (λ l c. c))
                    (holding_moves graph after kept is exact plan b k s.running.values t.running.values (moves graph after kept is exact plan b k known stmt rest stays) st.alike.holds);
              });
        }
      where
        all_plain : (k : ℕ) (known : plan.known b ≡ true) (stmt : Stmt) (rest : List Stmt) → Stays graph after kept is exact plan b k stmt rest → (ls : List Loc) → list_all (is_location graph.bits) ls ≡ true → ((l : Loc) → Contains ls l → Contains (writes_of stmt) l) → All (λ l. plain graph after kept is exact plan l ≡ true) ls
        all_plain k known stmt rest stays [] ok among = All-nil (λ l. plain graph after kept is exact plan l ≡ true)
        all_plain k known stmt rest stays (l ∷ ls) ok among =
            let parts = both (is_location graph.bits l) (list_all (is_location graph.bits) ls) ok in
            All-cons (λ l. plain graph after kept is exact plan l ≡ true) l ls (written_plain graph after kept is exact plan b k known stmt rest stays l parts.0 (contains_among (writes_of stmt) l (among l (Contains-here l ls))))
            (all_plain k known stmt rest stays ls parts.1 (λ x c. among x (Contains-later l ls x c)))

    set_meets : (k : ℕ) (g : FlagName) (e : Expr) (rest : List Stmt) (x : Bool) → is_kept kept g ≡ x → Later rest (suc k) → Later (Set (Flag g) e ∷ rest) k
    set_meets k g e rest true so later =
        plain_meets k (Set (Flag g) e) rest refl (λ f v same. let one : g ≡ f = cc in subst (λ y. is_kept kept y ≡ true) one so) (λ s. refl) (λ t l. refl) (λ l. refl) (λ l. refl)
        (kept_true (is_kept kept g) (at_spot b k).bits (at_spot b k).choices g (with_choices (at_spot b k).choices e) so) later
      where
        kept_true : (x : Bool) (bits : List ℕ) (c : Choices) (g : FlagName) (e : Expr) → x ≡ true → (by_kept x bits c g e).stmts ≡ Set (Flag g) e ∷ []
        kept_true true bits c g e so = refl
        kept_true false bits c g e so = absurd (true≢false (sym so))
    set_meets k g e rest false none later = def_meets k g e rest none later

    block_meets : (rest : List Stmt) (k : ℕ) → Later rest k
    block_meets [] k s t at st =
        let known = st.alike.holds.known in
        let end = walked_end kept (olds b) k (plan.start b) at in
        subst (λ exit. Meets (exit_halt exit s) (exit_halt t.running.block.exit t)) (sym st.exit)
        (subst (λ exit. Meets (exit_halt (block_in graph b).exit s) (exit_halt exit t)) (sym (st.exit' ∙ ap (λ c. exit_with_choices c (block_in graph b).exit) end.1))
        (exit_meets k s t at st (block_in graph b).exit refl (stmts_fine graph after kept is exact plan b known).1))
    block_meets (Set (Flag g) e ∷ rest) k s t at st = set_meets k g e rest (is_kept kept g) refl (block_meets rest (suc k)) s t at st
    block_meets (Set (Half r h) e ∷ rest) k s t at st = plain_meets k (Set (Half r h) e) rest refl (λ g v same. absurd (cc)) (λ s. refl) (λ t l. refl) (λ l. refl) (λ l. refl) refl (block_meets rest (suc k)) s t at st
    block_meets (Set (Cell n h) e ∷ rest) k s t at st = plain_meets k (Set (Cell n h) e) rest refl (λ g v same. absurd (cc)) (λ s. refl) (λ t l. refl) (λ l. refl) (λ l. refl) refl (block_meets rest (suc k)) s t at st
    block_meets (Set (Temp n) e ∷ rest) k s t at st = plain_meets k (Set (Temp n) e) rest refl (λ g v same. absurd (cc)) (λ s. refl) (λ t l. refl) (λ l. refl) (λ l. refl) refl (block_meets rest (suc k)) s t at st
    block_meets (Fetch l w x ∷ rest) k s t at st = plain_meets k (Fetch l w x) rest refl (λ g v same. absurd (cc)) (λ s. refl) (λ t l. refl) (λ l. refl) (λ l. refl) refl (block_meets rest (suc k)) s t at st
    block_meets (Store w x e ∷ rest) k s t at st = plain_meets k (Store w x e) rest refl (λ g v same. absurd (cc)) (λ s. refl) (λ t l. refl) (λ l. refl) (λ l. refl) refl (block_meets rest (suc k)) s t at st
    block_meets (Div l e ∷ rest) k s t at st = plain_meets k (Div l e) rest refl (λ g v same. absurd (cc)) (λ s. refl) (λ t l. refl) (λ l. refl) (λ l. refl) refl (block_meets rest (suc k)) s t at st
    block_meets (Call r n x d ∷ rest) k s t at st = call_meets k r n x d rest s t at st
    block_meets (Dos n p x ∷ rest) k s t at st = plain_meets k (Dos n p x) rest refl (λ g v same. absurd (cc)) (λ s. refl) (λ t l. refl) (λ l. refl) (λ l. refl) refl (block_meets rest (suc k)) s t at st

  fit_of : (t : State) → StateFits t → IsFit t
  fit_of t h = record {
    values = h.running.values;
    memory = record { len = h.running.len; bytes = h.running.bytes };
    console = record { left = h.input; written = h.written; taken = h.taken };
  }

  -- From each point both go on.
  pub goes_on : GoesIn (λ n. n) graph after inv
  goes_on p q fp fq a point s t entry_is together sg tg =
      let h = together.holds in
      let known = h.holds.known in
      let block : s.running.block ≡ block_in graph point.place = some_same s.running.block (block_in graph point.place)
      (sym together.first.at.block ∙ ap (λ (g : Graph). slice_get g.blocks point.place) sg ∙ plan.within point.place known) in
      let folded = block_folded kept (plan.start point.place).bits (plan.start point.place).choices (block_in graph point.place) in
      let block' : t.running.block ≡ folded = some_same t.running.block folded (sym together.second.at.block ∙ ap (λ (g : Graph). slice_get g.blocks point.place) tg ∙ plan.placed point.place known) in
      let rest : s.running.rest ≡ drop h.k (olds point.place) = together.first.at.rest ∙ ap (λ (x : Block). after_calls point.calls x.stmts) block ∙ sym h.old_rest in
      let rest' : t.running.rest ≡ from_spot (at_spot point.place h.k) (drop h.k (olds point.place)) = together.second.at.rest ∙ ap (λ (x : Block). after_calls point.calls x.stmts) block' ∙ sym h.new_rest in
      let meets = subst (λ l. Meet (one_pass (λ n. n) inv) a point 0 (local_run l s) (halt_of t)) (sym rest)
      (subst (λ l. Meet (one_pass (λ n. n) inv) a point 0 (local_run (drop h.k (olds point.place)) s) (local_run l t)) (sym rest')
      (block_meets a point (drop h.k (olds point.place)) h.k s t refl (record {
        graph_is = sg;
        graph'_is = tg;
        exit = ap (λ (x : Block). x.exit) block;
        exit' = ap (λ (x : Block). x.exit) block';
        running = together.first.running;
        fits = fit_of t together.second.fits;
        alike = record {
          outside = together.outside;
          end = is_running t.end together.second.running ∙ sym (is_running s.end together.first.running);
          entry = ap (λ (g : Graph). g.entry) tg ∙ same_entry ∙ ap (λ (g : Graph). g.entry) (sym sg);
          holds = h.holds;
        };
        calls_old = ap after_call h.old_rest;
        calls_new = ap after_call h.new_rest;
      }))) in
      (0, meets)

  -- Both runs begin alike.

  record Open (s t : State) : Type 0 where
    memory : t.memory ≡ s.memory
    base : t.running.base ≡ s.running.base
    holds : Holding graph after kept is exact plan 0 0 s.running.values t.running.values

  plain_place : (l : Loc) → is_location graph.bits l ≡ true → ((f : FlagName) → l ≡ Flag f → is_kept kept f ≡ true) → plain graph after kept is exact plan l ≡ true
  plain_place (Half r h) ok only = refl
  plain_place (Cell n h) ok only = refl
  plain_place (Temp n) ok only = ok
  plain_place (Flag f) ok only = only f refl

  open_set : (l : Loc) (n : ℕ) (s t : State) → plain graph after kept is exact plan l ≡ true → Open s t → Open (setting l n s) (setting l n t)
  open_set l n s t fine o = record { memory = o.memory; base = o.base; holds = holding_set graph after kept is exact plan 0 0 l fine n s.running.values t.running.values o.holds }

  put_open : (j : ℕ) (put : Put) (n : ℕ) (s t : State) → is_put graph.bits put ≡ true → ((f : FlagName) → Contains (places_of put) (Flag f) → is_kept kept f ≡ true) → Open s t → Open (putting j put n s) (putting j put n t)
  put_open j Memory n s t ok only o = record { memory = let m = o.memory in let b = o.base in cc; base = o.base; holds = o.holds }
  put_open j (One l) n s t ok only o = open_set l n s t (plain_place l ok (λ f e. only f (subst (λ x. Contains (l ∷ []) x) e (Contains-here l [])))) o
  put_open j (Two low high) n s t ok only o =
      let three = both (is_location graph.bits low && is_location graph.bits high && (location_width graph.bits low == 8)) (location_width graph.bits high == 8) ok in
      let two = both (is_location graph.bits low && is_location graph.bits high) (location_width graph.bits low == 8) three.0 in
      let one = both (is_location graph.bits low) (is_location graph.bits high) two.0 in
      open_set high (n / 256) (setting low (n % 256) s) (setting low (n % 256) t) (plain_place high one.1 (λ f e. only f (subst (λ x. Contains (low ∷ high ∷ []) x) e (Contains-later low (high ∷ []) high (Contains-here high [])))))
      (open_set low (n % 256) s t (plain_place low one.0 (λ f e. only f (subst (λ x. Contains (low ∷ high ∷ []) x) e (Contains-here low (high ∷ []))))) o)

  pass_open : (j : ℕ) (params : List Param) (ns : List ℕ) (s t : State) → list_all (λ q. is_put graph.bits q.put) params ≡ true → ((f : FlagName) → Contains (flat_map (λ q. places_of q.put) params) (Flag f) → is_kept kept f ≡ true) → Open s t → Open (passing j params ns s) (passing j params ns t)
  pass_open j [] ns s t ok only o = o
  pass_open j (q ∷ params) [] s t ok only o = o
  pass_open j (q ∷ params) (n ∷ ns) s t ok only o =
      let parts = both (is_put graph.bits q.put) (list_all (λ (q : Param). is_put graph.bits q.put) params) ok in
      pass_open (j + 1) params ns (putting j q.put n s) (putting j q.put n t) parts.1 (λ f c. only f (in_right (places_of q.put) (flat_map (λ (q : Param). places_of q.put) params) (Flag f) c))
      (put_open j q.put n s t parts.0 (λ f c. only f (in_left (places_of q.put) (flat_map (λ (q : Param). places_of q.put) params) (Flag f) c)) o)
    where
      in_left : (xs ys : List Loc) (l : Loc) → Contains xs l → Contains (xs ++ ys) l
      in_left [] ys l c = absurd (Contains-none l c)
      in_left (x ∷ xs) ys l c = Contains-cases x xs l (Contains (x ∷ (xs ++ ys)) l) (λ e. subst (Contains (x ∷ (xs ++ ys))) e (Contains-here x (xs ++ ys))) (λ d. Contains-later x (xs ++ ys) l (in_left xs ys l d)) c

      in_right : (xs ys : List Loc) (l : Loc) → Contains ys l → Contains (xs ++ ys) l
      in_right [] ys l c = c
      in_right (x ∷ xs) ys l c = Contains-later x (xs ++ ys) l (in_right xs ys l c)

  param_kept : (f : FlagName) → Contains (flat_map (λ q. places_of q.put) graph.params) (Flag f) → is_kept kept f ≡ true
  param_kept f c = elim (decided (is_kept kept f)) [
    | inl so ↦ so
    | inr none ↦ absurd (exact f none (param (contains_among (flat_map (λ (q : Param). places_of q.put) graph.params) (Flag f) c)))
  ]

  first_holds : (fill : ℕ) (v v' : Values) → ((l : Loc) → v l ≡ filled graph.bits fill l) → ((l : Loc) → v' l ≡ filled after.bits fill l) → Holding graph after kept is exact plan 0 0 v v'
  first_holds fill v v' is_v is_v' = record {
    known = plan.first;
    same = λ l fine. is_v' l ∙ ap (λ w. fill_at w fill) (width l fine) ∙ sym (is_v l);
    flags = λ f none. record { definition = Start; reaches = begins; value = is_v' (Temp (length graph.bits)) ∙ ap (λ w. fill_at w fill) plan.fill ∙ sym (is_v (Flag f)) };
    leaves = λ f none. plan.agrees 0 plan.first f none;
  }
    where
      fine : Fine graph.bits kept (plan.start 0)
      fine = plan.fine 0 plan.first

      width : (l : Loc) → plain graph after kept is exact plan l ≡ true → location_width after.bits l ≡ location_width graph.bits l
      width (Half r h) ok = refl
      width (Cell n h) ok = refl
      width (Flag f) ok = refl
      width (Temp n) ok =
          let whole = spot_whole graph after kept is plan 0 0 plan.first in
          let start = plan.fine 0 plan.first in
          let all : after.bits ≡ graph.bits ++ (start.fresh ++ whole.0) = whole.1 ∙ ap (λ l. l ++ whole.0) start.bits ∙ append_assoc graph.bits start.fresh whole.0 in
          ap (λ bits. location_width bits (Temp n)) all ∙ width_more graph.bits (start.fresh ++ whole.0) (Temp n) ok

  begins_alike : after.params ≡ graph.params → BeginsIn graph after inv
  begins_alike params fill base a s t fit outside opened opened' =
      let o = pass_open 0 graph.params a s t is.params param_kept (record {
        memory = outside.memory;
        base = outside.base;
        holds = first_holds fill s.running.values t.running.values (λ l. ap (λ (x : Activation). x.values l) opened) (λ l. ap (λ (x : Activation). x.values l) opened');
      }) in
      let s' = passing 0 graph.params a s in
      subst (λ params. let t' = passing 0 params a t in (t'.memory ≡ s'.memory) × inv (start_of graph.entry) s'.running.values t'.running.values) (sym params)
      (o.memory, record { k = 0; old_rest = refl; new_rest = refl; holds = o.holds })

  -- The folded graph may stand in the place of the graph.
  pub folded_stands : GraphStays graph after → IsGraph after → (p : Program) → IsProgram p → Contains p.graphs graph → IsKeptWith after p
  folded_stands stays fine p formed known = may-stand (λ n. n) inv graph after (form-fits graph after stays fine) (begins_alike stays.params) goes_on p formed known
