-- What nothing reads may go: the pass meets what it owes.
use Rattle.std.proofs.Common.{◌≡◌, ℕ, zero, suc, ◌+◌, ◌/◌, ◌%◌, Bool, true, false, cond, not, ◌⊎◌, inl, inr, List, [], ◌∷◌, length, Option, Some, None, refl, sym, ap, ap₂, ◌∙◌, subst, true≢false, map, take, slice_get, flat_map}
use Rattle.std.specs.Prelude.{if◌then◌else◌, ◌==◌, option_map, All, Contains}
use Rattle.std.proofs.lemmas.Option.{slice_get-map}
use Rattle.std.proofs.lemmas.List.{length-map}
use Rattle.std.proofs.lemmas.List.Elements.{All-nil, All-cons, All-head, All-tail, All-contains, All-contains_itself}
use Rattle.dcc_run.specs.End.{is_over}
use Rattle.dcc_run.proofs.KeptLaws.{right_part}
use Rattle.dcc_ir.specs.declared.syntax.Loc.{Loc}
use Rattle.dcc_ir.specs.declared.syntax.Put.{Put}
use Rattle.dcc_ir.specs.declared.syntax.Put.TheVariants.{Memory, One, Two}
use Rattle.dcc_ir.specs.declared.syntax.Param.{Param}
use Rattle.dcc_ir.specs.Tree.{Expr, Stmt, Call, Exit, Goto, If, Switch, Ret, Stop, Block, Graph, Program}
use Rattle.dcc_ir.specs.Location.{same_location, location_width, Values, with_value}
use Rattle.dcc_ir.specs.Use.{reads_of, exprs_of, exit_exprs, block_exprs, graph_exprs}
use Rattle.dcc_ir.specs.Joinable.{places_of}
use Rattle.dcc_ir.specs.WellFormed.{is_memory, put_width, IsProgram}
use Rattle.dcc_ir.specs.Flow.{graph_or_none}
use Rattle.dcc_ir.specs.Run.{State, Activation, putting, passing, stmt_step, value_in, graph_at}
use Rattle.dcc_ir.specs.Local.{Point, Halt, Over, Jumps, after_call, after_calls, switch_halt, exit_halt, local_run, halt_of}
use Rattle.dcc_ir.specs.Keeps.{KeepsRuns}
use Rattle.dcc_ir.specs.Passes.{Pass, with_values, FitIn, param_widths, EndAlike, Meet, BlocksStay, BeginAlike, OwesBegin, OwesGo}
use Rattle.dcc_ir.specs.Trimmed.{Trim, nothing_trimmed, kept, dropped, trim_stmt, trim_exit, trim_block, trim_graph, trimmed, reads_in, IsUnread, GivesRead, IsTrimmable, trimming}
use Rattle.dcc_ir.proofs.GraphLaws.{found_entry}
use Rattle.dcc_ir.proofs.ReachedLaws.{contained, found_contained}
use Rattle.dcc_ir.proofs.ListLaws.{all_had, left_part, all_parts}
use Rattle.dcc_ir.proofs.passes.LocalLaws.{some_same, is_running, Frame, stmt-frame}
use Rattle.dcc_ir.proofs.passes.AgreeLaws.{AgreeOn, ReadsIn, value-on, values-on, stuck-on, weaker-on, StillOn, stmt-agrees}
use Rattle.dcc_ir.proofs.passes.Theorem.{keeps_runs}

-- What stays of a list.

module _ {A : Type 0} where
  kept_all : (stays : ℕ → Bool) (xs : List A) → ((k : ℕ) → stays k ≡ true) → kept stays xs ≡ xs
  kept_all stays [] all = refl
  kept_all stays (x ∷ xs) all = ap₂ (λ b l. cond b (x ∷ l) l) (all 0) (kept_all (λ k. stays (suc k)) xs (λ k. all (suc k)))

  kept_none : (stays : ℕ → Bool) (xs : List A) → ((k : ℕ) → stays k ≡ false) → kept stays xs ≡ []
  kept_none stays [] none = refl
  kept_none stays (x ∷ xs) none = ap₂ (λ b l. cond b (x ∷ l) l) (none 0) (kept_none (λ k. stays (suc k)) xs (λ k. none (suc k)))

  kept-map : {B : Type 0} (f : A → B) (stays : ℕ → Bool) (xs : List A) → map f (kept stays xs) ≡ kept stays (map f xs)
  kept-map f stays [] = refl
  kept-map f stays (x ∷ xs) =
      elim (stays 0) as (λ b. map f (cond b (x ∷ kept (λ k. stays (suc k)) xs) (kept (λ k. stays (suc k)) xs)) ≡ cond b (f x ∷ kept (λ k. stays (suc k)) (map f xs))
      (kept (λ k. stays (suc k)) (map f xs))) [
        | true ↦ ap (λ l. f x ∷ l) (kept-map f (λ k. stays (suc k)) xs)
        | false ↦ kept-map f (λ k. stays (suc k)) xs
      ]

  map_same : (f : A → A) (xs : List A) → ((x : A) → f x ≡ x) → map f xs ≡ xs
  map_same f [] same = refl
  map_same f (x ∷ xs) same = ap₂ (λ y l. y ∷ l) (same x) (map_same f xs same)

  all_of : (P : A → Type 0) (xs : List A) → ((x : A) → P x) → All P xs
  all_of P [] all = All-nil P
  all_of P (x ∷ xs) all = All-cons P x xs (all x) (all_of P xs all)

  all_mapped : {B : Type 0} (P : B → Type 0) (f : A → B) (xs : List A) → All P (map f xs) → All (λ x. P (f x)) xs
  all_mapped P f [] all = All-nil (λ x. P (f x))
  all_mapped P f (x ∷ xs) all = All-cons (λ x. P (f x)) x xs (All-head P (f x) (map f xs) all) (all_mapped P f xs (All-tail P (f x) (map f xs) all))

-- What holds of all statements holds of those after some calls.
module _ (P : Stmt → Type 0) where
  after_call-all : (stmts : List Stmt) → All P stmts → All P (after_call stmts)
  after_call-all [] all = all
  after_call-all (Call results entry arguments depth ∷ rest) all = All-tail P (Call results entry arguments depth) rest all
  after_call-all (stmt ∷ rest) all = after_call-all rest (All-tail P stmt rest all)

  after_calls-all : (calls : ℕ) (stmts : List Stmt) → All P stmts → All P (after_calls calls stmts)
  after_calls-all zero stmts all = all
  after_calls-all (suc calls) stmts all = after_call-all (after_calls calls stmts) (after_calls-all calls stmts all)

-- States that agree on the locations of a list, and expressions that read these alone.

abbrev Agree : List Loc → State → State → Type 0
Agree reads s t = AgreeOn (Contains reads) s t

abbrev ReadsOf : List Loc → Expr → Type 0
ReadsOf reads e = ReadsIn (Contains reads) e

-- What is taken and given back.

module _ (reads : List Loc) where
  -- a location takes the same value
  with_value-agrees : (v v' : Values) (location : Loc) (n : ℕ) (xs : List Loc) → All (λ l. v' l ≡ v l) xs → All (λ l. with_value v' location n l ≡ with_value v location n l) xs
  with_value-agrees v v' location n [] all = All-nil (λ l. with_value v' location n l ≡ with_value v location n l)
  with_value-agrees v v' location n (l ∷ xs) all =
      All-cons (λ l. with_value v' location n l ≡ with_value v location n l) l xs
      (ap (λ x. if same_location l location then n else x) (All-head (λ l. v' l ≡ v l) l xs all))
      (with_value-agrees v v' location n xs (All-tail (λ l. v' l ≡ v l) l xs all))

  -- values agree where they are read
  abbrev Same : Values → Values → Type 0
  Same v v' = All (λ read. v' read ≡ v read) reads

  -- a location that isn't read takes a value
  unread : (v v' : Values) (location : Loc) (n : ℕ) (xs : List Loc) → All (λ read. same_location read location ≡ false) xs → All (λ read. v' read ≡ v read) xs →
      All (λ read. v' read ≡ with_value v location n read) xs
  unread v v' location n [] none same = All-nil (λ read. v' read ≡ with_value v location n read)
  unread v v' location n (l ∷ xs) none same =
      All-cons (λ read. v' read ≡ with_value v location n read) l xs
      (All-head (λ read. v' read ≡ v read) l xs same ∙ sym (ap (λ b. if b then n else v l) (All-head (λ read. same_location read location ≡ false) l xs none)))
      (unread v v' location n xs (All-tail (λ read. same_location read location ≡ false) l xs none) (All-tail (λ read. v' read ≡ v read) l xs same))

  given_trimmed : (widths : List ℕ) (stays : ℕ → Bool) (results : List Loc) (r : List ℕ) (v v' : Values) → length widths ≡ length results → FitIn widths r →
      All (IsUnread reads) (dropped stays results) → Same v v' →
      Same (with_values v results r) (with_values v' (kept stays results) (kept stays r))
  given_trimmed [] stays [] [] v v' len fit none same = same
  given_trimmed (w ∷ widths) stays (location ∷ results) (n ∷ r) v v' len fit none same =
      go (stays 0) none (λ u u' none' same'. given_trimmed widths (λ k. stays (suc k)) results r u u' (cc) fit.1 none' same')
    where
      go : (b : Bool) → All (IsUnread reads) (cond (not b) (location ∷ dropped (λ k. stays (suc k)) results) (dropped (λ k. stays (suc k)) results)) →
          ((u u' : Values) → All (IsUnread reads) (dropped (λ k. stays (suc k)) results) → Same u u' →
          Same (with_values u results r) (with_values u' (kept (λ k. stays (suc k)) results) (kept (λ k. stays (suc k)) r))) →
          Same (with_values (with_value v location n) results r) (with_values v' (cond b (location ∷ kept (λ k. stays (suc k)) results) (kept (λ k. stays (suc k)) results))
          (cond b (n ∷ kept (λ k. stays (suc k)) r) (kept (λ k. stays (suc k)) r)))
      go true none later = later (with_value v location n) (with_value v' location n) none (with_value-agrees v v' location n reads same)
      go false none later =
          let rest = dropped (λ k. stays (suc k)) results in
          later (with_value v location n) v' (All-tail (IsUnread reads) location rest none) (unread v v' location n reads (All-head (IsUnread reads) location rest none) same)
  given_trimmed [] stays [] (n ∷ r) v v' len fit none same = absurd fit
  given_trimmed (w ∷ widths) stays (location ∷ results) [] v v' len fit none same = absurd fit
  given_trimmed [] stays (location ∷ results) r v v' len fit none same = absurd (cc)
  given_trimmed (w ∷ widths) stays [] r v v' len fit none same = absurd (cc)

  -- the states hold the same where it is read, and in memory
  record Open (s t : State) : Type 0 where
    values : Same s.running.values t.running.values
    memory : t.memory ≡ s.memory
    base : t.running.base ≡ s.running.base

  put_both : (j j' : ℕ) (put : Put) (n : ℕ) (s t : State) → (j' ≡ j) ⊎ (is_memory put ≡ false) → Open s t → Open (putting j put n s) (putting j' put n t)
  put_both j j' Memory n s t (inl e) o = record { values = o.values; memory = let m = o.memory in let b = o.base in cc; base = o.base }
  put_both j j' Memory n s t (inr f) o = absurd (true≢false f)
  put_both j j' (One location) n s t h o = record { values = with_value-agrees s.running.values t.running.values location n reads o.values; memory = o.memory; base = o.base }
  put_both j j' (Two low high) n s t h o = record {
    values = with_value-agrees (with_value s.running.values low (n % 256)) (with_value t.running.values low (n % 256)) high (n / 256) reads
        (with_value-agrees s.running.values t.running.values low (n % 256) reads o.values);
    memory = o.memory;
    base = o.base;
  }

  put_unread : (j : ℕ) (put : Put) (n : ℕ) (s t : State) → is_memory put ≡ false → All (IsUnread reads) (places_of put) → Open s t → Open (putting j put n s) t
  put_unread j Memory n s t f none o = absurd (true≢false f)
  put_unread j (One location) n s t f none o = record {
    values = unread s.running.values t.running.values location n reads
        (All-head (IsUnread reads) location [] none) o.values;
    memory = o.memory;
    base = o.base;
  }
  put_unread j (Two low high) n s t f none o = record {
    values = unread (with_value s.running.values low (n % 256)) t.running.values high (n / 256) reads (All-head (IsUnread reads) high [] (All-tail (IsUnread reads) low (high ∷ []) none))
        (unread s.running.values t.running.values low (n % 256) reads (All-head (IsUnread reads) low (high ∷ []) none) o.values);
    memory = o.memory;
    base = o.base;
  }

  abbrev MayMove : (ℕ → Bool) → List Param → ℕ → ℕ → Type 0
  MayMove stays params j j' = (((k : ℕ) → stays k ≡ true) × (j' ≡ j)) ⊎ All (λ q. is_memory q.put ≡ false) params

  taken_trimmed : (widths : List ℕ) (stays : ℕ → Bool) (params : List Param) (a : List ℕ) (j j' : ℕ) (s t : State) → length widths ≡ length params → FitIn widths a → MayMove stays params j j' →
      All (IsUnread reads) (flat_map (λ q. places_of q.put) (dropped stays params)) → Open s t → Open (passing j params a s) (passing j' (kept stays params) (kept stays a) t)
  taken_trimmed [] stays [] [] j j' s t len fit may none o = o
  taken_trimmed (w ∷ widths) stays (param ∷ params) (n ∷ a) j j' s t len fit may none o =
      go (stays 0) refl none (λ i u u' may' none' o'. taken_trimmed widths (λ k. stays (suc k)) params a (j + 1) i u u' (cc) fit.1 may' none' o') may
    where
      go : (b : Bool) → stays 0 ≡ b → All (IsUnread reads) (flat_map (λ q. places_of q.put) (cond (not b) (param ∷ dropped (λ k. stays (suc k)) params) (dropped (λ k. stays (suc k)) params))) →
          ((i : ℕ) (u u' : State) → MayMove (λ k. stays (suc k)) params (j + 1) i → All (IsUnread reads) (flat_map (λ q. places_of q.put) (dropped (λ k. stays (suc k)) params)) → Open u u' →
          Open (passing (j + 1) params a u) (passing i (kept (λ k. stays (suc k)) params) (kept (λ k. stays (suc k)) a) u')) →
          MayMove stays (param ∷ params) j j' →
          Open (passing (j + 1) params a (putting j param.put n s)) (passing j' (cond b (param ∷ kept (λ k. stays (suc k)) params) (kept (λ k. stays (suc k)) params))
          (cond b (n ∷ kept (λ k. stays (suc k)) a) (kept (λ k. stays (suc k)) a)) t)
      go true e none later (inl all) = later (j' + 1) _ _ (inl (λ k. all.0 (suc k), ap (λ i. i + 1) all.1)) none (put_both j j' param.put n s t (inl all.1) o)
      go true e none later (inr none_in) =
          later (j' + 1) _ _ (inr (All-tail (λ q. is_memory q.put ≡ false) param params none_in)) none
          (put_both j j' param.put n s t (inr (All-head (λ q. is_memory q.put ≡ false) param params none_in)) o)
      go false e none later (inl all) = absurd (true≢false (sym (all.0 0) ∙ e))
      go false e none later (inr none_in) =
          let rest = flat_map (λ (q : Param). places_of q.put) (dropped (λ k. stays (suc k)) params) in
          later j' _ _ (inr (All-tail (λ q. is_memory q.put ≡ false) param params none_in)) (right_part (IsUnread reads) (places_of param.put) rest none)
          (put_unread j param.put n s t (All-head (λ q. is_memory q.put ≡ false) param params none_in) (left_part (IsUnread reads) (places_of param.put) rest none) o)
  taken_trimmed [] stays [] (n ∷ a) j j' s t len fit may none o = absurd fit
  taken_trimmed (w ∷ widths) stays (param ∷ params) [] j j' s t len fit may none o = absurd fit
  taken_trimmed [] stays (param ∷ params) a j j' s t len fit may none o = absurd (cc)
  taken_trimmed (w ∷ widths) stays [] a j j' s t len fit may none o = absurd (cc)

-- The trimmed program.

module _ (trim : Trim) where
  trim-after_call : (stmts : List Stmt) → after_call (map (trim_stmt trim) stmts) ≡ map (trim_stmt trim) (after_call stmts)
  trim-after_call [] = refl
  trim-after_call (Call results entry arguments depth ∷ rest) = refl
  trim-after_call (stmt ∷ rest) = trim-after_call rest

  trim-after_calls : (calls : ℕ) (stmts : List Stmt) → after_calls calls (map (trim_stmt trim) stmts) ≡ map (trim_stmt trim) (after_calls calls stmts)
  trim-after_calls zero stmts = refl
  trim-after_calls (suc calls) stmts = ap after_call (trim-after_calls calls stmts) ∙ trim-after_call (after_calls calls stmts)

  trimmed_at : (graphs : List Graph) (entry : ℕ) → graph_at (map (trim_graph trim) graphs) entry ≡ option_map (trim_graph trim) (graph_at graphs entry)
  trimmed_at [] entry = refl
  trimmed_at (g ∷ graphs) entry =
      elim (g.entry == entry) as (λ b. cond b (Some (trim_graph trim g)) (graph_at (map (trim_graph trim) graphs) entry) ≡ option_map (trim_graph trim) (cond b (Some g) (graph_at graphs entry))) [
        | true ↦ refl
        | false ↦ trimmed_at graphs entry
      ]

  same_entries : (graphs : List Graph) → map (λ g. g.entry) (map (trim_graph trim) graphs) ≡ map (λ g. g.entry) graphs
  same_entries [] = refl
  same_entries (g ∷ graphs) = ap (λ l. g.entry ∷ l) (same_entries graphs)

module _ (trim : Trim) (p : Program) where
  abbrev pass : Pass
  pass = trimming trim p

  abbrev reads_at : ℕ → List Loc
  reads_at entry = reads_in (graph_or_none (graph_at (trimmed trim p).graphs entry))

  -- the trimmed graph is that of the trimmed program
  found_trimmed : (entry : ℕ) (old new : Graph) → graph_at p.graphs entry ≡ Some old → graph_at (trimmed trim p).graphs entry ≡ Some new → new ≡ trim_graph trim old
  found_trimmed entry old new found found' = let e = trimmed_at trim p.graphs entry ∙ ap (option_map (trim_graph trim)) found in cc

  module _ (a : List ℕ) (point : Point) where
    jump-meets : (place place' : ℕ) (s t : State) → place' ≡ place → Agree (reads_at point.entry) s t → Meet pass a point 0 (Jumps place s) (Jumps place' t)
    jump-meets place place' s t same h = record { stands = sym same; outside = h.outside; holds = all_had (λ l. t.running.values l ≡ s.running.values l) (reads_at point.entry) h.values }

    exit-meets : (exit : Exit) (s t : State) → Agree (reads_at point.entry) s t → All (ReadsOf (reads_at point.entry)) (exit_exprs (trim_exit trim point.entry exit)) →
        Meet pass a point 0 (exit_halt exit s) (exit_halt (trim_exit trim point.entry exit) t)
    exit-meets (Goto place) s t h among = jump-meets place place s t refl h
    exit-meets (If test one other) s t h among =
        jump-meets _ _ s t (ap (λ n. if n == 1 then one else other) (value-on (Contains (reads_at point.entry)) s t h test (All-head (ReadsOf (reads_at point.entry)) test [] among))) h
    exit-meets (Switch e places) s t h among =
        subst (λ n. Meet pass a point 0 (switch_halt (slice_get places (value_in s e)) s) (switch_halt (slice_get places n) t))
        (sym (value-on (Contains (reads_at point.entry)) s t h e (All-head (ReadsOf (reads_at point.entry)) e [] among))) (go (slice_get places (value_in s e)))
      where
        go : (place : Option ℕ) → Meet pass a point 0 (switch_halt place s) (switch_halt place t)
        go (Some place) = jump-meets place place s t refl h
        go None = let over = stuck-on (Contains (reads_at point.entry)) s t h in record { end = over.end; events = over.outside.events }
    exit-meets (Ret values) s t h among = record {
      outside = h.outside;
      leaves = values-on (Contains (reads_at point.entry)) s t h (kept (trim.gives point.entry) values) among ∙ kept-map (value_in s) (trim.gives point.entry) values;
    }
    exit-meets Stop s t h among = let over = stuck-on (Contains (reads_at point.entry)) s t h in record { end = over.end; events = over.outside.events }

    -- either both are over, or what follows meets
    both_go : (s t : State) (halt halt' : Halt) (b : Bool) → EndAlike s t → (is_over s.end ≡ false → Meet pass a point 0 halt halt') → is_over s.end ≡ b →
        Meet pass a point 0 (if b then Over s else halt) (if b then Over t else halt')
    both_go s t halt halt' true over on e = over
    both_go s t halt halt' false over on e = on e

    -- the local runs of a block and of the trimmed block meet
    block-meets : (stmts : List Stmt) (s t : State) → Agree (reads_at point.entry) s t → t.running.block.exit ≡ trim_exit trim point.entry s.running.block.exit →
        All (λ stmt. All (ReadsOf (reads_at point.entry)) (exprs_of (trim_stmt trim stmt))) stmts → All (GivesRead trim (reads_at point.entry)) stmts →
        All (ReadsOf (reads_at point.entry)) (exit_exprs (trim_exit trim point.entry s.running.block.exit)) →
        Meet pass a point 0 (local_run stmts s) (local_run (map (trim_stmt trim) stmts) t)
    block-meets [] s t h exits among gives last =
        subst (λ exit. Meet pass a point 0 (exit_halt s.running.block.exit s) (exit_halt exit t)) (sym exits) (exit-meets s.running.block.exit s t h last)
    block-meets (Call results entry arguments depth ∷ rest) s t h exits among gives last =
        let R = reads_at point.entry in
        let read = All-head (λ stmt. All (ReadsOf R) (exprs_of (trim_stmt trim stmt))) (Call results entry arguments depth) rest among in
        record {
          at_once = refl;
          entry = refl;
          depth = refl;
          outside = record { memory = h.outside.memory; input = h.outside.input; events = h.outside.events; base = h.outside.base };
          enters = values-on (Contains R) s t h (kept (trim.takes entry) arguments) read ∙ kept-map (value_in s) (trim.takes entry) arguments;
          resumes = λ r r' fit fit' leaves.
              subst (λ r'. All (λ read. with_values t.running.values (kept (trim.gives entry) results) r' read ≡ with_values s.running.values results r read) R) (sym leaves)
              (given_trimmed R (map (location_width s.running.graph.bits) results) (trim.gives entry) results r s.running.values t.running.values
              (length-map results (location_width s.running.graph.bits)) fit
              (All-head (GivesRead trim R) (Call results entry arguments depth) rest gives) (all_had (λ l. t.running.values l ≡ s.running.values l) R h.values));
        }
    block-meets (stmt ∷ rest) s t h exits among gives last =
        let R = reads_at point.entry in
        let next = stmt-agrees (Contains R) stmt s t refl (All-head (λ stmt. All (ReadsOf R) (exprs_of (trim_stmt trim stmt))) stmt rest among) h in
        let same : (stmt_step stmt s).running.block ≡ s.running.block = ap (λ (f : Frame). f.block) (stmt-frame stmt s) in
        let other_same : (stmt_step stmt t).running.block ≡ t.running.block = ap (λ (f : Frame). f.block) (stmt-frame stmt t) in
        let exits' = ap (λ (b : Block). b.exit) other_same ∙ exits ∙ sym (ap (λ (b : Block). trim_exit trim point.entry b.exit) same) in
        let last' = subst (λ (b : Block). All (ReadsOf R) (exit_exprs (trim_exit trim point.entry b.exit))) (sym same) last in
        let on = λ (e : is_over (stmt_step stmt s).end ≡ false). block-meets rest (stmt_step stmt s) (stmt_step stmt t)
        (weaker-on (StillOn (Contains R) (stmt_step stmt s)) (Contains R) (stmt_step stmt s) (stmt_step stmt t) (λ l c. (e, c)) next) exits'
        (All-tail (λ stmt. All (ReadsOf R) (exprs_of (trim_stmt trim stmt))) stmt rest among) (All-tail (GivesRead trim R) stmt rest gives) last' in
        subst (λ b. Meet pass a point 0 (if is_over (stmt_step stmt s).end then Over (stmt_step stmt s) else local_run rest (stmt_step stmt s))
        (if b then Over (stmt_step stmt t) else local_run (map (trim_stmt trim) rest) (stmt_step stmt t)))
        (sym (ap is_over next.end))
        (both_go (stmt_step stmt s) (stmt_step stmt t) (local_run rest (stmt_step stmt s)) (local_run (map (trim_stmt trim) rest) (stmt_step stmt t)) (is_over (stmt_step stmt s).end)
        (record { end = next.end; events = next.outside.events }) on refl)

  -- From a point both go on.
  goes : All (IsTrimmable trim) p.graphs → OwesGo p (trimmed trim p) pass
  goes trimmable a point s t together = (0, subst (λ rest. Meet pass a point 0 (halt_of s) (local_run rest t)) (sym rests) (block-meets a point s.running.rest s t agree exits read gives last))
    where
      graphs : t.running.graph ≡ trim_graph trim s.running.graph
      graphs = found_trimmed point.entry s.running.graph t.running.graph together.first.at.graph together.second.at.graph

      entries : s.running.graph.entry ≡ point.entry
      entries = found_entry p.graphs point.entry s.running.graph together.first.at.graph

      blocks : t.running.block ≡ trim_block trim point.entry s.running.block
      blocks =
          let there = ap (λ (x : Graph). slice_get x.blocks point.place) (sym graphs) ∙ together.second.at.block in
          let e = sym (slice_get-map (trim_block trim s.running.graph.entry) s.running.graph.blocks point.place) ∙ there in
          let e' = ap (option_map (trim_block trim s.running.graph.entry)) together.first.at.block in
          some_same t.running.block (trim_block trim s.running.graph.entry s.running.block) (sym e ∙ e') ∙ ap (λ n. trim_block trim n s.running.block) entries

      rests : t.running.rest ≡ map (trim_stmt trim) s.running.rest
      rests =
          together.second.at.rest ∙ ap (λ (x : Block). after_calls point.calls x.stmts) blocks
          ∙ trim-after_calls trim point.calls s.running.block.stmts ∙ ap (map (trim_stmt trim)) (sym together.first.at.rest)

      agree : Agree (reads_at point.entry) s t
      agree = record {
        values = λ l c. All-contains (λ l. t.running.values l ≡ s.running.values l) (reads_at point.entry) l together.holds c;
        outside = together.outside;
        end = is_running t.end together.second.running ∙ sym (is_running s.end together.first.running);
        bits = ap (λ (x : Graph). x.bits) graphs;
        entry = ap (λ (x : Graph). x.entry) graphs;
      }

      exits : t.running.block.exit ≡ trim_exit trim point.entry s.running.block.exit
      exits = ap (λ (x : Block). x.exit) blocks

      same_reads : reads_in t.running.graph ≡ reads_at point.entry
      same_reads = ap (λ o. reads_in (graph_or_none o)) (sym together.second.at.graph)

      -- the expressions of the trimmed block
      all_read : All (ReadsOf (reads_at point.entry)) (block_exprs (trim_block trim point.entry s.running.block))
      all_read =
          subst (λ (x : Block). All (ReadsOf (reads_at point.entry)) (block_exprs x)) blocks
          (subst (λ reads. All (ReadsOf reads) (block_exprs t.running.block)) same_reads
          (All-contains (λ x. All (ReadsOf (reads_in t.running.graph)) (block_exprs x)) t.running.graph.blocks t.running.block
          (all_parts (ReadsOf (reads_in t.running.graph)) block_exprs t.running.graph.blocks
          (all_parts (Contains (reads_in t.running.graph)) reads_of (graph_exprs t.running.graph) (All-contains_itself (reads_in t.running.graph))))
          (contained t.running.graph.blocks point.place t.running.block together.second.at.block)))

      read : All (λ stmt. All (ReadsOf (reads_at point.entry)) (exprs_of (trim_stmt trim stmt))) s.running.rest
      read =
          let P = λ (stmt : Stmt). All (ReadsOf (reads_at point.entry)) (exprs_of stmt) in
          let stmts = map (trim_stmt trim) s.running.block.stmts in
          let parts = all_parts (ReadsOf (reads_at point.entry)) exprs_of stmts (left_part (ReadsOf (reads_at point.entry)) (flat_map exprs_of stmts)
          (exit_exprs (trim_exit trim point.entry s.running.block.exit)) all_read) in
          subst (All (λ stmt. P (trim_stmt trim stmt))) (sym together.first.at.rest)
          (after_calls-all (λ stmt. P (trim_stmt trim stmt)) point.calls s.running.block.stmts (all_mapped P (trim_stmt trim) s.running.block.stmts parts))

      last : All (ReadsOf (reads_at point.entry)) (exit_exprs (trim_exit trim point.entry s.running.block.exit))
      last = right_part (ReadsOf (reads_at point.entry)) (flat_map exprs_of (map (trim_stmt trim) s.running.block.stmts)) (exit_exprs (trim_exit trim point.entry s.running.block.exit)) all_read

      gives : All (GivesRead trim (reads_at point.entry)) s.running.rest
      gives =
          let is = All-contains (IsTrimmable trim) p.graphs s.running.graph trimmable (found_contained (λ x. x.entry == point.entry) p.graphs s.running.graph together.first.at.graph) in
          let P = λ (x : Block). All (GivesRead trim (reads_in (trim_graph trim s.running.graph))) x.stmts in
          let here = All-contains P s.running.graph.blocks s.running.block is.gives (contained s.running.graph.blocks point.place s.running.block together.first.at.block) in
          subst (All (GivesRead trim (reads_at point.entry))) (sym together.first.at.rest) (after_calls-all (GivesRead trim (reads_at point.entry)) point.calls s.running.block.stmts
          (subst (λ reads. All (GivesRead trim reads) s.running.block.stmts) (ap reads_in (sym graphs) ∙ same_reads) here))

  -- What nothing reads may go.
  pub unread_goes : IsProgram p → IsProgram (trimmed trim p) → All (IsTrimmable trim) p.graphs → KeepsRuns p (trimmed trim p)
  unread_goes formed formed' trimmable = keeps_runs p (trimmed trim p) pass (record {
    before = formed;
    after = formed';
    image = refl;
    lo = refl;
    hi = refl;
    entries = same_entries trim p.graphs;
    blocks = λ entry old new found found'. subst (λ x. BlocksStay old x (λ n. n)) (sym (found_trimmed entry old new found found')) (stay old);
    begin = λ entry old new found found'. subst (OwesBegin pass entry old) (sym (found_trimmed entry old new found found')) (begins entry old found);
    go = goes trimmable;
    start = all_of (λ g. ◌≡◌ {A = List ℕ} [] (kept (trim.takes g.entry) [])) (take 1 p.graphs) (λ g. refl);
  })
    where
      here : (old : Graph) (n : ℕ) (new : Block) (b : Option Block) → slice_get old.blocks n ≡ b → slice_get (trim_graph trim old).blocks n ≡ Some new →
          (b : Block) × (slice_get old.blocks n ≡ Some b) × (b.at ≡ new.at)
      here old n new (Some b) found found' =
          let e = sym (slice_get-map (trim_block trim old.entry) old.blocks n) ∙ found' in
          (b, found, ap (λ (x : Block). x.at) (some_same (trim_block trim old.entry b) new (sym (ap (option_map (trim_block trim old.entry)) found) ∙ e)))
      here old n new None found found' =
          let e = sym (slice_get-map (trim_block trim old.entry) old.blocks n) ∙ found' in
          let none : None ≡ Some new = sym (ap (option_map (trim_block trim old.entry)) found) ∙ e in
          absurd (cc)

      stay : (old : Graph) → BlocksStay old (trim_graph trim old) (λ n. n)
      stay old = record { first = refl; stays = λ n new found. here old n new (slice_get old.blocks n) refl found }

      begins : (entry : ℕ) (old : Graph) → graph_at p.graphs entry ≡ Some old → OwesBegin pass entry old (trim_graph trim old)
      begins entry old found = record {
        begin = λ fill base a a' s t small fit fit' enters outside opened opened'.
            let is = All-contains (IsTrimmable trim) p.graphs old trimmable (found_contained (λ x. x.entry == entry) p.graphs old found) in
            let same : old.entry ≡ entry = found_entry p.graphs entry old found in
            let there : graph_at (trimmed trim p).graphs entry ≡ Some (trim_graph trim old) = trimmed_at trim p.graphs entry ∙ ap (option_map (trim_graph trim)) found in
            let reads : reads_in (trim_graph trim old) ≡ reads_at entry = ap (λ o. reads_in (graph_or_none o)) (sym there) in
            let values = all_of (λ read. t.running.values read ≡ s.running.values read) (reads_in (trim_graph trim old))
            (λ read. ap (λ (x : Activation). x.values read) opened' ∙ sym (ap (λ (x : Activation). x.values read) opened)) in
            let o = taken_trimmed (reads_in (trim_graph trim old)) (param_widths old) (trim.takes old.entry) old.params a 0 0 s t (length-map old.params (λ q. put_width old.bits q.put)) fit
            (may is.memory) is.takes
            (record { values = values; memory = outside.memory; base = outside.base }) in
            let taken : a' ≡ kept (trim.takes old.entry) a = enters ∙ ap (λ n. kept (trim.takes n) a) (sym same) in
            subst (λ a'. BeginAlike pass entry a (passing 0 old.params a s) (passing 0 (trim_graph trim old).params a' t)) (sym taken) (record {
              memory = o.memory;
              holds = subst (All (λ read. (passing 0 (trim_graph trim old).params (kept (trim.takes old.entry) a) t).running.values read ≡
                  (passing 0 old.params a s).running.values read)) reads o.values;
            });
      }
        where
          may : ((k : ℕ) → trim.takes old.entry k ≡ true) ⊎ All (λ q. is_memory q.put ≡ false) old.params → MayMove (reads_in (trim_graph trim old)) (trim.takes old.entry) old.params 0 0
          may (inl all) = inl (all, refl)
          may (inr none) = inr none

-- Nothing goes.

nothing-stmt : (stmt : Stmt) → trim_stmt nothing_trimmed stmt ≡ stmt
nothing-stmt (Call results entry arguments depth) = ap₂ (λ r a. Call r entry a depth) (kept_all (λ k. true) results (λ k. refl)) (kept_all (λ k. true) arguments (λ k. refl))
nothing-stmt stmt = refl

nothing-exit : (entry : ℕ) (exit : Exit) → trim_exit nothing_trimmed entry exit ≡ exit
nothing-exit entry (Ret values) = ap Ret (kept_all (λ k. true) values (λ k. refl))
nothing-exit entry exit = refl

nothing-block : (entry : ℕ) (b : Block) → trim_block nothing_trimmed entry b ≡ b
nothing-block entry b = ap₂ (λ stmts exit. record { at = b.at; stmts = stmts; exit = exit }) (map_same (trim_stmt nothing_trimmed) b.stmts nothing-stmt) (nothing-exit entry b.exit)

nothing-graph : (g : Graph) → trim_graph nothing_trimmed g ≡ g
nothing-graph g = ap₂ (λ params blocks. record g { params = params; blocks = blocks }) (kept_all (λ k. true) g.params (λ k. refl))
    (map_same (trim_block nothing_trimmed g.entry) g.blocks (nothing-block g.entry))

nothing_gives : (reads : List Loc) (stmt : Stmt) → GivesRead nothing_trimmed reads stmt
nothing_gives reads (Call results entry arguments depth) = subst (All (IsUnread reads)) (sym (kept_none (λ k. false) results (λ k. refl))) (All-nil (IsUnread reads))
nothing_gives reads stmt = tt

nothing_goes : (g : Graph) → IsTrimmable nothing_trimmed g
nothing_goes g =
    let reads = reads_in (trim_graph nothing_trimmed g) in
    record {
      takes = subst (λ params. All (IsUnread reads) (flat_map (λ q. places_of q.put) params)) (sym (kept_none (λ k. false) g.params (λ k. refl))) (All-nil (IsUnread reads));
      memory = inl (λ k. refl);
      gives = all_of (λ b. All (GivesRead nothing_trimmed reads) b.stmts) g.blocks (λ b. all_of (GivesRead nothing_trimmed reads) b.stmts (nothing_gives reads));
    }

-- Each well-formed program keeps its own runs.
pub runs_kept : (p : Program) → IsProgram p → KeepsRuns p p
runs_kept p formed =
    let same : trimmed nothing_trimmed p ≡ p = ap (λ graphs. record p { graphs = graphs }) (map_same (trim_graph nothing_trimmed) p.graphs nothing-graph) in
    subst (KeepsRuns p) same (unread_goes nothing_trimmed p formed (subst IsProgram (sym same) formed) (all_of (IsTrimmable nothing_trimmed) p.graphs nothing_goes))
