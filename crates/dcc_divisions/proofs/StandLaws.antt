-- A graph without divisions that may go stands for the graph.
use Rattle.std.proofs.Common.{◌≡◌, ℕ, Bool, true, false, ◌⊎◌, inl, inr, List, [], ◌∷◌, ◌++◌, Option, Some, None, refl, sym, ap, ap₂, ◌∙◌, subst, true≢false, map, flat_map, reverse, length, slice_get, Contains}
use Rattle.std.specs.Prelude.{All, if◌then◌else◌}
use Rattle.std.specs.List.{AllZip, list_all}
use Rattle.std.proofs.lemmas.List.{length-map, append_assoc, append_cancel_right, reverse-append, reverse-reverse}
use Rattle.std.proofs.lemmas.Bool.{and_parts}
use Rattle.std.proofs.lemmas.List.Elements.{All-head, All-tail, All-weaker}
use Rattle.std.proofs.lemmas.Option.{get_or_from_slice_get}
use Rattle.dcc_run.specs.End.{is_over}
use Rattle.dcc_ir.specs.declared.syntax.Loc.{Loc}
use Rattle.dcc_ir.specs.Tree.{Expr, Binary, Stmt, Set, Fetch, Store, Div, Call, Dos, Exit, Goto, If, Switch, Ret, Stop, Block, Graph}
use Rattle.dcc_ir.specs.Location.{same_location, location_width, Values, with_value, filled}
use Rattle.dcc_ir.specs.Value.{Environment, division_of, division_at}
use Rattle.dcc_ir.specs.Use.{parts_of, reads_of, writes_of}
use Rattle.dcc_ir.specs.Demand.{tests_of}
use Rattle.dcc_ir.specs.Live.{block_in}
use Rattle.dcc_ir.specs.Families.{IsClosed, live}
use Rattle.dcc_ir.specs.WellFormed.{is_stmt, is_exit, is_block, IsGraph}
use Rattle.dcc_ir.specs.Local.{start_of}
use Rattle.dcc_ir.specs.Passes.{with_values, FitIn}
use Rattle.dcc_ir.specs.Run.{State, Activation, passing, scene_of, value_in, stmt_step, is_call, no_block}
use Rattle.dcc_ir.proofs.FamilyLaws.{live-closed}
use Rattle.dcc_ir.proofs.ListLaws.{all_had, all_parts}
use Rattle.dcc_ir.proofs.LocationLaws.{location_itself, Contains-here, Contains-none, Contains-cases, location_decided}
use Rattle.dcc_ir.proofs.ReachedLaws.{contained, all_at}
use Rattle.dcc_ir.proofs.ZipLaws.{zip_back}
use Rattle.dcc_ir.proofs.passes.LocalLaws.{some_same}
use Rattle.dcc_ir.proofs.passes.AgreeLaws.{AgreeOn, stmt-on, value_agrees}
use Rattle.dcc_ir.proofs.passes.SameLaws.{taken_same}
use Rattle.dcc_passes.specs.Kinds.{StaysInKind}
use Rattle.dcc_passes.specs.Replaced.{StandsFor}
use Rattle.dcc_passes.specs.OneGraph.{BeginsIn}
use Rattle.dcc_passes.specs.Following.{Link, EndsAlike, Stepped, FaultsFirst, RunAlike, IsFollowedBy, done, steps, calls, drops, IsFollowedByBlock, linked, IsFollowedByGraph}
use Rattle.dcc_passes.proofs.FollowLaws.{followed-stands}
use Rattle.dcc_passes.proofs.RenamingLaws.{in-both}
use Rattle.dcc_substitution.proofs.AvailableLaws.{with-other}
use Rattle.dcc_substitution.proofs.SubstitutedLaws.{given-other, one-changes, call-changes}
use Rattle.dcc_substitution.proofs.RunLaws.{stmt-did}
use Rattle.dcc_divisions.specs.Divisions.{IsDivided, DividesFirst, first, AreLeft, done as ended, stays, goes, IsBlockLeft, IsWithoutDivisions}
use Rattle.dcc_divisions.proofs.FaultLaws.{faults-alike, NoneFaults, nothing-divided, none-faults-after, passes-on}

-- Statements that are passed, the last one first.

pub passed-more : (passed : List Stmt) (stmt : Stmt) (rest : List Stmt) → reverse (stmt ∷ passed) ++ rest ≡ reverse passed ++ stmt ∷ rest
passed-more passed stmt rest =
    ap (λ l. l ++ rest) (reverse-append (stmt ∷ []) passed) ∙ append_assoc (reverse passed) (stmt ∷ []) rest

passed-same : (passed other rest : List Stmt) → reverse passed ++ rest ≡ reverse other ++ rest → passed ≡ other
passed-same passed other rest is =
    sym (reverse-reverse passed) ∙ ap reverse (append_cancel_right (reverse passed) (reverse other) rest is) ∙ reverse-reverse other

-- values that are given back are the same, and what isn't written was
given-same : (l : Loc) (widths : List ℕ) (results : List Loc) (r : List ℕ) (v v' : Values) → length widths ≡ length results → FitIn widths r → ((Contains results l → ⊥) → v' l ≡ v l)
    → with_values v' results r l ≡ with_values v results r l
given-same l [] [] [] v v' len fit same = same (Contains-none l)
given-same l (w ∷ widths) (x ∷ results) (n ∷ r) v v' len fit same = given-same l widths results r (with_value v x n) (with_value v' x n) (cc) fit.1 (λ out. here out (same_location l x) refl)
  where
    here : (Contains results l → ⊥) → (b : Bool) → same_location l x ≡ b → (if b then n else v' l) ≡ (if b then n else v l)
    here out true e = refl
    here out false e = same (λ c. Contains-cases x results l ⊥ (λ same. true≢false (sym (subst (λ y. same_location l y ≡ true) (sym same) (location_itself l)) ∙ e)) out c)
given-same l [] [] (n ∷ r) v v' len fit same = absurd fit
given-same l (w ∷ widths) (x ∷ results) [] v v' len fit same = absurd fit
given-same l [] (x ∷ results) r v v' len fit same = absurd (cc)
given-same l (w ∷ widths) [] r v v' len fit same = absurd (cc)

-- statements that begin with a division that faults alike
faults-first : (e : Expr) (stmts : List Stmt) → DividesFirst e stmts → (t : State) → division_of (scene_of t) e ≡ None → FaultsFirst stmts t
faults-first e stmts (first {other = f} alike) t none = faults-alike (scene_of t) e f alike none

module _ (before after : Graph) (is : IsWithoutDivisions before after) (fine : IsGraph before) where
  bits-same : after.bits ≡ before.bits
  bits-same = ap (λ (g : Graph). g.bits) is.frame

  closed : IsClosed before (live before)
  closed = live-closed before

  -- what is live holds the same, and no division faults that came to a number
  record Bound (block : Block) (rest : List Stmt) (scene : Environment) (v' : Values) : Type 0 where
    same : (l : Loc) → live before block rest l → v' l ≡ scene.values l
    none : (passed : List Stmt) → reverse passed ++ rest ≡ block.stmts → NoneFaults passed scene

  abbrev link : Link
  link place rest scene v' = Bound (block_in before place) rest scene v'

  module _ (place : ℕ) where
    abbrev block : Block
    block = block_in before place

    abbrev Has : List Stmt → Loc → Type 0
    Has rest l = live before block rest l

    abbrev Run : List Stmt → State → State → Type 0
    Run rest s t = RunAlike before after (Bound block rest) s t

    abbrev Follows : List Stmt → List Stmt → Type 0
    Follows = IsFollowedBy before after (Bound block)

    bits-alike : (rest : List Stmt) (s t : State) → Run rest s t → t.running.graph.bits ≡ s.running.graph.bits
    bits-alike rest s t h = ap (λ (g : Graph). g.bits) h.second ∙ bits-same ∙ sym (ap (λ (g : Graph). g.bits) h.first)

    -- an expression has one value in both where what it reads is live
    value-same : (rest : List Stmt) (s t : State) → Run rest s t → (e : Expr) → All (Has rest) (reads_of e) → value_in t e ≡ value_in s e
    value-same rest s t h e among =
        value_agrees (scene_of s) (scene_of t) (bits-alike rest s t h) h.outside.base h.outside.memory e
        (All-weaker (Has rest) (λ l. t.running.values l ≡ s.running.values l) h.holds.same (reads_of e) among)

    values-same : (rest : List Stmt) (s t : State) → Run rest s t → (es : List Expr) → All (λ e. All (Has rest) (reads_of e)) es → map (value_in t) es ≡ map (value_in s) es
    values-same rest s t h [] among = refl
    values-same rest s t h (e ∷ es) among =
        ap₂ (λ n ns. n ∷ ns) (value-same rest s t h e (All-head (λ e. All (Has rest) (reads_of e)) e es among))
        (values-same rest s t h es (All-tail (λ e. All (Has rest) (reads_of e)) e es among))

    division-same : (rest : List Stmt) (s t : State) → Run rest s t → (e : Expr) → All (Has rest) (reads_of e) → division_of (scene_of t) e ≡ division_of (scene_of s) e
    division-same rest s t h (Binary operator width a b) among =
        let parts = in-both (Has rest) (parts_of a) (parts_of b) among in
        ap₂ (division_at operator width) (value-same rest s t h a parts.0) (value-same rest s t h b parts.1)
    division-same rest s t h e among = refl

    agree : (rest : List Stmt) (s t : State) → Run rest s t → t.end ≡ s.end → AgreeOn (Has rest) s t
    agree rest s t h end = record {
      values = h.holds.same;
      outside = h.outside;
      end = end;
      bits = bits-alike rest s t h;
      entry = ap (λ (g : Graph). g.entry) h.second ∙ ap (λ (g : Graph). g.entry) is.frame ∙ sym (ap (λ (g : Graph). g.entry) h.first);
    }

    module _ (passed : List Stmt) (stmt : Stmt) (rest : List Stmt) (split : reverse passed ++ stmt ∷ rest ≡ block.stmts) where
      -- what is passed after the statement
      next-passed : (passed' : List Stmt) → reverse passed' ++ rest ≡ block.stmts → passed' ≡ stmt ∷ passed
      next-passed passed' split' = passed-same passed' (stmt ∷ passed) rest (split' ∙ sym split ∙ sym (passed-more passed stmt rest))

      steps-bound : is_call stmt ≡ false → is_stmt before.bits stmt ≡ true → (s t : State) → Run (stmt ∷ rest) s t → t.end ≡ s.end
          → Stepped (Bound block rest) (stmt_step stmt s) (stmt_step stmt t)
      steps-bound plain formed s t h end =
          let next = stmt-on (Has (stmt ∷ rest)) (Has rest) stmt s t plain (record {
            used = λ l c. closed.used block stmt rest l c;
            made_of = λ l to writes c m. closed.made_of block stmt rest l to writes c m;
            left = λ l m. location_decided (writes_of stmt) l (Has (stmt ∷ rest) l ⊎ (Contains (writes_of stmt) l × (is_stmt s.running.graph.bits stmt ≡ true)))
                (λ c. inr (c, subst (λ (g : Graph). is_stmt g.bits stmt ≡ true) (sym h.first) formed))
                (λ out. inl (closed.left block stmt rest l out m));
          }) (agree (stmt ∷ rest) s t h end) in
          record {
            outside = next.outside;
            end = next.end;
            holds = λ on. record {
              same = λ l m. next.values l (on, m);
              none = λ passed' split'.
                  subst (λ p. NoneFaults p (scene_of (stmt_step stmt s))) (sym (next-passed passed' split'))
                  (none-faults-after stmt passed (scene_of s) (scene_of (stmt_step stmt s)) (stmt-did stmt s) (h.holds.none passed split)
                  (λ x f same faults. passes-on x f s (subst (λ y. is_over (stmt_step y s).end ≡ false) same on) faults));
            };
          }

    call-follows : (passed : List Stmt) (results : List Loc) (entry depth : ℕ) (arguments : List Expr) (rest rest' : List Stmt)
        → reverse passed ++ Call results entry arguments depth ∷ rest ≡ block.stmts → Follows rest rest'
        → Follows (Call results entry arguments depth ∷ rest) (Call results entry arguments depth ∷ rest')
    call-follows passed results entry depth arguments rest rest' split later =
        let call = Call results entry arguments depth in
        calls
        (λ s t h.
        let Now = Has (call ∷ rest) in
        values-same (call ∷ rest) s t h arguments (all_parts Now reads_of arguments (all_had Now (flat_map reads_of arguments) (λ l c. closed.used block call rest l c))))
        (λ s t r h fit base memory. record {
          same = λ l m.
              given-same l (map (location_width before.bits) results) results r s.running.values t.running.values (length-map results (location_width before.bits)) fit
              (λ out. h.holds.same l (closed.left block call rest l out m));
          none = λ passed' split'.
              let next : Environment = record { bits = before.bits; values = with_values s.running.values results r; base = base; memory = memory } in
              subst (λ p. NoneFaults p next) (sym (next-passed passed call rest split passed' split'))
              (none-faults-after call passed (scene_of s) next
              (call-changes results entry depth arguments (scene_of s) next (sym (ap (λ (g : Graph). g.bits) h.first)) (λ l out. given-other s.running.values results r l out))
              (h.holds.none passed split) (λ x f same faults. absurd (cc)));
        })
        later

    exit-alike : (exit : Exit) → block.exit ≡ exit → (s t : State) → Run [] s t → EndsAlike s t exit exit
    exit-alike exit same s t h = go exit same
      where
        tests : (exit : Exit) → block.exit ≡ exit → All (Has []) (tests_of exit)
        tests exit same = all_had (Has []) (tests_of exit) (λ l c. closed.tested block l (subst (λ x. Contains (tests_of x) l) (sym same) c))

        go : (exit : Exit) → block.exit ≡ exit → EndsAlike s t exit exit
        go (Goto to) same = refl
        go (If test one other) same = (value-same [] s t h test (tests (If test one other) same), refl, refl)
        go (Switch e places) same = (value-same [] s t h e (tests (Switch e places) same), refl)
        go (Ret values) same = values-same [] s t h values (all_parts (Has []) reads_of values (tests (Ret values) same))
        go Stop same = tt

    -- a division that goes
    drop-follows : (passed : List Stmt) (x : Loc) (e : Expr) (rest rest' : List Stmt) → reverse passed ++ Div x e ∷ rest ≡ block.stmts → ¬ Has rest x
        → IsDivided e passed ⊎ DividesFirst e rest' → Follows rest rest' → Follows (Div x e ∷ rest) rest'
    drop-follows passed x e rest rest' split dead beside later =
        drops (λ s t h none. faults beside s t h none)
        (λ s t n h is. record {
          same = λ l m.
              h.holds.same l (closed.left block (Div x e) rest l (λ c. Contains-cases x [] l ⊥ (λ same. dead (subst (Has rest) (sym same) m)) (Contains-none l) c) m)
              ∙ sym (with-other s.running.values x n l (λ same. dead (subst (Has rest) same m)));
          none = λ passed' split'.
              let next : Environment = record (scene_of s) { values = with_value s.running.values x n } in
              subst (λ p. NoneFaults p next) (sym (next-passed passed (Div x e) rest split passed' split'))
              (none-faults-after (Div x e) passed (scene_of s) next (one-changes (Div x e) x n (scene_of s) refl (λ l v same. absurd (cc))) (h.holds.none passed split)
              (λ y f same none. number n (sym is ∙ subst (λ g. division_of (scene_of s) g ≡ None) (let to : f ≡ e = cc in to) none)));
        })
        later
      where
        number : (n : ℕ) → Some n ≡ None → ⊥
        number n is = absurd (cc)

        faults : IsDivided e passed ⊎ DividesFirst e rest' → (s t : State) → Run (Div x e ∷ rest) s t → division_of (scene_of s) e ≡ None → FaultsFirst rest' t
        faults (inl told) s t h none = absurd (h.holds.none passed split e told none)
        faults (inr next) s t h none =
            faults-first e rest' next t
            (division-same (Div x e ∷ rest) s t h e (all_had (Has (Div x e ∷ rest)) (reads_of e) (λ l c. closed.used block (Div x e) rest l c)) ∙ none)

    stmts-follow : (passed stmts news : List Stmt) → AreLeft (live before block) passed stmts news → reverse passed ++ stmts ≡ block.stmts
        → list_all (is_stmt before.bits) stmts ≡ true → Follows stmts news
    stmts-follow passed stmts news ended split formed = done
    stmts-follow passed stmts news (stays {stmt = stmt} {rest = rest} {left = rest'} w) split formed =
        let parts = and_parts (is_stmt before.bits stmt) (list_all (is_stmt before.bits) rest) formed in
        go stmt split parts.0 (stmts-follow (stmt ∷ passed) rest rest' w (passed-more passed stmt rest ∙ split) parts.1)
      where
        go : (stmt : Stmt) → reverse passed ++ stmt ∷ rest ≡ block.stmts → is_stmt before.bits stmt ≡ true → Follows rest rest' → Follows (stmt ∷ rest) (stmt ∷ rest')
        go (Call results entry arguments depth) split formed later = call-follows passed results entry depth arguments rest rest' split later
        go stmt split formed later = steps refl refl (λ s t h end. steps-bound passed stmt rest split refl formed s t h end) later
    stmts-follow passed stmts news (goes {location = x} {e = e} {rest = rest} {left = left} dead beside w) split formed =
        let parts = and_parts (is_stmt before.bits (Div x e)) (list_all (is_stmt before.bits) rest) formed in
        drop-follows passed x e rest left split dead beside
        (stmts-follow (Div x e ∷ passed) rest left w (passed-more passed (Div x e) rest ∙ split) parts.1)

    block-follows : (new : Block) → IsBlockLeft before block new → list_all (is_stmt before.bits) block.stmts ≡ true → IsFollowedByBlock before after link place block new
    block-follows new left formed = record {
      stmts = stmts-follow [] block.stmts new.stmts left.stmts refl formed;
      exit = λ s t h. subst (EndsAlike s t block.exit) (sym left.exit) (exit-alike block.exit refl s t h);
      goes = λ to next s t goes found h base memory.
          let there : block_in before to ≡ next = get_or_from_slice_get before.blocks to next no_block found in
          subst (λ b. Bound b next.stmts (record { bits = before.bits; values = s.running.values; base = base; memory = memory }) t.running.values) (sym there)
          (record {
            same = λ l m. h.holds.same l (closed.goes block next to l goes found m);
            none = λ passed split. nothing-divided passed _ (passed-same passed [] next.stmts split);
          });
    }

  divisions-begin : BeginsIn before after (linked before after link)
  divisions-begin fill base a s t fit outside opened opened' =
      let o = taken_same 0 before.params a s t (record {
        values = λ l. ap (λ (x : Activation). x.values l) opened' ∙ ap (λ bits. filled bits fill l) bits-same ∙ sym (ap (λ (x : Activation). x.values l) opened);
        memory = outside.memory;
        base = outside.base;
      }) in
      let s' = passing 0 before.params a s in
      subst (λ params. let t' = passing 0 params a t in (t'.memory ≡ s'.memory) × linked before after link (start_of before.entry) s'.running.values t'.running.values)
      (sym (ap (λ (g : Graph). g.params) is.frame)) (
        o.memory,
        λ block found base memory.
            let here : block_in before 0 ≡ block = get_or_from_slice_get before.blocks 0 block no_block found in
            subst (λ b. Bound b block.stmts (record { bits = before.bits; values = s'.running.values; base = base; memory = memory }) (passing 0 before.params a t).running.values) (sym here)
            (record { same = λ l m. o.values l; none = λ passed split. nothing-divided passed _ (passed-same passed [] block.stmts split) }),
      )

  divisions-follow : IsFollowedByGraph before after link
  divisions-follow = record {
    begins = divisions-begin;
    blocks = λ place block new found there.
        let here : block_in before place ≡ block = get_or_from_slice_get before.blocks place block no_block found in
        let back = zip_back (IsBlockLeft before) before.blocks after.blocks place new is.blocks there in
        let pair = subst (λ b. IsBlockLeft before b new) (some_same back.0 block (sym back.1 ∙ found)) back.2 in
        let formed = all_at (is_block before.bits (length before.blocks)) before.blocks block fine.blocks (contained before.blocks place block found) in
        let stmts = (and_parts (list_all (is_stmt before.bits) block.stmts) (is_exit before.bits (length before.blocks) block.exit) formed).0 in
        subst (λ b. IsFollowedByBlock before after link place b new) here
        (block-follows place new (subst (λ b. IsBlockLeft before b new) (sym here) pair) (subst (λ b. list_all (is_stmt before.bits) b.stmts ≡ true) (sym here) stmts));
  }

  pub divisions-stand : StaysInKind before after → IsGraph after → StandsFor before after
  divisions-stand kind formed = followed-stands before after link kind formed divisions-follow
