-- A graph whose expressions mean what those of another do stands for it: in states that fit, both do the same.
use Rattle.std.proofs.Common.{◌≡◌, ℕ, zero, suc, Bool, true, false, List, [], ◌∷◌, length, Option, Some, None, refl, sym, ap, ap₂, ◌∙◌, subst, true≢false, map, slice_get}
use Rattle.std.specs.Prelude.{if◌then◌else◌, ◌==◌, ◌/◌}
use Rattle.std.specs.List.{AllZip, list_all}
use Rattle.dcc_run.specs.End.{Stuck, is_over}
use Rattle.dcc_ir.specs.declared.syntax.Loc.{Loc}
use Rattle.dcc_ir.specs.Tree.{Expr, Stmt, Set, Fetch, Store, Div, Call, Dos, Exit, Block, Graph}
use Rattle.dcc_ir.specs.Location.{Values, with_value, filled}
use Rattle.dcc_ir.specs.Value.{Environment, value_of, bytes_at, division_at, division_of, width_of, Fits}
use Rattle.dcc_ir.specs.Run.{State, Activation, scene_of, value_in, argument_in, stuck, stmt_step, is_call, passing}
use Rattle.dcc_ir.specs.Fitting.{StateFits}
use Rattle.dcc_ir.specs.WellFormed.{is_stmt, is_exit, is_block, IsGraph}
use Rattle.dcc_ir.specs.Local.{Point, after_call, after_calls, Halt, Over, Jumps, switch_halt, exit_halt, local_run}
use Rattle.dcc_ir.specs.Passes.{with_values, AgreeOutside, EndAlike, Meet}
use Rattle.dcc_ir.proofs.FitLaws.{both}
use Rattle.dcc_ir.proofs.FitStates.{IsFit, scene-fits, stmt-fit}
use Rattle.dcc_ir.proofs.ReachedLaws.{contained, all_at}
use Rattle.dcc_ir.proofs.ZipLaws.{map_zipped}
use Rattle.dcc_ir.proofs.passes.LocalLaws.{is_running, Frame, stmt-frame}
use Rattle.dcc_ir.proofs.passes.SameLaws.{taken_same}
use Rattle.dcc_passes.specs.Replaced.{StandsFor}
use Rattle.dcc_passes.specs.Kinds.{StaysInKind}
use Rattle.dcc_passes.specs.OneGraph.{Invariant, one_pass, BeginsIn, GoesIn}
use Rattle.dcc_passes.specs.Following.{Bond, TakeAlike, DoAlike}
use Rattle.dcc_passes.proofs.OneGraphLaws.{one-stands}
use Rattle.dcc_passes.proofs.KindLaws.{kind-fits}
use Rattle.dcc_passes.proofs.FollowLaws.{steps-alike}
use Rattle.dcc_rules.specs.Simpler.{MeansSame}
use Rattle.dcc_simplify.specs.Reshaped.{IsDivisionAs, divides, stays, IsArgumentAs, none, some, IsStmtAs, sets, fetches, stores, divides_into, calls, asks_dos, IsExitAs, goes, tests, switches, returns, stops, IsBlockAs, IsGraphAs}
use Rattle.dcc_simplify.proofs.ZipLaws.{zip-at}
use mathlib.Core.Path.{fun_ext}

fit-of : (s : State) → StateFits s → IsFit s
fit-of s h = record {
  values = h.running.values;
  memory = record { len = h.running.len; bytes = h.running.bytes };
  console = record { left = h.input; written = h.written; taken = h.taken };
}

-- the locations hold the same
abbrev Same : Bond
Same scene v' = v' ≡ scene.values

abbrev same : Invariant
same point v v' = v' ≡ v

-- In two states with the same outside and the same values.

module _ (bits : List ℕ) (s t : State) (width : s.running.graph.bits ≡ bits) (width' : t.running.graph.bits ≡ bits) (outside : AgreeOutside s t)
    (values : t.running.values ≡ s.running.values) (fit : IsFit s) where
  scenes : scene_of t ≡ scene_of s
  scenes =
      let w = width' ∙ sym width in
      let b = outside.base in
      let m = outside.memory in
      λ i. record { bits = w i; values = values i; base = b i; memory = m i }

  value-same : (e e' : Expr) → MeansSame bits e e' → value_in t e' ≡ value_in s e
  value-same e e' m =
      ap (λ scene. value_of scene e') scenes ∙ m.value (scene_of s) width (scene-fits s fit)

  values-same : (es es' : List Expr) → AllZip (MeansSame bits) es es' → map (value_in t) es' ≡ map (value_in s) es
  values-same es es' h = map_zipped (MeansSame bits) (value_in s) (value_in t) value-same es es' h

  division-same : (e e' : Expr) → IsDivisionAs (MeansSame bits) e e' → division_of (scene_of t) e' ≡ division_of (scene_of s) e
  division-same e e' (divides {operator = operator} {width = w} {a = a} {b = b} {a' = a'} {b' = b'} h k) =
      ap₂ (division_at operator w) (value-same a a' h) (value-same b b' k)
  division-same e e' (stays is) = ap (λ scene. division_of scene e) scenes

  argument-same : (e e' : Option Expr) → IsArgumentAs (MeansSame bits) e e' → argument_in t e' ≡ argument_in s e
  argument-same e e' none = refl
  argument-same e e' (some {e = x} {e' = x'} h) = value-same x x' h

  takes-same : (place : Option Loc) → TakeAlike Same (scene_of s) t.running.values place place
  takes-same (Some x) = λ n. ap (λ v. with_value v x n) values
  takes-same None = values

  pub does-same : (stmt stmt' : Stmt) → is_call stmt ≡ false → IsStmtAs (MeansSame bits) stmt stmt' → DoAlike Same s t stmt stmt'
  does-same stmt stmt' plain (sets {location = x} {e = e} {e' = e'} h) = ap₂ (λ v n. with_value v x n) values (value-same e e' h)
  does-same stmt stmt' plain (fetches {location = x} {width = w} {address = a} {address' = a'} h) =
      ap₂ (λ v n. with_value v x n) values (ap₂ (λ m n. bytes_at m (w / 8) n) outside.memory (value-same a a' h))
  does-same stmt stmt' plain (stores {width = w} {address = a} {address' = a'} {e = e} {e' = e'} h k) =
      (refl, value-same a a' h, value-same e e' k, values)
  does-same stmt stmt' plain (divides_into {location = x} {e = e} {e' = e'} h) =
      (division-same e e' h, λ n. ap (λ v. with_value v x n) values)
  does-same stmt stmt' plain (calls h) = absurd (cc)
  does-same stmt stmt' plain (asks_dos {number = number} {place = place} {argument = e} {argument' = e'} h) =
      (refl, argument-same e e' h, takes-same place, λ no. values)

-- What is left after calls.

call-goes : (bits : List ℕ) (stmts : List Stmt) → list_all (is_stmt bits) stmts ≡ true → list_all (is_stmt bits) (after_call stmts) ≡ true
call-goes bits [] ok = ok
call-goes bits (Set x e ∷ stmts) ok = call-goes bits stmts (both (is_stmt bits (Set x e)) (list_all (is_stmt bits) stmts) ok).1
call-goes bits (Fetch x w a ∷ stmts) ok = call-goes bits stmts (both (is_stmt bits (Fetch x w a)) (list_all (is_stmt bits) stmts) ok).1
call-goes bits (Store w a e ∷ stmts) ok = call-goes bits stmts (both (is_stmt bits (Store w a e)) (list_all (is_stmt bits) stmts) ok).1
call-goes bits (Div x e ∷ stmts) ok = call-goes bits stmts (both (is_stmt bits (Div x e)) (list_all (is_stmt bits) stmts) ok).1
call-goes bits (Call r n a d ∷ stmts) ok = (both (is_stmt bits (Call r n a d)) (list_all (is_stmt bits) stmts) ok).1
call-goes bits (Dos n p a ∷ stmts) ok = call-goes bits stmts (both (is_stmt bits (Dos n p a)) (list_all (is_stmt bits) stmts) ok).1

calls-go : (bits : List ℕ) (n : ℕ) (stmts : List Stmt) → list_all (is_stmt bits) stmts ≡ true → list_all (is_stmt bits) (after_calls n stmts) ≡ true
calls-go bits zero stmts ok = ok
calls-go bits (suc n) stmts ok = call-goes bits (after_calls n stmts) (calls-go bits n stmts ok)

one-call-goes : (As : Expr → Expr → Type 0) (x y : Stmt) (xs ys : List Stmt) → IsStmtAs As x y → AllZip (IsStmtAs As) xs ys
    → AllZip (IsStmtAs As) (after_call xs) (after_call ys) → AllZip (IsStmtAs As) (after_call (x ∷ xs)) (after_call (y ∷ ys))
one-call-goes As x y xs ys (sets k) h later = later
one-call-goes As x y xs ys (fetches k) h later = later
one-call-goes As x y xs ys (stores k l) h later = later
one-call-goes As x y xs ys (divides_into k) h later = later
one-call-goes As x y xs ys (calls k) h later = h
one-call-goes As x y xs ys (asks_dos k) h later = later

zip-call-goes : (As : Expr → Expr → Type 0) (xs ys : List Stmt) → AllZip (IsStmtAs As) xs ys → AllZip (IsStmtAs As) (after_call xs) (after_call ys)
zip-call-goes As [] [] h = tt
zip-call-goes As [] (y ∷ ys) h = absurd h
zip-call-goes As (x ∷ xs) [] h = absurd h
zip-call-goes As (x ∷ xs) (y ∷ ys) h = one-call-goes As x y xs ys h.0 h.1 (zip-call-goes As xs ys h.1)

zip-calls-go : (As : Expr → Expr → Type 0) (n : ℕ) (xs ys : List Stmt) → AllZip (IsStmtAs As) xs ys → AllZip (IsStmtAs As) (after_calls n xs) (after_calls n ys)
zip-calls-go As zero xs ys h = h
zip-calls-go As (suc n) xs ys h = zip-call-goes As (after_calls n xs) (after_calls n ys) (zip-calls-go As n xs ys h)

-- the local run of a statement that is no call goes on after it, where it isn't over
no-call-runs : (stmt : Stmt) (rest : List Stmt) (s : State) → is_call stmt ≡ false
    → local_run (stmt ∷ rest) s ≡ (if is_over (stmt_step stmt s).end then Over (stmt_step stmt s) else local_run rest (stmt_step stmt s))
no-call-runs (Set x e) rest s plain = refl
no-call-runs (Fetch x width a) rest s plain = refl
no-call-runs (Store width a e) rest s plain = refl
no-call-runs (Div x e) rest s plain = refl
no-call-runs (Call r n a d) rest s plain = absurd (true≢false plain)
no-call-runs (Dos n p a) rest s plain = refl

-- From a point of a block.

module _ (before after : Graph) (entry : after.entry ≡ before.entry) (bits : after.bits ≡ before.bits) (a : List ℕ) (point : Point) (block new : Block)
    (exits : IsExitAs (MeansSame before.bits) block.exit new.exit) where
  abbrev Meets : Halt → Halt → Type 0
  Meets = Meet (one_pass (λ k. k) same) a point 0

  record Stand (s t : State) : Type 0 where
    first : s.running.graph ≡ before
    second : t.running.graph ≡ after
    here : s.running.block ≡ block
    there : t.running.block ≡ new
    outside : AgreeOutside s t
    values : t.running.values ≡ s.running.values
    fit : IsFit s
    running : is_over s.end ≡ false
    end : t.end ≡ s.end

  abbrev widths : (s t : State) → Stand s t → s.running.graph.bits ≡ before.bits
  widths s t st = ap (λ (g : Graph). g.bits) st.first

  abbrev widths' : (s t : State) → Stand s t → t.running.graph.bits ≡ before.bits
  widths' s t st = ap (λ (g : Graph). g.bits) st.second ∙ bits

  entries : (s t : State) → Stand s t → t.running.graph.entry ≡ s.running.graph.entry
  entries s t st = ap (λ (g : Graph). g.entry) st.second ∙ entry ∙ sym (ap (λ (g : Graph). g.entry) st.first)

  value : (s t : State) → Stand s t → (e e' : Expr) → MeansSame before.bits e e' → value_in t e' ≡ value_in s e
  value s t st e e' m = value-same before.bits s t (widths s t st) (widths' s t st) st.outside st.values st.fit e e' m

  jumps : (k : ℕ) (s t : State) → Stand s t → Meets (Jumps k s) (Jumps k t)
  jumps k s t st = record { stands = refl; outside = st.outside; holds = st.values }

  no-way : (s t : State) → Stand s t → EndAlike (stuck s) (stuck t)
  no-way s t st = record { end = ap Stuck (entries s t st); events = st.outside.events }

  ends : (exit exit' : Exit) → IsExitAs (MeansSame before.bits) exit exit' → (s t : State) → Stand s t → Meets (exit_halt exit s) (exit_halt exit' t)
  ends exit exit' (goes {place = k}) s t st = jumps k s t st
  ends exit exit' (tests {test = e} {test' = e'} {one = one} {other = other} h) s t st =
      subst (λ n. Meets (Jumps (if value_in s e == 1 then one else other) s) (Jumps (if n == 1 then one else other) t)) (sym (value s t st e e' h))
      (jumps (if value_in s e == 1 then one else other) s t st)
  ends exit exit' (switches {e = e} {e' = e'} {places = places} h) s t st =
      subst (λ n. Meets (switch_halt (slice_get places (value_in s e)) s) (switch_halt (slice_get places n) t)) (sym (value s t st e e' h))
      (go (slice_get places (value_in s e)))
    where
      go : (k : Option ℕ) → Meets (switch_halt k s) (switch_halt k t)
      go (Some k) = jumps k s t st
      go None = no-way s t st
  ends exit exit' (returns {values = es} {values' = es'} h) s t st =
      record { outside = st.outside; leaves = map_zipped (MeansSame before.bits) (value_in s) (value_in t) (value s t st) es es' h }
  ends exit exit' stops s t st = no-way s t st

  -- either both are over, or what follows meets
  go-on : (s t : State) (halt halt' : Halt) (b : Bool) → EndAlike s t → (b ≡ false → Meets halt halt')
      → Meets (if b then Over s else halt) (if b then Over t else halt')
  go-on s t halt halt' true over on = over
  go-on s t halt halt' false over on = on refl

  abbrev Walks : List Stmt → List Stmt → Type 0
  Walks xs ys = (s t : State) → Stand s t → Meets (local_run xs s) (local_run ys t)

  -- statements that are no calls do the same, and then what follows them meets
  plain-walks : (x y : Stmt) (xs ys : List Stmt) → is_call x ≡ false → is_call y ≡ false → IsStmtAs (MeansSame before.bits) x y → is_stmt before.bits x ≡ true
      → Walks xs ys → Walks (x ∷ xs) (y ∷ ys)
  plain-walks x y xs ys plain plain' k ok later s t st =
      let s' = stmt_step x s in
      let t' = stmt_step y t in
      let next = steps-alike Same x y s t st.outside st.end (entries s t st)
      (does-same before.bits s t (widths s t st) (widths' s t st) st.outside st.values st.fit x y plain k) in
      let f = stmt-frame x s in
      let f' = stmt-frame y t in
      let on = λ (e : is_over s'.end ≡ false). later s' t' (record {
        first = ap (λ (f : Frame). f.graph) f ∙ st.first;
        second = ap (λ (f : Frame). f.graph) f' ∙ st.second;
        here = ap (λ (f : Frame). f.block) f ∙ st.here;
        there = ap (λ (f : Frame). f.block) f' ∙ st.there;
        outside = next.outside;
        values = next.holds e;
        fit = stmt-fit x s (subst (λ w. is_stmt w x ≡ true) (sym (widths s t st)) ok) st.fit;
        running = e;
        end = next.end;
      }) in
      subst (λ halt. Meets halt (local_run (y ∷ ys) t)) (sym (no-call-runs x xs s plain))
      (subst (λ halt. Meets (if is_over s'.end then Over s' else local_run xs s') halt) (sym (no-call-runs y ys t plain'))
      (subst (λ b. Meets (if is_over s'.end then Over s' else local_run xs s') (if b then Over t' else local_run ys t')) (sym (ap is_over next.end))
      (go-on s' t' (local_run xs s') (local_run ys t') (is_over s'.end) (record { end = next.end; events = next.outside.events }) on)))

  step-walks : (x y : Stmt) (xs ys : List Stmt) → IsStmtAs (MeansSame before.bits) x y → is_stmt before.bits x ≡ true → Walks xs ys → Walks (x ∷ xs) (y ∷ ys)
  step-walks x y xs ys (sets k) ok later = plain-walks x y xs ys refl refl (sets k) ok later
  step-walks x y xs ys (fetches k) ok later = plain-walks x y xs ys refl refl (fetches k) ok later
  step-walks x y xs ys (stores k l) ok later = plain-walks x y xs ys refl refl (stores k l) ok later
  step-walks x y xs ys (divides_into k) ok later = plain-walks x y xs ys refl refl (divides_into k) ok later
  step-walks x y xs ys (asks_dos k) ok later = plain-walks x y xs ys refl refl (asks_dos k) ok later
  step-walks x y xs ys (calls {results = results} {arguments = es} {arguments' = es'} k) ok later = λ s t st. record {
    at_once = refl;
    entry = refl;
    depth = refl;
    outside = record { memory = st.outside.memory; input = st.outside.input; events = st.outside.events; base = st.outside.base };
    enters = map_zipped (MeansSame before.bits) (value_in s) (value_in t) (value s t st) es es' k;
    resumes = λ r r' fit fit' leaves. ap₂ (λ v l. with_values v results l) st.values leaves;
  }

  walk : (xs ys : List Stmt) → AllZip (IsStmtAs (MeansSame before.bits)) xs ys → list_all (is_stmt before.bits) xs ≡ true → Walks xs ys
  walk [] [] h ok = λ s t st.
      subst (λ b. Meets (exit_halt b.exit s) (exit_halt t.running.block.exit t)) (sym st.here)
      (subst (λ b. Meets (exit_halt block.exit s) (exit_halt b.exit t)) (sym st.there) (ends block.exit new.exit exits s t st))
  walk [] (y ∷ ys) h ok = absurd h
  walk (x ∷ xs) [] h ok = absurd h
  walk (x ∷ xs) (y ∷ ys) h ok =
      let parts = both (is_stmt before.bits x) (list_all (is_stmt before.bits) xs) ok in
      step-walks x y xs ys h.0 parts.0 (walk xs ys h.1 parts.1)

-- The whole graph.

module _ (before after : Graph) (fine : IsGraph before) (is : IsGraphAs (MeansSame before.bits) before after) where
  goes-same : GoesIn (λ k. k) before after same
  goes-same p q formed formed' a point s t here together first second = (
    0,
    let placed = subst (λ (g : Graph). slice_get g.blocks point.place ≡ Some s.running.block) first together.first.at.block in
        let placed' = subst (λ (g : Graph). slice_get g.blocks point.place ≡ Some t.running.block) second together.second.at.block in
        let pair = zip-at (IsBlockAs (MeansSame before.bits)) before.blocks after.blocks point.place s.running.block t.running.block is.blocks placed placed' in
        let good = all_at (is_block before.bits (length before.blocks)) before.blocks s.running.block fine.blocks (contained before.blocks point.place s.running.block placed) in
        let stmts = (both (list_all (is_stmt before.bits) s.running.block.stmts) (is_exit before.bits (length before.blocks) s.running.block.exit) good).0 in
        let at = together.first.at.rest in
        let at' = together.second.at.rest in
        walk before after is.entry is.bits a point s.running.block t.running.block pair.exit s.running.rest t.running.rest
        (subst (λ r. AllZip (IsStmtAs (MeansSame before.bits)) r t.running.rest) (sym at)
        (subst (AllZip (IsStmtAs (MeansSame before.bits)) (after_calls point.calls s.running.block.stmts)) (sym at')
        (zip-calls-go (MeansSame before.bits) point.calls s.running.block.stmts t.running.block.stmts pair.stmts)))
        (subst (λ r. list_all (is_stmt before.bits) r ≡ true) (sym at) (calls-go before.bits point.calls s.running.block.stmts stmts)) s t (record {
          first = first;
          second = second;
          here = refl;
          there = refl;
          outside = together.outside;
          values = together.holds;
          fit = fit-of s together.first.fits;
          running = together.first.running;
          end = is_running t.end together.second.running ∙ sym (is_running s.end together.first.running);
        }),
  )

  begins-same : BeginsIn before after same
  begins-same fill base a s t fit outside opened opened' =
      let filled_alike = λ (l : Loc). ap (λ (x : Activation). x.values l) opened' ∙ ap (λ bits. filled bits fill l) is.bits ∙ sym (ap (λ (x : Activation). x.values l) opened) in
      let taken = taken_same 0 before.params a s t (record { values = filled_alike; memory = outside.memory; base = outside.base }) in
      subst (λ params. let s' = passing 0 before.params a s in let t' = passing 0 params a t in (t'.memory ≡ s'.memory) × (t'.running.values ≡ s'.running.values))
      (sym is.params) (taken.memory, fun_ext taken.values)

  pub stands-same : IsGraph after → StaysInKind before after → StandsFor before after
  stands-same formed kind =
      one-stands (λ k. k) same before after (kind-fits before after kind formed) begins-same goes-same
