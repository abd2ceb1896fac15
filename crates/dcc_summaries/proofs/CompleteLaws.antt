-- Where all that follows is known, all that is wanted is known.
use Rattle.std.proofs.Common.{◌≡◌, ℕ, zero, suc, ◌<◌, ◌≤◌, Bool, true, false, ◌&&◌, not, inl, inr, List, [], ◌∷◌, length, map, get_or, refl, sym, ap, ◌∙◌, subst, true≢false, arith, Contains, Option, Some, None}
use Rattle.std.specs.Prelude.{◌↔◌, ◌==◌, if◌then◌else◌}
use Rattle.std.proofs.lemmas.Bool.{and_parts, eq-eqb, false_from_ne_true, cases_lt}
use Rattle.std.proofs.lemmas.List.{get_or_past, length-map}
use Rattle.std.proofs.lemmas.List.Folds.{list_any_at}
use Rattle.std.proofs.Math.ListN.{get_or-map}
use Rattle.std.specs.List.{list_any}
use Rattle.std.proofs.lemmas.List.Elements.{Contains-append_left, Contains-append_right}
use Rattle.dcc_flow.specs.Edges.{is_in}
use Rattle.dcc_flow.proofs.RowLaws.{length_successors}
use Rattle.dcc_ir.specs.declared.syntax.Loc.{Loc}
use Rattle.dcc_ir.specs.Tree.{Stmt, Call, Exit, Goto, If, Switch, Ret, Stop, Block, Graph, Program}
use Rattle.dcc_ir.specs.Demand.{makes_of}
use Rattle.dcc_ir.specs.Flow.{targets, graph_or_none}
use Rattle.dcc_ir.specs.Live.{is_among, block_in}
use Rattle.dcc_ir.specs.Run.{graph_at, no_graph, no_block}
use Rattle.dcc_ir.specs.WellFormed.{IsProgram, all_differ}
use Rattle.dcc_ir.proofs.GraphLaws.{found_entry}
use Rattle.dcc_ir.proofs.LocationLaws.{Contains-here, Contains-none, Contains-cases, among_contains}
use Rattle.dcc_demand.specs.Procedures.{Procedures, is_left, CallChanges}
use Rattle.dcc_demand.specs.Changes.{Changes}
use Rattle.dcc_demand.specs.Wanted.{Wanted, IsClosedUnderDemand}
use Rattle.dcc_demand.proofs.WantedLaws.{wanted-least}
use Rattle.dcc_sums.specs.Points.{Position, begin_of, next_of, Site, Executes, Ends, Nowhere, site_at, site_of, nexts_of, is_return}
use Rattle.dcc_sums.specs.Instance.{passes, written_by, used_by, used_at_end, callee_of, action_at, procedures_of}
use Rattle.dcc_sums.proofs.SiteLaws.{contained_map, changes_pass}
use Rattle.dcc_modref.proofs.ProgramLaws.{found_place}
use Rattle.dcc_modref.proofs.StateLaws.{among_filter, left_unwritten}
use Rattle.dcc_summaries.specs.declared.points.Point.{Point}
use Rattle.dcc_summaries.specs.declared.table.Want.{Want}
use Rattle.dcc_summaries.specs.declared.ways.Port.{Port}
use Rattle.dcc_summaries.specs.Points.{point_at, graph_in, site_in, callee_at, used_at, IsPoint, all_points}
use Rattle.dcc_summaries.specs.Ways.{ArePreds, port_at, ports_at, calls_at, returns_at, all_calls, all_returns}
use Rattle.dcc_summaries.specs.Ways.{ports_of}
use Rattle.dcc_summaries.specs.Demands.{want_at, wants_at, seeds}
use Rattle.dcc_summaries.specs.Follow.{wants_of, before_call, before_stmt, before_site, before_block, before_entry}
use Rattle.dcc_summaries.specs.Follow.{followers}
use Rattle.dcc_summaries.proofs.ListLaws.{from_map, in_flat, in_filter}
use Rattle.dcc_summaries.proofs.PointLaws.{is_one}
use Rattle.dcc_summaries.proofs.SoundLaws.{listed_in, in_listed, targets_there, callee_there, entry_of, graph_named}
use Rattle.dcc_summaries.proofs.SoundLaws.{setting}

-- Sites of points that are there.

-- a site at which something is done
abbrev pub is_real : Site → Bool
is_real (Executes stmt) = true
is_real (Ends Stop) = false
is_real (Ends exit) = true
is_real Nowhere = false

real_used : (pushed : ℕ) (site : Site) (l : Loc) → (action_at pushed site).uses l ≡ true → is_real site ≡ true
real_used pushed (Executes stmt) l e = refl
real_used pushed (Ends Stop) l e = absurd (true≢false (sym e))
real_used pushed (Ends (Goto place)) l e = refl
real_used pushed (Ends (If test one other)) l e = refl
real_used pushed (Ends (Switch x places)) l e = refl
real_used pushed (Ends (Ret values)) l e = refl
real_used pushed Nowhere l e = absurd (true≢false (sym e))

used_there : (pushed : ℕ) (site : Site) (l : Loc) → (action_at pushed site).uses l ≡ true → Contains (used_at site) l
used_there pushed (Executes stmt) l e = among_contains (used_by stmt) l e
used_there pushed (Ends exit) l e = among_contains (used_at_end exit) l e
used_there pushed Nowhere l e = absurd (true≢false (sym e))

pub real_call : (site : Site) (entry : ℕ) → callee_at site ≡ Some entry → (stmt : Stmt) × (site ≡ Executes stmt) × (callee_of stmt ≡ Some entry)
real_call (Executes stmt) entry e = (stmt, refl, e)
real_call (Ends exit) entry e = absurd (cc)
real_call Nowhere entry e = absurd (cc)

pub real_return : (site : Site) → is_return site ≡ true → is_real site ≡ true
real_return (Executes stmt) e = absurd (true≢false (sym e))
real_return (Ends (Ret values)) e = refl
real_return (Ends (Goto place)) e = absurd (true≢false (sym e))
real_return (Ends (If test one other)) e = absurd (true≢false (sym e))
real_return (Ends (Switch x places)) e = absurd (true≢false (sym e))
real_return (Ends Stop) e = absurd (true≢false (sym e))
real_return Nowhere e = absurd (true≢false (sym e))

-- a site at which something is done stands within its statements
real_within : (done : ℕ) (stmts : List Stmt) (exit : Exit) → is_real (site_at done stmts exit) ≡ true → done ≤ length stmts
real_within zero stmts exit e = omega arith
real_within (suc done) [] exit e = absurd (true≢false (sym e))
real_within (suc done) (stmt ∷ stmts) exit e = let rest = real_within done stmts exit e in omega (arith, rest)

end_within : (done : ℕ) (stmts : List Stmt) (exit end : Exit) → site_at done stmts exit ≡ Ends end → (done ≡ length stmts) × (exit ≡ end)
end_within zero [] exit end e = (refl, cc)
end_within zero (stmt ∷ stmts) exit end e = absurd (cc)
end_within (suc done) [] exit end e = absurd (cc)
end_within (suc done) (stmt ∷ stmts) exit end e = let rest = end_within done stmts exit end e in (ap suc rest.0, rest.1)

-- nothing is done in a block or a graph that isn't there
no_block_real : (done : ℕ) → is_real (site_at done [] Stop) ≡ true → ⊥
no_block_real zero e = true≢false (sym e)
no_block_real (suc done) e = true≢false (sym e)

real_point : (p : Program) (k : ℕ) (a : Position) → k < length p.graphs → is_real (site_of (graph_in p k) a) ≡ true → IsPoint p (point_at k a.block a.done)
real_point p k a inside e =
    let graph = graph_in p k in
    record {
      graph = inside;
      block = elim (cases_lt a.block (length graph.blocks)) [
        | inl below ↦ below
        | inr past ↦ absurd (no_block_real a.done (subst (λ (b : Block). is_real (site_at a.done b.stmts b.exit) ≡ true) (get_or_past graph.blocks a.block no_block past) e))
      ];
      done = real_within a.done (block_in graph a.block).stmts (block_in graph a.block).exit e;
    }

-- a call writes nothing that passes
passing_unwritten : (stmt : Stmt) (entry : ℕ) (l : Loc) → callee_of stmt ≡ Some entry → passes l ≡ true → is_among (written_by stmt) l ≡ false
passing_unwritten (Call results callee arguments depth) entry l e passing = among_filter (λ x. not (passes x)) results l ∙ ap (λ b. is_among results l && not b) passing ∙ none (is_among results l)
  where
    none : (a : Bool) → (a && false) ≡ false
    none true = refl
    none false = refl
passing_unwritten stmt entry l e passing = absurd (cc)

-- no further graph has the entry of the first
apart : (g : Graph) (graphs : List Graph) (k : ℕ) → k < length graphs → all_differ (map (λ (x : Graph). x.entry) (g ∷ graphs)) ≡ true → g.entry ≡ (get_or graphs k no_graph).entry → ⊥
apart g graphs k inside differ e =
    let f : Graph → ℕ = λ x. x.entry in
    let none = and_parts (not (list_any (λ n. g.entry == n) (map f graphs))) (all_differ (map f graphs)) differ in
    let size = length-map graphs f in
    let found = list_any_at (λ n. g.entry == n) (map f graphs) k 0 (omega (arith, inside, size)) (eq-eqb g.entry (get_or (map f graphs) k 0) (e ∙ sym (get_or-map f graphs k no_graph))) in
    true≢false (sym none.0 ∙ ap not found)

-- a graph is told by its entry
pub one_place : (graphs : List Graph) (m k : ℕ) → m < length graphs → k < length graphs → all_differ (map (λ (g : Graph). g.entry) graphs) ≡ true
    → (get_or graphs m no_graph).entry ≡ (get_or graphs k no_graph).entry → m ≡ k
one_place [] m k inside there differ e = absurd (omega (arith, inside))
one_place (g ∷ graphs) zero zero inside there differ e = refl
one_place (g ∷ graphs) zero (suc k) inside there differ e = absurd (apart g graphs k (omega (arith, there)) differ e)
one_place (g ∷ graphs) (suc m) zero inside there differ e = absurd (apart g graphs m (omega (arith, inside)) differ (sym e))
one_place (g ∷ graphs) (suc m) (suc k) inside there differ e =
    ap suc (one_place graphs m k (omega (arith, inside)) (omega (arith, there)) (and_parts (not (list_any (λ n. g.entry == n) (map (λ (x : Graph). x.entry) graphs))) (all_differ (map (λ (x : Graph). x.entry) graphs)) differ).1 e)

-- Points by the entries of graphs.
module _ (p : Program) (good : IsProgram p) where
  pub site_there : (k i : ℕ) (a : Position) → k < length p.graphs → entry_of p good k ≡ i → site_of (graph_or_none (graph_at p.graphs i)) a ≡ site_of (graph_in p k) a
  site_there k i a inside is = ap (λ n. site_of (graph_or_none (graph_at p.graphs n)) a) (sym is) ∙ ap (λ g. site_of g a) (graph_named p good k inside)

  -- a point at which something is done
  pub record IsDone (i : ℕ) (a : Position) : Type 0 where
    pub place : ℕ
    pub entry : entry_of p good place ≡ i
    pub is : IsPoint p (point_at place a.block a.done)
    pub site : site_of (graph_or_none (graph_at p.graphs i)) a ≡ site_in p (point_at place a.block a.done)

  pub done_there : (i : ℕ) (a : Position) → is_real (site_of (graph_or_none (graph_at p.graphs i)) a) ≡ true → IsDone i a
  done_there i a real = by (graph_at p.graphs i) refl
    where
      by : (x : Option Graph) → graph_at p.graphs i ≡ x → IsDone i a
      by None e = absurd (no_block_real a.done (subst (λ x. is_real (site_of (graph_or_none x) a) ≡ true) e real))
      by (Some g) e =
          let found = found_place p.graphs i g e in
          let k = found.0 in
          let same = ap (λ (x : Graph). x.entry) found.2 ∙ found_entry p.graphs i g e in
          let site = site_there k i a found.1 same in
          record { place = k; entry = same; is = real_point p k a found.1 (subst (λ s. is_real s ≡ true) site real); site = site }

module _ (p : Program) (good : IsProgram p) (changed : ℕ → Loc → Bool) (tells : (i : ℕ) (l : Loc) → (changed i l ≡ true) ↔ Changes (procedures_of p) i l) (preds : List (List (List ℕ))) (are : ArePreds p preds)
    (told : Want → Bool) (points : (x : Want) → told x ≡ true → IsPoint p x.at) (seeded : (x : Want) → Contains (seeds p (all_points p)) x → told x ≡ true)
    (followed : (x : Want) → told x ≡ true → (y : Want) → Contains (followers (setting p good changed tells preds are) x) y → told y ≡ true) where
  abbrev P : Procedures Position Loc Loc
  P = procedures_of p

  abbrev calls : List Port
  calls = all_calls p (all_points p)

  abbrev returns : List Port
  returns = all_returns p (all_points p)

  -- the location is told of before the point of some graph with that entry
  pub record IsTold (i : ℕ) (a : Position) (l : Loc) : Type 0 where
    pub place : ℕ
    pub inside : place < length p.graphs
    pub entry : entry_of p good place ≡ i
    pub known : told (want_at (point_at place a.block a.done) l) ≡ true

  used_told : (i : ℕ) (a : Position) (l : Loc) → ((P.procedure i).action a).uses l ≡ true → IsTold i a l
  used_told i a l e =
      let graph = graph_or_none (graph_at p.graphs i) in
      let at = done_there p good i a (real_used graph.pushed (site_of graph a) l e) in
      let x = want_at (point_at at.place a.block a.done) l in
      let used = subst (λ s. Contains (used_at s) l) at.site (used_there graph.pushed (site_of graph a) l e) in
      record {
        place = at.place;
        inside = at.is.graph;
        entry = at.entry;
        known = seeded x (in_flat (λ q. wants_at q (used_at (site_in p q))) (all_points p) x.at x (is_one p x.at at.is) (contained_map (want_at x.at) (used_at (site_in p x.at)) l used));
      }

  -- What is told of after a point, within a graph.
  module _ (i : ℕ) (a b : Position) (to : Loc) (next : Contains ((P.procedure i).next a) b) (later : IsTold i b to) where
    abbrev k : ℕ
    k = later.place

    abbrev at : Point
    at = point_at k a.block a.done

    abbrev is_site : site_of (graph_or_none (graph_at p.graphs i)) a ≡ site_in p at
    is_site = site_there p good k i a later.inside later.entry

    abbrev goes : Contains (nexts_of (site_in p at) a) b
    goes = subst (λ s. Contains (nexts_of s a) b) is_site next

    abbrev pushed : ℕ
    pushed = (graph_or_none (graph_at p.graphs i)).pushed

    here_told : (l : Loc) → told (want_at at l) ≡ true → IsTold i a l
    here_told l e = record { place = k; inside = later.inside; entry = later.entry; known = e }

    -- after a statement
    after_stmt : (stmt : Stmt) → site_in p at ≡ Executes stmt → told (want_at (point_at k a.block (suc a.done)) to) ≡ true
    after_stmt stmt e =
        let one = subst (λ s. Contains (nexts_of s a) b) e goes in
        subst (λ (q : Position). told (want_at (point_at k q.block q.done) to) ≡ true) (Contains-cases (next_of a) [] b (b ≡ next_of a) sym (λ d. absurd (Contains-none b d)) one) later.known

    stmt_follows : (stmt : Stmt) → site_in p at ≡ Executes stmt → (y : Want) → Contains (before_stmt changed returns at stmt to) y → told y ≡ true
    stmt_follows stmt e y c = followed (want_at (point_at k a.block (suc a.done)) to) (after_stmt stmt e) y (subst (λ s. Contains (before_site changed returns at s to) y) (sym e) c)

    -- after the end of a block
    end_follows : (exit : Exit) → site_in p at ≡ Ends exit → told (want_at at to) ≡ true
    end_follows exit e =
        let graph = graph_in p k in
        let block = block_in graph a.block in
        let ended = end_within a.done block.stmts block.exit exit e in
        let target = from_map begin_of (targets exit) b (subst (λ s. Contains (nexts_of s a) b) e goes) in
        let t = target.0 in
        let begun = subst (λ (q : Position). told (want_at (point_at k q.block q.done) to) ≡ true) (sym target.2) later.known in
        let below = (points (want_at (point_at k t 0) to) begun).block in
        let size = length_successors graph in
        let row = get_or (get_or preds k []) t [] in
        let leading : is_in row a.block ≡ true =
        (are.exact k later.inside).exact a.block t (omega (arith, below, size)) ∙ ap (λ xs. is_in xs t) (targets_there graph a.block ∙ ap targets ended.1) ∙ listed_in (targets exit) t target.1 in
        let f : ℕ → Want = λ q. want_at (point_at k q (length (block_in graph q).stmts)) to in
        let known = followed (want_at (point_at k t 0) to) begun (f a.block)
        (Contains-append_left (before_block p preds k t to) (before_entry p calls k t to) (f a.block) (contained_map f row a.block (in_listed row a.block leading))) in
        subst (λ n. told (want_at (point_at k a.block n) to) ≡ true) (sym ended.0) known

    made_told : (l : Loc) → is_left (((P.procedure i).action a).effect to) ≡ false → ((P.procedure i).action a).made_of to l ≡ true → IsTold i a l
    made_told l effect makes = by (site_in p at) refl (subst (λ s. is_left ((action_at pushed s).effect to) ≡ false) is_site effect) (subst (λ s. (action_at pushed s).made_of to l ≡ true) is_site makes)
      where
        by : (s : Site) → site_in p at ≡ s → is_left ((action_at pushed s).effect to) ≡ false → (action_at pushed s).made_of to l ≡ true → IsTold i a l
        by (Executes stmt) e w m =
            let written : is_among (written_by stmt) to ≡ true = sym (left_unwritten pushed stmt to) ∙ ap not w in
            here_told l (stmt_follows stmt e (want_at at l)
            (subst (λ t. Contains (if t then wants_at at (makes_of stmt) else before_call changed returns at (callee_of stmt) to) (want_at at l)) (sym written) (contained_map (want_at at) (makes_of stmt) l (among_contains (makes_of stmt) l m))))
        by (Ends exit) e w m = absurd (true≢false w)
        by Nowhere e w m = absurd (true≢false w)

    left_told : ((P.procedure i).action a).surely to ≡ false → ¬ CallChanges (Changes P) ((P.procedure i).action a).callee to → IsTold i a to
    left_told out unchanged = by (site_in p at) refl (subst (λ s. (action_at pushed s).surely to ≡ false) is_site out) (subst (λ s. ¬ CallChanges (Changes P) (action_at pushed s).callee to) is_site unchanged)
      where
        by : (s : Site) → site_in p at ≡ s → (action_at pushed s).surely to ≡ false → ¬ CallChanges (Changes P) (action_at pushed s).callee to → IsTold i a to
        by (Executes stmt) e u n = here_told to (stmt_follows stmt e (want_at at to)
            (subst (λ t. Contains (if t then wants_at at (makes_of stmt) else before_call changed returns at (callee_of stmt) to) (want_at at to)) (sym u) (kept (callee_of stmt) n)))
          where
            kept : (callee : Option ℕ) → ¬ CallChanges (Changes P) callee to → Contains (before_call changed returns at callee to) (want_at at to)
            kept None n = Contains-here (want_at at to) []
            kept (Some entry) n = subst (λ t. Contains (if t then wants_of entry returns to else want_at at to ∷ []) (want_at at to))
                (sym (false_from_ne_true (changed entry to) (λ t. n ((tells entry to).0 t)))) (Contains-here (want_at at to) [])
        by (Ends exit) e u n = here_told to (end_follows exit e)
        by Nowhere e u n = absurd (Contains-none b (subst (λ s. Contains (nexts_of s a) b) e goes))

  -- What is told of at the entry of a callee.
  taken_told : (i callee : ℕ) (a : Position) (l : Loc) → ((P.procedure i).action a).callee ≡ Some callee → passes l ≡ true → IsTold callee (begin_of 0) l → IsTold i a l
  taken_told i callee a l c passing entered =
      let graph = graph_or_none (graph_at p.graphs i) in
      let found = real_call (site_of graph a) callee (sym (callee_there graph.pushed (site_of graph a)) ∙ c) in
      let at = done_there p good i a (ap is_real found.1) in
      let point = point_at at.place a.block a.done in
      let port = port_at point callee in
      let called : callee_at (site_in p point) ≡ Some callee = ap callee_at (sym at.site ∙ found.1) ∙ found.2 in
      let listed = in_flat (λ q. calls_at q (site_in p q)) (all_points p) point port (is_one p point at.is) (subst (λ o. Contains (ports_at point o) port) (sym called) (Contains-here port [])) in
      let k = entered.place in
      let y = want_at point l in
      let at_calls : Contains (wants_of (entry_of p good k) calls l) y =
      contained_map (λ (q : Port). want_at q.at l) (ports_of (entry_of p good k) calls) port (in_filter (λ (q : Port). q.entry == entry_of p good k) calls port listed (eq-eqb callee (entry_of p good k) (sym entered.entry))) in
      record {
        place = at.place;
        inside = at.is.graph;
        entry = at.entry;
        known = followed (want_at (point_at k 0 0) l) entered.known y (Contains-append_right (before_block p preds k 0 l) (before_entry p calls k 0 l) y
            (subst (λ t. Contains (if t then wants_of (entry_of p good k) calls l else []) y) (sym passing) at_calls));
      }

  -- What is told of after a call.
  returned_told : (i caller : ℕ) (a call after : Position) (l : Loc) → (P.procedure i).returns a ≡ true → Changes P i l → ((P.procedure caller).action call).callee ≡ Some i
      → Contains ((P.procedure caller).next call) after → IsTold caller after l → IsTold i a l
  returned_told i caller a call after l r changes c goes later =
      let graph = graph_or_none (graph_at p.graphs i) in
      let of = graph_or_none (graph_at p.graphs caller) in
      let at = done_there p good i a (real_return (site_of graph a) r) in
      let point = point_at at.place a.block a.done in
      let port = port_at point (entry_of p good at.place) in
      let gives : is_return (site_in p point) ≡ true = ap is_return (sym at.site) ∙ r in
      let listed = in_flat (λ q. returns_at q (entry_of p good q.graph) (site_in p q)) (all_points p) point port (is_one p point at.is)
      (subst (λ t. Contains (if t then port ∷ [] else []) port) (sym gives) (Contains-here port [])) in
      let found = real_call (site_of of call) i (sym (callee_there of.pushed (site_of of call)) ∙ c) in
      let stmt = found.0 in
      let k = later.place in
      let from = point_at k call.block call.done in
      let site = sym (site_there p good k caller call later.inside later.entry) ∙ found.1 in
      let y = want_at point l in
      let at_returns : Contains (wants_of i returns l) y =
      contained_map (λ (q : Port). want_at q.at l) (ports_of i returns) port (in_filter (λ (q : Port). q.entry == i) returns port listed (eq-eqb (entry_of p good at.place) i at.entry)) in
      let told_now : changed i l ≡ true = (tells i l).1 changes in
      let out = passing_unwritten stmt i l found.2 (changes_pass p i l changes) in
      let before = subst (λ t. Contains (if t then wants_of i returns l else want_at from l ∷ []) y) (sym told_now) at_returns in
      record {
        place = at.place;
        inside = at.is.graph;
        entry = at.entry;
        known = stmt_follows caller call after l goes later stmt site y (subst (λ t. Contains (if t then wants_at from (makes_of stmt) else before_call changed returns from (callee_of stmt) l) y) (sym out)
            (subst (λ o. Contains (before_call changed returns from o l) y) (sym found.2) before));
      }

  closed : IsClosedUnderDemand P (Changes P) IsTold
  closed = record {
    used = used_told;
    exposed = λ i a l e. absurd (true≢false (sym e));
    made_of = λ i a b l to goes effect makes later. made_told i a b to goes later l effect makes;
    unwritten = λ i a b l goes out unchanged later. left_told i a b l goes later out unchanged;
    taken = taken_told;
    given_back = returned_told;
  }

  -- all that is wanted is told of
  pub all_told : (k : ℕ) (a : Position) (l : Loc) → k < length p.graphs → Wanted P (entry_of p good k) a l → told (want_at (point_at k a.block a.done) l) ≡ true
  all_told k a l inside w =
      let found = wanted-least P (Changes P) IsTold closed w in
      subst (λ n. told (want_at (point_at n a.block a.done) l) ≡ true) (one_place p.graphs found.place k found.inside inside good.entries found.entry) found.known
