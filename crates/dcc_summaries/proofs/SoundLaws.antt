-- What follows from a location that is wanted is wanted.
use Rattle.std.proofs.Common.{◌≡◌, ℕ, zero, suc, ◌<◌, Bool, true, false, ◌&&◌, ◌||◌, inl, inr, List, [], ◌∷◌, ◌++◌, length, flat_map, get_or, refl, sym, ap, ◌∙◌, subst, true≢false, arith, Contains, Option, Some, None}
use Rattle.std.specs.Prelude.{◌↔◌, ◌==◌, if◌then◌else◌}
use Rattle.std.proofs.lemmas.Bool.{not-true, and_parts, eqb-true}
use Rattle.std.proofs.lemmas.List.Elements.{Contains-append_right, Contains-append_cases}
use Rattle.std.proofs.Math.ListN.{get_or-map}
use Rattle.dcc_flow.specs.Edges.{is_in, leads, successors_of}
use Rattle.dcc_flow.proofs.RowLaws.{length_successors}
use Rattle.dcc_flow.proofs.SourceLaws.{in_at, predecessor_within}
use Rattle.dcc_ir.specs.declared.syntax.Loc.{Loc}
use Rattle.dcc_ir.specs.Tree.{Stmt, Exit, Block, Graph, Program}
use Rattle.dcc_ir.specs.Demand.{makes_of}
use Rattle.dcc_ir.specs.Flow.{targets, graph_or_none}
use Rattle.dcc_ir.specs.Live.{is_among, block_in}
use Rattle.dcc_ir.specs.Run.{graph_at, no_block}
use Rattle.dcc_ir.specs.WellFormed.{IsProgram}
use Rattle.dcc_ir.proofs.LocationLaws.{Contains-here, Contains-later, Contains-none, Contains-cases, contains_among}
use Rattle.dcc_demand.specs.Procedures.{Procedures, is_left, CallChanges}
use Rattle.dcc_demand.specs.Changes.{Changes}
use Rattle.dcc_demand.specs.Wanted.{IsWantedBy, Wanted}
use Rattle.dcc_sums.specs.Points.{Position, next_of, Site, Executes, Ends, Nowhere, site_at, site_of, is_return}
use Rattle.dcc_sums.specs.Instance.{passes, written_by, callee_of, action_of, action_at, procedures_of}
use Rattle.dcc_sums.proofs.SiteLaws.{here, goes_next, wanted_still, wanted_there}
use Rattle.dcc_modref.proofs.ProgramLaws.{named_first}
use Rattle.dcc_modref.proofs.StateLaws.{left_unwritten}
use Rattle.dcc_summaries.specs.declared.points.Point.{Point}
use Rattle.dcc_summaries.specs.declared.table.Want.{Want}
use Rattle.dcc_summaries.specs.declared.ways.Port.{Port}
use Rattle.dcc_summaries.specs.Points.{point_at, position_of, graph_in, site_in, callee_at, used_at, IsPoint}
use Rattle.dcc_summaries.specs.Points.{all_points}
use Rattle.dcc_summaries.specs.Ways.{ArePreds, port_at, ports_at, calls_at, returns_at, all_calls, all_returns}
use Rattle.dcc_summaries.specs.Ways.{ports_of}
use Rattle.dcc_summaries.specs.Demands.{want_at, wants_at}
use Rattle.dcc_summaries.specs.Follow.{wants_of, before_call, before_stmt, before_site, before_block, before_entry}
use Rattle.dcc_summaries.specs.Follow.{before_point, followers, Setting}
use Rattle.dcc_summaries.proofs.ListLaws.{from_map, in_flat, from_flat, from_filter}
use Rattle.dcc_summaries.proofs.PointLaws.{all_are, is_one}

-- Lists of numbers.

pub listed_in : (xs : List ℕ) (n : ℕ) → Contains xs n → is_in xs n ≡ true
listed_in xs n c = subst (λ m. is_in xs m ≡ true) c.2 (subst (λ m. is_in xs m ≡ true) (same xs c.0 c.1) (in_at xs c.0 c.1))
  where
    same : (xs : List ℕ) (k : ℕ) → k < length xs → get_or xs k 0 ≡ get_or xs k n
    same [] k inside = absurd (omega (arith, inside))
    same (x ∷ xs) zero inside = refl
    same (x ∷ xs) (suc k) inside = same xs k (omega (arith, inside))

pub in_listed : (xs : List ℕ) (n : ℕ) → is_in xs n ≡ true → Contains xs n
in_listed [] n e = absurd (true≢false (sym e))
in_listed (x ∷ xs) n e = by (x == n) refl (in_listed xs n) e
  where
    by : (b : Bool) → (x == n) ≡ b → (is_in xs n ≡ true → Contains xs n) → is_in (x ∷ xs) n ≡ true → Contains (x ∷ xs) n
    by true is rest e = subst (Contains (x ∷ xs)) (eqb-true x n is) (Contains-here x xs)
    by false is rest e = Contains-later x xs n (rest (sym (ap (λ b. b || is_in xs n) is) ∙ e))

-- the block at the end of which control leads
pub targets_there : (graph : Graph) (b : ℕ) → get_or (successors_of graph) b [] ≡ targets (block_in graph b).exit
targets_there graph b = get_or-map (λ (x : Block). targets x.exit) graph.blocks b no_block

pub site_end : (stmts : List Stmt) (exit : Exit) → site_at (length stmts) stmts exit ≡ Ends exit
site_end [] exit = refl
site_end (stmt ∷ stmts) exit = site_end stmts exit

-- what is called at a site is what its action calls
pub callee_there : (pushed : ℕ) (site : Site) → (action_at pushed site).callee ≡ callee_at site
callee_there pushed (Executes stmt) = refl
callee_there pushed (Ends exit) = refl
callee_there pushed Nowhere = refl

-- the port at a point where a procedure is called
pub port_there : (at : Point) (callee : Option ℕ) (port : Port) → Contains (ports_at at callee) port → (callee ≡ Some port.entry) × (port.at ≡ at)
port_there at (Some entry) port c = Contains-cases (port_at at entry) [] port ((Some entry ≡ Some port.entry) × (port.at ≡ at))
    (λ e. (ap (λ (q : Port). Some q.entry) e, sym (ap (λ (q : Port). q.at) e))) (λ d. absurd (Contains-none port d)) c
port_there at None port c = absurd (Contains-none port c)

-- what a site mentions
abbrev pub makes_at : Site → List Loc
makes_at (Executes stmt) = makes_of stmt
makes_at site = []

abbrev pub mentioned_at : Site → List Loc
mentioned_at site = used_at site ++ makes_at site

-- all locations that can be wanted
abbrev pub mentioned : Program → List Loc
mentioned p = flat_map (λ at. mentioned_at (site_in p at)) (all_points p)

module _ (p : Program) (good : IsProgram p) where
  abbrev P : Procedures Position Loc Loc
  P = procedures_of p

  abbrev pub entry_of : ℕ → ℕ
  entry_of place = (graph_in p place).entry

  -- the graph at a place is the one with its entry
  pub graph_named : (place : ℕ) → place < length p.graphs → graph_or_none (graph_at p.graphs (entry_of place)) ≡ graph_in p place
  graph_named place inside = ap graph_or_none (named_first p.graphs place inside good.entries)

  pub site_here : (at : Point) → at.graph < length p.graphs → here p (entry_of at.graph) (position_of at) ≡ site_in p at
  site_here at inside = ap (λ g. site_of g (position_of at)) (graph_named at.graph inside)

  abbrev pub IsWantedAt : Point → Loc → Type 0
  IsWantedAt at l = Wanted P (entry_of at.graph) (position_of at) l

  -- wanted before a point of the program, and mentioned in it
  abbrev pub IsGood : Want → Type 0
  IsGood y = IsPoint p y.at × IsWantedAt y.at y.location × Contains (mentioned p) y.location

  -- the call at a port of the program, and the return
  pub is_call : (port : Port) → Contains (all_calls p (all_points p)) port → IsPoint p port.at × (callee_at (site_in p port.at) ≡ Some port.entry)
  is_call port c =
      let found = from_flat (λ at. calls_at at (site_in p at)) (all_points p) port c in
      let there = port_there found.0 (callee_at (site_in p found.0)) port found.2 in
      (subst (IsPoint p) (sym there.1) (all_are p found.0 found.1), ap (λ at. callee_at (site_in p at)) there.1 ∙ there.0)

  pub is_returning : (port : Port) → Contains (all_returns p (all_points p)) port → IsPoint p port.at × (is_return (site_in p port.at) ≡ true) × (entry_of port.at.graph ≡ port.entry)
  is_returning port c =
      let found = from_flat (λ at. returns_at at (entry_of at.graph) (site_in p at)) (all_points p) port c in
      by found.0 found.1 (is_return (site_in p found.0)) refl found.2
    where
      by : (at : Point) → Contains (all_points p) at → (b : Bool) → is_return (site_in p at) ≡ b → Contains (if b then port_at at (entry_of at.graph) ∷ [] else []) port
          → IsPoint p port.at × (is_return (site_in p port.at) ≡ true) × (entry_of port.at.graph ≡ port.entry)
      by at listed true e d = Contains-cases (port_at at (entry_of at.graph)) [] port (IsPoint p port.at × (is_return (site_in p port.at) ≡ true) × (entry_of port.at.graph ≡ port.entry))
          (λ is. (
            subst (λ (q : Port). IsPoint p q.at) is (all_are p at listed),
            subst (λ (q : Port). is_return (site_in p q.at) ≡ true) is e,
            subst (λ (q : Port). entry_of q.at.graph ≡ q.entry) is refl,
          )) (λ none. absurd (Contains-none port none)) d
      by at listed false e d = absurd (Contains-none port d)

  module _ (changed : ℕ → Loc → Bool) (tells : (i : ℕ) (l : Loc) → (changed i l ≡ true) ↔ Changes P i l) (preds : List (List (List ℕ))) (are : ArePreds p preds) where
    abbrev pub setting : Setting
    setting = record { program = p; changed = changed; preds = preds; calls = all_calls p (all_points p); returns = all_returns p (all_points p) }

    -- what is wanted where a block begins is wanted at the ends that lead there
    begin_wanted : (place block : ℕ) (l : Loc) → IsPoint p (point_at place block 0) → IsWantedAt (point_at place block 0) l → Contains (mentioned p) l → (y : Want) → Contains (before_block p preds place block l) y
        → IsGood y
    begin_wanted place block l is w m y c =
        let graph = graph_in p place in
        let next = successors_of graph in
        let found = from_map (λ b. want_at (point_at place b (length (block_in graph b).stmts)) l) (get_or (get_or preds place []) block []) y c in
        let b = found.0 in
        let size = length_successors graph in
        let below = is.block in
        let leading : leads next b block ≡ true = sym ((are.exact place is.graph).exact b block (omega (arith, size, below))) ∙ listed_in (get_or (get_or preds place []) block []) b found.1 in
        let within = predecessor_within next b block leading in
        let target = in_listed (targets (block_in graph b).exit) block (ap (λ xs. is_in xs block) (sym (targets_there graph b)) ∙ leading) in
        let at = point_at place b (length (block_in graph b).stmts) in
        let site = site_here at is.graph ∙ site_end (block_in graph b).stmts (block_in graph b).exit in
        subst IsGood found.2 (
          record { graph = is.graph; block = omega (arith, size, within); done = omega arith },
          wanted_there p (entry_of place) (position_of at) (block_in graph b).exit block site target l w,
          m,
        )

    -- what is wanted at the entry of a graph is wanted at its calls
    entry_wanted : (place block : ℕ) (l : Loc) → IsWantedAt (point_at place block 0) l → Contains (mentioned p) l → (y : Want) → Contains (before_entry p (all_calls p (all_points p)) place block l) y → IsGood y
    entry_wanted place block l w m y c = by ((block == 0) && passes l) refl c
      where
        by : (b : Bool) → ((block == 0) && passes l) ≡ b → Contains (if b then wants_of (entry_of place) (all_calls p (all_points p)) l else []) y → IsGood y
        by false e d = absurd (Contains-none y d)
        by true e d =
            let both = and_parts (block == 0) (passes l) e in
            let found = from_map (λ (port : Port). want_at port.at l) (ports_of (entry_of place) (all_calls p (all_points p))) y d in
            let port = found.0 in
            let kept = from_filter (λ (q : Port). q.entry == entry_of place) (all_calls p (all_points p)) port found.1 in
            let call = is_call port kept.0 in
            let same = eqb-true port.entry (entry_of place) kept.1 in
            let callee = callee_there (graph_or_none (graph_at p.graphs (entry_of port.at.graph))).pushed (here p (entry_of port.at.graph) (position_of port.at))
            ∙ ap callee_at (site_here port.at call.0.graph) ∙ call.1 ∙ ap Some same in
            subst IsGood found.2
            (call.0, IsWantedBy.taken callee both.1 (subst (λ n. Wanted P (entry_of place) (record { block = n; done = 0 }) l) (eqb-true block 0 both.0) w), m)

    -- what is wanted after a statement
    module _ (at : Point) (is : IsPoint p at) (stmt : Stmt) (site : site_in p at ≡ Executes stmt) (l : Loc) (w : Wanted P (entry_of at.graph) (next_of (position_of at)) l) (m : Contains (mentioned p) l) where
      abbrev there : here p (entry_of at.graph) (position_of at) ≡ Executes stmt
      there = site_here at is.graph ∙ site

      abbrev pushed : ℕ
      pushed = (graph_or_none (graph_at p.graphs (entry_of at.graph))).pushed

      still : ¬ CallChanges (Changes P) (callee_of stmt) l → is_among (written_by stmt) l ≡ false → (y : Want) → Contains (want_at at l ∷ []) y → IsGood y
      still unchanged out y c = Contains-cases (want_at at l) [] y (IsGood y) (λ e. subst IsGood e (is, wanted_still p (entry_of at.graph) (position_of at) stmt there l out unchanged w, m)) (λ d. absurd (Contains-none y d)) c

      made : is_among (written_by stmt) l ≡ true → (y : Want) → Contains (wants_at at (makes_of stmt)) y → IsGood y
      made written y c =
          let found = from_map (want_at at) (makes_of stmt) y c in
          subst IsGood found.2 (
            is,
            IsWantedBy.made_of (goes_next p (entry_of at.graph) (position_of at) stmt there)
                (subst (λ s. is_left ((action_at pushed s).effect l) ≡ false) (sym there) (not-true (is_left ((action_of pushed stmt).effect l)) (left_unwritten pushed stmt l ∙ written)))
                (subst (λ s. (action_at pushed s).made_of l found.0 ≡ true) (sym there) (contains_among (makes_of stmt) found.0 found.1)) w,
            made_mentioned found.0 found.1,
          )
        where
          made_mentioned : (n : Loc) → Contains (makes_of stmt) n → Contains (mentioned p) n
          made_mentioned n k = in_flat (λ q. mentioned_at (site_in p q)) (all_points p) at n (is_one p at is)
              (subst (λ x. Contains (mentioned_at x) n) (sym site) (Contains-append_right (used_at (Executes stmt)) (makes_of stmt) n k))

      returned : (entry : ℕ) → callee_of stmt ≡ Some entry → changed entry l ≡ true → (y : Want) → Contains (wants_of entry (all_returns p (all_points p)) l) y → IsGood y
      returned entry calls told y c =
          let found = from_map (λ (port : Port). want_at port.at l) (ports_of entry (all_returns p (all_points p))) y c in
          let port = found.0 in
          let kept = from_filter (λ (q : Port). q.entry == entry) (all_returns p (all_points p)) port found.1 in
          let return = is_returning port kept.0 in
          let same = return.2 ∙ eqb-true port.entry entry kept.1 in
          let gives = ap is_return (site_here port.at return.0.graph) ∙ return.1 in
          let callee = callee_there pushed (here p (entry_of at.graph) (position_of at)) ∙ ap callee_at there ∙ calls ∙ ap Some (sym same) in
          subst IsGood found.2 (return.0, IsWantedBy.given_back gives (subst (λ i. Changes P i l) (sym same) ((tells entry l).0 told)) callee (goes_next p (entry_of at.graph) (position_of at) stmt there) w, m)

      call_wanted : (callee : Option ℕ) → callee_of stmt ≡ callee → is_among (written_by stmt) l ≡ false → (y : Want) → Contains (before_call changed (all_returns p (all_points p)) at callee l) y → IsGood y
      call_wanted None e out y c = still (subst (λ o. ¬ CallChanges (Changes P) o l) (sym e) (λ no. no)) out y c
      call_wanted (Some entry) e out y c = by (changed entry l) refl c
        where
          by : (b : Bool) → changed entry l ≡ b → Contains (if b then wants_of entry (all_returns p (all_points p)) l else want_at at l ∷ []) y → IsGood y
          by true t d = returned entry e t y d
          by false t d = still (subst (λ o. ¬ CallChanges (Changes P) o l) (sym e) (λ changes. true≢false (sym ((tells entry l).1 changes) ∙ t))) out y d

      stmt_wanted : (y : Want) → Contains (before_stmt changed (all_returns p (all_points p)) at stmt l) y → IsGood y
      stmt_wanted y c = by (is_among (written_by stmt) l) refl c
        where
          by : (b : Bool) → is_among (written_by stmt) l ≡ b → Contains (if b then wants_at at (makes_of stmt) else before_call changed (all_returns p (all_points p)) at (callee_of stmt) l) y → IsGood y
          by true e d = made e y d
          by false e d = call_wanted (callee_of stmt) refl e y d

    site_wanted : (at : Point) → IsPoint p at → (site : Site) → site_in p at ≡ site → (l : Loc) → Wanted P (entry_of at.graph) (next_of (position_of at)) l
        → Contains (mentioned p) l → (y : Want) → Contains (before_site changed (all_returns p (all_points p)) at site l) y → IsGood y
    site_wanted at is (Executes stmt) e l w m y c = stmt_wanted at is stmt e l w m y c
    site_wanted at is (Ends exit) e l w m y c = absurd (Contains-none y c)
    site_wanted at is Nowhere e l w m y c = absurd (Contains-none y c)

    -- what follows from what is wanted before a point is wanted
    point_wanted : (place block done : ℕ) (l : Loc) → IsPoint p (point_at place block done) → IsWantedAt (point_at place block done) l → Contains (mentioned p) l → (y : Want) → Contains (before_point setting place block done l) y
        → IsGood y
    point_wanted place block zero l is w m y c = elim (Contains-append_cases (before_block p preds place block l) (before_entry p (all_calls p (all_points p)) place block l) y c) [
      | inl d ↦ begin_wanted place block l is w m y d
      | inr d ↦ entry_wanted place block l w m y d
    ]
    point_wanted place block (suc done) l is w m y c =
        let at = point_at place block done in
        let below = is.done in
        site_wanted at (record { graph = is.graph; block = is.block; done = omega (arith, below) }) (site_in p at) refl l w m y c

    pub followers_wanted : (x : Want) → IsGood x → (y : Want) → Contains (followers setting x) y → IsGood y
    followers_wanted x is y c = point_wanted x.at.graph x.at.block x.at.done x.location is.0 is.1 is.2 y c
