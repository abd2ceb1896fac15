-- What calls and returns of the text of a program do.
use Rattle.std.proofs.Common.{◌≡◌, ℕ, true, false, List, [], ◌∷◌, length, map, Some, refl, sym, ap, ◌∙◌, subst}
use Rattle.std.specs.Prelude.{◌==◌, All, Contains, take, drop}
use Rattle.std.proofs.lemmas.List.Elements.{All-head, All-contains, All-weaker}
use Rattle.dcc_run.specs.End.{is_over}
use Rattle.dcc_run.specs.System.{after}
use Rattle.dcc_ir.specs.declared.syntax.Loc.{Loc}
use Rattle.dcc_ir.specs.Live.{block_in}
use Rattle.dcc_ir.specs.Run as run
use Rattle.dcc_ir.specs.Tree as inner
use Rattle.dcc_ir.specs.WellFormed.{is_stmt, IsCall}
use Rattle.dcc_ir.proofs.FitStates.{IsFit, scene-fits}
use Rattle.dcc_ir.proofs.ReachedLaws.{found_contained, named_again, graph_of, AreCallers}
use Rattle.dcc_c.specs.Run as c
use Rattle.dcc_c.specs.Run.{Continuation, ends_function, runs}
use Rattle.dcc_c.specs.Tree.{Tree}
use Rattle.dcc_text.specs.Holding.{Alike, Locations, IsWithin, Holds, Setting, AreWaiting}
use Rattle.dcc_text.specs.Stmts.{stmt_text}
use Rattle.dcc_variables.specs.FunctionLaws.{has_name}
use Rattle.dcc_variables.specs.Functions.{function_spelling, openings_from, openings, ret_text}
use Rattle.dcc_plan.specs.CallLaws.{HasBegun, waiting_with, IsReturning, HasReturned}
use Rattle.dcc_plan.specs.Calls.{Opens, IsNamed, IsCallable, AreFunctions, StandsFor, StandsThere, IsReadyCall}
use Rattle.dcc_plan.specs.Laws.{IsCallStep}
use Rattle.dcc_plan.specs.Programs.{Texts, open_setting, GivesFew, IsProgramText}
use Rattle.dcc_plan.proofs.CallSteps.{calls-begin}
use Rattle.dcc_plan.proofs.Returns.{returns-end, later-contained}
use Rattle.dcc_plan.proofs.CallStates.{is-called, is-returned}
use Rattle.dcc_plan.proofs.Settings.{AreNamed, rests_of, Continuing, setting_of, Premises}

both-equal : {A : Type 0} {a b : A} {xs ys : List A} → a ∷ xs ≡ b ∷ ys → (a ≡ b) × (xs ≡ ys)
both-equal e = (cc, cc)

-- what is held of a graph's statements, where the running one is that
module _ (texts : Texts) (AreAlike : Alike) where
  abbrev HoldsThere : inner.Graph → inner.Block → List inner.Stmt → run.State → c.State → Type 0
  HoldsThere graph block rest i t = Holds (texts.spelling graph) (texts.matters graph block rest) AreAlike i t

  pub held-there : (graph : inner.Graph) (block : inner.Block) (rest : List inner.Stmt) (i : run.State) (t : c.State) → i.running.graph ≡ graph → i.running.block ≡ block → i.running.rest ≡ rest
      → HoldsThere i.running.graph i.running.block i.running.rest i t → HoldsThere graph block rest i t
  held-there graph block rest i t graph_is block_is rest_is holds =
      subst (λ r. HoldsThere graph block r i t) rest_is (subst (λ b. HoldsThere graph b i.running.rest i t) block_is (subst (λ g. HoldsThere g i.running.block i.running.rest i t) graph_is holds))

-- What calls need, where the text of plans stands for places in blocks.
pub functions-of : (p : inner.Program) (opens : Opens) (texts : Texts) (tree : Tree) → IsProgramText p opens texts tree → AreFunctions opens (setting_of texts) p tree
functions-of p opens texts tree is = record {
  spelled = is.callable.spelled;
  graphs = All-weaker (IsNamed (open_setting texts)) (IsNamed (setting_of texts)) (λ g x. record { few = x.few; apart = x.apart; named = x.named }) p.graphs is.callable.graphs;
  others = All-weaker (IsCallable opens (open_setting texts) tree) (IsCallable opens (setting_of texts) tree)
      (λ g x. record { function = x.function; found = x.found; unplaced = x.unplaced; opened = x.opened; named = x.named }) (drop 1 p.graphs) is.callable.others;
}

-- The first graph takes no arguments, so its function opens nothing.
pub opens-nothing : (p : inner.Program) (opens : Opens) (texts : Texts) (tree : Tree) (graph : inner.Graph) (others : List inner.Graph) → IsProgramText p opens texts tree → p.graphs ≡ graph ∷ others → Contains p.graphs graph
    → texts.openings graph ≡ 0
opens-nothing p opens texts tree graph others is first inside =
    let none : graph.params ≡ [] = All-head (λ (g : inner.Graph). g.params ≡ []) graph [] (subst (λ graphs. All (λ (g : inner.Graph). g.params ≡ []) (take 1 graphs)) first is.well.start) in
    (is.opened graph inside).count ∙ ap (λ params. length (openings_from (function_spelling graph) (opens graph) 0 params)) none

module _ (G : Premises) where
  abbrev p : inner.Program
  p = G.p

  abbrev opens : Opens
  opens = G.opens

  abbrev texts : Texts
  texts = G.texts

  abbrev text : Tree
  text = G.tree

  abbrev fill : ℕ
  fill = G.fill

  abbrev setting : Setting
  setting = setting_of texts

  -- the results of the calls that wait have variables
  abbrev AreAllNamed : run.State → Type 0
  AreAllNamed i = All (λ w. AreNamed (texts.spelling w.caller.graph) w.results) i.waiting

  -- The text has come to this continuation, with those of the calls that wait, and holds what matters before these statements.
  pub record HasCome (graph : inner.Graph) (block : inner.Block) (stmts : List inner.Stmt) (k : Continuation) (waits : List Continuation) (i : run.State) (t : c.State) : Type 0 where
    pub rest : t.rest ≡ k
    pub function : t.frame.function ≡ texts.function graph
    pub filled : t.fill ≡ fill
    pub waiting : rests_of t.waiting ≡ waits
    pub holds : Holds (texts.spelling graph) (texts.matters graph block stmts) (AreWaiting setting) i t

  has-come : (graph : inner.Graph) (block : inner.Block) (stmts : List inner.Stmt) (i : run.State) (t : c.State) → i.running.graph ≡ graph → i.running.block ≡ block → i.running.rest ≡ stmts → StandsThere setting fill i t
      → HasCome graph block stmts t.rest (rests_of t.waiting) i t
  has-come graph block stmts i t graph_is block_is rest_is stands = record {
    rest = refl;
    function = stands.function ∙ ap texts.function graph_is;
    filled = stands.filled;
    waiting = refl;
    holds = held-there texts (AreWaiting setting) graph block stmts i t graph_is block_is rest_is stands.holds;
  }

  module _ (functions : AreFunctions opens setting p text) where
    -- the locations have names in the function of the graph
    have-names : (graph : inner.Graph) (locations : List Loc) → AreNamed (texts.spelling graph) locations → All (has_name graph) locations
    have-names graph locations named = subst (λ s. AreNamed s locations) (functions.spelled graph) named

    -- the text stands for the program
    stands : (Has : Locations) (i : run.State) (t : c.State) → t.fill ≡ fill → AreAllNamed i → t.frame.function ≡ texts.function i.running.graph
        → Holds (texts.spelling i.running.graph) Has (AreWaiting setting) i t → StandsFor setting fill Has i t
    stands Has i t filled named function holds = record {
      function = function;
      filled = filled;
      holds = holds;
      results = All-weaker (λ (w : run.Waiting). AreNamed (texts.spelling w.caller.graph) w.results) (λ w. All (has_name w.caller.graph) w.results) (λ w are. have-names w.caller.graph w.results are) i.waiting named;
    }

  -- Calls.

  module _ (results : List Loc) (entry : ℕ) (arguments : List inner.Expr) (own : ℕ) (rest : List inner.Stmt) (at : ℕ) (i : run.State) (t : c.State)
      (filled : t.fill ≡ fill) (named : AreAllNamed i) (on : is_over i.end ≡ false) (fit : IsFit i) where
    abbrev waits : run.State
    waits = record i { running = record i.running { rest = rest; begins = false } }

    -- with a call's step and the opening assignments the text comes to the text of the callee's plan
    abbrev BeginsCall : inner.Graph → inner.Block → Type 0
    BeginsCall graph block =
        Contains p.graphs graph → (calling : IsCall p graph results entry arguments)
        → IsCallStep (texts.spelling graph) (texts.matters graph block (inner.Call results entry arguments own ∷ rest)) (texts.matters graph block rest) (inner.Call results entry arguments own)
        → t.frame.function ≡ texts.function graph → Continuing texts t.rest graph block rest
        → Holds (texts.spelling graph) (texts.matters graph block (inner.Call results entry arguments own ∷ rest)) (AreWaiting setting) i t
        → HasCome calling.callee (block_in calling.callee 0) (block_in calling.callee 0).stmts (runs (texts.lines calling.callee) (ends_function (texts.function calling.callee).last)) (t.rest ∷ rests_of t.waiting)
        (run.calling fill results own (map (run.value_in i) arguments) (Some calling.callee) waits)
        (after (c.step text) (texts.openings calling.callee) (c.stmt_step text (stmt_text (texts.spelling graph) 2 (inner.Call results entry arguments own)) at t))

    begins-here : BeginsCall i.running.graph i.running.block
    begins-here inside calling step function continues holds =
        let graph = i.running.graph in
        let callee = calling.callee in
        let later = found_contained (λ g. g.entry == entry) (drop 1 p.graphs) callee calling.named in
        let there = later-contained p.graphs callee later in
        let may = G.calls callee later in
        let opened = may.opened callee there in
        let named_there = named_again p.graphs entry callee G.well.entries calling.named in
        let begun : run.State = run.calling fill results own (map (run.value_in i) arguments) (Some callee) waits in
        let start : c.State = c.stmt_step text (stmt_text (texts.spelling graph) 2 (inner.Call results entry arguments own)) at t in
        let needs : IsReadyCall setting p graph i.running.block rest results entry arguments own = record {
          formed = subst (λ bits. is_stmt bits (inner.Call results entry arguments own) ≡ true) (sym holds.frame.bits) step.formed;
          agrees = calling;
          within = step.within;
          written = have-names may.functions graph results step.written;
          left = step.left;
        } in
        let x = calls-begin opens setting p text fill results entry arguments own 2 at rest (texts.lines callee) i t G.well may.functions inside needs opened.begins (scene-fits i fit) on
        (stands may.functions (texts.matters graph i.running.block (inner.Call results entry arguments own ∷ rest)) i t filled named function holds) continues
        in
        let y : HasBegun setting fill (texts.lines callee) (waiting_with (texts.spelling graph) results t) begun (after (c.step text) (texts.openings callee) start) =
        subst (λ n. HasBegun setting fill (texts.lines callee) (waiting_with (texts.spelling graph) results t) begun (after (c.step text) n start)) (sym opened.count)
        (subst (λ o. HasBegun setting fill (texts.lines callee) (waiting_with (texts.spelling graph) results t) (run.calling fill results own (map (run.value_in i) arguments) o waits)
        (after (c.step text) (length (openings (opens callee) callee)) start)) named_there x)
        in
        let z = is-called fill results own (map (run.value_in i) arguments) callee waits (graph_of p G.well callee there) in
        let come = has-come callee (block_in callee 0) (block_in callee 0).stmts begun (after (c.step text) (texts.openings callee) start) z.graph z.block z.rest y.stands in
        record {
          rest = y.comes_to ∙ ap (λ f. runs (texts.lines callee) (ends_function f.last)) come.function;
          function = come.function;
          filled = come.filled;
          waiting = ap rests_of y.waits;
          holds = come.holds;
        }

    pub callee-begins : (graph : inner.Graph) (block : inner.Block) → i.running.graph ≡ graph → i.running.block ≡ block → BeginsCall graph block
    callee-begins graph block graph_is block_is = subst (λ g. BeginsCall g block) graph_is (subst (λ b. BeginsCall i.running.graph b) block_is begins-here)

  -- Returns.

  module _ (values : List inner.Expr) (w : run.Waiting) (waiting : List run.Waiting) (v : c.Waiting) (others : List c.Waiting) (at : ℕ) (i : run.State) (t : c.State)
      (filled : t.fill ≡ fill) (named : AreAllNamed i) (on : is_over i.end ≡ false) (those : i.waiting ≡ w ∷ waiting) (other_waits : t.waiting ≡ v ∷ others) (fit : IsFit i) where
    abbrev back : run.State
    back = run.returning (map (run.value_in i) values) (w ∷ waiting) i

    -- with a return's step the text goes on with what waited
    abbrev EndsWithReturn : inner.Graph → inner.Block → Type 0
    EndsWithReturn graph block =
        Contains p.graphs graph → Contains (drop 1 p.graphs) graph → Contains graph.blocks block → block.exit ≡ inner.Ret values
        → All (IsWithin (texts.spelling graph) (texts.matters graph block [])) values → AreCallers p graph (w ∷ waiting) → t.frame.function ≡ texts.function graph
        → Holds (texts.spelling graph) (texts.matters graph block []) (AreWaiting setting) i t
        → HasCome w.caller.graph w.caller.block w.caller.rest v.rest (rests_of others) back (c.stmt_step text (ret_text (texts.spelling graph) values) at t)

    ends-here : EndsWithReturn i.running.graph i.running.block
    ends-here inside later stands_in exit within callers function holds =
        let graph = i.running.graph in
        let may = G.calls graph later in
        let u : c.State = c.stmt_step text (ret_text (texts.spelling graph) values) at t in
        let needs : IsReturning opens setting p text values w waiting i = record {
          well = G.well;
          functions = may.functions;
          graph = later;
          block = stands_in;
          exit = exit;
          one = All-contains GivesFew graph.blocks i.running.block (All-contains (λ (g : inner.Graph). All GivesFew g.blocks) p.graphs graph may.few inside) stands_in values exit;
          newest = those;
          caller = callers.0.active.known;
          taken = callers.0.results;
          goes_on = on;
        } in
        let x = returns-end opens setting p text fill values w waiting at i t needs (scene-fits i fit) within (stands may.functions (texts.matters graph i.running.block []) i t filled named function holds) in
        let y : HasReturned setting fill t.waiting back u = subst (λ l. HasReturned setting fill t.waiting (run.returning (map (run.value_in i) values) l i) u) those x in
        let z = is-returned (map (run.value_in i) values) w waiting i in
        let same = both-equal (sym other_waits ∙ y.waited) in
        let come = has-come w.caller.graph w.caller.block w.caller.rest back u z.graph z.block z.rest y.stands in
        record {
          rest = y.goes_on ∙ ap (λ (o : c.Waiting). o.rest) (sym same.0);
          function = come.function;
          filled = come.filled;
          waiting = ap rests_of (sym same.1);
          holds = come.holds;
        }

    pub caller-goes-on : (graph : inner.Graph) (block : inner.Block) → i.running.graph ≡ graph → i.running.block ≡ block → EndsWithReturn graph block
    caller-goes-on graph block graph_is block_is = subst (λ g. EndsWithReturn g block) graph_is (subst (λ b. EndsWithReturn i.running.graph b) block_is ends-here)
