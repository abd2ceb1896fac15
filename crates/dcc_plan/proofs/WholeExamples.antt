-- A program of two graphs, the first of which calls the second and then ends, and its text:
--     void start(void) { L_0000: f_0020(); goto L_0003; L_0003: dos_exit(0); }
--     void f_0020(void) { L_0020: return; }
use Rattle.std.proofs.Common.{◌≡◌, ℕ, zero, suc, ◌<◌, inl, inr, true, false, ◌==◌, List, [], ◌∷◌, length, map, refl, sym, ap, ◌∙◌, subst, true≢false, None, Some, lit<, arith}
use Rattle.std.specs.Prelude.{if◌then◌else◌, codes, is_some, All}
use Rattle.std.proofs.lemmas.List.Elements.{All-nil, All-cons, All-contains}
use Rattle.dcc_ir.specs.Live.{block_in}
use Rattle.dcc_ir.specs.Tree as inner
use Rattle.dcc_ir.specs.Use.{exit_exprs}
use Rattle.dcc_ir.specs.WellFormed.{IsGraph, IsProgram}
use Rattle.dcc_ir.proofs.CallingPrograms.{one, caller, callee, program, of_both, formed}
use Rattle.dcc_c.specs.Numbered.{numbered_lines}
use Rattle.dcc_c.specs.Tree.{Word, Lines, Tree}
use Rattle.dcc_text.specs.Holding.{Locations, IsWithin}
use Rattle.dcc_text.specs.Laws.{IsStep}
use Rattle.dcc_c.specs.Run.{stack_memory}
use Rattle.dcc_ir.specs.Run.{first_memory}
use Rattle.dcc_variables.specs.Functions.{function_name, function_spelling, function_of, openings, openings_from, BeginsWith}
use Rattle.dcc_plan.specs.CallLaws.{IsBeginning}
use Rattle.dcc_variables.specs.FunctionLaws.{HasFewNames}
use Rattle.dcc_plan.specs.Calls.{Opens, all_places, locations_differ, IsNamed, IsCallable, AreFunctions}
use Rattle.dcc_variables.proofs.ParamNames.{spelling-is}
use Rattle.dcc_control.specs.GotoPlan.{goto_plan}
use Rattle.dcc_plan.specs.Laws.{IsCallStep, AreSteps, Matters}
use Rattle.dcc_plan.specs.PlanText.{plan_text}
use Rattle.dcc_plan.specs.Programs.{Texts, at_once, IsGraphText, open_setting, IsOpened, GivesFew, IsProgramText}
use Rattle.dcc_control.proofs.GotoLaws.{goto-valid}
use Rattle.dcc_plan.proofs.TextLaws.{numbered-text}

abbrev told : inner.Expr
told = inner.Const 8 0

abbrev first : inner.Graph
first = caller 0x4C told [] [] [] [] [] []

abbrev second : inner.Graph
second = callee 0x4C told [] [] [] [] [] []

abbrev p : inner.Program
p = program 0x4C told [] [] [] [] [] []

well : IsProgram p
well = formed 0x4C told [] [] [] [] [] [] refl refl refl refl refl refl refl refl refl

-- nothing is opened
opens : Opens
opens graph location = false

abbrev name : inner.Graph → Word
name graph = if graph.entry == 0 then codes "start" else function_name graph.entry

abbrev lines : inner.Graph → Lines
lines graph = numbered_lines 2 2 (plan_text (function_spelling graph) graph (goto_plan graph))

abbrev texts : Texts
texts = record {
  spelling = function_spelling;
  function = λ graph. function_of graph (name graph) (lines graph) 9;
  matters = λ graph block stmts location. ⊥;
  plan = goto_plan;
  openings = λ graph. 0;
  lines = lines;
}

abbrev tree : Tree
tree = record { version = 1; lo = p.lo; hi = p.hi; globals = []; functions = map texts.function p.graphs }

first-well : IsGraph first
first-well = All-contains IsGraph p.graphs first well.graphs (0, lit< tt, refl)

second-well : IsGraph second
second-well = All-contains IsGraph p.graphs second well.graphs (1, lit< tt, refl)

few-first : HasFewNames first
few-first = record { variables = record { bits = lit< tt; cells = omega arith; frame = lit< tt }; params = lit< tt }

few-second : HasFewNames second
few-second = record { variables = record { bits = lit< tt; cells = omega arith; frame = lit< tt }; params = lit< tt }

-- What matters, for nothing is read.

abbrev Nothing : Locations
Nothing location = ⊥

calls : (graph : inner.Graph) → IsCallStep (function_spelling graph) Nothing Nothing (inner.Call [] 32 [] 4)
calls graph = record {
  formed = refl;
  call = refl;
  within = All-nil (IsWithin (function_spelling graph) Nothing);
  written = All-nil (λ location. (function_spelling graph).named location ≡ true);
  named = λ location is. absurd is;
  left = λ location is. absurd is;
}

told-within : (graph : inner.Graph) → IsWithin (function_spelling graph) Nothing told
told-within graph = record { reads = All-nil Nothing; addresses = All-nil (λ distance. is_some ((function_spelling graph).place distance) ≡ true) }

ends : IsStep (function_spelling first) Nothing Nothing (inner.Dos 0x4C None (Some told))
ends = record {
  formed = refl;
  no_call = refl;
  within = one (IsWithin (function_spelling first) Nothing) told (told-within first);
  written = All-nil (λ location. (function_spelling first).named location ≡ true);
  named = λ location is. absurd is;
  left = λ location is. absurd is;
}

first-matters : Matters (function_spelling first) first (texts.matters first)
first-matters = record { steps = steps; tested = tested; goes = λ b next known to there location is. is }
  where
    steps : (b : ℕ) → b < 2 → AreSteps (function_spelling first) (texts.matters first (block_in first b)) (block_in first b).stmts
    steps zero less = (inr (calls first), tt)
    steps (suc zero) less = (inl ends, tt)
    steps (suc (suc b)) less = absurd (omega (arith, less))

    tested : (b : ℕ) → b < 2 → All (IsWithin (function_spelling first) Nothing) (exit_exprs (block_in first b).exit)
    tested zero less = All-nil (IsWithin (function_spelling first) Nothing)
    tested (suc zero) less = All-nil (IsWithin (function_spelling first) Nothing)
    tested (suc (suc b)) less = absurd (omega (arith, less))

second-matters : Matters (function_spelling second) second (texts.matters second)
second-matters = record { steps = steps; tested = tested; goes = λ b next known to there location is. is }
  where
    steps : (b : ℕ) → b < 1 → AreSteps (function_spelling second) (texts.matters second (block_in second b)) (block_in second b).stmts
    steps zero less = tt
    steps (suc b) less = absurd (omega (arith, less))

    tested : (b : ℕ) → b < 1 → All (IsWithin (function_spelling second) Nothing) (exit_exprs (block_in second b).exit)
    tested zero less = All-nil (IsWithin (function_spelling second) Nothing)
    tested (suc b) less = absurd (omega (arith, less))

-- The texts.

graph-text : (graph : inner.Graph) → IsGraph graph → HasFewNames graph → Matters (function_spelling graph) graph (texts.matters graph) → IsGraphText texts graph
graph-text graph formed_graph few matters = record {
  spelling = spelling-is graph few.variables few.params;
  matters = matters;
  is_plan = (goto-valid graph formed_graph).0;
  text = numbered-text (function_spelling graph) graph (goto_plan graph) 2 2;
  opens = at_once;
}

named : (graph : inner.Graph) → HasFewNames graph → locations_differ (all_places graph.params) ≡ true → IsNamed (open_setting texts) graph
named graph few apart = record { few = few; apart = apart; named = λ block stmts location is. absurd is }

callable : IsCallable opens (open_setting texts) tree second
unfolding opens
callable = record { function = refl; found = refl; unplaced = refl; opened = λ location is matters. absurd matters; named = λ location is. absurd (true≢false (sym is)) }

all-functions : AreFunctions opens (open_setting texts) p tree
all-functions = record {
  spelled = λ graph. refl;
  graphs = of_both 0x4C told [] [] [] [] [] [] (IsNamed (open_setting texts)) (named first few-first refl) (named second few-second refl);
  others = one (IsCallable opens (open_setting texts) tree) second callable;
}

values-of : inner.Exit → List inner.Expr
values-of (inner.Ret values) = values
values-of _ = []

gives : (block : inner.Block) → values-of block.exit ≡ [] → GivesFew block
unfolding values-of
gives block none values is = let count : length values ≡ 0 = ap length (ap values-of (sym is) ∙ none) in omega (arith, count)

opens-none : (graph : inner.Graph) → graph.params ≡ [] → IsOpened opens texts graph
opens-none graph none =
    let nothing : openings (opens graph) graph ≡ [] = ap (openings_from (function_spelling graph) (opens graph) 0) none in
    record { count = sym (ap length nothing); begins = subst (λ stmts. BeginsWith stmts (lines graph) (lines graph)) (sym nothing) refl }

whole : IsProgramText p opens texts tree
unfolding values-of
whole = record {
  well = well;
  graphs = λ graph c. All-contains (IsGraphText texts) p.graphs graph
      (of_both 0x4C told [] [] [] [] [] [] (IsGraphText texts) (graph-text first first-well few-first first-matters) (graph-text second second-well few-second second-matters)) c;
  functions = refl;
  callable = all-functions;
  opened = λ graph c. All-contains (IsOpened opens texts) p.graphs graph (of_both 0x4C told [] [] [] [] [] [] (IsOpened opens texts) (opens-none first refl) (opens-none second refl)) c;
  few = of_both 0x4C told [] [] [] [] [] [] (λ g. All GivesFew g.blocks)
      (All-cons GivesFew (block_in first 0) (block_in first 1 ∷ []) (gives (block_in first 0) refl) (one GivesFew (block_in first 1) (gives (block_in first 1) refl)))
      (one GivesFew (block_in second 0) (gives (block_in second 0) refl));
}

-- the first state of the example's text stands for the program's
begins : IsBeginning opens (open_setting texts) p tree first (second ∷ [])
unfolding first_memory stack_memory
begins = record { graphs = refl; well = well; functions = all-functions; start = refl; hi = refl; memory = λ fill. refl }
