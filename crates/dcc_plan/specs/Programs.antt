-- The text of a whole program: a function for each graph.
use Rattle.std.specs.Prelude.{◌≡◌, ℕ, suc, ◌+◌, ◌≤◌, Bool, List, [], ◌∷◌, length, map, All, Contains}
use Rattle.dcc_run.specs.ProgramPoint.{ProgramPoint}
use Rattle.dcc_ir.specs.Families.{Family}
use Rattle.dcc_ir.specs.Fitting.{AreBytes}
use Rattle.dcc_ir.specs.Tree as inner
use Rattle.dcc_ir.specs.WellFormed.{IsProgram}
use Rattle.dcc_c.specs.Tree.{Expr, Assign, Lines, line, Function, Tree}
use Rattle.dcc_text.specs.Spelling.{Spelling}
use Rattle.dcc_text.specs.Holding.{IsSpelling, Setting}
use Rattle.dcc_variables.specs.Functions.{openings, BeginsWith}
use Rattle.dcc_plan.specs.CallLaws.{IsBeginning}
use Rattle.dcc_plan.specs.Calls.{Opens, AreFunctions}
use Rattle.dcc_plan.specs.Laws.{Matters, NeverStuck, AreKept, IsCountedBy}
use Rattle.dcc_control.specs.Plan.{Plan}
use Rattle.dcc_plan.specs.PlanText.{IsPlanText}
use Rattle.dcc_plan.specs.Steps.{steps_in}
use Rattle.dcc_control.specs.Valid.{IsPlanOf}

-- What stands for each graph: a spelling, a function, the locations that matter, and a plan; and of the function's body
-- how many assignments open it, and the text of the plan after them.
pub record Texts : Type 1 where
  pub spelling : inner.Graph → Spelling
  pub function : inner.Graph → Function
  pub matters : inner.Graph → Family
  pub plan : inner.Graph → Plan
  pub openings : inner.Graph → ℕ
  pub lines : inner.Graph → Lines

-- The first lines are so many assignments, and then the second ones.
pub data OpensWith : ℕ → Lines → Lines → Type 0 where
  at_once : {lines : Lines} → OpensWith 0 lines lines
  one_more : {count at : ℕ} {place e : Expr} {body lines : Lines} → OpensWith count body lines
      → OpensWith (suc count) (line (Assign place e) at body) lines

-- The function of the graph is some assignments and then the text of a valid plan, by what matters and how it is
-- spelled.
pub record IsGraphText (texts : Texts) (graph : inner.Graph) : Type 0 where
  pub spelling : IsSpelling (texts.spelling graph)
  pub matters : Matters (texts.spelling graph) graph (texts.matters graph)
  pub is_plan : IsPlanOf graph (texts.plan graph)
  pub text : IsPlanText (texts.spelling graph) graph (texts.plan graph) (texts.lines graph)
  pub opens : OpensWith (texts.openings graph) (texts.function graph).body (texts.lines graph)

-- the setting of calls, in which any text may stand for a place in a block
abbrev pub open_setting : Texts → Setting
open_setting texts = record {
  spelling = texts.spelling;
  function = texts.function;
  matters = texts.matters;
  Continues = λ k graph block rest. Unit {0};
}

-- The function of the graph opens with the assignments of those bytes of arguments.
pub record IsOpened (opens : Opens) (texts : Texts) (graph : inner.Graph) : Type 0 where
  pub count : texts.openings graph ≡ length (openings (opens graph) graph)
  pub begins : BeginsWith (openings (opens graph) graph) (texts.function graph).body (texts.lines graph)

-- a return gives one value back at most
abbrev pub GivesFew : inner.Block → Type 0
GivesFew block = (values : List inner.Expr) → block.exit ≡ inner.Ret values → length values ≤ 1

-- The program is well formed, and the tree has the function of each graph, in their order, as calls need it.
pub record IsProgramText (p : inner.Program) (opens : Opens) (texts : Texts) (tree : Tree) : Type 0 where
  pub well : IsProgram p
  pub graphs : (graph : inner.Graph) → Contains p.graphs graph → IsGraphText texts graph
  pub functions : tree.functions ≡ map texts.function p.graphs
  pub callable : AreFunctions opens (open_setting texts) p tree
  pub opened : (graph : inner.Graph) → Contains p.graphs graph → IsOpened opens texts graph
  pub few : All (λ g. All GivesFew g.blocks) p.graphs

-- The kept places are the blocks that the text has a step for.
abbrev pub AreAllKept : inner.Program → Texts → (ProgramPoint → Bool) → Type 0
AreAllKept p texts kept = (graph : inner.Graph) → Contains p.graphs graph → AreKept graph (texts.plan graph) kept

-- the steps of the functions, and one for each function
abbrev pub text_size : List Function → ℕ
text_size [] = 0
text_size (f ∷ functions) = suc (steps_in f.body) + text_size functions

-- The text counts the visits of a program that is never stuck: it makes a step at least for each kept block, and at
-- most as many for each block as there are in the functions, and one for each function. What comes of a block after
-- its call's return is paid for with the block.
abbrev pub ProgramsCount : Opens → Texts → Type 0
ProgramsCount opens texts = (p : inner.Program) (tree : Tree) (graph : inner.Graph) (others : List inner.Graph)
    (fill : ℕ) (input : List ℕ) (kept : ProgramPoint → Bool) → IsProgramText p opens texts tree
    → IsBeginning opens (open_setting texts) p tree graph others → AreAllKept p texts kept
    → AreBytes input → NeverStuck p fill input
    → (within : ℕ) → text_size tree.functions ≤ within
    → IsCountedBy kept p tree (texts.function graph) fill input within
