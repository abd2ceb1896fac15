-- What stands for calls that wait, and what calls and returns of the text need.
use Rattle.std.proofs.Common.{◌≡◌, ℕ, ◌+◌, ◌<◌, ◌≤◌, Bool, true, false, List, [], ◌∷◌, length, map}
use Rattle.std.specs.Prelude.{All, Contains, drop}
use Rattle.std.specs.List.{list_any}
use Rattle.dcc_ir.specs.declared.syntax.Loc.{Loc}
use Rattle.dcc_ir.specs.Live.{block_in}
use Rattle.dcc_ir.specs.Run as run
use Rattle.dcc_ir.specs.Tree as inner
use Rattle.dcc_ir.specs.WellFormed.{is_jump, IsProgram}
use Rattle.dcc_c.specs.Run as c
use Rattle.dcc_c.specs.Run.{Continuation}
use Rattle.dcc_c.specs.Tree.{Tree}
use Rattle.dcc_text.specs.Holding.{Setting}
use Rattle.dcc_text.specs.Spelling.{Spelling}
use Rattle.dcc_plan.specs.Calls.{Opens, AreFunctions}
use Rattle.dcc_control.specs.Plan.{is_begun}
use Rattle.dcc_plan.specs.Programs.{Texts, IsGraphText, IsOpened, GivesFew}
use Rattle.dcc_control.specs.Valid.{Point, Before, Leads, Context}
use Rattle.dcc_plan.proofs.Rests.{lines_count, left, Stands}

-- these locations have variables
abbrev pub AreNamed : Spelling → List Loc → Type 0
AreNamed s locations = All (λ location. s.named location ≡ true) locations

-- How many statements are left of these.
abbrev pub debts : List Continuation → ℕ
debts [] = 0
debts (k ∷ ks) = left k + debts ks

abbrev pub rests_of : List c.Waiting → List Continuation
rests_of waiting = map (λ w. w.rest) waiting

module _ (texts : Texts) where
  -- how many statements the text of a graph's plan has
  abbrev pub limit_of : inner.Graph → ℕ
  limit_of graph = lines_count (texts.lines graph)

  abbrev pub begun_of : inner.Graph → ℕ → Bool
  begun_of graph b = is_begun (texts.plan graph) b

  -- What is left of the text stands for a point to which the graph leads from this one without a statement.
  pub record StandsAt (graph : inner.Graph) (k : Continuation) (from : Point) : Type 0 where
    pub context : Context
    pub stands : Stands (texts.spelling graph) graph (texts.plan graph) (limit_of graph) k context
    pub point : Point
    pub same : context.next ≡ point
    pub leads : Leads graph (begun_of graph) from point
    pub low : left k ≤ limit_of graph

  -- After a call what is left stands for these last statements of the block, which has no further call and ends in a jump.
  pub record Continuing (k : Continuation) (graph : inner.Graph) (block : inner.Block) (rest : List inner.Stmt) : Type 0 where
    pub b : ℕ
    pub m : ℕ
    pub known : b < length graph.blocks
    pub block_is : block ≡ block_in graph b
    pub at : drop m (block_in graph b).stmts ≡ rest
    pub within : m ≤ length (block_in graph b).stmts
    pub no_calls : list_any run.is_call rest ≡ false
    pub jumps : is_jump (block_in graph b).exit ≡ true
    pub stand : StandsAt graph k (Before b m)

  abbrev pub setting_of : Setting
  setting_of = record { spelling = texts.spelling; function = texts.function; matters = texts.matters; Continues = Continuing }

-- Programs.

-- What the laws of calls and returns need of the texts.
pub record MayCall (p : inner.Program) (opens : Opens) (texts : Texts) (tree : Tree) : Type 0 where
  pub functions : AreFunctions opens (setting_of texts) p tree
  pub opened : (graph : inner.Graph) → Contains p.graphs graph → IsOpened opens texts graph
  pub few : All (λ g. All GivesFew g.blocks) p.graphs

-- A program whose graphs have texts; if a graph may be called, all that calls and returns need. A block costs at most so many
-- steps, with its call and what the callee opens.
pub record Premises : Type 1 where
  pub p : inner.Program
  pub well : IsProgram p
  pub texts : Texts
  pub each : (graph : inner.Graph) → Contains p.graphs graph → IsGraphText texts graph
  pub tree : Tree
  pub fill : ℕ
  pub most : ℕ
  pub fits : (graph : inner.Graph) → Contains p.graphs graph → limit_of texts graph ≤ most
  pub spare : (graph callee : inner.Graph) → Contains p.graphs graph → Contains (drop 1 p.graphs) callee → limit_of texts graph + texts.openings callee + 1 ≤ most
  pub opens : Opens
  pub calls : (callee : inner.Graph) → Contains (drop 1 p.graphs) callee → MayCall p opens texts tree
