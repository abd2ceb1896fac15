-- What tidying leaves of a graph.
use Rattle.std.specs.Prelude.{ℕ, ◌+◌, ◌≤◌, List}
use Rattle.dcc_ir.specs.Measure.{deepest}
use Rattle.dcc_ir.specs.Tree.{Graph}
use Rattle.dcc_ir.specs.Use.{graph_exprs}
use Rattle.dcc_passes.specs.Tidied.{IsTidied}
use Rattle.dcc_live.specs.Dead.{IsWithoutUnneeded}
use Rattle.dcc_webs.specs.Temporaries.{HasTempsAlone, TellsApart}
use Rattle.dcc_loads.specs.Sets.{with_sets}
use Rattle.dcc_words.specs.Words.{ReadsWords}
use Rattle.dcc_simplify.specs.Reshaped.{IsGraphAs}
use Rattle.dcc_simplify.specs.Simplified.{IsSimplified}

-- as many levels may an expression have for its text
abbrev pub text_levels : ℕ
text_levels = 32

-- The second graph may stand in the first one's place, and a text can have it where the first is 3 levels less deep than
-- a text may be.
pub record MayStandInText (before after : Graph) : Type 0 where
  pub tidied : IsTidied before after
  pub depth : deepest (graph_exprs before) + 3 ≤ text_levels → deepest (graph_exprs after) ≤ text_levels

-- What the passes leave of a graph, one after another: each web has a temporary of its own; each statement that loads is
-- an assignment of a load; pairs of temporaries that are used as words are words; rounds of passes follow; then no part
-- of an expression has the form of a rule of these numbers, and each assignment that is left makes what is wanted after
-- it.
pub record HasPassesDone (ids : List ℕ) (before after : Graph) : Type 0 where
  pub split : Graph
  pub told : TellsApart before split
  pub temps : HasTempsAlone split
  pub words : Graph
  pub reads : ReadsWords (with_sets split) words
  pub plain : Graph
  pub rounds : IsTidied words plain
  pub simple : Graph
  pub simplified : IsGraphAs (IsSimplified ids plain.bits) plain simple
  pub last : IsWithoutUnneeded simple after

-- The second graph is what is tidied of the first: it may stand in its place in a text, and the passes are done.
pub record IsTidiedGraph (ids : List ℕ) (before after : Graph) : Type 0 where
  pub stands : MayStandInText before after
  pub done : HasPassesDone ids before after
