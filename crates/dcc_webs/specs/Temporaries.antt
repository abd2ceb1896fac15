-- Graphs over temporaries alone, and graphs that tell the locations of others apart.
use Rattle.std.specs.Prelude.{◌≡◌, Bool, true, false, ◌++◌, map}
use Rattle.std.specs.List.{list_all}
use Rattle.dcc_ir.specs.declared.syntax.Loc.{Loc}
use Rattle.dcc_ir.specs.declared.syntax.Loc.TheVariants.{Temp}
use Rattle.dcc_ir.specs.Tree.{Block, Graph}
use Rattle.dcc_flow.specs.Mentions.{graph_mentions}
use Rattle.dcc_passes.specs.Renaming.{renamed_stmt, renamed_exit, renamed_param, param_places}

abbrev pub is_temp : Loc → Bool
is_temp (Temp n) = true
is_temp _ = false

-- each location that the graph reads or writes, or that takes an argument, is a temporary
abbrev pub HasTempsAlone : Graph → Type 0
HasTempsAlone graph = list_all is_temp (param_places graph.params ++ graph_mentions graph) ≡ true

-- the block with each location replaced
abbrev pub renamed_block : (Loc → Loc) → Block → Block
renamed_block name block =
    record block { stmts = map (renamed_stmt name name) block.stmts; exit = renamed_exit name block.exit }

-- The second graph tells the locations of the first apart, and changes nothing else: each of its temporaries is of one
-- location, and with that location in its place the graph is the first one.
pub record TellsApart (graph after : Graph) : Type 0 where
  pub location : Loc → Loc
  pub entry : after.entry ≡ graph.entry
  pub local : after.local ≡ graph.local
  pub pushed : after.pushed ≡ graph.pushed
  pub params : map (renamed_param location) after.params ≡ graph.params
  pub blocks : map (renamed_block location) after.blocks ≡ graph.blocks
