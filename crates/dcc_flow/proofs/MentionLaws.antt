-- What a graph mentions, by what its blocks read and write.
use Rattle.std.proofs.Common.{◌≡◌, List, [], ◌∷◌, ◌++◌, filter, flat_map, map, Bool, true, false, refl, ap, ap₂, ◌∙◌}
use Rattle.std.specs.Prelude.{◌||◌}
use Rattle.dcc_ir.specs.declared.syntax.Loc.{Loc}
use Rattle.dcc_ir.specs.Tree.{Stmt, Block, Graph}
use Rattle.dcc_ir.specs.Use.{reads_of, exit_exprs}
use Rattle.dcc_ir.specs.Live.{is_among}
use Rattle.dcc_flow.specs.Access.{BlockAccess, access_of, block_access_of, accesses_of}
use Rattle.dcc_flow.specs.Marks.{empty, with_all}
use Rattle.dcc_flow.specs.Mentions.{stmt_mentions, block_mentions, graph_mentions, access_mentions, block_access_mentions}
use mathlib.Core.Path.{fun_ext}

stmts_mention : (stmts : List Stmt) → flat_map access_mentions (map access_of stmts) ≡ flat_map stmt_mentions stmts
stmts_mention [] = refl
stmts_mention (stmt ∷ stmts) = ap (λ l. stmt_mentions stmt ++ l) (stmts_mention stmts)

blocks_mention : (blocks : List Block) → flat_map block_access_mentions (map block_access_of blocks) ≡ flat_map block_mentions blocks
blocks_mention [] = refl
blocks_mention (b ∷ blocks) = ap₂ (λ l m. (l ++ flat_map reads_of (exit_exprs b.exit)) ++ m) (stmts_mention b.stmts) (blocks_mention blocks)

-- what blocks with these accesses mention
pub mentions_are : (g : Graph) (mentions : List Loc) (blocks : List BlockAccess) → mentions ≡ flat_map block_access_mentions blocks
    → blocks ≡ accesses_of g → mentions ≡ graph_mentions g
mentions_are g mentions blocks all are = all ∙ ap (flat_map block_access_mentions) are ∙ blocks_mention g.blocks

or_nothing : (b : Bool) → (b || false) ≡ b
or_nothing true = refl
or_nothing false = refl

-- what is in a set of all that the blocks mention is mentioned in the graph
pub marked_mentions : (g : Graph) (among : List Loc) (has : Loc → Bool) (mentions : List Loc) (blocks : List BlockAccess) → has ≡ with_all empty mentions
    → mentions ≡ flat_map block_access_mentions blocks → blocks ≡ accesses_of g → filter has among ≡ filter (is_among (graph_mentions g)) among
marked_mentions g among has mentions blocks marked all are =
    ap (λ f. filter f among)
    (marked ∙ fun_ext (λ l. or_nothing (is_among mentions l)) ∙ ap is_among (mentions_are g mentions blocks all are))
