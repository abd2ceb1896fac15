-- How far the definitions of a flag are known while they flow from block to block. No public contract rests on it.
use Rattle.std.specs.Prelude.{◌≡◌, ◌≢◌, ℕ, suc, ◌+◌, ◌==◌, Bool, true, false, ◌&&◌, ◌||◌, if◌then◌else◌, List, [], ◌∷◌}
use Rattle.std.specs.Prelude.{length, get_or, slice_set, replicate, flat_map}
use Rattle.std.specs.List.{list_any}
use Rattle.dcc_num.specs.declared.FlagName.{FlagName}
use Rattle.dcc_ir.specs.declared.syntax.Loc.TheVariants.{Flag}
use Rattle.dcc_ir.specs.Tree.{Stmt, Exit, Graph}
use Rattle.dcc_ir.specs.Use.{exprs_of, exit_exprs}
use Rattle.dcc_ir.specs.Flow.{targets}
use Rattle.dcc_ir.specs.Live.{is_among, reads, block_in}
use Rattle.dcc_ir.specs.Joinable.{places_of}
use Rattle.dcc_flags.specs.Reaching.{Definition, Start as Begin, At as Stands, Reaches, defines, chooses, has_result}
use Rattle.dcc_flags.specs.declared.sources.Source.{Source}
use Rattle.dcc_flags.specs.declared.sources.Source.TheVariants.{Nothing, Start, At, Several}

-- what reaches a place where two sources come together
abbrev pub joined : Source → Source → Source
joined Nothing other = other
joined Start Nothing = Start
joined Start Start = Start
joined Start (At block stmt) = Several
joined Start Several = Several
joined (At block stmt) Nothing = At block stmt
joined (At block stmt) Start = Several
joined (At block stmt) (At other place) = if (block == other) && (stmt == place) then At block stmt else Several
joined (At block stmt) Several = Several
joined Several other = Several

-- what reaches past a definition
abbrev pub defined : Source → ℕ → ℕ → Bool → Source
defined Nothing block stmt chooses = Nothing
defined source block stmt chooses = if chooses then joined source (At block stmt) else At block stmt

-- what reaches past a statement, by the statement's place
abbrev pub moved : FlagName → Source → ℕ → ℕ → Stmt → Source
moved f source block place stmt = if defines f stmt then defined source block place (chooses f stmt) else source

-- what reaches past the statements of a block from a place on
abbrev pub moved_past : FlagName → Source → ℕ → ℕ → List Stmt → Source
moved_past f source block place [] = source
moved_past f source block place (stmt ∷ stmts) = moved_past f (moved f source block place stmt) block (suc place) stmts

-- what reaches flows to the blocks of the list
abbrev pub spread : Source → List Source → List ℕ → List Source
spread source table [] = table
spread source table (block ∷ blocks) =
    spread source (slice_set table block (joined (get_or table block Nothing) source)) blocks

-- what reaches the end of a block flows on
abbrev pub flowed : FlagName → Graph → List Source → ℕ → List Source
flowed f graph table block =
    spread (moved_past f (get_or table block Nothing) block 0 (block_in graph block).stmts) table
    (targets (block_in graph block).exit)

-- what reaches the end of each of the listed blocks flows on
abbrev pub swept : FlagName → Graph → List Source → List ℕ → List Source
swept f graph table [] = table
swept f graph table (block ∷ blocks) = swept f graph (flowed f graph table block) blocks

-- how much a source knows, as a number that rises
abbrev pub rank : Source → ℕ
rank Nothing = 0
rank Start = 1
rank (At block stmt) = 1
rank Several = 2

abbrev pub rank_of : List Source → ℕ
rank_of [] = 0
rank_of (source ∷ sources) = rank source + rank_of sources

-- several definitions reach
abbrev pub is_mixed : Source → Bool
is_mixed Several = true
is_mixed source = false

-- several definitions reach a read from a place of a block on
abbrev pub mixes : FlagName → Source → ℕ → ℕ → List Stmt → Exit → Bool
mixes f source block place [] exit = is_mixed source && reads (exit_exprs exit) (Flag f)
mixes f source block place (stmt ∷ stmts) exit =
    (is_mixed source && reads (exprs_of stmt) (Flag f))
    || mixes f (moved f source block place stmt) block (suc place) stmts exit

-- an argument goes into the flag, or a call gives it back
abbrev pub is_passed : FlagName → Graph → Bool
is_passed f graph =
    is_among (flat_map (λ p. places_of p.put) graph.params) (Flag f)
    || list_any (λ block. list_any (has_result f) block.stmts) graph.blocks

-- at first the start alone reaches the first block
abbrev pub first_sources : ℕ → List Source
first_sources count = slice_set (replicate count Nothing) 0 Start

-- the definition may be one that the source knows to reach
abbrev pub Covers : Source → Definition → Type 0
Covers Nothing d = ⊥
Covers Start d = d ≡ Begin
Covers (At block stmt) d = d ≡ Stands block stmt
Covers Several d = Unit {0}

-- as many definitions of the kind are there as the source says
abbrev pub AreFound : Source → (Definition → Type 0) → Type 0
AreFound Nothing Kind = Unit {0}
AreFound Start Kind = Kind Begin
AreFound (At block stmt) Kind = Kind (Stands block stmt)
AreFound Several Kind = (d : Definition) × (other : Definition) × Kind d × Kind other × (d ≢ other)

-- for each block the table tells which definitions reach its begin: none, one alone, or two and more
pub record AreTold (graph : Graph) (f : FlagName) (table : List Source) : Type 0 where
  pub count : length table ≡ length graph.blocks
  pub found : (block : ℕ) → AreFound (get_or table block Nothing) (λ d. Reaches graph f d block 0)
  pub covered : (d : Definition) (block : ℕ) → Reaches graph f d block 0 → Covers (get_or table block Nothing) d
