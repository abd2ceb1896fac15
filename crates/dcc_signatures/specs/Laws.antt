-- Laws of programs in which what passes together is one value.
use Rattle.std.specs.Prelude.{◌≡◌, ℕ, ◌≤◌, max, true, ◌&&◌, ◌⊎◌, List, [], ◌∷◌, ◌++◌, map, drop, flat_map, filter, All}
use Rattle.std.specs.Prelude.{Contains}
use Rattle.std.specs.List.{list_all}
use Rattle.dcc_num.specs.declared.Reg.{Reg}
use Rattle.dcc_num.specs.declared.Half.TheVariants.{Low, High}
use Rattle.dcc_ir.specs.declared.syntax.Loc.{Loc}
use Rattle.dcc_ir.specs.declared.syntax.Loc.TheVariants.{Half}
use Rattle.dcc_ir.specs.declared.syntax.Put.{Put}
use Rattle.dcc_ir.specs.declared.syntax.Put.TheVariants.{Two}
use Rattle.dcc_ir.specs.declared.syntax.Param.{Param}
use Rattle.dcc_ir.specs.Tree.{Stmt, Call, Exit, Ret, Graph, Program, Summary}
use Rattle.dcc_ir.specs.Location.{location_width}
use Rattle.dcc_ir.specs.Value.{width_of}
use Rattle.dcc_ir.specs.Use.{graph_exprs}
use Rattle.dcc_ir.specs.Live.{is_among}
use Rattle.dcc_ir.specs.Joinable.{places_of}
use Rattle.dcc_ir.specs.Measure.{deepest}
use Rattle.dcc_ir.specs.Passing.{passed, is_word_put, PassesAll}
use Rattle.dcc_ir.specs.WellFormed.{is_width, IsProgram}
use Rattle.dcc_sums.specs.Summaries.{AreSummaries, GivesOneValue}
use Rattle.dcc_sums.specs.Localised.{summary_at, localised, PassesJust}
use Rattle.dcc_sums.specs.Laws.{IsKeptBy}
use Rattle.dcc_signatures.specs.Packed.{param_with, pack_graph, packed}

-- the locations stand in the order in which they pass, each once
abbrev pub IsInOrder : List Loc → Type 0
IsInOrder locations = locations ≡ filter (λ location. is_among locations location) passed

-- the params and the results of the summary stand in the order in which they pass, each once
pub record AreInOrder (sum : Summary) : Type 0 where
  pub params : IsInOrder sum.params
  pub results : IsInOrder sum.results

-- just what the summaries say passes, and no procedure gives several values back
pub record PassesOneValue (p : Program) (sums : List Summary) : Type 0 where
  pub just : PassesJust (summary_at p.graphs sums) p
  pub order : All AreInOrder sums
  pub one : GivesOneValue sums

-- the program is kept by the one in which what passes together is one value
abbrev pub PackedKeeps : Type 0
PackedKeeps = (p : Program) (sums : List Summary) → IsProgram p → PassesOneValue p sums → IsKeptBy p (packed p)

-- What passes in a packed program.

-- the list has at most one element, of 1, 8, 16 or 32 bits
abbrev pub AtMostOne : {A : Type 0} → (A → ℕ) → List A → Type 0
AtMostOne {A} width xs = (xs ≡ []) ⊎ ((x : A) × (xs ≡ x ∷ []) × (is_width (width x) ≡ true))

abbrev pub GivesAtMostOne : List ℕ → Exit → Type 0
GivesAtMostOne bits (Ret values) = AtMostOne (width_of bits) values
GivesAtMostOne bits exit = Unit {0}

abbrev pub TakesAtMostOne : List ℕ → Stmt → Type 0
TakesAtMostOne bits (Call results entry arguments depth) = AtMostOne (location_width bits) results
TakesAtMostOne bits stmt = Unit {0}

-- The graph takes words on the stack, then just the given locations, each once: a register of which both halves are
-- among them is one param.
pub record TakesTogether (locations : List Loc) (graph : Graph) : Type 0 where
  pub words : List Param
  pub puts : List Put
  pub stack : list_all (λ w. w.stack && is_word_put w.put) words ≡ true
  pub params : graph.params ≡ words ++ map param_with puts
  pub order : IsInOrder locations
  pub places : flat_map places_of puts ≡ locations
  pub together : (r : Reg) → Contains locations (Half r Low) → Contains locations (Half r High)
      → Contains puts (Two (Half r Low) (Half r High))

-- each Ret and each Call gives at most one value, and each graph but the first takes just what its summary says
pub record PassesAtMostOne (sum_of : ℕ → Summary) (p : Program) : Type 0 where
  pub params : All (λ g. TakesTogether (sum_of g.entry).params g) (drop 1 p.graphs)
  pub rets : All (λ g. All (λ b. GivesAtMostOne g.bits b.exit) g.blocks) p.graphs
  pub calls : All (λ g. All (λ b. All (TakesAtMostOne g.bits) b.stmts) g.blocks) p.graphs

abbrev pub PackedPassesOne : Type 0
PackedPassesOne = (p : Program) (sums : List Summary) → IsProgram p → PassesOneValue p sums
    → PassesAtMostOne (summary_at p.graphs sums) (packed p)

-- the deepest expression of the packed graph is at most as deep as the graph's, or 3 deep
abbrev pub PackedIsShallow : Type 0
PackedIsShallow = (g : Graph) → deepest (graph_exprs (pack_graph g)) ≤ max (deepest (graph_exprs g)) 3

-- the localised program passes just what its summaries say, and one value at most, where the summaries are its own and
-- tell of one value
abbrev pub LocalisedPassesOneValue : Type 0
LocalisedPassesOneValue = (back : ℕ → List ℕ) (p : Program) (sums : List Summary) → IsProgram p → PassesAll back p
    → AreSummaries p sums → GivesOneValue sums → PassesOneValue (localised sums p) sums
