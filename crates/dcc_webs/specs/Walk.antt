-- Numbers that code gives to the webs of all blocks, and which it joins. No public contract rests on it.
use Rattle.std.specs.Prelude.{◌≡◌, ℕ, zero, suc, ◌+◌, ◌<◌, ◌==◌, List, [], ◌∷◌, ◌++◌, map, length, get_or, All}
use Rattle.std.specs.Prelude.{if◌then◌else◌, slice_get, Option, Some, None}
use Rattle.dcc_ir.specs.declared.syntax.Loc.{Loc}
use Rattle.dcc_ir.specs.Tree.{Graph}
use Rattle.dcc_passes.specs.Renaming.{param_places}
use Rattle.dcc_flow.specs.Access.{BlockAccess, block_access_in, accesses_of}
use Rattle.dcc_flow.specs.Edges.{rows, successors_of, ArePredecessors}
use Rattle.dcc_webs.specs.declared.walk.Facts.{Facts as FactsOf}
use Rattle.dcc_webs.specs.Names.{Names, all_named, before_block}

-- what is known of a graph: for each block what it reads and writes, what is live at its end and the blocks before it;
-- and the locations that take arguments
pub record Facts : Type 0 where
  pub accesses : List BlockAccess
  pub at_end : List (List Loc)
  pub preds : List (List ℕ)
  pub params : List Loc

-- what the declared facts stand for
abbrev pub facts_of : FactsOf → Facts
facts_of facts = record {
  accesses = map block_access_in facts.accesses.now.items;
  at_end = map (λ v. v.items) facts.at_end.now.items;
  preds = rows facts.preds.now.items;
  params = facts.params.now;
}

-- there are as many lists as blocks, and the blocks before each block are some of them
pub record AreWhole (facts : Facts) : Type 0 where
  pub at_end : length facts.at_end ≡ length facts.accesses
  pub preds : length facts.preds ≡ length facts.accesses
  pub within : All (λ row. All (λ place. place < length facts.accesses) row) facts.preds

-- the facts of the graph, where these locations are live at the ends of its blocks
abbrev pub AreFacts : Graph → List (List Loc) → Facts → Type 0
AreFacts graph live facts =
    (facts.accesses ≡ accesses_of graph) × (facts.at_end ≡ live)
    × ArePredecessors (successors_of graph) facts.preds × (facts.params ≡ param_places graph.params)

abbrev pub no_access : BlockAccess
no_access = record { stmts = []; last = [] }

-- the link of a number to that which stands for the location where an edge ends, where there is one
abbrev pub link_of : Option ℕ → ℕ → ℕ → List (ℕ × ℕ)
link_of (Some n) begin end = (begin, end + n) ∷ []
link_of None begin end = []

abbrev pub link_from : Names → ℕ → ℕ → Option Loc → List (ℕ × ℕ)
link_from names begin end (Some location) = link_of (names.number location) begin end
link_from names begin end None = []

-- the links of so many of the locations that are live where an edge begins, from that number on
abbrev pub links_upto : Names → ℕ → ℕ → List Loc → ℕ → List (ℕ × ℕ)
links_upto names begin end live zero = []
links_upto names begin end live (suc i) =
    links_upto names begin end live i ++ link_from names (begin + i) end (slice_get live i)

abbrev pub links_along : Names → ℕ → ℕ → List Loc → List (ℕ × ℕ)
links_along names begin end live = links_upto names begin end live (length live)

module _ (facts : Facts) where
  -- what is live at the end of the block at a place
  abbrev pub live_at : ℕ → List Loc
  live_at place = get_or facts.at_end place []

  -- the numbers before the block at a place
  abbrev pub begin_names : ℕ → Names
  begin_names place = before_block (live_at place) (get_or facts.accesses place no_access)

  -- the numbers that it gives: before the first block what takes an argument has one too
  abbrev pub last_names : ℕ → Names
  last_names place = if place == 0 then all_named (begin_names place) facts.params else begin_names place

  -- the locations of the numbers of the first blocks, one block after the other
  abbrev pub origins_before : ℕ → List Loc
  origins_before zero = []
  origins_before (suc places) = origins_before places ++ (last_names places).origins

  -- where the numbers of the block at a place begin
  abbrev pub base : ℕ → ℕ
  base place = length (origins_before place)

  pub record AreBases (bases : List ℕ) : Type 0 where
    pub count : length bases ≡ length facts.accesses
    pub are : (place : ℕ) → place < length facts.accesses → get_or bases place 0 ≡ base place

  -- the links along the edge between two blocks
  abbrev pub edge_links : ℕ → ℕ → List (ℕ × ℕ)
  edge_links to from = links_along (begin_names to) (base from) (base to) (live_at from)

  abbrev pub links_to : ℕ → Option ℕ → List (ℕ × ℕ)
  links_to to (Some from) = edge_links to from
  links_to to None = []

  -- those along so many of the edges to a block
  abbrev pub links_into : ℕ → ℕ → List (ℕ × ℕ)
  links_into to zero = []
  links_into to (suc i) = links_into to i ++ links_to to (slice_get (get_or facts.preds to []) i)

  abbrev pub block_links : ℕ → List (ℕ × ℕ)
  block_links to = links_into to (length (get_or facts.preds to []))

  -- those along the edges to so many of the blocks
  abbrev pub links_before : ℕ → List (ℕ × ℕ)
  links_before zero = []
  links_before (suc places) = links_before places ++ block_links places

  abbrev pub all_links : List (ℕ × ℕ)
  all_links = links_before (length facts.accesses)
