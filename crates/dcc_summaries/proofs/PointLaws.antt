-- Points of a program and what comes next at them.
use Rattle.std.proofs.Common.{◌≡◌, ℕ, zero, suc, ◌+◌, ◌<◌, ◌≤◌, List, [], ◌∷◌, ◌++◌, append_assoc, flat_map, length, get_or, map, refl, sym, ap, ◌∙◌, subst, arith, Contains}
use Rattle.std.specs.List.{range_with_len}
use Rattle.std.specs.Prelude.{All}
use Rattle.std.proofs.lemmas.List.Elements.{Contains-get_or}
use Rattle.std.proofs.lemmas.List.{length-map}
use Rattle.dcc_ir.specs.declared.syntax.Graph.{Graph as GraphOf}
use Rattle.dcc_ir.specs.declared.syntax.Block.{Block as BlockOf}
use Rattle.dcc_ir.specs.declared.syntax.Stmt.{Stmt as StmtOf}
use Rattle.dcc_ir.specs.declared.syntax.IrProgram.{IrProgram}
use Rattle.dcc_ir.specs.Tree.{Exit, Block, Graph, Program}
use Rattle.dcc_ir.specs.Views.{stmt_of, exit_of, block_of, graph_of, program_of}
use Rattle.dcc_ir.specs.Live.{block_in}
use Rattle.dcc_ir.specs.Run.{no_graph, no_block}
use Rattle.dcc_sums.specs.Points.{Executes, Ends, site_at}
use Rattle.dcc_sums.proofs.SiteLaws.{contained_map}
use Rattle.dcc_summaries.specs.declared.points.Point.{Point}
use Rattle.dcc_summaries.specs.Points.{point_at, graph_in, site_in, IsPoint, block_points, graph_points, all_points}
use Rattle.dcc_summaries.proofs.ListLaws.{from_map, in_flat, from_flat, in_range, from_range, flat_range_more}
use Rattle.std.proofs.lemmas.List.{get_or-map as get_or-map_inside}

-- All points of a program, and no others.

pub all_are : (p : Program) (at : Point) → Contains (all_points p) at → IsPoint p at
all_are p at c =
    let by_graph = from_flat (λ place. graph_points place (graph_in p place)) (range_with_len 0 (length p.graphs)) at c in
    let place = by_graph.0 in
    let graph = graph_in p place in
    let by_block = from_flat (λ block. block_points place block (block_in graph block)) (range_with_len 0 (length graph.blocks)) at by_graph.2 in
    let block = block_in graph by_block.0 in
    let by_done = from_map (point_at place by_block.0) (range_with_len 0 (suc (length block.stmts))) at by_block.2 in
    let below = from_range (suc (length block.stmts)) by_done.0 by_done.1 in
    subst (IsPoint p) by_done.2 (record {
      graph = from_range (length p.graphs) place by_graph.1;
      block = from_range (length graph.blocks) by_block.0 by_block.1;
      done = omega (arith, below);
    })

pub is_one : (p : Program) (at : Point) → IsPoint p at → Contains (all_points p) at
is_one p at is =
    let graph = graph_in p at.graph in
    let block = block_in graph at.block in
    in_flat (λ place. graph_points place (graph_in p place)) (range_with_len 0 (length p.graphs)) at.graph at (in_range (length p.graphs) at.graph is.graph)
    (in_flat (λ b. block_points at.graph b (block_in graph b)) (range_with_len 0 (length graph.blocks)) at.block at (in_range (length graph.blocks) at.block is.block)
    (contained_map (point_at at.graph at.block) (range_with_len 0 (suc (length block.stmts))) at.done (in_range (suc (length block.stmts)) at.done (let below = is.done in omega (arith, below)))))

-- Sites by what code reads.

executes : (items : List StmtOf) (exit : Exit) (done : ℕ) (stmt : StmtOf) → done < length items → stmt ≡ get_or items done stmt → site_at done (map stmt_of items) exit ≡ Executes (stmt_of stmt)
executes [] exit done stmt inside e = absurd (omega (arith, inside))
executes (x ∷ items) exit zero stmt inside e = ap (λ s. Executes (stmt_of s)) (sym e)
executes (x ∷ items) exit (suc done) stmt inside e = executes items exit done stmt (omega (arith, inside)) e

ends : (items : List StmtOf) (exit : Exit) (done : ℕ) → done ≤ length items → length items ≤ done → site_at done (map stmt_of items) exit ≡ Ends exit
ends [] exit zero within past = refl
ends [] exit (suc done) within past = absurd (omega (arith, within))
ends (x ∷ items) exit zero within past = absurd (omega (arith, past))
ends (x ∷ items) exit (suc done) within past = ends items exit done (omega (arith, within)) (omega (arith, past))

module _ (p : IrProgram) (at : Point) (graph : GraphOf) (block : BlockOf) (is : IsPoint (program_of p) at)
    (read_graph : graph ≡ get_or p.graphs.items at.graph graph) (read_block : block ≡ get_or graph.blocks.items at.block block) where
  inside_graph : at.graph < length p.graphs.items
  inside_graph = let size = length-map p.graphs.items graph_of in let below = is.graph in omega (arith, size, below)

  pub graph_there : graph_of graph ≡ graph_in (program_of p) at.graph
  graph_there = ap graph_of read_graph ∙ sym (get_or-map_inside graph_of p.graphs.items at.graph graph no_graph inside_graph)

  pub inside_block : at.block < length graph.blocks.items
  inside_block =
      let size = length-map graph.blocks.items block_of in
      let same = ap (λ (g : Graph). length g.blocks) graph_there in
      let below = is.block in
      omega (arith, size, same, below)

  pub block_there : block_of block ≡ block_in (graph_in (program_of p) at.graph) at.block
  block_there = ap block_of read_block ∙ sym (get_or-map_inside block_of graph.blocks.items at.block block no_block inside_block)
      ∙ ap (λ g. block_in g at.block) graph_there

  pub executes_there : (stmt : StmtOf) → at.done < length block.stmts.items → stmt ≡ get_or block.stmts.items at.done stmt → Executes (stmt_of stmt) ≡ site_in (program_of p) at
  executes_there stmt inside read = sym (executes block.stmts.items (exit_of block.end) at.done stmt inside read) ∙ ap (λ (b : Block). site_at at.done b.stmts b.exit) block_there

  pub ends_there : length block.stmts.items ≤ at.done → Ends (exit_of block.end) ≡ site_in (program_of p) at
  ends_there past =
      let size = length-map block.stmts.items stmt_of in
      let same = ap (λ (b : Block). length b.stmts) block_there in
      let below = is.done in
      sym (ends block.stmts.items (exit_of block.end) at.done (omega (arith, size, same, below)) past) ∙ ap (λ (b : Block). site_at at.done b.stmts b.exit) block_there

-- Lists of points as code makes them.

pub graph_read : (p : IrProgram) (k : ℕ) (graph : GraphOf) → k < length p.graphs.items → graph ≡ get_or p.graphs.items k graph → graph_of graph ≡ graph_in (program_of p) k
graph_read p k graph inside read = ap graph_of read ∙ sym (get_or-map_inside graph_of p.graphs.items k graph no_graph inside)

pub block_read : (graph : GraphOf) (k : ℕ) (block : BlockOf) → k < length graph.blocks.items → block ≡ get_or graph.blocks.items k block → block_of block ≡ block_in (graph_of graph) k
block_read graph k block inside read = ap block_of read ∙ sym (get_or-map_inside block_of graph.blocks.items k block no_block inside)

pub block_listed : (graph : GraphOf) (place k : ℕ) (block : BlockOf) → k < length graph.blocks.items → block ≡ get_or graph.blocks.items k block
    → (count : ℕ) → count ≡ length block.stmts.items + 1 → map (point_at place k) (range_with_len 0 count) ≡ block_points place k (block_in (graph_of graph) k)
block_listed graph place k block inside read count is =
    let size = length-map block.stmts.items stmt_of in
    let same : count ≡ suc (length (block_of block).stmts) = omega (arith, size, is) in
    ap (λ n. map (point_at place k) (range_with_len 0 n)) same ∙ ap (block_points place k) (block_read graph k block inside read)

pub listed_more : (f : ℕ → List Point) (initial before after : List Point) (n : ℕ) → before ≡ initial ++ flat_map f (range_with_len 0 n) → after ≡ before ++ f n → after ≡ initial ++ flat_map f (range_with_len 0 (n + 1))
listed_more f initial before after n e more = more ∙ ap (λ l. l ++ f n) e ∙ append_assoc initial (flat_map f (range_with_len 0 n)) (f n) ∙ ap (λ l. initial ++ l) (flat_range_more f n)

-- a graph that a loop reads
pub graph_item : (p : IrProgram) (graphs : List GraphOf) (k : ℕ) (graph : GraphOf) → graphs ≡ p.graphs.items → k < length graphs → graph ≡ get_or graphs k graph → graph_of graph ≡ graph_in (program_of p) k
graph_item p graphs k graph same inside read = graph_read p k graph (subst (λ l. k < length l) same inside) (read ∙ ap (λ l. get_or l k graph) same)

-- the listed points are points of the program
pub listed_are : (p : Program) (points : List Point) → points ≡ all_points p → All (IsPoint p) points
listed_are p points same k d inside = all_are p (get_or points k d) (subst (λ l. Contains l (get_or points k d)) same (Contains-get_or points k d inside))
