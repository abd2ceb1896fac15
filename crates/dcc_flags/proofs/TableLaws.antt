-- Laws of lists, and steps of the loops over statements and blocks.
use Rattle.std.proofs.Common.{◌≡◌, ℕ, ◌+◌, ◌*◌, ◌<◌, ◌≤◌, Bool, true, false, ◌||◌, ◌&&◌, List, [], ◌∷◌, length, get_or, slice_set, map, drop, flat_map, All, refl, sym, ap, ◌∙◌, subst, arith, add-one}
use Rattle.std.specs.List.{list_any}
use Rattle.std.specs.Global.{Vec}
use Rattle.std.proofs.lemmas.Bool.{and_from, or_left}
use Rattle.std.proofs.lemmas.List.{length-map, length-set, get_or-map, drop_more, drop_all}
use Rattle.std.proofs.lemmas.List.Elements.{All-get_or}
use Rattle.std.proofs.lemmas.List.Folds.{list_any-append}
use Rattle.dcc_num.specs.declared.FlagName.{FlagName}
use Rattle.dcc_ir.specs.declared.syntax.Loc.TheVariants.{Flag}
use Rattle.dcc_ir.specs.declared.syntax.Stmt.{Stmt as Statement}
use Rattle.dcc_ir.specs.declared.syntax.Block.{Block as BlockOf}
use Rattle.dcc_ir.specs.declared.syntax.Graph.{Graph as GraphOf}
use Rattle.dcc_ir.specs.Tree.{Stmt, Exit, Graph}
use Rattle.dcc_ir.specs.Run.{no_block}
use Rattle.dcc_ir.specs.Views.{stmt_of, block_of, graph_of}
use Rattle.dcc_ir.specs.Use.{exprs_of}
use Rattle.dcc_ir.specs.Flow.{targets}
use Rattle.dcc_ir.specs.Live.{reads, block_in}
use Rattle.dcc_ir.specs.WellFormed.{IsGraph}
use Rattle.dcc_flow.specs.Edges.{rows, successors_of}
use Rattle.dcc_flow.proofs.Members.{at_map}
use Rattle.dcc_flow.proofs.RowLaws.{row_read, length_successors, successors_within}
use Rattle.dcc_flags.specs.declared.sources.Source.{Source}
use Rattle.dcc_flags.specs.declared.sources.Source.TheVariants.{Nothing}
use Rattle.dcc_flags.specs.Sources.{joined, moved, moved_past, spread, swept, rank, rank_of, is_mixed, mixes}
use Rattle.dcc_flags.proofs.SourceLaws.{rank_bound}

-- Lists.

pub any_map : {X Y : Type 0} (p : Y → Bool) (f : X → Y) (xs : List X) → list_any p (map f xs) ≡ list_any (λ x. p (f x)) xs
any_map p f [] = refl
any_map p f (x ∷ xs) = ap (λ b. p (f x) || b) (any_map p f xs)

pub any_flat_map : {X Y : Type 0} (p : Y → Bool) (f : X → List Y) (xs : List X) → list_any p (flat_map f xs) ≡ list_any (λ x. list_any p (f x)) xs
any_flat_map p f [] = refl
any_flat_map p f (x ∷ xs) = list_any-append p (f x) (flat_map f xs) ∙ ap (λ b. list_any p (f x) || b) (any_flat_map p f xs)

-- Loops.

pub past_step : (f : FlagName) (source after : Source) (block place : ℕ) (stmts : List Statement) (stmt : Statement) → place < length stmts → stmt ≡ get_or stmts place stmt
    → after ≡ moved f source block place (stmt_of stmt)
    → moved_past f after block (place + 1) (drop (place + 1) (map stmt_of stmts)) ≡ moved_past f source block place (drop place (map stmt_of stmts))
past_step f source after block place stmts stmt inside read is =
    let all = map stmt_of stmts in
    let here : get_or all place (stmt_of stmt) ≡ stmt_of stmt = get_or-map stmt_of stmts place stmt (stmt_of stmt) inside ∙ ap stmt_of (sym read) in
    let whole : place < length all = omega (arith, length-map stmts stmt_of) in
    ap (λ s. moved_past f s block (place + 1) (drop (place + 1) all)) is
    ∙ ap (λ n. moved_past f (moved f source block place (stmt_of stmt)) block n (drop (place + 1) all)) (add-one place)
    ∙ sym (ap (moved_past f source block place) (drop_more all place (stmt_of stmt) whole ∙ ap (λ s. s ∷ drop (place + 1) all) here))

mixes_step : (f : FlagName) (source : Source) (block k : ℕ) (stmts : List Statement) (stmt : Statement) (exit : Exit) → k < length stmts → stmt ≡ get_or stmts k stmt
    → mixes f source block k (drop k (map stmt_of stmts)) exit
    ≡ ((is_mixed source && reads (exprs_of (stmt_of stmt)) (Flag f)) || mixes f (moved f source block k (stmt_of stmt)) block (k + 1) (drop (k + 1) (map stmt_of stmts)) exit)
mixes_step f source block k stmts stmt exit inside read =
    let all = map stmt_of stmts in
    let here : get_or all k (stmt_of stmt) ≡ stmt_of stmt = get_or-map stmt_of stmts k stmt (stmt_of stmt) inside ∙ ap stmt_of (sym read) in
    let whole : k < length all = omega (arith, length-map stmts stmt_of) in
    let rest = drop (k + 1) all in
    ap (λ l. mixes f source block k l exit) (drop_more all k (stmt_of stmt) whole ∙ ap (λ s. s ∷ rest) here)
    ∙ ap (λ n. (is_mixed source && reads (exprs_of (stmt_of stmt)) (Flag f)) || mixes f (moved f source block k (stmt_of stmt)) block n rest exit) (sym (add-one k))

pub mixes_here : (f : FlagName) (source : Source) (block k : ℕ) (stmts : List Statement) (stmt : Statement) (exit : Exit) → k < length stmts → stmt ≡ get_or stmts k stmt
    → is_mixed source ≡ true → reads (exprs_of (stmt_of stmt)) (Flag f) ≡ true → mixes f source block k (drop k (map stmt_of stmts)) exit ≡ true
mixes_here f source block k stmts stmt exit inside read mixed is_read =
    mixes_step f source block k stmts stmt exit inside read
    ∙ or_left (is_mixed source && reads (exprs_of (stmt_of stmt)) (Flag f)) (mixes f (moved f source block k (stmt_of stmt)) block (k + 1) (drop (k + 1) (map stmt_of stmts)) exit)
    (and_from (is_mixed source) (reads (exprs_of (stmt_of stmt)) (Flag f)) mixed is_read)

pub mixes_past : (f : FlagName) (source after : Source) (block k : ℕ) (stmts : List Statement) (stmt : Statement) (exit : Exit) → k < length stmts → stmt ≡ get_or stmts k stmt
    → (is_mixed source && reads (exprs_of (stmt_of stmt)) (Flag f)) ≡ false → after ≡ moved f source block k (stmt_of stmt)
    → mixes f after block (k + 1) (drop (k + 1) (map stmt_of stmts)) exit ≡ mixes f source block k (drop k (map stmt_of stmts)) exit
mixes_past f source after block k stmts stmt exit inside read neither is =
    let rest = drop (k + 1) (map stmt_of stmts) in
    ap (λ s. mixes f s block (k + 1) rest exit) is
    ∙ sym (mixes_step f source block k stmts stmt exit inside read ∙ ap (λ b. b || mixes f (moved f source block k (stmt_of stmt)) block (k + 1) rest exit) neither)

pub block_read : (g : GraphOf) (i : ℕ) (b : BlockOf) → i < length g.blocks.items → b ≡ get_or g.blocks.items i b → block_of b ≡ block_in (graph_of g) i
block_read g i b inside read = ap block_of read ∙ sym (get_or-map block_of g.blocks.items i b no_block inside)

pub row_at : (graph : Graph) (block : ℕ) → get_or (successors_of graph) block [] ≡ targets (block_in graph block).exit
row_at graph block = at_map (λ b. targets b.exit) graph.blocks block no_block

-- what the code reads of a block's edges
pub targets_read : (graph : Graph) (vs : List (Vec ℕ)) (block : ℕ) (v : Vec ℕ) (row : List ℕ) → rows vs ≡ successors_of graph → block < length vs → v ≡ get_or vs block v → row ≡ v.items
    → row ≡ targets (block_in graph block).exit
targets_read graph vs block v row same inside read is =
    is ∙ row_read vs block v inside read ∙ ap (λ l. get_or l block []) same ∙ row_at graph block

pub targets_within : (graph : Graph) (block : ℕ) → IsGraph graph → block < length graph.blocks → All (λ place. place < length graph.blocks) (targets (block_in graph block).exit)
targets_within graph block good inside =
    let size = length_successors graph in
    let row = All-get_or (λ r. All (λ place. place < length (successors_of graph)) r) (successors_of graph) block [] (omega (arith, size, inside)) (successors_within graph good) in
    subst (λ n. All (λ place. place < n) (targets (block_in graph block).exit)) size (subst (λ r. All (λ place. place < length (successors_of graph)) r) (row_at graph block) row)

pub sweep_step : (f : FlagName) (graph : Graph) (t after : List Source) (blocks : List ℕ) (i : ℕ) (entry source : Source) (stmts : List Stmt) (row : List ℕ) → i < length blocks
    → entry ≡ get_or t (get_or blocks i 0) Nothing → stmts ≡ (block_in graph (get_or blocks i 0)).stmts → source ≡ moved_past f entry (get_or blocks i 0) 0 stmts
    → row ≡ targets (block_in graph (get_or blocks i 0)).exit → after ≡ spread source t row
    → swept f graph after (drop (i + 1) blocks) ≡ swept f graph t (drop i blocks)
sweep_step f graph t after blocks i entry source stmts row inside first past is edges flows =
    let block = get_or blocks i 0 in
    let rest = drop (i + 1) blocks in
    let all : source ≡ moved_past f (get_or t block Nothing) block 0 (block_in graph block).stmts =
    is ∙ ap (λ s. moved_past f s block 0 stmts) first ∙ ap (moved_past f (get_or t block Nothing) block 0) past in
    ap (λ u. swept f graph u rest) (flows ∙ ap (λ s. spread s t row) all ∙ ap (spread (moved_past f (get_or t block Nothing) block 0 (block_in graph block).stmts) t) edges)
    ∙ sym (ap (swept f graph t) (drop_more blocks i 0 inside))

pub length_spread : (source : Source) (t : List Source) (blocks : List ℕ) → length (spread source t blocks) ≡ length t
length_spread source t [] = refl
length_spread source t (block ∷ blocks) =
    let v = joined (get_or t block Nothing) source in
    length_spread source (slice_set t block v) blocks ∙ length-set t block v

-- How much is known.

pub rank_of_bound : (table : List Source) → rank_of table ≤ 2 * length table
rank_of_bound [] = omega arith
rank_of_bound (source ∷ sources) = let one = rank_bound source in let more = rank_of_bound sources in omega (arith, one, more)

pub rank_step : (table : List Source) (i : ℕ) → i < length table → rank (get_or table i Nothing) + rank_of (drop (i + 1) table) ≡ rank_of (drop i table)
rank_step table i inside = sym (ap rank_of (drop_more table i Nothing inside))

pub rank_none : (table : List Source) (i : ℕ) → length table ≤ i → rank_of (drop i table) ≡ 0
rank_none table i past = ap rank_of (drop_all i table past)
