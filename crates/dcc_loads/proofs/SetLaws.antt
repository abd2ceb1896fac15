-- A graph with assignments of loads for statements that load is well formed, and stands for the graph.
use Rattle.std.proofs.Common.{◌≡◌, ℕ, suc, ◌≤◌, Bool, true, ◌&&◌, List, [], ◌∷◌, ◌++◌, map, flat_map, length, refl, sym, ap, ap₂, ◌∙◌, subst, eqb-true, eq-eqb, arith}
use Rattle.std.specs.Prelude.{All, ◌==◌, ◌||◌, ◌<◌, not, if◌then◌else◌}
use Rattle.std.specs.List.{AllZip, list_all, list_any}
use Rattle.std.proofs.lemmas.Bool.{and_parts, and_from}
use Rattle.std.proofs.lemmas.List.{length-map}
use Rattle.std.proofs.lemmas.List.Elements.{All-nil, All-cons, All-head, All-tail}
use Rattle.dcc_ir.specs.Tree.{Expr, Load, Stmt, Set, Fetch, Store, Div, Call, Dos, Exit, Block, Graph}
use Rattle.dcc_ir.specs.Location.{location_width}
use Rattle.dcc_ir.specs.Value.{width_of}
use Rattle.dcc_ir.specs.Measure.{deepest}
use Rattle.dcc_ir.specs.Use.{addresses_of, exprs_of, exit_exprs, block_exprs, graph_exprs}
use Rattle.dcc_ir.specs.Run.{is_call}
use Rattle.dcc_ir.specs.WellFormed.{is_location, is_stored_width, is_expr_of, is_expr, is_stmt, is_exit, is_block, is_jump, jumps_after_call, all_differ, IsGraph}
use Rattle.dcc_passes.specs.Kinds.{call_kinds, BlockStaysInKind, StaysInKind}
use Rattle.dcc_passes.specs.Tidied.{IsTidied}
use Rattle.dcc_passes.proofs.KindLaws.{kind-fits}
use Rattle.dcc_passes.proofs.OneGraphLaws.{one-stands}
use Rattle.dcc_loads.specs.Sets.{as_set, block_with_sets, with_sets}
use Rattle.dcc_loads.proofs.SameRuns.{same_values, sets-begin, sets-go}

-- Statements.

fetch-formed : (bits : List ℕ) (l : _) (width : ℕ) (address : Expr) → is_stmt bits (Fetch l width address) ≡ true
    → is_stmt bits (Set l (Load width address)) ≡ true
fetch-formed bits l width address is =
    let p = and_parts (is_location bits l && is_stored_width width && (location_width bits l == width)) (is_expr_of bits 16 address) is in
    let q = and_parts (is_location bits l && is_stored_width width) (location_width bits l == width) p.0 in
    let r = and_parts (is_location bits l) (is_stored_width width) q.0 in
    let s = and_parts (is_expr bits address) (width_of bits address == 16) p.1 in
    let load =
    and_from (is_stored_width width && is_expr bits address) (width_of bits address == 16)
    (and_from (is_stored_width width) (is_expr bits address) r.1 s.0) s.1 in
    and_from (is_location bits l) (is_expr_of bits (location_width bits l) (Load width address)) r.0
    (and_from (is_expr bits (Load width address)) (width == location_width bits l) load
    (eq-eqb width (location_width bits l) (sym (eqb-true (location_width bits l) width q.1))))

stmt-formed : (bits : List ℕ) (stmt : Stmt) → is_stmt bits stmt ≡ true → is_stmt bits (as_set stmt) ≡ true
stmt-formed bits (Fetch l width address) is = fetch-formed bits l width address is
stmt-formed bits (Set l e) is = is
stmt-formed bits (Store width address e) is = is
stmt-formed bits (Div l e) is = is
stmt-formed bits (Call results entry arguments depth) is = is
stmt-formed bits (Dos number place argument) is = is

stmts-formed : (bits : List ℕ) (stmts : List Stmt) → list_all (is_stmt bits) stmts ≡ true
    → list_all (is_stmt bits) (map as_set stmts) ≡ true
stmts-formed bits [] is = refl
stmts-formed bits (stmt ∷ rest) is =
    let p = and_parts (is_stmt bits stmt) (list_all (is_stmt bits) rest) is in
    and_from (is_stmt bits (as_set stmt)) (list_all (is_stmt bits) (map as_set rest)) (stmt-formed bits stmt p.0)
    (stmts-formed bits rest p.1)

call-stays : (stmt : Stmt) → is_call (as_set stmt) ≡ is_call stmt
call-stays (Fetch l width address) = refl
call-stays (Set l e) = refl
call-stays (Store width address e) = refl
call-stays (Div l e) = refl
call-stays (Call results entry arguments depth) = refl
call-stays (Dos number place argument) = refl

calls-stay : (stmts : List Stmt) → list_any is_call (map as_set stmts) ≡ list_any is_call stmts
calls-stay [] = refl
calls-stay (stmt ∷ rest) = ap₂ (λ b c. b || c) (call-stays stmt) (calls-stay rest)

jumps-stay : (stmts : List Stmt) (exit : Exit)
    → jumps_after_call (map as_set stmts) exit ≡ jumps_after_call stmts exit
jumps-stay [] exit = refl
jumps-stay (stmt ∷ rest) exit =
    ap₂ (λ b c. if b then not (list_any is_call (map as_set rest)) && is_jump exit else c) (call-stays stmt)
    (jumps-stay rest exit)
    ∙ ap (λ c. if is_call stmt then not c && is_jump exit else jumps_after_call rest exit) (calls-stay rest)

kind-stays : (bits : List ℕ) (stmt : Stmt) → call_kinds bits (as_set stmt) ≡ call_kinds bits stmt
kind-stays bits (Fetch l width address) = refl
kind-stays bits (Set l e) = refl
kind-stays bits (Store width address e) = refl
kind-stays bits (Div l e) = refl
kind-stays bits (Call results entry arguments depth) = refl
kind-stays bits (Dos number place argument) = refl

kinds-stay : (bits : List ℕ) (stmts : List Stmt)
    → flat_map (call_kinds bits) (map as_set stmts) ≡ flat_map (call_kinds bits) stmts
kinds-stay bits [] = refl
kinds-stay bits (stmt ∷ rest) = ap₂ (λ xs ys. xs ++ ys) (kind-stays bits stmt) (kinds-stay bits rest)

-- Blocks.

offsets-stay : (blocks : List Block) → All (λ b. b.at < 65536) blocks
    → All (λ b. b.at < 65536) (map block_with_sets blocks)
offsets-stay [] all = All-nil (λ (b : Block). b.at < 65536)
offsets-stay (b ∷ blocks) all =
    All-cons (λ (b : Block). b.at < 65536) (block_with_sets b) (map block_with_sets blocks)
    (All-head (λ (b : Block). b.at < 65536) b blocks all)
    (offsets-stay blocks (All-tail (λ (b : Block). b.at < 65536) b blocks all))

abbrev Jumps : Block → Type 0
Jumps b = jumps_after_call b.stmts b.exit ≡ true

all-jump : (blocks : List Block) → All Jumps blocks → All Jumps (map block_with_sets blocks)
all-jump [] all = All-nil Jumps
all-jump (b ∷ blocks) all =
    All-cons Jumps (block_with_sets b) (map block_with_sets blocks)
    (jumps-stay b.stmts b.exit ∙ All-head Jumps b blocks all) (all-jump blocks (All-tail Jumps b blocks all))

addresses-stay : (blocks : List Block) → map (λ b. b.at) (map block_with_sets blocks) ≡ map (λ b. b.at) blocks
addresses-stay [] = refl
addresses-stay (b ∷ blocks) = ap (λ ns. b.at ∷ ns) (addresses-stay blocks)

blocks-formed : (bits : List ℕ) (count : ℕ) (blocks : List Block) → list_all (is_block bits count) blocks ≡ true
    → list_all (is_block bits count) (map block_with_sets blocks) ≡ true
blocks-formed bits count [] is = refl
blocks-formed bits count (b ∷ blocks) is =
    let p = and_parts (is_block bits count b) (list_all (is_block bits count) blocks) is in
    let q = and_parts (list_all (is_stmt bits) b.stmts) (is_exit bits count b.exit) p.0 in
    and_from (is_block bits count (block_with_sets b)) (list_all (is_block bits count) (map block_with_sets blocks))
    (and_from (list_all (is_stmt bits) (map as_set b.stmts)) (is_exit bits count b.exit) (stmts-formed bits b.stmts q.0) q.1)
    (blocks-formed bits count blocks p.1)

blocks-kinds : (bits : List ℕ) (blocks : List Block)
    → AllZip (BlockStaysInKind bits bits) blocks (map block_with_sets blocks)
blocks-kinds bits [] = tt
blocks-kinds bits (b ∷ blocks) = (
  record { at = refl; targets_are = refl; jumps = refl; given = refl; calls = kinds-stay bits b.stmts },
  blocks-kinds bits blocks,
)

-- Graphs.

sets-formed : (g : Graph) → IsGraph g → IsGraph (with_sets g)
sets-formed g formed =
    let count : length (map block_with_sets g.blocks) ≡ length g.blocks = length-map g.blocks block_with_sets in
    record {
      begins = omega (arith, count, formed.begins);
      entry = formed.entry;
      offsets = offsets-stay g.blocks formed.offsets;
      jumps = all-jump g.blocks formed.jumps;
      addresses = ap all_differ (addresses-stay g.blocks) ∙ formed.addresses;
      bits = formed.bits;
      params = formed.params;
      blocks =
          subst (λ n. list_all (is_block g.bits n) (map block_with_sets g.blocks) ≡ true) (sym count)
          (blocks-formed g.bits (length g.blocks) g.blocks formed.blocks);
    }

sets-kind : (g : Graph) → StaysInKind g (with_sets g)
sets-kind g = record {
  entry = refl;
  params = refl;
  local = refl;
  pushed = refl;
  blocks = blocks-kinds g.bits g.blocks;
}

-- Of the expressions of a graph with sets, each is one of the graph's, or a load from it.

module _ (test : ℕ → Bool) where
  abbrev all-pass : List Expr → Bool
  all-pass es = list_all (λ e. list_all test (addresses_of e)) es

  stmt-passes : (stmt : Stmt) (es : List Expr)
      → all-pass (exprs_of (as_set stmt) ++ es) ≡ all-pass (exprs_of stmt ++ es)
  stmt-passes (Fetch l width address) es = refl
  stmt-passes (Set l e) es = refl
  stmt-passes (Store width address e) es = refl
  stmt-passes (Div l e) es = refl
  stmt-passes (Call results entry arguments depth) es = refl
  stmt-passes (Dos number place argument) es = refl

  append-pass : (es fs gs : List Expr) → all-pass fs ≡ all-pass gs → all-pass (es ++ fs) ≡ all-pass (es ++ gs)
  append-pass [] fs gs same = same
  append-pass (e ∷ es) fs gs same = ap (λ b. list_all test (addresses_of e) && b) (append-pass es fs gs same)

  append-twice : (xs ys zs : List Expr) → (xs ++ ys) ++ zs ≡ xs ++ (ys ++ zs)
  append-twice [] ys zs = refl
  append-twice (x ∷ xs) ys zs = ap (λ l. x ∷ l) (append-twice xs ys zs)

  stmts-pass : (stmts : List Stmt) (es : List Expr)
      → all-pass (flat_map exprs_of (map as_set stmts) ++ es) ≡ all-pass (flat_map exprs_of stmts ++ es)
  stmts-pass [] es = refl
  stmts-pass (stmt ∷ rest) es =
      ap all-pass (append-twice (exprs_of (as_set stmt)) (flat_map exprs_of (map as_set rest)) es)
      ∙ append-pass (exprs_of (as_set stmt)) (flat_map exprs_of (map as_set rest) ++ es) (flat_map exprs_of rest ++ es)
      (stmts-pass rest es) ∙ stmt-passes stmt (flat_map exprs_of rest ++ es)
      ∙ ap all-pass (sym (append-twice (exprs_of stmt) (flat_map exprs_of rest) es))

  blocks-pass : (blocks : List Block)
      → all-pass (flat_map block_exprs (map block_with_sets blocks)) ≡ all-pass (flat_map block_exprs blocks)
  blocks-pass [] = refl
  blocks-pass (b ∷ blocks) =
      append-pass (block_exprs (block_with_sets b)) (flat_map block_exprs (map block_with_sets blocks))
      (flat_map block_exprs blocks) (blocks-pass blocks)
      ∙ ap all-pass (append-twice (flat_map exprs_of (map as_set b.stmts)) (exit_exprs b.exit) (flat_map block_exprs blocks))
      ∙ stmts-pass b.stmts (exit_exprs b.exit ++ flat_map block_exprs blocks)
      ∙ ap all-pass (sym (append-twice (flat_map exprs_of b.stmts) (exit_exprs b.exit) (flat_map block_exprs blocks)))

-- Depth.

stmt-depth : (stmt : Stmt) → deepest (exprs_of (as_set stmt)) ≤ suc (deepest (exprs_of stmt))
stmt-depth (Fetch l width address) = omega arith
stmt-depth (Set l e) = omega arith
stmt-depth (Store width address e) = omega arith
stmt-depth (Div l e) = omega arith
stmt-depth (Call results entry arguments depth) = omega arith
stmt-depth (Dos number place argument) = omega arith

deepest-both : (es fs : List Expr) (n : ℕ) → deepest es ≤ n → deepest fs ≤ n → deepest (es ++ fs) ≤ n
deepest-both [] fs n one other = other
deepest-both (e ∷ es) fs n one other =
    let later = deepest-both es fs n (omega (arith, one)) other in omega (arith, one, later)

deepest-parts : (es fs : List Expr) (n : ℕ) → deepest (es ++ fs) ≤ n → (deepest es ≤ n) × (deepest fs ≤ n)
deepest-parts [] fs n all = (omega arith, all)
deepest-parts (e ∷ es) fs n all =
    let later = deepest-parts es fs n (omega (arith, all)) in (omega (arith, all, later.0), later.1)

stmts-depth : (n : ℕ) (stmts : List Stmt) → deepest (flat_map exprs_of stmts) ≤ n
    → deepest (flat_map exprs_of (map as_set stmts)) ≤ suc n
stmts-depth n [] few = omega arith
stmts-depth n (stmt ∷ rest) few =
    let p = deepest-parts (exprs_of stmt) (flat_map exprs_of rest) n few in
    let here = stmt-depth stmt in
    deepest-both (exprs_of (as_set stmt)) (flat_map exprs_of (map as_set rest)) (suc n) (omega (arith, here, p.0))
    (stmts-depth n rest p.1)

blocks-depth : (n : ℕ) (blocks : List Block) → deepest (flat_map block_exprs blocks) ≤ n
    → deepest (flat_map block_exprs (map block_with_sets blocks)) ≤ suc n
blocks-depth n [] few = omega arith
blocks-depth n (b ∷ blocks) few =
    let p = deepest-parts (block_exprs b) (flat_map block_exprs blocks) n few in
    let q = deepest-parts (flat_map exprs_of b.stmts) (exit_exprs b.exit) n p.0 in
    deepest-both (block_exprs (block_with_sets b)) (flat_map block_exprs (map block_with_sets blocks)) (suc n)
    (deepest-both (flat_map exprs_of (map as_set b.stmts)) (exit_exprs b.exit) (suc n) (stmts-depth n b.stmts q.0)
    (omega (arith, q.1)))
    (blocks-depth n blocks p.1)

pub sets-depth : (g : Graph) → deepest (graph_exprs (with_sets g)) ≤ suc (deepest (graph_exprs g))
sets-depth g = blocks-depth (deepest (graph_exprs g)) g.blocks (omega arith)

pub sets-tidied : (g : Graph) → IsGraph g → IsTidied g (with_sets g)
sets-tidied g formed =
    let fine = sets-formed g formed in
    let kind = sets-kind g in record {
      formed = fine;
      stands =
          one-stands (λ k. k) same_values g (with_sets g) (kind-fits g (with_sets g) kind fine) (sets-begin g) (sets-go g);
      kind = kind;
      addresses = λ test passes. blocks-pass test g.blocks ∙ passes;
      apart = λ differ. differ;
    }
