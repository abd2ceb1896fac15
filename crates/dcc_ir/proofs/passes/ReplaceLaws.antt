-- A graph without assignments that don't matter may stand in the place of the graph: the program stays well formed, and
-- is kept.
use Rattle.std.proofs.Common.{◌≡◌, ℕ, ◌<◌, Bool, true, false, ◌&&◌, ◌||◌, not, List, [], ◌∷◌, ◌++◌, length, refl, sym, ap, ap₂, ◌∙◌, subst, true≢false, flat_map, Contains, eqb-true, append-nil}
use Rattle.std.specs.Prelude.{if◌then◌else◌, ◌==◌}
use Rattle.std.specs.List.{AllZip, list_all, list_any}
use Rattle.std.proofs.lemmas.List.Elements.{All-contains}
use Rattle.std.proofs.lemmas.Slice.Zip.{AllZip-long}
use Rattle.dcc_ir.specs.declared.syntax.Loc.{Loc}
use Rattle.dcc_ir.specs.Tree.{Stmt, Call, Exit, Block, Graph, Program}
use Rattle.dcc_ir.specs.Demand.{is_assignment}
use Rattle.dcc_ir.specs.Families.{Family, everything, IsClosed, IsWithout, done, stays, goes, IsBlockWithout, IsGraphWithout}
use Rattle.dcc_ir.specs.WellFormed.{is_put, is_width, is_stmt, is_exit, is_block, is_jump, jumps_after_call, all_differ, ret_widths, IsGraph, IsProgram}
use Rattle.dcc_ir.specs.Run.{is_call}
use Rattle.dcc_ir.specs.Flow.{targets}
use Rattle.dcc_ir.specs.Form.{signatures_of, BlockStays, GraphStays}
use Rattle.dcc_ir.specs.Replaced.{IsKeptWith}
use Rattle.dcc_ir.proofs.FitLaws.{both}
use Rattle.dcc_ir.proofs.ZipLaws.{all_zipped, map_zipped, passes_zipped, weaker_zipped}
use Rattle.dcc_ir.proofs.passes.FormLaws.{one_graph, program_stays, kept_where}
use Rattle.dcc_ir.proofs.passes.WithoutLaws.{runs_kept_without}

-- Statements that stay.

module _ (Has : List Stmt → Loc → Type 0) where
  -- what all statements pass, those that stay pass
  passes_staying : (f : Stmt → Bool) (stmts stmts' : List Stmt) → IsWithout Has stmts stmts' → list_all f stmts ≡ true → list_all f stmts' ≡ true
  passes_staying f stmts stmts' done all = all
  passes_staying f stmts stmts' (stays {stmt = stmt} {rest = rest} {rest' = rest'} w) all =
      let parts = both (f stmt) (list_all f rest) all in
      ap₂ (λ a b. a && b) parts.0 (passes_staying f rest rest' w parts.1)
  passes_staying f stmts stmts' (goes {stmt = stmt} {rest = rest} {rest' = rest'} is none w) all = passes_staying f rest rest' w (both (f stmt) (list_all f rest) all).1

  -- an assignment is no call
  no_call : (stmt : Stmt) → is_assignment stmt ≡ true → is_call stmt ≡ false
  no_call (Call results entry arguments depth) is = absurd (true≢false (sym is))
  no_call stmt is = refl

  calls_staying : (stmts stmts' : List Stmt) → IsWithout Has stmts stmts' → list_any is_call stmts' ≡ list_any is_call stmts
  calls_staying stmts stmts' done = refl
  calls_staying stmts stmts' (stays {stmt = stmt} {rest = rest} {rest' = rest'} w) = ap (λ b. is_call stmt || b) (calls_staying rest rest' w)
  calls_staying stmts stmts' (goes {stmt = stmt} {rest = rest} {rest' = rest'} is none w) = calls_staying rest rest' w ∙ ap (λ b. b || list_any is_call rest) (sym (no_call stmt is))

  signatures_staying : (bits : List ℕ) (stmts stmts' : List Stmt) → IsWithout Has stmts stmts' → flat_map (signatures_of bits) stmts' ≡ flat_map (signatures_of bits) stmts
  signatures_staying bits stmts stmts' done = refl
  signatures_staying bits stmts stmts' (stays {stmt = stmt} {rest = rest} {rest' = rest'} w) = ap (λ l. signatures_of bits stmt ++ l) (signatures_staying bits rest rest' w)
  signatures_staying bits stmts stmts' (goes {stmt = stmt} {rest = rest} {rest' = rest'} is none w) = signatures_staying bits rest rest' w ∙ sym (go stmt is)
    where
      go : (stmt : Stmt) → is_assignment stmt ≡ true → flat_map (signatures_of bits) (stmt ∷ rest) ≡ flat_map (signatures_of bits) rest
      go (Call results entry arguments depth) is = absurd (true≢false (sym is))
      go stmt is = refl

  jumps_staying : (exit : Exit) (stmts stmts' : List Stmt) → IsWithout Has stmts stmts' → jumps_after_call stmts exit ≡ true → jumps_after_call stmts' exit ≡ true
  jumps_staying exit stmts stmts' done jumps = jumps
  jumps_staying exit stmts stmts' (stays {stmt = stmt} {rest = rest} {rest' = rest'} w) jumps = go (is_call stmt) jumps (jumps_staying exit rest rest' w)
    where
      go : (b : Bool) → (if b then not (list_any is_call rest) && is_jump exit else jumps_after_call rest exit) ≡ true → (jumps_after_call rest exit ≡ true → jumps_after_call rest' exit ≡ true) →
          (if b then not (list_any is_call rest') && is_jump exit else jumps_after_call rest' exit) ≡ true
      go true jumps later = ap (λ b. not b && is_jump exit) (calls_staying rest rest' w) ∙ jumps
      go false jumps later = later jumps
  jumps_staying exit stmts stmts' (goes {stmt = stmt} {rest = rest} {rest' = rest'} is none w) jumps =
      jumps_staying exit rest rest' w (subst (λ b. (if b then not (list_any is_call rest) && is_jump exit else jumps_after_call rest exit) ≡ true) (no_call stmt is) jumps)

-- The graph.

module _ (family : Family) (g g' : Graph) (h : IsGraphWithout family g g') where
  abbrev Pairs : Block → Block → Type 0
  Pairs b b' = IsBlockWithout family b b'

  blocks_long : length g'.blocks ≡ length g.blocks
  blocks_long = AllZip-long Pairs g.blocks g'.blocks h.blocks

  block_still : (count : ℕ) (b b' : Block) → Pairs b b' → is_block g.bits count b ≡ true → is_block g'.bits count b' ≡ true
  block_still count b b' pair fine =
      let parts = both (list_all (is_stmt g.bits) b.stmts) (is_exit g.bits count b.exit) fine in
      subst (λ bits. is_block bits count b' ≡ true) (sym h.bits)
      (ap₂ (λ x y. x && y) (passes_staying (family b) (is_stmt g.bits) b.stmts b'.stmts pair.stmts parts.0) (ap (is_exit g.bits count) pair.exit ∙ parts.1))

  pub graph_still : IsGraph g → IsGraph g'
  graph_still is = record {
    begins = subst (λ n. 0 < n) (sym blocks_long) is.begins;
    entry = subst (λ n. n < 65536) (sym h.entry) is.entry;
    offsets = all_zipped Pairs (λ b. b.at < 65536) (λ b. b.at < 65536) (λ b b' pair small. subst (λ n. n < 65536) (sym pair.at) small) g.blocks g'.blocks h.blocks is.offsets;
    jumps = all_zipped Pairs (λ b. jumps_after_call b.stmts b.exit ≡ true) (λ b. jumps_after_call b.stmts b.exit ≡ true)
        (λ b b' pair jumps. subst (λ exit. jumps_after_call b'.stmts exit ≡ true) (sym pair.exit) (jumps_staying (family b) b.exit b.stmts b'.stmts pair.stmts jumps)) g.blocks g'.blocks h.blocks is.jumps;
    addresses = ap all_differ (map_zipped Pairs (λ (b : Block). b.at) (λ (b : Block). b.at) (λ b b' pair. pair.at) g.blocks g'.blocks h.blocks) ∙ is.addresses;
    bits = subst (λ bits. list_all is_width bits ≡ true) (sym h.bits) is.bits;
    params = subst (λ bits. list_all (λ q. is_put bits q.put) g'.params ≡ true) (sym h.bits) (subst (λ params. list_all (λ q. is_put g.bits q.put) params ≡ true) (sym h.params) is.params);
    blocks = subst (λ n. list_all (is_block g'.bits n) g'.blocks ≡ true) (sym blocks_long)
        (passes_zipped Pairs (is_block g.bits (length g.blocks)) (is_block g'.bits (length g.blocks)) (block_still (length g.blocks)) g.blocks g'.blocks h.blocks is.blocks);
  }

  block_stays : (b b' : Block) → Pairs b b' → BlockStays g.bits g'.bits b b'
  block_stays b b' pair = record {
    at = pair.at;
    targets_are = ap targets pair.exit;
    jumps = ap is_jump pair.exit;
    given = ap₂ ret_widths h.bits pair.exit;
    calls = ap (λ bits. flat_map (signatures_of bits) b'.stmts) h.bits ∙ signatures_staying (family b) g.bits b.stmts b'.stmts pair.stmts;
  }

  form_stays : GraphStays g g'
  form_stays = record {
    entry = h.entry;
    params = h.params;
    local = h.local;
    pushed = h.pushed;
    fresh = [];
    bits = h.bits ∙ sym (append-nil g.bits);
    blocks = weaker_zipped Pairs (BlockStays g.bits g'.bits) block_stays g.blocks g'.blocks h.blocks;
  }

-- One graph.

-- the one family at a graph, everything elsewhere
abbrev chosen : Bool → Family → Family
chosen true family = family
chosen false family = everything

module _ (p : Program) (family : Family) (before after : Graph) (formed : IsProgram p) (known : Contains p.graphs before) (closed : IsClosed before family)
    (without : IsGraphWithout family before after) where
  abbrev change : Graph → Graph
  change g = if g.entry == after.entry then after else g

  abbrev families : ℕ → Family
  families entry = chosen (entry == after.entry) family

  is_before : (g : Graph) → Contains p.graphs g → (g.entry == after.entry) ≡ true → before ≡ g
  is_before g c e = one_graph p.graphs before g formed.entries known c (sym without.entry ∙ sym (eqb-true g.entry after.entry e))

  closed_everywhere : (g : Graph) → Contains p.graphs g → IsClosed g (families g.entry)
  closed_everywhere g c = go (g.entry == after.entry) refl
    where
      go : (b : Bool) → (g.entry == after.entry) ≡ b → IsClosed g (chosen b family)
      go true e = subst (λ x. IsClosed x family) (is_before g c e) closed
      go false e = record {
        used = λ block stmt rest l u. tt;
        made_of = λ block stmt rest l to w m f. tt;
        left = λ block stmt rest l n f. tt;
        tested = λ block l t. tt;
        goes = λ block next place l t s f. tt;
      }

  stays_all : (Has : List Stmt → Loc → Type 0) (stmts : List Stmt) → IsWithout Has stmts stmts
  stays_all Has [] = done
  stays_all Has (stmt ∷ stmts) = stays (stays_all Has stmts)

  blocks_all : (family : Family) (blocks : List Block) → AllZip (IsBlockWithout family) blocks blocks
  blocks_all family [] = tt
  blocks_all family (b ∷ blocks) = (record { at = refl; exit = refl; stmts = stays_all (family b) b.stmts }, blocks_all family blocks)

  without_everywhere : (g : Graph) → Contains p.graphs g → IsGraphWithout (families g.entry) g (change g)
  without_everywhere g c = go (g.entry == after.entry) refl
    where
      go : (b : Bool) → (g.entry == after.entry) ≡ b → IsGraphWithout (chosen b family) g (if b then after else g)
      go true e = subst (λ x. IsGraphWithout family x after) (is_before g c e) without
      go false e = record { entry = refl; params = refl; local = refl; pushed = refl; bits = refl; blocks = blocks_all everything g.blocks }

  stay : (g : Graph) → Contains p.graphs g → GraphStays g (change g)
  stay g c = form_stays (families g.entry) g (change g) (without_everywhere g c)

  fine : (g : Graph) → Contains p.graphs g → IsGraph (change g)
  fine g c = graph_still (families g.entry) g (change g) (without_everywhere g c) (All-contains IsGraph p.graphs g formed.graphs c)

  pub kept_with : IsKeptWith after p
  kept_with =
      let formed' = program_stays p change formed stay fine in
      record { formed = formed'; keeps = kept_where p change formed stay fine (runs_kept_without p change families formed closed_everywhere without_everywhere formed') }
