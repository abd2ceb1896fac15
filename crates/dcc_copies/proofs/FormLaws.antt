-- A graph with right names for its locations is well formed and stays in kind.
use Rattle.std.proofs.Common.{◌≡◌, ℕ, ◌<◌, Bool, true, false, ◌&&◌, ◌||◌, not, List, [], ◌∷◌, ◌++◌, length, map, flat_map, refl, sym, ap, ap₂, ◌∙◌, subst, arith}
use Rattle.std.specs.Prelude.{if◌then◌else◌, All}
use Rattle.std.specs.List.{AllZip, list_all, list_any}
use Rattle.std.proofs.lemmas.Bool.{and_parts, and_from}
use Rattle.std.proofs.lemmas.List.{length-map}
use Rattle.std.proofs.lemmas.List.Elements.{All-nil, All-cons, All-head, All-tail}
use Rattle.dcc_ir.specs.declared.syntax.Loc.{Loc}
use Rattle.dcc_ir.specs.Tree.{Expr, Get, Stmt, Set, Fetch, Store, Div, Call, Dos, Exit, Goto, If, Switch, Ret, Stop, Block, Graph}
use Rattle.dcc_ir.specs.Location.{location_width}
use Rattle.dcc_ir.specs.Use.{reads_of, exprs_of, writes_of, exit_exprs}
use Rattle.dcc_ir.specs.Run.{is_call}
use Rattle.dcc_ir.specs.WellFormed.{is_location, is_stmt, is_exit, is_block, is_jump, jumps_after_call, all_differ, ret_widths, IsGraph}
use Rattle.dcc_ir.proofs.ListLaws.{all_had}
use Rattle.dcc_passes.specs.Kinds.{call_kinds, BlockStaysInKind, StaysInKind}
use Rattle.dcc_passes.specs.Renaming.{renamed, renamed_stmt, renamed_exit}
use Rattle.dcc_passes.proofs.RenamingLaws.{widths-renamed, targets-renamed, jumps-renamed}
use Rattle.dcc_webs.proofs.FormedLaws.{IsWide, IsPlaced, stmt_same, exit_same}
use Rattle.dcc_copies.specs.Held.{is_own_copy}
use Rattle.dcc_copies.specs.Settled.{settled_stmts, settled_block, settled, IsRight}

-- Statements.

pub renamed-call : (name : Loc → Loc) (stmt : Stmt) → is_call (renamed_stmt name name stmt) ≡ is_call stmt
renamed-call name (Set x e) = refl
renamed-call name (Fetch x width a) = refl
renamed-call name (Store width a e) = refl
renamed-call name (Div x e) = refl
renamed-call name (Call results entry arguments depth) = refl
renamed-call name (Dos number place argument) = refl

-- a copy of a location to its own name is a Set
pub own-no-call : (name : Loc → Loc) (stmt : Stmt) → is_own_copy name stmt ≡ true → is_call stmt ≡ false
own-no-call name (Set x e) own = refl
own-no-call name (Fetch x width a) own = refl
own-no-call name (Store width a e) own = refl
own-no-call name (Div x e) own = refl
own-no-call name (Call results entry arguments depth) own = sym own
own-no-call name (Dos number place argument) own = refl

own-no-kind : (name : Loc → Loc) (bits : List ℕ) (stmt : Stmt) → is_own_copy name stmt ≡ true → call_kinds bits stmt ≡ []
own-no-kind name bits (Set x e) own = refl
own-no-kind name bits (Fetch x width a) own = refl
own-no-kind name bits (Store width a e) own = refl
own-no-kind name bits (Div x e) own = refl
own-no-kind name bits (Call results entry arguments depth) own = absurd (cc)
own-no-kind name bits (Dos number place argument) own = refl

module _ (name : Loc → Loc) where
  -- what is told of settled statements, by what it tells of a renamed one and of one that goes
  pub settled-calls : (stmts : List Stmt) → list_any is_call (settled_stmts name stmts) ≡ list_any is_call stmts
  settled-calls [] = refl
  settled-calls (stmt ∷ rest) = by (is_own_copy name stmt) refl (settled-calls rest)
    where
      by : (b : Bool) → is_own_copy name stmt ≡ b
          → list_any is_call (settled_stmts name rest) ≡ list_any is_call rest
          → list_any is_call (if b then settled_stmts name rest else renamed_stmt name name stmt ∷ settled_stmts name rest)
          ≡ (is_call stmt || list_any is_call rest)
      by true own later = later ∙ sym (ap (λ b. b || list_any is_call rest) (own-no-call name stmt own))
      by false other later = ap₂ (λ b c. b || c) (renamed-call name stmt) later

  settled-jumps : (stmts : List Stmt) (exit : Exit)
      → jumps_after_call (settled_stmts name stmts) (renamed_exit name exit) ≡ jumps_after_call stmts exit
  settled-jumps [] exit = refl
  settled-jumps (stmt ∷ rest) exit = by (is_own_copy name stmt) refl (settled-jumps rest exit)
    where
      by : (b : Bool) → is_own_copy name stmt ≡ b
          → jumps_after_call (settled_stmts name rest) (renamed_exit name exit) ≡ jumps_after_call rest exit
          → jumps_after_call (if b then settled_stmts name rest else renamed_stmt name name stmt ∷ settled_stmts name rest)
          (renamed_exit name exit) ≡ jumps_after_call (stmt ∷ rest) exit
      by true own later =
          later
          ∙ sym (ap (λ b. if b then not (list_any is_call rest) && is_jump exit else jumps_after_call rest exit)
          (own-no-call name stmt own))
      by false other later =
          ap₂ (λ b c. if b then not (list_any is_call (settled_stmts name rest)) && is_jump (renamed_exit name exit) else c)
          (renamed-call name stmt) later
          ∙ ap₂ (λ c j. if is_call stmt then not c && j else jumps_after_call rest exit) (settled-calls rest)
          (jumps-renamed name exit)

module _ (name : Loc → Loc) (bits : List ℕ) (wide : (l : Loc) → location_width bits (name l) ≡ location_width bits l)
    (placed : (l : Loc) → is_location bits (name l) ≡ is_location bits l) where
  all-wide : (ls : List Loc) → All (IsWide bits bits name) ls
  all-wide ls = all_had (IsWide bits bits name) ls (λ l c. wide l)

  all-placed : (ls : List Loc) → All (IsPlaced bits bits name) ls
  all-placed ls = all_had (IsPlaced bits bits name) ls (λ l c. placed l)

  renamed-formed : (stmt : Stmt) → is_stmt bits (renamed_stmt name name stmt) ≡ is_stmt bits stmt
  renamed-formed stmt =
      let reads = flat_map reads_of (exprs_of stmt) in
      stmt_same bits bits name name stmt (all-wide reads) (all-placed reads) (all-wide (writes_of stmt))
      (all-placed (writes_of stmt))

  stmts-formed : (stmts : List Stmt) → list_all (is_stmt bits) stmts ≡ true
      → list_all (is_stmt bits) (settled_stmts name stmts) ≡ true
  stmts-formed [] formed = refl
  stmts-formed (stmt ∷ rest) formed =
      let parts = and_parts (is_stmt bits stmt) (list_all (is_stmt bits) rest) formed in
      by (is_own_copy name stmt) parts.0 (stmts-formed rest parts.1)
    where
      by : (b : Bool) → is_stmt bits stmt ≡ true → list_all (is_stmt bits) (settled_stmts name rest) ≡ true
          → list_all (is_stmt bits) (if b then settled_stmts name rest else renamed_stmt name name stmt ∷ settled_stmts name rest)
          ≡ true
      by true here later = later
      by false here later =
          and_from (is_stmt bits (renamed_stmt name name stmt)) (list_all (is_stmt bits) (settled_stmts name rest))
          (renamed-formed stmt ∙ here) later

  blocks-formed : (count : ℕ) (blocks : List Block) → list_all (is_block bits count) blocks ≡ true
      → list_all (is_block bits count) (map (settled_block name) blocks) ≡ true
  blocks-formed count [] formed = refl
  blocks-formed count (b ∷ blocks) formed =
      let p = and_parts (is_block bits count b) (list_all (is_block bits count) blocks) formed in
      let q = and_parts (list_all (is_stmt bits) b.stmts) (is_exit bits count b.exit) p.0 in
      let reads = flat_map reads_of (exit_exprs b.exit) in
      and_from (is_block bits count (settled_block name b)) (list_all (is_block bits count) (map (settled_block name) blocks))
      (and_from (list_all (is_stmt bits) (settled_stmts name b.stmts)) (is_exit bits count (renamed_exit name b.exit))
      (stmts-formed b.stmts q.0) (exit_same bits bits name count b.exit (all-wide reads) (all-placed reads) ∙ q.1))
      (blocks-formed count blocks p.1)

  -- Kinds.

  results-wide : (results : List Loc)
      → map (location_width bits) (map name results) ≡ map (location_width bits) results
  results-wide [] = refl
  results-wide (x ∷ results) = ap₂ (λ n ns. n ∷ ns) (wide x) (results-wide results)

  renamed-kinds : (stmt : Stmt) → call_kinds bits (renamed_stmt name name stmt) ≡ call_kinds bits stmt
  renamed-kinds (Set x e) = refl
  renamed-kinds (Fetch x width a) = refl
  renamed-kinds (Store width a e) = refl
  renamed-kinds (Div x e) = refl
  renamed-kinds (Call results entry arguments depth) =
      ap₂ (λ rs xs. record { results = rs; entry = entry; arguments = xs; depth = depth } ∷ []) (results-wide results)
      (widths-renamed bits bits name arguments (all-wide (flat_map reads_of arguments)))
  renamed-kinds (Dos number place argument) = refl

  stmts-kinds : (stmts : List Stmt)
      → flat_map (call_kinds bits) (settled_stmts name stmts) ≡ flat_map (call_kinds bits) stmts
  stmts-kinds [] = refl
  stmts-kinds (stmt ∷ rest) = by (is_own_copy name stmt) refl (stmts-kinds rest)
    where
      by : (b : Bool) → is_own_copy name stmt ≡ b
          → flat_map (call_kinds bits) (settled_stmts name rest) ≡ flat_map (call_kinds bits) rest
          → flat_map (call_kinds bits) (if b then settled_stmts name rest else renamed_stmt name name stmt ∷ settled_stmts name rest)
          ≡ call_kinds bits stmt ++ flat_map (call_kinds bits) rest
      by true own later =
          later ∙ ap (λ ks. ks ++ flat_map (call_kinds bits) rest) (sym (own-no-kind name bits stmt own))
      by false other later = ap₂ (λ xs ys. xs ++ ys) (renamed-kinds stmt) later

  rets-same : (exit : Exit) → ret_widths bits (renamed_exit name exit) ≡ ret_widths bits exit
  rets-same (Goto place) = refl
  rets-same (If test one other) = refl
  rets-same (Switch e places) = refl
  rets-same (Ret values) =
      ap (λ ns. ns ∷ []) (widths-renamed bits bits name values (all-wide (flat_map reads_of values)))
  rets-same Stop = refl

  blocks-kinds : (blocks : List Block) → AllZip (BlockStaysInKind bits bits) blocks (map (settled_block name) blocks)
  blocks-kinds [] = tt
  blocks-kinds (b ∷ blocks) = (
    record {
      at = refl;
      targets_are = targets-renamed name b.exit;
      jumps = jumps-renamed name b.exit;
      given = rets-same b.exit;
      calls = stmts-kinds b.stmts;
    },
    blocks-kinds blocks,
  )

-- Blocks.

module _ (name : Loc → Loc) where
  offsets-stay : (blocks : List Block) → All (λ b. b.at < 65536) blocks
      → All (λ b. b.at < 65536) (map (settled_block name) blocks)
  offsets-stay [] all = All-nil (λ (b : Block). b.at < 65536)
  offsets-stay (b ∷ blocks) all =
      All-cons (λ (b : Block). b.at < 65536) (settled_block name b) (map (settled_block name) blocks)
      (All-head (λ (b : Block). b.at < 65536) b blocks all)
      (offsets-stay blocks (All-tail (λ (b : Block). b.at < 65536) b blocks all))

  abbrev Jumps : Block → Type 0
  Jumps b = jumps_after_call b.stmts b.exit ≡ true

  all-jump : (blocks : List Block) → All Jumps blocks → All Jumps (map (settled_block name) blocks)
  all-jump [] all = All-nil Jumps
  all-jump (b ∷ blocks) all =
      All-cons Jumps (settled_block name b) (map (settled_block name) blocks)
      (settled-jumps name b.stmts b.exit ∙ All-head Jumps b blocks all) (all-jump blocks (All-tail Jumps b blocks all))

  addresses-stay : (blocks : List Block) → map (λ b. b.at) (map (settled_block name) blocks) ≡ map (λ b. b.at) blocks
  addresses-stay [] = refl
  addresses-stay (b ∷ blocks) = ap (λ ns. b.at ∷ ns) (addresses-stay blocks)

-- Graphs.

pub settled-formed : (g : Graph) (name : Loc → Loc) → IsGraph g → IsRight name g → IsGraph (settled name g)
settled-formed g name formed right =
    let count : length (map (settled_block name) g.blocks) ≡ length g.blocks = length-map g.blocks (settled_block name) in
    record {
      begins = omega (arith, count, formed.begins);
      entry = formed.entry;
      offsets = offsets-stay name g.blocks formed.offsets;
      jumps = all-jump name g.blocks formed.jumps;
      addresses = ap all_differ (addresses-stay name g.blocks) ∙ formed.addresses;
      bits = formed.bits;
      params = formed.params;
      blocks =
          subst (λ n. list_all (is_block g.bits n) (map (settled_block name) g.blocks) ≡ true) (sym count)
          (blocks-formed name g.bits right.widths right.places (length g.blocks) g.blocks formed.blocks);
    }

pub settled-kind : (g : Graph) (name : Loc → Loc) → IsRight name g → StaysInKind g (settled name g)
settled-kind g name right = record {
  entry = refl;
  params = refl;
  local = refl;
  pushed = refl;
  blocks = blocks-kinds name g.bits right.widths right.places g.blocks;
}
