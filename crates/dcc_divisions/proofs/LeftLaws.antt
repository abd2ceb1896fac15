-- What is left of a graph without divisions that may go is well formed, stays in kind, and is plainer.
use Rattle.std.proofs.Common.{◌≡◌, ℕ, ◌+◌, ◌≤◌, Bool, true, ◌&&◌, ◌||◌, not, List, [], ◌∷◌, ◌++◌, length, map, flat_map, refl, sym, ap, ap₂, ◌∙◌, subst, arith}
use Rattle.std.specs.Prelude.{All, ◌<◌, ◌==◌, if◌then◌else◌}
use Rattle.std.specs.List.{AllZip, list_all, list_any}
use Rattle.std.proofs.lemmas.Bool.{and_parts, and_from}
use Rattle.std.proofs.lemmas.List.Elements.{All-nil, All-cons, All-head, All-tail, All-append}
use Rattle.dcc_run.proofs.KeptLaws.{right_part}
use Rattle.dcc_ir.specs.declared.syntax.Loc.{Loc}
use Rattle.dcc_ir.specs.Flow.{targets}
use Rattle.dcc_ir.specs.Measure.{depth_of, deepest}
use Rattle.dcc_ir.specs.Run.{is_call}
use Rattle.dcc_ir.specs.Tree.{Expr, Stmt, Div, Exit, Block, Graph}
use Rattle.dcc_ir.specs.Use.{addresses_of, exprs_of, exit_exprs, block_exprs, graph_exprs}
use Rattle.dcc_ir.specs.WellFormed.{is_stmt, is_width, is_exit, is_block, is_jump, jumps_after_call, ret_widths, all_differ, is_put, IsGraph}
use Rattle.dcc_ir.proofs.ListLaws.{left_part}
use Rattle.dcc_ir.proofs.ZipLaws.{map_zipped, all_zipped, passes_zipped, weaker_zipped}
use Rattle.dcc_passes.specs.Kinds.{param_kind, call_kinds, BlockStaysInKind, StaysInKind}
use Rattle.dcc_passes.specs.Tidied.{takes_apart, IsTidied}
use Rattle.dcc_divisions.specs.Divisions.{AreLeft, done, stays, goes, IsBlockLeft, IsWithoutDivisions}
use Rattle.dcc_divisions.proofs.StandLaws.{divisions-stand}

-- Statements.

stmts-formed : {Has : List Stmt → Loc → Type 0} (bits : List ℕ) {passed stmts left : List Stmt} → AreLeft Has passed stmts left
    → list_all (is_stmt bits) stmts ≡ true → list_all (is_stmt bits) left ≡ true
stmts-formed bits done all = all
stmts-formed bits (stays {stmt = stmt} {rest = rest} {left = left} others) all =
    let parts = and_parts (is_stmt bits stmt) (list_all (is_stmt bits) rest) all in
    and_from (is_stmt bits stmt) (list_all (is_stmt bits) left) parts.0 (stmts-formed bits others parts.1)
stmts-formed bits (goes {location = l} {e = e} {rest = rest} dead beside others) all =
    stmts-formed bits others (and_parts (is_stmt bits (Div l e)) (list_all (is_stmt bits) rest) all).1

calls-left : {Has : List Stmt → Loc → Type 0} {passed stmts left : List Stmt} → AreLeft Has passed stmts left → list_any is_call left ≡ list_any is_call stmts
calls-left done = refl
calls-left (stays {stmt = stmt} others) = ap (λ b. is_call stmt || b) (calls-left others)
calls-left (goes dead beside others) = calls-left others

jumps-left : {Has : List Stmt → Loc → Type 0} (exit : Exit) {passed stmts left : List Stmt} → AreLeft Has passed stmts left
    → jumps_after_call left exit ≡ jumps_after_call stmts exit
jumps-left exit done = refl
jumps-left exit (stays {stmt = stmt} others) =
    ap₂ (λ b c. if is_call stmt then not b && is_jump exit else c) (calls-left others) (jumps-left exit others)
jumps-left exit (goes dead beside others) = jumps-left exit others

kinds-left : {Has : List Stmt → Loc → Type 0} (bits : List ℕ) {passed stmts left : List Stmt} → AreLeft Has passed stmts left
    → flat_map (call_kinds bits) left ≡ flat_map (call_kinds bits) stmts
kinds-left bits done = refl
kinds-left bits (stays {stmt = stmt} others) = ap (λ ks. call_kinds bits stmt ++ ks) (kinds-left bits others)
kinds-left bits (goes dead beside others) = kinds-left bits others

exprs-left : {Has : List Stmt → Loc → Type 0} (Q : Expr → Type 0) {passed stmts left : List Stmt} → AreLeft Has passed stmts left
    → All Q (flat_map exprs_of stmts) → All Q (flat_map exprs_of left)
exprs-left Q done all = all
exprs-left Q (stays {stmt = stmt} {rest = rest} {left = left} others) all =
    All-append Q (exprs_of stmt) (flat_map exprs_of left) (left_part Q (exprs_of stmt) (flat_map exprs_of rest) all)
    (exprs-left Q others (right_part Q (exprs_of stmt) (flat_map exprs_of rest) all))
exprs-left Q (goes {location = l} {e = e} {rest = rest} dead beside others) all =
    exprs-left Q others (right_part Q (e ∷ []) (flat_map exprs_of rest) all)

-- Lists.

length-zipped : {A B : Type 0} (R : A → B → Type 0) (xs : List A) (ys : List B) → AllZip R xs ys → length ys ≡ length xs
length-zipped R [] [] all = refl
length-zipped R [] (y ∷ ys) all = absurd all
length-zipped R (x ∷ xs) [] all = absurd all
length-zipped R (x ∷ xs) (y ∷ ys) all = let later = length-zipped R xs ys all.1 in omega (arith, later)

module _ (f : Expr → Bool) where
  from-list : (es : List Expr) → list_all f es ≡ true → All (λ e. f e ≡ true) es
  from-list [] is = All-nil (λ e. f e ≡ true)
  from-list (e ∷ es) is =
      let parts = and_parts (f e) (list_all f es) is in
      All-cons (λ e. f e ≡ true) e es parts.0 (from-list es parts.1)

  to-list : (es : List Expr) → All (λ e. f e ≡ true) es → list_all f es ≡ true
  to-list [] all = refl
  to-list (e ∷ es) all =
      and_from (f e) (list_all f es) (All-head (λ e. f e ≡ true) e es all) (to-list es (All-tail (λ e. f e ≡ true) e es all))

deepest-of : (n : ℕ) (es : List Expr) → All (λ e. depth_of e ≤ n) es → deepest es ≤ n
deepest-of n [] all = omega arith
deepest-of n (e ∷ es) all =
    let here = All-head (λ x. depth_of x ≤ n) e es all in
    let later = deepest-of n es (All-tail (λ x. depth_of x ≤ n) e es all) in
    omega (arith, here, later)

none-deeper : (n : ℕ) (es : List Expr) → deepest es ≤ n → All (λ e. depth_of e ≤ n) es
none-deeper n [] less = All-nil (λ e. depth_of e ≤ n)
none-deeper n (e ∷ es) less =
    All-cons (λ x. depth_of x ≤ n) e es (omega (arith, less)) (none-deeper n es (omega (arith, less)))

-- Graphs.

module _ (before after : Graph) (is : IsWithoutDivisions before after) where
  abbrev Pair : Block → Block → Type 0
  Pair = IsBlockLeft before

  block-formed : (bits : List ℕ) (count : ℕ) (b c : Block) → Pair b c → is_block bits count b ≡ true → is_block bits count c ≡ true
  block-formed bits count b c pair formed =
      let parts = and_parts (list_all (is_stmt bits) b.stmts) (is_exit bits count b.exit) formed in
      and_from (list_all (is_stmt bits) c.stmts) (is_exit bits count c.exit) (stmts-formed bits pair.stmts parts.0)
      (ap (is_exit bits count) pair.exit ∙ parts.1)

  left-formed : IsGraph before → IsGraph after
  left-formed fine =
      let count = length-zipped Pair before.blocks after.blocks is.blocks in
      let bits = ap (λ (g : Graph). g.bits) is.frame in
      record {
        begins = subst (λ n. 0 < n) (sym count) fine.begins;
        entry = subst (λ n. n < 65536) (sym (ap (λ (g : Graph). g.entry) is.frame)) fine.entry;
        offsets = all_zipped Pair (λ b. b.at < 65536) (λ b. b.at < 65536) (λ b c pair less. subst (λ n. n < 65536) (sym pair.at) less)
            before.blocks after.blocks is.blocks fine.offsets;
        jumps = all_zipped Pair (λ b. jumps_after_call b.stmts b.exit ≡ true) (λ b. jumps_after_call b.stmts b.exit ≡ true)
            (λ b c pair ok. ap (jumps_after_call c.stmts) pair.exit ∙ jumps-left b.exit pair.stmts ∙ ok) before.blocks after.blocks is.blocks fine.jumps;
        addresses = ap all_differ (map_zipped Pair (λ (b : Block). b.at) (λ (b : Block). b.at) (λ b c pair. pair.at) before.blocks after.blocks is.blocks) ∙ fine.addresses;
        bits = ap (list_all is_width) bits ∙ fine.bits;
        params = ap (λ (g : Graph). list_all (λ p. is_put g.bits p.put) g.params) is.frame ∙ fine.params;
        blocks = ap₂ (λ bits n. list_all (is_block bits n) after.blocks) bits count
            ∙ passes_zipped Pair (is_block before.bits (length before.blocks)) (is_block before.bits (length before.blocks))
            (block-formed before.bits (length before.blocks)) before.blocks after.blocks is.blocks fine.blocks;
      }

  block-kind : (b c : Block) → Pair b c → BlockStaysInKind before.bits before.bits b c
  block-kind b c pair = record {
    at = pair.at;
    targets_are = ap targets pair.exit;
    jumps = ap is_jump pair.exit;
    given = ap (ret_widths before.bits) pair.exit;
    calls = kinds-left before.bits pair.stmts;
  }

  left-kind : StaysInKind before after
  left-kind = record {
    entry = ap (λ (g : Graph). g.entry) is.frame;
    params = ap (λ (g : Graph). map (param_kind g.bits) g.params) is.frame;
    local = ap (λ (g : Graph). g.local) is.frame;
    pushed = ap (λ (g : Graph). g.pushed) is.frame;
    blocks = subst (λ bits. AllZip (BlockStaysInKind before.bits bits) before.blocks after.blocks) (sym (ap (λ (g : Graph). g.bits) is.frame))
        (weaker_zipped Pair (BlockStaysInKind before.bits before.bits) block-kind before.blocks after.blocks is.blocks);
  }

  -- each expression is one of the graph's
  blocks-left : (Q : Expr → Type 0) (bs cs : List Block) → AllZip Pair bs cs → All Q (flat_map block_exprs bs) → All Q (flat_map block_exprs cs)
  blocks-left Q [] [] pairs all = all
  blocks-left Q [] (c ∷ cs) pairs all = absurd pairs
  blocks-left Q (b ∷ bs) [] pairs all = absurd pairs
  blocks-left Q (b ∷ bs) (c ∷ cs) pairs all =
      let here = left_part Q (block_exprs b) (flat_map block_exprs bs) all in
      All-append Q (block_exprs c) (flat_map block_exprs cs)
      (All-append Q (flat_map exprs_of c.stmts) (exit_exprs c.exit)
      (exprs-left Q pairs.0.stmts (left_part Q (flat_map exprs_of b.stmts) (exit_exprs b.exit) here))
      (subst (λ exit. All Q (exit_exprs exit)) (sym pairs.0.exit) (right_part Q (flat_map exprs_of b.stmts) (exit_exprs b.exit) here)))
      (blocks-left Q bs cs pairs.1 (right_part Q (block_exprs b) (flat_map block_exprs bs) all))

  pub left-tidied : IsGraph before → IsTidied before after
  left-tidied fine = record {
    formed = left-formed fine;
    stands = divisions-stand before after is fine left-kind (left-formed fine);
    kind = left-kind;
    addresses = λ test passes.
        to-list (λ e. list_all test (addresses_of e)) (graph_exprs after)
        (blocks-left (λ e. list_all test (addresses_of e) ≡ true) before.blocks after.blocks is.blocks
        (from-list (λ e. list_all test (addresses_of e)) (graph_exprs before) passes));
    apart = λ differ. ap takes_apart is.frame ∙ differ;
  }

  pub left-depth : deepest (graph_exprs after) ≤ deepest (graph_exprs before)
  left-depth =
      let most = deepest (graph_exprs before) in
      deepest-of most (graph_exprs after)
      (blocks-left (λ e. depth_of e ≤ most) before.blocks after.blocks is.blocks (none-deeper most (graph_exprs before) (omega arith)))
