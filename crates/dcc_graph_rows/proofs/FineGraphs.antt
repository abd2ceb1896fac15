-- Graphs whose addresses count up, without temporaries and params: they are well formed where their blocks are.
use Rattle.std.proofs.Common.{◌≡◌, ℕ, zero, suc, ◌+◌, ◌<◌, ◌≤◌, Bool, true, false, ◌&&◌, ◌||◌, not, [], List, ◌∷◌, ◌++◌, length, get_or, map, All, refl, sym, ap, ap₂, ◌∙◌, subst, true≢false, arith}
use Rattle.std.specs.Prelude.{◌==◌, if◌then◌else◌}
use Rattle.std.specs.List.{list_all, list_any, range_with_len}
use Rattle.std.proofs.lemmas.Bool.{and_from, ne_eqb, or_from}
use Rattle.std.proofs.lemmas.List.{length-map, map_push, get_or-map}
use Rattle.std.proofs.lemmas.List.FromFn.{length-range_with_len, get_or-range_with_len}
use Rattle.std.proofs.lemmas.List.Elements.{All-nil, All-push, All-from_get_or}
use Rattle.std.proofs.lemmas.List.Folds.{list_all-append, list_any-append}
use Rattle.dcc_ir.specs.declared.syntax.Block.{Block as BlockOf}
use Rattle.dcc_ir.specs.Tree.{Stmt, Exit, Stop, Block, Graph}
use Rattle.dcc_ir.specs.Views.{block_of}
use Rattle.dcc_ir.specs.Run.{is_call}
use Rattle.dcc_ir.specs.WellFormed.{is_stmt, is_exit, is_jump, is_block, is_width, is_put, jumps_after_call, all_differ, IsGraph}
use Rattle.dcc_flow.proofs.WorkLaws.{range_more}

-- Statements.

pub all_push : {A : Type 0} (f : A → Bool) (xs : List A) (x : A) → list_all f xs ≡ true → f x ≡ true → list_all f (xs ++ x ∷ []) ≡ true
all_push f xs x all here = list_all-append f xs (x ∷ []) ∙ and_from (list_all f xs) (f x && true) all (and_from (f x) true here refl)

pub none_push : {A : Type 0} (f : A → Bool) (xs : List A) (x : A) → list_any f xs ≡ false → f x ≡ false → list_any f (xs ++ x ∷ []) ≡ false
none_push f xs x none here = list_any-append f xs (x ∷ []) ∙ or_from (list_any f xs) (f x || false) none (or_from (f x) false here refl)

first_none : (a b : Bool) → (a || b) ≡ false → (a ≡ false) × (b ≡ false)
first_none true b e = absurd (true≢false e)
first_none false b e = (refl, e)

pub jumps_none : (stmts : List Stmt) (exit : Exit) → list_any is_call stmts ≡ false → jumps_after_call stmts exit ≡ true
jumps_none [] exit none = refl
jumps_none (stmt ∷ stmts) exit none =
    let parts = first_none (is_call stmt) (list_any is_call stmts) none in
    ap (λ b. if b then not (list_any is_call stmts) && is_jump exit else jumps_after_call stmts exit) parts.0 ∙ jumps_none stmts exit parts.1

pub jumps_call : (stmts : List Stmt) (last : Stmt) (exit : Exit) → list_any is_call stmts ≡ false → is_jump exit ≡ true → jumps_after_call (stmts ++ last ∷ []) exit ≡ true
jumps_call [] last exit none jump = go (is_call last)
  where
    go : (b : Bool) → (if b then not false && is_jump exit else true) ≡ true
    go true = jump
    go false = refl
jumps_call (stmt ∷ stmts) last exit none jump =
    let parts = first_none (is_call stmt) (list_any is_call stmts) none in
    ap (λ b. if b then not (list_any is_call (stmts ++ last ∷ [])) && is_jump exit else jumps_after_call (stmts ++ last ∷ []) exit) parts.0 ∙ jumps_call stmts last exit parts.1 jump

-- Addresses that count up.

above : (a n m : ℕ) → m < a → list_any (λ k. m == k) (range_with_len a n) ≡ false
above a zero m h = refl
above a (suc n) m h =
    or_from (m == a) (list_any (λ k. m == k) (range_with_len (a + 1) n)) (ne_eqb m a (omega arith)) (above (a + 1) n m (omega arith))

range_differs : (a n : ℕ) → all_differ (range_with_len a n) ≡ true
range_differs a zero = refl
range_differs a (suc n) = and_from (not (list_any (λ k. a == k) (range_with_len (a + 1) n))) (all_differ (range_with_len (a + 1) n)) (ap not (above (a + 1) n a (omega arith))) (range_differs (a + 1) n)

-- Graphs.

-- the first blocks of a graph of so many
pub record AreFine (count n : ℕ) (blocks : List Block) : Type 0 where
  pub addresses : map (λ b. b.at) blocks ≡ range_with_len 0 n
  pub jumps : All (λ b. jumps_after_call b.stmts b.exit ≡ true) blocks
  pub bodies : list_all (is_block [] count) blocks ≡ true

pub fine_none : (count : ℕ) → AreFine count 0 []
fine_none count = record { addresses = refl; jumps = All-nil (λ (b : Block). jumps_after_call b.stmts b.exit ≡ true); bodies = refl }

-- one block more
pub fine_more : (count n : ℕ) (blocks : List BlockOf) (block : BlockOf) → AreFine count n (map block_of blocks) → block.at ≡ n → jumps_after_call (block_of block).stmts (block_of block).exit ≡ true →
    is_block [] count (block_of block) ≡ true → AreFine count (n + 1) (map block_of (blocks ++ block ∷ []))
fine_more count n blocks block are at jump body =
    let last : block.at ≡ 0 + n = omega (arith, at) in
    let more : suc n ≡ n + 1 = omega arith in
    subst (AreFine count (n + 1)) (sym (map_push block_of blocks block)) (record {
      addresses = map_push (λ (b : Block). b.at) (map block_of blocks) (block_of block) ∙ ap (λ l. l ++ block.at ∷ []) are.addresses
          ∙ ap (λ a. range_with_len 0 n ++ a ∷ []) last ∙ range_more 0 n ∙ ap (range_with_len 0) more;
      jumps = All-push (λ (b : Block). jumps_after_call b.stmts b.exit ≡ true) (map block_of blocks) (block_of block) are.jumps jump;
      bodies = all_push (is_block [] count) (map block_of blocks) (block_of block) are.bodies body;
    })

pub fine_graph : (graph : Graph) (count n : ℕ) → AreFine count n graph.blocks → n ≡ count → 0 < count → count ≤ 65536
    → graph.entry < 65536 → graph.params ≡ [] → graph.bits ≡ [] → IsGraph graph
fine_graph graph count n are all begins few entry params bits =
    let addresses = sym (length-map graph.blocks (λ b. b.at)) ∙ ap length are.addresses ∙ length-range_with_len 0 n in
    let size : length graph.blocks ≡ count = addresses ∙ all in
    record {
      begins = omega (arith, size);
      entry = entry;
      offsets = All-from_get_or (λ (b : Block). b.at < 65536) graph.blocks none (λ i inside.
          let below : i < n = omega (arith, size) in
          let at = sym (get_or-map (λ (b : Block). b.at) graph.blocks i none 0 inside) ∙ ap (λ l. get_or l i 0) are.addresses
          ∙ get_or-range_with_len 0 n i 0 below in
          omega (arith, at, below));
      jumps = are.jumps;
      addresses = ap all_differ are.addresses ∙ range_differs 0 n;
      bits = ap (list_all is_width) bits;
      params = ap (list_all (λ p. is_put graph.bits p.put)) params;
      blocks = ap (λ widths. list_all (is_block widths (length graph.blocks)) graph.blocks) bits
          ∙ ap (λ k. list_all (is_block [] k) graph.blocks) size ∙ are.bodies;
    }
  where
    none : Block
    none = record { at = 0; stmts = []; exit = Stop }
