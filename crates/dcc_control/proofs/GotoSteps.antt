-- The plan of a text with jumps, one item or block after the other.
use Rattle.std.proofs.Common.{◌≡◌, ℕ, suc, ◌+◌, ◌<◌, List, [], Vec, Global, map, drop, get_or, length, sym, ap, ◌∙◌, arith}
use Rattle.std.proofs.lemmas.List.{at_drop_more, get_or-map, length-map}
use Rattle.dcc_ir.specs.declared.syntax.Loc.TheVariants.{Temp}
use Rattle.dcc_ir.specs.Tree as inner
use Rattle.dcc_control.specs.GotoPlan.{do_all, goto_exit, goto_blocks, target_arms, places_from, jump}
use Rattle.dcc_control.specs.Plan.{Do, Mark, Plan, item, arm}

-- the statements that are left, one further on
pub do-step : (b m : ℕ) (stmts : List inner.Stmt) (plan : Plan) → m < length stmts →
    do_all b m (drop m stmts) plan ≡ item (Do b m) (do_all b (m + 1) (drop (m + 1) stmts) plan)
do-step b m stmts plan within =
    let next : suc m ≡ m + 1 = omega arith in
    at_drop_more (λ left. do_all b m left plan) stmts m (inner.Set (Temp 0) (inner.Const 0 0)) within
    ∙ ap (λ k. item (Do b m) (do_all b k (drop (m + 1) stmts) plan)) next

-- the blocks that are left, one further on
pub blocks-step : (k : ℕ) (blocks : List inner.Block) (block : inner.Block) → k < length blocks → block ≡ get_or blocks k block →
    goto_blocks k (drop k blocks) ≡ item (Mark k) (do_all k 0 block.stmts (goto_exit k block.exit (goto_blocks (k + 1) (drop (k + 1) blocks))))
blocks-step k blocks block within is =
    let next : suc k ≡ k + 1 = omega arith in
    let left : List inner.Block = drop (k + 1) blocks in
    at_drop_more (goto_blocks k) blocks k block within
    ∙ ap (λ b. item (Mark k) (do_all k 0 b.stmts (goto_exit k b.exit (goto_blocks (suc k) left)))) (sym is)
    ∙ ap (λ n. item (Mark k) (do_all k 0 block.stmts (goto_exit k block.exit (goto_blocks n left)))) next

-- the targets that are left, one further on
pub targets-step : (places : List ℕ) (k : ℕ) (targets : List ℕ) → k < length targets →
    target_arms places (drop k targets)
    ≡ arm (places_from 0 (get_or targets k 0) places) (jump (get_or targets k 0)) (target_arms places (drop (k + 1) targets))
targets-step places k targets within = at_drop_more (target_arms places) targets k 0 within

-- the cases of a target, as the lists hold them
pub cases-read : (lists : List (Vec ℕ Global)) (list : Vec ℕ Global) (targets places : List ℕ) (i : ℕ)
    → map (λ l. l.items) lists ≡ map (λ t. places_from 0 t places) targets → i < length targets
    → list ≡ get_or lists i list → list.items ≡ places_from 0 (get_or targets i 0) places
cases-read lists list targets places i held within read =
    let count : length lists ≡ length targets =
    sym (length-map lists (λ l. l.items)) ∙ ap length held ∙ length-map targets (λ t. places_from 0 t places) in
    ap (λ l. l.items) read
    ∙ sym (get_or-map (λ l. l.items) lists i list [] (omega arith))
    ∙ ap (λ l. get_or l i []) held
    ∙ get_or-map (λ t. places_from 0 t places) targets i 0 [] within
