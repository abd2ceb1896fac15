use Rattle.std.proofs.Common.{◌≡◌, ◌+◌, ◌-◌, ◌<◌, ◌++◌, ◌∷◌, [], List, None, length, drop, map, OnOk, sym, ap, subst, ◌∙◌, append_assoc, arith}
use Rattle.std.proofs.lemmas.List.{map-append}
use Rattle.dcc_c.specs.declared.syntax.Line.{Line}
use Rattle.dcc_c.specs.Views.{stmt_of, lines_of, arms_of, arms_if}
use Rattle.dcc_c.proofs.RowLaws.{if-tree, while-tree, do_while-tree, forever-tree, switch-tree}
use Rattle.dcc_shape.specs.Spots.{Spot, block_spots, inner_spots, arm_spots}
use Rattle.dcc_shape.specs.Seen.{lent, seen, seen_in}
use Rattle.dcc_shape.proofs.SpotLaws.{listed, both, first_line, block-parts, arm-next, last-arm, kept}
use Rattle.dcc_shape.proofs.seen.+add.Goals as goal

pub add_lines-loop-line-preserved : goal.add_lines-loop-line-preserved
add_lines-loop-line-preserved t c = λ depth room.
    let lines = c.args.lines.now in
    let i = c.loop-line.line-index in
    let within : i < length lines = omega arith in
    let item = c.line-item.result in
    let loops = map lent c.args.loops.now in
    let label = lent c.loop-line.label in
    let stmt = stmt_of item.stmt in
    let rest = lines_of (drop (i + 1) lines) in
    let spot : Spot = record { stmt = stmt; label = label; loops = loops; depth = depth } in
    let inside = map seen (inner_spots loops depth label stmt) in
    let before = map seen_in c.loop-line.list.items in
    let parts = ap (λ l. map seen (block_spots loops depth label l)) (first_line lines i item within c.line-item.is) ∙ block-parts loops depth label stmt item.line rest in
    let pushed : map seen_in c.push.new.self.items ≡ before ++ seen spot ∷ [] =
    ap (map seen_in) c.in_ok-push.ensures.items
    ∙ map-append seen_in c.loop-line.list.items _
    ∙ ap (λ x. before ++ x ∷ []) (kept spot c.spares_own.result c.goes_round.result c.args.room c.spares_own.ensures c.goes_round.ensures room) in
    let all : map seen_in c.add_inner.new.list.items ≡ before ++ (seen spot ∷ inside) =
    c.in_ok-add_inner.ensures depth room ∙ ap (λ l. l ++ inside) pushed ∙ append_assoc before (seen spot ∷ []) inside in
    ap (λ l. map seen_in c.add_inner.new.list.items ++ map seen (block_spots loops depth l rest)) c.label_in-label.ensures
    ∙ listed _ _ _ _ _ _ all parts (c.loop-line.invariant depth room)

pub add_arms-loop-arm-preserved : goal.add_arms-loop-arm-preserved
add_arms-loop-arm-preserved t c = λ depth room.
    let arms = c.args.arms.now in
    let i = c.loop-arm.arm-index in
    let within : i < length arms = omega arith in
    let a = c.arm-item.result in
    let loops = map lent c.args.loops.now in
    let rest = arms_of (drop (i + 1) arms) in
    let parts =
    arm-next loops depth arms i a within c.arm-item.is
    ∙ ap (λ l. map seen (block_spots loops (depth + 1) None (lines_of l)) ++ map seen (arm_spots loops depth rest)) (sym c.deref.ensures.value) in
    listed _ _ _ _ _ _ (c.in_ok-add_lines.ensures (depth + 1) room) parts (c.loop-arm.invariant depth room)

pub add_loop-returns : goal.add_loop-returns
add_loop-returns t c = λ depth room.
    let old = map seen_in c.args.list.now.items in
    subst (λ l. OnOk c.add_lines.result (map seen_in c.add_lines.new.list.items ≡ old ++ map seen (block_spots l (depth + 1) None (lines_of c.args.body.now))))
    (ap (map lent) c.deref.ensures.value ∙ c.in_ok-inside.ensures)
    (c.add_lines.ensures (depth + 1) room)

pub add_default-returns-in-Some : goal.add_default-returns-in-Some
add_default-returns-in-Some t c = λ depth room.
    let old = map seen_in c.args.list.now.items in
    let loops = map lent c.args.loops.now in
    subst (λ l. OnOk c.add_lines.result (map seen_in c.add_lines.new.list.items ≡ old ++ l))
    (ap (λ l. map seen (block_spots loops (depth + 1) None (lines_of l))) c.deref.ensures.value
    ∙ sym (last-arm loops depth c.in-Some.arm)
    ∙ ap (λ a. map seen (arm_spots loops depth (arms_if a))) (sym c.in-Some.is))
    (c.add_lines.ensures (depth + 1) room)

pub add_inner-returns-in_ok-add_lines-in-If : goal.add_inner-returns-in_ok-add_lines-in-If
add_inner-returns-in_ok-add_lines-in-If t c = λ depth room.
    let less : c.saturating_sub-less.result ≡ 199 - (depth + 1) = omega (arith, c.saturating_sub-less.ensures, room) in
    let loops = map lent c.args.loops.now in
    let label = lent c.args.label in
    let block : List Line → List Spot = λ l. block_spots loops (depth + 1) None (lines_of l) in
    let first = block c.deref.result.now in
    let second = block c.deref-in-If.result.now in
    let tree =
    ap (λ s. map seen (inner_spots loops depth label (stmt_of s))) c.in-If.is
    ∙ ap (λ s. map seen (inner_spots loops depth label s)) (if-tree c.in-If.field-0 c.in-If.body c.in-If.otherwise)
    ∙ ap (λ l. map seen (block l ++ block c.in-If.otherwise.items)) (sym c.deref.ensures.value)
    ∙ ap (λ l. map seen (first ++ block l)) (sym c.deref-in-If.ensures.value)
    ∙ map-append seen first second in
    both c.add_lines-in-If.result _ _ _ _ _ _ (c.in_ok-add_lines-in-If.ensures (depth + 1) less) tree (c.add_lines-in-If.ensures (depth + 1) less)

pub add_inner-returns-in-While : goal.add_inner-returns-in-While
add_inner-returns-in-While t c = λ depth room.
    let less : c.saturating_sub-less.result ≡ 199 - (depth + 1) = omega (arith, c.saturating_sub-less.ensures, room) in
    let loops = map lent c.args.loops.now in
    let label = lent c.args.label in
    subst (λ l. OnOk c.add_loop.result (map seen_in c.add_loop.new.list.items ≡ map seen_in c.args.list.now.items ++ l))
    (ap (λ l. map seen (block_spots (label ∷ loops) (depth + 1) None (lines_of l))) c.deref-in-While.ensures.value
    ∙ ap (λ s. map seen (inner_spots loops depth label s)) (sym (while-tree c.in-While.field-0 c.in-While.body))
    ∙ ap (λ s. map seen (inner_spots loops depth label (stmt_of s))) (sym c.in-While.is))
    (c.add_loop.ensures depth less)

pub add_inner-returns-in-DoWhile : goal.add_inner-returns-in-DoWhile
add_inner-returns-in-DoWhile t c = λ depth room.
    let less : c.saturating_sub-less.result ≡ 199 - (depth + 1) = omega (arith, c.saturating_sub-less.ensures, room) in
    let loops = map lent c.args.loops.now in
    let label = lent c.args.label in
    subst (λ l. OnOk c.add_loop-in-DoWhile.result (map seen_in c.add_loop-in-DoWhile.new.list.items ≡ map seen_in c.args.list.now.items ++ l))
    (ap (λ l. map seen (block_spots (label ∷ loops) (depth + 1) None (lines_of l))) c.deref-in-DoWhile.ensures.value
    ∙ ap (λ s. map seen (inner_spots loops depth label s)) (sym (do_while-tree c.in-DoWhile.field-1 c.in-DoWhile.body))
    ∙ ap (λ s. map seen (inner_spots loops depth label (stmt_of s))) (sym c.in-DoWhile.is))
    (c.add_loop-in-DoWhile.ensures depth less)

pub add_inner-returns-in-Forever : goal.add_inner-returns-in-Forever
add_inner-returns-in-Forever t c = λ depth room.
    let less : c.saturating_sub-less.result ≡ 199 - (depth + 1) = omega (arith, c.saturating_sub-less.ensures, room) in
    let loops = map lent c.args.loops.now in
    let label = lent c.args.label in
    subst (λ l. OnOk c.add_loop-in-Forever.result (map seen_in c.add_loop-in-Forever.new.list.items ≡ map seen_in c.args.list.now.items ++ l))
    (ap (λ l. map seen (block_spots (label ∷ loops) (depth + 1) None (lines_of l))) c.deref-in-Forever.ensures.value
    ∙ ap (λ s. map seen (inner_spots loops depth label s)) (sym (forever-tree c.in-Forever.body))
    ∙ ap (λ s. map seen (inner_spots loops depth label (stmt_of s))) (sym c.in-Forever.is))
    (c.add_loop-in-Forever.ensures depth less)

pub add_inner-returns-in_ok-add_arms-in-Switch : goal.add_inner-returns-in_ok-add_arms-in-Switch
add_inner-returns-in_ok-add_arms-in-Switch t c = λ depth room.
    let less : c.saturating_sub-less.result ≡ 199 - (depth + 1) = omega (arith, c.saturating_sub-less.ensures, room) in
    let loops = map lent c.args.loops.now in
    let label = lent c.args.label in
    let first = arm_spots loops depth (arms_of c.deref-in-Switch.result.now) in
    let second = arm_spots loops depth (arms_if c.in-Switch.last) in
    let tree =
    ap (λ s. map seen (inner_spots loops depth label (stmt_of s))) c.in-Switch.is
    ∙ ap (λ s. map seen (inner_spots loops depth label s)) (switch-tree c.in-Switch.field-0 c.in-Switch.arms c.in-Switch.last)
    ∙ ap (λ l. map seen (arm_spots loops depth (arms_of l) ++ second)) (sym c.deref-in-Switch.ensures.value)
    ∙ map-append seen first second in
    both c.add_default.result _ _ _ _ _ _ (c.in_ok-add_arms-in-Switch.ensures depth less) tree (c.add_default.ensures depth less)
