-- A statement without blocks that has been read is complete.
use Rattle.std.proofs.Common.{◌≡◌, ℕ, zero, suc, ◌≤◌, length, List, [], ◌∷◌, drop, true, false, Option, Some, None, refl, ap, arith}
use Rattle.std.specs.Prelude.{codes, not, is_some, if◌then◌else◌}
use Rattle.std.specs.List.{list_all}
use Rattle.std.proofs.lemmas.Bool.{and_from, not_from_false, not-false}
use Rattle.dcc_c.specs.Token.{WordToken}
use Rattle.dcc_c.specs.Pieces.{Piece}
use Rattle.dcc_c.specs.Grammar.{Around}
use Rattle.dcc_c.specs.Partial.{WordAt, PartialExpr, PartialStmt, BreakOf, ContinueOf, EmptyOf}
use Rattle.dcc_c.specs.Reading.{Reader, Got, got, is_stopped, next_token, skip, name_of, sees_mark, sees_word, take_mark, take_name, in_operator}
use Rattle.dcc_c.specs.ReadingStatements.{whole, read_value, read_enclosed, read_test, more_arguments, read_arguments, call_of, read_call, read_place, begins_call, assignment_of, read_assigned, read_simple, read_leave, read_goto, read_return}
use Rattle.dcc_c.specs.Complete.{is_complete_expr, is_complete_place, is_complete_place_if, is_complete_stmt, is_within}
use Rattle.dcc_c.proofs.reading.Passing.{if-cases, fail-stops, skip-took, sees_mark-took, sees_word-took, take_mark-took}
use Rattle.dcc_c.proofs.reading.Words.{name_of-is}
use Rattle.dcc_c.proofs.reading.Statements.{IsEnough}
use Rattle.dcc_c.proofs.reading.Stopping.{choice-cases, keeps_stop}
use Rattle.dcc_c.proofs.reading.StmtStopping.{mark-keeps, more_arguments-keeps, arguments-keeps, call_named}
use Rattle.dcc_c.proofs.reading.Steps.{name-sound}
use Rattle.dcc_c.proofs.reading.ExprRules.{sound_expr}
use Rattle.dcc_c.proofs.reading.StmtParts.{place-sound}
use Rattle.dcc_c.proofs.reading.StmtKinds.{last_stmts, return_stmts, goto_stmts, leave_stmts, semicolon_stmts}
use Rattle.dcc_c.proofs.reading.ExprWhole.{NoCall, mark-no_call, taken-no_call, expr-entire, unary-entire}

-- A reader that goes on has read what it stands after to its end.
pub going-done : (r : Reader) → r.stop ≡ None → not (is_stopped r) ≡ true
going-done r going = ap (λ stop. not (is_some stop)) going

-- Parts of statements.

pub test-entire : (calls : ℕ) (r : Reader) → IsEnough calls 0 r.left → (read_test calls r).following.stop ≡ None → is_complete_expr (read_test calls r).value ≡ true
test-entire calls r enough going =
    let here = take_mark (codes "(") r in
    let e = read_enclosed calls here in
    let close = take_mark-took (codes ")") e.following going in
    let begun = take_mark-took (codes "(") r ((keeps_stop calls).expr (whole 1 here) here close.passed.going) in
    expr-entire calls (whole 1 here) here (omega (arith, begun.one_less)) close.passed.going (taken-no_call (codes ")") e.following refl going)

pub value-entire : (calls : ℕ) (r : Reader) → IsEnough calls 3 r.left → (take_mark (codes ";") (read_value calls r).following).stop ≡ None →
    is_complete_expr (read_value calls r).value ≡ true
value-entire calls r enough going =
    let e = read_value calls r in
    expr-entire calls (whole 0 r) r enough (mark-keeps (codes ";") e.following going) (taken-no_call (codes ";") e.following refl going)

-- what was read as a place is complete, where reading did not stop and no call follows
abbrev pub EntirePlace : Got PartialExpr → Type 0
EntirePlace g = g.following.stop ≡ None → NoCall g.following → is_complete_place g.value ≡ true

place-entire : (calls : ℕ) (r : Reader) → IsEnough calls 0 r.left → EntirePlace (read_place calls r)
place-entire calls r enough =
    choice-cases EntirePlace (name_of (next_token r)) (λ word is going ends. not_from_false (sees_mark (codes "(") (skip r)) ends)
    (λ _ going ends.
    let here = take_mark (codes "*") r in
    let star = take_mark-took (codes "*") r ((keeps_stop calls).unary (in_operator (whole 0 r)) here going) in
    unary-entire calls (in_operator (whole 0 r)) here (omega (arith, star.one_less)) going ends)

-- Arguments.

abbrev EntireList : Got (List PartialExpr) → Type 0
EntireList g = list_all is_complete_expr g.value ≡ true

-- the arguments after the first one are complete, and no parenthesis stands before them
more_arguments-entire : (calls : ℕ) (r : Reader) → IsEnough calls 0 r.left → (more_arguments calls r).following.stop ≡ None → NoCall (more_arguments calls r).following →
    NoCall r × EntireList (more_arguments calls r)
more_arguments-entire zero r enough = λ going ends. (ends, refl)
more_arguments-entire (suc calls) r enough =
    if-cases (λ (g : Got (List PartialExpr)). g.following.stop ≡ None → NoCall g.following → NoCall r × EntireList g) (sees_mark (codes ",") r)
    (λ sees going ends.
    let first = read_enclosed calls (skip r) in
    let comma = sees_mark-took (codes ",") r sees in
    let on = more_arguments-keeps calls first.following going in
    let read = sound_expr calls (whole 1 (skip r)) (skip r) (omega (arith, comma.one_less)) on in
    let others = more_arguments-entire calls first.following (omega (arith, comma.one_less, read.shorter)) going ends in
    (mark-no_call (codes ",") r refl sees, and_from _ _ (expr-entire calls (whole 1 (skip r)) (skip r) (omega (arith, comma.one_less)) on others.0) others.1))
    (λ _ going ends. (ends, refl))

arguments-entire : (calls : ℕ) (r : Reader) → IsEnough calls 3 r.left → (read_arguments calls r).following.stop ≡ None → NoCall (read_arguments calls r).following → EntireList (read_arguments calls r)
arguments-entire calls r enough =
    if-cases (λ (g : Got (List PartialExpr)). g.following.stop ≡ None → NoCall g.following → EntireList g) (sees_mark (codes ")") r) (λ _ going ends. refl)
    (λ _ going ends.
    let first = read_enclosed calls r in
    let on = more_arguments-keeps calls first.following going in
    let read = sound_expr calls (whole 1 r) r enough on in
    let others = more_arguments-entire calls first.following (omega (arith, read.shorter)) going ends in
    and_from _ _ (expr-entire calls (whole 1 r) r enough on others.0) others.1)

-- Statements.

-- a statement that was read is complete, and has at most 200 blocks around each inside it, where so many are around it
abbrev pub EntireStmt : ℕ → Got PartialStmt → Type 0
EntireStmt blocks g = g.following.stop ≡ None → (is_complete_stmt g.value ≡ true) × (is_within blocks g.value ≡ true)

pub fewer_after : (pieces : List Piece) → length (drop 1 pieces) ≤ length pieces
fewer_after [] = omega arith
fewer_after (p ∷ pieces) = omega arith

call_of-entire : (blocks calls : ℕ) (place : Option PartialExpr) (function : WordAt) (r : Reader) → (r.stop ≡ None → is_complete_place_if place ≡ true) → IsEnough calls 3 r.left →
    EntireStmt blocks (call_of calls place function r)
call_of-entire blocks calls place function r placed enough going =
    let arguments = read_arguments calls (skip r) in
    let between = take_mark (codes ")") arguments.following in
    let closed = mark-keeps (codes ";") between going in
    let on = mark-keeps (codes ")") arguments.following closed in
    let read = arguments-entire calls (skip r) (omega (arith, fewer_after r.left)) on (taken-no_call (codes ")") arguments.following refl closed) in
    (and_from _ _ (placed (arguments-keeps calls (skip r) on)) (and_from _ _ read (going-done between closed)), refl)

call_named-entire : (blocks calls : ℕ) (place : Option PartialExpr) (r : Reader) (name : Option WordAt) → (r.stop ≡ None → is_complete_place_if place ≡ true) → IsEnough calls 3 r.left →
    EntireStmt blocks (call_named calls place name r)
call_named-entire blocks calls place r (Some function) placed enough = call_of-entire blocks calls place function r placed enough
call_named-entire blocks calls place r None placed enough = λ going. (refl, refl)

call-entire : (blocks calls : ℕ) (place : Option PartialExpr) (r : Reader) → is_complete_place_if place ≡ true → IsEnough calls 0 r.left →
    EntireStmt blocks (read_call calls place r)
call-entire blocks calls place r placed enough =
    choice-cases (λ (g : Got (Option WordAt)). EntireStmt blocks (call_named calls place g.value g.following)) (name_of (next_token r))
    (λ word is.
    let took = skip-took r (WordToken word) (name_of-is (next_token r) word is).0 in
    call_named-entire blocks calls place (skip r) (Some (record { word = word; at = r.at })) (λ _. placed) (omega (arith, took.one_less)))
    (λ _ going. absurd (fail-stops r going))

-- what takes a value at a place that was read
assigned-entire : (blocks calls : ℕ) (place : Got PartialExpr) → EntirePlace place → (place.following.stop ≡ None → IsEnough calls 0 place.following.left) →
    EntireStmt blocks (read_assigned calls place)
assigned-entire blocks calls place placed enough =
    if-cases (EntireStmt blocks) (not (sees_mark (codes "=") place.following)) (λ _ going. absurd (fail-stops place.following going))
    (λ unless. by unless)
  where
    by : not (sees_mark (codes "=") place.following) ≡ false →
        EntireStmt blocks (if begins_call (skip place.following) then read_call calls (Some place.value) (skip place.following) else assignment_of calls place.value (skip place.following))
    by unless =
        let sees : sees_mark (codes "=") place.following ≡ true = not-false (sees_mark (codes "=") place.following) unless in
        let equals = sees_mark-took (codes "=") place.following sees in
        let complete = placed equals.passed.going (mark-no_call (codes "=") place.following refl sees) in
        let some = enough equals.passed.going in
        let room : IsEnough calls 3 (skip place.following).left = omega (arith, some, equals.one_less) in
        if-cases (EntireStmt blocks) (begins_call (skip place.following))
        (λ _. call-entire blocks calls (Some place.value) (skip place.following) complete (omega (arith, room)))
        (λ _ going. (and_from _ _ complete (and_from _ _ (value-entire calls (skip place.following) room going) (going-done (take_mark (codes ";") (read_value calls (skip place.following)).following) going)), refl))

-- an assignment or a call
pub simple-entire : (blocks calls : ℕ) (r : Reader) → IsEnough calls 0 r.left → EntireStmt blocks (read_simple calls r)
simple-entire blocks calls r enough =
    if-cases (EntireStmt blocks) (begins_call r) (λ _. call-entire blocks calls None r refl enough)
    (λ _. assigned-entire blocks calls (read_place calls r) (place-entire calls r (omega arith))
    (λ going. omega (arith, (place-sound calls r (omega arith) going).shorter)))

return-entire : (blocks calls : ℕ) (r : Reader) → sees_word (codes "return") r ≡ true → IsEnough calls 0 r.left → EntireStmt blocks (read_return calls r)
return-entire blocks calls r sees enough =
    let took = sees_word-took (codes "return") r sees in
    let following = take_mark (codes ";") (read_value calls (skip r)).following in
    if-cases (EntireStmt blocks) (sees_mark (codes ";") (skip r)) (λ _ going. (refl, refl))
    (λ _ going. (and_from _ _ (value-entire calls (skip r) (omega (arith, took.one_less)) going) (going-done following going), refl))

goto-entire : (blocks : ℕ) (r : Reader) → EntireStmt blocks (read_goto r)
goto-entire blocks r going =
    let name = take_name (skip r) in
    (ap is_some (name-sound (skip r) (mark-keeps (codes ";") name.following going)).is, refl)

-- statements that hold no blocks
pub leave_stmts-entire : (blocks calls : ℕ) (around : Around) (r : Reader) → IsEnough calls 0 r.left → EntireStmt blocks (leave_stmts calls around r)
leave_stmts-entire blocks calls around r enough =
    if-cases (EntireStmt blocks) (sees_word (codes "break") r) {x = read_leave around.breaks BreakOf r} {y = goto_stmts calls around r} (λ _ going. (refl, refl))
    (λ _. if-cases (EntireStmt blocks) (sees_word (codes "continue") r) {x = read_leave around.continues ContinueOf r} {y = return_stmts calls r} (λ _ going. (refl, refl))
    (λ _. if-cases (EntireStmt blocks) (sees_word (codes "goto") r) {x = read_goto r} {y = last_stmts calls r} (λ _. goto-entire blocks r)
    (λ _. if-cases (EntireStmt blocks) (sees_word (codes "return") r) {x = read_return calls r} {y = semicolon_stmts calls r} (λ sees. return-entire blocks calls r sees enough)
    (λ _. if-cases (EntireStmt blocks) (sees_mark (codes ";") r) {x = got EmptyOf (skip r)} {y = read_simple calls r} (λ _ going. (refl, refl)) (λ _. simple-entire blocks calls r enough)))))
