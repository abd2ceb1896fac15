-- Statements with no block in them are the same with more calls than enough.
use Rattle.std.proofs.Common.{◌≡◌, ℕ, zero, suc, ◌+◌, ◌*◌, ◌<◌, ◌≤◌, true, List, [], ◌∷◌, Option, Some, None, refl, ap, ◌∙◌, arith}
use Rattle.std.specs.Prelude.{codes, not}
use Rattle.dcc_c.specs.declared.syntax.CUn.TheVariants.{Deref}
use Rattle.dcc_c.specs.Partial.{WordAt, NumberAt, PartialExpr, UnaryHere, PartialStmt, AssignOf, CallOf, ReturnOf}
use Rattle.dcc_c.specs.Reading.{Reader, Got, got, is_stopped, next_token, skip, is_the_mark, is_the_word, name_of, sees_mark, sees_word, take_mark, take_name, in_operator, closed}
use Rattle.dcc_c.specs.ReadingStatements.{whole, read_enclosed, read_test, begins_call, more_arguments, read_arguments, call_of, read_call, read_place, assignment_of, read_assigned, read_simple, read_return, case_number, read_case, read_cases, read_arm_head}
use Rattle.dcc_c.proofs.reading.Stopping.{choice-cases}
use Rattle.dcc_c.proofs.reading.StmtStopping.{test-keeps, place-keeps}
use Rattle.dcc_c.proofs.reading.StmtParts.{test-sound, place-sound}
use Rattle.dcc_reader.specs.Parts.{before_list}
use Rattle.dcc_reader.proofs.calls.ToRead.{to_read, Enough, going-reads, passed-reads, skip-reads, sees-reads, fail-reads, mark-reads, name-reads, if-same, choice-same}
use Rattle.dcc_read.proofs.calls.Expressions.{expr-reads, same_expr, same_unary}

-- Tests.

pub test-reads : (calls : ℕ) (r : Reader) → Enough calls 3 r → to_read (read_test calls r).following ≤ to_read r
test-reads calls r enough =
    passed-reads r (read_test calls r).following (λ going. (test-sound calls r (omega (arith, enough, going-reads r (test-keeps calls r going))) going).steps.passed)

pub test-same : (few many : ℕ) (r : Reader) → few ≤ many → Enough few 3 r → read_test few r ≡ read_test many r
test-same few many r below enough =
    let here = take_mark (codes "(") r in
    ap closed (same_expr few many (whole 1 here) here below (omega (arith, enough, mark-reads (codes "(") r)))

-- Calls.

more_arguments-same : (few many : ℕ) (r : Reader) → few ≤ many → Enough few 1 r → more_arguments few r ≡ more_arguments many r
more_arguments-same zero many r below enough = absurd (omega (arith, enough))
more_arguments-same (suc few) zero r below enough = absurd (omega (arith, below))
more_arguments-same (suc few) (suc many) r below enough =
    if-same (sees_mark (codes ",") r)
    (λ sees.
    let here = skip r in
    let first = read_enclosed many here in
    let less : few ≤ many = omega (arith, below) in
    let room : 16 * to_read here + 3 ≤ few = omega (arith, enough, sees-reads (is_the_mark (codes ",")) r refl sees) in
    ap (λ (g : Got PartialExpr). before_list (g.value ∷ []) (more_arguments few g.following)) (same_expr few many (whole 1 here) here less room)
    ∙ ap (before_list (first.value ∷ [])) (more_arguments-same few many first.following less (omega (arith, room, expr-reads many (whole 1 here) here (omega (arith, less, room))))))
    (λ _. refl)

arguments-same : (few many : ℕ) (r : Reader) → few ≤ many → Enough few 3 r → read_arguments few r ≡ read_arguments many r
arguments-same few many r below enough =
    if-same (sees_mark (codes ")") r) (λ _. refl)
    (λ _.
    let first = read_enclosed many r in
    ap (λ (g : Got PartialExpr). before_list (g.value ∷ []) (more_arguments few g.following)) (same_expr few many (whole 1 r) r below enough)
    ∙ ap (before_list (first.value ∷ [])) (more_arguments-same few many first.following below (omega (arith, enough, expr-reads many (whole 1 r) r (omega (arith, below, enough))))))

-- the call, after its arguments
abbrev with_arguments : Option PartialExpr → WordAt → ℕ → Got (List PartialExpr) → Got PartialStmt
with_arguments place function depth arguments =
    let end = take_mark (codes ")") arguments.following in
    got (CallOf place (record { function = function; arguments = arguments.value; closed = not (is_stopped end); depth = depth }))
    (take_mark (codes ";") end)

call_of-same : (few many : ℕ) (place : Option PartialExpr) (function : WordAt) (r : Reader) → few ≤ many → Enough few 3 r →
    call_of few place function r ≡ call_of many place function r
call_of-same few many place function r below enough =
    ap (with_arguments place function r.depth) (arguments-same few many (skip r) below (omega (arith, enough, skip-reads r)))

call-same : (few many : ℕ) (place : Option PartialExpr) (r : Reader) → few ≤ many → Enough few 3 r → read_call few place r ≡ read_call many place r
call-same few many place r below enough =
    let name = take_name r in
    choice-same name.value (λ function _. call_of-same few many place function name.following below (omega (arith, enough, name-reads r))) (λ _. refl)

-- Assignments.

place-reads : (calls : ℕ) (r : Reader) → Enough calls 1 r → to_read (read_place calls r).following ≤ to_read r
place-reads calls r enough =
    passed-reads r (read_place calls r).following (λ going. (place-sound calls r (omega (arith, enough, going-reads r (place-keeps calls r going))) going).steps.passed)

place-same : (few many : ℕ) (r : Reader) → few ≤ many → Enough few 1 r → read_place few r ≡ read_place many r
place-same few many r below enough =
    let star = take_mark (codes "*") r in
    choice-same (name_of (next_token r)) (λ _ _. refl)
    (λ _. ap (λ (a : Got PartialExpr). got (UnaryHere r.at Deref a.value) a.following)
    (same_unary few many (in_operator (whole 0 r)) star below (omega (arith, enough, mark-reads (codes "*") r))))

assignment-same : (few many : ℕ) (place : PartialExpr) (r : Reader) → few ≤ many → Enough few 3 r → assignment_of few place r ≡ assignment_of many place r
assignment-same few many place r below enough =
    ap (λ (e : Got PartialExpr). let end = take_mark (codes ";") e.following in got (AssignOf place (Some e.value) (not (is_stopped end))) end)
    (same_expr few many (whole 0 r) r below enough)

assigned-same : (few many : ℕ) (place : Got PartialExpr) → few ≤ many → Enough few 3 place.following → read_assigned few place ≡ read_assigned many place
assigned-same few many place below enough =
    let here = skip place.following in
    let room : 16 * to_read here + 3 ≤ few = omega (arith, enough, skip-reads place.following) in
    if-same (not (sees_mark (codes "=") place.following)) (λ _. refl)
    (λ _. if-same (begins_call here) (λ _. call-same few many (Some place.value) here below room) (λ _. assignment-same few many place.value here below room))

pub simple-same : (few many : ℕ) (r : Reader) → few ≤ many → Enough few 3 r → read_simple few r ≡ read_simple many r
simple-same few many r below enough =
    if-same (begins_call r) (λ _. call-same few many None r below enough)
    (λ _.
    ap (read_assigned few) (place-same few many r below (omega (arith, enough)))
    ∙ assigned-same few many (read_place many r) below (omega (arith, enough, place-reads many r (omega (arith, below, enough)))))

pub return-same : (few many : ℕ) (r : Reader) → few ≤ many → Enough few 3 r → read_return few r ≡ read_return many r
return-same few many r below enough =
    let here = skip r in
    if-same (sees_mark (codes ";") here) (λ _. refl)
    (λ _. ap (λ (e : Got PartialExpr). let end = take_mark (codes ";") e.following in got (ReturnOf (Some e.value) (not (is_stopped end))) end)
    (same_expr few many (whole 0 here) here below (omega (arith, enough, skip-reads r))))

-- Cases.

case-reads : (r : Reader) → sees_word (codes "case") r ≡ true → to_read (read_case r).following < to_read r
case-reads r sees =
    let here = skip r in
    let less = sees-reads (is_the_word (codes "case")) r refl sees in
    choice-cases (λ (g : Got (List NumberAt)). to_read g.following < to_read r) (case_number (next_token here))
    (λ _ _. omega (arith, less, skip-reads here, mark-reads (codes ":") (skip here))) (λ _. omega (arith, less, fail-reads here))

cases-same : (few many : ℕ) (r : Reader) → few ≤ many → Enough few 1 r → read_cases few r ≡ read_cases many r
cases-same zero many r below enough = absurd (omega (arith, enough))
cases-same (suc few) zero r below enough = absurd (omega (arith, below))
cases-same (suc few) (suc many) r below enough =
    if-same (sees_word (codes "case") r)
    (λ sees.
    let first = read_case r in
    ap (before_list first.value) (cases-same few many first.following (omega (arith, below)) (omega (arith, enough, case-reads r sees))))
    (λ _. refl)

pub arm_head-same : (few many : ℕ) (r : Reader) → few ≤ many → Enough few 1 r → read_arm_head few r ≡ read_arm_head many r
arm_head-same few many r below enough =
    if-same (sees_word (codes "default") r) (λ _. refl)
    (λ _. ap (λ (found : Got (List NumberAt)). got (record { numbers = found.value; default = None }) found.following) (cases-same few many r below enough))
