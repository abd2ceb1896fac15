-- What is read of a statement with no block in it is one.
use Rattle.std.proofs.Common.{◌≡◌, ℕ, ◌<◌, length, List, ◌∷◌, map, Bool, true, false, Option, Some, None, refl, sym, ap, ◌∙◌, subst, arith}
use Rattle.std.specs.Prelude.{codes, not, option_map}
use Rattle.std.specs.List.{list_all}
use Rattle.std.proofs.lemmas.Bool.{le-leb, and_parts, not-false}
use Rattle.dcc_c.specs.Token.{WordToken}
use Rattle.dcc_c.specs.Lexing.{Placed}
use Rattle.dcc_c.specs.Tree.{Word, Expr, Stmt, Assign, Call, Goto}
use Rattle.dcc_c.specs.Parts.{inner_stmts}
use Rattle.dcc_c.specs.Grammar.{mark, word, is_name, IsPlace, AreArguments, IsCall, call, Around, IsStmt, assign, call_alone, call_into, goto, empty, return_nothing, return_value, break, continue}
use Rattle.dcc_c.specs.Rules.{expr_depth, shallow_stmt}
use Rattle.dcc_c.specs.Partial.{WordAt, PartialExpr, PartialStmt, BreakOf, ContinueOf, GotoOf, EmptyOf}
use Rattle.dcc_c.specs.Reading.{Reader, Got, got, next_token, second_token, skip, fail, is_the_mark, name_of, sees_mark, sees_word, take_mark, take_name}
use Rattle.dcc_c.specs.ReadingStatements.{read_value, begins_call, read_arguments, call_of, read_call, read_place, assignment_of, read_assigned, read_simple, read_leave, read_goto, read_return}
use Rattle.dcc_c.specs.Stripped.{plain_expr, plain_stmt}
use Rattle.dcc_c.proofs.reading.Passing.{tokens_of, Took, if-cases, fail-stops, skip-took, sees_mark-took, sees_word-took, take_mark-took}
use Rattle.dcc_c.proofs.reading.Statements.{IsEnough}
use Rattle.dcc_c.proofs.reading.StmtStopping.{call_named, mark-keeps, arguments-keeps}
use Rattle.dcc_c.proofs.reading.Words.{name_of-is}
use Rattle.dcc_c.proofs.reading.Stopping.{choice-cases}
use Rattle.dcc_c.proofs.reading.Steps.{Steps, then_steps, token_steps, opening_steps, closing_steps, name-sound}
use Rattle.dcc_c.proofs.reading.StmtParts.{ReadsPlace, place-sound, are_shallow, arguments-sound, value-sound}

-- a statement and those inside it have no expression that is too deep
abbrev pub IsShallowStmt : Stmt → Type 0
IsShallowStmt stmt = list_all (shallow_stmt 200) (stmt ∷ inner_stmts stmt) ≡ true

-- The reader passed a statement.
pub record ReadsStmt (around : Around) (r : Reader) (g : Got PartialStmt) : Type 0 where
  pub steps : Steps 0 0 r g.following
  pub shorter : length g.following.left < length r.left
  pub derived : IsStmt 200 around r.depth (tokens_of r.left) (plain_stmt g.value) g.following.depth (tokens_of g.following.left)
  pub shallow : IsShallowStmt (plain_stmt g.value)

abbrev pub SoundStmt : Around → Reader → Got PartialStmt → Type 0
SoundStmt around r g = g.following.stop ≡ None → ReadsStmt around r g

-- a statement that keeps the depth of calls
pub steady_stmt : {around : Around} {r : Reader} {g : Got PartialStmt} → Steps 0 0 r g.following → g.following.depth ≡ r.depth →
    length g.following.left < length r.left → IsStmt 200 around r.depth (tokens_of r.left) (plain_stmt g.value) r.depth (tokens_of g.following.left) →
    IsShallowStmt (plain_stmt g.value) → ReadsStmt around r g
steady_stmt {around} {r} {g} steps steady shorter derived shallow =
    record { steps = steps; shorter = shorter; derived = subst (λ d. IsStmt 200 around r.depth (tokens_of r.left) (plain_stmt g.value) d (tokens_of g.following.left)) (sym steady) derived; shallow = shallow }

-- Calls.

-- The reader passed a call, and the semicolon after it.
pub record ReadsCall (place : Option PartialExpr) (r : Reader) (g : Got PartialStmt) : Type 0 where
  pub steps : Steps 0 0 r g.following
  pub steady : g.following.depth ≡ r.depth
  pub shorter : length g.following.left < length r.left
  pub function : Word
  pub arguments : List Expr
  pub end : ℕ
  pub is : plain_stmt g.value ≡ Call (option_map plain_expr place) function arguments r.depth
  pub derived : IsCall (tokens_of r.left) function arguments (mark end (codes ";") ∷ tokens_of g.following.left)
  pub deep : are_shallow arguments ≡ true

abbrev SoundCall : Option PartialExpr → Reader → Got PartialStmt → Type 0
SoundCall place r g = g.following.stop ≡ None → ReadsCall place r g

-- an opening parenthesis stands after the name
abbrev OpensAfter : Reader → Type 0
OpensAfter r = r.stop ≡ None → sees_mark (codes "(") r ≡ true

call_of-sound : (calls : ℕ) (place : Option PartialExpr) (start : Reader) (function : WordAt) (r : Reader) → is_name function.word ≡ true →
    Took (WordToken function.word) start r → OpensAfter r → IsEnough calls 0 r.left → SoundCall place start (call_of calls place function r)
call_of-sound calls place start function r good took opens enough going =
    let arguments = read_arguments calls (skip r) in
    let between = take_mark (codes ")") arguments.following in
    let end = take_mark-took (codes ";") between going in
    let close = take_mark-took (codes ")") arguments.following end.passed.going in
    let going_on : r.stop ≡ None = arguments-keeps calls (skip r) close.passed.going in
    let begun = sees_mark-took (codes "(") r (opens going_on) in
    let read = arguments-sound calls (skip r) (omega (arith, begun.one_less)) close.passed.going in
    let inner : AreArguments (tokens_of (skip r).left) (map plain_expr arguments.value) (mark close.line (codes ")") ∷ tokens_of between.left) = subst (λ ts. AreArguments (tokens_of (skip r).left) (map plain_expr arguments.value) ts) close.begins read.derived in
    record {
      steps = then_steps (token_steps 0 refl took) (then_steps (opening_steps 0 begun) (then_steps read.steps (then_steps (closing_steps 0 (omega arith) close) (token_steps 0 refl end))));
      steady = end.steady ∙ (close.steady ∙ (read.steady ∙ (begun.steady ∙ took.steady)));
      shorter = omega (arith, took.one_less, begun.one_less, read.steps.passed.fewer, close.one_less, end.one_less);
      function = function.word;
      arguments = map plain_expr arguments.value;
      end = end.line;
      is = ap (Call (option_map plain_expr place) function.word (map plain_expr arguments.value)) took.steady;
      derived = rw (took.begins, begun.begins) (call function.word good (subst (λ ts. AreArguments (tokens_of (skip r).left) (map plain_expr arguments.value) (mark close.line (codes ")") ∷ ts)) end.begins inner));
      deep = read.deep;
    }

call-sound : (calls : ℕ) (place : Option PartialExpr) (r : Reader) → is_the_mark (codes "(") (second_token r) ≡ true → IsEnough calls 0 r.left →
    SoundCall place r (read_call calls place r)
call-sound calls place r second enough =
    choice-cases (λ (g : Got (Option WordAt)). SoundCall place r (call_named calls place g.value g.following)) (name_of (next_token r))
    (λ name is.
    let seen = name_of-is (next_token r) name is in
    let took = skip-took r (WordToken name) seen.0 in
    call_of-sound calls place r (record { word = name; at = r.at }) (skip r) seen.1 took (λ _. second) (omega (arith, took.one_less)))
    (λ _ going. absurd (fail-stops r going))

-- the statement that a call with a place or without one is
called : {around : Around} {r : Reader} {g : Got PartialStmt} (s : Stmt) → plain_stmt g.value ≡ s → Steps 0 0 r g.following → g.following.depth ≡ r.depth →
    length g.following.left < length r.left → IsStmt 200 around r.depth (tokens_of r.left) s r.depth (tokens_of g.following.left) → IsShallowStmt s → ReadsStmt around r g
called {around} {r} {g} s is steps steady shorter derived shallow =
    steady_stmt steps steady shorter (subst (λ x. IsStmt 200 around r.depth (tokens_of r.left) x r.depth (tokens_of g.following.left)) (sym is) derived) (subst IsShallowStmt (sym is) shallow)

alone-sound : (around : Around) (calls : ℕ) (r : Reader) → is_the_mark (codes "(") (second_token r) ≡ true → IsEnough calls 0 r.left →
    SoundStmt around r (read_call calls None r)
alone-sound around calls r second enough going =
    let read = call-sound calls None r second enough going in
    called (Call None read.function read.arguments r.depth) read.is read.steps read.steady read.shorter (call_alone read.derived) (rw read.deep)

into-sound : (around : Around) (calls : ℕ) (r : Reader) (place : Got PartialExpr) → (place.following.stop ≡ None → ReadsPlace r place) →
    sees_mark (codes "=") place.following ≡ true → is_the_mark (codes "(") (second_token (skip place.following)) ≡ true → IsEnough calls 0 r.left →
    SoundStmt around r (read_call calls (Some place.value) (skip place.following))
into-sound around calls r place placed sees second enough going =
    let equals = sees_mark-took (codes "=") place.following sees in
    let first = placed equals.passed.going in
    let g = read_call calls (Some place.value) (skip place.following) in
    let read = call-sound calls (Some place.value) (skip place.following) second (omega (arith, first.shorter, equals.one_less)) going in
    let at : IsPlace (tokens_of r.left) (plain_expr place.value) (mark equals.line (codes "=") ∷ tokens_of (skip place.following).left) = subst (λ ts. IsPlace (tokens_of r.left) (plain_expr place.value) ts) equals.begins first.derived in
    let is : plain_stmt g.value ≡ Call (Some (plain_expr place.value)) read.function read.arguments r.depth = read.is ∙ ap (Call (Some (plain_expr place.value)) read.function read.arguments) first.steady in
    called (Call (Some (plain_expr place.value)) read.function read.arguments r.depth) is (then_steps first.steps (then_steps (token_steps 0 refl equals) read.steps)) (read.steady ∙ (equals.steady ∙ first.steady)) (omega (arith, first.shorter, equals.one_less, read.shorter)) (call_into at read.derived) (rw (le-leb (expr_depth (plain_expr place.value)) 200 first.deep, read.deep))

assignment-sound : (around : Around) (calls : ℕ) (r : Reader) (place : Got PartialExpr) → (place.following.stop ≡ None → ReadsPlace r place) →
    sees_mark (codes "=") place.following ≡ true → IsEnough calls 0 r.left → SoundStmt around r (assignment_of calls place.value (skip place.following))
assignment-sound around calls r place placed sees enough going =
    let equals = sees_mark-took (codes "=") place.following sees in
    let first = placed equals.passed.going in
    let e = read_value calls (skip place.following) in
    let read = value-sound calls (skip place.following) (omega (arith, first.shorter, equals.one_less)) going in
    let at : IsPlace (tokens_of r.left) (plain_expr place.value) (mark equals.line (codes "=") ∷ tokens_of (skip place.following).left) = subst (λ ts. IsPlace (tokens_of r.left) (plain_expr place.value) ts) equals.begins first.derived in
    called (Assign (plain_expr place.value) (plain_expr e.value)) refl (then_steps first.steps (then_steps (token_steps 0 refl equals) read.steps)) (read.steady ∙ (equals.steady ∙ first.steady)) (omega (arith, first.shorter, equals.one_less, read.shorter)) (assign at read.derived) (rw (le-leb (expr_depth (plain_expr place.value)) 200 first.deep, le-leb (expr_depth (plain_expr e.value)) 200 read.deep))

assigned-sound : (around : Around) (calls : ℕ) (r : Reader) (place : Got PartialExpr) → (place.following.stop ≡ None → ReadsPlace r place) → IsEnough calls 0 r.left →
    SoundStmt around r (read_assigned calls place)
assigned-sound around calls r place placed enough =
    if-cases (SoundStmt around r) (not (sees_mark (codes "=") place.following)) (λ _ going. absurd (fail-stops place.following going))
    (λ sees.
    let equals = not-false (sees_mark (codes "=") place.following) sees in
    if-cases (SoundStmt around r) (begins_call (skip place.following))
    (λ begins. into-sound around calls r place placed equals (and_parts _ (is_the_mark (codes "(") (second_token (skip place.following))) begins).1 enough)
    (λ _. assignment-sound around calls r place placed equals enough))

-- an assignment or a call
pub simple-sound : (around : Around) (calls : ℕ) (r : Reader) → IsEnough calls 0 r.left → SoundStmt around r (read_simple calls r)
simple-sound around calls r enough =
    if-cases (SoundStmt around r) (begins_call r)
    (λ begins. alone-sound around calls r (and_parts _ (is_the_mark (codes "(") (second_token r)) begins).1 enough)
    (λ _. assigned-sound around calls r (read_place calls r) (place-sound calls r enough) enough)

-- Short statements.

-- a word and a semicolon
word_stmt : (around : Around) (r : Reader) (bytes : Word) (stmt : PartialStmt) → sees_word bytes r ≡ true →
    ((at end : ℕ) (rest : List Placed) → IsStmt 200 around r.depth (word at bytes ∷ mark end (codes ";") ∷ rest) (plain_stmt stmt) r.depth rest) →
    IsShallowStmt (plain_stmt stmt) → SoundStmt around r (got stmt (take_mark (codes ";") (skip r)))
word_stmt around r bytes stmt sees derived shallow going =
    let took = sees_word-took bytes r sees in
    let end = take_mark-took (codes ";") (skip r) going in
    steady_stmt (then_steps (token_steps 0 refl took) (token_steps 0 refl end)) (end.steady ∙ took.steady) (omega (arith, took.one_less, end.one_less))
    (rw (took.begins, end.begins) (derived took.line end.line (tokens_of (take_mark (codes ";") (skip r)).left))) shallow

leaves-sound : (around : Around) (r : Reader) (bytes : Word) (stmt : PartialStmt) (allowed : Bool) → sees_word bytes r ≡ true →
    (allowed ≡ true → (at end : ℕ) (rest : List Placed) → IsStmt 200 around r.depth (word at bytes ∷ mark end (codes ";") ∷ rest) (plain_stmt stmt) r.depth rest) →
    IsShallowStmt (plain_stmt stmt) → SoundStmt around r (read_leave allowed stmt r)
leaves-sound around r bytes stmt true sees derived shallow = word_stmt around r bytes stmt sees (derived refl) shallow
leaves-sound around r bytes stmt false sees derived shallow = λ going. absurd (fail-stops r (mark-keeps (codes ";") (fail r) going))

pub break-sound : (around : Around) (r : Reader) → sees_word (codes "break") r ≡ true → SoundStmt around r (read_leave around.breaks BreakOf r)
break-sound around r sees = leaves-sound around r (codes "break") BreakOf around.breaks sees (λ allowed at end rest. break allowed) refl

pub continue-sound : (around : Around) (r : Reader) → sees_word (codes "continue") r ≡ true → SoundStmt around r (read_leave around.continues ContinueOf r)
continue-sound around r sees = leaves-sound around r (codes "continue") ContinueOf around.continues sees (λ allowed at end rest. continue allowed) refl

pub goto-sound : (around : Around) (r : Reader) → sees_word (codes "goto") r ≡ true → SoundStmt around r (read_goto r)
goto-sound around r sees going =
    let took = sees_word-took (codes "goto") r sees in
    let name = take_name (skip r) in
    let end = take_mark-took (codes ";") name.following going in
    let named = name-sound (skip r) end.passed.going in
    called (Goto named.name.word) (ap (λ n. plain_stmt (GotoOf n)) named.is) (then_steps (token_steps 0 refl took) (then_steps (token_steps 0 refl named.took) (token_steps 0 refl end))) (end.steady ∙ (named.took.steady ∙ took.steady)) (omega (arith, took.one_less, named.took.one_less, end.one_less))
    (rw (took.begins, named.took.begins, end.begins) (goto named.name.word named.good)) refl

pub return-sound : (around : Around) (calls : ℕ) (r : Reader) → sees_word (codes "return") r ≡ true → IsEnough calls 0 r.left → SoundStmt around r (read_return calls r)
return-sound around calls r sees enough =
    let took = sees_word-took (codes "return") r sees in
    if-cases (SoundStmt around r) (sees_mark (codes ";") (skip r))
    (λ ends _.
    let end = sees_mark-took (codes ";") (skip r) ends in
    steady_stmt (then_steps (token_steps 0 refl took) (token_steps 0 refl end)) (end.steady ∙ took.steady) (omega (arith, took.one_less, end.one_less)) (rw (took.begins, end.begins) return_nothing) refl)
    (λ _ going.
    let e = read_value calls (skip r) in
    let read = value-sound calls (skip r) (omega (arith, took.one_less)) going in
    steady_stmt (then_steps (token_steps 0 refl took) read.steps) (read.steady ∙ took.steady) (omega (arith, took.one_less, read.shorter)) (rw took.begins (return_value read.derived)) (rw (le-leb (expr_depth (plain_expr e.value)) 200 read.deep)))

pub empty-sound : (around : Around) (r : Reader) → sees_mark (codes ";") r ≡ true → SoundStmt around r (got EmptyOf (skip r))
empty-sound around r sees _ =
    let took = sees_mark-took (codes ";") r sees in
    steady_stmt (token_steps 0 refl took) took.steady (omega (arith, took.one_less)) (rw took.begins empty) refl
