-- A statement of the grammar with no block in it is read.
use Rattle.std.proofs.Common.{◌≡◌, ℕ, suc, ◌≤◌, List, ◌∷◌, true, false, Option, Some, None, refl, ap, ◌∙◌, arith}
use Rattle.std.specs.Prelude.{codes, nat_le, not, is_some, option_map}
use Rattle.std.proofs.lemmas.Bool.{leb-true, and_parts, and_right, and_from}
use Rattle.dcc_c.specs.Token.{WordToken, Mark}
use Rattle.dcc_c.specs.Lexing.{Placed}
use Rattle.dcc_c.specs.Tree.{Word, Expr, Stmt, Assign, Call}
use Rattle.dcc_c.specs.Grammar.{mark, word, is_name, IsExpr, IsPlace, name_place, deref_place, IsCall, call, Around}
use Rattle.dcc_c.specs.Rules.{expr_depth, most_open}
use Rattle.dcc_c.specs.Partial.{WordAt, PartialExpr, PartialStmt, AssignOf, CallOf, BreakOf, ContinueOf}
use Rattle.dcc_c.specs.Reading.{Reader, Got, got, is_stopped, skip, is_the_mark, sees_word, take_mark}
use Rattle.dcc_c.specs.ReadingStatements.{begins_call, read_call, read_place, read_assigned, read_simple, read_leave, read_goto, read_return, read_if, read_test, read_stmt}
use Rattle.dcc_c.specs.Stripped.{plain_expr, plain_stmt}
use Rattle.dcc_c.proofs.reading.Statements.{IsEnoughFor, on, first_of}
use Rattle.dcc_c.proofs.reading.Stopping.{if-true, if-false}
use Rattle.dcc_c.proofs.reading.StmtStopping.{call_named}
use Rattle.dcc_c.proofs.reading.StmtParts.{are_shallow}
use Rattle.dcc_c.proofs.reading.SimpleSound.{IsShallowStmt}
use Rattle.dcc_c.proofs.reading.Derivations.{opening_after, flat_after, name_other}
use Rattle.dcc_c.proofs.reading.Leads.{place_leads}
use Rattle.dcc_c.proofs.reading.PartsComplete.{expr_no_call, take_name-is, place-complete, arguments-complete, value-complete}
use Rattle.dcc_c.proofs.reading.StmtKinds.{semicolon_stmts, last_stmts, return_stmts, goto_stmts, leave_stmts, switch_stmt, switch_stmts, for_stmt, for_stmts, do_stmt, do_stmts, while_stmt, while_stmts}

-- The statement was read, with exactly the rest left.
pub record FindsStmt (s : Stmt) (after : ℕ) (rest : List Placed) (g : Got PartialStmt) : Type 0 where
  pub partial : PartialStmt
  pub following : ℕ
  pub same : plain_stmt partial ≡ s
  pub is : g ≡ got partial (on rest following after)

-- A statement that begins with a name is an assignment or a call.
pub named_stmt : (calls : ℕ) (around : Around) (at line depth : ℕ) (bytes : Word) (rest : List Placed) → is_name bytes ≡ true →
    read_stmt (suc calls) around (on (word line bytes ∷ rest) at depth) ≡ read_simple calls (on (word line bytes ∷ rest) at depth)
named_stmt calls around at line depth bytes rest good =
    let r : Reader = on (word line bytes ∷ rest) at depth in
    if-false (sees_word (codes "if") r) (read_if calls around (read_test calls (skip r))) (while_stmts calls around r) (name_other bytes (codes "if") good refl)
    ∙ (if-false (sees_word (codes "while") r) (while_stmt calls around r) (do_stmts calls around r) (name_other bytes (codes "while") good refl)
    ∙ (if-false (sees_word (codes "do") r) (do_stmt calls around r) (for_stmts calls around r) (name_other bytes (codes "do") good refl)
    ∙ (if-false (sees_word (codes "for") r) (for_stmt calls around r) (switch_stmts calls around r) (name_other bytes (codes "for") good refl)
    ∙ (if-false (sees_word (codes "switch") r) (switch_stmt calls around r) (leave_stmts calls around r) (name_other bytes (codes "switch") good refl)
    ∙ (if-false (sees_word (codes "break") r) (read_leave around.breaks BreakOf r) (goto_stmts calls around r) (name_other bytes (codes "break") good refl)
    ∙ (if-false (sees_word (codes "continue") r) (read_leave around.continues ContinueOf r) (return_stmts calls r) (name_other bytes (codes "continue") good refl)
    ∙ (if-false (sees_word (codes "goto") r) (read_goto r) (last_stmts calls r) (name_other bytes (codes "goto") good refl)
    ∙ if-false (sees_word (codes "return") r) (read_return calls r) (semicolon_stmts calls r) (name_other bytes (codes "return") good refl))))))))

-- Calls.

call_rest : ℕ → ℕ → Option PartialExpr → WordAt → Got (List PartialExpr) → Got PartialStmt
call_rest calls depth place function arguments =
    let end = take_mark (codes ")") arguments.following in
    got (CallOf place (record { function = function; arguments = arguments.value; closed = not (is_stopped end); depth = depth })) (take_mark (codes ";") end)

pub call-complete : {end : ℕ} {tokens rest : List Placed} {function : Word} {es : List Expr} → IsCall tokens function es (mark end (codes ";") ∷ rest) →
    (calls at depth : ℕ) (place : Option PartialExpr) → IsEnoughFor calls 0 tokens → most_open 0 tokens ≤ 200 → are_shallow es ≡ true →
    FindsStmt (Call (option_map plain_expr place) function es depth) depth rest (read_call calls place (on tokens at depth))
unfolding call_rest
call-complete {end} {rest} (call {at = line} {opening} {closing} {tokens} {arguments = es} function good derived) calls at depth place enough few deep =
    let within = opening_after 0 opening tokens (flat_after (WordToken function) 0 line (mark opening (codes "(") ∷ tokens) refl few) in
    let found = arguments-complete derived calls (suc (suc at)) depth (omega arith) within deep in
    let name : WordAt = record { word = function; at = at } in
    record {
      partial = CallOf place (record { function = name; arguments = found.partials; closed = true; depth = depth });
      following = suc (suc found.following);
      same = ap (λ xs. Call (option_map plain_expr place) function xs depth) found.same;
      is = ap (λ (g : Got (Option WordAt)). call_named calls place g.value g.following) (take_name-is line at depth function (mark opening (codes "(") ∷ tokens) good)
          ∙ ap (λ arguments. call_rest calls depth place name arguments) found.is;
    }

-- a call begins here
call_begins : {rest tokens : List Placed} {function : Word} {es : List Expr} → IsCall tokens function es rest → (at depth : ℕ) → begins_call (on tokens at depth) ≡ true
call_begins (call function good derived) at depth = and_from _ _ (ap is_some (if-true (is_name function) (Some function) None good)) refl

-- Assignments.

-- a place is not the beginning of a call, where it stands before an assignment
place_no_call : {equals : ℕ} {tokens right rest : List Placed} {e : Expr} → IsPlace tokens e rest → rest ≡ mark equals (codes "=") ∷ right → (at depth : ℕ) →
    begins_call (on tokens at depth) ≡ false
place_no_call (name_place bytes good) same at depth = and_right _ _ (ap (λ ts. is_the_mark (codes "(") (first_of ts)) same)
place_no_call (deref_place a) same at depth = refl

-- what takes a value at the place, after the place
assigned-is : {equals : ℕ} {tokens right : List Placed} {place : Expr} → IsPlace tokens place (mark equals (codes "=") ∷ right) → (calls at depth : ℕ) (p : PartialExpr) (following : ℕ) →
    read_place calls (on tokens at depth) ≡ got p (on (mark equals (codes "=") ∷ right) following depth) →
    read_simple calls (on tokens at depth) ≡ read_assigned calls (got p (on (mark equals (codes "=") ∷ right) following depth))
assigned-is {equals} {tokens} {right} derived calls at depth p following is =
    if-false (begins_call (on tokens at depth)) _ _ (place_no_call derived refl at depth) ∙ ap (read_assigned calls) is

pub assign-complete : {equals end : ℕ} {tokens right rest : List Placed} {place e : Expr} → IsPlace tokens place (mark equals (codes "=") ∷ right) →
    IsExpr 0 right e (mark end (codes ";") ∷ rest) → (calls at depth : ℕ) → IsEnoughFor calls 0 tokens → most_open 0 tokens ≤ 200 → IsShallowStmt (Assign place e) →
    FindsStmt (Assign place e) depth rest (read_simple calls (on tokens at depth))
assign-complete {equals} {end} {tokens} {right} {rest} {place} {e} to value calls at depth enough few deep =
    let parts = and_parts (nat_le (expr_depth place) 200) _ (and_parts _ true deep).0 in
    let leads = place_leads to in
    let p = place-complete to calls at depth enough few (leb-true _ 200 parts.0) in
    let within = flat_after (Mark (codes "=")) 0 equals right refl (leads.enclosed few) in
    let v = value-complete value calls (suc p.following) depth (omega (arith, leads.less)) within (leb-true _ 200 (and_parts (nat_le (expr_depth e) 200) true parts.1).0) in
    record {
      partial = AssignOf p.partial (Some v.partial) true;
      following = suc v.following;
      same = ap (λ x. Assign x (plain_expr v.partial)) p.same ∙ ap (Assign place) v.same;
      is = assigned-is to calls at depth p.partial p.following p.is
          ∙ (if-false (begins_call (on right (suc p.following) depth)) _ _ (expr_no_call value refl (suc p.following) depth)
          ∙ ap (λ (g : Got PartialExpr). got (AssignOf p.partial (Some g.value) (not (is_stopped (take_mark (codes ";") g.following)))) (take_mark (codes ";") g.following)) v.is);
    }

pub into-complete : {equals end : ℕ} {tokens right rest : List Placed} {place : Expr} {function : Word} {es : List Expr} → IsPlace tokens place (mark equals (codes "=") ∷ right) →
    IsCall right function es (mark end (codes ";") ∷ rest) → (calls at depth : ℕ) → IsEnoughFor calls 0 tokens → most_open 0 tokens ≤ 200 → IsShallowStmt (Call (Some place) function es depth) →
    FindsStmt (Call (Some place) function es depth) depth rest (read_simple calls (on tokens at depth))
into-complete {equals} {end} {tokens} {right} {rest} {place} {function} {es} to value calls at depth enough few deep =
    let parts = and_parts (nat_le (expr_depth place) 200) _ (and_parts _ true deep).0 in
    let leads = place_leads to in
    let p = place-complete to calls at depth enough few (leb-true _ 200 parts.0) in
    let within = flat_after (Mark (codes "=")) 0 equals right refl (leads.enclosed few) in
    let v = call-complete value calls (suc p.following) depth (Some p.partial) (omega (arith, leads.less)) within parts.1 in
    record {
      partial = v.partial;
      following = v.following;
      same = v.same ∙ ap (λ x. Call (Some x) function es depth) p.same;
      is = assigned-is to calls at depth p.partial p.following p.is ∙ (if-true (begins_call (on right (suc p.following) depth)) _ _ (call_begins value (suc p.following) depth) ∙ v.is);
    }

pub alone-complete : {end : ℕ} {tokens rest : List Placed} {function : Word} {es : List Expr} → IsCall tokens function es (mark end (codes ";") ∷ rest) →
    (calls at depth : ℕ) → IsEnoughFor calls 0 tokens → most_open 0 tokens ≤ 200 → IsShallowStmt (Call None function es depth) →
    FindsStmt (Call None function es depth) depth rest (read_simple calls (on tokens at depth))
alone-complete {tokens} value calls at depth enough few deep =
    let v = call-complete value calls at depth None enough few (and_parts _ true deep).0 in
    record {
      partial = v.partial;
      following = v.following;
      same = v.same;
      is = if-true (begins_call (on tokens at depth)) _ _ (call_begins value at depth) ∙ v.is;
    }
