-- The statements of a text are writable.
use Rattle.std.proofs.Common.{◌≡◌, ℕ, Bool, true, false, ◌&&◌, List, [], ◌∷◌, ◌++◌, Some, None, refl, ap, sym, ◌∙◌}
use Rattle.std.specs.Prelude.{nat_le}
use Rattle.std.specs.List.{list_all}
use Rattle.std.proofs.lemmas.Bool.{and_parts, and_from, le-leb, not_from_false}
use Rattle.std.proofs.lemmas.List.Folds.{list_all-append}
use Rattle.dcc_c.specs.Token.{Token}
use Rattle.dcc_c.specs.Lexing.{Placed}
use Rattle.dcc_c.specs.Tree.{Word, Expr, Stmt, Assign, Call, Switch, Lines, Arms, no_arms, arm}
use Rattle.dcc_c.specs.Parts.{stmts_in, inner_stmts, arm_stmts, exprs_of}
use Rattle.dcc_c.specs.Grammar.{is_name, Around, IsCaseNumber, plain_decimal, unsigned_decimal, plain_hex, unsigned_hex, AreCases, last_case, more_cases, has_arm, IsStmt, assign, call_alone, call_into, if_alone, if_else, while, do_while, for_ever, switch, break, continue, goto, empty, return_nothing, return_value, IsBlock, block, AreLines, no_more, depth_pragma, label, statement, AreArms, no_arm, case_arm, default_arm}
use Rattle.dcc_c.specs.Rules.{at_most_one}
use Rattle.dcc_c.proofs.Writable.{is_small, is_place, is_label, are_cases, is_writable_stmt, are_writable_lines, are_writable_arms, is_writable_default}
use Rattle.dcc_c.proofs.SmallTokens.{AreSmall, tail_small, head_small}
use Rattle.dcc_c.proofs.WritableExprs.{takes_names, IsWell, AreWell, begins_small, expr_well, is_place-place, place_well, is_name-call, call_well}

-- there is one default arm at most
abbrev pub one_default : Stmt → Bool
one_default (Switch e arms last) = at_most_one last
one_default stmt = true

-- in the statement's expressions each `&` takes a name, and it has one default arm at most
abbrev pub is_sound : Stmt → Bool
is_sound stmt = list_all takes_names (exprs_of stmt) && one_default stmt

abbrev pub are_sound : List Stmt → Type 0
are_sound stmts = list_all is_sound stmts ≡ true

both_sound : (first second : List Stmt) → are_sound (first ++ second) → are_sound first × are_sound second
both_sound first second sound = and_parts _ _ (sym (list_all-append is_sound first second) ∙ sound)

-- what holds of statements in small tokens where they are sound, and of what stands after them
pub record IsKept (sound good : Type 0) (after : ℕ) (rest : List Placed) : Type 0 where
  pub writable : sound → good
  pub depth : is_small after ≡ true
  pub following : AreSmall rest

no_label : {limit : ℕ} {around : Around} {depth after : ℕ} {tokens rest : List Placed} {stmt : Stmt} → IsStmt limit around depth tokens stmt after rest → is_label stmt ≡ false
no_label (assign place e) = refl
no_label (call_alone is) = refl
no_label (call_into place is) = refl
no_label (if_alone e body) = refl
no_label (if_else e body otherwise) = refl
no_label (while e body) = refl
no_label (do_while body e) = refl
no_label (for_ever begins body) = refl
no_label (switch e arms some) = refl
no_label (break inside) = refl
no_label (continue inside) = refl
no_label (goto name is) = refl
no_label empty = refl
no_label return_nothing = refl
no_label (return_value e) = refl

case_small : {token : Token} {n : ℕ} → IsCaseNumber token n → nat_le n 65535 ≡ true
case_small (plain_decimal small) = le-leb _ 65535 small
case_small (unsigned_decimal small) = le-leb _ 65535 small
case_small (plain_hex small) = le-leb _ 65535 small
case_small (unsigned_hex small) = le-leb _ 65535 small

-- cases in small tokens
record AreKept (cases : List ℕ) (rest : List Placed) : Type 0 where
  some : are_cases cases ≡ true
  each : list_all (λ n. nat_le n 65535) cases ≡ true
  following : AreSmall rest

some_from : (n : ℕ) (cases : List ℕ) → list_all (λ n. nat_le n 65535) (n ∷ cases) ≡ true → are_cases (n ∷ cases) ≡ true
some_from n cases each = each

cases_kept : {tokens rest : List Placed} {cases : List ℕ} → AreCases tokens cases rest → AreSmall tokens → AreKept cases rest
cases_kept (last_case {n} is) small =
    let each = and_from (nat_le n 65535) true (case_small is) refl in
    record { some = each; each = each; following = tail_small (tail_small (tail_small small)) }
cases_kept (more_cases {n} {cases} is others) small =
    let kept = cases_kept others (tail_small (tail_small (tail_small small))) in
    let each = and_from (nat_le n 65535) (list_all (λ n. nat_le n 65535) cases) (case_small is) kept.each in
    record { some = each; each = each; following = kept.following }

-- What is shown of each derivation.

abbrev KeptStmt : Around → Stmt → ℕ → List Placed → Type 0
KeptStmt around stmt after rest = IsKept (are_sound (stmt ∷ inner_stmts stmt)) (is_writable_stmt around stmt ≡ true) after rest

abbrev KeptLines : Around → Bool → Lines → ℕ → List Placed → Type 0
KeptLines around labelled lines after rest = IsKept (are_sound (stmts_in lines)) (are_writable_lines around labelled lines ≡ true) after rest

-- arms with cases, and the default arm
record AreSoundArms (arms last : Arms) : Type 0 where
  in_arms : are_sound (arm_stmts arms)
  in_last : are_sound (arm_stmts last)
  one : at_most_one last ≡ true

record AreWritableArms (around : Around) (arms last : Arms) : Type 0 where
  arms_are : are_writable_arms around arms ≡ true
  last_is : is_writable_default around last ≡ true

abbrev KeptArms : Around → Arms → Arms → ℕ → List Placed → Type 0
KeptArms around arms last after rest = IsKept (AreSoundArms arms last) (AreWritableArms around arms last) after rest

-- a statement with one expression
one_sound : (e : Expr) (other : Bool) (inside : List Stmt) → (((takes_names e && true) && other) && list_all is_sound inside) ≡ true →
    (takes_names e ≡ true) × (other ≡ true) × are_sound inside
one_sound e other inside sound =
    let (here, later) = and_parts ((takes_names e && true) && other) (list_all is_sound inside) sound in
    let (takes, more) = and_parts (takes_names e && true) other here in
    ((and_parts (takes_names e) true takes).0, more, later)

assign_good : (around : Around) (place e : Expr) (to from : List Placed) → is_place place ≡ true → IsWell place to → IsWell e from → are_sound (Assign place e ∷ []) → is_writable_stmt around (Assign place e) ≡ true
assign_good around place e to from is first second sound =
    let (here, later) = and_parts (is_sound (Assign place e)) true sound in
    let (takes, more) = and_parts (takes_names place && (takes_names e && true)) true here in
    let (left, right) = and_parts (takes_names place) (takes_names e && true) takes in
    and_from _ _ (and_from _ _ is (first.writable left)) (second.writable (and_parts (takes_names e) true right).0)

call_good : (around : Around) (function : Word) (arguments : List Expr) (depth : ℕ) (rest : List Placed) → is_name function ≡ true → is_small depth ≡ true → AreWell arguments rest → are_sound (Call None function arguments depth ∷ []) → is_writable_stmt around (Call None function arguments depth) ≡ true
call_good around function arguments depth rest is small well sound =
    let (here, later) = and_parts (is_sound (Call None function arguments depth)) true sound in
    let (takes, more) = and_parts (list_all takes_names arguments) true here in
    and_from (is_name function) _ is (and_from _ (is_small depth) (well.writable takes) small)

call_into_good : (around : Around) (place : Expr) (function : Word) (arguments : List Expr) (depth : ℕ) (to rest : List Placed) → is_place place ≡ true → IsWell place to → is_name function ≡ true → is_small depth ≡ true → AreWell arguments rest → are_sound (Call (Some place) function arguments depth ∷ []) → is_writable_stmt around (Call (Some place) function arguments depth) ≡ true
call_into_good around place function arguments depth to rest is_at first is small well sound =
    let (here, later) = and_parts (is_sound (Call (Some place) function arguments depth)) true sound in
    let (takes, more) = and_parts (takes_names place && list_all takes_names arguments) true here in
    let (left, right) = and_parts (takes_names place) (list_all takes_names arguments) takes in
    and_from _ _ (and_from _ _ is_at (first.writable left)) (and_from (is_name function) _ is (and_from _ (is_small depth) (well.writable right) small))

-- after the one default arm there is no other
no_other : (body : Lines) (last : Arms) → at_most_one (arm [] body last) ≡ true → has_arm last ≡ false
no_other body no_arms one = refl
no_other body (arm cases inner arms) one = absurd cc

one_if_none : (last : Arms) → has_arm last ≡ false → at_most_one last ≡ true
one_if_none no_arms single = refl
one_if_none (arm cases inner arms) single = absurd cc

mutual
  stmt_kept : {around : Around} {depth after : ℕ} {tokens rest : List Placed} {stmt : Stmt} → IsStmt 200 around depth tokens stmt after rest → AreSmall tokens → is_small depth ≡ true → KeptStmt around stmt after rest
  stmt_kept (assign {around} {place} {e} to from) small deep =
      let first = place_well to small in
      let second = expr_well from (tail_small first.following) in
      record { writable = assign_good around place e _ _ (is_place-place to) first second; depth = deep; following = tail_small second.following }
  stmt_kept (call_alone {around} {depth} {function} {arguments} is) small deep =
      let well = call_well is small in
      record { writable = call_good around function arguments depth _ (is_name-call is) deep well; depth = deep; following = tail_small well.following }
  stmt_kept (call_into {around} {depth} {place} {function} {arguments} to is) small deep =
      let first = place_well to small in
      let well = call_well is (tail_small first.following) in
      record { writable = call_into_good around place function arguments depth _ _ (is_place-place to) first (is_name-call is) deep well; depth = deep; following = tail_small well.following }
  stmt_kept (if_alone {around} {e} {body} test inner) small deep =
      let well = expr_well test (tail_small (tail_small small)) in
      let kept = block_kept inner (tail_small well.following) deep in
      record {
        writable = λ sound.
            let (takes, more, inside) = one_sound e true (stmts_in body ++ []) sound in
            and_from _ _ (well.writable takes) (and_from _ true (kept.writable (both_sound (stmts_in body) [] inside).0) refl);
        depth = kept.depth;
        following = kept.following;
      }
  stmt_kept (if_else {around} {e} {body} {otherwise} test inner other) small deep =
      let well = expr_well test (tail_small (tail_small small)) in
      let kept = block_kept inner (tail_small well.following) deep in
      let later = block_kept other (tail_small kept.following) kept.depth in
      record {
        writable = λ sound.
            let (takes, more, inside) = one_sound e true (stmts_in body ++ stmts_in otherwise) sound in
            let (first, second) = both_sound (stmts_in body) (stmts_in otherwise) inside in
            and_from _ _ (well.writable takes) (and_from _ _ (kept.writable first) (later.writable second));
        depth = later.depth;
        following = later.following;
      }
  stmt_kept (while {around} {e} {body} test inner) small deep =
      let well = expr_well test (tail_small (tail_small small)) in
      let kept = block_kept inner (tail_small well.following) deep in
      record {
        writable = λ sound.
            let (takes, more, inside) = one_sound e true (stmts_in body) sound in
            and_from _ _ (well.writable takes) (kept.writable inside);
        depth = kept.depth;
        following = kept.following;
      }
  stmt_kept (do_while {around} {body} {e} inner test) small deep =
      let kept = block_kept inner (tail_small small) deep in
      let well = expr_well test (tail_small (tail_small kept.following)) in
      record {
        writable = λ sound.
            let (takes, more, inside) = one_sound e true (stmts_in body) sound in
            and_from _ _ (well.writable takes) (kept.writable inside);
        depth = kept.depth;
        following = tail_small (tail_small well.following);
      }
  stmt_kept (for_ever {around} {body} begins inner) small deep =
      let kept = block_kept inner (begins_small begins small) deep in
      record { writable = kept.writable; depth = kept.depth; following = kept.following }
  stmt_kept (switch {around} {e} {arms} {last} test inner some) small deep =
      let well = expr_well test (tail_small (tail_small small)) in
      let kept = arms_kept inner (tail_small (tail_small well.following)) deep in
      record {
        writable = λ sound.
            let (takes, single, inside) = one_sound e (at_most_one last) (arm_stmts arms ++ arm_stmts last) sound in
            let (first, second) = both_sound (arm_stmts arms) (arm_stmts last) inside in
            let good = kept.writable (record { in_arms = first; in_last = second; one = single }) in
            and_from _ _ (well.writable takes) (and_from _ _ some (and_from _ _ good.arms_are good.last_is));
        depth = kept.depth;
        following = tail_small kept.following;
      }
  stmt_kept (break inside) small deep = record { writable = λ sound. inside; depth = deep; following = tail_small (tail_small small) }
  stmt_kept (continue inside) small deep = record { writable = λ sound. inside; depth = deep; following = tail_small (tail_small small) }
  stmt_kept (goto name is) small deep = record { writable = λ sound. is; depth = deep; following = tail_small (tail_small (tail_small small)) }
  stmt_kept empty small deep = record { writable = λ sound. refl; depth = deep; following = tail_small small }
  stmt_kept return_nothing small deep = record { writable = λ sound. refl; depth = deep; following = tail_small (tail_small small) }
  stmt_kept (return_value {e} is) small deep =
      let well = expr_well is (tail_small small) in
      record { writable = λ sound. well.writable (one_sound e true [] sound).0; depth = deep; following = tail_small well.following }

  block_kept : {around : Around} {depth after : ℕ} {tokens rest : List Placed} {lines : Lines} → IsBlock 200 around depth tokens lines after rest → AreSmall tokens → is_small depth ≡ true → KeptLines around false lines after rest
  block_kept (block inner) small deep =
      let kept = lines_kept inner (tail_small small) deep in
      record { writable = kept.writable; depth = kept.depth; following = tail_small kept.following }

  pub lines_kept : {around : Around} {labelled : Bool} {depth after : ℕ} {tokens rest : List Placed} {lines : Lines} → AreLines 200 around labelled depth tokens lines after rest → AreSmall tokens → is_small depth ≡ true → KeptLines around labelled lines after rest
  lines_kept no_more small deep = record { writable = λ sound. refl; depth = deep; following = small }
  lines_kept (depth_pragma blocks inner) small deep =
      lines_kept inner (tail_small (tail_small small)) (head_small (tail_small small))
  lines_kept (label {around} {lines} name is blocks inner) small deep =
      let kept = lines_kept inner (tail_small (tail_small small)) deep in
      record {
        writable = λ sound. and_from _ _ (le-leb _ 200 blocks) (and_from _ _ is (kept.writable sound));
        depth = kept.depth;
        following = kept.following;
      }
  lines_kept (statement {around} {stmt} {lines} blocks first inner) small deep =
      let here = stmt_kept first small deep in
      let later = lines_kept inner here.following here.depth in
      record {
        writable = λ sound.
            let (in_first, in_later) = both_sound (stmt ∷ inner_stmts stmt) (stmts_in lines) sound in
            and_from _ _ (le-leb _ 200 blocks) (and_from _ _ (here.writable in_first) (ap (λ b. are_writable_lines around b lines) (no_label first) ∙ later.writable in_later));
        depth = later.depth;
        following = later.following;
      }

  arms_kept : {around : Around} {depth after : ℕ} {tokens rest : List Placed} {arms last : Arms} → AreArms 200 around depth tokens arms last after rest → AreSmall tokens → is_small depth ≡ true → KeptArms around arms last after rest
  arms_kept no_arm small deep = record { writable = λ sound. record { arms_are = refl; last_is = refl }; depth = deep; following = small }
  arms_kept (case_arm {around} {cases} {body} {arms} {last} numbers few inner others) small deep =
      let first = cases_kept numbers small in
      let kept = lines_kept inner first.following deep in
      let later = arms_kept others (tail_small (tail_small kept.following)) kept.depth in
      record {
        writable = λ sound.
            let (in_body, in_arms) = both_sound (stmts_in body) (arm_stmts arms) sound.in_arms in
            let good = later.writable (record { in_arms = in_arms; in_last = sound.in_last; one = sound.one }) in
            record { arms_are = and_from _ _ (le-leb _ 200 few) (and_from _ _ first.some (and_from _ _ (kept.writable in_body) good.arms_are)); last_is = good.last_is };
        depth = later.depth;
        following = later.following;
      }
  arms_kept (default_arm {around} {body} {arms} {last} few inner others) small deep =
      let kept = lines_kept inner (tail_small (tail_small small)) deep in
      let later = arms_kept others (tail_small (tail_small kept.following)) kept.depth in
      record {
        writable = λ sound.
            let (in_body, in_last) = both_sound (stmts_in body) (arm_stmts last) sound.in_last in
            let single = no_other body last sound.one in
            let good = later.writable (record { in_arms = sound.in_arms; in_last = in_last; one = one_if_none last single }) in
            record { arms_are = good.arms_are; last_is = and_from _ _ (le-leb _ 200 few) (and_from _ _ (kept.writable in_body) (not_from_false (has_arm last) single)) };
        depth = later.depth;
        following = later.following;
      }
