-- All statements in a body of a graph's text pass a test, where the texts of the graph's statements and of the ends of its
-- blocks do.
use Rattle.std.proofs.Common.{◌≡◌, ℕ, Bool, true, List, [], ◌∷◌, ◌++◌, Option, Some, None, slice_get, refl, sym, ap, ◌∙◌, subst, true≢false}
use Rattle.std.specs.List.{list_all}
use Rattle.std.proofs.lemmas.Bool.{and_parts, and_from}
use Rattle.std.proofs.lemmas.List.Folds.{list_all-append}
use Rattle.dcc_ir.specs.Tree as inner
use Rattle.dcc_ir.specs.Live.{block_in}
use Rattle.dcc_c.specs.Parts.{stmts_in, inner_stmts, arm_stmts}
use Rattle.dcc_c.specs.Tree.{Word, Stmt, Assign, If, While, DoWhile, Forever, Switch, Break, Continue, Goto, Label, Empty, Lines, no_lines, line, Arms, no_arms}
use Rattle.dcc_text.specs.Spelling.{Spelling}
use Rattle.dcc_text.specs.Stmts.{stmt_text}
use Rattle.dcc_variables.specs.Functions.{BeginsWith}
use Rattle.dcc_control.specs.Plan as plan
use Rattle.dcc_control.specs.Plan.{Plan, Item}
use Rattle.dcc_plan.specs.PlanText.{text_of_way, text_of_choice, text_of_return, is_true_first, IsPlanText, nothing, one_more, IsItemText, does, marks, jumps, tests, chooses, returns, repeats, tests_first, tests_last, breaks, continues, does_nothing, AreArmsText, no_more, next_arm}
use Rattle.dcc_pipe.proofs.OpeningLines.{is_assignment}

-- statements of blocks have no statements inside
inside-none : (s : Spelling) (stmt : inner.Stmt) → inner_stmts (stmt_text s 2 stmt) ≡ []
inside-none s (inner.Set l e) = refl
inside-none s (inner.Fetch l width address) = refl
inside-none s (inner.Store width address e) = refl
inside-none s (inner.Div l e) = refl
inside-none s (inner.Call [] entry arguments depth) = refl
inside-none s (inner.Call (l ∷ results) entry arguments depth) = refl
inside-none s (inner.Dos number None argument) = refl
inside-none s (inner.Dos number (Some l) argument) = refl

-- the texts pass that a plan is made of
pub record TextsPass (s : Spelling) (graph : inner.Graph) (test : Stmt → Bool) : Type 0 where
  pub done : (b m : ℕ) (stmt : inner.Stmt) → slice_get (block_in graph b).stmts m ≡ Some stmt
      → test (stmt_text s 2 stmt) ≡ true
  pub tested : (b : ℕ) (on : Bool) (first second : Lines)
      → test (If (text_of_way s on (block_in graph b).exit) first second) ≡ true
  pub tested_first : (b : ℕ) (on : Bool) (body : Lines) → test (While (text_of_way s on (block_in graph b).exit) body) ≡ true
  pub tested_last : (b : ℕ) (on : Bool) (body : Lines) → test (DoWhile body (text_of_way s on (block_in graph b).exit)) ≡ true
  pub chosen : (b : ℕ) (bodies : Arms) → test (Switch (text_of_choice s (block_in graph b).exit) bodies no_arms) ≡ true
  pub returned : (b : ℕ) → test (text_of_return s (block_in graph b).exit) ≡ true
  pub repeated : (body : Lines) → test (Forever body) ≡ true
  pub marked : (word : Word) → test (Label word) ≡ true
  pub jumped : (word : Word) → test (Goto word) ≡ true
  pub broken : test Break ≡ true
  pub continued : test Continue ≡ true
  pub empty : test Empty ≡ true

module _ (s : Spelling) (graph : inner.Graph) (test : Stmt → Bool) (pass : TextsPass s graph test) where
  abbrev Pass : List Stmt → Type 0
  Pass stmts = list_all test stmts ≡ true

  joined : (xs ys : List Stmt) → Pass xs → Pass ys → Pass (xs ++ ys)
  joined xs ys first second = list_all-append test xs ys ∙ and_from (list_all test xs) (list_all test ys) first second

  abbrev PassStmt : Stmt → Type 0
  PassStmt stmt = (test stmt ≡ true) × Pass (inner_stmts stmt)

  done-passes : (b m : ℕ) (o : Option inner.Stmt) → slice_get (block_in graph b).stmts m ≡ o
      → PassStmt (elim o [ Some stmt ↦ stmt_text s 2 stmt | None ↦ Empty ])
  done-passes b m (Some stmt) is = (pass.done b m stmt is, ap (list_all test) (inside-none s stmt))
  done-passes b m None is = (pass.empty, refl)

  return-inside : (exit : inner.Exit) → Pass (inner_stmts (text_of_return s exit))
  return-inside (inner.Ret values) = refl
  return-inside (inner.Goto next) = refl
  return-inside (inner.If condition one other) = refl
  return-inside (inner.Switch e places) = refl
  return-inside inner.Stop = refl

  mutual
    pub plan-passes : {p : Plan} {lines : Lines} → IsPlanText s graph p lines → Pass (stmts_in lines)
    plan-passes nothing = refl
    plan-passes (one_more {stmt = stmt} {lines = lines} i p) =
        let here = item-passes i in
        and_from (test stmt) (list_all test (inner_stmts stmt ++ stmts_in lines)) here.0
        (joined (inner_stmts stmt) (stmts_in lines) here.1 (plan-passes p))

    item-passes : {i : Item} {stmt : Stmt} → IsItemText s graph i stmt → PassStmt stmt
    item-passes (does {b = b} {m = m}) = done-passes b m (slice_get (block_in graph b).stmts m) refl
    item-passes marks = (pass.marked _, refl)
    item-passes jumps = (pass.jumped _, refl)
    item-passes (tests {b = b} {one = one} {other = other} {first = first} {second = second} p q) = (
      pass.tested b (is_true_first graph one other) first second,
      joined (stmts_in first) (stmts_in second) (plan-passes p) (plan-passes q),
    )
    item-passes (chooses {b = b} {bodies = bodies} arms) =
        (pass.chosen b bodies, joined (arm_stmts bodies) [] (arms-pass arms) refl)
    item-passes (returns {b = b}) = (pass.returned b, return-inside (block_in graph b).exit)
    item-passes (repeats {lines = lines} p) = (pass.repeated lines, plan-passes p)
    item-passes (tests_first {on = on} {b = b} {lines = lines} p) = (pass.tested_first b on lines, plan-passes p)
    item-passes (tests_last {on = on} {b = b} {lines = lines} p) = (pass.tested_last b on lines, plan-passes p)
    item-passes breaks = (pass.broken, refl)
    item-passes continues = (pass.continued, refl)
    item-passes does_nothing = (pass.empty, refl)

    arms-pass : {arms : plan.Arms} {bodies : Arms} → AreArmsText s graph arms bodies → Pass (arm_stmts bodies)
    arms-pass no_more = refl
    arms-pass (next_arm {lines = lines} {bodies = bodies} p arms) =
        joined (stmts_in lines) (arm_stmts bodies) (plan-passes p) (arms-pass arms)

  -- the statements of a body that opens with assignments pass
  pub opened-passes : (stmts : List Stmt) → Pass stmts → list_all is_assignment stmts ≡ true → (body lines : Lines)
      → BeginsWith stmts body lines → Pass (stmts_in lines) → Pass (stmts_in body)
  opened-passes [] all assign body lines begins later = subst (λ b. Pass (stmts_in b)) (sym begins) later
  opened-passes (Assign place e ∷ stmts) all assign (line first at body) lines begins later =
      let parts = and_parts (test (Assign place e)) (list_all test stmts) all in
      subst (λ stmt. Pass (stmt ∷ (inner_stmts stmt ++ stmts_in body))) (sym begins.0)
      (and_from (test (Assign place e)) (list_all test (stmts_in body)) parts.0
      (opened-passes stmts parts.1 assign body lines begins.1 later))
  opened-passes (Assign place e ∷ stmts) all assign no_lines lines begins later = absurd begins
  opened-passes (stmt ∷ stmts) all assign body lines begins later = absurd (true≢false (sym assign))
