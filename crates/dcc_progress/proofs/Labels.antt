-- A jump finds its label.
use Rattle.std.proofs.Common.{◌≡◌, ℕ, Bool, true, false, ◌||◌, List, ◌∷◌, ◌++◌, Option, Some, None, refl, sym, ap, ◌∙◌}
use Rattle.std.specs.Prelude.{is_some, if◌then◌else◌}
use Rattle.std.specs.List.{list_any, flat_map}
use Rattle.std.proofs.lemmas.List.Folds.{list_any-append}
use Rattle.std.proofs.lemmas.Grind.{flat_map-append}
use Rattle.dcc_c.specs.Token.{same_bytes}
use Rattle.dcc_c.specs.Tree.{Word, Stmt, If, While, DoWhile, Forever, Switch, Label, Lines, no_lines, line, Arms, no_arms, arm}
use Rattle.dcc_c.specs.Parts.{stmts_in, inner_stmts, arm_stmts, label_of}
use Rattle.dcc_c.specs.Run.{Continuation, runs, tests, turns, ends_switch, first_of, from_label, from_label_inside, from_label_in_arms}

-- a label with the name stands among the statements
has_label : Word → List Stmt → Bool
has_label word stmts = list_any (same_bytes word) (flat_map label_of stmts)

has-append : (word : Word) (xs ys : List Stmt) → has_label word (xs ++ ys) ≡ (has_label word xs || has_label word ys)
unfolding has_label
has-append word xs ys =
    ap (list_any (same_bytes word)) (flat_map-append label_of xs ys) ∙ list_any-append (same_bytes word) (flat_map label_of xs) (flat_map label_of ys)

first-some : (a b : Option Continuation) → is_some (first_of a b) ≡ (is_some a || is_some b)
first-some (Some rest) b = refl
first-some None b = refl

both-some : (a b : Option Continuation) (word : Word) (xs ys : List Stmt) → is_some a ≡ has_label word xs → is_some b ≡ has_label word ys → is_some (first_of a b) ≡ has_label word (xs ++ ys)
both-some a b word xs ys first second =
    first-some a b ∙ ap (λ c. c || is_some b) first ∙ ap (λ c. has_label word xs || c) second ∙ sym (has-append word xs ys)

-- a label stands here, or not
label-here : (b : Bool) (rest : Continuation) → is_some (if b then Some rest else None) ≡ (b || false)
label-here true rest = refl
label-here false rest = refl

-- the statement itself and those inside it
stmt-some : (found following : Option Continuation) (word : Word) (stmt : Stmt) (others : List Stmt) → is_some found ≡ has_label word (stmt ∷ inner_stmts stmt) → is_some following ≡ has_label word others →
    is_some (first_of found following) ≡ has_label word (stmt ∷ (inner_stmts stmt ++ others))
stmt-some found following word stmt others first second = both-some found following word (stmt ∷ inner_stmts stmt) others first second

mutual
  unfolding has_label

  lines-label : (lines : Lines) (word : Word) (rest : Continuation) → is_some (from_label word lines rest) ≡ has_label word (stmts_in lines)
  lines-label no_lines word rest = refl
  lines-label (line stmt at lines) word rest =
      stmt-some (from_label_inside word stmt at lines rest) (from_label word lines rest) word stmt (stmts_in lines) (stmt-label stmt word at lines rest) (lines-label lines word rest)

  stmt-label : (stmt : Stmt) (word : Word) (at : ℕ) (lines : Lines) (rest : Continuation) → is_some (from_label_inside word stmt at lines rest) ≡ has_label word (stmt ∷ inner_stmts stmt)
  stmt-label (Label other) word at lines rest = label-here (same_bytes word other) (runs (line (Label other) at lines) rest)
  stmt-label (If e body otherwise) word at lines rest =
      both-some (from_label word body (runs lines rest)) (from_label word otherwise (runs lines rest)) word (stmts_in body) (stmts_in otherwise) (lines-label body word (runs lines rest)) (lines-label otherwise word (runs lines rest))
  stmt-label (While e body) word at lines rest = lines-label body word (tests e body at (runs lines rest))
  stmt-label (DoWhile body e) word at lines rest = lines-label body word (tests e body at (runs lines rest))
  stmt-label (Forever body) word at lines rest = lines-label body word (turns body (runs lines rest))
  stmt-label (Switch e arms last) word at lines rest =
      both-some (from_label_in_arms word arms (ends_switch (runs lines rest))) (from_label_in_arms word last (ends_switch (runs lines rest))) word (arm_stmts arms) (arm_stmts last) (arms-label arms word (ends_switch (runs lines rest))) (arms-label last word (ends_switch (runs lines rest)))
  stmt-label _ word at lines rest = refl

  arms-label : (arms : Arms) (word : Word) (rest : Continuation) → is_some (from_label_in_arms word arms rest) ≡ has_label word (arm_stmts arms)
  arms-label no_arms word rest = refl
  arms-label (arm cases body arms) word rest =
      both-some (from_label word body rest) (from_label_in_arms word arms rest) word (stmts_in body) (arm_stmts arms) (lines-label body word rest) (arms-label arms word rest)

-- there is a place to go on from, where there is a label with the name
pub label-found : (lines : Lines) (word : Word) (rest : Continuation) → list_any (same_bytes word) (flat_map label_of (stmts_in lines)) ≡ true → is_some (from_label word lines rest) ≡ true
unfolding has_label
label-found lines word rest has = lines-label lines word rest ∙ has
