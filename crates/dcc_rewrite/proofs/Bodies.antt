-- Statements, their blocks and arms, with their expressions otherwise written.
use Rattle.std.proofs.Common.{◌≡◌, List, [], ◌∷◌, ◌++◌, Vec, Global, Option, refl, sym, ap, ap₂, ◌∙◌}
use Rattle.std.specs.Prelude.{ℕ}
use Rattle.std.specs.List.{AllZip}
use Rattle.dcc_c.specs.declared.syntax.CExpr.{CExpr}
use Rattle.dcc_c.specs.declared.syntax.CStmt.{If as IfOf, While as WhileOf, DoWhile as DoWhileOf, Forever as ForeverOf, Switch as SwitchOf}
use Rattle.dcc_c.specs.declared.syntax.Line.{Line}
use Rattle.dcc_c.specs.declared.syntax.Arm.{Arm, out-Arm}
use Rattle.dcc_c.specs.Tree.{If, While, DoWhile, Forever, Switch, Lines, line, Arms, arm}
use Rattle.dcc_c.specs.Views.{expr_of, stmt_of, lines_of, arm_before, arms_of, arms_if}
use Rattle.dcc_c.proofs.RowLaws.{arm-parts, if-tree, while-tree, do_while-tree, forever-tree, switch-tree}
use Rattle.dcc_respell.specs.Writing.{Writing, stmt_by, lines_by, arms_by}

module _ (w : Writing) where
  pub if-by : (e after : CExpr) (body otherwise there others : Vec Line Global) → expr_of after ≡ w.test (expr_of e) → lines_of there.items ≡ lines_by w (lines_of body.items) → lines_of others.items ≡ lines_by w (lines_of otherwise.items) →
      stmt_of (IfOf after there others) ≡ stmt_by w (stmt_of (IfOf e body otherwise))
  if-by e after body otherwise there others test first second =
      if-tree after there others
      ∙ ap (λ x. If x (lines_of there.items) (lines_of others.items)) test
      ∙ ap (λ x. If (w.test (expr_of e)) x (lines_of others.items)) first
      ∙ ap (λ x. If (w.test (expr_of e)) (lines_by w (lines_of body.items)) x) second
      ∙ ap (stmt_by w) (sym (if-tree e body otherwise))

  pub while-by : (e after : CExpr) (body there : Vec Line Global) → expr_of after ≡ w.test (expr_of e) → lines_of there.items ≡ lines_by w (lines_of body.items) →
      stmt_of (WhileOf after there) ≡ stmt_by w (stmt_of (WhileOf e body))
  while-by e after body there test lines =
      while-tree after there
      ∙ ap (λ x. While x (lines_of there.items)) test
      ∙ ap (λ x. While (w.test (expr_of e)) x) lines
      ∙ ap (stmt_by w) (sym (while-tree e body))

  pub do_while-by : (e after : CExpr) (body there : Vec Line Global) → expr_of after ≡ w.test (expr_of e) → lines_of there.items ≡ lines_by w (lines_of body.items) →
      stmt_of (DoWhileOf there after) ≡ stmt_by w (stmt_of (DoWhileOf body e))
  do_while-by e after body there test lines =
      do_while-tree after there
      ∙ ap (λ x. DoWhile (lines_of there.items) x) test
      ∙ ap (λ x. DoWhile x (w.test (expr_of e))) lines
      ∙ ap (stmt_by w) (sym (do_while-tree e body))

  pub forever-by : (body there : Vec Line Global) → lines_of there.items ≡ lines_by w (lines_of body.items) →
      stmt_of (ForeverOf there) ≡ stmt_by w (stmt_of (ForeverOf body))
  forever-by body there lines = forever-tree there ∙ ap Forever lines ∙ ap (stmt_by w) (sym (forever-tree body))

  pub switch-by : (e after : CExpr) (arms there : Vec Arm Global) (last others : Option Arm) → expr_of after ≡ w.choice (expr_of e) → arms_of there.items ≡ arms_by w (arms_of arms.items) → arms_if others ≡ arms_by w (arms_if last) →
      stmt_of (SwitchOf after there others) ≡ stmt_by w (stmt_of (SwitchOf e arms last))
  switch-by e after arms there last others value first second =
      switch-tree after there others
      ∙ ap (λ x. Switch x (arms_of there.items) (arms_if others)) value
      ∙ ap (λ x. Switch (w.choice (expr_of e)) x (arms_if others)) first
      ∙ ap (λ x. Switch (w.choice (expr_of e)) (arms_by w (arms_of arms.items)) x) second
      ∙ ap (stmt_by w) (sym (switch-tree e arms last))

  pub arm-by : (a after : Arm) (rest : Arms) → (out-Arm after).cases.items ≡ (out-Arm a).cases.items → lines_of (out-Arm after).body.items ≡ lines_by w (lines_of (out-Arm a).body.items) →
      arm_before after (arms_by w rest) ≡ arms_by w (arm_before a rest)
  arm-by a after rest cases body =
      arm-parts after (arms_by w rest)
      ∙ ap (λ x. arm x (lines_of (out-Arm after).body.items) (arms_by w rest)) cases
      ∙ ap (λ x. arm (out-Arm a).cases.items x (arms_by w rest)) body
      ∙ ap (arms_by w) (sym (arm-parts a rest))

-- lines and arms, some of them otherwise written already
abbrev pub appended_lines : List Line → Lines → Lines
appended_lines [] rest = rest
appended_lines (l ∷ ls) rest = line (stmt_of l.stmt) l.line (appended_lines ls rest)

abbrev pub appended_arms : List Arm → Arms → Arms
appended_arms [] rest = rest
appended_arms (a ∷ more) rest = arm_before a (appended_arms more rest)

pub one-more-line : (ls : List Line) (l : Line) (rest : Lines) → appended_lines (ls ++ l ∷ []) rest ≡ appended_lines ls (line (stmt_of l.stmt) l.line rest)
one-more-line [] l rest = refl
one-more-line (x ∷ ls) l rest = ap (line (stmt_of x.stmt) x.line) (one-more-line ls l rest)

pub no-more-lines : (ls : List Line) → appended_lines ls (lines_of []) ≡ lines_of ls
no-more-lines [] = refl
no-more-lines (x ∷ ls) = ap (line (stmt_of x.stmt) x.line) (no-more-lines ls)

pub one-more-arm : (arms : List Arm) (a : Arm) (rest : Arms) → appended_arms (arms ++ a ∷ []) rest ≡ appended_arms arms (arm_before a rest)
one-more-arm [] a rest = refl
one-more-arm (x ∷ arms) a rest = ap (arm_before x) (one-more-arm arms a rest)

pub no-more-arms : (arms : List Arm) → appended_arms arms (arms_of []) ≡ arms_of arms
no-more-arms [] = refl
no-more-arms (x ∷ arms) = ap (arm_before x) (no-more-arms arms)

-- a list whose items are those of another one, place by place
pub copied-items : {R : ℕ → ℕ → Type 0} → ((x y : ℕ) → R x y → y ≡ x) → (xs ys : List ℕ) → AllZip R xs ys → ys ≡ xs
copied-items same [] [] zipped = refl
copied-items same [] (y ∷ ys) zipped = absurd zipped
copied-items same (x ∷ xs) [] zipped = absurd zipped
copied-items same (x ∷ xs) (y ∷ ys) zipped = ap₂ (λ z zs. z ∷ zs) (same x y zipped.0) (copied-items same xs ys zipped.1)
