-- Statements without blocks, by what they are not.
use Rattle.std.proofs.Common.{◌≡◌, false, Vec, Global, Option, sym, ap, ◌∙◌}
use Rattle.dcc_c.specs.declared.syntax.CExpr.{CExpr}
use Rattle.dcc_c.specs.declared.syntax.CStmt.{CStmt, out-CStmt, roll-CStmt, roll-out-CStmt, If as IfOf, While as WhileOf, DoWhile as DoWhileOf, Forever as ForeverOf, Switch as SwitchOf}
use Rattle.dcc_c.specs.declared.syntax.CStmt.TheVariants.{rolls-Assign, rolls-Call, rolls-If, rolls-While, rolls-DoWhile, rolls-Forever, rolls-Switch, rolls-Break, rolls-Continue, rolls-Goto, rolls-Label, rolls-Empty, rolls-Return}
use Rattle.dcc_c.specs.declared.syntax.CStmt.TheOpen.{CStmt-F}
use Rattle.dcc_c.specs.declared.syntax.Line.{Line}
use Rattle.dcc_c.specs.declared.syntax.Arm.{Arm}
use Rattle.dcc_c.specs.Views.{stmt_of}
use Rattle.dcc_print.proofs.CountedRows.{has_block}

-- what the statement is not
pub record IsNoBlock (s : CStmt) : Type 0 where
  pub no_if : (e : CExpr) (body otherwise : Vec Line Global) → s ≡ IfOf e body otherwise → ⊥
  pub no_while : (e : CExpr) (body : Vec Line Global) → s ≡ WhileOf e body → ⊥
  pub no_do_while : (body : Vec Line Global) (e : CExpr) → s ≡ DoWhileOf body e → ⊥
  pub no_forever : (body : Vec Line Global) → s ≡ ForeverOf body → ⊥
  pub no_switch : (e : CExpr) (arms : Vec Arm Global) (last : Option Arm) → s ≡ SwitchOf e arms last → ⊥

by-layer : (s : CStmt) (f : _) → s ≡ roll-CStmt f → IsNoBlock s → has_block (stmt_of s) ≡ false
by-layer s (CStmt-F.Assign place e) is not = ap (λ x. has_block (stmt_of x)) (is ∙ rolls-Assign place e)
by-layer s (CStmt-F.Call place function arguments depth) is not = ap (λ x. has_block (stmt_of x)) (is ∙ rolls-Call place function arguments depth)
by-layer s (CStmt-F.If e body otherwise) is not = absurd (not.no_if e body otherwise (is ∙ rolls-If e body otherwise))
by-layer s (CStmt-F.While e body) is not = absurd (not.no_while e body (is ∙ rolls-While e body))
by-layer s (CStmt-F.DoWhile body e) is not = absurd (not.no_do_while body e (is ∙ rolls-DoWhile body e))
by-layer s (CStmt-F.Forever body) is not = absurd (not.no_forever body (is ∙ rolls-Forever body))
by-layer s (CStmt-F.Switch e arms last) is not = absurd (not.no_switch e arms last (is ∙ rolls-Switch e arms last))
by-layer s CStmt-F.Break is not = ap (λ x. has_block (stmt_of x)) (is ∙ rolls-Break)
by-layer s CStmt-F.Continue is not = ap (λ x. has_block (stmt_of x)) (is ∙ rolls-Continue)
by-layer s (CStmt-F.Goto name) is not = ap (λ x. has_block (stmt_of x)) (is ∙ rolls-Goto name)
by-layer s (CStmt-F.Label name) is not = ap (λ x. has_block (stmt_of x)) (is ∙ rolls-Label name)
by-layer s CStmt-F.Empty is not = ap (λ x. has_block (stmt_of x)) (is ∙ rolls-Empty)
by-layer s (CStmt-F.Return e) is not = ap (λ x. has_block (stmt_of x)) (is ∙ rolls-Return e)

pub no-block : (s : CStmt) → IsNoBlock s → has_block (stmt_of s) ≡ false
no-block s not = by-layer s (out-CStmt s) (sym (roll-out-CStmt s)) not
