use Rattle.std.proofs.Common.{◌≡◌, sym, ap, ◌∙◌, subst}
use Rattle.std.proofs.lemmas.Result.{IfOk-weaker}
use Rattle.dcc_ir.specs.declared.syntax.Loc.TheVariants.{Temp}
use Rattle.dcc_ir.specs.Tree.{Set}
use Rattle.dcc_ir.specs.Views.{expr_of, stmt_of}
use Rattle.dcc_available.specs.Known.{Fact, known_of, with_fact}
use Rattle.dcc_available.specs.Rewritten.{IsNoted, nothing, noted}
use Rattle.dcc_available.proofs.known.Known.note_set.Goals as goal

pub returns : goal.returns
returns c =
    let old = known_of c.args.self.now in
    let new = known_of c.note.new.self in
    let n = c.in-Temp.temporary in
    let value = expr_of c.in-Set.value in
    let fact : Fact = record { temporary = n; value = value } in
    let same : stmt_of c.args.stmt.now ≡ Set (Temp n) value = ap stmt_of c.in-Set.is ∙ ap (λ l. Set l value) c.in-Temp.is in
    IfOk-weaker c.note.result (λ x. new ≡ with_fact fact old) (λ x. IsNoted (stmt_of c.args.stmt.now) old new)
    (λ x is. subst (IsNoted (stmt_of c.args.stmt.now) old) (sym is) (subst (λ s. IsNoted s old (with_fact fact old)) (sym same) noted)) c.note.ensures

pub returns-in_default : goal.returns-in_default
returns-in_default c = nothing

pub returns-in_default-place : goal.returns-in_default-place
returns-in_default-place c = nothing

pub returns-then-not-is_wanted : goal.returns-then-not-is_wanted
returns-then-not-is_wanted c = nothing
