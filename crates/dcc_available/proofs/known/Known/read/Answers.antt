use Rattle.std.proofs.Common.{◌≤◌, refl, sym, ap, subst}
use Rattle.std.specs.Option.{IfSome}
use Rattle.dcc_ir.specs.declared.syntax.Loc.TheVariants.{Temp}
use Rattle.dcc_ir.specs.Tree.{Get}
use Rattle.dcc_ir.specs.Measure.{depth_of}
use Rattle.dcc_ir.specs.Views.{expr_of}
use Rattle.dcc_available.specs.Known.{known_of, IsTold}
use Rattle.dcc_available.proofs.WithinLaws.{stays_within, read_within}
use Rattle.dcc_available.proofs.known.Known.read.Goals as goal

pub returns-in-Some : goal.returns-in-Some
returns-in-Some c =
    let known = known_of c.args.self.now in
    let e = expr_of c.in-Some.value in
    let told = subst (λ o. IfSome o (λ x. IsTold (known_of c.args.self.now) (Temp c.in-Temp.temporary) (expr_of x))) c.in-Some.is c.in_ok-value.ensures.told in
    let less = subst (λ o. IfSome o (λ x. depth_of (expr_of x) ≤ c.args.depth)) c.in-Some.is c.in_ok-value.ensures.within in
    read_within known c.args.depth c.args.location e (subst (λ l. IsTold known l e) (sym c.in-Temp.is) told) less

pub returns-in-None : goal.returns-in-None
returns-in-None c = stays_within (known_of c.args.self.now) c.args.depth (Get c.args.location) (Get (Temp c.in-Temp.temporary)) (ap Get (sym c.in-Temp.is))

pub returns-in_default : goal.returns-in_default
returns-in_default c = stays_within (known_of c.args.self.now) c.args.depth (Get c.args.location) (Get c.args.location) refl
