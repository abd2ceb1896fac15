use Rattle.std.proofs.Common.{map, sym, subst, option_map}
use Rattle.dcc_ir.specs.Tree.{Set, Fetch, Store, Div, Call, Dos}
use Rattle.dcc_ir.specs.Views.{expr_of, stmt_of}
use Rattle.dcc_rules.specs.Views.{numbers_of}
use Rattle.dcc_simplify.specs.Reshaped.{IsStmtAs, sets, fetches, stores, divides_into, calls, asks_dos}
use Rattle.dcc_simplify.specs.Simplified.{IsSimplified}
use Rattle.dcc_simplify.proofs.statement.Simplifier.statement.Goals as goal

pub returns-in_ok-value-in-Set : goal.returns-in_ok-value-in-Set
returns-in_ok-value-in-Set g c =
    subst (λ x. IsStmtAs (IsSimplified (numbers_of c.args.self.now.rules.now) c.args.self.now.bits.now) (stmt_of x) (Set c.in-Set.place (expr_of c.in_ok-value-in-Set.value))) (sym c.in-Set.is)
    (sets c.in_ok-value-in-Set.ensures)

pub returns-in_ok-address-in-Load : goal.returns-in_ok-address-in-Load
returns-in_ok-address-in-Load g c =
    subst (λ x. IsStmtAs (IsSimplified (numbers_of c.args.self.now.rules.now) c.args.self.now.bits.now) (stmt_of x) (Fetch c.in-Load.place c.in-Load.width (expr_of c.in_ok-address-in-Load.address))) (sym c.in-Load.is)
    (fetches c.in_ok-address-in-Load.ensures)

pub returns-in_ok-value-in-Store : goal.returns-in_ok-value-in-Store
returns-in_ok-value-in-Store g c =
    subst (λ x. IsStmtAs (IsSimplified (numbers_of c.args.self.now.rules.now) c.args.self.now.bits.now) (stmt_of x) (Store c.in-Store.width (expr_of c.in_ok-address-in-Store.address) (expr_of c.in_ok-value-in-Store.value))) (sym c.in-Store.is)
    (stores c.in_ok-address-in-Store.ensures c.in_ok-value-in-Store.ensures)

pub returns-in_ok-division-in-Div : goal.returns-in_ok-division-in-Div
returns-in_ok-division-in-Div g c =
    subst (λ x. IsStmtAs (IsSimplified (numbers_of c.args.self.now.rules.now) c.args.self.now.bits.now) (stmt_of x) (Div c.in-Div.place (expr_of c.in_ok-division-in-Div.division))) (sym c.in-Div.is)
    (divides_into c.in_ok-division-in-Div.ensures)

pub returns-in_ok-arguments-in-Call : goal.returns-in_ok-arguments-in-Call
returns-in_ok-arguments-in-Call g c =
    subst (λ x. IsStmtAs (IsSimplified (numbers_of c.args.self.now.rules.now) c.args.self.now.bits.now) (stmt_of x) (Call c.in-Call.results.items c.in-Call.entry (map expr_of c.in_ok-arguments-in-Call.arguments.items) c.in-Call.depth)) (sym c.in-Call.is)
    (calls c.in_ok-arguments-in-Call.ensures)

pub returns-in_ok-argument-in-Dos : goal.returns-in_ok-argument-in-Dos
returns-in_ok-argument-in-Dos g c =
    subst (λ x. IsStmtAs (IsSimplified (numbers_of c.args.self.now.rules.now) c.args.self.now.bits.now) (stmt_of x) (Dos c.in-Dos.number c.in-Dos.place (option_map expr_of c.in_ok-argument-in-Dos.argument))) (sym c.in-Dos.is)
    (asks_dos c.in_ok-argument-in-Dos.ensures)
