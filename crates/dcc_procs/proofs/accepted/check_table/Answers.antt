use Rattle.std.proofs.Common.{◌+◌, length, sym, ap, ◌∙◌, subst, arith}
use Rattle.dcc_prog.specs.declared.refusal.LimitName.TheVariants.{Entries}
use Rattle.dcc_prog.specs.declared.refusal.Refusal.TheVariants.{Limit}
use Rattle.dcc_procs.specs.Search.{IsTableFault, no_number, many, outside}
use Rattle.dcc_procs.proofs.accepted.check_table.Goals as goal

pub returns-in_default-clause-refused : goal.returns-in_default-clause-refused
returns-in_default-clause-refused c = no_number (sym c.number_of.ensures ∙ c.in_default.is)

pub returns-then-number-gt-MOST-clause-refused : goal.returns-then-number-gt-MOST-clause-refused
returns-then-number-gt-MOST-clause-refused c =
    let more = c.if-number-gt-MOST.true in
    subst
    (λ n. IsTableFault c.args.image.now c.args.layout.now c.args.at c.args.known c.args.r c.args.table (Limit Entries (n + 1)))
    (sym c.from.ensures)
    (many (sym c.number_of.ensures ∙ c.in-Some.is) (omega (arith, more)))

pub returns-then-code_of-from-clause-refused : goal.returns-then-code_of-from-clause-refused
returns-then-code_of-from-clause-refused c =
    let few = c.if-number-gt-MOST.false in
    let past = c.if-code_of-from.true in
    let code = ap length c.code_of.ensures.code in
    let a = c.from-2.ensures in
    let b = c.from-3.ensures in
    outside (sym c.number_of.ensures ∙ c.in-Some.is) (omega (arith, few)) (omega (arith, past, code, a, b))
