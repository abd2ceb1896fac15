use Rattle.std.proofs.Common.{◌≡◌, true, sym, ap, ◌∙◌, subst}
use Rattle.std.specs.Prelude.{IfOk, if◌then◌else◌}
use Rattle.dcc_ir.specs.Views.{stmt_of}
use Rattle.dcc_ir.specs.Use.{writes_of}
use Rattle.dcc_copies.specs.Held.{all_written, with_copied}
use Rattle.dcc_copies.specs.Holders.{holders_of, name_by, IsPassed}
use Rattle.dcc_copies.proofs.holders.Holders.pass.Goals as goal

pub returns-then-is_own_copy : goal.returns-then-is_own_copy
returns-then-is_own_copy c =
    let names = c.args.names.now.of.items in
    let stmt = stmt_of c.args.stmt.now in
    subst (λ b. IfOk c.copy.result (λ there. there ≡ true → IsPassed names (holders_of c.args.self.now)
    (holders_of c.copy.new.self)
    (λ held. if b then with_copied stmt held else all_written (name_by names) (writes_of stmt) held)))
    (sym (sym c.is_own_copy.ensures ∙ c.if-is_own_copy.true)) c.copy.ensures

pub returns-else-is_own_copy : goal.returns-else-is_own_copy
returns-else-is_own_copy c =
    let names = c.args.names.now.of.items in
    let stmt = stmt_of c.args.stmt.now in
    subst (λ b. IfOk c.write_all.result (λ there. there ≡ true → IsPassed names (holders_of c.args.self.now)
    (holders_of c.write_all.new.self)
    (λ held. if b then with_copied stmt held else all_written (name_by names) (writes_of stmt) held)))
    (sym (sym c.is_own_copy.ensures ∙ c.if-is_own_copy.false))
    (subst (λ xs. IfOk c.write_all.result (λ there. there ≡ true → IsPassed names (holders_of c.args.self.now)
    (holders_of c.write_all.new.self) (all_written (name_by names) xs))) c.requires.writes c.write_all.ensures)
