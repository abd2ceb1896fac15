use Rattle.std.proofs.Common.{◌≡◌, ◌++◌, map, drop}
use Rattle.dcc_ir.specs.Views.{stmt_of}
use Rattle.dcc_flags.specs.Folding.{choices_of, stmts_folded}
use Rattle.dcc_flags.proofs.writer.Writer.fold_stmts.Given as goal

abbrev pub invariant-loop-stmt : goal.invariant-loop-stmt
invariant-loop-stmt l =
    let before = stmts_folded l.initial.self.kept l.initial.self.bits.items (choices_of l.initial.choices) (map stmt_of l.stmts) in
    let rest = stmts_folded l.self.kept l.self.bits.items (choices_of l.choices) (map stmt_of (drop l.stmt-index l.stmts)) in
    record {
      stmts : map stmt_of l.self.stmts.items ++ rest.stmts ≡ map stmt_of l.initial.self.stmts.items ++ before.stmts;
      bits : l.self.bits.items ++ rest.widths ≡ l.initial.self.bits.items ++ before.widths;
      choices : rest.choices ≡ before.choices;
      kept : l.self.kept ≡ l.initial.self.kept;
    }
