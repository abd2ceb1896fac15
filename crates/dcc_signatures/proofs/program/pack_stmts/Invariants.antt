use Rattle.std.proofs.Common.{◌≡◌, map, flat_map}
use Rattle.dcc_ir.specs.Views.{stmt_of}
use Rattle.dcc_signatures.specs.Packed.{pack_stmt}
use Rattle.dcc_signatures.proofs.program.pack_stmts.Given as goal

abbrev pub invariant-loop-stmt : goal.invariant-loop-stmt
invariant-loop-stmt l = map stmt_of l.packed.items ≡ flat_map (pack_stmt l.fresh) (map stmt_of l.yielded)
