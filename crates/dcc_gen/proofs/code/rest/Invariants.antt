use Rattle.std.proofs.Common.{◌≡◌, ℕ, ◌<◌, ◌++◌, length, slice_index, vec_len}
use Rattle.dcc_gen.specs.Code.{procedures_code, exit_code}
use Rattle.dcc_gen.proofs.code.rest.Given as goal

abbrev pub invariant-loop-procedure : goal.invariant-loop-procedure
invariant-loop-procedure l = record {
  code : l.code.items ≡ exit_code ++ procedures_code l.bodies l.procedure;
  count : vec_len l.entries ≡ l.procedure;
  entries : (k : ℕ) → k < l.procedure → slice_index l.entries.items k ≡ length (exit_code ++ procedures_code l.bodies k);
}
