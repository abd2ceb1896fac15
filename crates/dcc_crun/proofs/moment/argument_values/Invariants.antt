use Rattle.std.proofs.Common.{◌≡◌, ◌++◌, ◌≤◌, length, map, drop}
use Rattle.dcc_c.specs.Value.{Gives, and_then}
use Rattle.dcc_value.specs.Evaluation.{typed}
use Rattle.dcc_value.specs.Resolved.{contents_of}
use Rattle.dcc_crun.specs.Doing.{resolved_arguments}
use Rattle.dcc_crun.proofs.moment.argument_values.Given as goal

-- the values so far, and then those of the arguments that are left
abbrev pub invariant-loop-i : goal.invariant-loop-i
invariant-loop-i l = record {
  within : l.i ≤ length l.procedure.params.items;
  values : resolved_arguments (contents_of l.scene) (map (λ p. p.ty) l.procedure.params.items) l.arguments
      ≡ and_then (λ vs. Gives (map typed l.values.items ++ vs))
      (resolved_arguments (contents_of l.scene) (drop l.i (map (λ p. p.ty) l.procedure.params.items)) (drop l.i l.arguments));
}
