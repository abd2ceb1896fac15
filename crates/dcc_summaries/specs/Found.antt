-- What is known of a program when all that is wanted has been found.
use Rattle.std.specs.Prelude.{◌≡◌, map}
use Rattle.dcc_ir.specs.Tree.{Program}
use Rattle.dcc_modref.specs.Programs.{AreChanges}
use Rattle.dcc_summaries.specs.declared.backwards.Found.{Found}
use Rattle.dcc_summaries.specs.Points.{all_points}
use Rattle.dcc_summaries.specs.Ways.{all_calls}
use Rattle.dcc_summaries.specs.Wanted.{AreWanted}

pub record AreFound (p : Program) (found : Found) : Type 0 where
  pub changed : AreChanges p (map (λ v. v.items) found.changed.items)
  pub calls : found.calls.items ≡ all_calls p (all_points p)
  pub wants : AreWanted p found.wants
