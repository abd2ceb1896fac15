-- The lifted program has the machine's relations where each instruction does what its statements do.
use Rattle.std.specs.Prelude.{ℕ, ℤ}
use Rattle.dcc_machine.specs.declared.image.Image.{Image}
use Rattle.dcc_prog.specs.declared.frame.Program.{Program as Analysed}
use Rattle.dcc_ir.specs.declared.syntax.Loc.{Loc}
use Rattle.dcc_ir.specs.Tree.{Program}
use Rattle.dcc_demand.specs.Procedures.{Procedures}
use Rattle.dcc_machine_demand.specs.Bodies.{bodies_of}
use Rattle.dcc_machine_demand.specs.Holders.{Holder}
use Rattle.dcc_machine_demand.specs.Instance as asks
use Rattle.dcc_sums.specs.Points.{Position}
use Rattle.dcc_sums.specs.Instance as sums
use Rattle.dcc_refinement.specs.Refinement.{ChangesAgree, CalleesAgree, WantsAgree, IsRefined}
use Rattle.dcc_lift.specs.Translated.{IsTranslated}
use Rattle.dcc_lifted_demand.specs.LiftedRefinement.{lifted_refinement}

module _ (image : Image) (program : Analysed) (p : Program) where
  abbrev pub machine : Procedures ℕ Holder ℤ
  machine = asks.procedures_of (bodies_of program)

  abbrev pub inner : Procedures Position Loc Loc
  inner = sums.procedures_of p

  -- what is left to be shown of the instructions: that each does what its statements do together
  pub record InstructionsAgree : Type 0 where
    pub changes : (entry at : ℕ) → ChangesAgree machine inner (lifted_refinement program) entry at
    pub callees : (entry at : ℕ) → CalleesAgree machine inner (lifted_refinement program) entry at
    pub wants : (entry at : ℕ) → WantsAgree machine inner (lifted_refinement program) entry at

-- where this is so the lifted program has the machine's relations
abbrev pub LiftedIsRefined : Type 0
LiftedIsRefined =
    (image : Image) (program : Analysed) (p : Program) → IsTranslated image program p
    → InstructionsAgree image program p
    → IsRefined (machine image program p) (inner image program p) (lifted_refinement program)
