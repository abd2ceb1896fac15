-- Laws of layouts.
use Rattle.std.specs.Prelude.{◌≡◌, ◌⊎◌}
use Rattle.dcc_machine.specs.declared.cpu.Cpu.{Cpu}
use Rattle.dcc_machine.specs.declared.image.Image.{Image}
use Rattle.dcc_prog.specs.declared.procedure.Layout.{Layout}
use Rattle.dcc_prog.specs.declared.refusal.ConstructKind.TheVariants.{NoLayout}
use Rattle.dcc_prog.specs.Layout.{HasLayout}
use Rattle.dcc_prog.specs.Construct.{IsConstruct}

-- at most one layout for each processor holds of an image
abbrev pub AtMostOneLayoutHolds : Type 0
AtMostOneLayoutHolds =
    (image : Image) (layout other : Layout) → other.cpu ≡ layout.cpu → HasLayout image layout → HasLayout image other
    → other ≡ layout

-- some layout for the processor holds of the image
pub record HasSomeLayout (cpu : Cpu) (image : Image) : Type 0 where
  pub layout : Layout
  pub runs_on : layout.cpu ≡ cpu
  pub holds : HasLayout image layout

-- a layout for the processor holds of an image, or the construct of no layout stands at its entry, and not both
pub record HasLayoutOrConstruct : Type 0 where
  pub one : (cpu : Cpu) (image : Image) → HasSomeLayout cpu image ⊎ IsConstruct cpu NoLayout image image.ip
  pub not_both : (cpu : Cpu) (image : Image) → HasSomeLayout cpu image → ¬ IsConstruct cpu NoLayout image image.ip
