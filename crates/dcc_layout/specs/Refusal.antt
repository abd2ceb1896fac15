-- Why a program has no layout.
use Rattle.std.specs.Prelude.{◌≡◌}
use Rattle.dcc_machine.specs.declared.cpu.Cpu.{Cpu}
use Rattle.dcc_machine.specs.declared.image.Image.{Image}
use Rattle.dcc_prog.specs.declared.refusal.ConstructKind.TheVariants.{NoLayout}
use Rattle.dcc_prog.specs.declared.refusal.Refusal.{Refusal}
use Rattle.dcc_prog.specs.declared.refusal.Refusal.TheVariants.{Construct}
use Rattle.dcc_prog.specs.Construct.{LacksLayout}

-- the refusal names the construct of no layout, at the entry, and no layout for the processor holds of the image
abbrev pub IsRefusal : Cpu → Image → Refusal → Type 0
IsRefusal cpu image (Construct kind at) = (kind ≡ NoLayout) × LacksLayout cpu image at
IsRefusal cpu image _ = ⊥
