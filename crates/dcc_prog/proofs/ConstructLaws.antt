-- Laws of constructs.
use Rattle.std.proofs.Common.{◌≡◌, ◌≤◌, ℕ, refl, arith}
use Rattle.dcc_machine.specs.declared.cpu.Cpu.{Cpu}
use Rattle.dcc_machine.specs.declared.image.Image.{Image}
use Rattle.dcc_prog.specs.declared.procedure.Layout.{Layout}
use Rattle.dcc_prog.specs.declared.refusal.ConstructKind.{ConstructKind}
use Rattle.dcc_prog.specs.declared.refusal.ConstructKind.TheVariants.{NoLayout}
use Rattle.dcc_prog.specs.Construct.{construct_number, LacksLayout, IsAtNode, unknown, foreign, indirect_jump, formless, indirect_call, dos_number, entry_return, division, IsAtHeight, misplaced, bad_height, IsAtFrame, bad_access, short_call, IsConstruct, lacks_layout, of_trails, of_heights, of_frames}

at_node-kind : {image : Image} {layout : Layout} {entry at : ℕ} {kind : ConstructKind} → IsAtNode image layout entry at kind → 2 ≤ construct_number kind
at_node-kind (unknown h) = let le : 2 ≤ 2 = omega arith in le
at_node-kind (foreign h) = let le : 2 ≤ 2 = omega arith in le
at_node-kind (indirect_jump h) = let le : 2 ≤ 3 = omega arith in le
at_node-kind (formless h) = let le : 2 ≤ 3 = omega arith in le
at_node-kind (indirect_call h) = let le : 2 ≤ 4 = omega arith in le
at_node-kind (dos_number h) = let le : 2 ≤ 5 = omega arith in le
at_node-kind (entry_return h) = let le : 2 ≤ 11 = omega arith in le
at_node-kind (division h) = let le : 2 ≤ 12 = omega arith in le

at_height-kind : {image : Image} {layout : Layout} {entry at : ℕ} {kind : ConstructKind} → IsAtHeight image layout entry at kind → 2 ≤ construct_number kind
at_height-kind (misplaced h) = let le : 2 ≤ 2 = omega arith in le
at_height-kind (bad_height h) = let le : 2 ≤ 6 = omega arith in le

at_frame-kind : {image : Image} {layout : Layout} {entry at : ℕ} {kind : ConstructKind} → IsAtFrame image layout entry at kind → 2 ≤ construct_number kind
at_frame-kind (bad_access h) = let le : 2 ≤ 7 = omega arith in le
at_frame-kind (short_call h) = let le : 2 ≤ 8 = omega arith in le

-- construct 1 is the lack of a layout
first-lacks :
    {cpu : Cpu} {kind : ConstructKind} {at : ℕ} {image : Image} → IsConstruct cpu kind image at → construct_number kind ≡ 1 → LacksLayout cpu image at
first-lacks (lacks_layout none) first = none
first-lacks (of_trails runs_on holds h) first = absurd (let other = at_node-kind h.stands in omega (arith, other, first))
first-lacks (of_heights runs_on holds h) first = absurd (let other = at_height-kind h.stands in omega (arith, other, first))
first-lacks (of_frames runs_on holds h) first = absurd (let other = at_frame-kind h.stands in omega (arith, other, first))

pub lacks-layout : (cpu : Cpu) (image : Image) (at : ℕ) → IsConstruct cpu NoLayout image at → LacksLayout cpu image at
lacks-layout cpu image at construct = first-lacks construct refl
