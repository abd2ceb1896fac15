use Rattle.std.proofs.Common.{◌+◌, false, true, map, drop, sym, ap, ◌∙◌, arith}
use Rattle.dcc_c.specs.Kinds.{of_name, offence, only_if, first_after}
use Rattle.dcc_c.specs.Offences.{default_offences}
use Rattle.dcc_c.specs.Partial.{cases}
use Rattle.dcc_reader.specs.declared.partial.PartialArm.{out-PartialArm}
use Rattle.dcc_reader.specs.PartialViews.{case_of, lines_of, arms_of}
use Rattle.dcc_reader.proofs.RowLaws.{arm-left}
use Rattle.dcc_reader.specs.Told.{told}
use Rattle.dcc_check.proofs.TellLaws.{step-told, no-some}
use Rattle.dcc_check.proofs.check_block.check_defaults.Goals as goal
use Rattle.dcc_check.proofs.check_block.check_defaults.Goals.{in-Some, in_default}

pub loop-arm-preserved : goal.loop-arm-preserved
loop-arm-preserved c =
    let arms = c.args.arms.now in
    let i = c.loop-arm.arm-index in
    let known = c.loop-arm.is_known in
    let parts_of_arm = out-PartialArm c.arm-item.result in
    let rest = arms_of (drop (i + 1) arms) in
    let end = first_after (told c.args.first.now) (default_offences false (arms_of arms)) in
    let whole = default_offences known (arms_of (drop i arms)) in
    let parts = arm-left (default_offences known) arms i c.arm-item.result (omega arith) c.arm-item.is in
    elim c.match-arm.branch [
      | in-Some w ↦
          let offends = only_if known (offence of_name w.in-Some.at) in
          let some = parts ∙ ap (λ d. default_offences known (cases (map case_of parts_of_arm.numbers.items) d (lines_of parts_of_arm.body.items) rest)) w.in-Some.is in
          ap (λ f. first_after (told f) (default_offences c.match-arm.is_known rest)) w.first-is
          ∙ ap (λ k. first_after (told w.tell_if.new.self) (default_offences k rest)) w.is_known-is
          ∙ step-told (told c.loop-arm.first) (told w.tell_if.new.self) end offends (default_offences true rest) whole w.tell_if.ensures some c.loop-arm.invariant
      | in_default w ↦
          let none = parts
          ∙ ap (λ d. default_offences known (cases (map case_of parts_of_arm.numbers.items) d (lines_of parts_of_arm.body.items) rest)) (no-some parts_of_arm.default w.in_default.not-Some) in
          ap (λ f. first_after (told f) (default_offences c.match-arm.is_known rest)) w.first-is
          ∙ ap (λ k. first_after (told c.loop-arm.first) (default_offences k rest)) w.is_known-is
          ∙ ap (first_after (told c.loop-arm.first)) (sym none)
          ∙ c.loop-arm.invariant
    ]
