-- Runs along a trail, step by step.
use Rattle.std.proofs.Common.{◌≡◌, ℕ, false, List, ◌∷◌, drop, take, Option, Some, sym, ap, ◌∙◌, subst}
use Rattle.std.specs.Prelude.{if◌then◌else◌, option_map}
use Rattle.dcc_run.specs.End.{is_over}
use Rattle.dcc_machine.specs.declared.image.Image.{Image}
use Rattle.dcc_prog.specs.declared.procedure.Layout.{Layout}
use Rattle.dcc_machine.specs.declared.instr.Op.{Op}
use Rattle.dcc_machine.specs.declared.instr.Op.TheVariants.{Call}
use Rattle.dcc_machine.specs.declared.instr.Instr.{Instr}
use Rattle.dcc_machine.specs.MzImage.{IsLoaded}
use Rattle.dcc_machine.specs.Table.{instruction_at}
use Rattle.dcc_machine.specs.Machine.{State}
use Rattle.dcc_machine.specs.Step.{code_bytes, op_step, instruction_step, step}
use Rattle.dcc_machine.specs.Code.{code_of, HoldsCode}
use Rattle.dcc_machine.specs.WellFormed.{IsOperation}
use Rattle.dcc_machine.specs.Successors.{next_of}
use Rattle.dcc_prog.specs.Trail.{instruction_in, operation_in}
use Rattle.dcc_machine.specs.StateForm.{IsState}
use Rattle.dcc_prog.specs.RunLaws.{HasPassed, begun, stepped, returned}
use Rattle.dcc_machine.proofs.FetchLaws.{image-placed, fetched-instruction}
use Rattle.dcc_machine.proofs.WellFormedLaws.{instruction-operation}
use Rattle.dcc_machine.proofs.StateKept.{code-bytes}
use Rattle.dcc_prog.proofs.PassedRuns.{passed-state}

module _ (image : Image) (layout : Layout) (loaded : IsLoaded image) where
  -- the step of an instruction that stands in the code
  pub record IsStepOf (at : ℕ) (instr : Instr) (s : State) : Type 0 where
    pub good : IsOperation instr.op
    pub is : step layout.cpu s ≡ op_step layout.cpu instr.op at (record s { ip = next_of at instr })

  pub step-of : (at : ℕ) (s : State) (instr : Instr) → IsState s → s.ip ≡ at → is_over s.end ≡ false
      → HoldsCode image layout.code_end s → instruction_in image layout at ≡ Some instr → IsStepOf at instr s
  step-of at s instr form here goes holds found =
      let stands : instruction_at layout.cpu s.ip (drop s.ip (take layout.code_end (code_of image))) ≡ Some instr =
      ap (λ n. instruction_at layout.cpu n (drop n (take layout.code_end (code_of image)))) here ∙ found in
      let fetch : instruction_at layout.cpu s.ip (code_bytes s) ≡ Some instr =
      fetched-instruction layout.cpu image layout.code_end s instr (image-placed loaded.file image loaded.is_image)
      holds stands in
      record {
        good = instruction-operation layout.cpu s.ip (code_bytes s) instr (code-bytes s form) fetch;
        is =
            ap (λ b. if b then s else instruction_step layout.cpu (instruction_at layout.cpu s.ip (code_bytes s)) s)
            goes
            ∙ ap (λ f. instruction_step layout.cpu f s) fetch
            ∙ ap (λ n. op_step layout.cpu instr.op n (record s { ip = next_of n instr })) here;
      }

  -- a run has come to a state by the operation at the end of a trail
  pub record CameBy (at : ℕ) (before : List ℕ) (op : Op) (s : State) : Type 0 where
    pub from : State
    pub passed : HasPassed image layout before from
    pub form : IsState from
    pub here : from.ip ≡ at
    pub good : IsOperation op
    pub instr : Instr
    pub found : instruction_in image layout at ≡ Some instr
    pub op_is : instr.op ≡ op
    pub is : s ≡ op_step layout.cpu op at (record from { ip = next_of at instr })

  operation-of : (found : Option Instr) (instr : Instr) (op : Op) → found ≡ Some instr
      → option_map (λ (i : Instr). i.op) found ≡ Some op → instr.op ≡ op
  operation-of found instr op p e =
      let told : Some instr.op ≡ Some op = subst (λ f. option_map (λ (i : Instr). i.op) f ≡ Some op) p e in cc

  -- where the operation is no CALL
  pub came-by : (at : ℕ) (before : List ℕ) (op : Op) (s : State) → HasPassed image layout (at ∷ before) s
      → operation_in image layout at ≡ Some op → ((target : ℕ) → op ≡ Call target → ⊥) → CameBy at before op s
  came-by at before op s (stepped {s = u} {instr = instr} passed here goes holds found) stands other =
      let form = passed-state image layout before u passed in
      let steps = step-of at u instr form here goes holds found in
      let op_is = operation-of (instruction_in image layout at) instr op found stands in
      record {
        from = u;
        passed = passed;
        form = form;
        here = here;
        good = subst IsOperation op_is steps.good;
        instr = instr;
        found = found;
        op_is = op_is;
        is = steps.is ∙ ap (λ o. op_step layout.cpu o at (record u { ip = next_of at instr })) op_is;
      }
  came-by at before op s (returned {target = target} passed calls t form) stands other =
      absurd (other target (sym (operation-of (instruction_in image layout at) calls.0 op calls.1 stands) ∙ calls.2))
