-- One procedure with its heights.
use Rattle.std.proofs.Common.{◌≡◌, ◌≤◌, ◌<◌, ℕ, Bool, List, sym, ap, ◌∙◌, subst}
use Rattle.dcc_machine.specs.declared.image.Image.{Image}
use Rattle.dcc_prog.specs.declared.procedure.Layout.{Layout}
use Rattle.dcc_prog.specs.declared.procedure.Proc.{Proc}
use Rattle.dcc_prog.specs.declared.refusal.LimitName.TheVariants.{Arguments}
use Rattle.dcc_prog.specs.declared.refusal.Refusal.TheVariants.{Limit}
use Rattle.dcc_prog.specs.Trail.{IsEntry}
use Rattle.dcc_prog.specs.FrameForm.{is_framed}
use Rattle.dcc_prog.specs.Frame.{HasArguments, of_start}
use Rattle.dcc_prog.specs.Limit.{arguments}
use Rattle.dcc_prog.specs.Refused.{IsRefusedByFrames, limit}
use Rattle.dcc_frames.specs.declared.steps.Step.{Step}
use Rattle.dcc_frames.specs.declared.body.Body.{Body}
use Rattle.dcc_frames.specs.Steps.{steps_of}
use Rattle.dcc_frames.specs.Arguments.{IsLeast, HasRoomIn, IsCounted, of_entry, of_other}
use Rattle.dcc_frames.specs.Body.{AreSteps, IsBodyOf, IsMeasured}
use Rattle.dcc_frames.proofs.Measured.{are-steps, has-arguments}

module _ (image : Image) (layout : Layout) (proc : Proc) (heights : List (ℕ × ℕ)) (removed : ℕ) (is_start : Bool)
    (m : IsMeasured image layout proc heights removed is_start) (framed : Bool)
    (framed_is : framed ≡ is_framed image layout proc.entry)
    (steps : List Step) (steps_are : steps ≡ steps_of proc.nodes.entries heights) (count : ℕ) (read : List Step)
    (read_is : read ≡ steps) (counted : IsCounted is_start framed removed read count) where
  pub steps-told : AreSteps image layout proc.entry steps
  steps-told =
      subst (AreSteps image layout proc.entry) (sym steps_are)
      (are-steps image layout proc.entry m.is_entry m.accepted proc.nodes.entries heights m.heights_are.nodes
      m.found.nodes
      m.heights_are.each m.found.every)

  by-case : IsCounted is_start framed removed steps count → HasArguments image layout proc.entry count
  by-case (of_entry is none) = subst (HasArguments image layout proc.entry) (sym none) (of_start (m.start is))
  by-case (of_other is least) =
      has-arguments image layout proc.entry m.is_entry m.accepted steps steps-told removed m.removed_is count
      (m.other is)
      (subst (λ f. IsLeast (HasRoomIn f removed steps) count) framed_is least)

  pub arguments-counted : HasArguments image layout proc.entry count
  arguments-counted =
      by-case (subst (λ l. IsCounted is_start framed removed l count) read_is counted)

  pub too-many : 32 < count → IsRefusedByFrames image layout (Limit Arguments count)
  too-many more = limit (arguments m.is_entry arguments-counted more)

  pub is-body :
      (body : Body) → body.entry ≡ proc.entry → body.framed ≡ framed → body.args ≡ count → body.steps.items ≡ steps
      → count ≤ 32
      → IsBodyOf image layout proc body
  is-body body entry_is framed_same args_are items few = record {
    entry_is = entry_is;
    is_body = record {
      is_entry = subst (λ e. IsEntry image layout e) (sym entry_is) m.is_entry;
      framed = framed_same ∙ framed_is ∙ ap (is_framed image layout) (sym entry_is);
      arguments =
          subst (λ e. HasArguments image layout e body.args) (sym entry_is)
          (subst (HasArguments image layout proc.entry) (sym args_are) arguments-counted);
      few = subst (λ n. n ≤ 32) (sym args_are) few;
      steps =
          subst (λ e. AreSteps image layout e body.steps.items) (sym entry_is)
          (subst (AreSteps image layout proc.entry) (sym items) steps-told);
    };
  }
