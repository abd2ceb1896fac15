-- Why there is no trial: not for the file's format, and where nothing keeps the program from it, for the shape of its
-- text or want of memory alone.
use Rattle.std.proofs.Common.{◌≡◌, ℕ, ◌≤◌, inl, inr, List, [], ◌∷◌, refl, sym, ap, ◌∙◌, subst, arith}
use Rattle.dcc_mz.specs.declared.fault.MzFault.{MzFault}
use Rattle.dcc_mz.specs.Fault.{IsRefusalOrMemory}
use Rattle.dcc_mz.specs.declared.fault.MzFault.TheVariants.{Memory as NoImageMemory}
use Rattle.dcc_machine.specs.declared.cpu.Cpu.TheVariants.{I8086}
use Rattle.dcc_machine.specs.declared.image.Image.{Image}
use Rattle.dcc_machine_demand.specs.Refused.{IsAcceptedProgram}
use Rattle.dcc_machine_demand.proofs.RefusedLaws.{accepted-is_not_refused}
use Rattle.dcc_pipe.specs.declared.no_text.NoText.{NoText}
use Rattle.dcc_pipe.specs.declared.no_text.NoText.TheVariants.{Refused, NotYet as NotYetFor}
use Rattle.dcc_pipe.specs.Shaped.{HasNoTextFor}
use Rattle.dcc_gen.specs.File.{IsMade}
use Rattle.dcc_trial.specs.declared.found.NoTrial.{NoTrial}
use Rattle.dcc_trial.specs.Trial.{IsWithout, no_image, no_text, ends_outside, no_memory}
use Rattle.dcc_trial.proofs.MadeLaws.{made-memory_alone}
use Rattle.dcc_commands.specs.Words.{IsSize}
use Rattle.dcc_top.specs.declared.reply.Reply.{Reply}
use Rattle.dcc_top.specs.Answer.{AllowsTrial, tried, untried, status_of, fault_reply, reason_reply, refusal_reply, no_trial_reply}
use Rattle.dcc_top.specs.Causes.{IsTryable}
use Rattle.dcc_top.specs.Status.{IsOneOf}
use Rattle.dcc_top.proofs.StatusLaws.{apart, refusals, reason-status}

-- a file that is made is refused for want of memory alone
made-status : (seed size : ℕ) (file : List ℕ) (fault : MzFault) → IsSize size → IsMade seed size file
    → IsRefusalOrMemory file fault → status_of (fault_reply fault) ≡ 7
made-status seed size file fault sized made h =
    ap (λ f. status_of (fault_reply f)) (made-memory_alone seed size file fault sized.few made h)

untried-not_eight : (seed size steps : ℕ) (reason : NoTrial) → IsSize size → IsWithout seed size steps reason
    → status_of (no_trial_reply reason) ≡ 8 → ⊥
untried-not_eight seed size steps _ sized (no_image {fault = fault} {file = file} made h) is =
    let seven = made-status seed size file fault sized made h in
    let bad : 7 ≡ 8 = sym seven ∙ is in
    omega (arith, bad)
untried-not_eight seed size steps _ sized (no_text {reason = reason} has h) is =
    apart (status_of (reason_reply reason)) (8 ∷ []) refusals refl (inl is) (reason-status reason)
untried-not_eight seed size steps _ sized (ends_outside has ends) is = omega (arith, is)
untried-not_eight seed size steps _ sized no_memory is = omega (arith, is)

pub no_format_fault : (seed size steps : ℕ) (reply : Reply) (output : List ℕ) → IsSize size
    → AllowsTrial seed size steps reply output → status_of reply ≡ 8 → ⊥
no_format_fault seed size steps _ output sized (tried t) is = omega (arith, is)
no_format_fault seed size steps _ _ sized (untried reason h) is = untried-not_eight seed size steps reason sized h is

-- an image that is accepted has no text for the shape of that or want of memory alone
accepted-one : (image : Image) (reason : NoText) → IsAcceptedProgram I8086 image → HasNoTextFor I8086 image reason
    → IsOneOf (status_of (reason_reply reason)) (0 ∷ (12 ∷ (6 ∷ (7 ∷ []))))
accepted-one image (Refused refusal) accepted h =
    inr (inr (inr (inl (ap (λ r. status_of (refusal_reply r))
    (accepted-is_not_refused.memory I8086 image refusal accepted h)))))
accepted-one image (NotYetFor at) accepted h = inr (inl refl)

untried-one : (seed size steps : ℕ) (reason : NoTrial) → IsSize size → IsTryable seed size steps
    → IsWithout seed size steps reason → IsOneOf (status_of (no_trial_reply reason)) (0 ∷ (12 ∷ (6 ∷ (7 ∷ []))))
untried-one seed size steps _ sized free (no_image {fault = fault} {file = file} made h) =
    inr (inr (inr (inl (made-status seed size file fault sized made h))))
untried-one seed size steps _ sized free (no_text {reason = reason} {image = image} has h) =
    accepted-one image reason (free.accepted image has) h
untried-one seed size steps _ sized free (ends_outside {at = at} {image = image} has ends) =
    absurd (free.inside image at has ends)
untried-one seed size steps _ sized free no_memory = inr (inr (inr (inl refl)))

pub tryable-one : (seed size steps : ℕ) → IsSize size → IsTryable seed size steps → (reply : Reply) (output : List ℕ)
    → AllowsTrial seed size steps reply output → IsOneOf (status_of reply) (0 ∷ (12 ∷ (6 ∷ (7 ∷ []))))
tryable-one seed size steps sized free _ output (tried t) = inl refl
tryable-one seed size steps sized free _ _ (untried reason h) = untried-one seed size steps reason sized free h
