-- Where the machine's steps are clean, what it and the text have put out agrees.
use Rattle.std.proofs.Common.{◌≡◌, ℕ, zero, suc, ◌≤◌, ◌⊎◌, inl, inr, List, [], length, sym, subst, lit<, ◌<◌, arith}
use Rattle.std.proofs.lemmas.List.Elements.{All-nil}
use Rattle.dcc_run.specs.Prefix.{IsPrefix, AreComparable}
use Rattle.dcc_run.specs.System.{System, IsLawful, out_after}
use Rattle.dcc_run.specs.Agreement.{KeepsUp}
use Rattle.dcc_run.proofs.PrefixLaws.{prefix_trans, prefixes_comparable}
use Rattle.dcc_run.proofs.EventLaws.{written-prefix, out_grows}
use Rattle.dcc_machine.specs.declared.cpu.Cpu.TheVariants.{I8086}
use Rattle.dcc_machine.specs.Machine.{start_state}
use Rattle.dcc_machine.specs.Step.{machine_system}
use Rattle.dcc_prog.specs.Watch.{IsClean}
use Rattle.dcc_c.specs.Run.{text_system, first_state}
use Rattle.dcc_c.proofs.RunLaws.{text_lawful}
use Rattle.dcc_pipe.specs.Agreement.{text_steps}
use Rattle.dcc_trial.specs.declared.found.Trial.{Trial}
use Rattle.dcc_trial.specs.Trial.{IsTrial}

either-way : (m n : ℕ) → (m ≤ n) ⊎ (n ≤ m)
either-way zero n = inl (omega arith)
either-way (suc m) zero = inr (omega arith)
either-way (suc m) (suc n) =
    elim (either-way m n) [ inl h ↦ inl (omega (arith, h)) | inr h ↦ inr (omega (arith, h)) ]

-- the outputs of a run and of one that keeps up with it are comparable, however many steps that one makes
outputs-keep_up : {S T : Type 0} (first : System S) (s : S) (n : ℕ) (second : System T) (t : T) (m steps : ℕ)
    → IsLawful second → KeepsUp first s n second t m → AreComparable (out_after first n s) (out_after second steps t)
outputs-keep_up first s n second t m steps law keeps =
    let whole : IsPrefix (out_after first n s) (out_after second m t) = written-prefix keeps.events in
    elim (either-way steps m) [
      | inl less ↦ prefixes_comparable whole (out_grows second law steps m t less)
      | inr more ↦ inl (prefix_trans whole (out_grows second law m steps t more))
    ]

pub outputs-comparable : (seed size steps : ℕ) (trial : Trial) (is : IsTrial seed size steps trial)
    → IsClean I8086 is.image [] steps → AreComparable trial.machine.output.items trial.text_run.output.items
outputs-comparable seed size steps trial is clean =
    let tree = is.is_text.tree in
    let text = is.is_text.is_text in
    let start = first_state tree text.stands.allowed.start 0 [] in
    let runs = text.runs [] 0 (All-nil (λ b. b < 256)) (lit< tt) in
    let keeps = runs.text_keeps_up steps clean in
    let both = outputs-keep_up (machine_system I8086) (start_state is.image []) steps (text_system tree) start
    (text_steps (length text.stands.tokens) steps) steps (text_lawful tree) keeps in
    let of_text = subst (λ (o : List ℕ). AreComparable (out_after (machine_system I8086) steps (start_state is.image []))
    o) (sym is.text_run.output) both in
    subst (λ (o : List ℕ). AreComparable o trial.text_run.output.items) (sym is.machine.output) of_text
