use Rattle.std.proofs.Common.{ℕ, [], refl, ◌∙◌}
use Rattle.std.proofs.lemmas.Result.{err_from_is_err_and}
use Rattle.dcc_machine.specs.declared.cpu.Cpu.TheVariants.{I8086}
use Rattle.dcc_machine.specs.declared.image.Image.{Image}
use Rattle.dcc_machine.specs.Machine.{start_state}
use Rattle.dcc_machine.specs.Step.{machine_system}
use Rattle.dcc_c.specs.Views.{tree_of}
use Rattle.dcc_c.specs.Written.{written_form}
use Rattle.dcc_pipe.specs.Decompiled.{IsTextOfImage}
use Rattle.dcc_trial.specs.declared.found.NoTrial.{NoTrial}
use Rattle.dcc_trial.specs.declared.found.NoTrial.TheVariants.{Format, Refused, Outside, Memory}
use Rattle.dcc_trial.specs.Trial.{HasImage, IsWithout, EndsOutside, no_image, no_text, ends_outside, no_memory}
use Rattle.dcc_trial.proofs.trying.trial.Goals as goal

-- why the machine's run is not told
without-run : (seed size steps : ℕ) (image : Image) (reason : NoTrial) → HasImage seed size image →
    EndsOutside (machine_system I8086) (start_state image []) steps reason → IsWithout seed size steps reason
without-run seed size steps image (Outside at) has is = ends_outside has is
without-run seed size steps image Memory has is = no_memory
without-run seed size steps image (Format fault) has is = absurd is
without-run seed size steps image (Refused why) has is = absurd is

pub returns-in_err-file-clause-without : goal.returns-in_err-file-clause-without
returns-in_err-file-clause-without g c =
    let p = err_from_is_err_and c.from_residual.result c.from_residual.ensures.1 in rw (p.1, p.2) no_memory

pub returns-in_err-image-clause-without : goal.returns-in_err-image-clause-without
returns-in_err-image-clause-without g c =
    let p = err_from_is_err_and c.from_residual-in_err-image.result c.from_residual-in_err-image.ensures.1 in
    rw (p.1, p.2) (no_image c.in_ok-file.ensures c.in_err-image.ensures.refused)

pub returns-in_err-unit-clause-without : goal.returns-in_err-unit-clause-without
returns-in_err-unit-clause-without g c =
    let p = err_from_is_err_and c.from_residual-in_err-unit.result c.from_residual-in_err-unit.ensures.1 in
    let has : HasImage c.args.seed c.args.size c.in_ok-image.image =
    record { file = c.in_ok-file.file.items; made = c.in_ok-file.ensures; is_image = c.in_ok-image.ensures.image } in
    rw (p.1, p.2) (no_text has c.in_err-unit.ensures.refused)

pub returns-in_default-clause-without : goal.returns-in_default-clause-without
returns-in_default-clause-without g c = no_memory

pub returns-in_err-text-clause-without : goal.returns-in_err-text-clause-without
returns-in_err-text-clause-without g c =
    let p = err_from_is_err_and c.from_residual-in_err-text.result c.from_residual-in_err-text.ensures.1 in rw (p.1, p.2) no_memory

pub returns-in_err-machine-clause-without : goal.returns-in_err-machine-clause-without
returns-in_err-machine-clause-without g c =
    let p = err_from_is_err_and c.from_residual-in_err-machine.result c.from_residual-in_err-machine.ensures.1 in
    let has : HasImage c.args.seed c.args.size c.in_ok-image.image =
    record { file = c.in_ok-file.file.items; made = c.in_ok-file.ensures; is_image = c.in_ok-image.ensures.image } in
    rw (p.1, p.2) (without-run c.args.seed c.args.size c.args.steps c.in_ok-image.image _ has c.in_err-machine.ensures.outside)

pub returns-in_err-text_run-clause-without : goal.returns-in_err-text_run-clause-without
returns-in_err-text_run-clause-without g c =
    let p = err_from_is_err_and c.from_residual-in_err-text_run.result c.from_residual-in_err-text_run.ensures.1 in
    rw (p.1, p.2, c.in_err-text_run.ensures.memory) no_memory

pub returns-clause-trial : goal.returns-clause-trial
returns-clause-trial g c =
    let image = c.in_ok-image.image in
    let file = c.in_ok-file.file in
    let program = c.in-Ok.program in
    let tree = tree_of c.in_ok-unit.unit in
    let unit = c.in_ok-unit.ensures in
    let text : IsTextOfImage I8086 image (written_form tree) = record {
      accepted = unit.accepted;
      tree = tree;
      written_is = refl;
      is_text = unit.text;
      typed = unit.typed;
      shaped = unit.shaped;
      globals = unit.globals;
    } in
    record {
      image = image;
      has_image = record { file = file.items; made = c.in_ok-file.ensures; is_image = c.in_ok-image.ensures.image };
      program = program;
      is_program = c.in-Ok.ensures.program;
      text = written_form tree;
      is_text = text;
      file_length = c.len.ensures ∙ file.ok.0;
      procedures = c.len-2.ensures ∙ program.procs.ok.0;
      text_length = c.in_ok-text.ensures;
      machine = c.in_ok-machine.ensures.run;
      text_run = c.in_ok-text_run.ensures.run unit.text.stands.allowed;
    }
