-- From what is made of a file to what is told of the output: its text, the lines of its procedures, and its listing; and
-- from what is told of a trial.
use Rattle.std.proofs.Common.{◌≡◌, ℕ, inl, inr, List, Option, ap, ◌∙◌}
use Rattle.dcc_io.specs.Told.{append_told}
use Rattle.dcc_machine.specs.declared.cpu.Cpu.{Cpu}
use Rattle.dcc_trial.proofs.AgreementLaws.{outputs-comparable}
use Rattle.dcc_top.specs.Answer.{Files, ShelfHas, Makes, TellsTrial}
use Rattle.dcc_top.specs.Headline.{HasText, HasProcedures, HasListing, HasTrial}
use Rattle.dcc_commands.specs.declared.job.Product.TheVariants.{Text, Procedures, Listing}

pub has-text : (cpu : Cpu) (told : Files) (name : List ℕ) (before after : Option (List ℕ)) (file text : List ℕ)
    → ShelfHas told name file
    → after ≡ append_told before text
    → Makes Text cpu file text
    → HasText cpu told name before after
has-text cpu told name before after file text has appended d =
    record {
      file = file;
      text = text;
      has = has;
      appended = appended;
      decompiled = record { image = d.image; is_image = d.is_image; is_text = d.is_made };
    }

pub has-procedures : (cpu : Cpu) (told : Files) (name : List ℕ) (before after : Option (List ℕ)) (file lines : List ℕ)
    → ShelfHas told name file
    → after ≡ append_told before lines
    → Makes Procedures cpu file lines
    → HasProcedures cpu told name before after
has-procedures cpu told name before after file lines has appended d =
    let l = d.is_made in
    record {
      file = file;
      has = has;
      image = d.image;
      is_image = d.is_image;
      sound = l.sound;
      program = l.program;
      is_program = l.is_program;
      appended = appended ∙ ap (append_told before) l.listed;
    }

pub has-listing : (cpu : Cpu) (told : Files) (name : List ℕ) (before after : Option (List ℕ)) (file text : List ℕ)
    → ShelfHas told name file
    → after ≡ append_told before text
    → Makes Listing cpu file text
    → HasListing cpu told name before after
has-listing cpu told name before after file text has appended d =
    let l = d.is_made in
    record {
      file = file;
      has = has;
      image = d.image;
      is_image = d.is_image;
      sound = l.sound;
      program = l.program;
      is_program = l.is_program;
      text = text;
      listed = l.listed;
      appended = appended;
    }

pub has-trial : (seed size steps : ℕ) (before after : Option (List ℕ)) (lines : List ℕ)
    → TellsTrial seed size steps lines
    → after ≡ append_told before lines
    → HasTrial seed size steps before after
has-trial seed size steps before after lines told appended = record {
  trial = told.trial;
  is_trial = told.is_trial;
  lines = lines;
  are_lines = told.are_lines;
  agrees = λ clean. elim told.are_lines.tells [
    | inl comparable ↦ comparable.1
    | inr apart ↦ absurd (apart.0 (outputs-comparable seed size steps told.trial told.is_trial clean))
  ];
  appended = appended;
}
