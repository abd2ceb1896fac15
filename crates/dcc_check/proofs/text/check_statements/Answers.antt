use Rattle.std.proofs.Common.{refl, ap, ◌∙◌}
use Rattle.std.specs.Prelude.{not}
use Rattle.dcc_c.specs.Kinds.{first_after}
use Rattle.dcc_c.specs.Offences.{lines_offences}
use Rattle.dcc_c.specs.Placement.{is_auto, is_register}
use Rattle.dcc_c.specs.TextOffences.{declared_of, scene_of}
use Rattle.dcc_reader.specs.PartialViews.{function_of, lines_of}
use Rattle.dcc_check.specs.Contexts.{held}
use Rattle.dcc_reader.specs.Told.{told}
use Rattle.dcc_check.proofs.WholeLaws.{variable-found, locals-first}
use Rattle.dcc_check.proofs.text.check_statements.Goals as goal

pub returns : goal.returns
returns c = λ w more is_whole are_labels.
    let f = function_of c.args.function.now in
    c.in_ok-check_body.ensures (scene_of w more f) (record {
      names = λ word.
          variable-found (held c.in_ok-locals.locals word) (held c.args.whole.now.globals word)
          ∙ locals-first (declared_of (λ v. not (is_register v.class)) f.params) (declared_of (λ v. is_auto v.class) f.locals) w.globals word
          (held c.in_ok-locals.locals word) (held c.args.whole.now.globals word) (c.in_ok-locals.ensures word) (is_whole.globals word);
      functions = λ word. is_whole.functions word;
      labels = are_labels;
      has_result = refl;
      result = refl;
    })
    ∙ ap (λ rows. first_after (told c.args.first.now) (lines_offences (scene_of w more f) 0 (lines_of rows))) c.deref.ensures.value
