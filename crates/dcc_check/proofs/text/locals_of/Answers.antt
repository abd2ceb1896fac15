use Rattle.std.proofs.Common.{map, ap, ◌∙◌}
use Rattle.std.specs.Prelude.{option_map, not}
use Rattle.dcc_c.specs.Placement.{is_auto, is_register}
use Rattle.dcc_c.specs.TextOffences.{declared_of}
use Rattle.dcc_c.specs.Typing.{declared_as}
use Rattle.dcc_reader.specs.PartialViews.{variable_of}
use Rattle.dcc_check.specs.Declarations.{first_found}
use Rattle.dcc_ctypes.specs.NameViews.{unnamed}
use Rattle.dcc_check.specs.Contexts.{held}
use Rattle.dcc_check.proofs.MapLaws.{none-held}
use Rattle.dcc_check.proofs.WholeLaws.{two-lists}
use Rattle.dcc_check.proofs.text.locals_of.Goals as goal

pub returns : goal.returns
returns c = λ word.
    two-lists (declared_of (λ v. not (is_register v.class)) (map variable_of c.args.function.now.params.items))
    (declared_of (λ v. is_auto v.class) (map variable_of c.args.function.now.locals.items)) word
    (held c.new-locals.result word) (held c.declare.new.declared word) (held c.declare-2.new.declared word)
    (none-held c.new-locals.result word c.new-locals.ensures.empty)
    (c.in_ok-declare.ensures word
    ∙ ap (λ l. first_found (held c.new-locals.result word) (option_map unnamed (declared_as (declared_of (λ v. not (is_register v.class)) (map variable_of l)) word))) c.deref.ensures.value)
    (c.in_ok-declare-2.ensures word
    ∙ ap (λ l. first_found (held c.declare.new.declared word) (option_map unnamed (declared_as (declared_of (λ v. is_auto v.class) (map variable_of l)) word))) c.deref-2.ensures.value)
