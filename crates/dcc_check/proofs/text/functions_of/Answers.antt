use Rattle.std.proofs.Common.{map, ap, ◌∙◌}
use Rattle.std.specs.Prelude.{option_map}
use Rattle.dcc_c.specs.Known.{known_as, known_dos, known_functions, heads_in}
use Rattle.dcc_reader.specs.PartialViews.{function_of}
use Rattle.dcc_check.specs.Declarations.{first_found, held_head}
use Rattle.dcc_check.specs.Contexts.{head_of, signature_of}
use Rattle.dcc_check.proofs.MapLaws.{none-held}
use Rattle.dcc_check.proofs.WholeLaws.{three-lists}
use Rattle.dcc_check.proofs.text.functions_of.Goals as goal

pub returns : goal.returns
returns c = λ rest heads_are word.
    three-lists known_dos (known_functions (map function_of c.args.text.now.functions.items)) (heads_in rest) word
    (held_head c.new-functions.result word) (held_head c.add_dos.new.declared word) (held_head c.add_functions.new.declared word) (held_head c.add_functions-2.new.declared word)
    (ap (option_map (λ head. option_map signature_of head)) (none-held c.new-functions.result word c.new-functions.ensures.empty))
    (c.in_ok-add_dos.ensures word)
    (c.in_ok-add_functions.ensures word
    ∙ ap (λ l. first_found (held_head c.add_dos.new.declared word) (option_map head_of (known_as (known_functions (map function_of l)) word))) c.deref.ensures.value)
    (c.in_ok-add_functions-2.ensures word
    ∙ ap (λ ks. first_found (held_head c.add_functions.new.declared word) (option_map head_of (known_as ks word))) heads_are)
