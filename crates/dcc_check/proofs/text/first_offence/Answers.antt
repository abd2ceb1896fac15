use Rattle.std.proofs.Common.{[], ◌++◌, map, None, refl, sym, ap, ◌∙◌}
use Rattle.std.specs.Prelude.{option_map}
use Rattle.dcc_c.specs.Dos.{dos_names}
use Rattle.dcc_c.specs.Kinds.{first_after}
use Rattle.dcc_c.specs.Known.{known_functions}
use Rattle.dcc_c.specs.Offences.{repeated}
use Rattle.dcc_c.specs.TextOffences.{known_in, stop_offences, stack_offences, name_list, function_names, globals_places, number_or_zero, start_offences, functions_offences, text_offences}
use Rattle.dcc_c.proofs.refusals.FirstRules.{first-append}
use Rattle.dcc_lex.specs.PiecesViews.{pieces_of}
use Rattle.dcc_reader.specs.OffenceViews.{offence_of}
use Rattle.dcc_reader.specs.PartialViews.{function_of, variable_of, text_of}
use Rattle.dcc_reader.specs.Told.{told}
use Rattle.dcc_check.proofs.ToldLaws.{told-two, told-four, stop-first}
use Rattle.dcc_check.proofs.text.first_offence.Goals as goal

pub returns : goal.returns
returns c =
    let text = text_of c.args.text.now in
    let rest = pieces_of c.args.rest.now in
    let stop = option_map offence_of c.args.stop in
    let whole = known_in text rest in
    let is_whole = c.in_ok-whole.ensures rest (ap (λ l. known_functions (map function_of l)) c.deref.ensures.value ∙ c.in_ok-heads.ensures) in
    let stack = stack_offences text.lo ++ stack_offences text.hi in
    let names = repeated dos_names (name_list text.globals ++ function_names text.functions) in
    let places = globals_places (number_or_zero text.lo) (number_or_zero text.hi) [] text.globals in
    let start = start_offences text.functions in
    let functions = functions_offences whole text.functions in
    let first = told c.tell_stack-2.new.first in
    let named = told c.tell_names.new.first in
    let placed = told c.tell_globals.new.first in
    let started = told c.tell_start.new.first in
    let last = told c.check_functions.new.first in
    told-two stop first last stack (names ++ (places ++ (start ++ functions)))
    (told-two stop (told c.tell_stack.new.first) first (stack_offences text.lo) (stack_offences text.hi) c.tell_stack.ensures c.tell_stack-2.ensures)
    (told-four first named placed started last names places start functions
    c.in_ok-tell_names.ensures
    (c.in_ok-tell_globals.ensures
    ∙ ap (λ l. first_after named (globals_places c.number_or_zero.result c.number_or_zero-2.result [] (map variable_of l))) c.deref-2.ensures.value
    ∙ ap (λ n. first_after named (globals_places n c.number_or_zero-2.result [] text.globals)) c.number_or_zero.ensures
    ∙ ap (λ n. first_after named (globals_places (number_or_zero text.lo) n [] text.globals)) c.number_or_zero-2.ensures)
    (c.tell_start.ensures ∙ ap (λ l. first_after placed (start_offences (map function_of l))) c.deref-3.ensures.value)
    (c.in_ok-check_functions.ensures whole is_whole refl
    ∙ ap (λ l. first_after started (functions_offences whole (map function_of l))) c.deref-4.ensures.value))
    ∙ ap (λ f. first_after f (text_offences text rest)) (sym (stop-first stop))
    ∙ sym (first-append None (stop_offences stop) (text_offences text rest))
