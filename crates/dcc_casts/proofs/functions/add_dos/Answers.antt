use Rattle.std.proofs.Common.{Option, Some, None, sym, ap, ◌∙◌}
use Rattle.std.specs.Prelude.{if◌then◌else◌}
use Rattle.dcc_c.specs.Dos.{Dos, Putc, Getche, Getch, Puts, Leave, dos_name}
use Rattle.dcc_c.specs.Token.{same_bytes}
use Rattle.dcc_check.specs.Contexts.{held}
use Rattle.dcc_check.specs.Declarations.{first_found}
use Rattle.dcc_check.proofs.MapLaws.{first-none}
use Rattle.dcc_casts.proofs.Dos.{types_in, taken, dos-step}
use Rattle.dcc_casts.proofs.functions.add_dos.Goals as goal

pub returns : goal.returns
returns c = λ empty word.
    let one = held c.add_first.new.functions word in
    let two = held c.add_first-2.new.functions word in
    let three = held c.add_first-3.new.functions word in
    let four = held c.add_first-4.new.functions word in
    let five = held c.add_first-5.new.functions word in
    let last : Option Dos = if same_bytes (dos_name Leave) word then Some Leave else None in
    let puts : Option Dos = if same_bytes (dos_name Puts) word then Some Puts else last in
    let getch : Option Dos = if same_bytes (dos_name Getch) word then Some Getch else puts in
    let getche : Option Dos = if same_bytes (dos_name Getche) word then Some Getche else getch in
    sym (first-none (types_in five))
    ∙ dos-step four five (same_bytes (dos_name Leave) word) c.in_ok-taking-3.field-0 Leave None (c.in_ok-add_first-5.ensures word) c.in_ok-taking-3.ensures
    ∙ dos-step three four (same_bytes (dos_name Puts) word) c.in_ok-taking-2.field-0 Puts last (c.in_ok-add_first-4.ensures word) c.in_ok-taking-2.ensures
    ∙ dos-step two three (same_bytes (dos_name Getch) word) c.taking_none-2.result Getch puts (c.in_ok-add_first-3.ensures word) c.taking_none-2.ensures
    ∙ dos-step one two (same_bytes (dos_name Getche) word) c.taking_none.result Getche getch (c.in_ok-add_first-2.ensures word) c.taking_none.ensures
    ∙ dos-step (held c.args.functions.now word) one (same_bytes (dos_name Putc) word) c.in_ok-taking.field-0 Putc getche (c.in_ok-add_first.ensures word) c.in_ok-taking.ensures
    ∙ ap (λ o. first_found (types_in o) (taken (if same_bytes (dos_name Putc) word then Some Putc else getche))) (empty word)
