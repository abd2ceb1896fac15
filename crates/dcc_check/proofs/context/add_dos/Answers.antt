use Rattle.std.proofs.Common.{[], ◌∷◌, Some, sym, ◌∙◌}
use Rattle.dcc_c.specs.Dos.{Dos, Putc, Getche, Getch, Puts, Leave, dos_name, dos_signature}
use Rattle.dcc_c.specs.Known.{Known, known}
use Rattle.dcc_check.proofs.MapLaws.{first-none, known-step}
use Rattle.dcc_check.proofs.context.add_dos.Goals as goal

abbrev of_dos : Dos → Known
of_dos dos = known (dos_name dos) (Some (dos_signature dos))

pub returns : goal.returns
returns c = λ word.
    sym (first-none _)
    ∙ known-step (of_dos Leave) [] word _ _ _ (c.in_ok-add_first-5.ensures word) c.in_ok-takes-3.ensures
    ∙ known-step (of_dos Puts) (of_dos Leave ∷ []) word _ _ _ (c.in_ok-add_first-4.ensures word) c.in_ok-takes-2.ensures
    ∙ known-step (of_dos Getch) (of_dos Puts ∷ of_dos Leave ∷ []) word _ _ _ (c.in_ok-add_first-3.ensures word) c.in_ok-gives-2.ensures
    ∙ known-step (of_dos Getche) (of_dos Getch ∷ of_dos Puts ∷ of_dos Leave ∷ []) word _ _ _ (c.in_ok-add_first-2.ensures word) c.in_ok-gives.ensures
    ∙ known-step (of_dos Putc) (of_dos Getche ∷ of_dos Getch ∷ of_dos Puts ∷ of_dos Leave ∷ []) word _ _ _ (c.in_ok-add_first.ensures word) c.in_ok-takes.ensures
