-- The words of a pragma that were found.
use Rattle.dcc_c.specs.Pieces as spec
use Rattle.dcc_lex.specs.declared.pragma.FoundHead.{FoundHead}
use Rattle.dcc_lex.specs.TokenViews.{head_of}

abbrev pub found_of : FoundHead → spec.FoundHead
found_of found = record { head = head_of found.head; rest = found.rest.now }
