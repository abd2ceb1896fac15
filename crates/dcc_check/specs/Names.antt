-- Lists of names.
use Rattle.std.specs.Prelude.{List, map}
use denote.Ref.{Bor}
use Rattle.dcc_c.specs.Partial as partial
use Rattle.dcc_reader.specs.declared.partial.WordAt.{WordAt}
use Rattle.dcc_reader.specs.WordViews.{lent_word}

-- the names that a list of references stands for
abbrev pub lent_names : List (Bor WordAt) → List partial.WordAt
lent_names names = map lent_word names
