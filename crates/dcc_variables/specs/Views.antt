-- What the declared types stand for.
use Rattle.dcc_text.specs.Spelling.{Spelling}
use Rattle.dcc_variables.specs.declared.head.Head.{Head}
use Rattle.dcc_variables.specs.declared.variables.Variables.{Variables}
use Rattle.dcc_variables.specs.Functions.{spelling_by}
use Rattle.dcc_variables.specs.Variables.{Shape}

abbrev pub shape_in : Variables → Shape
shape_in v = record { bits = v.bits.items; locations = v.locations.items; cells = v.cells; frame = v.frame }

-- the spelling of the graph whose head it is
abbrev pub spelling_in : Head → Spelling
spelling_in h = spelling_by (shape_in h.variables) h.params.items
