-- The first offence among those that have been told.
use Rattle.std.specs.Prelude.{◌≡◌, List, Option, option_map}
use Rattle.dcc_c.specs.Kinds as kinds
use Rattle.dcc_reader.specs.OffenceViews.{offence_of}
use Rattle.dcc_reader.specs.declared.first.First.{First}

abbrev pub told : First → Option kinds.Offence
told first = option_map offence_of first.offence

-- the offences of the list are told after what has been told
abbrev pub Tells : First → First → List kinds.Offence → Type 0
Tells old new offences = told new ≡ kinds.first_after (told old) offences
