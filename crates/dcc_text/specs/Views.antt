-- What the declared types stand for.
use Rattle.std.specs.Prelude.{string_bytes}
use Rattle.dcc_text.specs.declared.way.Way.{Way as TheWay}
use Rattle.dcc_text.specs.declared.way.Way.TheVariants.{Low as LowOf, Exact as ExactOf, Signed as SignedOf}
use Rattle.dcc_text.specs.declared.spells.NamedAddress.{NamedAddress}
use Rattle.dcc_text.specs.Spelling.{Placed}
use Rattle.dcc_text.specs.Spelled.{Way, Low, Exact, Signed}

-- the way of an expression's text
abbrev pub way_of : TheWay → Way
way_of LowOf = Low
way_of ExactOf = Exact
way_of SignedOf = Signed

-- an address in the frame
abbrev pub placed_of : NamedAddress → Placed
placed_of p = record { name = string_bytes p.name; is_array = p.is_array; above = p.above }
