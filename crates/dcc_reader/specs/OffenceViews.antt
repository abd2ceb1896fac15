-- The kinds of offences and the offences that the declared types stand for.
use Rattle.dcc_c.specs.Kinds as kinds
use Rattle.dcc_reader.specs.declared.offence.ParseKind.{ParseKind}
use Rattle.dcc_reader.specs.declared.offence.ParseKind.TheVariants.{Length, Version, Token, Grammar, Name, Type_, Place}
use Rattle.dcc_reader.specs.declared.offence.ParseKind.TheVariants.{Depth}
use Rattle.dcc_reader.specs.declared.offence.Offence.{Offence}

abbrev pub kind_of : ParseKind → kinds.Kind
kind_of Length = kinds.of_length
kind_of Version = kinds.of_version
kind_of Token = kinds.of_token
kind_of Grammar = kinds.of_grammar
kind_of Name = kinds.of_name
kind_of Type_ = kinds.of_type
kind_of Place = kinds.of_place
kind_of Depth = kinds.of_depth

abbrev pub offence_of : Offence → kinds.Offence
offence_of o = kinds.offence (kind_of o.kind) o.at
