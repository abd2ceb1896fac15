-- The words that tell why a text is refused.
use Rattle.std.specs.Prelude.{ℕ, List, codes}
use Rattle.dcc_reader.specs.declared.offence.ParseKind.{ParseKind}
use Rattle.dcc_reader.specs.declared.offence.ParseKind.TheVariants.{Length, Version, Token, Grammar, Name, Type_, Place}
use Rattle.dcc_reader.specs.declared.offence.ParseKind.TheVariants.{Depth}

abbrev pub kind_word : ParseKind → List ℕ
kind_word Length = codes "length"
kind_word Version = codes "version"
kind_word Token = codes "token"
kind_word Grammar = codes "grammar"
kind_word Name = codes "name"
kind_word Type_ = codes "type"
kind_word Place = codes "place"
kind_word Depth = codes "depth"
