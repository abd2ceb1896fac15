-- What the declared type of what stands around a statement stands for.
use Rattle.dcc_c.specs.Grammar as grammar
use Rattle.dcc_reader.specs.declared.around.Around.{Around}

abbrev pub around_of : Around → grammar.Around
around_of a = record { blocks = a.blocks; breaks = a.breaks; continues = a.continues }
