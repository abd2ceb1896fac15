-- What the declared type of a number with its type stands for.
use Rattle.dcc_c.specs.Reading as reading
use Rattle.dcc_reader.specs.declared.operator.TypedNumber.{TypedNumber}

abbrev pub typed_of : TypedNumber → reading.TypedNumber
typed_of n = record { value = n.value; base = n.base }
