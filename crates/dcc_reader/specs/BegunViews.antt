-- What the declared type of the beginning of a declaration stands for.
use Rattle.std.specs.Prelude.{ℕ, Option, Some, None, if◌then◌else◌}
use Rattle.std.specs.Option.{option_map}
use Rattle.dcc_c.specs.Reading.{Reader, is_stopped}
use Rattle.dcc_c.specs.ReadingText as texts
use Rattle.dcc_reader.specs.PartialViews.{word_of}
use Rattle.dcc_reader.specs.declared.head.Begun.{Begun}

abbrev pub begun_of : Begun → texts.Begun
begun_of begun = record {
  at = begun.at;
  has_result = begun.has_result;
  result = begun.result;
  name = option_map word_of begun.name;
}

-- the place after an opening parenthesis, where that was read
abbrev pub opened_at : Reader → Option ℕ
opened_at r = if is_stopped r then None else Some r.at
