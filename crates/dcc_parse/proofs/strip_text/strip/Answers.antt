use Rattle.std.proofs.Common.{map}
use Rattle.dcc_c.specs.Views.{global_of, function_of}
use Rattle.dcc_reader.specs.PartialViews.{text_of}
use Rattle.dcc_parse.proofs.TextLaws.{clean-text, text-stripped}
use Rattle.dcc_parse.proofs.strip_text.strip.Goals as goal

pub returns : goal.returns
returns c complete none =
    text-stripped c.args.text c.strip_offset.result c.strip_offset-2.result
    (map global_of c.in_ok-strip_globals.field-0.items) (map function_of c.in_ok-strip_functions.field-0.items) (clean-text (text_of c.args.text) complete none)
    c.strip_offset.ensures c.strip_offset-2.ensures c.in_ok-strip_globals.ensures c.in_ok-strip_functions.ensures
