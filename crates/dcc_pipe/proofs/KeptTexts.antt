-- A text that is another one otherwise written keeps what is told of that one.
use Rattle.std.proofs.Common.{◌∙◌}
use Rattle.std.specs.List.{AllZip}
use Rattle.dcc_c.specs.Numbered.{numbered}
use Rattle.dcc_c.specs.Tree.{Tree}
use Rattle.dcc_c.specs.Written.{written_form}
use Rattle.dcc_c.proofs.PrintLaws.{writable_stands}
use Rattle.dcc_c.proofs.Writable.{IsWritable}
use Rattle.dcc_respell.specs.Laws.{RespelledTextsRunAlike}
use Rattle.dcc_respell.specs.Respelled.{IsRespelled}
use Rattle.dcc_pipe.specs.Kept.{IsKept}
use Rattle.dcc_pipe.proofs.DeclaredFunctions.{SameAutos, all-declared, all-further}
use Rattle.dcc_pipe.proofs.RespelledTexts.{respelled-size, runs-agree}

-- a text that is otherwise written, with the same `auto` variables
pub kept-by : RespelledTextsRunAlike → (plain final : Tree) → IsWritable final
    → IsRespelled (numbered plain) (numbered final)
    → AllZip SameAutos (numbered plain).functions (numbered final).functions → IsKept plain final
kept-by law plain final writable respelled autos = record {
  writable = writable;
  size = respelled-size (numbered plain) (numbered final) respelled;
  runs = λ cpu image is also tokens input fill.
      runs-agree law cpu image (written_form plain) (written_form final) (numbered plain) (numbered final) is also
      respelled tokens input fill;
  declared =
      all-declared (numbered plain) (numbered final) (numbered plain).functions (numbered final).functions
      respelled.functions autos;
}

-- one way after another
pub kept-further : (plain middle final : Tree) → IsKept plain middle → IsKept middle final → IsKept plain final
kept-further plain middle final first second = record {
  writable = second.writable;
  size = second.size ∙ first.size;
  runs = λ cpu image is also tokens input fill agree.
      let between = writable_stands middle first.writable in
      second.runs cpu image between also tokens input fill (first.runs cpu image is between tokens input fill agree);
  declared =
      all-further (numbered plain).functions (numbered middle).functions (numbered final).functions first.declared
      second.declared;
}
