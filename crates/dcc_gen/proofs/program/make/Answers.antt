use Rattle.std.proofs.Common.{◌≡◌, ℕ, ◌++◌, map, ap, ◌∙◌, arith}
use Rattle.std.specs.List.{flat_map}
use Rattle.std.proofs.lemmas.Result.{IfOk-weaker}
use Rattle.dcc_gen.specs.Code.{code_of}
use Rattle.dcc_gen.specs.Draws.{Draw}
use Rattle.dcc_gen.specs.File.{IsMade, file_with}
use Rattle.dcc_gen.specs.Pieces.{draws_of}
use Rattle.dcc_gen.specs.Program.{Program, IsDrawnFrom}
use Rattle.dcc_gen.proofs.DrawLaws.{drawn-append}
use Rattle.dcc_gen.proofs.program.make.Goals as goal

pub returns : goal.returns
returns c =
    let seed = c.args.seed in
    let start = c.in_ok-start.start in
    let bodies = c.in_ok-bodies.bodies in
    let words = c.in_ok-words.words in
    let program : Program = record { start = start.items; bodies = bodies.items; words = words.items } in
    let first = flat_map (draws_of 12) start.items in
    let second = flat_map (draws_of 11) bodies.items in
    let draw : ℕ → Draw = λ word. (65536, word) in
    let third = map draw words.items in
    let one = c.pieces.new.self.state in
    let two = c.pieces-2.new.self.state in
    let three = c.words.new.self.state in
    let drawn : IsDrawnFrom seed c.args.size program = record {
      start = omega (arith, start.ok.0, c.in_ok-start.ensures.count);
      bodies = omega (arith, bodies.ok.0, c.in_ok-bodies.ensures.count);
      words = omega (arith, words.ok.0, c.in_ok-words.ensures.count);
      last_state = three;
      drawn = drawn-append first (second ++ third) seed one three c.in_ok-start.ensures.drawn
          (drawn-append second third one two three c.in_ok-bodies.ensures.drawn c.in_ok-words.ensures.drawn);
    } in
    let code : c.deref-3.result.now ≡ code_of start.items bodies.items =
    c.deref-3.ensures.value ∙ c.in_ok-code.ensures.code
    ∙ ap (λ l. code_of l c.deref-2.result.now) c.deref.ensures.value
    ∙ ap (code_of start.items) c.deref-2.ensures.value in
    IfOk-weaker c.file.result
    (λ file. file.items ≡ file_with c.deref-3.result.now c.deref-4.result.now)
    (λ file. IsMade seed c.args.size file.items)
    (λ file is. record {
      program = program;
      drawn = drawn;
      bytes = is ∙ ap (λ l. file_with l c.deref-4.result.now) code
          ∙ ap (file_with (code_of start.items bodies.items)) c.deref-4.ensures.value;
    }) c.file.ensures
