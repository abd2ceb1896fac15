use Rattle.std.proofs.Common.{◌+◌, true, sym, ap, ◌∙◌, arith}
use Rattle.std.specs.Prelude.{◌||◌}
use Rattle.std.specs.List.{list_any}
use Rattle.std.proofs.lemmas.Bool.{or_left}
use Rattle.dcc_globals.specs.Marks.{data_of, is_small}
use Rattle.dcc_globals.specs.Pieces.{pieces}
use Rattle.dcc_globals.proofs.Tests.{told, word-spoilt}
use Rattle.dcc_globals.proofs.runs.Runs.is_word_spoilt.Goals as goal

pub returns-then-index : goal.returns-then-index
returns-then-index c =
    let runs = c.args.self.now in
    let ps = pieces (data_of runs.source) in
    let first = told is_small ps runs.marks.small.items c.args.at _ c.requires.runs.small (omega (arith, c.requires.inside)) c.index.ensures in
    c.if-index.true
    ∙ sym (word-spoilt c.args.at ps
    ∙ or_left (list_any (is_small c.args.at) ps) (list_any (is_small (c.args.at + 1)) ps) (sym first ∙ c.if-index.true))

pub returns-else-index : goal.returns-else-index
returns-else-index c =
    let runs = c.args.self.now in
    let ps = pieces (data_of runs.source) in
    let first = told is_small ps runs.marks.small.items c.args.at _ c.requires.runs.small (omega (arith, c.requires.inside)) c.index.ensures in
    let second =
    told is_small ps runs.marks.small.items (c.args.at + 1) _ c.requires.runs.small (omega (arith, c.requires.inside)) c.index-else-index.ensures in
    second ∙ sym (word-spoilt c.args.at ps ∙ ap (λ b. b || list_any (is_small (c.args.at + 1)) ps) (sym first ∙ c.if-index.false))
