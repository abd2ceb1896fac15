use Rattle.std.proofs.Common.{List, ℕ, drop, sym, ap, ◌∙◌}
use Rattle.dcc_machine.specs.Table.{instruction_at}
use Rattle.dcc_list.proofs.Standing.{instruction_within}
use Rattle.dcc_list.proofs.lister.listed_instruction.Goals as goal

pub returns-clause-within : goal.returns-clause-within
returns-clause-within c =
    let cpu = c.args.program.now.layout.cpu in
    let at = c.in_ok-at.at in
    let offset = sym c.offset_of.ensures ∙ c.in_ok-at.was in
    let found = sym (c.decode.ensures ∙ ap (λ (code : List ℕ). instruction_at cpu at (drop at code)) c.code.ensures.code) ∙ c.in_ok-instr.was in
    let w = instruction_within c.args.image.now c.requires.loaded c.args.place cpu at c.in_ok-instr.instr offset found in
    (w.some, w.ends)
