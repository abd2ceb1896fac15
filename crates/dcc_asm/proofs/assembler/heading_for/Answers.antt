use Rattle.std.proofs.Common.{List, ℕ, ◌∷◌, [], ◌++◌, ap, ◌∙◌}
use Rattle.dcc_reread.specs.Reading.{word_value}
use Rattle.dcc_list.specs.Text.{text_of, head_line}
use Rattle.dcc_asm.proofs.HeadLaws.{no-heading}
use Rattle.dcc_asm.proofs.assembler.heading_for.Goals as goal

pub returns : goal.returns
returns c =
    let cs = c.word_value-cs.result in
    let is = c.word_value-cs.ensures ∙ ap (word_value c.args.text.now) c.digits_place.ensures.place in
    let made = c.as_slice.ensures.value ∙ c.in_ok-push_head.ensures
    ∙ ap (λ (l : List ℕ). l ++ text_of (head_line c.args.cpu cs ∷ [])) c.new-head.ensures.items in
    no-heading c.args.cpu c.args.text.now c.as_slice.result.now cs is made c.in-None.ensures
