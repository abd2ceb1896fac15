use Rattle.std.proofs.Common.{◌≡◌, ℕ, List, ◌++◌, codes, string_bytes, ap, ◌∙◌, subst}
use Rattle.std.proofs.lemmas.Result.{IfOk-weaker}
use Rattle.dcc_trial.specs.Lines.{side_words, TellsPrefix, counts_lines, AreLinesOf}
use Rattle.dcc_trial.proofs.telling.lines.Goals as goal

pub returns : goal.returns
returns c =
    let trial = c.args.trial.now in
    let word = c.prefix_word-word.result.now in
    let head = string_bytes c.in_ok-head.head in
    let rest : List ℕ = codes "machine " ++ (side_words trial.machine ++ (codes "\nc "
    ++ (side_words trial.text_run ++ (codes "\nprefix " ++ (word ++ codes "\n"))))) in
    let head_is : head ≡ counts_lines trial = c.in_ok-head.ensures.ok in
    let one = subst (λ output. TellsPrefix output c.deref-2.result.now word) c.deref.ensures.value c.prefix_word-word.ensures in
    let both = subst (λ other. TellsPrefix trial.machine.output.items other word) c.deref-2.ensures.value one in
    IfOk-weaker c.format-2.result (λ lines. string_bytes lines ≡ head ++ rest) (λ lines. AreLinesOf trial (string_bytes lines))
    (λ lines is. record { word = word; tells = both; lines_are = is ∙ ap (λ l. l ++ rest) head_is }) c.format-2.ensures.ok
