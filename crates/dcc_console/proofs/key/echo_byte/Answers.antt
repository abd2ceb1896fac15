use Rattle.std.proofs.Common.{[], ◌∷◌, sym, ap, ◌∙◌}
use Rattle.std.specs.Prelude.{if◌then◌else◌}
use Rattle.dcc_io.specs.Told.{append_told}
use Rattle.dcc_io.proofs.ToldLemmas.{append_told-nil}
use Rattle.dcc_console.proofs.key.echo_byte.Goals as goal

pub returns-else-echo-clause-whole : goal.returns-else-echo-clause-whole
returns-else-echo-clause-whole g c =
    let taken = g.O.Sink.taken c.args.out.now in
    sym (append_told-nil taken)
    ∙ ap (λ b. append_told taken (if b then c.args.byte ∷ [] else [])) (sym c.if-echo.false)
