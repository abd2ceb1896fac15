use Rattle.std.proofs.Common.{Ok, sym, ap, ◌∙◌}
use Rattle.std.specs.Option.{option_to_list}
use Rattle.dcc_io.specs.Told.{append_told, prepend_told}
use Rattle.dcc_io.proofs.ToldLemmas.{append_told-nil}
use Rattle.dcc_console.specs.Key.{next_byte, no_byte}
use Rattle.dcc_console.proofs.KeyLaws.{key-taken, key-written}
use Rattle.dcc_console.proofs.key.take_key.Goals as goal

pub returns-in_default-next-clause-taken : goal.returns-in_default-next-clause-taken
returns-in_default-next-clause-taken g c =
    let left = g.I.Source.left c.next_byte.new.input in
    no_byte (c.next_byte.ensures.end (c.in-Ok.is ∙ ap Ok c.in_default-next.is))
    (c.in-Ok.ensures.byte ∙ ap (λ k. prepend_told (option_to_list k) left) c.in_default-next.is)
    (sym (append_told-nil (g.O.Sink.taken c.args.out.now)))

pub returns-clause-taken : goal.returns-clause-taken
returns-clause-taken g c =
    let left = g.I.Source.left c.next_byte.new.input in
    next_byte
    (c.in-Ok.ensures.byte ∙ ap (λ k. prepend_told (option_to_list k) left) c.in-Some.is
    ∙ ap (λ l. prepend_told l left) (sym (key-taken c.args.echo c.in-Some.byte)))
    (c.in-Ok-echo_byte.ensures.whole ∙ ap (append_told (g.O.Sink.taken c.args.out.now)) (sym (key-written c.args.echo c.in-Some.byte)))
