use Rattle.std.proofs.Common.{◌≡◌, length, sym, ap, ◌∙◌, arith}
use Rattle.std.specs.Option.{unwrap_or}
use Rattle.dcc_run.specs.Event.{byte_written}
use Rattle.dcc_map.specs.Side.{event_of}
use Rattle.dcc_map.proofs.TallyLaws.{tallied, not_written}
use Rattle.dcc_map.proofs.tally.Tally.count.Goals as goal
use Rattle.dcc_map.proofs.tally.Tally.count.Goals.{in-Wrote, in_default}

pub returns : goal.returns
returns c both few tallies =
    tallied both c.args.line c.args.at c.args.event c.args.self.now c.match-event.self c.insert.new.self
    c.unwrap_or-had.result c.saturating_add.result few tallies
    (elim c.match-event.branch [ in-Wrote w ↦ ap (λ t. t.counts) w.self-is | in_default w ↦ ap (λ t. t.counts) w.self-is ])
    (λ brief. elim c.match-event.branch [
      | in-Wrote w ↦
          let one : length (byte_written (event_of c.args.event)) ≡ 1 = ap (λ e. length (byte_written (event_of e))) w.in-Wrote.is in
          let is = ap (λ t. t.bytes) w.self-is in
          omega (arith, brief, one, is, w.saturating_add-self.ensures)
      | in_default w ↦
          let none = not_written c.args.event w.in_default.not-Wrote in
          let is = ap (λ t. t.bytes) w.self-is in
          omega (arith, none, is)
    ])
    (c.unwrap_or-had.ensures ∙ ap (λ o. unwrap_or o 0) (c.copied.ensures ∙ c.get.ensures.value))
    (λ brief. omega (arith, brief, c.saturating_add.ensures)) c.in_ok-insert.ensures.updates.0 c.in_ok-insert.ensures.entries
