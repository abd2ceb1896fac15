use Rattle.std.proofs.Common.{◌≡◌, ◌+◌, ◌*◌, length, drop, All}
use Rattle.dcc_flow.specs.Bits.{words_for}
use Rattle.dcc_flow.specs.Work.{work_of, spread}
use Rattle.dcc_flow.proofs.uses.Work.spread.Given as goal

abbrev pub invariant-loop-source : goal.invariant-loop-source
invariant-loop-source g l = record {
  rest : spread l.flow.used.now l.flow.out.now l.flow.written.now (work_of l.self) (drop l.source-index l.sources) ≡ spread l.flow.used.now l.flow.out.now l.flow.written.now (work_of l.initial.self) l.sources;
  lists : All (λ bits. length bits ≡ length l.flow.used.now) l.self.answer.items;
  count : length l.self.answer.items ≡ length l.initial.self.answer.items;
  flags : length l.self.queued.items ≡ length l.self.answer.items;
  steps : l.steps ≡ l.initial.steps + l.source-index * words_for (length l.flow.used.now);
}
