use Rattle.std.proofs.Common.{◌≤◌, Contains, length, get_or, sym, ◌∙◌, subst}
use Rattle.std.proofs.lemmas.List.Elements.{Contains-get_or}
use Rattle.dcc_ir.specs.Views.{program_of}
use Rattle.dcc_summaries.specs.Points.{point_at}
use Rattle.dcc_summaries.specs.Ways.{port_at}
use Rattle.dcc_summaries.proofs.SumLaws.{call_point, is_reused}
use Rattle.dcc_summaries.proofs.FaultLaws.{not_more, not_all}
use Rattle.dcc_summaries.proofs.backwards.Found.reused.Goals as goal

pub reuses-requires : goal.reuses-requires
reuses-requires c =
    let ports = c.deref-port-items.result.now in
    let i = c.loop-port.port-index in
    let port = get_or ports i (port_at (point_at 0 0 0) 0) in
    call_point (program_of c.args.p.now) c.requires.program c.args.self.now c.requires.found port
    (subst (λ l. Contains l port) c.deref-port-items.ensures.value (Contains-get_or ports i (port_at (point_at 0 0 0) 0) c.loop-port-test.true))

pub address_of-requires : goal.address_of-requires
address_of-requires c =
    let ports = c.deref-port-items.result.now in
    let i = c.loop-port.port-index in
    let port = get_or ports i (port_at (point_at 0 0 0) 0) in
    call_point (program_of c.args.p.now) c.requires.program c.args.self.now c.requires.found port
    (subst (λ l. Contains l port) c.deref-port-items.ensures.value (Contains-get_or ports i (port_at (point_at 0 0 0) 0) c.loop-port-test.true))

pub returns-then-reuses : goal.returns-then-reuses
returns-then-reuses c =
    let ports = c.deref-port-items.result.now in
    let i = c.loop-port.port-index in
    let port = get_or ports i (port_at (point_at 0 0 0) 0) in
    is_reused (program_of c.args.p.now) c.requires.program c.args.self.now c.requires.found port.at
    (call_point (program_of c.args.p.now) c.requires.program c.args.self.now c.requires.found port
    (subst (λ l. Contains l port) c.deref-port-items.ensures.value (Contains-get_or ports i (port_at (point_at 0 0 0) 0) c.loop-port-test.true)))
    (sym c.reuses.ensures ∙ c.if-reuses.true) c.address_of.result (sym c.address_of.ensures)

pub loop-port-preserved : goal.loop-port-preserved
loop-port-preserved c = not_more (program_of c.args.p.now) c.args.self.now c.args.self.now.calls.items c.deref-port-items.result.now c.loop-port.port-index (port_at (point_at 0 0 0) 0)
    c.deref-port-items.ensures.value c.loop-port-test.true c.loop-port.invariant (sym c.reuses.ensures ∙ c.if-reuses.false)

pub returns : goal.returns
returns c = not_all (program_of c.args.p.now) c.requires.program c.args.self.now c.requires.found c.loop-port.port-index
    (subst (λ l. length l ≤ c.loop-port.port-index) c.deref-port-items.ensures.value c.loop-port-test.false) c.loop-port.invariant
