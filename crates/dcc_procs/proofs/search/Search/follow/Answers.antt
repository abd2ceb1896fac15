use Rattle.std.proofs.Common.{ℕ, List, get_or, ap, ◌∙◌, arith, rules}
use Rattle.dcc_prog.specs.Refused.{IsRefusedByTrails}
use Rattle.dcc_prog.specs.Refused as refused
use Rattle.dcc_prog.specs.declared.refusal.Refusal.TheVariants.{Memory}
use Rattle.dcc_procs.specs.Search.{work_of}
use Rattle.dcc_procs.proofs.Following.{seen-known, inside-of, past-of, none-followed, full-here, one-followed, all-followed}
use Rattle.dcc_procs.proofs.search.Search.follow.Goals as goal

pub accepted-requires-clause-witnessed : goal.accepted-requires-clause-witnessed
accepted-requires-clause-witnessed c =
    c.requires.sound.witnessed c.args.at c.in-Some.known
    (seen-known _ _ _ _ _ _ _ _ c.requires.sound c.index.ensures c.from.ensures c.in-Some.is (omega (arith, c.ranges.at)))

pub returns-in_err-succ-clause-refused : goal.returns-in_err-succ-clause-refused
returns-in_err-succ-clause-refused c =
    let named : IsRefusedByTrails c.args.image.now c.args.layout.now Memory = refused.no_memory in
    search rules

pub loop-place-init : goal.loop-place-init
loop-place-init c =
    none-followed c.args.image.now c.args.layout.now c.args.entry c.args.at c.in-Some.known c.in_ok-instr.instr
    (work_of c.args.self.now) c.requires.entry c.requires.sound
    (seen-known _ _ _ _ _ _ _ _ c.requires.sound c.index.ensures c.from.ensures c.in-Some.is (omega (arith, c.ranges.at)))
    c.in_ok-instr.ensures.accepted

pub arrive-requires-clause-length : goal.arrive-requires-clause-length
arrive-requires-clause-length c = c.loop-place.invariant.0.length_is

pub arrive-requires-clause-few : goal.arrive-requires-clause-few
arrive-requires-clause-few c = c.loop-place.invariant.0.order.few

pub returns-in_err-arrive-clause-refused : goal.returns-in_err-arrive-clause-refused
returns-in_err-arrive-clause-refused c =
    let named : IsRefusedByTrails c.args.image.now c.args.layout.now c.in_err-arrive.field-0.0 =
    full-here _ _ c.args.entry c.args.at c.in-Some.known c.in_ok-instr.instr (work_of c.args.self.now) c.requires.entry c.requires.sound
    (seen-known _ _ _ _ _ _ _ _ c.requires.sound c.index.ensures c.from.ensures c.in-Some.is (omega (arith, c.ranges.at)))
    c.in_ok-instr.ensures.accepted (work_of c.loop-place.self) c.loop-place.place _ c.after.result
    (inside-of _ _ _ _ c.in_ok-succ.ensures c.len-place-end.ensures.value c.loop-place-test.true)
    (ap (λ (l : List ℕ). get_or l c.loop-place.place 0) (c.deref.ensures ∙ c.in_ok-succ.ensures))
    c.after.ensures c.loop-place.invariant.0 c.loop-place.invariant.1 c.in_err-arrive.field-0.0 c.in_err-arrive.ensures.full in
    search rules

pub loop-place-preserved : goal.loop-place-preserved
loop-place-preserved c =
    one-followed _ _ c.args.entry c.args.at c.in-Some.known c.in_ok-instr.instr (work_of c.args.self.now) c.requires.entry c.requires.sound
    (seen-known _ _ _ _ _ _ _ _ c.requires.sound c.index.ensures c.from.ensures c.in-Some.is (omega (arith, c.ranges.at)))
    c.in_ok-instr.ensures.accepted (work_of c.loop-place.self) c.loop-place.place _ c.after.result
    (inside-of _ _ _ _ c.in_ok-succ.ensures c.len-place-end.ensures.value c.loop-place-test.true)
    (ap (λ (l : List ℕ). get_or l c.loop-place.place 0) (c.deref.ensures ∙ c.in_ok-succ.ensures))
    c.after.ensures c.loop-place.invariant.0 c.loop-place.invariant.1 (work_of c.arrive.new.self) c.arrive.ensures.small
    c.in_ok-arrive.ensures.arrived c.loop-place.invariant.2

pub returns-clause-followed : goal.returns-clause-followed
returns-clause-followed c =
    all-followed c.args.image.now c.args.layout.now c.args.entry c.args.at c.in-Some.known c.in_ok-instr.instr
    (work_of c.args.self.now) c.requires.entry c.requires.sound
    (seen-known _ _ _ _ _ _ _ _ c.requires.sound c.index.ensures c.from.ensures c.in-Some.is (omega (arith, c.ranges.at)))
    c.in_ok-instr.ensures.accepted (work_of c.loop-place.self) c.loop-place.place
    (past-of _ _ _ _ c.in_ok-succ.ensures c.len-place-end.ensures.value c.loop-place-test.false)
    c.loop-place.invariant.0 c.loop-place.invariant.1 c.loop-place.invariant.2
