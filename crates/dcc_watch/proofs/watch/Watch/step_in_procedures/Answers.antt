use Rattle.std.proofs.Common.{◌≡◌, length, true, false, refl, sym, ap, ◌∙◌, subst, arith}
use Rattle.std.specs.Prelude.{option_map}
use Rattle.dcc_prog.specs.Clean.{top_in}
use Rattle.dcc_step.specs.Core.{Core, state_of}
use Rattle.dcc_watch.specs.declared.progress.Progress.TheVariants.{Stopped}
use Rattle.dcc_watch.specs.Foul.{told_foul}
use Rattle.dcc_watch.specs.Kept.{Kept}
use Rattle.dcc_watch.specs.Ordered.{AreOrdered}
use Rattle.dcc_watch.specs.Watching.{Watching, stage_of}
use Rattle.dcc_watch.specs.Reached.{IsKept, is_before}
use Rattle.dcc_watch.specs.Executor.{is_stopped, is_in_procedures}
use Rattle.dcc_watch.proofs.KeptLaws.{shapes_kept, viewed, foul_tells, follow_after, in_procedures, inside_unstopped, machine_end}
use Rattle.dcc_watch.proofs.ReachedOrder.{ordered_there}
use Rattle.dcc_watch.proofs.InsideLaws.{inside_of, foul_step, foul_comes, refused_step, room_for_call, made_step, made_comes}
use Rattle.dcc_watch.proofs.StepLaws.{refused_kept, made_unless, clean_faults}
use Rattle.dcc_watch.proofs.watch.Watch.step_in_procedures.Goals as goal

pub add_found-requires : goal.add_found-requires
add_found-requires g c = record {
  empty = c.at-before.ensures.list;
  operation = c.next_instruction-found.ensures.operation;
}

pub next_foul-requires : goal.next_foul-requires
next_foul-requires g c = record {
  list = c.add_found.ensures;
  top = c.at-before.ensures.top;
  ordered =
      let i = c.self.inside in
      let ordered =
      ordered_there i.layout i.shapes.items i.stack.frames.room i.machine i.progress i.stack.frames.live i.stack.written
      (in_procedures i.progress i.stack.frames.live i.stack.written
      (ap (λ (k : Watching). is_in_procedures k.stage) c.self.view_is ∙ c.requires.inside))
      (ap (λ (k : Watching). k.machine.end) c.self.view_is ∙ c.requires.runs) c.self.invariant.known c.self.invariant.reached in
      subst (λ top. AreOrdered top i.stack.frames.live)
      (ap (λ (m : Core). top_in i.layout (state_of m)) (sym c.next_instruction-found.ensures.kept) ∙ sym c.at-before.ensures.top) ordered;
}

pub invariant_of-self : goal.invariant_of-self
invariant_of-self g c = record {
  table = c.self.invariant.table;
  room_is = c.self.invariant.room_is;
  known = c.self.invariant.known;
  no_frame = λ is. cc;
  no_mark = λ is. cc;
  reached =
      foul_comes c.self.inside c.next_instruction-found.new.self c.next_instruction-found.result c.args.self.now
      (inside_of c.self.inside c.next_instruction-found.new.self c.next_instruction-found.result c.args.self.now
      c.next_instruction-found.ensures.kept c.self.view_is c.requires.runs c.requires.inside
      c.next_instruction-found.ensures.found c.self.invariant.known)
      c.in-Some.foul (ap (option_map told_foul) (sym c.in-Some.is) ∙ c.next_foul.ensures) c.self.invariant.reached;
}

pub returns-in-Some : goal.returns-in-Some
returns-in-Some g c = record {
  step =
      foul_step c.self.inside c.next_instruction-found.new.self c.next_instruction-found.result c.args.self.now
      (inside_of c.self.inside c.next_instruction-found.new.self c.next_instruction-found.result c.args.self.now
      c.next_instruction-found.ensures.kept c.self.view_is c.requires.runs c.requires.inside
      c.next_instruction-found.ensures.found c.self.invariant.known)
      (g.I.Source.left c.args.input.now) (g.O.Sink.taken c.args.out.now) c.in-Some.foul c.answer.result (ap (option_map told_foul) (sym c.in-Some.is) ∙ c.next_foul.ensures) c.answer.ensures;
  tells =
      let i = c.self.inside in
      foul_tells c.in-Some.foul c.answer.result
      (viewed i.layout i.shapes.items i.stack.frames.room c.next_instruction-found.new.self (Stopped c.in-Some.foul) i.stack.frames.live i.stack.written)
      c.answer.ensures refl;
  faults = record {
    input_faults = omega arith;
    output_faults = omega arith;
    read_failed = λ e. cc c.answer.ensures;
    write_failed = λ e. cc c.answer.ensures;
  };
}

pub invariant_of-self-then-is_refused : goal.invariant_of-self-then-is_refused
invariant_of-self-then-is_refused g c =
    let i = c.self.inside in
    let same : c.step-stepped.new.self ≡ i.machine =
    refused_kept c.step-stepped.result c.next_instruction-found.new.self c.step-stepped.new.self _ _ _ _
    (sym c.is_refused.ensures ∙ c.if-is_refused.true) c.step-stepped.ensures.step
    ∙ c.next_instruction-found.ensures.kept in
    subst (λ k. IsKept i.layout i.shapes.items i.stack.frames.room k i.stack.frames.live i.stack.written i.progress) (sym same)
    c.self.invariant

pub returns-then-is_refused : goal.returns-then-is_refused
returns-then-is_refused g c = record {
  step =
      refused_step c.self.inside c.next_instruction-found.new.self c.next_instruction-found.result c.args.self.now
      (inside_of c.self.inside c.next_instruction-found.new.self c.next_instruction-found.result c.args.self.now
      c.next_instruction-found.ensures.kept c.self.view_is c.requires.runs c.requires.inside
      c.next_instruction-found.ensures.found c.self.invariant.known)
      (g.I.Source.left c.args.input.now) (g.O.Sink.taken c.args.out.now) (g.I.Source.left c.step-stepped.new.input) (g.O.Sink.taken c.step-stepped.new.out) c.step-stepped.result
      c.step-stepped.new.self (ap (option_map told_foul) (sym c.in_default.is) ∙ c.next_foul.ensures)
      (sym c.is_refused.ensures ∙ c.if-is_refused.true) c.step-stepped.ensures.step;
  tells =
      let inside : is_in_procedures (stage_of c.self.inside.progress c.self.inside.stack.frames.live c.self.inside.stack.written) ≡ true =
      ap (λ (k : Watching). is_in_procedures k.stage) c.self.view_is ∙ c.requires.inside in
      (machine_end c.step-stepped.new.self c.step-stepped.result c.step-stepped.ensures.answer, inside_unstopped _ inside);
  faults = clean_faults c.step-stepped.result _ _ _ _ c.step-stepped.ensures.faults;
}

pub follow-requires-clause-table : goal.follow-requires-clause-table
follow-requires-clause-table g c =
    ap length c.deref.ensures.value ∙ c.self.invariant.table

pub follow-requires-clause-room : goal.follow-requires-clause-room
follow-requires-clause-room g c =
    room_for_call c.self.inside c.next_instruction-found.new.self c.next_instruction-found.result c.args.self.now
    (inside_of c.self.inside c.next_instruction-found.new.self c.next_instruction-found.result c.args.self.now
    c.next_instruction-found.ensures.kept c.self.view_is c.requires.runs c.requires.inside
    c.next_instruction-found.ensures.found c.self.invariant.known)
    (ap (option_map told_foul) (sym c.in_default.is) ∙ c.next_foul.ensures) c.self.invariant.room_is c.self.invariant.reached

pub invariant_of-self-2 : goal.invariant_of-self-2
invariant_of-self-2 g c =
    let i = c.self.inside in
    let here = in_procedures i.progress i.stack.frames.live i.stack.written
    (ap (λ (k : Watching). is_in_procedures k.stage) c.self.view_is ∙ c.requires.inside) in
    let stack = c.follow.new.stack in
    let room : stack.frames.room ≡ i.stack.frames.room = ap (λ (k : Kept). k.room) c.follow.ensures.frames in
    let after =
    follow_after c.self.inside.layout c.deref.result.now c.next_instruction-found.result c.self.inside.stack.frames.live
    c.self.inside.stack.written (state_of c.next_instruction-found.new.self) (state_of c.step-stepped.new.self)
    c.add_found.new.self c.at-before.result.top c.follow.new.stack.frames.live c.follow.new.stack.written
    c.add_found.ensures c.at-before.ensures.top (ap (λ (k : Kept). k.live) c.follow.ensures.frames)
    c.follow.ensures.written in
    record {
      table = c.self.invariant.table;
      room_is = room ∙ c.self.invariant.room_is;
      known = shapes_kept c.deref.result.now _ _ _ c.deref.ensures.value c.follow.ensures.known c.self.invariant.known;
      no_frame = λ is. let no : true ≡ false = sym is ∙ ap is_before here in cc;
      no_mark = λ is. let no : true ≡ false = sym is ∙ ap is_before here in cc;
      reached =
          made_comes c.self.inside c.next_instruction-found.new.self c.next_instruction-found.result c.args.self.now
          (inside_of c.self.inside c.next_instruction-found.new.self c.next_instruction-found.result c.args.self.now
          c.next_instruction-found.ensures.kept c.self.view_is c.requires.runs c.requires.inside
          c.next_instruction-found.ensures.found c.self.invariant.known)
          c.step-stepped.new.self stack.frames stack.written room
          (ap (option_map told_foul) (sym c.in_default.is) ∙ c.next_foul.ensures) after
          (c.step-stepped.ensures.bytes (made_unless c.step-stepped.result (sym c.is_refused.ensures ∙ c.if-is_refused.false)))
          c.self.invariant.reached;
    }

pub returns : goal.returns
returns g c = record {
  step =
      made_step c.self.inside c.next_instruction-found.new.self c.next_instruction-found.result c.args.self.now
      (inside_of c.self.inside c.next_instruction-found.new.self c.next_instruction-found.result c.args.self.now
      c.next_instruction-found.ensures.kept c.self.view_is c.requires.runs c.requires.inside
      c.next_instruction-found.ensures.found c.self.invariant.known)
      (g.I.Source.left c.args.input.now) (g.O.Sink.taken c.args.out.now) (g.I.Source.left c.step-stepped.new.input) (g.O.Sink.taken c.step-stepped.new.out) c.step-stepped.result
      c.step-stepped.new.self c.follow.new.stack.frames c.follow.new.stack.written
      (ap (λ (k : Kept). k.room) c.follow.ensures.frames) (ap (option_map told_foul) (sym c.in_default.is) ∙ c.next_foul.ensures)
      (sym c.is_refused.ensures ∙ c.if-is_refused.false)
      (follow_after c.self.inside.layout c.deref.result.now c.next_instruction-found.result c.self.inside.stack.frames.live
      c.self.inside.stack.written (state_of c.next_instruction-found.new.self) (state_of c.step-stepped.new.self)
      c.add_found.new.self c.at-before.result.top c.follow.new.stack.frames.live c.follow.new.stack.written
      c.add_found.ensures c.at-before.ensures.top (ap (λ (k : Kept). k.live) c.follow.ensures.frames)
      c.follow.ensures.written)
      c.step-stepped.ensures.step;
  tells =
      let inside : is_in_procedures (stage_of c.self.inside.progress c.self.inside.stack.frames.live c.self.inside.stack.written) ≡ true =
      ap (λ (k : Watching). is_in_procedures k.stage) c.self.view_is ∙ c.requires.inside in
      let here = in_procedures c.self.inside.progress c.self.inside.stack.frames.live c.self.inside.stack.written inside in (
        machine_end c.step-stepped.new.self c.step-stepped.result c.step-stepped.ensures.answer,
        ap (λ p. is_stopped (stage_of p c.follow.new.stack.frames.live c.follow.new.stack.written)) here,
      );
  faults = clean_faults c.step-stepped.result _ _ _ _ c.step-stepped.ensures.faults;
}
