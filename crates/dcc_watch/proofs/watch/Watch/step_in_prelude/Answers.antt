use Rattle.std.proofs.Common.{◌≡◌, ◌<◌, List, length, refl, sym, ap, ◌∙◌, subst, arith}
use Rattle.dcc_prog.specs.Clean as told
use Rattle.dcc_prog.specs.Watch as stage
use Rattle.dcc_step.specs.Core.{state_of}
use Rattle.dcc_watch.specs.declared.progress.Progress.TheVariants.{InPrelude, InProcedures}
use Rattle.dcc_watch.specs.Kept.{Kept}
use Rattle.dcc_watch.specs.Reached.{IsKept}
use Rattle.dcc_watch.proofs.KeptLaws.{shapes_kept, first_unstopped, not_there, machine_end}
use Rattle.dcc_watch.proofs.InsideLaws.{first_of, before_first, frame_begun, refused_first, made_first, first_comes}
use Rattle.dcc_watch.proofs.StepLaws.{refused_kept, made_unless, clean_faults}
use Rattle.dcc_watch.proofs.watch.Watch.step_in_prelude.Goals as goal

pub invariant_of-self : goal.invariant_of-self
invariant_of-self g c =
    let i = c.self.inside in
    let kept : c.step-stepped.new.self ≡ i.machine =
    refused_kept c.step-stepped.result i.machine c.step-stepped.new.self _ _ _ _ (sym c.is_refused.ensures ∙ c.if-is_refused.true)
    c.step-stepped.ensures.step in
    subst (λ m. IsKept i.layout i.shapes.items i.stack.frames.room m i.stack.frames.live i.stack.written i.progress) (sym kept)
    c.self.invariant

pub returns-then-is_refused : goal.returns-then-is_refused
returns-then-is_refused g c = record {
  step =
      refused_first c.self.inside c.args.self.now
      (first_of c.self.inside c.args.self.now c.self.view_is c.requires.runs c.requires.first)
      (g.I.Source.left c.args.input.now) (g.O.Sink.taken c.args.out.now) (g.I.Source.left c.step-stepped.new.input) (g.O.Sink.taken c.step-stepped.new.out)
      c.step-stepped.result c.step-stepped.new.self (sym c.is_refused.ensures ∙ c.if-is_refused.true)
      c.step-stepped.ensures.step;
  tells =
      let h = first_of c.self.inside c.args.self.now c.self.view_is c.requires.runs c.requires.first in
      (machine_end c.step-stepped.new.self c.step-stepped.result c.step-stepped.ensures.answer, first_unstopped _ h.here.first);
  faults = clean_faults c.step-stepped.result _ _ _ _ c.step-stepped.ensures.faults;
}

pub invariant_of-self-then-ip-self : goal.invariant_of-self-then-ip-self
invariant_of-self-then-ip-self g c =
    let h = first_of c.self.inside c.args.self.now c.self.view_is c.requires.runs c.requires.first in
    let before = before_first c.self.inside c.args.self.now h in
    record {
      table = c.self.invariant.table;
      room_is = c.self.invariant.room_is;
      known = c.self.invariant.known;
      no_frame = λ is. c.self.invariant.no_frame before;
      no_mark = λ is. c.self.invariant.no_mark before;
      reached =
          first_comes c.self.inside c.args.self.now h c.step-stepped.new.self InPrelude c.self.inside.stack.frames
          c.self.inside.stack.written refl
          (not_there c.step-stepped.new.self.ip c.self.inside.layout.start_ip
          (stage.InProcedures (told.first_stack c.self.inside.layout (state_of c.step-stepped.new.self))) stage.InPrelude
          (λ e. c.if-ip-self.true (c.ip.ensures ∙ e)))
          (c.step-stepped.ensures.bytes (made_unless c.step-stepped.result (sym c.is_refused.ensures ∙ c.if-is_refused.false)))
          c.self.invariant.reached;
    }

pub returns-then-ip-self : goal.returns-then-ip-self
returns-then-ip-self g c = record {
  step =
      made_first c.self.inside c.args.self.now
      (first_of c.self.inside c.args.self.now c.self.view_is c.requires.runs c.requires.first)
      (g.I.Source.left c.args.input.now) (g.O.Sink.taken c.args.out.now) (g.I.Source.left c.step-stepped.new.input) (g.O.Sink.taken c.step-stepped.new.out)
      c.step-stepped.result c.step-stepped.new.self InPrelude c.self.inside.stack.frames c.self.inside.stack.written refl
      (sym c.is_refused.ensures ∙ c.if-is_refused.false)
      (not_there c.step-stepped.new.self.ip c.self.inside.layout.start_ip
      (stage.InProcedures (told.first_stack c.self.inside.layout (state_of c.step-stepped.new.self))) stage.InPrelude
      (λ e. c.if-ip-self.true (c.ip.ensures ∙ e)))
      c.step-stepped.ensures.step;
  tells = (machine_end c.step-stepped.new.self c.step-stepped.result c.step-stepped.ensures.answer, refl);
  faults = clean_faults c.step-stepped.result _ _ _ _ c.step-stepped.ensures.faults;
}

pub begin_first-requires-clause-table : goal.begin_first-requires-clause-table
begin_first-requires-clause-table g c = ap length c.deref.ensures.value ∙ c.self.invariant.table

pub begin_first-requires-clause-room : goal.begin_first-requires-clause-room
begin_first-requires-clause-room g c =
    let i = c.self.inside in
    let h = first_of i c.args.self.now c.self.view_is c.requires.runs c.requires.first in
    let none = c.self.invariant.no_frame (before_first i c.args.self.now h) in
    let room = c.self.invariant.room_is in
    subst (λ (x : List _). length x < i.stack.frames.room) (sym none) (omega (arith, room))

pub invariant_of-self-2 : goal.invariant_of-self-2
invariant_of-self-2 g c =
    let h = first_of c.self.inside c.args.self.now c.self.view_is c.requires.runs c.requires.first in
    let stack = c.begin_first.new.stack in
    let room : stack.frames.room ≡ c.self.inside.stack.frames.room =
    ap (λ (k : Kept). k.room) c.begin_first.ensures.frames in
    record {
      table = c.self.invariant.table;
      room_is = room ∙ c.self.invariant.room_is;
      known = shapes_kept c.deref.result.now _ _ _ c.deref.ensures.value c.begin_first.ensures.known c.self.invariant.known;
      no_frame = λ is. cc;
      no_mark = λ is. cc;
      reached =
          first_comes c.self.inside c.args.self.now h c.step-stepped.new.self InProcedures stack.frames stack.written room
          (frame_begun c.self.inside c.args.self.now h c.step-stepped.new.self c.deref.result.now
          c.begin_first.new.stack.frames c.begin_first.new.stack.written c.self.invariant
          (sym c.ip.ensures ∙ c.if-ip-self.false) (ap (λ (k : Kept). k.live) c.begin_first.ensures.frames)
          c.begin_first.ensures.written)
          (c.step-stepped.ensures.bytes (made_unless c.step-stepped.result (sym c.is_refused.ensures ∙ c.if-is_refused.false)))
          c.self.invariant.reached;
    }

pub returns : goal.returns
returns g c =
    let h = first_of c.self.inside c.args.self.now c.self.view_is c.requires.runs c.requires.first in
    record {
      step =
          made_first c.self.inside c.args.self.now h
          (g.I.Source.left c.args.input.now) (g.O.Sink.taken c.args.out.now) (g.I.Source.left c.step-stepped.new.input) (g.O.Sink.taken c.step-stepped.new.out)
          c.step-stepped.result c.step-stepped.new.self InProcedures c.begin_first.new.stack.frames
          c.begin_first.new.stack.written (ap (λ (k : Kept). k.room) c.begin_first.ensures.frames)
          (sym c.is_refused.ensures ∙ c.if-is_refused.false)
          (frame_begun c.self.inside c.args.self.now h c.step-stepped.new.self c.deref.result.now
          c.begin_first.new.stack.frames c.begin_first.new.stack.written c.self.invariant
          (sym c.ip.ensures ∙ c.if-ip-self.false) (ap (λ (k : Kept). k.live) c.begin_first.ensures.frames)
          c.begin_first.ensures.written)
          c.step-stepped.ensures.step;
      tells = (machine_end c.step-stepped.new.self c.step-stepped.result c.step-stepped.ensures.answer, refl);
      faults = clean_faults c.step-stepped.result _ _ _ _ c.step-stepped.ensures.faults;
    }
