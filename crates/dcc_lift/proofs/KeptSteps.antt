-- Where the watched machine's steps lead in procedures: to an end, to where it is foul, along an edge, or from a call or
-- a return to where a run comes to a procedure.
use Rattle.std.proofs.Common.{◌≡◌, inl, inr, ℕ, pos, false, ◌||◌, List, [], ◌∷◌, Option, Some, None, refl, sym, ap, ◌∙◌, subst}
use Rattle.std.specs.Prelude.{if◌then◌else◌}
use Rattle.dcc_run.specs.End.{is_over}
use Rattle.dcc_run.specs.ProgramPoint.{ProgramPoint}
use Rattle.dcc_run.proofs.PaceLaws.{Comes, ends, fouls, walks, leaps}
use Rattle.dcc_num.specs.declared.Reg.TheVariants.{Bp}
use Rattle.dcc_machine.specs.declared.image.Image.{Image}
use Rattle.dcc_prog.specs.declared.procedure.Layout.{Layout}
use Rattle.dcc_prog.specs.declared.frame.Program.{Program as Analysed}
use Rattle.dcc_machine.specs.declared.instr.Op.{Op}
use Rattle.dcc_machine.specs.declared.instr.Op.TheVariants.{Call as CallOp, Ret as RetOp}
use Rattle.dcc_machine.specs.declared.instr.Instr.{Instr}
use Rattle.dcc_machine.specs.Machine.{State as Machine, word_in}
use Rattle.dcc_machine.specs.Step.{step}
use Rattle.dcc_prog.specs.Trail.{StandsAt, IsTrail, IsNode, IsEdge}
use Rattle.dcc_prog.specs.Clean.{LiveFrame, Stack, Foul, top_in, foul_of, stack_after}
use Rattle.dcc_prog.specs.Watch.{InProcedures, Watch, next_instruction, next_foul, is_foul, made, watch_step, place_of, watched_machine}
use Rattle.dcc_prog.proofs.WatchLaws.{watch_moves}
use Rattle.dcc_stack.specs.Accepted.{IsAt, IsNodeOf, IsProgramOfFile}
use Rattle.dcc_stack.specs.Standing.{Activation, StandsIn, Stand, called, StackStands}
use Rattle.dcc_stack.specs.Laws.{at_next, newest_at, activations_after, StandsAfter}
use Rattle.dcc_stack.proofs.ApartLaws.{writes-apart}
use Rattle.dcc_stack.proofs.FormLaws.{in-form}
use Rattle.dcc_stack.proofs.StackLaws.{steps_stand}
use Rattle.dcc_ir.proofs.PathLaws.{decided}
use Rattle.dcc_lift.proofs.KeptWays.{one-instr, Goes, Leaves, Enters, begins, comes_back}
use Rattle.dcc_lift.proofs.RunScenes.{newest-in}
use Rattle.dcc_lift.proofs.RunReturns.{first-of}

-- a procedure that waits stands at a call
waits-at : (image : Image) (layout : Layout) (memory : List ℕ) (a caller : Activation) (older : List Activation)
    (top bp : ℕ)
    → Stand image layout memory (a ∷ caller ∷ older) top bp
    → (target : ℕ) × StandsAt image layout caller.at (CallOp target)
waits-at image layout memory a caller older top bp (called stands waits rest) =
    (a.frame.entry, (waits.instr, waits.stands, waits.calls))

module _ (image : Image) (program : Analysed) (of : IsProgramOfFile program.layout.cpu image program) where
  open program use {layout}

  abbrev pub within : Machine → Stack → Watch
  within s stack = record { machine = s; stage = InProcedures stack }

  -- the machine stands in the procedure of the newest frame, and goes on
  pub record StandsAtPlace (w : Watch) (place : ProgramPoint) : Type 0 where
    pub state_of : Machine
    pub stack : Stack
    pub same : w ≡ within state_of stack
    pub running : is_over state_of.end ≡ false
    pub stands : StackStands image layout state_of stack
    pub place_is : place ≡ record { entry = stands.newest.frame.entry; at = state_of.ip }

  abbrev To : ProgramPoint → Watch → Type 0
  To = Comes (watched_machine program) StandsAtPlace (Goes image layout) (Leaves image layout) (Enters image layout)

  pub place-mark : (w : Watch) (place : ProgramPoint) → StandsAtPlace w place → place_of layout w ≡ Some place
  place-mark w place h =
      ap (place_of layout) h.same
      ∙ ap (λ (frames : List LiveFrame). place_of layout
      (within h.state_of (record { frames = frames; written = h.stack.written }))) (sym h.stands.frames)
      ∙ ap Some (sym h.place_is)

  pub place-running : (w : Watch) (place : ProgramPoint) → StandsAtPlace w place → is_over w.machine.end ≡ false
  place-running w place h = ap (λ (v : Watch). is_over v.machine.end) h.same ∙ h.running

  module _ (s : Machine) (stack : Stack) (running : is_over s.end ≡ false)
      (stands : StackStands image layout s stack) where
    abbrev here : ProgramPoint
    here = record { entry = stands.newest.frame.entry; at = s.ip }

    newest : StandsIn image layout s.memory stands.newest (top_in layout s) (word_in s Bp)
    newest = newest-in stands.stand

    is_at : IsAt image layout stands.newest.frame.entry s.ip stands.newest.before (pos (newest).height)
    is_at =
        subst (λ n. IsAt image layout stands.newest.frame.entry n stands.newest.before (pos (newest).height))
        stands.place (newest).is_at

    node : IsNode image layout stands.newest.frame.entry s.ip
    node = record { before = stands.newest.before; trail = (is_at).trail }

    known : IsNodeOf image layout stands.newest.frame.entry s.ip stands.newest.before (newest).height
    known =
        (in-form).nodes layout.cpu image program stands.newest.frame.entry s.ip stands.newest.before (newest).height of
        is_at

    fetched : next_instruction layout.cpu s ≡ Some (known).instr
    fetched =
        (writes-apart in-form).fetched layout.cpu image program s (known).instr of stands.segments (known).stands

    abbrev next : Machine
    next = step layout.cpu s

    abbrev next_stack : Stack
    next_stack = stack_after layout (next_instruction layout.cpu s) s next stack

    -- After a clean step that doesn't end the run.

    module _ (v : StandsAfter image program s stack stands) (goes_on : is_over (next).end ≡ false) where
      abbrev there : ProgramPoint
      there = record { entry = v.after.newest.frame.entry; at = (next).ip }

      stands-there : StandsAtPlace (within next next_stack) there
      stands-there = record {
        state_of = next;
        stack = next_stack;
        same = refl;
        running = goes_on;
        stands = v.after;
        place_is = refl;
      }

      instr-is : v.instr ≡ (known).instr
      instr-is = one-instr (sym v.found ∙ fetched)

      op-here : (op : Op) → v.instr.op ≡ op → StandsAt image layout s.ip op
      op-here op is = ((known).instr, (known).stands, sym (ap (λ (i : Instr). i.op) instr-is) ∙ is)

      -- the trail of an activation that goes on
      trail-to : (a : Activation) → v.after.newest ≡ at_next a (next).ip
          → IsTrail image layout a.frame.entry ((next).ip ∷ a.at ∷ a.before)
      trail-to a same =
          subst (λ (b : Activation). IsTrail image layout b.frame.entry (b.at ∷ b.before)) same
          (newest-in v.after.stand).is_at.trail

      abbrev After : Op → Type 0
      After op =
          v.after.newest ∷ v.after.callers
          ≡ activations_after op (top_in layout s) (word_in s Bp) (next).ip (stands.newest ∷ stands.callers)

      onward : v.after.newest ≡ at_next stands.newest (next).ip → To here (within next next_stack)
      onward same =
          walks there stands-there (record {
            is_entry = (is_at).is_entry;
            same = ap (λ (a : Activation). a.frame.entry) same;
            edge = record {
              before = stands.newest.before;
              trail =
                  subst (λ n. IsTrail image layout stands.newest.frame.entry ((next).ip ∷ n ∷ stands.newest.before))
                  stands.place (trail-to stands.newest same);
            };
          })

      into : (target base bp : ℕ) → StandsAt image layout s.ip (CallOp target)
          → v.after.newest
          ≡ record { frame = record { entry = target; base = base }; at = target; before = []; caller_bp = bp }
          → To here (within next next_stack)
      into target base bp call same =
          leaps there stands-there
          (record { is_entry = (is_at).is_entry; node = node; by = inl (target, call) })
          (begins (sym v.after.place ∙ ap (λ (a : Activation). a.at) same
          ∙ sym (ap (λ (a : Activation). a.frame.entry) same)))

      back : (count : ℕ) → StandsAt image layout s.ip (RetOp count) → (callers : List Activation)
          → stands.callers ≡ callers → v.after.newest ∷ v.after.callers ≡ newest_at (next).ip callers
          → To here (within next next_stack)
      back count return [] are same = absurd (cc)
      back count return (caller ∷ older) are same =
          let newest_is : v.after.newest ≡ at_next caller (next).ip = first-of _ _ _ _ same in
          let entry_is = ap (λ (a : Activation). a.frame.entry) newest_is in
          let call =
          waits-at image layout s.memory stands.newest caller older (top_in layout s) (word_in s Bp)
          (subst (λ l. Stand image layout s.memory (stands.newest ∷ l) (top_in layout s) (word_in s Bp)) are
          stands.stand) in
          let edge : IsEdge image layout caller.frame.entry caller.at (next).ip =
          record { before = caller.before; trail = trail-to caller newest_is } in
          leaps there stands-there
          (record { is_entry = (is_at).is_entry; node = node; by = inr (count, return) })
          (comes_back caller.at call.0
          (subst (λ n. IsEdge image layout n caller.at (next).ip) (sym entry_is) edge) call.1)

      by-operation : (op : Op) → v.instr.op ≡ op → After op → To here (within next next_stack)
      by-operation (CallOp target) is same =
          into target (top_in layout s) (word_in s Bp) (op-here (CallOp target) is) (first-of _ _ _ _ same)
      by-operation (RetOp count) is same = back count (op-here (RetOp count) is) stands.callers refl same
      by-operation op is same = onward (first-of _ _ _ _ same)

      clean-comes : To here (within next next_stack)
      clean-comes = by-operation v.instr.op refl v.activations

    -- Every step.

    step-comes : To here (watch_step program (within s stack))
    step-comes = by (foul_of program stack s (next_instruction layout.cpu s)) refl
      where
        by : (foul : Option Foul) → foul_of program stack s (next_instruction layout.cpu s) ≡ foul
            → To here (watch_step program (within s stack))
        by (Some foul) e =
            subst (To here)
            (sym (ap (λ b. if b || is_foul (within s stack) then within s stack
            else made layout (next_foul program (within s stack)) (within s stack)) running
            ∙ ap (λ o. made layout o (within s stack)) e))
            (fouls refl)
        by None e =
            subst (To here) (sym (watch_moves program (within s stack) running refl e))
            (elim (decided (is_over (next).end)) [
              | inl over ↦ ends over
              | inr on ↦ clean-comes (steps_stand layout.cpu image program s stack of stands running e on) on
            ])

  pub place-steps : (w : Watch) (place : ProgramPoint) → StandsAtPlace w place → To place (watch_step program w)
  place-steps w place h =
      subst (λ (v : Watch). To place (watch_step program v)) (sym h.same)
      (subst (λ q. To q (watch_step program (within h.state_of h.stack))) (sym h.place_is)
      (step-comes h.state_of h.stack h.running h.stands))
