-- How the search for a prelude goes on: what it has passed and what it keeps.
use Rattle.std.proofs.Common.{◌≡◌, ℕ, ◌+◌, true, false, List, [], ◌∷◌, ◌++◌, refl, sym, ap, ◌∙◌, subst, append_assoc}
use Rattle.std.proofs.lemmas.List.{append-nil}
use Rattle.dcc_machine.specs.declared.cpu.Cpu.{Cpu}
use Rattle.dcc_machine.specs.declared.image.Image.{Image}
use Rattle.dcc_machine.specs.declared.instr.Instr.{Instr}
use Rattle.dcc_machine.specs.MzImage.{IsLoaded}
use Rattle.dcc_machine.specs.Code.{code_of}
use Rattle.dcc_machine.specs.Machine.{State, start_state}
use Rattle.dcc_machine.specs.Step.{op_step}
use Rattle.dcc_prog.specs.Layout.{is_prelude_form, may_end_prelude, IsFormAt, IsRun, offset_after, ends_prelude}
use Rattle.dcc_prog.proofs.PreludeLaws.{NoFormAt, run-append, run-of_append, offset_after-append, none_ends, none_ends-push, ends_prelude-push, prelude-is}
use Rattle.dcc_prog.proofs.PreludeSteps.{form-step, executed, executed-push, state_after-is}
use Rattle.dcc_layout.specs.declared.registers.Registers.{Registers}
use Rattle.dcc_layout.specs.declared.prelude.Prelude.{Prelude}
use Rattle.dcc_layout.specs.Registers.{registers_of, state_of}
use Rattle.dcc_layout.specs.Prelude.{IsLeft}

-- the run so far is cut after the last instruction after which a prelude may end, whose values are kept
pub record Scanned (cpu : Cpu) (image : Image) (at : ℕ) (registers : Registers) (kept : Prelude) : Type 0 where
  pub front : List Instr
  pub rest : List Instr
  pub run : IsRun cpu (code_of image) image.ip (front ++ rest)
  pub ends : ends_prelude front ≡ true
  pub none : none_ends rest ≡ true
  pub at_is : at ≡ offset_after image.ip (front ++ rest)
  pub registers_are : registers ≡ registers_of (executed cpu (start_state image []) (front ++ rest))
  pub kept_end : kept.end ≡ offset_after image.ip front
  pub kept_registers : kept.registers ≡ registers_of (executed cpu (start_state image []) front)

pub scanned-start : (cpu : Cpu) (image : Image) (at : ℕ) (registers : Registers) (kept : Prelude) → at ≡ image.ip → registers ≡ registers_of (start_state image []) → kept.end ≡ at → kept.registers ≡ registers → Scanned cpu image at registers kept
scanned-start cpu image at registers kept a r e k = record {
  front = [];
  rest = [];
  run = tt;
  ends = refl;
  none = refl;
  at_is = a;
  registers_are = r;
  kept_end = e ∙ a;
  kept_registers = k ∙ r;
}

-- registers after an operation of a prelude, wherever else the state differs
registers-step : (cpu : Cpu) (instr : Instr) (s : State) (registers next : Registers) → is_prelude_form instr.op ≡ true → registers ≡ registers_of s → next ≡ registers_of (op_step cpu instr.op 0 (state_of registers)) → next ≡ registers_of (op_step cpu instr.op 0 s)
registers-step cpu instr s registers next form before after =
    after ∙ ap (λ (r : Registers). registers_of (op_step cpu instr.op 0 (state_of r))) before
    ∙ ap registers_of (form-step cpu instr.op 0 0 s (state_of (registers_of s)) form)

module _ (cpu : Cpu) (image : Image) (at next : ℕ) (registers after : Registers) (kept : Prelude) (instr : Instr) (before : Scanned cpu image at registers kept) (is : IsFormAt cpu (code_of image) at instr) (next_is : next ≡ at + instr.len) (made : after ≡ registers_of (op_step cpu instr.op 0 (state_of registers))) where
  -- the run with the instruction
  longer-run : IsRun cpu (code_of image) image.ip (before.front ++ before.rest ++ instr ∷ [])
  longer-run =
      let here : IsFormAt cpu (code_of image) (offset_after image.ip (before.front ++ before.rest)) instr = subst (λ a. IsFormAt cpu (code_of image) a instr) before.at_is is in
      run-append cpu (code_of image) image.ip (before.front ++ before.rest) (instr ∷ []) before.run (here, tt)

  longer-end : next ≡ offset_after image.ip (before.front ++ before.rest ++ instr ∷ [])
  longer-end =
      next_is ∙ ap (λ a. a + instr.len) before.at_is
      ∙ sym (offset_after-append image.ip (before.front ++ before.rest) (instr ∷ []))

  longer-registers : after ≡ registers_of (executed cpu (start_state image []) (before.front ++ before.rest ++ instr ∷ []))
  longer-registers =
      registers-step cpu instr (executed cpu (start_state image []) (before.front ++ before.rest)) registers after is.form before.registers_are made
      ∙ ap registers_of (sym (executed-push cpu (start_state image []) (before.front ++ before.rest) instr))

  -- an instruction after which no prelude may end
  pub scanned-passed : may_end_prelude instr.op ≡ false → Scanned cpu image next after kept
  scanned-passed stays =
      let joins = append_assoc before.front before.rest (instr ∷ []) in
      record {
        front = before.front;
        rest = before.rest ++ instr ∷ [];
        run = subst (λ l. IsRun cpu (code_of image) image.ip l) joins longer-run;
        ends = before.ends;
        none = none_ends-push before.rest instr before.none stays;
        at_is = longer-end ∙ ap (offset_after image.ip) joins;
        registers_are = longer-registers ∙ ap (λ l. registers_of (executed cpu (start_state image []) l)) joins;
        kept_end = before.kept_end;
        kept_registers = before.kept_registers;
      }

  -- an instruction after which a prelude may end
  pub scanned-kept : (new : Prelude) → may_end_prelude instr.op ≡ true → new.end ≡ next → new.registers ≡ after → Scanned cpu image next after new
  scanned-kept new ends e r =
      let whole = before.front ++ before.rest ++ instr ∷ [] in
      let none = append-nil whole in
      record {
        front = whole;
        rest = [];
        run = subst (λ l. IsRun cpu (code_of image) image.ip l) (sym none) longer-run;
        ends = ends_prelude-push (before.front ++ before.rest) instr ends;
        none = refl;
        at_is = longer-end ∙ ap (offset_after image.ip) (sym none);
        registers_are = longer-registers ∙ ap (λ l. registers_of (executed cpu (start_state image []) l)) (sym none);
        kept_end = e ∙ longer-end;
        kept_registers = r ∙ longer-registers;
      }

-- where the run can't go on, what is kept is what the prelude leaves
pub scanned-end : (cpu : Cpu) (image : Image) (at : ℕ) (registers : Registers) (kept : Prelude) → IsLoaded image → Scanned cpu image at registers kept → NoFormAt cpu (code_of image) at → IsLeft cpu image kept
scanned-end cpu image at registers kept loaded s none =
    let stop : NoFormAt cpu (code_of image) (offset_after image.ip (s.front ++ s.rest)) = subst (λ a. NoFormAt cpu (code_of image) a) s.at_is none in
    let run = run-of_append cpu (code_of image) image.ip s.front s.rest s.run in
    record {
      prelude = s.front;
      is_prelude = prelude-is cpu (code_of image) image.ip s.front s.rest s.run stop s.ends s.none;
      registers = s.kept_registers ∙ ap registers_of (sym (state_after-is cpu image s.front loaded run));
      end = s.kept_end;
    }
