-- Special instructions store nothing and leave SP: where the runs agree after their operation with the bytes that were
-- written before, they agree at the next instruction.
use Rattle.std.proofs.Common.{◌≡◌, ℕ, ◌+◌, ◌-◌, ◌/◌, Bool, true, false, true≢false, List, [], ◌∷◌, filter, Some, refl, sym, ap, ◌∙◌, subst, arith}
use Rattle.std.specs.Prelude.{not, ◌==◌, if◌then◌else◌}
use Rattle.std.specs.List.{range_with_len}
use Rattle.dcc_run.specs.End.{is_over}
use Rattle.dcc_num.specs.declared.Width.{Width}
use Rattle.dcc_num.specs.declared.Width.TheVariants.{Byte as byte_width, Word as word_width}
use Rattle.dcc_num.specs.declared.Reg.TheVariants.{Ax, Cx, Dx, Bx, Sp, Bp, Si, Di}
use Rattle.dcc_num.specs.declared.Half.{Half}
use Rattle.dcc_num.specs.declared.Half.TheVariants.{Low, High}
use Rattle.dcc_num.specs.declared.dos.TheConstants.{PUTS}
use Rattle.dcc_machine.specs.declared.cpu.Cpu.{Cpu}
use Rattle.dcc_machine.specs.declared.instr.Unary.TheVariants.{Div, Idiv}
use Rattle.dcc_machine.specs.declared.instr.Plain.TheVariants.{Xlat}
use Rattle.dcc_machine.specs.declared.instr.Operand.{Operand}
use Rattle.dcc_machine.specs.declared.instr.Operand.TheVariants.{Mem}
use Rattle.dcc_machine.specs.declared.instr.Op.{Op}
use Rattle.dcc_machine.specs.declared.instr.Op.TheVariants.{Unary, Lea, Plain, Table, Int21}
use Rattle.dcc_machine.specs.declared.instr.Instr.{Instr}
use Rattle.dcc_machine.specs.Machine.{State as Machine, word_in, data_segment}
use Rattle.dcc_machine.specs.Step.{op_step, step}
use Rattle.dcc_machine.specs.StateForm.{IsState}
use Rattle.dcc_machine.specs.Successors.{next_of}
use Rattle.dcc_machine.specs.WellFormed.{IsOperation}
use Rattle.dcc_machine.specs.Writes.{is_in_pair, writes_half}
use Rattle.dcc_machine.specs.Access.{Reading, Access, operand_accesses, other_read, string_size, accesses}
use Rattle.dcc_prog.specs.CleanLaws.{moves_frames}
use Rattle.dcc_prog.specs.Clean.{Stack, top_in, is_reading, with_marks, stack_bytes, stack_after}
use Rattle.dcc_machine.proofs.AlikeValues.{word-joined}
use Rattle.dcc_machine.proofs.LocationKept.{op-half}
use Rattle.dcc_machine.proofs.StateKept.{same-state}
use Rattle.dcc_stack.proofs.TableSteps.{IsStepOf, step-of}
use Rattle.dcc_ir.specs.Run.{State}
use Rattle.dcc_simulation.specs.Coupled.{Setting, AreCoupled}
use Rattle.dcc_simulation.specs.Laws.{IsCleanInstruction, Within}
use Rattle.dcc_simulation.specs.Special.{is_special}
use Rattle.dcc_simulation.proofs.StepsAgree.{none-rises, steps-agree}

-- SP.

pair-spares : (w : Width) → is_in_pair w Sp ≡ false
pair-spares byte_width = refl
pair-spares word_width = refl

special-spares : (op : Op) (half : Half) → is_special op ≡ true → writes_half op Sp half ≡ false
special-spares (Unary Div a) half so = pair-spares _
special-spares (Unary Idiv a) half so = pair-spares _
special-spares (Lea Ax ea) half so = refl
special-spares (Lea Cx ea) half so = refl
special-spares (Lea Dx ea) half so = refl
special-spares (Lea Bx ea) half so = refl
special-spares (Lea Bp ea) half so = refl
special-spares (Lea Si ea) half so = refl
special-spares (Lea Di ea) half so = refl
special-spares (Plain Xlat) half so = refl
special-spares (Table r offset) half so = refl
special-spares Int21 half so = refl
special-spares op half so = absurd (true≢false (sym so))

sp-kept : (cpu : Cpu) (op : Op) (at : ℕ) (s : Machine) → IsOperation op → IsState s → is_special op ≡ true
    → word_in (op_step cpu op at s) Sp ≡ word_in s Sp
sp-kept cpu op at s good form so =
    word-joined _ _ (op-half cpu op at s Sp Low good form (special-spares op Low so))
    (op-half cpu op at s Sp High good form (special-spares op High so))

-- Accesses.

abbrev stores_in : List Access → List Access
stores_in list = filter (λ access. not (is_reading access)) list

reading-stores : (a : Operand) (s : Machine) → stores_in (operand_accesses Reading a s) ≡ []
reading-stores (Mem width ea) s = refl
reading-stores a s = refl

special-stores : (op : Op) (s : Machine) → is_special op ≡ true → stores_in (accesses op s) ≡ []
special-stores (Unary Div (Mem width ea)) s so = refl
special-stores (Unary Div a) s so = refl
special-stores (Unary Idiv (Mem width ea)) s so = refl
special-stores (Unary Idiv a) s so = refl
special-stores (Lea r ea) s so = refl
special-stores (Plain Xlat) s so = refl
special-stores (Table r offset) s so = refl
special-stores Int21 s so = by (word_in s Ax / 256 == PUTS)
  where
    by : (b : Bool)
        → stores_in (if b then other_read (data_segment s) (word_in s Dx) (string_size s) ∷ [] else []) ≡ []
    by true = refl
    by false = refl
special-stores op s so = absurd (true≢false (sym so))

pub special-stays : (op : Op) → is_special op ≡ true → moves_frames op ≡ false
special-stays (Unary operation a) so = refl
special-stays (Lea r ea) so = refl
special-stays (Plain operation) so = refl
special-stays (Table r offset) so = refl
special-stays Int21 so = refl
special-stays op so = absurd (true≢false (sym so))

-- Steps.

module _ (e : Setting) (s : Machine) (stack : Stack) (instr : Instr) (is : IsCleanInstruction e s stack instr)
    (so : is_special instr.op ≡ true) (t u : State) (before : Within is stack.written s t) where
  abbrev onward : Machine
  onward = record s { ip = next_of s.ip instr }

  abbrev after : Machine
  after = step e.program.layout.cpu s

  pub taken : IsStepOf e.image e.program.layout is.of_file.loaded s.ip instr s
  taken =
      step-of e.image e.program.layout is.of_file.loaded s.ip s instr is.stands.segments.state refl
      (ap is_over before.goes) is.stands.segments.code is.found

  top-stays : top_in e.program.layout after ≡ top_in e.program.layout s
  top-stays =
      ap (top_in e.program.layout) taken.is
      ∙ ap (λ n. n + e.program.layout.delta)
      (sp-kept e.program.layout.cpu instr.op s.ip onward taken.good
      (same-state s onward refl refl refl refl is.stands.segments.state) so)

  marks-stay : stack.written ≡ (stack_after e.program.layout (Some instr) s after stack).written
  marks-stay =
      sym (none-rises (top_in e.program.layout s) (top_in e.program.layout after) stack.written
      (let same = top-stays in omega (arith, same)))
      ∙ ap (λ list. with_marks false
      (range_with_len (top_in e.program.layout s) (top_in e.program.layout after - top_in e.program.layout s))
      (with_marks true (stack_bytes e.program.layout list) stack.written)) (sym (special-stores instr.op onward so))

  pub special-agrees :
      Within is stack.written (op_step e.program.layout.cpu instr.op s.ip onward) u
      → AreCoupled e after (stack_after e.program.layout (Some instr) s after stack) u
  special-agrees done =
      steps-agree e s stack instr t u is (special-stays instr.op so) before
      (subst (λ m. Within is m after u) marks-stay (subst (λ v. Within is stack.written v u) (sym taken.is) done))
