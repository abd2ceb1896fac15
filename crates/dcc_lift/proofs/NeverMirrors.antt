-- A state of the machine that mirrors the inner run: its general registers and flags are those of the run, and it holds
-- the code. The machine's step of an operation that is followed keeps that, whatever the rest of its memory is.
use Rattle.std.proofs.Common.{◌≡◌, ℕ, zero, suc, ◌+◌, ◌*◌, ◌<◌, Bool, true, false, List, [], ◌∷◌, length, Option, Some, refl, sym, ap, ◌∙◌, subst, arith}
use Rattle.std.specs.Prelude.{◌==◌, if◌then◌else◌}
use Rattle.std.specs.Int.{from_bool}
use Rattle.std.proofs.lemmas.Bool.{and_parts}
use Rattle.std.proofs.lemmas.List.{length-set}
use Rattle.dcc_run.specs.End.{Running, is_over}
use Rattle.dcc_num.specs.declared.Reg.{Reg}
use Rattle.dcc_num.specs.declared.Reg.TheVariants.{Ax, Cx, Dx, Bx, Sp, Bp, Si, Di}
use Rattle.dcc_num.specs.declared.Half.TheVariants.{Low, High}
use Rattle.dcc_num.specs.declared.FlagName.{FlagName}
use Rattle.dcc_num.specs.declared.FlagName.TheVariants.{Cf, Zf, Sf, Of}
use Rattle.dcc_machine.specs.declared.cpu.Cpu.{Cpu}
use Rattle.dcc_machine.specs.declared.image.Image.{Image}
use Rattle.dcc_prog.specs.declared.procedure.Layout.{Layout}
use Rattle.dcc_machine.specs.declared.instr.Operand.{Operand}
use Rattle.dcc_machine.specs.declared.instr.Operand.TheVariants.{Word, Byte, Seg, Mem, Const as Constant}
use Rattle.dcc_machine.specs.declared.instr.Op.{Op}
use Rattle.dcc_machine.specs.declared.instr.Op.TheVariants.{Alu as AluOp, Shift as ShiftOp, Mov, Branch}
use Rattle.dcc_machine.specs.Machine.{State as Machine, reg_number, word_in, start_state, is_general}
use Rattle.dcc_machine.specs.MzImage.{IsLoaded}
use Rattle.dcc_prog.specs.Layout.{HasLayout}
use Rattle.dcc_machine.specs.Code.{HoldsCode}
use Rattle.dcc_machine.specs.StateForm.{IsState}
use Rattle.dcc_machine.specs.Step.{op_step}
use Rattle.dcc_machine.specs.Successors.{op_successors}
use Rattle.dcc_machine.specs.WellFormed.{IsOperand, IsOperation}
use Rattle.dcc_machine.specs.Writes.{writes_operand}
use Rattle.dcc_machine.proofs.FetchLaws.{image-placed, start-holds, code-kept, code-part}
use Rattle.dcc_machine.proofs.StartState.{starts-are}
use Rattle.dcc_stack.proofs.TableGoes.{op-goes}
use Rattle.dcc_ir.specs.declared.syntax.Loc.TheVariants.{Half, Flag}
use Rattle.dcc_ir.specs.Location.{Values}
use Rattle.dcc_ir.specs.Value.{Fits}
use Rattle.dcc_ir.specs.Run.{State, scene_of, value_in, setting, execute}
use Rattle.dcc_ops.specs.Temporaries.{temporary_bits}
use Rattle.dcc_ops.specs.OperandPlace.{is_sound_place}
use Rattle.dcc_ops.specs.Registers.{is_register, is_source, register_place}
use Rattle.dcc_ops.specs.Coupling.{HoldFlags, IsCoupling, IsRead, IsWritten, IsWrittenIf}
use Rattle.dcc_ops.specs.Expressions.{condition}
use Rattle.dcc_ops.specs.Performed.{Stands}
use Rattle.dcc_ops.specs.Statements.{op_stmts}
use Rattle.dcc_ops.proofs.SceneLaws.{fits_taking}
use Rattle.dcc_ops.proofs.CouplingLaws.{register_read, register_written}
use Rattle.dcc_ops.proofs.MovePerformed.{register_source}
use Rattle.dcc_ops.proofs.PerformedLaws.{performed}
use Rattle.dcc_ops.proofs.TestLaws.{tests_decide}
use Rattle.dcc_simulation.specs.Nodes.{leads_to}
use Rattle.dcc_simulation.specs.Operands.{operand_place, first_place, second_place}
use Rattle.dcc_simulation.specs.Passed.{exit_of}
use Rattle.dcc_simulation.specs.Procedures.{Procedure}
use Rattle.dcc_simulation.specs.Statements.{moves_frame, working_stmts}
use Rattle.dcc_simulation.proofs.Coupling.{words-set}
use Rattle.dcc_lift.proofs.NeverForms.{is_followed}
use Rattle.dcc_lift.proofs.RunNodes.{only-one}

-- Places and statements.

-- registers and constants stand at their own places
placed : (p : Procedure) (height : ℕ) (x : Operand) → is_source x ≡ true → operand_place p height x ≡ register_place x
placed p height (Word Ax) e = refl
placed p height (Word Cx) e = refl
placed p height (Word Dx) e = refl
placed p height (Word Bx) e = refl
placed p height (Word Si) e = refl
placed p height (Word Di) e = refl
placed p height (Word Sp) e = cc
placed p height (Word Bp) e = cc
placed p height (Byte r half) e = refl
placed p height (Constant width n) e = refl
placed p height (Seg number) e = cc
placed p height (Mem width ea) e = cc

register-sound : (x : Operand) → is_sound_place (register_place x) ≡ true
register-sound (Word r) = refl
register-sound (Byte r half) = refl
register-sound (Constant width n) = refl
register-sound (Seg number) = refl
register-sound (Mem width ea) = refl

-- an operation that is followed moves no frame, and works on its operands' places
mov-stays : (to from : Operand) → is_register to ≡ true → moves_frame (Mov to from) ≡ false
mov-stays (Word Ax) from e = refl
mov-stays (Word Cx) from e = refl
mov-stays (Word Dx) from e = refl
mov-stays (Word Bx) from e = refl
mov-stays (Word Si) from e = refl
mov-stays (Word Di) from e = refl
mov-stays (Word Sp) from e = cc
mov-stays (Word Bp) from e = cc
mov-stays (Byte r half) from e = refl
mov-stays (Constant width n) from e = cc
mov-stays (Seg number) from e = cc
mov-stays (Mem width ea) from e = cc

pub followed-stmts : (cpu : Cpu) (procedures : List Procedure) (p : Procedure) (height : ℕ) (op : Op)
    (number : Option ℕ) → is_followed op ≡ true
    → (if moves_frame op then [] else working_stmts cpu procedures p height op number)
    ≡ op_stmts cpu op number (first_place p height op) (second_place p height op)
followed-stmts cpu procedures p height (AluOp operation a b) number e = refl
followed-stmts cpu procedures p height (ShiftOp operation a count) number e = refl
followed-stmts cpu procedures p height (Mov to from) number e =
    ap (λ b. if b then [] else working_stmts cpu procedures p height (Mov to from) number)
    (mov-stays to from (and_parts (is_register to) (is_source from) e).0)
followed-stmts cpu procedures p height (Branch tested target) number e = refl
followed-stmts cpu procedures p height op number e = cc

-- Mirrors.

module _ (image : Image) (layout : Layout) where
  pub record Mirrors (s : Machine) (t : State) : Type 0 where
    pub goes : s.end ≡ Running
    pub eight : length s.regs ≡ 8
    pub code : HoldsCode image layout.code_end s
    pub running : t.end ≡ Running
    pub bits : t.running.graph.bits ≡ temporary_bits
    pub fits : Fits (scene_of t)
    pub words :
        (r : Reg) → is_general r ≡ true
        → word_in s r ≡ t.running.values (Half r High) * 256 + t.running.values (Half r Low)
    pub flags : HoldFlags s.flags t.running.values

  pub mirroring : IsCoupling Mirrors
  mirroring = record {
    running = λ s t m. m.running;
    bits = λ s t m. m.bits;
    fits = λ s t m. m.fits;
    words = λ s t r m g. m.words r g;
    flags = λ s t m. m.flags;
    anywhere = λ s t ip m. record {
      goes = m.goes;
      eight = m.eight;
      code = record { segment = m.code.segment; bytes = m.code.bytes };
      running = m.running;
      bits = m.bits;
      fits = m.fits;
      words = m.words;
      flags = m.flags;
    };
    scratch = λ s t flags values m same hold fits. record {
      goes = m.goes;
      eight = m.eight;
      code = record { segment = m.code.segment; bytes = m.code.bytes };
      running = m.running;
      bits = m.bits;
      fits = fits;
      words = λ r g.
          m.words r g ∙ ap (λ n. n * 256 + t.running.values (Half r Low)) (sym (same (Half r High) refl))
          ∙ ap (λ n. values (Half r High) * 256 + n) (sym (same (Half r Low) refl));
      flags = hold;
    };
    general = λ s t r low high m g small less. record {
      goes = m.goes;
      eight = length-set s.regs (reg_number r) (high * 256 + low) ∙ m.eight;
      code = record { segment = m.code.segment; bytes = m.code.bytes };
      running = m.running;
      bits = m.bits;
      fits =
          fits_taking (scene_of (setting (Half r Low) low t)) (Half r High) high less
          (fits_taking (scene_of t) (Half r Low) low small m.fits);
      words = λ q other. words-set s t.running.values r q low high m.eight (m.words q other);
      flags = record {
        carry = m.flags.carry;
        zero = m.flags.zero;
        negative = m.flags.negative;
        overflow = m.flags.overflow;
      };
    };
  }

  -- Operations.

  module _ (p : Procedure) (height : ℕ) (s : Machine) where
    read-there : (x : Operand) → is_source x ≡ true → IsOperand x → IsRead Mirrors s x (operand_place p height x)
    read-there x source ok =
        subst (IsRead Mirrors s x) (sym (placed p height x source)) (register_read Mirrors mirroring s x source ok)

    written-there : (x : Operand) → is_register x ≡ true → IsWritten Mirrors Mirrors s x (operand_place p height x)
    written-there x register =
        subst (IsWritten Mirrors Mirrors s x) (sym (placed p height x (register_source x register)))
        (register_written Mirrors mirroring s x register)

    written-if : (writes : Bool) (x : Operand) → is_register x ≡ true
        → IsWrittenIf writes Mirrors Mirrors s x (operand_place p height x)
    written-if true x register = written-there x register
    written-if false x register = λ u t m. m

    followed-stands : (op : Op) → is_followed op ≡ true → IsOperation op
        → Stands Mirrors Mirrors s op (first_place p height op) (second_place p height op)
    followed-stands (AluOp operation a b) e ok =
        let both = and_parts (is_register a) (is_source b) e in (
          read-there a (register_source a both.0) ok.first,
          read-there b both.1 ok.second,
          written-if (writes_operand operation) a both.0,
        )
    followed-stands (ShiftOp operation a count) e ok =
        (read-there a (register_source a e) ok.operand, written-there a e)
    followed-stands (Mov to from) e ok =
        let both = and_parts (is_register to) (is_source from) e in (
          read-there from both.1 ok.second,
          ap is_sound_place (placed p height from both.1) ∙ register-sound from,
          written-there to both.0,
        )
    followed-stands (Branch tested target) e ok = λ u t m. m
    followed-stands op e ok = cc

    pub followed-performed : (op : Op) (number : Option ℕ) (at : ℕ) (t : State) → is_followed op ≡ true
        → IsOperation op → Mirrors s t
        → Mirrors (op_step layout.cpu op at s)
        (execute (op_stmts layout.cpu op number (first_place p height op) (second_place p height op)) t)
    followed-performed op number at t e ok m =
        performed Mirrors Mirrors mirroring mirroring layout.cpu op number at s t (first_place p height op)
        (second_place p height op) ok (followed-stands op e ok) m

    -- the machine is then where the end leads
    pub followed-leads : (op : Op) (number : Option ℕ) (at : ℕ) (t : State) (ah : Option ℕ) (targets : List ℕ)
        → is_followed op ≡ true → is_over (op_step layout.cpu op at s).end ≡ false → Mirrors s t
        → leads_to (exit_of p op (op_successors op s.ip ah targets))
        (execute (op_stmts layout.cpu op number (first_place p height op) (second_place p height op)) t)
        ≡ Some (op_step layout.cpu op at s).ip
    followed-leads (Branch tested target) number at t ah targets e on m =
        let goes = tests_decide Mirrors mirroring layout.cpu (Branch tested target) number at s t
        (first_place p height (Branch tested target)) (second_place p height (Branch tested target)) ah
        (condition tested) refl m in
        let same : goes.0 ≡ target = let e = goes.1 in cc in
        ap Some (sym (goes.2 ∙ ap (λ n. if value_in t (condition tested) == 1 then n else s.ip) same))
    followed-leads (AluOp operation a b) number at t ah targets e on m =
        ap Some (sym (only-one (s.ip ∷ []) s.ip _ refl (op-goes layout.cpu (AluOp operation a b) at s ah targets
        (record { running = on; no_call = λ n c. cc; no_ret = λ n c. cc; no_exit = λ c. cc; table = λ r n c. cc }))))
    followed-leads (ShiftOp operation a count) number at t ah targets e on m =
        ap Some (sym (only-one (s.ip ∷ []) s.ip _ refl (op-goes layout.cpu (ShiftOp operation a count) at s ah targets
        (record { running = on; no_call = λ n c. cc; no_ret = λ n c. cc; no_exit = λ c. cc; table = λ r n c. cc }))))
    followed-leads (Mov to from) number at t ah targets e on m =
        ap Some (sym (only-one (s.ip ∷ []) s.ip _ refl (op-goes layout.cpu (Mov to from) at s ah targets
        (record { running = on; no_call = λ n c. cc; no_ret = λ n c. cc; no_exit = λ c. cc; table = λ r n c. cc }))))
    followed-leads op number at t ah targets e on m = cc

  -- A mirror of any values.

  abbrev word_of : Values → Reg → ℕ
  word_of values r = values (Half r High) * 256 + values (Half r Low)

  abbrev is_set : Values → FlagName → Bool
  is_set values flag = values (Flag flag) == 1

  -- the machine as it is started, with these registers and flags, at an offset
  abbrev pub mirror : Values → ℕ → Machine
  mirror values at = record (start_state image []) {
    regs =
        word_of values Ax ∷ word_of values Cx ∷ word_of values Dx ∷ word_of values Bx ∷ 0 ∷ 0 ∷ word_of values Si
        ∷ word_of values Di ∷ [];
    flags =
        record { cf = is_set values Cf; zf = is_set values Zf; sf = is_set values Sf; of = is_set values Of };
    ip = at;
  }

  flag-is : (n : ℕ) → n < 2 → n ≡ from_bool (n == 1)
  flag-is zero less = refl
  flag-is (suc zero) less = refl
  flag-is (suc (suc n)) less = absurd (omega (arith, less))

  module _ (loaded : IsLoaded image) (has : HasLayout image layout) (t : State) (at : ℕ) (running : t.end ≡ Running)
      (bits : t.running.graph.bits ≡ temporary_bits) (fits : Fits (scene_of t)) where
    abbrev values : Values
    values = t.running.values

    word-small : (r : Reg) → word_of values r < 65536
    word-small r =
        let high : values (Half r High) < 256 = fits.values (Half r High) in
        let low : values (Half r Low) < 256 = fits.values (Half r Low) in
        omega (arith, high, low)

    mirror-words : (r : Reg) → word_in (mirror values at) r < 65536
    mirror-words Ax = word-small Ax
    mirror-words Cx = word-small Cx
    mirror-words Dx = word-small Dx
    mirror-words Bx = word-small Bx
    mirror-words Sp = omega arith
    mirror-words Bp = omega arith
    mirror-words Si = word-small Si
    mirror-words Di = word-small Di

    pub mirror-state : IsState (mirror values at)
    mirror-state =
        let start = starts-are image [] loaded (λ k. omega arith) in
        record {
          registers = record { count = refl; words = mirror-words };
          segment_count = start.segment_count;
          segments = start.segments;
          memory_size = start.memory_size;
          memory = start.memory;
          input = start.input;
        }

    mirror-general : (r : Reg) → is_general r ≡ true → word_in (mirror values at) r ≡ word_of values r
    mirror-general Ax g = refl
    mirror-general Cx g = refl
    mirror-general Dx g = refl
    mirror-general Bx g = refl
    mirror-general Si g = refl
    mirror-general Di g = refl
    mirror-general Sp g = cc
    mirror-general Bp g = cc

    mirror-code : HoldsCode image layout.code_end (mirror values at)
    mirror-code =
        let end = has.left.code_end in
        code-part image image.code_len layout.code_end (mirror values at)
        (code-kept image image.code_len (start_state image []) (mirror values at)
        (start-holds image [] (image-placed loaded.file image loaded.is_image)) refl refl)
        (omega (arith, end))

    pub mirrors : Mirrors (mirror values at) t
    mirrors = record {
      goes = refl;
      eight = refl;
      code = mirror-code;
      running = running;
      bits = bits;
      fits = fits;
      words = mirror-general;
      flags = record {
        carry = flag-is (values (Flag Cf)) (fits.values (Flag Cf));
        zero = flag-is (values (Flag Zf)) (fits.values (Flag Zf));
        negative = flag-is (values (Flag Sf)) (fits.values (Flag Sf));
        overflow = flag-is (values (Flag Of)) (fits.values (Flag Of));
      };
    }
