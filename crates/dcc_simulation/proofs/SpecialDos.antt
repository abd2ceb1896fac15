-- INT 21h: the machine's call and the statement that stands for it.
use Rattle.std.proofs.Common.{◌≡◌, ◌<◌, ◌⊎◌, inl, inr, ℕ, suc, ◌/◌, ◌%◌, Bool, true, false, List, [], ◌∷◌, ◌++◌, Some, None, refl, sym, ap, ◌∙◌, subst, arith}
use Rattle.std.proofs.lemmas.Bool.{eqb-true}
use Rattle.std.specs.Prelude.{slice_index, if◌then◌else◌, ◌==◌, ◌||◌}
use Rattle.dcc_run.specs.End.{Exit as ExitWith, is_over}
use Rattle.dcc_run.specs.Event.{Event, Wrote, Took, MetEnd, writes}
use Rattle.dcc_num.specs.declared.Reg.{Reg}
use Rattle.dcc_num.specs.declared.Reg.TheVariants.{Ax, Dx}
use Rattle.dcc_num.specs.declared.Half.TheVariants.{Low, High}
use Rattle.dcc_num.specs.declared.dos.TheConstants.{GETCHE, PUTC, GETCH, PUTS, EXIT, END_OF_INPUT}
use Rattle.dcc_prog.specs.declared.procedure.Node.{Node}
use Rattle.dcc_prog.specs.declared.refusal.ConstructKind.TheVariants.{DosNumber}
use Rattle.dcc_machine.specs.declared.instr.Operand.TheVariants.{Byte, Word}
use Rattle.dcc_machine.specs.declared.instr.Op.TheVariants.{Int21}
use Rattle.dcc_machine.specs.declared.instr.Instr.{Instr}
use Rattle.dcc_machine.specs.Machine.{State as Machine, word_in, with_operand, is_general}
use Rattle.dcc_prog.specs.Construct.{is_dos_number, dos_number, other_number}
use Rattle.dcc_machine.specs.Dos.{key_events, with_key, after_events, after_write, dos_string, dos_step}
use Rattle.dcc_machine.specs.Step.{op_step, step}
use Rattle.dcc_machine.specs.Successors.{next_of}
use Rattle.dcc_prog.specs.Trail.{known_ah}
use Rattle.dcc_machine.specs.LocationLaws.{half_in}
use Rattle.dcc_prog.specs.Clean.{Stack}
use Rattle.dcc_prog.proofs.PassedRuns.{ah-held}
use Rattle.dcc_ir.specs.declared.syntax.Loc.TheVariants.{Half}
use Rattle.dcc_ir.specs.Tree.{Get, Stmt, Dos}
use Rattle.dcc_ir.specs.Dos.{dos_string as inner_string}
use Rattle.dcc_ir.specs.Run.{State, value_in, setting, happening, writing, keyed, stmt_step, execute}
use Rattle.dcc_ops.specs.Expressions.{word_of}
use Rattle.dcc_ops.specs.Statements.{dos_stmts}
use Rattle.dcc_ops.proofs.CouplingLaws.{half_set, register_value}
use Rattle.dcc_simulation.specs.Coupled.{Setting}
use Rattle.dcc_simulation.specs.Laws.{IsCleanInstruction, Within}
use Rattle.dcc_simulation.specs.Procedures.{Procedure}
use Rattle.dcc_simulation.specs.Nodes.{IsNodeHere, StepAgrees, agree, over}
use Rattle.dcc_simulation.specs.Special.{is_special}
use Rattle.dcc_simulation.proofs.Coupling.{segments_kept, coupled}
use Rattle.dcc_simulation.proofs.NodeFound.{found-here, trail, node-of, node-is, no-construct, node-found}
use Rattle.dcc_simulation.proofs.SpecialSteps.{taken, special-agrees}
use Rattle.dcc_simulation.proofs.SpecialStrings.{string-same}

-- Numbers.

data IsKnownNumber : ℕ → Type 0 where
  getche : IsKnownNumber 0x01
  putc : IsKnownNumber 0x02
  getch : IsKnownNumber 0x08
  puts : IsKnownNumber 0x09
  exits : IsKnownNumber 0x4C

one-of-five : (a b c d e : Bool) → (a || b || c || d || e) ≡ true
    → (a ≡ true) ⊎ ((b ≡ true) ⊎ ((c ≡ true) ⊎ ((d ≡ true) ⊎ (e ≡ true))))
one-of-five true b c d e so = inl refl
one-of-five false true c d e so = inr (inl refl)
one-of-five false false true d e so = inr (inr (inl refl))
one-of-five false false false true e so = inr (inr (inr (inl refl)))
one-of-five false false false false e so = inr (inr (inr (inr so)))

known-number : (n : ℕ) → is_dos_number n ≡ true → IsKnownNumber n
known-number n so =
    elim (one-of-five (n == GETCHE) (n == PUTC) (n == GETCH) (n == PUTS) (n == EXIT) so) [
      | inl a ↦ subst IsKnownNumber (sym (eqb-true n GETCHE a)) getche
      | inr others ↦ elim others [
        | inl b ↦ subst IsKnownNumber (sym (eqb-true n PUTC b)) putc
        | inr others ↦ elim others [
          | inl c ↦ subst IsKnownNumber (sym (eqb-true n GETCH c)) getch
          | inr others ↦ elim others [
            | inl d ↦ subst IsKnownNumber (sym (eqb-true n PUTS d)) puts
            | inr x ↦ subst IsKnownNumber (sym (eqb-true n EXIT x)) exits
          ]
        ]
      ]
    ]

-- what happens where a key is taken
same-key : (echo : Bool) (byte : ℕ) → (Took byte ∷ (if echo then Wrote byte ∷ [] else [])) ≡ key_events echo byte
same-key true byte = refl
same-key false byte = refl

-- The console.

module _ (e : Setting) (s : Machine) (stack : Stack) (instr : Instr) (is : IsCleanInstruction e s stack instr) where
  abbrev R : Machine → State → Type 0
  R = Within is stack.written

  -- the console may be another one, where it is the same in both runs
  with-console : (input other : List ℕ) (events others : List Event) (u : Machine) (t : State) → other ≡ input
      → others ≡ events → ((k : ℕ) → slice_index input k < 256) → R u t
      → R (record u { input = input; events = events }) (record t { input = other; events = others })
  with-console input other events others u t same happened small c = record {
    goes = c.goes;
    running = c.running;
    newest = c.newest;
    waiting = c.waiting;
    words = c.words;
    flags = c.flags;
    input = same;
    events = happened;
    segments =
        segments_kept e.image e.program.layout u (record u { input = input; events = events }) refl refl
        (record {
          registers = record { count = c.segments.state.registers.count; words = c.segments.state.registers.words };
          segment_count = c.segments.state.segment_count;
          segments = c.segments.state.segments;
          memory_size = c.segments.state.memory_size;
          memory = c.segments.state.memory;
          input = small;
        }) c.segments;
    carried = c.carried;
  }

  -- the coupling holds after the same events in both runs
  happened : (events : List Event) (u : Machine) (t : State) → R u t → R (after_events events u) (happening events t)
  happened events u t c =
      with-console u.input t.input (u.events ++ events) (t.events ++ events) u t c.input
      (ap (λ l. l ++ events) c.events) c.segments.state.input c

  -- a byte of the input is gone
  rested : (byte : ℕ) (rest : List ℕ) (u : Machine) (t : State) → u.input ≡ byte ∷ rest → R u t
      → R (record u { input = rest }) (record t { input = rest })
  rested byte rest u t input c =
      with-console rest rest u.events t.events u t refl c.events
      (λ k. subst (λ l. slice_index l (suc k) < 256) input (c.segments.state.input (suc k))) c

  -- AL takes a byte
  al-taken : (byte : ℕ) (u : Machine) (t : State) → byte < 256 → R u t
      → R (with_operand u (Byte Ax Low) byte) (setting (Half Ax Low) byte t)
  al-taken byte u t small c =
      half_set R (coupled e is.stands.newest is.stands.callers stack.written) u t Ax Low byte refl small c

  -- AL takes a key in both runs, or both learn that there is none
  key-taken : (echo : Bool) (input : List ℕ) (u : Machine) (t : State) → u.input ≡ input → R u t
      → R (with_key echo input u) (keyed echo (Some (Half Ax Low)) input t)
  key-taken echo [] u t input c =
      happened (MetEnd ∷ []) (with_operand u (Byte Ax Low) END_OF_INPUT) (setting (Half Ax Low) END_OF_INPUT t)
      (al-taken END_OF_INPUT u t (omega arith) c)
  key-taken echo (byte ∷ rest) u t input c =
      let small : byte < 256 = subst (λ l. slice_index l 0 < 256) input (c.segments.state.input 0) in
      let v : State = setting (Half Ax Low) byte (record t { input = rest }) in
      subst (λ events. R (with_key echo (byte ∷ rest) u) (happening events v)) (sym (same-key echo byte))
      (happened (key_events echo byte) (with_operand (record u { input = rest }) (Byte Ax Low) byte) v
      (al-taken byte (record u { input = rest }) (record t { input = rest }) small (rested byte rest u t input c)))

  -- The call.

  module _ (op_is : instr.op ≡ Int21) (t : State) (before : Within is stack.written s t) where
    abbrev onward : Machine
    onward = record s { ip = next_of s.ip instr }

    here : R onward t
    here = (coupled e is.stands.newest is.stands.callers stack.written).anywhere s t (next_of s.ip instr) before

    special : is_special instr.op ≡ true
    special = ap is_special op_is

    -- the machine makes the call that the number tells
    made : (n : ℕ) → word_in s Ax / 256 ≡ n → step e.program.layout.cpu s ≡ dos_step n s.ip onward
    made n number =
        (taken e s stack instr is special t t before).is
        ∙ ap (λ op. op_step e.program.layout.cpu op s.ip onward) op_is
        ∙ ap (λ k. dos_step k s.ip onward) number

    -- where the call leaves the runs alike, they agree at the next instruction
    goes-on : (u : State) (n : ℕ) → word_in s Ax / 256 ≡ n → R (dos_step n s.ip onward) u
        → StepAgrees e s stack instr u
    goes-on u n number done =
        agree (special-agrees e s stack instr is special t u before
        (subst (λ op. R (op_step e.program.layout.cpu op s.ip onward) u) (sym op_is)
        (subst (λ k. R (dos_step k s.ip onward) u) (sym number) done)))

    low-of : (r : Reg) → is_general r ≡ true → word_in s r % 256 ≡ t.running.values (Half r Low)
    low-of r general =
        sym (register_value R (coupled e is.stands.newest is.stands.callers stack.written) s t (Byte r Low) general
        before)

    running : is_over t.end ≡ false
    running = ap is_over before.running

    one : (stmt : Stmt) → execute (stmt ∷ []) t ≡ stmt_step stmt t
    one stmt = ap (λ b. if b then t else stmt_step stmt t) running

    agreed : (n : ℕ) → word_in s Ax / 256 ≡ n → IsKnownNumber n
        → StepAgrees e s stack instr (execute (dos_stmts (Some n)) t)
    agreed _ number putc =
        subst (StepAgrees e s stack instr) (sym (one (Dos 0x02 None (Some (Get (Half Dx Low))))))
        (goes-on (writing (t.running.values (Half Dx Low) ∷ []) t) 0x02 number
        (subst (λ b. R (after_write (b ∷ []) onward) (writing (t.running.values (Half Dx Low) ∷ []) t))
        (sym (low-of Dx refl)) (happened (writes (t.running.values (Half Dx Low) ∷ [])) onward t here)))
    agreed _ number exits =
        subst (StepAgrees e s stack instr) (sym (one (Dos 0x4C None (Some (Get (Half Ax Low))))))
        (over (ap (λ (u : Machine). is_over u.end) (made 0x4C number))
        (ap ExitWith (sym (low-of Ax refl)) ∙ sym (ap (λ (u : Machine). u.end) (made 0x4C number)))
        (before.events ∙ sym (ap (λ (u : Machine). u.events) (made 0x4C number))))
    agreed _ number getche =
        subst (StepAgrees e s stack instr) (sym (one (Dos 0x01 (Some (Half Ax Low)) None)))
        (goes-on (keyed true (Some (Half Ax Low)) t.input t) 0x01 number
        (subst (λ l. R (with_key true l onward) (keyed true (Some (Half Ax Low)) t.input t)) before.input
        (key-taken true t.input onward t (sym before.input) here)))
    agreed _ number getch =
        subst (StepAgrees e s stack instr) (sym (one (Dos 0x08 (Some (Half Ax Low)) None)))
        (goes-on (keyed false (Some (Half Ax Low)) t.input t) 0x08 number
        (subst (λ l. R (with_key false l onward) (keyed false (Some (Half Ax Low)) t.input t)) before.input
        (key-taken false t.input onward t (sym before.input) here)))
    agreed _ number puts =
        let address : value_in t (word_of Dx) ≡ word_in s Dx =
        register_value R (coupled e is.stands.newest is.stands.callers stack.written) s t (Word Dx) refl before in
        let string : inner_string t.memory (value_in t (word_of Dx)) ≡ dos_string onward =
        ap (inner_string t.memory) address ∙ sym (string-same e s stack instr is op_is number t before) in
        let u : State = writing (inner_string t.memory (value_in t (word_of Dx))) t in
        subst (StepAgrees e s stack instr) (sym (one (Dos 0x09 None (Some (word_of Dx)))))
        (goes-on u 0x09 number
        (subst (λ l. R (after_write l onward) u) string
        (happened (writes (inner_string t.memory (value_in t (word_of Dx)))) onward t here)))

    -- what the trail tells of AH is so
    module _ (p : Procedure) (node : Node) (height : ℕ) (at : IsNodeHere e s stack instr is p node height) where
      number-is : (n : ℕ) × (word_in s Ax / 256 ≡ n) × (node.number ≡ Some n) × IsKnownNumber n
      number-is =
          let of = node-of e s stack instr p node height is at in
          let told = of.ah (ap (λ (i : Instr). i.op) (node-is e s stack instr p node height is at) ∙ op_is) in
          let way = trail e s stack instr p node height is at in
          let held : half_in s Ax High ≡ told.0 =
          ah-held is.of_file.loaded.file e.image e.program.layout is.stands.newest.before s told.0
          is.of_file.loaded.is_image is.stands.passed told.1 in (
            told.0,
            held,
            sym ((node-found e s stack instr p node height is at).number
                (ap (λ (i : Instr). i.op) at.instr_is ∙ op_is) is.stands.newest.before way) ∙ told.1,
            known-number told.0 (by (is_dos_number told.0) told.0 refl told.1),
          )
        where
          by : (b : Bool) (n : ℕ) → is_dos_number n ≡ b
              → known_ah e.image e.program.layout is.stands.newest.before ≡ Some n → is_dos_number n ≡ true
          by true n so told = so
          by false n so told =
              absurd (no-construct e s stack instr p node height is at DosNumber (dos_number (other_number (record {
                before = is.stands.newest.before;
                trail = trail e s stack instr p node height is at;
                stands = (
                  instr,
                  found-here e s stack instr p node height is at,
                  op_is,
                );
                ah_is = told;
              }) so)))

      pub dos-agrees : StepAgrees e s stack instr (execute (dos_stmts node.number) t)
      dos-agrees =
          let told = number-is in
          subst (λ o. StepAgrees e s stack instr (execute (dos_stmts o) t)) (sym told.2)
          (agreed told.0 told.1 told.3)
