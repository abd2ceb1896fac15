-- Divisions: the upper half of what is divided is prepared, as in every accepted program.
use Rattle.std.proofs.Common.{◌≡◌, ℕ, true, false, true≢false, inl, inr, refl, sym, ap, ◌∙◌, subst}
use Rattle.std.proofs.lemmas.Bool.{cases_eq}
use Rattle.dcc_run.specs.End.{is_over}
use Rattle.dcc_num.specs.declared.Width.{Width}
use Rattle.dcc_num.specs.declared.Width.TheVariants.{Byte as byte_width, Word as word_width}
use Rattle.dcc_num.specs.Product.{extension_of}
use Rattle.dcc_machine.specs.declared.image.Image.{Image}
use Rattle.dcc_prog.specs.declared.procedure.Layout.{Layout}
use Rattle.dcc_prog.specs.declared.procedure.Node.{Node}
use Rattle.dcc_prog.specs.declared.refusal.ConstructKind.TheVariants.{Division}
use Rattle.dcc_machine.specs.declared.instr.Unary.{Unary as UnaryName}
use Rattle.dcc_machine.specs.declared.instr.Unary.TheVariants.{Div, Idiv}
use Rattle.dcc_machine.specs.declared.instr.Operand.{Operand}
use Rattle.dcc_machine.specs.declared.instr.Op.TheVariants.{Unary}
use Rattle.dcc_machine.specs.declared.instr.Instr.{Instr}
use Rattle.dcc_machine.specs.Machine.{State as Machine, operand_width}
use Rattle.dcc_machine.specs.Operations.{accumulator_in, upper_in, is_division}
use Rattle.dcc_prog.specs.Construct.{division as unprepared_division}
use Rattle.dcc_machine.specs.SpAndBp.{is_sp_or_bp, is_sp_move}
use Rattle.dcc_prog.specs.Prepared.{IsPrepared}
use Rattle.dcc_prog.specs.RunLaws.{HasUpper}
use Rattle.dcc_machine.specs.Step.{op_step, step}
use Rattle.dcc_machine.specs.Successors.{next_of}
use Rattle.dcc_machine.specs.WellFormed.{IsOperand, IsOperation}
use Rattle.dcc_machine.specs.Access.{Reading}
use Rattle.dcc_prog.specs.Clean.{Stack}
use Rattle.dcc_prog.proofs.PassedRuns.{prepared-held}
use Rattle.dcc_stack.proofs.FormOps.{FormOf}
use Rattle.dcc_ir.specs.Run.{State, execute}
use Rattle.dcc_ops.specs.Statements.{unary_stmts}
use Rattle.dcc_ops.specs.Coupling.{IsRead}
use Rattle.dcc_ops.specs.Divisions.{IsDivided, divides, faults}
use Rattle.dcc_ops.proofs.DivisionPerformed.{divisions_performed}
use Rattle.dcc_simulation.specs.Coupled.{Setting}
use Rattle.dcc_simulation.specs.Laws.{IsCleanInstruction, Within}
use Rattle.dcc_simulation.specs.Procedures.{Procedure}
use Rattle.dcc_simulation.specs.Operands.{no_place, operand_place}
use Rattle.dcc_simulation.specs.Nodes.{IsNodeHere, StepAgrees, agree, over}
use Rattle.dcc_simulation.specs.Special.{is_special}
use Rattle.dcc_simulation.proofs.Coupling.{coupled}
use Rattle.dcc_simulation.proofs.FoundOperands.{IsOperandIn, operand-read}
use Rattle.dcc_simulation.proofs.NodeFound.{found-here, trail, no-construct}
use Rattle.dcc_simulation.proofs.NodesHere.{found-at, form-here, placed-here}
use Rattle.dcc_simulation.proofs.OperandAccesses.{unary-read}
use Rattle.dcc_simulation.proofs.SpecialSteps.{taken, special-agrees}
use Rattle.dcc_simulation.proofs.TabledOperands.{IsTarget, HavePlaces, source-of}

-- what can't fail to be so, is so of numbers
not-otherwise : (m n : ℕ) (P : Type 0) → (P → m ≡ n) → ¬ (¬ P) → m ≡ n
not-otherwise m n P told never = elim (cases_eq m n) [
  | inl same ↦ same
  | inr other ↦ absurd (never (λ so. other (told so)))
]

-- the instruction pointer is no part of what is divided
upper-onward : (w : Width) (s : Machine) (ip : ℕ) → upper_in w (record s { ip = ip }) ≡ upper_in w s
upper-onward byte_width s ip = refl
upper-onward word_width s ip = refl

lower-onward : (w : Width) (s : Machine) (ip : ℕ) → accumulator_in w (record s { ip = ip }) ≡ accumulator_in w s
lower-onward byte_width s ip = refl
lower-onward word_width s ip = refl

-- a division isn't a move of SP, so its operand is named in no form
no-move : (division : UnaryName) (x : Operand) → is_division division ≡ true
    → is_sp_move (Unary division x) ≡ false
no-move Div x so = refl
no-move Idiv x so = refl
no-move division x so = absurd (true≢false (sym so))

unnamed-operand : (image : Image) (layout : Layout) (entry at : ℕ) (division : UnaryName) (x : Operand)
    → is_sp_move (Unary division x) ≡ false → FormOf image layout entry at (Unary division x)
    → is_sp_or_bp x ≡ false
unnamed-operand image layout entry at division x stays (FormOf.unnamed none uses) = none
unnamed-operand image layout entry at division x stays (FormOf.moves so) = absurd (true≢false (sym so ∙ stays))
unnamed-operand image layout entry at division x stays (FormOf.leaves framed so) = absurd (true≢false (sym so))
unnamed-operand image layout entry at division x stays (FormOf.copies framed so) = absurd (true≢false (sym so))
unnamed-operand image layout entry at division x stays (FormOf.saves framed so here) = absurd (true≢false (sym so))
unnamed-operand image layout entry at division x stays (FormOf.points framed so here) = absurd (true≢false (sym so))
unnamed-operand image layout entry at division x stays (FormOf.enters framed so here) = absurd (true≢false (sym so))

module _ (e : Setting) (s : Machine) (stack : Stack) (instr : Instr) (p : Procedure) (node : Node) (height : ℕ)
    (is : IsCleanInstruction e s stack instr) (here : IsNodeHere e s stack instr is p node height)
    (name : UnaryName) (x : Operand) (op_is : instr.op ≡ Unary name x) (divides_it : is_division name ≡ true) where
  abbrev R : Machine → State → Type 0
  R = Within is stack.written

  abbrev onward : Machine
  onward = record s { ip = next_of s.ip instr }

  abbrev Prepared : Type 0
  Prepared =
      IsPrepared e.image e.program.layout is.stands.newest.frame.entry name (operand_width x) is.stands.newest.at

  prepared : ¬ (¬ Prepared)
  prepared none =
      no-construct e s stack instr p node height is here Division (unprepared_division (record {
        division = name;
        operand = x;
        stands = (instr, found-here e s stack instr p node height is here, op_is);
        divides = divides_it;
        unprepared = none;
      }))

  held : Prepared → HasUpper name (operand_width x) s
  held so =
      prepared-held is.of_file.loaded.file e.image e.program.layout is.stands.newest.frame.entry is.stands.newest.at
      is.stands.newest.before s name (operand_width x) is.of_file.loaded.is_image
      (trail e s stack instr p node height is here) is.stands.passed so

  special : is_special instr.op ≡ true
  special = ap is_special op_is ∙ divides_it

  -- the divisor is neither SP nor BP
  other : is_sp_or_bp x ≡ false
  other =
      unnamed-operand e.image e.program.layout is.stands.newest.frame.entry is.stands.newest.at name x
      (no-move name x divides_it)
      (subst (FormOf e.image e.program.layout is.stands.newest.frame.entry is.stands.newest.at) op_is
      (form-here e s stack instr p node height is here))

  module _ (t : State) (before : Within is stack.written s t) where
    -- the divisor stands at its place
    read : IsRead R onward x (operand_place p height x)
    read =
        let target : IsTarget x = subst HavePlaces op_is (placed-here e s stack instr p node height is here) in
        let good : IsOperand x = subst IsOperation op_is (taken e s stack instr is special t t before).good in
        operand-read e s stack instr is p (found-at e s stack instr p node height is here) height x
        (source-of x target) good other
        (subst (λ op. IsOperandIn op onward Reading x) (sym op_is) (unary-read onward name x))

    -- the step is the operation's
    made : step e.program.layout.cpu s ≡ op_step e.program.layout.cpu (Unary name x) s.ip onward
    made =
        (taken e s stack instr is special t t before).is
        ∙ ap (λ op. op_step e.program.layout.cpu op s.ip onward) op_is

    agreed : (after : Machine) (u : State) → step e.program.layout.cpu s ≡ after → IsDivided R s.ip onward after u
        → StepAgrees e s stack instr u
    agreed after u same (divides done) =
        agree (special-agrees e s stack instr is special t u before
        (subst (λ v. R v u) (sym same ∙ (taken e s stack instr is special t t before).is) done))
    agreed _ _ same (faults done) =
        over (ap (λ (v : Machine). is_over v.end) same) (sym (ap (λ (v : Machine). v.end) same))
        (done.events ∙ sym (ap (λ (v : Machine). v.events) same))

    by-name : (division : UnaryName) → name ≡ division → is_division division ≡ true
        → StepAgrees e s stack instr (execute (unary_stmts division (operand_width x) (operand_place p height x)) t)
    by-name Div same so =
        let upper : upper_in (operand_width x) onward ≡ 0 =
        upper-onward (operand_width x) s (next_of s.ip instr)
        ∙ not-otherwise (upper_in (operand_width x) s) 0 Prepared
        (λ told. subst (λ d. HasUpper d (operand_width x) s) same (held told)) prepared in
        agreed (op_step e.program.layout.cpu (Unary Div x) s.ip onward) _
        (made ∙ ap (λ d. op_step e.program.layout.cpu (Unary d x) s.ip onward) same)
        ((divisions_performed R (coupled e is.stands.newest is.stands.callers stack.written)).unsigned
        e.program.layout.cpu x node.number s.ip onward t (operand_place p height x) no_place read upper
        ((coupled e is.stands.newest is.stands.callers stack.written).anywhere s t (next_of s.ip instr) before))
    by-name Idiv same so =
        let upper : upper_in (operand_width x) onward
        ≡ extension_of (operand_width x) (accumulator_in (operand_width x) onward) =
        upper-onward (operand_width x) s (next_of s.ip instr)
        ∙ not-otherwise (upper_in (operand_width x) s) _ Prepared
        (λ told. subst (λ d. HasUpper d (operand_width x) s) same (held told)) prepared
        ∙ ap (extension_of (operand_width x)) (sym (lower-onward (operand_width x) s (next_of s.ip instr))) in
        agreed (op_step e.program.layout.cpu (Unary Idiv x) s.ip onward) _
        (made ∙ ap (λ d. op_step e.program.layout.cpu (Unary d x) s.ip onward) same)
        ((divisions_performed R (coupled e is.stands.newest is.stands.callers stack.written)).signed
        e.program.layout.cpu x node.number s.ip onward t (operand_place p height x) no_place read upper
        ((coupled e is.stands.newest is.stands.callers stack.written).anywhere s t (next_of s.ip instr) before))
    by-name division same so = absurd (true≢false (sym so))

    pub division-agrees :
        StepAgrees e s stack instr (execute (unary_stmts name (operand_width x) (operand_place p height x)) t)
    division-agrees = by-name name refl divides_it
