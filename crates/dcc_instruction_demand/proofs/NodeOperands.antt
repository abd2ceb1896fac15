-- The operands of an instruction of a procedure that is found stand at their places.
use Rattle.std.proofs.Common.{◌≡◌, ℕ, ℤ, Bool, true, false, ◌&&◌, if◌then◌else◌, [], Option, Some, refl, sym, ap, ◌∙◌, true≢false}
use Rattle.std.specs.Prelude.{drop, is_none}
use Rattle.dcc_num.specs.declared.Width.{Width}
use Rattle.dcc_num.specs.declared.Reg.{Reg}
use Rattle.dcc_num.specs.declared.Reg.TheVariants.{Ax, Cx, Dx, Bx, Sp, Bp, Si, Di}
use Rattle.dcc_num.specs.declared.Half.{Half as HalfName}
use Rattle.dcc_machine.specs.declared.image.Image.{Image}
use Rattle.dcc_prog.specs.declared.procedure.Node.{Node}
use Rattle.dcc_prog.specs.declared.frame.Program.{Program as Analysed}
use Rattle.dcc_machine.specs.declared.instr.Ea.{Ea}
use Rattle.dcc_machine.specs.declared.instr.Operand.{Operand}
use Rattle.dcc_machine.specs.declared.instr.Operand.TheVariants.{Word, Byte, Seg, Mem, Const}
use Rattle.dcc_machine.specs.Machine.{is_bp, is_general}
use Rattle.dcc_machine.specs.Access.{is_direct}
use Rattle.dcc_prog.specs.Frame.{memory_of, memory_of_two, memory_operand, offset_in_frame}
use Rattle.dcc_machine.specs.SpAndBp.{is_by_bp, uses_bp_address}
use Rattle.dcc_prog.specs.Trail.{code_within}
use Rattle.dcc_machine.specs.Writes.{is_same_register}
use Rattle.dcc_machine.specs.Wanted.{half_of, flag_of}
use Rattle.dcc_ir.specs.declared.syntax.Loc.{Loc}
use Rattle.dcc_ir.specs.Tree.{Program}
use Rattle.dcc_ops.specs.OperandPlace.{OperandPlace, memory, computed}
use Rattle.dcc_ops.specs.Computed.{computed_expr}
use Rattle.dcc_lift.specs.Blocks.{node_in}
use Rattle.dcc_lift.specs.Translated.{IsTranslated}
use Rattle.dcc_lift.proofs.CodeBounds.{bytes-dropped, code-bytes, loaded-bytes}
use Rattle.dcc_lift.proofs.FoundSound.{node-user}
use Rattle.dcc_lift.proofs.ListTests.{and_left, or_here, or_none}
use Rattle.dcc_stack.specs.Slots.{is_memory}
use Rattle.dcc_simulation.specs.Procedures.{Procedure, procedure_at, frame_place}
use Rattle.dcc_simulation.specs.Nodes.{procedures_in}
use Rattle.dcc_simulation.specs.Operands.{address_of, stack_pointer, frame_pointer, operand_place}
use Rattle.dcc_simulation.proofs.TabledOperands.{IsSource, HavePlaces, instruction-placed}
use Rattle.dcc_demand.specs.Procedures.{Procedures}
use Rattle.dcc_machine_demand.specs.Bodies.{Body}
use Rattle.dcc_machine_demand.specs.Holders.{Holder, held, in_frame, passes, is_exposed_holder}
use Rattle.dcc_machine_demand.proofs.LeftLaws.{not-sp, not-bp}
use Rattle.dcc_lifted_demand.specs.LiftedRefinement.{IsSame}
use Rattle.dcc_lifted_demand.specs.LiftedIsRefined.{machine}
use Rattle.dcc_lifted_demand.proofs.SameLaws.{SameCases, same_cases, one_place}
use Rattle.dcc_lifted_demand.proofs.RefinedLaws as refined
use Rattle.dcc_instruction_demand.proofs.DecodedLaws.{is_named, is_decoded, instruction-decoded}
use Rattle.dcc_instruction_demand.proofs.StageLaws.{reads_at, outs, is_stored, has_kept}
use Rattle.dcc_instruction_demand.proofs.OperandLaws.{reads_by, writes_by, IsOperandAt, word_at, byte_at, nothing_at}
use Rattle.dcc_instruction_demand.proofs.OperandLaws.{constant_at}
use Rattle.dcc_instruction_demand.proofs.AddressLaws.{reads_computed, elsewhere_at}
use Rattle.dcc_instruction_demand.proofs.FrameLaws.{direct_at}
use Rattle.dcc_instruction_demand.proofs.AccessLaws.{framed_there, access_at}

-- of two operands, of which one at most lies in memory, each names that of the operation
pub first_named : (a b : Operand) (v : Width) (ea : Ea) → memory_of a ≡ Some (v, ea) → memory_of_two a b ≡ Some (v, ea)
first_named (Mem u e) b v ea t = t
first_named (Word r) b v ea t = absurd (cc t)
first_named (Byte r h) b v ea t = absurd (cc t)
first_named (Seg n) b v ea t = absurd (cc t)
first_named (Const u n) b v ea t = absurd (cc t)

pub second_named : (a b : Operand) → (is_memory a && is_memory b) ≡ false → (v : Width) (ea : Ea) → memory_of b ≡ Some (v, ea) → memory_of_two a b ≡ Some (v, ea)
second_named (Mem u e) (Mem v f) one w ea t = absurd (true≢false one)
second_named (Mem u e) (Word r) one v ea t = absurd (cc t)
second_named (Mem u e) (Byte r h) one v ea t = absurd (cc t)
second_named (Mem u e) (Seg n) one v ea t = absurd (cc t)
second_named (Mem u e) (Const w n) one v ea t = absurd (cc t)
second_named (Word r) b one v ea t = t
second_named (Byte r h) b one v ea t = t
second_named (Seg n) b one v ea t = t
second_named (Const u n) b one v ea t = t

-- SP and BP are no places.

module _ (o : Option Procedure) (body : Body) (exposed : Holder → Bool) (r : Reg) (apart : (q : Reg) → is_general q ≡ true → is_same_register q r ≡ false) where
  general_of : (q : Reg) (h : HalfName) (l : Loc) → IsSame o (held (half_of q h)) l → is_general q ≡ true
  general_of q h l s = by (same_cases o s)
    where
      by : SameCases o (held (half_of q h)) l → is_general q ≡ true
      by (SameCases.by_held location p e f) = ap passes e ∙ p
      by (SameCases.by_kept found k p e kept g) = absurd (cc e)

  unread : (L : Holder) (l : Loc) → IsSame o L l → reads_by body (Word r) L ≡ false
  unread (held (half_of q h)) l s = or_none (is_same_register q r) ∙ apart q (general_of q h l s)
  unread (held (flag_of f)) l s = refl
  unread (in_frame k) l s = refl

  unwritten : (A : Holder) (l : Loc) → IsSame o A l → writes_by body (Word r) A ≡ false
  unwritten (held (half_of q h)) l s = let g = general_of q h l s in ap (λ b. b && is_same_register q r) g ∙ apart q g
  unwritten (held (flag_of f)) l s = refl
  unwritten (in_frame k) l s = refl

  pub pointer_at : (Q : OperandPlace) → reads_at Q ≡ [] → outs Q ≡ [] → has_kept Q ≡ true → is_stored Q ≡ false → IsOperandAt o body exposed (Word r) Q
  pointer_at Q reads out kept unstored = nothing_at o body exposed (Word r) Q refl refl unread unwritten reads out kept unstored

module _ (image : Image) (program : Analysed) (p : Program) (is : IsTranslated image program p) (entry : ℕ) (x : refined.Link image program p is entry) (at : ℕ) (node : Node) (stands : node_in x.proc.nodes.entries at ≡ Some node) where
  abbrev o : Option Procedure
  o = procedure_at (procedures_in program) entry

  abbrev q : Procedure
  q = refined.procedure image program p is entry x

  abbrev body : Body
  body = refined.body image program p is entry x

  abbrev coarse : Procedures ℕ Holder ℤ
  coarse = machine image program p

  abbrev exposed : Holder → Bool
  exposed = (coarse.procedure entry).is_exposed

  exposed_is : (k : ℤ) → exposed (in_frame k) ≡ is_exposed_holder body (in_frame k)
  exposed_is k = ap (λ g. g.is_exposed (in_frame k)) (refined.coarse_is image program p is entry x)

  one : (L M : Holder) (l : Loc) → IsSame o L l → IsSame o M l → L ≡ M
  one L M l s t = one_place o (refined.small_linked image program p is entry x) s t

  -- the operands of the operation are such as the table has
  pub have_places : HavePlaces node.instr.op
  have_places =
      let there = refined.found_there image program p is entry x at node stands in
      instruction-placed program.layout.cpu at (drop at (code_within image program.layout)) node.instr
      (bytes-dropped at (code_within image program.layout) (code-bytes image program.layout (loaded-bytes image is.of_file.loaded))) there.instr
      (node-user image program.layout program.procs.items is.of_file.is_program.procs x.proc.entry x.reached at node.instr there.node there.instr)

  -- the operation is one that decoding gives
  pub decoded_there : is_decoded node.instr.op ≡ true
  decoded_there =
      let there = refined.found_there image program p is entry x at node stands in
      instruction-decoded program.layout.cpu at (drop at (code_within image program.layout)) node.instr there.instr
      (node-user image program.layout program.procs.items is.of_file.is_program.procs x.proc.entry x.reached at node.instr there.node there.instr)

  module _ (height : ℕ) (a : Operand) (named : (w : Width) (ea : Ea) → memory_of a ≡ Some (w, ea) → memory_operand node.instr.op ≡ Some (w, ea)) (uses : is_by_bp a ≡ true → uses_bp_address node.instr.op ≡ true) where
    memory_there : (w : Width) (ea : Ea) → a ≡ Mem w ea → IsSource (Mem w ea) → IsOperandAt o body exposed (Mem w ea) (operand_place q height (Mem w ea))
    memory_there w ea e source = by (is_direct ea) refl
      where
        operand : memory_operand node.instr.op ≡ Some (w, ea)
        operand = named w ea (ap memory_of e)

        by_base : is_direct ea ≡ true → uses_bp_address node.instr.op ≡ true
        by_base d = uses (ap is_by_bp e ∙ or_here (is_bp ea.base) (is_bp ea.index) (and_left (is_bp ea.base) (is_none ea.index) d))

        by : (b : Bool) → is_direct ea ≡ b → IsOperandAt o body exposed (Mem w ea) (if b then frame_place q w (offset_in_frame ea) else memory w (computed_expr (address_of ea)))
        by true d =
            direct_at o q x.procedure_found x.own exposed exposed_is one ea
            (x.is_frame.framed ∙ framed_there image program p is entry x at node stands w ea operand d (by_base d)) d w
            (access_at image program p is entry x at node stands w ea operand d (by_base d))
        by false d = elsewhere_at o body exposed w ea d source.plain

    operand_by : (b : Operand) → a ≡ b → is_named b ≡ true → IsSource b → IsOperandAt o body exposed b (operand_place q height b)
    operand_by (Word Ax) e t s = word_at o body exposed Ax refl
    operand_by (Word Cx) e t s = word_at o body exposed Cx refl
    operand_by (Word Dx) e t s = word_at o body exposed Dx refl
    operand_by (Word Bx) e t s = word_at o body exposed Bx refl
    operand_by (Word Si) e t s = word_at o body exposed Si refl
    operand_by (Word Di) e t s = word_at o body exposed Di refl
    operand_by (Word Sp) e t s = pointer_at o body exposed Sp not-sp (computed (computed_expr (stack_pointer q height))) (reads_computed (stack_pointer q height)) refl refl refl
    operand_by (Word Bp) e t s = pointer_at o body exposed Bp not-bp (computed (computed_expr (frame_pointer height))) (reads_computed (frame_pointer height)) refl refl refl
    operand_by (Byte r h) e t s = byte_at o body exposed r h t
    operand_by (Const v n) e t s = constant_at o body exposed v n
    operand_by (Seg n) e t s = absurd (true≢false (sym t))
    operand_by (Mem w ea) e t s = memory_there w ea e s

    pub operand_there : is_named a ≡ true → IsSource a → IsOperandAt o body exposed a (operand_place q height a)
    operand_there t s = operand_by a refl t s
