-- MOV, XCHG, PUSH and POP of a procedure that is found, in their setting.
use Rattle.std.proofs.Common.{◌≡◌, ℕ, ℤ, true, false, Option, ◌&&◌, ◌||◌, if◌then◌else◌, None, Some, refl, sym, ap, ◌∙◌, subst, true≢false}
use Rattle.std.specs.Prelude.{Contains}
use Rattle.dcc_machine.specs.declared.image.Image.{Image}
use Rattle.dcc_prog.specs.declared.frame.Program.{Program as Analysed}
use Rattle.dcc_prog.specs.declared.procedure.Node.{Node}
use Rattle.dcc_machine.specs.Wanted.{half_of, flag_of}
use Rattle.dcc_num.specs.declared.Width.TheVariants.{Byte as byte_width}
use Rattle.dcc_ir.specs.declared.syntax.Loc.{Loc}
use Rattle.dcc_ops.specs.OperandPlace.{byte}
use Rattle.dcc_stack.specs.Slots.{writes_memory}
use Rattle.dcc_ir.specs.Tree.{Graph, Program}
use Rattle.dcc_simulation.specs.Procedures.{Procedure, frame_place, pushed_of}
use Rattle.dcc_lift.specs.Blocks.{node_in, height_in}
use Rattle.dcc_lift.specs.Translated.{IsTranslated}
use Rattle.dcc_lift.proofs.ListTests.{or_none}
use Rattle.dcc_demand.specs.Procedures.{Leaves, Makes, Overwrites, Procedures}
use Rattle.dcc_machine_demand.specs.Bodies.{Body, Point, bodies_of}
use Rattle.dcc_machine_demand.specs.Holders.{Holder, held, in_frame, is_accessed_by}
use Rattle.dcc_machine_demand.specs.Moves.{moves_of, moved_effect, moved_made_of, moved_uses, pushed_from}
use Rattle.dcc_machine_demand.specs.Moves.{pushed_offset, pushed_spots}
use Rattle.dcc_machine_demand.specs.Values.{value_written, is_sure, value_made_of, value_uses}
use Rattle.dcc_machine_demand.specs.Instance as asks
use Rattle.dcc_sums.specs.Points.{Position}
use Rattle.dcc_sums.specs.Instance.{is_pushed}
use Rattle.dcc_lifted_demand.specs.LiftedRefinement.{lifted_refinement}
use Rattle.dcc_lifted_demand.proofs.SameLaws.{SameCases, same_cases, one_place, exposed_unkept}
use Rattle.dcc_lifted_demand.proofs.RefinedLaws as refined
use Rattle.dcc_instruction_demand.proofs.MovingLaws.{moved_to, is_mover, IsMover, mover, IsMovingOperation}
use Rattle.dcc_instruction_demand.proofs.SettingLaws as setting

module _ (image : Image) (program : Analysed) (p : Program) (is : IsTranslated image program p) (entry : ℕ) (x : refined.Link image program p is entry) (at : ℕ) (node : Node) (height : ℕ)
    (found : node_in x.proc.nodes.entries at ≡ Some node) (high : height_in x.own at ≡ Some height) where
  abbrev coarse : Procedures ℕ Holder ℤ
  coarse = setting.coarse image program p is entry x

  abbrev fine : Procedures Position Loc Loc
  fine = setting.fine image program p is entry x

  abbrev found_procedure : Option Procedure
  found_procedure = setting.found_procedure image program p is entry x

  abbrev body : Body
  body = setting.body image program p is entry x

  abbrev point : Point
  point = setting.point image program p is entry x at node height found high

  untouched : (L : Holder) → asks.touches_byte None height L ≡ false
  untouched (held l) = refl
  untouched (in_frame k) = refl

  unpassed : (L : Holder) → asks.passes_byte None height L ≡ false
  unpassed (held l) = refl
  unpassed (in_frame k) = refl

  -- no location stands for what may be read anywhere
  hidden : (L : Holder) (l : Loc) → (coarse.procedure entry).is_exposed L ≡ true → SameCases found_procedure L l → ⊥
  hidden L l e (SameCases.by_held location t f g) = true≢false (sym e ∙ ap (coarse.procedure entry).is_exposed f ∙ ap (λ g. g.is_exposed (held location)) (refined.coarse_is image program p is entry x))
  hidden L l e (SameCases.by_kept other k t f kept g) =
      let same : other ≡ refined.procedure image program p is entry x = cc (t, x.procedure_found) in
      exposed_unkept (refined.procedure image program p is entry x) k l
      (sym (ap (λ g. g.is_exposed (in_frame k)) (refined.coarse_is image program p is entry x)) ∙ sym (ap (coarse.procedure entry).is_exposed f) ∙ e)
      (subst (λ (q : Procedure). frame_place q byte_width k ≡ byte l) same g)

  abbrev pub own_pushed : ℕ
  own_pushed = pushed_of (refined.procedure image program p is entry x)

  pub moving_operation : is_mover node.instr.op ≡ true → (b : ℕ) × Contains ((coarse.procedure entry).next at) b
      → IsMovingOperation coarse fine (lifted_refinement program) entry at own_pushed found_procedure (bodies_of program) body point
  moving_operation t goes = let m = mover (bodies_of program) body height node.instr.op t in record {
    same = λ L l s. s;
    as_same = λ L l s. s;
    same_word = λ k l s. s;
    exposed = λ L. ap (λ g. g.is_exposed L) (refined.coarse_is image program p is entry x);
    private = λ k. ap (λ g. g.is_private k) (refined.coarse_is image program p is entry x);
    fine_private = λ l. ap (λ g. g.is_private l) (refined.fine_is image program p is entry x) ∙ ap (λ (g : Graph). is_pushed g.pushed l) x.is_graph.graph_is;
    passes_is = λ L. refl;
    one = λ L M l s t. one_place found_procedure (refined.small_linked image program p is entry x) s t;
    unexposed = λ L l s e. hidden L l e (same_cases found_procedure s);
    goes = goes;
    is = setting.action_is image program p is entry x at node height found high;
    effect_is = λ L. ap (λ b. if b then if asks.touches (bodies_of program) body point L then Makes else moved_effect (asks.moves (bodies_of program) body point) L
        else if value_written body node.instr.op node.number L then Makes else Leaves) m.moving
        ∙ ap (λ c. if asks.touches_byte c height L then Makes else moved_effect (asks.moves (bodies_of program) body point) L) m.callee
        ∙ ap (λ b. if b then Makes else moved_effect (asks.moves (bodies_of program) body point) L) (untouched L);
    made_is = λ to from. ap (λ b. if b then moved_made_of (asks.moves (bodies_of program) body point) to from else value_made_of body node.instr.op to from) m.moving;
    uses_is = λ L. ap (λ b. if b then moved_uses (asks.moves (bodies_of program) body point) L || asks.passes_byte (asks.callee_in (bodies_of program) node.instr.op) height L
        else value_uses body node.instr.op node.number L) m.moving
        ∙ ap (λ c. moved_uses (asks.moves (bodies_of program) body point) L || asks.passes_byte c height L) m.callee
        ∙ ap (λ b. moved_uses (asks.moves (bodies_of program) body point) L || b) (unpassed L) ∙ or_none (moved_uses (asks.moves (bodies_of program) body point) L);
    all = m.all;
    sure = sure_by m;
    callee_is = m.calls;
    word_is = λ k. ap (λ c. if asks.touches_byte c height (in_frame k) || (writes_memory node.instr.op && is_accessed_by body node.instr.op k) then Overwrites
        else pushed_from (pushed_offset height) (pushed_spots body node.instr.op) k) m.callee;
  }
    where
      sure_by : IsMover (bodies_of program) body height node.instr.op → (L : Holder) → moved_to (moves_of body height node.instr.op) L ≡ true → is_sure node.instr.op L ≡ true
      sure_by m (held (half_of q h)) t = m.sure_half q h
      sure_by m (held (flag_of f)) t = absurd (true≢false (sym t ∙ m.no_flag f))
      sure_by m (in_frame k) t = m.sure_frame k
