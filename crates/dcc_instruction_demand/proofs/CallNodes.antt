-- A CALL of a procedure that is found, in its setting.
use Rattle.std.proofs.Common.{◌≡◌, ◌<◌, ℕ, ℤ, ◌+◌, ◌*◌, Bool, true, false, not, ◌&&◌, if◌then◌else◌, ◌==◌, List, [], ◌∷◌, Option, Some, All, refl, sym, ap, ◌∙◌, subst, eqb-true, arith}
use Rattle.std.specs.Prelude.{Contains, pos, ◌≤ℤ◌}
use Rattle.std.specs.List.{range_with_len}
use Rattle.std.proofs.lemmas.Int.{ints}
use Rattle.std.proofs.lemmas.List.Elements.{All-head, All-tail}
use Rattle.dcc_num.specs.declared.Width.TheVariants.{Byte as byte_width, Word as word_width}
use Rattle.dcc_machine.specs.declared.image.Image.{Image}
use Rattle.dcc_prog.specs.declared.frame.Program.{Program as Analysed}
use Rattle.dcc_prog.specs.declared.procedure.Layout.{Layout}
use Rattle.dcc_prog.specs.declared.procedure.Node.{Node}
use Rattle.dcc_machine.specs.declared.instr.Op.TheVariants.{Call}
use Rattle.dcc_machine.specs.Access.{bytes_in}
use Rattle.dcc_prog.specs.Found.{IsNodeFound}
use Rattle.dcc_prog.specs.Frame.{span_of, own_bytes, HasArguments, IsUsed, IsPiece, passed}
use Rattle.dcc_prog.specs.Height.{IsHeight, HasHeight}
use Rattle.dcc_prog.specs.Trail.{IsEntry}
use Rattle.dcc_stack.specs.Accepted.{IsAt}
use Rattle.dcc_stack.specs.Slots.{is_within, gives_back}
use Rattle.dcc_stack.proofs.FormLaws.{in-form}
use Rattle.dcc_ir.specs.declared.syntax.Loc.{Loc}
use Rattle.dcc_ir.specs.Tree.{Program}
use Rattle.dcc_ops.specs.OperandPlace.{byte}
use Rattle.dcc_lift.specs.Blocks.{node_in, height_in}
use Rattle.dcc_lift.specs.Translated.{IsTranslated, setting}
use Rattle.dcc_lift.proofs.Lifting.{lifting}
use Rattle.dcc_lift.proofs.ListTests.{and_false, or_none}
use Rattle.dcc_simulation.specs.Procedures.{Procedure, procedure_at, frame_place, given_back}
use Rattle.dcc_simulation.specs.Nodes.{procedures_in}
use Rattle.dcc_simulation.specs.Statements.{argument_offset, calling}
use Rattle.dcc_simulation.proofs.ArgumentWords.{range-tells}
use Rattle.dcc_simulation.proofs.FoundProcedures.{procedure-there}
use Rattle.dcc_demand.specs.Procedures.{Leaves, Makes, LeavesWord, Overwrites, Action, Procedures, is_left}
use Rattle.dcc_machine_demand.specs.Bodies.{Body, bodies_of, body_at, Point}
use Rattle.dcc_machine_demand.specs.Holders.{Holder, held, in_frame, is_holder}
use Rattle.dcc_machine_demand.specs.Instance as asks
use Rattle.dcc_machine_demand.specs.Instance.{passed_word, is_passed}
use Rattle.dcc_sums.specs.Points.{Position}
use Rattle.dcc_lifted_demand.specs.LiftedRefinement.{IsSame, lifted_refinement}
use Rattle.dcc_lifted_demand.proofs.LinkLaws.{Standing}
use Rattle.dcc_lifted_demand.proofs.RefinedLaws as refined
use Rattle.dcc_lifted_demand.proofs.SameLaws.{SameCases, same_cases, one_place}
use Rattle.dcc_instruction_demand.specs.Agreement.{Agrees}
use Rattle.dcc_instruction_demand.proofs.FrameLaws.{AccessAt}
use Rattle.dcc_instruction_demand.proofs.AccessLaws.{any_kept, in_some_cell, piece_access}
use Rattle.dcc_instruction_demand.proofs.SettingLaws as settings
use Rattle.dcc_instruction_demand.proofs.WorkLaws.{point_with_op}
use Rattle.dcc_instruction_demand.proofs.CallLaws.{is_of_words, IsCallOperation, call_agrees}

-- the height that is found for an offset is told of it
pub height_holds : (P : ℕ × ℕ → Type 0) (heights : List (ℕ × ℕ)) (at height : ℕ) → All P heights → height_in heights at ≡ Some height → P (at, height)
height_holds P [] at height all e = absurd (cc e)
height_holds P (found ∷ heights) at height all e = by (found.0 == at) refl e (λ d. height_holds P heights at height (All-tail P found heights all) d)
  where
    by : (b : Bool) → (found.0 == at) ≡ b → (if b then Some found.1 else height_in heights at) ≡ Some height → (height_in heights at ≡ Some height → P (at, height)) → P (at, height)
    by true t e later =
        let there : found.0 ≡ at = eqb-true found.0 at t in
        let same : found.1 ≡ height = cc e in
        subst P (ap (λ n. (n, found.1)) there ∙ ap (λ n. (at, n)) same) (All-head P found heights all)
    by false t e later = later e

module _ (image : Image) (program : Analysed) (p : Program) (is : IsTranslated image program p) (entry : ℕ) (x : refined.Link image program p is entry) (at height target : ℕ) (node : Node)
    (found : node_in x.proc.nodes.entries at ≡ Some (point_with_op node height (Call target)).node) (high : height_in x.own at ≡ Some height) where
  abbrev layout : Layout
  layout = program.layout

  abbrev here : Node
  here = (point_with_op node height (Call target)).node

  abbrev coarse : Procedures ℕ Holder ℤ
  coarse = settings.coarse image program p is entry x

  abbrev fine : Procedures Position Loc Loc
  fine = settings.fine image program p is entry x

  abbrev o : Option Procedure
  o = settings.found_procedure image program p is entry x

  abbrev q : Procedure
  q = refined.procedure image program p is entry x

  abbrev body : Body
  body = settings.body image program p is entry x

  abbrev bodies : List Body
  bodies = bodies_of program

  one : (L M : Holder) (l : Loc) → IsSame o L l → IsSame o M l → L ≡ M
  one L M l s t = one_place o (refined.small_linked image program p is entry x) s t

  -- The trail.

  there : IsNodeFound image layout x.proc.entry (at, here)
  there = refined.found_there image program p is entry x at here found

  is_height : IsHeight image layout x.proc.entry at (pos height)
  is_height = height_holds (λ found. IsHeight image layout x.proc.entry found.0 (pos found.1)) x.own at height x.are_heights.each high

  has : HasHeight image layout x.proc.entry at (pos height)
  has = record { before = there.node.before; gives = is_height there.node.before there.node.trail }

  is_at : IsAt image layout x.proc.entry at there.node.before (pos height)
  is_at = record { is_entry = x.reached; trail = there.node.trail; gives = is_height there.node.before there.node.trail }

  -- the procedure that is called is reached
  called_entry : IsEntry image layout target
  called_entry = IsEntry.called x.reached there.node (here.instr, there.instr, refl)

  stands_at : (L : Holder) (l : Loc) → IsSame o L l → is_holder body L ≡ true
  stands_at L l s = by (same_cases o s)
    where
      by : SameCases o L l → is_holder body L ≡ true
      by (SameCases.by_held location t e f) = ap (is_holder body) e ∙ t
      by (SameCases.by_kept other k t e kept f) =
          let same : other ≡ q = cc (t, x.procedure_found) in
          ap (is_holder body) e ∙ in_some_cell image program p is entry x k l (subst (λ (r : Procedure). frame_place r byte_width k ≡ byte l) same f)

  module _ (y : refined.Link image program p is target) where
    abbrev callee : Procedure
    callee = refined.procedure image program p is target y

    abbrev numbers : List ℕ
    numbers = range_with_len 0 callee.frame.args

    abbrev back : List ℕ
    back = given_back callee

    -- Where the words of the arguments stand.

    arguments : HasArguments image layout target callee.frame.args
    arguments = subst (λ n. HasArguments image layout n callee.frame.args) y.entry_is y.is_frame.arguments

    own : pos (2 * callee.frame.args) ≤ℤ own_bytes image layout x.proc.entry (pos height)
    own =
        in-form.arguments layout.cpu image program x.proc.entry at target callee.frame.args there.node.before height is.of_file
        is_at (here.instr, there.instr, refl) arguments

    piece : (number : ℕ) → number < callee.frame.args → IsPiece image layout entry (span_of (argument_offset height number) (bytes_in word_width))
    piece number less =
        subst (λ n. IsPiece image layout n (span_of (argument_offset height number) 2)) x.entry_is
        (IsPiece.used there.node (IsUsed.passed (passed (here.instr, there.instr, refl) has arguments less (within (own_bytes image layout x.proc.entry (pos height)) own))))
      where
        within : (z : ℤ) → pos (2 * callee.frame.args) ≤ℤ z → pos (2 * number + 2) ≤ℤ z
        within z own = omega (arith, ints, own, less)

    access : (number : ℕ) → Contains numbers number → AccessAt o q x.procedure_found x.own word_width (argument_offset height number)
    access number c =
        let less : number < callee.frame.args = omega (arith, (range-tells 0 callee.frame.args number c).1) in
        piece_access image program p is entry x (argument_offset height number) word_width (piece number less)

    -- What the CALL does.

    abbrev point : Point
    point = point_with_op node height (Call target)

    abbrev does : Action Holder ℤ
    does = asks.action_of bodies body point

    action_is : (coarse.procedure entry).action at ≡ does
    action_is = settings.action_is image program p is entry x at here height found high

    touches_words : (L : Holder) → asks.touches_byte (body_at bodies target) height L ≡ is_of_words height back L
    touches_words (held location) = refl
    touches_words (in_frame k) = ap (λ c. is_passed height (asks.touched_of c) k) y.body_found

    passes_words : (L : Holder) → asks.passes_byte (body_at bodies target) height L ≡ is_of_words height numbers L
    passes_words (held location) = refl
    passes_words (in_frame k) = ap (λ c. is_passed height (asks.arguments_of c) k) y.body_found

    within_numbers : (L : Holder) → is_of_words height back L ≡ true → is_of_words height numbers L ≡ true
    within_numbers (held location) t = t
    within_numbers (in_frame k) t = any_kept (λ number. is_within k (passed_word height number)) (gives_back callee.proc callee.frame) numbers t

    unsure : (L : Holder) → does.surely L ≡ false
    unsure L = and_false (not (is_left (asks.effect_at bodies body point L)))

    operation : (pushed : ℕ) → IsCallOperation coarse fine (lifted_refinement program) entry at pushed o body height target numbers back
    operation pushed = record {
      same = λ L l s. s;
      as_same = λ L l s. s;
      same_word = λ k l s. s;
      coarse_passes = λ L. refl;
      fine_passes = λ l. refl;
      stands = stands_at;
      effect_is = λ L. ap (λ (z : Action Holder ℤ). z.effect L) action_is ∙ ap (λ b. if b then Makes else Leaves) (touches_words L);
      made_is = λ to from. ap (λ (z : Action Holder ℤ). z.made_of to from) action_is ∙ and_false (is_holder body from);
      uses_is = λ L. ap (λ (z : Action Holder ℤ). z.uses L) action_is
          ∙ ap (λ b. is_holder body L && b) (passes_words L);
      unsure = λ L. ap (λ (z : Action Holder ℤ). z.surely L) action_is ∙ unsure L;
      word_is = λ k. ap (λ (z : Action Holder ℤ). z.word_effect k) action_is
          ∙ ap (λ b. if b then Overwrites else LeavesWord) (or_none (asks.touches_byte (body_at bodies target) height (in_frame k)) ∙ touches_words (in_frame k));
      callee_is = ap (λ (z : Action Holder ℤ). z.callee) action_is;
    }

    linked_agrees : (pushed : ℕ) → Agrees coarse fine (lifted_refinement program) entry at pushed (calling q height (Some callee)) []
    linked_agrees pushed =
        call_agrees coarse fine (lifted_refinement program) entry at pushed o body height target numbers back (operation pushed) q callee x.procedure_found x.own one y.entry_is refl refl within_numbers access

  pub call_there : (pushed : ℕ) → Agrees coarse fine (lifted_refinement program) entry at pushed (calling q height (procedure_at (procedures_in program) target)) []
  call_there pushed = elim (refined.stands image program p is target) [
    | Standing.linked y ↦
        subst (λ c. Agrees coarse fine (lifted_refinement program) entry at pushed (calling q height c) []) (sym y.procedure_found) (linked_agrees y pushed)
    | Standing.missing y ↦
        let found = procedure-there (setting image program p) (lifting image program p is.of_file is.translation) target called_entry in
        absurd (cc (y.procedure_none, found.1))
  ]
