-- At a CALL the machine finds an argument wanted after it just where the lifted program does.
use Rattle.std.proofs.Common.{◌≡◌, ◌≤◌, ℕ, ℤ, zero, suc, ◌+◌, Bool, true, false, ◌==◌, if◌then◌else◌, ◌⊎◌, inl, inr, List, [], ◌∷◌, ◌++◌, length, map, Contains, Option, Some, None, refl, sym, ap, ◌∙◌, subst, true≢false, arith}
use Rattle.std.specs.Prelude.{slice_get}
use Rattle.std.proofs.lemmas.Option.{get_or_from_slice_get}
use Rattle.dcc_machine.specs.declared.image.Image.{Image}
use Rattle.dcc_prog.specs.declared.procedure.Node.{Node}
use Rattle.dcc_prog.specs.declared.frame.Program.{Program as Analysed}
use Rattle.dcc_machine.specs.declared.instr.Op.TheVariants.{Call as CallOp}
use Rattle.dcc_machine.specs.Successors as trail
use Rattle.dcc_machine.specs.Wanted.{Location, half_of, flag_of}
use Rattle.dcc_stack.specs.Slots.{is_within}
use Rattle.dcc_ir.specs.declared.syntax.Loc.{Loc}
use Rattle.dcc_ir.specs.declared.syntax.Loc.TheVariants.{Temp}
use Rattle.dcc_ir.specs.Tree.{Stmt, Call, Block, Graph, Program}
use Rattle.dcc_ir.specs.Live.{block_in}
use Rattle.dcc_ir.specs.Run.{no_block}
use Rattle.dcc_ir.proofs.PathLaws.{decided, clash}
use Rattle.dcc_ops.specs.Statements.{exit_to}
use Rattle.dcc_simulation.specs.Procedures.{Procedure, given_back, procedure_at}
use Rattle.dcc_simulation.specs.Nodes.{procedures_in}
use Rattle.dcc_simulation.specs.Passed.{exit_of}
use Rattle.dcc_simulation.specs.Statements.{moves_frame, working_stmts, calling, results_of, arguments_of}
use Rattle.dcc_simulation.specs.Statements.{taking_all_back}
use Rattle.dcc_lift.specs.Blocks.{node_in, successors_in, calls_in, is_call as is_call_op, joins, onward, BlockSource, nodes_in, entry_in, block_place, node_stmts, stmts_at, node_exit, exit_at}
use Rattle.dcc_lift.specs.Translated.{IsTranslated}
use Rattle.dcc_lift.proofs.BlockLaws.{leader_block}
use Rattle.dcc_lift.proofs.ChainLaws.{joined, onward_tells, begins_leader}
use Rattle.dcc_lift.proofs.NodeLaws.{node_in_has}
use Rattle.dcc_lift.proofs.TranslationLaws.{front_of, graph-blocks}
use Rattle.dcc_demand.specs.Procedures.{Procedures}
use Rattle.dcc_demand.specs.Wanted.{IsWantedBy, Wanted}
use Rattle.dcc_machine_demand.specs.Bodies.{Body, bodies_of}
use Rattle.dcc_machine_demand.specs.Holders.{Holder, in_frame, is_in_cell}
use Rattle.dcc_machine_demand.specs.Instance.{passed_word}
use Rattle.dcc_sums.specs.Points.{Position, next_of, Executes, Ends, site_of, nexts_of}
use Rattle.dcc_sums.specs.Instance as sums
use Rattle.dcc_lifted_demand.specs.Sources.{sources, used}
use Rattle.dcc_lifted_demand.specs.StatementsTellPoints.{AreAt, TellPoints}
use Rattle.dcc_lifted_demand.proofs.SourceLaws.{statements-tell_points}
use Rattle.dcc_lifted_demand.proofs.SiteLaws.{EndsSo, are_at}
use Rattle.dcc_refinement.specs.Laws.{IsAwaited}
use Rattle.dcc_lifted_demand.specs.InstructionPoints.{begin_at, points_at, end_sites}
use Rattle.dcc_lifted_demand.proofs.BeginLaws.{begin_leads}
use Rattle.dcc_lifted_demand.specs.LiftedRefinement.{IsSame, inner_of, steps_in, lifted_refinement, scene_at, scenes_in}
use Rattle.dcc_lifted_demand.specs.LiftedIsRefined.{machine, inner}
use Rattle.dcc_lifted_demand.proofs.EdgeLaws as edges
use Rattle.dcc_lifted_demand.proofs.SameLaws as same
use Rattle.dcc_lifted_demand.proofs.SameLaws.{SameCases, same_cases}
use Rattle.dcc_lifted_demand.proofs.RefinedLaws as refined
use Rattle.dcc_kinds.specs.Laws.{IsLikeMachine}
use Rattle.dcc_kinds.proofs.BackLaws.{IsOpen, StandsIn, backs, put_back, takes_back, used_open, open_used, carried_kept, kept_carried, back_passed, passed_back}
use Rattle.dcc_kinds.proofs.CallLaws as calls
use Rattle.dcc_kinds.proofs.CallLaws.{BytePlace}

none_tested : (places : List ℕ) → sums.used_at_end (exit_to None places) ≡ []
none_tested [] = refl
none_tested (a ∷ []) = refl
none_tested (a ∷ b ∷ places) = refl

one_more : (n : ℕ) → n ≤ 1 → (front : List Block) (block : Block) → front ≡ (if n == 0 then [] else block ∷ []) → length front ≡ n
one_more zero few front block e = ap length e
one_more (suc zero) few front block e = ap length e
one_more (suc (suc n)) few front block e = absurd (omega (arith, few))

-- The points of a CALL.

module _ (image : Image) (program : Analysed) (p : Program) (is : IsTranslated image program p) (entry : ℕ) (x : refined.Link image program p is entry) (at : ℕ) (node : Node)
    (stands : node_in x.proc.nodes.entries at ≡ Some node) (target : ℕ) (is_call : node.instr.op ≡ CallOp target) where
  abbrev pub q : Procedure
  q = refined.procedure image program p is entry x

  abbrev pub scene : BlockSource
  scene = refined.scene image program p is entry x

  abbrev pub height : ℕ
  height = calls.height image program p is entry x at node stands

  calls_here : calls_in (node_in (nodes_in scene) at) ≡ true
  calls_here = ap calls_in stands ∙ ap is_call_op is_call

  begins_here : joins (nodes_in scene) (entry_in scene) at ≡ false
  begins_here = elim (decided (joins (nodes_in scene) (entry_in scene) at)) [
    | inl t ↦ absurd (clash calls_here (joined (nodes_in scene) (entry_in scene) at t).calls)
    | inr f ↦ f
  ]

  -- the block of a CALL begins at the CALL
  pub block_at : (block_in x.graph (begin_at scene at).block).at ≡ at
  block_at =
      let has = leader_block scene image.ip (refined.sound image program p is entry x) (front_of image program.layout scene) front_is x.is_graph.blocks x.is_graph.blocks_are at
      (begins_leader (nodes_in scene) (entry_in scene) image.ip (refined.sound image program p is entry x) at (node_in_has (nodes_in scene) at node stands) begins_here) in
      let there : block_in x.graph (block_place scene at) ≡ has.block =
      get_or_from_slice_get x.graph.blocks (block_place scene at) has.block no_block
      (ap (λ blocks. slice_get blocks (block_place scene at)) (ap (λ (g : Graph). g.blocks) x.is_graph.graph_is ∙ graph-blocks image program.layout scene x.is_graph.blocks) ∙ has.found) in
      ap (λ (a : Position). (block_in x.graph a.block).at) (begin_leads scene at begins_here) ∙ ap (λ (b : Block). b.at) there ∙ has.is_block.at_is
    where
      front_is : length (front_of image program.layout scene) ≡ scene.before
      front_is = one_more scene.before x.few (front_of image program.layout scene) _ refl

  no_onward : onward (nodes_in scene) (entry_in scene) at ≡ None
  no_onward = by (onward (nodes_in scene) (entry_in scene) at) refl
    where
      by : (o : Option ℕ) → onward (nodes_in scene) (entry_in scene) at ≡ o → o ≡ None
      by None e = refl
      by (Some next) e = absurd (clash calls_here (onward_tells (nodes_in scene) (entry_in scene) image.ip (refined.sound image program p is entry x) at next e).calls)

  pub stmts_are : stmts_at scene at ≡ calling q height (procedure_at (procedures_in program) target)
  stmts_are =
      ap (λ o. node_stmts scene o (node_in (nodes_in scene) at)) (calls.high image program p is entry x at node stands)
      ∙ ap (node_stmts scene (Some height)) stands
      ∙ ap (λ op. if moves_frame op then [] else working_stmts scene.cpu scene.procedures q height op node.number) is_call

  module _ (y : refined.Link image program p is target) where
    abbrev pub callee : Procedure
    callee = refined.procedure image program p is target y

    abbrev pub call : Stmt
    call = Call (results_of callee) callee.proc.entry (arguments_of q height callee) (height + 2)

    abbrev pub taking : List Stmt
    taking = taking_all_back q height 0 (given_back callee)

    pub stmts_there : stmts_at scene at ≡ call ∷ taking
    stmts_there = stmts_are ∙ ap (calling q height) y.procedure_found

    -- the first point, the one after it, and the rest
    pub record CallPoints : Type 0 where
      pub rest : List Position
      pub points_are : points_at scene at ≡ begin_at scene at ∷ next_of (begin_at scene at) ∷ rest
      pub site : site_of x.graph (begin_at scene at) ≡ Executes call
      pub others : AreAt (sums.procedure_of x.graph) x.graph.pushed (next_of (begin_at scene at) ∷ rest) taking []

    sites_are : map (site_of x.graph) (points_at scene at) ≡ Executes call ∷ (map Executes taking ++ (Ends (exit_at scene at) ∷ []))
    sites_are =
        (refined.has image program p is entry x).sites at node stands
        ∙ ap (λ stmts. map Executes stmts ++ end_sites scene (onward (nodes_in scene) (entry_in scene) at) at) stmts_there
        ∙ ap (λ o. map Executes (call ∷ taking) ++ end_sites scene o at) no_onward

    ends_so : EndsSo x.graph.pushed (Ends (exit_at scene at) ∷ []) []
    ends_so = ap sums.only_using unused
      where
        unused : sums.used_at_end (exit_at scene at) ≡ []
        unused =
            ap (λ o. sums.used_at_end (node_exit scene o)) stands
            ∙ ap (λ op. sums.used_at_end (exit_of q op (map (block_place scene) node.succ.items))) is_call
            ∙ none_tested (map (block_place scene) node.succ.items)

    pub call_points : CallPoints
    call_points = by (points_at scene at) refl sites_are
      where
        by : (points : List Position) → points_at scene at ≡ points → map (site_of x.graph) points ≡ Executes call ∷ (map Executes taking ++ (Ends (exit_at scene at) ∷ [])) → CallPoints
        by [] e f = absurd (cc f)
        by (first ∷ []) e f = absurd (nothing_left taking (cc f))
          where
            nothing_left : (stmts : List Stmt) → [] ≡ map Executes stmts ++ (Ends (exit_at scene at) ∷ []) → ⊥
            nothing_left [] g = cc g
            nothing_left (s ∷ stmts) g = cc g
        by (first ∷ second ∷ rest) e f =
            let begin : begin_at scene at ≡ first = (refined.has image program p is entry x).begins at first (second ∷ rest) e in
            let site : site_of x.graph first ≡ Executes call = cc f in
            let later : map (site_of x.graph) (second ∷ rest) ≡ map Executes taking ++ (Ends (exit_at scene at) ∷ []) = cc f in
            let next = (refined.has image program p is entry x).within at [] rest first second e in
            let second_is : next_of first ≡ second = cc (next.0, ap (λ s. nexts_of s first) site) in
            let both : first ∷ second ∷ rest ≡ begin_at scene at ∷ next_of (begin_at scene at) ∷ rest =
            ap (λ a. a ∷ second ∷ rest) (sym begin) ∙ ap (λ b. begin_at scene at ∷ b ∷ rest) (sym second_is ∙ ap next_of (sym begin)) in
            record {
              rest = rest;
              points_are = e ∙ both;
              site = ap (site_of x.graph) begin ∙ site;
              others = subst (λ b. AreAt (sums.procedure_of x.graph) x.graph.pushed (b ∷ rest) taking []) (sym second_is ∙ ap next_of (sym begin))
                  (are_at x.graph (second ∷ rest) taking (Ends (exit_at scene at) ∷ []) [] later ends_so);
            }

-- What is wanted after it.

-- halves, flags and bytes of cells are no temporaries
no_temporary : (o : Option Procedure) {L : Holder} {l : Loc} (t : ℕ) → IsSame o L l → Temp t ≡ l → ⊥
no_temporary o t same e = elim (same_cases o same) [
  | SameCases.by_held location passes f g ↦ by location (e ∙ g)
  | SameCases.by_kept found k f g kept h ↦ cc (e, kept.is)
]
  where
    by : (a : Location) → Temp t ≡ inner_of a → ⊥
    by (half_of r half) e = cc e
    by (flag_of flag) e = cc e

module _ (image : Image) (program : Analysed) (p : Program) (like : IsLikeMachine image program p) where
  abbrev is : IsTranslated image program p
  is = like.translated

  abbrev coarse : Procedures ℕ Holder ℤ
  coarse = machine image program p

  abbrev fine : Procedures Position Loc Loc
  fine = inner image program p

  module _ (entry : ℕ) (x : refined.Link image program p is entry) (at : ℕ) (node : Node) (stands : node_in x.proc.nodes.entries at ≡ Some node) (target : ℕ)
      (is_call : node.instr.op ≡ CallOp target) (y : refined.Link image program p is target) where
    abbrev body : Body
    body = refined.body image program p is entry x

    abbrev here : BlockSource
    here = scene image program p is entry x at node stands target is_call

    abbrev tall : ℕ
    tall = height image program p is entry x at node stands target is_call

    abbrev own : Procedure
    own = q image program p is entry x at node stands target is_call

    abbrev called : Procedure
    called = callee image program p is entry x at node stands target is_call y

    abbrev back : List Stmt
    back = taking image program p is entry x at node stands target is_call y

    abbrev bytes : List (ℤ × ℕ)
    bytes = backs tall 0 (given_back called)

    points : CallPoints image program p is entry x at node stands target is_call y
    points = call_points image program p is entry x at node stands target is_call y

    abbrev first : Position
    first = begin_at here at

    abbrev left : List Position
    left = next_of first ∷ points.rest

    steps_are : (lifted_refinement program).steps entry at ≡ first ∷ left
    steps_are = ap (λ o. steps_in o at) x.scene_found ∙ points.points_are

    fine_is : fine.procedure entry ≡ sums.procedure_of x.graph
    fine_is = refined.fine_is image program p is entry x

    tell : TellPoints (fine.procedure entry) x.graph.pushed left back []
    tell = statements-tell_points (fine.procedure entry) x.graph.pushed left back [] (subst (λ g. AreAt g x.graph.pushed left back []) (sym fine_is) points.others)

    back_is : back ≡ put_back own bytes
    back_is = takes_back own tall 0 (given_back called)

    next_is : (coarse.procedure entry).next at ≡ node.succ.items
    next_is =
        edges.successors coarse fine (lifted_refinement program) entry (bodies_of program) body x.graph here (scene_at (scenes_in program) entry) x.are_heights.nodes refl
        (refined.coarse_is image program p is entry x) fine_is x.scene_found (λ at. refl) (λ at. refl) (refined.has image program p is entry x) at
        ∙ ap successors_in stands

    -- a byte of an argument that the callee may change stands in no cell of the caller, or is wanted after the CALL
    pub record IsWantedByte : Type 0 where
      pub number : ℕ
      pub touched : Contains (given_back called) number
      pub k : ℤ
      pub byte : is_within k (passed_word tall number) ≡ true
      pub wanted : (is_in_cell body k ≡ false) ⊎ ((after : ℕ) × Contains node.succ.items after × Wanted coarse entry after (in_frame k))

    -- a temporary of the call is wanted after it
    abbrev pub IsWantedTemporary : ℤ × ℕ → Type 0
    IsWantedTemporary t = Contains bytes t × Wanted fine entry (next_of first) (Temp t.1)

    place_of : (number : ℕ) (k : ℤ) → Contains (given_back called) number → is_within k (passed_word tall number) ≡ true → BytePlace image program p is entry x k
    place_of = calls.passed_byte image program p is entry x at node stands target is_call y

    awaited : (l : Loc) → Wanted fine entry (next_of first) l → IsAwaited coarse fine (lifted_refinement program) entry at left l
    awaited l = (like.relations.between entry at first (next_of first) [] points.rest l steps_are).0

    wanted : (l : Loc) → IsAwaited coarse fine (lifted_refinement program) entry at left l → Wanted fine entry (next_of first) l
    wanted l = (like.relations.between entry at first (next_of first) [] points.rest l steps_are).1

    -- From the lifted program to the machine.

    open_wanted : (b : ℤ × ℕ) → Contains bytes b → IsOpen own b.0 → IsWantedByte
    open_wanted b among open_byte =
        let told = back_passed tall 0 (given_back called) b among in
        record {
          number = told.0;
          touched = told.1;
          k = b.0;
          byte = told.2;
          wanted = by (place_of told.0 b.0 told.1 told.2) (is_in_cell body b.0) refl;
        }
      where
        by : BytePlace image program p is entry x b.0 → (c : Bool) → is_in_cell body b.0 ≡ c
            → (is_in_cell body b.0 ≡ false) ⊎ ((after : ℕ) × Contains node.succ.items after × Wanted coarse entry after (in_frame b.0))
        by place false f = inl f
        by (BytePlace.in_location l e t) true f = absurd (cc (open_byte.1, e))
        by (BytePlace.in_open e exposed) true f =
            let after = calls.goes_on image program p is entry x at node stands target is_call in
            inr (trail.next_of at node.instr, after, IsWantedBy.exposed (ap (λ g. g.is_exposed (in_frame b.0)) (refined.coarse_is image program p is entry x) ∙ exposed f))

    kept_wanted : (l : Loc) (L : Holder) (after : ℕ) (b : ℤ × ℕ) → Contains bytes b → StandsIn own b.0 l → IsSame (procedure_at (procedures_in program) entry) L l
        → Contains ((coarse.procedure entry).next at) after → Wanted coarse entry after L → IsWantedByte
    kept_wanted l L after b among place same_place goes w =
        let told = back_passed tall 0 (given_back called) b among in
        let one : L ≡ in_frame b.0 =
        same.one_place (procedure_at (procedures_in program) entry) (refined.small_linked image program p is entry x) same_place (IsSame.is_kept x.procedure_found place) in
        record {
          number = told.0;
          touched = told.1;
          k = b.0;
          byte = told.2;
          wanted = inr (after, subst (λ nexts. Contains nexts after) next_is goes, subst (Wanted coarse entry after) one w);
        }

    pub temporary_wanted : (t : ℕ) → Wanted fine entry (next_of first) (Temp t) → IsWantedByte
    temporary_wanted t w = by (awaited (Temp t) w)
      where
        by : IsAwaited coarse fine (lifted_refinement program) entry at left (Temp t) → IsWantedByte
        by (IsAwaited.used u) =
            let b = used_open own bytes (Temp t) (subst (λ stmts. Contains (used stmts []) (Temp t)) back_is ((tell.uses (Temp t)).0 u)) in
            open_wanted b.0 b.1 b.2
        by (IsAwaited.carried {fine_after = l} {after = L} {b = after} flows goes same_place later) =
            elim (carried_kept own bytes l (Temp t) (subst (λ stmts. Contains (sources stmts l) (Temp t)) back_is ((tell.flows (Temp t) l).0 flows))) [
              | inl e ↦ absurd (no_temporary (procedure_at (procedures_in program) entry) t same_place e)
              | inr b ↦ kept_wanted l L after b.0 b.1 b.2 same_place goes later
            ]

    -- From the machine to the lifted program.

    pub byte_wanted : IsWantedByte → (t : ℤ × ℕ) × IsWantedTemporary t
    byte_wanted b =
        let told = passed_back tall 0 (given_back called) b.number b.k b.touched b.byte in
        by told.0 told.1 told.2 (place_of b.number b.k b.touched b.byte) b.wanted
      where
        by : (c : ℤ × ℕ) → Contains bytes c → c.0 ≡ b.k → BytePlace image program p is entry x b.k
            → (is_in_cell body b.k ≡ false) ⊎ ((after : ℕ) × Contains node.succ.items after × Wanted coarse entry after (in_frame b.k)) → (t : ℤ × ℕ) × IsWantedTemporary t
        by c among e (BytePlace.in_open open_byte exposed) w =
            let t = open_used own bytes c among (subst (IsOpen own) (sym e) open_byte) in
            (t.0, (t.1, wanted (Temp t.0.1) (IsAwaited.used ((tell.uses (Temp t.0.1)).1 (subst (λ stmts. Contains (used stmts []) (Temp t.0.1)) (sym back_is) t.2)))))
        by c among e (BytePlace.in_location l place t) (inl f) = absurd (true≢false (sym t ∙ f))
        by c among e (BytePlace.in_location l place t) (inr (after, goes, later)) =
            let found = kept_carried own bytes c l among (subst (λ k. StandsIn own k l) (sym e) place) in
            let flows = (tell.flows (Temp found.0.1) l).1 (subst (λ stmts. Contains (sources stmts l) (Temp found.0.1)) (sym back_is) found.2) in (
              found.0,
              (found.1, wanted (Temp found.0.1) (IsAwaited.carried flows (subst (λ nexts. Contains nexts after) (sym next_is) goes) (IsSame.is_kept x.procedure_found place) later)),
            )
