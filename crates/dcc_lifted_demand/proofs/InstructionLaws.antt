-- The points of an instruction: what stands there, and where they lead.
use Rattle.std.proofs.Common.{◌≡◌, ◌≤◌, ℕ, zero, suc, ◌+◌, Bool, true, false, inl, inr, ◌==◌, if◌then◌else◌, List, [], ◌∷◌, ◌++◌, length, map, flat_map, Option, Some, None, refl, sym, ap, ap₂, ◌∙◌, subst, true≢false, arith}
use Rattle.std.specs.Prelude.{Contains, slice_get}
use Rattle.std.proofs.lemmas.List.{append-nil, map-append}
use Rattle.dcc_machine.specs.declared.image.Image.{Image}
use Rattle.dcc_prog.specs.declared.procedure.Layout.{Layout}
use Rattle.dcc_prog.specs.declared.procedure.Node.{Node}
use Rattle.dcc_machine.specs.declared.instr.Op.{Op}
use Rattle.dcc_machine.specs.declared.instr.Op.TheVariants.{Ret, Table}
use Rattle.dcc_ir.specs.Tree.{Expr, Stmt, Block, Graph}
use Rattle.dcc_ir.specs.Live.{block_in}
use Rattle.dcc_ir.proofs.LocationLaws.{Contains-here, Contains-later, Contains-none, Contains-cases}
use Rattle.dcc_ir.proofs.PathLaws.{decided}
use Rattle.dcc_sums.specs.Points.{Position, begin_of, next_of, Executes, Ends, site_of, nexts_of, is_return}
use Rattle.dcc_sums.specs.Instance.{procedure_of}
use Rattle.dcc_refinement.specs.Steps.{Walks}
use Rattle.dcc_refinement.proofs.WantedLaws.{itself}
use Rattle.dcc_refinement.proofs.TrailLaws.{only}
use Rattle.dcc_ops.specs.Statements.{exit_to, op_test}
use Rattle.dcc_simulation.specs.Procedures.{Procedure}
use Rattle.dcc_simulation.specs.Passed.{exit_of}
use Rattle.dcc_simulation.specs.Statements.{moves_frame, working_stmts}
use Rattle.dcc_lift.specs.Blocks.{node_in, successors_in, joins, onward, IsChain, leaders, BlockSource, block_place, height_in, node_stmts, stmts_at, node_exit, exit_at, last_of, AreBlocksAt}
use Rattle.dcc_lift.specs.Sound.{GoesOnAt, AreSound}
use Rattle.dcc_lift.specs.Translation.{prelude_block}
use Rattle.dcc_lift.proofs.ListTests.{any_contained}
use Rattle.dcc_lift.proofs.NodeLaws.{node_in_has, node_in_holds}
use Rattle.dcc_lift.proofs.LeaderLaws.{place_first}
use Rattle.dcc_lift.proofs.ChainLaws.{joined, onward_tells, edge_to_joined, entry_begins}
use Rattle.dcc_lift.proofs.BlockLaws.{targets_at}
use Rattle.dcc_lift.proofs.TranslationLaws.{front_of, graph-blocks}
use Rattle.dcc_lifted_demand.specs.InstructionPoints.{advanced, points_from, is_ret, returns_in, count_at, begin_at}
use Rattle.dcc_lifted_demand.specs.InstructionPoints.{end_points, points_by, points_at, end_sites}
use Rattle.dcc_lifted_demand.specs.InstructionsHavePoints.{ComesToPoints, HasInstructions, InstructionsHavePoints}
use Rattle.dcc_lifted_demand.proofs.PointLaws as points
use Rattle.dcc_lifted_demand.proofs.PointLaws.{IsBefore}
use Rattle.dcc_lift.proofs.CallFree.{IsCallFree}
use Rattle.dcc_lifted_demand.proofs.CallLaws.{executes_call, call_first_of}
use Rattle.dcc_lifted_demand.proofs.BeginLaws as begins
use Rattle.dcc_lifted_demand.proofs.BeginLaws.{nodes, entry, Located, located}

-- Lists.

contains_map : {A B : Type 0} (f : A → B) (xs : List A) (x : A) → Contains xs x → Contains (map f xs) (f x)
contains_map f [] x c = absurd (Contains-none x c)
contains_map f (y ∷ xs) x c =
    Contains-cases y xs x (Contains (f y ∷ map f xs) (f x)) (λ e. subst (λ z. Contains (f y ∷ map f xs) z) (ap f e) (Contains-here (f y) (map f xs)))
    (λ later. Contains-later (f y) (map f xs) (f x) (contains_map f xs x later)) c

contained_map : {A B : Type 0} (f : A → B) (xs : List A) (y : B) → Contains (map f xs) y → (x : A) × Contains xs x × (f x ≡ y)
contained_map f [] y c = absurd (Contains-none y c)
contained_map {A} {B} f (x ∷ xs) y c =
    Contains-cases (f x) (map f xs) y ((z : A) × Contains (x ∷ xs) z × (f z ≡ y)) (λ e. (x, Contains-here x xs, e))
    (λ later. let found = contained_map f xs y later in (found.0, Contains-later x xs found.0 found.1, found.2)) c

nothing_before : {A : Type 0} (before : List A) (x : A) (after : List A) → [] ≡ before ++ (x ∷ after) → ⊥
nothing_before [] x after e = cc e
nothing_before (y ∷ before) x after e = cc e

-- Returns.

exit_goes_on : (test : Option Expr) (places : List ℕ) → is_return (Ends (exit_to test places)) ≡ false
exit_goes_on (Some test) [] = refl
exit_goes_on (Some test) (x ∷ []) = refl
exit_goes_on (Some test) (x ∷ y ∷ []) = refl
exit_goes_on (Some test) (x ∷ y ∷ z ∷ places) = refl
exit_goes_on None [] = refl
exit_goes_on None (x ∷ []) = refl
exit_goes_on None (x ∷ y ∷ places) = refl

pub exit_returns : (p : Procedure) (op : Op) (places : List ℕ) → is_return (Ends (exit_of p op places)) ≡ is_ret op
exit_returns p (Table r offset) places = refl
exit_returns p (Ret count) places = refl
exit_returns p op places = exit_goes_on (op_test op) places

pub a_ret : (op : Op) → is_ret op ≡ true → (count : ℕ) × (op ≡ Ret count)
a_ret (Ret count) e = (count, refl)
a_ret op e = absurd (true≢false (sym e))

module _ (scene : BlockSource) where
  -- The points as so many from where the instruction begins.

  points_none : (at : ℕ) → node_in (nodes scene) at ≡ None → points_at scene at ≡ []
  points_none at e = ap (λ o. points_by scene o at) e

  points_on : (at next : ℕ) (node : Node) → node_in (nodes scene) at ≡ Some node → onward (nodes scene) (entry scene) at ≡ Some next → points_at scene at ≡ points_from (begin_at scene at) (count_at scene at)
  points_on at next node e on =
      ap (λ o. points_by scene o at) e ∙ ap (λ o. points_from (begin_at scene at) (count_at scene at) ++ end_points scene o at) on
      ∙ append-nil (points_from (begin_at scene at) (count_at scene at))

  points_end : (at : ℕ) (node : Node) → node_in (nodes scene) at ≡ Some node → onward (nodes scene) (entry scene) at ≡ None
      → points_at scene at ≡ points_from (begin_at scene at) (count_at scene at) ++ (advanced (begin_at scene at) (count_at scene at) ∷ [])
  points_end at node e on =
      ap (λ o. points_by scene o at) e ∙ ap (λ o. points_from (begin_at scene at) (count_at scene at) ++ end_points scene o at) on

  points_last : (at : ℕ) (node : Node) → node_in (nodes scene) at ≡ Some node → onward (nodes scene) (entry scene) at ≡ None → points_at scene at ≡ points_from (begin_at scene at) (suc (count_at scene at))
  points_last at node e on = points_end at node e on ∙ sym (points.points_more (begin_at scene at) (count_at scene at))

  -- of an instruction, or of what is none
  data Shape (at : ℕ) : Type 0 where
    no_node : node_in (nodes scene) at ≡ None → Shape at
    goes_on : (next : ℕ) (node : Node) → node_in (nodes scene) at ≡ Some node → onward (nodes scene) (entry scene) at ≡ Some next → Shape at
    ends : (node : Node) → node_in (nodes scene) at ≡ Some node → onward (nodes scene) (entry scene) at ≡ None → Shape at

  shape : (at : ℕ) → Shape at
  shape at = by (node_in (nodes scene) at) refl (onward (nodes scene) (entry scene) at) refl
    where
      by : (o : Option Node) → node_in (nodes scene) at ≡ o → (p : Option ℕ) → onward (nodes scene) (entry scene) at ≡ p → Shape at
      by None e p f = Shape.no_node e
      by (Some node) e (Some next) f = Shape.goes_on next node e f
      by (Some node) e None f = Shape.ends node e f

  first_is : (a : Position) (n : ℕ) (first : Position) (others : List Position) → points_from a n ≡ first ∷ others → a ≡ first
  first_is a zero first others e = absurd (cc e)
  first_is a (suc n) first others e = cc e

  begins_there : (at : ℕ) (first : Position) (others : List Position) → points_at scene at ≡ first ∷ others → begin_at scene at ≡ first
  begins_there at first others e = elim (shape at) [
    | Shape.no_node f ↦ absurd (cc (e, points_none at f))
    | Shape.goes_on next node f on ↦ first_is (begin_at scene at) (count_at scene at) first others (sym (points_on at next node f on) ∙ e)
    | Shape.ends node f on ↦ first_is (begin_at scene at) (suc (count_at scene at)) first others (sym (points_last at node f on) ∙ e)
  ]

  entry_there : scene.before ≡ 0 → begin_at scene (entry scene) ≡ begin_of 0
  entry_there e =
      begins.begin_leads scene (entry scene) (entry_begins (nodes scene) (entry scene))
      ∙ ap begin_of (ap₂ (λ x y. x + y) e (place_first (nodes scene) (entry scene) (entry scene) refl))

  module _ (graph : Graph) (prelude : ℕ) (sound : AreSound (nodes scene) (entry scene) prelude) (front blocks : List Block)
      (front_is : length front ≡ scene.before) (are : AreBlocksAt scene (leaders (nodes scene) (entry scene)) blocks) (blocks_are : graph.blocks ≡ front ++ blocks)
      (front_free : (j : ℕ) (block : Block) → slice_get front j ≡ Some block → IsCallFree block.stmts) where
    there : (at : ℕ) (node : Node) → node_in (nodes scene) at ≡ Some node → Located scene graph prelude sound front blocks front_is are blocks_are at
    there at node e = located scene graph prelude sound front blocks front_is are blocks_are at (node_in_has (nodes scene) at node e)

    -- What stands there.

    statements : (at : ℕ) (node : Node) → node_in (nodes scene) at ≡ Some node → map (site_of graph) (points_from (begin_at scene at) (count_at scene at)) ≡ map Executes (stmts_at scene at)
    statements at node e = let l = there at node e in points.sites_from graph (begin_at scene at) (stmts_at scene at) (flat_map (stmts_at scene) l.rest) l.before

    block_ends : (at : ℕ) (node : Node) → node_in (nodes scene) at ≡ Some node → onward (nodes scene) (entry scene) at ≡ None → site_of graph (advanced (begin_at scene at) (count_at scene at)) ≡ Ends (exit_at scene at)
    block_ends at node e on = let l = there at node e in by l.rest l.chain l.before l.exit
      where
        by : (rest : List ℕ) → IsChain (nodes scene) (entry scene) at rest → IsBefore graph (begin_at scene at) (flat_map (stmts_at scene) (at ∷ rest))
            → (block_in graph (begin_at scene at).block).exit ≡ exit_at scene (last_of at rest) → site_of graph (advanced (begin_at scene at) (count_at scene at)) ≡ Ends (exit_at scene at)
        by [] chain before exit = points.site_here graph (advanced (begin_at scene at) (count_at scene at)) [] (points.is_before_later graph (begin_at scene at) (stmts_at scene at) [] before) ∙ ap Ends exit
        by (next ∷ rest) chain before exit = absurd (cc (on, chain.0))

    sites_there : (at : ℕ) (node : Node) → node_in (nodes scene) at ≡ Some node → map (site_of graph) (points_at scene at) ≡ map Executes (stmts_at scene at) ++ end_sites scene (onward (nodes scene) (entry scene) at) at
    sites_there at node e = elim (shape at) [
      | Shape.no_node f ↦ absurd (cc (e, f))
      | Shape.goes_on next node f on ↦
          ap (map (site_of graph)) (points_on at next node f on) ∙ statements at node f ∙ sym (append-nil (map Executes (stmts_at scene at)))
          ∙ ap (λ o. map Executes (stmts_at scene at) ++ end_sites scene o at) (sym on)
      | Shape.ends node f on ↦
          ap (map (site_of graph)) (points_end at node f on) ∙ map-append (site_of graph) (points_from (begin_at scene at) (count_at scene at)) (advanced (begin_at scene at) (count_at scene at) ∷ [])
          ∙ ap₂ (λ x y. x ++ (y ∷ [])) (statements at node f) (block_ends at node f on)
          ∙ ap (λ o. map Executes (stmts_at scene at) ++ end_sites scene o at) (sym on)
    ]

    few_ends : (o : Option ℕ) (at : ℕ) → length (end_sites scene o at) ≤ 1
    few_ends None at = omega arith
    few_ends (Some next) at = omega arith

    executes_next : (point next : Position) → (s : Stmt) × (site_of graph point ≡ Executes s) → next ≡ next_of point → (nexts_of (site_of graph point) point ≡ next ∷ []) × (is_return (site_of graph point) ≡ false)
    executes_next point next s e = (ap (λ x. nexts_of x point) s.1 ∙ ap (λ x. x ∷ []) (sym e), ap is_return s.1)

    within_there : (at : ℕ) (before after : List Position) (point next : Position) → points_at scene at ≡ before ++ (point ∷ next ∷ after)
        → (nexts_of (site_of graph point) point ≡ next ∷ []) × (is_return (site_of graph point) ≡ false)
    within_there at before after point next e = elim (shape at) [
      | Shape.no_node f ↦ absurd (nothing_before before point (next ∷ after) (sym (points_none at f) ∙ e))
      | Shape.goes_on to node f on ↦ executes_next point next
          (points.within_sites graph before point next after (stmts_at scene at) (end_sites scene (onward (nodes scene) (entry scene) at) at) (few_ends (onward (nodes scene) (entry scene) at) at) (ap (map (site_of graph)) (sym e) ∙ sites_there at node f))
          (points.consecutive (begin_at scene at) (count_at scene at) before point next after (sym (points_on at to node f on) ∙ e))
      | Shape.ends node f on ↦ executes_next point next
          (points.within_sites graph before point next after (stmts_at scene at) (end_sites scene (onward (nodes scene) (entry scene) at) at) (few_ends (onward (nodes scene) (entry scene) at) at) (ap (map (site_of graph)) (sym e) ∙ sites_there at node f))
          (points.consecutive (begin_at scene at) (suc (count_at scene at)) before point next after (sym (points_last at node f on) ∙ e))
    ]

    -- Where they lead.

    goes_in_block : (at next : ℕ) → onward (nodes scene) (entry scene) at ≡ Some next → begin_at scene next ≡ advanced (begin_at scene at) (count_at scene at)
    goes_in_block at next on =
        let tells = onward_tells (nodes scene) (entry scene) prelude sound at next on in
        let j = joined (nodes scene) (entry scene) next tells.joins in
        let from : j.from ≡ at = cc (j.edges, tells.edges) in
        begins.begin_joins scene next tells.joins j ∙ ap (λ x. advanced (begin_at scene x) (count_at scene x)) from

    only_successor : (at next : ℕ) → onward (nodes scene) (entry scene) at ≡ Some next → successors_in (node_in (nodes scene) at) ≡ next ∷ []
    only_successor at next on = (onward_tells (nodes scene) (entry scene) prelude sound at next on).succ

    -- after the end of a block others begin
    begins_block : (at next : ℕ) → onward (nodes scene) (entry scene) at ≡ None → Contains (successors_in (node_in (nodes scene) at)) next → begin_at scene next ≡ begin_of (block_place scene next)
    begins_block at next on c = elim (decided (joins (nodes scene) (entry scene) next)) [
      | inl t ↦ absurd (cc (on, edge_to_joined (nodes scene) (entry scene) prelude sound at next t (any_contained (successors_in (node_in (nodes scene) at)) next c)))
      | inr f ↦ begins.begin_leads scene next f
    ]

    nexts_at_end : (at : ℕ) (point : Position) → site_of graph point ≡ Ends (exit_at scene at) → nexts_of (site_of graph point) point ≡ map begin_of (map (block_place scene) (successors_in (node_in (nodes scene) at)))
    nexts_at_end at point e = ap (λ x. nexts_of x point) e ∙ ap (map begin_of) (targets_at scene prelude sound at)

    goes_there : (at next : ℕ) → Contains (successors_in (node_in (nodes scene) at)) next → Walks (procedure_of graph) (begin_at scene at) (points_at scene at) (begin_at scene next)
    goes_there at next c = elim (shape at) [
      | Shape.no_node f ↦ absurd (Contains-none next (subst (λ o. Contains (successors_in o) next) f c))
      | Shape.goes_on to node f on ↦
          let same : to ≡ next = only (subst (λ xs. Contains xs next) (only_successor at to on) c) in
          subst (λ ps. Walks (procedure_of graph) (begin_at scene at) ps (begin_at scene next)) (append-nil (points_from (begin_at scene at) (count_at scene at)) ∙ sym (points_on at to node f on))
          (points.walk_on graph (begin_at scene at) (stmts_at scene at) [] (begin_at scene next) (statements at node f)
          (subst (λ x. Walks (procedure_of graph) (advanced (begin_at scene at) (count_at scene at)) [] x) (sym (goes_in_block at to on) ∙ ap (begin_at scene) same) Walks.stands))
      | Shape.ends node f on ↦
          let end = advanced (begin_at scene at) (count_at scene at) in
          let edge = contains_map begin_of (map (block_place scene) (successors_in (node_in (nodes scene) at))) (block_place scene next) (contains_map (block_place scene) (successors_in (node_in (nodes scene) at)) next c) in
          subst (λ ps. Walks (procedure_of graph) (begin_at scene at) ps (begin_at scene next)) (sym (points_end at node f on))
          (points.walk_on graph (begin_at scene at) (stmts_at scene at) (end ∷ []) (begin_at scene next) (statements at node f)
          (Walks.goes (subst (λ x. Contains (nexts_of (site_of graph end) end) x) (sym (begins_block at next on c)) (subst (λ xs. Contains xs (begin_of (block_place scene next))) (sym (nexts_at_end at end (block_ends at node f on))) edge)) Walks.stands))
    ]

    last_executes : (at next : ℕ) (node : Node) → node_in (nodes scene) at ≡ Some node → onward (nodes scene) (entry scene) at ≡ Some next → (before : List Position) (point : Position) → points_at scene at ≡ before ++ (point ∷ [])
        → (s : Stmt) × (site_of graph point ≡ Executes s)
    last_executes at next node f on before point e =
        points.last_executes graph before point (stmts_at scene at) (ap (map (site_of graph)) (sym e) ∙ sites_there at node f ∙ ap (λ o. map Executes (stmts_at scene at) ++ end_sites scene o at) on)

    last_ends : (at : ℕ) (node : Node) → node_in (nodes scene) at ≡ Some node → onward (nodes scene) (entry scene) at ≡ None → (before : List Position) (point : Position) → points_at scene at ≡ before ++ (point ∷ []) → site_of graph point ≡ Ends (exit_at scene at)
    last_ends at node f on before point e =
        points.last_ends graph before point (stmts_at scene at) (exit_at scene at) (ap (map (site_of graph)) (sym e) ∙ sites_there at node f ∙ ap (λ o. map Executes (stmts_at scene at) ++ end_sites scene o at) on)

    comes_there : (at : ℕ) (before : List Position) (point to : Position) → points_at scene at ≡ before ++ (point ∷ []) → Contains (nexts_of (site_of graph point) point) to
        → (next : ℕ) × Contains (successors_in (node_in (nodes scene) at)) next × (to ≡ begin_at scene next)
    comes_there at before point to e c = elim (shape at) [
      | Shape.no_node f ↦ absurd (nothing_before before point [] (sym (points_none at f) ∙ e))
      | Shape.goes_on next node f on ↦
          let s = last_executes at next node f on before point e in
          let one : next_of point ≡ to = only (subst (λ x. Contains (nexts_of x point) to) s.1 c) in (
            next,
            subst (λ xs. Contains xs next) (sym (only_successor at next on)) itself,
            sym one ∙ points.after_last (begin_at scene at) (count_at scene at) before point (sym (points_on at next node f on) ∙ e) ∙ sym (goes_in_block at next on),
          )
      | Shape.ends node f on ↦
          let edge = subst (λ xs. Contains xs to) (nexts_at_end at point (last_ends at node f on before point e)) c in
          let block = contained_map begin_of (map (block_place scene) (successors_in (node_in (nodes scene) at))) to edge in
          let next = contained_map (block_place scene) (successors_in (node_in (nodes scene) at)) block.0 block.1 in
          (next.0, next.1, sym block.2 ∙ ap begin_of (sym next.2) ∙ sym (begins_block at next.0 on next.1))
    ]

    goes_on_as : (at : ℕ) (node : Node) → node_in (nodes scene) at ≡ Some node → GoesOnAt node.instr.op node.succ.items
    goes_on_as at node e = node_in_holds (λ (found : ℕ × Node). GoesOnAt found.1.instr.op found.1.succ.items) (nodes scene) at node sound.agree e

    -- a RET goes on nowhere
    ret_ends : (at : ℕ) (node : Node) → node_in (nodes scene) at ≡ Some node → is_ret node.instr.op ≡ true → successors_in (node_in (nodes scene) at) ≡ []
    ret_ends at node e t =
        let op = a_ret node.instr.op t in
        ap successors_in e ∙ subst (λ x. GoesOnAt x node.succ.items) op.1 (goes_on_as at node e)

    returns_there : (at : ℕ) (before : List Position) (point : Position) → points_at scene at ≡ before ++ (point ∷ []) → is_return (site_of graph point) ≡ returns_in (node_in (nodes scene) at)
    returns_there at before point e = elim (shape at) [
      | Shape.no_node f ↦ absurd (nothing_before before point [] (sym (points_none at f) ∙ e))
      | Shape.goes_on next node f on ↦ ap is_return (last_executes at next node f on before point e).1 ∙ sym (ap returns_in f ∙ never next node f on)
      | Shape.ends node f on ↦ ap is_return (last_ends at node f on before point e) ∙ ap (λ o. is_return (Ends (node_exit scene o))) f
          ∙ exit_returns scene.procedure node.instr.op (map (block_place scene) node.succ.items) ∙ sym (ap returns_in f)
    ]
      where
        never : (next : ℕ) (node : Node) → node_in (nodes scene) at ≡ Some node → onward (nodes scene) (entry scene) at ≡ Some next → is_ret node.instr.op ≡ false
        never next node f on = elim (decided (is_ret node.instr.op)) [
          | inl t ↦ absurd (cc (only_successor at next on, ret_ends at node f t))
          | inr n ↦ n
        ]

    ret_stmts : (height : Option ℕ) (node : Node) → is_ret node.instr.op ≡ true → node_stmts scene height (Some node) ≡ []
    ret_stmts None node t = refl
    ret_stmts (Some height) node t = let op = a_ret node.instr.op t in by op.0 op.1
      where
        by : (count : ℕ) → node.instr.op ≡ Ret count → node_stmts scene (Some height) (Some node) ≡ []
        by count e = ap (λ op. if moves_frame op then [] else working_stmts scene.cpu scene.procedures scene.procedure height op node.number) e

    alone_there : (at : ℕ) → returns_in (node_in (nodes scene) at) ≡ true → (point : Position) × (points_at scene at ≡ point ∷ [])
    alone_there at t = elim (shape at) [
      | Shape.no_node f ↦ absurd (true≢false (sym t ∙ ap returns_in f))
      | Shape.goes_on next node f on ↦ absurd (cc (only_successor at next on, ret_ends at node f (sym (ap returns_in f) ∙ t)))
      | Shape.ends node f on ↦
          let none : stmts_at scene at ≡ [] = ap (node_stmts scene (height_in scene.heights at)) f ∙ ret_stmts (height_in scene.heights at) node (sym (ap returns_in f) ∙ t) in (
            advanced (begin_at scene at) (count_at scene at),
            points_end at node f on ∙ ap (λ s. points_from (begin_at scene at) (length s) ++ (advanced (begin_at scene at) (count_at scene at) ∷ [])) none,
          )
    ]

    -- Each comes to points.

    settle : (rest : List ℕ) (at : ℕ) (node : Node) → node_in (nodes scene) at ≡ Some node → IsChain (nodes scene) (entry scene) at rest → ComesToPoints scene at
    settle [] at node e chain = ComesToPoints.by_points (points_last at node e chain)
    settle (next ∷ rest) at node e chain =
        let found = (onward_tells (nodes scene) (entry scene) prelude sound at next chain.0).node in
        by (stmts_at scene at) refl (settle rest next found.0 found.1 chain.1)
      where
        by : (stmts : List Stmt) → stmts_at scene at ≡ stmts → ComesToPoints scene next → ComesToPoints scene at
        by [] s later = ComesToPoints.by_next (points_on at next node e chain.0 ∙ ap (λ x. points_from (begin_at scene at) (length x)) s)
            (subst (λ xs. Contains xs next) (sym (only_successor at next chain.0)) itself) later
        by (x ∷ stmts) s later = ComesToPoints.by_points (points_on at next node e chain.0 ∙ ap (λ x. points_from (begin_at scene at) (length x)) s)

    settled_there : (at : ℕ) (node : Node) → node_in (nodes scene) at ≡ Some node → ComesToPoints scene at
    settled_there at node e = let l = there at node e in settle l.rest at node e l.chain

    calls_there : (point : Position) (callee : ℕ) → ((procedure_of graph).action point).callee ≡ Some callee → (at : ℕ) × (others : List Position) × (points_at scene at ≡ point ∷ others)
    calls_there point callee e =
        let s = executes_call graph.pushed (site_of graph point) callee e in
        let found = call_first_of scene graph prelude sound front blocks front_is are blocks_are front_free point s.0 s.1 s.2 in
        (found.at, found.others, found.points_are)

    pub has_instructions : HasInstructions scene graph
    has_instructions = record {
      sites = sites_there;
      begins = begins_there;
      within = within_there;
      goes = goes_there;
      comes = comes_there;
      returns = returns_there;
      alone = alone_there;
      settled = settled_there;
      calls = calls_there;
      entry = entry_there;
    }

front_length : {A : Type 0} (x : A) (n : ℕ) → n ≤ 1 → length (if n == 0 then [] else x ∷ []) ≡ n
front_length x zero few = refl
front_length x (suc zero) few = refl
front_length x (suc (suc n)) few = absurd (omega (arith, few))

-- the prelude's block calls nothing
front_free : (image : Image) (layout : Layout) (scene : BlockSource) (b : Bool) (j : ℕ) (block : Block)
    → slice_get (if b then [] else prelude_block image layout scene ∷ []) j ≡ Some block → IsCallFree block.stmts
front_free image layout scene true j block e = absurd (cc e)
front_free image layout scene false zero block e =
    let same : prelude_block image layout scene ≡ block = cc e in
    subst (λ (b : Block). IsCallFree b.stmts) same refl
front_free image layout scene false (suc j) block e = absurd (cc e)

pub instructions-have_points : InstructionsHavePoints
instructions-have_points image layout scene graph is sound few =
    has_instructions scene graph image.ip sound (front_of image layout scene) is.blocks (front_length (prelude_block image layout scene) scene.before few) is.blocks_are
    (ap (λ (g : Graph). g.blocks) is.graph_is ∙ graph-blocks image layout scene is.blocks)
    (front_free image layout scene (scene.before == 0))
