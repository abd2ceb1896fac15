-- A Call of a lifted graph is the first statement of a CALL, whose block begins with it.
use Rattle.std.proofs.Common.{◌≡◌, ℕ, zero, suc, ◌+◌, Bool, true, false, not, ◌&&◌, ◌==◌, if◌then◌else◌, ◌⊎◌, inl, inr, List, [], ◌∷◌, ◌++◌, length, map, flat_map, Option, Some, None, refl, sym, ap, ap₂, ◌∙◌, subst, true≢false, eqb-true, eq-eqb, arith}
use Rattle.std.specs.Prelude.{slice_get, filter, unwrap_or}
use Rattle.std.specs.List.{list_any}
use Rattle.std.proofs.lemmas.Option.{unwrap_or-slice_get}
use Rattle.std.proofs.lemmas.List.{append-nil}
use Rattle.dcc_prog.specs.declared.procedure.Node.{Node}
use Rattle.dcc_machine.specs.declared.instr.Op.{Op}
use Rattle.dcc_machine.specs.declared.instr.Op.TheVariants.{Call as CallOp}
use Rattle.dcc_ir.specs.Tree.{Stmt, Call, Exit, Block, Graph}
use Rattle.dcc_ir.specs.Live.{block_in}
use Rattle.dcc_ir.specs.Run.{is_call, no_block}
use Rattle.dcc_ir.proofs.PathLaws.{decided, clash}
use Rattle.dcc_sums.specs.Points.{Position, Site, Executes, Ends, Nowhere, site_at, next_of, site_of}
use Rattle.dcc_sums.specs.Instance as sums
use Rattle.dcc_simulation.specs.Procedures.{Procedure, procedure_at, given_back}
use Rattle.dcc_simulation.specs.Statements.{moves_frame, working_stmts, calling, results_of, arguments_of}
use Rattle.dcc_simulation.specs.Statements.{taking_all_back}
use Rattle.dcc_lift.specs.Blocks.{Nodes, node_in, calls_in, is_call as is_call_op, joins, onward, leaders, place_in, BlockSource, nodes_in, entry_in, height_in, node_stmts, stmts_at, IsBlockAt, AreBlocksAt}
use Rattle.dcc_lift.specs.Sound.{AreSound}
use Rattle.dcc_lift.proofs.ListTests.{and_false, or_here, or_there, same_number, any_filter, any_map}
use Rattle.dcc_lift.proofs.NodeLaws as nodes
use Rattle.dcc_lift.proofs.ChainLaws.{call_ends, leader_begins}
use Rattle.dcc_lift.proofs.CallFree.{IsCallFree, back-free}
use Rattle.dcc_lift.proofs.LocatedBlocks.{chain-free}
use Rattle.dcc_lifted_demand.specs.InstructionPoints.{points_from, begin_at, points_by, points_at, end_points}
use Rattle.dcc_lifted_demand.proofs.BeginLaws.{begin_leads}

-- Lists without repetition.

abbrev Differ : List ℕ → Type 0
Differ [] = Unit {0}
Differ (x ∷ xs) = (list_any (λ y. y == x) xs ≡ false) × Differ xs

differ_filter : (keep : ℕ → Bool) (xs : List ℕ) → Differ xs → Differ (filter keep xs)
differ_filter keep [] d = tt
differ_filter keep (x ∷ xs) d = by (keep x) (differ_filter keep xs d.1)
  where
    by : (b : Bool) → Differ (filter keep xs) → Differ (if b then x ∷ filter keep xs else filter keep xs)
    by true rest = (any_filter keep x xs ∙ ap (λ b. b && keep x) d.0, rest)
    by false rest = rest

differ_nodes : (ns : Nodes) → nodes.Differ ns → Differ (map (λ found. found.0) ns)
differ_nodes [] d = tt
differ_nodes (found ∷ ns) d = (any_map (λ n. n == found.0) (λ (f : ℕ × Node). f.0) ns ∙ d.0, differ_nodes ns d.1)

-- Which block is at a place.

record Slot (scene : BlockSource) (places : List ℕ) (slot : ℕ) (block : Block) : Type 0 where
  place_is : place_in places block.at ≡ slot
  listed : list_any (λ x. x == block.at) places ≡ true
  is_block : IsBlockAt scene block.at block

slot_is : (scene : BlockSource) (places : List ℕ) (blocks : List Block) (slot : ℕ) (block : Block) → AreBlocksAt scene places blocks → Differ places → slice_get blocks slot ≡ Some block → Slot scene places slot block
slot_is scene places [] slot block are d e = absurd (cc e)
slot_is scene [] (first ∷ blocks) slot block are d e = absurd are
slot_is scene (at ∷ places) (first ∷ blocks) zero block are d e =
    let same : first ≡ block = cc e in
    subst (Slot scene (at ∷ places) zero) same (record {
      place_is = ap (λ b. if b then 0 else suc (place_in places first.at)) (eq-eqb at first.at (sym are.0.at_is));
      listed = or_here (at == first.at) (list_any (λ x. x == first.at) places) (eq-eqb at first.at (sym are.0.at_is));
      is_block = subst (λ n. IsBlockAt scene n first) (sym are.0.at_is) are.0;
    })
slot_is scene (at ∷ places) (first ∷ blocks) (suc slot) block are d e = by (at == block.at) refl (slot_is scene places blocks slot block are.1 d.1 e)
  where
    by : (b : Bool) → (at == block.at) ≡ b → Slot scene places slot block → Slot scene (at ∷ places) (suc slot) block
    by true t rest = absurd (true≢false (sym (subst (λ n. list_any (λ x. x == n) places ≡ true) (sym (eqb-true at block.at t)) rest.listed) ∙ d.0))
    by false n rest = record {
      place_is = ap (λ b. if b then 0 else suc (place_in places block.at)) n ∙ ap suc rest.place_is;
      listed = or_there (at == block.at) (list_any (λ x. x == block.at) places) rest.listed;
      is_block = rest.is_block;
    }

either_list : {X : Type 0} (front rest : List X) (k : ℕ) (x : X) → slice_get (front ++ rest) k ≡ Some x
    → ((j : ℕ) × (slice_get front j ≡ Some x)) ⊎ ((j : ℕ) × (k ≡ length front + j) × (slice_get rest j ≡ Some x))
either_list [] rest k x e = inr (k, omega arith, e)
either_list (y ∷ front) rest zero x e = inl (0, e)
either_list (y ∷ front) rest (suc k) x e = elim (either_list front rest k x e) [
  | inl there ↦ inl (suc there.0, there.1)
  | inr there ↦ inr (there.0, more there.0 there.1, there.2)
]
  where
    more : (j : ℕ) → k ≡ length front + j → suc k ≡ length (y ∷ front) + j
    more j e = omega (arith, e)

-- What calls.

site_calls : (n : ℕ) (stmts : List Stmt) (exit : Exit) (s : Stmt) → site_at n stmts exit ≡ Executes s → is_call s ≡ true → list_any is_call stmts ≡ true
site_calls zero [] exit s e c = absurd (cc e)
site_calls zero (t ∷ stmts) exit s e c = let same : t ≡ s = cc e in or_here (is_call t) (list_any is_call stmts) (ap is_call same ∙ c)
site_calls (suc n) [] exit s e c = absurd (cc e)
site_calls (suc n) (t ∷ stmts) exit s e c = or_there (is_call t) (list_any is_call stmts) (site_calls n stmts exit s e c)

stmt_calls : (s : Stmt) (callee : ℕ) → sums.callee_of s ≡ Some callee → is_call s ≡ true
stmt_calls (Call results entry arguments depth) callee e = refl
stmt_calls s callee e = absurd (cc e)

pub executes_call : (pushed : ℕ) (site : Site) (callee : ℕ) → (sums.action_at pushed site).callee ≡ Some callee → (s : Stmt) × (site ≡ Executes s) × (is_call s ≡ true)
executes_call pushed (Executes s) callee e = (s, refl, stmt_calls s callee e)
executes_call pushed (Ends exit) callee e = absurd (cc e)
executes_call pushed Nowhere callee e = absurd (cc e)

call_op : (op : Op) → is_call_op op ≡ true → (target : ℕ) × (op ≡ CallOp target)
call_op (CallOp target) e = (target, refl)
call_op op e = absurd (true≢false (sym e))

module _ (scene : BlockSource) (graph : Graph) (prelude : ℕ) (sound : AreSound (nodes_in scene) (entry_in scene) prelude) (front blocks : List Block)
    (front_is : length front ≡ scene.before) (are : AreBlocksAt scene (leaders (nodes_in scene) (entry_in scene)) blocks) (blocks_are : graph.blocks ≡ front ++ blocks)
    (front_free : (j : ℕ) (block : Block) → slice_get front j ≡ Some block → IsCallFree block.stmts) where
  leaders_differ : Differ (leaders (nodes_in scene) (entry_in scene))
  leaders_differ = (
    any_filter (λ at. not (at == entry_in scene) && not (joins (nodes_in scene) (entry_in scene) at)) (entry_in scene) (map (λ found. found.0) (nodes_in scene))
        ∙ ap (λ b. list_any (λ x. x == entry_in scene) (map (λ found. found.0) (nodes_in scene)) && (not b && not (joins (nodes_in scene) (entry_in scene) (entry_in scene)))) (same_number (entry_in scene))
        ∙ and_false (list_any (λ x. x == entry_in scene) (map (λ found. found.0) (nodes_in scene))),
    differ_filter (λ at. not (at == entry_in scene) && not (joins (nodes_in scene) (entry_in scene) at)) (map (λ found. found.0) (nodes_in scene))
        (differ_nodes (nodes_in scene) (nodes.ascending_differ (nodes_in scene) sound.ascending)),
  )

  -- the first point of the CALL
  pub record FirstOf (point : Position) : Type 0 where
    pub at : ℕ
    pub others : List Position
    pub points_are : points_at scene at ≡ point ∷ others

  -- where the statements of a CALL stand
  at_call : (point : Position) (at : ℕ) (node : Node) (first : Stmt) (rest : List Stmt) → node_in (nodes_in scene) at ≡ Some node → stmts_at scene at ≡ first ∷ rest → begin_at scene at ≡ point → FirstOf point
  at_call point at node first rest e stmts begin = record {
    at = at;
    others = points_from (next_of (begin_at scene at)) (length rest) ++ end_points scene (onward (nodes_in scene) (entry_in scene) at) at;
    points_are =
        ap (λ o. points_by scene o at) e
        ∙ ap (λ xs. points_from (begin_at scene at) (length xs) ++ end_points scene (onward (nodes_in scene) (entry_in scene) at) at) stmts
        ∙ ap (λ a. a ∷ (points_from (next_of (begin_at scene at)) (length rest) ++ end_points scene (onward (nodes_in scene) (entry_in scene) at) at)) begin;
  }

  -- a Call among the statements of a CALL is the first one
  call_first : (n : ℕ) (exit : Exit) (s : Stmt) (caller : Procedure) (height : ℕ) (callee : Option Procedure) → site_at n (calling caller height callee) exit ≡ Executes s → is_call s ≡ true
      → (n ≡ 0) × (first : Stmt) × (rest : List Stmt) × (calling caller height callee ≡ first ∷ rest)
  call_first n exit s caller height None e c = absurd (true≢false (sym (site_calls n [] exit s e c)))
  call_first zero exit s caller height (Some callee) e c =
      (refl, Call (results_of callee) callee.proc.entry (arguments_of caller height callee) (height + 2), taking_all_back caller height 0 (given_back callee), refl)
  call_first (suc n) exit s caller height (Some callee) e c =
      absurd (clash (site_calls n (taking_all_back caller height 0 (given_back callee)) exit s e c) (back-free caller height 0 (given_back callee)))

  -- the statements of a node that is a CALL begin with the Call
  called_stmts : (height : Option ℕ) (node : Node) (target n : ℕ) (exit : Exit) (s : Stmt) → node.instr.op ≡ CallOp target → site_at n (node_stmts scene height (Some node)) exit ≡ Executes s → is_call s ≡ true
      → (n ≡ 0) × (first : Stmt) × (rest : List Stmt) × (node_stmts scene height (Some node) ≡ first ∷ rest)
  called_stmts None node target n exit s op e c = absurd (true≢false (sym (site_calls n [] exit s e c)))
  called_stmts (Some height) node target n exit s op e c =
      let stmts : node_stmts scene (Some height) (Some node) ≡ calling scene.procedure height (procedure_at scene.procedures target) =
      ap (λ o. if moves_frame o then [] else working_stmts scene.cpu scene.procedures scene.procedure height o node.number) op in
      let found = call_first n exit s scene.procedure height (procedure_at scene.procedures target) (subst (λ xs. site_at n xs exit ≡ Executes s) stmts e) c in
      (found.0, found.1, found.2, stmts ∙ found.3)

  own_call : (point : Position) (slot : ℕ) (block : Block) (s : Stmt) → point.block ≡ length front + slot → Slot scene (leaders (nodes_in scene) (entry_in scene)) slot block
      → site_at point.done block.stmts block.exit ≡ Executes s → is_call s ≡ true → FirstOf point
  own_call point slot block s where_is there e c = by (node_in (nodes_in scene) block.at) refl (decided (calls_in (node_in (nodes_in scene) block.at)))
    where
      begin : (n : ℕ) → n ≡ 0 → point.done ≡ n → begin_at scene block.at ≡ point
      begin n zero_is done =
          begin_leads scene block.at (leader_begins (nodes_in scene) (entry_in scene) prelude sound block.at there.listed)
          ∙ ap₂ (λ x y. record { block = x; done = y }) (ap₂ (λ x y. x + y) (sym front_is) there.place_is ∙ sym where_is) (sym (done ∙ zero_is))

      alone : calls_in (node_in (nodes_in scene) block.at) ≡ true → block.stmts ≡ stmts_at scene block.at
      alone call =
          there.is_block.stmts_are
          ∙ ap (λ rest. flat_map (stmts_at scene) (block.at ∷ rest)) (call_ends (nodes_in scene) (entry_in scene) prelude sound block.at call there.is_block.rest there.is_block.chain)
          ∙ append-nil (stmts_at scene block.at)

      by : (o : Option Node) → node_in (nodes_in scene) block.at ≡ o → (calls_in (node_in (nodes_in scene) block.at) ≡ true) ⊎ (calls_in (node_in (nodes_in scene) block.at) ≡ false) → FirstOf point
      by o f (inr none) =
          absurd (clash (site_calls point.done block.stmts block.exit s e c)
          (ap (list_any is_call) there.is_block.stmts_are ∙ chain-free scene prelude sound there.is_block.rest block.at none there.is_block.chain))
      by None f (inl call) = absurd (true≢false (sym call ∙ ap calls_in f))
      by (Some node) f (inl call) =
          let op = call_op node.instr.op (sym (ap calls_in f) ∙ call) in
          let stmts : stmts_at scene block.at ≡ node_stmts scene (height_in scene.heights block.at) (Some node) = ap (node_stmts scene (height_in scene.heights block.at)) f in
          let found = called_stmts (height_in scene.heights block.at) node op.0 point.done block.exit s op.1 (subst (λ xs. site_at point.done xs block.exit ≡ Executes s) (alone call ∙ stmts) e) c in
          at_call point block.at node found.1 found.2 f (stmts ∙ found.3) (begin point.done found.0 refl)

  pub call_first_of : (point : Position) (s : Stmt) → site_of graph point ≡ Executes s → is_call s ≡ true → FirstOf point
  call_first_of point s e c = by (slice_get graph.blocks point.block) refl
    where
      there : (o : Option Block) → slice_get graph.blocks point.block ≡ o → block_in graph point.block ≡ unwrap_or o no_block
      there o f = sym (unwrap_or-slice_get graph.blocks point.block no_block) ∙ ap (λ x. unwrap_or x no_block) f

      by : (o : Option Block) → slice_get graph.blocks point.block ≡ o → FirstOf point
      by None f = absurd (true≢false (sym (site_calls point.done [] no_block.exit s (subst (λ (b : Block). site_at point.done b.stmts b.exit ≡ Executes s) (there None f) e) c)))
      by (Some block) f =
          let here = subst (λ (b : Block). site_at point.done b.stmts b.exit ≡ Executes s) (there (Some block) f) e in
          elim (either_list front blocks point.block block (ap (λ xs. slice_get xs point.block) (sym blocks_are) ∙ f)) [
            | inl first ↦ absurd (clash (site_calls point.done block.stmts block.exit s here c) (front_free first.0 block first.1))
            | inr own ↦ own_call point own.0 block s own.1 (slot_is scene (leaders (nodes_in scene) (entry_in scene)) blocks own.0 block are leaders_differ own.2) here c
          ]
