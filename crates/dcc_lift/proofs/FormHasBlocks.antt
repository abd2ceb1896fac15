-- The blocks of a translated program contract the flow graphs of its procedures, and a CALL stands alone in its block.
use Rattle.std.proofs.Common.{◌≡◌, ◌≢◌, ◌⊎◌, inl, inr, ℕ, zero, suc, Bool, true, false, not, ◌&&◌, ◌||◌, ◌==◌, if◌then◌else◌, List, [], ◌∷◌, ◌++◌, map, Some, Contains, refl, sym, ap, ◌∙◌, subst, eqb-true, eq-eqb, ne_eqb, arith}
use Rattle.std.specs.List.{list_any}
use Rattle.std.proofs.lemmas.List.Elements.{All-weaker, All-contains, All-contains_itself}
use Rattle.std.proofs.lemmas.Option.{slice_get-get_or}
use Rattle.dcc_machine.specs.declared.image.Image.{Image}
use Rattle.dcc_prog.specs.declared.procedure.Node.{Node}
use Rattle.dcc_prog.specs.declared.procedure.Proc.{Proc}
use Rattle.dcc_prog.specs.declared.frame.Program.{Program as Analysed}
use Rattle.dcc_machine.specs.declared.instr.Op.TheVariants.{Call as CallOp}
use Rattle.dcc_machine.specs.Successors.{next_of, op_successors}
use Rattle.dcc_prog.specs.Trail.{IsEntry, known_ah, targets_of}
use Rattle.dcc_ir.specs.Tree.{Goto, Block, Graph, Program}
use Rattle.dcc_ir.specs.WellFormed.{all_differ}
use Rattle.dcc_ir.specs.Flow.{first_address, flow_of, graph_or_none, flow_at, has_edge, IsContraction, HaveOneEdge}
use Rattle.dcc_ir.proofs.PathLaws.{decided, clash}
use Rattle.dcc_simulation.proofs.FoundProcedures.{listed}
use Rattle.dcc_lift.specs.Blocks.{Nodes, node_in, successors_in, is_call, calls_in, joins, leaders, BlockSource, nodes_in, entry_in, block_place, AreBlocksAt}
use Rattle.dcc_lift.specs.Sound.{AreSound}
use Rattle.dcc_lift.specs.Translated.{setting, IsTranslated}
use Rattle.dcc_lift.specs.Translation.{prelude_block}
use Rattle.dcc_lift.specs.Lifted.{procedure_flow, after_prelude, IsBlockOfCall}
use Rattle.dcc_lift.specs.Lifted.{HasBlocksOf, AllHaveBlocks}
use Rattle.dcc_lift.proofs.ListTests.{and_left, and_right, or_none, same_number}
use Rattle.dcc_lift.proofs.NodeLaws.{node_in_has, node_in_found, nodes_differ, successor_is_node}
use Rattle.dcc_lift.proofs.ChainLaws.{is_leader, has_successor, joined, joined_from, begins_leader}
use Rattle.dcc_lift.proofs.BlockLaws.{entry_edge}
use Rattle.dcc_lift.proofs.FormScenes.{lifted, graph_of_entry, instruction-at}
use Rattle.dcc_lift.proofs.LocatedBlocks.{located_at, scene_at, before_is, sound_at, blocks-are}
use Rattle.dcc_lift.proofs.FormAddresses.{no-true}
use Rattle.dcc_lift.proofs.FormBlocks.{goes-on}
use Rattle.dcc_lift.proofs.FormDrawn.{all-of-two, ordered-entries}
use Rattle.dcc_lift.proofs.FormContraction.{begun_flow, AreBefore, contraction, one_edge, leader_there}

-- Procedures by their entries.

abbrev entries_in : List Proc → List ℕ
entries_in procs = map (λ (q : Proc). q.entry) procs

first-or-later : {X : Type 0} (x y : X) (xs : List X) → Contains (x ∷ xs) y → (x ≡ y) ⊎ Contains xs y
first-or-later x y xs (zero, inside, same) = inl same
first-or-later x y xs (suc k, inside, same) = inr (k, omega (arith, inside), same)

later-one : {X : Type 0} (x y : X) (xs : List X) → Contains xs y → Contains (x ∷ xs) y
later-one x y xs (k, inside, same) = (suc k, omega (arith, inside), same)

entry-among : (procs : List Proc) (q : Proc) (n : ℕ) → Contains procs q → n ≡ q.entry
    → list_any (λ m. n == m) (entries_in procs) ≡ true
entry-among [] q n (k, inside, same) e = absurd (omega (arith, inside))
entry-among (proc ∷ procs) q n has e =
    elim (first-or-later proc q procs has) [
      | inl same ↦
          ap (λ b. b || list_any (λ m. n == m) (entries_in procs))
          (eq-eqb n proc.entry (e ∙ sym (ap (λ (r : Proc). r.entry) same)))
      | inr later ↦
          or-there (n == proc.entry) (list_any (λ m. n == m) (entries_in procs)) (entry-among procs q n later e)
    ]
  where
    or-there : (a b : Bool) → b ≡ true → (a || b) ≡ true
    or-there true b t = refl
    or-there false b t = t

-- two of them with one entry are one
one-proc : (procs : List Proc) (q r : Proc) → all_differ (entries_in procs) ≡ true → Contains procs q
    → Contains procs r → q.entry ≡ r.entry → q ≡ r
one-proc [] q r differ (k, inside, same) other e = absurd (omega (arith, inside))
one-proc (proc ∷ procs) q r differ one other e =
    by (first-or-later proc q procs one) (first-or-later proc r procs other)
    (λ here there. one-proc procs q r
    (and_right (not (list_any (λ m. proc.entry == m) (entries_in procs))) (all_differ (entries_in procs)) differ) here
    there e)
  where
    apart : list_any (λ m. proc.entry == m) (entries_in procs) ≡ false
    apart =
        no-true (list_any (λ m. proc.entry == m) (entries_in procs))
        (and_left (not (list_any (λ m. proc.entry == m) (entries_in procs))) (all_differ (entries_in procs)) differ)

    by : (proc ≡ q) ⊎ Contains procs q → (proc ≡ r) ⊎ Contains procs r
        → (Contains procs q → Contains procs r → q ≡ r) → q ≡ r
    by (inl here) (inl there) later = sym here ∙ there
    by (inl here) (inr there) later =
        absurd (clash (entry-among procs r proc.entry there (ap (λ (x : Proc). x.entry) here ∙ e)) apart)
    by (inr here) (inl there) later =
        absurd (clash (entry-among procs q proc.entry here (ap (λ (x : Proc). x.entry) there ∙ sym e)) apart)
    by (inr here) (inr there) later = later here there

module _ (image : Image) (program : Analysed) (p : Program) (is : IsTranslated image program p) where
  open program use {layout}

  module _ (entry : ℕ) (is_entry : IsEntry image layout entry) where
    abbrev scene : BlockSource
    scene = scene_at image program p is entry is_entry

    abbrev nodes : Nodes
    nodes = nodes_in scene

    abbrev proc : Proc
    proc = (located_at image program p is entry is_entry).proc

    abbrev own : List Block
    own = (located_at image program p is entry is_entry).is_graph.blocks

    abbrev graph : Graph
    graph = graph_of_entry image program p is entry is_entry

    abbrev begun : Bool
    begun = layout.start_ip == entry

    abbrev sound : AreSound nodes (entry_in scene) image.ip
    sound = sound_at image program p is entry is_entry

    entry-is : entry_in scene ≡ entry
    entry-is = (located_at image program p is entry is_entry).entry_is

    are : AreBlocksAt scene (leaders nodes (entry_in scene)) own
    are = (located_at image program p is entry is_entry).is_graph.blocks_are

    begins-at : (blocks : List Block) → AreBlocksAt scene (leaders nodes (entry_in scene)) blocks
        → first_address blocks ≡ entry_in scene
    begins-at [] there = absurd there
    begins-at (block ∷ blocks) there = there.0.at_is

    -- the blocks before those of the instructions
    abbrev first : Bool → List Block
    first b = if b then prelude_block image layout scene ∷ [] else []

    blocks-of : (b : Bool) → begun ≡ b → graph.blocks ≡ first b ++ own
    blocks-of true begins =
        blocks-are image program p is entry is_entry
        ∙ ap (λ n. (if n == 0 then [] else prelude_block image layout scene ∷ []) ++ own)
        (before_is image program p is entry is_entry)
        ∙ ap (λ b. (if (if b then 1 else 0) == 0 then [] else prelude_block image layout scene ∷ []) ++ own) begins
    blocks-of false begins =
        blocks-are image program p is entry is_entry
        ∙ ap (λ n. (if n == 0 then [] else prelude_block image layout scene ∷ []) ++ own)
        (before_is image program p is entry is_entry)
        ∙ ap (λ b. (if (if b then 1 else 0) == 0 then [] else prelude_block image layout scene ∷ []) ++ own) begins

    before-of : (b : Bool) → begun ≡ b → AreBefore scene image.ip b (first b) own
    before-of false none = record {
      before = sym (before_is image program p is entry is_entry ∙ ap (λ b. if b then 1 else 0) none);
      are = are;
      has = λ a. refl;
      edges = λ a b. refl;
      start = begins-at own are;
    }
    before-of true begins =
        let prelude = prelude_block image layout scene in
        let count : 1 ≡ scene.before =
        sym (before_is image program p is entry is_entry ∙ ap (λ b. if b then 1 else 0) begins) in
        let to : layout.start_ip ≡ entry_in scene = eqb-true layout.start_ip entry begins ∙ sym entry-is in
        record {
          before = count;
          are = are;
          has = λ a. or_none (image.ip == a);
          edges = λ a b.
              or_none ((image.ip == a) && has_edge (prelude ∷ own) prelude b)
              ∙ ap (λ c. (image.ip == a) && c)
              (entry_edge scene image.ip sound (prelude ∷ []) count own are prelude b
              (ap (λ n. Goto (block_place scene n)) to));
          start = refl;
        }

    flow-is : flow_at p entry ≡ flow_of graph
    flow-is = ap (λ o. flow_of (graph_or_none o)) (located_at image program p is entry is_entry).graph_found

    -- The block of a CALL.

    leader-has : (at : ℕ) → is_leader nodes (entry_in scene) at ≡ true → (flow_of graph).has at ≡ true
    leader-has at leader =
        leader_there scene image.ip sound begun (first begun) own (before-of begun refl) graph (blocks-of begun refl) at
        leader

    call-stands : (at : ℕ) (node : Node) → node_in nodes at ≡ Some node → (target : ℕ) → node.instr.op ≡ CallOp target
        → IsBlockOfCall (flow_of graph) (at, node)
    call-stands at node found target calls =
        let here = instruction-at image program p is entry is_entry at node found in
        let next = next_of at node.instr in
        let called : calls_in (node_in nodes at) ≡ true = ap calls_in found ∙ ap is_call calls in
        let succ : node.succ.items ≡ next ∷ [] =
        goes-on image program p is entry is_entry at node here
        ∙ ap (λ op. op_successors op next (known_ah image layout here.before) (targets_of image layout op here.before))
        calls in
        let goes : has_successor nodes at next ≡ true =
        ap (λ o. list_any (λ n. n == next) (successors_in o)) found
        ∙ ap (list_any (λ n. n == next)) succ
        ∙ or_none (next == next)
        ∙ same_number next in
        record {
          begins = leader-has at (elim (decided (joins nodes (entry_in scene) at)) [
            | inl t ↦ absurd (clash called (joined nodes (entry_in scene) at t).calls)
            | inr none ↦ begins_leader nodes (entry_in scene) image.ip sound at (node_in_has nodes at node found) none
          ]);
          after = leader-has next (elim (decided (joins nodes (entry_in scene) next)) [
            | inl t ↦
                let j = joined nodes (entry_in scene) next t in
                let from = joined_from nodes (entry_in scene) image.ip sound at next j goes in
                absurd (clash (subst (λ n. calls_in (node_in nodes n) ≡ true) (sym from) called) j.from_calls)
            | inr none ↦
                begins_leader nodes (entry_in scene) image.ip sound next
                (successor_is_node nodes (entry_in scene) image.ip sound at next goes) none
          ]);
        }

    listed-node : (found : ℕ × Node) → Contains nodes found → node_in nodes found.0 ≡ Some found.1
    listed-node found has =
        node_in_found nodes has.0 found.0 found.1 (nodes_differ nodes (entry_in scene) image.ip sound)
        (slice_get-get_or nodes has.0 found has.1 ∙ ap Some has.2)

    -- the blocks of the graph
    pub blocks-contract : (b : Bool) → begun ≡ b
        → HasBlocksOf (begun_flow b image.ip nodes (entry_in scene)) p proc
    blocks-contract b begins =
        let flow : flow_of graph ≡ flow_at p proc.entry = sym (ap (flow_at p) entry-is ∙ flow-is) in
        let before = before-of b begins in
        let blocks = blocks-of b begins in
        record {
          contraction =
              subst (IsContraction (begun_flow b image.ip nodes (entry_in scene))) flow
              (contraction scene image.ip sound b (first b) own before graph blocks);
          one_edge =
              subst (HaveOneEdge (begun_flow b image.ip nodes (entry_in scene))) flow
              (one_edge scene image.ip sound b (first b) own before graph blocks);
          calls =
              All-weaker (Contains nodes)
              (λ (found : ℕ × Node). (target : ℕ) → found.1.instr.op ≡ CallOp target
              → IsBlockOfCall (flow_at p proc.entry) found)
              (λ found has target calls.
              subst (λ f. IsBlockOfCall f found) flow
              (call-stands found.0 found.1 (listed-node found has) target calls))
              nodes (All-contains_itself nodes);
        }

    -- the procedure is the one with that entry
    same-proc : (q : Proc) → Contains program.procs.items q → q.entry ≡ entry → proc ≡ q
    same-proc q has e =
        let there =
        listed (setting image program p) (lifted image program p is) entry
        (record { proc = proc; frame = (located_at image program p is entry is_entry).frame; delta = layout.delta })
        (located_at image program p is entry is_entry).procedure_found in
        one-proc program.procs.items proc q
        (ordered-entries layout program.procs.items is.of_file.is_program.procs.order) there.among has
        (entry-is ∙ sym e)

  entered : (q : Proc) → Contains program.procs.items q → IsEntry image layout q.entry
  entered q has =
      All-contains (λ (r : Proc). IsEntry image layout r.entry)
      program.procs.items q is.of_file.is_program.procs.reached has

  start-blocks : (q : Proc) → Contains program.procs.items q → q.entry ≡ layout.start_ip
      → HasBlocksOf (after_prelude image.ip (procedure_flow q)) p q
  start-blocks q has first =
      let is_entry = entered q has in
      subst (λ (r : Proc). HasBlocksOf (after_prelude image.ip (procedure_flow r)) p r)
      (same-proc q.entry is_entry q has refl)
      (blocks-contract q.entry is_entry true (eq-eqb layout.start_ip q.entry (sym first)))

  other-blocks : (q : Proc) → Contains program.procs.items q → q.entry ≢ layout.start_ip
      → HasBlocksOf (procedure_flow q) p q
  other-blocks q has other =
      let is_entry = entered q has in
      subst (λ (r : Proc). HasBlocksOf (procedure_flow r) p r) (same-proc q.entry is_entry q has refl)
      (blocks-contract q.entry is_entry false (ne_eqb layout.start_ip q.entry (λ same. other (sym same))))

  pub have-blocks : AllHaveBlocks image p program.procs.items
  have-blocks =
      let order = is.of_file.is_program.procs.order in
      let listed-later : (q : Proc) → Contains (order.start ∷ order.others) q → Contains program.procs.items q =
      λ q has. subst (λ l. Contains l q) (sym order.procs_are) has in
      subst (AllHaveBlocks image p) (sym order.procs_are) (
        start-blocks order.start (listed-later order.start (0, omega arith, refl)) order.first,
        all-of-two (Contains order.others) (λ (q : Proc). q.entry ≢ layout.start_ip)
            (λ (q : Proc). HasBlocksOf (procedure_flow q) p q)
            (λ q has other. other-blocks q (listed-later q (later-one order.start q order.others has)) other)
            order.others (All-contains_itself order.others) order.apart,
      )
