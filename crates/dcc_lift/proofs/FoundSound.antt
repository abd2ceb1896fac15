-- What is found of a procedure is what its blocks rest on: its instructions are sound, none of them stands where the
-- program begins, and there are at most 4,096.
use Rattle.std.proofs.Common.{◌≡◌, ◌≢◌, inl, inr, ℕ, ◌+◌, ◌<◌, ◌≤◌, Bool, true, false, not, ◌||◌, if◌then◌else◌, List, [], ◌∷◌, length, take, Option, Some, None, All, AllPairs, Contains, refl, sym, ap, ◌∙◌, subst, true≢false, arith}
use Rattle.std.specs.List.{list_any}
use Rattle.std.proofs.lemmas.List.Elements.{All-weaker, All-take, All-contains_itself}
use Rattle.std.proofs.lemmas.List.{length-take-le, get_or-take}
use Rattle.std.proofs.lemmas.Bool.{cases_lt}
use Rattle.std.proofs.Math.Nat.{mod-eq_of_lt}
use Rattle.dcc_machine.specs.declared.image.Image.{Image}
use Rattle.dcc_prog.specs.declared.procedure.Layout.{Layout}
use Rattle.dcc_prog.specs.declared.procedure.Node.{Node}
use Rattle.dcc_prog.specs.declared.procedure.Proc.{Proc}
use Rattle.dcc_machine.specs.declared.instr.Operand.TheVariants.{Seg}
use Rattle.dcc_machine.specs.declared.instr.Op.{Op}
use Rattle.dcc_machine.specs.declared.instr.Op.TheVariants.{Alu as AluOp, Shift as ShiftOp, Mov, Plain as PlainOp, Table, Ret, Int21}
use Rattle.dcc_machine.specs.declared.instr.Instr.{Instr}
use Rattle.dcc_machine.specs.MzImage.{IsLoaded}
use Rattle.dcc_machine.specs.Code.{code_of}
use Rattle.dcc_prog.specs.Layout.{is_prelude_form, writes_ds, IsRun, offset_after, HasLayout}
use Rattle.dcc_machine.specs.Successors.{next_of, is_exit, op_successors}
use Rattle.dcc_prog.specs.declared.refusal.ConstructKind.TheVariants.{OutsideProfile}
use Rattle.dcc_prog.specs.Trail.{instruction_in, known_ah, targets_of, instr_successors, successors, IsNode, IsEntry}
use Rattle.dcc_prog.specs.FrameForm.{is_frame_form}
use Rattle.dcc_prog.specs.Construct.{is_system, foreign}
use Rattle.dcc_prog.specs.declared.refusal.LimitName.TheVariants.{Instructions}
use Rattle.dcc_prog.specs.Limit.{instructions}
use Rattle.dcc_prog.specs.Found.{IsNodeFound, IsFound, AreFound}
use Rattle.dcc_prog.proofs.TrailLaws.{node-entry, node-successor}
use Rattle.dcc_prog.proofs.PreludeOffsets.{run-above, prelude-within, prelude-short}
use Rattle.dcc_lift.specs.Blocks.{node_in}
use Rattle.dcc_lift.specs.Sound.{offsets_of, AgreesWith, GoesOnAt, AreSound}
use Rattle.dcc_lift.proofs.NodeLaws.{is_node, node_in_some, node_in_has, node_in_holds, node_in_found, ascending_differ, node_contained, contained_node}
use Rattle.dcc_lift.proofs.CodeBounds.{loaded-placed, instruction-below, instruction-within}

untrue : (b : Bool) → (b ≡ true → ⊥) → b ≡ false
untrue true h = absurd (h refl)
untrue false h = refl

or_left : (a b : Bool) → a ≡ true → (a || b) ≡ true
or_left true b p = p
or_left false b p = absurd (true≢false (sym p))

-- Operations.

-- what may stand in a prelude goes on to the next instruction
form-goes_on : (op : Op) (next : ℕ) (ah : Option ℕ) (targets : List ℕ) → is_prelude_form op ≡ true
    → op_successors op next ah targets ≡ next ∷ []
form-goes_on (Mov to from) next ah targets form = refl
form-goes_on (AluOp kind a b) next ah targets form = refl
form-goes_on (ShiftOp kind a count) next ah targets form = refl
form-goes_on (PlainOp kind) next ah targets form = refl
form-goes_on op next ah targets form = absurd (true≢false (sym form))

-- what writes DS stands in no procedure
ds-refused : (op : Op) → writes_ds op ≡ true → is_system op ≡ true
ds-refused (Mov (Seg number) from) writes = refl
ds-refused op writes = cc

-- an operation goes on at as many places as its end has
pub op-goes_on : (op : Op) (next : ℕ) (ah : Option ℕ) (targets : List ℕ)
    → GoesOnAt op (op_successors op next ah targets)
op-goes_on (Table r offset) next ah targets = tt
op-goes_on (Ret count) next ah targets = refl
op-goes_on Int21 next ah targets = go (is_exit ah)
  where
    go : (b : Bool) → AgreesWith None (if b then [] else next ∷ [])
    go true = tt
    go false = tt
op-goes_on op next ah targets = tt

-- Procedures.

module _ (image : Image) (layout : Layout) (procs : List Proc) (are : AreFound image layout procs) (entry : ℕ)
    (is_entry : IsEntry image layout entry) where
  -- no instruction of a procedure is one of the prelude's kind
  pub node-user : (at : ℕ) (instr : Instr) → IsNode image layout entry at
      → instruction_in image layout at ≡ Some instr → is_system instr.op ≡ false
  node-user at instr node e =
      untrue (is_system instr.op) (λ h.
      let framed : Bool = is_frame_form image layout entry at instr.op in
      let here : (is_system instr.op || not framed) ≡ true = or_left (is_system instr.op) (not framed) h in
      are.no_construct OutsideProfile at (record {
        entry = entry;
        is_entry = is_entry;
        node = node;
        stands = foreign (record { op = instr.op; stands = (instr, e, refl); foreign = here });
      }))

  -- a node at an instruction of a prelude leads to the one that writes DS
  run-unreached : (at : ℕ) (run : List Instr) → IsRun layout.cpu (code_of image) at run
      → offset_after at run ≤ layout.code_end → offset_after at run < 65536
      → list_any (λ instr. writes_ds instr.op) run ≡ true → ¬ IsNode image layout entry at
  run-unreached at [] run within small writes node = true≢false (sym writes)
  run-unreached at (instr ∷ rest) run within small writes node =
      by (writes_ds instr.op) refl writes
      (λ later. run-unreached (at + instr.len) rest run.1 within small later
      (node-successor image layout entry (at + instr.len) (at ∷ node.before) node.trail there))
    where
      above : at + instr.len ≤ offset_after (at + instr.len) rest
      above = run-above layout.cpu (code_of image) rest (at + instr.len) run.1

      here : instruction_in image layout at ≡ Some instr
      here = instruction-within image layout at instr run.0.found (omega (arith, above, within))

      next : next_of at instr ≡ at + instr.len
      next = let low : at + instr.len < 65536 = omega (arith, above, small) in mod-eq_of_lt low

      goes : successors image layout (at ∷ node.before) ≡ (at + instr.len) ∷ []
      goes =
          ap (instr_successors image layout at node.before) here
          ∙ form-goes_on instr.op (next_of at instr) (known_ah image layout node.before)
          (targets_of image layout instr.op node.before) run.0.form
          ∙ ap (λ n. n ∷ []) next

      there : Contains (successors image layout (at ∷ node.before)) (at + instr.len)
      there = subst (λ xs. Contains xs (at + instr.len)) (sym goes) (0, omega arith, refl)

      by : (b : Bool) → writes_ds instr.op ≡ b → (b || list_any (λ instr. writes_ds instr.op) rest) ≡ true
          → (list_any (λ instr. writes_ds instr.op) rest ≡ true → ⊥) → ⊥
      by true is writes later = true≢false (sym (ds-refused instr.op is) ∙ node-user at instr node here)
      by false is writes later = later writes

  -- by the limit no more than 4,096 nodes differ
  pub few-nodes : (places : List ℕ) → All (IsNode image layout entry) places → AllPairs (λ a b. a ≢ b) places
      → length places ≤ 4096
  few-nodes places nodes differ = elim (cases_lt 4096 (length places)) [
    | inr few ↦ few
    | inl many ↦
        let first : List ℕ = take 4097 places in
        let count : length first ≡ 4097 = length-take-le 4097 places (omega (arith, many)) in
        absurd (are.no_limit Instructions 4097 (instructions is_entry (record {
          values = first;
          hold = All-take (IsNode image layout entry) 4097 places nodes;
          distinct = λ i j d less inside same.
              let low : j < 4097 = omega (arith, inside, count) in
              let less' : i < 4097 = omega (arith, less, low) in
              differ i j d less (omega (arith, low, many))
              (sym (get_or-take 4097 places i d less') ∙ same ∙ get_or-take 4097 places j d low);
          count_is = count;
        })))
  ]

module _ (image : Image) (layout : Layout) (procs : List Proc) (are : AreFound image layout procs)
    (loaded : IsLoaded image)
    (has : HasLayout image layout) (proc : Proc) (is_entry : IsEntry image layout proc.entry)
    (found : IsFound image layout proc) where
  -- none of a procedure's instructions stands where the program begins
  pub start-unreached : ¬ IsNode image layout proc.entry image.ip
  start-unreached =
      run-unreached image layout procs are proc.entry is_entry image.ip has.prelude has.is_prelude.run
      (prelude-within image layout loaded has) (prelude-short image layout loaded has) has.ds_written

  -- a node has its place in the list
  pub node-listed : (at : ℕ) → IsNode image layout proc.entry at
      → (node : Node) × (node_in proc.nodes.entries at ≡ Some node)
  node-listed at node =
      let listed = found.every at node in (
        listed.node,
        node_in_found proc.nodes.entries listed.place at listed.node
            (ascending_differ proc.nodes.entries found.ascending) listed.listed,
      )

  -- what is listed is found
  pub listed-found : (at : ℕ) (node : Node) → node_in proc.nodes.entries at ≡ Some node
      → IsNodeFound image layout proc.entry (at, node)
  listed-found at node e =
      node_in_holds (IsNodeFound image layout proc.entry) proc.nodes.entries at node found.nodes e

  pub node-contained : (at : ℕ) → IsNode image layout proc.entry at → Contains (offsets_of proc.nodes.entries) at
  node-contained at node =
      let listed = node-listed at node in
      contained_node proc.nodes.entries at (node_in_has proc.nodes.entries at listed.0 listed.1)

  pub contained-node : (at : ℕ) → is_node proc.nodes.entries at ≡ true → IsNode image layout proc.entry at
  contained-node at h = let listed = node_in_some proc.nodes.entries at h in (listed-found at listed.0 listed.1).node

  found-below : (node : ℕ × Node) → IsNodeFound image layout proc.entry node → node.0 < 65536
  found-below node is =
      let bounds = instruction-below image layout node.0 node.1.instr (loaded-placed image loaded) is.instr in
      omega (arith, bounds.0, bounds.1)

  found-closed : (node : ℕ × Node) → IsNodeFound image layout proc.entry node
      → All (Contains (offsets_of proc.nodes.entries)) node.1.succ.items
  found-closed node is =
      let succ = node.1.succ.items in
      let before = is.node.before in
      let told : succ ≡ successors image layout (node.0 ∷ before) = is.succ before is.node.trail in
      All-weaker (Contains succ) (Contains (offsets_of proc.nodes.entries))
      (λ to there. node-contained to (node-successor image layout proc.entry to (node.0 ∷ before) is.node.trail
      (subst (λ xs. Contains xs to) told there)))
      succ (All-contains_itself succ)

  found-goes_on : (node : ℕ × Node) → IsNodeFound image layout proc.entry node
      → GoesOnAt node.1.instr.op node.1.succ.items
  found-goes_on node is =
      let before = is.node.before in
      let instr = node.1.instr in
      let goes : node.1.succ.items
      ≡ op_successors instr.op (next_of node.0 instr) (known_ah image layout before)
      (targets_of image layout instr.op before) =
      is.succ before is.node.trail ∙ ap (instr_successors image layout node.0 before) is.instr in
      subst (GoesOnAt instr.op) (sym goes)
      (op-goes_on instr.op (next_of node.0 instr) (known_ah image layout before)
      (targets_of image layout instr.op before))

  -- the instructions are sound
  pub found-sound : AreSound proc.nodes.entries proc.entry image.ip
  found-sound =
      let nodes = proc.nodes.entries in
      let is = IsNodeFound image layout proc.entry in
      record {
        ascending = found.ascending;
        below = All-weaker is (λ (node : ℕ × Node). node.0 < 65536) found-below nodes found.nodes;
        closed =
            All-weaker is (λ (node : ℕ × Node). All (Contains (offsets_of nodes)) node.1.succ.items) found-closed
            nodes
            found.nodes;
        entered = node-contained proc.entry (node-entry image layout proc.entry);
        apart = λ h. start-unreached (contained-node image.ip (node_contained nodes image.ip h));
        agree =
            All-weaker is (λ (node : ℕ × Node). GoesOnAt node.1.instr.op node.1.succ.items) found-goes_on nodes
            found.nodes;
      }
