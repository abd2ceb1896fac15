-- The blocks of a translated program: what their statements are, and how they end.
use Rattle.std.proofs.Common.{◌≡◌, ◌≢◌, inl, inr, ℕ, suc, ◌+◌, ◌<◌, ◌≤◌, Bool, true, false, ◌==◌, if◌then◌else◌, List, [], ◌∷◌, ◌++◌, length, map, flat_map, Some, All, refl, sym, ap, ◌∙◌, subst, true≢false, eqb-true, arith}
use Rattle.std.specs.Prelude.{◌/◌, ◌%◌, pos, nat_lt, slice_index}
use Rattle.std.specs.List.{list_any}
use Rattle.std.proofs.lemmas.List.{append-nil}
use Rattle.std.proofs.lemmas.List.Elements.{All-nil, All-cons, All-head, All-tail, All-append, All-weaker}
use Rattle.std.proofs.lemmas.List.Folds.{list_all-map}
use Rattle.dcc_num.specs.declared.Width.TheVariants.{Byte as byte_width}
use Rattle.dcc_num.specs.declared.Reg.{Reg}
use Rattle.dcc_num.specs.declared.Half.TheVariants.{Low, High}
use Rattle.dcc_num.specs.declared.FlagName.{FlagName}
use Rattle.dcc_num.specs.declared.FlagName.TheVariants.{Cf, Zf, Sf, Of}
use Rattle.dcc_num.specs.declared.Flags.{Flags}
use Rattle.dcc_machine.specs.declared.image.Image.{Image}
use Rattle.dcc_prog.specs.declared.procedure.Node.{Node}
use Rattle.dcc_prog.specs.declared.frame.Program.{Program as Analysed}
use Rattle.dcc_prog.specs.declared.refusal.LimitName.TheVariants.{Entries, Arguments}
use Rattle.dcc_machine.specs.declared.instr.Instr.{Instr}
use Rattle.dcc_machine.specs.declared.instr.Op.{Op}
use Rattle.dcc_machine.specs.declared.instr.Op.TheVariants.{Table, Call as CallOp, Ret as RetOp}
use Rattle.dcc_machine.specs.Machine.{reg_number}
use Rattle.dcc_machine.specs.Successors.{next_of, op_successors}
use Rattle.dcc_prog.specs.Trail.{StandsAt, IsEntry, called, instr_successors, known_ah, targets_of, table_targets}
use Rattle.dcc_prog.specs.Construct.{HasNumber, returns, calls as calls_entry, entry_return}
use Rattle.dcc_prog.specs.Limit.{entries, arguments}
use Rattle.dcc_prog.proofs.PreludeOffsets.{prelude-below, prelude-some}
use Rattle.dcc_stack.proofs.FormHeights.{no-trails}
use Rattle.dcc_stack.proofs.FormLaws.{in-form}
use Rattle.dcc_ir.specs.declared.syntax.Loc.TheVariants.{Half}
use Rattle.dcc_ir.specs.Tree.{Const, Stmt, Exit, Goto, Block, Program}
use Rattle.dcc_ir.proofs.PathLaws.{decided}
use Rattle.dcc_simulation.specs.Nodes.{procedures_in}
use Rattle.dcc_simulation.specs.Statements as placed
use Rattle.dcc_simulation.specs.Statements.{calling}
use Rattle.dcc_simulation.specs.Passed.{exit_of}
use Rattle.dcc_lift.specs.Blocks.{node_in, successors_in, is_call, calls_in, leaders, entry_in, block_place, stmts_at, node_exit, exit_at, last_of, IsBlockAt}
use Rattle.dcc_lift.specs.Sound.{AreSound}
use Rattle.dcc_lift.specs.Translated.{IsTranslated}
use Rattle.dcc_lift.specs.Translation.{general_registers, register_starting, flag_starting, flags_starting, prelude_block}
use Rattle.dcc_lift.proofs.NodeLaws.{node_in_some}
use Rattle.dcc_lift.proofs.ChainLaws.{IsInner, joined, chain_inner, call_ends, last_node, last_goes_to_leaders, leader_node, leader_below, entry_is_leader}
use Rattle.dcc_lift.proofs.BlockLaws.{blocks_all}
use Rattle.dcc_lift.proofs.PreludeWords.{layout-words}
use Rattle.dcc_lift.proofs.Lifting.{stmts-at}
use Rattle.dcc_lift.proofs.FormPlaces.{below-true, sound-append, halves-set, constant-sound}
use Rattle.dcc_lift.proofs.FormFlags.{plain-append}
use Rattle.dcc_lift.proofs.FormCalls.{given-below, returned-good}
use Rattle.dcc_lift.proofs.FormExits.{IsGoodExit, are_below, goto-good, exit-good, RetsAre, NoRet, exit-rets, exit-no-ret, all-of-members, op-few, table-few}
use Rattle.dcc_lift.proofs.FormScenes.{translated_at, AreWork, no-work, procedure_at_entry, leads, front, place-fits, IsInstructionAt, instruction-at, height-small, work-at}
use Rattle.dcc_lift.proofs.LocatedBlocks.{located_at, before_is, sound_at, blocks-are}

-- Work.

work-append : (stmts others : List Stmt) → AreWork stmts → AreWork others → AreWork (stmts ++ others)
work-append stmts others one other = record {
  sound = sound-append stmts others one.sound other.sound;
  plain = plain-append stmts others one.plain other.plain;
}

-- The block of the prelude.

register-work : (regs : List ℕ) (r : Reg) → slice_index regs (reg_number r) < 65536 → AreWork (register_starting regs r)
register-work regs r fits =
    let v = slice_index regs (reg_number r) in
    record {
      sound =
          halves-set (Half r Low) (Half r High) (Const 8 (v % 256)) (Const 8 (v / 256)) refl
          (constant-sound byte_width (v % 256) (omega arith))
          (constant-sound byte_width (v / 256) (omega (arith, fits)));
      plain = refl;
    }

registers-work : (regs : List ℕ) (rs : List Reg) → ((i : ℕ) → slice_index regs i < 65536)
    → AreWork (flat_map (register_starting regs) rs)
registers-work regs [] words = no-work
registers-work regs (r ∷ rs) words =
    work-append (register_starting regs r) (flat_map (register_starting regs) rs)
    (register-work regs r (words (reg_number r))) (registers-work regs rs words)

flag-work : (f : FlagName) (set : Bool) (stmts : List Stmt) → AreWork stmts → AreWork (flag_starting f set ∷ stmts)
flag-work f true stmts work = record { sound = work.sound; plain = work.plain }
flag-work f false stmts work = record { sound = work.sound; plain = work.plain }

flags-work : (flags : Flags) → AreWork (flags_starting flags)
flags-work flags =
    flag-work Cf flags.cf (flag_starting Zf flags.zf ∷ flag_starting Sf flags.sf ∷ flag_starting Of flags.of ∷ [])
    (flag-work Zf flags.zf (flag_starting Sf flags.sf ∷ flag_starting Of flags.of ∷ [])
    (flag-work Sf flags.sf (flag_starting Of flags.of ∷ []) (flag-work Of flags.of [] no-work)))

call-target : (op : Op) → is_call op ≡ true → (target : ℕ) × (op ≡ CallOp target)
call-target (CallOp target) is = (target, refl)
call-target op is = cc

module _ (image : Image) (program : Analysed) (p : Program) (is : IsTranslated image program p) where
  open program use {layout}

  -- the work of a block of the procedure, or its call of another one
  pub data HasWork (entry : ℕ) (is_entry : IsEntry image layout entry) (stmts : List Stmt) (exit : Exit) : Type 0 where
    works : AreWork stmts → HasWork entry is_entry stmts exit
    calls :
        (target height place : ℕ) (target_entry : IsEntry image layout target)
        → target ≢ layout.start_ip
        → height ≤ 32766
        → stmts ≡ calling (procedure_at_entry image program p is entry is_entry) height
        (Some (procedure_at_entry image program p is target target_entry))
        → exit ≡ Goto place
        → HasWork entry is_entry stmts exit

  module _ (entry : ℕ) (is_entry : IsEntry image layout entry) where
    open translated_at image program p is entry is_entry use {procedure, scene, nodes, graph}

    abbrev count : ℕ
    count = length graph.blocks

    abbrev At : ℕ → Node → Type 0
    At at node = IsInstructionAt image program p is entry is_entry at node

    -- Arguments.

    pub args-few : procedure.frame.args ≤ 32
    args-few =
        let x = located_at image program p is entry is_entry in
        by (λ above. is.of_file.is_program.cells.accepted.no_limit Arguments procedure.frame.args
        (arguments (subst (IsEntry image layout) (sym x.entry_is) is_entry) x.is_frame.arguments above))
      where
        by : ¬ (32 < procedure.frame.args) → procedure.frame.args ≤ 32
        by none = omega (arith, none)

    -- Ends.

    -- the instruction goes on where its trail does
    pub goes-on : (at : ℕ) (node : Node) (here : At at node)
        → node.succ.items ≡ instr_successors image layout at here.before (Some node.instr)
    goes-on at node here =
        here.found.succ here.before here.is_at.trail
        ∙ ap (instr_successors image layout at here.before) here.found.instr

    one-instr : {i j : Instr} → Some i ≡ Some j → i ≡ j
    one-instr e = cc

    targets-few : (at : ℕ) (node : Node) (here : At at node) (op : Op) → node.instr.op ≡ op
        → length (targets_of image layout op here.before) ≤ 256
    targets-few at node here (Table r offset) e =
        let known = in-form.nodes layout.cpu image program entry at here.before here.height is.of_file here.is_at in
        let same : known.instr ≡ node.instr = one-instr (sym known.stands ∙ here.found.instr) in
        let told = known.table r offset (ap (λ (i : Instr). i.op) same ∙ e) in
        let number = told.0 in
        let has : HasNumber image layout entry at (Some number) = record {
          before = here.before;
          trail = here.is_at.trail;
          register = r;
          table = offset;
          stands = (node.instr, here.found.instr, e);
          number_is = told.1;
        } in
        let small =
        by number
        (λ above. is.of_file.is_program.procs.no_limit Entries (number + 1) (entries is_entry has above)) in
        subst (λ o. length (table_targets image offset o) ≤ 256) (sym told.1)
        (table-few image offset number small)
      where
        by : (n : ℕ) → ¬ (256 ≤ n) → n ≤ 255
        by n none = omega (arith, none)
    targets-few at node here op e = omega arith

    succ-few : (at : ℕ) (node : Node) → At at node → length node.succ.items ≤ 256
    succ-few at node here =
        subst (λ l. length l ≤ 256) (sym (goes-on at node here))
        (op-few node.instr.op (next_of at node.instr) (known_ah image layout here.before)
        (targets_of image layout node.instr.op here.before) (targets-few at node here node.instr.op refl))

    -- a RET stands in no entry procedure
    no-return : (at : ℕ) (node : Node) → At at node → entry ≡ layout.start_ip → (bytes : ℕ)
        → node.instr.op ≢ RetOp bytes
    no-return at node here first bytes e =
        no-trails layout.cpu image program is.of_file entry at here.before (pos here.height) here.is_at
        (entry_return (returns first (node.instr, here.found.instr, e)))

    -- Blocks.

    pub record IsFormedBlock (block : Block) : Type 0 where
      pub at : block.at < 65536
      pub work : HasWork entry is_entry block.stmts block.exit
      pub exit : IsGoodExit count block.exit
      pub rets : RetsAre procedure block.exit
      pub start : entry ≡ layout.start_ip → NoRet block.exit

    chain-work : (places : List ℕ) → All (λ at. calls_in (node_in nodes at) ≡ false) places
        → AreWork (flat_map (stmts_at scene) places)
    chain-work [] none = no-work
    chain-work (at ∷ places) none =
        work-append (stmts_at scene at) (flat_map (stmts_at scene) places)
        (work-at image program p is entry is_entry at
        (All-head (λ a. calls_in (node_in nodes a) ≡ false) at places none))
        (chain-work places (All-tail (λ a. calls_in (node_in nodes a) ≡ false) at places none))

    module _ (at : ℕ) (block : Block) (leader : leads image program p is entry is_entry at ≡ true)
        (there : IsBlockAt scene at block) where
      abbrev sound : AreSound nodes (entry_in scene) image.ip
      sound = sound_at image program p is entry is_entry

      abbrev last : ℕ
      last = last_of at there.rest

      last-found : (node : Node) × (node_in nodes last ≡ Some node)
      last-found =
          node_in_some nodes last
          (last_node nodes (entry_in scene) image.ip sound there.rest at there.chain
          (leader_node nodes (entry_in scene) image.ip sound at leader))

      abbrev places : List ℕ
      places = map (block_place scene) last-found.0.succ.items

      last-here : At last last-found.0
      last-here = instruction-at image program p is entry is_entry last last-found.0 last-found.1

      end-is : block.exit ≡ exit_of procedure last-found.0.instr.op places
      end-is = there.exit_is ∙ ap (node_exit scene) last-found.1

      places-below : are_below count places ≡ true
      places-below =
          list_all-map (λ place. nat_lt place count) (block_place scene) last-found.0.succ.items
          ∙ all-of-members (λ next. nat_lt (block_place scene next) count) last-found.0.succ.items
          (λ next inside. below-true (block_place scene next) count
          (place-fits image program p is entry is_entry next
          (last_goes_to_leaders nodes (entry_in scene) image.ip sound at there.rest next there.chain
          (ap (λ o. list_any (λ n. n == next) (successors_in o)) last-found.1 ∙ inside))))

      places-few : length places ≤ 65536
      places-few =
          let few = succ-few last last-found.0 last-here in
          let same = length-mapped (block_place scene) last-found.0.succ.items in
          omega (arith, few, same)
        where
          length-mapped : (f : ℕ → ℕ) (xs : List ℕ) → length (map f xs) ≡ length xs
          length-mapped f [] = refl
          length-mapped f (x ∷ xs) = ap suc (length-mapped f xs)

      end-good : IsGoodExit count block.exit
      end-good =
          subst (IsGoodExit count) (sym end-is)
          (exit-good procedure count last-found.0.instr.op places places-few places-below
          (returned-good procedure args-few (given-below procedure)))

      -- the work of a chain, or a CALL
      none-called : calls_in (node_in nodes at) ≡ false → AreWork block.stmts
      none-called none =
          subst AreWork (sym there.stmts_are)
          (chain-work (at ∷ there.rest)
          (All-cons (λ a. calls_in (node_in nodes a) ≡ false) at there.rest none
          (All-weaker (IsInner nodes (entry_in scene)) (λ a. calls_in (node_in nodes a) ≡ false)
          (λ a inner. (joined nodes (entry_in scene) a inner.joins).calls) there.rest
          (chain_inner nodes (entry_in scene) image.ip sound there.rest at there.chain))))

      one-called : calls_in (node_in nodes at) ≡ true → HasWork entry is_entry block.stmts block.exit
      one-called t =
          let alone = call_ends nodes (entry_in scene) image.ip sound at t there.rest there.chain in
          let found = node_in_some nodes at (leader_node nodes (entry_in scene) image.ip sound at leader) in
          let node = found.0 in
          let here = instruction-at image program p is entry is_entry at node found.1 in
          let to = call-target node.instr.op (sym (ap calls_in found.1) ∙ t) in
          let target = to.0 in
          let stands : StandsAt image layout at (CallOp target) = (node.instr, here.found.instr, to.1) in
          let target_entry : IsEntry image layout target = called is_entry here.found.node stands in
          let callee = procedure_at_entry image program p is target target_entry in
          let next = next_of at node.instr in
          let succ : node.succ.items ≡ next ∷ [] =
          goes-on at node here
          ∙ ap (λ op. op_successors op next (known_ah image layout here.before)
          (targets_of image layout op here.before)) to.1 in
          HasWork.calls target here.height (block_place scene next) target_entry
          (λ same. no-trails layout.cpu image program is.of_file entry at here.before (pos here.height) here.is_at
          (entry_return (calls_entry (subst (λ n. StandsAt image layout at (CallOp n)) same stands))))
          (height-small image program p is entry is_entry at node here)
          (there.stmts_are
          ∙ ap (λ rest. flat_map (stmts_at scene) (at ∷ rest)) alone
          ∙ append-nil (stmts_at scene at)
          ∙ stmts-at image program p is.of_file is.translation entry is_entry
          (located_at image program p is entry is_entry) at node here.before here.height here.is_at found.1
          ∙ ap (λ op. if placed.moves_frame op then [] else
          placed.working_stmts layout.cpu (procedures_in program) procedure here.height op node.number) to.1
          ∙ ap (calling procedure here.height) (located_at image program p is target target_entry).procedure_found)
          (there.exit_is
          ∙ ap (λ rest. exit_at scene (last_of at rest)) alone
          ∙ ap (node_exit scene) found.1
          ∙ ap (λ op. exit_of procedure op (map (block_place scene) node.succ.items)) to.1
          ∙ ap (λ l. exit_of procedure (CallOp target) (map (block_place scene) l)) succ)

      block-formed : IsFormedBlock block
      block-formed = record {
        at =
            subst (λ n. n < 65536) (sym there.at_is)
            (leader_below nodes (entry_in scene) image.ip sound at leader);
        work = elim (decided (calls_in (node_in nodes at))) [
          | inl t ↦ one-called t
          | inr none ↦ works (none-called none)
        ];
        exit = end-good;
        rets = subst (RetsAre procedure) (sym end-is) (exit-rets procedure last-found.0.instr.op places);
        start = λ first.
            subst NoRet (sym end-is)
            (exit-no-ret procedure last-found.0.instr.op places (no-return last last-found.0 last-here first));
      }

    -- the prelude's block, in the graph of the entry procedure
    prelude-formed : entry ≡ layout.start_ip → IsFormedBlock (prelude_block image layout scene)
    prelude-formed first =
        let has = is.of_file.is_program.layout in
        let loaded = is.of_file.loaded in
        let begin = (located_at image program p is entry is_entry).entry_is ∙ first in
        record {
          at = prelude-below image layout loaded has 0 (prelude-some image layout loaded has);
          work = works (work-append (flat_map (register_starting layout.regs) general_registers)
              (flags_starting layout.flags)
              (registers-work layout.regs general_registers (layout-words image layout loaded has))
              (flags-work layout.flags));
          exit = goto-good count (block_place scene layout.start_ip)
              (below-true (block_place scene layout.start_ip) count
              (place-fits image program p is entry is_entry layout.start_ip
              (subst (λ n. leads image program p is entry is_entry n ≡ true) begin
              (entry_is_leader nodes (entry_in scene) image.ip (sound_at image program p is entry is_entry)))));
          rets = tt;
          start = λ _. tt;
        }

    -- all blocks of the graph
    pub all-formed : All IsFormedBlock graph.blocks
    all-formed =
        subst (All IsFormedBlock) (sym (blocks-are image program p is entry is_entry))
        (All-append IsFormedBlock (front image program p is entry is_entry) own (before (scene.before == 0) refl)
        (blocks_all scene IsFormedBlock (leaders nodes (entry_in scene)) own
        (located_at image program p is entry is_entry).is_graph.blocks_are
        (λ at block leader there. block-formed at block leader there)))
      where
        own : List Block
        own = (located_at image program p is entry is_entry).is_graph.blocks

        starts : (b : Bool) → (layout.start_ip == entry) ≡ b → scene.before ≡ (if b then 1 else 0)
            → (scene.before == 0) ≡ false → entry ≡ layout.start_ip
        starts true e same other = sym (eqb-true layout.start_ip entry e)
        starts false e same other = absurd (true≢false (sym (ap (λ n. n == 0) same) ∙ other))

        before : (b : Bool) → (scene.before == 0) ≡ b
            → All IsFormedBlock (if b then [] else prelude_block image layout scene ∷ [])
        before true e = All-nil IsFormedBlock
        before false e =
            All-cons IsFormedBlock (prelude_block image layout scene) []
            (prelude-formed (starts (layout.start_ip == entry) refl
            (before_is image program p is entry is_entry) e))
            (All-nil IsFormedBlock)
