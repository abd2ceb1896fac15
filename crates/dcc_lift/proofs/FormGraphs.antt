-- The graphs of a translated program are well formed, and what they pass agrees.
use Rattle.std.proofs.Common.{◌≡◌, ◌≢◌, ℕ, ◌+◌, ◌<◌, ◌≤◌, Bool, true, false, not, ◌&&◌, ◌||◌, ◌==◌, if◌then◌else◌, List, [], ◌∷◌, ◌++◌, length, map, flat_map, Some, All, refl, sym, ap, ◌∙◌, subst, true≢false, eqb-true, eq-eqb, ne_eqb, arith}
use Rattle.std.specs.List.{range_with_len, list_any, list_all}
use Rattle.std.proofs.lemmas.List.{map-append}
use Rattle.std.proofs.lemmas.List.Elements.{All-nil, All-cons, All-head, All-tail, All-append, All-weaker}
use Rattle.std.proofs.lemmas.List.Folds.{list_all-append}
use Rattle.dcc_machine.specs.declared.image.Image.{Image}
use Rattle.dcc_prog.specs.declared.frame.Program.{Program as Analysed}
use Rattle.dcc_prog.specs.Trail.{IsEntry}
use Rattle.dcc_ir.specs.declared.syntax.Param.{Param}
use Rattle.dcc_ir.specs.Tree.{Stmt, Call, Exit, Goto, If, Switch, Ret, Stop, Block, Graph, Program}
use Rattle.dcc_ir.specs.Location.{location_width}
use Rattle.dcc_ir.specs.Value.{width_of}
use Rattle.dcc_ir.specs.Run.{is_call}
use Rattle.dcc_ir.specs.WellFormed.{is_width, is_expr, is_stmt, is_exit, is_block, is_jump, jumps_after_call, all_differ, ret_widths, all_ret_widths, is_put, is_param_list, memory_params_last, IsGraph}
use Rattle.dcc_ir.specs.Use.{exprs_of, exit_exprs, block_exprs, graph_exprs}
use Rattle.dcc_ops.specs.Temporaries.{temporary_bits}
use Rattle.dcc_simulation.specs.Procedures.{given_back}
use Rattle.dcc_simulation.specs.Passed.{params_of, returned_values}
use Rattle.dcc_simulation.specs.Statements.{calling, taking_all_back, results_of, arguments_of}
use Rattle.dcc_simulation.specs.FoundPlaces.{IsFoundAt}
use Rattle.dcc_lift.specs.Blocks.{leaders, entry_in}
use Rattle.dcc_lift.specs.Translated.{setting, IsTranslated}
use Rattle.dcc_lift.specs.Translation.{prelude_block}
use Rattle.dcc_lift.proofs.ListTests.{and_left, and_right, and_both}
use Rattle.dcc_lift.proofs.NodeLaws.{nodes_differ}
use Rattle.dcc_lift.proofs.ChainLaws.{leader_below, entry_is_leader, prelude_no_leader}
use Rattle.dcc_lift.proofs.BlockLaws.{blocks_at}
use Rattle.dcc_lift.proofs.FormPlaces.{is_shallow, is_sound, are_sound}
use Rattle.dcc_lift.proofs.FormCalls.{all-both, arguments-good, params-well, params-listed, taking-all-sound, call-well, given-below, given-few, given-wide}
use Rattle.dcc_lift.proofs.FormParams.{params-last}
use Rattle.dcc_lift.proofs.FormAddresses.{no-true, flipped, leaders-differ}
use Rattle.dcc_lift.proofs.FormExits.{RetsAre, NoRet}
use Rattle.dcc_lift.proofs.FormScenes.{translated_at, AreWork, procedure_at_entry, front, place-fits, lifted}
use Rattle.dcc_lift.proofs.LocatedBlocks.{located_at, before_is, sound_at, blocks-are}
use Rattle.dcc_lift.proofs.FormBlocks.{HasWork, works, calls, IsFormedBlock, all-formed, args-few}

-- Sound statements.

pub record AreParts (stmts : List Stmt) : Type 0 where
  pub well : list_all (is_stmt temporary_bits) stmts ≡ true
  pub shallow : list_all is_shallow (flat_map exprs_of stmts) ≡ true
  pub none : list_any is_call stmts ≡ false

pub sound-parts : (stmts : List Stmt) → are_sound stmts ≡ true → AreParts stmts
sound-parts [] sound = record { well = refl; shallow = refl; none = refl }
sound-parts (stmt ∷ stmts) sound =
    let one = and_left (is_sound stmt) (are_sound stmts) sound in
    let rest = sound-parts stmts (and_right (is_sound stmt) (are_sound stmts) sound) in
    let here = is_stmt temporary_bits stmt in
    let deep = list_all is_shallow (exprs_of stmt) in
    let both = and_left (here && deep) (not (is_call stmt)) one in
    let apart = no-true (is_call stmt) (and_right (here && deep) (not (is_call stmt)) one) in
    record {
      well = and_both here (list_all (is_stmt temporary_bits) stmts) (and_left here deep both) rest.well;
      shallow =
          list_all-append is_shallow (exprs_of stmt) (flat_map exprs_of stmts)
          ∙ and_both deep (list_all is_shallow (flat_map exprs_of stmts)) (and_right here deep both) rest.shallow;
      none = ap (λ b. b || list_any is_call stmts) apart ∙ rest.none;
    }

pub no-jumps : (stmts : List Stmt) (exit : Exit) → list_any is_call stmts ≡ false
    → jumps_after_call stmts exit ≡ true
no-jumps [] exit none = refl
no-jumps (stmt ∷ stmts) exit none = go (is_call stmt) none (λ rest. no-jumps stmts exit rest)
  where
    go : (b : Bool) → (b || list_any is_call stmts) ≡ false
        → (list_any is_call stmts ≡ false → jumps_after_call stmts exit ≡ true)
        → (if b then not (list_any is_call stmts) && is_jump exit else jumps_after_call stmts exit) ≡ true
    go true e later = absurd (true≢false e)
    go false e later = later e

module _ (image : Image) (program : Analysed) (p : Program) (is : IsTranslated image program p) where
  open program use {layout}

  -- what is shown of statements that work, and of a CALL, is shown of each block
  pub by-work : (P : List Stmt → Exit → Type 0) → ((stmts : List Stmt) (exit : Exit) → AreWork stmts → P stmts exit)
      → (entry : ℕ) (is_entry : IsEntry image layout entry)
      → ((target height place : ℕ) (target_entry : IsEntry image layout target) → target ≢ layout.start_ip
      → height ≤ 32766
      → P (calling (procedure_at_entry image program p is entry is_entry) height
      (Some (procedure_at_entry image program p is target target_entry))) (Goto place))
      → (stmts : List Stmt) (exit : Exit) → HasWork image program p is entry is_entry stmts exit → P stmts exit
  by-work P work entry is_entry call stmts exit (works each) = work stmts exit each
  by-work P work entry is_entry call stmts exit (calls target height place target_entry other small stmts_are exit_is) =
      subst (P stmts) (sym exit_is)
      (subst (λ l. P l (Goto place)) (sym stmts_are) (call target height place target_entry other small))

  module _ (entry : ℕ) (is_entry : IsEntry image layout entry) where
    open translated_at image program p is entry is_entry use {procedure, scene, nodes, graph}

    abbrev count : ℕ
    count = length graph.blocks

    abbrev Formed : Block → Type 0
    Formed = IsFormedBlock image program p is entry is_entry

    -- The graph.

    pub entry-of : graph.entry ≡ entry
    entry-of =
        let x = located_at image program p is entry is_entry in
        ap (λ (g : Graph). g.entry) x.is_graph.graph_is ∙ x.entry_is

    pub bits-of : graph.bits ≡ temporary_bits
    bits-of = ap (λ (g : Graph). g.bits) (located_at image program p is entry is_entry).is_graph.graph_is

    -- the graph of the entry procedure takes nothing
    pub params-first : entry ≡ layout.start_ip → graph.params ≡ []
    params-first first =
        ap (λ (g : Graph). g.params) (located_at image program p is entry is_entry).is_graph.graph_is
        ∙ ap (λ n. if n == 0 then params_of procedure else []) (before_is image program p is entry is_entry)
        ∙ ap (λ b. if (if b then 1 else 0) == 0 then params_of procedure else [])
        (eq-eqb layout.start_ip entry (sym first))

    pub params-later : entry ≢ layout.start_ip → graph.params ≡ params_of procedure
    params-later other =
        ap (λ (g : Graph). g.params) (located_at image program p is entry is_entry).is_graph.graph_is
        ∙ ap (λ n. if n == 0 then params_of procedure else []) (before_is image program p is entry is_entry)
        ∙ ap (λ b. if (if b then 1 else 0) == 0 then params_of procedure else [])
        (ne_eqb layout.start_ip entry (λ e. other (sym e)))

    -- what is shown of no params, and of the procedure's, is shown of those of the graph
    pub by-params : (P : List Param → Type 0) → P [] → P (params_of procedure) → P graph.params
    by-params P none some = go (layout.start_ip == entry) refl
      where
        go : (b : Bool) → (layout.start_ip == entry) ≡ b → P graph.params
        go true e = subst P (sym (params-first (sym (eqb-true layout.start_ip entry e)))) none
        go false e =
            subst P (sym (params-later (λ same. true≢false (sym (eq-eqb layout.start_ip entry (sym same)) ∙ e)))) some

    pub found-at : IsFoundAt (setting image program p) entry procedure
    found-at = record {
      lifting = lifted image program p is;
      is_entry = is_entry;
      procedure = (located_at image program p is entry is_entry).procedure_found;
    }

    -- Blocks.

    abbrev BlockIs : List Stmt → Exit → Type 0
    BlockIs stmts exit = (list_all (is_stmt temporary_bits) stmts ≡ true) × (jumps_after_call stmts exit ≡ true)
        × (list_all is_shallow (flat_map exprs_of stmts) ≡ true)

    call-is : (target height place : ℕ) (target_entry : IsEntry image layout target) → height ≤ 32766
        → BlockIs (calling procedure height (Some (procedure_at_entry image program p is target target_entry)))
        (Goto place)
    call-is target height place target_entry small =
        let callee = procedure_at_entry image program p is target target_entry in
        let few = given-few callee (args-few image program p is target target_entry) in
        let call = Call (results_of callee) callee.proc.entry (arguments_of procedure height callee) (height + 2) in
        let back = taking_all_back procedure height 0 (given_back callee) in
        let rest = sound-parts back (taking-all-sound procedure height 0 (given_back callee) (omega (arith, few))) in
        let deep =
        (all-both (is_expr temporary_bits) is_shallow (arguments_of procedure height callee)
        (arguments-good procedure height callee)).1 in (
          and_both (is_stmt temporary_bits call) (list_all (is_stmt temporary_bits) back)
              (call-well procedure height callee.proc.entry callee small few) rest.well,
          and_both (not (list_any is_call back)) true (ap not rest.none) refl,
          list_all-append is_shallow (arguments_of procedure height callee) (flat_map exprs_of back)
              ∙ and_both (list_all is_shallow (arguments_of procedure height callee))
              (list_all is_shallow (flat_map exprs_of back)) deep rest.shallow,
        )

    pub block-is : (block : Block) → Formed block → BlockIs block.stmts block.exit
    block-is block formed =
        by-work BlockIs
        (λ stmts exit work.
        let parts = sound-parts stmts work.sound in (parts.well, no-jumps stmts exit parts.none, parts.shallow))
        entry is_entry
        (λ target height place target_entry other small. call-is target height place target_entry small)
        block.stmts block.exit formed.work

    blocks-well : (blocks : List Block) → All Formed blocks
        → list_all (is_block temporary_bits count) blocks ≡ true
    blocks-well [] formed = refl
    blocks-well (block ∷ blocks) formed =
        let here = All-head Formed block blocks formed in
        and_both (is_block temporary_bits count block) (list_all (is_block temporary_bits count) blocks)
        (and_both (list_all (is_stmt temporary_bits) block.stmts) (is_exit temporary_bits count block.exit)
        (block-is block here).0 here.exit.well)
        (blocks-well blocks (All-tail Formed block blocks formed))

    formed : All Formed graph.blocks
    formed = all-formed image program p is entry is_entry

    pub addresses : all_differ (map (λ (b : Block). b.at) graph.blocks) ≡ true
    addresses =
        let x = located_at image program p is entry is_entry in
        let own = x.is_graph.blocks in
        let sound = sound_at image program p is entry is_entry in
        let places =
        map-append (λ (b : Block). b.at) (front image program p is entry is_entry) own
        ∙ ap (λ l. map (λ (b : Block). b.at) (front image program p is entry is_entry) ++ l)
        (blocks_at scene (leaders nodes (entry_in scene)) own x.is_graph.blocks_are) in
        let differ = leaders-differ nodes (entry_in scene) (nodes_differ nodes (entry_in scene) image.ip sound) in
        let apart =
        flipped image.ip (leaders nodes (entry_in scene))
        (prelude_no_leader nodes (entry_in scene) image.ip sound) in
        subst (λ (blocks : List Block). all_differ (map (λ (b : Block). b.at) blocks) ≡ true)
        (sym (blocks-are image program p is entry is_entry))
        (subst (λ l. all_differ l ≡ true) (sym places) (go (scene.before == 0) differ apart))
      where
        go : (b : Bool) → all_differ (leaders nodes (entry_in scene)) ≡ true
            → list_any (λ m. image.ip == m) (leaders nodes (entry_in scene)) ≡ false
            → all_differ (map (λ (b : Block). b.at) (if b then [] else prelude_block image layout scene ∷ [])
            ++ leaders nodes (entry_in scene))
            ≡ true
        go true differ apart = differ
        go false differ apart =
            and_both (not (list_any (λ m. image.ip == m) (leaders nodes (entry_in scene))))
            (all_differ (leaders nodes (entry_in scene))) (ap not apart) differ

    -- the graph is well formed
    pub graph-well : IsGraph graph
    graph-well =
        let sound = sound_at image program p is entry is_entry in
        let leader = entry_is_leader nodes (entry_in scene) image.ip sound in
        let fits = place-fits image program p is entry is_entry (entry_in scene) leader in
        let below = leader_below nodes (entry_in scene) image.ip sound (entry_in scene) leader in
        let x = located_at image program p is entry is_entry in
        record {
          begins = omega (arith, fits);
          entry = subst (λ n. n < 65536) (x.entry_is ∙ sym entry-of) below;
          offsets = All-weaker Formed (λ (b : Block). b.at < 65536) (λ b f. f.at) graph.blocks formed;
          jumps =
              All-weaker Formed (λ (b : Block). jumps_after_call b.stmts b.exit ≡ true) (λ b f. (block-is b f).1)
              graph.blocks formed;
          addresses = addresses;
          bits = subst (λ l. list_all is_width l ≡ true) (sym bits-of) refl;
          params =
              subst (λ l. list_all (λ p. is_put l p.put) graph.params ≡ true) (sym bits-of)
              (by-params (λ params. list_all (λ p. is_put temporary_bits p.put) params ≡ true) refl
              (params-well procedure));
          blocks =
              subst (λ l. list_all (is_block l count) graph.blocks ≡ true) (sym bits-of)
              (blocks-well graph.blocks formed);
        }

    pub params-list : is_param_list graph.bits graph.params ≡ true
    params-list =
        subst (λ l. is_param_list l graph.params ≡ true) (sym bits-of)
        (by-params (λ params. is_param_list temporary_bits params ≡ true) refl
        (params-listed procedure (range_with_len 0 procedure.frame.args)))

    pub memory-last : memory_params_last graph.params ≡ true
    memory-last =
        by-params (λ params. memory_params_last params ≡ true) refl
        (params-last (setting image program p) entry procedure found-at)

    -- no expression is deeper than 7
    blocks-shallow : (blocks : List Block) → All Formed blocks
        → list_all is_shallow (flat_map block_exprs blocks) ≡ true
    blocks-shallow [] each = refl
    blocks-shallow (block ∷ blocks) each =
        let here = All-head Formed block blocks each in
        list_all-append is_shallow (block_exprs block) (flat_map block_exprs blocks)
        ∙ and_both (list_all is_shallow (block_exprs block)) (list_all is_shallow (flat_map block_exprs blocks))
        (list_all-append is_shallow (flat_map exprs_of block.stmts) (exit_exprs block.exit)
        ∙ and_both (list_all is_shallow (flat_map exprs_of block.stmts)) (list_all is_shallow (exit_exprs block.exit))
        (block-is block here).2 here.exit.shallow)
        (blocks-shallow blocks (All-tail Formed block blocks each))

    pub graph-shallow : list_all is_shallow (graph_exprs graph) ≡ true
    graph-shallow = blocks-shallow graph.blocks formed

    -- What is given back.

    abbrev widths : List ℕ
    widths = map (width_of temporary_bits) (returned_values procedure)

    exit-widths : (exit : Exit) → RetsAre procedure exit → All (λ l. l ≡ widths) (ret_widths temporary_bits exit)
    exit-widths (Ret values) same =
        All-cons (λ l. l ≡ widths) (map (width_of temporary_bits) values) []
        (ap (map (width_of temporary_bits)) same) (All-nil (λ l. l ≡ widths))
    exit-widths (Goto place) same = All-nil (λ l. l ≡ widths)
    exit-widths (If test one other) same = All-nil (λ l. l ≡ widths)
    exit-widths (Switch e places) same = All-nil (λ l. l ≡ widths)
    exit-widths Stop same = All-nil (λ l. l ≡ widths)

    blocks-give : (blocks : List Block) → All Formed blocks
        → All (λ l. l ≡ widths) (flat_map (λ (b : Block). ret_widths temporary_bits b.exit) blocks)
    blocks-give [] each = All-nil (λ l. l ≡ widths)
    blocks-give (block ∷ blocks) each =
        All-append (λ l. l ≡ widths) (ret_widths temporary_bits block.exit)
        (flat_map (λ (b : Block). ret_widths temporary_bits b.exit) blocks)
        (exit-widths block.exit (All-head Formed block blocks each).rets)
        (blocks-give blocks (All-tail Formed block blocks each))

    -- each Ret gives what the procedure does
    pub gives-widths : All (λ l. l ≡ widths) (all_ret_widths graph)
    gives-widths =
        subst (λ bits. All (λ l. l ≡ widths) (flat_map (λ (b : Block). ret_widths bits b.exit) graph.blocks))
        (sym bits-of) (blocks-give graph.blocks formed)

    no-widths : (exit : Exit) → NoRet exit → ret_widths temporary_bits exit ≡ []
    no-widths (Ret values) none = absurd none
    no-widths (Goto place) none = refl
    no-widths (If test one other) none = refl
    no-widths (Switch e places) none = refl
    no-widths Stop none = refl

    blocks-none : (blocks : List Block) → All Formed blocks → entry ≡ layout.start_ip
        → flat_map (λ (b : Block). ret_widths temporary_bits b.exit) blocks ≡ []
    blocks-none [] each first = refl
    blocks-none (block ∷ blocks) each first =
        ap (λ l. l ++ flat_map (λ (b : Block). ret_widths temporary_bits b.exit) blocks)
        (no-widths block.exit ((All-head Formed block blocks each).start first))
        ∙ blocks-none blocks (All-tail Formed block blocks each) first

    -- the entry procedure's graph has no Ret
    pub gives-nothing : entry ≡ layout.start_ip → all_ret_widths graph ≡ []
    gives-nothing first =
        ap (λ bits. flat_map (λ (b : Block). ret_widths bits b.exit) graph.blocks) bits-of
        ∙ blocks-none graph.blocks formed first

    -- where the results go, they have these widths
    pub results-wide : widths ≡ map (location_width temporary_bits) (results_of procedure)
    results-wide =
        let few = args-few image program p is entry is_entry in
        given-wide procedure few (given-below procedure) (given-few procedure few)
