-- The machine keeps pace at kept places that hold the paths of procedures, and so do the places of blocks.
use Rattle.std.proofs.Common.{◌≡◌, inl, inr, ℕ, ◌+◌, ◌≤◌, ◌<◌, Bool, true, ◌&&◌, ◌==◌, List, [], ◌∷◌, All, Contains, None, refl, sym, ap, ◌∙◌, subst, lit<, arith}
use Rattle.std.specs.List.{list_any}
use Rattle.std.proofs.lemmas.List.Elements.{All-nil, All-cons, All-weaker, All-contains_itself}
use Rattle.std.proofs.lemmas.List.Folds.{list_any_at}
use Rattle.dcc_run.specs.ProgramPoint.{ProgramPoint}
use Rattle.dcc_run.specs.Shadows.{KeepsPace, only}
use Rattle.dcc_run.proofs.PaceLaws.{GoesThrough, kept_places_pace}
use Rattle.dcc_machine.specs.declared.image.Image.{Image}
use Rattle.dcc_prog.specs.declared.procedure.Node.{Node}
use Rattle.dcc_prog.specs.declared.procedure.Proc.{Proc}
use Rattle.dcc_prog.specs.declared.frame.Program.{Program as Analysed}
use Rattle.dcc_machine.specs.declared.instr.Op.TheVariants.{Call as CallOp}
use Rattle.dcc_machine.specs.Code.{code_of}
use Rattle.dcc_prog.specs.Watch.{place_of, watched_machine, first_watch}
use Rattle.dcc_prog.proofs.PreludeOffsets.{offset-far, offset-end, prelude-short, prelude-some}
use Rattle.dcc_prog.proofs.WatchLaws.{machine_watchable, in_the_prelude}
use Rattle.dcc_ir.specs.Tree.{Expr, Ret, Block, Program}
use Rattle.dcc_ir.specs.Flow.{Flow, IsPath, Any, Reached, graph_or_none, flow_at}
use Rattle.dcc_ir.specs.Run.{graph_at}
use Rattle.dcc_ir.specs.Keeps.{has_block}
use Rattle.dcc_lift.specs.Lifted.{steps_between, steps_at_start, MachineKeepsPace, procedure_flow, after_prelude, IsBlockOfCall, HasBlocksOf, AllHaveBlocks, HoldsPathsOf, HoldsPaths}
use Rattle.dcc_lift.specs.Laws.{KeptPlacesArePaced}
use Rattle.dcc_lift.specs.Translated.{IsTranslated}
use Rattle.dcc_lift.proofs.ListTests.{and_both, or_there, or_here, same_number}
use Rattle.dcc_lift.proofs.KeptWays.{Goes, Leaves, Enters, begins, closed-ways, crossing-ways, short-ways}
use Rattle.dcc_lift.proofs.KeptSteps.{StandsAtPlace, place-mark, place-running, place-steps}
use Rattle.dcc_lift.proofs.FormHasBlocks.{have-blocks}
use Rattle.dcc_lift.proofs.RunScenes.{Runs, layout, AtNode, goes}
use Rattle.dcc_lift.proofs.RunStart.{is_entry, set_up}
use Rattle.dcc_lift.proofs.RunBegun.{entered, entered_stack, entered-ip, begun-node}
use Rattle.dcc_lift.proofs.RunLaws.{at, far, numbers, past}

-- Kept places that hold the paths.

module _ (c : Runs) (kept : ProgramPoint → Bool) (holds : HoldsPaths c.program c.p kept) where
  through : GoesThrough (watched_machine c.program) (StandsAtPlace c.image c.program c.is.of_file)
      (Goes c.image (layout c)) (Leaves c.image (layout c)) (Enters c.image (layout c)) kept 4096
  through = record {
    mark = place-mark c.image c.program c.is.of_file;
    running = place-running c.image c.program c.is.of_file;
    steps = place-steps c.image c.program c.is.of_file;
    closed = closed-ways c.image c.program c.p c.is kept holds;
    crossed = crossing-ways c.image c.program c.p c.is kept holds;
    few = short-ways c.image c.program c.p c.is kept holds;
  }

  module _ (input : List ℕ) (bytes : All (λ byte. byte < 256) input) where
    abbrev first : AtNode c (layout c).start_ip (entered c input bytes (numbers c input bytes))
        (entered_stack c input bytes (numbers c input bytes)) (set_up c input)
    first = begun-node c input bytes (numbers c input bytes)

    -- where the entry procedure begins
    abbrev place : ProgramPoint
    place = record {
      entry = (first).agree.stands.newest.frame.entry;
      at = (entered c input bytes (numbers c input bytes)).ip;
    }

    stands-first : StandsAtPlace c.image c.program c.is.of_file (at c input bytes (far c input bytes)) place
    stands-first = record {
      state_of = entered c input bytes (numbers c input bytes);
      stack = entered_stack c input bytes (numbers c input bytes);
      same = past c input bytes;
      running =
          goes c (layout c).start_ip (is_entry c input) (entered c input bytes (numbers c input bytes))
          (entered_stack c input bytes (numbers c input bytes)) (set_up c input) first;
      stands = (first).agree.stands;
      place_is = refl;
    }

    -- each instruction of the prelude takes a byte at least
    soon : far c input bytes + 4096 ≤ steps_at_start
    soon =
        let loaded = c.is.of_file.loaded in
        let has = c.is.of_file.is_program.layout in
        let up =
        offset-far (layout c).cpu (code_of c.image) (far c input bytes) has.prelude c.image.ip has.is_prelude.run
        (omega arith) in
        let end = offset-end has.prelude c.image.ip in
        let short = prelude-short c.image (layout c) loaded has in
        omega (arith, up, end, short)

    unmarked : (k : ℕ) → 0 < k → k < far c input bytes → place_of (layout c) (at c input bytes k) ≡ None
    unmarked k some less =
        ap (λ stage. place_of (layout c) (record { machine = (at c input bytes k).machine; stage = stage }))
        (in_the_prelude c.image c.program c.is.of_file.loaded c.is.of_file.is_program.layout input k some less)

    keeps-pace : KeepsPace (only kept (watched_machine c.program)) (first_watch c.image input) steps_at_start
        steps_between
    keeps-pace =
        kept_places_pace (watched_machine c.program) (machine_watchable c.program)
        (StandsAtPlace c.image c.program c.is.of_file) (Goes c.image (layout c)) (Leaves c.image (layout c))
        (Enters c.image (layout c)) kept 4096 through (first_watch c.image input) (far c input bytes) place
        (prelude-some c.image (layout c) c.is.of_file.loaded c.is.of_file.is_program.layout) unmarked stands-first
        (begins (entered-ip c input bytes (numbers c input bytes) ∙ sym (first).here)) steps_at_start soon

pub kept-paced : KeptPlacesArePaced
kept-paced image program p kept is holds input bytes =
    keeps-pace (record { image = image; program = program; p = p; is = is; fill = 0; small = lit< tt }) kept holds input
    bytes

-- The places of blocks hold them.

-- a path along these edges is one along those
pub path-along : (these those : ℕ → ℕ → Bool) → ((a b : ℕ) → these a b ≡ true → those a b ≡ true)
    → (a : ℕ) (between : List ℕ) (b : ℕ) → IsPath these Any a between b → IsPath those Any a between b
path-along these those wider a [] b path = wider a b path
path-along these those wider a (m ∷ between) b path =
    (wider a m path.0, tt, path-along these those wider m between b path.2)

module _ (p : Program) (proc : Proc) where
  abbrev HoldsBlocks : Type 0
  HoldsBlocks = HoldsPathsOf p (λ at. has_block p (record { entry = proc.entry; at = at })) proc

  abbrev CallsBegin : Type 0
  CallsBegin =
      All (λ (found : ℕ × Node). (target : ℕ) → found.1.instr.op ≡ CallOp target
      → IsBlockOfCall (flow_at p proc.entry) found) proc.nodes.entries

  holds-by : ((a : ℕ) (between : List ℕ) → Reached (procedure_flow proc) a
      → IsPath (procedure_flow proc).goes Any a between a
      → list_any (flow_at p proc.entry).has (a ∷ between) ≡ true) → CallsBegin → HoldsBlocks
  holds-by cycles calls = record {
    cycles = cycles;
    calls =
        All-weaker
        (λ (found : ℕ × Node). (target : ℕ) → found.1.instr.op ≡ CallOp target
        → IsBlockOfCall (flow_at p proc.entry) found)
        (λ (found : ℕ × Node). (target : ℕ) → found.1.instr.op ≡ CallOp target
        → (flow_at p proc.entry).has found.0 ≡ true)
        (λ found begin target is. (begin target is).begins) proc.nodes.entries calls;
    returns =
        All-weaker (Contains blocks)
        (λ (block : Block). (values : List Expr) → block.exit ≡ Ret values
        → (flow_at p proc.entry).has block.at ≡ true)
        (λ block has values exit.
        list_any_at (λ (b : Block). b.at == block.at) blocks has.0 block has.1
        (ap (λ (b : Block). b.at == block.at) has.2 ∙ same_number block.at)) blocks (All-contains_itself blocks);
  }
    where
      blocks : List Block
      blocks = (graph_or_none (graph_at p.graphs proc.entry)).blocks

  holds-own : HasBlocksOf (procedure_flow proc) p proc → HoldsBlocks
  holds-own has = holds-by has.contraction.cycles has.calls

  -- the prelude's block comes before the first instruction
  holds-after : (prelude : ℕ) → HasBlocksOf (after_prelude prelude (procedure_flow proc)) p proc → HoldsBlocks
  holds-after prelude has =
      holds-by
      (λ a between reached path.
      has.contraction.cycles a between (reached-after a reached) (path-after a between a path))
      has.calls
    where
      flow : Flow
      flow = procedure_flow proc

      path-after : (a : ℕ) (between : List ℕ) (b : ℕ) → IsPath flow.goes Any a between b
          → IsPath (after_prelude prelude flow).goes Any a between b
      path-after =
          path-along flow.goes (after_prelude prelude flow).goes
          (λ a b edge. or_there ((prelude == a) && (flow.start == b)) (flow.goes a b) edge)

      first-edge : (after_prelude prelude flow).goes prelude flow.start ≡ true
      first-edge =
          or_here ((prelude == prelude) && (flow.start == flow.start)) (flow.goes prelude flow.start)
          (and_both (prelude == prelude) (flow.start == flow.start) (same_number prelude) (same_number flow.start))

      reached-after : (a : ℕ) → Reached flow a → Reached (after_prelude prelude flow) a
      reached-after a (inl start) =
          inr ([], subst (λ n. (after_prelude prelude flow).goes prelude n ≡ true) (sym start.0) first-edge)
      reached-after a (inr way) = inr (flow.start ∷ way.0, (first-edge, tt, path-after flow.start way.0 a way.1))

module _ (image : Image) (p : Program) where
  all-hold : (procs : List Proc) → AllHaveBlocks image p procs → All (HoldsBlocks p) procs
  all-hold [] has = All-nil (HoldsBlocks p)
  all-hold (start ∷ procs) has =
      All-cons (HoldsBlocks p) start procs (holds-after p start image.ip has.0)
      (All-weaker (λ (proc : Proc). HasBlocksOf (procedure_flow proc) p proc) (HoldsBlocks p) (holds-own p) procs has.1)

pub paced : (image : Image) (program : Analysed) (p : Program) → IsTranslated image program p
    → MachineKeepsPace image program p
paced image program p is =
    kept-paced image program p (has_block p) is
    (all-hold image p program.procs.items (have-blocks image program p is))
