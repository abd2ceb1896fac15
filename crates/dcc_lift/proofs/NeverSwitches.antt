-- In every run the value of a Switch has a place among its blocks.
use Rattle.std.proofs.Common.{◌≡◌, ℕ, ◌+◌, ◌%◌, ◌<◌, false, List, [], ◌∷◌, length, map, Option, Some, None, refl, sym, ap, ◌∙◌, subst}
use Rattle.std.specs.Prelude.{if◌then◌else◌, slice_get, get_or}
use Rattle.std.proofs.lemmas.List.{length-map}
use Rattle.dcc_run.specs.End.{Running, is_over}
use Rattle.dcc_num.specs.declared.Reg.{Reg}
use Rattle.dcc_machine.specs.declared.image.Image.{Image}
use Rattle.dcc_prog.specs.declared.frame.Program.{Program as Analysed}
use Rattle.dcc_machine.specs.declared.instr.Op.{Op}
use Rattle.dcc_machine.specs.declared.instr.Op.TheVariants.{Table, Ret as RetOp}
use Rattle.dcc_prog.specs.Trail.{start}
use Rattle.dcc_ir.specs.declared.syntax.BinOp.TheVariants.{Shr}
use Rattle.dcc_ir.specs.Location.{filled}
use Rattle.dcc_ir.specs.Tree.{Expr, Const, Binary, Switch, Block, Program}
use Rattle.dcc_ir.specs.WellFormed.{IsProgram}
use Rattle.dcc_ir.specs.Run.{State as Inner, value_in, execute, activation, no_graph, first_memory, first_state, reached}
use Rattle.dcc_ir.specs.Fitting.{AreBytes}
use Rattle.dcc_ir.specs.Ends.{SwitchesHavePlaces}
use Rattle.dcc_ir.proofs.ReachedLaws.{IsGood, first-good}
use Rattle.dcc_ops.specs.Expressions.{word_of}
use Rattle.dcc_ops.specs.Statements.{op_test, exit_to}
use Rattle.dcc_simulation.specs.Nodes.{procedures_in}
use Rattle.dcc_simulation.specs.Passed.{exit_of}
use Rattle.dcc_simulation.specs.Procedures.{Procedure}
use Rattle.dcc_simulation.specs.Statements.{moves_frame, working_stmts}
use Rattle.dcc_lift.specs.Blocks.{last_of, block_place, stmts_at}
use Rattle.dcc_lift.specs.Translated.{IsTranslated}
use Rattle.dcc_lift.proofs.CallFree.{IsCallFree}
use Rattle.dcc_lift.proofs.Lifting.{stmts-at}
use Rattle.dcc_lift.proofs.NeverSteps.{table-fits}
use Rattle.dcc_lift.proofs.NeverChains.{on-before}
use Rattle.dcc_lift.proofs.LocatedBlocks.{located_at}
use Rattle.dcc_lift.proofs.NeverGraphs.{first-graph}
use Rattle.dcc_lift.proofs.NeverRuns.{entered-fit, block-through, block-exit, IsKept, after-kept}
use Rattle.dcc_lift.proofs.NeverStands.{entering-waiting, AllWait, procedure_at, scene_of_entry, AtBlock, Stands, at_block, at_call, at_prelude, graph-begins}

-- Ends that are Switches.

no-switch : (test : Option Expr) (places others : List ℕ) (e : Expr) → exit_to test places ≡ Switch e others → ⊥
no-switch (Some test) [] others e same = cc
no-switch (Some test) (one ∷ []) others e same = cc
no-switch (Some test) (one ∷ other ∷ []) others e same = cc
no-switch (Some test) (one ∷ other ∷ more ∷ places) others e same = cc
no-switch None [] others e same = cc
no-switch None (one ∷ []) others e same = cc
no-switch None (one ∷ other ∷ places) others e same = cc

-- the operation is a jump through a table
record IsTable (op : Op) (e : Expr) : Type 0 where
  register : Reg
  offset : ℕ
  op_is : op ≡ Table register offset
  value_is : e ≡ Binary Shr 16 (word_of register) (Const 16 1)

switch-is : (p : Procedure) (op : Op) (places others : List ℕ) (e : Expr) → exit_of p op places ≡ Switch e others
    → IsTable op e × (others ≡ places)
switch-is p (Table r offset) places others e same =
    (record { register = r; offset = offset; op_is = refl; value_is = cc }, cc)
switch-is p (RetOp count) places others e same = cc
switch-is p op places others e same = absurd (no-switch (op_test op) places others e same)

module _ (image : Image) (program : Analysed) (p : Program) (well : IsProgram p) (is : IsTranslated image program p)
    (fill : ℕ) where
  open program use {layout}

  -- The start.

  first-kept : (input : List ℕ) → AreBytes input → IsKept image program p well is fill (first_state p fill input)
  first-kept input bytes =
      let good = first-good p well fill input bytes in
      let graph = get_or p.graphs 0 no_graph in
      let opens : Inner = record {
        running = activation graph (filled graph.bits fill) ((p.hi + 2) % 65536);
        waiting = [];
        memory = first_memory p fill;
        input = input;
        events = [];
        end = Running;
      } in
      let first = slice_get graph.blocks 0 in
      record {
        good = good;
        keeps = λ on. record {
          stands =
              graph-begins image program p is layout.start_ip start opens refl (entered-fit first opens good.safe.fit)
              (first-graph image program p well is);
          waiting = subst (AllWait image program p is) (sym (entering-waiting first opens)) tt;
        };
      }

  -- Switches.

  module _ (t : Inner) (good : IsGood p t) (on : is_over t.end ≡ false) (free : IsCallFree t.running.rest)
      (still : is_over (execute t.running.rest t).end ≡ false) (e : Expr) (places : List ℕ)
      (switches : t.running.block.exit ≡ Switch e places) where
    in-block : AtBlock image program p is t → value_in (execute t.running.rest t) e < length places
    in-block a =
        let x = located_at image program p is a.entry a.is_entry in
        let scene = scene_of_entry image program p is a.entry a.is_entry in
        let procedure = procedure_at image program p is a.entry a.is_entry in
        let last = last_of a.at a.is_block.rest in
        let th = block-through image program p well is fill t good on free a still in
        let h = th.is_here in
        let table =
        switch-is procedure h.node.instr.op (map (block_place scene) h.node.succ.items) places e
        (sym (block-exit image program p well is fill t good on free a still) ∙ switches) in
        let none : stmts_at scene last ≡ [] =
        stmts-at image program p is.of_file is.translation a.entry a.is_entry x last h.node th.before h.height h.is_at
        h.found
        ∙ ap (λ op. if moves_frame op then [] else
        working_stmts layout.cpu (procedures_in program) procedure h.height op h.node.number) table.0.op_is in
        let same : execute t.running.rest t ≡ th.from = th.is ∙ ap (λ l. execute l th.from) none in
        let count : length places ≡ length h.node.succ.items =
        ap (λ (l : List ℕ). length l) table.1 ∙ length-map h.node.succ.items (block_place scene) in
        subst (λ n. value_in (execute t.running.rest t) e < n) (sym count)
        (subst (λ v. value_in v e < length h.node.succ.items) (sym same)
        (subst (λ e. value_in th.from e < length h.node.succ.items) (sym table.0.value_is)
        (table-fits image program p is.of_file is.translation a.entry a.is_entry x last th.before h th.from
        table.0.register table.0.offset th.follows table.0.op_is)))

    pub has-place : Stands image program p is t → value_in (execute t.running.rest t) e < length places
    has-place (at_block a) = in-block a
    has-place (at_call a) =
        absurd (no-switch None (map (block_place (scene_of_entry image program p is a.entry a.is_entry))
        a.is_here.node.succ.items) places e (sym a.exit ∙ switches))
    has-place (at_prelude a) = let clash = sym (ap (λ (b : Block). b.exit) a.block_is) ∙ switches in cc

  pub kept-at : (input : List ℕ) → AreBytes input → (n : ℕ)
      → IsKept image program p well is fill (reached p fill input n)
  kept-at input bytes n =
      after-kept image program p well is fill n (first_state p fill input) (first-kept input bytes)

pub switches-have-places : (image : Image) (program : Analysed) (p : Program) → IsProgram p
    → IsTranslated image program p → SwitchesHavePlaces p
switches-have-places image program p well is fill input small bytes n e places switches free still =
    let t = reached p fill input n in
    let kept = kept-at image program p well is fill input bytes n in
    let on = on-before t.running.rest t still in
    has-place image program p well is fill t kept.good on free still e places switches (kept.keeps on).stands
