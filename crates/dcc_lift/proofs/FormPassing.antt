-- All halves and flags pass in and out of each graph of a translated program but the first, and through each call; the
-- argument words that a procedure may change come back.
use Rattle.std.proofs.Common.{◌≡◌, ◌≢◌, ℕ, zero, suc, ◌+◌, ◌*◌, ◌<◌, true, false, not, ◌&&◌, ◌||◌, ◌==◌, List, [], ◌∷◌, ◌++◌, length, map, Some, None, All, refl, sym, ap, ap₂, ◌∙◌, subst, true≢false, ne_eqb, arith}
use Rattle.std.specs.List.{range_with_len, list_any, list_all}
use Rattle.std.specs.List.Sorted.{IsStrictlyIncreasing}
use Rattle.std.proofs.lemmas.List.FromFn.{length-range_with_len, length-map-range_with_len, get_or-range_with_len}
use Rattle.std.proofs.lemmas.List.Kept.{IsStrictlyIncreasing-filter}
use Rattle.std.proofs.lemmas.List.Elements.{All-nil, All-cons, All-weaker}
use Rattle.std.proofs.lemmas.List.Folds.{list_all-map}
use Rattle.dcc_machine.specs.declared.image.Image.{Image}
use Rattle.dcc_prog.specs.declared.frame.Program.{Program as Analysed}
use Rattle.dcc_prog.specs.Trail.{IsEntry}
use Rattle.dcc_stack.specs.Slots.{gives_back}
use Rattle.dcc_ir.specs.declared.syntax.Loc.TheVariants.{Temp}
use Rattle.dcc_ir.specs.declared.syntax.Param.{Param}
use Rattle.dcc_ir.specs.Tree.{Stmt, Call, Exit, Ret, Block, Graph, Program}
use Rattle.dcc_ir.specs.Run.{is_call}
use Rattle.dcc_ir.specs.WellFormed.{all_differ}
use Rattle.dcc_ir.specs.Passing.{passed, is_word_put, AreNumbers, RetPasses, GraphPasses, CallPasses, StmtPasses, PassesAll}
use Rattle.dcc_ops.specs.Temporaries.{returned_place}
use Rattle.dcc_ops.specs.OperandPlace.{OperandPlace, word}
use Rattle.dcc_simulation.specs.Procedures.{Procedure, frame_place, given_back}
use Rattle.dcc_simulation.specs.Nodes.{procedures_in}
use Rattle.dcc_simulation.specs.Passed.{put_of, argument_param, argument_params}
use Rattle.dcc_simulation.specs.Statements.{argument_value, taking_all_back, results_of, arguments_of}
use Rattle.dcc_lift.specs.Translated.{IsTranslated}
use Rattle.dcc_lift.specs.Lifted.{back_of}
use Rattle.dcc_lift.proofs.ListTests.{and_both}
use Rattle.dcc_lift.proofs.FormCalls.{all-true, taking-all-sound, given-below, given-few}
use Rattle.dcc_lift.proofs.FormExits.{RetsAre}
use Rattle.dcc_lift.proofs.FormScenes.{translated_at, procedure_at_entry}
use Rattle.dcc_lift.proofs.LocatedBlocks.{located_at}
use Rattle.dcc_lift.proofs.FormBlocks.{IsFormedBlock, all-formed, args-few}
use Rattle.dcc_lift.proofs.FormGraphs.{sound-parts, by-work, entry-of, params-later}
use Rattle.dcc_lift.proofs.FormDrawn.{all-graphs, later-graphs}
use Rattle.dcc_lift.proofs.FormProgram.{none-left}

-- Params.

word-put : (place : OperandPlace) → is_word_put (put_of place) ≡ true
word-put (word low high) = refl
word-put place = refl

words-stand : (p : Procedure) → list_all (λ (q : Param). q.stack && is_word_put q.put) (argument_params p) ≡ true
words-stand p =
    list_all-map (λ (q : Param). q.stack && is_word_put q.put) (argument_param p) (range_with_len 0 p.frame.args)
    ∙ all-true (λ n. is_word_put (argument_param p n).put) (range_with_len 0 p.frame.args)
    (λ n. word-put (frame_place p _ _))

range-rises : (n : ℕ) → IsStrictlyIncreasing (range_with_len 0 n)
range-rises n k inside =
    let count = length-range_with_len 0 n in
    let one = get_or-range_with_len 0 n k 0 (omega (arith, inside, count)) in
    let other = get_or-range_with_len 0 n (k + 1) 0 (omega (arith, inside, count)) in
    omega (arith, one, other)

numbers-known : (p : Procedure) → AreNumbers (argument_params p) (given_back p)
numbers-known p = record {
  ascending =
      IsStrictlyIncreasing-filter (gives_back p.proc p.frame) (range_with_len 0 p.frame.args)
      (range-rises p.frame.args);
  words =
      subst (λ n. All (λ j. j < n) (given_back p)) (sym (length-map-range_with_len (argument_param p) 0 p.frame.args))
      (given-below p);
}

ret-passes : (p : Procedure) (exit : Exit) → RetsAre p exit → RetPasses (argument_params p) (given_back p) exit
ret-passes p (Ret values) same = same
ret-passes p exit same = tt

-- Calls.

abbrev eight_on : ℕ → ℕ
eight_on index = 8 + index

mapped-places : (indices : List ℕ) → map returned_place indices ≡ map Temp (map eight_on indices)
mapped-places [] = refl
mapped-places (index ∷ indices) = ap (λ l. returned_place index ∷ l) (mapped-places indices)

later-apart : (first count from : ℕ) → first < from
    → list_any (λ m. eight_on first == m) (map eight_on (range_with_len from count)) ≡ false
later-apart first zero from less = refl
later-apart first (suc count) from less =
    ap₂ (λ a b. a || b) (ne_eqb (eight_on first) (eight_on from) (λ same. omega (arith, same, less)))
    (later-apart first count (from + 1) (omega (arith, less)))

places-differ : (count from : ℕ) → all_differ (map eight_on (range_with_len from count)) ≡ true
places-differ zero from = refl
places-differ (suc count) from =
    and_both (not (list_any (λ m. eight_on from == m) (map eight_on (range_with_len (from + 1) count))))
    (all_differ (map eight_on (range_with_len (from + 1) count)))
    (ap not (later-apart from count (from + 1) (omega arith))) (places-differ count (from + 1))

call-passes : (caller : Procedure) (height : ℕ) (callee : Procedure)
    → CallPasses (given_back callee) (results_of callee) (arguments_of caller height callee)
call-passes caller height callee =
    let count = 2 * length (given_back callee) in
    record {
      words = map (argument_value caller height) (range_with_len 0 callee.frame.args);
      taken = refl;
      temporaries = map eight_on (range_with_len 0 count);
      given = ap (λ l. passed ++ l) (mapped-places (range_with_len 0 count));
      differ = places-differ count 0;
      two = length-map-range_with_len eight_on 0 count;
    }

-- Statements that are no calls pass nothing.

no-pass : (back : ℕ → List ℕ) (stmt : Stmt) → is_call stmt ≡ false → StmtPasses back stmt
no-pass back (Call results entry arguments depth) none = absurd (true≢false none)
no-pass back stmt none = tt

none-pass : (back : ℕ → List ℕ) (stmts : List Stmt) → list_any is_call stmts ≡ false → All (StmtPasses back) stmts
none-pass back [] none = All-nil (StmtPasses back)
none-pass back (stmt ∷ stmts) none =
    let both = none-left (is_call stmt) (list_any is_call stmts) none in
    All-cons (StmtPasses back) stmt stmts (no-pass back stmt both.0) (none-pass back stmts both.1)

module _ (image : Image) (program : Analysed) (p : Program) (is : IsTranslated image program p) where
  open program use {layout}

  abbrev back : ℕ → List ℕ
  back = back_of (procedures_in program)

  -- what the procedure with an entry gives back
  back-is : (entry : ℕ) (is_entry : IsEntry image layout entry)
      → back entry ≡ given_back (procedure_at_entry image program p is entry is_entry)
  back-is entry is_entry =
      ap (λ o. elim o [ None ↦ [] | Some q ↦ given_back q ])
      (located_at image program p is entry is_entry).procedure_found

  module _ (entry : ℕ) (is_entry : IsEntry image layout entry) where
    open translated_at image program p is entry is_entry use {procedure, graph}

    graph-passes : entry ≢ layout.start_ip → GraphPasses (back graph.entry) graph
    graph-passes other =
        subst (λ numbers. GraphPasses numbers graph)
        (sym (ap back (entry-of image program p is entry is_entry) ∙ back-is entry is_entry)) (record {
          words = argument_params procedure;
          params = record {
            stack = words-stand procedure;
            params = params-later image program p is entry is_entry other;
          };
          known = numbers-known procedure;
          rets =
              All-weaker (IsFormedBlock image program p is entry is_entry)
              (λ (b : Block). RetPasses (argument_params procedure) (given_back procedure) b.exit)
              (λ b formed. ret-passes procedure b.exit formed.rets) graph.blocks
              (all-formed image program p is entry is_entry);
        })

    calls-pass : All (λ (b : Block). All (StmtPasses back) b.stmts) graph.blocks
    calls-pass =
        All-weaker (IsFormedBlock image program p is entry is_entry) (λ (b : Block). All (StmtPasses back) b.stmts)
        (λ b formed.
        by-work image program p is (λ stmts exit. All (StmtPasses back) stmts)
        (λ stmts exit work. none-pass back stmts (sound-parts stmts work.sound).none) entry is_entry
        (λ target height place target_entry other small.
        let callee = procedure_at_entry image program p is target target_entry in
        let few = given-few callee (args-few image program p is target target_entry) in
        let rest = taking_all_back procedure height 0 (given_back callee) in
        let named : callee.proc.entry ≡ target = (located_at image program p is target target_entry).entry_is in
        All-cons (StmtPasses back)
        (Call (results_of callee) callee.proc.entry (arguments_of procedure height callee) (height + 2)) rest
        (subst (λ numbers. CallPasses numbers (results_of callee) (arguments_of procedure height callee))
        (sym (ap back named ∙ back-is target target_entry)) (call-passes procedure height callee))
        (none-pass back rest
        (sound-parts rest (taking-all-sound procedure height 0 (given_back callee) (omega (arith, few)))).none))
        b.stmts b.exit formed.work)
        graph.blocks (all-formed image program p is entry is_entry)

  pub passes-all : PassesAll (back_of (procedures_in program)) p
  passes-all = record {
    graphs = later-graphs image program p is (λ (g : Graph). GraphPasses (back g.entry) g) graph-passes;
    calls =
        all-graphs image program p is (λ (g : Graph). All (λ (b : Block). All (StmtPasses back) b.stmts) g.blocks)
        calls-pass;
  }
