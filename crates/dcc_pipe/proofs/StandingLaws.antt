-- Each graph that is prepared stands for the procedure at its place.
use Rattle.std.proofs.Common.{◌≡◌, ℕ, ◌<◌, Bool, true, false, cond, List, [], ◌∷◌, ◌++◌, map, Some, refl, sym, ap, ap₂, ◌∙◌, subst, eqb-true, eq-eqb}
use Rattle.std.specs.Prelude.{All, ◌==◌, not, if◌then◌else◌, slice_get}
use Rattle.std.specs.List.{AllZip, find, list_any, range_with_len}
use Rattle.std.proofs.lemmas.Bool.{and_parts, or_parts, not-true}
use Rattle.std.proofs.lemmas.List.Elements.{All-nil, All-cons, All-head, All-tail, All-weaker}
use Rattle.dcc_machine.specs.declared.image.Image.{Image}
use Rattle.dcc_prog.specs.declared.procedure.Layout.{Layout}
use Rattle.dcc_prog.specs.declared.procedure.Proc.{Proc}
use Rattle.dcc_prog.specs.declared.frame.Frame.{Frame}
use Rattle.dcc_prog.specs.declared.frame.Program.{Program as Analysed}
use Rattle.dcc_prog.specs.Analysed.{IsFrameOf}
use Rattle.dcc_prog.specs.Frame.{argument_word, HasArguments, of_start, of_procedure}
use Rattle.dcc_prog.specs.Trail.{IsEntry}
use Rattle.dcc_stack.specs.Accepted.{IsProgramOfFile}
use Rattle.dcc_stack.specs.Slots.{exposes_of}
use Rattle.dcc_ir.specs.declared.syntax.Param.{Param}
use Rattle.dcc_ir.specs.Flow.{graph_or_none}
use Rattle.dcc_ir.specs.Passing.{passed, param_of}
use Rattle.dcc_ir.specs.Run.{graph_at}
use Rattle.dcc_ir.specs.Tree.{Graph, Program, Summary}
use Rattle.dcc_ir.specs.Trimmed.{Trim, trim_graph, kept}
use Rattle.dcc_ir.specs.WellFormed.{all_differ, is_memory}
use Rattle.dcc_simulation.specs.Nodes.{procedures_in, IsGraphFor}
use Rattle.dcc_simulation.specs.Passed.{argument_param, argument_params, params_of}
use Rattle.dcc_simulation.specs.Procedures.{Procedure, procedures_of, procedure_at}
use Rattle.dcc_lift.specs.Lifted.{HasFrameOf, IsLiftOf}
use Rattle.dcc_lift.specs.Translated.{setting}
use Rattle.dcc_lift.proofs.Lifting.{lifting}
use Rattle.dcc_signatures.specs.Packed.{merged, one_param, pack_graph}
use Rattle.dcc_sums.specs.Localised.{summary_at, is_taken, trim_by}
use Rattle.dcc_pipe.specs.Prepared.{IsPrepared}
use Rattle.dcc_pipe.specs.Simplified.{IsSimplifiedGraph}
use Rattle.dcc_pipe.specs.Standing.{IsLocated, StandsForProcedure, PreparedStands}
use Rattle.dcc_pipe.proofs.ArgumentsPlaced.{memory-exposed}
use Rattle.dcc_pipe.proofs.StandingParams.{IsWord, BeginsWith, word-taken, kept-begins, merged-begins}

-- Elements by their keys.

module _ {X : Type 0} (key : X → ℕ) where
  -- the first of these with the key of an element is that element
  abbrev IsAlone : List X → X → Type 0
  IsAlone xs x = find (λ y. key y == key x) xs ≡ Some x

  later-alone : (x : X) (ys xs : List X) → list_any (λ n. key x == n) (map key ys) ≡ false → All (IsAlone xs) ys
      → All (IsAlone (x ∷ xs)) ys
  later-alone x [] xs none alone = All-nil (IsAlone (x ∷ xs))
  later-alone x (y ∷ ys) xs none alone =
      let parts = or_parts (key x == key y) (list_any (λ n. key x == n) (map key ys)) none in
      All-cons (IsAlone (x ∷ xs)) y ys
      (ap (λ b. cond b (Some x) (find (λ z. key z == key y) xs)) parts.0 ∙ All-head (IsAlone xs) y ys alone)
      (later-alone x ys xs parts.1 (All-tail (IsAlone xs) y ys alone))

  each-alone : (xs : List X) → all_differ (map key xs) ≡ true → All (IsAlone xs) xs
  each-alone [] differ = All-nil (IsAlone [])
  each-alone (x ∷ xs) differ =
      let parts = and_parts (not (list_any (λ n. key x == n) (map key xs))) (all_differ (map key xs)) differ in
      All-cons (IsAlone (x ∷ xs)) x xs
      (ap (λ b. cond b (Some x) (find (λ y. key y == key x) xs)) (eq-eqb (key x) (key x) refl))
      (later-alone x xs xs (not-true (list_any (λ n. key x == n) (map key xs)) parts.0) (each-alone xs parts.1))

graph-found : (graphs : List Graph) (entry : ℕ) → graph_at graphs entry ≡ find (λ (g : Graph). g.entry == entry) graphs
graph-found [] entry = refl
graph-found (g ∷ graphs) entry = ap (cond (g.entry == entry) (Some g)) (graph-found graphs entry)

-- Procedures.

-- the words of the entry procedure are none
start-takes_nothing : (image : Image) (layout : Layout) (entry count : ℕ) → entry ≡ layout.start_ip
    → HasArguments image layout entry count → count ≡ 0
start-takes_nothing image layout entry _ start (of_start same) = refl
start-takes_nothing image layout entry count start (of_procedure other room least) = absurd (other start)

words-stacked : (p : Procedure) (numbers : List ℕ) → All IsWord (map (argument_param p) numbers)
words-stacked p [] = All-nil IsWord
words-stacked p (n ∷ numbers) =
    All-cons IsWord (argument_param p n) (map (argument_param p) numbers) refl (words-stacked p numbers)

passed-located : All IsLocated (map param_of passed)
passed-located = each passed
  where
    each : (locations : List _) → All IsLocated (map param_of locations)
    each [] = All-nil IsLocated
    each (l ∷ ls) = All-cons IsLocated (param_of l) (map param_of ls) (refl, refl) (each ls)

-- what is known of a procedure that is found
record IsKnown (start : ℕ) (p : Procedure) : Type 0 where
  none : p.proc.entry ≡ start → p.frame.args ≡ 0
  memory : (number : ℕ) → number < p.frame.args
      → is_memory (argument_param p number).put ≡ exposes_of p.frame (argument_word number)

-- Graphs.

module _ (graphs : List Graph) (sums : List Summary) where
  abbrev trim : Trim
  trim = trim_by graphs sums

  -- what is left of the graph where less passes, and where what passes together is one
  abbrev together : Graph → Graph
  together g = pack_graph (trim_graph trim g)

  params-begin : (start : ℕ) (p : Procedure) (g : Graph) → IsKnown start p → IsGraphFor start p g
      → graph_at graphs g.entry ≡ Some g → BeginsWith (argument_params p) (together g).params
  params-begin start p g known is found = by (p.proc.entry == start) refl
    where
      stays : ℕ → Bool
      stays = trim.takes g.entry

      taken : (params : List Param) → g.params ≡ params
          → stays ≡ (λ k. is_taken (summary_at graphs sums g.entry).params (slice_get params k))
      taken params same =
          ap (λ ps k. is_taken (summary_at graphs sums g.entry).params (slice_get ps k))
          (ap (λ o. (graph_or_none o).params) found ∙ same)

      left : (params : List Param) → g.params ≡ params → BeginsWith (argument_params p) (merged one_param (kept stays params))
          → BeginsWith (argument_params p) (together g).params
      left params same begins = subst (λ ps. BeginsWith (argument_params p) (merged one_param (kept stays ps))) (sym same) begins

      of-words : BeginsWith (argument_params p) (kept stays (params_of p))
          → BeginsWith (argument_params p) (merged one_param (kept stays (params_of p)))
      of-words first =
          subst (λ ps. BeginsWith (argument_params p) (merged one_param ps)) (sym first.are)
          (merged-begins (argument_params p) first.others (words-stacked p (range_with_len 0 p.frame.args)) first.located)

      by : (b : Bool) → (p.proc.entry == start) ≡ b → BeginsWith (argument_params p) (together g).params
      by true same =
          let nothing : argument_params p ≡ [] =
          ap (λ n. map (argument_param p) (range_with_len 0 n)) (known.none (eqb-true p.proc.entry start same)) in
          left [] (is.params ∙ ap (λ b. if b then [] else params_of p) same)
          (record { others = []; are = ap (λ ws. ws ++ []) (sym nothing); located = All-nil IsLocated })
      by false other =
          let params = is.params ∙ ap (λ b. if b then [] else params_of p) other in
          left (params_of p) params
          (of-words (kept-begins stays (argument_params p) (map param_of passed) passed-located
          (λ k less. ap (λ (f : ℕ → Bool). f k) (taken (params_of p) params)
          ∙ word-taken (summary_at graphs sums g.entry).params (argument_params p) (map param_of passed)
          (words-stacked p (range_with_len 0 p.frame.args)) k less)))

  stands : (start : ℕ) (p : Procedure) (g h : Graph) → IsKnown start p → IsGraphFor start p g → HasFrameOf p g
      → graph_at graphs g.entry ≡ Some g → IsSimplifiedGraph (together g) h → StandsForProcedure p h
  stands start p g h known is frame found left =
      let begins = params-begin start p g known is found in record {
        entry = left.last.without.entry ∙ left.flags.form.entry ∙ left.first.without.entry ∙ is.entry;
        others = begins.others;
        params = left.last.without.params ∙ left.flags.form.params ∙ left.first.without.params ∙ begins.are;
        located = begins.located;
        memory = known.memory;
        local = left.last.without.local ∙ left.flags.form.local ∙ left.first.without.local ∙ frame.local;
        pushed = left.last.without.pushed ∙ left.flags.form.pushed ∙ left.first.without.pushed ∙ frame.pushed;
      }

  abbrev IsFound : Graph → Type 0
  IsFound g = graph_at graphs g.entry ≡ Some g

  all-stand : (start : ℕ) (ps : List Procedure) (gs hs : List Graph) → All (IsKnown start) ps
      → AllZip (IsGraphFor start) ps gs → AllZip HasFrameOf ps gs → All IsFound gs
      → AllZip IsSimplifiedGraph (map pack_graph (map (trim_graph trim) gs)) hs → AllZip StandsForProcedure ps hs
  all-stand start [] [] [] known are frames found left = tt
  all-stand start [] [] (h ∷ hs) known are frames found left = absurd left
  all-stand start [] (g ∷ gs) hs known are frames found left = absurd are
  all-stand start (p ∷ ps) [] hs known are frames found left = absurd are
  all-stand start (p ∷ ps) (g ∷ gs) [] known are frames found left = absurd left
  all-stand start (p ∷ ps) (g ∷ gs) (h ∷ hs) known are frames found left = (
    stands start p g h (All-head (IsKnown start) p ps known) are.0 frames.0 (All-head IsFound g gs found) left.0,
    all-stand start ps gs hs (All-tail (IsKnown start) p ps known) are.1 frames.1 (All-tail IsFound g gs found) left.1,
  )

-- The program.

entries-same : (start : ℕ) (ps : List Procedure) (gs : List Graph) → AllZip (IsGraphFor start) ps gs
    → map (λ (g : Graph). g.entry) gs ≡ map (λ (p : Procedure). p.proc.entry) ps
entries-same start [] [] are = refl
entries-same start [] (g ∷ gs) are = absurd are
entries-same start (p ∷ ps) [] are = absurd are
entries-same start (p ∷ ps) (g ∷ gs) are = ap₂ (λ n ns. n ∷ ns) are.0.entry (entries-same start ps gs are.1)

-- a procedure that is reached, with its frame
record IsReached (image : Image) (layout : Layout) (p : Procedure) : Type 0 where
  is_entry : IsEntry image layout p.proc.entry
  frame : IsFrameOf image layout p.proc p.frame

all-reached : (image : Image) (layout : Layout) (procs : List Proc) (frames : List Frame)
    → All (λ (proc : Proc). IsEntry image layout proc.entry) procs → AllZip (IsFrameOf image layout) procs frames
    → All (IsReached image layout) (procedures_of layout procs frames)
all-reached image layout [] frames reached are = All-nil (IsReached image layout)
all-reached image layout (proc ∷ procs) [] reached are = absurd are
all-reached image layout (proc ∷ procs) (frame ∷ frames) reached are =
    All-cons (IsReached image layout) _ (procedures_of layout procs frames)
    (record { is_entry = All-head (λ (proc : Proc). IsEntry image layout proc.entry) proc procs reached; frame = are.0 })
    (all-reached image layout procs frames (All-tail (λ (proc : Proc). IsEntry image layout proc.entry) proc procs reached)
    are.1)

module _ (image : Image) (program : Analysed) (p q : Program) (file : IsProgramOfFile program.layout.cpu image program)
    (of : IsLiftOf image program p) (is : IsPrepared p q) where
  abbrev layout : Layout
  layout = program.layout

  abbrev procedures : List Procedure
  procedures = procedures_in program

  graphs-differ : all_differ (map (λ (g : Graph). g.entry) p.graphs) ≡ true
  graphs-differ = of.lifted.well_formed.entries

  known-of : (x : Procedure) → IsReached image layout x → procedure_at procedures x.proc.entry ≡ Some x
      → IsKnown layout.start_ip x
  known-of x reached found = record {
    none = λ start. start-takes_nothing image layout x.proc.entry x.frame.args start reached.frame.arguments;
    memory =
        memory-exposed (setting image program p) x.proc.entry x
        (record {
          lifting = lifting image program p file of.translation;
          is_entry = reached.is_entry;
          procedure = found;
        });
  }

  all-known : (xs : List Procedure) → All (IsReached image layout) xs
      → All (λ (x : Procedure). procedure_at procedures x.proc.entry ≡ Some x) xs → All (IsKnown layout.start_ip) xs
  all-known [] reached found = All-nil (IsKnown layout.start_ip)
  all-known (x ∷ xs) reached found =
      All-cons (IsKnown layout.start_ip) x xs
      (known-of x (All-head (IsReached image layout) x xs reached)
      (All-head (λ (x : Procedure). procedure_at procedures x.proc.entry ≡ Some x) x xs found))
      (all-known xs (All-tail (IsReached image layout) x xs reached)
      (All-tail (λ (x : Procedure). procedure_at procedures x.proc.entry ≡ Some x) x xs found))

  pub procedures-found : All (λ (x : Procedure). procedure_at procedures x.proc.entry ≡ Some x) procedures
  procedures-found =
      each-alone (λ (x : Procedure). x.proc.entry) procedures
      (subst (λ l. all_differ l ≡ true) (entries-same layout.start_ip procedures p.graphs of.lifted.graphs) graphs-differ)

  stand-all : AllZip StandsForProcedure procedures q.graphs
  stand-all =
      all-stand p.graphs is.sums layout.start_ip procedures p.graphs q.graphs
      (all-known procedures
      (all-reached image layout program.procs.items program.cells.frames.items file.is_program.procs.reached
      file.is_program.cells.frames)
      procedures-found)
      of.lifted.graphs of.lifted.frames
      (All-weaker (IsAlone (λ (g : Graph). g.entry) p.graphs) (λ (g : Graph). graph_at p.graphs g.entry ≡ Some g)
      (λ g alone. graph-found p.graphs g.entry ∙ alone) p.graphs
      (each-alone (λ (g : Graph). g.entry) p.graphs graphs-differ))
      is.made.graphs

pub prepared-stands : PreparedStands
prepared-stands = stand-all
