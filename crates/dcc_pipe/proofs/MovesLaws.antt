-- A graph that is prepared, of a procedure that exposes no local byte, takes an address that is told from no parameter only
-- where the procedure moves SP by a sum, and then a temporary is set to it.
use Rattle.std.proofs.Common.{◌≡◌, ℕ, zero, suc, ◌+◌, ◌*◌, ◌<◌, ◌≤◌, Bool, true, false, inl, inr, List, [], ◌∷◌, ◌++◌, map, Option, Some, refl, sym, ap, ◌∙◌, subst, true≢false, le-leb, lt-ltb, arith}
use Rattle.std.specs.Prelude.{if◌then◌else◌, nat_le, nat_lt, All}
use Rattle.std.specs.List.{AllZip, range_with_len}
use Rattle.std.proofs.lemmas.Bool.{cases_lt, and_from}
use Rattle.std.proofs.lemmas.List.Elements.{All-head, All-tail}
use Rattle.dcc_machine.specs.declared.image.Image.{Image}
use Rattle.dcc_prog.specs.declared.frame.Program.{Program as Analysed}
use Rattle.dcc_prog.specs.Frame.{argument_word}
use Rattle.dcc_prog.specs.Trail.{IsEntry}
use Rattle.dcc_stack.specs.Slots.{exposes_of}
use Rattle.dcc_ir.specs.declared.syntax.Param.{Param}
use Rattle.dcc_ir.specs.Tree.{Graph, Program}
use Rattle.dcc_ir.specs.Trimmed.{Trim, trim_graph}
use Rattle.dcc_ir.specs.WellFormed.{is_memory}
use Rattle.dcc_simulation.specs.Nodes.{procedures_in, IsGraphFor}
use Rattle.dcc_simulation.specs.Passed.{argument_param}
use Rattle.dcc_simulation.specs.Procedures.{Procedure, procedure_at}
use Rattle.dcc_lift.specs.Translated.{IsTranslated}
use Rattle.dcc_lift.proofs.FormDrawn.{all-graphs}
use Rattle.dcc_lift.proofs.FormGraphs.{entry-of}
use Rattle.dcc_lift.proofs.FormScenes.{graph_of_entry, procedure_at_entry}
use Rattle.dcc_lift.proofs.LocatedBlocks.{located_at}
use Rattle.dcc_signatures.specs.Packed.{pack_graph}
use Rattle.dcc_variables.specs.Functions.{memory_from}
use Rattle.dcc_variables.specs.Variables.{is_told_from}
use Rattle.dcc_pipe.specs.Simplified.{IsSimplifiedGraph}
use Rattle.dcc_pipe.specs.Standing.{StandsForProcedure}
use Rattle.dcc_pipe.specs.TypedFrames.{moves_sp}
use Rattle.dcc_pipe.proofs.GraphAddresses.{blocks_told, graph-told}
use Rattle.dcc_pipe.proofs.LeftAddresses.{AllTold, blocks-all, trimmed-told, packed-told, simplified-told}

-- Addresses of arguments in memory are told from the first of these.

module _ (x : Procedure) (others : List Param) where
  record IsFirst (a n : ℕ) (params : List Param) : Type 0 where
    place : ℕ
    is : memory_from a params ≡ Some place
    below : place ≤ n

  words-first : (a m n : ℕ) → a ≤ n → n < a + m → is_memory (argument_param x n).put ≡ true
      → IsFirst a n (map (argument_param x) (range_with_len a m) ++ others)
  words-first a zero n low high told = absurd (omega (arith, low, high))
  words-first a (suc m) n low high told = by (is_memory (argument_param x a).put) refl (words-first (a + 1) m n)
    where
      later : (is_memory (argument_param x a).put ≡ false) → a + 1 ≤ n
      later away = elim (cases_lt a n) [
        | inl less ↦ omega (arith, less)
        | inr le ↦
            let same : n ≡ a = omega (arith, le, low) in
            absurd (true≢false (sym told ∙ ap (λ k. is_memory (argument_param x k).put) same ∙ away))
      ]

      by : (b : Bool) → is_memory (argument_param x a).put ≡ b
          → (a + 1 ≤ n → n < (a + 1) + m → is_memory (argument_param x n).put ≡ true
          → IsFirst (a + 1) n (map (argument_param x) (range_with_len (a + 1) m) ++ others))
          → IsFirst a n (map (argument_param x) (range_with_len a (suc m)) ++ others)
      by true here next = record {
        place = a;
        is = ap (λ b. if b then Some a else memory_from (a + 1) (map (argument_param x) (range_with_len (a + 1) m) ++ others)) here;
        below = low;
      }
      by false away next =
          let rest = next (later away) (omega (arith, high)) told in record {
            place = rest.place;
            is = ap (λ b. if b then Some a else memory_from (a + 1) (map (argument_param x) (range_with_len (a + 1) m) ++ others)) away ∙ rest.is;
            below = rest.below;
          }

told-at : (told : Option ℕ) (place n d : ℕ) → told ≡ Some place → place ≤ n → 2 * n ≤ d → d < 32768
    → is_told_from told d ≡ true
told-at told place n d is below low small =
    ap (λ o. is_told_from o d) is
    ∙ and_from (nat_le (2 * place) d) (nat_lt d 32768) (le-leb (2 * place) d (omega (arith, below, low))) (lt-ltb d 32768 small)

-- the graph has local bytes in memory, or takes such an address only where its procedure moves SP by a sum
abbrev pub MovesWhere : Procedure → Graph → Type 0
MovesWhere x h = h.local ≡ 0 → AllTold (is_told_from (memory_from 0 h.params)) (moves_sp x.proc) h

-- What is lifted of a procedure.

module _ (image : Image) (program : Analysed) (p : Program) (is : IsTranslated image program p) where
  abbrev Memory : Procedure → Type 0
  Memory x = (n : ℕ) → n < x.frame.args → is_memory (argument_param x n).put ≡ exposes_of x.frame (argument_word n)

  abbrev Tested : Procedure → (ℕ → Bool) → Type 0
  Tested x test = (n : ℕ) → n < x.frame.args → exposes_of x.frame (argument_word n) ≡ true → (d : ℕ) → 2 * n ≤ d
      → d < 32768 → test d ≡ true

  abbrev LiftedPass : Graph → Type 0
  LiftedPass g = (x : Procedure) → procedure_at (procedures_in program) g.entry ≡ Some x → x.frame.exposed.local ≡ 0
      → Memory x → (test : ℕ → Bool) → Tested x test → AllTold test (moves_sp x.proc) g

  entry-passes : (entry : ℕ) (is_entry : IsEntry image program.layout entry)
      → LiftedPass (graph_of_entry image program p is entry is_entry)
  entry-passes entry is_entry x found none memory test tested =
      let here = located_at image program p is entry is_entry in
      let found_here : procedure_at (procedures_in program) entry ≡ Some x =
      sym (ap (procedure_at (procedures_in program)) (entry-of image program p is entry is_entry)) ∙ found in
      let same : procedure_at_entry image program p is entry is_entry ≡ x = some-equal (sym here.procedure_found ∙ found_here) in
      blocks-all test (moves_sp x.proc) (graph_of_entry image program p is entry is_entry).blocks (of x same none memory tested)
    where
      some-equal : {A : Type 0} {a b : A} → Some a ≡ Some b → a ≡ b
      some-equal e = cc

      of : (x : Procedure) → procedure_at_entry image program p is entry is_entry ≡ x → x.frame.exposed.local ≡ 0
          → Memory x → Tested x test
          → blocks_told test (moves_sp x.proc) (graph_of_entry image program p is entry is_entry).blocks ≡ true
      of x same =
          subst (λ x. x.frame.exposed.local ≡ 0 → Memory x → Tested x test
          → blocks_told test (moves_sp x.proc) (graph_of_entry image program p is entry is_entry).blocks ≡ true) same
          (λ none memory tested. graph-told image program p is entry is_entry none memory test tested)

  pub lifted-pass : All LiftedPass p.graphs
  lifted-pass = all-graphs image program p is LiftedPass entry-passes

  -- What is prepared of it.

  graph-moves : (trim : Trim) (x : Procedure) (g h : Graph) → procedure_at (procedures_in program) g.entry ≡ Some x
      → LiftedPass g → StandsForProcedure x h → IsSimplifiedGraph (pack_graph (trim_graph trim g)) h → MovesWhere x h
  graph-moves trim x g h found passes stands simplified zero_local =
      let test = is_told_from (memory_from 0 h.params) in
      let sums = moves_sp x.proc in
      simplified-told test sums (pack_graph (trim_graph trim g)) h simplified
      (packed-told test sums (trim_graph trim g)
      (trimmed-told test sums trim g (passes x found (sym stands.local ∙ zero_local) stands.memory test first)))
    where
      first : (n : ℕ) → n < x.frame.args → exposes_of x.frame (argument_word n) ≡ true → (d : ℕ) → 2 * n ≤ d → d < 32768
          → is_told_from (memory_from 0 h.params) d ≡ true
      first n less exposes d low small =
          let of = words-first x stands.others 0 x.frame.args n (omega arith) (omega (arith, less)) (stands.memory n less ∙ exposes) in
          told-at (memory_from 0 h.params) of.place n d (ap (memory_from 0) stands.params ∙ of.is) of.below low small

  pub graphs-move : (trim : Trim) (start : ℕ) (xs : List Procedure) (gs hs : List Graph)
      → AllZip (IsGraphFor start) xs gs → All (λ (x : Procedure). procedure_at (procedures_in program) x.proc.entry ≡ Some x) xs
      → All LiftedPass gs → AllZip StandsForProcedure xs hs
      → AllZip IsSimplifiedGraph (map pack_graph (map (trim_graph trim) gs)) hs → AllZip MovesWhere xs hs
  graphs-move trim start [] [] [] graphs found passes stand left = tt
  graphs-move trim start [] [] (h ∷ hs) graphs found passes stand left = absurd stand
  graphs-move trim start [] (g ∷ gs) hs graphs found passes stand left = absurd graphs
  graphs-move trim start (x ∷ xs) [] hs graphs found passes stand left = absurd graphs
  graphs-move trim start (x ∷ xs) (g ∷ gs) [] graphs found passes stand left = absurd stand
  graphs-move trim start (x ∷ xs) (g ∷ gs) (h ∷ hs) graphs found passes stand left = (
    graph-moves trim x g h
        (ap (procedure_at (procedures_in program)) graphs.0.entry
        ∙ All-head (λ (x : Procedure). procedure_at (procedures_in program) x.proc.entry ≡ Some x) x xs found)
        (All-head LiftedPass g gs passes) stand.0 left.0,
    graphs-move trim start xs gs hs graphs.1
        (All-tail (λ (x : Procedure). procedure_at (procedures_in program) x.proc.entry ≡ Some x) x xs found)
        (All-tail LiftedPass g gs passes) stand.1 left.1,
  )
