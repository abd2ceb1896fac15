-- A program of a caller and its callee, between which all halves and flags pass, though nothing is wanted: what the
-- passes leave of it is prepared.
use Rattle.std.proofs.Common.{arith, lit≤, ◌≡◌, ℕ, zero, suc, ◌<◌, true, false, cond, inl, List, [], ◌∷◌, map, Option, Some, None, refl, sym, ◌∙◌, true≢false}
use Rattle.std.specs.Prelude.{All, ◌==◌}
use Rattle.std.proofs.lemmas.List.Elements.{All-nil, All-cons}
use Rattle.dcc_num.specs.declared.Reg.TheVariants.{Ax}
use Rattle.dcc_ir.specs.declared.syntax.Loc.{Loc}
use Rattle.dcc_ir.specs.declared.syntax.Param.{Param}
use Rattle.dcc_ir.specs.Tree.{Const, Get, Block, Graph, Program, Summary}
use Rattle.dcc_ir.specs.Ends.{is_ret, is_switch, stops_soundly, IsNeverStuck}
use Rattle.dcc_ir.specs.FlagReads.{FlagsReadPlainly}
use Rattle.dcc_ir.specs.Flow.{graph_or_none}
use Rattle.dcc_ir.specs.Passing.{passed, param_of, AreNumbers, RetPasses, GraphPasses, StmtPasses, PassesAll}
use Rattle.dcc_ir.specs.Run.{no_graph, graph_at}
use Rattle.dcc_ir.specs.WellFormed.{IsProgram}
use Rattle.dcc_ir.proofs.CallingPrograms as calling
use Rattle.dcc_ir.proofs.CallingPrograms.{one}
use Rattle.dcc_ir.proofs.LocationLaws.{Contains-none, among_contains, contains_among}
use Rattle.dcc_ir.proofs.UnstuckLaws as unstuck
use Rattle.dcc_demand.specs.Procedures.{Leaves, Procedures, ChangeFamily, CallChanges}
use Rattle.dcc_demand.specs.Changes.{Loses, Changes, ChangesWithin}
use Rattle.dcc_demand.specs.Wanted.{Wanted, IsClosedUnderDemand}
use Rattle.dcc_demand.proofs.WantedLaws.{wanted-least}
use Rattle.dcc_sums.specs.Points.{Position, site_of}
use Rattle.dcc_sums.specs.Instance.{action_at, procedures_of}
use Rattle.dcc_sums.specs.Summaries.{IsSummary, AreSummaries, ReusesNone, AreOneValue, GivesOneValue}
use Rattle.dcc_sums.specs.Localised.{localised}
use Rattle.dcc_ir.specs.Use.{graph_exprs}
use Rattle.dcc_lift.specs.Lifted.{IsShallow}
use Rattle.dcc_signatures.specs.Packed.{packed}
use Rattle.dcc_pipe.specs.Textable.{lifted_levels, TakesApart}
use Rattle.dcc_pipe.specs.Simplified.{IsSimplifiedGraph, HasEachChanged}
use Rattle.dcc_pipe.specs.Prepared.{HasLiftedForm, IsPrepared}
use Rattle.dcc_pipe.proofs.PreparedLaws.{what-is_left-is_prepared}
use Rattle.dcc_pipe.proofs.SimplifiedLaws.{none-deeper}

abbrev halves : List Param
halves = map param_of passed

abbrev program : Program
program = calling.program 0x4C (Const 8 0) [] [] passed (map Get passed) halves (map Get passed)

abbrev caller : Graph
caller = calling.caller 0x4C (Const 8 0) [] [] passed (map Get passed) halves (map Get passed)

abbrev callee : Graph
callee = calling.callee 0x4C (Const 8 0) [] [] passed (map Get passed) halves (map Get passed)

abbrev calling_block : Block
calling_block = calling.calling_block 0x4C (Const 8 0) [] [] passed (map Get passed) halves (map Get passed)

abbrev last_block : Block
last_block = calling.last_block 0x4C (Const 8 0) [] [] passed (map Get passed) halves (map Get passed)

abbrev callee_block : Block
callee_block = calling.callee_block 0x4C (Const 8 0) [] [] passed (map Get passed) halves (map Get passed)

program-formed : IsProgram program
program-formed = calling.formed 0x4C (Const 8 0) [] [] passed (map Get passed) halves (map Get passed) refl refl refl refl refl refl refl refl refl

of-both : (P : Graph → Type 0) → P caller → P callee → All P program.graphs
of-both = calling.of_both 0x4C (Const 8 0) [] [] passed (map Get passed) halves (map Get passed)

of-blocks : (P : Block → Type 0) → P calling_block → P last_block → All P caller.blocks
of-blocks P h k = All-cons P calling_block (last_block ∷ []) h (one P last_block k)

-- No run is stuck.

program-unstuck : IsNeverStuck program
program-unstuck = unstuck.never_stuck program program-formed (record {
  stops = of-both (λ g. All (λ b. stops_soundly b.stmts b.exit ≡ true) g.blocks)
      (of-blocks (λ b. stops_soundly b.stmts b.exit ≡ true) refl refl)
      (one (λ b. stops_soundly b.stmts b.exit ≡ true) callee_block refl);
  returns = one (λ g. All (λ b. is_ret b.exit ≡ false) g.blocks) caller (of-blocks (λ b. is_ret b.exit ≡ false) refl refl);
  switches = unstuck.no_switch_places program program-formed (of-both (λ g. All (λ b. is_switch b.exit ≡ false) g.blocks)
      (of-blocks (λ b. is_switch b.exit ≡ false) refl refl) (one (λ b. is_switch b.exit ≡ false) callee_block refl));
})

-- All halves and flags pass, and flags are read plainly.

abbrev no_words : ℕ → List ℕ
no_words entry = []

no-numbers : AreNumbers [] []
no-numbers = record { ascending = λ k less. absurd (omega (arith, less)); words = All-nil (λ j. j < 0) }

all-pass : PassesAll no_words program
all-pass = record {
  graphs = one (λ g. GraphPasses (no_words g.entry) g) callee (record {
    words = [];
    params = record { stack = refl; params = refl };
    known = no-numbers;
    rets = one (λ b. RetPasses [] [] b.exit) callee_block refl;
  });
  calls = of-both (λ g. All (λ b. All (StmtPasses no_words) b.stmts) g.blocks)
      (of-blocks (λ b. All (StmtPasses no_words) b.stmts)
      (one (StmtPasses no_words) _ (record { words = []; taken = refl; temporaries = []; given = refl; differ = refl; two = refl }))
      (one (StmtPasses no_words) _ tt))
      (one (λ b. All (StmtPasses no_words) b.stmts) callee_block (All-nil (StmtPasses no_words)));
}

reads-plain : All FlagsReadPlainly program.graphs
reads-plain = of-both FlagsReadPlainly (record { flat = refl; plain = refl }) (record { flat = refl; plain = refl })

-- Nothing is wanted or changed.

abbrev P : Procedures Position Loc Loc
P = procedures_of program

abbrev at : ℕ → ℕ → Position
at block done = record { block = block; done = done }

-- what holds of the two graphs, and of one without blocks, holds of that with any entry
of-each : (Q : Graph → Type 0) → Q caller → Q callee → Q no_graph → (i : ℕ) → Q (graph_or_none (graph_at program.graphs i))
of-each Q h k n i = elim (0 == i) as (λ t. Q (graph_or_none (cond t (Some caller) (graph_at (callee ∷ []) i)))) [
  | true ↦ h
  | false ↦ elim (32 == i) as (λ t. Q (graph_or_none (cond t (Some callee) None))) [ true ↦ k | false ↦ n ]
]

-- no point of the graph uses or writes a location
abbrev IsIdle : Graph → Type 0
IsIdle g = (block done : ℕ) (l : Loc) → ((action_at g.pushed (site_of g (at block done))).uses l ≡ false)
    × ((action_at g.pushed (site_of g (at block done))).effect l ≡ Leaves)

caller-idle : IsIdle caller
caller-idle zero zero l = (refl, refl)
caller-idle zero (suc zero) l = (refl, refl)
caller-idle zero (suc (suc n)) l = (refl, refl)
caller-idle (suc zero) zero l = (refl, refl)
caller-idle (suc zero) (suc zero) l = (refl, refl)
caller-idle (suc zero) (suc (suc n)) l = (refl, refl)
caller-idle (suc (suc m)) zero l = (refl, refl)
caller-idle (suc (suc m)) (suc n) l = (refl, refl)

callee-idle : IsIdle callee
callee-idle zero zero l = (refl, refl)
callee-idle zero (suc n) l = (refl, refl)
callee-idle (suc m) zero l = (refl, refl)
callee-idle (suc m) (suc n) l = (refl, refl)

none-idle : IsIdle no_graph
none-idle block zero l = (refl, refl)
none-idle block (suc n) l = (refl, refl)

idle : (i : ℕ) (a : Position) (l : Loc) → (((P.procedure i).action a).uses l ≡ false) × (((P.procedure i).action a).effect l ≡ Leaves)
idle i a l = of-each IsIdle caller-idle callee-idle none-idle i a.block a.done l

nothing-wanted : (i : ℕ) (a : Position) (l : Loc) → Wanted P i a l → ⊥
nothing-wanted i a l h = wanted-least P (Changes P) (λ i a l. ⊥) closed h
  where
    closed : IsClosedUnderDemand P (Changes P) (λ i a l. ⊥)
    closed = record {
      used = λ i a l uses. true≢false (sym uses ∙ (idle i a l).0);
      exposed = λ i a l is. true≢false (sym is);
      made_of = λ i a b l to goes writes made wanted. wanted;
      unwritten = λ i a b l goes left unchanged wanted. wanted;
      taken = λ i callee a l calls passes wanted. wanted;
      given_back = λ i caller a call after l returns changes calls goes wanted. wanted;
    }

module _ (changed : ChangeFamily Loc) (none : (i : ℕ) (l : Loc) → changed i l → ⊥) where
  no-call : (callee : Option ℕ) (l : Loc) → CallChanges changed callee l → ⊥
  no-call (Some entry) l changes = none entry l changes
  no-call None l changes = changes

  nothing-lost : (i : ℕ) (l : Loc) (positions : List Position) → Loses changed (P.procedure i) l positions → ⊥
  nothing-lost i l positions (Loses.in_call {a = a} changes) = no-call ((P.procedure i).action a).callee l changes
  nothing-lost i l positions (Loses.made {a = a} e) = let left = (idle i a l).1 in absurd (cc)
  nothing-lost i l positions (Loses.copied {a = a} e) = let left = (idle i a l).1 in absurd (cc)
  nothing-lost i l positions (Loses.popped_open {a = a} e open_word) = let left = (idle i a l).1 in absurd (cc)
  nothing-lost i l positions (Loses.popped_unsaved {a = a} e unsaved) = let left = (idle i a l).1 in absurd (cc)
  nothing-lost i l positions (Loses.left {passed = before} e lost) = nothing-lost i l before lost

never-changed : (i : ℕ) (l : Loc) → Changes P i l → ⊥
never-changed i l c = go c.0 i l c.1
  where
    go : (depth i : ℕ) (l : Loc) → ChangesWithin P depth i l → ⊥
    go zero i l h = h
    go (suc depth) i l h = nothing-lost (ChangesWithin P depth) (go depth) i l h.passed h.loses

-- No summary of the example tells of anything that passes.

abbrev idle_sum : Summary
idle_sum = record { params = []; results = []; preserved = passed }

sum-is : (g : Graph) → IsSummary program g idle_sum
sum-is g = record {
  params = record { order = refl; exact = λ l. (λ c. absurd (Contains-none l c), λ h. absurd (nothing-wanted g.entry _ l h.1.wanted)) };
  results = record { order = refl; exact = λ l. (λ c. absurd (Contains-none l c), λ h. absurd (never-changed g.entry l h.changes)) };
  preserved = record { order = refl; exact = λ l. (λ c. (contains_among passed l c, never-changed g.entry l), λ h. among_contains passed l h.0) };
}

abbrev sums : List Summary
sums = idle_sum ∷ idle_sum ∷ []

are-sums : AreSummaries program sums
are-sums = (sum-is caller, (sum-is callee, tt))

reuses-none : ReusesNone program
reuses-none entry a l reused = nothing-wanted entry _ l reused.wanted

one-value : GivesOneValue sums
one-value = All-cons (λ (sum : Summary). AreOneValue sum.results) idle_sum (idle_sum ∷ []) (inl (Ax, All-nil _))
    (one (λ (sum : Summary). AreOneValue sum.results) idle_sum (inl (Ax, All-nil _)))

-- The law applies.

has-form : HasLiftedForm program
has-form = record {
  textable = record {
    formed = program-formed;
    shallow = of-both (IsShallow lifted_levels) (none-deeper lifted_levels (graph_exprs caller) (lit≤ tt))
        (none-deeper lifted_levels (graph_exprs callee) (lit≤ tt));
    never_stuck = program-unstuck;
  };
  back = no_words;
  passes = all-pass;
  apart = of-both TakesApart refl refl;
  reads = reads-plain;
}

it-is_prepared : (q : Program) → HasEachChanged IsSimplifiedGraph (packed (localised sums program)) q → IsPrepared program q
it-is_prepared q left =
    what-is_left-is_prepared program q sums has-form (record { are = are-sums; reuses = reuses-none; one = one-value }) left
