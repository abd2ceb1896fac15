-- Programs that passes simplify: what shadows a machine shadows it still.
use Rattle.std.proofs.Common.{◌≡◌, ℕ, ◌*◌, ◌≤◌, Bool, true, false, List, [], ◌∷◌, map, Option, Some, None, refl, sym, ap, ◌∙◌, subst, true≢false, arith}
use Rattle.std.specs.Prelude.{All, if◌then◌else◌}
use Rattle.std.specs.List.{list_all, flat_map, AllZip}
use Rattle.std.proofs.lemmas.Bool.{and_parts, and_from}
use Rattle.std.proofs.lemmas.List.Elements.{All-append, All-contains, All-head, All-tail, All-nil, All-cons}
use Rattle.dcc_run.specs.End.{is_over}
use Rattle.dcc_run.specs.Watched.{Watched}
use Rattle.dcc_run.specs.Shadows.{Shadows, kept_mark, only}
use Rattle.dcc_run.proofs.KeptLaws.{shadows_kept, right_part}
use Rattle.dcc_machine.specs.declared.image.Image.{Image}
use Rattle.dcc_prog.specs.declared.frame.Program.{Program}
use Rattle.dcc_prog.specs.Watch.{watched_machine, first_watch}
use Rattle.dcc_ir.specs.declared.syntax.Loc.{Loc}
use Rattle.dcc_ir.specs.Tree as inner
use Rattle.dcc_ir.specs.Run as run
use Rattle.dcc_ir.specs.Use.{exprs_of, exit_exprs, block_exprs, graph_exprs}
use Rattle.dcc_ir.specs.Measure.{depth_of, deepest}
use Rattle.dcc_ir.specs.FlagReads.{nests_flatly, loads_plainly, FlagsReadPlainly}
use Rattle.dcc_ir.specs.Form.{BlockStays}
use Rattle.dcc_ir.specs.WellFormed.{IsProgram}
use Rattle.dcc_ir.specs.Keeps.{has_block, KeepsRuns, Keeps}
use Rattle.dcc_ir.specs.Ends.{IsNeverStuck}
use Rattle.dcc_ir.specs.Families.{Family, needed, IsWithout, done, stays, goes, IsBlockWithout}
use Rattle.dcc_ir.proofs.RunLaws.{inner_watchable}
use Rattle.dcc_ir.proofs.KeepsLaws.{keeps_trans}
use Rattle.dcc_ir.proofs.FamilyLaws.{needed-closed}
use Rattle.dcc_ir.proofs.passes.ReplaceLaws.{kept_with}
use Rattle.dcc_ir.proofs.ListLaws.{all_had, left_part}
use Rattle.dcc_ir.proofs.ZipLaws.{all_zipped, map_zipped, passes_zipped, weaker_zipped}
use Rattle.dcc_lift.specs.Lifted.{ShadowsMachine, IsShallow}
use Rattle.dcc_live.specs.Dead.{IsWithoutUnneeded}
use Rattle.dcc_flags.specs.Folded.{IsFolded}
use Rattle.dcc_pipe.specs.Textable.{IsTextable}
use Rattle.dcc_pipe.specs.Simplified.{IsSimplifiedGraph, HasEachChanged, IsSimplified}
use Rattle.dcc_passes.specs.Replaced.{StandsFor, with_graphs}
use Rattle.dcc_passes.proofs.ReplacedLaws.{stands-trans, left-from}
use Rattle.dcc_pipe.proofs.ReplacedLaws.{HasSameBlocks, same-blocks-trans, blocks-stay, blocks-stand}
use mathlib.Core.Path.{fun_ext}

-- What passes one after another leave.
pub simplified-trans : (depth wider : ℕ) (p q r : inner.Program) → IsSimplified depth p q → IsSimplified wider q r
    → IsSimplified wider p r
simplified-trans depth wider p q r first second = record {
  textable = second.textable;
  keeps = keeps_trans p q r first.keeps second.keeps;
  places = λ place. second.places place ∙ first.places place;
}

-- The runs.

-- a run whose visits are kept is not stuck either
pub never-stuck : (p q : inner.Program) → KeepsRuns p q → IsNeverStuck p → IsNeverStuck q
never-stuck p q keeps unstuck fill input n entry fits bytes stuck =
    let back = (keeps fill input fits bytes).back n in
    let alike = back.2 (ap is_over stuck) in
    unstuck fill input back.0 entry fits bytes (sym alike.end ∙ stuck)

-- what is kept of places among which all that is kept lies is what is kept of all places
kept-within : {P : Type 0} (kept has : P → Bool) → ((place : P) → kept place ≡ true → has place ≡ true)
    → (place : Option P) → kept_mark kept (kept_mark has place) ≡ kept_mark kept place
kept-within kept has lies None = refl
kept-within kept has lies (Some place) = by (has place) refl (kept place) refl
  where
    by : (there : Bool) → has place ≡ there → (b : Bool) → kept place ≡ b
        → kept_mark kept (if there then Some place else None) ≡ (if b then Some place else None)
    by true inside b is = ap (λ c. if c then Some place else None) is
    by false outside true is = absurd (true≢false (sym (lies place is) ∙ outside))
    by false outside false is = refl

pub only-within : {S P : Type 0} (kept has : P → Bool) (w : Watched S P)
    → ((place : P) → kept place ≡ true → has place ≡ true) → only kept (only has w) ≡ only kept w
only-within kept has w lies =
    ap (λ mark. record w { mark = mark }) (fun_ext (λ s. kept-within kept has lies (w.mark s)))

pub simplified-shadows : (image : Image) (program : Program) (depth : ℕ) (p q : inner.Program) → IsSimplified depth p q
    → ShadowsMachine image program p → ShadowsMachine image program q
simplified-shadows image program depth p q simple shadows fill input fits bytes =
    let machine = watched_machine program in
    let start = first_watch image input in
    let inner_run = run.watched_inner q fill in
    let inner_start = run.first_state q fill input in
    let through =
    shadows_kept (has_block q) (only (has_block p) machine) (run.watched_inner p fill) inner_run
    (inner_watchable p fill) start (run.first_state p fill input) inner_start (shadows fill input fits bytes)
    (simple.keeps.runs fill input fits bytes) in
    subst (λ w. Shadows w start inner_run inner_start)
    (only-within (has_block q) (has_block p) machine (λ place there. sym (simple.places place) ∙ there)) through

-- Statements that are left.

module _ {Has : List inner.Stmt → Loc → Type 0} where
  -- what holds of all statements holds of those that are left
  left-all : (P : inner.Stmt → Bool) {xs ys : List inner.Stmt} → IsWithout Has xs ys → list_all P xs ≡ true
      → list_all P ys ≡ true
  left-all P done all = refl
  left-all P (stays {stmt = stmt} {rest = rest} {rest' = left} others) all =
      let (here, later) = and_parts (P stmt) (list_all P rest) all in
      and_from (P stmt) (list_all P left) here (left-all P others later)
  left-all P (goes {stmt = stmt} {rest = rest} is none others) all =
      left-all P others (and_parts (P stmt) (list_all P rest) all).1

  -- what holds of the expressions of statements holds of those of the statements that are left
  left-exprs : (Q : inner.Expr → Type 0) {xs ys : List inner.Stmt} → IsWithout Has xs ys → All Q (flat_map exprs_of xs)
      → All Q (flat_map exprs_of ys)
  left-exprs Q done all = all
  left-exprs Q (stays {stmt = stmt} {rest = rest} {rest' = left} others) all =
      All-append Q (exprs_of stmt) (flat_map exprs_of left) (left_part Q (exprs_of stmt) (flat_map exprs_of rest) all)
      (left-exprs Q others (right_part Q (exprs_of stmt) (flat_map exprs_of rest) all))
  left-exprs Q (goes {stmt = stmt} {rest = rest} is none others) all =
      left-exprs Q others (right_part Q (exprs_of stmt) (flat_map exprs_of rest) all)

module _ (family : Family) where
  addresses-stay : (bs cs : List inner.Block) → AllZip (IsBlockWithout family) bs cs
      → map (λ b. b.at) cs ≡ map (λ b. b.at) bs
  addresses-stay bs cs left =
      map_zipped (IsBlockWithout family) (λ (b : inner.Block). b.at) (λ (b : inner.Block). b.at) (λ b c is. is.at) bs cs
      left

  block-exprs : (Q : inner.Expr → Type 0) (b c : inner.Block) → IsBlockWithout family b c → All Q (block_exprs b)
      → All Q (block_exprs c)
  block-exprs Q b c is all =
      All-append Q (flat_map exprs_of c.stmts) (exit_exprs c.exit)
      (left-exprs Q is.stmts (left_part Q (flat_map exprs_of b.stmts) (exit_exprs b.exit) all))
      (subst (λ exit. All Q (exit_exprs exit)) (sym is.exit)
      (right_part Q (flat_map exprs_of b.stmts) (exit_exprs b.exit) all))

  stmts-stay : (P : inner.Stmt → Bool) (bs cs : List inner.Block) → AllZip (IsBlockWithout family) bs cs
      → list_all (λ b. list_all P b.stmts) bs ≡ true → list_all (λ b. list_all P b.stmts) cs ≡ true
  stmts-stay P bs cs left all =
      passes_zipped (IsBlockWithout family) (λ b. list_all P b.stmts) (λ b. list_all P b.stmts)
      (λ b c is. left-all P is.stmts) bs cs left all

  exprs-stay : (Q : inner.Expr → Type 0) (bs cs : List inner.Block) → AllZip (IsBlockWithout family) bs cs
      → All Q (flat_map block_exprs bs) → All Q (flat_map block_exprs cs)
  exprs-stay Q [] [] all holds = holds
  exprs-stay Q [] (c ∷ cs) all holds = absurd all
  exprs-stay Q (b ∷ bs) [] all holds = absurd all
  exprs-stay Q (b ∷ bs) (c ∷ cs) all holds =
      All-append Q (block_exprs c) (flat_map block_exprs cs)
      (block-exprs Q b c all.0 (left_part Q (block_exprs b) (flat_map block_exprs bs) holds))
      (exprs-stay Q bs cs all.1 (right_part Q (block_exprs b) (flat_map block_exprs bs) holds))

-- Depth.

pub deepest-of : (n : ℕ) (es : List inner.Expr) → All (λ e. depth_of e ≤ n) es → deepest es ≤ n
deepest-of n [] all = omega arith
deepest-of n (e ∷ es) all =
    let here = All-head (λ x. depth_of x ≤ n) e es all in
    let later = deepest-of n es (All-tail (λ x. depth_of x ≤ n) e es all) in
    omega arith

pub none-deeper : (n : ℕ) (es : List inner.Expr) → deepest es ≤ n → All (λ e. depth_of e ≤ n) es
none-deeper n [] less = All-nil (λ e. depth_of e ≤ n)
none-deeper n (e ∷ es) less =
    All-cons (λ x. depth_of x ≤ n) e es (omega arith) (none-deeper n es (omega arith))

-- Assignments that go.

dead-blocks : (g h : inner.Graph) → IsWithoutUnneeded g h → HasSameBlocks g h
dead-blocks g h is =
    let left = is.without in
    record { entry = left.entry; addresses = addresses-stay (needed g) g.blocks h.blocks left.blocks }

-- a graph without assignments that nothing wants may stand in its place
dead-stands : (g h : inner.Graph) → IsWithoutUnneeded g h → StandsFor g h
dead-stands g h is =
    blocks-stand g h (dead-blocks g h is)
    (λ p formed there. kept_with p (needed g) g h formed there (needed-closed g) is.without)

-- a graph without what nothing wants is no deeper: its expressions are the graph's
dead-shallow : (depth : ℕ) (g h : inner.Graph) → IsWithoutUnneeded g h → IsShallow depth g → IsShallow depth h
dead-shallow depth g h is = exprs-stay (needed g) (λ e. depth_of e ≤ depth) g.blocks h.blocks is.without.blocks

-- the definitions of flags that are left read flags as they did
reads-stay : (g h : inner.Graph) → IsWithoutUnneeded g h → FlagsReadPlainly g → FlagsReadPlainly h
reads-stay g h is reads = record {
  flat = stmts-stay (needed g) nests_flatly g.blocks h.blocks is.without.blocks reads.flat;
  plain = stmts-stay (needed g) loads_plainly g.blocks h.blocks is.without.blocks reads.plain;
}

-- Flags that go.

flags-blocks : (g h : inner.Graph) → IsFolded g h → HasSameBlocks g h
flags-blocks g h is =
    let addresses =
    map_zipped (BlockStays g.bits h.bits) (λ (b : inner.Block). b.at) (λ (b : inner.Block). b.at)
    (λ b c stays. stays.at) g.blocks h.blocks is.form.blocks in
    record { entry = is.form.entry; addresses = addresses }

flags-stands : (g h : inner.Graph) → IsFolded g h → StandsFor g h
flags-stands g h is = blocks-stand g h (flags-blocks g h is) is.keeps

flags-shallow : (depth : ℕ) (g h : inner.Graph) → IsFolded g h → FlagsReadPlainly g → IsShallow depth g
    → IsShallow (2 * depth) h
flags-shallow depth g h is reads shallow =
    let few = deepest-of depth (graph_exprs g) shallow in
    none-deeper (2 * depth) (graph_exprs h) (omega (arith, is.depth reads.flat, few))

-- The passes, one after another.

graph-stands : (g h : inner.Graph) → IsSimplifiedGraph g h → StandsFor g h
graph-stands g h is =
    stands-trans g is.wanted h (dead-stands g is.wanted is.first)
    (stands-trans is.wanted is.folded h (flags-stands is.wanted is.folded is.flags) (dead-stands is.folded h is.last))

graph-blocks : (g h : inner.Graph) → IsSimplifiedGraph g h → HasSameBlocks g h
graph-blocks g h is =
    same-blocks-trans g is.wanted h (dead-blocks g is.wanted is.first)
    (same-blocks-trans is.wanted is.folded h (flags-blocks is.wanted is.folded is.flags)
    (dead-blocks is.folded h is.last))

graph-shallow : (depth : ℕ) (g h : inner.Graph) → IsSimplifiedGraph g h → IsShallow depth g × FlagsReadPlainly g
    → IsShallow (2 * depth) h
graph-shallow depth g h is has =
    dead-shallow (2 * depth) is.folded h is.last
    (flags-shallow depth is.wanted is.folded is.flags (reads-stay g is.wanted is.first has.1)
    (dead-shallow depth g is.wanted is.first has.0))

-- what holds of two lists' elements each by itself holds of both at once
pub all-both : {A : Type 0} (P Q : A → Type 0) (xs : List A) → All P xs → All Q xs → All (λ x. P x × Q x) xs
all-both P Q xs ps qs = all_had (λ x. P x × Q x) xs (λ x c. (All-contains P xs x ps c, All-contains Q xs x qs c))

pub program-simplified : (depth : ℕ) (p q : inner.Program) → IsTextable depth p → All FlagsReadPlainly p.graphs
    → HasEachChanged IsSimplifiedGraph p q → IsSimplified (2 * depth) p q
program-simplified depth p q textable reads is =
    let stand = weaker_zipped IsSimplifiedGraph StandsFor graph-stands p.graphs q.graphs is.graphs in
    let same : with_graphs p.image p.lo p.hi q.graphs ≡ q =
    λ i. record { graphs = q.graphs; image = sym is.image i; lo = sym is.lo i; hi = sym is.hi i } in
    let left = left-from p.image p.lo p.hi [] p.graphs q.graphs stand textable.formed in
    let keeps = subst (Keeps p) same left.keeps in
    let Has : inner.Graph → Type 0 = λ g. IsShallow depth g × FlagsReadPlainly g in
    record {
      textable = record {
        formed = subst IsProgram same left.formed;
        shallow =
            all_zipped IsSimplifiedGraph Has (IsShallow (2 * depth)) (graph-shallow depth) p.graphs q.graphs is.graphs
            (all-both (IsShallow depth) FlagsReadPlainly p.graphs textable.shallow reads);
        never_stuck = never-stuck p q keeps.runs textable.never_stuck;
      };
      keeps = keeps;
      places = λ place.
          blocks-stay p q place
          (weaker_zipped IsSimplifiedGraph HasSameBlocks graph-blocks p.graphs q.graphs is.graphs);
    }
