-- A graph with settled copies is tidied, no deeper, and over temporaries alone where the given one was.
use Rattle.std.proofs.Common.{◌≡◌, ℕ, ◌≤◌, Bool, true, false, List, [], ◌∷◌, ◌++◌, map, flat_map, refl, sym, ap, ◌∙◌, subst, arith}
use Rattle.std.specs.Prelude.{if◌then◌else◌, All}
use Rattle.std.specs.List.{list_all}
use Rattle.std.proofs.lemmas.List.Elements.{All-nil, All-cons, All-head, All-tail}
use Rattle.std.proofs.lemmas.Bool.{and_parts, and_from}
use Rattle.dcc_ir.specs.declared.syntax.Loc.{Loc}
use Rattle.dcc_ir.specs.Measure.{depth_of, deepest}
use Rattle.dcc_ir.specs.Tree.{Expr, Stmt, Block, Graph}
use Rattle.dcc_ir.specs.Use.{addresses_of, exprs_of, exit_exprs, block_exprs, graph_exprs}
use Rattle.dcc_ir.specs.WellFormed.{IsGraph}
use Rattle.dcc_passes.specs.Renaming.{renamed, renamed_stmt, renamed_exit, param_places}
use Rattle.dcc_passes.specs.Tidied.{IsTidied}
use Rattle.dcc_passes.proofs.TidiedLaws.{tidied-refl, tidied-trans}
use Rattle.dcc_webs.specs.Temporaries.{is_temp, HasTempsAlone}
use Rattle.dcc_copies.specs.Held.{is_own_copy}
use Rattle.dcc_copies.specs.Settled.{settled_stmts, settled_block, settled, IsRight, AreSettled, done, settles}
use Rattle.dcc_copies.proofs.FormLaws.{settled-formed, settled-kind}
use Rattle.dcc_copies.proofs.FollowLaws.{settled-stands}
use Rattle.dcc_copies.proofs.TreeLaws.{addresses-named, depth-named, all-named, mentions-settled}

-- Depths.

deepest-of : (n : ℕ) (es : List Expr) → All (λ e. depth_of e ≤ n) es → deepest es ≤ n
deepest-of n [] all = omega arith
deepest-of n (e ∷ es) all =
    let here = All-head (λ x. depth_of x ≤ n) e es all in
    let later = deepest-of n es (All-tail (λ x. depth_of x ≤ n) e es all) in
    omega (arith, here, later)

none-deeper : (n : ℕ) (es : List Expr) → deepest es ≤ n → All (λ e. depth_of e ≤ n) es
none-deeper n [] less = All-nil (λ e. depth_of e ≤ n)
none-deeper n (e ∷ es) less =
    All-cons (λ x. depth_of x ≤ n) e es (omega (arith, less)) (none-deeper n es (omega (arith, less)))

-- Tests of addresses.

module _ (test : ℕ → Bool) where
  abbrev Passes : Expr → Type 0
  Passes e = list_all test (addresses_of e) ≡ true

  each-passes : (es : List Expr) → list_all (λ e. list_all test (addresses_of e)) es ≡ true → All Passes es
  each-passes [] is = All-nil Passes
  each-passes (e ∷ es) is =
      let parts = and_parts (list_all test (addresses_of e)) (list_all (λ e. list_all test (addresses_of e)) es) is in
      All-cons Passes e es parts.0 (each-passes es parts.1)

  all-pass : (es : List Expr) → All Passes es → list_all (λ e. list_all test (addresses_of e)) es ≡ true
  all-pass [] all = refl
  all-pass (e ∷ es) all =
      and_from (list_all test (addresses_of e)) (list_all (λ e. list_all test (addresses_of e)) es)
      (All-head Passes e es all) (all-pass es (All-tail Passes e es all))

-- One lot of copies.

module _ (g : Graph) (name : Loc → Loc) where
  pub lot-depth : deepest (graph_exprs (settled name g)) ≤ deepest (graph_exprs g)
  lot-depth =
      let most = deepest (graph_exprs g) in
      deepest-of most (graph_exprs (settled name g))
      (all-named name (λ e. depth_of e ≤ most) (λ e less. let d = depth-named name e in omega (arith, less, d)) g
      (none-deeper most (graph_exprs g) (omega arith)))

  pub lot-tidied : IsGraph g → IsRight name g → IsTidied g (settled name g)
  lot-tidied formed right = record {
    formed = settled-formed g name formed right;
    stands = settled-stands g name formed right;
    kind = settled-kind g name right;
    addresses = λ test passes.
        all-pass test (graph_exprs (settled name g))
        (all-named name (Passes test) (λ e is. ap (list_all test) (addresses-named name e) ∙ is) g
        (each-passes test (graph_exprs g) passes));
    apart = λ differ. differ;
  }

-- All lots.

pub settled-tidied : (g h : Graph) → IsGraph g → AreSettled g h → IsTidied g h
settled-tidied g h formed done = tidied-refl g formed
settled-tidied g h formed (settles name right later) =
    let lot = lot-tidied g name formed right in
    tidied-trans g (settled name g) h lot (settled-tidied (settled name g) h lot.formed later)

pub settled-depth : (g h : Graph) → AreSettled g h → deepest (graph_exprs h) ≤ deepest (graph_exprs g)
settled-depth g h done = omega arith
settled-depth g h (settles name right later) =
    let lot = lot-depth g name in
    let rest = settled-depth (settled name g) h later in
    omega (arith, lot, rest)

pub settled-temps : (g h : Graph) → AreSettled g h → HasTempsAlone g → HasTempsAlone h
settled-temps g h done alone = alone
settled-temps g h (settles name right later) alone =
    settled-temps (settled name g) h later
    (mentions-settled name is_temp right.temps (param_places g.params) g alone)

-- one lot after others
pub settled-then : (g h : Graph) (name : Loc → Loc) → AreSettled g h → IsRight name h → AreSettled g (settled name h)
settled-then g h name done right = settles name right done
settled-then g h name (settles first is later) right =
    settles first is (settled-then (settled first g) h name later right)

pub settled-compose : (g h k : Graph) → AreSettled g h → AreSettled h k → AreSettled g k
settled-compose g h k done second = second
settled-compose g h k (settles name right later) second =
    settles name right (settled-compose (settled name g) h k later second)
