-- Chains of blocks, as a walk goes along them.
use Rattle.std.proofs.Common.{◌≡◌, ◌≢◌, ℕ, zero, suc, ◌<◌, ◌≤◌, Bool, true, false, ◌||◌, List, [], ◌∷◌, ◌++◌, length, map, get_or, Option, Some, refl, sym, ap, ◌∙◌, subst, append_assoc, slice_get, slice_set, arith, true≢false, eqb-true, eq-eqb, Contains}
use Rattle.std.specs.Prelude.{◌==◌, ◌&&◌, nat_le}
use Rattle.std.proofs.lemmas.Bool.{leb-true}
use Rattle.dcc_ir.specs.Tree.{Stmt, Goto, Block, Graph}
use Rattle.dcc_ir.specs.Flow.{targets}
use Rattle.dcc_ir.proofs.FitLaws.{both}
use Rattle.dcc_ir.proofs.GraphLaws.{or_there}
use Rattle.dcc_ir.proofs.LocationLaws.{Contains-none, Contains-cases}
use Rattle.std.specs.Global.{Vec}
use Rattle.dcc_flow.specs.Edges.{rows, is_in, successors_of, leads as goes_to, ArePredecessors}
use Rattle.dcc_available.specs.Along.{edge, IsLead, begins, goes_on}
use Rattle.dcc_available.specs.Known.{Known, is_kept, is_still, past}
use Rattle.dcc_available.specs.Rewritten.{IsSound}
use Rattle.dcc_available.specs.Rewritten.{IsRewritten}
use Rattle.dcc_available.specs.Rows.{IsNext, IsRewrittenAt, AreRewrittenRows}
use Rattle.dcc_available.proofs.GraphLaws.{set-cases}
use Rattle.dcc_ir.specs.declared.syntax.Block.{Block as BlockOf}
use Rattle.dcc_ir.specs.Views.{block_of}
use Rattle.dcc_available.proofs.KnownLaws.{placed, past-sound}

-- where a chain begins nothing is told
pub begin_sound : (known new : Known) → new ≡ record known { begun = length known.facts } → IsSound new []
begin_sound known new is = subst (λ k. IsSound k []) (sym is) (λ l e told.
    let two = both (nat_le (length known.facts) told.at && is_kept known.stamps.written told.at told.fact.temporary) (is_still known.stamps told.at told.fact.temporary told.fact.value) told.holding in
    let one = both (nat_le (length known.facts) told.at) (is_kept known.stamps.written told.at told.fact.temporary) two.0 in
    let late : length known.facts ≤ told.at = leb-true (length known.facts) told.at one.0 in
    let less = placed known.facts told.at told.fact told.noted in
    absurd (omega arith))

-- a walk that leads to a place, and what it knows there
pub record IsThere (graph : Graph) (place : ℕ) (known : Known) : Type 0 where
  pub lead : List Stmt
  pub leads : IsLead graph place lead
  pub sound : IsSound known lead

pub begins_there : (graph : Graph) (place : ℕ) (known new : Known) → new ≡ record known { begun = length known.facts } → IsThere graph place new
begins_there graph place known new is = record { lead = []; leads = begins; sound = begin_sound known new is }

some-block : (b c : Block) → Some b ≡ Some c → b ≡ c
some-block b c is = cc

-- along the one edge to the next block
pub goes_there : (graph : Graph) (place to : ℕ) (block : Block) (known last new : Known) → slice_get graph.blocks place ≡ Some block → (there : IsThere graph place known)
    → ((history : List Stmt) → IsSound known history → IsSound last (history ++ block.stmts)) → new ≡ past edge last → IsNext graph place to → IsThere graph to new
goes_there graph place to block known last new found there sound is next =
    let same : block ≡ next.block = some-block block next.block (sym found ∙ next.only.placed) in
    let here : IsSound new ((there.lead ++ block.stmts) ++ edge ∷ []) = subst (λ k. IsSound k ((there.lead ++ block.stmts) ++ edge ∷ [])) (sym is) (past-sound (there.lead ++ block.stmts) edge last (sound there.lead there.sound)) in
    record {
      lead = there.lead ++ (block.stmts ++ edge ∷ []);
      leads = subst (λ (b : Block). IsLead graph to (there.lead ++ (b.stmts ++ edge ∷ []))) (sym same) (goes_on next.only there.leads);
      sound = subst (IsSound new) (append_assoc there.lead block.stmts (edge ∷ [])) here;
    }

-- where the block of a place was rewritten, it may stand among the rewritten ones
pub rows_set : (graph : Graph) (blocks : List (Option BlockOf)) (place : ℕ) (known : Known) (block : Block) (new : BlockOf) → slice_get graph.blocks place ≡ Some block → IsThere graph place known
    → ((history : List Stmt) → IsSound known history → IsRewritten history block (block_of new)) → AreRewrittenRows graph blocks → AreRewrittenRows graph (slice_set blocks place (Some new))
rows_set graph blocks place known block new found there rewritten are k x is =
    set-cases blocks place (Some new) k (Some x) (IsRewrittenAt graph k (block_of x)) is
    (λ same new_is.
    let one : new ≡ x = cc in
    subst (λ n. IsRewrittenAt graph n (block_of x)) same (subst (λ (y : BlockOf). IsRewrittenAt graph place (block_of y)) one
    (record { lead = there.lead; leads = there.leads; block = block; placed = found; rewritten = rewritten there.lead there.sound })))
    (λ old. are k x old)

-- The next block.

any-number : (xs : List ℕ) (n : ℕ) → Contains xs n → is_in xs n ≡ true
any-number [] n c = absurd (Contains-none n c)
any-number (x ∷ xs) n c = Contains-cases x xs n (is_in (x ∷ xs) n ≡ true) (λ e. ap (λ b. b || is_in xs n) (eq-eqb x n e)) (λ later. or_there (x == n) (is_in xs n) (any-number xs n later)) c

successors-at : (blocks : List Block) (place : ℕ) (block : Block) → slice_get blocks place ≡ Some block → get_or (map (λ (b : Block). targets b.exit) blocks) place [] ≡ targets block.exit
successors-at [] place block found = absurd (cc)
successors-at (x ∷ xs) zero block found = let same : x ≡ block = cc in ap (λ (b : Block). targets b.exit) same
successors-at (x ∷ xs) (suc place) block found = successors-at xs place block found

-- a list of one number
pub one-item : (xs : List ℕ) (n d : ℕ) → length xs ≡ 1 → n ≡ get_or xs 0 d → xs ≡ n ∷ []
one-item [] n d long is = absurd (omega arith)
one-item (x ∷ []) n d long is = ap (λ y. y ∷ []) (sym is)
one-item (x ∷ y ∷ xs) n d long is = absurd (omega arith)

-- the row at a place
pub row-at : (lists : List (Vec ℕ)) (i : ℕ) (v : Vec ℕ) → slice_get lists i ≡ Some v → (get_or (rows lists) i [] ≡ v.items) × (i < length (rows lists))
row-at [] i v found = absurd (cc)
row-at (x ∷ xs) zero v found = (let same : x ≡ v = cc in ap (λ y. y.items) same, omega arith)
row-at (x ∷ xs) (suc i) v found =
    let later = row-at xs i v found in
    let less = later.1 in
    (later.0, omega arith)

-- where one block alone has an edge to a block, and goes there, that block is the next one
pub is_next : (graph : Graph) (preds : List (List ℕ)) (place to : ℕ) (block : Block) → ArePredecessors (successors_of graph) preds → slice_get graph.blocks place ≡ Some block → block.exit ≡ Goto to
    → to ≢ 0 → to < length preds → get_or preds to [] ≡ place ∷ [] → IsNext graph place to
is_next graph preds place to block are found exit later within one = record {
  block = block;
  only = record {
    placed = found;
    goes = exit;
    later = later;
    only = λ p other there c.
        let less : to < length (successors_of graph) = omega (arith, are.len) in
        let leads : is_in (targets other.exit) to ≡ true = any-number (targets other.exit) to c in
        let row : goes_to (successors_of graph) p to ≡ true = ap (λ row. is_in row to) (successors-at graph.blocks p other there) ∙ leads in
        let among : is_in (place ∷ []) p ≡ true = ap (λ row. is_in row p) (sym one) ∙ are.exact p to less ∙ row in
        sym (single place p among);
  };
}
  where
    single : (m n : ℕ) → is_in (m ∷ []) n ≡ true → m ≡ n
    single m n is = go (m == n) refl is
      where
        go : (b : Bool) → (m == n) ≡ b → (b || false) ≡ true → m ≡ n
        go true same it = eqb-true m n same
        go false same it = absurd (true≢false (sym it))
