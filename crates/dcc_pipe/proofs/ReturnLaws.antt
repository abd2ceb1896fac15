-- Calls take results of graphs that return alone: what is given back is changed along a trail to a return.
use Rattle.std.proofs.Common.{◌≡◌, ℕ, zero, suc, Bool, true, false, inl, inr, ◌⊎◌, List, [], ◌∷◌, map, flat_map, get_or, refl, sym, ap, ap₂, ◌∙◌, subst, true≢false, eqb-true}
use Rattle.std.specs.Prelude.{All, Contains, ◌||◌, if◌then◌else◌, ◌==◌}
use Rattle.std.specs.List.{AllZip, list_any}
use Rattle.std.proofs.lemmas.List.Elements.{All-nil, All-cons, All-head, All-tail, All-append, All-map, All-weaker}
use Rattle.dcc_ir.specs.declared.syntax.Loc.{Loc}
use Rattle.dcc_ir.specs.Tree.{Stmt, Set, Fetch, Store, Div, Call, Dos, Exit, Goto, If, Switch, Ret, Stop, Block, Graph, Program, Summary}
use Rattle.dcc_ir.specs.Ends.{is_ret}
use Rattle.dcc_ir.specs.Families.{Family, needed, IsBlockWithout, IsGraphWithout}
use Rattle.dcc_ir.specs.Form.{BlockStays, GraphStays}
use Rattle.dcc_ir.specs.Live.{block_in}
use Rattle.dcc_ir.specs.WellFormed.{ret_widths}
use Rattle.dcc_ir.proofs.ZipLaws.{map_zipped}
use Rattle.dcc_pipe.specs.Simplified.{IsSimplifiedGraph}
use Rattle.dcc_ir.specs.Flow.{graph_or_none}
use Rattle.dcc_ir.specs.Run.{no_block, graph_at}
use Rattle.dcc_ir.specs.Trimmed.{Trim, trim_exit, trim_block, trim_graph}
use Rattle.dcc_ir.proofs.LocationLaws.{Contains-here}
use Rattle.dcc_demand.specs.Changes.{Changes, ChangesWithin}
use Rattle.dcc_sums.specs.Points.{Position, site_at, is_return, site_of}
use Rattle.dcc_sums.specs.Instance.{procedures_of}
use Rattle.dcc_sums.specs.Summaries.{IsSummary, AreSummaries}
use Rattle.dcc_sums.specs.Localised.{summary_at, CallsJust}
use Rattle.dcc_signatures.specs.declared.packing.Fresh.{Fresh}
use Rattle.dcc_signatures.specs.declared.packing.Packing.TheVariants.{Apart, Word, Double}
use Rattle.dcc_signatures.specs.Packed.{packing_of, taking_part, taking_parts, value_places, pack_stmt, pack_exit}
use Rattle.dcc_signatures.specs.Packed.{pack_block, fresh_after, pack_graph}
use Rattle.dcc_pipe.specs.Prepared.{has_ret, returns, TakesOfReturning}

-- Where a procedure returns, its graph has a Ret.

returning-exit : (done : ℕ) (stmts : List Stmt) (exit : Exit) → is_return (site_at done stmts exit) ≡ true
    → is_ret exit ≡ true
returning-exit zero [] (Ret values) is = refl
returning-exit zero [] (Goto next) is = is
returning-exit zero [] (If test one other) is = is
returning-exit zero [] (Switch e places) is = is
returning-exit zero [] Stop is = is
returning-exit zero (stmt ∷ stmts) exit is = absurd (true≢false (sym is))
returning-exit (suc done) [] exit is = absurd (true≢false (sym is))
returning-exit (suc done) (stmt ∷ stmts) exit is = returning-exit done stmts exit is

returning-block : (blocks : List Block) (n : ℕ) → is_ret (get_or blocks n no_block).exit ≡ true
    → list_any (λ b. is_ret b.exit) blocks ≡ true
returning-block [] n is = absurd (true≢false (sym is))
returning-block (b ∷ blocks) zero is = ap (λ c. c || list_any (λ b. is_ret b.exit) blocks) is
returning-block (b ∷ blocks) (suc n) is = either (is_ret b.exit) (returning-block blocks n is)
  where
    either : (c : Bool) {d : Bool} → d ≡ true → (c || d) ≡ true
    either true is = refl
    either false is = is

returning : (g : Graph) (a : Position) → is_return (site_of g a) ≡ true → has_ret g ≡ true
returning g a is =
    let block = block_in g a.block in
    returning-block g.blocks a.block (returning-exit a.done block.stmts block.exit is)

-- A procedure that gives something back returns.

module _ (p : Program) where
  changed-returns : (entry : ℕ) (l : Loc) → Changes (procedures_of p) entry l → returns p entry ≡ true
  changed-returns entry l changes = go changes.0 changes.1
    where
      go : (depth : ℕ) → ChangesWithin (procedures_of p) depth entry l → returns p entry ≡ true
      go zero h = absurd h
      go (suc depth) h = returning (graph_or_none (graph_at p.graphs entry)) h.at h.returns

  abbrev GivesReturning : ℕ → List Loc → Type 0
  GivesReturning entry results = (results ≡ []) ⊎ (returns p entry ≡ true)

  given-returns : (graphs : List Graph) (sums : List Summary) → AllZip (IsSummary p) graphs sums → (entry : ℕ)
      → GivesReturning entry (summary_at graphs sums entry).results
  given-returns [] sums all entry = inl refl
  given-returns (g ∷ graphs) [] all entry = absurd all
  given-returns (g ∷ graphs) (sum ∷ sums) all entry = by (g.entry == entry) refl (given-returns graphs sums all.1 entry)
    where
      some : (results : List Loc) → sum.results ≡ results → GivesReturning g.entry results
      some [] is = inl refl
      some (l ∷ ls) is =
          inr (changed-returns g.entry l ((all.0.results.exact l).0 (subst (λ ls. Contains ls l) (sym is) (Contains-here l ls))).changes)

      by : (b : Bool) → (g.entry == entry) ≡ b → GivesReturning entry (summary_at graphs sums entry).results
          → GivesReturning entry (if b then sum else summary_at graphs sums entry).results
      by true is later = subst (λ n. GivesReturning n sum.results) (eqb-true g.entry entry is) (some sum.results refl)
      by false is later = later

  -- where just what the summaries say passes, results are taken of graphs that return
  module _ (sums : List Summary) (are : AreSummaries p sums) where
    pub just-taken : (stmt : Stmt) → CallsJust (summary_at p.graphs sums) stmt → TakesOfReturning (returns p) stmt
    just-taken (Call results entry arguments depth) just =
        subst (GivesReturning entry) (sym just.0) (given-returns p.graphs sums are entry)
    just-taken (Set location e) just = tt
    just-taken (Fetch location width address) just = tt
    just-taken (Store width address e) just = tt
    just-taken (Div location e) just = tt
    just-taken (Dos number place argument) just = tt

-- Packed calls.

module _ (known : ℕ → Bool) where
  abbrev Taken : Stmt → Type 0
  Taken = TakesOfReturning known

  places-taken : (fresh : Fresh) (entry : ℕ) (results : List Loc) → (results ≡ []) ⊎ (known entry ≡ true)
      → (value_places fresh results ≡ []) ⊎ (known entry ≡ true)
  places-taken fresh entry results taken = elim taken [
    | inl none ↦ inl (ap (value_places fresh) none)
    | inr is ↦ inr is
  ]

  each-part : (temporary : ℕ) (double : Bool) (ls : List Loc) → All Taken (map (taking_part temporary double) ls)
  each-part temporary double [] = All-nil Taken
  each-part temporary double (l ∷ ls) =
      All-cons Taken (taking_part temporary double l) (map (taking_part temporary double) ls) tt (each-part temporary double ls)

  parts-taken : (fresh : Fresh) (results : List Loc) → All Taken (taking_parts fresh results)
  parts-taken fresh results =
      elim (packing_of results) as (λ packing. All Taken (elim packing [
        | Apart ↦ []
        | Word low high ↦ map (taking_part fresh.word false) results
        | Double ↦ map (taking_part fresh.double true) results
      ])) [
        | Apart ↦ All-nil Taken
        | Word low high ↦ each-part fresh.word false results
        | Double ↦ each-part fresh.double true results
      ]

  packed-taken : (fresh : Fresh) (stmt : Stmt) → Taken stmt → All Taken (pack_stmt fresh stmt)
  packed-taken fresh (Call results entry arguments depth) taken =
      All-cons Taken _ (taking_parts fresh results) (places-taken fresh entry results taken) (parts-taken fresh results)
  packed-taken fresh (Set location e) taken = All-cons Taken _ [] tt (All-nil Taken)
  packed-taken fresh (Fetch location width address) taken = All-cons Taken _ [] tt (All-nil Taken)
  packed-taken fresh (Store width address e) taken = All-cons Taken _ [] tt (All-nil Taken)
  packed-taken fresh (Div location e) taken = All-cons Taken _ [] tt (All-nil Taken)
  packed-taken fresh (Dos number place argument) taken = All-cons Taken _ [] tt (All-nil Taken)

  stmts-taken : (fresh : Fresh) (stmts : List Stmt) → All Taken stmts → All Taken (flat_map (pack_stmt fresh) stmts)
  stmts-taken fresh [] taken = All-nil Taken
  stmts-taken fresh (stmt ∷ stmts) taken =
      All-append Taken (pack_stmt fresh stmt) (flat_map (pack_stmt fresh) stmts)
      (packed-taken fresh stmt (All-head Taken stmt stmts taken)) (stmts-taken fresh stmts (All-tail Taken stmt stmts taken))

  pub graph-taken : (g : Graph) → All (λ b. All Taken b.stmts) g.blocks → All (λ b. All Taken b.stmts) (pack_graph g).blocks
  graph-taken g taken =
      All-map (λ (b : Block). All Taken b.stmts) (pack_block (fresh_after g.bits)) g.blocks
      (All-weaker (λ (b : Block). All Taken b.stmts) (λ b. All Taken (pack_block (fresh_after g.bits) b).stmts)
      (λ b stmts. stmts-taken (fresh_after g.bits) b.stmts stmts) g.blocks taken)

-- Where blocks end in returns.

-- the address of a block, and whether it ends in a return
abbrev pub end_of : Block → ℕ × Bool
end_of b = (b.at, is_ret b.exit)

abbrev pub ends : Graph → List (ℕ × Bool)
ends graph = map end_of graph.blocks

-- where blocks end alike, a graph returns where the other does
returns-alike : (g h : Graph) → ends h ≡ ends g → has_ret h ≡ has_ret g
returns-alike g h same = told h.blocks ∙ ap (list_any (λ e. e.1)) same ∙ sym (told g.blocks)
  where
    told : (blocks : List Block) → list_any (λ b. is_ret b.exit) blocks ≡ list_any (λ e. e.1) (map end_of blocks)
    told [] = refl
    told (b ∷ blocks) = ap (λ c. is_ret b.exit || c) (told blocks)

ends-changed : (f : Block → Block) → ((b : Block) → end_of (f b) ≡ end_of b) → (blocks : List Block)
    → map end_of (map f blocks) ≡ map end_of blocks
ends-changed f same [] = refl
ends-changed f same (b ∷ blocks) = ap₂ (λ e es. e ∷ es) (same b) (ends-changed f same blocks)

trimmed-end : (trim : Trim) (entry : ℕ) (exit : Exit) → is_ret (trim_exit trim entry exit) ≡ is_ret exit
trimmed-end trim entry (Ret values) = refl
trimmed-end trim entry (Goto next) = refl
trimmed-end trim entry (If test one other) = refl
trimmed-end trim entry (Switch e places) = refl
trimmed-end trim entry Stop = refl

packed-end : (exit : Exit) → is_ret (pack_exit exit) ≡ is_ret exit
packed-end (Ret values) = refl
packed-end (Goto next) = refl
packed-end (If test one other) = refl
packed-end (Switch e places) = refl
packed-end Stop = refl

pub trimmed-ends : (trim : Trim) (g : Graph) → ends (trim_graph trim g) ≡ ends g
trimmed-ends trim g =
    ends-changed (trim_block trim g.entry) (λ b. ap (λ ret. (b.at, ret)) (trimmed-end trim g.entry b.exit)) g.blocks

pub packed-ends : (g : Graph) → ends (pack_graph g) ≡ ends g
packed-ends g =
    ends-changed (pack_block (fresh_after g.bits)) (λ b. ap (λ ret. (b.at, ret)) (packed-end b.exit)) g.blocks

pub trimmed-returns : (trim : Trim) (g : Graph) → has_ret (trim_graph trim g) ≡ has_ret g
trimmed-returns trim g = returns-alike g (trim_graph trim g) (trimmed-ends trim g)

pub packed-returns : (g : Graph) → has_ret (pack_graph g) ≡ has_ret g
packed-returns g = returns-alike g (pack_graph g) (packed-ends g)

-- A simplified graph returns where the graph did.

abbrev is_some_list : {A : Type 0} → List A → Bool
is_some_list [] = false
is_some_list (x ∷ xs) = true

ret-widths : (bits : List ℕ) (exit : Exit) → is_ret exit ≡ is_some_list (ret_widths bits exit)
ret-widths bits (Ret values) = refl
ret-widths bits (Goto next) = refl
ret-widths bits (If test one other) = refl
ret-widths bits (Switch e places) = refl
ret-widths bits Stop = refl

-- ends that give values of the same widths are returns alike
pub ret-end : (bits bits' : List ℕ) (exit exit' : Exit) → ret_widths bits' exit' ≡ ret_widths bits exit → is_ret exit' ≡ is_ret exit
ret-end bits bits' exit exit' given = ret-widths bits' exit' ∙ ap is_some_list given ∙ sym (ret-widths bits exit)

without-ends : (family : Family) (g h : Graph) → IsGraphWithout family g h → ends h ≡ ends g
without-ends family g h is =
    map_zipped (IsBlockWithout family) end_of end_of (λ b c pair. ap₂ (λ at ret. (at, ret)) pair.at (ap is_ret pair.exit))
    g.blocks h.blocks is.blocks

stays-ends : (g h : Graph) → GraphStays g h → ends h ≡ ends g
stays-ends g h is =
    map_zipped (BlockStays g.bits h.bits) end_of end_of
    (λ b c pair. ap₂ (λ at ret. (at, ret)) pair.at (ret-end g.bits h.bits b.exit c.exit pair.given)) g.blocks h.blocks
    is.blocks

pub simplified-ends : (g h : Graph) → IsSimplifiedGraph g h → ends h ≡ ends g
simplified-ends g h is =
    without-ends (needed is.folded) is.folded h is.last.without
    ∙ stays-ends is.wanted is.folded is.flags.form
    ∙ without-ends (needed g) g is.wanted is.first.without

pub simplified-returns : (g h : Graph) → IsSimplifiedGraph g h → has_ret h ≡ has_ret g
simplified-returns g h is = returns-alike g h (simplified-ends g h is)
