-- What passes between procedures passes still where each graph is simplified.
use Rattle.std.proofs.Common.{◌≡◌, ℕ, zero, suc, Bool, true, inl, inr, List, [], ◌∷◌, ◌++◌, map, flat_map, drop, get_or, refl, sym, ap, ◌∙◌, subst, true≢false}
use Rattle.std.specs.Prelude.{All, ◌⊎◌}
use Rattle.std.specs.List.{AllZip}
use Rattle.std.proofs.lemmas.List.Elements.{All-nil, All-cons, All-head, All-tail, All-append, All-contains, All-weaker}
use Rattle.dcc_ir.specs.declared.syntax.Loc.{Loc}
use Rattle.dcc_ir.specs.declared.syntax.Loc.TheVariants.{Half, Flag, Cell, Temp}
use Rattle.dcc_ir.specs.Tree.{Stmt, Set, Fetch, Store, Div, Call, Dos, Exit, Goto, If, Switch, Ret, Stop, Block, Graph, Program, Summary}
use Rattle.dcc_ir.specs.Location.{location_width}
use Rattle.dcc_ir.specs.Value.{width_of}
use Rattle.dcc_ir.specs.WellFormed.{is_width, ret_widths}
use Rattle.dcc_ir.specs.Form.{Signature, signatures_of, BlockStays, GraphStays}
use Rattle.dcc_ir.specs.Families.{Family, needed, IsWithout, done, stays, goes, IsBlockWithout, IsGraphWithout}
use Rattle.dcc_ir.proofs.ListLaws.{all_had, all_parts}
use Rattle.dcc_ir.proofs.ZipLaws.{all_zipped}
use Rattle.dcc_signatures.specs.Laws.{AtMostOne, GivesAtMostOne, TakesAtMostOne, TakesTogether, PassesAtMostOne}
use Rattle.dcc_pipe.specs.Prepared.{TakesOfReturning}
use Rattle.dcc_pipe.specs.Simplified.{IsSimplifiedGraph}

-- Widths.

-- a temporary that has a width keeps it where more follow
more-stays : (bits fresh : List ℕ) (n : ℕ) → is_width (get_or bits n 0) ≡ true
    → get_or (bits ++ fresh) n 0 ≡ get_or bits n 0
more-stays [] fresh n is = absurd (true≢false (sym is))
more-stays (b ∷ bits) fresh zero is = refl
more-stays (b ∷ bits) fresh (suc n) is = more-stays bits fresh n is

width-stays : (bits fresh : List ℕ) (l : Loc) → is_width (location_width bits l) ≡ true
    → location_width (bits ++ fresh) l ≡ location_width bits l
width-stays bits fresh (Half r h) is = refl
width-stays bits fresh (Flag f) is = refl
width-stays bits fresh (Cell n h) is = refl
width-stays bits fresh (Temp n) is = more-stays bits fresh n is

abbrev Few : List ℕ → Type 0
Few = AtMostOne (λ width. width)

widths-few : {A : Type 0} (width : A → ℕ) (xs : List A) → AtMostOne width xs → Few (map width xs)
widths-few width xs few = elim few [
  | inl none ↦ inl (ap (map width) none)
  | inr one ↦ inr (width one.0, ap (map width) one.1, one.2)
]

few-widths : {A : Type 0} (width : A → ℕ) (xs : List A) → Few (map width xs) → AtMostOne width xs
few-widths width [] few = inl refl
few-widths width (x ∷ []) few = elim few [
  | inl none ↦ absurd (cc)
  | inr one ↦ inr (x, refl, subst (λ w. is_width w ≡ true) (sym (first-same one.1)) one.2)
]
  where
    first-same : {w : ℕ} → width x ∷ [] ≡ w ∷ [] → width x ≡ w
    first-same same = cc
few-widths width (x ∷ y ∷ xs) few = elim few [
  | inl none ↦ absurd (cc)
  | inr one ↦ absurd (two one.1)
]
  where
    two : {w : ℕ} → width x ∷ width y ∷ map width xs ≡ w ∷ [] → ⊥
    two same = cc

-- Returns and calls.

ret-told : (bits : List ℕ) (exit : Exit) → GivesAtMostOne bits exit → All Few (ret_widths bits exit)
ret-told bits (Ret values) few =
    All-cons Few (map (width_of bits) values) [] (widths-few (width_of bits) values few) (All-nil Few)
ret-told bits (Goto next) few = All-nil Few
ret-told bits (If test one other) few = All-nil Few
ret-told bits (Switch e places) few = All-nil Few
ret-told bits Stop few = All-nil Few

ret-meant : (bits : List ℕ) (exit : Exit) → All Few (ret_widths bits exit) → GivesAtMostOne bits exit
ret-meant bits (Ret values) few =
    few-widths (width_of bits) values (All-head Few (map (width_of bits) values) [] few)
ret-meant bits (Goto next) few = tt
ret-meant bits (If test one other) few = tt
ret-meant bits (Switch e places) few = tt
ret-meant bits Stop few = tt

-- What a call takes is one value at most, of a procedure that returns.
module _ (known : ℕ → Bool) where
  abbrev pub Takes : List ℕ → Stmt → Type 0
  Takes bits stmt = TakesAtMostOne bits stmt × TakesOfReturning known stmt

  abbrev FewResults : List ℕ → Signature → Type 0
  FewResults bits s = AtMostOne (location_width bits) s.results × ((s.results ≡ []) ⊎ (known s.entry ≡ true))

  call-told : (bits : List ℕ) (stmts : List Stmt) → All (Takes bits) stmts
      → All (FewResults bits) (flat_map (signatures_of bits) stmts)
  call-told bits [] few = All-nil (FewResults bits)
  call-told bits (stmt ∷ stmts) few =
      All-append (FewResults bits) (signatures_of bits stmt) (flat_map (signatures_of bits) stmts)
      (by stmt (All-head (Takes bits) stmt stmts few)) (call-told bits stmts (All-tail (Takes bits) stmt stmts few))
    where
      by : (stmt : Stmt) → Takes bits stmt → All (FewResults bits) (signatures_of bits stmt)
      by (Call results entry arguments depth) takes = All-cons (FewResults bits) _ [] takes (All-nil (FewResults bits))
      by (Set location e) takes = All-nil (FewResults bits)
      by (Fetch location width address) takes = All-nil (FewResults bits)
      by (Store width address e) takes = All-nil (FewResults bits)
      by (Div location e) takes = All-nil (FewResults bits)
      by (Dos number place argument) takes = All-nil (FewResults bits)

  call-meant : (bits : List ℕ) (stmt : Stmt) → All (FewResults bits) (signatures_of bits stmt) → Takes bits stmt
  call-meant bits (Call results entry arguments depth) few = All-head (FewResults bits) _ [] few
  call-meant bits (Set location e) few = (tt, tt)
  call-meant bits (Fetch location width address) few = (tt, tt)
  call-meant bits (Store width address e) few = (tt, tt)
  call-meant bits (Div location e) few = (tt, tt)
  call-meant bits (Dos number place argument) few = (tt, tt)

  results-stay : (bits fresh : List ℕ) (s : Signature) → FewResults bits s → FewResults (bits ++ fresh) s
  results-stay bits fresh s few = (by few.0, few.1)
    where
      by : AtMostOne (location_width bits) s.results → AtMostOne (location_width (bits ++ fresh)) s.results
      by few = elim few [
        | inl none ↦ inl none
        | inr one ↦ inr (one.0, one.1, subst (λ w. is_width w ≡ true) (sym (width-stays bits fresh one.0 one.2)) one.2)
      ]

  -- Graphs.

  -- each Ret and each Call of the graph gives at most one value, Calls of procedures that return
  pub record GivesFew (g : Graph) : Type 0 where
    pub rets : All (λ b. GivesAtMostOne g.bits b.exit) g.blocks
    pub calls : All (λ b. All (Takes g.bits) b.stmts) g.blocks

  -- where assignments go, calls and ends are left
  module _ (family : Family) where
    left-holds : {Has : List Stmt → Loc → Type 0} (P : Stmt → Type 0) {xs ys : List Stmt} → IsWithout Has xs ys → All P xs
        → All P ys
    left-holds P done all = all
    left-holds P (stays {stmt = stmt} {rest = rest} {rest' = left} others) all =
        All-cons P stmt left (All-head P stmt rest all) (left-holds P others (All-tail P stmt rest all))
    left-holds P (goes {stmt = stmt} {rest = rest} is none others) all =
        left-holds P others (All-tail P stmt rest all)

    pub few-left : (g h : Graph) → IsGraphWithout family g h → GivesFew g → GivesFew h
    few-left g h is few = subst (λ bits. Given bits) (sym is.bits) (record {
      rets = all_zipped (IsBlockWithout family) (λ b. GivesAtMostOne g.bits b.exit) (λ b. GivesAtMostOne g.bits b.exit)
          (λ b c pair given. subst (GivesAtMostOne g.bits) (sym pair.exit) given) g.blocks h.blocks is.blocks few.rets;
      calls = all_zipped (IsBlockWithout family) (λ b. All (Takes g.bits) b.stmts) (λ b. All (Takes g.bits) b.stmts)
          (λ b c pair taken. left-holds (Takes g.bits) pair.stmts taken) g.blocks h.blocks is.blocks few.calls;
    })
      where
        Given : List ℕ → Type 0
        Given bits = GivesFew (record h { bits = bits })

  -- where the form stays, they stay
  pub few-stays : (g h : Graph) → GraphStays g h → GivesFew g → GivesFew h
  few-stays g h is few = record {
    rets = all_zipped (BlockStays g.bits h.bits) (λ b. GivesAtMostOne g.bits b.exit) (λ b. GivesAtMostOne h.bits b.exit)
        (λ b c pair given. ret-meant h.bits c.exit (subst (All Few) (sym pair.given) (ret-told g.bits b.exit given)))
        g.blocks h.blocks is.blocks few.rets;
    calls = all_zipped (BlockStays g.bits h.bits) (λ b. All (Takes g.bits) b.stmts) (λ b. All (Takes h.bits) b.stmts)
        calls-stay g.blocks h.blocks is.blocks few.calls;
  }
    where
      wider : (s : Signature) → FewResults g.bits s → FewResults h.bits s
      wider s given = subst (λ bits. FewResults bits s) (sym is.bits) (results-stay g.bits is.fresh s given)

      weaker : (ss : List Signature) → All (FewResults g.bits) ss → All (FewResults h.bits) ss
      weaker ss all = All-weaker (FewResults g.bits) (FewResults h.bits) wider ss all

      calls-stay : (b c : Block) → BlockStays g.bits h.bits b c → All (Takes g.bits) b.stmts → All (Takes h.bits) c.stmts
      calls-stay b c pair taken =
          All-weaker (λ stmt. All (FewResults h.bits) (signatures_of h.bits stmt)) (Takes h.bits) (call-meant h.bits) c.stmts
          (all_parts (FewResults h.bits) (signatures_of h.bits) c.stmts
          (subst (All (FewResults h.bits)) (sym pair.calls) (weaker (flat_map (signatures_of g.bits) b.stmts) (call-told g.bits b.stmts taken))))

  -- a simplified graph gives few values, as the graph did
  simplified-few : (g h : Graph) → IsSimplifiedGraph g h → GivesFew g → GivesFew h
  simplified-few g h is few =
      few-left (needed is.folded) is.folded h is.last.without
      (few-stays is.wanted is.folded is.flags.form (few-left (needed g) g is.wanted is.first.without few))

-- a simplified graph has the graph's entry, and takes what that took
pub simplified-entry : (g h : Graph) → IsSimplifiedGraph g h → h.entry ≡ g.entry
simplified-entry g h is = is.last.without.entry ∙ is.flags.form.entry ∙ is.first.without.entry

simplified-takes : (sum_of : ℕ → Summary) (g h : Graph) → IsSimplifiedGraph g h
    → TakesTogether (sum_of g.entry).params g → TakesTogether (sum_of h.entry).params h
simplified-takes sum_of g h is takes =
    let params = is.last.without.params ∙ is.flags.form.params ∙ is.first.without.params in
    subst (λ n. TakesTogether (sum_of n).params h) (sym (simplified-entry g h is)) (record {
      words = takes.words;
      puts = takes.puts;
      stack = takes.stack;
      params = params ∙ takes.params;
      order = takes.order;
      places = takes.places;
      together = takes.together;
    })

-- Programs.

without-first : {A : Type 0} (R : A → A → Type 0) (xs ys : List A) → AllZip R xs ys → AllZip R (drop 1 xs) (drop 1 ys)
without-first R [] [] all = tt
without-first R [] (y ∷ ys) all = absurd all
without-first R (x ∷ xs) [] all = absurd all
without-first R (x ∷ xs) (y ∷ ys) all = all.1

-- at most one value passes back, and is taken of procedures that return
pub record AllPass (known : ℕ → Bool) (sum_of : ℕ → Summary) (p : Program) : Type 0 where
  pub one : PassesAtMostOne sum_of p
  pub returned : All (λ g. All (λ b. All (TakesOfReturning known) b.stmts) g.blocks) p.graphs

module _ (known : ℕ → Bool) where
  abbrev Gives : Graph → Type 0
  Gives g = All (λ b. GivesAtMostOne g.bits b.exit) g.blocks

  abbrev Calls : Graph → Type 0
  Calls g = All (λ b. All (TakesAtMostOne g.bits) b.stmts) g.blocks

  abbrev Returned : Graph → Type 0
  Returned g = All (λ b. All (TakesOfReturning known) b.stmts) g.blocks

  few-of : (g : Graph) → Gives g → Calls g → Returned g → GivesFew known g
  few-of g gives calls returned = record {
    rets = gives;
    calls = all_had (λ b. All (Takes known g.bits) b.stmts) g.blocks (λ b c. all_had (Takes known g.bits) b.stmts (λ stmt d. (
      All-contains (TakesAtMostOne g.bits) b.stmts stmt (All-contains (λ b. All (TakesAtMostOne g.bits) b.stmts) g.blocks b calls c) d,
      All-contains (TakesOfReturning known) b.stmts stmt (All-contains (λ b. All (TakesOfReturning known) b.stmts) g.blocks b returned c) d,
    )));
  }

  few-calls : (g : Graph) → GivesFew known g → Calls g
  few-calls g few =
      All-weaker (λ b. All (Takes known g.bits) b.stmts) (λ b. All (TakesAtMostOne g.bits) b.stmts)
      (λ b stmts. All-weaker (Takes known g.bits) (TakesAtMostOne g.bits) (λ stmt takes. takes.0) b.stmts stmts) g.blocks
      few.calls

  few-returned : (g : Graph) → GivesFew known g → Returned g
  few-returned g few =
      All-weaker (λ b. All (Takes known g.bits) b.stmts) (λ b. All (TakesOfReturning known) b.stmts)
      (λ b stmts. All-weaker (Takes known g.bits) (TakesOfReturning known) (λ stmt takes. takes.1) b.stmts stmts) g.blocks
      few.calls

  -- each graph of a program in which at most one value passes back gives few
  pub all-few : (sum_of : ℕ → Summary) (p : Program) → AllPass known sum_of p → All (GivesFew known) p.graphs
  all-few sum_of p passes =
      all_had (GivesFew known) p.graphs (λ g c. few-of g (All-contains Gives p.graphs g passes.one.rets c)
      (All-contains Calls p.graphs g passes.one.calls c) (All-contains Returned p.graphs g passes.returned c))

  -- what passes in a program passes still where each graph is simplified
  pub passes-stay : (sum_of : ℕ → Summary) (p q : Program) → AllZip IsSimplifiedGraph p.graphs q.graphs
      → AllPass known sum_of p → AllPass known sum_of q
  passes-stay sum_of p q left passes = record {
    one = record {
      params = all_zipped IsSimplifiedGraph TakesIt TakesIt (simplified-takes sum_of) (drop 1 p.graphs) (drop 1 q.graphs)
          (without-first IsSimplifiedGraph p.graphs q.graphs left) passes.one.params;
      rets = All-weaker (GivesFew known) Gives (λ g few. few.rets) q.graphs few-each;
      calls = All-weaker (GivesFew known) Calls few-calls q.graphs few-each;
    };
    returned = All-weaker (GivesFew known) Returned few-returned q.graphs few-each;
  }
    where
      TakesIt : Graph → Type 0
      TakesIt g = TakesTogether (sum_of g.entry).params g

      few-each : All (GivesFew known) q.graphs
      few-each =
          all_zipped IsSimplifiedGraph (GivesFew known) (GivesFew known) (simplified-few known) p.graphs q.graphs left
          (all-few sum_of p passes)
