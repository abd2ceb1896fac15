-- What is left of a graph without the assignments to what is not needed after them.
use Rattle.std.proofs.Common.{◌≡◌, ℕ, zero, suc, ◌+◌, ◌<◌, ◌≤◌, Bool, true, false, ◌&&◌, not, inl, inr, List, [], ◌∷◌, ◌++◌, length, get_or, slice_get, map, take, drop, reverse, Some, refl, sym, ap, ap₂, ◌∙◌, subst, true≢false, arith, Contains}
use Rattle.std.specs.Prelude.{if◌then◌else◌, All}
use Rattle.std.specs.List.{AllZip, list_any}
use Rattle.std.proofs.lemmas.List.{length-map, length_push, get_or-map, reverse-append, drop_more}
use Rattle.std.proofs.lemmas.List.Elements.{All-nil, All-cons}
use Rattle.dcc_ir.specs.declared.syntax.Loc.{Loc}
use Rattle.dcc_ir.specs.declared.syntax.Stmt.{Stmt as Statement}
use Rattle.dcc_ir.specs.declared.syntax.Block.{Block as BlockOf}
use Rattle.dcc_ir.specs.Tree.{Stmt, Block, Graph}
use Rattle.dcc_ir.specs.Views.{stmt_of, block_of}
use Rattle.dcc_ir.specs.Use.{writes_of}
use Rattle.dcc_ir.specs.Demand.{is_assignment, uses_of, makes_of, tests_of, IsNeededIn, used, made_of, left, tested, goes}
use Rattle.dcc_ir.specs.Flow.{targets}
use Rattle.dcc_ir.specs.Families.{needed, WritesNone, IsWithout, done, stays as remains, goes as leaves, IsBlockWithout, IsGraphWithout, AllNeeded}
use Rattle.dcc_ir.specs.Replaced.{MayReplace}
use Rattle.dcc_ir.specs.WellFormed.{IsGraph}
use Rattle.dcc_ir.proofs.FamilyLaws.{needed-closed}
use Rattle.dcc_ir.proofs.passes.ReplaceLaws.{graph_still, kept_with}
use Rattle.dcc_flow.specs.Access.{access_of, block_access_of}
use Rattle.dcc_live.specs.Needed.{stays, before_all, after_stmts, left_of, block_left, blocks_left, AreNeededAtEnds}
use Rattle.dcc_live.specs.Dead.{IsWithoutUnneeded}
use Rattle.dcc_live.proofs.RowLaws.{map_read}
use Rattle.dcc_live.proofs.NeededLaws.{Exactly, needed_before, any_passes, some_passes, staying, going, uses_plain}

-- an assignment that goes
goes_away : (assigns some : Bool) → not (assigns && not some) ≡ false → assigns ≡ true
goes_away true some e = refl
goes_away false some e = absurd (true≢false e)

module _ (graph : Graph) (block : Block) (has : Loc → Bool) (exact : Exactly graph block has []) where
  abbrev W : List Stmt → Loc → Bool
  W rest = before_all (map access_of rest) has

  -- only assignments to what is not needed after them go
  pub left_without : (stmts : List Stmt) → IsWithout (IsNeededIn graph block) stmts (left_of stmts has)
  left_without [] = done
  left_without (stmt ∷ rest) = go (stays (access_of stmt) (W rest)) refl (left_without rest)
    where
      none : list_any (W rest) (writes_of stmt) ≡ false → WritesNone (IsNeededIn graph block rest) stmt
      none e l c d = true≢false (sym (any_passes (W rest) (writes_of stmt) l c ((needed_before graph block has rest exact l).1 d)) ∙ e)

      go : (b : Bool) → stays (access_of stmt) (W rest) ≡ b → IsWithout (IsNeededIn graph block) rest (left_of rest has) → IsWithout (IsNeededIn graph block) (stmt ∷ rest) (if b then stmt ∷ left_of rest has else left_of rest has)
      go true e w = remains w
      go false e w =
          leaves (goes_away (is_assignment stmt) (list_any (W rest) (writes_of stmt)) e) (none (going (is_assignment stmt) (list_any (W rest) (writes_of stmt)) e)) w

-- What is needed in the graph is needed in what is left of it.

module _ (g g' : Graph) (h : IsGraphWithout (needed g) g g') where
  zip_on : (xs ys : List Block) (k : ℕ) (x : Block) → AllZip (IsBlockWithout (needed g)) xs ys → slice_get xs k ≡ Some x → (y : Block) × (slice_get ys k ≡ Some y) × IsBlockWithout (needed g) x y
  zip_on [] [] k x all e = absurd (cc)
  zip_on [] (z ∷ ys) k x all e = absurd all
  zip_on (z ∷ xs) [] k x all e = absurd all
  zip_on (z ∷ xs) (y ∷ ys) zero x all e = let same : z ≡ x = cc in (y, refl, subst (λ b. IsBlockWithout (needed g) b y) same all.0)
  zip_on (z ∷ xs) (y ∷ ys) (suc k) x all e = zip_on xs ys k x all.1 e

  pub still_needed : (block : Block) (stmts : List Stmt) (l : Loc) → IsNeededIn g block stmts l → (block' : Block) → IsBlockWithout (needed g) block block' → (stmts' : List Stmt) →
      IsWithout (IsNeededIn g block) stmts stmts' → IsNeededIn g' block' stmts' l
  still_needed block stmts l (used {stmt = stmt} {rest = rest} c) block' pair stmts' w = go (stmt ∷ rest) stmts' refl w
    where
      go : (all stmts' : List Stmt) → all ≡ stmt ∷ rest → IsWithout (IsNeededIn g block) all stmts' → IsNeededIn g' block' stmts' l
      go all stmts' is done = absurd (cc)
      go all stmts' is (remains {stmt = s} {rest = r} {rest' = r'} w) = let same : s ≡ stmt = cc in used (subst (λ s. Contains (uses_of s) l) (sym same) c)
      go all stmts' is (leaves {stmt = s} {rest = r} {rest' = r'} assigns none w) = let same : s ≡ stmt = cc in absurd (true≢false (sym assigns ∙ ap is_assignment same ∙ uses_plain stmt l c))
  still_needed block stmts l (made_of {stmt = stmt} {rest = rest} {to = to} writes c d) block' pair stmts' w = go (stmt ∷ rest) stmts' refl w (λ r' w. still_needed block rest to d block' pair r' w)
    where
      go : (all stmts' : List Stmt) → all ≡ stmt ∷ rest → IsWithout (IsNeededIn g block) all stmts' → ((r' : List Stmt) → IsWithout (IsNeededIn g block) rest r' → IsNeededIn g' block' r' to) → IsNeededIn g' block' stmts' l
      go all stmts' is done later = absurd (cc)
      go all stmts' is (remains {stmt = s} {rest = r} {rest' = r'} w) later =
          let same : s ≡ stmt = cc in
          let also : r ≡ rest = cc in
          made_of (subst (λ s. Contains (writes_of s) to) (sym same) writes) (subst (λ s. Contains (makes_of s) l) (sym same) c) (later r' (subst (λ r. IsWithout (IsNeededIn g block) r r') also w))
      go all stmts' is (leaves {stmt = s} {rest = r} {rest' = r'} assigns none w) later =
          let same : s ≡ stmt = cc in
          let also : r ≡ rest = cc in
          absurd (none to (subst (λ s. Contains (writes_of s) to) (sym same) writes) (subst (λ r. IsNeededIn g block r to) (sym also) d))
  still_needed block stmts l (left {stmt = stmt} {rest = rest} n d) block' pair stmts' w = go (stmt ∷ rest) stmts' refl w (λ r' w. still_needed block rest l d block' pair r' w)
    where
      go : (all stmts' : List Stmt) → all ≡ stmt ∷ rest → IsWithout (IsNeededIn g block) all stmts' → ((r' : List Stmt) → IsWithout (IsNeededIn g block) rest r' → IsNeededIn g' block' r' l) → IsNeededIn g' block' stmts' l
      go all stmts' is done later = absurd (cc)
      go all stmts' is (remains {stmt = s} {rest = r} {rest' = r'} w) later =
          let same : s ≡ stmt = cc in
          let also : r ≡ rest = cc in
          left (subst (λ s. ¬ Contains (writes_of s) l) (sym same) n) (later r' (subst (λ r. IsWithout (IsNeededIn g block) r r') also w))
      go all stmts' is (leaves {stmt = s} {rest = r} {rest' = r'} assigns none w) later = let also : r ≡ rest = cc in later stmts' (subst (λ r. IsWithout (IsNeededIn g block) r stmts') also w)
  still_needed block stmts l (tested c) block' pair stmts' w = go [] stmts' refl w
    where
      go : (all stmts' : List Stmt) → all ≡ [] → IsWithout (IsNeededIn g block) all stmts' → IsNeededIn g' block' stmts' l
      go all stmts' is done = tested (subst (λ x. Contains (tests_of x) l) (sym pair.exit) c)
      go all stmts' is (remains w) = absurd (cc)
      go all stmts' is (leaves assigns none w) = absurd (cc)
  still_needed block stmts l (goes {next = next} {place = place} c f d) block' pair stmts' w =
      let there = zip_on g.blocks g'.blocks place next h.blocks f in
      go [] stmts' refl w (goes (subst (λ x. Contains (targets x) place) (sym pair.exit) c) there.1 (still_needed next next.stmts l d there.0 there.2 there.0.stmts there.2.stmts))
    where
      go : (all stmts' : List Stmt) → all ≡ [] → IsWithout (IsNeededIn g block) all stmts' → IsNeededIn g' block' [] l → IsNeededIn g' block' stmts' l
      go all stmts' is done e = e
      go all stmts' is (remains w) e = absurd (cc)
      go all stmts' is (leaves assigns none w) e = absurd (cc)

  -- each assignment that is left makes what is needed
  pub left_needed : (block : Block) (has : Loc → Bool) → Exactly g block has [] → (block' : Block) → IsBlockWithout (needed g) block block' → (stmts : List Stmt) → AllNeeded g' block' (left_of stmts has)
  left_needed block has exact block' pair [] = tt
  left_needed block has exact block' pair (stmt ∷ rest) = go (stays (access_of stmt) (W g block has exact rest)) refl (left_needed block has exact block' pair rest)
    where
      here : stays (access_of stmt) (W g block has exact rest) ≡ true → is_assignment stmt ≡ true → (l : Loc) × Contains (writes_of stmt) l × IsNeededIn g' block' (left_of rest has) l
      here e assigns = elim (staying (is_assignment stmt) (list_any (W g block has exact rest) (writes_of stmt)) e) [
        | inl plain ↦ absurd (true≢false (sym assigns ∙ plain))
        | inr some ↦
            let to = some_passes (W g block has exact rest) (writes_of stmt) some in (
              to.0,
              to.1,
              still_needed block rest to.0 ((needed_before g block has rest exact to.0).0 to.2) block' pair (left_of rest has) (left_without g block has exact rest),
            )
      ]

      go : (b : Bool) → stays (access_of stmt) (W g block has exact rest) ≡ b → AllNeeded g' block' (left_of rest has) → AllNeeded g' block' (if b then stmt ∷ left_of rest has else left_of rest has)
      go true e later = (here e, later)
      go false e later = later

-- The whole graph.

module _ (g : Graph) (places : List Loc) (at_end : List (List Bool)) (known : AreNeededAtEnds g places at_end) (g' : Graph) (is : g' ≡ record g { blocks = blocks_left places at_end g.blocks }) where
  -- what is needed at the end of each of these blocks is known
  abbrev AreExact : List Block → List (List Bool) → Type 0
  AreExact blocks ends = (k : ℕ) (block : Block) → slice_get blocks k ≡ Some block → Exactly g block (after_stmts places (get_or ends k []) (block_access_of block).last) []

  pair_left : (block : Block) (bits : List Bool) → Exactly g block (after_stmts places bits (block_access_of block).last) [] → IsBlockWithout (needed g) block (block_left places bits block)
  pair_left block bits exact = record { at = refl; exit = refl; stmts = left_without g block (after_stmts places bits (block_access_of block).last) exact block.stmts }

  zip_left : (blocks : List Block) (ends : List (List Bool)) → length ends ≡ length blocks → AreExact blocks ends → AllZip (IsBlockWithout (needed g)) blocks (blocks_left places ends blocks)
  zip_left [] [] len exact = tt
  zip_left [] (bits ∷ ends) len exact = tt
  zip_left (block ∷ blocks) [] len exact = absurd (omega (arith, len))
  zip_left (block ∷ blocks) (bits ∷ ends) len exact = (pair_left block bits (exact 0 block refl), zip_left blocks ends (omega (arith, len)) (λ k b e. exact (suc k) b e))

  exact_ends : AreExact g.blocks at_end
  exact_ends k block at x = known.exact k block x at

  zipped : AllZip (IsBlockWithout (needed g)) g.blocks (blocks_left places at_end g.blocks)
  zipped = zip_left g.blocks at_end known.are.count_is exact_ends

  pub without_unneeded : IsGraphWithout (needed g) g g'
  without_unneeded = subst (IsGraphWithout (needed g) g) (sym is) (record { entry = refl; params = refl; local = refl; pushed = refl; bits = refl; blocks = zipped })

  all_left : (blocks : List Block) (ends : List (List Bool)) → length ends ≡ length blocks → AreExact blocks ends → All (λ b. AllNeeded g' b b.stmts) (blocks_left places ends blocks)
  all_left [] [] len exact = All-nil (λ b. AllNeeded g' b b.stmts)
  all_left [] (bits ∷ ends) len exact = All-nil (λ b. AllNeeded g' b b.stmts)
  all_left (block ∷ blocks) [] len exact = absurd (omega (arith, len))
  all_left (block ∷ blocks) (bits ∷ ends) len exact =
      let here = exact 0 block refl in
      All-cons (λ b. AllNeeded g' b b.stmts) (block_left places bits block) (blocks_left places ends blocks)
      (left_needed g g' without_unneeded block (after_stmts places bits (block_access_of block).last) here (block_left places bits block) (pair_left block bits here) block.stmts)
      (all_left blocks ends (omega (arith, len)) (λ k b e. exact (suc k) b e))

  pub unneeded_gone : IsWithoutUnneeded g g'
  unneeded_gone = record {
    without = without_unneeded;
    needed = subst (All (λ b. AllNeeded g' b b.stmts)) (sym (ap (λ (x : Graph). x.blocks) is)) (all_left g.blocks at_end known.are.count_is exact_ends);
  }

  pub formed_left : IsGraph g → IsGraph g'
  formed_left formed = graph_still (needed g) g g' without_unneeded formed

  pub may_replace : MayReplace g g'
  may_replace p formed there = kept_with p (needed g) g g' formed there (needed-closed g) without_unneeded

-- The loops over statements and over blocks, from the last to the first.

-- the last of the first elements
pub last_of : {A B : Type 0} (f : A → B) (rest : List A) (x : A) (all : List B) → map f (rest ++ x ∷ []) ≡ take (length (rest ++ x ∷ [])) all → length (rest ++ x ∷ []) ≤ length all →
    (map f rest ≡ take (length rest) all) × (drop (length rest) all ≡ f x ∷ drop (length (rest ++ x ∷ [])) all)
last_of f [] x [] is le = absurd (omega (arith, le))
last_of f [] x (y ∷ all) is le = let same : f x ≡ y = cc in (refl, ap (λ z. z ∷ drop 0 all) (sym same))
last_of f (r ∷ rest) x [] is le = absurd (omega (arith, le))
last_of f (r ∷ rest) x (y ∷ all) is le =
    let same : f r ≡ y = cc in
    let later : map f (rest ++ x ∷ []) ≡ take (length (rest ++ x ∷ [])) all = cc in
    let on = last_of f rest x all later (omega (arith, le)) in
    (ap₂ (λ z zs. z ∷ zs) same on.0, on.1)

-- an element goes to the front
pub reversed_push : {A B : Type 0} (f : A → B) (xs : List A) (x : A) → map f (reverse (xs ++ x ∷ [])) ≡ f x ∷ map f (reverse xs)
reversed_push f xs x = ap (map f) (reverse-append xs (x ∷ []))

pub drop_head : {A : Type 0} (xs : List A) (k : ℕ) (y : A) (ys : List A) (d : A) → drop k xs ≡ y ∷ ys → get_or xs k d ≡ y
drop_head [] zero y ys d e = absurd (cc)
drop_head [] (suc k) y ys d e = absurd (cc)
drop_head (x ∷ xs) zero y ys d e = cc
drop_head (x ∷ xs) (suc k) y ys d e = drop_head xs k y ys d e

-- two lists that stand for one have like elements at a place
pub mapped_at : {A B C : Type 0} (f : A → C) (h : B → C) (xs : List A) (ys : List B) (k : ℕ) (x : A) (y : B) (rest : List B) → map f xs ≡ map h ys → k < length ys → x ≡ get_or xs k x → drop k ys ≡ y ∷ rest → f x ≡ h y
mapped_at f h xs ys k x y rest e less read at =
    let size : length xs ≡ length ys = sym (length-map xs f) ∙ ap length e ∙ length-map ys h in
    map_read f xs k x (omega (arith, less, size)) read ∙ ap (λ l. get_or l k (f x)) e ∙ get_or-map h ys k y (f x) less ∙ ap h (drop_head ys k y rest y at)

-- whether the next statement stays
pub left_step : (D : List Stmt) (st : Stmt) (m0 m : Loc → Bool) (b : Bool) → m ≡ before_all (map access_of D) m0 → b ≡ stays (access_of st) m →
    left_of (st ∷ D) m0 ≡ (if b then st ∷ left_of D m0 else left_of D m0)
left_step D st m0 m b is told = ap (λ t. if t then st ∷ left_of D m0 else left_of D m0) (sym (told ∙ ap (stays (access_of st)) is))

-- The last of the statements that are left to do, and the last of the blocks.

-- the statement before those that were passed
pub stmt_here : (all : List Stmt) (rest rest' : List Statement) (stmt : Statement) → rest ≡ rest' ++ stmt ∷ [] → length rest ≤ length all → map stmt_of rest ≡ take (length rest) all →
    (map stmt_of rest' ≡ take (length rest') all) × (drop (length rest') all ≡ stmt_of stmt ∷ drop (length rest) all)
stmt_here all rest rest' stmt is le front =
    let on = last_of stmt_of rest' stmt all (subst (λ r. map stmt_of r ≡ take (length r) all) is front) (subst (λ r. length r ≤ length all) is le) in
    (on.0, on.1 ∙ ap (λ r. stmt_of stmt ∷ drop (length r) all) (sym is))

pub stmt_step : (all : List Stmt) (m0 m : Loc → Bool) (rest rest' : List Statement) (stmt : Statement) (done_so done_now : List Statement) (b : Bool) → rest ≡ rest' ++ stmt ∷ [] → length rest ≤ length all →
    map stmt_of rest ≡ take (length rest) all → map stmt_of (reverse done_so) ≡ left_of (drop (length rest) all) m0 → m ≡ before_all (map access_of (drop (length rest) all)) m0 → b ≡ stays (access_of (stmt_of stmt)) m →
    done_now ≡ (if b then done_so ++ stmt ∷ [] else done_so) → map stmt_of (reverse done_now) ≡ left_of (drop (length rest') all) m0
stmt_step all m0 m rest rest' stmt done_so done_now b is le front so marks told put =
    let on = stmt_here all rest rest' stmt is le front in
    let D = drop (length rest) all in
    ap (λ l. map stmt_of (reverse l)) put ∙ go b so ∙ sym (left_step D (stmt_of stmt) m0 m b marks told) ∙ sym (ap (λ l. left_of l m0) on.1)
  where
    go : (b : Bool) → map stmt_of (reverse done_so) ≡ left_of (drop (length rest) all) m0 →
        map stmt_of (reverse (if b then done_so ++ stmt ∷ [] else done_so)) ≡ (if b then stmt_of stmt ∷ left_of (drop (length rest) all) m0 else left_of (drop (length rest) all) m0)
    go true so = reversed_push stmt_of done_so stmt ∙ ap (λ l. stmt_of stmt ∷ l) so
    go false so = so

-- the last of the blocks that are left: where it stands in all, and what is left before it
pub record LastTaken (all : List Block) (rest fewer : List BlockOf) (block : BlockOf) : Type 0 where
  pub more : length rest ≡ length fewer + 1
  pub less : length fewer < length all
  pub front : map block_of fewer ≡ take (length fewer) all
  pub here : drop (length fewer) all ≡ block_of block ∷ drop (length rest) all

pub last_taken : (all : List Block) (rest fewer : List BlockOf) (block : BlockOf) → rest ≡ fewer ++ block ∷ []
    → length rest ≤ length all → map block_of rest ≡ take (length rest) all → LastTaken all rest fewer block
last_taken all rest fewer block is le front =
    let more : length rest ≡ length fewer + 1 = ap length is ∙ length_push fewer block in
    let on = last_of block_of fewer block all (subst (λ r. map block_of r ≡ take (length r) all) is front) (subst (λ r. length r ≤ length all) is le) in
    record {
      more = more;
      less = omega (arith, le, more);
      front = on.0;
      here = on.1 ∙ ap (λ r. block_of block ∷ drop (length r) all) (sym is);
    }

pub block_step : (places : List Loc) (at_end : List (List Bool)) (all : List Block) (rest rest' : List BlockOf) (block : BlockOf) (done_so : List BlockOf) (new : BlockOf) → rest ≡ rest' ++ block ∷ [] → length rest ≤ length all →
    length at_end ≡ length all → map block_of rest ≡ take (length rest) all → map block_of (reverse done_so) ≡ blocks_left places (drop (length rest) at_end) (drop (length rest) all) →
    block_of new ≡ block_left places (get_or at_end (length rest') []) (block_of block) → map block_of (reverse (done_so ++ new ∷ [])) ≡ blocks_left places (drop (length rest') at_end) (drop (length rest') all)
block_step places at_end all rest rest' block done_so new is le size front so made =
    let taken = last_taken all rest rest' block is le front in
    let ends = drop_more at_end (length rest') [] (omega (arith, size, taken.less)) ∙ ap (λ n. get_or at_end (length rest') [] ∷ drop n at_end) (sym taken.more) in
    reversed_push block_of done_so new ∙ ap₂ (λ b bs. b ∷ bs) made so ∙ sym (ap₂ (blocks_left places) ends taken.here)
