-- The plan of a text with jumps is valid.
use Rattle.std.proofs.Common.{◌≡◌, ◌≢◌, ℕ, zero, suc, ◌+◌, ◌<◌, ◌≤◌, inl, inr, Bool, true, false, ◌==◌, List, [], ◌∷◌, ◌++◌, length, Some, refl, sym, ap, ◌∙◌, subst, true≢false, arith}
use Rattle.std.specs.Prelude.{◌||◌, ◌&&◌, not, nat_lt, nat_le, if◌then◌else◌, drop, filter, slice_get}
use Rattle.std.specs.List.{list_any, list_all}
use Rattle.std.proofs.lemmas.Bool.{and_parts, and_from, or_left, or_right, cases_Bool, eqb-true, eq-eqb, ltb-true, false_from_ne_true}
use Rattle.std.proofs.lemmas.Option.{get_or_from_slice_get}
use Rattle.dcc_ir.specs.Live.{block_in}
use Rattle.dcc_ir.specs.Run.{no_block}
use Rattle.dcc_ir.specs.Tree as inner
use Rattle.dcc_ir.specs.WellFormed.{is_stmt, is_expr_of, is_exit, is_block, all_differ, IsGraph}
use Rattle.dcc_ir.proofs.ReachedLaws.{contained, all_at}
use Rattle.dcc_control.specs.Plan.{Plan, marks, arm_marks, turns, is_in, is_marked, is_begun, arm_with, starts_empty}
use Rattle.dcc_control.specs.Valid.{Point, Begin, Before, Leads, is_there, goes, stops, Context, outside, entry, end_of, in_sides, in_arms, IsValid, AreValidArms, Follows, IsPlanOf, BeginsAll}
use Rattle.dcc_control.specs.GotoPlan.{jump, do_all, distinct, places_from, target_arms, goto_exit, goto_blocks, goto_plan}
use Rattle.dcc_control.specs.Laws.{GotoPlanIsValid}
use Rattle.dcc_control.proofs.ListLaws.{drop-first, drop-next, drop-less, drop-all, drop-none, block-at}

some-equal : {A : Type 0} {a b : A} → Some a ≡ Some b → a ≡ b
some-equal e = cc

apart : (a b : ℕ) → a < b → (a == b) ≡ false
apart a b less = false_from_ne_true (a == b) (λ e. let same = eqb-true a b e in absurd (omega (arith, less, same)))

-- Choices.

-- an element that passes stays in what is filtered
filter-keeps : (p : ℕ → Bool) (xs : List ℕ) (n : ℕ) → is_in n xs ≡ true → p n ≡ true → is_in n (filter p xs) ≡ true
filter-keeps p [] n found passes = absurd (true≢false (sym found))
filter-keeps p (x ∷ xs) n found passes = by (x == n) (p x) refl refl found (λ there. filter-keeps p xs n there passes)
  where
    by : (same keeps : Bool) → (x == n) ≡ same → p x ≡ keeps → (same || is_in n xs) ≡ true → (is_in n xs ≡ true → is_in n (filter p xs) ≡ true)
        → is_in n (if keeps then x ∷ filter p xs else filter p xs) ≡ true
    by true true e k found later = or_left (x == n) (is_in n (filter p xs)) e
    by true false e k found later = absurd (true≢false (sym (ap p (eqb-true x n e) ∙ passes) ∙ k))
    by false true e k found later = or_right (x == n) (is_in n (filter p xs)) (later found)
    by false false e k found later = later found

filter-all : (p q : ℕ → Bool) (xs : List ℕ) → list_all p xs ≡ true → list_all p (filter q xs) ≡ true
filter-all p q [] all = refl
filter-all p q (x ∷ xs) all = let (first, others) = and_parts (p x) (list_all p xs) all in by (q x) first (filter-all p q xs others)
  where
    by : (keeps : Bool) → p x ≡ true → list_all p (filter q xs) ≡ true → list_all p (if keeps then x ∷ filter q xs else filter q xs) ≡ true
    by true first others = and_from (p x) (list_all p (filter q xs)) first others
    by false first others = others

distinct-all : (p : ℕ → Bool) (ns : List ℕ) → list_all p ns ≡ true → list_all p (distinct ns) ≡ true
distinct-all p [] all = refl
distinct-all p (n ∷ ns) all =
    let (first, others) = and_parts (p n) (list_all p ns) all in
    and_from (p n) (list_all p (filter (λ m. not (m == n)) (distinct ns))) first (filter-all p (λ m. not (m == n)) (distinct ns) (distinct-all p ns others))

-- each target is among the distinct ones
in-distinct : (ns : List ℕ) (n place : ℕ) → slice_get ns n ≡ Some place → is_in place (distinct ns) ≡ true
in-distinct [] n place at = absurd cc
in-distinct (m ∷ ns) zero place at = or_left (m == place) (is_in place (filter (λ k. not (k == m)) (distinct ns))) (eq-eqb m place (some-equal at))
in-distinct (m ∷ ns) (suc n) place at = by (m == place) refl (place == m) refl (in-distinct ns n place at)
  where
    by : (same : Bool) → (m == place) ≡ same → (back : Bool) → (place == m) ≡ back → is_in place (distinct ns) ≡ true → (same || is_in place (filter (λ k. not (k == m)) (distinct ns))) ≡ true
    by true e back e' found = refl
    by false e true e' found = absurd (true≢false (sym (eq-eqb m place (sym (eqb-true place m e'))) ∙ e))
    by false e false e' found = filter-keeps (λ k. not (k == m)) (distinct ns) place found (ap not e')

-- the places of a target are not below the first one
not-before : (ms : List ℕ) (k target j : ℕ) → j < k → is_in j (places_from k target ms) ≡ false
not-before [] k target j less = refl
not-before (m ∷ ms) k target j less = by (m == target) (not-before ms (suc k) target j (omega (arith, less)))
  where
    by : (here : Bool) → is_in j (places_from (suc k) target ms) ≡ false → is_in j (if here then k ∷ places_from (suc k) target ms else places_from (suc k) target ms) ≡ false
    by true later = ap (λ b. b || is_in j (places_from (suc k) target ms)) (false_from_ne_true (k == j) (λ e. let same = eqb-true k j e in absurd (omega (arith, less, same)))) ∙ later
    by false later = later

-- a place is among those of the target that stands there
places-tested : (ms : List ℕ) (k target n j place : ℕ) → slice_get ms n ≡ Some place → j ≡ k + n → is_in j (places_from k target ms) ≡ (place == target)
places-tested [] k target n j place at is = absurd cc
places-tested (m ∷ ms) k target zero j place at is = by (m == target) refl
  where
    j-is : k ≡ j
    j-is = omega (arith, is)

    by : (here : Bool) → (m == target) ≡ here → is_in j (if here then k ∷ places_from (suc k) target ms else places_from (suc k) target ms) ≡ (place == target)
    by true e = or_left (k == j) (is_in j (places_from (suc k) target ms)) (eq-eqb k j j-is) ∙ sym e ∙ ap (λ x. x == target) (some-equal at)
    by false e = not-before ms (suc k) target j (omega (arith, j-is)) ∙ sym e ∙ ap (λ x. x == target) (some-equal at)
places-tested (m ∷ ms) k target (suc n) j place at is = by (m == target) (places-tested ms (suc k) target n j place at (omega (arith, is)))
  where
    by : (here : Bool) → is_in j (places_from (suc k) target ms) ≡ (place == target)
        → is_in j (if here then k ∷ places_from (suc k) target ms else places_from (suc k) target ms) ≡ (place == target)
    by true later = ap (λ b. b || is_in j (places_from (suc k) target ms)) (false_from_ne_true (k == j) (λ e. let same = eqb-true k j e in absurd (omega (arith, is, same)))) ∙ later
    by false later = later

-- the arm with a place as its case jumps to what stands there
arm-found : (places targets : List ℕ) (n place : ℕ) → slice_get places n ≡ Some place → is_in place targets ≡ true → arm_with n (target_arms places targets) ≡ jump place
arm-found places [] n place at found = absurd (true≢false (sym found))
arm-found places (target ∷ targets) n place at found = by (place == target) refl (places-tested places 0 target n n place at (omega arith)) (λ there. arm-found places targets n place at there)
  where
    by : (same : Bool) → (place == target) ≡ same → is_in n (places_from 0 target places) ≡ (place == target) → (is_in place targets ≡ true → arm_with n (target_arms places targets) ≡ jump place)
        → (if is_in n (places_from 0 target places) then jump target else arm_with n (target_arms places targets)) ≡ jump place
    by true e tested later = ap (λ b. if b then jump target else arm_with n (target_arms places targets)) (tested ∙ e) ∙ ap jump (sym (eqb-true place target e))
    by false e tested later =
        let other : (target == place) ≡ false = false_from_ne_true (target == place) (λ e'. true≢false (sym (eq-eqb place target (sym (eqb-true target place e'))) ∙ e)) in
        ap (λ b. if b then jump target else arm_with n (target_arms places targets)) (tested ∙ e)
        ∙ later (sym (ap (λ b. b || is_in place targets) other) ∙ found)

-- Labels.

-- the numbers of blocks from one on
range : ℕ → List inner.Block → List ℕ
range b [] = []
range b (block ∷ blocks) = b ∷ range (suc b) blocks

arms-marks : (places targets : List ℕ) → arm_marks (target_arms places targets) ≡ []
arms-marks places [] = refl
arms-marks places (target ∷ targets) = arms-marks places targets

exit-marks : (b : ℕ) (exit : inner.Exit) (plan : Plan) → marks (goto_exit b exit plan) ≡ marks plan
exit-marks b (inner.Goto next) plan = refl
exit-marks b (inner.If test one other) plan = refl
exit-marks b (inner.Switch e places) plan = ap (λ ms. ms ++ marks plan) (arms-marks places (distinct places))
exit-marks b (inner.Ret values) plan = refl
exit-marks b inner.Stop plan = refl

do-marks : (b m : ℕ) (stmts : List inner.Stmt) (plan : Plan) → marks (do_all b m stmts plan) ≡ marks plan
do-marks b m [] plan = refl
do-marks b m (stmt ∷ stmts) plan = do-marks b (suc m) stmts plan

goto-marks : (b : ℕ) (blocks : List inner.Block) → marks (goto_blocks b blocks) ≡ range b blocks
unfolding range
goto-marks b [] = refl
goto-marks b (block ∷ blocks) =
    ap (λ ms. b ∷ ms) (do-marks b 0 block.stmts (goto_exit b block.exit (goto_blocks (suc b) blocks)) ∙ exit-marks b block.exit (goto_blocks (suc b) blocks) ∙ goto-marks (suc b) blocks)

-- Their numbers.

in-range : (blocks : List inner.Block) (b a : ℕ) → b ≤ a → a < b + length blocks → is_in a (range b blocks) ≡ true
unfolding range
in-range [] b a low high = absurd (omega (arith, low, high))
in-range (block ∷ blocks) b a low high = elim (cases_Bool (b == a)) [
  | inl same ↦ or_left (b == a) (is_in a (range (suc b) blocks)) same
  | inr other ↦
      let more : b ≢ a = λ e. true≢false (sym (eq-eqb b a e) ∙ other) in
      or_right (b == a) (is_in a (range (suc b) blocks)) (in-range blocks (suc b) a (omega (arith, low, more)) (omega (arith, high)))
]

below-range : (blocks : List inner.Block) (b a : ℕ) → a < b → list_any (λ m. a == m) (range b blocks) ≡ false
unfolding range
below-range [] b a less = refl
below-range (block ∷ blocks) b a less = ap (λ x. x || list_any (λ m. a == m) (range (suc b) blocks)) (apart a b less) ∙ below-range blocks (suc b) a (omega (arith, less))

range-differs : (blocks : List inner.Block) (b : ℕ) → all_differ (range b blocks) ≡ true
unfolding range
range-differs [] b = refl
range-differs (block ∷ blocks) b =
    and_from (not (list_any (λ m. b == m) (range (suc b) blocks))) (all_differ (range (suc b) blocks)) (ap not (below-range blocks (suc b) b (omega arith))) (range-differs blocks (suc b))

-- The plan.

module _ (graph : inner.Graph) (well : IsGraph graph) where
  abbrev whole : Plan
  whole = goto_plan graph

  abbrev begun : ℕ → Bool
  begun b = is_begun whole b

  marked : (b : ℕ) → b < length graph.blocks → is_in b (marks whole) ≡ true
  marked b less = ap (is_in b) (goto-marks 0 graph.blocks) ∙ in-range graph.blocks 0 b (omega arith) (omega (arith, less))

  exit-formed : (b : ℕ) → b < length graph.blocks → is_exit graph.bits (length graph.blocks) (block_in graph b).exit ≡ true
  exit-formed b known =
      (and_parts (list_all (is_stmt graph.bits) (block_in graph b).stmts) (is_exit graph.bits (length graph.blocks) (block_in graph b).exit)
      (all_at (is_block graph.bits (length graph.blocks)) graph.blocks (block_in graph b) well.blocks (contained graph.blocks b (block_in graph b) (block-at graph b known)))).1

  jump-valid : (b : ℕ) (c : Context) → b < length graph.blocks → IsValid graph whole (jump b) c
  jump-valid b c less = ((less, marked b less), tt)

  arms-valid : (places targets : List ℕ) (c : Context) → list_all (λ place. nat_lt place (length graph.blocks)) targets ≡ true → AreValidArms graph whole (target_arms places targets) c
  arms-valid places [] c all = tt
  arms-valid places (target ∷ targets) c all =
      let (first, others) = and_parts (nat_lt target (length graph.blocks)) (list_all (λ place. nat_lt place (length graph.blocks)) targets) all in
      (jump-valid target c (ltb-true target (length graph.blocks) first), arms-valid places targets c others)

  -- some items that the graph comes to from a point, in a context
  abbrev Comes : Point → Plan → Context → Type 0
  Comes = Follows graph begun (is_marked whole)

  exit-follows : (b : ℕ) (exit : inner.Exit) (plan : Plan) (c : Context) → b < length graph.blocks → (block_in graph b).exit ≡ exit → is_exit graph.bits (length graph.blocks) exit ≡ true
      → IsValid graph whole plan c → Comes (end_of graph b) (goto_exit b exit plan) c
  exit-follows b (inner.Goto next) plan c known is formed valid = record { valid = ((jump-valid next c (ltb-true next (length graph.blocks) formed)).0, valid); leads = goes refl is is_there }
  exit-follows b (inner.If test one other) plan c known is formed valid =
      let (two, second) = and_parts (is_expr_of graph.bits 1 test && nat_lt one (length graph.blocks)) (nat_lt other (length graph.blocks)) formed in
      let (tested, first) = and_parts (is_expr_of graph.bits 1 test) (nat_lt one (length graph.blocks)) two in
      record {
        valid = (
          (
            test,
            one,
            other,
            is,
            known,
            is_there,
            jump-valid one (in_sides graph plan c) (ltb-true one (length graph.blocks) first),
            is_there,
            jump-valid other (in_sides graph plan c) (ltb-true other (length graph.blocks) second),
          ),
          valid,
        );
        leads = is_there;
      }
  exit-follows b (inner.Switch e places) plan c known is formed valid =
      let (two, all) = and_parts (is_expr_of graph.bits 16 e && nat_le (length places) 65536) (list_all (λ place. nat_lt place (length graph.blocks)) places) formed in
      record {
        valid = (
          (
            e,
            places,
            is,
            known,
            λ n place at. subst (λ p. Leads graph begun (Begin place) (entry graph p (in_arms graph plan c))) (sym (arm-found places (distinct places) n place at (in-distinct places n place at))) is_there,
            arms-valid places (distinct places) _ (distinct-all (λ place. nat_lt place (length graph.blocks)) places all),
          ),
          valid,
        );
        leads = is_there;
      }
  exit-follows b (inner.Ret values) plan c known is formed valid = record { valid = ((values, is, known), valid); leads = is_there }
  exit-follows b inner.Stop plan c known is formed valid = record { valid = valid; leads = stops refl is }

  do-follows : (b m : ℕ) (stmts : List inner.Stmt) (plan : Plan) (c : Context) → b < length graph.blocks → drop m (block_in graph b).stmts ≡ stmts → m ≤ length (block_in graph b).stmts
      → Comes (end_of graph b) plan c → Comes (Before b m) (do_all b m stmts plan) c
  do-follows b m [] plan c known at within x = subst (λ k. Comes (Before b k) plan c) (sym (drop-all (block_in graph b).stmts m at within)) x
  do-follows b m (stmt ∷ stmts) plan c known at within x =
      let less = drop-less (block_in graph b).stmts m stmt stmts at in
      let y = do-follows b (suc m) stmts plan c known (drop-next (block_in graph b).stmts m stmt stmts at) less x in
      record { valid = ((known, less, y.leads), y.valid); leads = is_there }

  blocks-valid : (b : ℕ) (blocks : List inner.Block) → drop b graph.blocks ≡ blocks → IsValid graph whole (goto_blocks b blocks) outside
  blocks-valid b [] at = tt
  blocks-valid b (block ∷ blocks) at =
      let known = drop-less graph.blocks b block blocks at in
      let is : block_in graph b ≡ block = get_or_from_slice_get graph.blocks b block no_block (drop-first graph.blocks b block blocks at) in
      let later = blocks-valid (suc b) blocks (drop-next graph.blocks b block blocks at) in
      let exit = exit-follows b block.exit (goto_blocks (suc b) blocks) outside known (ap (λ x. x.exit) is) (subst (λ x. is_exit graph.bits (length graph.blocks) x.exit ≡ true) is (exit-formed b known)) later in
      let stmts = do-follows b 0 block.stmts _ outside known (drop-none (block_in graph b).stmts ∙ ap (λ x. x.stmts) is) (omega arith) exit in
      ((known, stmts.leads), stmts.valid)

  starts : (blocks : List inner.Block) → 0 < length blocks → Leads graph begun (Begin 0) (entry graph (goto_blocks 0 blocks) outside)
  starts [] some = absurd (omega (arith, some))
  starts (block ∷ blocks) some = is_there

  no-empty : (blocks : List inner.Block) → starts_empty (goto_blocks 0 blocks) ≡ false
  no-empty [] = refl
  no-empty (block ∷ blocks) = refl

  goto-is : IsPlanOf graph whole
  goto-is = record {
    starts = starts graph.blocks well.begins;
    valid = blocks-valid 0 graph.blocks (drop-none graph.blocks);
    labels = ap all_differ (goto-marks 0 graph.blocks) ∙ range-differs graph.blocks 0;
    first = no-empty graph.blocks;
  }

  begins-all : BeginsAll graph whole
  begins-all b less = or_left (is_marked whole b) (is_in b (turns whole)) (marked b less)

pub goto-valid : GotoPlanIsValid
goto-valid graph well = (goto-is graph well, begins-all graph well)
