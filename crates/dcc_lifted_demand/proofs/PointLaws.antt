-- Points one after another in a block, and what stands there.
use Rattle.std.proofs.Common.{◌≡◌, ◌≤◌, ℕ, zero, suc, ◌+◌, List, [], ◌∷◌, ◌++◌, length, map, refl, sym, ap, ap₂, ◌∙◌, subst, arith}
use Rattle.std.specs.Prelude.{Contains}
use Rattle.std.proofs.lemmas.List.{append_assoc}
use Rattle.dcc_ir.specs.Tree.{Stmt, Exit, Graph}
use Rattle.dcc_ir.specs.Live.{block_in}
use Rattle.dcc_sums.specs.Points.{Position, next_of, Site, Executes, Ends, site_at, site_of, nexts_of}
use Rattle.dcc_sums.specs.Instance.{procedure_of}
use Rattle.dcc_refinement.specs.Steps.{Walks}
use Rattle.dcc_refinement.proofs.WantedLaws.{itself}
use Rattle.dcc_lifted_demand.specs.InstructionPoints.{advanced, points_from}

-- Positions.

pub advanced_none : (a : Position) → advanced a 0 ≡ a
advanced_none a = ap (λ n. record a { done = n }) (omega arith)

pub advanced_next : (a : Position) (n : ℕ) → advanced (next_of a) n ≡ advanced a (suc n)
advanced_next a n = ap (λ k. record a { done = k }) (omega arith)

pub advanced_twice : (a : Position) (m n : ℕ) → advanced (advanced a m) n ≡ advanced a (m + n)
advanced_twice a m n = ap (λ k. record a { done = k }) (omega arith)

pub next_is : (a : Position) → next_of a ≡ advanced a 1
next_is a = ap (λ k. record a { done = k }) (omega arith)

-- Sites of a block.

pub site_past : (before : List Stmt) (n : ℕ) (stmts : List Stmt) (exit : Exit) → site_at (length before + n) (before ++ stmts) exit ≡ site_at n stmts exit
site_past [] n stmts exit = ap (λ k. site_at k stmts exit) (omega arith)
site_past (s ∷ before) n stmts exit =
    let e : length (s ∷ before) + n ≡ suc (length before + n) = omega arith in
    ap (λ k. site_at k (s ∷ (before ++ stmts)) exit) e ∙ site_past before n stmts exit

module _ (graph : Graph) where
  -- the statements of the block of a position are these before it, and then these
  pub record IsBefore (a : Position) (stmts : List Stmt) : Type 0 where
    pub before : List Stmt
    pub done : a.done ≡ length before
    pub stmts_are : (block_in graph a.block).stmts ≡ before ++ stmts

  pub site_here : (a : Position) (stmts : List Stmt) → IsBefore a stmts → site_of graph a ≡ site_at 0 stmts (block_in graph a.block).exit
  site_here a stmts is =
      let e : a.done ≡ length is.before + 0 = is.done ∙ omega arith in
      ap₂ (λ n s. site_at n s (block_in graph a.block).exit) e is.stmts_are ∙ site_past is.before 0 stmts (block_in graph a.block).exit

  pub is_before_next : (a : Position) (s : Stmt) (stmts : List Stmt) → IsBefore a (s ∷ stmts) → IsBefore (next_of a) stmts
  is_before_next a s stmts is = record {
    before = is.before ++ (s ∷ []);
    done = ap suc is.done ∙ longer is.before;
    stmts_are = is.stmts_are ∙ sym (append_assoc is.before (s ∷ []) stmts);
  }
    where
      longer : (xs : List Stmt) → suc (length xs) ≡ length (xs ++ (s ∷ []))
      longer [] = refl
      longer (x ∷ xs) = ap suc (longer xs)

  pub is_before_later : (a : Position) (first stmts : List Stmt) → IsBefore a (first ++ stmts) → IsBefore (advanced a (length first)) stmts
  is_before_later a [] stmts is = subst (λ x. IsBefore x stmts) (sym (advanced_none a)) is
  is_before_later a (s ∷ first) stmts is =
      subst (λ x. IsBefore x stmts) (advanced_next a (length first)) (is_before_later (next_of a) first stmts (is_before_next a s (first ++ stmts) is))

  pub sites_from : (a : Position) (first stmts : List Stmt) → IsBefore a (first ++ stmts) → map (site_of graph) (points_from a (length first)) ≡ map Executes first
  sites_from a [] stmts is = refl
  sites_from a (s ∷ first) stmts is = ap₂ (λ x xs. x ∷ xs) (site_here a (s ∷ (first ++ stmts)) is) (sites_from (next_of a) first stmts (is_before_next a s (first ++ stmts) is))

  -- Walks.

  pub walk_on : (a : Position) (first : List Stmt) (rest : List Position) (b : Position) → map (site_of graph) (points_from a (length first)) ≡ map Executes first
      → Walks (procedure_of graph) (advanced a (length first)) rest b → Walks (procedure_of graph) a (points_from a (length first) ++ rest) b
  walk_on a [] rest b e w = subst (λ x. Walks (procedure_of graph) x rest b) (advanced_none a) w
  walk_on a (s ∷ first) rest b e w =
      let here : site_of graph a ≡ Executes s = cc e in
      let later : map (site_of graph) (points_from (next_of a) (length first)) ≡ map Executes first = cc e in
      Walks.goes (subst (λ x. Contains (nexts_of x a) (next_of a)) (sym here) itself)
      (walk_on (next_of a) first rest b later (subst (λ x. Walks (procedure_of graph) x rest b) (sym (advanced_next a (length first))) w))

  -- Which point stands where.

  -- a point with another after it is before a statement
  pub within_sites : (before : List Position) (point next : Position) (after : List Position) (stmts : List Stmt) (tail : List Site) → length tail ≤ 1
      → map (site_of graph) (before ++ (point ∷ next ∷ after)) ≡ map Executes stmts ++ tail → (s : Stmt) × (site_of graph point ≡ Executes s)
  within_sites [] point next after (s ∷ stmts) tail few e = (s, cc e)
  within_sites (x ∷ before) point next after (s ∷ stmts) tail few e = within_sites before point next after stmts tail few (cc e)
  within_sites [] point next after [] [] few e = absurd (cc e)
  within_sites [] point next after [] (t ∷ []) few e = absurd (cc e)
  within_sites [] point next after [] (t ∷ u ∷ tail) few e = absurd (omega (arith, few))
  within_sites (x ∷ before) point next after [] [] few e = absurd (cc e)
  within_sites (x ∷ []) point next after [] (t ∷ []) few e = absurd (cc e)
  within_sites (x ∷ y ∷ before) point next after [] (t ∷ []) few e = absurd (cc e)
  within_sites (x ∷ before) point next after [] (t ∷ u ∷ tail) few e = absurd (omega (arith, few))

  -- the last one before the end of a block is there
  pub last_ends : (before : List Position) (point : Position) (stmts : List Stmt) (exit : Exit) → map (site_of graph) (before ++ (point ∷ [])) ≡ map Executes stmts ++ (Ends exit ∷ []) → site_of graph point ≡ Ends exit
  last_ends [] point [] exit e = cc e
  last_ends (x ∷ before) point (s ∷ stmts) exit e = last_ends before point stmts exit (cc e)
  last_ends [] point (s ∷ []) exit e = absurd (cc e)
  last_ends [] point (s ∷ t ∷ stmts) exit e = absurd (cc e)
  last_ends (x ∷ []) point [] exit e = absurd (cc e)
  last_ends (x ∷ y ∷ before) point [] exit e = absurd (cc e)

  -- the last point of a list that ends before a statement is before one
  pub last_executes : (before : List Position) (point : Position) (stmts : List Stmt) → map (site_of graph) (before ++ (point ∷ [])) ≡ map Executes stmts ++ [] → (s : Stmt) × (site_of graph point ≡ Executes s)
  last_executes [] point (s ∷ stmts) e = (s, cc e)
  last_executes (x ∷ before) point (s ∷ stmts) e = last_executes before point stmts (cc e)
  last_executes [] point [] e = absurd (cc e)
  last_executes (x ∷ before) point [] e = absurd (cc e)

-- Points from a position, as a list.

-- a point with another after it goes on to that
pub consecutive : (a : Position) (n : ℕ) (before : List Position) (point next : Position) (after : List Position) → points_from a n ≡ before ++ (point ∷ next ∷ after) → next ≡ next_of point
consecutive a zero [] point next after e = absurd (cc e)
consecutive a zero (x ∷ before) point next after e = absurd (cc e)
consecutive a (suc zero) [] point next after e = absurd (cc e)
consecutive a (suc zero) (x ∷ []) point next after e = absurd (cc e)
consecutive a (suc zero) (x ∷ y ∷ before) point next after e = absurd (cc e)
consecutive a (suc (suc n)) [] point next after e = cc e
consecutive a (suc (suc n)) (x ∷ before) point next after e = consecutive (next_of a) (suc n) before point next after (cc e)

-- after the last one as many are done
pub after_last : (a : Position) (n : ℕ) (before : List Position) (point : Position) → points_from a n ≡ before ++ (point ∷ []) → next_of point ≡ advanced a n
after_last a zero [] point e = absurd (cc e)
after_last a zero (x ∷ before) point e = absurd (cc e)
after_last a (suc zero) [] point e = let same : a ≡ point = cc e in ap next_of (sym same) ∙ next_is a
after_last a (suc (suc n)) [] point e = absurd (cc e)
after_last a (suc n) (x ∷ before) point e = after_last (next_of a) n before point (cc e) ∙ advanced_next a n

pub points_more : (a : Position) (n : ℕ) → points_from a (suc n) ≡ points_from a n ++ (advanced a n ∷ [])
points_more a zero = ap (λ x. x ∷ []) (sym (advanced_none a))
points_more a (suc n) = ap (λ xs. a ∷ xs) (points_more (next_of a) n ∙ ap (λ x. points_from (next_of a) n ++ (x ∷ [])) (advanced_next a n))
