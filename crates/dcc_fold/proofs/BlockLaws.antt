-- A walk through a block finds what is joinable at its points.
use Rattle.std.proofs.Common.{◌≡◌, ◌⊎◌, ℕ, ◌+◌, ◌<◌, ◌≤◌, inl, inr, List, [], ◌∷◌, ◌++◌, length, map, take, drop, get_or, Option, Some, None, refl, sym, ap, ap₂, ◌∙◌, subst, arith, append_assoc, take-append-drop}
use Rattle.std.specs.Prelude.{MatchOption}
use Rattle.std.proofs.lemmas.List.{append-nil, map-append, take_more, drop_more, take_all, drop_all}
use Rattle.dcc_ir.specs.Joinable.{next_exprs}
use Rattle.dcc_ir.specs.Tree.{Expr, Stmt, Exit, Block, Graph}
use Rattle.dcc_ir.specs.Use.{exprs_of, exit_exprs}
use Rattle.dcc_fold.specs.Chain.{Step, statement}
use Rattle.dcc_fold.specs.Carried.{IsTrue}
use Rattle.dcc_fold.specs.Found.{IsFoundAmong, JoinsAmong, JoinsIn}
use Rattle.dcc_fold.specs.Known.{Known, IsAfter}
use Rattle.dcc_fold.proofs.FoundLaws.{found-joins, joins-found}
use Rattle.dcc_fold.proofs.KnownLaws.{true-after}

module _ (graph : Graph) where
  -- the temporary may be joined at a point of these statements and the end behind them, after the steps
  pub record JoinsRest (history : List Step) (rest : List Stmt) (exit : Exit) (t : ℕ) : Type 0 where
    pub passed : List Stmt
    pub later : List Stmt
    pub split : rest ≡ passed ++ later
    pub joins : JoinsAmong graph (history ++ map statement passed) (next_exprs later exit) t

  pub block-rest : (steps : List Step) (block : Block) (t : ℕ) → JoinsIn graph steps block t → JoinsRest steps block.stmts block.exit t
  block-rest steps block t is = record { passed = is.passed; later = is.rest; split = is.split; joins = is.joins }

  pub rest-front : (history : List Step) (s : Stmt) (rest : List Stmt) (exit : Exit) (t : ℕ) → JoinsRest history (s ∷ rest) exit t
      → JoinsAmong graph history (exprs_of s) t ⊎ JoinsRest (history ++ statement s ∷ []) rest exit t
  rest-front history s rest exit t is = by is.passed is.later is.split is.joins
    where
      by : (passed later : List Stmt) → s ∷ rest ≡ passed ++ later → JoinsAmong graph (history ++ map statement passed) (next_exprs later exit) t
          → JoinsAmong graph history (exprs_of s) t ⊎ JoinsRest (history ++ statement s ∷ []) rest exit t
      by [] later split joins =
          inl (subst (λ xs. JoinsAmong graph xs (exprs_of s) t) (append-nil history) (subst (λ xs. JoinsAmong graph (history ++ []) (next_exprs xs exit) t) (sym split) joins))
      by (p ∷ passed) later split joins =
          let head : s ≡ p = cc in
          let tail : rest ≡ passed ++ later = cc in
          inr (record {
            passed = passed;
            later = later;
            split = tail;
            joins = subst (λ xs. JoinsAmong graph xs (next_exprs later exit) t)
                (ap (λ x. history ++ statement x ∷ map statement passed) (sym head) ∙ sym (append_assoc history (statement s ∷ []) (map statement passed))) joins;
          })

  pub rest-end : (history : List Step) (exit : Exit) (t : ℕ) → JoinsRest history [] exit t → JoinsAmong graph history (exit_exprs exit) t
  rest-end history exit t is = by is.passed is.later is.split is.joins
    where
      by : (passed later : List Stmt) → [] ≡ passed ++ later → JoinsAmong graph (history ++ map statement passed) (next_exprs later exit) t → JoinsAmong graph history (exit_exprs exit) t
      by [] [] split joins = subst (λ xs. JoinsAmong graph xs (exit_exprs exit) t) (append-nil history) joins
      by [] (x ∷ later) split joins = absurd (cc)
      by (p ∷ passed) later split joins = absurd (cc)

  -- Of the code's statements.

  module _ {S : Type 0} (of : S → Stmt) (stmts : List S) (block : Block) (is : block.stmts ≡ map of stmts) where
    passed-at : ℕ → List Stmt
    passed-at i = map of (take i stmts)

    -- so far a walk has passed the first statements, and what is joinable in the block is so from there on
    pub record ComesIn (first known : Known) (i : ℕ) : Type 0 where
      pub knows : (steps : List Step) → IsTrue first steps → IsTrue known (steps ++ map statement (map of (take i stmts)))
      pub left : (steps : List Step) (t : ℕ) → IsTrue first steps → JoinsIn graph steps block t
          → JoinsRest (steps ++ map statement (map of (take i stmts))) (map of (drop i stmts)) block.exit t

    pub comes-in : (first : Known) → ComesIn first first 0
    comes-in first = record {
      knows = λ steps true_of. subst (IsTrue first) (sym (append-nil steps)) true_of;
      left = λ steps t true_of joins.
          subst (λ xs. JoinsRest xs (map of stmts) block.exit t) (sym (append-nil steps))
          (subst (λ xs. JoinsRest steps xs block.exit t) is (block-rest steps block t joins));
    }

    module _ (first known : Known) (i : ℕ) (s : S) (got : s ≡ get_or stmts i s) (less : i < length stmts) (comes : ComesIn first known i) where
      more : map of (take (i + 1) stmts) ≡ map of (take i stmts) ++ of s ∷ []
      more = ap (map of) (take_more stmts i s less) ∙ map-append of (take i stmts) (get_or stmts i s ∷ []) ∙ ap (λ x. map of (take i stmts) ++ of x ∷ []) (sym got)

      steps-more : (steps : List Step) → (steps ++ map statement (map of (take i stmts))) ++ statement (of s) ∷ [] ≡ steps ++ map statement (map of (take (i + 1) stmts))
      steps-more steps =
          append_assoc steps (map statement (map of (take i stmts))) (statement (of s) ∷ [])
          ∙ ap (λ xs. steps ++ xs) (sym (map-append statement (map of (take i stmts)) (of s ∷ [])) ∙ ap (map statement) (sym more))

      behind : map of (drop i stmts) ≡ of s ∷ map of (drop (i + 1) stmts)
      behind = ap (map of) (drop_more stmts i s less) ∙ ap (λ x. of x ∷ map of (drop (i + 1) stmts)) (sym got)

      pub comes-on : (new : Known) → ((t : ℕ) → ¬ IsFoundAmong graph known (exprs_of (of s)) t) → IsAfter (statement (of s)) known new → ComesIn first new (i + 1)
      comes-on new none after = record {
        knows = λ steps true_of. subst (IsTrue new) (steps-more steps) (true-after (statement (of s)) known new (steps ++ map statement (map of (take i stmts))) after (comes.knows steps true_of));
        left = λ steps t true_of joins.
            elim (rest-front (steps ++ map statement (map of (take i stmts))) (of s) (map of (drop (i + 1) stmts)) block.exit t
            (subst (λ xs. JoinsRest (steps ++ map statement (map of (take i stmts))) xs block.exit t) behind (comes.left steps t true_of joins))) [
              | inl now ↦ absurd (none t (joins-found graph known (steps ++ map statement (map of (take i stmts))) (exprs_of (of s)) t (comes.knows steps true_of) now))
              | inr later ↦ subst (λ xs. JoinsRest xs (map of (drop (i + 1) stmts)) block.exit t) (steps-more steps) later
            ];
      }

      pub found-here : (t : ℕ) → IsFoundAmong graph known (exprs_of (of s)) t → (steps : List Step) → IsTrue first steps → JoinsIn graph steps block t
      found-here t found steps true_of = record {
        passed = map of (take i stmts);
        rest = of s ∷ map of (drop (i + 1) stmts);
        split = is ∙ ap (map of) (sym (take-append-drop i stmts)) ∙ map-append of (take i stmts) (drop i stmts) ∙ ap (λ xs. map of (take i stmts) ++ xs) behind;
        joins = found-joins graph known (steps ++ map statement (map of (take i stmts))) (exprs_of (of s)) t (comes.knows steps true_of) found;
      }

    module _ (first known : Known) (i : ℕ) (all : length stmts ≤ i) (comes : ComesIn first known i) where
      pub knows-all : (steps : List Step) → IsTrue first steps → IsTrue known (steps ++ map statement block.stmts)
      knows-all steps true_of =
          subst (λ xs. IsTrue known (steps ++ map statement xs)) (ap (map of) (take_all i stmts all) ∙ sym is) (comes.knows steps true_of)

      pub found-end : (t : ℕ) → IsFoundAmong graph known (exit_exprs block.exit) t → (steps : List Step) → IsTrue first steps → JoinsIn graph steps block t
      found-end t found steps true_of = record {
        passed = block.stmts;
        rest = [];
        split = sym (append-nil block.stmts);
        joins = found-joins graph known (steps ++ map statement block.stmts) (exit_exprs block.exit) t (knows-all steps true_of) found;
      }

      pub none-in : ((t : ℕ) → ¬ IsFoundAmong graph known (exit_exprs block.exit) t) → (steps : List Step) → IsTrue first steps → (t : ℕ) → ¬ JoinsIn graph steps block t
      none-in none steps true_of t joins =
          none t (joins-found graph known (steps ++ map statement block.stmts) (exit_exprs block.exit) t (knows-all steps true_of)
          (subst (λ xs. JoinsAmong graph (steps ++ map statement xs) (exit_exprs block.exit) t) (ap (map of) (take_all i stmts all) ∙ sym is)
          (rest-end (steps ++ map statement (map of (take i stmts))) block.exit t
          (subst (λ xs. JoinsRest (steps ++ map statement (map of (take i stmts))) xs block.exit t) (ap (map of) (drop_all i stmts all)) (comes.left steps t true_of joins)))))
