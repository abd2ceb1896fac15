-- A graph with the expressions of available assignments in the place of reads is well formed, and is plainer.
use Rattle.std.proofs.Common.{◌≡◌, ℕ, zero, suc, ◌<◌, Bool, true, ◌&&◌, ◌||◌, not, List, [], ◌∷◌, ◌++◌, length, map, flat_map, Some, refl, sym, ap, ap₂, ◌∙◌, subst, slice_get}
use Rattle.std.specs.Prelude.{All, if◌then◌else◌}
use Rattle.std.specs.List.{list_all, list_any}
use Rattle.std.proofs.lemmas.List.Folds.{list_all-append}
use Rattle.std.proofs.lemmas.List.Elements.{All-nil, All-cons, All-head, All-tail}
use Rattle.dcc_ir.specs.declared.syntax.Loc.{Loc}
use Rattle.dcc_ir.specs.Tree.{Expr, Stmt, Set, Exit, Block, Graph}
use Rattle.dcc_ir.specs.Run.{is_call}
use Rattle.dcc_ir.specs.Use.{exprs_of, exit_exprs, block_exprs}
use Rattle.dcc_ir.specs.WellFormed.{is_stmt, is_width, is_exit, is_block, is_jump, jumps_after_call, all_differ, is_put, IsGraph}
use Rattle.dcc_ir.proofs.FitLaws.{both}
use Rattle.dcc_flow.proofs.FormedExprs.{and_both}
use Rattle.dcc_passes.specs.Tidied.{takes_addresses, takes_apart, IsTidied}
use Rattle.dcc_substitution.specs.Substituted.{IsSubstituteStmt, set, fetch, store, div, call, dos, same, AreSubstitutes, done, both as two, gone, IsSubstituted}
use Rattle.dcc_substitution.proofs.SubstituteLaws.{jumps-substitute}
use Rattle.dcc_substitution.proofs.SubstitutedLaws.{substituted-kind, substituted-stands}
use Rattle.dcc_available.specs.Along.{IsAvailableAlong, chained}
use Rattle.dcc_available.proofs.TreeLaws.{IsFit, stmt-formed, exit-formed, takes, stmt-takes, exit-takes}
use Rattle.dcc_available.proofs.AlongLaws.{TakesTested, along-takes, all-led, chained-fits, chained-right}

-- Statements and ends.

call-stays : (Is : Loc → Expr → Type 0) (s s' : Stmt) → IsSubstituteStmt Is s s' → is_call s' ≡ is_call s
call-stays Is s s' (set h) = refl
call-stays Is s s' (fetch h) = refl
call-stays Is s s' (store h k) = refl
call-stays Is s s' (div h k) = refl
call-stays Is s s' (call all) = refl
call-stays Is s s' (dos h) = refl
call-stays Is s s' same = refl

calls-stay : (available : List Stmt → Loc → Expr → Type 0) (stmts news : List Stmt) → AreSubstitutes available stmts news → list_any is_call news ≡ list_any is_call stmts
calls-stay available stmts news done = refl
calls-stay available stmts' news' (two {stmt = s} {stmt' = s'} {rest = stmts} {rest' = news} h later) =
    ap₂ (λ a b. a || b) (call-stays (available (s ∷ stmts)) s s' h) (calls-stay available stmts news later)
calls-stay available stmts' news' (gone {rest = stmts} {rest' = news} h later) = calls-stay available stmts news later

jumps-stay : (available : List Stmt → Loc → Expr → Type 0) (stmts news : List Stmt) (exit exit' : Exit) → is_jump exit' ≡ is_jump exit → AreSubstitutes available stmts news
    → jumps_after_call news exit' ≡ jumps_after_call stmts exit
jumps-stay available stmts news exit exit' jump done = refl
jumps-stay available stmts' news' exit exit' jump (two {stmt = s} {stmt' = s'} {rest = stmts} {rest' = news} h later) =
    ap (λ b. if b then not (list_any is_call news) && is_jump exit' else jumps_after_call news exit') (call-stays (available (s ∷ stmts)) s s' h)
    ∙ ap₂ (λ x y. if is_call s then not x && y else jumps_after_call news exit') (calls-stay available stmts news later) jump
    ∙ ap (λ x. if is_call s then not (list_any is_call stmts) && is_jump exit else x) (jumps-stay available stmts news exit exit' jump later)
jumps-stay available stmts' news' exit exit' jump (gone {rest = stmts} {rest' = news} h later) = jumps-stay available stmts news exit exit' jump later

stmts-formed : (bits : List ℕ) (available : List Stmt → Loc → Expr → Type 0) → ((rest : List Stmt) (l : Loc) (e : Expr) → available rest l e → IsFit bits l e)
    → (stmts news : List Stmt) → AreSubstitutes available stmts news → list_all (is_stmt bits) stmts ≡ true → list_all (is_stmt bits) news ≡ true
stmts-formed bits available fit stmts news done ok = refl
stmts-formed bits available fit stmts' news' (two {stmt = s} {stmt' = s'} {rest = stmts} {rest' = news} h later) ok =
    let parts = both (is_stmt bits s) (list_all (is_stmt bits) stmts) ok in
    and_both (is_stmt bits s') (list_all (is_stmt bits) news) (stmt-formed bits (available (s ∷ stmts)) (fit (s ∷ stmts)) s s' h parts.0) (stmts-formed bits available fit stmts news later parts.1)
stmts-formed bits available fit stmts' news' (gone {location = l} {e = e} {rest = stmts} {rest' = news} h later) ok =
    stmts-formed bits available fit stmts news later (both (is_stmt bits (Set l e)) (list_all (is_stmt bits) stmts) ok).1

-- Blocks.

-- what holds of each pair of blocks at one place, and of the first ones, holds of all
all-blocks : (f g : Block → Bool) (bs cs : List Block) → length cs ≡ length bs → ((k : ℕ) (b c : Block) → slice_get bs k ≡ Some b → slice_get cs k ≡ Some c → f b ≡ true → g c ≡ true)
    → list_all f bs ≡ true → list_all g cs ≡ true
all-blocks f g [] [] long at ok = refl
all-blocks f g [] (c ∷ cs) long at ok = absurd (cc)
all-blocks f g (b ∷ bs) [] long at ok = absurd (cc)
all-blocks f g (b ∷ bs) (c ∷ cs) long at ok =
    let parts = both (f b) (list_all f bs) ok in
    and_both (g c) (list_all g cs) (at 0 b c refl refl parts.0) (all-blocks f g bs cs (cc) (λ k x y found there. at (suc k) x y found there) parts.1)

each-block : (P : Block → Type 0) (bs cs : List Block) → length cs ≡ length bs → ((k : ℕ) (b c : Block) → slice_get bs k ≡ Some b → slice_get cs k ≡ Some c → P b → P c) → All P bs → All P cs
each-block P [] [] long at ok = All-nil P
each-block P [] (c ∷ cs) long at ok = absurd (cc)
each-block P (b ∷ bs) [] long at ok = absurd (cc)
each-block P (b ∷ bs) (c ∷ cs) long at ok =
    All-cons P c cs (at 0 b c refl refl (All-head P b bs ok)) (each-block P bs cs (cc) (λ k x y found there. at (suc k) x y found there) (All-tail P b bs ok))

addresses-stay : (bs cs : List Block) → length cs ≡ length bs → ((k : ℕ) (b c : Block) → slice_get bs k ≡ Some b → slice_get cs k ≡ Some c → c.at ≡ b.at) → map (λ (b : Block). b.at) cs ≡ map (λ (b : Block). b.at) bs
addresses-stay [] [] long at = refl
addresses-stay [] (c ∷ cs) long at = absurd (cc)
addresses-stay (b ∷ bs) [] long at = absurd (cc)
addresses-stay (b ∷ bs) (c ∷ cs) long at = ap₂ (λ n ns. n ∷ ns) (at 0 b c refl refl) (addresses-stay bs cs (cc) (λ k x y found there. at (suc k) x y found there))

all-flat : {A B : Type 0} (f : B → Bool) (g : A → List B) (xs : List A) → list_all f (flat_map g xs) ≡ list_all (λ x. list_all f (g x)) xs
all-flat f g [] = refl
all-flat f g (x ∷ xs) = list_all-append f (g x) (flat_map g xs) ∙ ap (λ b. list_all f (g x) && b) (all-flat f g xs)

-- Graphs.

module _ (before after : Graph) (fine : IsGraph before) (is : IsSubstituted (chained before) before after) where
  bits-same : after.bits ≡ before.bits
  bits-same = ap (λ (g : Graph). g.bits) is.frame

  block-fine : (k : ℕ) (b c : Block) → slice_get before.blocks k ≡ Some b → slice_get after.blocks k ≡ Some c → is_block before.bits (length before.blocks) b ≡ true → is_block before.bits (length before.blocks) c ≡ true
  block-fine k b c found there ok =
      let new = is.blocks k b c found there in
      let parts = both (list_all (is_stmt before.bits) b.stmts) (is_exit before.bits (length before.blocks) b.exit) ok in
      and_both (list_all (is_stmt before.bits) c.stmts) (is_exit before.bits (length before.blocks) c.exit)
      (stmts-formed before.bits (chained before k) (chained-fits before fine k) b.stmts c.stmts new.stmts parts.0)
      (exit-formed before.bits (chained before k []) (chained-fits before fine k []) (length before.blocks) b.exit c.exit new.exit parts.1)

  pub substituted-formed : IsGraph after
  substituted-formed = record {
    begins = subst (λ n. 0 < n) (sym is.count) fine.begins;
    entry = subst (λ n. n < 65536) (sym (ap (λ (g : Graph). g.entry) is.frame)) fine.entry;
    offsets = each-block (λ b. b.at < 65536) before.blocks after.blocks is.count (λ k b c found there less. subst (λ n. n < 65536) (sym (is.blocks k b c found there).at) less) fine.offsets;
    jumps = each-block (λ b. jumps_after_call b.stmts b.exit ≡ true) before.blocks after.blocks is.count
        (λ k b c found there ok.
        let new = is.blocks k b c found there in
        jumps-stay (chained before k) b.stmts c.stmts b.exit c.exit (jumps-substitute (chained before k []) b.exit c.exit new.exit) new.stmts ∙ ok) fine.jumps;
    addresses = ap all_differ (addresses-stay before.blocks after.blocks is.count (λ k b c found there. (is.blocks k b c found there).at)) ∙ fine.addresses;
    bits = ap (λ (g : Graph). list_all is_width g.bits) is.frame ∙ fine.bits;
    params = ap (λ (g : Graph). list_all (λ p. is_put g.bits p.put) g.params) is.frame ∙ fine.params;
    blocks = subst (λ bits. list_all (is_block bits (length after.blocks)) after.blocks ≡ true) (sym bits-same)
        (subst (λ n. list_all (is_block before.bits n) after.blocks ≡ true) (sym is.count)
        (all-blocks (is_block before.bits (length before.blocks)) (is_block before.bits (length before.blocks)) before.blocks after.blocks is.count block-fine fine.blocks));
  }

  module _ (test : ℕ → Bool) (tested : takes_addresses test before ≡ true) where
    by-blocks : (g : Graph) → takes_addresses test g ≡ list_all (λ b. list_all (takes test) (block_exprs b)) g.blocks
    by-blocks g = all-flat (takes test) block_exprs g.blocks

    block-tested : (k : ℕ) (b : Block) → slice_get before.blocks k ≡ Some b → list_all (takes test) (block_exprs b) ≡ true
    block-tested k b found = at-place before.blocks k b found (sym (by-blocks before) ∙ tested)
      where
        at-place : (bs : List Block) (j : ℕ) (c : Block) → slice_get bs j ≡ Some c → list_all (λ b. list_all (takes test) (block_exprs b)) bs ≡ true → list_all (takes test) (block_exprs c) ≡ true
        at-place [] j c at ok = absurd (cc)
        at-place (x ∷ xs) zero c at ok =
            let same : x ≡ c = cc in
            subst (λ y. list_all (takes test) (block_exprs y) ≡ true) same (both (list_all (takes test) (block_exprs x)) (list_all (λ b. list_all (takes test) (block_exprs b)) xs) ok).0
        at-place (x ∷ xs) (suc j) c at ok = at-place xs j c at (both (list_all (takes test) (block_exprs x)) (list_all (λ b. list_all (takes test) (block_exprs b)) xs) ok).1

    parts-tested : (b : Block) → list_all (takes test) (block_exprs b) ≡ true → (list_all (λ s. list_all (takes test) (exprs_of s)) b.stmts ≡ true) × (list_all (takes test) (exit_exprs b.exit) ≡ true)
    parts-tested b ok =
        let parts = both (list_all (takes test) (flat_map exprs_of b.stmts)) (list_all (takes test) (exit_exprs b.exit)) (sym (list_all-append (takes test) (flat_map exprs_of b.stmts) (exit_exprs b.exit)) ∙ ok) in
        (sym (all-flat (takes test) exprs_of b.stmts) ∙ parts.0, parts.1)

    stmts-all : (stmts : List Stmt) → list_all (λ s. list_all (takes test) (exprs_of s)) stmts ≡ true → All (TakesTested test) stmts
    stmts-all [] ok = All-nil (TakesTested test)
    stmts-all (s ∷ stmts) ok =
        let parts = both (list_all (takes test) (exprs_of s)) (list_all (λ x. list_all (takes test) (exprs_of x)) stmts) ok in
        All-cons (TakesTested test) s stmts parts.0 (stmts-all stmts parts.1)

    told-tested : (k : ℕ) (rest : List Stmt) (l : Loc) (e : Expr) → IsAvailableAlong before k rest l e → takes test e ≡ true
    told-tested k rest l e h = along-takes test (h.lead ++ h.passed)
        (all-led before fine (TakesTested test) refl (λ place block found. stmts-all block.stmts (parts-tested block (block-tested place block found)).0) k rest l e h) l e h.told

    stmts-tested : (k : ℕ) (stmts news : List Stmt) → AreSubstitutes (chained before k) stmts news → list_all (λ s. list_all (takes test) (exprs_of s)) stmts ≡ true → list_all (λ s. list_all (takes test) (exprs_of s)) news ≡ true
    stmts-tested k stmts news done ok = refl
    stmts-tested k stmts' news' (two {stmt = s} {stmt' = s'} {rest = stmts} {rest' = news} h later) ok =
        let parts = both (list_all (takes test) (exprs_of s)) (list_all (λ x. list_all (takes test) (exprs_of x)) stmts) ok in
        and_both (list_all (takes test) (exprs_of s')) (list_all (λ x. list_all (takes test) (exprs_of x)) news)
        (stmt-takes test (chained before k (s ∷ stmts)) (told-tested k (s ∷ stmts)) s s' h parts.0) (stmts-tested k stmts news later parts.1)
    stmts-tested k stmts' news' (gone {location = l} {e = e} {rest = stmts} {rest' = news} h later) ok =
        stmts-tested k stmts news later (both (list_all (takes test) (exprs_of (Set l e))) (list_all (λ x. list_all (takes test) (exprs_of x)) stmts) ok).1

    pub addresses-tested : takes_addresses test after ≡ true
    addresses-tested =
        by-blocks after
        ∙ all-blocks (λ b. list_all (takes test) (block_exprs b)) (λ b. list_all (takes test) (block_exprs b)) before.blocks after.blocks is.count
        (λ k b c found there ok.
        let new = is.blocks k b c found there in
        let parts = parts-tested b ok in
        list_all-append (takes test) (flat_map exprs_of c.stmts) (exit_exprs c.exit)
        ∙ and_both (list_all (takes test) (flat_map exprs_of c.stmts)) (list_all (takes test) (exit_exprs c.exit))
        (all-flat (takes test) exprs_of c.stmts ∙ stmts-tested k b.stmts c.stmts new.stmts parts.0)
        (exit-takes test (chained before k []) (told-tested k []) b.exit c.exit new.exit parts.1))
        (sym (by-blocks before) ∙ tested)

  pub substituted-tidied : IsTidied before after
  substituted-tidied = record {
    formed = substituted-formed;
    stands = substituted-stands (chained before) before after (chained-right before fine) is substituted-formed;
    kind = substituted-kind (chained before) before after (chained-right before fine) is;
    addresses = λ test tested. addresses-tested test tested;
    apart = λ ok. ap takes_apart is.frame ∙ ok;
  }
