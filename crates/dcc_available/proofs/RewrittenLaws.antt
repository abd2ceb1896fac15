-- Blocks that were rewritten are the given ones with the expressions of available assignments in the place of reads.
use Rattle.std.proofs.Common.{◌≡◌, ℕ, suc, ◌≤◌, Bool, true, false, List, [], ◌∷◌, ◌++◌, length, map, flat_map, Some, refl, sym, ap, ◌∙◌, subst, append_assoc, slice_get, arith, true≢false}
use Rattle.std.specs.Prelude.{max, if◌then◌else◌}
use Rattle.std.specs.List.{AllZip}
use Rattle.std.proofs.lemmas.List.{append-nil}
use Rattle.dcc_ir.specs.declared.syntax.Loc.{Loc}
use Rattle.dcc_ir.specs.declared.syntax.Stmt.{Stmt as Statement}
use Rattle.dcc_ir.specs.Tree.{Expr, Const, Get, Load, Unary, Binary, Widen, Part, Join, Choose, Address, Stmt, Set, Fetch, Store, Div, Call, Dos, Exit, Goto, If, Switch, Ret, Stop, Block, Graph}
use Rattle.dcc_ir.specs.Measure.{deepest}
use Rattle.dcc_ir.specs.Use.{exprs_of, exit_exprs, block_exprs}
use Rattle.dcc_ir.specs.Views.{stmt_of}
use Rattle.dcc_ir.proofs.LocationLaws.{location_same}
use Rattle.dcc_substitution.specs.Substitute.{IsSubstitute, itself}
use Rattle.dcc_substitution.specs.Substituted.{IsSubstituteStmt, same, IsSubstituteExit, goto, test, switch, ret, stop, AreSubstitutes, done as ended, both as two, gone as left_out, IsSubstitutedBlock}
use Rattle.dcc_available.specs.Along.{along, IsLead, chained}
use Rattle.dcc_available.specs.Within.{StayShallow}
use Rattle.dcc_available.specs.Rewritten.{AreRewritten, done, both as pair, gone, IsRewritten, sets_itself, IsPut}
use Rattle.dcc_available.proofs.TreeLaws.{substitute-more, stmt-more, exit-more, set-of}

-- One more statement.

one-further : (history : List Stmt) (stmt : Stmt) (stmts : List Stmt) → (history ++ stmt ∷ []) ++ stmts ≡ history ++ stmt ∷ stmts
one-further history stmt stmts = append_assoc history (stmt ∷ []) stmts

pub rewritten-pair : (history stmts news : List Stmt) (stmt new : Stmt) → AreRewritten history stmts news → IsSubstituteStmt (along (history ++ stmts)) stmt new → StayShallow (exprs_of stmt) (exprs_of new)
    → AreRewritten history (stmts ++ stmt ∷ []) (news ++ new ∷ [])
rewritten-pair history stmts news stmt new done sub shallow = pair (subst (λ xs. IsSubstituteStmt (along xs) stmt new) (append-nil history) sub) shallow done
rewritten-pair history stmts news stmt new (pair {stmt = s} {stmt' = s'} {rest = rest} {rest' = rest'} h k later) sub shallow =
    pair h k (rewritten-pair (history ++ s ∷ []) rest rest' stmt new later (subst (λ xs. IsSubstituteStmt (along xs) stmt new) (sym (one-further history s rest)) sub) shallow)
rewritten-pair history stmts news stmt new (gone {location = l} {e = e} {rest = rest} {rest' = rest'} h later) sub shallow =
    gone h (rewritten-pair (history ++ Set l e ∷ []) rest rest' stmt new later (subst (λ xs. IsSubstituteStmt (along xs) stmt new) (sym (one-further history (Set l e) rest)) sub) shallow)

pub rewritten-gone : (history stmts news : List Stmt) (l : Loc) (e : Expr) → AreRewritten history stmts news → IsSubstitute (along (history ++ stmts)) e (Get l) → AreRewritten history (stmts ++ Set l e ∷ []) news
rewritten-gone history stmts news l e done sub = gone (subst (λ xs. IsSubstitute (along xs) e (Get l)) (append-nil history) sub) done
rewritten-gone history stmts news l e (pair {stmt = s} {stmt' = s'} {rest = rest} {rest' = rest'} h k later) sub =
    pair h k (rewritten-gone (history ++ s ∷ []) rest rest' l e later (subst (λ xs. IsSubstitute (along xs) e (Get l)) (sym (one-further history s rest)) sub))
rewritten-gone history stmts news l e (gone {location = x} {e = v} {rest = rest} {rest' = rest'} h later) sub =
    gone h (rewritten-gone (history ++ Set x v ∷ []) rest rest' l e later (subst (λ xs. IsSubstitute (along xs) e (Get l)) (sym (one-further history (Set x v) rest)) sub))

-- a statement that sets a location to what it holds
itself-set : (stmt : Stmt) → sets_itself stmt ≡ true → (l : Loc) × (stmt ≡ Set l (Get l))
itself-set (Set l (Get x)) is = (l, ap (λ y. Set l (Get y)) (sym (location_same l x is)))
itself-set (Set l (Const w n)) is = absurd (true≢false (sym is))
itself-set (Set l (Load w a)) is = absurd (true≢false (sym is))
itself-set (Set l (Unary o w a)) is = absurd (true≢false (sym is))
itself-set (Set l (Binary o w a b)) is = absurd (true≢false (sym is))
itself-set (Set l (Widen s w a)) is = absurd (true≢false (sym is))
itself-set (Set l (Part w k a)) is = absurd (true≢false (sym is))
itself-set (Set l (Join a b)) is = absurd (true≢false (sym is))
itself-set (Set l (Choose x a b)) is = absurd (true≢false (sym is))
itself-set (Set l (Address d)) is = absurd (true≢false (sym is))
itself-set (Fetch l w a) is = absurd (true≢false (sym is))
itself-set (Store w a e) is = absurd (true≢false (sym is))
itself-set (Div l e) is = absurd (true≢false (sym is))
itself-set (Call results entry arguments depth) is = absurd (true≢false (sym is))
itself-set (Dos number place argument) is = absurd (true≢false (sym is))

-- a statement more, which is put at the end
pub rewritten-put : (history stmts : List Stmt) (news news' : List Statement) (stmt : Stmt) (new : Statement) → AreRewritten history stmts (map stmt_of news) → IsSubstituteStmt (along (history ++ stmts)) stmt (stmt_of new)
    → StayShallow (exprs_of stmt) (exprs_of (stmt_of new)) → IsPut news new news' → AreRewritten history (stmts ++ stmt ∷ []) (map stmt_of news')
rewritten-put history stmts news news' stmt new are sub shallow is = go (sets_itself (stmt_of new)) refl is
  where
    go : (b : Bool) → sets_itself (stmt_of new) ≡ b → news' ≡ (if b then news else news ++ new ∷ []) → AreRewritten history (stmts ++ stmt ∷ []) (map stmt_of news')
    go true holding equal =
        let what = itself-set (stmt_of new) holding in
        let was = set-of (along (history ++ stmts)) stmt (stmt_of new) sub what.0 (Get what.0) what.1 in
        subst (λ xs. AreRewritten history (stmts ++ stmt ∷ []) (map stmt_of xs)) (sym equal)
        (subst (λ x. AreRewritten history (stmts ++ x ∷ []) (map stmt_of news)) (sym was.1) (rewritten-gone history stmts (map stmt_of news) what.0 was.0 are was.2))
    go false other equal =
        subst (AreRewritten history (stmts ++ stmt ∷ [])) (sym (ap (map stmt_of) equal ∙ mapped news new)) (rewritten-pair history stmts (map stmt_of news) stmt (stmt_of new) are sub shallow)
      where
        mapped : (xs : List Statement) (x : Statement) → map stmt_of (xs ++ x ∷ []) ≡ map stmt_of xs ++ stmt_of x ∷ []
        mapped [] x = refl
        mapped (y ∷ ys) x = ap (λ zs. stmt_of y ∷ zs) (mapped ys x)

-- Blocks of a graph.

module _ (graph : Graph) (place : ℕ) (block : Block) (placed : slice_get graph.blocks place ≡ Some block) (lead : List Stmt) (leads : IsLead graph place lead) where
  along-there : (passed rest : List Stmt) → block.stmts ≡ passed ++ rest → (l : Loc) (e : Expr) → along (lead ++ passed) l e → chained graph place rest l e
  along-there passed rest split l e told = record { lead = lead; leads = leads; block = block; placed = placed; passed = passed; split = split; told = told }

  stmts-substituted : (passed rest news history : List Stmt) → history ≡ lead ++ passed → block.stmts ≡ passed ++ rest → AreRewritten history rest news → AreSubstitutes (chained graph place) rest news
  stmts-substituted passed rest news history is split done = ended
  stmts-substituted passed rest' news' history is split (pair {stmt = stmt} {stmt' = stmt'} {rest = rest} {rest' = news} h k later) =
      two (stmt-more (along history) (chained graph place (stmt ∷ rest)) (λ l e told. along-there passed (stmt ∷ rest) split l e (subst (λ xs. along xs l e) is told)) stmt stmt' h)
      (stmts-substituted (passed ++ stmt ∷ []) rest news (history ++ stmt ∷ []) (ap (λ xs. xs ++ stmt ∷ []) is ∙ append_assoc lead passed (stmt ∷ [])) (split ∙ sym (one-further passed stmt rest)) later)
  stmts-substituted passed rest' news' history is split (gone {location = x} {e = v} {rest = rest} {rest' = news} h later) =
      left_out (substitute-more (along history) (chained graph place (Set x v ∷ rest)) (λ l e told. along-there passed (Set x v ∷ rest) split l e (subst (λ xs. along xs l e) is told)) v (Get x) h)
      (stmts-substituted (passed ++ Set x v ∷ []) rest news (history ++ Set x v ∷ []) (ap (λ xs. xs ++ Set x v ∷ []) is ∙ append_assoc lead passed (Set x v ∷ [])) (split ∙ sym (one-further passed (Set x v) rest)) later)

  pub block-substituted : (new : Block) → IsRewritten lead block new → IsSubstitutedBlock (chained graph) place block new
  block-substituted new is = record {
    at = is.at;
    stmts = stmts-substituted [] block.stmts new.stmts lead (sym (append-nil lead)) refl is.stmts;
    exit = exit-more (along (lead ++ block.stmts)) (chained graph place []) (along-there block.stmts [] (sym (append-nil block.stmts))) block.exit new.exit is.exit;
  }

-- a block that stays
pub block-stays : (graph : Graph) (place : ℕ) (block : Block) → IsSubstitutedBlock (chained graph) place block block
block-stays graph place block = record { at = refl; stmts = stmts-stay block.stmts; exit = exit-stays block.exit }
  where
    stmts-stay : (stmts : List Stmt) → AreSubstitutes (chained graph place) stmts stmts
    stmts-stay [] = ended
    stmts-stay (stmt ∷ stmts) = two same (stmts-stay stmts)

    all-stay : (es : List Expr) → AllZip (IsSubstitute (chained graph place [])) es es
    all-stay [] = tt
    all-stay (e ∷ es) = (itself, all-stay es)

    exit-stays : (exit : Exit) → IsSubstituteExit (chained graph place []) exit exit
    exit-stays (Goto to) = goto
    exit-stays (If e one other) = test itself
    exit-stays (Switch e places) = switch itself
    exit-stays (Ret values) = ret (all-stay values)
    exit-stays Stop = stop

-- Depths.

pub deepest-joined : (xs ys : List Expr) → deepest (xs ++ ys) ≡ max (deepest xs) (deepest ys)
deepest-joined [] ys = omega arith
deepest-joined (x ∷ xs) ys =
    let later = deepest-joined xs ys in
    omega arith

pub shallow-joined : (xs ys xs' ys' : List Expr) → StayShallow xs xs' → StayShallow ys ys' → StayShallow (xs ++ ys) (xs' ++ ys')
shallow-joined xs ys xs' ys' p q =
    let one = deepest-joined xs ys in
    let other = deepest-joined xs' ys' in
    let p' : deepest xs' ≤ max 32 (deepest xs) = p in
    let q' : deepest ys' ≤ max 32 (deepest ys) = q in
    omega arith

stmts-shallow : (history stmts news : List Stmt) → AreRewritten history stmts news → StayShallow (flat_map exprs_of stmts) (flat_map exprs_of news)
stmts-shallow history stmts news done = omega arith
stmts-shallow history stmts' news' (pair {stmt = stmt} {stmt' = stmt'} {rest = stmts} {rest' = news} h k later) =
    shallow-joined (exprs_of stmt) (flat_map exprs_of stmts) (exprs_of stmt') (flat_map exprs_of news) k (stmts-shallow (history ++ stmt ∷ []) stmts news later)
stmts-shallow history stmts' news' (gone {location = l} {e = e} {rest = stmts} {rest' = news} h later) =
    let rest : deepest (flat_map exprs_of news) ≤ max 32 (deepest (flat_map exprs_of stmts)) = stmts-shallow (history ++ Set l e ∷ []) stmts news later in
    omega arith

pub block-shallow : (history : List Stmt) (block new : Block) → IsRewritten history block new → StayShallow (block_exprs block) (block_exprs new)
block-shallow history block new is =
    shallow-joined (flat_map exprs_of block.stmts) (exit_exprs block.exit) (flat_map exprs_of new.stmts) (exit_exprs new.exit) (stmts-shallow history block.stmts new.stmts is.stmts) is.shallow

pub stays-shallow : (es : List Expr) → StayShallow es es
stays-shallow es = omega arith

pub blocks-shallow : (blocks news : List Block) → length news ≡ length blocks → ((k : ℕ) (b c : Block) → slice_get blocks k ≡ Some b → slice_get news k ≡ Some c → StayShallow (block_exprs b) (block_exprs c))
    → StayShallow (flat_map block_exprs blocks) (flat_map block_exprs news)
blocks-shallow [] [] long at = omega arith
blocks-shallow [] (c ∷ cs) long at = absurd (cc)
blocks-shallow (b ∷ bs) [] long at = absurd (cc)
blocks-shallow (b ∷ bs) (c ∷ cs) long at =
    shallow-joined (block_exprs b) (flat_map block_exprs bs) (block_exprs c) (flat_map block_exprs cs) (at 0 b c refl refl) (blocks-shallow bs cs (cc) (λ k x y found there. at (suc k) x y found there))
