-- Trees whose locations are replaced and then put back.
use Rattle.std.proofs.Common.{◌≡◌, List, [], ◌∷◌, ◌++◌, map, flat_map, Some, None, refl, ap, ap₂, ◌∙◌}
use Rattle.std.specs.Prelude.{All}
use Rattle.std.proofs.lemmas.List.Elements.{All-head, All-tail}
use Rattle.dcc_run.proofs.KeptLaws.{right_part}
use Rattle.dcc_ir.proofs.ListLaws.{left_part}
use Rattle.dcc_ir.specs.declared.syntax.Loc.{Loc}
use Rattle.dcc_ir.specs.declared.syntax.Put.{Put}
use Rattle.dcc_ir.specs.declared.syntax.Put.TheVariants.{Memory, One, Two}
use Rattle.dcc_ir.specs.declared.syntax.Param.{Param}
use Rattle.dcc_ir.specs.Tree.{Expr, Const, Get, Load, Unary, Binary, Widen, Part, Join, Choose, Address, Stmt, Set, Fetch, Store, Div, Call, Dos, Exit, Goto, If, Switch, Ret, Stop}
use Rattle.dcc_ir.specs.Use.{parts_of, reads_of, exprs_of, writes_of, exit_exprs}
use Rattle.dcc_ir.specs.Joinable.{places_of}
use Rattle.dcc_passes.specs.Renaming.{renamed, renamed_stmt, renamed_exit, renamed_put, renamed_param, param_places}
use Rattle.dcc_passes.proofs.RenamingLaws.{in-both}
use Rattle.dcc_webs.specs.Split.{with_reads, with_writes}

module _ (back f : Loc → Loc) where
  -- the location is what stands for it, put back
  abbrev pub IsBack : Loc → Type 0
  IsBack l = back (f l) ≡ l

  pub expr_back : (e : Expr) → All IsBack (reads_of e) → renamed back (renamed f e) ≡ e
  expr_back (Const width n) all = refl
  expr_back (Get l) all = ap Get (All-head IsBack l [] all)
  expr_back (Load width a) all = ap (Load width) (expr_back a all)
  expr_back (Unary operator width a) all = ap (Unary operator width) (expr_back a all)
  expr_back (Binary operator width a b) all =
      let two = in-both IsBack (parts_of a) (parts_of b) all in
      ap₂ (λ x y. Binary operator width x y) (expr_back a two.0) (expr_back b two.1)
  expr_back (Widen signed width a) all = ap (Widen signed width) (expr_back a all)
  expr_back (Part width first a) all = ap (Part width first) (expr_back a all)
  expr_back (Join high low) all =
      let two = in-both IsBack (parts_of high) (parts_of low) all in
      ap₂ (λ x y. Join x y) (expr_back high two.0) (expr_back low two.1)
  expr_back (Choose test a b) all =
      let three = in-both IsBack (parts_of test ++ parts_of a) (parts_of b) all in
      let two = in-both IsBack (parts_of test) (parts_of a) three.0 in
      ap₂ (λ x y. Choose x y (renamed back (renamed f b))) (expr_back test two.0) (expr_back a two.1) ∙ ap (Choose test a) (expr_back b three.1)
  expr_back (Address distance) all = refl

  pub exprs_back : (es : List Expr) → All IsBack (flat_map reads_of es) → map (renamed back) (map (renamed f) es) ≡ es
  exprs_back [] all = refl
  exprs_back (e ∷ es) all = ap₂ (λ x y. x ∷ y) (expr_back e (left_part IsBack (reads_of e) (flat_map reads_of es) all)) (exprs_back es (right_part IsBack (reads_of e) (flat_map reads_of es) all))

  one_back : (e : Expr) → All IsBack (flat_map reads_of (e ∷ [])) → renamed back (renamed f e) ≡ e
  one_back e all = expr_back e (left_part IsBack (reads_of e) [] all)

  pub places_back : (ls : List Loc) → All IsBack ls → map back (map f ls) ≡ ls
  places_back [] all = refl
  places_back (l ∷ ls) all = ap₂ (λ x y. x ∷ y) (All-head IsBack l ls all) (places_back ls (All-tail IsBack l ls all))

  pub exit_back : (exit : Exit) → All IsBack (flat_map reads_of (exit_exprs exit)) → renamed_exit back (renamed_exit f exit) ≡ exit
  exit_back (Goto place) all = refl
  exit_back (If test one other) all = ap (λ e. If e one other) (one_back test all)
  exit_back (Switch e places) all = ap (λ x. Switch x places) (one_back e all)
  exit_back (Ret values) all = ap Ret (exprs_back values all)
  exit_back Stop all = refl

  put_back : (put : Put) → All IsBack (places_of put) → renamed_put back (renamed_put f put) ≡ put
  put_back Memory all = refl
  put_back (One l) all = ap One (All-head IsBack l [] all)
  put_back (Two low high) all = ap₂ (λ x y. Two x y) (All-head IsBack low (high ∷ []) all) (All-head IsBack high [] (All-tail IsBack low (high ∷ []) all))

  pub params_back : (ps : List Param) → All IsBack (param_places ps) → map (renamed_param back) (map (renamed_param f) ps) ≡ ps
  params_back [] all = refl
  params_back (p ∷ ps) all =
      ap₂ (λ (x : Put) (y : List Param). record p { put = x } ∷ y) (put_back p.put (left_part IsBack (places_of p.put) (param_places ps) all))
      (params_back ps (right_part IsBack (places_of p.put) (param_places ps) all))

-- a statement, of which other locations are read and written
pub stmt_back : (back read written : Loc → Loc) (stmt : Stmt) → All (IsBack back read) (flat_map reads_of (exprs_of stmt)) → All (IsBack back written) (writes_of stmt)
    → renamed_stmt back back (with_reads read (with_writes written stmt)) ≡ stmt
stmt_back back read written (Set l e) rs ws = ap₂ (λ x y. Set x y) (All-head (IsBack back written) l [] ws) (one_back back read e rs)
stmt_back back read written (Fetch l width a) rs ws = ap₂ (λ x y. Fetch x width y) (All-head (IsBack back written) l [] ws) (one_back back read a rs)
stmt_back back read written (Store width a e) rs ws =
    ap₂ (λ x y. Store width x y) (expr_back back read a (left_part (IsBack back read) (reads_of a) (flat_map reads_of (e ∷ [])) rs))
    (one_back back read e (right_part (IsBack back read) (reads_of a) (flat_map reads_of (e ∷ [])) rs))
stmt_back back read written (Div l e) rs ws = ap₂ (λ x y. Div x y) (All-head (IsBack back written) l [] ws) (one_back back read e rs)
stmt_back back read written (Call results entry arguments depth) rs ws = ap₂ (λ x y. Call x entry y depth) (places_back back written results ws) (exprs_back back read arguments rs)
stmt_back back read written (Dos number None None) rs ws = refl
stmt_back back read written (Dos number (Some l) None) rs ws = ap (λ x. Dos number (Some x) None) (All-head (IsBack back written) l [] ws)
stmt_back back read written (Dos number None (Some e)) rs ws = ap (λ y. Dos number None (Some y)) (one_back back read e rs)
stmt_back back read written (Dos number (Some l) (Some e)) rs ws = ap₂ (λ x y. Dos number (Some x) (Some y)) (All-head (IsBack back written) l [] ws) (one_back back read e rs)
