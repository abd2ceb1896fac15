-- Trees over temporaries mention temporaries alone.
use Rattle.std.proofs.Common.{◌≡◌, ℕ, suc, true, ◌&&◌, List, [], ◌∷◌, ◌++◌, map, flat_map, Some, None, refl, ap, ap₂, ◌∙◌}
use Rattle.std.specs.List.{list_all}
use Rattle.std.proofs.lemmas.List.Folds.{list_all-append}
use Rattle.std.proofs.lemmas.List.Concat.{flat_map-append}
use Rattle.dcc_ir.specs.declared.syntax.Loc.{Loc}
use Rattle.dcc_ir.specs.declared.syntax.Put.{Put}
use Rattle.dcc_ir.specs.declared.syntax.Put.TheVariants.{Memory, One, Two}
use Rattle.dcc_ir.specs.declared.syntax.Param.{Param}
use Rattle.dcc_ir.specs.Tree.{Expr, Const, Get, Load, Unary, Binary, Widen, Part, Join, Choose, Address, Stmt, Set, Fetch, Store, Div, Call, Dos, Exit, Goto, If, Switch, Ret, Stop, Block, Graph}
use Rattle.dcc_ir.specs.Use.{parts_of, got_by, reads_of, exit_exprs}
use Rattle.dcc_flow.specs.Access.{access_of, block_access_of}
use Rattle.dcc_flow.specs.Mentions.{stmt_mentions, block_mentions}
use Rattle.dcc_ir.specs.Joinable.{places_of}
use Rattle.dcc_passes.specs.Renaming.{renamed, renamed_exit, renamed_put, renamed_param, param_places}
use Rattle.dcc_webs.specs.Names.{Names, at_writes, before_one, before_all, at_exit}
use Rattle.dcc_webs.specs.Walk.{Facts, base, live_at, last_names}
use Rattle.dcc_webs.specs.Temporaries.{is_temp, HasTempsAlone}
use Rattle.dcc_webs.specs.Split.{temp_by, with_reads, with_writes, stmt_over, stmts_over, block_over, blocks_over, graph_over}

abbrev AreTemps : List Loc → Type 0
AreTemps ls = list_all is_temp ls ≡ true

both_temps : (xs ys : List Loc) → AreTemps xs → AreTemps ys → AreTemps (xs ++ ys)
both_temps xs ys a b = list_all-append is_temp xs ys ∙ ap₂ (λ x y. x && y) a b

one_temp : (l : Loc) → is_temp l ≡ true → AreTemps (l ∷ [])
one_temp l t = ap (λ b. b && true) t

parts_temps : (xs ys : List Expr) → AreTemps (flat_map got_by xs) → AreTemps (flat_map got_by ys) → AreTemps (flat_map got_by (xs ++ ys))
parts_temps xs ys a b = ap (list_all is_temp) (flat_map-append got_by xs ys) ∙ both_temps (flat_map got_by xs) (flat_map got_by ys) a b

module _ (f : Loc → Loc) (are : (l : Loc) → is_temp (f l) ≡ true) where
  expr_temps : (e : Expr) → AreTemps (reads_of (renamed f e))
  expr_temps (Const width n) = refl
  expr_temps (Get l) = one_temp (f l) (are l)
  expr_temps (Load width a) = expr_temps a
  expr_temps (Unary operator width a) = expr_temps a
  expr_temps (Binary operator width a b) = parts_temps (parts_of (renamed f a)) (parts_of (renamed f b)) (expr_temps a) (expr_temps b)
  expr_temps (Widen signed width a) = expr_temps a
  expr_temps (Part width first a) = expr_temps a
  expr_temps (Join high low) = parts_temps (parts_of (renamed f high)) (parts_of (renamed f low)) (expr_temps high) (expr_temps low)
  expr_temps (Choose test a b) =
      parts_temps (parts_of (renamed f test) ++ parts_of (renamed f a)) (parts_of (renamed f b))
      (parts_temps (parts_of (renamed f test)) (parts_of (renamed f a)) (expr_temps test) (expr_temps a)) (expr_temps b)
  expr_temps (Address distance) = refl

  exprs_temps : (es : List Expr) → AreTemps (flat_map reads_of (map (renamed f) es))
  exprs_temps [] = refl
  exprs_temps (e ∷ es) = both_temps (reads_of (renamed f e)) (flat_map reads_of (map (renamed f) es)) (expr_temps e) (exprs_temps es)

  places_temps : (ls : List Loc) → AreTemps (map f ls)
  places_temps [] = refl
  places_temps (l ∷ ls) = ap₂ (λ x y. x && y) (are l) (places_temps ls)

  exit_temps : (exit : Exit) → AreTemps (flat_map reads_of (exit_exprs (renamed_exit f exit)))
  exit_temps (Goto place) = refl
  exit_temps (If test one other) = exprs_temps (test ∷ [])
  exit_temps (Switch e places) = exprs_temps (e ∷ [])
  exit_temps (Ret values) = exprs_temps values
  exit_temps Stop = refl

  put_temps : (put : Put) → AreTemps (places_of (renamed_put f put))
  put_temps Memory = refl
  put_temps (One l) = one_temp (f l) (are l)
  put_temps (Two low high) = both_temps (f low ∷ []) (f high ∷ []) (one_temp (f low) (are low)) (one_temp (f high) (are high))

  params_temps : (ps : List Param) → AreTemps (param_places (map (renamed_param f) ps))
  params_temps [] = refl
  params_temps (p ∷ ps) = both_temps (places_of (renamed_put f p.put)) (param_places (map (renamed_param f) ps)) (put_temps p.put) (params_temps ps)

module _ (read written : Loc → Loc) (are : (l : Loc) → is_temp (read l) ≡ true) (are' : (l : Loc) → is_temp (written l) ≡ true) where
  stmt_temps : (stmt : Stmt) → AreTemps (stmt_mentions (with_reads read (with_writes written stmt)))
  stmt_temps (Set l e) = both_temps (flat_map reads_of (renamed read e ∷ [])) (written l ∷ []) (exprs_temps read are (e ∷ [])) (one_temp (written l) (are' l))
  stmt_temps (Fetch l width a) = both_temps (flat_map reads_of (renamed read a ∷ [])) (written l ∷ []) (exprs_temps read are (a ∷ [])) (one_temp (written l) (are' l))
  stmt_temps (Store width a e) = both_temps (flat_map reads_of (renamed read a ∷ renamed read e ∷ [])) [] (exprs_temps read are (a ∷ e ∷ [])) refl
  stmt_temps (Div l e) = both_temps (flat_map reads_of (renamed read e ∷ [])) (written l ∷ []) (exprs_temps read are (e ∷ [])) (one_temp (written l) (are' l))
  stmt_temps (Call results entry arguments depth) = both_temps (flat_map reads_of (map (renamed read) arguments)) (map written results) (exprs_temps read are arguments) (places_temps written are' results)
  stmt_temps (Dos number None None) = refl
  stmt_temps (Dos number (Some l) None) = one_temp (written l) (are' l)
  stmt_temps (Dos number None (Some e)) = both_temps (flat_map reads_of (renamed read e ∷ [])) [] (exprs_temps read are (e ∷ [])) refl
  stmt_temps (Dos number (Some l) (Some e)) = both_temps (flat_map reads_of (renamed read e ∷ [])) (written l ∷ []) (exprs_temps read are (e ∷ [])) (one_temp (written l) (are' l))

module _ (temps : List ℕ) where
  stmts_temps : (b : ℕ) (names : Names) (stmts : List Stmt) → AreTemps (flat_map stmt_mentions (stmts_over temps b names stmts))
  stmts_temps b names [] = refl
  stmts_temps b names (stmt ∷ rest) =
      both_temps (stmt_mentions (stmt_over temps b (before_all (map access_of rest) names) stmt)) (flat_map stmt_mentions (stmts_over temps b names rest))
      (stmt_temps (temp_by temps b (before_one (access_of stmt) (before_all (map access_of rest) names))) (temp_by temps b (at_writes (access_of stmt) (before_all (map access_of rest) names))) (λ l. refl) (λ l. refl) stmt)
      (stmts_temps b names rest)

  blocks_temps : (facts : Facts) (p : ℕ) (blocks : List Block) → AreTemps (flat_map block_mentions (blocks_over temps facts p blocks))
  blocks_temps facts p [] = refl
  blocks_temps facts p (b ∷ blocks) =
      let names = at_exit (live_at facts p) (block_access_of b).last in
      both_temps (block_mentions (block_over temps (base facts p) (live_at facts p) b)) (flat_map block_mentions (blocks_over temps facts (suc p) blocks))
      (both_temps (flat_map stmt_mentions (stmts_over temps (base facts p) names b.stmts)) (flat_map reads_of (exit_exprs (renamed_exit (temp_by temps (base facts p) names) b.exit)))
      (stmts_temps (base facts p) names b.stmts) (exit_temps (temp_by temps (base facts p) names) (λ l. refl) b.exit))
      (blocks_temps facts (suc p) blocks)

  pub temps_alone : (facts : Facts) (bits : List ℕ) (graph : Graph) → HasTempsAlone (graph_over temps facts bits graph)
  temps_alone facts bits graph =
      both_temps (param_places (map (renamed_param (temp_by temps 0 (last_names facts 0))) graph.params)) (flat_map block_mentions (blocks_over temps facts 0 graph.blocks))
      (params_temps (temp_by temps 0 (last_names facts 0)) (λ l. refl) graph.params) (blocks_temps facts 0 graph.blocks)
