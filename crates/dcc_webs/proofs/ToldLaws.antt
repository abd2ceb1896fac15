-- A graph that tells the locations of another apart takes the same addresses and is as deep; and where no location takes
-- two arguments of that one, none does of this one.
use Rattle.std.proofs.Common.{◌≡◌, ℕ, suc, Bool, true, false, ◌&&◌, List, [], ◌∷◌, ◌++◌, map, flat_map, Some, None, refl, sym, ap, ap₂, ◌∙◌, subst, true≢false}
use Rattle.std.specs.Prelude.{max, not}
use Rattle.std.specs.List.{list_all}
use Rattle.std.proofs.lemmas.Bool.{and_parts, and_from, not-true}
use Rattle.std.proofs.lemmas.List.{map-append}
use Rattle.std.proofs.lemmas.List.Concat.{flat_map-append}
use Rattle.dcc_ir.specs.declared.syntax.Loc.{Loc}
use Rattle.dcc_ir.specs.declared.syntax.Put.TheVariants.{Memory, One, Two}
use Rattle.dcc_ir.specs.declared.syntax.Put.{Put}
use Rattle.dcc_ir.specs.declared.syntax.Param.{Param}
use Rattle.dcc_ir.specs.Joinable.{places_of}
use Rattle.dcc_ir.specs.Live.{is_among}
use Rattle.dcc_ir.specs.Measure.{depth_of, deepest}
use Rattle.dcc_ir.specs.Tree.{Expr, Const, Get, Load, Unary, Binary, Widen, Part, Join, Choose, Address, Stmt, Set, Fetch, Store, Div, Call, Dos, Exit, Goto, If, Switch, Ret, Stop, Block, Graph}
use Rattle.dcc_ir.specs.Use.{parts_of, addressed_by, addresses_of, exprs_of, exit_exprs, block_exprs, graph_exprs}
use Rattle.dcc_ir.proofs.LocationLaws.{among_contains, contains_among, Contains-cases, Contains-here, Contains-later, Contains-none}
use Rattle.dcc_passes.specs.Renaming.{renamed, renamed_stmt, renamed_exit, renamed_put, renamed_param, param_places}
use Rattle.dcc_passes.specs.Tidied.{takes_addresses, are_different, takes_apart}
use Rattle.dcc_webs.specs.Temporaries.{renamed_block, TellsApart}
use Rattle.std.specs.Prelude.{Contains}

module _ (f : Loc → Loc) where
  -- Expressions.

  two-addresses : (a b : Expr) → addresses_of (renamed f a) ≡ addresses_of a → addresses_of (renamed f b) ≡ addresses_of b
      → flat_map addressed_by (parts_of (renamed f a) ++ parts_of (renamed f b)) ≡ flat_map addressed_by (parts_of a ++ parts_of b)
  two-addresses a b one other =
      flat_map-append addressed_by (parts_of (renamed f a)) (parts_of (renamed f b)) ∙ ap₂ (λ xs ys. xs ++ ys) one other
      ∙ sym (flat_map-append addressed_by (parts_of a) (parts_of b))

  addresses-same : (e : Expr) → addresses_of (renamed f e) ≡ addresses_of e
  addresses-same (Const width n) = refl
  addresses-same (Get location) = refl
  addresses-same (Load width a) = addresses-same a
  addresses-same (Unary operator width a) = addresses-same a
  addresses-same (Binary operator width a b) = two-addresses a b (addresses-same a) (addresses-same b)
  addresses-same (Widen signed width a) = addresses-same a
  addresses-same (Part width first a) = addresses-same a
  addresses-same (Join high low) = two-addresses high low (addresses-same high) (addresses-same low)
  addresses-same (Choose test a b) =
      flat_map-append addressed_by (parts_of (renamed f test) ++ parts_of (renamed f a)) (parts_of (renamed f b))
      ∙ ap₂ (λ xs ys. xs ++ ys) (two-addresses test a (addresses-same test) (addresses-same a)) (addresses-same b)
      ∙ sym (flat_map-append addressed_by (parts_of test ++ parts_of a) (parts_of b))
  addresses-same (Address distance) = refl

  depth-same : (e : Expr) → depth_of (renamed f e) ≡ depth_of e
  depth-same (Const width n) = refl
  depth-same (Get location) = refl
  depth-same (Load width a) = ap suc (depth-same a)
  depth-same (Unary operator width a) = ap suc (depth-same a)
  depth-same (Binary operator width a b) = ap₂ (λ m n. suc (max m n)) (depth-same a) (depth-same b)
  depth-same (Widen signed width a) = ap suc (depth-same a)
  depth-same (Part width first a) = ap suc (depth-same a)
  depth-same (Join high low) = ap₂ (λ m n. suc (max m n)) (depth-same high) (depth-same low)
  depth-same (Choose test a b) =
      ap₂ (λ m n. suc (max m n)) (depth-same test) (ap₂ (λ m n. max m n) (depth-same a) (depth-same b))
  depth-same (Address distance) = refl

  pass-same : (test : ℕ → Bool) (es : List Expr)
      → list_all (λ e. list_all test (addresses_of e)) (map (renamed f) es) ≡ list_all (λ e. list_all test (addresses_of e)) es
  pass-same test [] = refl
  pass-same test (e ∷ es) = ap₂ (λ ds b. list_all test ds && b) (addresses-same e) (pass-same test es)

  deepest-same : (es : List Expr) → deepest (map (renamed f) es) ≡ deepest es
  deepest-same [] = refl
  deepest-same (e ∷ es) = ap₂ (λ m n. max m n) (depth-same e) (deepest-same es)

  -- The expressions of trees with other locations.

  stmt-exprs : (stmt : Stmt) → exprs_of (renamed_stmt f f stmt) ≡ map (renamed f) (exprs_of stmt)
  stmt-exprs (Set location e) = refl
  stmt-exprs (Fetch location width address) = refl
  stmt-exprs (Store width address e) = refl
  stmt-exprs (Div location e) = refl
  stmt-exprs (Call results entry arguments depth) = refl
  stmt-exprs (Dos number place None) = refl
  stmt-exprs (Dos number place (Some e)) = refl

  end-exprs : (exit : Exit) → exit_exprs (renamed_exit f exit) ≡ map (renamed f) (exit_exprs exit)
  end-exprs (Goto place) = refl
  end-exprs (If test one other) = refl
  end-exprs (Switch e places) = refl
  end-exprs (Ret values) = refl
  end-exprs Stop = refl

  stmts-exprs : (stmts : List Stmt)
      → flat_map exprs_of (map (renamed_stmt f f) stmts) ≡ map (renamed f) (flat_map exprs_of stmts)
  stmts-exprs [] = refl
  stmts-exprs (stmt ∷ rest) =
      ap₂ (λ xs ys. xs ++ ys) (stmt-exprs stmt) (stmts-exprs rest)
      ∙ sym (map-append (renamed f) (exprs_of stmt) (flat_map exprs_of rest))

  blocks-exprs : (blocks : List Block)
      → flat_map block_exprs (map (renamed_block f) blocks) ≡ map (renamed f) (flat_map block_exprs blocks)
  blocks-exprs [] = refl
  blocks-exprs (b ∷ blocks) =
      ap₂ (λ xs ys. xs ++ ys)
      (ap₂ (λ xs ys. xs ++ ys) (stmts-exprs b.stmts) (end-exprs b.exit)
      ∙ sym (map-append (renamed f) (flat_map exprs_of b.stmts) (exit_exprs b.exit)))
      (blocks-exprs blocks)
      ∙ sym (map-append (renamed f) (block_exprs b) (flat_map block_exprs blocks))

  -- Locations that take arguments.

  put-places : (put : Put) → places_of (renamed_put f put) ≡ map f (places_of put)
  put-places Memory = refl
  put-places (One location) = refl
  put-places (Two low high) = refl

  params-places : (params : List Param) → param_places (map (renamed_param f) params) ≡ map f (param_places params)
  params-places [] = refl
  params-places (p ∷ params) =
      ap₂ (λ xs ys. xs ++ ys) (put-places p.put) (params-places params)
      ∙ sym (map-append f (places_of p.put) (param_places params))

  contains-mapped : (xs : List Loc) (l : Loc) → Contains xs l → Contains (map f xs) (f l)
  contains-mapped [] l c = absurd (Contains-none l c)
  contains-mapped (x ∷ xs) l c =
      Contains-cases x xs l (Contains (f x ∷ map f xs) (f l))
      (λ same. subst (λ y. Contains (f x ∷ map f xs) y) (ap f same) (Contains-here (f x) (map f xs)))
      (λ later. Contains-later (f x) (map f xs) (f l) (contains-mapped xs l later)) c

  -- what is no longer among the locations that stand for others was none of these
  none-among : (xs : List Loc) (l : Loc) → is_among (map f xs) (f l) ≡ false → is_among xs l ≡ false
  none-among xs l none = by (is_among xs l) refl
    where
      by : (b : Bool) → is_among xs l ≡ b → b ≡ false
      by true is =
          absurd (true≢false (sym (contains_among (map f xs) (f l) (contains-mapped xs l (among_contains xs l is))) ∙ none))
      by false is = refl

  different-before : (xs : List Loc) → are_different (map f xs) ≡ true → are_different xs ≡ true
  different-before [] differ = refl
  different-before (x ∷ xs) differ =
      let p = and_parts (not (is_among (map f xs) (f x))) (are_different (map f xs)) differ in
      and_from (not (is_among xs x)) (are_different xs)
      (ap not (none-among xs x (not-true (is_among (map f xs) (f x)) p.0))) (different-before xs p.1)

module _ (graph after : Graph) (told : TellsApart graph after) where
  exprs-told : graph_exprs graph ≡ map (renamed told.location) (graph_exprs after)
  exprs-told = ap (flat_map block_exprs) (sym told.blocks) ∙ blocks-exprs told.location after.blocks

  pub addresses-told : (test : ℕ → Bool) → takes_addresses test graph ≡ true → takes_addresses test after ≡ true
  addresses-told test passes =
      sym (pass-same told.location test (graph_exprs after))
      ∙ ap (list_all (λ e. list_all test (addresses_of e))) (sym exprs-told) ∙ passes

  pub depth-told : deepest (graph_exprs after) ≡ deepest (graph_exprs graph)
  depth-told = sym (deepest-same told.location (graph_exprs after)) ∙ ap deepest (sym exprs-told)

  pub apart-told : takes_apart graph ≡ true → takes_apart after ≡ true
  apart-told differ =
      different-before told.location (param_places after.params)
      (ap are_different (sym (params-places told.location after.params) ∙ ap param_places told.params) ∙ differ)
