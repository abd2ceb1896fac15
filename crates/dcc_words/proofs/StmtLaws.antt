-- Statements and blocks over words are well formed, of the same kind, take the same addresses and are at most two levels
-- deeper; over temporaries they stay so.
use Rattle.std.proofs.Common.{◌≡◌, ℕ, suc, ◌+◌, ◌≤◌, Bool, true, false, ◌&&◌, ◌||◌, not, List, [], ◌∷◌, ◌++◌, length, map, flat_map, Option, Some, None, option_map, refl, sym, ap, ap₂, ◌∙◌, subst, nat_lt, arith, true≢false, eqb-true, inl, inr, ◌<◌}
use Rattle.std.specs.Prelude.{◌==◌, if◌then◌else◌, nat_le, max, All, option_to_list}
use Rattle.std.specs.List.{list_all, list_any, AllZip}
use Rattle.std.proofs.lemmas.Bool.{and_parts, and_from}
use Rattle.std.proofs.lemmas.List.{length-map}
use Rattle.std.proofs.lemmas.List.Concat.{flat_map-append}
use Rattle.std.proofs.lemmas.List.Elements.{All-nil, All-cons, All-head, All-tail}
use Rattle.std.proofs.lemmas.List.Folds.{list_all-append}
use Rattle.dcc_ir.proofs.PathLaws.{decided}
use Rattle.dcc_flow.proofs.FormedExprs.{make_join}
use Rattle.dcc_ir.specs.declared.syntax.BinOp.{BinOp}
use Rattle.dcc_ir.specs.declared.syntax.Loc.{Loc}
use Rattle.dcc_ir.specs.declared.syntax.Loc.TheVariants.{Temp}
use Rattle.dcc_ir.specs.Tree.{Expr, Const, Get, Load, Unary, Binary, Widen, Part, Join, Choose, Address, Stmt, Set, Fetch, Store, Div, Call, Dos, Exit, Ret, Goto, If, Switch, Stop, Block}
use Rattle.dcc_ir.specs.Location.{location_width}
use Rattle.dcc_ir.specs.Value.{Environment, width_of, division_of}
use Rattle.dcc_ir.specs.Measure.{depth_of, deepest}
use Rattle.dcc_ir.specs.Use.{parts_of, got_by, addressed_by, reads_of, addresses_of, exprs_of, writes_of, exit_exprs, block_exprs}
use Rattle.dcc_ir.specs.Flow.{targets}
use Rattle.dcc_ir.specs.Run.{is_call}
use Rattle.dcc_ir.specs.WellFormed.{is_location, is_width, is_stored_width, divides_safely, is_expr, is_expr_of, is_dividing, is_byte_place, is_dos, is_stmt, is_exit, is_block, is_jump, jumps_after_call, ret_widths}
use Rattle.dcc_flow.specs.Mentions.{stmt_mentions, block_mentions}
use Rattle.dcc_passes.specs.Kinds.{CallKind, call_kinds, BlockStaysInKind}
use Rattle.dcc_webs.specs.Temporaries.{is_temp}
use Rattle.dcc_words.specs.declared.roles.Role.{Role}
use Rattle.dcc_words.specs.declared.roles.Role.TheVariants.{Alone, Low, High}
use Rattle.dcc_words.specs.Reading.{read_by, stmt_read_by, exit_read_by}
use Rattle.dcc_words.specs.Words.{half_of, set_word, reading_as, reading, in_words, set_as, stmt_in_words, IsSetOfBoth, lower_first, upper_first, AreInWords, done, each, both, IsBlockInWords, writes_whole, is_alone}
use Rattle.dcc_words.proofs.RoleLaws.{IsWord, AreRoles}
use Rattle.dcc_words.proofs.ReadLaws.{IsPlain, read-formed, read-formed-of, read-wide, all-read-formed, all-read-wide, dividing-formed, exit-formed, targets-read, jumps-read, end-exprs, stmt-exprs, addresses-read, depth-read, deepest-read, temps-read, all-temps-read}

-- How locations are read.

pub reading-plain : (role : Loc → Role) → IsPlain (reading role)
reading-plain role = record {
  safe = λ operator width l. safe (role l) operator width l;
  dividing = λ bits width l. dividing (role l) bits width l;
  divided = λ scene l. divided (role l) scene l;
}
  where
    safe : (r : Role) → (operator : BinOp) (width : ℕ) (l : Loc) → divides_safely operator width (reading_as r l) ≡ false
    safe Alone operator width l = refl
    safe (Low word) operator width l = refl
    safe (High word) operator width l = refl

    dividing : (r : Role) (bits : List ℕ) (width : ℕ) (l : Loc) → is_dividing bits width (reading_as r l) ≡ false
    dividing Alone bits width l = refl
    dividing (Low word) bits width l = refl
    dividing (High word) bits width l = refl

    divided : (r : Role) (scene : Environment) (l : Loc) → division_of scene (reading_as r l) ≡ None
    divided Alone scene l = refl
    divided (Low word) scene l = refl
    divided (High word) scene l = refl

module _ (role : Loc → Role) where
  pub reading-addresses : (l : Loc) → addresses_of (reading role l) ≡ []
  reading-addresses l = go (role l)
    where
      go : (r : Role) → addresses_of (reading_as r l) ≡ []
      go Alone = refl
      go (Low word) = refl
      go (High word) = refl

  pub reading-shallow : (l : Loc) → depth_of (reading role l) ≤ 2
  reading-shallow l = go (role l)
    where
      go : (r : Role) → depth_of (reading_as r l) ≤ 2
      go Alone = omega arith
      go (Low word) = omega arith
      go (High word) = omega arith

  pub reading-temps : (l : Loc) → is_temp l ≡ true → list_all is_temp (reads_of (reading role l)) ≡ true
  reading-temps l is = go (role l)
    where
      go : (r : Role) → list_all is_temp (reads_of (reading_as r l)) ≡ true
      go Alone = ap (λ b. b && true) is
      go (Low word) = refl
      go (High word) = refl

  -- Addresses, depths and temporaries of statements.

  module _ (test : ℕ → Bool) where
    abbrev pub passes : List Expr → Bool
    passes es = list_all (λ e. list_all test (addresses_of e)) es

    pub passes-append : (es fs : List Expr) → passes (es ++ fs) ≡ (passes es && passes fs)
    passes-append es fs = list_all-append (λ e. list_all test (addresses_of e)) es fs

    pub passes-read : (es : List Expr) → passes (map (in_words role) es) ≡ passes es
    passes-read [] = refl
    passes-read (e ∷ es) = ap₂ (λ ds b. list_all test ds && b) (addresses-read (reading role) reading-addresses e) (passes-read es)

    passes-join : (high low : Expr) → passes (high ∷ []) ≡ true → passes (low ∷ []) ≡ true → passes (Join high low ∷ []) ≡ true
    passes-join high low one other =
        and_from (list_all test (addresses_of (Join high low))) true
        (ap (list_all test) (flat_map-append addressed_by (parts_of high) (parts_of low))
        ∙ list_all-append test (addresses_of high) (addresses_of low)
        ∙ ap₂ (λ a b. a && b) (and_parts (list_all test (addresses_of high)) true one).0 (and_parts (list_all test (addresses_of low)) true other).0)
        refl

    set-passes : (r : Role) (x : Loc) (e : Expr) → passes (e ∷ []) ≡ true → passes (exprs_of (set_as r x e)) ≡ true
    set-passes Alone x e is = is
    set-passes (Low word) x e is = passes-join (half_of word 8) e refl is
    set-passes (High word) x e is = passes-join e (half_of word 0) is refl

    stmt-passes : (stmt : Stmt) → passes (exprs_of stmt) ≡ true → passes (exprs_of (stmt_in_words role stmt)) ≡ true
    stmt-passes (Set x e) is = set-passes (role x) x (in_words role e) (passes-read (e ∷ []) ∙ is)
    stmt-passes (Fetch x width a) is = passes-read (a ∷ []) ∙ is
    stmt-passes (Store width a e) is = passes-read (a ∷ e ∷ []) ∙ is
    stmt-passes (Div x e) is = passes-read (e ∷ []) ∙ is
    stmt-passes (Call results entry arguments depth) is = passes-read arguments ∙ is
    stmt-passes (Dos number place None) is = refl
    stmt-passes (Dos number place (Some e)) is = passes-read (e ∷ []) ∙ is

    both-passes : (stmt next new : Stmt) → IsSetOfBoth role stmt next new → passes (exprs_of stmt) ≡ true → passes (exprs_of next) ≡ true → passes (exprs_of new) ≡ true
    both-passes stmt next new (lower_first {e = e} {f = f} is is' unread) one other =
        passes-join (in_words role f) (in_words role e) (passes-read (f ∷ []) ∙ other) (passes-read (e ∷ []) ∙ one)
    both-passes stmt next new (upper_first {e = e} {f = f} is is' unread) one other =
        passes-join (in_words role e) (in_words role f) (passes-read (e ∷ []) ∙ one) (passes-read (f ∷ []) ∙ other)

    passes-both : (es fs : List Expr) → passes es ≡ true → passes fs ≡ true → passes (es ++ fs) ≡ true
    passes-both es fs one other = passes-append es fs ∙ ap₂ (λ a b. a && b) one other

    passes-parts : (es fs : List Expr) → passes (es ++ fs) ≡ true → (passes es ≡ true) × (passes fs ≡ true)
    passes-parts es fs all = and_parts (passes es) (passes fs) (sym (passes-append es fs) ∙ all)

    stmts-pass : (stmts news : List Stmt) → AreInWords role stmts news → passes (flat_map exprs_of stmts) ≡ true → passes (flat_map exprs_of news) ≡ true
    stmts-pass stmts news done all = refl
    stmts-pass stmts news (each {stmt = stmt} {rest = rest} {rest' = rest'} w) all =
        let p = passes-parts (exprs_of stmt) (flat_map exprs_of rest) all in
        passes-both (exprs_of (stmt_in_words role stmt)) (flat_map exprs_of rest') (stmt-passes stmt p.0) (stmts-pass rest rest' w p.1)
    stmts-pass stmts news (both {stmt = stmt} {next = next} {new = new} {rest = rest} {rest' = rest'} is w) all =
        let p = passes-parts (exprs_of stmt) (flat_map exprs_of (next ∷ rest)) all in
        let q = passes-parts (exprs_of next) (flat_map exprs_of rest) p.1 in
        passes-both (exprs_of new) (flat_map exprs_of rest') (both-passes stmt next new is p.0 q.0) (stmts-pass rest rest' w q.1)

    pub blocks-pass : (blocks news : List Block) → AllZip (IsBlockInWords role) blocks news → passes (flat_map block_exprs blocks) ≡ true → passes (flat_map block_exprs news) ≡ true
    blocks-pass [] [] are all = refl
    blocks-pass [] (new ∷ news) are all = absurd are
    blocks-pass (b ∷ blocks) [] are all = absurd are
    blocks-pass (b ∷ blocks) (new ∷ news) are all =
        let p = passes-parts (block_exprs b) (flat_map block_exprs blocks) all in
        let q = passes-parts (flat_map exprs_of b.stmts) (exit_exprs b.exit) p.0 in
        passes-both (block_exprs new) (flat_map block_exprs news)
        (passes-both (flat_map exprs_of new.stmts) (exit_exprs new.exit) (stmts-pass b.stmts new.stmts are.0.stmts q.0)
        (ap (λ x. passes (exit_exprs x)) are.0.exit ∙ ap passes (end-exprs (reading role) b.exit) ∙ passes-read (exit_exprs b.exit) ∙ q.1))
        (blocks-pass blocks news are.1 p.1)

  -- Depths.

  some-depth : (e : Expr) → 1 ≤ depth_of e
  some-depth (Const width n) = omega arith
  some-depth (Get location) = omega arith
  some-depth (Load width a) = omega arith
  some-depth (Unary operator width a) = omega arith
  some-depth (Binary operator width a b) = omega arith
  some-depth (Widen signed width a) = omega arith
  some-depth (Part width first a) = omega arith
  some-depth (Join high low) = omega arith
  some-depth (Choose test a b) = omega arith
  some-depth (Address distance) = omega arith

  in-depth : (e : Expr) → depth_of (in_words role e) ≤ suc (depth_of e)
  in-depth e = depth-read (reading role) reading-shallow e

  set-depth : (r : Role) (x : Loc) (e : Expr) (n : ℕ) → 1 ≤ n → depth_of e ≤ suc n → deepest (exprs_of (set_as r x e)) ≤ n + 2
  set-depth Alone x e n some few = omega (arith, few)
  set-depth (Low word) x e n some few = omega (arith, some, few)
  set-depth (High word) x e n some few = omega (arith, some, few)

  exprs-depth : (es : List Expr) → deepest (map (in_words role) es) ≤ deepest es + 2
  exprs-depth es = let h = deepest-read (reading role) reading-shallow es in omega (arith, h)

  stmt-depth : (stmt : Stmt) → deepest (exprs_of (stmt_in_words role stmt)) ≤ deepest (exprs_of stmt) + 2
  stmt-depth (Set x e) =
      let h = set-depth (role x) x (in_words role e) (depth_of e) (some-depth e) (in-depth e) in omega (arith, h)
  stmt-depth (Fetch x width a) = exprs-depth (a ∷ [])
  stmt-depth (Store width a e) = exprs-depth (a ∷ e ∷ [])
  stmt-depth (Div x e) = exprs-depth (e ∷ [])
  stmt-depth (Call results entry arguments depth) = exprs-depth arguments
  stmt-depth (Dos number place None) = omega arith
  stmt-depth (Dos number place (Some e)) = exprs-depth (e ∷ [])

  both-depth : (stmt next new : Stmt) → IsSetOfBoth role stmt next new → (n : ℕ) → deepest (exprs_of stmt) ≤ n → deepest (exprs_of next) ≤ n → deepest (exprs_of new) ≤ n + 2
  both-depth stmt next new (lower_first {e = e} {f = f} is is' unread) n one other =
      let h = in-depth e in let k = in-depth f in omega (arith, one, other, h, k)
  both-depth stmt next new (upper_first {e = e} {f = f} is is' unread) n one other =
      let h = in-depth e in let k = in-depth f in omega (arith, one, other, h, k)

  deepest-both : (es fs : List Expr) (n : ℕ) → deepest es ≤ n → deepest fs ≤ n → deepest (es ++ fs) ≤ n
  deepest-both [] fs n one other = other
  deepest-both (e ∷ es) fs n one other =
      let later = deepest-both es fs n (omega (arith, one)) other in omega (arith, one, later)

  deepest-parts : (es fs : List Expr) (n : ℕ) → deepest (es ++ fs) ≤ n → (deepest es ≤ n) × (deepest fs ≤ n)
  deepest-parts [] fs n all = (omega arith, all)
  deepest-parts (e ∷ es) fs n all =
      let later = deepest-parts es fs n (omega (arith, all)) in (omega (arith, all, later.0), later.1)

  stmts-depth : (n : ℕ) (stmts news : List Stmt) → AreInWords role stmts news → deepest (flat_map exprs_of stmts) ≤ n → deepest (flat_map exprs_of news) ≤ n + 2
  stmts-depth n stmts news done few = omega arith
  stmts-depth n stmts news (each {stmt = stmt} {rest = rest} {rest' = rest'} w) few =
      let p = deepest-parts (exprs_of stmt) (flat_map exprs_of rest) n few in
      let here = stmt-depth stmt in
      deepest-both (exprs_of (stmt_in_words role stmt)) (flat_map exprs_of rest') (n + 2) (omega (arith, here, p.0)) (stmts-depth n rest rest' w p.1)
  stmts-depth n stmts news (both {stmt = stmt} {next = next} {new = new} {rest = rest} {rest' = rest'} is w) few =
      let p = deepest-parts (exprs_of stmt) (flat_map exprs_of (next ∷ rest)) n few in
      let q = deepest-parts (exprs_of next) (flat_map exprs_of rest) n p.1 in
      deepest-both (exprs_of new) (flat_map exprs_of rest') (n + 2) (both-depth stmt next new is n p.0 q.0) (stmts-depth n rest rest' w q.1)

  pub blocks-depth : (n : ℕ) (blocks news : List Block) → AllZip (IsBlockInWords role) blocks news → deepest (flat_map block_exprs blocks) ≤ n → deepest (flat_map block_exprs news) ≤ n + 2
  blocks-depth n [] [] are few = omega arith
  blocks-depth n [] (new ∷ news) are few = absurd are
  blocks-depth n (b ∷ blocks) [] are few = absurd are
  blocks-depth n (b ∷ blocks) (new ∷ news) are few =
      let p = deepest-parts (block_exprs b) (flat_map block_exprs blocks) n few in
      let q = deepest-parts (flat_map exprs_of b.stmts) (exit_exprs b.exit) n p.0 in
      let last = exprs-depth (exit_exprs b.exit) in
      let same : exit_exprs new.exit ≡ map (in_words role) (exit_exprs b.exit) = ap exit_exprs are.0.exit ∙ end-exprs (reading role) b.exit in
      deepest-both (block_exprs new) (flat_map block_exprs news) (n + 2)
      (deepest-both (flat_map exprs_of new.stmts) (exit_exprs new.exit) (n + 2) (stmts-depth n b.stmts new.stmts are.0.stmts q.0)
      (subst (λ es. deepest es ≤ n + 2) (sym same) (omega (arith, last, q.1))))
      (blocks-depth n blocks news are.1 p.1)

  -- Temporaries.

  abbrev AreTemps : List Loc → Type 0
  AreTemps ls = list_all is_temp ls ≡ true

  temps-both : (xs ys : List Loc) → AreTemps xs → AreTemps ys → AreTemps (xs ++ ys)
  temps-both xs ys one other = list_all-append is_temp xs ys ∙ ap₂ (λ a b. a && b) one other

  temps-parts : (xs ys : List Loc) → AreTemps (xs ++ ys) → AreTemps xs × AreTemps ys
  temps-parts xs ys all = and_parts (list_all is_temp xs) (list_all is_temp ys) (sym (list_all-append is_temp xs ys) ∙ all)

  temps-in : (es : List Expr) → AreTemps (flat_map reads_of es) → AreTemps (flat_map reads_of (map (in_words role) es))
  temps-in es all = all-temps-read (reading role) reading-temps es all

  temps-join : (high low : Expr) → AreTemps (flat_map reads_of (high ∷ [])) → AreTemps (flat_map reads_of (low ∷ [])) → AreTemps (flat_map reads_of (Join high low ∷ []))
  temps-join high low one other =
      temps-both (reads_of (Join high low)) [] (ap (list_all is_temp) (flat_map-append got_by (parts_of high) (parts_of low))
      ∙ list_all-append is_temp (reads_of high) (reads_of low)
      ∙ ap₂ (λ a b. a && b) (temps-parts (reads_of high) [] one).0 (temps-parts (reads_of low) [] other).0) refl

  set-temps : (r : Role) (x : Loc) (e : Expr) → is_temp x ≡ true → AreTemps (flat_map reads_of (e ∷ [])) → AreTemps (stmt_mentions (set_as r x e))
  set-temps Alone x e is all = temps-both (flat_map reads_of (e ∷ [])) (x ∷ []) all (ap (λ b. b && true) is)
  set-temps (Low word) x e is all = temps-both (flat_map reads_of (Join (half_of word 8) e ∷ [])) (Temp word ∷ []) (temps-join (half_of word 8) e refl all) refl
  set-temps (High word) x e is all = temps-both (flat_map reads_of (Join e (half_of word 0) ∷ [])) (Temp word ∷ []) (temps-join e (half_of word 0) all refl) refl

  stmt-temps : (stmt : Stmt) → AreTemps (stmt_mentions stmt) → AreTemps (stmt_mentions (stmt_in_words role stmt))
  stmt-temps (Set x e) all =
      let p = temps-parts (flat_map reads_of (e ∷ [])) (x ∷ []) all in
      set-temps (role x) x (in_words role e) (and_parts (is_temp x) true p.1).0 (temps-in (e ∷ []) p.0)
  stmt-temps (Fetch x width a) all =
      let p = temps-parts (flat_map reads_of (a ∷ [])) (x ∷ []) all in
      temps-both (flat_map reads_of (in_words role a ∷ [])) (x ∷ []) (temps-in (a ∷ []) p.0) p.1
  stmt-temps (Store width a e) all =
      let p = temps-parts (flat_map reads_of (a ∷ e ∷ [])) [] all in
      temps-both (flat_map reads_of (in_words role a ∷ in_words role e ∷ [])) [] (temps-in (a ∷ e ∷ []) p.0) refl
  stmt-temps (Div x e) all =
      let p = temps-parts (flat_map reads_of (e ∷ [])) (x ∷ []) all in
      temps-both (flat_map reads_of (in_words role e ∷ [])) (x ∷ []) (temps-in (e ∷ []) p.0) p.1
  stmt-temps (Call results entry arguments depth) all =
      let p = temps-parts (flat_map reads_of arguments) results all in
      temps-both (flat_map reads_of (map (in_words role) arguments)) results (temps-in arguments p.0) p.1
  stmt-temps (Dos number place None) all = all
  stmt-temps (Dos number place (Some e)) all =
      let p = temps-parts (flat_map reads_of (e ∷ [])) (option_to_list place) all in
      temps-both (flat_map reads_of (in_words role e ∷ [])) (option_to_list place) (temps-in (e ∷ []) p.0) p.1

  both-temps : (stmt next new : Stmt) → IsSetOfBoth role stmt next new → AreTemps (stmt_mentions stmt) → AreTemps (stmt_mentions next) → AreTemps (stmt_mentions new)
  both-temps stmt next new (lower_first {low = low} {high = high} {word = word} {e = e} {f = f} is is' unread) one other =
      let p = temps-parts (flat_map reads_of (e ∷ [])) (low ∷ []) one in
      let q = temps-parts (flat_map reads_of (f ∷ [])) (high ∷ []) other in
      temps-both (flat_map reads_of (Join (in_words role f) (in_words role e) ∷ [])) (Temp word ∷ [])
      (temps-join (in_words role f) (in_words role e) (temps-in (f ∷ []) q.0) (temps-in (e ∷ []) p.0)) refl
  both-temps stmt next new (upper_first {low = low} {high = high} {word = word} {e = e} {f = f} is is' unread) one other =
      let p = temps-parts (flat_map reads_of (e ∷ [])) (high ∷ []) one in
      let q = temps-parts (flat_map reads_of (f ∷ [])) (low ∷ []) other in
      temps-both (flat_map reads_of (Join (in_words role e) (in_words role f) ∷ [])) (Temp word ∷ [])
      (temps-join (in_words role e) (in_words role f) (temps-in (e ∷ []) p.0) (temps-in (f ∷ []) q.0)) refl

  stmts-temps : (stmts news : List Stmt) → AreInWords role stmts news → AreTemps (flat_map stmt_mentions stmts) → AreTemps (flat_map stmt_mentions news)
  stmts-temps stmts news done all = refl
  stmts-temps stmts news (each {stmt = stmt} {rest = rest} {rest' = rest'} w) all =
      let p = temps-parts (stmt_mentions stmt) (flat_map stmt_mentions rest) all in
      temps-both (stmt_mentions (stmt_in_words role stmt)) (flat_map stmt_mentions rest') (stmt-temps stmt p.0) (stmts-temps rest rest' w p.1)
  stmts-temps stmts news (both {stmt = stmt} {next = next} {new = new} {rest = rest} {rest' = rest'} is w) all =
      let p = temps-parts (stmt_mentions stmt) (flat_map stmt_mentions (next ∷ rest)) all in
      let q = temps-parts (stmt_mentions next) (flat_map stmt_mentions rest) p.1 in
      temps-both (stmt_mentions new) (flat_map stmt_mentions rest') (both-temps stmt next new is p.0 q.0) (stmts-temps rest rest' w q.1)

  pub blocks-temps : (blocks news : List Block) → AllZip (IsBlockInWords role) blocks news → AreTemps (flat_map block_mentions blocks) → AreTemps (flat_map block_mentions news)
  blocks-temps [] [] are all = refl
  blocks-temps [] (new ∷ news) are all = absurd are
  blocks-temps (b ∷ blocks) [] are all = absurd are
  blocks-temps (b ∷ blocks) (new ∷ news) are all =
      let p = temps-parts (block_mentions b) (flat_map block_mentions blocks) all in
      let q = temps-parts (flat_map stmt_mentions b.stmts) (flat_map reads_of (exit_exprs b.exit)) p.0 in
      temps-both (block_mentions new) (flat_map block_mentions news)
      (temps-both (flat_map stmt_mentions new.stmts) (flat_map reads_of (exit_exprs new.exit)) (stmts-temps b.stmts new.stmts are.0.stmts q.0)
      (subst (λ es. AreTemps (flat_map reads_of es)) (sym (ap exit_exprs are.0.exit ∙ end-exprs (reading role) b.exit)) (temps-in (exit_exprs b.exit) q.1)))
      (blocks-temps blocks news are.1 p.1)

-- Forms and kinds.

module _ (bits bits' : List ℕ) (role : Loc → Role) (are : AreRoles bits bits' role) where
  half-formed : (word first : ℕ) → IsWord bits bits' word → nat_le (first + 8) 16 ≡ true → is_expr bits' (half_of word first) ≡ true
  half-formed word first is fits = ap₂ (λ b n. b && nat_le (first + 8) n) is.placed is.wide ∙ fits

  pub reading-wide : (l : Loc) → is_location bits l ≡ true → width_of bits' (reading role l) ≡ location_width bits l
  reading-wide l here = go (role l) refl
    where
      go : (r : Role) → role l ≡ r → width_of bits' (reading_as r l) ≡ location_width bits l
      go Alone is = are.width_stays l here
      go (Low word) is = sym (are.low_wide l word is)
      go (High word) is = sym (are.high_wide l word is)

  reading-formed : (l : Loc) → is_location bits l ≡ true → is_expr bits' (reading role l) ≡ true
  reading-formed l here = go (role l) refl
    where
      go : (r : Role) → role l ≡ r → is_expr bits' (reading_as r l) ≡ true
      go Alone is = are.stays l here
      go (Low word) is = half-formed word 0 (are.low_word l word is) refl
      go (High word) is = half-formed word 8 (are.high_word l word is) refl

  pub expr-formed : (e : Expr) → is_expr bits e ≡ true → is_expr bits' (in_words role e) ≡ true
  expr-formed = read-formed bits bits' (reading role) (reading-plain role) reading-wide reading-formed

  pub expr-wide : (e : Expr) → is_expr bits e ≡ true → width_of bits' (in_words role e) ≡ width_of bits e
  expr-wide = read-wide bits bits' (reading role) (reading-plain role) reading-wide reading-formed

  expr-formed-of : (width : ℕ) (e : Expr) → is_expr_of bits width e ≡ true → is_expr_of bits' width (in_words role e) ≡ true
  expr-formed-of = read-formed-of bits bits' (reading role) (reading-plain role) reading-wide reading-formed

  exprs-formed : (es : List Expr) → list_all (is_expr bits) es ≡ true → list_all (is_expr bits') (map (in_words role) es) ≡ true
  exprs-formed = all-read-formed bits bits' (reading role) (reading-plain role) reading-wide reading-formed

  exprs-wide : (es : List Expr) → list_all (is_expr bits) es ≡ true → map (width_of bits') (map (in_words role) es) ≡ map (width_of bits) es
  exprs-wide = all-read-wide bits bits' (reading role) (reading-plain role) reading-wide reading-formed

  places-formed : (ls : List Loc) → list_all (is_location bits) ls ≡ true → list_all (is_location bits') ls ≡ true
  places-formed [] is = refl
  places-formed (l ∷ ls) is =
      let p = and_parts (is_location bits l) (list_all (is_location bits) ls) is in
      and_from (is_location bits' l) (list_all (is_location bits') ls) (are.stays l p.0) (places-formed ls p.1)

  places-wide : (ls : List Loc) → list_all (is_location bits) ls ≡ true → map (location_width bits') ls ≡ map (location_width bits) ls
  places-wide [] is = refl
  places-wide (l ∷ ls) is =
      let p = and_parts (is_location bits l) (list_all (is_location bits) ls) is in
      ap₂ (λ n ns. n ∷ ns) (are.width_stays l p.0) (places-wide ls p.1)

  -- the Set of a word to halves
  word-formed : (word : ℕ) (high low : Expr) → IsWord bits bits' word → is_expr_of bits' 8 high ≡ true → is_expr_of bits' 8 low ≡ true
      → is_stmt bits' (set_word word high low) ≡ true
  word-formed word high low is one other =
      let p = and_parts (is_expr bits' high) (width_of bits' high == 8) one in
      let q = and_parts (is_expr bits' low) (width_of bits' low == 8) other in
      let wide : width_of bits' high ≡ 8 = eqb-true (width_of bits' high) 8 p.1 in
      let wide' : width_of bits' low ≡ 8 = eqb-true (width_of bits' low) 8 q.1 in
      and_from (is_location bits' (Temp word)) (is_expr_of bits' (location_width bits' (Temp word)) (Join high low)) is.placed
      (and_from (is_expr bits' (Join high low)) (width_of bits' (Join high low) == location_width bits' (Temp word))
      (make_join bits' high low (record {
        upper = p.0;
        lower = q.0;
        same = ap₂ (λ m n. m == n) wide wide';
        size = ap (λ n. n == 8 || n == 16) wide';
      }))
      (ap₂ (λ m n. m == n) (ap₂ (λ m n. m + n) wide wide') is.wide))

  half-of-formed : (word first : ℕ) → IsWord bits bits' word → nat_le (first + 8) 16 ≡ true → is_expr_of bits' 8 (half_of word first) ≡ true
  half-of-formed word first is fits = and_from (is_expr bits' (half_of word first)) (width_of bits' (half_of word first) == 8) (half-formed word first is fits) refl

  set-formed : (x : Loc) (e : Expr) → is_location bits x ≡ true → is_expr_of bits (location_width bits x) e ≡ true → is_stmt bits' (set_as (role x) x (in_words role e)) ≡ true
  set-formed x e here formed = go (role x) refl
    where
      value : is_expr_of bits' (location_width bits x) (in_words role e) ≡ true
      value = expr-formed-of (location_width bits x) e formed

      go : (r : Role) → role x ≡ r → is_stmt bits' (set_as r x (in_words role e)) ≡ true
      go Alone is =
          and_from (is_location bits' x) (is_expr_of bits' (location_width bits' x) (in_words role e)) (are.stays x here)
          (subst (λ n. is_expr_of bits' n (in_words role e) ≡ true) (sym (are.width_stays x here)) value)
      go (Low word) is =
          let w = are.low_word x word is in
          word-formed word (half_of word 8) (in_words role e) w (half-of-formed word 8 w refl)
          (subst (λ n. is_expr_of bits' n (in_words role e) ≡ true) (are.low_wide x word is) value)
      go (High word) is =
          let w = are.high_word x word is in
          word-formed word (in_words role e) (half_of word 0) w
          (subst (λ n. is_expr_of bits' n (in_words role e) ≡ true) (are.high_wide x word is) value) (half-of-formed word 0 w refl)

  stmt-formed : (stmt : Stmt) → is_stmt bits stmt ≡ true → is_stmt bits' (stmt_in_words role stmt) ≡ true
  stmt-formed (Set x e) is =
      let p = and_parts (is_location bits x) (is_expr_of bits (location_width bits x) e) is in set-formed x e p.0 p.1
  stmt-formed (Fetch x width a) is =
      let p = and_parts (is_location bits x && is_stored_width width && (location_width bits x == width)) (is_expr_of bits 16 a) is in
      let q = and_parts (is_location bits x && is_stored_width width) (location_width bits x == width) p.0 in
      let r = and_parts (is_location bits x) (is_stored_width width) q.0 in
      and_from (is_location bits' x && is_stored_width width && (location_width bits' x == width)) (is_expr_of bits' 16 (in_words role a))
      (and_from (is_location bits' x && is_stored_width width) (location_width bits' x == width)
      (and_from (is_location bits' x) (is_stored_width width) (are.stays x r.0) r.1)
      (ap (λ n. n == width) (are.width_stays x r.0) ∙ q.1)) (expr-formed-of 16 a p.1)
  stmt-formed (Store width a e) is =
      let p = and_parts (is_stored_width width && is_expr_of bits 16 a) (is_expr_of bits width e) is in
      let q = and_parts (is_stored_width width) (is_expr_of bits 16 a) p.0 in
      and_from (is_stored_width width && is_expr_of bits' 16 (in_words role a)) (is_expr_of bits' width (in_words role e))
      (and_from (is_stored_width width) (is_expr_of bits' 16 (in_words role a)) q.0 (expr-formed-of 16 a q.1)) (expr-formed-of width e p.1)
  stmt-formed (Div x e) is =
      let p = and_parts (is_location bits x) (is_dividing bits (location_width bits x) e) is in
      and_from (is_location bits' x) (is_dividing bits' (location_width bits' x) (in_words role e)) (are.stays x p.0)
      (subst (λ n. is_dividing bits' n (in_words role e) ≡ true) (sym (are.width_stays x p.0))
      (dividing-formed bits bits' (reading role) (reading-plain role) reading-wide reading-formed (location_width bits x) e p.1))
  stmt-formed (Call results entry arguments depth) is =
      let p = and_parts (list_all (is_location bits) results && list_all (is_expr bits) arguments) (nat_lt depth 65536) is in
      let q = and_parts (list_all (is_location bits) results) (list_all (is_expr bits) arguments) p.0 in
      and_from (list_all (is_location bits') results && list_all (is_expr bits') (map (in_words role) arguments)) (nat_lt depth 65536)
      (and_from (list_all (is_location bits') results) (list_all (is_expr bits') (map (in_words role) arguments)) (places-formed results q.0) (exprs-formed arguments q.1)) p.1
  stmt-formed (Dos number None (Some e)) is = dos (number == 0x02 || number == 0x4C) (number == 0x09) is
    where
      dos : (a b : Bool) → ((a && is_expr_of bits 8 e) || (b && is_expr_of bits 16 e)) ≡ true
          → ((a && is_expr_of bits' 8 (in_words role e)) || (b && is_expr_of bits' 16 (in_words role e))) ≡ true
      dos true b is = elim (decided (is_expr_of bits 8 e)) [
        | inl t ↦ ap (λ c. c || (b && is_expr_of bits' 16 (in_words role e))) (expr-formed-of 8 e t)
        | inr f ↦ or-right (is_expr_of bits' 8 (in_words role e)) (b && is_expr_of bits' 16 (in_words role e))
            (wide b (ap (λ c. c || (b && is_expr_of bits 16 e)) (sym f) ∙ is))
      ]
        where
          or-right : (a b : Bool) → b ≡ true → (a || b) ≡ true
          or-right true b is = refl
          or-right false b is = is

          wide : (b : Bool) → (b && is_expr_of bits 16 e) ≡ true → (b && is_expr_of bits' 16 (in_words role e)) ≡ true
          wide b is = let p = and_parts b (is_expr_of bits 16 e) is in and_from b (is_expr_of bits' 16 (in_words role e)) p.0 (expr-formed-of 16 e p.1)
      dos false b is = let p = and_parts b (is_expr_of bits 16 e) is in and_from b (is_expr_of bits' 16 (in_words role e)) p.0 (expr-formed-of 16 e p.1)
  stmt-formed (Dos number None None) is = is
  stmt-formed (Dos number (Some x) None) is =
      let p = and_parts (number == 0x01 || number == 0x08) (is_byte_place bits (Some x)) is in
      let q = and_parts (is_location bits x) (location_width bits x == 8) p.1 in
      and_from (number == 0x01 || number == 0x08) (is_byte_place bits' (Some x)) p.0
      (and_from (is_location bits' x) (location_width bits' x == 8) (are.stays x q.0) (ap (λ n. n == 8) (are.width_stays x q.0) ∙ q.1))
  stmt-formed (Dos number (Some x) (Some e)) is = is

  both-formed : (stmt next new : Stmt) → IsSetOfBoth role stmt next new → is_stmt bits stmt ≡ true → is_stmt bits next ≡ true → is_stmt bits' new ≡ true
  both-formed stmt next new (lower_first {low = low} {high = high} {word = word} {e = e} {f = f} is is' unread) one other =
      word-formed word (in_words role f) (in_words role e) (are.low_word low word is)
      (eight high f (are.high_wide high word is') other) (eight low e (are.low_wide low word is) one)
    where
      eight : (x : Loc) (e : Expr) → location_width bits x ≡ 8 → is_stmt bits (Set x e) ≡ true → is_expr_of bits' 8 (in_words role e) ≡ true
      eight x e wide is = expr-formed-of 8 e (subst (λ n. is_expr_of bits n e ≡ true) wide (and_parts (is_location bits x) (is_expr_of bits (location_width bits x) e) is).1)
  both-formed stmt next new (upper_first {low = low} {high = high} {word = word} {e = e} {f = f} is is' unread) one other =
      word-formed word (in_words role e) (in_words role f) (are.low_word low word is)
      (eight high e (are.high_wide high word is') one) (eight low f (are.low_wide low word is) other)
    where
      eight : (x : Loc) (e : Expr) → location_width bits x ≡ 8 → is_stmt bits (Set x e) ≡ true → is_expr_of bits' 8 (in_words role e) ≡ true
      eight x e wide is = expr-formed-of 8 e (subst (λ n. is_expr_of bits n e ≡ true) wide (and_parts (is_location bits x) (is_expr_of bits (location_width bits x) e) is).1)

  stmts-formed : (stmts news : List Stmt) → AreInWords role stmts news → list_all (is_stmt bits) stmts ≡ true → list_all (is_stmt bits') news ≡ true
  stmts-formed stmts news done is = refl
  stmts-formed stmts news (each {stmt = stmt} {rest = rest} {rest' = rest'} w) is =
      let p = and_parts (is_stmt bits stmt) (list_all (is_stmt bits) rest) is in
      and_from (is_stmt bits' (stmt_in_words role stmt)) (list_all (is_stmt bits') rest') (stmt-formed stmt p.0) (stmts-formed rest rest' w p.1)
  stmts-formed stmts news (both {stmt = stmt} {next = next} {new = new} {rest = rest} {rest' = rest'} set w) is =
      let p = and_parts (is_stmt bits stmt) (list_all (is_stmt bits) (next ∷ rest)) is in
      let q = and_parts (is_stmt bits next) (list_all (is_stmt bits) rest) p.1 in
      and_from (is_stmt bits' new) (list_all (is_stmt bits') rest') (both-formed stmt next new set p.0 q.0) (stmts-formed rest rest' w q.1)

  pub blocks-formed : (count : ℕ) (blocks news : List Block) → AllZip (IsBlockInWords role) blocks news → list_all (is_block bits count) blocks ≡ true → list_all (is_block bits' count) news ≡ true
  blocks-formed count [] [] all is = refl
  blocks-formed count [] (new ∷ news) all is = absurd all
  blocks-formed count (b ∷ blocks) [] all is = absurd all
  blocks-formed count (b ∷ blocks) (new ∷ news) all is =
      let p = and_parts (is_block bits count b) (list_all (is_block bits count) blocks) is in
      let q = and_parts (list_all (is_stmt bits) b.stmts) (is_exit bits count b.exit) p.0 in
      and_from (is_block bits' count new) (list_all (is_block bits' count) news)
      (and_from (list_all (is_stmt bits') new.stmts) (is_exit bits' count new.exit) (stmts-formed b.stmts new.stmts all.0.stmts q.0)
      (subst (λ x. is_exit bits' count x ≡ true) (sym all.0.exit)
      (exit-formed bits bits' (reading role) (reading-plain role) reading-wide reading-formed count b.exit q.1)))
      (blocks-formed count blocks news all.1 p.1)

  -- Kinds.

  set-kinds : (r : Role) (x : Loc) (e : Expr) → call_kinds bits' (set_as r x e) ≡ []
  set-kinds Alone x e = refl
  set-kinds (Low word) x e = refl
  set-kinds (High word) x e = refl

  stmt-kinds : (stmt : Stmt) → is_stmt bits stmt ≡ true → call_kinds bits' (stmt_in_words role stmt) ≡ call_kinds bits stmt
  stmt-kinds (Call results entry arguments depth) is =
      let p = and_parts (list_all (is_location bits) results && list_all (is_expr bits) arguments) (nat_lt depth 65536) is in
      let q = and_parts (list_all (is_location bits) results) (list_all (is_expr bits) arguments) p.0 in
      ap₂ (λ rs xs. record { results = rs; entry = entry; arguments = xs; depth = depth } ∷ []) (places-wide results q.0) (exprs-wide arguments q.1)
  stmt-kinds (Set x e) is = set-kinds (role x) x (in_words role e)
  stmt-kinds (Fetch x width a) is = refl
  stmt-kinds (Store width a e) is = refl
  stmt-kinds (Div x e) is = refl
  stmt-kinds (Dos number place argument) is = refl

  both-kinds : (stmt next new : Stmt) → IsSetOfBoth role stmt next new → (ks : List CallKind) → call_kinds bits' new ++ ks ≡ call_kinds bits stmt ++ (call_kinds bits next ++ ks)
  both-kinds stmt next new (lower_first is is' unread) ks = refl
  both-kinds stmt next new (upper_first is is' unread) ks = refl

  stmts-kinds : (stmts news : List Stmt) → AreInWords role stmts news → list_all (is_stmt bits) stmts ≡ true → flat_map (call_kinds bits') news ≡ flat_map (call_kinds bits) stmts
  stmts-kinds stmts news done is = refl
  stmts-kinds stmts news (each {stmt = stmt} {rest = rest} {rest' = rest'} w) is =
      let p = and_parts (is_stmt bits stmt) (list_all (is_stmt bits) rest) is in
      ap₂ (λ xs ys. xs ++ ys) (stmt-kinds stmt p.0) (stmts-kinds rest rest' w p.1)
  stmts-kinds stmts news (both {stmt = stmt} {next = next} {new = new} {rest = rest} {rest' = rest'} set w) is =
      let p = and_parts (is_stmt bits stmt) (list_all (is_stmt bits) (next ∷ rest)) is in
      let q = and_parts (is_stmt bits next) (list_all (is_stmt bits) rest) p.1 in
      ap (λ ks. call_kinds bits' new ++ ks) (stmts-kinds rest rest' w q.1) ∙ both-kinds stmt next new set (flat_map (call_kinds bits) rest)

  rets-wide : (count : ℕ) (exit : Exit) → is_exit bits count exit ≡ true → ret_widths bits' (exit_read_by (reading role) exit) ≡ ret_widths bits exit
  rets-wide count (Ret values) is = ap (λ ns. ns ∷ []) (exprs-wide values is)
  rets-wide count (Goto place) is = refl
  rets-wide count (If test one other) is = refl
  rets-wide count (Switch e places) is = refl
  rets-wide count Stop is = refl

  pub blocks-kinds : (count : ℕ) (blocks news : List Block) → AllZip (IsBlockInWords role) blocks news → list_all (is_block bits count) blocks ≡ true
      → AllZip (BlockStaysInKind bits bits') blocks news
  blocks-kinds count [] [] all is = tt
  blocks-kinds count [] (new ∷ news) all is = absurd all
  blocks-kinds count (b ∷ blocks) [] all is = absurd all
  blocks-kinds count (b ∷ blocks) (new ∷ news) all is =
      let p = and_parts (is_block bits count b) (list_all (is_block bits count) blocks) is in
      let q = and_parts (list_all (is_stmt bits) b.stmts) (is_exit bits count b.exit) p.0 in (
        record {
          at = all.0.at;
          targets_are = ap targets all.0.exit ∙ targets-read (reading role) b.exit;
          jumps = ap is_jump all.0.exit ∙ jumps-read (reading role) b.exit;
          given = ap (ret_widths bits') all.0.exit ∙ rets-wide count b.exit q.1;
          calls = stmts-kinds b.stmts new.stmts all.0.stmts q.0;
        },
        blocks-kinds count blocks news all.1 p.1,
      )

-- Calls, and jumps after them.

module _ (role : Loc → Role) where
  set-no-call : (r : Role) (x : Loc) (e : Expr) → is_call (set_as r x e) ≡ false
  set-no-call Alone x e = refl
  set-no-call (Low word) x e = refl
  set-no-call (High word) x e = refl

  call-stays : (stmt : Stmt) → is_call (stmt_in_words role stmt) ≡ is_call stmt
  call-stays (Set x e) = set-no-call (role x) x (in_words role e)
  call-stays (Fetch x width a) = refl
  call-stays (Store width a e) = refl
  call-stays (Div x e) = refl
  call-stays (Call results entry arguments depth) = refl
  call-stays (Dos number place argument) = refl

  calls-stay : (stmts news : List Stmt) → AreInWords role stmts news → list_any is_call news ≡ list_any is_call stmts
  calls-stay stmts news done = refl
  calls-stay stmts news (each {stmt = stmt} {rest = rest} {rest' = rest'} w) = ap₂ (λ b c. b || c) (call-stays stmt) (calls-stay rest rest' w)
  calls-stay stmts news (both {rest = rest} {rest' = rest'} (lower_first is is' unread) w) = calls-stay rest rest' w
  calls-stay stmts news (both {rest = rest} {rest' = rest'} (upper_first is is' unread) w) = calls-stay rest rest' w

  jumps-stay : (stmts news : List Stmt) (exit : Exit) → AreInWords role stmts news
      → jumps_after_call news (exit_read_by (reading role) exit) ≡ jumps_after_call stmts exit
  jumps-stay stmts news exit done = refl
  jumps-stay stmts news exit (each {stmt = stmt} {rest = rest} {rest' = rest'} w) =
      ap₂ (λ b c. if b then not (list_any is_call rest') && is_jump (exit_read_by (reading role) exit) else c) (call-stays stmt) (jumps-stay rest rest' exit w)
      ∙ ap₂ (λ c j. if is_call stmt then not c && j else jumps_after_call rest exit) (calls-stay rest rest' w) (jumps-read (reading role) exit)
  jumps-stay stmts news exit (both {rest = rest} {rest' = rest'} (lower_first is is' unread) w) = jumps-stay rest rest' exit w
  jumps-stay stmts news exit (both {rest = rest} {rest' = rest'} (upper_first is is' unread) w) = jumps-stay rest rest' exit w

  abbrev Jumps : Block → Type 0
  Jumps b = jumps_after_call b.stmts b.exit ≡ true

  pub all-jump : (blocks news : List Block) → AllZip (IsBlockInWords role) blocks news → All Jumps blocks → All Jumps news
  all-jump [] [] all jump = All-nil Jumps
  all-jump [] (new ∷ news) all jump = absurd all
  all-jump (b ∷ blocks) [] all jump = absurd all
  all-jump (b ∷ blocks) (new ∷ news) all jump =
      All-cons Jumps new news
      (ap (jumps_after_call new.stmts) all.0.exit ∙ jumps-stay b.stmts new.stmts b.exit all.0.stmts ∙ All-head Jumps b blocks jump)
      (all-jump blocks news all.1 (All-tail Jumps b blocks jump))

  pub addresses-stay : (blocks news : List Block) → AllZip (IsBlockInWords role) blocks news → map (λ b. b.at) news ≡ map (λ b. b.at) blocks
  addresses-stay [] [] all = refl
  addresses-stay [] (new ∷ news) all = absurd all
  addresses-stay (b ∷ blocks) [] all = absurd all
  addresses-stay (b ∷ blocks) (new ∷ news) all = ap₂ (λ n ns. n ∷ ns) all.0.at (addresses-stay blocks news all.1)

  pub counts-stay : (blocks news : List Block) → AllZip (IsBlockInWords role) blocks news → length news ≡ length blocks
  counts-stay [] [] all = refl
  counts-stay [] (new ∷ news) all = absurd all
  counts-stay (b ∷ blocks) [] all = absurd all
  counts-stay (b ∷ blocks) (new ∷ news) all = ap suc (counts-stay blocks news all.1)

  pub offsets-stay : (blocks news : List Block) → AllZip (IsBlockInWords role) blocks news → All (λ b. b.at < 65536) blocks → All (λ b. b.at < 65536) news
  offsets-stay [] [] all below = All-nil (λ (b : Block). b.at < 65536)
  offsets-stay [] (new ∷ news) all below = absurd all
  offsets-stay (b ∷ blocks) [] all below = absurd all
  offsets-stay (b ∷ blocks) (new ∷ news) all below =
      All-cons (λ (b : Block). b.at < 65536) new news (subst (λ n. n < 65536) (sym all.0.at) (All-head (λ (b : Block). b.at < 65536) b blocks below))
      (offsets-stay blocks news all.1 (All-tail (λ (b : Block). b.at < 65536) b blocks below))
