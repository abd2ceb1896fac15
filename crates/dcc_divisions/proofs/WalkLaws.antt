-- What the code tells of statements and of blocks.
use Rattle.std.proofs.Common.{◌≡◌, ℕ, ◌<◌, ◌≤◌, Bool, true, false, ◌&&◌, ◌||◌, not, ◌⊎◌, inl, inr, List, [], ◌∷◌, ◌++◌, length, map, flat_map, reverse, take, drop, get_or, slice_get, Some, refl, sym, ap, ap₂, ◌∙◌, subst, true≢false, arith, Contains, eq-eqb, eqb-true}
use Rattle.std.specs.Prelude.{if◌then◌else◌, ◌==◌}
use Rattle.std.specs.List.{AllZip, list_any}
use Rattle.std.proofs.lemmas.Bool.{and_parts, and_from, or_parts}
use Rattle.std.proofs.lemmas.List.{map-append}
use Rattle.std.proofs.lemmas.List.Elements.{AllZip-push}
use Rattle.std.proofs.lemmas.List.Folds.{list_any-append}
use Rattle.std.proofs.lemmas.Option.{get_or_from_slice_get, slice_get_within}
use Rattle.dcc_ir.specs.declared.syntax.Loc.{Loc}
use Rattle.dcc_ir.specs.declared.syntax.BinOp.{BinOp}
use Rattle.dcc_ir.specs.declared.syntax.Stmt.{Stmt as Statement}
use Rattle.dcc_ir.specs.declared.syntax.Block.{Block as BlockOf}
use Rattle.dcc_ir.specs.Families.{live, IsLiveAtStart}
use Rattle.dcc_ir.specs.Flow.{targets}
use Rattle.dcc_ir.specs.Forms.{same_expr}
use Rattle.dcc_ir.specs.Live.{is_among, reads, reads_first, writes, block_in, follows, IsLiveAfter, IsLive}
use Rattle.dcc_ir.specs.Run.{no_block}
use Rattle.dcc_ir.specs.Location.{same_location}
use Rattle.dcc_ir.specs.Tree.{Expr, Binary, Stmt, Div, Block, Graph}
use Rattle.dcc_ir.specs.Use.{reads_of, exprs_of, writes_of, exit_exprs}
use Rattle.dcc_ir.specs.Views.{stmt_of, block_of}
use Rattle.dcc_ir.proofs.FamilyLaws.{live_after}
use Rattle.dcc_ir.proofs.ListLaws.{all_had}
use Rattle.dcc_ir.proofs.LocationLaws.{Contains-none, Contains-cases, contains_among}
use Rattle.dcc_flow.specs.Access.{access_of}
use Rattle.dcc_flow.specs.Marks.{empty, with_all, without_all}
use Rattle.dcc_live.proofs.DeadLaws.{reversed_push}
use Rattle.dcc_stdrules.proofs.SameLaws.{expr_same}
use Rattle.dcc_substitution.specs.Available.{leaves_outside}
use Rattle.dcc_divisions.specs.Divisions.{divides_signed, divides_unsigned, FaultAlike, signed, unsigned, Leaves, IsDivided, here, before, DividesFirst, first, AreLeft, done, stays, goes}
use Rattle.dcc_divisions.specs.Walk.{divide_alike, fault_alike, backward, MayGo, may, Covers, CoversEnd, CoverEnds}

-- What tests tell.

or-cases : (a b : Bool) → (a || b) ≡ true → (a ≡ true) ⊎ (b ≡ true)
or-cases true b is = inl refl
or-cases false b is = inr is

or-first : (a b : Bool) → a ≡ true → (a || b) ≡ true
or-first a b is = ap (λ c. c || b) is

or-second : (a b : Bool) → b ≡ true → (a || b) ≡ true
or-second true b is = refl
or-second false b is = is

false-of : (b : Bool) → not b ≡ true → b ≡ false
false-of true is = absurd (true≢false (sym is))
false-of false is = refl

alike-told : (f g : BinOp) (v w : ℕ) (a b c d : Expr) → (divide_alike f g && (v == w) && same_expr a c && same_expr b d) ≡ true
    → FaultAlike (Binary f v a b) (Binary g w c d)
alike-told f g v w a b c d is =
    let last = and_parts (divide_alike f g && (v == w) && same_expr a c) (same_expr b d) is in
    let middle = and_parts (divide_alike f g && (v == w)) (same_expr a c) last.0 in
    let heads = and_parts (divide_alike f g) (v == w) middle.0 in
    subst (λ n. FaultAlike (Binary f v a b) (Binary g n c d)) (eqb-true v w heads.1)
    (subst (λ x. FaultAlike (Binary f v a b) (Binary g v x d)) (expr_same a c middle.1)
    (subst (λ y. FaultAlike (Binary f v a b) (Binary g v a y)) (expr_same b d last.1) (go heads.0)))
  where
    go : divide_alike f g ≡ true → FaultAlike (Binary f v a b) (Binary g v a b)
    go both = elim (or-cases (divides_signed f && divides_signed g) (divides_unsigned f && divides_unsigned g) both) [
      | inl is ↦ let parts = and_parts (divides_signed f) (divides_signed g) is in signed parts.0 parts.1
      | inr is ↦ let parts = and_parts (divides_unsigned f) (divides_unsigned g) is in unsigned parts.0 parts.1
    ]

pub told-alike : (e other : Expr) → fault_alike e other ≡ true → FaultAlike e other
told-alike (Binary f v a b) (Binary g w c d) is = alike-told f g v w a b c d is
told-alike e other is = absurd (true≢false (sym is))

-- a location that isn't among those that are read
pub unread : (e : Expr) (x : Loc) → not (is_among (reads_of e) x) ≡ true → ¬ Contains (reads_of e) x
unread e x is c = true≢false (sym (contains_among (reads_of e) x c) ∙ false-of (is_among (reads_of e) x) is)

pub one-left : (stmt : Stmt) (e : Expr) (x : Loc) → writes_of stmt ≡ x ∷ [] → leaves_outside stmt e ≡ true → not (is_among (reads_of e) x) ≡ true → Leaves stmt e
one-left stmt e x writes outside is = record {
  locations = all_had (λ r. ¬ Contains (writes_of stmt) r) (reads_of e)
      (λ r c w. Contains-cases x [] r ⊥ (λ same. unread e x is (subst (Contains (reads_of e)) (sym same) c)) (Contains-none r) (subst (λ ls. Contains ls r) writes w));
  outside = outside;
}

pub none-left : (stmt : Stmt) (e : Expr) → writes_of stmt ≡ [] → leaves_outside stmt e ≡ true → Leaves stmt e
none-left stmt e writes outside = record {
  locations = all_had (λ r. ¬ Contains (writes_of stmt) r) (reads_of e) (λ r c w. Contains-none r (subst (λ ls. Contains ls r) writes w));
  outside = outside;
}

pub backward-push : (stmts : List Statement) (stmt : Statement) → backward (stmts ++ stmt ∷ []) ≡ stmt_of stmt ∷ backward stmts
backward-push stmts stmt = reversed_push stmt_of stmts stmt

-- Sets of what is live.

module _ (graph : Graph) (block : Block) where
  pub covers-before : (stmt : Stmt) (rest : List Stmt) (set : Loc → Bool) → Covers graph block rest set
      → Covers graph block (stmt ∷ rest) (with_all (without_all set (access_of stmt).writes) (access_of stmt).reads)
  covers-before stmt rest set covers l m = go (reads (exprs_of stmt) l) refl
    where
      later : live graph block (stmt ∷ rest) l → reads (exprs_of stmt) l ≡ false → (not (is_among (writes_of stmt) l) && set l) ≡ true
      later (inl reading) none =
          let on = and_parts (not (is_among (writes_of stmt) l)) (reads_first rest block.exit l)
          (sym (ap (λ b. b || (not (is_among (writes_of stmt) l) && reads_first rest block.exit l)) none) ∙ reading) in
          and_from (not (is_among (writes_of stmt) l)) (set l) on.0 (covers l (inl on.1))
      later (inr on) none =
          let parts = or_parts (is_among (writes_of stmt) l) (writes rest l) (sym (list_any-append (same_location l) (writes_of stmt) (flat_map writes_of rest)) ∙ on.1) in
          and_from (not (is_among (writes_of stmt) l)) (set l) (ap not parts.0) (covers l (inr (on.0, parts.1, on.2, on.3)))

      go : (b : Bool) → reads (exprs_of stmt) l ≡ b → (reads (exprs_of stmt) l || (not (is_among (writes_of stmt) l) && set l)) ≡ true
      go true is = or-first (reads (exprs_of stmt) l) (not (is_among (writes_of stmt) l) && set l) is
      go false is = or-second (reads (exprs_of stmt) l) (not (is_among (writes_of stmt) l) && set l) (later m is)

-- what is live at the ends of blocks is found
number-among : (xs : List ℕ) (n : ℕ) → Contains xs n → list_any (λ m. m == n) xs ≡ true
number-among [] n c = absurd (Contains-none n c)
number-among (x ∷ xs) n c =
    Contains-cases x xs n (list_any (λ m. m == n) (x ∷ xs) ≡ true) (λ e. or-first (x == n) (list_any (λ m. m == n) xs) (eq-eqb x n e))
    (λ later. or-second (x == n) (list_any (λ m. m == n) xs) (number-among xs n later)) c

pub ends-covered : (graph : Graph) (at_ends : List (List Loc)) → IsLive graph at_ends → CoverEnds graph graph.blocks at_ends
ends-covered graph at_ends told place block found l m = go m
  where
    go : live graph block [] l → (is_among (flat_map reads_of (exit_exprs block.exit)) l || (is_among (get_or at_ends place []) l || false)) ≡ true
    go (inl reading) = or-first (is_among (flat_map reads_of (exit_exprs block.exit)) l) (is_among (get_or at_ends place []) l || false) reading
    go (inr on) =
        let is : block_in graph place ≡ block = get_or_from_slice_get graph.blocks place block no_block found in
        let edge : follows graph place on.0 ≡ true = ap (λ (b : Block). list_any (λ p. p == on.0) (targets b.exit)) is ∙ number-among (targets block.exit) on.0 on.2 in
        let after = live_after graph place on.0 l edge on.3 in
        let held = (told.exact place l (slice_get_within graph.blocks place block found)).1 after in
        or-second (is_among (flat_map reads_of (exit_exprs block.exit)) l) (is_among (get_or at_ends place []) l || false)
        (or-first (is_among (get_or at_ends place []) l) false (contains_among (get_or at_ends place []) l held))

-- One more statement.

module _ (Live : List Stmt → Loc → Type 0) where
  -- what is left with the statement that was passed last, where it goes or stays
  pub one-more : (all : List Stmt) (stmt : Stmt) (passed left : List Stmt) (set : Loc → Bool) (b : Bool) → ((l : Loc) → Live all l → set l ≡ true)
      → (b ≡ true → MayGo set passed left stmt) → AreLeft Live (stmt ∷ passed) all left → AreLeft Live passed (stmt ∷ all) (if b then left else stmt ∷ left)
  one-more all stmt passed left set false covers told later = stays later
  one-more all stmt passed left set true covers told later = go stmt (told refl) later
    where
      go : (stmt : Stmt) → MayGo set passed left stmt → AreLeft Live (stmt ∷ passed) all left → AreLeft Live passed (stmt ∷ all) left
      go stmt (may {location = x} {e = e} out beside) later = goes (λ m. true≢false (sym (covers x m) ∙ out)) beside later

-- what is left with the statement, or without it
pub put-backward : (b : Bool) (left : List Statement) (stmt : Statement) → backward (if b then left else left ++ stmt ∷ []) ≡ (if b then backward left else stmt_of stmt ∷ backward left)
put-backward true left stmt = refl
put-backward false left stmt = backward-push left stmt

-- all statements are taken, and none is dropped
pub all-taken : (stmts : List Statement) → map stmt_of stmts ≡ take (length stmts) (map stmt_of stmts)
all-taken [] = refl
all-taken (stmt ∷ stmts) = ap (λ l. stmt_of stmt ∷ l) (all-taken stmts)

pub none-dropped : (stmts : List Statement) → drop (length stmts) (map stmt_of stmts) ≡ []
none-dropped [] = refl
none-dropped (stmt ∷ stmts) = none-dropped stmts

pub nothing-in : {A : Type 0} (xs : List A) → length xs ≡ 0 → xs ≡ []
nothing-in [] none = refl
nothing-in (x ∷ xs) none = absurd (omega (arith, none))

-- The block behind those that are done.

pub got-at : (passed : List BlockOf) (block : BlockOf) (rest : List BlockOf) → slice_get (map block_of (passed ++ block ∷ rest)) (length passed) ≡ Some (block_of block)
got-at [] block rest = refl
got-at (b ∷ passed) block rest = got-at passed block rest

pub dropped-at : (passed : List BlockOf) (block : BlockOf) (rest : List BlockOf) → drop (length passed) (map block_of (passed ++ block ∷ rest)) ≡ block_of block ∷ map block_of rest
dropped-at [] block rest = refl
dropped-at (b ∷ passed) block rest = dropped-at passed block rest

pub less-at : (passed : List BlockOf) (block : BlockOf) (rest : List BlockOf) → length passed < length (map block_of (passed ++ block ∷ rest))
less-at [] block rest = omega arith
less-at (b ∷ passed) block rest = let later = less-at passed block rest in omega (arith, later)

-- one more of each list
pub pushed : {A B : Type 0} (f : A → B) (R : B → B → Type 0) (xs ys : List A) (x y : A) (more : List A) → more ≡ ys ++ y ∷ []
    → AllZip R (map f xs) (map f ys) → R (f x) (f y) → AllZip R (map f (xs ++ x ∷ [])) (map f more)
pushed f R xs ys x y more made zipped is =
    subst (λ zs. AllZip R (map f (xs ++ x ∷ [])) (map f zs)) (sym made)
    (rw (map-append f xs (x ∷ []), map-append f ys (y ∷ []))
    (AllZip-push R (map f xs) (map f ys) (f x) (f y) zipped is))
