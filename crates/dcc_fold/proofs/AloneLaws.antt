-- What is counted of a graph tells which temporaries are alone.
use Rattle.std.proofs.Common.{◌≡◌, ℕ, zero, suc, ◌+◌, ◌<◌, ◌≤◌, length, take, get_or, Bool, true, false, ◌&&◌, ◌||◌, not, inl, inr, List, [], ◌∷◌, ◌++◌, map, flat_map, refl, sym, ap, ap₂, ◌∙◌, subst, arith, true≢false}
use Rattle.std.specs.Prelude.{nat_le, MatchBool, if◌then◌else◌}
use Rattle.std.proofs.lemmas.Bool.{le-leb}
use Rattle.std.proofs.lemmas.List.{take_more}
use Rattle.std.proofs.lemmas.List.Folds.{list_any-append}
use Rattle.dcc_ir.specs.declared.syntax.Loc.{Loc}
use Rattle.dcc_ir.specs.declared.syntax.Loc.TheVariants.{Temp}
use Rattle.dcc_ir.specs.Joinable.{times_in}
use Rattle.dcc_ir.specs.Live.{is_among}
use Rattle.dcc_ir.specs.Location.{same_location}
use Rattle.dcc_ir.specs.Tree.{Stmt, Block, Graph}
use Rattle.dcc_ir.specs.Use.{reads_of, writes_of, exprs_of, exit_exprs, block_exprs, graph_exprs}
use Rattle.dcc_ir.proofs.FitLaws.{both}
use Rattle.dcc_ir.proofs.LocationLaws.{location_same}
use Rattle.dcc_flow.specs.Access.{Access, BlockAccess, access_of, block_access_of, accesses_of}
use Rattle.dcc_flow.specs.Marks.{empty, members, with_one, with_all}
use Rattle.dcc_passes.specs.Renaming.{param_places}
use Rattle.dcc_fold.specs.Alone.{written_by, read_by, block_writes, block_reads, IsCounted, AreCounted}
use Rattle.dcc_fold.specs.Joinable.{all_writes, all_reads, IsAlone}
use Rattle.dcc_fold.specs.declared.alone.Alone.{Alone as AloneOf}
use Rattle.dcc_fold.proofs.CountLaws.{flat-flat, times-by, times-joined, some-times, no-times}
use Rattle.dcc_fold.proofs.PassLaws.{and-none}
use Rattle.std.proofs.lemmas.List.Concat.{flat_map-append}

-- Lists.

or_all : (b : Bool) → (b || (true || false)) ≡ true
or_all true = refl
or_all false = refl

or_none : (b : Bool) → (b || (false || false)) ≡ b
or_none true = refl
or_none false = refl

pub none-counted : (seen again : List Bool) → members seen ≡ empty → members again ≡ empty → IsCounted seen again []
none-counted seen again is also l = (ap (λ f. f l) is, ap (λ f. f l) also)

one-more : (b : Bool) (l x : Loc) → same_location l x ≡ b → times_in (x ∷ []) l ≡ (if b then 1 else 0)
one-more true l x is = times-by true x [] l is
one-more false l x is = times-by false x [] l is

two-or-more : (n : ℕ) → 2 ≤ n → nat_le 2 n ≡ true
two-or-more n few = le-leb 2 n few

-- the location that comes stood in the list before, or not
pub counted-again : (seen again seen' again' : List Bool) (list : List Loc) (x : Loc) → IsCounted seen again list → members seen x ≡ true
    → members seen' ≡ with_one (members seen) x → members again' ≡ with_one (members again) x → IsCounted seen' again' (list ++ x ∷ [])
counted-again seen again seen' again' list x is there more also l = by (same_location l x) refl
  where
    stood : 1 ≤ times_in list x
    stood = some-times list x (sym (is x).0 ∙ there)

    by : (b : Bool) → same_location l x ≡ b → (members seen' l ≡ is_among (list ++ x ∷ []) l) × (members again' l ≡ nat_le 2 (times_in (list ++ x ∷ []) l))
    by true same =
        let one : l ≡ x = location_same l x same in (
          ap (λ f. f l) more ∙ ap (λ b. b || members seen l) same
              ∙ sym (list_any-append (same_location l) list (x ∷ []) ∙ ap (λ b. is_among list l || (b || false)) same ∙ or_all (is_among list l)),
          ap (λ f. f l) also ∙ ap (λ b. b || members again l) same
              ∙ sym (two-or-more (times_in (list ++ x ∷ []) l) (omega (arith, times-joined list (x ∷ []) l, one-more true l x same, stood, ap (times_in list) one))),
        )
    by false same = (
      ap (λ f. f l) more ∙ ap (λ b. b || members seen l) same ∙ (is l).0
          ∙ sym (list_any-append (same_location l) list (x ∷ []) ∙ ap (λ b. is_among list l || (b || false)) same ∙ or_none (is_among list l)),
      ap (λ f. f l) also ∙ ap (λ b. b || members again l) same ∙ (is l).1
          ∙ ap (nat_le 2) (omega (arith, times-joined list (x ∷ []) l, one-more false l x same)),
    )

pub counted-first : (seen again seen' : List Bool) (list : List Loc) (x : Loc) → IsCounted seen again list → members seen x ≡ false
    → members seen' ≡ with_one (members seen) x → IsCounted seen' again (list ++ x ∷ [])
counted-first seen again seen' list x is none more l = by (same_location l x) refl
  where
    by : (b : Bool) → same_location l x ≡ b → (members seen' l ≡ is_among (list ++ x ∷ []) l) × (members again l ≡ nat_le 2 (times_in (list ++ x ∷ []) l))
    by true same =
        let one : l ≡ x = location_same l x same in
        let never : times_in list l ≡ 0 = no-times list l (sym (is l).0 ∙ ap (members seen) one ∙ none) in (
          ap (λ f. f l) more ∙ ap (λ b. b || members seen l) same
              ∙ sym (list_any-append (same_location l) list (x ∷ []) ∙ ap (λ b. is_among list l || (b || false)) same ∙ or_all (is_among list l)),
          (is l).1 ∙ ap (nat_le 2) never ∙ ap (nat_le 2) (let once : 1 ≡ times_in (list ++ x ∷ []) l = omega (arith, times-joined list (x ∷ []) l, one-more true l x same, never) in once),
        )
    by false same = (
      ap (λ f. f l) more ∙ ap (λ b. b || members seen l) same ∙ (is l).0
          ∙ sym (list_any-append (same_location l) list (x ∷ []) ∙ ap (λ b. is_among list l || (b || false)) same ∙ or_none (is_among list l)),
      (is l).1 ∙ ap (nat_le 2) (omega (arith, times-joined list (x ∷ []) l, one-more false l x same)),
    )

-- one location more of a list
pub taken-again : (seen again seen' again' : List Bool) (list : List Loc) (i : ℕ) (d : Loc) → i < length list → IsCounted seen again (take i list) → members seen (get_or list i d) ≡ true
    → members seen' ≡ with_one (members seen) (get_or list i d) → members again' ≡ with_one (members again) (get_or list i d) → IsCounted seen' again' (take (i + 1) list)
taken-again seen again seen' again' list i d less is there more also =
    subst (IsCounted seen' again') (sym (take_more list i d less)) (counted-again seen again seen' again' (take i list) (get_or list i d) is there more also)

pub taken-first : (seen again seen' again' : List Bool) (list : List Loc) (i : ℕ) (d : Loc) → i < length list → IsCounted seen again (take i list) → members seen (get_or list i d) ≡ false
    → members seen' ≡ with_one (members seen) (get_or list i d) → again' ≡ again → IsCounted seen' again' (take (i + 1) list)
taken-first seen again seen' again' list i d less is none more same =
    subst (IsCounted seen' again') (sym (take_more list i d less))
    (subst (λ xs. IsCounted seen' xs (take i list ++ get_or list i d ∷ [])) (sym same) (counted-first seen again seen' (take i list) (get_or list i d) is none more))

-- what was put into a set at once
pub params-counted : (all none : Loc → Bool) (slice places : List Loc) → none ≡ empty → all ≡ with_all none slice → slice ≡ places → (l : Loc) → all l ≡ is_among places l
params-counted all none slice places is put same l =
    ap (λ f. f l) put ∙ ap (λ (f : Loc → Bool). is_among slice l || f l) is ∙ or-false (is_among slice l) ∙ ap (λ xs. is_among xs l) same
  where
    or-false : (b : Bool) → (b || false) ≡ b
    or-false true = refl
    or-false false = refl

-- Whole graphs.

stmts-written : (stmts : List Stmt) → flat_map written_by (map access_of stmts) ≡ flat_map writes_of stmts
stmts-written [] = refl
stmts-written (s ∷ stmts) = ap (λ xs. writes_of s ++ xs) (stmts-written stmts)

pub blocks-written : (blocks : List Block) → flat_map block_writes (map block_access_of blocks) ≡ flat_map (λ b. flat_map writes_of b.stmts) blocks
blocks-written [] = refl
blocks-written (b ∷ blocks) = ap₂ (λ xs ys. xs ++ ys) (stmts-written b.stmts) (blocks-written blocks)

stmts-read : (stmts : List Stmt) → flat_map read_by (map access_of stmts) ≡ flat_map reads_of (flat_map exprs_of stmts)
stmts-read [] = refl
stmts-read (s ∷ stmts) = ap (λ xs. flat_map reads_of (exprs_of s) ++ xs) (stmts-read stmts) ∙ sym (flat_map-append reads_of (exprs_of s) (flat_map exprs_of stmts))

pub blocks-read : (blocks : List Block) → flat_map block_reads (map block_access_of blocks) ≡ flat_map reads_of (flat_map block_exprs blocks)
blocks-read [] = refl
blocks-read (b ∷ blocks) =
    ap₂ (λ xs ys. xs ++ ys)
    (ap (λ xs. xs ++ flat_map reads_of (exit_exprs b.exit)) (stmts-read b.stmts) ∙ sym (flat_map-append reads_of (flat_map exprs_of b.stmts) (exit_exprs b.exit)))
    (blocks-read blocks)
    ∙ sym (flat_map-append reads_of (block_exprs b) (flat_map block_exprs blocks))

-- Temporaries that are alone.

once-by : (seen again : List Bool) (list : List Loc) (l : Loc) → IsCounted seen again list → (members seen l && not (members again l)) ≡ true → times_in list l ≡ 1
once-by seen again list l is holds =
    let parts = both (members seen l) (not (members again l)) holds in
    let some = some-times list l (sym (is l).0 ∙ parts.0) in
    by (times_in list l) some (sym (ap not (is l).1) ∙ parts.1)
  where
    by : (n : ℕ) → 1 ≤ n → not (nat_le 2 n) ≡ true → n ≡ 1
    by zero some few = absurd (omega arith)
    by (suc zero) some few = refl
    by (suc (suc n)) some few = absurd (true≢false (sym few ∙ ap not (two-or-more (suc (suc n)) (omega arith))))

by-once : (seen again : List Bool) (list : List Loc) (l : Loc) → IsCounted seen again list → times_in list l ≡ 1 → (members seen l && not (members again l)) ≡ true
by-once seen again list l is once =
    ap₂ (λ x y. x && not y) ((is l).0 ∙ among (is_among list l) refl) ((is l).1 ∙ ap (nat_le 2) once)
  where
    among : (b : Bool) → is_among list l ≡ b → is_among list l ≡ true
    among true is_there = is_there
    among false none = absurd (omega (arith, once, no-times list l none))

abbrev pub is_alone_by : AloneOf → ℕ → Bool
is_alone_by alone t =
    not (members alone.params (Temp t)) && (members alone.writes.seen (Temp t) && not (members alone.writes.again (Temp t)))
    && (members alone.reads.seen (Temp t) && not (members alone.reads.again (Temp t)))

pub alone-told : (graph : Graph) (alone : AloneOf) (t : ℕ) (b : Bool) → AreCounted graph alone → b ≡ is_alone_by alone t → MatchBool b (IsAlone graph t) (¬ IsAlone graph t)
alone-told graph alone t true counted is =
    let two = both (not (members alone.params (Temp t)) && (members alone.writes.seen (Temp t) && not (members alone.writes.again (Temp t)))) (members alone.reads.seen (Temp t) && not (members alone.reads.again (Temp t))) (sym is) in
    let one = both (not (members alone.params (Temp t))) (members alone.writes.seen (Temp t) && not (members alone.writes.again (Temp t))) two.0 in
    record {
      no_param = sym (counted.params (Temp t)) ∙ turned (members alone.params (Temp t)) one.0;
      written_once = once-by alone.writes.seen alone.writes.again (all_writes graph) (Temp t) counted.writes one.1;
      read_once = once-by alone.reads.seen alone.reads.again (all_reads graph) (Temp t) counted.reads two.1;
    }
  where
    turned : (c : Bool) → not c ≡ true → c ≡ false
    turned true fails = sym fails
    turned false fails = refl
alone-told graph alone t false counted is = λ holds.
    true≢false (sym (ap₂ (λ x y. x && y)
    (ap₂ (λ x y. x && y) (ap not (counted.params (Temp t) ∙ holds.no_param)) (by-once alone.writes.seen alone.writes.again (all_writes graph) (Temp t) counted.writes holds.written_once))
    (by-once alone.reads.seen alone.reads.again (all_reads graph) (Temp t) counted.reads holds.read_once)) ∙ sym is)

-- the test, one part after another

abbrev pub is_one_by : List Bool → List Bool → ℕ → Bool
is_one_by seen again t = members seen (Temp t) && not (members again (Temp t))

pub by-params : (alone : AloneOf) (t : ℕ) → members alone.params (Temp t) ≡ true → false ≡ is_alone_by alone t
by-params alone t is =
    sym (ap (λ b. (not b && is_one_by alone.writes.seen alone.writes.again t) && is_one_by alone.reads.seen alone.reads.again t) is)

pub by-writes : (alone : AloneOf) (t : ℕ) → is_one_by alone.writes.seen alone.writes.again t ≡ false → false ≡ is_alone_by alone t
by-writes alone t is =
    sym (ap (λ b. (not (members alone.params (Temp t)) && b) && is_one_by alone.reads.seen alone.reads.again t) is
    ∙ ap (λ b. b && is_one_by alone.reads.seen alone.reads.again t) (and-none (not (members alone.params (Temp t)))))

pub by-reads : (alone : AloneOf) (t : ℕ) (b : Bool) → members alone.params (Temp t) ≡ false → is_one_by alone.writes.seen alone.writes.again t ≡ true
    → b ≡ is_one_by alone.reads.seen alone.reads.again t → b ≡ is_alone_by alone t
by-reads alone t b none once is =
    is ∙ sym (ap₂ (λ x y. (not x && y) && is_one_by alone.reads.seen alone.reads.again t) none once)
