-- What is needed and what is live are closed families, and what is needed is the least one.
use Rattle.std.proofs.Common.{◌≡◌, ℕ, Bool, true, false, ◌&&◌, ◌||◌, not, inl, inr, List, [], ◌∷◌, ◌++◌, refl, sym, ap, ◌∙◌, subst, flat_map, Contains, eq-eqb}
use Rattle.std.specs.Prelude.{◌==◌}
use Rattle.std.specs.List.{list_any}
use Rattle.std.proofs.lemmas.Option.{get_or_from_slice_get}
use Rattle.std.proofs.lemmas.List.Elements.{Contains-append_left, Contains-append_right, Contains-append_cases}
use Rattle.dcc_ir.specs.declared.syntax.Loc.{Loc}
use Rattle.dcc_ir.specs.Tree.{Stmt, Set, Fetch, Store, Div, Call, Dos, Exit, Goto, If, Switch, Ret, Stop, Block, Graph}
use Rattle.dcc_ir.specs.Use.{reads_of, exprs_of, writes_of, exit_exprs}
use Rattle.dcc_ir.specs.Demand.{uses_of, makes_of, tests_of, IsNeededIn, used, made_of, left, tested, goes}
use Rattle.dcc_ir.specs.Location.{same_location}
use Rattle.dcc_ir.specs.Run.{no_block}
use Rattle.dcc_ir.specs.Flow.{targets}
use Rattle.dcc_ir.specs.Live.{is_among, reads, reads_first, writes, block_in, follows, IsLiveAfter}
use Rattle.dcc_ir.specs.Families.{Family, IsClosed, needed, IsLiveAtStart, live}
use Rattle.dcc_ir.proofs.PathLaws.{decided}
use Rattle.dcc_ir.proofs.GraphLaws.{or_there}
use Rattle.dcc_ir.proofs.LocationLaws.{among_contains, contains_among, Contains-none, Contains-cases}

pub needed-closed : (graph : Graph) → IsClosed graph (needed graph)
needed-closed graph = record {
  used = λ block stmt rest l c. used c;
  made_of = λ block stmt rest l to w c d. made_of w c d;
  left = λ block stmt rest l n d. left n d;
  tested = λ block l c. tested c;
  goes = λ block next place l c f d. goes c f d;
}

pub needed-least : (family : Family) (graph : Graph) (block : Block) (stmts : List Stmt) (l : Loc) → IsClosed graph family → IsNeededIn graph block stmts l → family block stmts l
needed-least family graph block stmts l closed (used {stmt = stmt} {rest = rest} c) = closed.used block stmt rest l c
needed-least family graph block stmts l closed (made_of {stmt = stmt} {rest = rest} {to = to} w c d) = closed.made_of block stmt rest l to w c (needed-least family graph block rest to closed d)
needed-least family graph block stmts l closed (left {stmt = stmt} {rest = rest} n d) = closed.left block stmt rest l n (needed-least family graph block rest l closed d)
needed-least family graph block stmts l closed (tested c) = closed.tested block l c
needed-least family graph block stmts l closed (goes {next = next} {place = place} c f d) = closed.goes block next place l c f (needed-least family graph next next.stmts l closed d)

-- What a statement uses, and what it makes values of, it reads.

pub uses-read : (stmt : Stmt) (l : Loc) → Contains (uses_of stmt) l → Contains (flat_map reads_of (exprs_of stmt)) l
uses-read (Set x e) l c = absurd (Contains-none l c)
uses-read (Fetch x width address) l c = absurd (Contains-none l c)
uses-read (Store width address e) l c = elim (Contains-append_cases (reads_of address) (reads_of e) l c) [
  | inl a ↦ Contains-append_left (reads_of address) (reads_of e ++ []) l a
  | inr b ↦ Contains-append_right (reads_of address) (reads_of e ++ []) l (Contains-append_left (reads_of e) [] l b)
]
uses-read (Div x e) l c = Contains-append_left (reads_of e) [] l c
uses-read (Call results entry arguments depth) l c = c
uses-read (Dos number place argument) l c = c

pub makes-read : (stmt : Stmt) (l : Loc) → Contains (makes_of stmt) l → Contains (flat_map reads_of (exprs_of stmt)) l
makes-read (Set x e) l c = Contains-append_left (reads_of e) [] l c
makes-read (Fetch x width address) l c = Contains-append_left (reads_of address) [] l c
makes-read (Store width address e) l c = absurd (Contains-none l c)
makes-read (Div x e) l c = absurd (Contains-none l c)
makes-read (Call results entry arguments depth) l c = absurd (Contains-none l c)
makes-read (Dos number place argument) l c = absurd (Contains-none l c)

pub tests-read : (exit : Exit) (l : Loc) → Contains (tests_of exit) l → Contains (flat_map reads_of (exit_exprs exit)) l
tests-read (Goto place) l c = absurd (Contains-none l c)
tests-read (If test one other) l c = Contains-append_left (reads_of test) [] l c
tests-read (Switch e places) l c = Contains-append_left (reads_of e) [] l c
tests-read (Ret values) l c = c
tests-read Stop l c = absurd (Contains-none l c)

-- What is live.

any_number : (xs : List ℕ) (n : ℕ) → Contains xs n → list_any (λ m. m == n) xs ≡ true
any_number [] n c = absurd (Contains-none n c)
any_number (x ∷ xs) n c = Contains-cases x xs n (list_any (λ m. m == n) (x ∷ xs) ≡ true) (λ e. ap (λ b. b || list_any (λ m. m == n) xs) (eq-eqb x n e))
    (λ later. or_there (x == n) (list_any (λ m. m == n) xs) (any_number xs n later)) c

either_false : (a b : Bool) → a ≡ false → b ≡ false → (a || b) ≡ false
either_false a b e f = ap (λ x. x || b) e ∙ f

among_append : (xs ys : List Loc) (l : Loc) → is_among (xs ++ ys) l ≡ (is_among xs l || is_among ys l)
among_append [] ys l = refl
among_append (x ∷ xs) ys l = ap (λ b. same_location l x || b) (among_append xs ys l) ∙ or_assoc (same_location l x) (is_among xs l) (is_among ys l)
  where
    or_assoc : (a b c : Bool) → (a || (b || c)) ≡ ((a || b) || c)
    or_assoc true b c = refl
    or_assoc false b c = refl

unwritten : (stmt : Stmt) (l : Loc) → ¬ Contains (writes_of stmt) l → is_among (writes_of stmt) l ≡ false
unwritten stmt l n = elim (decided (is_among (writes_of stmt) l)) [ inl t ↦ absurd (n (among_contains (writes_of stmt) l t)) | inr f ↦ f ]

-- what is live at the start of a block that follows one is live at that one's end
pub live_after : (graph : Graph) (place next : ℕ) (l : Loc) → follows graph place next ≡ true → IsLiveAtStart graph next l → IsLiveAfter graph place l
live_after graph place next l e (inl read) = record { between = []; reader = next; path = e; read = read }
live_after graph place next l e (inr on) = record { between = next ∷ on.1.between; reader = on.1.reader; path = (e, on.0, on.1.path); read = on.1.read }

pub live-closed : (graph : Graph) → IsClosed graph (live graph)
live-closed graph = record {
  used = λ block stmt rest l c. inl (ap (λ b. b || (not (is_among (writes_of stmt) l) && reads_first rest block.exit l)) (contains_among (flat_map reads_of (exprs_of stmt)) l (uses-read stmt l c)));
  made_of = λ block stmt rest l to w c d. inl (ap (λ b. b || (not (is_among (writes_of stmt) l) && reads_first rest block.exit l)) (contains_among (flat_map reads_of (exprs_of stmt)) l (makes-read stmt l c)));
  left = λ block stmt rest l n d. passed block stmt rest l (unwritten stmt l n) d;
  tested = λ block l c. inl (contains_among (flat_map reads_of (exit_exprs block.exit)) l (tests-read block.exit l c));
  goes = λ block next place l c f d.
      let same : block_in graph place ≡ next = get_or_from_slice_get graph.blocks place next no_block f in
      inr (place, refl, c, at_start place l (subst (λ (b : Block). live graph b b.stmts l) (sym same) d));
}
  where
    passed : (block : Block) (stmt : Stmt) (rest : List Stmt) (l : Loc) → is_among (writes_of stmt) l ≡ false → live graph block rest l → live graph block (stmt ∷ rest) l
    passed block stmt rest l out (inl read) = inl (or_there (reads (exprs_of stmt) l) (not (is_among (writes_of stmt) l) && reads_first rest block.exit l) (ap (λ b. not b && reads_first rest block.exit l) out ∙ read))
    passed block stmt rest l out (inr on) = inr (on.0, among_append (writes_of stmt) (flat_map writes_of rest) l ∙ either_false (is_among (writes_of stmt) l) (writes rest l) out on.1, on.2, on.3)

    at_start : (place : ℕ) (l : Loc) → live graph (block_in graph place) (block_in graph place).stmts l → IsLiveAtStart graph place l
    at_start place l (inl read) = inl read
    at_start place l (inr on) = inr (on.1, live_after graph place on.0 l (any_number (targets (block_in graph place).exit) on.0 on.2) on.3)
