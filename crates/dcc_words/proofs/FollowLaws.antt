-- A graph with words for pairs follows the given one statement by statement: what is live is read as it is held.
use Rattle.std.proofs.Common.{◌≡◌, ℕ, suc, ◌+◌, ◌<◌, Bool, true, false, ◌&&◌, ◌||◌, not, List, [], ◌∷◌, ◌++◌, length, Option, Some, None, inl, inr, refl, sym, ap, ap₂, ◌∙◌, subst, true≢false, eqb-true, map, flat_map, option_map, slice_get, Contains, append-nil, zero, eq-eqb, nat_lt}
use Rattle.std.specs.Prelude.{◌/◌, ◌==◌, ◌*◌, ◌^◌, ◌%◌, ◌⊎◌, nat_le, All, option_to_list}
use Rattle.std.specs.List.{list_all, list_any, AllZip}
use Rattle.std.proofs.lemmas.Bool.{and_parts}
use Rattle.std.proofs.lemmas.List.{length-map}
use Rattle.std.proofs.lemmas.List.Concat.{flat_map-append}
use Rattle.std.proofs.lemmas.List.Elements.{All-contains, All-append, Contains-append_left, Contains-append_right}
use Rattle.std.proofs.lemmas.Option.{get_or_from_slice_get}
use Rattle.dcc_ir.specs.declared.syntax.Loc.{Loc}
use Rattle.dcc_ir.specs.declared.syntax.Loc.TheVariants.{Temp}
use Rattle.dcc_ir.specs.declared.syntax.Put.{Put}
use Rattle.dcc_ir.specs.declared.syntax.Put.TheVariants.{Memory, One, Two}
use Rattle.dcc_ir.specs.declared.syntax.Param.{Param}
use Rattle.dcc_ir.specs.Joinable.{places_of}
use Rattle.dcc_ir.specs.Tree.{Expr, Const, Get, Load, Unary, Binary, Widen, Part, Join, Choose, Address, Stmt, Set, Fetch, Store, Div, Call, Dos, Exit, Goto, If, Switch, Ret, Stop, Block, Graph}
use Rattle.dcc_ir.specs.Location.{same_location, location_width, Values, fill_at, with_value}
use Rattle.dcc_ir.specs.Value.{Environment, value_of, width_of, bytes_at, Fits}
use Rattle.dcc_ir.specs.Use.{parts_of, got_by, reads_of, exprs_of, writes_of, exit_exprs}
use Rattle.dcc_ir.specs.Live.{is_among, reads, reads_first, block_in}
use Rattle.dcc_ir.specs.Families.{IsClosed, live}
use Rattle.dcc_ir.specs.Flow.{targets}
use Rattle.dcc_ir.specs.WellFormed.{is_location, is_stored_width, is_division, is_dividing, is_expr, is_expr_of, is_stmt, is_exit, is_block, is_byte_place, is_dos, is_put, put_width, IsGraph}
use Rattle.dcc_ir.specs.Local.{start_of}
use Rattle.dcc_ir.specs.Run.{State, Activation, passing, scene_of, value_in, argument_in, no_block, is_call}
use Rattle.dcc_ir.proofs.FamilyLaws.{live-closed, live_after}
use Rattle.dcc_ir.proofs.FitLaws.{value_fits}
use Rattle.dcc_ir.proofs.GraphLaws.{or_there}
use Rattle.dcc_live.proofs.StartLaws.{begins-live}
use Rattle.dcc_ir.proofs.LocationLaws.{among_contains, contains_among, Contains-here, Contains-later, Contains-none, Contains-cases}
use Rattle.dcc_ir.proofs.ListLaws.{all_had}
use Rattle.dcc_ir.proofs.ReachedLaws.{contained, all_at}
use Rattle.dcc_flow.proofs.FormedExprs.{reads_placed}
use Rattle.dcc_passes.specs.OneGraph.{BeginsIn}
use Rattle.dcc_passes.specs.Following.{Link, Bond, TakeAlike, takes_key, DoAlike, EndsAlike, RunAlike, IsFollowedBy, done as followed, both as step, calls, joins, IsFollowedByBlock, linked, IsFollowedByGraph}
use Rattle.dcc_passes.specs.Renaming.{param_places}
use Rattle.dcc_live.specs.Start.{begins_live}
use Rattle.dcc_words.specs.declared.roles.Pair.{Pair}
use Rattle.dcc_words.specs.declared.roles.Role.{Role}
use Rattle.dcc_words.specs.declared.roles.Role.TheVariants.{Alone, Low, High}
use Rattle.dcc_words.specs.Reading.{read_by, stmt_read_by, exit_read_by}
use Rattle.dcc_words.specs.Words.{role_in, is_alone, half_of, set_word, reading_as, reading, in_words, set_as, stmt_in_words, IsSetOfBoth, lower_first, upper_first, AreInWords, done, each, both, IsBlockInWords, param_in_words, takes_whole, writes_whole, goes_to, takes_argument}
use Rattle.dcc_words.proofs.RoleLaws.{IsWord, AreRoles}
use Rattle.dcc_words.proofs.HeldLaws.{held, reading-held, alone-is, low-part, high-part, taken-here, taken-other, put-alone, put-low, put-high, put-both, low-not-high, given-held, passing-held, passing-outside}
use Rattle.dcc_words.proofs.ReadLaws.{IsPlain, ReadsSame, value-read, values-read, division-read}
use Rattle.dcc_words.proofs.StmtLaws.{reading-plain, reading-wide, expr-formed, expr-wide}

or-cases : (a b : Bool) → (a || b) ≡ true → (a ≡ true) ⊎ (b ≡ true)
or-cases true b is = inl refl
or-cases false b is = inr is

both_read : (P : Loc → Type 0) (xs ys : List Expr) → All P (flat_map got_by xs) → All P (flat_map got_by ys) → All P (flat_map got_by (xs ++ ys))
both_read P xs ys p q = subst (All P) (sym (flat_map-append got_by xs ys)) (All-append P (flat_map got_by xs) (flat_map got_by ys) p q)

goes-among : (l : Loc) (put : Put) → goes_to l put ≡ true → is_among (places_of put) l ≡ true
goes-among l Memory is = is
goes-among l (One place) is = ap (λ b. b || false) is
goes-among l (Two low high) is = elim (or-cases (same_location l low) (same_location l high) is) [
  | inl here ↦ ap (λ b. b || (same_location l high || false)) here
  | inr there ↦ or_there (same_location l low) (same_location l high || false) (ap (λ b. b || false) there)
]

-- what takes an argument is among what does
takes-contains : (params : List Param) (l : Loc) → takes_argument params l ≡ true → Contains (param_places params) l
takes-contains [] l is = absurd (true≢false (sym is))
takes-contains (p ∷ params) l is = elim (or-cases (goes_to l p.put) (takes_argument params l) is) [
  | inl here ↦ Contains-append_left (places_of p.put) (param_places params) l (among_contains (places_of p.put) l (goes-among l p.put here))
  | inr later ↦ Contains-append_right (places_of p.put) (param_places params) l (takes-contains params l later)
]

-- blocks at one place of two lists that are related place by place
pub zip-at : {A B : Type 0} (R : A → B → Type 0) (xs : List A) (ys : List B) → AllZip R xs ys → (k : ℕ) (x : A) (y : B) → slice_get xs k ≡ Some x → slice_get ys k ≡ Some y → R x y
zip-at R [] ys all k x y found there = absurd (cc)
zip-at R (a ∷ xs) [] all k x y found there = absurd (cc)
zip-at R (a ∷ xs) (b ∷ ys) all zero x y found there =
    let first : a ≡ x = cc in let second : b ≡ y = cc in subst (R x) second (subst (λ z. R z b) first all.0)
zip-at R (a ∷ xs) (b ∷ ys) all (suc k) x y found there = zip-at R xs ys all.1 k x y found there

-- the place of a DOS call is one of the graph, and so is what its argument reads; without a key it has no place
dos-formed : (bits : List ℕ) (number : ℕ) (to : Option Loc) (e : Expr) → is_dos bits number to (Some e) ≡ true → is_expr bits e ≡ true
dos-formed bits number None e is =
    either (number == 0x02 || number == 0x4C) (number == 0x09) is
  where
    either : (a b : Bool) → ((a && is_expr_of bits 8 e) || (b && is_expr_of bits 16 e)) ≡ true → is_expr bits e ≡ true
    either a b is = elim (or-cases (a && is_expr_of bits 8 e) (b && is_expr_of bits 16 e) is) [
      | inl one ↦ (and_parts (is_expr bits e) (width_of bits e == 8) (and_parts a (is_expr_of bits 8 e) one).1).0
      | inr other ↦ (and_parts (is_expr bits e) (width_of bits e == 16) (and_parts b (is_expr_of bits 16 e) other).1).0
    ]
dos-formed bits number (Some x) e is = absurd (true≢false (sym is))

dos-place : (bits : List ℕ) (number : ℕ) (x : Loc) (argument : Option Expr) → is_dos bits number (Some x) argument ≡ true → is_location bits x ≡ true
dos-place bits number x (Some e) is = absurd (true≢false (sym is))
dos-place bits number x None is =
    let p = and_parts (number == 0x01 || number == 0x08) (is_byte_place bits (Some x)) is in
    (and_parts (is_location bits x) (location_width bits x == 8) p.1).0

-- a well-formed DOS call that takes no byte has no place for one
no-place : (bits : List ℕ) (number : ℕ) (place : Option Loc) (argument : Option Expr) (x : Loc) → is_dos bits number (Some x) argument ≡ true → takes_key number ≡ false → ⊥
no-place bits number place (Some e) x formed other = true≢false (sym formed)
no-place bits number place None x formed other = true≢false (sym formed ∙ ap (λ b. b && is_byte_place bits (Some x)) other)

set-no-call : (r : Role) (x : Loc) (e : Expr) → is_call (set_as r x e) ≡ false
set-no-call Alone x e = refl
set-no-call (Low word) x e = refl
set-no-call (High word) x e = refl

-- what a division reads is of the graph
dividing-placed : (bits : List ℕ) (width : ℕ) (e : Expr) → is_dividing bits width e ≡ true → All (λ l. is_location bits l ≡ true) (reads_of e)
dividing-placed bits width (Binary operator w a b) is =
    let p = and_parts (is_division operator && (w == width) && is_stored_width width && is_expr_of bits width a) (is_expr_of bits width b) is in
    let q = and_parts (is_division operator && (w == width) && is_stored_width width) (is_expr_of bits width a) p.0 in
    both_read (λ l. is_location bits l ≡ true) (parts_of a) (parts_of b)
    (reads_placed bits a (and_parts (is_expr bits a) (width_of bits a == width) q.1).0)
    (reads_placed bits b (and_parts (is_expr bits b) (width_of bits b == width) p.1).0)
dividing-placed bits width (Const w n) is = absurd (true≢false (sym is))
dividing-placed bits width (Get l) is = absurd (true≢false (sym is))
dividing-placed bits width (Load w a) is = absurd (true≢false (sym is))
dividing-placed bits width (Unary o w a) is = absurd (true≢false (sym is))
dividing-placed bits width (Widen s w a) is = absurd (true≢false (sym is))
dividing-placed bits width (Part w k a) is = absurd (true≢false (sym is))
dividing-placed bits width (Join a b) is = absurd (true≢false (sym is))
dividing-placed bits width (Choose x a b) is = absurd (true≢false (sym is))
dividing-placed bits width (Address d) is = absurd (true≢false (sym is))

-- what is live where the graph begins is found there
lives-begins : (graph : Graph) (l : Loc) → live graph (block_in graph 0) (block_in graph 0).stmts l → begins_live graph l ≡ true
lives-begins graph l (inl read) = (begins-live graph l).1 (inl read)
lives-begins graph l (inr on) =
    (begins-live graph l).1 (inr (on.1, live_after graph 0 on.0 l (any-target (targets (block_in graph 0).exit) on.0 on.2) on.3))
  where
    any-target : (xs : List ℕ) (n : ℕ) → Contains xs n → list_any (λ m. m == n) xs ≡ true
    any-target [] n c = absurd (Contains-none n c)
    any-target (x ∷ xs) n c = Contains-cases x xs n (list_any (λ m. m == n) (x ∷ xs) ≡ true)
        (λ e. ap (λ b. b || list_any (λ m. m == n) xs) (eq-eqb x n e)) (λ later. or_there (x == n) (list_any (λ m. m == n) xs) (any-target xs n later)) c

-- What is read is live.

pub read-live : (graph : Graph) (block : Block) (stmt : Stmt) (rest : List Stmt) (l : Loc) → Contains (flat_map reads_of (exprs_of stmt)) l
    → live graph block (stmt ∷ rest) l
read-live graph block stmt rest l c =
    inl (ap (λ b. b || (not (is_among (writes_of stmt) l) && reads_first rest block.exit l)) (contains_among (flat_map reads_of (exprs_of stmt)) l c))

pub tested-live : (graph : Graph) (block : Block) (l : Loc) → Contains (flat_map reads_of (exit_exprs block.exit)) l → live graph block [] l
tested-live graph block l c = inl (contains_among (flat_map reads_of (exit_exprs block.exit)) l c)

module _ (before after : Graph) (role : Loc → Role) (are : AreRoles before.bits after.bits role) where
  abbrev Here : Loc → Type 0
  Here l = is_location before.bits l ≡ true

  -- each location that is live is read as it is held
  abbrev Same : ℕ → List Stmt → Values → Values → Type 0
  Same place rest v v' = (l : Loc) → Here l → live before (block_in before place) rest l → held (role l) v' l ≡ v l

  abbrev pub words-link : Link
  words-link place rest scene v' = Same place rest scene.values v'

  module _ (place : ℕ) where
    abbrev block : Block
    block = block_in before place

    abbrev Lives : List Stmt → Loc → Type 0
    Lives rest l = live before block rest l

    left-live : (stmt : Stmt) (rest : List Stmt) (l : Loc) → (Contains (writes_of stmt) l → ⊥) → Lives rest l → Lives (stmt ∷ rest) l
    left-live stmt rest l out lives = (live-closed before).left block stmt rest l out lives

    -- the locations are read as they are held
    reads-same : (rest : List Stmt) (s t : State) (h : RunAlike before after (words-link place rest) s t) (ls : List Loc)
        → All (λ l. Here l) ls → ((l : Loc) → Contains ls l → Lives rest l)
        → All (ReadsSame (scene_of s) (scene_of t) h.outside.base h.outside.memory (reading role)) ls
    reads-same rest s t h ls here lives =
        all_had (ReadsSame (scene_of s) (scene_of t) h.outside.base h.outside.memory (reading role)) ls
        (λ l c.
        let at = all_of ls here l c in record {
          value = reading-held (role l) (scene_of t) l ∙ h.holds l at (lives l c);
          width =
              ap (λ (g : Graph). width_of g.bits (reading role l)) h.second ∙ reading-wide before.bits after.bits role are l at
              ∙ sym (ap (λ (g : Graph). location_width g.bits l) h.first);
        })
      where
        all_of : (ls : List Loc) → All (λ l. Here l) ls → (l : Loc) → Contains ls l → Here l
        all_of ls here l c = All-contains (λ l. Here l) ls l here c

    -- an expression has its value
    value-same : (rest : List Stmt) (s t : State) → RunAlike before after (words-link place rest) s t → (e : Expr) → is_expr before.bits e ≡ true
        → ((l : Loc) → Contains (reads_of e) l → Lives rest l) → value_in t (in_words role e) ≡ value_in s e
    value-same rest s t h e formed lives =
        value-read (scene_of s) (scene_of t) h.outside.base h.outside.memory (reading role) e
        (reads-same rest s t h (reads_of e) (reads_placed before.bits e formed) lives)

    only : (e : Expr) (l : Loc) → Contains (reads_of e) l → Contains (flat_map reads_of (e ∷ [])) l
    only e l c = subst (λ ls. Contains ls l) (sym (append-nil (reads_of e))) c

    -- the only expression of a statement
    value-one : (stmt : Stmt) (rest : List Stmt) (s t : State) → RunAlike before after (words-link place (stmt ∷ rest)) s t → (e : Expr)
        → exprs_of stmt ≡ e ∷ [] → is_expr before.bits e ≡ true → value_in t (in_words role e) ≡ value_in s e
    value-one stmt rest s t h e is formed =
        value-same (stmt ∷ rest) s t h e formed
        (λ l c. read-live before block stmt rest l (subst (λ es. Contains (flat_map reads_of es) l) (sym is) (only e l c)))

    values-same : (rest : List Stmt) (s t : State) → RunAlike before after (words-link place rest) s t → (es : List Expr)
        → list_all (is_expr before.bits) es ≡ true → ((l : Loc) → Contains (flat_map reads_of es) l → Lives rest l)
        → map (value_in t) (map (in_words role) es) ≡ map (value_in s) es
    values-same rest s t h [] formed lives = refl
    values-same rest s t h (e ∷ es) formed lives =
        let p = and_parts (is_expr before.bits e) (list_all (is_expr before.bits) es) formed in
        ap₂ (λ n ns. n ∷ ns)
        (value-same rest s t h e p.0 (λ l c. lives l (Contains-append_left (reads_of e) (flat_map reads_of es) l c)))
        (values-same rest s t h es p.1 (λ l c. lives l (Contains-append_right (reads_of e) (flat_map reads_of es) l c)))

    -- the value of an expression over words fits the width that it had
    value-less : (Holds : Bond) (s t : State) → RunAlike before after Holds s t → (e : Expr) (width : ℕ) → is_expr_of before.bits width e ≡ true
        → value_in t (in_words role e) < 2 ^ width
    value-less Holds s t h e width formed =
        let p = and_parts (is_expr before.bits e) (width_of before.bits e == width) formed in
        let bits : t.running.graph.bits ≡ after.bits = ap (λ (g : Graph). g.bits) h.second in
        subst (λ n. value_in t (in_words role e) < 2 ^ n)
        (ap (λ bits. width_of bits (in_words role e)) bits ∙ expr-wide before.bits after.bits role are e p.0 ∙ eqb-true (width_of before.bits e) width p.1)
        (value_fits (scene_of t) h.second_fits (in_words role e)
        (ap (λ bits. is_expr bits (in_words role e)) bits ∙ expr-formed before.bits after.bits role are e p.0))

    -- a location that is no half takes a value
    one-same : (stmt : Stmt) (rest : List Stmt) (x : Loc) → writes_of stmt ≡ x ∷ [] → role x ≡ Alone → Here x → (n n' : ℕ) (v v' : Values) → n' ≡ n
        → Same place (stmt ∷ rest) v v' → Same place rest (with_value v x n) (with_value v' x n')
    one-same stmt rest x writes alone here n n' v v' same holds l at lives =
        put-alone before.bits after.bits role are x n n' v v' alone here same l at
        (λ other. holds l at (left-live stmt rest l (unwritten stmt x writes l other) lives))
      where
        unwritten : (stmt : Stmt) (x : Loc) → writes_of stmt ≡ x ∷ [] → (l : Loc) → (l ≡ x → ⊥) → Contains (writes_of stmt) l → ⊥
        unwritten stmt x writes l other c =
            Contains-cases x [] l ⊥ (λ same. other (sym same)) (Contains-none l) (subst (λ xs. Contains xs l) writes c)

    -- nothing is written
    none-same : (stmt : Stmt) (rest : List Stmt) → writes_of stmt ≡ [] → (v v' : Values) → Same place (stmt ∷ rest) v v' → Same place rest v v'
    none-same stmt rest writes v v' holds l at lives =
        holds l at (left-live stmt rest l (λ c. Contains-none l (subst (λ xs. Contains xs l) writes c)) lives)

    not-set : (x : Loc) (e : Expr) (l : Loc) → (l ≡ x → ⊥) → Contains (writes_of (Set x e)) l → ⊥
    not-set x e l other c = Contains-cases x [] l ⊥ (λ same. other (sym same)) (Contains-none l) c

    -- Sets.

    set-follows : (x : Loc) (e : Expr) (rest : List Stmt) → is_stmt before.bits (Set x e) ≡ true → (s t : State) → RunAlike before after (words-link place (Set x e ∷ rest)) s t
        → DoAlike (words-link place rest) s t (Set x e) (set_as (role x) x (in_words role e))
    set-follows x e rest formed s t h = go (role x) refl
      where
        p : (is_location before.bits x ≡ true) × (is_expr_of before.bits (location_width before.bits x) e ≡ true)
        p = and_parts (is_location before.bits x) (is_expr_of before.bits (location_width before.bits x) e) formed

        value : value_in t (in_words role e) ≡ value_in s e
        value = value-one (Set x e) rest s t h e refl (and_parts (is_expr before.bits e) (width_of before.bits e == location_width before.bits x) p.1).0

        v : Values
        v = s.running.values

        v' : Values
        v' = t.running.values

        kept : (l : Loc) → Here l → Lives rest l → (l ≡ x → ⊥) → held (role l) v' l ≡ v l
        kept l at lives other = h.holds l at (left-live (Set x e) rest l (not-set x e l other) lives)

        small : location_width before.bits x ≡ 8 → value_in s e < 2 ^ 8
        small wide = subst (λ n. n < 2 ^ 8) value (value-less (words-link place (Set x e ∷ rest)) s t h e 8 (subst (λ n. is_expr_of before.bits n e ≡ true) wide p.1))

        eight : location_width before.bits x ≡ 8 → width_of t.running.graph.bits (in_words role e) ≡ 8
        eight wide =
            let q = and_parts (is_expr before.bits e) (width_of before.bits e == location_width before.bits x) p.1 in
            ap (λ (g : Graph). width_of g.bits (in_words role e)) h.second ∙ expr-wide before.bits after.bits role are e q.0
            ∙ eqb-true (width_of before.bits e) (location_width before.bits x) q.1 ∙ wide

        go : (r : Role) → role x ≡ r → DoAlike (words-link place rest) s t (Set x e) (set_as r x (in_words role e))
        go Alone is = one-same (Set x e) rest x refl is p.0 (value_in s e) (value_in t (in_words role e)) v v' value h.holds
        go (Low word) is = λ l at lives.
            ap (λ n. held (role l) (with_value v' (Temp word) n) l)
            (ap₂ (λ w n. v' (Temp word) / 2 ^ 8 % 2 ^ 8 * 2 ^ w + n) (eight (are.low_wide x word is)) value)
            ∙ put-low before.bits after.bits role are x word (value_in s e) v v' is (small (are.low_wide x word is)) l at (kept l at lives)
        go (High word) is = λ l at lives.
            ap (λ n. held (role l) (with_value v' (Temp word) (n * 2 ^ 8 + v' (Temp word) / 2 ^ 0 % 2 ^ 8)) l) value
            ∙ put-high before.bits after.bits role are x word (value_in s e) v v' is (small (are.high_wide x word is)) l at (kept l at lives)

    -- Sets of both halves, in either order
    module _ (x y : Loc) (e f : Expr) (rest : List Stmt) (formed : is_stmt before.bits (Set x e) ≡ true) (formed' : is_stmt before.bits (Set y f) ≡ true)
        (wide : location_width before.bits x ≡ 8) (wide' : location_width before.bits y ≡ 8) (unread : Contains (reads_of f) x → ⊥)
        (s t : State) (h : RunAlike before after (words-link place (Set x e ∷ Set y f ∷ rest)) s t) where
      expr-of : is_expr_of before.bits 8 e ≡ true
      expr-of = subst (λ n. is_expr_of before.bits n e ≡ true) wide (and_parts (is_location before.bits x) (is_expr_of before.bits (location_width before.bits x) e) formed).1

      expr-of' : is_expr_of before.bits 8 f ≡ true
      expr-of' = subst (λ n. is_expr_of before.bits n f ≡ true) wide' (and_parts (is_location before.bits y) (is_expr_of before.bits (location_width before.bits y) f) formed').1

      first-value : value_in t (in_words role e) ≡ value_in s e
      first-value = value-one (Set x e) (Set y f ∷ rest) s t h e refl (and_parts (is_expr before.bits e) (width_of before.bits e == 8) expr-of).0

      abbrev between : State
      between = record s { running = record s.running { values = with_value s.running.values x (value_in s e) } }

      -- the second value doesn't hang on what the first one is
      second-value : value_in t (in_words role f) ≡ value_in between f
      second-value =
          value-read (scene_of between) (scene_of t) h.outside.base h.outside.memory (reading role) f
          (all_had (ReadsSame (scene_of between) (scene_of t) h.outside.base h.outside.memory (reading role)) (reads_of f)
          (λ l c.
          let other = λ (same : l ≡ x). unread (subst (Contains (reads_of f)) same c) in
          let at = All-contains (λ l. Here l) (reads_of f) l (reads_placed before.bits f (and_parts (is_expr before.bits f) (width_of before.bits f == 8) expr-of').0) c in
          let lives = left-live (Set x e) (Set y f ∷ rest) l (not-set x e l other) (read-live before block (Set y f) rest l (only f l c)) in record {
            value = reading-held (role l) (scene_of t) l ∙ h.holds l at lives ∙ sym (taken-other s.running.values x (value_in s e) l other);
            width =
                ap (λ (g : Graph). width_of g.bits (reading role l)) h.second ∙ reading-wide before.bits after.bits role are l at
                ∙ sym (ap (λ (g : Graph). location_width g.bits l) h.first);
          }))

      first-small : value_in t (in_words role e) < 2 ^ 8
      first-small = value-less (words-link place (Set x e ∷ Set y f ∷ rest)) s t h e 8 expr-of

      second-small : value_in t (in_words role f) < 2 ^ 8
      second-small = value-less (words-link place (Set x e ∷ Set y f ∷ rest)) s t h f 8 expr-of'

      low-width : (g : Expr) → is_expr_of before.bits 8 g ≡ true → width_of t.running.graph.bits (in_words role g) ≡ 8
      low-width g is =
          let q = and_parts (is_expr before.bits g) (width_of before.bits g == 8) is in
          ap (λ (k : Graph). width_of k.bits (in_words role g)) h.second ∙ expr-wide before.bits after.bits role are g q.0
          ∙ eqb-true (width_of before.bits g) 8 q.1

      abbrev both-taken : Values
      both-taken = with_value (with_value s.running.values x (value_in s e)) y (value_in between f)

      neither : (l : Loc) → Here l → Lives rest l → (l ≡ x → ⊥) → (l ≡ y → ⊥)
          → (held (role l) t.running.values l ≡ s.running.values l) × (both-taken l ≡ s.running.values l)
      neither l at lives other other' = (
        h.holds l at (left-live (Set x e) (Set y f ∷ rest) l (not-set x e l other) (left-live (Set y f) rest l (not-set y f l other') lives)),
        taken-other (with_value s.running.values x (value_in s e)) y (value_in between f) l other' ∙ taken-other s.running.values x (value_in s e) l other,
      )

      at-x : (x ≡ y → ⊥) → both-taken x ≡ value_in s e
      at-x differ = taken-other (with_value s.running.values x (value_in s e)) y (value_in between f) x differ ∙ taken-here s.running.values x (value_in s e) x refl

      at-y : both-taken y ≡ value_in between f
      at-y = taken-here (with_value s.running.values x (value_in s e)) y (value_in between f) y refl

      lower-joined : (word : ℕ) → role x ≡ Low word → role y ≡ High word
          → Same place rest both-taken (with_value t.running.values (Temp word) (value_in t (Join (in_words role f) (in_words role e))))
      lower-joined word is is' l at lives =
          let E = value_in t (in_words role e) in
          let F = value_in t (in_words role f) in
          let differ = λ (same : x ≡ y). low-not-high before.bits after.bits role are x y word word is is' same in
          ap (λ w. held (role l) (with_value t.running.values (Temp word) (F * 2 ^ w + E)) l) (low-width e expr-of)
          ∙ put-both before.bits after.bits role are x y word 0 (F * 2 ^ 8 + E) s.running.values t.running.values both-taken is is'
          (low-part F E first-small ∙ first-value ∙ sym (at-x differ)) (high-part F E second-small first-small ∙ second-value ∙ sym at-y) l at
          (neither l at lives)

      upper-joined : (word : ℕ) → role y ≡ Low word → role x ≡ High word
          → Same place rest both-taken (with_value t.running.values (Temp word) (value_in t (Join (in_words role e) (in_words role f))))
      upper-joined word is is' l at lives =
          let E = value_in t (in_words role e) in
          let F = value_in t (in_words role f) in
          let differ = λ (same : x ≡ y). low-not-high before.bits after.bits role are y x word word is is' (sym same) in
          ap (λ w. held (role l) (with_value t.running.values (Temp word) (E * 2 ^ w + F)) l) (low-width f expr-of')
          ∙ put-both before.bits after.bits role are y x word 0 (E * 2 ^ 8 + F) s.running.values t.running.values both-taken is is'
          (low-part E F second-small ∙ second-value ∙ sym at-y) (high-part E F first-small second-small ∙ first-value ∙ sym (at-x differ)) l at
          (λ other other'. neither l at lives other' other)

    -- Statements.

    does-alike : (stmt : Stmt) (rest : List Stmt) → is_stmt before.bits stmt ≡ true → writes_whole role stmt ≡ true → is_call stmt ≡ false
        → (s t : State) → RunAlike before after (words-link place (stmt ∷ rest)) s t → DoAlike (words-link place rest) s t stmt (stmt_in_words role stmt)
    does-alike (Set x e) rest formed whole plain s t h = set-follows x e rest formed s t h
    does-alike (Fetch x width a) rest formed whole plain s t h =
        let p = and_parts (is_location before.bits x && is_stored_width width && (location_width before.bits x == width)) (is_expr_of before.bits 16 a) formed in
        let q = and_parts (is_location before.bits x && is_stored_width width) (location_width before.bits x == width) p.0 in
        let here = (and_parts (is_location before.bits x) (is_stored_width width) q.0).0 in
        one-same (Fetch x width a) rest x refl (alone-is (role x) (and_parts (is_alone (role x)) true whole).0) here _ _ s.running.values t.running.values
        (ap₂ (λ m n. bytes_at m (width / 8) n) h.outside.memory
        (value-one (Fetch x width a) rest s t h a refl (and_parts (is_expr before.bits a) (width_of before.bits a == 16) p.1).0)) h.holds
    does-alike (Store width a e) rest formed whole plain s t h =
        let p = and_parts (is_stored_width width && is_expr_of before.bits 16 a) (is_expr_of before.bits width e) formed in
        let q = and_parts (is_stored_width width) (is_expr_of before.bits 16 a) p.0 in (
          refl,
          value-same (Store width a e ∷ rest) s t h a (and_parts (is_expr before.bits a) (width_of before.bits a == 16) q.1).0
              (λ l c. read-live before block (Store width a e) rest l (Contains-append_left (reads_of a) (reads_of e ++ []) l c)),
          value-same (Store width a e ∷ rest) s t h e (and_parts (is_expr before.bits e) (width_of before.bits e == width) p.1).0
              (λ l c. read-live before block (Store width a e) rest l (Contains-append_right (reads_of a) (reads_of e ++ []) l (only e l c))),
          none-same (Store width a e) rest refl s.running.values t.running.values h.holds,
        )
    does-alike (Div x e) rest formed whole plain s t h =
        let p = and_parts (is_location before.bits x) (is_dividing before.bits (location_width before.bits x) e) formed in (
          division-read (scene_of s) (scene_of t) h.outside.base h.outside.memory (reading role) (reading-plain role) e
              (reads-same (Div x e ∷ rest) s t h (reads_of e) (dividing-placed before.bits (location_width before.bits x) e p.1)
              (λ l c. read-live before block (Div x e) rest l (only e l c))),
          λ n. one-same (Div x e) rest x refl (alone-is (role x) (and_parts (is_alone (role x)) true whole).0) p.0 n n s.running.values t.running.values refl h.holds,
        )
    does-alike (Call results entry arguments depth) rest formed whole plain s t h = absurd (true≢false plain)
    does-alike (Dos number to argument) rest formed whole plain s t h = (refl, told argument formed refl, taken to whole formed refl, λ other. none to formed other refl)
      where
        stmt : Stmt
        stmt = Dos number to argument

        told : (e : Option Expr) → is_dos before.bits number to e ≡ true → argument ≡ e → argument_in t (option_map (in_words role) e) ≡ argument_in s e
        told (Some e) formed same =
            value-same (stmt ∷ rest) s t h e (dos-formed before.bits number to e formed)
            (λ l c. read-live before block stmt rest l (subst (λ o. Contains (flat_map reads_of (option_to_list o)) l) (sym same) (only e l c)))
        told None formed same = refl

        taken : (place' : Option Loc) → list_all (λ l. is_alone (role l)) (option_to_list place') ≡ true → is_dos before.bits number place' argument ≡ true → to ≡ place'
            → TakeAlike (words-link place rest) (scene_of s) t.running.values place' place'
        taken (Some x) whole formed same = λ n.
            one-same stmt rest x (ap option_to_list same) (alone-is (role x) (and_parts (is_alone (role x)) true whole).0) (dos-place before.bits number x argument formed) n n
            s.running.values t.running.values refl h.holds
        taken None whole formed same = none-same stmt rest (ap option_to_list same) s.running.values t.running.values h.holds

        none : (place' : Option Loc) → is_dos before.bits number place' argument ≡ true → takes_key number ≡ false → to ≡ place' → Same place rest s.running.values t.running.values
        none (Some x) formed other same = absurd (no-place before.bits number (Some x) argument x formed other)
        none None formed other same = none-same stmt rest (ap option_to_list same) s.running.values t.running.values h.holds

    -- one statement over words
    each-follows : (stmt : Stmt) (rest rest' : List Stmt) → is_stmt before.bits stmt ≡ true → writes_whole role stmt ≡ true
        → IsFollowedBy before after (words-link place) rest rest' → IsFollowedBy before after (words-link place) (stmt ∷ rest) (stmt_in_words role stmt ∷ rest')
    each-follows (Call results entry arguments depth) rest rest' formed whole later =
        let call = Call results entry arguments depth in
        let p = and_parts (list_all (is_location before.bits) results && list_all (is_expr before.bits) arguments) (nat_lt depth 65536) formed in
        let q = and_parts (list_all (is_location before.bits) results) (list_all (is_expr before.bits) arguments) p.0 in
        calls (λ s t h. values-same (call ∷ rest) s t h arguments q.1 (λ l c. read-live before block call rest l c))
        (λ s t r h fit base memory l at lives.
        given-held before.bits after.bits role are results (map (location_width before.bits) results) r s.running.values t.running.values whole q.0
        (length-map results (location_width before.bits)) fit l at (λ out. h.holds l at (left-live call rest l out lives)))
        later
    each-follows (Set x e) rest rest' formed whole later = step refl (set-no-call (role x) x (in_words role e)) (does-alike (Set x e) rest formed whole refl) later
    each-follows (Fetch x width a) rest rest' formed whole later = step refl refl (does-alike (Fetch x width a) rest formed whole refl) later
    each-follows (Store width a e) rest rest' formed whole later = step refl refl (does-alike (Store width a e) rest formed whole refl) later
    each-follows (Div x e) rest rest' formed whole later = step refl refl (does-alike (Div x e) rest formed whole refl) later
    each-follows (Dos number to argument) rest rest' formed whole later = step refl refl (does-alike (Dos number to argument) rest formed whole refl) later

    both-follow : (stmt next new : Stmt) (rest rest' : List Stmt) → IsSetOfBoth role stmt next new → is_stmt before.bits stmt ≡ true → is_stmt before.bits next ≡ true
        → IsFollowedBy before after (words-link place) rest rest' → IsFollowedBy before after (words-link place) (stmt ∷ next ∷ rest) (new ∷ rest')
    both-follow stmt next new rest rest' (lower_first {low = x} {high = y} {word = word} {e = e} {f = f} is is' unread) formed formed' later =
        joins refl refl refl
        (λ s t h. lower-joined x y e f rest formed formed' (are.low_wide x word is) (are.high_wide y word is') unread s t h word is is') later
    both-follow stmt next new rest rest' (upper_first {low = y} {high = x} {word = word} {e = e} {f = f} is is' unread) formed formed' later =
        joins refl refl refl
        (λ s t h. upper-joined x y e f rest formed formed' (are.high_wide x word is') (are.low_wide y word is) unread s t h word is is') later

    stmts-follow : (stmts news : List Stmt) → AreInWords role stmts news → list_all (is_stmt before.bits) stmts ≡ true → list_all (writes_whole role) stmts ≡ true
        → IsFollowedBy before after (words-link place) stmts news
    stmts-follow stmts news done formed whole = followed
    stmts-follow stmts news (each {stmt = stmt} {rest = rest} {rest' = rest'} w) formed whole =
        let f = and_parts (is_stmt before.bits stmt) (list_all (is_stmt before.bits) rest) formed in
        let o = and_parts (writes_whole role stmt) (list_all (writes_whole role) rest) whole in
        each-follows stmt rest rest' f.0 o.0 (stmts-follow rest rest' w f.1 o.1)
    stmts-follow stmts news (both {stmt = stmt} {next = next} {new = new} {rest = rest} {rest' = rest'} is w) formed whole =
        let f = and_parts (is_stmt before.bits stmt) (list_all (is_stmt before.bits) (next ∷ rest)) formed in
        let g = and_parts (is_stmt before.bits next) (list_all (is_stmt before.bits) rest) f.1 in
        let o = and_parts (writes_whole role stmt) (list_all (writes_whole role) (next ∷ rest)) whole in
        let q = and_parts (writes_whole role next) (list_all (writes_whole role) rest) o.1 in
        both-follow stmt next new rest rest' is f.0 g.0 (stmts-follow rest rest' w g.1 q.1)

    exits-alike : (exit : Exit) → block.exit ≡ exit → is_exit before.bits (length before.blocks) exit ≡ true → (s t : State) → RunAlike before after (words-link place []) s t
        → EndsAlike s t exit (exit_read_by (reading role) exit)
    exits-alike exit same formed s t h = go exit same formed
      where
        lives : (exit : Exit) → block.exit ≡ exit → (l : Loc) → Contains (flat_map reads_of (exit_exprs exit)) l → Lives [] l
        lives exit same l c = tested-live before block l (subst (λ x. Contains (flat_map reads_of (exit_exprs x)) l) (sym same) c)

        go : (exit : Exit) → block.exit ≡ exit → is_exit before.bits (length before.blocks) exit ≡ true → EndsAlike s t exit (exit_read_by (reading role) exit)
        go (Goto to) same formed = refl
        go (If test one other) same formed =
            let p = and_parts (is_expr_of before.bits 1 test && nat_lt one (length before.blocks)) (nat_lt other (length before.blocks)) formed in
            let q = and_parts (is_expr_of before.bits 1 test) (nat_lt one (length before.blocks)) p.0 in (
              value-same [] s t h test (and_parts (is_expr before.bits test) (width_of before.bits test == 1) q.0).0 (λ l c. lives (If test one other) same l (only test l c)),
              refl,
              refl,
            )
        go (Switch e places) same formed =
            let p = and_parts (is_expr_of before.bits 16 e && nat_le (length places) 65536) (list_all (λ place. nat_lt place (length before.blocks)) places) formed in
            let q = and_parts (is_expr_of before.bits 16 e) (nat_le (length places) 65536) p.0 in (
              value-same [] s t h e (and_parts (is_expr before.bits e) (width_of before.bits e == 16) q.0).0 (λ l c. lives (Switch e places) same l (only e l c)),
              refl,
            )
        go (Ret values) same formed = values-same [] s t h values formed (λ l c. lives (Ret values) same l c)
        go Stop same formed = tt

    block-follows : (new : Block) → IsBlockInWords role block new → is_block before.bits (length before.blocks) block ≡ true → list_all (writes_whole role) block.stmts ≡ true
        → IsFollowedByBlock before after words-link place block new
    block-follows new is formed whole =
        let p = and_parts (list_all (is_stmt before.bits) block.stmts) (is_exit before.bits (length before.blocks) block.exit) formed in record {
          stmts = stmts-follow block.stmts new.stmts is.stmts p.0 whole;
          exit = λ s t h. subst (EndsAlike s t block.exit) (sym is.exit) (exits-alike block.exit refl p.1 s t h);
          goes = λ to next s t goes found h base memory l at lives.
              let there : block_in before to ≡ next = get_or_from_slice_get before.blocks to next no_block found in
              h.holds l at ((live-closed before).goes block next to l goes found (subst (λ b. live before b next.stmts l) there lives));
        }

  -- The whole graph.

  module _ (formed : IsGraph before)
      (params : after.params ≡ map (param_in_words role) before.params)
      (whole : list_all (λ p. takes_whole role p.put) before.params ≡ true)
      (started : (l : Loc) → begins_live before l ≡ true → (is_alone (role l) || takes_argument before.params l) ≡ true)
      (written : list_all (λ b. list_all (writes_whole role) b.stmts) before.blocks ≡ true)
      (blocks : AllZip (IsBlockInWords role) before.blocks after.blocks) where
    words-begin : BeginsIn before after (linked before after words-link)
    words-begin fill base a s t fit outside opened opened' =
        subst (λ params. let s' = passing 0 before.params a s in let t' = passing 0 params a t in (t'.memory ≡ s'.memory) × linked before after words-link (start_of before.entry) s'.running.values t'.running.values)
        (sym params) (
          passing-outside before.bits after.bits role are 0 before.params a s t outside.memory outside.base,
          λ block found at memory l here lives.
              let place : block_in before 0 ≡ block = get_or_from_slice_get before.blocks 0 block no_block found in
              let lives' : live before (block_in before 0) (block_in before 0).stmts l = subst (λ b. live before (block_in before 0) b.stmts l) (sym place) lives in
              passing-held before.bits after.bits role are 0 before.params a s t whole formed.params fit l here
              (λ out. filled-held l here out (or-cases (is_alone (role l)) (takes_argument before.params l) (started l (lives-begins before l lives')))),
        )
      where
        filled-held : (l : Loc) → Here l → (Contains (param_places before.params) l → ⊥) → (is_alone (role l) ≡ true) ⊎ (takes_argument before.params l ≡ true)
            → held (role l) t.running.values l ≡ s.running.values l
        filled-held l here out (inr takes) = absurd (out (takes-contains before.params l takes))
        filled-held l here out (inl alone) =
            ap (λ r. held r t.running.values l) (alone-is (role l) alone) ∙ ap (λ (x : Activation). x.values l) opened'
            ∙ ap (λ w. fill_at w fill) (are.width_stays l here) ∙ sym (ap (λ (x : Activation). x.values l) opened)

    pub words-follow : IsFollowedByGraph before after words-link
    words-follow = record {
      begins = words-begin;
      blocks = λ place block new found there.
          let here : block_in before place ≡ block = get_or_from_slice_get before.blocks place block no_block found in
          let pair = subst (λ b. IsBlockInWords role b new) (sym here) (zip-at (IsBlockInWords role) before.blocks after.blocks blocks place block new found there) in
          let among = contained before.blocks place block found in
          let fine = all_at (is_block before.bits (length before.blocks)) before.blocks block formed.blocks among in
          let alone = all_at (λ b. list_all (writes_whole role) b.stmts) before.blocks block written among in
          subst (λ b. IsFollowedByBlock before after words-link place b new) here
          (block-follows place new pair (subst (λ b. is_block before.bits (length before.blocks) b ≡ true) (sym here) fine)
          (subst (λ (b : Block). list_all (writes_whole role) b.stmts ≡ true) (sym here) alone));
    }
