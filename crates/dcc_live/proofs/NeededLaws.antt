-- What is needed, as it flows backwards: through statements, through blocks, and until nothing changes.
use Rattle.std.proofs.Common.{◌≡◌, suc, Bool, true, false, ◌&&◌, ◌||◌, not, ◌⊎◌, inl, inr, List, [], ◌∷◌, ◌++◌, map, flat_map, refl, sym, ap, ◌∙◌, subst, true≢false, arith, Contains}
use Rattle.std.specs.Prelude.{if◌then◌else◌, ◌↔◌}
use Rattle.std.specs.List.{list_any}
use Rattle.std.proofs.lemmas.Bool.{or_cases, or_left, or_right, and_parts, and_from}
use Rattle.std.proofs.lemmas.List.Elements.{Contains-append_left, Contains-append_right, Contains-append_cases}
use Rattle.dcc_ir.specs.declared.syntax.Loc.{Loc}
use Rattle.dcc_ir.specs.Tree.{Stmt, Set, Fetch, Store, Div, Call, Dos, Exit, Goto, If, Switch, Ret, Stop, Block, Graph}
use Rattle.dcc_ir.specs.Use.{reads_of, exprs_of, writes_of, exit_exprs}
use Rattle.dcc_ir.specs.Demand.{is_assignment, uses_of, makes_of, tests_of, IsNeededIn, used, made_of, left, tested, goes}
use Rattle.dcc_ir.specs.Live.{is_among, reads_first}
use Rattle.dcc_ir.proofs.PathLaws.{decided}
use Rattle.dcc_ir.proofs.LocationLaws.{among_contains, contains_among, Contains-here, Contains-none, Contains-cases}
use Rattle.dcc_ir.proofs.FamilyLaws.{uses-read, makes-read}
use Rattle.dcc_flow.specs.Access.{Access, access_of}
use Rattle.dcc_flow.specs.Marks.{with_all, without_all, selected}
use Rattle.dcc_live.specs.Needed.{stays, before_one, before_all, after_stmts}

-- What a statement reads, it uses or makes its value of.

read_used : (stmt : Stmt) (l : Loc) → is_assignment stmt ≡ false → Contains (flat_map reads_of (exprs_of stmt)) l → Contains (uses_of stmt) l
read_used (Set x e) l is c = absurd (true≢false is)
read_used (Fetch x width address) l is c = absurd (true≢false is)
read_used (Store width address e) l is c = elim (Contains-append_cases (reads_of address) (reads_of e ++ []) l c) [
  | inl a ↦ Contains-append_left (reads_of address) (reads_of e) l a
  | inr b ↦ elim (Contains-append_cases (reads_of e) [] l b) [ inl d ↦ Contains-append_right (reads_of address) (reads_of e) l d | inr n ↦ absurd (Contains-none l n) ]
]
read_used (Div x e) l is c = elim (Contains-append_cases (reads_of e) [] l c) [ inl d ↦ d | inr n ↦ absurd (Contains-none l n) ]
read_used (Call results entry arguments depth) l is c = c
read_used (Dos number place argument) l is c = c

read_made : (stmt : Stmt) (l : Loc) → is_assignment stmt ≡ true → Contains (flat_map reads_of (exprs_of stmt)) l → Contains (makes_of stmt) l
read_made (Set x e) l is c = elim (Contains-append_cases (reads_of e) [] l c) [ inl d ↦ d | inr n ↦ absurd (Contains-none l n) ]
read_made (Fetch x width address) l is c = elim (Contains-append_cases (reads_of address) [] l c) [ inl d ↦ d | inr n ↦ absurd (Contains-none l n) ]
read_made (Store width address e) l is c = absurd (true≢false (sym is))
read_made (Div x e) l is c = absurd (true≢false (sym is))
read_made (Call results entry arguments depth) l is c = absurd (true≢false (sym is))
read_made (Dos number place argument) l is c = absurd (true≢false (sym is))

pub read_tested : (exit : Exit) (l : Loc) → Contains (flat_map reads_of (exit_exprs exit)) l → Contains (tests_of exit) l
read_tested (Goto place) l c = c
read_tested (If test one other) l c = elim (Contains-append_cases (reads_of test) [] l c) [ inl d ↦ d | inr n ↦ absurd (Contains-none l n) ]
read_tested (Switch e places) l c = elim (Contains-append_cases (reads_of e) [] l c) [ inl d ↦ d | inr n ↦ absurd (Contains-none l n) ]
read_tested (Ret values) l c = c
read_tested Stop l c = c

-- only other statements use
pub uses_plain : (stmt : Stmt) (l : Loc) → Contains (uses_of stmt) l → is_assignment stmt ≡ false
uses_plain (Set x e) l c = absurd (Contains-none l c)
uses_plain (Fetch x width address) l c = absurd (Contains-none l c)
uses_plain (Store width address e) l c = refl
uses_plain (Div x e) l c = refl
uses_plain (Call results entry arguments depth) l c = refl
uses_plain (Dos number place argument) l c = refl

-- Sets.

-- an element that passes a test, and one that is needed
pub any_passes : {A : Type 0} (p : A → Bool) (xs : List A) (l : A) → Contains xs l → p l ≡ true → list_any p xs ≡ true
any_passes p [] l c t = absurd (Contains-none l c)
any_passes p (x ∷ xs) l c t = Contains-cases x xs l (list_any p (x ∷ xs) ≡ true)
    (λ e. or_left (p x) (list_any p xs) (ap p e ∙ t)) (λ d. or_right (p x) (list_any p xs) (any_passes p xs l d t)) c

pub some_passes : {A : Type 0} (p : A → Bool) (xs : List A) → list_any p xs ≡ true → (l : A) × Contains xs l × (p l ≡ true)
some_passes p [] e = absurd (true≢false (sym e))
some_passes p (x ∷ xs) e = elim (or_cases (p x) (list_any p xs) e) [
  | inl t ↦ (x, Contains-here x xs, t)
  | inr f ↦ let on = some_passes p xs f in (on.0, (suc on.1.0, omega (arith, on.1.1), on.1.2), on.2)
]

-- whether an assignment stays, by whether it is one and whether what it writes is needed
pub staying : (assigns needed : Bool) → not (assigns && not needed) ≡ true → (assigns ≡ false) ⊎ (needed ≡ true)
staying true true e = inr refl
staying true false e = absurd (true≢false (sym e))
staying false needed e = inl refl

pub going : (assigns needed : Bool) → not (assigns && not needed) ≡ false → needed ≡ false
going true true e = absurd (true≢false e)
going true false e = refl
going false needed e = absurd (true≢false e)

stay_plain : (a : Access) (needed : Loc → Bool) → a.assigns ≡ false → stays a needed ≡ true
stay_plain a needed e = ap (λ b. not (b && not (list_any needed a.writes))) e

stay_needed : (a : Access) (needed : Loc → Bool) → list_any needed a.writes ≡ true → stays a needed ≡ true
stay_needed a needed e = ap (λ b. not (a.assigns && not b)) e ∙ all a.assigns
  where
    all : (b : Bool) → not (b && false) ≡ true
    all true = refl
    all false = refl

-- what is before a statement that stays, and before one that goes
before_staying : (a : Access) (needed : Loc → Bool) (l : Loc) → stays a needed ≡ true → before_one a needed l ≡ with_all (without_all needed a.writes) a.reads l
before_staying a needed l e = ap (λ b. (if b then with_all (without_all needed a.writes) a.reads else needed) l) e

before_going : (a : Access) (needed : Loc → Bool) (l : Loc) → stays a needed ≡ false → before_one a needed l ≡ needed l
before_going a needed l e = ap (λ b. (if b then with_all (without_all needed a.writes) a.reads else needed) l) e

reads_before : (a : Access) (needed : Loc → Bool) (l : Loc) → stays a needed ≡ true → Contains a.reads l → before_one a needed l ≡ true
reads_before a needed l e c = before_staying a needed l e ∙ or_left (is_among a.reads l) (not (is_among a.writes l) && needed l) (contains_among a.reads l c)

unwritten : (xs : List Loc) (l : Loc) → ¬ Contains xs l → is_among xs l ≡ false
unwritten xs l n = elim (decided (is_among xs l)) [ inl t ↦ absurd (n (among_contains xs l t)) | inr f ↦ f ]

-- what is needed after a statement that does not write it
pub passes_before : (a : Access) (needed : Loc → Bool) (l : Loc) → ¬ Contains a.writes l → needed l ≡ true → before_one a needed l ≡ true
passes_before a needed l n t = elim (decided (stays a needed)) [
  | inl e ↦ before_staying a needed l e ∙ or_right (is_among a.reads l) (not (is_among a.writes l) && needed l) (and_from (not (is_among a.writes l)) (needed l) (ap not (unwritten a.writes l n)) t)
  | inr e ↦ before_going a needed l e ∙ t
]

pub uses_before : (stmt : Stmt) (needed : Loc → Bool) (l : Loc) → Contains (uses_of stmt) l → before_one (access_of stmt) needed l ≡ true
uses_before stmt needed l c = reads_before (access_of stmt) needed l (stay_plain (access_of stmt) needed (uses_plain stmt l c)) (uses-read stmt l c)

pub makes_before : (stmt : Stmt) (needed : Loc → Bool) (l to : Loc) → Contains (writes_of stmt) to → Contains (makes_of stmt) l → needed to ≡ true → before_one (access_of stmt) needed l ≡ true
makes_before stmt needed l to w c t =
    reads_before (access_of stmt) needed l (stay_needed (access_of stmt) needed (any_passes needed (writes_of stmt) to w t)) (makes-read stmt l c)

-- In a block.

module _ (graph : Graph) (block : Block) where
  -- the set has just what is needed before these statements
  abbrev pub Exactly : (Loc → Bool) → List Stmt → Type 0
  Exactly has stmts = (x : Loc) → (has x ≡ true) ↔ IsNeededIn graph block stmts x

  step_sound : (stmt : Stmt) (rest : List Stmt) (needed : Loc → Bool) → ((x : Loc) → needed x ≡ true → IsNeededIn graph block rest x) → (x : Loc) → before_one (access_of stmt) needed x ≡ true →
      IsNeededIn graph block (stmt ∷ rest) x
  step_sound stmt rest needed sound x t = elim (decided (stays (access_of stmt) needed)) [
    | inl e ↦ elim (or_cases (is_among (flat_map reads_of (exprs_of stmt)) x) (not (is_among (writes_of stmt) x) && needed x) (sym (before_staying (access_of stmt) needed x e) ∙ t)) [
      | inl r ↦
          let c = among_contains (flat_map reads_of (exprs_of stmt)) x r in
          elim (decided (is_assignment stmt)) [
            | inr plain ↦ used (read_used stmt x plain c)
            | inl is ↦ elim (staying (is_assignment stmt) (list_any needed (writes_of stmt)) e) [
              | inl plain ↦ absurd (true≢false (sym is ∙ plain))
              | inr some ↦ let to = some_passes needed (writes_of stmt) some in made_of to.1 (read_made stmt x is c) (sound to.0 to.2)
            ]
          ]
      | inr on ↦
          let parts = and_parts (not (is_among (writes_of stmt) x)) (needed x) on in
          left (λ c. true≢false (sym parts.0 ∙ ap not (contains_among (writes_of stmt) x c))) (sound x parts.1)
    ]
    | inr e ↦
        let on = sym (before_going (access_of stmt) needed x e) ∙ t in
        left (λ c. true≢false (sym (any_passes needed (writes_of stmt) x c on) ∙ going (is_assignment stmt) (list_any needed (writes_of stmt)) e)) (sound x on)
  ]

  step_complete : (stmts : List Stmt) (x : Loc) → IsNeededIn graph block stmts x → (stmt : Stmt) (rest : List Stmt) → stmts ≡ stmt ∷ rest → (needed : Loc → Bool) →
      ((x : Loc) → IsNeededIn graph block rest x → needed x ≡ true) → before_one (access_of stmt) needed x ≡ true
  step_complete stmts x d stmt rest is needed complete = go stmts d is
    where
      go : (stmts : List Stmt) → IsNeededIn graph block stmts x → stmts ≡ stmt ∷ rest → before_one (access_of stmt) needed x ≡ true
      go stmts (used {stmt = s} {rest = r} c) is = let same : s ≡ stmt = cc in uses_before stmt needed x (subst (λ s. Contains (uses_of s) x) same c)
      go stmts (made_of {stmt = s} {rest = r} {to = to} w c d) is =
          let same : s ≡ stmt = cc in
          let also : r ≡ rest = cc in
          makes_before stmt needed x to (subst (λ s. Contains (writes_of s) to) same w) (subst (λ s. Contains (makes_of s) x) same c) (complete to (subst (λ r. IsNeededIn graph block r to) also d))
      go stmts (left {stmt = s} {rest = r} n d) is =
          let same : s ≡ stmt = cc in
          let also : r ≡ rest = cc in
          passes_before (access_of stmt) needed x (subst (λ s. ¬ Contains (writes_of s) x) same n) (complete x (subst (λ r. IsNeededIn graph block r x) also d))
      go stmts (tested c) is = absurd (cc)
      go stmts (goes c f d) is = absurd (cc)

  pub needed_before : (has : Loc → Bool) (stmts : List Stmt) → Exactly has [] → Exactly (before_all (map access_of stmts) has) stmts
  needed_before has [] exact = exact
  needed_before has (stmt ∷ rest) exact =
      let on = needed_before has rest exact in
      λ x. (
        step_sound stmt rest (before_all (map access_of rest) has) (λ y t. (on y).0 t) x,
        λ d. step_complete (stmt ∷ rest) x d stmt rest refl (before_all (map access_of rest) has) (λ y e. (on y).1 e),
      )

  -- soundness alone
  pub sound_before : (has : Loc → Bool) (stmts : List Stmt) → ((x : Loc) → has x ≡ true → IsNeededIn graph block [] x) → (x : Loc) → before_all (map access_of stmts) has x ≡ true → IsNeededIn graph block stmts x
  sound_before has [] sound = sound
  sound_before has (stmt ∷ rest) sound = step_sound stmt rest (before_all (map access_of rest) has) (sound_before has rest sound)

-- what is needed before the last statements of a block
abbrev before_rest : List Stmt → Exit → List Loc → List Bool → Loc → Bool
before_rest rest exit places bits = before_all (map access_of rest) (after_stmts places bits (flat_map reads_of (exit_exprs exit)))

-- what is needed before a block is read first there, or selected after it
pub before_known : (stmts : List Stmt) (exit : Exit) (places : List Loc) (bits : List Bool) (x : Loc) →
    before_all (map access_of stmts) (after_stmts places bits (flat_map reads_of (exit_exprs exit))) x ≡ true → (reads_first stmts exit x ≡ true) ⊎ Contains (selected places bits) x
before_known [] exit places bits x t = elim (or_cases (is_among (flat_map reads_of (exit_exprs exit)) x) (is_among (selected places bits) x || false) t) [
  | inl r ↦ inl r
  | inr s ↦ elim (or_cases (is_among (selected places bits) x) false s) [ inl c ↦ inr (among_contains (selected places bits) x c) | inr f ↦ absurd (true≢false (sym f)) ]
]
before_known (stmt ∷ rest) exit places bits x t =
    let W = before_rest rest exit places bits in
    elim (decided (stays (access_of stmt) W)) [
      | inl e ↦ elim (or_cases (is_among (flat_map reads_of (exprs_of stmt)) x) (not (is_among (writes_of stmt) x) && W x) (sym (before_staying (access_of stmt) W x e) ∙ t)) [
        | inl r ↦ inl (or_left (is_among (flat_map reads_of (exprs_of stmt)) x) (not (is_among (writes_of stmt) x) && reads_first rest exit x) r)
        | inr on ↦ let parts = and_parts (not (is_among (writes_of stmt) x)) (W x) on in later parts.0 (before_known rest exit places bits x parts.1)
      ]
      | inr e ↦
          let on = sym (before_going (access_of stmt) W x e) ∙ t in
          later (ap not (unwritten (writes_of stmt) x (λ c. true≢false (sym (any_passes W (writes_of stmt) x c on) ∙ going (is_assignment stmt) (list_any W (writes_of stmt)) e))))
          (before_known rest exit places bits x on)
    ]
  where
    later : not (is_among (writes_of stmt) x) ≡ true → (reads_first rest exit x ≡ true) ⊎ Contains (selected places bits) x → (reads_first (stmt ∷ rest) exit x ≡ true) ⊎ Contains (selected places bits) x
    later out (inl r) = inl (or_right (is_among (flat_map reads_of (exprs_of stmt)) x) (not (is_among (writes_of stmt) x) && reads_first rest exit x) (and_from (not (is_among (writes_of stmt) x)) (reads_first rest exit x) out r))
    later out (inr s) = inr s
