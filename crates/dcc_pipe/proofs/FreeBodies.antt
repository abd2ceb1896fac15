-- The body of a graph's function takes the address of no name but that of the first argument in memory, and so of no
-- parameter that is not in memory. A test of the parameters that are not in memory.
use Rattle.std.proofs.Common.{◌≡◌, ℕ, ◌+◌, ◌^◌, ◌<◌, Bool, true, false, inl, inr, List, [], ◌∷◌, length, Option, Some, refl, sym, ap, ap₂, ◌∙◌, true≢false, arith}
use Rattle.std.specs.Prelude.{◌⊎◌, ◌&&◌, ◌||◌, not, if◌then◌else◌}
use Rattle.std.specs.List.{list_all, list_any}
use Rattle.std.proofs.lemmas.Bool.{and_from, and_parts, not-true, or_parts, or_left, or_right, false_from_ne_true}
use Rattle.dcc_ir.specs.Tree as inner
use Rattle.dcc_ir.specs.Live.{block_in}
use Rattle.dcc_ir.specs.declared.syntax.Loc.{Loc}
use Rattle.dcc_ir.specs.declared.syntax.Param.{Param}
use Rattle.dcc_ir.specs.declared.syntax.Put.{Put}
use Rattle.dcc_ir.specs.declared.syntax.Put.TheVariants.{One}
use Rattle.dcc_ir.specs.WellFormed.{is_memory}
use Rattle.dcc_ir.proofs.PathLaws.{decided}
use Rattle.dcc_c.specs.declared.syntax.Class.TheVariants.{Plain, Auto}
use Rattle.dcc_c.specs.Parts.{stmts_in}
use Rattle.dcc_c.specs.Placement.{is_auto, takes_address}
use Rattle.dcc_c.specs.Token.{same_bytes}
use Rattle.dcc_c.specs.declared.syntax.CUn.TheVariants.{Not}
use Rattle.dcc_c.specs.Tree.{Word, Expr, Unary, Stmt, Lines, Variable}
use Rattle.dcc_text.specs.Spelled.{Low, Exact}
use Rattle.dcc_text.specs.Spelling.{Spelling}
use Rattle.dcc_text.proofs.Opposites.{IsTurned, turns, turned-cases}
use Rattle.dcc_variables.specs.Addresses.{has_address_of, stmt_has_address_of, TakesNoAddress, IsNoMemoryName}
use Rattle.dcc_variables.specs.Functions.{parameter_name, is_taken_whole, place_from, place_in, parameter_class, parameter, parameters_from, parameters, memory_from, function_spelling, openings, BeginsWith}
use Rattle.dcc_variables.proofs.FramePlaces.{memory-within}
use Rattle.dcc_variables.proofs.NoAddresses.{body-takes, texts-take-none}
use Rattle.dcc_variables.proofs.ParamNames.{places-same, place-within, whole-is}
use Rattle.dcc_control.specs.Plan.{Plan}
use Rattle.dcc_plan.specs.PlanText.{text_of_test, text_of_way, text_of_choice, text_of_return, IsPlanText}
use Rattle.dcc_pipe.proofs.BodyStatements.{TextsPass, plan-passes, opened-passes}
use Rattle.dcc_pipe.proofs.OpeningLines.{is_assignment}

module _ (graph : inner.Graph) (word : Word) (apart : IsNoMemoryName graph word) where
  abbrev s : Spelling
  s = function_spelling graph

  none : TakesNoAddress graph word
  none = texts-take-none graph word apart

  -- the statement takes no such address
  abbrev free : Stmt → Bool
  free stmt = not (stmt_has_address_of word stmt)

  test-free : (exit : inner.Exit) → has_address_of word (text_of_test s exit) ≡ false
  test-free (inner.If test one other) = none.expressions test Exact false
  test-free (inner.Goto next) = refl
  test-free (inner.Switch e places) = refl
  test-free (inner.Ret values) = refl
  test-free inner.Stop = refl

  -- the opposite comparison
  turned-free : (e c : Expr) → IsTurned e c → has_address_of word e ≡ false → has_address_of word c ≡ false
  turned-free e c (turns operator other a b o) x = x

  way-free : (on : Bool) (exit : inner.Exit) → has_address_of word (text_of_way s on exit) ≡ false
  way-free true exit = test-free exit
  way-free false exit =
      turned-cases (λ e. has_address_of word e ≡ false) (Unary Not) (text_of_test s exit) (test-free exit)
      (λ c o. turned-free (text_of_test s exit) c o (test-free exit))

  choice-free : (exit : inner.Exit) → has_address_of word (text_of_choice s exit) ≡ false
  choice-free (inner.Switch e places) = none.expressions e Low false
  choice-free (inner.Goto next) = refl
  choice-free (inner.If test one other) = refl
  choice-free (inner.Ret values) = refl
  choice-free inner.Stop = refl

  return-free : (exit : inner.Exit) → stmt_has_address_of word (text_of_return s exit) ≡ false
  return-free (inner.Ret values) = none.returns values
  return-free (inner.Goto next) = refl
  return-free (inner.If test one other) = refl
  return-free (inner.Switch e places) = refl
  return-free inner.Stop = refl

  texts-free : TextsPass s graph free
  texts-free = record {
    done = λ b m stmt is. ap not (none.statements stmt 2);
    tested = λ b on first second. ap (λ c. not (c || false)) (way-free on (block_in graph b).exit);
    tested_first = λ b on body. ap (λ c. not (c || false)) (way-free on (block_in graph b).exit);
    tested_last = λ b on body. ap (λ c. not (c || false)) (way-free on (block_in graph b).exit);
    chosen = λ b bodies. ap (λ c. not (c || false)) (choice-free (block_in graph b).exit);
    returned = λ b. ap not (return-free (block_in graph b).exit);
    repeated = λ body. refl;
    marked = λ w. refl;
    jumped = λ w. refl;
    broken = refl;
    continued = refl;
    empty = refl;
  }

  all-free : (stmts : List Stmt) → list_any (stmt_has_address_of word) stmts ≡ false → list_all free stmts ≡ true
  all-free [] is = refl
  all-free (stmt ∷ stmts) is =
      let parts = or_parts (stmt_has_address_of word stmt) (list_any (stmt_has_address_of word) stmts) is in
      and_from (free stmt) (list_all free stmts) (ap not parts.0) (all-free stmts parts.1)

  none-takes : (stmts : List Stmt) → list_all free stmts ≡ true → list_any (stmt_has_address_of word) stmts ≡ false
  none-takes [] is = refl
  none-takes (stmt ∷ stmts) is =
      let parts = and_parts (free stmt) (list_all free stmts) is in
      ap₂ (λ a b. a || b) (not-true (stmt_has_address_of word stmt) parts.0) (none-takes stmts parts.1)

  pub body-free : (opens : _) (body lines : Lines) {p : Plan} → list_all is_assignment (openings opens graph) ≡ true
      → BeginsWith (openings opens graph) body lines → IsPlanText s graph p lines → takes_address body word ≡ false
  body-free opens body lines all begins is =
      body-takes body word
      ∙ none-takes (stmts_in body) (opened-passes s graph free texts-free (openings opens graph)
      (all-free (openings opens graph) (none.openings opens)) all body lines begins (plan-passes s graph free texts-free is))

-- Parameters.

-- only a location that takes the whole argument has the name of the param at the place
abbrev pub IsNamedByOwn : inner.Graph → ℕ → Param → Type 0
IsNamedByOwn graph j p =
    (l : Loc) (place : ℕ) → place_in graph l ≡ Some place
    → same_bytes (parameter_name j) (parameter_name place) ≡ true → p.put ≡ One l

module _ (graph : inner.Graph) (few : length graph.params < 2 ^ 32) where
  -- From a place on these are the params: what is in memory, and what takes a whole argument, stands before that place or
  -- among them.
  record IsRest (j : ℕ) (params : List Param) : Type 0 where
    memory : (place : ℕ) → memory_from 0 graph.params ≡ Some place → (place < j) ⊎ (memory_from j params ≡ Some place)
    taken : (l : Loc) (place : ℕ) → place_in graph l ≡ Some place → (place < j) ⊎ (place_from j params l ≡ Some place)

  later : (here : Bool) (j place : ℕ) (o : Option ℕ) → (place < j) ⊎ ((if here then Some j else o) ≡ Some place)
      → (place < j + 1) ⊎ (o ≡ Some place)
  later here j place o (inl before) = inl (omega (arith, before))
  later true j place o (inr is) = inl (let e : j ≡ place = cc in omega (arith, e))
  later false j place o (inr is) = inr is

  next-rest : (j : ℕ) (p : Param) (params : List Param) → IsRest j (p ∷ params) → IsRest (j + 1) params
  next-rest j p params rest = record {
    memory = λ place is.
        later (p.stack && is_memory p.put) j place (memory_from (j + 1) params) (rest.memory place is);
    taken = λ l place is.
        later (is_taken_whole p.put l) j place (place_from (j + 1) params l) (rest.taken l place is);
  }

  -- a param that isn't in memory has another name than that which is
  other-name : (j : ℕ) (p : Param) (params : List Param) → j < 2 ^ 63 → (p.stack && is_memory p.put) ≡ false
      → IsRest j (p ∷ params) → IsNoMemoryName graph (parameter_name j)
  other-name j p params small away rest place memory =
      false_from_ne_true _ (λ same.
      let within = memory-within graph.params 0 place memory in
      let e = places-same j place small (omega (arith, within.1, few)) same in
      elim (rest.memory place memory) [
        | inl before ↦ absurd (omega (arith, before, e))
        | inr here ↦
            let after = memory-within params (j + 1) place
            (sym (ap (λ b. if b then Some j else memory_from (j + 1) params) away) ∙ here) in
            absurd (omega (arith, after.0, e))
      ])

  own-name : (j : ℕ) (p : Param) (params : List Param) → j < 2 ^ 63 → IsRest j (p ∷ params) → IsNamedByOwn graph j p
  own-name j p params small rest l place is same =
      let within = place-within graph.params 0 l place is in
      let e = places-same j place small (omega (arith, within.1, few)) same in
      elim (rest.taken l place is) [
        | inl before ↦ absurd (omega (arith, before, e))
        | inr here ↦ elim (decided (is_taken_whole p.put l)) [
          | inl whole ↦ whole-is p.put l whole
          | inr away ↦
              let after = place-within params (j + 1) l place
              (sym (ap (λ b. if b then Some j else place_from (j + 1) params l) away) ∙ here) in
              absurd (omega (arith, after.0, e))
        ]
      ]

  module _ (test : Variable → Bool)
      (passes : (j : ℕ) (p : Param) → IsNoMemoryName graph (parameter_name j) → IsNamedByOwn graph j p
      → test (parameter graph.bits j p) ≡ true) where
    each-from : (j : ℕ) (params : List Param) → j + length params < 2 ^ 63 → IsRest j params
        → list_all (λ v. is_auto v.class || test v) (parameters_from graph.bits j params) ≡ true
    each-from j [] small rest = refl
    each-from j (p ∷ params) small rest =
        and_from (is_auto (parameter_class p) || test (parameter graph.bits j p)) _
        (elim (decided (p.stack && is_memory p.put)) [
          | inl memory ↦ or_left (is_auto (parameter_class p)) _ (auto p.stack p.put memory)
          | inr away ↦
              or_right (is_auto (parameter_class p)) _
              (passes j p (other-name j p params (omega (arith, small)) away rest)
              (own-name j p params (omega (arith, small)) rest))
        ])
        (each-from (j + 1) params (omega (arith, small)) (next-rest j p params rest))
      where
        auto : (stack : Bool) (put : Put) → (stack && is_memory put) ≡ true
            → is_auto (parameter_class (record { stack = stack; put = put })) ≡ true
        auto true put is = ap (λ b. is_auto (if b then Auto else Plain)) is
        auto false put is = absurd (true≢false (sym is))

    -- each parameter that is not in memory passes the test
    pub each-parameter : list_all (λ v. is_auto v.class || test v) (parameters graph) ≡ true
    each-parameter =
        each-from 0 graph.params (omega (arith, few))
        (record { memory = λ place is. inr is; taken = λ l place is. inr is })

pub unplaced : (graph : inner.Graph) → length graph.params < 2 ^ 32 → (body : Lines)
    → ((word : Word) → IsNoMemoryName graph word → takes_address body word ≡ false)
    → list_all (λ v. is_auto v.class || not (takes_address body v.name)) (parameters graph) ≡ true
unplaced graph few body free =
    each-parameter graph few (λ v. not (takes_address body v.name))
    (λ j p none own. ap not (free (parameter_name j) none))
