-- A call, a return and an assignment that have been read to their ends are allowed just where nothing offends in them.
use native.Mathlib.Omega.{arith}
use Rattle.std.proofs.Common.{◌≡◌, ℕ, suc, Bool, true, false, ◌&&◌, List, [], ◌∷◌, ◌++◌, length, map, Option, Some, None, refl, sym, ap, ◌∙◌}
use Rattle.std.proofs.lemmas.Bool.{ltb-false, le-ltb}
use Rattle.std.specs.Prelude.{not, is_some, nat_lt, option_map, if◌then◌else◌}
use Rattle.std.proofs.Math.Bool.{and-false}
use Rattle.std.specs.List.{list_all}
use Rattle.dcc_c.specs.declared.syntax.CType.{CType}
use Rattle.dcc_c.specs.Tree.{Word, Expr}
use Rattle.dcc_c.specs.Dos.{Signature}
use Rattle.dcc_c.specs.Typing.{Declared, declared_as, place_type}
use Rattle.dcc_c.specs.Rules.{converts, fits, fit_all, result_fits, call_fits}
use Rattle.dcc_c.specs.Kinds.{of_name, of_type, Offence, offence, only_if}
use Rattle.dcc_c.specs.Partial.{WordAt, PartialExpr, Missing, NumberHere, NameHere, UnaryHere, BinaryOf, ConditionalOf, CastHere, is_missing, is_name_here, PartialCall}
use Rattle.dcc_c.specs.Known.{Known, known_as}
use Rattle.dcc_c.specs.Offences.{BodyContext, becomes, conversion, expr_offences, assigned_offences, arguments_inner, arguments_become, count_read, count_offends, result_offences, signature_offences, callee_offences, place_if, call_offences, return_offences}
use Rattle.dcc_c.specs.Stripped.{plain_expr}
use Rattle.dcc_c.specs.Complete.{is_complete_expr, is_complete_place, is_complete_place_if, is_complete_if}
use Rattle.dcc_c.proofs.refusals.ExprRules.{none-both, none-only, true-false, both-empty, and-both, or-left, or-right}
use Rattle.dcc_c.proofs.refusals.StmtRules.{place-placed, place-clean, fits-of, becomes-of, not-true}

-- An assignment that fits.
pub fitting-assignment : (scene : BodyContext) (place e : PartialExpr) → is_complete_place place ≡ true → is_complete_expr e ≡ true →
    (elim (place_type scene.names (plain_expr place)) [ Some to ↦ fits scene.names to (plain_expr e) | None ↦ false ]) ≡ true →
    assigned_offences scene place (Some e) true ≡ []
fitting-assignment scene place e placed whole fit = elim (place_type scene.names (plain_expr place)) as (λ o. place_type scene.names (plain_expr place) ≡ o →
    (elim o [ Some to ↦ fits scene.names to (plain_expr e) | None ↦ false ]) ≡ true → assigned_offences scene place (Some e) true ≡ []) [
      | Some to ↦ λ is fit. let p = place-clean scene place to placed is in
          let b = becomes-of scene e to whole fit in
          both-empty p.none (done (is_name_here e) (both-empty b.none (ap (λ o. becomes scene e true o) p.told ∙ b.own)))
      | None ↦ λ _ bad. absurd cc
    ] refl fit where
      done : (b : Bool) {xs : List Offence} → xs ≡ [] → (if b && not true then [] else xs) ≡ []
      done true e = e
      done false e = e

-- Arguments.

pub there : (e : PartialExpr) → is_complete_expr e ≡ true → is_missing e ≡ false
there Missing whole = absurd cc
there (NumberHere at n base) whole = refl
there (NameHere at word called) whole = refl
there (UnaryHere at operator a) whole = refl
there (BinaryOf operator a b) whole = refl
there (ConditionalOf a b c) whole = refl
there (CastHere at type a) whole = refl

-- as many arguments as parameters
pub read-all : (es : List PartialExpr) → list_all is_complete_expr es ≡ true → count_read es ≡ length es
read-all [] whole = refl
read-all (e ∷ es) whole =
    let parts = and-both (is_complete_expr e) (list_all is_complete_expr es) whole in
    rw (there e parts.0) (ap suc (read-all es parts.1))

-- no list is longer
same-length : (m n : ℕ) → nat_lt m n ≡ false → nat_lt n m ≡ false → m ≡ n
same-length m n e f = omega (arith, ltb-false m n e, ltb-false n m f)

pub not-longer : (n : ℕ) → nat_lt n n ≡ false
not-longer n = le-ltb n n (omega arith)

-- the arguments fit the parameters
pub arguments-fit : (scene : BodyContext) (types : List CType) (es : List PartialExpr) → list_all is_complete_expr es ≡ true → length types ≡ length es →
    arguments_inner scene es ≡ [] → arguments_become scene true types es ≡ [] → fit_all scene.names types (map plain_expr es) ≡ true
arguments-fit scene [] [] whole same inner own = refl
arguments-fit scene [] (e ∷ es) whole same inner own = absurd cc
arguments-fit scene (type ∷ types) [] whole same inner own = absurd cc
arguments-fit scene (type ∷ []) (e ∷ []) whole same inner own =
    let parts = and-both (is_complete_expr e) true whole in
    rw (fits-of scene e type parts.0 (none-both (expr_offences scene e) [] inner).0 own) refl
arguments-fit scene (type ∷ other ∷ types) (e ∷ []) whole same inner own = absurd cc
arguments-fit scene (type ∷ types) (e ∷ f ∷ es) whole same inner own =
    let parts = and-both (is_complete_expr e) (list_all is_complete_expr (f ∷ es)) whole in
    let first = none-both (expr_offences scene e) (arguments_inner scene (f ∷ es)) inner in
    let becomes-all = none-both (becomes scene e true (Some type)) (arguments_become scene true types (f ∷ es)) own in
    rw (fits-of scene e type parts.0 first.0 becomes-all.0) (arguments-fit scene types (f ∷ es) parts.1 (down same) first.1 becomes-all.1) where
      down : {m n : ℕ} → suc m ≡ suc n → m ≡ n
      down e = cc

-- nothing offends in arguments that fit
pub record Fitting (scene : BodyContext) (types : List CType) (es : List PartialExpr) : Type 0 where
  pub same : length types ≡ length es
  pub inner : arguments_inner scene es ≡ []
  pub own : arguments_become scene true types es ≡ []

pub fitting-arguments : (scene : BodyContext) (types : List CType) (es : List PartialExpr) → list_all is_complete_expr es ≡ true →
    fit_all scene.names types (map plain_expr es) ≡ true → Fitting scene types es
fitting-arguments scene [] [] whole fit = record { same = refl; inner = refl; own = refl }
fitting-arguments scene [] (e ∷ es) whole fit = absurd cc
fitting-arguments scene (type ∷ types) [] whole fit = absurd cc
fitting-arguments scene (type ∷ []) (e ∷ []) whole fit =
    let parts = and-both (is_complete_expr e) true whole in
    let fits-all = and-both (fits scene.names type (plain_expr e)) true fit in
    let b = becomes-of scene e type parts.0 fits-all.0 in
    record { same = refl; inner = both-empty b.none refl; own = b.own }
fitting-arguments scene (type ∷ other ∷ types) (e ∷ []) whole fit = absurd (true-false (sym (and-both (fits scene.names type (plain_expr e)) false fit).1))
fitting-arguments scene (type ∷ []) (e ∷ f ∷ es) whole fit = absurd (true-false (sym (and-both (fits scene.names type (plain_expr e)) false fit).1))
fitting-arguments scene (type ∷ other ∷ types) (e ∷ f ∷ es) whole fit =
    let parts = and-both (is_complete_expr e) (list_all is_complete_expr (f ∷ es)) whole in
    let fits-all = and-both (fits scene.names type (plain_expr e)) (fit_all scene.names (other ∷ types) (map plain_expr (f ∷ es))) fit in
    let b = becomes-of scene e type parts.0 fits-all.0 in
    let rest = fitting-arguments scene (other ∷ types) (f ∷ es) parts.1 fits-all.1 in
    record { same = ap suc rest.same; inner = both-empty b.none rest.inner; own = both-empty b.own rest.own }

-- Results.

-- the result goes to the place
pub result-fits : (scene : BodyContext) (at : ℕ) (place : Option PartialExpr) (function : WordAt) (result : Option CType) → is_complete_place_if place ≡ true →
    place_if scene place ≡ [] → result_offences scene at place function result ≡ [] → result_fits scene.names (option_map plain_expr place) result ≡ true
result-fits scene at None function result whole none own = refl
result-fits scene at (Some place) function None whole none own = absurd cc
result-fits scene at (Some place) function (Some from) whole none own =
    let p = place-placed scene place whole none in
    ap (λ o. elim o [ Some to ↦ converts from to | None ↦ false ]) p.1.is
    ∙ not-true (converts from p.0) (none-only (not (converts from p.0)) (offence of_type function.at)
    (ap (λ o. conversion (Some from) o function.at) (sym p.1.told) ∙ own))

pub record Resulting (scene : BodyContext) (at : ℕ) (place : Option PartialExpr) (function : WordAt) (result : Option CType) : Type 0 where
  pub none : place_if scene place ≡ []
  pub own : result_offences scene at place function result ≡ []

pub fitting-result : (scene : BodyContext) (at : ℕ) (place : Option PartialExpr) (function : WordAt) (result : Option CType) → is_complete_place_if place ≡ true →
    result_fits scene.names (option_map plain_expr place) result ≡ true → Resulting scene at place function result
fitting-result scene at None function result whole fit = record { none = refl; own = refl }
fitting-result scene at (Some place) function None whole fit = absurd cc
fitting-result scene at (Some place) function (Some from) whole fit = elim (place_type scene.names (plain_expr place)) as (λ o. place_type scene.names (plain_expr place) ≡ o →
    (elim o [ Some to ↦ converts from to | None ↦ false ]) ≡ true → Resulting scene at (Some place) function (Some from)) [
      | Some to ↦ λ is fit. let p = place-clean scene place to whole is in record {
        none = p.none;
        own = ap (λ o. conversion (Some from) o function.at) p.told ∙ ap (λ b. only_if (not b) (offence of_type function.at)) fit;
      }
      | None ↦ λ _ bad. absurd cc
    ] refl fit

-- Calls.

-- What of a call is allowed, where its function is known.
pub record HasSignature (scene : BodyContext) (word : Word) (signature : Signature) : Type 0 where
  pub no_variable : declared_as scene.names word ≡ None
  pub known : Known
  pub found : known_as scene.functions word ≡ Some known
  pub is : known.signature ≡ Some signature

counts-agree : (params : List CType) (call : PartialCall) → list_all is_complete_expr call.arguments ≡ true → call.closed ≡ true →
    count_offends call params ≡ false → length params ≡ length call.arguments
counts-agree params call whole closed e =
    let more = or-left (nat_lt (length params) (count_read call.arguments)) (call.closed && nat_lt (count_read call.arguments) (length params)) e in
    let fewer = or-right (nat_lt (length params) (count_read call.arguments)) (call.closed && nat_lt (count_read call.arguments) (length params)) e in
    same-length (length params) (count_read call.arguments) more (ap (λ b. b && nat_lt (count_read call.arguments) (length params)) (sym closed) ∙ fewer)
    ∙ read-all call.arguments whole

counts-fit : (params : List CType) (call : PartialCall) → list_all is_complete_expr call.arguments ≡ true → length params ≡ length call.arguments →
    count_offends call params ≡ false
counts-fit params call whole same =
    rw (read-all call.arguments whole) (rw same (rw (not-longer (length call.arguments)) (and-false call.closed)))

callee-is : (scene : BodyContext) (at : ℕ) (place : Option PartialExpr) (call : PartialCall) (signature : Signature) → HasSignature scene call.function.word signature →
    callee_offences scene at place call ≡ signature_offences scene at place call (Some signature)
callee-is scene at place call signature known =
    ap (λ (o : Option Declared). if is_some o then offence of_type call.function.at ∷ [] else (elim (known_as scene.functions call.function.word) [ Some k ↦ signature_offences scene at place call k.signature | None ↦ offence of_name call.function.at ∷ [] ])) known.no_variable
    ∙ ap (λ o. elim o [ Some k ↦ signature_offences scene at place call k.signature | None ↦ offence of_name call.function.at ∷ [] ]) known.found
    ∙ ap (λ o. signature_offences scene at place call o) known.is

-- the call of a known function in which nothing offends
pub call-fits : (scene : BodyContext) (at : ℕ) (place : Option PartialExpr) (call : PartialCall) (signature : Signature)
    →
    is_complete_place_if place ≡ true → list_all is_complete_expr call.arguments ≡ true → call.closed ≡ true →
    HasSignature scene call.function.word signature →
    call_offences scene at place call ≡ [] → call_fits scene.names (option_map plain_expr place) (map plain_expr call.arguments) (Some signature) ≡ true
call-fits scene at place call signature placed whole closed known none =
    let first = none-both (place_if scene place) (arguments_inner scene call.arguments ++ callee_offences scene at place call) none in
    let second = none-both (arguments_inner scene call.arguments) (callee_offences scene at place call) first.1 in
    let own = sym (callee-is scene at place call signature known) ∙ second.1 in
    let third = none-both (result_offences scene at place call.function signature.result) (only_if (count_offends call signature.params) (offence of_type at) ++ arguments_become scene call.closed signature.params call.arguments) own in
    let fourth = none-both (only_if (count_offends call signature.params) (offence of_type at)) (arguments_become scene call.closed signature.params call.arguments) third.1 in
    let same = counts-agree signature.params call whole closed (none-only (count_offends call signature.params) (offence of_type at) fourth.0) in
    rw (result-fits scene at place call.function signature.result placed first.0 third.0)
    (arguments-fit scene signature.params call.arguments whole same second.0 (ap (λ c. arguments_become scene c signature.params call.arguments) (sym closed) ∙ fourth.1))

-- nothing offends in a call that fits
pub fitting-call : (scene : BodyContext) (at : ℕ) (place : Option PartialExpr) (call : PartialCall) (signature :
    Signature) →
    is_complete_place_if place ≡ true → list_all is_complete_expr call.arguments ≡ true → call.closed ≡ true →
    HasSignature scene call.function.word signature →
    call_fits scene.names (option_map plain_expr place) (map plain_expr call.arguments) (Some signature) ≡ true → call_offences scene at place call ≡ []
fitting-call scene at place call signature placed whole closed known fit =
    let parts = and-both (result_fits scene.names (option_map plain_expr place) signature.result) (fit_all scene.names signature.params (map plain_expr call.arguments)) fit in
    let result = fitting-result scene at place call.function signature.result placed parts.0 in
    let arguments = fitting-arguments scene signature.params call.arguments whole parts.1 in
    both-empty result.none (both-empty arguments.inner (callee-is scene at place call signature known
    ∙ both-empty result.own (both-empty (ap (λ b. only_if b (offence of_type at)) (counts-fit signature.params call whole arguments.same))
    (ap (λ c. arguments_become scene c signature.params call.arguments) closed ∙ arguments.own))))

-- a call that is allowed is of a known function
pub allowed-known : (names : List Declared) (place : Option Expr) (es : List Expr) (o : Option Signature) → call_fits names place es o ≡ true → (signature : Signature) × (o ≡ Some signature)
allowed-known names place es None e = absurd cc
allowed-known names place es (Some signature) e = (signature, refl)

-- Returns.

-- a `return` in a function with this result
pub return-fits : (scene : BodyContext) (at : ℕ) (e : Option PartialExpr) → is_complete_if e ≡ true → scene.has_result ≡ is_some scene.result →
    return_offences scene at e true ≡ [] →
    (elim e [ None ↦ not (is_some scene.result) | Some e ↦ (elim scene.result [ Some to ↦ fits scene.names to (plain_expr e) | None ↦ false ]) ]) ≡ true
return-fits scene at None whole result none = ap not (sym result ∙ none-only scene.has_result (offence of_type at) none)
return-fits scene at (Some e) whole result none =
    let parts = none-both (expr_offences scene e) (if scene.has_result then becomes scene e true scene.result else only_if (not (is_missing e)) (offence of_type at)) none in
    elim scene.result as (λ o. scene.result ≡ o → (elim o [ Some to ↦ fits scene.names to (plain_expr e) | None ↦ false ]) ≡ true) [
      | Some to ↦ λ is. fits-of scene e to whole parts.0
          (ap (λ o. becomes scene e true o) (sym is) ∙ ap (λ (b : Bool). if b then becomes scene e true scene.result else only_if (not (is_missing e)) (offence of_type at)) (sym (result ∙ ap is_some is)) ∙ parts.1)
      | None ↦ λ is. absurd (true-false (ap not (sym (there e whole))
          ∙ none-only (not (is_missing e)) (offence of_type at)
          (ap (λ (b : Bool). if b then becomes scene e true scene.result else only_if (not (is_missing e)) (offence of_type at)) (sym (result ∙ ap is_some is)) ∙ parts.1)))
    ] refl

pub fitting-return : (scene : BodyContext) (at : ℕ) (e : Option PartialExpr) → is_complete_if e ≡ true → scene.has_result ≡ is_some scene.result →
    (elim e [ None ↦ not (is_some scene.result) | Some e ↦ (elim scene.result [ Some to ↦ fits scene.names to (plain_expr e) | None ↦ false ]) ]) ≡ true →
    return_offences scene at e true ≡ []
fitting-return scene at None whole result fit = ap (λ b. only_if b (offence of_type at)) (result ∙ not-false (is_some scene.result) fit) where
  not-false : (b : Bool) → not b ≡ true → b ≡ false
  not-false true e = absurd cc
  not-false false e = refl
fitting-return scene at (Some e) whole result fit = elim scene.result as (λ o. scene.result ≡ o → (elim o [ Some to ↦ fits scene.names to (plain_expr e) | None ↦ false ]) ≡ true → return_offences scene at (Some e) true ≡ []) [
  | Some to ↦ λ is fit. let b = becomes-of scene e to whole fit in
      both-empty b.none (ap (λ (c : Bool). if c then becomes scene e true scene.result else only_if (not (is_missing e)) (offence of_type at)) (result ∙ ap is_some is)
      ∙ ap (λ o. becomes scene e true o) is ∙ b.own)
  | None ↦ λ _ bad. absurd cc
] refl fit
