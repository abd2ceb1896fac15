-- The values of the arguments of a call.
use Rattle.std.proofs.Common.{◌≡◌, ℕ, zero, suc, ◌+◌, ◌<◌, ◌≤◌, List, [], ◌∷◌, ◌++◌, length, map, drop, get_or, refl, sym, ap, ◌∙◌, subst, append_assoc, arith}
use Rattle.std.specs.Prelude.{Result, Ok, Err, Vec}
use Rattle.std.specs.Global.{Global}
use Rattle.std.specs.Result.{IsErrAnd}
use Rattle.std.proofs.lemmas.List.{at_drop_more, drop_all, length-drop}
use Rattle.dcc_c.specs.declared.syntax.CType.{CType}
use Rattle.dcc_c.specs.Tree.{Expr}
use Rattle.dcc_c.specs.Value.{Value, converted, Outcome, Gives, Divides, Undefined, and_then, value_of, Scope}
use Rattle.dcc_c.specs.Run.{arguments_of}
use Rattle.dcc_value.specs.declared.value.Value.{Value as Held}
use Rattle.dcc_value.specs.declared.value.NoValue.{NoValue}
use Rattle.dcc_value.specs.declared.value.NoValue.TheVariants.{Divides as Faults, Undefined as Meaningless}
use Rattle.dcc_crun.specs.declared.ending.Stop.{Stop}
use Rattle.dcc_value.specs.declared.expression.Resolved.{Resolved}
use Rattle.dcc_prepare.specs.declared.program.Variable.{Variable}
use Rattle.dcc_value.specs.Evaluation.{nothing_of}
use Rattle.dcc_crun.specs.Ending.{stop_of}
use Rattle.dcc_value.specs.Resolved.{Names, Contents, Fits, scope_over, evaluated}
use Rattle.dcc_prepare.specs.Points.{StandAll}
use Rattle.dcc_crun.specs.Doing.{resolved_arguments, ArgumentsAre}

-- what the resolved arguments come to is what the arguments do
pub arguments_are : (names : Names) (scene : Contents) (types : List CType) (es : List Expr) (rs : List Resolved) → StandAll names es rs → Fits names scene →
    resolved_arguments scene types rs ≡ arguments_of (scope_over names scene) types es
arguments_are names scene [] [] [] stand fits = refl
arguments_are names scene (t ∷ types) [] [] stand fits = refl
arguments_are names scene [] (e ∷ es) (r ∷ rs) stand fits = refl
arguments_are names scene (t ∷ types) (e ∷ es) (r ∷ rs) stand fits =
    ap (λ o. and_then (λ v. and_then (λ vs. Gives (converted t v ∷ vs)) (resolved_arguments scene types rs)) o) (stand.0.value scene fits)
    ∙ ap (λ o. and_then (λ v. and_then (λ vs. Gives (converted t v ∷ vs)) o) (value_of (scope_over names scene) e)) (arguments_are names scene types es rs stand.1 fits)
arguments_are names scene types [] (r ∷ rs) stand fits = absurd stand
arguments_are names scene types (e ∷ es) [] stand fits = absurd stand

-- One argument more.

gather : (o : Outcome (List Value)) (had : List Value) (v : Value) →
    and_then (λ vs. Gives (had ++ vs)) (and_then (λ vs. Gives (v ∷ vs)) o) ≡ and_then (λ vs. Gives ((had ++ v ∷ []) ++ vs)) o
gather (Gives vs) had v = ap Gives (sym (append_assoc had (v ∷ []) vs))
gather Divides had v = refl
gather Undefined had v = refl

-- the argument that comes next has this outcome
argument_next : (scene : Contents) (types : List CType) (rs : List Resolved) (i : ℕ) (type d : CType) (r : Resolved) (had : List Value) (o : Outcome Value) →
    i < length types → i < length rs → type ≡ get_or types i d → r ≡ get_or rs i r → evaluated scene r ≡ o →
    and_then (λ vs. Gives (had ++ vs)) (resolved_arguments scene (drop i types) (drop i rs))
    ≡ and_then (λ vs. Gives (had ++ vs)) (and_then (λ v. and_then (λ vs. Gives (converted type v ∷ vs)) (resolved_arguments scene (drop (i + 1) types) (drop (i + 1) rs))) o)
argument_next scene types rs i type d r had o within inside is has value =
    let all : Outcome (List Value) → Outcome (List Value) = and_then (λ vs. Gives (had ++ vs)) in
    at_drop_more (λ l. all (resolved_arguments scene l (drop i rs))) types i d within
    ∙ ap (λ t. all (resolved_arguments scene (t ∷ drop (i + 1) types) (drop i rs))) (sym is)
    ∙ at_drop_more (λ l. all (resolved_arguments scene (type ∷ drop (i + 1) types) l)) rs i r inside
    ∙ ap (λ x. all (resolved_arguments scene (type ∷ drop (i + 1) types) (x ∷ drop (i + 1) rs))) (sym has)
    ∙ ap (λ o. all (and_then (λ v. and_then (λ vs. Gives (converted type v ∷ vs)) (resolved_arguments scene (drop (i + 1) types) (drop (i + 1) rs))) o)) value

pub argument_step : (scene : Contents) (types : List CType) (rs : List Resolved) (i : ℕ) (type d : CType) (r : Resolved) (had : List Value) (v : Value) →
    i < length types → i < length rs → type ≡ get_or types i d → r ≡ get_or rs i r → evaluated scene r ≡ Gives v →
    and_then (λ vs. Gives (had ++ vs)) (resolved_arguments scene (drop i types) (drop i rs))
    ≡ and_then (λ vs. Gives ((had ++ converted type v ∷ []) ++ vs)) (resolved_arguments scene (drop (i + 1) types) (drop (i + 1) rs))
argument_step scene types rs i type d r had v within inside is has value =
    argument_next scene types rs i type d r had (Gives v) within inside is has value
    ∙ gather (resolved_arguments scene (drop (i + 1) types) (drop (i + 1) rs)) had (converted type v)

-- an argument that gives nothing
pub argument_fails : (scene : Contents) (types : List CType) (rs : List Resolved) (i : ℕ) (type d : CType) (r : Resolved) (had : List Value) (why : NoValue) →
    i < length types → i < length rs → type ≡ get_or types i d → r ≡ get_or rs i r → evaluated scene r ≡ nothing_of why →
    and_then (λ vs. Gives (had ++ vs)) (resolved_arguments scene (drop i types) (drop i rs)) ≡ nothing_of why
argument_fails scene types rs i type d r had why within inside is has value =
    argument_next scene types rs i type d r had (nothing_of why) within inside is has value ∙ fails why
  where
    fails : (why : NoValue) → and_then (λ vs. Gives (had ++ vs)) (and_then (λ w. and_then (λ vs. Gives (converted type w ∷ vs)) (resolved_arguments scene (drop (i + 1) types) (drop (i + 1) rs))) (nothing_of why)) ≡ nothing_of why
    fails Faults = refl
    fails Meaningless = refl

-- parameters are left
pub arguments_wanting : (scene : Contents) (types : List CType) (rs : List Resolved) (i : ℕ) (had : List Value) → length rs ≤ i → i < length types →
    and_then (λ vs. Gives (had ++ vs)) (resolved_arguments scene (drop i types) (drop i rs)) ≡ Undefined
arguments_wanting scene types rs i had past within =
    ap (λ l. and_then (λ vs. Gives (had ++ vs)) (resolved_arguments scene (drop i types) l)) (drop_all i rs past)
    ∙ no_arguments (drop i types) (omega (arith, length-drop i types))
  where
    no_arguments : (left : List CType) → 0 < length left → and_then (λ vs. Gives (had ++ vs)) (resolved_arguments scene left []) ≡ Undefined
    no_arguments [] some = absurd (omega arith)
    no_arguments (t ∷ left) some = refl

-- all arguments have their values
pub arguments_all : (scene : Contents) (types : List CType) (rs : List Resolved) (i : ℕ) (had : List Value) → length rs ≤ i → length types ≤ i →
    and_then (λ vs. Gives (had ++ vs)) (resolved_arguments scene (drop i types) (drop i rs)) ≡ Gives (had ++ [])
arguments_all scene types rs i had past all =
    ap (λ l. and_then (λ vs. Gives (had ++ vs)) (resolved_arguments scene (drop i types) l)) (drop_all i rs past)
    ∙ ap (λ l. and_then (λ vs. Gives (had ++ vs)) (resolved_arguments scene l [])) (drop_all i types all)

-- an argument is left
pub arguments_more : (scene : Contents) (types : List CType) (rs : List Resolved) (i : ℕ) (had : List Value) → length types ≤ i → i < length rs →
    and_then (λ vs. Gives (had ++ vs)) (resolved_arguments scene (drop i types) (drop i rs)) ≡ Undefined
arguments_more scene types rs i had all within =
    ap (λ l. and_then (λ vs. Gives (had ++ vs)) (resolved_arguments scene l (drop i rs))) (drop_all i types all)
    ∙ some_more (drop i rs) (omega (arith, length-drop i rs))
  where
    some_more : (left : List Resolved) → 0 < length left → and_then (λ vs. Gives (had ++ vs)) (resolved_arguments scene [] left) ≡ Undefined
    some_more [] some = absurd (omega arith)
    some_more (r ∷ left) some = refl

pub arguments_err : (r : Result (Vec Held Global) Stop) (why : NoValue) (o : Outcome (List Value)) → IsErrAnd r (λ y. y ≡ stop_of why) → o ≡ nothing_of why → ArgumentsAre r o
arguments_err (Ok vs) why o is none = absurd is
arguments_err (Err y) Faults o is none = subst (λ x. ArgumentsAre (Err x) o) (sym is) none
arguments_err (Err y) Meaningless o is none = subst (λ x. ArgumentsAre (Err x) o) (sym is) none

-- as many values as parameters
pub arguments_length : (scope : Scope) (types : List CType) (es : List Expr) (vs : List Value) → arguments_of scope types es ≡ Gives vs → length vs ≡ length types
arguments_length scope [] [] vs is = let same : [] ≡ vs = cc in ap length (sym same)
arguments_length scope [] (e ∷ es) vs is = cc
arguments_length scope (t ∷ types) [] vs is = cc
arguments_length scope (t ∷ types) (e ∷ es) vs is = one (value_of scope e) (arguments_of scope types es) is (arguments_length scope types es)
  where
    one : (o : Outcome Value) (p : Outcome (List Value)) → and_then (λ v. and_then (λ ws. Gives (converted t v ∷ ws)) p) o ≡ Gives vs →
        ((ws : List Value) → p ≡ Gives ws → length ws ≡ length types) → length vs ≡ suc (length types)
    one (Gives v) (Gives ws) is all =
        let same : converted t v ∷ ws ≡ vs = cc in
        ap length (sym same) ∙ ap suc (all ws refl)
    one (Gives v) Divides is all = cc
    one (Gives v) Undefined is all = cc
    one Divides p is all = cc
    one Undefined p is all = cc

-- the type of a parameter
pub type_at : (params : List Variable) (i : ℕ) (v : Variable) → i < length params → v ≡ get_or params i v → v.ty ≡ get_or (map (λ (p : Variable). p.ty) params) i v.ty
type_at [] i v within is = absurd (omega arith)
type_at (p ∷ params) zero v within is = ap (λ (x : Variable). x.ty) is
type_at (p ∷ params) (suc i) v within is = type_at params i v (omega arith) is
