-- What the variables of a call are kept as: from its beginning on, whatever they take.
use Rattle.std.proofs.Common.{◌≡◌, ℕ, ◌+◌, ◌*◌, ◌%◌, ◌^◌, ◌<◌, Bool, true, false, ◌||◌, not, List, [], ◌∷◌, ◌++◌, map, Option, Some, None, refl, sym, ap, ◌∙◌, subst, arith, mod-lt}
use Rattle.std.specs.Prelude.{if◌then◌else◌, is_some}
use Rattle.std.specs.List.{AllZip}
use Rattle.std.proofs.lemmas.Nat.{pow_pos}
use Rattle.dcc_c.specs.declared.syntax.Base.TheVariants.{Int}
use Rattle.dcc_c.specs.declared.syntax.CType.{CType}
use Rattle.dcc_c.specs.Token.{same_bytes}
use Rattle.dcc_c.specs.Types.{bits_of, number_of_type}
use Rattle.dcc_c.specs.Tree.{Word, Expr, Lines, Variable, Function}
use Rattle.dcc_c.specs.Typing.{Declared}
use Rattle.dcc_c.specs.Value.{Value, number, converted, Outcome, Gives, Divides, Undefined, and_then, Unplaced, Binding, after_assignment, Scope, value_of}
use Rattle.dcc_c.specs.Placement.{is_auto, is_register, bytes_of, below, wants_place, param_places, local_places, params_of_call, locals_of_call}
use Rattle.dcc_c.specs.Rules.{declared_param, declared_local}
use Rattle.dcc_c.specs.Run.{variable_binding, local_bindings, param_bindings, frame_of, arguments_of, param_types}
use Rattle.dcc_progress.proofs.Frames.{own_declared}
use Rattle.dcc_respell.specs.Respelled.{IsKept}

-- the value has the bits of the type
abbrev pub IsWithin : CType → Value → Type 0
IsWithin type v = v.bits < 2 ^ bits_of (number_of_type type)

pub becomes-within : (type : CType) (v : Value) → IsWithin type (converted type v)
becomes-within type v = mod-lt _ (pow_pos (bits_of (number_of_type type)))

same-bits : {n m : ℕ} → Unplaced n ≡ Unplaced m → n ≡ m
same-bits e = cc

by-itself : (d : Declared) (name : Word) (type : CType) (array : Bool) (n : ℕ) → n < 2 ^ bits_of (number_of_type type) →
    IsKept d (record { name = name; type = type; is_array = array; storage = Unplaced n })
by-itself d name type array n small = record {
  unplaced = λ is. refl;
  within = λ bits same. subst (λ k. k < 2 ^ bits_of (number_of_type type)) (same-bits same) small;
}

-- a variable that takes a value
pub kept-assigned : (ds : List Declared) (bs : List Binding) (word : Word) (v : Value) → AllZip IsKept ds bs → AllZip IsKept ds (after_assignment bs word v)
kept-assigned [] [] word v are = tt
kept-assigned [] (b ∷ bs) word v are = absurd are
kept-assigned (d ∷ ds) [] word v are = absurd are
kept-assigned (d ∷ ds) (b ∷ bs) word v are = by (same_bytes b.name word) (kept-assigned ds bs word v are.1)
  where
    by : (p : Bool) → AllZip IsKept ds (after_assignment bs word v) →
        AllZip IsKept (d ∷ ds) (if p then record b { storage = Unplaced (converted b.type v).bits } ∷ bs else b ∷ after_assignment bs word v)
    by true others = (by-itself d b.name b.type b.is_array _ (becomes-within b.type v), are.1)
    by false others = (are.0, others)

-- A call that begins.

begun : (d : Declared) (v : Variable) (place : Option ℕ) (n : ℕ) → (is_some place ≡ true → d.is_placed ≡ true) → n < 2 ^ bits_of (number_of_type v.type) → IsKept d (variable_binding v place n)
begun d v None n placed small = by-itself d v.name v.type (is_some v.len) n small
begun d v (Some at) n placed small = record {
  unplaced = λ is. let no : true ≡ false = sym (placed refl) ∙ is in absurd cc;
  within = λ bits same. absurd cc;
}

params-kept : (body : Lines) (base number : ℕ) (placed : Bool) (vs : List Variable) (xs : List Value) → AllZip IsWithin (map (λ v. v.type) vs) xs →
    AllZip IsKept (map declared_param vs) (param_bindings vs (param_places body base number placed vs) xs)
params-kept body base number placed [] [] are = tt
params-kept body base number placed [] (x ∷ xs) are = absurd are
params-kept body base number placed (v ∷ vs) [] are = absurd are
params-kept body base number placed (v ∷ vs) (x ∷ xs) are =
    by (is_register v.class) (placed || wants_place body v) refl (λ n p. params-kept body base n p vs xs are.1)
  where
    by : (r w : Bool) → is_register v.class ≡ r → ((n : ℕ) (p : Bool) → AllZip IsKept (map declared_param vs) (param_bindings vs (param_places body base n p vs) xs)) →
        AllZip IsKept (map declared_param (v ∷ vs)) (param_bindings (v ∷ vs)
        (if r then None ∷ param_places body base number placed vs else if w then Some ((base + 2 * number) % 65536) ∷ param_places body base (number + 1) true vs else None ∷ param_places body base (number + 1) false vs) (x ∷ xs))
    by true w is others = (begun (declared_param v) v None x.bits (λ no. absurd cc) are.0, others number placed)
    by false true is others = (begun (declared_param v) v (Some _) x.bits (λ yes. ap not is) are.0, others (number + 1) true)
    by false false is others = (begun (declared_param v) v None x.bits (λ no. absurd cc) are.0, others (number + 1) false)

locals-kept : (fill base used : ℕ) (vs : List Variable) → AllZip IsKept (map declared_local vs) (local_bindings fill vs (local_places base used vs))
locals-kept fill base used [] = tt
locals-kept fill base used (v ∷ vs) = by (is_auto v.class) refl (λ n. locals-kept fill base n vs)
  where
    by : (a : Bool) → is_auto v.class ≡ a → ((n : ℕ) → AllZip IsKept (map declared_local vs) (local_bindings fill vs (local_places base n vs))) →
        AllZip IsKept (map declared_local (v ∷ vs)) (local_bindings fill (v ∷ vs) (if a then Some (below base (used + bytes_of v.type v.len)) ∷ local_places base (used + bytes_of v.type v.len) vs else None ∷ local_places base used vs))
    by true is others = (begun (declared_local v) v (Some _) _ (λ yes. is) (becomes-within v.type (number Int fill)), others (used + bytes_of v.type v.len))
    by false is others = (begun (declared_local v) v None _ (λ no. absurd cc) (becomes-within v.type (number Int fill)), others used)

kept-both : (ds es : List Declared) (bs cs : List Binding) → AllZip IsKept ds bs → AllZip IsKept es cs → AllZip IsKept (ds ++ es) (bs ++ cs)
kept-both [] es [] cs are also = also
kept-both [] es (b ∷ bs) cs are also = absurd are
kept-both (d ∷ ds) es [] cs are also = absurd are
kept-both (d ∷ ds) es (b ∷ bs) cs are also = (are.0, kept-both ds es bs cs are.1 also)

pub frame-kept : (f : Function) (base fill : ℕ) (xs : List Value) → AllZip IsWithin (param_types f) xs → AllZip IsKept (own_declared f) (frame_of f base fill xs).variables
frame-kept f base fill xs are =
    kept-both (map declared_param f.params) (map declared_local f.locals) (param_bindings f.params (params_of_call f base) xs) (local_bindings fill f.locals (locals_of_call f base))
    (params-kept f.body base 0 false f.params xs are) (locals-kept fill base 4 f.locals)

-- the arguments have the bits of their types
pub arguments-within : (scope : Scope) (types : List CType) (es : List Expr) (vs : List Value) → arguments_of scope types es ≡ Gives vs → AllZip IsWithin types vs
arguments-within scope [] [] [] is = tt
arguments-within scope [] [] (v ∷ vs) is = absurd cc
arguments-within scope [] (e ∷ es) vs is = absurd cc
arguments-within scope (type ∷ types) [] vs is = absurd cc
arguments-within scope (type ∷ types) (e ∷ es) vs is = by (value_of scope e) (arguments_of scope types es) (arguments-within scope types es) vs is
  where
    by : (o : Outcome Value) (p : Outcome (List Value)) → ((ws : List Value) → p ≡ Gives ws → AllZip IsWithin types ws) →
        (vs : List Value) → and_then (λ v. and_then (λ ws. Gives (converted type v ∷ ws)) p) o ≡ Gives vs → AllZip IsWithin (type ∷ types) vs
    by (Gives v) (Gives ws) others vs is =
        let same : converted type v ∷ ws ≡ vs = given is in
        subst (AllZip IsWithin (type ∷ types)) same (becomes-within type v, others ws refl)
      where
        given : {xs ys : List Value} → Gives xs ≡ Gives ys → xs ≡ ys
        given e = cc
    by (Gives v) Divides others vs is = absurd cc
    by (Gives v) Undefined others vs is = absurd cc
    by Divides p others vs is = absurd cc
    by Undefined p others vs is = absurd cc
