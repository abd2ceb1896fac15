-- The names of global variables stand for them, in a function that has no variable of such a name.
use Rattle.std.proofs.Common.{◌≡◌, ℕ, zero, suc, ◌≤◌, Bool, true, false, ◌&&◌, ◌||◌, not, List, [], ◌∷◌, ◌++◌, map, Option, Some, None, refl, sym, ap, ◌∙◌, subst, append_assoc, arith}
use Rattle.std.specs.Prelude.{if◌then◌else◌, ◌==◌}
use Rattle.std.proofs.lemmas.Bool.{and_parts, eqb-true, or_left}
use Rattle.dcc_c.specs.Token.{same_bytes}
use Rattle.dcc_c.specs.Grammar.{is_among}
use Rattle.dcc_c.specs.Tree.{Word, Global, Variable, Function, Tree, Lines}
use Rattle.dcc_c.specs.Typing.{Declared, declared_as}
use Rattle.dcc_c.specs.Rules.{all_differ, names_of, own_variables, known_names, declared_param, declared_local, declared_global, declared_in, IsAllowedFunction}
use Rattle.dcc_c.specs.Value.{Binding, declared_by, variable_in}
use Rattle.dcc_c.specs.Run.{global_binding}
use Rattle.dcc_c.proofs.NameLaws.{same_bytes-equal, same_bytes-refl}
use Rattle.dcc_check.proofs.MapLaws.{declared-append}
use Rattle.dcc_check.specs.Declarations.{first_found}
use Rattle.dcc_progress.proofs.Bodies.{any_left, any_right}
use Rattle.dcc_progress.proofs.Declarations.{AreAs}
use Rattle.dcc_progress.proofs.Frames.{own_declared}
use Rattle.dcc_named.specs.Named.{begins_at, begins_before}
use Rattle.dcc_named.proofs.Operands.{some-same}

-- Offsets.

-- a variable that begins before an offset begins at one
pub before-begins : (gs : List Global) (at : ℕ) (g : Global) → begins_before gs at ≡ Some g → (below : ℕ) × (below ≤ at) × (begins_at gs below ≡ Some g)
before-begins gs zero g is = (zero, omega arith, is)
before-begins gs (suc at) g is = by (begins_at gs (suc at)) refl (before-begins gs at g) is
  where
    by : (o : Option Global) → begins_at gs (suc at) ≡ o → (begins_before gs at ≡ Some g → (below : ℕ) × (below ≤ at) × (begins_at gs below ≡ Some g)) → elim o [ Some h ↦ Some h | None ↦ begins_before gs at ] ≡ Some g →
        (below : ℕ) × (below ≤ suc at) × (begins_at gs below ≡ Some g)
    by (Some h) here more is = (suc at, omega arith, here ∙ is)
    by None here more is = let found = more is in (found.0, omega (arith, found.1), found.2)

-- Names.

-- What the name of a global variable stands for.
pub record Stands (gs : List Global) (g : Global) : Type 0 where
  pub found : variable_in (map global_binding gs) g.name ≡ Some (global_binding g)
  pub declared : declared_as (map declared_global gs) g.name ≡ Some (declared_global g)
  pub among : is_among (map (λ h. h.name) gs) g.name ≡ true

not-both : (b : Bool) → b ≡ true → not b ≡ true → ⊥
not-both true is other = absurd cc
not-both false is other = absurd cc

stands-first : (h : Global) (gs : List Global) → Stands (h ∷ gs) h
stands-first h gs = record {
  found = ap (λ b. if b then Some (global_binding h) else variable_in (map global_binding gs) h.name) (same_bytes-refl h.name);
  declared = ap (λ b. if b then Some (declared_global h) else declared_as (map declared_global gs) h.name) (same_bytes-refl h.name);
  among = or_left (same_bytes h.name h.name) _ (same_bytes-refl h.name);
}

-- a name that stands in a list is no other one that doesn't
other-name : (words : List Word) (word name : Word) → is_among words word ≡ true → not (is_among words name) ≡ true → (b : Bool) → same_bytes name word ≡ b → b ≡ false
other-name words word name there alone false is = refl
other-name words word name there alone true is =
    absurd (not-both (is_among words name) (ap (is_among words) (same_bytes-equal name word is) ∙ there) alone)

or-true : (a b : Bool) → b ≡ true → (a || b) ≡ true
or-true true b is = refl
or-true false b is = is

stands-later : (h : Global) (gs : List Global) (g : Global) → not (is_among (map (λ x. x.name) gs) h.name) ≡ true → Stands gs g → Stands (h ∷ gs) g
stands-later h gs g alone is =
    let other : same_bytes h.name g.name ≡ false = other-name (map (λ x. x.name) gs) g.name h.name is.among alone (same_bytes h.name g.name) refl in record {
      found = ap (λ b. if b then Some (global_binding h) else variable_in (map global_binding gs) g.name) other ∙ is.found;
      declared = ap (λ b. if b then Some (declared_global h) else declared_as (map declared_global gs) g.name) other ∙ is.declared;
      among = or-true (same_bytes g.name h.name) _ is.among;
    }

pub begins-stands : (gs : List Global) (at : ℕ) (g : Global) → all_differ (map (λ h. h.name) gs) ≡ true → begins_at gs at ≡ Some g → (g.at ≡ at) × Stands gs g
begins-stands [] at g differ is = absurd cc
begins-stands (h ∷ gs) at g differ is =
    let parts = and_parts (not (is_among (map (λ x. x.name) gs) h.name)) (all_differ (map (λ x. x.name) gs)) differ in
    by (h.at == at) refl parts.0 (begins-stands gs at g parts.1) is
  where
    by : (b : Bool) → (h.at == at) ≡ b → not (is_among (map (λ x. x.name) gs) h.name) ≡ true → (begins_at gs at ≡ Some g → (g.at ≡ at) × Stands gs g) → (if b then Some h else begins_at gs at) ≡ Some g → (g.at ≡ at) × Stands (h ∷ gs) g
    by true here alone more is = subst (λ x. (x.at ≡ at) × Stands (h ∷ gs) x) (some-same is) (eqb-true h.at at here, stands-first h gs)
    by false here alone more is = let found = more is in (found.0, stands-later h gs g alone found.1)

-- A function's own variables.

-- words that differ from those of a list are none of them
pub differs-from : (us ws : List Word) (word : Word) → all_differ (us ++ ws) ≡ true → is_among ws word ≡ true → is_among us word ≡ false
differs-from [] ws word differ there = refl
differs-from (u ∷ us) ws word differ there =
    let parts = and_parts (not (is_among (us ++ ws) u)) (all_differ (us ++ ws)) differ in
    by (same_bytes word u) refl parts.0 (differs-from us ws word parts.1 there)
  where
    by : (b : Bool) → same_bytes word u ≡ b → not (is_among (us ++ ws) u) ≡ true → is_among us word ≡ false → (b || is_among us word) ≡ false
    by false is alone more = more
    by true is alone more =
        absurd (not-both (is_among (us ++ ws) u) (ap (is_among (us ++ ws)) (sym (same_bytes-equal word u is)) ∙ any_right (same_bytes word) us ws there) alone)

turned : (a b : Word) (s : Bool) → same_bytes a b ≡ false → same_bytes b a ≡ s → s ≡ false
turned a b false other is = refl
turned a b true other is =
    absurd (not-both (same_bytes a b) (ap (λ w. same_bytes w b) (sym (same_bytes-equal b a is)) ∙ same_bytes-refl b) (ap not other))

or-parts : (a b : Bool) → (a || b) ≡ false → (a ≡ false) × (b ≡ false)
or-parts false b is = (refl, is)
or-parts true b is = absurd cc

none-declared : (h : Variable → Declared) → ((v : Variable) → (h v).name ≡ v.name) → (vs : List Variable) (es : List Declared) (word : Word) → is_among (names_of vs) word ≡ false → declared_as (map h vs ++ es) word ≡ declared_as es word
none-declared h named [] es word none = refl
none-declared h named (v ∷ vs) es word none =
    let parts = or-parts (same_bytes word v.name) (is_among (names_of vs) word) none in
    let other : same_bytes (h v).name word ≡ false = ap (λ n. same_bytes n word) (named v) ∙ turned word v.name (same_bytes v.name word) parts.0 refl in
    ap (λ b. if b then Some (h v) else declared_as (map h vs ++ es) word) other ∙ none-declared h named vs es word parts.1

among-parts : (ps ls : List Variable) (word : Word) → is_among (names_of (ps ++ ls)) word ≡ false → (is_among (names_of ps) word ≡ false) × (is_among (names_of ls) word ≡ false)
among-parts [] ls word none = (refl, none)
among-parts (p ∷ ps) ls word none =
    let parts = or-parts (same_bytes word p.name) (is_among (names_of (ps ++ ls)) word) none in
    let more = among-parts ps ls word parts.1 in
    (ap (λ b. b || is_among (names_of ps) word) parts.0 ∙ more.0, more.1)

-- no variable of a function has the name of a global one
pub own-none : (tree : Tree) (f : Function) (word : Word) → IsAllowedFunction tree f → is_among (map (λ g. g.name) tree.globals) word ≡ true → declared_as (own_declared f) word ≡ None
own-none tree f word allowed there =
    let none = differs-from (names_of (own_variables f)) (known_names tree) word allowed.own_names (any_left (same_bytes word) (map (λ g. g.name) tree.globals) _ there) in
    let parts = among-parts f.params f.locals word none in
    none-declared declared_param (λ v. refl) f.params (map declared_local f.locals) word parts.0
    ∙ ap (λ ds. declared_as ds word) (sym (append-nothing (map declared_local f.locals)))
    ∙ none-declared declared_local (λ v. refl) f.locals [] word parts.1
  where
    append-nothing : {A : Type 0} (xs : List A) → xs ++ [] ≡ xs
    append-nothing [] = refl
    append-nothing (x ∷ xs) = ap (λ ys. x ∷ ys) (append-nothing xs)

-- what is declared of a name that no variable of the function has
pub declared-beyond : (tree : Tree) (f : Function) (word : Word) → declared_as (own_declared f) word ≡ None → declared_as (declared_in tree f) word ≡ declared_as (map declared_global tree.globals) word
declared-beyond tree f word none =
    ap (λ ds. declared_as ds word) (sym (append_assoc (map declared_param f.params) (map declared_local f.locals) (map declared_global tree.globals)))
    ∙ declared-append (own_declared f) (map declared_global tree.globals) word
    ∙ ap (λ o. first_found o (declared_as (map declared_global tree.globals) word)) none

pub found-beyond : (body : Lines) (ds : List Declared) (xs ys : List Binding) (word : Word) → AreAs body ds (map declared_by xs) → declared_as ds word ≡ None → variable_in (xs ++ ys) word ≡ variable_in ys word
found-beyond body [] [] ys word is none = refl
found-beyond body (d ∷ ds) (x ∷ xs) ys word is none =
    by (same_bytes d.name word) (same_bytes x.name word) (ap (λ n. same_bytes n word) is.0.name) (found-beyond body ds xs ys word is.1) none
  where
    by : (a b : Bool) → a ≡ b → (declared_as ds word ≡ None → variable_in (xs ++ ys) word ≡ variable_in ys word) → (if a then Some d else declared_as ds word) ≡ None → (if b then Some x else variable_in (xs ++ ys) word) ≡ variable_in ys word
    by true b same more none = absurd cc
    by false true same more none = absurd cc
    by false false same more none = more none
found-beyond body [] (x ∷ xs) ys word is none = absurd is
found-beyond body (d ∷ ds) [] ys word is none = absurd is
