-- How a function and a text are made ready to run.
use Rattle.std.proofs.Common.{◌≡◌, ◌⊎◌, inl, inr, ℕ, suc, ◌+◌, ◌%◌, ◌<◌, ◌≤◌, true, false, drop, get_or, string_bytes, Bool, List, [], ◌∷◌, ◌++◌, length, map, Option, None, Some, refl, sym, ap, ◌∙◌, subst}
use Rattle.std.specs.Prelude.{is_some, option_map, slice_get, if◌then◌else◌}
use Rattle.std.proofs.lemmas.List.{at_drop_more, drop_all}
use Rattle.dcc_c.specs.declared.syntax.Func.{Func}
use Rattle.dcc_c.specs.declared.syntax.Var.{Var}
use Rattle.dcc_c.specs.Token.{same_bytes}
use Rattle.dcc_c.specs.Views.{variable_of, function_of}
use Rattle.dcc_c.specs.Typing.{Declared}
use Rattle.dcc_c.specs.Tree.{Word, Function, Tree}
use Rattle.dcc_c.specs.Run.{Continuation, runs, ends_function, from_label, function_in}
use Rattle.dcc_prepare.specs.declared.program.Action.TheVariants.{Close}
use Rattle.dcc_prepare.specs.declared.program.Variable.{Variable}
use Rattle.dcc_prepare.specs.declared.program.Label.{Label}
use Rattle.dcc_prepare.specs.declared.program.Row.{Row}
use Rattle.dcc_prepare.specs.declared.code.Code.{Code}
use Rattle.dcc_prepare.specs.Points.{Goes, MayGo, point_named, declared_with, AreRows}
use Rattle.dcc_prepare.specs.Emission.{Relabels, Emits, Leads}
use Rattle.dcc_prepare.specs.Programs.{none_open, place_in, Kind, kind_of, declared_kind}
use Rattle.dcc_prepare.specs.Prepared.{IsBody, name_declared, names_declared}
use Rattle.dcc_value.specs.Places.{first_place}
use Rattle.dcc_prepare.proofs.EmissionLaws.{pushed}

-- no points
pub no_rows : (tree : Tree) (f : Function) (rows : List Row) (labels : List Label) → rows ≡ [] → AreRows tree f none_open [] rows labels
no_rows tree f rows labels none = record {
  same = ap length (sym none);
  acts = λ at rest row here has shut. cc;
}

-- the closing brace
pub closes : (tree : Tree) (f : Function) (before now : Code) (at line : ℕ) → before.rows.items ≡ [] →
    at ≡ length before.rows.items → now.rows.items ≡ before.rows.items ++ record { action = Close; line = line } ∷ [] → now.labels ≡ before.labels →
    Emits tree f none_open [] before now (λ word. None) at (ends_function line)
closes tree f before now at line none place rows labels =
    pushed tree f none_open [] before now (ends_function line) line at Close (no_rows tree f before.rows.items before.labels.items none)
    (record { in_line = refl; acts = record { does = λ s. refl } }) place rows labels

-- after the body there is the closing brace, and nothing to break or to continue
pub body_leads : (tree : Tree) (points : List Continuation) (at line : ℕ) → Goes tree points at (ends_function line) →
    Leads tree points (record { next = at; on_break = None; on_continue = None }) (ends_function line)
body_leads tree points at line goes = record { next = goes; on_break = tt; on_continue = tt }

labels_found : (tree : Tree) (points : List Continuation) (before mid now : List Label) (word : Word) (found : Option Continuation) → before ≡ [] → mid ≡ before →
    Relabels tree points mid now word found → MayGo tree points (point_named now word) found
labels_found tree points before mid now word (Some rest) none same is =
    subst (λ o. MayGo tree points o (Some rest)) (sym is.1) is.2
labels_found tree points before mid now word None none same is =
    subst (λ o. MayGo tree points o None) (sym (is ∙ ap (λ l. point_named l word) (same ∙ none))) tt

pub body_is : (tree : Tree) (f : Function) (before mid now : Code) (entry : ℕ) (points : List Continuation) → before.labels.items ≡ [] → mid.labels ≡ before.labels →
    Emits tree f none_open points mid now (λ word. from_label word f.body (ends_function f.last)) entry (runs f.body (ends_function f.last)) → IsBody tree f now entry
body_is tree f before mid now entry points none same emits = record {
  points = emits.grows.grown;
  rows = emits.grows.rows;
  labels = λ word. labels_found tree emits.grows.grown before.labels.items mid.labels.items now.labels.items word (from_label word f.body (ends_function f.last)) none (ap (λ v. v.items) same) (emits.grows.labels word);
  begins = emits.goes;
}

-- Names.

pub names_are : (vs : List Var) (xs : List Variable) (firsts : List (Option ℕ)) → map kind_of xs ≡ map declared_kind (map variable_of vs) → map (place_in 0) xs ≡ firsts →
    names_declared vs xs ≡ declared_with (map variable_of vs) firsts
names_are [] [] firsts kinds places = subst (λ fs. [] ≡ declared_with [] fs) places refl
names_are [] (x ∷ xs) firsts kinds places = cc
names_are (v ∷ vs) [] firsts kinds places = cc
names_are (v ∷ vs) (x ∷ xs) [] kinds places = cc
names_are (v ∷ vs) (x ∷ xs) (p ∷ firsts) kinds places =
    let kind : kind_of x ≡ declared_kind (variable_of v) = first_kind _ _ _ _ kinds in
    let place : place_in 0 x ≡ p = first_place _ _ _ _ places in
    let make : Kind → Bool → Declared = λ k placed. record { name = string_bytes v.name; type = k.type; is_array = k.is_array; is_placed = placed } in
    ap (λ k. make k (is_some x.offset) ∷ names_declared vs xs) kind
    ∙ ap (λ b. make (declared_kind (variable_of v)) b ∷ names_declared vs xs) (some_place x.offset ∙ ap is_some place)
    ∙ ap (λ l. make (declared_kind (variable_of v)) (is_some p) ∷ l) (names_are vs xs firsts (rest_kinds _ _ _ _ kinds) (rest_places _ _ _ _ places))
  where
    first_kind : (a b : Kind) (as_ bs : List Kind) → a ∷ as_ ≡ b ∷ bs → a ≡ b
    first_kind a b as_ bs is = cc

    rest_kinds : (a b : Kind) (as_ bs : List Kind) → a ∷ as_ ≡ b ∷ bs → as_ ≡ bs
    rest_kinds a b as_ bs is = cc

    first_place : (a b : Option ℕ) (as_ bs : List (Option ℕ)) → a ∷ as_ ≡ b ∷ bs → a ≡ b
    first_place a b as_ bs is = cc

    rest_places : (a b : Option ℕ) (as_ bs : List (Option ℕ)) → a ∷ as_ ≡ b ∷ bs → as_ ≡ bs
    rest_places a b as_ bs is = cc

    some_place : (o : Option ℕ) → is_some o ≡ is_some (option_map (λ k. (0 + k) % 65536) o)
    some_place None = refl
    some_place (Some k) = refl

pub declare-step : (vs : List Var) (xs : List Variable) (i : ℕ) (v dv : Var) (x dx : Variable) → i < length vs → i < length xs → v ≡ get_or vs i dv → x ≡ get_or xs i dx →
    names_declared (drop i vs) (drop i xs) ≡ name_declared v x ∷ names_declared (drop (i + 1) vs) (drop (i + 1) xs)
declare-step vs xs i v dv x dx within inside is has =
    at_drop_more (λ l. names_declared l (drop i xs)) vs i dv within
    ∙ ap (λ w. names_declared (w ∷ drop (i + 1) vs) (drop i xs)) (sym is)
    ∙ at_drop_more (λ l. names_declared (v ∷ drop (i + 1) vs) l) xs i dx inside
    ∙ ap (λ y. names_declared (v ∷ drop (i + 1) vs) (y ∷ drop (i + 1) xs)) (sym has)

names-none : (vs : List Var) → names_declared vs [] ≡ []
names-none [] = refl
names-none (v ∷ vs) = refl

pub declare-end : (vs : List Var) (xs : List Variable) (i : ℕ) → (length vs ≤ i) ⊎ (length xs ≤ i) → names_declared (drop i vs) (drop i xs) ≡ []
declare-end vs xs i end = elim end [
  | inl le ↦ ap (λ l. names_declared l (drop i xs)) (drop_all i vs le)
  | inr le ↦ ap (λ l. names_declared (drop i vs) l) (drop_all i xs le) ∙ names-none (drop i vs)
]

-- Functions, by their names.

-- the first function with the name, at its place
IsAt : List Function → Word → Option ℕ → Type 0
IsAt fs word None = function_in fs word ≡ None
IsAt fs word (Some number) = (f : Function) × (function_in fs word ≡ Some f) × (slice_get fs number ≡ Some f)

function_at-next : (f : Function) (fs : List Function) (word : Word) (b : Bool) (o : Option ℕ) → same_bytes f.name word ≡ b → IsAt fs word o →
    IsAt (f ∷ fs) word (if b then Some 0 else option_map suc o)
unfolding IsAt
function_at-next f fs word true o is at = (f, ap (λ b. if b then Some f else function_in fs word) is, refl)
function_at-next f fs word false None is at = ap (λ b. if b then Some f else function_in fs word) is ∙ at
function_at-next f fs word false (Some number) is at = (at.0, ap (λ b. if b then Some f else function_in fs word) is ∙ at.1, at.2)

function_at : (fs : List Function) (word : Word) → IsAt fs word (first_place (map (λ (f : Function). f.name) fs) word)
unfolding IsAt
function_at [] word = refl
function_at (f ∷ fs) word =
    function_at-next f fs word (same_bytes f.name word) (first_place (map (λ (g : Function). g.name) fs) word) refl (function_at fs word)

pub function_found : (fs : List Function) (word : Word) (number : ℕ) → first_place (map (λ (f : Function). f.name) fs) word ≡ Some number →
    (f : Function) × (function_in fs word ≡ Some f) × (slice_get fs number ≡ Some f)
unfolding IsAt
function_found fs word number is = subst (IsAt fs word) is (function_at fs word)

pub no_function : (fs : List Function) (word : Word) → first_place (map (λ (f : Function). f.name) fs) word ≡ None → function_in fs word ≡ None
unfolding IsAt
no_function fs word is = subst (IsAt fs word) is (function_at fs word)

pub function_names-are : (fs : List Func) → map (λ (f : Func). string_bytes f.name) fs ≡ map (λ (f : Function). f.name) (map function_of fs)
function_names-are [] = refl
function_names-are (f ∷ fs) = ap (λ ws. string_bytes f.name ∷ ws) (function_names-are fs)
