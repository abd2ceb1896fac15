-- What becomes known to be wanted.
use Rattle.std.proofs.Common.{◌≡◌, ℕ, zero, suc, ◌+◌, ◌<◌, ◌≤◌, Bool, true, false, not, List, [], ◌∷◌, ◌++◌, append_assoc, length, map, flat_map, drop, get_or, refl, sym, ap, ◌∙◌, arith}
use Rattle.std.specs.Prelude.{filter, if◌then◌else◌}
use Rattle.std.proofs.lemmas.List.{append-nil, map-append, drop_more}
use Rattle.std.proofs.lemmas.List.Concat.{flat_map-cons}
use Rattle.std.proofs.Common.{drop_of_length-le as drop_past}
use Rattle.std.proofs.lemmas.Grind.{flat_map-append}
use Rattle.dcc_ir.specs.declared.syntax.Expr.{Expr as ExprOf}
use Rattle.dcc_ir.specs.declared.syntax.Loc.{Loc}
use Rattle.dcc_ir.specs.Tree.{Expr}
use Rattle.dcc_ir.specs.Use.{got_by, reads_of}
use Rattle.dcc_ir.specs.Views.{expr_of}
use Rattle.dcc_sums.specs.Instance.{is_passing}
use Rattle.dcc_summaries.specs.declared.points.Point.{Point}
use Rattle.dcc_summaries.specs.declared.table.Want.{Want}
use Rattle.dcc_summaries.specs.Demands.{Demand, with_want, with_wants, want_at, wants_at, argument_reads}

pub with_wants-append : (d : Demand) (xs ys : List Want) → with_wants (with_wants d xs) ys ≡ with_wants d (xs ++ ys)
with_wants-append d [] ys = refl
with_wants-append d (x ∷ xs) ys = with_wants-append (with_want d x) xs ys

-- what two parts read is wanted
pub both_read : (d : Demand) (at : Point) (xs ys : List Expr)
    → with_wants (with_wants d (wants_at at (flat_map got_by xs))) (wants_at at (flat_map got_by ys)) ≡ with_wants d (wants_at at (flat_map got_by (xs ++ ys)))
both_read d at xs ys =
    with_wants-append d (wants_at at (flat_map got_by xs)) (wants_at at (flat_map got_by ys))
    ∙ ap (with_wants d) (sym (map-append (want_at at) (flat_map got_by xs) (flat_map got_by ys)) ∙ ap (wants_at at) (sym (flat_map-append got_by xs ys)))

pub both_made : (d : Demand) (at : Point) (xs ys : List Loc) → with_wants (with_wants d (wants_at at xs)) (wants_at at ys) ≡ with_wants d (wants_at at (xs ++ ys))
both_made d at xs ys = with_wants-append d (wants_at at xs) (wants_at at ys) ∙ ap (with_wants d) (sym (map-append (want_at at) xs ys))

-- Loops over lists of which each element makes something wanted.

pub each_more : {A : Type 0} (f : A → List Want) (xs : List A) (i : ℕ) (x : A) (before after all : Demand) → i < length xs → x ≡ get_or xs i x → after ≡ with_wants before (f x)
    → with_wants before (flat_map f (drop i xs)) ≡ all → with_wants after (flat_map f (drop (i + 1) xs)) ≡ all
each_more f xs i x before after all inside read more e =
    let rest = drop (i + 1) xs in
    let there : drop i xs ≡ x ∷ rest = drop_more xs i x inside ∙ ap (λ y. y ∷ rest) (sym read) in
    ap (λ d. with_wants d (flat_map f rest)) more ∙ with_wants-append before (f x) (flat_map f rest)
    ∙ ap (with_wants before) (sym (flat_map-cons f x rest)) ∙ ap (λ l. with_wants before (flat_map f l)) (sym there) ∙ e

-- what is read within a list is there whatever the default
pub read_any : {A : Type 0} (xs : List A) (i : ℕ) (d : A) → i < length xs → get_or xs i d ≡ get_or xs i (get_or xs i d)
read_any [] i d inside = absurd (omega (arith, inside))
read_any (x ∷ xs) zero d inside = refl
read_any (x ∷ xs) (suc i) d inside = read_any xs i d (omega (arith, inside))

pub each_end : {A : Type 0} (f : A → List Want) (xs : List A) (i : ℕ) (now all : Demand) → length xs ≤ i → with_wants now (flat_map f (drop i xs)) ≡ all → now ≡ all
each_end f xs i now all past e = ap (λ l. with_wants now (flat_map f l)) (sym (drop_past xs past)) ∙ e

-- loops that gather what each element has
pub gathered_more : {A B : Type 0} (f : A → List B) (xs : List A) (i : ℕ) (x : A) (before after all : List B) → i < length xs → x ≡ get_or xs i x → after ≡ before ++ f x
    → before ++ flat_map f (drop i xs) ≡ all → after ++ flat_map f (drop (i + 1) xs) ≡ all
gathered_more f xs i x before after all inside read more e =
    let rest = drop (i + 1) xs in
    let there : drop i xs ≡ x ∷ rest = drop_more xs i x inside ∙ ap (λ y. y ∷ rest) (sym read) in
    ap (λ l. l ++ flat_map f rest) more ∙ append_assoc before (f x) (flat_map f rest)
    ∙ ap (λ l. before ++ l) (sym (flat_map-cons f x rest) ∙ ap (flat_map f) (sym there)) ∙ e

pub gathered_end : {A B : Type 0} (f : A → List B) (xs : List A) (i : ℕ) (now all : List B) → length xs ≤ i → now ++ flat_map f (drop i xs) ≡ all → now ≡ all
gathered_end f xs i now all past e = sym (append-nil now) ∙ ap (λ l. now ++ flat_map f l) (sym (drop_past xs past)) ∙ e

-- Arguments.

abbrev pub argument_wants : Point → ExprOf → List Want
argument_wants at e = wants_at at (argument_reads (expr_of e ∷ []))

pub argument_each : (at : Point) (es : List ExprOf) → flat_map (argument_wants at) es ≡ wants_at at (argument_reads (map expr_of es))
argument_each at [] = refl
argument_each at (e ∷ es) =
    flat_map-cons (argument_wants at) e es ∙ ap (λ l. argument_wants at e ++ l) (argument_each at es)
    ∙ sym (map-append (want_at at) (argument_reads (expr_of e ∷ [])) (argument_reads (map expr_of es))) ∙ ap (wants_at at) (first (not (is_passing (expr_of e))))
  where
    rest : List Expr
    rest = filter (λ x. not (is_passing x)) (map expr_of es)

    first : (b : Bool) → flat_map reads_of (if b then expr_of e ∷ [] else []) ++ flat_map reads_of rest ≡ flat_map reads_of (if b then expr_of e ∷ rest else rest)
    first true = sym (flat_map-append reads_of (expr_of e ∷ []) rest)
    first false = refl
