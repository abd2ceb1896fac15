-- Parts with a comma and a space between them: the first, and each other after a comma and a space.
use Rattle.std.proofs.Common.{◌≡◌, ℕ, ◌-◌, ◌≤◌, List, [], ◌∷◌, ◌++◌, length, take, drop, get_or, map, refl, sym, ap, ◌∙◌, subst, arith, append_assoc}
use Rattle.std.proofs.lemmas.List.{append-nil, take_all}
use Rattle.std.specs.Prelude.{codes}
use Rattle.std.specs.List.{flat_map}
use Rattle.std.specs.Fmt.{decimal}
use Rattle.dcc_c.specs.declared.syntax.CExpr.{CExpr}
use Rattle.dcc_c.specs.declared.syntax.Var.{Var}
use Rattle.dcc_c.specs.Tree.{Word}
use Rattle.dcc_c.specs.Written.{written_expr, written_arguments, written_param, written_params, written_head_params, written_numbers}
use Rattle.dcc_c.specs.Views.{expr_of, variable_of}

-- a part after a comma and a space
abbrev pub after_comma : Word → Word
after_comma bytes = codes ", " ++ bytes

joined : {A : Type 0} (part : A → Word) (whole : List A → Word) → ((x : A) → whole (x ∷ []) ≡ part x) →
    ((x y : A) (ys : List A) → whole (x ∷ y ∷ ys) ≡ part x ++ after_comma (whole (y ∷ ys))) → (x : A) (xs : List A) →
    whole (x ∷ xs) ≡ part x ++ flat_map (λ y. after_comma (part y)) xs
joined part whole one more x [] = one x ∙ sym (append-nil (part x))
joined part whole one more x (y ∷ ys) =
    more x y ys
    ∙ ap (λ bytes. part x ++ after_comma bytes) (joined part whole one more y ys)

-- the first part of a list that has one, and then the others, are the whole
joined_all : {A : Type 0} (part : A → Word) (whole : List A → Word) → ((x : A) → whole (x ∷ []) ≡ part x) →
    ((x y : A) (ys : List A) → whole (x ∷ y ∷ ys) ≡ part x ++ after_comma (whole (y ∷ ys))) →
    (xs : List A) (d : A) (n : ℕ) (old first text : Word) → 1 ≤ length xs →
    length (take (length xs - 1) (drop 1 xs)) ≤ n → first ≡ old ++ part (get_or xs 0 d) →
    text ≡ first ++ flat_map (λ y. after_comma (part y)) (take n (take (length xs - 1) (drop 1 xs))) →
    text ≡ old ++ whole xs
joined_all part whole one more [] d n old first text some all is_first is_text = absurd (omega (arith, some))
joined_all {A} part whole one more (x ∷ ys) d n old first text some all is_first is_text =
    let after : List A → Word = λ l. flat_map (λ y. after_comma (part y)) l in
    let others : take (length (x ∷ ys) - 1) (drop 1 (x ∷ ys)) ≡ ys = take_all (length (x ∷ ys) - 1) ys (omega arith) in
    let within : length ys ≤ n = subst (λ l. length l ≤ n) others all in
    is_text
    ∙ ap (λ l. first ++ after (take n l)) others
    ∙ ap (λ l. first ++ after l) (take_all n ys within)
    ∙ ap (λ l. l ++ after ys) is_first
    ∙ append_assoc old (part x) (after ys)
    ∙ ap (λ l. old ++ l) (sym (joined part whole one more x ys))

pub numbers-joined : (ns : List ℕ) (n : ℕ) (old first text : Word) → 1 ≤ length ns →
    length (take (length ns - 1) (drop 1 ns)) ≤ n → first ≡ old ++ decimal (get_or ns 0 0) →
    text ≡ first ++ flat_map (λ m. after_comma (decimal m)) (take n (take (length ns - 1) (drop 1 ns))) →
    text ≡ old ++ written_numbers ns
numbers-joined ns = joined_all decimal written_numbers (λ x. refl) (λ x y ys. refl) ns 0

pub params-joined : (vs : List Var) (v : Var) (n : ℕ) (old first text : Word) → 1 ≤ length vs →
    length (take (length vs - 1) (drop 1 vs)) ≤ n → first ≡ old ++ written_param (variable_of (get_or vs 0 v)) →
    text ≡ first ++ flat_map (λ w. after_comma (written_param (variable_of w))) (take n (take (length vs - 1) (drop 1 vs))) →
    text ≡ old ++ written_params (map variable_of vs)
params-joined =
    joined_all (λ w. written_param (variable_of w)) (λ ws. written_params (map variable_of ws)) (λ x. refl) (λ x y ys. refl)

-- the parameters of a function that has some
pub head_params-joined : (vs : List Var) → 1 ≤ length vs → written_params (map variable_of vs) ≡ written_head_params (map variable_of vs)
head_params-joined [] some = absurd (omega (arith, some))
head_params-joined (v ∷ vs) some = refl

pub arguments-joined : (es : List CExpr) (e : CExpr) (n : ℕ) (old first text : Word) → 1 ≤ length es →
    length (take (length es - 1) (drop 1 es)) ≤ n → first ≡ old ++ written_expr (expr_of (get_or es 0 e)) →
    text ≡ first ++ flat_map (λ a. after_comma (written_expr (expr_of a))) (take n (take (length es - 1) (drop 1 es))) →
    text ≡ old ++ written_arguments (map expr_of es)
arguments-joined =
    joined_all (λ a. written_expr (expr_of a)) (λ fs. written_arguments (map expr_of fs)) (λ x. refl) (λ x y ys. refl)
