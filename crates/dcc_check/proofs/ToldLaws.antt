-- Offences that are told one after another.
use Rattle.std.proofs.Common.{◌≡◌, ℕ, ◌+◌, ◌<◌, ◌≤◌, nat_eq, Bool, true, false, List, [], ◌∷◌, ◌++◌, length, length-drop, get_or, drop, map, Option, Some, None, refl, sym, ap, ◌∙◌, arith}
use Rattle.std.specs.Prelude.{if◌then◌else◌}
use Rattle.std.proofs.lemmas.Bool.Decides.{nat_tests}
use Rattle.std.proofs.lemmas.List.{at_drop_more, append-nil}
use Rattle.dcc_c.specs.TextOffences.{Whole, stop_offences, function_offences, functions_offences}
use Rattle.dcc_reader.specs.declared.partial.PartialFunction.{PartialFunction}
use Rattle.dcc_reader.specs.PartialViews.{function_of}
use Rattle.dcc_c.specs.Kinds.{Offence, first_after}
use Rattle.dcc_c.proofs.refusals.FirstRules.{first-append}

pub told-two : (o a n : Option Offence) (x y : List Offence) → a ≡ first_after o x → n ≡ first_after a y → n ≡ first_after o (x ++ y)
told-two o a n x y a_is n_is = n_is ∙ ap (λ f. first_after f y) a_is ∙ sym (first-append o x y)

pub told-three : (o a b n : Option Offence) (x y z : List Offence) → a ≡ first_after o x → b ≡ first_after a y → n ≡ first_after b z → n ≡ first_after o (x ++ (y ++ z))
told-three o a b n x y z a_is b_is n_is = told-two o a n x (y ++ z) a_is (told-two a b n y z b_is n_is)

pub told-four : (o a b d n : Option Offence) (x y z u : List Offence) → a ≡ first_after o x → b ≡ first_after a y → d ≡ first_after b z → n ≡ first_after d u →
    n ≡ first_after o (x ++ (y ++ (z ++ u)))
told-four o a b d n x y z u a_is b_is d_is n_is = told-two o a n x (y ++ (z ++ u)) a_is (told-three a b d n y z u b_is d_is n_is)

pub stop-first : (stop : Option Offence) → first_after None (stop_offences stop) ≡ stop
stop-first (Some o) = refl
stop-first None = refl

-- one function, before others
next-function : (w : Whole) (f : PartialFunction) (fs : List PartialFunction) (last : Bool) → (fs ≡ [] → last ≡ true) →
    ((g : PartialFunction) (gs : List PartialFunction) → fs ≡ g ∷ gs → last ≡ false) →
    functions_offences w (function_of f ∷ map function_of fs) ≡ function_offences w (if last then w.labels else []) (function_of f) ++ functions_offences w (map function_of fs)
next-function w f [] last empty more =
    ap (λ b. function_offences w (if b then w.labels else []) (function_of f)) (sym (empty refl))
    ∙ sym (append-nil (function_offences w (if last then w.labels else []) (function_of f)))
next-function w f (g ∷ gs) last empty more =
    ap (λ b. function_offences w (if b then w.labels else []) (function_of f) ++ functions_offences w (map function_of (g ∷ gs))) (sym (more g gs refl))

last-of : (n i : ℕ) → n ≤ i + 1 → i < n → nat_eq (i + 1) n ≡ true
last-of n i le lt = grind (arith, nat_tests)

not-last : (n i : ℕ) → i + 1 < n → nat_eq (i + 1) n ≡ false
not-last n i lt = grind (arith, nat_tests)

pub function-step : (w : Whole) (xs : List PartialFunction) (i : ℕ) (x : PartialFunction) (old new : Option Offence) → i < length xs → x ≡ get_or xs i x →
    new ≡ first_after old (function_offences w (if nat_eq (i + 1) (length xs) then w.labels else []) (function_of x)) →
    first_after new (functions_offences w (map function_of (drop (i + 1) xs))) ≡ first_after old (functions_offences w (map function_of (drop i xs)))
function-step w xs i x old new within here new_is =
    let rest = drop (i + 1) xs in
    let last = nat_eq (i + 1) (length xs) in
    let empty : rest ≡ [] → last ≡ true = λ none. last-of (length xs) i (omega (arith, length-drop (i + 1) xs, ap length none)) within in
    let more : (g : PartialFunction) (gs : List PartialFunction) → rest ≡ g ∷ gs → last ≡ false =
    λ g gs some. not-last (length xs) i (omega (arith, length-drop (i + 1) xs, ap length some)) in
    let own = function_offences w (if last then w.labels else []) (function_of x) in
    ap (λ f. first_after f (functions_offences w (map function_of rest))) new_is
    ∙ sym (first-append old own (functions_offences w (map function_of rest)))
    ∙ ap (first_after old) (sym (at_drop_more (λ l. functions_offences w (map function_of l)) xs i x within
    ∙ ap (λ y. functions_offences w (map function_of (y ∷ rest))) (sym here)
    ∙ next-function w x rest last empty more))
