-- Steps of stripping declarations, and what is known of them where nothing offends.
use native.Mathlib.Omega.{arith}
use Rattle.std.proofs.Common.{◌≡◌, ℕ, true, ◌&&◌, List, [], ◌∷◌, ◌++◌, map, refl, sym, ap, ◌∙◌}
use Rattle.std.proofs.lemmas.Bool.{leb-true, le-leb}
use Rattle.std.specs.Prelude.{nat_le, option_map}
use Rattle.std.specs.List.{list_all}
use Rattle.dcc_c.specs.Tree.{Global, Function, Tree}
use Rattle.dcc_c.specs.Rules.{has_element, allows_global}
use Rattle.dcc_c.specs.Placement.{after_global}
use Rattle.dcc_c.specs.Dos.{dos_names}
use Rattle.dcc_c.specs.Partial as trees
use Rattle.dcc_c.specs.Offences.{BodyContext, repeated, label_list, lines_offences, body_offences}
use Rattle.dcc_c.specs.TextOffences.{Whole, name_list, function_names, stack_offences, number_or_zero, globals_places, start_offences, sizes_of, known_in, scene_of, function_offences, functions_offences, text_offences}
use Rattle.dcc_c.specs.Stripped.{plain_number, plain_global, plain_function, plain_text}
use Rattle.dcc_c.specs.Complete.{is_complete_text}
use Rattle.dcc_c.proofs.refusals.ExprRules.{none-both, and-both}
use Rattle.dcc_c.proofs.refusals.GlobalRules.{places-allowed}
use Rattle.dcc_c.proofs.refusals.TextRules.{complete-text}
use Rattle.dcc_reader.specs.declared.partial.PartialFunction.{PartialFunction}
use Rattle.dcc_reader.specs.declared.partial.PartialText.{PartialText}
use Rattle.dcc_reader.specs.PartialViews as partial
use Rattle.dcc_parse.specs.Stripping.{is_in_memory}

-- Functions.

function-lines : (whole : Whole) (labels : List (List ℕ)) (f : trees.PartialFunction) → function_offences whole labels f ≡ [] →
    lines_offences (scene_of whole labels f) 0 f.body ≡ []
function-lines whole labels f none =
    let one = none-both (repeated whole.words (name_list f.params ++ name_list f.locals)) _ none in
    let two = none-both (sizes_of f.locals) (body_offences (scene_of whole labels f) f.body) one.1 in
    (none-both (repeated [] (label_list f.body)) (lines_offences (scene_of whole labels f) 0 f.body) two.1).1

-- nothing offends in the first function and in the others
functions-split : (whole : Whole) (f : trees.PartialFunction) (fs : List trees.PartialFunction) → functions_offences whole (f ∷ fs) ≡ [] →
    ((scene : BodyContext) × (lines_offences scene 0 f.body ≡ [])) × (functions_offences whole fs ≡ [])
functions-split whole f [] none = ((scene_of whole whole.labels f, function-lines whole whole.labels f none), refl)
functions-split whole f (g ∷ fs) none =
    let both = none-both (function_offences whole [] f) (functions_offences whole (g ∷ fs)) none in
    ((scene_of whole [] f, function-lines whole [] f both.0), both.1)

-- nothing offends in the first function that is left, nor in the others
pub functions-clean : (whole : Whole) (f : PartialFunction) {fs more : List PartialFunction} {A : Type 0} → fs ≡ f ∷ more →
    ((scene : BodyContext) → lines_offences scene 0 (partial.lines_of f.body.items) ≡ [] → A) →
    functions_offences whole (map partial.function_of fs) ≡ [] → A × (functions_offences whole (map partial.function_of more) ≡ [])
functions-clean whole f {fs} {more} is stripped none =
    let parts = functions-split whole (partial.function_of f) (map partial.function_of more) (sym (ap (λ l. functions_offences whole (map partial.function_of l)) is) ∙ none) in
    (stripped parts.0.0 parts.0.1, parts.1)

-- Whole texts.

in_memory : (vs : List trees.PartialVariable) → list_all allows_global (map plain_global vs) ≡ true → list_all is_in_memory vs ≡ true
in_memory [] allowed = refl
in_memory (v ∷ vs) allowed =
    let parts = and-both (allows_global (plain_global v)) (list_all allows_global (map plain_global vs)) allowed in
    let element = and-both (has_element (option_map (λ n. n.value) v.size)) _ parts.0 in
    let limits = and-both (nat_le (after_global (plain_global v)) 65536) _ element.1 in
    let own : nat_le v.address 65536 ≡ true = le-leb v.address 65536 (omega (arith, leb-true (after_global (plain_global v)) 65536 limits.0)) in
    ap (λ b. b && list_all is_in_memory vs) own ∙ in_memory vs parts.1

-- a text's tree, by its parts
abbrev made : ℕ → ℕ → List Global → List Function → Tree
made lo hi globals functions = record { version = 1; lo = lo; hi = hi; globals = globals; functions = functions }

-- what is known of a text where nothing offends
pub record Clean (text : trees.PartialText) : Type 0 where
  pub lo : stack_offences text.lo ≡ []
  pub hi : stack_offences text.hi ≡ []
  pub globals : list_all is_in_memory text.globals ≡ true
  pub functions : functions_offences (known_in text []) text.functions ≡ []

pub clean-text : (text : trees.PartialText) → is_complete_text text ≡ true → text_offences text [] ≡ [] → Clean text
clean-text text complete none =
    let one = none-both (stack_offences text.lo ++ stack_offences text.hi) _ none in
    let stack = none-both (stack_offences text.lo) (stack_offences text.hi) one.0 in
    let two = none-both (repeated dos_names (name_list text.globals ++ function_names text.functions)) _ one.1 in
    let three = none-both (globals_places (number_or_zero text.lo) (number_or_zero text.hi) [] text.globals) _ two.1 in
    let four = none-both (start_offences text.functions) (functions_offences (known_in text []) text.functions) three.1 in
    let places = places-allowed (number_or_zero text.lo) (number_or_zero text.hi) [] text.globals (complete-text text complete).globals three.0 in
    record { lo = stack.0; hi = stack.1; globals = in_memory text.globals places.allowed; functions = four.1 }

-- the parts of a text make its tree
pub text-stripped : (text : PartialText) (lo hi : ℕ) (globals : List Global) (functions : List Function) → Clean (partial.text_of text) →
    (stack_offences (partial.text_of text).lo ≡ [] → lo ≡ plain_number (partial.text_of text).lo) →
    (stack_offences (partial.text_of text).hi ≡ [] → hi ≡ plain_number (partial.text_of text).hi) →
    (list_all is_in_memory (map partial.variable_of text.globals.items) ≡ true → globals ≡ map plain_global (map partial.variable_of text.globals.items)) →
    ((whole : Whole) → functions_offences whole (map partial.function_of text.functions.items) ≡ [] →
    functions ≡ map plain_function (map partial.function_of text.functions.items)) →
    made lo hi globals functions ≡ plain_text (partial.text_of text)
text-stripped text lo hi globals functions clean lo_is hi_is globals_are functions_are =
    let tree = partial.text_of text in
    ap (λ n. made n hi globals functions) (lo_is clean.lo)
    ∙ ap (λ n. made (plain_number tree.lo) n globals functions) (hi_is clean.hi)
    ∙ ap (λ l. made (plain_number tree.lo) (plain_number tree.hi) l functions) (globals_are clean.globals)
    ∙ ap (λ l. made (plain_number tree.lo) (plain_number tree.hi) (map plain_global tree.globals) l) (functions_are (known_in tree []) clean.functions)
