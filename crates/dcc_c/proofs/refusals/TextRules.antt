-- A complete text keeps the rules just where nothing offends in it.
use native.Mathlib.Omega.{arith}
use Rattle.std.proofs.Common.{◌≡◌, ℕ, suc, ◌≤◌, Bool, true, false, ◌&&◌, ◌==◌, List, [], ◌∷◌, ◌++◌, length, map, Option, Some, None, refl, sym, ap, ◌∙◌, append_assoc}
use Rattle.std.proofs.lemmas.List.{map-append}
use Rattle.std.proofs.lemmas.Bool.{ltb-false, le-ltb, eqb-true}
use Rattle.std.specs.Prelude.{not, nat_lt, is_some, codes}
use Rattle.std.specs.List.{list_all}
use Rattle.dcc_c.specs.Token.{same_bytes}
use Rattle.dcc_c.specs.Tree.{Global, Function}
use Rattle.dcc_c.specs.Parts.{stmts_in}
use Rattle.dcc_c.specs.Dos.{dos_names}
use Rattle.dcc_c.specs.Rules.{known_names, all_differ, is_off_stack, shallow_stmt, AreAllowed, no_more, one_more, IsAllowed}
use Rattle.dcc_c.specs.Kinds.{of_name, of_place, Offence, offence, only_if}
use Rattle.dcc_c.specs.Partial.{WordAt, NumberAt, PartialVariable, PartialFunction, PartialText}
use Rattle.dcc_c.specs.Offences.{repeated}
use Rattle.dcc_c.specs.TextOffences.{name_list, words_of, function_names, stack_offences, number_or_zero, globals_places, not_named_start, start_offences, known_in, function_offences, functions_offences, text_offences}
use Rattle.dcc_c.specs.Stripped.{plain_name, plain_number, plain_lines, plain_variable, plain_global, plain_function, plain_text}
use Rattle.dcc_c.specs.Complete.{is_complete_variable, is_complete_function, is_complete_text}
use Rattle.dcc_c.proofs.NameLaws.{same_bytes-equal}
use Rattle.dcc_c.proofs.refusals.ExprRules.{none-both, none-only, both-empty, and-both}
use Rattle.dcc_c.proofs.refusals.StmtRules.{not-true}
use Rattle.dcc_c.proofs.refusals.ListRules.{none_among, repeated-apart, apart-repeated, not-true-false}
use Rattle.dcc_c.proofs.refusals.GlobalRules.{all_off, places-allowed, placed-clean}
use Rattle.dcc_c.proofs.refusals.KnownRules.{CompleteFunction, complete-function, name-words, function-words}
use Rattle.dcc_c.proofs.refusals.FunctionRules.{append-differ, differ-append}
use Rattle.dcc_c.proofs.refusals.AllowedRules.{function-allowed, function-clean, globals-map}

-- Expressions of all functions are at most 200 deep.
abbrev pub are_shallow : List PartialFunction → Bool
are_shallow functions = list_all (λ f. list_all (shallow_stmt 200) (stmts_in (plain_lines f.body))) functions

-- what a complete text is made of
pub record CompleteText (text : PartialText) : Type 0 where
  pub lo : NumberAt
  pub hi : NumberAt
  pub lo_is : text.lo ≡ Some lo
  pub hi_is : text.hi ≡ Some hi
  pub globals : list_all is_complete_variable text.globals ≡ true
  pub functions : list_all is_complete_function text.functions ≡ true
  pub some : (length text.functions == 0) ≡ false

some-there : {A : Type 0} (o : Option A) → is_some o ≡ true → (x : A) × (o ≡ Some x)
some-there (Some x) e = (x, refl)
some-there None e = absurd cc

pub complete-text : (text : PartialText) → is_complete_text text ≡ true → CompleteText text
complete-text text whole =
    let one = and-both (is_some text.lo && is_some text.hi) _ whole in
    let two = and-both (is_some text.lo) (is_some text.hi) one.0 in
    let three = and-both (list_all is_complete_variable text.globals) _ one.1 in
    let four = and-both (list_all is_complete_function text.functions) (not (length text.functions == 0)) three.1 in
    let lo = some-there text.lo two.0 in
    let hi = some-there text.hi two.1 in
    record { lo = lo.0; hi = hi.0; lo_is = lo.1; hi_is = hi.1; globals = three.0; functions = four.0; some = not-true-false (length text.functions == 0) four.1 }

-- The stack line.

stack-small : (o : Option NumberAt) → stack_offences o ≡ [] → plain_number o ≤ 65535
stack-small None none = omega arith
stack-small (Some n) none = ltb-false 65535 n.value (none-only (nat_lt 65535 n.value) (offence of_place n.at) none)

small-stack : (o : Option NumberAt) → plain_number o ≤ 65535 → stack_offences o ≡ []
small-stack None small = refl
small-stack (Some n) small = ap (λ b. only_if b (offence of_place n.at)) (le-ltb 65535 n.value small)

number-same : (o : Option NumberAt) → number_or_zero o ≡ plain_number o
number-same None = refl
number-same (Some n) = refl

-- The first function.

record IsStart (f : PartialFunction) : Type 0 where
  pub name : plain_name f.name ≡ codes "start"
  pub params : f.params ≡ []
  pub result : f.result ≡ None

none-there : {A : Type 0} (o : Option A) → is_some o ≡ false → o ≡ None
none-there None e = refl
none-there (Some x) e = absurd cc

empty-of : {A : Type 0} (xs : List A) → (length xs == 0) ≡ true → xs ≡ []
empty-of [] e = refl
empty-of (x ∷ xs) e = absurd (no-successor (eqb-true (suc (length xs)) 0 e)) where
  no-successor : {n : ℕ} → suc n ≡ 0 → ⊥
  no-successor e = absurd cc

abbrev start_if : PartialFunction → Option ℕ → List Offence
start_if f opened = elim opened [
  | None ↦ []
  | Some inside ↦ only_if f.has_result (offence of_name f.at) ++ (not_named_start f.name ++ only_if (not f.without_params) (offence of_name inside))
]

is-start : (f : PartialFunction) (functions : List PartialFunction) → CompleteFunction f → start_offences (f ∷ functions) ≡ [] → IsStart f
is-start f functions c none =
    let all = ap (start_if f) (sym c.opened_is) ∙ none in
    let one = none-both (only_if f.has_result (offence of_name f.at)) _ all in
    let two = none-both (not_named_start f.name) (only_if (not f.without_params) (offence of_name c.opened)) one.1 in
    let named = none-only (not (same_bytes c.name.word (codes "start"))) (offence of_name c.name.at) (ap not_named_start (sym c.name_is) ∙ two.0) in
    record {
      name = ap plain_name c.name_is ∙ same_bytes-equal c.name.word (codes "start") (not-true (same_bytes c.name.word (codes "start")) named);
      params = empty-of f.params (sym c.without ∙ not-true f.without_params (none-only (not f.without_params) (offence of_name c.opened) two.1));
      result = none-there f.result (sym c.has_result ∙ none-only f.has_result (offence of_name f.at) one.0);
    }

start-is : (f : PartialFunction) (functions : List PartialFunction) → CompleteFunction f → IsStart f → start_offences (f ∷ functions) ≡ []
start-is f functions c is =
    ap (start_if f) c.opened_is ∙ both-empty (ap (λ b. only_if b (offence of_name f.at)) (c.has_result ∙ ap is_some is.result))
    (both-empty (ap not_named_start c.name_is ∙ ap (λ b. only_if (not b) (offence of_name c.name.at))
    (ap (λ w. same_bytes w (codes "start")) (sym (ap plain_name c.name_is) ∙ is.name)))
    (ap (λ b. only_if (not b) (offence of_name c.opened)) (c.without ∙ ap (λ (l : List PartialVariable). length l == 0) is.params)))

-- The names of the whole text.

functions-map : (fs : List PartialFunction) → map (λ f. plain_name f.name) fs ≡ map (λ (f : Function). f.name) (map plain_function fs)
functions-map [] = refl
functions-map (f ∷ fs) = ap (λ l. plain_name f.name ∷ l) (functions-map fs)

module _ (text : PartialText) (c : CompleteText text) where
  own-words : map (λ n. n.word) (name_list text.globals ++ function_names text.functions) ≡ map (λ (g : Global). g.name) (map plain_global text.globals) ++ map (λ (f : Function). f.name) (map plain_function text.functions)
  own-words = map-append (λ (n : WordAt). n.word) (name_list text.globals) (function_names text.functions)
      ∙ ap (λ l. l ++ words_of (function_names text.functions)) (name-words text.globals c.globals ∙ globals-map text c.globals c.functions text.globals)
      ∙ ap (λ l. map (λ (g : Global). g.name) (map plain_global text.globals) ++ l) (function-words text.functions c.functions ∙ functions-map text.functions)

  known-split : known_names (plain_text text) ≡ (map (λ (g : Global). g.name) (map plain_global text.globals) ++ map (λ (f : Function). f.name) (map plain_function text.functions)) ++ dos_names
  known-split = sym (append_assoc (map (λ (g : Global). g.name) (map plain_global text.globals)) (map (λ (f : Function). f.name) (map plain_function text.functions)) dos_names)

  names-differ : repeated dos_names (name_list text.globals ++ function_names text.functions) ≡ [] → all_differ (known_names (plain_text text)) ≡ true
  names-differ none =
      let own = repeated-apart dos_names (name_list text.globals ++ function_names text.functions) none in
      ap all_differ known-split ∙ differ-append (map (λ (g : Global). g.name) (map plain_global text.globals) ++ map (λ (f : Function). f.name) (map plain_function text.functions)) dos_names (ap all_differ (sym own-words) ∙ own.1) refl (ap (none_among dos_names) (sym own-words) ∙ own.0)

  differ-names : all_differ (known_names (plain_text text)) ≡ true → repeated dos_names (name_list text.globals ++ function_names text.functions) ≡ []
  differ-names all =
      let own = append-differ (map (λ (g : Global). g.name) (map plain_global text.globals) ++ map (λ (f : Function). f.name) (map plain_function text.functions)) dos_names (ap all_differ (sym known-split) ∙ all) in
      apart-repeated dos_names (name_list text.globals ++ function_names text.functions) (ap (none_among dos_names) own-words ∙ own.2) (ap all_differ own-words ∙ own.0)

  -- Functions.

  functions-allowed : (fs : List PartialFunction) → list_all is_complete_function fs ≡ true → all_differ (known_names (plain_text text)) ≡ true →
      functions_offences (known_in text []) fs ≡ [] → are_shallow fs ≡ true → AreAllowed (plain_text text) (map plain_function fs)
  functions-allowed [] whole all none shallow = no_more
  functions-allowed (f ∷ []) whole all none shallow =
      let parts = and-both (is_complete_function f) true whole in
      let depth = and-both (list_all (shallow_stmt 200) (stmts_in (plain_lines f.body))) true shallow in
      one_more (function-allowed text c.globals c.functions f (complete-function f parts.0) all none depth.0) no_more
  functions-allowed (f ∷ g ∷ fs) whole all none shallow =
      let parts = and-both (is_complete_function f) (list_all is_complete_function (g ∷ fs)) whole in
      let depth = and-both (list_all (shallow_stmt 200) (stmts_in (plain_lines f.body))) (are_shallow (g ∷ fs)) shallow in
      let both = none-both (function_offences (known_in text []) [] f) (functions_offences (known_in text []) (g ∷ fs)) none in
      one_more (function-allowed text c.globals c.functions f (complete-function f parts.0) all both.0 depth.0) (functions-allowed (g ∷ fs) parts.1 all both.1 depth.1)

  functions-clean : (fs : List PartialFunction) → list_all is_complete_function fs ≡ true → all_differ (known_names (plain_text text)) ≡ true →
      AreAllowed (plain_text text) (map plain_function fs) → functions_offences (known_in text []) fs ≡ []
  functions-clean [] whole all allowed = refl
  functions-clean (f ∷ []) whole all (one_more own others) =
      function-clean text c.globals c.functions f (complete-function f (and-both (is_complete_function f) true whole).0) all own
  functions-clean (f ∷ g ∷ fs) whole all (one_more own others) =
      let parts = and-both (is_complete_function f) (list_all is_complete_function (g ∷ fs)) whole in
      both-empty (function-clean text c.globals c.functions f (complete-function f parts.0) all own) (functions-clean (g ∷ fs) parts.1 all others)

-- The whole text.

first-of : (fs : List PartialFunction) → (length fs == 0) ≡ false → (f : PartialFunction) × (others : List PartialFunction) × (fs ≡ f ∷ others)
first-of [] e = absurd cc
first-of (f ∷ fs) e = (f, fs, refl)

pub text-allowed : (text : PartialText) → is_complete_text text ≡ true → are_shallow text.functions ≡ true → text_offences text [] ≡ [] → IsAllowed (plain_text text)
text-allowed text whole shallow none =
    let c = complete-text text whole in
    let one = none-both (stack_offences text.lo ++ stack_offences text.hi) _ none in
    let stack = none-both (stack_offences text.lo) (stack_offences text.hi) one.0 in
    let two = none-both (repeated dos_names (name_list text.globals ++ function_names text.functions)) _ one.1 in
    let three = none-both (globals_places (number_or_zero text.lo) (number_or_zero text.hi) [] text.globals) _ two.1 in
    let four = none-both (start_offences text.functions) (functions_offences (known_in text []) text.functions) three.1 in
    let first = first-of text.functions c.some in
    let complete = complete-function first.0 (and-both (is_complete_function first.0) (list_all is_complete_function first.1) (ap (list_all is_complete_function) (sym first.2) ∙ c.functions)).0 in
    let start = is-start first.0 first.1 complete (ap start_offences (sym first.2) ∙ four.0) in
    let places = places-allowed (number_or_zero text.lo) (number_or_zero text.hi) [] text.globals c.globals three.0 in
    let all = names-differ text c two.0 in
    record {
      start = plain_function first.0;
      others = map plain_function first.1;
      first = ap (map plain_function) first.2;
      name = start.name;
      no_params = ap (map plain_variable) start.params;
      no_result = start.result;
      names = all;
      functions = functions-allowed text c text.functions c.functions all four.1 shallow;
      lo = stack-small text.lo stack.0;
      hi = stack-small text.hi stack.1;
      globals = places.allowed;
      apart = places.apart;
      off_stack = off-same (number-same text.lo) (number-same text.hi) places.off;
    } where
      off-same : {lo hi lo' hi' : ℕ} → lo ≡ lo' → hi ≡ hi' → list_all (is_off_stack lo hi) (map plain_global text.globals) ≡ true → list_all (is_off_stack lo' hi') (map plain_global text.globals) ≡ true
      off-same {lo} {hi} {lo'} {hi'} e g off = ap (λ n. list_all (is_off_stack n hi') (map plain_global text.globals)) (sym e) ∙ ap (λ n. list_all (is_off_stack lo n) (map plain_global text.globals)) (sym g) ∙ off

pub text-clean : (text : PartialText) → is_complete_text text ≡ true → IsAllowed (plain_text text) → text_offences text [] ≡ []
text-clean text whole allowed =
    let c = complete-text text whole in
    let first = first-of text.functions c.some in
    let complete = complete-function first.0 (and-both (is_complete_function first.0) (list_all is_complete_function first.1) (ap (list_all is_complete_function) (sym first.2) ∙ c.functions)).0 in
    let same : plain_function first.0 ≡ allowed.start = first-same (sym (ap (map plain_function) first.2) ∙ allowed.first) in
    let start : IsStart first.0 = record {
      name = ap (λ (f : Function). f.name) same ∙ allowed.name;
      params = no-variables first.0.params (ap (λ (f : Function). f.params) same ∙ allowed.no_params);
      result = ap (λ (f : Function). f.result) same ∙ allowed.no_result;
    } in
    both-empty (both-empty (small-stack text.lo allowed.lo) (small-stack text.hi allowed.hi))
    (both-empty (differ-names text c allowed.names)
    (both-empty (placed-clean (number_or_zero text.lo) (number_or_zero text.hi) [] text.globals c.globals (record {
      allowed = allowed.globals;
      off = ap (λ n. list_all (is_off_stack n (number_or_zero text.hi)) (map plain_global text.globals)) (number-same text.lo) ∙ ap (λ n. list_all (is_off_stack (plain_number text.lo) n) (map plain_global text.globals)) (number-same text.hi) ∙ allowed.off_stack;
      apart = allowed.apart;
      earlier_apart = none-earlier text.globals;
    }))
    (both-empty (ap start_offences first.2 ∙ start-is first.0 first.1 complete start) (functions-clean text c text.functions c.functions allowed.names allowed.functions)))) where
      first-same : {f g : Function} {fs gs : List Function} → f ∷ fs ≡ g ∷ gs → f ≡ g
      first-same e = cc

      no-variables : (vs : List PartialVariable) → map plain_variable vs ≡ [] → vs ≡ []
      no-variables [] e = refl
      no-variables (v ∷ vs) e = absurd cc

      none-earlier : (vs : List PartialVariable) → all_off [] vs ≡ true
      none-earlier [] = refl
      none-earlier (v ∷ vs) = none-earlier vs
