-- What is known in a function of a complete text is what is known in the function of its tree.
use Rattle.std.proofs.Common.{◌≡◌, Bool, true, false, ◌||◌, List, [], ◌∷◌, ◌++◌, map, Option, Some, None, refl, sym, ap, ◌∙◌, append-nil}
use Rattle.std.proofs.lemmas.List.{map-append}
use Rattle.std.specs.Prelude.{not, is_some, option_map, if◌then◌else◌}
use Rattle.std.specs.List.{list_all}
use Rattle.dcc_c.specs.Token.{same_bytes}
use Rattle.dcc_c.specs.Tree.{Word, Variable, Global, Function}
use Rattle.dcc_c.specs.Placement.{is_auto, is_register}
use Rattle.dcc_c.specs.Typing.{Declared, declared_as}
use Rattle.dcc_c.specs.Dos.{Dos, Signature, all_dos, dos_name, dos_names, dos_in, dos_of, dos_signature}
use Rattle.dcc_c.specs.Grammar.{is_among}
use Rattle.dcc_c.specs.Run.{function_in}
use Rattle.dcc_c.specs.Rules.{names_of, known_names, own_variables, all_differ, declared_in, declared_param, declared_local, declared_global, signature_in, signature_of as tree_signature}
use Rattle.dcc_c.specs.Partial.{NumberAt, PartialVariable, PartialFunction, PartialText}
use Rattle.dcc_c.specs.Known.{Known, known_dos, known_as, known_functions}
use Rattle.dcc_c.specs.TextOffences.{declared_of, scene_of, known_in}
use Rattle.dcc_c.specs.Stripped.{plain_name, plain_type, plain_variable, plain_global, plain_function, plain_text}
use Rattle.dcc_c.specs.Complete.{is_complete_variable, is_complete_function}
use Rattle.dcc_c.proofs.NameLaws.{same_bytes-equal}
use Rattle.dcc_c.proofs.refusals.ExprRules.{and-both, true-false, or-left, or-right}
use Rattle.dcc_c.proofs.refusals.ListRules.{none_among, not-true-false, bytes-symmetric}
use Rattle.dcc_c.proofs.refusals.BodyRules.{IsScene, Knows}
use Rattle.dcc_c.proofs.refusals.KnownRules.{declared_plain, declared-all, CompleteFunction, known_plain, known-all, same-signature, signature_if}
use Rattle.dcc_c.proofs.refusals.FunctionRules.{append-differ}

-- Variables.

some-map : (size : Option NumberAt) → is_some size ≡ is_some (option_map (λ (n : NumberAt). n.value) size)
some-map None = refl
some-map (Some n) = refl

params-are : (vs : List PartialVariable) → map (declared_plain (λ v. not (is_register v.class))) vs ≡ map declared_param (map plain_variable vs)
params-are [] = refl
params-are (v ∷ vs) =
    ap (λ b. record { name = plain_name v.name; type = plain_type v.type; is_array = b; is_placed = not (is_register v.class) } ∷ map (declared_plain (λ u. not (is_register u.class))) vs) (some-map v.size)
    ∙ ap (λ l. declared_param (plain_variable v) ∷ l) (params-are vs)

locals-are : (vs : List PartialVariable) → map (declared_plain (λ v. is_auto v.class)) vs ≡ map declared_local (map plain_variable vs)
locals-are [] = refl
locals-are (v ∷ vs) =
    ap (λ b. record { name = plain_name v.name; type = plain_type v.type; is_array = b; is_placed = is_auto v.class } ∷ map (declared_plain (λ u. is_auto u.class)) vs) (some-map v.size)
    ∙ ap (λ l. declared_local (plain_variable v) ∷ l) (locals-are vs)

globals-are : (vs : List PartialVariable) → map (declared_plain (λ v. true)) vs ≡ map declared_global (map plain_global vs)
globals-are [] = refl
globals-are (v ∷ vs) =
    ap (λ b. record { name = plain_name v.name; type = plain_type v.type; is_array = b; is_placed = true } ∷ map (declared_plain (λ u. true)) vs) (some-map v.size)
    ∙ ap (λ l. declared_global (plain_global v) ∷ l) (globals-are vs)

-- Signatures.

all-known : (ks : List Known) → list_all (λ k. is_some k.signature) ks ≡ true → (word : Word) (k : Known) → known_as ks word ≡ Some k → is_some k.signature ≡ true
all-known [] all word k e = absurd cc
all-known (x ∷ ks) all word k e =
    let parts = and-both (is_some x.signature) (list_all (λ (k : Known). is_some k.signature) ks) all in
    elim (same_bytes x.name word) as (λ b. (if b then Some x else known_as ks word) ≡ Some k → is_some k.signature ≡ true) [
      | true ↦ λ here. ap (λ (o : Option Known). elim o [ Some y ↦ is_some y.signature | None ↦ true ]) (sym here) ∙ parts.0
      | false ↦ λ later. all-known ks parts.1 word k later
    ] e

functions-known : (fs : List PartialFunction) → list_all (λ k. is_some k.signature) (map known_plain fs) ≡ true
functions-known [] = refl
functions-known (f ∷ fs) = functions-known fs

some-there : {A : Type 0} (o : Option A) → is_some o ≡ true → (x : A) × (o ≡ Some x)
some-there (Some x) e = (x, refl)
some-there None e = absurd cc

-- The text and its tree.

module _ (text : PartialText) (globals : list_all is_complete_variable text.globals ≡ true) (functions : list_all is_complete_function text.functions ≡ true) where
  functions-are : (known_in text []).functions ≡ known_dos ++ map known_plain text.functions
  functions-are = ap (λ l. known_dos ++ l) (append-nil (known_functions text.functions) ∙ known-all text.functions functions)

  signature-same : (word : Word) → signature_if (known_as (known_in text []).functions word) ≡ signature_in (plain_text text) word
  signature-same word = ap (λ l. signature_if (known_as l word)) functions-are ∙ same-signature (plain_text text) text.functions word refl

  -- the scene of a function is that of the tree's function
  pub is-scene : (f : PartialFunction) → CompleteFunction f → (labels : List Word) → IsScene (plain_text text) (plain_function f) (scene_of (known_in text []) labels f)
  is-scene f c labels = record {
    names = ap (λ l. l ++ (declared_of (λ v. is_auto v.class) f.locals ++ declared_of (λ v. true) text.globals)) (declared-all (λ v. not (is_register v.class)) f.params c.params ∙ params-are f.params)
        ∙ ap (λ l. map declared_param (map plain_variable f.params) ++ (l ++ declared_of (λ v. true) text.globals)) (declared-all (λ v. is_auto v.class) f.locals c.locals ∙ locals-are f.locals)
        ∙ ap (λ l. map declared_param (map plain_variable f.params) ++ (map declared_local (map plain_variable f.locals) ++ l)) (declared-all (λ v. true) text.globals globals ∙ globals-are text.globals);
    result = refl;
    has_result = c.has_result;
    known = λ word k _ found.
        let all = all-known (known_dos ++ map known_plain text.functions) (functions-known text.functions) word k (ap (λ l. known_as l word) (sym functions-are) ∙ found) in
        let s = some-there k.signature all in
        (s.0, s.1, sym (signature-same word) ∙ ap signature_if found ∙ s.1);
  }

  -- Names.

  among-function : (fs : List Function) (word : Word) (signature : Signature) → option_map tree_signature (function_in fs word) ≡ Some signature → is_among (map (λ f. f.name) fs) word ≡ true
  among-function [] word signature e = absurd cc
  among-function (f ∷ fs) word signature e = elim (same_bytes f.name word) as (λ b. same_bytes f.name word ≡ b → option_map tree_signature (if b then Some f else function_in fs word) ≡ Some signature → same_bytes word f.name || is_among (map (λ (g : Function). g.name) fs) word ≡ true) [
    | true ↦ λ here _. rw (bytes-symmetric word f.name ∙ here) refl
    | false ↦ λ other later. rw (bytes-symmetric word f.name ∙ other) (among-function fs word signature later)
  ] refl e

  among-dos : (dos : List Dos) (word : Word) (d : Dos) → dos_in dos word ≡ Some d → is_among (map dos_name dos) word ≡ true
  among-dos [] word d e = absurd cc
  among-dos (x ∷ dos) word d e = elim (same_bytes (dos_name x) word) as (λ b. same_bytes (dos_name x) word ≡ b → (if b then Some x else dos_in dos word) ≡ Some d → same_bytes word (dos_name x) || is_among (map dos_name dos) word ≡ true) [
    | true ↦ λ here _. rw (bytes-symmetric word (dos_name x) ∙ here) refl
    | false ↦ λ other later. rw (bytes-symmetric word (dos_name x) ∙ other) (among-dos dos word d later)
  ] refl e

  among-left : (xs ys : List Word) (word : Word) → is_among xs word ≡ true → is_among (xs ++ ys) word ≡ true
  among-left [] ys word e = absurd cc
  among-left (x ∷ xs) ys word e = elim (same_bytes word x) as (λ b. b || is_among xs word ≡ true → b || is_among (xs ++ ys) word ≡ true) [
    | true ↦ λ _. refl
    | false ↦ λ later. among-left xs ys word later
  ] e

  among-right : (xs ys : List Word) (word : Word) → is_among ys word ≡ true → is_among (xs ++ ys) word ≡ true
  among-right [] ys word e = e
  among-right (x ∷ xs) ys word e = rw (among-right xs ys word e) (or-true (same_bytes word x)) where
    or-true : (b : Bool) → b || true ≡ true
    or-true true = refl
    or-true false = refl

  -- a word that has a signature is the name of a function
  among-known : (word : Word) (signature : Signature) → signature_in (plain_text text) word ≡ Some signature →
      is_among (map (λ f. f.name) (map plain_function text.functions) ++ dos_names) word ≡ true
  among-known word signature e = elim (dos_of word) as (λ o. dos_of word ≡ o → (elim o [ Some d ↦ Some (dos_signature d) | None ↦ option_map tree_signature (function_in (map plain_function text.functions) word) ]) ≡ Some signature →
      is_among (map (λ (f : Function). f.name) (map plain_function text.functions) ++ dos_names) word ≡ true) [
        | Some d ↦ λ is _. among-right (map (λ (f : Function). f.name) (map plain_function text.functions)) dos_names word (among-dos all_dos word d is)
        | None ↦ λ _ later. among-left (map (λ (f : Function). f.name) (map plain_function text.functions)) dos_names word (among-function (map plain_function text.functions) word signature later)
      ] refl e

  -- a word of the second list is none of the first
  apart-words : (ys xs : List Word) (word : Word) → none_among ys xs ≡ true → is_among ys word ≡ true → is_among xs word ≡ false
  apart-words ys [] word none there = refl
  apart-words ys (x ∷ xs) word none there =
      let parts = and-both (not (is_among ys x)) (none_among ys xs) none in
      elim (same_bytes word x) as (λ b. same_bytes word x ≡ b → b || is_among xs word ≡ false) [
        | true ↦ λ here. absurd (true-false (sym there ∙ ap (is_among ys) (same_bytes-equal word x here) ∙ not-true-false (is_among ys x) parts.0))
        | false ↦ λ _. apart-words ys xs word parts.1 there
      ] refl

  -- no variable has the name
  declared-none : (names : List Declared) (word : Word) → is_among (map (λ d. d.name) names) word ≡ false → declared_as names word ≡ None
  declared-none [] word e = refl
  declared-none (d ∷ names) word e =
      rw (bytes-symmetric d.name word ∙ or-left (same_bytes word d.name) (is_among (map (λ (d : Declared). d.name) names) word) e)
      (declared-none names word (or-right (same_bytes word d.name) (is_among (map (λ (d : Declared). d.name) names) word) e))

  names-declared : (params locals : List Variable) (globals : List Global) →
      map (λ (d : Declared). d.name) (map declared_param params ++ (map declared_local locals ++ map declared_global globals)) ≡ (names_of params ++ names_of locals) ++ map (λ g. g.name) globals
  names-declared [] [] [] = refl
  names-declared [] [] (g ∷ globals) = ap (λ l. g.name ∷ l) (names-declared [] [] globals)
  names-declared [] (v ∷ locals) globals = ap (λ l. v.name ∷ l) (names-declared [] locals globals)
  names-declared (v ∷ params) locals globals = ap (λ l. v.name ∷ l) (names-declared params locals globals)

  both-absent : (xs ys : List Word) (word : Word) → is_among xs word ≡ false → is_among ys word ≡ false → is_among (xs ++ ys) word ≡ false
  both-absent [] ys word e g = g
  both-absent (x ∷ xs) ys word e g =
      rw (or-left (same_bytes word x) (is_among xs word) e) (both-absent xs ys word (or-right (same_bytes word x) (is_among xs word) e) g)

  -- functions are known, and no variables, where no name stands twice
  pub knows : (f : PartialFunction) (c : CompleteFunction f) (labels : List Word) →
      all_differ (names_of (own_variables (plain_function f)) ++ known_names (plain_text text)) ≡ true → all_differ (known_names (plain_text text)) ≡ true →
      Knows (plain_text text) (scene_of (known_in text []) labels f)
  knows f c labels own all word signature e =
      let functions_there = among-known word signature e in
      let globals_apart = append-differ (map (λ (g : Global). g.name) (map plain_global text.globals)) (map (λ (f : Function). f.name) (map plain_function text.functions) ++ dos_names) all in
      let own_apart = append-differ (names_of (own_variables (plain_function f))) (known_names (plain_text text)) own in
      let no_global = apart-words (map (λ (f : Function). f.name) (map plain_function text.functions) ++ dos_names) (map (λ (g : Global). g.name) (map plain_global text.globals)) word globals_apart.2 functions_there in
      let no_own = apart-words (known_names (plain_text text)) (names_of (own_variables (plain_function f))) word own_apart.2
      (among-right (map (λ (g : Global). g.name) (map plain_global text.globals)) (map (λ (f : Function). f.name) (map plain_function text.functions) ++ dos_names) word functions_there) in
      let scene = is-scene f c labels in
      let found = signature-found (known_as (known_in text []).functions word) signature (signature-same word ∙ e) in
      record {
        no_variable = ap (λ l. declared_as l word) scene.names ∙ declared-none (declared_in (plain_text text) (plain_function f)) word
            (ap (λ l. is_among l word) (names-declared (map plain_variable f.params) (map plain_variable f.locals) (map plain_global text.globals)
            ∙ ap (λ l. l ++ map (λ (g : Global). g.name) (map plain_global text.globals)) (sym (map-append (λ (v : Variable). v.name) (map plain_variable f.params) (map plain_variable f.locals))))
            ∙ both-absent (names_of (own_variables (plain_function f))) (map (λ (g : Global). g.name) (map plain_global text.globals)) word no_own no_global);
        known = found.0;
        found = found.1;
        is = found.2;
      } where
        signature-found : (o : Option Known) (signature : Signature) → signature_if o ≡ Some signature → (k : Known) × (o ≡ Some k) × (k.signature ≡ Some signature)
        signature-found (Some k) signature e = (k, refl, e)
        signature-found None signature e = absurd cc
