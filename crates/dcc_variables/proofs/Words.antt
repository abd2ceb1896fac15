-- The names of a text differ: each kind begins in its own way, and within a kind numbers and offsets differ.
use Rattle.std.proofs.Common.{◌≡◌, ℕ, Some, ◌+◌, ◌<◌, ◌^◌, Bool, true, false, ◌==◌, inl, inr, List, [], ◌∷◌, ◌++◌, length, map, append_assoc, refl, sym, ap, ◌∙◌, true≢false, eqb-true, arith}
use Rattle.std.specs.Prelude.{◌&&◌, ◌||◌, not, filter, codes, if◌then◌else◌, All}
use Rattle.std.specs.List.{list_all, list_any}
use Rattle.std.proofs.lemmas.Bool.{and_from, and_parts, eqb-false, not-true, not_from_false, or_from, or_parts, false_from_ne_true}
use Rattle.std.proofs.lemmas.List.{append-nil}
use Rattle.std.proofs.lemmas.List.Elements.{All-head, All-tail}
use Rattle.std.proofs.lemmas.List.Folds.{list_all-append, list_any-append}
use Rattle.dcc_ir.specs.declared.syntax.Loc.{Loc}
use Rattle.dcc_ir.specs.declared.syntax.Param.{Param}
use Rattle.dcc_ir.specs.Tree.{Graph, Program}
use Rattle.dcc_ir.specs.WellFormed.{IsGraph, IsProgram}
use Rattle.dcc_ir.specs.WellFormed as formed
use Rattle.dcc_c.proofs.NameLaws.{same_bytes-equal}
use Rattle.dcc_c.specs.declared.syntax.Base.TheVariants.{Uchar}
use Rattle.dcc_c.specs.declared.syntax.Class.TheVariants.{Auto}
use Rattle.dcc_c.specs.Types.{plain}
use Rattle.dcc_c.specs.Dos.{dos_names}
use Rattle.dcc_c.specs.Grammar.{is_among}
use Rattle.dcc_c.specs.Rules.{all_differ, names_of, known_names, own_variables}
use Rattle.dcc_c.specs.Token.{same_bytes}
use Rattle.dcc_c.specs.Tree.{Word, Global, Variable, Function, Tree}
use Rattle.dcc_text.proofs.HexLaws.{name_at-differ}
use Rattle.dcc_variables.specs.Globals.{is_data_name, HaveNames}
use Rattle.dcc_variables.specs.Laws.{AreFew}
use Rattle.dcc_variables.specs.Variables.{locations, Shape, shape_of, frame_name, variable, frame_array, declarations}
use Rattle.dcc_variables.proofs.Declared.{own-differ}
use Rattle.dcc_variables.specs.Functions.{function_name, function_names, parameter_name, parameters_from, parameters, memory_from, is_own, function_shape, own_declarations}
use Rattle.dcc_variables.proofs.FramePlaces.{fewer-bytes}
use Rattle.dcc_variables.proofs.ParamNames.{places-apart}

-- Lists of names.

abbrev Passes : (Word → Bool) → List Word → Type 0
Passes test words = list_all test words ≡ true

abbrev Fails : (Word → Bool) → List Word → Type 0
Fails test words = list_all (λ word. not (test word)) words ≡ true

-- a name that passes is none of those that fail
none-there : (test : Word → Bool) (words : List Word) (word : Word) → test word ≡ true → Fails test words → is_among words word ≡ false
none-there test [] word passes fail = refl
none-there test (w ∷ words) word passes fail =
    let (here, rest) = and_parts (not (test w)) (list_all (λ v. not (test v)) words) fail in
    or_from (same_bytes word w) (is_among words word)
    (false_from_ne_true _ (λ same. true≢false (sym passes ∙ ap test (same_bytes-equal word w same) ∙ not-true (test w) here)))
    (none-there test words word passes rest)

-- names that pass and others that fail differ
differ-join : (test : Word → Bool) (xs ys : List Word) → Passes test xs → Fails test ys → all_differ xs ≡ true → all_differ ys ≡ true → all_differ (xs ++ ys) ≡ true
differ-join test [] ys pass fail first second = second
differ-join test (x ∷ xs) ys pass fail first second =
    let (here, others) = and_parts (test x) (list_all test xs) pass in
    let (apart, rest) = and_parts (not (is_among xs x)) (all_differ xs) first in
    and_from (not (is_among (xs ++ ys) x)) (all_differ (xs ++ ys))
    (not_from_false (is_among (xs ++ ys) x)
    (list_any-append (same_bytes x) xs ys ∙ or_from (is_among xs x) (is_among ys x) (not-true (is_among xs x) apart) (none-there test ys x here fail)))
    (differ-join test xs ys others fail rest second)

-- the first of two lists of names that differ
differ-first : (xs ys : List Word) → all_differ (xs ++ ys) ≡ true → all_differ xs ≡ true
differ-first [] ys differ = refl
differ-first (x ∷ xs) ys differ =
    let (apart, rest) = and_parts (not (is_among (xs ++ ys) x)) (all_differ (xs ++ ys)) differ in
    and_from (not (is_among xs x)) (all_differ xs)
    (not_from_false (is_among xs x) (or_parts (is_among xs x) (is_among ys x) (sym (list_any-append (same_bytes x) xs ys) ∙ not-true (is_among (xs ++ ys) x) apart)).0)
    (differ-first xs ys rest)

-- the names that a filter leaves
module _ {X : Type 0} (name : X → Word) (P : X → Bool) (ys : List Word) where
  fewer-there : (xs : List X) (word : Word) → is_among (map name xs ++ ys) word ≡ false → is_among (map name (filter P xs) ++ ys) word ≡ false
  fewer-there [] word none = none
  fewer-there (x ∷ xs) word none =
      let (here, rest) = or_parts (same_bytes word (name x)) (is_among (map name xs ++ ys) word) none in
      by (P x) here (fewer-there xs word rest)
    where
      by : (b : Bool) → same_bytes word (name x) ≡ false → is_among (map name (filter P xs) ++ ys) word ≡ false
          → is_among (map name (if b then x ∷ filter P xs else filter P xs) ++ ys) word ≡ false
      by true here rest = or_from (same_bytes word (name x)) (is_among (map name (filter P xs) ++ ys) word) here rest
      by false here rest = rest

  differ-filter : (xs : List X) → all_differ (map name xs ++ ys) ≡ true → all_differ (map name (filter P xs) ++ ys) ≡ true
  differ-filter [] differ = differ
  differ-filter (x ∷ xs) differ =
      let (apart, rest) = and_parts (not (is_among (map name xs ++ ys) (name x))) (all_differ (map name xs ++ ys)) differ in
      by (P x) (fewer-there xs (name x) (not-true (is_among (map name xs ++ ys) (name x)) apart)) (differ-filter xs rest)
    where
      by : (b : Bool) → is_among (map name (filter P xs) ++ ys) (name x) ≡ false → all_differ (map name (filter P xs) ++ ys) ≡ true
          → all_differ (map name (if b then x ∷ filter P xs else filter P xs) ++ ys) ≡ true
      by true apart rest = and_from (not (is_among (map name (filter P xs) ++ ys) (name x))) (all_differ (map name (filter P xs) ++ ys)) (not_from_false _ apart) rest
      by false apart rest = rest

-- How names begin.

abbrev begins : ℕ → Word → Bool
begins byte [] = false
begins byte (b ∷ word) = b == byte

-- names of global variables begin otherwise than with these
data_names-otherwise : (byte : ℕ) → (byte == 103) ≡ false → (byte == 100) ≡ false → (word : Word) → is_data_name word ≡ true → not (begins byte word) ≡ true
data_names-otherwise byte one two [] is = absurd (true≢false (sym is))
data_names-otherwise byte one two (a ∷ []) is = absurd (true≢false (sym is))
data_names-otherwise byte one two (a ∷ b ∷ word) is =
    not_from_false (a == byte) (false_from_ne_true _ (λ same.
    let e = eqb-true a byte same in
    let none : ((a == 103) || (a == 100)) ≡ false =
    or_from (a == 103) (a == 100) (ap (λ x. x == 103) e ∙ one) (ap (λ x. x == 100) e ∙ two) in
    true≢false (sym (and_parts ((a == 103) || (a == 100)) (b == 95) is).0 ∙ none)))

all-pass : (test more : Word → Bool) → ((word : Word) → test word ≡ true → more word ≡ true) → (words : List Word) → Passes test words → Passes more words
all-pass test more each [] pass = refl
all-pass test more each (w ∷ words) pass =
    let (here, rest) = and_parts (test w) (list_all test words) pass in
    and_from (more w) (list_all more words) (each w here) (all-pass test more each words rest)

-- Functions.

-- the offsets of functions differ, and so do their names
functions-differ : (graphs : List Graph) → All IsGraph graphs → formed.all_differ (map (λ g. g.entry) graphs) ≡ true → all_differ (map (λ g. function_name g.entry) graphs) ≡ true
functions-differ [] are differ = refl
functions-differ (g ∷ graphs) are differ =
    let (apart, rest) = and_parts (not (list_any (λ m. g.entry == m) (map (λ x. x.entry) graphs))) (formed.all_differ (map (λ x. x.entry) graphs)) differ in
    let others = All-tail IsGraph g graphs are in
    and_from (not (is_among (map (λ x. function_name x.entry) graphs) (function_name g.entry))) (all_differ (map (λ x. function_name x.entry) graphs))
    (not_from_false _ (none graphs others (not-true _ apart))) (functions-differ graphs others rest)
  where
    first : g.entry < 65536
    first = (All-head IsGraph g graphs are).entry

    none : (graphs : List Graph) → All IsGraph graphs → list_any (λ m. g.entry == m) (map (λ (x : Graph). x.entry) graphs) ≡ false
        → is_among (map (λ (x : Graph). function_name x.entry) graphs) (function_name g.entry) ≡ false
    none [] are away = refl
    none (x ∷ graphs) are away =
        let (here, rest) = or_parts (g.entry == x.entry) (list_any (λ m. g.entry == m) (map (λ (y : Graph). y.entry) graphs)) away in
        or_from (same_bytes (function_name g.entry) (function_name x.entry)) (is_among (map (λ (y : Graph). function_name y.entry) graphs) (function_name g.entry))
        (name_at-differ (codes "f_") g.entry x.entry first (All-head IsGraph x graphs are).entry (eqb-false g.entry x.entry here))
        (none graphs (All-tail IsGraph x graphs are) rest)

all-functions : (test : Word → Bool) → ((entry : ℕ) → test (function_name entry) ≡ true) → (graphs : List Graph) → Passes test (map (λ g. function_name g.entry) graphs)
all-functions test each [] = refl
all-functions test each (g ∷ graphs) = and_from (test (function_name g.entry)) _ (each g.entry) (all-functions test each graphs)

-- the names of functions, then those of the DOS calls
functions-known : (graphs : List Graph) → All IsGraph graphs → formed.all_differ (map (λ g. g.entry) graphs) ≡ true → all_differ (function_names graphs ++ dos_names) ≡ true
functions-known [] are differ = refl
functions-known (g ∷ graphs) are differ =
    let rest = (and_parts (not (list_any (λ m. g.entry == m) (map (λ x. x.entry) graphs))) (formed.all_differ (map (λ x. x.entry) graphs)) differ).1 in
    differ-join (begins 115) (codes "start" ∷ []) (map (λ x. function_name x.entry) graphs ++ dos_names) refl
    (list_all-append (λ w. not (begins 115 w)) (map (λ (x : Graph). function_name x.entry) graphs) dos_names ∙ and_from _ _ (all-functions (λ w. not (begins 115 w)) (λ entry. refl) graphs) refl) refl
    (differ-join (begins 102) (map (λ x. function_name x.entry) graphs) dos_names (all-functions (begins 102) (λ entry. refl) graphs) refl (functions-differ graphs (All-tail IsGraph g graphs are) rest) refl)

-- All known names.

functions-begin : (test : Word → Bool) → test (codes "start") ≡ true → ((entry : ℕ) → test (function_name entry) ≡ true) → Passes test dos_names → (graphs : List Graph)
    → Passes test (function_names graphs ++ dos_names)
functions-begin test start each dos [] = dos
functions-begin test start each dos (g ∷ graphs) =
    and_from (test (codes "start")) _ start (list_all-append test (map (λ (x : Graph). function_name x.entry) graphs) dos_names ∙ and_from _ _ (all-functions test each graphs) dos)

module _ (gs : List Global) (have : HaveNames gs) (p : Program) (well : IsProgram p) where
  abbrev data_names : List Word
  data_names = map (λ (x : Global). x.name) gs

  abbrev pub known : List Word
  known = data_names ++ (function_names p.graphs ++ dos_names)

  pub known-apart : all_differ known ≡ true
  known-apart =
      differ-join is_data_name data_names (function_names p.graphs ++ dos_names)
      have.begin (functions-begin (λ w. not (is_data_name w)) refl (λ entry. refl) refl p.graphs)
      have.differ (functions-known p.graphs well.graphs well.entries)

  -- all known names begin otherwise than parameters and variables
  known-begin : (test : Word → Bool) → ((word : Word) → is_data_name word ≡ true → test word ≡ true) → test (codes "start") ≡ true → ((entry : ℕ) → test (function_name entry) ≡ true) → Passes test dos_names → Passes test known
  known-begin test each start entries dos =
      list_all-append test data_names (function_names p.graphs ++ dos_names)
      ∙ and_from _ _ (all-pass is_data_name test each data_names have.begin) (functions-begin test start entries dos p.graphs)

-- Parameters.

parameters-begin : (test : Word → Bool) → ((place : ℕ) → test (parameter_name place) ≡ true) → (bits : List ℕ) (j : ℕ) (params : List Param) → Passes test (names_of (parameters_from bits j params))
parameters-begin test each bits j [] = refl
parameters-begin test each bits j (x ∷ params) = and_from (test (parameter_name j)) _ (each j) (parameters-begin test each bits (j + 1) params)

parameters-differ : (bits : List ℕ) (j : ℕ) (params : List Param) → j + length params < 2 ^ 63 → all_differ (names_of (parameters_from bits j params)) ≡ true
parameters-differ bits j [] few = refl
parameters-differ bits j (x ∷ params) few =
    and_from (not (is_among (names_of (parameters_from bits (j + 1) params)) (parameter_name j))) (all_differ (names_of (parameters_from bits (j + 1) params)))
    (not_from_false _ (later j (j + 1) params (omega arith) (omega (arith, few)))) (parameters-differ bits (j + 1) params (omega (arith, few)))
  where
    later : (j k : ℕ) (params : List Param) → j < k → k + length params < 2 ^ 63 → is_among (names_of (parameters_from bits k params)) (parameter_name j) ≡ false
    later j k [] less few = refl
    later j k (x ∷ params) less few =
        or_from (same_bytes (parameter_name j) (parameter_name k)) (is_among (names_of (parameters_from bits (k + 1) params)) (parameter_name j))
        (places-apart j k less (omega (arith, few))) (later j (k + 1) params (omega (arith, less)) (omega (arith, few)))

-- Variables.

names-append : (xs ys : List Variable) → names_of (xs ++ ys) ≡ names_of xs ++ names_of ys
names-append [] ys = refl
names-append (x ∷ xs) ys = ap (λ ws. x.name ∷ ws) (names-append xs ys)

module _ (g : Graph) (few : AreFew (shape_of g)) (few_params : length g.params < 2 ^ 32) (formed_graph : IsGraph g) where
  abbrev shape : Shape
  shape = shape_of g

  named-again : (xs : List Loc) → names_of (map (variable shape) xs) ≡ map (λ l. (variable shape l).name) xs
  named-again [] = refl
  named-again (x ∷ xs) = ap (λ ws. (variable shape x).name ∷ ws) (named-again xs)

  -- how many bytes the array has
  abbrev bytes : ℕ
  bytes = (function_shape g).frame

  abbrev names_with : ℕ → List Loc → List Word
  names_with count xs = map (λ l. (variable shape l).name) xs ++ names_of (frame_array count)

  abbrev own_names : List Loc → List Word
  own_names xs = names_with bytes xs

  own-is : (count : ℕ) (xs : List Loc) → names_of (map (variable shape) xs ++ frame_array count) ≡ names_with count xs
  own-is count xs = names-append (map (variable shape) xs) (frame_array count) ∙ ap (λ ws. ws ++ names_of (frame_array count)) (named-again xs)

  own-begin : (test : Word → Bool) → ((word : Word) → test (118 ∷ word) ≡ true) → (xs : List Loc) → Passes test (own_names xs)
  own-begin test each [] = by (bytes == 0)
    where
      by : (none : Bool) → Passes test (names_of (if none then [] else record { name = frame_name; type = plain Uchar; len = Some bytes; class = Auto } ∷ []))
      by true = refl
      by false = and_from _ true (each _) refl
  own-begin test each (x ∷ xs) = and_from _ _ (each _) (own-begin test each xs)

  module _ (gs : List Global) (have : HaveNames gs) (p : Program) (well : IsProgram p) where
    -- the names with the array of all addresses differ, so those without an array do
    names-apart : all_differ (own_names (locations g)) ≡ true
    names-apart =
        let all = ap all_differ (sym (own-is shape.frame (locations g))) ∙ own-differ g few formed_graph in
        elim (fewer-bytes (memory_from 0 g.params) g) [
          | inl none ↦
              ap (λ count. all_differ (names_with count (locations g))) none
              ∙ ap all_differ (append-nil (map (λ l. (variable shape l).name) (locations g)))
              ∙ differ-first (map (λ l. (variable shape l).name) (locations g)) (names_of (frame_array shape.frame)) all
          | inr same ↦ ap (λ count. all_differ (names_with count (locations g))) same ∙ all
        ]

    own-apart : all_differ (own_names (filter (is_own g) (locations g))) ≡ true
    own-apart =
        differ-filter (λ l. (variable shape l).name) (is_own g) (names_of (frame_array bytes)) (locations g) names-apart

    abbrev own : List Word
    own = own_names (filter (is_own g) (locations g))

    pub all-apart : all_differ (names_of (parameters g ++ own_declarations g) ++ known gs have p well) ≡ true
    all-apart =
        let names = names_of (parameters g) in
        ap (λ ws. all_differ (ws ++ known gs have p well)) (names-append (parameters g) (own_declarations g) ∙ ap (λ ws. names ++ ws) (own-is bytes (filter (is_own g) (locations g))))
        ∙ ap all_differ (append_assoc names own (known gs have p well))
        ∙ differ-join (begins 112) names (own ++ known gs have p well) (parameters-begin (begins 112) (λ place. refl) g.bits 0 g.params)
        (list_all-append (λ w. not (begins 112 w)) own (known gs have p well) ∙ and_from _ _ (own-begin (λ w. not (begins 112 w)) (λ word. refl) (filter (is_own g) (locations g)))
        (known-begin gs have p well (λ w. not (begins 112 w)) (data_names-otherwise 112 refl refl) refl (λ entry. refl) refl)) (parameters-differ g.bits 0 g.params (omega (arith, few_params)))
        (differ-join (begins 118) own (known gs have p well) (own-begin (begins 118) (λ word. refl) (filter (is_own g) (locations g)))
        (known-begin gs have p well (λ w. not (begins 118 w)) (data_names-otherwise 118 refl refl) refl (λ entry. refl) refl) own-apart (known-apart gs have p well))

-- The names of a text.

module _ (p : Program) (tree : Tree) (well : IsProgram p) (have : HaveNames tree.globals) (functions : map (λ (f : Function). f.name) tree.functions ≡ function_names p.graphs) where
  known-is : known_names tree ≡ known tree.globals have p well
  known-is = ap (λ ws. map (λ (x : Global). x.name) tree.globals ++ (ws ++ dos_names)) functions

  pub known-differ-all : all_differ (known_names tree) ≡ true
  known-differ-all = ap all_differ known-is ∙ known-apart tree.globals have p well

  pub own-differ-all : (g : Graph) → AreFew (shape_of g) → length g.params < 2 ^ 32 → IsGraph g → (f : Function) → f.params ≡ parameters g → f.locals ≡ own_declarations g
      → all_differ (names_of (own_variables f) ++ known_names tree) ≡ true
  own-differ-all g few few_params formed_graph f params locals =
      ap (λ ws. all_differ (names_of (own_variables f) ++ ws)) known-is
      ∙ ap (λ vs. all_differ (names_of (vs ++ f.locals) ++ known tree.globals have p well)) params
      ∙ ap (λ vs. all_differ (names_of (parameters g ++ vs) ++ known tree.globals have p well)) locals
      ∙ all-apart g few few_params formed_graph tree.globals have p well
