-- What a complete text knows is what its tree knows: names, variables and functions.
use Rattle.std.proofs.Common.{◌≡◌, ℕ, Bool, true, false, ◌&&◌, ◌==◌, List, [], ◌∷◌, ◌++◌, length, map, Option, Some, None, refl, sym, ap, ◌∙◌}
use Rattle.std.specs.Prelude.{is_some, option_map, if◌then◌else◌}
use Rattle.std.specs.List.{list_all}
use Rattle.dcc_c.specs.declared.syntax.CType.{CType}
use Rattle.dcc_c.specs.Token.{same_bytes}
use Rattle.dcc_c.specs.Tree.{Word, Variable, Tree}
use Rattle.dcc_c.specs.Typing.{Declared}
use Rattle.dcc_c.specs.Dos.{Dos, Signature, all_dos, dos_name, dos_in, dos_of, dos_signature}
use Rattle.dcc_c.specs.Run.{function_in}
use Rattle.dcc_c.specs.Rules.{signature_in, signature_of as tree_signature}
use Rattle.dcc_c.specs.Partial.{WordAt, PartialVariable, PartialFunction}
use Rattle.dcc_c.specs.Known.{Known, known, known_dos, known_as, type_list, signature_of, known_named, known_of, known_functions}
use Rattle.dcc_c.specs.TextOffences.{name_list, words_of, declared_of, function_names}
use Rattle.dcc_c.specs.Stripped.{plain_name, plain_type, plain_variable, plain_function}
use Rattle.dcc_c.specs.Complete.{agree, is_complete_lines, are_within, is_complete_variable, is_complete_function}
use Rattle.dcc_c.proofs.refusals.ExprRules.{and-both}

-- A complete variable has a name and a type.
pub record Complete (v : PartialVariable) : Type 0 where
  pub name : WordAt
  pub type : CType
  pub name_is : v.name ≡ Some name
  pub type_is : v.type ≡ Some type
  pub done : v.done ≡ true

some-there : {A : Type 0} (o : Option A) → is_some o ≡ true → (x : A) × (o ≡ Some x)
some-there (Some x) e = (x, refl)
some-there None e = absurd cc

pub complete-variable : (v : PartialVariable) → is_complete_variable v ≡ true → Complete v
complete-variable v whole =
    let parts = and-both (is_some v.name) (is_some v.type && v.done) whole in
    let others = and-both (is_some v.type) v.done parts.1 in
    let name = some-there v.name parts.0 in
    let type = some-there v.type others.0 in
    record { name = name.0; type = type.0; name_is = name.1; type_is = type.1; done = others.1 }

-- the names of variables
pub name-words : (vs : List PartialVariable) → list_all is_complete_variable vs ≡ true → words_of (name_list vs) ≡ map (λ v. plain_name v.name) vs
name-words [] whole = refl
name-words (v ∷ vs) whole =
    let parts = and-both (is_complete_variable v) (list_all is_complete_variable vs) whole in
    let c = complete-variable v parts.0 in
    ap (λ (o : Option WordAt). words_of (elim o [ Some name ↦ name ∷ name_list vs | None ↦ name_list vs ])) c.name_is
    ∙ ap (λ l. c.name.word ∷ l) (name-words vs parts.1)
    ∙ ap (λ o. plain_name o ∷ map (λ (v : PartialVariable). plain_name v.name) vs) (sym c.name_is)

-- what variables are declared as
module _ (is_placed : PartialVariable → Bool) where
  abbrev pub declared_plain : PartialVariable → Declared
  declared_plain v = record { name = plain_name v.name; type = plain_type v.type; is_array = is_some v.size; is_placed = is_placed v }

  abbrev pub declared_if : PartialVariable → List Declared → Option WordAt → Option CType → List Declared
  declared_if v rest name type = elim name [
    | None ↦ rest
    | Some n ↦ elim type [ None ↦ rest | Some t ↦ record { name = n.word; type = t; is_array = is_some v.size; is_placed = is_placed v } ∷ rest ]
  ]

  declared-one : (v : PartialVariable) (rest : List Declared) → Complete v → declared_if v rest v.name v.type ≡ declared_plain v ∷ rest
  declared-one v rest c =
      ap (λ o. declared_if v rest o v.type) c.name_is ∙ ap (λ o. declared_if v rest (Some c.name) o) c.type_is
      ∙ ap (λ o. record { name = plain_name o; type = c.type; is_array = is_some v.size; is_placed = is_placed v } ∷ rest) (sym c.name_is)
      ∙ ap (λ o. record { name = plain_name v.name; type = plain_type o; is_array = is_some v.size; is_placed = is_placed v } ∷ rest) (sym c.type_is)

  pub declared-all : (vs : List PartialVariable) → list_all is_complete_variable vs ≡ true → declared_of is_placed vs ≡ map declared_plain vs
  declared-all [] whole = refl
  declared-all (v ∷ vs) whole =
      let parts = and-both (is_complete_variable v) (list_all is_complete_variable vs) whole in
      declared-one v (declared_of is_placed vs) (complete-variable v parts.0) ∙ ap (λ l. declared_plain v ∷ l) (declared-all vs parts.1)

-- the types of parameters
pub types-are : (vs : List PartialVariable) → list_all is_complete_variable vs ≡ true → type_list vs ≡ map (λ v. plain_type v.type) vs
types-are [] whole = refl
types-are (v ∷ vs) whole =
    let parts = and-both (is_complete_variable v) (list_all is_complete_variable vs) whole in
    let c = complete-variable v parts.0 in
    ap (λ (o : Option CType). elim o [ Some type ↦ type ∷ type_list vs | None ↦ type_list vs ]) c.type_is
    ∙ ap (λ l. c.type ∷ l) (types-are vs parts.1)
    ∙ ap (λ o. plain_type o ∷ map (λ (v : PartialVariable). plain_type v.type) vs) (sym c.type_is)

-- Functions.

-- A complete function has a name, and its head was read.
pub record CompleteFunction (f : PartialFunction) : Type 0 where
  pub name : WordAt
  pub opened : ℕ
  pub name_is : f.name ≡ Some name
  pub opened_is : f.opened ≡ Some opened
  pub headed : f.headed ≡ true
  pub has_result : f.has_result ≡ is_some f.result
  pub without : f.without_params ≡ (length f.params == 0)
  pub params : list_all is_complete_variable f.params ≡ true
  pub locals : list_all is_complete_variable f.locals ≡ true
  pub body : is_complete_lines f.body ≡ true
  pub within : are_within 0 f.body ≡ true

agree-same : (a b : Bool) → agree a b ≡ true → a ≡ b
agree-same true b e = sym e
agree-same false true e = absurd cc
agree-same false false e = refl

pub complete-function : (f : PartialFunction) → is_complete_function f ≡ true → CompleteFunction f
complete-function f whole =
    let one = and-both (is_some f.name && (is_some f.opened && f.headed)) _ whole in
    let two = and-both (is_some f.name) (is_some f.opened && f.headed) one.0 in
    let three = and-both (is_some f.opened) f.headed two.1 in
    let four = and-both (agree f.has_result (is_some f.result) && agree f.without_params (length f.params == 0)) _ one.1 in
    let five = and-both (agree f.has_result (is_some f.result)) (agree f.without_params (length f.params == 0)) four.0 in
    let six = and-both (list_all is_complete_variable f.params) _ four.1 in
    let seven = and-both (list_all is_complete_variable f.locals) (is_complete_lines f.body && are_within 0 f.body) six.1 in
    let eight = and-both (is_complete_lines f.body) (are_within 0 f.body) seven.1 in
    let name = some-there f.name two.0 in
    let opened = some-there f.opened three.0 in
    record {
      name = name.0;
      opened = opened.0;
      name_is = name.1;
      opened_is = opened.1;
      headed = three.1;
      has_result = agree-same f.has_result (is_some f.result) five.0;
      without = agree-same f.without_params (length f.params == 0) five.1;
      params = six.0;
      locals = seven.0;
      body = eight.0;
      within = eight.1;
    }

-- the signature of a complete function
pub signature-is : (f : PartialFunction) → CompleteFunction f → signature_of f ≡ Some (tree_signature (plain_function f))
signature-is f c =
    ap (λ (b : Bool). if b then Some (record { result = f.result; params = type_list f.params }) else None) c.headed
    ∙ ap (λ l. Some (record { result = f.result; params = l })) (types-are f.params c.params ∙ sym (map-map f.params)) where
      map-map : (vs : List PartialVariable) → map (λ (v : Variable). v.type) (map plain_variable vs) ≡ map (λ (v : PartialVariable). plain_type v.type) vs
      map-map [] = refl
      map-map (v ∷ vs) = ap (λ l. plain_type v.type ∷ l) (map-map vs)

-- the function as it is known
abbrev pub known_plain : PartialFunction → Known
known_plain f = known (plain_name f.name) (Some (tree_signature (plain_function f)))

known-one : (f : PartialFunction) → CompleteFunction f → known_of f ≡ known_plain f ∷ []
known-one f c =
    ap (λ (o : Option ℕ). if is_some o then known_named f.name (signature_of f) else []) c.opened_is
    ∙ ap (λ o. known_named o (signature_of f)) c.name_is
    ∙ ap (λ s. known c.name.word s ∷ []) (signature-is f c)
    ∙ ap (λ o. known (plain_name o) (Some (tree_signature (plain_function f))) ∷ []) (sym c.name_is)

pub known-all : (fs : List PartialFunction) → list_all is_complete_function fs ≡ true → known_functions fs ≡ map known_plain fs
known-all [] whole = refl
known-all (f ∷ fs) whole =
    let parts = and-both (is_complete_function f) (list_all is_complete_function fs) whole in
    ap (λ l. l ++ known_functions fs) (known-one f (complete-function f parts.0)) ∙ ap (λ l. known_plain f ∷ l) (known-all fs parts.1)

-- the names of functions
pub function-words : (fs : List PartialFunction) → list_all is_complete_function fs ≡ true → words_of (function_names fs) ≡ map (λ f. plain_name f.name) fs
function-words [] whole = refl
function-words (f ∷ fs) whole =
    let parts = and-both (is_complete_function f) (list_all is_complete_function fs) whole in
    let c = complete-function f parts.0 in
    ap (λ (o : Option WordAt). words_of (elim o [ Some name ↦ name ∷ function_names fs | None ↦ function_names fs ])) c.name_is
    ∙ ap (λ l. c.name.word ∷ l) (function-words fs parts.1)
    ∙ ap (λ o. plain_name o ∷ map (λ (f : PartialFunction). plain_name f.name) fs) (sym c.name_is)

-- Signatures.

-- a function that is known has its signature in the tree, and the other way
abbrev pub signature_if : Option Known → Option Signature
signature_if (Some k) = k.signature
signature_if None = None

same-function : (fs : List PartialFunction) (word : Word) →
    signature_if (known_as (map known_plain fs) word) ≡ option_map tree_signature (function_in (map plain_function fs) word)
same-function [] word = refl
same-function (f ∷ fs) word = elim (same_bytes (plain_name f.name) word) as (λ b.
    signature_if (if b then Some (known_plain f) else known_as (map known_plain fs) word)
    ≡ option_map tree_signature (if b then Some (plain_function f) else function_in (map plain_function fs) word)) [
      | true ↦ refl
      | false ↦ same-function fs word
    ]

same-dos : (dos : List Dos) (rest : List Known) (word : Word) →
    signature_if (known_as (map (λ d. known (dos_name d) (Some (dos_signature d))) dos ++ rest) word)
    ≡ (elim (dos_in dos word) [ Some d ↦ Some (dos_signature d) | None ↦ signature_if (known_as rest word) ])
same-dos [] rest word = refl
same-dos (d ∷ dos) rest word = elim (same_bytes (dos_name d) word) as (λ b.
    signature_if (if b then Some (known (dos_name d) (Some (dos_signature d))) else known_as (map (λ d. known (dos_name d) (Some (dos_signature d))) dos ++ rest) word)
    ≡ (elim (if b then Some d else dos_in dos word) [ Some d ↦ Some (dos_signature d) | None ↦ signature_if (known_as rest word) ])) [
      | true ↦ refl
      | false ↦ same-dos dos rest word
    ]

pub same-signature : (tree : Tree) (fs : List PartialFunction) (word : Word) → tree.functions ≡ map plain_function fs →
    signature_if (known_as (known_dos ++ map known_plain fs) word) ≡ signature_in tree word
same-signature tree fs word is =
    same-dos all_dos (map known_plain fs) word
    ∙ ap (λ o. elim (dos_of word) [ Some d ↦ Some (dos_signature d) | None ↦ o ]) (same-function fs word ∙ ap (λ l. option_map tree_signature (function_in l word)) (sym is))
