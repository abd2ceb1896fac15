-- A text runs as it does after changes of names of which none is at fault.
use Rattle.std.proofs.Common.{◌≡◌, true, List, [], ◌∷◌, ◌++◌, map, Option, Some, None, refl, sym, ap, ap₂, ◌∙◌, subst, inl, inr, append_assoc}
use Rattle.std.specs.Prelude.{◌⊎◌, not, codes, is_some, option_map}
use Rattle.std.specs.List.{list_all}
use Rattle.std.proofs.lemmas.Bool.{and_parts, cases_Bool, cond-false}
use Rattle.dcc_c.specs.Dos.{Dos, all_dos, dos_name, dos_names, dos_in, dos_of, dos_signature}
use Rattle.dcc_c.specs.Grammar.{is_among, keywords, is_name}
use Rattle.dcc_c.specs.Rules.{all_differ, names_of, known_names, own_variables, declared_param, declared_local, declared_global, declared_in, signature_of, signature_in, IsAllowedFunction, AreAllowed, one_more}
use Rattle.dcc_c.specs.Run.{function_in}
use Rattle.dcc_c.specs.Token.{same_bytes, is_word}
use Rattle.dcc_c.specs.Tree.{Word, Global, Variable, Function, Tree}
use Rattle.dcc_c.specs.Typing.{Declared, declared_as}
use Rattle.dcc_c.proofs.NameLaws.{same_bytes-equal}
use Rattle.dcc_c.proofs.Writable.{is_writable_global, is_writable_param, is_writable_local, is_writable_function, IsWritable}
use Rattle.dcc_c.proofs.WritableTree.{stands_writable}
use Rattle.dcc_renaming.specs.Faults.{Own, own, own_of, owns, outer_names}
use Rattle.dcc_renaming.specs.Renamed.{changed, outer_now, own_now, renamed_variable, renamed_global, renamed_lines, renamed_function, renamed_by}
use Rattle.dcc_renaming.specs.Alike.{RunAlike, RenamedTextsRunAlike}
use Rattle.dcc_renaming.proofs.AlikeNames.{new_function, new_tree}
use Rattle.dcc_renaming.proofs.AlikeRuns.{texts-alike}
use Rattle.dcc_renaming.proofs.Apart.{IsNamed}
use Rattle.dcc_renaming.proofs.Extended.{all_outer, all_own, outer-at, dos-at, own-at, shared-at, are-names}
use Rattle.dcc_renaming.proofs.Free.{IsFree, changes-free, word-plain}
use Rattle.dcc_renaming.proofs.Members.{In, in-left, in-right, in-cases, in-map, map-in, map-same, in-flat, flat-in, all-in, differ-apart, is_plain}
use Rattle.dcc_renaming.proofs.Uses.{lines-same}

-- The names of a text's tree.

name-plain : (w : Word) → is_name w ≡ true → is_plain w ≡ true
name-plain w is = word-plain w (and_parts (is_word w) (not (is_among keywords w)) is).0

pub allowed-in : (tree : Tree) (functions : List Function) (f : Function) → AreAllowed tree functions → In f functions → IsAllowedFunction tree f
allowed-in tree [] f all is = absurd is
allowed-in tree (g ∷ functions) f (one_more first later) (inl e) = subst (IsAllowedFunction tree) (sym e) first
allowed-in tree (g ∷ functions) f (one_more first later) (inr is) = allowed-in tree functions f later is

-- a variable of a function, which is one of the tree's
pub record IsOwn (tree : Tree) (o : Own) : Type 0 where
  pub function : Function
  pub variable : Variable
  pub has : In function tree.functions
  pub declares : In variable (own_variables function)
  pub is : o ≡ own function.name variable.name

pub own-from : (tree : Tree) (o : Own) → In o (owns tree) → IsOwn tree o
own-from tree o is =
    let s = in-flat own_of tree.functions o is in
    let c = in-map (own s.from.name) (names_of (own_variables s.from)) o s.is in
    let v = in-map (λ (x : Variable). x.name) (own_variables s.from) c.from c.has in
    record { function = s.from; variable = v.from; has = s.has; declares = v.has; is = c.is ∙ ap (own s.from.name) v.is }

pub own-in : (tree : Tree) (f : Function) (v : Variable) → In f tree.functions → In v (own_variables f) → In (own f.name v.name) (owns tree)
own-in tree f v is also =
    flat-in own_of tree.functions f (own f.name v.name) is
    (map-in (own f.name) (names_of (own_variables f)) v.name (map-in (λ (x : Variable). x.name) (own_variables f) v also))

module _ (tree : Tree) (writable : IsWritable tree) where
  globals-names : List Word
  globals-names = map (λ g. g.name) tree.globals

  functions-names : List Word
  functions-names = map (λ f. f.name) tree.functions

  function-name : (f : Function) → In f tree.functions → is_plain f.name ≡ true
  function-name f is = name-plain f.name (and_parts (is_name f.name) _ (all-in is_writable_function tree.functions f writable.functions is)).0

  variable-name : (f : Function) (v : Variable) → In f tree.functions → In v (own_variables f) → is_plain v.name ≡ true
  variable-name f v is also =
      let parts = and_parts (is_name f.name) _ (all-in is_writable_function tree.functions f writable.functions is) in
      let more = and_parts (list_all is_writable_param f.params) _ parts.1 in
      let last = and_parts (list_all is_writable_local f.locals) _ more.1 in
      elim (in-cases v f.params f.locals also) [
        | inl param ↦ name-plain v.name (and_parts (is_name v.name) _ (all-in is_writable_param f.params v more.0 param)).0
        | inr local ↦ name-plain v.name (and_parts (is_name v.name) _ (all-in is_writable_local f.locals v last.0 local)).0
      ]

  outer-name : (w : Word) → In w (outer_names tree) → is_plain w ≡ true
  outer-name w is = elim (in-cases w (map (λ (g : Global). g.name) tree.globals) (map (λ (f : Function). f.name) tree.functions) is) [
    | inl first ↦ let c = in-map (λ (g : Global). g.name) tree.globals w first in
        ap is_plain c.is ∙ name-plain c.from.name (and_parts (is_name c.from.name) _ (all-in is_writable_global tree.globals c.from writable.globals c.has)).0
    | inr second ↦ let c = in-map (λ (f : Function). f.name) tree.functions w second in ap is_plain c.is ∙ function-name c.from c.has
  ]

  outer-known : (w : Word) → In w (outer_names tree) → In w (known_names tree)
  outer-known w is = elim (in-cases w (map (λ (g : Global). g.name) tree.globals) (map (λ (f : Function). f.name) tree.functions) is) [
    | inl first ↦ in-left w (map (λ (g : Global). g.name) tree.globals) _ first
    | inr second ↦ in-right w (map (λ (g : Global). g.name) tree.globals) _ (in-left w (map (λ (f : Function). f.name) tree.functions) dos_names second)
  ]

  function-allowed : (f : Function) → In f tree.functions → IsAllowedFunction tree f
  function-allowed f is = allowed-in tree tree.functions f writable.allowed.functions is

  pub tree-named : IsNamed tree
  tree-named = record {
    outer = outer-name;
    function = λ o is. let c = own-from tree o is in ap (λ (p : Own). is_plain p.function) c.is ∙ function-name c.function c.has;
    name = λ o is. let c = own-from tree o is in ap (λ (p : Own). is_plain p.name) c.is ∙ variable-name c.function c.variable c.has c.declares;
    apart = λ o is outer.
        let c = own-from tree o is in
        let same : o.name ≡ c.variable.name = ap (λ (p : Own). p.name) c.is in
        differ-apart (names_of (own_variables c.function)) (known_names tree) c.variable.name (function-allowed c.function c.has).own_names
        (map-in (λ (x : Variable). x.name) (own_variables c.function) c.variable c.declares)
        (outer-known c.variable.name (subst (λ w. In w (outer_names tree)) same outer));
    dos = λ w is. differ-apart (outer_names tree) dos_names w
        (ap all_differ (append_assoc (map (λ (g : Global). g.name) tree.globals) (map (λ (f : Function). f.name) tree.functions) dos_names) ∙ writable.allowed.names) is;
    start =
        let a = writable.allowed in
        in-right (codes "start") (map (λ (g : Global). g.name) tree.globals) _
        (subst (λ w. In w (map (λ (f : Function). f.name) tree.functions)) a.name
        (subst (λ fs. In a.start.name (map (λ (f : Function). f.name) fs)) (sym a.first) (inl refl)));
  }

-- Names that are declared.

declared-in : (names : List Declared) (w : Word) → is_some (declared_as names w) ≡ true → In w (map (λ (d : Declared). d.name) names)
declared-in [] w is = absurd cc
declared-in (d ∷ names) w is = elim (cases_Bool (same_bytes d.name w)) [
  | inl met ↦ inl (sym (same_bytes-equal d.name w met))
  | inr unmet ↦ inr (declared-in names w (sym (ap is_some (cond-false _ _ _ unmet)) ∙ is))
]

-- what is declared in a function is its own or global
pub declared-cases : (tree : Tree) (f : Function) (w : Word) → In f tree.functions → is_some (declared_as (declared_in tree f) w) ≡ true →
    In (own f.name w) (owns tree) ⊎ In w (outer_names tree)
declared-cases tree f w is declared =
    let c = in-map (λ (d : Declared). d.name) (declared_in tree f) w (declared-in (declared_in tree f) w declared) in
    elim (in-cases c.from (map declared_param f.params) (map declared_local f.locals ++ map declared_global tree.globals) c.has) [
      | inl param ↦ let v = in-map declared_param f.params c.from param in
          inl (subst (λ x. In (own f.name x) (owns tree)) (sym (c.is ∙ ap (λ (d : Declared). d.name) v.is)) (own-in tree f v.from is (in-left v.from f.params f.locals v.has)))
      | inr others ↦ elim (in-cases c.from (map declared_local f.locals) (map declared_global tree.globals) others) [
        | inl local ↦ let v = in-map declared_local f.locals c.from local in
            inl (subst (λ x. In (own f.name x) (owns tree)) (sym (c.is ∙ ap (λ (d : Declared). d.name) v.is)) (own-in tree f v.from is (in-right v.from f.params f.locals v.has)))
        | inr global ↦ let g = in-map declared_global tree.globals c.from global in
            inr (in-left w (map (λ (x : Global). x.name) tree.globals) _
            (subst (λ x. In x (map (λ (x : Global). x.name) tree.globals)) (sym (c.is ∙ ap (λ (d : Declared). d.name) g.is)) (map-in (λ (x : Global). x.name) tree.globals g.from g.has)))
      ]
    ]

dos-known : (all : List Dos) (w : Word) → is_some (dos_in all w) ≡ true → In w (map dos_name all)
dos-known [] w is = absurd cc
dos-known (d ∷ all) w is = elim (cases_Bool (same_bytes (dos_name d) w)) [
  | inl met ↦ inl (sym (same_bytes-equal (dos_name d) w met))
  | inr unmet ↦ inr (dos-known all w (sym (ap is_some (cond-false _ _ _ unmet)) ∙ is))
]

function-known : (functions : List Function) (w : Word) → is_some (option_map signature_of (function_in functions w)) ≡ true → In w (map (λ (f : Function). f.name) functions)
function-known [] w is = absurd cc
function-known (f ∷ functions) w is = elim (cases_Bool (same_bytes f.name w)) [
  | inl met ↦ inl (sym (same_bytes-equal f.name w met))
  | inr unmet ↦ inr (function-known functions w (sym (ap (λ o. is_some (option_map signature_of o)) (cond-false _ _ _ unmet)) ∙ is))
]

-- what may be called is a function or a DOS call
pub called-cases : (tree : Tree) (w : Word) → is_some (signature_in tree w) ≡ true → In w (outer_names tree) ⊎ In w dos_names
called-cases tree w is = cases (dos_of w) refl is where
  cases : (o : Option Dos) → dos_of w ≡ o →
      is_some (elim o [ Some dos ↦ Some (dos_signature dos) | None ↦ option_map signature_of (function_in tree.functions w) ]) ≡ true → In w (outer_names tree) ⊎ In w dos_names
  cases (Some dos) e known = inr (dos-known all_dos w (ap is_some e))
  cases None e known = inl (in-right w (map (λ (g : Global). g.name) tree.globals) _ (function-known tree.functions w known))

-- The tree with the new names is the one with new names of all words.

module _ (new : Word → Option Word) (tree : Tree) (writable : IsWritable tree) (free : (thing now : Word) → new thing ≡ Some now → IsFree new tree thing now) where
  abbrev outer : Word → Word
  outer = all_outer new tree (tree-named tree writable) free

  abbrev own_words : Word → Word → Word
  own_words = all_own new tree (tree-named tree writable) free

  declared-same : (f : Function) → In f tree.functions → (w : Word) → is_some (declared_as (declared_in tree f) w) ≡ true → own_words f.name w ≡ own_now new f.name w
  declared-same f is w declared = elim (declared-cases tree f w is declared) [
    | inl inner ↦ own-at new tree (tree-named tree writable) free f.name w inner
    | inr shared ↦ shared-at new tree (tree-named tree writable) free f.name w shared
  ]

  called-same : (w : Word) → is_some (signature_in tree w) ≡ true → outer w ≡ outer_now new w
  called-same w known = elim (called-cases tree w known) [
    | inl declared ↦ outer-at new tree (tree-named tree writable) free w declared
    | inr dos ↦ dos-at new tree (tree-named tree writable) free w dos
  ]

  variables-same : (f : Function) (variables : List Variable) → ((v : Variable) → In v variables → In (own f.name v.name) (owns tree)) →
      map (renamed_variable (own_words f.name)) variables ≡ map (renamed_variable (own_now new f.name)) variables
  variables-same f variables all = map-same (renamed_variable (own_words f.name)) (renamed_variable (own_now new f.name)) variables
      (λ v has. ap (λ w. record v { name = w }) (own-at new tree (tree-named tree writable) free f.name v.name (all v has)))

  pub function-same : (f : Function) → In f tree.functions → new_function outer own_words f ≡ renamed_function new f
  function-same f is =
      let name = outer-at new tree (tree-named tree writable) free f.name
      (in-right f.name (map (λ (g : Global). g.name) tree.globals) _ (map-in (λ (g : Function). g.name) tree.functions f is)) in
      let params = variables-same f f.params (λ v has. own-in tree f v is (in-left v f.params f.locals has)) in
      let locals = variables-same f f.locals (λ v has. own-in tree f v is (in-right v f.params f.locals has)) in
      let body = lines-same (own_words f.name) (own_now new f.name) outer (outer_now new) tree f (declared-same f is) called-same f.body
      (allowed-in tree tree.functions f writable.allowed.functions is).types in
      ap₂ (λ n ps. record f { name = n; params = ps; locals = map (renamed_variable (own_words f.name)) f.locals; body = renamed_lines (own_words f.name) outer f.body }) name params
      ∙ ap₂ (λ ls b. record f { name = outer_now new f.name; params = map (renamed_variable (own_now new f.name)) f.params; locals = ls; body = b }) locals body

  globals-same : map (renamed_global outer) tree.globals ≡ map (renamed_global (outer_now new)) tree.globals
  globals-same = map-same (renamed_global outer) (renamed_global (outer_now new)) tree.globals
      (λ g has. ap (λ w. record g { name = w }) (outer-at new tree (tree-named tree writable) free g.name
      (in-left g.name (map (λ (x : Global). x.name) tree.globals) _ (map-in (λ (x : Global). x.name) tree.globals g has))))

  pub tree-same : new_tree outer own_words tree ≡ renamed_by new tree
  tree-same = ap₂ (λ gs fs. record tree { globals = gs; functions = fs }) globals-same (map-same (new_function outer own_words) (renamed_function new) tree.functions function-same)

  pub clean-alike : (start : Function) → In start tree.functions → RunAlike tree (renamed_by new tree) start (renamed_function new start)
  clean-alike start is =
      subst (λ t. RunAlike tree t start (renamed_function new start)) tree-same
      (subst (λ f. RunAlike tree (new_tree outer own_words tree) start f) (function-same start is)
      (texts-alike tree start outer own_words (are-names new tree (tree-named tree writable) free)))

pub renamed-alike : RenamedTextsRunAlike
renamed-alike text tree is changes formed none =
    let a = is.allowed in
    clean-alike (changed changes) tree (stands_writable text tree is) (changes-free (changed changes) tree changes [] formed none)
    a.start (subst (In a.start) (sym a.first) (inl refl))
