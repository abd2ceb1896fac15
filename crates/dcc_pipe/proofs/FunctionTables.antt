-- What stands for a program's graphs, by the graphs: functions, plans.
use Rattle.std.proofs.Common.{◌≡◌, ℕ, ◌+◌, Bool, true, false, ◌==◌, List, [], ◌∷◌, map, Some, None, refl, sym, ap, ap₂, ◌∙◌, subst, eq-eqb}
use Rattle.std.specs.Prelude.{not, All, Contains, if◌then◌else◌, codes}
use Rattle.std.specs.List.{AllZip, list_any}
use Rattle.std.proofs.lemmas.Bool.{and_parts, or_parts}
use Rattle.std.proofs.lemmas.List.Elements.{All-nil, All-cons, All-contains}
use Rattle.dcc_ir.specs.Run.{graph_at}
use Rattle.dcc_ir.specs.Tree.{Graph}
use Rattle.dcc_ir.specs.WellFormed.{all_differ}
use Rattle.dcc_ir.proofs.LocationLaws.{Contains-none, Contains-cases}
use Rattle.dcc_ir.proofs.ZipLaws.{weaker_zipped}
use Rattle.dcc_c.specs.Numbered.{numbered_function, numbered_functions}
use Rattle.dcc_c.specs.Grammar.{is_among}
use Rattle.dcc_c.specs.Rules as rules
use Rattle.dcc_c.proofs.NameLaws.{same_bytes-refl}
use Rattle.dcc_c.specs.Run.{function_in}
use Rattle.dcc_c.specs.Token.{same_bytes}
use Rattle.dcc_c.specs.Tree.{Word, Function}
use Rattle.dcc_variables.specs.Functions.{function_name}
use Rattle.dcc_control.specs.Plan.{Plan}
use Rattle.dcc_pipe.specs.Control.{Control}
use Rattle.dcc_pipe.specs.WholeText.{text_function, other_functions, text_functions}

-- the value at the place of the graph with the same entry, or another one where there is none
abbrev pub value_for : {A : Type 0} → A → List Graph → List A → Graph → A
value_for none (g ∷ graphs) (x ∷ values) graph =
    if g.entry == graph.entry then x else value_for none graphs values graph
value_for none graphs values graph = none

abbrev entries : List Graph → List ℕ
entries graphs = map (λ g. g.entry) graphs

not-true : (b : Bool) → not b ≡ true → b ≡ false
not-true true is = sym is
not-true false is = refl

module _ {A : Type 0} (none : A) where
  -- a graph with another entry doesn't come first
  pub later-values : (g : Graph) (x : A) (graphs : List Graph) (values : List A) (hs : List Graph)
      → list_any (λ m. g.entry == m) (entries hs) ≡ false
      → map (value_for none (g ∷ graphs) (x ∷ values)) hs ≡ map (value_for none graphs values) hs
  later-values g x graphs values [] away = refl
  later-values g x graphs values (h ∷ hs) away =
      let parts = or_parts (g.entry == h.entry) (list_any (λ m. g.entry == m) (entries hs)) away in
      ap₂ (λ b ys. (if b then x else value_for none graphs values h) ∷ ys) parts.0
      (later-values g x graphs values hs parts.1)

  module _ (R : Graph → A → Type 0) where
    -- the values that are found by the entries of the graphs are all values, in their order
    pub values-are : (graphs : List Graph) (values : List A) → AllZip R graphs values
        → all_differ (entries graphs) ≡ true → map (value_for none graphs values) graphs ≡ values
    values-are [] [] all differ = refl
    values-are [] (x ∷ values) all differ = absurd all
    values-are (g ∷ graphs) [] all differ = absurd all
    values-are (g ∷ graphs) (x ∷ values) all differ =
        let parts = and_parts (not (list_any (λ m. g.entry == m) (entries graphs))) (all_differ (entries graphs)) differ in
        ap₂ (λ b ys. (if b then x else value_for none graphs values g) ∷ ys) (eq-eqb g.entry g.entry refl)
        (later-values g x graphs values graphs (not-true (list_any (λ m. g.entry == m) (entries graphs)) parts.0)
        ∙ values-are graphs values all.1 parts.1)

    -- what holds place by place holds of each graph and its value
    pub each-of : (of : Graph → A) (graphs : List Graph) → AllZip R graphs (map of graphs) → All (λ g. R g (of g)) graphs
    each-of of [] all = All-nil (λ g. R g (of g))
    each-of of (g ∷ graphs) all = All-cons (λ g. R g (of g)) g graphs all.0 (each-of of graphs all.1)

    pub each-value : (graphs : List Graph) (values : List A) → AllZip R graphs values
        → all_differ (entries graphs) ≡ true → All (λ g. R g (value_for none graphs values g)) graphs
    each-value graphs values all differ =
        each-of (value_for none graphs values) graphs
        (subst (AllZip R graphs) (sym (values-are graphs values all differ)) all)

-- Graphs are found by their entries.

itself : (graphs : List Graph) → AllZip (λ g o. o ≡ Some g) graphs (map Some graphs)
itself [] = tt
itself (g ∷ graphs) = (refl, itself graphs)

found-is : (graphs : List Graph) (graph : Graph)
    → value_for None graphs (map Some graphs) graph ≡ graph_at graphs graph.entry
found-is [] graph = refl
found-is (g ∷ graphs) graph = ap (λ o. if g.entry == graph.entry then Some g else o) (found-is graphs graph)

pub found-there : (graphs : List Graph) (graph : Graph) → all_differ (entries graphs) ≡ true → Contains graphs graph
    → graph_at graphs graph.entry ≡ Some graph
found-there graphs graph differ c =
    sym (found-is graphs graph)
    ∙ All-contains (λ g. value_for None graphs (map Some graphs) g ≡ Some g) graphs graph
    (each-value None (λ g o. o ≡ Some g) graphs (map Some graphs) (itself graphs) differ) c

-- Functions whose lines are counted.

-- the function is that of the graph by this plan and this name, its lines counted from some line on
pub record IsNumbered (plan : Plan) (name : Word) (graph : Graph) (f : Function) : Type 0 where
  pub at : ℕ
  pub is : f ≡ numbered_function at (text_function plan name graph)

abbrev pub IsOne : Plan → Graph → Function → Type 0
IsOne plan graph f = (name : Word) × IsNumbered plan name graph f

module _ (control : Control) where
  abbrev pub IsOther : Graph → Function → Type 0
  IsOther graph f = IsNumbered (control graph) (function_name graph.entry) graph f

  abbrev pub IsOneOf : Graph → Function → Type 0
  IsOneOf graph f = IsOne (control graph) graph f

  pub others-numbered : (at : ℕ) (graphs : List Graph)
      → AllZip IsOther graphs (numbered_functions at (other_functions control graphs))
  others-numbered at [] = tt
  others-numbered at (g ∷ graphs) =
      let here = numbered_function at (text_function (control g) (function_name g.entry) g) in
      (record { at = at; is = refl }, others-numbered (here.last + 1) graphs)

  pub all-numbered : (at : ℕ) (graphs : List Graph)
      → AllZip IsOneOf graphs (numbered_functions at (text_functions control graphs))
  all-numbered at [] = tt
  all-numbered at (g ∷ graphs) = (
    (codes "start", record { at = at; is = refl }),
    weaker_zipped IsOther IsOneOf (λ g f is. (function_name g.entry, is)) graphs _ (others-numbered _ graphs),
  )

-- Functions are found by their names.

abbrev names : List Function → List Word
names functions = map (λ f. f.name) functions

-- a name that none of the functions has
not-named : (functions : List Function) (word : Word) → is_among (names functions) word ≡ false → (f : Function)
    → Contains functions f → same_bytes word f.name ≡ false
not-named [] word none f there = absurd (Contains-none f there)
not-named (x ∷ functions) word none f there =
    let parts = or_parts (same_bytes word x.name) (is_among (names functions) word) none in
    Contains-cases x functions f (same_bytes word f.name ≡ false)
    (λ same. subst (λ (y : Function). same_bytes word y.name ≡ false) same parts.0)
    (λ later. not-named functions word parts.1 f later) there

pub found-by_name : (functions : List Function) → rules.all_differ (names functions) ≡ true → (f : Function)
    → Contains functions f → function_in functions f.name ≡ Some f
found-by_name [] differ f there = absurd (Contains-none f there)
found-by_name (x ∷ functions) differ f there =
    let parts = and_parts (not (is_among (names functions) x.name)) (rules.all_differ (names functions)) differ in
    let none = not-true (is_among (names functions) x.name) parts.0 in
    Contains-cases x functions f (function_in (x ∷ functions) f.name ≡ Some f)
    (λ same. ap (λ b. if b then Some x else function_in functions f.name)
    (ap (λ (y : Function). same_bytes y.name f.name) same ∙ same_bytes-refl f.name) ∙ ap Some same)
    (λ later. ap (λ b. if b then Some x else function_in functions f.name) (not-named functions x.name none f later)
    ∙ found-by_name functions parts.1 f later) there
