-- Functions that are declared as those of another text, which is otherwise written.
use Rattle.std.proofs.Common.{◌≡◌, ℕ, ◌+◌, Bool, true, ◌&&◌, ◌||◌, not, List, [], ◌∷◌, map, refl, sym, ap, ap₂, ◌∙◌}
use Rattle.std.specs.Prelude.{filter}
use Rattle.std.specs.List.{AllZip, list_all}
use Rattle.dcc_c.specs.declared.syntax.Class.{Class}
use Rattle.dcc_c.specs.Numbered.{numbered_function, numbered_functions}
use Rattle.dcc_c.specs.Placement.{is_auto, takes_address}
use Rattle.dcc_c.specs.Tree.{Word, Variable, Function, Tree}
use Rattle.dcc_respell.specs.Respelled.{VariableAlike, FunctionAlike}
use Rattle.dcc_respell.specs.Writing.{Writing, function_by}
use Rattle.dcc_pipe.specs.Kept.{IsDeclaredAs}

-- the functions have the same `auto` variables
abbrev pub SameAutos : Function → Function → Type 0
SameAutos f h =
    filter (λ (v : Variable). is_auto v.class) h.locals ≡ filter (λ (v : Variable). is_auto v.class) f.locals

-- Parameters.

same-names : (vs ws : List Variable) → AllZip VariableAlike vs ws
    → map (λ (v : Variable). v.name) ws ≡ map (λ (v : Variable). v.name) vs
same-names [] [] are = refl
same-names [] (w ∷ ws) are = absurd are
same-names (v ∷ vs) [] are = absurd are
same-names (v ∷ vs) (w ∷ ws) are = ap₂ (λ (n : Word) (ns : List Word). n ∷ ns) are.0.name (same-names vs ws are.1)

same-classes : (vs ws : List Variable) → AllZip VariableAlike vs ws
    → map (λ (v : Variable). v.class) ws ≡ map (λ (v : Variable). v.class) vs
same-classes [] [] are = refl
same-classes [] (w ∷ ws) are = absurd are
same-classes (v ∷ vs) [] are = absurd are
same-classes (v ∷ vs) (w ∷ ws) are = ap₂ (λ (c : Class) (cs : List Class). c ∷ cs) are.0.class (same-classes vs ws are.1)

-- Functions.

declared-as : (tree after : Tree) (f h : Function) → FunctionAlike tree after f h → SameAutos f h → IsDeclaredAs f h
declared-as tree after f h alike autos = record {
  name = alike.name;
  names = same-names f.params h.params alike.params;
  classes = same-classes f.params h.params alike.params;
  autos = autos;
  addresses = alike.addresses;
}

pub all-declared : (tree after : Tree) (fs hs : List Function) → AllZip (FunctionAlike tree after) fs hs
    → AllZip SameAutos fs hs → AllZip IsDeclaredAs fs hs
all-declared tree after [] [] alike autos = tt
all-declared tree after [] (h ∷ hs) alike autos = absurd alike
all-declared tree after (f ∷ fs) [] alike autos = absurd alike
all-declared tree after (f ∷ fs) (h ∷ hs) alike autos =
    (declared-as tree after f h alike.0 autos.0, all-declared tree after fs hs alike.1 autos.1)

-- functions whose expressions are written otherwise keep their variables
pub same-autos : (writing : Function → Writing) (at there : ℕ) (fs : List Function)
    → AllZip SameAutos (numbered_functions at fs) (numbered_functions there (map (function_by writing) fs))
same-autos writing at there [] = tt
same-autos writing at there (f ∷ fs) =
    let here = numbered_function at f in
    let other = numbered_function there (function_by writing f) in
    (refl, same-autos writing (here.last + 1) (other.last + 1) fs)

declared-further : (f g h : Function) → IsDeclaredAs f g → IsDeclaredAs g h → IsDeclaredAs f h
declared-further f g h first second = record {
  name = second.name ∙ first.name;
  names = second.names ∙ first.names;
  classes = second.classes ∙ first.classes;
  autos = second.autos ∙ first.autos;
  addresses = λ word. second.addresses word ∙ first.addresses word;
}

pub all-further : (fs gs hs : List Function) → AllZip IsDeclaredAs fs gs → AllZip IsDeclaredAs gs hs
    → AllZip IsDeclaredAs fs hs
all-further [] [] [] first second = tt
all-further [] [] (h ∷ hs) first second = absurd second
all-further [] (g ∷ gs) hs first second = absurd first
all-further (f ∷ fs) [] hs first second = absurd first
all-further (f ∷ fs) (g ∷ gs) [] first second = absurd second
all-further (f ∷ fs) (g ∷ gs) (h ∷ hs) first second =
    (declared-further f g h first.0 second.0, all-further fs gs hs first.1 second.1)

pub names-as : (fs hs : List Function) → AllZip IsDeclaredAs fs hs
    → map (λ (f : Function). f.name) hs ≡ map (λ (f : Function). f.name) fs
names-as [] [] are = refl
names-as [] (h ∷ hs) are = absurd are
names-as (f ∷ fs) [] are = absurd are
names-as (f ∷ fs) (h ∷ hs) are = ap₂ (λ (n : Word) (ns : List Word). n ∷ ns) are.0.name (names-as fs hs are.1)

heads-equal : {A : Type 0} {x y : A} {xs ys : List A} → x ∷ xs ≡ y ∷ ys → x ≡ y
heads-equal e = cc

tails-equal : {A : Type 0} {x y : A} {xs ys : List A} → x ∷ xs ≡ y ∷ ys → xs ≡ ys
tails-equal e = cc

-- A function with such parameters takes the address of none that is not in memory, as the first one does.

abbrev is_unplaced : Function → Variable → Bool
is_unplaced f v = is_auto v.class || not (takes_address f.body v.name)

same-unplaced : (f h : Function) → IsDeclaredAs f h → (vs ws : List Variable)
    → map (λ (v : Variable). v.name) ws ≡ map (λ (v : Variable). v.name) vs
    → map (λ (v : Variable). v.class) ws ≡ map (λ (v : Variable). v.class) vs
    → list_all (is_unplaced h) ws ≡ list_all (is_unplaced f) vs
same-unplaced f h is [] [] names classes = refl
same-unplaced f h is [] (w ∷ ws) names classes = absurd cc
same-unplaced f h is (v ∷ vs) [] names classes = absurd cc
same-unplaced f h is (v ∷ vs) (w ∷ ws) names classes =
    ap₂ (λ b c. b && c)
    (ap₂ (λ class taken. is_auto class || not taken) (heads-equal classes)
    (ap (takes_address h.body) (heads-equal names) ∙ is.addresses v.name))
    (same-unplaced f h is vs ws (tails-equal names) (tails-equal classes))

pub unplaced-as : (f h : Function) → IsDeclaredAs f h → list_all (is_unplaced f) f.params ≡ true
    → list_all (is_unplaced h) h.params ≡ true
unplaced-as f h is all = same-unplaced f h is f.params h.params is.names is.classes ∙ all
