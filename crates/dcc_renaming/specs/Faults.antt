-- When changes of names are at fault.
use Rattle.std.specs.Prelude.{◌≡◌, ◌⊎◌, ◌≤◌, ◌<◌, length, ℕ, Bool, false, ◌||◌, not, if◌then◌else◌, List, [], ◌∷◌, ◌++◌, map, codes}
use Rattle.std.specs.Prelude.{Option, Some, None}
use Rattle.std.specs.List.{flat_map}
use Rattle.dcc_c.specs.Dos.{dos_names}
use Rattle.dcc_c.specs.Grammar.{is_among, keywords}
use Rattle.dcc_c.specs.Rules.{names_of, own_variables}
use Rattle.dcc_c.specs.Token.{same_bytes}
use Rattle.dcc_c.specs.Tree.{Word, Function, Tree}
use Rattle.dcc_renaming.specs.declared.fault.NameFault.{NameFault}
use Rattle.dcc_renaming.specs.declared.fault.NameFault.TheVariants.{At, Memory}
use Rattle.dcc_renaming.specs.declared.fault.NameKind.{NameKind}
use Rattle.dcc_renaming.specs.declared.fault.NameKind.TheVariants.{Form, Unknown, Twice, Clash}
use Rattle.dcc_renaming.specs.Changes.{Change, in_file, thing_of, file_most, IsOfNoForm}
use Rattle.dcc_renaming.specs.Renamed.{changed, now_or, outer_now}

-- the names of the global variables and the functions
abbrev pub outer_names : Tree → List Word
outer_names tree = map (λ g. g.name) tree.globals ++ map (λ f. f.name) tree.functions

-- a parameter or a local variable, with its function
pub record Own : Type 0 where
  pub function : Word
  pub name : Word

abbrev pub own : Word → Word → Own
own function name = record { function = function; name = name }

abbrev pub own_of : Function → List Own
own_of f = map (own f.name) (names_of (own_variables f))

-- the parameters and local variables of all functions
abbrev pub owns_of : List Function → List Own
owns_of functions = flat_map own_of functions

abbrev pub owns : Tree → List Own
owns tree = owns_of tree.functions

-- all that may get a new name, as a names file names it
abbrev pub thing : Own → Word
thing o = in_file (Some o.function) o.name

abbrev pub things : Tree → List Word
things tree = outer_names tree ++ map thing (owns tree)

-- the word stands in the list twice
abbrev pub stands_twice : List Word → Word → Bool
stands_twice [] word = false
stands_twice (w ∷ words) word = if same_bytes word w then is_among words word else stands_twice words word

-- The names after the changes: of global variables and functions; of parameters and local variables; and these after
-- their functions' old names and `.`. A change of a name that is declared nowhere changes none of these.

abbrev pub outer_after : (Word → Option Word) → Tree → List Word
outer_after new tree = map (outer_now new) (outer_names tree)

abbrev pub name_after : (Word → Option Word) → Own → Word
name_after new o = now_or (new (thing o)) o.name

abbrev pub thing_after : (Word → Option Word) → Own → Word
thing_after new o = in_file (Some o.function) (name_after new o)

-- The new name of a thing is that of another thing from which it is kept apart. Global variables and functions are
-- kept apart from one another and from all parameters and local variables, and those of one function from one another.
abbrev pub is_shared : (Word → Option Word) → Tree → Option Word → Word → Bool
is_shared new tree None now =
    stands_twice (outer_after new tree) now || is_among (map (name_after new) (owns tree)) now
is_shared new tree (Some function) now =
    is_among (outer_after new tree) now
    || stands_twice (map (thing_after new) (owns tree)) (in_file (Some function) now)

-- the new name may not stand there: `start` keeps its name, and keywords and the names of DOS calls are none
abbrev pub clashes : (Word → Option Word) → Tree → Change → Bool
clashes new tree c =
    same_bytes (codes "start") c.was
    || (is_among keywords c.now || (is_among dos_names c.now || is_shared new tree c.func c.now))

-- how a change is at fault, after earlier ones of these things
abbrev pub kind_at : (Word → Option Word) → Tree → List Word → Change → Option NameKind
kind_at new tree earlier c =
    if not (is_among (things tree) (thing_of c)) then Some Unknown
    else if is_among earlier (thing_of c) then Some Twice
    else if clashes new tree c then Some Clash
    else None

abbrev pub fault_or : ℕ → Option NameKind → Option NameFault → Option NameFault
fault_or line (Some kind) following = Some (At line kind)
fault_or line None following = following

-- the first of the later changes that is at fault, after earlier ones of these things
abbrev pub first_fault : (Word → Option Word) → Tree → List Word → List Change → Option NameFault
first_fault new tree earlier [] = None
first_fault new tree earlier (c ∷ later) =
    fault_or c.line (kind_at new tree earlier c) (first_fault new tree (thing_of c ∷ earlier) later)

-- the first change that is at fault, and how
abbrev pub fault_in : List Change → Tree → Option NameFault
fault_in changes tree = first_fault (changed changes) tree [] changes

-- why changes of a tree are refused: for the first one at fault, or since memory ran out
abbrev pub IsRefusal : List Change → Tree → NameFault → Type 0
IsRefusal changes tree fault = (fault ≡ Memory) ⊎ (fault_in changes tree ≡ Some fault)

-- why bytes are no names file: they are too many, the line is the first of no form, or memory ran out
abbrev pub IsFormFault : List ℕ → NameFault → Type 0
IsFormFault bytes (At line Form) =
    ((line ≡ 0) × (file_most < length bytes)) ⊎ ((length bytes ≤ file_most) × IsOfNoForm bytes line)
IsFormFault bytes (At line Unknown) = ⊥
IsFormFault bytes (At line Twice) = ⊥
IsFormFault bytes (At line Clash) = ⊥
IsFormFault bytes Memory = Unit {0}
