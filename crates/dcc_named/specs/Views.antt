-- What is known where an expression of a text stands.
use Rattle.std.specs.Prelude.{◌≡◌, ℕ, List, Option, option_map, map}
use Rattle.std.specs.BTreeMap.{BTreeMap, get}
use Rattle.std.specs.Ordering.{nat_cmp}
use denote.Ref.{Bor}
use Rattle.dcc_c.specs.declared.syntax.Global_.{Global_}
use Rattle.dcc_c.specs.Rules.{declared_in, declared_global}
use Rattle.dcc_c.specs.Tree.{Word, Global, Function, Tree}
use Rattle.dcc_c.specs.Typing as typing
use Rattle.dcc_c.specs.Views.{global_of}
use Rattle.dcc_ctypes.specs.NameViews.{unnamed}
use Rattle.dcc_check.specs.Contexts.{held}
use Rattle.dcc_respell.specs.Writing.{Writing}
use Rattle.dcc_rewrite.specs.Views.{IsKnown}
use Rattle.dcc_named.specs.Named.{begins_at, writing}
use Rattle.dcc_named.specs.declared.scene.Scene.{Scene}
use Rattle.dcc_named.specs.declared.text.Known.{Known}

-- the global variable that is lent
abbrev pub lent : Bor Global_ → Global
lent g = global_of g.now

-- the global variable that a map of global variables by their offsets holds
abbrev pub placed : BTreeMap ℕ (Bor Global_) → ℕ → Option Global
placed places at = option_map lent (get nat_cmp places at)

-- the map holds the first global variable that begins at each offset
abbrev pub KnowsPlaces : BTreeMap ℕ (Bor Global_) → List Global → Type 0
KnowsPlaces places globals = (at : ℕ) → placed places at ≡ begins_at globals at

-- What is known where a function's expressions stand is what its text declares: names, and where the global variables
-- begin.
pub record IsSceneOf (scene : Scene) (tree : Tree) (f : Function) : Type 0 where
  pub names : IsKnown scene.names (declared_in tree f)
  pub places : KnowsPlaces scene.places.now tree.globals

-- the expressions of a function of a text are written by names
pub record IsWriting (scene : Scene) (w : Writing) : Type 0 where
  pub tree : Tree
  pub function : Function
  pub known : IsSceneOf scene tree function
  pub is : w ≡ writing tree function

-- what is known wherever a function of a text stands is what the text declares
pub record KnowsText (known : Known) (tree : Tree) : Type 0 where
  pub globals : (word : Word) → held known.globals.now word
      ≡ option_map unnamed (typing.declared_as (map declared_global tree.globals) word)
  pub places : KnowsPlaces known.places.now tree.globals
