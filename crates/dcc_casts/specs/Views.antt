-- What the declared names stand for.
use Rattle.std.specs.Prelude.{◌≡◌, ℕ, List, Option, Some, None, option_map, map}
use Rattle.std.specs.BTreeMap.{BTreeMap}
use denote.Ref.{Bor}
use Rattle.dcc_c.specs.declared.syntax.CType.{CType}
use Rattle.dcc_c.specs.Dos.{Signature}
use Rattle.dcc_c.specs.Rules.{declared_in, declared_global, signature_in}
use Rattle.dcc_c.specs.Tree.{Word, Function, Tree}
use Rattle.dcc_c.specs.Typing as typing
use Rattle.dcc_ctypes.specs.declared.names.Declared.{Declared}
use Rattle.dcc_ctypes.specs.NameViews.{unnamed}
use Rattle.dcc_check.specs.Contexts.{held}
use Rattle.dcc_casts.specs.declared.names.Names.{Names}
use Rattle.dcc_casts.specs.declared.functions.Params.{Params}
use Rattle.dcc_casts.specs.declared.statement.Scene.{Scene}
use Rattle.dcc_casts.specs.declared.text.Known.{Known}

-- the variable with the name: one of the function's own, or else a global one
abbrev pub variable_in : Names → Word → Option Declared
variable_in names word = elim (held names.own.now word) [
  | Some d ↦ Some d
  | None ↦ held names.globals.now word
]

-- what is known of the names is what they are declared as
abbrev pub IsKnown : Names → List typing.Declared → Type 0
IsKnown names declared = (word : Word) → variable_in names word ≡ option_map unnamed (typing.declared_as declared word)

-- Functions.

-- the types of the parameters that a map of functions holds
abbrev pub held_params : BTreeMap (Bor (List ℕ)) Params → Word → Option (List CType)
held_params functions word = option_map (λ (params : Params). params.types.items) (held functions word)

abbrev pub params_of : Signature → List CType
params_of known = known.params

-- what is known of the functions is what the DOS calls and the text's functions take
abbrev pub KnowsFunctions : BTreeMap (Bor (List ℕ)) Params → Tree → Type 0
KnowsFunctions functions tree = (word : Word) → held_params functions word ≡ option_map params_of (signature_in tree word)

-- What is known where a function's statements stand is what its text declares: names, functions, and its own result.
pub record IsSceneOf (scene : Scene) (tree : Tree) (f : Function) : Type 0 where
  pub names : IsKnown scene.names (declared_in tree f)
  pub functions : KnowsFunctions scene.functions.now tree
  pub result : scene.result ≡ f.result

-- what is known wherever a statement of a text stands is what the text declares
pub record KnowsText (known : Known) (tree : Tree) : Type 0 where
  pub globals : (word : Word) → held known.globals.now word
      ≡ option_map unnamed (typing.declared_as (map declared_global tree.globals) word)
  pub functions : KnowsFunctions known.functions.now tree
