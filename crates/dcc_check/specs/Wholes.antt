-- What the whole text knows.
use Rattle.std.specs.Prelude.{◌≡◌, Bool, not, List, [], ◌++◌, option_map, if◌then◌else◌}
use Rattle.dcc_c.specs.Grammar.{is_among}
use Rattle.dcc_c.specs.Known.{known_as, labels_before_head}
use Rattle.dcc_c.specs.Partial.{PartialFunction}
use Rattle.dcc_c.specs.Pieces.{Piece}
use Rattle.dcc_c.specs.Placement.{is_auto, is_register}
use Rattle.dcc_c.specs.TextOffences as offences
use Rattle.dcc_c.specs.Tree.{Word}
use Rattle.dcc_c.specs.Typing as typing
use Rattle.dcc_check.specs.declared.text.Whole.{Whole}
use Rattle.dcc_check.specs.Declarations.{held_head}
use Rattle.dcc_ctypes.specs.NameViews.{unnamed}
use Rattle.dcc_reader.specs.WordViews.{holds}
use Rattle.dcc_check.specs.Contexts.{held, head_of}

-- the declared knowledge is what the whole text knows, but for the labels
pub record IsWhole (whole : Whole) (w : offences.Whole) : Type 0 where
  pub words : (word : Word) → holds whole.words word ≡ is_among w.words word
  pub globals : (word : Word) → held whole.globals word ≡ option_map unnamed (typing.declared_as w.globals word)
  pub functions : (word : Word) → held_head whole.functions word ≡ option_map head_of (known_as w.functions word)

-- labels after what has been read, where they count
abbrev pub labels_if : Bool → List Piece → List Word
labels_if is_last rest = if is_last then labels_before_head rest else []

-- what the parameters and the local variables of a function are declared as
abbrev pub own_names : PartialFunction → List typing.Declared
own_names f = offences.declared_of (λ v. not (is_register v.class)) f.params
    ++ offences.declared_of (λ v. is_auto v.class) f.locals
