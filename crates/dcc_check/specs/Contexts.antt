-- What the declared scene says of a function's body.
use Rattle.std.specs.Prelude.{◌≡◌, ℕ, List, Option, Some, None, option_map}
use Rattle.std.specs.BTreeMap.{BTreeMap, get_by}
use Rattle.std.specs.Cmp.Lexicographic.{slice_cmp}
use Rattle.std.specs.Ordering.{nat_cmp}
use denote.Ref.{Bor}
use Rattle.dcc_c.specs.Tree.{Word}
use Rattle.dcc_c.specs.Typing as typing
use Rattle.dcc_c.specs.Dos as dos
use Rattle.dcc_c.specs.Known.{Known, known_as}
use Rattle.dcc_c.specs.Grammar.{is_among}
use Rattle.dcc_c.specs.Offences as offences
use Rattle.dcc_ctypes.specs.declared.names.Declared.{Declared}
use Rattle.dcc_ctypes.specs.NameViews.{unnamed}
use Rattle.dcc_reader.specs.WordViews.{holds}
use Rattle.dcc_check.specs.declared.context.Signature.{Signature}
use Rattle.dcc_check.specs.declared.context.BodyContext.{BodyContext}

abbrev pub signature_of : Signature → dos.Signature
signature_of s = record { result = s.result; params = s.params.items }

-- a function's signature, where its head could be read
abbrev pub lent_head : Bor (Option Signature) → Option dos.Signature
lent_head head = option_map signature_of head.now

abbrev pub head_of : Known → Option dos.Signature
head_of k = k.signature

-- what a map with words as its keys holds
abbrev pub held : {X : Type 0} → BTreeMap (Bor (List ℕ)) X → Word → Option X
held m word = get_by (λ k. slice_cmp nat_cmp word k.now) m

-- the variable with the name: a local one, or else a global one
abbrev pub variable_in : BodyContext → Word → Option Declared
variable_in scene word = elim (held scene.locals.now word) [
  | Some d ↦ Some d
  | None ↦ held scene.globals.now word
]

-- the declared scene says what the scene does
pub record IsContext (scene : BodyContext) (s : offences.BodyContext) : Type 0 where
  pub names : (word : Word) → variable_in scene word ≡ option_map unnamed (typing.declared_as s.names word)
  pub functions : (word : Word) → option_map (λ head. option_map signature_of head) (held scene.functions.now word)
      ≡ option_map head_of (known_as s.functions word)
  pub labels : (word : Word) → holds scene.labels.now word ≡ is_among s.labels word
  pub has_result : scene.has_result ≡ s.has_result
  pub result : scene.result ≡ s.result
