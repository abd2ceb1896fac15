-- What variables and functions are declared as.
use Rattle.std.specs.Prelude.{ℕ, Bool, true, not, List, [], ◌∷◌, Option, Some, None, option_map}
use Rattle.std.specs.BTreeMap.{BTreeMap}
use denote.Ref.{Bor}
use Rattle.dcc_c.specs.declared.syntax.Base.{Base}
use Rattle.dcc_c.specs.Types.{plain}
use Rattle.dcc_c.specs.Tree.{Word}
use Rattle.dcc_c.specs.Dos as dos
use Rattle.dcc_c.specs.Partial.{PartialVariable}
use Rattle.dcc_c.specs.Placement.{is_auto, is_register}
use Rattle.dcc_check.specs.declared.context.Scope.{Scope}
use Rattle.dcc_check.specs.declared.context.Scope.TheVariants.{Text, Head, Body}
use Rattle.dcc_check.specs.declared.context.Signature.{Signature}
use Rattle.dcc_check.specs.Contexts.{held, signature_of}

-- the variable has an address
abbrev pub placed_in : Scope → PartialVariable → Bool
placed_in Text v = true
placed_in Head v = not (is_register v.class)
placed_in Body v = is_auto v.class

-- the first of two answers
abbrev pub first_found : {X : Type 0} → Option X → Option X → Option X
first_found (Some x) other = Some x
first_found None other = other

-- the signatures that a map of functions holds
abbrev pub held_head : BTreeMap (Bor (List ℕ)) (Option Signature) → Word → Option (Option dos.Signature)
held_head functions word = option_map (λ head. option_map signature_of head) (held functions word)

abbrev pub taking : Base → dos.Signature
taking base = record { result = None; params = plain base ∷ [] }

abbrev pub giving : Base → dos.Signature
giving base = record { result = Some (plain base); params = [] }
