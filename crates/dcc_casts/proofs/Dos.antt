-- A map of what functions take, to which the DOS calls are added one after another.
use Rattle.std.proofs.Common.{◌≡◌, Bool, true, false, List, Option, Some, None, refl, ap, ◌∙◌}
use Rattle.std.specs.Prelude.{option_map, if◌then◌else◌}
use Rattle.dcc_c.specs.declared.syntax.CType.{CType}
use Rattle.dcc_c.specs.Dos.{Dos, dos_signature}
use Rattle.dcc_check.specs.Declarations.{first_found}
use Rattle.dcc_casts.specs.declared.functions.Params.{Params}

abbrev pub types_in : Option Params → Option (List CType)
types_in o = option_map (λ (params : Params). params.types.items) o

abbrev pub taken : Option Dos → Option (List CType)
taken o = option_map (λ dos. (dos_signature dos).params) o

pub dos-step : (o n : Option Params) (b : Bool) (v : Params) (d : Dos) (others : Option Dos) → n ≡ first_found o (if b then Some v else None) → v.types.items ≡ (dos_signature d).params →
    first_found (types_in n) (taken others) ≡ first_found (types_in o) (taken (if b then Some d else others))
dos-step o n b v d others n_is is = ap (λ m. first_found (types_in m) (taken others)) n_is ∙ step o b
  where
    step : (o : Option Params) (b : Bool) → first_found (types_in (first_found o (if b then Some v else None))) (taken others) ≡ first_found (types_in o) (taken (if b then Some d else others))
    step (Some x) b = refl
    step None true = ap Some is
    step None false = refl
