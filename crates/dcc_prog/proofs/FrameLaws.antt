-- A procedure has one number of arguments, and one extent of exposed bytes.
use Rattle.std.proofs.Common.{◌≡◌, ℕ, Option, Some, refl, ap, arith}
use Rattle.std.specs.Prelude.{pos, neg_ℤ, ◌≤ℤ◌}
use Rattle.std.proofs.lemmas.Int.{ints}
use Rattle.dcc_machine.specs.declared.image.Image.{Image}
use Rattle.dcc_prog.specs.declared.procedure.Layout.{Layout}
use Rattle.dcc_prog.specs.Frame.{HasArguments, of_start, of_procedure, HasExposedLocal, no_local, local, HasExposedArguments, no_argument, from_argument}

module _ {image : Image} {layout : Layout} {entry : ℕ} where
  pub arguments-once : {a b : ℕ} → HasArguments image layout entry a → HasArguments image layout entry b → a ≡ b
  arguments-once (of_start s) (of_start t) = refl
  arguments-once (of_start s) (of_procedure apart room least) = absurd (apart s)
  arguments-once (of_procedure apart room least) (of_start s) = absurd (apart s)
  arguments-once {a = a} {b = b} (of_procedure apart room least) (of_procedure apart' room' least') =
      let le = least b room' in let ge = least' a room in omega (arith, ints, le, ge)

  pub local-once : {a b : ℕ} → HasExposedLocal image layout entry a → HasExposedLocal image layout entry b → a ≡ b
  local-once (no_local none) (no_local none') = refl
  local-once {b = b} (no_local none) (local some start least) = let le = none (neg_ℤ (pos b)) start in absurd (omega (arith, ints, le, some))
  local-once {a = a} (local some start least) (no_local none) = let le = none (neg_ℤ (pos a)) start in absurd (omega (arith, ints, le, some))
  local-once {a = a} {b = b} (local some start least) (local some' start' least') =
      let le = least (neg_ℤ (pos b)) start' in let ge = least' (neg_ℤ (pos a)) start in omega (arith, ints, le, ge)

  pub argument-once :
      {a b : Option ℕ} → HasExposedArguments image layout entry a → HasExposedArguments image layout entry b → a ≡ b
  argument-once (no_argument none) (no_argument none') = refl
  argument-once (no_argument none) (from_argument {least = least} far start lowest) =
      let lt = none (pos least) start in absurd (omega (arith, ints, lt, far))
  argument-once (from_argument {least = least} far start lowest) (no_argument none) =
      let lt = none (pos least) start in absurd (omega (arith, ints, lt, far))
  argument-once (from_argument {least = a} far start lowest) (from_argument {least = b} far' start' lowest') =
      let farther : pos 4 ≤ℤ pos b = omega (arith, ints, far') in
      let farther' : pos 4 ≤ℤ pos a = omega (arith, ints, far) in
      let le = lowest (pos b) start' farther in
      let ge = lowest' (pos a) start farther' in
      ap Some (omega (arith, ints, le, ge))
