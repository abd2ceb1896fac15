-- Offences that are told one after the other.
use Rattle.std.proofs.Common.{◌≡◌, ℕ, Bool, true, false, Bor, List, ◌++◌, Option, Some, None, refl, sym, ap, ◌∙◌}
use Rattle.std.specs.Prelude.{◌&&◌, not, if◌then◌else◌, option_map, is_some, is_none}
use Rattle.dcc_c.specs.declared.syntax.CUn.{CUn}
use Rattle.dcc_c.specs.declared.syntax.CUn.TheVariants.{Minus, Complement, Not, Deref, AddressOf}
use Rattle.dcc_c.specs.Kinds.{of_type, Offence, offence, only_if, first_after}
use Rattle.dcc_c.specs.Partial.{PartialExpr, UnaryHere, place_of}
use Rattle.dcc_c.specs.Typing.{Declared, type_of_address}
use Rattle.dcc_c.specs.Offences.{BodyContext, told_type, operand_of_address, expr_offences, unary_offences, address_offences, place_offences}
use Rattle.dcc_reader.specs.declared.partial.PartialExpr.{PartialExpr as Read, Missing, Number, Name, Unary', Binary', Conditional', Cast'}
use Rattle.dcc_reader.specs.PartialViews.{expr_of}
use Rattle.dcc_check.specs.Operands.{operand, target}
use Rattle.dcc_c.proofs.refusals.FirstRules.{first-append}

-- some offences are told, and then others
pub then-told : (old middle new : Option Offence) (xs ys : List Offence) → middle ≡ first_after old xs → new ≡ first_after middle ys → new ≡ first_after old (xs ++ ys)
then-told old middle new xs ys first second =
    second ∙ ap (λ o. first_after o ys) first ∙ sym (first-append old xs ys)

pub no-image : {A B : Type 0} (f : A → B) (o : Option A) → None ≡ option_map f o → o ≡ None
no-image f None e = refl
no-image f (Some x) e = absurd cc

-- an operator but `&`
pub operator-told : (scene : BodyContext) (at : _) (operator : CUn) (a : PartialExpr) → (operator ≡ AddressOf → ⊥) →
    expr_offences scene (UnaryHere at operator a) ≡ expr_offences scene a ++ unary_offences scene operator a
operator-told scene at Minus a other = refl
operator-told scene at Complement a other = refl
operator-told scene at Not a other = refl
operator-told scene at Deref a other = refl
operator-told scene at AddressOf a other = absurd (other refl)

-- `&` before what is no variable
pub address-told : (scene : BodyContext) (a : PartialExpr) → operand_of_address scene.names a ≡ None →
    address_offences scene a (expr_offences scene a) ≡ expr_offences scene a ++ only_if (is_some (told_type scene.names a)) (offence of_type (place_of a))
address-told scene a none =
    ap (λ (d : Option Declared). elim d [
      | Some d ↦ only_if (is_none (type_of_address d)) (offence of_type (place_of a))
      | None ↦ expr_offences scene a ++ only_if (is_some (told_type scene.names a)) (offence of_type (place_of a))
    ]) none

-- the place of an assignment that is no name
pub place-other : (scene : BodyContext) (e : Read) → ((called : Bool) (at : ℕ) (word : Bor (List ℕ)) → e ≡ Name called at word → ⊥) →
    (target scene (expr_of e) ≡ operand scene (expr_of e)) × (place_offences scene (expr_of e) ≡ expr_offences scene (expr_of e))
place-other scene Missing other = (refl, refl)
place-other scene (Number at n base) other = (refl, refl)
place-other scene (Name called at word) other = absurd (other called at word refl)
place-other scene (Unary' at operator _ a) other = (refl, refl)
place-other scene (Binary' operator _ a _ b) other = (refl, refl)
place-other scene (Conditional' _ a b c) other = (refl, refl)
place-other scene (Cast' at type _ a) other = (refl, refl)

-- some offences are told, and others where a test holds
pub then-if : (old middle new : Option Offence) (xs ys zs : List Offence) (test : Bool) → test ≡ true → middle ≡ first_after old xs → new ≡ first_after middle ys →
    new ≡ first_after old (xs ++ (if test then ys else zs))
then-if old middle new xs ys zs test holds first second =
    then-told old middle new xs ys first second ∙ ap (λ t. first_after old (xs ++ (if t then ys else zs))) (sym holds)

pub then-if_not : (old middle new : Option Offence) (xs ys zs : List Offence) (test : Bool) → test ≡ false → middle ≡ first_after old xs → new ≡ first_after middle zs →
    new ≡ first_after old (xs ++ (if test then ys else zs))
then-if_not old middle new xs ys zs test fails first second =
    then-told old middle new xs zs first second ∙ ap (λ t. first_after old (xs ++ (if t then ys else zs))) (sym fails)

-- some of the offences that are left are told
pub step-told : (old new end : Option Offence) (xs rest whole : List Offence) → new ≡ first_after old xs → whole ≡ xs ++ rest → first_after old whole ≡ end →
    first_after new rest ≡ end
step-told old new end xs rest whole told parts later =
    ap (λ o. first_after o rest) told ∙ sym (first-append old xs rest) ∙ ap (first_after old) (sym parts) ∙ later

pub not-alone : (a b : Bool) → b ≡ true → (a && not b) ≡ false
not-alone true b holds = ap not holds
not-alone false b holds = refl

pub alone-not : (a b : Bool) → a ≡ false → (a && not b) ≡ false
alone-not a b fails = ap (λ x. x && not b) fails

pub no-some : {A : Type 0} (o : Option A) → ((x : A) → o ≡ Some x → ⊥) → o ≡ None
no-some None none = refl
no-some (Some x) none = absurd (none x refl)
