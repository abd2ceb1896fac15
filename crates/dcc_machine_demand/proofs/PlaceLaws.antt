-- Of two places it can be told whether they are one; so what a procedure preserves is held at its returns.
use Rattle.std.proofs.Common.{◌≡◌, Bool, true, false, ◌⊎◌, inl, inr, refl, sym, ap, ◌∙◌, true≢false, eqb-true}
use Rattle.std.proofs.lemmas.Bool.Decides.{Decides-int_eq}
use Rattle.dcc_num.specs.declared.Reg.{Reg}
use Rattle.dcc_num.specs.declared.Reg.TheVariants.{Ax, Cx, Dx, Bx, Sp, Bp, Si, Di}
use Rattle.dcc_num.specs.declared.Half.{Half}
use Rattle.dcc_num.specs.declared.Half.TheVariants.{Low, High}
use Rattle.dcc_num.specs.declared.FlagName.{FlagName}
use Rattle.dcc_num.specs.declared.FlagName.TheVariants.{Cf, Zf, Sf, Of}
use Rattle.dcc_machine.specs.Machine.{reg_number}
use Rattle.dcc_machine.specs.Operands.{word_register}
use Rattle.dcc_machine.specs.Writes.{is_same_register, is_same_half}
use Rattle.dcc_machine.specs.Wanted.{half_of, flag_of, is_flag}
use Rattle.dcc_machine.proofs.AlikeValues.{and-both, and-parts, register-self, half-self}
use Rattle.dcc_demand.specs.Laws.{AreDecided}
use Rattle.dcc_demand.specs.Tables.{TellsApart}
use Rattle.dcc_demand.proofs.SaveLaws.{preserved-is_held}
use Rattle.dcc_machine_demand.specs.Holders.{Holder, held, in_frame, is_same_holder}
use Rattle.dcc_machine_demand.specs.Instance.{procedures_of}
use Rattle.dcc_machine_demand.specs.Laws.{WhatIsPreservedIsHeld}

-- a register is told by its number
told : (r : Reg) → word_register (reg_number r) ≡ r
told Ax = refl
told Cx = refl
told Dx = refl
told Bx = refl
told Sp = refl
told Bp = refl
told Si = refl
told Di = refl

pub same-register : (r q : Reg) → is_same_register r q ≡ true → r ≡ q
same-register r q e = sym (told r) ∙ ap word_register (eqb-true (reg_number r) (reg_number q) e) ∙ told q

pub same-half : (h k : Half) → is_same_half h k ≡ true → h ≡ k
same-half Low Low e = refl
same-half Low High e = absurd (true≢false (sym e))
same-half High Low e = absurd (true≢false (sym e))
same-half High High e = refl

same-flag : (f g : FlagName) → is_flag f (flag_of g) ≡ true → f ≡ g
same-flag Cf Cf e = refl
same-flag Zf Zf e = refl
same-flag Sf Sf e = refl
same-flag Of Of e = refl
same-flag f g e = absurd (true≢false (sym e))

flag-self : (f : FlagName) → is_flag f (flag_of f) ≡ true
flag-self Cf = refl
flag-self Zf = refl
flag-self Sf = refl
flag-self Of = refl

-- the test takes no two places for one
pub places-apart : TellsApart is_same_holder
places-apart (held (half_of r h)) (held (half_of q k)) e =
    let parts = and-parts (is_same_register r q) (is_same_half h k) e in
    ap (λ x. held (half_of x h)) (same-register r q parts.0) ∙ ap (λ x. held (half_of q x)) (same-half h k parts.1)
places-apart (held (flag_of f)) (held (flag_of g)) e = ap (λ x. held (flag_of x)) (same-flag f g e)
places-apart (held (half_of r h)) (held (flag_of g)) e = absurd (true≢false (sym e))
places-apart (held (flag_of f)) (held (half_of q k)) e = absurd (true≢false (sym e))
places-apart (in_frame k) (in_frame j) e = ap in_frame ((Decides-int_eq k j).0 e)
places-apart (held l) (in_frame j) e = absurd (true≢false (sym e))
places-apart (in_frame k) (held l) e = absurd (true≢false (sym e))

-- the test takes each place for itself
place-self : (place : Holder) → is_same_holder place place ≡ true
place-self (held (half_of r h)) = and-both (is_same_register r r) (is_same_half h h) (register-self r) (half-self h)
place-self (held (flag_of f)) = flag-self f
place-self (in_frame k) = (Decides-int_eq k k).1 refl

pub places-decided : AreDecided Holder
places-decided x y = go (is_same_holder x y) refl
  where
    go : (b : Bool) → is_same_holder x y ≡ b → (x ≡ y) ⊎ ¬ (x ≡ y)
    go true e = inl (places-apart x y e)
    go false e = inr (λ same. true≢false (sym (place-self x) ∙ ap (is_same_holder x) same ∙ e))

pub preserved-held : WhatIsPreservedIsHeld
preserved-held bodies entry place passed at trail returns preserved =
    (preserved-is_held (procedures_of bodies)).held places-decided entry place passed at trail returns preserved
