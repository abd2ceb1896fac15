-- Two states that agree in all that a location is made of agree in it after the step; two states that differ in one
-- location.
use Rattle.std.proofs.Common.{◌≡◌, ℕ, Bool, true, false, Option, refl, sym, ap, ◌∙◌}
use Rattle.std.specs.Prelude.{not, ◌&&◌}
use Rattle.dcc_run.specs.End.{is_over}
use Rattle.dcc_num.specs.declared.Reg.{Reg}
use Rattle.dcc_num.specs.declared.Half.{Half}
use Rattle.dcc_num.specs.declared.FlagName.{FlagName}
use Rattle.dcc_machine.specs.declared.cpu.Cpu.{Cpu}
use Rattle.dcc_machine.specs.declared.instr.Op.{Op}
use Rattle.dcc_machine.specs.declared.instr.Op.TheVariants.{Shift, Call, Int21}
use Rattle.dcc_machine.specs.Machine.{State}
use Rattle.dcc_machine.specs.Step.{op_step}
use Rattle.dcc_machine.specs.WellFormed.{IsOperation}
use Rattle.dcc_machine.specs.Writes.{writes_half, writes_flag}
use Rattle.dcc_machine.specs.Wanted.{Location, half_of, flag_of, is_by_cl, gives_byte, makes, uses}
use Rattle.dcc_machine.specs.LocationLaws.{half_in, flag_in}
use Rattle.dcc_machine.specs.AlikeLaws.{IsCallNumber, passes, divides_by, AreAlikeFor, is_pushed_of, WhatIsMadeAlikeIsAlike, AgreeBut, OneLocationChangesWhatIsMadeOfIt}
use Rattle.dcc_machine.proofs.LocationKept.{op-half, op-flag}
use Rattle.dcc_machine.proofs.AlikeValues.{AgreeWhere, AreTwo}
use Rattle.dcc_machine.proofs.AlikeHalves.{half-made}
use Rattle.dcc_machine.proofs.AlikeFlags.{flag-made}
use Rattle.dcc_machine.proofs.AlikeUsed.{used-alike}

-- what isn't written keeps what it held

and-none : (a b : Bool) → b ≡ false → not (a && b) ≡ true
and-none true b e = ap not e
and-none false b e = refl

half-passes :
    (op : Op) (number : Option ℕ) (r : Reg) (half : Half) → writes_half op r half ≡ false
    → passes op number (half_of r half) ≡ true
half-passes (Call target) number r half e = refl
half-passes Int21 number r half e = and-none (gives_byte number) (writes_half Int21 r half) e
half-passes op number r half e = ap not e

flag-passes :
    (op : Op) (number : Option ℕ) (flag : FlagName) → writes_flag op flag ≡ false
    → passes op number (flag_of flag) ≡ true
flag-passes (Call target) number flag e = refl
flag-passes (Shift operation a count) number flag e =
    ap (λ b. not (b && not (is_by_cl operation count))) e
flag-passes op number flag e = ap not e

half-either :
    (writes : Bool) (cpu : Cpu) (op : Op) (at : ℕ) (number : Option ℕ) (s t : State) (r : Reg) (half : Half)
    → IsOperation op → AreTwo s t → IsCallNumber op number s → IsCallNumber op number t → writes_half op r half ≡ writes
    → AreAlikeFor op number s t (half_of r half) → is_over (op_step cpu op at s).end ≡ false
    → half_in (op_step cpu op at s) r half ≡ half_in (op_step cpu op at t) r half
half-either true cpu op at number s t r half good two m n e alike goes =
    half-made cpu op at number s t r half good two m n e alike goes
half-either false cpu op at number s t r half good two m n e alike goes =
    op-half cpu op at s r half good two.first e
    ∙ alike.passed (half-passes op number r half e)
    ∙ sym (op-half cpu op at t r half good two.second e)

flag-either :
    (writes : Bool) (cpu : Cpu) (op : Op) (at : ℕ) (number : Option ℕ) (s t : State) (flag : FlagName)
    → IsOperation op → AreTwo s t → writes_flag op flag ≡ writes → AreAlikeFor op number s t (flag_of flag)
    → is_over (op_step cpu op at s).end ≡ false
    → flag_in (op_step cpu op at s).flags flag ≡ flag_in (op_step cpu op at t).flags flag
flag-either true cpu op at number s t flag good two e alike goes = flag-made cpu op at number s t flag two e alike goes
flag-either false cpu op at number s t flag good two e alike goes =
    op-flag cpu op at s flag good e
    ∙ alike.passed (flag-passes op number flag e)
    ∙ sym (op-flag cpu op at t flag good e)

pub made-alike : WhatIsMadeAlikeIsAlike
made-alike cpu op at number s t (half_of r half) good first second beside m n alike goes =
    half-either (writes_half op r half) cpu op at number s t r half good
    (record { first = first; second = second; beside = beside })
    m n refl alike goes
made-alike cpu op at number s t (flag_of flag) good first second beside m n alike goes =
    flag-either (writes_flag op flag) cpu op at number s t flag good
    (record { first = first; second = second; beside = beside })
    refl alike goes

-- Two states that differ in one location.

-- two states that differ in one location agree where a test tells others alone
agree-but :
    (test : Location → Bool) (location : Location) (s t : State) → AgreeBut location s t → test location ≡ false
    → AgreeWhere test s t
agree-but test location s t but none from e =
    but.others from (λ is. let clear : test from ≡ false = ap test is ∙ none in cc)

pub one-location : OneLocationChangesWhatIsMadeOfIt
one-location = record {
  locations = λ cpu op at number s t location to good first second but m n made passed divided goes.
      made-alike cpu op at number s t to good first second but.beside m n
      (record {
        made = agree-but (makes op to) location s t but made;
        passed = λ passes_it. but.others to (λ is. let clear = passed is in cc);
        divided = agree-but (divides_by op) location s t but divided;
      })
      goes;
  outside = λ cpu op at number s t location good first second spares but m n none.
      (used-alike cpu op at number s t good first second spares but.beside m n
      (agree-but (uses op number) location s t but none)).outside;
  memory = λ cpu op at number s t location address good first second spares but m n none apart.
      (used-alike cpu op at number s t good first second spares but.beside m n
      (agree-but (uses op number) location s t but none)).pushed
      address (λ half from is pushed. agree-but (is_pushed_of op half) location s t but (apart half is) from pushed);
}
