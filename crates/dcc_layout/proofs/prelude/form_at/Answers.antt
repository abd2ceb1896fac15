use Rattle.std.proofs.Common.{◌≡◌, ℕ, ◌-◌, ◌<◌, ◌≤◌, Bool, true, false, List, length, drop, Some, None, sym, ap, ◌∙◌, subst, arith, length-drop}
use Rattle.std.specs.Prelude.{IfSome}
use Rattle.std.specs.List.{slice_range}
use Rattle.std.specs.Bool.{then_some}
use Rattle.std.proofs.lemmas.Result.{OkIff-decides}
use Rattle.std.proofs.lemmas.List.{take_all}
use Rattle.dcc_machine.specs.declared.cpu.Cpu.{Cpu}
use Rattle.dcc_machine.specs.declared.instr.Instr.{Instr}
use Rattle.dcc_machine.specs.Table.{instruction_at}
use Rattle.dcc_prog.specs.Layout.{is_prelude_form, IsFormAt}
use Rattle.dcc_prog.proofs.PreludeLaws.{form-inside}
use Rattle.dcc_layout.proofs.Casts.{same-number}
use Rattle.dcc_layout.proofs.prelude.form_at.Goals as goal

-- the rest of a list
rest-is : (code : List ℕ) (at : ℕ) → at ≤ length code → slice_range code at (length code) ≡ drop at code
rest-is code at le =
    take_all (length code - at) (drop at code) (let e = length-drop at code in omega arith)

-- the instruction that was found, if it may stand in a prelude
some-form : (cpu : Cpu) (code : List ℕ) (at : ℕ) (instr : Instr) (b : Bool) → instruction_at cpu at (drop at code) ≡ Some instr → b ≡ is_prelude_form instr.op → IfSome (then_some b instr) (IsFormAt cpu code at)
some-form cpu code at instr true found form = record { found = found; form = sym form }
some-form cpu code at instr false found form = tt

no-form : (cpu : Cpu) (code : List ℕ) (at : ℕ) (instr other : Instr) (b : Bool) → instruction_at cpu at (drop at code) ≡ Some instr → b ≡ is_prelude_form instr.op → then_some b instr ≡ None → IsFormAt cpu code at other → ⊥
no-form cpu code at instr other true found form none is = cc
no-form cpu code at instr other false found form none is =
    let both = sym found ∙ is.found in
    let same : instr ≡ other = cc in
    let clash = form ∙ ap (λ (i : Instr). is_prelude_form i.op) same ∙ is.form in
    cc

pub returns-in_err-offset-clause-none : goal.returns-in_err-offset-clause-none
returns-in_err-offset-clause-none c e instr is =
    let inside = form-inside c.args.cpu c.args.code.now c.args.at instr is in
    let fits : c.args.at < 65536 = omega (arith, inside.0, inside.1, c.requires) in
    let decides = OkIff-decides c.try_from.result (c.args.at < 65536) c.args.at c.try_from.ensures in
    let clash = c.in_err-offset.ensures.variant ∙ decides.1 fits in
    cc

pub returns-in_err-get-clause-none : goal.returns-in_err-get-clause-none
returns-in_err-get-clause-none c e instr is =
    let inside = form-inside c.args.cpu c.args.code.now c.args.at instr is in
    let le : c.args.at ≤ length c.args.code.now = omega (arith, inside.0, inside.1) in
    let past = c.in_err-get.ensures.lookup in
    let clash = past.1 (le, omega arith) in
    cc

-- the instruction of the window is that of the code
in-code : (cpu : Cpu) (code window : List ℕ) (at offset : ℕ) (instr : Instr) → at ≤ length code → window ≡ slice_range code at (length code) → offset ≡ at → Some instr ≡ instruction_at cpu offset window → instruction_at cpu at (drop at code) ≡ Some instr
in-code cpu code window at offset instr le w o is =
    ap (λ l. instruction_at cpu at l) (sym (w ∙ rest-is code at le)) ∙ ap (λ n. instruction_at cpu n window) (sym o) ∙ sym is

pub returns-clause-found : goal.returns-clause-found
returns-clause-found c =
    let lookup = c.in_ok-get.ensures.lookup in
    let offset = same-number c.try_from.result c.args.at c.in_ok-offset.offset c.try_from.ensures c.in_ok-offset.ensures.value in
    let found = in-code c.args.cpu c.args.code.now c.in_ok-get.field-0.now c.args.at c.in_ok-offset.offset c.in_ok-instr.instr lookup.0.0 lookup.0.2 offset c.in_ok-instr.ensures.found in
    subst (λ o. IfSome o (IsFormAt c.args.cpu c.args.code.now c.args.at)) (sym c.then_some.ensures) (some-form c.args.cpu c.args.code.now c.args.at c.in_ok-instr.instr c.is_prelude_form.result found c.is_prelude_form.ensures)

pub returns-clause-none : goal.returns-clause-none
returns-clause-none c e instr is =
    let lookup = c.in_ok-get.ensures.lookup in
    let offset = same-number c.try_from.result c.args.at c.in_ok-offset.offset c.try_from.ensures c.in_ok-offset.ensures.value in
    let found = in-code c.args.cpu c.args.code.now c.in_ok-get.field-0.now c.args.at c.in_ok-offset.offset c.in_ok-instr.instr lookup.0.0 lookup.0.2 offset c.in_ok-instr.ensures.found in
    no-form c.args.cpu c.args.code.now c.args.at c.in_ok-instr.instr instr c.is_prelude_form.result found c.is_prelude_form.ensures (sym c.then_some.ensures ∙ e) is
