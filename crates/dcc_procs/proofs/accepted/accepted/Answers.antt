use Rattle.std.proofs.Common.{◌≡◌, Bool, true, false, not, ◌||◌, refl, sym, ap, ◌∙◌}
use Rattle.dcc_prog.specs.Construct.{is_system, foreign}
use Rattle.dcc_prog.specs.FrameForm.{is_frame_form}
use Rattle.dcc_prog.specs.declared.refusal.ConstructKind.TheVariants.{OutsideProfile}
use Rattle.dcc_procs.proofs.Causes.{construct-here}
use Rattle.dcc_procs.proofs.accepted.accepted.Goals as goal
use Rattle.dcc_procs.proofs.accepted.accepted.Goals.{then-is_system-via-then-is_system, then-is_system-via-else-is_system+then-not-is_frame_form}

or-first : (a b : Bool) → a ≡ true → (a || b) ≡ true
or-first true b e = refl
or-first false b e = let clash = e in cc

or-second : (a b : Bool) → b ≡ true → (a || b) ≡ true
or-second true b e = refl
or-second false b e = e

pub returns-in_default-clause-refused : goal.returns-in_default-clause-refused
returns-in_default-clause-refused c =
    construct-here c.args.image.now c.args.layout.now c.args.entry c.args.at c.args.known c.requires.entry
    c.requires.witnessed
    c.unknown_kind-kind.result (c.unknown_kind-kind.ensures c.args.entry)

pub returns-then-is_system-clause-refused : goal.returns-then-is_system-clause-refused
returns-then-is_system-clause-refused c =
    let image = c.args.image.now in
    let layout = c.args.layout.now in
    let op = c.in-Some.instr.op in
    let is : (is_system op || not (is_frame_form image layout c.args.entry c.args.at op)) ≡ true =
    elim c.then-is_system.branch [
      | then-is_system-via-then-is_system w ↦ or-first (is_system op) _ (sym c.is_system.ensures ∙ w.if-is_system.true)
      | then-is_system-via-else-is_system+then-not-is_frame_form w ↦
          or-second (is_system op) _ (ap not (sym w.is_frame_form.ensures ∙ w.if-not-is_frame_form.true))
    ] in
    construct-here image layout c.args.entry c.args.at c.args.known c.requires.entry c.requires.witnessed OutsideProfile
    (foreign (record { op = op; stands = (c.in-Some.instr, sym c.instruction_in.ensures.found ∙ c.in-Some.is, refl); foreign = is }))
