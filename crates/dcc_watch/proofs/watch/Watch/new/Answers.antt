use Rattle.std.proofs.Common.{◌≡◌, [], length, refl, sym, ap, ◌∙◌, subst, arith}
use Rattle.dcc_prog.specs.declared.procedure.Layout.{Layout}
use Rattle.dcc_machine.specs.Machine.{start_state}
use Rattle.dcc_machine.proofs.MzImageLaws.{length-loaded}
use Rattle.dcc_step.specs.Core.{core_of}
use Rattle.dcc_watch.specs.Kept.{Kept}
use Rattle.dcc_watch.specs.Watching.{AllHaveShapes}
use Rattle.dcc_watch.proofs.Inputs.{no_bytes}
use Rattle.dcc_watch.proofs.ShapeLaws.{length-shapes}
use Rattle.dcc_watch.proofs.watch.Watch.new.Goals as goal

pub new-requires : goal.new-requires
new-requires c = omega (arith, length-loaded c.args.image.now c.requires.loaded, c.args.image.now.bytes.ok.0)

pub invariant_of-result : goal.invariant_of-result
invariant_of-result c =
    let image = c.args.image.now in
    let program = c.args.program.now in
    let none : c.in_ok-frames.frames.live ≡ [] = ap (λ (k : Kept). k.live) c.in_ok-frames.ensures in
    let room = ap (λ (k : Kept). k.room) c.in_ok-frames.ensures in
    let cpu : c.copied-layout.result.cpu ≡ program.layout.cpu = ap (λ (l : Layout). l.cpu) c.copied-layout.ensures in
    record {
      table = ap length c.in_ok-shapes.ensures ∙ length-shapes program.procs.items program.cells.frames.items;
      room_is = omega (arith, room);
      known = subst (λ l. AllHaveShapes c.in_ok-shapes.shapes.items l) (sym none) (tt);
      no_frame = λ is. none;
      no_mark = λ is. c.in_ok-written.ensures;
      reached = record {
        image = image;
        program = program;
        input = [];
        run = record { program_is = record { loaded = c.requires.loaded; is_program = c.requires.program }; bytes = no_bytes };
        count = 0;
        stands = record {
          layout = c.copied-layout.ensures;
          shapes = c.in_ok-shapes.ensures;
          machine = sym (c.in_ok-machine.ensures ∙ ap (λ p. core_of p (start_state image [])) cpu);
          stage = refl;
        };
      };
    }
