use Rattle.std.proofs.Common.{refl}
use Rattle.std.proofs.lemmas.Result.{err_from_is_err_and}
use Rattle.dcc_prog.specs.Refused.{by_trails, by_heights, by_frames}
use Rattle.dcc_pipe.proofs.RefusedLaws.{layout-refused, found-by_trails, accepted-all, accepted-sound}
use Rattle.dcc_pipe.proofs.analysis.analyse.Goals as goal

pub returns-in_err-layout-clause-refused : goal.returns-in_err-layout-clause-refused
returns-in_err-layout-clause-refused c =
    let p = err_from_is_err_and c.from_residual.result c.from_residual.ensures.1 in
    rw (p.1, p.2) (layout-refused c.args.cpu c.args.image.now c.in_err-layout.field-0.0 c.in_err-layout.ensures.refused)

pub returns-in_err-procs-clause-refused : goal.returns-in_err-procs-clause-refused
returns-in_err-procs-clause-refused c =
    let p = err_from_is_err_and c.from_residual-in_err-procs.result c.from_residual-in_err-procs.ensures.1 in
    rw (p.1, p.2) (by_trails c.in_ok-layout.ensures.processor c.in_ok-layout.ensures.layout c.in_err-procs.ensures.refused)

pub returns-in_err-heights-clause-refused : goal.returns-in_err-heights-clause-refused
returns-in_err-heights-clause-refused c =
    let image = c.args.image.now in
    let layout = c.in_ok-layout.layout in
    let found = c.in_ok-procs.ensures.found in
    let p = err_from_is_err_and c.from_residual-in_err-heights.result c.from_residual-in_err-heights.ensures.1 in
    rw (p.1, p.2) (by_heights c.in_ok-layout.ensures.processor c.in_ok-layout.ensures.layout
    (found-by_trails image layout c.in_ok-procs.procs.items found) (c.in_err-heights.ensures.refused image layout found))

pub returns-in_err-cells-clause-refused : goal.returns-in_err-cells-clause-refused
returns-in_err-cells-clause-refused c =
    let image = c.args.image.now in
    let layout = c.in_ok-layout.layout in
    let found = c.in_ok-procs.ensures.found in
    let heights = c.in_ok-heights.ensures.heights image layout found in
    let p = err_from_is_err_and c.from_residual-in_err-cells.result c.from_residual-in_err-cells.ensures.1 in
    rw (p.1, p.2) (by_frames c.in_ok-layout.ensures.processor c.in_ok-layout.ensures.layout
    (found-by_trails image layout c.in_ok-procs.procs.items found) heights.accepted
    (c.in_err-cells.ensures.refused image layout (record { found = found; heights_are = heights; delta_is = refl })))

pub returns-clause-program : goal.returns-clause-program
returns-clause-program c =
    let image = c.args.image.now in
    let layout = c.in_ok-layout.layout in
    let found = c.in_ok-procs.ensures.found in
    let heights = c.in_ok-heights.ensures.heights image layout found in record {
      runs_on = c.in_ok-layout.ensures.processor;
      layout = c.in_ok-layout.ensures.layout;
      procs = found;
      heights = heights;
      cells = c.in_ok-cells.ensures.cells image layout (record { found = found; heights_are = heights; delta_is = refl });
    }

pub returns-clause-accepted : goal.returns-clause-accepted
returns-clause-accepted c =
    let image = c.args.image.now in
    let layout = c.in_ok-layout.layout in
    let found = c.in_ok-procs.ensures.found in
    let heights = c.in_ok-heights.ensures.heights image layout found in
    let frames = c.in_ok-cells.ensures.cells image layout (record { found = found; heights_are = heights; delta_is = refl }) in
    accepted-sound c.args.cpu image layout c.in_ok-layout.ensures.processor c.in_ok-layout.ensures.layout
    (accepted-all image layout c.in_ok-procs.procs.items found heights.accepted frames.accepted)
