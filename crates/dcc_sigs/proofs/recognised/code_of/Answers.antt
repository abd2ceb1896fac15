use Rattle.std.proofs.Common.{length, ap, ◌∙◌, arith, length-take}
use Rattle.dcc_machine.proofs.FetchLaws.{image-placed, length-code_of}
use Rattle.dcc_sigs.proofs.recognised.code_of.Goals as goal

pub slice_bounds-result-end : goal.slice_bounds-result-end
slice_bounds-result-end c =
    let image = c.args.image.now in
    let layout = c.args.layout.now in
    let placed = image-placed c.requires.loaded.file image c.requires.loaded.is_image in
    let whole = ap length c.code.ensures.code ∙ length-code_of image placed in
    let end = c.requires.layout.left.code_end in
    let taken = length-take layout.code_end c.code.result.now in
    omega (arith, whole, end, taken)
