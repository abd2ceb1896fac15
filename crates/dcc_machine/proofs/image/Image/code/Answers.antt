use Rattle.std.proofs.Common.{◌≡◌, ◌≤◌, ◌+◌, ◌-◌, ◌*◌, length, take, drop, ap, ◌∙◌, arith, rules}
use Rattle.dcc_machine.specs.Code.{code_of}
use Rattle.dcc_machine.proofs.FetchLaws.{image-placed}
use Rattle.dcc_machine.proofs.image.Image.code.Goals as goal

pub slice_bounds-result-end : goal.slice_bounds-result-end
slice_bounds-result-end c =
    let placed = image-placed c.requires.file c.args.self.now c.requires.is_image in
    let within : c.from-start.result * 16 + c.args.self.now.code_len ≤ length c.deref.result.now =
    omega (arith, placed.within, c.from-start.ensures, c.deref.ensures.len, ap length c.deref.ensures.value) in
    search rules

pub returns-clause-code : goal.returns-clause-code
unfolding code_of
returns-clause-code c =
    let start = c.from-start.result * 16 in
    let len : start + c.args.self.now.code_len - start ≡ c.args.self.now.code_len = omega arith in
    ap (λ n. take n (drop start c.deref.result.now)) len
    ∙ ap (λ b. take c.args.self.now.code_len (drop start b)) c.deref.ensures.value
    ∙ ap (λ n. take c.args.self.now.code_len (drop (n * 16) c.args.self.now.bytes.items)) c.from-start.ensures
