use Rattle.std.proofs.Common.{◌*◌, ◌^◌, ap, ◌∙◌}
use Rattle.std.proofs.Math.Nat.{mod-add-mod}
use Rattle.dcc_gen.specs.Draws.{next_state, number_at}
use Rattle.dcc_gen.proofs.draws.Draws.number.Goals as goal

pub returns-clause-drawn : goal.returns-clause-drawn
unfolding next_state number_at
returns-clause-drawn c =
    let state = c.args.self.now.state in
    let next = mod-add-mod (state * 6364136223846793005) (2 ^ 64) 1442695040888963407 in
    (ap (λ s. number_at s c.from.result) next ∙ ap (number_at (next_state state)) c.from.ensures, next)
