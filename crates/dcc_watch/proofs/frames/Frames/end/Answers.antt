use Rattle.std.proofs.Common.{◌≡◌, ◌+◌, drop, sym, ap, ◌∙◌}
use Rattle.std.specs.Vec.{vec_len}
use Rattle.std.proofs.lemmas.List.{drop-drop}
use Rattle.dcc_watch.specs.Kept.{Kept}
use Rattle.dcc_watch.proofs.frames.Frames.end.Goals as goal

pub returns-then-self-len : goal.returns-then-self-len
returns-then-self-len c =
    let next : Kept = record { room = vec_len c.self.inside.items; live = drop (c.self.inside.newest + 1) c.self.inside.items.items } in
    let same : next ≡ record { room = vec_len c.self.inside.items; live = drop 1 (drop c.self.inside.newest c.self.inside.items.items) } =
    ap (λ l. record { room = vec_len c.self.inside.items; live = l }) (sym (drop-drop 1 c.self.inside.newest c.self.inside.items.items)) in
    same ∙ ap (λ (k : Kept). record { room = k.room; live = drop 1 k.live }) c.self.view_is
