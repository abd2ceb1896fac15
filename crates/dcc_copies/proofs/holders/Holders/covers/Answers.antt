use Rattle.std.proofs.Common.{sym, ◌∙◌}
use Rattle.dcc_copies.specs.Holders.{holders_of}
use Rattle.dcc_copies.proofs.HolderLaws.{covers}
use Rattle.dcc_copies.proofs.holders.Holders.covers.Goals as goal

pub returns-then-hold_others : goal.returns-then-hold_others
returns-then-hold_others c = λ held.
    covers c.args.names.now.of.items (holders_of c.args.self.now) c.args.entries.now c.requires
    (sym c.hold_others.ensures ∙ c.if-hold_others.true) (sym c.hold_entries.ensures ∙ held)
