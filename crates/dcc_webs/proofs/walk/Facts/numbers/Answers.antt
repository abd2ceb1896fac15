use Rattle.std.proofs.Common.{◌+◌, length, refl, sym, subst}
use Rattle.dcc_webs.specs.Names.{names_of}
use Rattle.dcc_webs.specs.Walk.{facts_of}
use Rattle.dcc_webs.proofs.WalkLaws.{BasesBelow, base_step}
use Rattle.dcc_webs.proofs.walk.Facts.numbers.Goals as goal

pub loop-place-preserved : goal.loop-place-preserved
loop-place-preserved c =
    let facts = facts_of c.args.self.now in
    subst (λ b. BasesBelow facts b c.note_block.new.origins.items (c.loop-place.place + 1)) (sym c.in_ok-note_block.ensures.bases)
    (base_step facts c.loop-place.bases.items c.loop-place.origins.items c.note_block.new.origins.items c.loop-place.place (length c.loop-place.origins.items) (names_of c.name_block.new.names) refl c.in_ok-name_block.ensures
    c.in_ok-note_block.ensures.origins c.loop-place.invariant)
